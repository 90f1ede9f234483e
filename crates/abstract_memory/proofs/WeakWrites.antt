-- Weak writes keep members.
use Rattle.std.proofs.Common.{ℕ, zero, suc, ◌+◌, ◌-◌, ◌*◌, ◌/◌, ◌%◌, ◌<◌, ◌≤◌, ◌≡◌, ◌⊎◌, inl, inr, refl, sym, ap, subst, ◌∙◌, Bool, true, false, List, [], ◌∷◌, length, pos, arith}
use Rattle.std.specs.Prelude.{◌&&◌, nat_eq, if◌then◌else◌}
use Rattle.std.specs.List.{All, Contains, fold}
use Rattle.std.proofs.lemmas.Bool.Decides.{nat_tests}
use Rattle.std.proofs.lemmas.List.Elements.{All-head, All-tail}
use Rattle.std.proofs.lemmas.Nat.{div-add-mod', mod_below}
use Rattle.std.proofs.Math.Nat.{le-div_iff_mul-le, div-lt_iff_lt-mul, div-mul-le_self}
use Rattle.abstract_memory.specs.Kept.{put}
use Rattle.c_memory.specs.declared.cells.Cell.{Cell}
use Rattle.ival.specs.Forms.{Has, step, greatest}
use Rattle.ival.specs.Casts.{cast_of}
use Rattle.ival.specs.declared.forms.Ival.{Ival}
use Rattle.std.proofs.lemmas.Int.{ints}
use Rattle.std.specs.Prelude.{unsigned_abs}
use Rattle.ival.proofs.Keeping.{greatest-member, member-between, divides_trans, divides_from_rem}
use Rattle.avalue.specs.Values.{IsWellFormedValue, PointsIntoObjects}
use Rattle.avalue.specs.declared.value.Value.{Value}
use Rattle.abstract_memory.specs.Values.{all_below, as_written, join_values, loose, loose_join, nothing}
use Rattle.abstract_memory.specs.Objects.{Entry, Object, IsEntry, IsWhole, IsObject, IsWritable, entry_at, listed, lifts, is_within}
use Rattle.abstract_memory.specs.Reads.{IsAccess, offsets_of, is_few, is_regular, is_piece, first_bit, reach}
use Rattle.abstract_memory.specs.Joins.{join, merged_at}
use Rattle.abstract_memory.specs.Writes.{write_strong, write_each, write_weak, written_at, blur, blurred_at, grown_at}
use Rattle.abstract_memory.specs.Members.{Shows, Shown, Fits, HasCells}
use Rattle.abstract_memory.specs.Kept.{WeakWriteKeeps}
use Rattle.abstract_memory.proofs.Tests.{no_true, bool_cases, at_all, both_true, either_true, eq_of}
use Rattle.abstract_memory.proofs.Loose.{Single, loose_kept}
use Rattle.abstract_memory.proofs.Listed.{listed_cells, listed_length}
use Rattle.abstract_memory.proofs.Formed.{loose_bit}
use Rattle.abstract_memory.proofs.Joins.{join_keeps, with_value}
use Rattle.abstract_memory.proofs.Groups.{frame, lifted}
use Rattle.abstract_memory.proofs.Values.{join_has}
use Rattle.abstract_memory.proofs.Writes.{blurred_keeps, inside_put, outside_put, shift_shown, write_keeps, written_shown}
use Rattle.abstract_memory.proofs.Lawfulness.{lift_each, bit_cast, join_is_lawful, write_is_lawful}
use Rattle.abstract_memory.proofs.Offsets.{offset_listed, offsets_fit, reached}
use Rattle.abstract_memory.proofs.Reading.{fold_has, fold_formed, nothing_formed}

strong_length : (o : Object) (at n : ℕ) (v : Value) → length (write_strong o at n v) ≡ length o
strong_length o at n v = listed_length (length o) (written_at (entry_at o) at n (as_written n v))

join_length : (a b : Object) → length (join a b) ≡ length a
join_length a b = listed_length (length a) (merged_at (λ width. join_values) (entry_at a) (entry_at b))

module _ (n : ℕ) (v : Value) (some : 0 < n) (few : n ≤ 64) (value : IsWritable n v) where
  grow : Object → ℕ → Object
  grow o x = join o (write_strong o x n v)

  grow_length : (o : Object) (x : ℕ) → length (grow o x) ≡ length o
  unfolding grow
  grow_length o x = join_length o (write_strong o x n v)

  grow_lawful : (o : Object) (x : ℕ) → IsObject o → x + n ≤ length o → IsObject (grow o x)
  unfolding grow
  grow_lawful o x h l = join_is_lawful o (write_strong o x n v) h (write_is_lawful o x n v h some few l value) (sym (strong_length o x n v))

  grow_stays : (o : Object) (x : ℕ) (m : ℕ → Cell) → IsObject o → x + n ≤ length o → HasCells o m → HasCells (grow o x) m
  unfolding grow
  grow_stays o x m h l f = join_keeps o (write_strong o x n v) m h (write_is_lawful o x n v h some few l value) (sym (strong_length o x n v)) (inl f)

  grow_puts : (o : Object) (x : ℕ) (m c : ℕ → Cell) → IsObject o → x + n ≤ length o → HasCells o m → Shown n v c 0 → HasCells (grow o x) (put m x n c)
  unfolding grow
  grow_puts o x m c h l f s =
      join_keeps o (write_strong o x n v) (put m x n c) h (write_is_lawful o x n v h some few l value) (sym (strong_length o x n v))
      (inr (write_keeps o m c x n v h f some few l value s))

  fits_grown : (o : Object) (x y : ℕ) → y + n ≤ length o → y + n ≤ length (grow o x)
  fits_grown o x y l = subst (λ (k : ℕ). y + n ≤ k) (sym (grow_length o x)) l

  all_grown : (o : Object) (x : ℕ) (xs : List ℕ) → All (λ y. y + n ≤ length o) xs → All (λ y. y + n ≤ length (grow o x)) xs
  all_grown o x xs a = subst (λ (k : ℕ). All (λ y. y + n ≤ k) xs) (sym (grow_length o x)) a

  each_stays : (xs : List ℕ) (o : Object) (m : ℕ → Cell) → IsObject o → All (λ y. y + n ≤ length o) xs → HasCells o m → HasCells (fold grow o xs) m
  each_stays [] o m h a f = f
  each_stays (x ∷ xs) o m h a f =
      let l = All-head (λ y. y + n ≤ length o) x xs a in
      each_stays xs (grow o x) m (grow_lawful o x h l) (all_grown o x xs (All-tail (λ y. y + n ≤ length o) x xs a)) (grow_stays o x m h l f)

  each_puts : (xs : List ℕ) (o : Object) (x : ℕ) (m c : ℕ → Cell) → IsObject o → All (λ y. y + n ≤ length o) xs → Contains xs x → HasCells o m → Shown n v c 0
      → HasCells (fold grow o xs) (put m x n c)
  each_puts [] o x m c h a k f s = absurd (omega (arith, k.1))
  each_puts (y ∷ ys) o x m c h a k f s =
      let l = All-head (λ z. z + n ≤ length o) y ys a in
      let rest = all_grown o y ys (All-tail (λ z. z + n ≤ length o) y ys a) in
      elim (in_cases y ys k) [
        | inl e ↦ each_stays ys (grow o y) (put m x n c) (grow_lawful o y h l) rest (subst (λ (z : ℕ). HasCells (grow o y) (put m z n c)) e (grow_puts o y m c h l f s))
        | inr d ↦ each_puts ys (grow o y) x m c (grow_lawful o y h l) rest d (grow_stays o y m h l f) s
      ]
    where
      in_cases : (y : ℕ) (ys : List ℕ) → Contains (y ∷ ys) x → (y ≡ x) ⊎ Contains ys x
      in_cases y ys (zero, l, e) = inl e
      in_cases y ys (suc k, l, e) = inr (k, omega (arith, l), e)

-- ---- a range, bit by bit

written_formed : (n : ℕ) (v : Value) (b : Bool) → IsWritable n v
    → IsWellFormedValue (if b then record { uninit = v.uninit; dangling = v.dangling; ints = cast_of v.ints 1 false; ptrs = v.ptrs } else v)
    × PointsIntoObjects (if b then record { uninit = v.uninit; dangling = v.dangling; ints = cast_of v.ints 1 false; ptrs = v.ptrs } else v)
written_formed n v true h = (record { ints = (bit_cast v.ints h.formed.ints).0; ptrs = h.formed.ptrs }, h.offsets)
written_formed n v false h = (h.formed, h.offsets)

pub as_formed : (n : ℕ) (v : Value) → IsWritable n v → IsWellFormedValue (as_written n v) × PointsIntoObjects (as_written n v)
as_formed n v h = written_formed n v (nat_eq n 1) h

module _ (v : Value) (n : ℕ) (c : ℕ → Cell) (formed : IsWellFormedValue v) (offsets : PointsIntoObjects v) where
  loose_formed : (j : ℕ) → 0 ≤ j → j < 0 + n → IsWellFormedValue (loose v n j)
  loose_formed j a l = (loose_bit v n j formed offsets).formed

  join_formed_bits : IsWellFormedValue (loose_join v n)
  join_formed_bits = fold_formed (λ j. loose v n j) 0 n nothing nothing_formed loose_formed

  bits_shown : Shown n v c 0 → (j : ℕ) → j < n → Single (loose_join v n) (c j)
  bits_shown s j l =
      let z : 0 + j ≡ j = omega arith in
      let k = loose_kept v n j s.member (c j) l s.is_in (subst (λ (t : ℕ). Shows n s.member j (c t)) z (s.shows j l)) in
      record { member = k.member; shows = k.shows; is_in = fold_has (λ j. loose v n j) 0 n nothing j k.member nothing_formed loose_formed (omega arith) (omega (arith, l)) k.is_in }

blur_keeps : (o : Object) (m c : ℕ → Cell) (at : Ival) (n x : ℕ) (v : Value) → IsObject o → HasCells o m → IsAccess at n (length o) → Has at (pos x)
    → IsWellFormedValue v → PointsIntoObjects v → Shown n v c 0 → HasCells (blur o (first_bit at) (reach at n) (loose_join v n)) (put m x n c)
blur_keeps o m c at n x v h f a i formed offsets s =
    let r = reached at n (length o) x a i in let is = r.is in let room = r.room in
    listed_cells (length o) (blurred_at (entry_at o) (first_bit at) (reach at n) (loose_join v n)) (put m x n c)
    (blurred_keeps (length o) (entry_at o) m c (first_bit at) (reach at n) x n (loose_join v n) h.entries h.whole f (join_formed_bits v n c formed offsets) (omega (arith, is)) (omega (arith, is, room)) (bits_shown v n c formed offsets s))

-- ---- a range, group by group

-- two groups of n bits that begin at multiples of n are one, or apart
apart_groups : (q g n : ℕ) → (q ≡ g) ⊎ ((q * n + n ≤ g * n) ⊎ (g * n + n ≤ q * n))
apart_groups q g n = elim (order q g) [
  | inl e ↦ inl e
  | inr o ↦ inr (elim o [ inl l ↦ inl (more q g l) | inr l ↦ inr (more g q l) ])
]
  where
    order : (q g : ℕ) → (q ≡ g) ⊎ ((q < g) ⊎ (g < q))
    order q g = grind arith

    more : (q g : ℕ) → q < g → q * n + n ≤ g * n
    more q g l = let d = g - q - 1 in let e : g ≡ q + 1 + d = omega (arith, l) in let t : (q + 1 + d) * n ≡ q * n + n + d * n = grind arith in rw e (omega (arith, t))

module _ (size : ℕ) (f : ℕ → Entry) (m c : ℕ → Cell) (lo w n g : ℕ) (v : Value) (each : (x : ℕ) → x < size → IsEntry (f x)) (whole : IsWhole size f) (fits : Fits size f m)
    (value : IsWellFormedValue v) (some : 0 < n) (inside : lo + w ≤ size) (count : ℕ) (is_count : w ≡ count * n)
    (pieces : (q : ℕ) → q < count → is_piece f (lo + q * n) n ≡ true) (here : g < count) (shown : Shown n v c 0) where
  -- the piece of a bit of the range
  piece_of : (y : ℕ) → is_within y lo w ≡ true → (q : ℕ) × (q < count) × (lo + q * n ≤ y) × (y < lo + q * n + n)
  piece_of y e =
      let low : lo ≤ y = grind (arith, nat_tests) in
      let high : y < lo + w = grind (arith, nat_tests) in
      let a = div-mul-le_self (y - lo) n in
      let b = div-add-mod' (y - lo) n in
      let r = mod_below (y - lo) n some in
      ((y - lo) / n, (div-lt_iff_lt-mul some).1 (omega (arith, high, low, is_count)), omega (arith, a, low), omega (arith, b, r, low))

  piece_inside : (q : ℕ) → q < count → lo + q * n + n ≤ lo + w
  piece_inside q l = let a = le-div_iff_mul-le {k = n} {x = q + 1} {y = count * n} some in let d = count - q - 1 in
      let e : count ≡ q + 1 + d = omega (arith, l) in let t : (q + 1 + d) * n ≡ q * n + n + d * n = grind arith in
      let u : count * n ≡ (q + 1 + d) * n = ap (λ (k : ℕ). k * n) e in omega (arith, is_count, t, u)

  piece_shown : (q : ℕ) → q < count → Shown n (f (lo + q * n)).value m (lo + q * n)
  piece_shown q l =
      let room = piece_inside q l in
      elim (either_true (nat_eq (f (lo + q * n)).width n && nat_eq (f (lo + q * n)).place 0) (lifts f (lo + q * n) n) (pieces q l)) [
        | inl t ↦
            let d = both_true (nat_eq (f (lo + q * n)).width n) (nat_eq (f (lo + q * n)).place 0) t in
            subst (λ (k : ℕ). Shown k (f (lo + q * n)).value m (lo + q * n)) (eq_of (f (lo + q * n)).width n d.0)
            (fits (lo + q * n) (omega (arith, room, inside, some)) (eq_of (f (lo + q * n)).place 0 d.1))
        | inr t ↦ lifted size f m each whole fits (lo + q * n) n some (omega (arith, room, inside)) t
      ]

  apart_kept : (q : ℕ) → (lo + q * n + n ≤ lo + g * n) ⊎ (lo + g * n + n ≤ lo + q * n) → (j : ℕ) → j < n → is_within (lo + q * n + j) (lo + g * n) n ≡ false
  apart_kept q (inl h) j l = grind (arith, nat_tests)
  apart_kept q (inr h) j l = grind (arith, nat_tests)

  piece_grown : (q : ℕ) → q < count → Shown n (join_values (f (lo + q * n)).value v) (put m (lo + g * n) n c) (lo + q * n)
  piece_grown q l =
      let room = piece_inside q l in
      let formed = (each (lo + q * n) (omega (arith, room, inside, some))).formed in
      elim (apart_groups q g n) [
        | inl e ↦
            let z : lo + g * n ≡ lo + q * n = ap (λ (k : ℕ). lo + k * n) (sym e) in
            with_value n v (join_values (f (lo + q * n)).value v) (put m (lo + g * n) n c) (lo + q * n) (λ u h. join_has (f (lo + q * n)).value v formed value u (inr h))
            (subst (λ (t : ℕ). Shown n v (put m (lo + g * n) n c) t) z (shift_shown n v c (put m (lo + g * n) n c) (lo + g * n) (inside_put m c (lo + g * n) n) shown))
        | inr o ↦
            with_value n (f (lo + q * n)).value (join_values (f (lo + q * n)).value v) (put m (lo + g * n) n c) (lo + q * n) (λ u h. join_has (f (lo + q * n)).value v formed value u (inl h))
            (frame n (f (lo + q * n)).value m (put m (lo + g * n) n c) (lo + q * n)
            (λ (j : ℕ) (k : j < n). outside_put m c (lo + g * n) n (lo + q * n + j) (apart_kept q (moved q o) j k)) (piece_shown q l))
      ]
    where
      moved : (q : ℕ) → (q * n + n ≤ g * n) ⊎ (g * n + n ≤ q * n) → (lo + q * n + n ≤ lo + g * n) ⊎ (lo + g * n + n ≤ lo + q * n)
      moved q (inl h) = inl (omega (arith, h))
      moved q (inr h) = inr (omega (arith, h))

  -- a group that begins outside of the range has no bit in it
  group_outside : (y j : ℕ) → y < size → is_within y lo w ≡ false → (f y).place ≡ 0 → j < (f y).width → is_within (y + j) lo w ≡ true → ⊥
  group_outside y j l e p k i =
      let r = piece_of (y + j) i in
      let q = r.0 in
      let room = piece_inside q r.1 in
      let own : f ((y + j) - (f y).place) ≡ record { value = (f y).value; width = (f y).width; place = j } = whole.group y j l k in
      let z : (y + j) - (f y).place ≡ y + j = omega (arith, p) in
      let mine : f (y + j) ≡ record { value = (f y).value; width = (f y).width; place = j } = subst (λ (t : ℕ). f t ≡ record { value = (f y).value; width = (f y).width; place = j }) z own in
      let low = r.2 in let high = r.3 in
      elim (either_true (nat_eq (f (lo + q * n)).width n && nat_eq (f (lo + q * n)).place 0) (lifts f (lo + q * n) n) (pieces q r.1)) [
        | inl t ↦
            let d = both_true (nat_eq (f (lo + q * n)).width n) (nat_eq (f (lo + q * n)).place 0) t in
            let wn = eq_of (f (lo + q * n)).width n d.0 in let pn = eq_of (f (lo + q * n)).place 0 d.1 in
            let i : ℕ = (y + j) - (lo + q * n) in
            let less : (y + j) - (lo + q * n) < (f (lo + q * n)).width = omega (arith, wn, low, high) in
            let theirs = whole.group (lo + q * n) ((y + j) - (lo + q * n)) (omega (arith, room, inside, some)) less in
            let s : (lo + q * n + ((y + j) - (lo + q * n))) - (f (lo + q * n)).place ≡ y + j = omega (arith, pn, low) in
            let place : (f (y + j)).place ≡ (y + j) - (lo + q * n) = subst (λ (t : ℕ). (f t).place ≡ (y + j) - (lo + q * n)) s (ap (λ (t : Entry). t.place) theirs) in
            let same : (f (y + j)).place ≡ j = ap (λ (t : Entry). t.place) mine in
            begins y q l e (omega (arith, place, same, low)) room
        | inr t ↦
            let s : lo + q * n + ((y + j) - (lo + q * n)) ≡ y + j = omega (arith, low) in
            let one : (f (y + j)).width ≡ 1 = subst (λ (t : ℕ). (f t).width ≡ 1) s (lift_each f (lo + q * n) n ((y + j) - (lo + q * n)) t (omega (arith, low, high))) in
            let same : (f (y + j)).width ≡ (f y).width = ap (λ (t : Entry). t.width) mine in
            within_itself y j e i (omega (arith, one, same, k))
      ]
    where
      begins : (y q : ℕ) → y < size → is_within y lo w ≡ false → y ≡ lo + q * n → lo + q * n + n ≤ lo + w → ⊥
      begins y q l e z room = clash_within (grind (arith, nat_tests)) e
        where
          clash_within : is_within y lo w ≡ true → is_within y lo w ≡ false → ⊥
          clash_within a b = no_true (sym b ∙ a)

      within_itself : (y j : ℕ) → is_within y lo w ≡ false → is_within (y + j) lo w ≡ true → j ≡ 0 → ⊥
      within_itself y j e i z = no_true (sym e ∙ subst (λ (t : ℕ). is_within t lo w ≡ true) (omega (arith, z)) i)

  far_kept : (y j : ℕ) → is_within (y + j) lo w ≡ false → is_within (y + j) (lo + g * n) n ≡ false
  far_kept y j e = let room = piece_inside g here in grind (arith, nat_tests)

  grown_cases : (y : ℕ) → y < size → (b : Bool) → is_within y lo w ≡ b
      → (if b then record { value = join_values (f (y - (y - lo) % n)).value v; width = n; place = (y - lo) % n } else f y).place ≡ 0
      → Shown (if b then record { value = join_values (f (y - (y - lo) % n)).value v; width = n; place = (y - lo) % n } else f y).width
      (if b then record { value = join_values (f (y - (y - lo) % n)).value v; width = n; place = (y - lo) % n } else f y).value (put m (lo + g * n) n c) y
  unfolding piece_of
  grown_cases y l true e p =
      let r = piece_of y e in
      let b = div-add-mod' (y - lo) n in
      let low : lo ≤ y = grind (arith, nat_tests) in
      let z : y - (y - lo) % n ≡ y = omega (arith, p) in
      let s : lo + (y - lo) / n * n ≡ y = omega (arith, b, p, low) in
      subst (λ (t : ℕ). Shown n (join_values (f t).value v) (put m (lo + g * n) n c) y) (sym z)
      (subst (λ (t : ℕ). Shown n (join_values (f t).value v) (put m (lo + g * n) n c) t) s (piece_grown ((y - lo) / n) r.1))
  grown_cases y l false e p =
      frame (f y).width (f y).value m (put m (lo + g * n) n c) y
      (λ (j : ℕ) (k : j < (f y).width). outside_put m c (lo + g * n) n (y + j)
      (bool_cases (is_within (y + j) (lo + g * n) n ≡ false) (is_within (y + j) lo w) (λ i. absurd (group_outside y j l e p k i)) (λ i. far_kept y j i)))
      (fits y l p)

  pub grown_keeps : Fits size (grown_at f lo w n v) (put m (lo + g * n) n c)
  unfolding grown_at
  grown_keeps y l = grown_cases y l (is_within y lo w) refl

-- all bits that a regular access reaches stand in groups of n bits
record IsTiled (at : Ival) (n : ℕ) : Type 0 where
  count : ℕ
  is : reach at n ≡ count * n

tiled : (at : Ival) (n size : ℕ) → IsAccess at n size → nat_eq (step at % n) 0 ≡ true → IsTiled at n
tiled at n size a e =
    let top = greatest-member at a.ends in
    let between = member-between at (greatest at) a.ends top in
    let low = a.low in
    let z : pos (unsigned_abs (greatest at)) ≡ greatest at = omega (arith, ints, low, between.0) in
    let r = reached at n size (unsigned_abs (greatest at)) a (subst (λ t. Has at t) (sym z) top) in
    let d = divides_trans n (step at) r.far (divides_from_rem n (step at) (eq_of (step at % n) 0 e)) r.steps in
    let is = r.is in let far = d.equal in
    let t : (d.times + 1) * n ≡ d.times * n + n = grind arith in
    record { count = d.times + 1; is = omega (arith, is, far, t) }

groups_keep : (o : Object) (m c : ℕ → Cell) (at : Ival) (n x : ℕ) (v : Value) → IsObject o → HasCells o m → IsAccess at n (length o) → Has at (pos x) → is_regular o at n ≡ true
    → IsWellFormedValue v → Shown n v c 0 → HasCells (listed (length o) (grown_at (entry_at o) (first_bit at) (reach at n) n v)) (put m x n c)
unfolding is_regular
groups_keep o m c at n x v h f a i e formed s =
    let d = both_true (nat_eq (step at % n) 0) (all_below (reach at n / n) (λ g. is_piece (entry_at o) (first_bit at + g * n) n)) e in
    let r = reached at n (length o) x a i in
    let far = divides_trans n (step at) r.far (divides_from_rem n (step at) (eq_of (step at % n) 0 d.0)) r.steps in
    let g = far.times in let is = far.equal in let room = r.room in let inside = r.inside in
    let t = tiled at n (length o) a d.0 in
    let z : first_bit at + g * n ≡ x = sym (r.is ∙ ap (λ (k : ℕ). first_bit at + k) is) in
    let here : g < t.count = few_of g n t.count a.some (let k = t.is in omega (arith, is, room, k)) in
    listed_cells (length o) (grown_at (entry_at o) (first_bit at) (reach at n) n v) (put m x n c)
    (subst (λ (k : ℕ). Fits (length o) (grown_at (entry_at o) (first_bit at) (reach at n) n v) (put m k n c)) z
    (grown_keeps (length o) (entry_at o) m c (first_bit at) (reach at n) n g v h.entries h.whole f formed a.some inside t.count t.is
    (λ (q : ℕ) (l : q < t.count). at_all (reach at n / n) (λ k. is_piece (entry_at o) (first_bit at + k * n) n) d.1 q (below q n t.count (reach at n) a.some t.is l)) here s))
  where
    few_of : (g n count : ℕ) → 0 < n → g * n + n ≤ count * n → g < count
    few_of g n count some l = elim (order g count) [ inl k ↦ k | inr k ↦ absurd (too_many k) ]
      where
        order : (g count : ℕ) → (g < count) ⊎ (count ≤ g)
        order g count = grind arith

        too_many : count ≤ g → ⊥
        too_many k = let e : g ≡ count + (g - count) = omega (arith, k) in let t : (count + (g - count)) * n ≡ count * n + (g - count) * n = grind arith in
            let u : g * n ≡ (count + (g - count)) * n = ap (λ (j : ℕ). j * n) e in omega (arith, t, u, l, some)

    below : (q n count w : ℕ) → 0 < n → w ≡ count * n → q < count → q < w / n
    below q n count w some e l =
        let d = count - q - 1 in let k : count ≡ q + 1 + d = omega (arith, l) in
        let t : (q + 1 + d) * n ≡ (q + 1) * n + d * n = grind arith in
        let u : count * n ≡ (q + 1 + d) * n = ap (λ (j : ℕ). j * n) k in
        let few : q + 1 ≤ w / n = (le-div_iff_mul-le some).1 (omega (arith, e, t, u)) in omega (arith, few)

weak_cases : (o : Object) (m c : ℕ → Cell) (at : Ival) (n x : ℕ) (v : Value) (few regular : Bool) → IsObject o → HasCells o m → IsAccess at n (length o) → n ≤ 64 → IsWritable n v → Has at (pos x)
    → Shown n v c 0 → is_regular o at n ≡ regular
    → HasCells (if few then write_each o (offsets_of at) n v else (if regular then listed (length o) (grown_at (entry_at o) (first_bit at) (reach at n) n (as_written n v))
    else blur o (first_bit at) (reach at n) (loose_join (as_written n v) n))) (put m x n c)
unfolding grow
weak_cases o m c at n x v true regular h f a l w i s e = each_puts n v a.some l w (offsets_of at) o x m c h (offsets_fit at n (length o) a) (offset_listed at x a.ends i) f s
weak_cases o m c at n x v false true h f a l w i s e = groups_keep o m c at n x (as_written n v) h f a i e (as_formed n v w).0 (written_shown n v c w.formed s)
weak_cases o m c at n x v false false h f a l w i s e = let g = as_formed n v w in blur_keeps o m c at n x (as_written n v) h f a i g.0 g.1 (written_shown n v c w.formed s)

pub write_weak_keeps : WeakWriteKeeps
unfolding write_weak
write_weak_keeps o m c at n x v h f a l w i s = weak_cases o m c at n x v (is_few at) (is_regular o at n) h f a l w i s refl
