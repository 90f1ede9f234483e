-- Weak writes give lawful objects.
use Rattle.std.proofs.Common.{ℕ, zero, suc, ◌+◌, ◌-◌, ◌*◌, ◌/◌, ◌%◌, ◌<◌, ◌≤◌, ◌≡◌, inl, inr, refl, sym, ap, subst, ◌∙◌, Bool, true, false, List, [], ◌∷◌, length, pos, arith}
use Rattle.std.specs.Prelude.{◌&&◌, nat_eq, unsigned_abs, if◌then◌else◌}
use Rattle.std.specs.List.{All, fold, range_with_len}
use Rattle.std.proofs.lemmas.Bool.Decides.{nat_tests}
use Rattle.std.proofs.lemmas.Int.{ints}
use Rattle.std.proofs.lemmas.List.Elements.{All-head, All-nil, All-tail}
use Rattle.std.proofs.lemmas.Nat.{div-add-mod', mod-mul-add, mod_below}
use Rattle.std.proofs.Math.Nat.{le-div_iff_mul-le, div-lt_iff_lt-mul, div-mul-le_self}
use Rattle.ival.specs.Forms.{Has, greatest, step}
use Rattle.ival.specs.declared.forms.Ival.{Ival}
use Rattle.ival.proofs.Keeping.{greatest-member, member-between, divides_trans, divides_from_rem}
use Rattle.avalue.specs.Pointers.{AreInObject}
use Rattle.avalue.specs.Values.{IsWellFormedValue, PointsIntoObjects}
use Rattle.avalue.specs.declared.value.Value.{Value}
use Rattle.abstract_memory.specs.Values.{all_below, as_written, join_values, loose, loose_join, nothing}
use Rattle.abstract_memory.specs.Objects.{Entry, Object, IsEntry, IsWhole, IsObject, IsWritable, single, entry_at, listed, is_within, lifts}
use Rattle.abstract_memory.specs.Reads.{IsAccess, first_bit, is_few, is_piece, is_regular, offsets_of, reach}
use Rattle.abstract_memory.specs.Joins.{join, merged_at}
use Rattle.abstract_memory.specs.Writes.{blur, grown_at, write_each, write_strong, write_weak, written_at}
use Rattle.abstract_memory.proofs.Tests.{at_all, both_true, either_true, eq_of, no_true}
use Rattle.abstract_memory.proofs.Formed.{IsBitValue, bit_entry, entry_bit, loose_bit}
use Rattle.abstract_memory.proofs.Joins.{lift_width}
use Rattle.abstract_memory.proofs.Listed.{listed_length}
use Rattle.abstract_memory.proofs.Lawfulness.{IsFit, IsWholeAt, bit_fit, fit_of, join_bit, join_fit, join_is_lawful, lift_each, lift_pointers, listed_object, part, whole_from, write_is_lawful, written_entries}
use Rattle.abstract_memory.proofs.Offsets.{offsets_fit, reached}
use Rattle.abstract_memory.proofs.Reading.{nothing_formed}
use Rattle.abstract_memory.proofs.WeakWrites.{as_formed}
use Rattle.object_laws.specs.Lawful.{WeakWriteIsLawful}
use Rattle.object_laws.proofs.Edges.{blur_is_lawful}

-- ---- one offset after the other

module _ (n : ℕ) (v : Value) (some : 0 < n) (few : n ≤ 64) (value : IsWritable n v) where
  grow : Object → ℕ → Object
  grow o x = join o (write_strong o x n v)

  strong_length : (o : Object) (at : ℕ) → length (write_strong o at n v) ≡ length o
  strong_length o at = listed_length (length o) (written_at (entry_at o) at n (as_written n v))

  grow_length : (o : Object) (x : ℕ) → length (grow o x) ≡ length o
  unfolding grow
  grow_length o x = listed_length (length o) (merged_at (λ width. join_values) (entry_at o) (entry_at (write_strong o x n v)))

  grow_lawful : (o : Object) (x : ℕ) → IsObject o → x + n ≤ length o → IsObject (grow o x)
  unfolding grow
  grow_lawful o x h l = join_is_lawful o (write_strong o x n v) h (write_is_lawful o x n v h some few l value) (sym (strong_length o x))

  each_lawful : (xs : List ℕ) (o : Object) → IsObject o → All (λ y. y + n ≤ length o) xs → IsObject (fold grow o xs)
  each_lawful [] o h a = h
  each_lawful (x ∷ xs) o h a =
      let l = All-head (λ y. y + n ≤ length o) x xs a in
      each_lawful xs (grow o x) (grow_lawful o x h l) (subst (λ (k : ℕ). All (λ y. y + n ≤ k) xs) (sym (grow_length o x)) (All-tail (λ y. y + n ≤ length o) x xs a))

  pub all_lawful : (xs : List ℕ) (o : Object) → IsObject o → All (λ y. y + n ≤ length o) xs → IsObject (write_each o xs n v)
  unfolding grow
  all_lawful xs o h a = each_lawful xs o h a

-- ---- group by group

placed : Value → ℕ → ℕ → Entry
placed v w p = record { value = v; width = w; place = p }

fit_entry : (v : Value) (w p : ℕ) → IsFit w v → p < w → w ≤ 64 → IsEntry (record { value = v; width = w; place = p })
fit_entry v w p h l few = record { formed = h.formed; place = l; width = few; numbers = h.numbers; pointers = h.pointers; offsets = h.offsets }

mod_back : (q n j : ℕ) → j < n → (q * n + j) % n ≡ j
mod_back q n j l = mod-mul-add q n j l

module _ (size : ℕ) (f : ℕ → Entry) (lo w n : ℕ) (v : Value) (each : (x : ℕ) → x < size → IsEntry (f x)) (whole : IsWhole size f)
    (value : IsFit n v) (some : 0 < n) (few : n ≤ 64) (inside : lo + w ≤ size) (count : ℕ) (is_count : w ≡ count * n)
    (pieces : (q : ℕ) → q < count → is_piece f (lo + q * n) n ≡ true) where
  -- the piece of a bit of the range
  piece_of : (y : ℕ) → is_within y lo w ≡ true → (q : ℕ) × (q < count) × (lo + q * n ≤ y) × (y < lo + q * n + n) × (lo + q * n + (y - lo) % n ≡ y)
  piece_of y e =
      let low : lo ≤ y = grind (arith, nat_tests) in
      let high : y < lo + w = grind (arith, nat_tests) in
      let a = div-mul-le_self (y - lo) n in
      let b = div-add-mod' (y - lo) n in
      let r = mod_below (y - lo) n some in
      ((y - lo) / n, (div-lt_iff_lt-mul some).1 (omega (arith, high, low, is_count)), omega (arith, a, low), omega (arith, b, r, low), omega (arith, b, low))

  piece_inside : (q : ℕ) → q < count → lo + q * n + n ≤ lo + w
  piece_inside q l =
      let d = count - q - 1 in
      let e : count ≡ q + 1 + d = omega (arith, l) in let t : (q + 1 + d) * n ≡ q * n + n + d * n = grind arith in
      let u : count * n ≡ (q + 1 + d) * n = ap (λ (k : ℕ). k * n) e in omega (arith, is_count, t, u)

  piece_fit : (q : ℕ) → q < count → IsFit n (f (lo + q * n)).value
  piece_fit q l =
      let room = piece_inside q l in
      let h = each (lo + q * n) (omega (arith, room, inside, some)) in
      elim (either_true (nat_eq (f (lo + q * n)).width n && nat_eq (f (lo + q * n)).place 0) (lifts f (lo + q * n) n) (pieces q l)) [
        | inl t ↦ subst (λ (k : ℕ). IsFit k (f (lo + q * n)).value) (eq_of (f (lo + q * n)).width n (both_true (nat_eq (f (lo + q * n)).width n) (nat_eq (f (lo + q * n)).place 0) t).0) (fit_of (f (lo + q * n)) h)
        | inr t ↦ bit_fit n (f (lo + q * n)).value some (entry_bit (f (lo + q * n)) h (lift_width f (lo + q * n) n some t)) (lift_pointers f (lo + q * n) n some t)
      ]

  at_piece : (y q : ℕ) → lo + q * n + (y - lo) % n ≡ y → y - (y - lo) % n ≡ lo + q * n
  at_piece y q e = omega (arith, e)

  grown_entry : (y : ℕ) → y < size → (b : Bool) → is_within y lo w ≡ b → IsEntry (if b then (record { value = join_values (f (y - (y - lo) % n)).value v; width = n; place = (y - lo) % n }) else f y)
  unfolding piece_of
  grown_entry y l true e =
      let r = piece_of y e in
      let m = mod_below (y - lo) n some in
      fit_entry (join_values (f (y - (y - lo) % n)).value v) n ((y - lo) % n)
      (join_fit n (f (y - (y - lo) % n)).value v (subst (λ (t : ℕ). IsFit n (f t).value) (sym (at_piece y r.0 r.4)) (piece_fit r.0 r.1)) value) m few
  grown_entry y l false e = each y l

  pub grown_entries : (y : ℕ) → y < size → IsEntry (grown_at f lo w n v y)
  unfolding grown_at
  grown_entries y l = grown_entry y l (is_within y lo w) refl

  inner : (y : ℕ) → is_within y lo w ≡ true → grown_at f lo w n v y ≡ placed (join_values (f (y - (y - lo) % n)).value v) n ((y - lo) % n)
  unfolding grown_at placed
  inner y e = rw e refl

  outer : (y : ℕ) → is_within y lo w ≡ false → grown_at f lo w n v y ≡ f y
  unfolding grown_at
  outer y e = rw e refl

  -- a group with a bit outside of the range has no bit in it
  apart : (x j : ℕ) → x < size → is_within x lo w ≡ false → j < (f x).width → is_within ((x + j) - (f x).place) lo w ≡ true → ⊥
  unfolding piece_of
  apart x j l e k i =
      let p = (each x l).place in
      let s = whole.start x l in
      let y : ℕ = (x + j) - (f x).place in
      let r = piece_of ((x + j) - (f x).place) i in
      let room = piece_inside r.0 r.1 in
      let mine = whole.group x j l k in
      let low = r.2 in let high = r.3 in
      let b : lo + r.0 * n < size = omega (arith, room, inside, some) in
      let d : ℕ = ((x + j) - (f x).place) - (lo + r.0 * n) in
      elim (either_true (nat_eq (f (lo + r.0 * n)).width n && nat_eq (f (lo + r.0 * n)).place 0) (lifts f (lo + r.0 * n) n) (pieces r.0 r.1)) [
        | inl t ↦
            let c = both_true (nat_eq (f (lo + r.0 * n)).width n) (nat_eq (f (lo + r.0 * n)).place 0) t in
            let wn = eq_of (f (lo + r.0 * n)).width n c.0 in let pn = eq_of (f (lo + r.0 * n)).place 0 c.1 in
            let theirs = whole.group (lo + r.0 * n) (((x + j) - (f x).place) - (lo + r.0 * n)) b (omega (arith, wn, low, high)) in
            let z : (lo + r.0 * n + (((x + j) - (f x).place) - (lo + r.0 * n))) - (f (lo + r.0 * n)).place ≡ (x + j) - (f x).place = omega (arith, pn, low) in
            let place : (f ((x + j) - (f x).place)).place ≡ ((x + j) - (f x).place) - (lo + r.0 * n) = subst (λ (t : ℕ). (f t).place ≡ ((x + j) - (f x).place) - (lo + r.0 * n)) z (ap (λ (t : Entry). t.place) theirs) in
            let width : (f ((x + j) - (f x).place)).width ≡ (f (lo + r.0 * n)).width = subst (λ (t : ℕ). (f t).width ≡ (f (lo + r.0 * n)).width) z (ap (λ (t : Entry). t.width) theirs) in
            let mw : (f ((x + j) - (f x).place)).width ≡ (f x).width = ap (λ (t : Entry). t.width) mine in
            let mp : (f ((x + j) - (f x).place)).place ≡ j = ap (λ (t : Entry). t.place) mine in
            no_true (sym e ∙ among x (omega (arith, low, place, mp, s)) (omega (arith, room, place, mp, s, width, mw, wn, p, low)))
        | inr t ↦
            let z : lo + r.0 * n + (((x + j) - (f x).place) - (lo + r.0 * n)) ≡ (x + j) - (f x).place = omega (arith, low) in
            let one : (f ((x + j) - (f x).place)).width ≡ 1 = subst (λ (t : ℕ). (f t).width ≡ 1) z (lift_each f (lo + r.0 * n) n (((x + j) - (f x).place) - (lo + r.0 * n)) t (omega (arith, low, high))) in
            let mw : (f ((x + j) - (f x).place)).width ≡ (f x).width = ap (λ (t : Entry). t.width) mine in
            no_true (sym e ∙ subst (λ (t : ℕ). is_within t lo w ≡ true) (let y : (x + j) - (f x).place ≡ x = omega (arith, one, mw, p, k) in y) i)
      ]
    where
      among : (x : ℕ) → lo ≤ x → x < lo + w → is_within x lo w ≡ true
      among x a b = grind (arith, nat_tests)

  not_within : (x j : ℕ) → x < size → is_within x lo w ≡ false → j < (f x).width → (b : Bool) → is_within ((x + j) - (f x).place) lo w ≡ b → b ≡ false
  not_within x j l e k true i = absurd (apart x j l e k i)
  not_within x j l e k false i = refl

  parts : (x : ℕ) → x < size → (b : Bool) → is_within x lo w ≡ b → IsWholeAt size (grown_at f lo w n v) x
  unfolding placed piece_of
  parts x l true e =
      let low : lo ≤ x = grind (arith, nat_tests) in
      let r = piece_of x e in
      let room = piece_inside r.0 r.1 in
      let q = r.4 in
      part size (grown_at f lo w n v) x (placed (join_values (f (x - (x - lo) % n)).value v) n ((x - lo) % n)) (inner x e)
      (omega (arith, q)) (omega (arith, q, room, inside))
      (λ (j : ℕ) (k : j < n).
      (let z : (x + j) - (x - lo) % n ≡ lo + r.0 * n + j = omega (arith, q) in
      let y : ((x + j) - (x - lo) % n) - lo ≡ r.0 * n + j = omega (arith, z) in
      let m : (((x + j) - (x - lo) % n) - lo) % n ≡ j = ap (λ (t : ℕ). t % n) y ∙ mod_back r.0 n j k in
      let i : is_within ((x + j) - (x - lo) % n) lo w ≡ true = among ((x + j) - (x - lo) % n) (omega (arith, z)) (omega (arith, z, k, room)) in
      let back : ((x + j) - (x - lo) % n) - j ≡ x - (x - lo) % n = omega (arith, q, z) in
      inner ((x + j) - (x - lo) % n) i
      ∙ ap (λ (t : ℕ). placed (join_values (f (((x + j) - (x - lo) % n) - t)).value v) n t) m
      ∙ ap (λ (t : ℕ). placed (join_values (f t).value v) n j) back))
    where
      among : (x : ℕ) → lo ≤ x → x < lo + w → is_within x lo w ≡ true
      among x a b = grind (arith, nat_tests)
  parts x l false e =
      part size (grown_at f lo w n v) x (f x) (outer x e) (whole.start x l) (whole.end x l)
      (λ (j : ℕ) (k : j < (f x).width). outer ((x + j) - (f x).place) (not_within x j l e k (is_within ((x + j) - (f x).place) lo w) refl) ∙ whole.group x j l k)

  pub grown_whole : IsWhole size (grown_at f lo w n v)
  grown_whole = whole_from size (grown_at f lo w n v) (λ x l. parts x l (is_within x lo w) refl)

-- ---- the access

record IsTiled (at : Ival) (n : ℕ) : Type 0 where
  count : ℕ
  is : reach at n ≡ count * n

tiled : (at : Ival) (n size : ℕ) → IsAccess at n size → nat_eq (step at % n) 0 ≡ true → IsTiled at n
tiled at n size a e =
    let top = greatest-member at a.ends in
    let between = member-between at (greatest at) a.ends top in
    let low = a.low in
    let z : pos (unsigned_abs (greatest at)) ≡ greatest at = omega (arith, ints, low, between.0) in
    let r = reached at n size (unsigned_abs (greatest at)) a (subst (λ t. Has at t) (sym z) top) in
    let d = divides_trans n (step at) r.far (divides_from_rem n (step at) (eq_of (step at % n) 0 e)) r.steps in
    let is = r.is in let far = d.equal in
    let t : (d.times + 1) * n ≡ d.times * n + n = grind arith in
    record { count = d.times + 1; is = omega (arith, is, far, t) }

reach_inside : (at : Ival) (n size : ℕ) → IsAccess at n size → first_bit at + reach at n ≤ size
reach_inside at n size a =
    let top = greatest-member at a.ends in
    let between = member-between at (greatest at) a.ends top in
    let low = a.low in
    let z : pos (unsigned_abs (greatest at)) ≡ greatest at = omega (arith, ints, low, between.0) in
    (reached at n size (unsigned_abs (greatest at)) a (subst (λ t. Has at t) (sym z) top)).inside

below : (q n count w : ℕ) → 0 < n → w ≡ count * n → q < count → q < w / n
below q n count w some e l =
    let d = count - q - 1 in let k : count ≡ q + 1 + d = omega (arith, l) in
    let t : (q + 1 + d) * n ≡ (q + 1) * n + d * n = grind arith in
    let u : count * n ≡ (q + 1 + d) * n = ap (λ (j : ℕ). j * n) k in
    let few : q + 1 ≤ w / n = (le-div_iff_mul-le some).1 (omega (arith, e, t, u)) in omega (arith, few)

nothing_bit : IsBitValue nothing
nothing_bit = record { formed = nothing_formed; numbers = tt; offsets = All-nil (λ p. AreInObject p.1) }

first_written : (f : ℕ → Entry) (n : ℕ) (v : Value) → is_within 0 0 n ≡ true → written_at f 0 n v 0 ≡ record { value = v; width = n; place = 0 }
unfolding written_at
first_written f n v e = rw e refl

written_one : (n : ℕ) (v : Value) → 0 < n → n ≤ 64 → IsWritable n v → IsEntry (record { value = as_written n v; width = n; place = 0 })
written_one n v some few w =
    let e : is_within 0 0 n ≡ true = grind (arith, nat_tests) in
    subst IsEntry (first_written (λ x. single nothing) n (as_written n v) e) (written_entries n (λ x. single nothing) 0 n v (λ x l. bit_entry nothing nothing_bit) w few 0 some)

written_fit : (n : ℕ) (v : Value) → 0 < n → n ≤ 64 → IsWritable n v → IsFit n (as_written n v)
written_fit n v some few w = fit_of (record { value = as_written n v; width = n; place = 0 }) (written_one n v some few w)

groups_lawful : (o : Object) (at : Ival) (n : ℕ) (v : Value) → IsObject o → IsAccess at n (length o) → n ≤ 64 → is_regular o at n ≡ true → IsFit n v
    → IsObject (listed (length o) (grown_at (entry_at o) (first_bit at) (reach at n) n v))
unfolding is_regular
groups_lawful o at n v h a few e fit =
    let d = both_true (nat_eq (step at % n) 0) (all_below (reach at n / n) (λ g. is_piece (entry_at o) (first_bit at + g * n) n)) e in
    let t = tiled at n (length o) a d.0 in
    let some : 0 < n = a.some in
    let room = reach_inside at n (length o) a in
    let pieces : (q : ℕ) → q < t.count → is_piece (entry_at o) (first_bit at + q * n) n ≡ true =
    λ (q : ℕ) (l : q < t.count). at_all (reach at n / n) (λ k. is_piece (entry_at o) (first_bit at + k * n) n) d.1 q (below q n t.count (reach at n) some t.is l) in
    listed_object (length o) (grown_at (entry_at o) (first_bit at) (reach at n) n v) h.some h.few
    (grown_entries (length o) (entry_at o) (first_bit at) (reach at n) n v h.entries h.whole fit some few room t.count t.is pieces)
    (grown_whole (length o) (entry_at o) (first_bit at) (reach at n) n v h.entries h.whole fit some few room t.count t.is pieces)

-- ---- bit by bit

fold_bit : (g : ℕ → Value) (a c : ℕ) (v : Value) → IsBitValue v → ((j : ℕ) → IsBitValue (g j)) → IsBitValue (fold (λ v j. join_values v (g j)) v (range_with_len a c))
fold_bit g a zero v h k = h
fold_bit g a (suc c) v h k = fold_bit g (a + 1) c (join_values v (g a)) (join_bit v (g a) h (k a)) k

pub loose_join_bit : (v : Value) (n : ℕ) → IsWellFormedValue v → PointsIntoObjects v → IsBitValue (loose_join v n)
loose_join_bit v n h p = fold_bit (λ j. loose v n j) 0 n nothing nothing_bit (λ j. loose_bit v n j h p)

weak_cases : (o : Object) (at : Ival) (n : ℕ) (v : Value) (few regular : Bool) → IsObject o → IsAccess at n (length o) → n ≤ 64 → IsWritable n v → is_regular o at n ≡ regular
    → IsObject (if few then write_each o (offsets_of at) n v else (if regular then listed (length o) (grown_at (entry_at o) (first_bit at) (reach at n) n (as_written n v))
    else blur o (first_bit at) (reach at n) (loose_join (as_written n v) n)))
weak_cases o at n v true regular h a l w e = all_lawful n v a.some l w (offsets_of at) o h (offsets_fit at n (length o) a)
weak_cases o at n v false true h a l w e = groups_lawful o at n (as_written n v) h a l e (written_fit n v a.some l w)
weak_cases o at n v false false h a l w e =
    let g = as_formed n v w in
    blur_is_lawful o (first_bit at) (reach at n) (loose_join (as_written n v) n) h (reach_inside at n (length o) a) (bit_entry (loose_join (as_written n v) n) (loose_join_bit (as_written n v) n g.0 g.1))

pub weak_write_is_lawful : WeakWriteIsLawful
unfolding write_weak
weak_write_is_lawful o at n v h a l w = weak_cases o at n v (is_few at) (is_regular o at n) h a l w refl
