-- Writes and copies keep members.
use Rattle.std.proofs.Common.{ℕ, zero, suc, ◌+◌, ◌-◌, ◌%◌, ◌^◌, ◌<◌, ◌≤◌, ◌≡◌, inl, inr, refl, sym, ap, subst, ◌∙◌, Bool, true, false, ℤ, pos, negsuc, ◌-ℤ◌, ◌≤ℤ◌, length, arith}
use Rattle.std.specs.Prelude.{◌&&◌, nat_eq, nat_lt, nat_le, if◌then◌else◌}
use Rattle.std.proofs.lemmas.Int.{ints}
use Rattle.std.proofs.lemmas.Nat.Bits.{bit_at_lowest}
use Rattle.std.proofs.lemmas.Bool.Decides.{nat_tests}
use Rattle.c_memory.specs.Cells.{bit_of}
use Rattle.abstract_memory.specs.Kept.{put}
use Rattle.c_memory.specs.declared.cells.Cell.{Cell}
use Rattle.c_memory.specs.declared.cells.Cell.TheVariants.{Uninit, Dangling, Bit, Ptr}
use Rattle.ival.specs.Numbers.{residue}
use Rattle.ival.specs.Casts.{cast_of}
use Rattle.ival.specs.Laws.{IsConverted}
use Rattle.ival.proofs.CastMembers.{cast-keeps}
use Rattle.avalue.specs.Members.{Member, uninit, dangling, number, pointer, HasMember}
use Rattle.avalue.specs.Values.{IsWellFormedValue}
use Rattle.avalue.specs.declared.value.Value.{Value}
use Rattle.abstract_memory.specs.Values.{as_written, bit_number, join_values}
use Rattle.abstract_memory.specs.Objects.{Entry, IsEntry, IsWhole, single, entry_at, loosened, meets, lies_in, is_within}
use Rattle.abstract_memory.specs.Writes.{written_at, copied_at, blurred_at}
use Rattle.abstract_memory.specs.Members.{Shows, Shown, Fits}
use Rattle.abstract_memory.specs.Kept.{WriteKeeps, CopyKeeps}
use Rattle.abstract_memory.proofs.Tests.{eq_of}
use Rattle.abstract_memory.proofs.Loose.{Single, one_bit}
use Rattle.abstract_memory.proofs.Listed.{listed_cells}
use Rattle.abstract_memory.proofs.Groups.{frame, one_shown, loosened_shown, loosened_single, loosened_width}
use Rattle.abstract_memory.proofs.Formed.{loosened_formed}
use Rattle.abstract_memory.proofs.Values.{join_has}

-- ---- a single bit that is written

positive_bit : (b : ℕ) → b < 2 → residue (bit_number (nat_eq b 1)) (2 ^ 1) ≡ b
unfolding residue
positive_bit zero l = refl
positive_bit (suc zero) l = refl
positive_bit (suc (suc b)) l = absurd (omega (arith, l))

negative_bit : (b : ℕ) → b < 2 → residue (bit_number (nat_eq b 0)) (2 ^ 1) ≡ 1 - b
unfolding residue
negative_bit zero l = refl
negative_bit (suc zero) l = refl
negative_bit (suc (suc b)) l = absurd (omega (arith, l))

residue_bit : (x : ℤ) → residue (bit_number (bit_of x 0)) (2 ^ 1) ≡ residue x (2 ^ 1)
unfolding residue
residue_bit (pos n) =
    let l : n % 2 < 2 = omega arith in
    ap (λ (b : ℕ). residue (bit_number (nat_eq b 1)) (2 ^ 1)) (bit_at_lowest n) ∙ positive_bit (n % 2) l
residue_bit (negsuc n) =
    let l : n % 2 < 2 = omega arith in
    ap (λ (b : ℕ). residue (bit_number (nat_eq b 0)) (2 ^ 1)) (bit_at_lowest n) ∙ negative_bit (n % 2) l

bit_between : (b : Bool) → (pos 0 ≤ℤ bit_number b) × (bit_number b ≤ℤ (pos (2 ^ 1) -ℤ pos 1))
bit_between true = (omega (arith, ints), omega (arith, ints))
bit_between false = (omega (arith, ints), omega (arith, ints))

converted : (x : ℤ) → IsConverted 1 false x (bit_number (bit_of x 0))
converted x = let b = bit_between (bit_of x 0) in record { above = b.0; below = b.1; class = residue_bit x }

one_written : (v : Value) (c : ℕ → Cell) (u : Member) → IsWellFormedValue v → HasMember v u → ((j : ℕ) → j < 1 → Shows 1 u j (c j))
    → Shown 1 (record { uninit = v.uninit; dangling = v.dangling; ints = cast_of v.ints 1 false; ptrs = v.ptrs }) c 0
unfolding Shows
one_written v c uninit h m s = record { member = uninit; is_in = m; shows = λ (j : ℕ) (l : j < 1). let z : j ≡ 0 + j = omega arith in subst (λ (k : ℕ). c k ≡ Uninit) z (s j l) }
one_written v c dangling h m s = record { member = dangling; is_in = m; shows = λ (j : ℕ) (l : j < 1). let z : j ≡ 0 + j = omega arith in subst (λ (k : ℕ). c k ≡ Dangling) z (s j l) }
one_written v c (number x) h m s = record {
  member = number (bit_number (bit_of x 0));
  is_in = cast-keeps v.ints 1 false h.ints (omega arith) x (bit_number (bit_of x 0)) m (converted x);
  shows = λ (j : ℕ) (l : j < 1).
      let z : 0 ≡ j = omega (arith, l) in let t : 0 ≡ 0 + j = omega (arith, l) in
      subst (λ (k : ℕ). c k ≡ Bit (bit_of (bit_number (bit_of x 0)) j)) t (subst (λ (k : ℕ). c 0 ≡ Bit (bit_of (bit_number (bit_of x 0)) k)) z (s 0 (omega arith) ∙ ap Bit (sym (one_bit (bit_of x 0)))));
}
one_written v c (pointer b o) h m s = record {
  member = pointer b o;
  is_in = m;
  shows = λ (j : ℕ) (l : j < 1).
      let z : j ≡ 0 + j = omega arith in let g = s j l in (g.0, g.1, subst (λ (k : ℕ). c k ≡ Ptr b o g.0) z g.2);
}

written_cases : (n : ℕ) (v : Value) (c : ℕ → Cell) (b : Bool) → nat_eq n 1 ≡ b → IsWellFormedValue v → Shown n v c 0
    → Shown n (if b then record { uninit = v.uninit; dangling = v.dangling; ints = cast_of v.ints 1 false; ptrs = v.ptrs } else v) c 0
written_cases n v c true e h s =
    let w = eq_of n 1 e in
    subst (λ (k : ℕ). Shown k (record { uninit = v.uninit; dangling = v.dangling; ints = cast_of v.ints 1 false; ptrs = v.ptrs }) c 0) (sym w)
    (one_written v c s.member h s.is_in (λ (j : ℕ) (l : j < 1). let z : 0 + j ≡ j = omega arith in
    subst (λ (k : ℕ). Shows 1 s.member j (c k)) z (subst (λ (k : ℕ). Shows k s.member j (c (0 + j))) w (s.shows j (omega (arith, w, l))))))
written_cases n v c false e h s = s

pub written_shown : (n : ℕ) (v : Value) (c : ℕ → Cell) → IsWellFormedValue v → Shown n v c 0 → Shown n (as_written n v) c 0
written_shown n v c h s = written_cases n v c (nat_eq n 1) refl h s

-- ---- what stays outside of the bits that are written

pub inside_put : (m c : ℕ → Cell) (at n j : ℕ) → j < n → c j ≡ put m at n c (at + j)
inside_put m c at n j l =
    let t : (nat_le at (at + j) && nat_lt (at + j) (at + n)) ≡ true = grind (arith, nat_tests) in
    let s : (at + j) - at ≡ j = omega arith in
    rw t (rw s refl)

pub outside_put : (m c : ℕ → Cell) (at n x : ℕ) → is_within x at n ≡ false → m x ≡ put m at n c x
outside_put m c at n x e = rw e refl

abbrev rest_of : (ℕ → Entry) → ℕ → Bool → Entry
rest_of f x near = if near then loosened (f x) else f x

pub shift_shown : (w : ℕ) (v : Value) (c m : ℕ → Cell) (s : ℕ) → ((j : ℕ) → j < w → c j ≡ m (s + j)) → Shown w v c 0 → Shown w v m s
shift_shown w v c m s e h = record {
  member = h.member;
  is_in = h.is_in;
  shows = λ (j : ℕ) (l : j < w). let z : 0 + j ≡ j = omega arith in
      subst (Shows w h.member j) (e j l) (subst (λ (k : ℕ). Shows w h.member j (c k)) z (h.shows j l));
}

module _ (size : ℕ) (f : ℕ → Entry) (m c : ℕ → Cell) (at n : ℕ) (each : (x : ℕ) → x < size → IsEntry (f x)) (whole : IsWhole size f) (fits : Fits size f m) where
  pub rest_kept : (x : ℕ) → x < size → is_within x at n ≡ false → (near : Bool) → meets f x at n ≡ near → (rest_of f x near).place ≡ 0
      → Shown (rest_of f x near).width (rest_of f x near).value (put m at n c) x
  rest_kept x l e true d p =
      let w = loosened_width (f x) in
      frame (loosened (f x)).width (loosened (f x)).value m (put m at n c) x
      (λ (j : ℕ) (k : j < (loosened (f x)).width). let z : x ≡ x + j = omega (arith, w, k) in subst (λ (t : ℕ). m t ≡ put m at n c t) z (outside_put m c at n x e))
      (loosened_shown size f m each whole fits x l)
  rest_kept x l e false d p =
      frame (f x).width (f x).value m (put m at n c) x (λ (j : ℕ) (k : j < (f x).width). outside_put m c at n (x + j) (apart j k)) (fits x l p)
    where
      apart : (j : ℕ) → j < (f x).width → is_within (x + j) at n ≡ false
      apart j k = grind (arith, nat_tests)

  abbrev write_chosen : Value → ℕ → Bool → Bool → Entry
  write_chosen v x inside near = if inside then record { value = v; width = n; place = x - at } else rest_of f x near

  write_cases : (v : Value) → at + n ≤ size → Shown n v c 0 → (x : ℕ) → x < size → (inside near : Bool) → is_within x at n ≡ inside → meets f x at n ≡ near
      → (write_chosen v x inside near).place ≡ 0 → Shown (write_chosen v x inside near).width (write_chosen v x inside near).value (put m at n c) x
  write_cases v b s x l true near e d p =
      let z : at ≡ x = grind (arith, nat_tests) in
      subst (λ (t : ℕ). Shown n v (put m at n c) t) z (shift_shown n v c (put m at n c) at (inside_put m c at n) s)
  write_cases v b s x l false near e d p = rest_kept x l e near d p

  pub written_keeps : (v : Value) → at + n ≤ size → Shown n v c 0 → Fits size (written_at f at n v) (put m at n c)
  unfolding written_at
  written_keeps v b s x l = write_cases v b s x l (is_within x at n) (meets f x at n) refl refl

pub write_keeps : WriteKeeps
write_keeps o m c at n v h fits p q b w s =
    listed_cells (length o) (written_at (entry_at o) at n (as_written n v)) (put m at n c)
    (written_keeps (length o) (entry_at o) m c at n h.entries h.whole fits (as_written n v) b (written_shown n v c w.formed s))

-- ---- copies

module _ (size from_size : ℕ) (f g : ℕ → Entry) (m k : ℕ → Cell) (at to n : ℕ) (ef : (x : ℕ) → x < size → IsEntry (f x)) (eg : (x : ℕ) → x < from_size → IsEntry (g x))
    (wf : IsWhole size f) (wg : IsWhole from_size g) (ff : Fits size f m) (fg : Fits from_size g k) (ends : at + n ≤ from_size) where
  abbrev copied : ℕ → Bool → Entry
  copied y whole = if whole then g y else loosened (g y)

  abbrev copy_chosen : ℕ → Bool → Bool → Bool → Entry
  copy_chosen x inside whole near = if inside then copied (at + (x - to)) whole else rest_of f x near

  copied_cell : (x j : ℕ) → to ≤ x → x + j < to + n → k (at + (x - to) + j) ≡ put m to n (λ i. k (at + i)) (x + j)
  copied_cell x j a b =
      let t : (nat_le to (x + j) && nat_lt (x + j) (to + n)) ≡ true = grind (arith, nat_tests) in
      let s : at + (x - to) + j ≡ at + ((x + j) - to) = omega (arith, a) in
      rw t (ap k s)

  copied_kept : (x : ℕ) → is_within x to n ≡ true → (whole : Bool) → lies_in g (at + (x - to)) at n ≡ whole → (copied (at + (x - to)) whole).place ≡ 0
      → Shown (copied (at + (x - to)) whole).width (copied (at + (x - to)) whole).value (put m to n (λ i. k (at + i))) x
  copied_kept x e true d p =
      let low : to ≤ x = grind (arith, nat_tests) in
      let high : x < to + n = grind (arith, nat_tests) in
      let y = at + (x - to) in
      let fit : y + (g y).width ≤ at + n = grind (arith, nat_tests) in
      let s = fg y (omega (arith, low, high, ends)) p in
      record { member = s.member; is_in = s.is_in; shows = λ (j : ℕ) (l : j < (g y).width). subst (Shows (g y).width s.member j) (copied_cell x j low (omega (arith, fit, l, low))) (s.shows j l) }
  copied_kept x e false d p =
      let low : to ≤ x = grind (arith, nat_tests) in
      let high : x < to + n = grind (arith, nat_tests) in
      let y = at + (x - to) in
      let w = loosened_width (g y) in
      let s = loosened_shown from_size g k eg wg fg y (omega (arith, low, high, ends)) in
      record { member = s.member; is_in = s.is_in; shows = λ (j : ℕ) (l : j < (loosened (g y)).width). subst (Shows (loosened (g y)).width s.member j) (copied_cell x j low (omega (arith, w, l, high))) (s.shows j l) }

  copy_cases : (x : ℕ) → x < size → (inside whole near : Bool) → is_within x to n ≡ inside → lies_in g (at + (x - to)) at n ≡ whole → meets f x to n ≡ near
      → (copy_chosen x inside whole near).place ≡ 0 → Shown (copy_chosen x inside whole near).width (copy_chosen x inside whole near).value (put m to n (λ i. k (at + i))) x
  copy_cases x l true whole near e d r p = copied_kept x e whole d p
  copy_cases x l false whole near e d r p = rest_kept size f m (λ i. k (at + i)) to n ef wf ff x l e near r p

  pub copied_keeps : Fits size (copied_at g at f to n) (put m to n (λ i. k (at + i)))
  unfolding copied_at
  copied_keeps x l = copy_cases x l (is_within x to n) (lies_in g (at + (x - to)) at n) (meets f x to n) refl refl refl

pub copy_keeps : CopyKeeps
copy_keeps from o k m at to n hf ho fg ff a b =
    listed_cells (length o) (copied_at (entry_at from) at (entry_at o) to n) (put m to n (λ i. k (at + i)))
    (copied_keeps (length o) (length from) (entry_at o) (entry_at from) m k at to n ho.entries hf.entries ho.whole hf.whole ff fg a)

-- ---- a single bit that is joined into each bit of a range: n cells there, which each show a member of it, are put

module _ (size : ℕ) (f : ℕ → Entry) (m c : ℕ → Cell) (lo w at n : ℕ) (v : Value) (each : (x : ℕ) → x < size → IsEntry (f x)) (whole : IsWhole size f) (fits : Fits size f m)
    (value : IsWellFormedValue v) (low : lo ≤ at) (high : at + n ≤ lo + w) (shown : (j : ℕ) → j < n → Single v (c j)) where
  abbrev blur_chosen : ℕ → Bool → Bool → Entry
  blur_chosen x inside near = if inside then single (join_values (loosened (f x)).value v) else rest_of f x near

  put_single : (x : ℕ) → x < size → (here : Bool) → is_within x at n ≡ here → Single (join_values (loosened (f x)).value v) (put m at n c x)
  put_single x l true e =
      let a : at ≤ x = grind (arith, nat_tests) in
      let b : x - at < n = grind (arith, nat_tests) in
      let s = shown (x - at) b in
      record { member = s.member; is_in = join_has (loosened (f x)).value v (loosened_formed (f x) (each x l)) value s.member (inr s.is_in); shows = rw e s.shows }
  put_single x l false e =
      let s = loosened_single size f m each whole fits x l in
      record { member = s.member; is_in = join_has (loosened (f x)).value v (loosened_formed (f x) (each x l)) value s.member (inl s.is_in); shows = rw e s.shows }

  far : (x : ℕ) → is_within x lo w ≡ false → is_within x at n ≡ false
  far x e = grind (arith, nat_tests)

  -- outside of the range no cell changes
  same_outside : (x j : ℕ) → x < size → is_within x lo w ≡ false → meets f x lo w ≡ false → j < (f x).width → (f x).place ≡ 0 → m (x + j) ≡ put m at n c (x + j)
  same_outside x j l e d k p = outside_put m c at n (x + j) (apart e d k p)
    where
      apart : is_within x lo w ≡ false → meets f x lo w ≡ false → j < (f x).width → (f x).place ≡ 0 → is_within (x + j) at n ≡ false
      apart e d k p = grind (arith, nat_tests)

  blur_cases : (x : ℕ) → x < size → (inside near : Bool) → is_within x lo w ≡ inside → meets f x lo w ≡ near → (blur_chosen x inside near).place ≡ 0
      → Shown (blur_chosen x inside near).width (blur_chosen x inside near).value (put m at n c) x
  blur_cases x l true near e d p = one_shown (join_values (loosened (f x)).value v) (put m at n c) x (put_single x l (is_within x at n) refl)
  blur_cases x l false true e d p =
      let w = loosened_width (f x) in
      frame (loosened (f x)).width (loosened (f x)).value m (put m at n c) x
      (λ (j : ℕ) (k : j < (loosened (f x)).width). let z : x ≡ x + j = omega (arith, w, k) in subst (λ (t : ℕ). m t ≡ put m at n c t) z (outside_put m c at n x (far x e)))
      (loosened_shown size f m each whole fits x l)
  blur_cases x l false false e d p =
      frame (f x).width (f x).value m (put m at n c) x (λ (j : ℕ) (k : j < (f x).width). same_outside x j l e d k p) (fits x l p)

  pub blurred_keeps : Fits size (blurred_at f lo w v) (put m at n c)
  unfolding blurred_at
  blurred_keeps x l = blur_cases x l (is_within x lo w) (meets f x lo w) refl refl
