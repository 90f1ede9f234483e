-- The operations give lawful objects.
use Rattle.std.proofs.Common.{ℕ, ◌+◌, ◌-◌, ◌^◌, ◌<◌, ◌≤◌, ◌≡◌, ◌≢◌, inl, inr, refl, sym, ap, subst, ◌∙◌, Bool, true, false, List, [], ◌∷◌, length, ℤ, pos, neg_ℤ, ◌-ℤ◌, ◌≤ℤ◌, arith}
use Rattle.std.specs.Prelude.{◌&&◌, not, nat_eq, nat_lt, if◌then◌else◌}
use Rattle.std.specs.List.{All}
use Rattle.std.proofs.lemmas.Int.{ints}
use Rattle.std.proofs.lemmas.Bool.Decides.{nat_tests}
use Rattle.std.proofs.lemmas.List.Elements.{All-nil}
use Rattle.std.specs.Ordering.{int_eq}
use Rattle.std.specs.Prelude.{int_le, map, get_or}
use Rattle.std.proofs.lemmas.List.Elements.{All-cons, Contains-get_or}
use Rattle.ival.specs.Numbers.{gcd}
use Rattle.ival.specs.Casts.{cast_of, cast_range, fits_type, window, wrapped}
use Rattle.ival.specs.Forms.{IsBounded, IsMemberList, IsProgression, IsWellFormed, Within, greatest, hull, is_empty, least, norm, step}
use Rattle.ival.specs.declared.forms.Ival.TheVariants.{Empty, Set, Range, All as Every}
use Rattle.ival.proofs.CastMembers.{wrapped-converted}
use Rattle.ival.proofs.CommonNumbers.{Decides-int_le}
use Rattle.ival.proofs.Keeping.{member-between}
use Rattle.ival.proofs.Operands.{hull-within, norm-within}
use Rattle.ival.proofs.WellFormed.{hull-well_formed, norm-well_formed}
use Rattle.abstract_memory.specs.Lawful.{WriteIsLawful, JoinIsLawful}
use Rattle.ival.specs.declared.forms.Ival.{Ival}
use Rattle.ival.proofs.WidenMembers.{join-within}
use Rattle.avalue.specs.Pointers.{Pointer, merged}
use Rattle.avalue.specs.Values.{IsWellFormedValue, PointsIntoObjects}
use Rattle.avalue.specs.declared.value.Value.{Value}
use Rattle.abstract_memory.specs.Values.{all_zero, as_written, all_below, has_no_pointers, is_plain, is_uninit, is_zero, is_plain, join_values}
use Rattle.abstract_memory.specs.Objects.{IsWritable, Entry, IsEntry, IsWhole, IsObject, single, listed, entry_at, loosened, lifts, start_of, meets, is_within, least_of_bits, greatest_of_bits}
use Rattle.abstract_memory.specs.Joins.{match, merged_at}
use Rattle.abstract_memory.specs.Writes.{written_at}
use Rattle.abstract_memory.proofs.Tests.{no_true, both_true, either_true, and_true, at_all, eq_of, eq_yes, bool_cases}
use Rattle.abstract_memory.proofs.Values.{join_formed, join_offsets}
use Rattle.abstract_memory.proofs.Formed.{IsBitValue, bit_entry, entry_bit, loosened_bit, neg_below, one_below, within_wider}
use Rattle.abstract_memory.proofs.Groups.{loosened_place, loosened_width}
use Rattle.abstract_memory.proofs.Joins.{Rule, lift_width, chosen, entries_as, whole_as}
use Rattle.abstract_memory.proofs.Listed.{listed_at, listed_length}

-- ---- a list of entries

pub listed_object : (n : ℕ) (f : ℕ → Entry) → 0 < n → n ≤ 2 ^ 24 → ((x : ℕ) → x < n → IsEntry (f x)) → IsWhole n f → IsObject (listed n f)
listed_object n f some few each whole = record {
  some = subst (λ (k : ℕ). 0 < k) (sym (listed_length n f)) some;
  few = subst (λ (k : ℕ). k ≤ 2 ^ 24) (sym (listed_length n f)) few;
  entries = λ (x : ℕ) (l : x < length (listed n f)). let k : x < n = subst (λ (z : ℕ). x < z) (listed_length n f) l in subst IsEntry (sym (listed_at n f x k)) (each x k);
  whole = subst (λ (k : ℕ). IsWhole k (entry_at (listed n f))) (sym (listed_length n f)) (record {
    start = λ (x : ℕ) (l : x < n). subst (λ (e : Entry). e.place ≤ x) (sym (listed_at n f x l)) (whole.start x l);
    end = λ (x : ℕ) (l : x < n). subst (λ (e : Entry). (x + e.width) - e.place ≤ n) (sym (listed_at n f x l)) (whole.end x l);
    group = λ (x j : ℕ) (l : x < n) (p : j < (entry_at (listed n f) x).width).
        let e = listed_at n f x l in
        let q : j < (f x).width = subst (λ (t : Entry). j < t.width) e p in
        let s = whole.start x l in let d = whole.end x l in
        let y : (x + j) - (f x).place < n = omega (arith, q, s, d) in
        subst (λ (t : Entry). entry_at (listed n f) ((x + j) - t.place) ≡ record { value = t.value; width = t.width; place = j }) (sym e)
        (listed_at n f ((x + j) - (f x).place) y ∙ whole.group x j l q);
  });
}

-- ---- one bit's part of a whole object

pub record IsWholeAt (size : ℕ) (f : ℕ → Entry) (x : ℕ) : Type 0 where
  pub start : (f x).place ≤ x
  pub end : (x + (f x).width) - (f x).place ≤ size
  pub group : (j : ℕ) → j < (f x).width → f ((x + j) - (f x).place) ≡ record { value = (f x).value; width = (f x).width; place = j }

pub whole_from : (size : ℕ) (f : ℕ → Entry) → ((x : ℕ) → x < size → IsWholeAt size f x) → IsWhole size f
whole_from size f h = record { start = λ x l. (h x l).start; end = λ x l. (h x l).end; group = λ x j l. (h x l).group j }

-- from the entry of the bit to its part
pub part : (size : ℕ) (f : ℕ → Entry) (x : ℕ) (e : Entry) → f x ≡ e → e.place ≤ x → (x + e.width) - e.place ≤ size
    → ((j : ℕ) → j < e.width → f ((x + j) - e.place) ≡ record { value = e.value; width = e.width; place = j }) → IsWholeAt size f x
part size f x e q a b c =
    let r : e ≡ f x = sym q in
    record {
      start = subst (λ (t : Entry). t.place ≤ x) r a;
      end = subst (λ (t : Entry). (x + t.width) - t.place ≤ size) r b;
      group = subst (λ (t : Entry). (j : ℕ) → j < t.width → f ((x + j) - t.place) ≡ record { value = t.value; width = t.width; place = j }) r c;
    }

placed : Value → ℕ → ℕ → Entry
placed v w p = record { value = v; width = w; place = p }

-- a bit by itself stands whole
pub single_part : (size : ℕ) (f : ℕ → Entry) (x : ℕ) (e : Entry) → x < size → f x ≡ e → e.width ≡ 1 → e.place ≡ 0 → IsWholeAt size f x
unfolding placed
single_part size f x e l q w p = part size f x e q (omega (arith, p)) (omega (arith, w, p, l))
    (λ (j : ℕ) (k : j < e.width).
    (let z : x ≡ (x + j) - e.place = omega (arith, k, w, p) in let y : e.place ≡ j = omega (arith, k, w, p) in
    subst (λ (t : ℕ). f t ≡ record { value = e.value; width = e.width; place = j }) z (q ∙ ap (λ (t : ℕ). placed e.value e.width t) y)))

-- ---- a strong write

module _ (size : ℕ) (f : ℕ → Entry) (at n : ℕ) (v : Value) (each : (x : ℕ) → x < size → IsEntry (f x)) (whole : IsWhole size f) (some : 0 < n) (bound : at + n ≤ size) where
  inside : (x : ℕ) → is_within x at n ≡ true → written_at f at n v x ≡ placed v n (x - at)
  unfolding written_at placed
  inside x e = rw e refl

  near : (x : ℕ) → is_within x at n ≡ false → meets f x at n ≡ true → written_at f at n v x ≡ loosened (f x)
  unfolding written_at
  near x e d = rw e (rw d refl)

  far : (x : ℕ) → is_within x at n ≡ false → meets f x at n ≡ false → written_at f at n v x ≡ f x
  unfolding written_at
  far x e d = rw e (rw d refl)

  far_group : (x : ℕ) → x < size → is_within x at n ≡ false → meets f x at n ≡ false → (j : ℕ) → j < (f x).width
      → written_at f at n v ((x + j) - (f x).place) ≡ record { value = (f x).value; width = (f x).width; place = j }
  far_group x l e d j k =
      let p = (each x l).place in
      let s = whole.start x l in
      let g = whole.group x j l k in
      let w : (f ((x + j) - (f x).place)).width ≡ (f x).width = ap (λ (t : Entry). t.width) g in
      let q : (f ((x + j) - (f x).place)).place ≡ j = ap (λ (t : Entry). t.place) g in
      let a : is_within ((x + j) - (f x).place) at n ≡ false = outside (x - (f x).place) (f x).width ((x + j) - (f x).place) some (omega (arith, s)) (omega (arith, s, k)) d in
      let b : meets f ((x + j) - (f x).place) at n ≡ false =
      rw w (rw q (let z : ((x + j) - (f x).place) - j ≡ x - (f x).place = omega (arith, s) in rw z d)) in
      far ((x + j) - (f x).place) a b ∙ g
    where
      outside : (s w y : ℕ) → 0 < n → s ≤ y → y < s + w → (nat_lt s (at + n) && nat_lt at (s + w)) ≡ false → is_within y at n ≡ false
      outside s w y some a b f = grind (arith, nat_tests)

  write_parts : (x : ℕ) → x < size → (b d : Bool) → is_within x at n ≡ b → meets f x at n ≡ d → IsWholeAt size (written_at f at n v) x
  unfolding placed
  write_parts x l true d e m =
      let a : at ≤ x = grind (arith, nat_tests) in
      let b : x < at + n = grind (arith, nat_tests) in
      part size (written_at f at n v) x (placed v n (x - at)) (inside x e) (omega arith) (omega (arith, a, b, bound))
      (λ (j : ℕ) (k : j < n).
      (let z : at + j ≡ (x + j) - (x - at) = omega (arith, a) in
      let i : is_within (at + j) at n ≡ true = grind (arith, nat_tests) in
      let y : (at + j) - at ≡ j = omega arith in
      subst (λ (t : ℕ). written_at f at n v t ≡ placed v n j) z (inside (at + j) i ∙ ap (λ (t : ℕ). placed v n t) y)))
  write_parts x l false true e m = single_part size (written_at f at n v) x (loosened (f x)) l (near x e m) (loosened_width (f x)) (loosened_place (f x) (each x l).place)
  write_parts x l false false e m = part size (written_at f at n v) x (f x) (far x e m) (whole.start x l) (whole.end x l) (far_group x l e m)

  pub written_whole : IsWhole size (written_at f at n v)
  written_whole = whole_from size (written_at f at n v) (λ x l. write_parts x l (is_within x at n) (meets f x at n) refl refl)

pub loosened_is : (e : Entry) → IsEntry e → loosened e ≡ single (loosened e).value
loosened_is e h = entry_is (loosened e) (loosened_width e) (loosened_place e h.place)
  where
    entry_is : (e : Entry) → e.width ≡ 1 → e.place ≡ 0 → e ≡ single e.value
    entry_is e w p = ap (λ (t : ℕ). make e.value t e.place) w ∙ ap (λ (t : ℕ). make e.value 1 t) p
      where
        make : Value → ℕ → ℕ → Entry
        make v w p = record { value = v; width = w; place = p }

pub loosened_entry : (e : Entry) → IsEntry e → IsEntry (loosened e)
loosened_entry e h = subst IsEntry (sym (loosened_is e h)) (bit_entry (loosened e).value (loosened_bit e h))

-- ---- a single bit that is written

bit_within : (x : ℤ) → (pos 0 ≤ℤ wrapped 1 false x) × (wrapped 1 false x ≤ℤ (pos (2 ^ 1) -ℤ pos 1))
bit_within x = let c = wrapped-converted 1 false x (omega arith) in (c.above, c.below)

wrapped_all : (xs : List ℤ) → All (λ x. (pos 0 ≤ℤ x) × (x ≤ℤ (pos (2 ^ 1) -ℤ pos 1))) (map (wrapped 1 false) xs)
wrapped_all [] = All-nil (λ x. (pos 0 ≤ℤ x) × (x ≤ℤ (pos (2 ^ 1) -ℤ pos 1)))
wrapped_all (x ∷ xs) = All-cons (λ y. (pos 0 ≤ℤ y) × (y ≤ℤ (pos (2 ^ 1) -ℤ pos 1))) (wrapped 1 false x) (map (wrapped 1 false) xs) (bit_within x) (wrapped_all xs)

bounded_bit : (x : ℤ) → (pos 0 ≤ℤ x) × (x ≤ℤ (pos (2 ^ 1) -ℤ pos 1)) → IsBounded x
bounded_bit x h = record { above = omega (arith, ints, h.0); below = omega (arith, ints, h.1) }

bit_cast_set : (xs : List ℤ) (b : Bool) → IsMemberList xs → fits_type 1 false (Set xs) ≡ b
    → IsWellFormed (if b then Set xs else hull (map (wrapped 1 false) xs)) × Within (pos 0) (pos (2 ^ 1) -ℤ pos 1) (if b then Set xs else hull (map (wrapped 1 false) xs))
bit_cast_set xs true h e =
    let d = both_true (int_le (pos 0) (least (Set xs))) (int_le (greatest (Set xs)) (pos (2 ^ 1) -ℤ pos 1)) e in
    let low = (Decides-int_le (pos 0) (least (Set xs))).0 d.0 in let high = (Decides-int_le (greatest (Set xs)) (pos (2 ^ 1) -ℤ pos 1)).0 d.1 in
    (h, λ k y l. let m = member-between (Set xs) (get_or xs k y) h (Contains-get_or xs k y l) in (omega (arith, ints, low, m.0), omega (arith, ints, high, m.1)))
bit_cast_set xs false h e = (
  hull-well_formed (map (wrapped 1 false) xs) (λ k d l. bounded_bit (get_or (map (wrapped 1 false) xs) k d) (wrapped_all xs k d l)),
  hull-within (pos 0) (pos (2 ^ 1) -ℤ pos 1) (map (wrapped 1 false) xs) (wrapped_all xs),
)

zero_one_bounded : IsBounded (pos 0) × IsBounded (pos (2 ^ 1) -ℤ pos 1)
zero_one_bounded = (record { above = omega (arith, ints); below = omega (arith, ints) }, record { above = omega (arith, ints); below = omega (arith, ints) })

bit_norm : (lo hi r : ℤ) (m : ℕ) → (pos 0 ≤ℤ lo) × (lo ≤ℤ (pos (2 ^ 1) -ℤ pos 1)) → (pos 0 ≤ℤ hi) × (hi ≤ℤ (pos (2 ^ 1) -ℤ pos 1))
    → IsWellFormed (norm lo hi r m) × Within (pos 0) (pos (2 ^ 1) -ℤ pos 1) (norm lo hi r m)
bit_norm lo hi r m h k = (norm-well_formed lo hi r m (bounded_bit lo h) (bounded_bit hi k), norm-within (pos 0) (pos (2 ^ 1) -ℤ pos 1) lo hi r m h.0 k.1)

zero_in : (pos 0 ≤ℤ pos 0) × (pos 0 ≤ℤ (pos (2 ^ 1) -ℤ pos 1))
zero_in = (omega (arith, ints), omega (arith, ints))

one_in : (pos 0 ≤ℤ (pos (2 ^ 1) -ℤ pos 1)) × ((pos (2 ^ 1) -ℤ pos 1) ≤ℤ (pos (2 ^ 1) -ℤ pos 1))
one_in = (omega (arith, ints), omega (arith, ints))

bit_cast_window : (a : Ival) (b : Bool) → IsWellFormed (if b then norm (wrapped 1 false (least a)) (wrapped 1 false (greatest a)) (wrapped 1 false (least a)) (step a) else norm (pos 0) (pos (2 ^ 1) -ℤ pos 1) (least a) (gcd (step a) (2 ^ 1)))
    × Within (pos 0) (pos (2 ^ 1) -ℤ pos 1) (if b then norm (wrapped 1 false (least a)) (wrapped 1 false (greatest a)) (wrapped 1 false (least a)) (step a) else norm (pos 0) (pos (2 ^ 1) -ℤ pos 1) (least a) (gcd (step a) (2 ^ 1)))
bit_cast_window a true = bit_norm (wrapped 1 false (least a)) (wrapped 1 false (greatest a)) (wrapped 1 false (least a)) (step a) (bit_within (least a)) (bit_within (greatest a))
bit_cast_window a false = bit_norm (pos 0) (pos (2 ^ 1) -ℤ pos 1) (least a) (gcd (step a) (2 ^ 1)) zero_in one_in

bit_cast_range : (lo hi r m : ℤ) (b : Bool) → IsProgression lo hi r m → fits_type 1 false (Range lo hi r m) ≡ b
    → IsWellFormed (if b then Range lo hi r m else cast_range 1 false (Range lo hi r m)) × Within (pos 0) (pos (2 ^ 1) -ℤ pos 1) (if b then Range lo hi r m else cast_range 1 false (Range lo hi r m))
bit_cast_range lo hi r m true h e =
    let d = both_true (int_le (pos 0) lo) (int_le hi (pos (2 ^ 1) -ℤ pos 1)) e in
    (h, ((Decides-int_le (pos 0) lo).0 d.0, (Decides-int_le hi (pos (2 ^ 1) -ℤ pos 1)).0 d.1))
bit_cast_range lo hi r m false h e = bit_cast_window (Range lo hi r m) (int_eq (window 1 false lo) (window 1 false hi))

pub bit_cast : (a : Ival) → IsWellFormed a → IsWellFormed (cast_of a 1 false) × Within (pos 0) (pos (2 ^ 1) -ℤ pos 1) (cast_of a 1 false)
bit_cast Empty h = (tt, tt)
bit_cast (Set xs) h = bit_cast_set xs (fits_type 1 false (Set xs)) h refl
bit_cast (Range lo hi r m) h = bit_cast_range lo hi r m (fits_type 1 false (Range lo hi r m)) h refl
bit_cast Every h = bit_norm (pos 0) (pos (2 ^ 1) -ℤ pos 1) (pos 0) 1 zero_in one_in

written_entry : (n : ℕ) (v : Value) (p : ℕ) (b : Bool) → nat_eq n 1 ≡ b → IsWritable n v → p < n → n ≤ 64
    → IsEntry (placed (if b then record { uninit = v.uninit; dangling = v.dangling; ints = cast_of v.ints 1 false; ptrs = v.ptrs } else v) n p)
unfolding placed
written_entry n v p true e h l few =
    let w = eq_of n 1 e in let c = bit_cast v.ints h.formed.ints in
    record {
      formed = record { ints = c.0; ptrs = h.formed.ptrs };
      place = l;
      width = few;
      numbers = subst (λ (k : ℕ). Within (least_of_bits k) (greatest_of_bits k) (cast_of v.ints 1 false)) (sym w) c.1;
      pointers = λ one. absurd (one w);
      offsets = h.offsets;
    }
written_entry n v p false e h l few = record {
  formed = h.formed;
  place = l;
  width = few;
  pointers = λ one more. h.pointers more;
  offsets = h.offsets;
  numbers = subst (λ (k : ℤ). Within k (greatest_of_bits n) v.ints) (sym (group_least n e)) h.numbers;
}
  where
    group_least : (n : ℕ) → nat_eq n 1 ≡ false → least_of_bits n ≡ neg_ℤ (pos (2 ^ (n - 1)))
    group_least n e = rw e refl

module _ (size : ℕ) (f : ℕ → Entry) (at n : ℕ) (v : Value) (each : (x : ℕ) → x < size → IsEntry (f x)) (value : IsWritable n v) (few : n ≤ 64) where
  write_entries : (x : ℕ) → x < size → (b d : Bool) → is_within x at n ≡ b → IsEntry (if b then placed (as_written n v) n (x - at) else (if d then loosened (f x) else f x))
  write_entries x l true d e = let a : x - at < n = grind (arith, nat_tests) in written_entry n v (x - at) (nat_eq n 1) refl value a few
  write_entries x l false true e = loosened_entry (f x) (each x l)
  write_entries x l false false e = each x l

  pub written_entries : (x : ℕ) → x < size → IsEntry (written_at f at n (as_written n v) x)
  unfolding written_at placed
  written_entries x l = write_entries x l (is_within x at n) (meets f x at n) refl

pub write_is_lawful : WriteIsLawful
write_is_lawful o at n v h some few bound w =
    listed_object (length o) (written_at (entry_at o) at n (as_written n v)) h.some h.few
    (written_entries (length o) (entry_at o) at n v h.entries w few)
    (written_whole (length o) (entry_at o) at n (as_written n v) h.entries h.whole some bound)

-- ---- joins

-- the value of an entry of w bits
pub record IsFit (w : ℕ) (v : Value) : Type 0 where
  pub formed : IsWellFormedValue v
  pub numbers : Within (least_of_bits w) (greatest_of_bits w) v.ints
  pub pointers : w ≢ 1 → w ≢ 64 → v.ptrs ≡ []
  pub offsets : PointsIntoObjects v

-- a rule gives values of entries
abbrev pub Gives : Rule → Type 0
Gives rule = (w : ℕ) (a b : Value) → 0 < w → w ≤ 64 → IsFit w a → IsFit w b → IsFit w (rule w a b)

pub fit_of : (e : Entry) → IsEntry e → IsFit e.width e.value
fit_of e h = record { formed = h.formed; numbers = h.numbers; pointers = h.pointers; offsets = h.offsets }

entry_fit : (v : Value) (w p : ℕ) → IsFit w v → p < w → w ≤ 64 → IsEntry (placed v w p)
unfolding placed
entry_fit v w p h l few = record { formed = h.formed; place = l; width = few; numbers = h.numbers; pointers = h.pointers; offsets = h.offsets }

least_cases : (w : ℕ) (b : Bool) → nat_eq w 1 ≡ b → (if b then pos 0 else neg_ℤ (pos (2 ^ (w - 1)))) ≤ℤ pos 0
least_cases w true e = omega (arith, ints)
least_cases w false e = neg_below (2 ^ (w - 1))

-- the value of a bit without pointers is one of any group
pub bit_fit : (w : ℕ) (v : Value) → 0 < w → IsBitValue v → v.ptrs ≡ [] → IsFit w v
bit_fit w v l h e = record {
  formed = h.formed;
  offsets = h.offsets;
  pointers = λ one more. e;
  numbers = within_wider (pos 0) (pos (2 ^ 1) -ℤ pos 1) (least_of_bits w) (greatest_of_bits w) v.ints (least_cases w (nat_eq w 1) refl) (let t = one_below w l in omega (arith, ints, t)) h.numbers;
}

pub no_pointers : (ps : List Pointer) → has_no_pointers ps ≡ true → ps ≡ []
no_pointers [] e = refl
no_pointers (p ∷ ps) e = absurd (no_true e)

uninit_pointers : (v : Value) → is_uninit v ≡ true → v.ptrs ≡ []
uninit_pointers v e = no_pointers v.ptrs (both_true (v.uninit && not v.dangling && is_empty v.ints) (has_no_pointers v.ptrs) e).1

zero_pointers : (v : Value) → is_zero v ≡ true → v.ptrs ≡ []
zero_pointers v e = no_pointers v.ptrs (both_true (not v.uninit && not v.dangling) (has_no_pointers v.ptrs) (both_true (is_plain v) (all_zero v.ints) e).0).1

pub lift_first : (h : ℕ → Entry) (x w : ℕ) (t : Value → Bool) → 0 < w → all_below w (λ j. nat_eq (h (x + j)).width 1 && t (h (x + j)).value) ≡ true → t (h x).value ≡ true
lift_first h x w t p e =
    let d = both_true (nat_eq (h (x + 0)).width 1) (t (h (x + 0)).value) (at_all w (λ j. nat_eq (h (x + j)).width 1 && t (h (x + j)).value) e 0 p) in
    let z : x + 0 ≡ x = omega arith in
    subst (λ (y : ℕ). t (h y).value ≡ true) z d.1

pub lift_pointers : (h : ℕ → Entry) (x w : ℕ) → 0 < w → lifts h x w ≡ true → (h x).value.ptrs ≡ []
unfolding lifts
lift_pointers h x w p e =
    elim (either_true (all_below w (λ j. nat_eq (h (x + j)).width 1 && is_uninit (h (x + j)).value)) (all_below w (λ j. nat_eq (h (x + j)).width 1 && is_zero (h (x + j)).value)) e)
    [ inl d ↦ uninit_pointers (h x).value (lift_first h x w is_uninit p d) | inr d ↦ zero_pointers (h x).value (lift_first h x w is_zero p d) ]

join_numbers : (low high : ℤ) (a b : Value) → IsWellFormedValue a → IsWellFormedValue b → Within low high a.ints → Within low high b.ints → Within low high (join_values a b).ints
unfolding join_values
join_numbers low high a b h k p q = join-within low high a.ints b.ints h.ints k.ints p q

join_pointers : (a b : Value) → a.ptrs ≡ [] → b.ptrs ≡ [] → (join_values a b).ptrs ≡ []
unfolding join_values merged
join_pointers a b p q = rw p (rw q refl)

pub join_bit : (a b : Value) → IsBitValue a → IsBitValue b → IsBitValue (join_values a b)
join_bit a b h k = record {
  formed = join_formed a b h.formed k.formed;
  offsets = join_offsets a b h.formed k.formed h.offsets k.offsets;
  numbers = join_numbers (pos 0) (pos (2 ^ 1) -ℤ pos 1) a b h.formed k.formed h.numbers k.numbers;
}

pub join_fit : (w : ℕ) (a b : Value) → IsFit w a → IsFit w b → IsFit w (join_values a b)
join_fit w a b h k = record {
  formed = join_formed a b h.formed k.formed;
  offsets = join_offsets a b h.formed k.formed h.offsets k.offsets;
  numbers = join_numbers (least_of_bits w) (greatest_of_bits w) a b h.formed k.formed h.numbers k.numbers;
  pointers = λ one more. join_pointers a b (h.pointers one more) (k.pointers one more);
}

pub lift_each : (h : ℕ → Entry) (s w j : ℕ) → lifts h s w ≡ true → j < w → (h (s + j)).width ≡ 1
unfolding lifts
lift_each h s w j e l =
    elim (either_true (all_below w (λ j. nat_eq (h (s + j)).width 1 && is_uninit (h (s + j)).value)) (all_below w (λ j. nat_eq (h (s + j)).width 1 && is_zero (h (s + j)).value)) e) [
      | inl d ↦ eq_of (h (s + j)).width 1 (both_true (nat_eq (h (s + j)).width 1) (is_uninit (h (s + j)).value) (at_all w (λ j. nat_eq (h (s + j)).width 1 && is_uninit (h (s + j)).value) d j l)).0
      | inr d ↦ eq_of (h (s + j)).width 1 (both_true (nat_eq (h (s + j)).width 1) (is_zero (h (s + j)).value) (at_all w (λ j. nat_eq (h (s + j)).width 1 && is_zero (h (s + j)).value) d j l)).0
    ]

module _ (rule : Rule) (size : ℕ) (f g : ℕ → Entry) (ef : (x : ℕ) → x < size → IsEntry (f x)) (eg : (x : ℕ) → x < size → IsEntry (g x))
    (wf : IsWhole size f) (wg : IsWhole size g) (gives : Gives rule) where
  start_in : (h : ℕ → Entry) → IsWhole size h → (x : ℕ) → x < size → start_of h x < size
  start_in h w x l = omega (arith, l)

  over_fit : (x : ℕ) → x < size → lifts g (start_of f x) (f x).width ≡ true → IsFit (f x).width (g (start_of f x)).value
  over_fit x l e =
      let some : 0 < (f x).width = omega (arith, (ef x l).place) in
      let s = start_in f wf x l in
      bit_fit (f x).width (g (start_of f x)).value some (entry_bit (g (start_of f x)) (eg (start_of f x) s) (lift_width g (start_of f x) (f x).width some e)) (lift_pointers g (start_of f x) (f x).width some e)

  under_fit : (x : ℕ) → x < size → lifts f (start_of g x) (g x).width ≡ true → IsFit (g x).width (f (start_of g x)).value
  under_fit x l e =
      let some : 0 < (g x).width = omega (arith, (eg x l).place) in
      let s = start_in g wg x l in
      bit_fit (g x).width (f (start_of g x)).value some (entry_bit (f (start_of g x)) (ef (start_of g x) s) (lift_width f (start_of g x) (g x).width some e)) (lift_pointers f (start_of g x) (g x).width some e)

  merge_entries : (x : ℕ) → x < size → (same over under : Bool) → match (f x) (g x) ≡ same → lifts g (start_of f x) (f x).width ≡ over → lifts f (start_of g x) (g x).width ≡ under
      → IsEntry (chosen rule f g x same over under)
  unfolding placed
  merge_entries x l true over under e o n =
      let i = ef x l in let d = both_true (nat_eq (f x).width (g x).width) (nat_eq (f x).place (g x).place) e in
      let w = eq_of (f x).width (g x).width d.0 in
      entry_fit (rule (f x).width (f x).value (g x).value) (f x).width (f x).place
      (gives (f x).width (f x).value (g x).value (omega (arith, i.place)) i.width (fit_of (f x) i) (subst (λ (t : ℕ). IsFit t (g x).value) (sym w) (fit_of (g x) (eg x l)))) i.place i.width
  merge_entries x l false true under e o n =
      let i = ef x l in
      entry_fit (rule (f x).width (f x).value (g (start_of f x)).value) (f x).width (f x).place
      (gives (f x).width (f x).value (g (start_of f x)).value (omega (arith, i.place)) i.width (fit_of (f x) i) (over_fit x l o)) i.place i.width
  merge_entries x l false false true e o n =
      let i = eg x l in
      entry_fit (rule (g x).width (f (start_of g x)).value (g x).value) (g x).width (g x).place
      (gives (g x).width (f (start_of g x)).value (g x).value (omega (arith, i.place)) i.width (under_fit x l n) (fit_of (g x) i)) i.place i.width
  merge_entries x l false false false e o n = bit_entry (join_values (loosened (f x)).value (loosened (g x)).value) (join_bit (loosened (f x)).value (loosened (g x)).value (loosened_bit (f x) (ef x l)) (loosened_bit (g x) (eg x l)))

  pub merged_entries : (x : ℕ) → x < size → IsEntry (merged_at rule f g x)
  unfolding merged_at
  merged_entries x l = merge_entries x l (match (f x) (g x)) (lifts g (start_of f x) (f x).width) (lifts f (start_of g x) (g x).width) refl refl refl

  -- ---- groups stay whole

  at_match : (x : ℕ) → match (f x) (g x) ≡ true → merged_at rule f g x ≡ record { value = rule (f x).width (f x).value (g x).value; width = (f x).width; place = (f x).place }
  unfolding merged_at
  at_match x e = rw e refl

  at_over : (x : ℕ) → match (f x) (g x) ≡ false → lifts g (start_of f x) (f x).width ≡ true
      → merged_at rule f g x ≡ record { value = rule (f x).width (f x).value (g (start_of f x)).value; width = (f x).width; place = (f x).place }
  unfolding merged_at
  at_over x e o = rw e (rw o refl)

  at_under : (x : ℕ) → match (f x) (g x) ≡ false → lifts g (start_of f x) (f x).width ≡ false → lifts f (start_of g x) (g x).width ≡ true
      → merged_at rule f g x ≡ record { value = rule (g x).width (f (start_of g x)).value (g x).value; width = (g x).width; place = (g x).place }
  unfolding merged_at
  at_under x e o n = rw e (rw o (rw n refl))

  at_none : (x : ℕ) → match (f x) (g x) ≡ false → lifts g (start_of f x) (f x).width ≡ false → lifts f (start_of g x) (g x).width ≡ false
      → merged_at rule f g x ≡ single (join_values (loosened (f x)).value (loosened (g x)).value)
  unfolding merged_at
  at_none x e o n = rw e (rw o (rw n refl))

  -- a bit of a group of more than one bit doesn't match a single one
  no_match : (e d : Entry) → e.width ≢ d.width → match e d ≡ false
  no_match e d n = bool_cases (match e d ≡ false) (match e d) (λ t. absurd (n (eq_of e.width d.width (both_true (nat_eq e.width d.width) (nat_eq e.place d.place) t).0))) (λ t. t)

  match_yes : (e d : Entry) → e.width ≡ d.width → e.place ≡ d.place → match e d ≡ true
  match_yes e d w p = and_true (nat_eq e.width d.width) (nat_eq e.place d.place) (eq_yes e.width d.width w) (eq_yes e.place d.place p)

  match_group : (x : ℕ) → x < size → match (f x) (g x) ≡ true → (j : ℕ) → j < (f x).width
      → merged_at rule f g ((x + j) - (f x).place) ≡ record { value = rule (f x).width (f x).value (g x).value; width = (f x).width; place = j }
  unfolding placed
  match_group x l e j k =
      let d = both_true (nat_eq (f x).width (g x).width) (nat_eq (f x).place (g x).place) e in
      let w = eq_of (f x).width (g x).width d.0 in let p = eq_of (f x).place (g x).place d.1 in
      let a = wf.group x j l k in
      let b : g ((x + j) - (f x).place) ≡ record { value = (g x).value; width = (g x).width; place = j } = subst (λ (t : ℕ). g ((x + j) - t) ≡ record { value = (g x).value; width = (g x).width; place = j }) (sym p) (wg.group x j l (subst (λ (t : ℕ). j < t) w k)) in
      let y : ℕ = (x + j) - (f x).place in
      let m : match (f ((x + j) - (f x).place)) (g ((x + j) - (f x).place)) ≡ true =
      match_yes (f ((x + j) - (f x).place)) (g ((x + j) - (f x).place)) (ap (λ (t : Entry). t.width) a ∙ w ∙ sym (ap (λ (t : Entry). t.width) b)) (ap (λ (t : Entry). t.place) a ∙ sym (ap (λ (t : Entry). t.place) b)) in
      at_match ((x + j) - (f x).place) m
      ∙ ap (λ (t : Entry). build t (g ((x + j) - (f x).place)).value) a
      ∙ ap (λ (t : Entry). build (placed (f x).value (f x).width j) t.value) b
    where
      build : Entry → Value → Entry
      build t v = record { value = rule t.width t.value v; width = t.width; place = t.place }

  -- a group against bits that lift has more than one bit
  over_wide : (x : ℕ) → x < size → match (f x) (g x) ≡ false → lifts g (start_of f x) (f x).width ≡ true → (f x).width ≢ 1
  over_wide x l e o w =
      let p = (ef x l).place in let q = (eg x l).place in
      let z : start_of f x ≡ x = omega (arith, p, w) in
      let some : 0 < (f x).width = omega (arith, p) in
      let v : (g x).width ≡ 1 = subst (λ (t : ℕ). (g t).width ≡ 1) z (lift_width g (start_of f x) (f x).width some o) in
      no_true (sym e ∙ match_yes (f x) (g x) (w ∙ sym v) (omega (arith, p, q, w, v)))

  under_wide : (x : ℕ) → x < size → match (f x) (g x) ≡ false → lifts f (start_of g x) (g x).width ≡ true → (g x).width ≢ 1
  under_wide x l e n w =
      let p = (ef x l).place in let q = (eg x l).place in
      let z : start_of g x ≡ x = omega (arith, q, w) in
      let some : 0 < (g x).width = omega (arith, q) in
      let v : (f x).width ≡ 1 = subst (λ (t : ℕ). (f t).width ≡ 1) z (lift_width f (start_of g x) (g x).width some n) in
      no_true (sym e ∙ match_yes (f x) (g x) (v ∙ sym w) (omega (arith, p, q, w, v)))

  over_group : (x : ℕ) → x < size → match (f x) (g x) ≡ false → lifts g (start_of f x) (f x).width ≡ true → (j : ℕ) → j < (f x).width
      → merged_at rule f g ((x + j) - (f x).place) ≡ record { value = rule (f x).width (f x).value (g (start_of f x)).value; width = (f x).width; place = j }
  over_group x l e o j k =
      let s = wf.start x l in
      let a = wf.group x j l k in
      let wide = over_wide x l e o in
      let pw : (f ((x + j) - (f x).place)).width ≡ (f x).width = ap (λ (t : Entry). t.width) a in
      let pp : (f ((x + j) - (f x).place)).place ≡ j = ap (λ (t : Entry). t.place) a in
      let there : start_of f x + j ≡ (x + j) - (f x).place = omega (arith, s) in
      let gw : (g ((x + j) - (f x).place)).width ≡ 1 = subst (λ (t : ℕ). (g t).width ≡ 1) there (lift_each g (start_of f x) (f x).width j o k) in
      let begin : start_of f ((x + j) - (f x).place) ≡ start_of f x = omega (arith, pp, s) in
      let n : match (f ((x + j) - (f x).place)) (g ((x + j) - (f x).place)) ≡ false = no_match (f ((x + j) - (f x).place)) (g ((x + j) - (f x).place)) (λ t. wide (sym pw ∙ t ∙ gw)) in
      let m : lifts g (start_of f ((x + j) - (f x).place)) (f ((x + j) - (f x).place)).width ≡ true = subst (λ (t : ℕ). lifts g t (f ((x + j) - (f x).place)).width ≡ true) (sym begin) (subst (λ (t : ℕ). lifts g (start_of f x) t ≡ true) (sym pw) o) in
      at_over ((x + j) - (f x).place) n m
      ∙ ap (λ (t : ℕ). build (f ((x + j) - (f x).place)) (g t).value) begin
      ∙ ap (λ (t : Entry). build t (g (start_of f x)).value) a
    where
      build : Entry → Value → Entry
      build t v = record { value = rule t.width t.value v; width = t.width; place = t.place }

  under_group : (x : ℕ) → x < size → match (f x) (g x) ≡ false → lifts f (start_of g x) (g x).width ≡ true → (j : ℕ) → j < (g x).width
      → merged_at rule f g ((x + j) - (g x).place) ≡ record { value = rule (g x).width (f (start_of g x)).value (g x).value; width = (g x).width; place = j }
  under_group x l e n j k =
      let s = wg.start x l in let d = wg.end x l in
      let a = wg.group x j l k in
      let wide = under_wide x l e n in
      let pw : (g ((x + j) - (g x).place)).width ≡ (g x).width = ap (λ (t : Entry). t.width) a in
      let pp : (g ((x + j) - (g x).place)).place ≡ j = ap (λ (t : Entry). t.place) a in
      let there : start_of g x + j ≡ (x + j) - (g x).place = omega (arith, s) in
      let fw : (f ((x + j) - (g x).place)).width ≡ 1 = subst (λ (t : ℕ). (f t).width ≡ 1) there (lift_each f (start_of g x) (g x).width j n k) in
      let inside : (x + j) - (g x).place < size = omega (arith, s, d, k) in
      let fp = (ef ((x + j) - (g x).place) inside).place in
      let begin : start_of g ((x + j) - (g x).place) ≡ start_of g x = omega (arith, pp, s) in
      let own : start_of f ((x + j) - (g x).place) ≡ (x + j) - (g x).place = omega (arith, fp, fw) in
      let q : match (f ((x + j) - (g x).place)) (g ((x + j) - (g x).place)) ≡ false = no_match (f ((x + j) - (g x).place)) (g ((x + j) - (g x).place)) (λ t. wide (sym pw ∙ sym t ∙ fw)) in
      let no : lifts g (start_of f ((x + j) - (g x).place)) (f ((x + j) - (g x).place)).width ≡ false =
      bool_cases (lifts g (start_of f ((x + j) - (g x).place)) (f ((x + j) - (g x).place)).width ≡ false) (lifts g (start_of f ((x + j) - (g x).place)) (f ((x + j) - (g x).place)).width)
      (λ t. absurd (wide (sym pw ∙ subst (λ (i : ℕ). (g i).width ≡ 1) own (lift_width g (start_of f ((x + j) - (g x).place)) (f ((x + j) - (g x).place)).width (omega (arith, fp)) t)))) (λ t. t) in
      let m : lifts f (start_of g ((x + j) - (g x).place)) (g ((x + j) - (g x).place)).width ≡ true = subst (λ (t : ℕ). lifts f t (g ((x + j) - (g x).place)).width ≡ true) (sym begin) (subst (λ (t : ℕ). lifts f (start_of g x) t ≡ true) (sym pw) n) in
      at_under ((x + j) - (g x).place) q no m
      ∙ ap (λ (t : ℕ). build (g ((x + j) - (g x).place)) (f t).value) begin
      ∙ ap (λ (t : Entry). build t (f (start_of g x)).value) a
    where
      build : Entry → Value → Entry
      build t v = record { value = rule t.width v t.value; width = t.width; place = t.place }

  merge_parts : (x : ℕ) → x < size → (same over under : Bool) → match (f x) (g x) ≡ same → lifts g (start_of f x) (f x).width ≡ over → lifts f (start_of g x) (g x).width ≡ under
      → IsWholeAt size (merged_at rule f g) x
  merge_parts x l true over under e o n =
      part size (merged_at rule f g) x (record { value = rule (f x).width (f x).value (g x).value; width = (f x).width; place = (f x).place }) (at_match x e) (wf.start x l) (wf.end x l) (match_group x l e)
  merge_parts x l false true under e o n =
      part size (merged_at rule f g) x (record { value = rule (f x).width (f x).value (g (start_of f x)).value; width = (f x).width; place = (f x).place }) (at_over x e o) (wf.start x l) (wf.end x l) (over_group x l e o)
  merge_parts x l false false true e o n =
      part size (merged_at rule f g) x (record { value = rule (g x).width (f (start_of g x)).value (g x).value; width = (g x).width; place = (g x).place }) (at_under x e o n) (wg.start x l) (wg.end x l) (under_group x l e n)
  merge_parts x l false false false e o n =
      single_part size (merged_at rule f g) x (single (join_values (loosened (f x)).value (loosened (g x)).value)) l (at_none x e o n) refl refl

  pub merged_whole : IsWhole size (merged_at rule f g)
  merged_whole = whole_from size (merged_at rule f g) (λ x l. merge_parts x l (match (f x) (g x)) (lifts g (start_of f x) (f x).width) (lifts f (start_of g x) (g x).width) refl refl refl)

join_gives : Gives (λ w. join_values)
join_gives w a b p q h k = join_fit w a b h k

pub join_is_lawful : JoinIsLawful
join_is_lawful a b ha hb e =
    listed_object (length a) (merged_at (λ w. join_values) (entry_at a) (entry_at b)) ha.some ha.few
    (merged_entries (λ w. join_values) (length a) (entry_at a) (entry_at b) ha.entries (entries_as a b hb e) ha.whole (whole_as a b hb e) join_gives)
    (merged_whole (λ w. join_values) (length a) (entry_at a) (entry_at b) ha.entries (entries_as a b hb e) ha.whole (whole_as a b hb e) join_gives)
