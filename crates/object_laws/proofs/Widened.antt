-- Widenings and escapes give lawful objects.
use Rattle.std.proofs.Common.{ℕ, ◌-◌, ◌^◌, ◌<◌, ◌≤◌, ◌≡◌, inl, inr, refl, sym, ap, subst, Bool, true, false, List, [], length, ℤ, pos, neg_ℤ, ◌-ℤ◌, ◌≤ℤ◌, arith}
use Rattle.std.specs.Prelude.{nat_eq, not, int_le, if◌then◌else◌}
use Rattle.std.specs.List.{All, filter}
use Rattle.std.proofs.lemmas.Int.{ints, fold-int_max_bounds, fold-int_max_reached, fold-int_min_bounds, fold-int_min_reached}
use Rattle.std.proofs.lemmas.List.Elements.{All-contains, All-filter, filter_passes}
use Rattle.std.proofs.Math.Nat.{pow-le-pow_right}
use Rattle.ival.specs.Forms.{HasEnds, IsBounded, IsWellFormed, Within, greatest, has_ends, least, norm, step}
use Rattle.ival.specs.SetOperations.{included_of, join_of, lower_stop, upper_stop, widen_of, widened, widened_high, widened_low}
use Rattle.ival.specs.declared.forms.Ival.{Ival}
use Rattle.ival.specs.declared.forms.Ival.TheVariants.{Empty, Set, Range, All as Every}
use Rattle.ival.proofs.CommonNumbers.{Decides-int_le}
use Rattle.ival.proofs.Keeping.{greatest-member, member-between}
use Rattle.ival.proofs.Operands.{norm-within}
use Rattle.ival.proofs.WellFormed.{norm-well_formed}
use Rattle.ival.proofs.WidenMembers.{ends-within, int_by-test, join-well_formed, join-within}
use Rattle.avalue.specs.Pointers.{AreInObject, IsPointer, Pointer, is_listed, merged, object_end, widened_offsets}
use Rattle.avalue.specs.declared.value.Value.{Value}
use Rattle.avalue.proofs.Filters.{filter_pointers}
use Rattle.abstract_memory.specs.Values.{escape_value, join_values, widen_values}
use Rattle.abstract_memory.specs.Objects.{Entry, IsEntry, entry_at, least_of_bits}
use Rattle.abstract_memory.specs.Joins.{escape_entry, merged_at, widen_group}
use Rattle.abstract_memory.proofs.Joins.{entries_as, whole_as}
use Rattle.abstract_memory.proofs.Lawfulness.{Gives, IsFit, join_fit, listed_object, merged_entries, merged_whole}
use Rattle.abstract_memory.proofs.Values.{merged_all, widened_pointers}
use Rattle.object_laws.specs.Lawful.{EscapeIsLawful, WideningIsLawful}

-- ---- integers

-- a number within a type of up to 64 bits
IsIn : ℕ → ℤ → Type 0
IsIn width x = (neg_ℤ (pos (2 ^ (width - 1))) ≤ℤ x) × (x ≤ℤ (pos (2 ^ width) -ℤ pos 1))

small : (k : ℕ) → k ≤ 64 → 2 ^ k ≤ 2 ^ 64
small k l = let two : 0 < 2 = omega arith in pow-le-pow_right two l

bounded_in : (width : ℕ) (x : ℤ) → width ≤ 64 → IsIn width x → IsBounded x
unfolding IsIn
bounded_in width x l h =
    let a : 2 ^ (width - 1) ≤ 2 ^ 64 = small (width - 1) (omega (arith, l)) in
    let b : 2 ^ width ≤ 2 ^ 64 = small width l in
    let c = h.0 in let d = h.1 in
    record { above = omega (arith, ints, a, c); below = omega (arith, ints, b, d) }

lower_in : (width : ℕ) (thresholds : List ℤ) (x : ℤ) → IsIn width x → IsIn width (lower_stop width thresholds x)
unfolding IsIn
lower_in width thresholds x h =
    let p : ℤ → Bool = λ t. int_le t x in
    let all = filter_passes p thresholds in
    let up = (fold-int_max_bounds (neg_ℤ (pos (2 ^ (width - 1)))) (filter p thresholds) (lower_stop width thresholds x) refl).0 in
    let b = h.0 in let d = h.1 in (
      up,
      elim (fold-int_max_reached (neg_ℤ (pos (2 ^ (width - 1)))) (filter p thresholds) (lower_stop width thresholds x) refl) [
        | inl e ↦ subst (λ w. w ≤ℤ (pos (2 ^ width) -ℤ pos 1)) (sym e) (omega (arith, ints, b, d))
        | inr c ↦ let l : lower_stop width thresholds x ≤ℤ x = (Decides-int_le (lower_stop width thresholds x) x).0 (All-contains (λ t. p t ≡ true) (filter p thresholds) (lower_stop width thresholds x) all c) in omega (arith, ints, l, d)
      ],
    )

upper_in : (width : ℕ) (thresholds : List ℤ) (x : ℤ) → IsIn width x → IsIn width (upper_stop width thresholds x)
unfolding IsIn
upper_in width thresholds x h =
    let p : ℤ → Bool = λ t. int_le x t in
    let all = filter_passes p thresholds in
    let up = (fold-int_min_bounds (pos (2 ^ width) -ℤ pos 1) (filter p thresholds) (upper_stop width thresholds x) refl).0 in
    let b = h.0 in let d = h.1 in (
      elim (fold-int_min_reached (pos (2 ^ width) -ℤ pos 1) (filter p thresholds) (upper_stop width thresholds x) refl) [
        | inl e ↦ subst (λ w. neg_ℤ (pos (2 ^ (width - 1))) ≤ℤ w) (sym e) (omega (arith, ints, b, d))
        | inr c ↦ let l : x ≤ℤ upper_stop width thresholds x = (Decides-int_le x (upper_stop width thresholds x)).0 (All-contains (λ t. p t ≡ true) (filter p thresholds) (upper_stop width thresholds x) all c) in omega (arith, ints, l, b)
      ],
      up,
    )

low_in : (width : ℕ) (thresholds : List ℤ) (old new : ℤ) → IsIn width old → IsIn width new → IsIn width (widened_low old new thresholds width)
low_in width thresholds old new h k = int_by-test (IsIn width) (int_le old new) old (lower_stop width thresholds new) (λ t. h) (λ t. lower_in width thresholds new k)

high_in : (width : ℕ) (thresholds : List ℤ) (old new : ℤ) → IsIn width old → IsIn width new → IsIn width (widened_high old new thresholds width)
high_in width thresholds old new h k = int_by-test (IsIn width) (int_le new old) old (upper_stop width thresholds new) (λ t. h) (λ t. upper_in width thresholds new k)

-- a set within a type
record IsInts (width : ℕ) (a : Ival) : Type 0 where
  formed : IsWellFormed a
  within : Within (neg_ℤ (pos (2 ^ (width - 1)))) (pos (2 ^ width) -ℤ pos 1) a

order_ends : (a : Ival) → HasEnds a → least a ≤ℤ greatest a
order_ends a h = (member-between a (greatest a) h (greatest-member a h)).0

ends_in : (width : ℕ) (a : Ival) → HasEnds a → IsInts width a → IsIn width (least a) × IsIn width (greatest a)
unfolding IsIn
ends_in width a h i =
    let e = ends-within (neg_ℤ (pos (2 ^ (width - 1)))) (pos (2 ^ width) -ℤ pos 1) a h i.within in
    let o = order_ends a h in let x = e.0 in let y = e.1 in
    ((x, omega (arith, ints, o, y)), (omega (arith, ints, o, x), y))

ends_of : (a : Ival) → IsWellFormed a → has_ends a ≡ true → HasEnds a
ends_of Empty h e = cc
ends_of (Set xs) h e = h
ends_of (Range lo hi r m) h e = h
ends_of Every h e = cc

module _ (width : ℕ) (thresholds : List ℤ) (few : width ≤ 64) where
  widened_ints : (old j : Ival) → HasEnds old → HasEnds j → IsInts width old → IsInts width j → IsInts width (widened old j thresholds width)
  unfolding IsIn
  widened_ints old j h k p q =
      let a = ends_in width old h p in let b = ends_in width j k q in
      let low = low_in width thresholds (least old) (least j) a.0 b.0 in
      let high = high_in width thresholds (greatest old) (greatest j) a.1 b.1 in
      record {
        formed = norm-well_formed (widened_low (least old) (least j) thresholds width) (widened_high (greatest old) (greatest j) thresholds width) (least j) (step j)
            (bounded_in width (widened_low (least old) (least j) thresholds width) few low) (bounded_in width (widened_high (greatest old) (greatest j) thresholds width) few high);
        within = norm-within (neg_ℤ (pos (2 ^ (width - 1)))) (pos (2 ^ width) -ℤ pos 1) (widened_low (least old) (least j) thresholds width) (widened_high (greatest old) (greatest j) thresholds width) (least j) (step j) low.0 high.1;
      }

  to_ints : (old j : Ival) (c d : Bool) → HasEnds old → has_ends j ≡ d → IsInts width old → IsInts width j → IsInts width (if c then old else (if d then widened old j thresholds width else j))
  to_ints old j true d h e p q = p
  to_ints old j false true h e p q = widened_ints old j h (ends_of j q.formed e) p q
  to_ints old j false false h e p q = q

  joined_ints : (a b : Ival) → IsInts width a → IsInts width b → IsInts width (join_of a b)
  joined_ints a b p q = record {
    formed = join-well_formed a b p.formed q.formed;
    within = join-within (neg_ℤ (pos (2 ^ (width - 1)))) (pos (2 ^ width) -ℤ pos 1) a b p.formed q.formed p.within q.within;
  }

  widen_ints : (a b : Ival) → IsInts width a → IsInts width b → IsInts width (widen_of a b thresholds width)
  widen_ints Empty b p q = q
  widen_ints (Set xs) b p q = to_ints (Set xs) (join_of (Set xs) b) (included_of (join_of (Set xs) b) (Set xs)) (has_ends (join_of (Set xs) b)) p.formed refl p (joined_ints (Set xs) b p q)
  widen_ints (Range lo hi r m) b p q =
      to_ints (Range lo hi r m) (join_of (Range lo hi r m) b) (included_of (join_of (Range lo hi r m) b) (Range lo hi r m)) (has_ends (join_of (Range lo hi r m) b)) p.formed refl p (joined_ints (Range lo hi r m) b p q)
  widen_ints Every b p q = absurd p.within

-- ---- pointers

IsInside : Pointer → Type 0
IsInside p = IsPointer p × AreInObject p.1

offsets_cases : (x y : Ival) (c : Bool) → AreInObject x → AreInObject (if c then x else norm (pos 0) object_end (least (join_of x y)) (step (join_of x y)))
offsets_cases x y true h = h
offsets_cases x y false h = norm-within (pos 0) object_end (pos 0) object_end (least (join_of x y)) (step (join_of x y)) (omega (arith, ints)) (omega (arith, ints))

widened_inside : (ps qs : List Pointer) → All IsInside ps → All IsInside qs → All (λ p. AreInObject p.1) (merged widened_offsets ps qs)
unfolding IsInside
widened_inside ps qs a b = merged_all IsInside (λ p. AreInObject p.1) widened_offsets ps qs (λ p h. h.1) (λ p q h k. offsets_cases p.1 q.1 (included_of q.1 p.1) h.1) a b

no_widened : (ps qs : List Pointer) → ps ≡ [] → qs ≡ [] → merged widened_offsets ps qs ≡ []
unfolding merged
no_widened ps qs p q = rw p (rw q refl)

-- ---- values of groups

not_one : (w : ℕ) → nat_eq w 1 ≡ false → least_of_bits w ≡ neg_ℤ (pos (2 ^ (w - 1)))
not_one w e = rw e refl

widen_fit : (thresholds : List ℤ) (w : ℕ) (a b : Value) → nat_eq w 1 ≡ false → w ≤ 64 → IsFit w a → IsFit w b → IsFit w (widen_values thresholds w a b)
unfolding widen_values IsInside
widen_fit thresholds w a b e few h k =
    let low = not_one w e in
    let i : IsInts w a.ints = record { formed = h.formed.ints; within = subst (λ (z : ℤ). Within z (pos (2 ^ w) -ℤ pos 1) a.ints) low h.numbers } in
    let j : IsInts w b.ints = record { formed = k.formed.ints; within = subst (λ (z : ℤ). Within z (pos (2 ^ w) -ℤ pos 1) b.ints) low k.numbers } in
    let m = widen_ints w thresholds few a.ints b.ints i j in
    record {
      formed = record { ints = m.formed; ptrs = widened_pointers a b h.formed k.formed h.offsets k.offsets };
      numbers = subst (λ (z : ℤ). Within z (pos (2 ^ w) -ℤ pos 1) (widen_of a.ints b.ints thresholds w)) (sym low) m.within;
      pointers = λ one more. no_widened a.ptrs b.ptrs (h.pointers one more) (k.pointers one more);
      offsets = widened_inside a.ptrs b.ptrs (λ x d l. (h.formed.ptrs.each x d l, h.offsets x d l)) (λ x d l. (k.formed.ptrs.each x d l, k.offsets x d l));
    }

group_fit : (thresholds : List ℤ) (w : ℕ) (a b : Value) (c : Bool) → nat_eq w 1 ≡ c → w ≤ 64 → IsFit w a → IsFit w b → IsFit w (if c then join_values a b else widen_values thresholds w a b)
group_fit thresholds w a b true e few h k = join_fit w a b h k
group_fit thresholds w a b false e few h k = widen_fit thresholds w a b e few h k

widen_gives : (thresholds : List ℤ) → Gives (widen_group thresholds)
widen_gives thresholds w a b some few h k = group_fit thresholds w a b (nat_eq w 1) refl few h k

pub widening_is_lawful : WideningIsLawful
widening_is_lawful thresholds a b ha hb e =
    listed_object (length a) (merged_at (widen_group thresholds) (entry_at a) (entry_at b)) ha.some ha.few
    (merged_entries (widen_group thresholds) (length a) (entry_at a) (entry_at b) ha.entries (entries_as a b hb e) ha.whole (whole_as a b hb e) (widen_gives thresholds))
    (merged_whole (widen_group thresholds) (length a) (entry_at a) (entry_at b) ha.entries (entries_as a b hb e) ha.whole (whole_as a b hb e) (widen_gives thresholds))

-- ---- pointers that dangle

escape_entries : (bases : List ℕ) (e : Entry) → IsEntry e → IsEntry (escape_entry bases e)
unfolding escape_value
escape_entries bases e h = record {
  formed = record { ints = h.formed.ints; ptrs = filter_pointers (λ p. not (is_listed bases p)) e.value.ptrs (filter (λ p. not (is_listed bases p)) e.value.ptrs) h.formed.ptrs refl };
  place = h.place;
  width = h.width;
  numbers = h.numbers;
  pointers = λ one more. ap (filter (λ p. not (is_listed bases p))) (h.pointers one more);
  offsets = All-filter (λ p. not (is_listed bases p)) (λ p. AreInObject p.1) e.value.ptrs h.offsets;
}

pub escape_is_lawful : EscapeIsLawful
escape_is_lawful bases o h =
    listed_object (length o) (λ x. escape_entry bases (entry_at o x)) h.some h.few (λ x l. escape_entries bases (entry_at o x) (h.entries x l))
    (record { start = h.whole.start; end = h.whole.end; group = λ x j l k. ap (escape_entry bases) (h.whole.group x j l k) })
