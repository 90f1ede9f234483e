-- The operations give well-formed values and lawful entries.
use Rattle.std.proofs.Common.{ℕ, zero, suc, ◌+◌, ◌-◌, ◌^◌, ◌<◌, ◌≤◌, ◌≡◌, ◌⊎◌, refl, ap, subst, Bool, true, false, List, [], ◌∷◌, ℤ, pos, neg_ℤ, ◌-ℤ◌, ◌≤ℤ◌, Option, Some, None, arith}
use Rattle.std.specs.Prelude.{nat_eq, if◌then◌else◌}
use Rattle.std.proofs.lemmas.Int.{ints}
use Rattle.std.proofs.lemmas.Grind.{common_steps}
use Rattle.std.proofs.lemmas.List.Elements.{All-cons, All-nil}
use Rattle.c_memory.specs.Cells.{bit_of}
use Rattle.ival.specs.Forms.{IsBounded, IsMemberList, IsWellFormed, Within, is_empty, only_number}
use Rattle.ival.specs.declared.forms.Ival.{Ival}
use Rattle.ival.specs.declared.forms.Ival.TheVariants.{Empty, Set, Range, All as Every}
use Rattle.avalue.specs.Pointers.{ArePointers, AreInObject, IsPointer}
use Rattle.avalue.specs.Values.{IsWellFormedValue, PointsIntoObjects}
use Rattle.avalue.specs.declared.value.Value.{Value}
use Rattle.avalue.specs.Members.{Member, HasMember}
use Rattle.avalue.proofs.Members.{widening_members}
use Rattle.abstract_memory.proofs.Values.{is_widening}
use Rattle.abstract_memory.specs.Values.{widen_values, all_zero, all_ones, bit_ints, bit_number, is_plain, loose, loose_by, of_ints, one_number}
use Rattle.abstract_memory.specs.Objects.{Entry, IsEntry, single, loosened, least_of_bits, greatest_of_bits}
use Rattle.abstract_memory.proofs.Tests.{eq_of}

bounded_bit : (b : Bool) → IsBounded (bit_number b)
bounded_bit true = record { above = omega (arith, ints); below = omega (arith, ints) }
bounded_bit false = record { above = omega (arith, ints); below = omega (arith, ints) }

pub one_formed : (x : ℤ) → IsBounded x → IsMemberList (x ∷ [])
one_formed x h = record { some = omega arith; few = omega arith; ascending = tt; bounded = All-cons IsBounded x [] h (All-nil IsBounded) }

both_bits : IsMemberList (pos 0 ∷ pos 1 ∷ [])
both_bits = record {
  some = omega arith;
  few = omega arith;
  ascending = (omega (arith, ints), tt);
  bounded = All-cons IsBounded (pos 0) (pos 1 ∷ []) (bounded_bit false) (All-cons IsBounded (pos 1) [] (bounded_bit true) (All-nil IsBounded));
}

abbrev IsBit : ℤ → Type 0
IsBit x = (pos 0 ≤ℤ x) × (x ≤ℤ (pos (2 ^ 1) -ℤ pos 1))

bit_is : (b : Bool) → IsBit (bit_number b)
bit_is true = (omega (arith, ints), omega (arith, ints))
bit_is false = (omega (arith, ints), omega (arith, ints))

-- the numbers of a bit
record IsBitInts (i : Ival) : Type 0 where
  formed : IsWellFormed i
  within : Within (pos 0) (pos (2 ^ 1) -ℤ pos 1) i

one_ints : (b : Bool) → IsBitInts (one_number (bit_number b))
one_ints b = record { formed = one_formed (bit_number b) (bounded_bit b); within = All-cons IsBit (bit_number b) [] (bit_is b) (All-nil IsBit) }

cases_ints : (e z o : Bool) → IsBitInts (if e then Empty else (if z then one_number (pos 0) else (if o then one_number (pos 1) else Set (pos 0 ∷ pos 1 ∷ []))))
cases_ints true z o = record { formed = tt; within = tt }
cases_ints false true o = one_ints false
cases_ints false false true = one_ints true
cases_ints false false false = record { formed = both_bits; within = All-cons IsBit (pos 0) (pos 1 ∷ []) (bit_is false) (All-cons IsBit (pos 1) [] (bit_is true) (All-nil IsBit)) }

bits_ints : (i : Ival) (w : ℕ) → IsBitInts (bit_ints i w)
bits_ints i w = cases_ints (is_empty i) (all_zero i) (all_ones i w)

-- the value of a single bit
pub record IsBitValue (v : Value) : Type 0 where
  pub formed : IsWellFormedValue v
  pub numbers : Within (pos 0) (pos (2 ^ 1) -ℤ pos 1) v.ints
  pub offsets : PointsIntoObjects v

mixed_bit : (v : Value) (w : ℕ) → IsWellFormedValue v → PointsIntoObjects v → IsBitValue (record { uninit = v.uninit; dangling = v.dangling; ints = bit_ints v.ints w; ptrs = v.ptrs })
mixed_bit v w h p = let b = bits_ints v.ints w in record { formed = record { ints = b.formed; ptrs = h.ptrs }; numbers = b.within; offsets = p }

none_rising : ArePointers []
none_rising = record { rising = tt; each = All-nil IsPointer }

number_bit : (b : Bool) → IsBitValue (of_ints (one_number (bit_number b)))
number_bit b = let i = one_ints b in record { formed = record { ints = i.formed; ptrs = none_rising }; numbers = i.within; offsets = All-nil (λ p. AreInObject p.1) }

plain_bit : (v : Value) (w j : ℕ) (x : ℤ) (b : Bool) → IsWellFormedValue v → PointsIntoObjects v
    → IsBitValue (if b then of_ints (one_number (bit_number (bit_of x j))) else record { uninit = v.uninit; dangling = v.dangling; ints = bit_ints v.ints w; ptrs = v.ptrs })
plain_bit v w j x true h p = number_bit (bit_of x j)
plain_bit v w j x false h p = mixed_bit v w h p

by_bit : (v : Value) (w j : ℕ) (o : Option ℤ) → IsWellFormedValue v → PointsIntoObjects v → IsBitValue (loose_by o v w j)
by_bit v w j None h p = mixed_bit v w h p
by_bit v w j (Some x) h p = plain_bit v w j x (is_plain v) h p

pub loose_bit : (v : Value) (w j : ℕ) → IsWellFormedValue v → PointsIntoObjects v → IsBitValue (loose v w j)
unfolding loose
loose_bit v w j h p = by_bit v w j (only_number v.ints) h p

pub bit_entry : (v : Value) → IsBitValue v → IsEntry (single v)
bit_entry v h = record {
  formed = h.formed;
  place = omega arith;
  width = omega arith;
  numbers = h.numbers;
  pointers = λ one. absurd (one refl);
  offsets = h.offsets;
}

least_one : (w : ℕ) → w ≡ 1 → least_of_bits w ≡ pos 0
least_one w e = ap least_of_bits e

pub entry_bit : (e : Entry) → IsEntry e → e.width ≡ 1 → IsBitValue e.value
entry_bit e h w = record {
  formed = h.formed;
  numbers = subst (λ (n : ℕ). Within (least_of_bits n) (greatest_of_bits n) e.value.ints) w h.numbers;
  offsets = h.offsets;
}

loosened_cases : (e : Entry) (b : Bool) → IsEntry e → nat_eq e.width 1 ≡ b → IsBitValue (if b then e else single (loose e.value e.width e.place)).value
loosened_cases e true h q = entry_bit e h (eq_of e.width 1 q)
loosened_cases e false h q = loose_bit e.value e.width e.place h.formed h.offsets

pub loosened_bit : (e : Entry) → IsEntry e → IsBitValue (loosened e).value
unfolding loosened
loosened_bit e h = loosened_cases e (nat_eq e.width 1) h refl

pub loosened_formed : (e : Entry) → IsEntry e → IsWellFormedValue (loosened e).value
loosened_formed e h = (loosened_bit e h).formed

-- ---- values of groups of w bits

-- what a rule for groups of w bits takes
pub record IsGroupValue (w : ℕ) (v : Value) : Type 0 where
  pub formed : IsWellFormedValue v
  pub numbers : Within (neg_ℤ (pos (2 ^ (w - 1)))) (pos (2 ^ w) -ℤ pos 1) v.ints
  pub offsets : PointsIntoObjects v

pub within_wider : (low high less more : ℤ) (i : Ival) → less ≤ℤ low → high ≤ℤ more → Within low high i → Within less more i
within_wider low high less more Empty a b h = tt
within_wider low high less more (Set xs) a b h = λ k d l. let g = h k d l in (omega (arith, ints, a, g.0), omega (arith, ints, b, g.1))
within_wider low high less more (Range lo hi r m) a b h = (omega (arith, ints, a, h.0), omega (arith, ints, b, h.1))
within_wider low high less more Every a b h = h

pow_some : (w : ℕ) → 0 < 2 ^ w
pow_some zero = omega arith
pow_some (suc w) = let h = pow_some w in let t : 2 ^ suc w ≡ 2 ^ w + 2 ^ w = two_more w in omega (arith, h, t)
  where
    two_more : (k : ℕ) → 2 ^ suc k ≡ 2 ^ k + 2 ^ k
    two_more k = grind (arith, common_steps)

pub neg_below : (n : ℕ) → neg_ℤ (pos n) ≤ℤ pos 0
neg_below zero = omega (arith, ints)
neg_below (suc n) = omega (arith, ints)

least_below : (w : ℕ) (b : Bool) → nat_eq w 1 ≡ b → neg_ℤ (pos (2 ^ (w - 1))) ≤ℤ (if b then pos 0 else neg_ℤ (pos (2 ^ (w - 1))))
least_below w true e = neg_below (2 ^ (w - 1))
least_below w false e = omega (arith, ints)

pub one_below : (w : ℕ) → 0 < w → 2 ≤ 2 ^ w
one_below zero l = absurd (omega (arith, l))
one_below (suc w) l = let h = pow_some w in let t : 2 ^ suc w ≡ 2 ^ w + 2 ^ w = grind (arith, common_steps) in omega (arith, h, t)

pub group_value : (e : Entry) → IsEntry e → IsGroupValue e.width e.value
group_value e h = record {
  formed = h.formed;
  offsets = h.offsets;
  numbers = within_wider (least_of_bits e.width) (greatest_of_bits e.width) (neg_ℤ (pos (2 ^ (e.width - 1)))) (greatest_of_bits e.width) e.value.ints
      (least_below e.width (nat_eq e.width 1) refl) (omega (arith, ints)) h.numbers;
}

pub bit_group : (w : ℕ) (v : Value) → 0 < w → IsBitValue v → IsGroupValue w v
bit_group w v l h = record {
  formed = h.formed;
  offsets = h.offsets;
  numbers = within_wider (pos 0) (pos (2 ^ 1) -ℤ pos 1) (neg_ℤ (pos (2 ^ (w - 1)))) (pos (2 ^ w) -ℤ pos 1) v.ints
      (neg_below (2 ^ (w - 1))) (let t = one_below w l in omega (arith, ints, t)) h.numbers;
}

pub widen_has : (thresholds : List ℤ) (w : ℕ) (a b : Value) → 0 < w → IsGroupValue w a → IsGroupValue w b → (u : Member) → HasMember a u ⊎ HasMember b u
    → HasMember (widen_values thresholds w a b) u
widen_has thresholds w a b p h k u o =
    widening_members a b (widen_values thresholds w a b) thresholds w h.formed k.formed h.offsets k.offsets h.numbers k.numbers
    (is_widening thresholds w a b h.formed k.formed h.offsets k.offsets) u o
