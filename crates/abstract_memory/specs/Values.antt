-- Values of groups and of single bits: the operations on values as functions, and what a group's bits hold when they are
-- taken one by one.
use Rattle.std.specs.Prelude.{ℕ, zero, suc, List, [], ◌∷◌, Option, Some, None, Bool, true, false, not, cond, ◌&&◌, ◌||◌, ℤ, pos, nat_eq, if◌then◌else◌}
use Rattle.std.specs.List.{filter, list_any, list_all, fold, range_with_len}
use Rattle.std.specs.Ordering.{int_eq}
use Rattle.c_memory.specs.Cells.{bit_of}
use Rattle.ival.specs.Forms.{is_empty, only_number}
use Rattle.ival.specs.SetOperations.{join_of, widen_of}
use Rattle.ival.specs.Casts.{cast_of}
use Rattle.ival.specs.declared.forms.Ival.{Ival}
use Rattle.ival.specs.declared.forms.Ival.TheVariants.{Empty, Set, Range, All as Every}
use Rattle.avalue.specs.Pointers.{Pointer, merged, widened_offsets, is_listed}
use Rattle.avalue.specs.declared.value.Value.{Value}

-- ---- values

-- no member
abbrev pub nothing : Value
nothing = record { uninit = false; dangling = false; ints = Empty; ptrs = [] }

-- exactly Uninit
abbrev pub uninitialised : Value
uninitialised = record { uninit = true; dangling = false; ints = Empty; ptrs = [] }

abbrev pub of_ints : Ival → Value
of_ints x = record { uninit = false; dangling = false; ints = x; ptrs = [] }

-- part by part
unfoldable pub join_values : Value → Value → Value
join_values a b = record {
  uninit = a.uninit || b.uninit;
  dangling = a.dangling || b.dangling;
  ints = join_of a.ints b.ints;
  ptrs = merged join_of a.ptrs b.ptrs;
}

-- integers by thresholds and the width in bits; offsets that grow become all of an object's in their class
unfoldable pub widen_values : List ℤ → ℕ → Value → Value → Value
widen_values thresholds width a b = record {
  uninit = a.uninit || b.uninit;
  dangling = a.dangling || b.dangling;
  ints = widen_of a.ints b.ints thresholds width;
  ptrs = merged widened_offsets a.ptrs b.ptrs;
}

-- pointers to the listed bases dangle
unfoldable pub escape_value : List ℕ → Value → Value
escape_value bases v = record {
  uninit = v.uninit;
  dangling = v.dangling || list_any (is_listed bases) v.ptrs;
  ints = v.ints;
  ptrs = filter (λ p. not (is_listed bases p)) v.ptrs;
}

-- ---- bits

abbrev pub has_no_pointers : List Pointer → Bool
has_no_pointers [] = true
has_no_pointers (p ∷ ps) = false

-- integers alone
abbrev pub is_plain : Value → Bool
is_plain v = not v.uninit && not v.dangling && has_no_pointers v.ptrs

abbrev pub is_uninit : Value → Bool
is_uninit v = v.uninit && not v.dangling && is_empty v.ints && has_no_pointers v.ptrs

abbrev pub all_zero : Ival → Bool
all_zero Empty = false
all_zero (Set xs) = list_all (λ x. int_eq x (pos 0)) xs
all_zero (Range lo hi r m) = false
all_zero Every = false

-- exactly the number 0
abbrev pub is_zero : Value → Bool
is_zero v = is_plain v && all_zero v.ints

-- whether a test gives true at each number, or at some, below n
abbrev pub all_below : ℕ → (ℕ → Bool) → Bool
all_below zero f = true
all_below (suc n) f = f n && all_below n f

abbrev pub any_below : ℕ → (ℕ → Bool) → Bool
any_below zero f = false
any_below (suc n) f = f n || any_below n f

-- each number has all its w low bits 1
abbrev pub all_ones : Ival → ℕ → Bool
all_ones Empty w = false
all_ones (Set xs) w = list_all (λ x. all_below w (bit_of x)) xs
all_ones (Range lo hi r m) w = false
all_ones Every w = false

-- the number that a bit shows
abbrev pub bit_number : Bool → ℤ
bit_number b = pos (cond b 1 0)

abbrev pub one_number : ℤ → Ival
one_number x = Set (x ∷ [])

-- the numbers of a bit of w bits that hold one of these, as far as all bits agree
abbrev pub bit_ints : Ival → ℕ → Ival
bit_ints ints w =
    if is_empty ints then Empty
    else (if all_zero ints then one_number (pos 0) else (if all_ones ints w then one_number (pos 1) else Set (pos 0 ∷ pos 1 ∷ [])))

-- bit j of a group of w bits where the value is exactly a number, and where it isn't
abbrev pub loose_by : Option ℤ → Value → ℕ → ℕ → Value
loose_by (Some x) v w j =
    if is_plain v then of_ints (one_number (bit_number (bit_of x j)))
    else record { uninit = v.uninit; dangling = v.dangling; ints = bit_ints v.ints w; ptrs = v.ptrs }
loose_by None v w j = record { uninit = v.uninit; dangling = v.dangling; ints = bit_ints v.ints w; ptrs = v.ptrs }

-- bit j of a group of w bits that has this value, as a value of its own
unfoldable pub loose : Value → ℕ → ℕ → Value
loose v w j = loose_by (only_number v.ints) v w j

-- the join of all n bits of a group
abbrev pub loose_join : Value → ℕ → Value
loose_join v n = fold (λ bit j. join_values bit (loose v n j)) nothing (range_with_len 0 n)

-- a single bit that is written keeps the lowest bit of each number
abbrev pub as_written : ℕ → Value → Value
as_written n v = if nat_eq n 1 then record { uninit = v.uninit; dangling = v.dangling; ints = cast_of v.ints 1 false; ptrs = v.ptrs } else v
