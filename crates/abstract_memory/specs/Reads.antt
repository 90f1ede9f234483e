-- Reading objects.
use Rattle.std.specs.Prelude.{ℕ, ◌+◌, ◌-◌, ◌*◌, ◌/◌, ◌%◌, ◌^◌, ◌<◌, List, [], map, length, Option, Some, None, is_some, Bool, false, ◌&&◌, ◌||◌, not, ℤ, pos, ◌-ℤ◌, ◌+ℤ◌, ◌≤ℤ◌, nat_eq, nat_le, unsigned_abs, if◌then◌else◌}
use Rattle.std.specs.List.{fold, filter_map, range_with_len}
use Rattle.c_memory.specs.Cells.{number_of}
use Rattle.ival.specs.Forms.{HasEnds, norm, has, least, greatest, step, is_empty, only_number}
use Rattle.ival.specs.Lists.{progression}
use Rattle.ival.specs.Numbers.{distance}
use Rattle.ival.specs.Meet.{meet_of}
use Rattle.ival.specs.SetOperations.{join_of}
use Rattle.ival.specs.declared.forms.Ival.{Ival}
use Rattle.ival.specs.declared.forms.Ival.TheVariants.{Empty, Set, Range, All as Every}
use Rattle.avalue.specs.Pointers.{Pointer, offsets_at, merged}
use Rattle.avalue.specs.declared.value.Value.{Value}
use Rattle.abstract_memory.specs.Values.{nothing, join_values, has_no_pointers, one_number, all_below, any_below}
use Rattle.abstract_memory.specs.Objects.{Entry, Object, entry_at, loosened, lifts}

-- ---- the places of an access

-- the members, rising
abbrev pub members_of : Ival → List ℤ
members_of Empty = []
members_of (Set xs) = xs
members_of (Range lo hi r m) = progression lo (unsigned_abs m) (distance hi lo / unsigned_abs m + 1)
members_of Every = []

abbrev pub offsets_of : Ival → List ℕ
offsets_of at = map unsigned_abs (members_of at)

-- offsets at which n bits lie in an object of so many bits
pub record IsAccess (at : Ival) (n size : ℕ) : Type 0 where
  pub ends : HasEnds at
  pub low : pos 0 ≤ℤ least at
  pub high : (greatest at +ℤ pos n) ≤ℤ pos size
  pub some : 0 < n

-- up to 200 offsets are taken one by one; more are one access to all bits from the first to the last
abbrev pub is_few : Ival → Bool
is_few at = nat_le (length (members_of at)) 200

abbrev pub first_bit : Ival → ℕ
first_bit at = unsigned_abs (least at)

-- how many bits an access of n bits at each offset reaches, from the first on
abbrev pub reach : Ival → ℕ → ℕ
reach at n = (unsigned_abs (greatest at) - first_bit at) + n

-- n bits that are one group, or may be taken as one
abbrev pub is_piece : (ℕ → Entry) → ℕ → ℕ → Bool
is_piece f x n = (nat_eq (f x).width n && nat_eq (f x).place 0) || lifts f x n

-- the access goes group by group: n divides the step, and all bits that it reaches stand in groups of n bits
unfoldable pub is_regular : Object → Ival → ℕ → Bool
is_regular o at n =
    nat_eq (step at % n) 0 && all_below (reach at n / n) (λ g. is_piece (entry_at o) (first_bit at + g * n) n)

-- ---- bits as one value

-- the number where each bit is known, else all numbers of n bits
unfoldable pub gathered_ints : (ℕ → Ival) → ℕ → Ival
gathered_ints bits n =
    if any_below n (λ j. is_empty (bits j)) then Empty
    else (if all_below n (λ j. is_some (only_number (bits j))) then one_number (pos (number_of (λ j. has (bits j) (pos 1)) n))
    else norm (pos 0) (pos (2 ^ n) -ℤ pos 1) (pos 0) 1)

-- the offsets of a base that all n bits share
abbrev pub shared_offsets : (ℕ → List Pointer) → ℕ → ℕ → Ival
shared_offsets bits n base = fold (λ shared j. meet_of shared (offsets_at (bits j) base)) Every (range_with_len 0 n)

abbrev pub some_offsets : ℕ → Ival → Option Pointer
some_offsets base offsets = if is_empty offsets then None else Some (base, offsets)

-- the pointers that all n bits share
unfoldable pub shared_pointers : (ℕ → List Pointer) → ℕ → List Pointer
shared_pointers bits n = filter_map (λ p. some_offsets p.0 (shared_offsets bits n p.0)) (bits 0)

-- the value that n single bits show together
unfoldable pub gathered : (ℕ → Value) → ℕ → Value
gathered bits n = record {
  uninit = any_below n (λ j. (bits j).uninit);
  dangling = any_below n (λ j. (bits j).dangling);
  ints = gathered_ints (λ j. (bits j).ints) n;
  ptrs = if nat_eq n 64 then shared_pointers (λ j. (bits j).ptrs) n else [];
}

-- ---- reading

-- a value, and whether bits of a pointer were read that are no whole pointer
abbrev pub Read : Type 0
Read = Value × Bool

abbrev pub read_nothing : Read
read_nothing = (nothing, false)

abbrev pub join_reads : Read → Read → Read
join_reads a b = (join_values a.0 b.0, a.1 || b.1)

abbrev pub points : Value → Bool
points v = not (has_no_pointers v.ptrs)

-- the n bits from x on: a group of n bits as it is, else bit by bit
unfoldable pub read_at : Object → ℕ → ℕ → Read
read_at o x n =
    if nat_eq (entry_at o x).width n && nat_eq (entry_at o x).place 0 then ((entry_at o x).value, false)
    else (gathered (λ j. (loosened (entry_at o (x + j))).value) n, any_below n (λ j. points (entry_at o (x + j)).value))

-- one offset after the other
abbrev pub read_each : Object → List ℕ → ℕ → Read
read_each o xs n = fold (λ r x. join_reads r (read_at o x n)) read_nothing xs

-- the join of all groups
abbrev pub read_groups : Object → Ival → ℕ → Read
read_groups o at n = (fold (λ v g. join_values v (entry_at o (first_bit at + g * n)).value) nothing (range_with_len 0 (reach at n / n)), false)

-- the pointers of w bits from x on
abbrev pub pointers_among : Object → ℕ → ℕ → List Pointer
pointers_among o x w = fold (λ ps j. merged join_of ps (entry_at o (x + j)).value.ptrs) [] (range_with_len 0 w)

-- any number, with the flags and the pointers of all bits
abbrev pub read_bits : Object → Ival → ℕ → Read
read_bits o at n =
    let x = first_bit at in let w = reach at n in (
      record {
        uninit = any_below w (λ j. (entry_at o (x + j)).value.uninit);
        dangling = any_below w (λ j. (entry_at o (x + j)).value.dangling);
        ints = norm (pos 0) (pos (2 ^ n) -ℤ pos 1) (pos 0) 1;
        ptrs = if nat_eq n 64 then pointers_among o x w else [];
      },
      any_below w (λ j. points (entry_at o (x + j)).value),
    )

-- what n bits at one of the offsets may show
unfoldable pub read : Object → Ival → ℕ → Read
read o at n =
    if is_few at then read_each o (offsets_of at) n
    else (if is_regular o at n then read_groups o at n else read_bits o at n)
