-- Writing objects.
use Rattle.std.specs.Prelude.{ℕ, ◌+◌, ◌-◌, ◌%◌, List, length, if◌then◌else◌}
use Rattle.std.specs.List.{fold, range_with_len}
use Rattle.ival.specs.declared.forms.Ival.{Ival}
use Rattle.avalue.specs.declared.value.Value.{Value}
use Rattle.abstract_memory.specs.Values.{join_values, loose_join, as_written}
use Rattle.abstract_memory.specs.Objects.{Entry, Object, single, listed, entry_at, loosened, meets, lies_in, is_within}
use Rattle.abstract_memory.specs.Reads.{offsets_of, is_few, first_bit, reach, is_regular}
use Rattle.abstract_memory.specs.Joins.{join}

abbrev pub fresh : ℕ → Value → Object
fresh size v = listed size (λ x. single v)

-- the n bits from at on become one group; a group that is cut is loosened
unfoldable pub written_at : (ℕ → Entry) → ℕ → ℕ → Value → ℕ → Entry
written_at f at n v x =
    if is_within x at n then record { value = v; width = n; place = x - at }
    else (if meets f x at n then loosened (f x) else f x)

abbrev pub write_strong : Object → ℕ → ℕ → Value → Object
write_strong o at n v = listed (length o) (written_at (entry_at o) at n (as_written n v))

-- one offset after the other, each on what the last one left
abbrev pub write_each : Object → List ℕ → ℕ → Value → Object
write_each o xs n v = fold (λ left x. join left (write_strong left x n v)) o xs

-- the value is joined into each group of n bits, from lo on over w bits
unfoldable pub grown_at : (ℕ → Entry) → ℕ → ℕ → ℕ → Value → ℕ → Entry
grown_at f lo w n v x =
    if is_within x lo w then record { value = join_values (f (x - (x - lo) % n)).value v; width = n; place = (x - lo) % n }
    else f x

-- a single bit is joined into each of w bits from lo on; groups that have a bit there are loosened
unfoldable pub blurred_at : (ℕ → Entry) → ℕ → ℕ → Value → ℕ → Entry
blurred_at f lo w v x =
    if is_within x lo w then single (join_values (loosened (f x)).value v)
    else (if meets f x lo w then loosened (f x) else f x)

abbrev pub blur : Object → ℕ → ℕ → Value → Object
blur o lo w v = listed (length o) (blurred_at (entry_at o) lo w v)

abbrev pub write_range : Object → Ival → ℕ → Value → Object
write_range o at n v =
    if is_regular o at n then listed (length o) (grown_at (entry_at o) (first_bit at) (reach at n) n v)
    else blur o (first_bit at) (reach at n) (loose_join v n)

-- a write of n bits at one of the offsets
unfoldable pub write_weak : Object → Ival → ℕ → Value → Object
write_weak o at n v =
    if is_few at then write_each o (offsets_of at) n v
    else write_range o at n (as_written n v)

-- ---- copies

-- the n bits of g from at on come to bit to; groups that are cut at either side are loosened
unfoldable pub copied_at : (ℕ → Entry) → ℕ → (ℕ → Entry) → ℕ → ℕ → ℕ → Entry
copied_at g at f to n x =
    if is_within x to n then (if lies_in g (at + (x - to)) at n then g (at + (x - to)) else loosened (g (at + (x - to))))
    else (if meets f x to n then loosened (f x) else f x)

abbrev pub copy : Object → ℕ → Object → ℕ → ℕ → Object
copy from at o to n = listed (length o) (copied_at (entry_at from) at (entry_at o) to n)

-- the join of all w bits from lo on, each by itself, into a value
abbrev pub join_bits : Value → Object → ℕ → ℕ → Value
join_bits v o lo w = fold (λ bit j. join_values bit (loosened (entry_at o (lo + j))).value) v (range_with_len 0 w)
