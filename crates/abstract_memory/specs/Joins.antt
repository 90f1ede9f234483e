-- Join, widening, inclusion and escape of objects.
use Rattle.std.specs.Prelude.{ℕ, List, length, Bool, ◌&&◌, ◌||◌, ℤ, nat_eq, nat_lt, if◌then◌else◌}
use Rattle.avalue.specs.Values.{value_included}
use Rattle.avalue.specs.declared.value.Value.{Value}
use Rattle.abstract_memory.specs.Values.{join_values, widen_values, escape_value, all_below}
use Rattle.abstract_memory.specs.Objects.{Entry, Object, single, listed, entry_at, loosened, start_of, lifts}

-- bit x of both objects stands at one place of groups of the same bits
abbrev pub match : Entry → Entry → Bool
match e f = nat_eq e.width f.width && nat_eq e.place f.place

-- bit x: groups with the same bits on both sides are merged by the rule for their width; a group against bits that may be
-- taken as one group too; all else bit by bit
unfoldable pub merged_at : (ℕ → Value → Value → Value) → (ℕ → Entry) → (ℕ → Entry) → ℕ → Entry
merged_at rule f g x =
    if match (f x) (g x) then record { value = rule (f x).width (f x).value (g x).value; width = (f x).width; place = (f x).place }
    else (if lifts g (start_of f x) (f x).width then record { value = rule (f x).width (f x).value (g (start_of f x)).value; width = (f x).width; place = (f x).place }
    else (if lifts f (start_of g x) (g x).width then record { value = rule (g x).width (f (start_of g x)).value (g x).value; width = (g x).width; place = (g x).place }
    else single (join_values (loosened (f x)).value (loosened (g x)).value)))

-- two objects of one size
abbrev pub join : Object → Object → Object
join a b = listed (length a) (merged_at (λ width. join_values) (entry_at a) (entry_at b))

-- single bits are joined
abbrev pub widen_group : List ℤ → ℕ → Value → Value → Value
widen_group thresholds width a b = if nat_eq width 1 then join_values a b else widen_values thresholds width a b

abbrev pub widen : List ℤ → Object → Object → Object
widen thresholds a b = listed (length a) (merged_at (widen_group thresholds) (entry_at a) (entry_at b))

-- a group of the second takes the same group, or bits that may be taken as it; its single bits take any bit
unfoldable pub included_at : (ℕ → Entry) → (ℕ → Entry) → ℕ → Bool
included_at f g x =
    if match (f x) (g x) || (nat_lt 1 (g x).width && lifts f (start_of g x) (g x).width) then value_included (f x).value (g x).value
    else nat_eq (g x).width 1 && value_included (loosened (f x)).value (g x).value

abbrev pub included : Object → Object → Bool
included a b = all_below (length a) (included_at (entry_at a) (entry_at b))

abbrev pub escape_entry : List ℕ → Entry → Entry
escape_entry bases e = record { value = escape_value bases e.value; width = e.width; place = e.place }

-- pointers to the listed bases dangle
abbrev pub escape : List ℕ → Object → Object
escape bases o = listed (length o) (λ x. escape_entry bases (entry_at o x))
