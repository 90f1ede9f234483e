-- Single bits in a list.
use Rattle.std.specs.Prelude.{ℕ, List, get_or, length}
use Rattle.std.specs.List.{filter_map}
use Rattle.avalue.specs.Pointers.{Pointer}
use Rattle.abstract_memory.specs.Reads.{shared_offsets, some_offsets}
use Rattle.avalue.specs.declared.value.Value.{Value}
use Rattle.abstract_memory.specs.Values.{nothing}

-- bit j of the list
abbrev pub bit : List Value → ℕ → Value
bit vs j = get_or vs j nothing

-- these pointers, with the offsets that all bits share
unfoldable pub kept_pointers : List Value → List Pointer → List Pointer
kept_pointers vs ps = filter_map (λ p. some_offsets p.0 (shared_offsets (λ j. (bit vs j).ptrs) (length vs) p.0)) ps
