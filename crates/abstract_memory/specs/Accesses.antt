-- Accesses to states: by places, which are bases with offsets in bytes, and the number of a bit in the byte.
use Rattle.std.specs.Prelude.{ℕ, ◌*◌, List, [], ◌∷◌, map, length, Option, Some, None, IsSomeAnd, not, nat_le, ℤ, pos, unsigned_abs, if◌then◌else◌}
use Rattle.std.specs.List.{All, filter, flat_map, fold}
use Rattle.c_memory.specs.Memory.{is_one_of}
use Rattle.ival.specs.Arithmetic.{add_of, mul_of}
use Rattle.ival.specs.Forms.{only_number}
use Rattle.ival.specs.declared.forms.Ival.{Ival}
use Rattle.avalue.specs.Pointers.{Pointer, ArePointers, AreInObject}
use Rattle.avalue.specs.declared.value.Value.{Value}
use Rattle.avalue.specs.declared.value.Location.{Location}
use Rattle.abstract_memory.specs.Values.{nothing, of_ints, one_number, uninitialised}
use Rattle.abstract_memory.specs.Objects.{Object}
use Rattle.abstract_memory.specs.Reads.{Read, read, read_nothing, join_reads, offsets_of, first_bit, reach, IsAccess}
use Rattle.abstract_memory.specs.Joins as object
use Rattle.abstract_memory.specs.Writes.{fresh, write_strong, write_weak, copy, blur, join_bits}
use Rattle.abstract_memory.specs.States.{Objects, AbstractState, bottom, live, find_object, object_at, with_pair}

-- ---- places

-- offsets in bits
abbrev pub bit_offsets : Ival → ℕ → Ival
bit_offsets bytes bit = add_of (mul_of bytes (one_number (pos 8))) (one_number (pos bit))

-- each place is in life, and n bits there lie in its object
pub record CanAccess (os : Objects) (l : Location) (bit n : ℕ) : Type 0 where
  pub formed : ArePointers l.places
  pub offsets : All (λ p. AreInObject p.1) l.places
  pub inside : All (λ p. IsSomeAnd (find_object os p.0) (λ o. IsAccess (bit_offsets p.1 bit) n (length o))) l.places

abbrev pub IsAccessible : AbstractState → Location → ℕ → ℕ → Type 0
IsAccessible bottom l bit n = ⊥
IsAccessible (live os) l bit n = CanAccess os l bit n

-- a base and a bit of its object
abbrev pub Place : Type 0
Place = ℕ × ℕ

abbrev pub place_at : ℕ → Option ℤ → Option Place
place_at base None = None
place_at base (Some x) = Some (base, unsigned_abs x)

-- the place, where there is one base with one offset
abbrev pub only_place : List Pointer → ℕ → Option Place
only_place [] bit = None
only_place (p ∷ []) bit = place_at p.0 (only_number (bit_offsets p.1 bit))
only_place (p ∷ q ∷ rest) bit = None

-- all of them, by base and then by offset
abbrev pub places_of : List Pointer → List Place
places_of ps = flat_map (λ p. map (λ x. (p.0, x)) (offsets_of (bit_offsets p.1 0))) ps

-- ---- load and store

abbrev pub load_from : Objects → List Pointer → ℕ → ℕ → Read
load_from os ps bit n = fold (λ r p. join_reads r (read (object_at os p.0) (bit_offsets p.1 bit) n)) read_nothing ps

-- the join of what n bits at the places may show; null is passed over
abbrev pub load : AbstractState → Location → ℕ → ℕ → Read
load bottom l bit n = read_nothing
load (live os) l bit n = load_from os l.places bit n

abbrev pub store_weak : Objects → List Pointer → ℕ → ℕ → Value → Objects
store_weak os ps bit n v = fold (λ left p. with_pair left p.0 (write_weak (object_at left p.0) (bit_offsets p.1 bit) n v)) os ps

abbrev pub store_by : Option Place → Objects → List Pointer → ℕ → ℕ → Value → Objects
store_by (Some place) os ps bit n v = with_pair os place.0 (write_strong (object_at os place.0) place.1 n v)
store_by None os ps bit n v = store_weak os ps bit n v

-- a write of n bits at one of the places: strong where there is one
abbrev pub store : AbstractState → Location → ℕ → ℕ → Value → AbstractState
store bottom l bit n v = bottom
store (live os) l bit n v = live (store_by (only_place l.places bit) os l.places bit n v)

-- ---- copies; all sources are read as they were before

abbrev pub copy_one : Objects → Objects → Place → Place → ℕ → Object
copy_one os left to from n = copy (object_at os from.0) from.1 (object_at left to.0) to.1 n

-- for each pair, by rising target and then by rising source, the join of the object with its copy
abbrev pub copy_pairs : Objects → List Place → List Place → ℕ → Objects
copy_pairs os tos froms n =
    fold (λ left to. fold (λ kept from. with_pair kept to.0 (object.join (object_at kept to.0) (copy_one os kept to from n))) left froms) os tos

-- the join of all bits of the sources from the first offset to the last
abbrev pub source_bit : Objects → List Pointer → ℕ → Value
source_bit os ps n = fold (λ bit p. join_bits bit (object_at os p.0) (first_bit (bit_offsets p.1 0)) (reach (bit_offsets p.1 0) n)) nothing ps

-- each bit of the targets from the first offset to the last is joined with it
abbrev pub copy_range : Objects → List Pointer → List Pointer → ℕ → Objects
copy_range os tos froms n =
    fold (λ left p. with_pair left p.0 (blur (object_at left p.0) (first_bit (bit_offsets p.1 0)) (reach (bit_offsets p.1 0) n) (source_bit os froms n))) os tos

abbrev pub copy_weak : Objects → List Pointer → List Pointer → ℕ → Objects
copy_weak os tos froms n =
    if nat_le (length (places_of tos) * length (places_of froms)) 200 then copy_pairs os (places_of tos) (places_of froms) n
    else copy_range os tos froms n

abbrev pub copy_by : Option Place → Option Place → Objects → List Pointer → List Pointer → ℕ → Objects
copy_by (Some to) (Some from) os tos froms n = with_pair os to.0 (copy_one os os to from n)
copy_by (Some to) None os tos froms n = copy_weak os tos froms n
copy_by None from os tos froms n = copy_weak os tos froms n

-- n bits at one of the places to become those at one of the places from
abbrev pub copy_between : AbstractState → Location → Location → ℕ → AbstractState
copy_between bottom to from n = bottom
copy_between (live os) to from n = live (copy_by (only_place to.places 0) (only_place from.places 0) os to.places from.places n)

-- ---- all bits to zero

abbrev pub zeros : ℕ → Object
zeros n = fresh n (of_ints (one_number (pos 0)))

abbrev pub zero_one : Objects → Place → ℕ → Object
zero_one os to n = copy (zeros n) 0 (object_at os to.0) to.1 n

abbrev pub zero_by : Option Place → Objects → List Pointer → ℕ → Objects
zero_by (Some to) os ps n = with_pair os to.0 (zero_one os to n)
zero_by None os ps n = fold (λ left to. with_pair left to.0 (object.join (object_at left to.0) (zero_one left to n))) os (places_of ps)

-- n bits at one of the places are zero
abbrev pub zero : AbstractState → Location → ℕ → AbstractState
zero bottom l n = bottom
zero (live os) l n = live (zero_by (only_place l.places 0) os l.places n)

-- ---- lifetimes (C11 6.2.4)

-- an object comes
abbrev pub bring : AbstractState → ℕ → Object → AbstractState
bring bottom base o = bottom
bring (live os) base o = live (with_pair os base o)

-- an uninitialised one
abbrev pub enter : AbstractState → ℕ → ℕ → AbstractState
enter st base size = bring st base (fresh size uninitialised)

-- objects go, and pointers to them dangle everywhere
abbrev pub leave : AbstractState → List ℕ → AbstractState
leave bottom bases = bottom
leave (live os) bases = live (map (λ p. (p.0, object.escape bases p.1)) (filter (λ p. not (is_one_of bases p.0)) os))
