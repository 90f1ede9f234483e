-- The operators on pointers: what is left of reduced operands, and the alarms. A pointer value has the number 0 for null, and
-- pointers by base with their offsets in bytes.
use Rattle.std.specs.Prelude.{ℕ, ◌+◌, ◌/◌, ◌^◌, List, [], ◌∷◌, map, Option, Some, None, Bool, false, not, ◌&&◌, ◌||◌, ℤ, pos, neg_ℤ, ◌-ℤ◌, nat_eq, if◌then◌else◌}
use Rattle.std.specs.List.{filter, list_any, fold}
use Rattle.std.specs.Int.{int_div_euclid}
use Rattle.std.specs.Ordering.{int_eq}
use Rattle.c_types.specs.declared.types.IntKind.TheVariants as kind
use Rattle.program.specs.declared.sites.Kind.{Kind}
use Rattle.program.specs.declared.sites.Kind.TheVariants.{PointerArithmetic, MemAccess, DifferingBlocks, PointerComparison, IndexBound}
use Rattle.ival.specs.declared.forms.Cmp.{Cmp}
use Rattle.ival.specs.declared.forms.Ival.{Ival}
use Rattle.ival.specs.declared.forms.Ival.TheVariants.{Empty}
use Rattle.ival.specs.Forms.{has, is_empty, only_number}
use Rattle.ival.specs.SetOperations.{join_of}
use Rattle.ival.specs.Meet.{meet_of}
use Rattle.ival.specs.Arithmetic.{add_of, sub_of, mul_of, div_of}
use Rattle.ival.specs.Comparisons.{truth_of, decided}
use Rattle.avalue.specs.Pointers.{Pointer, offsets_at}
use Rattle.avalue.specs.declared.value.Value.{Value}
use Rattle.abstract_memory.specs.Values.{of_ints, one_number, has_no_pointers}
use Rattle.abstract_operators.specs.Left.{Left, raising, alarm_if, nothing}
use Rattle.abstract_operators.specs.Numbers.{met, strays, left_numbers, represented}

-- ---- values and places

abbrev pub of_pointers : List Pointer → Value
of_pointers ps = record { uninit = false; dangling = false; ints = Empty; ptrs = ps }

-- the null pointer alone
abbrev pub null : Value
null = of_ints (one_number (pos 0))

-- a value with a number or a pointer is left
abbrev pub left_value : Value → Left Value Kind
left_value v = record { value = if is_empty v.ints && has_no_pointers v.ptrs then None else Some v; alarms = [] }

-- places: some are left
abbrev pub left_places : List Pointer → Left (List Pointer) Kind
left_places ps = record { value = if has_no_pointers ps then None else Some ps; alarms = [] }

-- each offset moved by each of these distances
abbrev pub moved_by : Ival → List Pointer → List Pointer
moved_by distances ps = map (λ p. (p.0, add_of p.1 distances)) ps

-- ---- offsets within the limits of each base

abbrev pub has_offsets : Pointer → Bool
has_offsets p = not (is_empty p.1)

-- the pointers with an offset from 0 to the limit of their base, with these offsets alone
abbrev pub within_limits : (ℕ → ℤ) → List Pointer → List Pointer
within_limits limit ps = filter has_offsets (map (λ p. (p.0, met p.1 (pos 0) (limit p.0))) ps)

-- some offset isn't from 0 to the limit of its base
abbrev pub exceed_limits : (ℕ → ℤ) → List Pointer → Bool
exceed_limits limit ps = list_any (λ p. strays p.1 (pos 0) (limit p.0)) ps

-- 6.5.6p8: the end of an object in bytes, from the sizes in bits
abbrev pub end_of : (ℕ → ℕ) → ℕ → ℤ
end_of sizes base = pos (sizes base / 8)

-- the greatest offset in bytes at which n bits, from this bit of the byte on, lie in their object; below 0 where there is none
abbrev pub last_access : (ℕ → ℕ) → ℕ → ℕ → ℕ → ℤ
last_access sizes bit n base = int_div_euclid (pos (sizes base) -ℤ pos (bit + n)) (pos 8)

-- pointers to a byte of an object or to its end
abbrev pub pointers_in : (ℕ → ℕ) → List Pointer → Left Value Kind
pointers_in sizes ps =
    raising (alarm_if (exceed_limits (end_of sizes) ps) PointerArithmetic) (left_value (of_pointers (within_limits (end_of sizes) ps)))

-- the places at which n bits, from this bit of the byte on, lie in their object
abbrev pub accessed_in : (ℕ → ℕ) → ℕ → ℕ → List Pointer → Left (List Pointer) Kind
accessed_in sizes bit n ps =
    raising (alarm_if (exceed_limits (last_access sizes bit n) ps) MemAccess) (left_places (within_limits (last_access sizes bit n) ps))

-- ---- places that lvalues designate

-- 6.5.3.2p4: the places that a pointer points to; null designates none
abbrev pub designated_in : Value → Left (List Pointer) Kind
designated_in v = raising (alarm_if (has v.ints (pos 0)) MemAccess) (left_places v.ptrs)

-- 6.5.2.1p2: the elements of these indexes, of so many bytes each, of an array of this length at these places
abbrev pub elements_at : ℕ → Ival → List Pointer → Left (List Pointer) Kind
elements_at size indexes ps =
    if is_empty indexes then nothing else left_places (moved_by (mul_of indexes (one_number (pos size))) ps)

abbrev pub indexed_in : ℕ → ℕ → List Pointer → Ival → Left (List Pointer) Kind
indexed_in length size ps indexes =
    raising (alarm_if (strays indexes (pos 0) (pos length -ℤ pos 1)) IndexBound) (elements_at size (met indexes (pos 0) (pos length -ℤ pos 1)) ps)

-- ---- sums and differences

-- no object has so many bytes that an index further from 0 stays in it
abbrev pub index_limit : ℤ
index_limit = pos (2 ^ 21)

abbrev pub near : Ival → Ival
near indexes = met indexes (neg_ℤ index_limit) index_limit

abbrev pub is_far : Ival → Bool
is_far indexes = strays indexes (neg_ℤ index_limit) index_limit

-- 6.5.6p8: the sum of a pointer and a number of elements of so many bytes; null can't be moved
abbrev pub added_in : (ℕ → ℕ) → ℕ → Value → Ival → Left Value Kind
added_in sizes size v indexes =
    raising (alarm_if (has v.ints (pos 0) || not (has_no_pointers v.ptrs) && is_far indexes) PointerArithmetic)
    (if is_empty (near indexes) then nothing else pointers_in sizes (moved_by (mul_of (near indexes) (one_number (pos size))) v.ptrs))

-- two pointers, one of each side, to different objects
abbrev pub differ : List Pointer → List Pointer → Bool
differ ps qs = list_any (λ p. list_any (λ q. not (nat_eq p.0 q.0)) qs) ps

-- some are null, or point to different objects
abbrev pub are_apart : Value → Value → Bool
are_apart a b = has a.ints (pos 0) || has b.ints (pos 0) || differ a.ptrs b.ptrs

-- the join of an operation on the offsets of each base that both have
abbrev pub of_common : (Ival → Ival → Ival) → List Pointer → List Pointer → Ival
of_common f ps qs = fold (λ results p. join_of results (f p.1 (offsets_at qs p.0))) Empty ps

-- 6.5.6p9: how many elements of so many bytes lie between two pointers, rounded toward zero
abbrev pub between : ℕ → Ival → Ival → Ival
between size x y = div_of (sub_of x y) (one_number (pos size))

abbrev pub difference_in : ℕ → Value → Value → Left Ival Kind
difference_in size a b =
    raising (alarm_if (are_apart a b) DifferingBlocks) (left_numbers (represented kind.Long (of_common (between size) a.ptrs b.ptrs)))

-- ---- comparisons

-- 6.5.8p5
abbrev pub ordered_in : Cmp → Value → Value → Left Ival Kind
ordered_in c a b = raising (alarm_if (are_apart a b) PointerComparison) (left_numbers (of_common (truth_of c) a.ptrs b.ptrs))

-- 6.5.9p6: both can be null, or point to one byte
abbrev pub share_offset : List Pointer → Pointer → Bool
share_offset qs p = not (is_empty (meet_of p.1 (offsets_at qs p.0)))

abbrev pub can_be_equal : Value → Value → Bool
can_be_equal a b = has a.ints (pos 0) && has b.ints (pos 0) || list_any (share_offset b.ptrs) a.ptrs

abbrev pub same_number : Option ℤ → Option ℤ → Bool
same_number (Some x) (Some y) = int_eq x y
same_number (Some x) None = false
same_number None y = false

-- both sides have one pointer, and it is the same
abbrev pub same_pointer : List Pointer → List Pointer → Bool
same_pointer [] qs = false
same_pointer (p ∷ []) [] = false
same_pointer (p ∷ []) (q ∷ []) = nat_eq p.0 q.0 && same_number (only_number p.1) (only_number q.1)
same_pointer (p ∷ []) (q ∷ r ∷ rest) = false
same_pointer (p ∷ r ∷ rest) qs = false

abbrev pub is_null : Value → Bool
is_null v = has_no_pointers v.ptrs

-- both have exactly one member, and it is the same
abbrev pub must_be_equal : Value → Value → Bool
must_be_equal a b = is_null a && is_null b || is_empty a.ints && is_empty b.ints && same_pointer a.ptrs b.ptrs

abbrev pub equal_in : Value → Value → Left Ival Kind
equal_in a b = left_numbers (decided (must_be_equal a b) (not (can_be_equal a b)))

abbrev pub unequal_in : Value → Value → Left Ival Kind
unequal_in a b = left_numbers (decided (not (can_be_equal a b)) (must_be_equal a b))
