-- The operators on values: numbers or pointers. What is read as a value of a type.
use Rattle.std.specs.Prelude.{ℕ, ◌++◌, Bool, false, not, ◌||◌, pos, if◌then◌else◌}
use Rattle.c_types.specs.declared.types.IntKind.{IntKind}
use Rattle.c_types.specs.declared.types.IntKind.TheVariants as kind
use Rattle.c_types.specs.declared.types.CType.{CType}
use Rattle.c_types.specs.declared.types.CType.TheVariants.{Int}
use Rattle.c_types.specs.Integers.{is_signed}
use Rattle.program.specs.declared.expressions.BinOp.{BinOp}
use Rattle.program.specs.declared.expressions.BinOp.TheVariants as op
use Rattle.program.specs.declared.expressions.UnOp.{UnOp}
use Rattle.program.specs.declared.sites.Kind.{Kind}
use Rattle.program.specs.declared.sites.Kind.TheVariants.{Initialization, Dangling, PointerBytes}
use Rattle.ival.specs.declared.forms.Cmp.TheVariants as cmp
use Rattle.ival.specs.declared.forms.Ival.{Ival}
use Rattle.ival.specs.Arithmetic.{neg_of}
use Rattle.ival.specs.Casts.{cast_of}
use Rattle.avalue.specs.declared.value.Value.{Value}
use Rattle.abstract_memory.specs.Values.{of_ints, has_no_pointers}
use Rattle.abstract_memory.specs.Reads.{Read}
use Rattle.abstract_operators.specs.Left.{Left, just, raising, alarm_if, each_left}
use Rattle.abstract_operators.specs.Numbers.{met, strays, truths, converted, negated_in, arithmetic_in}
use Rattle.abstract_operators.specs.Pointers.{null, left_value, added_in, difference_in, ordered_in, equal_in, unequal_in}

-- numbers that are left, as a value
abbrev pub as_value : Left Ival Kind → Left Value Kind
as_value l = each_left of_ints l

-- the sum of a pointer and a number, in either order
abbrev pub pointer_sum : (ℕ → ℕ) → ℕ → Bool → Value → Value → Left Value Kind
pointer_sum sizes size pointer_first a b = if pointer_first then added_in sizes size a b.ints else added_in sizes size b a.ints

-- an operator on pointers, to elements of so many bytes; whether the left operand is one
abbrev pub on_pointers_in : (ℕ → ℕ) → ℕ → Bool → BinOp → Value → Value → Left Value Kind
on_pointers_in sizes size first op.Lt a b = as_value (ordered_in cmp.Lt a b)
on_pointers_in sizes size first op.Le a b = as_value (ordered_in cmp.Le a b)
on_pointers_in sizes size first op.Gt a b = as_value (ordered_in cmp.Gt a b)
on_pointers_in sizes size first op.Ge a b = as_value (ordered_in cmp.Ge a b)
on_pointers_in sizes size first op.Eq a b = as_value (equal_in a b)
on_pointers_in sizes size first op.Ne a b = as_value (unequal_in a b)
on_pointers_in sizes size first op.PtrAdd a b = pointer_sum sizes size first a b
on_pointers_in sizes size first op.PtrSub a b = added_in sizes size a (neg_of b.ints)
on_pointers_in sizes size first op.PtrDiff a b = as_value (difference_in size a b)
on_pointers_in sizes size first _ a b = just null

-- what an operator takes: the sizes of the objects, that of what a pointer points to in bytes, whether an operand is a pointer,
-- whether the left one is, and the kind of the left one
pub record Operands : Type 0 where
  pub sizes : ℕ → ℕ
  pub size : ℕ
  pub on_pointers : Bool
  pub pointer_first : Bool
  pub kind : IntKind

abbrev pub binary_in : Operands → BinOp → Value → Value → Left Value Kind
binary_in o op a b =
    if o.on_pointers then on_pointers_in o.sizes o.size o.pointer_first op a b
    else as_value (arithmetic_in op o.kind a.ints b.ints)

abbrev pub unary_in : UnOp → IntKind → Value → Left Value Kind
unary_in op k a = as_value (negated_in op k a.ints)

-- 6.3: a number in another kind; a pointer as a `_Bool` is 0 where it is null, and keeps its value as a pointer
abbrev pub truth_of_value : Bool → Value → Left Value Kind
truth_of_value is_pointer a = if is_pointer then as_value (unequal_in a null) else just (of_ints (truths a.ints))

abbrev pub cast_in : CType → Bool → Value → Left Value Kind
cast_in (Int kind.Bool volatile) is_pointer a = truth_of_value is_pointer a
cast_in (Int k volatile) is_pointer a = just (of_ints (converted k a.ints))
cast_in t is_pointer a = just a

-- ---- reads

-- n bits as a number of a kind; 6.3.1.2: as `_Bool` it is 0 or 1
abbrev pub read_numbers : IntKind → ℕ → Ival → Ival
read_numbers kind.Bool n a = truths a
read_numbers k n a = cast_of a n (is_signed k)

-- bits of a pointer that aren't read whole as one, or a number other than null that is read as a pointer
abbrev pub breaks_pointer : CType → Read → Bool
breaks_pointer (Int k volatile) r = r.1 || not (has_no_pointers r.0.ptrs)
breaks_pointer t r = r.1 || strays r.0.ints (pos 0) (pos 0)

abbrev pub read_value : CType → ℕ → Value → Value
read_value (Int k volatile) n v = of_ints (read_numbers k n v.ints)
read_value t n v = record { uninit = false; dangling = false; ints = met v.ints (pos 0) (pos 0); ptrs = v.ptrs }

-- 6.3.2.1p2: what is read as a value of a scalar type
abbrev pub held_in : CType → ℕ → Read → Left Value Kind
held_in t n r =
    raising (alarm_if r.0.uninit Initialization ++ alarm_if r.0.dangling Dangling ++ alarm_if (breaks_pointer t r) PointerBytes)
    (left_value (read_value t n r.0))
