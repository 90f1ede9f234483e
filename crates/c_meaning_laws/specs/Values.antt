-- What a value of a type is (C11 6.2.6.1), and that expressions give values of their types.
use Rattle.std.specs.Prelude.{◌≡◌, ℕ, ◌≤◌, pos, List, Some, Ok, slice_get, IfSome}
use Rattle.c_types.specs.declared.types.CType.{CType}
use Rattle.c_types.specs.declared.types.CType.TheVariants.{Int, Ptr'}
use Rattle.c_types.specs.declared.types.Member.{Member}
use Rattle.c_types.specs.declared.types.StructInfo.{StructInfo}
use Rattle.c_types.specs.declared.types.Layout.{Layout}
use Rattle.c_types.specs.Integers.{width, InRange}
use Rattle.program.specs.declared.expressions.Expr.{Expr}
use Rattle.program.specs.declared.graph.Function.{Function}
use Rattle.program.specs.declared.graph.Program.{Program}
use Rattle.program.specs.Typing.{HasType}
use Rattle.c_memory.specs.declared.memory.Object.{Object}
use Rattle.c_meaning.specs.declared.value.Value.{Value}
use Rattle.c_meaning.specs.declared.value.Value.TheVariants.{Number, Pointer}
use Rattle.c_meaning.specs.PlaceTypes.{kind_of_type}
use Rattle.c_meaning.specs.Value.{value}

-- a number of the kind's range; null or a pointer
abbrev pub IsOf : CType → Value → Type 0
IsOf (Int k volatile) (Number v) = InRange k v
IsOf (Int k volatile) (Pointer base offset) = ⊥
IsOf (Ptr' _ _) (Number v) = v ≡ pos 0
IsOf (Ptr' _ _) (Pointer base offset) = Unit {0}
IsOf _ v = ⊥

-- 6.7.2.1p4: a bit-field is no wider than its type
pub record HasFittingFields (l : Layout) : Type 0 where
  pub fits : (i m : ℕ) (info : StructInfo) (member : Member) → slice_get l.structs i ≡ Some info → slice_get info.members m ≡ Some member → IfSome member.bits (λ w. w ≤ width (kind_of_type member.ctype))

-- 6.5p1: an expression of a type gives a value of it
abbrev pub ValuesAreTyped : Type 0
ValuesAreTyped =
    (p : Program) (f : Function) (m : List Object) (s : ℕ) (e : Expr) (t : CType) (v : Value) → HasFittingFields p.layout → HasType p f e t → value p f m s e ≡ Ok v → IsOf t v
