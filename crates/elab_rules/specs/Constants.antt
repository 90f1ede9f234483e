-- Integer constant expressions (C11 6.6). Every leaf is a constant, also of an operand that isn't evaluated.
use Rattle.std.specs.Prelude.{ℤ, pos, Bool, true, false, not, if◌then◌else◌, Option, Some, None, Result, Ok, Err}
use Rattle.std.specs.Ordering.{int_eq}
use Rattle.c_types.specs.declared.types.IntKind.{IntKind}
use Rattle.c_types.specs.Integers.{wrapped}
use Rattle.program.specs.declared.expressions.UnOp.{UnOp}
use Rattle.program.specs.declared.expressions.BinOp.{BinOp}
use Rattle.program.specs.declared.sites.Kind.{Kind}
use Rattle.c_arithmetic.specs.Arithmetic.{arithmetic, negated, IsPlain}
use Rattle.elab_environment.specs.declared.constant.Constant.{Constant}
use Rattle.elab_environment.specs.declared.constant.Constant.TheVariants as constant
use Rattle.elab_types.specs.declared.types.SourceType.{SourceType}
use Rattle.elab_rules.specs.declared.operand.Operand.{Operand}
use Rattle.elab_rules.specs.declared.operand.Form.{Form, end_of-Operand, more_of-Operand}
use Rattle.elab_rules.specs.declared.operand.Form.TheVariants.{Const, Unary', Not', Binary', And', Or', Cast', Choose'}
use Rattle.elab_rules.specs.Sorts.{is_unusable, kind_of}

abbrev pub outcome : Constant → (ℤ → Constant) → Constant
outcome (constant.Number v) f = f v
outcome c f = c

abbrev pub settled_by : Result ℤ Kind → Constant
settled_by (Ok v) = constant.Number v
settled_by (Err u) = constant.Undefined

abbrev pub is_true : ℤ → Bool
is_true v = not (int_eq v (pos 0))

abbrev pub truth_of : Bool → Constant
truth_of true = constant.Number (pos 1)
truth_of false = constant.Number (pos 0)

-- an integer constant, be its value undefined
abbrev pub is_constant : Constant → Bool
is_constant (constant.Number v) = true
is_constant constant.Undefined = true
is_constant _ = false

-- what stands beside a further operand: this one is a constant too, whichever of them is evaluated
abbrev pub beside : Constant → Constant → Constant
beside c d = if is_constant c then d else constant.Variable

abbrev pub truth : Constant → Constant
truth c = outcome c (λ v. truth_of (is_true v))

-- 6.5.13, 6.5.14, 6.5.15: an operand counts where the first asks for it
abbrev pub and_also : Constant → Constant → Constant
and_also a b = outcome a (λ v. if is_true v then truth b else truth_of false)

abbrev pub or_else : Constant → Constant → Constant
or_else a b = outcome a (λ v. if is_true v then truth_of true else truth b)

abbrev pub chosen : Constant → Constant → Constant → Constant
chosen c a b = outcome c (λ v. if is_true v then a else b)

-- a number as one of its type
abbrev pub literal : Option IntKind → ℤ → Constant
literal (Some k) v = constant.Number (wrapped k v)
literal None v = constant.Variable

abbrev pub computed : BinOp → IntKind → Constant → Constant → Constant
computed op k a b = outcome a (λ v. outcome b (λ w. settled_by (arithmetic op k v w)))

-- an operation on the integer type of its left operand
abbrev pub binary_by : BinOp → Option IntKind → Constant → Constant → Constant
binary_by op (Some k) a b = beside a (beside b (computed op k a b))
binary_by op None a b = constant.Variable

abbrev pub unary_by : UnOp → Option IntKind → Constant → Constant
unary_by op (Some k) a = outcome a (λ v. settled_by (negated op k v))
unary_by op None a = constant.Variable

-- 6.6p6: a cast from an integer type to another
abbrev pub cast_by : Option IntKind → Option IntKind → Constant → Constant
cast_by (Some k) (Some l) a = outcome a (λ v. constant.Number (wrapped k v))
cast_by _ _ a = constant.Variable

abbrev pub not_by : Option IntKind → Constant → Constant
not_by (Some k) a = outcome a (λ v. truth_of (int_eq v (pos 0)))
not_by None a = constant.Variable

-- what an expression of this type and form is, where an integer constant is wanted
unfoldable pub constant_at : SourceType → Form → Constant
constant_at t (Const v) = literal (kind_of t) v
constant_at t (Unary' op _ (more_of-Operand u b r f end_of-Operand)) = unary_by op (kind_of u) (constant_at u f)
constant_at t (Not' _ (more_of-Operand u b r f end_of-Operand)) = not_by (kind_of u) (constant_at u f)
constant_at t (Binary' op _ (more_of-Operand u b r f end_of-Operand) _ (more_of-Operand v c s g end_of-Operand)) =
    binary_by op (kind_of u) (constant_at u f) (constant_at v g)
constant_at t (And' _ (more_of-Operand u b r f end_of-Operand) _ (more_of-Operand v c s g end_of-Operand)) =
    beside (constant_at u f) (beside (constant_at v g) (and_also (constant_at u f) (constant_at v g)))
constant_at t (Or' _ (more_of-Operand u b r f end_of-Operand) _ (more_of-Operand v c s g end_of-Operand)) =
    beside (constant_at u f) (beside (constant_at v g) (or_else (constant_at u f) (constant_at v g)))
constant_at t (Cast' _ (more_of-Operand u b r f end_of-Operand)) = cast_by (kind_of t) (kind_of u) (constant_at u f)
constant_at t (Choose' _ (more_of-Operand u b r f end_of-Operand) _ (more_of-Operand v c s g end_of-Operand) _ (more_of-Operand w d q h end_of-Operand)) =
    beside (constant_at u f) (beside (constant_at v g) (beside (constant_at w h) (chosen (constant_at u f) (constant_at v g) (constant_at w h))))
constant_at t _ = constant.Variable

abbrev pub with_kind : Option IntKind → Constant → Constant
with_kind (Some k) c = c
with_kind None c = constant.OfOtherType

-- the whole expression, which has an integer type
unfoldable pub constant_value : Operand → Constant
constant_value x = if is_unusable x.ty then constant.Faulty else with_kind (kind_of x.ty) (constant_at x.ty x.form)

-- a number is one of some integer type
abbrev pub IsPlainConstant : Constant → Type 0
IsPlainConstant (constant.Number v) = IsPlain v
IsPlainConstant _ = Unit {0}
