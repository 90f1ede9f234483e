-- What a constant expression of type int gives (C11 6.6), and where it is undefined.
use Rattle.std.specs.Prelude.{ℕ, ◌+◌, nat_lt, if◌then◌else◌, ℤ, pos, negsuc, neg_ℤ, ◌+ℤ◌, ◌-ℤ◌, ◌*ℤ◌, int_div, Result, Ok, Err}
use Rattle.std.specs.Ordering.{int_eq}
use Rattle.program.specs.declared.expressions.BinOp.{BinOp}
use Rattle.program.specs.declared.expressions.BinOp.TheVariants as op
use Rattle.program.specs.declared.expressions.Expr.{Expr, end_of-Expr, more_of-Expr}
use Rattle.program.specs.declared.expressions.Expr.TheVariants.{Const, Unary', Binary'}
use Rattle.program.specs.declared.sites.Kind.{Kind}
use Rattle.program.specs.declared.sites.Kind.TheVariants.{DivisionByZero, SignedOverflow}
use Rattle.program.specs.Numbers.{count_expr}
use Rattle.constant_meaning.specs.declared.constant.Undefined.{Undefined}
pub use Rattle.normal_form.specs.ConstantExpression.{IsConstant, is_arithmetic}

-- ---- operations

-- 6.5p5: an operation whose result isn't in the range of its type is undefined. An int lies from -2147483648 to
-- 2147483647.
abbrev pub as_int : ℤ → Result ℤ Kind
as_int (pos n) = if nat_lt n 2147483648 then Ok (pos n) else Err SignedOverflow
as_int (negsuc n) = if nat_lt n 2147483648 then Ok (negsuc n) else Err SignedOverflow

-- 6.5.3.3p3
abbrev pub negation : ℤ → Result ℤ Kind
negation a = as_int (neg_ℤ a)

-- 6.5.5 and 6.5.6 on two ints: `/` truncates toward zero, and is undefined for a second operand 0. The other operators
-- stand in no expression that `IsConstant` allows.
abbrev pub operation : BinOp → ℤ → ℤ → Result ℤ Kind
operation op.Add a b = as_int (a +ℤ b)
operation op.Sub a b = as_int (a -ℤ b)
operation op.Mul a b = as_int (a *ℤ b)
operation op.Div a b = if int_eq b (pos 0) then Err DivisionByZero else as_int (int_div a b)
operation _ a b = Ok (pos 0)

-- ---- expressions

-- an undefined operation is undefined at its number
abbrev pub undefined_at : ℕ → Result ℤ Kind → Result ℤ Undefined
undefined_at sub (Ok v) = Ok v
undefined_at sub (Err kind) = Err (record { sub = sub; kind = kind })

-- an expression goes on with the value of an operand, and is undefined where the operand is
abbrev pub go_on : Result ℤ Undefined → (ℤ → Result ℤ Undefined) → Result ℤ Undefined
go_on (Ok v) next = next v
go_on (Err u) next = Err u

-- The value of an expression whose root has this number, or its first undefined place: operands come before operators, left
-- to right, and subexpressions are numbered in preorder. Other expressions than those that `IsConstant` allows have no
-- meaning here.
unfoldable pub value : ℕ → Expr → Result ℤ Undefined
value sub (Const k v) = Ok v
value sub (Unary' u _ (more_of-Expr a end_of-Expr)) = go_on (value (sub + 1) a) (λ x. undefined_at sub (negation x))
value sub (Binary' o _ (more_of-Expr a end_of-Expr) _ (more_of-Expr b end_of-Expr)) = go_on (value (sub + 1) a) (λ x. go_on (value (sub + 1 + count_expr a) b) (λ y. undefined_at sub (operation o x y)))
value sub _ = Ok (pos 0)

-- the value, and the number behind those of the expression
abbrev pub with_next : ℕ → Result ℤ Undefined → Result (ℤ × ℕ) Undefined
with_next next (Ok v) = Ok (v, next)
with_next next (Err u) = Err u
