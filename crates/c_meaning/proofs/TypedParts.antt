-- The parts of a typed tree are typed.
use Rattle.std.proofs.Common.{ℕ, ℤ, pos, neg_ℤ, ◌≤ℤ◌, ◌-◌, ◌^◌, arith}
use Rattle.std.specs.Prelude.{IsTrue}
use Rattle.std.proofs.lemmas.Int.{ints}
use Rattle.c_types.specs.declared.types.IntKind.{IntKind}
use Rattle.c_types.specs.declared.types.CType.{CType}
use Rattle.c_types.specs.Integers.{least, greatest, InRange}
use Rattle.c_types.proofs.IntKindLaws.{every}
use Rattle.program.specs.declared.expressions.UnOp.{UnOp}
use Rattle.program.specs.declared.expressions.BinOp.{BinOp}
use Rattle.program.specs.declared.expressions.Expr.{Expr}
use Rattle.program.specs.declared.expressions.LVal.{LVal}
use Rattle.program.specs.declared.expressions.Expr.TheVariants as in_Expr
use Rattle.program.specs.declared.expressions.LVal.TheVariants as in_LVal
use Rattle.program.specs.declared.graph.Function.{Function}
use Rattle.program.specs.declared.graph.Program.{Program}
use Rattle.program.specs.Typing.{is_scalar}
use Rattle.program.proofs.TypingRules.{hastype_const, hastype_load, hastype_addr, hastype_start, hastype_unary, hastype_binary, hastype_cast, designates_deref, designates_index, designates_field}
use Rattle.c_arithmetic.specs.Arithmetic.{IsPlain}
use Rattle.c_meaning.specs.Typed.{IsTypedExpr, IsTypedPlace}

low_end : (k : IntKind) → neg_ℤ (pos (2 ^ 63)) ≤ℤ least k
low_end = every (λ k. neg_ℤ (pos (2 ^ 63)) ≤ℤ least k) (omega (arith, ints)) (omega (arith, ints)) (omega (arith, ints)) (omega (arith, ints)) (omega (arith, ints)) (omega (arith, ints)) (omega (arith, ints)) (omega (arith, ints)) (omega (arith, ints)) (omega (arith, ints)) (omega (arith, ints)) (omega (arith, ints))

high_end : (k : IntKind) → greatest k ≤ℤ pos (2 ^ 64 - 1)
high_end = every (λ k. greatest k ≤ℤ pos (2 ^ 64 - 1)) (omega (arith, ints)) (omega (arith, ints)) (omega (arith, ints)) (omega (arith, ints)) (omega (arith, ints)) (omega (arith, ints)) (omega (arith, ints)) (omega (arith, ints)) (omega (arith, ints)) (omega (arith, ints)) (omega (arith, ints)) (omega (arith, ints))

ranged : (k : IntKind) (v : ℤ) → InRange k v → IsPlain v
ranged k v r =
    let low = low_end k in
    let high = high_end k in
    record { above = omega (arith, ints, r.above, low); below = omega (arith, ints, r.below, high) }

pub typed_const : (p : Program) (f : Function) (k : IntKind) (v : ℤ) → IsTypedExpr p f (in_Expr.Const k v) → IsPlain v
typed_const p f k v h = ranged k v (hastype_const p f k v h.ctype h.typed).0

pub typed_load : (p : Program) (f : Function) (l : LVal) (t : CType) → IsTypedExpr p f (in_Expr.Load l t) → IsTypedPlace p f l
typed_load p f l t h = record { ctype = t; typed = (hastype_load p f l t h.ctype h.typed).0 }

pub typed_scalar : (p : Program) (f : Function) (l : LVal) (t : CType) → IsTypedExpr p f (in_Expr.Load l t) → IsTrue (is_scalar t)
typed_scalar p f l t h = (hastype_load p f l t h.ctype h.typed).1

pub typed_addr : (p : Program) (f : Function) (l : LVal) → IsTypedExpr p f (in_Expr.Addr l) → IsTypedPlace p f l
typed_addr p f l h = let r = hastype_addr p f l h.ctype h.typed in record { ctype = r.0; typed = r.1 }

pub typed_start : (p : Program) (f : Function) (l : LVal) → IsTypedExpr p f (in_Expr.Start l) → IsTypedPlace p f l
typed_start p f l h = let r = hastype_start p f l h.ctype h.typed in record { ctype = _; typed = r.2 }

pub typed_unary : (p : Program) (f : Function) (op : UnOp) (a : Expr) → IsTypedExpr p f (in_Expr.Unary op a) → IsTypedExpr p f a
typed_unary p f op a h = let r = hastype_unary p f op a h.ctype h.typed in record { ctype = _; typed = r.2 }

pub typed_left : (p : Program) (f : Function) (op : BinOp) (a b : Expr) → IsTypedExpr p f (in_Expr.Binary op a b) → IsTypedExpr p f a
typed_left p f op a b h = let r = hastype_binary p f op a b h.ctype h.typed in record { ctype = r.0; typed = r.2 }

pub typed_right : (p : Program) (f : Function) (op : BinOp) (a b : Expr) → IsTypedExpr p f (in_Expr.Binary op a b) → IsTypedExpr p f b
typed_right p f op a b h = let r = hastype_binary p f op a b h.ctype h.typed in record { ctype = r.1; typed = r.3 }

pub typed_cast : (p : Program) (f : Function) (t : CType) (a : Expr) → IsTypedExpr p f (in_Expr.Cast t a) → IsTypedExpr p f a
typed_cast p f t a h = let r = hastype_cast p f t a h.ctype h.typed in record { ctype = r.0; typed = r.1 }

pub typed_deref : (p : Program) (f : Function) (e : Expr) → IsTypedPlace p f (in_LVal.Deref e) → IsTypedExpr p f e
typed_deref p f e h = record { ctype = _; typed = designates_deref p f e h.ctype h.typed }

pub typed_array : (p : Program) (f : Function) (a : LVal) (i : Expr) → IsTypedPlace p f (in_LVal.Index a i) → IsTypedPlace p f a
typed_array p f a i h = let r = designates_index p f a i h.ctype h.typed in record { ctype = _; typed = r.2 }

pub typed_index : (p : Program) (f : Function) (a : LVal) (i : Expr) → IsTypedPlace p f (in_LVal.Index a i) → IsTypedExpr p f i
typed_index p f a i h = let r = designates_index p f a i h.ctype h.typed in record { ctype = r.1; typed = r.3 }

pub typed_field : (p : Program) (f : Function) (a : LVal) (m : ℕ) → IsTypedPlace p f (in_LVal.Field a m) → IsTypedPlace p f a
typed_field p f a m h = let r = designates_field p f a m h.ctype h.typed in record { ctype = _; typed = r.1 }

pub ruleset typed_parts = (typed_const, typed_load, typed_scalar, typed_addr, typed_start, typed_unary, typed_left, typed_right, typed_cast, typed_deref, typed_array, typed_index, typed_field)
