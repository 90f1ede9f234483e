-- value, place at each variant; written by tools/equations.py.
use Rattle.std.specs.Prelude.{ℕ, ◌+◌, ℤ, pos, ◌+ℤ◌, List, Ok, option_and_then}
use Rattle.c_types.specs.declared.types.IntKind.{IntKind}
use Rattle.c_types.specs.declared.types.CType.{CType}
use Rattle.program.specs.declared.expressions.UnOp.{UnOp}
use Rattle.program.specs.declared.expressions.BinOp.{BinOp}
use Rattle.program.specs.declared.expressions.Expr.{Expr}
use Rattle.program.specs.declared.expressions.Expr.TheVariants.{Const, Null, Load, Addr, Start}
use Rattle.program.specs.declared.expressions.LVal.{LVal}
use Rattle.program.specs.declared.expressions.LVal.TheVariants.{Var}
use Rattle.program.specs.declared.graph.Function.{Function}
use Rattle.program.specs.declared.graph.Program.{Program}
use Rattle.program.specs.Numbers.{count_expr, count_lval}
use Rattle.c_memory.specs.declared.memory.Object.{Object}
use Rattle.c_meaning.specs.declared.value.Value.TheVariants.{Number}
use Rattle.c_arithmetic.specs.Arithmetic.{and_then, negated}
use Rattle.c_meaning.specs.Cells.{held}
use Rattle.c_meaning.specs.Memory.{accessed}
use Rattle.c_meaning.specs.PlaceTypes.{bits_of, kind_of, place_type, element, array_length, member_of, offset_of, scalar_bits, stride}
use Rattle.c_meaning.specs.Value.{at, number_in, number_result, binary, converted, designated, indexed, is_on_pointers, address, value, place}
use Rattle.std.specs.Prelude.{◌≡◌, refl}
use Rattle.program.specs.declared.expressions.Expr.TheVariants as in_Expr
use Rattle.program.specs.declared.expressions.LVal.TheVariants as in_LVal
use denote.Hole.Carrier.{hidden}
use Rattle.program.specs.declared.expressions.Expr.TheBlock.{hidden-the_row-Expr-0, hidden-the_row-LVal-1}

pub value_const : (p : Program) (f : Function) (m : List Object) (s : ℕ) (k : IntKind) (v : ℤ) → value p f m s (in_Expr.Const k v) ≡ Ok (Number v)
unfolding value place hidden hidden-the_row-Expr-0 hidden-the_row-LVal-1
value_const _ _ _ _ _ _ = refl

pub value_null : (p : Program) (f : Function) (m : List Object) (s : ℕ) → value p f m s in_Expr.Null ≡ Ok (Number (pos 0))
unfolding value place hidden hidden-the_row-Expr-0 hidden-the_row-LVal-1
value_null _ _ _ _ = refl

pub value_load : (p : Program) (f : Function) (m : List Object) (s : ℕ) (l : LVal) (t : CType) → value p f m s (in_Expr.Load l t) ≡ and_then (place p f m (s + 1) l) (λ a. at s (and_then (accessed m a (scalar_bits p f l t)) (held t)))
unfolding value place hidden hidden-the_row-Expr-0 hidden-the_row-LVal-1
value_load _ _ _ _ _ _ = refl

pub value_addr : (p : Program) (f : Function) (m : List Object) (s : ℕ) (l : LVal) → value p f m s (in_Expr.Addr l) ≡ and_then (place p f m (s + 1) l) (λ a. at s (address m a))
unfolding value place hidden hidden-the_row-Expr-0 hidden-the_row-LVal-1
value_addr _ _ _ _ _ = refl

pub value_start : (p : Program) (f : Function) (m : List Object) (s : ℕ) (l : LVal) → value p f m s (in_Expr.Start l) ≡ and_then (place p f m (s + 1) l) (λ a. at s (address m a))
unfolding value place hidden hidden-the_row-Expr-0 hidden-the_row-LVal-1
value_start _ _ _ _ _ = refl

pub value_unary : (p : Program) (f : Function) (m : List Object) (s : ℕ) (op : UnOp) (a : Expr) → value p f m s (in_Expr.Unary op a) ≡ and_then (value p f m (s + 1) a) (λ x. at s (number_result (negated op (kind_of a) (number_in x))))
unfolding value place hidden hidden-the_row-Expr-0 hidden-the_row-LVal-1
value_unary _ _ _ _ _ _ = refl

pub value_binary : (p : Program) (f : Function) (m : List Object) (s : ℕ) (op : BinOp) (a : Expr) (b : Expr) → value p f m s (in_Expr.Binary op a b) ≡ and_then (value p f m (s + 1) a) (λ x. and_then (value p f m (s + 1 + count_expr a) b) (λ y. at s (binary m (stride p f a b) (is_on_pointers a b) op (kind_of a) x y)))
unfolding value place hidden hidden-the_row-Expr-0 hidden-the_row-LVal-1
value_binary _ _ _ _ _ _ _ = refl

pub value_cast : (p : Program) (f : Function) (m : List Object) (s : ℕ) (t : CType) (a : Expr) → value p f m s (in_Expr.Cast t a) ≡ and_then (value p f m (s + 1) a) (λ x. Ok (converted t x))
unfolding value place hidden hidden-the_row-Expr-0 hidden-the_row-LVal-1
value_cast _ _ _ _ _ _ = refl

pub place_var : (p : Program) (f : Function) (m : List Object) (s : ℕ) (b : ℕ) → place p f m s (in_LVal.Var b) ≡ Ok (record { base = b; bit = pos 0 })
unfolding value place hidden hidden-the_row-Expr-0 hidden-the_row-LVal-1
place_var _ _ _ _ _ = refl

pub place_deref : (p : Program) (f : Function) (m : List Object) (s : ℕ) (e : Expr) → place p f m s (in_LVal.Deref e) ≡ and_then (value p f m (s + 1) e) (λ x. at s (designated x))
unfolding value place hidden hidden-the_row-Expr-0 hidden-the_row-LVal-1
place_deref _ _ _ _ _ = refl

pub place_index : (p : Program) (f : Function) (m : List Object) (s : ℕ) (a : LVal) (i : Expr) → place p f m s (in_LVal.Index a i) ≡ and_then (place p f m (s + 1) a) (λ x. and_then (value p f m (s + 1 + count_lval a) i) (λ y. at s (indexed (array_length (place_type p f a)) (bits_of p.layout (option_and_then element (place_type p f a))) x (number_in y))))
unfolding value place hidden hidden-the_row-Expr-0 hidden-the_row-LVal-1
place_index _ _ _ _ _ _ = refl

pub place_field : (p : Program) (f : Function) (m : List Object) (s : ℕ) (a : LVal) (n : ℕ) → place p f m s (in_LVal.Field a n) ≡ and_then (place p f m (s + 1) a) (λ x. Ok (record { base = x.base; bit = x.bit +ℤ pos (offset_of (option_and_then (member_of p.layout n) (place_type p f a))) }))
unfolding value place hidden hidden-the_row-Expr-0 hidden-the_row-LVal-1
place_field _ _ _ _ _ _ = refl

pub ruleset value_equations = (value_const, value_null, value_load, value_addr, value_start, value_unary, value_binary, value_cast, place_var, place_deref, place_index, place_field)
