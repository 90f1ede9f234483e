-- target_type, place_type, field_width at each variant; written by tools/equations.py.
use Rattle.std.specs.Prelude.{◌≡◌, ℕ, None, option_and_then}
use Rattle.std.specs.Option.{option_map}
use Rattle.c_types.specs.declared.types.IntKind.{IntKind}
use Rattle.c_types.specs.declared.types.CType.{CType}
use Rattle.program.specs.declared.expressions.BinOp.{BinOp}
use Rattle.program.specs.declared.expressions.Expr.{Expr}
use Rattle.program.specs.declared.expressions.Expr.TheVariants.{Const, Null, Load, Addr, Start}
use Rattle.program.specs.declared.expressions.LVal.{LVal}
use Rattle.program.specs.declared.expressions.LVal.TheVariants.{Var}
use Rattle.program.specs.declared.graph.Function.{Function}
use Rattle.program.specs.declared.graph.Program.{Program}
use Rattle.program.specs.Typing.{base_type}
use Rattle.c_meaning.specs.PlaceTypes.{pointed, element, member_of, moved_target, target_type, place_type, field_width}
use Rattle.std.specs.Prelude.{ℤ, refl}
use Rattle.program.specs.declared.expressions.UnOp.{UnOp}
use Rattle.program.specs.declared.expressions.Expr.TheVariants as in_Expr
use Rattle.program.specs.declared.expressions.LVal.TheVariants as in_LVal
use denote.Hole.Carrier.{hidden}
use Rattle.program.specs.declared.expressions.Expr.TheBlock.{hidden-the_row-Expr-0, hidden-the_row-LVal-1}

pub target_type_const : (p : Program) (f : Function) (k : IntKind) (v : ℤ) → target_type p f (in_Expr.Const k v) ≡ None
unfolding target_type place_type field_width hidden hidden-the_row-Expr-0 hidden-the_row-LVal-1
target_type_const _ _ _ _ = refl

pub target_type_null : (p : Program) (f : Function) → target_type p f in_Expr.Null ≡ None
unfolding target_type place_type field_width hidden hidden-the_row-Expr-0 hidden-the_row-LVal-1
target_type_null _ _ = refl

pub target_type_load : (p : Program) (f : Function) (l : LVal) (t : CType) → target_type p f (in_Expr.Load l t) ≡ pointed t
unfolding target_type place_type field_width hidden hidden-the_row-Expr-0 hidden-the_row-LVal-1
target_type_load _ _ _ _ = refl

pub target_type_addr : (p : Program) (f : Function) (l : LVal) → target_type p f (in_Expr.Addr l) ≡ place_type p f l
unfolding target_type place_type field_width hidden hidden-the_row-Expr-0 hidden-the_row-LVal-1
target_type_addr _ _ _ = refl

pub target_type_start : (p : Program) (f : Function) (l : LVal) → target_type p f (in_Expr.Start l) ≡ option_and_then element (place_type p f l)
unfolding target_type place_type field_width hidden hidden-the_row-Expr-0 hidden-the_row-LVal-1
target_type_start _ _ _ = refl

pub target_type_unary : (p : Program) (f : Function) (op : UnOp) (a : Expr) → target_type p f (in_Expr.Unary op a) ≡ None
unfolding target_type place_type field_width hidden hidden-the_row-Expr-0 hidden-the_row-LVal-1
target_type_unary _ _ _ _ = refl

pub target_type_binary : (p : Program) (f : Function) (op : BinOp) (a : Expr) (b : Expr) → target_type p f (in_Expr.Binary op a b) ≡ moved_target op (target_type p f a) (target_type p f b)
unfolding target_type place_type field_width hidden hidden-the_row-Expr-0 hidden-the_row-LVal-1
target_type_binary _ _ _ _ _ = refl

pub target_type_cast : (p : Program) (f : Function) (t : CType) (a : Expr) → target_type p f (in_Expr.Cast t a) ≡ pointed t
unfolding target_type place_type field_width hidden hidden-the_row-Expr-0 hidden-the_row-LVal-1
target_type_cast _ _ _ _ = refl

pub place_type_var : (p : Program) (f : Function) (b : ℕ) → place_type p f (in_LVal.Var b) ≡ base_type p f b
unfolding target_type place_type field_width hidden hidden-the_row-Expr-0 hidden-the_row-LVal-1
place_type_var _ _ _ = refl

pub place_type_deref : (p : Program) (f : Function) (e : Expr) → place_type p f (in_LVal.Deref e) ≡ target_type p f e
unfolding target_type place_type field_width hidden hidden-the_row-Expr-0 hidden-the_row-LVal-1
place_type_deref _ _ _ = refl

pub place_type_index : (p : Program) (f : Function) (a : LVal) (i : Expr) → place_type p f (in_LVal.Index a i) ≡ option_and_then element (place_type p f a)
unfolding target_type place_type field_width hidden hidden-the_row-Expr-0 hidden-the_row-LVal-1
place_type_index _ _ _ _ = refl

pub place_type_field : (p : Program) (f : Function) (a : LVal) (m : ℕ) → place_type p f (in_LVal.Field a m) ≡ option_map (λ member. member.ctype) (option_and_then (member_of p.layout m) (place_type p f a))
unfolding target_type place_type field_width hidden hidden-the_row-Expr-0 hidden-the_row-LVal-1
place_type_field _ _ _ _ = refl

pub field_width_field : (p : Program) (f : Function) (a : LVal) (m : ℕ) → field_width p f (in_LVal.Field a m) ≡ option_and_then (λ member. member.bits) (option_and_then (member_of p.layout m) (place_type p f a))
unfolding target_type place_type field_width hidden hidden-the_row-Expr-0 hidden-the_row-LVal-1
field_width_field _ _ _ _ = refl

pub field_width_var : (p : Program) (f : Function) (x1 : ℕ) → field_width p f (in_LVal.Var x1) ≡ None
unfolding target_type place_type field_width hidden hidden-the_row-Expr-0 hidden-the_row-LVal-1
field_width_var _ _ _ = refl

pub field_width_deref : (p : Program) (f : Function) (x2 : Expr) → field_width p f (in_LVal.Deref x2) ≡ None
unfolding target_type place_type field_width hidden hidden-the_row-Expr-0 hidden-the_row-LVal-1
field_width_deref _ _ _ = refl

pub field_width_index : (p : Program) (f : Function) (x3 : LVal) (x4 : Expr) → field_width p f (in_LVal.Index x3 x4) ≡ None
unfolding target_type place_type field_width hidden hidden-the_row-Expr-0 hidden-the_row-LVal-1
field_width_index _ _ _ _ = refl

pub ruleset place_type_equations = (target_type_const, target_type_null, target_type_load, target_type_addr, target_type_start, target_type_unary, target_type_binary, target_type_cast, place_type_var, place_type_deref, place_type_index, place_type_field, field_width_field, field_width_var, field_width_deref, field_width_index)
