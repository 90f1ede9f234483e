-- kind_of, is_address at each variant; written by tools/equations.py.
use Rattle.std.specs.Prelude.{◌≡◌, true, false}
use Rattle.c_types.specs.declared.types.IntKind.{IntKind}
use Rattle.c_types.specs.declared.types.IntKind.TheVariants as kind
use Rattle.c_types.specs.declared.types.CType.{CType}
use Rattle.program.specs.declared.expressions.BinOp.{BinOp}
use Rattle.program.specs.declared.expressions.Expr.{Expr}
use Rattle.program.specs.declared.expressions.Expr.TheVariants.{Const, Null, Load, Addr, Start}
use Rattle.program.specs.declared.expressions.LVal.{LVal}
use Rattle.program.specs.Typing.{is_pointer}
use Rattle.c_meaning.specs.PlaceTypes.{kind_of_type, result_kind, kind_of, moves_pointer, is_address}
use Rattle.std.specs.Prelude.{ℤ, refl}
use Rattle.program.specs.declared.expressions.UnOp.{UnOp}
use Rattle.program.specs.declared.expressions.Expr.TheVariants as in_Expr
use denote.Hole.Carrier.{hidden}
use Rattle.program.specs.declared.expressions.Expr.TheBlock.{hidden-the_row-Expr-0, hidden-the_row-LVal-1}

pub kind_of_const : (k : IntKind) (v : ℤ) → kind_of (in_Expr.Const k v) ≡ k
unfolding kind_of is_address hidden hidden-the_row-Expr-0 hidden-the_row-LVal-1
kind_of_const _ _ = refl

pub kind_of_null : kind_of in_Expr.Null ≡ kind.Int
unfolding kind_of is_address hidden hidden-the_row-Expr-0 hidden-the_row-LVal-1
kind_of_null = refl

pub kind_of_load : (l : LVal) (t : CType) → kind_of (in_Expr.Load l t) ≡ kind_of_type t
unfolding kind_of is_address hidden hidden-the_row-Expr-0 hidden-the_row-LVal-1
kind_of_load _ _ = refl

pub kind_of_addr : (l : LVal) → kind_of (in_Expr.Addr l) ≡ kind.Int
unfolding kind_of is_address hidden hidden-the_row-Expr-0 hidden-the_row-LVal-1
kind_of_addr _ = refl

pub kind_of_start : (l : LVal) → kind_of (in_Expr.Start l) ≡ kind.Int
unfolding kind_of is_address hidden hidden-the_row-Expr-0 hidden-the_row-LVal-1
kind_of_start _ = refl

pub kind_of_unary : (op : UnOp) (a : Expr) → kind_of (in_Expr.Unary op a) ≡ kind_of a
unfolding kind_of is_address hidden hidden-the_row-Expr-0 hidden-the_row-LVal-1
kind_of_unary _ _ = refl

pub kind_of_binary : (op : BinOp) (a : Expr) (b : Expr) → kind_of (in_Expr.Binary op a b) ≡ result_kind op (kind_of a)
unfolding kind_of is_address hidden hidden-the_row-Expr-0 hidden-the_row-LVal-1
kind_of_binary _ _ _ = refl

pub kind_of_cast : (t : CType) (a : Expr) → kind_of (in_Expr.Cast t a) ≡ kind_of_type t
unfolding kind_of is_address hidden hidden-the_row-Expr-0 hidden-the_row-LVal-1
kind_of_cast _ _ = refl

pub is_address_const : (k : IntKind) (v : ℤ) → is_address (in_Expr.Const k v) ≡ false
unfolding kind_of is_address hidden hidden-the_row-Expr-0 hidden-the_row-LVal-1
is_address_const _ _ = refl

pub is_address_null : is_address in_Expr.Null ≡ true
unfolding kind_of is_address hidden hidden-the_row-Expr-0 hidden-the_row-LVal-1
is_address_null = refl

pub is_address_load : (l : LVal) (t : CType) → is_address (in_Expr.Load l t) ≡ is_pointer t
unfolding kind_of is_address hidden hidden-the_row-Expr-0 hidden-the_row-LVal-1
is_address_load _ _ = refl

pub is_address_addr : (l : LVal) → is_address (in_Expr.Addr l) ≡ true
unfolding kind_of is_address hidden hidden-the_row-Expr-0 hidden-the_row-LVal-1
is_address_addr _ = refl

pub is_address_start : (l : LVal) → is_address (in_Expr.Start l) ≡ true
unfolding kind_of is_address hidden hidden-the_row-Expr-0 hidden-the_row-LVal-1
is_address_start _ = refl

pub is_address_unary : (op : UnOp) (x0 : Expr) → is_address (in_Expr.Unary op x0) ≡ false
unfolding kind_of is_address hidden hidden-the_row-Expr-0 hidden-the_row-LVal-1
is_address_unary _ _ = refl

pub is_address_binary : (op : BinOp) (x0 : Expr) (x1 : Expr) → is_address (in_Expr.Binary op x0 x1) ≡ moves_pointer op
unfolding kind_of is_address hidden hidden-the_row-Expr-0 hidden-the_row-LVal-1
is_address_binary _ _ _ = refl

pub is_address_cast : (t : CType) (x0 : Expr) → is_address (in_Expr.Cast t x0) ≡ is_pointer t
unfolding kind_of is_address hidden hidden-the_row-Expr-0 hidden-the_row-LVal-1
is_address_cast _ _ = refl

pub ruleset kind_equations = (kind_of_const, kind_of_null, kind_of_load, kind_of_addr, kind_of_start, kind_of_unary, kind_of_binary, kind_of_cast, is_address_const, is_address_null, is_address_load, is_address_addr, is_address_start, is_address_unary, is_address_binary, is_address_cast)
