-- constant_at at each variant.
use Rattle.std.specs.Prelude.{◌≡◌, refl, ℕ, ℤ, List}
use denote.Hole.Carrier.{hidden}
use Rattle.program.specs.declared.expressions.UnOp.{UnOp}
use Rattle.program.specs.declared.expressions.BinOp.{BinOp}
use Rattle.elab_types.specs.declared.types.SourceType.{SourceType}
use Rattle.elab_environment.specs.declared.constant.Constant.TheVariants as constant
use Rattle.elab_rules.specs.declared.operand.Operand.{Operand}
use Rattle.elab_rules.specs.declared.operand.Form.TheVariants as form
use Rattle.elab_rules.specs.declared.operand.Form.TheBlock.{hidden-the_row-Operand-0, hidden-the_row-Operand-1}
use Rattle.elab_rules.specs.Sorts.{kind_of}
use Rattle.elab_rules.specs.Constants.{beside, and_also, or_else, chosen, literal, binary_by, unary_by, cast_by, not_by, constant_at}

pub constant_const : (t : SourceType) (v : ℤ) → constant_at t (form.Const v) ≡ literal (kind_of t) v
unfolding constant_at hidden hidden-the_row-Operand-0 hidden-the_row-Operand-1
constant_const _ _ = refl

pub constant_unary : (t : SourceType) (o : UnOp) (x : Operand) → constant_at t (form.Unary o x) ≡ unary_by o (kind_of x.ty) (constant_at x.ty x.form)
unfolding constant_at hidden hidden-the_row-Operand-0 hidden-the_row-Operand-1
constant_unary _ _ _ = refl

pub constant_not : (t : SourceType) (x : Operand) → constant_at t (form.Not x) ≡ not_by (kind_of x.ty) (constant_at x.ty x.form)
unfolding constant_at hidden hidden-the_row-Operand-0 hidden-the_row-Operand-1
constant_not _ _ = refl

pub constant_binary : (t : SourceType) (o : BinOp) (x : Operand) (y : Operand) → constant_at t (form.Binary o x y) ≡ binary_by o (kind_of x.ty) (constant_at x.ty x.form) (constant_at y.ty y.form)
unfolding constant_at hidden hidden-the_row-Operand-0 hidden-the_row-Operand-1
constant_binary _ _ _ _ = refl

pub constant_and : (t : SourceType) (x : Operand) (y : Operand) → constant_at t (form.And x y) ≡ beside (constant_at x.ty x.form) (beside (constant_at y.ty y.form) (and_also (constant_at x.ty x.form) (constant_at y.ty y.form)))
unfolding constant_at hidden hidden-the_row-Operand-0 hidden-the_row-Operand-1
constant_and _ _ _ = refl

pub constant_or : (t : SourceType) (x : Operand) (y : Operand) → constant_at t (form.Or x y) ≡ beside (constant_at x.ty x.form) (beside (constant_at y.ty y.form) (or_else (constant_at x.ty x.form) (constant_at y.ty y.form)))
unfolding constant_at hidden hidden-the_row-Operand-0 hidden-the_row-Operand-1
constant_or _ _ _ = refl

pub constant_cast : (t : SourceType) (x : Operand) → constant_at t (form.Cast x) ≡ cast_by (kind_of t) (kind_of x.ty) (constant_at x.ty x.form)
unfolding constant_at hidden hidden-the_row-Operand-0 hidden-the_row-Operand-1
constant_cast _ _ = refl

pub constant_choose : (t : SourceType) (c : Operand) (x : Operand) (y : Operand) → constant_at t (form.Choose c x y) ≡ beside (constant_at c.ty c.form) (beside (constant_at x.ty x.form) (beside (constant_at y.ty y.form) (chosen (constant_at c.ty c.form) (constant_at x.ty x.form) (constant_at y.ty y.form))))
unfolding constant_at hidden hidden-the_row-Operand-0 hidden-the_row-Operand-1
constant_choose _ _ _ _ = refl

pub constant_faulty : (t : SourceType) → constant_at t form.Faulty ≡ constant.Variable
unfolding constant_at hidden hidden-the_row-Operand-0 hidden-the_row-Operand-1
constant_faulty _ = refl

pub constant_function : (t : SourceType) (x0 : ℕ) (x1 : ℕ) → constant_at t (form.Function x0 x1) ≡ constant.Variable
unfolding constant_at hidden hidden-the_row-Operand-0 hidden-the_row-Operand-1
constant_function _ _ _ = refl

pub constant_object : (t : SourceType) (x0 : ℕ) → constant_at t (form.Object x0) ≡ constant.Variable
unfolding constant_at hidden hidden-the_row-Operand-0 hidden-the_row-Operand-1
constant_object _ _ = refl

pub constant_deref : (t : SourceType) (x0 : Operand) → constant_at t (form.Deref x0) ≡ constant.Variable
unfolding constant_at hidden hidden-the_row-Operand-0 hidden-the_row-Operand-1
constant_deref _ _ = refl

pub constant_index : (t : SourceType) (x0 : Operand) (x1 : Operand) → constant_at t (form.Index x0 x1) ≡ constant.Variable
unfolding constant_at hidden hidden-the_row-Operand-0 hidden-the_row-Operand-1
constant_index _ _ _ = refl

pub constant_indexfirst : (t : SourceType) (x0 : Operand) (x1 : Operand) → constant_at t (form.IndexFirst x0 x1) ≡ constant.Variable
unfolding constant_at hidden hidden-the_row-Operand-0 hidden-the_row-Operand-1
constant_indexfirst _ _ _ = refl

pub constant_field : (t : SourceType) (x0 : Operand) (x1 : ℕ) → constant_at t (form.Field x0 x1) ≡ constant.Variable
unfolding constant_at hidden hidden-the_row-Operand-0 hidden-the_row-Operand-1
constant_field _ _ _ = refl

pub constant_part : (t : SourceType) (x0 : Operand) (x1 : ℕ) → constant_at t (form.Part x0 x1) ≡ constant.Variable
unfolding constant_at hidden hidden-the_row-Operand-0 hidden-the_row-Operand-1
constant_part _ _ _ = refl

pub constant_null : (t : SourceType) → constant_at t form.Null ≡ constant.Variable
unfolding constant_at hidden hidden-the_row-Operand-0 hidden-the_row-Operand-1
constant_null _ = refl

pub constant_load : (t : SourceType) (x0 : Operand) → constant_at t (form.Load x0) ≡ constant.Variable
unfolding constant_at hidden hidden-the_row-Operand-0 hidden-the_row-Operand-1
constant_load _ _ = refl

pub constant_start : (t : SourceType) (x0 : Operand) → constant_at t (form.Start x0) ≡ constant.Variable
unfolding constant_at hidden hidden-the_row-Operand-0 hidden-the_row-Operand-1
constant_start _ _ = refl

pub constant_addr : (t : SourceType) (x0 : Operand) → constant_at t (form.Addr x0) ≡ constant.Variable
unfolding constant_at hidden hidden-the_row-Operand-0 hidden-the_row-Operand-1
constant_addr _ _ = refl

pub constant_comma : (t : SourceType) (x0 : Operand) (x1 : Operand) → constant_at t (form.Comma x0 x1) ≡ constant.Variable
unfolding constant_at hidden hidden-the_row-Operand-0 hidden-the_row-Operand-1
constant_comma _ _ _ = refl

pub constant_assign : (t : SourceType) (x0 : Operand) (x1 : Operand) → constant_at t (form.Assign x0 x1) ≡ constant.Variable
unfolding constant_at hidden hidden-the_row-Operand-0 hidden-the_row-Operand-1
constant_assign _ _ _ = refl

pub constant_update : (t : SourceType) (x0 : Operand) (x1 : BinOp) (x2 : SourceType) (x3 : Operand) → constant_at t (form.Update x0 x1 x2 x3) ≡ constant.Variable
unfolding constant_at hidden hidden-the_row-Operand-0 hidden-the_row-Operand-1
constant_update _ _ _ _ _ = refl

pub constant_postupdate : (t : SourceType) (x0 : Operand) (x1 : BinOp) (x2 : SourceType) (x3 : Operand) → constant_at t (form.PostUpdate x0 x1 x2 x3) ≡ constant.Variable
unfolding constant_at hidden hidden-the_row-Operand-0 hidden-the_row-Operand-1
constant_postupdate _ _ _ _ _ = refl

pub constant_call : (t : SourceType) (x0 : ℕ) (x1 : List Operand) → constant_at t (form.Call x0 x1) ≡ constant.Variable
unfolding constant_at hidden hidden-the_row-Operand-0 hidden-the_row-Operand-1
constant_call _ _ _ = refl

pub constant_discard : (t : SourceType) (x0 : Operand) → constant_at t (form.Discard x0) ≡ constant.Variable
unfolding constant_at hidden hidden-the_row-Operand-0 hidden-the_row-Operand-1
constant_discard _ _ = refl

pub ruleset constant_equations = (constant_const, constant_unary, constant_not, constant_binary, constant_and, constant_or, constant_cast, constant_choose, constant_faulty, constant_function, constant_object, constant_deref, constant_index, constant_indexfirst, constant_field, constant_part, constant_null, constant_load, constant_start, constant_addr, constant_comma, constant_assign, constant_update, constant_postupdate, constant_call, constant_discard)
