-- Which files are lists of functions `int NAME(void) { return E; }` that return constants.
use Rattle.std.specs.Prelude.{ℕ, ◌+◌, ◌<◌, ◌^◌, nat_lt, pos, Bool, true, false, not, ◌&&◌, if◌then◌else◌, List, [], ◌∷◌, slice_get, bytes_eq, Option, Some, None, option_and_then}
use Rattle.std.specs.Option.{option_map}
use Rattle.std.specs.List.{list_any}
use lib.Chars.{codes}
use Rattle.c_lex.specs.Bytes.{Text}
use Rattle.c_lex.specs.Source.{text_in}
use Rattle.c_lex.specs.Constant.{int_constant}
use Rattle.c_lex.specs.declared.constant.IntConstant.{IntConstant}
use Rattle.c_lex.specs.declared.constant.Longs.{Longs}
use Rattle.c_lex.specs.declared.constant.Longs.TheVariants as longs
use Rattle.c_types.specs.declared.types.IntKind.TheVariants as kind
use Rattle.program.specs.declared.expressions.UnOp.TheVariants as un
use Rattle.program.specs.declared.expressions.BinOp.{BinOp}
use Rattle.program.specs.declared.expressions.BinOp.TheVariants as op
use Rattle.program.specs.declared.expressions.Expr.{Expr}
use Rattle.program.specs.declared.expressions.Expr.TheVariants as expr
use Rattle.c_lex.specs.declared.token.Token.{Token}
use Rattle.program.specs.declared.graph.Place.{Place}
use Rattle.program.specs.Numbers.{count_expr}
use Rattle.normal_form.specs.ConstantExpression.{IsConstant}
use Rattle.normal_form.specs.declared.constant.Returning.{Returning}
use Rattle.c_tree.specs.declared.tree.Unit.{Unit as Tree}
use Rattle.c_tree.specs.declared.tree.Item.{Item}
use Rattle.c_tree.specs.declared.tree.Item.TheVariants as item
use Rattle.c_tree.specs.declared.tree.Spec.{Spec}
use Rattle.c_tree.specs.declared.tree.Spec.TheVariants as specifier
use Rattle.c_tree.specs.declared.tree.Param.{Param}
use Rattle.c_tree.specs.declared.tree.Declarator.{Declarator}
use Rattle.c_tree.specs.declared.tree.DeclForm.{DeclForm, out-DeclForm}
use Rattle.c_tree.specs.declared.tree.DeclForm.TheOpen.{DeclForm-F}
use Rattle.c_tree.specs.declared.tree.DeclForm.TheVariants as decl
use Rattle.c_tree.specs.declared.tree.MemberLine.{MemberLine}
use Rattle.c_tree.specs.declared.tree.MemberPart.{MemberPart}
use Rattle.c_tree.specs.declared.tree.Enumerator.{Enumerator}
use Rattle.c_tree.specs.declared.tree.Stmt.{Stmt}
use Rattle.c_tree.specs.declared.tree.StmtForm.{StmtForm, out-StmtForm}
use Rattle.c_tree.specs.declared.tree.BlockItem.{BlockItem, out-BlockItem}
use Rattle.c_tree.specs.declared.tree.BlockItem.TheOpen.{BlockItem-F, StmtForm-F}
use Rattle.c_tree.specs.declared.tree.Ex.{Ex}
use Rattle.c_tree.specs.declared.tree.ExForm.{ExForm, end_of-Ex, more_of-Ex}
use Rattle.c_tree.specs.declared.tree.ExForm.TheVariants.{Int, Paren', Unary', Binary'}

abbrev pub is_zero : Longs → Bool
is_zero longs.Zero = true
is_zero _ = false

-- 6.4.4.1p5: int is the type of a constant that it can represent, where no suffix says otherwise
abbrev pub is_int : IntConstant → Bool
is_int c = not c.unsigned && (is_zero c.longs && nat_lt c.value 2147483648)

abbrev pub int_of : Option IntConstant → Option Expr
int_of (Some c) = if is_int c then Some (expr.Const kind.Int (pos c.value)) else None
int_of None = None

-- 6.5.5, 6.5.6
abbrev pub operator : Text → Option BinOp
operator w =
    if bytes_eq w (codes "+") then Some op.Add
    else (if bytes_eq w (codes "-") then Some op.Sub
    else (if bytes_eq w (codes "*") then Some op.Mul
    else (if bytes_eq w (codes "/") then Some op.Div else None)))

-- 6.5.3.3
abbrev pub negated : Text → Option Expr → Option Expr
negated w a = if bytes_eq w (codes "-") then option_map (expr.Unary un.Neg) a else None

abbrev pub combined : Option BinOp → Option Expr → Option Expr → Option Expr
combined (Some o) (Some a) (Some b) = Some (expr.Binary o a b)
combined _ _ _ = None

-- The expression that a node at a token stands for, where it is made of int constants, brackets, unary `-` and binary
-- `+ - * /`. `text` gives the text of each token.
unfoldable pub constant_at : (ℕ → Text) → ℕ → ExForm → Option Expr
constant_at text at Int = int_of (int_constant (text at))
constant_at text at (Paren' _ (more_of-Ex i f end_of-Ex)) = constant_at text i f
constant_at text at (Unary' _ (more_of-Ex i f end_of-Ex)) = negated (text at) (constant_at text i f)
constant_at text at (Binary' o _ (more_of-Ex i f end_of-Ex) _ (more_of-Ex j g end_of-Ex)) =
    combined (operator (text o)) (constant_at text i f) (constant_at text j g)
constant_at text at _ = None

abbrev pub constant_of : (ℕ → Text) → Ex → Option Expr
constant_of text e = constant_at text e.at e.form

-- ---- a definition

-- the token of the only specifier, where it is one word (6.7)
abbrev pub one_word : List Spec → Option ℕ
one_word (specifier.Word at ∷ []) = Some at
one_word _ = None

abbrev pub is_text : Text → Option Text → Bool
is_text word (Some t) = bytes_eq t word
is_text word None = false

abbrev pub is_word : (ℕ → Text) → Text → List Spec → Bool
is_word text word specs = is_text word (option_map text (one_word specs))

abbrev pub is_unnamed : DeclForm → Bool
is_unnamed decl.Abstract = true
is_unnamed _ = false

-- 6.7.6.3p10: `(void)` says that there are no parameters. 6.7.6.3p14: so does `()` in a definition.
abbrev pub no_parameters : (ℕ → Text) → List Param → Bool
no_parameters text [] = true
no_parameters text (p ∷ []) = is_unnamed p.declarator.form && is_word text (codes "void") p.specs
no_parameters text _ = false

abbrev pub name_if : Bool → Declarator → DeclForm → Option ℕ
name_if true d decl.Name = Some d.at
name_if _ d _ = None

-- one level of a declarator
abbrev pub DeclaratorLevel : Type 0
DeclaratorLevel = DeclForm-F DeclForm ExForm Spec Declarator Enumerator Ex MemberLine MemberPart Param

abbrev pub name_at : (ℕ → Text) → DeclaratorLevel → Option ℕ
name_at text (DeclForm-F.Function inner params false) = name_if (no_parameters text params) inner inner.form
name_at text _ = None

-- the token of the name in `NAME(void)` (6.7.6.3)
abbrev pub name_of : (ℕ → Text) → DeclForm → Option ℕ
name_of text form = name_at text (out-DeclForm form)

-- one level of a block item, and of a statement
abbrev pub BlockItemLevel : Type 0
BlockItemLevel = BlockItem-F BlockItem StmtForm Stmt

abbrev pub StatementLevel : Type 0
StatementLevel = StmtForm-F BlockItem StmtForm Stmt

abbrev pub statement_at : BlockItemLevel → Option Stmt
statement_at (BlockItem-F.Stmt s) = Some s
statement_at _ = None

abbrev pub one_statement : List BlockItem → Option Stmt
one_statement (i ∷ []) = statement_at (out-BlockItem i)
one_statement _ = None

abbrev pub statements_at : StatementLevel → Option Stmt
statements_at (StmtForm-F.Block items) = one_statement items
statements_at _ = None

-- the only statement of a block (6.8.2)
abbrev pub only_statement : Stmt → Option Stmt
only_statement body = statements_at (out-StmtForm body.form)

abbrev pub returned_at : StatementLevel → Option Ex
returned_at (StmtForm-F.Return e) = e
returned_at _ = None

-- the expression that a `return` returns (6.8.6.4)
abbrev pub returned : Stmt → Option Ex
returned s = returned_at (out-StmtForm s.form)

-- the place of a token's line
abbrev pub option_place : Option Token → Place
option_place (Some t) = record { name_at = t.place.name_at; name_len = t.place.name_len; line = t.place.line }
option_place None = record { name_at = 0; name_len = 0; line = 0 }

abbrev pub place_of : List Token → ℕ → Place
place_of tokens i = option_place (slice_get tokens i)

-- the definition of the name at a token, whose body is one statement: what it returns, and the place of that statement
abbrev pub returning : Text → List Token → ℕ → Stmt → Option Returning
returning file tokens name s =
    option_map (λ e. record { name = text_in file tokens name; value = e; place = place_of tokens s.at })
    (option_and_then (constant_of (text_in file tokens)) (returned s))

-- 6.9.1: `int NAME(void) { return E; }`
abbrev pub definition_of : Text → List Token → Item → Option Returning
definition_of file tokens (item.Function at specs d body) =
    if is_word (text_in file tokens) (codes "int") specs
    then option_and_then (λ name. option_and_then (returning file tokens name) (only_statement body)) (name_of (text_in file tokens) d.form)
    else None
definition_of file tokens _ = None

-- ---- a file

abbrev pub all_definitions : Text → List Token → List Item → Option (List Returning)
all_definitions file tokens [] = Some []
all_definitions file tokens (i ∷ items) =
    option_and_then (λ d. option_map (λ ds. d ∷ ds) (all_definitions file tokens items)) (definition_of file tokens i)

-- 6.9p5: a name is defined once
abbrev pub names_differ : List Returning → Bool
names_differ [] = true
names_differ (d ∷ ds) = not (list_any (λ e. bytes_eq d.name e.name) ds) && names_differ ds

abbrev pub if_names_differ : List Returning → Option (List Returning)
if_names_differ ds = if names_differ ds then Some ds else None

-- the definitions of a file of the form, in text order; none where its tree isn't of the form
abbrev pub definitions : Text → List Token → Tree → Option (List Returning)
definitions file tokens tree = option_and_then if_names_differ (all_definitions file tokens tree.items)

-- The value is a constant expression. The numbers of its subexpressions lie below 2^32, that of the target among them.
pub record IsReturning (d : Returning) : Type 0 where
  pub constant : IsConstant d.value
  pub numbered : 1 + count_expr d.value < 2 ^ 32
