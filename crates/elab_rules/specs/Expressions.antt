-- The operand that an expression is (C11 6.5): its parts are elaborated in text order, and the rules on operands do the rest.
use Rattle.std.specs.Prelude.{ℕ, zero, suc, ◌+◌, ◌-◌, nat_le, ◌==◌, pos, Bool, true, false, ◌&&◌, ◌||◌, if◌then◌else◌, List, [], ◌∷◌, ◌++◌, length, slice_get, Option, Some, None, is_some}
use Rattle.elab_findings.specs.declared.fault.Rule.TheVariants.{UnknownName, OutOfProfile}
use Rattle.c_tree.specs.declared.tree.DeclForm.{DeclForm}
use Rattle.c_tree.specs.declared.tree.DeclForm.TheOpen.{ExForm-F}
use Rattle.c_tree.specs.declared.tree.ExForm.{ExForm, out-ExForm}
use Rattle.c_tree.specs.declared.tree.Spec.{Spec}
use Rattle.c_tree.specs.declared.tree.Declarator.{Declarator}
use Rattle.c_tree.specs.declared.tree.Enumerator.{Enumerator}
use Rattle.c_tree.specs.declared.tree.Ex.{Ex}
use Rattle.c_tree.specs.declared.tree.MemberLine.{MemberLine}
use Rattle.c_tree.specs.declared.tree.MemberPart.{MemberPart}
use Rattle.c_tree.specs.declared.tree.Param.{Param}
use Rattle.c_types.specs.declared.types.IntKind.TheVariants as kind
use Rattle.program.specs.declared.expressions.UnOp.TheVariants as un
use Rattle.program.specs.declared.expressions.BinOp.{BinOp}
use Rattle.program.specs.declared.expressions.BinOp.TheVariants as op
use Rattle.elab_types.specs.declared.types.SourceType.{SourceType, out-SourceType}
use Rattle.elab_types.specs.declared.types.SourceType.TheOpen.{SourceType-F}
use Rattle.elab_types.specs.declared.types.SourceType.TheVariants as source
use Rattle.elab_types.specs.Qualified.{no_qualifiers, unqualified}
use Rattle.elab_environment.specs.declared.lexeme.Lexeme.{Lexeme}
use Rattle.elab_environment.specs.declared.lexeme.Operator.{Operator}
use Rattle.elab_environment.specs.declared.lexeme.Operator.TheVariants as operator
use Rattle.elab_environment.specs.declared.state.Linkage.{Linkage}
use Rattle.elab_environment.specs.declared.state.Linkage.TheVariants as linkage
use Rattle.elab_environment.specs.declared.state.Standing.{Standing}
use Rattle.elab_environment.specs.declared.state.Standing.TheVariants as standing
use Rattle.elab_environment.specs.declared.state.Standing.TheVariants.{Literal}
use Rattle.elab_types.specs.declared.types.Extent.TheVariants as extent
use Rattle.elab_environment.specs.declared.lexeme.Lexeme.TheVariants as lexeme
use Rattle.elab_environment.specs.declared.state.Entity.{Entity}
use Rattle.elab_environment.specs.declared.state.Entity.TheVariants as entity
use Rattle.elab_environment.specs.declared.state.Named.{Named}
use Rattle.elab_environment.specs.declared.state.Object.{Object}
use Rattle.elab_environment.specs.declared.state.Prototype.{Prototype}
use Rattle.elab_environment.specs.declared.state.Environment.{Environment}
use Rattle.elab_environment.specs.Elaborating.{Elaborating, and_then, ◌>>=◌, ◌>>◌, pure, done}
use Rattle.elab_environment.specs.Steps.{refuse, hold, mention, find, name_at, lexeme_at}
use Rattle.elab_environment.specs.Complete.{is_complete}
use Rattle.elab_environment.specs.Objects.{new_object}
use Rattle.elab_environment.specs.Tags.{or_zero}
use Rattle.elab_rules.specs.Nest.{Nest}
use Rattle.elab_rules.specs.declared.operand.Operand.{Operand}
use Rattle.elab_rules.specs.declared.operand.Form.{Form}
use Rattle.elab_rules.specs.declared.operand.Form.TheVariants as form
use Rattle.elab_rules.specs.Sorts.{TypeLevel, is_unusable, is_void, is_function, struct_of}
use Rattle.elab_rules.specs.Operands.{level, operand, faulty, number, function_named, designated, old_form, params_of}
use Rattle.elab_rules.specs.Conversions.{type_error, left_out, value, assigned}
use Rattle.elab_rules.specs.Operators.{binary, logical, unary, plus, negation, indirection, address, size_of_type, size_of_operand, conditional}
use Rattle.elab_rules.specs.Accesses.{subscript, member, arrow, cast, assign, update, one}
use Rattle.elab_rules.specs.declared.operators.Binary.{Binary}
use Rattle.elab_rules.specs.declared.operators.Binary.TheVariants as binary_operator
use Rattle.elab_rules.specs.declared.operators.Unary.{Unary}
use Rattle.elab_rules.specs.declared.operators.Unary.TheVariants as unary_operator
use Rattle.elab_rules.specs.declared.operators.Assigns.{Assigns}
use Rattle.elab_rules.specs.declared.operators.Assigns.TheVariants as assigns

abbrev pub ExLevel : Type 0
ExLevel = ExForm-F DeclForm ExForm Spec Declarator Enumerator Ex MemberLine MemberPart Param

-- ---- what is read of the tokens of operators and strings

-- 6.5.5 to 6.5.12
abbrev pub plain_of : Operator → Option BinOp
plain_of operator.Star = Some op.Mul
plain_of operator.Slash = Some op.Div
plain_of operator.Percent = Some op.Rem
plain_of operator.Plus = Some op.Add
plain_of operator.Minus = Some op.Sub
plain_of operator.ShiftLeft = Some op.Shl
plain_of operator.ShiftRight = Some op.Shr
plain_of operator.Less = Some op.Lt
plain_of operator.LessOrEqual = Some op.Le
plain_of operator.Greater = Some op.Gt
plain_of operator.GreaterOrEqual = Some op.Ge
plain_of operator.Equal = Some op.Eq
plain_of operator.NotEqual = Some op.Ne
plain_of operator.Ampersand = Some op.And
plain_of operator.Caret = Some op.Xor
plain_of operator.Bar = Some op.Or
plain_of _ = None

abbrev pub plain : Option BinOp → Option Binary
plain (Some o) = Some (binary_operator.Plain o)
plain None = None

abbrev pub binary_of : Lexeme → Option Binary
binary_of (lexeme.Operator operator.And) = Some binary_operator.And
binary_of (lexeme.Operator operator.Or) = Some binary_operator.Or
binary_of (lexeme.Operator o) = plain (plain_of o)
binary_of _ = None

-- 6.5.3
abbrev pub unary_of : Lexeme → Option Unary
unary_of (lexeme.Operator operator.Ampersand) = Some unary_operator.Address
unary_of (lexeme.Operator operator.Star) = Some unary_operator.Indirection
unary_of (lexeme.Operator operator.Plus) = Some unary_operator.Plus
unary_of (lexeme.Operator operator.Minus) = Some unary_operator.Minus
unary_of (lexeme.Operator operator.Tilde) = Some unary_operator.Complement
unary_of (lexeme.Operator operator.Not) = Some unary_operator.Not
unary_of (lexeme.Operator operator.Increment) = Some unary_operator.Increment
unary_of (lexeme.Operator operator.Decrement) = Some unary_operator.Decrement
unary_of _ = None

abbrev pub compound : Option BinOp → Option Assigns
compound (Some o) = Some (assigns.Compound o)
compound None = None

-- 6.5.16
abbrev pub assigns_of : Lexeme → Option Assigns
assigns_of lexeme.Assign = Some assigns.Plain
assigns_of (lexeme.Compound o) = compound (plain_of o)
assigns_of _ = None

abbrev pub bytes_at : Lexeme → ℕ
bytes_at (lexeme.Str place n) = n
bytes_at _ = 0

-- how many bytes neighbouring literals have together
abbrev pub joined : Environment → ℕ → ℕ → ℕ
joined s at zero = 0
joined s at (suc n) = bytes_at (lexeme_at s at) + joined s (suc at) n

-- 6.4.5p6: an array of characters with the zero that ends it
abbrev pub literal_type : ℕ → SourceType
literal_type n = source.Array (source.Int kind.Char no_qualifiers) (extent.Length (n + 1))

abbrev pub literal_object : ℕ → SourceType → ℕ → Object
literal_object at t d = record {
  name = None;
  at = at;
  ty = t;
  standing = Literal;
  is_register = false;
  is_defined = true;
  declaration = d;
  initialiser = None;
}

abbrev pub string_typed : ℕ → SourceType → Elaborating Operand
string_typed at t = λ s. (new_object (literal_object at t s.declaration) >>= (λ o. pure (operand t (form.Object o)))) s

unfoldable pub string_operand : ℕ → ℕ → Elaborating Operand
string_operand at n = λ s. string_typed at (literal_type (joined s at n)) s

-- ---- names and constants (6.5.1)

abbrev pub object_operand : ℕ → Option Object → Operand
object_operand n (Some o) = record { ty = o.ty; bits = None; is_register = o.is_register; form = form.Object n }
object_operand n None = faulty

abbrev pub function_operand : ℕ → ℕ → Option Prototype → Operand
function_operand at n (Some f) = operand f.ty (form.Function n at)
function_operand at n None = faulty

-- 6.9p3: a function that is named outside `sizeof`
abbrev pub note_function : ℕ → ℕ → Elaborating (Unit {0})
note_function at n = λ s. (tt, if s.unevaluated == 0 then record s { named_functions = s.named_functions ++ (n, at) ∷ [] } else s)

abbrev pub is_internal : Linkage → Bool
is_internal linkage.Internal = true
is_internal linkage.External = false

abbrev pub stands_internal : Standing → Bool
stands_internal (standing.Linked l) = is_internal l
stands_internal _ = false

abbrev pub object_is_internal : Option Object → Bool
object_is_internal (Some o) = stands_internal o.standing
object_is_internal None = false

abbrev pub function_is_internal : Option Prototype → Bool
function_is_internal (Some f) = is_internal f.linkage
function_is_internal None = false

-- 6.7.4p3: an identifier with internal linkage in a function's body
abbrev pub note_internal : ℕ → Option ℕ → Bool → Elaborating (Unit {0})
note_internal at (Some f) true = λ s. (tt, record s { not_inline = s.not_inline ++ record { function = f; at = at } ∷ [] })
note_internal at (Some f) false = done
note_internal at None internal = done

abbrev pub object_named : ℕ → ℕ → Elaborating Operand
object_named at n = λ s. (note_internal at s.body_of (object_is_internal (slice_get s.objects n)) >> pure (object_operand n (slice_get s.objects n))) s

abbrev pub function_designator : ℕ → ℕ → Elaborating Operand
function_designator at n = λ s.
    (note_internal at s.body_of (function_is_internal (slice_get s.functions n)) >> note_function at n >> pure (function_operand at n (slice_get s.functions n))) s

abbrev pub entity_operand : ℕ → Entity → Elaborating Operand
entity_operand at (entity.Enumerator v) = pure (number kind.Int v)
entity_operand at (entity.Object n) = object_named at n
entity_operand at (entity.Function n) = function_designator at n
entity_operand at (entity.Typedef t) = pure faulty

abbrev pub named_operand : ℕ → Option Named → Elaborating Operand
named_operand at (Some n) = mention n.declaration >> entity_operand at n.entity
named_operand at None = refuse at UnknownName >> pure faulty

abbrev pub name_by : ℕ → Option ℕ → Elaborating Operand
name_by at (Some name) = λ s. named_operand at (find s name) s
name_by at None = pure faulty

abbrev pub literal_operand : Lexeme → Operand
literal_operand (lexeme.Int k v) = number k (pos v)
literal_operand (lexeme.Char v) = number kind.Int v
literal_operand _ = faulty

-- ---- what stands around an operand

abbrev pub old_by : Operand → Option Form → Operand
old_by x (Some f) = operand x.ty f
old_by x None = x

-- 6.5.2.4: the old value of what is updated
abbrev pub old_of : Operand → Operand
old_of x = old_by x (old_form x.form)

-- 6.5.17
abbrev pub comma : Operand → Operand → Operand
comma x y = if is_unusable y.ty then faulty else operand y.ty (form.Comma x y)

abbrev pub unless_function : Option ℕ → Elaborating (Unit {0})
unless_function (Some at) = hold at OutOfProfile
unless_function None = done

-- a function designator that is neither called nor an operand of `sizeof` or `&` is left out
abbrev pub no_function : Operand → Elaborating (Unit {0})
no_function x = unless_function (function_named x.form)

-- 6.5.4p2: a cast to void discards its operand
abbrev pub cast_to : ℕ → SourceType → Operand → Elaborating Operand
cast_to at t x = if is_void t then no_function x >> pure (operand (source.Void no_qualifiers) (form.Discard x)) else value x >>= cast at t

-- ---- calls (6.5.2.2)

abbrev pub passed_as : ℕ → Option SourceType → Operand → Elaborating Operand
passed_as at (Some t) x = assigned at t x
passed_as at None x = pure x

abbrev pub fits_count : Bool → ℕ → ℕ → Bool
fits_count variadic params args = if variadic then nat_le params args else params == args

-- a call is noted for the end of the file
abbrev pub note_call : ℕ → ℕ → Elaborating (Unit {0})
note_call n at = λ s. (tt, record s { calls = s.calls ++ record { declaration = s.declaration; function = n; at = at } ∷ [] })

abbrev pub call_result : SourceType → ℕ → List Operand → Operand
call_result t n xs = if is_unusable t || is_some (struct_of t) then faulty else operand (unqualified t) (form.Call n xs)

-- 6.5.2.2p1: the result is void or complete; p2: as many arguments as parameters
abbrev pub may_call : Environment → SourceType → List SourceType → Bool → List Operand → Bool
may_call s t ts variadic xs = (is_void t || is_complete s t) && fits_count variadic (length ts) (length xs)

abbrev pub call_of : ℕ → ℕ → ℕ → SourceType → List SourceType → Bool → List Operand → Elaborating Operand
call_of at name n t ts variadic xs = λ s.
    if may_call s t ts variadic xs
    then (if variadic then hold at OutOfProfile >> note_call n name >> pure faulty else note_call n name >> pure (call_result t n xs)) s
    else type_error at s

abbrev pub call_function : ℕ → ℕ → ℕ → TypeLevel → List Operand → Elaborating Operand
call_function at name n (SourceType-F.Function t ts v) xs = call_of at name n t ts v xs
call_function at name n _ xs = pure faulty

abbrev pub is_function_pointer_at : TypeLevel → Bool
is_function_pointer_at (SourceType-F.Pointer t q) = is_function t || is_unusable t
is_function_pointer_at _ = false

abbrev pub is_function_pointer : SourceType → Bool
is_function_pointer t = is_function_pointer_at (out-SourceType t)

abbrev pub call_value : ℕ → Operand → Elaborating Operand
call_value at v = if is_unusable v.ty || is_function_pointer v.ty then pure faulty else type_error at

-- a call of what isn't a function's name: a pointer to a function is left out already
abbrev pub call_by : ℕ → Operand → Option (ℕ × ℕ) → List Operand → Elaborating Operand
call_by at x (Some f) xs = call_function at f.1 f.0 (level x) xs
call_by at x None xs = value x >>= call_value at

abbrev pub call : ℕ → Operand → List Operand → Elaborating Operand
call at x xs = call_by at x (designated x.form) xs

-- ---- parts

abbrev pub binary_on : ℕ → Option Binary → Operand → Operand → Elaborating Operand
binary_on at (Some binary_operator.And) x y = logical form.And at x y
binary_on at (Some binary_operator.Or) x y = logical form.Or at x y
binary_on at (Some (binary_operator.Plain o)) x y = binary at o x y
binary_on at None x y = pure faulty

abbrev pub assign_by : ℕ → Option Assigns → Operand → Operand → Elaborating Operand
assign_by at (Some assigns.Plain) l v = assign at l v
assign_by at (Some (assigns.Compound o)) l v = update at o l v
assign_by at None l v = pure faulty

-- 6.5.3.4p2: the operand isn't evaluated
abbrev pub unevaluated : {A : Type 0} → Elaborating A → Elaborating A
unevaluated p = λ s. and_then (p (record s { unevaluated = s.unevaluated + 1 })) (λ a t. (a, record t { unevaluated = t.unevaluated - 1 }))

module _ (sub : Nest) where
  abbrev pub valued : Ex → Elaborating Operand
  valued e = sub.ex e >>= value

  -- 6.5.3.1p2: `++e` and `--e` are `e += 1` and `e -= 1`
  abbrev pub stepped : ℕ → BinOp → Ex → Elaborating Operand
  stepped at o e = sub.ex e >>= (λ x. update at o x one)

  abbrev pub post : ℕ → BinOp → Ex → Elaborating Operand
  post at o e = stepped at o e >>= (λ x. pure (old_of x))

  -- 6.5.3: `&`, `++` and `--` take the operand as it stands, the others its value
  abbrev pub unary_by : ℕ → Option Unary → Ex → Elaborating Operand
  unary_by at (Some unary_operator.Address) e = sub.ex e >>= address at
  unary_by at (Some unary_operator.Increment) e = stepped at op.Add e
  unary_by at (Some unary_operator.Decrement) e = stepped at op.Sub e
  unary_by at (Some unary_operator.Indirection) e = valued e >>= indirection at
  unary_by at (Some unary_operator.Plus) e = valued e >>= plus at
  unary_by at (Some unary_operator.Minus) e = valued e >>= unary at un.Neg
  unary_by at (Some unary_operator.Complement) e = valued e >>= unary at un.Not
  unary_by at (Some unary_operator.Not) e = valued e >>= negation at
  unary_by at None e = pure faulty

  abbrev pub binary_expression : ℕ → ℕ → Ex → Ex → Elaborating Operand
  binary_expression at o a b = valued a >>= (λ x. valued b >>= (λ y s. binary_on at (binary_of (lexeme_at s o)) x y s))

  abbrev pub assignment : ℕ → ℕ → Ex → Ex → Elaborating Operand
  assignment at o a b = sub.ex a >>= (λ l. valued b >>= (λ v s. assign_by at (assigns_of (lexeme_at s o)) l v s))

  abbrev pub choice_expression : ℕ → Ex → Ex → Ex → Elaborating Operand
  choice_expression at c a b = valued c >>= (λ x. valued a >>= (λ y. valued b >>= conditional at x y))

  abbrev pub comma_expression : Ex → Ex → Elaborating Operand
  comma_expression a b = sub.ex a >>= (λ x. no_function x >> valued b >>= (λ y. pure (comma x y)))

  -- 6.5.2.2p2, p7: further arguments behind those so far, each converted to its parameter's type
  abbrev pub arguments : ℕ → List SourceType → List Operand → List Ex → Elaborating (List Operand)
  arguments at ts xs [] = pure xs
  arguments at ts xs (e ∷ es) = valued e >>= passed_as at (slice_get ts (length xs)) >>= (λ x. arguments at ts (xs ++ x ∷ []) es)

  abbrev pub call_expression : ℕ → Ex → List Ex → Elaborating Operand
  call_expression at f es = sub.ex f >>= (λ x. arguments at (params_of x.ty) [] es >>= call at x)

  abbrev pub index_expression : ℕ → Ex → Ex → Elaborating Operand
  index_expression at a b = sub.ex a >>= (λ x. sub.ex b >>= subscript at x)

  abbrev pub member_expression : ℕ → Ex → ℕ → Elaborating Operand
  member_expression at a token = sub.ex a >>= (λ x s. member at token (or_zero (name_at s token)) x s)

  abbrev pub arrow_expression : ℕ → Ex → ℕ → Elaborating Operand
  arrow_expression at a token = valued a >>= (λ x s. arrow at token (or_zero (name_at s token)) x s)

  abbrev pub cast_expression : ℕ → Param → Ex → Elaborating Operand
  cast_expression at p e = sub.type_name p >>= (λ t. sub.ex e >>= cast_to at t)

  abbrev pub size_of_named : ℕ → Param → Elaborating Operand
  size_of_named at p = sub.type_name p >>= size_of_type at

  abbrev pub size_of_part : ℕ → Ex → Elaborating Operand
  size_of_part at e = unevaluated (sub.ex e) >>= size_of_operand at

  -- ---- an expression

  abbrev pub expression_at : ℕ → ExLevel → Elaborating Operand
  expression_at at ExForm-F.«ExForm::Name» = λ s. name_by at (name_at s at) s
  expression_at at ExForm-F.Int = λ s. (literal_operand (lexeme_at s at), s)
  expression_at at ExForm-F.Char = λ s. (literal_operand (lexeme_at s at), s)
  expression_at at ExForm-F.Float = left_out at
  expression_at at (ExForm-F.Str n) = string_operand at n
  expression_at at (ExForm-F.«ExForm::Paren» e) = sub.ex e
  expression_at at (ExForm-F.Unary e) = λ s. unary_by at (unary_of (lexeme_at s at)) e s
  expression_at at (ExForm-F.Binary o a b) = binary_expression at o a b
  expression_at at (ExForm-F.Assign o a b) = assignment at o a b
  expression_at at (ExForm-F.Cond c a b) = choice_expression at c a b
  expression_at at (ExForm-F.Comma a b) = comma_expression a b
  expression_at at (ExForm-F.Call f es) = call_expression at f es
  expression_at at (ExForm-F.Index a b) = index_expression at a b
  expression_at at (ExForm-F.Member a token) = member_expression at a token
  expression_at at (ExForm-F.Arrow a token) = arrow_expression at a token
  expression_at at (ExForm-F.Cast p e) = cast_expression at p e
  expression_at at (ExForm-F.SizeofType p) = size_of_named at p
  expression_at at (ExForm-F.SizeofEx e) = size_of_part at e
  expression_at at (ExForm-F.PostInc e) = post at op.Add e
  expression_at at (ExForm-F.PostDec e) = post at op.Sub e

  unfoldable pub expression : Ex → Elaborating Operand
  expression e = expression_at e.at (out-ExForm e.form)
