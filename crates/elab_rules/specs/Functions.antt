-- Function declarators and their parameters (C11 6.7.6.3).
use Rattle.std.specs.Prelude.{ℕ, ◌-◌, Bool, true, false, not, ◌||◌, ◌&&◌, if◌then◌else◌, List, [], ◌∷◌, ◌++◌, length, take, Option, Some, None, is_some}
use Rattle.c_tree.specs.declared.tree.Param.{Param}
use Rattle.elab_types.specs.declared.types.SourceType.{SourceType, out-SourceType}
use Rattle.elab_types.specs.declared.types.SourceType.TheOpen.{SourceType-F}
use Rattle.elab_types.specs.declared.types.SourceType.TheVariants as source
use Rattle.elab_types.specs.Qualified.{no_qualifiers, unqualified}
use Rattle.elab_environment.specs.declared.state.Environment.{Environment}
use Rattle.elab_environment.specs.declared.state.Object.{Object}
use Rattle.elab_environment.specs.declared.state.Standing.TheVariants.{Parameter as AsParameter}
use Rattle.elab_environment.specs.declared.state.Entity.TheVariants as entity
use Rattle.elab_environment.specs.Elaborating.{Elaborating, and_then, ◌>>=◌, ◌>>◌, pure, done}
use Rattle.elab_environment.specs.Steps.{begin_block, end_block, new_declaration, name_at}
use Rattle.elab_environment.specs.Objects.{new_object, bind}
use Rattle.elab_environment.specs.Structs.{is_open_array}
use Rattle.elab_rules.specs.declared.types.Specified.{Specified}
use Rattle.elab_rules.specs.declared.types.Storage.{Storage}
use Rattle.elab_rules.specs.declared.types.Storage.TheVariants as storage
use Rattle.elab_rules.specs.declared.types.Brackets.{Brackets}
use Rattle.elab_rules.specs.declared.types.Declared.{Declared}
use Rattle.elab_rules.specs.declared.types.Nearest.{Nearest}
use Rattle.elab_rules.specs.declared.types.Nearest.TheVariants as nearest
use Rattle.elab_rules.specs.declared.types.Parameter.{Parameter as OfFunction}
use Rattle.elab_rules.specs.declared.types.Parameters.{Parameters}
use Rattle.elab_rules.specs.declared.types.Where.TheVariants as where_
use Rattle.elab_rules.specs.Sorts.{TypeLevel}
use Rattle.elab_rules.specs.Specifiers.{refused_if, held_if, held_at}
use Rattle.elab_rules.specs.Nest.{Nest}

-- ---- adjusted types (6.7.6.3p7, p8)

abbrev pub brackets_of : Nearest → Brackets
brackets_of (nearest.Array b) = b
brackets_of _ = record { at = 0; has_words = false; qualifiers = no_qualifiers; volatile_at = None }

-- an array is the pointer to its elements, with the qualifiers between its brackets; a function is a pointer to it. Volatile
-- pointers, and pointers to functions and to arrays whose length stays unknown, are left out, and so are structs by value.
abbrev pub adjusted_by : ℕ → ℕ → Brackets → SourceType → TypeLevel → Elaborating SourceType
adjusted_by at d b t (SourceType-F.Array u n) = held_at b.volatile_at >> held_if (is_open_array u) d >> pure (source.Pointer u b.qualifiers)
adjusted_by at d b t (SourceType-F.Function r ps v) = held_if true d >> pure (source.Pointer t no_qualifiers)
adjusted_by at d b t (SourceType-F.Struct id r) = held_if true at >> pure t
adjusted_by at d b t _ = pure t

abbrev pub adjusted : Param → Declared → Elaborating SourceType
adjusted p d = adjusted_by p.at p.declarator.at (brackets_of d.nearest) d.ty (out-SourceType d.ty)

-- ---- one parameter

abbrev pub is_register : Option Storage → Bool
is_register (Some storage.Register) = true
is_register _ = false

-- 6.7.6.3p2: `register` is the only storage class specifier of a parameter
abbrev pub fits_parameter : Specified → Bool
fits_parameter s = not s.is_function && (not (is_some s.storage) || is_register s.storage)

abbrev pub parameter_object : ℕ → Option ℕ → SourceType → Bool → ℕ → Object
parameter_object at name t register d = record {
  name = name;
  at = at;
  ty = t;
  standing = AsParameter;
  is_register = register;
  is_defined = true;
  declaration = d;
  initialiser = None;
}

-- 6.7p3: a name stands once in a list of parameters
abbrev pub bound_by : ℕ → Option ℕ → ℕ → ℕ → Elaborating (Unit {0})
bound_by token (Some name) object d = bind token name (entity.Object object) d
bound_by token None object d = done

abbrev pub bound : Option ℕ → ℕ → ℕ → Elaborating (Unit {0})
bound (Some token) object d = λ s. bound_by token (name_at s token) object d s
bound None object d = done

abbrev pub parameter_of : Param → Specified → Declared → SourceType → Elaborating OfFunction
parameter_of p s d t =
    new_declaration >>= (λ n. new_object (parameter_object p.at d.name t (is_register s.storage) n) >>= (λ object.
    bound d.name object n >> pure (record { at = p.at; name = d.name; object = object })))

unfoldable pub parameter : Param → Specified → Declared → Elaborating (OfFunction × SourceType)
parameter p s d = adjusted p d >>= (λ t. parameter_of p s d t >>= (λ o. pure (o, unqualified t)))

-- ---- the list

abbrev pub is_plain_void_at : TypeLevel → Bool
is_plain_void_at (SourceType-F.Void q) = not (q.is_const || (q.is_volatile || q.is_restrict))
is_plain_void_at _ = false

-- 6.7.6.3p10: `void` alone says that there are no parameters
abbrev pub says_none : Bool → Specified → Declared → Bool
says_none alone s d = alone && (is_plain_void_at (out-SourceType d.ty) && (not (is_some d.name) && not (is_some s.storage)))

abbrev pub declared_parameter : Nest → Param → Elaborating (Specified × Declared)
declared_parameter sub p =
    sub.specifiers false p.at p.specs >>= (λ s. refused_if (not (fits_parameter s)) p.at >>
    sub.declarator where_.Parameter s.ty nearest.Other p.declarator >>= (λ d. pure (s, d)))

abbrev pub with_parameter : List OfFunction × List SourceType → OfFunction × SourceType → List OfFunction × List SourceType
with_parameter xs x = (xs.0 ++ x.0 ∷ [], xs.1 ++ x.1 ∷ [])

-- those of a list behind those that were read
abbrev pub parameters : Nest → Bool → List Param → List OfFunction × List SourceType → Elaborating (List OfFunction × List SourceType)
parameters sub alone [] xs = pure xs
parameters sub alone (p ∷ ps) xs = declared_parameter sub p >>= (λ r.
    if says_none alone r.0 r.1 then pure xs else parameter p r.0 r.1 >>= (λ x. parameters sub alone ps (with_parameter xs x)))

abbrev pub is_alone : Bool → List Param → Bool
is_alone variadic (p ∷ []) = not variadic
is_alone variadic _ = false

-- what was declared in the block at hand (6.2.1p4: a function's parameters are in scope to the end of its body)
abbrev pub taken : ℕ → Bool → List OfFunction → Environment → Parameters
taken at variadic ps s = record {
  at = at;
  is_variadic = variadic;
  list = ps;
  names = take (length s.names - s.block.names) s.names;
  tags = take (length s.tag_names - s.block.tags) s.tag_names;
}

-- 6.7.6.3p1: no function returns a function or an array; a struct by value is left out
abbrev pub result_checked : ℕ → SourceType → TypeLevel → Elaborating SourceType
result_checked at t (SourceType-F.Function r ps v) = refused_if true at >> pure source.Faulty
result_checked at t (SourceType-F.Array u n) = refused_if true at >> pure source.Faulty
result_checked at t (SourceType-F.Struct id q) = held_if true at >> pure t
result_checked at t _ = pure t

-- the function type, and the parameters with what they declare
unfoldable pub function : Nest → ℕ → List Param → Bool → SourceType → Elaborating (SourceType × Parameters)
function sub at ps variadic t =
    result_checked at t (out-SourceType t) >>= (λ r. begin_block >>= (λ outer. parameters sub (is_alone variadic ps) ps ([], []) >>= (λ xs s.
    and_then (end_block outer s) (λ _. pure (source.Function r xs.1 variadic, taken at variadic xs.0 s)))))
