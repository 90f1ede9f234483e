-- What a list of specifiers says (C11 6.7 to 6.7.4, 6.7.8).
use Rattle.std.specs.Prelude.{ℕ, Bool, true, false, not, ◌||◌, ◌&&◌, if◌then◌else◌, Option, Some, None, is_some, unwrap_or}
use Rattle.elab_findings.specs.declared.fault.Rule.TheVariants.{TypeError, OutOfProfile}
use Rattle.c_tree.specs.declared.tree.Spec.{Spec}
use Rattle.c_tree.specs.declared.tree.DeclForm.TheOpen.{Spec-F}
use Rattle.c_tree.specs.declared.tree.DeclForm.{DeclForm}
use Rattle.c_tree.specs.declared.tree.ExForm.{ExForm}
use Rattle.c_tree.specs.declared.tree.Declarator.{Declarator}
use Rattle.c_tree.specs.declared.tree.Enumerator.{Enumerator}
use Rattle.c_tree.specs.declared.tree.Ex.{Ex}
use Rattle.c_tree.specs.declared.tree.MemberLine.{MemberLine}
use Rattle.c_tree.specs.declared.tree.MemberPart.{MemberPart}
use Rattle.c_tree.specs.declared.tree.Param.{Param}
use Rattle.elab_types.specs.declared.types.SourceType.{SourceType, out-SourceType}
use Rattle.elab_types.specs.declared.types.SourceType.TheOpen.{SourceType-F}
use Rattle.elab_types.specs.declared.types.SourceType.TheVariants as source
use Rattle.elab_types.specs.Qualified.{no_qualifiers, qualified}
use Rattle.elab_environment.specs.declared.lexeme.Word.{Word}
use Rattle.elab_environment.specs.declared.lexeme.Word.TheVariants as word
use Rattle.elab_environment.specs.declared.state.Entity.{Entity}
use Rattle.elab_environment.specs.declared.state.Entity.TheVariants as entity
use Rattle.elab_environment.specs.declared.state.Named.{Named}
use Rattle.elab_environment.specs.Elaborating.{Elaborating, ◌>>◌, pure, done, when}
use Rattle.elab_environment.specs.Steps.{refuse, hold, mention, find, name_at}
use Rattle.elab_rules.specs.declared.types.Specified.{Specified}
use Rattle.elab_rules.specs.declared.types.Storage.{Storage}
use Rattle.elab_rules.specs.declared.types.Storage.TheVariants as storage
use Rattle.elab_rules.specs.declared.gathered.Gathered.{Gathered}
use Rattle.elab_rules.specs.Sorts.{TypeLevel, is_function}
use Rattle.elab_rules.specs.TypeWords.{with_word, type_of}
use Rattle.elab_rules.specs.declared.gathered.TypeWords.{TypeWords}

abbrev pub SpecLevel : Type 0
SpecLevel = Spec-F DeclForm ExForm Spec Declarator Enumerator Ex MemberLine MemberPart Param

abbrev pub no_words : TypeWords
no_words = record {
  is_any = false;
  is_repeated = false;
  is_void = false;
  is_bool = false;
  is_char = false;
  is_short = false;
  is_int = false;
  is_long = false;
  is_long_long = false;
  is_signed = false;
  is_unsigned = false;
  is_float = false;
  is_double = false;
  is_complex = false;
}

abbrev pub nothing_said : Gathered
nothing_said = record {
  storage = None;
  is_several = false;
  is_inline = false;
  is_function = false;
  qualifiers = no_qualifiers;
  volatile_at = None;
  words = no_words;
  named = None;
  is_mixed = false;
}

-- ---- words

abbrev pub stored : Storage → Gathered → Gathered
stored c g = record g { storage = Some c; is_several = g.is_several || is_some g.storage }

-- a word of a type; another type may not stand before it
abbrev pub typed_by : Word → Gathered → Gathered
typed_by w g = record g { words = with_word w g.words }

-- floating types may be declared and not used
abbrev pub held_word : ℕ → Word → Gathered → Elaborating Gathered
held_word at w g = hold at OutOfProfile >> pure (typed_by w g)

abbrev pub word_said : ℕ → Word → Gathered → Elaborating Gathered
word_said at word.Typedef g = pure (stored storage.Typedef g)
word_said at word.Extern g = pure (stored storage.Extern g)
word_said at word.Static g = pure (stored storage.Static g)
word_said at word.Auto g = pure (stored storage.Auto g)
word_said at word.Register g = pure (stored storage.Register g)
word_said at word.Inline g = pure (record g { is_inline = true; is_function = true })
word_said at word.Noreturn g = pure (record g { is_function = true })
word_said at word.Const g = pure (record g { qualifiers = record g.qualifiers { is_const = true } })
word_said at word.Volatile g = pure (record g { qualifiers = record g.qualifiers { is_volatile = true }; volatile_at = Some (unwrap_or g.volatile_at at) })
word_said at word.Restrict g = pure (record g { qualifiers = record g.qualifiers { is_restrict = true } })
word_said at word.Float g = held_word at word.Float g
word_said at word.Double g = held_word at word.Double g
word_said at word.Complex g = held_word at word.Complex g
word_said at w g = pure (typed_by w g)

abbrev pub word_said_at : ℕ → Option Word → Gathered → Elaborating Gathered
word_said_at at (Some w) g = word_said at w g
word_said_at at None g = pure g

-- ---- typedef names (6.7.8)

abbrev pub type_by : Entity → ℕ → Elaborating SourceType
type_by (entity.Typedef t) d = mention d >> pure t
type_by _ d = pure source.Faulty

abbrev pub type_of_named : Option Named → Elaborating SourceType
type_of_named (Some n) = type_by n.entity n.declaration
type_of_named None = pure source.Faulty

abbrev pub found_by : Option ℕ → Elaborating SourceType
found_by (Some name) = λ s. type_of_named (find s name) s
found_by None = pure source.Faulty

unfoldable pub typedef_type : ℕ → Elaborating SourceType
typedef_type at = λ s. found_by (name_at s at) s

-- ---- the whole list

-- a type that is named in one specifier; another may not stand beside it
abbrev pub with_type : Gathered → SourceType → Gathered
with_type g t = record g { named = Some t; is_mixed = g.is_mixed || (is_some g.named || g.words.is_any) }

abbrev pub base_of : Option SourceType → TypeWords → Option SourceType
base_of (Some t) w = if w.is_any then None else Some t
base_of None w = type_of w

-- 6.7.2p2: at least one type, and one that is in the list
abbrev pub type_said : Gathered → Option SourceType
type_said g = if g.is_mixed then None else base_of g.named g.words

abbrev pub or_faulty : Option SourceType → SourceType
or_faulty (Some t) = t
or_faulty None = source.Faulty

-- 6.7.3p2: `restrict` qualifies pointers to objects alone
abbrev pub takes_restrict_at : TypeLevel → Bool
takes_restrict_at (SourceType-F.Pointer t q) = not (is_function t)
takes_restrict_at SourceType-F.Faulty = true
takes_restrict_at _ = false

unfoldable pub takes_restrict : SourceType → Bool
takes_restrict t = takes_restrict_at (out-SourceType t)

-- volatile pointers, and `volatile` on a struct or array as a whole, are left out
abbrev pub takes_volatile_at : TypeLevel → Bool
takes_volatile_at (SourceType-F.Pointer t q) = false
takes_volatile_at (SourceType-F.Array t n) = false
takes_volatile_at (SourceType-F.Struct id q) = false
takes_volatile_at _ = true

unfoldable pub takes_volatile : SourceType → Bool
takes_volatile t = takes_volatile_at (out-SourceType t)

abbrev pub refused_if : Bool → ℕ → Elaborating (Unit {0})
refused_if is_so at = when is_so (refuse at TypeError)

abbrev pub held_if : Bool → ℕ → Elaborating (Unit {0})
held_if is_so at = when is_so (hold at OutOfProfile)

-- what stands at a token is left out
abbrev pub held_at : Option ℕ → Elaborating (Unit {0})
held_at (Some at) = hold at OutOfProfile
held_at None = done

abbrev pub volatile_checked : Option ℕ → Bool → Elaborating (Unit {0})
volatile_checked (Some at) takes = held_if (not takes) at
volatile_checked None takes = done

-- 6.7.1p2: one storage class specifier at most
unfoldable pub specified : ℕ → Gathered → Elaborating Specified
specified at g =
    let t = or_faulty (type_said g) in
    refused_if (g.is_several || not (is_some (type_said g))) at >>
    refused_if (g.qualifiers.is_restrict && not (takes_restrict t)) at >>
    volatile_checked g.volatile_at (takes_volatile t) >>
    pure (record { storage = g.storage; is_inline = g.is_inline; is_function = g.is_function; ty = qualified g.qualifiers t })
