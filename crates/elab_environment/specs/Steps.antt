-- The steps that note something, and what is read of a token.
use Rattle.std.specs.Prelude.{ℕ, List, [], ◌∷◌, ◌++◌, length, Option, Some, None, slice_get}
use Rattle.elab_findings.specs.declared.fault.Rule.{Rule}
use Rattle.elab_findings.specs.Uses.{naming}
use Rattle.elab_environment.specs.declared.lexeme.Lexeme.{Lexeme}
use Rattle.elab_environment.specs.declared.lexeme.Lexeme.TheVariants as lexeme
use Rattle.elab_environment.specs.declared.lexeme.Word.{Word}
use Rattle.elab_environment.specs.declared.state.Environment.{Environment}
use Rattle.elab_environment.specs.Elaborating.{Elaborating, and_then, ◌>>=◌}
use Rattle.elab_environment.specs.declared.state.Block.{Block}
use Rattle.elab_environment.specs.declared.state.Entity.{Entity}
use Rattle.elab_environment.specs.declared.state.Named.{Named}
use Rattle.elab_environment.specs.declared.state.TagKind.{TagKind}
use Rattle.elab_environment.specs.declared.state.Body.TheVariants.{NoBody}
use Rattle.elab_scope.specs.Scope.{oldest}
use Rattle.elab_scope.specs.Scope as scope

-- a rule is broken, wherever the declaration at hand is used or not
unfoldable pub refuse : ℕ → Rule → Elaborating (Unit {0})
refuse at rule = λ s. (tt, record s { findings = record s.findings { faults = s.findings.faults ++ record { at = at; rule = rule } ∷ [] } })

-- a rule is broken where the declaration at hand is used
unfoldable pub hold : ℕ → Rule → Elaborating (Unit {0})
hold at rule = λ s. (tt, record s { findings = record s.findings { held = s.findings.held ++ record { declaration = s.declaration; fault = record { at = at; rule = rule } } ∷ [] } })

-- the declaration at hand names another
unfoldable pub mention : ℕ → Elaborating (Unit {0})
mention d = λ s. (tt, record s { findings = record s.findings { uses = naming s.findings.uses s.declaration d } })

abbrev pub lexeme_or_other : Option Lexeme → Lexeme
lexeme_or_other (Some l) = l
lexeme_or_other None = lexeme.Other

abbrev pub lexeme_at : Environment → ℕ → Lexeme
lexeme_at s at = lexeme_or_other (slice_get s.lexemes at)

abbrev pub name_of : Lexeme → Option ℕ
name_of (lexeme.Name n) = Some n
name_of _ = None

abbrev pub name_at : Environment → ℕ → Option ℕ
name_at s at = name_of (lexeme_at s at)

abbrev pub word_of : Lexeme → Option Word
word_of (lexeme.Word w) = Some w
word_of _ = None

abbrev pub word_at : Environment → ℕ → Option Word
word_at s at = word_of (lexeme_at s at)

-- a new declaration, which names nothing yet
unfoldable pub new_declaration : Elaborating ℕ
new_declaration = λ s. (length s.findings.uses, record s { findings = record s.findings { uses = s.findings.uses ++ [] ∷ [] } })

-- a step in another declaration
abbrev pub entered : ℕ → Environment → Environment
entered d s = record s { declaration = d }

abbrev pub within : {A : Type 0} → ℕ → Elaborating A → Elaborating A
within d p = λ s. and_then (p (entered d s)) (λ a t. (a, entered s.declaration t))

-- 6.2.1p4: a block begins; the answer is where the one around it began
unfoldable pub begin_block : Elaborating Block
begin_block = λ s. (s.block, record s { block = record { names = length s.names; tags = length s.tag_names } })

unfoldable pub ended : Block → Environment → Environment
ended outer s = record s { names = oldest s.block.names s.names; tag_names = oldest s.block.tags s.tag_names; block = outer }

abbrev pub end_block : Block → Elaborating (Unit {0})
end_block outer = λ s. (tt, ended outer s)

-- an identifier in the innermost block
unfoldable pub declare : ℕ → Entity → ℕ → Elaborating (Unit {0})
declare name e d = λ s. (
  tt,
  record s {
    named = s.named ++ record { entity = e; declaration = d } ∷ [];
    names = (name, length s.named) ∷ s.names;
  },
)

abbrev pub named_by : List Named → Option ℕ → Option Named
named_by named (Some n) = slice_get named n
named_by named None = None

-- 6.2.1: what an identifier stands for, in any block around, and by a declaration of the innermost block
abbrev pub find : Environment → ℕ → Option Named
find s name = named_by s.named (scope.find s.names name)

abbrev pub find_here : Environment → ℕ → Option Named
find_here s name = named_by s.named (scope.find_here s.block.names s.names name)

-- 6.7.2.3: a new tag without a body
unfoldable pub new_tag : TagKind → Elaborating ℕ
new_tag kind = new_declaration >>= (λ d s. (
  length s.tags,
  record s {
    tags = s.tags ++ record { kind = kind; id = record { 0 = length s.structs }; declaration = d; body = NoBody } ∷ [];
  },
))
