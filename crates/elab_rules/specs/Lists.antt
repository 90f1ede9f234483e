-- A list of specifiers (C11 6.7), one after the other.
use Rattle.std.specs.Prelude.{ℕ, Bool, true, false, List, [], ◌∷◌, Option, Some}
use Rattle.c_tree.specs.declared.tree.Spec.{Spec, out-Spec}
use Rattle.c_tree.specs.declared.tree.DeclForm.TheOpen.{Spec-F}
use Rattle.elab_environment.specs.declared.lexeme.Word.{Word}
use Rattle.elab_environment.specs.declared.lexeme.Word.TheVariants as word
use Rattle.elab_environment.specs.Elaborating.{Elaborating, ◌>>=◌, pure}
use Rattle.elab_environment.specs.Steps.{word_at}
use Rattle.elab_rules.specs.declared.types.Specified.{Specified}
use Rattle.elab_rules.specs.declared.gathered.Gathered.{Gathered}
use Rattle.elab_rules.specs.Specifiers.{SpecLevel, nothing_said, word_said_at, typedef_type, with_type, specified}
use Rattle.elab_rules.specs.Tags.{struct_type, enum_type}
use Rattle.elab_rules.specs.Nest.{Nest}

abbrev pub says_union : Option Word → Bool
says_union (Some word.Union) = true
says_union _ = false

-- one more
abbrev pub said : Nest → Bool → Gathered → SpecLevel → Elaborating Gathered
said sub alone g (Spec-F.Word at) = λ s. word_said_at at (word_at s at) g s
said sub alone g (Spec-F.Named at) = typedef_type at >>= (λ t. pure (with_type g t))
said sub alone g (Spec-F.Struct at tag lines) = (λ s. struct_type sub alone at (says_union (word_at s at)) tag lines s) >>= (λ t. pure (with_type g t))
said sub alone g (Spec-F.Enum at tag values) = enum_type sub alone tag values >>= (λ t. pure (with_type g t))

abbrev pub all_said : Nest → Bool → Gathered → List Spec → Elaborating Gathered
all_said sub alone g [] = pure g
all_said sub alone g (x ∷ xs) = said sub alone g (out-Spec x) >>= (λ h. all_said sub alone h xs)

-- what a list says; whether it is a whole declaration, and the declaration's first token
unfoldable pub specifiers : Nest → Bool → ℕ → List Spec → Elaborating Specified
specifiers sub alone at specs = all_said sub alone nothing_said specs >>= specified at
