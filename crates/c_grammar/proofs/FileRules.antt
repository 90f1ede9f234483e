-- External declarations and a file go forward, are local and stay inside the words.
use Rattle.std.proofs.Common.{ℕ, Bool, false, Option, refl}
use Rattle.c_expressions.specs.declared.grown.Specs.{Specs}
use Rattle.c_expressions.specs.declared.grown.Declares.{Declares}
use Rattle.c_expressions.specs.declared.grown.Mode.TheVariants as mode
use Rattle.c_input.specs.declared.word.Sign.{Sign}
use Rattle.c_input.specs.declared.word.Sign.TheVariants as sign
use Rattle.c_input.specs.Input.{Names}
use Rattle.c_syntax.specs.Declarations.{init_by}
use Rattle.c_syntax.specs.Statements.{Parts, parts_within}
use Rattle.c_syntax.specs.FileScope.{limit, or_none, with_params, declare_params, definition_body, definition, external_by, external_rest, declared_by, external, item_by, file_item, is_no_end, file_items, translation_unit}
use Rattle.c_grammar.proofs.Combinators.{Reads, known, reads_pure, reads_skip, reads_names, reads_bind, reads_then, reads_from_here, reads_look, reads_scoped, reads_many}
use Rattle.c_grammar.proofs.SpecifierRules.{reads_declaration_specs}
use Rattle.c_grammar.proofs.DeclarationRules.{reads_declare_name, reads_init_by, reads_parts_after}
use Rattle.c_grammar.proofs.StatementRules.{ReadsParts, reads_parts_within}

pub reads_declare_params : {k : ℕ} (params : Option Names) → Reads k false (declare_params params)
reads_declare_params params = reads_names (λ s. tt) (with_params params) (λ s. refl) (λ s. (or_none params, refl))

module _ (sub : Parts) (rs : ReadsParts sub) where
  reads_definition_body : {k : ℕ} (params : Option Names) → Reads k false (definition_body sub params)
  unfolding definition_body
  reads_definition_body params = reads_scoped (reads_then (reads_declare_params params) rs.statement)

  reads_definition : {k : ℕ} (at : ℕ) (a : Specs) (d : Declares) → Reads k false (definition sub at a d)
  unfolding definition
  reads_definition at a d = reads_bind (reads_definition_body d.params) (λ body. reads_pure _)

  reads_external_by : (at : ℕ) (a : Specs) (d : Declares) (q : Sign) → Reads (known q) false (external_by sub at a d q)
  reads_external_by at a d sign.OpenBrace = reads_definition at a d
  reads_external_by at a d _ = reads_bind (reads_look (init_by sub.inits d) (reads_init_by sub.inits rs.inits d)) (λ x.
      reads_bind (reads_parts_after sub.inits rs.inits at a x) (λ all. reads_pure _))

  reads_external_rest : {k : ℕ} (at : ℕ) (a : Specs) → Reads k false (external_rest sub at a)
  unfolding external_rest
  reads_external_rest at a = reads_bind (rs.inits.exprs.declarator mode.Named) (λ d. reads_then (reads_declare_name d.name a.is_typedef)
      (reads_look (external_by sub at a d) (reads_external_by at a d)))

  reads_declared_by : (at : ℕ) (a : Specs) (q : Sign) → Reads (known q) false (declared_by sub at a q)
  reads_declared_by at a sign.Semicolon = reads_then reads_skip (reads_pure _)
  reads_declared_by at a _ = reads_external_rest at a

  reads_external : {k : ℕ} {moves : Bool} → Reads k moves (external sub)
  unfolding external
  reads_external = reads_from_here (λ at. reads_bind (reads_declaration_specs sub.inits.exprs rs.inits.exprs) (λ a. reads_look (declared_by sub at a) (reads_declared_by at a)))

  reads_item_by : {moves : Bool} (q : Sign) → Reads (known q) moves (item_by sub q)
  reads_item_by sign.Semicolon = reads_from_here (λ at. reads_then reads_skip (reads_pure _))
  reads_item_by _ = reads_external

  pub reads_file_item : {k : ℕ} {moves : Bool} → Reads k moves (file_item sub)
  unfolding file_item
  reads_file_item = reads_look (item_by sub) reads_item_by

reads_file_items : {k : ℕ} → Reads k false file_items
unfolding file_items
reads_file_items = reads_many is_no_end (reads_file_item (parts_within limit) (reads_parts_within limit))

pub reads_translation_unit : {k : ℕ} → Reads k false translation_unit
unfolding translation_unit
reads_translation_unit = reads_bind reads_file_items (λ items. reads_pure _)
