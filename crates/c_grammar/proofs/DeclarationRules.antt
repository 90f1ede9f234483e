-- Declarations go forward, are local and stay inside the words.
use Rattle.std.proofs.Common.{ℕ, Bool, false, Option, Some, None, [], ◌∷◌, refl}
use Rattle.c_tree.specs.declared.tree.InitPart.{InitPart}
use Rattle.c_expressions.specs.declared.grown.Specs.{Specs}
use Rattle.c_expressions.specs.declared.grown.Declares.{Declares}
use Rattle.c_expressions.specs.declared.grown.Mode.TheVariants as mode
use Rattle.c_input.specs.declared.word.Sign.{Sign}
use Rattle.c_input.specs.declared.word.Sign.TheVariants as sign
use Rattle.c_input.specs.declared.word.Place.{Place as State}
use Rattle.c_input.specs.Signs.{is_comma, is_semicolon}
use Rattle.c_syntax.specs.Initialisers.{Inits}
use Rattle.c_syntax.specs.Declarations.{declared, declare_name, init_by, part_of, part, next_part, all_parts, parts_after, parts_by, declaration, declaration_after_name}
use Rattle.c_grammar.proofs.Combinators.{Reads, Extends, extends_refl, known, reads_pure, reads_skip, reads_names, reads_bind, reads_then, reads_from_here, reads_look, reads_expect, reads_many_words}
use Rattle.c_grammar.proofs.SpecifierRules.{reads_declaration_specs, reads_specs_after_name}
use Rattle.c_grammar.proofs.InitialiserRules.{ReadsInits}

pub reads_declare_name : {k : ℕ} (n : Option ℕ) (t : Bool) → Reads k false (declare_name n t)
reads_declare_name n t = reads_names (λ s. tt) (declared n t) (λ s. refl) (more n)
  where
    more : (n : Option ℕ) (s : State) → Extends s.names (declared n t s).names
    more (Some n) s = ((n, t) ∷ [], refl)
    more None s = extends_refl s.names

module _ (sub : Inits) (rs : ReadsInits sub) where
  pub reads_init_by : (d : Declares) (q : Sign) → Reads (known q) false (init_by sub d q)
  reads_init_by d sign.Equal = reads_bind (reads_then reads_skip rs.init) (λ i. reads_pure _)
  reads_init_by d _ = reads_pure _

  reads_part_of : {k : ℕ} (t : Bool) (d : Declares) → Reads k false (part_of sub t d)
  unfolding part_of
  reads_part_of t d = reads_then (reads_declare_name d.name t) (reads_look (init_by sub d) (reads_init_by d))

  reads_part : {k : ℕ} (t : Bool) → Reads k false (part sub t)
  unfolding part
  reads_part t = reads_bind (rs.exprs.declarator mode.Named) (reads_part_of t)

  pub reads_next_part : {moves : Bool} (t : Bool) → Reads 1 moves (next_part sub t)
  reads_next_part t = reads_then reads_skip (reads_part t)

  reads_all_parts : {k : ℕ} (t : Bool) (x : InitPart) → Reads k false (all_parts sub t x)
  unfolding all_parts
  reads_all_parts t x = reads_bind (reads_many_words is_comma refl (reads_next_part t)) (λ rest. reads_pure _)

  pub reads_parts_after : {k : ℕ} (at : ℕ) (a : Specs) (x : InitPart) → Reads k false (parts_after sub at a x)
  unfolding parts_after
  reads_parts_after at a x = reads_bind (reads_all_parts a.is_typedef x) (λ parts. reads_then (reads_expect is_semicolon refl) (reads_pure _))

  reads_parts_by : (at : ℕ) (a : Specs) (q : Sign) → Reads (known q) false (parts_by sub at a q)
  reads_parts_by at a sign.Semicolon = reads_then reads_skip (reads_pure _)
  reads_parts_by at a _ = reads_bind (reads_part a.is_typedef) (reads_parts_after at a)

  pub reads_declaration : {k : ℕ} {moves : Bool} → Reads k moves (declaration sub)
  unfolding declaration
  reads_declaration = reads_from_here (λ at. reads_bind (reads_declaration_specs sub.exprs rs.exprs) (λ a. reads_look (parts_by sub at a) (reads_parts_by at a)))

  pub reads_declaration_after_name : {k : ℕ} (at : ℕ) → Reads k false (declaration_after_name sub at)
  unfolding declaration_after_name
  reads_declaration_after_name at = reads_bind (reads_specs_after_name sub.exprs rs.exprs at) (λ a. reads_look (parts_by sub at a) (reads_parts_by at a))
