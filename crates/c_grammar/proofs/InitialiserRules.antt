-- Initialisers go forward, are local and stay inside the words.
use Rattle.std.proofs.Common.{ℕ, zero, suc, Bool, false, Option, Some, None, refl}
use Rattle.c_tree.specs.declared.tree.Designator.{Designator}
use Rattle.c_tree.specs.declared.tree.Designator.TheVariants as designator
use Rattle.c_input.specs.declared.word.Sign.{Sign}
use Rattle.c_input.specs.declared.word.Sign.TheVariants as sign
use Rattle.c_input.specs.Signs.{is_comma, is_close_brace, is_close_bracket}
use Rattle.c_syntax.specs.Initialisers.{Inits, equal_by, member_designator, place_designator, given, designation_by, part, init_parts, init_list, initializer_by, initializer, begins_initializer, init_within, inits_within}
use Rattle.c_grammar.proofs.Combinators.{Reads, known, reads_pure, reads_refuse, reads_left_out, reads_no_room, reads_skip, reads_bind, reads_bind_later, reads_then, reads_from_here, reads_look, reads_expect, reads_any_name, reads_trailed}
use Rattle.c_grammar.proofs.SpecifierRules.{ReadsNest}
use Rattle.c_grammar.proofs.LevelRules.{reads_nest}

pub record ReadsInits (sub : Inits) : Type 0 where
  pub exprs : ReadsNest sub.exprs
  pub init : {k : ℕ} {moves : Bool} → Reads k moves sub.init

reads_equal_by : (d : Designator) (q : Sign) → Reads (known q) false (equal_by d q)
reads_equal_by d sign.Equal = reads_then reads_skip (reads_pure d)
reads_equal_by d sign.Dot = reads_left_out
reads_equal_by d sign.OpenBracket = reads_left_out
reads_equal_by d _ = reads_refuse

reads_member_designator : {moves : Bool} → Reads 1 moves member_designator
unfolding member_designator
reads_member_designator = reads_from_here (λ at. reads_then reads_skip (reads_bind reads_any_name (λ n.
    reads_look (equal_by (designator.Member at n.1)) (reads_equal_by (designator.Member at n.1)))))

module _ (sub : Inits) (rs : ReadsInits sub) where
  reads_place_designator : {moves : Bool} → Reads 1 moves (place_designator sub)
  unfolding place_designator
  reads_place_designator = reads_from_here (λ at. reads_then reads_skip (reads_bind (rs.exprs.expr 3) (λ e.
      reads_then (reads_expect is_close_bracket refl) (reads_look (equal_by (designator.Place at e.tree)) (reads_equal_by (designator.Place at e.tree))))))

  reads_given : {k : ℕ} {moves : Bool} (d : Option Designator) → Reads k moves (given sub d)
  reads_given d = reads_bind rs.init (λ i. reads_pure _)

  reads_designation_by : (q : Sign) → Reads (known q) false (designation_by sub q)
  reads_designation_by sign.Dot = reads_bind reads_member_designator (λ d. reads_pure (Some d))
  reads_designation_by sign.OpenBracket = reads_bind reads_place_designator (λ d. reads_pure (Some d))
  reads_designation_by _ = reads_pure None

  pub reads_part : {k : ℕ} {moves : Bool} → Reads k moves (part sub)
  unfolding part
  reads_part = reads_bind_later (reads_look (designation_by sub) reads_designation_by) reads_given

  reads_init_parts : {k : ℕ} → Reads k false (init_parts sub)
  unfolding init_parts
  reads_init_parts = reads_trailed is_comma is_close_brace refl reads_part

  reads_init_list : {moves : Bool} (at : ℕ) → Reads 1 moves (init_list sub at)
  unfolding init_list
  reads_init_list at = reads_then reads_skip (reads_bind reads_init_parts (λ parts. reads_then (reads_expect is_close_brace refl) (reads_pure _)))

  reads_initializer_by : {moves : Bool} (q : Sign) → Reads (known q) moves (initializer_by sub q)
  reads_initializer_by sign.OpenBrace = reads_from_here reads_init_list
  reads_initializer_by _ = reads_bind (rs.exprs.expr 2) (λ e. reads_pure _)

  pub reads_initializer : {k : ℕ} {moves : Bool} → Reads k moves (initializer sub)
  unfolding initializer
  reads_initializer = reads_look (initializer_by sub) reads_initializer_by

pub reads_init_within : {k : ℕ} {moves : Bool} (room : ℕ) → Reads k moves (init_within room)
unfolding init_within
reads_init_within zero = reads_look _ (λ q. reads_no_room (begins_initializer q))
reads_init_within (suc room) = reads_initializer _ (record { exprs = reads_nest room; init = reads_init_within room })

pub reads_inits_within : (room : ℕ) → ReadsInits (inits_within room)
reads_inits_within room = record { exprs = reads_nest room; init = reads_init_within room }
