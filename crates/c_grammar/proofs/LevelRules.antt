-- The parsers of each level of room go forward, are local and stay inside the words.
use Rattle.std.proofs.Common.{ℕ, zero, suc, false}
use Rattle.c_expressions.specs.declared.grown.Mode.TheVariants as mode
use Rattle.c_input.specs.declared.word.Sign.{Sign}
use Rattle.c_input.specs.declared.word.Sign.TheVariants as sign
use Rattle.c_input.specs.Input.{qualifies, begins_expression}
use Rattle.c_expressions.specs.Nest.{Nest}
use Rattle.c_expressions.specs.Declarators.{begins_declarator}
use Rattle.c_expressions.specs.Levels.{continues, opened_by, nothing, one_level, nest}
use Rattle.c_grammar.proofs.Combinators.{Reads, known, reads_look, reads_left_out, reads_too_deep, reads_no_room}
use Rattle.c_grammar.proofs.SpecifierRules.{ReadsNest, reads_member_line}
use Rattle.c_grammar.proofs.DeclaratorRules.{reads_declarator, reads_named_declarator}
use Rattle.c_grammar.proofs.ExpressionRules.{reads_expression, reads_after_open, reads_after_name, reads_from_star}

reads_opened_by : (q : Sign) → Reads (known q) false (opened_by q)
reads_opened_by sign.OpenBrace = reads_left_out
reads_opened_by q = reads_no_room (begins_expression q)

reads_nothing : ReadsNest nothing
reads_nothing = record {
  expr = λ l. reads_look _ (λ q. reads_no_room (begins_expression q));
  opened = λ at. reads_look opened_by reads_opened_by;
  named = λ at. reads_look _ (λ q. reads_no_room (continues q));
  starred = λ alone. reads_too_deep;
  declarator = λ m. reads_look _ (λ q. reads_no_room (begins_declarator m q));
  named_declarator = reads_look _ (λ q. reads_no_room (begins_declarator mode.Named q));
  line = reads_look _ (λ q. reads_no_room (qualifies false q));
}

reads_one_level : (sub : Nest) (room : ℕ) → ReadsNest sub → ReadsNest (one_level sub room)
reads_one_level sub room rs = record {
  expr = reads_expression sub rs room;
  opened = reads_after_open sub rs room;
  named = reads_after_name sub rs room;
  starred = reads_from_star sub rs room;
  declarator = reads_declarator sub rs room;
  named_declarator = reads_named_declarator sub rs room;
  line = reads_member_line sub rs room;
}

pub reads_nest : (room : ℕ) → ReadsNest (nest room)
unfolding nest
reads_nest zero = reads_nothing
reads_nest (suc room) = reads_one_level (nest room) (suc room) (reads_nest room)
