use Rattle.std.proofs.Common.{ℕ, Option, sym, subst, arith}
use Rattle.c_syntax.specs.Statements.{nested}
use Rattle.c_syntax.specs.Below.{Finds}
use Rattle.c_input.specs.Words.{words_of}
use Rattle.c_input.proofs.Turns.{deeper}
use Rattle.c_syntax.proofs.statements.+statement.Goals as goal

pub returns-in-Some : goal.returns-in-Some
unfolding nested
returns-in-Some t c = record {
  finds = subst (λ (l : Option ℕ). Finds c.args.room l (words_of c.args.words.now) c.args.place.now c.label_rest.result c.label_rest.new.place) (sym c.in-Some.is)
      (rw (deeper (λ (n : ℕ). (nested n).labelled c.in-Some.at (words_of c.args.words.now) c.args.place.now) c.args.room (omega arith)) c.label_rest.ensures.gives);
}

pub returns-in-None : goal.returns-in-None
unfolding nested
returns-in-None t c = record {
  finds = subst (λ (l : Option ℕ). Finds c.args.room l (words_of c.args.words.now) c.args.place.now c.whole_statement.result c.whole_statement.new.place) (sym c.in-None.is)
      (rw (deeper (λ (n : ℕ). (nested n).statement (words_of c.args.words.now) c.args.place.now) c.args.room (omega arith)) c.whole_statement.ensures.gives);
}
