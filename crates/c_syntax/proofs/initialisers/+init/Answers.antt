use Rattle.std.proofs.Common.{ℕ, arith}
use Rattle.c_syntax.specs.Initialisers.{init_within}
use Rattle.c_input.specs.Words.{words_of}
use Rattle.c_input.proofs.Turns.{deeper}
use Rattle.c_syntax.proofs.initialisers.+init.Goals as goal

pub returns : goal.returns
unfolding init_within
returns t c = record { gives = rw (deeper (λ (n : ℕ). init_within n (words_of c.args.words.now) c.args.place.now) c.args.room (omega arith)) c.initialiser.ensures.gives }
