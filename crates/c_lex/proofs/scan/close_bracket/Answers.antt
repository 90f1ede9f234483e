use Rattle.std.specs.Vec.{vec_len}
use Rattle.c_lex.proofs.OpenBrackets.{one_less_of}
use Rattle.c_lex.proofs.scan.close_bracket.Goals as goal

pub returns : goal.returns
returns c = one_less_of c.args.brackets.now.items c.pop.new.self.items c.pop.result (vec_len c.args.brackets.now) _ _ c.pop.ensures.items c.pop.ensures.rest c.pop.ensures.cases
