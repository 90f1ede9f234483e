use Rattle.std.proofs.Common.{◌∙◌, arith, sym}
use Rattle.eva_front.specs.FrontEnd.{no_tokens, no_tree}
use Rattle.eva_front.proofs.front_end.read_tree.Goals as goal

pub returns-in-Err-clause-refused : goal.returns-in-Err-clause-refused
returns-in-Err-clause-refused c =
    λ r e. no_tokens c.in-Err.stop (omega arith) c.in-Err.ensures.refused (sym c.lex_refusal.ensures ∙ c.stop_of.ensures r e)

pub returns-in-Err-parse-clause-refused : goal.returns-in-Err-parse-clause-refused
returns-in-Err-parse-clause-refused c =
    let stops = rw c.as_slice.ensures.value at c.in-Err-parse.ensures in
    let refusal = rw c.as_slice-in-Err-parse.ensures.value at c.syntax_refusal.ensures in
    λ r e. no_tree c.in-Ok.found.items c.in-Err-parse.stop (omega arith) c.in-Ok.ensures.lexed stops (sym refusal ∙ c.stop_of-in-Err-parse.ensures r e)
