use Rattle.std.proofs.Common.{◌≡◌, ◌++◌, length, sym, ◌∙◌, arith}
use Rattle.std.specs.Option.{option_to_list}
use Rattle.std.proofs.lemmas.Grind.{common_steps}
use Rattle.std.proofs.lemmas.Result.{err_from_is_err_and}
use Rattle.c_lex.specs.Reading.{state_of}
use Rattle.c_lex.proofs.Reading.{passed, refused_at, refused_at_end, lexed_at_end}
use Rattle.c_lex.proofs.scan.tokens.Goals as goal

pub returns-in_err-token-clause-refused : goal.returns-in_err-token-clause-refused
returns-in_err-token-clause-refused c =
    let p = err_from_is_err_and c.from_residual.result c.from_residual.ensures.1 in
    rw (p.1, p.2) (refused_at c.args.file.now c.pieces.text.now (state_of c.pieces.scanner) c.pieces.tokens.items _ c.pieces.invariant c.in_err-token.ensures.err)

pub pieces-preserved : goal.pieces-preserved
pieces-preserved c =
    let e : c.keep.new.tokens.items ≡ c.pieces.tokens.items ++ option_to_list c.in_ok-token.token = c.in_ok-keep.ensures.ok in
    rw e (passed c.args.file.now c.pieces.text.now c.in_ok-token.rest.now (state_of c.pieces.scanner) (state_of c.step.new.self) c.pieces.tokens.items
    c.in_ok-token.token c.pieces.invariant c.in_ok-token.ensures.ok c.in_ok-token.ensures.at c.in_ok-token.ensures.line)

pub returns-in-Some-clause-refused : goal.returns-in-Some-clause-refused
returns-in-Some-clause-refused c =
    let none : length c.pieces.text.now ≡ 0 = grind (arith, common_steps) in
    refused_at_end c.args.file.now c.pieces.text.now (state_of c.pieces.scanner) c.pieces.tokens.items c.in-Some.stop c.pieces.invariant none (sym c.end_stop.ensures ∙ c.in-Some.is)

pub returns-in-None-clause-lexed : goal.returns-in-None-clause-lexed
returns-in-None-clause-lexed c =
    let none : length c.pieces.text.now ≡ 0 = grind (arith, common_steps) in
    lexed_at_end c.args.file.now c.pieces.text.now (state_of c.pieces.scanner) c.pieces.tokens.items c.pieces.invariant none (sym c.end_stop.ensures ∙ c.in-None.is)
