use Rattle.std.proofs.Common.{◌≡◌, ◌<◌, ◌≤◌, length, drop, sym, arith, length-drop}
use Rattle.std.proofs.lemmas.List.{take_rest}
use Rattle.c_lex.specs.Literal.{character_len}
use Rattle.c_lex.proofs.Runs.{run_goes}
use Rattle.c_lex.proofs.literal.characters.Goals as goal

pub characters-preserved : goal.characters-preserved
characters-preserved c =
    let z = c.args.text.now in
    let end = c.characters.end in
    let len = c.character_len.result in
    let some : 0 < len = grind arith in
    let is : len ≡ character_len 34 (drop end z) = rw take_rest at c.character_len.ensures.value in
    let within : len ≤ length (drop end z) = rw take_rest at c.character_len.ensures.within in
    (run_goes (character_len 34) z end len (sym is) some within c.characters.invariant.0, omega (arith, within, length-drop end z))
