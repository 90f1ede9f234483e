use Rattle.std.proofs.Common.{◌≡◌, ◌<◌, ◌≤◌, length, drop, sym, arith, length-drop}
use Rattle.std.proofs.lemmas.List.{take_rest}
use Rattle.c_lex.specs.Line.{name_part}
use Rattle.c_lex.proofs.Runs.{run_goes}
use Rattle.c_lex.proofs.line.name_parts.Goals as goal

pub parts-preserved : goal.parts-preserved
parts-preserved c =
    let z = c.args.text.now in
    let end = c.parts.end in
    let len = c.name_part.result in
    let some : 0 < len = grind arith in
    let is : len ≡ name_part (drop end z) = rw take_rest at c.name_part.ensures.value in
    let within : len ≤ length (drop end z) = rw take_rest at c.name_part.ensures.within in
    (run_goes name_part z end len (sym is) some within c.parts.invariant.0, omega (arith, within, length-drop end z))
