use Rattle.std.proofs.Common.{List, Result, Ok, Err, ◌∙◌, subst}
use Rattle.c_tree.specs.declared.tree.Unit.{Unit as Tree}
use Rattle.c_input.specs.declared.error.SyntaxStop.{SyntaxStop}
use Rattle.c_input.specs.declared.word.Place.{Place as State}
use Rattle.c_input.specs.declared.word.Word.{Word}
use Rattle.c_input.specs.Input.{Names}
use Rattle.c_input.specs.Parser.{Outcome}
use Rattle.c_input.specs.Gives.{Gives}
use Rattle.c_syntax.specs.FileScope.{Answers, translation_unit, start}
use Rattle.c_input.specs.Words.{words_of}
use Rattle.c_syntax.proofs.parse.Goals as goal

answered : (o : Outcome Tree) (r : Result Tree SyntaxStop) (new : State) → Gives o r new → Answers o r
answered o (Ok tree) new h = (new, h)
answered o (Err e) new h = h

pub returns : goal.returns
returns c =
    let given : Answers (translation_unit (words_of c.as_slice.result.now) (record { at = 0; names = c.new.result })) c.translation_unit.result
    = answered _ c.translation_unit.result c.translation_unit.new.place c.translation_unit.ensures.gives in
    let words = c.as_slice.ensures.value ∙ c.in_ok-words.ensures in
    subst (λ (ws : List Word). Answers (translation_unit (words_of ws) start) c.translation_unit.result) words
    (subst (λ (names : Names). Answers (translation_unit (words_of c.as_slice.result.now) (record { at = 0; names = names })) c.translation_unit.result) c.new.ensures given)
