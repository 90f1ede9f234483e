use Rattle.std.proofs.Common.{◌≡◌, ◌<◌, ◌++◌, ◌∷◌, [], length, drop, sym, ◌∙◌, ap, arith, append-nil, append_assoc}
use Rattle.std.proofs.lemmas.Grind.{common_steps}
use Rattle.c_lex.specs.Literal.{character_value, characters}
use Rattle.c_lex.proofs.Runs.{characters_stop, characters_go, characters_end}
use Rattle.c_lex.proofs.constant.string_bytes.Goals as goal

pub returns-then-len-eq0 : goal.returns-then-len-eq0
returns-then-len-eq0 c =
    let e = characters_stop 34 c.characters.rest.now (sym c.character_len-len.ensures.value ∙ c.if-len-eq0.true) in
    sym (append-nil c.characters.bytes.items) ∙ rw (← e) c.characters.invariant

pub characters-preserved : goal.characters-preserved
characters-preserved c =
    let z = c.characters.rest.now in
    let some : 0 < c.character_len-len.result = grind arith in
    let e = characters_go 34 z c.character_len-len.result (sym c.character_len-len.ensures.value) some c.character_len-len.ensures.within in
    rw (c.split_at.ensures.back, c.in_ok-push.ensures.items, c.character_value.ensures)
    (append_assoc c.characters.bytes.items (character_value z ∷ []) (characters 34 (drop c.character_len-len.result z)) ∙ ap (λ y. c.characters.bytes.items ++ y) (sym e) ∙ c.characters.invariant)

pub returns : goal.returns
returns c =
    let none : length c.characters.rest.now ≡ 0 = grind (arith, common_steps) in
    let e = characters_end 34 c.characters.rest.now none in
    sym (append-nil c.characters.bytes.items) ∙ rw (← e) c.characters.invariant
