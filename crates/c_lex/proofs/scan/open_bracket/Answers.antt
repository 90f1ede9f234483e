use Rattle.std.proofs.Common.{◌≡◌, ◌++◌, ◌∷◌, [], true, ◌∙◌}
use Rattle.c_lex.proofs.OpenBrackets.{first_more, further_more}
use Rattle.c_lex.proofs.scan.open_bracket.Goals as goal
use Rattle.c_lex.proofs.scan.open_bracket.Goals.{then-newest+in_ok-push, else-newest}

pub returns-clause-ok : goal.returns-clause-ok
returns-clause-ok c =
    let old = c.args.brackets.now.items in
    let new = c.pop.new.self.items in
    let o = c.in-Some.newest in
    elim c.if-newest.branch [
      | then-newest+in_ok-push w ↦
          let e : c.push-2.new.self.items ≡ (new ++ o ∷ []) ++ record o { begun = true } ∷ [] = cc (w.in_ok-push.ensures.items, c.in_ok-push-2.ensures.items) in
          e ∙ further_more old new o c.in-Some.ensures.items w.if-newest.true
      | else-newest w ↦
          let e : c.push-2.new.self.items ≡ new ++ record o { begun = true } ∷ [] = cc (c.in_ok-push-2.ensures.items) in
          e ∙ first_more old new o c.in-Some.ensures.items w.if-newest.false
    ]
