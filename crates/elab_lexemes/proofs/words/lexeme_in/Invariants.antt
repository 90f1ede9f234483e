use Rattle.std.proofs.Common.{◌≡◌, map, length}
use Rattle.elab_lexemes.specs.Words.{lexeme_in}
use Rattle.elab_lexemes.proofs.words.lexeme_in.Given as goal

abbrev pub invariant-loop-entries : goal.invariant-loop-entries
invariant-loop-entries l = lexeme_in (map (λ e. (e.0.now, e.1)) l.entries) l.text ≡ lexeme_in (map (λ e. (e.0.now, e.1)) l.initial.entries) l.text

abbrev pub decreases-loop-entries : goal.decreases-loop-entries
decreases-loop-entries l = length l.entries
