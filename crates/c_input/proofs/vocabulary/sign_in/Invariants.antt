use Rattle.std.proofs.Common.{◌≡◌, map, length}
use Rattle.c_input.specs.Words.{sign_in}
use Rattle.c_input.proofs.vocabulary.sign_in.Given as goal

abbrev pub invariant-loop-entries : goal.invariant-loop-entries
invariant-loop-entries l = sign_in (map (λ e. (e.0.now, e.1)) l.entries) l.text ≡ sign_in (map (λ e. (e.0.now, e.1)) l.initial.entries) l.text

abbrev pub decreases-loop-entries : goal.decreases-loop-entries
decreases-loop-entries l = length l.entries
