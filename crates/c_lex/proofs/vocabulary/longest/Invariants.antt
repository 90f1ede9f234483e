use Rattle.std.proofs.Common.{◌≡◌, ◌≤◌, length, map, max}
use Rattle.c_lex.specs.Vocabulary.{longest}
use Rattle.c_lex.proofs.vocabulary.longest.Given as goal

abbrev pub invariant-loop-texts : goal.invariant-loop-texts
invariant-loop-texts l = (max l.len (longest (map (λ t. t.now) l.texts) l.text) ≡ longest (map (λ t. t.now) l.initial.texts) l.text) × (l.len ≤ length l.text)

abbrev pub decreases-loop-texts : goal.decreases-loop-texts
decreases-loop-texts l = length l.texts
