use Rattle.std.proofs.Common.{◌≡◌, ◌++◌, map}
use Rattle.std.specs.Prelude.{drop}
use Rattle.elab_lexemes.specs.Reading.{word_place}
use Rattle.elab_lexemes.proofs.reading.places.Given as goal

abbrev pub invariant-loop-word : goal.invariant-loop-word
invariant-loop-word l = l.places ++ map (word_place l.tokens) (drop l.word-index l.words) ≡ map (word_place l.tokens) l.words
