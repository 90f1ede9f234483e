use Rattle.std.proofs.Common.{◌≡◌, ◌++◌, length, map}
use Rattle.std.specs.Prelude.{drop}
use Rattle.elab_lexemes.specs.Reading as spec
use Rattle.elab_lexemes.proofs.reading.read.Given as goal

abbrev pub invariant-loop-token : goal.invariant-loop-token
invariant-loop-token l = record {
  numbers : l.left ≡ map (spec.name_number l.file l.tokens) (drop l.token-index l.tokens);
  list : l.lexemes.list ++ spec.lexemes_from l.file l.tokens (length l.lexemes.strings) (drop l.token-index l.tokens) ≡ spec.lexemes l.file l.tokens;
  bytes : l.lexemes.strings ++ spec.strings l.file (drop l.token-index l.tokens) ≡ spec.strings l.file l.tokens;
}
