use Rattle.std.proofs.Common.{◌≡◌, ℕ, List, map, take}
use Rattle.c_input.specs.Words.{word_of}
use Rattle.c_input.specs.Numbers.{held}
use Rattle.c_input.proofs.Seen.{place_in}
use Rattle.c_input.proofs.words.word_list.Given as goal

abbrev pub invariant-loop-token : goal.invariant-loop-token
invariant-loop-token l = record {
  read : l.words.items ≡ map (word_of l.file l.tokens) (take l.token-index l.tokens);
  known : (q : List ℕ) → held l.numbers q ≡ place_in l.file (take l.token-index l.tokens) q;
}
