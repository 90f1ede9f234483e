-- The numbers of names, by the words of a file.
use Rattle.std.proofs.Common.{◌≡◌, List, [], ◌∷◌, map, refl, ap}
use Rattle.c_lex.specs.Bytes.{Text}
use Rattle.c_lex.specs.declared.token.Token.{Token}
use Rattle.c_input.specs.Words.{word_of}
use Rattle.elab_lexemes.specs.Reading.{name_number, word_place}

pub names_are : (file : Text) (all ts : List Token) → map (word_place all) (map (word_of file all) ts) ≡ map (name_number file all) ts
names_are file all [] = refl
names_are file all (t ∷ ts) = ap (λ ns. name_number file all t ∷ ns) (names_are file all ts)
