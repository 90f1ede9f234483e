-- What holds of the parser's outcome on a file.
use Rattle.std.specs.Prelude.{◌≡◌, ◌<◌, ◌≤◌, ◌⊎◌, ℕ, suc, List, length, take, Ok, Err}
use Rattle.c_tree.specs.declared.tree.Unit.{Unit as Tree}
use Rattle.c_input.specs.declared.word.Word.{Word}
use Rattle.c_input.specs.declared.word.Place.{Place as State}
use Rattle.c_lex.specs.Source.{longest}
use Rattle.c_lex.specs.Bytes.{Text}
use Rattle.c_lex.specs.declared.token.Token.{Token}
use Rattle.c_input.specs.Words.{words_of, word_list}
use Rattle.c_input.specs.Parser.{Stop, too_deep, Outcome}
use Rattle.c_syntax.specs.FileScope.{translation_unit, start}
use Rattle.c_grammar.specs.Places.{stop_place}
use Rattle.c_grammar.specs.FileTrees.{Spells}

abbrev pub outcome : List Word → Outcome Tree
outcome ws = translation_unit (words_of ws) start

-- a file that begins with the words of another up to its stop has the same stop
abbrev pub StopIsFinal : Type 0
StopIsFinal = (ws vs : List Word) (e : Stop) → outcome ws ≡ Err e → take (suc (stop_place e)) vs ≡ take (suc (stop_place e)) ws → outcome vs ≡ Err e

-- a stop is at a word of the file, or at its end
abbrev pub StopIsInFile : Type 0
StopIsInFile = (ws : List Word) (e : Stop) → outcome ws ≡ Err e → stop_place e ≤ length ws

-- a tree is one of all the tokens of the file
abbrev pub TreeIsOfFile : Type 0
TreeIsOfFile = (file : Text) (tokens : List Token) (tree : Tree) (end : State) → length tokens ≤ longest →
    outcome (word_list file tokens) ≡ Ok (tree, end) → end.at ≡ length tokens

-- a tree is one of the file's words by the productions of Annex A.2, and none of its nodes is nested deeper than the limit
abbrev pub TreeIsDerived : Type 0
TreeIsDerived = (file : Text) (tokens : List Token) (tree : Tree) (end : State) (horizon : ℕ) → length tokens ≤ longest →
    outcome (word_list file tokens) ≡ Ok (tree, end) → Spells horizon (word_list file tokens) tree

-- Each tree of a file's words is the one that the parser reads, or it stops for depth, at no place before the horizon: up to the horizon
-- the tree's nodes are nested no deeper than the limit.
abbrev pub TreeIsRead : Type 0
TreeIsRead = (file : Text) (tokens : List Token) (tree : Tree) (horizon : ℕ) → length tokens ≤ longest → Spells horizon (word_list file tokens) tree →
    ((end : State) × (outcome (word_list file tokens) ≡ Ok (tree, end))) ⊎ ((at : ℕ) × (outcome (word_list file tokens) ≡ Err (too_deep at)) × (horizon ≤ at))

-- a file with a tree whose nodes are nested no deeper than the limit has no other tree, however deep
abbrev pub TreeIsTheOnlyOne : Type 0
TreeIsTheOnlyOne = (file : Text) (tokens : List Token) (tree other : Tree) (horizon : ℕ) → length tokens ≤ longest → length tokens < horizon →
    Spells horizon (word_list file tokens) tree → Spells 0 (word_list file tokens) other → other ≡ tree
