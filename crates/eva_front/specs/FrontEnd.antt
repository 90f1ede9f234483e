-- What the front end makes of a file: definitions, or why it is refused.
use Rattle.std.specs.Prelude.{◌≡◌, ℕ, ◌<◌, ◌≤◌, List, length, Option, Some, None, Ok, Err}
use Rattle.c_lex.specs.Source.{longest}
use Rattle.c_lex.specs.Reading.{Lexed, Refused}
use Rattle.c_lex.specs.declared.error.LexStop.{LexStop}
use Rattle.c_lex.specs.declared.token.Token.{Token}
use Rattle.c_input.specs.declared.error.SyntaxStop.{SyntaxStop}
use Rattle.c_input.specs.declared.error.SyntaxStop.TheVariants as syntax
use Rattle.c_tree.specs.declared.tree.Unit.{Unit as Tree}
use Rattle.c_syntax.specs.FileScope as grammar
use Rattle.c_input.specs.Parser.{Outcome}
use Rattle.c_input.specs.Words.{word_list, words_of}
use Rattle.normal_form.specs.ConstantForm.{definitions}
use Rattle.normal_form.specs.declared.constant.Returning.{Returning}
use Rattle.eva_front.specs.Refusals.{lex_refusal, place_of}
use Rattle.eva_front.specs.declared.refusals.Layer.TheVariants as layer
use Rattle.eva_front.specs.declared.refusals.Refusal.{Refusal}
use Rattle.eva_front.specs.declared.refusals.Refusal.TheVariants.{TooLong, Stopped, NotOfForm}

-- what the grammar makes of the tokens
abbrev pub parsed : List ℕ → List Token → Outcome Tree
parsed file tokens = grammar.translation_unit (words_of (word_list file tokens)) grammar.start

-- a stop of the grammar, unless memory fails
abbrev pub syntax_refusal : List Token → SyntaxStop → Option Refusal
syntax_refusal tokens (syntax.Syntax at) = Some (Stopped layer.Syntax 1 (place_of tokens at))
syntax_refusal tokens (syntax.TooDeep at) = Some (Stopped layer.Syntax 2 (place_of tokens at))
syntax_refusal tokens (syntax.OutOfProfile at) = Some (Stopped layer.Syntax 3 (place_of tokens at))
syntax_refusal tokens syntax.Memory = None

-- the file has these tokens and this tree
pub record HasTree (file : List ℕ) (tokens : List Token) (tree : Tree) : Type 0 where
  pub short : length file ≤ longest
  pub lexed : Lexed file tokens
  pub accepted : grammar.Answers (parsed file tokens) (Ok tree)

-- the file is of the form, and these are its definitions
pub record Defines (file : List ℕ) (ds : List Returning) : Type 0 where
  pub tokens : List Token
  pub tree : Tree
  pub has_tree : HasTree file tokens tree
  pub are : definitions file tokens tree ≡ Some ds

-- why a file has no tree
pub data HasNoTree (file : List ℕ) (r : Refusal) : Type 0 where
  -- it is too long
  too_long : longest < length file → r ≡ TooLong → HasNoTree file r
  -- no token begins somewhere
  no_tokens : (e : LexStop) → length file ≤ longest → Refused file e → lex_refusal e ≡ Some r → HasNoTree file r
  -- the grammar has no such file
  no_tree : (tokens : List Token) (e : SyntaxStop) → length file ≤ longest → Lexed file tokens → grammar.Answers (parsed file tokens) (Err e) →
      syntax_refusal tokens e ≡ Some r → HasNoTree file r

-- why a file is refused: it has no tree, or it has one and isn't of the form
pub data IsRefused (file : List ℕ) (r : Refusal) : Type 0 where
  without_tree : HasNoTree file r → IsRefused file r
  not_of_form : (tokens : List Token) (tree : Tree) → HasTree file tokens tree → definitions file tokens tree ≡ None → r ≡ NotOfForm → IsRefused file r
