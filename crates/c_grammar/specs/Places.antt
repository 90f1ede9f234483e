-- Where a parser ends or stops, and what its outcome depends on.
use Rattle.std.specs.Prelude.{◌≡◌, ◌≤◌, ℕ, None, Ok, Err}
use Rattle.c_input.specs.declared.word.Place.{Place as State}
use Rattle.c_input.specs.Input.{Words}
use Rattle.c_input.specs.Parser.{Stop, syntax, too_deep, left_out, Outcome, Parser}

abbrev pub stop_place : Stop → ℕ
stop_place (syntax n) = n
stop_place (too_deep n) = n
stop_place (left_out n) = n

-- where a parser ends, or where it stops
abbrev pub place : {A : Type 0} → Outcome A → ℕ
place (Ok x) = x.1.at
place (Err e) = stop_place e

-- the words up to this place, which is one of them
abbrev pub SameTo : ℕ → Words → Words → Type 0
SameTo n W V = (i : ℕ) → i ≤ n → W i ≡ V i

-- no place before the one where it begins
abbrev pub GoesForward : {A : Type 0} → Parser A → Type 0
GoesForward p = (W : Words) (s : State) → s.at ≤ place (p W s)

-- the outcome depends on no word behind the place where it ends or stops
abbrev pub IsLocal : {A : Type 0} → Parser A → Type 0
IsLocal p = (W V : Words) (s : State) → SameTo (place (p W s)) W V → p V s ≡ p W s

-- it goes past no place without a word
abbrev pub StaysInside : {A : Type 0} → Parser A → Type 0
StaysInside p = (W : Words) (s : State) (n : ℕ) → W n ≡ None → s.at ≤ n → place (p W s) ≤ n
