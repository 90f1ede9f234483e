-- What a function that parses ensures.
use Rattle.std.specs.Prelude.{◌≡◌, ◌≤◌, ℕ, Result, Ok, Err}
use Rattle.c_input.specs.declared.error.SyntaxStop.{SyntaxStop}
use Rattle.c_input.specs.declared.error.SyntaxStop.TheVariants as stop
use Rattle.c_input.specs.Input.{State}
use Rattle.c_input.specs.Parser.{Outcome, Stop, syntax, too_deep, left_out}

-- this stop, unless memory fails
abbrev pub Stops : Stop → SyntaxStop → Type 0
Stops e stop.Memory = Unit {0}
Stops e (stop.Syntax n) = e ≡ syntax n
Stops e (stop.TooDeep n) = e ≡ too_deep n
Stops e (stop.OutOfProfile n) = e ≡ left_out n

-- the parser's stop, unless memory fails
abbrev pub Refuses : {A : Type 0} → Outcome A → SyntaxStop → Type 0
Refuses o stop.Memory = Unit {0}
Refuses o (stop.Syntax n) = o ≡ Err (syntax n)
Refuses o (stop.TooDeep n) = o ≡ Err (too_deep n)
Refuses o (stop.OutOfProfile n) = o ≡ Err (left_out n)

-- the parser's outcome, unless memory fails
abbrev pub Gives : {A : Type 0} → Outcome A → Result A SyntaxStop → State → Type 0
Gives o (Ok a) new = o ≡ Ok (a, new)
Gives o (Err e) new = Refuses o e

-- what is measured stays in the room
abbrev pub Within : {A : Type 0} → (A → ℕ) → ℕ → Result A SyntaxStop → Type 0
Within height room (Ok a) = height a ≤ room
Within height room (Err e) = Unit {0}
