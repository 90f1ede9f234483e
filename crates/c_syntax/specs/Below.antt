-- Function values that read an initialiser, or a statement, in so much room.
use Rattle.std.specs.Prelude.{ℕ, List, Option, Some, None, Result, length, ◌≤◌}
use Rattle.std.specs.declared.alloc.Global.{Global}
use denote.Ref.{Bor, MutBor}
use Rattle.c_input.specs.declared.error.SyntaxStop.{SyntaxStop}
use Rattle.c_input.specs.declared.word.Word.{Word}
use Rattle.c_tree.specs.declared.tree.Init.{Init}
use Rattle.c_syntax.specs.declared.built.Built.{Built}
use Rattle.c_input.specs.declared.word.Place.{Place as State}
use Rattle.c_input.specs.Input.{Words}
use Rattle.c_input.specs.Words.{words_of}
use Rattle.c_input.specs.Gives.{Gives}
use Rattle.c_syntax.specs.Initialisers.{init_within}
use Rattle.c_syntax.specs.Statements.{nested}

pub record Initialises (room : ℕ) (pre : Global → Bor (List Word) → MutBor State → ℕ → Type 0)
    (post : Global → Bor (List Word) → MutBor State → ℕ → Result Init SyntaxStop → MutBor State → Type 0) : Type 0 where
  pub small : room ≤ 200
  pub callable : (alloc : Global) (words : Bor (List Word)) (old : MutBor State) → length words.now ≤ 1048576 → pre alloc words old room
  pub finds : (alloc : Global) (words : Bor (List Word)) (old new : MutBor State) (r : Result Init SyntaxStop) → post alloc words old room r new
      → Gives (init_within room (words_of words.now) old.now) r new.now

-- a statement, or at its colon one that is labelled
abbrev pub Finds : ℕ → Option ℕ → Words → State → Result Built SyntaxStop → State → Type 0
Finds room None W s r new = Gives ((nested room).statement W s) r new
Finds room (Some at) W s r new = Gives ((nested room).labelled at W s) r new

pub record Holds (room : ℕ) (pre : Global → Bor (List Word) → MutBor State → ℕ → Option ℕ → Type 0)
    (post : Global → Bor (List Word) → MutBor State → ℕ → Option ℕ → Result Built SyntaxStop → MutBor State → Type 0) : Type 0 where
  pub small : room ≤ 200
  pub callable : (alloc : Global) (words : Bor (List Word)) (old : MutBor State) (label : Option ℕ) → length words.now ≤ 1048576 → pre alloc words old room label
  pub finds : (alloc : Global) (words : Bor (List Word)) (old new : MutBor State) (label : Option ℕ) (r : Result Built SyntaxStop) → post alloc words old room label r new
      → Finds room label (words_of words.now) old.now r new.now
