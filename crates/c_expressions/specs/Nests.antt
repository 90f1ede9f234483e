-- A function value that reads the nodes which hold one another, in so much room.
use Rattle.std.specs.Prelude.{◌≡◌, ℕ, List, Result, Ok, Err, length, ◌≤◌}
use Rattle.std.specs.declared.alloc.Global.{Global}
use denote.Ref.{Bor, MutBor}
use Rattle.c_input.specs.declared.error.SyntaxStop.{SyntaxStop}
use Rattle.c_input.specs.declared.word.Word.{Word}
use Rattle.c_expressions.specs.declared.nest.Wanted.{Wanted}
use Rattle.c_expressions.specs.declared.nest.Wanted.TheVariants as wanted
use Rattle.c_expressions.specs.declared.nest.Node.{Node}
use Rattle.c_expressions.specs.declared.nest.Node.TheVariants as node
use Rattle.c_expressions.specs.declared.grown.Grown.{Grown}
use Rattle.c_expressions.specs.declared.grown.Declares.{Declares}
use Rattle.c_input.specs.declared.measured.Measured.{Measured}
use Rattle.c_tree.specs.declared.tree.MemberLine.{MemberLine}
use Rattle.c_input.specs.declared.word.Place.{Place as State}
use Rattle.c_input.specs.Input.{Words}
use Rattle.c_input.specs.Parser.{Outcome}
use Rattle.c_input.specs.Words.{words_of}
use Rattle.c_expressions.specs.Levels.{nest}
use Rattle.c_input.specs.Gives.{Refuses}

-- an expression, a declarator or a member line, which stays in the room
abbrev pub FindsEx : Outcome Grown → ℕ → Result Node SyntaxStop → State → Type 0
FindsEx o room (Ok (node.Ex e)) new = (o ≡ Ok (e, new)) × (e.height ≤ room)
FindsEx o room (Ok _) new = ⊥
FindsEx o room (Err e) new = Refuses o e

abbrev pub FindsDeclarator : Outcome Declares → ℕ → Result Node SyntaxStop → State → Type 0
FindsDeclarator o room (Ok (node.Declarator d)) new = (o ≡ Ok (d, new)) × (d.height ≤ room)
FindsDeclarator o room (Ok _) new = ⊥
FindsDeclarator o room (Err e) new = Refuses o e

abbrev pub FindsLine : Outcome (Measured MemberLine) → ℕ → Result Node SyntaxStop → State → Type 0
FindsLine o room (Ok (node.Line l)) new = (o ≡ Ok (l, new)) × (l.height ≤ room)
FindsLine o room (Ok _) new = ⊥
FindsLine o room (Err e) new = Refuses o e

-- the answer to what was wanted
abbrev pub Finds : ℕ → Wanted → Words → State → Result Node SyntaxStop → State → Type 0
Finds room (wanted.Expr least) W s = FindsEx ((nest room).expr least W s) room
Finds room (wanted.Opened at) W s = FindsEx ((nest room).opened at W s) room
Finds room (wanted.Named at) W s = FindsEx ((nest room).named at W s) room
Finds room (wanted.Starred alone) W s = FindsEx ((nest room).starred alone W s) room
Finds room (wanted.Declarator m) W s = FindsDeclarator ((nest room).declarator m W s) room
Finds room wanted.Line W s = FindsLine ((nest room).line W s) room

pub record Nests (room : ℕ) (pre : Global → Bor (List Word) → MutBor State → ℕ → Wanted → Type 0)
    (post : Global → Bor (List Word) → MutBor State → ℕ → Wanted → Result Node SyntaxStop → MutBor State → Type 0) : Type 0 where
  pub small : room ≤ 200
  pub callable : (alloc : Global) (words : Bor (List Word)) (old : MutBor State) (w : Wanted) → length words.now ≤ 1048576 → pre alloc words old room w
  pub finds : (alloc : Global) (words : Bor (List Word)) (old new : MutBor State) (w : Wanted) (r : Result Node SyntaxStop) → post alloc words old room w r new
      → Finds room w (words_of words.now) old.now r new.now
