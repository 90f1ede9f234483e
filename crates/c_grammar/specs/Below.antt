-- Which trees words have (C11 Annex A.2): a relation between words, a tree, the state before its first word and the state behind its last.
--
-- Nodes that begin before the horizon are nested no deeper than the room: with horizon 0 this says nothing of depth. Each rule
-- speaks of what stands one level below.
use Rattle.std.specs.Prelude.{◌<◌, ◌≤◌, ℕ, Bool, Option, ◌∷◌}
use Rattle.c_tree.specs.declared.tree.Ex.{Ex}
use Rattle.c_tree.specs.declared.tree.Declarator.{Declarator}
use Rattle.c_tree.specs.declared.tree.MemberLine.{MemberLine}
use Rattle.c_expressions.specs.declared.grown.Mode.{Mode}
use Rattle.c_input.specs.declared.word.Place.{Place as State}
use Rattle.c_input.specs.Input.{Names, Words, name_in}

-- a node that begins before the horizon has room
abbrev pub Room : ℕ → ℕ → State → Type 0
Room horizon room s = s.at < horizon → 1 ≤ room

-- a declarator, the number of its name, and the names that its first complete list of parameters declares
pub record Declared : Type 0 where
  pub tree : Declarator
  pub name : Option ℕ
  pub params : Option Names

pub record Below : Type 1 where
  -- in so much room, of this level of precedence
  pub expr : ℕ → ℕ → Ex → State → State → Type 0
  pub declarator : ℕ → Mode → Declared → State → State → Type 0
  pub line : ℕ → MemberLine → State → State → Type 0

-- the number of the name at a place
abbrev pub name_at : Words → State → ℕ
name_at W s = name_in (W s.at)

-- one name more in scope
abbrev pub declaring : ℕ → Bool → State → State
declaring n is_typedef s = record { at = s.at; names = (n, is_typedef) ∷ s.names }
