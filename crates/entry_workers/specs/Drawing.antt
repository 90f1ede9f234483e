-- The word that hands out indexes: each number below it was drawn once, by one of the seats.
use Rattle.std.specs.Prelude.{ℕ, ◌*◌, ◌^◌, ◌≤◌, ◌≡◌, List, [], ◌∷◌, ◌++◌, length}
use mathlib.Core.Option.{some}
use lib.ListN.{get_elem?}
use Rattle.atomic_table.specs.Table.{State}
use Rattle.entry_workers.specs.declared.draws.Hand.{Hand}
use Rattle.entry_workers.specs.Lists.{total, times, once_below}

abbrev pub hand : ℕ → List ℕ → Hand
hand parts drawn = record { parts = parts; drawn = drawn }

-- as many parts as there may be workers
abbrev pub all_parts : ℕ
all_parts = 64

-- as many draws as a part allows, so that the word never turns over
abbrev pub draws_of_part : ℕ
draws_of_part = 2 ^ 40

-- the number of draws is the word, and each number below it is in one list, once; a seat without a part drew nothing
pub record EachOnce (word : ℕ) (views : List Hand) : Type 0 where
  pub parts : total (λ v. v.parts) views ≡ all_parts
  pub once : (x : ℕ) → total (λ v. times x v.drawn) views ≡ once_below x word
  pub draws : total (λ v. length v.drawn) views ≡ word
  pub room : (seat : ℕ) (v : Hand) → get_elem? views seat ≡ some v → length v.drawn ≤ v.parts * draws_of_part

-- the rule of the table of one word
abbrev pub Handed : State (Unit {0}) Hand → Type 0
Handed s = (word : ℕ) × (s.words ≡ word ∷ []) × EachOnce word s.views

-- the number found is drawn; it is no less than the number of this seat's draws before
pub record Drew (before : Hand) (found : ℕ) (after : Hand) : Type 0 where
  pub drawn : after ≡ hand before.parts (before.drawn ++ found ∷ [])
  pub rises : length before.drawn ≤ found

-- a seat with all parts has drawn each number below the word once
pub record Learned (before : Hand) (found : ℕ) (after : Hand) : Type 0 where
  pub same : after ≡ before
  pub once : before.parts ≡ all_parts → (x : ℕ) → times x before.drawn ≡ once_below x found
