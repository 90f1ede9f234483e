-- The ordinary identifiers in scope, the newest first, each by its number, with whether it is a typedef name (C11 6.2.1, 6.7.8).
use Rattle.std.specs.Prelude.{◌≡◌, ◌<◌, get_or, ◌-◌, ◌==◌, ℕ, Bool, false, if◌then◌else◌, List, [], ◌∷◌, length, drop}

abbrev pub Names : Type 0
Names = List (ℕ × Bool)

abbrev pub is_type : Names → ℕ → Bool
is_type [] n = false
is_type (x ∷ xs) n = if x.0 == n then x.1 else is_type xs n

-- those that were there when there were so many
abbrev pub oldest : ℕ → Names → Names
oldest kept names = drop (length names - kept) names

-- A table by numbers keeps which of them are typedef names, and a list keeps what each declaration hid.
abbrev pub in_table : List Bool → ℕ → Bool
in_table types n = get_or types n false

abbrev pub Hides : ℕ → Names → List Bool → Type 0
Hides size [] [] = Unit {0}
Hides size (x ∷ xs) (b ∷ bs) = (x.0 < size) × (b ≡ is_type xs x.0) × Hides size xs bs
Hides size _ _ = ⊥

pub record Kept (names : Names) (hidden types : List Bool) : Type 0 where
  pub now : (n : ℕ) → in_table types n ≡ is_type names n
  pub before : Hides (length types) names hidden
