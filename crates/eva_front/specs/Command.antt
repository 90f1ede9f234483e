-- What the words on the command line mean: a file and an entry.
use Rattle.std.specs.Prelude.{ℕ, Bool, false, not, ◌&&◌, ◌==◌, if◌then◌else◌, List, [], ◌∷◌, take, Option, Some, None}
use Rattle.std.specs.Str.{bytes_eq}
use lib.Chars.{codes}

pub record Command : Type 0 where
  pub file : List ℕ
  pub entry : List ℕ

-- a word that isn't empty and begins with no `-`
abbrev pub is_plain : List ℕ → Bool
is_plain [] = false
is_plain (b ∷ rest) = not (b == 45)

-- two plain words, of which the first doesn't begin with `gen:`
abbrev pub meaning : List (List ℕ) → Option Command
meaning (file ∷ entry ∷ []) =
    if is_plain file && (is_plain entry && not (bytes_eq (codes "gen:") (take 4 file))) then Some (record { file = file; entry = entry }) else None
meaning [] = None
meaning (file ∷ []) = None
meaning (file ∷ entry ∷ more ∷ rest) = None
