-- What the calls of a source and of a sink do, and when they may fail.
use Rattle.std.specs.Prelude.{◌≡◌, ℕ, ◌+◌, ◌-◌, ◌^◌, ◌<◌, ◌≤◌, min, Bool, if◌then◌else◌, List, [], ◌∷◌, ◌++◌, length, take, drop, Option, Some, None, Result, OnErr}
use Rattle.std.specs.Str.{bytes_eq}
use denote.Ref.{Bor}

-- a count has risen, or it stands at its end
abbrev pub Rose : ℕ → ℕ → Type 0
Rose before now = min (before + 1) (2 ^ 64 - 1) ≤ now

-- a count of faults never falls, and a call failed only where it rose
pub record HasCause {T E : Type 0} (before now : ℕ) (result : Result T E) : Type 0 where
  pub later : before ≤ now
  pub failed : OnErr result (Rose before now)

-- The first n bytes of what is left went to the front of the buffer. No byte into a buffer that isn't empty is the end.
pub record TakesBytes (all : List ℕ) (left : Option (List ℕ)) (n : ℕ) (buffer : List ℕ) : Type 0 where
  pub within : n ≤ length all
  pub front : take n buffer ≡ take n all
  pub rest : left ≡ Some (drop n all)
  pub ends : n ≡ 0 → 0 < length buffer → all ≡ []

-- the same, where the source tells what is left
abbrev pub Takes : Option (List ℕ) → Option (List ℕ) → ℕ → List ℕ → Type 0
Takes None left n buffer = Unit {0}
Takes (Some all) left n buffer = TakesBytes all left n buffer

-- Where the sink tells what is written, it told it before, and these bytes have come behind.
abbrev pub Appends : Option (List ℕ) → Option (List ℕ) → List ℕ → Type 0
Appends before None bytes = Unit {0}
Appends before (Some now) bytes = (old : List ℕ) × (before ≡ Some old) × (now ≡ old ++ bytes)

-- the bytes of a name in a list of files: the first entry counts
abbrev pub bytes_of : List (Bor (List ℕ) × Bor (List ℕ)) → List ℕ → Option (List ℕ)
bytes_of [] name = None
bytes_of (file ∷ files) name = if bytes_eq file.0.now name then Some file.1.now else bytes_of files name

-- what a slice holds, where there is one
abbrev pub held : Option (Bor (List ℕ)) → Option (List ℕ)
held None = None
held (Some slice) = Some slice.now

-- what is written on a page that keeps all of it
abbrev pub kept_whole : Bool → List ℕ → Option (List ℕ)
kept_whole whole bytes = if whole then Some bytes else None
