-- Where a word was seen, the place lies in the list.
use Rattle.std.proofs.Common.{◌≢◌, ◌⊎◌, inl, inr, ℕ, ◌<◌, ◌≤◌, ap, List, length, arith}
use Rattle.std.proofs.lemmas.Option.{slice_get_past}
use Rattle.c_input.specs.declared.word.Sign.TheVariants as sign
use Rattle.c_input.specs.Input.{Word, State, look_at, sign_at}
use Rattle.c_input.specs.Words.{words_of}

pub within : (ws : List Word) (s : State) → look_at (words_of ws) s ≢ sign.Eof → s.at < length ws
unfolding look_at
within ws s h = by_order (before_or s.at (length ws))
  where
    before_or : (i n : ℕ) → (i < n) ⊎ (n ≤ i)
    before_or i n = grind arith

    by_order : (s.at < length ws) ⊎ (length ws ≤ s.at) → s.at < length ws
    by_order (inl x) = x
    by_order (inr x) = absurd (h (ap (sign_at s.names) (slice_get_past ws s.at x)))
