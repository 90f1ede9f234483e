-- A token's text is cut at the end of the file.
use Rattle.std.proofs.Common.{◌≡◌, ℕ, List, length, take, drop, min, ap, ◌∙◌}
use Rattle.std.proofs.lemmas.List.{take_min, drop_min}

pub cut : (file : List ℕ) (at len : ℕ) → take (min len (length (drop (min at (length file)) file))) (drop (min at (length file)) file) ≡ take len (drop at file)
cut file at len = take_min len (drop (min at (length file)) file) ∙ ap (take len) (drop_min at file)
