-- The numbers of the names that were seen, by their texts.
use Rattle.std.specs.Prelude.{ℕ, List, Option, unwrap_or}
use Rattle.std.specs.BTreeMap.{BTreeMap, get_by}
use Rattle.std.specs.Cmp.Lexicographic.{slice_cmp}
use Rattle.std.specs.Ordering.{nat_cmp}
use denote.Ref.{Bor}

abbrev pub held : BTreeMap (Bor (List ℕ)) ℕ → List ℕ → Option ℕ
held m q = get_by (λ k. slice_cmp nat_cmp q k.now) m

abbrev pub numbered : BTreeMap (Bor (List ℕ)) ℕ → List ℕ → ℕ → ℕ
numbered m text at = unwrap_or (held m text) at
