use Rattle.std.specs.Prelude.{ℕ, ◌+◌, List, [], ◌∷◌, ◌++◌, ◌≡◌, map}
use Rattle.std.specs.List.{sum_by}
use Rattle.std.proofs.lemmas.List.Sums.{sum_by-append}
use Rattle.std.proofs.Common.{arith}
use Rattle.store_api.specs.Tree.{Tree}
use Rattle.store_api.specs.Bag.{Bag, one}

-- the holds of pairs
unfoldable pub pair_holds : {H : Type 0} → (H → ℕ) → List (ℕ × H) → ℕ → ℕ
pair_holds name ps x = sum_by (λ p. one (name p.1) x) ps

-- the pairs with their payloads as trees
unfoldable pub pair_trees : {H : Type 0} → (H → ℕ) → Bag → List (ℕ × H) → List (ℕ × Tree)
pair_trees name b ps = map (λ p. (p.0, b.tree (name p.1))) ps

pub holds_none : {H : Type 0} (name : H → ℕ) (x : ℕ) → pair_holds name [] x ≡ 0
unfolding pair_holds
holds_none name x = omega arith

pub holds_more : {H : Type 0} (name : H → ℕ) (ps : List (ℕ × H)) (p : ℕ × H) (x : ℕ) → pair_holds name (ps ++ p ∷ []) x ≡ pair_holds name ps x + one (name p.1) x
unfolding pair_holds
holds_more name ps p x = omega (arith, sum_by-append (λ k. one (name k.1) x) ps (p ∷ []))

-- what code over pairs lists in its `using`
pub ruleset pair_facts = (holds_none, holds_more)
