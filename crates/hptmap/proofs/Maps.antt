use Rattle.std.proofs.Common.{Bool, true, false, IsTrue, ◌↔◌, refl}
use Rattle.store_api.specs.Tree.{Tree, Nil}
use Rattle.hptmap.specs.Trie.{IsTrie}
use Rattle.hptmap.specs.Merges.{Includes}
use Rattle.hptmap.proofs.Canonical.{some_key}
use Rattle.hptmap.proofs.Merging.{unite_none}
use Rattle.hptmap.proofs.Including.{includes_all, not_there, no_true}

-- an empty map is included in each
pub nil_included : (f : Tree → Tree → Bool) (u : Tree) → IsTrue true ↔ Includes f Nil u
nil_included f u = (λ y. includes_all f Nil u (λ x. tt), λ y. refl)

-- and none but it in an empty one
pub not_in_nil : (f : Tree → Tree → Bool) (t : Tree) → IsTrie t → IsTrue false ↔ Includes f t Nil
not_in_nil f t h = (λ y. absurd (no_true y), λ c. let k = some_key t h in absurd (not_there f t Nil k.0 k.1.0 k.1.1 refl c))

pub ruleset merge_facts = (unite_none)

pub ruleset included_facts = (nil_included, not_in_nil)
