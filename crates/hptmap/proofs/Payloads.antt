use Rattle.std.proofs.Common.{ℕ, ◌+◌, ◌-◌, ◌^◌, ◌≤◌, ◌≡◌, ◌⊎◌, min, IsTrue, List, ℤ, Option, Some, None, arith, refl, sym, ◌∙◌, subst, inl, inr, Result}
use Rattle.std.proofs.lemmas.Bool.Decides.{nat_tests}
use Rattle.store_api.specs.declared.StoreStop.{StoreStop}
use Rattle.store_api.specs.Tree.{Tree, Nil, Node, depth}
use Rattle.store_api.specs.Bag.{Bag}
use Rattle.store_api.specs.Counts.{Answered, Looked}
use Rattle.hptmap.specs.Leaves.{RisesWith}
use Rattle.hptmap.specs.Merges.{TakesAll}
use Rattle.hptmap.specs.Each.{TakesPairs}
use Rattle.hptmap.specs.Payloads.{greatest, numbered}
use Rattle.hptmap.specs.Trie.{either, key_of, map_of, map_tree, IsTrie, MapIn}
use Rattle.hptmap.proofs.Canonical.{only_own}
use Rattle.hptmap.proofs.Changes.{map_leaf}
use Rattle.hptmap.proofs.Merging.{takes_all}
use Rattle.hptmap.proofs.Tries.{branch_of, leaf_of, leaf_or, map_branch, no_nil}

-- what the tests' rule counts
pub rises_two : (a b c : Bag) (n m : ℕ) → Looked a b → Looked b c → m ≡ min (n + 2) (2 ^ 64 - 1) → RisesWith n m a c
unfolding RisesWith Looked
rises_two a b c n m l k e = λ f g. omega (arith, l.looks, k.looks)

answered_looks : {H : Type 0} (r : Result H StoreStop) (a b : Bag) → Answered a b r → b.looks ≡ a.looks
unfolding Answered
answered_looks r a b h = grind arith

pub rises_then : {H : Type 0} (r : Result H StoreStop) (a b c : Bag) (n m : ℕ) → RisesWith n m a b → Answered b c r → RisesWith n m a c
unfolding RisesWith
rises_then r a b c n m h w = λ f g. let e = answered_looks r b c w in omega (arith, h f (omega arith))

pub rises_none : {H : Type 0} (r : Result H StoreStop) (a b : Bag) (n : ℕ) → Answered a b r → RisesWith n n a b
unfolding RisesWith
rises_none r a b n w = λ f g. let e = answered_looks r a b w in omega arith

-- and what it takes
both_taken : (about : List ℤ) (a b : Tree) → depth a ≤ 95 → depth b ≤ 95 → IsTrue (greatest.takes about a b)
both_taken about a b h g = grind (arith, nat_tests)

one_of : (o q : Option Tree) (p : Tree) → either o q ≡ Some p → (o ≡ Some p) ⊎ (q ≡ Some p)
one_of None q p e = inr e
one_of (Some t) q p e = inl e

payload_depth : (t : Tree) (x : ℕ) (p : Tree) → IsTrie t → map_of t x ≡ Some p → depth p ≤ 95
payload_depth Nil x p h e = absurd (no_nil h)
payload_depth (Node s a b) x p h e =
    elim (leaf_or s) [
      | inl l ↦ let k = only_own (key_of s) x a p (sym (map_leaf s a b x l) ∙ e) in subst (λ v. depth v ≤ 95) k.1 (leaf_of s a b h l).depth
      | inr l ↦
          let i = branch_of s a b h l in
          elim (one_of (map_of a x) (map_of b x) p (sym (map_branch s a b x l) ∙ e)) [ inl f ↦ payload_depth a x p i.1 f | inr f ↦ payload_depth b x p i.2 f ]
    ]

none_some : (p : Tree) → None ≡ Some p → ⊥
none_some p e = cc

map_depth : {H : Type 0} (name : H → ℕ) (b : Bag) (o : Option H) (x : ℕ) (p : Tree) → MapIn name b o → map_of (map_tree name b o) x ≡ Some p → depth p ≤ 95
map_depth name b None x p h e = absurd (none_some p e)
map_depth name b (Some i) x p h e = payload_depth (b.tree (name i)) x p h e

pub maps_taken : {H : Type 0} (name : H → ℕ) (b : Bag) (o p : Option H) (about : List ℤ) → MapIn name b o → MapIn name b p → TakesAll (greatest.takes about) (map_tree name b o) (map_tree name b p)
maps_taken name b o p about h g = takes_all (greatest.takes about) (map_tree name b o) (map_tree name b p) (λ x u v e d. both_taken about u v (map_depth name b o x u h e) (map_depth name b p x v g d))

pub all_numbered : (t : Tree) → TakesPairs numbered.takes t
unfolding TakesPairs
all_numbered t = λ x a e. refl
