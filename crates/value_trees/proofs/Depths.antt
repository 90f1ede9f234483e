-- How deep the trees of values are.
use Rattle.std.proofs.Common.{◌≡◌, ℕ, ◌+◌, ◌*◌, ◌/◌, ◌^◌, ◌≤◌, List, [], ◌∷◌, ◌++◌, length, sym, ap, subst, ℤ, Bool, true, false, cond, arith, inl, inr}
use Rattle.std.specs.Prelude.{nat_lt, if◌then◌else◌}
use Rattle.std.specs.List.{All}
use Rattle.std.proofs.lemmas.List.Elements.{All-head, All-tail, All-cons, All-nil}
use Rattle.store_api.specs.declared.Shape.{Shape}
use Rattle.store_api.specs.Tree.{Tree, Nil, Node, depth}
use Rattle.hptmap.specs.Trie.{IsMap, IsTrie, Within, entries, is_leaf, key_of, level_of, top_of}
use Rattle.hptmap.proofs.Tries.{branch_of, leaf_of, leaf_or, no_nil, top_branch, top_leaf, within_own}
use Rattle.ival.specs.Forms.{HasEnds, IsWellFormed}
use Rattle.ival.specs.declared.forms.Ival.{Ival}
use Rattle.ival.specs.declared.forms.Ival.TheVariants.{Empty, Set, Range, All as Every}
use Rattle.memory_trees.specs.Values.{IsIvalTree, ival_of, ival_tree, number_node, number_shape}

set_depth : (xs : List ℤ) (c : Bool) → depth (if c then Node (number_shape (20 + length xs) xs 0 1) (number_node 13 xs 4) Nil else number_node (20 + length xs) xs 0) ≤ 2
set_depth xs true = omega arith
set_depth xs false = omega arith

pub ival_depth : (x : Ival) → depth (ival_tree x) ≤ 2
unfolding ival_tree
ival_depth Empty = omega arith
ival_depth (Set xs) = set_depth xs (nat_lt 4 (length xs))
ival_depth (Range lo hi r m) = omega arith
ival_depth Every = omega arith

pub ends_formed : (x : Ival) → HasEnds x → IsWellFormed x
ends_formed Empty h = tt
ends_formed (Set xs) h = h
ends_formed (Range lo hi r m) h = h
ends_formed Every h = tt

pub offsets_depth : (t : Tree) → IsIvalTree t → depth t ≤ 2
offsets_depth t h = subst (λ (u : Tree). depth u ≤ 2) (sym h.tree) (ival_depth (ival_of t))

-- ---- tries whose payloads are low

entries_leaf : (s : Shape) (a b : Tree) → is_leaf s ≡ true → entries (Node s a b) ≡ (key_of s, a) ∷ []
entries_leaf s a b e = ap (λ c. cond c ((key_of s, a) ∷ []) (entries a ++ entries b)) e

entries_branch : (s : Shape) (a b : Tree) → is_leaf s ≡ false → entries (Node s a b) ≡ entries a ++ entries b
entries_branch s a b e = ap (λ c. cond c ((key_of s, a) ∷ []) (entries a ++ entries b)) e

pub all_front : {X : Type 0} (P : X → Type 0) (xs ys : List X) → All P (xs ++ ys) → All P xs
all_front P [] ys h = All-nil P
all_front P (x ∷ xs) ys h = All-cons P x xs (All-head P x (xs ++ ys) h) (all_front P xs ys (All-tail P x (xs ++ ys) h))

pub all_back : {X : Type 0} (P : X → Type 0) (xs ys : List X) → All P (xs ++ ys) → All P ys
all_back P [] ys h = h
all_back P (x ∷ xs) ys h = all_back P xs ys (All-tail P x (xs ++ ys) h)

IsLow : ℕ × Tree → Type 0
IsLow e = depth e.1 ≤ 2

block_depth : (t : Tree) (n q : ℕ) → IsTrie t → Within t n q → All IsLow (entries t) → depth t ≤ n + 3
unfolding IsLow
block_depth Nil n q h w a = absurd (no_nil h)
block_depth (Node s a b) n q h w all =
    elim (leaf_or s) [
      | inl e ↦
          let i = leaf_of s a b h e in
          let d : depth a ≤ 2 = All-head IsLow (key_of s, a) [] (subst (All IsLow) (entries_leaf s a b e) all) in
          let z : depth b ≡ 0 = ap depth i.none in omega (arith, d, z)
      | inr e ↦
          let i = branch_of s a b h e in let l = level_of s in let r = key_of s / 2 ^ (l + 1) in
          let each : All IsLow (entries a ++ entries b) = subst (All IsLow) (entries_branch s a b e) all in
          let u : depth a ≤ l + 3 = block_depth a l (2 * r) i.1 i.0.left (all_front IsLow (entries a) (entries b) each) in
          let v : depth b ≤ l + 3 = block_depth b l (2 * r + 1) i.2 i.0.right (all_back IsLow (entries a) (entries b) each) in
          let t = top_branch s e in let y : top_of s ≤ n = w.0 in omega (arith, u, v, t, y)
    ]

top_depth : (s : Shape) (a b : Tree) → IsTrie (Node s a b) → All IsLow (entries (Node s a b)) → depth (Node s a b) ≤ 35
top_depth s a b h all =
    let d : depth (Node s a b) ≤ top_of s + 3 = block_depth (Node s a b) (top_of s) (key_of s / 2 ^ top_of s) h (within_own s a b) all in
    elim (leaf_or s) [
      | inl e ↦ let t = top_leaf s e in omega (arith, d, t)
      | inr e ↦ let t = top_branch s e in let l = (branch_of s a b h e).0.level in omega (arith, d, t, l)
    ]

-- a trie of offsets
pub pointers_depth : (t : Tree) → IsMap t → All (λ e. IsIvalTree e.1) (entries t) → depth t ≤ 35
unfolding IsLow
pointers_depth Nil h all = omega arith
pointers_depth (Node s a b) h all = top_depth s a b h (λ k d l. offsets_depth _ (all k d l))
