-- Maps that stay while holds come.
use Rattle.std.proofs.Common.{◌≡◌, ℕ, ◌+◌, ◌<◌, ◌≤◌, refl, sym, ap, subst, ◌∙◌, Bool, cond, eqb, Option, Some, None, arith, List, Result, Ok, Err, IfOk}
use Rattle.store_api.specs.Tree.{Tree, Nil}
use Rattle.store_api.specs.Bag.{Bag, Trades, none, one, one_self}
use Rattle.hptmap.specs.Trie.{IsTrie, MapIn, map_of, map_out, map_tree}
use Rattle.avalue.specs.Pointers.{Pointer}
use Rattle.value_trees.specs.Pointers.{Spells}

-- a map that is owned is held
pub map_held : {H : Type 0} (name : H → ℕ) (b : Bag) (m : Option H) (root : H) → ((x : ℕ) → map_out name m x ≤ b.count x) → m ≡ Some root → 0 < b.count (name root)
map_held name b m root h e =
    let k : map_out name (Some root) (name root) ≤ b.count (name root) = subst (λ (y : Option _). map_out name y (name root) ≤ b.count (name root)) e (h (name root)) in
    let o = one_self (name root) in omega (arith, k, o)

tree_kept : {H : Type 0} (name : H → ℕ) (b c : Bag) (come : ℕ → ℕ) (m : Option H) → Trades b c none come → ((x : ℕ) → map_out name m x ≤ b.count x) → map_tree name c m ≡ map_tree name b m
tree_kept name b c come None t h = refl
tree_kept name b c come (Some root) t h = t.trees (name root) (map_held name b (Some root) root h refl)

pub map_kept : {H : Type 0} (name : H → ℕ) (b c : Bag) (come : ℕ → ℕ) (m : Option H) → Trades b c none come → ((x : ℕ) → map_out name m x ≤ b.count x) → MapIn name b m → MapIn name c m
map_kept name b c come None t h i = tt
map_kept name b c come (Some root) t h i = subst IsTrie (sym (tree_kept name b c come (Some root) t h)) i

pub pairs_put : {H : Type 0} (name : H → ℕ) (b c d : Bag) (come : ℕ → ℕ) (m r : Option H) (key : ℕ) (p q : Tree) → Trades b c none come → ((x : ℕ) → map_out name m x ≤ b.count x) → p ≡ q
    → ((x : ℕ) → map_of (map_tree name d r) x ≡ cond (eqb x key) (Some p) (map_of (map_tree name c m) x)) → (x : ℕ) → map_of (map_tree name d r) x ≡ cond (eqb x key) (Some q) (map_of (map_tree name b m) x)
pairs_put name b c d come m r key p q t h e f x =
    f x ∙ ap (λ (y : Tree). cond (eqb x key) (Some y) (map_of (map_tree name c m) x)) e ∙ ap (λ (y : Tree). cond (eqb x key) (Some q) (map_of y x)) (tree_kept name b c come m t h)

pub ok_pairs : {R E : Type 0} (result : Result R E) (P Q : R → Type 0) → ((r : R) → P r → Q r) → IfOk result P → IfOk result Q
ok_pairs (Ok r) P Q f h = f r h
ok_pairs (Err e) P Q f h = h

-- what a map is, where it is empty and where it isn't
pub same_none : {H : Type 0} (name : H → ℕ) (b c : Bag) (m : Option H) → Trades b c none (map_out name m) → m ≡ None → Trades b c none none
same_none name b c m t e = subst (λ (y : Option _). Trades b c none (map_out name y)) e t

pub trades_some : {H : Type 0} (name : H → ℕ) (b c : Bag) (m : Option H) (root : H) → Trades b c none (map_out name m) → m ≡ Some root → Trades b c none (one (name root))
trades_some name b c m root t e = subst (λ (y : Option _). Trades b c none (map_out name y)) e t

pub trie_some : {H : Type 0} (name : H → ℕ) (b : Bag) (m : Option H) (root : H) → MapIn name b m → m ≡ Some root → IsTrie (b.tree (name root))
trie_some name b m root h e = subst (MapIn name b) e h

pub spells_some : {H : Type 0} (name : H → ℕ) (b : Bag) (m : Option H) (root : H) (ps : List Pointer) → Spells ps (map_tree name b m) → m ≡ Some root → Spells ps (b.tree (name root))
spells_some name b m root ps h e = subst (λ (y : Option _). Spells ps (map_tree name b y)) e h

pub spells_nothing : {H : Type 0} (name : H → ℕ) (b : Bag) (m : Option H) (ps : List Pointer) → Spells ps (map_tree name b m) → m ≡ None → Spells ps Nil
spells_nothing name b m ps h e = subst (λ (y : Option _). Spells ps (map_tree name b y)) e h

pub ruleset give_facts = (map_held)

pub ruleset root_facts = (same_none, trades_some, trie_some, spells_some, spells_nothing)
