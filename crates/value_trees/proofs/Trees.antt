-- The trees of values.
use Rattle.std.proofs.Common.{◌≡◌, ℕ, ◌+◌, ◌<◌, ◌≤◌, List, [], ◌∷◌, ◌++◌, map, sym, refl, ap, subst, ◌∙◌, Bool, true, false, cond, eqb, Some, arith, inl, inr, ◌⊎◌}
use Rattle.std.specs.Prelude.{slice_index}
use Rattle.std.specs.List.{All}
use Rattle.std.proofs.lemmas.List.Elements.{All-cons, All-head, All-nil, All-tail}
use Rattle.store_api.specs.declared.Shape.{Shape}
use Rattle.store_api.specs.Bag.{Bag, Gains, one, one_self}
use Rattle.store_api.specs.Tree.{Tree, Nil, Node, depth, kid, shape_is}
use Rattle.hptmap.specs.Trie.{IsMap, IsTrie, entries, map_of}
use Rattle.hptmap.proofs.Tries.{no_nil}
use Rattle.ival.specs.Forms.{HasEnds, IsWellFormed}
use Rattle.ival.specs.declared.forms.Ival.{Ival}
use Rattle.avalue.specs.Pointers.{IsPointer, Pointer}
use Rattle.avalue.specs.Values.{IsWellFormedValue}
use Rattle.avalue.specs.declared.value.Value.{Value}
use Rattle.memory_trees.specs.Values.{IsIvalTree, IsValueNode, IsValueParts, IsValueTree, flag, ival_of, ival_tree, is_nil, pointers_of, value_of, value_shape}
use Rattle.memory_trees.proofs.Numbers.{ival_back}
use Rattle.value_trees.specs.Pointers.{HasOffsets, Spells}
use Rattle.value_trees.proofs.Depths.{ends_formed, ival_depth, pointers_depth}
use Rattle.value_trees.proofs.Spelling.{each_entry, pointers_rising, spelt, spelt_each}

-- ---- a value's tree

is_ival : (x : Ival) → IsWellFormed x → IsIvalTree (ival_tree x)
is_ival x h = let e = ival_back x h in record { formed = subst IsWellFormed (sym e) h; tree = ap ival_tree (sym e) }

IsOffsets : Tree → Type 0
IsOffsets t = IsIvalTree t × HasEnds (ival_of t)

offsets_of : (x : Ival) → HasEnds x → IsOffsets (ival_tree x)
unfolding IsOffsets
offsets_of x h = (is_ival x (ends_formed x h), subst HasEnds (sym (ival_back x (ends_formed x h))) h)

test_flag : (b : Bool) → eqb (flag b) 1 ≡ b
test_flag true = refl
test_flag false = refl

make : Bool → Bool → Ival → List Pointer → Value
make u d i ps = record { uninit = u; dangling = d; ints = i; ptrs = ps }

module _ (v : Value) (b : Tree) (formed : IsWellFormedValue v) (m : IsMap b) (s : Spells v.ptrs b) where
  each : (base : ℕ) (p : Tree) → map_of b base ≡ Some p → IsIvalTree p × HasEnds (ival_of p)
  unfolding IsOffsets
  each = spelt_each IsOffsets v.ptrs b (λ k d l. offsets_of _ (formed.ptrs.each k d l)) s

  all_each : All (λ e. IsIvalTree e.1) (entries b)
  all_each = each_entry (λ e. IsIvalTree e.1) b m (λ x p e. (each x p e).0)

  is_value : (n : ℕ) → value_of (Node (value_shape v.uninit v.dangling n) (ival_tree v.ints) b) ≡ v
  unfolding value_of make
  is_value n =
      ap (λ u. make u (eqb (flag v.dangling) 1) (ival_of (ival_tree v.ints)) (pointers_of b)) (test_flag v.uninit)
      ∙ ap (λ u. make v.uninit u (ival_of (ival_tree v.ints)) (pointers_of b)) (test_flag v.dangling)
      ∙ ap (λ u. make v.uninit v.dangling u (pointers_of b)) (ival_back v.ints formed.ints)
      ∙ ap (λ u. make v.uninit v.dangling v.ints u) (spelt v.ptrs b formed.ptrs.rising (λ k d l. ival_back _ (ends_formed _ (formed.ptrs.each k d l))) m s)

  depth_of : (n : ℕ) → depth (Node (value_shape v.uninit v.dangling n) (ival_tree v.ints) b) ≤ 64
  depth_of n = let i = ival_depth v.ints in let p = pointers_depth b m all_each in omega (arith, i, p)

  parts : (n : ℕ) → cond (is_nil b) 1 2 ≡ n → IsValueTree (Node (value_shape v.uninit v.dangling n) (ival_tree v.ints) b)
  unfolding IsValueParts
  parts n e = record {
    parts = record {
      shape = ap (λ (k : ℕ). value_shape v.uninit v.dangling k) (sym e) ∙ ap (λ (w : Value). value_shape w.uninit w.dangling (cond (is_nil b) 1 2)) (sym (is_value n));
      ints = is_ival v.ints formed.ints;
      map = m;
      offsets = each;
    };
    depth = depth_of n;
  }

  top : (n : ℕ) → depth (Node (value_shape v.uninit v.dangling n) (ival_tree v.ints) b) ≤ 128
  top n = let d = depth_of n in omega (arith, d)

-- for the code: without pointers, and with some
value_none : (v : Value) (a t : Tree) (s : Shape) → IsWellFormedValue v → Spells v.ptrs Nil → a ≡ ival_tree v.ints → s ≡ value_shape v.uninit v.dangling 1 → t ≡ Node s a Nil → IsValueTree t × (value_of t ≡ v)
value_none v a t s h p e f g =
    let q : t ≡ Node (value_shape v.uninit v.dangling 1) (ival_tree v.ints) Nil = g ∙ ap (λ (y : Shape). Node y a Nil) f ∙ ap (λ (y : Tree). Node (value_shape v.uninit v.dangling 1) y Nil) e in
    (subst IsValueTree (sym q) (parts v Nil h tt p 1 refl), ap value_of q ∙ is_value v Nil h tt p 1)

trie_map : (b : Tree) → IsTrie b → IsMap b
trie_map Nil h = tt
trie_map (Node s a c) h = h

abbrev kids_for : Tree → ℕ
kids_for b = cond (is_nil b) 1 2

some_tree : (b : Tree) → IsTrie b → kids_for b ≡ 2
some_tree Nil h = absurd (no_nil h)
some_tree (Node s a c) h = refl

value_some : (v : Value) (a b t : Tree) (s : Shape) → IsWellFormedValue v → IsTrie b → Spells v.ptrs b → a ≡ ival_tree v.ints → s ≡ value_shape v.uninit v.dangling 2 → t ≡ Node s a b → IsValueTree t × (value_of t ≡ v)
value_some v a b t s h m p e f g =
    let q : t ≡ Node (value_shape v.uninit v.dangling 2) (ival_tree v.ints) b = g ∙ ap (λ (y : Shape). Node y a b) f ∙ ap (λ (y : Tree). Node (value_shape v.uninit v.dangling 2) y b) e in
    (subst IsValueTree (sym q) (parts v b h (trie_map b m) p 2 (some_tree b m)), ap value_of q ∙ is_value v b h (trie_map b m) p 2)

pub none_is_tree : (v : Value) (a t : Tree) (s : Shape) → IsWellFormedValue v → Spells v.ptrs Nil → a ≡ ival_tree v.ints → s ≡ value_shape v.uninit v.dangling 1 → t ≡ Node s a Nil → IsValueTree t
none_is_tree v a t s h p e f g = (value_none v a t s h p e f g).0

pub none_value : (v : Value) (a t : Tree) (s : Shape) → IsWellFormedValue v → Spells v.ptrs Nil → a ≡ ival_tree v.ints → s ≡ value_shape v.uninit v.dangling 1 → t ≡ Node s a Nil → value_of t ≡ v
none_value v a t s h p e f g = (value_none v a t s h p e f g).1

pub some_is_tree : (v : Value) (a b t : Tree) (s : Shape) → IsWellFormedValue v → IsTrie b → Spells v.ptrs b → a ≡ ival_tree v.ints → s ≡ value_shape v.uninit v.dangling 2 → t ≡ Node s a b → IsValueTree t
some_is_tree v a b t s h m p e f g = (value_some v a b t s h m p e f g).0

pub some_value : (v : Value) (a b t : Tree) (s : Shape) → IsWellFormedValue v → IsTrie b → Spells v.ptrs b → a ≡ ival_tree v.ints → s ≡ value_shape v.uninit v.dangling 2 → t ≡ Node s a b → value_of t ≡ v
some_value v a b t s h m p e f g = (value_some v a b t s h m p e f g).1

pub ints_low : (t : Tree) (x : Ival) → t ≡ ival_tree x → depth t ≤ 2
ints_low t x e = subst (λ (y : Tree). depth y ≤ 2) (sym e) (ival_depth x)

pub map_low : (v : Value) (b : Tree) → IsWellFormedValue v → IsTrie b → Spells v.ptrs b → depth b ≤ 63
map_low v b h m p = let d = depth_of v b h (trie_map b m) p 2 in omega (arith, d)

-- ---- a value that is read back

kids_by : (s : Shape) (a b : Tree) (c : Bool) → is_nil b ≡ c → IsValueNode s a b → s.kids ≡ cond c 1 2
kids_by s a b c e h = ap (λ (y : Shape). y.kids) h.shape ∙ ap (λ (d : Bool). cond d 1 2) e

node_of : (s : Shape) (a b : Tree) → IsValueTree (Node s a b) → IsValueNode s a b
unfolding IsValueParts
node_of s a b h = h.parts

pub some_kids : (t : Tree) (s : Shape) → IsValueTree t → shape_is t s → 0 < s.kids
some_kids Nil s h i = absurd i
some_kids (Node z a b) s h i =
    let k = node_of z a b h in
    subst (λ (y : Shape). 0 < y.kids) (sym i) (elim (is_nil b) as (λ (c : Bool). is_nil b ≡ c → 0 < z.kids) [
      | true ↦ λ e. (let q : z.kids ≡ 1 = kids_by z a b true e k in omega (arith, q))
      | false ↦ λ e. (let q : z.kids ≡ 2 = kids_by z a b false e k in omega (arith, q))
    ] refl)

by_nil : (s : Shape) (a b : Tree) → IsValueNode s a b → ((s.kids ≡ 1) × (b ≡ Nil)) ⊎ ((s.kids ≡ 2) × IsTrie b)
by_nil s a Nil h = inl (kids_by s a Nil true refl h, refl)
by_nil s a (Node z c d) h = inr (kids_by s a (Node z c d) false refl h, h.map)

cases : (t : Tree) (s : Shape) → IsValueTree t → shape_is t s → ((s.kids ≡ 1) × (kid t 1 ≡ Nil)) ⊎ ((s.kids ≡ 2) × IsTrie (kid t 1))
cases Nil s h i = absurd i
cases (Node z a b) s h i = subst (λ (y : Shape). ((y.kids ≡ 1) × (b ≡ Nil)) ⊎ ((y.kids ≡ 2) × IsTrie b)) (sym i) (by_nil z a b (node_of z a b h))

pub value_ints : (t : Tree) → IsValueTree t → IsIvalTree (kid t 0)
unfolding IsValueParts
value_ints Nil h = absurd h.parts
value_ints (Node s a b) h = h.parts.ints

value_ptrs : (t : Tree) → IsValueTree t → (value_of t).ptrs ≡ pointers_of (kid t 1)
unfolding IsValueParts value_of
value_ptrs Nil h = absurd h.parts
value_ptrs (Node s a b) h = refl

pub no_pointers : (t : Tree) (s : Shape) (ps : List Pointer) → IsValueTree t → shape_is t s → s.kids ≡ 1 → ps ≡ [] → ps ≡ (value_of t).ptrs
no_pointers t s ps h i e f =
    f ∙ sym (value_ptrs t h ∙ elim (cases t s h i) [
      | inl k ↦ ap pointers_of k.1
      | inr k ↦ absurd (let q = k.0 in omega (arith, q, e))
    ])

pub has_map : (t : Tree) (s : Shape) → IsValueTree t → shape_is t s → (s.kids ≡ 1 → ⊥) → IsTrie (kid t 1)
has_map t s h i n = elim (cases t s h i) [ inl k ↦ absurd (n k.0) | inr k ↦ k.1 ]

pub two_kids : (t : Tree) (s : Shape) → IsValueTree t → shape_is t s → (s.kids ≡ 1 → ⊥) → s.kids ≡ 2
two_kids t s h i n = elim (cases t s h i) [ inl k ↦ absurd (n k.0) | inr k ↦ k.0 ]

pub has_offsets : (t : Tree) → IsValueTree t → HasOffsets (kid t 1)
unfolding IsValueParts HasOffsets
has_offsets Nil h = absurd h.parts
has_offsets (Node s a b) h = each_entry (λ e. IsIvalTree e.1) b h.parts.map (λ x p e. (h.parts.offsets x p e).0)

pub with_pointers : (t : Tree) (ps qs : List Pointer) → IsValueTree t → ps ≡ [] → qs ≡ ps ++ pointers_of (kid t 1) → qs ≡ (value_of t).ptrs
with_pointers t ps qs h e f = f ∙ ap (λ xs. xs ++ pointers_of (kid t 1)) e ∙ sym (value_ptrs t h)

pub took : (t : Tree) (s : Shape) (u d : Bool) (i : Ival) (ps : List Pointer) → IsValueTree t → shape_is t s → u ≡ eqb (slice_index s.body 0) 1 → d ≡ eqb (slice_index s.body 1) 1 → i ≡ ival_of (kid t 0) → ps ≡ (value_of t).ptrs
    → record { uninit = u; dangling = d; ints = i; ptrs = ps } ≡ value_of t
unfolding IsValueParts value_of make
took Nil s u d i ps h k e f g p = absurd h.parts
took (Node z a b) s u d i ps h k e f g p =
    ap (λ w. make w d i ps) (e ∙ ap (λ (y : Shape). eqb (slice_index y.body 0) 1) k)
    ∙ ap (λ w. make (eqb (slice_index z.body 0) 1) w i ps) (f ∙ ap (λ (y : Shape). eqb (slice_index y.body 1) 1) k)
    ∙ ap (λ w. make (eqb (slice_index z.body 0) 1) (eqb (slice_index z.body 1) 1) w ps) g
    ∙ ap (λ w. make (eqb (slice_index z.body 0) 1) (eqb (slice_index z.body 1) 1) (ival_of a) w) p

IsEnds : ℕ × Tree → Type 0
IsEnds e = HasEnds (ival_of e.1)

told_all : (es : List (ℕ × Tree)) → All IsEnds es → All IsPointer (map (λ e. (e.0, ival_of e.1)) es)
unfolding IsEnds
told_all [] g = All-nil IsPointer
told_all (e ∷ es) g = All-cons IsPointer (e.0, ival_of e.1) (map (λ e. (e.0, ival_of e.1)) es) (All-head (λ e. HasEnds (ival_of e.1)) e es g) (told_all es (All-tail (λ e. HasEnds (ival_of e.1)) e es g))

pub value_formed : (t : Tree) → IsValueTree t → IsWellFormedValue (value_of t)
unfolding IsValueParts value_of IsEnds
value_formed Nil h = absurd h.parts
value_formed (Node s a b) h = record {
  ints = h.parts.ints.formed;
  ptrs = record { rising = pointers_rising b h.parts.map; each = told_all (entries b) (each_entry IsEnds b h.parts.map (λ x p e. (h.parts.offsets x p e).1)) };
}

-- the trie of the pointers stays while the integers come
pub map_stays : (b c : Bag) (n m : ℕ) (t : Tree) → Gains b c n t → ((x : ℕ) → one m x ≤ b.count x) → c.tree m ≡ b.tree m
map_stays b c n m t h o = h.trades.trees m (let k = o m in let e = one_self m in omega (arith, k, e))

pub pointing_is_tree : (b c : Bag) (n m : ℕ) (v : Value) (t : Tree) (s : Shape) → Gains b c n (ival_tree v.ints) → ((x : ℕ) → one m x ≤ b.count x) → IsWellFormedValue v → IsTrie (b.tree m) → Spells v.ptrs (b.tree m)
    → s ≡ value_shape v.uninit v.dangling 2 → t ≡ Node s (c.tree n) (c.tree m) → IsValueTree t
pointing_is_tree b c n m v t s h o f i p e q = some_is_tree v (c.tree n) (b.tree m) t s f i p h.tree e (q ∙ ap (λ (y : Tree). Node s (c.tree n) y) (map_stays b c n m (ival_tree v.ints) h o))

pub pointing_value : (b c : Bag) (n m : ℕ) (v : Value) (t : Tree) (s : Shape) → Gains b c n (ival_tree v.ints) → ((x : ℕ) → one m x ≤ b.count x) → IsWellFormedValue v → IsTrie (b.tree m) → Spells v.ptrs (b.tree m)
    → s ≡ value_shape v.uninit v.dangling 2 → t ≡ Node s (c.tree n) (c.tree m) → value_of t ≡ v
pointing_value b c n m v t s h o f i p e q = some_value v (c.tree n) (b.tree m) t s f i p h.tree e (q ∙ ap (λ (y : Tree). Node s (c.tree n) y) (map_stays b c n m (ival_tree v.ints) h o))

pub pointing_low : (b c : Bag) (n m : ℕ) (v : Value) → Gains b c n (ival_tree v.ints) → ((x : ℕ) → one m x ≤ b.count x) → IsWellFormedValue v → IsTrie (b.tree m) → Spells v.ptrs (b.tree m) → (depth (c.tree n) ≤ 2) × (depth (c.tree m) ≤ 63)
pointing_low b c n m v h o f i p = (ints_low (c.tree n) v.ints h.tree, subst (λ (y : Tree). depth y ≤ 63) (sym (map_stays b c n m (ival_tree v.ints) h o)) (map_low v (b.tree m) f i p))

pub ruleset take_facts = (some_kids, value_ints, no_pointers, has_map, two_kids, has_offsets, with_pointers, took, value_formed)
