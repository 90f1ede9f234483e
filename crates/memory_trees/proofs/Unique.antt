-- Each object, and each state, has one tree.
use Rattle.std.proofs.Common.{ℕ, zero, suc, ◌+◌, ◌-◌, ◌%◌, ◌^◌, ◌<◌, ◌≤◌, ◌≡◌, refl, sym, ap, subst, ◌∙◌, Bool, true, false, eqb, cond, List, [], ◌∷◌, map, length, Option, Some, None, arith}
use Rattle.std.specs.Prelude.{nat_lt, if◌then◌else◌}
use Rattle.std.specs.Map.{lookup}
use Rattle.std.proofs.Math.Nat.{mod-eq_of_lt, mod-lt, mod-add-mod}
use Rattle.std.proofs.lemmas.Grind.{common_steps}
use Rattle.store_api.specs.declared.Shape as store
use Rattle.store_api.specs.Tree.{Tree, Nil, Node, kid}
use Rattle.hptmap.specs.Trie.{IsMap, map_of, entries}
use Rattle.hptmap.proofs.Canonical.{tries_equal, some_key}
use Rattle.hptmap.proofs.Rising.{entries_map}
use Rattle.avalue.specs.declared.value.Value.{Value}
use Rattle.abstract_memory.specs.Objects as object
use Rattle.abstract_memory.specs.Objects.{Object, entry_at}
use Rattle.abstract_memory.proofs.Listed.{listed_at, listed_length}
use Rattle.memory_trees.specs.Values.{IsIvalTree, IsValueNode, IsValueParts, IsValueTree, ival_of, ival_tree, is_nil, value_of, value_shape}
use Rattle.memory_trees.specs.Blocks.{Piece, Blocks, out, leaf, branch, advance, piece_at, AreApart, IsCanonical, IsBlock, IsBlocksTree, blocks_of, blocks_tree}
use Rattle.memory_trees.specs.Objects.{IsObjectTree, IsSizedTree, ObjectsHaveOneTree, entry_of, level_of, object_of, size_in, sized, sized_object}
use Rattle.memory_trees.specs.States.{StatesHaveOneTree, objects_of}

abbrev IsPiece : Piece → Type 0
IsPiece e = (e.place < e.width) × (e.width ≤ 64) × IsValueTree e.value

pub advance_none : (e : Piece) → e.place < e.width → advance e 0 ≡ e
unfolding advance
advance_none e l =
    let z : e.place + 0 ≡ e.place = omega arith in
    let m : (e.place + 0) % e.width ≡ e.place = rw z (mod-eq_of_lt l) in
    ap (λ (p : ℕ). let r : Piece = record { value = e.value; width = e.width; place = p } in r) m

pub advance_more : (e : Piece) (a b : ℕ) → advance (advance e a) b ≡ advance e (a + b)
unfolding advance
advance_more e a b = ap (λ (p : ℕ). let r : Piece = record { value = e.value; width = e.width; place = p } in r) (mod-add-mod (e.place + a) e.width b ∙ ap (λ (q : ℕ). q % e.width) (let z : e.place + a + b ≡ e.place + (a + b) = omega arith in z))

pub out_only : (k n : ℕ) (t : Blocks) → IsCanonical k n t → n ≡ 0 → t ≡ out
unfolding IsCanonical
out_only k n out c e = refl
out_only k n (leaf e) c z = let l : 0 < n = c.0 in absurd (omega arith)
out_only zero n (branch l r) c z = absurd c
out_only (suc k) n (branch l r) c z = let h : 0 < n = c.0 in absurd (omega arith)

pub lower : (k : ℕ) (l r : Blocks) (x : ℕ) → x < 2 ^ k → piece_at (suc k) (branch l r) x ≡ piece_at k l x
unfolding piece_at
lower k l r x h = let t : nat_lt x (2 ^ k) ≡ true = grind arith in rw t refl

pub upper : (k : ℕ) (l r : Blocks) (x : ℕ) → piece_at (suc k) (branch l r) (2 ^ k + x) ≡ piece_at k r x
unfolding piece_at
upper k l r x =
    let t : nat_lt (2 ^ k + x) (2 ^ k) ≡ false = grind arith in
    let s : 2 ^ k + x - 2 ^ k ≡ x = omega arith in rw t (rw s refl)

pub two_more : (k : ℕ) → 2 ^ suc k ≡ 2 ^ k + 2 ^ k
two_more k = grind (arith, common_steps)

pub two_some : (k : ℕ) → 0 < 2 ^ k
two_some zero = omega arith
two_some (suc k) = let h : 0 < 2 ^ k = two_some k in let two : 2 ^ suc k ≡ 2 ^ k + 2 ^ k = two_more k in omega arith

pub leaf_bits : (k : ℕ) (e : Piece) (x : ℕ) → piece_at k (leaf e) x ≡ advance e x
unfolding piece_at
leaf_bits k e x = refl

pub is_leaf : (k n : ℕ) (e : Piece) → 0 < n → IsPiece e → IsCanonical k n (leaf e)
unfolding IsCanonical
is_leaf k n e l p = (l, p.0, p.1, p.2)

pub advanced_in : (e : Piece) (a : ℕ) → IsPiece e → IsPiece (advance e a)
unfolding advance
advanced_in e a h = let l = h.0 in (mod-lt (e.place + a) (let p : 0 < e.width = omega (arith, l) in p), h.1, h.2)

-- A leaf and a branch differ somewhere.
clash : (k : ℕ) → ((n : ℕ) (t u : Blocks) → IsCanonical k n t → IsCanonical k n u → ((x : ℕ) → x < n → x < 2 ^ k → piece_at k t x ≡ piece_at k u x) → t ≡ u)
    → (n : ℕ) (e : Piece) (l r : Blocks) → 0 < n → IsPiece e → IsCanonical k n l → IsCanonical k (n - 2 ^ k) r → AreApart k l r
    → ((x : ℕ) → x < n → x < 2 ^ suc k → advance e x ≡ piece_at (suc k) (branch l r) x) → ⊥
clash k ih n e l r some inside cl cr apart agree =
    let two : 2 ^ suc k ≡ 2 ^ k + 2 ^ k = two_more k in
    let left : l ≡ leaf e = ih n l (leaf e) cl (is_leaf k n e some inside)
    (λ (x : ℕ) (a : x < n) (b : x < 2 ^ k). sym (lower k l r x b) ∙ sym (agree x a (omega arith)) ∙ sym (leaf_bits k e x)) in
    elim (nat_lt 0 (n - 2 ^ k)) as (λ (b : Bool). nat_lt 0 (n - 2 ^ k) ≡ b → ⊥) [
      | true ↦ λ q. apart.more e left (ih (n - 2 ^ k) r (leaf (advance e (2 ^ k))) cr (is_leaf k (n - 2 ^ k) (advance e (2 ^ k)) (grind arith) (advanced_in e (2 ^ k) inside))
          (λ (x : ℕ) (a : x < n - 2 ^ k) (b : x < 2 ^ k).
          sym (upper k l r x) ∙ sym (agree (2 ^ k + x) (omega arith) (omega arith)) ∙ sym (advance_more e (2 ^ k) x) ∙ sym (leaf_bits k (advance e (2 ^ k)) x)))
      | false ↦ λ q. apart.none e left (out_only k (n - 2 ^ k) r cr (grind arith))
    ] refl

pub unique : (k n : ℕ) (t u : Blocks) → IsCanonical k n t → IsCanonical k n u → ((x : ℕ) → x < n → x < 2 ^ k → piece_at k t x ≡ piece_at k u x) → t ≡ u
unfolding IsCanonical
unique k n out out c b agree = refl
unique k n (leaf e) (leaf f) c b agree =
    let two : 0 < 2 ^ k = two_some k in
    let at : advance e 0 ≡ advance f 0 = sym (leaf_bits k e 0) ∙ agree 0 c.0 two ∙ leaf_bits k f 0 in
    ap leaf (sym (advance_none e c.1) ∙ at ∙ advance_none f b.1)
unique k n out (leaf f) c b agree = let l : 0 < n = b.0 in absurd (omega arith)
unique k n (leaf e) out c b agree = let l : 0 < n = c.0 in absurd (omega arith)
unique zero n out (branch l r) c b agree = absurd b
unique zero n (leaf e) (branch l r) c b agree = absurd b
unique zero n (branch l r) u c b agree = absurd c
unique (suc k) n out (branch l r) c b agree = let z : 0 < n = b.0 in absurd (omega arith)
unique (suc k) n (branch l r) out c b agree = let z : 0 < n = c.0 in absurd (omega arith)
unique (suc k) n (leaf e) (branch l r) c b agree =
    absurd (clash k (unique k) n e l r c.0 (c.1, c.2, c.3) b.1 b.2 b.3 (λ (x : ℕ) (p : x < n) (q : x < 2 ^ suc k). sym (leaf_bits (suc k) e x) ∙ agree x p q))
unique (suc k) n (branch l r) (leaf e) c b agree =
    absurd (clash k (unique k) n e l r b.0 (b.1, b.2, b.3) c.1 c.2 c.3 (λ (x : ℕ) (p : x < n) (q : x < 2 ^ suc k). sym (leaf_bits (suc k) e x) ∙ sym (agree x p q)))
unique (suc k) n (branch l r) (branch s t) c b agree =
    let two : 2 ^ suc k ≡ 2 ^ k + 2 ^ k = two_more k in
    let low : l ≡ s = unique k n l s c.1 b.1 (λ (x : ℕ) (p : x < n) (q : x < 2 ^ k). sym (lower k l r x q) ∙ agree x p (omega arith) ∙ lower k s t x q) in
    let high : r ≡ t = unique k (n - 2 ^ k) r t c.2 b.2 (λ (x : ℕ) (p : x < n - 2 ^ k) (q : x < 2 ^ k). sym (upper k l r x) ∙ agree (2 ^ k + x) (omega arith) (omega arith) ∙ upper k s t x) in
    ap (λ (z : Blocks). branch z r) low ∙ ap (λ (z : Blocks). branch s z) high

-- ---- tries whose payloads tell their trees

opt : {Y : Type 0} → (Tree → Y) → Option Tree → Option Y
opt f None = None
opt f (Some t) = Some (f t)

abbrev told : {Y : Type 0} → (Tree → Y) → ℕ × Tree → ℕ × Y
told f p = (p.0, f p.1)

mapped_lookup : {Y : Type 0} (f : Tree → Y) (es : List (ℕ × Tree)) (x : ℕ) → lookup (λ k. eqb k x) (map (told f) es) ≡ opt f (lookup (λ k. eqb k x) es)
unfolding opt
mapped_lookup f [] x = refl
mapped_lookup f (e ∷ es) x = elim (eqb e.0 x) as (λ (b : Bool). cond b (Some (f e.1)) (lookup (λ k. eqb k x) (map (told f) es)) ≡ opt f (cond b (Some e.1) (lookup (λ k. eqb k x) es))) [
  | true ↦ refl
  | false ↦ mapped_lookup f es x
]

some_of : {Y : Type 0} (a b : Y) → Some a ≡ Some b → a ≡ b
some_of a b e = ap (value a) e
  where
    value : {Y : Type 0} → Y → Option Y → Y
    value d None = d
    value d (Some y) = y

no_some : {Y : Type 0} (a : Y) → None ≡ Some a → ⊥
no_some a e = cc

module _ {Y : Type 0} (P : Tree → Type 0) (f : Tree → Y) (tells : (p q : Tree) → P p → P q → f p ≡ f q → p ≡ q) where
  options_equal : (a b : Option Tree) → ((p : Tree) → a ≡ Some p → P p) → ((p : Tree) → b ≡ Some p → P p) → opt f a ≡ opt f b → a ≡ b
  unfolding opt
  options_equal None None h k e = refl
  options_equal None (Some q) h k e = absurd (no_some (f q) e)
  options_equal (Some p) None h k e = absurd (no_some (f p) (sym e))
  options_equal (Some p) (Some q) h k e = ap Some (tells p q (h p refl) (k q refl) (some_of (f p) (f q) e))

  maps_equal : (t u : Tree) → ((x : ℕ) (p : Tree) → map_of t x ≡ Some p → P p) → ((x : ℕ) (p : Tree) → map_of u x ≡ Some p → P p)
      → map (told f) (entries t) ≡ map (told f) (entries u) → (x : ℕ) → map_of t x ≡ map_of u x
  maps_equal t u h k e x =
      options_equal (map_of t x) (map_of u x) (h x) (k x)
      (ap (opt f) (sym (entries_map t x)) ∙ sym (mapped_lookup f (entries t) x) ∙ ap (λ es. lookup (λ k. eqb k x) es) e ∙ mapped_lookup f (entries u) x ∙ ap (opt f) (entries_map u x))

  pub same_tries : (t u : Tree) → IsMap t → IsMap u → ((x : ℕ) (p : Tree) → map_of t x ≡ Some p → P p) → ((x : ℕ) (p : Tree) → map_of u x ≡ Some p → P p)
      → map (told f) (entries t) ≡ map (told f) (entries u) → t ≡ u
  same_tries Nil Nil m n h k e = refl
  same_tries Nil (Node s a b) m n h k e = let y = some_key (Node s a b) n in absurd (no_some y.1.0 (maps_equal Nil (Node s a b) h k e y.0 ∙ y.1.1))
  same_tries (Node s a b) Nil m n h k e = let y = some_key (Node s a b) m in absurd (no_some y.1.0 (sym (maps_equal (Node s a b) Nil h k e y.0) ∙ y.1.1))
  same_tries (Node s a b) (Node z c d) m n h k e = tries_equal (Node s a b) (Node z c d) m n (maps_equal (Node s a b) (Node z c d) h k e)

-- ---- values

ivals_tell : (p q : Tree) → IsIvalTree p → IsIvalTree q → ival_of p ≡ ival_of q → p ≡ q
ivals_tell p q h k e = h.tree ∙ ap ival_tree e ∙ sym k.tree

nodes_tell : (s : store.Shape) (a b : Tree) (z : store.Shape) (c d : Tree) → IsValueNode s a b → IsValueNode z c d → value_of (Node s a b) ≡ value_of (Node z c d) → Node s a b ≡ Node z c d
unfolding value_of
nodes_tell s a b z c d h k e =
    let i = ivals_tell a c h.ints k.ints (ap (λ (v : Value). v.ints) e) in
    let p = same_tries IsIvalTree ival_of ivals_tell b d h.map k.map (λ x q m. (h.offsets x q m).0) (λ x q m. (k.offsets x q m).0) (ap (λ (v : Value). v.ptrs) e) in
    let u = ap (λ (v : Value). v.uninit) e in let g = ap (λ (v : Value). v.dangling) e in
    let shape : s ≡ z = h.shape ∙ ap (λ (t : Bool). value_shape t (value_of (Node s a b)).dangling (cond (is_nil b) 1 2)) u
    ∙ ap (λ (t : Bool). value_shape (value_of (Node z c d)).uninit t (cond (is_nil b) 1 2)) g
    ∙ ap (λ (t : Tree). value_shape (value_of (Node z c d)).uninit (value_of (Node z c d)).dangling (cond (is_nil t) 1 2)) p ∙ sym k.shape in
    ap (λ (t : store.Shape). Node t a b) shape ∙ ap (λ (t : Tree). Node z t b) i ∙ ap (λ (t : Tree). Node z c t) p

parts_tell : (p q : Tree) → IsValueParts p → IsValueParts q → value_of p ≡ value_of q → p ≡ q
unfolding IsValueParts
parts_tell Nil q h k e = absurd h
parts_tell (Node s a b) Nil h k e = absurd k
parts_tell (Node s a b) (Node z c d) h k e = nodes_tell s a b z c d h k e

values_tell : (p q : Tree) → IsValueTree p → IsValueTree q → value_of p ≡ value_of q → p ≡ q
values_tell p q h k e = parts_tell p q h.parts k.parts e

-- ---- objects

piece_value : (k n : ℕ) (b : Blocks) (x : ℕ) → IsCanonical k n b → x < n → x < 2 ^ k → IsValueTree (piece_at k b x).value
unfolding IsCanonical piece_at advance
piece_value k n out x c l m = absurd (omega (arith, c, l))
piece_value k n (leaf e) x c l m = c.3
piece_value zero n (branch a b) x c l m = absurd c
piece_value (suc k) n (branch a b) x c l m =
    let two : 2 ^ suc k ≡ 2 ^ k + 2 ^ k = two_more k in
    elim (nat_lt x (2 ^ k)) as (λ (d : Bool). nat_lt x (2 ^ k) ≡ d → IsValueTree (if d then piece_at k a x else piece_at k b (x - 2 ^ k)).value) [
      | true ↦ λ t. (let u : x < 2 ^ k = grind arith in piece_value k n a x c.1 l u)
      | false ↦ λ t. (let u : 2 ^ k ≤ x = grind arith in piece_value k (n - 2 ^ k) b (x - 2 ^ k) c.2 (omega (arith, u, l)) (omega (arith, u, m, two)))
    ] refl

pieces_tell : (e f : Piece) → IsValueTree e.value → IsValueTree f.value → entry_of e ≡ entry_of f → e ≡ f
pieces_tell e f h k q =
    let v = values_tell e.value f.value h k (ap (λ (t : object.Entry). t.value) q) in
    let w = ap (λ (t : object.Entry). t.width) q in
    let p = ap (λ (t : object.Entry). t.place) q in
    ap (λ (t : Tree). make t e.width e.place) v ∙ ap (λ (t : ℕ). make f.value t e.place) w ∙ ap (λ (t : ℕ). make f.value f.width t) p
  where
    make : Tree → ℕ → ℕ → Piece
    make v w p = record { value = v; width = w; place = p }

pub objects_have_one_tree : ObjectsHaveOneTree
unfolding IsBlock IsBlocksTree object_of
objects_have_one_tree size t u h k e =
    let k2 = level_of size in
    let agree : (x : ℕ) → x < size → x < 2 ^ level_of size → piece_at (level_of size) (blocks_of t) x ≡ piece_at (level_of size) (blocks_of u) x = λ (x : ℕ) (l : x < size) (m : x < 2 ^ level_of size).
    pieces_tell (piece_at (level_of size) (blocks_of t) x) (piece_at (level_of size) (blocks_of u) x)
    (piece_value (level_of size) size (blocks_of t) x h.block l m) (piece_value (level_of size) size (blocks_of u) x k.block l m)
    (sym (listed_at size (λ x. entry_of (piece_at (level_of size) (blocks_of t) x)) x l) ∙ ap (λ (o : Object). entry_at o x) e ∙ listed_at size (λ x. entry_of (piece_at (level_of size) (blocks_of u) x)) x l) in
    sym h.coded ∙ ap blocks_tree (unique (level_of size) size (blocks_of t) (blocks_of u) h.block k.block agree) ∙ k.coded

-- ---- states

object_length : (size : ℕ) (t : Tree) → length (object_of size t) ≡ size
unfolding object_of
object_length size t = listed_length size (λ x. entry_of (piece_at (level_of size) (blocks_of t) x))

sized_tell : (p q : Tree) → IsSizedTree p → IsSizedTree q → sized_object p ≡ sized_object q → p ≡ q
sized_tell p q h k e =
    let z : size_in p ≡ size_in q = sym (object_length (size_in p) (kid p 0)) ∙ ap length e ∙ object_length (size_in q) (kid q 0) in
    let o : IsObjectTree (size_in p) (kid q 0) = subst (λ (n : ℕ). IsObjectTree n (kid q 0)) (sym z) k.object in
    let d : object_of (size_in p) (kid p 0) ≡ object_of (size_in p) (kid q 0) = e ∙ ap (λ (n : ℕ). object_of n (kid q 0)) (sym z) in
    h.tree ∙ ap (λ (t : Tree). sized (size_in p) t) (objects_have_one_tree (size_in p) (kid p 0) (kid q 0) h.object o d) ∙ ap (λ (n : ℕ). sized n (kid q 0)) z ∙ sym k.tree

pub states_have_one_tree : StatesHaveOneTree
unfolding objects_of
states_have_one_tree t u h k e = same_tries IsSizedTree sized_object sized_tell t u h.map k.map h.objects k.objects e

-- maps with the same pairs have one tree
pub maps_tell : (t u : Tree) → IsMap t → IsMap u → ((x : ℕ) → map_of t x ≡ map_of u x) → t ≡ u
maps_tell Nil Nil m n e = refl
maps_tell Nil (Node s a b) m n e = let y = some_key (Node s a b) n in absurd (no_some y.1.0 (e y.0 ∙ y.1.1))
maps_tell (Node s a b) Nil m n e = let y = some_key (Node s a b) m in absurd (no_some y.1.0 (sym (e y.0) ∙ y.1.1))
maps_tell (Node s a b) (Node z c d) m n e = tries_equal (Node s a b) (Node z c d) m n e
