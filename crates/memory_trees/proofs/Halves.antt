-- What code uses of trees of blocks.
use Rattle.std.proofs.Common.{ℕ, zero, suc, ◌+◌, ◌-◌, ◌%◌, ◌^◌, ◌<◌, ◌≤◌, ◌≡◌, ◌≢◌, refl, sym, ap, subst, ◌∙◌, Bool, true, false, eqb, arith}
use Rattle.std.specs.Prelude.{nat_lt, nat_le, ◌&&◌, ◌↔◌, IsTrue, if◌then◌else◌, slice_index}
use Rattle.std.proofs.lemmas.Grind.{common_steps}
use Rattle.std.proofs.Math.Nat.{mod-lt, mod-add-mod}
use Rattle.store_api.specs.declared.Shape.{Shape}
use Rattle.store_api.specs.Tree.{Tree, Nil, Node, depth, kid, shape_is}
use Rattle.memory_trees.specs.Values.{IsValueTree}
use Rattle.memory_trees.specs.Blocks.{Piece, piece, Blocks, out, leaf, branch, advance, no_piece, piece_at, AreApart, IsCanonical, leaf_shape, branch_shape, out_shape, blocks_tree, blocks_of, IsBlock, IsBlocksTree, put_bit, Puts, Joins, IsLower, IsUpper, OneRun, ends, goes_on, Decides, lower_tree, upper_tree}

-- How many subtrees a node has.
abbrev pub kids_by : ℕ → ℕ
kids_by h = if eqb h 40 then 1 else if eqb h 41 then 2 else 0

abbrev node_kids : Tree → ℕ
node_kids Nil = 0
node_kids (Node s a b) = s.kids

abbrev node_head : Tree → ℕ
node_head Nil = 0
node_head (Node s a b) = s.head

kids_cases : (s : Shape) (a b : Tree) (l r : Blocks) (p q : Bool) → eqb s.head 40 ≡ p → eqb s.head 41 ≡ q
    → blocks_tree (if p then leaf (record { value = a; width = slice_index s.body 0; place = slice_index s.body 1 }) else if q then branch l r else out) ≡ Node s a b → s.kids ≡ (if p then 1 else if q then 2 else 0)
unfolding blocks_tree
kids_cases s a b l r true q e f h = let k : 1 ≡ s.kids = ap node_kids h in sym k
kids_cases s a b l r false true e f h = let k : 2 ≡ s.kids = ap node_kids h in sym k
kids_cases s a b l r false false e f h = let k : 0 ≡ s.kids = ap node_kids h in sym k

pub kids_of : (t : Tree) (s : Shape) → IsBlocksTree t → shape_is t s → s.kids ≡ kids_by s.head
unfolding blocks_of IsBlocksTree
kids_of Nil s o h = absurd h
kids_of (Node z a b) s o h = rw h (kids_cases z a b (blocks_of a) (blocks_of b) (eqb z.head 40) (eqb z.head 41) refl refl o)

pub lower_branch : (t : Tree) (s : Shape) → shape_is t s → eqb s.head 41 ≡ true → lower_tree t ≡ kid t 0
unfolding lower_tree
lower_branch Nil s h e = absurd h
lower_branch (Node z a b) s h e = let k : eqb z.head 41 ≡ true = rw h at e in rw k refl

pub lower_leaf : (t : Tree) (s : Shape) → shape_is t s → eqb s.head 41 ≡ false → lower_tree t ≡ t
unfolding lower_tree
lower_leaf Nil s h e = absurd h
lower_leaf (Node z a b) s h e = let k : eqb z.head 41 ≡ false = rw h at e in rw k refl

pub upper_branch : (k n : ℕ) (t : Tree) (s : Shape) → shape_is t s → eqb s.head 41 ≡ true → upper_tree k n t ≡ kid t 1
unfolding upper_tree
upper_branch k n Nil s h e = absurd h
upper_branch k n (Node z a b) s h e = let k : eqb z.head 41 ≡ true = rw h at e in rw k refl

pub upper_out : (k n : ℕ) (t : Tree) (s : Shape) → shape_is t s → eqb s.head 41 ≡ false → n ≤ 2 ^ k → upper_tree k n t ≡ Node out_shape Nil Nil
unfolding upper_tree
upper_out k n Nil s h e l = absurd h
upper_out k n (Node z a b) s h e l = let d : eqb z.head 41 ≡ false = rw h at e in let m : nat_le n (2 ^ k) ≡ true = grind arith in rw d (rw m refl)

pub upper_leaf : (k n : ℕ) (t : Tree) (s : Shape) → shape_is t s → eqb s.head 41 ≡ false → 2 ^ k < n
    → upper_tree k n t ≡ Node (leaf_shape (slice_index s.body 0) ((slice_index s.body 1 + 2 ^ k) % slice_index s.body 0)) (kid t 0) Nil
unfolding upper_tree
upper_leaf k n Nil s h e l = absurd h
upper_leaf k n (Node z a b) s h e l = let d : eqb z.head 41 ≡ false = rw h at e in let m : nat_le n (2 ^ k) ≡ false = grind arith in rw d (rw m (rw h refl))

advance_more : (e : Piece) (a b : ℕ) → advance (advance e a) b ≡ advance e (a + b)
unfolding advance
advance_more e a b = ap (λ (p : ℕ). let r : Piece = record { value = e.value; width = e.width; place = p } in r) (mod-add-mod (e.place + a) e.width b ∙ ap (λ (q : ℕ). q % e.width) (let z : e.place + a + b ≡ e.place + (a + b) = omega arith in z))

-- What stands for a node of each kind.
pub blocks_leaf : (t : Tree) (s : Shape) → shape_is t s → eqb s.head 40 ≡ true → blocks_of t ≡ leaf (record { value = kid t 0; width = slice_index s.body 0; place = slice_index s.body 1 })
unfolding blocks_of
blocks_leaf Nil s h e = absurd h
blocks_leaf (Node z a b) s h e = let k : eqb z.head 40 ≡ true = rw h at e in rw h (rw k refl)

pub blocks_branch : (t : Tree) (s : Shape) → shape_is t s → eqb s.head 41 ≡ true → blocks_of t ≡ branch (blocks_of (kid t 0)) (blocks_of (kid t 1))
unfolding blocks_of
blocks_branch Nil s h e = absurd h
blocks_branch (Node z a b) s h e = let k : eqb z.head 41 ≡ true = rw h at e in let j : eqb z.head 40 ≡ false = grind arith in rw (j, k) refl

pub blocks_out : (t : Tree) (s : Shape) → shape_is t s → eqb s.head 40 ≡ false → eqb s.head 41 ≡ false → blocks_of t ≡ out
unfolding blocks_of
blocks_out Nil s h e f = absurd h
blocks_out (Node z a b) s h e f = let k : eqb z.head 40 ≡ false = rw h at e in let j : eqb z.head 41 ≡ false = rw h at f in rw (k, j) refl

abbrev kind : Blocks → ℕ
kind out = 0
kind (leaf e) = 1
kind (branch l r) = 2

abbrev leaf_of : Blocks → Piece
leaf_of out = no_piece
leaf_of (leaf e) = e
leaf_of (branch l r) = no_piece

apart_left : (k : ℕ) (l r : Blocks) → kind l ≢ 1 → AreApart k l r
apart_left k l r h = record { none = λ (e : Piece) (p : l ≡ leaf e) (q : r ≡ out). h (ap kind p); more = λ (e : Piece) (p : l ≡ leaf e) (q : r ≡ leaf (advance e (2 ^ k))). h (ap kind p) }

apart_right : (k : ℕ) (l r : Blocks) → kind r ≡ 2 → AreApart k l r
apart_right k l r h = record { none = λ (e : Piece) (p : l ≡ leaf e) (q : r ≡ out). (let z : 2 ≡ 0 = sym h ∙ ap kind q in absurd (grind arith)); more = λ (e : Piece) (p : l ≡ leaf e) (q : r ≡ leaf (advance e (2 ^ k))). (let z : 2 ≡ 1 = sym h ∙ ap kind q in absurd (grind arith)) }

no_one : (a : ℕ) → a ≡ 0 → a ≡ 1 → ⊥
no_one a p q = omega arith

not_two : (a : ℕ) → a ≡ 2 → a ≡ 1 → ⊥
not_two a p q = omega arith

kind_not_leaf : (t : Tree) (s : Shape) (q : Bool) → shape_is t s → eqb s.head 40 ≡ false → eqb s.head 41 ≡ q → kind (blocks_of t) ≢ 1
kind_not_leaf t s true h e f z = not_two (kind (blocks_of t)) (ap kind (blocks_branch t s h f)) z
kind_not_leaf t s false h e f z = no_one (kind (blocks_of t)) (ap kind (blocks_out t s h e f)) z

canonical_leaf : (k n : ℕ) (e : Piece) → IsCanonical k n (leaf e) → (0 < n) × (e.place < e.width) × (e.width ≤ 64) × (IsValueTree e.value)
unfolding IsCanonical
canonical_leaf k n e c = c

canonical_out : (k n : ℕ) → IsCanonical k n out → n ≡ 0
unfolding IsCanonical
canonical_out k n c = c

width_cases : (k n : ℕ) (t : Tree) (s : Shape) (p : Bool) → IsCanonical k n (blocks_of t) → shape_is t s → 0 < n → eqb s.head 40 ≡ p → eqb s.head 41 ≡ false
    → (0 < slice_index s.body 0) × (slice_index s.body 0 ≤ 64) × (slice_index s.body 1 < slice_index s.body 0) × (IsValueTree (kid t 0)) × (s.head ≡ 40)
width_cases k n t s true o h l e f =
    let c : (0 < n) × (slice_index s.body 1 < slice_index s.body 0) × (slice_index s.body 0 ≤ 64) × (IsValueTree (kid t 0)) = canonical_leaf k n (record { value = kid t 0; width = slice_index s.body 0; place = slice_index s.body 1 }) (subst (IsCanonical k n) (blocks_leaf t s h e) o) in
    (omega arith, c.2, c.1, c.3, grind arith)
width_cases k n t s false o h l e f = let z : n ≡ 0 = canonical_out k n (subst (IsCanonical k n) (blocks_out t s h e f) o) in absurd (omega arith)

-- A leaf's parts.
pub leaf_width : (k n : ℕ) (t : Tree) (s : Shape) → IsBlock k n t → IsBlocksTree t → shape_is t s → 0 < n → eqb s.head 41 ≡ false → (0 < slice_index s.body 0) × (slice_index s.body 0 ≤ 64) × (slice_index s.body 1 < slice_index s.body 0) × (IsValueTree (kid t 0)) × (s.head ≡ 40)
unfolding IsBlock
leaf_width k n t s o c h l e = width_cases k n t s (eqb s.head 40) o h l refl e

kid_cases : (s : Shape) (a b : Tree) (l r : Blocks) (p q : Bool) → eqb s.head 40 ≡ p → eqb s.head 41 ≡ q
    → blocks_tree (if p then leaf (record { value = a; width = slice_index s.body 0; place = slice_index s.body 1 }) else if q then branch l r else out) ≡ Node s a b → eqb s.head 42 ≡ false → 0 < s.kids
unfolding blocks_tree
kid_cases s a b l r true q e f h g = let k : 1 ≡ s.kids = ap node_kids h in omega arith
kid_cases s a b l r false true e f h g = let k : 2 ≡ s.kids = ap node_kids h in omega arith
kid_cases s a b l r false false e f h g = let k : 42 ≡ s.head = ap node_head h in grind arith

pub some_kid : (t : Tree) (s : Shape) → IsBlocksTree t → shape_is t s → eqb s.head 42 ≡ false → 0 < s.kids
unfolding blocks_of IsBlocksTree
some_kid Nil s o h e = absurd h
some_kid (Node z a b) s o h e = rw h (kid_cases z a b (blocks_of a) (blocks_of b) (eqb z.head 40) (eqb z.head 41) refl refl o (rw h at e))

-- When two halves are one run.
pub decides_branch : (k : ℕ) (l r : Tree) (s : Shape) → shape_is l s → eqb s.head 40 ≡ false → Decides k l r false
unfolding Decides
decides_branch k l r s h e = apart_left k (blocks_of l) (blocks_of r) (kind_not_leaf l s (eqb s.head 41) h e refl)

pub decides_other : (k : ℕ) (l r : Tree) (s : Shape) → shape_is r s → eqb s.head 41 ≡ true → Decides k l r false
unfolding Decides
decides_other k l r s h e = apart_right k (blocks_of l) (blocks_of r) (ap kind (blocks_branch r s h e))

pub decides_ends : (k n : ℕ) (l r : Tree) (s z : Shape) → IsBlock k n r → IsBlocksTree r → shape_is l s → shape_is r z → eqb s.head 40 ≡ true → eqb z.head 42 ≡ true → Decides k l r true
unfolding Decides
decides_ends k n l r s z o c g h e f = ends (record { value = kid l 0; width = slice_index s.body 0; place = slice_index s.body 1 }) (blocks_leaf l s g e) (blocks_out r z h (grind arith) (grind arith))

head_of : (t : Tree) (s : Shape) → shape_is t s → node_head t ≡ s.head
head_of Nil s h = absurd h
head_of (Node z a b) s h = sym (ap (λ (y : Shape). y.head) h)

no_out : (r : Tree) (z : Shape) → IsBlocksTree r → shape_is r z → eqb z.head 42 ≡ false → blocks_of r ≡ out → ⊥
unfolding IsBlocksTree blocks_tree
no_out r z c h f q =
    let a : blocks_tree out ≡ r = subst (λ (t : Blocks). blocks_tree t ≡ r) q c in
    let b : 42 ≡ node_head r = ap node_head a in
    let d : node_head r ≡ z.head = head_of r z h in grind arith

leaf_cases : (t : Tree) (s : Shape) (e : Piece) (p : Bool) → shape_is t s → blocks_of t ≡ leaf e → eqb s.head 40 ≡ p → record { value = kid t 0; width = slice_index s.body 0; place = slice_index s.body 1 } ≡ e
leaf_cases t s e true h q f = ap leaf_of (sym (blocks_leaf t s h f) ∙ q)
leaf_cases t s e false h q f = absurd (kind_not_leaf t s (eqb s.head 41) h f refl (ap kind q))

advance_parts : (e : Piece) (d : ℕ) → ((advance e d).value ≡ e.value) × ((advance e d).width ≡ e.width) × ((advance e d).place ≡ (e.place + d) % e.width)
unfolding advance
advance_parts e d = (refl, refl, refl)

-- What two leaves of one run have.
run_parts : (k : ℕ) (l r : Tree) (s z : Shape) (e : Piece) → shape_is l s → shape_is r z → blocks_of l ≡ leaf e → blocks_of r ≡ leaf (advance e (2 ^ k))
    → (kid l 0 ≡ kid r 0) × (slice_index s.body 0 ≡ slice_index z.body 0) × ((slice_index s.body 1 + 2 ^ k) % slice_index s.body 0 ≡ slice_index z.body 1)
run_parts k l r s z e g h p q =
    let a : record { value = kid l 0; width = slice_index s.body 0; place = slice_index s.body 1 } ≡ e = leaf_cases l s e (eqb s.head 40) g p refl in
    let b : record { value = kid r 0; width = slice_index z.body 0; place = slice_index z.body 1 } ≡ advance e (2 ^ k) = leaf_cases r z (advance e (2 ^ k)) (eqb z.head 40) h q refl in
    let c : ((advance e (2 ^ k)).value ≡ e.value) × ((advance e (2 ^ k)).width ≡ e.width) × ((advance e (2 ^ k)).place ≡ (e.place + 2 ^ k) % e.width) = advance_parts e (2 ^ k) in
    let v : kid l 0 ≡ e.value = ap (λ (t : Piece). t.value) a in
    let w : slice_index s.body 0 ≡ e.width = ap (λ (t : Piece). t.width) a in
    let y : slice_index s.body 1 ≡ e.place = ap (λ (t : Piece). t.place) a in
    (v ∙ sym c.0 ∙ sym (ap (λ (t : Piece). t.value) b), w ∙ sym c.1 ∙ sym (ap (λ (t : Piece). t.width) b), rw (w, y) (sym c.2 ∙ sym (ap (λ (t : Piece). t.place) b)))

pub decides_width : (k : ℕ) (l r : Tree) (s z : Shape) → IsBlocksTree r → shape_is l s → shape_is r z → eqb z.head 42 ≡ false → (slice_index s.body 0 ≡ slice_index z.body 0 → ⊥) → Decides k l r false
unfolding Decides
decides_width k l r s z c g h f e = record { none = λ (d : Piece) (p : blocks_of l ≡ leaf d) (q : blocks_of r ≡ out). no_out r z c h f q; more = λ (d : Piece) (p : blocks_of l ≡ leaf d) (q : blocks_of r ≡ leaf (advance d (2 ^ k))). e (run_parts k l r s z d g h p q).1 }

pub decides_place : (k : ℕ) (l r : Tree) (s z : Shape) → IsBlocksTree r → shape_is l s → shape_is r z → eqb z.head 42 ≡ false → ((slice_index s.body 1 + 2 ^ k) % slice_index s.body 0 ≡ slice_index z.body 1 → ⊥) → Decides k l r false
unfolding Decides
decides_place k l r s z c g h f e = record { none = λ (d : Piece) (p : blocks_of l ≡ leaf d) (q : blocks_of r ≡ out). no_out r z c h f q; more = λ (d : Piece) (p : blocks_of l ≡ leaf d) (q : blocks_of r ≡ leaf (advance d (2 ^ k))). e (run_parts k l r s z d g h p q).2 }

right_leaf : (r : Tree) (z : Shape) (p : Bool) → IsBlocksTree r → shape_is r z → eqb z.head 42 ≡ false → eqb z.head 41 ≡ false → eqb z.head 40 ≡ p → blocks_of r ≡ leaf (record { value = kid r 0; width = slice_index z.body 0; place = slice_index z.body 1 })
right_leaf r z true c h f m e = blocks_leaf r z h e
right_leaf r z false c h f m e = absurd (no_out r z c h f (blocks_out r z h e m))

same_entry : (v u : Tree) (w y p q d : ℕ) → v ≡ u → w ≡ y → (p + d) % w ≡ q → record { value = u; width = y; place = q } ≡ advance (record { value = v; width = w; place = p }) d
unfolding advance
same_entry v u w y p q d a b c = rw (a, b) (ap (λ (t : ℕ). let r : Piece = record { value = u; width = y; place = t } in r) (sym (rw b at c)))

pub decides_same : (k : ℕ) (l r : Tree) (s z : Shape) (b : Bool) → IsBlocksTree r → shape_is l s → shape_is r z → eqb s.head 40 ≡ true → eqb z.head 42 ≡ false → eqb z.head 41 ≡ false → slice_index s.body 0 ≡ slice_index z.body 0
    → (slice_index s.body 1 + 2 ^ k) % slice_index s.body 0 ≡ slice_index z.body 1 → (IsTrue b ↔ (kid l 0 ≡ kid r 0)) → Decides k l r b
unfolding Decides
decides_same k l r s z true c g h e f m w p q = goes_on (record { value = kid l 0; width = slice_index s.body 0; place = slice_index s.body 1 }) (blocks_leaf l s g e)
    (right_leaf r z (eqb z.head 40) c h f m refl ∙ ap leaf (same_entry (kid l 0) (kid r 0) (slice_index s.body 0) (slice_index z.body 0) (slice_index s.body 1) (slice_index z.body 1) (2 ^ k) (q.0 refl) w p))
decides_same k l r s z false c g h e f m w p q =
    record { none = λ (d : Piece) (i : blocks_of l ≡ leaf d) (j : blocks_of r ≡ out). no_out r z c h f j; more = λ (d : Piece) (i : blocks_of l ≡ leaf d) (j : blocks_of r ≡ leaf (advance d (2 ^ k))). (let y : false ≡ true = q.1 (run_parts k l r s z d g h i j).0 in absurd (grind arith)) }

depth_in : (k n : ℕ) (b : Blocks) → IsCanonical k n b → depth (blocks_tree b) ≤ k + 66
unfolding IsCanonical blocks_tree
depth_in k n out c = omega arith
depth_in k n (leaf e) c = let d : depth e.value ≤ 64 = c.3.depth in omega arith
depth_in zero n (branch l r) c = absurd c
depth_in (suc k) n (branch l r) c =
    let a : depth (blocks_tree l) ≤ k + 66 = depth_in k n l c.1 in
    let b : depth (blocks_tree r) ≤ k + 66 = depth_in k (n - 2 ^ k) r c.2 in omega arith

pub depth_of : (k n : ℕ) (t : Tree) → IsBlock k n t → IsBlocksTree t → depth t ≤ k + 66
unfolding IsBlock IsBlocksTree
depth_of k n t o c = subst (λ (u : Tree). depth u ≤ k + 66) c (depth_in k n (blocks_of t) o)

leaf_up : (k n : ℕ) (e : Piece) (t : Blocks) → t ≡ leaf e → IsCanonical k n t → IsCanonical (suc k) n t
unfolding IsCanonical
leaf_up k n e t q c = subst (IsCanonical (suc k) n) (sym q) (subst (IsCanonical k n) q c)

one_canonical : (k n : ℕ) (l r : Blocks) → IsCanonical k n l → OneRun k l r → IsCanonical (suc k) n l
one_canonical k n l r c (ends e p q) = leaf_up k n e l p c
one_canonical k n l r c (goes_on e p q) = leaf_up k n e l p c

-- What a made node is.
pub one_object : (k n : ℕ) (l r : Tree) → IsBlock k n l → IsBlock k (n - 2 ^ k) r → Decides k l r true → 0 < n → IsBlock (suc k) n l
unfolding IsBlock Decides
one_object k n l r a b h some = one_canonical k n (blocks_of l) (blocks_of r) a h

one_leaf : (k : ℕ) (e : Piece) (x : ℕ) → piece_at (suc k) (leaf e) x ≡ (if nat_lt x (2 ^ k) then piece_at k (leaf e) x else piece_at k (leaf (advance e (2 ^ k))) (x - 2 ^ k))
unfolding piece_at
one_leaf k e x = elim (nat_lt x (2 ^ k)) as (λ (c : Bool). nat_lt x (2 ^ k) ≡ c → advance e x ≡ (if c then advance e x else advance (advance e (2 ^ k)) (x - 2 ^ k)))
    [ true ↦ λ q. refl | false ↦ λ q. (let z : 2 ^ k + (x - 2 ^ k) ≡ x = grind arith in sym (advance_more e (2 ^ k) (x - 2 ^ k) ∙ ap (advance e) z)) ] refl

end_leaf : (k n : ℕ) (e : Piece) (x : ℕ) → n - 2 ^ k ≡ 0 → x < n → piece_at (suc k) (leaf e) x ≡ (if nat_lt x (2 ^ k) then piece_at k (leaf e) x else piece_at k out (x - 2 ^ k))
unfolding piece_at
end_leaf k n e x z l = let t : nat_lt x (2 ^ k) ≡ true = grind arith in rw t refl

one_bits : (k n : ℕ) (l r : Blocks) → IsCanonical k (n - 2 ^ k) r → OneRun k l r → (x : ℕ) → x < n → piece_at (suc k) l x ≡ (if nat_lt x (2 ^ k) then piece_at k l x else piece_at k r (x - 2 ^ k))
one_bits k n l r c (ends e p q) x m =
    let z : n - 2 ^ k ≡ 0 = canonical_out k (n - 2 ^ k) (subst (IsCanonical k (n - 2 ^ k)) q c) in
    rw (p, q) (end_leaf k n e x z m)
one_bits k n l r c (goes_on e p q) x m = rw (p, q) (one_leaf k e x)

pub one_joins : (k n : ℕ) (l r : Tree) → IsBlock k n l → IsBlock k (n - 2 ^ k) r → Decides k l r true → 0 < n → Joins k n l r l
unfolding Joins Decides IsBlock
one_joins k n l r a b h some = λ (x : ℕ) (p : x < n) (q : x < 2 ^ suc k). one_bits k n (blocks_of l) (blocks_of r) b h x p

pub two_object : (k n : ℕ) (l r : Tree) → IsBlock k n l → IsBlock k (n - 2 ^ k) r → Decides k l r false → 0 < n → IsBlock (suc k) n (Node branch_shape l r)
unfolding IsBlock IsCanonical blocks_of Decides
two_object k n l r a b h some = (some, a, b, h)

pub two_coded : (l r : Tree) → IsBlocksTree l → IsBlocksTree r → IsBlocksTree (Node branch_shape l r)
unfolding IsBlocksTree blocks_of blocks_tree
two_coded l r a b = ap (λ (t : Tree). Node branch_shape t (blocks_tree (blocks_of r))) a ∙ ap (Node branch_shape l) b

pub two_joins : (k n : ℕ) (l r : Tree) → IsBlock k n l → IsBlock k (n - 2 ^ k) r → Decides k l r false → Joins k n l r (Node branch_shape l r)
unfolding Joins blocks_of piece_at
two_joins k n l r a b h = λ x p q. refl

pub leaf_coded : (w p : ℕ) (v : Tree) → IsBlocksTree (Node (leaf_shape w p) v Nil)
unfolding IsBlocksTree blocks_of blocks_tree
leaf_coded w p v = refl

pub leaf_object : (k n w p : ℕ) (v : Tree) → 0 < n → p < w → w ≤ 64 → IsValueTree v → IsBlock k n (Node (leaf_shape w p) v Nil)
unfolding IsBlock IsCanonical blocks_of
leaf_object k n w p v a b c d = (a, b, c, d)

abbrev first_kid : Tree → Tree
first_kid Nil = Nil
first_kid (Node s a b) = a

abbrev second_kid : Tree → Tree
second_kid Nil = Nil
second_kid (Node s a b) = b

coded_low : (s : Shape) (a b : Tree) (p q : Bool) → eqb s.head 40 ≡ p → eqb s.head 41 ≡ q → blocks_tree (if p then leaf (record { value = a; width = slice_index s.body 0; place = slice_index s.body 1 }) else if q then branch (blocks_of a) (blocks_of b) else out) ≡ Node s a b
    → blocks_tree (blocks_of (if q then a else Node s a b)) ≡ (if q then a else Node s a b)
unfolding blocks_tree blocks_of
coded_low s a b true true e f o = absurd (grind arith)
coded_low s a b false true e f o = ap first_kid o
coded_low s a b true false e f o = rw e o
coded_low s a b false false e f o = rw (e, f) o

lower_coded_of : (t : Tree) → IsBlocksTree t → IsBlocksTree (lower_tree t)
unfolding IsBlocksTree lower_tree blocks_of
lower_coded_of Nil c = c
lower_coded_of (Node s a b) c = coded_low s a b (eqb s.head 40) (eqb s.head 41) refl refl c

coded_high : (k n : ℕ) (s : Shape) (a b : Tree) (p q d : Bool) → eqb s.head 40 ≡ p → eqb s.head 41 ≡ q → blocks_tree (if p then leaf (record { value = a; width = slice_index s.body 0; place = slice_index s.body 1 }) else if q then branch (blocks_of a) (blocks_of b) else out) ≡ Node s a b
    → IsBlocksTree (if q then b else if d then Node out_shape Nil Nil else Node (leaf_shape (slice_index s.body 0) ((slice_index s.body 1 + 2 ^ k) % slice_index s.body 0)) a Nil)
unfolding IsBlocksTree blocks_tree blocks_of
coded_high k n s a b true true d e f o = absurd (grind arith)
coded_high k n s a b false true d e f o = ap second_kid o
coded_high k n s a b p false true e f o = refl
coded_high k n s a b p false false e f o = refl

upper_coded_of : (k n : ℕ) (t : Tree) → IsBlocksTree t → IsBlocksTree (upper_tree k n t)
unfolding IsBlocksTree upper_tree blocks_of
upper_coded_of k n Nil c = c
upper_coded_of k n (Node s a b) c = coded_high k n s a b (eqb s.head 40) (eqb s.head 41) (nat_le n (2 ^ k)) refl refl c

pub lower_coded : (k n : ℕ) (t : Tree) → IsBlocksTree t → IsBlocksTree (lower_tree t)
lower_coded k n t c = lower_coded_of t c

pub upper_coded : (k n : ℕ) (t : Tree) → IsBlocksTree t → IsBlocksTree (upper_tree k n t)
upper_coded k n t c = upper_coded_of k n t c

low_object : (k n : ℕ) (s : Shape) (a b : Tree) (p q : Bool) → eqb s.head 40 ≡ p → eqb s.head 41 ≡ q
    → IsCanonical (suc k) n (if p then leaf (record { value = a; width = slice_index s.body 0; place = slice_index s.body 1 }) else if q then branch (blocks_of a) (blocks_of b) else out)
    → IsCanonical k n (blocks_of (if q then a else Node s a b))
unfolding blocks_of IsCanonical
low_object k n s a b true true e f o = absurd (grind arith)
low_object k n s a b false true e f o = o.1
low_object k n s a b true false e f o = rw e o
low_object k n s a b false false e f o = rw (e, f) o

lower_object_of : (k n : ℕ) (t : Tree) → IsBlock (suc k) n t → IsBlock k n (lower_tree t)
unfolding IsBlock lower_tree blocks_of IsCanonical
lower_object_of k n Nil o = o
lower_object_of k n (Node s a b) o = low_object k n s a b (eqb s.head 40) (eqb s.head 41) refl refl o

pub lower_object : (k n : ℕ) (t : Tree) → IsBlock (suc k) n t → IsBlock k n (lower_tree t)
lower_object k n t o = lower_object_of k n t o

high_object : (k n : ℕ) (s : Shape) (a b : Tree) (p q d : Bool) → eqb s.head 40 ≡ p → eqb s.head 41 ≡ q → nat_le n (2 ^ k) ≡ d
    → IsCanonical (suc k) n (if p then leaf (record { value = a; width = slice_index s.body 0; place = slice_index s.body 1 }) else if q then branch (blocks_of a) (blocks_of b) else out)
    → IsCanonical k (n - 2 ^ k) (blocks_of (if q then b else if d then Node out_shape Nil Nil else Node (leaf_shape (slice_index s.body 0) ((slice_index s.body 1 + 2 ^ k) % slice_index s.body 0)) a Nil))
unfolding blocks_of IsCanonical
high_object k n s a b true true d e f g o = absurd (grind arith)
high_object k n s a b false true d e f g o = o.2
high_object k n s a b p false true e f g o = let z : n - 2 ^ k ≡ 0 = grind arith in z
high_object k n s a b true false false e f g o = let w : slice_index s.body 1 < slice_index s.body 0 = o.1 in (grind arith, mod-lt (slice_index s.body 1 + 2 ^ k) (let y : 0 < slice_index s.body 0 = omega arith in y), o.2, o.3)
high_object k n s a b false false false e f g o = let z : n ≡ 0 = o in absurd (grind arith)

upper_object_of : (k n : ℕ) (t : Tree) → IsBlock (suc k) n t → IsBlock k (n - 2 ^ k) (upper_tree k n t)
unfolding IsBlock upper_tree blocks_of IsCanonical
upper_object_of k n Nil o = let z : n ≡ 0 = o in let y : n - 2 ^ k ≡ 0 = omega arith in y
upper_object_of k n (Node s a b) o = high_object k n s a b (eqb s.head 40) (eqb s.head 41) (nat_le n (2 ^ k)) refl refl refl o

pub upper_object : (k n : ℕ) (t : Tree) → IsBlock (suc k) n t → IsBlock k (n - 2 ^ k) (upper_tree k n t)
upper_object k n t o = upper_object_of k n t o

pub puts_before : (k n base lo hi w p : ℕ) (v t : Tree) → hi ≤ base → Puts k n base lo hi (piece v w p) t t
unfolding Puts
puts_before k n base lo hi w p v t h = λ (x : ℕ) (a : x < n) (b : x < 2 ^ k). (let z : (nat_le lo (base + x) && nat_lt (base + x) hi) ≡ false = grind arith in rw z refl)

pub puts_past : (k n base lo hi w p : ℕ) (v t : Tree) → base + 2 ^ k ≤ lo → Puts k n base lo hi (piece v w p) t t
unfolding Puts
puts_past k n base lo hi w p v t h = λ (x : ℕ) (a : x < n) (b : x < 2 ^ k). (let z : (nat_le lo (base + x) && nat_lt (base + x) hi) ≡ false = grind arith in rw z refl)

pub puts_empty : (k n base lo hi w p : ℕ) (v t : Tree) → n ≡ 0 → Puts k n base lo hi (piece v w p) t t
unfolding Puts
puts_empty k n base lo hi w p v t h = λ (x : ℕ) (a : x < n) (b : x < 2 ^ k). (absurd (let f : x < n → n ≡ 0 → ⊥ = λ _ _. omega arith in f a h))

leaf_start : (v : Tree) (w p a x : ℕ) → advance (piece v w ((p + a) % w)) x ≡ advance (advance (piece v w p) a) x
unfolding advance
leaf_start v w p a x = refl

leaf_advance : (v : Tree) (w p a x : ℕ) → advance (piece v w ((p + a) % w)) x ≡ advance (piece v w p) (a + x)
leaf_advance v w p a x = leaf_start v w p a x ∙ advance_more (piece v w p) a x

leaf_bit : (k w p base lo hi x : ℕ) (v t : Tree) → lo ≤ base → (nat_le lo (base + x) && nat_lt (base + x) hi) ≡ true
    → piece_at k (blocks_of (Node (leaf_shape w ((p + (base - lo)) % w)) v Nil)) x ≡ put_bit lo hi (piece v w p) (base + x) (piece_at k (blocks_of t) x)
unfolding piece_at blocks_of
leaf_bit k w p base lo hi x v t a e =
    let z : base + x - lo ≡ base - lo + x = omega arith in
    rw e (rw z (leaf_advance v w p (base - lo) x))

pub puts_all : (k n base lo hi w p : ℕ) (v t : Tree) → lo ≤ base → base + 2 ^ k ≤ hi → Puts k n base lo hi (piece v w p) t (Node (leaf_shape w ((p + (base - lo)) % w)) v Nil)
unfolding Puts
puts_all k n base lo hi w p v t a b = λ (x : ℕ) (l : x < n) (m : x < 2 ^ k). leaf_bit k w p base lo hi x v t a (grind arith)

pub puts_rest : (k n base lo hi w p : ℕ) (v t : Tree) → lo ≤ base → base + n ≤ hi → Puts k n base lo hi (piece v w p) t (Node (leaf_shape w ((p + (base - lo)) % w)) v Nil)
unfolding Puts
puts_rest k n base lo hi w p v t a b = λ (x : ℕ) (l : x < n) (m : x < 2 ^ k). leaf_bit k w p base lo hi x v t a (grind arith)

bits_low : (k : ℕ) (b : Blocks) (l r : Blocks) (x : ℕ) → x < 2 ^ k → piece_at k l x ≡ piece_at (suc k) (branch l r) x
unfolding piece_at
bits_low k b l r x h = let t : nat_lt x (2 ^ k) ≡ true = grind arith in rw t refl

bits_out : (k : ℕ) (x : ℕ) → piece_at k out x ≡ piece_at (suc k) out x
unfolding piece_at
bits_out k x = refl

bits_leaf : (k : ℕ) (e : Piece) (x : ℕ) → piece_at k (leaf e) x ≡ piece_at (suc k) (leaf e) x
unfolding piece_at
bits_leaf k e x = refl

nil_bits : (k x : ℕ) → piece_at k (blocks_of Nil) x ≡ piece_at (suc k) (blocks_of Nil) x
unfolding blocks_of piece_at
nil_bits k x = refl

low_cases : (k n : ℕ) (s : Shape) (a b : Tree) (p q : Bool) → eqb s.head 40 ≡ p → eqb s.head 41 ≡ q → (x : ℕ) → x < n → x < 2 ^ k
    → piece_at k (blocks_of (if q then a else Node s a b)) x ≡ piece_at (suc k) (blocks_of (Node s a b)) x
unfolding blocks_of
low_cases k n s a b true true e f x l m = absurd (grind arith)
low_cases k n s a b false true e f x l m = rw (e, f) (bits_low k out (blocks_of a) (blocks_of b) x m)
low_cases k n s a b true false e f x l m = rw e (bits_leaf k (record { value = a; width = slice_index s.body 0; place = slice_index s.body 1 }) x)
low_cases k n s a b false false e f x l m = rw (e, f) (bits_out k x)

lower_bits_of : (k n : ℕ) (t : Tree) → IsLower k n t (lower_tree t)
unfolding IsLower lower_tree
lower_bits_of k n Nil = λ (x : ℕ) (l : x < n) (m : x < 2 ^ k). nil_bits k x
lower_bits_of k n (Node s a b) = λ (x : ℕ) (l : x < n) (m : x < 2 ^ k). low_cases k n s a b (eqb s.head 40) (eqb s.head 41) refl refl x l m

pub lower_bits : (k n : ℕ) (t : Tree) → IsBlock (suc k) n t → IsLower k n t (lower_tree t)
lower_bits k n t o = lower_bits_of k n t

bits_high : (k : ℕ) (l r : Blocks) (x : ℕ) → piece_at k r x ≡ piece_at (suc k) (branch l r) (2 ^ k + x)
unfolding piece_at
bits_high k l r x = let t : nat_lt (2 ^ k + x) (2 ^ k) ≡ false = grind arith in let y : 2 ^ k + x - 2 ^ k ≡ x = omega arith in rw t (rw y refl)

bits_more : (k w p x : ℕ) (v : Tree) → piece_at k (leaf (piece v w ((p + 2 ^ k) % w))) x ≡ piece_at (suc k) (leaf (piece v w p)) (2 ^ k + x)
unfolding piece_at
bits_more k w p x v = leaf_advance v w p (2 ^ k) x

nil_high : (k x : ℕ) → piece_at k (blocks_of Nil) x ≡ piece_at (suc k) (blocks_of Nil) (2 ^ k + x)
unfolding blocks_of piece_at
nil_high k x = refl

high_bits : (k n : ℕ) (s : Shape) (a b : Tree) (p q d : Bool) → eqb s.head 40 ≡ p → eqb s.head 41 ≡ q → nat_le n (2 ^ k) ≡ d → IsCanonical (suc k) n (blocks_of (Node s a b)) → (x : ℕ) → x < n - 2 ^ k
    → piece_at k (blocks_of (if q then b else if d then Node out_shape Nil Nil else Node (leaf_shape (slice_index s.body 0) ((slice_index s.body 1 + 2 ^ k) % slice_index s.body 0)) a Nil)) x ≡ piece_at (suc k) (blocks_of (Node s a b)) (2 ^ k + x)
unfolding blocks_of
high_bits k n s a b true true d e f g o x l = absurd (grind arith)
high_bits k n s a b false true d e f g o x l = rw (e, f) (bits_high k (blocks_of a) (blocks_of b) x)
high_bits k n s a b p false true e f g o x l = absurd (grind arith)
high_bits k n s a b true false false e f g o x l = rw e (bits_more k (slice_index s.body 0) (slice_index s.body 1) x a)
high_bits k n s a b false false false e f g o x l = let z : n ≡ 0 = canonical_out (suc k) n (rw (e, f) at o) in absurd (omega arith)

upper_bits_of : (k n : ℕ) (t : Tree) → IsBlock (suc k) n t → IsUpper k n t (upper_tree k n t)
unfolding IsUpper IsBlock upper_tree
upper_bits_of k n Nil o = λ (x : ℕ) (l : x < n - 2 ^ k) (m : x < 2 ^ k). nil_high k x
upper_bits_of k n (Node s a b) o = λ (x : ℕ) (l : x < n - 2 ^ k) (m : x < 2 ^ k). high_bits k n s a b (eqb s.head 40) (eqb s.head 41) (nat_le n (2 ^ k)) refl refl refl o x l

pub upper_bits : (k n : ℕ) (t : Tree) → IsBlock (suc k) n t → IsBlocksTree t → IsUpper k n t (upper_tree k n t)
upper_bits k n t o c = upper_bits_of k n t o

pub puts_step : (k n base lo hi w p : ℕ) (v t l r u : Tree) → IsBlock (suc k) n t → IsBlocksTree t → 0 < n → Puts k n base lo hi (piece v w p) (lower_tree t) l
    → Puts k (n - 2 ^ k) (base + 2 ^ k) lo hi (piece v w p) (upper_tree k n t) r → Joins k n l r u → Puts (suc k) n base lo hi (piece v w p) t u
unfolding Puts Joins IsLower IsUpper
puts_step k n base lo hi w p v t l r u o c some a b j = λ (x : ℕ) (m : x < n) (q : x < 2 ^ suc k).
    (let two : 2 ^ suc k ≡ 2 ^ k + 2 ^ k = grind (arith, common_steps) in
    j x m q ∙ elim (nat_lt x (2 ^ k)) as (λ (d : Bool). nat_lt x (2 ^ k) ≡ d → (if d then piece_at k (blocks_of l) x else piece_at k (blocks_of r) (x - 2 ^ k)) ≡ put_bit lo hi (piece v w p) (base + x) (piece_at (suc k) (blocks_of t) x)) [
      | true ↦ λ e. (let h : x < 2 ^ k = grind arith in a x m h ∙ ap (put_bit lo hi (piece v w p) (base + x)) (lower_bits k n t o x m h))
      | false ↦ λ e. (let h : 2 ^ k ≤ x = grind arith in
          let z : 2 ^ k + (x - 2 ^ k) ≡ x = omega arith in
          let y : base + 2 ^ k + (x - 2 ^ k) ≡ base + x = omega arith in
          b (x - 2 ^ k) (omega arith) (omega arith)
          ∙ ap (λ (i : ℕ). put_bit lo hi (piece v w p) i (piece_at k (blocks_of (upper_tree k n t)) (x - 2 ^ k))) y
          ∙ ap (put_bit lo hi (piece v w p) (base + x)) (upper_bits k n t o c (x - 2 ^ k) (omega arith) (omega arith) ∙ ap (piece_at (suc k) (blocks_of t)) z))
    ] refl)

pub ruleset object_laws = (kids_of, lower_branch, lower_leaf, upper_branch, upper_out, upper_leaf, some_kid)
