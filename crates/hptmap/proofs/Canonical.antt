use Rattle.std.proofs.Common.{ℕ, ◌+◌, ◌*◌, ◌≤◌, ◌≡◌, ◌/◌, ◌^◌, cond, eqb, Bool, true, false, Some, None, arith, refl, sym, ap, ◌∙◌, subst, inl, inr, IsTrue, ◌↔◌}
use Rattle.std.proofs.lemmas.Bool.{cases_lt}
use Rattle.std.proofs.lemmas.Bool.Decides.{eqb_tells, nat_tests}
use Rattle.store_api.specs.declared.Shape.{Shape}
use Rattle.store_api.specs.Tree.{Tree, Nil, Node}
use Rattle.hptmap.specs.Trie.{leaf_shape, branch_shape, is_leaf, key_of, level_of, either, map_of, Within, split_at, IsTrie}
use Rattle.hptmap.proofs.Bits.{shorter, shorten}
use Rattle.hptmap.proofs.Tries.{leaf_of, branch_of, no_nil, outside, within_own, leaf_or, node_left, node_right, top_branch, map_branch}

some_none : {A : Type 0} (p : A) → Some p ≡ None → ⊥
some_none p e = cc

-- a key that is there has the prefix of the block
pub inside : (t : Tree) (n q x : ℕ) (p : Tree) → IsTrie t → Within t n q → map_of t x ≡ Some p → x / 2 ^ n ≡ q
inside t n q x p h w e = elim (eqb_tells (x / 2 ^ n) q) [ inl f ↦ f.1 | inr f ↦ absurd (some_none p (sym e ∙ outside t n q x h w f.1)) ]

map_leaf : (s : Shape) (a b : Tree) (x : ℕ) → is_leaf s ≡ true → map_of (Node s a b) x ≡ cond (eqb (key_of s) x) (Some a) None
map_leaf s a b x e = ap (λ c. cond c (cond (eqb (key_of s) x) (Some a) None) (either (map_of a x) (map_of b x))) e

at_own : (k : ℕ) (a : Tree) → cond (eqb k k) (Some a) None ≡ Some a
at_own k a = grind (arith, nat_tests)

pub only_own : (k x : ℕ) (a p : Tree) → cond (eqb k x) (Some a) None ≡ Some p → (k ≡ x) × (a ≡ p)
only_own k x a p e = elim (eqb_tells k x) [
  | inl f ↦ (f.1, let g : Some a ≡ Some p = sym (ap (λ c. cond c (Some a) None) f.0) ∙ e in cc)
  | inr f ↦ absurd (some_none p (sym e ∙ ap (λ c. cond c (Some a) None) f.0))
]

-- every trie has a key
pub some_key : (t : Tree) → IsTrie t → (x : ℕ) × ((p : Tree) × (map_of t x ≡ Some p))
some_key Nil h = absurd (no_nil h)
some_key (Node s a b) h =
    elim (leaf_or s) [
      | inl e ↦ (key_of s, (a, map_leaf s a b (key_of s) e ∙ at_own (key_of s) a))
      | inr e ↦ let k = some_key a (branch_of s a b h e).1 in (k.0, (k.1.0, map_branch s a b k.0 e ∙ ap (λ o. either o (map_of b k.0)) k.1.1))
    ]

-- a key of the left side and one of the right side, in one branch
pub record Apart (t : Tree) (n r : ℕ) : Type 0 where
  pub low : ℕ
  pub high : ℕ
  pub first : Tree
  pub second : Tree
  pub there : map_of t low ≡ Some first
  pub there_too : map_of t high ≡ Some second
  pub left : low / 2 ^ n ≡ 2 * r
  pub right : high / 2 ^ n ≡ 2 * r + 1

pub apart : (s : Shape) (a b : Tree) → IsTrie (Node s a b) → is_leaf s ≡ false → Apart (Node s a b) (level_of s) (key_of s / 2 ^ (level_of s + 1))
apart s a b h e =
    let i = branch_of s a b h e in let k = some_key a i.1 in let j = some_key b i.2 in
    let q = inside b (level_of s) (2 * (key_of s / 2 ^ (level_of s + 1)) + 1) j.0 j.1.0 i.2 i.0.right j.1.1 in
    let n : map_of a j.0 ≡ None = outside a (level_of s) (2 * (key_of s / 2 ^ (level_of s + 1))) j.0 i.1 i.0.left (λ f. absurd (omega arith)) in
    record {
      low = k.0;
      high = j.0;
      first = k.1.0;
      second = j.1.0;
      there = map_branch s a b k.0 e ∙ ap (λ o. either o (map_of b k.0)) k.1.1;
      there_too = map_branch s a b j.0 e ∙ ap (λ o. either o (map_of b j.0)) n ∙ j.1.1;
      left = inside a (level_of s) (2 * (key_of s / 2 ^ (level_of s + 1))) k.0 k.1.0 i.1 i.0.left k.1.1;
      right = q;
    }

-- keys that one branch tells apart at a bit agree above it
above : (t : Tree) (n r : ℕ) (p : Apart t n r) → (p.low / 2 ^ (n + 1) ≡ r) × (p.high / 2 ^ (n + 1) ≡ r)
above t n r p = let a = shorter p.low n in let b = shorter p.high n in let l = p.left in let g = p.right in (omega arith, omega arith)

-- a leaf has no two keys
not_leaf : (t : Tree) (n r : ℕ) (s : Shape) (a b : Tree) → Apart t n r → is_leaf s ≡ true → ((x : ℕ) → map_of t x ≡ map_of (Node s a b) x) → ⊥
not_leaf t n r s a b p e f =
    let k = only_own (key_of s) p.low a p.first (sym (map_leaf s a b p.low e) ∙ sym (f p.low) ∙ p.there) in
    let j = only_own (key_of s) p.high a p.second (sym (map_leaf s a b p.high e) ∙ sym (f p.high) ∙ p.there_too) in
    let q : p.low / 2 ^ n ≡ p.high / 2 ^ n = ap (λ (i : ℕ). i / 2 ^ n) (sym k.0 ∙ j.0) in let l = p.left in let g = p.right in omega arith

-- the level of a branch is told by its map
level_least : (t : Tree) (n r : ℕ) (s : Shape) (a b : Tree) (p : Apart t n r) → IsTrie (Node s a b) → is_leaf s ≡ false → ((x : ℕ) → map_of t x ≡ map_of (Node s a b) x) → (n ≤ level_of s) × (p.low / 2 ^ (level_of s + 1) ≡ key_of s / 2 ^ (level_of s + 1))
level_least t n r s a b p h e f =
    let w = within_own s a b in let top = top_branch s e in
    let own : Within (Node s a b) (level_of s + 1) (key_of s / 2 ^ (level_of s + 1)) = (omega arith, refl) in
    let k = inside (Node s a b) (level_of s + 1) (key_of s / 2 ^ (level_of s + 1)) p.low p.first h own (sym (f p.low) ∙ p.there) in
    let j = inside (Node s a b) (level_of s + 1) (key_of s / 2 ^ (level_of s + 1)) p.high p.second h own (sym (f p.high) ∙ p.there_too) in (
      elim (cases_lt (level_of s) n) [
        | inl l ↦ absurd (let q : p.low / 2 ^ n ≡ p.high / 2 ^ n = shorten p.low p.high (level_of s + 1) n (omega arith) (k ∙ sym j) in let a = p.left in let b = p.right in omega arith)
        | inr g ↦ g
      ],
      k,
    )

-- equal maps have equal sides
left_equal : (s : Shape) (a b c d : Tree) → IsTrie (Node s a b) → IsTrie (Node s c d) → is_leaf s ≡ false → ((x : ℕ) → map_of (Node s a b) x ≡ map_of (Node s c d) x) → (x : ℕ) → map_of a x ≡ map_of c x
left_equal s a b c d h g e f x =
    elim (cases_lt x (key_of s)) [
      | inl l ↦ sym (node_left s a b x h e l).1 ∙ f x ∙ (node_left s c d x g e l).1
      | inr l ↦ (node_right s a b x h e l).0 ∙ sym (node_right s c d x g e l).0
    ]

right_equal : (s : Shape) (a b c d : Tree) → IsTrie (Node s a b) → IsTrie (Node s c d) → is_leaf s ≡ false → ((x : ℕ) → map_of (Node s a b) x ≡ map_of (Node s c d) x) → (x : ℕ) → map_of b x ≡ map_of d x
right_equal s a b c d h g e f x =
    elim (cases_lt x (key_of s)) [
      | inl l ↦ (node_left s a b x h e l).0 ∙ sym (node_left s c d x g e l).0
      | inr l ↦ sym (node_right s a b x h e l).1 ∙ f x ∙ (node_right s c d x g e l).1
    ]

leaves_equal : (s z : Shape) (a b c d : Tree) → IsTrie (Node s a b) → IsTrie (Node z c d) → is_leaf s ≡ true → is_leaf z ≡ true → ((x : ℕ) → map_of (Node s a b) x ≡ map_of (Node z c d) x) → Node s a b ≡ Node z c d
leaves_equal s z a b c d h g e l f =
    let i = leaf_of s a b h e in let j = leaf_of z c d g l in
    let k = only_own (key_of z) (key_of s) c a (sym (map_leaf z c d (key_of s) l) ∙ sym (f (key_of s)) ∙ map_leaf s a b (key_of s) e ∙ at_own (key_of s) a) in
    let q : s ≡ z = i.shape ∙ ap leaf_shape (sym k.0) ∙ sym j.shape in
    cc (q, k.1, i.none, j.none)

shapes_equal : (s z : Shape) (a b c d : Tree) → IsTrie (Node s a b) → IsTrie (Node z c d) → is_leaf s ≡ false → is_leaf z ≡ false → ((x : ℕ) → map_of (Node s a b) x ≡ map_of (Node z c d) x) → s ≡ z
unfolding split_at
shapes_equal s z a b c d h g e l f =
    let i = (branch_of s a b h e).0 in let j = (branch_of z c d g l).0 in
    let p = apart s a b h e in let o = apart z c d g l in
    let u = level_least (Node s a b) (level_of s) (key_of s / 2 ^ (level_of s + 1)) z c d p g l f in
    let v = level_least (Node z c d) (level_of z) (key_of z / 2 ^ (level_of z + 1)) s a b o h e (λ x. sym (f x)) in
    let n : level_of s ≡ level_of z = (let m = u.0 in let w = v.0 in omega arith) in
    let r : key_of s / 2 ^ (level_of s + 1) ≡ key_of z / 2 ^ (level_of z + 1) = sym (above (Node s a b) (level_of s) (key_of s / 2 ^ (level_of s + 1)) p).0 ∙ ap (λ (m : ℕ). p.low / 2 ^ (m + 1)) n ∙ u.1 in
    let k : key_of s ≡ key_of z = i.split ∙ ap (λ (m : ℕ). (2 * m + 1) * 2 ^ level_of s) r ∙ ap (λ (m : ℕ). (2 * (key_of z / 2 ^ (level_of z + 1)) + 1) * 2 ^ m) n ∙ sym j.split in
    i.shape ∙ ap (λ m. branch_shape m (level_of s)) k ∙ ap (λ m. branch_shape (key_of z) m) n ∙ sym j.shape

-- equal maps have equal tries
pub tries_equal : (t u : Tree) → IsTrie t → IsTrie u → ((x : ℕ) → map_of t x ≡ map_of u x) → t ≡ u
tries_equal Nil u h g f = absurd (no_nil h)
tries_equal (Node s a b) Nil h g f = absurd (no_nil g)
tries_equal (Node s a b) (Node z c d) h g f =
    elim (leaf_or s) [
      | inl e ↦ elim (leaf_or z) [
        | inl l ↦ leaves_equal s z a b c d h g e l f
        | inr l ↦ absurd (not_leaf (Node z c d) (level_of z) (key_of z / 2 ^ (level_of z + 1)) s a b (apart z c d g l) e (λ x. sym (f x)))
      ]
      | inr e ↦ elim (leaf_or z) [
        | inl l ↦ absurd (not_leaf (Node s a b) (level_of s) (key_of s / 2 ^ (level_of s + 1)) z c d (apart s a b h e) l f)
        | inr l ↦
            let q : s ≡ z = shapes_equal s z a b c d h g e l f in
            let i = branch_of s a b h e in let j = branch_of z c d g l in
            let gz : IsTrie (Node s c d) = subst (λ w. IsTrie (Node w c d)) (sym q) g in
            let fz : (x : ℕ) → map_of (Node s a b) x ≡ map_of (Node s c d) x = subst (λ w. (x : ℕ) → map_of (Node s a b) x ≡ map_of (Node w c d) x) (sym q) f in
            let l1 : a ≡ c = tries_equal a c i.1 j.1 (left_equal s a b c d h gz e fz) in
            let r1 : b ≡ d = tries_equal b d i.2 j.2 (right_equal s a b c d h gz e fz) in
            cc (q, l1, r1)
      ]
    ]

-- two tries are equal exactly where their maps are
pub tells_equal : (t u : Tree) (r : Bool) → IsTrie t → IsTrie u → (IsTrue r ↔ (t ≡ u)) → (IsTrue r → (x : ℕ) → map_of t x ≡ map_of u x) × (((x : ℕ) → map_of t x ≡ map_of u x) → IsTrue r)
tells_equal t u r h g i = (λ y x. ap (λ v. map_of v x) (i.0 y), λ f. i.1 (tries_equal t u h g f))

no_true : IsTrue false → ⊥
no_true y = cc

-- no trie has an empty map
pub tells_none : (t : Tree) → IsTrie t → (IsTrue false → (x : ℕ) → map_of t x ≡ map_of Nil x) × (((x : ℕ) → map_of t x ≡ map_of Nil x) → IsTrue false)
tells_none t h = (λ y. absurd (no_true y), λ f. let k = some_key t h in absurd (some_none k.1.0 (sym k.1.1 ∙ f k.0)))

pub none_tells : (t : Tree) → IsTrie t → (IsTrue false → (x : ℕ) → map_of Nil x ≡ map_of t x) × (((x : ℕ) → map_of Nil x ≡ map_of t x) → IsTrue false)
none_tells t h = (λ y. absurd (no_true y), λ f. let k = some_key t h in absurd (some_none k.1.0 (sym k.1.1 ∙ sym (f k.0))))
