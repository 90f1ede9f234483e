use Rattle.std.proofs.Common.{ℕ, ◌+◌, ◌*◌, ◌<◌, ◌≡◌, ◌/◌, ◌^◌, cond, eqb, Bool, true, false, Option, Some, List, [], ◌∷◌, ◌++◌, arith, refl, sym, ap, ◌∙◌, subst, inl, inr, Result, Ok, Err, IfOk, Less}
use Rattle.std.specs.List.{AllByRecursion}
use Rattle.std.specs.List.Sorted.{IsStrictlyIncreasing, IsStrictlySortedBy}
use Rattle.std.specs.Map.{keys_of, lookup}
use Rattle.std.specs.Ordering.{nat_cmp}
use Rattle.std.specs.Cmp.{nat_cmp_is}
use Rattle.std.proofs.lemmas.List.{map-append}
use Rattle.std.proofs.lemmas.Map.Keys.{IsStrictlyIncreasing-from_sorted}
use Rattle.std.proofs.lemmas.Bool.{cases_lt}
use Rattle.store_api.specs.declared.Shape.{Shape}
use Rattle.store_api.specs.Tree.{Tree, Nil, Node}
use Rattle.store_api.specs.Bag.{Bag}
use Rattle.hptmap.specs.Trie.{entries, either, is_leaf, key_of, level_of, map_of, IsTrie, Within}
use Rattle.hptmap.specs.Pairs.{pair_trees}
use Rattle.hptmap.proofs.Bits.{above_split, shorten, shorter}
use Rattle.hptmap.proofs.Changes.{map_leaf}
use Rattle.hptmap.proofs.Tries.{branch_of, leaf_or, map_branch, top_branch}

-- the pairs of a trie are its map
cond_either : (c : Bool) (a : Tree) (o p : Option Tree) → cond c (Some a) (either o p) ≡ either (cond c (Some a) o) p
cond_either true a o p = refl
cond_either false a o p = refl

lookup_both : (f : ℕ → Bool) (ps qs : List (ℕ × Tree)) → lookup f (ps ++ qs) ≡ either (lookup f ps) (lookup f qs)
lookup_both f [] qs = refl
lookup_both f (p ∷ ps) qs = ap (λ o. cond (f p.0) (Some p.1) o) (lookup_both f ps qs) ∙ cond_either (f p.0) p.1 (lookup f ps) (lookup f qs)

pub entries_map : (t : Tree) (x : ℕ) → lookup (λ k. eqb k x) (entries t) ≡ map_of t x
entries_map Nil x = refl
entries_map (Node s a b) x =
    elim (leaf_or s) [
      | inl e ↦ ap (λ c. lookup (λ k. eqb k x) (cond c ((key_of s, a) ∷ []) (entries a ++ entries b))) e ∙ sym (map_leaf s a b x e)
      | inr e ↦
          ap (λ c. lookup (λ k. eqb k x) (cond c ((key_of s, a) ∷ []) (entries a ++ entries b))) e
          ∙ lookup_both (λ k. eqb k x) (entries a) (entries b)
          ∙ ap (λ o. either o (lookup (λ k. eqb k x) (entries b))) (entries_map a x)
          ∙ ap (λ o. either (map_of a x) o) (entries_map b x)
          ∙ sym (map_branch s a b x e)
    ]

-- all of a list
all_map : (P Q : ℕ → Type 0) (f : (k : ℕ) → P k → Q k) (ks : List ℕ) → AllByRecursion P ks → AllByRecursion Q ks
all_map P Q f [] a = tt
all_map P Q f (k ∷ ks) a = (f k a.0, all_map P Q f ks a.1)

all_both : (P : ℕ → Type 0) (ks js : List ℕ) → AllByRecursion P ks → AllByRecursion P js → AllByRecursion P (ks ++ js)
all_both P [] js a b = b
all_both P (k ∷ ks) js a b = (a.0, all_both P ks js a.1 b)

-- a key with a lower prefix is less
less_prefix : (k j n r : ℕ) → k / 2 ^ n ≡ 2 * r → j / 2 ^ n ≡ 2 * r + 1 → nat_cmp k j ≡ Less
less_prefix k j n r e d =
    let l : k < j = elim (cases_lt k j) [ inl l ↦ l | inr g ↦ absurd (let m = above_split k j n g in omega arith) ] in
    sym (nat_cmp_is k j Less l)

sorted_both : (n r : ℕ) (ks js : List ℕ) → IsStrictlySortedBy nat_cmp ks → IsStrictlySortedBy nat_cmp js → AllByRecursion (λ k. k / 2 ^ n ≡ 2 * r) ks → AllByRecursion (λ k. k / 2 ^ n ≡ 2 * r + 1) js → IsStrictlySortedBy nat_cmp (ks ++ js)
unfolding IsStrictlySortedBy
sorted_both n r [] js s t a b = t
sorted_both n r (k ∷ ks) js s t a b = (
  all_both (λ y. nat_cmp k y ≡ Less) ks js s.0 (all_map (λ y. y / 2 ^ n ≡ 2 * r + 1) (λ y. nat_cmp k y ≡ Less) (λ y e. less_prefix k y n r a.0 e) js b),
  sorted_both n r ks js s.1 t a.1 b,
)

keys_leaf : (s : Shape) (a b : Tree) → is_leaf s ≡ true → keys_of (entries (Node s a b)) ≡ key_of s ∷ []
keys_leaf s a b e = ap (λ c. keys_of (cond c ((key_of s, a) ∷ []) (entries a ++ entries b))) e

keys_branch : (s : Shape) (a b : Tree) → is_leaf s ≡ false → keys_of (entries (Node s a b)) ≡ keys_of (entries a) ++ keys_of (entries b)
keys_branch s a b e = ap (λ c. keys_of (cond c ((key_of s, a) ∷ []) (entries a ++ entries b))) e ∙ map-append (λ p. p.0) (entries a) (entries b)

-- all keys of a trie have the prefix that it is within
keys_within : (t : Tree) (n q : ℕ) → IsTrie t → Within t n q → AllByRecursion (λ k. k / 2 ^ n ≡ q) (keys_of (entries t))
keys_within Nil n q h w = tt
keys_within (Node s a b) n q h w =
    elim (leaf_or s) [
      | inl e ↦ subst (AllByRecursion (λ k. k / 2 ^ n ≡ q)) (sym (keys_leaf s a b e)) (w.1, tt)
      | inr e ↦
          let i = branch_of s a b h e in let l = level_of s in let r = key_of s / 2 ^ (l + 1) in
          let up : (k : ℕ) → k / 2 ^ (l + 1) ≡ r → k / 2 ^ n ≡ q = λ k d. shorten k (key_of s) (l + 1) n (omega (arith, w.0, top_branch s e)) d ∙ w.1 in
          subst (AllByRecursion (λ k. k / 2 ^ n ≡ q)) (sym (keys_branch s a b e)) (
          all_both (λ k. k / 2 ^ n ≡ q) (keys_of (entries a)) (keys_of (entries b))
          (all_map (λ k. k / 2 ^ l ≡ 2 * r) (λ k. k / 2 ^ n ≡ q) (λ k d. up k (shorter k l ∙ ap (λ (m : ℕ). m / 2) d ∙ (omega arith))) (keys_of (entries a)) (keys_within a l (2 * r) i.1 i.0.left))
          (all_map (λ k. k / 2 ^ l ≡ 2 * r + 1) (λ k. k / 2 ^ n ≡ q) (λ k d. up k (shorter k l ∙ ap (λ (m : ℕ). m / 2) d ∙ (omega arith))) (keys_of (entries b)) (keys_within b l (2 * r + 1) i.2 i.0.right))
          )
    ]

-- and they rise
keys_sorted : (t : Tree) → IsTrie t → IsStrictlySortedBy nat_cmp (keys_of (entries t))
unfolding IsStrictlySortedBy
keys_sorted Nil h = tt
keys_sorted (Node s a b) h =
    elim (leaf_or s) [
      | inl e ↦ subst (IsStrictlySortedBy nat_cmp) (sym (keys_leaf s a b e)) (tt, tt)
      | inr e ↦
          let i = branch_of s a b h e in let l = level_of s in let r = key_of s / 2 ^ (l + 1) in
          subst (IsStrictlySortedBy nat_cmp) (sym (keys_branch s a b e)) (
          sorted_both l r (keys_of (entries a)) (keys_of (entries b)) (keys_sorted a i.1) (keys_sorted b i.2)
          (keys_within a l (2 * r) i.1 i.0.left) (keys_within b l (2 * r + 1) i.2 i.0.right)
          )
    ]

keys_same : {H : Type 0} (name : H → ℕ) (b : Bag) (ps : List (ℕ × H)) → keys_of (pair_trees name b ps) ≡ keys_of ps
unfolding pair_trees
keys_same name b [] = refl
keys_same name b (p ∷ ps) = ap (λ (ks : List ℕ). p.0 ∷ ks) (keys_same name b ps)

-- the same of the pairs that a walk answers
walk_rising : {H : Type 0} (name : H → ℕ) (b : Bag) (ps : List (ℕ × H)) (t : Tree) → IsTrie t → pair_trees name b ps ≡ entries t → IsStrictlyIncreasing (keys_of ps)
walk_rising name b ps t h e = IsStrictlyIncreasing-from_sorted (keys_of ps) (subst (IsStrictlySortedBy nat_cmp) (ap keys_of (sym e) ∙ keys_same name b ps) (keys_sorted t h))

pub rising_ok : {H V E : Type 0} (r : Result V E) (items : V → List (ℕ × H)) (name : H → ℕ) (b : Bag) (t : Tree) (none : List (ℕ × Tree)) → IsTrie t → none ≡ [] → IfOk r (λ v. pair_trees name b (items v) ≡ none ++ entries t) → IfOk r (λ v. IsStrictlyIncreasing (keys_of (items v)))
rising_ok (Ok v) items name b t none h e f = walk_rising name b (items v) t h (f ∙ ap (λ ps. ps ++ entries t) e)
rising_ok (Err x) items name b t none h e f = tt

pub map_ok : {H V E : Type 0} (r : Result V E) (items : V → List (ℕ × H)) (name : H → ℕ) (b : Bag) (t : Tree) (none : List (ℕ × Tree)) → none ≡ [] → IfOk r (λ v. pair_trees name b (items v) ≡ none ++ entries t) → IfOk r (λ v. (x : ℕ) → lookup (λ k. eqb k x) (pair_trees name b (items v)) ≡ map_of t x)
map_ok (Ok v) items name b t none e f = λ x. ap (lookup (λ k. eqb k x)) (f ∙ ap (λ ps. ps ++ entries t) e) ∙ entries_map t x
map_ok (Err x) items name b t none e f = tt
