-- Pointers and the tries that spell them.
use Rattle.std.proofs.Common.{◌≡◌, ℕ, zero, suc, ◌+◌, ◌*◌, ◌/◌, ◌^◌, ◌<◌, List, [], ◌∷◌, ◌++◌, map, length, get_or, drop, sym, refl, ap, subst, ◌∙◌, Bool, true, false, cond, eqb, Option, Some, None, arith, inl, inr, drop-cons}
use Rattle.std.specs.List.{All}
use Rattle.std.specs.Prelude.{slice_index_or}
use Rattle.std.specs.Map.{lookup}
use Rattle.std.proofs.lemmas.Bool.{cases_lt}
use Rattle.std.proofs.lemmas.Bool.Decides.{nat_tests}
use Rattle.std.proofs.lemmas.List.{append_assoc, drop_all, map-append}
use Rattle.std.proofs.lemmas.List.Elements.{All-head, All-tail}
use Rattle.store_api.specs.declared.Shape.{Shape}
use Rattle.store_api.specs.Tree.{Tree, Nil, Node, kid, shape_is}
use Rattle.hptmap.specs.Trie.{IsMap, IsTrie, Within, entries, is_leaf, key_of, level_of, map_of}
use Rattle.hptmap.proofs.Bits.{above_split, shorten, shorter}
use Rattle.hptmap.proofs.Rising.{entries_map}
use Rattle.hptmap.proofs.Merging.{kid_falls}
use Rattle.hptmap.proofs.Tries.{below_trie, branch_of, key_small, kids_of_trie, leaf_or, top_branch}
use Rattle.ival.specs.declared.forms.Ival.{Ival}
use Rattle.avalue.specs.Pointers.{Pointer, AreRising}
use Rattle.memory_trees.specs.Values.{IsIvalTree, ival_of, ival_tree, pointers_of}
use Rattle.value_trees.specs.Pointers.{HasOffsets, Spells, offsets_tree}
use Rattle.abstract_memory.proofs.RisingKeys.{KeysAre, Rises, found, keys_both, keys_weaker, one_list, rising_keys}
use Rattle.value_trees.proofs.Depths.{all_front, all_back}

-- ---- the pairs of a trie rise

entries_leaf : (s : Shape) (a b : Tree) → is_leaf s ≡ true → entries (Node s a b) ≡ (key_of s, a) ∷ []
entries_leaf s a b e = ap (λ c. cond c ((key_of s, a) ∷ []) (entries a ++ entries b)) e

entries_branch : (s : Shape) (a b : Tree) → is_leaf s ≡ false → entries (Node s a b) ≡ entries a ++ entries b
entries_branch s a b e = ap (λ c. cond c ((key_of s, a) ∷ []) (entries a ++ entries b)) e

less_prefix : (k j n r : ℕ) → k / 2 ^ n ≡ 2 * r → j / 2 ^ n ≡ 2 * r + 1 → k < j
less_prefix k j n r e d = elim (cases_lt k j) [ inl l ↦ l | inr g ↦ absurd (let m = above_split k j n g in omega arith) ]

rises_both : (n r : ℕ) (es ds : List (ℕ × Tree)) → Rises es → Rises ds → KeysAre (λ k. k / 2 ^ n ≡ 2 * r) es → KeysAre (λ k. k / 2 ^ n ≡ 2 * r + 1) ds → Rises (es ++ ds)
rises_both n r [] ds s t a b = t
rises_both n r (e ∷ es) ds s t a b = (
  keys_both (λ k. e.0 < k) es ds s.0 (keys_weaker (λ k. k / 2 ^ n ≡ 2 * r + 1) (λ k. e.0 < k) ds (λ k q. less_prefix e.0 k n r a.0 q) b),
  rises_both n r es ds s.1 t a.1 b,
)

keys_within : (t : Tree) (n q : ℕ) → IsTrie t → Within t n q → KeysAre (λ k. k / 2 ^ n ≡ q) (entries t)
keys_within Nil n q h w = tt
keys_within (Node s a b) n q h w =
    elim (leaf_or s) [
      | inl e ↦ subst (KeysAre (λ k. k / 2 ^ n ≡ q)) (sym (entries_leaf s a b e)) (w.1, tt)
      | inr e ↦
          let i = branch_of s a b h e in let l = level_of s in let r = key_of s / 2 ^ (l + 1) in
          let up : (k : ℕ) → k / 2 ^ (l + 1) ≡ r → k / 2 ^ n ≡ q = λ k d. shorten k (key_of s) (l + 1) n (omega (arith, w.0, top_branch s e)) d ∙ w.1 in
          subst (KeysAre (λ k. k / 2 ^ n ≡ q)) (sym (entries_branch s a b e)) (
          keys_both (λ k. k / 2 ^ n ≡ q) (entries a) (entries b)
          (keys_weaker (λ k. k / 2 ^ l ≡ 2 * r) (λ k. k / 2 ^ n ≡ q) (entries a) (λ k d. up k (shorter k l ∙ ap (λ (m : ℕ). m / 2) d ∙ (omega arith))) (keys_within a l (2 * r) i.1 i.0.left))
          (keys_weaker (λ k. k / 2 ^ l ≡ 2 * r + 1) (λ k. k / 2 ^ n ≡ q) (entries b) (λ k d. up k (shorter k l ∙ ap (λ (m : ℕ). m / 2) d ∙ (omega arith))) (keys_within b l (2 * r + 1) i.2 i.0.right))
          )
    ]

trie_rises : (t : Tree) → IsTrie t → Rises (entries t)
trie_rises Nil h = tt
trie_rises (Node s a b) h =
    elim (leaf_or s) [
      | inl e ↦ subst Rises (sym (entries_leaf s a b e)) (tt, tt)
      | inr e ↦
          let i = branch_of s a b h e in let l = level_of s in let r = key_of s / 2 ^ (l + 1) in
          subst Rises (sym (entries_branch s a b e)) (
          rises_both l r (entries a) (entries b) (trie_rises a i.1) (trie_rises b i.2) (keys_within a l (2 * r) i.1 i.0.left) (keys_within b l (2 * r + 1) i.2 i.0.right)
          )
    ]

pub map_rises : (t : Tree) → IsMap t → Rises (entries t)
map_rises Nil h = tt
map_rises (Node s a b) h = trie_rises (Node s a b) h

-- what holds of each payload holds of each pair
pub each_entry : (P : ℕ × Tree → Type 0) (t : Tree) → IsMap t → ((base : ℕ) (p : Tree) → map_of t base ≡ Some p → P (base, p)) → All P (entries t)
each_entry P t m h = λ k d l. h (slice_index_or (entries t) k d).0 (slice_index_or (entries t) k d).1 (sym (entries_map t (slice_index_or (entries t) k d).0) ∙ found (entries t) (map_rises t m) k d l)

-- ---- pointers

abbrev told : ℕ × Tree → Pointer
told e = (e.0, ival_of e.1)

pointers_rise : (es : List (ℕ × Tree)) → Rises es → Rises (map told es)
pointers_rise [] r = tt
pointers_rise (e ∷ es) r = (keys_told (λ k. e.0 < k) es r.0, pointers_rise es r.1)
  where
    keys_told : (P : ℕ → Type 0) (es : List (ℕ × Tree)) → KeysAre P es → KeysAre P (map told es)
    keys_told P [] a = tt
    keys_told P (e ∷ es) a = (a.0, keys_told P es a.1)

to_rising : (ps : List Pointer) → Rises ps → AreRising ps
to_rising [] r = tt
to_rising (p ∷ []) r = tt
to_rising (p ∷ q ∷ rest) r = (r.0.0, to_rising (q ∷ rest) r.1)

pub pointers_rising : (t : Tree) → IsMap t → AreRising (pointers_of t)
pointers_rising t m = to_rising (pointers_of t) (pointers_rise (entries t) (map_rises t m))

opt : Option Tree → Option Ival
opt None = None
opt (Some t) = Some (ival_of t)

lookup_told : (es : List (ℕ × Tree)) (x : ℕ) → lookup (λ k. eqb k x) (map told es) ≡ opt (lookup (λ k. eqb k x) es)
unfolding opt
lookup_told [] x = refl
lookup_told (e ∷ es) x = elim (eqb e.0 x) as (λ (b : Bool). cond b (Some (ival_of e.1)) (lookup (λ k. eqb k x) (map told es)) ≡ opt (cond b (Some e.1) (lookup (λ k. eqb k x) es))) [ true ↦ refl | false ↦ lookup_told es x ]

back : (ps : List Pointer) (x : ℕ) → All (λ p. ival_of (ival_tree p.1) ≡ p.1) ps → opt (offsets_tree (lookup (λ k. eqb k x) ps)) ≡ lookup (λ k. eqb k x) ps
unfolding opt
back [] x h = refl
back (p ∷ ps) x h =
    elim (eqb p.0 x) as (λ (b : Bool). opt (offsets_tree (cond b (Some p.1) (lookup (λ k. eqb k x) ps))) ≡ cond b (Some p.1) (lookup (λ k. eqb k x) ps)) [
      | true ↦ ap Some (All-head (λ q. ival_of (ival_tree q.1) ≡ q.1) p ps h)
      | false ↦ back ps x (All-tail (λ q. ival_of (ival_tree q.1) ≡ q.1) p ps h)
    ]

-- the pointers that a trie spells come back
pub spelt : (ps : List Pointer) (t : Tree) → AreRising ps → All (λ p. ival_of (ival_tree p.1) ≡ p.1) ps → IsMap t → Spells ps t → pointers_of t ≡ ps
unfolding Spells
spelt ps t r h m s =
    one_list (pointers_of t) ps (pointers_rise (entries t) (map_rises t m)) (rising_keys ps r)
    (λ x. lookup_told (entries t) x ∙ ap opt (entries_map t x ∙ s x) ∙ back ps x h)

-- what holds of the trees of all offsets holds of each payload
same_tree : (a b : Tree) → Some a ≡ Some b → a ≡ b
same_tree a b q = cc

no_tree : (a : Tree) → None ≡ Some a → ⊥
no_tree a q = cc

of_list : (P : Tree → Type 0) (base : ℕ) (p : Tree) (qs : List Pointer) → All (λ q. P (ival_tree q.1)) qs → offsets_tree (lookup (λ k. eqb k base) qs) ≡ Some p → P p
of_list P base p [] a q = absurd (no_tree p q)
of_list P base p (o ∷ qs) a q = by_test (eqb o.0 base) (of_list P base p qs (All-tail (λ r. P (ival_tree r.1)) o qs a)) q
  where
    by_test : (b : Bool) → (offsets_tree (lookup (λ k. eqb k base) qs) ≡ Some p → P p) → offsets_tree (cond b (Some o.1) (lookup (λ k. eqb k base) qs)) ≡ Some p → P p
    by_test true rest r = subst P (same_tree (ival_tree o.1) p r) (All-head (λ y. P (ival_tree y.1)) o qs a)
    by_test false rest r = rest r

pub spelt_each : (P : Tree → Type 0) (ps : List Pointer) (t : Tree) → All (λ p. P (ival_tree p.1)) ps → Spells ps t → (base : ℕ) (p : Tree) → map_of t base ≡ Some p → P p
unfolding Spells
spelt_each P ps t h s base p e = of_list P base p ps h (sym (s base) ∙ e)

-- ---- the loop that puts them

pub spells_none : (ps : List Pointer) → Spells (drop (length ps) ps) Nil
unfolding Spells
spells_none ps x = sym (ap (λ qs. offsets_tree (lookup (λ k. eqb k x) qs)) (drop_all (length ps) ps (omega arith)))

flip : (x y : ℕ) → eqb x y ≡ eqb y x
flip x y = grind (arith, nat_tests)

cons_spells : (p : Pointer) (ps : List Pointer) (t r : Tree) → Spells ps t → ((x : ℕ) → map_of r x ≡ cond (eqb x p.0) (Some (ival_tree p.1)) (map_of t x)) → Spells (p ∷ ps) r
unfolding Spells
cons_spells p ps t r h k x =
    k x ∙ ap (λ o. cond (eqb x p.0) (Some (ival_tree p.1)) o) (h x) ∙ ap (λ b. cond b (Some (ival_tree p.1)) (offsets_tree (lookup (λ k. eqb k x) ps))) (flip x p.0)
    ∙ choose (eqb p.0 x)
  where
    choose : (b : Bool) → cond b (Some (ival_tree p.1)) (offsets_tree (lookup (λ k. eqb k x) ps)) ≡ offsets_tree (cond b (Some p.1) (lookup (λ k. eqb k x) ps))
    choose true = refl
    choose false = refl

pub spells_more : (ps : List Pointer) (i j : ℕ) (p : Pointer) (t r : Tree) → j ≡ i + 1 → i < length ps → get_or ps i p ≡ p → Spells (drop j ps) t
    → ((x : ℕ) → map_of r x ≡ cond (eqb x p.0) (Some (ival_tree p.1)) (map_of t x)) → Spells (drop i ps) r
spells_more ps i j p t r e l g h k =
    let d : drop i ps ≡ p ∷ drop j ps = drop-cons ps i p l ∙ ap (λ q. q ∷ drop (suc i) ps) g ∙ ap (λ n. p ∷ drop n ps) (let z : suc i ≡ j = omega (arith, e) in z) in
    subst (λ qs. Spells qs r) (sym d) (cons_spells p (drop j ps) t r h k)

pub spells_all : (ps : List Pointer) (i : ℕ) (t : Tree) → i ≡ 0 → Spells (drop i ps) t → Spells ps t
spells_all ps i t e h = subst (λ n. Spells (drop n ps) t) e h

pub ruleset spell_facts = (spells_none, spells_all, spells_more)

-- ---- the pointers that are read back

one_pair : ℕ → Ival → List Pointer
one_pair k x = (k, x) ∷ []

take_leaf_of : (t : Tree) (s : Shape) → shape_is t s → is_leaf s ≡ true → pointers_of t ≡ (key_of s, ival_of (kid t 0)) ∷ []
unfolding one_pair
take_leaf_of Nil s h e = absurd h
take_leaf_of (Node z a b) s h e =
    let k : is_leaf z ≡ true = rw h at e in
    ap (map told) (entries_leaf z a b k) ∙ ap (λ (y : Shape). one_pair (key_of y) (ival_of a)) (sym h)

take_branch_of : (t : Tree) (s : Shape) → shape_is t s → is_leaf s ≡ false → pointers_of t ≡ pointers_of (kid t 0) ++ pointers_of (kid t 1)
take_branch_of Nil s h e = absurd h
take_branch_of (Node z a b) s h e =
    let k : is_leaf z ≡ false = rw h at e in
    ap (map told) (entries_branch z a b k) ∙ map-append told (entries a) (entries b)

pub leaf_offsets : (t : Tree) (s : Shape) → HasOffsets t → shape_is t s → is_leaf s ≡ true → IsIvalTree (kid t 0)
unfolding HasOffsets
leaf_offsets Nil s o h e = absurd h
leaf_offsets (Node z a b) s o h e =
    let k : is_leaf z ≡ true = rw h at e in
    All-head (λ e. IsIvalTree e.1) (key_of z, a) [] (subst (All (λ e. IsIvalTree e.1)) (entries_leaf z a b k) o)

pub left_offsets : (t : Tree) (s : Shape) → HasOffsets t → shape_is t s → is_leaf s ≡ false → HasOffsets (kid t 0)
unfolding HasOffsets
left_offsets Nil s o h e = absurd h
left_offsets (Node z a b) s o h e =
    let k : is_leaf z ≡ false = rw h at e in
    all_front (λ e. IsIvalTree e.1) (entries a) (entries b) (subst (All (λ e. IsIvalTree e.1)) (entries_branch z a b k) o)

pub right_offsets : (t : Tree) (s : Shape) → HasOffsets t → shape_is t s → is_leaf s ≡ false → HasOffsets (kid t 1)
unfolding HasOffsets
right_offsets Nil s o h e = absurd h
right_offsets (Node z a b) s o h e =
    let k : is_leaf z ≡ false = rw h at e in
    all_back (λ e. IsIvalTree e.1) (entries a) (entries b) (subst (All (λ e. IsIvalTree e.1)) (entries_branch z a b k) o)

pub took_leaf : (t : Tree) (s : Shape) (ps qs : List Pointer) → shape_is t s → is_leaf s ≡ true → qs ≡ ps ++ (key_of s, ival_of (kid t 0)) ∷ [] → qs ≡ ps ++ pointers_of t
took_leaf t s ps qs h e d = d ∙ ap (λ rs. ps ++ rs) (sym (take_leaf_of t s h e))

pub took_branch : (t : Tree) (s : Shape) (ps qs rs : List Pointer) → shape_is t s → is_leaf s ≡ false → qs ≡ ps ++ pointers_of (kid t 0) → rs ≡ qs ++ pointers_of (kid t 1) → rs ≡ ps ++ pointers_of t
took_branch t s ps qs rs h e d f =
    f ∙ ap (λ xs. xs ++ pointers_of (kid t 1)) d ∙ append_assoc ps (pointers_of (kid t 0)) (pointers_of (kid t 1)) ∙ ap (λ xs. ps ++ xs) (sym (take_branch_of t s h e))

pub side_kids : (t : Tree) (s z : Shape) → IsTrie t → shape_is t s → is_leaf s ≡ false → shape_is t z → z.kids ≡ 2
side_kids Nil s z h e l f = absurd e
side_kids (Node y a b) s z h e l f =
    kids_of_trie (Node y a b) z h f ∙ ap (λ (b : Bool). cond b 1 2) (ap is_leaf (f ∙ sym e) ∙ l)

pub leaf_facts_kids : (t : Tree) (s z : Shape) → IsTrie t → shape_is t s → is_leaf s ≡ true → shape_is t z → z.kids ≡ 1
leaf_facts_kids Nil s z h e l f = absurd e
leaf_facts_kids (Node y a b) s z h e l f =
    kids_of_trie (Node y a b) z h f ∙ ap (λ (b : Bool). cond b 1 2) (ap is_leaf (f ∙ sym e) ∙ l)

pub ruleset leaf_rules = (leaf_facts_kids, leaf_offsets, key_small, took_leaf)

pub side_offsets : (t : Tree) (s : Shape) (k : ℕ) → HasOffsets t → shape_is t s → is_leaf s ≡ false → HasOffsets (kid t k)
side_offsets t s zero o h e = left_offsets t s o h e
side_offsets Nil s (suc k) o h e = absurd h
side_offsets (Node y a b) s (suc k) o h e = right_offsets (Node y a b) s o h e

pub ruleset take_facts = (below_trie, kid_falls, side_kids, side_offsets, took_leaf, took_branch)
