-- What the rule tells a pass of its own holds.
use Rattle.std.proofs.Common.{◌≡◌, ℕ, suc, ◌/◌, ◌%◌, ◌<◌, ◌^◌, List, [], ◌∷◌, cond, sym, ap, ◌∙◌, subst, ⊎_elim, arith, slice_index, lt-ltb}
use mathlib.Core.Option.{some}
use lib.ListN.{get_elem?}
use Rattle.std.proofs.lemmas.Bool.{cases_eq}
use Rattle.atomic_table.specs.Table.{State}
use Rattle.store_api.specs.Tree.{Tree}
use Rattle.store_api.specs.declared.Shape.{Shape}
use Rattle.row_rule.specs.Words.{Table, state, control, child, left, right, Proper, content, shape_at, bit, Live}
use Rattle.row_rule.specs.declared.view.View.{View}
use Rattle.row_rule.specs.Rule.{Spells, active, Told, Rule}
use Rattle.row_rule.proofs.Frames.{spells_live, spells_same, spells_unique, live_below, child_named, firm_named, held_firm}

pub left_some : (n : ℕ) → 0 < n % 4 → left n ≡ suc (n / 4 % 2 ^ 20)
unfolding left
left_some n h = ap (λ b. cond b (suc (n / 4 % 2 ^ 20)) 0) (lt-ltb 0 (n % 4) h)

pub right_some : (n : ℕ) → 1 < n % 4 → right n ≡ suc (n / 2 ^ 22)
unfolding right
right_some n h = ap (λ b. cond b (suc (n / 2 ^ 22)) 0) (lt-ltb 1 (n % 4) h)

-- a child word is told by its number of kids and its rows
pub child_word : (n m : ℕ) → Proper n → Proper m → n % 4 ≡ m % 4 → left n ≡ left m → right n ≡ right m → n ≡ m
child_word n m p q e l r = ⊎_elim
    (λ (z : n % 4 ≡ 0). p.1 z ∙ sym (q.1 (sym e ∙ z)))
    (λ nz. let a = left_some n (omega arith) in let b = left_some m (omega arith) in ⊎_elim
    (λ (o : n % 4 ≡ 1). let c = p.2 o in let d = q.2 (sym e ∙ o) in omega arith)
    (λ no. let c = right_some n (omega arith) in let d = right_some m (omega arith) in omega arith)
    (cases_eq (n % 4) 1))
    (cases_eq (n % 4) 0)

-- the body of a shape, word by word
body_at : ℕ → Shape → ℕ
body_at j s = slice_index s.body j

pub content_same : (k : Table) (ws : List ℕ) (q p : ℕ) → shape_at k ws q ≡ shape_at k ws p → child k ws q ≡ child k ws p → content k ws q ≡ content k ws p
unfolding body_at
content_same k ws q p s c i = (s i).head ∷ c i ∷ body_at 0 (s i) ∷ body_at 1 (s i) ∷ body_at 2 (s i) ∷ body_at 3 (s i) ∷ body_at 4 (s i) ∷ body_at 5 (s i) ∷ body_at 6 (s i) ∷ body_at 7 (s i) ∷ []

module _ (k : Table) (s : State ℕ View) (h : Rule k s) (id : ℕ) (v : View) (at : get_elem? s.views id ≡ some v) (mine : active v ≡ 1) where
  one_row : (q p : ℕ) → bit k s.words q ≡ 1 → bit k s.words p ≡ 1 → state (control k s.words q) ≡ Live → state (control k s.words p) ≡ Live → Proper (child k s.words q) → Proper (child k s.words p)
      → shape_at k s.words q ≡ shape_at k s.words p → left (child k s.words q) ≡ left (child k s.words p) → right (child k s.words q) ≡ right (child k s.words p) → q ≡ p
  one_row q p bq bp lq lp pq pp e l r = h.unique q p bq bp lq lp (content_same k s.words q p e (child_word (child k s.words q) (child k s.words p) pq pp (ap (λ (x : Shape). x.kids) e) l r))

  -- equal trees of published rows are of one row
  pub one_of_tree : (t : Tree) (q p : ℕ) → bit k s.words q ≡ 1 → bit k s.words p ≡ 1 → Spells k s.words t (suc q) → Spells k s.words t (suc p) → q ≡ p
  one_of_tree t q p bq bp hq hp = let e : suc q ≡ suc p = spells_unique k s.words (λ a. bit k s.words a ≡ 1) one_row (λ a b on l c. (h.rows b).published (child_named k s h a b l c)) t (suc q) (suc p)
      (λ a f. subst (λ x. bit k s.words x ≡ 1) (let g : q ≡ a = omega arith in g) bq) (λ a f. subst (λ x. bit k s.words x ≡ 1) (let g : p ≡ a = omega arith in g) bp) hq hp in omega arith

  shown : (i : ℕ) (x : ℕ × Tree) → get_elem? v.holds i ≡ some x → bit k s.words x.0 ≡ 1
  shown i x e = (h.rows x.0).published (firm_named k s h id v at x.0 (held_firm k s h id v at i x e))

  pub told : Told v
  told = let f = (h.views id v at).holds in record {
    agree = λ i j x y ex ey same. spells_same k s.words x.1 y.1 (suc x.0) (suc y.0) (ap suc same) (f i x ex) (f j y ey);
    apart = λ i j x y ex ey same. one_of_tree x.1 x.0 y.0 (shown i x ex) (shown j y ey) (f i x ex) (subst (λ t. Spells k s.words t (suc y.0)) (sym same) (f j y ey));
    within = λ i x ex. let l = live_below k s.words x.0 h.sized (let e = spells_live k s.words x.1 x.0 (f i x ex) in omega arith) in let b = ((h.views id v at).about mine).1 in omega arith;
  }
