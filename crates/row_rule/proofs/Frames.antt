-- What stays under a step.
use Rattle.std.proofs.Common.{◌≡◌, ℕ, zero, suc, ◌+◌, ◌/◌, ◌%◌, ◌<◌, ◌≤◌, ◌≢◌, List, [], ◌∷◌, length, set, cond, eqb, ltb, sym, refl, ap, ◌∙◌, subst, ⊎_elim, arith, slice_index, eq-eqb, ne_eqb}
use mathlib.Core.Option.{some}
use lib.ListN.{get_elem?}
use Rattle.std.specs.Int.{bit_at}
use Rattle.std.proofs.lemmas.Bool.{cases_eq, cases_lt, le-ltb, lt-ltb}
use Rattle.std.proofs.lemmas.List.{get_or_past}
use Rattle.atomic_table.specs.Table.{State}
use Rattle.store_api.specs.Tree.{Tree, Nil, Node, depth, kid}
use Rattle.store_api.specs.Bag.{one, one_self}
use Rattle.row_rule.specs.Known.{Claim, Scan, Stage, Idle, Granted, Refused, Joining, Spent}
use Rattle.row_rule.specs.Words.{Table, rows, size, passes, bucket, line, word, row_word, state, control, child, content, left, right, Proper, children, shape_at, bit, line_kind, line_a, line_b, line_r, line_names, Live, Empty, IsTree}
use Rattle.row_rule.specs.declared.view.View.{View}
use Rattle.row_rule.specs.Rule.{total, held, unread, firm, weak, ref, refs, cached, named, all_named, Spells, All, Spelled, Right, RowFits, ClaimFits, ScanFits, weight, active, stage_weight, stage_active, ViewFits, Rule}
use Rattle.row_rule.specs.Changes.{Holds}
use Rattle.row_rule.proofs.Sums.{le_total, two_le_total}

-- ---- child words and bits
pub children_left : (n r : ℕ) → left n ≡ suc r → 0 < children n r
unfolding children
children_left n r e = let o : one (left n) (suc r) ≡ 1 = ap (λ a. one a (suc r)) e ∙ one_self (suc r) in omega arith

pub children_right : (n r : ℕ) → right n ≡ suc r → 0 < children n r
unfolding children
children_right n r e = let o : one (right n) (suc r) ≡ 1 = ap (λ a. one a (suc r)) e ∙ one_self (suc r) in omega arith

pub bit_same : (k : Table) (ws xs : List ℕ) (r : ℕ) → (r < rows k → bucket xs (r / 32) ≡ bucket ws (r / 32)) → bit k xs r ≡ bit k ws r
unfolding bit
bit_same k ws xs r h = ⊎_elim
    (λ (l : r < rows k). ap (λ a. cond (ltb r (rows k)) (bit_at a (r % 32)) 0) (h l))
    (λ l. ap (λ b. cond b (bit_at (bucket xs (r / 32)) (r % 32)) 0) (le-ltb r (rows k) l) ∙ ap (λ b. cond b (bit_at (bucket ws (r / 32)) (r % 32)) 0) (sym (le-ltb r (rows k) l)))
    (cases_lt r (rows k))

pub bit_below : (k : Table) (ws : List ℕ) (r : ℕ) → 0 < bit k ws r → r < rows k
unfolding bit
bit_below k ws r h = ⊎_elim (λ x. x) (λ l. absurd (let e = ap (λ b. cond b (bit_at (bucket ws (r / 32)) (r % 32)) 0) (le-ltb r (rows k) l) in omega arith)) (cases_lt r (rows k))

pub bit_is : (k : Table) (ws : List ℕ) (r : ℕ) → r < rows k → bit k ws r ≡ bit_at (bucket ws (r / 32)) (r % 32)
unfolding bit
bit_is k ws r l = ap (λ b. cond b (bit_at (bucket ws (r / 32)) (r % 32)) 0) (lt-ltb r (rows k) l)

pub live_below : (k : Table) (ws : List ℕ) (r : ℕ) → length ws ≡ size k → 0 < state (control k ws r) → r < rows k
live_below k ws r z h = ⊎_elim (λ x. x) (λ x. absurd (let p = get_or_past ws (row_word k r 0) 0 (omega arith) in omega arith)) (cases_lt r (rows k))

-- ---- names by words
pub ref_same : (k : Table) (ws xs : List ℕ) (U V : ℕ → ℕ) (r q : ℕ) → control k xs q ≡ control k ws q → child k xs q ≡ child k ws q → V q ≡ U q → ref k xs V r q ≡ ref k ws U r q
unfolding ref
ref_same k ws xs U V r q c d u i = cond (eqb (state (c i)) Live) (children (d i) r) (cond (eqb (u i) 0) 0 (children (d i) r))

pub ref_live : (k : Table) (ws : List ℕ) (U : ℕ → ℕ) (r q : ℕ) → state (control k ws q) ≡ Live → ref k ws U r q ≡ children (child k ws q) r
unfolding ref
ref_live k ws U r q h = ap (λ b. cond b (children (child k ws q) r) (cond (eqb (U q) 0) 0 (children (child k ws q) r))) (eq-eqb (state (control k ws q)) Live h)

pub ref_none : (k : Table) (ws : List ℕ) (U : ℕ → ℕ) (r q : ℕ) → state (control k ws q) ≢ Live → U q ≡ 0 → ref k ws U r q ≡ 0
unfolding ref
ref_none k ws U r q h u = ap (λ b. cond b (children (child k ws q) r) (cond (eqb (U q) 0) 0 (children (child k ws q) r))) (ne_eqb (state (control k ws q)) Live h) ∙ ap (λ b. cond b 0 (children (child k ws q) r)) (eq-eqb (U q) 0 u)

pub ref_unread : (k : Table) (ws : List ℕ) (U : ℕ → ℕ) (r q : ℕ) → U q ≢ 0 → ref k ws U r q ≡ children (child k ws q) r
unfolding ref
ref_unread k ws U r q u = ⊎_elim
    (λ (h : state (control k ws q) ≡ Live). ap (λ b. cond b (children (child k ws q) r) (cond (eqb (U q) 0) 0 (children (child k ws q) r))) (eq-eqb (state (control k ws q)) Live h))
    (λ h. ap (λ b. cond b (children (child k ws q) r) (cond (eqb (U q) 0) 0 (children (child k ws q) r))) (ne_eqb (state (control k ws q)) Live h) ∙ ap (λ b. cond b 0 (children (child k ws q) r)) (ne_eqb (U q) 0 u))
    (cases_eq (state (control k ws q)) Live)

pub refs_same : (k : Table) (ws xs : List ℕ) (U V : ℕ → ℕ) (r n : ℕ) → ((q : ℕ) → q < n → ref k xs V r q ≡ ref k ws U r q) → refs n k xs V r ≡ refs n k ws U r
refs_same k ws xs U V r zero h = refl
refs_same k ws xs U V r (suc n) h = let a = h n (omega arith) in let b = refs_same k ws xs U V r n (λ q l. h q (omega arith)) in omega arith

-- the sum where one row's term changes
pub refs_at : (k : Table) (ws xs : List ℕ) (U V : ℕ → ℕ) (r o n : ℕ) → ((q : ℕ) → q ≢ o → ref k xs V r q ≡ ref k ws U r q) → o < n → refs n k xs V r + ref k ws U r o ≡ refs n k ws U r + ref k xs V r o
refs_at k ws xs U V r o zero h lt = absurd (omega arith)
refs_at k ws xs U V r o (suc n) h lt = ⊎_elim
    (λ (e : o ≡ n). subst (λ a. (ref k xs V r n + refs n k xs V r) + ref k ws U r a ≡ (ref k ws U r n + refs n k ws U r) + ref k xs V r a) (sym e)
    (let b = refs_same k ws xs U V r n (λ q l. h q (λ f. omega arith)) in omega arith))
    (λ ne. let i = refs_at k ws xs U V r o n h (omega arith) in let s = h n (λ e. ne (sym e)) in omega arith)
    (cases_eq o n)

pub ref_le : (k : Table) (ws : List ℕ) (U : ℕ → ℕ) (r q n : ℕ) → q < n → ref k ws U r q ≤ refs n k ws U r
ref_le k ws U r q zero lt = absurd (omega arith)
ref_le k ws U r q (suc n) lt = ⊎_elim (λ (e : q ≡ n). subst (λ a. ref k ws U r a ≤ ref k ws U r n + refs n k ws U r) (sym e) (omega arith)) (λ ne. let i = ref_le k ws U r q n (omega arith) in omega arith) (cases_eq q n)

pub cached_same : (k : Table) (ws xs : List ℕ) (r n : ℕ) → ((l : ℕ) → l < n → line k xs l ≡ line k ws l) → cached n k xs r ≡ cached n k ws r
cached_same k ws xs r zero h = refl
cached_same k ws xs r (suc n) h = let a : line_names (line k xs n) r ≡ line_names (line k ws n) r = ap (λ x. line_names x r) (h n (omega arith)) in let b = cached_same k ws xs r n (λ l p. h l (omega arith)) in omega arith

pub cached_le : (k : Table) (ws : List ℕ) (r l n : ℕ) → l < n → line_names (line k ws l) r ≤ cached n k ws r
cached_le k ws r l zero lt = absurd (omega arith)
cached_le k ws r l (suc n) lt = ⊎_elim (λ (e : l ≡ n). subst (λ a. line_names (line k ws a) r ≤ line_names (line k ws n) r + cached n k ws r) (sym e) (omega arith)) (λ ne. let i = cached_le k ws r l n (omega arith) in omega arith) (cases_eq l n)

pub line_names_a : (n : ℕ) → line_kind n ≢ Empty → 0 < line_names n (line_a n)
unfolding line_names
line_names_a n h = let o = one_self (line_a n) in subst (λ b. 0 < cond b 0 (one (line_a n) (line_a n) + one (line_b n) (line_a n) + cond (eqb (line_kind n) IsTree) (one (line_r n) (line_a n)) 0)) (sym (ne_eqb (line_kind n) Empty h)) (omega arith)

pub line_names_b : (n : ℕ) → line_kind n ≢ Empty → 0 < line_names n (line_b n)
unfolding line_names
line_names_b n h = let o = one_self (line_b n) in subst (λ b. 0 < cond b 0 (one (line_a n) (line_b n) + one (line_b n) (line_b n) + cond (eqb (line_kind n) IsTree) (one (line_r n) (line_b n)) 0)) (sym (ne_eqb (line_kind n) Empty h)) (omega arith)

pub line_names_r : (n : ℕ) → line_kind n ≡ IsTree → 0 < line_names n (line_r n)
unfolding line_names
line_names_r n h = let o = one_self (line_r n) in
    subst (λ b. 0 < cond b 0 (one (line_a n) (line_r n) + one (line_b n) (line_r n) + cond (eqb (line_kind n) IsTree) (one (line_r n) (line_r n)) 0)) (sym (ne_eqb (line_kind n) Empty (λ e. omega (arith, h))))
    (subst (λ b. 0 < one (line_a n) (line_r n) + one (line_b n) (line_r n) + cond b (one (line_r n) (line_r n)) 0) (sym (eq-eqb (line_kind n) IsTree h)) (omega arith))

-- ---- trees
-- the row is Live, and its content is as before
abbrev pub Stays : Table → List ℕ → List ℕ → ℕ → Type 0
Stays k ws xs q = (state (control k xs q) ≡ Live) × ((j : ℕ) → j < 10 → word k xs q (suc j) ≡ word k ws q (suc j))

pub child_stays : (k : Table) (ws xs : List ℕ) (q : ℕ) → ((j : ℕ) → j < 10 → word k xs q (suc j) ≡ word k ws q (suc j)) → child k xs q ≡ child k ws q
child_stays k ws xs q h = h 1 (omega arith)

pub shape_stays : (k : Table) (ws xs : List ℕ) (q : ℕ) → ((j : ℕ) → j < 10 → word k xs q (suc j) ≡ word k ws q (suc j)) → shape_at k xs q ≡ shape_at k ws q
shape_stays k ws xs q h i = record {
  head = h 0 (omega arith) i;
  body = h 2 (omega arith) i ∷ h 3 (omega arith) i ∷ h 4 (omega arith) i ∷ h 5 (omega arith) i ∷ h 6 (omega arith) i ∷ h 7 (omega arith) i ∷ h 8 (omega arith) i ∷ h 9 (omega arith) i ∷ [];
  kids = h 1 (omega arith) i % 4;
}

pub content_stays : (k : Table) (ws xs : List ℕ) (q : ℕ) → ((j : ℕ) → j < 10 → word k xs q (suc j) ≡ word k ws q (suc j)) → content k xs q ≡ content k ws q
content_stays k ws xs q h i = h 0 (omega arith) i ∷ h 1 (omega arith) i ∷ h 2 (omega arith) i ∷ h 3 (omega arith) i ∷ h 4 (omega arith) i ∷ h 5 (omega arith) i ∷ h 6 (omega arith) i ∷ h 7 (omega arith) i ∷ h 8 (omega arith) i ∷ h 9 (omega arith) i ∷ []

pub spells_frame : (k : Table) (ws xs : List ℕ) (N : ℕ → Type 0) → ((q : ℕ) → N q → Stays k ws xs q) → ((q p : ℕ) → N q → 0 < children (child k ws q) p → N p)
    → (t : Tree) (w : ℕ) → ((q : ℕ) → w ≡ suc q → N q) → Spells k ws t w → Spells k xs t w
unfolding Spells
spells_frame k ws xs N stay down Nil w n h = h
spells_frame k ws xs N stay down (Node s a b) w n h =
    let q : ℕ = h.0 in let t = stay q (n q h.1) in let e = child_stays k ws xs q t.1 in (
      q,
      h.1,
      t.0,
      h.3 ∙ sym (shape_stays k ws xs q t.1),
      subst (λ x. Spells k xs a (left x)) (sym e) (spells_frame k ws xs N stay down a (left (child k ws q)) (λ p f. down q p (n q h.1) (children_left (child k ws q) p f)) h.4),
      subst (λ x. Spells k xs b (right x)) (sym e) (spells_frame k ws xs N stay down b (right (child k ws q)) (λ p f. down q p (n q h.1) (children_right (child k ws q) p f)) h.5),
      subst Proper (sym e) h.6,
    )

pub spells_live : (k : Table) (ws : List ℕ) (t : Tree) (q : ℕ) → Spells k ws t (suc q) → state (control k ws q) ≡ Live
unfolding Spells
spells_live k ws Nil q h = absurd (omega arith)
spells_live k ws (Node s a b) q h = let e : q ≡ h.0 = let f = h.1 in omega arith in subst (λ a. state (control k ws a) ≡ Live) (sym e) h.2

-- where equal contents are one row, rows that spell equal trees are one row
pub spells_unique : (k : Table) (ws : List ℕ) (P : ℕ → Type 0) → ((q p : ℕ) → P q → P p → state (control k ws q) ≡ Live → state (control k ws p) ≡ Live → Proper (child k ws q) → Proper (child k ws p) → shape_at k ws q ≡ shape_at k ws p → left (child k ws q) ≡ left (child k ws p) → right (child k ws q) ≡ right (child k ws p) → q ≡ p)
    → ((q p : ℕ) → P q → state (control k ws q) ≡ Live → 0 < children (child k ws q) p → P p)
    → (t : Tree) (w z : ℕ) → ((q : ℕ) → w ≡ suc q → P q) → ((q : ℕ) → z ≡ suc q → P q) → Spells k ws t w → Spells k ws t z → w ≡ z
unfolding Spells
spells_unique k ws P U down Nil w z m n h g = h ∙ sym g
spells_unique k ws P U down (Node s a b) w z m n h g =
    let q : ℕ = h.0 in let p : ℕ = g.0 in let pq = m q h.1 in let pp = n p g.1 in
    h.1 ∙ ap suc (U q p pq pp h.2 g.2 h.6 g.6 (sym h.3 ∙ g.3)
    (spells_unique k ws P U down a (left (child k ws q)) (left (child k ws p)) (λ o e. down q o pq h.2 (children_left (child k ws q) o e)) (λ o e. down p o pp g.2 (children_left (child k ws p) o e)) h.4 g.4)
    (spells_unique k ws P U down b (right (child k ws q)) (right (child k ws p)) (λ o e. down q o pq h.2 (children_right (child k ws q) o e)) (λ o e. down p o pp g.2 (children_right (child k ws p) o e)) h.5 g.5)) ∙ sym g.1

-- one row spells one tree
pub spells_same : (k : Table) (ws : List ℕ) (t u : Tree) (w z : ℕ) → w ≡ z → Spells k ws t w → Spells k ws u z → t ≡ u
unfolding Spells
spells_same k ws Nil Nil w z e h g = refl
spells_same k ws Nil (Node s a b) w z e h g = absurd (let f = g.1 in omega arith)
spells_same k ws (Node s a b) Nil w z e h g = absurd (let f = h.1 in omega arith)
spells_same k ws (Node s a b) (Node t c d) w z e h g =
    let q : h.0 ≡ g.0 = let x = h.1 in let y = g.1 in omega arith in
    let l : a ≡ c = spells_same k ws a c (left (child k ws h.0)) (left (child k ws g.0)) (ap (λ x. left (child k ws x)) q) h.4 g.4 in
    let r : b ≡ d = spells_same k ws b d (right (child k ws h.0)) (right (child k ws g.0)) (ap (λ x. right (child k ws x)) q) h.5 g.5 in
    let m : s ≡ t = h.3 ∙ ap (shape_at k ws) q ∙ sym g.3 in
    λ i. Node (m i) (l i) (r i)

-- ---- a row whose numbers are as before
pub row_same : {n n' b b' f f' w w' c c' d d' m m' o o' : ℕ} → n' ≡ n → b' ≡ b → f' ≡ f → w' ≡ w → c' ≡ c → d' ≡ d → m' ≡ m → o' ≡ o → RowFits n b f w c d m o → RowFits n' b' f' w' c' d' m' o'
row_same {n} {n'} {b} {b'} {f} {f'} {w} {w'} {c} {c'} {d} {d'} {m} {m'} {o} {o'} e0 e1 e2 e3 e4 e5 e6 e7 h = transport n n' b b' f f' w w' c c' d d' m m' o o' (sym e0) (sym e1) (sym e2) (sym e3) (sym e4) (sym e5) (sym e6) (sym e7) h
  where
    transport : (n n' b b' f f' w w' c c' d d' m m' o o' : ℕ) → n ≡ n' → b ≡ b' → f ≡ f' → w ≡ w' → c ≡ c' → d ≡ d' → m ≡ m' → o ≡ o' → RowFits n b f w c d m o → RowFits n' b' f' w' c' d' m' o'
    transport n n' b b' f f' w w' c c' d d' m m' o o' e0 e1 e2 e3 e4 e5 e6 e7 h =
        subst (λ (a : (ℕ × ℕ) × (ℕ × ℕ) × (ℕ × ℕ) × (ℕ × ℕ)). RowFits a.0.0 a.0.1 a.1.0 a.1.1 a.2.0 a.2.1 a.3.0 a.3.1) (λ i. ((e0 i, e1 i), (e2 i, e3 i), (e4 i, e5 i), (e6 i, e7 i))) h

-- ---- a load leaves the words
pub same_words : (ws : List ℕ) (i : ℕ) → i < length ws → set ws i (slice_index ws i) ≡ ws
same_words [] i lt = refl
same_words (x ∷ xs) zero lt = refl
same_words (x ∷ xs) (suc i) lt = ap (λ l. x ∷ l) (same_words xs i (omega arith))

-- ---- what a row's names say, in any state that meets the rule
module _ (k : Table) (s : State ℕ View) (h : Rule k s) where
  abbrev U : ℕ → ℕ
  U q = total (unread q) s.views

  abbrev pub Named : ℕ → Type 0
  Named q = 0 < all_named k s.words s.views q

  pub named_live : (q : ℕ) → Named q → state (control k s.words q) ≡ Live
  named_live q n = (h.rows q).live n

  -- the children of a Live row are named
  pub child_named : (q p : ℕ) → state (control k s.words q) ≡ Live → 0 < children (child k s.words q) p → 0 < named k s.words s.views p
  child_named q p l c = let b = live_below k s.words q h.sized (omega (arith, l)) in let e = ref_live k s.words U p q l in let m = ref_le k s.words U p q (rows k) b in omega arith

  pub down : (q p : ℕ) → Named q → 0 < children (child k s.words q) p → Named p
  down q p n c = let m = child_named q p (named_live q n) c in omega arith

  module _ (id : ℕ) (v : View) (at : get_elem? s.views id ≡ some v) where
    pub firm_named : (q : ℕ) → 0 < firm q v → 0 < named k s.words s.views q
    firm_named q n = let l = le_total (firm q) s.views id v at in omega arith

    pub weak_named : (q : ℕ) → 0 < weak q v → Named q
    weak_named q n = let l = le_total (weak q) s.views id v at in omega arith

    pub held_firm : (i : ℕ) (x : ℕ × Tree) → get_elem? v.holds i ≡ some x → 0 < firm x.0 v
    held_firm i x e = let l = le_total (λ (y : ℕ × Tree). one y.0 x.0) v.holds i x e in let o = one_self x.0 in omega arith

    pub passing_firm : (i : ℕ) (x : ℕ × Tree) → get_elem? v.passing i ≡ some x → 0 < firm x.0 v
    passing_firm i x e = let l = le_total (λ (y : ℕ × Tree). one y.0 x.0) v.passing i x e in let o = one_self x.0 in omega arith

    pub hand_firm : (i : ℕ) (n q : ℕ) → get_elem? v.hand i ≡ some n → 0 < line_names n q → 0 < firm q v
    hand_firm i n q e p = let l = le_total (λ n. line_names n q) v.hand i n e in omega arith

    pub live_view : ViewFits k s.words v
    live_view = h.views id v at

-- ---- what a step has to leave, and then each view keeps
module _ (k : Table) (s : State ℕ View) (h : Rule k s) (xs : List ℕ) (stay : (q : ℕ) → 0 < all_named k s.words s.views q → Stays k s.words xs q) where
  pub spells_stays : (t : Tree) (q : ℕ) → 0 < all_named k s.words s.views q → Spells k s.words t (suc q) → Spells k xs t (suc q)
  spells_stays t q n = spells_frame k s.words xs (λ q. 0 < all_named k s.words s.views q) stay (down k s h) t (suc q) (λ p e. subst (λ a. 0 < all_named k s.words s.views a) (let f : q ≡ p = omega arith in f) n)

  pub right_stays : (n : ℕ) → ((q : ℕ) → 0 < line_names n q → 0 < all_named k s.words s.views q) → Right k s.words n → Right k xs n
  right_stays n named r full = let f = r full in (
    f.0,
    f.1,
    spells_stays f.0 (line_a n) (named (line_a n) (line_names_a n full)) f.2,
    spells_stays f.1 (line_b n) (named (line_b n) (line_names_b n full)) f.3,
    (λ e. let g = f.4 e in (g.0, spells_stays g.0 (line_r n) (named (line_r n) (line_names_r n e)) g.1, g.2)),
    f.5,
    f.6,
  )

  -- a Live row that was Live, with its content as before, unfolds as before
  pub deep_stays : (r : ℕ) → state (control k s.words r) ≡ Live → Stays k s.words xs r → (t : Tree) × Spells k xs t (suc r) × (depth t ≤ 128)
  deep_stays r l here = let d = h.deep r l in (
    d.0,
    spells_frame k s.words xs (λ q. Stays k s.words xs q × (state (control k s.words q) ≡ Live)) (λ q n. n.0)
        (λ q p n c. let m = child_named k s h q p n.1 c in (stay p (omega arith), named_live k s h p (omega arith))) d.0 (suc r) (λ q e. subst (λ a. Stays k s.words xs a × (state (control k s.words a) ≡ Live)) (let f : r ≡ q = omega arith in f) (here, l)) d.1,
    d.2,
  )

  module _ (id : ℕ) (v : View) (at : get_elem? s.views id ≡ some v) where
    pub holds_stay : Spelled k xs v.holds
    holds_stay i x e = let m = firm_named k s h id v at x.0 (held_firm k s h id v at i x e) in spells_stays x.1 x.0 (omega arith) ((h.views id v at).holds i x e)

    pub passing_stay : Spelled k xs v.passing
    passing_stay i x e = let m = firm_named k s h id v at x.0 (passing_firm k s h id v at i x e) in spells_stays x.1 x.0 (omega arith) ((h.views id v at).passing i x e)

    pub hand_stay : All (Right k xs) v.hand
    hand_stay i n e = right_stays n (λ q p. let m = firm_named k s h id v at q (hand_firm k s h id v at i n q e p) in omega arith) ((h.views id v at).hand i n e)

    pub seen_stay : All (λ e. (0 < held v.holds e.0) × (e.1.0 < 10) × (word k xs e.0 (suc e.1.0) ≡ e.1.1)) v.seen
    seen_stay i e p = let f = (h.views id v at).seen i e p in let m = firm_named k s h id v at e.0 (let a = f.0 in omega arith) in (f.0, f.1, (stay e.0 (omega arith)).1 e.1.0 f.1 ∙ f.2)

-- where two views are active, none is alone
pub no_other : (k : Table) (s : State ℕ View) → Rule k s → (id : ℕ) (v : View) → get_elem? s.views id ≡ some v → active v ≡ 1 → (j : ℕ) (u : View) → j ≢ id → get_elem? s.views j ≡ some u → active u ≡ 1 → passes s.words ≢ 1
no_other k s h id v at mine j u ne there theirs e = let l = two_le_total weight s.views j id u v ne there at in let p = h.passes in let a = weighs u theirs in let b = weighs v mine in omega arith
  where
    weighs : (v : View) → active v ≡ 1 → 1 ≤ weight v
    weighs v m = stage_weighs v.stage m
      where
        stage_weighs : (g : Stage) → stage_active g ≡ 1 → 1 ≤ stage_weight g
        stage_weighs Idle e = omega arith
        stage_weighs Granted e = omega arith
        stage_weighs Refused e = omega arith
        stage_weighs Joining e = omega arith
        stage_weighs Spent e = absurd (omega arith)

-- the other views
module _ (k : Table) (s : State ℕ View) (h : Rule k s) (xs : List ℕ) (stay : (q : ℕ) → 0 < all_named k s.words s.views q → Stays k s.words xs q)
    (scan : (x : Scan) → ScanFits k s.words x → ScanFits k xs x) (id : ℕ) (v : View) (at : get_elem? s.views id ≡ some v) (mine : active v ≡ 1)
    (claim : (j : ℕ) (u : View) (i : ℕ) (c : Claim) → j ≢ id → get_elem? s.views j ≡ some u → get_elem? u.claims i ≡ some c → ClaimFits k s.words c → ClaimFits k xs c) where
  pub others_stay : (j : ℕ) (u : View) → j ≢ id → get_elem? s.views j ≡ some u → ViewFits k xs u
  others_stay j u ne there = let f = h.views j u there in record {
    claims = λ i c e. claim j u i c ne there e (f.claims i c e);
    holds = holds_stay k s h xs stay j u there;
    passing = passing_stay k s h xs stay j u there;
    hand = hand_stay k s h xs stay j u there;
    scans = λ i x e. scan x (f.scans i x e);
    seen = seen_stay k s h xs stay j u there;
    about = f.about;
    few = f.few;
    alone = λ a. let g = f.alone a in absurd (no_other k s h id v at mine j u ne there g.0 g.1);
  }

-- a child that is held spells its tree
pub holds_spell : (k : Table) (ws : List ℕ) (v : View) → Spelled k ws v.holds → (w : ℕ) (t : Tree) → Holds v w t → Spells k ws t w
unfolding Spells
holds_spell k ws v h zero t g = subst (λ a. Spells k ws a 0) (sym (g.0 refl)) refl
holds_spell k ws v h (suc q) t g = let e = g.1 q refl in h e.0 (q, t) e.1

-- the subtrees of a row that spells a tree
pub spells_left : (k : Table) (ws : List ℕ) (t : Tree) (q p : ℕ) → Spells k ws t (suc q) → left (child k ws q) ≡ suc p → Spells k ws (kid t 0) (suc p)
unfolding Spells
spells_left k ws Nil q p h e = absurd (let f : suc q ≡ 0 = h in omega arith)
spells_left k ws (Node s a b) q p h e = let f : q ≡ h.0 = let g = h.1 in omega arith in subst (Spells k ws a) (ap (λ x. left (child k ws x)) (sym f) ∙ e) h.4

pub spells_right : (k : Table) (ws : List ℕ) (t : Tree) (q p : ℕ) → Spells k ws t (suc q) → right (child k ws q) ≡ suc p → Spells k ws (kid t 1) (suc p)
unfolding Spells
spells_right k ws Nil q p h e = absurd (let f : suc q ≡ 0 = h in omega arith)
spells_right k ws (Node s a b) q p h e = let f : q ≡ h.0 = let g = h.1 in omega arith in subst (Spells k ws b) (ap (λ x. right (child k ws x)) (sym f) ∙ e) h.5

pub spells_first : (k : Table) (ws : List ℕ) (t : Tree) (q : ℕ) → Spells k ws t (suc q) → Spells k ws (kid t 0) (left (child k ws q))
unfolding Spells
spells_first k ws Nil q h = absurd (let f : suc q ≡ 0 = h in omega arith)
spells_first k ws (Node s a b) q h = let f : q ≡ h.0 = let g = h.1 in omega arith in subst (Spells k ws a) (ap (λ x. left (child k ws x)) (sym f)) h.4

pub spells_second : (k : Table) (ws : List ℕ) (t : Tree) (q : ℕ) → Spells k ws t (suc q) → Spells k ws (kid t 1) (right (child k ws q))
unfolding Spells
spells_second k ws Nil q h = absurd (let f : suc q ≡ 0 = h in omega arith)
spells_second k ws (Node s a b) q h = let f : q ≡ h.0 = let g = h.1 in omega arith in subst (Spells k ws b) (ap (λ x. right (child k ws x)) (sym f)) h.5
