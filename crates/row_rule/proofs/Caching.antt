-- A cache line is swapped.
use Rattle.std.proofs.Common.{◌≡◌, ℕ, zero, suc, ◌+◌, ◌<◌, ◌≤◌, ◌≢◌, List, [], ◌∷◌, ◌++◌, length, set, Bool, true, false, cond, eqb, sym, refl, ap, ◌∙◌, subst, ⊎_elim, arith, get_or-set_other, get_or-set_same, length-set, eq-eqb, ne_eqb}
use mathlib.Core.Option.{some, some-ne-none}
use lib.ListN.{get_elem?}
use Rattle.std.proofs.lemmas.Bool.{cases_eq}
use Rattle.atomic_table.specs.Table.{State}
use Rattle.store_api.specs.Tree.{Tree}
use Rattle.store_api.specs.Bag.{one}
use Rattle.store_api.specs.declared.Found.TheVariants as found
use Rattle.row_rule.specs.Known.{Past}
use Rattle.row_rule.specs.Words.{Table, size, word, row_word, line, line_names, line_kind, line_op, line_a, line_b, line_r, bucket, Empty, IsTree, Yes, No}
use Rattle.row_rule.specs.declared.view.View.{View}
use Rattle.row_rule.specs.Rule.{total, held, claimed, dying, marked, offered, unread, firm, weak, cached, named, all_named, All, Spells, Spelled, Right, ViewFits, active, weight, seats, others, Rule}
use Rattle.row_rule.specs.Changes.{caught, swaps, with_names}
use Rattle.row_rule.proofs.Sums.{total_set, total_append, each_more, each_other}
use Rattle.row_rule.proofs.Frames.{row_same, cached_same, cached_le, right_stays, others_stay, holds_stay, passing_stay, hand_stay, seen_stay, firm_named}
use Rattle.row_rule.proofs.Shapes.{same_total}
use Rattle.row_rule.proofs.Aside.{a_bit, a_stay, a_scan, a_claim, a_refs, a_rule}

pub cached_at : (k : Table) (ws xs : List ℕ) (r o n : ℕ) → ((l : ℕ) → l ≢ o → line k xs l ≡ line k ws l) → o < n → cached n k xs r + line_names (line k ws o) r ≡ cached n k ws r + line_names (line k xs o) r
cached_at k ws xs r o zero h lt = absurd (omega arith)
cached_at k ws xs r o (suc n) h lt = ⊎_elim
    (λ (e : o ≡ n). subst (λ a. (line_names (line k xs n) r + cached n k xs r) + line_names (line k ws a) r ≡ (line_names (line k ws n) r + cached n k ws r) + line_names (line k xs a) r) (sym e)
    (let b = cached_same k ws xs r n (λ l m. h l (λ f. omega arith)) in omega arith))
    (λ ne. let i = cached_at k ws xs r o n h (omega arith) in let s : line_names (line k xs n) r ≡ line_names (line k ws n) r = ap (λ a. line_names a r) (h n (λ e. ne (sym e))) in omega arith)
    (cases_eq o n)

pub empty_names : (n q : ℕ) → line_kind n ≡ Empty → line_names n q ≡ 0
unfolding line_names
empty_names n q e = ap (λ b. cond b 0 (one (line_a n) q + one (line_b n) q + cond (eqb (line_kind n) IsTree) (one (line_r n) q) 0)) (eq-eqb (line_kind n) Empty e)

pub caught_names : (n q : ℕ) (hs : List ℕ) → total (λ x. line_names x q) (caught n hs) ≡ line_names n q + total (λ x. line_names x q) hs
caught_names n q hs = ⊎_elim
    (λ (e : line_kind n ≡ Empty). ap (λ b. total (λ x. line_names x q) (cond b hs (n ∷ hs))) (eq-eqb (line_kind n) Empty e) ∙ (let z = empty_names n q e in omega arith))
    (λ ne. ap (λ b. total (λ x. line_names x q) (cond b hs (n ∷ hs))) (ne_eqb (line_kind n) Empty ne))
    (cases_eq (line_kind n) Empty)

caught_all : (P : ℕ → Type 0) (n : ℕ) (hs : List ℕ) → P n → All P hs → All P (caught n hs)
caught_all P n hs new h = chosen (eqb (line_kind n) Empty)
  where
    chosen : (b : Bool) → All P (cond b hs (n ∷ hs))
    chosen true = h
    chosen false = each_more P n hs new h

module _ (k : Table) (s : State ℕ View) (h : Rule k s) (l n : ℕ) (lt : l < k.lines) where
  abbrev pub ls : List ℕ
  ls = set s.words (1 + k.buckets + l) n

  pub l_long : length ls ≡ size k
  l_long = length-set s.words (1 + k.buckets + l) n ∙ h.sized

  pub l_row : (q j : ℕ) → word k ls q j ≡ word k s.words q j
  l_row q j = get_or-set_other s.words (1 + k.buckets + l) (row_word k q j) n 0 (λ e. omega arith)

  pub l_bucket : (b : ℕ) → b < k.buckets → bucket ls b ≡ bucket s.words b
  l_bucket b m = get_or-set_other s.words (1 + k.buckets + l) (1 + b) n 0 (λ e. omega arith)

  pub l_here : line k ls l ≡ n
  l_here = get_or-set_same s.words (1 + k.buckets + l) n 0 (let z = h.sized in omega arith)

  pub l_else : (o : ℕ) → o ≢ l → line k ls o ≡ line k s.words o
  l_else o ne = get_or-set_other s.words (1 + k.buckets + l) (1 + k.buckets + o) n 0 (λ e. ne (omega arith))

  module _ (id : ℕ) (v : View) (hs gs : List ℕ) (ps qs : List (ℕ × Tree)) (at : get_elem? s.views id ≡ some (with_names hs ps v)) (mine : active v ≡ 1) (p : Past)
      (moves : (q : ℕ) → total (λ x. line_names x q) hs + held ps q ≡ line_names n q + total (λ x. line_names x q) gs + held qs q)
      (fewer_hand : (P : ℕ → Type 0) → All P hs → All P gs) (fewer_passing : (P : ℕ × Tree → Type 0) → All P ps → All P qs)
      (right : Right k s.words n) (room : others (swaps (line k s.words l) gs qs p v) ≤ 1024) where
    abbrev cv : View
    cv = with_names hs ps v

    abbrev cw : View
    cw = swaps (line k s.words l) gs qs p v

    l_named : (q : ℕ) → named k ls (set s.views id cw) q ≡ named k s.words s.views q
    l_named q =
        let a = a_refs k s h ls l_long l_row l_bucket (λ o. total (unread o) (set s.views id cw)) (λ o. same_total (unread o) s.views id cv cw at refl) q in
        let c = cached_at k s.words ls q l k.lines l_else lt in let t = total_set (firm q) s.views id cv cw at in let m = moves q in
        let g = caught_names (line k s.words l) q gs in let y : line_names (line k ls l) q ≡ line_names n q = ap (λ a. line_names a q) l_here in omega arith

    -- the new line's rows are named
    l_new : (q : ℕ) → 0 < line_names n q → 0 < all_named k s.words s.views q
    l_new q x = let m = moves q in let f = firm_named k s h id cv at q (omega arith) in omega arith

    pub swaps_rule : Rule k (record { words = ls; homes = s.homes; views = set s.views id cw })
    swaps_rule = let f = h.views id cv at in
        a_rule k s h ls l_long l_row l_bucket (set s.views id cw)
        (λ q. row_same (l_row q 0) (a_bit k s h ls l_long l_row l_bucket q) (l_named q) (same_total (weak q) s.views id cv cw at refl) (same_total (claimed q) s.views id cv cw at refl) (same_total (dying q) s.views id cv cw at refl)
        (same_total (marked q) s.views id cv cw at refl) (same_total (offered q) s.views id cv cw at refl) (h.rows q))
        (λ o m. ⊎_elim
        (λ (e : o ≡ l). subst (λ a. Right k ls (line k ls a)) (sym e) (subst (Right k ls) (sym l_here) (right_stays k s h ls (a_stay k s h ls l_long l_row l_bucket) n l_new right)))
        (λ ne. subst (Right k ls) (sym (l_else o ne)) (right_stays k s h ls (a_stay k s h ls l_long l_row l_bucket) (line k s.words o) (λ q p. let c = cached_le k s.words q o k.lines m in omega arith) (h.lines o m)))
        (cases_eq o l))
        (get_or-set_other s.words (1 + k.buckets + l) 0 n 0 (λ e. omega arith) ∙ h.passes ∙ sym (same_total weight s.views id cv cw at refl))
        (let t = same_total seats s.views id cv cw at refl in let e = h.seats in omega arith)
        (each_other (ViewFits k ls) s.views id cw (others_stay k s h ls (a_stay k s h ls l_long l_row l_bucket) (a_scan k s h ls l_long l_row l_bucket) id cv at mine (λ j u i c ne e g f. a_claim k s h ls l_long l_row l_bucket c f))
        (record {
          claims = λ i c e. a_claim k s h ls l_long l_row l_bucket c (f.claims i c e);
          holds = holds_stay k s h ls (a_stay k s h ls l_long l_row l_bucket) id cv at;
          passing = fewer_passing (λ x. Spells k ls x.1 (suc x.0)) (passing_stay k s h ls (a_stay k s h ls l_long l_row l_bucket) id cv at);
          hand = caught_all (Right k ls) (line k s.words l) gs
              (right_stays k s h ls (a_stay k s h ls l_long l_row l_bucket) (line k s.words l) (λ q p. let c = cached_le k s.words q l k.lines lt in omega arith) (h.lines l lt))
              (fewer_hand (Right k ls) (hand_stay k s h ls (a_stay k s h ls l_long l_row l_bucket) id cv at));
          scans = λ i x e. a_scan k s h ls l_long l_row l_bucket x (f.scans i x e);
          seen = seen_stay k s h ls (a_stay k s h ls l_long l_row l_bucket) id cv at;
          about = f.about;
          few = let g = f.few in let a = mine in let b = room in (g.0, omega arith);
          alone = λ e. absurd (omega arith);
        }))

-- ---- for an empty line
pub empties_rule : (k : Table) (s : State ℕ View) (h : Rule k s) (l : ℕ) → l < k.lines → (id : ℕ) (v : View) → get_elem? s.views id ≡ some v → active v ≡ 1 → (p : Past)
    → others (swaps (line k s.words l) v.hand v.passing p v) ≤ 1024 → Rule k (record { words = set s.words (1 + k.buckets + l) 0; homes = s.homes; views = set s.views id (swaps (line k s.words l) v.hand v.passing p v) })
empties_rule k s h l lt id v at mine p room =
    swaps_rule k s h l 0 lt id v v.hand v.hand v.passing v.passing at mine p (λ q. let z = empty_names 0 q refl in omega arith) (λ P x. x) (λ P x. x) (λ ne. absurd (ne refl)) room

-- ---- for a line in hand as it is
pub puts_back_rule : (k : Table) (s : State ℕ View) (h : Rule k s) (l n : ℕ) → l < k.lines → (id : ℕ) (v : View) (hs : List ℕ) → get_elem? s.views id ≡ some (with_names (n ∷ hs) v.passing v) → active v ≡ 1 → (p : Past)
    → others (swaps (line k s.words l) hs v.passing p v) ≤ 1024 → Rule k (record { words = set s.words (1 + k.buckets + l) n; homes = s.homes; views = set s.views id (swaps (line k s.words l) hs v.passing p v) })
puts_back_rule k s h l n lt id v hs at mine p room =
    swaps_rule k s h l n lt id v (n ∷ hs) hs v.passing v.passing at mine p (λ q. omega arith) (λ P x i y e. x (suc i) y e) (λ P x. x) ((h.views id (with_names (n ∷ hs) v.passing v) at).hand 0 n refl) room

-- ---- for a line whose rows are passing names: a tree, or a truth
pub notes_rule : (k : Table) (s : State ℕ View) (h : Rule k s) (l n : ℕ) → l < k.lines → (id : ℕ) (v : View) (xs ps : List (ℕ × Tree)) → get_elem? s.views id ≡ some (with_names v.hand (xs ++ ps) v) → active v ≡ 1 → (p : Past)
    → ((q : ℕ) → line_names n q ≡ held xs q) → (Spelled k s.words xs → Right k s.words n)
    → others (swaps (line k s.words l) v.hand ps p v) ≤ 1024 → Rule k (record { words = set s.words (1 + k.buckets + l) n; homes = s.homes; views = set s.views id (swaps (line k s.words l) v.hand ps p v) })
notes_rule k s h l n lt id v xs ps at mine p parts right room =
    swaps_rule k s h l n lt id v v.hand v.hand (xs ++ ps) ps at mine p (λ q. let t = total_append (λ (x : ℕ × Tree). one x.0 q) xs ps in let e = parts q in omega arith) (λ P x. x) (λ P x. tail P xs x)
    (right (head (λ x. Spells k s.words x.1 (suc x.0)) xs ((h.views id (with_names v.hand (xs ++ ps) v) at).passing))) room
  where
    tail : (P : ℕ × Tree → Type 0) (xs : List (ℕ × Tree)) → All P (xs ++ ps) → All P ps
    tail P [] x = x
    tail P (y ∷ ys) x = tail P ys (λ i z e. x (suc i) z e)

    head : (P : ℕ × Tree → Type 0) (xs : List (ℕ × Tree)) → All P (xs ++ ps) → All P xs
    head P [] x = λ i z e. absurd (some-ne-none z (sym e))
    head P (y ∷ ys) x = each_more P y ys (x 0 y refl) (head P ys (λ i z e. x (suc i) z e))

pub tree_names : (n q : ℕ) → line_kind n ≡ IsTree → line_names n q ≡ one (line_a n) q + one (line_b n) q + one (line_r n) q
unfolding line_names
tree_names n q e = ap (λ b. cond b 0 (one (line_a n) q + one (line_b n) q + cond (eqb (line_kind n) IsTree) (one (line_r n) q) 0)) (ne_eqb (line_kind n) Empty (λ f. omega (arith, e))) ∙ ap (λ b. one (line_a n) q + one (line_b n) q + cond b (one (line_r n) q) 0) (eq-eqb (line_kind n) IsTree e)

pub truth_names : (n q : ℕ) → 2 ≤ line_kind n → line_names n q ≡ one (line_a n) q + one (line_b n) q
unfolding line_names
truth_names n q e = ap (λ b. cond b 0 (one (line_a n) q + one (line_b n) q + cond (eqb (line_kind n) IsTree) (one (line_r n) q) 0)) (ne_eqb (line_kind n) Empty (λ f. omega (arith, e))) ∙ ap (λ b. one (line_a n) q + one (line_b n) q + cond b (one (line_r n) q) 0) (ne_eqb (line_kind n) IsTree (λ f. omega (arith, e))) ∙ omega arith

pub notes_tree_rule : (k : Table) (s : State ℕ View) (h : Rule k s) (l n : ℕ) → l < k.lines → (id : ℕ) (v : View) (ta tb tr : Tree) (ps : List (ℕ × Tree)) → line_kind n ≡ IsTree
    → get_elem? s.views id ≡ some (with_names v.hand ((line_a n, ta) ∷ (line_b n, tb) ∷ (line_r n, tr) ∷ ps) v) → active v ≡ 1 → (p : Past) → k.related (line_op n) ta tb (found.Tree tr)
    → others (swaps (line k s.words l) v.hand ps p v) ≤ 1024 → Rule k (record { words = set s.words (1 + k.buckets + l) n; homes = s.homes; views = set s.views id (swaps (line k s.words l) v.hand ps p v) })
notes_tree_rule k s h l n lt id v ta tb tr ps kind at mine p related room =
    notes_rule k s h l n lt id v ((line_a n, ta) ∷ (line_b n, tb) ∷ (line_r n, tr) ∷ []) ps at mine p (λ q. let t = tree_names n q kind in omega arith)
    (λ x full. (ta, tb, x 0 (line_a n, ta) refl, x 1 (line_b n, tb) refl, (λ _. (tr, x 2 (line_r n, tr) refl, related)), (λ e. absurd (omega (arith, kind, e))), (λ e. absurd (omega (arith, kind, e))))) room

pub notes_truth_rule : (k : Table) (s : State ℕ View) (h : Rule k s) (l n : ℕ) → l < k.lines → (id : ℕ) (v : View) (ta tb : Tree) (ps : List (ℕ × Tree)) → 2 ≤ line_kind n
    → get_elem? s.views id ≡ some (with_names v.hand ((line_a n, ta) ∷ (line_b n, tb) ∷ ps) v) → active v ≡ 1 → (p : Past) → (line_kind n ≡ Yes → k.related (line_op n) ta tb (found.Truth true)) → (line_kind n ≡ No → k.related (line_op n) ta tb (found.Truth false))
    → others (swaps (line k s.words l) v.hand ps p v) ≤ 1024 → Rule k (record { words = set s.words (1 + k.buckets + l) n; homes = s.homes; views = set s.views id (swaps (line k s.words l) v.hand ps p v) })
notes_truth_rule k s h l n lt id v ta tb ps kind at mine p if_yes if_no room =
    notes_rule k s h l n lt id v ((line_a n, ta) ∷ (line_b n, tb) ∷ []) ps at mine p (λ q. let t = truth_names n q kind in omega arith)
    (λ x full. (ta, tb, x 0 (line_a n, ta) refl, x 1 (line_b n, tb) refl, (λ e. absurd (omega (arith, kind, e))), if_yes, if_no)) room
