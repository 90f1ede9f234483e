-- A claim that has stored all its words is offered.
use Rattle.std.proofs.Common.{◌≡◌, ℕ, suc, ◌+◌, ◌/◌, ◌<◌, ◌≤◌, List, [], ◌∷◌, length, set, sym, refl, ap, ◌∙◌, subst, ⊎_elim, arith, slice_index}
use mathlib.Core.Option.{some}
use lib.ListN.{get_elem?}
use Rattle.std.proofs.lemmas.Bool.{cases_eq}
use Rattle.atomic_table.specs.Table.{State}
use Rattle.store_api.specs.Tree.{Tree, Node, depth}
use Rattle.store_api.specs.Bag.{one, one_self}
use Rattle.row_rule.specs.Known.{Claim, Fill, Offered, Past}
use Rattle.row_rule.specs.Words.{Table, rows, state, counted, control, child, children, left, right, Proper, bit, bucket_of, shape_at, Live, Taken}
use Rattle.row_rule.specs.declared.view.View.{View}
use Rattle.row_rule.specs.Rule.{total, count, claimed, dying, marked, offered, unread, firm, weak, refs, named, all_named, others, Spells, RowFits, Rows, ClaimFits, active, Rule}
use Rattle.row_rule.specs.Changes.{claim, with_claims, turns, Holds}
use Rattle.row_rule.proofs.Sums.{one_else, total_set, each_more}
use Rattle.row_rule.proofs.Frames.{ref_same, ref_live, ref_none, refs_at, row_same, holds_stay, passing_stay, hand_stay, seen_stay, holds_spell}
use Rattle.row_rule.proofs.Shapes.{same_total, changed, c_here, c_else, c_child, c_bit, c_cached, c_stay, c_scan, c_claim, control_rule}
use Rattle.row_rule.proofs.Taken.{fill_taken, fill_unnamed, fill_once, fill_dying, fill_offered, fill_bit, fill_unread, marked_le}

module _ (k : Table) (s : State ℕ View) (h : Rule k s) (id : ℕ) (v : View) (r : ℕ) (ks ws : List ℕ) (cs : List Claim) (at : get_elem? s.views id ≡ some (with_claims (claim r Fill ks 0 ws ∷ cs) v)) (mine : active v ≡ 1) (p : Past)
    (n : ℕ) (lt : r < rows k) (becomes : state n ≡ Live) (once : counted n ≡ 1)
    (whole : length ws ≡ 10) (place : bucket_of k ws ≡ r / 32) (proper : Proper (slice_index ws 1)) (kids : (q : ℕ) → count ks q ≡ children (slice_index ws 1) q)
    (a b : Tree) (first : Holds v (left (slice_index ws 1)) a) (second : Holds v (right (slice_index ws 1)) b) (low : (depth a < 128) × (depth b < 128))
    (room : others (turns (claim r Offered [] 0 ws) cs p v) ≤ 1024) where
  abbrev ov : View
  ov = with_claims (claim r Fill ks 0 ws ∷ cs) v

  abbrev ow : View
  ow = turns (claim r Offered [] 0 ws) cs p v

  pub o_live : 0 < all_named k s.words s.views r → state n ≡ Live
  o_live m = becomes

  pub o_taken : bit k s.words r ≡ 1 → state (control k s.words r) ≡ Taken → state n ≡ Taken
  o_taken b t = absurd (let z = fill_bit k s h id v r 0 ks ws cs at in omega arith)

  pub o_old : bit k s.words r ≡ 1 → state n ≡ Live → state (control k s.words r) ≡ Live
  o_old b l = absurd (let z = fill_bit k s h id v r 0 ks ws cs at in omega arith)

  abbrev os : List ℕ
  os = changed k s h r n lt o_live o_taken

  o_kept : ClaimFits k s.words (claim r Fill ks 0 ws)
  o_kept = (h.views id ov at).claims 0 (claim r Fill ks 0 ws) refl

  o_child : child k os r ≡ slice_index ws 1
  o_child = c_child k s h r n lt o_live o_taken r ∙ o_kept.kept 1 (omega (arith, whole))

  abbrev OU : ℕ → ℕ
  OU q = total (unread q) s.views

  abbrev OV : ℕ → ℕ
  OV q = total (unread q) (set s.views id ow)

  o_unread : (q : ℕ) → OV q ≡ OU q
  o_unread q = same_total (unread q) s.views id ov ow at refl

  o_refs : (q : ℕ) → refs (rows k) k os OV q ≡ refs (rows k) k s.words OU q + count ks q
  o_refs q =
      let a = refs_at k s.words os OU OV q r (rows k) (λ o ne. ref_same k s.words os OU OV q o (c_else k s h r n lt o_live o_taken o ne) (c_child k s h r n lt o_live o_taken o) (o_unread o)) lt in
      let b = ref_none k s.words OU q r (λ e. let t = fill_taken k s h id v r 0 ks ws cs at in omega arith) (fill_unread k s h id v r 0 ks ws cs at refl) in
      let c = ref_live k os OV q r (ap state (c_here k s h r n lt o_live o_taken) ∙ becomes) ∙ ap (λ a. children a q) o_child in let d = kids q in omega arith

  o_named : (q : ℕ) → named k os (set s.views id ow) q ≡ named k s.words s.views q
  o_named q = let t = total_set (firm q) s.views id ov ow at in let a = o_refs q in let c = c_cached k s h r n lt o_live o_taken q in omega arith

  o_rows : Rows k os (set s.views id ow)
  o_rows q =
      let f = h.rows q in let m = o_named q in
      let a = total_set (weak q) s.views id ov ow at in let b = total_set (claimed q) s.views id ov ow at in let c = total_set (dying q) s.views id ov ow at in
      let d = total_set (marked q) s.views id ov ow at in let e = total_set (offered q) s.views id ov ow at in
      ⊎_elim
      (λ (x : q ≡ r). subst (λ q. RowFits (control k os q) (bit k os q) (named k os (set s.views id ow) q) (total (weak q) (set s.views id ow)) (total (claimed q) (set s.views id ow)) (total (dying q) (set s.views id ow)) (total (marked q) (set s.views id ow)) (total (offered q) (set s.views id ow))) (sym x) here)
      (λ ne. let o = one_else r q (λ e. ne (sym e)) in row_same (c_else k s h r n lt o_live o_taken q ne) (c_bit k s h r n lt o_live o_taken q) m (omega arith) (omega arith) (omega arith) (omega arith) (omega arith) f)
      (cases_eq q r)
    where
      here : RowFits (control k os r) (bit k os r) (named k os (set s.views id ow) r) (total (weak r) (set s.views id ow)) (total (claimed r) (set s.views id ow)) (total (dying r) (set s.views id ow)) (total (marked r) (set s.views id ow)) (total (offered r) (set s.views id ow))
      here =
          let m = o_named r in let b1 = c_bit k s h r n lt o_live o_taken r in let n1 = c_here k s h r n lt o_live o_taken in
          let a = total_set (weak r) s.views id ov ow at in let b = total_set (claimed r) s.views id ov ow at in let c = total_set (dying r) s.views id ov ow at in
          let d = total_set (marked r) s.views id ov ow at in let e = total_set (offered r) s.views id ov ow at in
          let o : one r r ≡ 1 = one_self r in let un = fill_unnamed k s h id v r 0 ks ws cs at in
          let f1 = fill_once k s h id v r 0 ks ws cs at in let f2 = fill_dying k s h id v r 0 ks ws cs at in let f3 = fill_offered k s h id v r 0 ks ws cs at in let f4 = fill_bit k s h id v r 0 ks ws cs at in
          let ml = marked_le r s.views in let nl = becomes in let nc = once in
          let tk : one Taken (state (control k os r)) ≡ 0 = one_else Taken (state (control k os r)) (λ e. omega (arith, n1, nl)) in
          let lv : one Live (state (control k os r)) ≡ 1 = ap (one Live) (ap state n1 ∙ nl) ∙ one_self Live in
          record { states = omega arith; counts = omega arith; live = λ y. omega arith; taken = omega arith; bits = omega arith; marks = omega arith; published = λ y. absurd (omega arith) }

  o_tree : (t : Tree) × Spells k os t (suc r) × (depth t ≤ 128)
  unfolding Spells
  o_tree = let g = holds_stay k s h os (c_stay k s h r n lt o_live o_taken) id ov at in (
    Node (shape_at k os r) a b,
    (
      r,
      refl,
      ap state (c_here k s h r n lt o_live o_taken) ∙ becomes,
      refl,
      subst (λ x. Spells k os a (left x)) (sym o_child) (holds_spell k os v g (left (slice_index ws 1)) a first),
      subst (λ x. Spells k os b (right x)) (sym o_child) (holds_spell k os v g (right (slice_index ws 1)) b second),
      subst Proper (sym o_child) proper,
    ),
    omega (arith, low),
  )

  pub offers_rule : Rule k (record { words = os; homes = s.homes; views = set s.views id ow })
  offers_rule = let f = h.views id ov at in
      control_rule k s h id ov at mine ow refl refl r n lt o_live o_taken o_old (λ e. o_tree) o_rows (record {
        claims = each_more (ClaimFits k os) (claim r Offered [] 0 ws) cs
            (let g = c_claim k s h r n lt o_live o_taken (claim r Fill ks 0 ws) o_kept in record { kept = g.kept; few = g.few; offer = λ e. (whole, place, refl, refl) })
            (λ i c e. c_claim k s h r n lt o_live o_taken c (f.claims (suc i) c e));
        holds = holds_stay k s h os (c_stay k s h r n lt o_live o_taken) id ov at;
        passing = passing_stay k s h os (c_stay k s h r n lt o_live o_taken) id ov at;
        hand = hand_stay k s h os (c_stay k s h r n lt o_live o_taken) id ov at;
        scans = λ i x e. c_scan k s h r n lt o_live o_taken x (f.scans i x e);
        seen = seen_stay k s h os (c_stay k s h r n lt o_live o_taken) id ov at;
        about = f.about;
        few = let g = f.few in (g.0, let m = mine in let q = room in omega arith);
        alone = λ e. absurd (omega arith);
      })
