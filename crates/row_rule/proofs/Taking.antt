-- A row is taken, and given up.
use Rattle.std.proofs.Common.{◌≡◌, ℕ, ◌+◌, ◌<◌, ◌≤◌, ◌≢◌, List, [], set, eqb, sym, refl, ap, ◌∙◌, subst, ⊎_elim, arith, zero-le}
use mathlib.Core.Option.{some}
use lib.ListN.{get_elem?}
use Rattle.std.proofs.lemmas.Bool.{cases_eq, cases_lt}
use Rattle.atomic_table.specs.Table.{State}
use Rattle.store_api.specs.Bag.{one, one_self}
use Rattle.row_rule.specs.Known.{Phase, Dying, Fill, Offered, Past, phase_number}
use Rattle.row_rule.specs.Words.{Table, rows, state, counted, control, children, row_word, bit, Free, Live, Taken}
use Rattle.row_rule.specs.declared.view.View.{View}
use Rattle.row_rule.specs.Rule.{total, claimed, dying, marked, offered, unread, firm, weak, ref, refs, named, all_named, if_taken, if_dying, if_marked, if_offered, RowFits, Rows, ClaimFits, ViewFits, active, Rule}
use Rattle.row_rule.specs.Changes.{claim, takes}
use Rattle.row_rule.proofs.Sums.{one_else, one_le, total_set, each_more}
use Rattle.row_rule.proofs.Frames.{ref_same, ref_live, ref_none, ref_unread, refs_at, row_same, holds_stay, passing_stay, hand_stay, seen_stay}
use Rattle.row_rule.proofs.Shapes.{part_here, part_other, changed, c_here, c_else, c_child, c_bit, c_cached, c_stay, c_scan, c_claim, control_rule}
use Rattle.row_rule.proofs.Taken.{unclaimed, cond_le, dying_le}

-- ---- a row that nothing names becomes Taken
module _ (k : Table) (s : State ℕ View) (h : Rule k s) (id : ℕ) (v : View) (at : get_elem? s.views id ≡ some v) (mine : active v ≡ 1) (p : Past) (r n : ℕ) (lt : r < rows k)
    (none : all_named k s.words s.views r ≡ 0) (not : state (control k s.words r) ≢ Taken) (becomes : state n ≡ Taken) (zero_count : counted n ≡ 0)
    (phase : Phase) (mark : ℕ) (is_taken : (x : ℕ) → if_taken phase x ≡ x) (no_mark : (x : ℕ) → if_marked phase x ≡ 0) (no_offer : (x : ℕ) → if_offered phase x ≡ 0) (fresh : phase ≢ Offered)
    (dies : bit k s.words r ≤ if_dying phase 1) (dying_one : (x : ℕ) → if_dying phase x ≤ x) (other : (q : ℕ) → q ≢ r → if_dying phase (one r q) ≡ 0) where
  abbrev w : View
  w = takes r phase mark p v

  pub takes_live : 0 < all_named k s.words s.views r → state n ≡ Live
  takes_live m = absurd (omega (arith, none))

  pub takes_taken : bit k s.words r ≡ 1 → state (control k s.words r) ≡ Taken → state n ≡ Taken
  takes_taken b t = becomes

  pub takes_old : bit k s.words r ≡ 1 → state n ≡ Live → state (control k s.words r) ≡ Live
  takes_old b l = absurd (omega (arith, becomes))

  abbrev ts : List ℕ
  ts = changed k s h r n lt takes_live takes_taken

  abbrev U : ℕ → ℕ
  U q = total (unread q) s.views

  abbrev V : ℕ → ℕ
  V q = total (unread q) (set s.views id w)

  module _ (same_ref : (q : ℕ) → ref k ts V q r ≡ ref k s.words U q r) where
    t_unread : (q : ℕ) → q ≢ r → V q ≡ U q
    t_unread q ne = let t = total_set (unread q) s.views id v w at in let o = one_else r q (λ e. ne (sym e)) in let z = cond_le (eqb mark 0) (one r q) in omega arith

    t_refs : (q : ℕ) → refs (rows k) k ts V q ≡ refs (rows k) k s.words U q
    t_refs q = let a = refs_at k s.words ts U V q r (rows k) (λ o ne. ref_same k s.words ts U V q o (c_else k s h r n lt takes_live takes_taken o ne) (c_child k s h r n lt takes_live takes_taken o) (t_unread o ne)) lt in let b = same_ref q in omega arith

    t_named : (q : ℕ) → named k ts (set s.views id w) q ≡ named k s.words s.views q
    t_named q = let t = total_set (firm q) s.views id v w at in let a = t_refs q in let c = c_cached k s h r n lt takes_live takes_taken q in omega arith

    t_rows : Rows k ts (set s.views id w)
    t_rows q =
        let f = h.rows q in let m = t_named q in
        let a = total_set (weak q) s.views id v w at in let b = total_set (claimed q) s.views id v w at in let c = total_set (dying q) s.views id v w at in
        let d = total_set (marked q) s.views id v w at in let e = total_set (offered q) s.views id v w at in
        let i = is_taken (one r q) in let j = no_mark (one r q) in let l = no_offer (one r q) in
        ⊎_elim
        (λ (x : q ≡ r). here q x)
        (λ ne. let o = one_else r q (λ e. ne (sym e)) in let y = other q ne in row_same (c_else k s h r n lt takes_live takes_taken q ne) (c_bit k s h r n lt takes_live takes_taken q) m (omega arith) (omega arith) (omega arith) (omega arith) (omega arith) f)
        (cases_eq q r)
      where
        here : (q : ℕ) → q ≡ r → RowFits (control k ts q) (bit k ts q) (named k ts (set s.views id w) q) (total (weak q) (set s.views id w)) (total (claimed q) (set s.views id w)) (total (dying q) (set s.views id w)) (total (marked q) (set s.views id w)) (total (offered q) (set s.views id w))
        here q x = subst (λ q. RowFits (control k ts q) (bit k ts q) (named k ts (set s.views id w) q) (total (weak q) (set s.views id w)) (total (claimed q) (set s.views id w)) (total (dying q) (set s.views id w)) (total (marked q) (set s.views id w)) (total (offered q) (set s.views id w))) (sym x)
            (let f = h.rows r in let m = t_named r in let b1 = c_bit k s h r n lt takes_live takes_taken r in let n1 = c_here k s h r n lt takes_live takes_taken in
            let a = total_set (weak r) s.views id v w at in let b = total_set (claimed r) s.views id v w at in let c = total_set (dying r) s.views id v w at in
            let d = total_set (marked r) s.views id v w at in let e = total_set (offered r) s.views id v w at in
            let i = is_taken (one r r) in let j = no_mark (one r r) in let l = no_offer (one r r) in
            let o : one r r ≡ 1 = one_self r in let uc = unclaimed k s h r none not in
            let dd : if_dying phase (one r r) ≡ if_dying phase 1 = ap (if_dying phase) o in
            let lv : one Live (state (control k ts r)) ≡ 0 = one_else Live (state (control k ts r)) (λ e. omega (arith, n1, becomes)) in
            let tk : one Taken (state (control k ts r)) ≡ 1 = ap (one Taken) (ap state n1 ∙ becomes) ∙ one_self Taken in
            let u0 = uc.0 in let u1 = uc.1 in
            let z = becomes in let zc = zero_count in let nn = none in let ds = dies in
            let fm = f.marks in let fb = f.bits in let fp = f.published in let fc = f.counts in let dl = dying_le r s.views in
            record { states = omega arith; counts = omega arith; live = λ y. absurd (omega arith); taken = omega arith; bits = omega arith; marks = omega arith; published = λ y. absurd (omega arith) })

    t_fits : ViewFits k ts w
    t_fits = let f = h.views id v at in record {
      claims = each_more (ClaimFits k ts) (claim r phase [] mark []) v.claims (record { kept = λ j l. absurd (omega arith); few = zero-le; offer = λ e. absurd (fresh e) }) (λ i c e. c_claim k s h r n lt takes_live takes_taken c (f.claims i c e));
      holds = holds_stay k s h ts (c_stay k s h r n lt takes_live takes_taken) id v at;
      passing = passing_stay k s h ts (c_stay k s h r n lt takes_live takes_taken) id v at;
      hand = hand_stay k s h ts (c_stay k s h r n lt takes_live takes_taken) id v at;
      scans = λ i x e. c_scan k s h r n lt takes_live takes_taken x (f.scans i x e);
      seen = seen_stay k s h ts (c_stay k s h r n lt takes_live takes_taken) id v at;
      about = f.about;
      few = let g = f.few in let l = no_offer 1 in (g.0, omega arith);
      alone = λ e. absurd (omega arith);
    }

    pub takes_rule : Rule k (record { words = ts; homes = s.homes; views = set s.views id w })
    takes_rule = control_rule k s h id v at mine w refl refl r n lt takes_live takes_taken takes_old (λ e. absurd (omega (arith, becomes))) t_rows t_fits

-- a Free row
module _ (k : Table) (s : State ℕ View) (h : Rule k s) (id : ℕ) (v : View) (at : get_elem? s.views id ≡ some v) (mine : active v ≡ 1) (p : Past) (r n : ℕ) (lt : r < rows k)
    (free : state (control k s.words r) ≡ Free) (next : n ≡ control k s.words r + 1) where
  free_none : all_named k s.words s.views r ≡ 0
  free_none = ⊎_elim (λ (p : 0 < all_named k s.words s.views r). absurd (let l = (h.rows r).live p in omega (arith, free))) (λ p. omega arith) (cases_lt 0 (all_named k s.words s.views r))

  free_not : state (control k s.words r) ≢ Taken
  free_not e = omega (arith, free)

  free_next : state n ≡ Taken
  free_next = omega (arith, free, next)

  free_count : counted n ≡ 0
  free_count = let c = (h.rows r).counts in let z = free_none in omega (arith, free, next)

  free_dies : bit k s.words r ≤ if_dying Fill 1
  free_dies = let b = (h.rows r).bits in let d = dying_le r s.views in let u = (unclaimed k s h r free_none free_not).0 in let l = one_else Live (state (control k s.words r)) (λ e. omega (arith, free)) in omega arith

  fresh_fill : Fill ≢ Offered
  fresh_fill e = absurd (let x : 2 ≡ 3 = ap phase_number e in omega arith)

  pub free_rule : Rule k (record { words = set s.words (row_word k r 0) n; homes = s.homes; views = set s.views id (takes r Fill 0 p v) })
  free_rule = takes_rule k s h id v at mine p r n lt free_none free_not free_next free_count Fill 0 (λ x. refl) (λ x. refl) (λ x. refl) fresh_fill free_dies (λ x. zero-le) (λ q ne. refl)
      (λ q. let u = (unclaimed k s h r free_none free_not).2 in let t = total_set (unread r) s.views id v (takes r Fill 0 p v) at in
      ref_none k (set s.words (row_word k r 0) n) (λ q. total (unread q) (set s.views id (takes r Fill 0 p v))) q r (λ e. let c = part_here k s.words r 0 n h.sized lt (omega arith) in omega (arith, free_next, c, e)) (omega arith)
      ∙ sym (ref_none k s.words (λ q. total (unread q) s.views) q r (λ e. omega (arith, free)) u))

-- a Live row with count 0: the claim counts the children that the row's child word names
module _ (k : Table) (s : State ℕ View) (h : Rule k s) (id : ℕ) (v : View) (at : get_elem? s.views id ≡ some v) (mine : active v ≡ 1) (p : Past) (r n : ℕ) (lt : r < rows k)
    (is_live : state (control k s.words r) ≡ Live) (bare : counted (control k s.words r) ≡ 0) (next : n + 1 ≡ control k s.words r) where
  dead_none : all_named k s.words s.views r ≡ 0
  dead_none = let c = (h.rows r).counts in omega (arith, bare)

  dead_not : state (control k s.words r) ≢ Taken
  dead_not e = omega (arith, is_live)

  dead_next : state n ≡ Taken
  dead_next = omega (arith, is_live, next)

  dead_count : counted n ≡ 0
  dead_count = omega (arith, is_live, bare, next)

  dead_dies : bit k s.words r ≤ if_dying Dying 1
  dead_dies = let b = (h.rows r).bits in let d = dying_le r s.views in let u = (unclaimed k s h r dead_none dead_not).0 in let l = one_le Live (state (control k s.words r)) in omega arith

  fresh_dying : Dying ≢ Offered
  fresh_dying e = absurd (let x : 0 ≡ 3 = ap phase_number e in omega arith)

  pub dead_rule : Rule k (record { words = set s.words (row_word k r 0) n; homes = s.homes; views = set s.views id (takes r Dying 1 p v) })
  dead_rule = takes_rule k s h id v at mine p r n lt dead_none dead_not dead_next dead_count Dying 1 (λ x. refl) (λ x. refl) (λ x. refl) fresh_dying dead_dies (λ x. omega arith) (λ q ne. one_else r q (λ e. ne (sym e)))
      (λ q. let t = total_set (unread r) s.views id v (takes r Dying 1 p v) at in let o = one_self r in
      ref_unread k (set s.words (row_word k r 0) n) (λ q. total (unread q) (set s.views id (takes r Dying 1 p v))) q r (λ e. omega arith)
      ∙ ap (λ a. children a q) (part_other k s.words r 0 n h.sized lt (omega arith) r 2 (omega arith) (λ e. omega arith))
      ∙ sym (ref_live k s.words (λ q. total (unread q) s.views) q r is_live))
