-- The count of a Live row goes up or down with its names.
use Rattle.std.proofs.Common.{◌≡◌, ℕ, suc, ◌+◌, ◌<◌, ◌≤◌, ◌≢◌, ◌^◌, List, [], ◌∷◌, length, set, sym, refl, ap, ◌∙◌, subst, ⊎_elim, arith, length-append}
use mathlib.Core.Option.{some}
use lib.ListN.{get_elem?}
use Rattle.std.proofs.lemmas.Bool.{cases_eq, cases_lt}
use Rattle.atomic_table.specs.Table.{State}
use Rattle.store_api.specs.Tree.{Tree}
use Rattle.store_api.specs.Bag.{one, one_self}
use Rattle.row_rule.specs.Known.{Claim, Fill, Offered, Past}
use Rattle.row_rule.specs.Words.{Table, rows, state, counted, control, children, word, row_word, bit, line_names, Live, Taken}
use Rattle.row_rule.specs.declared.view.View.{View}
use Rattle.row_rule.specs.Rule.{total, held, claimed, dying, marked, offered, unread, firm, weak, ref, refs, named, all_named, All, Spells, Spelled, RowFits, Rows, ClaimFits, ScanFits, ViewFits, active, weight, seats, others, Rule}
use Rattle.row_rule.specs.Changes.{claim, with_claims, with_pins, turns, frees, gains, lends, pinned, gives, returns, unpins, with_hand, opens}
use Rattle.row_rule.proofs.Sums.{one_else, total_set, le_total, each_more, total_append}
use Rattle.row_rule.proofs.Frames.{live_below, ref_same, ref_live, refs_same, row_same, Stays, spells_stays, deep_stays, holds_stay, passing_stay, hand_stay, seen_stay, firm_named, weak_named}
use Rattle.row_rule.proofs.Shapes.{same_total, changed, c_here, c_else, c_child, c_content, c_bit, c_cached, c_stay, c_scan, c_claim, control_rule}
use Rattle.row_rule.proofs.Filling.{fill_fresh}
use Rattle.row_rule.proofs.Holds.{held_without, length_without, all_without, all_forget, all_append}

-- the control word of a Live row r becomes n, which is Live too
module _ (k : Table) (s : State ℕ View) (h : Rule k s) (r n : ℕ) (is_live : state (control k s.words r) ≡ Live) (becomes : state n ≡ Live) where
  pub n_below : r < rows k
  n_below = live_below k s.words r h.sized (omega (arith, is_live))

  pub n_live : 0 < all_named k s.words s.views r → state n ≡ Live
  n_live m = becomes

  pub n_taken : bit k s.words r ≡ 1 → state (control k s.words r) ≡ Taken → state n ≡ Taken
  n_taken b t = absurd (omega (arith, is_live, t))

  abbrev pub ns : List ℕ
  ns = changed k s h r n n_below n_live n_taken

  pub n_stay : (q : ℕ) → 0 < all_named k s.words s.views q → Stays k s.words ns q
  n_stay = c_stay k s h r n n_below n_live n_taken

  module _ (id : ℕ) (v : View) (at : get_elem? s.views id ≡ some v) (mine : active v ≡ 1) (w : View) (weighs : weight w ≡ weight v) (sits : seats w ≡ seats v)
      (moves : counted n + (firm r v + weak r v) ≡ counted (control k s.words r) + (firm r w + weak r w)) (shown : 0 < firm r w → bit k s.words r ≡ 1) (off : offered r w ≤ offered r v)
      (same : (q : ℕ) → q ≢ r → (firm q w ≡ firm q v) × (weak q w ≡ weak q v) × (offered q w ≡ offered q v))
      (rest : (q : ℕ) → (claimed q w ≡ claimed q v) × (dying q w ≡ dying q v) × (marked q w ≡ marked q v) × (unread q w ≡ unread q v)) where
    n_refs : (q : ℕ) → refs (rows k) k ns (λ q. total (unread q) (set s.views id w)) q ≡ refs (rows k) k s.words (λ q. total (unread q) s.views) q
    n_refs q = refs_same k s.words ns (λ q. total (unread q) s.views) (λ q. total (unread q) (set s.views id w)) q (rows k) (λ o l. ⊎_elim
        (λ (x : o ≡ r). subst (λ o. ref k ns (λ q. total (unread q) (set s.views id w)) q o ≡ ref k s.words (λ q. total (unread q) s.views) q o) (sym x)
        (ref_live k ns (λ q. total (unread q) (set s.views id w)) q r (ap state (c_here k s h r n n_below n_live n_taken) ∙ becomes) ∙ ap (λ a. children a q) (c_child k s h r n n_below n_live n_taken r) ∙ sym (ref_live k s.words (λ q. total (unread q) s.views) q r is_live)))
        (λ ne. ref_same k s.words ns (λ q. total (unread q) s.views) (λ q. total (unread q) (set s.views id w)) q o (c_else k s h r n n_below n_live n_taken o ne) (c_child k s h r n n_below n_live n_taken o) (same_total (unread o) s.views id v w at (rest o).3))
        (cases_eq o r))

    n_rows : Rows k ns (set s.views id w)
    n_rows q =
        let t = total_set (firm q) s.views id v w at in let a = n_refs q in let c = c_cached k s h r n n_below n_live n_taken q in
        ⊎_elim
        (λ (x : q ≡ r). subst (λ q. RowFits (control k ns q) (bit k ns q) (named k ns (set s.views id w) q) (total (weak q) (set s.views id w)) (total (claimed q) (set s.views id w)) (total (dying q) (set s.views id w)) (total (marked q) (set s.views id w)) (total (offered q) (set s.views id w))) (sym x) here)
        (λ ne. let e = same q ne in let e0 = e.0 in row_same (c_else k s h r n n_below n_live n_taken q ne) (c_bit k s h r n n_below n_live n_taken q) (omega arith) (same_total (weak q) s.views id v w at e.1)
        (same_total (claimed q) s.views id v w at (rest q).0) (same_total (dying q) s.views id v w at (rest q).1) (same_total (marked q) s.views id v w at (rest q).2) (same_total (offered q) s.views id v w at e.2) (h.rows q))
        (cases_eq q r)
      where
        here : RowFits (control k ns r) (bit k ns r) (named k ns (set s.views id w) r) (total (weak r) (set s.views id w)) (total (claimed r) (set s.views id w)) (total (dying r) (set s.views id w)) (total (marked r) (set s.views id w)) (total (offered r) (set s.views id w))
        here =
            let f = h.rows r in let t = total_set (firm r) s.views id v w at in let a = n_refs r in let c = c_cached k s h r n n_below n_live n_taken r in
            let b1 = c_bit k s h r n n_below n_live n_taken r in let n1 = c_here k s h r n n_below n_live n_taken in
            let tw = total_set (weak r) s.views id v w at in let tc = same_total (claimed r) s.views id v w at (rest r).0 in let td = same_total (dying r) s.views id v w at (rest r).1 in
            let tm = same_total (marked r) s.views id v w at (rest r).2 in let to = total_set (offered r) s.views id v w at in
            let tk : one Taken (state (control k ns r)) ≡ one Taken (state (control k s.words r)) = ap (one Taken) (ap state n1 ∙ becomes ∙ sym is_live) in
            let lv : one Live (state (control k ns r)) ≡ one Live (state (control k s.words r)) = ap (one Live) (ap state n1 ∙ becomes ∙ sym is_live) in
            let fc = f.counts in let ft = f.taken in let fb = f.bits in let fm = f.marks in let bc = becomes in let mv = moves in let of = off in let cn : counted (control k ns r) ≡ counted n = ap counted n1 in let sn : state (control k ns r) ≡ state n = ap state n1 in
            let bv = le_total (firm r) s.views id v at in
            record {
              states = omega arith;
              counts = omega arith;
              live = λ y. omega arith;
              taken = omega arith;
              bits = omega arith;
              marks = omega arith;
              published = λ y. ⊎_elim (λ (x : 0 < firm r w). b1 ∙ shown x) (λ x. b1 ∙ f.published (omega arith)) (cases_lt 0 (firm r w));
            }

    pub count_rule : ViewFits k ns w → Rule k (record { words = ns; homes = s.homes; views = set s.views id w })
    count_rule fits = control_rule k s h id v at mine w weighs sits r n n_below n_live n_taken (λ _ _. is_live)
        (λ e. deep_stays k s h ns n_stay r is_live (ap state (c_here k s h r n n_below n_live n_taken) ∙ becomes, c_content k s h r n n_below n_live n_taken r)) n_rows fits

  -- a pass keeps what it knows, but for what its names and claims are
  module _ (id : ℕ) (v : View) (at : get_elem? s.views id ≡ some v) where
    pub n_claim : (c : Claim) → ClaimFits k s.words c → ClaimFits k ns c
    n_claim c = c_claim k s h r n n_below n_live n_taken c

    pub n_scans : All (ScanFits k ns) v.scans
    n_scans i x e = c_scan k s h r n n_below n_live n_taken x ((h.views id v at).scans i x e)

-- ---- one more hold of a row that is named
module _ (k : Table) (s : State ℕ View) (h : Rule k s) (id : ℕ) (v : View) (at : get_elem? s.views id ≡ some v) (mine : active v ≡ 1) (p : Past) (r n : ℕ)
    (firmly : 0 < named k s.words s.views r) (t : Tree) (spelled : Spells k s.words t (suc r)) (state_stays : state n ≡ state (control k s.words r)) (more : counted n ≡ counted (control k s.words r) + 1) where
  pub m_live : state (control k s.words r) ≡ Live
  m_live = (h.rows r).live (omega (arith, firmly))

  pub m_becomes : state n ≡ Live
  m_becomes = state_stays ∙ m_live

  m_shown : bit k s.words r ≡ 1
  m_shown = (h.rows r).published firmly

  m_new : Spells k (ns k s h r n m_live m_becomes) t (suc r)
  m_new = spells_stays k s h (ns k s h r n m_live m_becomes) (n_stay k s h r n m_live m_becomes) t r (omega (arith, firmly)) spelled

  pub gains_rule : length v.holds < 2 ^ 32 → Rule k (record { words = set s.words (row_word k r 0) n; homes = s.homes; views = set s.views id (gains r t p v) })
  gains_rule room = let f = h.views id v at in let o = one_self r in let mo = more in
      count_rule k s h r n m_live m_becomes id v at mine (gains r t p v) refl refl (omega arith) (λ _. m_shown) (omega arith)
      (λ q ne. let z = one_else r q (λ e. ne (sym e)) in (omega arith, refl, refl)) (λ q. (refl, refl, refl, refl)) (record {
        claims = λ i c e. n_claim k s h r n m_live m_becomes id v at c (f.claims i c e);
        holds = each_more (λ x. Spells k (ns k s h r n m_live m_becomes) x.1 (suc x.0)) (r, t) v.holds m_new (holds_stay k s h (ns k s h r n m_live m_becomes) (n_stay k s h r n m_live m_becomes) id v at);
        passing = passing_stay k s h (ns k s h r n m_live m_becomes) (n_stay k s h r n m_live m_becomes) id v at;
        hand = hand_stay k s h (ns k s h r n m_live m_becomes) (n_stay k s h r n m_live m_becomes) id v at;
        scans = n_scans k s h r n m_live m_becomes id v at;
        seen = λ i e g. let x = seen_stay k s h (ns k s h r n m_live m_becomes) (n_stay k s h r n m_live m_becomes) id v at i e g in (let a = x.0 in omega arith, x.1, x.2);
        about = f.about;
        few = let g = f.few in let a = mine in let b = room in (omega arith, g.1);
        alone = λ e. absurd (omega arith);
      })

  pub lends_rule : others v < 1024 → Rule k (record { words = set s.words (row_word k r 0) n; homes = s.homes; views = set s.views id (lends r t p v) })
  lends_rule room = let f = h.views id v at in let o = one_self r in let mo = more in
      count_rule k s h r n m_live m_becomes id v at mine (lends r t p v) refl refl (omega arith) (λ _. m_shown) (omega arith)
      (λ q ne. let z = one_else r q (λ e. ne (sym e)) in (omega arith, refl, refl)) (λ q. (refl, refl, refl, refl)) (record {
        claims = λ i c e. n_claim k s h r n m_live m_becomes id v at c (f.claims i c e);
        holds = holds_stay k s h (ns k s h r n m_live m_becomes) (n_stay k s h r n m_live m_becomes) id v at;
        passing = each_more (λ x. Spells k (ns k s h r n m_live m_becomes) x.1 (suc x.0)) (r, t) v.passing m_new (passing_stay k s h (ns k s h r n m_live m_becomes) (n_stay k s h r n m_live m_becomes) id v at);
        hand = hand_stay k s h (ns k s h r n m_live m_becomes) (n_stay k s h r n m_live m_becomes) id v at;
        scans = n_scans k s h r n m_live m_becomes id v at;
        seen = seen_stay k s h (ns k s h r n m_live m_becomes) (n_stay k s h r n m_live m_becomes) id v at;
        about = f.about;
        few = let g = f.few in let a = mine in let b = room in (g.0, omega arith);
        alone = λ e. absurd (omega arith);
      })

-- ---- one more child of the claim in Fill that was begun last
module _ (k : Table) (s : State ℕ View) (h : Rule k s) (id : ℕ) (v : View) (o u : ℕ) (ks ws : List ℕ) (cs : List Claim) (at : get_elem? s.views id ≡ some (with_claims (claim o Fill ks u ws ∷ cs) v)) (mine : active v ≡ 1) (p : Past) (r n : ℕ)
    (firmly : 0 < named k s.words s.views r) (state_stays : state n ≡ state (control k s.words r)) (more : counted n ≡ counted (control k s.words r) + 1) where
  abbrev av : View
  av = with_claims (claim o Fill ks u ws ∷ cs) v

  abbrev aw : View
  aw = turns (claim o Fill (r ∷ ks) u ws) cs p v

  pub a_live : state (control k s.words r) ≡ Live
  a_live = (h.rows r).live (omega (arith, firmly))

  pub a_becomes : state n ≡ Live
  a_becomes = state_stays ∙ a_live

  pub adopts_rule : others av < 1024 → Rule k (record { words = set s.words (row_word k r 0) n; homes = s.homes; views = set s.views id aw })
  adopts_rule room = let f = h.views id av at in let i = one_self r in let mo = more in let c0 = f.claims 0 (claim o Fill ks u ws) refl in
      count_rule k s h r n a_live a_becomes id av at mine aw refl refl (omega arith) (λ _. (h.rows r).published firmly) (omega arith)
      (λ q ne. let z = one_else r q (λ e. ne (sym e)) in (omega arith, refl, refl)) (λ q. (refl, refl, refl, refl)) (record {
        claims = each_more (ClaimFits k (ns k s h r n a_live a_becomes)) (claim o Fill (r ∷ ks) u ws) cs
            (let g = n_claim k s h r n a_live a_becomes id av at (claim o Fill ks u ws) c0 in record { kept = g.kept; few = g.few; offer = λ e. absurd (fill_fresh e) })
            (λ i c e. n_claim k s h r n a_live a_becomes id av at c (f.claims (suc i) c e));
        holds = holds_stay k s h (ns k s h r n a_live a_becomes) (n_stay k s h r n a_live a_becomes) id av at;
        passing = passing_stay k s h (ns k s h r n a_live a_becomes) (n_stay k s h r n a_live a_becomes) id av at;
        hand = hand_stay k s h (ns k s h r n a_live a_becomes) (n_stay k s h r n a_live a_becomes) id av at;
        scans = n_scans k s h r n a_live a_becomes id av at;
        seen = seen_stay k s h (ns k s h r n a_live a_becomes) (n_stay k s h r n a_live a_becomes) id av at;
        about = f.about;
        few = let g = f.few in let a = mine in let b = room in (g.0, omega arith);
        alone = λ e. absurd (omega arith);
      })

-- ---- a pin on a Live row
module _ (k : Table) (s : State ℕ View) (h : Rule k s) (id : ℕ) (v : View) (at : get_elem? s.views id ≡ some v) (mine : active v ≡ 1) (p : Past) (r n : ℕ)
    (is_live : state (control k s.words r) ≡ Live) (becomes : state n ≡ Live) (more : counted n ≡ counted (control k s.words r) + 1) where
  pub pins_rule : others v < 1024 → Rule k (record { words = set s.words (row_word k r 0) n; homes = s.homes; views = set s.views id (pinned r p v) })
  pins_rule room = let f = h.views id v at in let i = one_self r in let mo = more in
      count_rule k s h r n is_live becomes id v at mine (pinned r p v) refl refl (omega arith) (λ x. (h.rows r).published (firm_named k s h id v at r x)) (omega arith)
      (λ q ne. let z = one_else r q (λ e. ne (sym e)) in (refl, omega arith, refl)) (λ q. (refl, refl, refl, refl)) (record {
        claims = λ i c e. n_claim k s h r n is_live becomes id v at c (f.claims i c e);
        holds = holds_stay k s h (ns k s h r n is_live becomes) (n_stay k s h r n is_live becomes) id v at;
        passing = passing_stay k s h (ns k s h r n is_live becomes) (n_stay k s h r n is_live becomes) id v at;
        hand = hand_stay k s h (ns k s h r n is_live becomes) (n_stay k s h r n is_live becomes) id v at;
        scans = n_scans k s h r n is_live becomes id v at;
        seen = seen_stay k s h (ns k s h r n is_live becomes) (n_stay k s h r n is_live becomes) id v at;
        about = f.about;
        few = let g = f.few in let a = mine in let b = room in (g.0, omega arith);
        alone = λ e. absurd (omega arith);
      })

-- ---- one name less: a hold, a passing name
module _ (k : Table) (s : State ℕ View) (h : Rule k s) (id : ℕ) (v : View) (at : get_elem? s.views id ≡ some v) (mine : active v ≡ 1) (p : Past) (r n : ℕ)
    (firmly : 0 < firm r v) (state_stays : state n ≡ state (control k s.words r)) (less : counted n + 1 ≡ counted (control k s.words r)) where
  pub l_live : state (control k s.words r) ≡ Live
  l_live = (h.rows r).live (let m = firm_named k s h id v at r firmly in omega arith)

  pub l_becomes : state n ≡ Live
  l_becomes = state_stays ∙ l_live

  l_shown : bit k s.words r ≡ 1
  l_shown = (h.rows r).published (firm_named k s h id v at r firmly)

  pub gives_rule : 0 < held v.holds r → Rule k (record { words = set s.words (row_word k r 0) n; homes = s.homes; views = set s.views id (gives r p v) })
  gives_rule has = let f = h.views id v at in let i = one_self r in let mo = less in let w = held_without r v.holds r has in
      count_rule k s h r n l_live l_becomes id v at mine (gives r p v) refl refl (omega arith) (λ _. l_shown) (omega arith)
      (λ q ne. let z = one_else r q (λ e. ne (sym e)) in let y = held_without r v.holds q has in (omega arith, refl, refl)) (λ q. (refl, refl, refl, refl)) (record {
        claims = λ i c e. n_claim k s h r n l_live l_becomes id v at c (f.claims i c e);
        holds = all_without (λ x. Spells k (ns k s h r n l_live l_becomes) x.1 (suc x.0)) r v.holds (holds_stay k s h (ns k s h r n l_live l_becomes) (n_stay k s h r n l_live l_becomes) id v at);
        passing = passing_stay k s h (ns k s h r n l_live l_becomes) (n_stay k s h r n l_live l_becomes) id v at;
        hand = hand_stay k s h (ns k s h r n l_live l_becomes) (n_stay k s h r n l_live l_becomes) id v at;
        scans = n_scans k s h r n l_live l_becomes id v at;
        seen = λ i e g. let x = all_forget (λ e. (0 < held v.holds e.0) × (e.1.0 < 10) × (word k (ns k s h r n l_live l_becomes) e.0 (suc e.1.0) ≡ e.1.1)) r v.seen (seen_stay k s h (ns k s h r n l_live l_becomes) (n_stay k s h r n l_live l_becomes) id v at) i e g in
            let y = held_without r v.holds e.0 has in let z = one_else r e.0 (λ q. x.1 (sym q)) in let a = x.0.0 in (omega arith, x.0.1, x.0.2);
        about = f.about;
        few = let g = f.few in let a = length_without r v.holds in let b = g.0 in (omega arith, g.1);
        alone = λ e. absurd (omega arith);
      })

  pub returns_rule : 0 < held v.passing r → Rule k (record { words = set s.words (row_word k r 0) n; homes = s.homes; views = set s.views id (returns r p v) })
  returns_rule has = let f = h.views id v at in let i = one_self r in let mo = less in let w = held_without r v.passing r has in
      count_rule k s h r n l_live l_becomes id v at mine (returns r p v) refl refl (omega arith) (λ _. l_shown) (omega arith)
      (λ q ne. let z = one_else r q (λ e. ne (sym e)) in let y = held_without r v.passing q has in (omega arith, refl, refl)) (λ q. (refl, refl, refl, refl)) (record {
        claims = λ i c e. n_claim k s h r n l_live l_becomes id v at c (f.claims i c e);
        holds = holds_stay k s h (ns k s h r n l_live l_becomes) (n_stay k s h r n l_live l_becomes) id v at;
        passing = all_without (λ x. Spells k (ns k s h r n l_live l_becomes) x.1 (suc x.0)) r v.passing (passing_stay k s h (ns k s h r n l_live l_becomes) (n_stay k s h r n l_live l_becomes) id v at);
        hand = hand_stay k s h (ns k s h r n l_live l_becomes) (n_stay k s h r n l_live l_becomes) id v at;
        scans = n_scans k s h r n l_live l_becomes id v at;
        seen = seen_stay k s h (ns k s h r n l_live l_becomes) (n_stay k s h r n l_live l_becomes) id v at;
        about = f.about;
        few = let g = f.few in let a = length_without r v.passing in let b = g.1 in (g.0, omega arith);
        alone = λ e. absurd (omega arith);
      })

-- ---- the pin that was set last goes
module _ (k : Table) (s : State ℕ View) (h : Rule k s) (id : ℕ) (v : View) (r n : ℕ) (ps : List ℕ) (at : get_elem? s.views id ≡ some (with_pins (r ∷ ps) v)) (mine : active v ≡ 1) (p : Past)
    (state_stays : state n ≡ state (control k s.words r)) (less : counted n + 1 ≡ counted (control k s.words r)) where
  abbrev pv : View
  pv = with_pins (r ∷ ps) v

  pub p_live : state (control k s.words r) ≡ Live
  p_live = (h.rows r).live (weak_named k s h id pv at r (let i = one_self r in omega arith))

  pub p_becomes : state n ≡ Live
  p_becomes = state_stays ∙ p_live

  pub unpins_rule : Rule k (record { words = set s.words (row_word k r 0) n; homes = s.homes; views = set s.views id (unpins ps p v) })
  unpins_rule = let f = h.views id pv at in let i = one_self r in let mo = less in
      count_rule k s h r n p_live p_becomes id pv at mine (unpins ps p v) refl refl (omega arith) (λ x. (h.rows r).published (firm_named k s h id pv at r x)) (omega arith)
      (λ q ne. let z = one_else r q (λ e. ne (sym e)) in (refl, omega arith, refl)) (λ q. (refl, refl, refl, refl)) (record {
        claims = λ i c e. n_claim k s h r n p_live p_becomes id pv at c (f.claims i c e);
        holds = holds_stay k s h (ns k s h r n p_live p_becomes) (n_stay k s h r n p_live p_becomes) id pv at;
        passing = passing_stay k s h (ns k s h r n p_live p_becomes) (n_stay k s h r n p_live p_becomes) id pv at;
        hand = hand_stay k s h (ns k s h r n p_live p_becomes) (n_stay k s h r n p_live p_becomes) id pv at;
        scans = n_scans k s h r n p_live p_becomes id pv at;
        seen = seen_stay k s h (ns k s h r n p_live p_becomes) (n_stay k s h r n p_live p_becomes) id pv at;
        about = f.about;
        few = let g = f.few in let b = g.1 in (g.0, omega arith);
        alone = λ e. absurd (omega arith);
      })

-- ---- the offer that was made last goes
module _ (k : Table) (s : State ℕ View) (h : Rule k s) (id : ℕ) (v : View) (r n : ℕ) (ws : List ℕ) (cs : List Claim) (at : get_elem? s.views id ≡ some (with_claims (claim r Offered [] 0 ws ∷ cs) v)) (mine : active v ≡ 1) (p : Past)
    (state_stays : state n ≡ state (control k s.words r)) (less : counted n + 1 ≡ counted (control k s.words r)) where
  abbrev wv : View
  wv = with_claims (claim r Offered [] 0 ws ∷ cs) v

  pub w_live : state (control k s.words r) ≡ Live
  w_live = (h.rows r).live (weak_named k s h id wv at r (let i = one_self r in omega arith))

  pub w_becomes : state n ≡ Live
  w_becomes = state_stays ∙ w_live

  pub withdraws_rule : Rule k (record { words = set s.words (row_word k r 0) n; homes = s.homes; views = set s.views id (frees cs p v) })
  withdraws_rule = let f = h.views id wv at in let i = one_self r in let mo = less in
      count_rule k s h r n w_live w_becomes id wv at mine (frees cs p v) refl refl (omega arith) (λ x. (h.rows r).published (firm_named k s h id wv at r (omega (arith, x)))) (omega arith)
      (λ q ne. let z = one_else r q (λ e. ne (sym e)) in (omega arith, omega arith, omega arith)) (λ q. (omega arith, omega arith, omega arith, omega arith)) (record {
        claims = λ i c e. n_claim k s h r n w_live w_becomes id wv at c (f.claims (suc i) c e);
        holds = holds_stay k s h (ns k s h r n w_live w_becomes) (n_stay k s h r n w_live w_becomes) id wv at;
        passing = passing_stay k s h (ns k s h r n w_live w_becomes) (n_stay k s h r n w_live w_becomes) id wv at;
        hand = hand_stay k s h (ns k s h r n w_live w_becomes) (n_stay k s h r n w_live w_becomes) id wv at;
        scans = n_scans k s h r n w_live w_becomes id wv at;
        seen = seen_stay k s h (ns k s h r n w_live w_becomes) (n_stay k s h r n w_live w_becomes) id wv at;
        about = f.about;
        few = let g = f.few in let b = g.1 in (g.0, omega arith);
        alone = λ e. absurd (omega arith);
      })

-- ---- the child that was counted last by the claim in Fill that was begun last goes
module _ (k : Table) (s : State ℕ View) (h : Rule k s) (id : ℕ) (v : View) (o u r n : ℕ) (ks ws : List ℕ) (cs : List Claim) (at : get_elem? s.views id ≡ some (with_claims (claim o Fill (r ∷ ks) u ws ∷ cs) v)) (mine : active v ≡ 1) (p : Past)
    (state_stays : state n ≡ state (control k s.words r)) (less : counted n + 1 ≡ counted (control k s.words r)) where
  abbrev dv : View
  dv = with_claims (claim o Fill (r ∷ ks) u ws ∷ cs) v

  d_firm : 0 < firm r dv
  d_firm = let i = one_self r in omega arith

  pub d_live : state (control k s.words r) ≡ Live
  d_live = (h.rows r).live (let m = firm_named k s h id dv at r d_firm in omega arith)

  pub d_becomes : state n ≡ Live
  d_becomes = state_stays ∙ d_live

  pub drops_rule : Rule k (record { words = set s.words (row_word k r 0) n; homes = s.homes; views = set s.views id (turns (claim o Fill ks u ws) cs p v) })
  drops_rule = let f = h.views id dv at in let i = one_self r in let mo = less in let c0 = f.claims 0 (claim o Fill (r ∷ ks) u ws) refl in
      count_rule k s h r n d_live d_becomes id dv at mine (turns (claim o Fill ks u ws) cs p v) refl refl (omega arith) (λ _. (h.rows r).published (firm_named k s h id dv at r d_firm)) (omega arith)
      (λ q ne. let z = one_else r q (λ e. ne (sym e)) in (omega arith, refl, refl)) (λ q. (refl, refl, refl, refl)) (record {
        claims = each_more (ClaimFits k (ns k s h r n d_live d_becomes)) (claim o Fill ks u ws) cs
            (let g = n_claim k s h r n d_live d_becomes id dv at (claim o Fill (r ∷ ks) u ws) c0 in record { kept = g.kept; few = g.few; offer = λ e. absurd (fill_fresh e) })
            (λ i c e. n_claim k s h r n d_live d_becomes id dv at c (f.claims (suc i) c e));
        holds = holds_stay k s h (ns k s h r n d_live d_becomes) (n_stay k s h r n d_live d_becomes) id dv at;
        passing = passing_stay k s h (ns k s h r n d_live d_becomes) (n_stay k s h r n d_live d_becomes) id dv at;
        hand = hand_stay k s h (ns k s h r n d_live d_becomes) (n_stay k s h r n d_live d_becomes) id dv at;
        scans = n_scans k s h r n d_live d_becomes id dv at;
        seen = seen_stay k s h (ns k s h r n d_live d_becomes) (n_stay k s h r n d_live d_becomes) id dv at;
        about = f.about;
        few = let g = f.few in let b = g.1 in (g.0, omega arith);
        alone = λ e. absurd (omega arith);
      })

-- ---- a line in hand is opened: its row r is given back, and its other rows are passing names
module _ (k : Table) (s : State ℕ View) (h : Rule k s) (id : ℕ) (v : View) (l r n : ℕ) (hs : List ℕ) (at : get_elem? s.views id ≡ some (with_hand (l ∷ hs) v)) (mine : active v ≡ 1) (p : Past)
    (state_stays : state n ≡ state (control k s.words r)) (less : counted n + 1 ≡ counted (control k s.words r))
    (xs : List (ℕ × Tree)) (parts : (q : ℕ) → line_names l q ≡ one r q + held xs q) (spelled : Spelled k s.words xs) (two : length xs ≤ 2) where
  abbrev hv : View
  hv = with_hand (l ∷ hs) v

  h_firm : 0 < firm r hv
  h_firm = let i = one_self r in let e = parts r in omega arith

  pub h_live : state (control k s.words r) ≡ Live
  h_live = (h.rows r).live (let m = firm_named k s h id hv at r h_firm in omega arith)

  pub h_becomes : state n ≡ Live
  h_becomes = state_stays ∙ h_live

  pub opens_rule : Rule k (record { words = set s.words (row_word k r 0) n; homes = s.homes; views = set s.views id (opens hs xs p v) })
  opens_rule = let f = h.views id hv at in let i = one_self r in let mo = less in let pr = parts r in let ta = total_append (λ (x : ℕ × Tree). one x.0 r) xs v.passing in
      count_rule k s h r n h_live h_becomes id hv at mine (opens hs xs p v) refl refl (omega arith) (λ _. (h.rows r).published (firm_named k s h id hv at r h_firm)) (omega arith)
      (λ q ne. let z = one_else r q (λ e. ne (sym e)) in let pq = parts q in let tq = total_append (λ (x : ℕ × Tree). one x.0 q) xs v.passing in (omega arith, refl, refl)) (λ q. (refl, refl, refl, refl)) (record {
        claims = λ i c e. n_claim k s h r n h_live h_becomes id hv at c (f.claims i c e);
        holds = holds_stay k s h (ns k s h r n h_live h_becomes) (n_stay k s h r n h_live h_becomes) id hv at;
        passing = all_append (λ x. Spells k (ns k s h r n h_live h_becomes) x.1 (suc x.0)) xs v.passing
            (λ i x e. spells_stays k s h (ns k s h r n h_live h_becomes) (n_stay k s h r n h_live h_becomes) x.1 x.0
            (let q = parts x.0 in let y = le_total (λ (z : ℕ × Tree). one z.0 x.0) xs i x e in let o = one_self x.0 in let m = firm_named k s h id hv at x.0 (omega arith) in omega arith) (spelled i x e))
            (passing_stay k s h (ns k s h r n h_live h_becomes) (n_stay k s h r n h_live h_becomes) id hv at);
        hand = λ i x e. hand_stay k s h (ns k s h r n h_live h_becomes) (n_stay k s h r n h_live h_becomes) id hv at (suc i) x e;
        scans = n_scans k s h r n h_live h_becomes id hv at;
        seen = seen_stay k s h (ns k s h r n h_live h_becomes) (n_stay k s h r n h_live h_becomes) id hv at;
        about = f.about;
        few = let g = f.few in let b = g.1 in let la = length-append xs v.passing in let tw = two in (g.0, omega arith);
        alone = λ e. absurd (omega arith);
      })
