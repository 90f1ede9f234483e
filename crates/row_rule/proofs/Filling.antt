-- A claim in Fill: its row is given up, gets a content word, and is offered.
use Rattle.std.proofs.Common.{◌≡◌, ℕ, suc, ◌+◌, ◌<◌, ◌≤◌, ◌≢◌, List, [], ◌∷◌, ◌++◌, length, set, sym, refl, ap, ◌∙◌, subst, ⊎_elim, arith, slice_index, length-append}
use mathlib.Core.Option.{some}
use lib.ListN.{get_elem?}
use Rattle.std.proofs.lemmas.Bool.{cases_eq, cases_lt}
use Rattle.std.proofs.lemmas.List.{get_or_append_left, get_or_push}
use Rattle.atomic_table.specs.Table.{State}
use Rattle.store_api.specs.Bag.{one, one_self}
use Rattle.row_rule.specs.Known.{Claim, Phase, Dying, Marked, Fill, Offered, Past, phase_number}
use Rattle.row_rule.specs.Words.{Table, rows, state, control, word, bit, Free, Live, Taken}
use Rattle.row_rule.specs.declared.view.View.{View}
use Rattle.row_rule.specs.Rule.{total, claimed, dying, marked, offered, unread, firm, weak, ref, refs, named, all_named, if_taken, if_offered, RowFits, Rows, ClaimFits, active, Rule}
use Rattle.row_rule.specs.Changes.{claim, with_claims, frees, turns}
use Rattle.row_rule.proofs.Sums.{one_else, total_set, le_total, two_le_total, each_more}
use Rattle.row_rule.proofs.Frames.{ref_same, ref_none, refs_at, refs_same, row_same, holds_stay, passing_stay, hand_stay, seen_stay}
use Rattle.row_rule.proofs.Shapes.{same_total, claim_same, part_here, part_other, changed, c_here, c_else, c_child, c_bit, c_cached, c_stay, c_scan, c_claim, control_rule, stored, s_control, s_else, s_bit, s_cached, s_stay, s_scan, content_rule}
use Rattle.row_rule.proofs.Taken.{marked_le, fill_taken, fill_unnamed, fill_count, fill_once, fill_dying, fill_offered, fill_bit, fill_unread, fill_apart}

pub fill_fresh : Fill ≢ Offered
fill_fresh e = absurd (let x : 2 ≡ 3 = ap phase_number e in omega arith)

-- ---- the row is given up
module _ (k : Table) (s : State ℕ View) (h : Rule k s) (id : ℕ) (v : View) (r : ℕ) (ws : List ℕ) (cs : List Claim) (at : get_elem? s.views id ≡ some (with_claims (claim r Fill [] 0 ws ∷ cs) v)) (mine : active v ≡ 1) (p : Past)
    (n : ℕ) (lt : r < rows k) (next : n + 1 ≡ control k s.words r) where
  abbrev gv : View
  gv = with_claims (claim r Fill [] 0 ws ∷ cs) v

  abbrev gw : View
  gw = frees cs p v

  g_next : state n ≡ Free
  g_next = let t = fill_taken k s h id v r 0 [] ws cs at in omega arith

  pub g_live : 0 < all_named k s.words s.views r → state n ≡ Live
  g_live m = absurd (let z = fill_unnamed k s h id v r 0 [] ws cs at in omega arith)

  pub g_taken : bit k s.words r ≡ 1 → state (control k s.words r) ≡ Taken → state n ≡ Taken
  g_taken b t = absurd (let z = fill_bit k s h id v r 0 [] ws cs at in omega arith)

  pub g_old : bit k s.words r ≡ 1 → state n ≡ Live → state (control k s.words r) ≡ Live
  g_old b l = absurd (let z = fill_bit k s h id v r 0 [] ws cs at in omega arith)

  abbrev gs : List ℕ
  gs = changed k s h r n lt g_live g_taken

  abbrev GU : ℕ → ℕ
  GU q = total (unread q) s.views

  abbrev GV : ℕ → ℕ
  GV q = total (unread q) (set s.views id gw)

  g_unread : (q : ℕ) → GV q ≡ GU q
  g_unread q = let t = total_set (unread q) s.views id gv gw at in omega arith

  g_refs : (q : ℕ) → refs (rows k) k gs GV q ≡ refs (rows k) k s.words GU q
  g_refs q =
      let a = refs_at k s.words gs GU GV q r (rows k) (λ o ne. ref_same k s.words gs GU GV q o (c_else k s h r n lt g_live g_taken o ne) (c_child k s h r n lt g_live g_taken o) (g_unread o)) lt in
      let u = fill_unread k s h id v r 0 [] ws cs at refl in
      let b = ref_none k s.words GU q r (λ e. let t = fill_taken k s h id v r 0 [] ws cs at in omega arith) u in
      let c = ref_none k gs GV q r (λ e. let t = c_here k s h r n lt g_live g_taken in let m = g_next in omega arith) (g_unread r ∙ u) in omega arith

  g_named : (q : ℕ) → named k gs (set s.views id gw) q ≡ named k s.words s.views q
  g_named q = let t = total_set (firm q) s.views id gv gw at in let a = g_refs q in let c = c_cached k s h r n lt g_live g_taken q in omega arith

  g_rows : Rows k gs (set s.views id gw)
  g_rows q =
      let f = h.rows q in let m = g_named q in
      let a = total_set (weak q) s.views id gv gw at in let b = total_set (claimed q) s.views id gv gw at in let c = total_set (dying q) s.views id gv gw at in
      let d = total_set (marked q) s.views id gv gw at in let e = total_set (offered q) s.views id gv gw at in
      ⊎_elim
      (λ (x : q ≡ r). subst (λ q. RowFits (control k gs q) (bit k gs q) (named k gs (set s.views id gw) q) (total (weak q) (set s.views id gw)) (total (claimed q) (set s.views id gw)) (total (dying q) (set s.views id gw)) (total (marked q) (set s.views id gw)) (total (offered q) (set s.views id gw))) (sym x) here)
      (λ ne. let o = one_else r q (λ e. ne (sym e)) in row_same (c_else k s h r n lt g_live g_taken q ne) (c_bit k s h r n lt g_live g_taken q) m (omega arith) (omega arith) (omega arith) (omega arith) (omega arith) f)
      (cases_eq q r)
    where
      here : RowFits (control k gs r) (bit k gs r) (named k gs (set s.views id gw) r) (total (weak r) (set s.views id gw)) (total (claimed r) (set s.views id gw)) (total (dying r) (set s.views id gw)) (total (marked r) (set s.views id gw)) (total (offered r) (set s.views id gw))
      here =
          let m = g_named r in let b1 = c_bit k s h r n lt g_live g_taken r in let n1 = c_here k s h r n lt g_live g_taken in
          let a = total_set (weak r) s.views id gv gw at in let b = total_set (claimed r) s.views id gv gw at in let c = total_set (dying r) s.views id gv gw at in
          let d = total_set (marked r) s.views id gv gw at in let e = total_set (offered r) s.views id gv gw at in
          let o : one r r ≡ 1 = one_self r in let t = fill_taken k s h id v r 0 [] ws cs at in let un = fill_unnamed k s h id v r 0 [] ws cs at in let ct = fill_count k s h id v r 0 [] ws cs at in
          let f1 = fill_once k s h id v r 0 [] ws cs at in let f2 = fill_dying k s h id v r 0 [] ws cs at in let f3 = fill_offered k s h id v r 0 [] ws cs at in let f4 = fill_bit k s h id v r 0 [] ws cs at in
          let ml = marked_le r s.views in let nx = next in let gn = g_next in
          let tk : one Taken (state (control k gs r)) ≡ 0 = one_else Taken (state (control k gs r)) (λ e. omega (arith, n1, gn)) in
          record { states = omega arith; counts = omega arith; live = λ y. absurd (omega arith); taken = omega arith; bits = omega arith; marks = omega arith; published = λ y. absurd (omega arith) }

  pub frees_rule : Rule k (record { words = gs; homes = s.homes; views = set s.views id gw })
  frees_rule = let f = h.views id gv at in
      control_rule k s h id gv at mine gw refl refl r n lt g_live g_taken g_old (λ e. absurd (let g = g_next in omega arith)) g_rows (record {
        claims = λ i c e. c_claim k s h r n lt g_live g_taken c (f.claims (suc i) c e);
        holds = holds_stay k s h gs (c_stay k s h r n lt g_live g_taken) id gv at;
        passing = passing_stay k s h gs (c_stay k s h r n lt g_live g_taken) id gv at;
        hand = hand_stay k s h gs (c_stay k s h r n lt g_live g_taken) id gv at;
        scans = λ i x e. c_scan k s h r n lt g_live g_taken x (f.scans i x e);
        seen = seen_stay k s h gs (c_stay k s h r n lt g_live g_taken) id gv at;
        about = f.about;
        few = let g = f.few in (g.0, omega arith);
        alone = λ e. absurd (omega arith);
      })

-- ---- the row gets its next content word
module _ (k : Table) (s : State ℕ View) (h : Rule k s) (id : ℕ) (v : View) (r : ℕ) (ks ws : List ℕ) (cs : List Claim) (at : get_elem? s.views id ≡ some (with_claims (claim r Fill ks 0 ws ∷ cs) v)) (mine : active v ≡ 1) (p : Past)
    (n : ℕ) (lt : r < rows k) (room : length ws < 10) where
  abbrev ev : View
  ev = with_claims (claim r Fill ks 0 ws ∷ cs) v

  abbrev ew : View
  ew = turns (claim r Fill ks 0 (ws ++ n ∷ [])) cs p v

  pub e_none : all_named k s.words s.views r ≡ 0
  e_none = fill_unnamed k s h id v r 0 ks ws cs at

  pub e_off : bit k s.words r ≡ 0
  e_off = fill_bit k s h id v r 0 ks ws cs at

  pub e_quiet : state (control k s.words r) ≢ Live
  e_quiet e = let t = fill_taken k s h id v r 0 ks ws cs at in omega arith

  abbrev es : List ℕ
  es = stored k s h r (length ws) n lt room e_none e_off e_quiet

  abbrev EU : ℕ → ℕ
  EU q = total (unread q) s.views

  abbrev EV : ℕ → ℕ
  EV q = total (unread q) (set s.views id ew)

  e_refs : (q : ℕ) → refs (rows k) k es EV q ≡ refs (rows k) k s.words EU q
  e_refs q =
      let u = fill_unread k s h id v r 0 ks ws cs at refl in
      refs_same k s.words es EU EV q (rows k) (λ o l. ⊎_elim
      (λ (x : o ≡ r). subst (λ o. ref k es EV q o ≡ ref k s.words EU q o) (sym x)
      (ref_none k es EV q r (λ y. e_quiet (ap state (sym (s_control k s h r (length ws) n lt room e_none e_off e_quiet r)) ∙ y)) (same_total (unread r) s.views id ev ew at refl ∙ u) ∙ sym (ref_none k s.words EU q r e_quiet u)))
      (λ ne. ref_same k s.words es EU EV q o (s_control k s h r (length ws) n lt room e_none e_off e_quiet o) (s_else k s h r (length ws) n lt room e_none e_off e_quiet o 1 (omega arith) ne) (same_total (unread o) s.views id ev ew at refl))
      (cases_eq o r))

  e_rows : Rows k es (set s.views id ew)
  e_rows q =
      let t = same_total (firm q) s.views id ev ew at refl in let a = e_refs q in let c = s_cached k s h r (length ws) n lt room e_none e_off e_quiet q in
      row_same (s_control k s h r (length ws) n lt room e_none e_off e_quiet q) (s_bit k s h r (length ws) n lt room e_none e_off e_quiet q) (omega arith) (same_total (weak q) s.views id ev ew at refl)
      (same_total (claimed q) s.views id ev ew at refl) (same_total (dying q) s.views id ev ew at refl) (same_total (marked q) s.views id ev ew at refl) (same_total (offered q) s.views id ev ew at refl) (h.rows q)

  -- a claim on another row keeps its words; a claim on this row there is no other
  e_other : (c : Claim) → c.row ≢ r → ClaimFits k s.words c → ClaimFits k es c
  e_other c ne = claim_same k s.words es c (λ i l. s_else k s h r (length ws) n lt room e_none e_off e_quiet c.row i l ne)

  -- an offered row isn't Taken
  e_apart : (j : ℕ) (u : View) (i : ℕ) (c : Claim) → get_elem? s.views j ≡ some u → get_elem? u.claims i ≡ some c → (if_taken c.phase 1 ≡ 1 → c.row ≢ r) → c.row ≢ r
  e_apart j u i c there e taken same =
      let l = le_total (λ (d : Claim). if_offered d.phase (one d.row r)) u.claims i c e in let m = le_total (offered r) s.views j u there in let z = fill_offered k s h id v r 0 ks ws cs at in
      let o : one c.row r ≡ 1 = ap (λ a. one a r) same ∙ one_self r in
      taken (phased c.phase (one c.row r) o (omega arith)) same
    where
      phased : (ph : Phase) (x : ℕ) → x ≡ 1 → if_offered ph x ≡ 0 → if_taken ph 1 ≡ 1
      phased Dying x a b = refl
      phased Marked x a b = refl
      phased Fill x a b = refl
      phased Offered x a b = absurd (omega arith)

  e_theirs : (j : ℕ) (u : View) (i : ℕ) (c : Claim) → j ≢ id → get_elem? s.views j ≡ some u → get_elem? u.claims i ≡ some c → ClaimFits k s.words c → ClaimFits k es c
  e_theirs j u i c ne there e = e_other c (e_apart j u i c there e (λ t same.
      let l = le_total (λ (d : Claim). if_taken d.phase (one d.row r)) u.claims i c e in let m = two_le_total (claimed r) s.views j id u ev ne there at in let f = fill_once k s h id v r 0 ks ws cs at in let o = one_self r in
      let x : if_taken c.phase (one c.row r) ≡ 1 = ap (λ a. if_taken c.phase a) (ap (λ a. one a r) same ∙ one_self r) ∙ t in omega arith))

  e_new : ClaimFits k es (claim r Fill ks 0 (ws ++ n ∷ []))
  e_new = let f = (h.views id ev at).claims 0 (claim r Fill ks 0 ws) refl in record {
    kept = λ i l. ⊎_elim
        (λ (b : i < length ws). part_other k s.words r (suc (length ws)) n h.sized lt (omega arith) r (suc i) (omega arith) (λ e. omega arith) ∙ f.kept i b ∙ sym (get_or_append_left ws (n ∷ []) 0 i b))
        (λ (b : length ws ≤ i). let e : i ≡ length ws = let m = length-append ws (n ∷ []) in omega arith in
        subst (λ a. word k es r (suc a) ≡ slice_index (ws ++ n ∷ []) a) (sym e) (part_here k s.words r (suc (length ws)) n h.sized lt (omega arith) ∙ sym (get_or_push ws n 0 (length ws) refl)))
        (cases_lt i (length ws));
    few = let m = length-append ws (n ∷ []) in omega arith;
    offer = λ e. absurd (fill_fresh e);
  }

  pub stores_rule : Rule k (record { words = es; homes = s.homes; views = set s.views id ew })
  stores_rule = let f = h.views id ev at in
      content_rule k s h r (length ws) n lt room e_none e_off e_quiet id ev at mine ew refl refl e_rows e_theirs (record {
        claims = each_more (ClaimFits k es) (claim r Fill ks 0 (ws ++ n ∷ [])) cs e_new (λ i c e. e_other c (e_apart id ev (suc i) c at e (λ t. fill_apart k s h id v r 0 ks ws cs at i c e t)) (f.claims (suc i) c e));
        holds = holds_stay k s h es (s_stay k s h r (length ws) n lt room e_none e_off e_quiet) id ev at;
        passing = passing_stay k s h es (s_stay k s h r (length ws) n lt room e_none e_off e_quiet) id ev at;
        hand = hand_stay k s h es (s_stay k s h r (length ws) n lt room e_none e_off e_quiet) id ev at;
        scans = λ i x e. s_scan k s h r (length ws) n lt room e_none e_off e_quiet x (f.scans i x e);
        seen = seen_stay k s h es (s_stay k s h r (length ws) n lt room e_none e_off e_quiet) id ev at;
        about = f.about;
        few = f.few;
        alone = λ e. absurd (omega arith);
      })
