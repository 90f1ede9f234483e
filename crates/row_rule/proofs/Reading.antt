-- Steps that leave the words.
use Rattle.std.proofs.Common.{◌≡◌, ℕ, zero, suc, ◌+◌, ◌/◌, ◌<◌, ◌≤◌, ◌≢◌, ◌^◌, List, [], ◌∷◌, length, set, cond, eqb, sym, refl, ap, subst, ⊎_elim, arith, slice_index, length-append, eq-eqb, ne_eqb}
use mathlib.Core.Option.{some, some-ne-none}
use lib.ListN.{get_elem?}
use Rattle.std.proofs.lemmas.Bool.{cases_eq, cases_lt}
use Rattle.atomic_table.specs.Table.{State}
use Rattle.store_api.specs.Tree.{Tree}
use Rattle.store_api.specs.Bag.{one, one_self}
use Rattle.row_rule.specs.Known.{Claim, Scan, Phase, Dying, Marked, Fill, Offered, Past, phase_number}
use Rattle.row_rule.specs.Words.{Table, rows, state, control, child, children, left, right, word, row_word, bucket, passes, bit, Live, Taken}
use Rattle.row_rule.specs.declared.view.View.{View}
use Rattle.row_rule.specs.Rule.{total, count, held, claimed, dying, marked, offered, unread, firm, weak, refs, named, All, Spells, Rows, ClaimFits, ScanFits, active, others, Rule}
use Rattle.row_rule.specs.Changes.{claim, with_claims, with_pins, with_scan, stirred, loads, sees, scans_part, scans_control, scans_taken, begins, confirms, learns, kids_in, row_list, finds_alone}
use Rattle.row_rule.proofs.Sums.{one_else, total_set, total_append, each_more}
use Rattle.row_rule.proofs.Frames.{live_below, ref_same, ref_none, ref_unread, refs_same, refs_at, row_same}
use Rattle.row_rule.proofs.Shapes.{same_total, view_rule, same_rows}
use Rattle.row_rule.proofs.Taken.{unread_le, offered_le, fill_taken, fill_once, fill_offered, dying_taken, dying_unmarked}

module _ (k : Table) (s : State ℕ View) (h : Rule k s) (id : ℕ) (v : View) (at : get_elem? s.views id ≡ some v) (mine : active v ≡ 1) (p : Past) where
  Has : ℕ × ℕ → Type 0
  Has e = slice_index s.words e.0 ≡ e.1

  -- a word more has been loaded
  still_alone : (i : ℕ) → v.alone ≡ 1 → (active v ≡ 1) × (passes s.words ≡ 1) × All (λ e. slice_index s.words e.0 ≡ e.1) ((i, slice_index s.words i) ∷ v.loaded)
  still_alone i a = let g = (h.views id v at).alone a in (g.0, g.1, each_more (λ e. slice_index s.words e.0 ≡ e.1) (i, slice_index s.words i) v.loaded refl g.2)

  pub loads_rule : (i : ℕ) → Rule k (record { words = s.words; homes = s.homes; views = set s.views id (loads i (slice_index s.words i) p v) })
  loads_rule i = let f = h.views id v at in let w : View = loads i (slice_index s.words i) p v in
      view_rule k s h id v at mine w refl refl (same_rows k s h id v at mine w refl refl (λ q. refl) (λ q. refl) (λ q. refl) (λ q. refl) (λ q. refl) (λ q. refl) (λ q. refl)) (record {
        claims = f.claims;
        holds = f.holds;
        passing = f.passing;
        hand = f.hand;
        scans = f.scans;
        seen = f.seen;
        about = f.about;
        few = f.few;
        alone = still_alone i;
      })

  -- a step that changed nothing
  pub stirs_rule : Rule k (record { words = s.words; homes = s.homes; views = set s.views id (stirred p v) })
  stirs_rule = let f = h.views id v at in let w : View = stirred p v in
      view_rule k s h id v at mine w refl refl (same_rows k s h id v at mine w refl refl (λ q. refl) (λ q. refl) (λ q. refl) (λ q. refl) (λ q. refl) (λ q. refl) (λ q. refl)) (record {
        claims = f.claims;
        holds = f.holds;
        passing = f.passing;
        hand = f.hand;
        scans = f.scans;
        seen = f.seen;
        about = f.about;
        few = f.few;
        alone = λ e. absurd (omega arith);
      })

  -- a content word of a row that is held
  pub sees_rule : (r j : ℕ) → 0 < held v.holds r → j < 10 → Rule k (record { words = s.words; homes = s.homes; views = set s.views id (sees r j (word k s.words r (suc j)) (row_word k r (suc j)) p v) })
  sees_rule r j has jl = let f = h.views id v at in let w : View = sees r j (word k s.words r (suc j)) (row_word k r (suc j)) p v in
      view_rule k s h id v at mine w refl refl (same_rows k s h id v at mine w refl refl (λ q. refl) (λ q. refl) (λ q. refl) (λ q. refl) (λ q. refl) (λ q. refl) (λ q. refl)) (record {
        claims = f.claims;
        holds = f.holds;
        passing = f.passing;
        hand = f.hand;
        scans = f.scans;
        seen = each_more (λ e. (0 < held v.holds e.0) × (e.1.0 < 10) × (word k s.words e.0 (suc e.1.0) ≡ e.1.1)) (r, (j, word k s.words r (suc j))) v.seen (has, jl, refl) f.seen;
        about = f.about;
        few = f.few;
        alone = still_alone (row_word k r (suc j));
      })

  -- a scan begins
  pub begins_rule : (b : ℕ) → b < k.buckets → Rule k (record { words = s.words; homes = s.homes; views = set s.views id (begins b (bucket s.words b) (1 + b) p v) })
  begins_rule b lt = let f = h.views id v at in let w : View = begins b (bucket s.words b) (1 + b) p v in
      view_rule k s h id v at mine w refl refl (same_rows k s h id v at mine w refl refl (λ q. refl) (λ q. refl) (λ q. refl) (λ q. refl) (λ q. refl) (λ q. refl) (λ q. refl)) (record {
        claims = f.claims;
        holds = f.holds;
        passing = f.passing;
        hand = f.hand;
        scans = each_more (ScanFits k s.words) (record { bucket = b; word = bucket s.words b; parts = []; taken = []; controls = []; begun = v.holds }) []
            (record { below = lt; older = omega arith; same = λ e. refl; parts = λ i x e. absurd (some-ne-none x (sym e)); taken = λ i x e. absurd (some-ne-none x (sym e)) }) (λ i x e. absurd (some-ne-none x (sym e)));
        seen = f.seen;
        about = f.about;
        few = f.few;
        alone = still_alone (1 + b);
      })

  -- the first word is 1
  pub alone_rule : passes s.words ≡ 1 → Rule k (record { words = s.words; homes = s.homes; views = set s.views id (finds_alone (passes s.words) p v) })
  alone_rule is_one = let f = h.views id v at in let w : View = finds_alone (passes s.words) p v in
      view_rule k s h id v at mine w refl refl (same_rows k s h id v at mine w refl refl (λ q. refl) (λ q. refl) (λ q. refl) (λ q. refl) (λ q. refl) (λ q. refl) (λ q. refl)) (record {
        claims = f.claims;
        holds = f.holds;
        passing = f.passing;
        hand = f.hand;
        scans = f.scans;
        seen = f.seen;
        about = f.about;
        few = f.few;
        alone = λ _. (
          mine,
          is_one,
          each_more (λ e. slice_index s.words e.0 ≡ e.1) (0, passes s.words) (cond (eqb v.alone 1) v.loaded []) refl (⊎_elim
              (λ (e : v.alone ≡ 1). subst (λ b. All (λ e. slice_index s.words e.0 ≡ e.1) (cond b v.loaded [])) (sym (eq-eqb v.alone 1 e)) (f.alone e).2)
              (λ ne. subst (λ b. All (λ e. slice_index s.words e.0 ≡ e.1) (cond b v.loaded [])) (sym (ne_eqb v.alone 1 ne)) (λ i x e. absurd (some-ne-none x (sym e))))
              (cases_eq v.alone 1)),
        );
      })

-- ---- what the scan sees
module _ (k : Table) (s : State ℕ View) (h : Rule k s) (id : ℕ) (v : View) (x : Scan) (at : get_elem? s.views id ≡ some (with_scan x v)) (mine : active v ≡ 1) (p : Past) where
  abbrev xv : View
  xv = with_scan x v

  x_fits : ScanFits k s.words x
  x_fits = (h.views id xv at).scans 0 x refl

  only : (y : Scan) → ScanFits k s.words y → All (ScanFits k s.words) (y ∷ [])
  only y f = each_more (ScanFits k s.words) y [] f (λ i x e. absurd (some-ne-none x (sym e)))

  pub scans_part_rule : (r j : ℕ) → r / 32 ≡ x.bucket → j < 10 → Rule k (record { words = s.words; homes = s.homes; views = set s.views id (scans_part x r j (word k s.words r (suc j)) (row_word k r (suc j)) p v) })
  scans_part_rule r j in_bucket jl = let f = h.views id xv at in let g = x_fits in let w : View = scans_part x r j (word k s.words r (suc j)) (row_word k r (suc j)) p v in
      view_rule k s h id xv at mine w refl refl (same_rows k s h id xv at mine w refl refl (λ q. refl) (λ q. refl) (λ q. refl) (λ q. refl) (λ q. refl) (λ q. refl) (λ q. refl)) (record {
        claims = f.claims;
        holds = f.holds;
        passing = f.passing;
        hand = f.hand;
        scans = only (record x { parts = (r, (j, word k s.words r (suc j))) ∷ x.parts }) (record {
          below = g.below;
          older = g.older;
          same = g.same;
          taken = g.taken;
          parts = each_more (λ e. (e.0 / 32 ≡ x.bucket) × (e.1.0 < 10) × (bucket s.words x.bucket ≡ x.word → bit k s.words e.0 ≡ 1 → word k s.words e.0 (suc e.1.0) ≡ e.1.1)) (r, (j, word k s.words r (suc j))) x.parts (in_bucket, jl, λ a b. refl) g.parts;
        });
        seen = f.seen;
        about = f.about;
        few = f.few;
        alone = still_alone k s h id xv at mine p (row_word k r (suc j));
      })

  pub scans_control_rule : (r : ℕ) → Rule k (record { words = s.words; homes = s.homes; views = set s.views id (scans_control x r (control k s.words r) (row_word k r 0) p v) })
  scans_control_rule r = let f = h.views id xv at in let g = x_fits in let w : View = scans_control x r (control k s.words r) (row_word k r 0) p v in
      view_rule k s h id xv at mine w refl refl (same_rows k s h id xv at mine w refl refl (λ q. refl) (λ q. refl) (λ q. refl) (λ q. refl) (λ q. refl) (λ q. refl) (λ q. refl)) (record {
        claims = f.claims;
        holds = f.holds;
        passing = f.passing;
        hand = f.hand;
        scans = only (record x { controls = (r, control k s.words r) ∷ x.controls }) (record { below = g.below; older = g.older; same = g.same; taken = g.taken; parts = g.parts });
        seen = f.seen;
        about = f.about;
        few = f.few;
        alone = still_alone k s h id xv at mine p (row_word k r 0);
      })

  pub scans_taken_rule : (r : ℕ) → r / 32 ≡ x.bucket → state (control k s.words r) ≡ Taken → Rule k (record { words = s.words; homes = s.homes; views = set s.views id (scans_taken x r (control k s.words r) (row_word k r 0) p v) })
  scans_taken_rule r in_bucket taken = let f = h.views id xv at in let g = x_fits in let w : View = scans_taken x r (control k s.words r) (row_word k r 0) p v in
      view_rule k s h id xv at mine w refl refl (same_rows k s h id xv at mine w refl refl (λ q. refl) (λ q. refl) (λ q. refl) (λ q. refl) (λ q. refl) (λ q. refl) (λ q. refl)) (record {
        claims = f.claims;
        holds = f.holds;
        passing = f.passing;
        hand = f.hand;
        scans = only (record x { controls = (r, control k s.words r) ∷ x.controls; taken = r ∷ x.taken }) (record {
          below = g.below;
          older = g.older;
          same = g.same;
          parts = g.parts;
          taken = each_more (λ q. (q / 32 ≡ x.bucket) × (bucket s.words x.bucket ≡ x.word → bit k s.words q ≡ 1 → state (control k s.words q) ≡ Taken)) r x.taken (in_bucket, λ a b. taken) g.taken;
        });
        seen = f.seen;
        about = f.about;
        few = f.few;
        alone = still_alone k s h id xv at mine p (row_word k r 0);
      })

-- ---- the pin becomes a hold, where the row is in its bucket
module _ (k : Table) (s : State ℕ View) (h : Rule k s) (id : ℕ) (v : View) (r : ℕ) (ps : List ℕ) (at : get_elem? s.views id ≡ some (with_pins (r ∷ ps) v)) (mine : active v ≡ 1) (p : Past) (i : ℕ)
    (on : bit k s.words r ≡ 1) (room : length v.holds < 2 ^ 32) (t : Tree) (spelled : Spells k s.words t (suc r)) where
  abbrev nv : View
  nv = with_pins (r ∷ ps) v

  abbrev nw : View
  nw = confirms r t ps (slice_index s.words i) i p v

  n_rows : Rows k s.words (set s.views id nw)
  n_rows q =
      let f = h.rows q in let a = total_set (firm q) s.views id nv nw at in let b = total_set (weak q) s.views id nv nw at in
      let c = refs_same k s.words s.words (λ o. total (unread o) s.views) (λ o. total (unread o) (set s.views id nw)) q (rows k) (λ o l. ref_same k s.words s.words (λ o. total (unread o) s.views) (λ o. total (unread o) (set s.views id nw)) q o refl refl (same_total (unread o) s.views id nv nw at refl)) in
      let tc = same_total (claimed q) s.views id nv nw at refl in let td = same_total (dying q) s.views id nv nw at refl in let tm = same_total (marked q) s.views id nv nw at refl in let to = same_total (offered q) s.views id nv nw at refl in
      let fs = f.states in let fc = f.counts in let ft = f.taken in let fb = f.bits in let fm = f.marks in
      record {
        states = f.states;
        counts = omega arith;
        live = λ y. f.live (omega arith);
        taken = omega arith;
        bits = omega arith;
        marks = omega arith;
        published = λ y. ⊎_elim (λ (x : r ≡ q). subst (λ a. bit k s.words a ≡ 1) x on) (λ ne. let z = one_else r q ne in f.published (omega arith)) (cases_eq r q);
      }

  pub confirms_rule : Rule k (record { words = s.words; homes = s.homes; views = set s.views id nw })
  confirms_rule = let f = h.views id nv at in
      view_rule k s h id nv at mine nw refl refl n_rows (record {
        claims = f.claims;
        holds = each_more (λ x. Spells k s.words x.1 (suc x.0)) (r, t) v.holds spelled f.holds;
        passing = f.passing;
        hand = f.hand;
        scans = f.scans;
        seen = λ j e g. let x = f.seen j e g in (let a = x.0 in omega arith, x.1, x.2);
        about = f.about;
        few = let g = f.few in let a = mine in let b = room in let c = g.1 in (omega arith, omega arith);
        alone = still_alone k s h id nv at mine p i;
      })

-- ---- the claim in Fill that was begun last reads its row's child word
count_row : (w q : ℕ) → count (row_list w) q ≡ one w (suc q)
count_row zero q = let o = one_else 0 (suc q) (λ e. omega arith) in omega arith
count_row (suc r) q = ⊎_elim (λ (e : r ≡ q). subst (λ a. one r a + 0 ≡ one (suc r) (suc a)) e (let o = one_self r in let z = one_self (suc r) in omega arith))
    (λ ne. let o = one_else r q ne in let z = one_else (suc r) (suc q) (λ e. ne (omega arith)) in omega arith) (cases_eq r q)

pub count_kids : (n q : ℕ) → count (kids_in n) q ≡ children n q
unfolding children
count_kids n q = let t = total_append (λ x. one x q) (row_list (left n)) (row_list (right n)) in let a = count_row (left n) q in let b = count_row (right n) q in omega arith

pub two_kids : (n : ℕ) → length (kids_in n) ≤ 2
two_kids n = let t = length-append (row_list (left n)) (row_list (right n)) in let a = short (left n) in let b = short (right n) in omega arith
  where
    short : (w : ℕ) → length (row_list w) ≤ 1
    short zero = omega arith
    short (suc r) = omega arith

module _ (k : Table) (s : State ℕ View) (h : Rule k s) (id : ℕ) (v : View) (r : ℕ) (ws : List ℕ) (cs : List Claim) (at : get_elem? s.views id ≡ some (with_claims (claim r Fill [] 1 ws ∷ cs) v)) (mine : active v ≡ 1) (p : Past)
    (room : others (with_claims (claim r Fill [] 1 ws ∷ cs) v) + 2 ≤ 1024) where
  abbrev kv : View
  kv = with_claims (claim r Fill [] 1 ws ∷ cs) v

  abbrev kw : View
  kw = learns (claim r Fill (kids_in (child k s.words r)) 0 ws) cs (child k s.words r) (row_word k r 2) p v

  k_taken : state (control k s.words r) ≡ Taken
  k_taken = fill_taken k s h id v r 1 [] ws cs at

  k_below : r < rows k
  k_below = live_below k s.words r h.sized (let t = k_taken in omega arith)

  abbrev KU : ℕ → ℕ
  KU q = total (unread q) s.views

  abbrev KV : ℕ → ℕ
  KV q = total (unread q) (set s.views id kw)

  k_unread : (q : ℕ) → KV q + one r q ≡ KU q
  k_unread q = let t = total_set (unread q) s.views id kv kw at in omega arith

  k_zero : KV r ≡ 0
  k_zero = let e = k_unread r in let o = one_self r in let l = unread_le r s.views in let f = fill_once k s h id v r 1 [] ws cs at in let g = fill_offered k s h id v r 1 [] ws cs at in omega arith

  k_named : (q : ℕ) → named k s.words (set s.views id kw) q ≡ named k s.words s.views q
  k_named q = let t = total_set (firm q) s.views id kv kw at in
      let a = refs_at k s.words s.words KU KV q r (rows k) (λ o ne. ref_same k s.words s.words KU KV q o refl refl (let e = k_unread o in let z = one_else r o (λ e. ne (sym e)) in omega arith)) k_below in
      let b = ref_unread k s.words KU q r (λ e. let f = k_unread r in let o = one_self r in omega arith) in
      let c = ref_none k s.words KV q r (λ e. let t = k_taken in omega arith) k_zero in let d = count_kids (child k s.words r) q in omega arith

  pub learns_rule : Rule k (record { words = s.words; homes = s.homes; views = set s.views id kw })
  learns_rule = let f = h.views id kv at in
      view_rule k s h id kv at mine kw refl refl (λ q. row_same refl refl (k_named q) (same_total (weak q) s.views id kv kw at refl) (same_total (claimed q) s.views id kv kw at refl) (same_total (dying q) s.views id kv kw at refl) (same_total (marked q) s.views id kv kw at refl) (same_total (offered q) s.views id kv kw at refl) (h.rows q)) (record {
        claims = each_more (ClaimFits k s.words) (claim r Fill (kids_in (child k s.words r)) 0 ws) cs
            (let g = f.claims 0 (claim r Fill [] 1 ws) refl in record { kept = g.kept; few = g.few; offer = λ e. absurd (let x : 2 ≡ 3 = ap phase_number e in omega arith) }) (λ i c e. f.claims (suc i) c e);
        holds = f.holds;
        passing = f.passing;
        hand = f.hand;
        scans = f.scans;
        seen = f.seen;
        about = f.about;
        few = let g = f.few in let a = mine in let b = room in let c = two_kids (child k s.words r) in let d = g.1 in (g.0, omega arith);
        alone = still_alone k s h id kv at mine p (row_word k r 2);
      })

-- ---- the claim in Dying that was begun last sees its row's bit
module _ (k : Table) (s : State ℕ View) (h : Rule k s) (id : ℕ) (v : View) (r u i : ℕ) (ks ws : List ℕ) (cs : List Claim) (at : get_elem? s.views id ≡ some (with_claims (claim r Dying ks u ws ∷ cs) v)) (mine : active v ≡ 1) (p : Past) where
  abbrev bv : View
  bv = with_claims (claim r Dying ks u ws ∷ cs) v

  abbrev fw : View
  fw = learns (claim r Fill ks u ws) cs (slice_index s.words i) i p v

  abbrev mw : View
  mw = learns (claim r Marked ks u ws) cs (slice_index s.words i) i p v

  b_refs : (w : View) → ((q : ℕ) → unread q w ≡ unread q bv) → (q : ℕ) → refs (rows k) k s.words (λ o. total (unread o) (set s.views id w)) q ≡ refs (rows k) k s.words (λ o. total (unread o) s.views) q
  b_refs w e q = refs_same k s.words s.words (λ o. total (unread o) s.views) (λ o. total (unread o) (set s.views id w)) q (rows k) (λ o l. ref_same k s.words s.words (λ o. total (unread o) s.views) (λ o. total (unread o) (set s.views id w)) q o refl refl (same_total (unread o) s.views id bv w at (e o)))

  b_claims : (ph : Phase) → ph ≢ Offered → All (ClaimFits k s.words) (claim r ph ks u ws ∷ cs)
  b_claims ph ne = let f = h.views id bv at in each_more (ClaimFits k s.words) (claim r ph ks u ws) cs
      (let g = f.claims 0 (claim r Dying ks u ws) refl in record { kept = g.kept; few = g.few; offer = λ e. absurd (ne e) }) (λ i c e. f.claims (suc i) c e)

  -- the bit is clear
  pub cleared_rule : bit k s.words r ≡ 0 → Rule k (record { words = s.words; homes = s.homes; views = set s.views id fw })
  cleared_rule off = let f = h.views id bv at in
      view_rule k s h id bv at mine fw refl refl
      (λ q. let t = same_total (firm q) s.views id bv fw at refl in let a = b_refs fw (λ o. refl) q in let g = h.rows q in
      let x1 = same_total (weak q) s.views id bv fw at refl in let x2 = same_total (claimed q) s.views id bv fw at refl in let x3 = total_set (dying q) s.views id bv fw at in
      let x4 = same_total (marked q) s.views id bv fw at refl in let x5 = same_total (offered q) s.views id bv fw at refl in
      let gs = g.states in let gc = g.counts in let gt = g.taken in let gb = g.bits in let gm = g.marks in
      record {
        states = g.states;
        counts = omega arith;
        live = λ y. g.live (omega arith);
        taken = omega arith;
        bits = ⊎_elim (λ (x : r ≡ q). subst (λ a. bit k s.words a + total (offered a) (set s.views id fw) ≤ one Live (state (control k s.words a)) + total (dying a) (set s.views id fw)) x
            (let o5 = same_total (offered r) s.views id bv fw at refl in let ow = offered_le r s.views in let gr = h.rows r in let tk = dying_taken k s h id v r u ks ws cs at in
            let nz : total (offered r) s.views ≡ 0 = ⊎_elim (λ (y : 0 < total (offered r) s.views). absurd (let l = gr.live (omega arith) in omega arith)) (λ y. omega arith) (cases_lt 0 (total (offered r) s.views)) in omega arith))
            (λ ne. let z = one_else r q ne in omega arith) (cases_eq r q);
        marks = omega arith;
        published = λ y. g.published (omega arith);
      })
      (record {
        claims = b_claims Fill (λ e. absurd (let x : 2 ≡ 3 = ap phase_number e in omega arith));
        holds = f.holds;
        passing = f.passing;
        hand = f.hand;
        scans = f.scans;
        seen = f.seen;
        about = f.about;
        few = f.few;
        alone = still_alone k s h id bv at mine p i;
      })

  -- the bit is set
  pub marks_rule : bit k s.words r ≡ 1 → Rule k (record { words = s.words; homes = s.homes; views = set s.views id mw })
  marks_rule on = let f = h.views id bv at in
      view_rule k s h id bv at mine mw refl refl
      (λ q. let t = same_total (firm q) s.views id bv mw at refl in let a = b_refs mw (λ o. refl) q in let g = h.rows q in
      let x1 = same_total (weak q) s.views id bv mw at refl in let x2 = same_total (claimed q) s.views id bv mw at refl in let x3 = same_total (dying q) s.views id bv mw at refl in
      let x4 = total_set (marked q) s.views id bv mw at in let x5 = same_total (offered q) s.views id bv mw at refl in
      let gs = g.states in let gc = g.counts in let gt = g.taken in let gb = g.bits in let gm = g.marks in
      record {
        states = g.states;
        counts = omega arith;
        live = λ y. g.live (omega arith);
        taken = omega arith;
        bits = omega arith;
        marks = ⊎_elim (λ (x : r ≡ q). subst (λ a. total (marked a) (set s.views id mw) ≤ bit k s.words a) x
            (let o4 = total_set (marked r) s.views id bv mw at in let um = dying_unmarked k s h id v r u ks ws cs at in let o = one_self r in omega arith))
            (λ ne. let z = one_else r q ne in omega arith) (cases_eq r q);
        published = λ y. g.published (omega arith);
      })
      (record {
        claims = b_claims Marked (λ e. absurd (let x : 1 ≡ 3 = ap phase_number e in omega arith));
        holds = f.holds;
        passing = f.passing;
        hand = f.hand;
        scans = f.scans;
        seen = f.seen;
        about = f.about;
        few = f.few;
        alone = still_alone k s h id bv at mine p i;
      })
