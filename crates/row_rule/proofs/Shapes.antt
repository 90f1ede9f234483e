-- The kinds of change of a word, and all of the rule that speaks of words alone.
use Rattle.std.proofs.Common.{◌≡◌, ℕ, suc, ◌+◌, ◌-◌, ◌/◌, ◌<◌, ◌≤◌, ◌≢◌, ◌^◌, List, length, set, sym, refl, ap, ◌∙◌, subst, ⊎_elim, arith, get_or-set_other, get_or-set_same, length-set}
use mathlib.Core.Option.{some}
use lib.ListN.{get_elem?}
use Rattle.std.proofs.lemmas.Bool.{cases_eq}
use Rattle.atomic_table.specs.Table.{State}
use Rattle.store_api.specs.Tree.{Tree, depth}
use Rattle.row_rule.specs.Known.{Claim, Scan}
use Rattle.row_rule.specs.Words.{Table, rows, size, passes, bucket, line, word, row_word, state, control, child, content, version, ways, bit, Live, Taken, bucket_of}
use Rattle.row_rule.specs.declared.view.View.{View}
use Rattle.row_rule.specs.Rule.{total, claimed, dying, marked, offered, unread, firm, weak, cached, all_named, Spells, Right, Rows, ClaimFits, ScanFits, weight, seats, active, ViewFits, Rule}
use Rattle.row_rule.proofs.Sums.{total_set, each_other}
use Rattle.row_rule.proofs.Frames.{bit_same, ref_same, refs_same, cached_same, cached_le, Stays, content_stays, row_same, named_live, right_stays, deep_stays, others_stay}

pub same_total : {A : Type 0} (f : A → ℕ) (vs : List A) (id : ℕ) (v w : A) → get_elem? vs id ≡ some v → f w ≡ f v → total f (set vs id w) ≡ total f vs
same_total f vs id v w at e = let t = total_set f vs id v w at in omega arith

-- a claim keeps its words where they stay
pub claim_same : (k : Table) (ws xs : List ℕ) (c : Claim) → ((j : ℕ) → j < 10 → word k xs c.row (suc j) ≡ word k ws c.row (suc j)) → ClaimFits k ws c → ClaimFits k xs c
claim_same k ws xs c same f = record { kept = λ j l. same j (let m = f.few in omega arith) ∙ f.kept j l; few = f.few; offer = f.offer }

-- ---- a word of the row r
module _ (k : Table) (ws : List ℕ) (r j n : ℕ) (z : length ws ≡ size k) (lt : r < rows k) (jl : j < 11) where
  abbrev rs : List ℕ
  rs = set ws (row_word k r j) n

  pub part_here : word k rs r j ≡ n
  part_here = get_or-set_same ws (row_word k r j) n 0 (omega arith)

  pub part_row : (q i : ℕ) → i < 11 → q ≢ r → word k rs q i ≡ word k ws q i
  part_row q i il ne = get_or-set_other ws (row_word k r j) (row_word k q i) n 0 (λ e. ne (omega arith))

  pub part_other : (q i : ℕ) → i < 11 → i ≢ j → word k rs q i ≡ word k ws q i
  part_other q i il ne = get_or-set_other ws (row_word k r j) (row_word k q i) n 0 (λ e. ne (omega arith))

  pub part_passes : passes rs ≡ passes ws
  part_passes = get_or-set_other ws (row_word k r j) 0 n 0 (λ e. omega arith)

  pub part_bucket : (b : ℕ) → b < k.buckets → bucket rs b ≡ bucket ws b
  part_bucket b l = get_or-set_other ws (row_word k r j) (1 + b) n 0 (λ e. omega arith)

  pub part_line : (l : ℕ) → l < k.lines → line k rs l ≡ line k ws l
  part_line l b = get_or-set_other ws (row_word k r j) (1 + k.buckets + l) n 0 (λ e. omega arith)

  pub part_bit : (q : ℕ) → bit k rs q ≡ bit k ws q
  part_bit q = bit_same k ws rs q (λ l. part_bucket (q / 32) (omega arith))

  pub part_cached : (q : ℕ) → cached k.lines k rs q ≡ cached k.lines k ws q
  part_cached q = cached_same k ws rs q k.lines part_line

-- ---- the control word of the row r becomes n
module _ (k : Table) (s : State ℕ View) (h : Rule k s) (r n : ℕ) (lt : r < rows k)
    (live : 0 < all_named k s.words s.views r → state n ≡ Live) (taken : bit k s.words r ≡ 1 → state (control k s.words r) ≡ Taken → state n ≡ Taken) where
  abbrev pub changed : List ℕ
  changed = set s.words (row_word k r 0) n

  pub c_here : control k changed r ≡ n
  c_here = part_here k s.words r 0 n h.sized lt (omega arith)

  pub c_else : (q : ℕ) → q ≢ r → control k changed q ≡ control k s.words q
  c_else q ne = part_row k s.words r 0 n h.sized lt (omega arith) q 0 (omega arith) ne

  pub c_content : (q j : ℕ) → j < 10 → word k changed q (suc j) ≡ word k s.words q (suc j)
  c_content q j l = part_other k s.words r 0 n h.sized lt (omega arith) q (suc j) (omega arith) (λ e. omega arith)

  pub c_child : (q : ℕ) → child k changed q ≡ child k s.words q
  c_child q = c_content q 1 (omega arith)

  pub c_bit : (q : ℕ) → bit k changed q ≡ bit k s.words q
  c_bit = part_bit k s.words r 0 n h.sized lt (omega arith)

  pub c_bucket : (b : ℕ) → b < k.buckets → bucket changed b ≡ bucket s.words b
  c_bucket = part_bucket k s.words r 0 n h.sized lt (omega arith)

  pub c_cached : (q : ℕ) → cached k.lines k changed q ≡ cached k.lines k s.words q
  c_cached = part_cached k s.words r 0 n h.sized lt (omega arith)

  pub c_sized : length changed ≡ size k
  c_sized = length-set s.words (row_word k r 0) n ∙ h.sized

  pub c_passes : passes changed ≡ passes s.words
  c_passes = part_passes k s.words r 0 n h.sized lt (omega arith)

  pub c_stay : (q : ℕ) → 0 < all_named k s.words s.views q → Stays k s.words changed q
  c_stay q m = (
    ⊎_elim (λ (e : q ≡ r). subst (λ a. state (control k changed a) ≡ Live) (sym e) (ap state c_here ∙ live (subst (λ a. 0 < all_named k s.words s.views a) e m)))
        (λ ne. ap state (c_else q ne) ∙ named_live k s h q m) (cases_eq q r),
    c_content q,
  )

  pub c_scan : (x : Scan) → ScanFits k s.words x → ScanFits k changed x
  c_scan x f = let b = c_bucket x.bucket f.below in record {
    below = f.below;
    older = subst (λ a. version x.word ≤ version a) (sym b) f.older;
    same = λ e. b ∙ f.same (e ∙ ap version b);
    parts = λ i e p. let g = f.parts i e p in (g.0, g.1, λ st on. c_content e.0 e.1.0 g.1 ∙ g.2 (sym b ∙ st) (sym (c_bit e.0) ∙ on));
    taken = λ i q p. let g = f.taken i q p in (
      g.0,
      λ st on. let t = g.1 (sym b ∙ st) (sym (c_bit q) ∙ on) in
          ⊎_elim (λ (e : q ≡ r). subst (λ a. state (control k changed a) ≡ Taken) (sym e) (ap state c_here ∙ taken (subst (λ a. bit k s.words a ≡ 1) e (sym (c_bit q) ∙ on)) (subst (λ a. state (control k s.words a) ≡ Taken) e t)))
          (λ ne. ap state (c_else q ne) ∙ t) (cases_eq q r),
    );
  }

  pub c_claim : (c : Claim) → ClaimFits k s.words c → ClaimFits k changed c
  c_claim c = claim_same k s.words changed c (c_content c.row)

  pub c_placed : (q : ℕ) → bit k changed q ≡ 1 → bucket_of k (content k changed q) ≡ q / 32
  c_placed q on = ap (bucket_of k) (content_stays k s.words changed q (c_content q)) ∙ h.placed q (sym (c_bit q) ∙ on)

  pub c_worn : (b : ℕ) → b < k.buckets → version (bucket changed b) + ways 32 (bucket changed b) ≤ 2 ^ 32 - 32
  c_worn b l = subst (λ a. version a + ways 32 a ≤ 2 ^ 32 - 32) (sym (c_bucket b l)) (h.worn b l)

  pub c_lines : (l : ℕ) → l < k.lines → Right k changed (line k changed l)
  c_lines l b = subst (Right k changed) (sym (part_line k s.words r 0 n h.sized lt (omega arith) l b))
      (right_stays k s h changed c_stay (line k s.words l) (λ q p. let m = cached_le k s.words q l k.lines b in omega arith) (h.lines l b))

  -- no row that is published becomes Live
  pub c_unique : (bit k s.words r ≡ 1 → state n ≡ Live → state (control k s.words r) ≡ Live)
      → (q p : ℕ) → bit k changed q ≡ 1 → bit k changed p ≡ 1 → state (control k changed q) ≡ Live → state (control k changed p) ≡ Live → content k changed q ≡ content k changed p → q ≡ p
  c_unique old q p qb pb ql pl e = h.unique q p (sym (c_bit q) ∙ qb) (sym (c_bit p) ∙ pb) (was q qb ql) (was p pb pl)
      (sym (content_stays k s.words changed q (c_content q)) ∙ e ∙ content_stays k s.words changed p (c_content p))
    where
      was : (q : ℕ) → bit k changed q ≡ 1 → state (control k changed q) ≡ Live → state (control k s.words q) ≡ Live
      was q on l = ⊎_elim (λ (e : q ≡ r). subst (λ a. state (control k s.words a) ≡ Live) (sym e) (old (sym (c_bit r) ∙ subst (λ a. bit k changed a ≡ 1) e on) (ap state (sym c_here) ∙ subst (λ a. state (control k changed a) ≡ Live) e l)))
          (λ ne. ap state (sym (c_else q ne)) ∙ l) (cases_eq q r)

  -- a Live row other than a new one unfolds
  pub c_deep : (state n ≡ Live → (t : Tree) × Spells k changed t (suc r) × (depth t ≤ 128)) → (q : ℕ) → state (control k changed q) ≡ Live → (t : Tree) × Spells k changed t (suc q) × (depth t ≤ 128)
  c_deep new q l = ⊎_elim (λ (e : q ≡ r). subst (λ a. (t : Tree) × Spells k changed t (suc a) × (depth t ≤ 128)) (sym e) (new (ap state (sym c_here) ∙ subst (λ a. state (control k changed a) ≡ Live) e l)))
      (λ ne. deep_stays k s h changed c_stay q (ap state (sym (c_else q ne)) ∙ l) (l, c_content q)) (cases_eq q r)

-- ---- the same, and a view: what is left is the rows and the new view
module _ (k : Table) (s : State ℕ View) (h : Rule k s) (id : ℕ) (v : View) (at : get_elem? s.views id ≡ some v) (mine : active v ≡ 1) (w : View) (weighs : weight w ≡ weight v) (sits : seats w ≡ seats v) where
  abbrev vs : List View
  vs = set s.views id w

  -- no word changes
  pub view_rule : Rows k s.words vs → ViewFits k s.words w → Rule k (record { words = s.words; homes = s.homes; views = vs })
  view_rule rows fits = record {
    sized = h.sized;
    small = h.small;
    rows = rows;
    deep = h.deep;
    unique = h.unique;
    placed = h.placed;
    worn = h.worn;
    lines = h.lines;
    passes = h.passes ∙ sym (same_total weight s.views id v w at weighs);
    seats = let t = same_total seats s.views id v w at sits in let b = h.seats in omega arith;
    views = each_other (ViewFits k s.words) s.views id w (λ j u ne e. h.views j u e) fits;
  }

  -- the same, where each row has the same sums
  pub same_rows : ((q : ℕ) → firm q w ≡ firm q v) → ((q : ℕ) → weak q w ≡ weak q v) → ((q : ℕ) → claimed q w ≡ claimed q v) → ((q : ℕ) → dying q w ≡ dying q v) → ((q : ℕ) → marked q w ≡ marked q v)
      → ((q : ℕ) → offered q w ≡ offered q v) → ((q : ℕ) → unread q w ≡ unread q v) → Rows k s.words vs
  same_rows f o c d m g u q =
      let r = refs_same k s.words s.words (λ p. total (unread p) s.views) (λ p. total (unread p) vs) q (rows k) (λ p l. ref_same k s.words s.words (λ p. total (unread p) s.views) (λ p. total (unread p) vs) q p refl refl (same_total (unread p) s.views id v w at (u p))) in
      let t = same_total (firm q) s.views id v w at (f q) in
      row_same refl refl (omega arith) (same_total (weak q) s.views id v w at (o q)) (same_total (claimed q) s.views id v w at (c q)) (same_total (dying q) s.views id v w at (d q)) (same_total (marked q) s.views id v w at (m q)) (same_total (offered q) s.views id v w at (g q)) (h.rows q)

  module _ (r n : ℕ) (lt : r < rows k) (live : 0 < all_named k s.words s.views r → state n ≡ Live) (taken : bit k s.words r ≡ 1 → state (control k s.words r) ≡ Taken → state n ≡ Taken)
      (old : bit k s.words r ≡ 1 → state n ≡ Live → state (control k s.words r) ≡ Live) where
    -- the control word of a row changes
    pub control_rule : (state n ≡ Live → (t : Tree) × Spells k (changed k s h r n lt live taken) t (suc r) × (depth t ≤ 128)) → Rows k (changed k s h r n lt live taken) vs → ViewFits k (changed k s h r n lt live taken) w
        → Rule k (record { words = changed k s h r n lt live taken; homes = s.homes; views = vs })
    control_rule new rows fits = record {
      sized = c_sized k s h r n lt live taken;
      small = h.small;
      rows = rows;
      deep = c_deep k s h r n lt live taken new;
      unique = c_unique k s h r n lt live taken old;
      placed = c_placed k s h r n lt live taken;
      worn = c_worn k s h r n lt live taken;
      lines = c_lines k s h r n lt live taken;
      passes = c_passes k s h r n lt live taken ∙ h.passes ∙ sym (same_total weight s.views id v w at weighs);
      seats = let t = same_total seats s.views id v w at sits in let b = h.seats in omega arith;
      views = each_other (ViewFits k (changed k s h r n lt live taken)) s.views id w
          (others_stay k s h (changed k s h r n lt live taken) (c_stay k s h r n lt live taken) (c_scan k s h r n lt live taken) id v at mine (λ j u i c ne e g f. c_claim k s h r n lt live taken c f)) fits;
    }

-- ---- a content word of the row r, which nothing names, whose bit is clear and which isn't Live
module _ (k : Table) (s : State ℕ View) (h : Rule k s) (r j n : ℕ) (lt : r < rows k) (jl : j < 10)
    (none : all_named k s.words s.views r ≡ 0) (off : bit k s.words r ≡ 0) (quiet : state (control k s.words r) ≢ Live) where
  abbrev pub stored : List ℕ
  stored = set s.words (row_word k r (suc j)) n

  pub s_control : (q : ℕ) → control k stored q ≡ control k s.words q
  s_control q = part_other k s.words r (suc j) n h.sized lt (omega arith) q 0 (omega arith) (λ e. omega arith)

  pub s_else : (q i : ℕ) → i < 10 → q ≢ r → word k stored q (suc i) ≡ word k s.words q (suc i)
  s_else q i l ne = part_row k s.words r (suc j) n h.sized lt (omega arith) q (suc i) (omega arith) ne

  pub s_bit : (q : ℕ) → bit k stored q ≡ bit k s.words q
  s_bit = part_bit k s.words r (suc j) n h.sized lt (omega arith)

  pub s_bucket : (b : ℕ) → b < k.buckets → bucket stored b ≡ bucket s.words b
  s_bucket = part_bucket k s.words r (suc j) n h.sized lt (omega arith)

  pub s_cached : (q : ℕ) → cached k.lines k stored q ≡ cached k.lines k s.words q
  s_cached = part_cached k s.words r (suc j) n h.sized lt (omega arith)

  s_apart : (q : ℕ) → 0 < all_named k s.words s.views q → q ≢ r
  s_apart q m e = let z : all_named k s.words s.views q ≡ 0 = subst (λ a. all_named k s.words s.views a ≡ 0) (sym e) none in omega arith

  s_on : (q : ℕ) → bit k stored q ≡ 1 → q ≢ r
  s_on q m e = let z : bit k s.words q ≡ 0 = subst (λ a. bit k s.words a ≡ 0) (sym e) off in let b = s_bit q in omega arith

  pub s_stay : (q : ℕ) → 0 < all_named k s.words s.views q → Stays k s.words stored q
  s_stay q m = (ap state (s_control q) ∙ named_live k s h q m, λ i l. s_else q i l (s_apart q m))

  pub s_scan : (x : Scan) → ScanFits k s.words x → ScanFits k stored x
  s_scan x f = let b = s_bucket x.bucket f.below in record {
    below = f.below;
    older = subst (λ a. version x.word ≤ version a) (sym b) f.older;
    same = λ e. b ∙ f.same (e ∙ ap version b);
    parts = λ i e p. let g = f.parts i e p in (g.0, g.1, λ st on. s_else e.0 e.1.0 g.1 (s_on e.0 on) ∙ g.2 (sym b ∙ st) (sym (s_bit e.0) ∙ on));
    taken = λ i q p. let g = f.taken i q p in (g.0, λ st on. ap state (s_control q) ∙ g.1 (sym b ∙ st) (sym (s_bit q) ∙ on));
  }

  s_shown : (q : ℕ) → bit k stored q ≡ 1 → content k stored q ≡ content k s.words q
  s_shown q on = content_stays k s.words stored q (λ i l. s_else q i l (s_on q on))

  module _ (id : ℕ) (v : View) (at : get_elem? s.views id ≡ some v) (mine : active v ≡ 1) (w : View) (weighs : weight w ≡ weight v) (sits : seats w ≡ seats v) where
    pub content_rule : Rows k stored (set s.views id w)
        → ((o : ℕ) (u : View) (i : ℕ) (c : Claim) → o ≢ id → get_elem? s.views o ≡ some u → get_elem? u.claims i ≡ some c → ClaimFits k s.words c → ClaimFits k stored c)
        → ViewFits k stored w → Rule k (record { words = stored; homes = s.homes; views = set s.views id w })
    content_rule rows claim fits = record {
      sized = length-set s.words (row_word k r (suc j)) n ∙ h.sized;
      small = h.small;
      rows = rows;
      deep = λ q l. let m = ap state (sym (s_control q)) ∙ l in deep_stays k s h stored s_stay q m (l, λ i b. s_else q i b (λ e. quiet (subst (λ a. state (control k s.words a) ≡ Live) e m)));
      unique = λ q p qb pb ql pl e. h.unique q p (sym (s_bit q) ∙ qb) (sym (s_bit p) ∙ pb) (ap state (sym (s_control q)) ∙ ql) (ap state (sym (s_control p)) ∙ pl) (sym (s_shown q qb) ∙ e ∙ s_shown p pb);
      placed = λ q on. ap (bucket_of k) (s_shown q on) ∙ h.placed q (sym (s_bit q) ∙ on);
      worn = λ b l. subst (λ a. version a + ways 32 a ≤ 2 ^ 32 - 32) (sym (s_bucket b l)) (h.worn b l);
      lines = λ l b. subst (Right k stored) (sym (part_line k s.words r (suc j) n h.sized lt (omega arith) l b))
          (right_stays k s h stored s_stay (line k s.words l) (λ q p. let m = cached_le k s.words q l k.lines b in omega arith) (h.lines l b));
      passes = part_passes k s.words r (suc j) n h.sized lt (omega arith) ∙ h.passes ∙ sym (same_total weight s.views id v w at weighs);
      seats = let t = same_total seats s.views id v w at sits in let b = h.seats in omega arith;
      views = each_other (ViewFits k stored) s.views id w (others_stay k s h stored s_stay s_scan id v at mine claim) fits;
    }
