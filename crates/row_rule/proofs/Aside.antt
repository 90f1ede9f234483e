-- The first word and the cache lines: steps that leave all rows and buckets.
use Rattle.std.proofs.Common.{◌≡◌, ℕ, suc, ◌+◌, ◌-◌, ◌/◌, ◌<◌, ◌≤◌, ◌≢◌, ◌^◌, List, [], ◌∷◌, ◌++◌, length, set, cond, eqb, sym, refl, ap, ◌∙◌, subst, arith, get_or-set_other, get_or-set_same, length-set, length-append}
use mathlib.Core.Option.{some, some-ne-none}
use lib.ListN.{get_elem?}
use Rattle.atomic_table.specs.Table.{State}
use Rattle.atomic_table.proofs.Lists.{set_else}
use Rattle.store_api.specs.Tree.{Tree}
use Rattle.store_api.specs.Bag.{one}
use Rattle.row_rule.specs.Known.{Claim, Scan, Past, Stage, Idle, Granted, Refused, Joining, Spent}
use Rattle.row_rule.specs.Words.{Table, rows, size, state, content, word, row_word, line, line_names, bucket, bucket_of, version, ways, passes, bit}
use Rattle.row_rule.specs.declared.view.View.{View}
use Rattle.row_rule.specs.Rule.{total, count, held, claimed, dying, marked, offered, unread, firm, weak, if_taken, if_dying, if_marked, if_offered, refs, all_named, All, Spells, Right, Rows, ClaimFits, ScanFits, ViewFits, active, weight, seats, stage_weight, stage_seats, Rule}
use Rattle.row_rule.specs.Changes.{with_stage, staged, split_left, split_right, joined, spent}
use Rattle.row_rule.proofs.Sums.{total_set, total_append, total_mono, each_more, each_other}
use Rattle.row_rule.proofs.Holds.{all_append}
use Rattle.row_rule.proofs.Frames.{bit_same, ref_same, refs_same, cached_same, cached_le, Stays, row_same, named_live, right_stays, deep_stays, others_stay, holds_stay, passing_stay, hand_stay, seen_stay}
use Rattle.row_rule.proofs.Shapes.{same_total, claim_same}

module _ (k : Table) (s : State ℕ View) (h : Rule k s) (xs : List ℕ) (long : length xs ≡ size k) (row : (q j : ℕ) → word k xs q j ≡ word k s.words q j) (bucket_stays : (b : ℕ) → b < k.buckets → bucket xs b ≡ bucket s.words b) where
  pub a_bit : (q : ℕ) → bit k xs q ≡ bit k s.words q
  a_bit q = bit_same k s.words xs q (λ l. bucket_stays (q / 32) (omega arith))

  pub a_stay : (q : ℕ) → 0 < all_named k s.words s.views q → Stays k s.words xs q
  a_stay q m = (ap state (row q 0) ∙ named_live k s h q m, λ j l. row q (suc j))

  pub a_scan : (x : Scan) → ScanFits k s.words x → ScanFits k xs x
  a_scan x f = let c = bucket_stays x.bucket f.below in record {
    below = f.below;
    older = subst (λ a. version x.word ≤ version a) (sym c) f.older;
    same = λ y. c ∙ f.same (y ∙ ap version c);
    parts = λ i y g. let u = f.parts i y g in (u.0, u.1, λ st on. row y.0 (suc y.1.0) ∙ u.2 (sym c ∙ st) (sym (a_bit y.0) ∙ on));
    taken = λ i y g. let u = f.taken i y g in (u.0, λ st on. ap state (row y 0) ∙ u.1 (sym c ∙ st) (sym (a_bit y) ∙ on));
  }

  pub a_content : (q : ℕ) → content k xs q ≡ content k s.words q
  a_content q i = row q 1 i ∷ row q 2 i ∷ row q 3 i ∷ row q 4 i ∷ row q 5 i ∷ row q 6 i ∷ row q 7 i ∷ row q 8 i ∷ row q 9 i ∷ row q 10 i ∷ []

  pub a_claim : (c : Claim) → ClaimFits k s.words c → ClaimFits k xs c
  a_claim c = claim_same k s.words xs c (λ o l. row c.row (suc o))

  pub a_refs : (V : ℕ → ℕ) → ((q : ℕ) → V q ≡ total (unread q) s.views) → (q : ℕ) → refs (rows k) k xs V q ≡ refs (rows k) k s.words (λ o. total (unread o) s.views) q
  a_refs V e q = refs_same k s.words xs (λ o. total (unread o) s.views) V q (rows k) (λ o l. ref_same k s.words xs (λ o. total (unread o) s.views) V q o (row o 0) (row o 2) (e o))

  -- the rule, but for the number of passes, the lines and the views
  pub a_rule : (vs : List View) → Rows k xs vs → ((l : ℕ) → l < k.lines → Right k xs (line k xs l)) → passes xs ≡ total weight vs → total seats vs ≤ 65 → All (ViewFits k xs) vs → Rule k (record { words = xs; homes = s.homes; views = vs })
  a_rule vs rows lines passes seats views = record {
    sized = long;
    small = h.small;
    rows = rows;
    deep = λ q l. let m = ap state (sym (row q 0)) ∙ l in deep_stays k s h xs a_stay q m (l, λ i x. row q (suc i));
    unique = λ q p qb pb ql pl e. h.unique q p (sym (a_bit q) ∙ qb) (sym (a_bit p) ∙ pb) (ap state (sym (row q 0)) ∙ ql) (ap state (sym (row p 0)) ∙ pl) (sym (a_content q) ∙ e ∙ a_content p);
    placed = λ q on. ap (bucket_of k) (a_content q) ∙ h.placed q (sym (a_bit q) ∙ on);
    worn = λ b l. subst (λ a. version a + ways 32 a ≤ 2 ^ 32 - 32) (sym (bucket_stays b l)) (h.worn b l);
    lines = lines;
    passes = passes;
    seats = seats;
    views = views;
  }

-- ---- the first word becomes n
module _ (k : Table) (s : State ℕ View) (h : Rule k s) (n : ℕ) where
  abbrev pub fs : List ℕ
  fs = set s.words 0 n

  pub f_long : length fs ≡ size k
  f_long = length-set s.words 0 n ∙ h.sized

  pub f_row : (q j : ℕ) → word k fs q j ≡ word k s.words q j
  f_row q j = get_or-set_other s.words 0 (row_word k q j) n 0 (λ e. omega arith)

  pub f_bucket : (b : ℕ) → b < k.buckets → bucket fs b ≡ bucket s.words b
  f_bucket b l = get_or-set_other s.words 0 (1 + b) n 0 (λ e. omega arith)

  pub f_line : (l : ℕ) → line k fs l ≡ line k s.words l
  f_line l = get_or-set_other s.words 0 (1 + k.buckets + l) n 0 (λ e. omega arith)

  pub f_here : passes fs ≡ n
  f_here = get_or-set_same s.words 0 n 0 (let z = h.sized in omega arith)

  f_lines : (l : ℕ) → l < k.lines → Right k fs (line k fs l)
  f_lines l b = subst (Right k fs) (sym (f_line l)) (right_stays k s h fs (a_stay k s h fs f_long f_row f_bucket) (line k s.words l) (λ q p. let m = cached_le k s.words q l k.lines b in omega arith) (h.lines l b))

  -- a pass goes from one stage to another
  module _ (id : ℕ) (v : View) (g t : Stage) (at : get_elem? s.views id ≡ some (with_stage g v)) (mine : active (with_stage g v) ≡ 1) (p : Past) (still : active (with_stage t v) ≡ 1)
      (steps : n + stage_weight g ≡ passes s.words + stage_weight t) (room : total seats s.views + stage_seats t ≤ 65 + stage_seats g) where
    abbrev gv : View
    gv = with_stage g v

    abbrev tv : View
    tv = staged t p v

    f_rows : Rows k fs (set s.views id tv)
    f_rows q = let a = a_refs k s h fs f_long f_row f_bucket (λ o. total (unread o) (set s.views id tv)) (λ o. same_total (unread o) s.views id gv tv at refl) q in
        let c = cached_same k s.words fs q k.lines (λ l m. f_line l) in let t = same_total (firm q) s.views id gv tv at refl in
        row_same (f_row q 0) (a_bit k s h fs f_long f_row f_bucket q) (omega arith) (same_total (weak q) s.views id gv tv at refl) (same_total (claimed q) s.views id gv tv at refl) (same_total (dying q) s.views id gv tv at refl)
        (same_total (marked q) s.views id gv tv at refl) (same_total (offered q) s.views id gv tv at refl) (h.rows q)

    pub stage_rule : Rule k (record { words = fs; homes = s.homes; views = set s.views id tv })
    stage_rule = let f = h.views id gv at in
        a_rule k s h fs f_long f_row f_bucket (set s.views id tv) f_rows f_lines
        (let t = total_set weight s.views id gv tv at in let e = h.passes in let x = steps in f_here ∙ omega arith)
        (let t = total_set seats s.views id gv tv at in let x = room in omega arith)
        (each_other (ViewFits k fs) s.views id tv (others_stay k s h fs (a_stay k s h fs f_long f_row f_bucket) (a_scan k s h fs f_long f_row f_bucket) id gv at mine (λ j u i c ne e g f. a_claim k s h fs f_long f_row f_bucket c f))
        (record {
          claims = λ i c e. a_claim k s h fs f_long f_row f_bucket c (f.claims i c e);
          holds = holds_stay k s h fs (a_stay k s h fs f_long f_row f_bucket) id gv at;
          passing = passing_stay k s h fs (a_stay k s h fs f_long f_row f_bucket) id gv at;
          hand = hand_stay k s h fs (a_stay k s h fs f_long f_row f_bucket) id gv at;
          scans = λ i x e. a_scan k s h fs f_long f_row f_bucket x (f.scans i x e);
          seen = seen_stay k s h fs (a_stay k s h fs f_long f_row f_bucket) id gv at;
          about = λ _. f.about mine;
          few = let g = f.few in let a = mine in let b = still in let c = g.0 in let d = g.1 in (omega arith, omega arith);
          alone = λ e. absurd (omega arith);
        }))

seats_le : (vs : List View) → total seats vs ≤ total weight vs
seats_le vs = total_mono seats weight (λ v. stages v.stage) vs
  where
    stages : (g : Stage) → stage_seats g ≤ stage_weight g
    stages Idle = omega arith
    stages Granted = omega arith
    stages Refused = omega arith
    stages Joining = omega arith
    stages Spent = omega arith

-- the four steps on the first word
pub granted_rule : (k : Table) (s : State ℕ View) (h : Rule k s) (id : ℕ) (v : View) → get_elem? s.views id ≡ some (with_stage Idle v) → (p : Past) → passes s.words ≤ 64
    → Rule k (record { words = set s.words 0 (passes s.words + 1); homes = s.homes; views = set s.views id (staged Granted p v) })
granted_rule k s h id v at p few = stage_rule k s h (passes s.words + 1) id v Idle Granted at refl p refl (omega arith) (let l = seats_le s.views in let e = h.passes in omega arith)

pub refused_rule : (k : Table) (s : State ℕ View) (h : Rule k s) (id : ℕ) (v : View) → get_elem? s.views id ≡ some (with_stage Idle v) → (p : Past)
    → Rule k (record { words = set s.words 0 (passes s.words + 1); homes = s.homes; views = set s.views id (staged Refused p v) })
refused_rule k s h id v at p = stage_rule k s h (passes s.words + 1) id v Idle Refused at refl p refl (omega arith) (let e = h.seats in omega arith)

pub takes_back_rule : (k : Table) (s : State ℕ View) (h : Rule k s) (id : ℕ) (v : View) → get_elem? s.views id ≡ some (with_stage Refused v) → (p : Past) (n : ℕ) → n + 1 ≡ passes s.words
    → Rule k (record { words = set s.words 0 n; homes = s.homes; views = set s.views id (staged Idle p v) })
takes_back_rule k s h id v at p n e = stage_rule k s h n id v Refused Idle at refl p refl (omega arith) (let e = h.seats in omega arith)

pub joins_end_rule : (k : Table) (s : State ℕ View) (h : Rule k s) (id : ℕ) (v : View) → get_elem? s.views id ≡ some (with_stage Joining v) → (p : Past) (n : ℕ) → n + 1 ≡ passes s.words
    → Rule k (record { words = set s.words 0 n; homes = s.homes; views = set s.views id (staged Idle p v) })
joins_end_rule k s h id v at p n e = stage_rule k s h n id v Joining Idle at refl p refl (omega arith) (let e = h.seats in omega arith)

-- ---- the base's split
module _ (k : Table) (s : State ℕ View) (h : Rule k s) (id : ℕ) (v : View) (at : get_elem? s.views id ≡ some (with_stage Granted v)) where
  abbrev sv : View
  sv = with_stage Granted v

  abbrev lv : View
  lv = split_left sv

  abbrev rv : View
  rv = split_right sv

  abbrev svs : List View
  svs = set s.views id lv ++ rv ∷ []

  two_total : (f : View → ℕ) → f lv ≡ f sv → f rv ≡ 0 → total f svs ≡ total f s.views
  two_total f e z = let t = same_total f s.views id sv lv at e in let a = total_append f (set s.views id lv) (rv ∷ []) in omega arith

  pub splits_rule : Rule k (record { words = s.words; homes = s.homes; views = svs })
  splits_rule = let f = h.views id sv at in
      a_rule k s h s.words h.sized (λ q j. refl) (λ b l. refl) svs
      (λ q. let a = a_refs k s h s.words h.sized (λ q j. refl) (λ b l. refl) (λ o. total (unread o) svs) (λ o. two_total (unread o) refl refl) q in let t = two_total (firm q) refl (omega arith) in
      row_same refl refl (omega arith) (two_total (weak q) refl (omega arith)) (two_total (claimed q) refl refl) (two_total (dying q) refl refl) (two_total (marked q) refl refl) (two_total (offered q) refl refl) (h.rows q))
      h.lines
      (let t = total_set weight s.views id sv lv at in let a = total_append weight (set s.views id lv) (rv ∷ []) in let e = h.passes in omega arith)
      (let t = total_set seats s.views id sv lv at in let a = total_append seats (set s.views id lv) (rv ∷ []) in let e = h.seats in omega arith)
      (all_append (ViewFits k s.words) (set s.views id lv) (rv ∷ [])
      (each_other (ViewFits k s.words) s.views id lv (λ j u ne e. h.views j u e)
      (record { claims = f.claims; holds = f.holds; passing = f.passing; hand = f.hand; scans = f.scans; seen = f.seen; about = λ _. f.about refl; few = f.few; alone = λ e. absurd (omega arith) }))
      (each_more (ViewFits k s.words) rv [] (record {
        claims = λ i x e. absurd (some-ne-none x (sym e));
        holds = λ i x e. absurd (some-ne-none x (sym e));
        passing = λ i x e. absurd (some-ne-none x (sym e));
        hand = λ i x e. absurd (some-ne-none x (sym e));
        scans = λ i x e. absurd (some-ne-none x (sym e));
        seen = λ i x e. absurd (some-ne-none x (sym e));
        about = λ _. f.about refl;
        few = (omega arith, omega arith);
        alone = λ e. absurd (omega arith);
      })
      (λ i x e. absurd (some-ne-none x (sym e)))))

-- ---- the base's join
module _ (k : Table) (s : State ℕ View) (h : Rule k s) (id : ℕ) (v : View) (at : get_elem? s.views id ≡ some (with_stage Idle v)) (other : ℕ) (u : View) (apart : other ≢ id)
    (there : get_elem? s.views other ≡ some (with_stage Idle u)) (bare : (u.claims ≡ []) × (u.passing ≡ []) × (u.pins ≡ []) × (u.hand ≡ [])) (room : length v.holds + length u.holds ≤ 2 ^ 32) where
  abbrev jv : View
  jv = with_stage Idle v

  abbrev ju : View
  ju = with_stage Idle u

  abbrev jw : View
  jw = joined jv ju

  abbrev mid : List View
  mid = set s.views id jw

  abbrev end : List View
  end = set mid other spent

  there_mid : get_elem? mid other ≡ some ju
  there_mid = set_else s.views id other jw apart ∙ there

  join_total : (f : View → ℕ) → f jw + f spent ≡ f jv + f ju → total f end ≡ total f s.views
  join_total f e = let a = total_set f s.views id jv jw at in let b = total_set f mid other ju spent there_mid in omega arith

  no_claims : (f : Claim → ℕ) → total f u.claims ≡ 0
  no_claims f = ap (total f) bare.0

  pub joins_rule : Rule k (record { words = s.words; homes = s.homes; views = end })
  joins_rule = let f = h.views id jv at in let g = h.views other ju there in
      a_rule k s h s.words h.sized (λ q j. refl) (λ b l. refl) end
      (λ q. let a = a_refs k s h s.words h.sized (λ q j. refl) (λ b l. refl) (λ o. total (unread o) end) (λ o. join_total (unread o) (let z = no_claims (λ c. cond (eqb c.unread 0) 0 (one c.row o)) in omega arith)) q in
      let t = join_total (firm q) (let ta = total_append (λ (x : ℕ × Tree). one x.0 q) v.holds u.holds in let z = no_claims (λ c. count c.kids q) in let y : held u.passing q ≡ 0 = ap (λ l. held l q) bare.1 in let x : total (λ n. line_names n q) u.hand ≡ 0 = ap (total (λ n. line_names n q)) bare.3 in omega arith) in
      row_same refl refl (omega arith)
      (join_total (weak q) (let z = no_claims (λ c. if_offered c.phase (one c.row q)) in let y : count u.pins q ≡ 0 = ap (λ l. count l q) bare.2 in omega arith))
      (join_total (claimed q) (let z = no_claims (λ c. if_taken c.phase (one c.row q)) in omega arith))
      (join_total (dying q) (let z = no_claims (λ c. if_dying c.phase (one c.row q)) in omega arith))
      (join_total (marked q) (let z = no_claims (λ c. if_marked c.phase (one c.row q)) in omega arith))
      (join_total (offered q) (let z = no_claims (λ c. if_offered c.phase (one c.row q)) in omega arith)) (h.rows q))
      h.lines
      (h.passes ∙ sym (join_total weight refl))
      (let a = total_set seats s.views id jv jw at in let b = total_set seats mid other ju spent there_mid in let e = h.seats in omega arith)
      (each_other (ViewFits k s.words) mid other spent
      (λ j w ne e. each_other (ViewFits k s.words) s.views id jw (λ j w ne e. h.views j w e)
      (record {
        claims = f.claims;
        holds = all_append (λ x. Spells k s.words x.1 (suc x.0)) v.holds u.holds f.holds g.holds;
        passing = f.passing;
        hand = f.hand;
        scans = f.scans;
        seen = λ i x e. let y = f.seen i x e in (let a = y.0 in let t = total_append (λ (z : ℕ × Tree). one z.0 x.0) v.holds u.holds in omega arith, y.1, y.2);
        about = λ _. f.about refl;
        few = let a = room in let b = length-append v.holds u.holds in let c = f.few in let d = c.1 in (omega arith, omega arith);
        alone = λ e. absurd (omega arith);
      }) j w e)
      (record {
        claims = λ i x e. absurd (some-ne-none x (sym e));
        holds = λ i x e. absurd (some-ne-none x (sym e));
        passing = λ i x e. absurd (some-ne-none x (sym e));
        hand = λ i x e. absurd (some-ne-none x (sym e));
        scans = λ i x e. absurd (some-ne-none x (sym e));
        seen = λ i x e. absurd (some-ne-none x (sym e));
        about = λ e. absurd (omega arith);
        few = (omega arith, omega arith);
        alone = λ e. absurd (omega arith);
      }))
