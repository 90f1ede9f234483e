-- A bucket word changes: a row is put into its bucket, or taken out.
use Rattle.std.proofs.Common.{◌≡◌, ℕ, zero, suc, ◌+◌, ◌-◌, ◌*◌, ◌/◌, ◌%◌, ◌<◌, ◌≤◌, ◌≢◌, ◌^◌, List, [], ◌∷◌, length, set, cond, eqb, sym, refl, ap, ◌∙◌, subst, ⊎_elim, arith, slice_index, get_or-set_other, get_or-set_same, length-set, ext_get_or, eq-eqb, ne_eqb}
use mathlib.Core.Option.{some, some-ne-none}
use lib.ListN.{get_elem?}
use Rattle.std.specs.Int.{bit_at}
use Rattle.std.proofs.lemmas.Nat.Bits.{bit_at-lt}
use Rattle.std.proofs.lemmas.Bool.{cases_eq, cases_lt}
use Rattle.atomic_table.specs.Table.{State}
use Rattle.store_api.specs.Tree.{Tree, Node}
use Rattle.store_api.specs.Bag.{one, one_self}
use Rattle.row_rule.specs.Known.{Claim, Scan, Marked, Fill, Offered, Past, phase_number}
use Rattle.row_rule.specs.Words.{Table, rows, state, counted, control, child, left, right, Proper, content, shape_at, word, row_word, line, bucket, bucket_of, version, ways, bit, Live, Taken}
use Rattle.row_rule.specs.declared.view.View.{View}
use Rattle.row_rule.specs.Rule.{total, claimed, dying, marked, offered, unread, firm, weak, refs, cached, named, all_named, All, Spells, Right, RowFits, Rows, ClaimFits, ScanFits, ViewFits, active, weight, seats, Rule}
use Rattle.row_rule.specs.Changes.{claim, with_claims, publishes, clears, rescan, NotSeen, Holds, shape_of}
use Rattle.row_rule.proofs.Sums.{one_else, one_le, total_set, le_total, each_more, each_other}
use Rattle.row_rule.proofs.Frames.{bit_same, bit_is, bit_below, live_below, ref_same, refs_same, cached_same, cached_le, Stays, row_same, named_live, right_stays, deep_stays, others_stay, holds_stay, passing_stay, hand_stay, seen_stay, weak_named, holds_spell}
use Rattle.row_rule.proofs.Shapes.{same_total, claim_same}
use Rattle.row_rule.proofs.Taken.{offered_le, dying_le, marked_le}
use Rattle.row_rule.proofs.Bits.{bit_set_same, bit_set_other, bit_clear_same, bit_clear_other, ways_at, ways_le, version_set, version_clear}

-- the word of the bucket b becomes n, of the next version
module _ (k : Table) (s : State ℕ View) (h : Rule k s) (b n : ℕ) (lt : b < k.buckets) (newer : version n ≡ version (bucket s.words b) + 1) where
  abbrev pub bs : List ℕ
  bs = set s.words (1 + b) n

  pub b_here : bucket bs b ≡ n
  b_here = get_or-set_same s.words (1 + b) n 0 (let z = h.sized in omega arith)

  pub b_else : (c : ℕ) → c ≢ b → bucket bs c ≡ bucket s.words c
  b_else c ne = get_or-set_other s.words (1 + b) (1 + c) n 0 (λ e. ne (omega arith))

  pub b_word : (q j : ℕ) → word k bs q j ≡ word k s.words q j
  b_word q j = get_or-set_other s.words (1 + b) (row_word k q j) n 0 (λ e. omega arith)

  pub b_bit : (q : ℕ) → q / 32 ≢ b → bit k bs q ≡ bit k s.words q
  b_bit q ne = bit_same k s.words bs q (λ l. b_else (q / 32) ne)

  pub b_bit_here : (q : ℕ) → q / 32 ≡ b → bit k bs q ≡ bit_at n (q % 32)
  b_bit_here q e = bit_is k bs q (omega arith) ∙ ap (λ a. bit_at a (q % 32)) (ap (bucket bs) e ∙ b_here)

  b_stay : (q : ℕ) → 0 < all_named k s.words s.views q → Stays k s.words bs q
  b_stay q m = (ap state (b_word q 0) ∙ named_live k s h q m, λ j l. b_word q (suc j))

  b_cached : (q : ℕ) → cached k.lines k bs q ≡ cached k.lines k s.words q
  b_cached q = cached_same k s.words bs q k.lines (λ l m. get_or-set_other s.words (1 + b) (1 + k.buckets + l) n 0 (λ e. omega arith))

  pub b_content : (q : ℕ) → content k bs q ≡ content k s.words q
  b_content q i = b_word q 1 i ∷ b_word q 2 i ∷ b_word q 3 i ∷ b_word q 4 i ∷ b_word q 5 i ∷ b_word q 6 i ∷ b_word q 7 i ∷ b_word q 8 i ∷ b_word q 9 i ∷ b_word q 10 i ∷ []

  -- no scan has the new word
  pub b_scan : (x : Scan) → ScanFits k s.words x → ScanFits k bs x
  b_scan x f = ⊎_elim
      (λ (e : x.bucket ≡ b).
      let c : bucket bs x.bucket ≡ n = ap (bucket bs) e ∙ b_here in let o : version x.word ≤ version (bucket s.words b) = subst (λ a. version x.word ≤ version (bucket s.words a)) e f.older in
      let not : bucket bs x.bucket ≢ x.word = λ y. let z : version n ≡ version x.word = ap version (sym c ∙ y) in omega arith in
      record {
        below = f.below;
        older = subst (λ a. version x.word ≤ version a) (sym c) (omega arith);
        same = λ y. absurd (let z : version x.word ≡ version n = y ∙ ap version c in omega arith);
        parts = λ i y g. let u = f.parts i y g in (u.0, u.1, λ st. absurd (not st));
        taken = λ i y g. let u = f.taken i y g in (u.0, λ st. absurd (not st));
      })
      (λ ne. let c = b_else x.bucket ne in record {
        below = f.below;
        older = subst (λ a. version x.word ≤ version a) (sym c) f.older;
        same = λ y. c ∙ f.same (y ∙ ap version c);
        parts = λ i y g. let u = f.parts i y g in (u.0, u.1, λ st on. b_word y.0 (suc y.1.0) ∙ u.2 (sym c ∙ st) (sym (b_bit y.0 (λ e. ne (sym u.0 ∙ e))) ∙ on));
        taken = λ i y g. let u = f.taken i y g in (u.0, λ st on. ap state (b_word y 0) ∙ u.1 (sym c ∙ st) (sym (b_bit y (λ e. ne (sym u.0 ∙ e))) ∙ on));
      })
      (cases_eq x.bucket b)

  module _ (id : ℕ) (v : View) (at : get_elem? s.views id ≡ some v) (mine : active v ≡ 1) (w : View) (weighs : weight w ≡ weight v) (sits : seats w ≡ seats v) where
    pub b_refs : ((q : ℕ) → unread q w ≡ unread q v) → (q : ℕ) → refs (rows k) k bs (λ o. total (unread o) (set s.views id w)) q ≡ refs (rows k) k s.words (λ o. total (unread o) s.views) q
    b_refs e q = refs_same k s.words bs (λ o. total (unread o) s.views) (λ o. total (unread o) (set s.views id w)) q (rows k) (λ o l. ref_same k s.words bs (λ o. total (unread o) s.views) (λ o. total (unread o) (set s.views id w)) q o (b_word o 0) (b_word o 2) (same_total (unread o) s.views id v w at (e o)))

    pub bucket_rule : Rows k bs (set s.views id w)
        → ((q p : ℕ) → bit k bs q ≡ 1 → bit k bs p ≡ 1 → state (control k s.words q) ≡ Live → state (control k s.words p) ≡ Live → content k s.words q ≡ content k s.words p → q ≡ p)
        → ((q : ℕ) → bit k bs q ≡ 1 → bucket_of k (content k s.words q) ≡ q / 32)
        → version n + ways 32 n ≤ 2 ^ 32 - 32 → ViewFits k bs w → Rule k (record { words = bs; homes = s.homes; views = set s.views id w })
    bucket_rule rows unique placed worn fits = record {
      sized = length-set s.words (1 + b) n ∙ h.sized;
      small = h.small;
      rows = rows;
      deep = λ q l. let m = ap state (sym (b_word q 0)) ∙ l in deep_stays k s h bs b_stay q m (l, λ i x. b_word q (suc i));
      unique = λ q p qb pb ql pl e. unique q p qb pb (ap state (sym (b_word q 0)) ∙ ql) (ap state (sym (b_word p 0)) ∙ pl) (sym (b_content q) ∙ e ∙ b_content p);
      placed = λ q on. ap (bucket_of k) (b_content q) ∙ placed q on;
      worn = λ c l. ⊎_elim (λ (e : c ≡ b). subst (λ a. version (bucket bs a) + ways 32 (bucket bs a) ≤ 2 ^ 32 - 32) (sym e) (subst (λ a. version a + ways 32 a ≤ 2 ^ 32 - 32) (sym b_here) worn))
          (λ ne. subst (λ a. version a + ways 32 a ≤ 2 ^ 32 - 32) (sym (b_else c ne)) (h.worn c l)) (cases_eq c b);
      lines = λ l m. subst (Right k bs) (sym (get_or-set_other s.words (1 + b) (1 + k.buckets + l) n 0 (λ e. omega arith)))
          (right_stays k s h bs b_stay (line k s.words l) (λ q p. let c = cached_le k s.words q l k.lines m in omega arith) (h.lines l m));
      passes = get_or-set_other s.words (1 + b) 0 n 0 (λ e. omega arith) ∙ h.passes ∙ sym (same_total weight s.views id v w at weighs);
      seats = let t = same_total seats s.views id v w at sits in let m = h.seats in omega arith;
      views = each_other (ViewFits k bs) s.views id w (others_stay k s h bs b_stay b_scan id v at mine (λ j u i c ne e g f. claim_same k s.words bs c (λ o l. b_word c.row (suc o)) f)) fits;
    }

-- ---- contents
pub content_at : (k : Table) (ws : List ℕ) (q j : ℕ) → j < 10 → slice_index (content k ws q) j ≡ word k ws q (suc j)
content_at k ws q zero l = refl
content_at k ws q (suc zero) l = refl
content_at k ws q (suc (suc zero)) l = refl
content_at k ws q (suc (suc (suc zero))) l = refl
content_at k ws q (suc (suc (suc (suc zero)))) l = refl
content_at k ws q (suc (suc (suc (suc (suc zero))))) l = refl
content_at k ws q (suc (suc (suc (suc (suc (suc zero)))))) l = refl
content_at k ws q (suc (suc (suc (suc (suc (suc (suc zero))))))) l = refl
content_at k ws q (suc (suc (suc (suc (suc (suc (suc (suc zero)))))))) l = refl
content_at k ws q (suc (suc (suc (suc (suc (suc (suc (suc (suc zero))))))))) l = refl
content_at k ws q (suc (suc (suc (suc (suc (suc (suc (suc (suc (suc j)))))))))) l = absurd (omega arith)

pub content_kept : (k : Table) (ws : List ℕ) (q : ℕ) (xs : List ℕ) → length xs ≡ 10 → ((j : ℕ) → j < length xs → word k ws q (suc j) ≡ slice_index xs j) → content k ws q ≡ xs
content_kept k ws q xs ten same = ext_get_or 0 (content k ws q) xs (sym ten) (λ i l. content_at k ws q i l ∙ same i (omega arith))

shape_kept : (k : Table) (ws : List ℕ) (q : ℕ) (xs : List ℕ) → length xs ≡ 10 → ((j : ℕ) → j < length xs → word k ws q (suc j) ≡ slice_index xs j) → shape_of xs ≡ shape_at k ws q
shape_kept k ws q xs ten same i = record {
  head = sym (same 0 (omega arith)) i;
  body = sym (same 2 (omega arith)) i ∷ sym (same 3 (omega arith)) i ∷ sym (same 4 (omega arith)) i ∷ sym (same 5 (omega arith)) i ∷ sym (same 6 (omega arith)) i ∷ sym (same 7 (omega arith)) i ∷ sym (same 8 (omega arith)) i ∷ sym (same 9 (omega arith)) i ∷ [];
  kids = sym (same 1 (omega arith)) i % 4;
}

-- ---- the offered row is put into its bucket
module _ (k : Table) (s : State ℕ View) (h : Rule k s) (id : ℕ) (v : View) (r : ℕ) (ws : List ℕ) (cs : List Claim) (at : get_elem? s.views id ≡ some (with_claims (claim r Offered [] 0 ws ∷ cs) v)) (mine : active v ≡ 1) (p : Past)
    (i : ℕ) (x : Scan) (mine_scan : get_elem? v.scans i ≡ some x) (of_bucket : x.bucket ≡ r / 32) (stands : bucket s.words (r / 32) ≡ x.word) (unseen : NotSeen x (r / 32) ws)
    (young : version x.word < 2 ^ 32 - 64) (proper : Proper (slice_index ws 1)) (a b : Tree) (first : Holds v (left (slice_index ws 1)) a) (second : Holds v (right (slice_index ws 1)) b) (room : length v.holds < 2 ^ 32) where
  abbrev yv : View
  yv = with_claims (claim r Offered [] 0 ws ∷ cs) v

  abbrev made : Tree
  made = Node (shape_of ws) a b

  abbrev yw : View
  yw = publishes r made cs p v

  abbrev yn : ℕ
  yn = x.word + 2 ^ (r % 32) + 2 ^ 32

  y_claim : ClaimFits k s.words (claim r Offered [] 0 ws)
  y_claim = (h.views id yv at).claims 0 (claim r Offered [] 0 ws) refl

  y_ten : length ws ≡ 10
  y_ten = (y_claim.offer refl).0

  y_live : state (control k s.words r) ≡ Live
  y_live = named_live k s h r (weak_named k s h id yv at r (let o = one_self r in omega arith))

  y_below : r < rows k
  y_below = live_below k s.words r h.sized (omega (arith, y_live))

  pub y_bucket : r / 32 < k.buckets
  y_bucket = let l = y_below in omega arith

  y_off : bit k s.words r ≡ 0
  y_off = let f = (h.rows r).bits in let l = le_total (offered r) s.views id yv at in let o = one_self r in let d = dying_le r s.views in let t = (h.rows r).taken in
      let z = one_else Taken (state (control k s.words r)) (λ e. let y = y_live in omega arith) in let m = one_le Live (state (control k s.words r)) in omega arith

  y_clear : bit_at x.word (r % 32) ≡ 0
  y_clear = ap (λ a. bit_at a (r % 32)) (sym stands) ∙ sym (bit_is k s.words r y_below) ∙ y_off

  pub y_newer : version yn ≡ version (bucket s.words (r / 32)) + 1
  y_newer = let e = ap version stands in version_set x.word (r % 32) (omega arith) y_clear ∙ omega arith

  abbrev ys : List ℕ
  ys = bs k s h (r / 32) yn y_bucket y_newer

  y_on : bit k ys r ≡ 1
  y_on = b_bit_here k s h (r / 32) yn y_bucket y_newer r refl ∙ bit_set_same x.word (r % 32) (omega arith) y_clear

  y_bit : (q : ℕ) → q ≢ r → bit k ys q ≡ bit k s.words q
  y_bit q ne = ⊎_elim
      (λ (e : q / 32 ≡ r / 32). b_bit_here k s h (r / 32) yn y_bucket y_newer q e ∙ bit_set_other x.word (r % 32) (q % 32) (omega arith) (λ f. ne (omega arith)) y_clear
      ∙ ap (λ a. bit_at a (q % 32)) (sym stands ∙ ap (bucket s.words) (sym e)) ∙ sym (bit_is k s.words q (let y = y_below in omega arith)))
      (λ ne. b_bit k s h (r / 32) yn y_bucket y_newer q ne)
      (cases_eq (q / 32) (r / 32))

  y_rows : Rows k ys (set s.views id yw)
  y_rows q =
      let f = h.rows q in
      let t = total_set (firm q) s.views id yv yw at in let a = b_refs k s h (r / 32) yn y_bucket y_newer id yv at mine yw refl refl (λ o. omega arith) q in let c = b_cached k s h (r / 32) yn y_bucket y_newer q in
      let x1 = total_set (weak q) s.views id yv yw at in let x2 = same_total (claimed q) s.views id yv yw at (omega arith) in let x3 = same_total (dying q) s.views id yv yw at (omega arith) in
      let x4 = same_total (marked q) s.views id yv yw at (omega arith) in let x5 = total_set (offered q) s.views id yv yw at in
      let n0 = b_word k s h (r / 32) yn y_bucket y_newer q 0 in
      ⊎_elim
      (λ (e : q ≡ r). subst (λ q. RowFits (control k ys q) (bit k ys q) (named k ys (set s.views id yw) q) (total (weak q) (set s.views id yw)) (total (claimed q) (set s.views id yw)) (total (dying q) (set s.views id yw)) (total (marked q) (set s.views id yw)) (total (offered q) (set s.views id yw))) (sym e) here)
      (λ ne. let z = one_else r q (λ e. ne (sym e)) in row_same n0 (y_bit q ne) (omega arith) (omega arith) x2 x3 x4 (omega arith) f)
      (cases_eq q r)
    where
      here : RowFits (control k ys r) (bit k ys r) (named k ys (set s.views id yw) r) (total (weak r) (set s.views id yw)) (total (claimed r) (set s.views id yw)) (total (dying r) (set s.views id yw)) (total (marked r) (set s.views id yw)) (total (offered r) (set s.views id yw))
      here =
          let f = h.rows r in
          let t = total_set (firm r) s.views id yv yw at in let a = b_refs k s h (r / 32) yn y_bucket y_newer id yv at mine yw refl refl (λ o. omega arith) r in let c = b_cached k s h (r / 32) yn y_bucket y_newer r in
          let x1 = total_set (weak r) s.views id yv yw at in let x2 = same_total (claimed r) s.views id yv yw at (omega arith) in let x3 = same_total (dying r) s.views id yv yw at (omega arith) in
          let x4 = same_total (marked r) s.views id yv yw at (omega arith) in let x5 = total_set (offered r) s.views id yv yw at in
          let n0 = b_word k s h (r / 32) yn y_bucket y_newer r 0 in let on = y_on in let off = y_off in let o = one_self r in let lv = y_live in
          let tk : one Taken (state (control k ys r)) ≡ one Taken (state (control k s.words r)) = ap (λ a. one Taken (state a)) n0 in
          let ll : one Live (state (control k ys r)) ≡ one Live (state (control k s.words r)) = ap (λ a. one Live (state a)) n0 in
          let ol : one Live (state (control k s.words r)) ≡ 1 = ap (one Live) lv ∙ one_self Live in
          let cn : counted (control k ys r) ≡ counted (control k s.words r) = ap counted n0 in let sn : state (control k ys r) ≡ state (control k s.words r) = ap state n0 in
          let fc = f.counts in let ft = f.taken in let fb = f.bits in let fm = f.marks in let fs = f.states in let mo = le_total (offered r) s.views id yv at in
          record { states = omega arith; counts = omega arith; live = λ y. omega arith; taken = omega arith; bits = omega arith; marks = omega arith; published = λ y. on }

  y_same_content : content k s.words r ≡ ws
  y_same_content = content_kept k s.words r ws y_ten (λ j l. y_claim.kept j l)

  -- no other published Live row has the content
  y_alone : (q : ℕ) → bit k s.words q ≡ 1 → state (control k s.words q) ≡ Live → content k s.words q ≡ content k s.words r → ⊥
  y_alone q on live e =
      let below = bit_below k s.words q (omega arith) in
      let there : q / 32 ≡ r / 32 = sym (h.placed q on) ∙ ap (bucket_of k) (e ∙ y_same_content) ∙ (y_claim.offer refl).1 in
      let st : bucket s.words x.bucket ≡ x.word = ap (bucket s.words) of_bucket ∙ stands in
      let f = (h.views id yv at).scans i x mine_scan in
      let row : 32 * (r / 32) + q % 32 ≡ q = omega arith in
      let set_bit : bit_at x.word (q % 32) ≡ 1 = ap (λ a. bit_at a (q % 32)) (sym stands ∙ ap (bucket s.words) (sym there)) ∙ sym (bit_is k s.words q below) ∙ on in
      ⊎_elim
      (λ (t : (i : ℕ) × (get_elem? x.taken i ≡ some (32 * (r / 32) + q % 32))). let u = (f.taken t.0 (32 * (r / 32) + q % 32) t.1).1 st (ap (bit k s.words) row ∙ on) in
      let z : state (control k s.words q) ≡ Taken = ap (λ a. state (control k s.words a)) (sym row) ∙ u in omega arith)
      (λ (t : (i : ℕ) × (j : ℕ) × (n : ℕ) × (get_elem? x.parts i ≡ some (32 * (r / 32) + q % 32, (j, n))) × (n ≢ slice_index ws j)).
      let u = f.parts t.0 (32 * (r / 32) + q % 32, (t.1, t.2)) t.3 in
      t.4 (sym (u.2 st (ap (bit k s.words) row ∙ on)) ∙ ap (λ a. word k s.words a (suc t.1)) row ∙ sym (content_at k s.words q t.1 u.1) ∙ ap (λ l. slice_index l t.1) (e ∙ y_same_content)))
      (unseen (q % 32) (omega arith) set_bit)

  y_spelled : Spells k ys made (suc r)
  unfolding Spells
  y_spelled = let g = holds_stay k s h ys (b_stay k s h (r / 32) yn y_bucket y_newer) id yv at in
      let kept : (j : ℕ) → j < length ws → word k ys r (suc j) ≡ slice_index ws j = λ j l. b_word k s h (r / 32) yn y_bucket y_newer r (suc j) ∙ y_claim.kept j l in
      let c : child k ys r ≡ slice_index ws 1 = kept 1 (omega (arith, y_ten)) in (
        r,
        refl,
        ap state (b_word k s h (r / 32) yn y_bucket y_newer r 0) ∙ y_live,
        shape_kept k ys r ws y_ten kept,
        subst (λ x. Spells k ys a (left x)) (sym c) (holds_spell k ys v g (left (slice_index ws 1)) a first),
        subst (λ x. Spells k ys b (right x)) (sym c) (holds_spell k ys v g (right (slice_index ws 1)) b second),
        subst Proper (sym c) proper,
      )

  pub publishes_rule : Rule k (record { words = ys; homes = s.homes; views = set s.views id yw })
  publishes_rule = let f = h.views id yv at in
      bucket_rule k s h (r / 32) yn y_bucket y_newer id yv at mine yw refl refl y_rows
      (λ q o qb ob ql ol e. ⊎_elim
      (λ (x : q ≡ r). ⊎_elim (λ (y : o ≡ r). x ∙ sym y) (λ ne. absurd (y_alone o (sym (y_bit o ne) ∙ ob) ol (sym e ∙ ap (content k s.words) x))) (cases_eq o r))
      (λ nq. ⊎_elim (λ (y : o ≡ r). absurd (y_alone q (sym (y_bit q nq) ∙ qb) ql (e ∙ ap (content k s.words) y))) (λ no. h.unique q o (sym (y_bit q nq) ∙ qb) (sym (y_bit o no) ∙ ob) ql ol e) (cases_eq o r))
      (cases_eq q r))
      (λ q on. ⊎_elim (λ (x : q ≡ r). subst (λ a. bucket_of k (content k s.words a) ≡ a / 32) (sym x) (ap (bucket_of k) y_same_content ∙ (y_claim.offer refl).1)) (λ ne. h.placed q (sym (y_bit q ne) ∙ on)) (cases_eq q r))
      (let e = y_newer in let st = ap version stands in let yg = young in let w = ways_le 32 yn in omega arith)
      (record {
        claims = λ j c e. claim_same k s.words ys c (λ o l. b_word k s h (r / 32) yn y_bucket y_newer c.row (suc o)) (f.claims (suc j) c e);
        holds = each_more (λ x. Spells k ys x.1 (suc x.0)) (r, made) v.holds y_spelled (holds_stay k s h ys (b_stay k s h (r / 32) yn y_bucket y_newer) id yv at);
        passing = passing_stay k s h ys (b_stay k s h (r / 32) yn y_bucket y_newer) id yv at;
        hand = hand_stay k s h ys (b_stay k s h (r / 32) yn y_bucket y_newer) id yv at;
        scans = λ j y e. b_scan k s h (r / 32) yn y_bucket y_newer y (f.scans j y e);
        seen = λ j e g. let y = seen_stay k s h ys (b_stay k s h (r / 32) yn y_bucket y_newer) id yv at j e g in (let c = y.0 in omega arith, y.1, y.2);
        about = f.about;
        few = let g = f.few in let m = mine in let u = room in let d = g.1 in (omega arith, omega arith);
        alone = λ e. absurd (omega arith);
      })

-- ---- the row of a Dying claim whose bit was seen set is taken out of its bucket
pub bit_le : (k : Table) (ws : List ℕ) (q : ℕ) → bit k ws q ≤ 1
bit_le k ws q = ⊎_elim (λ (p : 0 < bit k ws q). let e = bit_is k ws q (bit_below k ws q p) in let l = bit_at-lt (bucket ws (q / 32)) (q % 32) in omega arith) (λ p. omega arith) (cases_lt 0 (bit k ws q))

module _ (k : Table) (s : State ℕ View) (h : Rule k s) (id : ℕ) (v : View) (r u : ℕ) (ks ws : List ℕ) (cs : List Claim) (at : get_elem? s.views id ≡ some (with_claims (claim r Marked ks u ws ∷ cs) v)) (mine : active v ≡ 1) (p : Past) where
  abbrev zv : View
  zv = with_claims (claim r Marked ks u ws ∷ cs) v

  abbrev old_word : ℕ
  old_word = bucket s.words (r / 32)

  abbrev new_word : ℕ
  new_word = old_word - 2 ^ (r % 32) + 2 ^ 32

  abbrev zw : View
  zw = clears (r / 32) old_word new_word (claim r Fill ks u ws) cs p v

  z_taken : state (control k s.words r) ≡ Taken
  z_taken = ⊎_elim (λ (e : Taken ≡ state (control k s.words r)). sym e) (λ ne. absurd (let o = one_else Taken (state (control k s.words r)) ne in let f = (h.rows r).taken in let l = le_total (claimed r) s.views id zv at in let i = one_self r in omega arith)) (cases_eq Taken (state (control k s.words r)))

  pub z_on : bit k s.words r ≡ 1
  z_on = let m = (h.rows r).marks in let l = le_total (marked r) s.views id zv at in let i = one_self r in let b = bit_le k s.words r in omega arith

  pub z_below : r < rows k
  z_below = bit_below k s.words r (let o = z_on in omega arith)

  pub z_bucket : r / 32 < k.buckets
  z_bucket = let l = z_below in omega arith

  pub z_set : bit_at old_word (r % 32) ≡ 1
  z_set = sym (bit_is k s.words r z_below) ∙ z_on

  pub z_newer : version new_word ≡ version old_word + 1
  z_newer = version_clear old_word (r % 32) (omega arith) z_set

  abbrev zs : List ℕ
  zs = bs k s h (r / 32) new_word z_bucket z_newer

  z_off : bit k zs r ≡ 0
  z_off = b_bit_here k s h (r / 32) new_word z_bucket z_newer r refl ∙ bit_clear_same old_word (r % 32) (omega arith) z_set

  z_bit : (q : ℕ) → q ≢ r → bit k zs q ≡ bit k s.words q
  z_bit q ne = ⊎_elim
      (λ (e : q / 32 ≡ r / 32). b_bit_here k s h (r / 32) new_word z_bucket z_newer q e ∙ bit_clear_other old_word (r % 32) (q % 32) (omega arith) (λ f. ne (omega arith)) z_set
      ∙ ap (λ a. bit_at a (q % 32)) (ap (bucket s.words) (sym e)) ∙ sym (bit_is k s.words q (let y = z_below in omega arith)))
      (λ ne. b_bit k s h (r / 32) new_word z_bucket z_newer q ne)
      (cases_eq (q / 32) (r / 32))

  -- what is published was published
  z_was : (q : ℕ) → bit k zs q ≡ 1 → bit k s.words q ≡ 1
  z_was q on = ⊎_elim (λ (e : q ≡ r). subst (λ a. bit k s.words a ≡ 1) (sym e) z_on) (λ ne. sym (z_bit q ne) ∙ on) (cases_eq q r)

  z_rows : Rows k zs (set s.views id zw)
  z_rows q =
      let f = h.rows q in
      let t = same_total (firm q) s.views id zv zw at refl in let a = b_refs k s h (r / 32) new_word z_bucket z_newer id zv at mine zw refl refl (λ o. refl) q in let c = b_cached k s h (r / 32) new_word z_bucket z_newer q in
      let x1 = same_total (weak q) s.views id zv zw at refl in let x2 = same_total (claimed q) s.views id zv zw at refl in let x3 = total_set (dying q) s.views id zv zw at in
      let x4 = total_set (marked q) s.views id zv zw at in let x5 = same_total (offered q) s.views id zv zw at refl in
      let n0 = b_word k s h (r / 32) new_word z_bucket z_newer q 0 in
      ⊎_elim
      (λ (e : q ≡ r). subst (λ q. RowFits (control k zs q) (bit k zs q) (named k zs (set s.views id zw) q) (total (weak q) (set s.views id zw)) (total (claimed q) (set s.views id zw)) (total (dying q) (set s.views id zw)) (total (marked q) (set s.views id zw)) (total (offered q) (set s.views id zw))) (sym e) here)
      (λ ne. let z = one_else r q (λ e. ne (sym e)) in row_same n0 (z_bit q ne) (omega arith) x1 x2 (omega arith) (omega arith) x5 f)
      (cases_eq q r)
    where
      here : RowFits (control k zs r) (bit k zs r) (named k zs (set s.views id zw) r) (total (weak r) (set s.views id zw)) (total (claimed r) (set s.views id zw)) (total (dying r) (set s.views id zw)) (total (marked r) (set s.views id zw)) (total (offered r) (set s.views id zw))
      here =
          let f = h.rows r in
          let t = same_total (firm r) s.views id zv zw at refl in let a = b_refs k s h (r / 32) new_word z_bucket z_newer id zv at mine zw refl refl (λ o. refl) r in let c = b_cached k s h (r / 32) new_word z_bucket z_newer r in
          let x1 = same_total (weak r) s.views id zv zw at refl in let x2 = same_total (claimed r) s.views id zv zw at refl in let x3 = total_set (dying r) s.views id zv zw at in
          let x4 = total_set (marked r) s.views id zv zw at in let x5 = same_total (offered r) s.views id zv zw at refl in
          let n0 = b_word k s h (r / 32) new_word z_bucket z_newer r 0 in let off = z_off in let on = z_on in let o = one_self r in let tk = z_taken in
          let t1 : one Taken (state (control k zs r)) ≡ one Taken (state (control k s.words r)) = ap (λ a. one Taken (state a)) n0 in
          let t2 : one Taken (state (control k s.words r)) ≡ 1 = ap (one Taken) tk ∙ one_self Taken in
          let cn : counted (control k zs r) ≡ counted (control k s.words r) = ap counted n0 in let sn : state (control k zs r) ≡ state (control k s.words r) = ap state n0 in
          let fc = f.counts in let ft = f.taken in let fb = f.bits in let fm = f.marks in let fs = f.states in
          let dl = dying_le r s.views in let ml = marked_le r s.views in let ol = offered_le r s.views in
          let none : all_named k s.words s.views r ≡ 0 = ⊎_elim (λ (y : 0 < all_named k s.words s.views r). absurd (let l = f.live y in omega arith)) (λ y. omega arith) (cases_lt 0 (all_named k s.words s.views r)) in
          record { states = omega arith; counts = omega arith; live = λ y. absurd (omega arith); taken = omega arith; bits = omega arith; marks = omega arith; published = λ y. absurd (omega arith) }

  z_scan : (x : Scan) → ScanFits k s.words x → ScanFits k zs (record x { word = cond (eqb x.bucket (r / 32)) (cond (eqb x.word old_word) new_word x.word) x.word })
  z_scan x f = ⊎_elim
      (λ (e : x.bucket ≡ r / 32). ⊎_elim
      (λ (g : x.word ≡ old_word). subst (λ b. ScanFits k zs (record x { word = cond b (cond (eqb x.word old_word) new_word x.word) x.word })) (sym (eq-eqb x.bucket (r / 32) e))
      (subst (λ b. ScanFits k zs (record x { word = cond b new_word x.word })) (sym (eq-eqb x.word old_word g))
      (let c : bucket zs x.bucket ≡ new_word = ap (bucket zs) e ∙ b_here k s h (r / 32) new_word z_bucket z_newer in let st : bucket s.words x.bucket ≡ x.word = ap (bucket s.words) e ∙ sym g in record {
        below = f.below;
        older = subst (λ a. version new_word ≤ version a) (sym c) (omega arith);
        same = λ _. c;
        parts = λ i y m. let u = f.parts i y m in (u.0, u.1, λ _ on. b_word k s h (r / 32) new_word z_bucket z_newer y.0 (suc y.1.0) ∙ u.2 st (z_was y.0 on));
        taken = λ i y m. let u = f.taken i y m in (u.0, λ _ on. ap state (b_word k s h (r / 32) new_word z_bucket z_newer y 0) ∙ u.1 st (z_was y on));
      })))
      (λ ng. subst (λ b. ScanFits k zs (record x { word = cond b (cond (eqb x.word old_word) new_word x.word) x.word })) (sym (eq-eqb x.bucket (r / 32) e))
      (subst (λ b. ScanFits k zs (record x { word = cond b new_word x.word })) (sym (ne_eqb x.word old_word ng)) (b_scan k s h (r / 32) new_word z_bucket z_newer x f)))
      (cases_eq x.word old_word))
      (λ ne. subst (λ b. ScanFits k zs (record x { word = cond b (cond (eqb x.word old_word) new_word x.word) x.word })) (sym (ne_eqb x.bucket (r / 32) ne)) (b_scan k s h (r / 32) new_word z_bucket z_newer x f))
      (cases_eq x.bucket (r / 32))

  z_scans : (xs : List Scan) → All (ScanFits k s.words) xs → All (ScanFits k zs) (rescan (r / 32) old_word new_word xs)
  z_scans [] f = λ i x e. absurd (some-ne-none x (sym e))
  z_scans (x ∷ xs) f = each_more (ScanFits k zs) (record x { word = cond (eqb x.bucket (r / 32)) (cond (eqb x.word old_word) new_word x.word) x.word }) (rescan (r / 32) old_word new_word xs)
      (z_scan x (f 0 x refl)) (z_scans xs (λ i y e. f (suc i) y e))

  pub clears_rule : Rule k (record { words = zs; homes = s.homes; views = set s.views id zw })
  clears_rule = let f = h.views id zv at in
      bucket_rule k s h (r / 32) new_word z_bucket z_newer id zv at mine zw refl refl z_rows
      (λ q o qb ob ql ol e. h.unique q o (z_was q qb) (z_was o ob) ql ol e)
      (λ q on. h.placed q (z_was q on))
      (let w = h.worn (r / 32) z_bucket in let e = z_newer in let a = ways_at 32 old_word new_word (r % 32) (omega arith) (λ i l ne. bit_clear_other old_word (r % 32) i l ne z_set) in
      let b = bit_clear_same old_word (r % 32) (omega arith) z_set in let c = z_set in omega arith)
      (record {
        claims = each_more (ClaimFits k zs) (claim r Fill ks u ws) cs
            (let g = claim_same k s.words zs (claim r Marked ks u ws) (λ o l. b_word k s h (r / 32) new_word z_bucket z_newer r (suc o)) (f.claims 0 (claim r Marked ks u ws) refl) in record { kept = g.kept; few = g.few; offer = λ e. absurd (let x : 2 ≡ 3 = ap phase_number e in omega arith) })
            (λ j c e. claim_same k s.words zs c (λ o l. b_word k s h (r / 32) new_word z_bucket z_newer c.row (suc o)) (f.claims (suc j) c e));
        holds = holds_stay k s h zs (b_stay k s h (r / 32) new_word z_bucket z_newer) id zv at;
        passing = passing_stay k s h zs (b_stay k s h (r / 32) new_word z_bucket z_newer) id zv at;
        hand = hand_stay k s h zs (b_stay k s h (r / 32) new_word z_bucket z_newer) id zv at;
        scans = z_scans v.scans f.scans;
        seen = seen_stay k s h zs (b_stay k s h (r / 32) new_word z_bucket z_newer) id zv at;
        about = f.about;
        few = f.few;
        alone = λ e. absurd (omega arith);
      })
