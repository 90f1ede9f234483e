-- A new table meets the rule.
use Rattle.std.proofs.Common.{◌≡◌, ℕ, zero, suc, ◌+◌, ◌-◌, ◌*◌, ◌/◌, ◌%◌, ◌<◌, ◌≤◌, ◌^◌, List, [], ◌∷◌, length, cond, ltb, sym, refl, ap, ◌∙◌, subst, ⊎_elim, arith, slice_index, ne_eqb, le-ltb, lt-ltb}
use mathlib.Core.Option.{some-ne-none}
use Rattle.std.specs.Int.{bit_at}
use Rattle.std.proofs.lemmas.Bool.{cases_lt}
use Rattle.std.proofs.lemmas.Nat.Bits.{bit_at_cat_low, bit_at-zero}
use Rattle.atomic_table.specs.Table.{opening}
use Rattle.row_rule.specs.Words.{Table, rows, size, word, row_word, state, control, line, line_names, bucket, bit, version, ways, Taken}
use Rattle.row_rule.specs.declared.view.View.{View}
use Rattle.row_rule.specs.Rule.{total, unread, refs, cached, Rows, ViewFits, Rule}
use Rattle.row_rule.specs.Changes.{first_word, first_view}
use Rattle.row_rule.proofs.Sums.{one_else, each_more}
use Rattle.row_rule.proofs.Frames.{ref_none, bit_is, bit_below}
use Rattle.row_rule.proofs.Caching.{empty_names}

module _ (k : Table) (young : ℕ) (ws : List ℕ) (long : length ws ≡ size k) (small : (0 < k.buckets) × (k.buckets ≤ 2 ^ 15) × (k.lines ≤ 2 ^ 16)) (new : young ≤ 2 ^ 32 - 32)
    (words : (i : ℕ) → slice_index ws i ≡ first_word k young i) where
  past_buckets : (i : ℕ) → k.buckets < i → slice_index ws i ≡ 0
  past_buckets i l = words i ∙ ap (λ b. cond b 1 (cond (ltb i (1 + k.buckets)) (young * 2 ^ 32) 0)) (ne_eqb i 0 (λ e. omega arith)) ∙ ap (λ b. cond b (young * 2 ^ 32) 0) (le-ltb i (1 + k.buckets) (omega arith))

  in_bucket : (b : ℕ) → b < k.buckets → bucket ws b ≡ young * 2 ^ 32
  in_bucket b l = words (1 + b) ∙ ap (λ x. cond x 1 (cond (ltb (1 + b) (1 + k.buckets)) (young * 2 ^ 32) 0)) (ne_eqb (1 + b) 0 (λ e. omega arith)) ∙ ap (λ x. cond x (young * 2 ^ 32) 0) (lt-ltb (1 + b) (1 + k.buckets) (omega arith))

  free : (r j : ℕ) → word k ws r j ≡ 0
  free r j = past_buckets (row_word k r j) (omega arith)

  no_line : (l : ℕ) → line k ws l ≡ 0
  no_line l = past_buckets (1 + k.buckets + l) (omega arith)

  no_bit : (i : ℕ) → i < 32 → bit_at (young * 2 ^ 32) i ≡ 0
  no_bit i l = (let e : young * 2 ^ 32 ≡ young * 2 ^ 32 + 0 = omega arith in ap (λ a. bit_at a i) e) ∙ bit_at_cat_low young 32 0 i l ∙ bit_at-zero i

  no_ways : (m : ℕ) → m ≤ 32 → ways m (young * 2 ^ 32) ≡ 0
  no_ways zero l = refl
  no_ways (suc m) l = let a = no_bit m (omega arith) in let b = no_ways m (omega arith) in omega arith

  off : (q : ℕ) → bit k ws q ≡ 0
  off q = ⊎_elim (λ (p : 0 < bit k ws q). let l = bit_below k ws q p in bit_is k ws q l ∙ ap (λ a. bit_at a (q % 32)) (in_bucket (q / 32) (omega arith)) ∙ no_bit (q % 32) (omega arith)) (λ p. omega arith) (cases_lt 0 (bit k ws q))

  abbrev vs : List View
  vs = first_view k ∷ []

  no_refs : (q n : ℕ) → refs n k ws (λ o. total (unread o) vs) q ≡ 0
  no_refs q zero = refl
  no_refs q (suc n) = let a = ref_none k ws (λ o. total (unread o) vs) q n (λ e. let f = free n 0 in omega arith) (omega arith) in let b = no_refs q n in omega arith

  no_cached : (q n : ℕ) → cached n k ws q ≡ 0
  no_cached q zero = refl
  no_cached q (suc n) = let a : line_names (line k ws n) q ≡ 0 = empty_names (line k ws n) q (let f = no_line n in omega arith) in let b = no_cached q n in omega arith

  first_rows : Rows k ws vs
  first_rows q = let f = free q 0 in let a = no_refs q (rows k) in let b = no_cached q k.lines in let o = off q in
      let t = one_else Taken (state (control k ws q)) (λ e. omega arith) in
      record { states = omega arith; counts = omega arith; live = λ y. absurd (omega arith); taken = omega arith; bits = omega arith; marks = omega arith; published = λ y. absurd (omega arith) }

  pub first_rule : (homes : List ℕ) → Rule k (opening ws homes (first_view k))
  first_rule homes = record {
    sized = long;
    small = small;
    rows = first_rows;
    deep = λ q l. absurd (let f = free q 0 in omega arith);
    unique = λ q p qb pb ql pl e. absurd (let f = free q 0 in omega arith);
    placed = λ q on. absurd (let o = off q in omega arith);
    worn = λ b l. subst (λ a. version a + ways 32 a ≤ 2 ^ 32 - 32) (sym (in_bucket b l)) (let w = no_ways 32 (omega arith) in let n = new in omega arith);
    lines = λ l b. λ ne. absurd (ne (let f = no_line l in omega arith));
    passes = words 0;
    seats = omega arith;
    views = each_more (ViewFits k ws) (first_view k) [] (record {
      claims = λ i x e. absurd (some-ne-none x (sym e));
      holds = λ i x e. absurd (some-ne-none x (sym e));
      passing = λ i x e. absurd (some-ne-none x (sym e));
      hand = λ i x e. absurd (some-ne-none x (sym e));
      scans = λ i x e. absurd (some-ne-none x (sym e));
      seen = λ i x e. absurd (some-ne-none x (sym e));
      about = λ _. (refl, refl, refl);
      few = (omega arith, omega arith);
      alone = λ e. absurd (omega arith);
    })
        (λ i x e. absurd (some-ne-none x (sym e)));
  }
