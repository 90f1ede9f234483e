-- The steps of a scan, a pin and a bucket word are allowed.
use Rattle.std.proofs.Common.{◌≡◌, ℕ, zero, suc, ◌+◌, ◌-◌, ◌/◌, ◌%◌, ◌<◌, ◌≤◌, ◌≢◌, ◌^◌, List, [], ◌∷◌, length, set, eqb, sym, refl, ap, ◌∙◌, subst, ⊎_elim, arith, slice_index, mod-eq_of_lt, pow_mono}
use prog.Atomic.{either}
use mathlib.Core.Option.{some, some-injective}
use lib.ListN.{get_elem?}
use Rattle.std.specs.Int.{bit_at}
use Rattle.std.proofs.lemmas.Bool.{cases_eq}
use Rattle.atomic_table.specs.Table.{State, Me, Allows, keeps}
use Rattle.store_api.specs.Tree.{Tree, Node, kid}
use Rattle.store_api.specs.Bag.{one_self}
use Rattle.row_rule.specs.Known.{Scan, Marked, Fill, Offered, Past}
use Rattle.row_rule.specs.Words.{Table, rows, size, row_word, state, control, child, left, right, Proper, bucket, bit, version, Taken, Live}
use Rattle.row_rule.specs.declared.view.View.{View}
use Rattle.row_rule.specs.Rule.{held, named, active, others, Spells, Told, Rule}
use Rattle.row_rule.specs.Changes.{claim, with_claims, with_pins, with_scan, stirred, frees, clears, begins, scans_part, scans_control, scans_taken, pinned, unpins, confirms, publishes, gains, top_of, rest_of, IsTop, NotSeen, Holds, shape_of, known, made, tried, loads, tree_at}
use Rattle.row_rule.specs.Plays.{row_at, PartIs}
use Rattle.row_rule.proofs.Frames.{weak_named, child_named, same_words, spells_left, spells_right, spells_live, bit_is, children_left, children_right, spells_same, spells_first, spells_second, holds_spell}
use Rattle.row_rule.proofs.Bounds.{count_small}
use Rattle.row_rule.proofs.Bits.{clear_le}
use Rattle.row_rule.proofs.Publishing.{z_set, z_bucket, clears_rule, publishes_rule}
use Rattle.row_rule.proofs.Counting.{gains_rule, pins_rule, unpins_rule, withdraws_rule}
use Rattle.row_rule.proofs.Reading.{begins_rule, scans_part_rule, scans_control_rule, scans_taken_rule, confirms_rule, loads_rule}
use Rattle.row_rule.proofs.Allowed.{row_is, known_at, set_at, part_is}
use Rattle.row_rule.proofs.Telling.{told}
use Rattle.row_rule.proofs.Claiming.{on_words, exchange_at}

module _ (k : Table) (id : ℕ) (me : Me ℕ View) (mine : active me.0 ≡ 1) where
  the_row : (s : State ℕ View) → Rule k s → get_elem? s.views id ≡ some me.0 → (r j i q o : ℕ) → j < 11 → o < 11 → i ≡ row_word k r j → i ≡ row_at me.0 q o → (r ≡ q) × (j ≡ o)
  the_row s h at r j i q o jl ol e f = let a = (h.views id me.0 at).about mine in row_is me.0 k a.1 a.2 r q j o jl ol (sym e ∙ f)

  -- a load leaves the words
  unchanged : (s : State ℕ View) → Rule k s → (i : ℕ) → i < size k → (w : View) → Rule k (record { words = s.words; homes = s.homes; views = set s.views id w }) → Rule k (record { words = set s.words i (slice_index s.words i); homes = s.homes; views = set s.views id w })
  unchanged s h i inside w = on_words k s.homes (set s.views id w) s.words (set s.words i (slice_index s.words i)) (sym (same_words s.words i (let z = h.sized in omega arith)))

  -- ---- a scan begins
  pub begins_at : (b i : ℕ) → i ≡ 1 + b → b < k.buckets
      → Allows (Rule k) 0 id me i (λ n. n) (λ n after. (c : ℕ) → i ≡ 1 + c → after ≡ (begins c n i (made i n n me.0.past) me.0, me.1))
  begins_at b i at_word lt s h slots at small =
      let n : ℕ = slice_index s.words i in let w : View = begins b n i (made i n n me.0.past) me.0 in (
        w,
        keeps,
        tt,
        unchanged s h i (omega arith) w
            (subst (λ (a : ℕ). Rule k (record { words = s.words; homes = s.homes; views = set s.views id (begins b (slice_index s.words a) a (made i n n me.0.past) me.0) })) (sym at_word) (begins_rule k s h id me.0 at mine (made i n n me.0.past) b lt)),
        λ c e. ap (λ a. (begins a n i (made i n n me.0.past) me.0, me.1)) (same b c (sym at_word ∙ e)),
      )
    where
      same : (a b : ℕ) → 1 + a ≡ 1 + b → a ≡ b
      same a b e = omega arith

  -- the scan sees a control word
  module _ (x : Scan) (scan : me.0.scans ≡ x ∷ []) where
    scan_at : (s : State ℕ View) → get_elem? s.views id ≡ some me.0 → get_elem? s.views id ≡ some (with_scan x me.0)
    scan_at s at = at ∙ (λ j. some (record me.0 { scans = scan j }))

    pub scans_control_at : (r i : ℕ) → i ≡ row_word k r 0 → r < rows k → r / 32 ≡ x.bucket
        → Allows (Rule k) 0 id me i (λ n. n) (λ n after. (q : ℕ) → i ≡ row_at me.0 q 0 → (state n ≡ Taken → after ≡ (scans_taken x q n i (made i n n me.0.past) me.0, me.1)) × (state n ≢ Taken → after ≡ (scans_control x q n i (made i n n me.0.past) me.0, me.1)))
    scans_control_at r i at_row lt in_bucket s h slots at small =
        let n : ℕ = slice_index s.words i in let p = made i n n me.0.past in let e : control k s.words r ≡ n = ap (slice_index s.words) (sym at_row) in
        ⊎_elim
        (λ (t : state n ≡ Taken). (
          scans_taken x r n i p me.0,
          keeps,
          tt,
          unchanged s h i (omega arith) (scans_taken x r n i p me.0)
              (subst (λ (a : ℕ). Rule k (record { words = s.words; homes = s.homes; views = set s.views id (scans_taken x r (slice_index s.words a) a p me.0) })) (sym at_row)
              (scans_taken_rule k s h id me.0 x (scan_at s at) mine p r in_bucket (ap state e ∙ t))),
          λ q f. ((λ _. ap (λ a. (scans_taken x a n i p me.0, me.1)) (the_row s h at r 0 i q 0 (omega arith) (omega arith) at_row f).0), (λ nt. absurd (nt t))),
        ))
        (λ nt. (
          scans_control x r n i p me.0,
          keeps,
          tt,
          unchanged s h i (omega arith) (scans_control x r n i p me.0)
              (subst (λ (a : ℕ). Rule k (record { words = s.words; homes = s.homes; views = set s.views id (scans_control x r (slice_index s.words a) a p me.0) })) (sym at_row)
              (scans_control_rule k s h id me.0 x (scan_at s at) mine p r)),
          λ q f. ((λ t. absurd (nt t)), (λ _. ap (λ a. (scans_control x a n i p me.0, me.1)) (the_row s h at r 0 i q 0 (omega arith) (omega arith) at_row f).0)),
        ))
        (cases_eq (state n) Taken)

    -- the scan sees a content word
    pub scans_part_at : (r j i : ℕ) → i ≡ row_word k r (suc j) → r < rows k → j < 10 → r / 32 ≡ x.bucket
        → Allows (Rule k) 0 id me i (λ n. n) (λ n after. (q o : ℕ) → o < 10 → i ≡ row_at me.0 q (suc o) → after ≡ (scans_part x q o n i (made i n n me.0.past) me.0, me.1))
    scans_part_at r j i at_row lt jl in_bucket s h slots at small =
        let n : ℕ = slice_index s.words i in let p = made i n n me.0.past in (
          scans_part x r j n i p me.0,
          keeps,
          tt,
          unchanged s h i (omega arith) (scans_part x r j n i p me.0)
              (subst (λ (a : ℕ). Rule k (record { words = s.words; homes = s.homes; views = set s.views id (scans_part x r j (slice_index s.words a) a p me.0) })) (sym at_row)
              (scans_part_rule k s h id me.0 x (scan_at s at) mine p r j in_bucket jl)),
          λ q o ol f. let w = the_row s h at r (suc j) i q (suc o) (omega arith) (omega arith) at_row f in
              ap (λ (a : ℕ × ℕ). (scans_part x a.0 a.1 n i p me.0, me.1)) (λ t. (w.0 t, same j o w.1 t)),
        )
      where
        same : (a b : ℕ) → suc a ≡ suc b → a ≡ b
        same a b e = omega arith

  -- ---- a pin on a row that was seen Live
  pub pins_at : (r i old : ℕ) → i ≡ row_word k r 0 → r < rows k → state old ≡ Live → others me.0 < 1024
      → Allows (Rule k) 0 id me i (λ n. either (eqb n old) (old + 8) n) (λ n after. (q : ℕ) → i ≡ row_at me.0 q 0 → (n ≡ old → after ≡ (pinned q (made i n (old + 8) me.0.past) me.0, me.1)) × (n ≢ old → after ≡ (stirred (tried i n n me.0.past) me.0, me.1)))
  pins_at r i old at_row lt live room = exchange_at k id me i old (old + 8) (λ p. pinned r p me.0) (λ n after. (q : ℕ) → i ≡ row_at me.0 q 0 → (n ≡ old → after ≡ (pinned q (made i n (old + 8) me.0.past) me.0, me.1)) × (n ≢ old → after ≡ (stirred (tried i n n me.0.past) me.0, me.1))) (omega arith) mine
      (λ s h at e p. on_words k s.homes (set s.views id (pinned r p me.0)) (set s.words (row_word k r 0) (old + 8)) (set s.words i (old + 8)) (ap (λ a. set s.words a (old + 8)) (sym at_row))
      (let c : control k s.words r ≡ old = ap (slice_index s.words) (sym at_row) ∙ e in pins_rule k s h id me.0 at mine p r (old + 8) (omega (arith, c, live)) (omega (arith, live)) (omega (arith, c)) room))
      (λ s h at n e g q f. ((λ _. ap (λ a. (pinned a (made i n (old + 8) me.0.past) me.0, me.1)) (the_row s h at r 0 i q 0 (omega arith) (omega arith) at_row f).0), (λ ne. absurd (ne e))))
      (λ s h at n ne q f. ((λ e. absurd (ne e)), (λ _. refl)))

  -- one name less, of the pin or the offer
  wraps : (n : ℕ) → 8 ≤ n → n < 2 ^ 64 → (n + (2 ^ 64 - 8)) % 2 ^ 64 + 8 ≡ n
  wraps n p q = omega arith

  same_eight : (m o n : ℕ) → m + 8 ≡ n → o + 8 ≡ n → m ≡ o
  same_eight m o n a b = omega arith

  pub unpins_at : (r : ℕ) (ps : List ℕ) (i : ℕ) → i ≡ row_word k r 0 → me.0.pins ≡ r ∷ ps
      → Allows (Rule k) 0 id me i (λ n. (n + (2 ^ 64 - 8)) % 2 ^ 64) (λ n after. (8 ≤ n) × ((m : ℕ) → m + 8 ≡ n → after ≡ (unpins ps (made i n m me.0.past) me.0, me.1)))
  unpins_at r ps i at_row pin s h slots at small =
      let n : ℕ = slice_index s.words i in let e : n ≡ control k s.words r = ap (slice_index s.words) at_row in let a : get_elem? s.views id ≡ some (with_pins (r ∷ ps) me.0) = at ∙ (λ j. some (with_pins (pin j) me.0)) in
      let o = one_self r in let f = weak_named k s h id (with_pins (r ∷ ps) me.0) a r (omega arith) in let rc = (h.rows r).counts in
      let m : ℕ = (n + (2 ^ 64 - 8)) % 2 ^ 64 in let less : m + 8 ≡ n = wraps n (omega arith) small in (
        unpins ps (made i n m me.0.past) me.0,
        keeps,
        tt,
        on_words k s.homes (set s.views id (unpins ps (made i n m me.0.past) me.0)) (set s.words (row_word k r 0) m) (set s.words i m) (ap (λ a. set s.words a m) (sym at_row))
            (unpins_rule k s h id me.0 r m ps a mine (made i n m me.0.past) (omega (arith, less, e)) (omega (arith, less, e))),
        (omega arith, λ o g. ap (λ a. (unpins ps (made i n a me.0.past) me.0, me.1)) (same_eight m o n less g)),
      )

  pub withdraws_at : (i : ℕ) → i ≡ row_word k (top_of me.0).row 0 → IsTop Offered [] 0 me.0
      → Allows (Rule k) 0 id me i (λ n. (n + (2 ^ 64 - 8)) % 2 ^ 64) (λ n after. (8 ≤ n) × ((m : ℕ) → m + 8 ≡ n → after ≡ (frees (rest_of me.0) (made i n m me.0.past) me.0, me.1)))
  withdraws_at i at_row top s h slots at small =
      let c = top_of me.0 in let cs = rest_of me.0 in
      let n : ℕ = slice_index s.words i in let e : n ≡ control k s.words c.row = ap (slice_index s.words) at_row in let a : get_elem? s.views id ≡ some (with_claims (claim c.row Offered [] 0 c.kept ∷ cs) me.0) = at ∙ (λ j. some (with_claims (top j) me.0)) in
      let o = one_self c.row in let f = weak_named k s h id (with_claims (claim c.row Offered [] 0 c.kept ∷ cs) me.0) a c.row (omega arith) in let rc = (h.rows c.row).counts in
      let m : ℕ = (n + (2 ^ 64 - 8)) % 2 ^ 64 in let less : m + 8 ≡ n = wraps n (omega arith) small in (
        frees cs (made i n m me.0.past) me.0,
        keeps,
        tt,
        on_words k s.homes (set s.views id (frees cs (made i n m me.0.past) me.0)) (set s.words (row_word k c.row 0) m) (set s.words i m) (ap (λ a. set s.words a m) (sym at_row))
            (withdraws_rule k s h id me.0 c.row m c.kept cs a mine (made i n m me.0.past) (omega (arith, less, e)) (omega (arith, less, e))),
        (omega arith, λ o g. ap (λ a. (frees cs (made i n a me.0.past) me.0, me.1)) (same_eight m o n less g)),
      )

  -- ---- the bit of a Dying row that was seen set is cleared
  pub clears_at : (i : ℕ) → i ≡ 1 + (top_of me.0).row / 32 → IsTop Marked (top_of me.0).kids (top_of me.0).unread me.0
      → Allows (Rule k) 0 id me i (λ n. (n + (2 ^ 32 - 2 ^ ((top_of me.0).row % 32))) % 2 ^ 64)
      (λ n after. after ≡ (clears ((top_of me.0).row / 32) n (n - 2 ^ ((top_of me.0).row % 32) + 2 ^ 32) (claim (top_of me.0).row Fill (top_of me.0).kids (top_of me.0).unread (top_of me.0).kept) (rest_of me.0) (tried i n (n - 2 ^ ((top_of me.0).row % 32) + 2 ^ 32) me.0.past) me.0, me.1))
  clears_at i at_word top s h slots at small =
      let c = top_of me.0 in let cs = rest_of me.0 in let n : ℕ = slice_index s.words i in
      let a : get_elem? s.views id ≡ some (with_claims (claim c.row Marked c.kids c.unread c.kept ∷ cs) me.0) = at ∙ (λ j. some (with_claims (top j) me.0)) in
      let z = z_set k s h id me.0 c.row c.unread c.kids c.kept cs a mine (tried i n (n - 2 ^ (c.row % 32) + 2 ^ 32) me.0.past) in
      let b : bucket s.words (c.row / 32) ≡ n = ap (slice_index s.words) (sym at_word) in
      let low : 2 ^ (c.row % 32) ≤ n = clear_le n (c.row % 32) (ap (λ a. bit_at a (c.row % 32)) (sym b) ∙ z) in
      let w = h.worn (c.row / 32) (z_bucket k s h id me.0 c.row c.unread c.kids c.kept cs a mine (tried i n (n - 2 ^ (c.row % 32) + 2 ^ 32) me.0.past)) in
      let p : Past = tried i n (n - 2 ^ (c.row % 32) + 2 ^ 32) me.0.past in
      let sum : (n + (2 ^ 32 - 2 ^ (c.row % 32))) % 2 ^ 64 ≡ n - 2 ^ (c.row % 32) + 2 ^ 32 = fits n (2 ^ (c.row % 32)) low (power (c.row % 32) (omega arith)) (let v : version (bucket s.words (c.row / 32)) ≡ version n = ap version b in omega arith) in (
        clears (c.row / 32) n (n - 2 ^ (c.row % 32) + 2 ^ 32) (claim c.row Fill c.kids c.unread c.kept) cs p me.0,
        keeps,
        tt,
        subst (λ (x : ℕ × (ℕ × ℕ)). Rule k (record { words = set s.words x.0 x.1.0; homes = s.homes; views = set s.views id (clears (c.row / 32) x.1.1 (x.1.1 - 2 ^ (c.row % 32) + 2 ^ 32) (claim c.row Fill c.kids c.unread c.kept) cs p me.0) }))
            (λ j. (sym at_word j, ((ap (λ a. a - 2 ^ (c.row % 32) + 2 ^ 32) b ∙ sym sum) j, b j)))
            (clears_rule k s h id me.0 c.row c.unread c.kids c.kept cs a mine p),
        refl,
      )
    where
      power : (w : ℕ) → w < 32 → 2 ^ w ≤ 2 ^ 32
      power w l = pow_mono (let x : w ≤ 32 = omega arith in x)

      fits : (n q : ℕ) → q ≤ n → q ≤ 2 ^ 32 → n / 2 ^ 32 ≤ 2 ^ 32 - 32 → (n + (2 ^ 32 - q)) % 2 ^ 64 ≡ n - q + 2 ^ 32
      fits n q a b c = omega arith

  -- ---- one hold of the first or the second subtree of a row that is held, where its child word was seen
  pub gains_left_at : (q w r i : ℕ) → i ≡ row_word k r 0 → 0 < held me.0.holds q → get_elem? me.0.seen 0 ≡ some (q, (1, w)) → left w ≡ suc r → length me.0.holds < 2 ^ 32
      → Allows (Rule k) 0 id me i (λ n. (n + 8) % 2 ^ 64) (λ n after. ((o a b : ℕ) → i ≡ row_at me.0 o 0 → get_elem? me.0.seen 0 ≡ some (a, (1, b)) → after ≡ (gains o (kid (known me.0.holds a) 0) (made i n (n + 8) me.0.past) me.0, me.1)) × Told after.0)
  gains_left_at q w r i at_row has seen names room s h slots at small =
      let n : ℕ = slice_index s.words i in let x : n ≡ control k s.words r = ap (slice_index s.words) at_row in let cn = count_small k s h r in let f = h.views id me.0 at in
      let m : (n + 8) % 2 ^ 64 ≡ n + 8 = mod-eq_of_lt (omega arith) in let g = known_at me.0.holds q has in
      let y = (f.seen 0 (q, (1, w)) seen).2 in let t : Tree = kid (known me.0.holds q) 0 in
      let sp : Spells k s.words (known me.0.holds q) (suc q) = f.holds g.0 (q, known me.0.holds q) g.1 in
      let link : left (child k s.words q) ≡ suc r = ap left y ∙ names in
      let below : 0 < named k s.words s.views r = child_named k s h q r (spells_live k s.words (known me.0.holds q) q sp) (children_left (child k s.words q) r link) in
      let v : View = gains r t (made i n (n + 8) me.0.past) me.0 in
      let rule : Rule k (record { words = set s.words i ((n + 8) % 2 ^ 64); homes = s.homes; views = set s.views id v }) =
      on_words k s.homes (set s.views id v) (set s.words (row_word k r 0) ((n + 8) % 2 ^ 64)) (set s.words i ((n + 8) % 2 ^ 64)) (ap (λ a. set s.words a ((n + 8) % 2 ^ 64)) (sym at_row))
      (gains_rule k s h id me.0 at mine (made i n (n + 8) me.0.past) r ((n + 8) % 2 ^ 64) below t (spells_left k s.words (known me.0.holds q) q r sp link) (omega (arith, m, x)) (omega (arith, m, x)) room) in (
        v,
        keeps,
        tt,
        rule,
        (
          (λ o a b z y. ap (λ (c : ℕ × ℕ). (gains c.0 (kid (known me.0.holds c.1) 0) (made i n (n + 8) me.0.past) me.0, me.1)) (λ j. ((the_row s h at r 0 i o 0 (omega arith) (omega arith) at_row z).0 j, (some-injective (q, (1, w)) (a, (1, b)) (sym seen ∙ y) j).0))),
          told k (record { words = set s.words i ((n + 8) % 2 ^ 64); homes = s.homes; views = set s.views id v }) rule id v (set_at s.views id me.0 v at) mine,
        ),
      )

  pub gains_right_at : (q w r i : ℕ) → i ≡ row_word k r 0 → 0 < held me.0.holds q → get_elem? me.0.seen 0 ≡ some (q, (1, w)) → right w ≡ suc r → length me.0.holds < 2 ^ 32
      → Allows (Rule k) 0 id me i (λ n. (n + 8) % 2 ^ 64) (λ n after. ((o a b : ℕ) → i ≡ row_at me.0 o 0 → get_elem? me.0.seen 0 ≡ some (a, (1, b)) → after ≡ (gains o (kid (known me.0.holds a) 1) (made i n (n + 8) me.0.past) me.0, me.1)) × Told after.0)
  gains_right_at q w r i at_row has seen names room s h slots at small =
      let n : ℕ = slice_index s.words i in let x : n ≡ control k s.words r = ap (slice_index s.words) at_row in let cn = count_small k s h r in let f = h.views id me.0 at in
      let m : (n + 8) % 2 ^ 64 ≡ n + 8 = mod-eq_of_lt (omega arith) in let g = known_at me.0.holds q has in
      let y = (f.seen 0 (q, (1, w)) seen).2 in let t : Tree = kid (known me.0.holds q) 1 in
      let sp : Spells k s.words (known me.0.holds q) (suc q) = f.holds g.0 (q, known me.0.holds q) g.1 in
      let link : right (child k s.words q) ≡ suc r = ap right y ∙ names in
      let below : 0 < named k s.words s.views r = child_named k s h q r (spells_live k s.words (known me.0.holds q) q sp) (children_right (child k s.words q) r link) in
      let v : View = gains r t (made i n (n + 8) me.0.past) me.0 in
      let rule : Rule k (record { words = set s.words i ((n + 8) % 2 ^ 64); homes = s.homes; views = set s.views id v }) =
      on_words k s.homes (set s.views id v) (set s.words (row_word k r 0) ((n + 8) % 2 ^ 64)) (set s.words i ((n + 8) % 2 ^ 64)) (ap (λ a. set s.words a ((n + 8) % 2 ^ 64)) (sym at_row))
      (gains_rule k s h id me.0 at mine (made i n (n + 8) me.0.past) r ((n + 8) % 2 ^ 64) below t (spells_right k s.words (known me.0.holds q) q r sp link) (omega (arith, m, x)) (omega (arith, m, x)) room) in (
        v,
        keeps,
        tt,
        rule,
        (
          (λ o a b z y. ap (λ (c : ℕ × ℕ). (gains c.0 (kid (known me.0.holds c.1) 1) (made i n (n + 8) me.0.past) me.0, me.1)) (λ j. ((the_row s h at r 0 i o 0 (omega arith) (omega arith) at_row z).0 j, (some-injective (q, (1, w)) (a, (1, b)) (sym seen ∙ y) j).0))),
          told k (record { words = set s.words i ((n + 8) % 2 ^ 64); homes = s.homes; views = set s.views id v }) rule id v (set_at s.views id me.0 v at) mine,
        ),
      )

  -- ---- the offered row is put into its bucket, where the word is still the scan's
  pub publishes_at : (x : Scan) (i : ℕ) → i ≡ 1 + (top_of me.0).row / 32 → (j : ℕ) → get_elem? me.0.scans j ≡ some x → x.bucket ≡ (top_of me.0).row / 32 → NotSeen x ((top_of me.0).row / 32) (top_of me.0).kept → version x.word < 2 ^ 32 - 64
      → IsTop Offered [] 0 me.0 → Proper (slice_index (top_of me.0).kept 1) → (a b : Tree) → Holds me.0 (left (slice_index (top_of me.0).kept 1)) a → Holds me.0 (right (slice_index (top_of me.0).kept 1)) b → length me.0.holds < 2 ^ 32 → (top_of me.0).row < rows k
      → Allows (Rule k) 0 id me i (λ n. either (eqb n x.word) (x.word + 2 ^ ((top_of me.0).row % 32) + 2 ^ 32) n)
      (λ n after. (n ≡ x.word → (after ≡ (publishes (top_of me.0).row (Node (shape_of (top_of me.0).kept) a b) (rest_of me.0) (made i n (x.word + 2 ^ ((top_of me.0).row % 32) + 2 ^ 32) me.0.past) me.0, me.1)) × Told after.0)
      × (n ≢ x.word → after ≡ (stirred (tried i n n me.0.past) me.0, me.1)))
  publishes_at x i at_word j scan of_bucket unseen young top proper a b first second room lt =
      let c = top_of me.0 in let cs = rest_of me.0 in
      exchange_at k id me i x.word (x.word + 2 ^ (c.row % 32) + 2 ^ 32) (λ p. publishes c.row (Node (shape_of c.kept) a b) cs p me.0)
      (λ n after. (n ≡ x.word → (after ≡ (publishes c.row (Node (shape_of c.kept) a b) cs (made i n (x.word + 2 ^ (c.row % 32) + 2 ^ 32) me.0.past) me.0, me.1)) × Told after.0) × (n ≢ x.word → after ≡ (stirred (tried i n n me.0.past) me.0, me.1))) (omega arith) mine
      (λ s h at e p. on_words k s.homes (set s.views id (publishes c.row (Node (shape_of c.kept) a b) cs p me.0)) (set s.words (1 + c.row / 32) (x.word + 2 ^ (c.row % 32) + 2 ^ 32)) (set s.words i (x.word + 2 ^ (c.row % 32) + 2 ^ 32)) (ap (λ a. set s.words a (x.word + 2 ^ (c.row % 32) + 2 ^ 32)) (sym at_word))
      (publishes_rule k s h id me.0 c.row c.kept cs (at ∙ (λ t. some (with_claims (top t) me.0))) mine p j x scan of_bucket (ap (slice_index s.words) (sym at_word) ∙ e) unseen young proper a b first second room))
      (λ s h at n e g. let v : View = publishes c.row (Node (shape_of c.kept) a b) cs (made i n (x.word + 2 ^ (c.row % 32) + 2 ^ 32) me.0.past) me.0 in
      ((λ _. (refl, told k (record { words = set s.words i (x.word + 2 ^ (c.row % 32) + 2 ^ 32); homes = s.homes; views = set s.views id v }) g id v (set_at s.views id me.0 v at) mine)), (λ ne. absurd (ne e))))
      (λ s h at n ne. ((λ e. absurd (ne e)), (λ _. refl)))

  -- ---- the pin is a hold where the bucket's word is still the scan's
  pub confirms_at : (r : ℕ) (x : Scan) (i : ℕ) → i ≡ 1 + r / 32 → me.0.pins ≡ r ∷ [] → me.0.scans ≡ x ∷ [] → r / 32 ≡ x.bucket → bit_at x.word (r % 32) ≡ 1 → r < rows k → length me.0.holds < 2 ^ 32
      → Allows (Rule k) 0 id me i (λ n. n) (λ n after.
      (n ≢ x.word → after ≡ (loads i n (tried i n n me.0.past) me.0, me.1))
      × (n ≡ x.word → (t : Tree) × (after ≡ (confirms r t [] n i (tried i n n me.0.past) me.0, me.1)) × Told after.0
      × ((e j m : ℕ) → get_elem? x.parts e ≡ some (r, (j, m)) → PartIs t j m)
      × ((e w : ℕ) → get_elem? x.parts e ≡ some (r, (1, w)) → ((a : Tree) → Holds me.0 (left w) a → kid t 0 ≡ a) × ((a : Tree) → Holds me.0 (right w) a → kid t 1 ≡ a))))
  confirms_at r x i at_word pin scan in_bucket set_bit lt room s h slots at small =
      let n : ℕ = slice_index s.words i in let p : Past = tried i n n me.0.past in ⊎_elim
      (λ (e : n ≡ x.word).
      let b : bucket s.words (r / 32) ≡ n = ap (slice_index s.words) (sym at_word) in
      let on : bit k s.words r ≡ 1 = bit_is k s.words r lt ∙ ap (λ a. bit_at a (r % 32)) (b ∙ e) ∙ set_bit in
      let st : bucket s.words x.bucket ≡ x.word = ap (bucket s.words) (sym in_bucket) ∙ b ∙ e in
      let a : get_elem? s.views id ≡ some (with_pins (r ∷ []) me.0) = at ∙ (λ j. some (with_pins (pin j) me.0)) in
      let o = one_self r in let live = (h.rows r).live (weak_named k s h id (with_pins (r ∷ []) me.0) a r (omega arith)) in
      let d = h.deep r live in let t : Tree = d.0 in
      let v : View = confirms r t [] n i p me.0 in
      let rule = unchanged s h i (omega arith) v (confirms_rule k s h id me.0 r [] a mine p i on room t d.1) in
      let f = (h.views id me.0 at).scans 0 x (ap (λ l. get_elem? l 0) scan) in (
        v,
        keeps,
        tt,
        rule,
        (
          (λ ne. absurd (ne e)),
          (λ _. (
            t,
            refl,
            told k (record { words = set s.words i n; homes = s.homes; views = set s.views id v }) rule id v (set_at s.views id me.0 v at) mine,
            (λ y j m g. let u = f.parts y (r, (j, m)) g in subst (PartIs t j) (u.2 st on) (part_is k s.words t r j u.1 d.1)),
            (λ y w g. let u = f.parts y (r, (1, w)) g in let c : child k s.words r ≡ w = u.2 st on in let hs = (h.views id me.0 at).holds in (
              (λ q z. spells_same k s.words (kid t 0) q (left (child k s.words r)) (left w) (ap left c) (spells_first k s.words t r d.1) (holds_spell k s.words me.0 hs (left w) q z)),
              (λ q z. spells_same k s.words (kid t 1) q (right (child k s.words r)) (right w) (ap right c) (spells_second k s.words t r d.1) (holds_spell k s.words me.0 hs (right w) q z)),
            )),
          )),
        ),
      ))
      (λ ne. (loads i n p me.0, keeps, tt, unchanged s h i (omega arith) (loads i n p me.0) (loads_rule k s h id me.0 at mine p i), ((λ _. refl), (λ e. absurd (ne e)))))
      (cases_eq n x.word)

-- the tree that is known of a row that is held, or no tree
pub holds_tree : (v : View) (w : ℕ) → ((q : ℕ) → w ≡ suc q → 0 < held v.holds q) → Holds v w (tree_at v w)
holds_tree v zero h = ((λ _. refl), (λ q e. absurd (omega arith)))
holds_tree v (suc r) h = ((λ e. absurd (omega arith)), (λ q e. let f : r ≡ q = omega arith in let g = known_at v.holds r (h r refl) in (g.0, g.1 ∙ ap (λ a. some (a, known v.holds r)) f)))
