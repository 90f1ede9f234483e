-- The steps of a claim are allowed.
use Rattle.std.proofs.Common.{◌≡◌, ℕ, suc, ◌+◌, ◌-◌, ◌*◌, ◌/◌, ◌%◌, ◌<◌, ◌≤◌, ◌≢◌, ◌^◌, List, [], ◌∷◌, ◌++◌, length, set, eqb, sym, refl, ap, ◌∙◌, subst, ⊎_elim, arith, slice_index, eq-eqb, ne_eqb, mod-eq_of_lt}
use prog.Atomic.{either}
use mathlib.Core.Option.{Option, some}
use lib.ListN.{get_elem?}
use Rattle.std.specs.Int.{bit_at}
use Rattle.std.proofs.lemmas.Bool.{cases_eq}
use Rattle.atomic_table.specs.Table.{State, Me, Allows, keeps}
use Rattle.store_api.specs.Bag.{one_self}
use Rattle.row_rule.specs.Known.{Claim, Phase, Dying, Marked, Fill, Offered, Past}
use Rattle.row_rule.specs.Words.{Table, rows, size, row_word, state, counted, control, child, children, bit, Free, Live}
use Rattle.row_rule.specs.declared.view.View.{View}
use Rattle.row_rule.specs.Rule.{total, held, active, unread, others, Rule}
use Rattle.row_rule.specs.Changes.{claim, with_claims, takes, stirred, frees, turns, learns, kids_in, top_of, rest_of, IsTop, made, tried, noticed, retaken}
use Rattle.row_rule.specs.Plays.{row_at, Whole}
use Rattle.row_rule.proofs.Frames.{firm_named, live_below, same_words, bit_is, ref_unread, ref_le}
use Rattle.row_rule.proofs.Sums.{le_total}
use Rattle.row_rule.proofs.Bounds.{count_small}
use Rattle.row_rule.proofs.Taken.{fill_taken}
use Rattle.row_rule.proofs.Taking.{free_rule, dead_rule}
use Rattle.row_rule.proofs.Filling.{frees_rule, stores_rule}
use Rattle.row_rule.proofs.Offering.{offers_rule}
use Rattle.row_rule.proofs.Counting.{adopts_rule, drops_rule}
use Rattle.row_rule.proofs.Reading.{stirs_rule, learns_rule, cleared_rule, marks_rule}
use Rattle.row_rule.proofs.Allowed.{row_is}

-- the rule is about the words, whatever they are called
pub on_words : (k : Table) (homes : List (Option ℕ)) (views : List View) (ws xs : List ℕ) → ws ≡ xs → Rule k (record { words = ws; homes = homes; views = views }) → Rule k (record { words = xs; homes = homes; views = views })
on_words k homes views ws xs e h = subst (λ a. Rule k (record { words = a; homes = homes; views = views })) e h

-- a compare and exchange of the word i that hits, or not
pub exchange_at : (k : Table) (id : ℕ) (me : Me ℕ View) (i old new : ℕ) (hit : Past → View) (then : ℕ → Me ℕ View → Type 0) → i < size k → active me.0 ≡ 1
    → ((s : State ℕ View) → Rule k s → get_elem? s.views id ≡ some me.0 → slice_index s.words i ≡ old → (p : Past) → Rule k (record { words = set s.words i new; homes = s.homes; views = set s.views id (hit p) }))
    → ((s : State ℕ View) → Rule k s → get_elem? s.views id ≡ some me.0 → (n : ℕ) → n ≡ old → Rule k (record { words = set s.words i new; homes = s.homes; views = set s.views id (hit (made i n new me.0.past)) }) → then n (hit (made i n new me.0.past), me.1))
    → ((s : State ℕ View) → Rule k s → get_elem? s.views id ≡ some me.0 → (n : ℕ) → n ≢ old → then n (stirred (tried i n n me.0.past) me.0, me.1))
    → Allows (Rule k) 0 id me i (λ n. either (eqb n old) new n) then
exchange_at k id me i old new hit then inside mine rule yes_then no_then s h slots at small =
    let n : ℕ = slice_index s.words i in ⊎_elim
    (λ (e : n ≡ old). (
      hit (made i n new me.0.past),
      keeps,
      tt,
      subst (λ b. Rule k (record { words = set s.words i (either b new n); homes = s.homes; views = set s.views id (hit (made i n new me.0.past)) })) (sym (eq-eqb n old e)) (rule s h at e (made i n new me.0.past)),
      yes_then s h at n e (rule s h at e (made i n new me.0.past)),
    ))
    (λ ne. (
      stirred (tried i n n me.0.past) me.0,
      keeps,
      tt,
      subst (λ b. Rule k (record { words = set s.words i (either b new n); homes = s.homes; views = set s.views id (stirred (tried i n n me.0.past) me.0) })) (sym (ne_eqb n old ne))
          (on_words k s.homes (set s.views id (stirred (tried i n n me.0.past) me.0)) s.words (set s.words i n) (sym (same_words s.words i (let z = h.sized in omega arith))) (stirs_rule k s h id me.0 at mine (tried i n n me.0.past))),
      no_then s h at n ne,
    ))
    (cases_eq n old)

module _ (k : Table) (id : ℕ) (me : Me ℕ View) (mine : active me.0 ≡ 1) where
  abbrev Took : Phase → ℕ → ℕ → ℕ → ℕ → ℕ → Me ℕ View → Type 0
  Took phase unread i old new n after = (q : ℕ) → i ≡ row_at me.0 q 0 → (n ≡ old → after ≡ (takes q phase unread (retaken old (made i n new me.0.past)) me.0, me.1)) × (n ≢ old → after ≡ (stirred (tried i n n me.0.past) me.0, me.1))

  same_row : (s : State ℕ View) → Rule k s → get_elem? s.views id ≡ some me.0 → (r i q : ℕ) → i ≡ row_word k r 0 → i ≡ row_at me.0 q 0 → r ≡ q
  same_row s h at r i q e f = let a = (h.views id me.0 at).about mine in (row_is me.0 k a.1 a.2 r q 0 0 (omega arith) (omega arith) (sym e ∙ f)).0

  -- a Free row is taken
  pub takes_free_at : (r i old new : ℕ) → i ≡ row_word k r 0 → r < rows k → state old ≡ Free → new ≡ old + 1 → Allows (Rule k) 0 id me i (λ n. either (eqb n old) new n) (Took Fill 0 i old new)
  takes_free_at r i old new at_row lt free next = exchange_at k id me i old new (λ p. takes r Fill 0 (retaken old p) me.0) (Took Fill 0 i old new) (omega arith) mine
      (λ s h at e p. on_words k s.homes (set s.views id (takes r Fill 0 (retaken old p) me.0)) (set s.words (row_word k r 0) new) (set s.words i new) (ap (λ a. set s.words a new) (sym at_row))
      (let c : control k s.words r ≡ old = ap (slice_index s.words) (sym at_row) ∙ e in free_rule k s h id me.0 at mine (retaken old p) r new lt (omega (arith, c, free)) (omega (arith, c, next))))
      (λ s h at n e g q f. ((λ _. ap (λ a. (takes a Fill 0 (retaken old (made i n new me.0.past)) me.0, me.1)) (same_row s h at r i q at_row f)), (λ ne. absurd (ne e))))
      (λ s h at n ne q f. ((λ e. absurd (ne e)), (λ _. refl)))

  -- a Live row with count 0 is taken
  pub takes_dead_at : (r i old new : ℕ) → i ≡ row_word k r 0 → r < rows k → state old ≡ Live → counted old ≡ 0 → new + 1 ≡ old → Allows (Rule k) 0 id me i (λ n. either (eqb n old) new n) (Took Dying 1 i old new)
  takes_dead_at r i old new at_row lt is_live bare next = exchange_at k id me i old new (λ p. takes r Dying 1 (retaken old p) me.0) (Took Dying 1 i old new) (omega arith) mine
      (λ s h at e p. on_words k s.homes (set s.views id (takes r Dying 1 (retaken old p) me.0)) (set s.words (row_word k r 0) new) (set s.words i new) (ap (λ a. set s.words a new) (sym at_row))
      (let c : control k s.words r ≡ old = ap (slice_index s.words) (sym at_row) ∙ e in dead_rule k s h id me.0 at mine (retaken old p) r new lt (omega (arith, c, is_live)) (omega (arith, c, bare)) (omega (arith, c, next))))
      (λ s h at n e g q f. ((λ _. ap (λ a. (takes a Dying 1 (retaken old (made i n new me.0.past)) me.0, me.1)) (same_row s h at r i q at_row f)), (λ ne. absurd (ne e))))
      (λ s h at n ne q f. ((λ e. absurd (ne e)), (λ _. refl)))

  -- ---- the claim that was begun last
  abbrev c : Claim
  c = top_of me.0

  abbrev cs : List Claim
  cs = rest_of me.0

  top_at : (phase : Phase) (kids : List ℕ) (unread : ℕ) → IsTop phase kids unread me.0 → (s : State ℕ View) → get_elem? s.views id ≡ some me.0 → get_elem? s.views id ≡ some (with_claims (claim c.row phase kids unread c.kept ∷ cs) me.0)
  top_at phase kids unread e s at = at ∙ (λ j. some (with_claims (e j) me.0))

  -- its row is given up
  pub frees_at : (i : ℕ) → i ≡ row_word k c.row 0 → c.row < rows k → IsTop Fill [] 0 me.0
      → Allows (Rule k) 0 id me i (λ n. (n + (2 ^ 64 - 1)) % 2 ^ 64) (λ n after. (0 < n) × ((m : ℕ) → m + 1 ≡ n → after ≡ (frees cs (made i n m me.0.past) me.0, me.1)))
  frees_at i at_row lt top s h slots at small =
      let n : ℕ = slice_index s.words i in let e : n ≡ control k s.words c.row = ap (slice_index s.words) at_row in let a = top_at Fill [] 0 top s at in
      let t = fill_taken k s h id me.0 c.row 0 [] c.kept cs a in
      let m : ℕ = (n + (2 ^ 64 - 1)) % 2 ^ 64 in let less : m + 1 ≡ n = wraps n (omega arith) small in (
        frees cs (made i n m me.0.past) me.0,
        keeps,
        tt,
        on_words k s.homes (set s.views id (frees cs (made i n m me.0.past) me.0)) (set s.words (row_word k c.row 0) m) (set s.words i m) (ap (λ a. set s.words a m) (sym at_row))
            (frees_rule k s h id me.0 c.row c.kept cs a mine (made i n m me.0.past) m lt (omega (arith, less, e))),
        (omega arith, λ o f. ap (λ a. (frees cs (made i n a me.0.past) me.0, me.1)) (same m o n less f)),
      )
    where
      wraps : (n : ℕ) → 0 < n → n < 2 ^ 64 → (n + (2 ^ 64 - 1)) % 2 ^ 64 + 1 ≡ n
      wraps n p q = omega arith

      same : (m o n : ℕ) → m + 1 ≡ n → o + 1 ≡ n → m ≡ o
      same m o n a b = omega arith

  -- its row gets the next content word
  pub stores_at : (i n : ℕ) → i ≡ row_word k c.row (suc (length c.kept)) → c.row < rows k → IsTop Fill c.kids 0 me.0 → length c.kept < 10
      → Allows (Rule k) 0 id me i (λ _. n) (λ _ after. after ≡ (turns (claim c.row Fill c.kids 0 (c.kept ++ n ∷ [])) cs (made i n n me.0.past) me.0, me.1))
  stores_at i n at_row lt top room s h slots at small = (
    turns (claim c.row Fill c.kids 0 (c.kept ++ n ∷ [])) cs (made i n n me.0.past) me.0,
    keeps,
    tt,
    on_words k s.homes (set s.views id (turns (claim c.row Fill c.kids 0 (c.kept ++ n ∷ [])) cs (made i n n me.0.past) me.0)) (set s.words (row_word k c.row (suc (length c.kept))) n) (set s.words i n) (ap (λ a. set s.words a n) (sym at_row))
        (stores_rule k s h id me.0 c.row c.kids c.kept cs (top_at Fill c.kids 0 top s at) mine (made i n n me.0.past) n lt room),
    refl,
  )

  -- it is offered
  pub offers_at : (i n : ℕ) → i ≡ row_word k c.row 0 → c.row < rows k → IsTop Fill c.kids 0 me.0 → state n ≡ Live → counted n ≡ 1 → Whole k.buckets me.0
      → Allows (Rule k) 0 id me i (λ _. n) (λ _ after. after ≡ (turns (claim c.row Offered [] 0 c.kept) cs (made i n n me.0.past) me.0, me.1))
  offers_at i n at_row lt top live once whole s h slots at small = (
    turns (claim c.row Offered [] 0 c.kept) cs (made i n n me.0.past) me.0,
    keeps,
    tt,
    on_words k s.homes (set s.views id (turns (claim c.row Offered [] 0 c.kept) cs (made i n n me.0.past) me.0)) (set s.words (row_word k c.row 0) n) (set s.words i n) (ap (λ a. set s.words a n) (sym at_row))
        (offers_rule k s h id me.0 c.row c.kids c.kept cs (top_at Fill c.kids 0 top s at) mine (made i n n me.0.past) n lt live once whole.words whole.place whole.proper whole.kids
        whole.first.0 whole.second.0 whole.first.1 whole.second.1 (whole.first.2, whole.second.2) whole.room),
    refl,
  )

  -- it counts one more child, which is held
  pub adopts_at : (r i : ℕ) → i ≡ row_word k r 0 → 0 < held me.0.holds r → IsTop Fill c.kids c.unread me.0 → others me.0 < 1024
      → Allows (Rule k) 0 id me i (λ n. (n + 8) % 2 ^ 64) (λ n after. (q : ℕ) → i ≡ row_at me.0 q 0 → after ≡ (turns (claim c.row Fill (q ∷ c.kids) c.unread c.kept) cs (made i n (n + 8) me.0.past) me.0, me.1))
  adopts_at r i at_row has top room s h slots at small =
      let n : ℕ = slice_index s.words i in let e : n ≡ control k s.words r = ap (slice_index s.words) at_row in let cn = count_small k s h r in
      let m : (n + 8) % 2 ^ 64 ≡ n + 8 = mod-eq_of_lt (omega arith) in (
        turns (claim c.row Fill (r ∷ c.kids) c.unread c.kept) cs (made i n (n + 8) me.0.past) me.0,
        keeps,
        tt,
        on_words k s.homes (set s.views id (turns (claim c.row Fill (r ∷ c.kids) c.unread c.kept) cs (made i n (n + 8) me.0.past) me.0)) (set s.words (row_word k r 0) ((n + 8) % 2 ^ 64)) (set s.words i ((n + 8) % 2 ^ 64)) (ap (λ a. set s.words a ((n + 8) % 2 ^ 64)) (sym at_row))
            (adopts_rule k s h id me.0 c.row c.unread c.kids c.kept cs (top_at Fill c.kids c.unread top s at) mine (made i n (n + 8) me.0.past) r ((n + 8) % 2 ^ 64) (firm_named k s h id me.0 at r (omega arith)) (omega (arith, m, e)) (omega (arith, m, e))
            (subst (λ a. others (with_claims a me.0) < 1024) top room)),
        λ q f. ap (λ a. (turns (claim c.row Fill (a ∷ c.kids) c.unread c.kept) cs (made i n (n + 8) me.0.past) me.0, me.1)) (same_row s h at r i q at_row f),
      )

  -- it reads its row's child word
  pub learns_at : (i : ℕ) → i ≡ row_word k c.row 2 → c.row < rows k → IsTop Fill [] 1 me.0 → others me.0 + 2 ≤ 1024
      → Allows (Rule k) 0 id me i (λ n. n) (λ n after. (after ≡ (learns (claim c.row Fill (kids_in n) 0 c.kept) cs n i (made i n n me.0.past) me.0, me.1)) × ((r : ℕ) → 0 < children n r → r < 32 * me.0.buckets))
  learns_at i at_row lt top room s h slots at small =
      let n : ℕ = slice_index s.words i in let e : child k s.words c.row ≡ n = ap (slice_index s.words) (sym at_row) in (
        learns (claim c.row Fill (kids_in n) 0 c.kept) cs n i (made i n n me.0.past) me.0,
        keeps,
        tt,
        on_words k s.homes (set s.views id (learns (claim c.row Fill (kids_in n) 0 c.kept) cs n i (made i n n me.0.past) me.0)) s.words (set s.words i n) (sym (same_words s.words i (let z = h.sized in omega arith)))
            (subst (λ (a : ℕ × ℕ). Rule k (record { words = s.words; homes = s.homes; views = set s.views id (learns (claim c.row Fill (kids_in a.0) 0 c.kept) cs a.0 a.1 (made i n n me.0.past) me.0) })) (λ j. (e j, sym at_row j))
            (learns_rule k s h id me.0 c.row c.kept cs (top_at Fill [] 1 top s at) mine (made i n n me.0.past) (subst (λ a. others (with_claims a me.0) + 2 ≤ 1024) top room))),
        (
          refl,
          λ r y. let a = top_at Fill [] 1 top s at in let u = ref_unread k s.words (λ q. total (unread q) s.views) r c.row (λ z. let l = le_total (unread c.row) s.views id (with_claims (claim c.row Fill [] 1 c.kept ∷ cs) me.0) a in let o = one_self c.row in omega arith) in
              let l = ref_le k s.words (λ q. total (unread q) s.views) r c.row (rows k) lt in let z : children (child k s.words c.row) r ≡ children n r = ap (λ b. children b r) e in
              let live = (h.rows r).live (omega arith) in let b = live_below k s.words r h.sized (omega (arith, live)) in let w = ((h.views id me.0 at).about mine).1 in omega arith,
        ),
      )

  -- its first child goes
  pub drops_at : (r : ℕ) (ks : List ℕ) (i : ℕ) → i ≡ row_word k r 0 → IsTop Fill (r ∷ ks) c.unread me.0
      → Allows (Rule k) 0 id me i (λ n. (n + (2 ^ 64 - 8)) % 2 ^ 64) (λ n after. (8 ≤ n) × ((m : ℕ) → m + 8 ≡ n → after ≡ (turns (claim c.row Fill ks c.unread c.kept) cs (made i n m me.0.past) me.0, me.1)))
  drops_at r ks i at_row top s h slots at small =
      let n : ℕ = slice_index s.words i in let e : n ≡ control k s.words r = ap (slice_index s.words) at_row in let a = top_at Fill (r ∷ ks) c.unread top s at in
      let o = one_self r in let f = firm_named k s h id (with_claims (claim c.row Fill (r ∷ ks) c.unread c.kept ∷ cs) me.0) a r (omega arith) in let rc = (h.rows r).counts in
      let m : ℕ = (n + (2 ^ 64 - 8)) % 2 ^ 64 in let less : m + 8 ≡ n = wraps n (omega arith) small in (
        turns (claim c.row Fill ks c.unread c.kept) cs (made i n m me.0.past) me.0,
        keeps,
        tt,
        on_words k s.homes (set s.views id (turns (claim c.row Fill ks c.unread c.kept) cs (made i n m me.0.past) me.0)) (set s.words (row_word k r 0) m) (set s.words i m) (ap (λ a. set s.words a m) (sym at_row))
            (drops_rule k s h id me.0 c.row c.unread r m ks c.kept cs a mine (made i n m me.0.past) (omega (arith, less, e)) (omega (arith, less, e))),
        (omega arith, λ o g. ap (λ a. (turns (claim c.row Fill ks c.unread c.kept) cs (made i n a me.0.past) me.0, me.1)) (same m o n less g)),
      )
    where
      wraps : (n : ℕ) → 8 ≤ n → n < 2 ^ 64 → (n + (2 ^ 64 - 8)) % 2 ^ 64 + 8 ≡ n
      wraps n p q = omega arith

      same : (m o n : ℕ) → m + 8 ≡ n → o + 8 ≡ n → m ≡ o
      same m o n a b = omega arith

  -- the bit of its row is seen
  pub sees_bit_at : (i : ℕ) → i ≡ 1 + c.row / 32 → c.row < rows k → IsTop Dying c.kids c.unread me.0
      → Allows (Rule k) 0 id me i (λ n. n) (λ n after. (bit_at n (c.row % 32) ≡ 0 → after ≡ (learns (claim c.row Fill c.kids c.unread c.kept) cs n i (noticed (c.row / 32) me.0.scans i n me.0.past) me.0, me.1))
      × (bit_at n (c.row % 32) ≡ 1 → after ≡ (learns (claim c.row Marked c.kids c.unread c.kept) cs n i (noticed (c.row / 32) me.0.scans i n me.0.past) me.0, me.1)))
  sees_bit_at i at_word lt top s h slots at small =
      let n : ℕ = slice_index s.words i in let b : bit k s.words c.row ≡ bit_at n (c.row % 32) = bit_is k s.words c.row lt ∙ ap (λ a. bit_at (slice_index s.words a) (c.row % 32)) (sym at_word) in
      let a = top_at Dying c.kids c.unread top s at in let p = noticed (c.row / 32) me.0.scans i n me.0.past in let w = sym (same_words s.words i (let z = h.sized in omega arith)) in
      ⊎_elim
      (λ (z : bit_at n (c.row % 32) ≡ 0). (
        learns (claim c.row Fill c.kids c.unread c.kept) cs n i p me.0,
        keeps,
        tt,
        on_words k s.homes (set s.views id (learns (claim c.row Fill c.kids c.unread c.kept) cs n i p me.0)) s.words (set s.words i n) w (cleared_rule k s h id me.0 c.row c.unread i c.kids c.kept cs a mine p (b ∙ z)),
        ((λ _. refl), (λ y. absurd (omega arith))),
      ))
      (λ nz. let y : bit_at n (c.row % 32) ≡ 1 = omega arith in (
        learns (claim c.row Marked c.kids c.unread c.kept) cs n i p me.0,
        keeps,
        tt,
        on_words k s.homes (set s.views id (learns (claim c.row Marked c.kids c.unread c.kept) cs n i p me.0)) s.words (set s.words i n) w (marks_rule k s h id me.0 c.row c.unread i c.kids c.kept cs a mine p (b ∙ y)),
        ((λ x. absurd (nz x)), (λ _. refl)),
      ))
      (cases_eq (bit_at n (c.row % 32)) 0)
