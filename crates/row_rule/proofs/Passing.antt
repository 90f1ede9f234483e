-- The steps of a split and a join are allowed.
use Rattle.std.proofs.Common.{◌≡◌, ℕ, ◌+◌, ◌-◌, ◌*◌, ◌%◌, ◌<◌, ◌≤◌, ◌≢◌, ◌^◌, ◌⊎◌, List, [], length, set, sym, refl, ap, ◌∙◌, ⊎_elim, arith, mod-eq_of_lt}
use mathlib.Core.Option.{some}
use lib.ListN.{get_elem?}
use Rattle.std.proofs.lemmas.Bool.{cases_eq, cases_lt}
use Rattle.atomic_table.specs.Table.{State, Me, Allows, Splits, Joins, keeps}
use Rattle.atomic_table.proofs.Lists.{set_else}
use Rattle.row_rule.specs.Known.{Past, Stage, Idle, Granted, Refused, Joining, Spent}
use Rattle.row_rule.specs.Words.{Table, passes}
use Rattle.row_rule.specs.declared.view.View.{View}
use Rattle.row_rule.specs.Rule.{total, weight, seats, active, stage_weight, stage_seats, Told, Rule}
use Rattle.row_rule.specs.Changes.{with_stage, staged, refusal, split_left, split_right, joined, spent, loads, finds_alone, made}
use Rattle.row_rule.proofs.Sums.{total_times, le_total}
use Rattle.row_rule.proofs.Frames.{same_words}
use Rattle.row_rule.proofs.Aside.{granted_rule, refused_rule, takes_back_rule, joins_end_rule, splits_rule, joins_rule}
use Rattle.row_rule.proofs.Reading.{loads_rule, alone_rule}
use Rattle.row_rule.proofs.Telling.{told}
use Rattle.row_rule.proofs.Allowed.{set_at}
use Rattle.row_rule.proofs.Claiming.{on_words}

weight_le : (vs : List View) → total weight vs ≤ total seats vs * 2
weight_le vs = total_times weight seats 2 vs (λ i v e. stages v.stage)
  where
    stages : (g : Stage) → stage_weight g ≤ stage_seats g * 2
    stages Idle = omega arith
    stages Granted = omega arith
    stages Refused = omega arith
    stages Joining = omega arith
    stages Spent = omega arith

pub few_passes : (k : Table) (s : State ℕ View) → Rule k s → passes s.words ≤ 130
few_passes k s h = let w = weight_le s.views in let e = h.passes in let b = h.seats in omega arith

module _ (k : Table) (id : ℕ) (me : Me ℕ View) where
  staged_at : (g : Stage) → me.0.stage ≡ g → (s : State ℕ View) → get_elem? s.views id ≡ some me.0 → get_elem? s.views id ≡ some (with_stage g me.0)
  staged_at g e s at = at ∙ (λ j. some (with_stage (e j) me.0))

  -- a split is counted: granted, or refused
  pub counts_at : me.0.stage ≡ Idle
      → Allows (Rule k) 0 id me 0 (λ n. (n + 1) % 2 ^ 64) (λ n after. (n ≤ 64 → after ≡ (staged Granted (made 0 n (n + 1) me.0.past) me.0, me.1)) × (64 < n → after ≡ (staged Refused (refusal n (made 0 n (n + 1) me.0.past)) me.0, me.1)))
  counts_at idle s h slots at small =
      let n : ℕ = passes s.words in let f = few_passes k s h in let m : (n + 1) % 2 ^ 64 ≡ n + 1 = mod-eq_of_lt (omega arith) in let a = staged_at Idle idle s at in
      ⊎_elim
      (λ (l : n < 65). (
        staged Granted (made 0 n (n + 1) me.0.past) me.0,
        keeps,
        tt,
        on_words k s.homes (set s.views id (staged Granted (made 0 n (n + 1) me.0.past) me.0)) (set s.words 0 (n + 1)) (set s.words 0 ((n + 1) % 2 ^ 64)) (ap (set s.words 0) (sym m)) (granted_rule k s h id me.0 a (made 0 n (n + 1) me.0.past) (omega arith)),
        ((λ _. refl), (λ x. absurd (omega arith))),
      ))
      (λ l. (
        staged Refused (refusal n (made 0 n (n + 1) me.0.past)) me.0,
        keeps,
        tt,
        on_words k s.homes (set s.views id (staged Refused (refusal n (made 0 n (n + 1) me.0.past)) me.0)) (set s.words 0 (n + 1)) (set s.words 0 ((n + 1) % 2 ^ 64)) (ap (set s.words 0) (sym m)) (refused_rule k s h id me.0 a (refusal n (made 0 n (n + 1) me.0.past))),
        ((λ x. absurd (omega arith)), (λ _. refl)),
      ))
      (cases_lt n 65)

  -- a refused split is taken back, and a join ends
  pub settles_at : (me.0.stage ≡ Refused) ⊎ (me.0.stage ≡ Joining)
      → Allows (Rule k) 0 id me 0 (λ n. (n + (2 ^ 64 - 1)) % 2 ^ 64) (λ n after. ((m : ℕ) → m + 1 ≡ n → after ≡ (staged Idle (made 0 n m me.0.past) me.0, me.1)) × (0 < n) × Told after.0)
  settles_at stage s h slots at small =
      let n : ℕ = passes s.words in let m : ℕ = (n + (2 ^ 64 - 1)) % 2 ^ 64 in
      let l = le_total weight s.views id me.0 at in let e = h.passes in
      let pos : 0 < n = ⊎_elim (λ (r : me.0.stage ≡ Refused). let w : weight me.0 ≡ 2 = ap stage_weight r in omega arith) (λ r. let w : weight me.0 ≡ 2 = ap stage_weight r in omega arith) stage in
      let less : m + 1 ≡ n = wraps n pos small in let v : View = staged Idle (made 0 n m me.0.past) me.0 in
      let rule : Rule k (record { words = set s.words 0 m; homes = s.homes; views = set s.views id v }) =
      ⊎_elim (λ (r : me.0.stage ≡ Refused). takes_back_rule k s h id me.0 (staged_at Refused r s at) (made 0 n m me.0.past) m less) (λ r. joins_end_rule k s h id me.0 (staged_at Joining r s at) (made 0 n m me.0.past) m less) stage in (
        v,
        keeps,
        tt,
        rule,
        (
          (λ o f. ap (λ a. (staged Idle (made 0 n a me.0.past) me.0, me.1)) (same m o n less f)),
          pos,
          told k (record { words = set s.words 0 m; homes = s.homes; views = set s.views id v }) rule id v (set_at s.views id me.0 v at) refl,
        ),
      )
    where
      wraps : (n : ℕ) → 0 < n → n < 2 ^ 64 → (n + (2 ^ 64 - 1)) % 2 ^ 64 + 1 ≡ n
      wraps n p q = omega arith

      same : (m o n : ℕ) → m + 1 ≡ n → o + 1 ≡ n → m ≡ o
      same m o n a b = omega arith

  -- the number of passes is seen
  pub sees_passes_at : active me.0 ≡ 1 → Allows (Rule k) 0 id me 0 (λ n. n) (λ n after. (n ≡ 1 → after ≡ (finds_alone n (made 0 n n me.0.past) me.0, me.1)) × (n ≢ 1 → after ≡ (loads 0 n (made 0 n n me.0.past) me.0, me.1)))
  sees_passes_at mine s h slots at small =
      let n : ℕ = passes s.words in let p : Past = made 0 n n me.0.past in let w = sym (same_words s.words 0 (let z = h.sized in omega arith)) in
      ⊎_elim
      (λ (e : n ≡ 1). (finds_alone n p me.0, keeps, tt, on_words k s.homes (set s.views id (finds_alone n p me.0)) s.words (set s.words 0 n) w (alone_rule k s h id me.0 at mine p e), ((λ _. refl), (λ x. absurd (x e)))))
      (λ ne. (loads 0 n p me.0, keeps, tt, on_words k s.homes (set s.views id (loads 0 n p me.0)) s.words (set s.words 0 n) w (loads_rule k s h id me.0 at mine p 0), ((λ x. absurd (ne x)), (λ _. refl))))
      (cases_eq n 1)

-- the base's own moves
pub splits_at : (k : Table) (id : ℕ) (v : View) → v.stage ≡ Granted → Splits (Rule k) id v (split_left v) (split_right v)
splits_at k id v stage s h at = splits_rule k s h id v (at ∙ (λ j. some (with_stage (stage j) v)))

pub joins_at : (k : Table) (id other : ℕ) (v u : View) → v.stage ≡ Idle → u.stage ≡ Idle → (u.claims ≡ []) × (u.passing ≡ []) × (u.pins ≡ []) × (u.hand ≡ []) → length v.holds + length u.holds ≤ 2 ^ 32 → Joins (Rule k) id v other u (joined v u) spent
joins_at k id other v u vi ui bare room s h at ne there =
    joins_rule k s h id v (at ∙ (λ j. some (with_stage (vi j) v))) other u ne (sym (set_else s.views id other (joined v u) ne) ∙ there ∙ (λ j. some (with_stage (ui j) u))) bare room
