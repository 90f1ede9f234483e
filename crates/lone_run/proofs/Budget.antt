-- A run with another budget that has room for its turns is the same run.
use Rattle.std.proofs.Common.{◌≡◌, ℕ, zero, suc, ◌+◌, ◌-◌, ◌<◌, ◌≤◌, refl, ap, ◌∙◌, arith, List, [], ◌∷◌, length, Option, Some, None, Bool, true, false, if◌then◌else◌, nat_eq, slice_get}
use Rattle.program.specs.declared.graph.Node.{Node}
use Rattle.program.specs.declared.graph.Function.{Function}
use Rattle.lone_run.specs.Analysis.{Analysis}
use Rattle.lone_run.specs.Points.{Point, least_pending, push_along, settled_at}
use Rattle.lone_run.specs.Lone.{Ran, Taken, Progress, Caller, and_then, taken, returned, raised, callee_at, edges_at, one_turn, turn, turns, go_on, no_work, both_work, worked, first_points, ran, run, in_function, Result, result_of, lone}
use Rattle.lone_run.specs.Bounds.{BudgetIsExact}
use Rattle.lone_run.proofs.Remaining.{run_few}

positive : (n : ℕ) → nat_eq n 0 ≡ false → 0 < n
positive n e = grind arith

some_room : (n : ℕ) → 0 < n → nat_eq n 0 ≡ false
some_room n e = grind arith

module _ {State : Type 0} (A : Analysis State) (slevel : ℕ) (functions : List Function) where
  -- with room for its turns the answer is the same
  abbrev pub Exact : Caller State → Type 0
  Exact call = (g : ℕ) (x : State) (left other : ℕ) (r : Ran State) → call g x left ≡ Some r → r.work.turns ≤ other → call g x other ≡ Some r

  module _ (call : Caller State) (K : Exact call) (f : ℕ) (nodes : List Node) where
    called_exact : (b : Bool) (n g : ℕ) (x : State) (left other : ℕ) (t : Taken State)
        → (if b then Some (record { states = A.bottom ∷ []; work = raised (A.enter f n x).alarms }) else and_then (call g (A.enter f n x).state left) (λ r. Some (returned A slevel functions f n (A.enter f n x).alarms r))) ≡ Some t → t.work.turns ≤ other
        → (if b then Some (record { states = A.bottom ∷ []; work = raised (A.enter f n x).alarms }) else and_then (call g (A.enter f n x).state other) (λ r. Some (returned A slevel functions f n (A.enter f n x).alarms r))) ≡ Some t
    called_exact true n g x left other t e l = e
    called_exact false n g x left other t e l = by (call g (A.enter f n x).state left) refl e where
      by : (o : Option (Ran State)) → call g (A.enter f n x).state left ≡ o → and_then {B = Taken State} o (λ r. Some (returned A slevel functions f n (A.enter f n x).alarms r)) ≡ Some t
          → and_then {B = Taken State} (call g (A.enter f n x).state other) (λ r. Some (returned A slevel functions f n (A.enter f n x).alarms r)) ≡ Some t
      by None q e = cc
      by (Some r) q e =
          let same : returned A slevel functions f n (A.enter f n x).alarms r ≡ t = cc in
          let z : 0 + (r.work.turns + 0) ≡ t.work.turns = ap (λ (y : Taken State). y.work.turns) same in
          let k : call g (A.enter f n x).state other ≡ Some r = K g (A.enter f n x).state left other r q (omega arith) in
          ap (λ o. and_then {B = Taken State} o (λ r. Some (returned A slevel functions f n (A.enter f n x).alarms r))) k ∙ e

    taken_exact : (n : ℕ) (o : Option ℕ) (x : State) (left other : ℕ) (t : Taken State) → taken A slevel functions call f n o x left ≡ Some t → t.work.turns ≤ other → taken A slevel functions call f n o x other ≡ Some t
    taken_exact n None x left other t e l = e
    taken_exact n (Some g) x left other t e l = called_exact (A.is_bottom (A.enter f n x).state) n g x left other t e l

    turn_exact : (n : ℕ) (x : State) (left other : ℕ) (ps : List (Point State)) (r : Progress State) → turn A slevel functions call f nodes n x left ps ≡ Some r → r.work.turns ≤ other
        → (1 ≤ r.work.turns) × (turn A slevel functions call f nodes n x other ps ≡ Some r)
    unfolding turn
    turn_exact n x left other ps r e l = by (taken A slevel functions call f n (callee_at nodes n) x (left - 1)) refl e where
      now : Taken State → Progress State
      now t = record { points = push_along A slevel nodes (settled_at ps n) (edges_at nodes n) t.states; work = both_work (one_turn A slevel functions) t.work }

      by : (o : Option (Taken State)) → taken A slevel functions call f n (callee_at nodes n) x (left - 1) ≡ o → and_then {B = Progress State} o (λ t. Some (now t)) ≡ Some r
          → (1 ≤ r.work.turns) × (and_then {B = Progress State} (taken A slevel functions call f n (callee_at nodes n) x (other - 1)) (λ t. Some (now t)) ≡ Some r)
      by None q e = cc
      by (Some t) q e =
          let same : now t ≡ r = cc in
          let y : 1 + t.work.turns ≡ r.work.turns = ap (λ (v : Progress State). v.work.turns) same in
          let k = taken_exact n (callee_at nodes n) x (left - 1) (other - 1) t q (omega arith) in
          (omega arith, ap (λ o. and_then {B = Progress State} o (λ t. Some (now t))) k ∙ e)

    abbrev Rest : Type 0
    Rest = ℕ → List (Point State) → Option (Progress State)

    abbrev SameTurns : Rest → Type 0
    SameTurns rest = (fuel left other : ℕ) (ps : List (Point State)) (r : Progress State) → rest left ps ≡ Some r → r.work.turns ≤ other → other ≤ fuel → turns A slevel functions fuel call f nodes other ps ≡ Some r

    turns_none : (fuel other : ℕ) (ps : List (Point State)) → least_pending ps ≡ None → turns A slevel functions fuel call f nodes other ps ≡ Some (record { points = ps; work = no_work })
    unfolding turns
    turns_none zero other ps e = rw e refl
    turns_none (suc n) other ps e = rw e refl

    turns_some : (fuel other : ℕ) (ps : List (Point State)) (next : ℕ × State) (t s r : Progress State) → least_pending ps ≡ Some next → 0 < other → turn A slevel functions call f nodes next.0 next.1 other ps ≡ Some t
        → turns A slevel functions fuel call f nodes (other - t.work.turns) t.points ≡ Some s → worked A slevel functions t.work s ≡ r → turns A slevel functions (suc fuel) call f nodes other ps ≡ Some r
    unfolding turns
    turns_some fuel other ps next t s r e z a b c = rw (e, some_room other z, a, b) (ap Some c)

    go_exact : (rest : Rest) → SameTurns rest → (fuel left other : ℕ) (ps : List (Point State)) (r : Progress State) (o : Option (ℕ × State)) → least_pending ps ≡ o → go_on A slevel functions rest call f nodes left ps o ≡ Some r
        → r.work.turns ≤ other → other ≤ fuel → turns A slevel functions fuel call f nodes other ps ≡ Some r
    go_exact rest h fuel left other ps r None p e l m = turns_none fuel other ps p ∙ e
    go_exact rest h fuel left other ps r (Some next) p e l m = room (nat_eq left 0) e where
      with_fuel : (fuel : ℕ) → other ≤ fuel → (t s : Progress State) → rest (left - t.work.turns) t.points ≡ Some s → worked A slevel functions t.work s ≡ r → (1 ≤ t.work.turns) × (turn A slevel functions call f nodes next.0 next.1 other ps ≡ Some t)
          → turns A slevel functions fuel call f nodes other ps ≡ Some r
      with_fuel zero m t s q c k =
          let z : t.work.turns + s.work.turns ≡ r.work.turns = ap (λ (y : Progress State). y.work.turns) c in let w : 1 ≤ t.work.turns = k.0 in absurd (omega arith)
      with_fuel (suc fuel) m t s q c k =
          let z : t.work.turns + s.work.turns ≡ r.work.turns = ap (λ (y : Progress State). y.work.turns) c in
          let w : 1 ≤ t.work.turns = k.0 in
          turns_some fuel other ps next t s r p (omega arith) k.1 (h fuel (left - t.work.turns) (other - t.work.turns) t.points s q (omega arith) (omega arith)) c

      rest_by : (t : Progress State) (o : Option (Progress State)) → turn A slevel functions call f nodes next.0 next.1 left ps ≡ Some t → rest (left - t.work.turns) t.points ≡ o
          → and_then {B = Progress State} o (λ s. Some (worked A slevel functions t.work s)) ≡ Some r → turns A slevel functions fuel call f nodes other ps ≡ Some r
      rest_by t None a q e = cc
      rest_by t (Some s) a q e =
          let c : worked A slevel functions t.work s ≡ r = cc in
          let z : t.work.turns + s.work.turns ≡ r.work.turns = ap (λ (y : Progress State). y.work.turns) c in
          with_fuel fuel m t s q c (turn_exact next.0 next.1 left other ps t a (omega arith))

      next_by : (o : Option (Progress State)) → turn A slevel functions call f nodes next.0 next.1 left ps ≡ o
          → and_then {B = Progress State} o (λ t. and_then (rest (left - t.work.turns) t.points) (λ s. Some (worked A slevel functions t.work s))) ≡ Some r → turns A slevel functions fuel call f nodes other ps ≡ Some r
      next_by None q e = cc
      next_by (Some t) q e = rest_by t (rest (left - t.work.turns) t.points) q refl e

      room : (b : Bool) → (if b then None else and_then {B = Progress State} (turn A slevel functions call f nodes next.0 next.1 left ps) (λ t. and_then (rest (left - t.work.turns) t.points) (λ s. Some (worked A slevel functions t.work s)))) ≡ Some r
          → turns A slevel functions fuel call f nodes other ps ≡ Some r
      room true e = cc
      room false e = next_by (turn A slevel functions call f nodes next.0 next.1 left ps) refl e

    pub turns_exact : (n : ℕ) → SameTurns (turns A slevel functions n call f nodes)
    unfolding turns
    turns_exact zero fuel left other ps r e l m = go_exact (λ l qs. None) (λ a b c qs s q v w. cc) fuel left other ps r (least_pending ps) refl e l m
    turns_exact (suc n) fuel left other ps r e l m = go_exact (turns A slevel functions n call f nodes) (turns_exact n) fuel left other ps r (least_pending ps) refl e l m

  function_exact : (call : Caller State) → Exact call → (f : ℕ) (function : Function) (x : State) (left other : ℕ) (r : Ran State) → in_function A slevel functions call f function x left ≡ Some r → r.work.turns ≤ other
      → in_function A slevel functions call f function x other ≡ Some r
  function_exact call K f function x left other r e l = by (turns A slevel functions left call f function.nodes left (first_points A slevel functions function x)) refl e where
    by : (o : Option (Progress State)) → turns A slevel functions left call f function.nodes left (first_points A slevel functions function x) ≡ o → and_then {B = Ran State} o (λ s. Some (ran A slevel functions f function s)) ≡ Some r
        → in_function A slevel functions call f function x other ≡ Some r
    by None q e = cc
    by (Some s) q e =
        let same : ran A slevel functions f function s ≡ r = cc in
        let z : s.work.turns ≡ r.work.turns = ap (λ (y : Ran State). y.work.turns) same in
        let k = turns_exact call K f function.nodes left other left other (first_points A slevel functions function x) s q (omega arith) (omega arith) in
        ap (λ o. and_then {B = Ran State} o (λ s. Some (ran A slevel functions f function s))) k ∙ e

  pub run_exact : (h : ℕ) → Exact (run A slevel functions h)
  unfolding run
  run_exact zero f x left other r e l = cc
  run_exact (suc h) f x left other r e l = by (slice_get functions f) e (run_exact h) where
    by : (o : Option Function) → and_then {B = Ran State} o (λ function. in_function A slevel functions (run A slevel functions h) f function x left) ≡ Some r → Exact (run A slevel functions h)
        → and_then {B = Ran State} o (λ function. in_function A slevel functions (run A slevel functions h) f function x other) ≡ Some r
    by None e k = cc
    by (Some function) e k = function_exact (run A slevel functions h) k f function x left other r e l

  lone_exact : (f budget : ℕ) (r : Result A slevel functions) → lone A slevel functions f budget ≡ Some r → (r.turns ≤ budget) × ((other : ℕ) → r.turns ≤ other → lone A slevel functions f other ≡ Some r)
  unfolding lone
  lone_exact f budget r e = by (run A slevel functions (length functions) f (A.initial f) budget) refl e where
    by : (o : Option (Ran State)) → run A slevel functions (length functions) f (A.initial f) budget ≡ o → and_then {B = Result A slevel functions} o (λ s. Some (result_of A slevel functions f s)) ≡ Some r
        → (r.turns ≤ budget) × ((other : ℕ) → r.turns ≤ other → and_then {B = Result A slevel functions} (run A slevel functions (length functions) f (A.initial f) other) (λ s. Some (result_of A slevel functions f s)) ≡ Some r)
    by None q e = cc
    by (Some s) q e =
        let same : result_of A slevel functions f s ≡ r = cc in
        let z : s.work.turns ≡ r.turns = ap (λ (y : Result A slevel functions). y.turns) same in
        let few : s.work.turns ≤ budget = run_few A slevel functions (length functions) f (A.initial f) budget s q in (
          omega arith,
          λ other l. ap (λ o. and_then {B = Result A slevel functions} o (λ s. Some (result_of A slevel functions f s))) (run_exact (length functions) f (A.initial f) budget other s q (omega arith)) ∙ e,
        )

pub budget_is_exact : (State : Type 0) → BudgetIsExact State
budget_is_exact State A slevel functions f budget r e = lone_exact A slevel functions f budget r e
