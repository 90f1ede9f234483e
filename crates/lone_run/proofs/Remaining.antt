-- The rest of a run, as a loop goes.
use Rattle.std.proofs.Common.{◌≡◌, ℕ, zero, suc, ◌+◌, ◌-◌, ◌<◌, ◌≤◌, refl, ap, sym, ◌∙◌, arith, List, [], ◌∷◌, ◌++◌, Option, Some, None, Bool, true, false, if◌then◌else◌, nat_eq, slice_get}
use Rattle.program.specs.declared.graph.Node.{Node}
use Rattle.program.specs.declared.graph.Function.{Function}
use Rattle.program.specs.declared.sites.Site.{Site}
use Rattle.lone_run.specs.Analysis.{Analysis}
use Rattle.lone_run.specs.Points.{Point, least_pending, push_along, settled_at}
use Rattle.lone_run.specs.Lone.{Work, Ended, Ran, Taken, Progress, Caller, and_then, taken, returned, raised, callee_at, edges_at, one_turn, turn, turns, go_on, no_work, both_work, worked, first_points, ran, run, in_function}

append_nil : {X : Type 0} (xs : List X) → xs ++ [] ≡ xs
append_nil [] = refl
append_nil (x ∷ xs) = ap (λ ys. x ∷ ys) (append_nil xs)

append_assoc : {X : Type 0} (xs ys zs : List X) → (xs ++ ys) ++ zs ≡ xs ++ (ys ++ zs)
append_assoc [] ys zs = refl
append_assoc (x ∷ xs) ys zs = ap (λ vs. x ∷ vs) (append_assoc xs ys zs)

module _ {State : Type 0} where
  work : ℕ → List Site → List (Ended State) → Work State
  work t a e = record { turns = t; alarms = a; ended = e }

  pub no_work_first : (w : Work State) → both_work no_work w ≡ w
  unfolding work
  no_work_first w = let z : 0 + w.turns ≡ w.turns = omega arith in ap (λ t. work t w.alarms w.ended) z

  pub no_work_last : (w : Work State) → both_work w no_work ≡ w
  unfolding work
  no_work_last w =
      let z : w.turns + 0 ≡ w.turns = omega arith in
      ap (λ t. work t (w.alarms ++ []) (w.ended ++ [])) z ∙ ap (λ a. work w.turns a (w.ended ++ [])) (append_nil w.alarms) ∙ ap (λ e. work w.turns w.alarms e) (append_nil w.ended)

  pub work_assoc : (u v w : Work State) → both_work (both_work u v) w ≡ both_work u (both_work v w)
  unfolding work
  work_assoc u v w =
      let z : u.turns + v.turns + w.turns ≡ u.turns + (v.turns + w.turns) = omega arith in
      ap (λ t. work t ((u.alarms ++ v.alarms) ++ w.alarms) ((u.ended ++ v.ended) ++ w.ended)) z
      ∙ ap (λ a. work (u.turns + (v.turns + w.turns)) a ((u.ended ++ v.ended) ++ w.ended)) (append_assoc u.alarms v.alarms w.alarms)
      ∙ ap (λ e. work (u.turns + (v.turns + w.turns)) (u.alarms ++ (v.alarms ++ w.alarms)) e) (append_assoc u.ended v.ended w.ended)

no_room : (n : ℕ) → n ≡ 0 → nat_eq n 0 ≡ true
no_room n e = grind arith

some_room : (n : ℕ) → 0 < n → nat_eq n 0 ≡ false
some_room n e = grind arith

module _ {State : Type 0} (A : Analysis State) (slevel : ℕ) (functions : List Function) (call : Caller State) (f : ℕ) (nodes : List Node) where
  -- with the work done, and then the rest
  abbrev pub after_work : Work State → Option (Progress State) → Option (Progress State)
  after_work w o = and_then o (λ r. Some (worked A slevel functions w r))

  -- what is left to do from these points gives, behind the work done, the whole
  pub record Remaining (ps : List (Point State)) (left : ℕ) (w : Work State) (whole : Option (Progress State)) : Type 0 where
    pub fuel : ℕ
    pub enough : left ≤ fuel
    pub rest : after_work w (turns A slevel functions fuel call f nodes left ps) ≡ whole

  nothing_before : (o : Option (Progress State)) → after_work no_work o ≡ o
  nothing_before None = refl
  nothing_before (Some r) = ap (λ w. Some (record { points = r.points; work = w })) (no_work_first r.work)

  pub begun : (ps : List (Point State)) (left : ℕ) → Remaining ps left no_work (turns A slevel functions left call f nodes left ps)
  begun ps left = record { fuel = left; enough = omega arith; rest = nothing_before (turns A slevel functions left call f nodes left ps) }

  turns_done : (n left : ℕ) (ps : List (Point State)) → least_pending ps ≡ None → turns A slevel functions n call f nodes left ps ≡ Some (record { points = ps; work = no_work })
  unfolding turns
  turns_done zero left ps e = rw e refl
  turns_done (suc n) left ps e = rw e refl

  turns_over : (n left : ℕ) (ps : List (Point State)) (next : ℕ × State) → least_pending ps ≡ Some next → left ≡ 0 → turns A slevel functions n call f nodes left ps ≡ None
  unfolding turns
  turns_over zero left ps next e z = rw (e, no_room left z) refl
  turns_over (suc n) left ps next e z = rw (e, no_room left z) refl

  turns_go : (n left : ℕ) (ps : List (Point State)) (next : ℕ × State) → least_pending ps ≡ Some next → 0 < left
      → turns A slevel functions (suc n) call f nodes left ps
      ≡ and_then (turn A slevel functions call f nodes next.0 next.1 left ps) (λ r. and_then (turns A slevel functions n call f nodes (left - r.work.turns) r.points) (λ s. Some (worked A slevel functions r.work s)))
  unfolding turns
  turns_go n left ps next e z = rw (e, some_room left z) refl

  -- nothing is pending: the work done is the whole
  pub done : (ps : List (Point State)) (left : ℕ) (w : Work State) (whole : Option (Progress State)) → Remaining ps left w whole → least_pending ps ≡ None → whole ≡ Some (record { points = ps; work = w })
  done ps left w whole r e =
      sym r.rest ∙ ap (after_work w) (turns_done r.fuel left ps e) ∙ ap (λ v. Some (record { points = ps; work = v })) (no_work_last w)

  -- a turn is wanted and none is left: the whole is over the budget
  pub over : (ps : List (Point State)) (left : ℕ) (w : Work State) (whole : Option (Progress State)) (next : ℕ × State) → Remaining ps left w whole → least_pending ps ≡ Some next → left ≡ 0 → whole ≡ None
  over ps left w whole next r e z = sym r.rest ∙ ap (after_work w) (turns_over r.fuel left ps next e z)

  fuel_left : (n left : ℕ) → left ≤ n → 0 < left → n ≡ suc (n - 1)
  fuel_left n left h z = omega arith

  rest_is : (ps : List (Point State)) (left : ℕ) (w : Work State) (whole : Option (Progress State)) (next : ℕ × State) (r : Remaining ps left w whole) → least_pending ps ≡ Some next → 0 < left
      → whole ≡ after_work w (and_then (turn A slevel functions call f nodes next.0 next.1 left ps) (λ t. and_then (turns A slevel functions (r.fuel - 1) call f nodes (left - t.work.turns) t.points) (λ s. Some (worked A slevel functions t.work s))))
  rest_is ps left w whole next r e z =
      sym r.rest ∙ ap (λ n. after_work w (turns A slevel functions n call f nodes left ps)) (fuel_left r.fuel left r.enough z) ∙ ap (after_work w) (turns_go (r.fuel - 1) left ps next e z)

  -- the turn is over the budget: so is the whole
  pub stopped : (ps : List (Point State)) (left : ℕ) (w : Work State) (whole : Option (Progress State)) (next : ℕ × State) → Remaining ps left w whole → least_pending ps ≡ Some next → 0 < left
      → turn A slevel functions call f nodes next.0 next.1 left ps ≡ None → whole ≡ None
  stopped ps left w whole next r e z t = rest_is ps left w whole next r e z ∙ ap (λ o. after_work w (and_then {B = Progress State} o (λ t. and_then (turns A slevel functions (r.fuel - 1) call f nodes (left - t.work.turns) t.points) (λ s. Some (worked A slevel functions t.work s))))) t

  joined_work : (w v : Work State) (o : Option (Progress State)) → after_work w (and_then o (λ s. Some (worked A slevel functions v s))) ≡ after_work (both_work w v) o
  joined_work w v None = refl
  joined_work w v (Some s) = ap (λ u. Some (record { points = s.points; work = u })) (sym (work_assoc w v s.work))

  -- after a turn
  pub stepped : (ps : List (Point State)) (left : ℕ) (w : Work State) (whole : Option (Progress State)) (next : ℕ × State) (t : Progress State) → Remaining ps left w whole → least_pending ps ≡ Some next → 0 < left
      → turn A slevel functions call f nodes next.0 next.1 left ps ≡ Some t → 1 ≤ t.work.turns → Remaining t.points (left - t.work.turns) (both_work w t.work) whole
  stepped ps left w whole next t r e z is some = record {
    fuel = r.fuel - 1;
    enough = let l : left ≤ r.fuel = r.enough in omega arith;
    rest = sym (
        rest_is ps left w whole next r e z
        ∙ ap (λ o. after_work w (and_then {B = Progress State} o (λ t. and_then (turns A slevel functions (r.fuel - 1) call f nodes (left - t.work.turns) t.points) (λ s. Some (worked A slevel functions t.work s))))) is
        ∙ joined_work w t.work (turns A slevel functions (r.fuel - 1) call f nodes (left - t.work.turns) t.points));
  }

-- ---- no run takes more turns than it may

module _ {State : Type 0} (A : Analysis State) (slevel : ℕ) (functions : List Function) where
  abbrev pub Keeps : Caller State → Type 0
  Keeps call = (g : ℕ) (x : State) (left : ℕ) (r : Ran State) → call g x left ≡ Some r → r.work.turns ≤ left

  module _ (call : Caller State) (K : Keeps call) (f : ℕ) (nodes : List Node) where
    called_few : (b : Bool) (n g : ℕ) (x : State) (left : ℕ) (t : Taken State)
        → (if b then Some (record { states = A.bottom ∷ []; work = raised (A.enter f n x).alarms }) else and_then (call g (A.enter f n x).state left) (λ r. Some (returned A slevel functions f n (A.enter f n x).alarms r))) ≡ Some t → t.work.turns ≤ left
    called_few true n g x left t e =
        let now : Taken State = record { states = A.bottom ∷ []; work = raised (A.enter f n x).alarms } in
        let same : now ≡ t = cc in let z : 0 ≡ t.work.turns = ap (λ (y : Taken State). y.work.turns) same in omega arith
    called_few false n g x left t e = by (call g (A.enter f n x).state left) refl e where
      by : (o : Option (Ran State)) → call g (A.enter f n x).state left ≡ o → and_then {B = Taken State} o (λ r. Some (returned A slevel functions f n (A.enter f n x).alarms r)) ≡ Some t → t.work.turns ≤ left
      by None q e = cc
      by (Some r) q e =
          let same : returned A slevel functions f n (A.enter f n x).alarms r ≡ t = cc in
          let z : 0 + (r.work.turns + 0) ≡ t.work.turns = ap (λ (y : Taken State). y.work.turns) same in let l : r.work.turns ≤ left = K g (A.enter f n x).state left r q in omega arith

    pub taken_few : (n : ℕ) (o : Option ℕ) (x : State) (left : ℕ) (t : Taken State) → taken A slevel functions call f n o x left ≡ Some t → t.work.turns ≤ left
    taken_few n None x left t e =
        let now : Taken State = record { states = (A.along f n x).states; work = raised (A.along f n x).alarms } in
        let same : now ≡ t = cc in let z : 0 ≡ t.work.turns = ap (λ (y : Taken State). y.work.turns) same in omega arith
    taken_few n (Some g) x left t e = called_few (A.is_bottom (A.enter f n x).state) n g x left t e

    -- a turn takes one or more, and no more than are left
    pub turn_few : (n : ℕ) (x : State) (left : ℕ) (ps : List (Point State)) (r : Progress State) → 0 < left → turn A slevel functions call f nodes n x left ps ≡ Some r → (1 ≤ r.work.turns) × (r.work.turns ≤ left)
    unfolding turn
    turn_few n x left ps r z e = by (taken A slevel functions call f n (callee_at nodes n) x (left - 1)) refl e where
      by : (o : Option (Taken State)) → taken A slevel functions call f n (callee_at nodes n) x (left - 1) ≡ o
          → and_then {B = Progress State} o (λ t. Some (record { points = push_along A slevel nodes (settled_at ps n) (edges_at nodes n) t.states; work = both_work (one_turn A slevel functions) t.work })) ≡ Some r
          → (1 ≤ r.work.turns) × (r.work.turns ≤ left)
      by None q e = cc
      by (Some t) q e =
          let now : Progress State = record { points = push_along A slevel nodes (settled_at ps n) (edges_at nodes n) t.states; work = both_work (one_turn A slevel functions) t.work } in
          let same : now ≡ r = cc in
          let y : 1 + t.work.turns ≡ r.work.turns = ap (λ (v : Progress State). v.work.turns) same in
          let l : t.work.turns ≤ left - 1 = taken_few n (callee_at nodes n) x (left - 1) t q in
          (omega arith, omega arith)

    abbrev Rest : Type 0
    Rest = ℕ → List (Point State) → Option (Progress State)

    abbrev Few : Rest → Type 0
    Few rest = (left : ℕ) (ps : List (Point State)) (r : Progress State) → rest left ps ≡ Some r → r.work.turns ≤ left

    go_few : (rest : Rest) → Few rest → (left : ℕ) (ps : List (Point State)) (r : Progress State) (o : Option (ℕ × State)) → go_on A slevel functions rest call f nodes left ps o ≡ Some r → r.work.turns ≤ left
    go_few rest h left ps r None e =
        let now : Progress State = record { points = ps; work = no_work } in
        let same : now ≡ r = cc in let z : 0 ≡ r.work.turns = ap (λ (y : Progress State). y.work.turns) same in omega arith
    go_few rest h left ps r (Some next) e = room (nat_eq left 0) refl e where
      rest_few : (t : Progress State) (o : Option (Progress State)) → (1 ≤ t.work.turns) × (t.work.turns ≤ left) → rest (left - t.work.turns) t.points ≡ o → and_then {B = Progress State} o (λ s. Some (worked A slevel functions t.work s)) ≡ Some r → r.work.turns ≤ left
      rest_few t None b q e = cc
      rest_few t (Some s) b q e =
          let same : worked A slevel functions t.work s ≡ r = cc in
          let z : t.work.turns + s.work.turns ≡ r.work.turns = ap (λ (y : Progress State). y.work.turns) same in
          let l : s.work.turns ≤ left - t.work.turns = h (left - t.work.turns) t.points s q in
          let m : t.work.turns ≤ left = b.1 in omega arith

      next_few : (o : Option (Progress State)) → 0 < left → turn A slevel functions call f nodes next.0 next.1 left ps ≡ o
          → and_then {B = Progress State} o (λ t. and_then (rest (left - t.work.turns) t.points) (λ s. Some (worked A slevel functions t.work s))) ≡ Some r → r.work.turns ≤ left
      next_few None z q e = cc
      next_few (Some t) z q e = rest_few t (rest (left - t.work.turns) t.points) (turn_few next.0 next.1 left ps t z q) refl e

      positive : (n : ℕ) → nat_eq n 0 ≡ false → 0 < n
      positive n e = grind arith

      room : (b : Bool) → nat_eq left 0 ≡ b → (if b then None else and_then {B = Progress State} (turn A slevel functions call f nodes next.0 next.1 left ps) (λ t. and_then (rest (left - t.work.turns) t.points) (λ s. Some (worked A slevel functions t.work s)))) ≡ Some r → r.work.turns ≤ left
      room true q e = cc
      room false q e = next_few (turn A slevel functions call f nodes next.0 next.1 left ps) (positive left q) refl e

    pub turns_few : (n : ℕ) → Few (turns A slevel functions n call f nodes)
    unfolding turns
    turns_few zero left ps r e = go_few (λ l qs. None) (λ l qs s q. cc) left ps r (least_pending ps) e
    turns_few (suc n) left ps r e = go_few (turns A slevel functions n call f nodes) (turns_few n) left ps r (least_pending ps) e

  function_few : (call : Caller State) → Keeps call → (f : ℕ) (function : Function) (x : State) (left : ℕ) (r : Ran State) → in_function A slevel functions call f function x left ≡ Some r → r.work.turns ≤ left
  function_few call K f function x left r e = by (turns A slevel functions left call f function.nodes left (first_points A slevel functions function x)) refl e where
    by : (o : Option (Progress State)) → turns A slevel functions left call f function.nodes left (first_points A slevel functions function x) ≡ o → and_then {B = Ran State} o (λ s. Some (ran A slevel functions f function s)) ≡ Some r → r.work.turns ≤ left
    by None q e = cc
    by (Some s) q e =
        let same : ran A slevel functions f function s ≡ r = cc in
        let z : s.work.turns ≡ r.work.turns = ap (λ (y : Ran State). y.work.turns) same in
        let l : s.work.turns ≤ left = turns_few call K f function.nodes left left (first_points A slevel functions function x) s q in omega arith

  pub run_few : (h : ℕ) → Keeps (run A slevel functions h)
  unfolding run
  run_few zero f x left r e = cc
  run_few (suc h) f x left r e = by (slice_get functions f) e (run_few h) where
    by : (o : Option Function) → and_then {B = Ran State} o (λ function. in_function A slevel functions (run A slevel functions h) f function x left) ≡ Some r → Keeps (run A slevel functions h) → r.work.turns ≤ left
    by None e k = cc
    by (Some function) e k = function_few (run A slevel functions h) k f function x left r e
