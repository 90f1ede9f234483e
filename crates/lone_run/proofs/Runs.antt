-- A run over calls: its states have the objects in life at their nodes.
use Rattle.std.proofs.Common.{◌≡◌, ℕ, zero, suc, ◌<◌, refl, sym, ◌∙◌, subst, arith, List, [], ◌∷◌, length, map, Option, Some, None, Bool, true, false, if◌then◌else◌, slice_get, inl, inr}
use Rattle.std.specs.Prelude.{Contains, slice_index_or}
use Rattle.std.proofs.lemmas.List.{length-map}
use Rattle.std.proofs.lemmas.List.Elements.{Contains-append_cases, Contains-push_cases}
use Rattle.program.specs.declared.graph.Node.{Node}
use Rattle.program.specs.declared.graph.Function.{Function}
use Rattle.program.specs.Lawful.{callee_of}
use Rattle.lone_run.specs.Analysis.{Analysis, Left}
use Rattle.lone_run.specs.Points.{Held, Point, empty_point, node_state}
use Rattle.lone_run.specs.Lone.{Work, Ended, Ran, Taken, Progress, Caller, and_then, taken, returned, back, raised, callee_in, callee_at, edges_in, edges_at, turns, first_points, ended, ran, in_function, run}
use Rattle.lone_run.specs.Executions.{Frame}
use Rattle.lone_run.specs.Soundness.{IsNode, StatesAreKept, StatesFit, HasGoodEdges}
use Rattle.lone_run.proofs.Pushes.{StatesKeep, GrownAt, FitAll, FitAt, At, InAt, AmongPoint, push_pushed}
use Rattle.lone_run.proofs.Turns.{Part, Good, Ends, SettledPoint, empty_contains, run_good}
use Rattle.lone_run.proofs.Joins.{JoinsKeep, node_fits, node_member, slice_get_map, slice_get_past}

pub part_self : {State Memory : Type 0} (A : Analysis State) (Member : Memory → State → Type 0) (Fit : ℕ → State → Type 0) (K : StatesKeep A Member Fit) (w : Work State) → Part A Member Fit K w w
part_self A Member Fit K w = record { alarms = λ s c. c; ended = λ e c. c }

module _ {State Memory : Type 0} (A : Analysis State) (slevel : ℕ) (functions : List Function) (Member : Memory → State → Type 0)
    (Sized : ℕ → State → Type 0) (Fits : List Frame → ℕ → ℕ → State → Type 0) (S : StatesAreKept A Member Sized) (F : StatesFit A functions Sized Fits) (E : HasGoodEdges functions) where
  -- the states at the nodes of function f, with these open calls
  pub keeps : (stack : List Frame) (f : ℕ) → StatesKeep A Member (Fits stack f)
  keeps stack f =
      let sized : (n : ℕ) (x : State) → Fits stack f n x → Sized f x = λ n x. F.fits_sized stack f n x in
      record {
        bottom_is = S.bottom_is;
        bottom_fits = λ n x e. F.fits_bottom stack f n x e;
        no_member = S.no_member;
        join_fits = λ n x y. F.fits_join stack f n x y;
        widen_fits = λ n x y. F.fits_widen stack f n x y;
        join_older = λ n x y m a b. S.join_older f x y m (sized n x a) (sized n y b);
        join_newer = λ n x y m a b. S.join_newer f x y m (sized n x a) (sized n y b);
        widen_older = λ n x y m a b. S.widen_older f x y m (sized n x a) (sized n y b);
        widen_newer = λ n x y m a b. S.widen_newer f x y m (sized n x a) (sized n y b);
        included_keeps = λ n x y m a b. S.included_keeps f x y m (sized n x a) (sized n y b);
      }

  -- the states of a run that ended have their sizes
  pub record Right (e : Ended State) : Type 0 where
    pub nodes : (n : ℕ) → Sized e.fun (slice_index_or e.nodes n A.bottom)
    pub exit : Sized e.fun e.exit

  pub record RanWell (stack : List Frame) (g : ℕ) (callee : Function) (r : Ran State) : Type 0 where
    pub exit : Fits stack g callee.exit r.exit
    pub right : (e : Ended State) → Contains r.work.ended e → Right e

  -- calls run defined functions, and well
  abbrev pub CallsWell : Caller State → Type 0
  CallsWell call = (g : ℕ) (x : State) (left : ℕ) (r : Ran State) → call g x left ≡ Some r
      → (callee : Function) × (slice_get functions g ≡ Some callee) × ((stack : List Frame) → Fits stack g callee.entry x → RanWell stack g callee r)

  -- ---- what a turn gives

  module _ (call : Caller State) (H : CallsWell call) (stack : List Frame) (f : ℕ) (function : Function) (at : slice_get functions f ≡ Some function) where
    abbrev pub frame : ℕ → Frame
    frame n = record { fun = f; node = n }

    -- what a turn of a node gives fits along its edges
    pub record TakenWell (edges : List ℕ) (r : Taken State) : Type 0 where
      pub fits : (k t : ℕ) (y : State) → slice_get edges k ≡ Some t → slice_get r.states k ≡ Some y → Fits stack f t y
      pub right : (e : Ended State) → Contains r.work.ended e → Right e

    one_state : (z y : State) (k : ℕ) → slice_get (z ∷ []) k ≡ Some y → z ≡ y
    one_state z y zero e = cc
    one_state z y (suc k) e = cc

    back_fits : (n g : ℕ) (node : Node) (callee : Function) (z : State) (k t : ℕ) → IsNode functions f n function node → callee_of node.instr ≡ Some g → slice_get functions g ≡ Some callee
        → Fits (frame n ∷ stack) g callee.exit z → slice_get node.edges k ≡ Some t → Fits stack f t (back A slevel functions f n z).state
    back_fits n g node callee z k t i c e fz a =
        elim (A.is_bottom z) as (λ b. Fits stack f t (let l : Left State = if b then record { state = A.bottom; alarms = [] } else A.leave f n z in l).state) [
          | true ↦ F.fits_bottom stack f t A.bottom S.bottom_is
          | false ↦ F.fits_leave stack f n g function callee node k t z i c e fz a
        ]

    behind_well : (n g : ℕ) (node : Node) (x : State) (left : ℕ) (r : Taken State) → IsNode functions f n function node → callee_of node.instr ≡ Some g → Fits stack f n x
        → (o : Option (Ran State)) → call g (A.enter f n x).state left ≡ o → and_then {B = Taken State} o (λ s. Some (returned A slevel functions f n (A.enter f n x).alarms s)) ≡ Some r
        → TakenWell node.edges r
    behind_well n g node x left r i c fx None q e = cc
    behind_well n g node x left r i c fx (Some s) q e =
        let h = H g (A.enter f n x).state left s q in
        let well = h.2 (frame n ∷ stack) (F.fits_enter stack f n g function h.0 node x i c h.1 fx) in
        let z : Left State = back A slevel functions f n s.exit in
        let now : Taken State = returned A slevel functions f n (A.enter f n x).alarms s in
        let same : now ≡ r = cc in
        let here : TakenWell node.edges now = record {
          fits = λ k t y a b. subst (λ v. Fits stack f t v) (one_state z.state y k b) (back_fits n g node h.0 s.exit k t i c h.1 well.exit a);
          right = λ d m. elim (Contains-append_cases s.work.ended [] d m) [ inl l ↦ well.right d l | inr w ↦ absurd (empty_contains d w) ];
        } in
        subst (TakenWell node.edges) same here

    called_well : (b : Bool) (n g : ℕ) (node : Node) (x : State) (left : ℕ) (r : Taken State) → IsNode functions f n function node → callee_of node.instr ≡ Some g → Fits stack f n x
        → (if b then Some (record { states = A.bottom ∷ []; work = raised (A.enter f n x).alarms }) else and_then (call g (A.enter f n x).state left) (λ s. Some (returned A slevel functions f n (A.enter f n x).alarms s))) ≡ Some r
        → TakenWell node.edges r
    called_well true n g node x left r i c fx e =
        let now : Taken State = record { states = A.bottom ∷ []; work = raised (A.enter f n x).alarms } in
        let same : now ≡ r = cc in
        let here : TakenWell node.edges now = record {
          fits = λ k t y a b. subst (λ v. Fits stack f t v) (one_state A.bottom y k b) (F.fits_bottom stack f t A.bottom S.bottom_is);
          right = λ d m. absurd (empty_contains d m);
        } in
        subst (TakenWell node.edges) same here
    called_well false n g node x left r i c fx e = behind_well n g node x left r i c fx _ refl e

    node_well : (n : ℕ) (node : Node) (o : Option ℕ) (x : State) (left : ℕ) (r : Taken State) → IsNode functions f n function node → callee_of node.instr ≡ o → Fits stack f n x
        → taken A slevel functions call f n o x left ≡ Some r → TakenWell node.edges r
    node_well n node None x left r i c fx e =
        let now : Taken State = record { states = (A.along f n x).states; work = raised (A.along f n x).alarms } in
        let same : now ≡ r = cc in
        let here : TakenWell node.edges now = record {
          fits = λ k t y a b. F.fits_along stack f n function node k t x y i c fx a b;
          right = λ d m. absurd (empty_contains d m);
        } in
        subst (TakenWell node.edges) same here
    node_well n node (Some g) x left r i c fx e = called_well (A.is_bottom (A.enter f n x).state) n g node x left r i c fx e

    taken_by : (n : ℕ) (o : Option Node) (x : State) (left : ℕ) (r : Taken State) → slice_get function.nodes n ≡ o → Fits stack f n x
        → taken A slevel functions call f n (callee_in o) x left ≡ Some r → TakenWell (edges_in o) r
    taken_by n None x left r a fx e =
        let now : Taken State = record { states = (A.along f n x).states; work = raised (A.along f n x).alarms } in
        let same : now ≡ r = cc in
        let here : TakenWell [] now = record { fits = λ k t y a b. cc; right = λ d m. absurd (empty_contains d m) } in
        subst (TakenWell []) same here
    taken_by n (Some node) x left r a fx e = node_well n node (callee_of node.instr) x left r (record { function_at = at; node_at = a }) refl fx e

    pub taken_well : (n : ℕ) (x : State) (left : ℕ) (r : Taken State) → Fits stack f n x → taken A slevel functions call f n (callee_at function.nodes n) x left ≡ Some r → TakenWell (edges_at function.nodes n) r
    taken_well n x left r fx e = taken_by n (slice_get function.nodes n) x left r refl fx e

    inside_by : (n k t : ℕ) (o : Option Node) → slice_get function.nodes n ≡ o → slice_get (edges_in o) k ≡ Some t → t < length function.nodes
    inside_by n k t None a e = cc
    inside_by n k t (Some node) a e = E.edges f n function node k t (record { function_at = at; node_at = a }) e

    pub inside : (n k t : ℕ) → slice_get (edges_at function.nodes n) k ≡ Some t → t < length function.nodes
    inside n k t e = inside_by n k t (slice_get function.nodes n) refl e

    -- ---- the points at the beginning

    abbrev pub GoodPoints : Work State → List (Point State) → Type 0
    GoodPoints whole ps = Good A Member (Fits stack f) (keeps stack f) slevel functions f function.nodes call inside
        (λ n x left r fx e. (taken_well n x left r fx e).fits) Right (λ n x left r fx e. (taken_well n x left r fx e).right) whole ps

    abbrev pub EndsWell : Work State → List (Point State) → Progress State → Type 0
    EndsWell whole ps r = Ends A Member (Fits stack f) (keeps stack f) slevel functions f function.nodes call inside
        (λ n x left r fx e. (taken_well n x left r fx e).fits) Right (λ n x left r fx e. (taken_well n x left r fx e).right) whole ps r

    empty_points : List Node → List (Point State)
    empty_points nodes = map (λ node. empty_point A) nodes

    all_empty : (nodes : List Node) (i : ℕ) (p : Point State) → slice_get (map (λ node. empty_point A) nodes) i ≡ Some p → empty_point A ≡ p
    all_empty [] i p e = cc
    all_empty (node ∷ nodes) zero p e = cc
    all_empty (node ∷ nodes) (suc i) p e = all_empty nodes i p e

    -- an empty point has no state but bottom
    empty_state : (h : Held State) (p : Point State) → empty_point A ≡ p → AmongPoint h p → A.is_bottom h.state ≡ true
    empty_state h p e a =
        let b : AmongPoint h (empty_point A) = subst (λ (q : Point State). AmongPoint h q) (sym e) a in
        elim b [
          | inl s ↦ absurd s
          | inr j ↦ subst (λ (g : Held State). A.is_bottom g.state ≡ true) j S.bottom_is
        ]

    empty_fits : (i : ℕ) (o : Option (Point State)) → slice_get (map (λ node. empty_point A) function.nodes) i ≡ o → FitAt (Fits stack f) i o
    empty_fits i None e = tt
    empty_fits i (Some p) e = λ h a. F.fits_bottom stack f i h.state (empty_state h p (all_empty function.nodes i p e) a)

    pub first_good : (whole : Work State) (x : State) → Fits stack f function.entry x → GoodPoints whole (first_points A slevel functions function x)
    first_good whole x fx =
        let ps : List (Point State) = map (λ node. empty_point A) function.nodes in
        let qs : List (Point State) = first_points A slevel functions function x in
        let w = push_pushed A Member (Fits stack f) (keeps stack f) slevel function.nodes ps function.entry x (λ i. empty_fits i (slice_get ps i) refl) fx in
        let by : (i : ℕ) (o o' : Option (Point State)) → slice_get ps i ≡ o → GrownAt Member o o'
        → SettledPoint A Member (Fits stack f) (keeps stack f) slevel functions f function.nodes call inside
        (λ n x left r fx e. (taken_well n x left r fx e).fits) Right (λ n x left r fx e. (taken_well n x left r fx e).right) whole qs i o' =
        λ i o o'. elim o' as (λ o'. slice_get ps i ≡ o → GrownAt Member o o'
        → SettledPoint A Member (Fits stack f) (keeps stack f) slevel functions f function.nodes call inside
        (λ n x left r fx e. (taken_well n x left r fx e).fits) Right (λ n x left r fx e. (taken_well n x left r fx e).right) whole qs i o') [
          | None ↦ λ e g. tt
          | Some q ↦ elim o as (λ o. slice_get ps i ≡ o → GrownAt Member o (Some q)
              → SettledPoint A Member (Fits stack f) (keeps stack f) slevel functions f function.nodes call inside
              (λ n x left r fx e. (taken_well n x left r fx e).fits) Right (λ n x left r fx e. (taken_well n x left r fx e).right) whole qs i (Some q)) [
                | None ↦ λ e g. absurd g
                | Some p ↦ λ e g h a z. inl (empty_state h p (all_empty function.nodes i p e) (g.still h a z))
              ]
        ] in
        record {
          settled = λ i. by i (slice_get ps i) (slice_get qs i) refl (w.grown i);
          fits = w.fits;
          long = w.long ∙ length-map function.nodes (λ node. empty_point A);
        }

    -- the given state's members stand at the entry
    pub first_member : (x : State) (m : Memory) → Fits stack f function.entry x → Member m x
        → At Member (first_points A slevel functions function x) function.entry m
    first_member x m fx i =
        let ps : List (Point State) = map (λ node. empty_point A) function.nodes in
        let w = push_pushed A Member (Fits stack f) (keeps stack f) slevel function.nodes ps function.entry x (λ i. empty_fits i (slice_get ps i) refl) fx in
        let l : function.entry < length ps = let e : length ps ≡ length function.nodes = length-map function.nodes (λ node. empty_point A) in let k = E.entry f function at in omega arith in
        w.met m l i

  -- ---- the states of a run that has ended

  joins_at : (stack : List Frame) (f n : ℕ) → JoinsKeep A Member (Fits stack f n)
  joins_at stack f n = record {
    bottom_fits = F.fits_bottom stack f n A.bottom S.bottom_is;
    join_fits = F.fits_join stack f n;
    join_older = λ x y m a b. S.join_older f x y m (F.fits_sized stack f n x a) (F.fits_sized stack f n y b);
    join_newer = λ x y m a b. S.join_newer f x y m (F.fits_sized stack f n x a) (F.fits_sized stack f n y b);
  }

  state_of : List (Point State) → ℕ → State
  state_of ps n = slice_index_or (map (node_state A) ps) n A.bottom

  pub state_fits : (stack : List Frame) (f : ℕ) (ps : List (Point State)) (n : ℕ) → FitAll (Fits stack f) ps → Fits stack f n (slice_index_or (map (node_state A) ps) n A.bottom)
  state_fits stack f ps n g = by (slice_get ps n) refl (g n) where
    by : (o : Option (Point State)) → slice_get ps n ≡ o → FitAt (Fits stack f) n o → Fits stack f n (slice_index_or (map (node_state A) ps) n A.bottom)
    by None e h = let q : slice_index_or (map (node_state A) ps) n A.bottom ≡ A.bottom = slice_get_past (node_state A) ps n A.bottom e in rw q (F.fits_bottom stack f n A.bottom S.bottom_is)
    by (Some p) e h =
        let q : slice_index_or (map (node_state A) ps) n A.bottom ≡ node_state A p = slice_get_map (node_state A) ps n A.bottom p e in
        rw q (node_fits A Member (Fits stack f n) (joins_at stack f n) p h)

  pub state_member : (stack : List Frame) (f : ℕ) (ps : List (Point State)) (n : ℕ) (m : Memory) → FitAll (Fits stack f) ps → At Member ps n m
      → Member m (slice_index_or (map (node_state A) ps) n A.bottom)
  state_member stack f ps n m g i = by (slice_get ps n) refl (g n) i where
    by : (o : Option (Point State)) → slice_get ps n ≡ o → FitAt (Fits stack f) n o → InAt Member m o → Member m (slice_index_or (map (node_state A) ps) n A.bottom)
    by None e h i = absurd i
    by (Some p) e h i =
        let q : slice_index_or (map (node_state A) ps) n A.bottom ≡ node_state A p = slice_get_map (node_state A) ps n A.bottom p e in
        rw q (node_member A Member (Fits stack f n) (joins_at stack f n) m p h i)

  pub ended_right : (stack : List Frame) (f : ℕ) (function : Function) (ps : List (Point State)) → FitAll (Fits stack f) ps → Right (ended A slevel functions f function ps)
  ended_right stack f function ps g = record {
    nodes = λ n. F.fits_sized stack f n _ (state_fits stack f ps n g);
    exit = F.fits_sized stack f function.exit _ (state_fits stack f ps function.exit g);
  }

  -- ---- runs by the height of the calls

  -- what a run that gave a result did
  pub record Did (call : Caller State) (f : ℕ) (function : Function) (x : State) (left : ℕ) (r : Ran State) : Type 0 where
    pub progress : Progress State
    pub is_run : turns A slevel functions left call f function.nodes left (first_points A slevel functions function x) ≡ Some progress
    pub same : ran A slevel functions f function progress ≡ r

  did_by : (call : Caller State) (f : ℕ) (function : Function) (x : State) (left : ℕ) (r : Ran State) (o : Option (Progress State))
      → turns A slevel functions left call f function.nodes left (first_points A slevel functions function x) ≡ o
      → and_then {B = Ran State} o (λ s. Some (ran A slevel functions f function s)) ≡ Some r → Did call f function x left r
  did_by call f function x left r None q e = cc
  did_by call f function x left r (Some s) q e = record { progress = s; is_run = q; same = let same : ran A slevel functions f function s ≡ r = cc in same }

  function_by : (h f : ℕ) (x : State) (left : ℕ) (r : Ran State) (o : Option Function) → slice_get functions f ≡ o
      → and_then {B = Ran State} o (λ function. in_function A slevel functions (run A slevel functions h) f function x left) ≡ Some r
      → (function : Function) × (slice_get functions f ≡ Some function) × Did (run A slevel functions h) f function x left r
  function_by h f x left r None q e = cc
  function_by h f x left r (Some function) q e = (function, q, did_by (run A slevel functions h) f function x left r _ refl e)

  pub run_did : (h f : ℕ) (x : State) (left : ℕ) (r : Ran State) → run A slevel functions (suc h) f x left ≡ Some r
      → (function : Function) × (slice_get functions f ≡ Some function) × Did (run A slevel functions h) f function x left r
  unfolding run
  run_did h f x left r e = function_by h f x left r (slice_get functions f) refl e

  pub no_height : (f : ℕ) (x : State) (left : ℕ) (r : Ran State) → run A slevel functions zero f x left ≡ Some r → ⊥
  unfolding run
  no_height f x left r e = cc

  did_well : (call : Caller State) (H : CallsWell call) (stack : List Frame) (f : ℕ) (function : Function) → slice_get functions f ≡ Some function → (x : State) (left : ℕ) (r : Ran State)
      → Did call f function x left r → Fits stack f function.entry x → RanWell stack f function r
  did_well call H stack f function at x left r d fx =
      let s : Progress State = d.progress in
      let ends = run_good A Member (Fits stack f) (keeps stack f) slevel functions f function.nodes call (inside call H stack f function at)
      (λ n x left r fx e. (taken_well call H stack f function at n x left r fx e).fits) Right (λ n x left r fx e. (taken_well call H stack f function at n x left r fx e).right)
      s.work left left (first_points A slevel functions function x) s (first_good call H stack f function at s.work x fx) d.is_run (part_self A Member (Fits stack f) (keeps stack f) s.work) in
      let fits : FitAll (Fits stack f) s.points = ends.went.good.fits in
      let e : Ended State = ended A slevel functions f function s.points in
      let now : Ran State = ran A slevel functions f function s in
      let here : RanWell stack f function now = record {
        exit = state_fits stack f s.points function.exit fits;
        right = λ b c. elim (Contains-push_cases s.work.ended e b c) [
          | inl o ↦ ends.went.right b o
          | inr q ↦ subst Right q (ended_right stack f function s.points fits)
        ];
      } in
      subst (RanWell stack f function) d.same here

  pub run_well : (h : ℕ) → CallsWell (run A slevel functions h)
  run_well zero g x left r e = absurd (no_height g x left r e)
  run_well (suc h) g x left r e =
      let d = run_did h g x left r e in
      (d.0, d.1, λ stack fx. did_well (run A slevel functions h) (run_well h) stack g d.0 d.1 x left r d.2 fx)
