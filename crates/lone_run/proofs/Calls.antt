-- Each configuration of an execution is covered: by the run of a function, or by that of a callee inside one of its turns.
use Rattle.std.proofs.Common.{◌≡◌, ℕ, zero, suc, ◌<◌, refl, ap, sym, ◌∙◌, subst, arith, List, [], ◌∷◌, length, Option, Some, None, Bool, true, false, if◌then◌else◌, slice_get, inl, inr, ◌⊎◌}
use Rattle.std.specs.Prelude.{Contains, slice_index_or}
use Rattle.std.proofs.lemmas.List.Elements.{Contains-append_left, Contains-push}
use Rattle.program.specs.declared.graph.Node.{Node}
use Rattle.program.specs.declared.graph.Function.{Function}
use Rattle.program.specs.declared.sites.Site.{Site}
use Rattle.program.specs.Lawful.{callee_of, is_return}
use Rattle.lone_run.specs.Analysis.{Analysis, Left}
use Rattle.lone_run.specs.Points.{Held, Point, least_pending, least_from}
use Rattle.lone_run.specs.Lone.{Work, Ended, Ran, Taken, Progress, Caller, and_then, taken, returned, back, raised, callee_in, edges_in, first_points, ended, ran, run, both_work}
use Rattle.lone_run.specs.Executions.{Frame, Config}
use Rattle.lone_run.specs.Soundness.{IsNode, StatesAreKept, StatesFit, HasGoodEdges, StandsAt, MembersAreKept, GoesAlong, GoesInto}
use Rattle.lone_run.proofs.Pushes.{StatesKeep, FitAt, At, InAt, InStates, InPoint, Among, AmongPoint, some_within, within_of}
use Rattle.lone_run.proofs.Turns.{Part, none_next, quiet, run_good, part_left, part_right, SettledPoint}
use Rattle.lone_run.proofs.Runs.{GoodPoints, run_well, keeps, state_fits, state_member, run_did, no_height, first_good, first_member, inside, taken_well, Right}

module _ {State Memory : Type 0} (Member : Memory → State → Type 0) where
  among_in : (m : Memory) (hs : List (Held State)) → InStates Member m hs → (h : Held State) × Among h hs × Member m h.state
  among_in m [] i = absurd i
  among_in m (h ∷ hs) (inl i) = (h, inl refl, i)
  among_in m (h ∷ hs) (inr i) = let r = among_in m hs i in (r.0, inr r.1, r.2)

  pub point_in : (m : Memory) (p : Point State) → InPoint Member m p → (h : Held State) × AmongPoint h p × Member m h.state
  point_in m p (inl i) = let r = among_in m p.separate i in (r.0, inl r.1, r.2)
  point_in m p (inr i) = (p.joined, inr refl, i)

module _ {State Memory : Type 0} (A : Analysis State) (slevel : ℕ) (functions : List Function) (Member : Memory → State → Type 0)
    (Sized : ℕ → State → Type 0) (Fits : List Frame → ℕ → ℕ → State → Type 0) (S : StatesAreKept A Member Sized) (F : StatesFit A functions Sized Fits) (E : HasGoodEdges functions)
    (Lawful : Config Memory → Type 0) (Step : Config Memory → Config Memory → Type 0) (IsUndefined : Config Memory → Site → Type 0)
    (M : MembersAreKept A functions Member Fits Lawful Step IsUndefined) (whole : Work State) where
  abbrev pub frame_at : ℕ → ℕ → Frame
  frame_at f n = record { fun = f; node = n }

  abbrev pub runs : ℕ → Caller State
  runs h = run A slevel functions h

  -- a run of function f has ended with these points
  pub record Active (h : ℕ) (stack : List Frame) (f : ℕ) (function : Function) (ps : List (Point State)) : Type 0 where
    pub at : slice_get functions f ≡ Some function
    pub good : GoodPoints A slevel functions Member Sized Fits S F E (runs h) (run_well A slevel functions Member Sized Fits S F E h) stack f function at whole ps
    pub none : least_pending ps ≡ None
    pub is_ended : Contains whole.ended (ended A slevel functions f function ps)

  -- an active run whose points have the state's members at the entry
  pub record Begun (h : ℕ) (stack : List Frame) (f : ℕ) (x : State) (r : Ran State) : Type 0 where
    pub function : Function
    pub points : List (Point State)
    pub active : Active h stack f function points
    pub exit : r.exit ≡ (ended A slevel functions f function points).exit
    pub entry : (m : Memory) → Member m x → At Member points function.entry m

  pub begun : (h : ℕ) (stack : List Frame) (f : ℕ) (function : Function) (x : State) (left : ℕ) (r : Ran State) → runs (suc h) f x left ≡ Some r → slice_get functions f ≡ Some function
      → Fits stack f function.entry x → Part A Member (Fits stack f) (keeps A slevel functions Member Sized Fits S F E stack f) r.work whole → Begun h stack f x r
  begun h stack f function x left r e at fx part =
      let d = run_did A slevel functions Member Sized Fits S F E h f x left r e in
      let g : Function = d.0 in
      let s : Progress State = d.2.progress in
      let same : function ≡ g = let q : Some function ≡ Some g = sym at ∙ d.1 in cc in
      let fg : Fits stack f g.entry x = subst (λ (z : Function). Fits stack f z.entry x) same fx in
      let K = keeps A slevel functions Member Sized Fits S F E stack f in
      let W = run_well A slevel functions Member Sized Fits S F E h in
      let whole_of : ran A slevel functions f g s ≡ r = d.2.same in
      let all : Part A Member (Fits stack f) K (ran A slevel functions f g s).work whole = subst (λ (z : Ran State). Part A Member (Fits stack f) K z.work whole) (sym whole_of) part in
      let mine : Part A Member (Fits stack f) K s.work whole = record {
        alarms = all.alarms;
        ended = λ b c. all.ended b (Contains-append_left s.work.ended (ended A slevel functions f g s.points ∷ []) b c);
      } in
      let ends = run_good A Member (Fits stack f) K slevel functions f g.nodes (runs h) (inside A slevel functions Member Sized Fits S F E (runs h) W stack f g d.1)
      (λ n x left r fx e. (taken_well A slevel functions Member Sized Fits S F E (runs h) W stack f g d.1 n x left r fx e).fits) (Right A slevel functions Member Sized Fits S F E)
      (λ n x left r fx e. (taken_well A slevel functions Member Sized Fits S F E (runs h) W stack f g d.1 n x left r fx e).right)
      whole left left (first_points A slevel functions g x) s (first_good A slevel functions Member Sized Fits S F E (runs h) W stack f g d.1 whole x fg) d.2.is_run mine in
      record {
        function = g;
        points = s.points;
        active = record {
          at = d.1;
          good = ends.went.good;
          none = ends.quiet;
          is_ended = all.ended _ (Contains-push s.work.ended (ended A slevel functions f g s.points));
        };
        exit = sym (ap (λ (z : Ran State). z.exit) whole_of);
        entry = λ m i. ends.went.widened g.entry m (first_member A slevel functions Member Sized Fits S F E (runs h) W stack f g d.1 x m fg i);
      }

  -- a state of the node has the memory as a member, and had its turn
  pub record Found (h : ℕ) (stack : List Frame) (f : ℕ) (function : Function) (ps : List (Point State)) (n : ℕ) (m : Memory) : Type 0 where
    pub node : Node
    pub is_node : IsNode functions f n function node
    pub x : State
    pub fits : Fits stack f n x
    pub member : Member m x
    pub left : ℕ
    pub gave : Taken State
    pub is_taken : taken A slevel functions (runs h) f n (callee_of node.instr) x left ≡ Some gave
    pub work : Part A Member (Fits stack f) (keeps A slevel functions Member Sized Fits S F E stack f) gave.work whole
    pub met : (k t : ℕ) (y : State) (w : Memory) → slice_get node.edges k ≡ Some t → slice_get gave.states k ≡ Some y → Member w y → At Member ps t w

  by_least : (ps : List (Point State)) → least_pending ps ≡ None → least_from 0 ps ≡ None
  unfolding least_pending
  by_least ps e = e

  find_by : (h : ℕ) (stack : List Frame) (f : ℕ) (function : Function) (ps : List (Point State)) (n : ℕ) (m : Memory) → Active h stack f function ps
      → (o : Option (Point State)) → slice_get ps n ≡ o → InAt Member m o → Found h stack f function ps n m
  find_by h stack f function ps n m a None e i = absurd i
  find_by h stack f function ps n m a (Some p) e i =
      let K = keeps A slevel functions Member Sized Fits S F E stack f in
      let W = run_well A slevel functions Member Sized Fits S F E h in
      let In = inside A slevel functions Member Sized Fits S F E (runs h) W stack f function a.at in
      let T = taken_well A slevel functions Member Sized Fits S F E (runs h) W stack f function a.at in
      let r = point_in Member m p i in
      let held : Held State = r.0 in
      let within : n < length ps = within_of ps n p e in
      let there = some_within function.nodes n (let l : length ps ≡ length function.nodes = a.good.long in omega arith) in
      let node : Node = there.0 in
      let is_node : IsNode functions f n function node = record { function_at = a.at; node_at = there.1 } in
      let no_next = none_next 0 ps (by_least ps a.none) n p e in
      let still : held.pending ≡ false = quiet A Member (Fits stack f) K p no_next held r.1 in
      let fits : Fits stack f n held.state = (subst (λ o. FitAt (Fits stack f) n o) e (a.good.fits n)) held r.1 in
      let settled = (subst (λ o. SettledPoint A Member (Fits stack f) K slevel functions f function.nodes (runs h) In (λ n x left r fx e. (T n x left r fx e).fits)
      (Right A slevel functions Member Sized Fits S F E) (λ n x left r fx e. (T n x left r fx e).right) whole ps n o) e (a.good.settled n)) held r.1 still in
      elim settled [
        | inl b ↦ absurd (S.no_member held.state m b r.2)
        | inr t ↦ record {
          node = node;
          is_node = is_node;
          x = held.state;
          fits = fits;
          member = r.2;
          left = t.left;
          gave = t.gave;
          is_taken = subst (λ o. taken A slevel functions (runs h) f n (callee_in o) held.state t.left ≡ Some t.gave) there.1 t.is_taken;
          work = t.work;
          met = λ k u y w c d j. t.met k u y w (subst (λ o. slice_get (edges_in o) k ≡ Some u) (sym there.1) c) d j;
        }
      ]

  pub find : (h : ℕ) (stack : List Frame) (f : ℕ) (function : Function) (ps : List (Point State)) (n : ℕ) (m : Memory) → Active h stack f function ps → At Member ps n m → Found h stack f function ps n m
  find h stack f function ps n m a i = find_by h stack f function ps n m a (slice_get ps n) refl i

  -- ---- coverage

  -- what lies behind a call of g from node n, when the callee's run has ended with these points
  pub record Behind (f n : ℕ) (function : Function) (ps : List (Point State)) (g : ℕ) (callee : Function) (qs : List (Point State)) : Type 0 where
    pub node : Node
    pub is_node : IsNode functions f n function node
    pub is_call : callee_of node.instr ≡ Some g
    pub met : (t : ℕ) (m : Memory) → slice_get node.edges 0 ≡ Some t → Member m (back A slevel functions f n (ended A slevel functions g callee qs).exit).state → At Member ps t m
    pub alarms : (s : Site) → Contains (back A slevel functions f n (ended A slevel functions g callee qs).exit).alarms s → Contains whole.alarms s

  -- the configuration stands in this run of f
  pub record Here (stack : List Frame) (f : ℕ) (ps : List (Point State)) (c : Config Memory) : Type 0 where
    pub fun : c.fun ≡ f
    pub stack_is : c.stack ≡ stack
    pub member : At Member ps c.node c.memory

  -- or in the run of a callee
  abbrev pub Covers : ℕ → List Frame → ℕ → Function → List (Point State) → Config Memory → Type 0
  Covers zero stack f function ps c = Here stack f ps c
  Covers (suc h) stack f function ps c = Here stack f ps c
      ⊎ ((n : ℕ) × (g : ℕ) × (callee : Function) × (qs : List (Point State)) × Active h (frame_at f n ∷ stack) g callee qs × Behind f n function ps g callee qs × Covers h (frame_at f n ∷ stack) g callee qs c)

  pub here_covers : (h : ℕ) (stack : List Frame) (f : ℕ) (function : Function) (ps : List (Point State)) (c : Config Memory) → Here stack f ps c → Covers h stack f function ps c
  here_covers zero stack f function ps c i = i
  here_covers (suc h) stack f function ps c i = inl i

  -- the configuration stands at the exit of this run
  pub record Exits (stack : List Frame) (f : ℕ) (function : Function) (ps : List (Point State)) (c : Config Memory) : Type 0 where
    pub here : Here stack f ps c
    pub node : Node
    pub is_node : IsNode functions f c.node function node
    pub returns : is_return node.instr ≡ true
    pub at_exit : c.node ≡ function.exit

  -- the exit state of a run that covers its exit
  pub record ExitState (stack : List Frame) (f : ℕ) (function : Function) (ps : List (Point State)) (c : Config Memory) (z : State) : Type 0 where
    pub fits : Fits stack f function.exit z
    pub member : Member c.memory z

  pub exit_state : (h : ℕ) (stack : List Frame) (f : ℕ) (function : Function) (ps : List (Point State)) (c : Config Memory) → Active h stack f function ps → Exits stack f function ps c
      → ExitState stack f function ps c (ended A slevel functions f function ps).exit
  exit_state h stack f function ps c a e = record {
    fits = state_fits A slevel functions Member Sized Fits S F E stack f ps function.exit a.good.fits;
    member = state_member A slevel functions Member Sized Fits S F E stack f ps function.exit c.memory a.good.fits (subst (λ n. At Member ps n c.memory) e.at_exit e.here.member);
  }

  -- where a state has a member, the callee's exit isn't bottom
  back_is : (f n : ℕ) (z : State) (m : Memory) → Member m z → back A slevel functions f n z ≡ A.leave f n z
  back_is f n z m i = by (A.is_bottom z) refl where
    by : (b : Bool) → A.is_bottom z ≡ b → (if b then record { state = A.bottom; alarms = [] } else A.leave f n z) ≡ A.leave f n z
    by true e = absurd (S.no_member z m e i)
    by false e = refl

  -- a configuration at a node of an active run
  pub stands : (stack : List Frame) (f : ℕ) (function : Function) (node : Node) (x : State) (c : Config Memory) → IsNode functions f c.node function node → c.fun ≡ f → c.stack ≡ stack
      → Lawful c → Fits stack f c.node x → Member c.memory x → StandsAt A functions Member Fits Lawful Step IsUndefined function node x c
  stands stack f function node x c i e s l fx m = record {
    at = subst (λ g. IsNode functions g c.node function node) (sym e) i;
    lawful = l;
    fits = subst (λ g. Fits c.stack g c.node x) (sym e) (subst (λ s. Fits s f c.node x) (sym s) fx);
    member = m;
  }

  -- ---- one step

  abbrev pub config : List Frame → ℕ → ℕ → Memory → Config Memory
  config stack f n m = record { fun = f; node = n; stack = stack; memory = m }

  config_is : (stack : List Frame) (f : ℕ) (ps : List (Point State)) (c : Config Memory) → Here stack f ps c → c ≡ config stack f c.node c.memory
  config_is stack f ps c i =
      let a : c ≡ config c.stack f c.node c.memory = ap (λ g. config c.stack g c.node c.memory) i.fun in
      a ∙ ap (λ s. config s f c.node c.memory) i.stack_is

  -- the callee's run inside a turn of a call
  pub record Inner (h f n g : ℕ) (x : State) (left : ℕ) (gave : Taken State) : Type 0 where
    pub r : Ran State
    pub is_run : runs h g (A.enter f n x).state left ≡ Some r
    pub same : returned A slevel functions f n (A.enter f n x).alarms r ≡ gave

  inner_by : (h f n g : ℕ) (x : State) (left : ℕ) (gave : Taken State) (o : Option (Ran State)) → runs h g (A.enter f n x).state left ≡ o
      → and_then {B = Taken State} o (λ r. Some (returned A slevel functions f n (A.enter f n x).alarms r)) ≡ Some gave → Inner h f n g x left gave
  inner_by h f n g x left gave None q e = cc
  inner_by h f n g x left gave (Some r) q e = record { r = r; is_run = q; same = let same : returned A slevel functions f n (A.enter f n x).alarms r ≡ gave = cc in same }

  inner : (h f n g : ℕ) (x : State) (left : ℕ) (gave : Taken State) (m : Memory) → Member m (A.enter f n x).state → taken A slevel functions (runs h) f n (Some g) x left ≡ Some gave → Inner h f n g x left gave
  inner h f n g x left gave m i e = by (A.is_bottom (A.enter f n x).state) refl e where
    by : (b : Bool) → A.is_bottom (A.enter f n x).state ≡ b
        → (if b then Some (record { states = A.bottom ∷ []; work = raised (A.enter f n x).alarms })
        else and_then {B = Taken State} (runs h g (A.enter f n x).state left) (λ r. Some (returned A slevel functions f n (A.enter f n x).alarms r))) ≡ Some gave → Inner h f n g x left gave
    by true q e = absurd (S.no_member (A.enter f n x).state m q i)
    by false q e = inner_by h f n g x left gave (runs h g (A.enter f n x).state left) refl e

  abbrev KeepsAt : (stack : List Frame) (f : ℕ) → StatesKeep A Member (Fits stack f)
  KeepsAt stack f = keeps A slevel functions Member Sized Fits S F E stack f

  -- a call: the callee's run covers what comes
  into : (h : ℕ) (stack : List Frame) (f : ℕ) (function : Function) (ps : List (Point State)) (n : ℕ) (m : Memory) (d : Config Memory) (g : ℕ) → Active h stack f function ps
      → (found : Found h stack f function ps n m) → callee_of found.node.instr ≡ Some g
      → GoesInto A Member functions g found.x (config stack f n m) d
      → Inner h f n g found.x found.left found.gave → Covers h stack f function ps d
  into zero stack f function ps n m d g a found c goes w = absurd (no_height A slevel functions Member Sized Fits S F E g (A.enter f n found.x).state found.left w.r w.is_run)
  into (suc h) stack f function ps n m d g a found c goes w =
      let r : Ran State = w.r in
      let did = run_did A slevel functions Member Sized Fits S F E h g (A.enter f n found.x).state found.left r w.is_run in
      let callee : Function = did.0 in
      let inner_stack : List Frame = frame_at f n ∷ stack in
      let z : Left State = back A slevel functions f n r.exit in
      let part : Part A Member (Fits stack f) (KeepsAt stack f) (returned A slevel functions f n (A.enter f n found.x).alarms r).work whole =
      subst (λ (t : Taken State). Part A Member (Fits stack f) (KeepsAt stack f) t.work whole) (sym w.same) found.work in
      let later = part_right A Member (Fits stack f) (KeepsAt stack f) (raised (A.enter f n found.x).alarms) (both_work r.work (raised z.alarms)) whole part in
      let mine = part_left A Member (Fits stack f) (KeepsAt stack f) r.work (raised z.alarms) whole later in
      let last = part_right A Member (Fits stack f) (KeepsAt stack f) r.work (raised z.alarms) whole later in
      let fits = F.fits_enter stack f n g function callee found.node found.x found.is_node c did.1 found.fits in
      let b = begun h inner_stack g callee (A.enter f n found.x).state found.left r w.is_run did.1 fits (record { alarms = mine.alarms; ended = mine.ended }) in
      let one : goes.callee ≡ b.function = let q : Some goes.callee ≡ Some b.function = sym goes.defined ∙ b.active.at in cc in
      let exit : r.exit ≡ (ended A slevel functions g b.function b.points).exit = b.exit in
      let states : found.gave.states ≡ z.state ∷ [] = ap (λ (t : Taken State). t.states) (sym w.same) in
      let behind : Behind f n function ps g b.function b.points = record {
        node = found.node;
        is_node = found.is_node;
        is_call = c;
        met = λ t u k i. found.met 0 t z.state u k (rw states refl) (subst (λ v. Member u (back A slevel functions f n v).state) (sym exit) i);
        alarms = λ s k. last.alarms s (subst (λ v. Contains (back A slevel functions f n v).alarms s) (sym exit) k);
      } in
      let here : Here inner_stack g b.points d = record {
        fun = ap (λ (y : Config Memory). y.fun) goes.same;
        stack_is = ap (λ (y : Config Memory). y.stack) goes.same;
        member = subst (λ k. At Member b.points k d.memory) (sym (ap (λ (y : Config Memory). y.node) goes.same ∙ ap (λ (y : Function). y.entry) one)) (b.entry d.memory goes.member);
      } in
      inr (n, g, b.function, b.points, b.active, behind, here_covers h inner_stack g b.function b.points d here)

  -- a node that neither calls nor returns
  along : (h : ℕ) (stack : List Frame) (f : ℕ) (function : Function) (ps : List (Point State)) (n : ℕ) (m : Memory) (d : Config Memory) (found : Found h stack f function ps n m)
      → callee_of found.node.instr ≡ None → GoesAlong A Member found.node found.x (config stack f n m) d → Covers h stack f function ps d
  along h stack f function ps n m d found c g =
      let is : taken A slevel functions (runs h) f n None found.x found.left ≡ Some found.gave = subst (λ o. taken A slevel functions (runs h) f n o found.x found.left ≡ Some found.gave) c found.is_taken in
      let now : Taken State = record { states = (A.along f n found.x).states; work = raised (A.along f n found.x).alarms } in
      let same : now ≡ found.gave = cc in
      let states : (A.along f n found.x).states ≡ found.gave.states = ap (λ (t : Taken State). t.states) same in
      let met = found.met g.k g.t g.y d.memory g.edge (subst (λ xs. slice_get xs g.k ≡ Some g.y) states g.left) g.member in
      here_covers h stack f function ps d (record {
        fun = ap (λ (y : Config Memory). y.fun) g.same;
        stack_is = ap (λ (y : Config Memory). y.stack) g.same;
        member = subst (λ k. At Member ps k d.memory) (sym (ap (λ (y : Config Memory). y.node) g.same)) met;
      })

  step_at : (h : ℕ) (stack : List Frame) (f : ℕ) (function : Function) (ps : List (Point State)) (n : ℕ) (m : Memory) (d : Config Memory) → Active h stack f function ps
      → At Member ps n m → (found : Found h stack f function ps n m) → Lawful (config stack f n m) → Step (config stack f n m) d
      → (o : Option ℕ) → callee_of found.node.instr ≡ o → (b : Bool) → is_return found.node.instr ≡ b
      → Covers h stack f function ps d ⊎ Exits stack f function ps (config stack f n m)
  step_at h stack f function ps n m d a i found l s (Some g) c b e =
      let stand = stands stack f function found.node found.x (config stack f n m) found.is_node refl refl l found.fits found.member in
      let goes = M.calls function found.node g found.x (config stack f n m) d stand c s in
      let is : taken A slevel functions (runs h) f n (Some g) found.x found.left ≡ Some found.gave = subst (λ o. taken A slevel functions (runs h) f n o found.x found.left ≡ Some found.gave) c found.is_taken in
      inl (into h stack f function ps n m d g a found c goes (inner h f n g found.x found.left found.gave d.memory goes.member is))
  step_at h stack f function ps n m d a i found l s None c false e =
      let stand = stands stack f function found.node found.x (config stack f n m) found.is_node refl refl l found.fits found.member in
      inl (along h stack f function ps n m d found c (M.moves function found.node found.x (config stack f n m) d stand c e s))
  step_at h stack f function ps n m d a i found l s None c true e = inr (record {
    here = record { fun = refl; stack_is = refl; member = i };
    node = found.node;
    is_node = found.is_node;
    returns = e;
    at_exit = E.exit f n function found.node found.is_node e;
  })

  step_here : (h : ℕ) (stack : List Frame) (f : ℕ) (function : Function) (ps : List (Point State)) (c d : Config Memory) → Active h stack f function ps
      → Here stack f ps c → Lawful c → Step c d → Covers h stack f function ps d ⊎ Exits stack f function ps c
  step_here h stack f function ps c d a i l s =
      let at : c ≡ config stack f c.node c.memory = config_is stack f ps c i in
      let found = find h stack f function ps c.node c.memory a i.member in
      let r = step_at h stack f function ps c.node c.memory d a i.member found (subst Lawful at l) (subst (λ b. Step b d) at s) _ refl _ refl in
      elim r [ inl v ↦ inl v | inr e ↦ inr (subst (λ b. Exits stack f function ps b) (sym at) e) ]

  -- ---- out of a callee

  one_node : (f n : ℕ) (function other : Function) (node rest : Node) → IsNode functions f n function node → IsNode functions f n other rest → (function ≡ other) × (node ≡ rest)
  one_node f n function other node rest i j =
      let e : Some function ≡ Some other = sym i.function_at ∙ j.function_at in
      let same : function ≡ other = cc in
      let k : slice_get function.nodes n ≡ Some rest = subst (λ (g : Function). slice_get g.nodes n ≡ Some rest) (sym same) j.node_at in
      let q : Some node ≡ Some rest = sym i.node_at ∙ k in
      (same, cc)

  step_back : (h : ℕ) (stack : List Frame) (f n g : ℕ) (function callee : Function) (ps qs : List (Point State)) (c d : Config Memory) → Active h (frame_at f n ∷ stack) g callee qs
      → Behind f n function ps g callee qs → Exits (frame_at f n ∷ stack) g callee qs c → Lawful c → Step c d → Here stack f ps d
  step_back h stack f n g function callee ps qs c d a b e l s =
      let z : State = (ended A slevel functions g callee qs).exit in
      let x = exit_state h (frame_at f n ∷ stack) g callee qs c a e in
      let fits : Fits (frame_at f n ∷ stack) g c.node z = subst (λ k. Fits (frame_at f n ∷ stack) g k z) (sym e.at_exit) x.fits in
      let stand = stands (frame_at f n ∷ stack) g callee e.node z c e.is_node e.here.fun e.here.stack_is l fits x.member in
      let r = M.returns callee e.node z c d stand e.returns s in
      let both : r.frame ∷ r.rest ≡ frame_at f n ∷ stack = sym r.stack ∙ e.here.stack_is in
      let frame : r.frame ≡ frame_at f n = cc in
      let rest : r.rest ≡ stack = cc in
      let fun : r.frame.fun ≡ f = ap (λ (y : Frame). y.fun) frame in
      let at : IsNode functions f n r.function r.node = subst (λ (y : Frame). IsNode functions y.fun y.node r.function r.node) frame r.at in
      let node : b.node ≡ r.node = (one_node f n function r.function b.node r.node b.is_node at).1 in
      let edge : slice_get b.node.edges 0 ≡ Some r.t = subst (λ (y : Node). slice_get y.edges 0 ≡ Some r.t) (sym node) r.edge in
      let left : Member d.memory (A.leave f n z).state = subst (λ (y : Frame). Member d.memory (A.leave y.fun y.node z).state) frame r.member in
      let met : At Member ps r.t d.memory = b.met r.t d.memory edge (subst (λ (y : Left State). Member d.memory y.state) (sym (back_is f n z c.memory x.member)) left) in
      record {
        fun = ap (λ (y : Config Memory). y.fun) r.same ∙ fun;
        stack_is = ap (λ (y : Config Memory). y.stack) r.same ∙ rest;
        member = subst (λ k. At Member ps k d.memory) (sym (ap (λ (y : Config Memory). y.node) r.same)) met;
      }

  -- a step stays covered, or leaves this run from its exit
  pub step_covered : (h : ℕ) (stack : List Frame) (f : ℕ) (function : Function) (ps : List (Point State)) (c d : Config Memory) → Active h stack f function ps
      → Covers h stack f function ps c → Lawful c → Step c d → Covers h stack f function ps d ⊎ Exits stack f function ps c
  step_covered zero stack f function ps c d a i l s = step_here zero stack f function ps c d a i l s
  step_covered (suc h) stack f function ps c d a (inl i) l s = step_here (suc h) stack f function ps c d a i l s
  step_covered (suc h) stack f function ps c d a (inr (n, g, callee, qs, b, behind, v)) l s =
      elim (step_covered h (frame_at f n ∷ stack) g callee qs c d b v l s) [
        | inl w ↦ inl (inr (n, g, callee, qs, b, behind, w))
        | inr e ↦ inl (inl (step_back h stack f n g function callee ps qs c d b behind e l s))
      ]

  -- ---- undefined places

  enter_alarm : (h f n g : ℕ) (x : State) (left : ℕ) (gave : Taken State) (s : Site) → taken A slevel functions (runs h) f n (Some g) x left ≡ Some gave → Contains (A.enter f n x).alarms s → Contains gave.work.alarms s
  enter_alarm h f n g x left gave s e k = by (A.is_bottom (A.enter f n x).state) e where
    run_by : (o : Option (Ran State)) → and_then {B = Taken State} o (λ r. Some (returned A slevel functions f n (A.enter f n x).alarms r)) ≡ Some gave → Contains gave.work.alarms s
    run_by None e = cc
    run_by (Some r) e =
        let now : Taken State = returned A slevel functions f n (A.enter f n x).alarms r in
        let same : now ≡ gave = cc in
        subst (λ (t : Taken State). Contains t.work.alarms s) same (Contains-append_left (A.enter f n x).alarms _ s k)

    by : (b : Bool) → (if b then Some (record { states = A.bottom ∷ []; work = raised (A.enter f n x).alarms })
        else and_then {B = Taken State} (runs h g (A.enter f n x).state left) (λ r. Some (returned A slevel functions f n (A.enter f n x).alarms r))) ≡ Some gave → Contains gave.work.alarms s
    by true e =
        let now : Taken State = record { states = A.bottom ∷ []; work = raised (A.enter f n x).alarms } in
        let same : now ≡ gave = cc in
        subst (λ (t : Taken State). Contains t.work.alarms s) same k
    by false e = run_by (runs h g (A.enter f n x).state left) e

  alarm_at : (h : ℕ) (stack : List Frame) (f : ℕ) (function : Function) (ps : List (Point State)) (n : ℕ) (m : Memory) (s : Site) → At Member ps n m → (found : Found h stack f function ps n m)
      → Lawful (config stack f n m) → IsUndefined (config stack f n m) s → (o : Option ℕ) → callee_of found.node.instr ≡ o → (b : Bool) → is_return found.node.instr ≡ b
      → Contains whole.alarms s ⊎ Exits stack f function ps (config stack f n m)
  alarm_at h stack f function ps n m s i found l u (Some g) c b e =
      let stand = stands stack f function found.node found.x (config stack f n m) found.is_node refl refl l found.fits found.member in
      let alarm = M.calls_alarm function found.node g found.x (config stack f n m) s stand c u in
      let is : taken A slevel functions (runs h) f n (Some g) found.x found.left ≡ Some found.gave = subst (λ o. taken A slevel functions (runs h) f n o found.x found.left ≡ Some found.gave) c found.is_taken in
      inl (found.work.alarms s (enter_alarm h f n g found.x found.left found.gave s is alarm))
  alarm_at h stack f function ps n m s i found l u None c false e =
      let stand = stands stack f function found.node found.x (config stack f n m) found.is_node refl refl l found.fits found.member in
      let alarm = M.moves_alarm function found.node found.x (config stack f n m) s stand c e u in
      let is : taken A slevel functions (runs h) f n None found.x found.left ≡ Some found.gave = subst (λ o. taken A slevel functions (runs h) f n o found.x found.left ≡ Some found.gave) c found.is_taken in
      let now : Taken State = record { states = (A.along f n found.x).states; work = raised (A.along f n found.x).alarms } in
      let same : now ≡ found.gave = cc in
      inl (found.work.alarms s (subst (λ (t : Taken State). Contains t.work.alarms s) same alarm))
  alarm_at h stack f function ps n m s i found l u None c true e = inr (record {
    here = record { fun = refl; stack_is = refl; member = i };
    node = found.node;
    is_node = found.is_node;
    returns = e;
    at_exit = E.exit f n function found.node found.is_node e;
  })

  alarm_here : (h : ℕ) (stack : List Frame) (f : ℕ) (function : Function) (ps : List (Point State)) (c : Config Memory) (s : Site) → Active h stack f function ps
      → Here stack f ps c → Lawful c → IsUndefined c s → Contains whole.alarms s ⊎ Exits stack f function ps c
  alarm_here h stack f function ps c s a i l u =
      let at : c ≡ config stack f c.node c.memory = config_is stack f ps c i in
      let found = find h stack f function ps c.node c.memory a i.member in
      let r = alarm_at h stack f function ps c.node c.memory s i.member found (subst Lawful at l) (subst (λ b. IsUndefined b s) at u) _ refl _ refl in
      elim r [ inl v ↦ inl v | inr e ↦ inr (subst (λ b. Exits stack f function ps b) (sym at) e) ]

  alarm_back : (h : ℕ) (stack : List Frame) (f n g : ℕ) (function callee : Function) (ps qs : List (Point State)) (c : Config Memory) (s : Site) → Active h (frame_at f n ∷ stack) g callee qs
      → Behind f n function ps g callee qs → Exits (frame_at f n ∷ stack) g callee qs c → Lawful c → IsUndefined c s → Contains whole.alarms s
  alarm_back h stack f n g function callee ps qs c s a b e l u =
      let z : State = (ended A slevel functions g callee qs).exit in
      let x = exit_state h (frame_at f n ∷ stack) g callee qs c a e in
      let fits : Fits (frame_at f n ∷ stack) g c.node z = subst (λ k. Fits (frame_at f n ∷ stack) g k z) (sym e.at_exit) x.fits in
      let stand = stands (frame_at f n ∷ stack) g callee e.node z c e.is_node e.here.fun e.here.stack_is l fits x.member in
      let r = M.returns_alarm callee e.node z c s stand e.returns u in
      let both : r.frame ∷ r.rest ≡ frame_at f n ∷ stack = sym r.stack ∙ e.here.stack_is in
      let frame : r.frame ≡ frame_at f n = cc in
      let alarm : Contains (A.leave f n z).alarms s = subst (λ (y : Frame). Contains (A.leave y.fun y.node z).alarms s) frame r.alarm in
      b.alarms s (subst (λ (y : Left State). Contains y.alarms s) (sym (back_is f n z c.memory x.member)) alarm)

  -- an undefined place is among the alarms, or is found behind the call of this run
  pub alarm_covered : (h : ℕ) (stack : List Frame) (f : ℕ) (function : Function) (ps : List (Point State)) (c : Config Memory) (s : Site) → Active h stack f function ps
      → Covers h stack f function ps c → Lawful c → IsUndefined c s → Contains whole.alarms s ⊎ Exits stack f function ps c
  alarm_covered zero stack f function ps c s a i l u = alarm_here zero stack f function ps c s a i l u
  alarm_covered (suc h) stack f function ps c s a (inl i) l u = alarm_here (suc h) stack f function ps c s a i l u
  alarm_covered (suc h) stack f function ps c s a (inr (n, g, callee, qs, b, behind, v)) l u =
      elim (alarm_covered h (frame_at f n ∷ stack) g callee qs c s b v l u) [
        | inl w ↦ inl w
        | inr e ↦ inl (alarm_back h stack f n g function callee ps qs c s b behind e l u)
      ]

  -- ---- what is kept of the nodes

  -- a run that ended has the memory among the members of its node, and of its exit
  pub record Recorded (c : Config Memory) : Type 0 where
    pub run : Ended State
    pub is_ended : Contains whole.ended run
    pub fun : run.fun ≡ c.fun
    pub node : Member c.memory (slice_index_or run.nodes c.node A.bottom)
    pub exit : (function : Function) → slice_get functions c.fun ≡ Some function → c.node ≡ function.exit → Member c.memory run.exit

  recorded_here : (h : ℕ) (stack : List Frame) (f : ℕ) (function : Function) (ps : List (Point State)) (c : Config Memory) → Active h stack f function ps → Here stack f ps c → Recorded c
  recorded_here h stack f function ps c a i = record {
    run = ended A slevel functions f function ps;
    is_ended = a.is_ended;
    fun = sym i.fun;
    node = state_member A slevel functions Member Sized Fits S F E stack f ps c.node c.memory a.good.fits i.member;
    exit = λ other e x.
        let q : Some other ≡ Some function = sym (subst (λ g. slice_get functions g ≡ Some other) i.fun e) ∙ a.at in
        let same : other ≡ function = cc in
        let there : At Member ps function.exit c.memory = subst (λ n. At Member ps n c.memory) (x ∙ ap (λ (y : Function). y.exit) same) i.member in
        state_member A slevel functions Member Sized Fits S F E stack f ps function.exit c.memory a.good.fits there;
  }

  pub recorded : (h : ℕ) (stack : List Frame) (f : ℕ) (function : Function) (ps : List (Point State)) (c : Config Memory) → Active h stack f function ps → Covers h stack f function ps c → Recorded c
  recorded zero stack f function ps c a i = recorded_here zero stack f function ps c a i
  recorded (suc h) stack f function ps c a (inl i) = recorded_here (suc h) stack f function ps c a i
  recorded (suc h) stack f function ps c a (inr (n, g, callee, qs, b, behind, v)) = recorded h (frame_at f n ∷ stack) g callee qs c b v
