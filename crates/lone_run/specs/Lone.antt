-- The lone run of an entry function: one iteration over its graph with a budget of turns, calls nested.
use Rattle.std.specs.Prelude.{ℕ, zero, suc, ◌+◌, ◌-◌, nat_eq, length, List, [], ◌∷◌, ◌++◌, map, filter, Option, Some, None, Bool, if◌then◌else◌, slice_get, slice_index_or}
use Rattle.std.specs.List.{list_any}
use Rattle.program.specs.declared.graph.Node.{Node}
use Rattle.program.specs.declared.graph.Function.{Function}
use Rattle.program.specs.declared.sites.Site.{Site}
use Rattle.program.specs.Lawful.{callee_of}
use Rattle.lone_run.specs.Analysis.{Analysis, Left}
use Rattle.lone_run.specs.Points.{Point, empty_point, least_pending, settled_at, push, push_along, join_all, node_state}
use Rattle.program.specs.Sites.{add_all}

-- ---- what a run leaves behind

-- a run that ended: its function, the state of each of its nodes, and that of the exit
pub record Ended (State : Type 0) : Type 0 where
  pub fun : ℕ
  pub nodes : List State
  pub exit : State

-- the turns that were taken, the alarms as they were raised, and the runs in the order in which they ended
pub record Work (State : Type 0) : Type 0 where
  pub turns : ℕ
  pub alarms : List Site
  pub ended : List (Ended State)

abbrev pub no_work : {State : Type 0} → Work State
no_work = record { turns = 0; alarms = []; ended = [] }

abbrev pub raised : {State : Type 0} → List Site → Work State
raised alarms = record { turns = 0; alarms = alarms; ended = [] }

abbrev pub both_work : {State : Type 0} → Work State → Work State → Work State
both_work w v = record { turns = w.turns + v.turns; alarms = w.alarms ++ v.alarms; ended = w.ended ++ v.ended }

-- a run of a function: its exit state and its work
pub record Ran (State : Type 0) : Type 0 where
  pub exit : State
  pub work : Work State

-- a turn of a node: the states along its edges and its work
pub record Taken (State : Type 0) : Type 0 where
  pub states : List State
  pub work : Work State

-- the points of a function and the work so far
pub record Progress (State : Type 0) : Type 0 where
  pub points : List (Point State)
  pub work : Work State

-- a run of the function with this number, from a state, with so many turns left; none where it passes them
abbrev pub Caller : Type 0 → Type 0
Caller State = ℕ → State → ℕ → Option (Ran State)

abbrev pub and_then : {A B : Type 0} → Option A → (A → Option B) → Option B
and_then None f = None
and_then (Some a) f = f a

-- ---- nodes

abbrev pub callee_in : Option Node → Option ℕ
callee_in None = None
callee_in (Some node) = callee_of node.instr

-- the function that a node calls
abbrev pub callee_at : List Node → ℕ → Option ℕ
callee_at nodes n = callee_in (slice_get nodes n)

abbrev pub edges_in : Option Node → List ℕ
edges_in None = []
edges_in (Some node) = node.edges

abbrev pub edges_at : List Node → ℕ → List ℕ
edges_at nodes n = edges_in (slice_get nodes n)

module _ {State : Type 0} (A : Analysis State) (slevel : ℕ) (functions : List Function) where
  -- ---- a turn

  -- behind a call: nothing where the callee never comes to its exit
  abbrev pub back : ℕ → ℕ → State → Left State
  back f n exit = if A.is_bottom exit then record { state = A.bottom; alarms = [] } else A.leave f n exit

  abbrev pub returned : ℕ → ℕ → List Site → Ran State → Taken State
  returned f n entering r = record {
    states = (back f n r.exit).state ∷ [];
    work = both_work (raised entering) (both_work r.work (raised (back f n r.exit).alarms));
  }

  -- a call runs the callee, where the arguments leave a state
  abbrev pub called : Caller State → ℕ → ℕ → ℕ → Left State → ℕ → Option (Taken State)
  called call f n g entered left =
      if A.is_bottom entered.state then Some (record { states = A.bottom ∷ []; work = raised entered.alarms })
      else and_then (call g entered.state left) (λ r. Some (returned f n entered.alarms r))

  -- what a node gives, which may call a function
  abbrev pub taken : Caller State → ℕ → ℕ → Option ℕ → State → ℕ → Option (Taken State)
  taken call f n None x left = Some (record { states = (A.along f n x).states; work = raised (A.along f n x).alarms })
  taken call f n (Some g) x left = called call f n g (A.enter f n x) left

  abbrev pub one_turn : Work State
  one_turn = record { turns = 1; alarms = []; ended = [] }

  -- a turn of node n with its state x, for which there is room
  unfoldable pub turn : Caller State → ℕ → List Node → ℕ → State → ℕ → List (Point State) → Option (Progress State)
  turn call f nodes n x left ps =
      and_then (taken call f n (callee_at nodes n) x (left - 1)) (λ r. Some (record {
        points = push_along A slevel nodes (settled_at ps n) (edges_at nodes n) r.states;
        work = both_work one_turn r.work;
      }))

  -- ---- a run of one function

  abbrev pub worked : Work State → Progress State → Progress State
  worked w r = record { points = r.points; work = both_work w r.work }

  abbrev pub go_on : (ℕ → List (Point State) → Option (Progress State)) → Caller State → ℕ → List Node → ℕ → List (Point State) → Option (ℕ × State) → Option (Progress State)
  go_on rest call f nodes left ps None = Some (record { points = ps; work = no_work })
  go_on rest call f nodes left ps (Some next) =
      if nat_eq left 0 then None
      else and_then (turn call f nodes next.0 next.1 left ps) (λ r. and_then (rest (left - r.work.turns) r.points) (λ s. Some (worked r.work s)))

  -- turns until nothing is pending, or none where they pass what is left; the first number is at least that
  unfoldable pub turns : ℕ → Caller State → ℕ → List Node → ℕ → List (Point State) → Option (Progress State)
  turns zero call f nodes left ps = go_on (λ left ps. None) call f nodes left ps (least_pending ps)
  turns (suc n) call f nodes left ps = go_on (turns n call f nodes) call f nodes left ps (least_pending ps)

  -- the given state is pushed to the entry
  abbrev pub first_points : Function → State → List (Point State)
  first_points function x = push A slevel function.nodes (map (λ node. empty_point A) function.nodes) function.entry x

  -- the function's run has ended
  abbrev pub ended : ℕ → Function → List (Point State) → Ended State
  ended f function ps =
      let states = map (node_state A) ps in
      record { fun = f; nodes = states; exit = slice_index_or states function.exit A.bottom }

  abbrev pub ran : ℕ → Function → Progress State → Ran State
  ran f function r = record {
    exit = (ended f function r.points).exit;
    work = record { turns = r.work.turns; alarms = r.work.alarms; ended = r.work.ended ++ ended f function r.points ∷ [] };
  }

  abbrev pub in_function : Caller State → ℕ → Function → State → ℕ → Option (Ran State)
  in_function call f function x left =
      and_then (turns left call f function.nodes left (first_points function x)) (λ r. Some (ran f function r))

  -- the first number bounds the height of the calls
  unfoldable pub run : ℕ → Caller State
  run zero f x left = None
  run (suc h) f x left = and_then (slice_get functions f) (λ function. in_function (run h) f function x left)

  -- ---- the run of an entry

  abbrev pub of_function : List (Ended State) → ℕ → List (Ended State)
  of_function es f = filter (λ e. nat_eq e.fun f) es

  -- whether some run was one of this function
  abbrev pub is_reached : List (Ended State) → ℕ → Bool
  is_reached es f = list_any (λ e. nat_eq e.fun f) es

  -- the state in which a function ends: over its runs, in order
  abbrev pub end_of : List (Ended State) → ℕ → State
  end_of es f = join_all A (map (λ e. e.exit) (of_function es f))

  -- one state for each function reached, in text order
  abbrev pub ends_from : ℕ → List Function → List (Ended State) → List (ℕ × State)
  ends_from f [] es = []
  ends_from f (function ∷ rest) es = if is_reached es f then (f, end_of es f) ∷ ends_from (f + 1) rest es else ends_from (f + 1) rest es

  -- the state of a node: over the runs of its function, in order
  unfoldable pub state_at : List (Ended State) → ℕ → ℕ → State
  state_at es f n = join_all A (map (λ e. slice_index_or e.nodes n A.bottom) (of_function es f))

  -- what the run of an entry gives: the state in which it ends, that of each function reached, the
  -- alarms, the turns and the runs that ended
  pub record Result : Type 0 where
    pub end : State
    pub ends : List (ℕ × State)
    pub alarms : List Site
    pub turns : ℕ
    pub runs : List (Ended State)

  abbrev pub result_of : ℕ → Ran State → Result
  result_of f r = record {
    end = A.finish f r.exit;
    ends = ends_from 0 functions r.work.ended;
    alarms = add_all [] r.work.alarms;
    turns = r.work.turns;
    runs = r.work.ended;
  }

  -- none where a further turn would pass the budget
  unfoldable pub lone : ℕ → ℕ → Option Result
  lone f budget = and_then (run (length functions) f (A.initial f) budget) (λ r. Some (result_of f r))

  abbrev pub states_from : List (Ended State) → ℕ → ℕ → List Node → List State
  states_from es f n [] = []
  states_from es f n (node ∷ nodes) = state_at es f n ∷ states_from es f (n + 1) nodes

  abbrev pub node_states_from : List (Ended State) → ℕ → List Function → List (List State)
  node_states_from es f [] = []
  node_states_from es f (function ∷ rest) = states_from es f 0 function.nodes ∷ node_states_from es (f + 1) rest

  -- the state of each node of each function
  abbrev pub node_states : List (Ended State) → List (List State)
  node_states es = node_states_from es 0 functions
