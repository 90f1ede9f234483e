-- When the lone run is sound: what each part of an analysis has to keep of executions, and what follows.
use Rattle.std.specs.Prelude.{◌≡◌, ℕ, ◌<◌, length, List, [], ◌∷◌, Some, None, true, false, slice_get, Contains}
use Rattle.program.specs.declared.graph.Node.{Node}
use Rattle.program.specs.declared.graph.Function.{Function}
use Rattle.program.specs.declared.sites.Site.{Site}
use Rattle.program.specs.Lawful.{callee_of, is_return}
use Rattle.lone_run.specs.Analysis.{Analysis}
use Rattle.lone_run.specs.Lone.{Result, lone, state_at}
use Rattle.lone_run.specs.Executions.{Frame, Config, Executes}

-- node n of function f
pub record IsNode (functions : List Function) (f n : ℕ) (function : Function) (node : Node) : Type 0 where
  pub function_at : slice_get functions f ≡ Some function
  pub node_at : slice_get function.nodes n ≡ Some node

-- Sized f x: the objects of x have their sizes, where f is the running function.
-- Fits stack f n x: x has the objects in life at node n of f and at the callers' nodes.
pub record StatesAreKept {State Memory : Type 0} (A : Analysis State) (Member : Memory → State → Type 0) (Sized : ℕ → State → Type 0) : Type 0 where
  pub bottom_is : A.is_bottom A.bottom ≡ true
  pub no_member : (x : State) (m : Memory) → A.is_bottom x ≡ true → Member m x → ⊥
  pub sized_bottom : (f : ℕ) (x : State) → A.is_bottom x ≡ true → Sized f x
  pub sized_join : (f : ℕ) (x y : State) → Sized f x → Sized f y → Sized f (A.join x y)
  -- join and widening keep the members of both sides
  pub join_older : (f : ℕ) (x y : State) (m : Memory) → Sized f x → Sized f y → Member m x → Member m (A.join x y)
  pub join_newer : (f : ℕ) (x y : State) (m : Memory) → Sized f x → Sized f y → Member m y → Member m (A.join x y)
  pub widen_older : (f : ℕ) (x y : State) (m : Memory) → Sized f x → Sized f y → Member m x → Member m (A.widen x y)
  pub widen_newer : (f : ℕ) (x y : State) (m : Memory) → Sized f x → Sized f y → Member m y → Member m (A.widen x y)
  -- inclusion is sound
  pub included_keeps : (f : ℕ) (x y : State) (m : Memory) → Sized f x → Sized f y → A.included x y ≡ true → Member m x → Member m y

pub record StatesFit {State : Type 0} (A : Analysis State) (functions : List Function) (Sized : ℕ → State → Type 0) (Fits : List Frame → ℕ → ℕ → State → Type 0) : Type 0 where
  pub fits_sized : (stack : List Frame) (f n : ℕ) (x : State) → Fits stack f n x → Sized f x
  pub fits_bottom : (stack : List Frame) (f n : ℕ) (x : State) → A.is_bottom x ≡ true → Fits stack f n x
  pub fits_join : (stack : List Frame) (f n : ℕ) (x y : State) → Fits stack f n x → Fits stack f n y → Fits stack f n (A.join x y)
  pub fits_widen : (stack : List Frame) (f n : ℕ) (x y : State) → Fits stack f n x → Fits stack f n y → Fits stack f n (A.widen x y)
  -- along an edge
  pub fits_along : (stack : List Frame) (f n : ℕ) (function : Function) (node : Node) (k t : ℕ) (x y : State) → IsNode functions f n function node → callee_of node.instr ≡ None →
      Fits stack f n x → slice_get node.edges k ≡ Some t → slice_get (A.along f n x).states k ≡ Some y → Fits stack f t y
  -- into a call
  pub fits_enter : (stack : List Frame) (f n g : ℕ) (function callee : Function) (node : Node) (x : State) → IsNode functions f n function node → callee_of node.instr ≡ Some g →
      slice_get functions g ≡ Some callee → Fits stack f n x → Fits (record { fun = f; node = n } ∷ stack) g callee.entry (A.enter f n x).state
  -- out of a call
  pub fits_leave : (stack : List Frame) (f n g : ℕ) (function callee : Function) (node : Node) (k t : ℕ) (z : State) → IsNode functions f n function node → callee_of node.instr ≡ Some g →
      slice_get functions g ≡ Some callee → Fits (record { fun = f; node = n } ∷ stack) g callee.exit z → slice_get node.edges k ≡ Some t → Fits stack f t (A.leave f n z).state

module _ {State Memory : Type 0} (A : Analysis State) (Member : Memory → State → Type 0) where
  -- a step from c to d keeps to the state along an edge
  pub record GoesAlong (node : Node) (x : State) (c d : Config Memory) : Type 0 where
    pub k : ℕ
    pub t : ℕ
    pub y : State
    pub edge : slice_get node.edges k ≡ Some t
    pub left : slice_get (A.along c.fun c.node x).states k ≡ Some y
    pub member : Member d.memory y
    pub same : d ≡ record { fun = c.fun; node = t; stack = c.stack; memory = d.memory }

  -- a step into function g
  pub record GoesInto (functions : List Function) (g : ℕ) (x : State) (c d : Config Memory) : Type 0 where
    pub callee : Function
    pub defined : slice_get functions g ≡ Some callee
    pub member : Member d.memory (A.enter c.fun c.node x).state
    pub same : d ≡ record { fun = g; node = callee.entry; stack = record { fun = c.fun; node = c.node } ∷ c.stack; memory = d.memory }

  -- a step back behind the innermost call
  pub record GoesBack (functions : List Function) (x : State) (c d : Config Memory) : Type 0 where
    pub frame : Frame
    pub rest : List Frame
    pub stack : c.stack ≡ frame ∷ rest
    pub function : Function
    pub node : Node
    pub at : IsNode functions frame.fun frame.node function node
    pub t : ℕ
    pub edge : slice_get node.edges 0 ≡ Some t
    pub member : Member d.memory (A.leave frame.fun frame.node x).state
    pub same : d ≡ record { fun = frame.fun; node = t; stack = rest; memory = d.memory }

  -- an undefined place that is found behind the innermost call
  pub record FoundBehind (x : State) (c : Config Memory) (s : Site) : Type 0 where
    pub frame : Frame
    pub rest : List Frame
    pub stack : c.stack ≡ frame ∷ rest
    pub alarm : Contains (A.leave frame.fun frame.node x).alarms s

module _ {State Memory : Type 0} (A : Analysis State) (functions : List Function) (Member : Memory → State → Type 0) (Fits : List Frame → ℕ → ℕ → State → Type 0)
    (Lawful : Config Memory → Type 0) (Step : Config Memory → Config Memory → Type 0) (IsUndefined : Config Memory → Site → Type 0) where
  -- an execution stands at this node of a lawful configuration, and its memory is a member of the state
  pub record StandsAt (function : Function) (node : Node) (x : State) (c : Config Memory) : Type 0 where
    pub at : IsNode functions c.fun c.node function node
    pub lawful : Lawful c
    pub fits : Fits c.stack c.fun c.node x
    pub member : Member c.memory x

  pub record MembersAreKept : Type 0 where
    pub lawful_step : (c d : Config Memory) → Lawful c → Step c d → Lawful d
    -- a node that neither calls nor returns
    pub moves : (function : Function) (node : Node) (x : State) (c d : Config Memory) → StandsAt function node x c → callee_of node.instr ≡ None → is_return node.instr ≡ false →
        Step c d → GoesAlong A Member node x c d
    pub moves_alarm : (function : Function) (node : Node) (x : State) (c : Config Memory) (s : Site) → StandsAt function node x c → callee_of node.instr ≡ None → is_return node.instr ≡ false →
        IsUndefined c s → Contains (A.along c.fun c.node x).alarms s
    -- a call
    pub calls : (function : Function) (node : Node) (g : ℕ) (x : State) (c d : Config Memory) → StandsAt function node x c → callee_of node.instr ≡ Some g → Step c d →
        GoesInto A Member functions g x c d
    pub calls_alarm : (function : Function) (node : Node) (g : ℕ) (x : State) (c : Config Memory) (s : Site) → StandsAt function node x c → callee_of node.instr ≡ Some g →
        IsUndefined c s → Contains (A.enter c.fun c.node x).alarms s
    -- the exit
    pub returns : (function : Function) (node : Node) (x : State) (c d : Config Memory) → StandsAt function node x c → is_return node.instr ≡ true → Step c d → GoesBack A Member functions x c d
    pub returns_alarm : (function : Function) (node : Node) (x : State) (c : Config Memory) (s : Site) → StandsAt function node x c → is_return node.instr ≡ true →
        IsUndefined c s → FoundBehind A Member x c s

-- what is asked of the graphs
pub record HasGoodEdges (functions : List Function) : Type 0 where
  pub edges : (f n : ℕ) (function : Function) (node : Node) (k t : ℕ) → IsNode functions f n function node → slice_get node.edges k ≡ Some t → t < length function.nodes
  pub entry : (f : ℕ) (function : Function) → slice_get functions f ≡ Some function → function.entry < length function.nodes
  pub exit : (f n : ℕ) (function : Function) (node : Node) → IsNode functions f n function node → is_return node.instr ≡ true → n ≡ function.exit

-- The result of the run of function f is sound for executions from the configurations of Begins.
pub record IsSound {State Memory : Type 0} (A : Analysis State) (slevel : ℕ) (functions : List Function) (Member : Memory → State → Type 0) (Step : Config Memory → Config Memory → Type 0)
    (IsUndefined : Config Memory → Site → Type 0) (Begins : Config Memory → Type 0) (r : Result A slevel functions) : Type 0 where
  -- an execution that is undefined at a site has it among the alarms
  pub alarmed : (b c : Config Memory) (s : Site) → Begins b → Executes Step b c → IsUndefined c s → Contains r.alarms s
  -- a memory that an execution has at a node is a member of the node's state
  pub at_nodes : (b c : Config Memory) → Begins b → Executes Step b c → Member c.memory (state_at A slevel functions r.runs c.fun c.node)
  -- a memory that an execution has at the exit of a function is a member of the function's state
  pub at_exits : (b c : Config Memory) (function : Function) → Begins b → Executes Step b c → slice_get functions c.fun ≡ Some function → c.node ≡ function.exit →
      (z : State) × Contains r.ends (c.fun, z) × Member c.memory z

-- a described initial state: the entry of function f, no open call, and a memory of the initial state
pub record BeginsIn {State Memory : Type 0} (A : Analysis State) (functions : List Function) (Member : Memory → State → Type 0) (Lawful : Config Memory → Type 0) (f : ℕ) (c : Config Memory) : Type 0 where
  pub function : Function
  pub at : slice_get functions f ≡ Some function
  pub lawful : Lawful c
  pub member : Member c.memory (A.initial f)
  pub same : c ≡ record { fun = f; node = function.entry; stack = []; memory = c.memory }

abbrev pub LoneRunIsSound : Type 1
LoneRunIsSound = (State Memory : Type 0) (A : Analysis State) (slevel : ℕ) (functions : List Function) (Member : Memory → State → Type 0)
    (Sized : ℕ → State → Type 0) (Fits : List Frame → ℕ → ℕ → State → Type 0) (Lawful : Config Memory → Type 0) (Step : Config Memory → Config Memory → Type 0)
    (IsUndefined : Config Memory → Site → Type 0) → StatesAreKept A Member Sized → StatesFit A functions Sized Fits → MembersAreKept A functions Member Fits Lawful Step IsUndefined →
    HasGoodEdges functions → (f budget : ℕ) (function : Function) (r : Result A slevel functions) → slice_get functions f ≡ Some function → Fits [] f function.entry (A.initial f) →
    lone A slevel functions f budget ≡ Some r → IsSound A slevel functions Member Step IsUndefined (BeginsIn A functions Member Lawful f) r
