-- What a run keeps at the nodes of a function: up to `slevel` separate states at each, and one joined state.
use Rattle.std.specs.Prelude.{ℕ, ◌+◌, min, nat_eq, nat_le, nat_lt, length, List, [], ◌∷◌, ◌++◌, Option, Some, None, Bool, true, false, ◌&&◌, ◌||◌, if◌then◌else◌, slice_get, slice_set, map}
use Rattle.std.specs.List.{list_any}
use Rattle.program.specs.declared.graph.Node.{Node}
use Rattle.lone_run.specs.Analysis.{Analysis}

-- a state, and whether it waits for a turn
pub record Held (State : Type 0) : Type 0 where
  pub state : State
  pub pending : Bool

-- updates are those of the joined state; only whether there were three counts
pub record Point (State : Type 0) : Type 0 where
  pub separate : List (Held State)
  pub joined : Held State
  pub updates : ℕ

-- ---- widening points (Bourdoncle 1993): targets of edges that don't go to a greater number

abbrev pub widens_from : ℕ → List Node → ℕ → Bool
widens_from i [] t = false
widens_from i (node ∷ nodes) t = list_any (λ e. nat_eq e t && nat_le e i) node.edges || widens_from (i + 1) nodes t

unfoldable pub is_widening_point : List Node → ℕ → Bool
is_widening_point nodes t = widens_from 0 nodes t

-- ---- which state is next

abbrev pub settled_held : {State : Type 0} → Held State → Held State
settled_held h = record h { pending = false }

abbrev pub first_pending : {State : Type 0} → List (Held State) → Option State
first_pending [] = None
first_pending (h ∷ hs) = if h.pending then Some h.state else first_pending hs

abbrev pub settle_first : {State : Type 0} → List (Held State) → List (Held State)
settle_first [] = []
settle_first (h ∷ hs) = if h.pending then settled_held h ∷ hs else h ∷ settle_first hs

-- the separate states come first, in order, and the joined one last
abbrev pub next_after : {State : Type 0} → Point State → Option State → Option State
next_after p (Some x) = Some x
next_after p None = if p.joined.pending then Some p.joined.state else None

unfoldable pub next_state : {State : Type 0} → Point State → Option State
next_state p = next_after p (first_pending p.separate)

abbrev pub settled_after : {State : Type 0} → Point State → Option State → Point State
settled_after p (Some x) = record p { separate = settle_first p.separate }
settled_after p None = record p { joined = settled_held p.joined }

-- without its first pending state pending
unfoldable pub settled : {State : Type 0} → Point State → Point State
settled p = settled_after p (first_pending p.separate)

abbrev pub least_after : {State : Type 0} → ℕ → Option State → Option (ℕ × State) → Option (ℕ × State)
least_after i (Some x) rest = Some (i, x)
least_after i None rest = rest

abbrev pub least_from : {State : Type 0} → ℕ → List (Point State) → Option (ℕ × State)
least_from i [] = None
least_from i (p ∷ ps) = least_after i (next_state p) (least_from (i + 1) ps)

-- the least pending node, with its first pending state
unfoldable pub least_pending : {State : Type 0} → List (Point State) → Option (ℕ × State)
least_pending ps = least_from 0 ps

abbrev pub settled_in : {State : Type 0} → List (Point State) → ℕ → Option (Point State) → List (Point State)
settled_in ps n None = ps
settled_in ps n (Some p) = slice_set ps n (settled p)

unfoldable pub settled_at : {State : Type 0} → List (Point State) → ℕ → List (Point State)
settled_at ps n = settled_in ps n (slice_get ps n)

-- ---- how states come to a node

module _ {State : Type 0} (A : Analysis State) where
  abbrev pub empty_point : Point State
  empty_point = record { separate = []; joined = record { state = A.bottom; pending = false }; updates = 0 }

  abbrev pub is_included : State → Point State → Bool
  is_included x p = list_any (λ h. A.included x h.state) p.separate || A.included x p.joined.state

  -- the joined state after an update: a join, from the fourth update on a widening where the node is a widening point
  unfoldable pub updated : Bool → ℕ → State → State → State
  updated widens updates older x =
      let j = A.join older x in if widens && nat_le 3 updates then A.widen older j else j

  abbrev pub waiting : State → Held State
  waiting x = record { state = x; pending = true }

  -- a point to which a state is pushed
  unfoldable pub pushed : ℕ → Bool → State → Point State → Point State
  pushed slevel widens x p =
      if A.is_bottom x || is_included x p then p
      else if nat_lt (length p.separate) slevel then record p { separate = p.separate ++ waiting x ∷ [] }
      else record p { joined = waiting (updated widens p.updates p.joined.state x); updates = min (p.updates + 1) 3 }

  abbrev pub push_in : ℕ → Bool → List (Point State) → ℕ → State → Option (Point State) → List (Point State)
  push_in slevel widens ps t x None = ps
  push_in slevel widens ps t x (Some p) = slice_set ps t (pushed slevel widens x p)

  -- a push to node t
  unfoldable pub push_to : ℕ → Bool → List (Point State) → ℕ → State → List (Point State)
  push_to slevel widens ps t x = push_in slevel widens ps t x (slice_get ps t)

  module _ (slevel : ℕ) (nodes : List Node) where
    abbrev pub push : List (Point State) → ℕ → State → List (Point State)
    push ps t x = push_to slevel (is_widening_point nodes t) ps t x

    -- the states along the edges, in order
    abbrev pub push_along : List (Point State) → List ℕ → List State → List (Point State)
    push_along ps (t ∷ ts) (x ∷ xs) = push_along (push ps t x) ts xs
    push_along ps _ _ = ps

  -- the join, from bottom, of states in order
  abbrev pub joined_from : State → List State → State
  joined_from x [] = x
  joined_from x (y ∷ ys) = joined_from (A.join x y) ys

  unfoldable pub join_all : List State → State
  join_all xs = joined_from A.bottom xs

  -- the state of a node
  abbrev pub node_state : Point State → State
  node_state p = join_all (map (λ h. h.state) p.separate ++ p.joined.state ∷ [])
