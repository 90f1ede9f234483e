-- Where no edge goes back, each state of a node has one turn.
use Rattle.std.proofs.Common.{◌≡◌, ℕ, zero, suc, ◌+◌, ◌*◌, ◌-◌, ◌<◌, ◌≤◌, min, refl, ap, sym, ◌∙◌, subst, arith, List, [], ◌∷◌, ◌++◌, length, map, Option, Some, None, Bool, true, false, if◌then◌else◌, slice_get, slice_set, nat_eq, nat_lt, eqb, inl, inr, ◌⊎◌}
use Rattle.std.specs.List.{IsDistinct, AllByRecursion, list_any}
use Rattle.std.proofs.lemmas.List.{length-set, length-map}
use Rattle.std.proofs.lemmas.Map.Steps.{length-le_from_distinct_below}
use Rattle.program.specs.declared.graph.Node.{Node}
use Rattle.program.specs.declared.graph.Function.{Function}
use Rattle.program.specs.Lawful.{callee_of}
use Rattle.lone_run.specs.Analysis.{Analysis}
use Rattle.lone_run.specs.Points.{Held, Point, empty_point, is_widening_point, updated, waiting, pushed, push, push_to, push_in, push_along, first_pending, settle_first, settled_held, next_state, next_after, settled, settled_after, settled_at, settled_in, least_pending}
use Rattle.lone_run.specs.Lone.{Ran, Taken, Progress, Caller, and_then, taken, returned, raised, callee_in, callee_at, edges_in, edges_at, turn, turns, go_on, one_turn, both_work, no_work, worked, ran, run, result_of, lone}
use Rattle.lone_run.specs.Soundness.{IsNode}
use Rattle.lone_run.specs.Bounds.{node_turns, turns_of, function_turns, turns_within, most_turns, Reaches, itself, by_call, GoesForward, CallsEnd, IsEnough, ForwardRunIsBounded}
use Rattle.lone_run.proofs.Pushes.{get_same, get_other, same_or_not, some_within, within_of, either}
use Rattle.lone_run.proofs.Turns.{least_next}

-- ---- how many states wait

abbrev pub one_if : Bool → ℕ
one_if b = if b then 1 else 0

module _ {State : Type 0} where
  abbrev pub count : List (Held State) → ℕ
  count [] = 0
  count (h ∷ hs) = one_if h.pending + count hs

  abbrev pub waits : Point State → ℕ
  waits p = count p.separate + one_if p.joined.pending

  abbrev pub waits_in : Option (Point State) → ℕ
  waits_in None = 0
  waits_in (Some p) = waits p

  count_long : (hs : List (Held State)) → count hs ≤ length hs
  count_long [] = omega arith
  count_long (h ∷ hs) = let c = count_long hs in elim h.pending as (λ b. one_if b + count hs ≤ suc (length hs)) [ true ↦ omega arith | false ↦ omega arith ]

  pub waits_few : (slevel : ℕ) (p : Point State) → length p.separate ≤ slevel → waits p ≤ slevel + 1
  waits_few slevel p l = let c = count_long p.separate in elim p.joined.pending as (λ b. count p.separate + one_if b ≤ slevel + 1) [ true ↦ omega arith | false ↦ omega arith ]

  settle_length : (hs : List (Held State)) → length (settle_first hs) ≡ length hs
  settle_length [] = refl
  settle_length (h ∷ hs) = let e = settle_length hs in elim h.pending as (λ b. length (if b then settled_held h ∷ hs else h ∷ settle_first hs) ≡ suc (length hs)) [ true ↦ refl | false ↦ ap suc e ]

  settle_count : (x : State) (hs : List (Held State)) → first_pending hs ≡ Some x → count (settle_first hs) + 1 ≡ count hs
  settle_count x [] e = cc
  settle_count x (h ∷ hs) e = by h.pending refl e (settle_count x hs) where
    by : (b : Bool) → h.pending ≡ b → (if b then Some h.state else first_pending hs) ≡ Some x → (first_pending hs ≡ Some x → count (settle_first hs) + 1 ≡ count hs)
        → count (if b then settled_held h ∷ hs else h ∷ settle_first hs) + 1 ≡ one_if b + count hs
    by true q e later = omega arith
    by false q e later = let r = later e in rw q (omega arith)

  -- settling leaves one waiting less
  pub settled_by : (x : State) (p : Point State) (o : Option State) → first_pending p.separate ≡ o → next_after p o ≡ Some x
      → (waits (settled_after p o) + 1 ≡ waits p) × (length (settled_after p o).separate ≡ length p.separate)
  settled_by x p (Some y) q e = (let c = settle_count y p.separate q in omega arith, settle_length p.separate)
  settled_by x p None q e = (by p.joined.pending refl e, refl) where
    by : (b : Bool) → p.joined.pending ≡ b → (if b then Some p.joined.state else None) ≡ Some x → count p.separate + 0 + 1 ≡ count p.separate + one_if b
    by true r e = omega arith
    by false r e = cc

  pub settled_waits : (x : State) (p : Point State) → next_state p ≡ Some x → (waits (settled p) + 1 ≡ waits p) × (length (settled p).separate ≡ length p.separate)
  unfolding next_state settled
  settled_waits x p e = settled_by x p (first_pending p.separate) refl e

module _ {State : Type 0} (A : Analysis State) (slevel : ℕ) (nodes : List Node) where
  append_length : (hs gs : List (Held State)) → length (hs ++ gs) ≡ length hs + length gs
  append_length [] gs = omega arith
  append_length (h ∷ hs) gs = let e = append_length hs gs in omega arith

  pushed_few_by : (w : Bool) (x : State) (p : Point State) (b c : Bool) → nat_lt (length p.separate) slevel ≡ c → length p.separate ≤ slevel
      → length (let q : Point State = if b then p else if c then record p { separate = p.separate ++ waiting A x ∷ [] } else record p { joined = waiting A (updated A w p.updates p.joined.state x); updates = min (p.updates + 1) 3 } in q).separate ≤ slevel
  pushed_few_by w x p true c e l = l
  pushed_few_by w x p false true e l = let a = append_length p.separate (waiting A x ∷ []) in let m : length p.separate < slevel = lt_from (length p.separate) slevel e in omega arith where
    lt_from : (a b : ℕ) → nat_lt a b ≡ true → a < b
    lt_from a b e = grind arith
  pushed_few_by w x p false false e l = l

  pushed_few : (w : Bool) (x : State) (p : Point State) → length p.separate ≤ slevel → length (pushed A slevel w x p).separate ≤ slevel
  unfolding pushed
  pushed_few w x p l = pushed_few_by w x p _ _ refl l

  abbrev pub FewAt : Option (Point State) → Type 0
  FewAt None = Unit {0}
  FewAt (Some p) = length p.separate ≤ slevel

  -- no node keeps more separate states than it may
  abbrev pub Few : List (Point State) → Type 0
  Few ps = (i : ℕ) → FewAt (slice_get ps i)

  set_few : (ps : List (Point State)) (t : ℕ) (p q : Point State) → slice_get ps t ≡ Some p → length q.separate ≤ slevel → Few ps → Few (slice_set ps t q)
  set_few ps t p q e l f i = elim (same_or_not t i) [
    | inl s ↦ subst (λ j. FewAt (slice_get (slice_set ps t q) j)) s (let here : slice_get (slice_set ps t q) t ≡ Some q = get_same ps t p q e in rw here l)
    | inr d ↦ let same : slice_get (slice_set ps t q) i ≡ slice_get ps i = get_other ps t i q d in rw same (f i)
  ]

  push_few_in : (ps : List (Point State)) (t : ℕ) (x : State) (o : Option (Point State)) → slice_get ps t ≡ o → Few ps → Few (push_in A slevel (is_widening_point nodes t) ps t x o)
  push_few_in ps t x None e f = f
  push_few_in ps t x (Some p) e f =
      let l : length p.separate ≤ slevel = subst FewAt e (f t) in
      set_few ps t p (pushed A slevel (is_widening_point nodes t) x p) e (pushed_few (is_widening_point nodes t) x p l) f

  pub push_few : (ps : List (Point State)) (t : ℕ) (x : State) → Few ps → Few (push A slevel nodes ps t x)
  unfolding push_to
  push_few ps t x f = push_few_in ps t x (slice_get ps t) refl f

  pub along_few : (ps : List (Point State)) (ts : List ℕ) (xs : List State) → Few ps → Few (push_along A slevel nodes ps ts xs)
  along_few ps [] xs f = f
  along_few ps (t ∷ ts) [] f = f
  along_few ps (t ∷ ts) (x ∷ xs) f = along_few (push A slevel nodes ps t x) ts xs (push_few ps t x f)

  -- a push leaves the other points as they are
  push_other_in : (ps : List (Point State)) (t i : ℕ) (x : State) (o : Option (Point State)) → (t ≡ i → ⊥) → slice_get (push_in A slevel (is_widening_point nodes t) ps t x o) i ≡ slice_get ps i
  push_other_in ps t i x None d = refl
  push_other_in ps t i x (Some p) d = get_other ps t i (pushed A slevel (is_widening_point nodes t) x p) d

  pub push_other : (ps : List (Point State)) (t i : ℕ) (x : State) → (t ≡ i → ⊥) → slice_get (push A slevel nodes ps t x) i ≡ slice_get ps i
  unfolding push_to
  push_other ps t i x d = push_other_in ps t i x (slice_get ps t) d

  pub along_other : (ps : List (Point State)) (ts : List ℕ) (xs : List State) (i : ℕ) → ((k t : ℕ) → slice_get ts k ≡ Some t → i < t) → slice_get (push_along A slevel nodes ps ts xs) i ≡ slice_get ps i
  along_other ps [] xs i g = refl
  along_other ps (t ∷ ts) [] i g = refl
  along_other ps (t ∷ ts) (x ∷ xs) i g =
      let l : i < t = g 0 t refl in
      along_other (push A slevel nodes ps t x) ts xs i (λ k u e. g (suc k) u e) ∙ push_other ps t i x (λ e. let z : t ≡ i = e in absurd (omega arith))

  settled_few_in : (ps : List (Point State)) (n : ℕ) (x : State) (p : Point State) → slice_get ps n ≡ Some p → next_state p ≡ Some x → Few ps → Few (settled_in ps n (Some p))
  settled_few_in ps n x p e s f =
      let l : length p.separate ≤ slevel = subst FewAt e (f n) in
      let w = settled_waits x p s in
      set_few ps n p (settled p) e (let q : length (settled p).separate ≡ length p.separate = w.1 in omega arith) f

  -- settling the next state of node n
  pub record SettledWaits (ps : List (Point State)) (n : ℕ) (qs : List (Point State)) : Type 0 where
    pub few : Few qs
    pub one_less : waits_in (slice_get qs n) + 1 ≡ waits_in (slice_get ps n)
    pub other : (i : ℕ) → (n ≡ i → ⊥) → slice_get qs i ≡ slice_get ps i

  pub settle_waits : (ps : List (Point State)) (n : ℕ) (x : State) (p : Point State) → slice_get ps n ≡ Some p → next_state p ≡ Some x → Few ps → SettledWaits ps n (settled_at ps n)
  unfolding settled_at
  settle_waits ps n x p e s f =
      let w = settled_waits x p s in
      let here : slice_get (slice_set ps n (settled p)) n ≡ Some (settled p) = get_same ps n p (settled p) e in
      rw e (let r : SettledWaits ps n (slice_set ps n (settled p)) = record {
        few = settled_few_in ps n x p e s f;
        one_less = rw (here, e) w.0;
        other = λ i d. get_other ps n i (settled p) d;
      } in r)

-- ---- numbers

mul_mono : (w a b : ℕ) → a ≤ b → w * a ≤ w * b
mul_mono w a b l =
    let d : ℕ = b - a in
    let e : b ≡ a + d = omega arith in
    let m : w * b ≡ w * a + w * d = ap (λ c. w * c) e ∙ omega arith in
    omega arith

module _ (k : ℕ → ℕ) where
  -- the turns of the nodes behind node j
  abbrev pub later : ℕ → List Node → ℕ
  later j [] = 0
  later zero (node ∷ nodes) = turns_of k nodes
  later (suc j) (node ∷ nodes) = later j nodes

  abbrev weight : Option Node → ℕ
  weight o = node_turns k (callee_in o)

  first_all : (n : ℕ) (nodes : List Node) (node : Node) → slice_get nodes n ≡ Some node → node_turns k (callee_of node.instr) + later n nodes ≤ turns_of k nodes
  first_all n [] node e = cc
  first_all zero (x ∷ nodes) node e = let q : x ≡ node = cc in rw q (omega arith)
  first_all (suc n) (x ∷ nodes) node e = let l = first_all n nodes node e in omega arith

  later_than : (j n : ℕ) (nodes : List Node) (node : Node) → j < n → slice_get nodes n ≡ Some node → node_turns k (callee_of node.instr) + later n nodes ≤ later j nodes
  later_than j n [] node l e = cc
  later_than j zero (x ∷ nodes) node l e = absurd (omega arith)
  later_than zero (suc n) (x ∷ nodes) node l e = first_all n nodes node e
  later_than (suc j) (suc n) (x ∷ nodes) node l e = later_than j n nodes node (omega arith) e

-- the measure falls to a later node: at most s states wait there
falls : (s w w' c c' a b : ℕ) → c' ≤ s → w' + b ≤ a → w' * c' + s * b ≤ w * c + s * a
falls s w w' c c' a b few l =
    let m = mul_mono w' c' s few in
    let n = mul_mono s (w' + b) a l in
    let e : s * (w' + b) ≡ w' * s + s * b = omega arith in
    omega arith

module _ {State : Type 0} (A : Analysis State) (slevel : ℕ) (functions : List Function) where
  pub record Within {X : Type 0} (turns_in : X → ℕ) (most : ℕ) (o : Option X) : Type 0 where
    pub result : X
    pub is : o ≡ Some result
    pub few : turns_in result ≤ most

  abbrev pub turns_taken : Taken State → ℕ
  turns_taken t = t.work.turns + 1

  abbrev pub turns_run : Ran State → ℕ
  turns_run r = r.work.turns

  abbrev pub turns_made : Progress State → ℕ
  turns_made r = r.work.turns

  module _ (call : Caller State) (k : ℕ → ℕ) (f : ℕ) (nodes : List Node)
      (calls : (n g : ℕ) (x : State) (left : ℕ) → callee_at nodes n ≡ Some g → k g ≤ left → Within turns_run (k g) (call g x left))
      (forward : (n i t : ℕ) → slice_get (edges_at nodes n) i ≡ Some t → n < t) where
    called_within : (n g : ℕ) (x : State) (left : ℕ) → callee_at nodes n ≡ Some g → k g ≤ left → (b : Bool)
        → Within turns_taken (k g + 1) (if b then Some (record { states = A.bottom ∷ []; work = raised (A.enter f n x).alarms })
        else and_then (call g (A.enter f n x).state left) (λ r. Some (returned A slevel functions f n (A.enter f n x).alarms r)))
    called_within n g x left c l true = record { result = record { states = A.bottom ∷ []; work = raised (A.enter f n x).alarms }; is = refl; few = omega arith }
    called_within n g x left c l false =
        let w = calls n g (A.enter f n x).state left c l in
        let few : w.result.work.turns ≤ k g = w.few in
        record {
          result = returned A slevel functions f n (A.enter f n x).alarms w.result;
          is = rw (w.is) refl;
          few = omega arith;
        }

    taken_within : (n : ℕ) (o : Option ℕ) (x : State) (left : ℕ) → callee_at nodes n ≡ o → node_turns k o ≤ left + 1 → Within turns_taken (node_turns k o) (taken A slevel functions call f n o x left)
    taken_within n None x left c l = record { result = record { states = (A.along f n x).states; work = raised (A.along f n x).alarms }; is = refl; few = omega arith }
    taken_within n (Some g) x left c l =
        let w = called_within n g x left c (omega arith) (A.is_bottom (A.enter f n x).state) in
        let few : w.result.work.turns + 1 ≤ k g + 1 = w.few in
        record { result = w.result; is = w.is; few = omega arith }

    -- ---- the measure: turns of the states that wait at node j, and of all states behind it

    abbrev pub measure : ℕ → List (Point State) → ℕ
    measure j ps = node_turns k (callee_at nodes j) * waits_in (slice_get ps j) + (slevel + 1) * later k j nodes

    -- nothing waits before node j
    abbrev pub Low : ℕ → List (Point State) → Type 0
    Low j ps = (i : ℕ) (p : Point State) → i < j → slice_get ps i ≡ Some p → next_state p ≡ None

    pub record Bounded (j : ℕ) (ps : List (Point State)) : Type 0 where
      pub low : Low j ps
      pub few : Few A slevel nodes ps
      pub long : length ps ≡ length nodes

    push_length_in : (ps : List (Point State)) (t : ℕ) (x : State) (o : Option (Point State)) → length (push_in A slevel (is_widening_point nodes t) ps t x o) ≡ length ps
    push_length_in ps t x None = refl
    push_length_in ps t x (Some p) = length-set ps t (pushed A slevel (is_widening_point nodes t) x p)

    push_length : (ps : List (Point State)) (t : ℕ) (x : State) → length (push A slevel nodes ps t x) ≡ length ps
    unfolding push_to
    push_length ps t x = push_length_in ps t x (slice_get ps t)

    along_length : (ps : List (Point State)) (ts : List ℕ) (xs : List State) → length (push_along A slevel nodes ps ts xs) ≡ length ps
    along_length ps [] xs = refl
    along_length ps (t ∷ ts) [] = refl
    along_length ps (t ∷ ts) (x ∷ xs) = along_length (push A slevel nodes ps t x) ts xs ∙ push_length ps t x

    settled_length_in : (ps : List (Point State)) (n : ℕ) (o : Option (Point State)) → length (settled_in ps n o) ≡ length ps
    settled_length_in ps n None = refl
    settled_length_in ps n (Some p) = length-set ps n (settled p)

    settled_length : (ps : List (Point State)) (n : ℕ) → length (settled_at ps n) ≡ length ps
    unfolding settled_at
    settled_length ps n = settled_length_in ps n (slice_get ps n)

    -- a turn of the least pending node
    record Turned (n left : ℕ) (ps : List (Point State)) (o : Option (Progress State)) : Type 0 where
      result : Progress State
      is : o ≡ Some result
      few : result.work.turns ≤ node_turns k (callee_at nodes n)
      some : 1 ≤ result.work.turns
      bounded : Bounded n result.points
      less : measure n result.points + node_turns k (callee_at nodes n) ≡ measure n ps

    turned : (n left : ℕ) (x : State) (ps : List (Point State)) (p : Point State) → Bounded n ps → slice_get ps n ≡ Some p → next_state p ≡ Some x → node_turns k (callee_at nodes n) ≤ left
        → Turned n left ps (turn A slevel functions call f nodes n x left ps)
    unfolding turn
    turned n left x ps p b e s l =
        let some : 1 ≤ node_turns k (callee_at nodes n) = at_least (callee_at nodes n) in
        let w = taken_within n (callee_at nodes n) x (left - 1) refl (omega arith) in
        let qs : List (Point State) = settled_at ps n in
        let rs : List (Point State) = push_along A slevel nodes qs (edges_at nodes n) w.result.states in
        let z = settle_waits A slevel nodes ps n x p e s b.few in
        let same : (i : ℕ) → i ≤ n → slice_get rs i ≡ slice_get qs i = λ i h. along_other A slevel nodes qs (edges_at nodes n) w.result.states i (λ u t a. let g : n < t = forward n u t a in omega arith) in
        let few : w.result.work.turns + 1 ≤ node_turns k (callee_at nodes n) = w.few in
        let waits_now : waits_in (slice_get rs n) + 1 ≡ waits_in (slice_get ps n) = let q : slice_get rs n ≡ slice_get qs n = same n (omega arith) in ap (λ o. waits_in o + 1) q ∙ z.one_less in
        record {
          result = record { points = rs; work = both_work (one_turn A slevel functions) w.result.work };
          is = rw (w.is) refl;
          few = omega arith;
          some = omega arith;
          bounded = record {
            low = λ i q h a.
                let c : slice_get ps i ≡ Some q = sym (z.other i (λ v. let v' : n ≡ i = v in absurd (omega arith))) ∙ sym (same i (omega arith)) ∙ a in
                b.low i q h c;
            few = along_few A slevel nodes qs (edges_at nodes n) w.result.states z.few;
            long = along_length qs (edges_at nodes n) w.result.states ∙ settled_length ps n ∙ b.long;
          };
          less =
              let c : ℕ = waits_in (slice_get rs n) in
              let v : ℕ = node_turns k (callee_at nodes n) in
              let m : v * waits_in (slice_get ps n) ≡ v * (c + 1) = ap (λ y. v * y) (sym waits_now) in
              omega arith;
        } where
          at_least : (o : Option ℕ) → 1 ≤ node_turns k o
          at_least None = omega arith
          at_least (Some g) = omega arith

    -- ---- turns until nothing is pending

    abbrev pub Rest : Type 0
    Rest = ℕ → List (Point State) → Option (Progress State)

    -- where the measure is left, the rest has a result within it
    abbrev pub Enough : ℕ → Rest → Type 0
    Enough fuel rest = (j left : ℕ) (ps : List (Point State)) → Bounded j ps → measure j ps ≤ left → left ≤ fuel → Within turns_made (measure j ps) (rest left ps)

    no_room : (n : ℕ) → n ≡ 0 → nat_eq n 0 ≡ true
    no_room n e = grind arith

    some_room : (n : ℕ) → 1 ≤ n → nat_eq n 0 ≡ false
    some_room n e = grind arith

    -- the measure at the least pending node is no greater
    least_measure : (j n : ℕ) (x : State) (ps : List (Point State)) (p : Point State) → Bounded j ps → slice_get ps n ≡ Some p → next_state p ≡ Some x
        → Bounded n ps → measure n ps ≤ measure j ps
    least_measure j n x ps p b e s c = by (same_or_not j n) where
      order : (a b : ℕ) → (a ≡ b → ⊥) → (b < a → ⊥) → a < b
      order a b u v = grind arith

      low : n < j → ⊥
      low l = let z : next_state p ≡ None = b.low n p l e in let q : Some x ≡ None = sym s ∙ z in cc

      by : (j ≡ n) ⊎ (j ≡ n → ⊥) → measure n ps ≤ measure j ps
      by (inl q) = subst (λ i. measure n ps ≤ measure i ps) (sym q) (omega arith)
      by (inr d) =
          let within : n < length ps = within_of ps n p e in
          let node = some_within nodes n (let l : length ps ≡ length nodes = b.long in omega arith) in
          let less : j < n = order j n d low in
          let after : node_turns k (callee_of node.0.instr) + later k n nodes ≤ later k j nodes = later_than k j n nodes node.0 less node.1 in
          let weight_is : node_turns k (callee_at nodes n) ≡ node_turns k (callee_of node.0.instr) = ap (λ o. node_turns k (callee_in o)) node.1 in
          let few : waits_in (slice_get ps n) ≤ slevel + 1 = rw e (waits_few slevel p (subst (FewAt A slevel nodes) e (b.few n))) in
          falls (slevel + 1) (node_turns k (callee_at nodes j)) (node_turns k (callee_at nodes n)) (waits_in (slice_get ps j)) (waits_in (slice_get ps n)) (later k j nodes) (later k n nodes) few (rw weight_is after)

    -- a turn and the rest
    rest_within : (fuel n left most : ℕ) (ps : List (Point State)) (rest : Rest) → Enough fuel rest → (t : Progress State) → Bounded n t.points → left ≤ suc fuel → 1 ≤ t.work.turns
        → measure n t.points + t.work.turns ≤ left → measure n t.points + t.work.turns ≤ most
        → Within turns_made most (and_then (rest (left - t.work.turns) t.points) (λ s. Some (worked A slevel functions t.work s)))
    rest_within fuel n left most ps rest h t b l some m v =
        let w = h n (left - t.work.turns) t.points b (omega arith) (omega arith) in
        let few : w.result.work.turns ≤ measure n t.points = w.few in
        record { result = worked A slevel functions t.work w.result; is = rw (w.is) refl; few = omega arith }

    next_within : (fuel j n left : ℕ) (x : State) (ps : List (Point State)) (rest : Rest) → Enough fuel rest → Bounded j ps → least_pending ps ≡ Some (n, x) → measure j ps ≤ left → left ≤ suc fuel
        → (nat_eq left 0 ≡ false) × Within turns_made (measure j ps) (and_then (turn A slevel functions call f nodes n x left ps) (λ r. and_then (rest (left - r.work.turns) r.points) (λ s. Some (worked A slevel functions r.work s))))
    unfolding least_pending
    next_within fuel j n left x ps rest h b e m l =
        let next = least_next 0 ps n x e in
        let same : next.k ≡ n = let q : n ≡ 0 + next.k = next.number in omega arith in
        let at : slice_get ps n ≡ Some next.point = subst (λ i. slice_get ps i ≡ Some next.point) same next.at in
        let here : Bounded n ps = record {
          low = λ i p z a. next.before i p (let q : next.k ≡ n = same in omega arith) a;
          few = b.few;
          long = b.long;
        } in
        let less : measure n ps ≤ measure j ps = least_measure j n x ps next.point b at next.next here in
        let t = turned n left x ps next.point here at next.next (let w = settled_waits x next.point next.next in let v : waits_in (slice_get ps n) ≡ waits next.point = ap waits_in at in heavy n ps next.point w.0 v (omega arith)) in
        let few : t.result.work.turns ≤ node_turns k (callee_at nodes n) = t.few in
        let down : measure n t.result.points + node_turns k (callee_at nodes n) ≡ measure n ps = t.less in
        let some : 1 ≤ t.result.work.turns = t.some in (
          some_room left (omega arith),
          rw (t.is) (rest_within fuel n left (measure j ps) ps rest h t.result t.bounded l some (omega arith) (omega arith)),
        ) where
          heavy : (n : ℕ) (ps : List (Point State)) (p : Point State) → waits (settled p) + 1 ≡ waits p → waits_in (slice_get ps n) ≡ waits p → measure n ps ≤ left → node_turns k (callee_at nodes n) ≤ left
          heavy n ps p w v g =
              let c : ℕ = waits (settled p) in
              let q : node_turns k (callee_at nodes n) * waits_in (slice_get ps n) ≡ node_turns k (callee_at nodes n) * (c + 1) = ap (λ y. node_turns k (callee_at nodes n) * y) (v ∙ sym w) in
              omega arith

    go_within : (fuel j left : ℕ) (ps : List (Point State)) (rest : Rest) → Enough fuel rest → Bounded j ps → measure j ps ≤ left → left ≤ suc fuel
        → (o : Option (ℕ × State)) → least_pending ps ≡ o → Within turns_made (measure j ps) (go_on A slevel functions rest call f nodes left ps o)
    go_within fuel j left ps rest h b m l None e = record { result = record { points = ps; work = no_work }; is = refl; few = omega arith }
    go_within fuel j left ps rest h b m l (Some next) e =
        let w = next_within fuel j next.0 left next.1 ps rest h b e m l in
        rw (w.0) w.1

    -- with nothing left, nothing waits
    zero_within : (j left : ℕ) (ps : List (Point State)) → Bounded j ps → measure j ps ≤ left → left ≤ 0
        → (o : Option (ℕ × State)) → least_pending ps ≡ o → Within turns_made (measure j ps) (go_on A slevel functions (λ l qs. None) call f nodes left ps o)
    zero_within j left ps b m l None e = record { result = record { points = ps; work = no_work }; is = refl; few = omega arith }
    zero_within j left ps b m l (Some next) e =
        let none : Enough 0 (λ l qs. Some (record { points = qs; work = no_work })) = λ i y qs c d g. record { result = record { points = qs; work = no_work }; is = refl; few = omega arith } in
        let w = next_within 0 j next.0 left next.1 ps (λ l qs. Some (record { points = qs; work = no_work })) none b e m (omega arith) in
        let q : nat_eq left 0 ≡ true = no_room left (omega arith) in
        let z : true ≡ false = sym q ∙ w.0 in cc

    pub turns_enough : (fuel : ℕ) → Enough fuel (turns A slevel functions fuel call f nodes)
    unfolding turns
    turns_enough zero j left ps b m l = zero_within j left ps b m l (least_pending ps) refl
    turns_enough (suc fuel) j left ps b m l = go_within fuel j left ps (turns A slevel functions fuel call f nodes) (turns_enough fuel) b m l (least_pending ps) refl

    first_measure : (ps : List (Point State)) → Few A slevel nodes ps → length ps ≡ length nodes → measure 0 ps ≤ (slevel + 1) * turns_of k nodes
    first_measure ps f l = by nodes ps f l where
      by : (ns : List Node) (ps : List (Point State)) → Few A slevel ns ps → length ps ≡ length ns
          → node_turns k (callee_at ns 0) * waits_in (slice_get ps 0) + (slevel + 1) * later k 0 ns ≤ (slevel + 1) * turns_of k ns
      by [] [] f l = omega arith
      by [] (p ∷ ps) f l = absurd (omega arith)
      by (node ∷ ns) [] f l = absurd (omega arith)
      by (node ∷ ns) (p ∷ ps) f l =
          let c = waits_few slevel p (f 0) in
          let m = mul_mono (node_turns k (callee_of node.instr)) (waits p) (slevel + 1) c in
          omega arith

    all_empty : (ns : List Node) → Few A slevel nodes (map (λ node. empty_point A) ns)
    all_empty [] i = tt
    all_empty (node ∷ ns) zero = omega arith
    all_empty (node ∷ ns) (suc i) = all_empty ns i

    pub run_enough : (function : Function) (x : State) (left : ℕ) → function.nodes ≡ nodes → (slevel + 1) * turns_of k nodes ≤ left
        → Within turns_made ((slevel + 1) * turns_of k nodes) (turns A slevel functions left call f nodes left (push A slevel nodes (map (λ node. empty_point A) nodes) function.entry x))
    run_enough function x left e l =
        let empties : List (Point State) = map (λ node. empty_point A) nodes in
        let ps : List (Point State) = push A slevel nodes empties function.entry x in
        let few : Few A slevel nodes ps = push_few A slevel nodes empties function.entry x (all_empty nodes) in
        let long : length ps ≡ length nodes = push_length empties function.entry x ∙ length-map nodes (λ node. empty_point A) in
        let m = first_measure ps few long in
        let w = turns_enough left 0 left ps (record { low = λ i p z a. absurd (omega arith); few = few; long = long }) (omega arith) (omega arith) in
        let few : w.result.work.turns ≤ measure 0 ps = w.few in
        record { result = w.result; is = w.is; few = omega arith }

  -- ---- runs by the height of the calls

  module _ (height : ℕ → ℕ) (C : CallsEnd functions height) where
    -- the callers: distinct functions, each higher than f
    abbrev Above : ℕ → List ℕ → Type 0
    Above f [] = Unit {0}
    Above f (v ∷ vs) = (height f < height v) × (v < length functions) × Above f vs

    above_lower : (f g : ℕ) (vs : List ℕ) → height g < height f → Above f vs → Above g vs
    above_lower f g [] l a = tt
    above_lower f g (v ∷ vs) l a = let h : height f < height v = a.0 in (omega arith, a.1, above_lower f g vs l a.2)

    eqb_is : (q v : ℕ) → eqb q v ≡ true → q ≡ v
    eqb_is q v e = grind arith

    differs : (f v : ℕ) → height f < height v → (b : Bool) → eqb f v ≡ b → b ≡ false
    differs f v l true e = let q : f ≡ v = eqb_is f v e in let s : height f ≡ height v = ap height q in absurd (omega arith)
    differs f v l false e = refl

    all_differ : (f : ℕ) (vs : List ℕ) → Above f vs → AllByRecursion (λ v. eqb f v ≡ false) vs
    all_differ f [] a = tt
    all_differ f (v ∷ vs) a = (let b : Bool = eqb f v in let e : b ≡ false = differs f v a.0 (eqb f v) refl in e, all_differ f vs a.2)

    all_below : (f : ℕ) (vs : List ℕ) → Above f vs → (q : ℕ) → list_any (eqb q) vs ≡ true → q < length functions
    all_below f [] a q e = cc
    all_below f (v ∷ vs) a q e = elim (either (eqb q v) (list_any (eqb q) vs) e) [
      | inl h ↦ let s : q ≡ v = eqb_is q v h in let l : v < length functions = a.1 in omega arith
      | inr h ↦ all_below f vs a.2 q h
    ]

    -- a chain of calls has at most as many functions as there are
    chain_long : (f : ℕ) (vs : List ℕ) → f < length functions → Above f vs → IsDistinct eqb vs → length vs < length functions
    unfolding IsDistinct
    chain_long f vs l a d =
        let below : (q : ℕ) → list_any (eqb q) (f ∷ vs) ≡ true → q < length functions = λ q e. elim (either (eqb q f) (list_any (eqb q) vs) e) [
          | inl h ↦ let s : q ≡ f = eqb_is q f h in omega arith
          | inr h ↦ all_below f vs a q h
        ] in
        let long : length (f ∷ vs) ≤ length functions = length-le_from_distinct_below (f ∷ vs) (length functions) (all_differ f vs a, d) below in
        omega arith

    chain_on : (f : ℕ) (vs : List ℕ) → Above f vs → IsDistinct eqb vs → IsDistinct eqb (f ∷ vs)
    unfolding IsDistinct
    chain_on f vs a d = (all_differ f vs a, d)

    node_by : (function : Function) (f n g : ℕ) (o : Option Node) → slice_get functions f ≡ Some function → slice_get function.nodes n ≡ o → callee_in o ≡ Some g
        → (node : Node) × IsNode functions f n function node × (callee_of node.instr ≡ Some g)
    node_by function f n g None a e c = cc
    node_by function f n g (Some node) a e c = (node, record { function_at = a; node_at = e }, c)

    edge_by : (function : Function) (f n i t : ℕ) (o : Option Node) → slice_get functions f ≡ Some function → slice_get function.nodes n ≡ o → slice_get (edges_in o) i ≡ Some t
        → (node : Node) × IsNode functions f n function node × (slice_get node.edges i ≡ Some t)
    edge_by function f n i t None a e c = cc
    edge_by function f n i t (Some node) a e c = (node, record { function_at = a; node_at = e }, c)

    run_zero : (f : ℕ) (vs : List ℕ) → f < length functions → Above f vs → IsDistinct eqb vs → length functions ≤ 0 + length vs → ⊥
    run_zero f vs l a d n = let m = chain_long f vs l a d in omega arith

    forward_on : (f g : ℕ) → ((h : ℕ) → Reaches functions g h → Reaches functions f h) → GoesForward functions f → GoesForward functions g
    forward_on f g r w h n function node k t s = w h n function node k t (r h s)

    reaches_on : (f n g : ℕ) (function : Function) (node : Node) → IsNode functions f n function node → callee_of node.instr ≡ Some g → (h : ℕ) → Reaches functions g h → Reaches functions f h
    reaches_on f n g function node i c h itself = by_call f n g function node itself i c
    reaches_on f n g function node i c h (by_call v m _ other rest r j e) = by_call v m h other rest (reaches_on f n g function node i c v r) j e

    run_within : (h f : ℕ) (vs : List ℕ) (function : Function) (x : State) (left : ℕ) → slice_get functions f ≡ Some function → Above f vs → IsDistinct eqb vs → length functions ≤ h + length vs
        → GoesForward functions f → turns_within h slevel functions f ≤ left → Within turns_run (turns_within h slevel functions f) (run A slevel functions h f x left)
    unfolding run turns_within
    run_within zero f vs function x left e a d n w l = absurd (run_zero f vs (within_of functions f function e) a d n)
    run_within (suc h) f vs function x left e a d n w l =
        let k : ℕ → ℕ = turns_within h slevel functions in
        let calls : (m g : ℕ) (y : State) (rest : ℕ) → callee_at function.nodes m ≡ Some g → k g ≤ rest → Within turns_run (k g) (run A slevel functions h g y rest) = λ m g y rest c q.
        let i = node_by function f m g (slice_get function.nodes m) e refl c in
        let lower : height g < height f = C.lower f m g function i.0 i.1 i.2 in
        let there = C.defined f m g function i.0 i.1 i.2 in
        run_within h g (f ∷ vs) there.0 y rest there.1 (lower, within_of functions f function e, above_lower f g vs lower a) (chain_on f vs a d) (omega arith)
        (forward_on f g (reaches_on f m g function i.0 i.1 i.2) w) q in
        let forward : (m i t : ℕ) → slice_get (edges_at function.nodes m) i ≡ Some t → m < t = λ m i t c.
        let v = edge_by function f m i t (slice_get function.nodes m) e refl c in w f m function v.0 i t itself v.1 v.2 in
        let enough : (slevel + 1) * turns_of k function.nodes ≤ left = subst (λ o. function_turns slevel k o ≤ left) e l in
        let r = run_enough (run A slevel functions h) k f function.nodes calls forward function x left refl enough in
        rw e (record { result = ran A slevel functions f function r.result; is = rw (r.is) refl; few = r.few })

    pub lone_within : (f budget : ℕ) (function : Function) → slice_get functions f ≡ Some function → GoesForward functions f → most_turns slevel functions f ≤ budget → IsEnough A slevel functions f budget
    unfolding lone IsDistinct
    lone_within f budget function e w l =
        let r = run_within (length functions) f [] function (A.initial f) budget e tt tt (omega arith) w l in
        record { result = result_of A slevel functions f r.result; is_result = rw (r.is) refl; few = r.few }

pub forward_run_is_bounded : (State : Type 0) → ForwardRunIsBounded State
forward_run_is_bounded State A slevel functions height C f budget function e w l = lone_within A slevel functions height C f budget function e w l
