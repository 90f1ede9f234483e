-- At the end of a run each state of each node had a turn, and what the turn gave is met at the ends of its edges.
use Rattle.std.proofs.Common.{◌≡◌, ℕ, zero, suc, ◌+◌, ◌-◌, ◌<◌, refl, ap, sym, ◌∙◌, subst, arith, List, [], ◌∷◌, length, Option, Some, None, Bool, true, false, if◌then◌else◌, slice_get, slice_set, nat_eq, inl, inr, ◌⊎◌}
use Rattle.std.specs.Prelude.{Contains}
use Rattle.std.proofs.lemmas.List.{length-set}
use Rattle.std.proofs.lemmas.List.Elements.{Contains-append_left, Contains-append_right, Contains-append_cases}
use Rattle.program.specs.declared.graph.Node.{Node}
use Rattle.program.specs.declared.graph.Function.{Function}
use Rattle.program.specs.declared.sites.Site.{Site}
use Rattle.lone_run.specs.Analysis.{Analysis}
use Rattle.lone_run.specs.Points.{Held, Point, push_along, first_pending, settle_first, settled_held, next_state, next_after, settled, settled_after, settled_at, least_pending, least_from, least_after}
use Rattle.lone_run.specs.Lone.{Work, Ended, Taken, Progress, Caller, and_then, taken, callee_at, edges_at, turn, turns, go_on, one_turn, no_work, both_work, worked}
use Rattle.lone_run.proofs.Pushes.{StatesKeep, GrownAt, GrownAll, FitPoint, FitAll, FitAt, FitAlong, InStates, InPoint, InAt, At, Among, AmongPoint, along_pushed, at_grown, get_same, get_other, same_or_not}

pub empty_contains : {X : Type 0} (x : X) → Contains [] x → ⊥
empty_contains x c = let l : c.0 < 0 = c.1 in omega arith

-- ---- which state is next

module _ {State : Type 0} where
  -- the least pending node is one with a pending state
  pub record Next (i : ℕ) (ps : List (Point State)) (n : ℕ) (x : State) : Type 0 where
    pub k : ℕ
    pub number : n ≡ i + k
    pub point : Point State
    pub at : slice_get ps k ≡ Some point
    pub next : next_state point ≡ Some x
    pub before : (m : ℕ) (p : Point State) → m < k → slice_get ps m ≡ Some p → next_state p ≡ None

  next_by : (i : ℕ) (p : Point State) (ps : List (Point State)) (n : ℕ) (x : State) → (least_from (i + 1) ps ≡ Some (n, x) → Next (i + 1) ps n x)
      → (o : Option State) → next_state p ≡ o → least_after i o (least_from (i + 1) ps) ≡ Some (n, x) → Next i (p ∷ ps) n x
  next_by i p ps n x later (Some y) s e =
      let P : Type 0 = ℕ × State in
      let a : P = (i, y) in
      let b : P = (n, x) in
      let q : a ≡ b = cc in
      let u : i ≡ n = ap (λ (z : P). z.0) q in
      let v : y ≡ x = ap (λ (z : P). z.1) q in
      record { k = 0; number = omega arith; point = p; at = refl; next = s ∙ ap Some v; before = λ m q l a. absurd (omega arith) }
  next_by i p ps n x later None s e =
      let r = later e in
      let m : n ≡ i + 1 + r.k = r.number in
      let before : (m : ℕ) (q : Point State) → m < suc r.k → slice_get (p ∷ ps) m ≡ Some q → next_state q ≡ None =
      λ m q. elim m as (λ m. m < suc r.k → slice_get (p ∷ ps) m ≡ Some q → next_state q ≡ None) [
        | zero ↦ λ l a. let same : p ≡ q = cc in subst (λ z. next_state z ≡ None) same s
        | suc m ↦ λ l a. r.before m q (omega arith) a
      ] in
      record { k = suc r.k; number = omega arith; point = r.point; at = r.at; next = r.next; before = before }

  pub least_next : (i : ℕ) (ps : List (Point State)) (n : ℕ) (x : State) → least_from i ps ≡ Some (n, x) → Next i ps n x
  least_next i [] n x e = cc
  least_next i (p ∷ ps) n x e = next_by i p ps n x (least_next (i + 1) ps n x) (next_state p) refl e

  abbrev NoneNext : List (Point State) → Type 0
  NoneNext ps = (k : ℕ) (p : Point State) → slice_get ps k ≡ Some p → next_state p ≡ None

  none_by : (i : ℕ) (q : Point State) (ps : List (Point State)) → (least_from (i + 1) ps ≡ None → NoneNext ps)
      → (o : Option State) → next_state q ≡ o → least_after i o (least_from (i + 1) ps) ≡ None → NoneNext (q ∷ ps)
  none_by i q ps later (Some y) s e k p a = cc
  none_by i q ps later None s e zero p a = let same : q ≡ p = cc in subst (λ z. next_state z ≡ None) same s
  none_by i q ps later None s e (suc k) p a = later e k p a

  -- where no node is least, none has a pending state
  pub none_next : (i : ℕ) (ps : List (Point State)) → least_from i ps ≡ None → NoneNext ps
  none_next i [] e = λ k p a. cc
  none_next i (q ∷ ps) e = none_by i q ps (none_next (i + 1) ps) (next_state q) refl e

module _ {State Memory : Type 0} (A : Analysis State) (Member : Memory → State → Type 0) (Fit : ℕ → State → Type 0) (K : StatesKeep A Member Fit) where
  -- ---- a point with its first pending state settled

  abbrev settle_if : Bool → Held State → List (Held State) → List (Held State)
  settle_if b h hs = if b then settled_held h ∷ hs else h ∷ settle_first hs

  settle_in : (m : Memory) (hs : List (Held State)) → InStates Member m hs → InStates Member m (settle_first hs)
  settle_in m [] i = absurd i
  settle_in m (h ∷ hs) i = elim h.pending as (λ b. InStates Member m (settle_if b h hs)) [
    | true ↦ i
    | false ↦ elim i [ inl a ↦ inl a | inr c ↦ inr (settle_in m hs c) ]
  ]

  -- a state of the list was there before
  settle_states : (h : Held State) (hs : List (Held State)) → Among h (settle_first hs) → (g : Held State) × Among g hs × (g.state ≡ h.state)
  settle_states h [] a = absurd a
  settle_states h (g ∷ hs) a = by g.pending a (settle_states h hs) where
    by : (b : Bool) → Among h (settle_if b g hs) → (Among h (settle_first hs) → (k : Held State) × Among k hs × (k.state ≡ h.state))
        → (k : Held State) × Among k (g ∷ hs) × (k.state ≡ h.state)
    by true (inl e) later = (g, inl refl, ap (λ (k : Held State). k.state) e)
    by true (inr a) later = (h, inr a, refl)
    by false (inl e) later = (g, inl refl, ap (λ (k : Held State). k.state) e)
    by false (inr a) later = let r = later a in (r.0, inr r.1, r.2)

  -- a settled state was settled before, or is the one that was settled
  settle_still : (x : State) (h : Held State) (hs : List (Held State)) → first_pending hs ≡ Some x → Among h (settle_first hs) → h.pending ≡ false → Among h hs ⊎ (h.state ≡ x)
  settle_still x h [] e a p = absurd a
  settle_still x h (g ∷ hs) e a p = by g.pending e a (settle_still x h hs) where
    by : (b : Bool) → (if b then Some g.state else first_pending hs) ≡ Some x → Among h (settle_if b g hs)
        → (first_pending hs ≡ Some x → Among h (settle_first hs) → h.pending ≡ false → Among h hs ⊎ (h.state ≡ x)) → Among h (g ∷ hs) ⊎ (h.state ≡ x)
    by true e (inl s) later = let q : g.state ≡ x = cc in inr (sym (ap (λ (k : Held State). k.state) s) ∙ q)
    by true e (inr a) later = inl (inr a)
    by false e (inl s) later = inl (inl s)
    by false e (inr a) later = elim (later e a p) [ inl b ↦ inl (inr b) | inr q ↦ inr q ]

  -- the first pending state is one of the list
  first_among : (x : State) (hs : List (Held State)) → first_pending hs ≡ Some x → (g : Held State) × Among g hs × (g.state ≡ x)
  first_among x [] e = cc
  first_among x (g ∷ hs) e = by g.pending e (first_among x hs) where
    by : (b : Bool) → (if b then Some g.state else first_pending hs) ≡ Some x → (first_pending hs ≡ Some x → (k : Held State) × Among k hs × (k.state ≡ x))
        → (k : Held State) × Among k (g ∷ hs) × (k.state ≡ x)
    by true e later = (g, inl refl, cc)
    by false e later = let r = later e in (r.0, inr r.1, r.2)

  none_pending : (h : Held State) (hs : List (Held State)) → first_pending hs ≡ None → Among h hs → h.pending ≡ false
  none_pending h [] e a = absurd a
  none_pending h (g ∷ hs) e a = by g.pending refl e a (none_pending h hs) where
    by : (b : Bool) → g.pending ≡ b → (if b then Some g.state else first_pending hs) ≡ None → Among h (g ∷ hs) → (first_pending hs ≡ None → Among h hs → h.pending ≡ false) → h.pending ≡ false
    by true s e a later = cc
    by false s e (inl q) later = sym (ap (λ (k : Held State). k.pending) q) ∙ s
    by false s e (inr a) later = later e a

  -- what settling does to a point
  pub record Settles (n : ℕ) (x : State) (p q : Point State) : Type 0 where
    pub grown : (m : Memory) → InPoint Member m p → InPoint Member m q
    pub fits : FitPoint Fit n p → FitPoint Fit n q
    pub here : FitPoint Fit n p → Fit n x
    pub still : (h : Held State) → AmongPoint h q → h.pending ≡ false → AmongPoint h p ⊎ (h.state ≡ x)

  settles_by : (n : ℕ) (x : State) (p : Point State) (o : Option State) → first_pending p.separate ≡ o → next_after p o ≡ Some x → Settles n x p (settled_after p o)
  settles_by n x p (Some y) e s =
      let q : y ≡ x = cc in
      let f : first_pending p.separate ≡ Some x = e ∙ ap Some q in
      record {
        grown = λ m i. elim i [ inl a ↦ inl (settle_in m p.separate a) | inr j ↦ inr j ];
        fits = λ g h a. elim a [
          | inl b ↦ let r = settle_states h p.separate b in subst (Fit n) r.2 (g r.0 (inl r.1))
          | inr j ↦ g h (inr j)
        ];
        here = λ g. let r = first_among x p.separate f in subst (Fit n) r.2 (g r.0 (inl r.1));
        still = λ h a t. elim a [
          | inl b ↦ elim (settle_still x h p.separate f b t) [ inl c ↦ inl (inl c) | inr c ↦ inr c ]
          | inr j ↦ inl (inr j)
        ];
      }
  settles_by n x p None e s = by p.joined.pending s where
    by : (b : Bool) → (if b then Some p.joined.state else None) ≡ Some x → Settles n x p (record p { joined = settled_held p.joined })
    by true s =
        let q : p.joined.state ≡ x = cc in
        record {
          grown = λ m i. i;
          fits = λ g h a. elim a [ inl b ↦ g h (inl b) | inr j ↦ subst (λ (k : Held State). Fit n k.state) j (g p.joined (inr refl)) ];
          here = λ g. subst (Fit n) q (g p.joined (inr refl));
          still = λ h a t. elim a [ inl b ↦ inl (inl b) | inr j ↦ inr (sym (ap (λ (k : Held State). k.state) j) ∙ q) ];
        }
    by false s = cc

  pub settles : (n : ℕ) (x : State) (p : Point State) → next_state p ≡ Some x → Settles n x p (settled p)
  unfolding next_state settled
  settles n x p e = settles_by n x p (first_pending p.separate) refl e

  quiet_by : (p : Point State) (o : Option State) → first_pending p.separate ≡ o → next_after p o ≡ None → (h : Held State) → AmongPoint h p → h.pending ≡ false
  quiet_by p (Some y) e s h a = cc
  quiet_by p None e s h (inl a) = none_pending h p.separate e a
  quiet_by p None e s h (inr j) = by p.joined.pending refl s where
    by : (b : Bool) → p.joined.pending ≡ b → (if b then Some p.joined.state else None) ≡ None → h.pending ≡ false
    by true q s = cc
    by false q s = sym (ap (λ (k : Held State). k.pending) j) ∙ q

  -- a point without a next state has none that is pending
  pub quiet : (p : Point State) → next_state p ≡ None → (h : Held State) → AmongPoint h p → h.pending ≡ false
  unfolding next_state
  quiet p e = quiet_by p (first_pending p.separate) refl e

  -- ---- a function's points

  -- the alarms and the ended runs are among those of the whole
  pub record Part (w whole : Work State) : Type 0 where
    pub alarms : (s : Site) → Contains w.alarms s → Contains whole.alarms s
    pub ended : (e : Ended State) → Contains w.ended e → Contains whole.ended e

  pub part_left : (w v whole : Work State) → Part (both_work w v) whole → Part w whole
  part_left w v whole p = record {
    alarms = λ s c. p.alarms s (Contains-append_left w.alarms v.alarms s c);
    ended = λ e c. p.ended e (Contains-append_left w.ended v.ended e c);
  }

  pub part_right : (w v whole : Work State) → Part (both_work w v) whole → Part v whole
  part_right w v whole p = record {
    alarms = λ s c. p.alarms s (Contains-append_right w.alarms v.alarms s c);
    ended = λ e c. p.ended e (Contains-append_right w.ended v.ended e c);
  }

  module _ (slevel : ℕ) (functions : List Function) (f : ℕ) (nodes : List Node) (call : Caller State)
      (inside : (n k t : ℕ) → slice_get (edges_at nodes n) k ≡ Some t → t < length nodes)
      (taken_fits : (n : ℕ) (x : State) (left : ℕ) (r : Taken State) → Fit n x → taken A slevel functions call f n (callee_at nodes n) x left ≡ Some r
      → (k t : ℕ) (y : State) → slice_get (edges_at nodes n) k ≡ Some t → slice_get r.states k ≡ Some y → Fit t y)
      (Right : Ended State → Type 0)
      (taken_right : (n : ℕ) (x : State) (left : ℕ) (r : Taken State) → Fit n x → taken A slevel functions call f n (callee_at nodes n) x left ≡ Some r
      → (e : Ended State) → Contains r.work.ended e → Right e)
      (whole : Work State) where
    -- a state had its turn at node n, and what the turn gave is met
    pub record Turned (n : ℕ) (x : State) (ps : List (Point State)) : Type 0 where
      pub left : ℕ
      pub gave : Taken State
      pub is_taken : taken A slevel functions call f n (callee_at nodes n) x left ≡ Some gave
      pub work : Part gave.work whole
      pub met : (k t : ℕ) (y : State) (m : Memory) → slice_get (edges_at nodes n) k ≡ Some t → slice_get gave.states k ≡ Some y → Member m y → At Member ps t m

    abbrev pub Settled : ℕ → State → List (Point State) → Type 0
    Settled n x ps = (A.is_bottom x ≡ true) ⊎ Turned n x ps

    abbrev pub SettledPoint : List (Point State) → ℕ → Option (Point State) → Type 0
    SettledPoint ps i None = Unit {0}
    SettledPoint ps i (Some p) = (h : Held State) → AmongPoint h p → h.pending ≡ false → Settled i h.state ps

    pub record Good (ps : List (Point State)) : Type 0 where
      pub settled : (i : ℕ) → SettledPoint ps i (slice_get ps i)
      pub fits : FitAll Fit ps
      pub long : length ps ≡ length nodes

    abbrev pub Widened : List (Point State) → List (Point State) → Type 0
    Widened ps qs = (i : ℕ) (m : Memory) → At Member ps i m → At Member qs i m

    turned_grown : (n : ℕ) (x : State) (ps qs : List (Point State)) → Widened ps qs → Turned n x ps → Turned n x qs
    turned_grown n x ps qs g t = record {
      left = t.left;
      gave = t.gave;
      is_taken = t.is_taken;
      work = t.work;
      met = λ k u y m a b i. g u m (t.met k u y m a b i);
    }

    settled_grown : (n : ℕ) (x : State) (ps qs : List (Point State)) → Widened ps qs → Settled n x ps → Settled n x qs
    settled_grown n x ps qs g (inl b) = inl b
    settled_grown n x ps qs g (inr t) = inr (turned_grown n x ps qs g t)

    -- what settling the next state of node n does to the points; `still` speaks of what was settled before
    pub record SettledAt (ps qs : List (Point State)) (n : ℕ) (x : State) : Type 0 where
      pub long : length qs ≡ length ps
      pub fits : FitAll Fit qs
      pub grown : (i : ℕ) (m : Memory) → At Member ps i m → At Member qs i m
      pub here : Fit n x
      pub still : (i : ℕ) (q : Point State) → slice_get qs i ≡ Some q → (h : Held State) → AmongPoint h q → h.pending ≡ false
          → ((p : Point State) × (slice_get ps i ≡ Some p) × AmongPoint h p) ⊎ ((i ≡ n) × (h.state ≡ x))

    settle_set : (ps : List (Point State)) (n : ℕ) (x : State) (p : Point State) → FitAll Fit ps → slice_get ps n ≡ Some p → next_state p ≡ Some x
        → SettledAt ps (slice_set ps n (settled p)) n x
    settle_set ps n x p f e s =
        let q : Point State = settled p in
        let qs : List (Point State) = slice_set ps n q in
        let here : slice_get qs n ≡ Some q = get_same ps n p q e in
        let w = settles n x p s in
        let fp : FitPoint Fit n p = subst (λ o. FitAt Fit n o) e (f n) in
        record {
          long = length-set ps n q;
          fits = λ i. elim (same_or_not n i) [
            | inl s ↦ subst (λ j. FitAt Fit j (slice_get qs j)) s (rw here (w.fits fp))
            | inr d ↦ let same : slice_get qs i ≡ slice_get ps i = get_other ps n i q d in rw same (f i)
          ];
          grown = λ i m a. elim (same_or_not n i) [
            | inl s ↦
                let b : At Member ps n m = subst (λ j. At Member ps j m) (sym s) a in
                let c : InPoint Member m p = subst (λ o. InAt Member m o) e b in
                subst (λ j. At Member qs j m) s (rw here (w.grown m c))
            | inr d ↦ let same : slice_get qs i ≡ slice_get ps i = get_other ps n i q d in rw same a
          ];
          here = w.here fp;
          still = λ i r a h b t. elim (same_or_not n i) [
            | inl s ↦
                let c : slice_get qs n ≡ Some r = subst (λ j. slice_get qs j ≡ Some r) (sym s) a in
                let v : q ≡ r = let u : Some q ≡ Some r = sym here ∙ c in cc in
                let b' : AmongPoint h q = subst (λ (z : Point State). AmongPoint h z) (sym v) b in
                elim (w.still h b' t) [
                  | inl y ↦ inl (p, subst (λ j. slice_get ps j ≡ Some p) s e, y)
                  | inr y ↦ inr (sym s, y)
                ]
            | inr d ↦
                let same : slice_get qs i ≡ slice_get ps i = get_other ps n i q d in
                inl (r, sym same ∙ a, b)
          ];
        }

    settle_pushed : (ps : List (Point State)) (n : ℕ) (x : State) (p : Point State) → FitAll Fit ps → slice_get ps n ≡ Some p → next_state p ≡ Some x
        → SettledAt ps (settled_at ps n) n x
    unfolding settled_at
    settle_pushed ps n x p f e s = rw e (settle_set ps n x p f e s)

    -- ---- one turn

    point_settled : (ps : List (Point State)) (n : ℕ) (x : State) (qs rs : List (Point State)) → Good ps → SettledAt ps qs n x → GrownAll Member qs rs → Turned n x rs
        → (i : ℕ) (o : Option (Point State)) → slice_get rs i ≡ o → SettledPoint rs i o
    point_settled ps n x qs rs g s w t i None e = tt
    point_settled ps n x qs rs g s w t i (Some r) e = by (slice_get qs i) refl (subst (λ o. GrownAt Member (slice_get qs i) o) e (w i)) where
      widened : Widened ps rs
      widened j m a = at_grown A Member Fit K qs rs j m w (s.grown j m a)

      old : (h : Held State) → (p : Point State) × (slice_get ps i ≡ Some p) × AmongPoint h p → h.pending ≡ false → Settled i h.state rs
      old h a z =
          let b : SettledPoint ps i (Some a.0) = subst (λ o. SettledPoint ps i o) a.1 (g.settled i) in
          settled_grown i h.state ps rs widened (b h a.2 z)

      by : (o : Option (Point State)) → slice_get qs i ≡ o → GrownAt Member o (Some r) → SettledPoint rs i (Some r)
      by None a b h c z = absurd b
      by (Some q) a b h c z = elim (s.still i q a h (b.still h c z) z) [
        | inl y ↦ old h y z
        | inr y ↦ inr (subst (λ j. Turned j h.state rs) (sym y.0) (subst (λ v. Turned n v rs) (sym y.1) t))
      ]

    abbrev pub RightWork : Work State → Type 0
    RightWork w = (e : Ended State) → Contains w.ended e → Right e

    -- what a turn, or many, do
    pub record Went (ps : List (Point State)) (r : Progress State) : Type 0 where
      pub good : Good r.points
      pub widened : Widened ps r.points
      pub right : RightWork r.work

    turn_by : (ps : List (Point State)) (n left : ℕ) (x : State) (r : Progress State) → Good ps → SettledAt ps (settled_at ps n) n x
        → (o : Option (Taken State)) → taken A slevel functions call f n (callee_at nodes n) x left ≡ o
        → and_then {B = Progress State} o (λ t. Some (record {
          points = push_along A slevel nodes (settled_at ps n) (edges_at nodes n) t.states;
          work = both_work (one_turn A slevel functions) t.work;
        })) ≡ Some r
        → Part r.work whole → Went ps r
    turn_by ps n left x r g s None e q w = cc
    turn_by ps n left x r g s (Some t) e q w =
        let qs : List (Point State) = settled_at ps n in
        let rs : List (Point State) = push_along A slevel nodes qs (edges_at nodes n) t.states in
        let v : Work State = both_work (one_turn A slevel functions) t.work in
        let now : Progress State = record { points = rs; work = v } in
        let same : now ≡ r = cc in
        let work : v ≡ r.work = ap (λ (z : Progress State). z.work) same in
        let part : Part t.work whole = part_right (one_turn A slevel functions) t.work whole (subst (λ z. Part z whole) (sym work) w) in
        let fit : FitAlong A Member Fit K slevel nodes (edges_at nodes n) t.states = taken_fits n x left t s.here e in
        let along = along_pushed A Member Fit K slevel nodes qs (edges_at nodes n) t.states s.fits fit in
        let long : length qs ≡ length nodes = s.long ∙ g.long in
        let turned : Turned n x rs = record {
          left = left;
          gave = t;
          is_taken = e;
          work = part;
          met = λ k u y m a b i. along.met k u y m a b (let l : u < length nodes = inside n k u a in omega arith) i;
        } in
        let went : Went ps now = record {
          good = record {
            settled = λ i. point_settled ps n x qs rs g s along.grown turned i (slice_get rs i) refl;
            fits = along.fits;
            long = along.long ∙ long;
          };
          widened = λ i m a. at_grown A Member Fit K qs rs i m along.grown (s.grown i m a);
          right = taken_right n x left t s.here e;
        } in
        subst (Went ps) same went

    pub turn_good : (ps : List (Point State)) (n left : ℕ) (x : State) (r : Progress State) → Good ps → least_pending ps ≡ Some (n, x) → turn A slevel functions call f nodes n x left ps ≡ Some r
        → Part r.work whole → Went ps r
    unfolding turn least_pending
    turn_good ps n left x r g e q w =
        let next = least_next 0 ps n x e in
        let same : next.k ≡ n = let m : n ≡ 0 + next.k = next.number in omega arith in
        let at : slice_get ps n ≡ Some next.point = subst (λ k. slice_get ps k ≡ Some next.point) same next.at in
        turn_by ps n (left - 1) x r g (settle_pushed ps n x next.point g.fits at next.next) _ refl q w

    -- ---- turns until nothing is pending

    pub record Ends (ps : List (Point State)) (r : Progress State) : Type 0 where
      pub went : Went ps r
      pub quiet : least_pending r.points ≡ None

    abbrev Rest : Type 0
    Rest = ℕ → List (Point State) → Option (Progress State)

    abbrev pub GoesWell : Rest → Type 0
    GoesWell rest = (left : ℕ) (ps : List (Point State)) (r : Progress State) → Good ps → rest left ps ≡ Some r → Part r.work whole → Ends ps r

    right_both : (w v : Work State) → RightWork w → RightWork v → RightWork (both_work w v)
    right_both w v a b e c = elim (Contains-append_cases w.ended v.ended e c) [ inl l ↦ a e l | inr r ↦ b e r ]

    rest_good : (rest : Rest) → GoesWell rest → (ps : List (Point State)) (t r : Progress State) (left : ℕ) → (Part t.work whole → Went ps t)
        → (o : Option (Progress State)) → rest left t.points ≡ o → and_then {B = Progress State} o (λ s. Some (worked A slevel functions t.work s)) ≡ Some r → Part r.work whole → Ends ps r
    rest_good rest h ps t r left g None e q w = cc
    rest_good rest h ps t r left g (Some s) e q w =
        let now : Progress State = worked A slevel functions t.work s in
        let same : now ≡ r = cc in
        let work : both_work t.work s.work ≡ r.work = ap (λ (z : Progress State). z.work) same in
        let part : Part (both_work t.work s.work) whole = subst (λ z. Part z whole) (sym work) w in
        let first = g (part_left t.work s.work whole part) in
        let later = h left t.points s first.good e (part_right t.work s.work whole part) in
        let ends : Ends ps now = record {
          went = record {
            good = later.went.good;
            widened = λ i m a. later.went.widened i m (first.widened i m a);
            right = right_both t.work s.work first.right later.went.right;
          };
          quiet = later.quiet;
        } in
        subst (Ends ps) same ends

    next_good : (rest : Rest) → GoesWell rest → (ps : List (Point State)) (n left : ℕ) (x : State) (r : Progress State) → Good ps → least_pending ps ≡ Some (n, x)
        → (o : Option (Progress State)) → turn A slevel functions call f nodes n x left ps ≡ o
        → and_then {B = Progress State} o (λ t. and_then (rest (left - t.work.turns) t.points) (λ s. Some (worked A slevel functions t.work s))) ≡ Some r → Part r.work whole → Ends ps r
    next_good rest h ps n left x r g l None e q w = cc
    next_good rest h ps n left x r g l (Some t) e q w = rest_good rest h ps t r (left - t.work.turns) (turn_good ps n left x t g l e) _ refl q w

    room_good : (b : Bool) (rest : Rest) → GoesWell rest → (ps : List (Point State)) (left : ℕ) (next : ℕ × State) (r : Progress State) → Good ps → least_pending ps ≡ Some next
        → (if b then None else and_then {B = Progress State} (turn A slevel functions call f nodes next.0 next.1 left ps) (λ t. and_then (rest (left - t.work.turns) t.points) (λ s. Some (worked A slevel functions t.work s)))) ≡ Some r
        → Part r.work whole → Ends ps r
    room_good true rest h ps left next r g l q w = cc
    room_good false rest h ps left next r g l q w = next_good rest h ps next.0 left next.1 r g l _ refl q w

    go_good : (rest : Rest) → GoesWell rest → (ps : List (Point State)) (left : ℕ) (r : Progress State) → Good ps
        → (o : Option (ℕ × State)) → least_pending ps ≡ o → go_on A slevel functions rest call f nodes left ps o ≡ Some r → Part r.work whole → Ends ps r
    go_good rest h ps left r g None e q w =
        let now : Progress State = record { points = ps; work = no_work } in
        let same : now ≡ r = cc in
        let ends : Ends ps now = record { went = record { good = g; widened = λ i m a. a; right = λ e c. absurd (empty_contains e c) }; quiet = e } in
        subst (Ends ps) same ends
    go_good rest h ps left r g (Some next) e q w = room_good (nat_eq left 0) rest h ps left next r g e q w

    -- where a run has a result, each state of each node is settled
    pub run_good : (n : ℕ) → GoesWell (turns A slevel functions n call f nodes)
    unfolding turns
    run_good zero left ps r g q w = go_good (λ l qs. None) (λ l qs s h e v. cc) ps left r g (least_pending ps) refl q w
    run_good (suc n) left ps r g q w = go_good (turns A slevel functions n call f nodes) (run_good n) ps left r g (least_pending ps) refl q w
