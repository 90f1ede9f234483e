-- A push loses no member, changes no settled state, and brings the pushed state's members to its node.
use Rattle.std.proofs.Common.{◌≡◌, ℕ, zero, suc, ◌+◌, min, ◌<◌, refl, ap, sym, ◌∙◌, subst, arith, List, [], ◌∷◌, ◌++◌, length, Option, Some, None, Bool, true, false, ◌||◌, if◌then◌else◌, slice_get, slice_set, inl, inr, ◌⊎◌}
use Rattle.std.proofs.lemmas.List.{length-set}
use Rattle.std.specs.List.{list_any}
use Rattle.program.specs.declared.graph.Node.{Node}
use Rattle.lone_run.specs.Analysis.{Analysis}
use Rattle.lone_run.specs.Points.{Held, Point, is_included, is_widening_point, updated, waiting, pushed, push, push_to, push_in, push_along}

pub either : (a b : Bool) → (a || b) ≡ true → (a ≡ true) ⊎ (b ≡ true)
either true b e = inl refl
either false b e = inr e

-- ---- lists

pub get_same : {X : Type 0} (xs : List X) (i : ℕ) (q r : X) → slice_get xs i ≡ Some q → slice_get (slice_set xs i r) i ≡ Some r
get_same [] i q r e = cc
get_same (x ∷ xs) zero q r e = refl
get_same (x ∷ xs) (suc i) q r e = get_same xs i q r e

pub get_other : {X : Type 0} (xs : List X) (i j : ℕ) (r : X) → (i ≡ j → ⊥) → slice_get (slice_set xs i r) j ≡ slice_get xs j
get_other [] i j r n = refl
get_other (x ∷ xs) zero zero r n = absurd (n refl)
get_other (x ∷ xs) zero (suc j) r n = refl
get_other (x ∷ xs) (suc i) zero r n = refl
get_other (x ∷ xs) (suc i) (suc j) r n = get_other xs i j r (λ e. n (ap suc e))

pub same_or_not : (i j : ℕ) → (i ≡ j) ⊎ (i ≡ j → ⊥)
same_or_not zero zero = inl refl
same_or_not zero (suc j) = inr (λ e. cc)
same_or_not (suc i) zero = inr (λ e. cc)
same_or_not (suc i) (suc j) = elim (same_or_not i j) [ inl e ↦ inl (ap suc e) | inr n ↦ inr (λ e. n (omega arith)) ]

pub some_within : {X : Type 0} (xs : List X) (i : ℕ) → i < length xs → (x : X) × (slice_get xs i ≡ Some x)
some_within [] i l = absurd (omega arith)
some_within (x ∷ xs) zero l = (x, refl)
some_within (x ∷ xs) (suc i) l = some_within xs i (omega arith)

pub within_of : {X : Type 0} (xs : List X) (i : ℕ) (x : X) → slice_get xs i ≡ Some x → i < length xs
within_of [] i x e = cc
within_of (y ∷ ys) zero x e = omega arith
within_of (y ∷ ys) (suc i) x e = let l = within_of ys i x e in omega arith

-- ---- what stands at nodes

abbrev pub Among : {State : Type 0} → Held State → List (Held State) → Type 0
Among h [] = ⊥
Among h (g ∷ hs) = (g ≡ h) ⊎ Among h hs

abbrev pub AmongPoint : {State : Type 0} → Held State → Point State → Type 0
AmongPoint h p = Among h p.separate ⊎ (p.joined ≡ h)

module _ {State : Type 0} (Fit : ℕ → State → Type 0) where
  abbrev pub FitPoint : ℕ → Point State → Type 0
  FitPoint n p = (h : Held State) → AmongPoint h p → Fit n h.state

  abbrev pub FitAt : ℕ → Option (Point State) → Type 0
  FitAt n None = Unit {0}
  FitAt n (Some p) = FitPoint n p

  abbrev pub FitAll : List (Point State) → Type 0
  FitAll ps = (i : ℕ) → FitAt i (slice_get ps i)

module _ {State Memory : Type 0} (Member : Memory → State → Type 0) where
  -- some state of the list has the memory as a member
  abbrev pub InStates : Memory → List (Held State) → Type 0
  InStates m [] = ⊥
  InStates m (h ∷ hs) = Member m h.state ⊎ InStates m hs

  abbrev pub InPoint : Memory → Point State → Type 0
  InPoint m p = InStates m p.separate ⊎ Member m p.joined.state

  abbrev pub InAt : Memory → Option (Point State) → Type 0
  InAt m None = ⊥
  InAt m (Some p) = InPoint m p

  -- some state at node n has the memory as a member
  abbrev pub At : List (Point State) → ℕ → Memory → Type 0
  At ps n m = InAt m (slice_get ps n)

  -- q has the members of p, and no other settled state
  pub record Grown (p q : Point State) : Type 0 where
    pub grown : (m : Memory) → InPoint m p → InPoint m q
    pub still : (h : Held State) → AmongPoint h q → h.pending ≡ false → AmongPoint h p

  abbrev pub GrownAt : Option (Point State) → Option (Point State) → Type 0
  GrownAt None None = Unit {0}
  GrownAt None (Some q) = ⊥
  GrownAt (Some p) None = ⊥
  GrownAt (Some p) (Some q) = Grown p q

  abbrev pub GrownAll : List (Point State) → List (Point State) → Type 0
  GrownAll ps qs = (i : ℕ) → GrownAt (slice_get ps i) (slice_get qs i)

-- what pushes need of states: Fit n is what holds of the states at node n
pub record StatesKeep {State Memory : Type 0} (A : Analysis State) (Member : Memory → State → Type 0) (Fit : ℕ → State → Type 0) : Type 0 where
  pub bottom_is : A.is_bottom A.bottom ≡ true
  pub bottom_fits : (n : ℕ) (x : State) → A.is_bottom x ≡ true → Fit n x
  pub no_member : (x : State) (m : Memory) → A.is_bottom x ≡ true → Member m x → ⊥
  pub join_fits : (n : ℕ) (x y : State) → Fit n x → Fit n y → Fit n (A.join x y)
  pub widen_fits : (n : ℕ) (x y : State) → Fit n x → Fit n y → Fit n (A.widen x y)
  pub join_older : (n : ℕ) (x y : State) (m : Memory) → Fit n x → Fit n y → Member m x → Member m (A.join x y)
  pub join_newer : (n : ℕ) (x y : State) (m : Memory) → Fit n x → Fit n y → Member m y → Member m (A.join x y)
  pub widen_older : (n : ℕ) (x y : State) (m : Memory) → Fit n x → Fit n y → Member m x → Member m (A.widen x y)
  pub widen_newer : (n : ℕ) (x y : State) (m : Memory) → Fit n x → Fit n y → Member m y → Member m (A.widen x y)
  pub included_keeps : (n : ℕ) (x y : State) (m : Memory) → Fit n x → Fit n y → A.included x y ≡ true → Member m x → Member m y

module _ {State Memory : Type 0} (A : Analysis State) (Member : Memory → State → Type 0) (Fit : ℕ → State → Type 0) (K : StatesKeep A Member Fit) where
  -- ---- a point

  pub record Met (n : ℕ) (x : State) (p q : Point State) : Type 0 where
    pub grows : Grown Member p q
    pub fits : FitPoint Fit n q
    pub met : (m : Memory) → Member m x → InPoint Member m q

  in_left : (m : Memory) (hs gs : List (Held State)) → InStates Member m hs → InStates Member m (hs ++ gs)
  in_left m [] gs i = absurd i
  in_left m (h ∷ hs) gs (inl i) = inl i
  in_left m (h ∷ hs) gs (inr i) = inr (in_left m hs gs i)

  in_right : (m : Memory) (hs gs : List (Held State)) → InStates Member m gs → InStates Member m (hs ++ gs)
  in_right m [] gs i = i
  in_right m (h ∷ hs) gs i = inr (in_right m hs gs i)

  among_append : (h : Held State) (hs gs : List (Held State)) → Among h (hs ++ gs) → Among h hs ⊎ Among h gs
  among_append h [] gs a = inr a
  among_append h (g ∷ hs) gs (inl e) = inl (inl e)
  among_append h (g ∷ hs) gs (inr a) = elim (among_append h hs gs a) [ inl b ↦ inl (inr b) | inr b ↦ inr b ]

  -- where a state of the list includes x, it has the members of x
  included_in : (n : ℕ) (x : State) (m : Memory) (hs : List (Held State)) → ((h : Held State) → Among h hs → Fit n h.state) → Fit n x
      → list_any (λ h. A.included x h.state) hs ≡ true → Member m x → InStates Member m hs
  included_in n x m [] f g e i = cc
  included_in n x m (h ∷ hs) f g e i = elim (either (A.included x h.state) (list_any (λ k. A.included x k.state) hs) e) [
    | inl a ↦ inl (K.included_keeps n x h.state m g (f h (inl refl)) a i)
    | inr b ↦ inr (included_in n x m hs (λ k a. f k (inr a)) g b i)
  ]

  same_grown : (p : Point State) → Grown Member p p
  same_grown p = record { grown = λ m i. i; still = λ h a e. a }

  skip_met : (n : ℕ) (x : State) (p : Point State) → FitPoint Fit n p → Fit n x → (A.is_bottom x || is_included A x p) ≡ true → Met n x p p
  skip_met n x p f g e = record {
    grows = same_grown p;
    fits = f;
    met = λ m i. elim (either (A.is_bottom x) (is_included A x p) e) [
      | inl b ↦ absurd (K.no_member x m b i)
      | inr c ↦ elim (either (list_any (λ h. A.included x h.state) p.separate) (A.included x p.joined.state) c) [
        | inl s ↦ inl (included_in n x m p.separate (λ h a. f h (inl a)) g s i)
        | inr j ↦ inr (K.included_keeps n x p.joined.state m g (f p.joined (inr refl)) j i)
      ]
    ];
  }

  waits : (x : State) (h : Held State) → waiting A x ≡ h → h.pending ≡ false → ⊥
  waits x h e f = let g : true ≡ h.pending = ap (λ (k : Held State). k.pending) e in let t : true ≡ false = g ∙ f in cc

  separate_met : (n : ℕ) (x : State) (p : Point State) → FitPoint Fit n p → Fit n x → Met n x p (record p { separate = p.separate ++ waiting A x ∷ [] })
  separate_met n x p f g =
      let one : List (Held State) = waiting A x ∷ [] in
      record {
        grows = record {
          grown = λ m i. elim i [ inl s ↦ inl (in_left m p.separate one s) | inr j ↦ inr j ];
          still = λ h a e. elim a [
            | inl s ↦ elim (among_append h p.separate one s) [ inl b ↦ inl b | inr c ↦ elim c [ inl w ↦ absurd (waits x h w e) | inr z ↦ absurd z ] ]
            | inr j ↦ inr j
          ];
        };
        fits = λ h a. elim a [
          | inl s ↦ elim (among_append h p.separate one s) [
            | inl b ↦ f h (inl b)
            | inr c ↦ elim c [ inl w ↦ subst (λ (k : Held State). Fit n k.state) w g | inr z ↦ absurd z ]
          ]
          | inr j ↦ f h (inr j)
        ];
        met = λ m i. inl (in_right m p.separate one (inl i));
      }

  -- the joined state after an update has the members of both
  pub record Above (n : ℕ) (x : State) (p : Point State) (y : State) : Type 0 where
    pub fits : Fit n y
    pub older : (m : Memory) → Member m p.joined.state → Member m y
    pub newer : (m : Memory) → Member m x → Member m y

  join_above : (n : ℕ) (x : State) (p : Point State) → Fit n p.joined.state → Fit n x → Above n x p (A.join p.joined.state x)
  join_above n x p f g = record {
    fits = K.join_fits n p.joined.state x f g;
    older = λ m i. K.join_older n p.joined.state x m f g i;
    newer = λ m i. K.join_newer n p.joined.state x m f g i;
  }

  widen_above : (n : ℕ) (x : State) (p : Point State) → Fit n p.joined.state → Fit n x → Above n x p (A.widen p.joined.state (A.join p.joined.state x))
  widen_above n x p f g =
      let j = A.join p.joined.state x in
      let k : Fit n j = K.join_fits n p.joined.state x f g in
      record {
        fits = K.widen_fits n p.joined.state j f k;
        older = λ m i. K.widen_older n p.joined.state j m f k i;
        newer = λ m i. K.widen_newer n p.joined.state j m f k (K.join_newer n p.joined.state x m f g i);
      }

  above_by : (b : Bool) (n : ℕ) (x : State) (p : Point State) → Fit n p.joined.state → Fit n x
      → Above n x p (if b then A.widen p.joined.state (A.join p.joined.state x) else A.join p.joined.state x)
  above_by true n x p f g = widen_above n x p f g
  above_by false n x p f g = join_above n x p f g

  updated_above : (w : Bool) (n : ℕ) (x : State) (p : Point State) → Fit n p.joined.state → Fit n x → Above n x p (updated A w p.updates p.joined.state x)
  unfolding updated
  updated_above w n x p f g = above_by _ n x p f g

  joined_met : (n k : ℕ) (x y : State) (p : Point State) → FitPoint Fit n p → Above n x p y → Met n x p (record p { joined = waiting A y; updates = k })
  joined_met n k x y p f a = record {
    grows = record {
      grown = λ m i. elim i [ inl s ↦ inl s | inr j ↦ inr (a.older m j) ];
      still = λ h b e. elim b [ inl s ↦ inl s | inr j ↦ absurd (waits y h j e) ];
    };
    fits = λ h b. elim b [ inl s ↦ f h (inl s) | inr j ↦ subst (λ (g : Held State). Fit n g.state) j a.fits ];
    met = λ m i. inr (a.newer m i);
  }

  pushed_by : (n slevel : ℕ) (w : Bool) (x : State) (p : Point State) → FitPoint Fit n p → Fit n x → (b c : Bool) → (A.is_bottom x || is_included A x p) ≡ b
      → Met n x p (if b then p else if c then record p { separate = p.separate ++ waiting A x ∷ [] } else record p { joined = waiting A (updated A w p.updates p.joined.state x); updates = min (p.updates + 1) 3 })
  pushed_by n slevel w x p f g true c e = skip_met n x p f g e
  pushed_by n slevel w x p f g false true e = separate_met n x p f g
  pushed_by n slevel w x p f g false false e = joined_met n _ x (updated A w p.updates p.joined.state x) p f (updated_above w n x p (f p.joined (inr refl)) g)

  pub pushed_met : (n slevel : ℕ) (w : Bool) (x : State) (p : Point State) → FitPoint Fit n p → Fit n x → Met n x p (pushed A slevel w x p)
  unfolding pushed
  pushed_met n slevel w x p f g = pushed_by n slevel w x p f g _ _ refl

  -- ---- the points of a function

  grown_self : (o : Option (Point State)) → GrownAt Member o o
  grown_self None = tt
  grown_self (Some p) = same_grown p

  grown_trans : (a b c : Option (Point State)) → GrownAt Member a b → GrownAt Member b c → GrownAt Member a c
  grown_trans None None c g h = h
  grown_trans None (Some q) c g h = absurd g
  grown_trans (Some p) None c g h = absurd g
  grown_trans (Some p) (Some q) None g h = h
  grown_trans (Some p) (Some q) (Some r) g h = record {
    grown = λ m i. h.grown m (g.grown m i);
    still = λ k a e. g.still k (h.still k a e) e;
  }

  in_grown : (m : Memory) (a b : Option (Point State)) → GrownAt Member a b → InAt Member m a → InAt Member m b
  in_grown m None b g i = absurd i
  in_grown m (Some p) None g i = absurd g
  in_grown m (Some p) (Some q) g i = g.grown m i

  pub at_grown : (ps qs : List (Point State)) (n : ℕ) (m : Memory) → GrownAll Member ps qs → At Member ps n m → At Member qs n m
  at_grown ps qs n m g i = in_grown m (slice_get ps n) (slice_get qs n) (g n) i

  -- what one push does
  pub record Pushed (ps qs : List (Point State)) (t : ℕ) (x : State) : Type 0 where
    pub grown : GrownAll Member ps qs
    pub fits : FitAll Fit qs
    pub long : length qs ≡ length ps
    pub met : (m : Memory) → t < length ps → Member m x → At Member qs t m

  set_pushed : (ps : List (Point State)) (t : ℕ) (x : State) (p q : Point State) → FitAll Fit ps → slice_get ps t ≡ Some p → Met t x p q → Pushed ps (slice_set ps t q) t x
  set_pushed ps t x p q f e g =
      let here : slice_get (slice_set ps t q) t ≡ Some q = get_same ps t p q e in
      record {
        grown = λ i. elim (same_or_not t i) [
          | inl s ↦ subst (λ j. GrownAt Member (slice_get ps j) (slice_get (slice_set ps t q) j)) s (rw (here, e) g.grows)
          | inr d ↦ let same : slice_get (slice_set ps t q) i ≡ slice_get ps i = get_other ps t i q d in rw same (grown_self (slice_get ps i))
        ];
        fits = λ i. elim (same_or_not t i) [
          | inl s ↦ subst (λ j. FitAt Fit j (slice_get (slice_set ps t q) j)) s (rw here g.fits)
          | inr d ↦ let same : slice_get (slice_set ps t q) i ≡ slice_get ps i = get_other ps t i q d in rw same (f i)
        ];
        long = length-set ps t q;
        met = λ m l i. rw here (g.met m i);
      }

  in_pushed : (slevel : ℕ) (w : Bool) (ps : List (Point State)) (t : ℕ) (x : State) (o : Option (Point State)) → FitAll Fit ps → Fit t x → slice_get ps t ≡ o → Pushed ps (push_in A slevel w ps t x o) t x
  in_pushed slevel w ps t x None f g e = record {
    grown = λ i. grown_self (slice_get ps i);
    fits = f;
    long = refl;
    met = λ m l i. let z = some_within ps t l in let q : None ≡ Some z.0 = sym e ∙ z.1 in cc;
  }
  in_pushed slevel w ps t x (Some p) f g e =
      let h : FitPoint Fit t p = subst (λ o. FitAt Fit t o) e (f t) in
      set_pushed ps t x p (pushed A slevel w x p) f e (pushed_met t slevel w x p h g)

  pub to_pushed : (slevel : ℕ) (w : Bool) (ps : List (Point State)) (t : ℕ) (x : State) → FitAll Fit ps → Fit t x → Pushed ps (push_to A slevel w ps t x) t x
  unfolding push_to
  to_pushed slevel w ps t x f g = in_pushed slevel w ps t x (slice_get ps t) f g refl

  pub push_in_fits : (slevel : ℕ) (w : Bool) (ps : List (Point State)) (t : ℕ) (x : State) → FitAll Fit ps → Fit t x → FitAll Fit (push_to A slevel w ps t x)
  push_in_fits slevel w ps t x f g = (to_pushed slevel w ps t x f g).fits

  module _ (slevel : ℕ) (nodes : List Node) where
    pub push_pushed : (ps : List (Point State)) (t : ℕ) (x : State) → FitAll Fit ps → Fit t x → Pushed ps (push A slevel nodes ps t x) t x
    push_pushed ps t x f g = to_pushed slevel (is_widening_point nodes t) ps t x f g

    -- what pushes along edges do
    pub record PushedAlong (ps qs : List (Point State)) (ts : List ℕ) (xs : List State) : Type 0 where
      pub grown : GrownAll Member ps qs
      pub fits : FitAll Fit qs
      pub long : length qs ≡ length ps
      pub met : (k t : ℕ) (x : State) (m : Memory) → slice_get ts k ≡ Some t → slice_get xs k ≡ Some x → t < length ps → Member m x → At Member qs t m

    -- the states fit at the ends of their edges
    abbrev pub FitAlong : List ℕ → List State → Type 0
    FitAlong ts xs = (k t : ℕ) (x : State) → slice_get ts k ≡ Some t → slice_get xs k ≡ Some x → Fit t x

    none_pushed : (ps : List (Point State)) (ts : List ℕ) (xs : List State) → FitAll Fit ps → ((k t : ℕ) (x : State) → slice_get ts k ≡ Some t → slice_get xs k ≡ Some x → ⊥) → PushedAlong ps ps ts xs
    none_pushed ps ts xs f none = record {
      grown = λ i. grown_self (slice_get ps i);
      fits = f;
      long = refl;
      met = λ k t x m a b l i. absurd (none k t x a b);
    }

    pub along_pushed : (ps : List (Point State)) (ts : List ℕ) (xs : List State) → FitAll Fit ps → FitAlong ts xs → PushedAlong ps (push_along A slevel nodes ps ts xs) ts xs
    along_pushed ps [] xs f g = none_pushed ps [] xs f (λ k t x a b. cc)
    along_pushed ps (u ∷ ts) [] f g = none_pushed ps (u ∷ ts) [] f (λ k t x a b. cc)
    along_pushed ps (u ∷ ts) (y ∷ xs) f g =
        let qs : List (Point State) = push A slevel nodes ps u y in
        let rs : List (Point State) = push_along A slevel nodes qs ts xs in
        let one = push_pushed ps u y f (g zero u y refl refl) in
        let more = along_pushed qs ts xs one.fits (λ k t x a b. g (suc k) t x a b) in
        let met : (k t : ℕ) (x : State) (m : Memory) → slice_get (u ∷ ts) k ≡ Some t → slice_get (y ∷ xs) k ≡ Some x → t < length ps → Member m x → At Member rs t m =
        λ k. elim k as (λ k. (t : ℕ) (x : State) (m : Memory) → slice_get (u ∷ ts) k ≡ Some t → slice_get (y ∷ xs) k ≡ Some x → t < length ps → Member m x → At Member rs t m) [
          | zero ↦ λ t x m a b l i.
              let p : u ≡ t = cc in
              let q : y ≡ x = cc in
              let here : At Member qs u m = one.met m (rw p l) (rw q i) in
              subst (λ v. At Member rs v m) p (at_grown qs rs u m more.grown here)
          | suc k ↦ λ t x m a b l i. more.met k t x m a b (let e : length qs ≡ length ps = one.long in omega arith) i
        ] in
        record {
          grown = λ i. grown_trans (slice_get ps i) (slice_get qs i) (slice_get rs i) (one.grown i) (more.grown i);
          fits = more.fits;
          long = more.long ∙ one.long;
          met = met;
        }
