-- The join of a list of states has the members of each.
use Rattle.std.proofs.Common.{◌≡◌, ℕ, zero, suc, refl, ap, List, [], ◌∷◌, ◌++◌, map, Some, None, slice_get, inl, inr, ◌⊎◌}
use Rattle.std.specs.Prelude.{slice_index_or}
use Rattle.lone_run.specs.Analysis.{Analysis}
use Rattle.lone_run.specs.Points.{Held, Point, joined_from, join_all, node_state}
use Rattle.lone_run.proofs.Pushes.{Among, AmongPoint, InStates, InPoint}

pub slice_get_map : {X Y : Type 0} (g : X → Y) (xs : List X) (i : ℕ) (d : Y) (x : X) → slice_get xs i ≡ Some x → slice_index_or (map g xs) i d ≡ g x
slice_get_map g [] i d x e = cc
slice_get_map g (y ∷ ys) zero d x e = let q : y ≡ x = cc in ap g q
slice_get_map g (y ∷ ys) (suc i) d x e = slice_get_map g ys i d x e

pub slice_get_past : {X Y : Type 0} (g : X → Y) (xs : List X) (i : ℕ) (d : Y) → slice_get xs i ≡ None → slice_index_or (map g xs) i d ≡ d
slice_get_past g [] i d e = refl
slice_get_past g (y ∷ ys) zero d e = cc
slice_get_past g (y ∷ ys) (suc i) d e = slice_get_past g ys i d e

abbrev pub AllFit : {State : Type 0} → (State → Type 0) → List State → Type 0
AllFit Fit [] = Unit {0}
AllFit Fit (x ∷ xs) = Fit x × AllFit Fit xs

abbrev pub InSome : {State Memory : Type 0} → (Memory → State → Type 0) → Memory → List State → Type 0
InSome Member m [] = ⊥
InSome Member m (x ∷ xs) = Member m x ⊎ InSome Member m xs

-- what joins need of states
pub record JoinsKeep {State Memory : Type 0} (A : Analysis State) (Member : Memory → State → Type 0) (Fit : State → Type 0) : Type 0 where
  pub bottom_fits : Fit A.bottom
  pub join_fits : (x y : State) → Fit x → Fit y → Fit (A.join x y)
  pub join_older : (x y : State) (m : Memory) → Fit x → Fit y → Member m x → Member m (A.join x y)
  pub join_newer : (x y : State) (m : Memory) → Fit x → Fit y → Member m y → Member m (A.join x y)

module _ {State Memory : Type 0} (A : Analysis State) (Member : Memory → State → Type 0) (Fit : State → Type 0) (J : JoinsKeep A Member Fit) where
  from_fits : (x : State) (xs : List State) → Fit x → AllFit Fit xs → Fit (joined_from A x xs)
  from_fits x [] f g = f
  from_fits x (y ∷ ys) f g = from_fits (A.join x y) ys (J.join_fits x y f g.0) g.1

  from_member : (m : Memory) (x : State) (xs : List State) → Fit x → AllFit Fit xs → Member m x ⊎ InSome Member m xs → Member m (joined_from A x xs)
  from_member m x [] f g (inl i) = i
  from_member m x [] f g (inr i) = absurd i
  from_member m x (y ∷ ys) f g (inl i) = from_member m (A.join x y) ys (J.join_fits x y f g.0) g.1 (inl (J.join_older x y m f g.0 i))
  from_member m x (y ∷ ys) f g (inr (inl i)) = from_member m (A.join x y) ys (J.join_fits x y f g.0) g.1 (inl (J.join_newer x y m f g.0 i))
  from_member m x (y ∷ ys) f g (inr (inr i)) = from_member m (A.join x y) ys (J.join_fits x y f g.0) g.1 (inr i)

  pub join_all_fits : (xs : List State) → AllFit Fit xs → Fit (join_all A xs)
  unfolding join_all
  join_all_fits xs g = from_fits A.bottom xs J.bottom_fits g

  pub join_all_member : (m : Memory) (xs : List State) → AllFit Fit xs → InSome Member m xs → Member m (join_all A xs)
  unfolding join_all
  join_all_member m xs g i = from_member m A.bottom xs J.bottom_fits g (inr i)

  -- ---- the state of a node

  states_fit : (hs : List (Held State)) (x : State) → ((h : Held State) → Among h hs → Fit h.state) → Fit x → AllFit Fit (map (λ h. h.state) hs ++ x ∷ [])
  states_fit [] x g f = (f, tt)
  states_fit (h ∷ hs) x g f = (g h (inl refl), states_fit hs x (λ k a. g k (inr a)) f)

  states_in : (m : Memory) (hs : List (Held State)) (x : State) → InStates Member m hs ⊎ Member m x → InSome Member m (map (λ h. h.state) hs ++ x ∷ [])
  states_in m [] x (inl i) = absurd i
  states_in m [] x (inr i) = inl i
  states_in m (h ∷ hs) x (inl (inl i)) = inl i
  states_in m (h ∷ hs) x (inl (inr i)) = inr (states_in m hs x (inl i))
  states_in m (h ∷ hs) x (inr i) = inr (states_in m hs x (inr i))

  pub node_fits : (p : Point State) → ((h : Held State) → AmongPoint h p → Fit h.state) → Fit (node_state A p)
  node_fits p g = join_all_fits _ (states_fit p.separate p.joined.state (λ h a. g h (inl a)) (g p.joined (inr refl)))

  pub node_member : (m : Memory) (p : Point State) → ((h : Held State) → AmongPoint h p → Fit h.state) → InPoint Member m p → Member m (node_state A p)
  node_member m p g i = join_all_member m _ (states_fit p.separate p.joined.state (λ h a. g h (inl a)) (g p.joined (inr refl))) (states_in m p.separate p.joined.state i)
