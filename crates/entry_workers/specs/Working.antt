-- What the workers leave when all indexes are done.
use Rattle.std.specs.Prelude.{ℕ, ◌+◌, ◌-◌, ◌^◌, ◌<◌, ◌≤◌, ◌≡◌, Bool, List, [], ◌∷◌, ◌++◌, cond, length, min, map}
use mathlib.Core.Option.{some}
use lib.ListN.{get_elem?}
use Rattle.store_api.specs.Tree.{Tree}
use Rattle.store_api.specs.Bag.{Bag, Trades, none}
use Rattle.std.specs.Prelude.{Result, Ok, Err}
use Rattle.atomic_table.specs.Seated.{TableId}
use Rattle.entry_workers.specs.declared.work.Drawn.{Drawn}
use Rattle.entry_workers.specs.declared.work.Worker.{Worker}
use Rattle.entry_workers.specs.declared.work.Home.{Home}
use Rattle.entry_workers.specs.declared.draws.Hand.{Hand}
use Rattle.entry_workers.specs.Drawing.{hand}
use Rattle.entry_workers.specs.Lists.{total, times, once_below, joined, measured, Each}

module _ {R : Type 0} (held : R → ℕ → ℕ) (promised : ℕ → R → (ℕ → Tree) → Type 0) (halted : R → Bool) where
  abbrev pub one_if_halted : R → ℕ
  one_if_halted r = cond (halted r) 1 0

  -- the result is promised for the index with the trees of its holds, and the bag has them
  pub record Stands (bag : Bag) (index : ℕ) (r : R) : Type 0 where
    pub trees : ℕ → Tree
    pub promise : promised index r trees
    pub holds : (x : ℕ) → 0 < held r x → 0 < bag.count x
    pub same : (x : ℕ) → 0 < held r x → bag.tree x ≡ trees x

  -- a pass before and after, and the indexes that its worker drew: it has the holds of their results besides its own
  pub record Ran (results : List R) (before after : Bag) (share : List ℕ) : Type 0 where
    pub holds : Trades before after none (λ x. total (measured (λ r. held r x) results) share)
    pub stops : min (before.stops + total (measured one_if_halted results) share) (2 ^ 64 - 1) ≤ after.stops
    pub stand : (i : ℕ) (r : R) → 0 < times i share → get_elem? results i ≡ some r → Stands after i r

  -- each index below n was drawn once and has its result at its place
  pub record Worked (n : ℕ) (before after : List Bag) (results : List R) : Type 0 where
    pub shares : List (List ℕ)
    pub once : (x : ℕ) → times x (joined (λ share. share) shares) ≡ once_below x n
    pub count : length results ≡ n
    pub passes : Each (Ran results) before after shares

  abbrev pub AllStand : Bag → List (Drawn R) → Type 0
  AllStand bag [] = Unit {0}
  AllStand bag (d ∷ ds) = Stands bag d.index d.result × AllStand bag ds

  -- one worker's work so far: its draws are the indexes below n that it has done, and one more, the next
  pub record Serving (n : ℕ) (before after : Bag) (drawer : Hand) (drawn : List (Drawn R)) (next : ℕ) : Type 0 where
    pub holds : Trades before after none (λ x. total (λ d. held d.result x) drawn)
    pub stops : min (before.stops + total (λ d. one_if_halted d.result) drawn) (2 ^ 64 - 1) ≤ after.stops
    pub stand : AllStand after drawn
    pub below : (x : ℕ) → n ≤ x → times x (map (λ d. d.index) drawn) ≡ 0
    pub drew : drawer ≡ hand 1 (map (λ d. d.index) drawn ++ next ∷ [])

  -- one worker's work: its last draw is not below n
  pub record Served (n : ℕ) (before after : Bag) (drawer : Hand) (drawn : List (Drawn R)) : Type 0 where
    pub last : ℕ
    pub past : n ≤ last
    pub work : Serving n before after drawer drawn last

-- a worker before its first draw, at the counter t
pub record Idle {S : Type 0} (t : TableId) (w : Worker S) : Type 0 where
  pub counter : w.drawer.table_id ≡ t
  pub idle : w.drawer.me ≡ (hand 1 [], [])

-- a worker's work: where it came home, it has a seat at the counter t and has served
abbrev pub Labored : {S R E : Type 0} → (R → ℕ → ℕ) → (ℕ → R → (ℕ → Tree) → Type 0) → (R → Bool) → (S → Bag) → TableId → ℕ → Worker S → Result (Home S R) E → Type 0
Labored held promised halted bag t n w (Ok h) = (h.drawer.table_id ≡ t) × (h.drawer.me.1 ≡ []) × Served held promised halted n (bag w.pass) (bag h.pass) h.drawer.me.0 h.drawn.items
Labored held promised halted bag t n w (Err e) = Unit {0}

-- a worker that came home has a seat at the counter t
abbrev pub CameHome : {S R E : Type 0} → TableId → Result (Home S R) E → Type 0
CameHome t (Ok h) = (h.drawer.table_id ≡ t) × (h.drawer.me.1 ≡ [])
CameHome t (Err e) = Unit {0}

-- what all workers brought home, in their order
pub record Gathered {S R E : Type 0} (homes : List (Result (Home S R) E)) (old new : Hand) (passes : List S) (drawn : List (Drawn R)) : Type 0 where
  pub come : List (Home S R)
  pub all : homes ≡ map Ok come
  pub passed : passes ≡ map (λ h. h.pass) come
  pub results : drawn ≡ joined (λ h. h.drawn.items) come
  pub parts : new.parts ≡ old.parts + total (λ h. h.drawer.me.0.parts) come
  pub draws : new.drawn ≡ old.drawn ++ joined (λ h. h.drawer.me.0.drawn) come
