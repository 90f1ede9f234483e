-- The last step: the workers' homes, gathered and sorted, are what all of them did.
use Rattle.std.proofs.Common.{◌≡◌, ℕ, suc, ◌+◌, ◌-◌, ◌<◌, ◌≤◌, Bool, List, [], ◌∷◌, ◌++◌, length, map, cond, eqb, get_or, refl, sym, ap, subst, ◌∙◌, arith}
use Rattle.std.specs.Prelude.{Result, Ok, Err}
use Rattle.std.specs.List.{All, sum_by}
use Rattle.std.specs.List.Sorted.{IsPermutation, IsNonDecreasingBy}
use Rattle.std.proofs.lemmas.List.{length-map, get_or-map}
use Rattle.std.proofs.lemmas.Simd.{map-map}
use Rattle.std.proofs.lemmas.List.Sums.{sum_by-cons}
use Rattle.std.proofs.lemmas.List.Sorted.{sum_by-IsPermutation}
use Rattle.atomic_table.specs.Seated.{TableId}
use Rattle.store_api.specs.Tree.{Tree}
use Rattle.store_api.specs.Bag.{Bag}
use Rattle.entry_workers.specs.declared.work.Drawn.{Drawn}
use Rattle.entry_workers.specs.declared.work.Home.{Home}
use Rattle.entry_workers.specs.declared.work.Worker.{Worker}
use Rattle.entry_workers.specs.declared.draws.Hand.{Hand}
use Rattle.entry_workers.specs.Drawing.{all_parts}
use Rattle.entry_workers.specs.Lists.{total, times, once_below, joined}
use Rattle.entry_workers.specs.Working.{CameHome, Gathered, Labored, Worked}
use Rattle.entry_workers.proofs.Gathering.{AllServed, parts-of, worked}

total-sum : {X : Type 0} (f : X → ℕ) (xs : List X) → total f xs ≡ sum_by f xs
total-sum f [] = refl
total-sum f (x ∷ xs) = ap (λ k. f x + k) (total-sum f xs) ∙ sym (sum_by-cons f x xs)

total-map : {X Y : Type 0} (f : Y → ℕ) (h : X → Y) (xs : List X) → total f (map h xs) ≡ total (λ x. f (h x)) xs
total-map f h [] = refl
total-map f h (x ∷ xs) = ap (λ k. f (h x) + k) (total-map f h xs)

same-times : {R : Type 0} (ds es : List (Drawn R)) → IsPermutation ds es → (x : ℕ) → times x (map (λ (d : Drawn R). d.index) es) ≡ times x (map (λ (d : Drawn R). d.index) ds)
same-times {R} ds es perm x = let f : Drawn R → ℕ = λ d. cond {A = ℕ} (eqb d.index x) 1 0 in let bit : ℕ → ℕ = λ y. cond {A = ℕ} (eqb y x) 1 0 in
    total-map bit (λ (d : Drawn R). d.index) es ∙ (total-sum f es ∙ (sum_by-IsPermutation f ds es perm ∙ (sym (total-sum f ds) ∙ sym (total-map bit (λ (d : Drawn R). d.index) ds))))

-- what holds of all passes holds of each worker's
pub ready-workers : {X Y : Type 0} (P : Y → Type 0) (f : X → Y) (xs : List X) (ys : List Y) → map f xs ≡ ys → All P ys → All (λ x. P (f x)) xs
ready-workers P f xs ys same all k d less = let m = length-map xs f in let long = ap length same in
    subst P (get_or-map f xs k d (f d) less) (subst (λ (l : List _). P (get_or l k (f d))) (sym same) (all k (f d) (omega arith)))

module _ {S R E : Type 0} (held : R → ℕ → ℕ) (promised : ℕ → R → (ℕ → Tree) → Type 0) (halted : R → Bool) (bag : S → Bag) (t : TableId) (n : ℕ) where
  abbrev pub EachLabored : List (Worker S) → List (Result (Home S R) E) → Type 0
  EachLabored ws rs = (i : ℕ) (w : Worker S) (d : Result (Home S R) E) → i < length ws → Labored held promised halted bag t n (get_or ws i w) (get_or rs i d)

  came : (w : Worker S) (r : Result (Home S R) E) → Labored held promised halted bag t n w r → CameHome t r
  came w (Ok h) l = (l.0, l.1)
  came w (Err e) l = tt

  pub all-came : (ws : List (Worker S)) (rs : List (Result (Home S R) E)) → length rs ≡ length ws → EachLabored ws rs → All (CameHome t) rs
  all-came [] rs same l k d less = absurd (omega arith)
  all-came (w ∷ ws) rs same l k d less = came (get_or (w ∷ ws) k w) (get_or rs k d) (l k w d (omega arith))

  all-served : (ws : List (Worker S)) (hs : List (Home S R)) → length hs ≡ length ws → EachLabored ws (map Ok hs) → AllServed held promised halted bag n (map (λ (w : Worker S). bag w.pass) ws) hs
  all-served [] [] same l = tt
  all-served [] (h ∷ hs) same l = absurd (omega arith)
  all-served (w ∷ ws) [] same l = absurd (omega arith)
  all-served (w ∷ ws) (h ∷ hs) same l = ((l 0 w (Ok h) (omega arith)).2, all-served ws hs (omega arith) (λ i v d less. l (suc i) v d (omega arith)))

  homes-served : (ws : List (Worker S)) (rs : List (Result (Home S R) E)) (hs : List (Home S R)) → rs ≡ map Ok hs → length rs ≡ length ws → EachLabored ws rs
      → (length hs ≡ length ws) × AllServed held promised halted bag n (map (λ (w : Worker S). bag w.pass) ws) hs
  homes-served ws rs hs all same l = let long = ap length all in let wrap : Home S R → Result (Home S R) E = λ h. Ok h in let m = length-map hs wrap in let e : length hs ≡ length ws = omega arith in
      (e, all-served ws hs e (subst (λ k. EachLabored ws k) all l))

  -- the maker has all parts again
  pub all-again : (ws : List (Worker S)) (rs : List (Result (Home S R) E)) (old new : Hand) (passes : List S) (drawn : List (Drawn R)) → length rs ≡ length ws → EachLabored ws rs
      → Gathered rs old new passes drawn → old.parts ≡ all_parts - length ws → length ws ≤ all_parts → new.parts ≡ all_parts
  all-again ws rs old new passes drawn same l g parts few = let s = homes-served ws rs g.come g.all same l in
      let p = parts-of held promised halted bag n (map (λ (w : Worker S). bag w.pass) ws) g.come s.1 in let e = s.0 in let q = g.parts in omega arith

  pub all-worked : (ws : List (Worker S)) (rs : List (Result (Home S R) E)) (old new : Hand) (before after : List S) (drawn es : List (Drawn R)) (results : List R) (word : ℕ)
      → map (λ (w : Worker S). w.pass) ws ≡ before → 0 < length before → length rs ≡ length ws → EachLabored ws rs
      → Gathered rs old new after drawn → old.drawn ≡ [] → ((x : ℕ) → times x new.drawn ≡ once_below x word)
      → IsPermutation drawn es → IsNonDecreasingBy (λ (d : Drawn R). d.index) es → results ≡ map (λ (d : Drawn R). d.result) es
      → Worked held promised halted n (map bag before) (map bag after) results
  all-worked ws rs old new before after drawn es results word hired some_pass same l g idle learned perm sorted told =
      let s = homes-served ws rs g.come g.all same l in let count = ap length hired in let m = length-map ws (λ (w : Worker S). w.pass) in let e = s.0 in
      let hands : new.drawn ≡ joined (λ (h : Home S R). h.drawer.me.0.drawn) g.come = g.draws ∙ ap (λ k. k ++ joined (λ (h : Home S R). h.drawer.me.0.drawn) g.come) idle in
      let w = worked held promised halted bag n word (map (λ (v : Worker S). bag v.pass) ws) g.come es (omega arith) s.1 (λ x. ap (times x) (sym hands) ∙ learned x)
      (subst (λ k. IsPermutation k es) g.results perm) (λ x. same-times _ es (subst (λ k. IsPermutation k es) g.results perm) x) sorted in
      let bags : map (λ (v : Worker S). bag v.pass) ws ≡ map bag before = sym (map-map bag (λ (v : Worker S). v.pass) ws) ∙ ap (map bag) hired in
      let left : map (λ (h : Home S R). bag h.pass) g.come ≡ map bag after = sym (map-map bag (λ (h : Home S R). h.pass) g.come) ∙ ap (map bag) (sym g.passed) in
      subst (λ k. Worked held promised halted n (map bag before) (map bag after) k) (sym told)
      (subst (λ k. Worked held promised halted n (map bag before) k (map (λ (d : Drawn R). d.result) es)) left
      (subst (λ k. Worked held promised halted n k (map (λ (h : Home S R). bag h.pass) g.come) (map (λ (d : Drawn R). d.result) es)) bags w))
