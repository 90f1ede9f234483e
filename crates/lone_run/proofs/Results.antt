-- What the result of an entry keeps of its runs.
use Rattle.std.proofs.Common.{◌≡◌, ℕ, zero, suc, ◌+◌, ◌<◌, refl, ap, sym, ◌∙◌, subst, arith, List, [], ◌∷◌, ◌++◌, map, Some, Bool, true, false, ◌&&◌, ◌||◌, if◌then◌else◌, slice_get, nat_eq, inl, inr, ◌⊎◌}
use Rattle.std.specs.Prelude.{Contains}
use Rattle.program.specs.declared.graph.Function.{Function}
use Rattle.program.proofs.SiteSets.{contains_first, contains_here, contains_later, contains_empty, nat_eq_is}
use Rattle.lone_run.specs.Analysis.{Analysis}
use Rattle.lone_run.specs.Points.{join_all}
use Rattle.lone_run.specs.Lone.{Ended, of_function, is_reached, end_of, ends_from}
use Rattle.lone_run.proofs.Joins.{JoinsKeep, AllFit, InSome, join_all_member}

nat_eq_self : (m n : ℕ) → m ≡ n → nat_eq m n ≡ true
nat_eq_self m n e = grind arith

-- ---- joins over the runs of a function

module _ {State Memory : Type 0} (A : Analysis State) (slevel : ℕ) (functions : List Function) (Member : Memory → State → Type 0) (Fit : State → Type 0) (J : JoinsKeep A Member Fit) (f : ℕ) (g : Ended State → State) where
  abbrev kept_if : Bool → Ended State → List (Ended State) → List (Ended State)
  kept_if b e es = if b then e ∷ of_function A slevel functions es f else of_function A slevel functions es f

  runs_fit : (es : List (Ended State)) → ((e : Ended State) → Contains es e → e.fun ≡ f → Fit (g e)) → AllFit Fit (map g (of_function A slevel functions es f))
  runs_fit [] h = tt
  runs_fit (e ∷ es) h = by (nat_eq e.fun f) refl (runs_fit es (λ d c. h d (contains_later e d es c))) where
    by : (b : Bool) → nat_eq e.fun f ≡ b → AllFit Fit (map g (of_function A slevel functions es f)) → AllFit Fit (map g (kept_if b e es))
    by true q r = (h e (contains_here e es) (nat_eq_is e.fun f q), r)
    by false q r = r

  runs_in : (es : List (Ended State)) (m : Memory) (e : Ended State) → Contains es e → e.fun ≡ f → Member m (g e) → InSome Member m (map g (of_function A slevel functions es f))
  runs_in [] m e c q i = absurd (contains_empty e c)
  runs_in (d ∷ es) m e c q i = by (nat_eq d.fun f) refl (contains_first d e es c) (runs_in es m e) where
    by : (b : Bool) → nat_eq d.fun f ≡ b → (d ≡ e) ⊎ Contains es e → (Contains es e → e.fun ≡ f → Member m (g e) → InSome Member m (map g (of_function A slevel functions es f)))
        → InSome Member m (map g (kept_if b d es))
    by true r (inl s) h = inl (subst (λ (x : Ended State). Member m (g x)) (sym s) i)
    by true r (inr k) h = inr (h k q i)
    by false r (inl s) h = let t : nat_eq d.fun f ≡ true = nat_eq_self d.fun f (ap (λ (x : Ended State). x.fun) s ∙ q) in cc
    by false r (inr k) h = h k q i

  pub runs_member : (es : List (Ended State)) (m : Memory) (e : Ended State) → ((e : Ended State) → Contains es e → e.fun ≡ f → Fit (g e)) → Contains es e → e.fun ≡ f → Member m (g e)
      → Member m (join_all A (map g (of_function A slevel functions es f)))
  runs_member es m e h c q i = join_all_member A Member Fit J m _ (runs_fit es h) (runs_in es m e c q i)

-- ---- the functions reached

module _ {State : Type 0} (A : Analysis State) (slevel : ℕ) (functions : List Function) where
  pub reached : (es : List (Ended State)) (f : ℕ) (e : Ended State) → Contains es e → e.fun ≡ f → is_reached A slevel functions es f ≡ true
  reached [] f e c q = absurd (contains_empty e c)
  reached (d ∷ es) f e c q = by (nat_eq d.fun f) refl (contains_first d e es c) (reached es f e) where
    by : (b : Bool) → nat_eq d.fun f ≡ b → (d ≡ e) ⊎ Contains es e → (Contains es e → e.fun ≡ f → is_reached A slevel functions es f ≡ true) → (b || is_reached A slevel functions es f) ≡ true
    by true r s h = refl
    by false r (inl s) h = let t : nat_eq d.fun f ≡ true = nat_eq_self d.fun f (ap (λ (x : Ended State). x.fun) s ∙ q) in cc
    by false r (inr k) h = h k q

  abbrev ends_if : Bool → ℕ → List Function → List (Ended State) → List (ℕ × State)
  ends_if b i fs es = if b then (i, end_of A slevel functions es i) ∷ ends_from A slevel functions (i + 1) fs es else ends_from A slevel functions (i + 1) fs es

  pub ends_has : (fs : List Function) (i k : ℕ) (function : Function) (es : List (Ended State)) → slice_get fs k ≡ Some function → is_reached A slevel functions es (i + k) ≡ true
      → Contains (ends_from A slevel functions i fs es) (i + k, end_of A slevel functions es (i + k))
  ends_has [] i k function es e r = cc
  ends_has (g ∷ fs) i zero function es e r =
      let z : i + 0 ≡ i = omega arith in
      let q : is_reached A slevel functions es i ≡ true = subst (λ j. is_reached A slevel functions es j ≡ true) z r in
      subst (λ j. Contains (ends_from A slevel functions i (g ∷ fs) es) (j, end_of A slevel functions es j)) (sym z)
      (subst (λ b. Contains (ends_if b i fs es) (i, end_of A slevel functions es i)) (sym q) (contains_here (i, end_of A slevel functions es i) (ends_from A slevel functions (i + 1) fs es)))
  ends_has (g ∷ fs) i (suc k) function es e r =
      let z : i + 1 + k ≡ i + suc k = omega arith in
      let q : is_reached A slevel functions es (i + 1 + k) ≡ true = subst (λ j. is_reached A slevel functions es j ≡ true) (sym z) r in
      let there = ends_has fs (i + 1) k function es e q in
      let here : Contains (ends_from A slevel functions (i + 1) fs es) (i + suc k, end_of A slevel functions es (i + suc k)) =
      subst (λ j. Contains (ends_from A slevel functions (i + 1) fs es) (j, end_of A slevel functions es j)) z there in
      by (is_reached A slevel functions es i) here where
        by : (b : Bool) → Contains (ends_from A slevel functions (i + 1) fs es) (i + suc k, end_of A slevel functions es (i + suc k)) → Contains (ends_if b i fs es) (i + suc k, end_of A slevel functions es (i + suc k))
        by true h = contains_later (i, end_of A slevel functions es i) (i + suc k, end_of A slevel functions es (i + suc k)) (ends_from A slevel functions (i + 1) fs es) h
        by false h = h
