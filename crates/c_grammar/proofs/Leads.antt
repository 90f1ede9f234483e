-- An outcome that another leads to, but for a stop for depth behind the horizon.
use Rattle.std.proofs.Common.{◌≡◌, ℕ, zero, suc, ◌+◌, ◌<◌, ◌≤◌, ◌⊎◌, inl, inr, nat_lt, Bool, true, false, Ok, Err, refl, sym, ap, ◌∙◌, subst, arith}
use Rattle.std.proofs.lemmas.Bool.Decides.{nat_tests}
use Rattle.c_expressions.specs.declared.grown.Grown.{Grown}
use Rattle.c_input.specs.declared.word.Sign.{Sign}
use Rattle.c_input.specs.declared.word.Sign.TheVariants as sign
use Rattle.c_input.specs.declared.word.Place.{Place as State}
use Rattle.c_input.specs.Input.{Words, step, look_at, is_name, name_in, binds, wants}
use Rattle.c_input.specs.Parser.{too_deep, Outcome, Parser, and_then, ◌>>=◌, pure, skip, refuse, stop_by, too_deep_here, if_so, expect, any_name, take_name}
use Rattle.c_expressions.specs.Nest.{Nest}
use Rattle.c_expressions.specs.Expressions.{goes_on, longer, climb}
use Rattle.c_grammar.proofs.HeightRules.{AllGive, above_longer}

abbrev pub Leads : {A : Type 0} → ℕ → Outcome A → Outcome A → Type 0
Leads {A = A} horizon o o' = (o ≡ o') ⊎ ((at : ℕ) × (o ≡ Err (too_deep at)) × (horizon ≤ at))

pub leads_trans : {A : Type 0} (horizon : ℕ) (o p q : Outcome A) → Leads horizon o p → Leads horizon p q → Leads horizon o q
leads_trans horizon o p q (inl e) (inl f) = inl (e ∙ f)
leads_trans horizon o p q (inl e) (inr f) = inr (f.0, e ∙ f.1, f.2)
leads_trans horizon o p q (inr f) _ = inr f

pub leads_bind : {A B : Type 0} (horizon : ℕ) (W : Words) (o o' : Outcome A) (f : A → Parser B) → Leads horizon o o' → Leads horizon (and_then W o f) (and_then W o' f)
leads_bind horizon W o o' f (inl e) = inl (ap (λ x. and_then W x f) e)
leads_bind horizon W o o' f (inr e) = inr (e.0, ap (λ x. and_then W x f) e.1, e.2)

-- and then on
pub leads_on : {A B : Type 0} (horizon : ℕ) (W : Words) (o o' : Outcome A) (f : A → Parser B) (q : Outcome B) → Leads horizon o o' → Leads horizon (and_then W o' f) q →
    Leads horizon (and_then W o f) q
leads_on horizon W o o' f q a b = leads_trans horizon _ _ q (leads_bind horizon W o o' f a) b

-- ---- one word

pub expect_found : (is : Sign → Bool) (W : Words) (s : State) → is (look_at W s) ≡ true → expect is W s ≡ Ok (tt, step s)
unfolding expect
expect_found is W s e = ap (λ b. if_so b skip refuse W s) e

pub name_found : (W : Words) (s : State) → is_name (look_at W s) ≡ true → any_name W s ≡ Ok ((name_in (W s.at), s.at), step s)
unfolding any_name
name_found W s e = ap (λ b. if_so b take_name refuse W s) e

-- a stop for depth at a word that binds, or at one that begins a node
bound_deep : (q : Sign) (at : ℕ) → 1 ≤ binds q → stop_by q at (too_deep at) ≡ too_deep at
bound_deep sign.LeftOut at le = absurd (omega arith)
bound_deep _ at le = refl

pub begun_deep : (begins : Sign → Bool) → begins sign.LeftOut ≡ false → (q : Sign) (at : ℕ) → begins q ≡ true → stop_by q at (too_deep at) ≡ too_deep at
begun_deep begins none sign.LeftOut at e = absurd (cc)
begun_deep begins none _ at e = refl

-- ---- the bound on turns is never met

module _ (sub : Nest) where
  climb_deep : (room least n at : ℕ) (a : Grown) (W : Words) (s : State) → room ≤ a.height →
      climb sub room least n at a W s ≡ if_so (goes_on sub least a (look_at W s)) too_deep_here (pure a) W s
  unfolding climb
  climb_deep room least zero at a W s big = refl
  climb_deep room least (suc n) at a W s big = by (goes_on sub least a (look_at W s)) (nat_lt a.height room) (grind (arith, nat_tests))
    where
      by : (b c : Bool) → c ≡ false → if_so b (if_so c (longer sub at a (look_at W s) >>= climb sub room least n at) too_deep_here) (pure a) W s ≡ if_so b too_deep_here (pure a) W s
      by b true e = absurd (cc)
      by b false e = refl

  same_turns : (room least n m at : ℕ) (a : Grown) (W : Words) (s : State) → room ≤ n + a.height → room ≤ m + a.height →
      climb sub room least n at a W s ≡ climb sub room least m at a W s
  unfolding climb
  same_turns room least zero m at a W s p q = sym (climb_deep room least m at a W s (omega arith))
  same_turns room least (suc n) zero at a W s p q = climb_deep room least (suc n) at a W s (omega arith)
  same_turns room least (suc n) (suc m) at a W s p q =
      by (goes_on sub least a (look_at W s)) (nat_lt a.height room)
      (after (longer sub at a (look_at W s) W s) ((above_longer sub at a (look_at W s)).gives W s) (λ b t big. same_turns room least n m at b W t (omega arith) (omega arith)))
    where
      after : (o : Outcome Grown) → AllGive (λ b. suc a.height ≤ b.height) o → ((b : Grown) (t : State) → suc a.height ≤ b.height → climb sub room least n at b W t ≡ climb sub room least m at b W t) →
          and_then W o (climb sub room least n at) ≡ and_then W o (climb sub room least m at)
      after (Ok x) big f = f x.0 x.1 big
      after (Err e) big f = refl

      by : (b c : Bool) → and_then W (longer sub at a (look_at W s) W s) (climb sub room least n at) ≡ and_then W (longer sub at a (look_at W s) W s) (climb sub room least m at) →
          if_so b (if_so c (longer sub at a (look_at W s) >>= climb sub room least n at) too_deep_here) (pure a) W s
          ≡ if_so b (if_so c (longer sub at a (look_at W s) >>= climb sub room least m at) too_deep_here) (pure a) W s
      by true true e = e
      by true false e = refl
      by false c e = refl

  goes_on_true : (least : ℕ) (a : Grown) (q : Sign) → 1 ≤ binds q → least ≤ binds q → wants q ≤ a.level → goes_on sub least a q ≡ true
  goes_on_true least a q one low top = grind (arith, nat_tests)

  goes_on_false : (least : ℕ) (a : Grown) (q : Sign) → binds q < least → goes_on sub least a q ≡ false
  goes_on_false least a q under = grind (arith, nat_tests)

  -- nothing that follows belongs to it
  pub climb_stops : (room least n at : ℕ) (a : Grown) (W : Words) (s : State) → binds (look_at W s) < least → climb sub room least n at a W s ≡ Ok (a, s)
  unfolding climb
  climb_stops room least zero at a W s under = ap (λ b. if_so b too_deep_here (pure a) W s) (goes_on_false least a (look_at W s) under)
  climb_stops room least (suc n) at a W s under =
      ap (λ b. if_so b (if_so (nat_lt a.height room) (longer sub at a (look_at W s) >>= climb sub room least n at) too_deep_here) (pure a) W s) (goes_on_false least a (look_at W s) under)

  -- one production more around it
  pub climb_goes : (horizon room least n at : ℕ) (a b : Grown) (W : Words) (s t : State) → 1 ≤ binds (look_at W s) → least ≤ binds (look_at W s) → wants (look_at W s) ≤ a.level →
      (s.at < horizon → a.height < room) → room ≤ suc n + a.height → suc a.height ≤ b.height → Leads horizon (longer sub at a (look_at W s) W s) (Ok (b, t)) →
      Leads horizon (climb sub room least (suc n) at a W s) (climb sub room least room at b W t)
  unfolding climb too_deep_here
  climb_goes horizon room least n at a b W s t one low top fits turns grows on =
      subst (λ c. Leads horizon (if_so c (if_so (nat_lt a.height room) (longer sub at a (look_at W s) >>= climb sub room least n at) too_deep_here) (pure a) W s) (climb sub room least room at b W t))
      (sym (goes_on_true least a (look_at W s) one low top)) (by_room (nat_lt a.height room) refl)
    where
      by_room : (c : Bool) → nat_lt a.height room ≡ c →
          Leads horizon (if_so c (longer sub at a (look_at W s) >>= climb sub room least n at) too_deep_here W s) (climb sub room least room at b W t)
      by_room true e = leads_on horizon W (longer sub at a (look_at W s) W s) (Ok (b, t)) (climb sub room least n at) _ on
          (inl (same_turns room least n room at b W t (omega arith) (omega arith)))
      by_room false e = inr (s.at, ap Err (bound_deep (look_at W s) s.at one), late)
        where
          late : horizon ≤ s.at
          late = grind (arith, nat_tests)
