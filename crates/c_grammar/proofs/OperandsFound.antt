-- An operand whose first word was taken is read: a length behind its `*`, and an expression statement behind a name.
use Rattle.std.proofs.Common.{◌≡◌, ℕ, zero, suc, ◌<◌, ◌≤◌, ◌⊎◌, inl, inr, Bool, true, false, Ok, Err, refl, sym, ap, ◌∙◌, subst, arith}
use Rattle.std.proofs.lemmas.Bool.Decides.{nat_tests}
use Rattle.c_tree.specs.declared.tree.Ex.{Ex}
use Rattle.c_tree.specs.declared.tree.ExForm.TheVariants as form
use Rattle.c_expressions.specs.declared.grown.Grown.{Grown}
use Rattle.c_input.specs.declared.word.Sign.{Sign}
use Rattle.c_input.specs.declared.word.Sign.TheVariants as sign
use Rattle.c_input.specs.declared.word.Place.{Place as State}
use Rattle.c_input.specs.Input.{Words, step, look_at, binds, begins_expression}
use Rattle.c_input.specs.Parser.{too_deep, Outcome, Parser, and_then, ◌>>=◌, pure, look, stop_by, too_deep_here}
use Rattle.c_expressions.specs.Nest.{Nest}
use Rattle.c_expressions.specs.Levels.{continues, nest}
use Rattle.c_expressions.specs.Expressions.{is_star, over, unary, first_by, first, climb, expression, after_name, star_by, from_star}
use Rattle.c_grammar.proofs.Leads.{Leads, leads_trans, expect_found, climb_stops}
use Rattle.c_grammar.proofs.LeadsLists.{no_room_is}
use Rattle.c_grammar.proofs.ExpressionsFound.{FoundEx, Behind, is_apart}

then_on : {A B C : Type 0} (W : Words) (o : Outcome A) (g : A → B) (f : B → Parser C) → and_then W (and_then W o (λ a. pure (g a))) f ≡ and_then W o (λ a. f (g a))
then_on W (Ok x) g f = refl
then_on W (Err e) g f = refl

star_is : (q : Sign) → begins_expression q ≡ true → (sub : Nest) (room at : ℕ) (alone : Bool) →
    star_by sub room at alone q ≡ (sub.expr 14 >>= (λ e. climb sub room 2 room at (over at (form.Unary e.tree) e.height 15)))
star_is sign.CloseBracket e sub room at alone = absurd (cc)
star_is _ e sub room at true = refl
star_is _ e sub room at false = refl

module _ (horizon : ℕ) (W : Words) where
  first_is : (s : State) (q : Sign) → look_at W s ≡ q → (sub : Nest) (l' : ℕ) → first sub l' W s ≡ first_by sub l' s.at q W s
  unfolding first
  first_is s q e sub l' = ap (λ q. first_by sub l' s.at q W s) e

  star_expression : (s : State) (n : ℕ) (alone : Bool) → look_at W s ≡ sign.Star → begins_expression (look_at W (step s)) ≡ true →
      expression (nest n) (suc n) 2 W s ≡ from_star (nest n) (suc n) alone W s
  unfolding expression unary from_star
  star_expression s n alone star begun =
      ap (λ o. and_then W o (climb (nest n) (suc n) 2 (suc n) s.at)) (first_is s sign.Star star (nest n) 2)
      ∙ then_on W ((nest n).expr 14 W (step s)) (λ (e : Grown). over s.at (form.Unary e.tree) e.height 15) (climb (nest n) (suc n) 2 (suc n) s.at)
      ∙ sym (ap (λ o. and_then W o (λ _. look (star_by (nest n) (suc n) s.at alone))) (expect_found is_star W s (ap is_star star))
      ∙ ap (λ (p : Parser Grown). p W (step s)) (star_is (look_at W (step s)) begun (nest n) (suc n) s.at alone))

  -- a length that begins with `*`
  pub starred_part : (r : ℕ) (e : Ex) (s t : State) (f : FoundEx horizon W r 2 e s t) (n : ℕ) (alone : Bool) → (0 < horizon → r ≤ n) → Behind W t 2 → look_at W s ≡ sign.Star →
      Leads horizon ((nest n).starred alone W s) (Ok (f.grown, t))
  unfolding nest too_deep_here
  starred_part r e s t f zero alone more follow star = inr (s.at, ap Err (ap (λ q. stop_by q s.at (too_deep s.at)) star), late)
    where
      late : horizon ≤ s.at
      late = let x = f.roomy in grind arith
  starred_part r e s t f (suc n) alone more follow star =
      subst (λ o. Leads horizon o (Ok (f.grown, t))) (star_expression s n alone star (f.front.starred star))
      (leads_trans horizon _ _ _ (f.leads n 2 more (let x = f.least in omega arith) (omega arith) (f.edge 2 (let x = f.least in omega arith) (omega arith) (look_at W t) follow.0, follow.1))
      (inl (climb_stops (nest n) (suc n) 2 (suc n) s.at f.grown W t follow.0)))

  name_expression : (s : State) (n : ℕ) → look_at W s ≡ sign.Name → expression (nest n) (suc n) 1 W s ≡ after_name (nest n) (suc n) s.at W (step s)
  unfolding expression after_name
  name_expression s n name = ap (λ o. and_then W o (climb (nest n) (suc n) 1 (suc n) s.at)) (first_is s sign.Name name (nest n) 1)

  binds_continues : (q : Sign) → 1 ≤ binds q → continues q ≡ true
  binds_continues sign.Semicolon le = refl
  binds_continues _ le = grind (arith, nat_tests)

  -- an expression behind the name that it begins with, before its semicolon
  pub named_part : (r : ℕ) (e : Ex) (s t : State) (f : FoundEx horizon W r 1 e s t) (n : ℕ) → (0 < horizon → r ≤ n) → look_at W t ≡ sign.Semicolon → look_at W s ≡ sign.Name →
      Leads horizon ((nest n).named s.at W (step s)) (Ok (f.grown, t))
  unfolding nest
  named_part r e s t f zero more end name = inr (suc s.at, no_room_is continues refl W (step s) (on (f.front.named name)), late)
    where
      on : (step s ≡ t) ⊎ (1 ≤ binds (look_at W (step s))) → continues (look_at W (step s)) ≡ true
      on (inl same) = ap (λ u. continues (look_at W u)) same ∙ ap continues end
      on (inr one) = binds_continues (look_at W (step s)) one

      late : horizon ≤ suc s.at
      late = let x = f.roomy in grind arith
  named_part r e s t f (suc n) more end name =
      let low : binds (look_at W t) ≡ 0 = ap binds end in
      subst (λ o. Leads horizon o (Ok (f.grown, t))) (name_expression s n name)
      (leads_trans horizon _ _ _ (f.leads n 1 more (let x = f.least in omega arith) (omega arith)
      (f.edge 1 (let x = f.least in omega arith) (omega arith) (look_at W t) (omega arith), ap is_apart end))
      (inl (climb_stops (nest n) (suc n) 1 (suc n) s.at f.grown W t (omega arith))))
