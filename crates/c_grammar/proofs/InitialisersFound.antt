-- Each tree of an initialiser is read, or a stop for depth behind the horizon comes first.
use Rattle.std.proofs.Common.{◌≡◌, ℕ, zero, suc, ◌+◌, ◌-◌, ◌<◌, ◌≤◌, inl, inr, Bool, true, false, List, [], ◌∷◌, Option, Some, None, Ok, refl, sym, ap, ◌∙◌, subst, arith}
use Rattle.c_tree.specs.declared.tree.Ex.{Ex}
use Rattle.c_tree.specs.declared.tree.Init.{Init}
use Rattle.c_tree.specs.declared.tree.Init.TheVariants as init
use Rattle.c_tree.specs.declared.tree.Given.{Given, roll-Given}
use Rattle.c_tree.specs.declared.tree.Designator.{Designator}
use Rattle.c_tree.specs.declared.tree.Designator.TheVariants as designator
use Rattle.c_expressions.specs.declared.grown.Grown.{Grown}
use Rattle.c_input.specs.declared.word.Sign.{Sign}
use Rattle.c_input.specs.declared.word.Sign.TheVariants as sign
use Rattle.c_input.specs.declared.word.Place.{Place as State}
use Rattle.c_input.specs.Input.{Words, step, look_at, is_name, binds, begins_expression}
use Rattle.c_input.specs.Parser.{Parser, and_then, ◌>>=◌, pure, look, trailed_from, trailed, most_words}
use Rattle.c_input.specs.Signs.{is_comma, is_close_brace, is_close_bracket}
use Rattle.c_expressions.specs.Levels.{nest}
use Rattle.c_syntax.specs.Initialisers.{Inits, equal_by, member_designator, place_designator, designation_by, part, init_parts, init_list, initializer_by, initializer, begins_initializer, init_within, inits_within}
use Rattle.c_grammar.specs.Below.{Room}
use Rattle.c_grammar.specs.LevelTrees.{Derived}
use Rattle.c_grammar.specs.DeclarationTrees.{Designation, InitializerIs, Initializers}
use Rattle.c_grammar.specs.DeclarationTrees as dec
use Rattle.c_grammar.proofs.SpecifierTreesRead.{Ends, not_past}
use Rattle.c_grammar.proofs.Leads.{Leads, leads_on, expect_found, name_found}
use Rattle.c_grammar.proofs.LeadsLists.{no_room_is, trailed_last, trailed_comma, trailed_more}
use Rattle.c_grammar.proofs.ExpressionsFound.{FoundEx, is_apart, behind}
use Rattle.c_grammar.proofs.ExpressionsFound.{part as expression_part}
use Rattle.c_grammar.proofs.LevelsFound.{all_found}

abbrev pub ends_initialiser : Sign → Bool
ends_initialiser sign.Comma = true
ends_initialiser sign.CloseBrace = true
ends_initialiser sign.Semicolon = true
ends_initialiser _ = false

behind_initialiser : (q : Sign) → ends_initialiser q ≡ true → (binds q < 2) × (is_apart q ≡ true)
behind_initialiser sign.Comma e = (omega arith, refl)
behind_initialiser sign.CloseBrace e = (omega arith, refl)
behind_initialiser sign.Semicolon e = (omega arith, refl)
behind_initialiser _ e = absurd (cc)

-- the first word of a part of a list
abbrev begins_part : Sign → Bool
begins_part sign.Dot = true
begins_part sign.OpenBracket = true
begins_part q = begins_initializer q

part_no_brace : (q : Sign) → begins_part q ≡ true → is_close_brace q ≡ false
part_no_brace sign.CloseBrace e = absurd (cc)
part_no_brace _ e = refl

plain_part : (q : Sign) → begins_initializer q ≡ true → begins_part q ≡ true
plain_part sign.Dot e = refl
plain_part sign.OpenBracket e = refl
plain_part _ e = e

no_designator : (q : Sign) → begins_initializer q ≡ true → (sub : Inits) → designation_by sub q ≡ pure None
no_designator sign.Dot e sub = absurd (cc)
no_designator sign.OpenBracket e sub = absurd (cc)
no_designator _ e sub = refl

begins_value : (q : Sign) → begins_expression q ≡ true → begins_initializer q ≡ true
begins_value sign.OpenBrace e = refl
begins_value _ e = e

value_is : (q : Sign) → begins_expression q ≡ true → (sub : Inits) → initializer_by sub q ≡ (sub.exprs.expr 2 >>= (λ e. pure (init.One e.tree)))
value_is sign.OpenBrace e sub = absurd (cc)
value_is _ e sub = refl

module _ (horizon : ℕ) (W : Words) (ends : Ends W) where
  found : (r l : ℕ) (e : Ex) (s t : State) → (Derived horizon W).expr r l e s t → FoundEx horizon W r l e s t
  found = (all_found horizon W ends).expr

  record FoundDesignation (r : ℕ) (d : Option Designator) (s t : State) : Type 0 where
    forward : s.at ≤ t.at
    begun : begins_initializer (look_at W t) ≡ true → begins_part (look_at W s) ≡ true
    leads : (n : ℕ) → (0 < horizon → r ≤ n) → begins_initializer (look_at W t) ≡ true → Leads horizon (look (designation_by (inits_within n)) W s) (Ok (d, t))

  member_leads : (s : State) → is_name (look_at W (step s)) ≡ true → look_at W (step (step s)) ≡ sign.Equal →
      member_designator W s ≡ Ok (designator.Member s.at (step s).at, step (step (step s)))
  unfolding member_designator
  member_leads s named equal = ap (λ o. and_then W o (λ n. look (equal_by (designator.Member s.at n.1)))) (name_found W (step s) named)
      ∙ ap (λ q. equal_by (designator.Member s.at (step s).at) q W (step (step s))) equal

  place_leads : (s t : State) (n : ℕ) (g : Grown) → Leads horizon ((nest n).expr 3 W (step s)) (Ok (g, t)) → look_at W t ≡ sign.CloseBracket → look_at W (step t) ≡ sign.Equal →
      Leads horizon (place_designator (inits_within n) W s) (Ok (designator.Place s.at g.tree, step (step t)))
  unfolding place_designator
  place_leads s t n g on close equal = leads_on horizon W ((nest n).expr 3 W (step s)) (Ok (g, t)) _ _ on
      (inl (ap (λ o. and_then W o (λ _. look (equal_by (designator.Place s.at g.tree)))) (expect_found is_close_bracket W t (ap is_close_bracket close))
      ∙ ap (λ q. equal_by (designator.Place s.at g.tree) q W (step t)) equal))

  designation_found : (r : ℕ) (d : Option Designator) (s t : State) → Designation horizon W r d s t → FoundDesignation r d s t
  designation_found r d s t (dec.no_designation _) = record {
    forward = omega arith;
    begun = λ e. plain_part (look_at W s) e;
    leads = λ n more e. inl (ap (λ (p : Parser (Option Designator)). p W s) (no_designator (look_at W s) e (inits_within n)));
  }
  designation_found r d s t (dec.member _ dot named equal) = record {
    forward = omega arith;
    begun = λ _. ap begins_part dot;
    leads = λ n more e. inl (ap (λ q. designation_by (inits_within n) q W s) dot ∙ ap (λ o. and_then W o (λ d. pure (Some d))) (member_leads s named equal));
  }
  designation_found r d s t (dec.place e _ u opens h close equal) =
      let f = found r 3 e (step s) u h in
      let up = f.forward in
      record {
        forward = omega arith;
        begun = λ _. ap begins_part opens;
        leads = λ n more _. subst (λ x. Leads horizon (look (designation_by (inits_within n)) W s) (Ok (Some (designator.Place s.at x), step (step u)))) f.tree
            (subst (λ q. Leads horizon (designation_by (inits_within n) q W s) (Ok (Some (designator.Place s.at f.grown.tree), step (step u)))) (sym opens)
            (leads_on horizon W (place_designator (inits_within n) W s) (Ok (designator.Place s.at f.grown.tree, step (step u))) _ _
            (place_leads s u n f.grown (expression_part horizon W r 3 e (step s) u f n 3 more (omega arith) (omega arith) (behind W u sign.CloseBracket 3 close (omega arith) refl)) close equal)
            (inl refl)));
      }

  pub record FoundInit (r : ℕ) (i : Init) (s t : State) : Type 0 where
    pub forward : s.at + 1 ≤ t.at
    pub begun : begins_initializer (look_at W s) ≡ true
    pub leads : (n : ℕ) → (0 < horizon → r ≤ n) → ends_initialiser (look_at W t) ≡ true → Leads horizon (init_within n W s) (Ok (i, t))

  -- with room for it, or a stop for depth
  with_room : (r : ℕ) (i : Init) (s t : State) → Room horizon r s → begins_initializer (look_at W s) ≡ true →
      ((n : ℕ) → (0 < horizon → r ≤ suc n) → Leads horizon (initializer (inits_within n) W s) (Ok (i, t))) → (n : ℕ) → (0 < horizon → r ≤ n) → Leads horizon (init_within n W s) (Ok (i, t))
  unfolding init_within
  with_room r i s t room begun read zero more = inr (s.at, no_room_is begins_initializer refl W s begun, late)
    where
      late : horizon ≤ s.at
      late = grind arith
  with_room r i s t room begun read (suc n) more = read n more

  value_leads : (s t : State) (n : ℕ) (g : Grown) → begins_expression (look_at W s) ≡ true → Leads horizon ((nest n).expr 2 W s) (Ok (g, t)) →
      Leads horizon (initializer (inits_within n) W s) (Ok (init.One g.tree, t))
  unfolding initializer
  value_leads s t n g begun on = subst (λ (p : Parser Init). Leads horizon (p W s) (Ok (init.One g.tree, t))) (sym (value_is (look_at W s) begun (inits_within n)))
      (leads_on horizon W ((nest n).expr 2 W s) (Ok (g, t)) _ _ on (inl refl))

  list_leads : (s t : State) (n : ℕ) (parts : List Given) → look_at W s ≡ sign.OpenBrace →
      Leads horizon (trailed_from is_comma is_close_brace (part (inits_within n)) (most_words - suc s.at) W (step s)) (Ok (parts, t)) → look_at W t ≡ sign.CloseBrace →
      Leads horizon (initializer (inits_within n) W s) (Ok (init.List s.at parts, step t))
  unfolding initializer init_list init_parts trailed
  list_leads s t n parts opens on close = subst (λ q. Leads horizon (initializer_by (inits_within n) q W s) (Ok (init.List s.at parts, step t))) (sym opens)
      (leads_on horizon W (trailed_from is_comma is_close_brace (part (inits_within n)) (most_words - suc s.at) W (step s)) (Ok (parts, t)) _ _ on
      (inl (ap (λ o. and_then W o (λ _. pure (init.List s.at parts))) (expect_found is_close_brace W t (ap is_close_brace close)))))

  record FoundPart (r : ℕ) (x : Given) (s t : State) : Type 0 where
    forward : s.at + 1 ≤ t.at
    begun : begins_part (look_at W s) ≡ true
    leads : (n : ℕ) → (0 < horizon → r ≤ n) → ends_initialiser (look_at W t) ≡ true → Leads horizon (part (inits_within n) W s) (Ok (x, t))

  part_of : (r : ℕ) (d : Option Designator) (i : Init) (s t u : State) → Designation horizon W r d s t → FoundInit r i t u → FoundPart r (roll-Given (record { designator = d; init = i })) s u
  unfolding part
  part_of r d i s t u h g =
      let f = designation_found r d s t h in
      let up = f.forward in
      let up2 = g.forward in
      record {
        forward = omega arith;
        begun = f.begun g.begun;
        leads = λ n more e. leads_on horizon W (look (designation_by (inits_within n)) W s) (Ok (d, t)) _ _ (f.leads n more g.begun)
            (leads_on horizon W (init_within n W t) (Ok (i, u)) _ _ (g.leads n more e) (inl refl));
      }

  record FoundParts (r : ℕ) (parts : List Given) (s t : State) : Type 0 where
    forward : s.at + 1 ≤ t.at
    begun : begins_part (look_at W s) ≡ true
    leads : (n k : ℕ) → (0 < horizon → r ≤ n) → most_words ≤ k + s.at → look_at W t ≡ sign.CloseBrace →
        Leads horizon (trailed_from is_comma is_close_brace (part (inits_within n)) k W s) (Ok (parts, t))

  last_found : (r : ℕ) (x : Given) (s t : State) → FoundPart r x s t → FoundParts r (x ∷ []) s t
  last_found r x s t f = record { forward = f.forward; begun = f.begun; leads = by }
    where
      by : (n k : ℕ) → (0 < horizon → r ≤ n) → most_words ≤ k + s.at → look_at W t ≡ sign.CloseBrace →
          Leads horizon (trailed_from is_comma is_close_brace (part (inits_within n)) k W s) (Ok (x ∷ [], t))
      by n zero more turns close = absurd (not_past W ends begins_part refl s f.begun (omega arith))
      by n (suc k) more turns close = trailed_last horizon W is_comma is_close_brace (part (inits_within n)) k s t x (f.leads n more (ap ends_initialiser close)) (ap is_comma close)

  comma_found : (r : ℕ) (x : Given) (s t : State) → FoundPart r x s t → look_at W t ≡ sign.Comma → FoundParts r (x ∷ []) s (step t)
  comma_found r x s t f comma = record { forward = let up = f.forward in omega arith; begun = f.begun; leads = by }
    where
      by : (n k : ℕ) → (0 < horizon → r ≤ n) → most_words ≤ k + s.at → look_at W (step t) ≡ sign.CloseBrace →
          Leads horizon (trailed_from is_comma is_close_brace (part (inits_within n)) k W s) (Ok (x ∷ [], step t))
      by n zero more turns close = absurd (not_past W ends begins_part refl s f.begun (omega arith))
      by n (suc k) more turns close = trailed_comma horizon W is_comma is_close_brace (part (inits_within n)) k s t x (f.leads n more (ap ends_initialiser comma)) (ap is_comma comma) (ap is_close_brace close)

  more_found : (r : ℕ) (x : Given) (rest : List Given) (s t u : State) → FoundPart r x s t → look_at W t ≡ sign.Comma → FoundParts r rest (step t) u → FoundParts r (x ∷ rest) s u
  more_found r x rest s t u f comma g = record { forward = let up = f.forward in let up2 = g.forward in omega arith; begun = f.begun; leads = by }
    where
      by : (n k : ℕ) → (0 < horizon → r ≤ n) → most_words ≤ k + s.at → look_at W u ≡ sign.CloseBrace →
          Leads horizon (trailed_from is_comma is_close_brace (part (inits_within n)) k W s) (Ok (x ∷ rest, u))
      by n zero more turns close = absurd (not_past W ends begins_part refl s f.begun (omega arith))
      by n (suc k) more turns close = trailed_more horizon W is_comma is_close_brace (part (inits_within n)) k s t u x rest (f.leads n more (ap ends_initialiser comma)) (ap is_comma comma)
          (part_no_brace (look_at W (step t)) g.begun) (g.leads n k more (let up = f.forward in omega arith) close)

  mutual
    pub initialiser_found : (r : ℕ) (i : Init) (s t : State) → InitializerIs horizon W r i s t → FoundInit r i s t
    initialiser_found r i s t (dec.expression _ v _ _ room h) =
        let f = found (r - 1) 2 v s t h in
        record {
          forward = f.forward;
          begun = begins_value (look_at W s) f.begun;
          leads = λ n more e. with_room r i s t room (begins_value (look_at W s) f.begun) (λ n more.
              subst (λ x. Leads horizon (initializer (inits_within n) W s) (Ok (init.One x, t))) f.tree
              (value_leads s t n f.grown f.begun
              (expression_part horizon W (r - 1) 2 v s t f n 2 (λ p. let x = more p in omega arith) (omega arith) (omega arith) (behind_initialiser (look_at W t) e)))) n more;
        }
    initialiser_found r i s t (dec.list _ parts _ u room opens h close) =
        let f = parts_found (r - 1) parts (step s) u h in
        let up = f.forward in
        record {
          forward = omega arith;
          begun = ap begins_initializer opens;
          leads = λ n more _. with_room r i s t room (ap begins_initializer opens) (λ n more. list_leads s u n parts opens (f.leads n (most_words - suc s.at) (λ p. let x = more p in omega arith) (omega arith) close) close) n more;
        }

    parts_found : (r : ℕ) (parts : List Given) (s t : State) → Initializers horizon W r parts s t → FoundParts r parts s t
    parts_found r parts s t (dec.last_part _ d i _ u _ h g) = last_found r _ s t (part_of r d i s u t h (initialiser_found r i u t g))
    parts_found r parts s t (dec.last_and_comma _ d i _ u v h g comma) = comma_found r _ s v (part_of r d i s u v h (initialiser_found r i u v g)) comma
    parts_found r parts s t (dec.part_and_more _ d i rest _ u v _ h g comma next) = more_found r _ rest s v t (part_of r d i s u v h (initialiser_found r i u v g)) comma (parts_found r rest (step v) t next)
