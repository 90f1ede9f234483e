-- Lists of trees that are read, and what a word is whatever names are in scope.
use Rattle.std.proofs.Common.{◌≡◌, ℕ, zero, suc, inl, Bool, true, false, List, [], ◌∷◌, Option, Some, None, Ok, Err, refl, sym, ap, ◌∙◌, subst}
use Rattle.c_input.specs.declared.word.Sign.{Sign}
use Rattle.c_input.specs.declared.word.Sign.TheVariants as sign
use Rattle.c_input.specs.declared.word.Word.{Word}
use Rattle.c_input.specs.declared.word.Place.{Place as State}
use Rattle.c_input.specs.Input.{Names, Words, step, look_at, sign_at, sign_of, sign_of_name, is_name, is_type}
use Rattle.c_input.specs.Parser.{too_deep, Outcome, Parser, ◌>>=◌, ◌>>◌, pure, look, skip, no_room_stop, no_room, if_so, many_from, trailed_from}
use Rattle.c_grammar.proofs.Leads.{Leads, leads_on, begun_deep}

-- a word that isn't a name is the same whatever names are in scope
no_name : (p : Sign) → is_name p ≡ false → (t : Bool) → sign_of_name t ≡ p → ⊥
no_name p other true e = let x : true ≡ is_name p = ap is_name e in cc
no_name p other false e = let x : true ≡ is_name p = ap is_name e in cc

same_sign : (p : Sign) → is_name p ≡ false → (a b : Names) (w : Option Word) → sign_at a w ≡ p → sign_at b w ≡ p
same_sign p other a b None e = e
same_sign p other a b (Some w) e = by w.sign e
  where
    by : (q : Sign) → sign_of a w.name q ≡ p → sign_of b w.name q ≡ p
    by sign.Name e = absurd (no_name p other (is_type a w.name) e)
    by _ e = e

pub other_names : (W : Words) (at : ℕ) (a b : Names) (p : Sign) → is_name p ≡ false → look_at W (record { at = at; names = a }) ≡ p → look_at W (record { at = at; names = b }) ≡ p
unfolding look_at
other_names W at a b p other e = same_sign p other a b (W at) e

-- where no node may begin any more
pub no_room_is : {A : Type 0} (begins : Sign → Bool) → begins sign.LeftOut ≡ false → (W : Words) (s : State) → begins (look_at W s) ≡ true →
    ◌≡◌ {A = Outcome A} (no_room (begins (look_at W s)) W s) (Err (too_deep s.at))
unfolding no_room
no_room_is begins none W s e = ap (λ b. Err (no_room_stop b (look_at W s) s.at)) e ∙ ap Err (begun_deep begins none (look_at W s) s.at e)

module _ {A : Type 0} (horizon : ℕ) (W : Words) where
  module _ (more : Sign → Bool) (item : Parser A) where
    pub many_stops : (k : ℕ) (s : State) → more (look_at W s) ≡ false → many_from more item k W s ≡ Ok ([], s)
    unfolding many_from
    many_stops zero s e = refl
    many_stops (suc k) s e = ap (λ b. if_so b (item >>= (λ x. many_from more item k >>= (λ rest. pure (x ∷ rest)))) (pure []) W s) e

    pub many_goes : (k : ℕ) (s t u : State) (x : A) (xs : List A) → more (look_at W s) ≡ true → Leads horizon (item W s) (Ok (x, t)) → Leads horizon (many_from more item k W t) (Ok (xs, u)) →
        Leads horizon (many_from more item (suc k) W s) (Ok (x ∷ xs, u))
    unfolding many_from
    many_goes k s t u x xs e one others = subst (λ b. Leads horizon (if_so b (item >>= (λ x. many_from more item k >>= (λ rest. pure (x ∷ rest)))) (pure []) W s) (Ok (x ∷ xs, u))) (sym e)
        (leads_on horizon W (item W s) (Ok (x, t)) _ _ one (leads_on horizon W (many_from more item k W t) (Ok (xs, u)) _ _ others (inl refl)))

  module _ (between ends : Sign → Bool) (item : Parser A) where
    -- behind a part
    turn : ℕ → A → Parser (List A)
    turn k x = look (λ q. if_so (between q)
        (skip >> look (λ p. if_so (ends p) (pure (x ∷ [])) (trailed_from between ends item k >>= (λ rest. pure (x ∷ rest)))))
        (pure (x ∷ [])))

    pub trailed_last : (k : ℕ) (s t : State) (x : A) → Leads horizon (item W s) (Ok (x, t)) → between (look_at W t) ≡ false →
        Leads horizon (trailed_from between ends item (suc k) W s) (Ok (x ∷ [], t))
    unfolding trailed_from turn
    trailed_last k s t x one e = leads_on horizon W (item W s) (Ok (x, t)) (turn k) _ one
        (inl (ap (λ b. if_so b (skip >> look (λ p. if_so (ends p) (pure (x ∷ [])) (trailed_from between ends item k >>= (λ rest. pure (x ∷ rest))))) (pure (x ∷ [])) W t) e))

    pub trailed_comma : (k : ℕ) (s t : State) (x : A) → Leads horizon (item W s) (Ok (x, t)) → between (look_at W t) ≡ true → ends (look_at W (step t)) ≡ true →
        Leads horizon (trailed_from between ends item (suc k) W s) (Ok (x ∷ [], step t))
    unfolding trailed_from turn
    trailed_comma k s t x one e f = leads_on horizon W (item W s) (Ok (x, t)) (turn k) _ one
        (inl (ap (λ b. if_so b (skip >> look (λ p. if_so (ends p) (pure (x ∷ [])) (trailed_from between ends item k >>= (λ rest. pure (x ∷ rest))))) (pure (x ∷ [])) W t) e
        ∙ ap (λ b. if_so b (pure (x ∷ [])) (trailed_from between ends item k >>= (λ rest. pure (x ∷ rest))) W (step t)) f))

    pub trailed_more : (k : ℕ) (s t u : State) (x : A) (xs : List A) → Leads horizon (item W s) (Ok (x, t)) → between (look_at W t) ≡ true → ends (look_at W (step t)) ≡ false →
        Leads horizon (trailed_from between ends item k W (step t)) (Ok (xs, u)) → Leads horizon (trailed_from between ends item (suc k) W s) (Ok (x ∷ xs, u))
    unfolding trailed_from turn
    trailed_more k s t u x xs one e f others = leads_on horizon W (item W s) (Ok (x, t)) (turn k) _ one
        (subst (λ o. Leads horizon o (Ok (x ∷ xs, u)))
        (sym (ap (λ b. if_so b (skip >> look (λ p. if_so (ends p) (pure (x ∷ [])) (trailed_from between ends item k >>= (λ rest. pure (x ∷ rest))))) (pure (x ∷ [])) W t) e
        ∙ ap (λ b. if_so b (pure (x ∷ [])) (trailed_from between ends item k >>= (λ rest. pure (x ∷ rest))) W (step t)) f))
        (leads_on horizon W (trailed_from between ends item k W (step t)) (Ok (xs, u)) _ _ others (inl refl)))
