-- Loops that push what they read onto a list.
use Rattle.std.proofs.Common.{◌≡◌, ℕ, suc, ◌+◌, ◌-◌, ◌<◌, ◌≤◌, ap, refl, sym, ◌∙◌, arith, Bool, true, false, List, [], ◌∷◌, ◌++◌, Ok, Err}
use Rattle.std.proofs.lemmas.List.{append_assoc}
use Rattle.c_input.specs.declared.error.SyntaxStop.{SyntaxStop}
use Rattle.c_input.specs.Input.{Words, State, Sign, look_at, step}
use Rattle.c_input.specs.Parser.{Parser, Outcome, ◌>>=◌, ◌>>◌, and_then, pure, look, skip, if_so, many, many_from, most_words, trailed, trailed_from}
use Rattle.c_input.specs.Gives.{Refuses}
use Rattle.c_input.proofs.Lists.{handed_on}

-- the outcome of a list, behind what was read of it
abbrev pub behind : {A : Type 0} → Words → List A → Outcome (List A) → Outcome (List A)
behind W xs o = and_then W o (λ rest. pure (xs ++ rest))

pub behind_none : {A : Type 0} (W : Words) (o : Outcome (List A)) → o ≡ behind W [] o
behind_none W (Ok p) = refl
behind_none W (Err e) = refl

pub behind_one : {A : Type 0} (W : Words) (xs : List A) (x : A) (o : Outcome (List A)) → behind W xs (and_then W o (λ rest. pure (x ∷ rest))) ≡ behind W (xs ++ x ∷ []) o
behind_one W xs x (Ok p) = ap (λ ys. Ok (ys, p.1)) (sym (append_assoc xs (x ∷ []) p.0))
behind_one W xs x (Err e) = refl

module _ {A : Type 0} (W : Words) (more : Sign → Bool) (item : Parser A) where
  -- behind what was read, with so many turns
  abbrev pub Rest : List A → ℕ → State → Outcome (List A)
  Rest xs n s = behind W xs (many_from more item n W s)

  abbrev turn : ℕ → Parser (List A)
  turn n = item >>= (λ x. many_from more item n >>= (λ rest. pure (x ∷ rest)))

  by_more : (xs : List A) (n : ℕ) (s : State) (b : Bool) → more (look_at W s) ≡ b → Rest xs (suc n) s ≡ behind W xs (if_so b (turn n) (pure []) W s)
  unfolding many_from
  by_more xs n s b e = ap (λ b'. behind W xs (if_so b' (turn n) (pure []) W s)) e

  nil_at_end : (xs : List A) (s : State) → behind W xs (pure [] W s) ≡ Ok (xs, s)
  nil_at_end xs s = ap (λ ys. Ok (ys, s)) (append_nil xs)
    where
      append_nil : (ys : List A) → ys ++ [] ≡ ys
      append_nil [] = refl
      append_nil (y ∷ ys) = ap (λ zs. y ∷ zs) (append_nil ys)

  pub begun : (s : State) → many more item W s ≡ Rest [] (most_words - s.at) s
  unfolding many
  begun s = behind_none W (many_from more item (most_words - s.at) W s)

  pub begun_with : (x : A) (s : State) → and_then W (many more item W s) (λ rest. pure (x ∷ rest)) ≡ Rest (x ∷ []) (most_words - s.at) s
  unfolding many
  begun_with x s = refl

  pub ended : (w : Outcome (List A)) (xs : List A) (at : ℕ) (s : State) → w ≡ Rest xs (most_words - at) s → at < most_words → more (look_at W s) ≡ false → w ≡ Ok (xs, s)
  ended w xs at s e below f =
      let n : most_words - at ≡ suc (most_words - (at + 1)) = omega arith in
      e ∙ ap (λ n. Rest xs n s) n ∙ by_more xs (most_words - (at + 1)) s false f ∙ nil_at_end xs s

  pub over : (w : Outcome (List A)) (xs : List A) (at : ℕ) (s : State) → w ≡ Rest xs (most_words - at) s → most_words ≤ at → w ≡ Ok (xs, s)
  unfolding many_from
  over w xs at s e done = let none : most_words - at ≡ 0 = omega arith in e ∙ ap (λ n. Rest xs n s) none ∙ nil_at_end xs s

  pub next : (w : Outcome (List A)) (xs : List A) (at : ℕ) (s t : State) (x : A) → w ≡ Rest xs (most_words - at) s → at < most_words → more (look_at W s) ≡ true → item W s ≡ Ok (x, t) →
      w ≡ Rest (xs ++ x ∷ []) (most_words - (at + 1)) t
  next w xs at s t x e below m i =
      let n : most_words - at ≡ suc (most_words - (at + 1)) = omega arith in
      e ∙ ap (λ n. Rest xs n s) n ∙ by_more xs (most_words - (at + 1)) s true m
      ∙ ap (λ o. behind W xs (and_then W o (λ y. many_from more item (most_words - (at + 1)) >>= (λ rest. pure (y ∷ rest))))) i
      ∙ behind_one W xs x (many_from more item (most_words - (at + 1)) W t)

  pub stops : (w : Outcome (List A)) (xs : List A) (at : ℕ) (s : State) → w ≡ Rest xs (most_words - at) s → at < most_words → more (look_at W s) ≡ true →
      (e : SyntaxStop) → Refuses (item W s) e → Refuses w e
  stops w xs at s e below m = handed_on (item W s) w (λ f i.
      let n : most_words - at ≡ suc (most_words - (at + 1)) = omega arith in
      e ∙ ap (λ n. Rest xs n s) n ∙ by_more xs (most_words - (at + 1)) s true m
      ∙ ap (λ o. behind W xs (and_then W o (λ y. many_from more item (most_words - (at + 1)) >>= (λ rest. pure (y ∷ rest))))) i)

module _ {A : Type 0} (W : Words) (between ends : Sign → Bool) (item : Parser A) where
  abbrev pub Left : List A → ℕ → State → Outcome (List A)
  Left xs n s = behind W xs (trailed_from between ends item n W s)

  abbrev after_comma : ℕ → A → Parser (List A)
  after_comma n x = skip >> look (λ p. if_so (ends p) (pure (x ∷ [])) (trailed_from between ends item n >>= (λ rest. pure (x ∷ rest))))

  abbrev after : ℕ → A → Parser (List A)
  after n x = look (λ q. if_so (between q) (after_comma n x) (pure (x ∷ [])))

  from_item : (xs : List A) (n : ℕ) (s : State) (o : Outcome A) → item W s ≡ o → Left xs (suc n) s ≡ behind W xs (and_then W o (after n))
  unfolding trailed_from
  from_item xs n s o e = ap (λ o'. behind W xs (and_then W o' (after n))) e

  pub first : (s : State) → trailed between ends item W s ≡ Left [] (most_words - s.at) s
  unfolding trailed
  first s = behind_none W (trailed_from between ends item (most_words - s.at) W s)

  opened : (w : Outcome (List A)) (xs : List A) (at : ℕ) (s : State) (o : Outcome A) → w ≡ Left xs (most_words - at) s → at < most_words → item W s ≡ o →
      w ≡ behind W xs (and_then W o (after (most_words - (at + 1))))
  opened w xs at s o e below i =
      let n : most_words - at ≡ suc (most_words - (at + 1)) = omega arith in
      e ∙ ap (λ n. Left xs n s) n ∙ from_item xs (most_words - (at + 1)) s o i

  pub refused : (w : Outcome (List A)) (xs : List A) (at : ℕ) (s : State) → w ≡ Left xs (most_words - at) s → at < most_words →
      (e : SyntaxStop) → Refuses (item W s) e → Refuses w e
  refused w xs at s e below = handed_on (item W s) w (λ f i. opened w xs at s (Err f) e below i)

  pub last : (w : Outcome (List A)) (xs : List A) (at : ℕ) (s t : State) (x : A) → w ≡ Left xs (most_words - at) s → at < most_words → item W s ≡ Ok (x, t) →
      between (look_at W t) ≡ false → w ≡ Ok (xs ++ x ∷ [], t)
  last w xs at s t x e below i f = opened w xs at s (Ok (x, t)) e below i
      ∙ ap (λ b. behind W xs (if_so b (after_comma (most_words - (at + 1)) x) (pure (x ∷ [])) W t)) f

  pub last_comma : (w : Outcome (List A)) (xs : List A) (at : ℕ) (s t : State) (x : A) → w ≡ Left xs (most_words - at) s → at < most_words → item W s ≡ Ok (x, t) →
      between (look_at W t) ≡ true → ends (look_at W (step t)) ≡ true → w ≡ Ok (xs ++ x ∷ [], step t)
  last_comma w xs at s t x e below i m f = opened w xs at s (Ok (x, t)) e below i
      ∙ ap (λ b. behind W xs (if_so b (after_comma (most_words - (at + 1)) x) (pure (x ∷ [])) W t)) m
      ∙ ap (λ b. behind W xs (if_so b (pure (x ∷ [])) (trailed_from between ends item (most_words - (at + 1)) >>= (λ rest. pure (x ∷ rest))) W (step t))) f

  pub again : (w : Outcome (List A)) (xs : List A) (at : ℕ) (s t : State) (x : A) → w ≡ Left xs (most_words - at) s → at < most_words → item W s ≡ Ok (x, t) →
      between (look_at W t) ≡ true → ends (look_at W (step t)) ≡ false → w ≡ Left (xs ++ x ∷ []) (most_words - (at + 1)) (step t)
  again w xs at s t x e below i m f = opened w xs at s (Ok (x, t)) e below i
      ∙ ap (λ b. behind W xs (if_so b (after_comma (most_words - (at + 1)) x) (pure (x ∷ [])) W t)) m
      ∙ ap (λ b. behind W xs (if_so b (pure (x ∷ [])) (trailed_from between ends item (most_words - (at + 1)) >>= (λ rest. pure (x ∷ rest))) W (step t))) f
      ∙ behind_one W xs x (trailed_from between ends item (most_words - (at + 1)) W (step t))

  pub done : (w : Outcome (List A)) (xs : List A) (at : ℕ) (s : State) → w ≡ Left xs (most_words - at) s → most_words ≤ at → w ≡ Ok (xs, s)
  unfolding trailed_from
  done w xs at s e over = let none : most_words - at ≡ 0 = omega arith in e ∙ ap (λ n. Left xs n s) none ∙ ap (λ ys. Ok (ys, s)) (append_nil xs)
    where
      append_nil : (ys : List A) → ys ++ [] ≡ ys
      append_nil [] = refl
      append_nil (y ∷ ys) = ap (λ zs. y ∷ zs) (append_nil ys)
