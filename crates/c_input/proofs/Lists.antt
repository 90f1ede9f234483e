-- Loops that read a list: what was read so far, in front of what is left.
use Rattle.std.proofs.Common.{◌≡◌, ℕ, zero, suc, ◌+◌, ◌-◌, ◌<◌, ◌≤◌, max, ap, sym, refl, ◌∙◌, arith, Bool, true, false, List, [], ◌∷◌, ◌++◌, length, Ok, Err}
use Rattle.std.proofs.Math.Nat.{max-zero, zero-max}
use Rattle.std.proofs.lemmas.List.{append_assoc, append-nil}
use Rattle.c_input.specs.declared.error.SyntaxStop.{SyntaxStop}
use Rattle.c_input.specs.declared.error.SyntaxStop.TheVariants as stop
use Rattle.c_input.specs.Input.{Words, State, Sign, look_at, step}
use Rattle.c_input.specs.Parser.{Parser, Outcome, Stop, ◌>>=◌, ◌>>◌, and_then, pure, look, skip, if_so, most_words, many, many_from, one_or_more, separated, trailed, trailed_from, Measured, trees, deepest, gathered}
use Rattle.c_input.specs.Gives.{Refuses}

abbrev pub folded : {A C : Type 0} → (C → A → C) → C → List A → C
folded add c [] = c
folded add c (x ∷ xs) = folded add (add c x) xs

-- the outcome of a list, behind what was read of it
abbrev pub read_on : {A C : Type 0} → (C → A → C) → C → Words → Outcome (List A) → Outcome C
read_on add c W o = and_then W o (λ xs. pure (folded add c xs))

-- A stop is handed on.
pub handed_on : {A B : Type 0} (o : Outcome A) (p : Outcome B) → ((e : Stop) → o ≡ Err e → p ≡ Err e) → (e : SyntaxStop) → Refuses o e → Refuses p e
handed_on o p f stop.Memory h = tt
handed_on o p f (stop.Syntax n) h = f _ h
handed_on o p f (stop.TooDeep n) h = f _ h
handed_on o p f (stop.OutOfProfile n) h = f _ h

module _ {A C : Type 0} (add : C → A → C) (W : Words) where
  in_front : (c : C) (x : A) (o : Outcome (List A)) → read_on add c W (and_then W o (λ rest. pure (x ∷ rest))) ≡ read_on add (add c x) W o
  in_front c x (Ok p) = refl
  in_front c x (Err e) = refl

  -- `many_from`: an item is there as long as the next word says so
  module _ (more : Sign → Bool) (item : Parser A) where
    abbrev pub left : C → ℕ → State → Outcome C
    left c n s = read_on add c W (many_from more item n W s)

    abbrev turn : ℕ → Parser (List A)
    turn n = item >>= (λ x. many_from more item n >>= (λ rest. pure (x ∷ rest)))

    abbrev turn_of : ℕ → Outcome A → Outcome (List A)
    turn_of n o = and_then W o (λ x. many_from more item n >>= (λ rest. pure (x ∷ rest)))

    by_more : (c : C) (n : ℕ) (s : State) (b : Bool) → more (look_at W s) ≡ b → left c (suc n) s ≡ read_on add c W (if_so b (turn n) (pure []) W s)
    unfolding many_from
    by_more c n s b e = ap (λ (b' : Bool). read_on add c W (if_so b' (turn n) (pure []) W s)) e

    pub ended : (c : C) (n : ℕ) (s : State) → more (look_at W s) ≡ false → left c n s ≡ Ok (c, s)
    unfolding many_from
    ended c zero s e = refl
    ended c (suc n) s e = by_more c n s false e

    pub over : (c : C) (end at : ℕ) (s : State) → end ≤ at → left c (end - at) s ≡ Ok (c, s)
    unfolding many_from
    over c end at s done = let none : end - at ≡ 0 = omega arith in ap (λ (n : ℕ). left c n s) none

    next_of : (c : C) (n : ℕ) (s t : State) (x : A) → more (look_at W s) ≡ true → item W s ≡ Ok (x, t) → left c (suc n) s ≡ left (add c x) n t
    next_of c n s t x m i = by_more c n s true m ∙ ap (λ (o : Outcome A). read_on add c W (turn_of n o)) i ∙ in_front c x (many_from more item n W t)

    pub next : (c : C) (end at : ℕ) (s t : State) (x : A) → at < end → more (look_at W s) ≡ true → item W s ≡ Ok (x, t) →
        left c (end - at) s ≡ left (add c x) (end - (at + 1)) t
    next c end at s t x below m i =
        let e : end - at ≡ suc (end - (at + 1)) = omega arith in
        ap (λ (n : ℕ). left c n s) e ∙ next_of c (end - (at + 1)) s t x m i

    stop_of : (c : C) (n : ℕ) (s : State) → more (look_at W s) ≡ true → (e : Stop) → item W s ≡ Err e → left c (suc n) s ≡ Err e
    stop_of c n s m e i = by_more c n s true m ∙ ap (λ (o : Outcome A). read_on add c W (turn_of n o)) i

    pub stops : (c : C) (end at : ℕ) (s : State) → at < end → more (look_at W s) ≡ true → (e : SyntaxStop) → Refuses (item W s) e →
        Refuses (left c (end - at) s) e
    stops c end at s below m = handed_on (item W s) (left c (end - at) s) (λ (e : Stop) (i : item W s ≡ Err e).
        let n : end - at ≡ suc (end - (at + 1)) = omega arith in
        ap (λ (n : ℕ). left c n s) n ∙ stop_of c (end - (at + 1)) s m e i)

  -- `trailed_from`: an item, a word between, and another item or the word that ends the list
  module _ (between ends : Sign → Bool) (item : Parser A) where
    abbrev pub trailing : C → ℕ → State → Outcome C
    trailing c n s = read_on add c W (trailed_from between ends item n W s)

    abbrev behind_between : ℕ → A → Parser (List A)
    behind_between n x = look (λ p. if_so (ends p) (pure (x ∷ [])) (trailed_from between ends item n >>= (λ rest. pure (x ∷ rest))))

    abbrev behind_item : ℕ → A → Parser (List A)
    behind_item n x = look (λ q. if_so (between q) (skip >> behind_between n x) (pure (x ∷ [])))

    begins : (c : C) (n : ℕ) (s : State) (o : Outcome A) → item W s ≡ o → trailing c (suc n) s ≡ read_on add c W (and_then W o (behind_item n))
    unfolding trailed_from
    begins c n s o i = ap (λ (o : Outcome A). read_on add c W (and_then W o (behind_item n))) i

    by_between : (c : C) (n : ℕ) (x : A) (t : State) (b : Bool) → between (look_at W t) ≡ b →
        read_on add c W (behind_item n x W t) ≡ read_on add c W (if_so b (skip >> behind_between n x) (pure (x ∷ [])) W t)
    by_between c n x t b e = ap (λ (b : Bool). read_on add c W (if_so b (skip >> behind_between n x) (pure (x ∷ [])) W t)) e

    by_end : (c : C) (n : ℕ) (x : A) (t : State) (b : Bool) → ends (look_at W t) ≡ b →
        read_on add c W (behind_between n x W t) ≡ read_on add c W (if_so b (pure (x ∷ [])) (trailed_from between ends item n >>= (λ rest. pure (x ∷ rest))) W t)
    by_end c n x t b e = ap (λ (b : Bool). read_on add c W (if_so b (pure (x ∷ [])) (trailed_from between ends item n >>= (λ rest. pure (x ∷ rest))) W t)) e

    pub trailing_over : (c : C) (end at : ℕ) (s : State) → end ≤ at → trailing c (end - at) s ≡ Ok (c, s)
    unfolding trailed_from
    trailing_over c end at s done = let none : end - at ≡ 0 = omega arith in ap (λ (n : ℕ). trailing c n s) none

    pub trailing_last : (c : C) (end at : ℕ) (s t : State) (x : A) → at < end → item W s ≡ Ok (x, t) → between (look_at W t) ≡ false → trailing c (end - at) s ≡ Ok (add c x, t)
    trailing_last c end at s t x below i b =
        let e : end - at ≡ suc (end - (at + 1)) = omega arith in
        ap (λ (n : ℕ). trailing c n s) e ∙ begins c (end - (at + 1)) s (Ok (x, t)) i ∙ by_between c (end - (at + 1)) x t false b

    pub trailing_end : (c : C) (end at : ℕ) (s t : State) (x : A) → at < end → item W s ≡ Ok (x, t) → between (look_at W t) ≡ true → ends (look_at W (step t)) ≡ true →
        trailing c (end - at) s ≡ Ok (add c x, step t)
    trailing_end c end at s t x below i b b' =
        let e : end - at ≡ suc (end - (at + 1)) = omega arith in
        ap (λ (n : ℕ). trailing c n s) e ∙ begins c (end - (at + 1)) s (Ok (x, t)) i ∙ by_between c (end - (at + 1)) x t true b ∙ by_end c (end - (at + 1)) x (step t) true b'

    pub trailing_next : (c : C) (end at : ℕ) (s t : State) (x : A) → at < end → item W s ≡ Ok (x, t) → between (look_at W t) ≡ true → ends (look_at W (step t)) ≡ false →
        trailing c (end - at) s ≡ trailing (add c x) (end - (at + 1)) (step t)
    trailing_next c end at s t x below i b b' =
        let e : end - at ≡ suc (end - (at + 1)) = omega arith in
        ap (λ (n : ℕ). trailing c n s) e ∙ begins c (end - (at + 1)) s (Ok (x, t)) i ∙ by_between c (end - (at + 1)) x t true b ∙ by_end c (end - (at + 1)) x (step t) false b'
        ∙ in_front c x (trailed_from between ends item (end - (at + 1)) W (step t))

    pub trailing_stops : (c : C) (end at : ℕ) (s : State) → at < end → (e : SyntaxStop) → Refuses (item W s) e → Refuses (trailing c (end - at) s) e
    trailing_stops c end at s below = handed_on (item W s) (trailing c (end - at) s) (λ (e : Stop) (i : item W s ≡ Err e).
        let n : end - at ≡ suc (end - (at + 1)) = omega arith in
        ap (λ (n : ℕ). trailing c n s) n ∙ begins c (end - (at + 1)) s (Err e) i)

-- the trees that were read, and the height of the highest
abbrev pub add_tree : {A : Type 0} → Measured (List A) → Measured A → Measured (List A)
add_tree c x = record { tree = c.tree ++ x.tree ∷ []; height = max x.height c.height }

abbrev pub only : {A : Type 0} → Measured A → Measured (List A)
only x = record { tree = x.tree ∷ []; height = x.height }

abbrev pub nothing : {A : Type 0} → Measured (List A)
nothing = record { tree = []; height = 0 }

abbrev made : {A : Type 0} → List A → ℕ → Measured (List A)
made t h = record { tree = t; height = h }

pub all_trees : {A : Type 0} (c : Measured (List A)) (xs : List (Measured A)) → folded add_tree c xs ≡ made (c.tree ++ trees xs) (max c.height (deepest xs))
all_trees {A} c [] = ap (λ (t : List A). made t c.height) (sym (append-nil c.tree)) ∙ ap (λ (h : ℕ). made (c.tree ++ []) h) (sym (max-zero c.height))
all_trees {A} c (x ∷ xs) =
    let higher : max (max x.height c.height) (deepest xs) ≡ max c.height (max x.height (deepest xs)) = omega arith in
    all_trees (add_tree c x) xs ∙ ap (λ (t : List A). made t (max (max x.height c.height) (deepest xs))) (append_assoc c.tree (x.tree ∷ []) (trees xs))
    ∙ ap (λ (h : ℕ). made (c.tree ++ trees (x ∷ xs)) h) higher

module _ {A : Type 0} (W : Words) where
  abbrev gather : List (Measured A) → Parser (Measured (List A))
  gather xs = pure (record { tree = trees xs; height = deepest xs })

  begin : (x : Measured A) (o : Outcome (List (Measured A))) → and_then W (and_then W o (λ rest. pure (x ∷ rest))) gather ≡ read_on add_tree (only x) W o
  begin x (Ok p) = ap (λ (c : Measured (List A)). pure c W p.1) (sym (all_trees (only x) p.0))
  begin x (Err e) = refl

  from_nothing : (o : Outcome (List (Measured A))) → and_then W o gather ≡ read_on add_tree nothing W o
  from_nothing (Ok p) = ap (λ (h : ℕ). pure (made (trees p.0) h) W p.1) (sym (zero-max (deepest p.0))) ∙ ap (λ (c : Measured (List A)). pure c W p.1) (sym (all_trees nothing p.0))
  from_nothing (Err e) = refl

  module _ (more : Sign → Bool) (item : Parser (Measured A)) where
    pub begun : (s t : State) (x : Measured A) → item W s ≡ Ok (x, t) →
        gathered (one_or_more more item) W s ≡ left add_tree W more item (only x) (most_words - t.at) t
    unfolding one_or_more many
    begun s t x i = ap (λ (o : Outcome (Measured A)). and_then W (and_then W o (λ y. many more item >>= (λ rest. pure (y ∷ rest)))) gather) i
        ∙ begin x (many_from more item (most_words - t.at) W t)

    pub begun_stops : (s : State) (e : SyntaxStop) → Refuses (item W s) e → Refuses (gathered (one_or_more more item) W s) e
    unfolding one_or_more
    begun_stops s = handed_on (item W s) (gathered (one_or_more more item) W s)
        (λ (e : Stop) (i : item W s ≡ Err e). ap (λ (o : Outcome (Measured A)). and_then W (and_then W o (λ y. many more item >>= (λ rest. pure (y ∷ rest)))) gather) i)

    pub begun_separated_stops : (s : State) (e : SyntaxStop) → Refuses (item W s) e → Refuses (gathered (separated more item) W s) e
    unfolding separated
    begun_separated_stops s = handed_on (item W s) (gathered (separated more item) W s)
        (λ (e : Stop) (i : item W s ≡ Err e). ap (λ (o : Outcome (Measured A)). and_then W (and_then W o (λ y. many more (skip >> item) >>= (λ rest. pure (y ∷ rest)))) gather) i)

    pub begun_separated : (s t : State) (x : Measured A) → item W s ≡ Ok (x, t) →
        gathered (separated more item) W s ≡ left add_tree W more (skip >> item) (only x) (most_words - t.at) t
    unfolding separated many
    begun_separated s t x i = ap (λ (o : Outcome (Measured A)). and_then W (and_then W o (λ y. many more (skip >> item) >>= (λ rest. pure (y ∷ rest)))) gather) i
        ∙ begin x (many_from more (skip >> item) (most_words - t.at) W t)

  pub begun_trailed : (between ends : Sign → Bool) (item : Parser (Measured A)) (s : State) →
      gathered (trailed between ends item) W s ≡ trailing add_tree W between ends item nothing (most_words - s.at) s
  unfolding trailed
  begun_trailed between ends item s = from_nothing (trailed_from between ends item (most_words - s.at) W s)

-- a list of items that nothing measures
abbrev pub add_item : {A : Type 0} → List A → A → List A
add_item c x = c ++ x ∷ []

pub all_items : {A : Type 0} (c xs : List A) → folded add_item c xs ≡ c ++ xs
all_items c [] = sym (append-nil c)
all_items c (x ∷ xs) = all_items (add_item c x) xs ∙ append_assoc c (x ∷ []) xs

pub begun_many : {A : Type 0} (W : Words) (more : Sign → Bool) (item : Parser A) (s : State) → many more item W s ≡ left add_item W more item [] (most_words - s.at) s
unfolding many
begun_many {A} W more item s = same (many_from more item (most_words - s.at) W s)
  where
    same : (o : Outcome (List A)) → o ≡ read_on add_item [] W o
    same (Ok p) = ap (λ (c : List A). pure c W p.1) (sym (all_items [] p.0))
    same (Err e) = refl

-- how many items were read
abbrev pub count_one : {A : Type 0} → ℕ → A → ℕ
count_one c x = c + 1

all_counted : {A : Type 0} (c : ℕ) (xs : List A) → folded count_one c xs ≡ c + length xs
all_counted c [] = omega arith
all_counted c (x ∷ xs) = let e : c + 1 + length xs ≡ c + length (x ∷ xs) = omega arith in all_counted (c + 1) xs ∙ e

pub begun_count : {A : Type 0} (W : Words) (more : Sign → Bool) (item : Parser A) (s : State) →
    and_then W (many more item W s) (λ xs. pure (length xs)) ≡ left count_one W more item 0 (most_words - s.at) s
unfolding many
begun_count {A} W more item s = same (many_from more item (most_words - s.at) W s)
  where
    same : (o : Outcome (List A)) → and_then W o (λ xs. pure (length xs)) ≡ read_on count_one 0 W o
    same (Ok p) = let e : length p.0 ≡ 0 + length p.0 = omega arith in ap (λ (n : ℕ). pure n W p.1) (e ∙ sym (all_counted 0 p.0))
    same (Err e) = refl
