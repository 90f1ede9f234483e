-- Parsers on words: an outcome for each place, and how they are put together.
use Rattle.std.specs.Prelude.{ℕ, zero, suc, ◌-◌, max, Bool, true, false, List, [], ◌∷◌, length, map, Result, Ok, Err}
use Rattle.c_input.specs.declared.word.Sign.TheVariants as sign
use Rattle.c_input.specs.Input.{Words, State, step, Sign, look_at, name_in, is_name, oldest}
pub use Rattle.c_input.specs.declared.measured.Measured.{Measured}

-- Syntax, TooDeep and OutOfProfile at a place
pub data Stop : Type 0 where
  syntax : ℕ → Stop
  too_deep : ℕ → Stop
  left_out : ℕ → Stop

-- above the number of words of a file
abbrev pub most_words : ℕ
most_words = 1048577

abbrev pub Outcome : Type 0 → Type 0
Outcome A = Result (A × State) Stop

abbrev pub Parser : Type 0 → Type 0
Parser A = Words → State → Outcome A

abbrev pub and_then : {A B : Type 0} → Words → Outcome A → (A → Parser B) → Outcome B
and_then W (Ok p) f = f p.0 W p.1
and_then W (Err e) f = Err e

infixl 10 ◌>>=◌
abbrev pub ◌>>=◌ : {A B : Type 0} → Parser A → (A → Parser B) → Parser B
p >>= f = λ W s. and_then W (p W s) f

infixl 10 ◌>>◌
abbrev pub ◌>>◌ : {A B : Type 0} → Parser A → Parser B → Parser B
p >> q = p >>= (λ _. q)

abbrev pub pure : {A : Type 0} → A → Parser A
pure a = λ W s. Ok (a, s)

abbrev pub look : {A : Type 0} → (Sign → Parser A) → Parser A
look f = λ W s. f (look_at W s) W s

abbrev pub here : Parser ℕ
here = λ W s. Ok (s.at, s)

abbrev pub skip : Parser (Unit {0})
skip = λ W s. Ok (tt, step s)

-- a word that is left out is so wherever it stands
abbrev pub stop_by : Sign → ℕ → Stop → Stop
stop_by sign.LeftOut at e = left_out at
stop_by _ at e = e

unfoldable pub refuse : {A : Type 0} → Parser A
refuse = λ W s. Err (stop_by (look_at W s) s.at (syntax s.at))

unfoldable pub too_deep_here : {A : Type 0} → Parser A
too_deep_here = λ W s. Err (stop_by (look_at W s) s.at (too_deep s.at))

unfoldable pub left_out_here : {A : Type 0} → Parser A
left_out_here = λ W s. Err (left_out s.at)

-- where no node may begin any more: a word that could begin one is too deep
abbrev pub no_room_stop : Bool → Sign → ℕ → Stop
no_room_stop true q at = stop_by q at (too_deep at)
no_room_stop false q at = stop_by q at (syntax at)

unfoldable pub no_room : {A : Type 0} → Bool → Parser A
no_room begins = λ W s. Err (no_room_stop begins (look_at W s) s.at)

abbrev pub if_so : {A : Type 0} → Bool → Parser A → Parser A → Parser A
if_so true p q = p
if_so false p q = q

-- a word of this kind, which is taken
unfoldable pub expect : (Sign → Bool) → Parser (Unit {0})
expect is = look (λ q. if_so (is q) skip refuse)

-- the number and the place of a name, which is taken
abbrev pub take_name : Parser (ℕ × ℕ)
take_name = λ W s. Ok ((name_in (W s.at), s.at), step s)

-- any name, be it a typedef name: tags, members, labels and enumerators have name spaces of their own (6.2.3)
unfoldable pub any_name : Parser (ℕ × ℕ)
any_name = look (λ q. if_so (is_name q) take_name refuse)

unfoldable pub declare : ℕ → Bool → Parser (Unit {0})
declare n t = λ W s. Ok (tt, record { at = s.at; names = (n, t) ∷ s.names })

-- the end of a scope: the names that were there before it
unfoldable pub scoped : {A : Type 0} → Parser A → Parser A
scoped p = λ W s. (p >>= (λ a W' t. Ok (a, record { at = t.at; names = oldest (length s.names) t.names }))) W s

-- Lists: each turn takes a word. There are more turns than words are left, so that the bound ends no list.
unfoldable pub many_from : {A : Type 0} → (Sign → Bool) → Parser A → ℕ → Parser (List A)
many_from more item zero = pure []
many_from more item (suc n) = look (λ q. if_so (more q) (item >>= (λ x. many_from more item n >>= (λ rest. pure (x ∷ rest)))) (pure []))

-- as long as the next word says that there is one more
unfoldable pub many : {A : Type 0} → (Sign → Bool) → Parser A → Parser (List A)
many more item = λ W s. many_from more item (most_words - s.at) W s

unfoldable pub one_or_more : {A : Type 0} → (Sign → Bool) → Parser A → Parser (List A)
one_or_more more item = item >>= (λ x. many more item >>= (λ rest. pure (x ∷ rest)))

-- with a word between each two
unfoldable pub separated : {A : Type 0} → (Sign → Bool) → Parser A → Parser (List A)
separated between item = item >>= (λ x. many between (skip >> item) >>= (λ rest. pure (x ∷ rest)))

-- with a word between each two, and perhaps one before the word that ends the list
unfoldable pub trailed_from : {A : Type 0} → (Sign → Bool) → (Sign → Bool) → Parser A → ℕ → Parser (List A)
trailed_from between ends item zero = pure []
trailed_from between ends item (suc n) = item >>= (λ x. look (λ q. if_so (between q)
    (skip >> look (λ p. if_so (ends p) (pure (x ∷ [])) (trailed_from between ends item n >>= (λ rest. pure (x ∷ rest)))))
    (pure (x ∷ []))))

unfoldable pub trailed : {A : Type 0} → (Sign → Bool) → (Sign → Bool) → Parser A → Parser (List A)
trailed between ends item = λ W s. trailed_from between ends item (most_words - s.at) W s

abbrev pub trees : {A : Type 0} → List (Measured A) → List A
trees xs = map (λ x. x.tree) xs

abbrev pub deepest : {A : Type 0} → List (Measured A) → ℕ
deepest [] = 0
deepest (x ∷ xs) = max x.height (deepest xs)

-- the trees of a list, with the height of the highest
abbrev pub gathered : {A : Type 0} → Parser (List (Measured A)) → Parser (Measured (List A))
gathered p = p >>= (λ xs. pure (record { tree = trees xs; height = deepest xs }))
