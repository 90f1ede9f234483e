-- The lists of the grammar, each by a rule that knows no bound on its turns.
use Rattle.std.specs.Prelude.{◌≡◌, ◌≤◌, ℕ, suc, ◌||◌, nat_lt, Bool, true, false, List, [], ◌∷◌, length}
use Rattle.c_expressions.specs.declared.grown.Specs.{Specs}
use Rattle.c_expressions.specs.declared.grown.Grown.{Grown}
use Rattle.c_expressions.specs.declared.grown.Declares.{Declares}
use Rattle.c_lex.specs.Source.{longest}
use Rattle.c_input.specs.declared.word.Sign.{Sign}
use Rattle.c_input.specs.declared.word.Word.{Word}
use Rattle.c_input.specs.declared.word.Place.{Place as State}
use Rattle.c_input.specs.Input.{specifies, qualifies}
use Rattle.c_input.specs.Words.{words_of}
use Rattle.c_input.specs.Parser.{Parser, ◌>>=◌, ◌>>◌, pure, look, skip, too_deep_here, if_so, many, trailed}
use Rattle.c_input.specs.Signs.{is_comma, is_close_brace, is_no_close_brace}
use Rattle.c_expressions.specs.Nest.{Nest}
use Rattle.c_expressions.specs.Specifiers.{is_type_specifier, no_specs, with_spec, enumerator, spec_by, specs, member}
use Rattle.c_expressions.specs.Declarators.{is_ellipsis, is_qualifier, Params, in_front, last_one, taken, parameter, parameters, suffixes, goes_on as is_suffix, longer as suffix}
use Rattle.c_expressions.specs.Expressions.{is_str, argument, goes_on, longer, climb}
use Rattle.c_expressions.specs.Levels.{nest}
use Rattle.c_syntax.specs.Initialisers.{part, inits_within}
use Rattle.c_syntax.specs.Declarations.{next_part}
use Rattle.c_syntax.specs.Statements.{block_item, parts_within}
use Rattle.c_syntax.specs.FileScope.{is_no_end, file_item, limit}

-- at every place of a file they have the same outcome
abbrev pub Agree : {I A : Type 0} → List Word → (I → Parser A) → (I → Parser A) → Type 0
Agree {I = I} ws p r = (i : I) (s : State) → s.at ≤ length ws → p i (words_of ws) s ≡ r i (words_of ws) s

-- On every file the lists do what their rule says of them, and no other parsers do.
pub record AreByRule {I A : Type 0} (rule : (I → Parser A) → I → Parser A) (lists : I → Parser A) : Type 0 where
  pub follows : (ws : List Word) → length ws ≤ longest → Agree ws lists (rule lists)
  pub alone : (ws : List Word) → length ws ≤ longest → (others : I → Parser A) → Agree ws others (rule others) → Agree ws others lists

-- the same of one list
abbrev pub IsByRule : {A : Type 0} → (Parser A → Parser A) → Parser A → Type 0
IsByRule {A = A} rule list = AreByRule (λ (l : Unit {0} → Parser A) i. rule (l i)) (λ i. list)

-- an item and the list again, as long as the next word says that there is one more
abbrev pub one_more : {A : Type 0} → (Sign → Bool) → Parser A → Parser (List A) → Parser (List A)
one_more more item list = look (λ q. if_so (more q) (item >>= (λ x. list >>= (λ rest. pure (x ∷ rest)))) (pure []))

-- an item, and where a word follows that stands between two and doesn't end the list, the list again
abbrev pub item_and_more : {A : Type 0} → (Sign → Bool) → (Sign → Bool) → Parser A → Parser (List A) → Parser (List A)
item_and_more between ends item list = item >>= (λ x. look (λ q. if_so (between q)
    (skip >> look (λ p. if_so (ends p) (pure (x ∷ [])) (list >>= (λ rest. pure (x ∷ rest)))))
    (pure (x ∷ []))))

-- a parameter, and behind a comma three dots or the list again
abbrev pub parameter_and_more : Nest → Parser Params → Parser Params
parameter_and_more sub list = parameter sub >>= (λ x. look (λ q. if_so (is_comma q)
    (skip >> look (λ p. if_so (is_ellipsis p) (skip >> pure (last_one x true)) (list >>= (λ rest. pure (in_front x rest)))))
    (pure (last_one x false))))

-- a specifier and the list again, as long as there is one more; the list asks whether a type specifier stands before it
abbrev pub one_more_specifier : Nest → (Bool → Sign → Bool) → (Bool → Parser Specs) → Bool → Parser Specs
one_more_specifier sub more list typed = look (λ q. if_so (more typed q)
    (spec_by sub q >>= (λ x. list (typed || is_type_specifier q) >>= (λ rest. pure (with_spec q x rest))))
    (pure no_specs))

-- a production more around an expression, as long as the next word goes on with it, and its node is in the room
abbrev pub one_more_operator : Nest → ℕ → ℕ → ℕ → (Grown → Parser Grown) → Grown → Parser Grown
one_more_operator sub room least at list a = look (λ q. if_so (goes_on sub least a q)
    (if_so (nat_lt a.height room) (longer sub at a q >>= list) too_deep_here)
    (pure a))

-- the same of a declarator and its suffixes
abbrev pub one_more_suffix : Nest → ℕ → ℕ → (Declares → Parser Declares) → Declares → Parser Declares
one_more_suffix sub room at list d = look (λ q. if_so (is_suffix q)
    (if_so (nat_lt d.height room) (suffix sub at d q >>= list) too_deep_here)
    (pure d))

abbrev pub Repeats : {A : Type 0} → (Sign → Bool) → Parser A → Type 0
Repeats more item = IsByRule (one_more more item) (many more item)

abbrev pub Alternates : {A : Type 0} → (Sign → Bool) → (Sign → Bool) → Parser A → Type 0
Alternates between ends item = IsByRule (item_and_more between ends item) (trailed between ends item)

-- The lists of Annex A.2 over nodes of so much room. Where commas stand between, the list is what follows the first.
pub record ListsAreByRule : Type 0 where
  -- neighbouring string literals (6.4.5p5)
  pub string_literals : Repeats is_str skip
  -- argument-expression-list (6.5.2)
  pub arguments : (room : ℕ) → Repeats is_comma (skip >> argument (nest room))
  -- postfix-expression (6.5.2) and the operators of 6.5.5 to 6.5.17, behind the first operand
  pub operators : (room least at : ℕ) → AreByRule (one_more_operator (nest room) (suc room) least at) (climb (nest room) (suc room) least (suc room) at)
  -- declaration-specifiers (6.7)
  pub declaration_specifiers : (room : ℕ) → AreByRule (one_more_specifier (nest room) specifies) (specs (nest room) specifies)
  -- init-declarator-list (6.7)
  pub init_declarators : (room : ℕ) (is_typedef : Bool) → Repeats is_comma (next_part (inits_within room) is_typedef)
  -- struct-declaration-list (6.7.2.1), behind the first
  pub struct_declarations : (room : ℕ) → Repeats is_no_close_brace (nest room).line
  -- specifier-qualifier-list (6.7.2.1)
  pub specifiers_and_qualifiers : (room : ℕ) → AreByRule (one_more_specifier (nest room) qualifies) (specs (nest room) qualifies)
  -- struct-declarator-list (6.7.2.1)
  pub struct_declarators : (room : ℕ) → Repeats is_comma (skip >> member (nest room) (suc room))
  -- enumerator-list (6.7.2.2)
  pub enumerators : (room : ℕ) → Alternates is_comma is_close_brace (enumerator (nest room))
  -- type-qualifier-list (6.7.6)
  pub type_qualifiers : Repeats is_qualifier taken
  -- direct-declarator (6.7.6) and direct-abstract-declarator (6.7.7), behind what they begin with
  pub declarator_suffixes : (room at : ℕ) → AreByRule (one_more_suffix (nest room) (suc room) at) (suffixes (nest room) (suc room) (suc room) at)
  -- parameter-list (6.7.6)
  pub parameter_lists : (room : ℕ) → IsByRule (parameter_and_more (nest room)) (parameters (nest room))
  -- initializer-list (6.7.9)
  pub initializers : (room : ℕ) → Alternates is_comma is_close_brace (part (inits_within room))
  -- block-item-list (6.8.2)
  pub block_items : (room : ℕ) → Repeats is_no_close_brace (block_item (parts_within room))
  -- translation-unit (6.9)
  pub external_declarations : Repeats is_no_end (file_item (parts_within limit))
