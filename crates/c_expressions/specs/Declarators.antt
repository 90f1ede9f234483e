-- Declarators, parameters and type names (6.7.6, 6.7.7).
use Rattle.std.specs.Prelude.{ℕ, zero, suc, ◌-◌, max, nat_lt, Bool, true, false, ◌||◌, is_some, List, [], ◌∷◌, ◌++◌, length, take, Option, Some, None, Ok}
use Rattle.c_tree.specs.declared.tree.Ex.{Ex}
use Rattle.c_tree.specs.declared.tree.Param.{Param, roll-Param}
use Rattle.c_tree.specs.declared.tree.Declarator.{Declarator, roll-Declarator}
use Rattle.c_tree.specs.declared.tree.DeclForm.{DeclForm}
use Rattle.c_tree.specs.declared.tree.DeclForm.TheVariants as form
use Rattle.c_expressions.specs.declared.grown.Declares.{Declares}
use Rattle.c_expressions.specs.declared.grown.Grown.{Grown}
use Rattle.c_expressions.specs.declared.grown.Mode.{Mode}
use Rattle.c_expressions.specs.declared.declarators.Listed.{Listed}
use Rattle.c_expressions.specs.declared.grown.Mode.TheVariants as mode
use Rattle.c_input.specs.declared.word.Sign.TheVariants as sign
use Rattle.c_input.specs.declared.word.Sign.{Sign}
use Rattle.c_input.specs.Input.{Names, oldest, specifies, is_name}
use Rattle.c_input.specs.declared.measured.Measured.{Measured}
use Rattle.c_input.specs.Parser.{Parser, ◌>>=◌, ◌>>◌, pure, look, here, skip, refuse, too_deep_here, left_out_here, if_so, expect, take_name, declare, most_words, many}
use Rattle.c_input.specs.Signs.{is_comma, is_close_paren, is_close_bracket}
use Rattle.c_expressions.specs.Nest.{Nest}
use Rattle.c_expressions.specs.Specifiers.{qualifier_specs, declaration_specs}

abbrev pub is_ellipsis : Sign → Bool
is_ellipsis sign.Ellipsis = true
is_ellipsis _ = false

abbrev pub is_qualifier : Sign → Bool
is_qualifier sign.Qualifier = true
is_qualifier _ = false

-- a suffix
abbrev pub goes_on : Sign → Bool
goes_on sign.OpenParen = true
goes_on sign.OpenBracket = true
goes_on _ = false

abbrev pub node : ℕ → DeclForm → Declarator
node at f = roll-Declarator (record { at = at; form = f })

abbrev pub leaf : ℕ → DeclForm → Option ℕ → Declares
leaf at f name = record { tree = node at f; height = 1; name = name; params = None }

-- one production around it
abbrev pub around : ℕ → DeclForm → ℕ → Declares → Declares
around at f height d = record { tree = node at f; height = suc height; name = d.name; params = d.params }

-- the first list of parameters that is complete declares those of a definition (6.9.1)
abbrev pub or_first : {A : Type 0} → Option A → A → Option A
or_first (Some x) y = Some x
or_first None y = Some y

abbrev pub is_empty : {A : Type 0} → List A → Bool
is_empty [] = true
is_empty _ = false

-- a list of parameters, and whether three dots end it
abbrev pub Params : Type 0
Params = Measured (List Param) × Bool

abbrev pub no_params : Params
no_params = (record { tree = []; height = 0 }, false)

abbrev pub in_front : Measured Param → Params → Params
in_front x more = (record { tree = x.tree ∷ more.0.tree; height = max x.height more.0.height }, more.1)

abbrev pub last_one : Measured Param → Bool → Params
last_one x dots = (record { tree = x.tree ∷ []; height = x.height }, dots)

-- in brackets
abbrev pub enclosed : Mode → Mode
enclosed mode.Parameter = mode.Enclosed
enclosed m = m

-- the first word of a declarator, or the one behind an abstract declarator without words
abbrev pub begins_declarator : Mode → Sign → Bool
begins_declarator m sign.Star = true
begins_declarator m sign.OpenParen = true
begins_declarator mode.Abstract sign.OpenBracket = true
begins_declarator mode.Abstract sign.CloseParen = true
begins_declarator mode.Abstract _ = false
begins_declarator mode.Named q = is_name q
begins_declarator m sign.OpenBracket = true
begins_declarator m sign.CloseParen = true
begins_declarator mode.Parameter sign.Comma = true
begins_declarator m q = is_name q

-- a word that is taken, by its place
abbrev pub taken : Parser ℕ
taken = here >>= (λ at. skip >> pure at)

unfoldable pub qualifiers : Parser (List ℕ)
qualifiers = many is_qualifier taken

abbrev pub length_tree : Option Grown → Option Ex
length_tree None = None
length_tree (Some e) = Some e.tree

abbrev pub length_height : Option Grown → ℕ
length_height None = 0
length_height (Some e) = e.height

abbrev pub array_of : ℕ → Declares → List ℕ → Option Grown → Declares
array_of at d words length = around at (form.Array d.tree words (length_tree length)) (max d.height (length_height length)) d

module _ (sub : Nest) where
  -- pointer (6.7.6): one node for each `*`
  unfoldable pub pointer : Mode → ℕ → Parser Declares
  pointer m at = do
    skip
    words ← qualifiers
    d ← sub.declarator m
    pure (around at (form.Pointer words d.tree) d.height d)

  abbrev pub declare_param : Declares → Bool → Parser (Unit {0})
  declare_param d t = by_name d.name
    where
      by_name : Option ℕ → Parser (Unit {0})
      by_name (Some n) = declare n t
      by_name None = pure tt

  -- parameter-declaration
  unfoldable pub parameter : Parser (Measured Param)
  parameter = do
    at ← here
    a ← declaration_specs sub
    d ← sub.declarator mode.Parameter
    declare_param d a.is_typedef
    pure (record { tree = roll-Param (record { at = at; specs = a.list; declarator = d.tree }); height = max a.height d.height })

  -- type-name (6.7.7)
  unfoldable pub type_name : Parser (Measured Param)
  type_name = do
    at ← here
    a ← qualifier_specs sub
    d ← sub.declarator mode.Abstract
    pure (record { tree = roll-Param (record { at = at; specs = a.list; declarator = d.tree }); height = max a.height d.height })

  -- after a comma one more, or the three dots that end the list (parameter-type-list)
  unfoldable pub parameters_from : ℕ → Parser Params
  parameters_from zero = pure no_params
  parameters_from (suc n) = parameter >>= (λ x. look (λ q. if_so (is_comma q)
      (skip >> look (λ p. if_so (is_ellipsis p) (skip >> pure (last_one x true)) (parameters_from n >>= (λ rest. pure (in_front x rest)))))
      (pure (last_one x false))))

  unfoldable pub parameters : Parser Params
  parameters = λ W s. parameters_from (most_words - s.at) W s

  -- The scope of a parameter ends with its list (6.2.1p4). What the list declared is kept for a definition.
  abbrev pub end_list : Names → Params → Parser Listed
  end_list outer l = λ W t. Ok (
    record {
      params = l.0.tree;
      height = l.0.height;
      variadic = l.1;
      names = take (length t.names - length outer) t.names;
    },
    record { at = t.at; names = oldest (length outer) t.names },
  )

  unfoldable pub some_listed : Parser Listed
  some_listed = λ W s. (parameters >>= end_list s.names) W s

  -- an identifier list is left out at its first name
  abbrev pub listed_by : Bool → Sign → Parser Listed
  listed_by named sign.CloseParen = pure (record { params = []; height = 0; variadic = false; names = [] })
  listed_by true sign.Name = left_out_here
  listed_by named _ = some_listed

  unfoldable pub listed : Bool → Parser Listed
  listed named = look (listed_by named)

  -- a function declarator behind its bracket (6.7.6.3)
  unfoldable pub function_rest : ℕ → Declares → Parser Declares
  function_rest at d = do
    l ← listed (is_some d.name)
    expect is_close_paren
    pure (record {
      tree = node at (form.Function d.tree l.params l.variadic);
      height = suc (max d.height l.height);
      name = d.name;
      params = or_first d.params l.names;
    })

  -- the words of an array declarator, and its length (6.7.6.2)
  abbrev pub length_by : Bool → List ℕ → Sign → Parser (List ℕ × Option Grown)
  length_by named words sign.CloseBracket = pure (words, None)
  length_by named words sign.Static = do
    word ← here
    skip
    e ← sub.expr 2
    pure (words ++ word ∷ [], Some e)
  length_by named words sign.Star = sub.starred (is_empty words || named) >>= (λ e. pure (words, Some e))
  length_by named words _ = sub.expr 2 >>= (λ e. pure (words, Some e))

  abbrev pub words_by : Bool → Sign → Parser (List ℕ × Option Grown)
  words_by named sign.Static = do
    word ← here
    skip
    words ← qualifiers
    e ← sub.expr 2
    pure (word ∷ words, Some e)
  words_by named _ = qualifiers >>= (λ words. look (length_by named words))

  unfoldable pub array_words : Bool → Parser (List ℕ × Option Grown)
  array_words named = look (words_by named)

  unfoldable pub array_rest : ℕ → Declares → Parser Declares
  array_rest at d = do
    skip
    a ← array_words (is_some d.name)
    expect is_close_bracket
    pure (array_of at d a.0 a.1)

  unfoldable pub paren_rest : Mode → ℕ → Parser Declares
  paren_rest m at = do
    d ← sub.declarator (enclosed m)
    expect is_close_paren
    pure (around at (form.Paren d.tree) d.height d)

  -- Behind a bracket where a name may be left out: a list of parameters around an abstract declarator without words, or a
  -- declarator in brackets. A typedef name begins a parameter (6.7.6.3p11).
  abbrev pub open_by : ℕ → Mode → ℕ → Sign → Parser Declares
  open_by room m at q = if_so (is_close_paren q || specifies false q)
      (if_so (nat_lt 1 room) (function_rest at (leaf at form.Abstract None)) too_deep_here)
      (paren_rest m at)

  abbrev pub named_by : ℕ → Sign → Parser Declares
  named_by at sign.OpenParen = skip >> paren_rest mode.Named at
  named_by at q = if_so (is_name q) (take_name >>= (λ n. pure (leaf at form.Name (Some n.0)))) refuse

  abbrev pub unnamed_by : ℕ → Mode → ℕ → Sign → Parser Declares
  unnamed_by room m at sign.OpenParen = skip >> look (open_by room m at)
  unnamed_by room mode.Abstract at _ = pure (leaf at form.Abstract None)
  unnamed_by room m at q = if_so (is_name q) (take_name >>= (λ n. pure (leaf at form.Name (Some n.0)))) (pure (leaf at form.Abstract None))

  -- direct-declarator and direct-abstract-declarator without what follows
  abbrev pub direct_by : ℕ → Mode → ℕ → Sign → Parser Declares
  direct_by room mode.Named at q = named_by at q
  direct_by room m at q = unnamed_by room m at q

  unfoldable pub longer : ℕ → Declares → Sign → Parser Declares
  longer at d sign.OpenBracket = array_rest at d
  longer at d _ = skip >> function_rest at d

  -- The room is that of the whole declarator, and the second number bounds the turns.
  unfoldable pub suffixes : ℕ → ℕ → ℕ → Declares → Parser Declares
  suffixes room zero at d = look (λ q. if_so (goes_on q) too_deep_here (pure d))
  suffixes room (suc n) at d = look (λ q. if_so (goes_on q)
      (if_so (nat_lt d.height room) (longer at d q >>= suffixes room n at) too_deep_here)
      (pure d))

  unfoldable pub direct : ℕ → Mode → Parser Declares
  direct room m = do
    at ← here
    d ← look (direct_by room m at)
    suffixes room room at d

  -- declarator and abstract-declarator; what follows a pointer belongs to what it points from
  abbrev pub declarator_by : ℕ → Mode → Sign → Parser Declares
  declarator_by room m sign.Star = here >>= pointer m
  declarator_by room m _ = direct room m

  unfoldable pub declarator : ℕ → Mode → Parser Declares
  declarator room m = look (declarator_by room m)
