-- Declarators, parameters and type names go forward, are local and stay inside the words.
use Rattle.std.proofs.Common.{ℕ, zero, suc, ◌-◌, ◌||◌, nat_lt, is_some, Bool, true, false, List, [], Option, Some, None, refl}
use Rattle.c_tree.specs.declared.tree.DeclForm.TheVariants as form
use Rattle.c_expressions.specs.declared.grown.Mode.{Mode}
use Rattle.c_expressions.specs.declared.grown.Mode.TheVariants as mode
use Rattle.c_expressions.specs.declared.grown.Declares.{Declares}
use Rattle.c_input.specs.declared.word.Sign.{Sign}
use Rattle.c_input.specs.declared.word.Sign.TheVariants as sign
use Rattle.c_input.specs.Input.{specifies, is_name}
use Rattle.c_input.specs.Parser.{◌>>=◌, pure, take_name, most_words}
use Rattle.c_input.specs.Signs.{is_comma, is_close_paren, is_close_bracket}
use Rattle.c_expressions.specs.Nest.{Nest}
use Rattle.c_expressions.specs.Declarators.{is_ellipsis, is_qualifier, goes_on, leaf, no_params, in_front, last_one, enclosed, taken, qualifiers, pointer, declare_param, parameter, type_name, parameters_from, parameters, some_listed, listed_by, listed, function_rest, is_empty, length_by, words_by, array_words, array_rest, paren_rest, open_by, named_by, unnamed_by, direct_by, longer, suffixes, direct, declarator_by, declarator}
use Rattle.c_grammar.proofs.Combinators.{Reads, known, reads_pure, reads_refuse, reads_too_deep, reads_left_out, reads_skip, reads_take_name, reads_to_scope, reads_declare, reads_bind, reads_then, reads_from_here, reads_by_state, reads_look, reads_if, reads_if_word, reads_expect, reads_many_words}
use Rattle.c_grammar.proofs.SpecifierRules.{ReadsNest, reads_declaration_specs, reads_qualifier_specs}

pub reads_taken : {moves : Bool} → Reads 1 moves taken
reads_taken = reads_from_here (λ at. reads_then reads_skip (reads_pure _))

pub reads_qualifiers : {k : ℕ} → Reads k false qualifiers
unfolding qualifiers
reads_qualifiers = reads_many_words is_qualifier refl reads_taken

module _ (sub : Nest) (rs : ReadsNest sub) where
  reads_pointer : {moves : Bool} (m : Mode) (at : ℕ) → Reads 1 moves (pointer sub m at)
  unfolding pointer
  reads_pointer m at = reads_then reads_skip (reads_bind reads_qualifiers (λ words. reads_bind (rs.declarator m) (λ d. reads_pure _)))

  reads_declare_param : {k : ℕ} (d : Declares) (t : Bool) → Reads k false (declare_param sub d t)
  reads_declare_param d t = by_name d.name
    where
      by_name : {k : ℕ} (name : Option ℕ) → Reads k false (declare_param sub (record d { name = name }) t)
      by_name (Some n) = reads_declare n t
      by_name None = reads_pure tt

  pub reads_parameter : {k : ℕ} {moves : Bool} → Reads k moves (parameter sub)
  unfolding parameter
  reads_parameter = reads_from_here (λ at. reads_bind (reads_declaration_specs sub rs) (λ a. reads_bind (rs.declarator mode.Parameter) (λ d.
      reads_then (reads_declare_param d a.is_typedef) (reads_pure _))))

  pub reads_type_name : {k : ℕ} → Reads k false (type_name sub)
  unfolding type_name
  reads_type_name = reads_from_here (λ at. reads_bind (reads_qualifier_specs sub rs) (λ a. reads_bind (rs.declarator mode.Abstract) (λ d. reads_pure _)))

  pub reads_parameters_from : {k : ℕ} (n : ℕ) → Reads k false (parameters_from sub n)
  unfolding parameters_from
  reads_parameters_from zero = reads_pure no_params
  reads_parameters_from (suc n) = reads_bind reads_parameter (λ x. reads_look _ (λ q. reads_if_word is_comma refl q
      (reads_then reads_skip (reads_look _ (λ p. reads_if_word is_ellipsis refl p
      (reads_then reads_skip (reads_pure (last_one x true)))
      (reads_bind (reads_parameters_from n) (λ rest. reads_pure (in_front x rest))))))
      (reads_pure (last_one x false))))

  pub reads_parameters : {k : ℕ} → Reads k false (parameters sub)
  unfolding parameters
  reads_parameters = reads_by_state (λ s. parameters_from sub (most_words - s.at)) (λ s. reads_parameters_from (most_words - s.at))

  reads_some_listed : {k : ℕ} → Reads k false (some_listed sub)
  unfolding some_listed
  reads_some_listed = reads_to_scope _ reads_parameters

  reads_listed_by : (named : Bool) (q : Sign) → Reads (known q) false (listed_by sub named q)
  reads_listed_by named sign.CloseParen = reads_pure (record { params = []; height = 0; variadic = false; names = [] })
  reads_listed_by true sign.Name = reads_left_out
  reads_listed_by named _ = reads_some_listed

  reads_listed : {k : ℕ} (named : Bool) → Reads k false (listed sub named)
  unfolding listed
  reads_listed named = reads_look (listed_by sub named) (reads_listed_by named)

  reads_function_rest : {k : ℕ} (at : ℕ) (d : Declares) → Reads k false (function_rest sub at d)
  unfolding function_rest
  reads_function_rest at d = reads_bind (reads_listed (is_some d.name)) (λ l. reads_then (reads_expect is_close_paren refl) (reads_pure _))

  reads_length_by : (named : Bool) (words : List ℕ) (q : Sign) → Reads (known q) false (length_by sub named words q)
  reads_length_by named words sign.CloseBracket = reads_pure (words, None)
  reads_length_by named words sign.Static = reads_from_here (λ word. reads_then reads_skip (reads_bind (rs.expr 2) (λ e. reads_pure _)))
  reads_length_by named words sign.Star = reads_bind (rs.starred (is_empty words || named)) (λ e. reads_pure _)
  reads_length_by named words _ = reads_bind (rs.expr 2) (λ e. reads_pure _)

  reads_words_by : (named : Bool) (q : Sign) → Reads (known q) false (words_by sub named q)
  reads_words_by named sign.Static = reads_from_here (λ word. reads_then reads_skip (reads_bind reads_qualifiers (λ words. reads_bind (rs.expr 2) (λ e. reads_pure _))))
  reads_words_by named _ = reads_bind reads_qualifiers (λ words. reads_look (length_by sub named words) (reads_length_by named words))

  reads_array_words : {k : ℕ} (named : Bool) → Reads k false (array_words sub named)
  unfolding array_words
  reads_array_words named = reads_look (words_by sub named) (reads_words_by named)

  reads_array_rest : {moves : Bool} (at : ℕ) (d : Declares) → Reads 1 moves (array_rest sub at d)
  unfolding array_rest
  reads_array_rest at d = reads_then reads_skip (reads_bind (reads_array_words (is_some d.name)) (λ a. reads_then (reads_expect is_close_bracket refl) (reads_pure _)))

  reads_paren_rest : {k : ℕ} (m : Mode) (at : ℕ) → Reads k false (paren_rest sub m at)
  unfolding paren_rest
  reads_paren_rest m at = reads_bind (rs.declarator (enclosed m)) (λ d. reads_then (reads_expect is_close_paren refl) (reads_pure _))

  reads_open_by : {k : ℕ} (room : ℕ) (m : Mode) (at : ℕ) (q : Sign) → Reads k false (open_by sub room m at q)
  reads_open_by room m at q = reads_if (is_close_paren q || specifies false q)
      (reads_if (nat_lt 1 room) (reads_function_rest at (leaf at form.Abstract None)) reads_too_deep)
      (reads_paren_rest m at)

  reads_name_leaf : {moves : Bool} (at : ℕ) → Reads 1 moves (take_name >>= (λ n. pure (leaf at form.Name (Some n.0))))
  reads_name_leaf at = reads_bind reads_take_name (λ n. reads_pure (leaf at form.Name (Some n.0)))

  reads_named_by : {moves : Bool} (at : ℕ) (q : Sign) → Reads (known q) moves (named_by sub at q)
  reads_named_by at sign.OpenParen = reads_then reads_skip (reads_paren_rest mode.Named at)
  reads_named_by at q = reads_if_word is_name refl q (reads_name_leaf at) reads_refuse

  reads_unnamed_by : (room : ℕ) (m : Mode) (at : ℕ) (q : Sign) → Reads (known q) false (unnamed_by sub room m at q)
  reads_unnamed_by room m at sign.OpenParen = reads_then reads_skip (reads_look (open_by sub room m at) (λ q. reads_open_by room m at q))
  reads_unnamed_by room mode.Abstract at _ = reads_pure (leaf at form.Abstract None)
  reads_unnamed_by room m at q = reads_if_word is_name refl q (reads_name_leaf at) (reads_pure (leaf at form.Abstract None))

  reads_direct_by : (room : ℕ) (m : Mode) (at : ℕ) (q : Sign) → Reads (known q) false (direct_by sub room m at q)
  reads_direct_by room mode.Named at q = reads_named_by at q
  reads_direct_by room m at q = reads_unnamed_by room m at q

  pub reads_longer : {moves : Bool} (at : ℕ) (d : Declares) (q : Sign) → Reads 1 moves (longer sub at d q)
  unfolding longer
  reads_longer at d sign.OpenBracket = reads_array_rest at d
  reads_longer at d _ = reads_then reads_skip (reads_function_rest at d)

  reads_suffixes : {k : ℕ} (room n at : ℕ) (d : Declares) → Reads k false (suffixes sub room n at d)
  unfolding suffixes
  reads_suffixes room zero at d = reads_look _ (λ q. reads_if (goes_on q) reads_too_deep (reads_pure d))
  reads_suffixes room (suc n) at d = reads_look _ (λ q. reads_if_word goes_on refl q
      (reads_if (nat_lt d.height room) (reads_bind (reads_longer at d q) (reads_suffixes room n at)) reads_too_deep)
      (reads_pure d))

  reads_direct : {k : ℕ} (room : ℕ) (m : Mode) → Reads k false (direct sub room m)
  unfolding direct
  reads_direct room m = reads_from_here (λ at. reads_bind (reads_look (direct_by sub room m at) (reads_direct_by room m at)) (reads_suffixes room room at))

  reads_named_direct : {k : ℕ} {moves : Bool} (room : ℕ) → Reads k moves (direct sub room mode.Named)
  unfolding direct
  reads_named_direct room = reads_from_here (λ at. reads_bind (reads_look (direct_by sub room mode.Named at) (reads_named_by at)) (reads_suffixes room room at))

  reads_named_declarator_by : {moves : Bool} (room : ℕ) (q : Sign) → Reads (known q) moves (declarator_by sub room mode.Named q)
  reads_named_declarator_by room sign.Star = reads_from_here (reads_pointer mode.Named)
  reads_named_declarator_by room _ = reads_named_direct room

  pub reads_named_declarator : {k : ℕ} {moves : Bool} (room : ℕ) → Reads k moves (declarator sub room mode.Named)
  unfolding declarator
  reads_named_declarator room = reads_look (declarator_by sub room mode.Named) (reads_named_declarator_by room)

  reads_declarator_by : (room : ℕ) (m : Mode) (q : Sign) → Reads (known q) false (declarator_by sub room m q)
  reads_declarator_by room m sign.Star = reads_from_here (reads_pointer m)
  reads_declarator_by room m _ = reads_direct room m

  pub reads_declarator : {k : ℕ} (room : ℕ) (m : Mode) → Reads k false (declarator sub room m)
  unfolding declarator
  reads_declarator room m = reads_look (declarator_by sub room m) (reads_declarator_by room m)
