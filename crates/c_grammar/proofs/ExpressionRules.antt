-- Expressions go forward, are local and stay inside the words.
use Rattle.std.proofs.Common.{◌≡◌, ℕ, zero, suc, nat_lt, nat_le, Bool, true, false, [], refl}
use Rattle.c_tree.specs.declared.tree.ExForm.{ExForm}
use Rattle.c_tree.specs.declared.tree.ExForm.TheVariants as form
use Rattle.c_tree.specs.declared.tree.Param.{Param}
use Rattle.c_expressions.specs.declared.grown.Grown.{Grown}
use Rattle.c_input.specs.declared.word.Sign.{Sign}
use Rattle.c_input.specs.declared.word.Sign.TheVariants as sign
use Rattle.c_input.specs.declared.measured.Measured.{Measured}
use Rattle.c_input.specs.Input.{qualifies, binds}
use Rattle.c_input.specs.Parser.{◌>>=◌, ◌>>◌, pure, look, skip}
use Rattle.c_input.specs.Signs.{is_comma, is_close_paren, is_close_bracket, is_colon}
use Rattle.c_expressions.specs.Nest.{Nest}
use Rattle.c_expressions.specs.Expressions.{is_str, is_star, leaf, over, goes_on_at, strings, string, closed_by, closed_type, cast_rest, paren_by, paren_rest, open_rest, size_of_expr, size_open, sizeof_by, size_of, unary, first_by, first, indexed, argument, arguments_by, arguments, called, member_of, joined, assigned, otherwise, conditional, followed, longer_by, longer, goes_on, climb, expression, after_open, after_name, star_by, from_star}
use Rattle.c_grammar.proofs.Combinators.{Reads, known, reads_pure, reads_refuse, reads_too_deep, reads_left_out, reads_skip, reads_bind, reads_then, reads_from_here, reads_by_state, reads_look, reads_if, reads_if_word, reads_expect, reads_any_name, reads_many_words, reads_separated, reads_gathered}
use Rattle.c_grammar.proofs.SpecifierRules.{ReadsNest}
use Rattle.c_grammar.proofs.DeclaratorRules.{reads_type_name}

reads_strings : {k : ℕ} → Reads k false strings
unfolding strings
reads_strings = reads_bind (reads_many_words is_str refl reads_skip) (λ more. reads_pure _)

reads_string : {moves : Bool} (at : ℕ) → Reads 1 moves (string at)
unfolding string
reads_string at = reads_then reads_skip (reads_bind reads_strings (λ more. reads_pure _))

reads_constant : {moves : Bool} (at : ℕ) (f : ExForm) → Reads 1 moves (skip >> pure (leaf at f))
reads_constant at f = reads_then reads_skip (reads_pure _)

no_continuation : (least level : ℕ) → goes_on_at least level sign.Eof ≡ false
no_continuation least level = refl

module _ (sub : Nest) (rs : ReadsNest sub) where
  reads_closed_by : (t : Measured Param) (q : Sign) → Reads (known q) false (closed_by sub t q)
  reads_closed_by t sign.OpenBrace = reads_left_out
  reads_closed_by t _ = reads_pure t

  reads_closed_type : {k : ℕ} → Reads k false (closed_type sub)
  unfolding closed_type
  reads_closed_type = reads_bind (reads_type_name sub rs) (λ t. reads_then (reads_expect is_close_paren refl) (reads_look (closed_by sub t) (reads_closed_by t)))

  reads_cast_rest : {k : ℕ} (at : ℕ) → Reads k false (cast_rest sub at)
  unfolding cast_rest
  reads_cast_rest at = reads_bind reads_closed_type (λ t. reads_bind (rs.expr 14) (λ e. reads_pure _))

  reads_paren_by : (at : ℕ) (q : Sign) → Reads (known q) false (paren_by sub at q)
  reads_paren_by at sign.OpenBrace = reads_left_out
  reads_paren_by at _ = reads_bind (rs.expr 1) (λ e. reads_then (reads_expect is_close_paren refl) (reads_pure _))

  reads_paren_rest : {k : ℕ} (at : ℕ) → Reads k false (paren_rest sub at)
  unfolding paren_rest
  reads_paren_rest at = reads_look (paren_by sub at) (reads_paren_by at)

  reads_open_rest : {k : ℕ} (least at : ℕ) → Reads k false (open_rest sub least at)
  unfolding open_rest
  reads_open_rest least at = reads_look _ (λ q. reads_if (qualifies false q) (reads_if (nat_le least 14) (reads_cast_rest at) reads_refuse) (reads_paren_rest at))

  reads_size_of_expr : {k : ℕ} (at : ℕ) (e : Grown) → Reads k false (size_of_expr sub at e)
  reads_size_of_expr at e = reads_pure (over at (form.SizeofEx e.tree) e.height 15)

  reads_size_open : {k : ℕ} (at open_at : ℕ) → Reads k false (size_open sub at open_at)
  unfolding size_open
  reads_size_open at open_at = reads_look _ (λ q. reads_if (qualifies false q)
      (reads_bind reads_closed_type (λ t. reads_pure (over at (form.SizeofType t.tree) t.height 15)))
      (reads_bind (rs.opened open_at) (reads_size_of_expr at)))

  reads_sizeof_by : (at : ℕ) (q : Sign) → Reads (known q) false (sizeof_by sub at q)
  reads_sizeof_by at sign.OpenParen = reads_from_here (λ open_at. reads_then reads_skip (reads_size_open at open_at))
  reads_sizeof_by at _ = reads_bind (rs.expr 15) (reads_size_of_expr at)

  reads_size_of : {k : ℕ} (at : ℕ) → Reads k false (size_of sub at)
  unfolding size_of
  reads_size_of at = reads_look (sizeof_by sub at) (reads_sizeof_by at)

  reads_unary : {moves : Bool} (at least : ℕ) → Reads 1 moves (unary sub at least)
  unfolding unary
  reads_unary at least = reads_then reads_skip (reads_bind (rs.expr least) (λ e. reads_pure _))

  reads_first_by : {moves : Bool} (least at : ℕ) (q : Sign) → Reads (known q) moves (first_by sub least at q)
  reads_first_by least at sign.Name = reads_constant at form.Name
  reads_first_by least at sign.Int = reads_constant at form.Int
  reads_first_by least at sign.Float = reads_constant at form.Float
  reads_first_by least at sign.Char = reads_constant at form.Char
  reads_first_by least at sign.Str = reads_string at
  reads_first_by least at sign.OpenParen = reads_then reads_skip (reads_open_rest least at)
  reads_first_by least at sign.Increment = reads_unary at 15
  reads_first_by least at sign.Decrement = reads_unary at 15
  reads_first_by least at sign.Amp = reads_unary at 14
  reads_first_by least at sign.Star = reads_unary at 14
  reads_first_by least at sign.Additive = reads_unary at 14
  reads_first_by least at sign.Complement = reads_unary at 14
  reads_first_by least at sign.Sizeof = reads_then reads_skip (reads_size_of at)
  reads_first_by least at _ = reads_refuse

  reads_first : {k : ℕ} {moves : Bool} (least : ℕ) → Reads k moves (first sub least)
  unfolding first
  reads_first least = reads_by_state (λ s. look (first_by sub least s.at)) (λ s. reads_look (first_by sub least s.at) (reads_first_by least s.at))

  reads_indexed : {moves : Bool} (at : ℕ) (a : Grown) → Reads 1 moves (indexed sub at a)
  unfolding indexed
  reads_indexed at a = reads_then reads_skip (reads_bind (rs.expr 1) (λ e. reads_then (reads_expect is_close_bracket refl) (reads_pure _)))

  pub reads_argument : {k : ℕ} {moves : Bool} → Reads k moves (argument sub)
  unfolding argument
  reads_argument = reads_bind (rs.expr 2) (λ e. reads_pure _)

  reads_arguments_by : (q : Sign) → Reads (known q) false (arguments_by sub q)
  reads_arguments_by sign.CloseParen = reads_pure []
  reads_arguments_by _ = reads_separated is_comma refl reads_argument

  reads_arguments : {k : ℕ} → Reads k false (arguments sub)
  unfolding arguments
  reads_arguments = reads_gathered (reads_look (arguments_by sub) reads_arguments_by)

  reads_called : {moves : Bool} (at : ℕ) (a : Grown) → Reads 1 moves (called sub at a)
  unfolding called
  reads_called at a = reads_then reads_skip (reads_bind reads_arguments (λ args. reads_then (reads_expect is_close_paren refl) (reads_pure _)))

  reads_member_of : {moves : Bool} (at : ℕ) (a : Grown) (q : Sign) → Reads 1 moves (member_of sub at a q)
  unfolding member_of
  reads_member_of at a q = reads_then reads_skip (reads_bind reads_any_name (λ n. reads_pure _))

  reads_joined : {moves : Bool} (at : ℕ) (a : Grown) (l : ℕ) → Reads 1 moves (joined sub at a l)
  unfolding joined
  reads_joined at a l = reads_from_here (λ op. reads_then reads_skip (reads_bind (rs.expr (suc l)) (λ b. reads_pure _)))

  reads_assigned : {moves : Bool} (at : ℕ) (a : Grown) → Reads 1 moves (assigned sub at a)
  unfolding assigned
  reads_assigned at a = reads_from_here (λ op. reads_then reads_skip (reads_bind (rs.expr 2) (λ b. reads_pure _)))

  reads_otherwise : {k : ℕ} (at : ℕ) (a b : Grown) → Reads k false (otherwise sub at a b)
  unfolding otherwise
  reads_otherwise at a b = reads_then (reads_expect is_colon refl) (reads_bind (rs.expr 3) (λ c. reads_pure _))

  reads_conditional : {moves : Bool} (at : ℕ) (a : Grown) → Reads 1 moves (conditional sub at a)
  unfolding conditional
  reads_conditional at a = reads_then reads_skip (reads_bind (rs.expr 1) (λ b. reads_otherwise at a b))

  reads_followed : {moves : Bool} (at : ℕ) (a : Grown) → Reads 1 moves (followed sub at a)
  unfolding followed
  reads_followed at a = reads_then reads_skip (reads_bind (rs.expr 2) (λ b. reads_pure _))

  reads_longer_by : {moves : Bool} (at : ℕ) (a : Grown) (q : Sign) → Reads 1 moves (longer_by sub at a q)
  reads_longer_by at a sign.OpenBracket = reads_indexed at a
  reads_longer_by at a sign.OpenParen = reads_called at a
  reads_longer_by at a sign.Dot = reads_member_of at a sign.Dot
  reads_longer_by at a sign.Arrow = reads_member_of at a sign.Arrow
  reads_longer_by at a sign.Increment = reads_then reads_skip (reads_pure _)
  reads_longer_by at a sign.Decrement = reads_then reads_skip (reads_pure _)
  reads_longer_by at a sign.Equal = reads_assigned at a
  reads_longer_by at a sign.AssignOp = reads_assigned at a
  reads_longer_by at a sign.Question = reads_conditional at a
  reads_longer_by at a sign.Comma = reads_followed at a
  reads_longer_by at a q = reads_joined at a (binds q)

  pub reads_longer : {moves : Bool} (at : ℕ) (a : Grown) (q : Sign) → Reads 1 moves (longer sub at a q)
  unfolding longer
  reads_longer at a q = reads_longer_by at a q

  pub reads_climb : {k : ℕ} (room least n at : ℕ) (a : Grown) → Reads k false (climb sub room least n at a)
  unfolding climb
  reads_climb room least zero at a = reads_look _ (λ q. reads_if (goes_on sub least a q) reads_too_deep (reads_pure a))
  reads_climb room least (suc n) at a = reads_look _ (λ q. reads_if_word (goes_on sub least a) (no_continuation least a.level) q
      (reads_if (nat_lt a.height room) (reads_bind (reads_longer at a q) (reads_climb room least n at)) reads_too_deep)
      (reads_pure a))

  pub reads_expression : {k : ℕ} {moves : Bool} (room least : ℕ) → Reads k moves (expression sub room least)
  unfolding expression
  reads_expression room least = reads_from_here (λ at. reads_bind (reads_first least) (reads_climb room least room at))

  pub reads_after_open : {k : ℕ} (room at : ℕ) → Reads k false (after_open sub room at)
  unfolding after_open
  reads_after_open room at = reads_bind (reads_paren_rest at) (reads_climb room 15 room at)

  pub reads_after_name : {k : ℕ} (room at : ℕ) → Reads k false (after_name sub room at)
  unfolding after_name
  reads_after_name room at = reads_climb room 1 room at (leaf at form.Name)

  reads_star_rest : {k : ℕ} (room at : ℕ) → Reads k false (sub.expr 14 >>= (λ e. climb sub room 2 room at (over at (form.Unary e.tree) e.height 15)))
  reads_star_rest room at = reads_bind (rs.expr 14) (λ e. reads_climb room 2 room at (over at (form.Unary e.tree) e.height 15))

  reads_star_by : (room at : ℕ) (alone : Bool) (q : Sign) → Reads (known q) false (star_by sub room at alone q)
  reads_star_by room at true sign.CloseBracket = reads_left_out
  reads_star_by room at alone _ = reads_star_rest room at

  pub reads_from_star : {k : ℕ} (room : ℕ) (alone : Bool) → Reads k false (from_star sub room alone)
  unfolding from_star
  reads_from_star room alone = reads_from_here (λ at. reads_then (reads_expect is_star refl) (reads_look (star_by sub room at alone) (reads_star_by room at alone)))
