-- The parsers of each level of room, tied together.
use Rattle.std.specs.Prelude.{ℕ, zero, suc, nat_le, Bool, true, false}
use Rattle.c_input.specs.declared.word.Sign.TheVariants as sign
use Rattle.c_input.specs.declared.word.Sign.{Sign}
use Rattle.c_input.specs.Input.{qualifies, binds, begins_expression}
use Rattle.c_input.specs.Parser.{Parser, look, too_deep_here, left_out_here, no_room}
use Rattle.c_expressions.specs.Nest.{Nest}
use Rattle.c_expressions.specs.Specifiers.{member_line}
use Rattle.c_expressions.specs.Declarators.{declarator, begins_declarator}
use Rattle.c_expressions.specs.Expressions.{expression, after_open, after_name, from_star}
use Rattle.c_expressions.specs.declared.grown.Grown.{Grown}

-- what goes on behind a name as an expression statement
abbrev pub continues : Sign → Bool
continues sign.Semicolon = true
continues q = nat_le 1 (binds q)

abbrev pub opened_by : Sign → Parser Grown
opened_by sign.OpenBrace = left_out_here
opened_by q = no_room (begins_expression q)

-- A node of no room is too deep at its first word. One whose first word was taken is so at the next, by which it differs
-- from what needs less room.
abbrev pub nothing : Nest
nothing = record {
  expr = λ least. look (λ q. no_room (begins_expression q));
  opened = λ at. look opened_by;
  named = λ at. look (λ q. no_room (continues q));
  starred = λ alone. too_deep_here;
  declarator = λ m. look (λ q. no_room (begins_declarator m q));
  line = look (λ q. no_room (qualifies false q));
}

abbrev pub one_level : Nest → ℕ → Nest
one_level sub room = record {
  expr = expression sub room;
  opened = after_open sub room;
  named = after_name sub room;
  starred = from_star sub room;
  declarator = declarator sub room;
  line = member_line sub room;
}

unfoldable pub nest : ℕ → Nest
nest zero = nothing
nest (suc room) = one_level (nest room) (suc room)
