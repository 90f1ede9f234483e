-- How many nodes code has, at each variant.
use Rattle.std.specs.Prelude.{ℕ, ◌+◌, List}
use Rattle.program.specs.declared.expressions.Expr.{Expr}
use Rattle.program.specs.declared.instructions.Instr.{Instr}
use Rattle.program.specs.declared.graph.Place.{Place}
use Rattle.code_parts.specs.declared.parts.Crossing.{Crossing}
use Rattle.code_parts.specs.declared.parts.Target.{Target}
use Rattle.code_parts.specs.declared.parts.Code.{Code}
use Rattle.code_parts.specs.declared.parts.Code.TheVariants.{Nothing, Parts}
use Rattle.code_parts.specs.declared.parts.Part.{Part}
use Rattle.code_parts.specs.declared.parts.Part.TheVariants.{Node, Label, Jump}
use Rattle.code_parts.specs.declared.parts.Fork.{Fork}
use Rattle.code_parts.specs.declared.parts.Fork.TheVariants as fork
use Rattle.code_parts.specs.Sizes.{crossing_size, code_size, fork_size, part_size}
use Rattle.std.specs.Prelude.{◌≡◌, refl}
use Rattle.code_parts.specs.declared.parts.Code.TheVariants as in_Code
use Rattle.code_parts.specs.declared.parts.Part.TheVariants as in_Part
use denote.Hole.Carrier.{hidden}
use Rattle.code_parts.specs.declared.parts.Code.TheBlock.{hidden-the_row-Part-0, hidden-the_row-Code-1, hidden-the_row-Fork-2}

pub code_size_nothing : code_size in_Code.Nothing ≡ 0
unfolding code_size fork_size part_size hidden hidden-the_row-Part-0 hidden-the_row-Code-1 hidden-the_row-Fork-2
code_size_nothing = refl

pub code_size_parts : (n : ℕ) (x0 : List Part) → code_size (in_Code.Parts n x0) ≡ n
unfolding code_size fork_size part_size hidden hidden-the_row-Part-0 hidden-the_row-Code-1 hidden-the_row-Fork-2
code_size_parts _ _ = refl

pub fork_size_test : (c : Code) (place : Place) (e : Expr) → fork_size (fork.Test c place e) ≡ code_size c + 1
unfolding code_size fork_size part_size hidden hidden-the_row-Part-0 hidden-the_row-Code-1 hidden-the_row-Fork-2
fork_size_test _ _ _ = refl

pub fork_size_not : (a : Fork) → fork_size (fork.Not a) ≡ fork_size a
unfolding code_size fork_size part_size hidden hidden-the_row-Part-0 hidden-the_row-Code-1 hidden-the_row-Fork-2
fork_size_not _ = refl

pub fork_size_and : (n : ℕ) (x0 : Fork) (x1 : Fork) → fork_size (fork.And n x0 x1) ≡ n
unfolding code_size fork_size part_size hidden hidden-the_row-Part-0 hidden-the_row-Code-1 hidden-the_row-Fork-2
fork_size_and _ _ _ = refl

pub fork_size_or : (n : ℕ) (x0 : Fork) (x1 : Fork) → fork_size (fork.Or n x0 x1) ≡ n
unfolding code_size fork_size part_size hidden hidden-the_row-Part-0 hidden-the_row-Code-1 hidden-the_row-Fork-2
fork_size_or _ _ _ = refl

pub part_size_node : (place : Place) (i : Instr) → part_size (in_Part.Node place i) ≡ 1
unfolding code_size fork_size part_size hidden hidden-the_row-Part-0 hidden-the_row-Code-1 hidden-the_row-Fork-2
part_size_node _ _ = refl

pub part_size_label : (place : Place) → part_size (in_Part.Label place) ≡ 1
unfolding code_size fork_size part_size hidden hidden-the_row-Part-0 hidden-the_row-Code-1 hidden-the_row-Fork-2
part_size_label _ = refl

pub part_size_jump : (place : Place) (c : Crossing) (target : Target) → part_size (in_Part.Jump place c target) ≡ crossing_size c
unfolding code_size fork_size part_size hidden hidden-the_row-Part-0 hidden-the_row-Code-1 hidden-the_row-Fork-2
part_size_jump _ _ _ = refl

pub part_size_branch : (f : Fork) (a : Code) (b : Code) → part_size (in_Part.Branch f a b) ≡ fork_size f + code_size a + code_size b
unfolding code_size fork_size part_size hidden hidden-the_row-Part-0 hidden-the_row-Code-1 hidden-the_row-Fork-2
part_size_branch _ _ _ = refl

pub part_size_loop : (place : Place) (f : Fork) (body : Code) (last : Code) → part_size (in_Part.Loop place f body last) ≡ 1 + fork_size f + code_size body + code_size last
unfolding code_size fork_size part_size hidden hidden-the_row-Part-0 hidden-the_row-Code-1 hidden-the_row-Fork-2
part_size_loop _ _ _ _ = refl

pub part_size_forever : (place : Place) (body : Code) (last : Code) → part_size (in_Part.Forever place body last) ≡ 1 + code_size body + code_size last
unfolding code_size fork_size part_size hidden hidden-the_row-Part-0 hidden-the_row-Code-1 hidden-the_row-Fork-2
part_size_forever _ _ _ = refl

pub part_size_do : (place : Place) (body : Code) (f : Fork) → part_size (in_Part.Do place body f) ≡ 1 + code_size body + fork_size f
unfolding code_size fork_size part_size hidden hidden-the_row-Part-0 hidden-the_row-Code-1 hidden-the_row-Fork-2
part_size_do _ _ _ = refl

pub part_size_switch : (c : Code) → part_size (in_Part.Switch c) ≡ code_size c
unfolding code_size fork_size part_size hidden hidden-the_row-Part-0 hidden-the_row-Code-1 hidden-the_row-Fork-2
part_size_switch _ = refl

pub ruleset size_equations = (code_size_nothing, code_size_parts, fork_size_test, fork_size_not, fork_size_and, fork_size_or, part_size_node, part_size_label, part_size_jump, part_size_branch, part_size_loop, part_size_forever, part_size_do, part_size_switch)
