-- The nodes of labels at each variant.
use Rattle.std.specs.Prelude.{ℕ, ◌+◌, List, [], ◌∷◌, ◌++◌}
use Rattle.program.specs.declared.instructions.Instr.{Instr}
use Rattle.program.specs.declared.graph.Place.{Place}
use Rattle.code_parts.specs.declared.parts.Crossing.{Crossing}
use Rattle.code_parts.specs.declared.parts.Target.{Target}
use Rattle.code_parts.specs.declared.parts.Code.{Code}
use Rattle.code_parts.specs.declared.parts.Code.TheVariants.{Nothing}
use Rattle.code_parts.specs.declared.parts.Part.{Part}
use Rattle.code_parts.specs.declared.parts.Part.TheVariants.{Node, Label, Jump}
use Rattle.code_parts.specs.declared.parts.Fork.{Fork}
use Rattle.code_parts.specs.Sizes.{code_size, fork_size, part_size}
use Rattle.code_parts.specs.Labels.{code_labels, row_labels, part_labels, list_labels}
use Rattle.std.specs.Prelude.{◌≡◌, refl}
use Rattle.code_parts.specs.declared.parts.Code.TheVariants as in_Code
use Rattle.code_parts.specs.declared.parts.Part.TheVariants as in_Part
use denote.Hole.Carrier.{hidden}
use Rattle.code_parts.specs.declared.parts.Code.TheBlock.{hidden-the_row-Part-0, hidden-the_row-Code-1, hidden-the_row-Fork-2}
use native.Mathlib.Omega.{arith}
use Rattle.std.proofs.Common.{append_assoc, append-nil, ap, ◌∙◌}

row_labels_nil : (at : ℕ) → row_labels (hidden-the_row-Part-0 []) at ≡ []
unfolding code_labels part_labels row_labels hidden hidden-the_row-Part-0 hidden-the_row-Code-1 hidden-the_row-Fork-2
row_labels_nil _ = refl

row_labels_cons : (p : Part) (rest : List Part) (at : ℕ) → row_labels (hidden-the_row-Part-0 (p ∷ rest)) at ≡ part_labels p at ++ row_labels (hidden-the_row-Part-0 rest) (at + part_size p)
unfolding code_labels part_labels row_labels hidden hidden-the_row-Part-0 hidden-the_row-Code-1 hidden-the_row-Fork-2
row_labels_cons _ _ _ = refl

pub row_labels_is : (rest : List Part) (at : ℕ) → row_labels (hidden-the_row-Part-0 rest) at ≡ list_labels rest at
row_labels_is [] at = row_labels_nil at
row_labels_is (p ∷ rest) at = row_labels_cons p rest at ∙ ap (λ ns. part_labels p at ++ ns) (row_labels_is rest (at + part_size p))

pub code_labels_nothing : (at : ℕ) → code_labels in_Code.Nothing at ≡ []
unfolding code_labels part_labels row_labels hidden hidden-the_row-Part-0 hidden-the_row-Code-1 hidden-the_row-Fork-2
code_labels_nothing _ = refl

code_labels_parts_row : (n : ℕ) (row : List Part) (at : ℕ) → code_labels (in_Code.Parts n row) at ≡ row_labels (hidden-the_row-Part-0 row) at
unfolding code_labels part_labels row_labels hidden hidden-the_row-Part-0 hidden-the_row-Code-1 hidden-the_row-Fork-2
code_labels_parts_row _ _ _ = refl

pub code_labels_parts : (n : ℕ) (row : List Part) (at : ℕ) → code_labels (in_Code.Parts n row) at ≡ list_labels row at
code_labels_parts n row at = grind (arith, code_labels_parts_row n row at, row_labels_is)

pub part_labels_node : (place : Place) (i : Instr) (at : ℕ) → part_labels (in_Part.Node place i) at ≡ []
unfolding code_labels part_labels row_labels hidden hidden-the_row-Part-0 hidden-the_row-Code-1 hidden-the_row-Fork-2
part_labels_node _ _ _ = refl

pub part_labels_label : (place : Place) (at : ℕ) → part_labels (in_Part.Label place) at ≡ at ∷ []
unfolding code_labels part_labels row_labels hidden hidden-the_row-Part-0 hidden-the_row-Code-1 hidden-the_row-Fork-2
part_labels_label _ _ = refl

pub part_labels_jump : (place : Place) (c : Crossing) (target : Target) (at : ℕ) → part_labels (in_Part.Jump place c target) at ≡ []
unfolding code_labels part_labels row_labels hidden hidden-the_row-Part-0 hidden-the_row-Code-1 hidden-the_row-Fork-2
part_labels_jump _ _ _ _ = refl

pub part_labels_branch : (f : Fork) (a : Code) (b : Code) (at : ℕ) → part_labels (in_Part.Branch f a b) at ≡ code_labels a (at + fork_size f) ++ code_labels b (at + fork_size f + code_size a)
unfolding code_labels part_labels row_labels hidden hidden-the_row-Part-0 hidden-the_row-Code-1 hidden-the_row-Fork-2
part_labels_branch _ _ _ _ = refl

pub part_labels_loop : (place : Place) (f : Fork) (body : Code) (x0 : Code) (at : ℕ) → part_labels (in_Part.Loop place f body x0) at ≡ code_labels body (at + 1 + fork_size f)
unfolding code_labels part_labels row_labels hidden hidden-the_row-Part-0 hidden-the_row-Code-1 hidden-the_row-Fork-2
part_labels_loop _ _ _ _ _ = refl

pub part_labels_forever : (place : Place) (body : Code) (x0 : Code) (at : ℕ) → part_labels (in_Part.Forever place body x0) at ≡ code_labels body (at + 1)
unfolding code_labels part_labels row_labels hidden hidden-the_row-Part-0 hidden-the_row-Code-1 hidden-the_row-Fork-2
part_labels_forever _ _ _ _ = refl

pub part_labels_do : (place : Place) (body : Code) (x0 : Fork) (at : ℕ) → part_labels (in_Part.Do place body x0) at ≡ code_labels body (at + 1)
unfolding code_labels part_labels row_labels hidden hidden-the_row-Part-0 hidden-the_row-Code-1 hidden-the_row-Fork-2
part_labels_do _ _ _ _ = refl

pub part_labels_switch : (c : Code) (at : ℕ) → part_labels (in_Part.Switch c) at ≡ code_labels c at
unfolding code_labels part_labels row_labels hidden hidden-the_row-Part-0 hidden-the_row-Code-1 hidden-the_row-Fork-2
part_labels_switch _ _ = refl

pub ruleset label_rules = (append_assoc, append-nil, code_labels_nothing, code_labels_parts, part_labels_node, part_labels_label, part_labels_jump, part_labels_branch, part_labels_loop, part_labels_forever, part_labels_do, part_labels_switch)
