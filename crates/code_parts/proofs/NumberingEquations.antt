-- Where control goes that comes to code, and its nodes, at each variant.
use Rattle.std.specs.Prelude.{ℕ, ◌+◌, List, [], ◌∷◌, ◌++◌}
use Rattle.program.specs.declared.expressions.Expr.{Expr}
use Rattle.program.specs.declared.instructions.Instr.{Instr}
use Rattle.program.specs.declared.graph.Place.{Place}
use Rattle.code_parts.specs.declared.parts.Crossing.{Crossing}
use Rattle.code_parts.specs.declared.parts.Target.{Target}
use Rattle.code_parts.specs.declared.parts.Code.{Code}
use Rattle.code_parts.specs.declared.parts.Code.TheVariants.{Nothing}
use Rattle.code_parts.specs.declared.parts.Part.{Part}
use Rattle.code_parts.specs.declared.parts.Part.TheVariants.{Label, Jump}
use Rattle.code_parts.specs.declared.parts.Part.TheVariants as part
use Rattle.code_parts.specs.declared.parts.Fork.{Fork}
use Rattle.code_parts.specs.declared.nodes.Ends.{Ends}
use Rattle.code_parts.specs.Sizes.{crossing_size, code_size, fork_size, part_size}
use Rattle.code_parts.specs.Numbering.{going_on, looping, switching, guarding, entry, target_node, part_entry, row_entry, list_entry, then_entry, code_entry, node_to, guard_to, leave_nodes, enter_nodes, skip_to, code_nodes, row_nodes, part_nodes, fork_nodes, list_nodes}
use Rattle.std.specs.Prelude.{◌≡◌, refl}
use Rattle.code_parts.specs.declared.parts.Code.TheVariants as in_Code
use Rattle.code_parts.specs.declared.parts.Fork.TheVariants as in_Fork
use denote.Hole.Carrier.{hidden}
use Rattle.code_parts.specs.declared.parts.Code.TheBlock.{hidden-the_row-Part-0, hidden-the_row-Code-1, hidden-the_row-Fork-2}
use native.Mathlib.Omega.{arith}
use Rattle.std.proofs.Common.{append_assoc, append-nil, ap, ◌∙◌}

row_entry_nil : (labels : List ℕ) (at : ℕ) (ends : Ends) → row_entry labels (hidden-the_row-Part-0 []) at ends ≡ list_entry labels [] at ends
unfolding hidden hidden-the_row-Part-0 hidden-the_row-Code-1 hidden-the_row-Fork-2
row_entry_nil _ _ _ = refl

row_entry_cons : (labels : List ℕ) (p : Part) (rest : List Part) (at : ℕ) (ends : Ends) → row_entry labels (hidden-the_row-Part-0 (p ∷ rest)) at ends ≡ part_entry labels p at ends
unfolding hidden hidden-the_row-Part-0 hidden-the_row-Code-1 hidden-the_row-Fork-2
row_entry_cons _ _ _ _ _ = refl

pub row_entry_is : (labels : List ℕ) (rest : List Part) (at : ℕ) (ends : Ends) → row_entry labels (hidden-the_row-Part-0 rest) at ends ≡ list_entry labels rest at ends
row_entry_is labels [] at ends = row_entry_nil labels at ends
row_entry_is labels (p ∷ rest) at ends = row_entry_cons labels p rest at ends

row_nodes_nil : (labels : List ℕ) (at : ℕ) (ends : Ends) → row_nodes labels (hidden-the_row-Part-0 []) at ends ≡ []
unfolding part_entry code_entry code_nodes part_nodes fork_nodes row_nodes hidden hidden-the_row-Part-0 hidden-the_row-Code-1 hidden-the_row-Fork-2
row_nodes_nil _ _ _ = refl

row_nodes_cons : (labels : List ℕ) (p : Part) (rest : List Part) (at : ℕ) (ends : Ends) → row_nodes labels (hidden-the_row-Part-0 (p ∷ rest)) at ends ≡ part_nodes labels p at (going_on ends (row_entry labels (hidden-the_row-Part-0 rest) (at + part_size p) ends)) ++ row_nodes labels (hidden-the_row-Part-0 rest) (at + part_size p) ends
unfolding part_entry code_entry code_nodes part_nodes fork_nodes row_nodes hidden hidden-the_row-Part-0 hidden-the_row-Code-1 hidden-the_row-Fork-2
row_nodes_cons _ _ _ _ _ = refl

pub row_nodes_is : (labels : List ℕ) (rest : List Part) (at : ℕ) (ends : Ends) → row_nodes labels (hidden-the_row-Part-0 rest) at ends ≡ list_nodes labels rest at ends
row_nodes_is labels [] at ends = row_nodes_nil labels at ends
row_nodes_is labels (p ∷ rest) at ends =
    row_nodes_cons labels p rest at ends
    ∙ ap (λ e. part_nodes labels p at (going_on ends e) ++ row_nodes labels (hidden-the_row-Part-0 rest) (at + part_size p) ends) (row_entry_is labels rest (at + part_size p) ends)
    ∙ ap (λ ns. part_nodes labels p at (then_entry labels rest (at + part_size p) ends) ++ ns) (row_nodes_is labels rest (at + part_size p) ends)

pub part_entry_node : (labels : List ℕ) (place : Place) (i : Instr) (at : ℕ) (ends : Ends) → part_entry labels (part.Node place i) at ends ≡ at
unfolding part_entry code_entry code_nodes part_nodes fork_nodes row_nodes hidden hidden-the_row-Part-0 hidden-the_row-Code-1 hidden-the_row-Fork-2
part_entry_node _ _ _ _ _ = refl

pub part_entry_label : (labels : List ℕ) (place : Place) (at : ℕ) (ends : Ends) → part_entry labels (part.Label place) at ends ≡ at
unfolding part_entry code_entry code_nodes part_nodes fork_nodes row_nodes hidden hidden-the_row-Part-0 hidden-the_row-Code-1 hidden-the_row-Fork-2
part_entry_label _ _ _ _ = refl

pub part_entry_jump : (labels : List ℕ) (place : Place) (c : Crossing) (target : Target) (at : ℕ) (ends : Ends) → part_entry labels (part.Jump place c target) at ends ≡ entry (crossing_size c) at (target_node labels ends target)
unfolding part_entry code_entry code_nodes part_nodes fork_nodes row_nodes hidden hidden-the_row-Part-0 hidden-the_row-Code-1 hidden-the_row-Fork-2
part_entry_jump _ _ _ _ _ _ = refl

pub part_entry_branch : (labels : List ℕ) (x0 : Fork) (x1 : Code) (x2 : Code) (at : ℕ) (ends : Ends) → part_entry labels (part.Branch x0 x1 x2) at ends ≡ at
unfolding part_entry code_entry code_nodes part_nodes fork_nodes row_nodes hidden hidden-the_row-Part-0 hidden-the_row-Code-1 hidden-the_row-Fork-2
part_entry_branch _ _ _ _ _ _ = refl

pub part_entry_loop : (labels : List ℕ) (place : Place) (x0 : Fork) (x1 : Code) (x2 : Code) (at : ℕ) (ends : Ends) → part_entry labels (part.Loop place x0 x1 x2) at ends ≡ at
unfolding part_entry code_entry code_nodes part_nodes fork_nodes row_nodes hidden hidden-the_row-Part-0 hidden-the_row-Code-1 hidden-the_row-Fork-2
part_entry_loop _ _ _ _ _ _ _ = refl

pub part_entry_forever : (labels : List ℕ) (place : Place) (x0 : Code) (x1 : Code) (at : ℕ) (ends : Ends) → part_entry labels (part.Forever place x0 x1) at ends ≡ at
unfolding part_entry code_entry code_nodes part_nodes fork_nodes row_nodes hidden hidden-the_row-Part-0 hidden-the_row-Code-1 hidden-the_row-Fork-2
part_entry_forever _ _ _ _ _ _ = refl

pub part_entry_do : (labels : List ℕ) (place : Place) (x0 : Code) (x1 : Fork) (at : ℕ) (ends : Ends) → part_entry labels (part.Do place x0 x1) at ends ≡ at
unfolding part_entry code_entry code_nodes part_nodes fork_nodes row_nodes hidden hidden-the_row-Part-0 hidden-the_row-Code-1 hidden-the_row-Fork-2
part_entry_do _ _ _ _ _ _ = refl

pub part_entry_switch : (labels : List ℕ) (x0 : Code) (at : ℕ) (ends : Ends) → part_entry labels (part.Switch x0) at ends ≡ at
unfolding part_entry code_entry code_nodes part_nodes fork_nodes row_nodes hidden hidden-the_row-Part-0 hidden-the_row-Code-1 hidden-the_row-Fork-2
part_entry_switch _ _ _ _ = refl

pub code_entry_nothing : (labels : List ℕ) (at : ℕ) (ends : Ends) → code_entry labels in_Code.Nothing at ends ≡ ends.next
unfolding part_entry code_entry code_nodes part_nodes fork_nodes row_nodes hidden hidden-the_row-Part-0 hidden-the_row-Code-1 hidden-the_row-Fork-2
code_entry_nothing _ _ _ = refl

code_entry_parts_row : (labels : List ℕ) (n : ℕ) (row : List Part) (at : ℕ) (ends : Ends) → code_entry labels (in_Code.Parts n row) at ends ≡ row_entry labels (hidden-the_row-Part-0 row) at ends
unfolding part_entry code_entry code_nodes part_nodes fork_nodes row_nodes hidden hidden-the_row-Part-0 hidden-the_row-Code-1 hidden-the_row-Fork-2
code_entry_parts_row _ _ _ _ _ = refl

pub code_entry_parts : (labels : List ℕ) (n : ℕ) (row : List Part) (at : ℕ) (ends : Ends) → code_entry labels (in_Code.Parts n row) at ends ≡ list_entry labels row at ends
code_entry_parts labels n row at ends = grind (arith, code_entry_parts_row labels n row at ends, row_entry_is)

pub code_nodes_nothing : (labels : List ℕ) (at : ℕ) (ends : Ends) → code_nodes labels in_Code.Nothing at ends ≡ []
unfolding part_entry code_entry code_nodes part_nodes fork_nodes row_nodes hidden hidden-the_row-Part-0 hidden-the_row-Code-1 hidden-the_row-Fork-2
code_nodes_nothing _ _ _ = refl

code_nodes_parts_row : (labels : List ℕ) (n : ℕ) (row : List Part) (at : ℕ) (ends : Ends) → code_nodes labels (in_Code.Parts n row) at ends ≡ row_nodes labels (hidden-the_row-Part-0 row) at ends
unfolding part_entry code_entry code_nodes part_nodes fork_nodes row_nodes hidden hidden-the_row-Part-0 hidden-the_row-Code-1 hidden-the_row-Fork-2
code_nodes_parts_row _ _ _ _ _ = refl

pub code_nodes_parts : (labels : List ℕ) (n : ℕ) (row : List Part) (at : ℕ) (ends : Ends) → code_nodes labels (in_Code.Parts n row) at ends ≡ list_nodes labels row at ends
code_nodes_parts labels n row at ends = grind (arith, code_nodes_parts_row labels n row at ends, row_nodes_is)

pub part_nodes_node : (labels : List ℕ) (place : Place) (i : Instr) (at : ℕ) (ends : Ends) → part_nodes labels (part.Node place i) at ends ≡ node_to place i ends.next
unfolding part_entry code_entry code_nodes part_nodes fork_nodes row_nodes hidden hidden-the_row-Part-0 hidden-the_row-Code-1 hidden-the_row-Fork-2
part_nodes_node _ _ _ _ _ = refl

pub part_nodes_label : (labels : List ℕ) (place : Place) (at : ℕ) (ends : Ends) → part_nodes labels (part.Label place) at ends ≡ skip_to place ends.next
unfolding part_entry code_entry code_nodes part_nodes fork_nodes row_nodes hidden hidden-the_row-Part-0 hidden-the_row-Code-1 hidden-the_row-Fork-2
part_nodes_label _ _ _ _ = refl

pub part_nodes_jump : (labels : List ℕ) (place : Place) (c : Crossing) (target : Target) (at : ℕ) (ends : Ends) → part_nodes labels (part.Jump place c target) at ends ≡ leave_nodes place c at (target_node labels ends target) ++ enter_nodes place c (target_node labels ends target)
unfolding part_entry code_entry code_nodes part_nodes fork_nodes row_nodes hidden hidden-the_row-Part-0 hidden-the_row-Code-1 hidden-the_row-Fork-2
part_nodes_jump _ _ _ _ _ _ = refl

pub part_nodes_branch : (labels : List ℕ) (f : Fork) (a : Code) (b : Code) (at : ℕ) (ends : Ends) → part_nodes labels (part.Branch f a b) at ends ≡ let first = at + fork_size f in let second = first + code_size a in fork_nodes labels f at (code_entry labels a first ends) (code_entry labels b second ends) ++ (code_nodes labels a first ends ++ code_nodes labels b second ends)
unfolding part_entry code_entry code_nodes part_nodes fork_nodes row_nodes hidden hidden-the_row-Part-0 hidden-the_row-Code-1 hidden-the_row-Fork-2
part_nodes_branch _ _ _ _ _ _ = refl

pub part_nodes_loop : (labels : List ℕ) (place : Place) (f : Fork) (body : Code) (last : Code) (at : ℕ) (ends : Ends) → part_nodes labels (part.Loop place f body last) at ends ≡ let first = at + 1 + fork_size f in let second = first + code_size body in let again = code_entry labels last second (going_on ends at) in skip_to place (at + 1) ++ (fork_nodes labels f (at + 1) (code_entry labels body first (looping ends again)) ends.next ++ (code_nodes labels body first (looping ends again) ++ code_nodes labels last second (going_on ends at)))
unfolding part_entry code_entry code_nodes part_nodes fork_nodes row_nodes hidden hidden-the_row-Part-0 hidden-the_row-Code-1 hidden-the_row-Fork-2
part_nodes_loop _ _ _ _ _ _ _ = refl

pub part_nodes_forever : (labels : List ℕ) (place : Place) (body : Code) (last : Code) (at : ℕ) (ends : Ends) → part_nodes labels (part.Forever place body last) at ends ≡ let first = at + 1 in let second = first + code_size body in let again = code_entry labels last second (going_on ends at) in skip_to place (code_entry labels body first (looping ends again)) ++ (code_nodes labels body first (looping ends again) ++ code_nodes labels last second (going_on ends at))
unfolding part_entry code_entry code_nodes part_nodes fork_nodes row_nodes hidden hidden-the_row-Part-0 hidden-the_row-Code-1 hidden-the_row-Fork-2
part_nodes_forever _ _ _ _ _ _ = refl

pub part_nodes_do : (labels : List ℕ) (place : Place) (body : Code) (f : Fork) (at : ℕ) (ends : Ends) → part_nodes labels (part.Do place body f) at ends ≡ let first = at + 1 in let second = first + code_size body in skip_to place (code_entry labels body first (looping ends second)) ++ (code_nodes labels body first (looping ends second) ++ fork_nodes labels f second at ends.next)
unfolding part_entry code_entry code_nodes part_nodes fork_nodes row_nodes hidden hidden-the_row-Part-0 hidden-the_row-Code-1 hidden-the_row-Fork-2
part_nodes_do _ _ _ _ _ _ = refl

pub part_nodes_switch : (labels : List ℕ) (c : Code) (at : ℕ) (ends : Ends) → part_nodes labels (part.Switch c) at ends ≡ code_nodes labels c at (switching ends)
unfolding part_entry code_entry code_nodes part_nodes fork_nodes row_nodes hidden hidden-the_row-Part-0 hidden-the_row-Code-1 hidden-the_row-Fork-2
part_nodes_switch _ _ _ _ = refl

pub fork_nodes_test : (labels : List ℕ) (c : Code) (place : Place) (e : Expr) (at : ℕ) (on : ℕ) (off : ℕ) → fork_nodes labels (in_Fork.Test c place e) at on off ≡ code_nodes labels c at (guarding (at + code_size c)) ++ guard_to place e on off
unfolding part_entry code_entry code_nodes part_nodes fork_nodes row_nodes hidden hidden-the_row-Part-0 hidden-the_row-Code-1 hidden-the_row-Fork-2
fork_nodes_test _ _ _ _ _ _ _ = refl

pub fork_nodes_not : (labels : List ℕ) (a : Fork) (at : ℕ) (on : ℕ) (off : ℕ) → fork_nodes labels (in_Fork.Not a) at on off ≡ fork_nodes labels a at off on
unfolding part_entry code_entry code_nodes part_nodes fork_nodes row_nodes hidden hidden-the_row-Part-0 hidden-the_row-Code-1 hidden-the_row-Fork-2
fork_nodes_not _ _ _ _ _ = refl

pub fork_nodes_and : (labels : List ℕ) (n : ℕ) (a : Fork) (b : Fork) (at : ℕ) (on : ℕ) (off : ℕ) → fork_nodes labels (in_Fork.And n a b) at on off ≡ let second = at + fork_size a in fork_nodes labels a at second off ++ fork_nodes labels b second on off
unfolding part_entry code_entry code_nodes part_nodes fork_nodes row_nodes hidden hidden-the_row-Part-0 hidden-the_row-Code-1 hidden-the_row-Fork-2
fork_nodes_and _ _ _ _ _ _ _ = refl

pub fork_nodes_or : (labels : List ℕ) (n : ℕ) (a : Fork) (b : Fork) (at : ℕ) (on : ℕ) (off : ℕ) → fork_nodes labels (in_Fork.Or n a b) at on off ≡ let second = at + fork_size a in fork_nodes labels a at on second ++ fork_nodes labels b second on off
unfolding part_entry code_entry code_nodes part_nodes fork_nodes row_nodes hidden hidden-the_row-Part-0 hidden-the_row-Code-1 hidden-the_row-Fork-2
fork_nodes_or _ _ _ _ _ _ _ = refl

pub ruleset entry_equations = (part_entry_node, part_entry_label, part_entry_jump, part_entry_branch, part_entry_loop, part_entry_forever, part_entry_do, part_entry_switch, code_entry_nothing, code_entry_parts)

pub ruleset code_rules = (append_assoc, append-nil, code_nodes_nothing, code_nodes_parts)

pub ruleset part_rules = (append_assoc, append-nil, part_nodes_node, part_nodes_label, part_nodes_jump, part_nodes_branch, part_nodes_loop, part_nodes_forever, part_nodes_do, part_nodes_switch)

pub ruleset fork_rules = (append_assoc, append-nil, fork_nodes_test, fork_nodes_not, fork_nodes_and, fork_nodes_or)
