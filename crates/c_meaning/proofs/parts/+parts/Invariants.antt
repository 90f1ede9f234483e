use Rattle.std.proofs.Common.{◌≡◌, ◌++◌, ◌+◌, ◌*◌, ◌≤◌, length}
use Rattle.std.specs.List.{flat_map}
use Rattle.c_meaning.specs.ArrayDepth.{array_depth, deepest, deepest_in}
use Rattle.c_meaning.specs.Begin.{in_a_row, parts_given, member_parts, struct_parts}
use Rattle.c_meaning.proofs.parts.+parts.Given as goal

-- by how deep structs may nest, and then by how deep arrays nest in the type
abbrev pub decreases-add_parts : goal.decreases-add_parts
decreases-add_parts l = l.depth * (deepest_in l.layout.now.structs + 2) + array_depth l.t.now

abbrev pub decreases-add_members : goal.decreases-add_members
decreases-add_members l = l.depth * (deepest_in l.layout.now.structs + 2) + (deepest_in l.layout.now.structs + 1)

abbrev pub invariant-add_parts-loop-left : goal.invariant-add_parts-loop-left
invariant-add_parts-loop-left l =
    l.parts ++ in_a_row l.step l.left l.place (λ x. parts_given (struct_parts l.depth l.layout) l.layout x l.element)
    ≡ l.initial.parts ++ in_a_row l.step l.initial.left l.initial.place (λ x. parts_given (struct_parts l.depth l.layout) l.layout x l.element)

abbrev pub decreases-add_parts-loop-left : goal.decreases-add_parts-loop-left
decreases-add_parts-loop-left l = l.left

abbrev pub invariant-add_members-loop-members : goal.invariant-add_members-loop-members
invariant-add_members-loop-members l =
    (l.parts ++ flat_map (member_parts (struct_parts l.depth l.layout) l.layout l.at) l.members ≡ l.initial.parts ++ flat_map (member_parts (struct_parts l.depth l.layout) l.layout l.at) l.initial.members)
    × (deepest l.members ≤ deepest_in l.layout.structs)

abbrev pub decreases-add_members-loop-members : goal.decreases-add_members-loop-members
decreases-add_members-loop-members l = length l.members
