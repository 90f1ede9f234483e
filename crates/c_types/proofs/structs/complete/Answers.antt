use Rattle.std.proofs.Common.{rules, ◌≡◌, ap, ◌∙◌}
use Rattle.c_types.specs.Sizes.{kept}
use Rattle.c_types.specs.Structs.{next_multiple, greatest_align, extent_of}
use Rattle.c_types.proofs.Places.{size_is}
use Rattle.c_types.proofs.structs.complete.Goals.{then-is_union+in_ok-stack, else-is_union+in_ok-placed}
use Rattle.c_types.proofs.structs.complete.Goals as goal

pub returns-clause-size : goal.returns-clause-size
returns-clause-size c =
    let end_is : c.if-is_union.placed.end ≡ kept (extent_of c.args.layout.now c.args.is_union c.args.declared.now) =
    elim c.if-is_union.branch [ then-is_union+in_ok-stack w ↦ search rules | else-is_union+in_ok-placed w ↦ search rules ] in
    size_is c.round_up.result c.if-is_union.placed.end (extent_of c.args.layout.now c.args.is_union c.args.declared.now) (greatest_align c.args.layout.now c.args.declared.now)
    (c.round_up.ensures.value ∙ ap (λ a. kept (next_multiple c.if-is_union.placed.end a)) c.alignment_of-align_bits.ensures) end_is
