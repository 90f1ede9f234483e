use Rattle.std.proofs.Common.{◌∙◌}
use Rattle.std.proofs.lemmas.List.Elements.{All-same}
use Rattle.c_meaning.specs.Begin.{HasFewBits}
use Rattle.c_meaning.proofs.FewBits.{free_few}
use Rattle.c_meaning.proofs.initial.object_begun.Goals as goal

pub filled-requires : goal.filled-requires
filled-requires c = All-same HasFewBits _ _ (c.as_slice.ensures ∙ c.in_ok-scalars.ensures) (free_few c.args.p.now.layout c.requires c.args.base.now.ctype c.args.base.now.start)
