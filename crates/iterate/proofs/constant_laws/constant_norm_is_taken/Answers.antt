use Rattle.iterate.proofs.ConstantNorms.{norm_fits}
use Rattle.iterate.proofs.constant_laws.constant_norm_is_taken.Goals as goal

pub returns : goal.returns
returns c = norm_fits
