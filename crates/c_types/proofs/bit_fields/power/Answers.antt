use Rattle.std.proofs.lemmas.Nat.{pow_pos}
use Rattle.c_types.proofs.FieldLaws.{power_is, power_small}
use Rattle.c_types.proofs.bit_fields.power.Goals as goal

pub returns-clause-value : goal.returns-clause-value
returns-clause-value c = power_is c.args.width c.requires

pub returns-clause-bounded : goal.returns-clause-bounded
returns-clause-bounded c = power_small c.args.width c.requires

pub returns-clause-some : goal.returns-clause-some
returns-clause-some c = pow_pos c.args.width
