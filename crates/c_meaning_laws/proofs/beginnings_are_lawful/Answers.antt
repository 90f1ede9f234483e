use Rattle.c_meaning_laws.proofs.BeginningsLawful.{beginnings_are_lawful}
use Rattle.c_meaning_laws.proofs.beginnings_are_lawful.Goals as goal

pub returns : goal.returns
returns c = beginnings_are_lawful
