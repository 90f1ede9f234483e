use Rattle.c_meaning_laws.proofs.Instructions.{instructions}
use Rattle.c_meaning_laws.proofs.instructions_stay_lawful.Goals as goal

pub returns : goal.returns
returns c = instructions
