use Rattle.eva_front.proofs.Headline.{analyses_entries, has_causes}
use Rattle.eva_front.proofs.run.run_eva.Goals as goal

pub returns-clause-causes : goal.returns-clause-causes
returns-clause-causes g c = has_causes _ c.say.ensures

pub returns-clause-analysed : goal.returns-clause-analysed
returns-clause-analysed g c = analyses_entries _ c.say.ensures
