use Rattle.std.proofs.Common.{rules, pos}
use Rattle.avalue.specs.Pointers.{object_end}
use Rattle.avalue.proofs.Single.{single_ends, single_within}
use Rattle.avalue.proofs.tests.at.Goals as goal

pub returns-clause-ends : goal.returns-clause-ends
returns-clause-ends c = single_ends _ c.of_set.result c.of_set.ensures.value c.of_set.ensures.formed

pub returns-clause-inside : goal.returns-clause-inside
returns-clause-inside c = single_within _ (pos 0) object_end c.of_set.result c.of_set.ensures.value (search rules) (search rules)
