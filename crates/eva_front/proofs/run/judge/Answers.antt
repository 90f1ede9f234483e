use Rattle.std.proofs.Common.{refl}
use Rattle.eva_front.specs.Answer.{refused}
use Rattle.eva_front.proofs.run.judge.Goals as goal

pub returns-in-Err-Refused : goal.returns-in-Err-Refused
returns-in-Err-Refused c =
    refused c.in-Err-Refused.refusal (c.in-Err-Refused.ensures.refused c.in-Err-Refused.refusal c.in-Err-Refused.field-0-is) refl
    c.in_ok-write_refusal-in-Err-Refused.ensures
