use Rattle.eva_front.specs.Answer.{cut}
use Rattle.eva_front.proofs.run.print.Goals as goal

pub returns-in-Err : goal.returns-in-Err
returns-in-Err g c =
    let p = rw c.as_bytes.ensures.value at c.in-Err.ensures.part in
    cut p.0 c.code-in-Err.ensures c.in-Err.ensures.cause.failed p.1 p.2
