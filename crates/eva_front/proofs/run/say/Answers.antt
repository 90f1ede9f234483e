use Rattle.std.proofs.Common.{refl}
use Rattle.eva_front.specs.declared.run.Status.TheVariants.{Usage, ReadFault, OutOfMemory}
use lib.Chars.{codes}
use Rattle.eva_front.specs.Answer.{usage, usage_line, unread, wanting}
use Rattle.eva_front.specs.Report.{ended}
use Rattle.eva_front.proofs.Judged.{say_verdict}
use Rattle.eva_front.proofs.run.say.Goals as goal

pub returns-in_default : goal.returns-in_default
returns-in_default g c = record { saying = Usage; text = ended usage_line; says = usage c.in_default.ensures refl refl; printed = c.print.ensures }

pub returns-in-Ok-judge : goal.returns-in-Ok-judge
returns-in-Ok-judge g c =
    say_verdict _ (record { file = c.in-Some.command.file.now; entry = c.in-Some.command.entry.now }) c.as_slice.result.now c.in-Ok.bytes.items
    c.in-Ok-judge.verdict.status _ c.as_str.result.now c.in-Some.ensures c.in-Ok.ensures.bytes c.as_slice.ensures.value c.in-Ok-judge.ensures
    c.as_str.ensures.value c.print-in-Ok-judge.ensures

pub returns-in-Ok : goal.returns-in-Ok
returns-in-Ok g c = record { saying = OutOfMemory; text = ended (codes "out of memory"); says = wanting refl refl; printed = c.print-in-Err.ensures }

pub returns-in-Err-Fault : goal.returns-in-Err-Fault
returns-in-Err-Fault g c = record {
  saying = ReadFault;
  text = ended (codes "read fault");
  says = unread _ c.in-Some.ensures (c.in-Err-Fault.ensures.fault (rw c.in-Err-Fault.field-0-is refl)) refl refl;
  printed = c.print-in-Err-Fault.ensures;
}

pub returns : goal.returns
returns g c = record { saying = OutOfMemory; text = ended (codes "out of memory"); says = wanting refl refl; printed = c.print-in-Err-Memory.ensures }
