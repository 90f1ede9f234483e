-- What the result of a run says of every execution.
use Rattle.std.specs.Prelude.{◌≡◌, ℕ, Contains}
use Rattle.program.specs.declared.graph.Function.{Function}
use Rattle.program.specs.declared.sites.Site.{Site}
use Rattle.constant_meaning.specs.ConstantExecution.{Config, initial, Executes, IsUndefinedAt, Returns}
use Rattle.iterate.specs.declared.constant.State.TheVariants.{Live}
use Rattle.iterate.specs.declared.constant.EntryResult.{EntryResult}

pub record IsSound (fun : ℕ) (f : Function) (r : EntryResult) : Type 0 where
  -- where an execution is undefined stands an alarm
  pub alarmed : (c : Config) (s : Site) → Executes f (initial f) c → IsUndefinedAt fun f c s → Contains r.alarms s
  -- the result of an execution that returns is the end state's
  pub kept : (c : Config) → Executes f (initial f) c → Returns f c → r.end ≡ Live c.outcome
