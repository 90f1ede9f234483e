-- How far the loop of an entry's run has come.
use Rattle.std.proofs.Common.{◌≡◌, ℕ, ◌+◌, ◌<◌, ◌≤◌, ℤ, List, [], ◌∷◌, ◌++◌, length, Option, Some, None, Ok, Err, refl, ap, ◌∙◌, sym, subst, inl, inr, arith}
use Rattle.std.specs.Prelude.{slice_get}
use Rattle.program.specs.declared.expressions.Expr.{Expr}
use Rattle.program.specs.declared.expressions.LVal.{LVal}
use Rattle.program.specs.declared.instructions.Instr.TheVariants.{Set, Return}
use Rattle.program.specs.declared.graph.Node.{Node}
use Rattle.program.specs.declared.graph.Function.{Function}
use Rattle.program.specs.declared.sites.Site.{Site}
use Rattle.constant_meaning.specs.declared.constant.Undefined.{Undefined}
use Rattle.constant_meaning.specs.ConstantValue.{value}
use Rattle.constant_meaning.specs.ConstantExecution.{set_result, SetsResult, IsResultNode}
use Rattle.iterate.specs.declared.constant.State.TheVariants.{Bottom, Live}
use Rattle.iterate.specs.declared.constant.EntryResult.{EntryResult}
use Rattle.iterate.specs.ConstantRun.{Left, left, sites, RunFrom, goes_on, stops, ends, LoneRun}
use Rattle.iterate.proofs.ConstantRuns.{left_some, left_none}

-- the result where so many turns were taken before
abbrev pub later : ℕ → EntryResult → EntryResult
later taken r = record { end = r.end; alarms = r.alarms; turns = r.turns + taken }

-- so many turns are taken, and what runs on from here completes the lone run
pub record Going (fun : ℕ) (f : Function) (at : ℕ) (outcome : Option ℤ) (taken : ℕ) : Type 0 where
  pub within : at < length f.nodes
  pub few : taken ≤ at
  pub rest : (r : EntryResult) → RunFrom fun f at outcome r → LoneRun fun f (later taken r)

pub going_first : (fun : ℕ) (f : Function) → f.entry < length f.nodes → Going fun f f.entry None 0
going_first fun f h = record {
  within = h;
  few = omega arith;
  rest = λ r run. let e : r.turns ≡ r.turns + 0 = omega arith in subst (λ (t : ℕ). LoneRun fun f (record { end = r.end; alarms = r.alarms; turns = t })) e run;
}

-- the turns of a run that is one turn longer
counted : (fun : ℕ) (f : Function) (a b : ℕ) (r : EntryResult) → a ≡ b → LoneRun fun f (record { end = r.end; alarms = r.alarms; turns = a }) →
    LoneRun fun f (record { end = r.end; alarms = r.alarms; turns = b })
counted fun f a b r e = subst (λ (t : ℕ). LoneRun fun f (record { end = r.end; alarms = r.alarms; turns = t })) e

module _ (fun : ℕ) (f : Function) (at : ℕ) (outcome : Option ℤ) (taken : ℕ) (g : Going fun f at outcome taken) (node : Node) (here : slice_get f.nodes at ≡ Some node) where
  pub going_on : (e : Expr) (v : ℤ) (next : ℕ) → node.instr ≡ set_result e → Ok v ≡ value 1 e → node.edges ≡ next ∷ [] → at < next → next < length f.nodes →
      Going fun f next (Some v) (taken + 1)
  going_on e v next sets defined edge up within =
      let l : left 1 e ≡ record { number = Some v; alarms = [] } = left_some e v (sym defined) in
      record {
        within = within;
        few = let h = g.few in omega arith;
        rest = λ r run.
            let one : EntryResult = record { end = r.end; alarms = sites fun at (left 1 e).alarms ++ r.alarms; turns = r.turns + 1 } in
            let none : sites fun at (left 1 e).alarms ++ r.alarms ≡ r.alarms = ap (λ (x : Left). sites fun at x.alarms ++ r.alarms) l in
            let whole = g.rest one (goes_on at outcome one node e v next r here sets (ap (λ (x : Left). x.number) l) edge run refl) in
            let quiet = subst (λ (s : List Site). LoneRun fun f (record { end = r.end; alarms = s; turns = r.turns + 1 + taken })) none whole in
            counted fun f (r.turns + 1 + taken) (r.turns + (taken + 1)) r (omega arith) quiet;
      }

  pub stopped : (e : Expr) (u : Undefined) → node.instr ≡ set_result e → Err u ≡ value 1 e →
      LoneRun fun f (record { end = Bottom; alarms = record { fun = fun; node = at; sub = u.sub; kind = u.kind } ∷ []; turns = taken + 1 })
  stopped e u sets undefined =
      let l : left 1 e ≡ record { number = None; alarms = record { sub = u.sub; kind = u.kind } ∷ [] } = left_none e u (sym undefined) in
      let r : EntryResult = record { end = Bottom; alarms = record { fun = fun; node = at; sub = u.sub; kind = u.kind } ∷ []; turns = 1 } in
      let same : r ≡ record { end = Bottom; alarms = sites fun at (left 1 e).alarms; turns = 1 } =
      ap (λ (x : Left). record { end = Bottom; alarms = sites fun at x.alarms; turns = 1 }) (sym l) in
      counted fun f (1 + taken) (taken + 1) r (omega arith) (g.rest r (stops at outcome r node e here sets (ap (λ (x : Left). x.number) l) same))

  pub ended : node.instr ≡ Return → LoneRun fun f (record { end = Live outcome; alarms = []; turns = taken + 1 })
  ended exits =
      let r : EntryResult = record { end = Live outcome; alarms = []; turns = 1 } in
      counted fun f (1 + taken) (taken + 1) r (omega arith) (g.rest r (ends at outcome r node here exits refl))

-- what is known of a node that the code has seen to be a `Set`
pub as_set : (count n : ℕ) (node : Node) (l : LVal) (e : Expr) → node.instr ≡ Set l e → IsResultNode count n node → SetsResult count n node e
as_set count n node l e h (inl (d, s)) =
    let p : Set l e ≡ set_result d = sym h ∙ s.sets in
    let q : d ≡ e = cc in
    subst (λ (x : Expr). SetsResult count n node x) q s
as_set count n node l e h (inr r) =
    let p : Set l e ≡ Return = sym h ∙ r in
    cc

-- its one edge
pub one_next : (count n next : ℕ) (node : Node) (e : Expr) → SetsResult count n node e → node.edges ≡ next ∷ [] → (n < next) × (next < count)
one_next count n next node e s p =
    let q : s.next ∷ [] ≡ next ∷ [] = sym s.edge ∙ p in
    let k : s.next ≡ next = cc in
    let a = s.forward in
    let b = s.within in
    (omega arith, omega arith)
