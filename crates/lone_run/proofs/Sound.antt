-- The lone run is sound.
use Rattle.std.proofs.Common.{◌≡◌, ℕ, zero, suc, ◌+◌, refl, ap, sym, ◌∙◌, subst, arith, List, [], ◌∷◌, length, Option, Some, None, true, slice_get, inl, inr}
use Rattle.std.specs.Prelude.{Contains, slice_index_or}
use Rattle.program.specs.declared.graph.Function.{Function}
use Rattle.program.specs.declared.sites.Site.{Site}
use Rattle.lone_run.specs.Analysis.{Analysis}
use Rattle.lone_run.specs.Lone.{Work, Ended, Ran, and_then, run, Result, result_of, ended, lone, state_at, end_of, is_reached, ends_from}
use Rattle.lone_run.specs.Executions.{Frame, Config, Executes, here, on}
use Rattle.lone_run.specs.Soundness.{StatesAreKept, StatesFit, HasGoodEdges, MembersAreKept, IsSound, BeginsIn, LoneRunIsSound}
use Rattle.lone_run.proofs.Pushes.{At}
use Rattle.lone_run.proofs.Joins.{JoinsKeep}
use Rattle.program.proofs.SiteSets.{has_new}
use Rattle.lone_run.proofs.Results.{runs_member, reached, ends_has}
use Rattle.lone_run.proofs.Runs.{keeps, no_height, run_well, part_self, Right}
use Rattle.lone_run.proofs.Calls.{Begun, begun, Covers, here_covers, Exits, exit_state, stands, step_covered, alarm_covered, Recorded, recorded}

module _ {State Memory : Type 0} (A : Analysis State) (slevel : ℕ) (functions : List Function) (Member : Memory → State → Type 0)
    (Sized : ℕ → State → Type 0) (Fits : List Frame → ℕ → ℕ → State → Type 0) (S : StatesAreKept A Member Sized) (F : StatesFit A functions Sized Fits) (E : HasGoodEdges functions)
    (Lawful : Config Memory → Type 0) (Step : Config Memory → Config Memory → Type 0) (IsUndefined : Config Memory → Site → Type 0)
    (M : MembersAreKept A functions Member Fits Lawful Step IsUndefined) (f : ℕ) where
  sized_joins : (g : ℕ) → JoinsKeep A Member (Sized g)
  sized_joins g = record {
    bottom_fits = S.sized_bottom g A.bottom S.bottom_is;
    join_fits = S.sized_join g;
    join_older = S.join_older g;
    join_newer = S.join_newer g;
  }

  module _ (h : ℕ) (whole : Work State) (r : Ran State) (B : Begun A slevel functions Member Sized Fits S F E Lawful Step IsUndefined M whole h [] f (A.initial f) r)
      (well : (e : Ended State) → Contains whole.ended e → Right A slevel functions Member Sized Fits S F E e) where
    abbrev Within : Config Memory → Type 0
    Within c = Covers A slevel functions Member Sized Fits S F E Lawful Step IsUndefined M whole h [] f B.function B.points c

    -- no execution leaves the run of the entry
    no_frame : (g : Frame) (rest : List Frame) → [] ≡ g ∷ rest → ⊥
    no_frame g rest e = cc

    no_step : (c d : Config Memory) → Exits A slevel functions Member Sized Fits S F E Lawful Step IsUndefined M whole [] f B.function B.points c → Lawful c → Step c d → ⊥
    no_step c d e l s =
        let z : State = (ended A slevel functions f B.function B.points).exit in
        let x = exit_state A slevel functions Member Sized Fits S F E Lawful Step IsUndefined M whole h [] f B.function B.points c B.active e in
        let stand = stands A slevel functions Member Sized Fits S F E Lawful Step IsUndefined M whole [] f B.function e.node z c e.is_node e.here.fun e.here.stack_is l
        (subst (λ k. Fits [] f k z) (sym e.at_exit) x.fits) x.member in
        let g = M.returns B.function e.node z c d stand e.returns s in
        no_frame g.frame g.rest (sym e.here.stack_is ∙ g.stack)

    no_alarm : (c : Config Memory) (s : Site) → Exits A slevel functions Member Sized Fits S F E Lawful Step IsUndefined M whole [] f B.function B.points c → Lawful c → IsUndefined c s → ⊥
    no_alarm c s e l u =
        let z : State = (ended A slevel functions f B.function B.points).exit in
        let x = exit_state A slevel functions Member Sized Fits S F E Lawful Step IsUndefined M whole h [] f B.function B.points c B.active e in
        let stand = stands A slevel functions Member Sized Fits S F E Lawful Step IsUndefined M whole [] f B.function e.node z c e.is_node e.here.fun e.here.stack_is l
        (subst (λ k. Fits [] f k z) (sym e.at_exit) x.fits) x.member in
        let g = M.returns_alarm B.function e.node z c s stand e.returns u in
        no_frame g.frame g.rest (sym e.here.stack_is ∙ g.stack)

    -- each configuration of an execution is lawful and covered
    covered : (b c : Config Memory) → BeginsIn A functions Member Lawful f b → Executes Step b c → Lawful c × Within c
    covered b c begins (here _) =
        let same : begins.function ≡ B.function = let q : Some begins.function ≡ Some B.function = sym begins.at ∙ B.active.at in cc in
        let at : b.node ≡ B.function.entry = ap (λ (y : Config Memory). y.node) begins.same ∙ ap (λ (y : Function). y.entry) same in (
          begins.lawful,
          here_covers A slevel functions Member Sized Fits S F E Lawful Step IsUndefined M whole h [] f B.function B.points b (record {
            fun = ap (λ (y : Config Memory). y.fun) begins.same;
            stack_is = ap (λ (y : Config Memory). y.stack) begins.same;
            member = subst (λ n. At Member B.points n b.memory) (sym at) (B.entry b.memory begins.member);
          }),
        )
    covered b d begins (on _ c _ before step) =
        let v = covered b c begins before in (
          M.lawful_step c d v.0 step,
          elim (step_covered A slevel functions Member Sized Fits S F E Lawful Step IsUndefined M whole h [] f B.function B.points c d B.active v.1 v.0 step) [
            | inl w ↦ w
            | inr e ↦ absurd (no_step c d e v.0 step)
          ],
        )

    raised : (b c : Config Memory) (s : Site) → BeginsIn A functions Member Lawful f b → Executes Step b c → IsUndefined c s → Contains whole.alarms s
    raised b c s begins execution u =
        let v = covered b c begins execution in
        elim (alarm_covered A slevel functions Member Sized Fits S F E Lawful Step IsUndefined M whole h [] f B.function B.points c s B.active v.1 v.0 u) [
          | inl w ↦ w
          | inr e ↦ absurd (no_alarm c s e v.0 u)
        ]

    kept : (b c : Config Memory) → BeginsIn A functions Member Lawful f b → Executes Step b c → Recorded A slevel functions Member Sized Fits S F E Lawful Step IsUndefined M whole c
    kept b c begins execution = recorded A slevel functions Member Sized Fits S F E Lawful Step IsUndefined M whole h [] f B.function B.points c B.active (covered b c begins execution).1

    node_member : (c : Config Memory) → Recorded A slevel functions Member Sized Fits S F E Lawful Step IsUndefined M whole c → Member c.memory (state_at A slevel functions whole.ended c.fun c.node)
    unfolding state_at
    node_member c k = runs_member A slevel functions Member (Sized c.fun) (sized_joins c.fun) c.fun (λ e. slice_index_or e.nodes c.node A.bottom) whole.ended c.memory k.run
        (λ e i q. subst (λ g. Sized g (slice_index_or e.nodes c.node A.bottom)) q ((well e i).nodes c.node)) k.is_ended k.fun k.node

    exit_member : (c : Config Memory) (function : Function) → Recorded A slevel functions Member Sized Fits S F E Lawful Step IsUndefined M whole c → slice_get functions c.fun ≡ Some function → c.node ≡ function.exit
        → (z : State) × Contains (ends_from A slevel functions 0 functions whole.ended) (c.fun, z) × Member c.memory z
    exit_member c function k at x =
        let z : 0 + c.fun ≡ c.fun = omega arith in
        let is : is_reached A slevel functions whole.ended (0 + c.fun) ≡ true = subst (λ j. is_reached A slevel functions whole.ended j ≡ true) (sym z) (reached A slevel functions whole.ended c.fun k.run k.is_ended k.fun) in
        let there = ends_has A slevel functions functions 0 c.fun function whole.ended at is in (
          end_of A slevel functions whole.ended c.fun,
          subst (λ j. Contains (ends_from A slevel functions 0 functions whole.ended) (j, end_of A slevel functions whole.ended j)) z there,
          runs_member A slevel functions Member (Sized c.fun) (sized_joins c.fun) c.fun (λ e. e.exit) whole.ended c.memory k.run
              (λ e i q. subst (λ g. Sized g e.exit) q (well e i).exit) k.is_ended k.fun (k.exit function at x),
        )

  sound_run : (h : ℕ) (function : Function) (budget : ℕ) (r : Ran State) → slice_get functions f ≡ Some function → Fits [] f function.entry (A.initial f)
      → run A slevel functions (suc h) f (A.initial f) budget ≡ Some r
      → IsSound A slevel functions Member Step IsUndefined (BeginsIn A functions Member Lawful f) (result_of A slevel functions f r)
  sound_run h function budget r at fits e =
      let B = begun A slevel functions Member Sized Fits S F E Lawful Step IsUndefined M r.work h [] f function (A.initial f) budget r e at fits
      (part_self A Member (Fits [] f) (keeps A slevel functions Member Sized Fits S F E [] f) r.work) in
      let ran = run_well A slevel functions Member Sized Fits S F E (suc h) f (A.initial f) budget r e in
      let same : function ≡ ran.0 = let q : Some function ≡ Some ran.0 = sym at ∙ ran.1 in cc in
      let well = ran.2 [] (subst (λ (y : Function). Fits [] f y.entry (A.initial f)) same fits) in
      record {
        alarmed = λ b c s begins execution u. has_new r.work.alarms [] s (raised h r.work r B well.right b c s begins execution u);
        at_nodes = λ b c begins execution. node_member h r.work r B well.right c (kept h r.work r B well.right b c begins execution);
        at_exits = λ b c g begins execution q x. exit_member h r.work r B well.right c g (kept h r.work r B well.right b c begins execution) q x;
      }

  height_by : (h : ℕ) (function : Function) (budget : ℕ) (r : Ran State) → slice_get functions f ≡ Some function → Fits [] f function.entry (A.initial f)
      → run A slevel functions h f (A.initial f) budget ≡ Some r
      → IsSound A slevel functions Member Step IsUndefined (BeginsIn A functions Member Lawful f) (result_of A slevel functions f r)
  height_by zero function budget r at fits e = absurd (no_height A slevel functions Member Sized Fits S F E f (A.initial f) budget r e)
  height_by (suc h) function budget r at fits e = sound_run h function budget r at fits e

  sound_by : (function : Function) (budget : ℕ) (r : Result A slevel functions) → slice_get functions f ≡ Some function → Fits [] f function.entry (A.initial f)
      → (o : Option (Ran State)) → run A slevel functions (length functions) f (A.initial f) budget ≡ o → and_then {B = Result A slevel functions} o (λ s. Some (result_of A slevel functions f s)) ≡ Some r
      → IsSound A slevel functions Member Step IsUndefined (BeginsIn A functions Member Lawful f) r
  sound_by function budget r at fits None q e = cc
  sound_by function budget r at fits (Some s) q e =
      let same : result_of A slevel functions f s ≡ r = cc in
      subst (λ z. IsSound A slevel functions Member Step IsUndefined (BeginsIn A functions Member Lawful f) z) same (height_by (length functions) function budget s at fits q)

  sound : (budget : ℕ) (function : Function) (r : Result A slevel functions) → slice_get functions f ≡ Some function → Fits [] f function.entry (A.initial f) → lone A slevel functions f budget ≡ Some r
      → IsSound A slevel functions Member Step IsUndefined (BeginsIn A functions Member Lawful f) r
  unfolding lone
  sound budget function r at fits e = sound_by function budget r at fits _ refl e

pub lone_run_is_sound : LoneRunIsSound
lone_run_is_sound State Memory A slevel functions Member Sized Fits Lawful Step IsUndefined S F M E f budget function r at fits e =
    sound A slevel functions Member Sized Fits S F E Lawful Step IsUndefined M f budget function r at fits e
