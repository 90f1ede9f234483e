-- What follows from what the program says and prints.
use Rattle.std.proofs.Common.{◌≡◌, ◌⊎◌, ℕ, ◌≤◌, List, [], ◌∷◌, map, zero, suc, Option, Some, None, refl, ap, ◌∙◌, sym, subst, inl, inr, arith}
use Rattle.std.specs.List.{Contains}
use Rattle.std.proofs.lemmas.List.Elements.{Contains-append_left, Contains-append_right}
use Rattle.program.specs.declared.sites.Site.{Site}
use Rattle.normal_form.specs.ConstantNorm.{norm}
use Rattle.normal_form.specs.declared.constant.Returning.{Returning}
use Rattle.constant_meaning.specs.ConstantExecution.{Config, initial, Executes, IsUndefinedAt}
use Rattle.iterate.specs.ConstantRun.{LoneRun}
use Rattle.iterate.specs.declared.constant.EntryResult.{EntryResult}
use Rattle.iterate.proofs.ConstantRuns.{lone_run_is_sound, unique}
use Rattle.eva_front.specs.declared.refusals.Refusal.{Refusal}
use Rattle.eva_front.specs.declared.run.Status.{Status}
use Rattle.eva_front.specs.declared.run.Status.TheVariants.{Usage, Refused, ReadFault, WriteFault, OutOfMemory, UnknownEntry}
use Rattle.eva_front.specs.Answer.{AnalysesEntries, Call, Comes, Gives, HasCauses, HasEntry, HasFileCauses, HasNoEntry, IsAnswered, IsPrinted, IsReported, Says, Yields, code, cut, judged, refused, reported, unknown, unread, usage, verdict, wanting, whole}
use Rattle.eva_front.specs.Command.{Command, meaning}
use Rattle.eva_front.specs.FrontEnd.{IsRefused}
use Rattle.eva_front.specs.Outside.{Appends, Rose}
use Rattle.eva_front.specs.Refusals.{refusal_line, unknown_line}
use Rattle.eva_front.specs.Report.{alarm_line, ended, first_line, report_lines, report_text}
use Rattle.eva_front.proofs.Unique.{defines_or_not, entry_or_not, none_some, one_entry, some_one}

contains_map : {A B : Type 0} (f : A → B) (xs : List A) (x : A) → Contains xs x → Contains (map f xs) (f x)
contains_map f [] x (k, lt, e) = absurd (omega arith)
contains_map f (y ∷ ys) x (zero, lt, e) = (0, omega arith, ap f e)
contains_map f (y ∷ ys) x (suc k, lt, e) = let r = contains_map f ys x (k, omega arith, e) in let m = r.1 in (suc r.0, omega arith, r.2)

verdict_code : (alarms : List Site) → (code (verdict alarms) ≡ 0) ⊎ (code (verdict alarms) ≡ 1)
verdict_code [] = inl refl
verdict_code (s ∷ alarms) = inr refl

low : (n : ℕ) (alarms : List Site) → n ≡ code (verdict alarms) → n ≤ 1
low n alarms h = elim (verdict_code alarms) [ inl e ↦ omega arith | inr e ↦ omega arith ]

no_alarm : (alarms : List Site) (s : Site) → code (verdict alarms) ≡ 0 → Contains alarms s → ⊥
no_alarm [] s h (k, lt, e) = omega arith
no_alarm (t ∷ alarms) s h has = omega arith

-- ---- why a status comes
data Why (call : Call) : Type 0 where
  by_words : call.status ≡ 2 → meaning call.words ≡ None → Why call
  by_source : (c : Command) → call.status ≡ 5 → meaning call.words ≡ Some c → Rose call.read_before call.read_after → Why call
  by_refusal : (c : Command) (bytes : List ℕ) (r : Refusal) → call.status ≡ 3 → meaning call.words ≡ Some c → Gives (call.content c.file) bytes →
      IsRefused bytes r → Appends call.written_before call.written_after (ended (refusal_line bytes c.file r)) → Why call
  by_name : (c : Command) (bytes : List ℕ) → call.status ≡ 8 → meaning call.words ≡ Some c → Gives (call.content c.file) bytes →
      HasNoEntry bytes c.entry → Appends call.written_before call.written_after (ended (unknown_line c.entry)) → Why call
  by_run : (c : Command) (bytes : List ℕ) (i : ℕ) (d : Returning) (r : EntryResult) → call.status ≡ code (verdict r.alarms) → meaning call.words ≡ Some c →
      Gives (call.content c.file) bytes → HasEntry bytes c.entry i d → LoneRun i (norm d) r →
      Appends call.written_before call.written_after (report_text bytes c.file (norm d) r) → Why call
  by_memory : call.status ≡ 7 → Why call
  by_sink : call.status ≡ 6 → Rose call.write_before call.write_after → Why call

module _ (call : Call) where
  at_status : (s t : Status) (n : ℕ) → s ≡ t → call.status ≡ code s → code t ≡ n → call.status ≡ n
  at_status s t n e h k = h ∙ ap code e ∙ k

  wrote : (t u : List ℕ) → t ≡ u → Appends call.written_before call.written_after t → Appends call.written_before call.written_after u
  wrote t u e w = subst (λ (x : List ℕ). Appends call.written_before call.written_after x) e w

  why_said : (s : Status) (text : List ℕ) → Says call s text → call.status ≡ code s → Appends call.written_before call.written_after text → Why call
  why_said s text (usage none e t) h w = by_words (at_status s Usage 2 e h refl) none
  why_said s text (unread c some rose e t) h w = by_source c (at_status s ReadFault 5 e h refl) some rose
  why_said s text (judged c bytes some gives (refused r lacks e t)) h w =
      by_refusal c bytes r (at_status s Refused 3 e h refl) some gives lacks (wrote text _ t w)
  why_said s text (judged c bytes some gives (unknown lacks e t)) h w = by_name c bytes (at_status s UnknownEntry 8 e h refl) some gives lacks (wrote text _ t w)
  why_said s text (judged c bytes some gives (reported i d r has run e t)) h w = by_run c bytes i d r (h ∙ ap code e) some gives has run (wrote text _ t w)
  why_said s text (wanting e t) h w = by_memory (at_status s OutOfMemory 7 e h refl)

  why_printed : (s : Status) (text : List ℕ) → Says call s text →
      IsPrinted text s call.status call.written_before call.written_after call.write_before call.write_after → Why call
  why_printed s text says (whole h w) = why_said s text says h w
  why_printed s text says (cut n h rose le w) = by_sink h rose

  why : IsAnswered call → Why call
  why a = why_printed a.saying a.text a.says a.printed

  -- ---- each status has its cause
  usage_only_of : Why call → call.status ≡ 2 → meaning call.words ≡ None
  usage_only_of (by_words h none) k = none
  usage_only_of (by_source c h some rose) k = absurd (omega arith)
  usage_only_of (by_refusal c bytes r h some gives lacks w) k = absurd (omega arith)
  usage_only_of (by_name c bytes h some gives lacks w) k = absurd (omega arith)
  usage_only_of (by_run c bytes i d r h some gives has run w) k = let l = low call.status r.alarms h in absurd (omega arith)
  usage_only_of (by_memory h) k = absurd (omega arith)
  usage_only_of (by_sink h rose) k = absurd (omega arith)

  usage_of : Why call → meaning call.words ≡ None → Yields call 2
  usage_of (by_words h none) k = inl h
  usage_of (by_source c h some rose) k = absurd (none_some _ c k some)
  usage_of (by_refusal c bytes r h some gives lacks w) k = absurd (none_some _ c k some)
  usage_of (by_name c bytes h some gives lacks w) k = absurd (none_some _ c k some)
  usage_of (by_run c bytes i d r h some gives has run w) k = absurd (none_some _ c k some)
  usage_of (by_memory h) k = inr (inr h)
  usage_of (by_sink h rose) k = inr (inl h)

  read_fault_of : Why call → call.status ≡ 5 → Rose call.read_before call.read_after
  read_fault_of (by_words h none) k = absurd (omega arith)
  read_fault_of (by_source c h some rose) k = rose
  read_fault_of (by_refusal c bytes r h some gives lacks w) k = absurd (omega arith)
  read_fault_of (by_name c bytes h some gives lacks w) k = absurd (omega arith)
  read_fault_of (by_run c bytes i d r h some gives has run w) k = let l = low call.status r.alarms h in absurd (omega arith)
  read_fault_of (by_memory h) k = absurd (omega arith)
  read_fault_of (by_sink h rose) k = absurd (omega arith)

  write_fault_of : Why call → call.status ≡ 6 → Rose call.write_before call.write_after
  write_fault_of (by_words h none) k = absurd (omega arith)
  write_fault_of (by_source c h some rose) k = absurd (omega arith)
  write_fault_of (by_refusal c bytes r h some gives lacks w) k = absurd (omega arith)
  write_fault_of (by_name c bytes h some gives lacks w) k = absurd (omega arith)
  write_fault_of (by_run c bytes i d r h some gives has run w) k = let l = low call.status r.alarms h in absurd (omega arith)
  write_fault_of (by_memory h) k = absurd (omega arith)
  write_fault_of (by_sink h rose) k = rose

  module _ (c : Command) (all : List ℕ) (means : meaning call.words ≡ Some c) (told : call.content c.file ≡ Some all) where
    -- what was read is the file, and the command is the one at hand
    here : (P : Command → List ℕ → Type 0) (b : Command) (bytes : List ℕ) → meaning call.words ≡ Some b → Gives (call.content b.file) bytes → P b bytes → P c all
    here P b bytes some gives p =
        let e : b ≡ c = some_one _ b c some means in
        let t : call.content b.file ≡ Some all = ap (λ (x : Command). call.content x.file) e ∙ told in
        let f : bytes ≡ all = subst (λ (o : Option (List ℕ)). Gives o bytes) t gives in
        subst (λ (x : Command). P x all) e (subst (λ (x : List ℕ). P b x) f p)

    refused_only_of : Why call → call.status ≡ 3 →
        (r : Refusal) × IsRefused all r × Appends call.written_before call.written_after (ended (refusal_line all c.file r))
    refused_only_of (by_words h none) k = absurd (none_some _ c none means)
    refused_only_of (by_source b h some rose) k = absurd (omega arith)
    refused_only_of (by_refusal b bytes r h some gives lacks w) k =
        (r, here (λ x y. IsRefused y r) b bytes some gives lacks, here (λ x y. Appends call.written_before call.written_after (ended (refusal_line y x.file r))) b bytes some gives w)
    refused_only_of (by_name b bytes h some gives lacks w) k = absurd (omega arith)
    refused_only_of (by_run b bytes i d r h some gives has run w) k = let l = low call.status r.alarms h in absurd (omega arith)
    refused_only_of (by_memory h) k = absurd (omega arith)
    refused_only_of (by_sink h rose) k = absurd (omega arith)

    refused_of : (r : Refusal) → Why call → IsRefused all r → Comes call 3
    refused_of r (by_words h none) k = absurd (none_some _ c none means)
    refused_of r (by_source b h some rose) k = inl h
    refused_of r (by_refusal b bytes q h some gives lacks w) k = inr (inl h)
    refused_of r (by_name b bytes h some gives lacks w) k =
        let n = here (λ x y. HasNoEntry y x.entry) b bytes some gives lacks in
        absurd (defines_or_not all n.ds r n.defines k)
    refused_of r (by_run b bytes i d q h some gives has run w) k =
        let n = here (λ x y. HasEntry y x.entry i d) b bytes some gives has in
        absurd (defines_or_not all n.ds r n.defines k)
    refused_of r (by_memory h) k = inr (inr (inr h))
    refused_of r (by_sink h rose) k = inr (inr (inl h))

    unknown_only_of : Why call → call.status ≡ 8 → HasNoEntry all c.entry × Appends call.written_before call.written_after (ended (unknown_line c.entry))
    unknown_only_of (by_words h none) k = absurd (none_some _ c none means)
    unknown_only_of (by_source b h some rose) k = absurd (omega arith)
    unknown_only_of (by_refusal b bytes r h some gives lacks w) k = absurd (omega arith)
    unknown_only_of (by_name b bytes h some gives lacks w) k =
        (here (λ x y. HasNoEntry y x.entry) b bytes some gives lacks, here (λ x y. Appends call.written_before call.written_after (ended (unknown_line x.entry))) b bytes some gives w)
    unknown_only_of (by_run b bytes i d r h some gives has run w) k = let l = low call.status r.alarms h in absurd (omega arith)
    unknown_only_of (by_memory h) k = absurd (omega arith)
    unknown_only_of (by_sink h rose) k = absurd (omega arith)

    unknown_of : Why call → HasNoEntry all c.entry → Comes call 8
    unknown_of (by_words h none) k = absurd (none_some _ c none means)
    unknown_of (by_source b h some rose) k = inl h
    unknown_of (by_refusal b bytes r h some gives lacks w) k =
        absurd (defines_or_not all k.ds r k.defines (here (λ x y. IsRefused y r) b bytes some gives lacks))
    unknown_of (by_name b bytes h some gives lacks w) k = inr (inl h)
    unknown_of (by_run b bytes i d r h some gives has run w) k = absurd (entry_or_not all c.entry i d (here (λ x y. HasEntry y x.entry i d) b bytes some gives has) k)
    unknown_of (by_memory h) k = inr (inr (inr h))
    unknown_of (by_sink h rose) k = inr (inr (inl h))

    complete_only_of : Why call → call.status ≤ 1 → (i : ℕ) × (d : Returning) × HasEntry all c.entry i d
    complete_only_of (by_words h none) k = absurd (omega arith)
    complete_only_of (by_source b h some rose) k = absurd (omega arith)
    complete_only_of (by_refusal b bytes q h some gives lacks w) k = absurd (omega arith)
    complete_only_of (by_name b bytes h some gives lacks w) k = absurd (omega arith)
    complete_only_of (by_run b bytes i d r h some gives has run w) k = (i, d, here (λ x y. HasEntry y x.entry i d) b bytes some gives has)
    complete_only_of (by_memory h) k = absurd (omega arith)
    complete_only_of (by_sink h rose) k = absurd (omega arith)

    module _ (i : ℕ) (d : Returning) (has : HasEntry all c.entry i d) where
      complete_of : Why call → Comes call 0 ⊎ Comes call 1
      complete_of (by_words h none) = absurd (none_some _ c none means)
      complete_of (by_source b h some rose) = inl (inl h)
      complete_of (by_refusal b bytes q h some gives lacks w) = absurd (defines_or_not all has.ds q has.defines (here (λ x y. IsRefused y q) b bytes some gives lacks))
      complete_of (by_name b bytes h some gives lacks w) = absurd (entry_or_not all c.entry i d has (here (λ x y. HasNoEntry y x.entry) b bytes some gives lacks))
      complete_of (by_run b bytes j e r h some gives has' run w) =
          elim (verdict_code r.alarms) [ inl z ↦ inl (inr (inl (h ∙ z))) | inr o ↦ inr (inr (inl (h ∙ o))) ]
      complete_of (by_memory h) = inl (inr (inr (inr h)))
      complete_of (by_sink h rose) = inl (inr (inr (inl h)))

      -- a run that is reported is one of this definition
      run_here : (b : Command) (bytes : List ℕ) (j : ℕ) (e : Returning) (s : EntryResult) → meaning call.words ≡ Some b → Gives (call.content b.file) bytes →
          HasEntry bytes b.entry j e → LoneRun j (norm e) s → (e ≡ d) × LoneRun i (norm d) s
      run_here b bytes j e s some gives has' run' =
          let q = one_entry all c.entry j i e d (here (λ x y. HasEntry y x.entry j e) b bytes some gives has') has in
          (q.1, subst (λ (x : Returning). LoneRun i (norm x) s) q.1 (subst (λ (n : ℕ). LoneRun n (norm e) s) q.0 run'))

      silent_of : Why call → call.status ≡ 0 → (at : Config) (s : Site) → Executes (norm d) (initial (norm d)) at → IsUndefinedAt i (norm d) at s → ⊥
      silent_of (by_words h none) k at s steps undefined = omega arith
      silent_of (by_source b h some rose) k at s steps undefined = omega arith
      silent_of (by_refusal b bytes q h some gives lacks w) k at s steps undefined = omega arith
      silent_of (by_name b bytes h some gives lacks w) k at s steps undefined = omega arith
      silent_of (by_run b bytes j e r h some gives has' run' w) k at s steps undefined =
          let run = (run_here b bytes j e r some gives has' run').1 in
          no_alarm r.alarms s (sym h ∙ k) ((lone_run_is_sound i (norm d) r run).alarmed at s steps undefined)
      silent_of (by_memory h) k at s steps undefined = omega arith
      silent_of (by_sink h rose) k at s steps undefined = omega arith

      module _ (r : EntryResult) (run : LoneRun i (norm d) r) where
        one_run : (b : Command) (bytes : List ℕ) (j : ℕ) (e : Returning) (s : EntryResult) → meaning call.words ≡ Some b → Gives (call.content b.file) bytes →
            HasEntry bytes b.entry j e → LoneRun j (norm e) s → (e ≡ d) × (s ≡ r)
        one_run b bytes j e s some gives has' run' =
            let q = run_here b bytes j e s some gives has' run' in
            (q.0, unique i (norm d) (norm d).entry None s r q.1 run)

        status_of : Why call → Comes call (code (verdict r.alarms))
        status_of (by_words h none) = absurd (none_some _ c none means)
        status_of (by_source b h some rose) = inl h
        status_of (by_refusal b bytes q h some gives lacks w) = absurd (defines_or_not all has.ds q has.defines (here (λ x y. IsRefused y q) b bytes some gives lacks))
        status_of (by_name b bytes h some gives lacks w) = absurd (entry_or_not all c.entry i d has (here (λ x y. HasNoEntry y x.entry) b bytes some gives lacks))
        status_of (by_run b bytes j e s h some gives has' run' w) =
            let q = one_run b bytes j e s some gives has' run' in
            inr (inl (h ∙ ap (λ (x : EntryResult). code (verdict x.alarms)) q.1))
        status_of (by_memory h) = inr (inr (inr h))
        status_of (by_sink h rose) = inr (inr (inl h))

        text_of : Why call → call.status ≤ 1 → Appends call.written_before call.written_after (report_text all c.file (norm d) r)
        text_of (by_words h none) k = absurd (omega arith)
        text_of (by_source b h some rose) k = absurd (omega arith)
        text_of (by_refusal b bytes q h some gives lacks w) k = absurd (omega arith)
        text_of (by_name b bytes h some gives lacks w) k = absurd (omega arith)
        text_of (by_run b bytes j e s h some gives has' run' w) k =
            let q = one_run b bytes j e s some gives has' run' in
            let v = here (λ x y. Appends call.written_before call.written_after (report_text y x.file (norm e) s)) b bytes some gives w in
            subst (λ (x : EntryResult). Appends call.written_before call.written_after (report_text all c.file (norm d) x)) q.1
            (subst (λ (x : Returning). Appends call.written_before call.written_after (report_text all c.file (norm x) s)) q.0 v)
        text_of (by_memory h) k = absurd (omega arith)
        text_of (by_sink h rose) k = absurd (omega arith)

        -- an alarm stands in the report
        printed_alarm : (s : Site) → Contains r.alarms s → Contains (report_lines all c.file (norm d) r) (alarm_line all c.file (norm d) s)
        printed_alarm s found =
            Contains-append_right (first_line (norm d).name r.turns ∷ []) _ _
            (Contains-append_left (map (alarm_line all c.file (norm d)) r.alarms) _ _ (contains_map (alarm_line all c.file (norm d)) r.alarms s found))

        reported_of : Why call → IsReported call c all i d r
        reported_of y = record {
          status = status_of y;
          text = text_of y;
          sound = λ at s steps undefined. printed_alarm s ((lone_run_is_sound i (norm d) r run).alarmed at s steps undefined);
        }

    file_causes : Why call → HasFileCauses call c all
    file_causes w = record {
      refused_only = refused_only_of w;
      refused = λ r h. refused_of r w h;
      unknown_only = unknown_only_of w;
      unknown = unknown_of w;
      complete_only = complete_only_of w;
      complete = λ i d has. complete_of i d has w;
    }

  known_of : Why call → (s : Status) × (call.status ≡ code s)
  known_of (by_words h none) = (Usage, h)
  known_of (by_source b h some rose) = (ReadFault, h)
  known_of (by_refusal b bytes r h some gives lacks w) = (Refused, h)
  known_of (by_name b bytes h some gives lacks w) = (UnknownEntry, h)
  known_of (by_run b bytes i d r h some gives has run w) = (verdict r.alarms, h)
  known_of (by_memory h) = (OutOfMemory, h)
  known_of (by_sink h rose) = (WriteFault, h)

  pub has_causes : IsAnswered call → HasCauses call
  has_causes a =
      let w = why a in
      record {
        usage_only = usage_only_of w;
        usage = usage_of w;
        read_fault = read_fault_of w;
        write_fault = write_fault_of w;
        file = λ c all means told. file_causes c all means told w;
        known = known_of w;
      }

  pub analyses_entries : IsAnswered call → AnalysesEntries call
  analyses_entries a c all i d means told has =
      let w = why a in
      record { reported = λ r run. reported_of c all means told i d has r run w; silent = silent_of c all means told i d has w }
