-- What the program answers and prints, and why.
use Rattle.std.specs.Prelude.{◌≡◌, ◌⊎◌, ℕ, ◌≤◌, List, [], ◌∷◌, length, take, slice_get, Option, Some, None, IfSome, All, Contains}
use lib.Chars.{codes}
use Rattle.program.specs.declared.sites.Site.{Site}
use Rattle.normal_form.specs.ConstantNorm.{norm}
use Rattle.normal_form.specs.declared.constant.Returning.{Returning}
use Rattle.constant_meaning.specs.ConstantExecution.{Config, initial, Executes, IsUndefinedAt}
use Rattle.iterate.specs.ConstantRun.{LoneRun}
use Rattle.iterate.specs.declared.constant.EntryResult.{EntryResult}
use Rattle.eva_front.specs.declared.refusals.Refusal.{Refusal}
use Rattle.eva_front.specs.declared.run.Status.{Status}
use Rattle.eva_front.specs.declared.run.Status.TheVariants.{Clean, Alarms, Usage, Refused, ReadFault, WriteFault, OutOfMemory, UnknownEntry}
use Rattle.eva_front.specs.Command.{Command, meaning}
use Rattle.eva_front.specs.FrontEnd.{Defines, IsRefused}
use Rattle.eva_front.specs.Outside.{Appends, Rose}
use Rattle.eva_front.specs.Refusals.{refusal_line, unknown_line}
use Rattle.eva_front.specs.Report.{alarm_line, ended, report_lines, report_text}

-- the exit status of the program
abbrev pub code : Status → ℕ
code Clean = 0
code Alarms = 1
code Usage = 2
code Refused = 3
code ReadFault = 5
code WriteFault = 6
code OutOfMemory = 7
code UnknownEntry = 8

-- without an alarm, or with some
abbrev pub verdict : List Site → Status
verdict [] = Clean
verdict (s ∷ alarms) = Alarms

abbrev pub usage_line : List ℕ
usage_line = codes "usage: eva [--workers N] [--cache N] [--rows N] [--steps N] FILE ENTRY..."

-- ---- a file and its entry

-- the file is of the form, and its definition d, which has the number i, has this name
pub record HasEntry (bytes entry : List ℕ) (i : ℕ) (d : Returning) : Type 0 where
  pub ds : List Returning
  pub defines : Defines bytes ds
  pub at : slice_get ds i ≡ Some d
  pub named : d.name ≡ entry

-- the file is of the form, and none of its definitions has this name
pub record HasNoEntry (bytes entry : List ℕ) : Type 0 where
  pub ds : List Returning
  pub defines : Defines bytes ds
  pub missing : All (λ d. d.name ≡ entry → ⊥) ds

-- What is answered on a file of these bytes, which the command line calls `file`:
pub data IsVerdict (bytes file entry : List ℕ) (s : Status) (text : List ℕ) : Type 0 where
  -- it is refused
  refused : (r : Refusal) → IsRefused bytes r → s ≡ Refused → text ≡ ended (refusal_line bytes file r) → IsVerdict bytes file entry s text
  -- it has no such function
  unknown : HasNoEntry bytes entry → s ≡ UnknownEntry → text ≡ ended (unknown_line entry) → IsVerdict bytes file entry s text
  -- the lone run of the entry is reported
  reported : (i : ℕ) (d : Returning) (r : EntryResult) → HasEntry bytes entry i d → LoneRun i (norm d) r → s ≡ verdict r.alarms →
      text ≡ report_text bytes file (norm d) r → IsVerdict bytes file entry s text

-- ---- a call

-- the text is printed whole, or a call of the sink failed and a prefix is
pub data IsPrinted (text : List ℕ) (s : Status) (result : ℕ) (before after : Option (List ℕ)) (faults_before faults_after : ℕ) : Type 0 where
  whole : result ≡ code s → Appends before after text → IsPrinted text s result before after faults_before faults_after
  cut : (n : ℕ) → result ≡ code WriteFault → Rose faults_before faults_after → n ≤ length text → Appends before after (take n text) →
      IsPrinted text s result before after faults_before faults_after

-- One call of the program: the words; the bytes of each name, where the source tells them; the source's count of faults
-- before and after; the bytes written, where the sink tells them, and its count of faults before and after; the status.
pub record Call : Type 0 where
  pub words : List (List ℕ)
  pub content : List ℕ → Option (List ℕ)
  pub read_before : ℕ
  pub read_after : ℕ
  pub written_before : Option (List ℕ)
  pub written_after : Option (List ℕ)
  pub write_before : ℕ
  pub write_after : ℕ
  pub status : ℕ

-- the bytes are those of the name, where the source tells them
abbrev pub Gives : Option (List ℕ) → List ℕ → Type 0
Gives content bytes = IfSome content (λ all. bytes ≡ all)

-- A status with its text, and why they come:
pub data Says (call : Call) (s : Status) (text : List ℕ) : Type 0 where
  -- the words have no meaning
  usage : meaning call.words ≡ None → s ≡ Usage → text ≡ ended usage_line → Says call s text
  -- a call of the source failed
  unread : (c : Command) → meaning call.words ≡ Some c → Rose call.read_before call.read_after → s ≡ ReadFault → text ≡ ended (codes "read fault") →
      Says call s text
  -- the file is read, and answered
  judged : (c : Command) (bytes : List ℕ) → meaning call.words ≡ Some c → Gives (call.content c.file) bytes → IsVerdict bytes c.file c.entry s text →
      Says call s text
  -- memory is wanting
  wanting : s ≡ OutOfMemory → text ≡ ended (codes "out of memory") → Says call s text

-- the program says something, and prints it
pub record IsAnswered (call : Call) : Type 0 where
  pub saying : Status
  pub text : List ℕ
  pub says : Says call saying text
  pub printed : IsPrinted text saying call.status call.written_before call.written_after call.write_before call.write_after

-- the status is the given one, or a fault of the sink or want of memory took its place
abbrev pub Yields : Call → ℕ → Type 0
Yields call n = (call.status ≡ n) ⊎ ((call.status ≡ 6) ⊎ (call.status ≡ 7))

-- the status is this one, unless a fault of the source came before
abbrev pub Comes : Call → ℕ → Type 0
Comes call n = (call.status ≡ 5) ⊎ Yields call n

-- Each status with its cause, where the words name this file and entry, and the source tells the file's bytes.
pub record HasFileCauses (call : Call) (c : Command) (bytes : List ℕ) : Type 0 where
  -- 3 exactly where the file is refused: the reason is printed
  pub refused_only : call.status ≡ 3 →
      (r : Refusal) × IsRefused bytes r × Appends call.written_before call.written_after (ended (refusal_line bytes c.file r))
  pub refused : (r : Refusal) → IsRefused bytes r → Comes call 3
  -- 8 exactly where none of the file's definitions has the entry's name: it is printed
  pub unknown_only : call.status ≡ 8 → HasNoEntry bytes c.entry × Appends call.written_before call.written_after (ended (unknown_line c.entry))
  pub unknown : HasNoEntry bytes c.entry → Comes call 8
  -- 0 or 1 exactly where one has it
  pub complete_only : call.status ≤ 1 → (i : ℕ) × (d : Returning) × HasEntry bytes c.entry i d
  pub complete : (i : ℕ) (d : Returning) → HasEntry bytes c.entry i d → Comes call 0 ⊎ Comes call 1

-- Each status with its cause.
pub record HasCauses (call : Call) : Type 0 where
  -- 2 exactly where the words have no meaning
  pub usage_only : call.status ≡ 2 → meaning call.words ≡ None
  pub usage : meaning call.words ≡ None → Yields call 2
  -- 5 and 6 only where the count of faults rose in this call
  pub read_fault : call.status ≡ 5 → Rose call.read_before call.read_after
  pub write_fault : call.status ≡ 6 → Rose call.write_before call.write_after
  -- 3, 8, 0 and 1 by the file
  pub file : (c : Command) (bytes : List ℕ) → meaning call.words ≡ Some c → call.content c.file ≡ Some bytes → HasFileCauses call c bytes
  -- no other status
  pub known : (s : Status) × (call.status ≡ code s)

-- The lone run r of the entry d, which has the number i, is reported.
pub record IsReported (call : Call) (c : Command) (bytes : List ℕ) (i : ℕ) (d : Returning) (r : EntryResult) : Type 0 where
  -- the status is 0 or 1 by the alarms, or the call met a fault or want of memory
  pub status : Comes call (code (verdict r.alarms))
  -- at 0 and 1 the text is the report
  pub text : call.status ≤ 1 → Appends call.written_before call.written_after (report_text bytes c.file (norm d) r)
  -- where the execution is undefined, there the report has an alarm
  pub sound : (at : Config) (s : Site) → Executes (norm d) (initial (norm d)) at → IsUndefinedAt i (norm d) at s →
      Contains (report_lines bytes c.file (norm d) r) (alarm_line bytes c.file (norm d) s)

-- The entry d, which has the number i, is analysed.
pub record IsAnalysed (call : Call) (c : Command) (bytes : List ℕ) (i : ℕ) (d : Returning) : Type 0 where
  pub reported : (r : EntryResult) → LoneRun i (norm d) r → IsReported call c bytes i d r
  -- at 0 no execution is undefined
  pub silent : call.status ≡ 0 → (at : Config) (s : Site) → Executes (norm d) (initial (norm d)) at → IsUndefinedAt i (norm d) at s → ⊥

-- Every entry of a file of the form is analysed.
abbrev pub AnalysesEntries : Call → Type 0
AnalysesEntries call = (c : Command) (bytes : List ℕ) (i : ℕ) (d : Returning) → meaning call.words ≡ Some c → call.content c.file ≡ Some bytes →
    HasEntry bytes c.entry i d → IsAnalysed call c bytes i d
