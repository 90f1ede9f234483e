-- What is said on a file of which so many bytes were read.
use Rattle.std.proofs.Common.{◌≡◌, ℕ, ◌≤◌, List, length, take, Option, Some, None, refl, ◌∙◌, sym, subst, arith}
use Rattle.std.specs.Prelude.{IfSome}
use Rattle.std.proofs.lemmas.List.{take_all, length-take}
use Rattle.eva_front.specs.declared.refusals.Refusal.{Refusal}
use Rattle.eva_front.specs.declared.refusals.Refusal.TheVariants.{TooLong}
use Rattle.eva_front.specs.declared.run.Status.{Status}
use Rattle.eva_front.specs.Answer.{Call, Gives, IsAnswered, IsPrinted, IsVerdict, Says, judged, refused, reported, unknown}
use Rattle.eva_front.specs.Command.{Command, meaning}
use Rattle.eva_front.specs.FrontEnd.{no_tokens, no_tree, not_of_form, too_long, without_tree}
use Rattle.eva_front.specs.Refusals.{refusal_line}
use Rattle.eva_front.specs.Report.{ended}

all_read : (all : List ℕ) → length (take 1048577 all) ≤ 1048576 → take 1048577 all ≡ all
all_read all short = take_all 1048577 all (omega (arith, short, length-take 1048577 all))

-- the line on a file that is too long says nothing of its bytes
same_line : (some all file : List ℕ) (r : Refusal) → r ≡ TooLong → ended (refusal_line some file r) ≡ ended (refusal_line all file r)
same_line some all file r e = rw e refl

short_file : (all file entry : List ℕ) (s : Status) (text : List ℕ) → length (take 1048577 all) ≤ 1048576 →
    IsVerdict (take 1048577 all) file entry s text → IsVerdict all file entry s text
short_file all file entry s text short v = subst (λ (b : List ℕ). IsVerdict b file entry s text) (all_read all short) v

whole_file : (all file entry : List ℕ) (s : Status) (text : List ℕ) → IsVerdict (take 1048577 all) file entry s text → IsVerdict all file entry s text
whole_file all file entry s text (refused r (without_tree (too_long long e)) q t) =
    refused r (without_tree (too_long (omega (arith, long, length-take 1048577 all)) e)) q (t ∙ same_line (take 1048577 all) all file r e)
whole_file all file entry s text (refused r (without_tree (no_tokens e short stops h)) q t) =
    short_file all file entry s text short (refused r (without_tree (no_tokens e short stops h)) q t)
whole_file all file entry s text (refused r (without_tree (no_tree ts e short lexed stops h)) q t) =
    short_file all file entry s text short (refused r (without_tree (no_tree ts e short lexed stops h)) q t)
whole_file all file entry s text (refused r (not_of_form ts tree has none e) q t) =
    short_file all file entry s text has.short (refused r (not_of_form ts tree has none e) q t)
whole_file all file entry s text (unknown lacks q t) = short_file all file entry s text lacks.defines.has_tree.short (unknown lacks q t)
whole_file all file entry s text (reported i d r has run q t) = short_file all file entry s text has.defines.has_tree.short (reported i d r has run q t)

said_on : (call : Call) (c : Command) (content : Option (List ℕ)) (items : List ℕ) (s : Status) (text : List ℕ) → meaning call.words ≡ Some c →
    call.content c.file ≡ content → IfSome content (λ all. items ≡ take 1048577 all) → IsVerdict items c.file c.entry s text → Says call s text
said_on call c None items s text means told read v =
    let gives : Gives (call.content c.file) items = rw told tt in judged c items means gives v
said_on call c (Some all) items s text means told read v =
    let gives : Gives (call.content c.file) all = rw told refl in
    judged c all means gives (whole_file all c.file c.entry s text (subst (λ (b : List ℕ). IsVerdict b c.file c.entry s text) read v))

pub say_verdict : (call : Call) (c : Command) (slice items : List ℕ) (s : Status) (text printed : List ℕ) → meaning call.words ≡ Some c →
    IfSome (call.content c.file) (λ all. items ≡ take 1048577 all) → slice ≡ items → IsVerdict slice c.file c.entry s text → printed ≡ text →
    IsPrinted printed s call.status call.written_before call.written_after call.write_before call.write_after → IsAnswered call
say_verdict call c slice items s text printed means read e v p done = record {
  saying = s;
  text = printed;
  says = said_on call c (call.content c.file) items s printed means refl read
      (subst (λ (b : List ℕ). IsVerdict b c.file c.entry s printed) e (subst (λ (t : List ℕ). IsVerdict slice c.file c.entry s t) (sym p) v));
  printed = done;
}
