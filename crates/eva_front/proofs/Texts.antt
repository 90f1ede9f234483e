-- Texts that are written line by line.
use Rattle.std.proofs.Common.{◌≡◌, ℕ, ◌+◌, ◌<◌, List, [], ◌∷◌, ◌++◌, length, take, map, get_or, ap, ◌∙◌, sym, append_assoc, append-nil}
use lib.Chars.{codes}
use Rattle.std.proofs.lemmas.Grind.{flat_map-append}
use Rattle.std.proofs.lemmas.List.{map-append, take_more}
use Rattle.eva_front.specs.Report.{alarm_line, end_lines, ended, first_line, last_line, report_text, text_of_lines}
use Rattle.program.specs.declared.graph.Function.{Function}
use Rattle.iterate.specs.declared.constant.EntryResult.{EntryResult}

pub text_append : (xs ys : List (List ℕ)) → text_of_lines (xs ++ ys) ≡ text_of_lines xs ++ text_of_lines ys
text_append = flat_map-append ended

pub one_more : {A : Type 0} (f : A → List ℕ) (xs : List A) (i : ℕ) (d : A) → i < length xs →
    text_of_lines (map f (take (i + 1) xs)) ≡ text_of_lines (map f (take i xs)) ++ ended (f (get_or xs i d))
one_more f xs i d h =
    ap (λ ys. text_of_lines (map f ys)) (take_more xs i d h) ∙ ap text_of_lines (map-append f (take i xs) (get_or xs i d ∷ []))
    ∙ text_append (map f (take i xs)) (f (get_or xs i d) ∷ []) ∙ ap (λ t. text_of_lines (map f (take i xs)) ++ t) (append-nil (ended (f (get_or xs i d))))

-- the pieces as they are written, to the right, are the line
pub alarm_text : (shown line kind name node sub : List ℕ) →
    codes "alarm " ++ ((shown ++ (codes ":" ++ (line ++ (codes " " ++ (kind ++ (codes " in " ++ (name ++ (codes " " ++ (node ++ (codes "." ++ sub)))))))))) ++ 10 ∷ [])
    ≡ ended (codes "alarm " ++ shown ++ codes ":" ++ line ++ codes " " ++ kind ++ codes " in " ++ name ++ codes " " ++ node ++ codes "." ++ sub)
alarm_text shown line kind name node sub = simp append_assoc

-- a line and what comes behind it
behind_line : (name rest : List ℕ) → ((name ++ codes ":") ++ 10 ∷ []) ++ rest ≡ name ++ (codes ":\n" ++ rest)
behind_line name rest = append_assoc (name ++ codes ":") (10 ∷ []) rest ∙ append_assoc name (codes ":") (10 ∷ rest)

pub live_text : (name value : List ℕ) →
    codes "end of " ++ (name ++ (codes ":\n  \\result = " ++ (value ++ codes "\n")))
    ≡ ended (codes "end of " ++ name ++ codes ":") ++ (ended (codes "  \\result = " ++ value) ++ [])
live_text name value =
    ap (λ t. codes "end of " ++ t) (ap (λ t. name ++ (codes ":\n  \\result = " ++ t)) (sym (append-nil (value ++ 10 ∷ [])))
    ∙ sym (behind_line name (codes "  \\result = " ++ ((value ++ 10 ∷ []) ++ []))))

pub first_text : (name turns : List ℕ) → codes "entry " ++ (name ++ (codes ": complete, " ++ (turns ++ codes " turns\n"))) ≡ ended (codes "entry " ++ name ++ codes ": complete, " ++ turns ++ codes " turns")
first_text name turns = simp append_assoc

pub last_text : (alarms turns : List ℕ) → codes "entries 1, complete 1, alarms " ++ (alarms ++ (codes ", turns " ++ (turns ++ codes "\n"))) ≡ ended (codes "entries 1, complete 1, alarms " ++ alarms ++ codes ", turns " ++ turns)
last_text alarms turns = simp append_assoc

-- the report from its parts
pub whole_text : (first : List ℕ) (alarms end : List (List ℕ)) (last : List ℕ) →
    ((ended first ++ text_of_lines alarms) ++ text_of_lines end) ++ ended last ≡ text_of_lines (first ∷ (alarms ++ (end ++ last ∷ [])))
whole_text first alarms end last =
    sym (ap (λ t. ended first ++ t)
    (text_append alarms (end ++ last ∷ []) ∙ ap (λ t. text_of_lines alarms ++ t) (text_append end (last ∷ []) ∙ ap (λ t. text_of_lines end ++ t) (append-nil (ended last))))
    ∙ simp append_assoc)

-- one line more is written
pub alarms_more : {A : Type 0} (f : A → List ℕ) (xs : List A) (i : ℕ) (d : A) (old new line : List ℕ) → i < length xs →
    old ≡ text_of_lines (map f (take i xs)) → new ≡ old ++ line → line ≡ ended (f (get_or xs i d)) → new ≡ text_of_lines (map f (take (i + 1) xs))
alarms_more f xs i d old new line h e p q =
    p ∙ ap (λ t. t ++ line) e ∙ ap (λ t. text_of_lines (map f (take i xs)) ++ t) q ∙ sym (one_more f xs i d h)

-- the parts of a report, put together
pub report_of : (file word : List ℕ) (f : Function) (r : EntryResult) (t0 a t1 e t2 l t3 : List ℕ) → t0 ≡ ended (first_line f.name r.turns) →
    a ≡ text_of_lines (map (alarm_line file word f) r.alarms) → t1 ≡ t0 ++ a → e ≡ text_of_lines (end_lines f.name r.end) → t2 ≡ t1 ++ e →
    l ≡ ended (last_line (length r.alarms) r.turns) → t3 ≡ t2 ++ l → t3 ≡ report_text file word f r
report_of file word f r t0 a t1 e t2 l t3 first alarms p end q last s =
    let h : t3 ≡ ((t0 ++ a) ++ e) ++ l = s ∙ ap (λ x. x ++ l) (q ∙ ap (λ x. x ++ e) p) in
    h ∙ rw (first, alarms, end, last)
    (whole_text (first_line f.name r.turns) (map (alarm_line file word f) r.alarms) (end_lines f.name r.end) (last_line (length r.alarms) r.turns))
