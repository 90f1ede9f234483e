use Rattle.std.proofs.Common.{rules, ◌≡◌, ◌∙◌, ap, sym, refl, map, drop, get_or, length, arith, ◌+◌, ◌≤◌, ◌∷◌, [], Some, None, true, false}
use Rattle.std.specs.Prelude.{is_some, string_bytes}
use Rattle.std.proofs.Math.ListN.{drop_of_length-le}
use Rattle.std.proofs.lemmas.List.{drop_more, map-append}
use Rattle.command_line.specs.Parts.{open_text, pair_of, text_of}
use Rattle.command_line.proofs.PartsFound.{either, end_waiting, some_text, step_behind, step_dashed, step_end, step_name, step_pair, step_value, step_word, whole_at}
use Rattle.command_line.proofs.parts.read_parts.Goals as goal
use Rattle.command_line.proofs.parts.read_parts.Goals.{then-has_ended+in_ok-push, else-has_ended+in-Some+in_ok-push-2, else-has_ended+in_default+then-eq, else-has_ended+in_default+else-eq+in-Some-long_option+in-Some-value+in_ok-push-in-Some-value, else-has_ended+in_default+else-eq+in-Some-long_option+in-None, else-has_ended+in_default+else-eq+in_default-long_option+else-is_dashed+in_ok-push-3, else-is_some-via-then-is_some+else-not-has_ended, else-is_some-via-else-is_some}

pub returns-then-is_dashed : goal.returns-then-is_dashed
returns-then-is_dashed c =
    let item : get_or c.args.words.now c.loop-text.text-index c.text-item.result ≡ c.text-item.result = search (c.text-item.is, rules) in
    let here : map string_bytes (drop c.loop-text.text-index c.args.words.now) ≡ c.as_str-word.result.now ∷ map string_bytes (drop (c.loop-text.text-index + 1) c.args.words.now) =
    ap (map string_bytes) (drop_more c.args.words.now c.loop-text.text-index c.text-item.result c.loop-text-test.true)
    ∙ ap (λ s. string_bytes s ∷ map string_bytes (drop (c.loop-text.text-index + 1) c.args.words.now)) item
    ∙ ap (λ s. s ∷ map string_bytes (drop (c.loop-text.text-index + 1) c.args.words.now)) (sym c.as_str-word.ensures.value) in
    let none : open_text c.loop-text.waiting ≡ None = search (c.in_default.is, c.in_default.not-Some, rules) in
    let whole = whole_at _ _ _ _ false _ None _ _ c.loop-text.invariant c.if-has_ended.false none here in
    sym (step_dashed _ _ _ None _ _ whole (search (c.if-eq.false, c.eq.ensures, rules)) (search (c.in_default-long_option.ensures, c.in_default-long_option.is, c.long_option.ensures, rules)) (search (c.if-is_dashed.true, c.is_dashed.ensures, rules)))

pub loop-text-preserved : goal.loop-text-preserved
loop-text-preserved c =
    let item : get_or c.args.words.now c.loop-text.text-index c.text-item.result ≡ c.text-item.result = search (c.text-item.is, rules) in
    let here : map string_bytes (drop c.loop-text.text-index c.args.words.now) ≡ c.as_str-word.result.now ∷ map string_bytes (drop (c.loop-text.text-index + 1) c.args.words.now) =
    ap (map string_bytes) (drop_more c.args.words.now c.loop-text.text-index c.text-item.result c.loop-text-test.true)
    ∙ ap (λ s. string_bytes s ∷ map string_bytes (drop (c.loop-text.text-index + 1) c.args.words.now)) item
    ∙ ap (λ s. s ∷ map string_bytes (drop (c.loop-text.text-index + 1) c.args.words.now)) (sym c.as_str-word.ensures.value) in
    let rest = map string_bytes (drop (c.loop-text.text-index + 1) c.args.words.now) in
    let gs = map pair_of c.loop-text.given.items in
    let os = map text_of c.loop-text.others.items in
    let word = c.as_str-word.result.now in
    elim c.if-has_ended.branch [
      | then-has_ended+in_ok-push w ↦
          let yes : c.loop-text.has_ended ≡ true = search (w.if-has_ended, rules) in
          let whole = whole_at _ gs os _ true _ (open_text c.loop-text.waiting) _ _ c.loop-text.invariant yes refl here in
          rw (w.given-is, w.others-is, w.waiting-is, w.has_ended-is, yes)
          (step_behind _ gs os (open_text c.loop-text.waiting) word rest _ _ (open_text c.loop-text.waiting) whole refl (ap (map text_of) w.in_ok-push.ensures.items ∙ map-append text_of c.loop-text.others.items _))
      | else-has_ended+in-Some+in_ok-push-2 w ↦
          let no : c.loop-text.has_ended ≡ false = search (w.if-has_ended, rules) in
          let waits : open_text c.loop-text.waiting ≡ Some w.in-Some.name.now = ap open_text w.in-Some.is in
          let whole = whole_at _ gs os _ false _ (Some w.in-Some.name.now) _ _ c.loop-text.invariant no waits here in
          rw (w.given-is, w.others-is, w.waiting-is, w.has_ended-is, no)
          (step_value _ gs os None word rest w.in-Some.name.now _ _ whole (ap (map pair_of) w.in_ok-push-2.ensures.items ∙ map-append pair_of c.loop-text.given.items _) refl)
      | else-has_ended+in_default+then-eq w ↦
          let no : c.loop-text.has_ended ≡ false = search (w.if-has_ended, rules) in
          let none : open_text c.loop-text.waiting ≡ None = search (w.in_default.is, w.in_default.not-Some, rules) in
          let whole = whole_at _ gs os _ false _ None _ _ c.loop-text.invariant no none here in
          rw (w.given-is, w.others-is, w.waiting-is, w.has_ended-is)
          (step_end _ gs os None word rest _ _ (open_text c.loop-text.waiting) whole (search (w.if-eq, w.eq.ensures, rules)) refl refl)
      | else-has_ended+in_default+else-eq+in-Some-long_option+in-Some-value+in_ok-push-in-Some-value w ↦
          let no : c.loop-text.has_ended ≡ false = search (w.if-has_ended, rules) in
          let none : open_text c.loop-text.waiting ≡ None = search (w.in_default.is, w.in_default.not-Some, rules) in
          let whole = whole_at _ gs os _ false _ None _ _ c.loop-text.invariant no none here in
          rw (w.given-is, w.others-is, w.waiting-is, w.has_ended-is, no, none)
          (step_pair _ gs os None word rest _ _ _ _ whole (search (w.if-eq, w.eq.ensures, rules)) (search (w.in-Some-long_option.is, w.in-Some-value.is, w.long_option.ensures, rules))
          (ap (map pair_of) w.in_ok-push-in-Some-value.ensures.items ∙ map-append pair_of c.loop-text.given.items _) refl)
      | else-has_ended+in_default+else-eq+in-Some-long_option+in-None w ↦
          let no : c.loop-text.has_ended ≡ false = search (w.if-has_ended, rules) in
          let none : open_text c.loop-text.waiting ≡ None = search (w.in_default.is, w.in_default.not-Some, rules) in
          let whole = whole_at _ gs os _ false _ None _ _ c.loop-text.invariant no none here in
          rw (w.given-is, w.others-is, w.waiting-is, w.has_ended-is, no)
          (step_name _ gs os None word rest _ _ _ whole (search (w.if-eq, w.eq.ensures, rules)) (search (w.in-Some-long_option.is, w.in-None.is, w.long_option.ensures, rules)) refl refl)
      | else-has_ended+in_default+else-eq+in_default-long_option+else-is_dashed+in_ok-push-3 w ↦
          let no : c.loop-text.has_ended ≡ false = search (w.if-has_ended, rules) in
          let none : open_text c.loop-text.waiting ≡ None = search (w.in_default.is, w.in_default.not-Some, rules) in
          let whole = whole_at _ gs os _ false _ None _ _ c.loop-text.invariant no none here in
          rw (w.given-is, w.others-is, w.waiting-is, w.has_ended-is, no, none)
          (step_word _ gs os None word rest _ _ whole (search (w.if-eq, w.eq.ensures, rules)) (search (w.in_default-long_option.ensures, w.in_default-long_option.is, w.long_option.ensures, rules))
          (search (w.if-is_dashed, w.is_dashed.ensures, rules)) refl (ap (map text_of) w.in_ok-push-3.ensures.items ∙ map-append text_of c.loop-text.others.items _))
    ]

pub returns-then-not-has_ended : goal.returns-then-not-has_ended
returns-then-not-has_ended c =
    let past : length c.args.words.now ≤ c.loop-text.text-index = omega (arith, c.loop-text-test.false) in
    let left : map string_bytes (drop c.loop-text.text-index c.args.words.now) ≡ [] = ap (map string_bytes) (drop_of_length-le c.args.words.now past) in
    let whole = whole_at _ _ _ _ false _ _ _ _ c.loop-text.invariant (search (c.if-not-has_ended, rules)) refl refl in
    let waits : is_some c.loop-text.waiting ≡ true = search (c.if-is_some, c.is_some.ensures, rules) in
    sym (end_waiting _ (map pair_of c.loop-text.given.items) (map text_of c.loop-text.others.items) (open_text c.loop-text.waiting) _ whole left (some_text c.loop-text.waiting ∙ waits))

pub returns : goal.returns
returns c =
    let past : length c.args.words.now ≤ c.loop-text.text-index = omega (arith, c.loop-text-test.false) in
    let left : map string_bytes (drop c.loop-text.text-index c.args.words.now) ≡ [] = ap (map string_bytes) (drop_of_length-le c.args.words.now past) in
    let idle : c.loop-text.has_ended ≡ false → is_some c.loop-text.waiting ≡ false = λ no. elim c.else-is_some.branch [
      | else-is_some-via-then-is_some+else-not-has_ended w ↦ search (w.if-is_some, w.if-not-has_ended, no, rules)
      | else-is_some-via-else-is_some w ↦ search (w.if-is_some, c.is_some.ensures, rules)
    ] in
    sym (either _ (map pair_of c.loop-text.given.items) (map text_of c.loop-text.others.items) c.loop-text.has_ended (open_text c.loop-text.waiting) _ c.loop-text.invariant left (λ no. some_text c.loop-text.waiting ∙ idle no))
