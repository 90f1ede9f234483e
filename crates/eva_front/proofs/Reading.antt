-- What was read of a file, and what was written of a text.
use Rattle.std.proofs.Common.{◌≡◌, ℕ, ◌+◌, ◌<◌, ◌≤◌, List, ◌++◌, length, take, drop, Option, Some, None, ap, ◌∙◌, sym, subst, append_assoc, append-nil, refl}
use Rattle.std.specs.Option.{IfSome}
use Rattle.std.proofs.Math.Seq.{take-add}
use Rattle.std.proofs.lemmas.List.{take-append-drop, take_all, take_at}
use Rattle.eva_front.specs.Outside.{Appends, Takes, TakesBytes}

-- where the source tells what is left, it is what was left before without these bytes
abbrev pub ReadSoFar : Option (List ℕ) → Option (List ℕ) → List ℕ → Type 0
ReadSoFar None now bytes = Unit {0}
ReadSoFar (Some all) now bytes = (rest : List ℕ) × (now ≡ Some rest) × (all ≡ bytes ++ rest)

-- one call more of a sink
pub put_more : (before now new : Option (List ℕ)) (text : List ℕ) (done n : ℕ) → Appends before now (take done text) →
    Appends now new (take n (drop done text)) → Appends before new (take (done + n) text)
put_more before now None text done n h k = tt
put_more before now (Some w) text done n h k =
    let h' : Appends before (Some k.0) (take done text) = subst (λ (o : Option (List ℕ)). Appends before o (take done text)) k.1 h in (
      h'.0,
      h'.1,
      k.2 ∙ ap (λ (t : List ℕ). t ++ take n (drop done text)) h'.2 ∙ append_assoc h'.0 (take done text) (take n (drop done text))
          ∙ ap (λ (t : List ℕ). h'.0 ++ t) (sym (take-add done n text)),
    )

-- a call of a source that read n bytes
pub read_more : (before now new : Option (List ℕ)) (bytes buffer : List ℕ) (n : ℕ) → ReadSoFar before now bytes → Takes now new n buffer →
    ReadSoFar before new (bytes ++ take n buffer)
read_more None now new bytes buffer n h k = tt
read_more (Some all) now new bytes buffer n h k =
    let t : TakesBytes h.0 new n buffer = subst (λ (o : Option (List ℕ)). Takes o new n buffer) h.1 k in (
      drop n h.0,
      t.rest,
      h.2 ∙ ap (λ (s : List ℕ). bytes ++ s) (sym (take-append-drop n h.0)) ∙ sym (append_assoc bytes (take n h.0) (drop n h.0))
          ∙ ap (λ (s : List ℕ). (bytes ++ s) ++ drop n h.0) (sym t.front),
    )

-- at the end of the file all of it is read
pub read_all : (before now new : Option (List ℕ)) (bytes buffer : List ℕ) → ReadSoFar before now bytes → Takes now new 0 buffer → 0 < length buffer →
    length bytes ≤ 1048577 → IfSome before (λ all. bytes ≡ take 1048577 all)
read_all None now new bytes buffer h k full short = tt
read_all (Some all) now new bytes buffer h k full short =
    let t : TakesBytes h.0 new 0 buffer = subst (λ (o : Option (List ℕ)). Takes o new 0 buffer) h.1 k in
    let e : all ≡ bytes = h.2 ∙ ap (λ (s : List ℕ). bytes ++ s) (t.ends refl full) ∙ append-nil bytes in
    let small : length all ≤ 1048577 = subst (λ (s : List ℕ). length s ≤ 1048577) (sym e) short in
    sym e ∙ sym (take_all 1048577 all small)

-- and so many bytes of a longer file
pub read_enough : (before now : Option (List ℕ)) (bytes : List ℕ) → ReadSoFar before now bytes → length bytes ≡ 1048577 → IfSome before (λ all. bytes ≡ take 1048577 all)
read_enough None now bytes h long = tt
read_enough (Some all) now bytes h long = sym (ap (take 1048577) h.2 ∙ take_at bytes h.0 1048577 long)
