-- The longest of some texts that begins a text.
use Rattle.std.proofs.Common.{◌≡◌, ℕ, ◌<◌, ◌≤◌, true, false, inl, inr, List, [], ◌∷◌, length, take, sym, ap, ◌∙◌, subst, arith}
use Rattle.std.specs.Prelude.{bytes_eq}
use Rattle.std.specs.Cmp.Lexicographic.{same_text}
use Rattle.std.proofs.lemmas.Bool.{cases_lt}
use Rattle.std.proofs.lemmas.List.{length-take-le, length-take}
use Rattle.c_lex.specs.Bytes.{Text}
use Rattle.c_lex.specs.Vocabulary.{is_among, longest, punctuators, punctuator_len}
use Rattle.c_lex.specs.Rules.{IsPunctuator, Longest}
use Rattle.c_lex.proofs.Numbers.{cases, or_true, or_left, or_right}

fits : (p z : Text) → bytes_eq p (take (length p) z) ≡ true → length p ≤ length z
fits p z h = let e = ap (length {A = ℕ}) (same_text p (take (length p) z) (sym h)) in omega (arith, e, length-take (length p) z)

abbrev IsMember : List Text → Text → ℕ → Type 0
IsMember ps z n = (is_among ps (take n z) ≡ true) × (n ≤ length z)

-- the number is the length of a member that begins the text
member : (ps : List Text) (z : Text) → 0 < longest ps z → IsMember ps z (longest ps z)
member [] z h = absurd (omega arith)
member (p ∷ ps) z h = elim (cases (bytes_eq p (take (length p) z))) [
  | inl e ↦ elim (cases_lt (length p) (longest ps z)) [
    | inl l ↦
        let r = member ps z (omega arith) in
        let m : longest ps z ≡ longest (p ∷ ps) z = rw e (omega arith) in
        subst (IsMember (p ∷ ps) z) m (or_right (bytes_eq p (take (longest ps z) z)) _ r.0, r.1)
    | inr g ↦
        let m : length p ≡ longest (p ∷ ps) z = rw e (omega arith) in
        subst (IsMember (p ∷ ps) z) m (or_left (bytes_eq p (take (length p) z)) _ e, fits p z e)
  ]
  | inr e ↦
      let m : longest ps z ≡ longest (p ∷ ps) z = rw e (omega arith) in
      let r = member ps z (omega (arith, m)) in
      subst (IsMember (p ∷ ps) z) m (or_right (bytes_eq p (take (longest ps z) z)) _ r.0, r.1)
]

-- no longer member begins it
no_longer : (ps : List Text) (z : Text) (m : ℕ) → m ≤ length z → is_among ps (take m z) ≡ true → m ≤ longest ps z
no_longer [] z m le h = absurd (let f : false ≡ true = h in cc)
no_longer (p ∷ ps) z m le h = elim (or_true (bytes_eq p (take m z)) _ h) [
  | inl e ↦
      let same = same_text p (take m z) (sym e) in
      let len : length p ≡ m = ap (length {A = ℕ}) same ∙ length-take-le m z le in
      let here : bytes_eq p (take (length p) z) ≡ true = rw len e in
      rw here (omega (arith, len))
  | inr e ↦ omega (arith, no_longer ps z m le e)
]

longest_of : (ps : List Text) (z : Text) (n : ℕ) → longest ps z ≡ n → (n ≡ 0 → ⊥) → Longest (λ w. is_among ps w ≡ true) z n
longest_of ps z n e some =
    let r = member ps z (omega (arith, some)) in
    record {
      within = rw e at r.1;
      is = rw e at r.0;
      longest = λ m lt le is. absurd (omega (arith, no_longer ps z m le is));
    }

pub punctuator_longest : (z : Text) (n : ℕ) → punctuator_len z ≡ n → (punctuator_len z ≡ 0 → ⊥) → Longest IsPunctuator z n
unfolding punctuator_len
punctuator_longest z n e some = longest_of punctuators z n e (λ zero. some (e ∙ zero))
