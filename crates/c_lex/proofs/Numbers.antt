-- A number goes as far as each byte goes on from the one before it.
use Rattle.std.proofs.Common.{◌≡◌, ℕ, zero, suc, ◌+◌, ◌-◌, ◌<◌, ◌≤◌, Bool, true, false, ◌⊎◌, inl, inr, [], ◌∷◌, ◌++◌, length, take, get_or, refl, sym, ap, ◌∙◌, subst, arith, length-append, append_assoc}
use Rattle.std.specs.Prelude.{◌||◌, ◌&&◌, ◌==◌}
use Rattle.std.specs.Char.{is_ascii_digit}
use Rattle.std.proofs.Math.Seq.{take-suc, get_or-append_seam}
use Rattle.std.proofs.Math.ListN.{get_or-append}
use Rattle.std.proofs.lemmas.Bool.{cases_lt, eqb-true}
use Rattle.std.proofs.lemmas.List.{get_or-take, length-take-le}
use Rattle.c_lex.specs.Bytes.{Text, is_in}
use Rattle.c_lex.specs.Number.{begins_number, is_exponent, is_sign, goes_on, goes_on_from, number_len}
use Rattle.c_lex.specs.Rules.{IsNumber, digit, point, character, dot, sign, Longest}
use Rattle.c_lex.specs.declared.class.Class.TheVariants as class

pub cases : (t : Bool) → (t ≡ true) ⊎ (t ≡ false)
cases true = inl refl
cases false = inr refl

pub or_true : (a b : Bool) → (a || b) ≡ true → (a ≡ true) ⊎ (b ≡ true)
or_true true b h = inl refl
or_true false b h = inr h

pub and_true : (a b : Bool) → (a && b) ≡ true → (a ≡ true) × (b ≡ true)
and_true true b h = (refl, h)
and_true false b h = absurd (cc)

pub or_left : (a b : Bool) → a ≡ true → (a || b) ≡ true
or_left true b h = refl
or_left false b h = absurd (cc)

pub or_right : (a b : Bool) → b ≡ true → (a || b) ≡ true
or_right true b h = refl
or_right false b h = h

both : (a b : Bool) → a ≡ true → b ≡ true → (a && b) ≡ true
both true b h k = k
both false b h k = absurd (cc)

digit_is_word : (d : ℕ) → is_ascii_digit d ≡ true → is_in class.Word d ≡ true
digit_is_word d h = or_left _ _ (or_left _ _ (or_left (is_ascii_digit d) _ h))

-- ---- the bytes that are a given one

is_one : (P : ℕ → Type 0) (b c : ℕ) → (b == c) ≡ true → P c → P b
is_one P b c h p = subst P (sym (eqb-true b c h)) p

exponent_is : (P : ℕ → Type 0) (e : ℕ) → is_exponent e ≡ true → P 101 → P 69 → P 112 → P 80 → P e
exponent_is P e h a b c d = elim (or_true _ (e == 80) h) [
  | inl h1 ↦ elim (or_true _ (e == 112) h1) [
    | inl h2 ↦ elim (or_true (e == 101) (e == 69) h2) [ inl h3 ↦ is_one P e 101 h3 a | inr h3 ↦ is_one P e 69 h3 b ]
    | inr h2 ↦ is_one P e 112 h2 c
  ]
  | inr h1 ↦ is_one P e 80 h1 d
]

exponent_is_word : (e : ℕ) → is_exponent e ≡ true → is_in class.Word e ≡ true
exponent_is_word e h = exponent_is (λ c. is_in class.Word c ≡ true) e h refl refl refl refl

exponent_no_digit : (e : ℕ) → is_exponent e ≡ true → is_ascii_digit e ≡ false
exponent_no_digit e h = exponent_is (λ c. is_ascii_digit c ≡ false) e h refl refl refl refl

word_goes : (last b : ℕ) → is_in class.Word b ≡ true → goes_on last b ≡ true
word_goes last b h = or_left _ _ (or_left (is_in class.Word b) _ h)

sign_goes : (e s : ℕ) → is_exponent e ≡ true → is_sign s ≡ true → goes_on e s ≡ true
sign_goes e s h k = or_right (is_in class.Word s || s == 46) _ (both (is_exponent e) _ h k)

-- ---- each byte of a number goes on from the one before it

abbrev Each : Text → Type 0
Each w = (i : ℕ) → suc i < length w → goes_on (get_or w i 0) (get_or w (suc i) 0) ≡ true

each_more : (v : Text) (b : ℕ) → Each v → ((k : ℕ) → suc k ≡ length v → goes_on (get_or v k 0) b ≡ true) → Each (v ++ b ∷ [])
each_more v b front last = λ i lt.
    let short : i < length v = omega (arith, length-append v (b ∷ []), lt) in
    let first = get_or-append v (b ∷ []) 0 i short in
    elim (cases_lt (suc i) (length v)) [
      | inl l ↦ rw (first, get_or-append v (b ∷ []) 0 (suc i) l) (front i l)
      | inr g ↦
          let e : suc i ≡ length v = omega (arith, short, g) in
          let second = ap (λ k. get_or (v ++ b ∷ []) k 0) e ∙ get_or-append_seam v b [] 0 in
          rw (first, second) (last i e)
    ]

each_sign : (v : Text) (e s : ℕ) → Each v → is_exponent e ≡ true → is_sign s ≡ true → Each (v ++ e ∷ s ∷ [])
each_sign v e s front he hs =
    let mid = each_more v e front (λ k last. word_goes (get_or v k 0) e (exponent_is_word e he)) in
    let ends : (k : ℕ) → suc k ≡ length (v ++ e ∷ []) → goes_on (get_or (v ++ e ∷ []) k 0) s ≡ true = λ k last.
    let at : k ≡ length v = omega (arith, length-append v (e ∷ []), last) in
    rw (ap (λ j. get_or (v ++ e ∷ []) j 0) at ∙ get_or-append_seam v e [] 0) (sign_goes e s he hs) in
    let whole = each_more (v ++ e ∷ []) s mid ends in
    subst Each (append_assoc v (e ∷ []) (s ∷ [])) whole

each_number : (w : Text) → IsNumber w → Each w
each_number w (digit d h) = λ i lt. absurd (omega arith)
each_number w (point d h) = each_more (46 ∷ []) d (λ i lt. absurd (omega arith)) (λ k last. word_goes (get_or (46 ∷ []) k 0) d (digit_is_word d h))
each_number w (character v b h k) = each_more v b (each_number v h) (λ j last. word_goes (get_or v j 0) b k)
each_number w (dot v h) = each_more v 46 (each_number v h) (λ j last. refl)
each_number w (sign v e s h he hs) = each_sign v e s (each_number v h) he hs

-- ---- how far they go on

passes : (last : ℕ) (y : Text) (i : ℕ) → i < goes_on_from last y → (i < length y) × (goes_on (get_or (last ∷ y) i 0) (get_or y i 0) ≡ true)
passes last [] i lt = absurd (omega arith)
passes last (b ∷ z) zero lt = elim (cases (goes_on last b)) [
  | inl e ↦ (omega arith, e)
  | inr e ↦ absurd (let h = rw e at lt in omega (arith, h))
]
passes last (b ∷ z) (suc i) lt = elim (cases (goes_on last b)) [
  | inl e ↦ let h = rw e at lt in let r = passes b z i (omega (arith, h)) in (omega (arith, r.0), r.1)
  | inr e ↦ absurd (let h = rw e at lt in omega (arith, h))
]

stops : (last : ℕ) (y : Text) (k : ℕ) → goes_on_from last y ≡ k → k < length y → goes_on (get_or (last ∷ y) k 0) (get_or y k 0) ≡ false
stops last [] k e lt = absurd (omega arith)
stops last (b ∷ z) zero e lt = elim (cases (goes_on last b)) [
  | inl t ↦ absurd (let h = rw t at e in omega (arith, h))
  | inr f ↦ f
]
stops last (b ∷ z) (suc k) e lt = elim (cases (goes_on last b)) [
  | inl t ↦ let h = rw t at e in stops b z k (omega (arith, h)) (omega arith)
  | inr f ↦ absurd (let h = rw f at e in omega (arith, h))
]

goes_within : (last : ℕ) (y : Text) → goes_on_from last y ≤ length y
goes_within last y = elim (cases_lt (length y) (goes_on_from last y)) [
  | inl l ↦ absurd (omega (arith, (passes last y (length y) l).0))
  | inr g ↦ g
]

-- ---- the front that goes on is a number

one_more : (z : Text) (n : ℕ) → suc n < length z → goes_on (get_or z n 0) (get_or z (suc n) 0) ≡ true → IsNumber (take (suc n) z) →
    (is_exponent (get_or z n 0) ≡ true → IsNumber (take n z)) → IsNumber (take (suc (suc n)) z)
one_more z n lt goes front before = rw (take-suc z (suc n) 0 lt) (elim (or_true _ (is_exponent (get_or z n 0) && is_sign (get_or z (suc n) 0)) goes) [
  | inl h ↦ elim (or_true (is_in class.Word (get_or z (suc n) 0)) _ h) [
    | inl w ↦ character (take (suc n) z) (get_or z (suc n) 0) front w
    | inr d ↦ rw (eqb-true (get_or z (suc n) 0) 46 d) (dot (take (suc n) z) front)
  ]
  | inr h ↦
      let p = and_true (is_exponent (get_or z n 0)) _ h in
      let s = sign (take n z) (get_or z n 0) (get_or z (suc n) 0) (before p.0) p.0 p.1 in
      rw (take-suc z n 0 (omega arith), append_assoc (take n z) (get_or z n 0 ∷ []) (get_or z (suc n) 0 ∷ [])) s
])

-- from a front of `base + 1` bytes on
build : (last : ℕ) (y : Text) (base : ℕ) → IsNumber (take (suc base) (last ∷ y)) → (is_exponent (get_or (last ∷ y) base 0) ≡ true → ⊥) →
    (k n : ℕ) → n ≡ k + base → n ≤ goes_on_from last y → IsNumber (take (suc n) (last ∷ y))
build last y base first bar zero n e le = let s : n ≡ base = omega arith in rw s first
build last y base first bar (suc k) zero e le = absurd (omega arith)
build last y base first bar (suc zero) (suc n) e le =
    let p = passes last y n (omega arith) in
    let s : n ≡ base = omega arith in
    one_more (last ∷ y) n (omega (arith, p.0)) p.1 (build last y base first bar zero n (omega arith) (omega arith))
    (λ x. absurd (bar (subst (λ (j : ℕ). is_exponent (get_or (last ∷ y) j 0) ≡ true) s x)))
build last y base first bar (suc (suc k)) (suc zero) e le = absurd (omega arith)
build last y base first bar (suc (suc k)) (suc (suc n)) e le =
    let p = passes last y (suc n) (omega arith) in
    one_more (last ∷ y) (suc n) (omega (arith, p.0)) p.1 (build last y base first bar (suc k) (suc n) (omega arith) (omega arith))
    (λ x. build last y base first bar k n (omega arith) (omega arith))

no_exponent : (d : ℕ) → is_ascii_digit d ≡ true → is_exponent d ≡ true → ⊥
no_exponent d h e = let f = exponent_no_digit d e in absurd (cc)

is_number : (last : ℕ) (y : Text) → begins_number (last ∷ y) ≡ true → IsNumber (take (suc (goes_on_from last y)) (last ∷ y))
is_number last [] h = elim (or_true (is_ascii_digit last) _ h) [
  | inl d ↦ digit last d
  | inr p ↦ absurd (let q : false ≡ true = (and_true (last == 46) _ p).1 in cc)
]
is_number last (b ∷ z) h = elim (or_true (is_ascii_digit last) _ h) [
  | inl d ↦ build last (b ∷ z) 0 (digit last d) (no_exponent last d) (goes_on_from last (b ∷ z)) (goes_on_from last (b ∷ z)) (omega arith) (omega arith)
  | inr p ↦
      let q = and_true (last == 46) _ p in
      let goes = word_goes last b (digit_is_word b q.1) in
      let some : 1 ≤ goes_on_from last (b ∷ z) = rw goes (omega arith) in
      let first : IsNumber (last ∷ b ∷ []) = rw (eqb-true last 46 q.0) (point b q.1) in
      build last (b ∷ z) 1 first (no_exponent b q.1) (goes_on_from last (b ∷ z) - 1) (goes_on_from last (b ∷ z)) (omega (arith, some)) (omega arith)
]

longest_by : (last : ℕ) (y : Text) → begins_number (last ∷ y) ≡ true → Longest IsNumber (last ∷ y) (suc (goes_on_from last y))
longest_by last y h = record {
  within = omega (arith, goes_within last y);
  is = is_number last y h;
  longest = λ m lt le is.
      let k = goes_on_from last y in
      let long = length-take-le m (last ∷ y) le in
      let goes = each_number (take m (last ∷ y)) is k (omega (arith, long)) in
      let first = get_or-take m (last ∷ y) k 0 (omega arith) in
      let second = get_or-take m (last ∷ y) (suc k) 0 lt in
      let here = rw (first, second) at goes in
      let there = stops last y k refl (omega arith) in
      absurd (cc (here, there));
}

pub number_longest : (z : Text) (n : ℕ) → begins_number z ≡ true → number_len z ≡ n → Longest IsNumber z n
unfolding number_len
number_longest [] n h e = absurd (let f : false ≡ true = h in cc)
number_longest (last ∷ y) n h e = let s : suc (goes_on_from last y) ≡ n = omega (arith, e) in subst (Longest IsNumber (last ∷ y)) s (longest_by last y h)
