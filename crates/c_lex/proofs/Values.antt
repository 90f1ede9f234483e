-- The number that digits write, digit by digit.
use Rattle.std.proofs.Common.{◌≡◌, ℕ, zero, suc, ◌+◌, ◌*◌, ◌<◌, ◌≤◌, Bool, true, false, [], ◌∷◌, ◌++◌, length, take, drop, get_or, ltb, if◌then◌else◌, Some, None, refl, ap, sym, ◌∙◌, arith, add-one}
use Rattle.std.specs.List.{fold}
use Rattle.std.proofs.Math.Seq.{take-suc}
use Rattle.std.proofs.Math.Nat.{mul-le-mul_left}
use Rattle.std.proofs.lemmas.List.Sums.{fold-append}
use Rattle.std.proofs.lemmas.Bool.{le-ltb, ltb-false}
use Rattle.c_lex.specs.Bytes.{Text}
use Rattle.c_lex.specs.Number.{digit_of, value_of}

pub value_more : (base : ℕ) (digits : Text) (i : ℕ) → i < length digits →
    value_of base (take (i + 1) digits) ≡ value_of base (take i digits) * base + digit_of (get_or digits i 0)
unfolding value_of
value_more base digits i h = rw (add-one, take-suc digits i 0 h) (fold-append (λ n b. n * base + digit_of b) 0 (take i digits) (get_or digits i 0 ∷ []))

grows : (base n : ℕ) → 0 < base → n ≤ n * base
grows base n h = let m = mul-le-mul_left n h in omega (arith, m)

value_grows : (base start : ℕ) (digits : Text) → 0 < base → start ≤ fold (λ n b. n * base + digit_of b) start digits
value_grows base start [] h = omega arith
value_grows base start (b ∷ ds) h =
    let g = grows base start h in
    let r = value_grows base (start * base + digit_of b) ds h in
    omega (arith, g, r)

take_drop : (n : ℕ) (z : Text) → take n z ++ drop n z ≡ z
take_drop zero z = refl
take_drop (suc n) [] = refl
take_drop (suc n) (b ∷ z) = ap (λ y. b ∷ y) (take_drop n z)

value_front : (base : ℕ) (digits : Text) (i : ℕ) → 0 < base → value_of base (take i digits) ≤ value_of base digits
unfolding value_of
value_front base digits i h =
    let f : ℕ → ℕ → ℕ = λ n b. n * base + digit_of b in
    let e = ap (fold f 0) (sym (take_drop i digits)) ∙ fold-append f 0 (take i digits) (drop i digits) in
    rw e (value_grows base (fold f 0 (take i digits)) (drop i digits) h)

-- a front that is too large makes the whole too large
pub too_large : (base : ℕ) (digits : Text) (i limit : ℕ) → 0 < base → i < length digits →
    limit ≤ value_of base (take i digits) * base + digit_of (get_or digits i 0) → ltb (value_of base digits) limit ≡ false
too_large base digits i limit some h large =
    let m = value_more base digits i h in
    let f = value_front base digits (i + 1) some in
    le-ltb (value_of base digits) limit (omega (arith, m, f, large))

none_by : (n limit : ℕ) (b : Bool) → ltb n limit ≡ b → None ≡ (if b then Some n else None) → limit ≤ n
none_by n limit true e h = absurd (cc)
none_by n limit false e h = ltb-false n limit e

-- no number comes out only where it is too large
pub none_is : (n limit : ℕ) → None ≡ (if ltb n limit then Some n else None) → limit ≤ n
none_is n limit h = none_by n limit (ltb n limit) refl h
