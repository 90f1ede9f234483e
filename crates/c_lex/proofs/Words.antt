-- An identifier goes as far as its bytes do.
use Rattle.std.proofs.Common.{◌≡◌, ℕ, zero, suc, ◌<◌, ◌≤◌, Bool, true, false, inl, inr, [], ◌∷◌, ◌++◌, length, take, get_or, refl, sym, ap, ◌∙◌, subst, arith, length-append}
use Rattle.std.specs.Prelude.{◌||◌, slice_index}
use Rattle.std.specs.List.{prefix_len}
use Rattle.std.specs.Char.{is_ascii_digit}
use Rattle.std.proofs.Math.Seq.{take-suc, get_or-append_seam}
use Rattle.std.proofs.Math.ListN.{get_or-append}
use Rattle.std.proofs.lemmas.Bool.{cases_lt}
use Rattle.std.proofs.lemmas.List.{get_or-take, length-take-le}
use Rattle.std.proofs.lemmas.List.Sums.{prefix_len_passes, prefix_len_stops, prefix_len-le-length}
use Rattle.c_lex.specs.Bytes.{Text, is_letter, is_in, past}
use Rattle.c_lex.specs.Rules.{IsIdentifier, nondigit, further, Longest}
use Rattle.c_lex.specs.declared.class.Class.TheVariants as class

or_more : (d u l s : Bool) → ((u || l) || s) ≡ true → (((d || u) || l) || s) ≡ true
or_more true u l s h = refl
or_more false u l s h = h

pub letter_is_word : (b : ℕ) → is_letter b ≡ true → is_in class.Word b ≡ true
letter_is_word b h = or_more (is_ascii_digit b) _ _ _ h

-- a byte of a text with one more at its end
pub at_end : (P : ℕ → Type 0) (v : Text) (b i : ℕ) → i < length (v ++ b ∷ []) → (i < length v → P (get_or v i 0)) → P b → P (get_or (v ++ b ∷ []) i 0)
at_end P v b i lt front last = elim (cases_lt i (length v)) [
  | inl l ↦ subst P (sym (get_or-append v (b ∷ []) 0 i l)) (front l)
  | inr g ↦
      let e : i ≡ length v = omega (arith, length-append v (b ∷ []), lt, g) in
      subst P (sym (ap (λ k. get_or (v ++ b ∷ []) k 0) e ∙ get_or-append_seam v b [] 0)) last
]

each_word : (w : Text) → IsIdentifier w → (i : ℕ) → i < length w → is_in class.Word (get_or w i 0) ≡ true
each_word w (nondigit b h) zero lt = letter_is_word b h
each_word w (nondigit b h) (suc i) lt = absurd (omega arith)
each_word w (further v b h k) i lt = at_end (λ c. is_in class.Word c ≡ true) v b i lt (each_word v h i) k

built : (z : Text) (k : ℕ) → is_letter (get_or z 0 0) ≡ true → suc k ≤ prefix_len (is_in class.Word) z → IsIdentifier (take (suc k) z)
built [] zero h le = absurd (omega arith)
built (b ∷ z) zero h le = nondigit b h
built z (suc k) h le =
    let within = prefix_len-le-length (is_in class.Word) z in
    let short : suc k < length z = omega (arith, within) in
    rw (take-suc z (suc k) 0 short) (further (take (suc k) z) (get_or z (suc k) 0) (built z k h (omega arith))
    (prefix_len_passes (is_in class.Word) z (suc k) 0 (omega arith)))

some_word : (z : Text) → is_letter (get_or z 0 0) ≡ true → 0 < prefix_len (is_in class.Word) z
some_word [] h = absurd (let f : false ≡ true = h in cc)
some_word (b ∷ z) h = rw (letter_is_word b h) (omega arith)

longest_by : (z : Text) (n : ℕ) → is_letter (get_or z 0 0) ≡ true → prefix_len (is_in class.Word) z ≡ n → Longest IsIdentifier z n
longest_by z zero h e = absurd (omega (arith, some_word z h))
longest_by z (suc n) h e = record {
  within = omega (arith, prefix_len-le-length (is_in class.Word) z);
  is = built z n h (omega arith);
  longest = λ m lt le is.
      let long = length-take-le m z le in
      let goes = each_word (take m z) is (suc n) (omega (arith, long)) in
      let same = get_or-take m z (suc n) 0 lt in
      let stops = prefix_len_stops (is_in class.Word) z 0 (omega arith) in
      let here = rw (same) at goes in
      let there = rw (e) at stops in
      absurd (cc (here, there));
}

pub word_longest : (z : Text) (n : ℕ) → is_letter (slice_index z 0) ≡ true → past class.Word z 0 ≡ n → Longest IsIdentifier z n
word_longest z n h e = longest_by z n h (omega (arith, e))
