-- Whole literals, character by character.
use Rattle.std.proofs.Common.{◌≡◌, ◌≢◌, ℕ, zero, suc, ◌+◌, ◌<◌, ◌≤◌, not, inl, inr, List, [], ◌∷◌, length, drop, get_or, Option, Some, None, refl, sym, ap, ◌∙◌, subst, arith, length-drop}
use Rattle.std.specs.Prelude.{◌&&◌, ◌==◌, slice_index}
use Rattle.std.proofs.lemmas.Bool.{eqb-true}
use Rattle.c_lex.specs.Bytes.{Text, run}
use Rattle.c_lex.specs.Literal.{prefix, character_len, character_value, characters, string_bytes, string_len, char_len}
use Rattle.c_lex.specs.Characters.{IsCharacter, plain, escape, IsBody, closes, further, IsStringAt, IsCharAt, StringsAreRead, CharsAreRead, StringsHaveBytes}
use Rattle.c_lex.proofs.Numbers.{and_true}
use Rattle.c_lex.proofs.Pieces.{chosen, string_is, char_is}
use Rattle.c_lex.proofs.Runs.{run_stops, run_goes_by, characters_stop, characters_go}
use Rattle.c_lex.proofs.Escapes.{characters_read, characters_all}

double_quote : ◌≢◌ {A = ℕ} 34 92
double_quote e = omega (arith, e)

single_quote : ◌≢◌ {A = ℕ} 39 92
single_quote e = omega (arith, e)

character_within : (quote : ℕ) (z : Text) (n v : ℕ) → IsCharacter quote z n v → (0 < n) × (n ≤ length z)
character_within quote z n v (plain b y q ten back) = (omega arith, omega arith)
character_within quote z n v (escape y k u long is fits) = (omega arith, omega (arith, long.within))

get_drop : (z : Text) (n i : ℕ) → get_or (drop n z) i 0 ≡ get_or z (n + i) 0
get_drop z zero i = let e : 0 + i ≡ i = omega arith in ap (λ k. get_or z k 0) (sym e)
get_drop [] (suc n) i = refl
get_drop (b ∷ z) (suc n) i = let e : suc n + i ≡ suc (n + i) = omega arith in get_drop z n i ∙ sym (ap (λ k. get_or (b ∷ z) k 0) e)

-- ---- strings

abbrev Body : Text → Type 0
Body y = (vs : List ℕ) × IsBody 34 y (run (character_len 34) y + 1) vs

ends_here : (y : Text) → character_len 34 y ≡ 0 → get_or y (run (character_len 34) y) 0 ≡ 34 → Body y
ends_here [] none quote = absurd (omega (arith, quote))
ends_here (b ∷ y) none quote =
    let r = run_stops (character_len 34) (b ∷ y) none in
    let is : b ≡ 34 = rw r at quote in
    rw r (rw is ([], closes y))

body : (fuel : ℕ) (y : Text) → length y ≤ fuel → get_or y (run (character_len 34) y) 0 ≡ 34 → (n : ℕ) → character_len 34 y ≡ n → Body y
body fuel y le quote zero e = ends_here y e quote
body zero y le quote (suc n) e = absurd (omega (arith, le, (character_within 34 y (suc n) (character_value y) (characters_read 34 y n double_quote e)).1))
body (suc fuel) y le quote (suc n) e =
    let c = characters_read 34 y n double_quote e in
    let within = (character_within 34 y (suc n) (character_value y) c).1 in
    let goes = run_goes_by (character_len 34) y n e within in
    let rest = drop (suc n) y in
    let next : get_or rest (run (character_len 34) rest) 0 ≡ 34 = get_drop y (suc n) (run (character_len 34) rest) ∙ sym (ap (λ k. get_or y k 0) goes) ∙ quote in
    let r = body fuel rest (omega (arith, le, length-drop (suc n) y)) next (character_len 34 rest) refl in
    let len : suc n + (run (character_len 34) rest + 1) ≡ run (character_len 34) y + 1 = omega (arith, goes) in
    let whole : IsBody 34 y (suc n + (run (character_len 34) rest + 1)) (character_value y ∷ r.0) = further y (suc n) (run (character_len 34) rest + 1) (character_value y) r.0 c r.1 in
    (character_value y ∷ r.0, subst (λ (k : ℕ). IsBody 34 y k (character_value y ∷ r.0)) len whole)

some_is : (x y : ℕ) → ◌≡◌ {A = Option ℕ} (Some x) (Some y) → x ≡ y
some_is x y h = cc

string_at : (z : Text) (n : ℕ) → slice_index z (prefix z) ≡ 34 → string_len (prefix z) z ≡ Some n → IsStringAt z n
unfolding string_len
string_at z n first h =
    let at = prefix z + 1 in
    let y = drop at z in
    elim (chosen (slice_index z (prefix z + 1 + run (character_len 34) y) == 34) _ _ (Some n) h) [
      | inl e ↦
          let quote : get_or y (run (character_len 34) y) 0 ≡ 34 = get_drop z at (run (character_len 34) y) ∙ eqb-true _ 34 e.0 in
          let b = body (length y) y (omega arith) quote (character_len 34 y) refl in
          (run (character_len 34) y + 1, b.0, b.1, first, omega (arith, some_is _ n e.1))
      | inr e ↦ absurd (let f : ◌≡◌ {A = Option ℕ} None (Some n) = e.1 in cc)
    ]

pub strings_read : StringsAreRead
strings_read fresh z n h = let e = string_is fresh z n h in string_at z n e.0 e.1

-- ---- character constants

char_at : (z : Text) (n k : ℕ) → character_len 39 (drop (prefix z + 1) z) ≡ k → char_len (prefix z) z ≡ Some n → IsCharAt z n
unfolding char_len
char_at z n zero len h = absurd (let f : ◌≡◌ {A = Option ℕ} None (Some n) = rw len at h in cc)
char_at z n (suc k) len h =
    let y = drop (prefix z + 1) z in
    elim (chosen (not (character_len 39 y == 0) && slice_index z (prefix z + 1 + character_len 39 y) == 39) _ _ (Some n) h) [
      | inl e ↦
          let p = and_true (not (character_len 39 y == 0)) _ e.0 in
          let quote = rw len at (eqb-true _ 39 p.1) in
          (suc k, character_value y, characters_read 39 y k single_quote len, quote, omega (arith, len, some_is _ n e.1))
      | inr e ↦ absurd (let f : ◌≡◌ {A = Option ℕ} None (Some n) = e.1 in cc)
    ]

pub chars_read : CharsAreRead
chars_read fresh z n h = char_at z n (character_len 39 (drop (prefix z + 1) z)) refl (char_is fresh z n h)

-- ---- the bytes of a string

no_quote : (y : Text) → character_len 34 (34 ∷ y) ≡ 0
unfolding character_len
no_quote y = refl

bytes_of : (z : Text) (k : ℕ) (vs : List ℕ) → IsBody 34 z k vs → characters 34 z ≡ vs
bytes_of z k vs (closes y) = characters_stop 34 (34 ∷ y) (no_quote y)
bytes_of z k vs (further _ n m v us c rest) =
    let within = character_within 34 z n v c in
    let is = characters_all 34 z n v double_quote c in
    characters_go 34 z n is.0 within.0 within.1 ∙ rw (is.1, bytes_of (drop n z) m us rest) refl

pub strings_have_bytes : StringsHaveBytes
unfolding string_bytes
strings_have_bytes w m vs b = bytes_of (drop (prefix w + 1) w) m vs b
