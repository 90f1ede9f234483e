-- A run of parts, and the text behind skipped pieces, step by step.
use Rattle.std.proofs.Common.{◌≡◌, ℕ, zero, suc, ◌+◌, ◌-◌, ◌<◌, ◌≤◌, Bool, [], ◌∷◌, length, take, drop, refl, ap, sym, ◌∙◌, arith}
use Rattle.std.specs.Prelude.{◌==◌, ◌||◌, ◌&&◌}
use Rattle.std.proofs.Math.Dec.{eqb-suc-zero}
use Rattle.c_lex.specs.Bytes.{Text, is_blank, run_from, run, fresh_past}
use Rattle.c_lex.specs.Literal.{character_len, character_value, characters_from, characters}
use Rattle.c_lex.specs.Piece.{piece}
use Rattle.c_lex.specs.Reading.{skipped_len, behind_from, behind}

drop_none : (n : ℕ) → drop n (let e : Text = [] in e) ≡ []
drop_none zero = refl
drop_none (suc n) = refl

drop_more : (n m : ℕ) (z : Text) → drop (n + m) z ≡ drop m (drop n z)
drop_more zero m z = let e : 0 + m ≡ m = omega arith in ap (λ k. drop k z) e
drop_more (suc n) m [] = drop_none (suc n + m) ∙ sym (drop_none m)
drop_more (suc n) m (b ∷ z) = let e : suc n + m ≡ suc (n + m) = omega arith in ap (λ k. drop k (b ∷ z)) e ∙ drop_more n m z

run_from-drop : (part : Text → ℕ) (n : ℕ) (z : Text) → n ≤ length z → run_from part n z ≡ n + run_from part 0 (drop n z)
run_from-drop part zero z h = let e : run_from part 0 z ≡ 0 + run_from part 0 z = omega arith in e
run_from-drop part (suc n) [] h = absurd (omega arith)
run_from-drop part (suc n) (b ∷ z) h = let e = run_from-drop part n z (omega arith) in omega (arith, e)

pub run_stops : (part : Text → ℕ) (z : Text) → part z ≡ 0 → run part z ≡ 0
unfolding run
run_stops part [] h = refl
run_stops part (b ∷ z) h = rw h refl

pub run_goes_by : (part : Text → ℕ) (z : Text) (m : ℕ) → part z ≡ suc m → suc m ≤ length z → run part z ≡ suc m + run part (drop (suc m) z)
unfolding run
run_goes_by part [] m e h = absurd (omega arith)
run_goes_by part (b ∷ z) m e h = let r = run_from-drop part m z (omega arith) in rw (e, eqb-suc-zero m) (let s : suc m - 1 ≡ m = omega arith in rw s (omega (arith, r)))

pub run_goes : (part : Text → ℕ) (z : Text) (end len : ℕ) → part (drop end z) ≡ len → 0 < len → len ≤ length (drop end z) →
    end + run part (drop end z) ≡ run part z → (end + len) + run part (drop (end + len) z) ≡ run part z
run_goes part z end zero e some h so_far = absurd (omega arith)
run_goes part z end (suc m) e some h so_far =
    let r = run_goes_by part (drop end z) m e h in
    let d = drop_more end (suc m) z in
    rw d (omega (arith, r, so_far))

-- ---- behind skipped pieces

behind_from-drop : (n : ℕ) (fresh : Bool) (z : Text) → behind_from n fresh z ≡ behind_from 0 (fresh_past fresh (take n z)) (drop n z)
unfolding fresh_past
behind_from-drop zero fresh z = refl
behind_from-drop (suc n) fresh [] = refl
behind_from-drop (suc n) fresh (b ∷ z) = behind_from-drop n _ z

pub behind_stops : (fresh : Bool) (z : Text) → skipped_len (piece fresh z) ≡ 0 → behind fresh z ≡ z
unfolding behind
behind_stops fresh [] h = refl
behind_stops fresh (b ∷ z) h = rw h refl

pub behind_goes : (fresh : Bool) (z : Text) (n : ℕ) → skipped_len (piece fresh z) ≡ n → 0 < n → n ≤ length z →
    behind fresh z ≡ behind (fresh_past fresh (take n z)) (drop n z)
unfolding behind fresh_past
behind_goes fresh [] n e some h = absurd (omega arith)
behind_goes fresh (b ∷ z) zero e some h = absurd (omega arith)
behind_goes fresh (b ∷ z) (suc m) e some h = rw (e, eqb-suc-zero m) (let s : suc m - 1 ≡ m = omega arith in rw s (behind_from-drop m (b == 10 || (fresh && is_blank b)) z))

pub behind_end : (fresh : Bool) (z : Text) → length z ≡ 0 → behind fresh z ≡ z
unfolding behind
behind_end fresh [] h = refl
behind_end fresh (b ∷ z) h = absurd (omega arith)

-- ---- the bytes of characters

characters_from-drop : (quote n : ℕ) (z : Text) → characters_from quote n z ≡ characters_from quote 0 (drop n z)
characters_from-drop quote zero z = refl
characters_from-drop quote (suc n) [] = refl
characters_from-drop quote (suc n) (b ∷ z) = characters_from-drop quote n z

pub characters_stop : (quote : ℕ) (z : Text) → character_len quote z ≡ 0 → characters quote z ≡ []
unfolding characters
characters_stop quote [] h = refl
characters_stop quote (b ∷ z) h = rw h refl

pub characters_go : (quote : ℕ) (z : Text) (n : ℕ) → character_len quote z ≡ n → 0 < n → n ≤ length z →
    characters quote z ≡ character_value z ∷ characters quote (drop n z)
unfolding characters
characters_go quote [] n e some h = absurd (omega arith)
characters_go quote (b ∷ z) zero e some h = absurd (omega arith)
characters_go quote (b ∷ z) (suc m) e some h =
    rw (e, eqb-suc-zero m) (let s : suc m - 1 ≡ m = omega arith in rw s (ap (λ y. character_value (b ∷ z) ∷ y) (characters_from-drop quote m z)))

pub characters_end : (quote : ℕ) (z : Text) → length z ≡ 0 → characters quote z ≡ []
unfolding characters
characters_end quote [] h = refl
characters_end quote (b ∷ z) h = absurd (omega arith)
