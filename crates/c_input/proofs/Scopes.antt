-- What a scope keeps, as names come and go.
use Rattle.std.proofs.Common.{◌≡◌, ℕ, zero, suc, ◌-◌, ◌<◌, ◌≤◌, Bool, false, cond, eqb, List, [], ◌∷◌, ◌++◌, length, get_or, take, drop, min, refl, sym, ap, subst, ◌∙◌, arith}
use Rattle.std.proofs.Math.ListN.{set}
use Rattle.std.specs.Prelude.{reverse, Option, Some, None, MatchOption}
use Rattle.std.proofs.lemmas.List.{get_or-set_same, get_or-set_other, same_from_push, reverse-append, length-reverse, take-append-drop, take_at, length-drop, length-set, drop_min}
use Rattle.std.proofs.lemmas.Bool.Decides.{nat_tests}
use Rattle.std.proofs.lemmas.Bool.{cases_eq}
use Rattle.std.proofs.lemmas.Grind.{common_steps}
use Rattle.c_input.specs.Scope.{Names, is_type, oldest, in_table, Hides, Kept}

pub pushed : (types : List Bool) (n : ℕ) → get_or (types ++ false ∷ []) n false ≡ get_or types n false
pushed [] zero = refl
pushed [] (suc n) = refl
pushed (b ∷ bs) zero = refl
pushed (b ∷ bs) (suc n) = pushed bs n

pub Hides_more : (m n : ℕ) → m ≤ n → (xs : Names) (bs : List Bool) → Hides m xs bs → Hides n xs bs
Hides_more m n le [] [] h = tt
Hides_more m n le (x ∷ xs) (b ∷ bs) h = (omega (arith, h.0), h.1, Hides_more m n le xs bs h.2)
Hides_more m n le [] (b ∷ bs) h = h
Hides_more m n le (x ∷ xs) [] h = h

pub reached : (names : Names) (hidden types more : List Bool) → Kept names hidden types → ((n : ℕ) → in_table more n ≡ in_table types n) → length types ≤ length more → Kept names hidden more
reached names hidden types more kept same longer = record {
  now = λ n. same n ∙ kept.now n;
  before = Hides_more (length types) (length more) longer names hidden kept.before;
}

changed : (types : List Bool) (names : Names) (n : ℕ) (t : Bool) (k : ℕ) → n < length types → in_table types k ≡ is_type names k → in_table (set types n t) k ≡ cond (eqb n k) t (is_type names k)
changed types names n t k below e = grind (arith, nat_tests, common_steps, get_or-set_same, get_or-set_other, cases_eq n k)

pub declared : (names : Names) (hidden types : List Bool) (n : ℕ) (t : Bool) → Kept names hidden types → n < length types → Kept ((n, t) ∷ names) (is_type names n ∷ hidden) (set types n t)
declared names hidden types n t kept below =
    let same = length-set types n t in
    record {
      now = λ k. changed types names n t k below (kept.now k);
      before = (omega (arith, same), refl, Hides_more (length types) (length (set types n t)) (omega (arith, same)) names hidden kept.before);
    }

pub declared_last : (d : Names) (h : List Bool) (types : List Bool) (n : ℕ) (t b : Bool) (d' : Names) (h' types' : List Bool) →
    Kept (reverse d) (reverse h) types → n < length types → b ≡ is_type (reverse d) n → d' ≡ d ++ (n, t) ∷ [] → h' ≡ h ++ b ∷ [] → types' ≡ set types n t → Kept (reverse d') (reverse h') types'
declared_last d h types n t b d' h' types' kept below e p q r =
    rw (p, q, r, reverse-append d ((n, t) ∷ []), reverse-append h (b ∷ [])) (subst (λ (b' : Bool). Kept ((n, t) ∷ reverse d) (b' ∷ reverse h) (set types n t)) (sym e) (declared (reverse d) (reverse h) types n t kept below))

pub popped : (r : Option Bool) (h old new : List Bool) (b : Bool) → old ≡ h ++ b ∷ [] → MatchOption r ((old ≡ []) × (new ≡ [])) (λ last. old ≡ new ++ last ∷ []) → new ≡ h
popped None [] old new b e m = absurd (cc (e, m.0))
popped None (x ∷ xs) old new b e m = absurd (cc (e, m.0))
popped (Some last) h old new b e m = (same_from_push new h last b (sym m ∙ e)).0

restored : (types : List Bool) (names : Names) (n : ℕ) (t b : Bool) (k : ℕ) → n < length types → b ≡ is_type names n → in_table types k ≡ cond (eqb n k) t (is_type names k) → in_table (set types n b) k ≡ is_type names k
restored types names n t b k below was e = grind (arith, nat_tests, common_steps, get_or-set_same, get_or-set_other, cases_eq n k)

pub left : (names : Names) (hidden types : List Bool) (n : ℕ) (t b : Bool) → Kept ((n, t) ∷ names) (b ∷ hidden) types → Kept names hidden (set types n b)
left names hidden types n t b kept =
    let same = length-set types n b in
    record {
      now = λ k. restored types names n t b k kept.before.0 kept.before.1 (kept.now k);
      before = Hides_more (length types) (length (set types n b)) (omega (arith, same)) names hidden kept.before.2;
    }

pub older : (kept : ℕ) (xs : Names) → kept < length xs → oldest kept (drop 1 xs) ≡ oldest kept xs
older kept [] h = refl
older kept (x ∷ xs) h = let e : suc (length xs) - kept ≡ suc (length xs - kept) = omega arith in ap (λ n. drop n (x ∷ xs)) (sym e)

pub all_kept : (kept : ℕ) (xs : Names) → length xs ≤ kept → oldest kept xs ≡ xs
all_kept kept xs h = let e : length xs - kept ≡ 0 = omega arith in ap (λ n. drop n xs) e

pub newest_of : (kept : ℕ) (d : Names) → reverse (drop (min kept (length d)) d) ≡ take (length (reverse d) - kept) (reverse d)
newest_of kept d =
    let parts : reverse d ≡ reverse (drop kept d) ++ reverse (take kept d) = ap reverse (sym (take-append-drop kept d)) ∙ reverse-append (take kept d) (drop kept d) in
    let long : length (reverse (drop kept d)) ≡ length (reverse d) - kept = omega (arith, length-reverse (drop kept d), length-reverse d, length-drop kept d) in
    ap reverse (drop_min kept d) ∙ sym (ap (take (length (reverse d) - kept)) parts ∙ take_at (reverse (drop kept d)) (reverse (take kept d)) (length (reverse d) - kept) long)
