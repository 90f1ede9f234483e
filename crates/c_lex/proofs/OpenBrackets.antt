-- The newest bracket is the last one.
use Rattle.std.proofs.Common.{◌≡◌, ℕ, ◌-◌, true, false, cond, List, [], ◌∷◌, ◌++◌, take, Option, Some, None, refl, ap, sym, ◌∙◌, append-nil, append_assoc, arith}
use Rattle.std.specs.Option.{option_to_list, MatchOption}
use Rattle.c_lex.specs.Reading.{on_newest, one_less, one_more}
use Rattle.c_lex.specs.declared.scan.Bracket.{Bracket}

on_newest_last : (f : Bracket → List Bracket) (os : List Bracket) (o : Bracket) → on_newest f (os ++ o ∷ []) ≡ os ++ f o
on_newest_last f [] o = refl
on_newest_last f (p ∷ []) o = refl
on_newest_last f (p ∷ q ∷ os) o = ap (λ y. p ∷ y) (on_newest_last f (q ∷ os) o)

nothing_left : (old new : List Bracket) (k : ℕ) → k ≡ 0 → new ≡ take (k - 1) old → new ≡ []
nothing_left old new k e h = let z : k - 1 ≡ 0 = omega arith in h ∙ ap (λ n. take n old) z

-- `k` is the old length, as `pop` speaks of it
pub one_less_of : (old new : List Bracket) (o : Option Bracket) (k : ℕ) (X : Type 0) (Y : Bracket → Type 0) → old ≡ new ++ option_to_list o →
    new ≡ take (k - 1) old → MatchOption o ((k ≡ 0) × X) Y → new ≡ on_newest one_less old
one_less_of old new (Some o) k X Y e rest h = sym (ap (on_newest one_less) e ∙ on_newest_last one_less new o ∙ append-nil new)
one_less_of old new None k X Y e rest h =
    let n = nothing_left old new k h.0 rest in
    n ∙ sym (ap (on_newest one_less) (e ∙ append-nil new ∙ n))

pub first_more : (old new : List Bracket) (o : Bracket) → old ≡ new ++ o ∷ [] → o.begun ≡ false → new ++ record o { begun = true } ∷ [] ≡ on_newest one_more old
first_more old new o e b = sym (ap (on_newest one_more) e ∙ on_newest_last one_more new o ∙ ap (λ t. new ++ cond t (o ∷ o ∷ []) (record o { begun = true } ∷ [])) b)

pub further_more : (old new : List Bracket) (o : Bracket) → old ≡ new ++ o ∷ [] → o.begun ≡ true → (new ++ o ∷ []) ++ record o { begun = true } ∷ [] ≡ on_newest one_more old
further_more old new o e b =
    let same : record o { begun = true } ≡ o = ap (λ t. record o { begun = t }) (sym b) in
    rw same (append_assoc new (o ∷ []) (o ∷ []) ∙ sym (ap (on_newest one_more) e ∙ on_newest_last one_more new o ∙ ap (λ t. new ++ cond t (o ∷ o ∷ []) (record o { begun = true } ∷ [])) b))
