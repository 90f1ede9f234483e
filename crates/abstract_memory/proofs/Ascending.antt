-- Ascending numbers are the set of themselves, once and twice.
use Rattle.std.proofs.Common.{◌≡◌, ◌<◌, ◌≤◌, List, [], ◌∷◌, ◌++◌, length, sym, refl, ap, subst, ◌∙◌, ℤ, ◌<ℤ◌, arith}
use Rattle.std.specs.List.{fold}
use Rattle.std.proofs.lemmas.Int.{ints}
use Rattle.std.proofs.lemmas.List.{append-nil, append_assoc}
use Rattle.std.proofs.lemmas.List.Sums.{fold-append}
use Rattle.ival.specs.Lists.{IsAscending, insert, ascending}
use Rattle.ival.specs.Forms.{IsMemberList, hull}
use Rattle.ival.specs.declared.forms.Ival.TheVariants.{Set}
use Rattle.ival.proofs.ListLemmas.{insert-after, insert-known}
use Rattle.ival.proofs.FormLemmas.{hull-few}

tail_ascending : (y : ℤ) (ys : List ℤ) → IsAscending (y ∷ ys) → IsAscending ys
tail_ascending y [] h = tt
tail_ascending y (z ∷ ys) h = h.1

-- a number is below each one behind it
below_later : (y x : ℤ) (ps qs : List ℤ) → IsAscending (y ∷ (ps ++ x ∷ qs)) → y <ℤ x
below_later y x [] qs h = h.0
below_later y x (z ∷ ps) qs h = let k : z <ℤ x = below_later z x ps qs h.1 in let l : y <ℤ z = h.0 in omega (arith, ints)

front_ascending : (xs ys : List ℤ) → IsAscending (xs ++ ys) → IsAscending xs
front_ascending [] ys h = tt
front_ascending (x ∷ []) ys h = tt
front_ascending (x ∷ z ∷ xs) ys h = (h.0, front_ascending (z ∷ xs) ys h.1)

insert_end : (x : ℤ) (kept : List ℤ) → IsAscending (kept ++ x ∷ []) → insert x kept ≡ kept ++ x ∷ []
unfolding insert
insert_end x [] h = refl
insert_end x (y ∷ rest) h = insert-after x y rest (below_later y x rest [] h) ∙ ap (λ t. y ∷ t) (insert_end x rest (tail_ascending y (rest ++ x ∷ []) h))

gathered : (kept xs : List ℤ) → IsAscending (kept ++ xs) → fold (λ all x. insert x all) kept xs ≡ kept ++ xs
gathered kept [] h = sym (append-nil kept)
gathered kept (x ∷ xs) h =
    let e : (kept ++ x ∷ []) ++ xs ≡ kept ++ x ∷ xs = append_assoc kept (x ∷ []) xs in
    let g : IsAscending ((kept ++ x ∷ []) ++ xs) = subst IsAscending (sym e) h in
    ap (λ (all : List ℤ). fold (λ all x. insert x all) all xs) (insert_end x kept (front_ascending (kept ++ x ∷ []) xs g)) ∙ gathered (kept ++ x ∷ []) xs g ∙ e

insert_there : (x : ℤ) (ps qs : List ℤ) → IsAscending (ps ++ x ∷ qs) → insert x (ps ++ x ∷ qs) ≡ ps ++ x ∷ qs
insert_there x [] qs h = insert-known x qs
insert_there x (p ∷ ps) qs h = insert-after x p (ps ++ x ∷ qs) (below_later p x ps qs h) ∙ ap (λ t. p ∷ t) (insert_there x ps qs (tail_ascending p (ps ++ x ∷ qs) h))

again : (ps xs : List ℤ) → IsAscending (ps ++ xs) → fold (λ all x. insert x all) (ps ++ xs) xs ≡ ps ++ xs
again ps [] h = refl
again ps (x ∷ xs) h =
    let e : (ps ++ x ∷ []) ++ xs ≡ ps ++ x ∷ xs = append_assoc ps (x ∷ []) xs in
    ap (λ (all : List ℤ). fold (λ all x. insert x all) all xs) (insert_there x ps xs h ∙ sym e) ∙ again (ps ++ x ∷ []) xs (subst IsAscending (sym e) h) ∙ e

of_ascending : (xs ys : List ℤ) → IsMemberList xs → ascending ys ≡ xs → 0 < length ys → hull ys ≡ Set xs
of_ascending xs ys h e some =
    let f : length xs ≤ 8 = h.few in
    sym (hull-few xs ys some (sym e) (subst (λ (zs : List ℤ). length zs ≤ 8) (sym e) f))

pub hull_members : (xs : List ℤ) → IsMemberList xs → hull xs ≡ Set xs
hull_members xs h = of_ascending xs xs h (gathered [] xs h.ascending) h.some

some_twice : (xs : List ℤ) → 0 < length xs → 0 < length (xs ++ xs)
some_twice [] l = absurd (omega (arith, l))
some_twice (x ∷ xs) l = omega arith

pub hull_twice : (xs : List ℤ) → IsMemberList xs → hull (xs ++ xs) ≡ Set xs
hull_twice xs h =
    of_ascending xs (xs ++ xs) h
    (fold-append (λ all x. insert x all) [] xs xs ∙ ap (λ (all : List ℤ). fold (λ all x. insert x all) all xs) (gathered [] xs h.ascending) ∙ again [] xs h.ascending)
    (some_twice xs h.some)
