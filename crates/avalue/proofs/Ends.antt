-- Offsets stay offsets: neither none nor every number.
use Rattle.std.proofs.Common.{◌≡◌, inl, ℕ, ◌-◌, ◌+◌, ◌/◌, max, List, [], ◌∷◌, ◌++◌, length, refl, sym, ap, subst, ◌∙◌, ℤ, pos, ◌≤ℤ◌, arith}
use Rattle.std.proofs.lemmas.Int.{ints}
use Rattle.std.proofs.lemmas.List.Elements.{All-head}
use Rattle.std.specs.Prelude.{Bool, true, false, cond, int_lt, nat_lt, nat_le}
use Rattle.ival.specs.Numbers.{distance, residue}
use Rattle.ival.specs.Lists.{progression, ascending, least_of, greatest_of, spread}
use Rattle.ival.specs.Forms.{Has, HasEnds, IsWellFormed, Within, strided, norm, first_from, last_to, hull, least, greatest, step}
use Rattle.ival.specs.SetOperations.{join_of}
use Rattle.ival.specs.declared.forms.Ival.{Ival}
use Rattle.ival.specs.declared.forms.Ival.TheVariants.{Empty, Set, Range, All as Every}
use Rattle.ival.proofs.Keeping.{norm-keeps, member-class, least-member}
use Rattle.ival.proofs.JoinMembers.{join-keeps}
use Rattle.avalue.specs.Pointers.{AreInObject, object_end}

is_finite : Ival → Bool
is_finite Empty = true
is_finite (Set xs) = true
is_finite (Range lo hi r m) = true
is_finite Every = false

strided_finite : (first last r : ℤ) (m : ℕ) → is_finite (strided first last r m) ≡ true
unfolding strided is_finite
strided_finite first last r m =
    elim (int_lt last first) as (λ b. is_finite (cond b Empty (cond (nat_lt (distance last first / m) 8) (Set (progression first m (distance last first / m + 1)))
    (Range first last (pos (residue r m)) (pos m)))) ≡ true) [
      | true ↦ refl
      | false ↦ elim (nat_lt (distance last first / m) 8) as (λ b. is_finite (cond b (Set (progression first m (distance last first / m + 1)))
          (Range first last (pos (residue r m)) (pos m))) ≡ true) [ true ↦ refl | false ↦ refl ]
    ]

norm_finite : (lo hi r : ℤ) (m : ℕ) → is_finite (norm lo hi r m) ≡ true
unfolding norm is_finite
norm_finite lo hi r m = strided_finite (first_from lo r (max m 1)) (last_to hi r (max m 1)) r (max m 1)

hull_finite : (xs : List ℤ) → is_finite (hull xs) ≡ true
unfolding hull is_finite
hull_finite [] = refl
hull_finite (x ∷ rest) =
    elim (nat_le (length (ascending (x ∷ rest))) 8) as (λ b. is_finite (cond b (Set (ascending (x ∷ rest))) (norm (least_of x rest) (greatest_of x rest) x (spread x rest))) ≡ true) [
      | true ↦ refl
      | false ↦ norm_finite (least_of x rest) (greatest_of x rest) x (spread x rest)
    ]

join_finite : (x y : Ival) → HasEnds x → HasEnds y → is_finite (join_of x y) ≡ true
unfolding is_finite
join_finite Empty y h k = absurd h
join_finite Every y h k = absurd h
join_finite (Set xs) Empty h k = absurd k
join_finite (Set xs) Every h k = absurd k
join_finite (Set xs) (Set ys) h k = hull_finite (xs ++ ys)
join_finite (Set xs) (Range lo hi r m) h k = norm_finite _ _ _ _
join_finite (Range lo hi r m) Empty h k = absurd k
join_finite (Range lo hi r m) Every h k = absurd k
join_finite (Range lo hi r m) (Set ys) h k = norm_finite _ _ _ _
join_finite (Range lo hi r m) (Range low high rest stride) h k = norm_finite _ _ _ _

not_every : true ≡ false → ⊥
not_every e = cc

ends_of : (a : Ival) (z : ℤ) → Has a z → IsWellFormed a → is_finite a ≡ true → HasEnds a
unfolding is_finite
ends_of Empty z h w f = absurd h
ends_of (Set xs) z h w f = w
ends_of (Range lo hi r m) z h w f = w
ends_of Every z h w f = absurd (not_every (sym f))

pub formed_of : (a : Ival) → HasEnds a → IsWellFormed a
formed_of Empty h = absurd h
formed_of (Set xs) h = h
formed_of (Range lo hi r m) h = h
formed_of Every h = absurd h

pub join_ends : (x y j : Ival) → j ≡ join_of x y → HasEnds x → HasEnds y → IsWellFormed j → HasEnds j
join_ends x y j e h k w =
    ends_of j (least x) (subst (λ s. Has s (least x)) (sym e) (join-keeps x y (formed_of x h) (formed_of y k) (least x) (inl (least-member x h)))) w
    (ap is_finite e ∙ join_finite x y h k)

-- ---- widened offsets

pub within_least : (a : Ival) (low high : ℤ) → HasEnds a → Within low high a → (low ≤ℤ least a) × (least a ≤ℤ high)
within_least Empty low high h w = absurd h
within_least (Set []) low high h w = absurd (let s = h.some in omega (arith, s))
within_least (Set (x ∷ xs)) low high h w = All-head (λ y. (low ≤ℤ y) × (y ≤ℤ high)) x xs w
within_least (Range lo hi r m) low high h w = let f = h.many in (w.0, omega (arith, ints, w.1, f))
within_least Every low high h w = absurd h

pub within_greatest : (a : Ival) (low high : ℤ) → HasEnds a → Within low high a → (low ≤ℤ greatest a) × (greatest a ≤ℤ high)
within_greatest Empty low high h w = absurd h
within_greatest (Set xs) low high h w = w (length xs - 1) (pos 0) (omega (arith, h.some))
within_greatest (Range lo hi r m) low high h w = let f = h.many in (omega (arith, ints, w.0, f), w.1)
within_greatest Every low high h w = absurd h

-- the least member of one side has the class of the join, and lies in the object
pub widened_ends : (x y j n : Ival) → j ≡ join_of x y → HasEnds x → HasEnds y → HasEnds j → AreInObject x → IsWellFormed n
    → n ≡ norm (pos 0) object_end (least j) (step j) → HasEnds n
widened_ends x y j n e h k l i w d =
    let inside = within_least x (pos 0) object_end h i in
    let member : Has j (least x) = subst (λ s. Has s (least x)) (sym e) (join-keeps x y (formed_of x h) (formed_of y k) (least x) (inl (least-member x h))) in
    let kept : Has (norm (pos 0) object_end (least j) (step j)) (least x) = norm-keeps (pos 0) object_end (least j) (least x) (step j) inside.0 inside.1 (member-class j (least x) l member) in
    ends_of n (least x) (subst (λ s. Has s (least x)) (sym d) kept) w (ap is_finite d ∙ norm_finite (pos 0) object_end (least j) (step j))
