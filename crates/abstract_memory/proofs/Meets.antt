-- Meets of offsets are offsets, or none.
use Rattle.std.proofs.Common.{◌≡◌, refl, Bool, true, false, cond, List, [], ◌∷◌, ℤ, ◌≤ℤ◌, Option, Some, None, arith}
use Rattle.std.specs.Prelude.{nat_le, ◌^◌}
use Rattle.std.specs.List.{All, Contains, filter}
use Rattle.std.proofs.lemmas.Int.{ints, clamps}
use Rattle.std.proofs.lemmas.List.Elements.{All-cons, All-nil, All-contains}
use Rattle.ival.specs.Forms.{Has, HasEnds, IsBounded, IsWellFormed, Within, has, norm, set_of, least, step, is_empty}
use Rattle.ival.specs.Meet.{meet_of, common_range, least_common, lower_end, upper_end, lcm}
use Rattle.ival.specs.declared.forms.Ival.{Ival}
use Rattle.ival.specs.declared.forms.Ival.TheVariants.{Empty, Set, Range, All as Every}
use Rattle.ival.proofs.Membership.{Decides-member, by-test}
use Rattle.ival.proofs.HullMembers.{contains-here, contains-later}
use Rattle.ival.proofs.WidenMembers.{ends-bounded, ends-within}
use Rattle.ival.proofs.Operands.{norm-within}
use Rattle.ival.proofs.WellFormed.{norm-well_formed, filter-well_formed}

pub within_member : (low high : ℤ) (i : Ival) (x : ℤ) → Within low high i → Has i x → (low ≤ℤ x) × (x ≤ℤ high)
within_member low high Empty x h m = absurd m
within_member low high (Set xs) x h m = All-contains (λ y. (low ≤ℤ y) × (y ≤ℤ high)) xs x h m
within_member low high (Range lo hi r n) x h m = (omega (arith, ints, h.0, m.0), omega (arith, ints, h.1, m.1))
within_member low high Every x h m = absurd h

-- what is within bounds isn't every number
pub within_ends : (low high : ℤ) (i : Ival) → Within low high i → IsWellFormed i → is_empty i ≡ false → HasEnds i
within_ends low high Empty h w e = cc
within_ends low high (Set xs) h w e = w
within_ends low high (Range lo hi r m) h w e = w
within_ends low high Every h w e = absurd h

common_formed : (a b : Ival) (o : Option ℤ) → HasEnds a → HasEnds b → IsWellFormed (common_range a b o)
common_formed a b None h k = tt
common_formed a b (Some x) h k =
    let p = ends-bounded a h in let q = ends-bounded b k in
    let low : IsBounded (lower_end a b) = record { above = omega (arith, ints, clamps, p.0.above, q.0.above); below = omega (arith, ints, clamps, p.0.below, q.0.below) } in
    let high : IsBounded (upper_end a b) = record { above = omega (arith, ints, clamps, p.1.above, q.1.above); below = omega (arith, ints, clamps, p.1.below, q.1.below) } in
    by-test IsWellFormed (nat_le (lcm (step a) (step b)) (2 ^ 126)) (norm (lower_end a b) (upper_end a b) x (lcm (step a) (step b))) (norm (lower_end a b) (upper_end a b) (least a) (step a))
    (λ e. norm-well_formed (lower_end a b) (upper_end a b) x (lcm (step a) (step b)) low high)
    (λ e. norm-well_formed (lower_end a b) (upper_end a b) (least a) (step a) low high)

common_within : (less more : ℤ) (a b : Ival) (o : Option ℤ) → HasEnds b → Within less more b → Within less more (common_range a b o)
common_within less more a b None k w = tt
common_within less more a b (Some x) k w =
    let q = ends-within less more b k w in
    by-test (Within less more) (nat_le (lcm (step a) (step b)) (2 ^ 126)) (norm (lower_end a b) (upper_end a b) x (lcm (step a) (step b))) (norm (lower_end a b) (upper_end a b) (least a) (step a))
    (λ e. norm-within less more (lower_end a b) (upper_end a b) x (lcm (step a) (step b)) (omega (arith, ints, clamps, q.0)) (omega (arith, ints, clamps, q.1)))
    (λ e. norm-within less more (lower_end a b) (upper_end a b) (least a) (step a) (omega (arith, ints, clamps, q.0)) (omega (arith, ints, clamps, q.1)))

pub meet_formed : (a b : Ival) → IsWellFormed a → IsWellFormed b → IsWellFormed (meet_of a b)
meet_formed Empty b h k = tt
meet_formed (Set xs) Empty h k = tt
meet_formed (Set xs) (Set ys) h k = filter-well_formed (has (Set ys)) xs h
meet_formed (Set xs) (Range lo hi r m) h k = filter-well_formed (has (Range lo hi r m)) xs h
meet_formed (Set xs) Every h k = h
meet_formed (Range lo hi r m) Empty h k = tt
meet_formed (Range lo hi r m) (Set ys) h k = filter-well_formed (has (Range lo hi r m)) ys k
meet_formed (Range lo hi r m) (Range low high rest stride) h k =
    common_formed (Range lo hi r m) (Range low high rest stride) (least_common (Range lo hi r m) (Range low high rest stride)) h k
meet_formed (Range lo hi r m) Every h k = h
meet_formed Every Empty h k = tt
meet_formed Every (Set ys) h k = k
meet_formed Every (Range lo hi r m) h k = k
meet_formed Every Every h k = tt

-- a property of each number that passes a test, of the numbers that pass it
filter_all : (P : ℤ → Type 0) (p : ℤ → Bool) (xs : List ℤ) → ((x : ℤ) → Contains xs x → p x ≡ true → P x) → All P (filter p xs)
filter_all P p [] h = All-nil P
filter_all P p (x ∷ xs) h =
    elim (p x) as (λ (b : Bool). p x ≡ b → All P (cond b (x ∷ filter p xs) (filter p xs))) [
      | true ↦ λ e. All-cons P x (filter p xs) (h x (contains-here x x xs refl) e) (filter_all P p xs (λ y m t. h y (contains-later x y xs m) t))
      | false ↦ λ e. filter_all P p xs (λ y m t. h y (contains-later x y xs m) t)
    ] refl

set_within : (low high : ℤ) (xs : List ℤ) → All (λ x. (low ≤ℤ x) × (x ≤ℤ high)) xs → Within low high (set_of xs)
set_within low high [] h = tt
set_within low high (x ∷ xs) h = h

-- a meet lies where its second side does
pub meet_within : (low high : ℤ) (a b : Ival) → IsWellFormed b → Within low high b → Within low high (meet_of a b)
meet_within low high Empty b k w = tt
meet_within low high (Set xs) Empty k w = tt
meet_within low high (Set xs) (Set ys) k w =
    set_within low high (filter (has (Set ys)) xs) (filter_all (λ x. (low ≤ℤ x) × (x ≤ℤ high)) (has (Set ys)) xs (λ x m t. within_member low high (Set ys) x w ((Decides-member (Set ys) x k).0 t)))
meet_within low high (Set xs) (Range lo hi r m) k w =
    set_within low high (filter (has (Range lo hi r m)) xs)
    (filter_all (λ x. (low ≤ℤ x) × (x ≤ℤ high)) (has (Range lo hi r m)) xs (λ x c t. within_member low high (Range lo hi r m) x w ((Decides-member (Range lo hi r m) x k).0 t)))
meet_within low high (Set xs) Every k w = absurd w
meet_within low high (Range lo hi r m) Empty k w = tt
meet_within low high (Range lo hi r m) (Set ys) k w =
    set_within low high (filter (has (Range lo hi r m)) ys) (filter_all (λ x. (low ≤ℤ x) × (x ≤ℤ high)) (has (Range lo hi r m)) ys (λ x c t. within_member low high (Set ys) x w c))
meet_within low high (Range lo hi r m) (Range least most rest stride) k w =
    common_within low high (Range lo hi r m) (Range least most rest stride) (least_common (Range lo hi r m) (Range least most rest stride)) k w
meet_within low high (Range lo hi r m) Every k w = absurd w
meet_within low high Every Empty k w = tt
meet_within low high Every (Set ys) k w = w
meet_within low high Every (Range lo hi r m) k w = w
meet_within low high Every Every k w = w
