-- The offsets of an access.
use Rattle.std.proofs.Common.{ℕ, zero, suc, ◌+◌, ◌*◌, ◌/◌, ◌<◌, ◌≤◌, ◌≡◌, sym, ap, subst, ◌∙◌, List, [], ◌∷◌, length, map, get_or, ℤ, pos, ◌+ℤ◌, ◌≤ℤ◌, arith}
use Rattle.std.specs.Prelude.{unsigned_abs}
use Rattle.std.specs.List.{All, Contains}
use Rattle.std.proofs.lemmas.Int.{ints}
use Rattle.std.proofs.Math.Nat.{le-div_iff_mul-le}
use Rattle.std.proofs.lemmas.List.Elements.{All-cons, All-nil, All-head, All-tail, Contains-get_or}
use Rattle.ival.specs.Numbers.{distance}
use Rattle.ival.specs.Lists.{progression}
use Rattle.ival.specs.Forms.{Has, HasEnds, least, greatest, step}
use Rattle.ival.specs.declared.forms.Ival.{Ival}
use Rattle.ival.specs.declared.forms.Ival.TheVariants.{Empty, Set, Range, All as Every}
use Rattle.ival.proofs.Keeping.{Divides, above-least, member-between}
use Rattle.ival.proofs.WellFormed.{distance-is}
use Rattle.ival.proofs.HullMembers.{contains-here, contains-later}
use Rattle.abstract_memory.specs.Reads.{IsAccess, members_of, offsets_of, first_bit, reach}

pub contains_mapped : (f : ℤ → ℕ) (xs : List ℤ) (z : ℤ) → Contains xs z → Contains (map f xs) (f z)
contains_mapped f xs z c = found xs c.0 c.1 c.2
  where
    found : (xs : List ℤ) (k : ℕ) → k < length xs → get_or xs k z ≡ z → Contains (map f xs) (f z)
    found [] k l e = absurd (omega (arith, l))
    found (y ∷ ys) zero l e = (0, omega arith, ap f e)
    found (y ∷ ys) (suc k) l e = let r = found ys k (omega (arith, l)) e in (suc r.0, omega (arith, r.1), r.2)

all_mapped : (P : ℕ → Type 0) (f : ℤ → ℕ) (xs : List ℤ) → All (λ z. P (f z)) xs → All P (map f xs)
all_mapped P f [] a = All-nil P
all_mapped P f (x ∷ xs) a = All-cons P (f x) (map f xs) (All-head (λ z. P (f z)) x xs a) (all_mapped P f xs (All-tail (λ z. P (f z)) x xs a))

progression_has : (m n k : ℕ) (x : ℤ) → k < n → Contains (progression x m n) (x +ℤ pos (k * m))
unfolding progression
progression_has m zero k x l = absurd (omega (arith, l))
progression_has m (suc n) zero x l = contains-here x (x +ℤ pos (0 * m)) (progression (x +ℤ pos m) m n) (omega (arith, ints))
progression_has m (suc n) (suc k) x l =
    let e : (x +ℤ pos m) +ℤ pos (k * m) ≡ x +ℤ pos (suc k * m) = omega (arith, ints) in
    contains-later x (x +ℤ pos (suc k * m)) (progression (x +ℤ pos m) m n) (subst (λ z. Contains (progression (x +ℤ pos m) m n) z) e (progression_has m n k (x +ℤ pos m) (omega (arith, l))))

progression_all : (P : ℤ → Type 0) (m n : ℕ) (x : ℤ) → ((k : ℕ) → k < n → P (x +ℤ pos (k * m))) → All P (progression x m n)
unfolding progression
progression_all P m zero x h = All-nil P
progression_all P m (suc n) x h =
    let e : x +ℤ pos (0 * m) ≡ x = omega (arith, ints) in
    All-cons P x (progression (x +ℤ pos m) m n) (subst P e (h 0 (omega arith)))
    (progression_all P m n (x +ℤ pos m) (λ (k : ℕ) (l : k < n). let z : x +ℤ pos (suc k * m) ≡ (x +ℤ pos m) +ℤ pos (k * m) = omega (arith, ints) in subst P z (h (suc k) (omega (arith, l)))))

-- each member is listed, and what is listed lies between the ends
pub member_listed : (at : Ival) (z : ℤ) → HasEnds at → Has at z → Contains (members_of at) z
member_listed Empty z h m = absurd m
member_listed (Set xs) z h m = m
member_listed (Range lo hi r n) z h m =
    let a = above-least (Range lo hi r n) z h m in let s = h.step in
    let k = unsigned_abs n in
    let some : 0 < k = omega (arith, ints, s) in
    let d = distance-is z lo m.0 in
    let g = distance-is hi lo (omega (arith, ints, m.0, m.1)) in
    let t = a.1.equal in
    let less : distance z lo ≤ distance hi lo = omega (arith, ints, d, g, m.1) in
    let few : a.1.times ≤ distance hi lo / k = (le-div_iff_mul-le some).1 (omega (arith, t, less)) in
    subst (λ y. Contains (progression lo k (distance hi lo / k + 1)) y) (sym (a.0 ∙ ap (λ (w : ℕ). lo +ℤ pos w) t))
    (progression_has k (distance hi lo / k + 1) a.1.times lo (omega (arith, few)))
member_listed Every z h m = absurd h

pub listed_between : (at : Ival) → HasEnds at → All (λ z. (least at ≤ℤ z) × (z ≤ℤ greatest at)) (members_of at)
listed_between Empty h = absurd h
listed_between (Set xs) h = λ k d l. member-between (Set xs) (get_or xs k d) h (Contains-get_or xs k d l)
listed_between (Range lo hi r n) h =
    let s = h.step in let b = h.many in
    let k = unsigned_abs n in
    let some : 0 < k = omega (arith, ints, s) in
    let g = distance-is hi lo (omega (arith, ints, s, b)) in
    progression_all (λ z. (lo ≤ℤ z) × (z ≤ℤ hi)) k (distance hi lo / k + 1) lo
    (λ (j : ℕ) (l : j < distance hi lo / k + 1).
    (let m : j * k ≤ distance hi lo = (le-div_iff_mul-le some).0 (omega (arith, l)) in
    (omega (arith, ints), omega (arith, ints, g, m))))
listed_between Every h = absurd h

-- ---- offsets of an access

pub offset_listed : (at : Ival) (x : ℕ) → HasEnds at → Has at (pos x) → Contains (offsets_of at) x
offset_listed at x h m = contains_mapped unsigned_abs (members_of at) (pos x) (member_listed at (pos x) h m)

fits_at : (z low high : ℤ) (n size : ℕ) → pos 0 ≤ℤ low → (high +ℤ pos n) ≤ℤ pos size → (low ≤ℤ z) × (z ≤ℤ high) → unsigned_abs z + n ≤ size
fits_at z low high n size a b c = omega (arith, ints, a, b, c.0, c.1)

pub offsets_fit : (at : Ival) (n size : ℕ) → IsAccess at n size → All (λ x. x + n ≤ size) (offsets_of at)
offsets_fit at n size h =
    all_mapped (λ x. x + n ≤ size) unsigned_abs (members_of at)
    (λ k d l. fits_at (get_or (members_of at) k d) (least at) (greatest at) n size h.low h.high (listed_between at h.ends k d l))

-- ---- an access to all bits from the first offset to the last

-- how far an offset is from the first one
pub record IsReached (at : Ival) (n size x : ℕ) : Type 0 where
  pub far : ℕ
  pub is : x ≡ first_bit at + far
  pub steps : Divides (step at) far
  pub room : far + n ≤ reach at n
  pub inside : first_bit at + reach at n ≤ size

pub reached : (at : Ival) (n size x : ℕ) → IsAccess at n size → Has at (pos x) → IsReached at n size x
reached at n size x h m =
    let b = member-between at (pos x) h.ends m in
    let a = above-least at (pos x) h.ends m in
    let l = h.low in let g = h.high in
    record {
      far = distance (pos x) (least at);
      is = let e = a.0 in omega (arith, ints, e, l);
      steps = a.1;
      room = let e = a.0 in omega (arith, ints, e, l, b.1);
      inside = omega (arith, ints, l, g, b.0, b.1);
    }
