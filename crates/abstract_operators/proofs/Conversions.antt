-- Conversions and the results in a kind keep members.
use Rattle.std.proofs.Common.{◌≡◌, ◌+◌, ◌-◌, ◌^◌, [], ◌∷◌, ℤ, pos, ◌+ℤ◌, ◌-ℤ◌, Some, Result, Ok, Err, refl, ap, sym, subst, arith, true, false}
use Rattle.std.specs.Prelude.{Bool, cond, not, ◌&&◌}
use Rattle.std.specs.Int.{int_rem_euclid}
use Rattle.std.specs.Ordering.{int_eq}
use Rattle.std.proofs.lemmas.Int.{ints}
use Rattle.std.proofs.lemmas.Bool.Decides.{Decides-int_eq}
use Rattle.c_types.specs.declared.types.IntKind.{IntKind}
use Rattle.c_types.specs.declared.types.IntKind.TheVariants as kind
use Rattle.c_types.specs.Integers.{width, is_signed, least, greatest, wrapped, InRange}
use Rattle.program.specs.declared.sites.Kind.{Kind}
use Rattle.program.specs.declared.sites.Kind.TheVariants.{SignedOverflow}
use Rattle.c_arithmetic.specs.Arithmetic.{in_range, settled}
use Rattle.ival.specs.declared.forms.Cmp.TheVariants.{Ne}
use Rattle.ival.specs.declared.forms.Ival.{Ival}
use Rattle.ival.specs.declared.forms.Ival.TheVariants.{Set}
use Rattle.ival.specs.Forms.{IsBounded, IsWellFormed, Has, is_empty}
use Rattle.ival.specs.SetOperations.{included_of}
use Rattle.ival.specs.Meet.{meet_of}
use Rattle.ival.specs.Casts.{type_least, type_greatest, cast_of}
use Rattle.ival.specs.Comparisons.{answer_of, answers}
use Rattle.ival.specs.Laws.{IsConverted}
use Rattle.ival.proofs.Membership.{by-test, included-sound}
use Rattle.ival.proofs.HullMembers.{contains-here}
use Rattle.ival.proofs.MeetMembers.{meet-keeps}
use Rattle.ival.proofs.BitMembers.{all-between}
use Rattle.ival.proofs.CastMembers.{cast-keeps, wrapped-converted, converted-unique}
use Rattle.ival.proofs.PointwiseMembers.{wide-keeps}
use Rattle.ival.proofs.ComparisonMembers.{decided-has}
use Rattle.ival.proofs.FormLemmas.{int_eq-no}
use Rattle.ival.proofs.WidenMembers.{none-empty}
use Rattle.abstract_operators.specs.Left.{Left, raising, alarm_if}
use Rattle.abstract_operators.specs.Numbers.{numbers, met, strays, left_numbers, AreOf, truths, converted, represented, overflows, settled_in}
use Rattle.abstract_operators.specs.Kept.{Covers, IsOneOf}
use Rattle.abstract_operators.proofs.Results.{one-operand, truth-answers}
use Rattle.abstract_operators.proofs.Limits.{IsFrom, numbers-well_formed, numbers-within, member-within, met-within, met-well_formed, cast-within, cast-well_formed, within-wider}
use Rattle.abstract_operators.proofs.Covering.{covers-raising, covers-alarm, alarm-there, left-numbers}
use Rattle.abstract_operators.proofs.KindRanges.{IsCast, in-range, represented-in_range, kind-width, least-bounded, greatest-bounded, wrapped-same}

pub by-bool : (P : Bool → Type 0) (b : Bool) → (b ≡ true → P true) → (b ≡ false → P false) → P b
by-bool P true h k = h refl
by-bool P false h k = k refl

-- ---- meets with the numbers between two ends

pub met-keeps : (a : Ival) (low high z : ℤ) → IsWellFormed a → IsBounded low → IsBounded high → Has a z → IsFrom low high z → Has (met a low high) z
unfolding met numbers
met-keeps a low high z f h k p b = meet-keeps a (numbers low high) f (numbers-well_formed low high h k) z p (all-between low high z b.0 b.1)

pub strays-outside : (a : Ival) (low high z : ℤ) → IsWellFormed a → IsBounded low → IsBounded high → Has a z → (IsFrom low high z → ⊥) → strays a low high ≡ true
unfolding strays
strays-outside a low high z f h k p n =
    by-bool (λ b. not b ≡ true) (included_of a (numbers low high))
    (λ t. absurd (n (member-within low high (numbers low high) z (numbers-within low high) (included-sound a (numbers low high) f (numbers-well_formed low high h k) t z p))))
    (λ t. refl)

-- ---- conversions

zero-formed : IsWellFormed (Set (pos 0 ∷ []))
zero-formed = (one-operand (pos 0) record { above = omega (arith, ints); below = omega (arith, ints) }).0

truth-given : (b : Bool) → cond (not b) (Some (pos 1)) (Some (pos 0)) ≡ Some (cond b (pos 0) (pos 1))
truth-given true = refl
truth-given false = refl

truths-keep : (a : Ival) (x : ℤ) → IsWellFormed a → Has a x → Has (truths a) (wrapped kind.Bool x)
unfolding truths
truths-keep a x f p =
    let zero = Set (pos 0 ∷ []) in
    let none = is_empty (meet_of a zero) in
    let e = truth-given (int_eq x (pos 0)) in
    let q : Has zero (pos 0) = contains-here (pos 0) (pos 0) [] refl in
    wide-keeps (answer_of Ne) a zero (answers Ne a zero) x (pos 0) (wrapped kind.Bool x) e p q
    (λ wide. decided-has none false (not (int_eq x (pos 0))) (wrapped kind.Bool x) e
    (λ t. ap not (int_eq-no x (pos 0) (λ same. none-empty (meet_of a zero) x t (meet-keeps a zero f zero-formed x p (subst (Has zero) (sym same) q)))))
    (λ t. absurd (cc)))

cast-converted : (k : IntKind) (x : ℤ) → IsCast k → IsConverted (width k) (is_signed k) x (least k +ℤ int_rem_euclid (x -ℤ least k) (pos (2 ^ width k)))
cast-converted k x c = subst (IsConverted (width k) (is_signed k) x) (wrapped-same k x c) (wrapped-converted (width k) (is_signed k) x (kind-width k).some)

cast-kept : (k : IntKind) (a : Ival) (x : ℤ) → IsCast k → IsWellFormed a → Has a x → Has (cast_of a (width k) (is_signed k)) (least k +ℤ int_rem_euclid (x -ℤ least k) (pos (2 ^ width k)))
cast-kept k a x c f p =
    cast-keeps a (width k) (is_signed k) f (kind-width k).some x (least k +ℤ int_rem_euclid (x -ℤ least k) (pos (2 ^ width k))) p (cast-converted k x c)

pub converted-keeps : (k : IntKind) (a : Ival) (x : ℤ) → IsWellFormed a → Has a x → Has (converted k a) (wrapped k x)
unfolding converted
converted-keeps kind.Bool a x f p = truths-keep a x f p
converted-keeps kind.Char a x f p = cast-kept kind.Char a x record { low = refl; high = refl } f p
converted-keeps kind.SChar a x f p = cast-kept kind.SChar a x record { low = refl; high = refl } f p
converted-keeps kind.UChar a x f p = cast-kept kind.UChar a x record { low = refl; high = refl } f p
converted-keeps kind.Short a x f p = cast-kept kind.Short a x record { low = refl; high = refl } f p
converted-keeps kind.UShort a x f p = cast-kept kind.UShort a x record { low = refl; high = refl } f p
converted-keeps kind.Int a x f p = cast-kept kind.Int a x record { low = refl; high = refl } f p
converted-keeps kind.UInt a x f p = cast-kept kind.UInt a x record { low = refl; high = refl } f p
converted-keeps kind.Long a x f p = cast-kept kind.Long a x record { low = refl; high = refl } f p
converted-keeps kind.ULong a x f p = cast-kept kind.ULong a x record { low = refl; high = refl } f p
converted-keeps kind.LongLong a x f p = cast-kept kind.LongLong a x record { low = refl; high = refl } f p
converted-keeps kind.ULongLong a x f p = cast-kept kind.ULongLong a x record { low = refl; high = refl } f p

cast-of_kind : (k : IntKind) (a : Ival) → IsCast k → IsWellFormed a → AreOf k (cast_of a (width k) (is_signed k))
cast-of_kind k a c f = record {
  formed = cast-well_formed a (width k) (is_signed k) f (kind-width k);
  within = within-wider (type_least (width k) (is_signed k)) (type_greatest (width k) (is_signed k)) (least k) (greatest k) (cast_of a (width k) (is_signed k)) (omega (arith, ints, c.low)) (omega (arith, ints, c.high))
      (cast-within a (width k) (is_signed k) f (kind-width k).some);
}

truths-of : (a : Ival) → AreOf kind.Bool (truths a)
unfolding truths
truths-of a = let t = truth-answers Ne a (Set (pos 0 ∷ [])) in record { formed = t.formed; within = t.within }

pub converted-of : (k : IntKind) (a : Ival) → IsWellFormed a → AreOf k (converted k a)
unfolding converted
converted-of kind.Bool a f = truths-of a
converted-of kind.Char a f = cast-of_kind kind.Char a record { low = refl; high = refl } f
converted-of kind.SChar a f = cast-of_kind kind.SChar a record { low = refl; high = refl } f
converted-of kind.UChar a f = cast-of_kind kind.UChar a record { low = refl; high = refl } f
converted-of kind.Short a f = cast-of_kind kind.Short a record { low = refl; high = refl } f
converted-of kind.UShort a f = cast-of_kind kind.UShort a record { low = refl; high = refl } f
converted-of kind.Int a f = cast-of_kind kind.Int a record { low = refl; high = refl } f
converted-of kind.UInt a f = cast-of_kind kind.UInt a record { low = refl; high = refl } f
converted-of kind.Long a f = cast-of_kind kind.Long a record { low = refl; high = refl } f
converted-of kind.ULong a f = cast-of_kind kind.ULong a record { low = refl; high = refl } f
converted-of kind.LongLong a f = cast-of_kind kind.LongLong a record { low = refl; high = refl } f
converted-of kind.ULongLong a f = cast-of_kind kind.ULongLong a record { low = refl; high = refl } f

-- a number of a kind is its own conversion
cast-same : (k : IntKind) (x : ℤ) → IsCast k → InRange k x → least k +ℤ int_rem_euclid (x -ℤ least k) (pos (2 ^ width k)) ≡ x
cast-same k x c h =
    converted-unique (width k) (is_signed k) x (least k +ℤ int_rem_euclid (x -ℤ least k) (pos (2 ^ width k))) x (kind-width k).some (cast-converted k x c)
    record { above = omega (arith, ints, c.low, h.above); below = omega (arith, ints, c.high, h.below); class = refl }

bool-same : (x : ℤ) (b : Bool) → int_eq x (pos 0) ≡ b → InRange kind.Bool x → cond b (pos 0) (pos 1) ≡ x
bool-same x true e h = sym ((Decides-int_eq x (pos 0)).0 e)
bool-same x false e h =
    let apart : x ≡ pos 0 → ⊥ = λ same. let yes = (Decides-int_eq x (pos 0)).1 same in cc in
    grind (arith, ints)

pub wrapped-in_range : (k : IntKind) (x : ℤ) → InRange k x → wrapped k x ≡ x
wrapped-in_range kind.Bool x h = bool-same x (int_eq x (pos 0)) refl h
wrapped-in_range kind.Char x h = cast-same kind.Char x record { low = refl; high = refl } h
wrapped-in_range kind.SChar x h = cast-same kind.SChar x record { low = refl; high = refl } h
wrapped-in_range kind.UChar x h = cast-same kind.UChar x record { low = refl; high = refl } h
wrapped-in_range kind.Short x h = cast-same kind.Short x record { low = refl; high = refl } h
wrapped-in_range kind.UShort x h = cast-same kind.UShort x record { low = refl; high = refl } h
wrapped-in_range kind.Int x h = cast-same kind.Int x record { low = refl; high = refl } h
wrapped-in_range kind.UInt x h = cast-same kind.UInt x record { low = refl; high = refl } h
wrapped-in_range kind.Long x h = cast-same kind.Long x record { low = refl; high = refl } h
wrapped-in_range kind.ULong x h = cast-same kind.ULong x record { low = refl; high = refl } h
wrapped-in_range kind.LongLong x h = cast-same kind.LongLong x record { low = refl; high = refl } h
wrapped-in_range kind.ULongLong x h = cast-same kind.ULongLong x record { low = refl; high = refl } h

-- ---- results in a kind

pub represented-keeps : (k : IntKind) (a : Ival) (z : ℤ) → IsWellFormed a → Has a z → InRange k z → Has (represented k a) z
unfolding represented
represented-keeps k a z f p h =
    by-test (λ s. Has s z) (is_signed k) (met a (least k) (greatest k)) (converted k a)
    (λ t. met-keeps a (least k) (greatest k) z f (least-bounded k) (greatest-bounded k) p (h.above, h.below))
    (λ t. subst (Has (converted k a)) (wrapped-in_range k z h) (converted-keeps k a z f p))

pub represented-of : (k : IntKind) (a : Ival) → IsWellFormed a → AreOf k (represented k a)
unfolding represented
represented-of k a f =
    by-test (AreOf k) (is_signed k) (met a (least k) (greatest k)) (converted k a)
    (λ t. record { formed = met-well_formed a (least k) (greatest k) f (least-bounded k) (greatest-bounded k); within = met-within a (least k) (greatest k) (least-bounded k) (greatest-bounded k) })
    (λ t. converted-of k a f)

pub settled-keeps : (k : IntKind) (a : Ival) (z : ℤ) → IsWellFormed a → Has a z → Covers IsOneOf (settled k z) (settled_in k a)
unfolding settled represented overflows
settled-keeps k a z f p =
    let low = least k in
    let high = greatest k in
    let outcome : Bool → Result ℤ Kind = λ s. cond s (cond (in_range k z) (Ok z) (Err SignedOverflow)) (Ok (wrapped k z)) in
    let what : Bool → Left Ival Kind = λ s. raising (alarm_if (s && strays a low high) SignedOverflow) (left_numbers (cond s (met a low high) (converted k a))) in
    by-bool (λ s. Covers IsOneOf (outcome s) (what s)) (is_signed k)
    (λ t. by-bool (λ r. Covers IsOneOf (cond r (Ok z) (Err SignedOverflow)) (what true)) (in_range k z)
    (λ r. let h = in-range k z r in
    covers-raising IsOneOf (alarm_if (strays a low high) SignedOverflow) (Ok z) (left_numbers (met a low high))
    (left-numbers (met a low high) z (met-keeps a low high z f (least-bounded k) (greatest-bounded k) p (h.above, h.below))))
    (λ r. covers-alarm IsOneOf (alarm_if (strays a low high) SignedOverflow) SignedOverflow (left_numbers (met a low high))
    (alarm-there (strays a low high) SignedOverflow
    (strays-outside a low high z f (least-bounded k) (greatest-bounded k) p (λ b. let yes = represented-in_range k z record { above = b.0; below = b.1 } in cc)))))
    (λ t. left-numbers (converted k a) (wrapped k z) (converted-keeps k a z f p))
