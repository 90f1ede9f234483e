-- Sums and differences of pointers, and casts, keep the members of their operands.
use Rattle.std.proofs.Common.{◌≡◌, ℕ, suc, ◌+◌, ◌*◌, ◌≤◌, ◌<◌, ◌^◌, List, [], ◌∷◌, ℤ, pos, negsuc, neg_ℤ, ◌+ℤ◌, ◌-ℤ◌, ◌*ℤ◌, ◌≤ℤ◌, ◌<ℤ◌, Option, Some, None, Result, Ok, Err, refl, ap, sym, subst, ◌∙◌, arith, true, false}
use Rattle.std.specs.Prelude.{cond, not, ◌||◌, ◌&&◌, nat_le, int_le, int_div, unsigned_abs}
use Rattle.std.specs.Ordering.{int_eq}
use Rattle.std.specs.List.{All}
use Rattle.std.proofs.lemmas.Int.{ints, by_lt_z}
use Rattle.std.proofs.lemmas.Nat.{mul-le}
use Rattle.std.proofs.lemmas.Bool.Decides.{Decides-and, Decides-int_eq}
use Rattle.std.proofs.lemmas.List.Elements.{All-nil, All-cons, All-head, All-tail}
use Rattle.std.proofs.Math.Nat.{le_refl}
use Rattle.c_types.specs.declared.types.IntKind.TheVariants as kind
use Rattle.c_types.specs.Integers.{wrapped}
use Rattle.c_memory.specs.declared.memory.Object.{Object}
use Rattle.c_meaning.specs.declared.value.Value.{Value as Concrete}
use Rattle.c_meaning.specs.declared.value.Value.TheVariants.{Number, Pointer}
use Rattle.c_memory.specs.Memory.{object}
use Rattle.c_meaning.specs.Memory.{in_or_past, pointer_to}
use Rattle.c_meaning.specs.Value.{offsets_in_one, elements_between, moved_by as moved_concretely, number_result}
use Rattle.program.specs.declared.sites.Kind.{Kind}
use Rattle.program.specs.declared.sites.Kind.TheVariants as undefined
use Rattle.ival.specs.declared.forms.Ival.{Ival}
use Rattle.ival.specs.declared.forms.Ival.TheVariants.{Empty}
use Rattle.ival.specs.Forms.{IsBounded, IsWellFormed, IsOperand, Has, has, is_empty}
use Rattle.ival.specs.Arithmetic.{sub_of, mul_of}
use Rattle.ival.proofs.SumMembers.{sub-keeps}
use Rattle.ival.proofs.ProductMembers.{mul-keeps}
use Rattle.ival.proofs.QuotientMembers.{div-keeps}
use Rattle.ival.proofs.HullMembers.{contains-here}
use Rattle.ival.proofs.ComparisonMembers.{formed}
use Rattle.ival.proofs.CommonNumbers.{Decides-int_le}
use Rattle.avalue.specs.Pointers.{Pointer as Offsets, offsets_at}
use Rattle.avalue.specs.declared.value.Value.{Value}
use Rattle.abstract_memory.specs.Values.{one_number, has_no_pointers}
use Rattle.abstract_operators.specs.Left.{raising, alarm_if, nothing}
use Rattle.abstract_operators.specs.Numbers.{met, represented}
use Rattle.abstract_operators.specs.Pointers.{between, of_common, difference_in, added_in, near, is_far, index_limit, pointers_in, moved_by}
use Rattle.abstract_operators.specs.Members.{IsMember}
use Rattle.abstract_operators.specs.Kept.{Covers, IsOneOf}
pub use Rattle.abstract_operators.specs.Conditions.{CanSubtract, CanMove}
use Rattle.abstract_operators.proofs.Results.{div-well_formed}
use Rattle.abstract_operators.proofs.Covering.{covers-raising, covers-alarm, alarm-there}
use Rattle.abstract_operators.proofs.Conversions.{by-bool, met-keeps, strays-outside, wrapped-in_range, represented-keeps}
use Rattle.abstract_operators.proofs.NumberOperators.{quotient-defined}
use Rattle.abstract_operators.proofs.PointerLists.{IsOperandPointer, moved-has, some-pointers, not-empty}
use Rattle.abstract_operators.proofs.PointerOperators.{HasNull, null-there, AreSizes, pointers-kept, by-left, Decides-leb}
use Rattle.abstract_operators.proofs.PointerComparisons.{comes, common-formed, one-object}

-- ---- differences

not-zero : (n : ℕ) → 0 < n → int_eq (pos n) (pos 0) ≡ false
not-zero n h = by-bool (λ e. int_eq (pos n) (pos 0) ≡ e → int_eq (pos n) (pos 0) ≡ false) (int_eq (pos n) (pos 0)) (λ t. λ e. absurd (omega (arith, ints, (Decides-int_eq (pos n) (pos 0)).0 e, h))) (λ t. λ e. e) refl

between-keeps : (size : ℕ) (x y : Ival) (o q : ℤ) → 0 < size → IsOperand x → IsOperand y → IsOperand (sub_of x y) → IsOperand (one_number (pos size)) → Has x o → Has y q → Has (between size x y) (int_div (o -ℤ q) (pos size))
between-keeps size x y o q some h g f e p r =
    div-keeps (sub_of x y) (one_number (pos size)) f e (o -ℤ q) (pos size) (int_div (o -ℤ q) (pos size)) (sub-keeps x y h g o q (o -ℤ q) p r refl) (contains-here (pos size) (pos size) [] refl) (quotient-defined (o -ℤ q) (pos size) (not-zero size some))

all-between : (size : ℕ) (a b : Value) → CanSubtract size a b → (ps : List Offsets) → All IsOperandPointer ps → All (λ p. IsWellFormed (between size p.1 (offsets_at b.ptrs p.0))) ps
all-between size a b h [] all = All-nil (λ p. IsWellFormed (between size p.1 (offsets_at b.ptrs p.0)))
all-between size a b h (p ∷ ps) all =
    All-cons (λ p. IsWellFormed (between size p.1 (offsets_at b.ptrs p.0))) p ps
    (div-well_formed (sub_of p.1 (offsets_at b.ptrs p.0)) (one_number (pos size)) (h.differences p.0 p.1 (All-head IsOperandPointer p ps all)) h.element) (all-between size a b h ps (All-tail IsOperandPointer p ps all))

abbrev difference_number : ℕ → Option (ℤ × ℤ) → Result ℤ Kind
difference_number size None = Err undefined.DifferingBlocks
difference_number size (Some offsets) = Ok (wrapped kind.Long (int_div (offsets.0 -ℤ offsets.1) (pos size)))

pub difference-kept : (size : ℕ) (m : List Object) (sizes : ℕ → ℕ) (a b : Value) (x y : Concrete) → HasNull a → HasNull b → CanSubtract size a b → IsMember m sizes x a → IsMember m sizes y b
    → Covers IsOneOf (difference_number size (offsets_in_one x y)) (difference_in size a b)
difference-kept size m sizes a b x y h k g p q =
    let found = of_common (between size) a.ptrs b.ptrs in
    let each = all-between size a b g a.ptrs g.offsets in
    one-object m sizes a b x y undefined.DifferingBlocks (λ o u. wrapped kind.Long (int_div (o -ℤ u) (pos size))) (difference_number size) (represented kind.Long found) h k p q refl (λ o u. refl)
    (λ c o u s t.
    let d = int_div (o -ℤ u) (pos size) in
    let r = g.longs c o u s t in
    let there : Has found d = comes (between size) b.ptrs a.ptrs Empty c o d each tt g.offsets s (λ v f w. between-keeps size v (offsets_at b.ptrs c) o u g.some f (g.others c) (g.differences c v f) g.element w t) in
    subst (Has (represented kind.Long found)) (sym (wrapped-in_range kind.Long d r)) (represented-keeps kind.Long found d (common-formed (between size) b.ptrs a.ptrs Empty each tt) there r))

difference-same : (size : ℕ) (r : Option (ℤ × ℤ)) → number_result (difference_number size r) ≡ elements_between size r
difference-same size None = refl
difference-same size (Some o) = refl

-- ---- sums

-- further from 0 than any object reaches
far-up : (i : ℤ) (size : ℕ) → 0 < size → pos (2 ^ 21) <ℤ i → pos (2 ^ 21) <ℤ (i *ℤ pos size)
far-up (pos n) size h k = let m = mul-le n 1 n size (le_refl n) h in omega (arith, ints, k, m)
far-up (negsuc n) size h k = absurd (omega (arith, ints, k))

far-down : (i : ℤ) (size : ℕ) → 0 < size → i <ℤ neg_ℤ (pos (2 ^ 21)) → (i *ℤ pos size) <ℤ neg_ℤ (pos (2 ^ 21))
far-down (pos n) size h k = absurd (omega (arith, ints, k))
far-down (negsuc n) size h k = let m = mul-le (suc n) 1 (suc n) size (le_refl (suc n)) h in omega (arith, ints, k, m)

past-end : (cells : ℕ) (z : ℤ) → cells ≤ 2 ^ 24 → (pos 0 ≤ℤ z → z ≤ℤ pos (2 ^ 21) → ⊥) → (int_le (pos 0) z && nat_le (8 * unsigned_abs z) cells) ≡ false
past-end cells (pos n) h out =
    by-bool (λ e. (int_le (pos 0) (pos n) && nat_le (8 * n) cells) ≡ e → (int_le (pos 0) (pos n) && nat_le (8 * n) cells) ≡ false) (int_le (pos 0) (pos n) && nat_le (8 * n) cells)
    (λ t. λ e. let d = (Decides-and (int_le (pos 0) (pos n)) (nat_le (8 * n) cells) (Decides-int_le (pos 0) (pos n)) (Decides-leb (8 * n) cells)).0 e in absurd (out (omega (arith, ints)) (omega (arith, ints, d.1, h))))
    (λ t. λ e. e) refl
past-end cells (negsuc n) h out =
    by-bool (λ e. (int_le (pos 0) (negsuc n) && nat_le (8 * unsigned_abs (negsuc n)) cells) ≡ e → (int_le (pos 0) (negsuc n) && nat_le (8 * unsigned_abs (negsuc n)) cells) ≡ false) (int_le (pos 0) (negsuc n) && nat_le (8 * unsigned_abs (negsuc n)) cells)
    (λ t. λ e. let d = (Decides-and (int_le (pos 0) (negsuc n)) (nat_le (8 * unsigned_abs (negsuc n)) cells) (Decides-int_le (pos 0) (negsuc n)) (Decides-leb (8 * unsigned_abs (negsuc n)) cells)).0 e in absurd (omega (arith, ints, d.0)))
    (λ t. λ e. e) refl

pub added-kept : (m : List Object) (sizes : ℕ → ℕ) (size : ℕ) (x : Concrete) (i : ℤ) (v : Value) (indexes : Ival) → AreSizes sizes → HasNull v → CanMove sizes size v indexes → IsMember m sizes x v → Has indexes i
    → Covers (IsMember m sizes) (moved_concretely m x (i *ℤ pos size)) (added_in sizes size v indexes)
added-kept m sizes size (Number x) i v indexes s h g p q =
    let test = has v.ints (pos 0) || not (has_no_pointers v.ptrs) && is_far indexes in
    let there : test ≡ true = ap (λ c. c || not (has_no_pointers v.ptrs) && is_far indexes) (null-there v x h p) in
    covers-alarm (IsMember m sizes) (alarm_if test undefined.PointerArithmetic) undefined.PointerArithmetic (cond (is_empty (near indexes)) nothing (pointers_in sizes (moved_by (mul_of (near indexes) (one_number (pos size))) v.ptrs))) (alarm-there test undefined.PointerArithmetic there)
added-kept m sizes size (Pointer b o) i v indexes s h g p q =
    let low = neg_ℤ index_limit in
    let step = mul_of (near indexes) (one_number (pos size)) in
    let goes = moved_by step v.ptrs in
    let bounded : IsBounded index_limit = record { above = omega (arith, ints); below = omega (arith, ints) } in
    let bounded-low : IsBounded low = record { above = omega (arith, ints); below = omega (arith, ints) } in
    let test = has v.ints (pos 0) || not (has_no_pointers v.ptrs) && is_far indexes in
    let alarms = alarm_if test undefined.PointerArithmetic in
    let what = cond (is_empty (near indexes)) nothing (pointers_in sizes goes) in
    let z = o +ℤ (i *ℤ pos size) in
    let in' = int_le low i && int_le i index_limit in
    by-bool (λ c. in' ≡ c → Covers (IsMember m sizes) (pointer_to m b z) (raising alarms what)) in'
    (λ t. λ (e : in' ≡ true).
    let d = (Decides-and (int_le low i) (int_le i index_limit) (Decides-int_le low i) (Decides-int_le i index_limit)).0 e in
    let there = met-keeps indexes low index_limit i (formed indexes g.numbers) bounded-low bounded q d in
    let product : Has step (i *ℤ pos size) = mul-keeps (near indexes) (one_number (pos size)) g.near_numbers g.element i (pos size) (i *ℤ pos size) there (contains-here (pos size) (pos size) [] refl) refl in
    let here = moved-has step v.ptrs b o (i *ℤ pos size) g.offsets g.distances p.0 product in
    covers-raising (IsMember m sizes) alarms (pointer_to m b z) what
    (by-left (λ l. Covers (IsMember m sizes) (pointer_to m b z) l) (is_empty (near indexes)) nothing (pointers_in sizes goes) (not-empty (near indexes) i there) (pointers-kept m sizes goes b z s g.moved p.1 here)))
    (λ t. λ (e : in' ≡ false).
    let far : is_far indexes ≡ true = strays-outside indexes low index_limit i (formed indexes g.numbers) bounded-low bounded q
    (λ from. let yes = (Decides-and (int_le low i) (int_le i index_limit) (Decides-int_le low i) (Decides-int_le i index_limit)).1 from in cc) in
    let inside = g.inside b o p.0 in
    let out : (int_le (pos 0) z && nat_le (8 * unsigned_abs z) (sizes b)) ≡ false = past-end (sizes b) z (g.few b)
    (λ above below. let yes = (Decides-and (int_le low i) (int_le i index_limit) (Decides-int_le low i) (Decides-int_le i index_limit)).1 (
      by_lt_z i low (λ lt. absurd (omega (arith, ints, far-down i size g.some lt, above, inside.1))) (λ ge. ge),
      by_lt_z index_limit i (λ lt. absurd (omega (arith, ints, far-up i size g.some lt, below, inside.0))) (λ ge. ge),
    ) in cc) in
    let is : pointer_to m b z ≡ Err undefined.PointerArithmetic =
    ap (λ c. cond (in_or_past c z) (Ok (Pointer b z)) (Err undefined.PointerArithmetic)) p.1.is_there ∙ ap (λ (n : ℕ). cond (int_le (pos 0) z && nat_le (8 * unsigned_abs z) n) (Ok (Pointer b z)) (Err undefined.PointerArithmetic)) p.1.size
    ∙ ap (λ c. cond c (Ok (Pointer b z)) (Err undefined.PointerArithmetic)) out in
    let some : not (has_no_pointers v.ptrs) ≡ true = ap not (some-pointers v.ptrs b o p.0) in
    let there : test ≡ true = by-bool (λ c. (c || not (has_no_pointers v.ptrs) && is_far indexes) ≡ true) (has v.ints (pos 0)) (λ u. refl) (λ u. rw (some, far) refl) in
    subst (λ r. Covers (IsMember m sizes) r (raising alarms what)) (sym is) (covers-alarm (IsMember m sizes) alarms undefined.PointerArithmetic what (alarm-there test undefined.PointerArithmetic there)))
    refl
