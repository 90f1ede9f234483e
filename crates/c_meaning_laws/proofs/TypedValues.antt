-- Expressions give values of their types.
use Rattle.std.proofs.Common.{◌≡◌, ◌≢◌, ℕ, zero, suc, ◌+◌, ◌-◌, ◌*◌, ◌^◌, ◌<◌, ◌≤◌, nat_eq, nat_le, ℤ, pos, ◌+ℤ◌, ◌-ℤ◌, ◌*ℤ◌, ◌≤ℤ◌, List, [], ◌∷◌, length, drop, Bool, true, false, Option, Some, None, Result, Ok, Err, inl, inr, refl, sym, ap, subst, ◌∙◌, arith}
use Rattle.std.specs.Prelude.{IsTrue, ◌⊎◌, ◌&&◌, ◌||◌, not, neg_ℤ, unsigned_abs, int_div, int_le, if◌then◌else◌, slice_range}
use Rattle.std.specs.List.{list_any}
use Rattle.std.proofs.lemmas.Int.{ints}
use Rattle.std.proofs.lemmas.Nat.{pow_below, pow_pos}
use Rattle.std.proofs.lemmas.List.{length-take, length-drop}
use Rattle.std.proofs.lemmas.Bool.{cases_lt}
use Rattle.std.proofs.lemmas.Bool.Decides.{nat_tests}
use Rattle.c_types.specs.declared.types.IntKind.{IntKind}
use Rattle.c_types.specs.declared.types.IntKind.TheVariants as kind
use Rattle.c_types.specs.declared.types.CType.{CType}
use Rattle.c_types.specs.declared.types.CType.TheVariants.{Void, Int, Ptr', Array', Struct, Unusable}
use Rattle.c_types.specs.declared.types.CType.TheVariants as ctype
use Rattle.c_types.specs.declared.types.Layout.{Layout}
use Rattle.c_types.specs.Integers.{width, least, greatest, wrapped, InRange}
use Rattle.c_types.proofs.IntKindLaws.{every}
use Rattle.program.specs.declared.expressions.BinOp.{BinOp}
use Rattle.program.specs.declared.expressions.BinOp.TheVariants as op
use Rattle.program.specs.declared.expressions.Expr.{Expr, end_of-Expr, more_of-Expr}
use Rattle.program.specs.declared.expressions.Expr.TheVariants.{Const, Null, Load, Addr, Start, Unary', Binary', Cast'}
use Rattle.program.specs.declared.expressions.LVal.{LVal}
use Rattle.program.specs.declared.graph.Function.{Function}
use Rattle.program.specs.declared.graph.Program.{Program}
use Rattle.program.specs.declared.sites.Kind.{Kind}
use Rattle.program.specs.declared.sites.Kind.TheVariants as undefined
use Rattle.program.specs.Numbers.{count_expr}
use Rattle.program.specs.Typing.{int_type, is_integer, is_pointer, is_scalar, converts, InOneKind, InOwnKinds, InPointers, Computes, HasType, Designates}
use Rattle.c_memory.specs.declared.cells.Cell.{Cell}
use Rattle.c_memory.specs.declared.cells.Cell.TheVariants.{Uninit, Dangling, Bit, Ptr}
use Rattle.c_memory.specs.declared.memory.Object.{Object}
use Rattle.c_memory.specs.Memory.{object}
use Rattle.c_arithmetic.specs.Arithmetic.{and_then, truth, arithmetic, negated}
use Rattle.c_meaning.specs.declared.value.Value.{Value}
use Rattle.c_meaning.specs.declared.value.Value.TheVariants.{Number, Pointer}
use Rattle.c_meaning.specs.declared.value.Undefined.{Undefined}
use Rattle.c_meaning.specs.Cells.{is_uninit, is_dangling, is_pointer_bit, is_set, spelled, interpreted, number_of, are_bits_from, pointer_of, defined_as, held}
use Rattle.c_meaning.specs.Memory.{accessed, bits_within, is_within, in_or_past, pointer_to}
use Rattle.c_meaning.specs.PlaceTypes.{result_kind, kind_of, is_address, scalar_bits, stride}
use Rattle.c_meaning.specs.Value.{at, number_in, moved_by, added, offsets_in_one, elements_between, order_holds, ordered, equal, on_pointers, number_result, binary, converted, is_on_pointers, address, value, place}
use Rattle.c_meaning_laws.specs.Values.{IsOf, HasFittingFields}
use Rattle.c_meaning_laws.proofs.Outcomes.{then_ok, at_ok, else_ok, then_true, ok_in}
use Rattle.c_meaning_laws.proofs.Ranges.{wrapped_in, truth_in, arithmetic_in, negated_in}
use Rattle.c_meaning_laws.proofs.Types.{pointer_is, kind_is, address_is, read_fits}
use denote.Hole.Carrier.{hidden}
use Rattle.c_types.specs.declared.types.CType.TheBlock.{hidden-the_row-CType-0}

-- ---- numbers that bits spell

spelled_below : (cells : List Cell) → spelled cells < 2 ^ length cells
spelled_below [] = omega arith
spelled_below (c ∷ cells) =
    let more = spelled_below cells in
    elim (is_set c) as (λ b. (if b then 1 else 0) + 2 * spelled cells < 2 ^ suc (length cells)) [ true ↦ omega arith | false ↦ omega arith ]

power_le : (b n : ℕ) → b ≤ n → 2 ^ b ≤ 2 ^ n
power_le b n h = elim (cases_lt b n) [ inl l ↦ omega (arith, pow_below b n l) | inr g ↦ let e : b ≡ n = omega arith in subst (λ (k : ℕ). 2 ^ k ≤ 2 ^ n) (sym e) (omega arith) ]

unsigned_fits : (n w v : ℕ) → n ≤ w → v < 2 ^ n → v ≤ 2 ^ w - 1
unsigned_fits n w v h l = omega (arith, power_le n w h)

-- a number of n bits in two's complement, of a type of w bits
record IsSignedOf (w : ℕ) (z : ℤ) : Type 0 where
  above : neg_ℤ (pos (2 ^ (w - 1))) ≤ℤ z
  below : z ≤ℤ pos (2 ^ (w - 1) - 1)

signed_fits : (n w v : ℕ) → n ≤ w → 1 ≤ w → v < 2 ^ n → IsSignedOf w (interpreted true n v)
signed_fits zero w v h one l =
    let none : v ≡ 0 = omega arith in
    rw none (record { above = omega (arith, ints); below = omega (arith, ints, pow_pos (w - 1)) })
signed_fits (suc n) w v h one l =
    let half : suc n - 1 ≡ n = omega arith in
    let wide = power_le n (w - 1) (omega arith) in
    let double : 2 ^ suc n ≡ 2 * 2 ^ n = omega arith in
    elim (cases_lt v (2 ^ n)) [
      | inl low ↦ let is : nat_le (2 ^ (suc n - 1)) v ≡ false = rw half (grind (arith, nat_tests)) in rw is (record { above = omega (arith, ints); below = omega (arith, ints) })
      | inr high ↦ let is : nat_le (2 ^ (suc n - 1)) v ≡ true = rw half (grind (arith, nat_tests)) in rw is (record { above = omega (arith, ints); below = omega (arith, ints) })
    ]

signed_in : (n w v : ℕ) (low high : ℤ) → n ≤ w → 1 ≤ w → v < 2 ^ n → low ≡ neg_ℤ (pos (2 ^ (w - 1))) → high ≡ pos (2 ^ (w - 1) - 1) → (low ≤ℤ interpreted true n v) × (interpreted true n v ≤ℤ high)
signed_in n w v low high h one l e g = let s = signed_fits n w v h one l in (subst (λ (z : ℤ). z ≤ℤ interpreted true n v) (sym e) s.above, subst (λ (z : ℤ). interpreted true n v ≤ℤ z) (sym g) s.below)

-- a number read as a kind that is wide enough lies in its range
pub number_fits : (k : IntKind) (cells : List Cell) → length cells ≤ width k → InRange k (number_of k cells)
number_fits kind.Bool cells h = elim (nat_eq (spelled cells) 0) as (λ b. InRange kind.Bool (if b then pos 0 else pos 1)) [
  | true ↦ record { above = omega (arith, ints); below = omega (arith, ints) }
  | false ↦ record { above = omega (arith, ints); below = omega (arith, ints) }
]
number_fits kind.Char cells h = let s = signed_in (length cells) 8 (spelled cells) (least kind.Char) (greatest kind.Char) h (omega arith) (spelled_below cells) refl refl in record { above = s.0; below = s.1 }
number_fits kind.SChar cells h = let s = signed_in (length cells) 8 (spelled cells) (least kind.SChar) (greatest kind.SChar) h (omega arith) (spelled_below cells) refl refl in record { above = s.0; below = s.1 }
number_fits kind.Short cells h = let s = signed_in (length cells) 16 (spelled cells) (least kind.Short) (greatest kind.Short) h (omega arith) (spelled_below cells) refl refl in record { above = s.0; below = s.1 }
number_fits kind.Int cells h = let s = signed_in (length cells) 32 (spelled cells) (least kind.Int) (greatest kind.Int) h (omega arith) (spelled_below cells) refl refl in record { above = s.0; below = s.1 }
number_fits kind.Long cells h = let s = signed_in (length cells) 64 (spelled cells) (least kind.Long) (greatest kind.Long) h (omega arith) (spelled_below cells) refl refl in record { above = s.0; below = s.1 }
number_fits kind.LongLong cells h = let s = signed_in (length cells) 64 (spelled cells) (least kind.LongLong) (greatest kind.LongLong) h (omega arith) (spelled_below cells) refl refl in record { above = s.0; below = s.1 }
number_fits kind.UChar cells h = record { above = omega (arith, ints); below = omega (arith, ints, unsigned_fits (length cells) 8 (spelled cells) h (spelled_below cells)) }
number_fits kind.UShort cells h = record { above = omega (arith, ints); below = omega (arith, ints, unsigned_fits (length cells) 16 (spelled cells) h (spelled_below cells)) }
number_fits kind.UInt cells h = record { above = omega (arith, ints); below = omega (arith, ints, unsigned_fits (length cells) 32 (spelled cells) h (spelled_below cells)) }
number_fits kind.ULong cells h = record { above = omega (arith, ints); below = omega (arith, ints, unsigned_fits (length cells) 64 (spelled cells) h (spelled_below cells)) }
number_fits kind.ULongLong cells h = record { above = omega (arith, ints); below = omega (arith, ints, unsigned_fits (length cells) 64 (spelled cells) h (spelled_below cells)) }

-- ---- values that are made

is_value : (t : CType) (x v : Value) → IsOf t x → ok_in Kind x ≡ Ok v → IsOf t v
is_value t x v h e = let same : x ≡ v = cc in subst (IsOf t) same h

-- a number of the operand's kind
number_of_value : (k : IntKind) (volatile : Bool) (x : Value) → IsOf (Int k volatile) x → InRange k (number_in x)
number_of_value k volatile (Number v) h = h
number_of_value k volatile (Pointer base offset) h = absurd h

result_is : (k : IntKind) (r : Result ℤ Kind) (v : Value) → ((z : ℤ) → r ≡ Ok z → InRange k z) → number_result r ≡ Ok v → IsOf (int_type k) v
result_is k (Ok z) v h e = is_value (int_type k) (Number z) v (h z refl) e
result_is k (Err u) v h e = absurd (cc)

-- a pointer, or null
abbrev IsAddress : Value → Type 0
IsAddress (Number v) = v ≡ pos 0
IsAddress (Pointer base offset) = Unit {0}

pointer_typed : (to : CType) (v : Value) → IsAddress v → IsOf (ctype.Ptr to) v
unfolding hidden hidden-the_row-CType-0
pointer_typed to (Number v) h = h
pointer_typed to (Pointer base offset) h = tt

address_of_typed : (t : CType) (v : Value) → IsTrue (is_pointer t) → IsOf t v → IsAddress v
address_of_typed (Ptr' _ _) (Number v) i h = h
address_of_typed (Ptr' _ _) (Pointer base offset) i h = tt
address_of_typed (Int k volatile) v i h = absurd (cc)
address_of_typed Void v i h = absurd (cc)
address_of_typed (Array' _ _ n) v i h = absurd (cc)
address_of_typed (Struct id) v i h = absurd (cc)
address_of_typed Unusable v i h = absurd (cc)

typed_address : (t : CType) (v : Value) → IsTrue (is_pointer t) → IsAddress v → IsOf t v
typed_address (Ptr' _ _) (Number v) i h = h
typed_address (Ptr' _ _) (Pointer base offset) i h = tt
typed_address (Int k volatile) v i h = absurd (cc)
typed_address Void v i h = absurd (cc)
typed_address (Array' _ _ n) v i h = absurd (cc)
typed_address (Struct id) v i h = absurd (cc)
typed_address Unusable v i h = absurd (cc)

same_address : (x v : Value) → IsAddress x → ok_in Kind x ≡ Ok v → IsAddress v
same_address x v h e = let same : x ≡ v = cc in subst IsAddress same h

null_is : IsAddress (Number (pos 0))
null_is = refl

pointer_is_one : (base : ℕ) (offset : ℤ) → IsAddress (Pointer base offset)
pointer_is_one base offset = tt

-- ---- reads

pointer_read : (cells : List Cell) (v : Value) → pointer_of cells ≡ Ok v → IsAddress v
pointer_read [] v e = same_address (Number (pos 0)) v null_is e
pointer_read (Ptr base offset bit ∷ cells) v e =
    same_address (Pointer base offset) v (pointer_is_one base offset) (then_true (nat_eq (length cells) 63 && are_bits_from base offset 0 (Ptr base offset bit ∷ cells)) (Ok (Pointer base offset)) undefined.PointerBytes v e).1
pointer_read (Uninit ∷ cells) v e = same_address (Number (pos 0)) v null_is (else_ok (list_any is_pointer_bit (Uninit ∷ cells) || list_any is_set (Uninit ∷ cells)) undefined.PointerBytes (Ok (Number (pos 0))) v e)
pointer_read (Dangling ∷ cells) v e = same_address (Number (pos 0)) v null_is (else_ok (list_any is_pointer_bit (Dangling ∷ cells) || list_any is_set (Dangling ∷ cells)) undefined.PointerBytes (Ok (Number (pos 0))) v e)
pointer_read (Bit b ∷ cells) v e = same_address (Number (pos 0)) v null_is (else_ok (list_any is_pointer_bit (Bit b ∷ cells) || list_any is_set (Bit b ∷ cells)) undefined.PointerBytes (Ok (Number (pos 0))) v e)

defined_is : (t : CType) (cells : List Cell) (v : Value) → IsTrue (is_scalar t) → ((k : IntKind) (volatile : Bool) → t ≡ Int k volatile → length cells ≤ width k) → defined_as t cells ≡ Ok v → IsOf t v
defined_is (Int k volatile) cells v s few e =
    is_value (Int k volatile) (Number (number_of k cells)) v (number_fits k cells (few k volatile refl)) (else_ok (list_any is_pointer_bit cells) undefined.PointerBytes (Ok (Number (number_of k cells))) v e)
defined_is (Ptr' n to) cells v s few e = typed_address (Ptr' n to) v refl (pointer_read cells v e)
defined_is Void cells v s few e = absurd (cc)
defined_is (Array' _ _ n) cells v s few e = absurd (cc)
defined_is (Struct id) cells v s few e = absurd (cc)
defined_is Unusable cells v s few e = absurd (cc)

held_is : (t : CType) (cells : List Cell) (v : Value) → IsTrue (is_scalar t) → ((k : IntKind) (volatile : Bool) → t ≡ Int k volatile → length cells ≤ width k) → held t cells ≡ Ok v → IsOf t v
unfolding held
held_is t cells v s few e =
    defined_is t cells v s few
    (else_ok (list_any is_dangling cells) undefined.Dangling (defined_as t cells) v
    (else_ok (list_any is_uninit cells) undefined.Initialization (if list_any is_dangling cells then Err undefined.Dangling else defined_as t cells) v e))

both_true : (a b : Bool) → (a && b) ≡ true → (a ≡ true) × (b ≡ true)
both_true true true e = (refl, refl)
both_true true false e = absurd (cc)
both_true false b e = absurd (cc)

fits_within : (size : ℕ) (bit : ℤ) (n : ℕ) → is_within size bit n ≡ true → unsigned_abs bit + n ≤ size
fits_within size bit n e = let t = (both_true (int_le (pos 0) bit) (nat_le (unsigned_abs bit + n) size) e).1 in grind (arith, nat_tests)

within_length : (found : Option (List Cell)) (bit : ℤ) (n : ℕ) (cells : List Cell) → bits_within found bit n ≡ Ok cells → length cells ≡ n
within_length None bit n cells e = absurd (cc)
within_length (Some all) bit n cells e =
    let range = slice_range all (unsigned_abs bit) (unsigned_abs bit + n) in
    let t = then_true (is_within (length all) bit n) (Ok range) undefined.MemAccess cells e in
    let read = t.1 in
    let inside : unsigned_abs bit + n ≤ length all = fits_within (length all) bit n t.0 in
    let same : range ≡ cells = cc in
    subst (λ (l : List Cell). length l ≡ n) same (length-take ((unsigned_abs bit + n) - unsigned_abs bit) (drop (unsigned_abs bit) all) ∙ omega (arith, length-drop (unsigned_abs bit) all))

-- ---- pointers

pointer_to_is : (m : List Object) (base : ℕ) (byte : ℤ) (v : Value) → pointer_to m base byte ≡ Ok v → IsAddress v
pointer_to_is m base byte v e = same_address (Pointer base byte) v (pointer_is_one base byte) (then_true (in_or_past (object m base) byte) (Ok (Pointer base byte)) undefined.PointerArithmetic v e).1

moved_is_one : (m : List Object) (x : Value) (bytes : ℤ) (v : Value) → moved_by m x bytes ≡ Ok v → IsAddress v
moved_is_one m (Pointer base offset) bytes v e = pointer_to_is m base (offset +ℤ bytes) v e
moved_is_one m (Number n) bytes v e = absurd (cc)

added_is_one : (m : List Object) (size : ℕ) (x y v : Value) → added m size x y ≡ Ok v → IsAddress v
added_is_one m size (Pointer base offset) y v e = moved_is_one m (Pointer base offset) (number_in y *ℤ pos size) v e
added_is_one m size (Number n) y v e = moved_is_one m y (n *ℤ pos size) v e

ordered_is : (o : BinOp) (offsets : Option (ℤ × ℤ)) (v : Value) → ordered o offsets ≡ Ok v → IsOf (int_type kind.Int) v
ordered_is o None v e = absurd (cc)
ordered_is o (Some offsets) v e = is_value (int_type kind.Int) (Number (truth (order_holds o offsets.0 offsets.1))) v (truth_in (order_holds o offsets.0 offsets.1)) e

between_is : (size : ℕ) (offsets : Option (ℤ × ℤ)) (v : Value) → elements_between size offsets ≡ Ok v → IsOf (int_type kind.Long) v
between_is size None v e = absurd (cc)
between_is size (Some offsets) v e =
    let count = int_div (offsets.0 -ℤ offsets.1) (pos size) in
    is_value (int_type kind.Long) (Number (wrapped kind.Long count)) v (wrapped_in kind.Long count) e

-- ---- operators

no_pointer : (t : CType) (k : IntKind) → t ≡ int_type k → is_pointer t ≡ false
no_pointer t k e = ap is_pointer e

-- the operands are numbers of one kind
in_one : (m : List Object) (size : ℕ) (o : BinOp) (k j : IntKind) (t : CType) (x y v : Value) → k ≡ j → t ≡ int_type (result_kind o j) → (o ≢ op.PtrAdd) → (o ≢ op.PtrSub) → (o ≢ op.PtrDiff) →
    IsOf (int_type j) x → binary m size false o k x y ≡ Ok v → IsOf t v
in_one m size o k j t x y v same r a b c left e =
    subst (λ (u : CType). IsOf u v) (sym r)
    (result_is (result_kind o j) (arithmetic o k (number_in x) (number_in y)) v
    (λ z is. arithmetic_in o j (number_in x) (number_in y) z (number_of_value j false x left) (ap (λ (i : IntKind). arithmetic o i (number_in x) (number_in y)) (sym same) ∙ is) a b c) e)

neither : (u v : CType) (k j : IntKind) → u ≡ int_type k → v ≡ int_type j → (is_pointer u || is_pointer v) ≡ false
neither u v k j e g = ap (λ (a : Bool). a || is_pointer v) (no_pointer u k e) ∙ no_pointer v j g

left_one : (a b : Bool) → a ≡ true → (a || b) ≡ true
left_one a b e = ap (λ (c : Bool). c || b) e

right_one : (a b : Bool) → b ≡ true → (a || b) ≡ true
right_one true b e = refl
right_one false b e = e

module _ (l : Layout) (m : List Object) (size : ℕ) (k : IntKind) (u v t : CType) (x y r : Value) (kinds : (j : IntKind) → u ≡ int_type j → k ≡ j) (left : IsOf u x) where
  arithmetic_is : (o : BinOp) → (o ≢ op.PtrAdd) → (o ≢ op.PtrSub) → (o ≢ op.PtrDiff) → ((j : IntKind) → result_kind o j ≡ j) → (c : InOneKind u v) → t ≡ u → binary m size (is_pointer u || is_pointer v) o k x y ≡ Ok r → IsOf t r
  arithmetic_is o a b c stays both is e =
      in_one m size o k both.kind t x y r (kinds both.kind both.left) (is ∙ both.left ∙ ap int_type (sym (stays both.kind))) a b c (subst (λ (w : CType). IsOf w x) both.left left)
      (ap (λ (on : Bool). binary m size on o k x y) (sym (neither u v both.kind both.kind both.left both.right)) ∙ e)

  shift_is : (o : BinOp) → (o ≢ op.PtrAdd) → (o ≢ op.PtrSub) → (o ≢ op.PtrDiff) → ((j : IntKind) → result_kind o j ≡ j) → (c : InOwnKinds u v) → t ≡ u → binary m size (is_pointer u || is_pointer v) o k x y ≡ Ok r → IsOf t r
  shift_is o a b c stays both is e =
      in_one m size o k both.left_kind t x y r (kinds both.left_kind both.left) (is ∙ both.left ∙ ap int_type (sym (stays both.left_kind))) a b c (subst (λ (w : CType). IsOf w x) both.left left)
      (ap (λ (on : Bool). binary m size on o k x y) (sym (neither u v both.left_kind both.right_kind both.left both.right)) ∙ e)

  comparison_is : (o : BinOp) → (o ≢ op.PtrAdd) → (o ≢ op.PtrSub) → (o ≢ op.PtrDiff) → ((j : IntKind) → result_kind o j ≡ kind.Int) → (InOneKind u v ⊎ InPointers u v) × (t ≡ int_type kind.Int) →
      (on_pointers m size o x y ≡ Ok r → IsOf (int_type kind.Int) r) → binary m size (is_pointer u || is_pointer v) o k x y ≡ Ok r → IsOf t r
  comparison_is o a b c gives (inl both, is) on e =
      in_one m size o k both.kind t x y r (kinds both.kind both.left) (is ∙ ap int_type (sym (gives both.kind))) a b c (subst (λ (w : CType). IsOf w x) both.left left)
      (ap (λ (p : Bool). binary m size p o k x y) (sym (neither u v both.kind both.kind both.left both.right)) ∙ e)
  comparison_is o a b c gives (inr both, is) on e =
      subst (λ (w : CType). IsOf w r) (sym is) (on (ap (λ (p : Bool). binary m size p o k x y) (sym (left_one (is_pointer u) (is_pointer v) both.left)) ∙ e))

  -- an operator on pointers
  on_address : (o : BinOp) → (is_pointer u || is_pointer v) ≡ true → IsTrue (is_pointer t) → (on_pointers m size o x y ≡ Ok r → IsAddress r) → binary m size (is_pointer u || is_pointer v) o k x y ≡ Ok r → IsOf t r
  on_address o on is given e = typed_address t r is (given (ap (λ (p : Bool). binary m size p o k x y) (sym on) ∙ e))

  typed_binary : (o : BinOp) → Computes l o u v t → binary m size (is_pointer u || is_pointer v) o k x y ≡ Ok r → IsOf t r
  typed_binary op.Add c e = arithmetic_is op.Add (λ q. cc) (λ q. cc) (λ q. cc) (λ j. refl) c.0 c.1 e
  typed_binary op.Sub c e = arithmetic_is op.Sub (λ q. cc) (λ q. cc) (λ q. cc) (λ j. refl) c.0 c.1 e
  typed_binary op.Mul c e = arithmetic_is op.Mul (λ q. cc) (λ q. cc) (λ q. cc) (λ j. refl) c.0 c.1 e
  typed_binary op.Div c e = arithmetic_is op.Div (λ q. cc) (λ q. cc) (λ q. cc) (λ j. refl) c.0 c.1 e
  typed_binary op.Rem c e = arithmetic_is op.Rem (λ q. cc) (λ q. cc) (λ q. cc) (λ j. refl) c.0 c.1 e
  typed_binary op.And c e = arithmetic_is op.And (λ q. cc) (λ q. cc) (λ q. cc) (λ j. refl) c.0 c.1 e
  typed_binary op.Or c e = arithmetic_is op.Or (λ q. cc) (λ q. cc) (λ q. cc) (λ j. refl) c.0 c.1 e
  typed_binary op.Xor c e = arithmetic_is op.Xor (λ q. cc) (λ q. cc) (λ q. cc) (λ j. refl) c.0 c.1 e
  typed_binary op.Shl c e = shift_is op.Shl (λ q. cc) (λ q. cc) (λ q. cc) (λ j. refl) c.0 c.1 e
  typed_binary op.Shr c e = shift_is op.Shr (λ q. cc) (λ q. cc) (λ q. cc) (λ j. refl) c.0 c.1 e
  typed_binary op.Lt c e = comparison_is op.Lt (λ q. cc) (λ q. cc) (λ q. cc) (λ j. refl) c (λ g. ordered_is op.Lt (offsets_in_one x y) r g) e
  typed_binary op.Le c e = comparison_is op.Le (λ q. cc) (λ q. cc) (λ q. cc) (λ j. refl) c (λ g. ordered_is op.Le (offsets_in_one x y) r g) e
  typed_binary op.Gt c e = comparison_is op.Gt (λ q. cc) (λ q. cc) (λ q. cc) (λ j. refl) c (λ g. ordered_is op.Gt (offsets_in_one x y) r g) e
  typed_binary op.Ge c e = comparison_is op.Ge (λ q. cc) (λ q. cc) (λ q. cc) (λ j. refl) c (λ g. ordered_is op.Ge (offsets_in_one x y) r g) e
  typed_binary op.Eq c e = comparison_is op.Eq (λ q. cc) (λ q. cc) (λ q. cc) (λ j. refl) c (λ g. is_value (int_type kind.Int) (Number (truth (equal x y))) r (truth_in (equal x y)) g) e
  typed_binary op.Ne c e = comparison_is op.Ne (λ q. cc) (λ q. cc) (λ q. cc) (λ j. refl) c (λ g. is_value (int_type kind.Int) (Number (truth (not (equal x y)))) r (truth_in (not (equal x y))) g) e
  typed_binary op.PtrAdd (inl c) e = on_address op.PtrAdd (left_one (is_pointer u) (is_pointer v) (ap is_pointer c.points ∙ pointer_is c.to)) (ap is_pointer (c.is_result ∙ c.points) ∙ pointer_is c.to) (λ g. added_is_one m size x y r g) e
  typed_binary op.PtrAdd (inr c) e = on_address op.PtrAdd (right_one (is_pointer u) (is_pointer v) (ap is_pointer c.points ∙ pointer_is c.to)) (ap is_pointer (c.is_result ∙ c.points) ∙ pointer_is c.to) (λ g. added_is_one m size x y r g) e
  typed_binary op.PtrSub c e = on_address op.PtrSub (left_one (is_pointer u) (is_pointer v) (ap is_pointer c.points ∙ pointer_is c.to)) (ap is_pointer (c.is_result ∙ c.points) ∙ pointer_is c.to) (λ g. moved_is_one m x (neg_ℤ (number_in y *ℤ pos size)) r g) e
  typed_binary op.PtrDiff c e =
      subst (λ (w : CType). IsOf w r) (sym c.is_result)
      (between_is size (offsets_in_one x y) r (ap (λ (p : Bool). binary m size p op.PtrDiff k x y) (sym (left_one (is_pointer u) (is_pointer v) c.alike.left)) ∙ e))

-- ---- conversions

one_in : (k : IntKind) → InRange k (pos 1)
one_in = every (λ k. InRange k (pos 1)) (record { above = omega (arith, ints); below = omega (arith, ints) }) (record { above = omega (arith, ints); below = omega (arith, ints) }) (record { above = omega (arith, ints); below = omega (arith, ints) }) (record { above = omega (arith, ints); below = omega (arith, ints) }) (record { above = omega (arith, ints); below = omega (arith, ints) }) (record { above = omega (arith, ints); below = omega (arith, ints) }) (record { above = omega (arith, ints); below = omega (arith, ints) }) (record { above = omega (arith, ints); below = omega (arith, ints) }) (record { above = omega (arith, ints); below = omega (arith, ints) }) (record { above = omega (arith, ints); below = omega (arith, ints) }) (record { above = omega (arith, ints); below = omega (arith, ints) }) (record { above = omega (arith, ints); below = omega (arith, ints) })

from_pointer : (i q : Bool) → (i && false || q && (true || false)) ≡ true → q ≡ true
from_pointer true true e = refl
from_pointer false true e = refl
from_pointer true false e = cc
from_pointer false false e = cc

nowhere : (i q : Bool) → (i && false || q && (false || false)) ≡ true → ⊥
nowhere true true e = cc
nowhere true false e = cc
nowhere false true e = cc
nowhere false false e = cc

converted_is : (from to : CType) (x : Value) → IsTrue (converts from to) → IsOf from x → IsOf to (converted to x)
converted_is from (Int k volatile) (Number v) c h = wrapped_in k v
converted_is from (Int k volatile) (Pointer base offset) c h = one_in k
converted_is from (Ptr' n to) x c h = typed_address (Ptr' n to) x refl (address_of_typed from x (from_pointer (is_integer from) (is_pointer from) c) h)
converted_is from Void x c h = absurd (nowhere (is_integer from) (is_pointer from) c)
converted_is from (Array' _ _ n) x c h = absurd (nowhere (is_integer from) (is_pointer from) c)
converted_is from (Struct id) x c h = absurd (nowhere (is_integer from) (is_pointer from) c)
converted_is from Unusable x c h = absurd (nowhere (is_integer from) (is_pointer from) c)

-- ---- expressions

first_value : (t : CType) (x v : Value) → IsOf t x → ok_in Undefined x ≡ Ok v → IsOf t v
first_value t x v h e = let same : x ≡ v = cc in subst (IsOf t) same h

const_is : (k : IntKind) (t : CType) (x : ℤ) → InRange k x → t ≡ int_type k → IsOf t (Number x)
const_is k t x h e = subst (λ (u : CType). IsOf u (Number x)) (sym e) h

-- a read of a place that an lvalue of the type designates
few_bits : (p : Program) (f : Function) (l : LVal) (u : CType) (n : ℕ) → HasFittingFields p.layout → Designates p f l u → n ≡ scalar_bits p f l u → (k : IntKind) (volatile : Bool) → u ≡ Int k volatile → n ≤ width k
few_bits p f l u n fields d is k volatile e =
    let few = read_fits p f l k volatile fields (subst (Designates p f l) e d) in
    subst (λ (w : ℕ). w ≤ width k) (sym (is ∙ ap (scalar_bits p f l) e)) few

module _ (p : Program) (f : Function) (m : List Object) (fields : HasFittingFields p.layout) where
  pub value_is_typed : (s : ℕ) (e : Expr) (t : CType) (v : Value) → HasType p f e t → value p f m s e ≡ Ok v → IsOf t v
  unfolding HasType value
  value_is_typed s (Const k x) t v h e = first_value t (Number x) v (const_is k t x h.0 h.1) e
  value_is_typed s Null t v h e = first_value t (Number (pos 0)) v (typed_address t (Number (pos 0)) h null_is) e
  value_is_typed s (Load l u) t v h e =
      let r = then_ok (place p f m (s + 1) l) (λ a. at s (and_then (accessed m a (scalar_bits p f l u)) (held u))) v e in
      let read = then_ok (accessed m r.first (scalar_bits p f l u)) (held u) v (at_ok s (and_then (accessed m r.first (scalar_bits p f l u)) (held u)) v r.is_second) in
      let long = within_length (object m r.first.base) r.first.bit (scalar_bits p f l u) read.first read.is_first in
      subst (λ (w : CType). IsOf w v) (sym h.2) (held_is u read.first v h.1 (few_bits p f l u (length read.first) fields h.0 long) read.is_second)
  value_is_typed s (Addr l) t v h e =
      let r = then_ok (place p f m (s + 1) l) (λ a. at s (address m a)) v e in
      subst (λ (w : CType). IsOf w v) (sym h.2) (pointer_typed h.0 v (pointer_to_is m _ _ v (at_ok s (address m r.first) v r.is_second)))
  value_is_typed s (Start l) t v h e =
      let r = then_ok (place p f m (s + 1) l) (λ a. at s (address m a)) v e in
      subst (λ (w : CType). IsOf w v) (sym h.3) (pointer_typed h.0 v (pointer_to_is m _ _ v (at_ok s (address m r.first) v r.is_second)))
  value_is_typed s (Unary' o _ (more_of-Expr a end_of-Expr)) t v h e =
      let r = then_ok (value p f m (s + 1) a) (λ x. at s (number_result (negated o (kind_of a) (number_in x)))) v e in
      let same = kind_is p f a h.0 h.2 in
      subst (λ (w : CType). IsOf w v) (sym h.3)
      (result_is h.0 (negated o (kind_of a) (number_in r.first)) v (λ z is. subst (λ (k : IntKind). InRange k z) same (negated_in o (kind_of a) (number_in r.first) z is))
      (at_ok s (number_result (negated o (kind_of a) (number_in r.first))) v r.is_second))
  value_is_typed s (Binary' o _ (more_of-Expr a end_of-Expr) _ (more_of-Expr b end_of-Expr)) t v h e =
      let r = then_ok (value p f m (s + 1) a) (λ x. and_then (value p f m (s + 1 + count_expr a) b) (λ y. at s (binary m (stride p f a b) (is_on_pointers a b) o (kind_of a) x y))) v e in
      let q = then_ok (value p f m (s + 1 + count_expr a) b) (λ y. at s (binary m (stride p f a b) (is_on_pointers a b) o (kind_of a) r.first y)) v r.is_second in
      let result = at_ok s (binary m (stride p f a b) (is_on_pointers a b) o (kind_of a) r.first q.first) v q.is_second in
      let on = ap (λ (x : Bool). x || is_address b) (address_is p f a h.0 h.2) ∙ ap (λ (x : Bool). is_pointer h.0 || x) (address_is p f b h.1 h.3) in
      typed_binary p.layout m (stride p f a b) (kind_of a) h.0 h.1 t r.first q.first v (λ j is. kind_is p f a j (subst (HasType p f a) is h.2)) (value_is_typed (s + 1) a h.0 r.first h.2 r.is_first) o h.4
      (ap (λ (x : Bool). binary m (stride p f a b) x o (kind_of a) r.first q.first) (sym on) ∙ result)
  value_is_typed s (Cast' to _ (more_of-Expr a end_of-Expr)) t v h e =
      let r = then_ok (value p f m (s + 1) a) (λ x. Ok (converted to x)) v e in
      subst (λ (w : CType). IsOf w v) (sym h.4) (first_value to (converted to r.first) v (converted_is h.0 to r.first h.2 (value_is_typed (s + 1) a h.0 r.first h.1 r.is_first)) r.is_second)
