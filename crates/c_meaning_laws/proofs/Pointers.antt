-- The pointers that expressions give point into objects that live, or to their ends.
use Rattle.std.proofs.Common.{◌≡◌, ℕ, ◌+◌, ◌-◌, ◌<◌, nat_eq, ℤ, pos, negsuc, ◌*ℤ◌, List, [], ◌∷◌, length, get_or, drop, Bool, true, false, Option, Some, None, Result, Ok, Err, refl, subst, arith}
use Rattle.std.specs.Prelude.{All, ◌&&◌, ◌||◌, unsigned_abs, if◌then◌else◌, slice_range, neg_ℤ, ◌+ℤ◌}
use Rattle.std.specs.List.{list_any, range_with_len}
use Rattle.std.proofs.lemmas.Int.{ints}
use Rattle.std.proofs.lemmas.List.FromFn.{length-range_with_len, get_or-range_with_len}
use Rattle.std.proofs.lemmas.List.Elements.{All-head, All-tail, All-take, All-drop, All-map}
use Rattle.std.proofs.lemmas.Bool.Decides.{nat_tests}
use Rattle.c_types.specs.declared.types.IntKind.{IntKind}
use Rattle.c_types.specs.declared.types.CType.{CType}
use Rattle.c_types.specs.declared.types.CType.TheVariants.{Void, Int, Ptr', Array', Struct, Unusable}
use Rattle.program.specs.declared.expressions.BinOp.{BinOp}
use Rattle.program.specs.declared.expressions.BinOp.TheVariants as op
use Rattle.program.specs.declared.expressions.Expr.{Expr, end_of-Expr, more_of-Expr}
use Rattle.program.specs.declared.expressions.Expr.TheVariants.{Const, Null, Load, Addr, Start, Unary', Binary', Cast'}
use Rattle.program.specs.declared.graph.Function.{Function}
use Rattle.program.specs.declared.graph.Program.{Program}
use Rattle.program.specs.declared.sites.Kind.{Kind}
use Rattle.program.specs.declared.sites.Kind.TheVariants as undefined
use Rattle.program.specs.Numbers.{count_expr}
use Rattle.c_memory.specs.declared.cells.Cell.{Cell}
use Rattle.c_memory.specs.declared.cells.Cell.TheVariants.{Uninit, Dangling, Bit, Ptr}
use Rattle.c_memory.specs.declared.memory.Object.{Object}
use Rattle.c_memory.specs.Cells.{bit_of}
use Rattle.c_memory.specs.Memory.{object}
use Rattle.c_arithmetic.specs.Arithmetic.{and_then, arithmetic, negated}
use Rattle.c_meaning.specs.declared.value.Value.{Value}
use Rattle.c_meaning.specs.declared.value.Value.TheVariants.{Number, Pointer}
use Rattle.c_meaning.specs.declared.value.BitAddress.{BitAddress}
use Rattle.c_meaning.specs.declared.value.Undefined.{Undefined}
use Rattle.c_meaning.specs.Cells.{value_cells, pointer_of, defined_as, held, is_uninit, is_dangling, is_pointer_bit, is_set, are_bits_from, number_of}
use Rattle.c_meaning.specs.Memory.{accessed, bits_within, is_within, in_or_past, pointer_to}
use Rattle.c_meaning.specs.PlaceTypes.{kind_of, scalar_bits, stride}
use Rattle.c_meaning.specs.Value.{at, number_in, moved_by, added, on_pointers, number_result, binary, converted, is_on_pointers, address, value, place, offsets_in_one, elements_between, ordered}
use Rattle.c_meaning.specs.Lawful.{PointsInside, LawfulMemory}
use Rattle.c_meaning_laws.proofs.Memories.{Points, points_of, inside_of, size_of_object}
use Rattle.c_meaning_laws.proofs.Outcomes.{then_ok, at_ok, else_ok, then_true, ok_in}

-- a value that is a pointer into an object that lives, or to its end
abbrev pub PointsWell : List Object → Value → Type 0
PointsWell m (Number v) = Unit {0}
PointsWell m (Pointer base offset) = Points m base offset

number_points : (m : List Object) (x : ℤ) (v : Value) → ok_in Kind (Number x) ≡ Ok v → PointsWell m v
number_points m x v h = let same : Number x ≡ v = cc in subst (PointsWell m) same tt

-- ---- what cells hold

cells_of_object : (P : Cell → Type 0) (m : List Object) (b : ℕ) (cells : List Cell) → All (λ o. All P o.cells) m → object m b ≡ Some cells → All P cells
cells_of_object P [] b cells h e = absurd (cc)
cells_of_object P (o ∷ os) b cells h e =
    (elim (nat_eq o.base b) as (λ t. (if t then Some o.cells else object os b) ≡ Some cells → All P cells) [
      | true ↦ λ is. let same : o.cells ≡ cells = cc in subst (All P) same (All-head (λ (q : Object). All P q.cells) o os h)
      | false ↦ λ is. cells_of_object P os b cells (All-tail (λ (q : Object). All P q.cells) o os h) is
    ]) e

within_inside : (P : Cell → Type 0) (found : Option (List Cell)) (bit : ℤ) (n : ℕ) (cells : List Cell) → ((all : List Cell) → found ≡ Some all → All P all) → bits_within found bit n ≡ Ok cells → All P cells
within_inside P None bit n cells h e = absurd (cc)
within_inside P (Some all) bit n cells h e =
    let read = (then_true (is_within (length all) bit n) (Ok (slice_range all (unsigned_abs bit) (unsigned_abs bit + n))) undefined.MemAccess cells e).1 in
    let same : slice_range all (unsigned_abs bit) (unsigned_abs bit + n) ≡ cells = cc in
    subst (All P) same (All-take P ((unsigned_abs bit + n) - unsigned_abs bit) (drop (unsigned_abs bit) all) (All-drop P (unsigned_abs bit) all (h all refl)))

pub accessed_inside : (m : List Object) (a : BitAddress) (n : ℕ) (cells : List Cell) → LawfulMemory m → accessed m a n ≡ Ok cells → All (PointsInside m) cells
accessed_inside m a n cells h e = within_inside (PointsInside m) (object m a.base) a.bit n cells (λ all is. cells_of_object (PointsInside m) m a.base all h.pointers is) e

pointer_points : (m : List Object) (cells : List Cell) (v : Value) → All (PointsInside m) cells → pointer_of cells ≡ Ok v → PointsWell m v
pointer_points m [] v h e = number_points m (pos 0) v e
pointer_points m (Ptr base offset bit ∷ cells) v h e =
    let read = (then_true (nat_eq (length cells) 63 && are_bits_from base offset 0 (Ptr base offset bit ∷ cells)) (Ok (Pointer base offset)) undefined.PointerBytes v e).1 in
    let same : Pointer base offset ≡ v = cc in
    subst (PointsWell m) same (points_of m base offset bit (All-head (PointsInside m) (Ptr base offset bit) cells h))
pointer_points m (Uninit ∷ cells) v h e = number_points m (pos 0) v (else_ok (list_any is_pointer_bit (Uninit ∷ cells) || list_any is_set (Uninit ∷ cells)) undefined.PointerBytes (Ok (Number (pos 0))) v e)
pointer_points m (Dangling ∷ cells) v h e = number_points m (pos 0) v (else_ok (list_any is_pointer_bit (Dangling ∷ cells) || list_any is_set (Dangling ∷ cells)) undefined.PointerBytes (Ok (Number (pos 0))) v e)
pointer_points m (Bit b ∷ cells) v h e = number_points m (pos 0) v (else_ok (list_any is_pointer_bit (Bit b ∷ cells) || list_any is_set (Bit b ∷ cells)) undefined.PointerBytes (Ok (Number (pos 0))) v e)

defined_points : (m : List Object) (t : CType) (cells : List Cell) (v : Value) → All (PointsInside m) cells → defined_as t cells ≡ Ok v → PointsWell m v
defined_points m (Int k volatile) cells v h e = number_points m (number_of k cells) v (else_ok (list_any is_pointer_bit cells) undefined.PointerBytes (Ok (Number (number_of k cells))) v e)
defined_points m Void cells v h e = pointer_points m cells v h e
defined_points m (Ptr' _ _) cells v h e = pointer_points m cells v h e
defined_points m (Array' _ _ n) cells v h e = pointer_points m cells v h e
defined_points m (Struct id) cells v h e = pointer_points m cells v h e
defined_points m Unusable cells v h e = pointer_points m cells v h e

pub held_points : (m : List Object) (t : CType) (cells : List Cell) (v : Value) → All (PointsInside m) cells → held t cells ≡ Ok v → PointsWell m v
unfolding held
held_points m t cells v h e =
    defined_points m t cells v h
    (else_ok (list_any is_dangling cells) undefined.Dangling (defined_as t cells) v
    (else_ok (list_any is_uninit cells) undefined.Initialization (if list_any is_dangling cells then Err undefined.Dangling else defined_as t cells) v e))

-- ---- pointers that are made

past_points : (m : List Object) (base : ℕ) (byte : ℤ) (found : Option (List Cell)) → object m base ≡ found → in_or_past found byte ≡ true → Points m base byte
past_points m base byte None is h = absurd (cc)
past_points m base (pos n) (Some cells) is h = record { size = length cells; lives = size_of_object m base cells is; above = omega (arith, ints); below = grind (arith, ints, nat_tests) }
past_points m base (negsuc n) (Some cells) is h = absurd (cc)

pub pointer_to_points : (m : List Object) (base : ℕ) (byte : ℤ) (v : Value) → pointer_to m base byte ≡ Ok v → PointsWell m v
pointer_to_points m base byte v h =
    let made = then_true (in_or_past (object m base) byte) (Ok (Pointer base byte)) undefined.PointerArithmetic v h in
    let same : Pointer base byte ≡ v = let e = made.1 in cc in
    subst (PointsWell m) same (past_points m base byte (object m base) refl made.0)

moved_points : (m : List Object) (x : Value) (bytes : ℤ) (v : Value) → moved_by m x bytes ≡ Ok v → PointsWell m v
moved_points m (Pointer base offset) bytes v h = pointer_to_points m base (offset +ℤ bytes) v h
moved_points m (Number n) bytes v h = absurd (cc)

added_points : (m : List Object) (size : ℕ) (x y v : Value) → added m size x y ≡ Ok v → PointsWell m v
added_points m size (Pointer base offset) y v h = moved_points m (Pointer base offset) (number_in y *ℤ pos size) v h
added_points m size (Number n) y v h = moved_points m y (n *ℤ pos size) v h

-- ---- operators

result_points : (m : List Object) (r : Result ℤ Kind) (v : Value) → number_result r ≡ Ok v → PointsWell m v
result_points m (Ok x) v h = number_points m x v h
result_points m (Err k) v h = absurd (cc)

ordered_points : (m : List Object) (o : BinOp) (offsets : Option (ℤ × ℤ)) (v : Value) → ordered o offsets ≡ Ok v → PointsWell m v
ordered_points m o None v h = absurd (cc)
ordered_points m o (Some offsets) v h = number_points m _ v h

between_points : (m : List Object) (size : ℕ) (offsets : Option (ℤ × ℤ)) (v : Value) → elements_between size offsets ≡ Ok v → PointsWell m v
between_points m size None v h = absurd (cc)
between_points m size (Some offsets) v h = number_points m _ v h

on_pointers_points : (m : List Object) (size : ℕ) (o : BinOp) (x y v : Value) → on_pointers m size o x y ≡ Ok v → PointsWell m v
on_pointers_points m size op.Lt x y v h = ordered_points m op.Lt (offsets_in_one x y) v h
on_pointers_points m size op.Le x y v h = ordered_points m op.Le (offsets_in_one x y) v h
on_pointers_points m size op.Gt x y v h = ordered_points m op.Gt (offsets_in_one x y) v h
on_pointers_points m size op.Ge x y v h = ordered_points m op.Ge (offsets_in_one x y) v h
on_pointers_points m size op.PtrAdd x y v h = added_points m size x y v h
on_pointers_points m size op.PtrSub x y v h = moved_points m x (neg_ℤ (number_in y *ℤ pos size)) v h
on_pointers_points m size op.PtrDiff x y v h = between_points m size (offsets_in_one x y) v h
on_pointers_points m size _ x y v h = number_points m _ v h

pub binary_points : (m : List Object) (size : ℕ) (on : Bool) (o : BinOp) (k : IntKind) (x y v : Value) → binary m size on o k x y ≡ Ok v → PointsWell m v
binary_points m size true o k x y v h = on_pointers_points m size o x y v h
binary_points m size false o k x y v h = result_points m (arithmetic o k (number_in x) (number_in y)) v h

converted_points : (m : List Object) (t : CType) (v : Value) → PointsWell m v → PointsWell m (converted t v)
converted_points m (Int k volatile) (Number x) h = tt
converted_points m (Int k volatile) (Pointer base offset) h = tt
converted_points m Void v h = h
converted_points m (Ptr' _ _) v h = h
converted_points m (Array' _ _ n) v h = h
converted_points m (Struct id) v h = h
converted_points m Unusable v h = h

-- ---- expressions

numbered : (m : List Object) (x : ℤ) (v : Value) → ok_in Undefined (Number x) ≡ Ok v → PointsWell m v
numbered m x v h = let same : Number x ≡ v = cc in subst (PointsWell m) same tt

module _ (p : Program) (f : Function) (m : List Object) (lawful : LawfulMemory m) where
  pub value_points : (s : ℕ) (e : Expr) (v : Value) → value p f m s e ≡ Ok v → PointsWell m v
  unfolding value
  value_points s (Const k x) v h = numbered m x v h
  value_points s Null v h = numbered m (pos 0) v h
  value_points s (Load l t) v h =
      let r = then_ok (place p f m (s + 1) l) (λ a. at s (and_then (accessed m a (scalar_bits p f l t)) (held t))) v h in
      let read = then_ok (accessed m r.first (scalar_bits p f l t)) (held t) v (at_ok s (and_then (accessed m r.first (scalar_bits p f l t)) (held t)) v r.is_second) in
      held_points m t read.first v (accessed_inside m r.first (scalar_bits p f l t) read.first lawful read.is_first) read.is_second
  value_points s (Addr l) v h =
      let r = then_ok (place p f m (s + 1) l) (λ a. at s (address m a)) v h in
      pointer_to_points m _ _ v (at_ok s (address m r.first) v r.is_second)
  value_points s (Start l) v h =
      let r = then_ok (place p f m (s + 1) l) (λ a. at s (address m a)) v h in
      pointer_to_points m _ _ v (at_ok s (address m r.first) v r.is_second)
  value_points s (Unary' o _ (more_of-Expr a end_of-Expr)) v h =
      let r = then_ok (value p f m (s + 1) a) (λ x. at s (number_result (negated o (kind_of a) (number_in x)))) v h in
      result_points m (negated o (kind_of a) (number_in r.first)) v (at_ok s (number_result (negated o (kind_of a) (number_in r.first))) v r.is_second)
  value_points s (Binary' o _ (more_of-Expr a end_of-Expr) _ (more_of-Expr b end_of-Expr)) v h =
      let r = then_ok (value p f m (s + 1) a) (λ x. and_then (value p f m (s + 1 + count_expr a) b) (λ y. at s (binary m (stride p f a b) (is_on_pointers a b) o (kind_of a) x y))) v h in
      let q = then_ok (value p f m (s + 1 + count_expr a) b) (λ y. at s (binary m (stride p f a b) (is_on_pointers a b) o (kind_of a) r.first y)) v r.is_second in
      binary_points m (stride p f a b) (is_on_pointers a b) o (kind_of a) r.first q.first v (at_ok s (binary m (stride p f a b) (is_on_pointers a b) o (kind_of a) r.first q.first) v q.is_second)
  value_points s (Cast' t _ (more_of-Expr a end_of-Expr)) v h =
      let r = then_ok (value p f m (s + 1) a) (λ x. Ok (converted t x)) v h in
      let e = r.is_second in
      let same : converted t r.first ≡ v = cc in
      subst (PointsWell m) same (converted_points m t r.first (value_points (s + 1) a r.first r.is_first))

-- ---- values as cells

small : (k d : ℕ) → k < length (range_with_len 0 64) → get_or (range_with_len 0 64) k d < 64
small k d l = let few : k < 64 = omega (arith, l, length-range_with_len 0 64) in omega (arith, get_or-range_with_len 0 64 k d few)

pub value_inside : (m : List Object) (n : ℕ) (v : Value) → PointsWell m v → All (PointsInside m) (value_cells n v)
value_inside m n (Number x) h = All-map (PointsInside m) (λ j. Bit (bit_of x j)) (range_with_len 0 n) (λ k d l. tt)
value_inside m n (Pointer base offset) h = All-map (PointsInside m) (λ j. Ptr base offset j) (range_with_len 0 64) (λ k d l. inside_of m base offset _ (small k d l) h)
