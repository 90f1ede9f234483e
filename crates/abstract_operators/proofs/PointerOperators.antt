-- One lemma for each operator on pointers and places: it keeps the members of its operands.
use Rattle.std.proofs.Common.{◌≡◌, ℕ, zero, suc, ◌+◌, ◌-◌, ◌*◌, ◌/◌, ◌%◌, ◌^◌, ◌≤◌, ◌<◌, List, [], length, ℤ, pos, negsuc, neg_ℤ, ◌+ℤ◌, ◌-ℤ◌, ◌*ℤ◌, ◌≤ℤ◌, Some, None, Result, Ok, Err, refl, ap, sym, subst, ◌∙◌, arith, true, false}
use Rattle.std.specs.Prelude.{Bool, Decides, cond, not, ◌&&◌, nat_le, int_le, int_lt, unsigned_abs, slice_range}
use Rattle.std.specs.Int.{int_div_euclid}
use Rattle.std.specs.List.{All}
use Rattle.std.proofs.lemmas.Int.{ints}
use Rattle.std.proofs.lemmas.Nat.{le-div, div-add-mod', mod_below}
use Rattle.std.proofs.lemmas.Bool.Decides.{Decides-and, nat_tests}
use Rattle.std.proofs.Math.Nat.{div-mul-le_self, mul_assoc, mul_comm}
use Rattle.c_memory.specs.declared.cells.Cell.{Cell}
use Rattle.c_memory.specs.declared.memory.Object.{Object}
use Rattle.c_meaning.specs.declared.value.BitAddress.{BitAddress}
use Rattle.c_meaning.specs.declared.value.Value.{Value as Concrete}
use Rattle.c_meaning.specs.declared.value.Value.TheVariants.{Number, Pointer}
use Rattle.c_memory.specs.Memory.{object}
use Rattle.c_meaning.specs.Memory.{accessed, bits_within, is_within, in_or_past, pointer_to}
use Rattle.c_meaning.specs.Value.{designated, indexed}
use Rattle.program.specs.declared.sites.Kind.{Kind}
use Rattle.program.specs.declared.sites.Kind.TheVariants as undefined
use Rattle.ival.specs.declared.forms.Ival.{Ival}
use Rattle.ival.specs.Forms.{IsBounded, IsOperand, Has, has, is_empty}
use Rattle.ival.specs.Arithmetic.{mul_of}
use Rattle.ival.proofs.CommonNumbers.{Decides-int_le}
use Rattle.ival.proofs.ComparisonMembers.{formed, Decides-int_lt}
use Rattle.ival.proofs.Membership.{Decides-member}
use Rattle.ival.proofs.HullMembers.{contains-here}
use Rattle.ival.proofs.ProductMembers.{mul-keeps}
use Rattle.avalue.specs.Pointers.{Pointer as Offsets, offsets_at, IsPointer}
use Rattle.avalue.specs.declared.value.Value.{Value}
use Rattle.abstract_memory.specs.Values.{one_number}
use Rattle.abstract_operators.specs.Left.{Left, raising, alarm_if, nothing}
use Rattle.abstract_operators.specs.Numbers.{met, strays}
use Rattle.abstract_operators.specs.Pointers.{of_pointers, left_value, left_places, moved_by, within_limits, exceed_limits, end_of, last_access, pointers_in, accessed_in, designated_in, elements_at, indexed_in}
use Rattle.abstract_operators.specs.Members.{HasSize, IsMember, IsPlaceOf}
use Rattle.abstract_operators.specs.Kept.{Covers}
pub use Rattle.abstract_operators.specs.Conditions.{AreSizes, AreCellsAt, HasNull, CanIndex}
use Rattle.abstract_operators.proofs.Results.{one-operand}
use Rattle.abstract_operators.proofs.Limits.{IsFrom}
use Rattle.abstract_operators.proofs.Covering.{covers-raising, covers-alarm, alarm-there}
use Rattle.abstract_operators.proofs.Conversions.{by-bool, met-keeps, strays-outside}
use Rattle.abstract_operators.proofs.PointerLists.{AreLimits, IsOperandPointer, in-limits, out-of-limits, moved-has, some-pointers, not-empty}

-- ---- pointers to places

pub Decides-leb : (a b : ℕ) → Decides (nat_le a b) (a ≤ b)
Decides-leb a b = (λ e. grind (arith, nat_tests), λ h. grind (arith, nat_tests))

byte-fits : (o : ℤ) (size : ℕ) → (int_le (pos 0) o && nat_le (8 * unsigned_abs o) size) ≡ true → IsFrom (pos 0) (pos (size / 8)) o
byte-fits (pos n) size e =
    let d = (Decides-and (int_le (pos 0) (pos n)) (nat_le (8 * n) size) (Decides-int_le (pos 0) (pos n)) (Decides-leb (8 * n) size)).0 e in
    (d.0, omega (arith, ints, le-div n size 8 (omega arith) (omega (arith, d.1))))
byte-fits (negsuc n) size e =
    let d = (Decides-and (int_le (pos 0) (negsuc n)) (nat_le (8 * unsigned_abs (negsuc n)) size) (Decides-int_le (pos 0) (negsuc n)) (Decides-leb (8 * unsigned_abs (negsuc n)) size)).0 e in
    absurd (omega (arith, ints, d.0))

byte-strays : (o : ℤ) (size : ℕ) → (int_le (pos 0) o && nat_le (8 * unsigned_abs o) size) ≡ false → IsFrom (pos 0) (pos (size / 8)) o → ⊥
byte-strays (pos n) size e from =
    let low : n ≤ size / 8 = omega (arith, ints, from.1) in
    let whole = div-mul-le_self size 8 in
    let yes = (Decides-and (int_le (pos 0) (pos n)) (nat_le (8 * n) size) (Decides-int_le (pos 0) (pos n)) (Decides-leb (8 * n) size)).1 (omega (arith, ints), omega (arith, low, whole)) in
    cc
byte-strays (negsuc n) size e from = absurd (omega (arith, ints, from.0))

end-limits : (sizes : ℕ → ℕ) → AreSizes sizes → AreLimits (end_of sizes)
end-limits sizes s = record { bounded = λ (b : ℕ). let k = s.few b in let d = div-mul-le_self (sizes b) 8 in record { above = omega (arith, ints); below = omega (arith, ints, k, d) } }

-- the address of a byte
pub pointers-kept : (m : List Object) (sizes : ℕ → ℕ) (ps : List Offsets) (b : ℕ) (o : ℤ) → AreSizes sizes → All IsPointer ps → HasSize m sizes b → Has (offsets_at ps b) o
    → Covers (IsMember m sizes) (pointer_to m b o) (pointers_in sizes ps)
pointers-kept m sizes ps b o s all h p =
    let limit = end_of sizes in
    let alarms = alarm_if (exceed_limits limit ps) undefined.PointerArithmetic in
    let left = within_limits limit ps in
    let test = int_le (pos 0) o && nat_le (8 * unsigned_abs o) (sizes b) in
    let is : in_or_past (object m b) o ≡ test = ap (λ c. in_or_past c o) h.is_there ∙ ap (λ (n : ℕ). int_le (pos 0) o && nat_le (8 * unsigned_abs o) n) h.size in
    subst (λ c. Covers (IsMember m sizes) (cond c (Ok (Pointer b o)) (Err undefined.PointerArithmetic)) (pointers_in sizes ps)) (sym is)
    (by-bool (λ c. test ≡ c → Covers (IsMember m sizes) (cond c (Ok (Pointer b o)) (Err undefined.PointerArithmetic)) (pointers_in sizes ps)) test
    (λ t. λ (e : test ≡ true).
    let there = in-limits limit ps b o (end-limits sizes s) all p (byte-fits o (sizes b) e) in
    covers-raising (IsMember m sizes) alarms (Ok (Pointer b o)) (left_value (of_pointers left)) (of_pointers left, ap (λ c. cond c None (Some (of_pointers left))) (some-pointers left b o there), (there, h)))
    (λ t. λ (e : test ≡ false).
    covers-alarm (IsMember m sizes) alarms undefined.PointerArithmetic (left_value (of_pointers left))
    (alarm-there (exceed_limits limit ps) undefined.PointerArithmetic (out-of-limits limit ps b o (end-limits sizes s) all p (byte-strays o (sizes b) e))))
    refl)

-- ---- accesses

-- n bits from this bit of byte o on lie in an object of so many bits
access-fits : (o : ℤ) (bit n size : ℕ) → pos 0 ≤ℤ o → ((pos 8 *ℤ o) +ℤ pos (bit + n)) ≤ℤ pos size → o ≤ℤ int_div_euclid (pos size -ℤ pos (bit + n)) (pos 8)
access-fits (negsuc a) bit n size h k = absurd (omega (arith, ints, h))
access-fits (pos a) bit n size h k =
    let room : 8 * a + (bit + n) ≤ size = omega (arith, ints, k) in
    let d : ℕ = size - (bit + n) in
    let is : pos size -ℤ pos (bit + n) ≡ pos d = omega (arith, ints, room) in
    let q : a ≤ d / 8 = le-div a d 8 (omega arith) (omega (arith, room)) in
    subst (λ z. pos a ≤ℤ int_div_euclid z (pos 8)) (sym is) (omega (arith, ints, q))

access-lies : (z o : ℤ) → o ≤ℤ int_div_euclid z (pos 8) → (pos 8 *ℤ o) ≤ℤ z
access-lies (pos d) o h = let w = div-mul-le_self d 8 in omega (arith, ints, h, w)
access-lies (negsuc d) o h = let w = div-add-mod' d 8 in let r = mod_below d 8 in omega (arith, ints, h, w, r)

last-bounded : (z : ℤ) → neg_ℤ (pos (2 ^ 33)) ≤ℤ z → z ≤ℤ pos (2 ^ 33) → IsBounded (int_div_euclid z (pos 8))
last-bounded (pos d) h k = let w = div-mul-le_self d 8 in record { above = omega (arith, ints); below = omega (arith, ints, k, w) }
last-bounded (negsuc d) h k = let w = div-mul-le_self d 8 in record { above = omega (arith, ints, h, w); below = omega (arith, ints) }

access-limits : (sizes : ℕ → ℕ) (bit n : ℕ) → AreSizes sizes → bit + n < 2 ^ 32 → AreLimits (last_access sizes bit n)
access-limits sizes bit n s h = record { bounded = λ (b : ℕ). let k = s.few b in last-bounded (pos (sizes b) -ℤ pos (bit + n)) (omega (arith, ints, h)) (omega (arith, ints, k)) }

bits-fit : (z o : ℤ) (bit n size : ℕ) → z ≡ (pos 8 *ℤ o) +ℤ pos bit → bit < 8 → is_within size z n ≡ true → IsFrom (pos 0) (int_div_euclid (pos size -ℤ pos (bit + n)) (pos 8)) o
bits-fit (pos c) o bit n size e small t =
    let d = (Decides-and (int_le (pos 0) (pos c)) (nat_le (c + n) size) (Decides-int_le (pos 0) (pos c)) (Decides-leb (c + n) size)).0 t in
    let low : pos 0 ≤ℤ o = omega (arith, ints, e, small) in
    (low, access-fits o bit n size low (omega (arith, ints, e, d.1)))
bits-fit (negsuc c) o bit n size e small t =
    let d = (Decides-and (int_le (pos 0) (negsuc c)) (nat_le (unsigned_abs (negsuc c) + n) size) (Decides-int_le (pos 0) (negsuc c)) (Decides-leb (unsigned_abs (negsuc c) + n) size)).0 t in
    absurd (omega (arith, ints, d.0))

bits-stray : (z o : ℤ) (bit n size : ℕ) → z ≡ (pos 8 *ℤ o) +ℤ pos bit → is_within size z n ≡ false → IsFrom (pos 0) (int_div_euclid (pos size -ℤ pos (bit + n)) (pos 8)) o → ⊥
bits-stray (pos c) o bit n size e t from =
    let lies = access-lies (pos size -ℤ pos (bit + n)) o from.1 in
    let yes = (Decides-and (int_le (pos 0) (pos c)) (nat_le (c + n) size) (Decides-int_le (pos 0) (pos c)) (Decides-leb (c + n) size)).1 (omega (arith, ints), omega (arith, ints, e, lies)) in
    cc
bits-stray (negsuc c) o bit n size e t from = absurd (omega (arith, ints, e, from.0))

pub accessed-kept : (m : List Object) (sizes : ℕ → ℕ) (bit n : ℕ) (a : BitAddress) (ps : List Offsets) → AreSizes sizes → bit < 8 → bit + n < 2 ^ 32 → All IsPointer ps → IsPlaceOf m sizes bit a ps
    → Covers (AreCellsAt m sizes bit n a) (accessed m a n) (accessed_in sizes bit n ps)
accessed-kept m sizes bit n a ps s small few all p =
    let limit = last_access sizes bit n in
    let alarms = alarm_if (exceed_limits limit ps) undefined.MemAccess in
    let left = within_limits limit ps in
    let cells = p.is_there.cells in
    let test = is_within (length cells) a.bit n in
    let piece = slice_range cells (unsigned_abs a.bit) (unsigned_abs a.bit + n) in
    let outcome : Bool → Result (List Cell) Kind = λ c. cond c (Ok piece) (Err undefined.MemAccess) in
    let is : accessed m a n ≡ outcome test = ap (λ c. bits_within c a.bit n) p.is_there.is_there in
    let sized : is_within (length cells) a.bit n ≡ is_within (sizes a.base) a.bit n = ap (λ (k : ℕ). is_within k a.bit n) p.is_there.size in
    let lim = access-limits sizes bit n s few in
    subst (λ r. Covers (AreCellsAt m sizes bit n a) r (accessed_in sizes bit n ps)) (sym is)
    (by-bool (λ c. test ≡ c → Covers (AreCellsAt m sizes bit n a) (outcome c) (accessed_in sizes bit n ps)) test
    (λ t. λ (e : test ≡ true).
    let there = in-limits limit ps a.base p.offset lim all p.is_one (bits-fit a.bit p.offset bit n (sizes a.base) p.is_at small (sym sized ∙ e)) in
    covers-raising (AreCellsAt m sizes bit n a) alarms (Ok piece) (left_places left) (
      left,
      ap (λ c. cond c None (Some left)) (some-pointers left a.base p.offset there),
      record { place = record { offset = p.offset; is_at = p.is_at; is_one = there; is_there = p.is_there }; cells_are = is ∙ ap outcome e },
    ))
    (λ t. λ (e : test ≡ false).
    covers-alarm (AreCellsAt m sizes bit n a) alarms undefined.MemAccess (left_places left)
    (alarm-there (exceed_limits limit ps) undefined.MemAccess (out-of-limits limit ps a.base p.offset lim all p.is_one (bits-stray a.bit p.offset bit n (sizes a.base) p.is_at (sym sized ∙ e)))))
    refl)

-- ---- places that lvalues designate

pub null-there : (v : Value) (x : ℤ) → HasNull v → Has v.ints x → has v.ints (pos 0) ≡ true
null-there v x h p = (Decides-member v.ints (pos 0) h.formed).1 (subst (Has v.ints) (h.only x p) p)

pub designated-kept : (m : List Object) (sizes : ℕ → ℕ) (x : Concrete) (v : Value) → HasNull v → IsMember m sizes x v → Covers (IsPlaceOf m sizes 0) (designated x) (designated_in v)
designated-kept m sizes (Number x) v h p =
    covers-alarm (IsPlaceOf m sizes 0) (alarm_if (has v.ints (pos 0)) undefined.MemAccess) undefined.MemAccess (left_places v.ptrs) (alarm-there (has v.ints (pos 0)) undefined.MemAccess (null-there v x h p))
designated-kept m sizes (Pointer b o) v h p =
    covers-raising (IsPlaceOf m sizes 0) (alarm_if (has v.ints (pos 0)) undefined.MemAccess) (Ok (record { base = b; bit = pos 8 *ℤ o })) (left_places v.ptrs)
    (v.ptrs, ap (λ c. cond c None (Some v.ptrs)) (some-pointers v.ptrs b o p.0), record { offset = o; is_at = omega (arith, ints); is_one = p.0; is_there = p.1 })

-- i elements of 8·k bits are i·k bytes
scaled : (i : ℤ) (size k : ℕ) → pos 0 ≤ℤ i → size ≡ 8 * k → i *ℤ pos size ≡ pos 8 *ℤ (i *ℤ pos k)
scaled (pos n) size k h e =
    let one : n * size ≡ n * (8 * k) = ap (λ (j : ℕ). n * j) e in
    let two : n * (8 * k) ≡ n * 8 * k = sym (mul_assoc n 8 k) in
    let three : n * 8 * k ≡ 8 * n * k = ap (λ (j : ℕ). j * k) (mul_comm n 8) in
    let four : 8 * n * k ≡ 8 * (n * k) = mul_assoc 8 n k in
    omega (arith, ints, one, two, three, four)
scaled (negsuc n) size k h e = absurd (omega (arith, ints, h))

pub by-left : {A : Type 0} (P : Left A Kind → Type 0) (b : Bool) (l r : Left A Kind) → b ≡ false → P r → P (cond b l r)
by-left P true l r e h = absurd (cc)
by-left P false l r e h = h

pub indexed-kept : (m : List Object) (sizes : ℕ → ℕ) (length size : ℕ) (a : BitAddress) (i : ℤ) (ps : List Offsets) (indexes : Ival) → CanIndex length size ps indexes
    → IsPlaceOf m sizes 0 a ps → Has indexes i → Covers (IsPlaceOf m sizes 0) (indexed length size a i) (indexed_in length (size / 8) ps indexes)
indexed-kept m sizes length size a i ps indexes h p q =
    let high = pos length -ℤ pos 1 in
    let left = met indexes (pos 0) high in
    let alarms = alarm_if (strays indexes (pos 0) high) undefined.IndexBound in
    let bounded : IsBounded high = record { above = omega (arith, ints, h.some); below = omega (arith, ints, h.some) } in
    let zero : IsBounded (pos 0) = record { above = omega (arith, ints); below = omega (arith, ints) } in
    let test = int_le (pos 0) i && int_lt i (pos length) in
    let one = one_number (pos (size / 8)) in
    let moved = moved_by (mul_of left one) ps in
    let at : BitAddress = record { base = a.base; bit = a.bit +ℤ (i *ℤ pos size) } in
    by-bool (λ c. test ≡ c → Covers (IsPlaceOf m sizes 0) (cond c (Ok at) (Err undefined.IndexBound)) (indexed_in length (size / 8) ps indexes)) test
    (λ t. λ (e : test ≡ true).
    let d = (Decides-and (int_le (pos 0) i) (int_lt i (pos length)) (Decides-int_le (pos 0) i) (Decides-int_lt i (pos length))).0 e in
    let there = met-keeps indexes (pos 0) high i (formed indexes h.numbers) zero bounded q (d.0, omega (arith, ints, d.1)) in
    let product : Has (mul_of left one) (i *ℤ pos (size / 8)) = mul-keeps left one h.met_numbers h.element i (pos (size / 8)) (i *ℤ pos (size / 8)) there (contains-here (pos (size / 8)) (pos (size / 8)) [] refl) refl in
    let here = moved-has (mul_of left one) ps a.base p.offset (i *ℤ pos (size / 8)) h.offsets h.distances p.is_one product in
    let sum = scaled i size (size / 8) d.0 h.bytes in
    let at-byte = p.is_at in
    covers-raising (IsPlaceOf m sizes 0) alarms (Ok at) (elements_at (size / 8) left ps)
    (by-left (λ l. Covers (IsPlaceOf m sizes 0) (Ok at) l) (is_empty left) nothing (left_places moved) (not-empty left i there) (
      moved,
      ap (λ c. cond c None (Some moved)) (some-pointers moved a.base (p.offset +ℤ (i *ℤ pos (size / 8))) here),
      record { offset = p.offset +ℤ (i *ℤ pos (size / 8)); is_at = omega (arith, ints, sum, at-byte); is_one = here; is_there = p.is_there },
    )))
    (λ t. λ (e : test ≡ false).
    covers-alarm (IsPlaceOf m sizes 0) alarms undefined.IndexBound (elements_at (size / 8) left ps)
    (alarm-there (strays indexes (pos 0) high) undefined.IndexBound (strays-outside indexes (pos 0) high i (formed indexes h.numbers) zero bounded q
    (λ from. let yes = (Decides-and (int_le (pos 0) i) (int_lt i (pos length)) (Decides-int_le (pos 0) i) (Decides-int_lt i (pos length))).1 (from.0, omega (arith, ints, from.1)) in cc))))
    refl

-- 6.5.2.3: the member of a struct that begins this many bits from its start
pub field-kept : (m : List Object) (sizes : ℕ → ℕ) (a : BitAddress) (ps : List Offsets) (offset : ℕ) → All IsOperandPointer ps → offset < 2 ^ 32 → IsPlaceOf m sizes 0 a ps
    → IsPlaceOf m sizes (offset % 8) (record { base = a.base; bit = a.bit +ℤ pos offset }) (moved_by (one_number (pos (offset / 8))) ps)
field-kept m sizes a ps offset all few p =
    let byte = offset / 8 in
    let whole = div-add-mod' offset 8 in
    let one : IsOperand (one_number (pos byte)) = one-operand (pos byte) record { above = omega (arith, ints); below = omega (arith, ints, few, whole) } in
    let at-byte = p.is_at in
    record {
      offset = p.offset +ℤ pos byte;
      is_at = omega (arith, ints, at-byte, whole);
      is_one = moved-has (one_number (pos byte)) ps a.base p.offset (pos byte) all one p.is_one (contains-here (pos byte) (pos byte) [] refl);
      is_there = p.is_there;
    }

-- a pointer minus a number is its sum with the negation
pub negation-scaled : (i : ℤ) (size : ℕ) → neg_ℤ (i *ℤ pos size) ≡ neg_ℤ i *ℤ pos size
negation-scaled (pos zero) size = omega (arith, ints)
negation-scaled (pos (suc n)) size = omega (arith, ints)
negation-scaled (negsuc n) size = omega (arith, ints)
