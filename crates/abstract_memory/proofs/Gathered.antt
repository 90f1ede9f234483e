-- What n single bits show together is a member of the value that is gathered from them.
use Rattle.std.proofs.Common.{ℕ, zero, suc, ◌+◌, ◌*◌, ◌/◌, ◌^◌, ◌<◌, ◌≤◌, ◌≡◌, ◌≢◌, ◌⊎◌, inl, inr, refl, sym, ap, subst, ◌∙◌, Bool, true, false, cond, List, [], ◌∷◌, ℤ, pos, negsuc, ◌-ℤ◌, ◌≤ℤ◌, Option, Some, None, arith}
use Rattle.std.specs.Prelude.{nat_eq, is_some, if◌then◌else◌}
use Rattle.std.specs.Int.{bit_at}
use Rattle.std.specs.List.{All, filter_map, fold, cons_option, range_with_len}
use Rattle.std.proofs.lemmas.Int.{ints}
use Rattle.std.proofs.Math.Nat.{pow-le-pow_right}
use Rattle.std.proofs.lemmas.Grind.{common_steps}
use Rattle.std.proofs.lemmas.List.Elements.{All-head, All-tail, All-cons, All-nil}
use Rattle.std.proofs.lemmas.Nat.Bits.{bit_at_lowest, bit_at-suc}
use Rattle.c_memory.specs.Cells.{bit_of, number_of, HoldsNumber}
use Rattle.c_memory.specs.declared.cells.Cell.{Cell}
use Rattle.c_memory.specs.declared.cells.Cell.TheVariants.{Uninit, Dangling, Bit, Ptr}
use Rattle.ival.proofs.WellFormed.{norm-well_formed}
use Rattle.ival.specs.Forms.{IsBounded, Has, IsWellFormed, Within, norm, has, is_empty, only_number}
use Rattle.ival.specs.Meet.{meet_of}
use Rattle.ival.specs.declared.forms.Ival.{Ival}
use Rattle.ival.specs.declared.forms.Ival.TheVariants.{Empty, All as Every}
use Rattle.ival.proofs.BitMembers.{all-between}
use Rattle.ival.proofs.ComparisonMembers.{only-member}
use Rattle.ival.proofs.MeetMembers.{meet-keeps}
use Rattle.ival.proofs.Membership.{Decides-member}
use Rattle.avalue.specs.Pointers.{Pointer, IsPointer, ArePointers, AreRising, AreInObject, offsets_at}
use Rattle.avalue.specs.Members.{Member, uninit, dangling, number, pointer, HasMember}
use Rattle.avalue.specs.Values.{IsWellFormedValue, PointsIntoObjects}
use Rattle.avalue.specs.declared.value.Value.{Value}
use Rattle.avalue.proofs.Ends.{formed_of}
use Rattle.abstract_memory.specs.Values.{all_below, any_below, one_number}
use Rattle.abstract_memory.specs.Reads.{gathered, gathered_ints, shared_offsets, shared_pointers, some_offsets}
use Rattle.abstract_memory.specs.Members.{Shows, Sees}
use Rattle.abstract_memory.proofs.Tests.{no_true, at_all, any_at, none_at, eq_of, eq_yes, bool_cases}
use Rattle.abstract_memory.proofs.Loose.{Single, has_one, not_empty}
use Rattle.abstract_memory.proofs.Formed.{IsBitValue, one_formed}
use Rattle.abstract_memory.proofs.Meets.{within_member, within_ends, meet_formed, meet_within}

-- ---- what one cell says of the value of its bit

abbrev cell_bit : Cell → Bool
cell_bit Uninit = false
cell_bit Dangling = false
cell_bit (Bit b) = b
cell_bit (Ptr b o k) = false

abbrev pub cell_base : Cell → ℕ
cell_base Uninit = 0
cell_base Dangling = 0
cell_base (Bit x) = 0
cell_base (Ptr b o k) = b

abbrev pub cell_offset : Cell → ℤ
cell_offset Uninit = pos 0
cell_offset Dangling = pos 0
cell_offset (Bit x) = pos 0
cell_offset (Ptr b o k) = o

-- 0 uninitialised, 1 dangling, 2 a bit, 3 a bit of a pointer
abbrev pub cell_kind : Cell → ℕ
cell_kind Uninit = 0
cell_kind Dangling = 1
cell_kind (Bit x) = 2
cell_kind (Ptr b o k) = 3

pub differ : (c d : Cell) (n m : ℕ) → c ≡ d → cell_kind c ≡ n → cell_kind d ≡ m → n ≢ m → ⊥
differ c d n m e h k z = z (sym h ∙ ap cell_kind e ∙ k)

pub of_uninit : (v : Value) (c : Cell) (u : Member) → HasMember v u → Shows 1 u 0 c → c ≡ Uninit → v.uninit ≡ true
unfolding Shows
of_uninit v c uninit m h e = m
of_uninit v c dangling m h e = absurd (differ Dangling Uninit 1 0 (sym h ∙ e) refl refl (λ z. omega (arith, z)))
of_uninit v c (number x) m h e = absurd (differ (Bit (bit_of x 0)) Uninit 2 0 (sym h ∙ e) refl refl (λ z. omega (arith, z)))
of_uninit v c (pointer b o) m h e = absurd (differ (Ptr b o h.0) Uninit 3 0 (sym h.2 ∙ e) refl refl (λ z. omega (arith, z)))

pub of_dangling : (v : Value) (c : Cell) (u : Member) → HasMember v u → Shows 1 u 0 c → c ≡ Dangling → v.dangling ≡ true
unfolding Shows
of_dangling v c uninit m h e = absurd (differ Uninit Dangling 0 1 (sym h ∙ e) refl refl (λ z. omega (arith, z)))
of_dangling v c dangling m h e = m
of_dangling v c (number x) m h e = absurd (differ (Bit (bit_of x 0)) Dangling 2 1 (sym h ∙ e) refl refl (λ z. omega (arith, z)))
of_dangling v c (pointer b o) m h e = absurd (differ (Ptr b o h.0) Dangling 3 1 (sym h.2 ∙ e) refl refl (λ z. omega (arith, z)))

of_bit : (v : Value) (c : Cell) (u : Member) (b : Bool) → HasMember v u → Shows 1 u 0 c → c ≡ Bit b → (x : ℤ) × Has v.ints x × (bit_of x 0 ≡ b)
unfolding Shows
of_bit v c uninit b m h e = absurd (differ Uninit (Bit b) 0 2 (sym h ∙ e) refl refl (λ z. omega (arith, z)))
of_bit v c dangling b m h e = absurd (differ Dangling (Bit b) 1 2 (sym h ∙ e) refl refl (λ z. omega (arith, z)))
of_bit v c (number x) b m h e = (x, m, ap cell_bit (sym h ∙ e))
of_bit v c (pointer p o) b m h e = absurd (differ (Ptr p o h.0) (Bit b) 3 2 (sym h.2 ∙ e) refl refl (λ z. omega (arith, z)))

pub of_ptr : (v : Value) (c : Cell) (u : Member) (p : ℕ) (o : ℤ) (k : ℕ) → HasMember v u → Shows 1 u 0 c → c ≡ Ptr p o k → HasMember v (pointer p o)
unfolding Shows
of_ptr v c uninit p o k m h e = absurd (differ Uninit (Ptr p o k) 0 3 (sym h ∙ e) refl refl (λ z. omega (arith, z)))
of_ptr v c dangling p o k m h e = absurd (differ Dangling (Ptr p o k) 1 3 (sym h ∙ e) refl refl (λ z. omega (arith, z)))
of_ptr v c (number x) p o k m h e = absurd (differ (Bit (bit_of x 0)) (Ptr p o k) 2 3 (sym h ∙ e) refl refl (λ z. omega (arith, z)))
of_ptr v c (pointer q r) p o k m h e =
    let same : Ptr q r h.0 ≡ Ptr p o k = sym h.2 ∙ e in
    subst (λ (t : ℕ). HasMember v (pointer t o)) (ap cell_base same) (subst (λ (t : ℤ). HasMember v (pointer q t)) (ap cell_offset same) m)

-- ---- a number made of bits has these bits

abbrev digit : Bool → ℕ
digit b = cond b 1 0

digit_small : (b : Bool) → digit b < 2
digit_small true = omega arith
digit_small false = omega arith

digit_bit : (b : Bool) → nat_eq (digit b) 1 ≡ b
digit_bit true = refl
digit_bit false = refl

pub digits : (n : ℕ) (b : ℕ → Bool) → (number_of b n < 2 ^ n) × ((j : ℕ) → j < n → bit_at (number_of b n) j ≡ digit (b j))
unfolding number_of
digits zero b = (omega arith, λ (j : ℕ) (l : j < 0). absurd (omega (arith, l)))
digits (suc n) b =
    let low : digit (b 0) < 2 = digit_small (b 0) in
    let ih = digits n (λ j. b (suc j)) in
    let two : 2 ^ suc n ≡ 2 ^ n * 2 = grind (arith, common_steps) in
    let less : number_of (λ j. b (suc j)) n < 2 ^ n = ih.0 in
    (omega (arith, low, two, less), λ (j : ℕ) (l : j < suc n). place n b low ih.1 j l)
  where
    place : (n : ℕ) (b : ℕ → Bool) → digit (b 0) < 2 → ((j : ℕ) → j < n → bit_at (number_of (λ j. b (suc j)) n) j ≡ digit (b (suc j))) → (j : ℕ) → j < suc n
        → bit_at (digit (b 0) + 2 * number_of (λ j. b (suc j)) n) j ≡ digit (b j)
    place n b low h zero l = bit_at_lowest (digit (b 0) + 2 * number_of (λ j. b (suc j)) n) ∙ omega (arith, low)
    place n b low h (suc j) l =
        let half : (digit (b 0) + 2 * number_of (λ j. b (suc j)) n) / 2 ≡ number_of (λ j. b (suc j)) n = omega (arith, low) in
        bit_at-suc (digit (b 0) + 2 * number_of (λ j. b (suc j)) n) j ∙ ap (λ (t : ℕ). bit_at t j) half ∙ h j (omega (arith, l))

pub number_bits : (n : ℕ) (b : ℕ → Bool) (j : ℕ) → j < n → bit_of (pos (number_of b n)) j ≡ b j
number_bits n b j l = ap (λ (t : ℕ). nat_eq t 1) ((digits n b).1 j l) ∙ digit_bit (b j)

pub number_high : (n : ℕ) (b : ℕ → Bool) → pos (number_of b n) ≤ℤ (pos (2 ^ n) -ℤ pos 1)
number_high n b = let d = (digits n b).0 in omega (arith, ints, d)

-- ---- numbers

-- the one number of a bit
known_bit : (i : Ival) (x : ℤ) → IsWellFormed i → Within (pos 0) (pos (2 ^ 1) -ℤ pos 1) i → Has i x → is_some (only_number i) ≡ true → has i (pos 1) ≡ bit_of x 0
known_bit i x w h m e = by_only (only_number i) refl e
  where
    in_bounds : (pos 0 ≤ℤ x) × (x ≤ℤ (pos (2 ^ 1) -ℤ pos 1))
    in_bounds = within_member (pos 0) (pos (2 ^ 1) -ℤ pos 1) i x h m

    of_number : (y : ℤ) → y ≡ x → (pos 0 ≤ℤ y) × (y ≤ℤ (pos (2 ^ 1) -ℤ pos 1)) → only_number i ≡ Some x → has i (pos 1) ≡ bit_of x 0
    of_number (pos zero) z b o = bool_cases (has i (pos 1) ≡ bit_of x 0) (has i (pos 1))
        (λ t. absurd (clash_one (only-member i (pos 1) x ((Decides-member i (pos 1) w).0 t) o ∙ sym z)))
        (λ t. t ∙ ap (λ y. bit_of y 0) z)
      where
        clash_one : pos 1 ≡ pos zero → ⊥
        clash_one e = omega (arith, ints, e)
    of_number (pos (suc zero)) z b o = (Decides-member i (pos 1) w).1 (subst (λ y. Has i y) (sym z) m) ∙ ap (λ y. bit_of y 0) z
    of_number (pos (suc (suc n))) z b o = absurd (omega (arith, ints, b.1))
    of_number (negsuc n) z b o = absurd (omega (arith, ints, b.0))

    by_only : (o : Option ℤ) → only_number i ≡ o → is_some o ≡ true → has i (pos 1) ≡ bit_of x 0
    by_only None o t = absurd (no_true t)
    by_only (Some y) o t = let z = only-member i x y m o in of_number x refl in_bounds (o ∙ ap Some (sym z))

module _ (v : ℕ → Value) (n : ℕ) (c : ℕ → Cell) (some : 0 < n) (shown : (j : ℕ) → j < n → Single (v j) (c j)) (bits : (j : ℕ) → j < n → IsBitValue (v j)) where
  bit_in : (x : ℤ) → HoldsNumber n x c → (j : ℕ) → j < n → (y : ℤ) × Has (v j).ints y × (bit_of y 0 ≡ bit_of x j)
  bit_in x h j l = let s = shown j l in of_bit (v j) (c j) s.member (bit_of x j) s.is_in s.shows (h j l)

  from_bits : (x : ℤ) → HoldsNumber n x c → (b : Bool) → all_below n (λ j. is_some (only_number (v j).ints)) ≡ b
      → (y : ℤ) × Has (if b then one_number (pos (number_of (λ j. has (v j).ints (pos 1)) n)) else norm (pos 0) (pos (2 ^ n) -ℤ pos 1) (pos 0) 1) y × HoldsNumber n y c
  from_bits x h true e = (
    pos (number_of (λ j. has (v j).ints (pos 1)) n),
    has_one (pos (number_of (λ j. has (v j).ints (pos 1)) n)),
    λ (j : ℕ) (l : j < n).
        (let g = bit_in x h j l in
        let k = known_bit (v j).ints g.0 (bits j l).formed.ints (bits j l).numbers g.1 (at_all n (λ i. is_some (only_number (v i).ints)) e j l) in
        h j l ∙ ap Bit (sym (number_bits n (λ i. has (v i).ints (pos 1)) j l ∙ k ∙ g.2))),
  )
  from_bits x h false e = (
    pos (number_of (bit_of x) n),
    all-between (pos 0) (pos (2 ^ n) -ℤ pos 1) (pos (number_of (bit_of x) n)) (omega (arith, ints)) (number_high n (bit_of x)),
    λ (j : ℕ) (l : j < n). h j l ∙ ap Bit (sym (number_bits n (bit_of x) j l)),
  )

  number_kept : (x : ℤ) → HoldsNumber n x c → (y : ℤ) × Has (gathered_ints (λ j. (v j).ints) n) y × HoldsNumber n y c
  unfolding gathered_ints
  number_kept x h =
      let f = none_at n (λ j. is_empty (v j).ints) (λ (j : ℕ) (l : j < n). let g = bit_in x h j l in some_not_empty (v j).ints g.0 g.1) in
      let r = from_bits x h (all_below n (λ j. is_some (only_number (v j).ints))) refl in
      (r.0, rw f r.1, r.2)
    where
      some_not_empty : (i : Ival) (y : ℤ) → Has i y → is_empty i ≡ false
      some_not_empty i y m = bool_cases (is_empty i ≡ false) (is_empty i) (λ e. absurd (not_empty i y e m)) (λ e. e)

-- ---- pointers

offsets_formed : (ps : List Pointer) (base : ℕ) → All IsPointer ps → IsWellFormed (offsets_at ps base)
offsets_formed [] base a = tt
offsets_formed (p ∷ ps) base a = elim (nat_eq p.0 base) as (λ b. IsWellFormed (cond b p.1 (offsets_at ps base))) [
  | true ↦ formed_of p.1 (All-head IsPointer p ps a)
  | false ↦ offsets_formed ps base (All-tail IsPointer p ps a)
]

offsets_within : (ps : List Pointer) (base : ℕ) → All (λ p. AreInObject p.1) ps → AreInObject (offsets_at ps base)
offsets_within [] base a = tt
offsets_within (p ∷ ps) base a = elim (nat_eq p.0 base) as (λ b. AreInObject (cond b p.1 (offsets_at ps base))) [
  | true ↦ All-head (λ q. AreInObject q.1) p ps a
  | false ↦ offsets_within ps base (All-tail (λ q. AreInObject q.1) p ps a)
]

abbrev shared_from : (ℕ → List Pointer) → ℕ → ℕ → ℕ → Ival → Ival
shared_from b base a n acc = fold (λ shared j. meet_of shared (offsets_at (b j) base)) acc (range_with_len a n)

shared_has : (b : ℕ → List Pointer) (base : ℕ) (z : ℤ) (a n : ℕ) (acc : Ival) → IsWellFormed acc → Has acc z
    → ((j : ℕ) → a ≤ j → j < a + n → All IsPointer (b j) × Has (offsets_at (b j) base) z) → Has (shared_from b base a n acc) z
shared_has b base z a zero acc w m h = m
shared_has b base z a (suc n) acc w m h =
    let g = h a (omega arith) (omega arith) in let f = offsets_formed (b a) base g.0 in
    shared_has b base z (a + 1) n (meet_of acc (offsets_at (b a) base)) (meet_formed acc (offsets_at (b a) base) w f) (meet-keeps acc (offsets_at (b a) base) w f z m g.1)
    (λ (j : ℕ) (k : a + 1 ≤ j) (l : j < a + 1 + n). h j (omega (arith, k)) (omega (arith, l)))

shared_formed : (b : ℕ → List Pointer) (base a n : ℕ) (acc : Ival) → IsWellFormed acc → ((j : ℕ) → a ≤ j → j < a + n → All IsPointer (b j)) → IsWellFormed (shared_from b base a n acc)
shared_formed b base a zero acc w h = w
shared_formed b base a (suc n) acc w h =
    let f = offsets_formed (b a) base (h a (omega arith) (omega arith)) in
    shared_formed b base (a + 1) n (meet_of acc (offsets_at (b a) base)) (meet_formed acc (offsets_at (b a) base) w f) (λ (j : ℕ) (k : a + 1 ≤ j) (l : j < a + 1 + n). h j (omega (arith, k)) (omega (arith, l)))

shared_within : (b : ℕ → List Pointer) (base a n : ℕ) (acc : Ival) → 0 < n
    → ((j : ℕ) → a ≤ j → j < a + n → All IsPointer (b j) × All (λ p. AreInObject p.1) (b j)) → AreInObject (shared_from b base a n acc)
shared_within b base a zero acc l h = absurd (omega (arith, l))
shared_within b base a (suc n) acc l h =
    let g = h a (omega arith) (omega arith) in
    let w = meet_within (pos 0) (pos (2 ^ 21)) acc (offsets_at (b a) base) (offsets_formed (b a) base g.0) (offsets_within (b a) base g.1) in
    elim (none_or_some n) [
      | inl e ↦ subst (λ (k : ℕ). AreInObject (shared_from b base (a + 1) k (meet_of acc (offsets_at (b a) base)))) (sym e) w
      | inr k ↦ shared_within b base (a + 1) n (meet_of acc (offsets_at (b a) base)) k (λ (j : ℕ) (i : a + 1 ≤ j) (q : j < a + 1 + n). h j (omega (arith, i)) (omega (arith, q)))
    ]
  where
    none_or_some : (n : ℕ) → (n ≡ 0) ⊎ (0 < n)
    none_or_some n = grind arith

-- ---- the pointers of the first bit, each with the offsets that f gives its base, where there are any

abbrev picked : (ℕ → Ival) → List Pointer → List Pointer
picked f ps = filter_map (λ p. some_offsets p.0 (f p.0)) ps

picked_has : (f : ℕ → Ival) (ps : List Pointer) (base : ℕ) (z : ℤ) → Has (offsets_at ps base) z → Has (f base) z → Has (offsets_at (picked f ps) base) z
picked_has f [] base z h k = absurd h
picked_has f (p ∷ ps) base z h k =
    elim (nat_eq p.0 base) as (λ (b : Bool). nat_eq p.0 base ≡ b → Has (cond b p.1 (offsets_at ps base)) z → Has (offsets_at (cons_option (some_offsets p.0 (f p.0)) (picked f ps)) base) z) [
      | true ↦ λ q m.
          (let e = eq_of p.0 base q in
          let g : Has (f p.0) z = subst (λ (t : ℕ). Has (f t) z) (sym e) k in
          bool_cases (Has (offsets_at (cons_option (some_offsets p.0 (f p.0)) (picked f ps)) base) z) (is_empty (f p.0))
          (λ t. absurd (not_empty (f p.0) z t g)) (λ t. rw t (rw q g)))
      | false ↦ λ q m.
          bool_cases (Has (offsets_at (cons_option (some_offsets p.0 (f p.0)) (picked f ps)) base) z) (is_empty (f p.0))
          (λ t. rw t (picked_has f ps base z m k)) (λ t. rw t (rw q (picked_has f ps base z m k)))
    ] refl h

picked_all : (P : Pointer → Type 0) (f : ℕ → Ival) (ps : List Pointer) → ((base : ℕ) → is_empty (f base) ≡ false → P (base, f base)) → All P (picked f ps)
picked_all P f [] h = All-nil P
picked_all P f (p ∷ ps) h = bool_cases (All P (cons_option (some_offsets p.0 (f p.0)) (picked f ps))) (is_empty (f p.0))
    (λ t. rw t (picked_all P f ps h)) (λ t. rw t (All-cons P (p.0, f p.0) (picked f ps) (h p.0 t) (picked_all P f ps h)))

skip : (o p : Pointer) (ps : List Pointer) → AreRising (o ∷ p ∷ ps) → AreRising (o ∷ ps)
skip o p [] r = tt
skip o p (q ∷ qs) r = (omega (arith, r.0, r.1.0), r.1.1)

picked_behind : (f : ℕ → Ival) (o : Pointer) (ps : List Pointer) → AreRising (o ∷ ps) → AreRising (o ∷ picked f ps)
picked_behind f o [] r = tt
picked_behind f o (p ∷ ps) r = bool_cases (AreRising (o ∷ cons_option (some_offsets p.0 (f p.0)) (picked f ps))) (is_empty (f p.0))
    (λ t. rw t (picked_behind f o ps (skip o p ps r)))
    (λ t. rw t (r.0, picked_behind f (p.0, f p.0) ps (same_base (p.0, f p.0) p ps refl r.1)))
  where
    same_base : (o p : Pointer) (ps : List Pointer) → o.0 ≡ p.0 → AreRising (p ∷ ps) → AreRising (o ∷ ps)
    same_base o p [] e r = tt
    same_base o p (q ∷ qs) e r = (omega (arith, e, r.0), r.1)

picked_rising : (f : ℕ → Ival) (ps : List Pointer) → AreRising ps → AreRising (picked f ps)
picked_rising f [] r = tt
picked_rising f (p ∷ ps) r = bool_cases (AreRising (cons_option (some_offsets p.0 (f p.0)) (picked f ps))) (is_empty (f p.0))
    (λ t. rw t (picked_rising f ps (rest p ps r)))
    (λ t. rw t (picked_behind f (p.0, f p.0) ps (same_base (p.0, f p.0) p ps refl r)))
  where
    rest : (p : Pointer) (ps : List Pointer) → AreRising (p ∷ ps) → AreRising ps
    rest p [] r = tt
    rest p (q ∷ qs) r = r.1

    same_base : (o p : Pointer) (ps : List Pointer) → o.0 ≡ p.0 → AreRising (p ∷ ps) → AreRising (o ∷ ps)
    same_base o p [] e r = tt
    same_base o p (q ∷ qs) e r = (omega (arith, e, r.0), r.1)

pub pow_64 : (n : ℕ) → n ≤ 64 → 2 ^ n ≤ 2 ^ 64
pow_64 n l = pow-le-pow_right (omega arith) l

bits_bounded : (n : ℕ) (b : ℕ → Bool) → n ≤ 64 → IsBounded (pos (number_of b n))
bits_bounded n b few = let d = (digits n b).0 in let p = pow_64 n few in record { above = omega (arith, ints); below = omega (arith, ints, d, p) }

pub range_formed : (n : ℕ) → n ≤ 64 → IsWellFormed (norm (pos 0) (pos (2 ^ n) -ℤ pos 1) (pos 0) 1)
range_formed n few =
    let p = pow_64 n few in
    norm-well_formed (pos 0) (pos (2 ^ n) -ℤ pos 1) (pos 0) 1 (record { above = omega (arith, ints); below = omega (arith, ints) }) (record { above = omega (arith, ints); below = omega (arith, ints, p) })

module _ (v : ℕ → Value) (n : ℕ) (some : 0 < n) (bits : (j : ℕ) → j < n → IsBitValue (v j)) where
  pointers_of : (j : ℕ) → 0 ≤ j → j < 0 + n → All IsPointer (v j).ptrs
  pointers_of j a l = (bits j (omega (arith, l))).formed.ptrs.each

  shared_is : (base : ℕ) → IsWellFormed (shared_offsets (λ j. (v j).ptrs) n base) × AreInObject (shared_offsets (λ j. (v j).ptrs) n base)
  shared_is base = (
    shared_formed (λ j. (v j).ptrs) base 0 n Every tt pointers_of,
    shared_within (λ j. (v j).ptrs) base 0 n Every some (λ (j : ℕ) (a : 0 ≤ j) (l : j < 0 + n). (pointers_of j a l, (bits j (omega (arith, l))).offsets)),
  )

  shared_formed_pointers : ArePointers (shared_pointers (λ j. (v j).ptrs) n) × All (λ p. AreInObject p.1) (shared_pointers (λ j. (v j).ptrs) n)
  unfolding shared_pointers
  shared_formed_pointers = (
    record {
      rising = picked_rising (shared_offsets (λ j. (v j).ptrs) n) (v 0).ptrs (bits 0 some).formed.ptrs.rising;
      each = picked_all IsPointer (shared_offsets (λ j. (v j).ptrs) n) (v 0).ptrs (λ base e. let s = shared_is base in within_ends (pos 0) (pos (2 ^ 21)) (shared_offsets (λ j. (v j).ptrs) n base) s.1 s.0 e);
    },
    picked_all (λ p. AreInObject p.1) (shared_offsets (λ j. (v j).ptrs) n) (v 0).ptrs (λ base e. (shared_is base).1),
  )

  ints_formed : n ≤ 64 → IsWellFormed (gathered_ints (λ j. (v j).ints) n)
  unfolding gathered_ints
  ints_formed few = elim (any_below n (λ j. is_empty (v j).ints)) as (λ (b : Bool). IsWellFormed (if b then Empty
      else (if all_below n (λ j. is_some (only_number (v j).ints)) then one_number (pos (number_of (λ j. has (v j).ints (pos 1)) n)) else norm (pos 0) (pos (2 ^ n) -ℤ pos 1) (pos 0) 1))) [
        | true ↦ tt
        | false ↦ elim (all_below n (λ j. is_some (only_number (v j).ints))) as (λ (b : Bool). IsWellFormed (if b then one_number (pos (number_of (λ j. has (v j).ints (pos 1)) n)) else norm (pos 0) (pos (2 ^ n) -ℤ pos 1) (pos 0) 1)) [
          | true ↦ one_formed (pos (number_of (λ j. has (v j).ints (pos 1)) n)) (bits_bounded n (λ j. has (v j).ints (pos 1)) few)
          | false ↦ range_formed n few
        ]
      ]

  pub gathered_formed : n ≤ 64 → IsWellFormedValue (gathered v n) × PointsIntoObjects (gathered v n)
  unfolding gathered
  gathered_formed few = elim (nat_eq n 64) as (λ (b : Bool). IsWellFormedValue (record {
    uninit = any_below n (λ j. (v j).uninit);
    dangling = any_below n (λ j. (v j).dangling);
    ints = gathered_ints (λ j. (v j).ints) n;
    ptrs = if b then shared_pointers (λ j. (v j).ptrs) n else [];
  }) × All (λ p. AreInObject p.1) (if b then shared_pointers (λ j. (v j).ptrs) n else [])) [
    | true ↦ (record { ints = ints_formed few; ptrs = shared_formed_pointers.0 }, shared_formed_pointers.1)
    | false ↦ (record { ints = ints_formed few; ptrs = record { rising = tt; each = All-nil IsPointer } }, All-nil (λ p. AreInObject p.1))
  ]

module _ (v : ℕ → Value) (n : ℕ) (c : ℕ → Cell) (some : 0 < n) (shown : (j : ℕ) → j < n → Single (v j) (c j)) (bits : (j : ℕ) → j < n → IsBitValue (v j)) where
  pointer_kept : (b : ℕ) (o : ℤ) → n ≡ 64 → ((j : ℕ) → j < n → c j ≡ Ptr b o j) → Has (offsets_at (shared_pointers (λ j. (v j).ptrs) n) b) o
  unfolding shared_pointers
  pointer_kept b o e h =
      let at : (j : ℕ) → j < n → HasMember (v j) (pointer b o) = λ (j : ℕ) (l : j < n). (let s = shown j l in of_ptr (v j) (c j) s.member b o j s.is_in s.shows (h j l)) in
      picked_has (shared_offsets (λ j. (v j).ptrs) n) (v 0).ptrs b o (at 0 some)
      (shared_has (λ j. (v j).ptrs) b o 0 n Every tt tt (λ (j : ℕ) (a : 0 ≤ j) (l : j < 0 + n). ((bits j (omega (arith, l))).formed.ptrs.each, at j (omega (arith, l)))))

  pub gathered_keeps : (u : Member) → Sees n u c → (w : Member) × HasMember (gathered v n) w × Sees n w c
  unfolding gathered Sees
  gathered_keeps uninit h =
      let s = shown h.0 h.1 in (uninit, any_at n (λ j. (v j).uninit) h.0 h.1 (of_uninit (v h.0) (c h.0) s.member s.is_in s.shows h.2), h)
  gathered_keeps dangling h =
      let s = shown h.0 h.1 in (dangling, any_at n (λ j. (v j).dangling) h.0 h.1 (of_dangling (v h.0) (c h.0) s.member s.is_in s.shows h.2), h)
  gathered_keeps (number x) h = let r = number_kept v n c some shown bits x h in (number r.0, r.1, r.2)
  gathered_keeps (pointer b o) h = let w : nat_eq n 64 ≡ true = eq_yes n 64 h.0 in (pointer b o, rw w (pointer_kept b o h.0 h.1), h)
