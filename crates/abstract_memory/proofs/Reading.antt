-- Reads keep what the cells show.
use Rattle.std.proofs.Common.{ℕ, zero, suc, ◌+◌, ◌*◌, ◌/◌, ◌%◌, ◌^◌, ◌<◌, ◌≤◌, ◌≡◌, ◌≢◌, ◌⊎◌, inl, inr, refl, sym, ap, subst, ◌∙◌, Bool, true, false, List, [], ◌∷◌, length, ℤ, pos, ◌-ℤ◌, Option, Some, None, arith}
use Rattle.std.specs.Prelude.{◌&&◌, nat_eq, if◌then◌else◌}
use Rattle.std.specs.List.{All, Contains, fold, range_with_len}
use Rattle.std.proofs.lemmas.Int.{ints}
use Rattle.std.proofs.lemmas.List.Elements.{All-head, All-tail, All-nil, All-contains}
use Rattle.c_memory.specs.Cells.{bit_of, number_of}
use Rattle.c_memory.specs.declared.cells.Cell.{Cell}
use Rattle.c_memory.specs.declared.cells.Cell.TheVariants.{Uninit, Dangling, Bit, Ptr}
use Rattle.ival.specs.Forms.{Has, only_number}
use Rattle.ival.specs.declared.forms.Ival.{Ival}
use Rattle.ival.specs.declared.forms.Ival.TheVariants.{Empty}
use Rattle.avalue.specs.Pointers.{Pointer, IsPointer, offsets_at, merged}
use Rattle.ival.specs.SetOperations.{join_of}
use Rattle.ival.proofs.BitMembers.{all-between}
use Rattle.avalue.specs.Members.{Member, uninit, dangling, number, pointer, HasMember}
use Rattle.avalue.specs.Values.{IsWellFormedValue}
use Rattle.avalue.specs.declared.value.Value.{Value}
use Rattle.abstract_memory.specs.Values.{all_below, bit_ints, bit_number, is_plain, nothing, of_ints, one_number, join_values, any_below, loose, loose_by}
use Rattle.abstract_memory.specs.Objects.{Entry, Object, IsEntry, IsObject, entry_at, loosened, single, lifts}
use Rattle.abstract_memory.specs.Reads.{is_piece, pointers_among, first_bit, reach, Read, IsAccess, gathered, points, read, read_at, read_each, read_groups, read_bits, read_nothing, join_reads, offsets_of, is_few, is_regular}
use Rattle.abstract_memory.specs.Members.{Shows, Shown, HasCells, Sees}
use Rattle.abstract_memory.specs.Kept.{ReadAtKeeps, ReadKeeps}
use Rattle.std.proofs.Math.Nat.{le-div_iff_mul-le}
use Rattle.ival.specs.Forms.{step}
use Rattle.ival.proofs.Keeping.{divides_trans, divides_from_rem}
use Rattle.abstract_memory.proofs.Offsets.{offset_listed, offsets_fit, reached}
use Rattle.abstract_memory.proofs.Tests.{any_at, eq_yes, no_true, at_all, both_true, either_true, eq_of}
use Rattle.abstract_memory.proofs.Loose.{Single}
use Rattle.abstract_memory.proofs.Groups.{loosened_single, lifted}
use Rattle.abstract_memory.proofs.Formed.{loosened_bit}
use Rattle.abstract_memory.proofs.Values.{join_formed, join_has}
use Rattle.abstract_memory.proofs.Gathered.{differ, gathered_formed, gathered_keeps, number_bits, number_high, of_dangling, of_ptr, of_uninit}

-- a member of a whole group is what is read of its cells
pub whole_sees : (n : ℕ) (v : Value) (c : ℕ → Cell) → 0 < n → (w : Member) → HasMember v w → ((j : ℕ) → j < n → Shows n w j (c j)) → (u : Member) → Sees n u c → (t : Member) × HasMember v t × Sees n t c
unfolding Shows Sees
whole_sees n v c p uninit m s uninit h = (uninit, m, h)
whole_sees n v c p uninit m s dangling h = absurd (differ Uninit Dangling 0 1 (sym (s h.0 h.1) ∙ h.2) refl refl (λ z. omega (arith, z)))
whole_sees n v c p uninit m s (number x) h = absurd (differ Uninit (Bit (bit_of x 0)) 0 2 (sym (s 0 p) ∙ h 0 p) refl refl (λ z. omega (arith, z)))
whole_sees n v c p uninit m s (pointer b o) h = absurd (differ Uninit (Ptr b o 0) 0 3 (sym (s 0 p) ∙ h.1 0 p) refl refl (λ z. omega (arith, z)))
whole_sees n v c p dangling m s uninit h = absurd (differ Dangling Uninit 1 0 (sym (s h.0 h.1) ∙ h.2) refl refl (λ z. omega (arith, z)))
whole_sees n v c p dangling m s dangling h = (dangling, m, h)
whole_sees n v c p dangling m s (number x) h = absurd (differ Dangling (Bit (bit_of x 0)) 1 2 (sym (s 0 p) ∙ h 0 p) refl refl (λ z. omega (arith, z)))
whole_sees n v c p dangling m s (pointer b o) h = absurd (differ Dangling (Ptr b o 0) 1 3 (sym (s 0 p) ∙ h.1 0 p) refl refl (λ z. omega (arith, z)))
whole_sees n v c p (number x) m s uninit h = absurd (differ (Bit (bit_of x h.0)) Uninit 2 0 (sym (s h.0 h.1) ∙ h.2) refl refl (λ z. omega (arith, z)))
whole_sees n v c p (number x) m s dangling h = absurd (differ (Bit (bit_of x h.0)) Dangling 2 1 (sym (s h.0 h.1) ∙ h.2) refl refl (λ z. omega (arith, z)))
whole_sees n v c p (number x) m s (number y) h = (number x, m, s)
whole_sees n v c p (number x) m s (pointer b o) h = absurd (differ (Bit (bit_of x 0)) (Ptr b o 0) 2 3 (sym (s 0 p) ∙ h.1 0 p) refl refl (λ z. omega (arith, z)))
whole_sees n v c p (pointer b o) m s uninit h = absurd (differ (Ptr b o (s h.0 h.1).0) Uninit 3 0 (sym (s h.0 h.1).2 ∙ h.2) refl refl (λ z. omega (arith, z)))
whole_sees n v c p (pointer b o) m s dangling h = absurd (differ (Ptr b o (s h.0 h.1).0) Dangling 3 1 (sym (s h.0 h.1).2 ∙ h.2) refl refl (λ z. omega (arith, z)))
whole_sees n v c p (pointer b o) m s (number x) h = absurd (differ (Ptr b o (s 0 p).0) (Bit (bit_of x 0)) 3 2 (sym (s 0 p).2 ∙ h 0 p) refl refl (λ z. omega (arith, z)))
whole_sees n v c p (pointer b o) m s (pointer q r) h =
    let w : n ≢ 1 = λ e. omega (arith, h.0, e) in
    (pointer b o, m, (h.0, λ (j : ℕ) (l : j < n). (s j l).2 ∙ ap (Ptr b o) ((s j l).1 w)))

pub nothing_formed : IsWellFormedValue nothing
nothing_formed = record { ints = tt; ptrs = record { rising = tt; each = All-nil IsPointer } }

-- ---- one offset

module _ (o : Object) (h : IsObject o) (n : ℕ) (some : 0 < n) (few : n ≤ 64) where
  abbrev read_chosen : ℕ → Bool → Read
  read_chosen x whole = if whole then ((entry_at o x).value, false)
      else (gathered (λ j. (loosened (entry_at o (x + j))).value) n, any_below n (λ j. points (entry_at o (x + j)).value))

  formed_cases : (x : ℕ) → x + n ≤ length o → (b : Bool) → IsWellFormedValue (read_chosen x b).0
  formed_cases x l true = (h.entries x (omega (arith, l, some))).formed
  formed_cases x l false = (gathered_formed (λ j. (loosened (entry_at o (x + j))).value) n some (λ (j : ℕ) (k : j < n). loosened_bit (entry_at o (x + j)) (h.entries (x + j) (omega (arith, l, k)))) few).0

  pub read_at_formed : (x : ℕ) → x + n ≤ length o → IsWellFormedValue (read_at o x n).0
  unfolding read_at
  read_at_formed x l = formed_cases x l (nat_eq (entry_at o x).width n && nat_eq (entry_at o x).place 0)

  at_cases : (m : ℕ → Cell) → HasCells o m → (x : ℕ) → x + n ≤ length o → (b : Bool) → (nat_eq (entry_at o x).width n && nat_eq (entry_at o x).place 0) ≡ b
      → (u : Member) → Sees n u (λ j. m (x + j)) → (w : Member) × HasMember (read_chosen x b).0 w × Sees n w (λ j. m (x + j))
  at_cases m fits x l true e u s =
      let d = both_true (nat_eq (entry_at o x).width n) (nat_eq (entry_at o x).place 0) e in
      let w = eq_of (entry_at o x).width n d.0 in
      let g : Shown n (entry_at o x).value m x = subst (λ (t : ℕ). Shown t (entry_at o x).value m x) w (fits x (omega (arith, l, some)) (eq_of (entry_at o x).place 0 d.1)) in
      whole_sees n (entry_at o x).value (λ j. m (x + j)) some g.member g.is_in g.shows u s
  at_cases m fits x l false e u s =
      gathered_keeps (λ j. (loosened (entry_at o (x + j))).value) n (λ j. m (x + j)) some
      (λ (j : ℕ) (k : j < n). loosened_single (length o) (entry_at o) m h.entries h.whole fits (x + j) (omega (arith, l, k)))
      (λ (j : ℕ) (k : j < n). loosened_bit (entry_at o (x + j)) (h.entries (x + j) (omega (arith, l, k)))) u s

  pub read_at_keeps : (m : ℕ → Cell) → HasCells o m → (x : ℕ) → x + n ≤ length o → (u : Member) → Sees n u (λ j. m (x + j))
      → (w : Member) × HasMember (read_at o x n).0 w × Sees n w (λ j. m (x + j))
  unfolding read_at
  read_at_keeps m fits x l u s = at_cases m fits x l (nat_eq (entry_at o x).width n && nat_eq (entry_at o x).place 0) refl u s

  -- ---- one offset after the other

  each_formed : (xs : List ℕ) (r : Read) → IsWellFormedValue r.0 → All (λ x. x + n ≤ length o) xs → IsWellFormedValue (fold (λ r x. join_reads r (read_at o x n)) r xs).0
  each_formed [] r f a = f
  each_formed (x ∷ xs) r f a =
      each_formed xs (join_reads r (read_at o x n)) (join_formed r.0 (read_at o x n).0 f (read_at_formed x (All-head (λ y. y + n ≤ length o) x xs a))) (All-tail (λ y. y + n ≤ length o) x xs a)

  -- what was read stays
  each_stays : (xs : List ℕ) (r : Read) (w : Member) → IsWellFormedValue r.0 → All (λ x. x + n ≤ length o) xs → HasMember r.0 w → HasMember (fold (λ r x. join_reads r (read_at o x n)) r xs).0 w
  each_stays [] r w f a k = k
  each_stays (x ∷ xs) r w f a k =
      let g = read_at_formed x (All-head (λ y. y + n ≤ length o) x xs a) in
      each_stays xs (join_reads r (read_at o x n)) w (join_formed r.0 (read_at o x n).0 f g) (All-tail (λ y. y + n ≤ length o) x xs a) (join_has r.0 (read_at o x n).0 f g w (inl k))

  each_has : (xs : List ℕ) (r : Read) (x : ℕ) (w : Member) → IsWellFormedValue r.0 → All (λ x. x + n ≤ length o) xs → Contains xs x → HasMember (read_at o x n).0 w
      → HasMember (fold (λ r x. join_reads r (read_at o x n)) r xs).0 w
  each_has [] r x w f a c k = absurd (omega (arith, c.1))
  each_has (y ∷ ys) r x w f a c k =
      let g = read_at_formed y (All-head (λ z. z + n ≤ length o) y ys a) in
      elim (in_cases y ys c) [
        | inl e ↦ each_stays ys (join_reads r (read_at o y n)) w (join_formed r.0 (read_at o y n).0 f g) (All-tail (λ z. z + n ≤ length o) y ys a)
            (join_has r.0 (read_at o y n).0 f g w (inr (subst (λ (z : ℕ). HasMember (read_at o z n).0 w) (sym e) k)))
        | inr d ↦ each_has ys (join_reads r (read_at o y n)) x w (join_formed r.0 (read_at o y n).0 f g) (All-tail (λ z. z + n ≤ length o) y ys a) d k
      ]
    where
      in_cases : (y : ℕ) (ys : List ℕ) → Contains (y ∷ ys) x → (y ≡ x) ⊎ Contains ys x
      in_cases y ys (zero, l, e) = inl e
      in_cases y ys (suc k, l, e) = inr (k, omega (arith, l), e)

pub read_one_keeps : ReadAtKeeps
read_one_keeps o m n x h fits some few l u s = read_at_keeps o h n some few m fits x l u s

-- ---- one offset of several

pub few_keeps : (o : Object) (m : ℕ → Cell) (at : Ival) (n x : ℕ) → IsObject o → HasCells o m → IsAccess at n (length o) → n ≤ 64 → Has at (pos x)
    → (u : Member) → Sees n u (λ j. m (x + j)) → (w : Member) × HasMember (read_each o (offsets_of at) n).0 w × Sees n w (λ j. m (x + j))
few_keeps o m at n x h fits a few i u s =
    let fit = offsets_fit at n (length o) a in
    let c = offset_listed at x a.ends i in
    let l : x + n ≤ length o = All-contains (λ y. y + n ≤ length o) (offsets_of at) x fit c in
    let r = read_at_keeps o h n a.some few m fits x l u s in
    (r.0, each_has o h n a.some few (offsets_of at) read_nothing x r.0 nothing_formed fit c r.1, r.2)

-- ---- group by group

module _ (f : ℕ → Value) where
  fold_stays : (a c : ℕ) (v : Value) (w : Member) → IsWellFormedValue v → ((j : ℕ) → a ≤ j → j < a + c → IsWellFormedValue (f j)) → HasMember v w
      → HasMember (fold (λ v j. join_values v (f j)) v (range_with_len a c)) w
  fold_stays a zero v w h g k = k
  fold_stays a (suc c) v w h g k =
      let i = g a (omega arith) (omega arith) in
      fold_stays (a + 1) c (join_values v (f a)) w (join_formed v (f a) h i) (λ (j : ℕ) (p : a + 1 ≤ j) (q : j < a + 1 + c). g j (omega (arith, p)) (omega (arith, q))) (join_has v (f a) h i w (inl k))

  pub fold_has : (a c : ℕ) (v : Value) (j : ℕ) (w : Member) → IsWellFormedValue v → ((j : ℕ) → a ≤ j → j < a + c → IsWellFormedValue (f j)) → a ≤ j → j < a + c → HasMember (f j) w
      → HasMember (fold (λ v j. join_values v (f j)) v (range_with_len a c)) w
  fold_has a zero v j w h g p q k = absurd (omega (arith, p, q))
  fold_has a (suc c) v j w h g p q k =
      let i = g a (omega arith) (omega arith) in
      let rest : (j : ℕ) → a + 1 ≤ j → j < a + 1 + c → IsWellFormedValue (f j) = λ (j : ℕ) (p : a + 1 ≤ j) (q : j < a + 1 + c). g j (omega (arith, p)) (omega (arith, q)) in
      elim (first_or_later a j p) [
        | inl e ↦ fold_stays (a + 1) c (join_values v (f a)) w (join_formed v (f a) h i) rest (join_has v (f a) h i w (inr (subst (λ (t : ℕ). HasMember (f t) w) (sym e) k)))
        | inr l ↦ fold_has (a + 1) c (join_values v (f a)) j w (join_formed v (f a) h i) rest l (omega (arith, q)) k
      ]
    where
      first_or_later : (a j : ℕ) → a ≤ j → (a ≡ j) ⊎ (a + 1 ≤ j)
      first_or_later a j p = grind arith

  pub fold_formed : (a c : ℕ) (v : Value) → IsWellFormedValue v → ((j : ℕ) → a ≤ j → j < a + c → IsWellFormedValue (f j)) → IsWellFormedValue (fold (λ v j. join_values v (f j)) v (range_with_len a c))
  fold_formed a zero v h g = h
  fold_formed a (suc c) v h g =
      fold_formed (a + 1) c (join_values v (f a)) (join_formed v (f a) h (g a (omega arith) (omega arith)))
      (λ (j : ℕ) (p : a + 1 ≤ j) (q : j < a + 1 + c). g j (omega (arith, p)) (omega (arith, q)))

module _ (o : Object) (m : ℕ → Cell) (at : Ival) (n x : ℕ) (h : IsObject o) (fits : HasCells o m) (a : IsAccess at n (length o)) (i : Has at (pos x)) where
  groups_keep : is_regular o at n ≡ true → (u : Member) → Sees n u (λ j. m (x + j)) → (w : Member) × HasMember (read_groups o at n).0 w × Sees n w (λ j. m (x + j))
  unfolding is_regular
  groups_keep e u s =
      let d = both_true (nat_eq (step at % n) 0) (all_below (reach at n / n) (λ g. is_piece (entry_at o) (first_bit at + g * n) n)) e in
      let r = reached at n (length o) x a i in
      let far = divides_trans n (step at) r.far (divides_from_rem n (step at) (eq_of (step at % n) 0 d.0)) r.steps in
      let g = far.times in let is = far.equal in let room = r.room in let inside = r.inside in
      let z : x ≡ first_bit at + g * n = r.is ∙ ap (λ (t : ℕ). first_bit at + t) is in
      let count : g + 1 ≤ reach at n / n = (le-div_iff_mul-le a.some).1 (omega (arith, is, room)) in
      let piece = at_all (reach at n / n) (λ k. is_piece (entry_at o) (first_bit at + k * n) n) d.1 g (omega (arith, count)) in
      let formed : (k : ℕ) → 0 ≤ k → k < 0 + reach at n / n → IsWellFormedValue (entry_at o (first_bit at + k * n)).value = λ (k : ℕ) (p : 0 ≤ k) (q : k < 0 + reach at n / n).
      (let c : (k + 1) * n ≤ reach at n = (le-div_iff_mul-le a.some).0 (omega (arith, q)) in let b = a.some in
      (h.entries (first_bit at + k * n) (omega (arith, c, inside, b))).formed) in
      let shown : Shown n (entry_at o x).value m x = piece_shown (subst (λ (y : ℕ). is_piece (entry_at o) y n ≡ true) (sym z) piece) in
      let w = whole_sees n (entry_at o x).value (λ j. m (x + j)) a.some shown.member shown.is_in shown.shows u s in (
        w.0,
        fold_has (λ k. (entry_at o (first_bit at + k * n)).value) 0 (reach at n / n) nothing g w.0 nothing_formed formed (omega arith) (omega (arith, count))
            (subst (λ (y : ℕ). HasMember (entry_at o y).value w.0) z w.1),
        w.2,
      )
    where
      in_object : x + n ≤ length o
      in_object = All-contains (λ y. y + n ≤ length o) (offsets_of at) x (offsets_fit at n (length o) a) (offset_listed at x a.ends i)

      piece_shown : is_piece (entry_at o) x n ≡ true → Shown n (entry_at o x).value m x
      piece_shown e = elim (either_true (nat_eq (entry_at o x).width n && nat_eq (entry_at o x).place 0) (lifts (entry_at o) x n) e) [
        | inl t ↦
            let d = both_true (nat_eq (entry_at o x).width n) (nat_eq (entry_at o x).place 0) t in
            let l = in_object in let b = a.some in
            subst (λ (t : ℕ). Shown t (entry_at o x).value m x) (eq_of (entry_at o x).width n d.0) (fits x (omega (arith, l, b)) (eq_of (entry_at o x).place 0 d.1))
        | inr t ↦ lifted (length o) (entry_at o) m h.entries h.whole fits x n a.some in_object t
      ]

-- ---- bit by bit

abbrev no_number : Member → Type 0
no_number uninit = Unit {0}
no_number dangling = Unit {0}
no_number (number x) = ⊥
no_number (pointer b o) = Unit {0}

-- flags and pointers of a single bit are those of its group
mixed_member : (v : Value) (w : ℕ) (u : Member) → no_number u → HasMember (record { uninit = v.uninit; dangling = v.dangling; ints = bit_ints v.ints w; ptrs = v.ptrs }) u → HasMember v u
mixed_member v w uninit k h = h
mixed_member v w dangling k h = h
mixed_member v w (number x) k h = absurd k
mixed_member v w (pointer b o) k h = h

plain_member : (v : Value) (w : ℕ) (x : ℤ) (u : Member) (b : Bool) → no_number u
    → HasMember (if b then of_ints (one_number x) else record { uninit = v.uninit; dangling = v.dangling; ints = bit_ints v.ints w; ptrs = v.ptrs }) u → HasMember v u
plain_member v w x uninit true k h = absurd (no_true h)
plain_member v w x dangling true k h = absurd (no_true h)
plain_member v w x (number y) true k h = absurd k
plain_member v w x (pointer b o) true k h = absurd h
plain_member v w x u false k h = mixed_member v w u k h

by_member : (v : Value) (w j : ℕ) (u : Member) (o : Option ℤ) → no_number u → HasMember (loose_by o v w j) u → HasMember v u
by_member v w j u None k h = mixed_member v w u k h
by_member v w j u (Some x) k h = plain_member v w (bit_number (bit_of x j)) u (is_plain v) k h

loosened_cases : (e : Entry) (u : Member) (b : Bool) → no_number u → HasMember (if b then e else single (loose e.value e.width e.place)).value u → HasMember e.value u
unfolding loose
loosened_cases e u true k h = h
loosened_cases e u false k h = by_member e.value e.width e.place u (only_number e.value.ints) k h

pub loosened_member : (e : Entry) (u : Member) → no_number u → HasMember (loosened e).value u → HasMember e.value u
unfolding loosened
loosened_member e u k h = loosened_cases e u (nat_eq e.width 1) k h

-- pointers alone
only : List Pointer → Value
only ps = record { uninit = false; dangling = false; ints = Empty; ptrs = ps }

only_fold : (q : ℕ → List Pointer) (a c : ℕ) (ps : List Pointer)
    → only (fold (λ ps j. merged join_of ps (q j)) ps (range_with_len a c)) ≡ fold (λ v j. join_values v (only (q j))) (only ps) (range_with_len a c)
unfolding only join_values
only_fold q a zero ps = refl
only_fold q a (suc c) ps = only_fold q (a + 1) c (merged join_of ps (q a))

only_formed : (e : Entry) → IsEntry e → IsWellFormedValue (only e.value.ptrs)
unfolding only
only_formed e h = record { ints = tt; ptrs = h.formed.ptrs }

only_member : (v : Value) (b : ℕ) (z : ℤ) → HasMember v (pointer b z) → HasMember (only v.ptrs) (pointer b z)
unfolding only
only_member v b z h = h

member_of_only : (ps : List Pointer) (b : ℕ) (z : ℤ) → HasMember (only ps) (pointer b z) → Has (offsets_at ps b) z
unfolding only
member_of_only ps b z h = h

only_none : IsWellFormedValue (only [])
unfolding only
only_none = record { ints = tt; ptrs = record { rising = tt; each = All-nil IsPointer } }

module _ (o : Object) (m : ℕ → Cell) (at : Ival) (n x : ℕ) (h : IsObject o) (fits : HasCells o m) (a : IsAccess at n (length o)) (i : Has at (pos x)) where
  far : ℕ
  far = (reached at n (length o) x a i).far

  bit_is : (j : ℕ) → x + j ≡ first_bit at + (far + j)
  unfolding far
  bit_is j = let r = (reached at n (length o) x a i).is in omega (arith, r)

  bit_reached : (j : ℕ) → j < n → far + j < reach at n
  unfolding far
  bit_reached j l = let r = (reached at n (length o) x a i).room in omega (arith, r, l)

  bit_inside : (j : ℕ) → j < reach at n → first_bit at + j < length o
  bit_inside j l = let r = (reached at n (length o) x a i).inside in omega (arith, r, l)

  -- a flag or a pointer that a cell shows is one of its bit's
  shown_member : (j : ℕ) → j < n → (u : Member) → no_number u → ((v : Value) → Single v (m (x + j)) → HasMember v u) → HasMember (entry_at o (first_bit at + (far + j))).value u
  shown_member j l u k s =
      let z = bit_is j in
      let y : x + j < length o = subst (λ (t : ℕ). t < length o) (sym z) (bit_inside (far + j) (bit_reached j l)) in
      subst (λ (t : ℕ). HasMember (entry_at o t).value u) z
      (loosened_member (entry_at o (x + j)) u k (s (loosened (entry_at o (x + j))).value (loosened_single (length o) (entry_at o) m h.entries h.whole fits (x + j) y)))

  pointer_among : (b : ℕ) (z : ℤ) → HasMember (entry_at o (first_bit at + (far + 0))).value (pointer b z) → Has (offsets_at (pointers_among o (first_bit at) (reach at n)) b) z
  pointer_among b z k =
      let q : ℕ → List Pointer = λ (j : ℕ). (entry_at o (first_bit at + j)).value.ptrs in
      let f = fold_has (λ j. only (entry_at o (first_bit at + j)).value.ptrs) 0 (reach at n) (only []) (far + 0) (pointer b z) only_none
      (λ (j : ℕ) (p : 0 ≤ j) (l : j < 0 + reach at n). only_formed (entry_at o (first_bit at + j)) (h.entries (first_bit at + j) (bit_inside j (omega (arith, l)))))
      (omega arith) (let l = bit_reached 0 a.some in omega (arith, l)) (only_member (entry_at o (first_bit at + (far + 0))).value b z k) in
      member_of_only (pointers_among o (first_bit at) (reach at n)) b z
      (subst (λ v. HasMember v (pointer b z)) (sym (only_fold (λ j. (entry_at o (first_bit at + j)).value.ptrs) 0 (reach at n) [])) f)

  bits_keep : n ≤ 64 → (u : Member) → Sees n u (λ j. m (x + j)) → (w : Member) × HasMember (read_bits o at n).0 w × Sees n w (λ j. m (x + j))
  unfolding Sees
  bits_keep few uninit s = (
    uninit,
    any_at (reach at n) (λ j. (entry_at o (first_bit at + j)).value.uninit) (far + s.0) (bit_reached s.0 s.1)
        (shown_member s.0 s.1 uninit tt (λ v k. of_uninit v (m (x + s.0)) k.member k.is_in k.shows s.2)),
    s,
  )
  bits_keep few dangling s = (
    dangling,
    any_at (reach at n) (λ j. (entry_at o (first_bit at + j)).value.dangling) (far + s.0) (bit_reached s.0 s.1)
        (shown_member s.0 s.1 dangling tt (λ v k. of_dangling v (m (x + s.0)) k.member k.is_in k.shows s.2)),
    s,
  )
  bits_keep few (number y) s = (
    number (pos (number_of (bit_of y) n)),
    all-between (pos 0) (pos (2 ^ n) -ℤ pos 1) (pos (number_of (bit_of y) n)) (omega (arith, ints)) (number_high n (bit_of y)),
    λ (j : ℕ) (l : j < n). s j l ∙ ap Bit (sym (number_bits n (bit_of y) j l)),
  )
  bits_keep few (pointer b z) s =
      let w : nat_eq n 64 ≡ true = eq_yes n 64 s.0 in
      (pointer b z, rw w (pointer_among b z (shown_member 0 a.some (pointer b z) tt (λ v k. of_ptr v (m (x + 0)) k.member b z 0 k.is_in k.shows (s.1 0 a.some)))), s)

-- ---- any access

read_cases : (o : Object) (m : ℕ → Cell) (at : Ival) (n x : ℕ) (few regular : Bool) → IsObject o → HasCells o m → IsAccess at n (length o) → n ≤ 64 → Has at (pos x)
    → is_regular o at n ≡ regular → (u : Member) → Sees n u (λ j. m (x + j))
    → (w : Member) × HasMember (if few then read_each o (offsets_of at) n else (if regular then read_groups o at n else read_bits o at n)).0 w × Sees n w (λ j. m (x + j))
read_cases o m at n x true regular h fits a l i e u s = few_keeps o m at n x h fits a l i u s
read_cases o m at n x false true h fits a l i e u s = groups_keep o m at n x h fits a i e u s
read_cases o m at n x false false h fits a l i e u s = bits_keep o m at n x h fits a i l u s

pub read_keeps : ReadKeeps
unfolding read
read_keeps o m at n x h fits a l i u s = read_cases o m at n x (is_few at) (is_regular o at n) h fits a l i refl u s
