-- Bits of pointers that are read show.
use Rattle.std.proofs.Common.{ℕ, zero, suc, ◌+◌, ◌*◌, ◌/◌, ◌%◌, ◌<◌, ◌≤◌, ◌≡◌, ◌⊎◌, inl, inr, refl, sym, ap, subst, ◌∙◌, Bool, true, false, List, [], ◌∷◌, length, ℤ, pos, arith}
use Rattle.std.specs.Prelude.{◌&&◌, not, nat_eq, if◌then◌else◌}
use Rattle.std.specs.List.{All, Contains, fold}
use Rattle.std.proofs.lemmas.List.Elements.{All-head, All-tail, All-contains}
use Rattle.std.proofs.Math.Nat.{le-div_iff_mul-le}
use Rattle.c_memory.specs.Cells.{bit_of}
use Rattle.c_memory.specs.declared.cells.Cell.{Cell}
use Rattle.c_memory.specs.declared.cells.Cell.TheVariants.{Uninit, Dangling, Bit, Ptr}
use Rattle.ival.specs.Forms.{Has, step}
use Rattle.ival.specs.declared.forms.Ival.{Ival}
use Rattle.ival.proofs.Keeping.{divides_trans, divides_from_rem}
use Rattle.avalue.specs.Pointers.{Pointer, offsets_at}
use Rattle.avalue.specs.Members.{Member, uninit, dangling, number, pointer, HasMember}
use Rattle.avalue.specs.Values.{IsWellFormedValue}
use Rattle.avalue.specs.declared.value.Value.{Value}
use Rattle.abstract_memory.specs.Values.{all_below, any_below, has_no_pointers, nothing}
use Rattle.abstract_memory.specs.Objects.{Object, IsObject, entry_at, loosened, lifts}
use Rattle.abstract_memory.specs.Reads.{Read, IsAccess, gathered, points, read, read_at, read_each, read_groups, read_bits, read_nothing, join_reads, offsets_of, is_few, is_regular, is_piece, first_bit, reach}
use Rattle.abstract_memory.specs.Members.{Shows, HasCells}
use Rattle.abstract_memory.specs.Kept.{ReadTells}
use Rattle.abstract_memory.proofs.Tests.{any_at, at_all, both_true, either_true, eq_of, or_left, or_right}
use Rattle.abstract_memory.proofs.Groups.{loosened_single, lifted}
use Rattle.abstract_memory.proofs.Values.{join_formed, join_has}
use Rattle.abstract_memory.proofs.Gathered.{cell_base, cell_offset, differ, of_ptr}
use Rattle.abstract_memory.proofs.Offsets.{offset_listed, offsets_fit, reached}
use Rattle.abstract_memory.proofs.Reading.{fold_has, loosened_member, nothing_formed, read_at_formed}

-- a cell of a pointer shows a pointer
group_ptr : (w j : ℕ) (v : Value) (c : Cell) (u : Member) (p : ℕ) (o : ℤ) (k : ℕ) → HasMember v u → Shows w u j c → c ≡ Ptr p o k → HasMember v (pointer p o)
unfolding Shows
group_ptr w j v c uninit p o k m h e = absurd (differ Uninit (Ptr p o k) 0 3 (sym h ∙ e) refl refl (λ z. omega (arith, z)))
group_ptr w j v c dangling p o k m h e = absurd (differ Dangling (Ptr p o k) 1 3 (sym h ∙ e) refl refl (λ z. omega (arith, z)))
group_ptr w j v c (number x) p o k m h e = absurd (differ (Bit (bit_of x j)) (Ptr p o k) 2 3 (sym h ∙ e) refl refl (λ z. omega (arith, z)))
group_ptr w j v c (pointer q r) p o k m h e =
    let same : Ptr q r h.0 ≡ Ptr p o k = sym h.2 ∙ e in
    subst (λ (t : ℕ). HasMember v (pointer t o)) (ap cell_base same) (subst (λ (t : ℤ). HasMember v (pointer q t)) (ap cell_offset same) m)

has_points : (v : Value) (p : ℕ) (o : ℤ) → HasMember v (pointer p o) → points v ≡ true
has_points v p o h = some_pointer v.ptrs h
  where
    some_pointer : (ps : List Pointer) → Has (offsets_at ps p) o → not (has_no_pointers ps) ≡ true
    some_pointer [] h = absurd h
    some_pointer (q ∷ ps) h = refl

abbrev Tells : Read → ℕ → ℤ → Type 0
Tells r p z = HasMember r.0 (pointer p z) ⊎ (r.1 ≡ true)

module _ (o : Object) (h : IsObject o) (m : ℕ → Cell) (fits : HasCells o m) (n : ℕ) (some : 0 < n) (few : n ≤ 64) (p bit : ℕ) (z : ℤ) where
  -- the pointer is one of its bit's
  bit_points : (y : ℕ) → y < length o → m y ≡ Ptr p z bit → points (entry_at o y).value ≡ true
  bit_points y l e =
      let s = loosened_single (length o) (entry_at o) m h.entries h.whole fits y l in
      has_points (entry_at o y).value p z (loosened_member (entry_at o y) (pointer p z) tt (of_ptr (loosened (entry_at o y)).value (m y) s.member p z bit s.is_in s.shows e))

  at_cases : (x j : ℕ) → x + n ≤ length o → j < n → m (x + j) ≡ Ptr p z bit → (b : Bool) → (nat_eq (entry_at o x).width n && nat_eq (entry_at o x).place 0) ≡ b
      → Tells (if b then ((entry_at o x).value, false) else (gathered (λ j. (loosened (entry_at o (x + j))).value) n, any_below n (λ j. points (entry_at o (x + j)).value))) p z
  at_cases x j l k e true t =
      let d = both_true (nat_eq (entry_at o x).width n) (nat_eq (entry_at o x).place 0) t in
      let w = eq_of (entry_at o x).width n d.0 in
      let s = fits x (omega (arith, l, some)) (eq_of (entry_at o x).place 0 d.1) in
      inl (group_ptr (entry_at o x).width j (entry_at o x).value (m (x + j)) s.member p z bit s.is_in (s.shows j (omega (arith, w, k))) e)
  at_cases x j l k e false t = inr (any_at n (λ j. points (entry_at o (x + j)).value) j k (bit_points (x + j) (omega (arith, l, k)) e))

  at_tells : (x j : ℕ) → x + n ≤ length o → j < n → m (x + j) ≡ Ptr p z bit → Tells (read_at o x n) p z
  unfolding read_at
  at_tells x j l k e = at_cases x j l k e (nat_eq (entry_at o x).width n && nat_eq (entry_at o x).place 0) refl

  joined_left : (r s : Read) → IsWellFormedValue r.0 → IsWellFormedValue s.0 → Tells r p z → Tells (join_reads r s) p z
  joined_left r s f g (inl t) = inl (join_has r.0 s.0 f g (pointer p z) (inl t))
  joined_left r s f g (inr t) = inr (or_left r.1 s.1 t)

  joined_right : (r s : Read) → IsWellFormedValue r.0 → IsWellFormedValue s.0 → Tells s p z → Tells (join_reads r s) p z
  joined_right r s f g (inl t) = inl (join_has r.0 s.0 f g (pointer p z) (inr t))
  joined_right r s f g (inr t) = inr (or_right r.1 s.1 t)

  stays : (xs : List ℕ) (r : Read) → IsWellFormedValue r.0 → All (λ x. x + n ≤ length o) xs → Tells r p z → Tells (fold (λ r x. join_reads r (read_at o x n)) r xs) p z
  stays [] r f a t = t
  stays (x ∷ xs) r f a t =
      let g = read_at_formed o h n some few x (All-head (λ y. y + n ≤ length o) x xs a) in
      stays xs (join_reads r (read_at o x n)) (join_formed r.0 (read_at o x n).0 f g) (All-tail (λ y. y + n ≤ length o) x xs a) (joined_left r (read_at o x n) f g t)

  each_tells : (xs : List ℕ) (r : Read) (x : ℕ) → IsWellFormedValue r.0 → All (λ x. x + n ≤ length o) xs → Contains xs x → Tells (read_at o x n) p z
      → Tells (fold (λ r x. join_reads r (read_at o x n)) r xs) p z
  each_tells [] r x f a c t = absurd (omega (arith, c.1))
  each_tells (y ∷ ys) r x f a c t =
      let g = read_at_formed o h n some few y (All-head (λ w. w + n ≤ length o) y ys a) in
      let rest = All-tail (λ w. w + n ≤ length o) y ys a in
      elim (in_cases y ys c) [
        | inl e ↦ stays ys (join_reads r (read_at o y n)) (join_formed r.0 (read_at o y n).0 f g) rest (joined_right r (read_at o y n) f g (subst (λ (w : ℕ). Tells (read_at o w n) p z) (sym e) t))
        | inr d ↦ each_tells ys (join_reads r (read_at o y n)) x (join_formed r.0 (read_at o y n).0 f g) rest d t
      ]
    where
      in_cases : (y : ℕ) (ys : List ℕ) → Contains (y ∷ ys) x → (y ≡ x) ⊎ Contains ys x
      in_cases y ys (zero, l, e) = inl e
      in_cases y ys (suc k, l, e) = inr (k, omega (arith, l), e)

  module _ (at : Ival) (x j : ℕ) (a : IsAccess at n (length o)) (i : Has at (pos x)) (inside_n : j < n) (cell : m (x + j) ≡ Ptr p z bit) where
    in_object : x + n ≤ length o
    in_object = All-contains (λ y. y + n ≤ length o) (offsets_of at) x (offsets_fit at n (length o) a) (offset_listed at x a.ends i)

    few_tells : Tells (read_each o (offsets_of at) n) p z
    few_tells = each_tells (offsets_of at) read_nothing x nothing_formed (offsets_fit at n (length o) a) (offset_listed at x a.ends i) (at_tells x j in_object inside_n cell)

    piece_tells : is_piece (entry_at o) x n ≡ true → HasMember (entry_at o x).value (pointer p z)
    piece_tells e = elim (either_true (nat_eq (entry_at o x).width n && nat_eq (entry_at o x).place 0) (lifts (entry_at o) x n) e) [
      | inl t ↦
          let d = both_true (nat_eq (entry_at o x).width n) (nat_eq (entry_at o x).place 0) t in
          let w = eq_of (entry_at o x).width n d.0 in let l = in_object in
          let s = fits x (omega (arith, l, some)) (eq_of (entry_at o x).place 0 d.1) in
          let k = inside_n in
          group_ptr (entry_at o x).width j (entry_at o x).value (m (x + j)) s.member p z bit s.is_in (s.shows j (omega (arith, w, k))) cell
      | inr t ↦
          let s = lifted (length o) (entry_at o) m h.entries h.whole fits x n some in_object t in
          group_ptr n j (entry_at o x).value (m (x + j)) s.member p z bit s.is_in (s.shows j inside_n) cell
    ]

    groups_tell : is_regular o at n ≡ true → Tells (read_groups o at n) p z
    unfolding is_regular
    groups_tell e =
        let d = both_true (nat_eq (step at % n) 0) (all_below (reach at n / n) (λ g. is_piece (entry_at o) (first_bit at + g * n) n)) e in
        let r = reached at n (length o) x a i in
        let far = divides_trans n (step at) r.far (divides_from_rem n (step at) (eq_of (step at % n) 0 d.0)) r.steps in
        let g = far.times in let is = far.equal in let room = r.room in let inside = r.inside in
        let y : x ≡ first_bit at + g * n = r.is ∙ ap (λ (t : ℕ). first_bit at + t) is in
        let count : g + 1 ≤ reach at n / n = (le-div_iff_mul-le some).1 (omega (arith, is, room)) in
        let piece = at_all (reach at n / n) (λ k. is_piece (entry_at o) (first_bit at + k * n) n) d.1 g (omega (arith, count)) in
        let formed : (k : ℕ) → 0 ≤ k → k < 0 + reach at n / n → IsWellFormedValue (entry_at o (first_bit at + k * n)).value = λ (k : ℕ) (q : 0 ≤ k) (l : k < 0 + reach at n / n).
        (let c : (k + 1) * n ≤ reach at n = (le-div_iff_mul-le some).0 (omega (arith, l)) in
        (h.entries (first_bit at + k * n) (omega (arith, c, inside, some))).formed) in
        let t = piece_tells (subst (λ (k : ℕ). is_piece (entry_at o) k n ≡ true) (sym y) piece) in
        inl (fold_has (λ k. (entry_at o (first_bit at + k * n)).value) 0 (reach at n / n) nothing g (pointer p z) nothing_formed formed (omega arith) (omega (arith, count))
        (subst (λ (k : ℕ). HasMember (entry_at o k).value (pointer p z)) y t))

    bits_tell : Tells (read_bits o at n) p z
    bits_tell =
        let r = reached at n (length o) x a i in
        let is = r.is in let room = r.room in let l = in_object in let k = inside_n in
        let y : x + j ≡ first_bit at + (r.far + j) = omega (arith, is) in
        inr (any_at (reach at n) (λ j. points (entry_at o (first_bit at + j)).value) (r.far + j) (omega (arith, room, k))
        (subst (λ (t : ℕ). points (entry_at o t).value ≡ true) y (bit_points (x + j) (omega (arith, l, k)) cell)))

    tells_cases : (few regular : Bool) → is_regular o at n ≡ regular → Tells (if few then read_each o (offsets_of at) n else (if regular then read_groups o at n else read_bits o at n)) p z
    tells_cases true regular e = few_tells
    tells_cases false true e = groups_tell e
    tells_cases false false e = bits_tell

    pub tells : Tells (read o at n) p z
    unfolding read
    tells = tells_cases (is_few at) (is_regular o at n) refl

pub read_tells : ReadTells
read_tells o m at n x j base bit offset h fits a few i k e = tells o h m fits n a.some few base bit offset at x j a i k e
