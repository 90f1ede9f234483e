-- The bits of a group one by one keep its members.
use Rattle.std.proofs.Common.{ℕ, ◌<◌, ◌≡◌, refl, sym, ap, subst, ◌∙◌, Bool, true, false, List, [], ◌∷◌, ℤ, pos, Option, Some, None}
use Rattle.std.specs.Prelude.{◌&&◌, not, nat_eq, if◌then◌else◌}
use Rattle.std.specs.List.{Contains, list_all}
use Rattle.std.specs.Ordering.{int_eq}
use Rattle.std.proofs.lemmas.Bool.Decides.{Decides-int_eq}
use Rattle.std.proofs.lemmas.List.Sums.{AllPass-from_list_all}
use Rattle.std.proofs.lemmas.List.Elements.{All-contains}
use Rattle.std.proofs.lemmas.Nat.Bits.{bit_at-zero}
use Rattle.c_memory.specs.Cells.{bit_of}
use Rattle.c_memory.specs.declared.cells.Cell.{Cell}
use Rattle.c_memory.specs.declared.cells.Cell.TheVariants.{Bit}
use Rattle.ival.specs.Forms.{Has, is_empty, only_number}
use Rattle.ival.specs.declared.forms.Ival.{Ival}
use Rattle.ival.specs.declared.forms.Ival.TheVariants.{Empty, Set, Range, All as Every}
use Rattle.ival.proofs.ComparisonMembers.{only-member}
use Rattle.ival.proofs.HullMembers.{contains-here, contains-later}
use Rattle.avalue.specs.Pointers.{Pointer, offsets_at}
use Rattle.avalue.specs.Members.{Member, uninit, dangling, number, pointer, HasMember}
use Rattle.avalue.specs.declared.value.Value.{Value}
use Rattle.abstract_memory.specs.Values.{all_below, all_zero, all_ones, bit_ints, bit_number, has_no_pointers, is_plain, loose, loose_by, of_ints, one_number}
use Rattle.abstract_memory.specs.Members.{Shows}
use Rattle.abstract_memory.proofs.Tests.{no_true, both_true, at_all, not_true}

-- the cell of a single bit shows a member
pub record Single (v : Value) (c : Cell) : Type 0 where
  pub member : Member
  pub is_in : HasMember v member
  pub shows : Shows 1 member 0 c

pub one_bit : (b : Bool) → bit_of (bit_number b) 0 ≡ b
one_bit true = refl
one_bit false = refl

pub zero_bits : (j : ℕ) → bit_of (pos 0) j ≡ false
zero_bits j = ap (λ n. nat_eq n 1) (bit_at-zero j)

pub passes : (p : ℤ → Bool) (xs : List ℤ) (x : ℤ) → list_all p xs ≡ true → Contains xs x → p x ≡ true
passes p xs x e h = All-contains (λ y. p y ≡ true) xs x (AllPass-from_list_all p xs e) h

pub has_one : (x : ℤ) → Has (one_number x) x
has_one x = contains-here x x [] refl

pub has_bit : (b : Bool) → Has (Set (pos 0 ∷ pos 1 ∷ [])) (bit_number b)
has_bit true = contains-later (pos 0) (pos 1) (pos 1 ∷ []) (contains-here (pos 1) (pos 1) [] refl)
has_bit false = contains-here (pos 0) (pos 0) (pos 1 ∷ []) refl

pub zero_member : (i : Ival) (x : ℤ) → all_zero i ≡ true → Has i x → x ≡ pos 0
zero_member Empty x e h = absurd (no_true e)
zero_member (Set xs) x e h = (Decides-int_eq x (pos 0)).0 (passes (λ y. int_eq y (pos 0)) xs x e h)
zero_member (Range lo hi r m) x e h = absurd (no_true e)
zero_member Every x e h = absurd (no_true e)

ones_member : (i : Ival) (w j : ℕ) (x : ℤ) → all_ones i w ≡ true → Has i x → j < w → bit_of x j ≡ true
ones_member Empty w j x e h l = absurd (no_true e)
ones_member (Set xs) w j x e h l = at_all w (bit_of x) (passes (λ y. all_below w (bit_of y)) xs x e h) j l
ones_member (Range lo hi r m) w j x e h l = absurd (no_true e)
ones_member Every w j x e h l = absurd (no_true e)

pub not_empty : (i : Ival) (x : ℤ) → is_empty i ≡ true → Has i x → ⊥
not_empty Empty x e h = h
not_empty (Set xs) x e h = no_true e
not_empty (Range lo hi r m) x e h = no_true e
not_empty Every x e h = no_true e

bit_has : (i : Ival) (w j : ℕ) (x : ℤ) → Has i x → j < w → (e z o : Bool) → is_empty i ≡ e → all_zero i ≡ z → all_ones i w ≡ o
    → Has (if e then Empty else (if z then one_number (pos 0) else (if o then one_number (pos 1) else Set (pos 0 ∷ pos 1 ∷ [])))) (bit_number (bit_of x j))
bit_has i w j x h l true z o p q r = absurd (not_empty i x p h)
bit_has i w j x h l false true o p q r =
    subst (λ b. Has (one_number (pos 0)) (bit_number b)) (sym (ap (λ y. bit_of y j) (zero_member i x q h) ∙ zero_bits j)) (has_one (pos 0))
bit_has i w j x h l false false true p q r =
    subst (λ b. Has (one_number (pos 1)) (bit_number b)) (sym (ones_member i w j x r h l)) (has_one (pos 1))
bit_has i w j x h l false false false p q r = has_bit (bit_of x j)

mixed : Value → ℕ → Value
mixed v w = record { uninit = v.uninit; dangling = v.dangling; ints = bit_ints v.ints w; ptrs = v.ptrs }

mixed_kept : (v : Value) (w j : ℕ) (u : Member) (c : Cell) → j < w → HasMember v u → Shows w u j c → Single (mixed v w) c
unfolding Shows mixed
mixed_kept v w j uninit c l m h = record { member = uninit; is_in = m; shows = h }
mixed_kept v w j dangling c l m h = record { member = dangling; is_in = m; shows = h }
mixed_kept v w j (number x) c l m h = record {
  member = number (bit_number (bit_of x j));
  is_in = bit_has v.ints w j x m l (is_empty v.ints) (all_zero v.ints) (all_ones v.ints w) refl refl refl;
  shows = h ∙ ap Bit (sym (one_bit (bit_of x j)));
}
mixed_kept v w j (pointer b o) c l m h = record { member = pointer b o; is_in = m; shows = (h.0, (λ k. absurd (k refl)), h.2) }

pub no_pointer : (ps : List Pointer) (base : ℕ) (z : ℤ) → has_no_pointers ps ≡ true → Has (offsets_at ps base) z → ⊥
no_pointer [] base z e h = h
no_pointer (p ∷ ps) base z e h = no_true e

pub clash : (b : Bool) → not b ≡ true → b ≡ true → ⊥
clash b e f = no_true (sym (not_true b e) ∙ f)

-- the value is exactly a number
number_kept : (v : Value) (w j : ℕ) (y : ℤ) (u : Member) (c : Cell) → only_number v.ints ≡ Some y → is_plain v ≡ true → HasMember v u → Shows w u j c
    → Single (of_ints (one_number (bit_number (bit_of y j)))) c
unfolding Shows
number_kept v w j y uninit c e p m h = absurd (let d = both_true (not v.uninit) (not v.dangling) (both_true (not v.uninit && not v.dangling) (has_no_pointers v.ptrs) p).0 in clash v.uninit d.0 m)
number_kept v w j y dangling c e p m h = absurd (let d = both_true (not v.uninit) (not v.dangling) (both_true (not v.uninit && not v.dangling) (has_no_pointers v.ptrs) p).0 in clash v.dangling d.1 m)
number_kept v w j y (number x) c e p m h = record {
  member = number (bit_number (bit_of y j));
  is_in = has_one (bit_number (bit_of y j));
  shows = h ∙ ap (λ z. Bit (bit_of z j)) (only-member v.ints x y m e) ∙ ap Bit (sym (one_bit (bit_of y j)));
}
number_kept v w j y (pointer b o) c e p m h = absurd (no_pointer v.ptrs b o (both_true (not v.uninit && not v.dangling) (has_no_pointers v.ptrs) p).1 m)

plain_kept : (v : Value) (w j : ℕ) (y : ℤ) (u : Member) (c : Cell) (b : Bool) → only_number v.ints ≡ Some y → is_plain v ≡ b → j < w → HasMember v u → Shows w u j c
    → Single (if b then of_ints (one_number (bit_number (bit_of y j))) else mixed v w) c
plain_kept v w j y u c true e p l m h = number_kept v w j y u c e p m h
plain_kept v w j y u c false e p l m h = mixed_kept v w j u c l m h

by_kept : (v : Value) (w j : ℕ) (u : Member) (c : Cell) (o : Option ℤ) → only_number v.ints ≡ o → j < w → HasMember v u → Shows w u j c → Single (loose_by o v w j) c
unfolding mixed
by_kept v w j u c None e l m h = mixed_kept v w j u c l m h
by_kept v w j u c (Some y) e l m h = plain_kept v w j y u c (is_plain v) e refl l m h

pub loose_kept : (v : Value) (w j : ℕ) (u : Member) (c : Cell) → j < w → HasMember v u → Shows w u j c → Single (loose v w j) c
unfolding loose
loose_kept v w j u c l m h = by_kept v w j u c (only_number v.ints) refl l m h
