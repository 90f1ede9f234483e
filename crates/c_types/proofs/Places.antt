-- Places of members, and what is lost of them where they are kept below 2^32.
use Rattle.std.proofs.Common.{◌≡◌, ℕ, ◌+◌, ◌-◌, ◌*◌, ◌/◌, ◌%◌, ◌^◌, ◌<◌, ◌≤◌, ◌==◌, min, max, Bool, true, false, if◌then◌else◌, Option, Some, None, List, [], ◌∷◌, ◌++◌, append_assoc, append-nil, refl, ap, sym, ◌∙◌, inl, inr, arith}
use Rattle.std.proofs.Math.Nat.{mod-zero, mod-eq_of_lt, mod_self}
use Rattle.std.proofs.lemmas.Nat.{mod_below, div-add-mod', mod-mul-add}
use Rattle.std.proofs.lemmas.Bool.{cases_lt}
use Rattle.c_types.specs.declared.types.Declared.{Declared}
use Rattle.c_types.specs.declared.types.Layout.{Layout}
use Rattle.c_types.specs.declared.types.Member.{Member}
use Rattle.c_types.specs.Sizes.{kept, align_of}
use Rattle.c_types.specs.Structs.{next_multiple, IsNextMultiple, fits_unit, field_place, begins_by, begins, bits_of, ends, at_place, placed, end_of, greatest_align}

pub next_multiple-zero : (p : ℕ) → next_multiple p 0 ≡ p
unfolding next_multiple
next_multiple-zero p = rw (mod-zero) (omega arith)

next_multiple_above : (p a : ℕ) → p ≤ next_multiple p a
unfolding next_multiple
next_multiple_above p a = omega arith

pub next_multiple_is : (p a : ℕ) → next_multiple p a ≡ p + (a - p % a) % a
unfolding next_multiple
next_multiple_is p a = refl

up_rest : (p a r : ℕ) → 0 < a → r ≡ p % a → (p + (a - r) % a) % a ≡ 0
up_rest p a r positive is =
    let split = div-add-mod' p a in
    let below = mod_below p a positive in
    elim (cases_lt 0 r) [
      | inl some ↦
          let pad : (a - r) % a ≡ a - r = mod-eq_of_lt (omega arith) in
          let whole : p + (a - r) ≡ (p / a + 1) * a + 0 = grind arith in
          ap (λ x. (p + x) % a) pad ∙ ap (λ x. x % a) whole ∙ mod-mul-add (p / a + 1) a 0 positive
      | inr none ↦
          let pad : (a - r) % a ≡ 0 = ap (λ x. x % a) (let e : a - r ≡ a = omega arith in e) ∙ mod_self a in
          let whole : p + 0 ≡ (p / a) * a + 0 = omega arith in
          ap (λ x. (p + x) % a) pad ∙ ap (λ x. x % a) whole ∙ mod-mul-add (p / a) a 0 positive
    ]

pub next_multiple_law : (p a : ℕ) → 0 < a → IsNextMultiple p a (next_multiple p a)
unfolding next_multiple
next_multiple_law p a positive = record {
  multiple = up_rest p a (p % a) positive refl;
  not_below = omega arith;
  first = omega (arith, mod_below (a - p % a) a positive);
}

kept_small : (p : ℕ) → p ≤ 2 ^ 32 - 1 → kept p ≡ p
kept_small p h = omega arith

kept_large : (p : ℕ) → 2 ^ 32 - 1 < p → kept p ≡ 2 ^ 32 - 1
kept_large p h = omega arith

-- what a map to places that aren't below makes of a place as it is kept
through_kept : (f : ℕ → ℕ) → ((p : ℕ) → p ≤ f p) → (p : ℕ) → kept (f (kept p)) ≡ kept (f p)
through_kept f above p =
    elim (cases_lt (2 ^ 32 - 1) p) [
      | inl large ↦ let q : kept p ≡ 2 ^ 32 - 1 = kept_large p large in rw q (omega (arith, above (2 ^ 32 - 1), above p))
      | inr small ↦ ap (λ q. kept (f q)) (kept_small p small)
    ]

through_same : (f : ℕ → ℕ) → ((p : ℕ) → p ≤ f p) → (p q : ℕ) → kept p ≡ kept q → kept (f p) ≡ kept (f q)
through_same f above p q e = sym (through_kept f above p) ∙ ap (λ x. kept (f x)) e ∙ through_kept f above q

field_by : (b c : Bool) (p x : ℕ) → p ≤ x → p ≤ (if b then x else (if c then p else x))
field_by true c p x h = h
field_by false true p x h = omega arith
field_by false false p x h = h

field_above : (p unit width : ℕ) → p ≤ field_place p unit width
field_above p unit width = field_by (width == 0) (fits_unit p unit width) p (next_multiple p unit) (next_multiple_above p unit)

field_here : (b c : Bool) (p x : ℕ) → x ≡ p → (if b then x else (if c then p else x)) ≡ p
field_here true c p x h = h
field_here false true p x h = refl
field_here false false p x h = h

pub field_place_zero : (p width : ℕ) → field_place p 0 width ≡ p
field_place_zero p width = field_here (width == 0) (fits_unit p 0 width) p (next_multiple p 0) (next_multiple-zero p)

by_above : (l : Layout) (m : Declared) (bits : Option ℕ) (p : ℕ) → p ≤ begins_by l p m bits
by_above l m (Some width) p = field_above p (align_of l m.ctype) width
by_above l m None p = next_multiple_above p (align_of l m.ctype)

begins_above : (l : Layout) (m : Declared) (p : ℕ) → p ≤ begins l p m
begins_above l m p = by_above l m m.bits p

begins_same : (l : Layout) (m : Declared) (p q : ℕ) → kept p ≡ kept q → kept (begins l p m) ≡ kept (begins l q m)
begins_same l m p q e = through_same (λ x. begins l x m) (begins_above l m) p q e

at_same : (p q : ℕ) (m : Declared) (name : Option ℕ) → kept p ≡ kept q → at_place p m name ≡ at_place q m name
at_same p q m (Some n) e = ap (λ x. record { name = n; ctype = m.ctype; offset_bits = x; bits = m.bits } ∷ []) e
at_same p q m None e = refl

sum_same : (p q s : ℕ) → kept p ≡ kept q → kept (p + s) ≡ kept (q + s)
sum_same p q s e = omega arith

ends_same : (l : Layout) (m : Declared) (p q : ℕ) → kept p ≡ kept q → kept (ends l p m) ≡ kept (ends l q m)
ends_same l m p q e = sum_same (begins l p m) (begins l q m) (bits_of l m m.bits) (begins_same l m p q e)

-- places that are kept alike give the same layout
placed_same : (l : Layout) (p q : ℕ) (ms : List Declared) → kept p ≡ kept q → placed l p ms ≡ placed l q ms
placed_same l p q [] e = refl
placed_same l p q (m ∷ ms) e =
    let here = at_same (begins l p m) (begins l q m) m m.name (begins_same l m p q e) in
    let rest = placed_same l (ends l p m) (ends l q m) ms (ends_same l m p q e) in
    cc

end_same : (l : Layout) (p q : ℕ) (ms : List Declared) → kept p ≡ kept q → kept (end_of l p ms) ≡ kept (end_of l q ms)
end_same l p q [] e = e
end_same l p q (m ∷ ms) e = end_same l (ends l p m) (ends l q m) ms (ends_same l m p q e)

sum_kept : (n s o e : ℕ) → o ≡ kept n → e ≡ min (o + kept s) (2 ^ 32 - 1) → kept (n + s) ≡ kept e
sum_kept n s o e is_o is_e = omega arith

kept_again : (n o : ℕ) → o ≡ kept n → kept n ≡ kept o
kept_again n o is = omega arith

-- the members placed so far and those that are left make the whole layout
pub record Placing (l : Layout) (members : List Member) (end : ℕ) (left all : List Declared) : Type 0 where
  pub members_are : members ++ placed l end left ≡ placed l 0 all
  pub end_is : kept (end_of l end left) ≡ kept (end_of l 0 all)
  pub within : end ≤ 2 ^ 32 - 1

pub begun : (l : Layout) (all : List Declared) → Placing l [] 0 all all
begun l all = record { members_are = refl; end_is = refl; within = omega arith }

-- a member more, as the code keeps its place and where it ends
pub more : (l : Layout) (members after : List Member) (p o e : ℕ) (m : Declared) (left rest all : List Declared) → left ≡ m ∷ rest → Placing l members p left all → o ≡ kept (begins l p m) → e ≡ min (o + kept (bits_of l m m.bits)) (2 ^ 32 - 1) → after ≡ members ++ at_place o m m.name → Placing l after e rest all
more l members after p o e m left rest all left_is so_far is_o is_e is_after =
    let here : Placing l members p (m ∷ rest) all = rw left_is at so_far in
    let same : kept (ends l p m) ≡ kept e = sum_kept (begins l p m) (bits_of l m m.bits) o e is_o is_e in
    let place = at_same (begins l p m) o m m.name (kept_again (begins l p m) o is_o) in
    let behind = placed_same l (ends l p m) e rest same in
    let places : placed l p (m ∷ rest) ≡ at_place o m m.name ++ placed l e rest = cc in
    record {
      members_are = rw (is_after, append_assoc) (ap (λ xs. members ++ xs) (sym places) ∙ here.members_are);
      end_is = sym (end_same l (ends l p m) e rest same) ∙ here.end_is;
      within = omega arith;
    }

pub done : (l : Layout) (members : List Member) (end : ℕ) (left all : List Declared) → left ≡ [] → Placing l members end left all → (members ≡ placed l 0 all) × (end ≡ kept (end_of l 0 all))
done l members end left all left_is so_far =
    let here : Placing l members end [] all = rw left_is at so_far in
    (sym (append-nil members) ∙ here.members_are, (let same = here.end_is in let within = here.within in omega arith))

pub align_first : (l : Layout) (ms : List Declared) → max 8 (greatest_align l ms) ≡ greatest_align l ms
align_first l [] = refl
align_first l (m ∷ ms) = let rest = align_first l ms in omega arith

-- the size, from the end as the code keeps it
pub size_is : (size e end align : ℕ) → size ≡ kept (next_multiple e align) → e ≡ kept end → size ≡ kept (next_multiple end align)
size_is size e end align is_size is_end = is_size ∙ ap (λ x. kept (next_multiple x align)) is_end ∙ through_kept (λ x. next_multiple x align) (λ x. next_multiple_above x align) end

pub ruleset next_multiple_laws = (next_multiple-zero, next_multiple_is, next_multiple_law)
