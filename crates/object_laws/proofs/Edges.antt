-- Operations that change a range of bits, and loosen the groups that the range cuts.
use Rattle.std.proofs.Common.{ℕ, ◌+◌, ◌-◌, ◌<◌, ◌≤◌, ◌≡◌, refl, ap, ◌∙◌, Bool, true, false, arith, length}
use Rattle.std.specs.Prelude.{◌&&◌, nat_lt, if◌then◌else◌}
use Rattle.std.proofs.lemmas.Bool.Decides.{nat_tests}
use Rattle.avalue.specs.declared.value.Value.{Value}
use Rattle.abstract_memory.specs.Values.{join_values}
use Rattle.abstract_memory.specs.Objects.{Entry, IsEntry, IsWhole, single, entry_at, loosened, meets, is_within}
use Rattle.abstract_memory.specs.Writes.{blurred_at}
use Rattle.abstract_memory.proofs.Formed.{bit_entry, entry_bit, loosened_bit}
use Rattle.abstract_memory.proofs.Groups.{loosened_place, loosened_width}
use Rattle.abstract_memory.proofs.Lawfulness.{IsWholeAt, join_bit, listed_object, loosened_entry, part, single_part, whole_from}
use Rattle.object_laws.specs.Lawful.{BlurIsLawful, FreshIsLawful}

pub fresh_is_lawful : FreshIsLawful
fresh_is_lawful size v some few h =
    listed_object size (λ x. single v) some few (λ x l. h) (whole_from size (λ x. single v) (λ x l. single_part size (λ y. single v) x (single v) l refl refl refl))

-- the n bits from at on are replaced, and groups that they cut are loosened
abbrev pub edged : (ℕ → Entry) → ℕ → ℕ → (ℕ → Entry) → ℕ → Entry
edged f at n inner x = if is_within x at n then inner x else (if meets f x at n then loosened (f x) else f x)

outside : (s w y at n : ℕ) → s ≤ y → y < s + w → (nat_lt s (at + n) && nat_lt at (s + w)) ≡ false → is_within y at n ≡ false
outside s w y at n a b f = grind (arith, nat_tests)

module _ (size : ℕ) (f : ℕ → Entry) (at n : ℕ) (inner : ℕ → Entry) (each : (x : ℕ) → x < size → IsEntry (f x)) (whole : IsWhole size f) where
  pub inside : (x : ℕ) → is_within x at n ≡ true → edged f at n inner x ≡ inner x
  inside x e = rw e refl

  near : (x : ℕ) → is_within x at n ≡ false → meets f x at n ≡ true → edged f at n inner x ≡ loosened (f x)
  near x e d = rw e (rw d refl)

  far : (x : ℕ) → is_within x at n ≡ false → meets f x at n ≡ false → edged f at n inner x ≡ f x
  far x e d = rw e (rw d refl)

  far_group : (x : ℕ) → x < size → meets f x at n ≡ false → (j : ℕ) → j < (f x).width
      → edged f at n inner ((x + j) - (f x).place) ≡ record { value = (f x).value; width = (f x).width; place = j }
  far_group x l d j k =
      let p = (each x l).place in
      let s = whole.start x l in
      let g = whole.group x j l k in
      let w : (f ((x + j) - (f x).place)).width ≡ (f x).width = ap (λ (t : Entry). t.width) g in
      let q : (f ((x + j) - (f x).place)).place ≡ j = ap (λ (t : Entry). t.place) g in
      let a : is_within ((x + j) - (f x).place) at n ≡ false = outside (x - (f x).place) (f x).width ((x + j) - (f x).place) at n (omega (arith, s)) (omega (arith, s, k)) d in
      let b : meets f ((x + j) - (f x).place) at n ≡ false =
      rw w (rw q (let z : ((x + j) - (f x).place) - j ≡ x - (f x).place = omega (arith, s) in rw z d)) in
      far ((x + j) - (f x).place) a b ∙ g

  parts : ((x : ℕ) → x < size → is_within x at n ≡ true → IsWholeAt size (edged f at n inner) x)
      → (x : ℕ) → x < size → (b d : Bool) → is_within x at n ≡ b → meets f x at n ≡ d → IsWholeAt size (edged f at n inner) x
  parts h x l true d e m = h x l e
  parts h x l false true e m = single_part size (edged f at n inner) x (loosened (f x)) l (near x e m) (loosened_width (f x)) (loosened_place (f x) (each x l).place)
  parts h x l false false e m = part size (edged f at n inner) x (f x) (far x e m) (whole.start x l) (whole.end x l) (far_group x l m)

  pub edged_whole : ((x : ℕ) → x < size → is_within x at n ≡ true → IsWholeAt size (edged f at n inner) x) → IsWhole size (edged f at n inner)
  edged_whole h = whole_from size (edged f at n inner) (λ x l. parts h x l (is_within x at n) (meets f x at n) refl refl)

  entries : (x : ℕ) → x < size → (b d : Bool) → is_within x at n ≡ b → ((y : ℕ) → y < size → is_within y at n ≡ true → IsEntry (inner y)) → IsEntry (if b then inner x else (if d then loosened (f x) else f x))
  entries x l true d e h = h x l e
  entries x l false true e h = loosened_entry (f x) (each x l)
  entries x l false false e h = each x l

  pub edged_entries : ((y : ℕ) → y < size → is_within y at n ≡ true → IsEntry (inner y)) → (x : ℕ) → x < size → IsEntry (edged f at n inner x)
  edged_entries h x l = entries x l (is_within x at n) (meets f x at n) refl h

-- ---- a range that is joined with one bit

blurred_bit : (ℕ → Entry) → Value → ℕ → Entry
blurred_bit f v x = single (join_values (loosened (f x)).value v)

pub blur_is_lawful : BlurIsLawful
unfolding blurred_at blurred_bit
blur_is_lawful o lo w v h bound k =
    let f = entry_at o in let inner = blurred_bit f v in
    listed_object (length o) (blurred_at f lo w v) h.some h.few
    (edged_entries (length o) f lo w inner h.entries h.whole (λ y l e. bit_entry (join_values (loosened (f y)).value v) (join_bit (loosened (f y)).value v (loosened_bit (f y) (h.entries y l)) (entry_bit (single v) k refl))))
    (edged_whole (length o) f lo w inner h.entries h.whole
    (λ x l e. single_part (length o) (edged f lo w inner) x (inner x) l (inside (length o) f lo w inner h.entries h.whole x e) refl refl))
