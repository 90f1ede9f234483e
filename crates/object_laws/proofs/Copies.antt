-- A copy gives a lawful object.
use Rattle.std.proofs.Common.{ℕ, ◌+◌, ◌-◌, ◌<◌, ◌≤◌, ◌≡◌, refl, ap, subst, ◌∙◌, Bool, true, false, arith, length}
use Rattle.std.specs.Prelude.{if◌then◌else◌}
use Rattle.std.proofs.lemmas.Bool.Decides.{nat_tests}
use Rattle.abstract_memory.specs.Objects.{Entry, IsEntry, IsWhole, entry_at, loosened, lies_in, is_within}
use Rattle.abstract_memory.specs.Writes.{copied_at}
use Rattle.abstract_memory.proofs.Groups.{loosened_place, loosened_width}
use Rattle.abstract_memory.proofs.Lawfulness.{IsWholeAt, listed_object, loosened_entry, part, single_part}
use Rattle.object_laws.specs.Lawful.{CopyIsLawful}
use Rattle.object_laws.proofs.Edges.{edged, edged_entries, edged_whole, inside}

-- bit x of the target, from the source
pub moved : (ℕ → Entry) → ℕ → ℕ → ℕ → ℕ → Entry
moved g at to n x = if lies_in g (at + (x - to)) at n then g (at + (x - to)) else loosened (g (at + (x - to)))

module _ (size many : ℕ) (f g : ℕ → Entry) (at to n : ℕ) (ef : (x : ℕ) → x < size → IsEntry (f x)) (eg : (x : ℕ) → x < many → IsEntry (g x))
    (wf : IsWhole size f) (wg : IsWhole many g) (source : at + n ≤ many) (target : to + n ≤ size) where
  from : (x : ℕ) → is_within x to n ≡ true → (to ≤ x) × (x < to + n)
  from x e = (grind (arith, nat_tests), grind (arith, nat_tests))

  moved_lies : (x : ℕ) → lies_in g (at + (x - to)) at n ≡ true → moved g at to n x ≡ g (at + (x - to))
  unfolding moved
  moved_lies x e = rw e refl

  moved_loose : (x : ℕ) → lies_in g (at + (x - to)) at n ≡ false → moved g at to n x ≡ loosened (g (at + (x - to)))
  unfolding moved
  moved_loose x e = rw e refl

  entry_cases : (x : ℕ) → x < size → is_within x to n ≡ true → (b : Bool) → IsEntry (if b then g (at + (x - to)) else loosened (g (at + (x - to))))
  entry_cases x l e true = let r = from x e in let a = r.0 in let b = r.1 in eg (at + (x - to)) (omega (arith, a, b, source))
  entry_cases x l e false = let r = from x e in let a = r.0 in let b = r.1 in loosened_entry (g (at + (x - to))) (eg (at + (x - to)) (omega (arith, a, b, source)))

  moved_entry : (x : ℕ) → x < size → is_within x to n ≡ true → IsEntry (moved g at to n x)
  unfolding moved
  moved_entry x l e = entry_cases x l e (lies_in g (at + (x - to)) at n)

  -- the group of bit x comes whole
  group : (x : ℕ) → x < size → is_within x to n ≡ true → lies_in g (at + (x - to)) at n ≡ true → (j : ℕ) → j < (g (at + (x - to))).width
      → edged f to n (moved g at to n) ((x + j) - (g (at + (x - to))).place) ≡ record { value = (g (at + (x - to))).value; width = (g (at + (x - to))).width; place = j }
  group x l e d j k =
      let r = from x e in let a = r.0 in let b = r.1 in
      let q : ℕ = at + (x - to) in
      let y : ℕ = (x + j) - (g (at + (x - to))).place in
      let p = (eg (at + (x - to)) (omega (arith, a, b, source))).place in
      let s = wg.start (at + (x - to)) (omega (arith, a, b, source)) in
      let low : at ≤ (at + (x - to)) - (g (at + (x - to))).place = grind (arith, nat_tests) in
      let high : ((at + (x - to)) - (g (at + (x - to))).place) + (g (at + (x - to))).width ≤ at + n = grind (arith, nat_tests) in
      let own = wg.group (at + (x - to)) j (omega (arith, a, b, source)) k in
      let z : ((at + (x - to)) + j) - (g (at + (x - to))).place ≡ at + (((x + j) - (g (at + (x - to))).place) - to) = omega (arith, a, s, low) in
      let there : g (at + (((x + j) - (g (at + (x - to))).place) - to)) ≡ record { value = (g (at + (x - to))).value; width = (g (at + (x - to))).width; place = j } =
      subst (λ (t : ℕ). g t ≡ record { value = (g (at + (x - to))).value; width = (g (at + (x - to))).width; place = j }) z own in
      let i : is_within ((x + j) - (g (at + (x - to))).place) to n ≡ true = within_range ((x + j) - (g (at + (x - to))).place) (omega (arith, a, s, low)) (omega (arith, a, s, low, high, k)) in
      let w : (g (at + (((x + j) - (g (at + (x - to))).place) - to))).width ≡ (g (at + (x - to))).width = ap (λ (t : Entry). t.width) there in
      let o : (g (at + (((x + j) - (g (at + (x - to))).place) - to))).place ≡ j = ap (λ (t : Entry). t.place) there in
      let lies : lies_in g (at + (((x + j) - (g (at + (x - to))).place) - to)) at n ≡ true =
      rw w (rw o (let v : (at + (((x + j) - (g (at + (x - to))).place) - to)) - j ≡ (at + (x - to)) - (g (at + (x - to))).place = omega (arith, a, s, low) in rw v d)) in
      inside size f to n (moved g at to n) ef wf ((x + j) - (g (at + (x - to))).place) i ∙ moved_lies ((x + j) - (g (at + (x - to))).place) lies ∙ there
    where
      within_range : (y : ℕ) → to ≤ y → y < to + n → is_within y to n ≡ true
      within_range y a b = grind (arith, nat_tests)

  whole_cases : (x : ℕ) → x < size → is_within x to n ≡ true → (b : Bool) → lies_in g (at + (x - to)) at n ≡ b → IsWholeAt size (edged f to n (moved g at to n)) x
  whole_cases x l e true d =
      let r = from x e in let a = r.0 in let b = r.1 in
      let s = wg.start (at + (x - to)) (omega (arith, a, b, source)) in
      let low : at ≤ (at + (x - to)) - (g (at + (x - to))).place = grind (arith, nat_tests) in
      let high : ((at + (x - to)) - (g (at + (x - to))).place) + (g (at + (x - to))).width ≤ at + n = grind (arith, nat_tests) in
      part size (edged f to n (moved g at to n)) x (g (at + (x - to))) (inside size f to n (moved g at to n) ef wf x e ∙ moved_lies x d)
      (omega (arith, a, s, low)) (omega (arith, a, b, s, low, high, target)) (group x l e d)
  whole_cases x l e false d =
      let r = from x e in let a = r.0 in let b = r.1 in
      single_part size (edged f to n (moved g at to n)) x (loosened (g (at + (x - to)))) l (inside size f to n (moved g at to n) ef wf x e ∙ moved_loose x d)
      (loosened_width (g (at + (x - to)))) (loosened_place (g (at + (x - to))) (eg (at + (x - to)) (omega (arith, a, b, source))).place)

  pub copied_entries : (x : ℕ) → x < size → IsEntry (edged f to n (moved g at to n) x)
  copied_entries = edged_entries size f to n (moved g at to n) ef wf moved_entry

  pub copied_whole : IsWhole size (edged f to n (moved g at to n))
  copied_whole = edged_whole size f to n (moved g at to n) ef wf (λ x l e. whole_cases x l e (lies_in g (at + (x - to)) at n) refl)

pub copy_is_lawful : CopyIsLawful
unfolding copied_at moved
copy_is_lawful from at o to n h k source target =
    listed_object (length o) (copied_at (entry_at from) at (entry_at o) to n) k.some k.few
    (copied_entries (length o) (length from) (entry_at o) (entry_at from) at to n k.entries h.entries k.whole h.whole source target)
    (copied_whole (length o) (length from) (entry_at o) (entry_at from) at to n k.entries h.entries k.whole h.whole source target)
