-- Each step on the word keeps the rule that hands out numbers.
use Rattle.std.proofs.Common.{◌≡◌, ℕ, ◌+◌, ◌-◌, ◌*◌, ◌^◌, ◌%◌, ◌<◌, ◌≤◌, ◌≢◌, cond, eqb, List, [], ◌∷◌, ◌++◌, length, set, refl, sym, ap, subst, ⊎_elim, zero-le, arith}
use Rattle.std.proofs.lemmas.Bool.{le-ltb}
use Rattle.std.proofs.lemmas.List.{length-append}
use mathlib.Core.Option.{some, some-ne-none}
use lib.ListN.{get_elem?}
use Rattle.std.specs.List.{slice_index}
use Rattle.atomic_table.specs.Table.{Allows, Splits, Joins, keeps}
use Rattle.atomic_table.proofs.Lists.{at_set, at_snoc, set_else, set_again}
use Rattle.entry_workers.specs.declared.draws.Hand.{Hand}
use Rattle.entry_workers.specs.Lists.{times, once_below}
use Rattle.entry_workers.specs.Drawing.{hand, all_parts, Handed, EachOnce, Drew, Learned}
use Rattle.entry_workers.proofs.Totals.{total-append, total-set, part-le, total-le, times-le, times-more, once-more}

abbrev Fits : Hand → Type 0
Fits v = length v.drawn ≤ v.parts * 2 ^ 40

abbrev Room : List Hand → Type 0
Room views = (seat : ℕ) (v : Hand) → get_elem? views seat ≡ some v → Fits v

room-set : (views : List Hand) (i : ℕ) (w : Hand) → Room views → Fits w → Room (set views i w)
room-set views i w r f j u e = ⊎_elim (λ (t : (j ≡ i) × (w ≡ u)). subst Fits t.1 f) (λ (t : (j ≢ i) × (get_elem? views j ≡ some u)). r j u t.1) (at_set views i j w u e)

room-more : (views : List Hand) (w : Hand) → Room views → Fits w → Room (views ++ w ∷ [])
room-more views w r f j u e = ⊎_elim (λ h. r j u h) (λ (same : w ≡ u). subst Fits same f) (at_snoc views w u j e)

room-one : (w : Hand) → Fits w → Room (w ∷ [])
room-one w f = room-more [] w (λ j u e. absurd (none j u e)) f
  where
    none : (j : ℕ) (u : Hand) → get_elem? [] j ≡ some u → ⊥
    none j u e = some-ne-none u (sym e)

pub opens : EachOnce 0 (hand all_parts [] ∷ [])
opens = record { parts = refl; once = λ x. sym (ap (λ b. cond b 1 0) (le-ltb x 0 zero-le)); draws = refl; room = room-one (hand all_parts []) zero-le }

-- how many numbers were drawn at most
pub few : (word : ℕ) (views : List Hand) → EachOnce word views → word ≤ 2 ^ 46
few word views h = let a = total-le (λ v. length v.drawn) (λ v. v.parts) views h.room in let b = h.draws in let c = h.parts in omega arith

pub drawn-le : (id : ℕ) (v : Hand) (word : ℕ) (views : List Hand) → EachOnce word views → get_elem? views id ≡ some v → length v.drawn ≤ word
drawn-le id v word views h at = let a = part-le (λ u. length u.drawn) views id v at in let b = h.draws in omega arith

pub draws : (id : ℕ) (v : Hand) (word : ℕ) (views : List Hand) → EachOnce word views → get_elem? views id ≡ some v → length v.drawn < v.parts * 2 ^ 40
    → EachOnce (word + 1) (set views id (hand v.parts (v.drawn ++ word ∷ [])))
draws id v word views h at r = let w = hand v.parts (v.drawn ++ word ∷ []) in let more = length-append v.drawn (word ∷ []) in record {
  parts = (let q = total-set (λ u. u.parts) views id v w at in let p = h.parts in omega arith);
  once = λ x. (let q = total-set (λ u. times x u.drawn) views id v w at in let p = h.once x in let m = times-more x v.drawn word in let o = once-more x word in omega arith);
  draws = (let q = total-set (λ u. length u.drawn) views id v w at in let p = h.draws in omega arith);
  room = room-set views id w h.room (omega arith);
}

pub splits : (id : ℕ) (v : Hand) (word : ℕ) (views : List Hand) → EachOnce word views → get_elem? views id ≡ some v → 0 < v.parts → v.drawn ≡ []
    → EachOnce word (set views id (hand (v.parts - 1) v.drawn) ++ hand 1 [] ∷ [])
splits id v word views h at some_part idle = let w = hand (v.parts - 1) v.drawn in let one = hand 1 [] in let kept = set views id w in record {
  parts = (let q = total-set (λ u. u.parts) views id v w at in let p = h.parts in let a = total-append (λ u. u.parts) kept (one ∷ []) in omega arith);
  once = λ x. (let q = total-set (λ u. times x u.drawn) views id v w at in let p = h.once x in let a = total-append (λ u. times x u.drawn) kept (one ∷ []) in omega arith);
  draws = (let q = total-set (λ u. length u.drawn) views id v w at in let p = h.draws in let a = total-append (λ u. length u.drawn) kept (one ∷ []) in omega arith);
  room = room-more kept one (room-set views id w h.room (subst (λ (l : List ℕ). length l ≤ (v.parts - 1) * 2 ^ 40) (sym idle) zero-le)) zero-le;
}

pub joins : (id : ℕ) (v : Hand) (other : ℕ) (u : Hand) (word : ℕ) (views : List Hand) → EachOnce word views → get_elem? views id ≡ some v
    → get_elem? (set views id (hand (v.parts + u.parts) (v.drawn ++ u.drawn))) other ≡ some u → ¬ (other ≡ id)
    → EachOnce word (set (set views id (hand (v.parts + u.parts) (v.drawn ++ u.drawn))) other (hand 0 []))
joins id v other u word views h at there apart = let w = hand (v.parts + u.parts) (v.drawn ++ u.drawn) in let none = hand 0 [] in let kept = set views id w in
    let mine : Fits v = h.room id v at in let was : get_elem? views other ≡ some u = subst (λ o. o ≡ some u) (set_else views id other w apart) there in
    let theirs : Fits u = h.room other u was in let longer = length-append v.drawn u.drawn in record {
      parts = (let q = total-set (λ z. z.parts) views id v w at in let r = total-set (λ z. z.parts) kept other u none there in let p = h.parts in omega arith);
      once = λ x. (let q = total-set (λ z. times x z.drawn) views id v w at in let r = total-set (λ z. times x z.drawn) kept other u none there in let p = h.once x in
          let a = total-append (λ y. cond (eqb y x) 1 0) v.drawn u.drawn in omega arith);
      draws = (let q = total-set (λ z. length z.drawn) views id v w at in let r = total-set (λ z. length z.drawn) kept other u none there in let p = h.draws in omega arith);
      room = room-set kept other none (room-set views id w h.room (omega arith)) zero-le;
    }

-- where a seat has all parts, no other has drawn
pub learns : (id : ℕ) (v : Hand) (word : ℕ) (views : List Hand) → EachOnce word views → get_elem? views id ≡ some v → v.parts ≡ all_parts
    → (x : ℕ) → times x v.drawn ≡ once_below x word
learns id v word views h at all x = let w = hand 0 [] in let others = set views id w in
    let p = total-set (λ z. z.parts) views id v w at in let q = total-set (λ z. times x z.drawn) views id v w at in let e = h.parts in let o = h.once x in
    let r : Room others = room-set views id w h.room zero-le in
    let t = total-le (λ z. times x z.drawn) (λ z. z.parts) others (λ j u there. below x u (r j u there)) in omega arith
  where
    below : (x : ℕ) (u : Hand) → Fits u → times x u.drawn ≤ u.parts * 2 ^ 40
    below x u f = let a = times-le x u.drawn in let b : length u.drawn ≤ u.parts * 2 ^ 40 = f in omega arith

set-word : (words : List ℕ) (word x : ℕ) → words ≡ word ∷ [] → set words 0 x ≡ x ∷ []
set-word words word x e = ap (λ l. set l 0 x) e

-- as the table asks
pub takes : (slots id : ℕ) (v : Hand) (carried : List (ℕ × Unit {0})) → length v.drawn < v.parts * 2 ^ 40
    → Allows Handed slots id (v, carried) 0 (λ n. (n + 1) % 2 ^ 64) (λ found after. (after.1 ≡ carried) × Drew v found after.0)
takes slots id v carried r s h len at lt = let n = slice_index s.words 0 in let found : n ≡ h.0 = ap (λ l. slice_index l 0) h.1 in
    let each : EachOnce n s.views = subst (λ k. EachOnce k s.views) (sym found) h.2 in let small = few n s.views each in
    let next : (n + 1) % 2 ^ 64 ≡ n + 1 = omega arith in (
      hand v.parts (v.drawn ++ n ∷ []),
      keeps,
      tt,
      (
        (n + 1) % 2 ^ 64,
        set-word s.words h.0 ((n + 1) % 2 ^ 64) h.1,
        subst (λ k. EachOnce k (set s.views id (hand v.parts (v.drawn ++ n ∷ [])))) (sym next) (draws id v n s.views each at r),
      ),
      (refl, record { drawn = refl; rises = drawn-le id v n s.views each at }),
    )

pub looks : (slots id : ℕ) (v : Hand) (carried : List (ℕ × Unit {0})) → v.parts ≡ all_parts
    → Allows Handed slots id (v, carried) 0 (λ n. n) (λ found after. (after.1 ≡ carried) × Learned v found after.0)
looks slots id v carried all s h len at lt = let n = slice_index s.words 0 in let found : n ≡ h.0 = ap (λ l. slice_index l 0) h.1 in
    let each : EachOnce n s.views = subst (λ k. EachOnce k s.views) (sym found) h.2 in (
      v,
      keeps,
      tt,
      (n, set-word s.words h.0 n h.1, subst (λ l. EachOnce n l) (sym (set_again s.views id v at)) each),
      (refl, record { same = refl; once = λ p. learns id v n s.views each at all }),
    )

pub cuts : (id : ℕ) (v : Hand) → 0 < v.parts → v.drawn ≡ [] → Splits Handed id v (hand (v.parts - 1) v.drawn) (hand 1 [])
cuts id v some_part idle s h at = (h.0, h.1, splits id v h.0 s.views h.2 at some_part idle)

pub merges : (id : ℕ) (v : Hand) (other : ℕ) (u : Hand) → Joins Handed id v other u (hand (v.parts + u.parts) (v.drawn ++ u.drawn)) (hand 0 [])
merges id v other u s h at apart there = (h.0, h.1, joins id v other u h.0 s.views h.2 at there apart)
