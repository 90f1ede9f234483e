-- A comment goes to the end of its line, or to the first `*/`.
use Rattle.std.proofs.Common.{◌≡◌, ℕ, zero, suc, ◌+◌, ◌<◌, ◌≤◌, true, false, ◌⊎◌, inl, inr, [], ◌∷◌, ◌++◌, length, take, get_or, Option, Some, None, refl, sym, ap, ◌∙◌, subst, arith, length-append, append_assoc}
use Rattle.std.specs.Prelude.{◌&&◌, ◌==◌, slice_index}
use Rattle.std.specs.List.{prefix_len}
use Rattle.std.proofs.Math.Seq.{take-suc}
use Rattle.std.proofs.lemmas.Bool.{cases_lt, eqb-true}
use Rattle.std.proofs.lemmas.List.{get_or-take, length-take-le, get_or_past}
use Rattle.std.proofs.lemmas.List.Sums.{prefix_len_passes, prefix_len_stops, prefix_len-le-length}
use Rattle.c_lex.specs.Bytes.{Text, is_in}
use Rattle.c_lex.specs.Literal.{before_close, comment_len}
use Rattle.c_lex.specs.Rules.{IsComment, line, block, Longest}
use Rattle.c_lex.specs.declared.class.Class.TheVariants as class
use Rattle.c_lex.proofs.Numbers.{cases, and_true, or_true}
use Rattle.c_lex.proofs.Pieces.{BeginsComment, chosen}

-- ---- what a comment says

line_each : (w : Text) → IsComment w → (u : Text) → w ≡ 47 ∷ 47 ∷ u → (i : ℕ) → i < length u → is_in class.Line (get_or u i 0) ≡ true
line_each w (line v each) u e i lt =
    let same : v ≡ u = cc in
    let short : i < length v = rw same lt in
    rw (← same) (each i short)
line_each w (block v close) u e i lt = absurd (let f = ap (λ (y : Text). get_or y 1 0) e in let g : 42 ≡ 47 = f in omega (arith, g))

block_close : (w : Text) → IsComment w → (u : Text) → w ≡ 47 ∷ 42 ∷ u → before_close u + 2 ≡ length u
block_close w (line v each) u e = absurd (let f = ap (λ (y : Text). get_or y 1 0) e in let g : 47 ≡ 42 = f in omega (arith, g))
block_close w (block v close) u e =
    let same : v ++ 42 ∷ 47 ∷ [] ≡ u = cc in
    rw (← same) (omega (arith, close, length-append v (42 ∷ 47 ∷ [])))

-- ---- one up to the end of its line

line_ends : (y : Text) (k m : ℕ) → prefix_len (is_in class.Line) y ≡ k → suc (suc k) < m → m ≤ length (47 ∷ 47 ∷ y) →
    IsComment (take m (47 ∷ 47 ∷ y)) → ⊥
line_ends y k zero is lt le c = absurd (omega arith)
line_ends y k (suc zero) is lt le c = absurd (omega arith)
line_ends y k (suc (suc m)) is lt le c =
    let long = length-take-le m y (omega arith) in
    let goes = line_each (47 ∷ 47 ∷ take m y) c (take m y) refl k (omega (arith, long)) in
    let here = rw (get_or-take m y k 0 (omega arith)) at goes in
    let there = rw is at (prefix_len_stops (is_in class.Line) y 0 (omega (arith, is))) in
    absurd (cc (here, there))

line_longest : (y : Text) (n : ℕ) → 2 + prefix_len (is_in class.Line) y ≡ n → Longest IsComment (47 ∷ 47 ∷ y) n
line_longest y zero e = absurd (omega (arith, e))
line_longest y (suc zero) e = absurd (omega (arith, e))
line_longest y (suc (suc k)) e =
    let is : prefix_len (is_in class.Line) y ≡ k = omega (arith, e) in
    let within = prefix_len-le-length (is_in class.Line) y in
    record {
      within = omega (arith, is, within);
      is = line (take k y) (λ i lt.
          let long = length-take-le k y (omega (arith, is, within)) in
          let same = get_or-take k y i 0 (omega (arith, long)) in
          rw same (prefix_len_passes (is_in class.Line) y i 0 (omega (arith, is, long))));
      longest = λ m lt le is_one. line_ends y k m is lt le is_one;
    }

-- ---- a byte that isn't 0 lies in the text

within_at : (y : Text) (k c : ℕ) → get_or y k 0 ≡ c → 0 < c → k < length y
within_at y k c e some = elim (cases_lt k (length y)) [
  | inl l ↦ l
  | inr g ↦ absurd (omega (arith, e, get_or_past y k 0 g))
]

-- ---- one up to the first `*/`

close_found : (y : Text) → before_close y < length y → (get_or y (before_close y) 0 ≡ 42) × (get_or y (suc (before_close y)) 0 ≡ 47)
close_found [] h = absurd (omega arith)
close_found (b ∷ z) h = elim (cases (b == 42 && slice_index z 0 == 47)) [
  | inl e ↦ let p = and_true (b == 42) _ e in rw e (eqb-true b 42 p.0, eqb-true (slice_index z 0) 47 p.1)
  | inr e ↦ let g = rw e at h in rw e (close_found z (omega (arith, g)))
]

close_front : (y : Text) (m : ℕ) → before_close y + 2 ≤ m → m ≤ length y → before_close (take m y) ≡ before_close y
close_front [] m h le = absurd (omega arith)
close_front (b ∷ z) zero h le = absurd (omega arith)
close_front (b ∷ z) (suc zero) h le = absurd (omega arith)
close_front (b ∷ z) (suc (suc m)) h le =
    let next = get_or-take (suc m) z 0 0 (omega arith) in
    elim (cases (b == 42 && slice_index z 0 == 47)) [
      | inl e ↦ rw (next, e) refl
      | inr e ↦ let g = rw e at h in rw (next, e) (ap suc (close_front z (suc m) (omega (arith, g)) (omega arith)))
    ]

two_more : (y : Text) (k : ℕ) → suc k < length y → take (suc (suc k)) y ≡ take k y ++ get_or y k 0 ∷ get_or y (suc k) 0 ∷ []
two_more y k lt = rw (take-suc y (suc k) 0 lt, take-suc y k 0 (omega arith)) (append_assoc (take k y) (get_or y k 0 ∷ []) (get_or y (suc k) 0 ∷ []))

block_ends : (y : Text) (k m : ℕ) → before_close y ≡ k → suc (suc (suc (suc k))) < m → m ≤ length (47 ∷ 42 ∷ y) →
    IsComment (take m (47 ∷ 42 ∷ y)) → ⊥
block_ends y k zero is lt le c = absurd (omega arith)
block_ends y k (suc zero) is lt le c = absurd (omega arith)
block_ends y k (suc (suc m)) is lt le c =
    let long = length-take-le m y (omega arith) in
    let close = block_close (47 ∷ 42 ∷ take m y) c (take m y) refl in
    let front = close_front y m (omega (arith, is)) (omega arith) in
    absurd (omega (arith, is, long, close, front))

block_longest : (y : Text) (k : ℕ) → before_close y ≡ k → k < length y → Longest IsComment (47 ∷ 42 ∷ y) (suc (suc (suc (suc k))))
block_longest y k is lt =
    let found = close_found y (omega (arith, is)) in
    let star : get_or y k 0 ≡ 42 = rw is at found.0 in
    let slash : get_or y (suc k) 0 ≡ 47 = rw is at found.1 in
    let short : suc k < length y = within_at y (suc k) 47 slash (omega arith) in
    let front : take (suc (suc k)) y ≡ take k y ++ 42 ∷ 47 ∷ [] = rw (← star, ← slash) (two_more y k short) in
    let close : before_close (take k y ++ 42 ∷ 47 ∷ []) ≡ length (take k y) =
    rw (← front) (close_front y (suc (suc k)) (omega (arith, is)) (omega arith) ∙ is ∙ sym (length-take-le k y (omega arith))) in
    let body = block (take k y) close in
    record {
      within = omega arith;
      is = subst (λ (t : Text). IsComment (47 ∷ 42 ∷ t)) (sym front) body;
      longest = λ m more le is_one. block_ends y k m is more le is_one;
    }

-- ---- both

two_on : (a b : ℕ) (y : Text) (k : ℕ) → get_or (a ∷ b ∷ y) (2 + k) 0 ≡ get_or y k 0
two_on a b y k = let e : 2 + k ≡ suc (suc k) = omega arith in ap (λ j. get_or (a ∷ b ∷ y) j 0) e

some_is : (x y : ℕ) → ◌≡◌ {A = Option ℕ} (Some x) (Some y) → x ≡ y
some_is x y h = cc

by_kind : (b : ℕ) (y : Text) (n : ℕ) → ((b == 42) ≡ true) ⊎ ((b == 47) ≡ true) → comment_len (47 ∷ b ∷ y) ≡ Some n → Longest IsComment (47 ∷ b ∷ y) n
unfolding comment_len
by_kind b y n kind e = elim (chosen (b == 47) _ _ (Some n) e) [
  | inl f ↦ rw (eqb-true b 47 f.0) (line_longest y n (some_is _ n f.1))
  | inr f ↦ elim (chosen (slice_index (47 ∷ b ∷ y) (2 + before_close y) == 42) _ _ (Some n) f.1) [
    | inl g ↦
        let star : get_or y (before_close y) 0 ≡ 42 = sym (two_on 47 b y (before_close y)) ∙ eqb-true _ 42 g.0 in
        let len : suc (suc (suc (suc (before_close y)))) ≡ n = omega (arith, some_is _ n g.1) in
        let is : b ≡ 42 = elim kind [ inl h ↦ eqb-true b 42 h | inr h ↦ absurd (cc (h, f.0)) ] in
        rw is (subst (Longest IsComment (47 ∷ 42 ∷ y)) len (block_longest y (before_close y) refl (within_at y (before_close y) 42 star (omega arith))))
    | inr g ↦ absurd (let h : ◌≡◌ {A = Option ℕ} None (Some n) = g.1 in cc)
  ]
]

pub comment_longest : (z : Text) (n : ℕ) → BeginsComment z → comment_len z ≡ Some n → Longest IsComment z n
comment_longest [] n h e = absurd (let f : false ≡ true = h in cc)
comment_longest (a ∷ []) n h e = absurd (let f : false ≡ true = (and_true (a == 47) _ h).1 in cc)
comment_longest (a ∷ b ∷ y) n h e =
    let p = and_true (a == 47) _ h in
    let is = eqb-true a 47 p.0 in
    let there : comment_len (47 ∷ b ∷ y) ≡ Some n = rw (← is) e in
    rw is (by_kind b y n (or_true (b == 42) (b == 47) p.1) there)
