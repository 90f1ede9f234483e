-- Lists of pairs with rising keys: two that have the same value at each key are equal.
use Rattle.std.proofs.Common.{◌≡◌, ◌≢◌, ℕ, ◌<◌, List, [], ◌∷◌, ◌++◌, sym, refl, ap, ◌∙◌, Bool, true, false, cond, eqb, Option, Some, None, arith, inl, inr}
use Rattle.std.specs.List.{All}
use Rattle.std.specs.Map.{lookup}
use Rattle.std.proofs.lemmas.Bool.{cases_lt}
use Rattle.std.proofs.lemmas.Bool.Decides.{nat_tests}
use Rattle.std.proofs.lemmas.List.Elements.{All-head, All-tail, All-cons, All-nil}
use Rattle.ival.specs.Forms.{HasEnds}
use Rattle.ival.specs.declared.forms.Ival.{Ival}
use Rattle.ival.specs.declared.forms.Ival.TheVariants.{Empty, Set, Range, All as Every}
use Rattle.avalue.specs.Pointers.{ArePointers, AreRising, IsPointer, Pointer, offsets_at}

module _ {X : Type 0} where
  abbrev pub KeysAre : (ℕ → Type 0) → List (ℕ × X) → Type 0
  KeysAre P [] = Unit {0}
  KeysAre P (e ∷ es) = P e.0 × KeysAre P es

  abbrev pub Rises : List (ℕ × X) → Type 0
  Rises [] = Unit {0}
  Rises (e ∷ es) = KeysAre (λ k. e.0 < k) es × Rises es

  pub keys_weaker : (P Q : ℕ → Type 0) (es : List (ℕ × X)) → ((k : ℕ) → P k → Q k) → KeysAre P es → KeysAre Q es
  keys_weaker P Q [] f a = tt
  keys_weaker P Q (e ∷ es) f a = (f e.0 a.0, keys_weaker P Q es f a.1)

  pub keys_both : (P : ℕ → Type 0) (es ds : List (ℕ × X)) → KeysAre P es → KeysAre P ds → KeysAre P (es ++ ds)
  keys_both P [] ds a b = b
  keys_both P (e ∷ es) ds a b = (a.0, keys_both P es ds a.1 b)

  pub missing : (x : ℕ) (es : List (ℕ × X)) → KeysAre (λ k. x < k) es → lookup (λ k. eqb k x) es ≡ None
  missing x [] a = refl
  missing x (e ∷ es) a = let l = a.0 in let t : eqb e.0 x ≡ false = grind (arith, nat_tests) in rw t (missing x es a.1)

  here : (e : ℕ × X) (es : List (ℕ × X)) → lookup (λ k. eqb k e.0) (e ∷ es) ≡ Some e.1
  here e es = let t : eqb e.0 e.0 ≡ true = grind (arith, nat_tests) in rw t refl

  there : (e : ℕ × X) (es : List (ℕ × X)) (x : ℕ) → e.0 ≢ x → lookup (λ k. eqb k x) (e ∷ es) ≡ lookup (λ k. eqb k x) es
  there e es x n = let t : eqb e.0 x ≡ false = grind (arith, nat_tests) in rw t refl

  none_some : (a : X) → None ≡ Some a → ⊥
  none_some a e = cc

  some_same : (a b : X) → Some a ≡ Some b → a ≡ b
  some_same a b e = cc

  pair_same : (k j : ℕ) (a b : X) → k ≡ j → a ≡ b → ◌≡◌ {A = ℕ × X} (k, a) (j, b)
  pair_same k j a b e f = ap (λ (t : ℕ). let p : ℕ × X = (t, a) in p) e ∙ ap (λ (t : X). let p : ℕ × X = (j, t) in p) f

  -- two with the same value at each key are equal
  pub one_list : (es ds : List (ℕ × X)) → Rises es → Rises ds → ((x : ℕ) → lookup (λ k. eqb k x) es ≡ lookup (λ k. eqb k x) ds) → es ≡ ds
  one_list [] [] r t h = refl
  one_list [] (d ∷ ds) r t h = absurd (none_some d.1 (h d.0 ∙ here d ds))
  one_list (e ∷ es) [] r t h = absurd (none_some e.1 (sym (h e.0) ∙ here e es))
  one_list (e ∷ es) (d ∷ ds) r t h =
      elim (cases_lt e.0 d.0) [
        | inl l ↦ absurd (none_some e.1 (sym (missing e.0 (d ∷ ds) (l, keys_weaker (λ k. d.0 < k) (λ k. e.0 < k) ds (λ k m. omega (arith, l, m)) t.0)) ∙ sym (h e.0) ∙ here e es))
        | inr l ↦ elim (cases_lt d.0 e.0) [
          | inl g ↦ absurd (none_some d.1 (sym (missing d.0 (e ∷ es) (g, keys_weaker (λ k. e.0 < k) (λ k. d.0 < k) es (λ k m. omega (arith, g, m)) r.0)) ∙ h d.0 ∙ here d ds))
          | inr g ↦
              let q : e.0 ≡ d.0 = omega (arith, l, g) in
              let v : e.1 ≡ d.1 = some_same e.1 d.1 (sym (here e es) ∙ h e.0 ∙ ap (λ x. lookup (λ k. eqb k x) (d ∷ ds)) q ∙ here d ds) in
              let rest : es ≡ ds = one_list es ds r.1 t.1 (λ x. after e es d ds x q r.0 t.0 (h x)) in
              ap (λ (y : ℕ × X). y ∷ es) (pair_same e.0 d.0 e.1 d.1 q v) ∙ ap (λ ys. d ∷ ys) rest
        ]
      ]
    where
      after : (e : ℕ × X) (es : List (ℕ × X)) (d : ℕ × X) (ds : List (ℕ × X)) (x : ℕ) → e.0 ≡ d.0 → KeysAre (λ k. e.0 < k) es → KeysAre (λ k. d.0 < k) ds
          → lookup (λ k. eqb k x) (e ∷ es) ≡ lookup (λ k. eqb k x) (d ∷ ds) → lookup (λ k. eqb k x) es ≡ lookup (λ k. eqb k x) ds
      after e es d ds x q a b h =
          elim (cases_lt e.0 x) [
            | inl l ↦ sym (there e es x (λ z. omega (arith, z, l))) ∙ h ∙ there d ds x (λ z. omega (arith, z, l, q))
            | inr l ↦ missing x es (keys_weaker (λ k. e.0 < k) (λ k. x < k) es (λ k m. omega (arith, l, m)) a) ∙ sym (missing x ds (keys_weaker (λ k. d.0 < k) (λ k. x < k) ds (λ k m. omega (arith, l, m, q)) b))
          ]

  -- each pair is found
  pub found : (es : List (ℕ × X)) → Rises es → All (λ e. lookup (λ k. eqb k e.0) es ≡ Some e.1) es
  found [] r = All-nil (λ e. None ≡ Some e.1)
  found (e ∷ es) r = All-cons (λ d. lookup (λ k. eqb k d.0) (e ∷ es) ≡ Some d.1) e es (here e es) (later e es es r.0 (found es r.1))
    where
      later : (e : ℕ × X) (es ds : List (ℕ × X)) → KeysAre (λ k. e.0 < k) ds → All (λ d. lookup (λ k. eqb k d.0) es ≡ Some d.1) ds → All (λ d. lookup (λ k. eqb k d.0) (e ∷ es) ≡ Some d.1) ds
      later e es [] a h = All-nil (λ d. lookup (λ k. eqb k d.0) (e ∷ es) ≡ Some d.1)
      later e es (d ∷ ds) a h =
          All-cons (λ y. lookup (λ k. eqb k y.0) (e ∷ es) ≡ Some y.1) d ds
          (let l = a.0 in there e es d.0 (λ z. omega (arith, z, l)) ∙ All-head (λ y. lookup (λ k. eqb k y.0) es ≡ Some y.1) d ds h)
          (later e es ds a.1 (All-tail (λ y. lookup (λ k. eqb k y.0) es ≡ Some y.1) d ds h))

-- ---- pointers

pub rising_keys : (ps : List Pointer) → AreRising ps → Rises ps
rising_keys [] r = tt
rising_keys (p ∷ []) r = (tt, tt)
rising_keys (p ∷ q ∷ rest) r =
    let t : Rises (q ∷ rest) = rising_keys (q ∷ rest) r.1 in let l = r.0 in
    ((l, keys_weaker (λ k. q.0 < k) (λ k. p.0 < k) rest (λ k m. omega (arith, l, m)) t.0), t)

as_option : Ival → Option Ival
as_option Empty = None
as_option (Set xs) = Some (Set xs)
as_option (Range lo hi r m) = Some (Range lo hi r m)
as_option Every = Some Every

some_ends : (x : Ival) → HasEnds x → Some x ≡ as_option x
unfolding as_option
some_ends Empty h = absurd h
some_ends (Set xs) h = refl
some_ends (Range lo hi r m) h = refl
some_ends Every h = refl

lookup_offsets : (ps : List Pointer) (x : ℕ) → All IsPointer ps → lookup (λ k. eqb k x) ps ≡ as_option (offsets_at ps x)
unfolding as_option
lookup_offsets [] x h = refl
lookup_offsets (p ∷ ps) x h =
    elim (eqb p.0 x) as (λ (b : Bool). cond b (Some p.1) (lookup (λ k. eqb k x) ps) ≡ as_option (cond b p.1 (offsets_at ps x))) [
      | true ↦ some_ends p.1 (All-head IsPointer p ps h)
      | false ↦ lookup_offsets ps x (All-tail IsPointer p ps h)
    ]

-- two lists of pointers with the same offsets of each base are equal
pub one_pointers : (ps qs : List Pointer) → ArePointers ps → ArePointers qs → ((base : ℕ) → offsets_at ps base ≡ offsets_at qs base) → ps ≡ qs
one_pointers ps qs h k e =
    one_list ps qs (rising_keys ps h.rising) (rising_keys qs k.rising) (λ x. lookup_offsets ps x h.each ∙ ap as_option (e x) ∙ sym (lookup_offsets qs x k.each))
