-- Offsets by base: those within limits, those moved, and whether some stray.
use Rattle.std.proofs.Common.{◌≡◌, ℕ, List, [], ◌∷◌, ℤ, pos, ◌+ℤ◌, refl, ap, sym, subst, arith, true, false}
use Rattle.std.specs.Prelude.{Bool, cond, not, ◌||◌, nat_eq}
use Rattle.std.specs.List.{All}
use Rattle.std.proofs.lemmas.Int.{ints}
use Rattle.std.proofs.lemmas.Bool.Decides.{Decides-eqb}
use Rattle.std.proofs.lemmas.List.Elements.{All-head, All-tail}
use Rattle.ival.specs.declared.forms.Ival.{Ival}
use Rattle.ival.specs.declared.forms.Ival.TheVariants.{Empty, Set, Range, All as Every}
use Rattle.ival.specs.Forms.{IsBounded, IsOperand, IsWellFormed, HasEnds, Has, is_empty}
use Rattle.ival.specs.Arithmetic.{add_of}
use Rattle.ival.proofs.SumMembers.{add-keeps}
use Rattle.avalue.specs.Pointers.{Pointer, offsets_at, IsPointer}
use Rattle.abstract_memory.specs.Values.{has_no_pointers}
use Rattle.abstract_operators.specs.Numbers.{met, strays}
use Rattle.abstract_operators.specs.Pointers.{moved_by, within_limits, exceed_limits}
use Rattle.abstract_operators.proofs.Limits.{IsFrom}
pub use Rattle.abstract_operators.specs.Conditions.{IsOperandPointer}
use Rattle.abstract_operators.proofs.Conversions.{by-bool, met-keeps, strays-outside}

pub ends-formed : (a : Ival) → HasEnds a → IsWellFormed a
ends-formed Empty h = tt
ends-formed (Set xs) h = h
ends-formed (Range lo hi r m) h = h
ends-formed Every h = tt

pub not-empty : (a : Ival) (x : ℤ) → Has a x → is_empty a ≡ false
not-empty Empty x h = absurd h
not-empty (Set xs) x h = refl
not-empty (Range lo hi r m) x h = refl
not-empty Every x h = refl

-- a limit of a base that a set may have as an end
pub record AreLimits (limit : ℕ → ℤ) : Type 0 where
  pub bounded : (b : ℕ) → IsBounded (limit b)

zero-bounded : IsBounded (pos 0)
zero-bounded = record { above = omega (arith, ints); below = omega (arith, ints) }

pub in-limits : (limit : ℕ → ℤ) (ps : List Pointer) (b : ℕ) (o : ℤ) → AreLimits limit → All IsPointer ps → Has (offsets_at ps b) o → IsFrom (pos 0) (limit b) o → Has (offsets_at (within_limits limit ps) b) o
in-limits limit [] b o l all h from = absurd h
in-limits limit (p ∷ rest) b o l all h from =
    let q = met p.1 (pos 0) (limit p.0) in
    let kept = within_limits limit rest in
    let Goal : Bool → Type 0 = λ c. Has (offsets_at (cond c ((p.0, q) ∷ kept) kept) b) o in
    by-bool (λ c. nat_eq p.0 b ≡ c → Has (cond c p.1 (offsets_at rest b)) o → Goal (not (is_empty q))) (nat_eq p.0 b)
    (λ t. λ (e : nat_eq p.0 b ≡ true) (k : Has p.1 o).
    let same : p.0 ≡ b = (Decides-eqb p.0 b).0 e in
    let inside : IsFrom (pos 0) (limit p.0) o = subst (λ (c : ℕ). IsFrom (pos 0) (limit c) o) (sym same) from in
    let there : Has q o = met-keeps p.1 (pos 0) (limit p.0) o (ends-formed p.1 (All-head IsPointer p rest all)) zero-bounded (l.bounded p.0) k inside in
    subst Goal (sym (ap not (not-empty q o there))) (subst (λ c. Has (cond c q (offsets_at kept b)) o) (sym e) there))
    (λ t. λ (e : nat_eq p.0 b ≡ false) (k : Has (offsets_at rest b) o).
    let ih : Has (offsets_at kept b) o = in-limits limit rest b o l (All-tail IsPointer p rest all) k from in
    by-bool Goal (not (is_empty q)) (λ u. subst (λ c. Has (cond c q (offsets_at kept b)) o) (sym e) ih) (λ u. ih))
    refl h

pub out-of-limits : (limit : ℕ → ℤ) (ps : List Pointer) (b : ℕ) (o : ℤ) → AreLimits limit → All IsPointer ps → Has (offsets_at ps b) o → (IsFrom (pos 0) (limit b) o → ⊥) → exceed_limits limit ps ≡ true
out-of-limits limit [] b o l all h out = absurd h
out-of-limits limit (p ∷ rest) b o l all h out =
    let s = strays p.1 (pos 0) (limit p.0) in
    by-bool (λ c. nat_eq p.0 b ≡ c → Has (cond c p.1 (offsets_at rest b)) o → (s || exceed_limits limit rest) ≡ true) (nat_eq p.0 b)
    (λ t. λ (e : nat_eq p.0 b ≡ true) (k : Has p.1 o).
    let same : p.0 ≡ b = (Decides-eqb p.0 b).0 e in
    let far : IsFrom (pos 0) (limit p.0) o → ⊥ = λ from. out (subst (λ (c : ℕ). IsFrom (pos 0) (limit c) o) same from) in
    ap (λ c. c || exceed_limits limit rest) (strays-outside p.1 (pos 0) (limit p.0) o (ends-formed p.1 (All-head IsPointer p rest all)) zero-bounded (l.bounded p.0) k far))
    (λ t. λ (e : nat_eq p.0 b ≡ false) (k : Has (offsets_at rest b) o).
    let ih = out-of-limits limit rest b o l (All-tail IsPointer p rest all) k out in
    by-bool (λ c. (c || exceed_limits limit rest) ≡ true) s (λ u. refl) (λ u. ih))
    refl h

pub moved-has : (d : Ival) (ps : List Pointer) (b : ℕ) (o x : ℤ) → All IsOperandPointer ps → IsOperand d → Has (offsets_at ps b) o → Has d x → Has (offsets_at (moved_by d ps) b) (o +ℤ x)
moved-has d [] b o x all g h k = absurd h
moved-has d (p ∷ rest) b o x all g h k =
    by-bool (λ c. Has (cond c p.1 (offsets_at rest b)) o → Has (cond c (add_of p.1 d) (offsets_at (moved_by d rest) b)) (o +ℤ x)) (nat_eq p.0 b)
    (λ t. λ (q : Has p.1 o). add-keeps p.1 d (All-head IsOperandPointer p rest all) g o x (o +ℤ x) q k refl)
    (λ t. λ (q : Has (offsets_at rest b) o). moved-has d rest b o x (All-tail IsOperandPointer p rest all) g q k)
    h

pub some-pointers : (ps : List Pointer) (b : ℕ) (o : ℤ) → Has (offsets_at ps b) o → has_no_pointers ps ≡ false
some-pointers [] b o h = absurd h
some-pointers (p ∷ ps) b o h = refl
