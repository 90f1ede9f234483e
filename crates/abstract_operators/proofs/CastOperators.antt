-- Casts keep the members of their operand.
use Rattle.std.proofs.Common.{◌≡◌, ℕ, List, [], ◌∷◌, pos, Ok, refl, ap, sym, subst, arith, true, false}
use Rattle.std.specs.Prelude.{Bool, cond, not}
use Rattle.std.specs.List.{All}
use Rattle.std.specs.Ordering.{int_eq}
use Rattle.std.proofs.lemmas.Int.{ints}
use Rattle.std.proofs.lemmas.List.Elements.{All-nil, All-cons, All-contains}
use Rattle.c_types.specs.declared.types.IntKind.{IntKind}
use Rattle.c_types.specs.declared.types.IntKind.TheVariants as kind
use Rattle.c_types.specs.declared.types.CType.TheVariants.{Int}
use Rattle.c_types.specs.Integers.{wrapped}
use Rattle.program.specs.declared.sites.Kind.{Kind}
use Rattle.c_memory.specs.declared.memory.Object.{Object}
use Rattle.c_meaning.specs.declared.value.Value.{Value as Concrete}
use Rattle.c_meaning.specs.declared.value.Value.TheVariants.{Number, Pointer}
use Rattle.c_arithmetic.specs.Arithmetic.{truth}
use Rattle.c_meaning.specs.Value.{converted as converted_value, equal}
use Rattle.ival.specs.Forms.{IsWellFormed, Has}
use Rattle.ival.proofs.HullMembers.{contains-here}
use Rattle.avalue.specs.Pointers.{offsets_at}
use Rattle.avalue.specs.declared.value.Value.{Value}
use Rattle.abstract_memory.specs.Values.{of_ints}
use Rattle.abstract_operators.specs.Left.{just}
use Rattle.abstract_operators.specs.Numbers.{converted}
use Rattle.abstract_operators.specs.Pointers.{null, unequal_in}
use Rattle.abstract_operators.specs.Values.{as_value, cast_in}
use Rattle.abstract_operators.specs.Members.{IsMember}
use Rattle.abstract_operators.specs.Kept.{Covers}
use Rattle.abstract_operators.proofs.Results.{one-operand}
use Rattle.abstract_operators.proofs.Conversions.{converted-keeps}
use Rattle.abstract_operators.proofs.PointerOperators.{HasNull}
use Rattle.abstract_operators.proofs.PointerComparisons.{numbers-kept, unequal-kept}
use Rattle.abstract_operators.proofs.ValueOperators.{IsNumberOf}

cast-is : (k : IntKind) (volatile : Bool) (v : Value) → cast_in (Int k volatile) false v ≡ just (of_ints (converted k v.ints))
unfolding converted
cast-is kind.Bool volatile v = refl
cast-is kind.Char volatile v = refl
cast-is kind.SChar volatile v = refl
cast-is kind.UChar volatile v = refl
cast-is kind.Short volatile v = refl
cast-is kind.UShort volatile v = refl
cast-is kind.Int volatile v = refl
cast-is kind.UInt volatile v = refl
cast-is kind.Long volatile v = refl
cast-is kind.ULong volatile v = refl
cast-is kind.LongLong volatile v = refl
cast-is kind.ULongLong volatile v = refl

-- a number in another kind
pub cast-kept : (m : List Object) (sizes : ℕ → ℕ) (from k : IntKind) (volatile : Bool) (x : Concrete) (v : Value) → IsNumberOf from v → IsMember m sizes x v
    → Covers {K = Kind} (IsMember m sizes) (Ok (converted_value (Int k volatile) x)) (cast_in (Int k volatile) false v)
cast-kept m sizes from k volatile (Number z) v h p =
    subst (λ l. Covers (IsMember m sizes) (Ok (Number (wrapped k z))) l) (sym (cast-is k volatile v)) (of_ints (converted k v.ints), refl, converted-keeps k v.ints z h.numbers.formed p)
cast-kept m sizes from k volatile (Pointer b z) v h p = absurd (subst (λ ps. Has (offsets_at ps b) z) h.no_pointers p.0)

-- a pointer as a `_Bool`
truth-same : (b : Bool) → cond b (pos 0) (pos 1) ≡ truth (not b)
truth-same true = refl
truth-same false = refl

null-only : HasNull null
null-only = record {
  formed = (one-operand (pos 0) record { above = omega (arith, ints); below = omega (arith, ints) }).0;
  only = λ x p. All-contains (λ y. y ≡ pos 0) (pos 0 ∷ []) x (All-cons (λ y. y ≡ pos 0) (pos 0) [] refl (All-nil (λ y. y ≡ pos 0))) p;
}

bool-is : (x : Concrete) (volatile : Bool) → converted_value (Int kind.Bool volatile) x ≡ Number (truth (not (equal x (Number (pos 0)))))
bool-is (Number z) volatile = ap (λ w. Number w) (truth-same (int_eq z (pos 0)))
bool-is (Pointer b o) volatile = refl

pub bool-kept : (m : List Object) (sizes : ℕ → ℕ) (volatile : Bool) (x : Concrete) (v : Value) → HasNull v → All (λ p. IsWellFormed p.1) v.ptrs → IsMember m sizes x v
    → Covers {K = Kind} (IsMember m sizes) (Ok (converted_value (Int kind.Bool volatile) x)) (cast_in (Int kind.Bool volatile) true v)
bool-kept m sizes volatile x v h all p =
    let zero : IsMember m sizes (Number (pos 0)) null = contains-here (pos 0) (pos 0) [] refl in
    subst (λ w. Covers (IsMember m sizes) (Ok w) (as_value (unequal_in v null))) (sym (bool-is x volatile))
    (numbers-kept m sizes (Ok (truth (not (equal x (Number (pos 0)))))) (unequal_in v null) (unequal-kept m sizes v null x (Number (pos 0)) h null-only all (λ c. tt) p zero))
