-- A set of one number.
use Rattle.std.proofs.Common.{◌≡◌, zero, suc, [], ◌∷◌, refl, sym, subst, ◌∙◌, ℤ, ◌≤ℤ◌, arith}
use Rattle.ival.specs.Lists.{insert}
use Rattle.ival.specs.Forms.{HasEnds, IsWellFormed, Within, hull}
use Rattle.ival.specs.declared.forms.Ival.{Ival}
use Rattle.ival.specs.declared.forms.Ival.TheVariants.{Set}

hull_single : (x : ℤ) → hull (x ∷ []) ≡ Set (x ∷ [])
unfolding hull insert
hull_single x = refl

pub single_ends : (x : ℤ) (a : Ival) → a ≡ hull (x ∷ []) → IsWellFormed a → HasEnds a
single_ends x a e w = subst HasEnds (sym (e ∙ hull_single x)) (subst IsWellFormed (e ∙ hull_single x) w)

pub single_within : (x low high : ℤ) (a : Ival) → a ≡ hull (x ∷ []) → low ≤ℤ x → x ≤ℤ high → Within low high a
single_within x low high a e l h = subst (Within low high) (sym (e ∙ hull_single x)) each
  where
    each : Within low high (Set (x ∷ []))
    each zero d k = (l, h)
    each (suc n) d k = absurd (omega (arith, k))
