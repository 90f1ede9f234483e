-- Values: two flags, integers, and pointers.
use Rattle.std.specs.Prelude.{◌≡◌, ℕ, List, Bool, ◌&&◌, ◌||◌, not, ℤ, pos}
use Rattle.std.specs.List.{All, filter, list_any}
use Rattle.ival.specs.Forms.{IsWellFormed, has}
use Rattle.ival.specs.SetOperations.{join_of, included_of, widen_of}
use Rattle.avalue.specs.Pointers.{ArePointers, AreCombined, AreInObject, widened_offsets, pointers_included, is_listed}
use Rattle.avalue.specs.declared.value.Value.{Value}
use Rattle.avalue.specs.declared.value.Location.{Location}

pub record IsWellFormedValue (v : Value) : Type 0 where
  pub ints : IsWellFormed v.ints
  pub ptrs : ArePointers v.ptrs

-- each offset lies in an object
abbrev pub PointsIntoObjects : Value → Type 0
PointsIntoObjects v = All (λ p. AreInObject p.1) v.ptrs

-- part by part
pub record IsJoin (a b v : Value) : Type 0 where
  pub uninit : v.uninit ≡ (a.uninit || b.uninit)
  pub dangling : v.dangling ≡ (a.dangling || b.dangling)
  pub ints : v.ints ≡ join_of a.ints b.ints
  pub ptrs : AreCombined join_of a.ptrs b.ptrs v.ptrs

pub record IsWidening (a b : Value) (thresholds : List ℤ) (width : ℕ) (v : Value) : Type 0 where
  pub uninit : v.uninit ≡ (a.uninit || b.uninit)
  pub dangling : v.dangling ≡ (a.dangling || b.dangling)
  pub ints : v.ints ≡ widen_of a.ints b.ints thresholds width
  pub ptrs : AreCombined widened_offsets a.ptrs b.ptrs v.ptrs

-- a flag that is set is set on the other side
abbrev pub implies : Bool → Bool → Bool
implies p q = not p || q

abbrev pub value_included : Value → Value → Bool
value_included a b =
    implies a.uninit b.uninit && implies a.dangling b.dangling && included_of a.ints b.ints && pointers_included a.ptrs b.ptrs

-- the null pointer is the integer 0
pub record IsLocation (v : Value) (l : Location) : Type 0 where
  pub null : l.null ≡ has v.ints (pos 0)
  pub places : l.places ≡ v.ptrs

-- pointers to the listed bases dangle
pub record IsEscape (v : Value) (bases : List ℕ) (w : Value) : Type 0 where
  pub uninit : w.uninit ≡ v.uninit
  pub dangling : w.dangling ≡ (v.dangling || list_any (is_listed bases) v.ptrs)
  pub ints : w.ints ≡ v.ints
  pub ptrs : w.ptrs ≡ filter (λ p. not (is_listed bases p)) v.ptrs
