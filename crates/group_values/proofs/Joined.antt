-- What `avalue` answers is what the definitions say.
use Rattle.std.proofs.Common.{◌≡◌, ℕ, List, sym, ap, ◌∙◌, Bool, ℤ}
use Rattle.ival.specs.declared.forms.Ival.{Ival}
use Rattle.ival.specs.SetOperations.{join_of}
use Rattle.avalue.specs.Pointers.{AreCombined, Pointer, widened_offsets}
use Rattle.avalue.specs.Values.{IsEscape, IsJoin, IsWellFormedValue, IsWidening, PointsIntoObjects}
use Rattle.avalue.specs.declared.value.Value.{Value}
use Rattle.abstract_memory.specs.Values.{escape_value, join_values, widen_values}
use Rattle.abstract_memory.proofs.RisingKeys.{one_pointers}
use Rattle.abstract_memory.proofs.Values.{is_join, is_widening}

make : Bool → Bool → Ival → List Pointer → Value
make u d i ps = record { uninit = u; dangling = d; ints = i; ptrs = ps }

same : (v w : Value) → v.uninit ≡ w.uninit → v.dangling ≡ w.dangling → v.ints ≡ w.ints → v.ptrs ≡ w.ptrs → v ≡ w
unfolding make
same v w a b c d = ap (λ t. make t v.dangling v.ints v.ptrs) a ∙ ap (λ t. make w.uninit t v.ints v.ptrs) b ∙ ap (λ t. make w.uninit w.dangling t v.ptrs) c ∙ ap (λ t. make w.uninit w.dangling w.ints t) d

combined_one : (f : Ival → Ival → Ival) (ps qs both other : List Pointer) → AreCombined f ps qs both → AreCombined f ps qs other → both ≡ other
combined_one f ps qs both other h k = one_pointers both other h.formed k.formed (λ base. h.each base ∙ sym (k.each base))

pub joined : (a b v : Value) → IsWellFormedValue a → IsWellFormedValue b → IsJoin a b v → v ≡ join_values a b
joined a b v x y h =
    let k = is_join a b x y in
    same v (join_values a b) (h.uninit ∙ sym k.uninit) (h.dangling ∙ sym k.dangling) (h.ints ∙ sym k.ints) (combined_one join_of a.ptrs b.ptrs v.ptrs (join_values a b).ptrs h.ptrs k.ptrs)

pub widened : (a b v : Value) (thresholds : List ℤ) (width : ℕ) → IsWellFormedValue a → IsWellFormedValue b → PointsIntoObjects a → PointsIntoObjects b → IsWidening a b thresholds width v → v ≡ widen_values thresholds width a b
widened a b v thresholds width x y i j h =
    let k = is_widening thresholds width a b x y i j in
    same v (widen_values thresholds width a b) (h.uninit ∙ sym k.uninit) (h.dangling ∙ sym k.dangling) (h.ints ∙ sym k.ints)
    (combined_one widened_offsets a.ptrs b.ptrs v.ptrs (widen_values thresholds width a b).ptrs h.ptrs k.ptrs)

pub escaped : (v w : Value) (bases : List ℕ) → IsEscape v bases w → w ≡ escape_value bases v
unfolding escape_value
escaped v w bases h = same w (escape_value bases v) h.uninit h.dangling h.ints h.ptrs

pub ruleset joined_facts = (joined, widened, escaped)
