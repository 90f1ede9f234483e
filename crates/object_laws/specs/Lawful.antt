-- The other operations give lawful objects.
use Rattle.std.specs.Prelude.{ℕ, ◌+◌, ◌<◌, ◌≤◌, ◌≡◌, ◌^◌, length, List, ℤ}
use Rattle.ival.specs.declared.forms.Ival.{Ival}
use Rattle.avalue.specs.declared.value.Value.{Value}
use Rattle.abstract_memory.specs.Objects.{Object, IsEntry, IsObject, IsWritable, single}
use Rattle.abstract_memory.specs.Reads.{IsAccess}
use Rattle.abstract_memory.specs.Joins.{escape, widen}
use Rattle.abstract_memory.specs.Writes.{blur, copy, fresh, write_weak}

abbrev pub FreshIsLawful : Type 0
FreshIsLawful = (size : ℕ) (v : Value) → 0 < size → size ≤ 2 ^ 24 → IsEntry (single v) → IsObject (fresh size v)

abbrev pub WeakWriteIsLawful : Type 0
WeakWriteIsLawful = (o : Object) (at : Ival) (n : ℕ) (v : Value) → IsObject o → IsAccess at n (length o) → n ≤ 64 → IsWritable n v → IsObject (write_weak o at n v)

abbrev pub BlurIsLawful : Type 0
BlurIsLawful = (o : Object) (lo w : ℕ) (v : Value) → IsObject o → lo + w ≤ length o → IsEntry (single v) → IsObject (blur o lo w v)

abbrev pub CopyIsLawful : Type 0
CopyIsLawful = (from : Object) (at : ℕ) (o : Object) (to n : ℕ) → IsObject from → IsObject o → at + n ≤ length from → to + n ≤ length o → IsObject (copy from at o to n)

abbrev pub EscapeIsLawful : Type 0
EscapeIsLawful = (bases : List ℕ) (o : Object) → IsObject o → IsObject (escape bases o)

abbrev pub WideningIsLawful : Type 0
WideningIsLawful = (thresholds : List ℤ) (a b : Object) → IsObject a → IsObject b → length a ≡ length b → IsObject (widen thresholds a b)
