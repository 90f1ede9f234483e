-- What an instruction that stays in its function leaves is a lawful memory.
use Rattle.std.proofs.Common.{◌≡◌, ℕ, nat_eq, List, [], ◌∷◌, length, slice_index_or, replicate, Bool, false, Some, None, Ok, ap, subst, ◌∙◌}
use Rattle.std.specs.Prelude.{All, unsigned_abs, if◌then◌else◌}
use Rattle.std.specs.List.{IsDistinct}
use Rattle.std.proofs.lemmas.List.Elements.{All-head, All-tail, All-weaker, All-from_recursion, All-replicate}
use Rattle.program.specs.declared.instructions.Instr.TheVariants as instr
use Rattle.program.specs.declared.graph.Program.{Program}
use Rattle.program.specs.Numbers.{count_lval}
use Rattle.c_memory.specs.declared.cells.Cell.{Cell}
use Rattle.c_memory.specs.declared.cells.Cell.TheVariants.{Bit}
use Rattle.c_memory.specs.declared.memory.Object.{Object}
use Rattle.c_memory.specs.Memory.{object, put, entered, left}
use Rattle.c_arithmetic.specs.Arithmetic.{and_then}
use Rattle.c_meaning.specs.declared.value.BitAddress.{BitAddress}
use Rattle.c_meaning.specs.Cells.{value_cells}
use Rattle.c_meaning.specs.Memory.{accessed, written}
use Rattle.c_meaning.specs.PlaceTypes.{access_bits}
use Rattle.c_meaning.specs.Value.{at, value, place}
use Rattle.c_meaning.specs.Steps.{base_bits, entered_all}
use Rattle.c_meaning.specs.Lawful.{PointsInside, LawfulMemory}
use Rattle.c_meaning_laws.specs.Memories.{InstructionsStayLawful}
use Rattle.c_meaning_laws.proofs.Outcomes.{then_ok, at_ok}
use Rattle.c_meaning_laws.proofs.Memories.{size_at, no_size, size_entered, lawful_put, lawful_entered, lawful_left}
use Rattle.c_meaning_laws.proofs.Pointers.{accessed_inside, value_points, value_inside}

written_lawful : (m n : List Object) (a : BitAddress) (new : List Cell) → LawfulMemory m → All (PointsInside m) new → written m a new ≡ Ok n → LawfulMemory n
written_lawful m n a new h inside e =
    let r = then_ok (accessed m a (length new)) (λ old. Ok (put m a.base (unsigned_abs a.bit) new)) n e in
    let second = r.is_second in
    let same : put m a.base (unsigned_abs a.bit) new ≡ n = cc in
    subst LawfulMemory same (lawful_put m a.base (unsigned_abs a.bit) new h inside)

still_new : (b size : ℕ) (m : List Object) (bs : List ℕ) → size_at m b ≡ None → All (λ c. nat_eq b c ≡ false) bs → All (λ c. size_at m c ≡ None) bs → All (λ c. size_at (entered b size m) c ≡ None) bs
still_new b size m bs none other new =
    λ k d l. size_entered b size m (slice_index_or bs k d) none ∙ ap (λ (v : Bool). if v then Some size else size_at m (slice_index_or bs k d)) (other k d l) ∙ new k d l

-- bases that don't live come to life, one after another
all_entered_lawful : (p : Program) (bs : List ℕ) (m : List Object) → LawfulMemory m → IsDistinct nat_eq bs → All (λ b. size_at m b ≡ None) bs → LawfulMemory (entered_all p bs m)
unfolding IsDistinct
all_entered_lawful p [] m h once new = h
all_entered_lawful p (b ∷ bs) m h once new =
    let none = All-head (λ (c : ℕ). size_at m c ≡ None) b bs new in
    let next = entered b (base_bits p b) m in
    all_entered_lawful p bs next (lawful_entered b (base_bits p b) m h none) once.1
    (still_new b (base_bits p b) m bs none (All-from_recursion (λ (c : ℕ). nat_eq b c ≡ false) bs once.0) (All-tail (λ (c : ℕ). size_at m c ≡ None) b bs new))

pub instructions : InstructionsStayLawful
instructions p f m n (instr.Set l e) h new is =
    let a = then_ok (place p f m 0 l) (λ x. and_then (value p f m (count_lval l) e) (λ v. at 0 (written m x (value_cells (access_bits p f l) v)))) n is in
    let v = then_ok (value p f m (count_lval l) e) (λ v. at 0 (written m a.first (value_cells (access_bits p f l) v))) n a.is_second in
    written_lawful m n a.first (value_cells (access_bits p f l) v.first) h (value_inside m (access_bits p f l) v.first (value_points p f m h (count_lval l) e v.first v.is_first))
    (at_ok 0 (written m a.first (value_cells (access_bits p f l) v.first)) n v.is_second)
instructions p f m n (instr.Copy to from) h new is =
    let a = then_ok (place p f m 0 to) (λ x. and_then (place p f m (count_lval to) from) (λ y. and_then (at (count_lval to) (accessed m y (access_bits p f to))) (λ cells. at 0 (written m x cells)))) n is in
    let b = then_ok (place p f m (count_lval to) from) (λ y. and_then (at (count_lval to) (accessed m y (access_bits p f to))) (λ cells. at 0 (written m a.first cells))) n a.is_second in
    let c = then_ok (at (count_lval to) (accessed m b.first (access_bits p f to))) (λ cells. at 0 (written m a.first cells)) n b.is_second in
    let read = at_ok (count_lval to) (accessed m b.first (access_bits p f to)) c.first c.is_first in
    written_lawful m n a.first c.first h (accessed_inside m b.first (access_bits p f to) c.first h read) (at_ok 0 (written m a.first c.first) n c.is_second)
instructions p f m n (instr.Zero l) h new is =
    let a = then_ok (place p f m 0 l) (λ x. at 0 (written m x (replicate (access_bits p f l) (Bit false)))) n is in
    written_lawful m n a.first (replicate (access_bits p f l) (Bit false)) h (All-replicate (PointsInside m) (access_bits p f l) (Bit false) tt) (at_ok 0 (written m a.first (replicate (access_bits p f l) (Bit false))) n a.is_second)
instructions p f m n (instr.Guard e) h new is = let same : m ≡ n = cc in subst LawfulMemory same h
instructions p f m n (instr.Enter bs) h new is =
    let same : entered_all p bs m ≡ n = cc in
    subst LawfulMemory same (all_entered_lawful p bs m h new.0 (All-weaker (λ (b : ℕ). object m b ≡ None) (λ (b : ℕ). size_at m b ≡ None) (λ b none. no_size m b none) bs new.1))
instructions p f m n (instr.Leave bs) h new is = let same : left bs m ≡ n = cc in subst LawfulMemory same (lawful_left bs m h)
instructions p f m n (instr.Call to callee args) h new is = let same : m ≡ n = cc in subst LawfulMemory same h
instructions p f m n (instr.External to w) h new is = let same : m ≡ n = cc in subst LawfulMemory same h
instructions p f m n instr.Return h new is = let same : m ≡ n = cc in subst LawfulMemory same h
instructions p f m n (instr.Skip None) h new is = let same : m ≡ n = cc in subst LawfulMemory same h
instructions p f m n (instr.Skip (Some e)) h new is =
    let v = then_ok (value p f m 0 e) (λ x. Ok m) n is in
    let second = v.is_second in
    let same : m ≡ n = cc in
    subst LawfulMemory same h
