-- An object that is listed has the entries that are listed.
use Rattle.std.proofs.Common.{ℕ, ◌<◌, ◌≡◌, sym, ap, subst, ◌∙◌, arith, length}
use Rattle.std.proofs.lemmas.List.FromFn.{get_or-map-range_with_len, length-map-range_with_len}
use Rattle.c_memory.specs.declared.cells.Cell.{Cell}
use Rattle.abstract_memory.specs.Values.{nothing}
use Rattle.abstract_memory.specs.Objects.{Entry, Object, IsEntry, IsObject, single, listed, entry_at}
use Rattle.abstract_memory.specs.Members.{Shown, Fits, HasCells}

pub listed_length : (n : ℕ) (f : ℕ → Entry) → length (listed n f) ≡ n
listed_length n f = length-map-range_with_len f 0 n

pub listed_at : (n : ℕ) (f : ℕ → Entry) (x : ℕ) → x < n → entry_at (listed n f) x ≡ f x
listed_at n f x l = get_or-map-range_with_len f 0 n x x (single nothing) l (omega arith)

pub listed_cells : (n : ℕ) (f : ℕ → Entry) (m : ℕ → Cell) → Fits n f m → HasCells (listed n f) m
listed_cells n f m h x l p =
    let k : x < n = subst (λ (z : ℕ). x < z) (listed_length n f) l in
    let e : f x ≡ entry_at (listed n f) x = sym (listed_at n f x k) in
    subst (λ (t : Entry). Shown t.width t.value m x) e (h x k (ap (λ (t : Entry). t.place) e ∙ p))

pub entries_of : (o : Object) → IsObject o → (x : ℕ) → x < length o → IsEntry (entry_at o x)
entries_of o h = h.entries
