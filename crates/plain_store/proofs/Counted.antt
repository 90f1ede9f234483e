use Rattle.std.proofs.Common.{ℕ, ◌+◌, ◌-◌, ◌<◌, ◌≤◌, ◌≡◌, List, length, get_or, arith, set, ap, ◌∙◌, Option, inl, inr}
use Rattle.std.proofs.lemmas.List.{get_or_default, get_or_past}
use Rattle.std.proofs.lemmas.Bool.{cases_lt}
use Rattle.std.proofs.lemmas.List.Sums.{get_or-le-sum_by}
use Rattle.store_api.specs.Bag.{one, none}
use Rattle.plain_store.specs.declared.slot.Slot.{Slot}
use Rattle.plain_store.specs.Slots.{at, Sound, Changes, Recounts, no_slot, held, tree_at}
use Rattle.plain_store.proofs.Trees.{held_within}
use Rattle.plain_store.proofs.Writes.{Leaves, add_hold, drop_hold, recount_more, recount_less}

-- what was read at an index is what stands there
pub read : (ns : List Slot) (i : ℕ) (x : Slot) → i < length ns → x ≡ get_or ns i x → x ≡ at ns i
read ns i x l e = e ∙ get_or_default ns i x no_slot l

-- a slot with other counts and another link
abbrev pub recounted : Slot → ℕ → ℕ → Option ℕ → Slot
recounted x h p k = record x { holds = h; parents = p; next = k }

leaves : (n x : Slot) (h p : ℕ) (k : Option ℕ) → x ≡ n → Leaves n (recounted x h p k)
leaves n x h p k e = record { shape = ap (λ (m : Slot). m.shape) e; first = ap (λ (m : Slot). m.first) e; second = ap (λ (m : Slot). m.second) e; depth = ap (λ (m : Slot). m.depth) e }

-- no node has more holds than there are
pub holds_small : (ns : List Slot) (i : ℕ) → i < length ns → (at ns i).holds ≤ held ns
unfolding held
holds_small ns i l = get_or-le-sum_by (λ n. n.holds) ns i no_slot l

pub hold_added : (ns : List Slot) (i : ℕ) (x : Slot) (k : Option ℕ) → i < length ns → x ≡ get_or ns i x → Sound ns
    → Sound (set ns i (recounted x (x.holds + 1) x.parents k)) × Changes ns (set ns i (recounted x (x.holds + 1) x.parents k)) none (one i) × (held (set ns i (recounted x (x.holds + 1) x.parents k)) ≡ held ns + 1)
    × (tree_at (set ns i (recounted x (x.holds + 1) x.parents k)) 128 i ≡ tree_at ns 128 i)
hold_added ns i x k l e o =
    let r : x ≡ at ns i = read ns i x l e in
    add_hold ns i (recounted x (x.holds + 1) x.parents k) l (leaves (at ns i) x (x.holds + 1) x.parents k r) (ap (λ (m : Slot). m.parents) r) (ap (λ (m : Slot). m.holds + 1) r) o

pub hold_dropped : (ns : List Slot) (i : ℕ) (x : Slot) (k : Option ℕ) → 0 < (at ns i).holds → x ≡ get_or ns i x → Sound ns
    → Sound (set ns i (recounted x (x.holds - 1) x.parents k)) × Changes ns (set ns i (recounted x (x.holds - 1) x.parents k)) (one i) none × (held (set ns i (recounted x (x.holds - 1) x.parents k)) + 1 ≡ held ns)
hold_dropped ns i x k p e o =
    let l : i < length ns = held_within ns i p in let r : x ≡ at ns i = read ns i x l e in let q : x.holds ≡ (at ns i).holds = ap (λ (m : Slot). m.holds) r in
    drop_hold ns i (recounted x (x.holds - 1) x.parents k) l (leaves (at ns i) x (x.holds - 1) x.parents k r) (ap (λ (m : Slot). m.parents) r) (omega arith) o

pub parent_added : (ns : List Slot) (i : ℕ) (x : Slot) (k : Option ℕ) → i < length ns → x ≡ get_or ns i x → Recounts ns (set ns i (recounted x x.holds (x.parents + 1) k)) none (one i)
parent_added ns i x k l e =
    let r : x ≡ at ns i = read ns i x l e in
    recount_more ns i (recounted x x.holds (x.parents + 1) k) l (leaves (at ns i) x x.holds (x.parents + 1) k r) (ap (λ (m : Slot). m.holds) r) (ap (λ (m : Slot). m.parents + 1) r)

-- a node that is named as a subtree is there
pub parents_within : (ns : List Slot) (i : ℕ) → 0 < (at ns i).parents → i < length ns
parents_within ns i h = elim (cases_lt i (length ns)) [ inl l ↦ l | inr g ↦ absurd (let e = ap (λ (n : Slot). n.parents) (get_or_past ns i no_slot g) in omega arith) ]

pub parent_dropped : (ns : List Slot) (i : ℕ) (x : Slot) (k : Option ℕ) → 0 < (at ns i).parents → x ≡ get_or ns i x → Recounts ns (set ns i (recounted x x.holds (x.parents - 1) k)) (one i) none
parent_dropped ns i x k p e =
    let l : i < length ns = parents_within ns i p in let r : x ≡ at ns i = read ns i x l e in let q : x.parents ≡ (at ns i).parents = ap (λ (m : Slot). m.parents) r in
    recount_less ns i (recounted x x.holds (x.parents - 1) k) l (leaves (at ns i) x x.holds (x.parents - 1) k r) (ap (λ (m : Slot). m.holds) r) (omega arith)
