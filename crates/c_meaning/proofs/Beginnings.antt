-- The objects of an initial state, one after another.
use Rattle.std.proofs.Common.{◌≡◌, ℕ, ◌<◌, length, arith, List, [], ◌∷◌, ◌++◌, append_assoc, append-nil, ◌+◌, ℤ, true, false, Ok, Err, Result, refl, ap, sym, ◌∙◌}
use Rattle.std.specs.Prelude.{◌||◌}
use Rattle.std.proofs.lemmas.List.Folds.{list_any-append}
use Rattle.program.specs.declared.graph.Base.{Base}
use Rattle.program.specs.declared.graph.Function.{Function}
use Rattle.program.specs.declared.graph.Program.{Program}
use Rattle.program.specs.Graph.{has}
use Rattle.c_memory.specs.declared.cells.Cell.{Cell}
use Rattle.c_memory.specs.declared.memory.Object.{Object}
use Rattle.c_arithmetic.specs.Arithmetic.{and_then}
use Rattle.c_meaning.specs.Beginnings.{behind}
use Rattle.c_meaning.specs.Begin.{in_front, lives_at_entry, filled, free_in, cells_before, objects_begun}

pub behind_none : (r : Result (List Object × ℕ) ℕ) → behind [] r ≡ r
unfolding behind
behind_none (Ok rest) = refl
behind_none (Err i) = refl

pub behind_end : (os : List Object) (i : ℕ) → behind os (Ok ([], i)) ≡ Ok (os, i)
unfolding behind
behind_end os i = ap (λ (l : List Object). Ok (l, i)) (append-nil os)

pub behind_more : (os : List Object) (o : Object) (r : Result (List Object × ℕ) ℕ) → behind os (and_then r (λ rest. Ok (in_front o rest))) ≡ behind (os ++ o ∷ []) r
unfolding behind
behind_more os o (Ok rest) = ap (λ (l : List Object). Ok (l, rest.1)) (sym (append_assoc os (o ∷ []) rest.0))
behind_more os o (Err i) = refl

pub behind_refused : (os : List Object) (i : ℕ) → behind os (Err i) ≡ Err i
unfolding behind
behind_refused os i = refl

pub has_append : (xs ys : List ℕ) (b : ℕ) → has (xs ++ ys) b ≡ (has xs b || has ys b)
has_append xs ys b = list_any-append _ xs ys

module _ (p : Program) (f : Function) (picks : List ℤ) (i n : ℕ) (base : Base) (bases : List Base) (os : List Object) where
  -- the base doesn't live
  pub begun_other : lives_at_entry p f n ≡ false → behind os (objects_begun p f picks i n (base ∷ bases)) ≡ behind os (objects_begun p f picks i (n + 1) bases)
  begun_other h = rw h refl

  -- its object is filled
  pub begun_lives : (cells : List Cell) (next : ℕ) → lives_at_entry p f n ≡ true →
      Ok (cells, next) ≡ filled picks i (free_in p.layout base.ctype base.start) (cells_before base.size_bits base.start) →
      behind os (objects_begun p f picks i n (base ∷ bases)) ≡ behind (os ++ record { base = n; cells = cells } ∷ []) (objects_begun p f picks next (n + 1) bases)
  begun_lives cells next h k = rw (h, ← k) (behind_more os (record { base = n; cells = cells }) (objects_begun p f picks next (n + 1) bases))

  -- a pick for it is out of its range
  pub begun_refused : (k : ℕ) → lives_at_entry p f n ≡ true → Err k ≡ filled picks i (free_in p.layout base.ctype base.start) (cells_before base.size_bits base.start) → behind os (objects_begun p f picks i n (base ∷ bases)) ≡ Err k
  begun_refused k h e = rw (h, ← e) (behind_refused os k)

-- no base is left
pub begun_all : (p : Program) (f : Function) (picks : List ℤ) (i n : ℕ) (bases : List Base) (os : List Object) (whole : Result (List Object × ℕ) ℕ) →
    behind os (objects_begun p f picks i n bases) ≡ whole → bases ≡ [] → whole ≡ Ok (os, i)
begun_all p f picks i n bases os whole so_far none =
    sym so_far ∙ ap (λ (l : List Base). behind os (objects_begun p f picks i n l)) none ∙ behind_end os i

pub below_one : (bases : List Base) → length bases < 1 → bases ≡ []
below_one [] h = refl
below_one (base ∷ bases) h = absurd (omega arith)

pub ruleset beginnings = (behind_none, behind_end, behind_refused, begun_other, begun_lives, begun_refused, has_append)
