-- Leaving keeps members: pointers to objects that go dangle.
use Rattle.std.proofs.Common.{ℕ, zero, suc, ◌+◌, ◌≡◌, inl, inr, refl, sym, ap, subst, ◌∙◌, Bool, true, false, not, cond, List, [], ◌∷◌, length, map, Option, Some, None}
use Rattle.std.specs.Prelude.{IsSomeAnd}
use Rattle.std.specs.List.{All, filter}
use Rattle.std.proofs.lemmas.List.{length-map}
use Rattle.std.proofs.lemmas.List.Elements.{All-head, All-tail, All-cons, All-nil}
use Rattle.c_memory.specs.declared.cells.Cell.{Cell}
use Rattle.c_memory.specs.declared.cells.Cell.TheVariants.{Uninit}
use Rattle.c_memory.specs.declared.memory.Object as concrete
use Rattle.c_memory.specs.Memory.{is_one_of, cell_at, dangled, dangled_object}
use Rattle.abstract_memory.specs.Objects.{Object, entry_at}
use Rattle.abstract_memory.specs.Joins as object
use Rattle.abstract_memory.specs.Members.{HasCells}
use Rattle.abstract_memory.specs.States.{Objects, bottom, live, AreObjects, find_object}
use Rattle.abstract_memory.specs.StateMembers.{HasObject, LeaveKeeps}
use Rattle.abstract_memory.proofs.Tests.{not_true, bool_cases}
use Rattle.abstract_memory.proofs.Groups.{frame}
use Rattle.abstract_memory.proofs.Listed.{listed_length}
use Rattle.abstract_memory.proofs.Escapes.{escape_keeps}
use Rattle.abstract_memory.proofs.Finding.{find_here, find_there, found_object, same_or_not}

keeps : List ℕ → ℕ × Object → Bool
keeps bases p = not (is_one_of bases p.0)

escaping : List ℕ → ℕ × Object → ℕ × Object
escaping bases p = (p.0, object.escape bases p.1)

escaped_option : List ℕ → Option Object → Option Object
escaped_option bases None = None
escaped_option bases (Some o) = Some (object.escape bases o)

-- a base that stays has its object, with its pointers escaped
kept_find : (bases : List ℕ) (os : Objects) (base : ℕ) → is_one_of bases base ≡ false → find_object (map (escaping bases) (filter (keeps bases) os)) base ≡ escaped_option bases (find_object os base)
unfolding keeps escaping escaped_option
kept_find bases [] base e = refl
kept_find bases (p ∷ ps) base e = elim (same_or_not p.0 base) [
  | inl h ↦
      let s : is_one_of bases p.0 ≡ false = ap (is_one_of bases) h ∙ e in
      let t : find_object (p ∷ ps) base ≡ Some p.1 = find_here p ps base h in
      rw s (find_here (p.0, object.escape bases p.1) (map (escaping bases) (filter (keeps bases) ps)) base h ∙ sym (ap (escaped_option bases) t))
  | inr h ↦
      let t : find_object (p ∷ ps) base ≡ find_object ps base = find_there p ps base h in
      bool_cases (find_object (map (escaping bases) (cond (not (is_one_of bases p.0)) (p ∷ filter (keeps bases) ps) (filter (keeps bases) ps))) base ≡ escaped_option bases (find_object (p ∷ ps) base)) (is_one_of bases p.0)
      (λ s. rw s (kept_find bases ps base e ∙ sym (ap (escaped_option bases) t)))
      (λ s. rw s (find_there (p.0, object.escape bases p.1) (map (escaping bases) (filter (keeps bases) ps)) base h ∙ kept_find bases ps base e ∙ sym (ap (escaped_option bases) t)))
]

all_kept : {X : Type 0} (Q P : X → Type 0) (keep : X → Bool) (g : X → X) (xs : List X) → ((x : X) → Q x → keep (g x) ≡ true → P (g x)) → All Q xs → All P (filter keep (map g xs))
all_kept Q P keep g [] h a = All-nil P
all_kept Q P keep g (x ∷ xs) h a = bool_cases (All P (cond (keep (g x)) (g x ∷ filter keep (map g xs)) (filter keep (map g xs)))) (keep (g x))
    (λ e. rw e (All-cons P (g x) (filter keep (map g xs)) (h x (All-head Q x xs a) e) (all_kept Q P keep g xs h (All-tail Q x xs a))))
    (λ e. rw e (all_kept Q P keep g xs h (All-tail Q x xs a)))

mapped_cell : (f : Cell → Cell) (cs : List Cell) (x : ℕ) → f Uninit ≡ Uninit → f (cell_at cs x) ≡ cell_at (map f cs) x
mapped_cell f [] x e = e
mapped_cell f (c ∷ cs) zero e = refl
mapped_cell f (c ∷ cs) (suc x) e = mapped_cell f cs x e

same_cells : (o : Object) (m n : ℕ → Cell) → ((x : ℕ) → m x ≡ n x) → HasCells o m → HasCells o n
same_cells o m n e h x l p = frame (entry_at o x).width (entry_at o x).value m n x (λ j k. e (x + j)) (h x l p)

stays_in : (os : Objects) (bases : List ℕ) (p : concrete.Object) (a : Option Object) → AreObjects os → find_object os p.base ≡ a → IsSomeAnd a (λ o. (length p.cells ≡ length o) × HasCells o (cell_at p.cells))
    → IsSomeAnd (escaped_option bases a) (λ o. (length (map (dangled bases) p.cells) ≡ length o) × HasCells o (cell_at (map (dangled bases) p.cells)))
unfolding escaped_option
stays_in os bases p None h e s = absurd s
stays_in os bases p (Some o) h e s = (
  length-map p.cells (dangled bases) ∙ s.0 ∙ sym (listed_length (length o) (λ x. object.escape_entry bases (entry_at o x))),
  same_cells (object.escape bases o) (λ x. dangled bases (cell_at p.cells x)) (cell_at (map (dangled bases) p.cells))
      (λ x. mapped_cell (dangled bases) p.cells x refl) (escape_keeps bases o (cell_at p.cells) (found_object os p.base o h e) s.1),
)

pub leave_keeps : LeaveKeeps
unfolding keeps escaping
leave_keeps bottom m bases h s = absurd s
leave_keeps (live os) m bases h s =
    all_kept (HasObject os) (HasObject (map (escaping bases) (filter (keeps bases) os))) (λ p. not (is_one_of bases p.base)) (dangled_object bases) m
    (λ p q e. subst (λ t. IsSomeAnd t (λ o. (length (map (dangled bases) p.cells) ≡ length o) × HasCells o (cell_at (map (dangled bases) p.cells))))
    (sym (kept_find bases os p.base (not_true (is_one_of bases p.base) e))) (stays_in os bases p (find_object os p.base) h refl q)) s
