-- Joins, widenings and inclusions of states keep members.
use Rattle.std.proofs.Common.{ℕ, ◌≡◌, ◌⊎◌, inl, inr, refl, sym, subst, ◌∙◌, true, List, length, ℤ, Option, Some, None}
use Rattle.std.specs.Prelude.{IsSomeAnd, get_or}
use Rattle.std.specs.List.{list_all}
use Rattle.c_memory.specs.declared.cells.Cell.{Cell}
use Rattle.c_memory.specs.declared.memory.Object as concrete
use Rattle.c_memory.specs.Memory.{cell_at}
use Rattle.abstract_memory.specs.Objects.{Object, IsObject, entry_at}
use Rattle.abstract_memory.specs.Values.{join_values}
use Rattle.abstract_memory.specs.Joins as object
use Rattle.abstract_memory.specs.Members.{HasCells}
use Rattle.abstract_memory.specs.States.{Objects, bottom, live, AreObjects, HaveOneSize, combined, find_object, is_included}
use Rattle.abstract_memory.specs.StateMembers.{HasObject, StateJoinKeeps, StateWideningKeeps, StateInclusionIsSound}
use Rattle.abstract_memory.proofs.Joins.{join_keeps, widen_keeps}
use Rattle.abstract_memory.proofs.Included.{included_is_sound}
use Rattle.abstract_memory.proofs.Listed.{listed_length}
use Rattle.abstract_memory.proofs.Finding.{combined_find, found_object, found_pair, united}
use Rattle.std.proofs.lemmas.List.Sums.{AllPass-from_list_all}
use Rattle.abstract_memory.proofs.Tests.{no_true}

-- a rule for two objects of one size, which keeps the members of both
record KeepsBoth (f : Object → Object → Object) : Type 0 where
  size : (a b : Object) → length (f a b) ≡ length a
  keeps : (a b : Object) (m : ℕ → Cell) → IsObject a → IsObject b → length a ≡ length b → HasCells a m ⊎ HasCells b m → HasCells (f a b) m

module _ (f : Object → Object → Object) (rule : KeepsBoth f) (os ps : Objects) (h : AreObjects os) (k : AreObjects ps) (sizes : HaveOneSize os ps) where
  left_object : (p : concrete.Object) (a b : Option Object) → find_object os p.base ≡ a → find_object ps p.base ≡ b → IsSomeAnd a (λ o. (length p.cells ≡ length o) × HasCells o (cell_at p.cells))
      → IsSomeAnd (united f a b) (λ o. (length p.cells ≡ length o) × HasCells o (cell_at p.cells))
  left_object p None b e d s = absurd s
  left_object p (Some o) None e d s = s
  left_object p (Some o) (Some q) e d s =
      (s.0 ∙ sym (rule.size o q), rule.keeps o q (cell_at p.cells) (found_object os p.base o h e) (found_object ps p.base q k d) (sizes p.base o q e d) (inl s.1))

  right_object : (p : concrete.Object) (a b : Option Object) → find_object os p.base ≡ a → find_object ps p.base ≡ b → IsSomeAnd b (λ o. (length p.cells ≡ length o) × HasCells o (cell_at p.cells))
      → IsSomeAnd (united f a b) (λ o. (length p.cells ≡ length o) × HasCells o (cell_at p.cells))
  right_object p a None e d s = absurd s
  right_object p None (Some q) e d s = s
  right_object p (Some o) (Some q) e d s =
      (s.0 ∙ sym (sizes p.base o q e d) ∙ sym (rule.size o q), rule.keeps o q (cell_at p.cells) (found_object os p.base o h e) (found_object ps p.base q k d) (sizes p.base o q e d) (inr s.1))

  combined_has : (p : concrete.Object) → HasObject os p ⊎ HasObject ps p → HasObject (combined f os ps) p
  combined_has p (inl s) =
      subst (λ t. IsSomeAnd t (λ o. (length p.cells ≡ length o) × HasCells o (cell_at p.cells))) (sym (combined_find f os ps p.base h.rising k.rising))
      (left_object p (find_object os p.base) (find_object ps p.base) refl refl s)
  combined_has p (inr s) =
      subst (λ t. IsSomeAnd t (λ o. (length p.cells ≡ length o) × HasCells o (cell_at p.cells))) (sym (combined_find f os ps p.base h.rising k.rising))
      (right_object p (find_object os p.base) (find_object ps p.base) refl refl s)

join_both : KeepsBoth object.join
join_both = record { size = λ a b. listed_length (length a) (object.merged_at (λ width. join_values) (entry_at a) (entry_at b)); keeps = join_keeps }

widen_both : (thresholds : List ℤ) → KeepsBoth (object.widen thresholds)
widen_both thresholds = record { size = λ a b. listed_length (length a) (object.merged_at (object.widen_group thresholds) (entry_at a) (entry_at b)); keeps = widen_keeps thresholds }

pub state_join_keeps : StateJoinKeeps
state_join_keeps bottom b m ha hb s (inl h) = absurd h
state_join_keeps bottom b m ha hb s (inr h) = h
state_join_keeps (live os) bottom m ha hb s (inl h) = h
state_join_keeps (live os) bottom m ha hb s (inr h) = absurd h
state_join_keeps (live os) (live ps) m ha hb s (inl h) = λ k d l. combined_has object.join join_both os ps ha hb s (get_or m k d) (inl (h k d l))
state_join_keeps (live os) (live ps) m ha hb s (inr h) = λ k d l. combined_has object.join join_both os ps ha hb s (get_or m k d) (inr (h k d l))

pub state_widening_keeps : StateWideningKeeps
state_widening_keeps thresholds bottom b m ha hb s (inl h) = absurd h
state_widening_keeps thresholds bottom b m ha hb s (inr h) = h
state_widening_keeps thresholds (live os) bottom m ha hb s (inl h) = h
state_widening_keeps thresholds (live os) bottom m ha hb s (inr h) = absurd h
state_widening_keeps thresholds (live os) (live ps) m ha hb s (inl h) = λ k d l. combined_has (object.widen thresholds) (widen_both thresholds) os ps ha hb s (get_or m k d) (inl (h k d l))
state_widening_keeps thresholds (live os) (live ps) m ha hb s (inr h) = λ k d l. combined_has (object.widen thresholds) (widen_both thresholds) os ps ha hb s (get_or m k d) (inr (h k d l))

-- ---- inclusion

included_object : (ps : Objects) (p : concrete.Object) (o : Object) (b : Option Object) → IsObject o → ((q : Object) → b ≡ Some q → IsObject q × (length o ≡ length q))
    → is_included o b ≡ true → (length p.cells ≡ length o) × HasCells o (cell_at p.cells) → IsSomeAnd b (λ o. (length p.cells ≡ length o) × HasCells o (cell_at p.cells))
included_object ps p o None h k e s = absurd (no_true e)
included_object ps p o (Some q) h k e s = let r = k q refl in (s.0 ∙ r.1, included_is_sound o q (cell_at p.cells) h r.0 r.1 e s.1)

included_has : (os ps : Objects) (p : concrete.Object) (a : Option Object) → AreObjects os → AreObjects ps → HaveOneSize os ps → list_all (λ q. is_included q.1 (find_object ps q.0)) os ≡ true
    → find_object os p.base ≡ a → IsSomeAnd a (λ o. (length p.cells ≡ length o) × HasCells o (cell_at p.cells)) → HasObject ps p
included_has os ps p None h k s t e d = absurd d
included_has os ps p (Some o) h k s t e d =
    let i = found_pair (λ base o. is_included o (find_object ps base) ≡ true) os p.base o (AllPass-from_list_all (λ q. is_included q.1 (find_object ps q.0)) os t) e in
    included_object ps p o (find_object ps p.base) (found_object os p.base o h e) (λ q g. (found_object ps p.base q k g, s p.base o q e g)) i d

pub state_inclusion_is_sound : StateInclusionIsSound
state_inclusion_is_sound bottom b m ha hb s t h = absurd h
state_inclusion_is_sound (live os) bottom m ha hb s t h = absurd (no_true t)
state_inclusion_is_sound (live os) (live ps) m ha hb s t h = λ k d l. included_has os ps (get_or m k d) (find_object os (get_or m k d).base) ha hb s t refl (h k d l)
