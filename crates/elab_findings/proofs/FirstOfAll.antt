-- The least of the faults that count is the first.
use Rattle.std.proofs.Common.{◌≡◌, ◌⊎◌, inl, inr, ⊎_elim, Bool, true, false, cond, List, [], ◌∷◌, refl, sym, subst, arith}
use Rattle.std.specs.Prelude.{Contains, Option, Some, None}
use Rattle.std.proofs.lemmas.List.Elements.{Contains-append_left, Contains-append_right, Contains-append_cases, Contains-push, Contains-push_cases}
use Rattle.std.proofs.lemmas.Bool.Decides.{nat_tests}
use Rattle.std.proofs.lemmas.Grind.{common_steps}
use Rattle.elab_findings.specs.Faults.{is_before, NotAfter}
use Rattle.elab_findings.specs.Uses.{Marks}
use Rattle.elab_findings.specs.First.{lesser, of_all, is_used, of_used}
use Rattle.elab_findings.specs.Findings.{Counts, everywhere, where_used, Answers}
use Rattle.elab_findings.specs.declared.fault.Fault.{Fault}
use Rattle.elab_findings.specs.declared.findings.Held.{Held}
use Rattle.elab_findings.specs.declared.findings.Findings.{Findings}

-- the first of those of which P holds
abbrev pub Best : (Fault → Type 0) → Option Fault → Type 0
Best P None = (g : Fault) → P g → ⊥
Best P (Some f) = P f × ((g : Fault) → P g → NotAfter f g)

in_cons : {X : Type 0} (x : X) (xs : List X) (y : X) → Contains (x ∷ xs) y → (x ≡ y) ⊎ Contains xs y
in_cons x xs y m = ⊎_elim (λ a. ⊎_elim (λ b. absurd (omega (arith, b.1))) (λ e. inl e) (Contains-push_cases [] x y a)) (λ b. inr b) (Contains-append_cases (x ∷ []) xs y m)

same : (f : Fault) → NotAfter f f
same f = record { place = omega arith; lower = λ e. omega arith }

before_is : (f b : Fault) → true ≡ is_before f b → NotAfter f b
before_is f b e = record { place = grind (arith, nat_tests, common_steps); lower = λ q. grind (arith, nat_tests, common_steps) }

not_before_is : (f b : Fault) → false ≡ is_before f b → NotAfter b f
not_before_is f b e = record { place = grind (arith, nat_tests, common_steps); lower = λ q. grind (arith, nat_tests, common_steps) }

through : (f g h : Fault) → NotAfter f g → NotAfter g h → NotAfter f h
through f g h a b = record {
  place = omega (arith, a.place, b.place);
  lower = λ e. let p : f.at ≡ g.at = omega (arith, a.place, b.place, e) in let q : g.at ≡ h.at = omega (arith, a.place, b.place, e) in omega (arith, a.lower p, b.lower q);
}

one_more : (P : Fault → Type 0) (best : Option Fault) (f : Fault) → Best P best → Best (λ g. P g ⊎ (f ≡ g)) (lesser best f)
one_more P None f h = (inr refl, λ g p. ⊎_elim (λ x. absurd (h g x)) (λ (q : f ≡ g). subst (λ z. NotAfter f z) q (same f)) p)
one_more P (Some b) f h = by (is_before f b) refl
  where
    by : (t : Bool) → t ≡ is_before f b → Best (λ g. P g ⊎ (f ≡ g)) (cond t (Some f) (Some b))
    by true e = (inr refl, λ g p. ⊎_elim (λ x. through f b g (before_is f b e) (h.1 g x)) (λ (q : f ≡ g). subst (λ z. NotAfter f z) q (same f)) p)
    by false e = (inl h.0, λ g p. ⊎_elim (λ x. h.1 g x) (λ (q : f ≡ g). subst (λ z. NotAfter b z) q (not_before_is f b e)) p)

-- the same faults under another name
renamed : (P Q : Fault → Type 0) (best : Option Fault) → ((g : Fault) → P g → Q g) → ((g : Fault) → Q g → P g) → Best P best → Best Q best
renamed P Q None to from h = λ g q. h g (from g q)
renamed P Q (Some f) to from h = (to f h.0, λ g q. h.1 g (from g q))

pub all_best : (P : Fault → Type 0) (best : Option Fault) (fs : List Fault) → Best P best → Best (λ g. P g ⊎ Contains fs g) (of_all best fs)
all_best P best [] h = renamed P (λ g. P g ⊎ Contains [] g) best (λ g p. inl p) (λ g q. ⊎_elim (λ p. p) (λ (m : Contains [] g). absurd (omega (arith, m.1))) q) h
all_best P best (f ∷ fs) h =
    renamed (λ g. (P g ⊎ (f ≡ g)) ⊎ Contains fs g) (λ g. P g ⊎ Contains (f ∷ fs) g) (of_all (lesser best f) fs)
    (λ g q. ⊎_elim (λ p. ⊎_elim (λ x. inl x) (λ (e : f ≡ g). inr (subst (λ z. Contains (f ∷ fs) z) e (Contains-append_left (f ∷ []) fs f (Contains-push [] f)))) p) (λ m. inr (Contains-append_right (f ∷ []) fs g m)) q)
    (λ g q. ⊎_elim (λ p. inl (inl p)) (λ m. ⊎_elim (λ e. inl (inr e)) (λ x. inr x) (in_cons f fs g m)) q)
    (all_best (λ g. P g ⊎ (f ≡ g)) (lesser best f) fs (one_more P best f h))

-- a held fault that counts
abbrev pub HeldIn : List Bool → List Held → Fault → Type 0
HeldIn marks hs g = (h : Held) × Contains hs h × (h.fault ≡ g) × (is_used marks h.declaration ≡ true)

pub used_best : (P : Fault → Type 0) (marks : List Bool) (best : Option Fault) (hs : List Held) → Best P best → Best (λ g. P g ⊎ HeldIn marks hs g) (of_used marks best hs)
used_best P marks best [] k = renamed P (λ g. P g ⊎ HeldIn marks [] g) best (λ g p. inl p) (λ g q. ⊎_elim (λ p. p) (λ (m : HeldIn marks [] g). absurd (omega (arith, m.1.1))) q) k
used_best P marks best (h ∷ hs) k = by (is_used marks h.declaration) refl (λ Q other q. used_best Q marks other hs q)
  where
    in_rest : (g : Fault) → HeldIn marks hs g → HeldIn marks (h ∷ hs) g
    in_rest g m = (m.0, Contains-append_right (h ∷ []) hs m.0 m.1, m.2, m.3)

    by : (t : Bool) → t ≡ is_used marks h.declaration → ((Q : Fault → Type 0) (other : Option Fault) → Best Q other → Best (λ g. Q g ⊎ HeldIn marks hs g) (of_used marks other hs)) →
        Best (λ g. P g ⊎ HeldIn marks (h ∷ hs) g) (of_used marks (cond t (lesser best h.fault) best) hs)
    by true e rest = renamed (λ g. (P g ⊎ (h.fault ≡ g)) ⊎ HeldIn marks hs g) (λ g. P g ⊎ HeldIn marks (h ∷ hs) g) (of_used marks (lesser best h.fault) hs)
        (λ g q. ⊎_elim (λ p. ⊎_elim (λ x. inl x) (λ x. inr (h, Contains-append_left (h ∷ []) hs h (Contains-push [] h), x, sym e)) p) (λ m. inr (in_rest g m)) q)
        (λ g q. ⊎_elim (λ p. inl (inl p)) (λ m. ⊎_elim (λ (x : h ≡ m.0). inl (inr (subst (λ z. z.fault ≡ g) (sym x) m.2))) (λ x. inr (m.0, x, m.2, m.3)) (in_cons h hs m.0 m.1)) q)
        (rest (λ g. P g ⊎ (h.fault ≡ g)) (lesser best h.fault) (one_more P best h.fault k))
    by false e rest = renamed (λ g. P g ⊎ HeldIn marks hs g) (λ g. P g ⊎ HeldIn marks (h ∷ hs) g) (of_used marks best hs)
        (λ g q. ⊎_elim (λ p. inl p) (λ m. inr (in_rest g m)) q)
        (λ g q. ⊎_elim (λ p. inl p) (λ m. ⊎_elim (λ (x : h ≡ m.0). absurd (cc (e, subst (λ z. is_used marks z.declaration ≡ true) (sym x) m.3))) (λ x. inr (m.0, x, m.2, m.3)) (in_cons h hs m.0 m.1)) q)
        (rest P best k)

answered : (s : Findings) (best : Option Fault) → Best (Counts s) best → Answers s best
answered s None h = h
answered s (Some f) h = record { counts = h.0; first = h.1 }

pub found : (s : Findings) (marks : List Bool) → Marks s.roots s.uses marks → Answers s (of_used marks (of_all None s.faults) s.held)
found s marks k =
    let none : Best (λ g. ⊥) None = λ g p. p in
    answered s (of_used marks (of_all None s.faults) s.held)
    (renamed (λ g. (⊥ ⊎ Contains s.faults g) ⊎ HeldIn marks s.held g) (Counts s) (of_used marks (of_all None s.faults) s.held)
    (λ g q. ⊎_elim (λ p. ⊎_elim (λ x. absurd x) (λ m. everywhere m) p) (λ (m : HeldIn marks s.held g). where_used m.0 m.1 m.2 ((k m.0.declaration).0 m.3)) q)
    (λ g c. back g c)
    (used_best (λ g. ⊥ ⊎ Contains s.faults g) marks (of_all None s.faults) s.held (all_best (λ g. ⊥) None s.faults none)))
  where
    back : (g : Fault) → Counts s g → (⊥ ⊎ Contains s.faults g) ⊎ HeldIn marks s.held g
    back g (everywhere m) = inl (inr m)
    back g (where_used h m e u) = inr (h, m, e, (k h.declaration).1 u)
