-- The search marks exactly what is used.
use Rattle.std.proofs.Common.{◌≡◌, ◌≢◌, ◌⊎◌, inl, inr, ⊎_elim, ℕ, zero, suc, ◌+◌, ◌<◌, Bool, true, false, cond, eqb, List, [], ◌∷◌, ◌++◌, length, get_or, refl, sym, ap, subst, ◌∙◌, arith}
use Rattle.std.proofs.Math.ListN.{set}
use Rattle.std.specs.Prelude.{Contains, nat_lt, ◌&&◌, not}
use Rattle.std.specs.List.{sum_by}
use Rattle.std.proofs.lemmas.List.{get_or-set_same, get_or-set_other, length-set, length-append}
use Rattle.std.proofs.lemmas.List.Elements.{Contains-append_left, Contains-append_right, Contains-append_cases, Contains-push, Contains-push_cases}
use Rattle.std.proofs.lemmas.List.Sums.{sum_by-set}
use Rattle.std.proofs.lemmas.Bool.Decides.{nat_tests}
use Rattle.std.proofs.lemmas.Bool.{cases_eq}
use Rattle.std.proofs.lemmas.Grind.{common_steps}
use Rattle.elab_findings.specs.Uses.{Used, itself, named, names_of, is_marked, Marks, visit, visit_all}
use Rattle.elab_findings.specs.declared.search.Search.{Search}

in_cons : (x : ℕ) (xs : List ℕ) (y : ℕ) → Contains (x ∷ xs) y → (x ≡ y) ⊎ Contains xs y
in_cons x xs y m = ⊎_elim (λ a. ⊎_elim (λ b. absurd (omega (arith, b.1))) (λ e. inl e) (Contains-push_cases [] x y a)) (λ b. inr b) (Contains-append_cases (x ∷ []) xs y m)

abbrev weight : Bool → ℕ
weight b = cond b 0 1

abbrev pub left : Search → ℕ
left s = sum_by weight s.marks + length s.open_

-- one step of the search
pub record Step (s t : Search) (from : ℕ → Type 0) : Type 0 where
  pub size : length t.marks ≡ length s.marks
  pub grows : (d : ℕ) → is_marked s.marks d ≡ true → is_marked t.marks d ≡ true
  pub only : (d : ℕ) → is_marked t.marks d ≡ true → (is_marked s.marks d ≡ true) ⊎ from d
  pub waits : (d : ℕ) → is_marked t.marks d ≡ true → (is_marked s.marks d ≡ true) ⊎ Contains t.open_ d
  pub opens : (d : ℕ) → Contains s.open_ d → Contains t.open_ d
  pub inside : (d : ℕ) → Contains t.open_ d → Contains s.open_ d ⊎ (is_marked t.marks d ≡ true)
  pub weighs : left t ≡ left s

stay : (s : Search) (from : ℕ → Type 0) → Step s s from
stay s from = record {
  size = refl;
  grows = λ d h. h;
  only = λ d h. inl h;
  waits = λ d h. inl h;
  opens = λ d h. h;
  inside = λ d h. inl h;
  weighs = refl;
}

module _ (s : Search) (d : ℕ) (below : d < length s.marks) (fresh : is_marked s.marks d ≡ false) where
  abbrev next : Search
  next = record { marks = set s.marks d true; open_ = s.open_ ++ d ∷ [] }

  grown : (e : ℕ) → is_marked s.marks e ≡ true → is_marked (set s.marks d true) e ≡ true
  grown e h = grind (arith, nat_tests, common_steps, get_or-set_same, get_or-set_other, cases_eq d e)

  new_one : (e : ℕ) (t : Bool) → t ≡ eqb d e → is_marked (set s.marks d true) e ≡ true → (is_marked s.marks e ≡ true) ⊎ (d ≡ e)
  new_one e true t h = inr (grind (arith, nat_tests))
  new_one e false t h = let other : e ≢ d = grind (arith, nat_tests) in inl (sym (get_or-set_other s.marks d e true false other) ∙ h)

  weighed : left next ≡ left s
  weighed =
      let h = sum_by-set weight s.marks d true false below in
      let w : weight (get_or s.marks d false) ≡ 1 = ap weight fresh in
      omega (arith, h, w, length-append s.open_ (d ∷ []))

  moved : Step s next (λ e. d ≡ e)
  moved = record {
    size = length-set s.marks d true;
    grows = grown;
    only = λ e h. new_one e (eqb d e) refl h;
    waits = λ e h. ⊎_elim (λ a. inl a) (λ (q : d ≡ e). inr (subst (λ x. Contains (s.open_ ++ d ∷ []) x) q (Contains-push s.open_ d))) (new_one e (eqb d e) refl h);
    opens = λ e h. Contains-append_left s.open_ (d ∷ []) e h;
    inside = λ e h. ⊎_elim (λ a. inl a) (λ (q : d ≡ e). inr (subst (λ x. is_marked (set s.marks d true) x ≡ true) q (get_or-set_same s.marks d true false below))) (Contains-push_cases s.open_ d e h);
    weighs = weighed;
  }

visit_cases : (s : Search) (d : ℕ) (b m : Bool) → b ≡ nat_lt d (length s.marks) → m ≡ is_marked s.marks d →
    Step s (cond (b && not m) (record { marks = set s.marks d true; open_ = s.open_ ++ d ∷ [] }) s) (λ e. d ≡ e)
visit_cases s d false m b_is m_is = stay s (λ e. d ≡ e)
visit_cases s d true true b_is m_is = stay s (λ e. d ≡ e)
visit_cases s d true false b_is m_is = moved s d (grind (arith, nat_tests)) (sym m_is)

visit_step : (s : Search) (d : ℕ) → Step s (visit s d) (λ e. d ≡ e)
visit_step s d = visit_cases s d (nat_lt d (length s.marks)) (is_marked s.marks d) refl refl

visit_all_step : (s : Search) (ds : List ℕ) → Step s (visit_all s ds) (λ e. Contains ds e)
visit_all_step s [] = stay s (λ e. Contains [] e)
visit_all_step s (d ∷ ds) =
    let a = visit_step s d in
    let b = visit_all_step (visit s d) ds in
    record {
      size = b.size ∙ a.size;
      grows = λ e h. b.grows e (a.grows e h);
      only = λ e h. ⊎_elim (λ x. ⊎_elim (λ y. inl y) (λ (q : d ≡ e). inr (subst (λ z. Contains (d ∷ ds) z) q (Contains-append_left (d ∷ []) ds d (Contains-push [] d)))) (a.only e x)) (λ y. inr (Contains-append_right (d ∷ []) ds e y)) (b.only e h);
      waits = λ e h. ⊎_elim (λ x. ⊎_elim (λ y. inl y) (λ y. inr (b.opens e y)) (a.waits e x)) (λ y. inr y) (b.waits e h);
      opens = λ e h. b.opens e (a.opens e h);
      inside = λ e h. ⊎_elim (λ x. ⊎_elim (λ y. inl y) (λ y. inr (b.grows e y)) (a.inside e x)) (λ y. inr y) (b.inside e h);
      weighs = b.weighs ∙ a.weighs;
    }

-- all that were to be visited are marked
visited_one : (s : Search) (d : ℕ) (b m : Bool) → b ≡ nat_lt d (length s.marks) → m ≡ is_marked s.marks d → d < length s.marks →
    is_marked (cond (b && not m) (record { marks = set s.marks d true; open_ = s.open_ ++ d ∷ [] }) s).marks d ≡ true
visited_one s d false m b_is m_is below = absurd (grind (arith, nat_tests))
visited_one s d true true b_is m_is below = sym m_is
visited_one s d true false b_is m_is below = get_or-set_same s.marks d true false below

pub visited : (s : Search) (ds : List ℕ) (e : ℕ) → Contains ds e → e < length s.marks → is_marked (visit_all s ds).marks e ≡ true
visited s [] e m below = absurd (omega (arith, m.1))
visited s (d ∷ ds) e m below = ⊎_elim
    (λ (q : d ≡ e). (visit_all_step (visit s d) ds).grows e (subst (λ z. is_marked (visit s z).marks e ≡ true) (sym q) (visited_one s e (nat_lt e (length s.marks)) (is_marked s.marks e) refl refl below)))
    (λ x. visited (visit s d) ds e x (subst (λ n. e < n) (sym (visit_step s d).size) below))
    (in_cons d ds e m)

-- ---- the search as a whole

pub record Closing (roots : List ℕ) (uses : List (List ℕ)) (s : Search) : Type 0 where
  pub size : length s.marks ≡ length uses
  pub sound : (d : ℕ) → is_marked s.marks d ≡ true → Used roots uses d
  pub begun : (d : ℕ) → Contains roots d → d < length uses → is_marked s.marks d ≡ true
  pub inside : (d : ℕ) → Contains s.open_ d → is_marked s.marks d ≡ true
  pub closed : (c d : ℕ) → is_marked s.marks c ≡ true → Contains (names_of uses c) d → d < length uses → (is_marked s.marks d ≡ true) ⊎ Contains s.open_ c

marked_below : (marks : List Bool) (d : ℕ) → is_marked marks d ≡ true → d < length marks
marked_below [] zero h = absurd (cc h)
marked_below [] (suc d) h = absurd (cc h)
marked_below (b ∷ bs) zero h = omega arith
marked_below (b ∷ bs) (suc d) h = let i = marked_below bs d h in omega (arith, i)

-- the first step: the declarations that are used by themselves
pub first : (roots : List ℕ) (uses : List (List ℕ)) (s : Search) → length s.marks ≡ length uses → ((d : ℕ) → is_marked s.marks d ≡ false) → s.open_ ≡ [] → Closing roots uses (visit_all s roots)
first roots uses s long none empty =
    let st = visit_all_step s roots in
    let no : (d : ℕ) → is_marked s.marks d ≡ true → ⊥ = λ d h. absurd (cc (h, none d)) in
    record {
      size = st.size ∙ long;
      sound = λ d h. ⊎_elim (λ x. absurd (no d x)) (λ x. itself d (subst (λ n. d < n) (st.size ∙ long) (marked_below (visit_all s roots).marks d h)) x) (st.only d h);
      begun = λ d m below. visited s roots d m (subst (λ n. d < n) (sym long) below);
      inside = λ d h. ⊎_elim (λ (x : Contains s.open_ d). absurd (omega (arith, x.1, ap length empty))) (λ x. x) (st.inside d h);
      closed = λ c d h m below. ⊎_elim (λ x. absurd (no c x)) (λ x. inr x) (st.waits c h);
    }

-- a further step: what an open declaration names
pub further : (roots : List ℕ) (uses : List (List ℕ)) (s : Search) (c : ℕ) (rest : List ℕ) → Closing roots uses s → s.open_ ≡ rest ++ c ∷ [] →
    Closing roots uses (visit_all (record { marks = s.marks; open_ = rest }) (names_of uses c))
further roots uses s c rest k opened =
    let before : Search = record { marks = s.marks; open_ = rest } in
    let st = visit_all_step before (names_of uses c) in
    let is_used : Used roots uses c = k.sound c (k.inside c (subst (λ xs. Contains xs c) (sym opened) (Contains-push rest c))) in
    record {
      size = st.size ∙ k.size;
      sound = λ d h. ⊎_elim (λ x. k.sound d x) (λ x. named c d (subst (λ n. d < n) (st.size ∙ k.size) (marked_below (visit_all before (names_of uses c)).marks d h)) is_used x) (st.only d h);
      begun = λ d m below. st.grows d (k.begun d m below);
      inside = λ d h. ⊎_elim (λ x. st.grows d (k.inside d (subst (λ xs. Contains xs d) (sym opened) (Contains-append_left rest (c ∷ []) d x)))) (λ x. x) (st.inside d h);
      closed = λ e d h m below. ⊎_elim
          (λ x. ⊎_elim (λ y. inl (st.grows d y))
          (λ y. ⊎_elim (λ z. inr (st.opens e z)) (λ (q : c ≡ e). inl (visited before (names_of uses c) d (subst (λ z. Contains (names_of uses z) d) (sym q) m) (subst (λ n. d < n) (sym k.size) below)))
          (Contains-push_cases rest c e (subst (λ xs. Contains xs e) opened y)))
          (k.closed e d x m below))
          (λ x. inr x) (st.waits e h);
    }

-- at the end each used declaration is marked
all_used : (roots : List ℕ) (uses : List (List ℕ)) (s : Search) → Closing roots uses s → s.open_ ≡ [] → (d : ℕ) → Used roots uses d → is_marked s.marks d ≡ true
all_used roots uses s k empty d (itself _ below m) = k.begun d m below
all_used roots uses s k empty d (named c _ below u m) = ⊎_elim (λ x. x) (λ (x : Contains s.open_ c). absurd (omega (arith, x.1, ap length empty))) (k.closed c d (all_used roots uses s k empty c u) m below)

pub ended : (roots : List ℕ) (uses : List (List ℕ)) (s : Search) → Closing roots uses s → s.open_ ≡ [] → Marks roots uses s.marks
ended roots uses s k empty = λ d. (k.sound d, all_used roots uses s k empty d)

pub lighter : (s : Search) (c : ℕ) (rest ds : List ℕ) → s.open_ ≡ rest ++ c ∷ [] → left (visit_all (record { marks = s.marks; open_ = rest }) ds) < left s
lighter s c rest ds opened =
    let st = visit_all_step (record { marks = s.marks; open_ = rest }) ds in
    omega (arith, st.weighs, ap length opened, length-append rest (c ∷ []))
