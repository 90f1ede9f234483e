-- Each step is allowed.
use Rattle.std.proofs.Common.{◌≡◌, ℕ, zero, suc, ◌+◌, ◌-◌, ◌*◌, ◌%◌, ◌<◌, ◌≤◌, ◌^◌, List, [], ◌∷◌, length, set, Bool, true, cond, eqb, sym, refl, ap, ◌∙◌, subst, ⊎_elim, arith, slice_index, eq-eqb, ne_eqb, mod-eq_of_lt}
use mathlib.Core.Option.{some, some-ne-none}
use lib.ListN.{get_elem?}
use Rattle.std.proofs.lemmas.Bool.{cases_eq}
use Rattle.atomic_table.specs.Table.{Me, Allows, keeps}
use Rattle.store_api.specs.Tree.{Tree, Nil, Node}
use Rattle.store_api.specs.declared.Shape.{Shape}
use Rattle.row_rule.specs.Words.{Table, word, row_word, control, child, children}
use Rattle.row_rule.specs.declared.view.View.{View}
use Rattle.row_rule.specs.Rule.{held, active, Spells, Told, Rule}
use Rattle.row_rule.specs.Changes.{gains, gives, sees, known, made}
use Rattle.row_rule.specs.Plays.{row_at, ShapePart, PartIs}
use Rattle.row_rule.proofs.Sums.{one_else}
use Rattle.row_rule.proofs.Frames.{firm_named, child_named, live_below, same_words}
use Rattle.row_rule.proofs.Bounds.{count_small}
use Rattle.row_rule.proofs.Counting.{gains_rule, gives_rule}
use Rattle.row_rule.proofs.Reading.{sees_rule}
use Rattle.row_rule.proofs.Telling.{told}

-- the tree that is known of a row that is held
pub known_at : (xs : List (ℕ × Tree)) (r : ℕ) → 0 < held xs r → (i : ℕ) × (get_elem? xs i ≡ some (r, known xs r))
known_at [] r h = absurd (omega arith)
known_at (x ∷ xs) r h = ⊎_elim
    (λ (e : x.0 ≡ r). (0, λ j. some (e j, cond_true x.1 (known xs r) (eqb x.0 r) (eq-eqb x.0 r e) j)))
    (λ ne. let o = one_else x.0 r ne in let g = known_at xs r (omega arith) in (suc g.0, g.1 ∙ ap (λ b. some (r, cond b x.1 (known xs r))) (sym (ne_eqb x.0 r ne))))
    (cases_eq x.0 r)
  where
    cond_true : (a b : Tree) (c : Bool) → c ≡ true → a ≡ cond c a b
    cond_true a b c e = sym (ap (λ d. cond d a b) e)

-- the words of one row and no other
pub row_is : (v : View) (k : Table) → v.buckets ≡ k.buckets → v.lines ≡ k.lines → (r q j i : ℕ) → j < 11 → i < 11 → row_word k r j ≡ row_at v q i → (r ≡ q) × (j ≡ i)
row_is v k a b r q j i jl il e = (omega arith, omega arith)

-- a row that spells a tree has its shape's words
pub part_is : (k : Table) (ws : List ℕ) (t : Tree) (q j : ℕ) → j < 10 → Spells k ws t (suc q) → PartIs t j (word k ws q (suc j))
unfolding Spells
part_is k ws Nil q j l h = absurd (omega arith)
part_is k ws (Node s a b) q j l h = let f : q ≡ h.0 = let g = h.1 in omega arith in subst (λ p. PartIs (Node s a b) j (word k ws p (suc j))) (sym f) (ap (λ (x : Shape). length x.body) h.3, part j l)
  where
    part : (j : ℕ) → j < 10 → ShapePart s j (word k ws h.0 (suc j))
    part zero l = ap (λ (x : Shape). x.head) h.3
    part (suc zero) l = ap (λ (x : Shape). x.kids) h.3
    part (suc (suc zero)) l = ap (λ (x : Shape). slice_index x.body 0) h.3
    part (suc (suc (suc zero))) l = ap (λ (x : Shape). slice_index x.body 1) h.3
    part (suc (suc (suc (suc zero)))) l = ap (λ (x : Shape). slice_index x.body 2) h.3
    part (suc (suc (suc (suc (suc zero))))) l = ap (λ (x : Shape). slice_index x.body 3) h.3
    part (suc (suc (suc (suc (suc (suc zero)))))) l = ap (λ (x : Shape). slice_index x.body 4) h.3
    part (suc (suc (suc (suc (suc (suc (suc zero))))))) l = ap (λ (x : Shape). slice_index x.body 5) h.3
    part (suc (suc (suc (suc (suc (suc (suc (suc zero)))))))) l = ap (λ (x : Shape). slice_index x.body 6) h.3
    part (suc (suc (suc (suc (suc (suc (suc (suc (suc zero))))))))) l = ap (λ (x : Shape). slice_index x.body 7) h.3
    part (suc (suc (suc (suc (suc (suc (suc (suc (suc (suc j)))))))))) l = absurd (omega arith)

-- the new view stands where the old one stood
pub set_at : {A : Type 0} (vs : List A) (id : ℕ) (v w : A) → get_elem? vs id ≡ some v → get_elem? (set vs id w) id ≡ some w
set_at [] id v w e = absurd (some-ne-none v (sym e))
set_at (x ∷ xs) zero v w e = refl
set_at (x ∷ xs) (suc id) v w e = set_at xs id v w e

module _ (k : Table) (id : ℕ) (me : Me ℕ View) (mine : active me.0 ≡ 1) where
  -- one more hold of a row that is held
  pub gains_at : (r i : ℕ) → i ≡ row_word k r 0 → 0 < held me.0.holds r → length me.0.holds < 2 ^ 32
      → Allows (Rule k) 0 id me i (λ n. (n + 8) % 2 ^ 64) (λ n after. ((q : ℕ) → i ≡ row_at me.0 q 0 → after ≡ (gains q (known me.0.holds q) (made i n (n + 8) me.0.past) me.0, me.1)) × Told after.0)
  gains_at r i at_row has room s h slots at small =
      let n : ℕ = slice_index s.words i in let e : n ≡ control k s.words r = ap (slice_index s.words) at_row in
      let c = count_small k s h r in let f = h.views id me.0 at in
      let g = known_at me.0.holds r has in
      let m : (n + 8) % 2 ^ 64 ≡ n + 8 = mod-eq_of_lt (omega arith) in
      let w : View = gains r (known me.0.holds r) (made i n (n + 8) me.0.past) me.0 in
      let rule : Rule k (record { words = set s.words i ((n + 8) % 2 ^ 64); homes = s.homes; views = set s.views id w }) =
      subst (λ a. Rule k (record { words = set s.words a ((n + 8) % 2 ^ 64); homes = s.homes; views = set s.views id w })) (sym at_row)
      (gains_rule k s h id me.0 at mine (made i n (n + 8) me.0.past) r ((n + 8) % 2 ^ 64) (firm_named k s h id me.0 at r (omega arith)) (known me.0.holds r) (f.holds g.0 (r, known me.0.holds r) g.1) (omega (arith, m, e)) (omega (arith, m, e)) room) in (
        w,
        keeps,
        tt,
        rule,
        (
          λ q y. ap (λ (a : ℕ). (gains a (known me.0.holds a) (made i n (n + 8) me.0.past) me.0, me.1)) (row_is me.0 k (f.about mine).1 (f.about mine).2 r q 0 0 (omega arith) (omega arith) (sym at_row ∙ y)).0,
          told k (record { words = set s.words i ((n + 8) % 2 ^ 64); homes = s.homes; views = set s.views id w }) rule id w (set_at s.views id me.0 w at) mine,
        ),
      )

  -- one hold less
  pub gives_at : (r i : ℕ) → i ≡ row_word k r 0 → 0 < held me.0.holds r
      → Allows (Rule k) 0 id me i (λ n. (n + (2 ^ 64 - 8)) % 2 ^ 64) (λ n after. ((q : ℕ) → i ≡ row_at me.0 q 0 → (8 ≤ n) × ((m : ℕ) → m + 8 ≡ n → after ≡ (gives q (made i n m me.0.past) me.0, me.1))) × Told after.0)
  gives_at r i at_row has s h slots at small =
      let n : ℕ = slice_index s.words i in let e : n ≡ control k s.words r = ap (slice_index s.words) at_row in
      let f = h.views id me.0 at in let nm = firm_named k s h id me.0 at r (omega arith) in let rc = (h.rows r).counts in
      let m : ℕ = (n + (2 ^ 64 - 8)) % 2 ^ 64 in let me8 : m + 8 ≡ n = less n (omega arith) small in
      let w : View = gives r (made i n m me.0.past) me.0 in
      let rule : Rule k (record { words = set s.words i m; homes = s.homes; views = set s.views id w }) =
      subst (λ a. Rule k (record { words = set s.words a m; homes = s.homes; views = set s.views id w })) (sym at_row)
      (gives_rule k s h id me.0 at mine (made i n m me.0.past) r m (omega arith) (omega (arith, me8, e)) (omega (arith, me8, e)) has) in (
        w,
        keeps,
        tt,
        rule,
        (
          λ q y. (omega arith, λ o oe. ap (λ (a : ℕ × ℕ). (gives a.0 (made i n a.1 me.0.past) me.0, me.1)) (λ j. ((row_is me.0 k (f.about mine).1 (f.about mine).2 r q 0 0 (omega arith) (omega arith) (sym at_row ∙ y)).0 j, same m o n me8 oe j))),
          told k (record { words = set s.words i m; homes = s.homes; views = set s.views id w }) rule id w (set_at s.views id me.0 w at) mine,
        ),
      )
    where
      less : (n : ℕ) → 8 ≤ n → n < 2 ^ 64 → (n + (2 ^ 64 - 8)) % 2 ^ 64 + 8 ≡ n
      less n p q = omega arith

      same : (m o n : ℕ) → m + 8 ≡ n → o + 8 ≡ n → m ≡ o
      same m o n a b = omega arith

  -- a content word of a row that is held
  pub sees_at : (r j i : ℕ) → i ≡ row_word k r (suc j) → 0 < held me.0.holds r → j < 10
      → Allows (Rule k) 0 id me i (λ n. n) (λ n after. (q o : ℕ) → o < 10 → i ≡ row_at me.0 q (suc o) → (after ≡ (sees q o n i (made i n n me.0.past) me.0, me.1)) × PartIs (known me.0.holds q) o n × (o ≡ 1 → (c : ℕ) → 0 < children n c → c < 32 * me.0.buckets))
  sees_at r j i at_row has jl s h slots at small =
      let n : ℕ = slice_index s.words i in let e : n ≡ word k s.words r (suc j) = ap (slice_index s.words) at_row in
      let f = h.views id me.0 at in
      let live = (h.rows r).live (let nm = firm_named k s h id me.0 at r (omega arith) in omega arith) in let below = live_below k s.words r h.sized (omega (arith, live)) in (
        sees r j n i (made i n n me.0.past) me.0,
        keeps,
        tt,
        subst (λ (x : List ℕ × (ℕ × ℕ)). Rule k (record { words = x.0; homes = s.homes; views = set s.views id (sees r j x.1.0 x.1.1 (made i n n me.0.past) me.0) })) (λ t. (sym (same_words s.words i (let z = h.sized in omega arith)) t, (sym e t, sym at_row t)))
            (sees_rule k s h id me.0 at mine (made i n n me.0.past) r j has jl),
        λ q o ol y. let w = row_is me.0 k (f.about mine).1 (f.about mine).2 r q (suc j) (suc o) (omega arith) (omega arith) (sym at_row ∙ y) in
            let po : j ≡ o = pred_same j o w.1 in let g = known_at me.0.holds r has in (
              ap (λ (a : ℕ × ℕ). (sees a.0 a.1 n i (made i n n me.0.past) me.0, me.1)) (λ t. (w.0 t, po t)),
              subst (λ (a : ℕ × ℕ). PartIs (known me.0.holds a.0) a.1 n) (λ t. (w.0 t, po t)) (subst (PartIs (known me.0.holds r) j) (sym e) (part_is k s.words (known me.0.holds r) r j jl (f.holds g.0 (r, known me.0.holds r) g.1))),
              λ one c inside. let x : child k s.words r ≡ n = sym (e ∙ ap (λ a. word k s.words r (suc a)) (po ∙ one)) in let z : children (child k s.words r) c ≡ children n c = ap (λ a. children a c) x in
                  let m = child_named k s h r c live (omega arith) in let cl = (h.rows c).live (omega arith) in let b = live_below k s.words c h.sized (omega (arith, cl)) in let bk = (f.about mine).1 in omega arith,
            ),
      )
    where
      pred_same : (a b : ℕ) → suc a ≡ suc b → a ≡ b
      pred_same a b e = omega arith
