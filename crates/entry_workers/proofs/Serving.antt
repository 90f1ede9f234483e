-- A worker's turns: each result that stands goes on standing, and the pass gains its holds.
use Rattle.std.proofs.Common.{◌≡◌, ℕ, ◌+◌, ◌-◌, ◌^◌, ◌<◌, ◌≤◌, Bool, true, false, List, [], ◌∷◌, ◌++◌, length, map, min, cond, refl, sym, ap, subst, ◌∙◌, arith}
use Rattle.std.proofs.lemmas.List.{length-append, length-map, map-append}
use Rattle.atomic_table.specs.Table.{Me}
use Rattle.store_api.specs.Tree.{Tree}
use Rattle.store_api.specs.Bag.{Bag, Trades, Rose, none}
use Rattle.entry_workers.specs.declared.work.Drawn.{Drawn}
use Rattle.entry_workers.specs.declared.draws.Hand.{Hand}
use Rattle.entry_workers.specs.Drawing.{hand}
use Rattle.entry_workers.specs.Lists.{total, times}
use Rattle.entry_workers.specs.Working.{Stands, AllStand, Serving, one_if_halted}
use Rattle.entry_workers.proofs.Totals.{total-append, times-more, bit-zero}

pub trades-refl : (b : Bag) → Trades b b none (λ x. 0)
trades-refl b = record { counts = λ x. omega arith; trees = λ x h. refl; about = refl; home = refl; stops = omega arith; looks = omega arith; misses = omega arith }

pub trades-trans : (b m a : Bag) (f g h : ℕ → ℕ) → Trades b m none f → Trades m a none g → ((x : ℕ) → h x ≡ f x + g x) → Trades b a none h
trades-trans b m a f g h p q e = record {
  counts = λ x. (let i = p.counts x in let j = q.counts x in let k = e x in omega arith);
  trees = λ x here. (let i = p.counts x in q.trees x (omega arith) ∙ p.trees x here);
  about = q.about ∙ p.about;
  home = q.home ∙ p.home;
  stops = (let i = p.stops in let j = q.stops in omega arith);
  looks = (let i = p.looks in let j = q.looks in omega arith);
  misses = (let i = p.misses in let j = q.misses in omega arith);
}

risen : (b t m a : ℕ) (halted : Bool) → min (b + t) (2 ^ 64 - 1) ≤ m → m ≤ a → (halted ≡ true → Rose m a) → min (b + (t + (cond halted 1 0 + 0))) (2 ^ 64 - 1) ≤ a
risen b t m a true before up rose = let r = rose refl in omega arith
risen b t m a false before up rose = omega arith

module _ {R : Type 0} (held : R → ℕ → ℕ) (promised : ℕ → R → (ℕ → Tree) → Type 0) (halted : R → Bool) where
  -- what stands goes on standing where a bag only gains
  pub stand-on : (m a : Bag) (g : ℕ → ℕ) (i : ℕ) (r : R) → Trades m a none g → Stands held promised halted m i r → Stands held promised halted a i r
  stand-on m a g i r q s = record {
    trees = s.trees;
    promise = s.promise;
    holds = λ x h. (let c = q.counts x in let d = s.holds x h in omega arith);
    same = λ x h. q.trees x (s.holds x h) ∙ s.same x h;
  }

  all-stand-on : (m a : Bag) (g : ℕ → ℕ) (ds : List (Drawn R)) → Trades m a none g → AllStand held promised halted m ds → AllStand held promised halted a ds
  all-stand-on m a g [] q s = tt
  all-stand-on m a g (d ∷ ds) q s = (stand-on m a g d.index d.result q s.0, all-stand-on m a g ds q s.1)

  stand-more : (a : Bag) (ds : List (Drawn R)) (d : Drawn R) → AllStand held promised halted a ds → Stands held promised halted a d.index d.result → AllStand held promised halted a (ds ++ d ∷ [])
  stand-more a [] d s t = (t, tt)
  stand-more a (e ∷ ds) d s t = (s.0, stand-more a ds d s.1 t)

  pub begins : (n next : ℕ) (b : Bag) → Serving held promised halted n b b (hand 1 ([] ++ next ∷ [])) [] next
  begins n next b = record { holds = trades-refl b; stops = omega arith; stand = tt; below = λ x h. refl; drew = refl }

  pub goes-on : (n next then : ℕ) (b m a : Bag) (drawer : Hand) (ds : List (Drawn R)) (d : Drawn R) → d.index ≡ next → next < n
      → Serving held promised halted n b m drawer ds next
      → Trades m a none (held d.result) → promised next d.result a.tree → (halted d.result ≡ true → Rose m.stops a.stops)
      → Serving held promised halted n b a (hand drawer.parts (drawer.drawn ++ then ∷ [])) (ds ++ d ∷ []) then
  goes-on n next then b m a drawer ds d named less w q p rose = let indexes = map (λ (e : Drawn R). e.index) ds in
      let longer : map (λ (e : Drawn R). e.index) (ds ++ d ∷ []) ≡ indexes ++ next ∷ [] = map-append (λ (e : Drawn R). e.index) ds (d ∷ []) ∙ ap (λ k. indexes ++ k ∷ []) named in record {
        holds = trades-trans b m a _ (held d.result) _ w.holds q (λ x. (let t = total-append (λ (e : Drawn R). held e.result x) ds (d ∷ []) in omega arith));
        stops = (let t = total-append (λ (e : Drawn R). one_if_halted held promised halted e.result) ds (d ∷ []) in
            let r = risen b.stops (total (λ (e : Drawn R). one_if_halted held promised halted e.result) ds) m.stops a.stops (halted d.result) w.stops q.stops rose in
            subst (λ k. min (b.stops + k) (2 ^ 64 - 1) ≤ a.stops) (sym t) r);
        stand = stand-more a ds d (all-stand-on m a _ ds q w.stand) (record {
          trees = a.tree;
          promise = subst (λ i. promised i d.result a.tree) (sym named) p;
          holds = λ x h. (let c = q.counts x in omega arith);
          same = λ x h. refl;
        });
        below = λ x h. (let z = w.below x h in let e = times-more x indexes next in
            let other = bit-zero next x (λ same. absurd (omega arith)) in
            ap (times x) longer ∙ (omega arith));
        drew = ap (λ (v : Hand). hand v.parts (v.drawn ++ then ∷ [])) w.drew ∙ ap (λ l. hand 1 (l ++ then ∷ [])) (sym longer);
      }

  -- so many draws, and one more
  pub few-draws : (n next : ℕ) (b m : Bag) (drawer : Hand) (ds : List (Drawn R)) → Serving held promised halted n b m drawer ds next → (length drawer.drawn ≡ length ds + 1) × (drawer.parts ≡ 1)
  few-draws n next b m drawer ds w = let indexes = map (λ (e : Drawn R). e.index) ds in
      let a = ap (λ (v : Hand). length v.drawn) w.drew in let l = length-append indexes (next ∷ []) in let k = length-map ds (λ (e : Drawn R). e.index) in
      (omega arith, ap (λ (v : Hand). v.parts) w.drew)

  -- the same, as the worker's loop has it
  pub begins-so : (n next : ℕ) (b : Bag) (before after : Me (Unit {0}) Hand) (ds : List (Drawn R)) → before ≡ (hand 1 [], []) → after ≡ (hand before.0.parts (before.0.drawn ++ next ∷ []), before.1) → ds ≡ []
      → (after.1 ≡ []) × Serving held promised halted n b b after.0 ds next
  begins-so n next b before after ds idle drew empty =
      let v : after.0 ≡ hand 1 (next ∷ []) = ap (λ m. m.0) drew ∙ ap (λ (m : Me (Unit {0}) Hand). hand m.0.parts (m.0.drawn ++ next ∷ [])) idle in (
        ap (λ m. m.1) drew ∙ ap (λ (m : Me (Unit {0}) Hand). m.1) idle,
        subst (λ u. Serving held promised halted n b b u ds next) (sym v) (subst (λ l. Serving held promised halted n b b (hand 1 (next ∷ [])) l next) (sym empty) (begins n next b)),
      )

  pub goes-on-so : (n next then : ℕ) (b m a : Bag) (before after : Me (Unit {0}) Hand) (ds es : List (Drawn R)) (d : Drawn R) → d.index ≡ next → next < n
      → Serving held promised halted n b m before.0 ds next
      → Trades m a none (held d.result) → promised next d.result a.tree → (halted d.result ≡ true → Rose m.stops a.stops)
      → after ≡ (hand before.0.parts (before.0.drawn ++ then ∷ []), before.1) → es ≡ ds ++ d ∷ []
      → Serving held promised halted n b a after.0 es then
  goes-on-so n next then b m a before after ds es d named less w q p rose drew longer =
      let v : after.0 ≡ hand before.0.parts (before.0.drawn ++ then ∷ []) = ap (λ m. m.0) drew in
      subst (λ u. Serving held promised halted n b a u es then) (sym v) (subst (λ l. Serving held promised halted n b a (hand before.0.parts (before.0.drawn ++ then ∷ [])) l then) (sym longer)
      (goes-on n next then b m a before.0 ds d named less w q p rose))
