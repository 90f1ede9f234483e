-- From what each worker brought home to what all of them did: each index once, each result at its place.
use Rattle.std.proofs.Common.{◌≡◌, ℕ, zero, suc, ◌+◌, ◌-◌, ◌^◌, ◌<◌, ◌≤◌, ◌≢◌, Bool, List, [], ◌∷◌, ◌++◌, length, map, min, cond, eqb, get_or, refl, sym, ap, subst, ◌∙◌, eq-eqb, lt_of_not-le, arith}
use Rattle.std.specs.List.{All, AllByRecursion}
use Rattle.std.specs.List.Sorted.{IsPermutation, IsNonDecreasingBy}
use Rattle.std.proofs.lemmas.Bool.{lt-ltb, le-ltb}
use Rattle.std.specs.Prelude.{Result, Ok}
use Rattle.std.proofs.lemmas.List.{length-map, map-append, append-nil, append_assoc}
use Rattle.std.proofs.lemmas.List.Sorted.{All-permutation, IsPermutation-sym}
use mathlib.Core.Option.{some, some-injective, some-ne-none}
use mathlib.Core.Logic.{dite}
use native.Mathlib.Decide.{dec_le, ℕ_discrete}
use lib.ListN.{get_elem?}
use Rattle.atomic_table.proofs.Lists.{at_map}
use Rattle.store_api.specs.Tree.{Tree}
use Rattle.store_api.specs.Bag.{Bag}
use Rattle.entry_workers.specs.declared.work.Drawn.{Drawn}
use Rattle.entry_workers.specs.declared.work.Home.{Home}
use Rattle.entry_workers.specs.declared.draws.Hand.{Hand}
use Rattle.entry_workers.specs.Drawing.{hand}
use Rattle.entry_workers.specs.Lists.{total, times, once_below, joined, measured, Each}
use Rattle.entry_workers.specs.Working.{Stands, AllStand, Served, Ran, Worked, Gathered, one_if_halted}
use Rattle.entry_workers.proofs.Totals.{total-append, times-more, bit-zero}

-- one below the word, and none from it on
pub once-in : (x n : ℕ) → x < n → once_below x n ≡ 1
once-in x n h = ap (λ (b : Bool). cond {A = ℕ} b 1 0) (lt-ltb x n h)

pub once-out : (x n : ℕ) → n ≤ x → once_below x n ≡ 0
once-out x n h = ap (λ (b : Bool). cond {A = ℕ} b 1 0) (le-ltb x n h)

bit-one : (n : ℕ) → cond {A = ℕ} (eqb n n) 1 0 ≡ 1
bit-one n = ap (λ (b : Bool). cond {A = ℕ} b 1 0) (eq-eqb n n refl)

module _ {R : Type 0} where
  abbrev idx : List (Drawn R) → List ℕ
  idx = map (λ (d : Drawn R). d.index)

  -- each stands in the list at the place of its index
  abbrev pub Placed : List (Drawn R) → List (Drawn R) → Type 0
  Placed es ds = AllByRecursion (λ (d : Drawn R). get_elem? es d.index ≡ some d) ds

  low : (m : ℕ) (es : List (Drawn R)) → ((j : ℕ) (d : Drawn R) → j < length es → m ≤ (get_or es j d).index) → (y : ℕ) → y < m → times y (idx es) ≡ 0
  low m [] h y less = refl
  low m (e ∷ es) h y less = let a : m ≤ e.index = h 0 e (omega arith) in let b = bit-zero e.index y (λ q. absurd (omega arith)) in
      let r : times y (idx es) ≡ 0 = low m es (λ j d k. h (suc j) d (omega arith)) y less in omega arith

  -- a list whose indexes don't fall and in which each number from start below n stands once
  pub counts-up : (n start : ℕ) (es : List (Drawn R)) → IsNonDecreasingBy (λ (d : Drawn R). d.index) es
      → ((x : ℕ) → start ≤ x → times x (idx es) ≡ once_below x n) → ((x : ℕ) → x < start → times x (idx es) ≡ 0)
      → (length es ≡ n - start) × ((k : ℕ) (d : Drawn R) → get_elem? es k ≡ some d → d.index ≡ start + k)
  counts-up n start [] sorted once below = (
    dite (dec_le n start) (λ le. omega arith) (λ not. let less : start < n = lt_of_not-le not in let a = once start (omega arith) in let b = once-in start n less in absurd (omega arith)),
    λ k d e. absurd (some-ne-none d (sym e)),
  )
  counts-up n start (e ∷ es) sorted once below = let one = bit-one e.index in
      let from : start ≤ e.index = dite (dec_le start e.index) (λ le. le) (λ not. let less : e.index < start = lt_of_not-le not in let z = below e.index less in absurd (omega arith)) in
      let inside : e.index < n = dite (dec_le n e.index) (λ le. let z = once e.index from in let o = once-out e.index n le in absurd (omega arith)) (λ not. lt_of_not-le not) in
      let here : e.index ≡ start = dite (dec_le e.index start) (λ le. omega arith) (λ not. let less : start < e.index = lt_of_not-le not in
      let z : times start (idx (e ∷ es)) ≡ 0 = low e.index (e ∷ es) (λ j d k. sorted 0 j d (omega arith) k) start less in
      let o = once start (omega arith) in let i = once-in start n (omega arith) in absurd (omega arith)) in
      let rest = counts-up n (suc start) es (λ i j d p q. sorted (suc i) (suc j) d (omega arith) (omega arith))
      (λ x p. let z = once x (omega arith) in let b = bit-zero e.index x (λ q. absurd (omega arith)) in omega arith)
      (λ x p. dite (ℕ_discrete x start)
      (λ same. let z = once start (omega arith) in let i = once-in start n (omega arith) in let s : times x (idx es) ≡ times start (idx es) = ap (λ y. times y (idx es)) same in
      let b : cond {A = ℕ} (eqb e.index start) 1 0 ≡ 1 = ap (λ (t : Bool). cond {A = ℕ} t 1 0) (eq-eqb e.index start here) in omega arith)
      (λ other. let less : x < start = lt-of x start p other in let z = below x less in let b = bit-zero e.index x (λ q. absurd (omega arith)) in omega arith)) in (
        (let l = rest.0 in omega arith),
        λ k d q. at-place k d q here rest.1,
      )
    where
      lt-of : (x s : ℕ) → x < suc s → x ≢ s → x < s
      lt-of x s h ne = dite (dec_le s x) (λ le. absurd (ne (omega arith))) (λ not. lt_of_not-le not)

      at-place : (k : ℕ) (d : Drawn R) → get_elem? (e ∷ es) k ≡ some d → e.index ≡ start → ((j : ℕ) (c : Drawn R) → get_elem? es j ≡ some c → c.index ≡ suc start + j) → d.index ≡ start + k
      at-place zero d q here rest = let s : e.index ≡ d.index = ap (λ (c : Drawn R). c.index) (some-injective e d q) in omega arith
      at-place (suc k) d q here rest = let r = rest k d q in omega arith

  to-recursion : (P : Drawn R → Type 0) (ds : List (Drawn R)) → All P ds → AllByRecursion P ds
  to-recursion P [] h = tt
  to-recursion P (d ∷ ds) h = (h 0 d (omega arith), to-recursion P ds (λ k c l. h (suc k) c (omega arith)))

  at-any : (es : List (Drawn R)) (k : ℕ) (d : Drawn R) → k < length es → get_elem? es k ≡ some (get_or es k d)
  at-any [] k d l = absurd (omega arith)
  at-any (e ∷ es) zero d l = refl
  at-any (e ∷ es) (suc k) d l = at-any es k d (omega arith)

  -- in the sorted list each stands at its index, so each of the unsorted list does
  pub placed : (n : ℕ) (ds es : List (Drawn R)) → IsPermutation ds es → ((k : ℕ) (d : Drawn R) → get_elem? es k ≡ some d → d.index ≡ 0 + k) → Placed es ds
  placed n ds es perm up = let P = λ (d : Drawn R). get_elem? es d.index ≡ some d in
      to-recursion P ds (All-permutation P es ds (IsPermutation-sym ds es perm) (λ k d l. let c = get_or es k d in let at = at-any es k d l in
      let e : c.index ≡ k = (let u = up k c at in omega arith) in subst (λ i. get_elem? es i ≡ some c) (sym e) at))

  first-part : (es xs ys : List (Drawn R)) → Placed es (xs ++ ys) → Placed es xs × Placed es ys
  first-part es [] ys h = (tt, h)
  first-part es (x ∷ xs) ys h = let r = first-part es xs ys h.1 in ((h.0, r.0), r.1)

  measured-at : (f : R → ℕ) (es : List (Drawn R)) (i : ℕ) (d : Drawn R) → get_elem? es i ≡ some d → measured f (map (λ (e : Drawn R). e.result) es) i ≡ f d.result
  measured-at f [] i d h = absurd (some-ne-none d (sym h))
  measured-at f (e ∷ es) zero d h = ap (λ (c : Drawn R). f c.result) (some-injective e d h)
  measured-at f (e ∷ es) (suc i) d h = measured-at f es i d h

  share-total : (f : R → ℕ) (es ds : List (Drawn R)) → Placed es ds → total (measured f (map (λ (e : Drawn R). e.result) es)) (idx ds) ≡ total (λ (d : Drawn R). f d.result) ds
  share-total f es [] h = refl
  share-total f es (d ∷ ds) h = let a = measured-at f es d.index d h.0 in let b = share-total f es ds h.1 in omega arith

module _ {R : Type 0} (held : R → ℕ → ℕ) (promised : ℕ → R → (ℕ → Tree) → Type 0) (halted : R → Bool) where
  share-stands : (bag : Bag) (es ds : List (Drawn R)) → Placed es ds → AllStand held promised halted bag ds → (i : ℕ) (r : R) → 0 < times i (idx ds)
      → get_elem? (map (λ (e : Drawn R). e.result) es) i ≡ some r → Stands held promised halted bag i r
  share-stands bag es [] p s i r h at = absurd (omega arith)
  share-stands bag es (d ∷ ds) p s i r h at = dite (ℕ_discrete d.index i)
      (λ same. let there = at_map (λ (e : Drawn R). e.result) es d.index d p.0 in
      let is : d.result ≡ r = some-injective d.result r (sym there ∙ (ap (λ k. get_elem? (map (λ (e : Drawn R). e.result) es) k) same ∙ at)) in
      subst (λ k. Stands held promised halted bag k r) same (subst (λ q. Stands held promised halted bag d.index q) is s.0))
      (λ other. let b = bit-zero d.index i other in share-stands bag es ds p.1 s.1 i r (omega arith) at)

  module _ {S : Type 0} (bag : S → Bag) (n : ℕ) where
    abbrev pub AllServed : List Bag → List (Home S R) → Type 0
    AllServed [] [] = Unit {0}
    AllServed (b ∷ bs) (h ∷ hs) = Served held promised halted n b (bag h.pass) h.drawer.me.0 h.drawn.items × AllServed bs hs
    AllServed bs hs = ⊥

    abbrev hands : List (Home S R) → List ℕ
    hands = joined (λ (h : Home S R). h.drawer.me.0.drawn)

    abbrev all : List (Home S R) → List (Drawn R)
    all = joined (λ (h : Home S R). h.drawn.items)

    pub parts-of : (bs : List Bag) (hs : List (Home S R)) → AllServed bs hs → total (λ (h : Home S R). h.drawer.me.0.parts) hs ≡ length hs
    parts-of [] [] s = refl
    parts-of (b ∷ bs) [] s = absurd s
    parts-of [] (h ∷ hs) s = absurd s
    parts-of (b ∷ bs) (h ∷ hs) s = let r = parts-of bs hs s.1 in let p = ap (λ (v : Hand). v.parts) s.0.work.drew in omega arith

    drew-times : (x : ℕ) (h : Home S R) (b : Bag) (s : Served held promised halted n b (bag h.pass) h.drawer.me.0 h.drawn.items)
        → times x h.drawer.me.0.drawn ≡ times x (idx h.drawn.items) + cond {A = ℕ} (eqb s.last x) 1 0
    drew-times x h b s = ap (λ (v : Hand). times x v.drawn) s.work.drew ∙ times-more x (idx h.drawn.items) s.last

    low-times : (bs : List Bag) (hs : List (Home S R)) → AllServed bs hs → (x : ℕ) → x < n → times x (hands hs) ≡ times x (idx (all hs))
    low-times [] [] s x less = refl
    low-times (b ∷ bs) [] s x less = absurd s
    low-times [] (h ∷ hs) s x less = absurd s
    low-times (b ∷ bs) (h ∷ hs) s x less = let r = low-times bs hs s.1 x less in let d = drew-times x h b s.0 in let p = s.0.past in
        let z = bit-zero s.0.last x (λ q. absurd (omega arith)) in
        let a = total-append (λ y. cond {A = ℕ} (eqb y x) 1 0) h.drawer.me.0.drawn (hands hs) in
        let m = ap (times x) (map-append (λ (e : Drawn R). e.index) h.drawn.items (all hs)) in
        let c = total-append (λ y. cond {A = ℕ} (eqb y x) 1 0) (idx h.drawn.items) (idx (all hs)) in omega arith

    high-times : (bs : List Bag) (hs : List (Home S R)) → AllServed bs hs → (x : ℕ) → n ≤ x → times x (idx (all hs)) ≡ 0
    high-times [] [] s x more = refl
    high-times (b ∷ bs) [] s x more = absurd s
    high-times [] (h ∷ hs) s x more = absurd s
    high-times (b ∷ bs) (h ∷ hs) s x more = let r = high-times bs hs s.1 x more in let z = s.0.work.below x more in
        let m = ap (times x) (map-append (λ (e : Drawn R). e.index) h.drawn.items (all hs)) in
        let c = total-append (λ y. cond {A = ℕ} (eqb y x) 1 0) (idx h.drawn.items) (idx (all hs)) in omega arith

    -- what the one that has all parts learns: the workers drew each index below n once
    pub once-each : (word : ℕ) (bs : List Bag) (hs : List (Home S R)) → 0 < length hs → AllServed bs hs → ((x : ℕ) → times x (hands hs) ≡ once_below x word)
        → (x : ℕ) → times x (idx (all hs)) ≡ once_below x n
    once-each word bs [] some_worker s learned x = absurd (omega arith)
    once-each word [] (h ∷ hs) some_worker s learned x = absurd s
    once-each word (b ∷ bs) (h ∷ hs) some_worker s learned x = let last = s.0.last in let p = s.0.past in let d = drew-times last h b s.0 in let o = bit-one last in
        let a = total-append (λ y. cond {A = ℕ} (eqb y last) 1 0) h.drawer.me.0.drawn (hands hs) in let l = learned last in
        let long : last < word = dite (dec_le word last) (λ le. let z = once-out last word le in absurd (omega arith)) (λ not. lt_of_not-le not) in
        dite (dec_le n x) (λ le. high-times (b ∷ bs) (h ∷ hs) s x le ∙ sym (once-out x n le))
        (λ not. let less : x < n = lt_of_not-le not in sym (low-times (b ∷ bs) (h ∷ hs) s x less) ∙ (learned x ∙ (once-in x word (omega arith) ∙ sym (once-in x n less))))

    abbrev shares : List (Home S R) → List (List ℕ)
    shares = map (λ (h : Home S R). idx h.drawn.items)

    joined-shares : (hs : List (Home S R)) → joined (λ share. share) (shares hs) ≡ idx (all hs)
    joined-shares [] = refl
    joined-shares (h ∷ hs) = ap (λ l. idx h.drawn.items ++ l) (joined-shares hs) ∙ sym (map-append (λ (e : Drawn R). e.index) h.drawn.items (all hs))

    ran : (es : List (Drawn R)) (b : Bag) (h : Home S R) → Served held promised halted n b (bag h.pass) h.drawer.me.0 h.drawn.items → Placed es h.drawn.items
        → Ran held promised halted (map (λ (e : Drawn R). e.result) es) b (bag h.pass) (idx h.drawn.items)
    ran es b h s p = let w = s.work in record {
      holds = record {
        counts = λ x. (let c = w.holds.counts x in let t = share-total (λ r. held r x) es h.drawn.items p in omega arith);
        trees = w.holds.trees;
        about = w.holds.about;
        home = w.holds.home;
        stops = w.holds.stops;
        looks = w.holds.looks;
        misses = w.holds.misses;
      };
      stops = (let t = share-total (one_if_halted held promised halted) es h.drawn.items p in subst (λ k. min (b.stops + k) (2 ^ 64 - 1) ≤ (bag h.pass).stops) (sym t) w.stops);
      stand = share-stands (bag h.pass) es h.drawn.items p w.stand;
    }

    all-ran : (es : List (Drawn R)) (bs : List Bag) (hs : List (Home S R)) → AllServed bs hs → Placed es (all hs)
        → Each (Ran held promised halted (map (λ (e : Drawn R). e.result) es)) bs (map (λ (h : Home S R). bag h.pass) hs) (shares hs)
    all-ran es [] [] s p = tt
    all-ran es (b ∷ bs) [] s p = absurd s
    all-ran es [] (h ∷ hs) s p = absurd s
    all-ran es (b ∷ bs) (h ∷ hs) s p = let q = first-part es h.drawn.items (all hs) p in (ran es b h s.0 q.0, all-ran es bs hs s.1 q.1)

    pub worked : (word : ℕ) (bs : List Bag) (hs : List (Home S R)) (es : List (Drawn R)) → 0 < length hs → AllServed bs hs → ((x : ℕ) → times x (hands hs) ≡ once_below x word)
        → IsPermutation (all hs) es → ((x : ℕ) → times x (idx es) ≡ times x (idx (all hs))) → IsNonDecreasingBy (λ (d : Drawn R). d.index) es
        → Worked held promised halted n bs (map (λ (h : Home S R). bag h.pass) hs) (map (λ (e : Drawn R). e.result) es)
    worked word bs hs es some_worker s learned perm same sorted = let o = once-each word bs hs some_worker s learned in
        let up = counts-up n 0 es sorted (λ x _. same x ∙ o x) (λ x less. absurd (omega arith)) in record {
          shares = shares hs;
          once = λ x. ap (times x) (joined-shares hs) ∙ o x;
          count = length-map es (λ (e : Drawn R). e.result) ∙ (let l = up.0 in omega arith);
          passes = all-ran es bs hs s (placed n (all hs) es perm up.1);
        }

joined-more : {X Y : Type 0} (f : X → List Y) (xs : List X) (x : X) → joined f (xs ++ x ∷ []) ≡ joined f xs ++ f x
joined-more f [] x = append-nil (f x)
joined-more f (y ∷ ys) x = ap (λ l. f y ++ l) (joined-more f ys x) ∙ sym (append_assoc (f y) (joined f ys) (f x))

-- the next that came home
module _ {S R E : Type 0} where
  pub gathers : (homes : List (Result (Home S R) E)) (old now after : Hand) (passes passes' : List S) (drawn drawn' : List (Drawn R)) (h : Home S R) (r : Result (Home S R) E)
      → r ≡ Ok h → Gathered homes old now passes drawn → after ≡ hand (now.parts + h.drawer.me.0.parts) (now.drawn ++ h.drawer.me.0.drawn)
      → passes' ≡ passes ++ h.pass ∷ [] → drawn' ≡ drawn ++ h.drawn.items → Gathered (homes ++ r ∷ []) old after passes' drawn'
  gathers homes old now after passes passes' drawn drawn' h r came g took passed results = record {
    come = g.come ++ h ∷ [];
    all = ap (λ k. k ++ r ∷ []) g.all ∙ (ap (λ k. map Ok g.come ++ k ∷ []) came ∙ sym (map-append Ok g.come (h ∷ [])));
    passed = passed ∙ (ap (λ k. k ++ h.pass ∷ []) g.passed ∙ sym (map-append (λ (e : Home S R). e.pass) g.come (h ∷ [])));
    results = results ∙ (ap (λ k. k ++ h.drawn.items) g.results ∙ sym (joined-more (λ (e : Home S R). e.drawn.items) g.come h));
    parts = (let t = total-append (λ (e : Home S R). e.drawer.me.0.parts) g.come (h ∷ []) in let p = g.parts in let a = ap (λ (v : Hand). v.parts) took in omega arith);
    draws = ap (λ (v : Hand). v.drawn) took ∙ (ap (λ k. k ++ h.drawer.me.0.drawn) g.draws ∙ (append_assoc old.drawn (joined (λ (e : Home S R). e.drawer.me.0.drawn) g.come) h.drawer.me.0.drawn
        ∙ ap (λ k. old.drawn ++ k) (sym (joined-more (λ (e : Home S R). e.drawer.me.0.drawn) g.come h))));
  }

  pub gathers-none : (old : Hand) (passes : List S) (drawn : List (Drawn R)) → passes ≡ [] → drawn ≡ [] → Gathered {E = E} [] old old passes drawn
  gathers-none old passes drawn p d = record { come = []; all = refl; passed = p; results = d; parts = omega arith; draws = sym (append-nil old.drawn) }
