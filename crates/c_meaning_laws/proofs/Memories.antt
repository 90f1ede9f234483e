-- Which objects live behind writes and the ends of lifetimes, with which sizes, and that pointers stay inside them.
use Rattle.std.proofs.Common.{◌≡◌, ◌≢◌, ℕ, ◌+◌, ◌-◌, ◌<◌, nat_eq, nat_lt, ℤ, pos, ◌≤ℤ◌, ◌*ℤ◌, List, [], ◌∷◌, length, map, replicate, Bool, true, false, cond, Option, Some, None, refl, sym, ap, subst, ◌∙◌, arith, inl, inr}
use Rattle.std.specs.Prelude.{All, not, if◌then◌else◌}
use Rattle.std.specs.List.{filter}
use Rattle.std.proofs.lemmas.List.{length-map, length-replicate}
use Rattle.std.proofs.lemmas.List.Elements.{All-nil, All-cons, All-head, All-tail, All-weaker, All-map, All-filter, All-replicate, All-get_or, All-from_get_or}
use Rattle.std.proofs.lemmas.Bool.{cases_lt, cases_eq}
use Rattle.std.proofs.lemmas.Bool.Decides.{nat_tests}
use Rattle.c_memory.specs.declared.cells.Cell.{Cell}
use Rattle.c_memory.specs.declared.cells.Cell.TheVariants.{Uninit, Dangling, Bit, Ptr}
use Rattle.c_memory.specs.declared.memory.Object.{Object}
use Rattle.c_memory.specs.Memory.{object, cell_behind, overwritten, put_in, put, entered, is_one_of, dangled, dangled_object, left}
use Rattle.c_memory.proofs.Writes.{length-overwritten, overwritten_at, behind_before, behind_inside, behind_after}
use Rattle.c_meaning.specs.Lawful.{InOrder, PointsInside, LawfulMemory, LivesAt}

-- ---- the size of the object of a base, where it lives

abbrev pub size_at : List Object → ℕ → Option ℕ
size_at [] b = None
size_at (o ∷ os) b = if nat_eq o.base b then Some (length o.cells) else size_at os b

pub size_of_object : (m : List Object) (b : ℕ) (cells : List Cell) → object m b ≡ Some cells → size_at m b ≡ Some (length cells)
size_of_object [] b cells h = absurd (cc)
size_of_object (o ∷ os) b cells h =
    (elim (nat_eq o.base b) as (λ v. (if v then Some o.cells else object os b) ≡ Some cells → (if v then Some (length o.cells) else size_at os b) ≡ Some (length cells)) [
      | true ↦ λ e. let same : o.cells ≡ cells = cc in ap (λ (l : List Cell). Some (length l)) same
      | false ↦ λ e. size_of_object os b cells e
    ]) h

pub object_of_size : (m : List Object) (b s : ℕ) → size_at m b ≡ Some s → LivesAt m b s
object_of_size [] b s h = absurd (cc)
object_of_size (o ∷ os) b s h =
    (elim (nat_eq o.base b) as (λ v. (if v then Some (length o.cells) else size_at os b) ≡ Some s → (cells : List Cell) × ((if v then Some o.cells else object os b) ≡ Some cells) × (length cells ≡ s)) [
      | true ↦ λ e. (o.cells, refl, cc)
      | false ↦ λ e. object_of_size os b s e
    ]) h

pub size_that_lives : (m : List Object) (b s : ℕ) → LivesAt m b s → size_at m b ≡ Some s
size_that_lives m b s h = size_of_object m b h.0 h.1 ∙ ap Some h.2

pub no_size : (m : List Object) (b : ℕ) → object m b ≡ None → size_at m b ≡ None
no_size [] b h = refl
no_size (o ∷ os) b h =
    (elim (nat_eq o.base b) as (λ v. (if v then Some o.cells else object os b) ≡ None → (if v then Some (length o.cells) else size_at os b) ≡ None) [
      | true ↦ λ e. absurd (cc)
      | false ↦ λ e. no_size os b e
    ]) h

-- ---- pointers

-- what a pointer's bit says, by sizes
pub record Points (m : List Object) (base : ℕ) (offset : ℤ) : Type 0 where
  pub size : ℕ
  pub lives : size_at m base ≡ Some size
  pub above : pos 0 ≤ℤ offset
  pub below : (pos 8 *ℤ offset) ≤ℤ pos size

pub points_of : (m : List Object) (base : ℕ) (offset : ℤ) (bit : ℕ) → PointsInside m (Ptr base offset bit) → Points m base offset
points_of m base offset bit h = record { size = length h.1.0; lives = size_of_object m base h.1.0 h.1.1; above = h.1.2; below = h.1.3 }

pub inside_of : (m : List Object) (base : ℕ) (offset : ℤ) (bit : ℕ) → bit < 64 → Points m base offset → PointsInside m (Ptr base offset bit)
inside_of m base offset bit few h =
    let o = object_of_size m base h.size h.lives in
    (few, (o.0, o.1, h.above, subst (λ (s : ℕ). (pos 8 *ℤ offset) ≤ℤ pos s) (sym o.2) h.below))

-- every object of one memory lives in another, with its size
abbrev pub LivesIn : List Object → List Object → Type 0
LivesIn m n = (b s : ℕ) → size_at m b ≡ Some s → size_at n b ≡ Some s

pub points_in : (m n : List Object) (base : ℕ) (offset : ℤ) → LivesIn m n → Points m base offset → Points n base offset
points_in m n base offset h p = record { size = p.size; lives = h base p.size p.lives; above = p.above; below = p.below }

pub inside_in : (m n : List Object) → LivesIn m n → (c : Cell) → PointsInside m c → PointsInside n c
inside_in m n h Uninit p = tt
inside_in m n h Dangling p = tt
inside_in m n h (Bit b) p = tt
inside_in m n h (Ptr base offset bit) p = inside_of n base offset bit p.0 (points_in m n base offset h (points_of m base offset bit p))

-- ---- objects that change and keep their bases

module _ (f : Object → Object) (same : (o : Object) → (f o).base ≡ o.base) where
  pub in_order_map : (m : List Object) → InOrder m → InOrder (map f m)
  in_order_map [] h = tt
  in_order_map (o ∷ os) h = (
    All-map (λ (q : Object). (f o).base < q.base) f os (All-weaker (λ (q : Object). o.base < q.base) (λ (q : Object). (f o).base < (f q).base) (λ q l. omega (arith, same o, same q)) os h.0),
    in_order_map os h.1,
  )

  pub size_map : (long : (o : Object) → length (f o).cells ≡ length o.cells) (m : List Object) (b : ℕ) → size_at (map f m) b ≡ size_at m b
  size_map long [] b = refl
  size_map long (o ∷ os) b =
      ap (λ (c : ℕ). if nat_eq c b then Some (length (f o).cells) else size_at (map f os) b) (same o)
      ∙ ap (λ (l : ℕ). if nat_eq o.base b then Some l else size_at (map f os) b) (long o)
      ∙ ap (λ (r : Option ℕ). if nat_eq o.base b then Some (length o.cells) else r) (size_map long os b)

-- ---- writes

put_in_base : (base at : ℕ) (new : List Cell) (o : Object) → (put_in base at new o).base ≡ o.base
put_in_base base at new o = elim (nat_eq o.base base) as (λ v. (if v then (record { base = o.base; cells = overwritten o.cells at new }) else o).base ≡ o.base) [ true ↦ refl | false ↦ refl ]

put_in_length : (base at : ℕ) (new : List Cell) (o : Object) → length (put_in base at new o).cells ≡ length o.cells
put_in_length base at new o = elim (nat_eq o.base base) as (λ v. length (if v then (record { base = o.base; cells = overwritten o.cells at new }) else o).cells ≡ length o.cells) [ true ↦ length-overwritten o.cells at new | false ↦ refl ]

pub size_put : (m : List Object) (base at : ℕ) (new : List Cell) (b : ℕ) → size_at (put m base at new) b ≡ size_at m b
size_put m base at new b = size_map (put_in base at new) (put_in_base base at new) (put_in_length base at new) m b

behind_is : (P : Cell → Type 0) (cells : List Cell) (at : ℕ) (new : List Cell) (x : ℕ) → x < length cells → All P cells → All P new → P (cell_behind cells at new x)
behind_is P cells at new x h old written =
    elim (cases_lt x at) [
      | inl k ↦ subst P (sym (behind_before cells at new x k)) (All-get_or P cells x Uninit h old)
      | inr k ↦ elim (cases_lt x (at + length new)) [
        | inl l ↦ subst P (sym (behind_inside cells at new x k l)) (All-get_or P new (x - at) Uninit (omega arith) written)
        | inr l ↦ subst P (sym (behind_after cells at new x l)) (All-get_or P cells x Uninit h old)
      ]
    ]

pub All-overwritten : (P : Cell → Type 0) (cells : List Cell) (at : ℕ) (new : List Cell) → All P cells → All P new → All P (overwritten cells at new)
All-overwritten P cells at new old written =
    All-from_get_or P (overwritten cells at new) Uninit (λ x h.
    let inside : x < length cells = omega (arith, length-overwritten cells at new) in
    subst P (sym (overwritten_at cells at new x inside)) (behind_is P cells at new x inside old written))

pub lawful_put : (m : List Object) (base at : ℕ) (new : List Cell) → LawfulMemory m → All (PointsInside m) new → LawfulMemory (put m base at new)
lawful_put m base at new h written =
    let n = put m base at new in
    let stays : LivesIn m n = λ b s e. size_put m base at new b ∙ e in
    let there : All (PointsInside n) new = All-weaker (PointsInside m) (PointsInside n) (inside_in m n stays) new written in
    record {
      in_order = in_order_map (put_in base at new) (put_in_base base at new) m h.in_order;
      pointers = All-map (λ (o : Object). All (PointsInside n) o.cells) (put_in base at new) m
          (All-weaker (λ (o : Object). All (PointsInside m) o.cells) (λ (o : Object). All (PointsInside n) (put_in base at new o).cells)
          (λ o old. let kept : All (PointsInside n) o.cells = All-weaker (PointsInside m) (PointsInside n) (inside_in m n stays) o.cells old in
          elim (nat_eq o.base base) as (λ v. All (PointsInside n) (if v then (record { base = o.base; cells = overwritten o.cells at new }) else o).cells) [
            | true ↦ All-overwritten (PointsInside n) o.cells at new kept there
            | false ↦ kept
          ])
          m h.pointers);
    }

-- ---- objects that come to life

pub all_entered : (P : Object → Type 0) (base size : ℕ) (m : List Object) → P (record { base = base; cells = replicate size Uninit }) → All P m → All P (entered base size m)
all_entered P base size [] fresh h = All-cons P _ [] fresh (All-nil P)
all_entered P base size (o ∷ os) fresh h =
    elim (nat_lt base o.base) as (λ v. All P (if v then (record { base = base; cells = replicate size Uninit }) ∷ o ∷ os else o ∷ entered base size os)) [
      | true ↦ All-cons P _ (o ∷ os) fresh h
      | false ↦ All-cons P o (entered base size os) (All-head P o os h) (all_entered P base size os fresh (All-tail P o os h))
    ]

other_base : (o : Object) (os : List Object) (base : ℕ) → size_at (o ∷ os) base ≡ None → (o.base ≢ base) × (size_at os base ≡ None)
other_base o os base h =
    elim (cases_eq o.base base) [
      | inl e ↦ absurd (grind (arith, nat_tests))
      | inr e ↦ (e, grind (arith, nat_tests))
    ]

pub in_order_entered : (base size : ℕ) (m : List Object) → InOrder m → size_at m base ≡ None → InOrder (entered base size m)
in_order_entered base size [] h none = (All-nil _, tt)
in_order_entered base size (o ∷ os) h none =
    let other = other_base o os base none in
    elim (cases_lt base o.base) [
      | inl l ↦ let is : nat_lt base o.base ≡ true = grind (arith, nat_tests) in
          rw is (All-cons (λ (q : Object). base < q.base) o os l (All-weaker (λ (q : Object). o.base < q.base) (λ (q : Object). base < q.base) (λ q k. omega arith) os h.0), h)
      | inr l ↦ let is : nat_lt base o.base ≡ false = grind (arith, nat_tests) in
          let less : o.base < base = omega (arith, other.0) in
          rw is (all_entered (λ (q : Object). o.base < q.base) base size os less h.0, in_order_entered base size os h.1 other.1)
    ]

swap : {A : Type 0} (s t : Bool) (x y r : A) → ((s ≡ true) × (t ≡ true) → ⊥) → (if s then x else (if t then y else r)) ≡ (if t then y else (if s then x else r))
swap true true x y r h = absurd (h (refl, refl))
swap true false x y r h = refl
swap false true x y r h = refl
swap false false x y r h = refl

one_of_two : (a base b : ℕ) → a ≢ base → (nat_eq a b ≡ true) × (nat_eq base b ≡ true) → ⊥
one_of_two a base b h both = let e = both.0 in let f = both.1 in grind (arith, nat_tests)

pub size_entered : (base size : ℕ) (m : List Object) (b : ℕ) → size_at m base ≡ None → size_at (entered base size m) b ≡ (if nat_eq base b then Some size else size_at m b)
size_entered base size [] b none = ap (λ (l : ℕ). if nat_eq base b then Some l else None) (length-replicate size Uninit)
size_entered base size (o ∷ os) b none =
    let other = other_base o os base none in
    let rest = size_entered base size os b other.1 in
    elim (nat_lt base o.base) as (λ v. size_at (if v then (record { base = base; cells = replicate size Uninit }) ∷ o ∷ os else o ∷ entered base size os) b ≡ (if nat_eq base b then Some size else size_at (o ∷ os) b)) [
      | true ↦ ap (λ (l : ℕ). if nat_eq base b then Some l else size_at (o ∷ os) b) (length-replicate size Uninit)
      | false ↦ ap (λ (r : Option ℕ). if nat_eq o.base b then Some (length o.cells) else r) rest ∙ swap (nat_eq o.base b) (nat_eq base b) (Some (length o.cells)) (Some size) (size_at os b) (one_of_two o.base base b other.0)
    ]

kept_by : (t : Bool) (size s : ℕ) (r : Option ℕ) → r ≡ Some s → (t ≡ true → ⊥) → (if t then Some size else r) ≡ Some s
kept_by true size s r e h = absurd (h refl)
kept_by false size s r e h = e

lives_not : (m : List Object) (base b s : ℕ) → nat_eq base b ≡ true → size_at m base ≡ None → size_at m b ≡ Some s → ⊥
lives_not m base b s t none e = let same : base ≡ b = grind (arith, nat_tests) in cc

pub lawful_entered : (base size : ℕ) (m : List Object) → LawfulMemory m → size_at m base ≡ None → LawfulMemory (entered base size m)
lawful_entered base size m h none =
    let n = entered base size m in
    let stays : LivesIn m n = λ b s e. size_entered base size m b none ∙ kept_by (nat_eq base b) size s (size_at m b) e (λ t. absurd (lives_not m base b s t none e)) in
    record {
      in_order = in_order_entered base size m h.in_order none;
      pointers = all_entered (λ (o : Object). All (PointsInside n) o.cells) base size m (All-replicate (PointsInside n) size Uninit tt)
          (All-weaker (λ (o : Object). All (PointsInside m) o.cells) (λ (o : Object). All (PointsInside n) o.cells) (λ o old. All-weaker (PointsInside m) (PointsInside n) (inside_in m n stays) o.cells old) m h.pointers);
    }

-- ---- objects that end

in_order_filter : (keep : Object → Bool) (m : List Object) → InOrder m → InOrder (filter keep m)
in_order_filter keep [] h = tt
in_order_filter keep (o ∷ os) h =
    elim (keep o) as (λ v. InOrder (cond v (o ∷ filter keep os) (filter keep os))) [
      | true ↦ (All-filter keep (λ (q : Object). o.base < q.base) os h.0, in_order_filter keep os h.1)
      | false ↦ in_order_filter keep os h.1
    ]

abbrev pub without : Bool → Option ℕ → Option ℕ
without gone size = if gone then None else size

ended : (gone here : Bool) (o : ℕ) (rest left_rest : Option ℕ) (b : Bool) → (here ≡ true → gone ≡ b) → left_rest ≡ without b rest →
    cond (not gone) (if here then Some o else left_rest) left_rest ≡ without b (if here then Some o else rest)
ended true true o rest left_rest b same e = let is = same refl in rw (e, ← is) refl
ended false true o rest left_rest b same e = let is = same refl in rw (← is) refl
ended true false o rest left_rest b same e = e
ended false false o rest left_rest b same e = e

distribute : (keep : Bool) (o : Object) (os : List Object) (b : ℕ) → size_at (cond keep (o ∷ os) os) b ≡ cond keep (if nat_eq o.base b then Some (length o.cells) else size_at os b) (size_at os b)
distribute true o os b = refl
distribute false o os b = refl

pub size_left : (bases : List ℕ) (m : List Object) (b : ℕ) → size_at (left bases m) b ≡ without (is_one_of bases b) (size_at m b)
size_left bases [] b = elim (is_one_of bases b) as (λ v. None ≡ without v None) [ true ↦ refl | false ↦ refl ]
size_left bases (o ∷ os) b =
    let rest = size_left bases os b in
    distribute (not (is_one_of bases o.base)) (dangled_object bases o) (left bases os) b
    ∙ ap (λ (l : ℕ). cond (not (is_one_of bases o.base)) (if nat_eq o.base b then Some l else size_at (left bases os) b) (size_at (left bases os) b)) (length-map o.cells (dangled bases))
    ∙ ended (is_one_of bases o.base) (nat_eq o.base b) (length o.cells) (size_at os b) (size_at (left bases os) b) (is_one_of bases b)
    (λ t. let same : o.base ≡ b = grind (arith, nat_tests) in ap (is_one_of bases) same) rest

pub size_left_other : (bases : List ℕ) (m : List Object) (b : ℕ) → is_one_of bases b ≡ false → size_at (left bases m) b ≡ size_at m b
size_left_other bases m b h = size_left bases m b ∙ ap (λ (v : Bool). without v (size_at m b)) h

pub size_left_gone : (bases : List ℕ) (m : List Object) (b : ℕ) → is_one_of bases b ≡ true → size_at (left bases m) b ≡ None
size_left_gone bases m b h = size_left bases m b ∙ ap (λ (v : Bool). without v (size_at m b)) h

dangled_inside : (bases : List ℕ) (m : List Object) (c : Cell) → PointsInside m c → PointsInside (left bases m) (dangled bases c)
dangled_inside bases m Uninit p = tt
dangled_inside bases m Dangling p = tt
dangled_inside bases m (Bit b) p = tt
dangled_inside bases m (Ptr base offset bit) p =
    let old = points_of m base offset bit p in
    (elim (is_one_of bases base) as (λ v. is_one_of bases base ≡ v → PointsInside (left bases m) (if v then Dangling else Ptr base offset bit)) [
      | true ↦ λ e. tt
      | false ↦ λ e. inside_of (left bases m) base offset bit p.0 (record { size = old.size; lives = size_left_other bases m base e ∙ old.lives; above = old.above; below = old.below })
    ]) refl

pub lawful_left : (bases : List ℕ) (m : List Object) → LawfulMemory m → LawfulMemory (left bases m)
lawful_left bases m h =
    let n = left bases m in
    record {
      in_order = in_order_filter (λ (o : Object). not (is_one_of bases o.base)) (map (dangled_object bases) m) (in_order_map (dangled_object bases) (λ o. refl) m h.in_order);
      pointers = All-filter (λ (o : Object). not (is_one_of bases o.base)) (λ (o : Object). All (PointsInside n) o.cells) (map (dangled_object bases) m)
          (All-map (λ (o : Object). All (PointsInside n) o.cells) (dangled_object bases) m
          (All-weaker (λ (o : Object). All (PointsInside m) o.cells) (λ (o : Object). All (PointsInside n) (dangled_object bases o).cells)
          (λ o old. All-map (PointsInside n) (dangled bases) o.cells (All-weaker (PointsInside m) (λ (c : Cell). PointsInside n (dangled bases c)) (dangled_inside bases m) o.cells old))
          m h.pointers));
    }
