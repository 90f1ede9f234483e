-- The objects with which an execution begins: which there are, with which sizes, and what their bits are.
use Rattle.std.proofs.Common.{◌≡◌, ℕ, zero, suc, ◌+◌, ◌<◌, ◌≤◌, nat_eq, ℤ, pos, List, [], ◌∷◌, drop, length, replicate, Bool, true, false, Option, Some, None, Ok, refl, sym, ap, subst, ◌∙◌, arith, inl, inr}
use Rattle.std.specs.Prelude.{All, IfSome, ◌⊎◌, if◌then◌else◌, slice_get}
use Rattle.std.specs.Ordering.{int_eq}
use Rattle.std.specs.List.{range_with_len}
use Rattle.std.proofs.lemmas.List.Elements.{All-nil, All-cons, All-head, All-tail, All-weaker, All-map, All-replicate}
use Rattle.std.proofs.lemmas.Bool.{cases_eq}
use Rattle.std.proofs.lemmas.Bool.Decides.{nat_tests}
use Rattle.c_types.specs.declared.types.IntKind.{IntKind}
use Rattle.program.specs.declared.graph.Initial.{Initial}
use Rattle.program.specs.declared.graph.Initial.TheVariants as initial
use Rattle.program.specs.declared.graph.Scalar.{Scalar}
use Rattle.program.specs.declared.graph.Start.{Start}
use Rattle.program.specs.declared.graph.Start.TheVariants as start
use Rattle.program.specs.declared.graph.Base.{Base}
use Rattle.program.specs.declared.graph.Function.{Function}
use Rattle.program.specs.declared.graph.Program.{Program}
use Rattle.c_memory.specs.declared.cells.Cell.{Cell}
use Rattle.c_memory.specs.declared.cells.Cell.TheVariants.{Uninit, Bit}
use Rattle.c_memory.specs.declared.memory.Object.{Object}
use Rattle.c_memory.specs.Cells.{bit_of}
use Rattle.c_memory.specs.Memory.{overwritten}
use Rattle.c_memory.proofs.Writes.{length-overwritten}
use Rattle.c_arithmetic.specs.Arithmetic.{and_then}
use Rattle.c_meaning.specs.declared.parts.Part.{Part}
use Rattle.c_meaning.specs.declared.parts.Free.{Free}
use Rattle.c_meaning.specs.declared.parts.Free.TheVariants as free
use Rattle.c_meaning.specs.Cells.{number_cells, pointer_cells}
use Rattle.c_meaning.specs.Steps.{range_of_bits}
use Rattle.c_meaning.specs.Begin.{first_target, freed_part, freed, free_in, initial_cells, with_scalars, cells_before, picked, pointer_or_null, chosen, place_of, filled, lives_at_entry, in_front, objects_begun}
use Rattle.c_meaning.specs.Lawful.{InOrder}
use Rattle.c_meaning_laws.proofs.Memories.{size_at, All-overwritten}
use Rattle.c_meaning_laws.proofs.Outcomes.{then_ok}
use Rattle.c_meaning_laws.proofs.Picks.{length-cells_before}

-- ---- what the bits of an object are

-- a free pointer's hidden array is one of these
abbrev pub Aims : (ℕ → Type 0) → Free → Type 0
Aims T (free.Integer at bits k) = Unit {0}
Aims T (free.Pointer at None) = Unit {0}
Aims T (free.Pointer at (Some target)) = T target

-- a given address is one of these
abbrev pub NamesIn : (ℕ → ℤ → Type 0) → Initial → Type 0
NamesIn A (initial.Number v) = Unit {0}
NamesIn A (initial.Address base offset) = A base offset

abbrev pub Names : (ℕ → ℤ → Type 0) → Scalar → Type 0
Names A s = NamesIn A s.value

abbrev pub AreNamed : (ℕ → ℤ → Type 0) → Start → Type 0
AreNamed A (start.Given scalars) = All (Names A) scalars
AreNamed A _ = Unit {0}

module _ (P : Cell → Type 0) (blank : P Uninit) (bits : (b : Bool) → P (Bit b)) where
  number_all : (n : ℕ) (x : ℤ) → All P (number_cells n x)
  number_all n x = All-map P (λ j. Bit (bit_of x j)) (range_with_len 0 n) (λ k d l. bits (bit_of x _))

  zeros_all : (n : ℕ) → All P (replicate n (Bit false))
  zeros_all n = All-replicate P n (Bit false) (bits false)

  module _ (A : ℕ → ℤ → Type 0) (points : (base : ℕ) (offset : ℤ) → A base offset → All P (pointer_cells base offset)) where
    initial_all : (n : ℕ) (v : Initial) → NamesIn A v → All P (initial_cells n v)
    initial_all n (initial.Number v) h = number_all n v
    initial_all n (initial.Address base offset) h = points base offset h

    scalars_all : (ss : List Scalar) (cells : List Cell) → All (Names A) ss → All P cells → All P (with_scalars ss cells)
    scalars_all [] cells h old = old
    scalars_all (s ∷ ss) cells h old =
        scalars_all ss (overwritten cells s.at (initial_cells s.bits s.value)) (All-tail (Names A) s ss h)
        (All-overwritten P cells s.at (initial_cells s.bits s.value) old (initial_all s.bits s.value (All-head (Names A) s ss h)))

    pub before_all : (size : ℕ) (s : Start) → AreNamed A s → All P (cells_before size s)
    before_all size (start.Given scalars) h = scalars_all scalars (replicate size (Bit false)) h (zeros_all size)
    before_all size start.Any h = All-replicate P size Uninit blank
    before_all size start.Uninit h = All-replicate P size Uninit blank
    before_all size (start.Choice target) h = All-replicate P size Uninit blank
    before_all size (start.Hidden targets) h = All-replicate P size Uninit blank

    module _ (T : ℕ → Type 0) (first : (target : ℕ) → T target → A target (pos 0)) where
      choice_all : (target : ℕ) (v : ℤ) → T target → All P (pointer_or_null target v)
      choice_all target v h = elim (int_eq v (pos 0)) as (λ t. All P (if t then replicate 64 (Bit false) else pointer_cells target (pos 0))) [
        | true ↦ zeros_all 64
        | false ↦ points target (pos 0) (first target h)
      ]

      chosen_all : (picks : List ℤ) (i : ℕ) (s : Free) (c : List Cell × ℕ) → Aims T s → chosen picks i s ≡ Ok c → All P c.0
      chosen_all picks i (free.Integer at n k) c h e =
          let r = then_ok (picked picks i (range_of_bits k n)) (λ v. Ok (number_cells n v, i + 1)) c e in
          let second = r.is_second in
          let same : (number_cells n r.first, i + 1) ≡ c = cc in
          subst (λ (d : List Cell × ℕ). All P d.0) same (number_all n r.first)
      chosen_all picks i (free.Pointer at None) c h e =
          let same : (replicate 64 (Bit false), i) ≡ c = cc in
          subst (λ (d : List Cell × ℕ). All P d.0) same (zeros_all 64)
      chosen_all picks i (free.Pointer at (Some target)) c h e =
          let r = then_ok (picked picks i (pos 0, pos 1)) (λ v. Ok (pointer_or_null target v, i + 1)) c e in
          let second = r.is_second in
          let same : (pointer_or_null target r.first, i + 1) ≡ c = cc in
          subst (λ (d : List Cell × ℕ). All P d.0) same (choice_all target r.first h)

      pub filled_all : (picks : List ℤ) (i : ℕ) (ss : List Free) (cells : List Cell) (c : List Cell × ℕ) → All (Aims T) ss → All P cells → filled picks i ss cells ≡ Ok c → All P c.0
      filled_all picks i [] cells c h old e =
          let same : (cells, i) ≡ c = cc in
          subst (λ (d : List Cell × ℕ). All P d.0) same old
      filled_all picks i (s ∷ ss) cells c h old e =
          let r = then_ok (chosen picks i s) (λ d. filled picks d.1 ss (overwritten cells (place_of s) d.0)) c e in
          filled_all picks r.first.1 ss (overwritten cells (place_of s) r.first.0) c (All-tail (Aims T) s ss h)
          (All-overwritten P cells (place_of s) r.first.0 old (chosen_all picks i s r.first (All-head (Aims T) s ss h) r.is_first)) r.is_second

length-filled : (picks : List ℤ) (i : ℕ) (ss : List Free) (cells : List Cell) (c : List Cell × ℕ) → filled picks i ss cells ≡ Ok c → length c.0 ≡ length cells
length-filled picks i [] cells c e =
    let same : (cells, i) ≡ c = cc in
    subst (λ (d : List Cell × ℕ). length d.0 ≡ length cells) same refl
length-filled picks i (s ∷ ss) cells c e =
    let r = then_ok (chosen picks i s) (λ d. filled picks d.1 ss (overwritten cells (place_of s) d.0)) c e in
    length-filled picks r.first.1 ss (overwritten cells (place_of s) r.first.0) c r.is_second ∙ length-overwritten cells (place_of s) r.first.0

-- ---- the free scalars aim at hidden arrays

part_aims : (T : ℕ → Type 0) (kind : Option IntKind) (part : Part) (integers pointers : List Free) → All (Aims T) integers → All (Aims T) pointers → All (Aims T) (freed_part kind part integers pointers)
part_aims T (Some k) part integers pointers h g = All-cons (Aims T) (free.Integer part.at part.bits k) integers tt h
part_aims T None part integers pointers h g = g

first_aims : (T : ℕ → Type 0) (at : ℕ) (targets : List (Option ℕ)) → All (λ t. IfSome t T) targets → Aims T (free.Pointer at (first_target targets))
first_aims T at [] h = tt
first_aims T at (None ∷ targets) h = tt
first_aims T at (Some target ∷ targets) h = All-head (λ (t : Option ℕ). IfSome t T) (Some target) targets h

rest_aims : (T : ℕ → Type 0) (targets : List (Option ℕ)) → All (λ t. IfSome t T) targets → All (λ t. IfSome t T) (drop 1 targets)
rest_aims T [] h = h
rest_aims T (t ∷ targets) h = All-tail (λ (u : Option ℕ). IfSome u T) t targets h

pub freed_aims : (T : ℕ → Type 0) (parts : List Part) (targets : List (Option ℕ)) → All (λ t. IfSome t T) targets → All (Aims T) (freed parts targets)
freed_aims T [] targets h = All-nil (Aims T)
freed_aims T (part ∷ parts) targets h =
    part_aims T part.kind part (freed parts targets) (free.Pointer part.at (first_target targets) ∷ freed parts (drop 1 targets)) (freed_aims T parts targets h)
    (All-cons (Aims T) (free.Pointer part.at (first_target targets)) (freed parts (drop 1 targets)) (first_aims T part.at targets h) (freed_aims T parts (drop 1 targets) (rest_aims T targets h)))

-- ---- which objects there are

-- an object that lives is that of one of these bases
pub record Source (p : Program) (f : Function) (b : ℕ) (bases : List Base) (c s : ℕ) : Type 0 where
  pub place : ℕ
  pub base : Base
  pub is : c ≡ b + place
  pub at : slice_get bases place ≡ Some base
  pub lives : lives_at_entry p f c ≡ true
  pub size : s ≡ base.size_bits

-- the objects of the bases that live, the first base with this number
pub record Begins (p : Program) (f : Function) (b : ℕ) (bases : List Base) (os : List Object) : Type 0 where
  pub in_order : InOrder os
  pub from : All (λ o. b ≤ o.base) os
  pub there : (i : ℕ) (base : Base) → slice_get bases i ≡ Some base → lives_at_entry p f (b + i) ≡ true → size_at os (b + i) ≡ Some base.size_bits
  pub only : (c s : ℕ) → size_at os c ≡ Some s → Source p f b bases c s

-- the object of a base in front of the others
record Adds (p : Program) (f : Function) (picks : List ℤ) (i b : ℕ) (base : Base) (bases : List Base) (r : List Object × ℕ) : Type 0 where
  cells : List Cell × ℕ
  rest : List Object × ℕ
  lives : lives_at_entry p f b ≡ true
  is_filled : filled picks i (free_in p.layout base.ctype base.start) (cells_before base.size_bits base.start) ≡ Ok cells
  is_rest : objects_begun p f picks cells.1 (b + 1) bases ≡ Ok rest
  is : r.0 ≡ record { base = b; cells = cells.0 } ∷ rest.0

begun_cases : (p : Program) (f : Function) (picks : List ℤ) (i b : ℕ) (base : Base) (bases : List Base) (r : List Object × ℕ) → objects_begun p f picks i b (base ∷ bases) ≡ Ok r →
    Adds p f picks i b base bases r ⊎ ((lives_at_entry p f b ≡ false) × (objects_begun p f picks i (b + 1) bases ≡ Ok r))
begun_cases p f picks i b base bases r e =
    let scalars = free_in p.layout base.ctype base.start in
    let blank = cells_before base.size_bits base.start in
    (elim (lives_at_entry p f b) as (λ v. lives_at_entry p f b ≡ v →
    (if v then and_then (filled picks i scalars blank) (λ c. and_then (objects_begun p f picks c.1 (b + 1) bases) (λ rest. Ok (in_front (record { base = b; cells = c.0 }) rest))) else objects_begun p f picks i (b + 1) bases) ≡ Ok r →
    Adds p f picks i b base bases r ⊎ ((lives_at_entry p f b ≡ false) × (objects_begun p f picks i (b + 1) bases ≡ Ok r))) [
      | true ↦ λ l h.
          let c = then_ok (filled picks i scalars blank) (λ d. and_then (objects_begun p f picks d.1 (b + 1) bases) (λ rest. Ok (in_front (record { base = b; cells = d.0 }) rest))) r h in
          let q = then_ok (objects_begun p f picks c.first.1 (b + 1) bases) (λ rest. Ok (in_front (record { base = b; cells = c.first.0 }) rest)) r c.is_second in
          let second = q.is_second in
          let same : in_front (record { base = b; cells = c.first.0 }) q.first ≡ r = cc in
          inl (record { cells = c.first; rest = q.first; lives = l; is_filled = c.is_first; is_rest = q.is_first; is = sym (ap (λ (x : List Object × ℕ). x.0) same) })
      | false ↦ λ l h. inr (l, h)
    ]) refl e

none_begin : (p : Program) (f : Function) (b : ℕ) → Begins p f b [] []
none_begin p f b = record { in_order = tt; from = All-nil _; there = λ i base at lives. absurd (cc); only = λ c s h. absurd (cc) }

module _ (p : Program) (f : Function) (b : ℕ) (base : Base) (bases : List Base) (os : List Object) (rest : Begins p f (b + 1) bases os) where
  later : (c s : ℕ) → Source p f (b + 1) bases c s → Source p f b (base ∷ bases) c s
  later c s r = record { place = suc r.place; base = r.base; is = omega (arith, r.is); at = r.at; lives = r.lives; size = r.size }

  module _ (cells : List Cell) (lives : lives_at_entry p f b ≡ true) (long : length cells ≡ base.size_bits) where
    there_one : (i : ℕ) (x : Base) → slice_get (base ∷ bases) i ≡ Some x → lives_at_entry p f (b + i) ≡ true → size_at (record { base = b; cells = cells } ∷ os) (b + i) ≡ Some x.size_bits
    there_one zero x at l =
        let t : nat_eq b (b + 0) ≡ true = grind (arith, nat_tests) in
        let same : base ≡ x = cc in
        rw t (ap Some long ∙ ap (λ (y : Base). Some y.size_bits) same)
    there_one (suc i) x at l =
        let t : nat_eq b (b + suc i) ≡ false = grind (arith, nat_tests) in
        let e : b + suc i ≡ b + 1 + i = omega arith in
        rw t (ap (size_at os) e ∙ rest.there i x at (subst (λ (n : ℕ). lives_at_entry p f n ≡ true) e l))

    only_one : (c s : ℕ) → size_at (record { base = b; cells = cells } ∷ os) c ≡ Some s → Source p f b (base ∷ bases) c s
    only_one c s h =
        elim (cases_eq b c) [
          | inl e ↦
              let t : nat_eq b c ≡ true = grind (arith, nat_tests) in
              let size : Some (length cells) ≡ Some s = sym (ap (λ (v : Bool). if v then Some (length cells) else size_at os c) t) ∙ h in
              record { place = 0; base = base; is = omega arith; at = refl; lives = subst (λ (n : ℕ). lives_at_entry p f n ≡ true) e lives; size = let same : length cells ≡ s = cc in sym same ∙ long }
          | inr e ↦
              let t : nat_eq b c ≡ false = grind (arith, nat_tests) in
              later c s (rest.only c s (sym (ap (λ (v : Bool). if v then Some (length cells) else size_at os c) t) ∙ h))
        ]

    add_one : Begins p f b (base ∷ bases) (record { base = b; cells = cells } ∷ os)
    add_one = record {
      in_order = (All-weaker (λ (o : Object). b + 1 ≤ o.base) (λ (o : Object). b < o.base) (λ o l. omega (arith, l)) os rest.from, rest.in_order);
      from = All-cons (λ (o : Object). b ≤ o.base) _ os (omega arith) (All-weaker (λ (o : Object). b + 1 ≤ o.base) (λ (o : Object). b ≤ o.base) (λ o l. omega (arith, l)) os rest.from);
      there = there_one;
      only = only_one;
    }

  module _ (other : lives_at_entry p f b ≡ false) where
    there_other : (i : ℕ) (x : Base) → slice_get (base ∷ bases) i ≡ Some x → lives_at_entry p f (b + i) ≡ true → size_at os (b + i) ≡ Some x.size_bits
    there_other zero x at l =
        let e : b + 0 ≡ b = omega arith in
        let both : true ≡ false = sym l ∙ ap (lives_at_entry p f) e ∙ other in
        absurd (cc)
    there_other (suc i) x at l =
        let e : b + suc i ≡ b + 1 + i = omega arith in
        ap (size_at os) e ∙ rest.there i x at (subst (λ (n : ℕ). lives_at_entry p f n ≡ true) e l)

    skip_one : Begins p f b (base ∷ bases) os
    skip_one = record {
      in_order = rest.in_order;
      from = All-weaker (λ (o : Object). b + 1 ≤ o.base) (λ (o : Object). b ≤ o.base) (λ o l. omega (arith, l)) os rest.from;
      there = there_other;
      only = λ c s h. later c s (rest.only c s h);
    }

pub objects_begin : (p : Program) (f : Function) (picks : List ℤ) (i b : ℕ) (bases : List Base) (r : List Object × ℕ) → objects_begun p f picks i b bases ≡ Ok r → Begins p f b bases r.0
objects_begin p f picks i b [] r e =
    let same : ([], i) ≡ r = cc in
    subst (λ (x : List Object × ℕ). Begins p f b [] x.0) same (none_begin p f b)
objects_begin p f picks i b (base ∷ bases) r e =
    elim (begun_cases p f picks i b base bases r e) [
      | inl a ↦
          let long = length-filled picks i (free_in p.layout base.ctype base.start) (cells_before base.size_bits base.start) a.cells a.is_filled ∙ length-cells_before base.size_bits base.start in
          subst (Begins p f b (base ∷ bases)) (sym a.is) (add_one p f b base bases a.rest.0 (objects_begin p f picks a.cells.1 (b + 1) bases a.rest a.is_rest) a.cells.0 a.lives long)
      | inr o ↦ skip_one p f b base bases r.0 (objects_begin p f picks i (b + 1) bases r o.1) o.0
    ]

-- the bits of each object, where those of the object of each base that lives are so
pub objects_all : (P : Cell → Type 0) (p : Program) (f : Function) (picks : List ℤ) (i b : ℕ) (bases : List Base) (r : List Object × ℕ) →
    ((k : ℕ) (base : Base) (j : ℕ) (c : List Cell × ℕ) → slice_get bases k ≡ Some base → lives_at_entry p f (b + k) ≡ true → filled picks j (free_in p.layout base.ctype base.start) (cells_before base.size_bits base.start) ≡ Ok c → All P c.0) →
    objects_begun p f picks i b bases ≡ Ok r → All (λ o. All P o.cells) r.0
objects_all P p f picks i b [] r each e =
    let same : ([], i) ≡ r = cc in
    subst (λ (x : List Object × ℕ). All (λ (o : Object). All P o.cells) x.0) same (All-nil _)
objects_all P p f picks i b (base ∷ bases) r each e =
    let next = λ (k : ℕ) (x : Base) (j : ℕ) (c : List Cell × ℕ) (at : slice_get bases k ≡ Some x) (l : lives_at_entry p f (b + 1 + k) ≡ true) (h : filled picks j (free_in p.layout x.ctype x.start) (cells_before x.size_bits x.start) ≡ Ok c).
    let e : b + 1 + k ≡ b + suc k = omega arith in
    each (suc k) x j c at (subst (λ (n : ℕ). lives_at_entry p f n ≡ true) e l) h in
    elim (begun_cases p f picks i b base bases r e) [
      | inl a ↦
          let zero_place : b ≡ b + 0 = omega arith in
          subst (All (λ (o : Object). All P o.cells)) (sym a.is)
          (All-cons (λ (o : Object). All P o.cells) (record { base = b; cells = a.cells.0 }) a.rest.0 (each 0 base i a.cells refl (subst (λ (n : ℕ). lives_at_entry p f n ≡ true) zero_place a.lives) a.is_filled)
          (objects_all P p f picks a.cells.1 (b + 1) bases a.rest next a.is_rest))
      | inr o ↦ objects_all P p f picks i (b + 1) bases r next o.1
    ]
