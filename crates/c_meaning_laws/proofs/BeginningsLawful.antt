-- The states with which executions begin are lawful.
use Rattle.std.proofs.Common.{◌≡◌, ◌≢◌, ℕ, zero, suc, ◌+◌, ◌<◌, nat_eq, ℤ, pos, List, [], ◌∷◌, ◌++◌, length, Bool, true, false, Option, Some, None, Ok, refl, sym, ap, subst, ◌∙◌, arith, inl, inr}
use Rattle.std.specs.Prelude.{All, Contains, IfSome, ◌⊎◌, ◌||◌, if◌then◌else◌, slice_get}
use Rattle.std.specs.List.{flat_map}
use Rattle.std.proofs.lemmas.Int.{ints}
use Rattle.std.proofs.lemmas.Option.{slice_get_cases, slice_get_within}
use Rattle.std.proofs.lemmas.List.Elements.{All-nil, All-cons, All-weaker, All-contains, All-replicate, Contains-append_left, Contains-append_right, Contains-append_cases}
use Rattle.std.proofs.lemmas.Bool.{cases_eq}
use Rattle.std.proofs.lemmas.Bool.Decides.{nat_tests}
use Rattle.c_types.specs.declared.types.CType.{CType}
use Rattle.c_types.specs.declared.types.CType.TheVariants.{Void, Int, Ptr', Array', Struct, Unusable}
use Rattle.program.specs.declared.graph.Initial.{Initial}
use Rattle.program.specs.declared.graph.Initial.TheVariants as initial
use Rattle.program.specs.declared.graph.Start.{Start}
use Rattle.program.specs.declared.graph.Start.TheVariants as start
use Rattle.program.specs.declared.graph.Base.{Base}
use Rattle.program.specs.declared.graph.Node.{Node}
use Rattle.program.specs.declared.graph.Function.{Function}
use Rattle.program.specs.declared.graph.Program.{Program}
use Rattle.program.specs.Graph.{at_entry, InLife, result, static, param, local, temp, inner_block, has, lists_of, is_static}
use Rattle.program.specs.Pointers.{pointers_in}
use Rattle.program.specs.Lawful.{Lawful, LawfulFunction, LawfulInitial, LawfulScalar, StaticStart, ParamStart, HiddenStart, HiddenTargets, BeginsUninit, BaseHas}
use Rattle.c_memory.specs.declared.cells.Cell.TheVariants.{Uninit}
use Rattle.c_memory.specs.declared.memory.Object.{Object}
use Rattle.c_memory.specs.Memory.{entered}
use Rattle.c_meaning.specs.declared.initial.Begun.{Begun}
use Rattle.c_meaning.specs.declared.parts.Free.TheVariants as free
use Rattle.c_meaning.specs.declared.value.Value.TheVariants.{Pointer}
use Rattle.c_meaning.specs.Cells.{pointer_cells}
use Rattle.c_meaning.specs.PlaceTypes.{bits_of}
use Rattle.c_meaning.specs.Steps.{base_bits, size_of_base, is_void, with_result, own_bases}
use Rattle.c_meaning.specs.Begin.{free_in, parts_of, cells_before, lives_at_entry, objects_begun, begun_of, begun_in, begun}
use Rattle.c_meaning.specs.Lawful.{InOrder, PointsInside, LawfulMemory, LivesAt, size_in, StandsAt, Runs, HasAt, Belongs, LawfulConfig}
use Rattle.c_meaning.specs.Lawful as lawful
use Rattle.c_meaning_laws.specs.Beginnings.{BeginningsAreLawful}
use Rattle.c_meaning_laws.proofs.Outcomes.{then_ok}
use Rattle.c_meaning_laws.proofs.Lists.{has_contained, contains_had}
use Rattle.c_meaning_laws.proofs.Memories.{size_at, size_of_object, object_of_size, Points, all_entered, in_order_entered, size_entered}
use Rattle.c_meaning_laws.proofs.Pointers.{value_inside}
use Rattle.c_meaning_laws.proofs.BeginningObjects.{Aims, Names, NamesIn, AreNamed, before_all, filled_all, freed_aims, Begins, objects_begin, objects_all}

-- ---- tests

or_cases : (a b : Bool) → (a || b) ≡ true → (a ≡ true) ⊎ (b ≡ true)
or_cases true b e = inl refl
or_cases false b e = inr e

or_left : (a b : Bool) → a ≡ true → (a || b) ≡ true
or_left a b e = ap (λ (c : Bool). c || b) e

or_right : (a b : Bool) → b ≡ true → (a || b) ≡ true
or_right true b e = refl
or_right false b e = e

void_not : (t : CType) → t ≢ Void → is_void t ≡ false
void_not Void h = absurd (h refl)
void_not (Int k volatile) h = refl
void_not (Ptr' _ _) h = refl
void_not (Array' _ _ n) h = refl
void_not (Struct id) h = refl
void_not Unusable h = refl

in_flat : (fs : List Function) (i : ℕ) (f : Function) → slice_get fs i ≡ Some f → (b : ℕ) → Contains (lists_of f) b → Contains (flat_map lists_of fs) b
in_flat [] i f e b h = absurd (cc)
in_flat (g ∷ gs) zero f e b h = let same : f ≡ g = cc in Contains-append_left (lists_of g) (flat_map lists_of gs) b (subst (λ (x : Function). Contains (lists_of x) b) same h)
in_flat (g ∷ gs) (suc i) f e b h = Contains-append_right (lists_of g) (flat_map lists_of gs) b (in_flat gs i f e b h)

-- ---- the lists of the function

module _ (f : Function) (b : ℕ) where
  param_entry : Contains f.params b → Contains (f.params ++ f.locals ++ f.temps ++ f.hidden) b
  param_entry h = Contains-append_left (f.params ++ f.locals ++ f.temps) f.hidden b (Contains-append_left (f.params ++ f.locals) f.temps b (Contains-append_left f.params f.locals b h))

  local_entry : Contains f.locals b → Contains (f.params ++ f.locals ++ f.temps ++ f.hidden) b
  local_entry h = Contains-append_left (f.params ++ f.locals ++ f.temps) f.hidden b (Contains-append_left (f.params ++ f.locals) f.temps b (Contains-append_right f.params f.locals b h))

  temp_entry : Contains f.temps b → Contains (f.params ++ f.locals ++ f.temps ++ f.hidden) b
  temp_entry h = Contains-append_left (f.params ++ f.locals ++ f.temps) f.hidden b (Contains-append_right (f.params ++ f.locals) f.temps b h)

  hidden_entry : Contains f.hidden b → Contains (f.params ++ f.locals ++ f.temps ++ f.hidden) b
  hidden_entry h = Contains-append_right (f.params ++ f.locals ++ f.temps) f.hidden b h

  -- in which list it is
  data Listed : Type 0 where
    is_param : Contains f.params b → Listed
    is_local : Contains f.locals b → Listed
    is_temp : Contains f.temps b → Listed
    is_hidden : Contains f.hidden b → Listed

  listed_in : Contains (f.params ++ f.locals ++ f.temps ++ f.hidden) b → Listed
  listed_in h =
      elim (Contains-append_cases (f.params ++ f.locals ++ f.temps) f.hidden b h) [
        | inl l ↦ elim (Contains-append_cases (f.params ++ f.locals) f.temps b l) [
          | inl k ↦ elim (Contains-append_cases f.params f.locals b k) [ inl j ↦ is_param j | inr j ↦ is_local j ]
          | inr k ↦ is_temp k
        ]
        | inr l ↦ is_hidden l
      ]

  param_listed : Contains f.params b → Contains (lists_of f) b
  param_listed h = Contains-append_left (f.params ++ f.locals ++ f.inner ++ f.temps) f.hidden b (Contains-append_left (f.params ++ f.locals ++ f.inner) f.temps b (Contains-append_left (f.params ++ f.locals) f.inner b (Contains-append_left f.params f.locals b h)))

  local_listed : Contains f.locals b → Contains (lists_of f) b
  local_listed h = Contains-append_left (f.params ++ f.locals ++ f.inner ++ f.temps) f.hidden b (Contains-append_left (f.params ++ f.locals ++ f.inner) f.temps b (Contains-append_left (f.params ++ f.locals) f.inner b (Contains-append_right f.params f.locals b h)))

  temp_listed : Contains f.temps b → Contains (lists_of f) b
  temp_listed h = Contains-append_left (f.params ++ f.locals ++ f.inner ++ f.temps) f.hidden b (Contains-append_right (f.params ++ f.locals ++ f.inner) f.temps b h)

  hidden_listed : Contains f.hidden b → Contains (lists_of f) b
  hidden_listed h = Contains-append_right (f.params ++ f.locals ++ f.inner ++ f.temps) f.hidden b h

  entry_listed : Listed → Contains (lists_of f) b
  entry_listed (is_param h) = param_listed h
  entry_listed (is_local h) = local_listed h
  entry_listed (is_temp h) = temp_listed h
  entry_listed (is_hidden h) = hidden_listed h

  own_param : Contains f.params b → Contains (own_bases f ++ []) b
  own_param h = Contains-append_left (own_bases f) [] b (Contains-append_left (f.params ++ f.locals) f.temps b (Contains-append_left f.params f.locals b h))

  own_local : Contains f.locals b → Contains (own_bases f ++ []) b
  own_local h = Contains-append_left (own_bases f) [] b (Contains-append_left (f.params ++ f.locals) f.temps b (Contains-append_right f.params f.locals b h))

  own_temp : Contains f.temps b → Contains (own_bases f ++ []) b
  own_temp h = Contains-append_left (own_bases f) [] b (Contains-append_right (f.params ++ f.locals) f.temps b h)

-- every hidden array that is named is the function's own
hidden_targets : (p : Program) (f : Function) (pointers : List CType) (targets : List (Option ℕ)) → HiddenTargets p f pointers targets → All (λ t. IfSome t (Contains f.hidden)) targets
hidden_targets p f [] [] h = All-nil _
hidden_targets p f [] (t ∷ targets) h = absurd h
hidden_targets p f (to ∷ pointers) [] h = absurd h
hidden_targets p f (to ∷ pointers) (None ∷ targets) h = All-cons (λ (t : Option ℕ). IfSome t (Contains f.hidden)) None targets tt (hidden_targets p f pointers targets h.1)
hidden_targets p f (to ∷ pointers) (Some t ∷ targets) h = All-cons (λ (u : Option ℕ). IfSome u (Contains f.hidden)) (Some t) targets h.0.0.is_hidden (hidden_targets p f pointers targets h.1)

-- ---- the memory

module _ (p : Program) (holds : Lawful p) (fun : ℕ) (f : Function) (is_f : slice_get p.functions fun ≡ Some f) (picks : List ℤ) (r : List Object × ℕ) (is_begun : objects_begun p f picks 0 0 p.bases ≡ Ok r) where
  memory : List Object
  memory = with_result p f r.0

  begins : Begins p f 0 p.bases r.0
  begins = objects_begin p f picks 0 0 p.bases r is_begun

  rules : LawfulFunction p holds.height fun f
  rules = holds.functions fun f is_f

  in_lists : (b : ℕ) → Contains (lists_of f) b → (b ≢ 0) × (b < length p.bases)
  in_lists b h = All-contains (λ (x : ℕ). (x ≢ 0) × (x < length p.bases)) (flat_map lists_of p.functions) b holds.listed (in_flat p.functions fun f is_f b h)

  own_lives : (b : ℕ) → Contains (f.params ++ f.locals ++ f.temps ++ f.hidden) b → lives_at_entry p f b ≡ true
  own_lives b h = or_right (is_static p b) (has (f.params ++ f.locals ++ f.temps ++ f.hidden) b) (has_contained (f.params ++ f.locals ++ f.temps ++ f.hidden) b h)

  static_lives : (b : ℕ) → is_static p b ≡ true → lives_at_entry p f b ≡ true
  static_lives b h = or_left (is_static p b) (has (f.params ++ f.locals ++ f.temps ++ f.hidden) b) h

  lives_cases : (b : ℕ) → lives_at_entry p f b ≡ true → (is_static p b ≡ true) ⊎ Listed f b
  lives_cases b h =
      elim (or_cases (is_static p b) (has (f.params ++ f.locals ++ f.temps ++ f.hidden) b) h) [
        | inl s ↦ inl s
        | inr o ↦ inr (listed_in f b (contains_had (f.params ++ f.locals ++ f.temps ++ f.hidden) b o))
      ]

  static_zero : is_static p 0 ≡ true → ⊥
  static_zero h = cc

  not_zero : (b : ℕ) → lives_at_entry p f b ≡ true → b ≢ 0
  not_zero b h e =
      elim (lives_cases b h) [
        | inl s ↦ static_zero (subst (λ (n : ℕ). is_static p n ≡ true) e s)
        | inr o ↦ (in_lists b (entry_listed f b o)).0 e
      ]

  none_from : (found : Option ℕ) → size_at r.0 0 ≡ found → found ≡ None
  none_from None e = refl
  none_from (Some s) e = absurd (not_zero 0 (begins.only 0 s e).lives refl)

  zero_none : size_at r.0 0 ≡ None
  zero_none = none_from (size_at r.0 0) refl

  size_other : (b : ℕ) → b ≢ 0 → size_at memory b ≡ size_at r.0 b
  unfolding memory
  size_other b other =
      elim (is_void f.result) as (λ v. size_at (if v then r.0 else entered 0 (bits_of p.layout (Some f.result)) r.0) b ≡ size_at r.0 b) [
        | true ↦ refl
        | false ↦
            let t : nat_eq 0 b ≡ false = grind (arith, nat_tests) in
            size_entered 0 (bits_of p.layout (Some f.result)) r.0 b zero_none ∙ ap (λ (v : Bool). if v then Some (bits_of p.layout (Some f.result)) else size_at r.0 b) t
      ]

  size_result : is_void f.result ≡ false → size_at memory 0 ≡ Some (bits_of p.layout (Some f.result))
  unfolding memory
  size_result e = ap (λ (v : Bool). size_at (if v then r.0 else entered 0 (bits_of p.layout (Some f.result)) r.0) 0) e ∙ size_entered 0 (bits_of p.layout (Some f.result)) r.0 0 zero_none

  result_size : (s : ℕ) → size_at memory 0 ≡ Some s → s ≡ bits_of p.layout (Some f.result)
  unfolding memory
  result_size s h =
      (elim (is_void f.result) as (λ v. size_at (if v then r.0 else entered 0 (bits_of p.layout (Some f.result)) r.0) 0 ≡ Some s → s ≡ bits_of p.layout (Some f.result)) [
        | true ↦ λ e. let none = zero_none in absurd (cc)
        | false ↦ λ e. let is = size_entered 0 (bits_of p.layout (Some f.result)) r.0 0 zero_none in cc
      ]) h

  lives_size : (b : ℕ) (base : Base) → slice_get p.bases b ≡ Some base → lives_at_entry p f b ≡ true → size_at memory b ≡ Some base.size_bits
  lives_size b base at l =
      let e : b ≡ 0 + b = omega arith in
      size_other b (not_zero b l) ∙ ap (size_at r.0) e ∙ begins.there b base at (subst (λ (n : ℕ). lives_at_entry p f n ≡ true) e l)

  -- ---- what the objects hold

  hidden_first : (target : ℕ) → Contains f.hidden target → Points memory target (pos 0)
  hidden_first target h =
      let there = All-contains (λ (b : ℕ). BaseHas p b (λ base. HiddenStart p f base.ctype base.start)) f.hidden target rules.hidden h in
      record { size = there.0.size_bits; lives = lives_size target there.0 there.1 (own_lives target (hidden_entry f target h)); above = omega (arith, ints); below = omega (arith, ints) }

  value_named : (bits : ℕ) (v : Initial) → LawfulInitial p bits v → NamesIn (Points memory) v
  value_named bits (initial.Number v) h = tt
  value_named bits (initial.Address b offset) h =
      record { size = h.2.0.size_bits; lives = lives_size b h.2.0 h.2.1 (static_lives b h.1); above = h.2.2.above; below = h.2.2.below }

  -- the start of a base that lives names and aims at objects that live
  record Good (t : CType) (s : Start) : Type 0 where
    named : AreNamed (Points memory) s
    aims : All (Aims (Contains f.hidden)) (free_in p.layout t s)

  static_good : (base : Base) (t : CType) (s : Start) → StaticStart p base s → Good t s
  static_good base t (start.Given scalars) h = record {
    named = All-weaker (LawfulScalar p base.size_bits) (Names (Points memory)) (λ x l. value_named x.bits x.value l.value) scalars h;
    aims = All-nil _;
  }
  static_good base t start.Any h = record { named = tt; aims = freed_aims (Contains f.hidden) (parts_of p.layout t) [] (All-nil _) }
  static_good base t start.Uninit h = absurd h
  static_good base t (start.Choice target) h = absurd h
  static_good base t (start.Hidden targets) h = absurd h

  param_good : (t : CType) (s : Start) → ParamStart p f t s → Good t s
  param_good t (start.Given scalars) h = absurd h
  param_good t start.Any h = record { named = tt; aims = freed_aims (Contains f.hidden) (parts_of p.layout t) [] (All-nil _) }
  param_good t start.Uninit h = absurd h
  param_good t (start.Choice None) h = record { named = tt; aims = All-cons (Aims (Contains f.hidden)) (free.Pointer 0 None) [] tt (All-nil _) }
  param_good t (start.Choice (Some target)) h = record { named = tt; aims = All-cons (Aims (Contains f.hidden)) (free.Pointer 0 (Some target)) [] h.2.is_hidden (All-nil _) }
  param_good t (start.Hidden targets) h = absurd h

  hidden_good : (t : CType) (s : Start) → HiddenStart p f t s → Good t s
  hidden_good t (start.Given scalars) h = absurd h
  hidden_good t start.Any h = absurd h
  hidden_good t start.Uninit h = absurd h
  hidden_good t (start.Choice target) h = absurd h
  hidden_good t (start.Hidden targets) h = record { named = tt; aims = freed_aims (Contains f.hidden) (parts_of p.layout t) targets (hidden_targets p f (pointers_in p.layout t) targets h) }

  uninit_good : (t : CType) (s : Start) → s ≡ start.Uninit → Good t s
  uninit_good t s e = subst (Good t) (sym e) (record { named = tt; aims = All-nil _ })

  -- what the lists say of a base is said of this one
  same_base : (b : ℕ) (base : Base) (Q : Base → Type 0) → slice_get p.bases b ≡ Some base → BaseHas p b Q → Q base
  same_base b base Q at h = let other = h.1 in let same : h.0 ≡ base = cc in subst Q same h.2

  good : (b : ℕ) (base : Base) → slice_get p.bases b ≡ Some base → lives_at_entry p f b ≡ true → Good base.ctype base.start
  good b base at l =
      elim (lives_cases b l) [
        | inl s ↦ static_good base base.ctype base.start (holds.statics b base at s)
        | inr o ↦ elim o [
          | is_param h ↦ param_good base.ctype base.start (same_base b base (λ x. ParamStart p f x.ctype x.start) at (All-contains (λ (n : ℕ). BaseHas p n (λ x. ParamStart p f x.ctype x.start)) f.params b rules.params h))
          | is_local h ↦ uninit_good base.ctype base.start (same_base b base BeginsUninit at (All-contains (λ (n : ℕ). BaseHas p n BeginsUninit) f.locals b rules.locals h))
          | is_temp h ↦ uninit_good base.ctype base.start (same_base b base BeginsUninit at (All-contains (λ (n : ℕ). BaseHas p n BeginsUninit) f.temps b rules.temps h))
          | is_hidden h ↦ hidden_good base.ctype base.start (same_base b base (λ x. HiddenStart p f x.ctype x.start) at (All-contains (λ (n : ℕ). BaseHas p n (λ x. HiddenStart p f x.ctype x.start)) f.hidden b rules.hidden h))
        ]
      ]

  points_all : (base : ℕ) (offset : ℤ) → Points memory base offset → All (PointsInside memory) (pointer_cells base offset)
  points_all base offset h = value_inside memory 64 (Pointer base offset) h

  objects_inside : All (λ o. All (PointsInside memory) o.cells) r.0
  objects_inside = objects_all (PointsInside memory) p f picks 0 0 p.bases r
      (λ k base j c at l e.
      let place : 0 + k ≡ k = omega arith in
      let g = good k base at (subst (λ (n : ℕ). lives_at_entry p f n ≡ true) place l) in
      filled_all (PointsInside memory) tt (λ b. tt) (Points memory) points_all (Contains f.hidden) hidden_first picks j (free_in p.layout base.ctype base.start) (cells_before base.size_bits base.start) c g.aims
      (before_all (PointsInside memory) tt (λ b. tt) (Points memory) points_all base.size_bits base.start g.named) e)
      is_begun

  order : InOrder memory
  unfolding memory
  order = elim (is_void f.result) as (λ v. InOrder (if v then r.0 else entered 0 (bits_of p.layout (Some f.result)) r.0)) [
    | true ↦ begins.in_order
    | false ↦ in_order_entered 0 (bits_of p.layout (Some f.result)) r.0 begins.in_order zero_none
  ]

  all_inside : (m : List Object) → All (λ o. All (PointsInside m) o.cells) r.0 → All (λ o. All (PointsInside m) o.cells) memory
  unfolding memory
  all_inside m h = elim (is_void f.result) as (λ v. All (λ (o : Object). All (PointsInside m) o.cells) (if v then r.0 else entered 0 (bits_of p.layout (Some f.result)) r.0)) [
    | true ↦ h
    | false ↦ all_entered (λ (o : Object). All (PointsInside m) o.cells) 0 (bits_of p.layout (Some f.result)) r.0 (All-replicate (PointsInside m) (bits_of p.layout (Some f.result)) Uninit tt) h
  ]

  inside : All (λ o. All (PointsInside memory) o.cells) memory
  inside = all_inside memory objects_inside

  lawful_memory : LawfulMemory memory
  lawful_memory = record { in_order = order; pointers = inside }

  -- ---- the configuration

  -- the size of a base that isn't the result
  base_size : (b : ℕ) (base : Base) → b ≢ 0 → slice_get p.bases b ≡ Some base → size_in p f b ≡ base.size_bits
  base_size b base other at =
      let t : nat_eq b 0 ≡ false = grind (arith, nat_tests) in
      ap (λ (v : Bool). if v then bits_of p.layout (Some f.result) else base_bits p b) t ∙ ap size_of_base at

  known_with : (b : ℕ) (found : Option Base) → slice_get p.bases b ≡ found → b < length p.bases → lives_at_entry p f b ≡ true → size_at memory b ≡ Some (size_in p f b)
  known_with b None e h l = elim (slice_get_cases p.bases b).1 [ inl x ↦ let is = x.2 in absurd (cc) | inr o ↦ absurd (omega (arith, o.0)) ]
  known_with b (Some base) e h l = lives_size b base e l ∙ ap Some (sym (base_size b base (not_zero b l) e))

  known : (b : ℕ) → b < length p.bases → lives_at_entry p f b ≡ true → size_at memory b ≡ Some (size_in p f b)
  known b h l = known_with b (slice_get p.bases b) refl h l

  lives_in : (b : ℕ) → InLife p f [] b → size_at memory b ≡ Some (size_in p f b)
  lives_in _ (result h) = size_result (void_not f.result h)
  lives_in _ (static b l s) = known b l (static_lives b s)
  lives_in _ (param b h) = known b (in_lists b (param_listed f b h)).1 (own_lives b (param_entry f b h))
  lives_in _ (local b h) = known b (in_lists b (local_listed f b h)).1 (own_lives b (local_entry f b h))
  lives_in _ (temp b h) = known b (in_lists b (temp_listed f b h)).1 (own_lives b (temp_entry f b h))
  lives_in _ (inner_block b h) = absurd (omega (arith, h.1))

  other_lives : (b s : ℕ) → size_at memory b ≡ Some s → (b < length p.bases) × (s ≡ size_in p f b)
  other_lives b s h =
      elim (cases_eq b 0) [
        | inl e ↦
            let zero_size : size_at memory 0 ≡ Some s = ap (size_at memory) (sym e) ∙ h in
            (subst (λ (n : ℕ). n < length p.bases) (sym e) (slice_get_within p.bases 0 holds.result.0 holds.result.1), result_size s zero_size ∙ ap (size_in p f) (sym e))
        | inr e ↦
            let q = begins.only b s (sym (size_other b e) ∙ h) in
            let place : q.place ≡ b = omega (arith, q.is) in
            let at : slice_get p.bases b ≡ Some q.base = ap (slice_get p.bases) (sym place) ∙ q.at in
            (slice_get_within p.bases b q.base at, q.size ∙ sym (base_size b q.base e at))
      ]

  belongs_to : (b s : ℕ) → size_at memory b ≡ Some s → Belongs p ((fun, f.entry) ∷ []) b
  belongs_to b s h =
      elim (cases_eq b 0) [
        | inl e ↦ subst (Belongs p ((fun, f.entry) ∷ [])) (sym e) lawful.result
        | inr e ↦ elim (lives_cases b (begins.only b s (sym (size_other b e) ∙ h)).lives) [
          | inl t ↦ lawful.static b t
          | inr o ↦ elim o [
            | is_param l ↦ lawful.call b (fun, f.entry) (0, omega arith, refl) (record { f = f; inner = []; function = is_f; reached = at_entry; own = own_param f b l })
            | is_local l ↦ lawful.call b (fun, f.entry) (0, omega arith, refl) (record { f = f; inner = []; function = is_f; reached = at_entry; own = own_local f b l })
            | is_temp l ↦ lawful.call b (fun, f.entry) (0, omega arith, refl) (record { f = f; inner = []; function = is_f; reached = at_entry; own = own_temp f b l })
            | is_hidden l ↦ lawful.hidden b fun f is_f l
          ]
        ]
      ]

  pub lawful_config : (node : Node) → slice_get f.nodes f.entry ≡ Some node → LawfulConfig p (record { fun = fun; node = f.entry; stack = []; memory = with_result p f r.0 })
  unfolding memory
  lawful_config node at = record {
    memory = lawful_memory;
    runs = record {
      f = f;
      node = node;
      inner = [];
      stands = record { function = is_f; node_is = at; reached = at_entry };
      lives = λ b l. object_of_size memory b (size_in p f b) (lives_in b l);
      others = λ b cells h. other_lives b (length cells) (size_of_object memory b cells h);
    };
    callers = tt;
    belongs = λ b cells h. belongs_to b (length cells) (size_of_object memory b cells h);
  }

entry_there : (f : Function) (found : Option Node) → slice_get f.nodes f.entry ≡ found → f.entry < length f.nodes → (node : Node) × (slice_get f.nodes f.entry ≡ Some node)
entry_there f None e h = elim (slice_get_cases f.nodes f.entry).1 [ inl x ↦ (x.0, x.2) | inr o ↦ absurd (omega (arith, o.0)) ]
entry_there f (Some node) e h = (node, e)

by_function : (p : Program) (fun : ℕ) (picks : List ℤ) (b : Begun) → Lawful p → (found : Option Function) → slice_get p.functions fun ≡ found → begun_in p fun picks found ≡ Ok b → LawfulConfig p b.config
by_function p fun picks b holds None is e = absurd (cc)
by_function p fun picks b holds (Some f) is e =
    let r = then_ok (objects_begun p f picks 0 0 p.bases) (λ objects. Ok (begun_of p fun f objects)) b e in
    let second = r.is_second in
    let same : begun_of p fun f r.first ≡ b = cc in
    let entry = entry_there f (slice_get f.nodes f.entry) refl (holds.functions fun f is).entry in
    subst (λ (x : Begun). LawfulConfig p x.config) same (lawful_config p holds fun f is picks r.first r.is_first entry.0 entry.1)

pub beginnings_are_lawful : BeginningsAreLawful
unfolding begun
beginnings_are_lawful p fun picks b holds e = by_function p fun picks b holds (slice_get p.functions fun) refl e
