-- Covering goes through the ways to go on, once for all operators.
use Rattle.std.proofs.Common.{ℕ, ◌≡◌, refl, ap, sym, ◌∙◌, subst, List, map, length, Option, Some, None, Result, Ok, Err, ℤ, true, false, arith}
use Rattle.std.specs.Prelude.{Bool}
use Rattle.std.specs.List.{Contains}
use Rattle.std.proofs.Math.ListN.{get_or-map}
use Rattle.std.proofs.lemmas.List.{length-map}
use Rattle.std.proofs.lemmas.List.Elements.{Contains-append_left, Contains-append_right}
use Rattle.program.specs.declared.sites.Kind.{Kind}
use Rattle.ival.specs.declared.forms.Ival.{Ival}
use Rattle.ival.specs.declared.forms.Ival.TheVariants.{Empty, Set, Range, All as Every}
use Rattle.ival.specs.Forms.{Has}
use Rattle.c_meaning.specs.declared.value.Undefined.{Undefined}
use Rattle.c_arithmetic.specs.Arithmetic.{and_then}
use Rattle.c_meaning.specs.Value.{at}
use Rattle.abstract_operators.specs.Left.{Left, raising, alarm_if, continued, and_on, left_at, alarms_at, mapped, each_left}
use Rattle.abstract_operators.specs.Numbers.{left_numbers}
use Rattle.abstract_operators.specs.Kept.{IfLeft, Covers, IsOneOf}

-- what is defined stays covered under more alarms, and so does what is undefined
pub covers-raising : {A B K : Type 0} (P : A → B → Type 0) (kinds : List K) (r : Result A K) (l : Left B K) → Covers P r l → Covers P r (raising kinds l)
covers-raising P kinds (Ok x) l c = c
covers-raising P kinds (Err k) l c = Contains-append_right kinds l.alarms k c

-- an alarm that is raised covers what is undefined so
pub covers-alarm : {A B K : Type 0} (P : A → B → Type 0) (kinds : List K) (k : K) (l : Left B K) → Contains kinds k → Covers P (Err k) (raising kinds l)
covers-alarm P kinds k l c = Contains-append_left kinds l.alarms k c

pub alarm-there : (b : Bool) (kind : Kind) → b ≡ true → Contains (alarm_if b kind) kind
alarm-there true kind e = (0, omega arith, refl)
alarm-there false kind e = absurd (cc)

-- a set with a member is left
pub left-numbers : (a : Ival) (z : ℤ) → Has a z → Covers {K = Kind} IsOneOf (Ok z) (left_numbers a)
unfolding left_numbers
left-numbers Empty z h = absurd h
left-numbers (Set xs) z h = (Set xs, refl, h)
left-numbers (Range lo hi r m) z h = (Range lo hi r m, refl, h)
left-numbers Every z h = (Every, refl, h)

-- where the first part is covered, and the rest for each covered value that is left
covers-continued : {A B C D K : Type 0} (F : B → Type 0) (P : A → B → Type 0) (Q : C → D → Type 0) (b : B) (before : List K)
    (f : A → Result C K) (g : B → Left D K)
    → ((x : A) (y : B) → F y → P x y → Covers Q (f x) (g y)) → (x : A) → F b → P x b → Covers Q (f x) (continued before (Some b) g)
covers-continued F P Q b before f g h x k p = covers-raising Q before (f x) (g b) (h x b k p)

stays-covered : {B D K : Type 0} (v : Option B) (before : List K) (g : B → Left D K) (k : K) → Contains before k → Contains (continued before v g).alarms k
stays-covered None before g k c = c
stays-covered (Some b) before g k c = Contains-append_left before (g b).alarms k c

pub covers-then : {A B C D K : Type 0} (F : B → Type 0) (P : A → B → Type 0) (Q : C → D → Type 0) (r : Result A K) (l : Left B K)
    (f : A → Result C K) (g : B → Left D K)
    → IfLeft l F → Covers P r l → ((x : A) (y : B) → F y → P x y → Covers Q (f x) (g y)) → Covers Q (and_then r f) (and_on l g)
covers-then F P Q (Ok x) l f g k c h =
    subst (λ v. Covers Q (f x) (continued l.alarms v g)) (sym c.1) (covers-continued F P Q c.0 l.alarms f g h x (k c.0 c.1) c.2)
covers-then F P Q (Err u) l f g k c h = stays-covered l.value l.alarms g u c

contains-at : (sub : ℕ) (kinds : List Kind) (kind : Kind) → Contains kinds kind → Contains (alarms_at sub kinds) (record { sub = sub; kind = kind })
contains-at sub kinds kind c =
    let f : Kind → Undefined = λ j. record { sub = sub; kind = j } in
    let n : length (map f kinds) ≡ length kinds = length-map kinds f in
    (c.0, rw n c.1, get_or-map f kinds c.0 kind ∙ ap f c.2)

-- an outcome of an operator, at its subexpression
pub covers-at : {A B : Type 0} (P : A → B → Type 0) (sub : ℕ) (r : Result A Kind) (l : Left B Kind) → Covers P r l → Covers P (at sub r) (left_at sub l)
covers-at P sub (Ok x) l c = c
covers-at P sub (Err kind) l c = contains-at sub l.alarms kind c

-- what is covered stays so where both sides are taken for values of another sort
pub covers-each : {A B C D : Type 0} (P : A → B → Type 0) (Q : C → D → Type 0) (f : A → C) (g : B → D) (r : Result A Kind) (l : Left B Kind)
    → Covers P r l → ((x : A) (y : B) → P x y → Q (f x) (g y)) → Covers Q (and_then r (λ x. Ok (f x))) (each_left g l)
covers-each P Q f g (Ok x) l c h = (g c.0, ap (mapped g) c.1, h x c.0 c.2)
covers-each P Q f g (Err k) l c h = c
