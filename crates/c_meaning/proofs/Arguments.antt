-- The values of arguments, one after another.
use Rattle.std.proofs.Common.{◌≡◌, ℕ, zero, suc, ◌+◌, None, List, [], ◌∷◌, ◌++◌, append_assoc, append-nil, Ok, Err, Result, refl, ap, ◌∙◌, sym}
use Rattle.std.specs.Prelude.{slice_get, slice_index}
use Rattle.program.specs.declared.expressions.Expr.{Expr}
use Rattle.program.specs.declared.graph.Function.{Function}
use Rattle.program.specs.declared.graph.Program.{Program}
use Rattle.program.specs.Numbers.{count_expr}
use Rattle.c_memory.specs.declared.memory.Object.{Object}
use Rattle.c_meaning.specs.declared.value.Value.{Value}
use Rattle.c_meaning.specs.declared.value.Undefined.{Undefined}
use Rattle.c_arithmetic.specs.Arithmetic.{and_then}
use Rattle.c_meaning.specs.Value.{value}
use Rattle.c_meaning.specs.Steps.{values, base_bits, entered_all, given}
use Rattle.c_memory.specs.Memory.{entered}

-- further values behind those that were found
unfoldable pub following : List Value → Result (List Value) Undefined → Result (List Value) Undefined
following vs (Ok ws) = Ok (vs ++ ws)
following vs (Err u) = Err u

pub following_none : (r : Result (List Value) Undefined) → following [] r ≡ r
unfolding following
following_none (Ok ws) = refl
following_none (Err u) = refl

pub following_end : (vs : List Value) → following vs (Ok []) ≡ Ok vs
unfolding following
following_end vs = ap Ok (append-nil vs)

pub following_more : (vs : List Value) (v : Value) (r : Result (List Value) Undefined) → following vs (and_then r (λ ws. Ok (v ∷ ws))) ≡ following (vs ++ v ∷ []) r
unfolding following
following_more vs v (Ok ws) = ap Ok (sym (append_assoc vs (v ∷ []) ws))
following_more vs v (Err u) = refl

pub values_more : (p : Program) (f : Function) (m : List Object) (s : ℕ) (e : Expr) (es : List Expr) (vs : List Value) (v : Value) → Ok v ≡ value p f m s e →
    following vs (values p f m s (e ∷ es)) ≡ following (vs ++ v ∷ []) (values p f m (s + count_expr e) es)
values_more p f m s e es vs v h =
    ap (λ (r : Result Value Undefined). following vs (and_then r (λ x. and_then (values p f m (s + count_expr e) es) (λ xs. Ok (x ∷ xs))))) (sym h)
    ∙ following_more vs v (values p f m (s + count_expr e) es)

pub values_stop : (p : Program) (f : Function) (m : List Object) (s : ℕ) (e : Expr) (es : List Expr) (vs : List Value) (u : Undefined) → Err u ≡ value p f m s e → following vs (values p f m s (e ∷ es)) ≡ Err u
unfolding following
values_stop p f m s e es vs u h =
    ap (λ (r : Result Value Undefined). following vs (and_then r (λ x. and_then (values p f m (s + count_expr e) es) (λ xs. Ok (x ∷ xs))))) (sym h)

-- bases come to life one list after another
pub entered_append : (p : Program) (xs ys : List ℕ) (m : List Object) → entered_all p (xs ++ ys) m ≡ entered_all p ys (entered_all p xs m)
entered_append p [] ys m = refl
entered_append p (x ∷ xs) ys m = entered_append p xs ys (entered x (base_bits p x) m)

-- no argument is left
pub given_none : (p : Program) (bs : List ℕ) (m : List Object) → given p bs [] m ≡ m
given_none p [] m = refl
given_none p (b ∷ bs) m = refl

pub given_done : (p : Program) (vs : List Value) (m : List Object) → given p [] vs m ≡ m
given_done p vs m = refl

-- no edge is there
pub no_edge : (xs : List ℕ) (i : ℕ) → slice_get xs i ≡ None → slice_index xs i ≡ 0
no_edge [] i h = refl
no_edge (x ∷ xs) zero h = absurd (cc)
no_edge (x ∷ xs) (suc i) h = no_edge xs i h

-- a list that goes on with a value that was found, or stops
pub found_more : (p : Program) (f : Function) (m : List Object) (first s : ℕ) (args left : List Expr) (e : Expr) (es : List Expr) (vs ws : List Value) (v : Value) (n : ℕ) →
    following vs (values p f m s left) ≡ values p f m first args → left ≡ e ∷ es → Ok v ≡ value p f m s e → ws ≡ vs ++ v ∷ [] → n ≡ count_expr e →
    following ws (values p f m (s + n) es) ≡ values p f m first args
found_more p f m first s args left e es vs ws v n so_far is one found count =
    rw (found, count) (sym (values_more p f m s e es vs v one) ∙ ap (λ (l : List Expr). following vs (values p f m s l)) (sym is) ∙ so_far)

pub found_stop : (p : Program) (f : Function) (m : List Object) (first s : ℕ) (args left : List Expr) (e : Expr) (es : List Expr) (vs : List Value) (u : Undefined) →
    following vs (values p f m s left) ≡ values p f m first args → left ≡ e ∷ es → Err u ≡ value p f m s e → Err u ≡ values p f m first args
found_stop p f m first s args left e es vs u so_far is one =
    sym (values_stop p f m s e es vs u one) ∙ ap (λ (l : List Expr). following vs (values p f m s l)) (sym is) ∙ so_far

pub found_all : (p : Program) (f : Function) (m : List Object) (first s : ℕ) (args left : List Expr) (vs : List Value) → following vs (values p f m s left) ≡ values p f m first args → left ≡ [] → Ok vs ≡ values p f m first args
found_all p f m first s args left vs so_far is = sym (following_end vs) ∙ ap (λ (l : List Expr). following vs (values p f m s l)) (sym is) ∙ so_far

pub ruleset argument_steps = (following_none, following_end, values_more, values_stop)
