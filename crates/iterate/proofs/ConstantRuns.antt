-- The lone run: it is unique, and each execution keeps to it.
use Rattle.std.proofs.Common.{◌≡◌, ℕ, ◌+◌, ℤ, List, [], ◌∷◌, ◌++◌, Option, Some, None, Result, Ok, Err, refl, ap, ◌∙◌, sym, subst, arith, lit<}
use Rattle.std.specs.Prelude.{slice_get, zero, suc}
use Rattle.std.specs.List.{Contains}
use Rattle.std.proofs.lemmas.List.Elements.{Contains-append_left, Contains-append_right}
use Rattle.program.specs.declared.expressions.Expr.{Expr, end_of-Expr, more_of-Expr}
use Rattle.program.specs.declared.expressions.Expr.TheVariants.{Const, Null, Load, Addr, Start, Unary', Binary', Cast'}
use Rattle.program.specs.declared.instructions.Instr.{Instr}
use Rattle.program.specs.declared.instructions.Instr.TheVariants.{Return}
use Rattle.program.specs.declared.graph.Node.{Node}
use Rattle.program.specs.declared.graph.Function.{Function}
use Rattle.program.specs.declared.sites.Kind.{Kind}
use Rattle.program.specs.declared.sites.Site.{Site}
use Rattle.program.specs.Numbers.{count_expr}
use Rattle.constant_meaning.specs.declared.constant.Undefined.{Undefined}
use Rattle.constant_meaning.specs.ConstantValue.{negation, operation, undefined_at, go_on, value}
use Rattle.constant_meaning.specs.ConstantExecution.{set_result, Config, initial, Step, Executes, here, on, IsUndefinedAt, Returns}
use Rattle.iterate.specs.declared.constant.State.TheVariants.{Bottom, Live}
use Rattle.iterate.specs.declared.constant.EntryResult.{EntryResult}
use Rattle.iterate.specs.ConstantRun.{Left, left_at, and_then, left, sites, RunFrom, goes_on, stops, ends, LoneRun}
use Rattle.iterate.specs.ConstantSound.{IsSound}

-- what is left is what the concrete value says
left_of : Result ℤ Undefined → Left
left_of (Ok v) = record { number = Some v; alarms = [] }
left_of (Err u) = record { number = None; alarms = record { sub = u.sub; kind = u.kind } ∷ [] }

left_at_is : (sub : ℕ) (r : Result ℤ Kind) → left_at sub r ≡ left_of (undefined_at sub r)
unfolding left_of
left_at_is sub (Ok v) = refl
left_at_is sub (Err k) = refl

-- what goes on with an operand that is left goes on with its value
and_then_is : (l : Left) (r : Result ℤ Undefined) (later : ℤ → Left) (next : ℤ → Result ℤ Undefined) → l ≡ left_of r →
    ((x : ℤ) → later x ≡ left_of (next x)) → and_then l later ≡ left_of (go_on r next)
unfolding left_of
and_then_is l (Ok v) later next h k = ap (λ (x : Left). and_then x later) h ∙ k v
and_then_is l (Err u) later next h k = ap (λ (x : Left). and_then x later) h

left_is : (sub : ℕ) (e : Expr) → left sub e ≡ left_of (value sub e)
unfolding left_of left value
left_is sub (Const k v) = refl
left_is sub Null = refl
left_is sub (Load l t) = refl
left_is sub (Addr l) = refl
left_is sub (Start l) = refl
left_is sub (Unary' u _ (more_of-Expr a end_of-Expr)) =
    and_then_is (left (sub + 1) a) (value (sub + 1) a) _ _ (left_is (sub + 1) a) (λ x. left_at_is sub (negation x))
left_is sub (Binary' o _ (more_of-Expr a end_of-Expr) _ (more_of-Expr b end_of-Expr)) =
    and_then_is (left (sub + 1) a) (value (sub + 1) a) _ _ (left_is (sub + 1) a)
    (λ x. and_then_is (left (sub + 1 + count_expr a) b) (value (sub + 1 + count_expr a) b) _ _ (left_is (sub + 1 + count_expr a) b)
    (λ y. left_at_is sub (operation o x y)))
left_is sub (Cast' t _ _) = refl

-- an expression leaves a number exactly where it has a value
pub left_some : (e : Expr) (v : ℤ) → value 1 e ≡ Ok v → left 1 e ≡ record { number = Some v; alarms = [] }
unfolding left_of
left_some e v h = left_is 1 e ∙ ap left_of h

pub left_none : (e : Expr) (u : Undefined) → value 1 e ≡ Err u → left 1 e ≡ record { number = None; alarms = record { sub = u.sub; kind = u.kind } ∷ [] }
unfolding left_of
left_none e u h = left_is 1 e ∙ ap left_of h

number_some : (r : Result ℤ Undefined) (v : ℤ) → (left_of r).number ≡ Some v → r ≡ Ok v
unfolding left_of
number_some (Ok w) v h = cc
number_some (Err u) v h = cc

number_none : (r : Result ℤ Undefined) (v : ℤ) → (left_of r).number ≡ None → r ≡ Ok v → ⊥
unfolding left_of
number_none (Ok w) v h e = cc
number_none (Err u) v h e = cc

pub some_value : (e : Expr) (v : ℤ) → (left 1 e).number ≡ Some v → value 1 e ≡ Ok v
some_value e v h = number_some (value 1 e) v (sym (ap (λ (l : Left). l.number) (left_is 1 e)) ∙ h)

pub none_value : (e : Expr) (v : ℤ) → (left 1 e).number ≡ None → value 1 e ≡ Ok v → ⊥
none_value e v h = number_none (value 1 e) v (sym (ap (λ (l : Left). l.number) (left_is 1 e)) ∙ h)

-- two readings of one node
module _ (f : Function) (n : ℕ) (a b : Node) (at : slice_get f.nodes n ≡ Some a) (at' : slice_get f.nodes n ≡ Some b) where
  one_node : a ≡ b
  one_node = cc

  one_instr : (i j : Instr) → a.instr ≡ i → b.instr ≡ j → i ≡ j
  one_instr i j p q = sym p ∙ ap (λ (x : Node). x.instr) one_node ∙ q

  one_value : (d e : Expr) → a.instr ≡ set_result d → b.instr ≡ set_result e → d ≡ e
  one_value d e p q = let h = one_instr (set_result d) (set_result e) p q in cc

  set_or_return : (d : Expr) → a.instr ≡ set_result d → b.instr ≡ Return → ⊥
  set_or_return d p q = let h = one_instr (set_result d) Return p q in cc

  one_edges : (xs ys : List ℕ) → a.edges ≡ xs → b.edges ≡ ys → xs ≡ ys
  one_edges xs ys p q = sym p ∙ ap (λ (x : Node). x.edges) one_node ∙ q

one_number : (d e : Expr) (v w : ℤ) → d ≡ e → value 1 d ≡ Ok v → value 1 e ≡ Ok w → v ≡ w
one_number d e v w p h k = let q : Ok v ≡ Ok w = sym h ∙ ap (value 1) p ∙ k in cc

defined_or_not : (d e : Expr) (v : ℤ) (u : Undefined) → d ≡ e → value 1 d ≡ Ok v → value 1 e ≡ Err u → ⊥
defined_or_not d e v u p h k = let q : Ok v ≡ Err u = sym h ∙ ap (value 1) p ∙ k in cc

-- the result of a run that begins with a turn at n
abbrev pub after : ℕ → ℕ → Expr → EntryResult → EntryResult
after fun n e rest = record { end = rest.end; alarms = sites fun n (left 1 e).alarms ++ rest.alarms; turns = rest.turns + 1 }

pub unique : (fun : ℕ) (f : Function) (n : ℕ) (before : Option ℤ) (r s : EntryResult) → RunFrom fun f n before r → RunFrom fun f n before s → r ≡ s
unique fun f n before r s (goes_on _ _ _ node e v next rest at sets number edge run same) (goes_on _ _ _ node' e' v' next' rest' at' sets' number' edge' run' same') =
    let p : e ≡ e' = one_value f n node node' at at' e e' sets sets' in
    let q : v ≡ v' = one_number e e' v v' p (some_value e v number) (some_value e' v' number') in
    let m : next ≡ next' = let h = one_edges f n node node' at at' _ _ edge edge' in cc in
    let run'' : RunFrom fun f next (Some v) rest' = rw (q, m) run' in
    let t : rest ≡ rest' = unique fun f next (Some v) rest rest' run run'' in
    same ∙ ap (after fun n e) t ∙ ap (λ (d : Expr). after fun n d rest') p ∙ sym same'
unique fun f n before r s (goes_on _ _ _ node e v next rest at sets number edge run same) (stops _ _ _ node' e' at' sets' none same') =
    absurd (none_value e' v none (ap (value 1) (sym (one_value f n node node' at at' e e' sets sets')) ∙ some_value e v number))
unique fun f n before r s (goes_on _ _ _ node e v next rest at sets number edge run same) (ends _ _ _ node' at' exits same') =
    absurd (set_or_return f n node node' at at' e sets exits)
unique fun f n before r s (stops _ _ _ node e at sets none same) (goes_on _ _ _ node' e' v' next' rest' at' sets' number' edge' run' same') =
    absurd (none_value e v' none (ap (value 1) (one_value f n node node' at at' e e' sets sets') ∙ some_value e' v' number'))
unique fun f n before r s (stops _ _ _ node e at sets none same) (stops _ _ _ node' e' at' sets' none' same') =
    let p : e ≡ e' = one_value f n node node' at at' e e' sets sets' in
    same ∙ ap (λ (d : Expr). record { end = Bottom; alarms = sites fun n (left 1 d).alarms; turns = 1 }) p ∙ sym same'
unique fun f n before r s (stops _ _ _ node e at sets none same) (ends _ _ _ node' at' exits same') =
    absurd (set_or_return f n node node' at at' e sets exits)
unique fun f n before r s (ends _ _ _ node at exits same) (goes_on _ _ _ node' e' v' next' rest' at' sets' number' edge' run' same') =
    absurd (set_or_return f n node' node at' at e' sets' exits)
unique fun f n before r s (ends _ _ _ node at exits same) (stops _ _ _ node' e' at' sets' none' same') =
    absurd (set_or_return f n node' node at' at e' sets' exits)
unique fun f n before r s (ends _ _ _ node at exits same) (ends _ _ _ node' at' exits' same') = same ∙ sym same'

-- an execution from where the run stands
first_of : {A : Type 0} (x y : A) → Contains (x ∷ []) y → x ≡ y
first_of x y (zero, lt, e) = e
first_of x y (suc k, lt, e) = absurd (omega arith)

is_there : {A : Type 0} (x y : A) → x ≡ y → Contains (x ∷ []) y
is_there x y e = (0, lit< tt, e)

module _ (f : Function) (n : ℕ) (before : Option ℤ) (c : Config) (w : c ≡ record { node = n; outcome = before }) where
  -- what stands at the node of the configuration
  node_of : (node : Node) → slice_get f.nodes c.node ≡ Some node → slice_get f.nodes n ≡ Some node
  node_of node h = ap (λ (x : Config). slice_get f.nodes x.node) (sym w) ∙ h

  -- a step goes where the run goes
  next_of : (b : Config) → Step f c b → (node : Node) (e : Expr) (v : ℤ) (next : ℕ) → slice_get f.nodes n ≡ Some node → node.instr ≡ set_result e →
      value 1 e ≡ Ok v → node.edges ≡ next ∷ [] → b ≡ record { node = next; outcome = Some v }
  next_of b step node e v next at sets defined edge =
      let at' = node_of step.node step.at in
      let p : step.value_of ≡ e = one_value f n step.node node at' at step.value_of e step.sets sets in
      let q : step.v ≡ v = one_number step.value_of e step.v v p step.defined defined in
      let ends : step.node.edges ≡ next ∷ [] = ap (λ (x : Node). x.edges) (one_node f n step.node node at' at) ∙ edge in
      let inside : Contains (next ∷ []) step.next = subst (λ (xs : List ℕ). Contains xs step.next) ends step.edge in
      let m : next ≡ step.next = first_of next step.next inside in
      step.same ∙ ap (λ (k : ℕ). record { node = k; outcome = Some step.v }) (sym m) ∙ ap (λ (z : ℤ). record { node = next; outcome = Some z }) q

  -- an undefined place at a node that the run takes
  undefined_here : (fun : ℕ) (s : Site) → IsUndefinedAt fun f c s → (node : Node) (e : Expr) → slice_get f.nodes n ≡ Some node → node.instr ≡ set_result e →
      Contains (sites fun n (left 1 e).alarms) s
  undefined_here fun s u node e at sets =
      let p : u.value_of ≡ e = one_value f n u.node node (node_of u.node u.at) at u.value_of e u.sets sets in
      let h : left 1 e ≡ record { number = None; alarms = record { sub = u.place.sub; kind = u.place.kind } ∷ [] } =
      left_none e u.place (ap (value 1) (sym p) ∙ u.undefined) in
      let t : record { fun = fun; node = n; sub = u.place.sub; kind = u.place.kind } ≡ s =
      ap (λ (x : Config). record { fun = fun; node = x.node; sub = u.place.sub; kind = u.place.kind }) (sym w) ∙ sym u.same in
      subst (λ (l : Left). Contains (sites fun n l.alarms) s) (sym h) (is_there _ s t)

pub alarmed_from : (fun : ℕ) (f : Function) (n : ℕ) (before : Option ℤ) (r : EntryResult) → RunFrom fun f n before r → (c d : Config) →
    c ≡ record { node = n; outcome = before } → Executes f c d → (s : Site) → IsUndefinedAt fun f d s → Contains r.alarms s
alarmed_from fun f n before r (goes_on _ _ _ node e v next rest at sets number edge run same) c d w (here _) s u =
    subst (λ (x : EntryResult). Contains x.alarms s) (sym same)
    (Contains-append_left (sites fun n (left 1 e).alarms) rest.alarms s (undefined_here f n before c w fun s u node e at sets))
alarmed_from fun f n before r (goes_on _ _ _ node e v next rest at sets number edge run same) c d w (on _ b _ step more) s u =
    subst (λ (x : EntryResult). Contains x.alarms s) (sym same)
    (Contains-append_right (sites fun n (left 1 e).alarms) rest.alarms s
    (alarmed_from fun f next (Some v) rest run b d (next_of f n before c w b step node e v next at sets (some_value e v number) edge) more s u))
alarmed_from fun f n before r (stops _ _ _ node e at sets none same) c d w (here _) s u =
    subst (λ (x : EntryResult). Contains x.alarms s) (sym same) (undefined_here f n before c w fun s u node e at sets)
alarmed_from fun f n before r (stops _ _ _ node e at sets none same) c d w (on _ b _ step more) s u =
    absurd (none_value e step.v none
    (ap (value 1) (one_value f n node step.node at (node_of f n before c w step.node step.at) e step.value_of sets step.sets) ∙ step.defined))
alarmed_from fun f n before r (ends _ _ _ node at exits same) c d w (here _) s u =
    absurd (set_or_return f n u.node node (node_of f n before c w u.node u.at) at u.value_of u.sets exits)
alarmed_from fun f n before r (ends _ _ _ node at exits same) c d w (on _ b _ step more) s u =
    absurd (set_or_return f n step.node node (node_of f n before c w step.node step.at) at step.value_of step.sets exits)

pub kept_from : (fun : ℕ) (f : Function) (n : ℕ) (before : Option ℤ) (r : EntryResult) → RunFrom fun f n before r → (c d : Config) →
    c ≡ record { node = n; outcome = before } → Executes f c d → Returns f d → r.end ≡ Live d.outcome
kept_from fun f n before r (goes_on _ _ _ node e v next rest at sets number edge run same) c d w (here _) u =
    absurd (set_or_return f n node u.node at (node_of f n before c w u.node u.at) e sets u.exits)
kept_from fun f n before r (goes_on _ _ _ node e v next rest at sets number edge run same) c d w (on _ b _ step more) u =
    ap (λ (x : EntryResult). x.end) same
    ∙ kept_from fun f next (Some v) rest run b d (next_of f n before c w b step node e v next at sets (some_value e v number) edge) more u
kept_from fun f n before r (stops _ _ _ node e at sets none same) c d w (here _) u =
    absurd (set_or_return f n node u.node at (node_of f n before c w u.node u.at) e sets u.exits)
kept_from fun f n before r (stops _ _ _ node e at sets none same) c d w (on _ b _ step more) u =
    absurd (none_value e step.v none
    (ap (value 1) (one_value f n node step.node at (node_of f n before c w step.node step.at) e step.value_of sets step.sets) ∙ step.defined))
kept_from fun f n before r (ends _ _ _ node at exits same) c d w (here _) u =
    ap (λ (x : EntryResult). x.end) same ∙ ap (λ (x : Config). Live x.outcome) (sym w)
kept_from fun f n before r (ends _ _ _ node at exits same) c d w (on _ b _ step more) u =
    absurd (set_or_return f n step.node node (node_of f n before c w step.node step.at) at step.value_of step.sets exits)

-- the lone run is sound
pub lone_run_is_sound : (fun : ℕ) (f : Function) (r : EntryResult) → LoneRun fun f r → IsSound fun f r
lone_run_is_sound fun f r run = record {
  alarmed = λ c s e u. alarmed_from fun f f.entry None r run (initial f) c refl e s u;
  kept = λ c e u. kept_from fun f f.entry None r run (initial f) c refl e u;
}
