-- One step of an execution (C11 5.1.2.3, 6.5.2.2, 6.5.16, 6.8): what a node does to a configuration.
use Rattle.std.specs.Prelude.{◌≡◌, ℕ, ◌+◌, ◌-◌, ◌^◌, ℤ, pos, neg_ℤ, ◌≤ℤ◌, Bool, true, false, if◌then◌else◌, List, [], ◌∷◌, ◌++◌, replicate, slice_get, slice_index, Option, Some, None, Result, Ok, Err}
use Rattle.std.specs.List.{list_any}
use Rattle.std.specs.Option.{option_map}
use Rattle.std.specs.Ordering.{int_eq}
use Rattle.c_types.specs.declared.types.IntKind.{IntKind}
use Rattle.c_types.specs.declared.types.IntKind.TheVariants as kind
use Rattle.c_types.specs.declared.types.CType.{CType}
use Rattle.c_types.specs.declared.types.CType.TheVariants.{Void}
use Rattle.c_types.specs.Integers.{is_signed, least, greatest}
use Rattle.program.specs.declared.expressions.Expr.{Expr}
use Rattle.program.specs.declared.expressions.LVal.{LVal}
use Rattle.program.specs.declared.instructions.What.{What}
use Rattle.program.specs.declared.instructions.What.TheVariants as what
use Rattle.program.specs.declared.instructions.Instr.{Instr}
use Rattle.program.specs.declared.instructions.Instr.TheVariants as instr
use Rattle.program.specs.declared.graph.Base.{Base}
use Rattle.program.specs.declared.graph.Node.{Node}
use Rattle.program.specs.declared.graph.Function.{Function}
use Rattle.program.specs.declared.graph.Program.{Program}
use Rattle.program.specs.declared.sites.Site.{Site}
use Rattle.program.specs.declared.sites.Kind.TheVariants.{MissingReturn}
use Rattle.program.specs.Numbers.{count_expr, count_lval}
use Rattle.program.specs.Typing.{int_type}
use Rattle.c_memory.specs.declared.cells.Cell.{Cell}
use Rattle.c_memory.specs.declared.cells.Cell.TheVariants.{Bit}
use Rattle.c_memory.specs.declared.memory.Object.{Object}
use Rattle.c_meaning.specs.declared.value.Value.{Value}
use Rattle.c_meaning.specs.declared.value.Value.TheVariants.{Number, Pointer}
use Rattle.c_meaning.specs.declared.value.Undefined.{Undefined}
use Rattle.c_meaning.specs.declared.config.Config.{Config}
use Rattle.c_meaning.specs.declared.config.Move.{Move}
use Rattle.c_meaning.specs.declared.config.Move.TheVariants as move
use Rattle.c_arithmetic.specs.Arithmetic.{and_then}
use Rattle.c_meaning.specs.Cells.{value_cells, is_uninit}
use Rattle.c_memory.specs.Memory.{object, put, entered, left}
use Rattle.c_meaning.specs.Memory.{accessed, written}
use Rattle.c_meaning.specs.PlaceTypes.{bits_of, access_bits, scalar_bits}
use Rattle.c_meaning.specs.Value.{at, number_in, value, place}

-- ---- objects

-- the size of a base in bits
abbrev pub size_of_base : Option Base → ℕ
size_of_base None = 0
size_of_base (Some base) = base.size_bits

abbrev pub base_bits : Program → ℕ → ℕ
base_bits p b = size_of_base (slice_get p.bases b)

-- bases come to life, uninitialised
abbrev pub entered_all : Program → List ℕ → List Object → List Object
entered_all p [] m = m
entered_all p (b ∷ bs) m = entered_all p bs (entered b (base_bits p b) m)

abbrev pub is_void : CType → Bool
is_void Void = true
is_void _ = false

-- the object of a function's result comes to life, where it has one
abbrev pub with_result : Program → Function → List Object → List Object
with_result p f m = if is_void f.result then m else entered 0 (bits_of p.layout (Some f.result)) m

-- the bases that live from a call of the function to its end
abbrev pub own_bases : Function → List ℕ
own_bases f = f.params ++ f.locals ++ f.temps

-- ---- instructions that stay in their function

-- 6.5.16p3: the place, the value, and then the write at number 0
abbrev pub set : Program → Function → List Object → LVal → Expr → Result (List Object) Undefined
set p f m l e =
    and_then (place p f m 0 l) (λ a. and_then (value p f m (count_lval l) e) (λ v.
    at 0 (written m a (value_cells (access_bits p f l) v))))

-- 6.5.16.1p3: both places, the source's bits as they are, and then the write
abbrev pub copied : Program → Function → List Object → LVal → LVal → Result (List Object) Undefined
copied p f m to from =
    and_then (place p f m 0 to) (λ a. and_then (place p f m (count_lval to) from) (λ b.
    and_then (at (count_lval to) (accessed m b (access_bits p f to))) (λ cells. at 0 (written m a cells))))

abbrev pub zeroed : Program → Function → List Object → LVal → Result (List Object) Undefined
zeroed p f m l = and_then (place p f m 0 l) (λ a. at 0 (written m a (replicate (access_bits p f l) (Bit false))))

-- the memory behind an instruction that goes on to its one edge
abbrev pub after : Program → Function → List Object → Instr → Result (List Object) Undefined
after p f m (instr.Set l e) = set p f m l e
after p f m (instr.Copy to from) = copied p f m to from
after p f m (instr.Zero l) = zeroed p f m l
after p f m (instr.Enter bs) = Ok (entered_all p bs m)
after p f m (instr.Leave bs) = Ok (left bs m)
after p f m (instr.Skip (Some e)) = and_then (value p f m 0 e) (λ v. Ok m)
after p f m _ = Ok m

-- ---- inputs

-- the values of arguments, left to right, the first with this number
abbrev pub values : Program → Function → List Object → ℕ → List Expr → Result (List Value) Undefined
values p f m s [] = Ok []
values p f m s (e ∷ es) = and_then (value p f m s e) (λ v. and_then (values p f m (s + count_expr e) es) (λ vs. Ok (v ∷ vs)))

-- the first argument that is undefined
abbrev pub or_next : Result Value Undefined → Option Undefined → Option Undefined
or_next (Ok v) next = next
or_next (Err u) next = Some u

abbrev pub undefined_in : Program → Function → List Object → ℕ → List Expr → Option Undefined
undefined_in p f m s [] = None
undefined_in p f m s (e ∷ es) = or_next (value p f m s e) (undefined_in p f m (s + count_expr e) es)

abbrev pub unless : {A : Type 0} → Option Undefined → A → Result A Undefined
unless None a = Ok a
unless (Some u) a = Err u

-- the numbers of a kind that n bits hold
abbrev pub range_of_bits : IntKind → ℕ → ℤ × ℤ
range_of_bits kind.Bool n = (pos 0, pos 1)
range_of_bits k n = if is_signed k then (neg_ℤ (pos (2 ^ (n - 1))), pos (2 ^ (n - 1) - 1)) else (pos 0, pos (2 ^ n - 1))

abbrev pub range_of_kind : IntKind → ℤ × ℤ
range_of_kind k = (least k, greatest k)

-- the range of the number that is read, where one is
abbrev pub sought : Program → Function → List Object → What → Result (Option (ℤ × ℤ)) Undefined
sought p f m (what.Function args k) = unless (undefined_in p f m 1 args) (option_map range_of_kind k)
sought p f m (what.Interval lo hi) =
    and_then (value p f m 1 lo) (λ x. and_then (value p f m (1 + count_expr lo) hi) (λ y. Ok (Some (number_in x, number_in y))))
sought p f m (what.Volatile l k) =
    and_then (place p f m 1 l) (λ a. and_then (at 1 (accessed m a (scalar_bits p f l (int_type k)))) (λ cells.
    Ok (Some (range_of_bits k (scalar_bits p f l (int_type k))))))

-- a result is stored where it is wanted
abbrev pub stored : Program → Option ℕ → Value → List Object → List Object
stored p None v m = m
stored p (Some b) v m = put m b 0 (value_cells (base_bits p b) v)

-- ---- moves

-- on to an edge of the node
abbrev pub goes : Config → Node → ℕ → List Object → Move
goes c node edge m = move.Next (record { fun = c.fun; node = slice_index node.edges edge; stack = c.stack; memory = m })

abbrev pub site_of : ℕ → ℕ → Undefined → Site
site_of fun node u = record { fun = fun; node = node; sub = u.sub; kind = u.kind }

-- what is undefined at a node ends the execution there
abbrev pub where_defined : {A : Type 0} → ℕ → ℕ → Result A Undefined → (A → Move) → Move
where_defined fun node (Ok a) next = next a
where_defined fun node (Err u) next = move.Undefined (site_of fun node u)

-- 6.8.4.1p2: 0 and null are false
abbrev pub is_false : Value → Bool
is_false (Number v) = int_eq v (pos 0)
is_false (Pointer base offset) = false

abbrev pub reads : Program → Config → Node → Option ℕ → Option (ℤ × ℤ) → Option ℤ → Move
reads p c node to None input = goes c node 0 c.memory
reads p c node to (Some range) None = move.NeedInput c
reads p c node to (Some range) (Some v) = goes c node 0 (stored p to (Number v) c.memory)

-- 6.5.2.2p4: parameters are assigned their arguments
abbrev pub given : Program → List ℕ → List Value → List Object → List Object
given p (b ∷ bs) (v ∷ vs) m = given p bs vs (put m b 0 (value_cells (base_bits p b) v))
given p _ _ m = m

-- the caller's result object goes, and the callee's objects come
abbrev pub called : Program → Function → List Value → List Object → List Object
called p g vs m = given p g.params vs (entered_all p (own_bases g) (with_result p g (left (0 ∷ []) m)))

abbrev pub calls : Program → Config → ℕ → Option Function → List Value → Move
calls p c callee None vs = move.Returned c.memory
calls p c callee (Some g) vs = move.Next (record { fun = callee; node = g.entry; stack = (c.fun, c.node) ∷ c.stack; memory = called p g vs c.memory })

-- 6.9.1p12: a result that is wanted must have been given
abbrev pub passed : Option ℕ → Option (List Cell) → List Object → Result (List Object) Undefined
passed None cells m = Ok m
passed (Some b) None m = Ok m
passed (Some b) (Some cells) m =
    if list_any is_uninit cells then Err (record { sub = 0; kind = MissingReturn }) else Ok (put m b 0 cells)

-- the base for the result of a call
abbrev pub wanted : Instr → Option ℕ
wanted (instr.Call to callee args) = to
wanted _ = None

-- back behind the call: the result is passed, the callee's objects go, the caller's result comes again
abbrev pub comes_back : Program → Function → List Object → ℕ → ℕ → List (ℕ × ℕ) → Option Function → Option Node → Move
comes_back p f m fun at_node rest (Some caller) (Some node) =
    where_defined fun at_node (passed (wanted node.instr) (object m 0) m) (λ after_passing.
    move.Next (record { fun = fun; node = slice_index node.edges 0; stack = rest; memory = with_result p caller (left (0 ∷ own_bases f) after_passing) }))
comes_back p f m fun at_node rest caller n = move.Returned m

abbrev pub node_of : Option Function → ℕ → Option Node
node_of None n = None
node_of (Some f) n = slice_get f.nodes n

abbrev pub returns : Program → Function → List Object → List (ℕ × ℕ) → Move
returns p f m [] = move.Returned m
returns p f m (frame ∷ rest) =
    comes_back p f m frame.0 frame.1 rest (slice_get p.functions frame.0) (node_of (slice_get p.functions frame.0) frame.1)

abbrev pub executed : Program → Function → Node → Config → Option ℤ → Instr → Move
executed p f node c input (instr.Guard e) =
    where_defined c.fun c.node (value p f c.memory 0 e) (λ v. goes c node (if is_false v then 1 else 0) c.memory)
executed p f node c input (instr.Call to callee args) =
    where_defined c.fun c.node (values p f c.memory 1 args) (λ vs. calls p c callee (slice_get p.functions callee) vs)
executed p f node c input (instr.External to w) = where_defined c.fun c.node (sought p f c.memory w) (λ range. reads p c node to range input)
executed p f node c input instr.Return = returns p f c.memory c.stack
executed p f node c input i = where_defined c.fun c.node (after p f c.memory i) (λ m. goes c node 0 m)

-- ---- steps

abbrev pub next_at : Program → Config → Option ℤ → Option Function → Option Node → Move
next_at p c input (Some f) (Some node) = executed p f node c input node.instr
next_at p c input f n = move.Returned c.memory

-- the move of a configuration with an input, where it reads one
unfoldable pub next : Program → Config → Option ℤ → Move
next p c input = next_at p c input (slice_get p.functions c.fun) (node_of (slice_get p.functions c.fun) c.node)

abbrev pub range_in : Result (Option (ℤ × ℤ)) Undefined → Option (ℤ × ℤ)
range_in (Ok range) = range
range_in (Err u) = None

abbrev pub asked_by : Program → Function → List Object → Instr → Option (ℤ × ℤ)
asked_by p f m (instr.External to w) = range_in (sought p f m w)
asked_by p f m _ = None

abbrev pub asked_at : Program → Config → Option Function → Option Node → Option (ℤ × ℤ)
asked_at p c (Some f) (Some node) = asked_by p f c.memory node.instr
asked_at p c f n = None

-- the range of the number that the next step reads
unfoldable pub asked : Program → Config → Option (ℤ × ℤ)
asked p c = asked_at p c (slice_get p.functions c.fun) (node_of (slice_get p.functions c.fun) c.node)

-- ---- executions

-- a number that is read lies in the range that is asked for
abbrev pub IsInput : Option (ℤ × ℤ) → Option ℤ → Type 0
IsInput (Some range) (Some v) = (range.0 ≤ℤ v) × (v ≤ℤ range.1)
IsInput _ _ = Unit {0}

-- steps one after another, for some inputs
pub data Executes (p : Program) : Config → Config → Type 0 where
  here : (c : Config) → Executes p c c
  on : (b c d : Config) (input : Option ℤ) → IsInput (asked p b) input → next p b input ≡ move.Next c → Executes p c d → Executes p b d

-- the execution that has come here is undefined at a site
pub record IsUndefinedAt (p : Program) (c : Config) (site : Site) : Type 0 where
  pub input : Option ℤ
  pub fits : IsInput (asked p c) input
  pub undefined : next p c input ≡ move.Undefined site
