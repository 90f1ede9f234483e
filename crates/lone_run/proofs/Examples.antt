-- Turns of the lone run of small graphs, over states that only tell which nodes were passed.
use Rattle.std.proofs.Common.{refl}
use Rattle.std.specs.Prelude.{◌≡◌, ℕ, ◌+◌, nat_eq, List, [], ◌∷◌, ◌++◌, Option, Some, None, Bool, if◌then◌else◌}
use Rattle.std.specs.List.{list_any, list_all}
use Rattle.c_types.specs.declared.types.CType.TheVariants.{Void}
use Rattle.program.specs.declared.graph.Node.{Node}
use Rattle.program.specs.declared.graph.Function.{Function}
use Rattle.program.specs.declared.instructions.Instr.{Instr}
use Rattle.program.specs.declared.instructions.Instr.TheVariants.{Call, Return, Skip}
use Rattle.lone_run.specs.Analysis.{Analysis}
use Rattle.lone_run.specs.Points.{push_to, pushed, updated, next_state, settled, settled_at, least_pending, join_all, is_widening_point}
use Rattle.lone_run.specs.Lone.{Result, lone, run, turn, turns}

-- sets of nodes; nothing where no execution comes
abbrev State : Type 0
State = List ℕ

abbrev has : State → ℕ → Bool
has xs n = list_any (λ x. nat_eq x n) xs

abbrev with : State → State → State
with xs [] = xs
with xs (y ∷ ys) = with (if has xs y then xs else xs ++ y ∷ []) ys

abbrev behind : ℕ → State → State
behind n [] = []
behind n (x ∷ xs) = with (x ∷ xs) (n ∷ [])

abbrev size : State → ℕ
size [] = 0
size (x ∷ xs) = size xs + 1

abbrev passed : Analysis State
passed = record {
  bottom = [];
  is_bottom = λ xs. nat_eq (size xs) 0;
  join = with;
  widen = with;
  included = λ xs ys. list_all (λ x. has ys x) xs;
  along = λ f n xs. record { states = behind n xs ∷ behind n xs ∷ []; alarms = [] };
  enter = λ f n xs. record { state = xs; alarms = [] };
  leave = λ f n xs. record { state = xs; alarms = [] };
  initial = λ f. 100 ∷ [];
  finish = λ f xs. xs;
}

abbrev node : Instr → List ℕ → Node
node i es = record { instr = i; edges = es; place = record { name_at = 0; name_len = 0; line = 1 } }

abbrev graph : List Node → ℕ → Function
graph nodes exit = record { name = []; params = []; locals = []; inner = []; temps = []; hidden = []; result = Void; nodes = nodes; entry = 0; exit = exit }

abbrev turns_in : {slevel : ℕ} {fs : List Function} → Option (Result passed slevel fs) → Option ℕ
turns_in None = None
turns_in (Some r) = Some r.turns

-- if (..) { a; b; } else { c; d; } e; return;
abbrev branches : List Function
branches = graph (
    node (Skip None) (1 ∷ []) ∷ node (Skip None) (2 ∷ 4 ∷ []) ∷ node (Skip None) (3 ∷ []) ∷ node (Skip None) (6 ∷ []) ∷ node (Skip None) (5 ∷ []) ∷ node (Skip None) (6 ∷ [])
    ∷ node (Skip None) (7 ∷ []) ∷ node Return [] ∷ []) 7 ∷ []

branches_joined : turns_in (lone passed 0 branches 0 100) ≡ Some 8
unfolding lone run turns turn push_to pushed updated next_state settled settled_at least_pending join_all is_widening_point
branches_joined = refl

branches_apart : turns_in (lone passed 1 branches 0 100) ≡ Some 10
unfolding lone run turns turn push_to pushed updated next_state settled settled_at least_pending join_all is_widening_point
branches_apart = refl

branches_over : turns_in (lone passed 1 branches 0 9) ≡ None
unfolding lone run turns turn push_to pushed updated next_state settled settled_at least_pending join_all is_widening_point
branches_over = refl

-- a function that calls another: the callee's turns count
abbrev calling : List Function
calling = graph (node (Call None 1 []) (1 ∷ []) ∷ node (Skip None) (2 ∷ []) ∷ node Return [] ∷ []) 2 ∷ graph (node (Skip None) (1 ∷ []) ∷ node Return [] ∷ []) 1 ∷ []

calling_turns : turns_in (lone passed 0 calling 0 5) ≡ Some 5
unfolding lone run turns turn push_to pushed updated next_state settled settled_at least_pending join_all is_widening_point
calling_turns = refl

calling_over : turns_in (lone passed 0 calling 0 4) ≡ None
unfolding lone run turns turn push_to pushed updated next_state settled settled_at least_pending join_all is_widening_point
calling_over = refl
