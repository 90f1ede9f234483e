-- The nodes of code: the first has the number `at`, and those of each part stand behind those of the part before.
use Rattle.std.specs.Prelude.{ℕ, zero, suc, ◌+◌, if◌then◌else◌, List, [], ◌∷◌, ◌++◌, Option, Some, None, slice_get}
use Rattle.program.specs.declared.expressions.Expr.{Expr}
use Rattle.program.specs.declared.instructions.Instr.{Instr}
use Rattle.program.specs.declared.instructions.Instr.TheVariants as instr
use Rattle.program.specs.declared.graph.Place.{Place}
use Rattle.program.specs.declared.graph.Node.{Node}
use Rattle.code_parts.specs.declared.parts.Crossing.{Crossing}
use Rattle.code_parts.specs.declared.parts.Target.{Target}
use Rattle.code_parts.specs.declared.parts.Target.TheVariants as target
use Rattle.code_parts.specs.declared.parts.Code.{Code, end_of-Part, more_of-Part, Row_of-Part}
use Rattle.code_parts.specs.declared.parts.Code.TheVariants.{Nothing, Parts'}
use Rattle.code_parts.specs.declared.parts.Part.{Part, end_of-Code, more_of-Code}
use Rattle.code_parts.specs.declared.parts.Part.TheVariants.{Label, Jump, Branch', Loop', Forever', Do', Switch'}
use Rattle.code_parts.specs.declared.parts.Part.TheVariants as part
use Rattle.code_parts.specs.declared.parts.Fork.{Fork, end_of-Fork, more_of-Fork}
use Rattle.code_parts.specs.declared.parts.Fork.TheVariants.{Test', Not', And', Or'}
use Rattle.code_parts.specs.declared.nodes.Ends.{Ends}
use Rattle.code_parts.specs.Sizes.{one_if, has_any, crossing_size, code_size, fork_size, part_size}

-- ---- where code goes on

abbrev pub going_on : Ends → ℕ → Ends
going_on ends to = record { next = to; breaks = ends.breaks; continues = ends.continues; exit = ends.exit }

-- in the body of a loop, behind which control goes on there
abbrev pub looping : Ends → ℕ → Ends
looping ends to = record { next = to; breaks = ends.next; continues = to; exit = ends.exit }

abbrev pub switching : Ends → Ends
switching ends = record { next = ends.next; breaks = ends.next; continues = ends.continues; exit = ends.exit }

-- all at one node: of an expression, which has no jump, and of a function's body, at its end
abbrev pub guarding : ℕ → Ends
guarding to = record { next = to; breaks = to; continues = to; exit = to }

-- ---- where control goes that comes to code

-- to its first node, and where it has none, elsewhere
abbrev pub entry : ℕ → ℕ → ℕ → ℕ
entry zero at other = other
entry (suc n) at other = at

abbrev pub number_or_zero : Option ℕ → ℕ
number_or_zero (Some n) = n
number_or_zero None = 0

-- `labels` has the node of each label
abbrev pub target_node : List ℕ → Ends → Target → ℕ
target_node labels ends (target.Label n) = number_or_zero (slice_get labels n)
target_node labels ends target.Break = ends.breaks
target_node labels ends target.Continue = ends.continues
target_node labels ends target.Exit = ends.exit

-- a jump without nodes leads to its target at once
unfoldable pub part_entry : List ℕ → Part → ℕ → Ends → ℕ
part_entry labels (part.Node place i) at ends = at
part_entry labels (Label place) at ends = at
part_entry labels (Jump place c target) at ends = entry (crossing_size c) at (target_node labels ends target)
part_entry labels (Branch' _ _ _ _ _ _) at ends = at
part_entry labels (Loop' place _ _ _ _ _ _) at ends = at
part_entry labels (Forever' place _ _ _ _) at ends = at
part_entry labels (Do' place _ _ _ _) at ends = at
part_entry labels (Switch' _ _) at ends = at

abbrev pub row_entry : {m : _} → List ℕ → Row_of-Part m → ℕ → Ends → ℕ
row_entry labels end_of-Part at ends = ends.next
row_entry labels (more_of-Part p rest) at ends = part_entry labels p at ends

abbrev pub list_entry : List ℕ → List Part → ℕ → Ends → ℕ
list_entry labels [] at ends = ends.next
list_entry labels (p ∷ ps) at ends = part_entry labels p at ends

-- where control goes on behind the first of some parts
abbrev pub then_entry : List ℕ → List Part → ℕ → Ends → Ends
then_entry labels ps at ends = going_on ends (list_entry labels ps at ends)

unfoldable pub code_entry : List ℕ → Code → ℕ → Ends → ℕ
code_entry labels Nothing at ends = ends.next
code_entry labels (Parts' n _ row) at ends = row_entry labels row at ends

-- ---- nodes

-- one with one edge, and a Guard with its two
abbrev pub node_to : Place → Instr → ℕ → List Node
node_to place i to = record { instr = i; edges = to ∷ []; place = place } ∷ []

abbrev pub guard_to : Place → Expr → ℕ → ℕ → List Node
guard_to place e on off = record { instr = instr.Guard e; edges = on ∷ off ∷ []; place = place } ∷ []

-- one Leave of all that a jump leaves, then one Enter of all that it enters
abbrev pub leave_nodes : Place → Crossing → ℕ → ℕ → List Node
leave_nodes place c at to = if has_any c.left then node_to place (instr.Leave c.left) (entry (one_if (has_any c.entered)) (at + 1) to) else []

abbrev pub enter_nodes : Place → Crossing → ℕ → List Node
enter_nodes place c to = if has_any c.entered then node_to place (instr.Enter c.entered) to else []

abbrev pub skip_to : Place → ℕ → List Node
skip_to place to = node_to place (instr.Skip None) to

unfoldable mutual
  pub code_nodes : List ℕ → Code → ℕ → Ends → List Node
  code_nodes labels Nothing at ends = []
  code_nodes labels (Parts' n _ row) at ends = row_nodes labels row at ends

  pub row_nodes : {m : _} → List ℕ → Row_of-Part m → ℕ → Ends → List Node
  row_nodes labels end_of-Part at ends = []
  row_nodes labels (more_of-Part p rest) at ends =
      part_nodes labels p at (going_on ends (row_entry labels rest (at + part_size p) ends)) ++ row_nodes labels rest (at + part_size p) ends

  pub part_nodes : List ℕ → Part → ℕ → Ends → List Node
  part_nodes labels (part.Node place i) at ends = node_to place i ends.next
  part_nodes labels (Label place) at ends = skip_to place ends.next
  part_nodes labels (Jump place c target) at ends =
      leave_nodes place c at (target_node labels ends target) ++ enter_nodes place c (target_node labels ends target)
  part_nodes labels (Branch' _ (more_of-Fork f end_of-Fork) _ (more_of-Code a end_of-Code) _ (more_of-Code b end_of-Code)) at ends =
      let first = at + fork_size f in
      let second = first + code_size a in
      fork_nodes labels f at (code_entry labels a first ends) (code_entry labels b second ends)
      ++ (code_nodes labels a first ends ++ code_nodes labels b second ends)
  part_nodes labels (Loop' place _ (more_of-Fork f end_of-Fork) _ (more_of-Code body end_of-Code) _ (more_of-Code last end_of-Code)) at ends =
      let first = at + 1 + fork_size f in
      let second = first + code_size body in
      let again = code_entry labels last second (going_on ends at) in
      skip_to place (at + 1)
      ++ (fork_nodes labels f (at + 1) (code_entry labels body first (looping ends again)) ends.next
      ++ (code_nodes labels body first (looping ends again) ++ code_nodes labels last second (going_on ends at)))
  part_nodes labels (Forever' place _ (more_of-Code body end_of-Code) _ (more_of-Code last end_of-Code)) at ends =
      let first = at + 1 in
      let second = first + code_size body in
      let again = code_entry labels last second (going_on ends at) in
      skip_to place (code_entry labels body first (looping ends again))
      ++ (code_nodes labels body first (looping ends again) ++ code_nodes labels last second (going_on ends at))
  part_nodes labels (Do' place _ (more_of-Code body end_of-Code) _ (more_of-Fork f end_of-Fork)) at ends =
      let first = at + 1 in
      let second = first + code_size body in
      skip_to place (code_entry labels body first (looping ends second))
      ++ (code_nodes labels body first (looping ends second) ++ fork_nodes labels f second at ends.next)
  part_nodes labels (Switch' _ (more_of-Code c end_of-Code)) at ends = code_nodes labels c at (switching ends)

  -- a condition, from which control goes to `on` or `off`
  pub fork_nodes : List ℕ → Fork → ℕ → ℕ → ℕ → List Node
  fork_nodes labels (Test' _ (more_of-Code c end_of-Code) place e) at on off =
      code_nodes labels c at (guarding (at + code_size c)) ++ guard_to place e on off
  fork_nodes labels (Not' _ (more_of-Fork a end_of-Fork)) at on off = fork_nodes labels a at off on
  fork_nodes labels (And' n _ (more_of-Fork a end_of-Fork) _ (more_of-Fork b end_of-Fork)) at on off =
      let second = at + fork_size a in
      fork_nodes labels a at second off ++ fork_nodes labels b second on off
  fork_nodes labels (Or' n _ (more_of-Fork a end_of-Fork) _ (more_of-Fork b end_of-Fork)) at on off =
      let second = at + fork_size a in
      fork_nodes labels a at on second ++ fork_nodes labels b second on off

abbrev pub list_nodes : List ℕ → List Part → ℕ → Ends → List Node
list_nodes labels [] at ends = []
list_nodes labels (p ∷ ps) at ends =
    part_nodes labels p at (then_entry labels ps (at + part_size p) ends) ++ list_nodes labels ps (at + part_size p) ends
