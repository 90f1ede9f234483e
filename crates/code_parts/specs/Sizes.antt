-- How many nodes code has.
use Rattle.std.specs.Prelude.{ℕ, ◌+◌, Bool, true, false, List, [], ◌∷◌}
use Rattle.code_parts.specs.declared.parts.Crossing.{Crossing}
use Rattle.code_parts.specs.declared.parts.Code.{Code}
use Rattle.code_parts.specs.declared.parts.Code.TheVariants.{Nothing, Parts, Parts'}
use Rattle.code_parts.specs.declared.parts.Part.{Part, end_of-Code, more_of-Code}
use Rattle.code_parts.specs.declared.parts.Part.TheVariants.{Node, Label, Jump, Branch', Loop', Forever', Do', Switch'}
use Rattle.code_parts.specs.declared.parts.Fork.{Fork, end_of-Fork, more_of-Fork}
use Rattle.code_parts.specs.declared.parts.Fork.TheVariants.{Test', Not', And', Or'}
use Rattle.code_parts.specs.declared.parts.Fork.TheVariants as fork

abbrev pub one_if : Bool → ℕ
one_if true = 1
one_if false = 0

abbrev pub has_any : List ℕ → Bool
has_any [] = false
has_any (b ∷ bs) = true

-- one Leave and one Enter, each where there is one
abbrev pub crossing_size : Crossing → ℕ
crossing_size c = one_if (has_any c.left) + one_if (has_any c.entered)

unfoldable pub code_size : Code → ℕ
code_size Nothing = 0
code_size (Parts' n _ _) = n

unfoldable pub fork_size : Fork → ℕ
fork_size (Test' _ (more_of-Code c end_of-Code) place e) = code_size c + 1
fork_size (Not' _ (more_of-Fork a end_of-Fork)) = fork_size a
fork_size (And' n _ _ _ _) = n
fork_size (Or' n _ _ _ _) = n

unfoldable pub part_size : Part → ℕ
part_size (Node place i) = 1
part_size (Label place) = 1
part_size (Jump place c target) = crossing_size c
part_size (Branch' _ (more_of-Fork f end_of-Fork) _ (more_of-Code a end_of-Code) _ (more_of-Code b end_of-Code)) = fork_size f + code_size a + code_size b
part_size (Loop' place _ (more_of-Fork f end_of-Fork) _ (more_of-Code body end_of-Code) _ (more_of-Code last end_of-Code)) = 1 + fork_size f + code_size body + code_size last
part_size (Forever' place _ (more_of-Code body end_of-Code) _ (more_of-Code last end_of-Code)) = 1 + code_size body + code_size last
part_size (Do' place _ (more_of-Code body end_of-Code) _ (more_of-Fork f end_of-Fork)) = 1 + code_size body + fork_size f
part_size (Switch' _ (more_of-Code c end_of-Code)) = code_size c

abbrev pub list_size : List Part → ℕ
list_size [] = 0
list_size (p ∷ ps) = part_size p + list_size ps

-- ---- code that knows its size

abbrev pub sized : List Part → Code
sized ps = Parts (list_size ps) ps

abbrev pub both : Fork → Fork → Fork
both a b = fork.And (fork_size a + fork_size b) a b

abbrev pub either : Fork → Fork → Fork
either a b = fork.Or (fork_size a + fork_size b) a b
