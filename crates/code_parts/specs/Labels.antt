-- The numbers of the nodes of labels, in text order.
use Rattle.std.specs.Prelude.{ℕ, ◌+◌, List, [], ◌∷◌, ◌++◌}
use Rattle.code_parts.specs.declared.parts.Code.{Code, end_of-Part, more_of-Part, Row_of-Part}
use Rattle.code_parts.specs.declared.parts.Code.TheVariants.{Nothing, Parts'}
use Rattle.code_parts.specs.declared.parts.Part.{Part, end_of-Code, more_of-Code}
use Rattle.code_parts.specs.declared.parts.Part.TheVariants.{Node, Label, Jump, Branch', Loop', Forever', Do', Switch'}
use Rattle.code_parts.specs.declared.parts.Fork.{end_of-Fork, more_of-Fork}
use Rattle.code_parts.specs.Sizes.{code_size, fork_size, part_size}

unfoldable mutual
  pub code_labels : Code → ℕ → List ℕ
  code_labels Nothing at = []
  code_labels (Parts' n _ row) at = row_labels row at

  pub row_labels : {m : _} → Row_of-Part m → ℕ → List ℕ
  row_labels end_of-Part at = []
  row_labels (more_of-Part p rest) at = part_labels p at ++ row_labels rest (at + part_size p)

  -- expressions have none
  pub part_labels : Part → ℕ → List ℕ
  part_labels (Node place i) at = []
  part_labels (Label place) at = at ∷ []
  part_labels (Jump place c target) at = []
  part_labels (Branch' _ (more_of-Fork f end_of-Fork) _ (more_of-Code a end_of-Code) _ (more_of-Code b end_of-Code)) at =
      code_labels a (at + fork_size f) ++ code_labels b (at + fork_size f + code_size a)
  part_labels (Loop' place _ (more_of-Fork f end_of-Fork) _ (more_of-Code body end_of-Code) _ _) at = code_labels body (at + 1 + fork_size f)
  part_labels (Forever' place _ (more_of-Code body end_of-Code) _ _) at = code_labels body (at + 1)
  part_labels (Do' place _ (more_of-Code body end_of-Code) _ _) at = code_labels body (at + 1)
  part_labels (Switch' _ (more_of-Code c end_of-Code)) at = code_labels c at

abbrev pub list_labels : List Part → ℕ → List ℕ
list_labels [] at = []
list_labels (p ∷ ps) at = part_labels p at ++ list_labels ps (at + part_size p)
