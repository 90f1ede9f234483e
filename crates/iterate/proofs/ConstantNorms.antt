-- A definition that returns a constant expression stands for a function that the run takes.
use Rattle.std.proofs.Common.{◌≡◌, ℕ, ◌+◌, ◌<◌, ◌^◌, pos, List, [], ◌∷◌, length, Bool, true, false, if◌then◌else◌, Some, refl, subst, inl, inr, arith, lit<}
use Rattle.std.proofs.lemmas.Int.{ints}
use Rattle.std.specs.Prelude.{slice_get, zero, suc}
use Rattle.c_types.specs.declared.types.IntKind.TheVariants as kind
use Rattle.program.specs.declared.expressions.Expr.{Expr}
use Rattle.program.specs.declared.expressions.Expr.TheVariants.{Const}
use Rattle.program.specs.declared.graph.Place.{Place}
use Rattle.program.specs.declared.graph.Node.{Node}
use Rattle.program.specs.Numbers.{count_expr}
use Rattle.program.proofs.Equations.{count_expr_const}
use Rattle.normal_form.specs.declared.constant.Returning.{Returning}
use Rattle.normal_form.specs.ConstantNorm.{is_main, set_node, return_node, norm}
use Rattle.constant_meaning.specs.ConstantValue.{IsConstant}
use Rattle.constant_meaning.specs.ConstantExecution.{IsResultNode, IsResultFunction}
use Rattle.normal_form.proofs.ConstantEquations.{isconstant_const_is}

-- the nodes of main, and of another function
abbrev two_sets : Expr → Place → List Node
two_sets e place = set_node e 2 place ∷ set_node (Const kind.Int (pos 0)) 2 place ∷ return_node place ∷ []

abbrev one_set : Expr → Place → List Node
one_set e place = set_node e 1 place ∷ return_node place ∷ []

zero_constant : IsConstant (Const kind.Int (pos 0))
zero_constant = isconstant_const_is kind.Int (pos 0) (record { is_int = refl; above = omega (arith, ints); below = omega (arith, ints) })

zero_few : 1 + count_expr (Const kind.Int (pos 0)) < 2 ^ 32
zero_few = let h = count_expr_const kind.Int (pos 0) in omega (arith, h)

sets : (count n next : ℕ) (e : Expr) (place : Place) (node : Node) → IsConstant e → 1 + count_expr e < 2 ^ 32 → n < next → next < count →
    Some (set_node e next place) ≡ Some node → IsResultNode count n node
sets count n next e place node h few up within at =
    let p : set_node e next place ≡ node = cc in
    subst (IsResultNode count n) p
    (inl (e, record { next = next; sets = refl; constant = h; numbered = few; edge = refl; forward = up; within = within }))

exits : (count n : ℕ) (place : Place) (node : Node) → Some (return_node place) ≡ Some node → IsResultNode count n node
exits count n place node at =
    let p : return_node place ≡ node = cc in
    subst (IsResultNode count n) p (inr refl)

module _ (e : Expr) (place : Place) (h : IsConstant e) (few : 1 + count_expr e < 2 ^ 32) where
  main_nodes : (n : ℕ) (node : Node) → slice_get (two_sets e place) n ≡ Some node → IsResultNode 3 n node
  main_nodes zero node at = sets 3 0 2 e place node h few (lit< tt) (lit< tt) at
  main_nodes (suc zero) node at = sets 3 1 2 (Const kind.Int (pos 0)) place node zero_constant zero_few (lit< tt) (lit< tt) at
  main_nodes (suc (suc zero)) node at = exits 3 2 place node at
  main_nodes (suc (suc (suc n))) node at = cc

  other_nodes : (n : ℕ) (node : Node) → slice_get (one_set e place) n ≡ Some node → IsResultNode 2 n node
  other_nodes zero node at = sets 2 0 1 e place node h few (lit< tt) (lit< tt) at
  other_nodes (suc zero) node at = exits 2 1 place node at
  other_nodes (suc (suc n)) node at = cc

  both : (m : Bool) (n : ℕ) (node : Node) → slice_get (if m then two_sets e place else one_set e place) n ≡ Some node →
      IsResultNode (length (if m then two_sets e place else one_set e place)) n node
  both true n node at = main_nodes n node at
  both false n node at = other_nodes n node at

  begins : (m : Bool) → 0 < length (if m then two_sets e place else one_set e place)
  begins true = lit< tt
  begins false = lit< tt

pub norm_fits : (d : Returning) → IsConstant d.value → 1 + count_expr d.value < 2 ^ 32 → IsResultFunction (norm d)
norm_fits d h few = record { begins = begins d.value d.place h few (is_main d.name); nodes = both d.value d.place h few (is_main d.name) }
