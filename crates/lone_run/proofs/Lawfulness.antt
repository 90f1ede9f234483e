-- What the runs ask of graphs holds of every lawful program.
use Rattle.std.proofs.Common.{◌≡◌, ℕ, zero, suc, ◌<◌, subst, List, [], ◌∷◌, length, Option, Some, None, slice_get, slice_index_or, MatchOption}
use Rattle.program.specs.declared.graph.Node.{Node}
use Rattle.program.specs.declared.graph.Function.{Function}
use Rattle.program.specs.declared.graph.Program.{Program}
use Rattle.program.specs.declared.instructions.Instr.{Instr}
use Rattle.program.specs.declared.instructions.Instr.TheVariants.{Call}
use Rattle.program.specs.Typing.{IsTyped}
use Rattle.program.specs.Lawful.{Lawful, LawfulFunction, LawfulNode, callee_of}
use Rattle.lone_run.specs.Soundness.{IsNode, HasGoodEdges}
use Rattle.lone_run.specs.Bounds.{CallsEnd}
use Rattle.lone_run.proofs.Pushes.{within_of}

get_or_is : {X : Type 0} (xs : List X) (i : ℕ) (d x : X) → slice_get xs i ≡ Some x → slice_index_or xs i d ≡ x
get_or_is [] i d x e = cc
get_or_is (y ∷ ys) zero d x e = cc
get_or_is (y ∷ ys) (suc i) d x e = get_or_is ys i d x e

module _ (p : Program) (L : Lawful p) where
  function_is : (f n : ℕ) (function : Function) (node : Node) → IsNode p.functions f n function node → LawfulFunction p L.height f function
  function_is f n function node i = L.functions f function i.function_at

  node_is : (f n : ℕ) (function : Function) (node : Node) → IsNode p.functions f n function node → LawfulNode p function n node
  node_is f n function node i = (function_is f n function node i).nodes n node i.node_at

  pub lawful_edges : HasGoodEdges p.functions
  lawful_edges = record {
    edges = λ f n function node k t i e. subst (λ m. m < length function.nodes) (get_or_is node.edges k 0 t e) ((node_is f n function node i).targets k 0 (within_of node.edges k t e));
    entry = λ f function e. (L.functions f function e).entry;
    exit = λ f n function node i r. (node_is f n function node i).returns r;
  }

  lower : (h : ℕ) (o : Option ℕ) (g : ℕ) → o ≡ Some g → MatchOption o (Unit {0}) (λ callee. L.height callee < h) → L.height g < h
  lower h None g e m = cc
  lower h (Some c) g e m = let q : c ≡ g = cc in subst (λ y. L.height y < h) q m

  defined : (f : Function) (i : Instr) (g : ℕ) → IsTyped p f i → callee_of i ≡ Some g → (callee : Function) × (slice_get p.functions g ≡ Some callee)
  defined f (Call to c args) g t e = let q : c ≡ g = cc in (t.called, subst (λ y. slice_get p.functions y ≡ Some t.called) q t.is_defined)
  defined f _ g t e = cc

  pub lawful_calls : CallsEnd p.functions L.height
  lawful_calls = record {
    lower = λ f n g function node i e. lower (L.height f) (callee_of node.instr) g e ((function_is f n function node i).calls n node i.node_at);
    defined = λ f n g function node i e. defined function node.instr g (node_is f n function node i).typed e;
  }
