-- What single constructs emit behind their operands.
use Rattle.std.specs.Prelude.{ℕ, ◌+◌, pos, false, if◌then◌else◌, List, [], ◌∷◌, ◌++◌, Option, Some, None, slice_get}
use Rattle.c_types.specs.declared.types.IntKind.{IntKind}
use Rattle.c_types.specs.declared.types.IntKind.TheVariants as kind
use Rattle.c_types.specs.declared.types.StructId.{StructId}
use Rattle.c_types.specs.declared.types.CType.{CType}
use Rattle.c_types.specs.declared.types.CType.TheVariants as ctype
use Rattle.program.specs.declared.expressions.Expr.{Expr}
use Rattle.program.specs.declared.expressions.Expr.TheVariants as expr
use Rattle.program.specs.declared.expressions.LVal.{LVal}
use Rattle.program.specs.declared.expressions.LVal.TheVariants as lval
use Rattle.program.specs.declared.instructions.What.TheVariants as what
use Rattle.program.specs.declared.instructions.Instr.{Instr}
use Rattle.program.specs.declared.instructions.Instr.TheVariants as instr
use Rattle.program.specs.declared.graph.Place.{Place}
use Rattle.code_parts.specs.declared.parts.Part.{Part}
use Rattle.code_parts.specs.declared.parts.Part.TheVariants as part
use Rattle.code_parts.specs.declared.parts.Fork.{Fork}
use Rattle.code_parts.specs.Sizes.{sized}
use Rattle.typed_tree.specs.declared.expressions.Access.{Access}
use Rattle.typed_tree.specs.declared.expressions.Access.TheVariants.{Plain, Volatile}
use Rattle.typed_tree.specs.declared.expressions.Target.{Target}
use Rattle.typed_tree.specs.declared.expressions.Operation.{Operation}
use Rattle.typed_tree.specs.declared.expressions.Callee.{Callee}
use Rattle.typed_tree.specs.declared.expressions.Callee.TheVariants.{Defined, External}
use Rattle.temporary_code.specs.declared.outcomes.Valued.{Valued}
use Rattle.temporary_code.specs.declared.outcomes.Placed.{Placed}
use Rattle.temporary_code.specs.declared.outcomes.Listed.{Listed}
use Rattle.temporary_code.specs.declared.outcomes.Forked.{Forked}
use Rattle.temporary_code.specs.Temporaries.{next_base, taking}

abbrev pub number_or_zero : Option ℕ → ℕ
number_or_zero (Some b) = b
number_or_zero None = 0

-- `names` has the base of each object
abbrev pub base_of : List ℕ → ℕ → ℕ
base_of names n = number_or_zero (slice_get names n)

abbrev pub int : CType
int = ctype.Int kind.Int false

-- what stands in a temporary
abbrev pub kept : ℕ → CType → Expr
kept base ty = expr.Load (lval.Var base) ty

abbrev pub set : Place → LVal → Expr → Part
set place l e = part.Node place (instr.Set l e)

abbrev pub copy : Place → LVal → LVal → Part
copy place to from = part.Node place (instr.Copy to from)

abbrev pub set_temp : Place → ℕ → Expr → Part
set_temp place base e = set place (lval.Var base) e

abbrev pub one : Part → List Part
one p = p ∷ []

-- what happens where a condition holds, and what happens where it doesn't
abbrev pub branching : Fork → List Part → List Part → List Part
branching c on off = one (part.Branch c (sized on) (sized off))

-- ---- reads

-- the type of the value that is read
abbrev pub type_read : Access → CType
type_read (Plain ty) = ty
type_read (Volatile k) = ctype.Int k false

-- 5.1.2.3p2: the read of a volatile object is a side effect, whose number a temporary takes
abbrev pub volatile_read : Place → ℕ → LVal → IntKind → Part
volatile_read place base l k = part.Node place (instr.External (Some base) (what.Volatile l k))

unfoldable pub reading : Place → Placed → Access → Valued
reading place p (Plain ty) = record { parts = p.parts; value = expr.Load p.place ty; temps = p.temps }
reading place p (Volatile k) =
    let ty = ctype.Int k false in
    record { parts = p.parts ++ one (volatile_read place (next_base p.temps ty) p.place k); value = kept (next_base p.temps ty) ty; temps = taking p.temps ty }

-- ---- assignments

abbrev pub cast_to : Option CType → Expr → Expr
cast_to (Some ty) e = expr.Cast ty e
cast_to None e = e

-- 6.5.16.2p3: what a compound assignment computes from the old value and its right operand
unfoldable pub computed : Operation → Expr → Expr → Expr
computed o old right = cast_to o.back (expr.Binary o.op (cast_to o.left old) right)

-- 6.5.16p3: of a bit-field the temporary then takes what stands in it
abbrev pub read_back : Place → ℕ → LVal → Access → Part
read_back place base l (Plain ty) = set_temp place base (expr.Load l ty)
read_back place base l (Volatile k) = volatile_read place base l k

abbrev pub stored : Place → ℕ → LVal → Target → Expr → List Part
stored place base l target e =
    set_temp place base e ∷ set place l (kept base (type_read target.access))
    ∷ (if target.is_bit_field then one (read_back place base l target.access) else [])

-- an assignment whose value is used, behind the side effects of its left operand: the value is kept in a temporary, and
-- assigned from there
unfoldable pub assigned : Place → List Part → LVal → Target → Valued → Valued
assigned place before l target r =
    let ty = type_read target.access in
    record {
      parts = before ++ (r.parts ++ stored place (next_base r.temps ty) l target r.value);
      value = kept (next_base r.temps ty) ty;
      temps = taking r.temps ty;
    }

-- the right operand of a compound assignment, with what is computed in place of its value
abbrev pub updated : Operation → Expr → Valued → Valued
updated o old r = record { parts = r.parts; value = computed o old r.value; temps = r.temps }

-- 6.5.2.4p2: the value is the old one, which a temporary has taken before the right operand
unfoldable pub post_updated : Place → List Part → Expr → LVal → ℕ → CType → Operation → Valued → Valued
post_updated place before old l base ty o r = record {
  parts = before ++ (set_temp place base old ∷ (r.parts ++ one (set place l (computed o (kept base ty) r.value))));
  value = kept base ty;
  temps = r.temps;
}

-- 6.5.16.1 on structs: the source stands in a temporary, and is copied from there
unfoldable pub struct_assigned : Place → List Part → LVal → StructId → Placed → Placed
struct_assigned place before to id from =
    let base = next_base from.temps (ctype.Struct id) in
    record {
      parts = before ++ (from.parts ++ (copy place (lval.Var base) from.place ∷ copy place to (lval.Var base) ∷ []));
      place = lval.Var base;
      temps = taking from.temps (ctype.Struct id);
    }

-- ---- branches with a value

-- 6.5.13p3, 6.5.14p3: a temporary takes 1 or 0
unfoldable pub truth : Place → Forked → Valued
truth place c =
    let base = next_base c.temps int in
    record {
      parts = branching c.fork (one (set_temp place base (expr.Const kind.Int (pos 1)))) (one (set_temp place base (expr.Const kind.Int (pos 0))));
      value = kept base int;
      temps = taking c.temps int;
    }

-- 6.5.15p4: a temporary takes the one value or the other
unfoldable pub chosen : Place → CType → ℕ → Fork → List Part → Expr → Valued → Valued
chosen place ty base c first a second = record {
  parts = branching c (first ++ one (set_temp place base a)) (second.parts ++ one (set_temp place base second.value));
  value = kept base ty;
  temps = second.temps;
}

unfoldable pub struct_chosen : Place → ℕ → Fork → List Part → LVal → Placed → Placed
struct_chosen place base c first a second = record {
  parts = branching c (first ++ one (copy place (lval.Var base) a)) (second.parts ++ one (copy place (lval.Var base) second.place));
  place = lval.Var base;
  temps = second.temps;
}

-- ---- calls

-- 6.5.2.2; the base of the result, where that is wanted
abbrev pub called : Option ℕ → Callee → List Expr → Instr
called to (Defined f) args = instr.Call to f args
called to (External k) args = instr.External to (what.Function args k)

unfoldable pub call_of : Place → CType → Callee → Listed → Valued
call_of place ty callee args =
    let base = next_base args.temps ty in
    record {
      parts = args.parts ++ one (part.Node place (called (Some base) callee args.values));
      value = kept base ty;
      temps = taking args.temps ty;
    }

unfoldable pub interval_of : Place → List Part → Expr → Valued → Valued
interval_of place before low high =
    let base = next_base high.temps int in
    record {
      parts = before ++ (high.parts ++ one (part.Node place (instr.External (Some base) (what.Interval low high.value))));
      value = kept base int;
      temps = taking high.temps int;
    }
