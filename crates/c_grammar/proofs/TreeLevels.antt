-- Trees over a relation below that is met from some level on are trees from some level on.
use Rattle.std.proofs.Common.{◌≡◌, ℕ, zero, suc, ◌+◌, ◌-◌, ◌≤◌, max, arith, subst, le_refl, Bool, List, Option}
use Rattle.c_tree.specs.declared.tree.Ex.{Ex}
use Rattle.c_tree.specs.declared.tree.Spec.{Spec}
use Rattle.c_tree.specs.declared.tree.Param.{Param}
use Rattle.c_tree.specs.declared.tree.MemberLine.{MemberLine}
use Rattle.c_tree.specs.declared.tree.MemberPart.{MemberPart}
use Rattle.c_tree.specs.declared.tree.Enumerator.{Enumerator}
use Rattle.c_expressions.specs.declared.grown.Mode.{Mode}
use Rattle.c_input.specs.declared.word.Sign.{Sign}
use Rattle.c_input.specs.declared.word.Place.{Place as State}
use Rattle.c_input.specs.Input.{Words}
use Rattle.c_grammar.specs.Below.{Below, Declared}
use Rattle.c_grammar.specs.SpecifierTrees as spc
use Rattle.c_grammar.specs.SpecifierTrees.{Tag, Lines, EnumeratorIs, Enumerators, SpecifierIs, SpecifiersAre, SomeSpecifiers, MemberIs, Members, LineIs}
use Rattle.c_grammar.specs.DeclaratorTrees as dcl
use Rattle.c_grammar.specs.DeclaratorTrees.{Qualifiers, TypeName, ParameterIs, Parameters, Listed, Length, DeclaratorIs}
use Rattle.c_grammar.specs.ExpressionTrees as exp
use Rattle.c_grammar.specs.ExpressionTrees.{Strings, Arguments, ExpressionIs}
use Rattle.c_grammar.specs.LevelTrees.{Within, Derived}

-- from some level on
abbrev pub From : (ℕ → Type 0) → Type 0
From P = (n : ℕ) × ((m : ℕ) → n ≤ m → P m)

always : (P : ℕ → Type 0) → ((m : ℕ) → P m) → From P
always P f = (0, λ m le. f m)

from_one : (P Q : ℕ → Type 0) → ((m : ℕ) → P m → Q m) → From P → From Q
from_one P Q f p = (p.0, λ m le. f m (p.1 m le))

from_two : (P Q R : ℕ → Type 0) → ((m : ℕ) → P m → Q m → R m) → From P → From Q → From R
from_two P Q R f p q = (max p.0 q.0, λ m le. f m (p.1 m (omega arith)) (q.1 m (omega arith)))

from_three : (P Q R S : ℕ → Type 0) → ((m : ℕ) → P m → Q m → R m → S m) → From P → From Q → From R → From S
from_three P Q R S f p q r = (max p.0 (max q.0 r.0), λ m le. f m (p.1 m (omega arith)) (q.1 m (omega arith)) (r.1 m (omega arith)))

pub record Meets (B : Below) (F : ℕ → Below) : Type 0 where
  pub expr : (r l : ℕ) (x : Ex) (s t : State) → B.expr r l x s t → From (λ m. (F m).expr r l x s t)
  pub declarator : (r : ℕ) (k : Mode) (x : Declared) (s t : State) → B.declarator r k x s t → From (λ m. (F m).declarator r k x s t)
  pub line : (r : ℕ) (x : MemberLine) (s t : State) → B.line r x s t → From (λ m. (F m).line r x s t)

module _ (h : ℕ) (W : Words) (B : Below) (F : ℕ → Below) (below : Meets B F) where
  tag : (x : Option ℕ) (s t : State) → Tag h W B x s t → (m : ℕ) → Tag h W (F m) x s t
  tag x s t (spc.no_tag _ e) m = spc.no_tag _ e
  tag x s t (spc.tag _ e) m = spc.tag _ e

  lines : (r : ℕ) (xs : List MemberLine) (s t : State) → Lines h W B r xs s t → From (λ m. Lines h W (F m) r xs s t)
  lines r xs s t (spc.last_line x _ _ a) = from_one _ _ (λ m a. spc.last_line x s t a) (below.line r x s t a)
  lines r xs s t (spc.line_and_more x rest _ u _ a b) = from_two _ _ _ (λ m a b. spc.line_and_more x rest s u t a b) (below.line r x s u a) (lines r rest u t b)

  enumerator : (r : ℕ) (x : Enumerator) (s t : State) → EnumeratorIs h W B r x s t → From (λ m. EnumeratorIs h W (F m) r x s t)
  enumerator r x s t (spc.enumeration_constant _ e) = always _ (λ m. spc.enumeration_constant s e)
  enumerator r x s t (spc.with_value v _ u e f a) = from_one _ _ (λ m a. spc.with_value v s u e f a) (below.expr _ _ v _ u a)

  enumerators : (r : ℕ) (xs : List Enumerator) (s t : State) → Enumerators h W B r xs s t → From (λ m. Enumerators h W (F m) r xs s t)
  enumerators r xs s t (spc.last_enumerator x _ _ a) = from_one _ _ (λ m a. spc.last_enumerator x s t a) (enumerator r x s t a)
  enumerators r xs s t (spc.last_and_comma x _ u a e) = from_one _ _ (λ m a. spc.last_and_comma x s u a e) (enumerator r x s u a)
  enumerators r xs s t (spc.enumerator_and_more x rest _ u _ a e b) = from_two _ _ _ (λ m a b. spc.enumerator_and_more x rest s u t a e b) (enumerator r x s u a) (enumerators r rest _ t b)

  specifier : (r : ℕ) (x : Spec) (s t : State) → SpecifierIs h W B r x s t → From (λ m. SpecifierIs h W (F m) r x s t)
  specifier r x s t (spc.spec_word _ e) = always _ (λ m. spc.spec_word s e)
  specifier r x s t (spc.typedef_name _ e) = always _ (λ m. spc.typedef_name s e)
  specifier r x s t (spc.struct_ name xs _ u v e a f b g) = from_one _ _ (λ m b. spc.struct_ name xs s u v e (tag _ _ _ a m) f b g) (lines r xs _ v b)
  specifier r x s t (spc.struct_tag _ e f) = always _ (λ m. spc.struct_tag s e f)
  specifier r x s t (spc.enum_ name xs _ u v e a f b g) = from_one _ _ (λ m b. spc.enum_ name xs s u v e (tag _ _ _ a m) f b g) (enumerators r xs _ v b)
  specifier r x s t (spc.enum_tag _ e f) = always _ (λ m. spc.enum_tag s e f)

  specifiers : (more : Bool → Sign → Bool) (r : ℕ) (typed : Bool) (xs : List Spec) (p q : Bool) (s t : State) → SpecifiersAre h W B more r typed xs p q s t →
      From (λ m. SpecifiersAre h W (F m) more r typed xs p q s t)
  specifiers more r typed xs p q s t (spc.no_specifier _ _ e) = always _ (λ m. spc.no_specifier typed s e)
  specifiers more r typed xs p q s t (spc.specifier _ x rest p' q' _ u _ e a b) = from_two _ _ _ (λ m a b. spc.specifier typed x rest p' q' s u t e a b)
      (specifier r x s u a) (specifiers more r _ rest p' q' u t b)

  pub some : (more : Bool → Sign → Bool) (r : ℕ) (xs : List Spec) (p q : Bool) (s t : State) → SomeSpecifiers h W B more r xs p q s t →
      From (λ m. SomeSpecifiers h W (F m) more r xs p q s t)
  some more r xs p q s t (spc.some_specifiers _ _ _ _ _ e a) = from_one _ _ (λ m a. spc.some_specifiers xs p q s t e a) (specifiers more r _ xs p q s t a)

  member : (r : ℕ) (x : MemberPart) (s t : State) → MemberIs h W B r x s t → From (λ m. MemberIs h W (F m) r x s t)
  member r x s t (spc.member d _ _ a) = from_one _ _ (λ m a. spc.member d s t a) (below.declarator r _ d s t a)
  member r x s t (spc.bit_field d y _ u _ a e b) = from_two _ _ _ (λ m a b. spc.bit_field d y s u t a e b) (below.declarator r _ d s u a) (below.expr r _ y _ t b)
  member r x s t (spc.nameless_bit_field y _ _ room e a) = from_one _ _ (λ m a. spc.nameless_bit_field y s t room e a) (below.expr r _ y _ t a)

  members : (r : ℕ) (xs : List MemberPart) (s t : State) → Members h W B r xs s t → From (λ m. Members h W (F m) r xs s t)
  members r xs s t (spc.last_member x _ _ a) = from_one _ _ (λ m a. spc.last_member x s t a) (member r x s t a)
  members r xs s t (spc.member_and_more x rest _ u _ a e b) = from_two _ _ _ (λ m a b. spc.member_and_more x rest s u t a e b) (member r x s u a) (members r rest _ t b)

  pub line : (r : ℕ) (x : MemberLine) (s t : State) → LineIs h W B r x s t → From (λ m. LineIs h W (F m) r x s t)
  line r x s t (spc.members all p q parts _ u v room a b e) = from_two _ _ _ (λ m a b. spc.members all p q parts s u v room a b e) (some _ _ all p q s u a) (members _ parts u v b)
  line r x s t (spc.no_members all p q _ u room a e) = from_one _ _ (λ m a. spc.no_members all p q s u room a e) (some _ _ all p q s u a)

  qualifiers : (xs : List ℕ) (s t : State) → Qualifiers h W B xs s t → (m : ℕ) → Qualifiers h W (F m) xs s t
  qualifiers xs s t (dcl.no_qualifier _) m = dcl.no_qualifier s
  qualifiers xs s t (dcl.qualifier rest _ _ e a) m = dcl.qualifier rest s t e (qualifiers rest _ t a m)

  type_name : (r : ℕ) (x : Param) (s t : State) → TypeName h W B r x s t → From (λ m. TypeName h W (F m) r x s t)
  type_name r x s t (dcl.type_name all p q y _ u _ a b) = from_two _ _ _ (λ m a b. dcl.type_name all p q y s u t a b) (some _ r all p q s u a) (below.declarator r _ y u t b)

  parameter : (r : ℕ) (x : Param) (s t : State) → ParameterIs h W B r x s t → From (λ m. ParameterIs h W (F m) r x s t)
  parameter r x s t (dcl.parameter all p q y _ u v a b) = from_two _ _ _ (λ m a b. dcl.parameter all p q y s u v a b) (some _ r all p q s u a) (below.declarator r _ y u v b)

  parameters : (r : ℕ) (xs : List Param) (dots : Bool) (s t : State) → Parameters h W B r xs dots s t → From (λ m. Parameters h W (F m) r xs dots s t)
  parameters r xs dots s t (dcl.last_parameter x _ _ a) = from_one _ _ (λ m a. dcl.last_parameter x s t a) (parameter r x s t a)
  parameters r xs dots s t (dcl.and_dots x _ u a e f) = from_one _ _ (λ m a. dcl.and_dots x s u a e f) (parameter r x s u a)
  parameters r xs dots s t (dcl.parameter_and_more x rest _ _ u _ a e b) = from_two _ _ _ (λ m a b. dcl.parameter_and_more x rest dots s u t a e b) (parameter r x s u a) (parameters r rest dots _ t b)

  listed : (r : ℕ) (xs : List Param) (dots : Bool) (s t : State) → Listed h W B r xs dots s t → From (λ m. Listed h W (F m) r xs dots s t)
  listed r xs dots s t (dcl.no_parameters _ e) = always _ (λ m. dcl.no_parameters s e)
  listed r xs dots s t (dcl.parameters _ _ _ _ a) = from_one _ _ (λ m a. dcl.parameters xs dots s t a) (parameters r xs dots s t a)

  length_of : (r : ℕ) (xs : List ℕ) (x : Option Ex) (s t : State) → Length h W B r xs x s t → From (λ m. Length h W (F m) r xs x s t)
  length_of r xs x s t (dcl.no_length _ _ _ a) = always _ (λ m. dcl.no_length xs s t (qualifiers xs s t a m))
  length_of r xs x s t (dcl.length_ _ y _ u _ a b) = from_one _ _ (λ m b. dcl.length_ xs y s u t (qualifiers xs s u a m) b) (below.expr r _ y u t b)
  length_of r xs x s t (dcl.static_first words y _ u _ e a b) = from_one _ _ (λ m b. dcl.static_first words y s u t e (qualifiers words _ u a m) b) (below.expr r _ y u t b)
  length_of r xs x s t (dcl.static_behind words y _ u _ a e b) = from_one _ _ (λ m b. dcl.static_behind words y s u t (qualifiers words s u a m) e b) (below.expr r _ y _ t b)

  pub declarator : (r : ℕ) (k : Mode) (x : Declared) (s t : State) → DeclaratorIs h W B r k x s t → From (λ m. DeclaratorIs h W (F m) r k x s t)
  declarator r k x s t (dcl.identifier _ _ room e f) = always _ (λ m. dcl.identifier k s room e f)
  declarator r k x s t (dcl.omitted _ _ room e) = always _ (λ m. dcl.omitted k s room e)
  declarator r k x s t (dcl.bracketed _ y _ u room e f a g) = from_one _ _ (λ m a. dcl.bracketed k y s u room e f a g) (below.declarator _ _ y _ u a)
  declarator r k x s t (dcl.pointer _ words y _ u _ room e a b) = from_one _ _ (λ m b. dcl.pointer k words y s u t room e (qualifiers words _ u a m) b) (below.declarator _ _ y u t b)
  declarator r k x s t (dcl.array _ words n y _ u v room e a f b g) = from_two _ _ _ (λ m a b. dcl.array k words n y s u v room e a f b g) (below.declarator _ _ y s u a) (length_of _ words n _ v b)
  declarator r k x s t (dcl.function _ all dots names y _ u v room e a f b g i) = from_two _ _ _ (λ m a b. dcl.function k all dots names y s u v room e a f b g i)
      (below.declarator _ _ y s u a) (listed _ all dots _ v b)

  strings : (n : ℕ) (s t : State) → Strings h W B n s t → (m : ℕ) → Strings h W (F m) n s t
  strings n s t (exp.no_string _) m = exp.no_string s
  strings n s t (exp.string k _ _ f a) m = exp.string k s t f (strings k _ t a m)

  arguments : (r : ℕ) (xs : List Ex) (s t : State) → Arguments h W B r xs s t → From (λ m. Arguments h W (F m) r xs s t)
  arguments r xs s t (exp.last_argument x _ _ a) = from_one _ _ (λ m a. exp.last_argument x s t a) (below.expr r _ x s t a)
  arguments r xs s t (exp.argument_and_more x rest _ u _ a f b) = from_two _ _ _ (λ m a b. exp.argument_and_more x rest s u t a f b) (below.expr r _ x s u a) (arguments r rest _ t b)

  pub expression : (r l : ℕ) (x : Ex) (s t : State) → ExpressionIs h W B r l x s t → From (λ m. ExpressionIs h W (F m) r l x s t)
  expression r l x s t (exp.identifier _ _ room low f) = always _ (λ m. exp.identifier l s room low f)
  expression r l x s t (exp.integer _ _ room low f) = always _ (λ m. exp.integer l s room low f)
  expression r l x s t (exp.floating _ _ room low f) = always _ (λ m. exp.floating l s room low f)
  expression r l x s t (exp.character _ _ room low f) = always _ (λ m. exp.character l s room low f)
  expression r l x s t (exp.string_literal _ n _ _ room low a) = always _ (λ m. exp.string_literal l n s t room low (strings _ s t a m))
  expression r l x s t (exp.bracketed _ y _ u room low f a g) = from_one _ _ (λ m a. exp.bracketed l y s u room low f a g) (below.expr _ _ y _ u a)
  expression r l x s t (exp.subscript _ y z _ u v room low a f b g) = from_two _ _ _ (λ m a b. exp.subscript l y z s u v room low a f b g) (below.expr _ _ y s u a) (below.expr _ _ z _ v b)
  expression r l x s t (exp.call_of_none _ y _ u room low a f g) = from_one _ _ (λ m a. exp.call_of_none l y s u room low a f g) (below.expr _ _ y s u a)
  expression r l x s t (exp.call _ y all _ u v room low a f b g) = from_two _ _ _ (λ m a b. exp.call l y all s u v room low a f b g) (below.expr _ _ y s u a) (arguments _ all _ v b)
  expression r l x s t (exp.member _ y _ u room low a f g) = from_one _ _ (λ m a. exp.member l y s u room low a f g) (below.expr _ _ y s u a)
  expression r l x s t (exp.arrow _ y _ u room low a f g) = from_one _ _ (λ m a. exp.arrow l y s u room low a f g) (below.expr _ _ y s u a)
  expression r l x s t (exp.increment _ y _ u room low a f) = from_one _ _ (λ m a. exp.increment l y s u room low a f) (below.expr _ _ y s u a)
  expression r l x s t (exp.decrement _ y _ u room low a f) = from_one _ _ (λ m a. exp.decrement l y s u room low a f) (below.expr _ _ y s u a)
  expression r l x s t (exp.step_before _ y _ _ room low f a) = from_one _ _ (λ m a. exp.step_before l y s t room low f a) (below.expr _ _ y _ t a)
  expression r l x s t (exp.unary _ y _ _ room low f a) = from_one _ _ (λ m a. exp.unary l y s t room low f a) (below.expr _ _ y _ t a)
  expression r l x s t (exp.size_of_expression _ y _ _ room low f a) = from_one _ _ (λ m a. exp.size_of_expression l y s t room low f a) (below.expr _ _ y _ t a)
  expression r l x s t (exp.size_of_type _ y _ u room low f g a i) = from_one _ _ (λ m a. exp.size_of_type l y s u room low f g a i) (type_name _ y _ u a)
  expression r l x s t (exp.cast _ y z _ u _ room low f a g b) = from_two _ _ _ (λ m a b. exp.cast l y z s u t room low f a g b) (type_name _ y _ u a) (below.expr _ _ z _ t b)
  expression r l x s t (exp.binary _ y z _ u _ room low high least a b) = from_two _ _ _ (λ m a b. exp.binary l y z s u t room low high least a b) (below.expr _ _ y s u a) (below.expr _ _ z _ t b)
  expression r l x s t (exp.conditional _ y z w _ u v _ room low a f b g c) = from_three _ _ _ _ (λ m a b c. exp.conditional l y z w s u v t room low a f b g c)
      (below.expr _ _ y s u a) (below.expr _ _ z _ v b) (below.expr _ _ w _ t c)
  expression r l x s t (exp.assignment _ y z _ u _ room low a f b) = from_two _ _ _ (λ m a b. exp.assignment l y z s u t room low a f b) (below.expr _ _ y s u a) (below.expr _ _ z _ t b)
  expression r l x s t (exp.comma _ y z _ u _ room low a f b) = from_two _ _ _ (λ m a b. exp.comma l y z s u t room low a f b) (below.expr _ _ y s u a) (below.expr _ _ z _ t b)

-- what is a tree of so many levels is one of more
module _ (h : ℕ) (W : Words) where
  grows : (n : ℕ) → Meets (Within h W n) (λ _. Within h W (suc n))
  grows zero = record { expr = λ r l x s t a. absurd a; declarator = λ r k x s t a. absurd a; line = λ r x s t a. absurd a }
  grows (suc n) =
      let below = grows n in
      record {
        expr = expression h W (Within h W n) (λ _. Within h W (suc n)) below;
        declarator = declarator h W (Within h W n) (λ _. Within h W (suc n)) below;
        line = line h W (Within h W n) (λ _. Within h W (suc n)) below;
      }

  -- so many levels more
  grows_by : (k n : ℕ) (P : Below → Type 0) → ((i : ℕ) → P (Within h W i) → P (Within h W (suc i))) → P (Within h W n) → P (Within h W (k + n))
  grows_by zero n P up a = let same : n ≡ 0 + n = omega arith in subst (λ i. P (Within h W i)) same a
  grows_by (suc k) n P up a = let same : suc (k + n) ≡ suc k + n = omega arith in subst (λ i. P (Within h W i)) same (up (k + n) (grows_by k n P up a))

  any_more : (n m : ℕ) → n ≤ m → (P : Below → Type 0) → ((i : ℕ) → P (Within h W i) → P (Within h W (suc i))) → P (Within h W n) → P (Within h W m)
  any_more n m le P up a = let same : (m - n) + n ≡ m = omega arith in subst (λ i. P (Within h W i)) same (grows_by (m - n) n P up a)

  met : Meets (Derived h W) (Within h W)
  met = record {
    expr = λ r l x s t a. (a.0, λ m le. any_more a.0 m le (λ B. B.expr r l x s t) (λ i b. let g = (grows i).expr r l x s t b in g.1 g.0 (le_refl g.0)) a.1);
    declarator = λ r k x s t a. (a.0, λ m le. any_more a.0 m le (λ B. B.declarator r k x s t) (λ i b. let g = (grows i).declarator r k x s t b in g.1 g.0 (le_refl g.0)) a.1);
    line = λ r x s t a. (a.0, λ m le. any_more a.0 m le (λ B. B.line r x s t) (λ i b. let g = (grows i).line r x s t b in g.1 g.0 (le_refl g.0)) a.1);
  }

  pub an_expression : (r l : ℕ) (x : Ex) (s t : State) → ExpressionIs h W (Derived h W) r l x s t → (Derived h W).expr r l x s t
  an_expression r l x s t a = let f = expression h W (Derived h W) (Within h W) met r l x s t a in (suc f.0, f.1 f.0 (le_refl f.0))

  pub a_declarator : (r : ℕ) (k : Mode) (x : Declared) (s t : State) → DeclaratorIs h W (Derived h W) r k x s t → (Derived h W).declarator r k x s t
  a_declarator r k x s t a = let f = declarator h W (Derived h W) (Within h W) met r k x s t a in (suc f.0, f.1 f.0 (le_refl f.0))

  pub a_line : (r : ℕ) (x : MemberLine) (s t : State) → LineIs h W (Derived h W) r x s t → (Derived h W).line r x s t
  a_line r x s t a = let f = line h W (Derived h W) (Within h W) met r x s t a in (suc f.0, f.1 f.0 (le_refl f.0))
