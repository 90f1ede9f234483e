-- The types that evaluation finds are those of the typing.
use Rattle.std.proofs.Common.{◌≡◌, ℕ, ◌≤◌, Bool, true, false, Option, Some, None, slice_get, inl, inr, refl, sym, ap, subst, ◌∙◌, arith}
use Rattle.std.specs.Prelude.{IsTrue, IfSome, ◌⊎◌, option_and_then, unwrap_or}
use Rattle.std.specs.Option.{option_map}
use Rattle.c_types.specs.declared.types.IntKind.{IntKind}
use Rattle.c_types.specs.declared.types.CType.{CType}
use Rattle.c_types.specs.declared.types.CType.TheVariants.{Void, Int, Ptr', Array', Struct, Unusable}
use Rattle.c_types.specs.declared.types.CType.TheVariants as ctype
use Rattle.c_types.specs.declared.types.StructId.{StructId}
use Rattle.c_types.specs.declared.types.Member.{Member}
use Rattle.c_types.specs.declared.types.StructInfo.{StructInfo}
use Rattle.c_types.specs.declared.types.Layout.{Layout}
use Rattle.c_types.specs.Integers.{width}
use Rattle.c_types.specs.Sizes.{kept, size_of}
use Rattle.program.specs.declared.expressions.BinOp.{BinOp}
use Rattle.program.specs.declared.expressions.BinOp.TheVariants as op
use Rattle.program.specs.declared.expressions.Expr.{Expr, end_of-Expr, more_of-Expr}
use Rattle.program.specs.declared.expressions.Expr.TheVariants.{Const, Null, Load, Addr, Start, Unary', Binary', Cast'}
use Rattle.program.specs.declared.expressions.LVal.{LVal, end_of-LVal, more_of-LVal}
use Rattle.program.specs.declared.expressions.LVal.TheVariants.{Var, Deref', Index', Field'}
use Rattle.program.specs.declared.graph.Function.{Function}
use Rattle.program.specs.declared.graph.Program.{Program}
use Rattle.program.specs.Typing.{int_type, is_integer, is_pointer, member_type, Offset, Computes, HasType, Designates}
use Rattle.c_meaning.specs.PlaceTypes.{pointed, element, member_of, kind_of_type, result_kind, kind_of, moves_pointer, is_address, either, moved_target, target_type, place_type, field_width, scalar_bits}
use Rattle.c_meaning.proofs.PartEquations.{pointed_ptr, element_array}
use Rattle.c_meaning_laws.specs.Values.{HasFittingFields}
use denote.Hole.Carrier.{hidden}
use Rattle.c_types.specs.declared.types.CType.TheBlock.{hidden-the_row-CType-0}

-- nothing is found, or this type
abbrev NoneOr : Option CType → CType → Type 0
NoneOr found t = (found ≡ None) ⊎ (found ≡ Some t)

-- ---- pointer types

pub pointer_is : (t : CType) → is_pointer (ctype.Ptr t) ≡ true
unfolding hidden hidden-the_row-CType-0
pointer_is t = refl

integer_is : (t : CType) → is_integer (ctype.Ptr t) ≡ false
unfolding hidden hidden-the_row-CType-0
integer_is t = refl

pub pointer_no_int : {A : Type 0} (t : CType) (k : IntKind) → ctype.Ptr t ≡ int_type k → A
pointer_no_int t k e = let same : true ≡ false = sym (pointer_is t) ∙ ap is_pointer e in absurd (cc)

no_integer : {A : Type 0} (t : CType) → IsTrue (is_integer (ctype.Ptr t)) → A
no_integer t h = let same : false ≡ true = sym (integer_is t) ∙ h in absurd (cc)

same_target : (t u : CType) → ctype.Ptr t ≡ ctype.Ptr u → t ≡ u
same_target t u e = let same : Some t ≡ Some u = sym (pointed_ptr t) ∙ ap pointed e ∙ pointed_ptr u in cc

pointed_none : (t : CType) → IsTrue (is_integer t) → pointed t ≡ None
unfolding pointed
pointed_none (Int k volatile) h = refl
pointed_none (Ptr' _ _) h = absurd (cc)
pointed_none Void h = refl
pointed_none (Array' _ _ n) h = refl
pointed_none (Struct id) h = refl
pointed_none Unusable h = refl

element_found : (found : Option CType) (t : CType) (n : ℕ) → NoneOr found (ctype.Array t n) → NoneOr (option_and_then element found) t
element_found found t n (inl e) = inl (ap (option_and_then element) e)
element_found found t n (inr e) = inr (ap (option_and_then element) e ∙ element_array t n)

-- of two operands the first that points somewhere
either_left : (a b : Option CType) (t : CType) → NoneOr a t → b ≡ None → NoneOr (either a b) t
either_left a b t (inl e) none = inl (ap (λ (x : Option CType). either x b) e ∙ none)
either_left a b t (inr e) none = inr (ap (λ (x : Option CType). either x b) e)

either_right : (a b : Option CType) (t : CType) → a ≡ None → NoneOr b t → NoneOr (either a b) t
either_right a b t none found = subst (λ (x : Option CType). NoneOr (either x b) t) (sym none) found

-- a member with its type
record FindsMember (l : Layout) (id : StructId) (m : ℕ) (t : CType) : Type 0 where
  info : StructInfo
  member : Member
  is_info : slice_get l.structs id.0 ≡ Some info
  is_member : slice_get info.members m ≡ Some member
  is_type : member.ctype ≡ t

find_there : (l : Layout) (id : StructId) (m : ℕ) (t : CType) (info : StructInfo) → slice_get l.structs id.0 ≡ Some info → (member : Option Member) → slice_get info.members m ≡ member → option_map (λ (x : Member). x.ctype) member ≡ Some t → FindsMember l id m t
find_there l id m t info is None at h = absurd (cc)
find_there l id m t info is (Some member) at h = record { info = info; member = member; is_info = is; is_member = at; is_type = cc }

find_in : (l : Layout) (id : StructId) (m : ℕ) (t : CType) (infos : Option StructInfo) → slice_get l.structs id.0 ≡ infos → option_and_then (λ (info : StructInfo). option_map (λ (member : Member). member.ctype) (slice_get info.members m)) infos ≡ Some t → FindsMember l id m t
find_in l id m t None is h = absurd (cc)
find_in l id m t (Some info) is h = find_there l id m t info is (slice_get info.members m) refl h

finds_member : (l : Layout) (id : StructId) (m : ℕ) (t : CType) → member_type l id m ≡ Some t → FindsMember l id m t
finds_member l id m t h = find_in l id m t (slice_get l.structs id.0) refl h

member_found : (l : Layout) (id : StructId) (m : ℕ) (t : CType) (d : FindsMember l id m t) → member_of l m (ctype.Struct id) ≡ Some d.member
member_found l id m t d = ap (option_and_then (λ (info : StructInfo). slice_get info.members m)) d.is_info ∙ d.is_member

field_found : (l : Layout) (found : Option CType) (id : StructId) (m : ℕ) (t : CType) → NoneOr found (ctype.Struct id) → member_type l id m ≡ Some t → NoneOr (option_map (λ (x : Member). x.ctype) (option_and_then (member_of l m) found)) t
field_found l found id m t (inl e) h = inl (ap (λ (x : Option CType). option_map (λ (y : Member). y.ctype) (option_and_then (member_of l m) x)) e)
field_found l found id m t (inr e) h =
    let d = finds_member l id m t h in
    inr (ap (λ (x : Option CType). option_map (λ (y : Member). y.ctype) (option_and_then (member_of l m) x)) e
    ∙ ap (option_map (λ (y : Member). y.ctype)) (member_found l id m t d) ∙ ap Some d.is_type)

module _ (p : Program) (f : Function) where
  offset_no_integer : {A : Type 0} (a b t : CType) → Offset p.layout a b t → IsTrue (is_integer t) → A
  offset_no_integer a b t o i = no_integer o.to (subst (λ (x : CType). IsTrue (is_integer x)) (o.is_result ∙ o.points) i)

  moved_nowhere : (o : BinOp) (u v t : CType) (a b : Option CType) → Computes p.layout o u v t → IsTrue (is_integer t) → moved_target o a b ≡ None
  moved_nowhere op.PtrAdd u v t a b (inl c) i = offset_no_integer u v t c i
  moved_nowhere op.PtrAdd u v t a b (inr c) i = offset_no_integer v u t c i
  moved_nowhere op.PtrSub u v t a b c i = offset_no_integer u v t c i
  moved_nowhere _ u v t a b c i = refl

  -- a number's expression points nowhere
  no_target : (e : Expr) (t : CType) → HasType p f e t → IsTrue (is_integer t) → target_type p f e ≡ None
  unfolding HasType target_type
  no_target (Const k v) t h i = refl
  no_target Null t h i = refl
  no_target (Load l u) t h i = pointed_none u (subst (λ (x : CType). IsTrue (is_integer x)) h.2 i)
  no_target (Addr l) t h i = no_integer h.0 (subst (λ (x : CType). IsTrue (is_integer x)) h.2 i)
  no_target (Start l) t h i = no_integer h.0 (subst (λ (x : CType). IsTrue (is_integer x)) h.3 i)
  no_target (Unary' o _ (more_of-Expr a end_of-Expr)) t h i = refl
  no_target (Binary' o _ (more_of-Expr a end_of-Expr) _ (more_of-Expr b end_of-Expr)) t h i = moved_nowhere o h.0 h.1 t (target_type p f a) (target_type p f b) h.4 i
  no_target (Cast' to _ (more_of-Expr a end_of-Expr)) t h i = pointed_none to (subst (λ (x : CType). IsTrue (is_integer x)) h.4 i)

  moved_found : (o : BinOp) (u v t : CType) (a b : Expr) → Computes p.layout o u v (ctype.Ptr t) → HasType p f a u → HasType p f b v →
      (HasType p f a (ctype.Ptr t) → NoneOr (target_type p f a) t) → (HasType p f b (ctype.Ptr t) → NoneOr (target_type p f b) t) → NoneOr (moved_target o (target_type p f a) (target_type p f b)) t
  moved_found op.PtrAdd u v t a b (inl c) ha hb left right =
      either_left (target_type p f a) (target_type p f b) t (left (subst (HasType p f a) (sym c.is_result) ha)) (no_target b v hb c.counts)
  moved_found op.PtrAdd u v t a b (inr c) ha hb left right =
      either_right (target_type p f a) (target_type p f b) t (no_target a u ha c.counts) (right (subst (HasType p f b) (sym c.is_result) hb))
  moved_found op.PtrSub u v t a b c ha hb left right = left (subst (HasType p f a) (sym c.is_result) ha)
  moved_found _ u v t a b c ha hb left right = inl refl

  mutual
    unfolding HasType Designates target_type place_type

    pub place_is : (l : LVal) (t : CType) → Designates p f l t → NoneOr (place_type p f l) t
    place_is (Var b) t h = inr h
    place_is (Deref' _ (more_of-Expr e end_of-Expr)) t h = target_is e t h
    place_is (Index' _ (more_of-LVal a end_of-LVal) _ (more_of-Expr i end_of-Expr)) t h = element_found (place_type p f a) t h.0 (place_is a (ctype.Array t h.0) h.2)
    place_is (Field' _ (more_of-LVal a end_of-LVal) m) t h = field_found p.layout (place_type p f a) h.0 m t (place_is a (ctype.Struct h.0) h.1) h.2

    pub target_is : (e : Expr) (t : CType) → HasType p f e (ctype.Ptr t) → NoneOr (target_type p f e) t
    target_is (Const k v) t h = pointer_no_int t k h.1
    target_is Null t h = inl refl
    target_is (Load l u) t h = inr (ap pointed (sym h.2) ∙ pointed_ptr t)
    target_is (Addr l) t h = subst (NoneOr (place_type p f l)) (sym (same_target t h.0 h.2)) (place_is l h.0 h.1)
    target_is (Start l) t h = subst (NoneOr (option_and_then element (place_type p f l))) (sym (same_target t h.0 h.3)) (element_found (place_type p f l) h.0 h.1 (place_is l (ctype.Array h.0 h.1) h.2))
    target_is (Unary' o _ (more_of-Expr a end_of-Expr)) t h = pointer_no_int t h.0 h.3
    target_is (Binary' o _ (more_of-Expr a end_of-Expr) _ (more_of-Expr b end_of-Expr)) t h =
        moved_found o h.0 h.1 t a b h.4 h.2 h.3 (λ typed. target_is a t typed) (λ typed. target_is b t typed)
    target_is (Cast' to _ (more_of-Expr a end_of-Expr)) t h = inr (ap pointed (sym h.4) ∙ pointed_ptr t)

  -- ---- kinds

  kind_after : (o : BinOp) (k : IntKind) (u v : CType) (j : IntKind) → Computes p.layout o u v (int_type k) → (u ≡ int_type k → j ≡ k) → result_kind o j ≡ k
  kind_after op.Add k u v j c left = left (sym c.1)
  kind_after op.Sub k u v j c left = left (sym c.1)
  kind_after op.Mul k u v j c left = left (sym c.1)
  kind_after op.Div k u v j c left = left (sym c.1)
  kind_after op.Rem k u v j c left = left (sym c.1)
  kind_after op.Shl k u v j c left = left (sym c.1)
  kind_after op.Shr k u v j c left = left (sym c.1)
  kind_after op.And k u v j c left = left (sym c.1)
  kind_after op.Or k u v j c left = left (sym c.1)
  kind_after op.Xor k u v j c left = left (sym c.1)
  kind_after op.Lt k u v j c left = let e = c.1 in cc
  kind_after op.Le k u v j c left = let e = c.1 in cc
  kind_after op.Gt k u v j c left = let e = c.1 in cc
  kind_after op.Ge k u v j c left = let e = c.1 in cc
  kind_after op.Eq k u v j c left = let e = c.1 in cc
  kind_after op.Ne k u v j c left = let e = c.1 in cc
  kind_after op.PtrAdd k u v j (inl c) left = pointer_no_int c.to k (sym c.points ∙ sym c.is_result)
  kind_after op.PtrAdd k u v j (inr c) left = pointer_no_int c.to k (sym c.points ∙ sym c.is_result)
  kind_after op.PtrSub k u v j c left = pointer_no_int c.to k (sym c.points ∙ sym c.is_result)
  kind_after op.PtrDiff k u v j c left = let e = c.is_result in cc

  -- the kind that evaluation takes for a number's expression
  pub kind_is : (e : Expr) (k : IntKind) → HasType p f e (int_type k) → kind_of e ≡ k
  unfolding HasType kind_of
  kind_is (Const j v) k h = let e = h.1 in cc
  kind_is Null k h = absurd (cc)
  kind_is (Load l u) k h = ap kind_of_type (sym h.2)
  kind_is (Addr l) k h = pointer_no_int h.0 k (sym h.2)
  kind_is (Start l) k h = pointer_no_int h.0 k (sym h.3)
  kind_is (Unary' o _ (more_of-Expr a end_of-Expr)) k h = let e = h.3 in kind_is a h.0 h.2 ∙ cc
  kind_is (Binary' o _ (more_of-Expr a end_of-Expr) _ (more_of-Expr b end_of-Expr)) k h = kind_after o k h.0 h.1 (kind_of a) h.4 (λ e. kind_is a k (subst (HasType p f a) e h.2))
  kind_is (Cast' to _ (more_of-Expr a end_of-Expr)) k h = ap kind_of_type (sym h.4)

  pointer_result : (a b t : CType) → Offset p.layout a b t → is_pointer t ≡ true
  pointer_result a b t c = ap is_pointer (c.is_result ∙ c.points) ∙ pointer_is c.to

  -- ---- bit-fields

  no_wider : (k : IntKind) (volatile : Bool) → kept (size_of p.layout (Int k volatile)) ≤ width k
  unfolding size_of
  no_wider k volatile = omega arith

  bits_fit : (k : IntKind) (volatile : Bool) (bits : Option ℕ) → IfSome bits (λ w. w ≤ width k) → unwrap_or bits (kept (size_of p.layout (Int k volatile))) ≤ width k
  bits_fit k volatile None h = no_wider k volatile
  bits_fit k volatile (Some w) h = h

  field_fits : (k : IntKind) (volatile : Bool) (found : Option CType) (id : StructId) (m : ℕ) → HasFittingFields p.layout → NoneOr found (ctype.Struct id) → member_type p.layout id m ≡ Some (Int k volatile) →
      unwrap_or (option_and_then (λ (member : Member). member.bits) (option_and_then (member_of p.layout m) found)) (kept (size_of p.layout (Int k volatile))) ≤ width k
  field_fits k volatile found id m fields (inl e) h = rw e (no_wider k volatile)
  field_fits k volatile found id m fields (inr e) h =
      let d = finds_member p.layout id m (Int k volatile) h in
      let narrow : IfSome d.member.bits (λ w. w ≤ width k) = subst (λ (t : CType). IfSome d.member.bits (λ w. w ≤ width (kind_of_type t))) d.is_type (fields.fits id.0 m d.info d.member d.is_info d.is_member) in
      rw (e, member_found p.layout id m (Int k volatile) d) (bits_fit k volatile d.member.bits narrow)

  -- a read as a kind has no more bits than the kind
  pub read_fits : (l : LVal) (k : IntKind) (volatile : Bool) → HasFittingFields p.layout → Designates p f l (Int k volatile) → scalar_bits p f l (Int k volatile) ≤ width k
  unfolding Designates field_width
  read_fits (Var b) k volatile fields h = no_wider k volatile
  read_fits (Deref' _ e) k volatile fields h = no_wider k volatile
  read_fits (Index' _ a _ i) k volatile fields h = no_wider k volatile
  read_fits (Field' _ (more_of-LVal a end_of-LVal) m) k volatile fields h = field_fits k volatile (place_type p f a) h.0 m fields (place_is a (ctype.Struct h.0) h.1) h.2

  -- ---- pointers

  moves_is : (o : BinOp) (u v t : CType) → Computes p.layout o u v t → moves_pointer o ≡ is_pointer t
  moves_is op.Add u v t c = sym (ap is_pointer (c.1 ∙ c.0.left))
  moves_is op.Sub u v t c = sym (ap is_pointer (c.1 ∙ c.0.left))
  moves_is op.Mul u v t c = sym (ap is_pointer (c.1 ∙ c.0.left))
  moves_is op.Div u v t c = sym (ap is_pointer (c.1 ∙ c.0.left))
  moves_is op.Rem u v t c = sym (ap is_pointer (c.1 ∙ c.0.left))
  moves_is op.Shl u v t c = sym (ap is_pointer (c.1 ∙ c.0.left))
  moves_is op.Shr u v t c = sym (ap is_pointer (c.1 ∙ c.0.left))
  moves_is op.And u v t c = sym (ap is_pointer (c.1 ∙ c.0.left))
  moves_is op.Or u v t c = sym (ap is_pointer (c.1 ∙ c.0.left))
  moves_is op.Xor u v t c = sym (ap is_pointer (c.1 ∙ c.0.left))
  moves_is op.Lt u v t c = sym (ap is_pointer c.1)
  moves_is op.Le u v t c = sym (ap is_pointer c.1)
  moves_is op.Gt u v t c = sym (ap is_pointer c.1)
  moves_is op.Ge u v t c = sym (ap is_pointer c.1)
  moves_is op.Eq u v t c = sym (ap is_pointer c.1)
  moves_is op.Ne u v t c = sym (ap is_pointer c.1)
  moves_is op.PtrAdd u v t (inl c) = sym (pointer_result u v t c)
  moves_is op.PtrAdd u v t (inr c) = sym (pointer_result v u t c)
  moves_is op.PtrSub u v t c = sym (pointer_result u v t c)
  moves_is op.PtrDiff u v t c = sym (ap is_pointer c.is_result)

  -- evaluation takes an expression for a pointer's where its type is one
  pub address_is : (e : Expr) (t : CType) → HasType p f e t → is_address e ≡ is_pointer t
  unfolding HasType is_address
  address_is (Const k v) t h = sym (ap is_pointer h.1)
  address_is Null t h = sym h
  address_is (Load l u) t h = sym (ap is_pointer h.2)
  address_is (Addr l) t h = sym (ap is_pointer h.2 ∙ pointer_is h.0)
  address_is (Start l) t h = sym (ap is_pointer h.3 ∙ pointer_is h.0)
  address_is (Unary' o _ (more_of-Expr a end_of-Expr)) t h = sym (ap is_pointer h.3)
  address_is (Binary' o _ (more_of-Expr a end_of-Expr) _ (more_of-Expr b end_of-Expr)) t h = moves_is o h.0 h.1 t h.4
  address_is (Cast' to _ (more_of-Expr a end_of-Expr)) t h = sym (ap is_pointer h.4)
