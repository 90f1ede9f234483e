-- Orders, differences and equality of pointers keep the members of both sides.
use Rattle.std.proofs.Common.{◌≡◌, ℕ, List, [], ◌∷◌, ℤ, pos, Option, Some, None, Result, Ok, Err, refl, ap, sym, subst, ◌∙◌, true, false, inl, inr}
use Rattle.std.specs.Prelude.{Bool, cond, not, ◌||◌, ◌&&◌, nat_eq}
use Rattle.std.specs.Ordering.{int_eq}
use Rattle.std.specs.List.{All, fold, list_any}
use Rattle.std.proofs.lemmas.Int.{ints}
use Rattle.std.proofs.lemmas.Bool.Decides.{Decides-and, Decides-eqb, Decides-int_eq}
use Rattle.std.proofs.lemmas.List.Elements.{All-nil, All-cons, All-head, All-tail}
use Rattle.c_types.specs.declared.types.IntKind.TheVariants as kind
use Rattle.c_memory.specs.declared.memory.Object.{Object}
use Rattle.c_meaning.specs.declared.value.Value.{Value as Concrete}
use Rattle.c_meaning.specs.declared.value.Value.TheVariants.{Number, Pointer}
use Rattle.c_arithmetic.specs.Arithmetic.{truth}
use Rattle.c_meaning.specs.Value.{offsets_in_one, ordered, equal, number_result}
use Rattle.program.specs.declared.expressions.BinOp.TheVariants as op
use Rattle.program.specs.declared.sites.Kind.{Kind}
use Rattle.program.specs.declared.sites.Kind.TheVariants as undefined
use Rattle.ival.specs.declared.forms.Cmp.{Cmp}
use Rattle.ival.specs.declared.forms.Cmp.TheVariants as cmp
use Rattle.ival.specs.declared.forms.Ival.{Ival}
use Rattle.ival.specs.declared.forms.Ival.TheVariants.{Empty}
use Rattle.ival.specs.Forms.{IsWellFormed, IsOperand, Has, has, is_empty, only_number}
use Rattle.ival.specs.SetOperations.{join_of}
use Rattle.ival.specs.Meet.{meet_of}
use Rattle.ival.specs.Comparisons.{compares, truth_of, decided}
use Rattle.ival.proofs.JoinMembers.{join-keeps}
use Rattle.ival.proofs.WidenMembers.{join-well_formed}
use Rattle.ival.proofs.MeetMembers.{meet-keeps}
use Rattle.ival.proofs.ComparisonMembers.{truth-keeps, decided-has, only-member}
use Rattle.avalue.specs.Pointers.{Pointer as Offsets, offsets_at}
use Rattle.avalue.specs.declared.value.Value.{Value}
use Rattle.abstract_memory.specs.Values.{of_ints, has_no_pointers}
use Rattle.abstract_operators.specs.Left.{Left, raising, alarm_if}
use Rattle.abstract_operators.specs.Numbers.{left_numbers}
use Rattle.abstract_operators.specs.Pointers.{differ, are_apart, of_common, ordered_in, share_offset, can_be_equal, same_number, same_pointer, is_null, must_be_equal, equal_in, unequal_in}
use Rattle.abstract_operators.specs.Members.{IsMember}
pub use Rattle.abstract_operators.specs.Conditions.{HasOperandOffsets}
use Rattle.abstract_operators.specs.Kept.{Covers, IsOneOf}
use Rattle.abstract_operators.proofs.Covering.{covers-raising, covers-alarm, covers-each, alarm-there, left-numbers}
use Rattle.abstract_operators.proofs.Results.{truth-answers}
use Rattle.abstract_operators.specs.Values.{as_value}
use Rattle.abstract_operators.proofs.Conversions.{by-bool}
use Rattle.abstract_operators.proofs.NumberOperators.{truth-given}
use Rattle.abstract_operators.proofs.PointerLists.{not-empty, some-pointers}
use Rattle.abstract_operators.proofs.PointerOperators.{HasNull, null-there}

-- ---- the bases that both sides have

-- each result on common offsets is a set
pub record GivesSets (f : Ival → Ival → Ival) (qs ps : List Offsets) : Type 0 where
  pub each : All (λ p. IsWellFormed (f p.1 (offsets_at qs p.0))) ps

abbrev pub IsFormedAt : (Ival → Ival → Ival) → List Offsets → Offsets → Type 0
IsFormedAt f qs p = IsWellFormed (f p.1 (offsets_at qs p.0))

pub common-formed : (f : Ival → Ival → Ival) (qs ps : List Offsets) (found : Ival) → All (λ p. IsWellFormed (f p.1 (offsets_at qs p.0))) ps → IsWellFormed found
    → IsWellFormed (fold (λ results p. join_of results (f p.1 (offsets_at qs p.0))) found ps)
common-formed f qs [] found all h = h
common-formed f qs (q ∷ ps) found all h =
    let here = f q.1 (offsets_at qs q.0) in
    common-formed f qs ps (join_of found here) (All-tail (IsFormedAt f qs) q ps all) (join-well_formed found here h (All-head (IsFormedAt f qs) q ps all))

stays : (f : Ival → Ival → Ival) (qs ps : List Offsets) (found : Ival) (z : ℤ) → All (IsFormedAt f qs) ps → IsWellFormed found → Has found z
    → Has (fold (λ results p. join_of results (f p.1 (offsets_at qs p.0))) found ps) z
stays f qs [] found z all h p = p
stays f qs (q ∷ ps) found z all h p =
    let here = f q.1 (offsets_at qs q.0) in
    let g = All-head (IsFormedAt f qs) q ps all in
    stays f qs ps (join_of found here) z (All-tail (IsFormedAt f qs) q ps all) (join-well_formed found here h g) (join-keeps found here h g z (inl p))

pub comes : (f : Ival → Ival → Ival) (qs ps : List Offsets) (found : Ival) (b : ℕ) (o z : ℤ) → All (IsFormedAt f qs) ps → IsWellFormed found → All (λ p. IsOperand p.1) ps → Has (offsets_at ps b) o
    → ((x : Ival) → IsOperand x → Has x o → Has (f x (offsets_at qs b)) z)
    → Has (fold (λ results p. join_of results (f p.1 (offsets_at qs p.0))) found ps) z
comes f qs [] found b o z all h ops p keep = absurd p
comes f qs (q ∷ ps) found b o z all h ops p keep =
    let here = f q.1 (offsets_at qs q.0) in
    let g = All-head (IsFormedAt f qs) q ps all in
    let rest = All-tail (IsFormedAt f qs) q ps all in
    let both = join-well_formed found here h g in
    by-bool (λ c. nat_eq q.0 b ≡ c → Has (cond c q.1 (offsets_at ps b)) o → Has (fold (λ results p. join_of results (f p.1 (offsets_at qs p.0))) (join_of found here) ps) z) (nat_eq q.0 b)
    (λ t. λ (e : nat_eq q.0 b ≡ true) (k : Has q.1 o).
    let same : q.0 ≡ b = (Decides-eqb q.0 b).0 e in
    let there : Has here z = subst (λ (c : ℕ). Has (f q.1 (offsets_at qs c)) z) (sym same) (keep q.1 (All-head (λ p. IsOperand p.1) q ps ops) k) in
    stays f qs ps (join_of found here) z rest both (join-keeps found here h g z (inr there)))
    (λ t. λ (e : nat_eq q.0 b ≡ false) (k : Has (offsets_at ps b) o). comes f qs ps (join_of found here) b o z rest both (All-tail (λ p. IsOperand p.1) q ps ops) k keep)
    refl p

-- ---- different objects

apart-here : (qs : List Offsets) (b c : ℕ) (q : ℤ) → nat_eq b c ≡ false → Has (offsets_at qs c) q → list_any (λ r. not (nat_eq b r.0)) qs ≡ true
apart-here [] b c q e h = absurd h
apart-here (r ∷ qs) b c q e h =
    let more = list_any (λ r. not (nat_eq b r.0)) qs in
    by-bool (λ t. nat_eq r.0 c ≡ t → Has (cond t r.1 (offsets_at qs c)) q → (not (nat_eq b r.0) || more) ≡ true) (nat_eq r.0 c)
    (λ t. λ (s : nat_eq r.0 c ≡ true) (k : Has r.1 q).
    let same : r.0 ≡ c = (Decides-eqb r.0 c).0 s in
    let no : nat_eq b r.0 ≡ false = ap (λ (d : ℕ). nat_eq b d) same ∙ e in
    ap (λ d. not d || more) no)
    (λ t. λ (s : nat_eq r.0 c ≡ false) (k : Has (offsets_at qs c) q).
    let ih = apart-here qs b c q e k in
    by-bool (λ d. (not d || more) ≡ true) (nat_eq b r.0) (λ u. ih) (λ u. refl))
    refl h

differ-there : (ps qs : List Offsets) (b c : ℕ) (o q : ℤ) → nat_eq b c ≡ false → Has (offsets_at ps b) o → Has (offsets_at qs c) q → differ ps qs ≡ true
differ-there [] qs b c o q e h k = absurd h
differ-there (p ∷ ps) qs b c o q e h k =
    let here = list_any (λ r. not (nat_eq p.0 r.0)) qs in
    by-bool (λ t. nat_eq p.0 b ≡ t → Has (cond t p.1 (offsets_at ps b)) o → (here || differ ps qs) ≡ true) (nat_eq p.0 b)
    (λ t. λ (s : nat_eq p.0 b ≡ true) (g : Has p.1 o).
    let same : p.0 ≡ b = (Decides-eqb p.0 b).0 s in
    let no : nat_eq p.0 c ≡ false = ap (λ (d : ℕ). nat_eq d c) same ∙ e in
    ap (λ d. d || differ ps qs) (apart-here qs p.0 c q no k))
    (λ t. λ (s : nat_eq p.0 b ≡ false) (g : Has (offsets_at ps b) o).
    let ih = differ-there ps qs b c o q e g k in
    by-bool (λ d. (d || differ ps qs) ≡ true) here (λ u. refl) (λ u. ih))
    refl h

first-of-three : (a b c : Bool) → a ≡ true → (a || b || c) ≡ true
first-of-three a b c e = rw e refl

second-of-three : (a b c : Bool) → b ≡ true → (a || b || c) ≡ true
second-of-three a b c e = by-bool (λ d. (d || b || c) ≡ true) a (λ t. refl) (λ t. rw e refl)

third-of-three : (a b c : Bool) → c ≡ true → (a || b || c) ≡ true
third-of-three a b c e = by-bool (λ d. (d || b || c) ≡ true) a (λ t. refl) (λ t. by-bool (λ d. (d || c) ≡ true) b (λ u. refl) (λ u. e))

-- an operation on pointers into one object: else the alarm is there
pub one-object : (m : List Object) (sizes : ℕ → ℕ) (a b : Value) (x y : Concrete) (kind : Kind) (give : ℤ → ℤ → ℤ) (r : Option (ℤ × ℤ) → Result ℤ Kind) (s : Ival) → HasNull a → HasNull b → IsMember m sizes x a → IsMember m sizes y b
    → r None ≡ Err kind → ((o q : ℤ) → r (Some (o, q)) ≡ Ok (give o q))
    → ((c : ℕ) (o q : ℤ) → Has (offsets_at a.ptrs c) o → Has (offsets_at b.ptrs c) q → Has s (give o q))
    → Covers IsOneOf (r (offsets_in_one x y)) (raising (alarm_if (are_apart a b) kind) (left_numbers s))
one-object m sizes a b (Number x) y kind give r s h k p q none some keep =
    subst (λ o. Covers IsOneOf o (raising (alarm_if (are_apart a b) kind) (left_numbers s))) (sym none)
    (covers-alarm IsOneOf (alarm_if (are_apart a b) kind) kind (left_numbers s) (alarm-there (are_apart a b) kind (first-of-three (has a.ints (pos 0)) (has b.ints (pos 0)) (differ a.ptrs b.ptrs) (null-there a x h p))))
one-object m sizes a b (Pointer c o) (Number y) kind give r s h k p q none some keep =
    subst (λ o. Covers IsOneOf o (raising (alarm_if (are_apart a b) kind) (left_numbers s))) (sym none)
    (covers-alarm IsOneOf (alarm_if (are_apart a b) kind) kind (left_numbers s) (alarm-there (are_apart a b) kind (second-of-three (has a.ints (pos 0)) (has b.ints (pos 0)) (differ a.ptrs b.ptrs) (null-there b y k q))))
one-object m sizes a b (Pointer c o) (Pointer d u) kind give r s h k p q none some keep =
    let what = raising (alarm_if (are_apart a b) kind) (left_numbers s) in
    by-bool (λ e. nat_eq c d ≡ e → Covers IsOneOf (r (cond e (Some (o, u)) None)) what) (nat_eq c d)
    (λ t. λ (e : nat_eq c d ≡ true).
    let same : c ≡ d = (Decides-eqb c d).0 e in
    subst (λ v. Covers IsOneOf v what) (sym (some o u))
    (covers-raising IsOneOf (alarm_if (are_apart a b) kind) (Ok (give o u)) (left_numbers s) (left-numbers s (give o u) (keep c o u p.0 (subst (λ (g : ℕ). Has (offsets_at b.ptrs g) u) (sym same) q.0)))))
    (λ t. λ (e : nat_eq c d ≡ false).
    subst (λ v. Covers IsOneOf v what) (sym none)
    (covers-alarm IsOneOf (alarm_if (are_apart a b) kind) kind (left_numbers s) (alarm-there (are_apart a b) kind (third-of-three (has a.ints (pos 0)) (has b.ints (pos 0)) (differ a.ptrs b.ptrs) (differ-there a.ptrs b.ptrs c d o u e p.0 q.0)))))
    refl

-- numbers that are covered, as values
pub numbers-kept : (m : List Object) (sizes : ℕ → ℕ) (r : Result ℤ Kind) (l : Left Ival Kind) → Covers IsOneOf r l → Covers (IsMember m sizes) (number_result r) (as_value l)
numbers-kept m sizes r l c = covers-each IsOneOf (IsMember m sizes) (λ x. Number x) of_ints r l c (λ x y h. h)

-- ---- orders

truths-formed : (c : Cmp) (qs ps : List Offsets) → All (IsFormedAt (truth_of c) qs) ps
truths-formed c qs [] = All-nil (IsFormedAt (truth_of c) qs)
truths-formed c qs (p ∷ ps) = All-cons (IsFormedAt (truth_of c) qs) p ps (truth-answers c p.1 (offsets_at qs p.0)).formed (truths-formed c qs ps)

-- the offsets that comes takes are those of the base
order-common : (c : Cmp) (a b : Value) (base : ℕ) (o q : ℤ) → HasOperandOffsets a → HasOperandOffsets b → All (λ p. IsOperand p.1) a.ptrs → Has (offsets_at a.ptrs base) o → Has (offsets_at b.ptrs base) q
    → Has (of_common (truth_of c) a.ptrs b.ptrs) (truth (compares c o q))
order-common c a b base o q g h all p k =
    comes (truth_of c) b.ptrs a.ptrs Empty base o (truth (compares c o q)) (truths-formed c b.ptrs a.ptrs) tt all p
    (λ x f r. truth-keeps c x (offsets_at b.ptrs base) f (h.each base) o q (truth (compares c o q)) r k (truth-given (compares c o q)))

abbrev order_number : Cmp → Option (ℤ × ℤ) → Result ℤ Kind
order_number c None = Err undefined.PointerComparison
order_number c (Some offsets) = Ok (truth (compares c offsets.0 offsets.1))

pub order-kept : (c : Cmp) (m : List Object) (sizes : ℕ → ℕ) (a b : Value) (x y : Concrete) → HasNull a → HasNull b → HasOperandOffsets a → HasOperandOffsets b → All (λ p. IsOperand p.1) a.ptrs
    → IsMember m sizes x a → IsMember m sizes y b → Covers IsOneOf (order_number c (offsets_in_one x y)) (ordered_in c a b)
order-kept c m sizes a b x y h k g f all p q =
    one-object m sizes a b x y undefined.PointerComparison (λ o u. truth (compares c o u)) (order_number c) (of_common (truth_of c) a.ptrs b.ptrs) h k p q refl (λ o u. refl)
    (λ base o u s t. order-common c a b base o u g f all s t)

-- the operators, as values
lt-same : (r : Option (ℤ × ℤ)) → number_result (order_number cmp.Lt r) ≡ ordered op.Lt r
lt-same None = refl
lt-same (Some o) = refl

le-same : (r : Option (ℤ × ℤ)) → number_result (order_number cmp.Le r) ≡ ordered op.Le r
le-same None = refl
le-same (Some o) = refl

gt-same : (r : Option (ℤ × ℤ)) → number_result (order_number cmp.Gt r) ≡ ordered op.Gt r
gt-same None = refl
gt-same (Some o) = refl

ge-same : (r : Option (ℤ × ℤ)) → number_result (order_number cmp.Ge r) ≡ ordered op.Ge r
ge-same None = refl
ge-same (Some o) = refl

-- ---- equality

no-pointer : (ps : List Offsets) (b : ℕ) (o : ℤ) → has_no_pointers ps ≡ true → Has (offsets_at ps b) o → ⊥
no-pointer [] b o e h = h
no-pointer (p ∷ ps) b o e h = cc

share-there : (qs ps : List Offsets) (b : ℕ) (o : ℤ) → All (λ p. IsWellFormed p.1) ps → ((c : ℕ) → IsWellFormed (offsets_at qs c)) → Has (offsets_at ps b) o → Has (offsets_at qs b) o → list_any (share_offset qs) ps ≡ true
share-there qs [] b o all g h k = absurd h
share-there qs (p ∷ ps) b o all g h k =
    let here = share_offset qs p in
    by-bool (λ t. nat_eq p.0 b ≡ t → Has (cond t p.1 (offsets_at ps b)) o → (here || list_any (share_offset qs) ps) ≡ true) (nat_eq p.0 b)
    (λ t. λ (s : nat_eq p.0 b ≡ true) (r : Has p.1 o).
    let same : p.0 ≡ b = (Decides-eqb p.0 b).0 s in
    let other : Has (offsets_at qs p.0) o = subst (λ (c : ℕ). Has (offsets_at qs c) o) (sym same) k in
    let both = meet-keeps p.1 (offsets_at qs p.0) (All-head (λ p. IsWellFormed p.1) p ps all) (g p.0) o r other in
    ap (λ d. not d || list_any (share_offset qs) ps) (not-empty (meet_of p.1 (offsets_at qs p.0)) o both))
    (λ t. λ (s : nat_eq p.0 b ≡ false) (r : Has (offsets_at ps b) o).
    let ih = share-there qs ps b o (All-tail (λ p. IsWellFormed p.1) p ps all) g r k in
    by-bool (λ d. (d || list_any (share_offset qs) ps) ≡ true) here (λ u. refl) (λ u. ih))
    refl h

-- equal members show that the sides can be equal
can-show : (m : List Object) (sizes : ℕ → ℕ) (a b : Value) (x y : Concrete) → HasNull a → HasNull b → All (λ p. IsWellFormed p.1) a.ptrs → ((c : ℕ) → IsWellFormed (offsets_at b.ptrs c))
    → IsMember m sizes x a → IsMember m sizes y b → equal x y ≡ true → can_be_equal a b ≡ true
can-show m sizes a b (Number x) (Number y) h k all g p q e = rw (null-there a x h p, null-there b y k q) refl
can-show m sizes a b (Number x) (Pointer c o) h k all g p q e = cc
can-show m sizes a b (Pointer c o) (Number y) h k all g p q e = cc
can-show m sizes a b (Pointer c o) (Pointer d u) h k all g p q e =
    let t = (Decides-and (nat_eq c d) (int_eq o u) (Decides-eqb c d) (Decides-int_eq o u)).0 e in
    let there : Has (offsets_at b.ptrs c) o = subst (Has (offsets_at b.ptrs c)) (sym t.1) (subst (λ (n : ℕ). Has (offsets_at b.ptrs n) u) (sym t.0) q.0) in
    let shared = share-there b.ptrs a.ptrs c o all g p.0 there in
    by-bool (λ d. (d || list_any (share_offset b.ptrs) a.ptrs) ≡ true) (has a.ints (pos 0) && has b.ints (pos 0)) (λ u. refl) (λ u. shared)

only-offset : (p : Offsets) (b : ℕ) (o z : ℤ) → Has (offsets_at (p ∷ []) b) o → only_number p.1 ≡ Some z → (p.0 ≡ b) × (o ≡ z)
only-offset p b o z h e =
    by-bool (λ t. nat_eq p.0 b ≡ t → Has (cond t p.1 Empty) o → (p.0 ≡ b) × (o ≡ z)) (nat_eq p.0 b)
    (λ t. λ (s : nat_eq p.0 b ≡ true) (r : Has p.1 o). ((Decides-eqb p.0 b).0 s, only-member p.1 o z r e))
    (λ t. λ (s : nat_eq p.0 b ≡ false) (r : ⊥). absurd r) refl h

same-from : (v w : Option ℤ) → same_number v w ≡ true → (z : ℤ) × (v ≡ Some z) × (w ≡ Some z)
same-from None w e = absurd (cc)
same-from (Some x) None e = absurd (cc)
same-from (Some x) (Some y) e = let t = (Decides-int_eq x y).0 e in (x, refl, ap (λ i. Some i) (sym t))

one-pointer : (ps qs : List Offsets) (b c : ℕ) (o u : ℤ) → same_pointer ps qs ≡ true → Has (offsets_at ps b) o → Has (offsets_at qs c) u → (b ≡ c) × (o ≡ u)
one-pointer [] qs b c o u e h k = absurd h
one-pointer (p ∷ []) [] b c o u e h k = absurd k
one-pointer (p ∷ []) (q ∷ []) b c o u e h k =
    let d = (Decides-and (nat_eq p.0 q.0) (same_number (only_number p.1) (only_number q.1)) (Decides-eqb p.0 q.0) (λ t. t, λ t. t)).0 e in
    let s = same-from (only_number p.1) (only_number q.1) d.1 in
    let l = only-offset p b o s.0 h s.1 in
    let r = only-offset q c u s.0 k s.2 in
    (sym l.0 ∙ d.0 ∙ r.0, l.1 ∙ sym r.1)
one-pointer (p ∷ []) (q ∷ r ∷ rest) b c o u e h k = absurd (cc)
one-pointer (p ∷ r ∷ rest) qs b c o u e h k = absurd (cc)

not-both : (p q i j s : Bool) → q ≡ false → i ≡ false → (p && q || i && j && s) ≡ true → ⊥
not-both true true i j s e f h = cc
not-both true false true j s e f h = cc
not-both true false false j s e f h = cc
not-both false q true j s e f h = cc
not-both false q false j s e f h = cc

not-either : (p q i j s : Bool) → p ≡ false → j ≡ false → (p && q || i && j && s) ≡ true → ⊥
not-either true q i j s e f h = cc
not-either false q true true s e f h = cc
not-either false q true false s e f h = cc
not-either false q false j s e f h = cc

pointers-must : (p q i j s : Bool) → p ≡ false → (p && q || i && j && s) ≡ true → s ≡ true
pointers-must true q i j s e h = absurd (cc)
pointers-must false q true true s e h = h
pointers-must false q true false s e h = absurd (cc)
pointers-must false q false j s e h = absurd (cc)

-- where the sides must be equal all their members are
must-show : (m : List Object) (sizes : ℕ → ℕ) (a b : Value) (x y : Concrete) → HasNull a → HasNull b → IsMember m sizes x a → IsMember m sizes y b → must_be_equal a b ≡ true → equal x y ≡ true
must-show m sizes a b (Number x) (Number y) h k p q e = (Decides-int_eq x y).1 (h.only x p ∙ sym (k.only y q))
must-show m sizes a b (Number x) (Pointer c o) h k p q e = absurd (not-both (is_null a) (is_null b) (is_empty a.ints) (is_empty b.ints) (same_pointer a.ptrs b.ptrs) (some-pointers b.ptrs c o q.0) (not-empty a.ints x p) e)
must-show m sizes a b (Pointer c o) (Number y) h k p q e = absurd (not-either (is_null a) (is_null b) (is_empty a.ints) (is_empty b.ints) (same_pointer a.ptrs b.ptrs) (some-pointers a.ptrs c o p.0) (not-empty b.ints y q) e)
must-show m sizes a b (Pointer c o) (Pointer d u) h k p q e =
    let s = pointers-must (is_null a) (is_null b) (is_empty a.ints) (is_empty b.ints) (same_pointer a.ptrs b.ptrs) (some-pointers a.ptrs c o p.0) e in
    let t = one-pointer a.ptrs b.ptrs c d o u s p.0 q.0 in
    (Decides-and (nat_eq c d) (int_eq o u) (Decides-eqb c d) (Decides-int_eq o u)).1 t

pub equal-kept : (m : List Object) (sizes : ℕ → ℕ) (a b : Value) (x y : Concrete) → HasNull a → HasNull b → All (λ p. IsWellFormed p.1) a.ptrs → ((c : ℕ) → IsWellFormed (offsets_at b.ptrs c))
    → IsMember m sizes x a → IsMember m sizes y b → Covers {K = Kind} IsOneOf (Ok (truth (equal x y))) (equal_in a b)
equal-kept m sizes a b x y h k all g p q =
    left-numbers (decided (must_be_equal a b) (not (can_be_equal a b))) (truth (equal x y))
    (decided-has (must_be_equal a b) (not (can_be_equal a b)) (equal x y) (truth (equal x y)) (truth-given (equal x y))
    (λ t. must-show m sizes a b x y h k p q t)
    (λ t. by-bool (λ e. equal x y ≡ e → equal x y ≡ false) (equal x y) (λ u. λ v. let yes = can-show m sizes a b x y h k all g p q v in let no : not (can_be_equal a b) ≡ false = ap not yes in absurd (cc)) (λ u. λ v. v) refl))

pub unequal-kept : (m : List Object) (sizes : ℕ → ℕ) (a b : Value) (x y : Concrete) → HasNull a → HasNull b → All (λ p. IsWellFormed p.1) a.ptrs → ((c : ℕ) → IsWellFormed (offsets_at b.ptrs c))
    → IsMember m sizes x a → IsMember m sizes y b → Covers {K = Kind} IsOneOf (Ok (truth (not (equal x y)))) (unequal_in a b)
unequal-kept m sizes a b x y h k all g p q =
    left-numbers (decided (not (can_be_equal a b)) (must_be_equal a b)) (truth (not (equal x y)))
    (decided-has (not (can_be_equal a b)) (must_be_equal a b) (not (equal x y)) (truth (not (equal x y))) (truth-given (not (equal x y)))
    (λ t. by-bool (λ e. equal x y ≡ e → not (equal x y) ≡ true) (equal x y) (λ u. λ v. let yes = can-show m sizes a b x y h k all g p q v in let no : not (can_be_equal a b) ≡ false = ap not yes in absurd (cc)) (λ u. λ v. ap not v) refl)
    (λ t. ap not (must-show m sizes a b x y h k p q t)))
