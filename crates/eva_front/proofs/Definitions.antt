-- A file has few definitions, and no two of one name.
use Rattle.std.proofs.Common.{◌≡◌, ℕ, zero, suc, ◌+◌, ◌<◌, ◌≤◌, ◌⊎◌, min, Bool, true, false, not, ◌&&◌, ◌||◌, if◌then◌else◌, eqb, List, [], ◌∷◌, length, Option, Some, None, refl, ap, ◌∙◌, sym, subst, inl, inr, arith}
use Rattle.std.specs.Prelude.{slice_get, option_and_then}
use Rattle.std.specs.Option.{option_map}
use Rattle.std.specs.List.{list_any, IsDistinct, AllByRecursion}
use Rattle.std.specs.Str.{bytes_eq}
use Rattle.std.proofs.lemmas.Slice.Eq.{bytes_eq-Decides}
use Rattle.std.proofs.lemmas.Option.{slice_get_cases, slice_get_past}
use Rattle.std.proofs.lemmas.Map.Steps.{length-le_from_distinct_below}
use Rattle.c_lex.specs.Bytes.{Text}
use Rattle.c_lex.specs.Source.{option_text, text_in}
use Rattle.c_lex.specs.declared.token.Token.{Token}
use Rattle.c_tree.specs.declared.tree.Item.{Item}
use Rattle.c_tree.specs.declared.tree.Item.TheVariants as item
use Rattle.c_tree.specs.declared.tree.Stmt.{Stmt}
use Rattle.c_tree.specs.declared.tree.Unit.{Unit as Tree}
use Rattle.program.specs.declared.expressions.Expr.{Expr}
use Rattle.normal_form.specs.ConstantForm.{all_definitions, constant_of, definition_of, definitions, if_names_differ, is_word, name_of, names_differ, only_statement, place_of, returned, returning}
use Rattle.normal_form.specs.declared.constant.Returning.{Returning}
use lib.Chars.{codes}

both : (a b : Bool) → (a && b) ≡ true → (a ≡ true) × (b ≡ true)
both true b h = (refl, h)
both false b h = cc

neither : (a b : Bool) → not (a || b) ≡ true → (a ≡ false) × (not b ≡ true)
neither true b h = cc
neither false b h = (refl, h)

one_of : (a b : Bool) → (a || b) ≡ true → (a ≡ true) ⊎ (b ≡ true)
one_of true b h = inl refl
one_of false b h = inr h

same_bytes : (v w : List ℕ) → v ≡ w → bytes_eq v w ≡ false → ⊥
same_bytes v w e h = grind (arith, bytes_eq-Decides v w)

either_eqb : (m n : ℕ) → (m ≡ n → ⊥) → eqb m n ≡ false
either_eqb m n h = grind arith

below : (k n last : ℕ) → eqb k (min n last) ≡ true → k < last + 1
below k n last h = grind arith

and_then_some : {A B : Type 0} (f : A → Option B) (o : Option A) (b : B) → option_and_then f o ≡ Some b → (a : A) × (o ≡ Some a) × (f a ≡ Some b)
and_then_some f (Some a) b h = (a, refl, h)
and_then_some f None b h = cc

map_some : {A B : Type 0} (f : A → B) (o : Option A) (b : B) → option_map f o ≡ Some b → (a : A) × (o ≡ Some a) × (f a ≡ b)
map_some f (Some a) b h = let e : f a ≡ b = cc in (a, refl, e)
map_some f None b h = cc

if_some : {A : Type 0} (t : Bool) (o : Option A) (a : A) → (if t then o else None) ≡ Some a → (t ≡ true) × (o ≡ Some a)
if_some true o a h = (refl, h)
if_some false o a h = cc

-- the name of a definition isn't that of one behind it
head_differs : (d : Returning) (ds : List Returning) → names_differ (d ∷ ds) ≡ true →
    (not (list_any (λ e. bytes_eq d.name e.name) ds) ≡ true) × (names_differ ds ≡ true)
head_differs d ds h = both (not (list_any (λ e. bytes_eq d.name e.name) ds)) (names_differ ds) h

-- ---- one of a name
no_other : (w : Text) (ds : List Returning) → not (list_any (λ e. bytes_eq w e.name) ds) ≡ true → (i : ℕ) (d : Returning) → slice_get ds i ≡ Some d → w ≡ d.name → ⊥
no_other w [] h i d at same = cc
no_other w (e ∷ ds) h zero d at same =
    let n = neither (bytes_eq w e.name) (list_any (λ x. bytes_eq w x.name) ds) h in
    let s : e ≡ d = cc in
    same_bytes w e.name (same ∙ ap (λ (x : Returning). x.name) (sym s)) n.0
no_other w (e ∷ ds) h (suc i) d at same =
    let n = neither (bytes_eq w e.name) (list_any (λ x. bytes_eq w x.name) ds) h in
    no_other w ds n.1 i d at same

one_place : (ds : List Returning) → names_differ ds ≡ true → (i j : ℕ) (d e : Returning) → slice_get ds i ≡ Some d → slice_get ds j ≡ Some e → d.name ≡ e.name → i ≡ j
one_place [] h i j d e at at' same = cc
one_place (x ∷ ds) h zero zero d e at at' same = refl
one_place (x ∷ ds) h zero (suc j) d e at at' same =
    let s : x ≡ d = cc in
    absurd (no_other x.name ds (head_differs x ds h).0 j e at' (ap (λ (y : Returning). y.name) s ∙ same))
one_place (x ∷ ds) h (suc i) zero d e at at' same =
    let s : x ≡ e = cc in
    absurd (no_other x.name ds (head_differs x ds h).0 i d at (ap (λ (y : Returning). y.name) s ∙ sym same))
one_place (x ∷ ds) h (suc i) (suc j) d e at at' same = ap suc (one_place ds (head_differs x ds h).1 i j d e at at' same)

-- ---- few: a name is the text of a token, or that of no token
module _ (text : ℕ → Text) (last : ℕ) (capped : (n : ℕ) → text (min n last) ≡ text n) where
  abbrev IsNamed : Returning → Type 0
  IsNamed d = (n : ℕ) × (d.name ≡ text n)

  keys : (ds : List Returning) → AllByRecursion IsNamed ds → List ℕ
  keys [] h = []
  keys (d ∷ ds) h = min h.0.0 last ∷ keys ds h.1

  length-keys : (ds : List Returning) (h : AllByRecursion IsNamed ds) → length (keys ds h) ≡ length ds
  unfolding keys
  length-keys [] h = refl
  length-keys (d ∷ ds) h = let e = length-keys ds h.1 in omega arith

  apart : (v w : Text) (n m : ℕ) → v ≡ text n → w ≡ text m → bytes_eq v w ≡ false → eqb (min n last) (min m last) ≡ false
  apart v w n m p q h = either_eqb (min n last) (min m last) (λ e. same_bytes v w (p ∙ sym (capped n) ∙ ap text e ∙ capped m ∙ sym q) h)

  all_apart : (v : Text) (n : ℕ) → v ≡ text n → (ds : List Returning) (h : AllByRecursion IsNamed ds) → not (list_any (λ e. bytes_eq v e.name) ds) ≡ true →
      AllByRecursion (λ k. eqb (min n last) k ≡ false) (keys ds h)
  unfolding keys
  all_apart v n p [] h differ = tt
  all_apart v n p (d ∷ ds) h differ =
      let e = neither (bytes_eq v d.name) (list_any (λ x. bytes_eq v x.name) ds) differ in
      (apart v d.name n h.0.0 p h.0.1 e.0, all_apart v n p ds h.1 e.1)

  distinct : (ds : List Returning) (h : AllByRecursion IsNamed ds) → names_differ ds ≡ true → IsDistinct eqb (keys ds h)
  unfolding keys IsDistinct
  distinct [] h differ = tt
  distinct (d ∷ ds) h differ = let e = head_differs d ds differ in (all_apart d.name h.0.0 h.0.1 ds h.1 e.0, distinct ds h.1 e.1)

  within : (ds : List Returning) (h : AllByRecursion IsNamed ds) (k : ℕ) → list_any (eqb k) (keys ds h) ≡ true → k < last + 1
  unfolding keys
  within [] h k e = cc
  within (d ∷ ds) h k e =
      elim (one_of (eqb k (min h.0.0 last)) (list_any (eqb k) (keys ds h.1)) e) [ inl t ↦ below k h.0.0 last t | inr t ↦ within ds h.1 k t ]

  few : (ds : List Returning) → AllByRecursion IsNamed ds → names_differ ds ≡ true → length ds ≤ last + 1
  few ds h differ =
      let n = length-le_from_distinct_below (keys ds h) (last + 1) (distinct ds h differ) (within ds h) in
      omega (arith, n, length-keys ds h)

-- ---- the definitions of a file
module _ (file : Text) (tokens : List Token) where
  -- behind the last token each text is empty
  capped_text : (n : ℕ) → text_in file tokens (min n (length tokens)) ≡ text_in file tokens n
  capped_text n =
      elim (slice_get_cases tokens n).1 [
        | inl h ↦ (let within = h.1 in ap (text_in file tokens) (omega arith))
        | inr h ↦ (let past = h.0 in ap (option_text file) (slice_get_past tokens (min n (length tokens)) (omega arith) ∙ sym h.1))
      ]

  returning_named : (n : ℕ) (s : Stmt) (d : Returning) → returning file tokens n s ≡ Some d → d.name ≡ text_in file tokens n
  returning_named n s d h =
      let m = map_some (λ (e : Expr). record { name = text_in file tokens n; value = e; place = place_of tokens s.at })
      (option_and_then (constant_of (text_in file tokens)) (returned s)) d h in
      ap (λ (x : Returning). x.name) (sym m.2)

  definition_named : (i : Item) (d : Returning) → definition_of file tokens i ≡ Some d → (n : ℕ) × (d.name ≡ text_in file tokens n)
  definition_named (item.Function at specs e body) d h =
      let b = if_some (is_word (text_in file tokens) (codes "int") specs)
      (option_and_then (λ name. option_and_then (returning file tokens name) (only_statement body)) (name_of (text_in file tokens) e.form)) d h in
      let n = and_then_some (λ name. option_and_then (returning file tokens name) (only_statement body)) (name_of (text_in file tokens) e.form) d b.1 in
      let s = and_then_some (returning file tokens n.0) (only_statement body) d n.2 in
      (n.0, returning_named n.0 s.0 d s.2)
  definition_named _ d h = cc

  all_named : (items : List Item) (ds : List Returning) → all_definitions file tokens items ≡ Some ds → AllByRecursion (λ d. (n : ℕ) × (d.name ≡ text_in file tokens n)) ds
  all_named [] ds h =
      let e : [] ≡ ds = cc in
      subst (AllByRecursion (λ (d : Returning). (n : ℕ) × (d.name ≡ text_in file tokens n))) e tt
  all_named (i ∷ items) ds h =
      let d = and_then_some (λ d. option_map (λ es. d ∷ es) (all_definitions file tokens items)) (definition_of file tokens i) ds h in
      let es = map_some (λ es. d.0 ∷ es) (all_definitions file tokens items) ds d.2 in
      subst (AllByRecursion (λ (x : Returning). (n : ℕ) × (x.name ≡ text_in file tokens n))) es.2
      (definition_named i d.0 d.1, all_named items es.0 es.1)

  module _ (tree : Tree) (ds : List Returning) (are : definitions file tokens tree ≡ Some ds) where
    -- they are those of the items, and their names differ
    listed : (all_definitions file tokens tree.items ≡ Some ds) × (names_differ ds ≡ true)
    listed =
        let es = and_then_some if_names_differ (all_definitions file tokens tree.items) ds are in
        let b = if_some (names_differ es.0) (Some es.0) ds es.2 in
        let e : es.0 ≡ ds = let h = b.1 in cc in
        (es.1 ∙ ap Some e, subst (λ (x : List Returning). names_differ x ≡ true) e b.0)

    pub few_definitions : length ds ≤ length tokens + 1
    few_definitions = few (text_in file tokens) (length tokens) capped_text ds (all_named tree.items ds listed.0) listed.1

    pub one_number : (i j : ℕ) (d e : Returning) → slice_get ds i ≡ Some d → slice_get ds j ≡ Some e → d.name ≡ e.name → i ≡ j
    one_number i j d e at at' same = one_place ds listed.1 i j d e at at' same
