-- What a tree stands for, at each variant of its root.
use Rattle.std.proofs.Common.{◌≡◌, ℕ, None, refl, ap, ◌∙◌, sym}
use denote.Hole.Carrier.{hidden}
use Rattle.c_lex.specs.Bytes.{Text}
use Rattle.c_lex.specs.Constant.{int_constant}
use Rattle.c_tree.specs.declared.tree.Ex.{Ex}
use Rattle.c_tree.specs.declared.tree.ExForm.{ExForm, end_of-Ex, more_of-Ex}
use Rattle.c_tree.specs.declared.tree.ExForm.TheVariants.{Name, Int, Float, Char, Str, Paren', Unary', Binary', Assign', Cond', Comma', Call', Index', Member', Arrow', Cast', SizeofType', SizeofEx', PostInc', PostDec'}
use Rattle.c_tree.specs.declared.tree.ExForm.TheVariants as in_ExForm
use Rattle.c_tree.specs.declared.tree.DeclForm.TheBlock.{hidden-the_row-Ex-3, hidden-the_row-Ex-4}
use Rattle.normal_form.specs.ConstantForm.{int_of, operator, negated, combined, constant_at, constant_of}

module _ (text : ℕ → Text) where
  int_at : (at : ℕ) → constant_at text at Int ≡ int_of (int_constant (text at))
  unfolding constant_at
  int_at at = refl

  paren_at : (at : ℕ) (a : Ex) → constant_at text at (in_ExForm.Paren a) ≡ constant_of text a
  unfolding constant_at hidden hidden-the_row-Ex-3 hidden-the_row-Ex-4
  paren_at at a = refl

  unary_at : (at : ℕ) (a : Ex) → constant_at text at (in_ExForm.Unary a) ≡ negated (text at) (constant_of text a)
  unfolding constant_at hidden hidden-the_row-Ex-3 hidden-the_row-Ex-4
  unary_at at a = refl

  binary_at : (at o : ℕ) (a b : Ex) → constant_at text at (in_ExForm.Binary o a b) ≡ combined (operator (text o)) (constant_of text a) (constant_of text b)
  unfolding constant_at hidden hidden-the_row-Ex-3 hidden-the_row-Ex-4
  binary_at at o a b = refl

  pub none_at : (at : ℕ) (f : ExForm) → (f ≡ Int → ⊥) → ((a : Ex) → f ≡ in_ExForm.Paren a → ⊥) → ((a : Ex) → f ≡ in_ExForm.Unary a → ⊥) →
      ((o : ℕ) (a b : Ex) → f ≡ in_ExForm.Binary o a b → ⊥) → constant_at text at f ≡ None
  unfolding constant_at hidden hidden-the_row-Ex-3 hidden-the_row-Ex-4
  none_at at Name i p u b = refl
  none_at at Int i p u b = absurd (i refl)
  none_at at Float i p u b = refl
  none_at at Char i p u b = refl
  none_at at (Str n) i p u b = refl
  none_at at (Paren' s (more_of-Ex j g end_of-Ex)) i p u b = absurd (p (record { at = j; form = g }) refl)
  none_at at (Unary' s (more_of-Ex j g end_of-Ex)) i p u b = absurd (u (record { at = j; form = g }) refl)
  none_at at (Binary' o s (more_of-Ex j g end_of-Ex) t (more_of-Ex k h end_of-Ex)) i p u b =
      absurd (b o (record { at = j; form = g }) (record { at = k; form = h }) refl)
  none_at at (Assign' _ _ _ _ _) i p u b = refl
  none_at at (Cond' _ _ _ _ _ _) i p u b = refl
  none_at at (Comma' _ _ _ _) i p u b = refl
  none_at at (Call' _ _ _ _) i p u b = refl
  none_at at (Index' _ _ _ _) i p u b = refl
  none_at at (Member' _ _ _) i p u b = refl
  none_at at (Arrow' _ _ _) i p u b = refl
  none_at at (Cast' _ _ _ _) i p u b = refl
  none_at at (SizeofType' _ _) i p u b = refl
  none_at at (SizeofEx' _ _) i p u b = refl
  none_at at (PostInc' _ _) i p u b = refl
  none_at at (PostDec' _ _) i p u b = refl

  module _ (e : Ex) where
    pub int_is : e.form ≡ Int → constant_of text e ≡ int_of (int_constant (text e.at))
    int_is h = ap (constant_at text e.at) h ∙ int_at e.at

    pub paren_is : (a b : Ex) → e.form ≡ in_ExForm.Paren a → b ≡ a → constant_of text e ≡ constant_of text b
    paren_is a b h k = ap (constant_at text e.at) h ∙ paren_at e.at a ∙ ap (constant_of text) (sym k)

    pub unary_is : (a b : Ex) → e.form ≡ in_ExForm.Unary a → b ≡ a → constant_of text e ≡ negated (text e.at) (constant_of text b)
    unary_is a b h k = ap (constant_at text e.at) h ∙ unary_at e.at a ∙ ap (λ (x : Ex). negated (text e.at) (constant_of text x)) (sym k)

    pub binary_is : (o : ℕ) (a b c d : Ex) → e.form ≡ in_ExForm.Binary o a b → c ≡ a → d ≡ b →
        constant_of text e ≡ combined (operator (text o)) (constant_of text c) (constant_of text d)
    binary_is o a b c d h k l = ap (constant_at text e.at) h ∙ binary_at e.at o a b
        ∙ ap (λ (x : Ex). combined (operator (text o)) (constant_of text x) (constant_of text b)) (sym k)
        ∙ ap (λ (x : Ex). combined (operator (text o)) (constant_of text c) (constant_of text x)) (sym l)
