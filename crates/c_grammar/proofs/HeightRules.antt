-- Each operator and each suffix adds to the height of a node, so that the room bounds their turns.
use Rattle.std.proofs.Common.{◌≡◌, ℕ, zero, suc, ◌+◌, ◌<◌, ◌≤◌, max, nat_lt, is_some, Bool, true, false, length, None, Ok, Err, refl, sym, ◌∙◌, arith, le_refl}
use Rattle.std.proofs.Math.Nat.{le-max_left}
use Rattle.std.proofs.lemmas.Bool.{ltb-true}
use Rattle.std.proofs.lemmas.Option.{slice_get_past}
use Rattle.c_tree.specs.declared.tree.ExForm.{ExForm}
use Rattle.c_tree.specs.declared.tree.ExForm.TheVariants as form
use Rattle.c_tree.specs.declared.tree.DeclForm.TheVariants as decl
use Rattle.c_expressions.specs.declared.grown.Grown.{Grown}
use Rattle.c_expressions.specs.declared.grown.Declares.{Declares}
use Rattle.c_input.specs.declared.word.Sign.{Sign}
use Rattle.c_input.specs.declared.word.Sign.TheVariants as sign
use Rattle.c_input.specs.declared.word.Place.{Place as State}
use Rattle.c_input.specs.Input.{Words, look_at, binds}
use Rattle.c_input.specs.Parser.{Outcome, Parser, and_then, ◌>>=◌, ◌>>◌, pure, look, here, skip, expect, any_name, if_so, too_deep_here}
use Rattle.c_input.specs.Signs.{is_colon, is_close_paren, is_close_bracket}
use Rattle.c_input.specs.Words.{words_of}
use Rattle.c_grammar.specs.Places.{place}
use Rattle.c_grammar.specs.Lists.{AreByRule, one_more_operator, one_more_suffix}
use Rattle.c_grammar.proofs.Combinators.{Reads, word_inside}
use Rattle.c_grammar.proofs.SpecifierRules.{ReadsNest}
use Rattle.c_grammar.proofs.DeclaratorRules.{reads_longer as reads_suffix}
use Rattle.c_grammar.proofs.ExpressionRules.{reads_longer}
use Rattle.c_expressions.specs.Nest.{Nest}
use Rattle.c_expressions.specs.Expressions.{over, arguments, indexed, called, member_of, joined, assigned, otherwise, conditional, followed, longer_by, longer, goes_on, climb}
use Rattle.c_expressions.specs.Declarators.{node, or_first, array_of, listed, array_words, length_height, function_rest, array_rest, longer as suffix, goes_on as is_suffix, suffixes}

abbrev pub AllGive : {A : Type 0} → (A → Type 0) → Outcome A → Type 0
AllGive P (Ok x) = P x.0
AllGive P (Err e) = Unit {0}

pub record Gives {A : Type 0} (P : A → Type 0) (p : Parser A) : Type 0 where
  pub gives : (W : Words) (s : State) → AllGive P (p W s)

pub gives_pure : {A : Type 0} {P : A → Type 0} (a : A) → P a → Gives P (pure a)
gives_pure a h = record { gives = λ W s. h }

pub gives_bind : {A B : Type 0} {P : B → Type 0} (p : Parser A) (f : A → Parser B) → ((a : A) → Gives P (f a)) → Gives P (p >>= f)
gives_bind {A} {B} {P} p f gf = record { gives = λ W s. by W (p W s) }
  where
    by : (W : Words) (o : Outcome A) → AllGive P (and_then W o f)
    by W (Ok x) = (gf x.0).gives W x.1
    by W (Err e) = tt

pub gives_then : {A B : Type 0} {P : B → Type 0} (p : Parser A) (r : Parser B) → Gives P r → Gives P (p >> r)
gives_then p r gr = gives_bind p (λ _. r) (λ _. gr)

raise : (h below : ℕ) → h ≤ below → suc h ≤ suc below
raise h below le = omega arith

abbrev pub Above : ℕ → Grown → Type 0
Above h b = suc h ≤ b.height

abbrev pub AboveDeclarator : ℕ → Declares → Type 0
AboveDeclarator h d = suc h ≤ d.height

module _ (sub : Nest) (at : ℕ) (a : Grown) where
  above_over : (f : ExForm) (below level : ℕ) → a.height ≤ below → Gives (Above a.height) (pure (over at f below level))
  above_over f below level le = gives_pure (over at f below level) (raise a.height below le)

  above_indexed : Gives (Above a.height) (indexed sub at a)
  unfolding indexed
  above_indexed = gives_then skip _ (gives_bind (sub.expr 1) _ (λ e. gives_then (expect is_close_bracket) _ (above_over _ _ 16 (le-max_left a.height e.height))))

  above_called : Gives (Above a.height) (called sub at a)
  unfolding called
  above_called = gives_then skip _ (gives_bind (arguments sub) _ (λ args. gives_then (expect is_close_paren) _ (above_over _ _ 16 (le-max_left a.height args.height))))

  above_member_of : (q : Sign) → Gives (Above a.height) (member_of sub at a q)
  unfolding member_of
  above_member_of q = gives_then skip _ (gives_bind any_name _ (λ n. above_over _ a.height 16 (le_refl a.height)))

  above_joined : (l : ℕ) → Gives (Above a.height) (joined sub at a l)
  unfolding joined
  above_joined l = gives_bind here _ (λ op. gives_then skip _ (gives_bind (sub.expr (suc l)) _ (λ b. above_over _ _ l (le-max_left a.height b.height))))

  above_assigned : Gives (Above a.height) (assigned sub at a)
  unfolding assigned
  above_assigned = gives_bind here _ (λ op. gives_then skip _ (gives_bind (sub.expr 2) _ (λ b. above_over _ _ 2 (le-max_left a.height b.height))))

  above_otherwise : (b : Grown) → Gives (Above a.height) (otherwise sub at a b)
  unfolding otherwise
  above_otherwise b = gives_then (expect is_colon) _ (gives_bind (sub.expr 3) _ (λ c. above_over _ _ 3 (le-max_left a.height (max b.height c.height))))

  above_conditional : Gives (Above a.height) (conditional sub at a)
  unfolding conditional
  above_conditional = gives_then skip _ (gives_bind (sub.expr 1) _ (λ b. above_otherwise b))

  above_followed : Gives (Above a.height) (followed sub at a)
  unfolding followed
  above_followed = gives_then skip _ (gives_bind (sub.expr 2) _ (λ b. above_over _ _ 1 (le-max_left a.height b.height)))

  above_longer_by : (q : Sign) → Gives (Above a.height) (longer_by sub at a q)
  above_longer_by sign.OpenBracket = above_indexed
  above_longer_by sign.OpenParen = above_called
  above_longer_by sign.Dot = above_member_of sign.Dot
  above_longer_by sign.Arrow = above_member_of sign.Arrow
  above_longer_by sign.Increment = gives_then skip _ (above_over (form.PostInc a.tree) a.height 16 (le_refl a.height))
  above_longer_by sign.Decrement = gives_then skip _ (above_over (form.PostDec a.tree) a.height 16 (le_refl a.height))
  above_longer_by sign.Equal = above_assigned
  above_longer_by sign.AssignOp = above_assigned
  above_longer_by sign.Question = above_conditional
  above_longer_by sign.Comma = above_followed
  above_longer_by q = above_joined (binds q)

  pub above_longer : (q : Sign) → Gives (Above a.height) (longer sub at a q)
  unfolding longer
  above_longer q = above_longer_by q

module _ (sub : Nest) (at : ℕ) (d : Declares) where
  above_function : Gives (AboveDeclarator d.height) (function_rest sub at d)
  unfolding function_rest
  above_function = gives_bind (listed sub (is_some d.name)) _ (λ l. gives_then (expect is_close_paren) _
      (gives_pure (record {
        tree = node at (decl.Function d.tree l.params l.variadic);
        height = suc (max d.height l.height);
        name = d.name;
        params = or_first d.params l.names;
      }) (raise d.height _ (le-max_left d.height l.height))))

  above_array : Gives (AboveDeclarator d.height) (array_rest sub at d)
  unfolding array_rest
  above_array = gives_then skip _ (gives_bind (array_words sub (is_some d.name)) _ (λ a. gives_then (expect is_close_bracket) _
      (gives_pure (array_of at d a.0 a.1) (raise d.height _ (le-max_left d.height (length_height a.1))))))

  pub above_suffix : (q : Sign) → Gives (AboveDeclarator d.height) (suffix sub at d q)
  unfolding suffix
  above_suffix sign.OpenBracket = above_array
  above_suffix _ = gives_then skip _ above_function

-- ---- turns

-- a production more around a node, as long as there is one
abbrev pub grows : {A : Type 0} → (A → ℕ) → ℕ → (A → Sign → Bool) → (A → Sign → Parser A) → (A → Parser A) → A → Parser A
grows height room next more list a = look (λ q. if_so (next a q) (if_so (nat_lt (height a) room) (more a q >>= list) too_deep_here) (pure a))

module _ {A : Type 0} (height : A → ℕ) (room : ℕ) (next : A → Sign → Bool) (more : A → Sign → Parser A) (end : (a : A) → next a sign.Eof ≡ false)
    (reads : (a : A) (q : Sign) → Reads 1 false (more a q)) (above : (a : A) (q : Sign) → Gives (λ b. suc (height a) ≤ height b) (more a q)) where
  module _ (W : Words) (n : ℕ) (none : W n ≡ None) where
    same_node : (f g : A → Parser A) (a : A) (o : Outcome A) → AllGive (λ b. suc (height a) ≤ height b) o → place o ≤ n →
        ((b : A) (t : State) → suc (height a) ≤ height b → t.at ≤ n → f b W t ≡ g b W t) → and_then W o f ≡ and_then W o g
    same_node f g a (Ok x) up in_file same = same x.0 x.1 up in_file
    same_node f g a (Err e) up in_file same = refl

    same_choice : (f g : A → Parser A) (a : A) (s : State) (q : Sign) (b c : Bool) → (b ≡ true → s.at + 1 ≤ n) → nat_lt (height a) room ≡ c →
        (height a < room → (b : A) (t : State) → suc (height a) ≤ height b → t.at ≤ n → f b W t ≡ g b W t) →
        if_so b (if_so c (more a q >>= f) too_deep_here) (pure a) W s ≡ if_so b (if_so c (more a q >>= g) too_deep_here) (pure a) W s
    same_choice f g a s q true true word e same =
        same_node f g a (more a q W s) ((above a q).gives W s) ((reads a q).inside W s n none (word refl)) (same (ltb-true (height a) room e))
    same_choice f g a s q true false word e same = refl
    same_choice f g a s q false c word e same = refl

    same_grown : (f g : A → Parser A) (a : A) (s : State) → s.at ≤ n →
        (height a < room → (b : A) (t : State) → suc (height a) ≤ height b → t.at ≤ n → f b W t ≡ g b W t) →
        grows height room next more f a W s ≡ grows height room next more g a W s
    same_grown f g a s le same =
        same_choice f g a s (look_at W s) (next a (look_at W s)) (nat_lt (height a) room) (word_inside (next a) (end a) W s n none le) refl same

    module _ (from : ℕ → A → Parser A) (last : (f : A → Parser A) (a : A) (s : State) → room ≤ height a → from zero a W s ≡ grows height room next more f a W s)
        (turn : (k : ℕ) (a : A) (s : State) → from (suc k) a W s ≡ grows height room next more (from k) a W s) where
      -- those with enough turns agree
      same_turns : (k m : ℕ) (a : A) (s : State) → s.at ≤ n → room ≤ k + height a → room ≤ m + height a → from k a W s ≡ from m a W s
      same_turns zero zero a s le le_k le_m = refl
      same_turns zero (suc m) a s le le_k le_m = last (from m) a s (omega arith) ∙ sym (turn m a s)
      same_turns (suc k) zero a s le le_k le_m = turn k a s ∙ sym (last (from k) a s (omega arith))
      same_turns (suc k) (suc m) a s le le_k le_m =
          turn k a s ∙ same_grown (from k) (from m) a s le (λ low b t up in_file. same_turns k m b t in_file (omega arith) (omega arith)) ∙ sym (turn m a s)

      follows : (k : ℕ) (a : A) (s : State) → s.at ≤ n → room ≤ k → from k a W s ≡ grows height room next more (from k) a W s
      follows zero a s le enough = last (from zero) a s (omega arith)
      follows (suc k) a s le enough =
          turn k a s ∙ same_grown (from k) (from (suc k)) a s le (λ low b t up in_file. same_turns k (suc k) b t in_file (omega arith) (omega arith))

      alone : (others : A → Parser A) → ((a : A) (s : State) → s.at ≤ n → others a W s ≡ grows height room next more others a W s) →
          (k : ℕ) (a : A) (s : State) → s.at ≤ n → room ≤ k + height a → others a W s ≡ from k a W s
      alone others same zero a s le enough = same a s le ∙ sym (last others a s (omega arith))
      alone others same (suc k) a s le enough =
          same a s le ∙ same_grown others (from k) a s le (λ low b t up in_file. alone others same k b t in_file (omega arith)) ∙ sym (turn k a s)

  by_rule : (from : ℕ → A → Parser A) → ((f : A → Parser A) (a : A) (W : Words) (s : State) → room ≤ height a → from zero a W s ≡ grows height room next more f a W s) →
      ((k : ℕ) (a : A) (W : Words) (s : State) → from (suc k) a W s ≡ grows height room next more (from k) a W s) → AreByRule (grows height room next more) (from room)
  by_rule from last turn = record {
    follows = λ ws few a s le. follows (words_of ws) (length ws) (slice_get_past ws (length ws) (le_refl (length ws)))
        from (λ f a s. last f a (words_of ws) s) (λ k a s. turn k a (words_of ws) s) room a s le (le_refl room);
    alone = λ ws few others same a s le. alone (words_of ws) (length ws) (slice_get_past ws (length ws) (le_refl (length ws)))
        from (λ f a s. last f a (words_of ws) s) (λ k a s. turn k a (words_of ws) s) others same room a s le (omega arith);
  }

no_room_left : (height room : ℕ) → room ≤ height → nat_lt height room ≡ false
no_room_left height room le = by (nat_lt height room) refl
  where
    by : (b : Bool) → nat_lt height room ≡ b → b ≡ false
    by true e = absurd (let low = ltb-true height room e in omega arith)
    by false e = refl

deep_or_done : {A : Type 0} (b c : Bool) (a : A) (p : Parser A) (W : Words) (s : State) → c ≡ false →
    if_so b too_deep_here (pure a) W s ≡ if_so b (if_so c p too_deep_here) (pure a) W s
deep_or_done b true a p W s e = absurd (cc)
deep_or_done b false a p W s e = refl

pub operators_by_rule : (sub : Nest) → ReadsNest sub → (room least at : ℕ) → AreByRule (one_more_operator sub room least at) (climb sub room least room at)
unfolding climb
operators_by_rule sub rs room least at =
    by_rule (λ (a : Grown). a.height) room (goes_on sub least) (longer sub at) (λ a. refl) (reads_longer sub rs at) (above_longer sub at)
    (λ k. climb sub room least k at)
    (λ f a W s le. deep_or_done (goes_on sub least a (look_at W s)) (nat_lt a.height room) a _ W s (no_room_left a.height room le))
    (λ k a W s. refl)

pub suffixes_by_rule : (sub : Nest) → ReadsNest sub → (room at : ℕ) → AreByRule (one_more_suffix sub room at) (suffixes sub room room at)
unfolding suffixes
suffixes_by_rule sub rs room at =
    by_rule (λ (d : Declares). d.height) room (λ d. is_suffix) (suffix sub at) (λ d. refl) (reads_suffix sub rs at) (above_suffix sub at)
    (λ k. suffixes sub room k at)
    (λ f d W s le. deep_or_done (is_suffix (look_at W s)) (nat_lt d.height room) d _ W s (no_room_left d.height room le))
    (λ k d W s. refl)
