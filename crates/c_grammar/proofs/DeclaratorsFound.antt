-- Each tree of a declarator is read, or a stop for depth behind the horizon comes first.
use Rattle.std.proofs.Common.{◌≡◌, ℕ, zero, suc, max, ◌+◌, ◌-◌, ◌<◌, ◌≤◌, ◌⊎◌, inl, inr, ◌||◌, nat_lt, is_some, Bool, true, false, List, [], ◌∷◌, ◌++◌, length, take, Option, Some, None, Ok, Err, refl, sym, ap, ◌∙◌, subst, arith, length-append}
use Rattle.std.proofs.lemmas.Bool.Decides.{nat_tests}
use Rattle.c_tree.specs.declared.tree.Ex.{Ex}
use Rattle.c_tree.specs.declared.tree.Param.{Param}
use Rattle.c_tree.specs.declared.tree.DeclForm.TheVariants as form
use Rattle.c_expressions.specs.declared.grown.Grown.{Grown}
use Rattle.c_expressions.specs.declared.grown.Declares.{Declares}
use Rattle.c_expressions.specs.declared.grown.Mode.{Mode}
use Rattle.c_expressions.specs.declared.grown.Mode.TheVariants as mode
use Rattle.c_input.specs.declared.word.Sign.{Sign}
use Rattle.c_input.specs.declared.word.Sign.TheVariants as sign
use Rattle.c_input.specs.declared.word.Place.{Place as State}
use Rattle.c_input.specs.Input.{Names, Words, step, look_at, is_name, oldest, specifies}
use Rattle.c_input.specs.Parser.{too_deep, Outcome, Parser, and_then, ◌>>=◌, ◌>>◌, pure, stop_by, too_deep_here, if_so, expect, take_name, most_words}
use Rattle.c_input.specs.Signs.{is_open_paren, is_close_paren, is_close_bracket}
use Rattle.c_expressions.specs.Nest.{Nest}
use Rattle.c_expressions.specs.Levels.{nest}
use Rattle.c_expressions.specs.Declarators.{is_qualifier, goes_on, node, leaf, or_first, Params, begins_declarator, enclosed, qualifiers, length_tree, length_height, array_of, pointer, parameters_from, parameters, end_list, some_listed, listed_by, listed, function_rest, array_words, array_rest, paren_rest, open_by, direct_by, longer, suffixes, direct, declarator_by, declarator}
use Rattle.c_expressions.specs.Declarators as parser
use Rattle.c_grammar.specs.Below.{Below, Declared, Room, name_at}
use Rattle.c_grammar.specs.DeclaratorTrees.{is_pointer, may_be_named, may_be_unnamed, lists_parameters, around, Listed, DeclaratorIs}
use Rattle.c_grammar.specs.DeclaratorTrees as dcl
use Rattle.c_grammar.proofs.Combinators.{oldest_are}
use Rattle.c_grammar.proofs.HeightRules.{AllGive, above_suffix}
use Rattle.c_grammar.proofs.SpecifierTreesRead.{Ends, declared_of}
use Rattle.c_grammar.proofs.Leads.{Leads, leads_trans, leads_bind, leads_on, expect_found, begun_deep}
use Rattle.c_grammar.proofs.LeadsLists.{other_names}
use Rattle.c_grammar.proofs.NodesFound.{ends_declarator, follows_declarator, FoundDeclarator, declarator_part, FoundBelow}
use Rattle.c_grammar.proofs.ParametersFound.{parameters_found, length_found, qualifiers_up, qualifiers_found_all}

-- ---- suffixes

module _ (sub : Nest) where
  suffixes_deep : (room n at : ℕ) (a : Declares) (W : Words) (s : State) → room ≤ a.height →
      suffixes sub room n at a W s ≡ if_so (goes_on (look_at W s)) too_deep_here (pure a) W s
  unfolding suffixes
  suffixes_deep room zero at a W s big = refl
  suffixes_deep room (suc n) at a W s big = by (goes_on (look_at W s)) (nat_lt a.height room) (grind (arith, nat_tests))
    where
      by : (b c : Bool) → c ≡ false → if_so b (if_so c (longer sub at a (look_at W s) >>= suffixes sub room n at) too_deep_here) (pure a) W s ≡ if_so b too_deep_here (pure a) W s
      by b true e = absurd (cc)
      by b false e = refl

  same_turns : (room n m at : ℕ) (a : Declares) (W : Words) (s : State) → room ≤ n + a.height → room ≤ m + a.height →
      suffixes sub room n at a W s ≡ suffixes sub room m at a W s
  unfolding suffixes
  same_turns room zero m at a W s p q = sym (suffixes_deep room m at a W s (omega arith))
  same_turns room (suc n) zero at a W s p q = suffixes_deep room (suc n) at a W s (omega arith)
  same_turns room (suc n) (suc m) at a W s p q =
      by (goes_on (look_at W s)) (nat_lt a.height room)
      (after (longer sub at a (look_at W s) W s) ((above_suffix sub at a (look_at W s)).gives W s) (λ b t big. same_turns room n m at b W t (omega arith) (omega arith)))
    where
      after : (o : Outcome Declares) → AllGive (λ b. suc a.height ≤ b.height) o →
          ((b : Declares) (t : State) → suc a.height ≤ b.height → suffixes sub room n at b W t ≡ suffixes sub room m at b W t) →
          and_then W o (suffixes sub room n at) ≡ and_then W o (suffixes sub room m at)
      after (Ok x) big f = f x.0 x.1 big
      after (Err e) big f = refl

      by : (b c : Bool) → and_then W (longer sub at a (look_at W s) W s) (suffixes sub room n at) ≡ and_then W (longer sub at a (look_at W s) W s) (suffixes sub room m at) →
          if_so b (if_so c (longer sub at a (look_at W s) >>= suffixes sub room n at) too_deep_here) (pure a) W s
          ≡ if_so b (if_so c (longer sub at a (look_at W s) >>= suffixes sub room m at) too_deep_here) (pure a) W s
      by true true e = e
      by true false e = refl
      by false c e = refl

  suffixes_stop : (room n at : ℕ) (a : Declares) (W : Words) (s : State) → goes_on (look_at W s) ≡ false → suffixes sub room n at a W s ≡ Ok (a, s)
  unfolding suffixes
  suffixes_stop room zero at a W s none = ap (λ b. if_so b too_deep_here (pure a) W s) none
  suffixes_stop room (suc n) at a W s none =
      ap (λ b. if_so b (if_so (nat_lt a.height room) (longer sub at a (look_at W s) >>= suffixes sub room n at) too_deep_here) (pure a) W s) none

  -- one suffix more around it
  suffixes_go : (horizon room n at : ℕ) (a b : Declares) (W : Words) (s t : State) → goes_on (look_at W s) ≡ true → (s.at < horizon → a.height < room) → room ≤ suc n + a.height →
      suc a.height ≤ b.height → Leads horizon (longer sub at a (look_at W s) W s) (Ok (b, t)) → Leads horizon (suffixes sub room (suc n) at a W s) (suffixes sub room room at b W t)
  unfolding suffixes too_deep_here
  suffixes_go horizon room n at a b W s t one fits turns grows on =
      subst (λ c. Leads horizon (if_so c (if_so (nat_lt a.height room) (longer sub at a (look_at W s) >>= suffixes sub room n at) too_deep_here) (pure a) W s) (suffixes sub room room at b W t))
      (sym one) (by_room (nat_lt a.height room) refl)
    where
      by_room : (c : Bool) → nat_lt a.height room ≡ c →
          Leads horizon (if_so c (longer sub at a (look_at W s) >>= suffixes sub room n at) too_deep_here W s) (suffixes sub room room at b W t)
      by_room true e = leads_on horizon W (longer sub at a (look_at W s) W s) (Ok (b, t)) (suffixes sub room n at) _ on
          (inl (same_turns room n room at b W t (omega arith) (omega arith)))
      by_room false e = inr (s.at, ap Err (begun_deep goes_on refl (look_at W s) s.at one), late)
        where
          late : horizon ≤ s.at
          late = grind (arith, nat_tests)

-- ---- signs

ends_no_suffix : (m : Mode) (q : Sign) → ends_declarator m q ≡ true → goes_on q ≡ false
ends_no_suffix mode.Named sign.OpenParen e = absurd (cc)
ends_no_suffix mode.Named sign.OpenBracket e = absurd (cc)
ends_no_suffix mode.Abstract sign.OpenParen e = absurd (cc)
ends_no_suffix mode.Abstract sign.OpenBracket e = absurd (cc)
ends_no_suffix mode.Parameter sign.OpenParen e = absurd (cc)
ends_no_suffix mode.Parameter sign.OpenBracket e = absurd (cc)
ends_no_suffix mode.Enclosed sign.OpenParen e = absurd (cc)
ends_no_suffix mode.Enclosed sign.OpenBracket e = absurd (cc)
ends_no_suffix _ _ e = refl

close_ends : (m : Mode) → ends_declarator m sign.CloseParen ≡ true
close_ends mode.Named = refl
close_ends mode.Abstract = refl
close_ends mode.Parameter = refl
close_ends mode.Enclosed = refl

name_begins : (m : Mode) (q : Sign) → may_be_named m ≡ true → is_name q ≡ true → begins_declarator m q ≡ true
name_begins mode.Abstract q may e = absurd (cc)
name_begins mode.Named sign.Name may e = refl
name_begins mode.Named sign.TypeName may e = refl
name_begins mode.Named _ may e = absurd (cc)
name_begins mode.Parameter sign.Name may e = refl
name_begins mode.Parameter sign.TypeName may e = refl
name_begins mode.Parameter _ may e = absurd (cc)
name_begins mode.Enclosed sign.Name may e = refl
name_begins mode.Enclosed sign.TypeName may e = refl
name_begins mode.Enclosed _ may e = absurd (cc)

open_begins : (m : Mode) → begins_declarator m sign.OpenParen ≡ true
open_begins mode.Named = refl
open_begins mode.Abstract = refl
open_begins mode.Parameter = refl
open_begins mode.Enclosed = refl

star_begins : (m : Mode) → begins_declarator m sign.Star ≡ true
star_begins mode.Named = refl
star_begins mode.Abstract = refl
star_begins mode.Parameter = refl
star_begins mode.Enclosed = refl

omitted_begins : (m : Mode) (q : Sign) → may_be_unnamed m ≡ true → follows_declarator m q ≡ true → begins_declarator m q ≡ true
omitted_begins mode.Named q may e = absurd (cc)
omitted_begins mode.Abstract sign.OpenParen may e = refl
omitted_begins mode.Abstract sign.OpenBracket may e = refl
omitted_begins mode.Abstract sign.CloseParen may e = refl
omitted_begins mode.Abstract _ may e = absurd (cc)
omitted_begins mode.Parameter sign.OpenParen may e = refl
omitted_begins mode.Parameter sign.OpenBracket may e = refl
omitted_begins mode.Parameter sign.CloseParen may e = refl
omitted_begins mode.Parameter sign.Comma may e = refl
omitted_begins mode.Parameter _ may e = absurd (cc)
omitted_begins mode.Enclosed sign.OpenParen may e = refl
omitted_begins mode.Enclosed sign.OpenBracket may e = refl
omitted_begins mode.Enclosed sign.CloseParen may e = refl
omitted_begins mode.Enclosed _ may e = absurd (cc)

-- what may follow a declarator without words, but for the bracket of a list of parameters
omitted_is : (m : Mode) (q : Sign) → may_be_unnamed m ≡ true → follows_declarator m q ≡ true → is_open_paren q ≡ false → (sub : Nest) (room at : ℕ) →
    direct_by sub room m at q ≡ pure (leaf at form.Abstract None)
omitted_is mode.Named q may e no_list sub room at = absurd (cc)
omitted_is mode.Abstract sign.OpenParen may e no_list sub room at = absurd (cc)
omitted_is mode.Abstract _ may e no_list sub room at = refl
omitted_is mode.Parameter sign.OpenParen may e no_list sub room at = absurd (cc)
omitted_is mode.Parameter sign.OpenBracket may e no_list sub room at = refl
omitted_is mode.Parameter sign.CloseParen may e no_list sub room at = refl
omitted_is mode.Parameter sign.Comma may e no_list sub room at = refl
omitted_is mode.Parameter _ may e no_list sub room at = absurd (cc)
omitted_is mode.Enclosed sign.OpenParen may e no_list sub room at = absurd (cc)
omitted_is mode.Enclosed sign.OpenBracket may e no_list sub room at = refl
omitted_is mode.Enclosed sign.CloseParen may e no_list sub room at = refl
omitted_is mode.Enclosed _ may e no_list sub room at = absurd (cc)

ends_no_open : (m : Mode) (q : Sign) → may_be_unnamed m ≡ true → ends_declarator m q ≡ true → is_open_paren q ≡ false
ends_no_open mode.Named q may e = absurd (cc)
ends_no_open mode.Abstract sign.OpenParen may e = absurd (cc)
ends_no_open mode.Parameter sign.OpenParen may e = absurd (cc)
ends_no_open mode.Enclosed sign.OpenParen may e = absurd (cc)
ends_no_open _ _ may e = refl

either : (a b : Bool) → b ≡ true → a || b ≡ true
either true b e = refl
either false b e = e

first_of_two : (a b : Bool) → a ≡ true → a || b ≡ true
first_of_two true b e = refl
first_of_two false b e = absurd (cc)

follows_plain : (m : Mode) (q : Sign) → may_be_unnamed m ≡ true → follows_declarator m q ≡ true → is_pointer q ≡ false
follows_plain mode.Named q may e = absurd (cc)
follows_plain mode.Abstract sign.Star may e = absurd (cc)
follows_plain mode.Parameter sign.Star may e = absurd (cc)
follows_plain mode.Enclosed sign.Star may e = absurd (cc)
follows_plain _ _ may e = refl

name_plain : (q : Sign) → is_name q ≡ true → is_pointer q ≡ false
name_plain sign.Star e = absurd (cc)
name_plain _ e = refl

name_is : (m : Mode) (q : Sign) → may_be_named m ≡ true → is_name q ≡ true → (sub : Nest) (room at : ℕ) →
    direct_by sub room m at q ≡ (take_name >>= (λ n. pure (leaf at form.Name (Some n.0))))
name_is mode.Abstract q may e sub room at = absurd (cc)
name_is mode.Named sign.Name may e sub room at = refl
name_is mode.Named sign.TypeName may e sub room at = refl
name_is mode.Named _ may e sub room at = absurd (cc)
name_is mode.Parameter sign.Name may e sub room at = refl
name_is mode.Parameter sign.TypeName may e sub room at = refl
name_is mode.Parameter _ may e sub room at = absurd (cc)
name_is mode.Enclosed sign.Name may e sub room at = refl
name_is mode.Enclosed sign.TypeName may e sub room at = refl
name_is mode.Enclosed _ may e sub room at = absurd (cc)

open_is : (W : Words) (s : State) (m : Mode) → (m ≡ mode.Named) ⊎ (lists_parameters (look_at W (step s)) ≡ false) → (sub : Nest) (room at : ℕ) →
    direct_by sub room m at sign.OpenParen W s ≡ paren_rest sub m at W (step s)
open_is W s mode.Named which sub room at = refl
open_is W s mode.Abstract (inl e) sub room at = absurd (cc)
open_is W s mode.Parameter (inl e) sub room at = absurd (cc)
open_is W s mode.Enclosed (inl e) sub room at = absurd (cc)
open_is W s mode.Abstract (inr e) sub room at =
    ap (λ b. if_so b (if_so (nat_lt 1 room) (function_rest sub at (leaf at form.Abstract None)) too_deep_here) (paren_rest sub mode.Abstract at) W (step s)) e
open_is W s mode.Parameter (inr e) sub room at =
    ap (λ b. if_so b (if_so (nat_lt 1 room) (function_rest sub at (leaf at form.Abstract None)) too_deep_here) (paren_rest sub mode.Parameter at) W (step s)) e
open_is W s mode.Enclosed (inr e) sub room at =
    ap (λ b. if_so b (if_so (nat_lt 1 room) (function_rest sub at (leaf at form.Abstract None)) too_deep_here) (paren_rest sub mode.Enclosed at) W (step s)) e

list_is : (W : Words) (s : State) (m : Mode) → may_be_unnamed m ≡ true → lists_parameters (look_at W (step s)) ≡ true → (sub : Nest) (room at : ℕ) →
    direct_by sub room m at sign.OpenParen W s ≡ if_so (nat_lt 1 room) (function_rest sub at (leaf at form.Abstract None)) too_deep_here W (step s)
list_is W s mode.Named may e sub room at = absurd (cc)
list_is W s mode.Abstract may e sub room at =
    ap (λ b. if_so b (if_so (nat_lt 1 room) (function_rest sub at (leaf at form.Abstract None)) too_deep_here) (paren_rest sub mode.Abstract at) W (step s)) e
list_is W s mode.Parameter may e sub room at =
    ap (λ b. if_so b (if_so (nat_lt 1 room) (function_rest sub at (leaf at form.Abstract None)) too_deep_here) (paren_rest sub mode.Parameter at) W (step s)) e
list_is W s mode.Enclosed may e sub room at =
    ap (λ b. if_so b (if_so (nat_lt 1 room) (function_rest sub at (leaf at form.Abstract None)) too_deep_here) (paren_rest sub mode.Enclosed at) W (step s)) e

plain_is : (q : Sign) → is_pointer q ≡ false → (sub : Nest) (room : ℕ) (m : Mode) → declarator_by sub room m q ≡ direct sub room m
plain_is sign.Star e sub room m = absurd (cc)
plain_is _ e sub room m = refl

goes_where : (q : Sign) → goes_on q ≡ true → (q ≡ sign.OpenParen) ⊎ (q ≡ sign.OpenBracket)
goes_where sign.OpenParen e = inl refl
goes_where sign.OpenBracket e = inr refl
goes_where _ e = absurd (cc)

specifies_no_name : (q : Sign) → specifies false q ≡ true → (sub : Nest) (named : Bool) → listed_by sub named q ≡ some_listed sub
specifies_no_name sign.CloseParen e sub named = absurd (cc)
specifies_no_name sign.Name e sub named = absurd (cc)
specifies_no_name _ e sub true = refl
specifies_no_name _ e sub false = refl

-- a declarator with a list of parameters
abbrev after_list : ℕ → Declares → List Param → ℕ → Bool → Names → Declares
after_list at d params k variadic names = record { tree = node at (form.Function d.tree params variadic); height = suc (max d.height k); name = d.name; params = or_first d.params names }

abbrev function_of : State → Declared → List Param → Bool → Names → Declared
function_of s d all dots names = record { tree = node s.at (form.Function d.tree all dots); name = d.name; params = or_first d.params names }

newest_are : (new outer : Names) → take (length new) (new ++ outer) ≡ new
newest_are [] outer = refl
newest_are (x ∷ new) outer = ap (λ xs. x ∷ xs) (newest_are new outer)

newest : (outer names new : Names) → names ≡ new ++ outer → take (length names - length outer) names ≡ new
newest outer names new e = ap (λ xs. take (length xs - length outer) xs) e ∙ ap (λ n. take n (new ++ outer)) (omega (arith, length-append new outer)) ∙ newest_are new outer

no_names : (outer new : Names) → outer ≡ new ++ outer → [] ≡ new
no_names outer new e = ap (λ n. take n outer) (let same : 0 ≡ length outer - length outer = omega arith in same) ∙ newest outer outer new e

module _ (horizon : ℕ) (W : Words) (B : Below) (below : FoundBelow horizon W B) (ends : Ends W) where
  direct_leads : (s : State) (n : ℕ) (m : Mode) (o : Outcome Declares) → is_pointer (look_at W s) ≡ false →
      Leads horizon (and_then W (direct_by (nest n) (suc n) m s.at (look_at W s) W s) (suffixes (nest n) (suc n) (suc n) s.at)) o → Leads horizon (declarator (nest n) (suc n) m W s) o
  unfolding declarator direct
  direct_leads s n m o plain on = subst (λ (p : Parser Declares). Leads horizon (p W s) o) (sym (plain_is (look_at W s) plain (nest n) (suc n) m)) on

  -- one that begins no pointer, read up to its suffixes
  direct_found : (r : ℕ) (m : Mode) (d : Declared) (s t : State) (g : Declares) → declared_of g ≡ d → s.at ≤ t.at → Room horizon r s → (t.at < horizon → g.height ≤ r) →
      begins_declarator m (look_at W s) ≡ true →
      ((n : ℕ) → (0 < horizon → r ≤ suc n) → Leads horizon (declarator (nest n) (suc n) m W s) (suffixes (nest n) (suc n) (suc n) s.at g W t)) → FoundDeclarator horizon W r m d s t
  direct_found r m d s t g same up room small begun read = record {
    grown = g;
    tree = same;
    forward = up;
    roomy = room;
    small = small;
    begun = λ _. begun;
    leads = λ n more end. leads_trans horizon _ _ _ (read n more) (inl (suffixes_stop (nest n) (suc n) (suc n) s.at g W t (ends_no_suffix m (look_at W t) end)));
    onward = λ plain n more one lists b u grows on. leads_trans horizon _ _ _ (read n (λ p. let x = more p in omega arith))
        (suffixes_go (nest n) horizon (suc n) n s.at g b W t u one (λ lt. let x = small lt in let y = more (omega arith) in omega arith) (omega arith) grows on);
  }

  identifier : (r : ℕ) (m : Mode) (s : State) → Room horizon r s → may_be_named m ≡ true → is_name (look_at W s) ≡ true →
      FoundDeclarator horizon W r m (record { tree = node s.at form.Name; name = Some (name_at W s); params = None }) s (step s)
  identifier r m s room may named = direct_found r m _ s (step s) (leaf s.at form.Name (Some (name_at W s))) refl (omega arith) room (λ lt. room (omega arith)) (name_begins m (look_at W s) may named)
      (λ n more. direct_leads s n m _ (name_plain (look_at W s) named)
      (inl (ap (λ (p : Parser Declares). and_then W (p W s) (suffixes (nest n) (suc n) (suc n) s.at)) (name_is m (look_at W s) may named (nest n) (suc n) s.at))))

  paren_leads : (s t : State) (n : ℕ) (m : Mode) (d : Declares) → Leads horizon ((nest n).declarator (enclosed m) W (step s)) (Ok (d, t)) → look_at W t ≡ sign.CloseParen →
      Leads horizon (paren_rest (nest n) m s.at W (step s)) (Ok (parser.around s.at (form.Paren d.tree) d.height d, step t))
  unfolding paren_rest
  paren_leads s t n m d on close = leads_on horizon W ((nest n).declarator (enclosed m) W (step s)) (Ok (d, t)) _ _ on
      (inl (ap (λ o. and_then W o (λ _. pure (parser.around s.at (form.Paren d.tree) d.height d))) (expect_found is_close_paren W t (ap is_close_paren close))))

  bracketed : (r : ℕ) (m : Mode) (d : Declared) (s t : State) → Room horizon r s → look_at W s ≡ sign.OpenParen → (m ≡ mode.Named) ⊎ (lists_parameters (look_at W (step s)) ≡ false) →
      B.declarator (r - 1) (enclosed m) d (step s) t → look_at W t ≡ sign.CloseParen → FoundDeclarator horizon W r m (around s (form.Paren d.tree) d) s (step t)
  bracketed r m d s t room opens which h close =
      let f = below.declarator (r - 1) (enclosed m) d (step s) t h in
      let up = f.forward in
      direct_found r m _ s (step t) (parser.around s.at (form.Paren f.grown.tree) f.grown.height f.grown) (ap (λ (z : Declared). around s (form.Paren z.tree) z) f.tree) (omega arith) room
      (λ lt. let a = f.small (omega arith) in let b = room (omega arith) in omega arith) (ap (begins_declarator m) opens ∙ open_begins m)
      (λ n more. direct_leads s n m _ (ap is_pointer opens)
      (subst (λ o. Leads horizon (and_then W o (suffixes (nest n) (suc n) (suc n) s.at)) (suffixes (nest n) (suc n) (suc n) s.at (parser.around s.at (form.Paren f.grown.tree) f.grown.height f.grown) W (step t)))
      (sym (ap (λ q. direct_by (nest n) (suc n) m s.at q W s) opens ∙ open_is W s m which (nest n) (suc n) s.at))
      (leads_on horizon W (paren_rest (nest n) m s.at W (step s)) (Ok (parser.around s.at (form.Paren f.grown.tree) f.grown.height f.grown, step t)) _ _
      (paren_leads s t n m f.grown (declarator_part horizon W (r - 1) (enclosed m) d (step s) t f n (λ p. let x = more p in omega arith) (ap (ends_declarator (enclosed m)) close ∙ close_ends (enclosed m))) close)
      (inl refl))))

  -- ---- pointers
  pointer_leads : (s t u : State) (n : ℕ) (m : Mode) (words : List ℕ) (d : Declares) → look_at W s ≡ sign.Star → Leads horizon (qualifiers W (step s)) (Ok (words, t)) →
      Leads horizon ((nest n).declarator m W t) (Ok (d, u)) → Leads horizon (declarator (nest n) (suc n) m W s) (Ok (parser.around s.at (form.Pointer words d.tree) d.height d, u))
  unfolding declarator pointer
  pointer_leads s t u n m words d star on next = subst (λ q. Leads horizon (declarator_by (nest n) (suc n) m q W s) (Ok (parser.around s.at (form.Pointer words d.tree) d.height d, u))) (sym star)
      (leads_on horizon W (qualifiers W (step s)) (Ok (words, t)) _ _ on (leads_on horizon W ((nest n).declarator m W t) (Ok (d, u)) _ _ next (inl refl)))

  begins_no_qualifier : (m : Mode) (q : Sign) → begins_declarator m q ≡ true → is_qualifier q ≡ false
  begins_no_qualifier mode.Named sign.Qualifier e = absurd (cc)
  begins_no_qualifier mode.Abstract sign.Qualifier e = absurd (cc)
  begins_no_qualifier mode.Parameter sign.Qualifier e = absurd (cc)
  begins_no_qualifier mode.Enclosed sign.Qualifier e = absurd (cc)
  begins_no_qualifier _ _ e = refl

  pointed : (r : ℕ) (m : Mode) (words : List ℕ) (d : Declared) (s t u : State) → Room horizon r s → look_at W s ≡ sign.Star → dcl.Qualifiers horizon W B words (step s) t →
      B.declarator (r - 1) m d t u → FoundDeclarator horizon W r m (around s (form.Pointer words d.tree) d) s u
  pointed r m words d s t u room star h g =
      let f = below.declarator (r - 1) m d t u g in
      let up = qualifiers_up horizon W B below ends words (step s) t h in
      let up2 = f.forward in
      record {
        grown = parser.around s.at (form.Pointer words f.grown.tree) f.grown.height f.grown;
        tree = ap (λ (z : Declared). around s (form.Pointer words z.tree) z) f.tree;
        forward = omega arith;
        roomy = room;
        small = λ lt. let a = f.small lt in let b = room (omega arith) in omega arith;
        begun = λ _. ap (begins_declarator m) star ∙ star_begins m;
        leads = λ n more end. pointer_leads s t u n m words f.grown star
            (qualifiers_found_all horizon W B below ends words (step s) t h (begins_no_qualifier m (look_at W t) (f.begun (either (goes_on (look_at W u)) _ end))))
            (declarator_part horizon W (r - 1) m d t u f n (λ p. let x = more p in omega arith) end);
        onward = λ plain. let no : is_pointer (look_at W s) ≡ true = ap is_pointer star in absurd (cc);
      }

  -- ---- declarators without words
  omitted_leads : (s : State) (n : ℕ) (m : Mode) → may_be_unnamed m ≡ true → follows_declarator m (look_at W s) ≡ true → is_open_paren (look_at W s) ≡ false →
      Leads horizon (declarator (nest n) (suc n) m W s) (suffixes (nest n) (suc n) (suc n) s.at (leaf s.at form.Abstract None) W s)
  omitted_leads s n m may follow no_list = direct_leads s n m _ (follows_plain m (look_at W s) may follow)
      (inl (ap (λ (p : Parser Declares). and_then W (p W s) (suffixes (nest n) (suc n) (suc n) s.at)) (omitted_is m (look_at W s) may follow no_list (nest n) (suc n) s.at)))

  lists_left : (q : Sign) → lists_parameters q ≡ true → (at : ℕ) → stop_by q at (too_deep at) ≡ too_deep at
  lists_left q e at = begun_deep lists_parameters refl q at e

  list_leads : (s u : State) (n : ℕ) (m : Mode) (b : Declares) → may_be_unnamed m ≡ true → look_at W s ≡ sign.OpenParen → lists_parameters (look_at W (step s)) ≡ true → (s.at < horizon → 1 < suc n) →
      Leads horizon (function_rest (nest n) s.at (leaf s.at form.Abstract None) W (step s)) (Ok (b, u)) →
      Leads horizon (declarator (nest n) (suc n) m W s) (suffixes (nest n) (suc n) (suc n) s.at b W u)
  unfolding too_deep_here
  list_leads s u n m b may opens lists room on = direct_leads s n m _ (ap is_pointer opens)
      (subst (λ o. Leads horizon (and_then W o (suffixes (nest n) (suc n) (suc n) s.at)) (suffixes (nest n) (suc n) (suc n) s.at b W u))
      (sym (ap (λ q. direct_by (nest n) (suc n) m s.at q W s) opens ∙ list_is W s m may lists (nest n) (suc n) s.at)) (by (nat_lt 1 (suc n)) refl))
    where
      by : (c : Bool) → nat_lt 1 (suc n) ≡ c → Leads horizon (and_then W (if_so c (function_rest (nest n) s.at (leaf s.at form.Abstract None)) too_deep_here W (step s)) (suffixes (nest n) (suc n) (suc n) s.at))
          (suffixes (nest n) (suc n) (suc n) s.at b W u)
      by true e = leads_on horizon W (function_rest (nest n) s.at (leaf s.at form.Abstract None) W (step s)) (Ok (b, u)) _ _ on (inl refl)
      by false e = inr (suc s.at, ap Err (lists_left (look_at W (step s)) lists (suc s.at)), late)
        where
          late : horizon ≤ suc s.at
          late = grind (arith, nat_tests)

  omitted : (r : ℕ) (m : Mode) (s : State) → Room horizon r s → may_be_unnamed m ≡ true →
      FoundDeclarator horizon W r m (record { tree = node s.at form.Abstract; name = None; params = None }) s s
  unfolding longer
  omitted r m s room may = record {
    grown = leaf s.at form.Abstract None;
    tree = refl;
    forward = omega arith;
    roomy = room;
    small = λ lt. room lt;
    begun = λ follow. omitted_begins m (look_at W s) may follow;
    leads = λ n more end. leads_trans horizon _ _ _ (omitted_leads s n m may (either (goes_on (look_at W s)) _ end) (ends_no_open m (look_at W s) may end))
        (inl (suffixes_stop (nest n) (suc n) (suc n) s.at (leaf s.at form.Abstract None) W s (ends_no_suffix m (look_at W s) end)));
    onward = λ plain n more one lists b u grows on. by n more b u grows on lists (goes_where (look_at W s) one);
  }
    where
      by : (n : ℕ) → (0 < horizon → r < suc n) → (b : Declares) (u : State) → 2 ≤ b.height → Leads horizon (longer (nest n) s.at (leaf s.at form.Abstract None) (look_at W s) W s) (Ok (b, u)) →
          (look_at W s ≡ sign.OpenParen → lists_parameters (look_at W (step s)) ≡ true) → (look_at W s ≡ sign.OpenParen) ⊎ (look_at W s ≡ sign.OpenBracket) →
          Leads horizon (declarator (nest n) (suc n) m W s) (suffixes (nest n) (suc n) (suc n) s.at b W u)
      by n more b u grows on lists (inl opens) = list_leads s u n m b may opens (lists opens) (λ lt. let x = room lt in let y = more (omega arith) in omega arith)
          (subst (λ q. Leads horizon (longer (nest n) s.at (leaf s.at form.Abstract None) q W s) (Ok (b, u))) opens on)
      by n more b u grows on lists (inr opens) = leads_trans horizon _ _ _
          (omitted_leads s n m may (ap (follows_declarator m) opens) (ap is_open_paren opens))
          (suffixes_go (nest n) horizon (suc n) n s.at (leaf s.at form.Abstract None) b W s u (ap goes_on opens) (λ lt. let x = room lt in let y = more (omega arith) in omega arith) (omega arith) grows on)

  -- ---- arrays
  array_leads : (s t u : State) (n : ℕ) (d : Declares) (words : List ℕ) (length : Option Grown) → look_at W t ≡ sign.OpenBracket →
      Leads horizon (array_words (nest n) (is_some d.name) W (step t)) (Ok ((words, length), u)) → look_at W u ≡ sign.CloseBracket →
      Leads horizon (longer (nest n) s.at d (look_at W t) W t) (Ok (array_of s.at d words length, step u))
  unfolding longer array_rest
  array_leads s t u n d words length opens on close = subst (λ q. Leads horizon (longer (nest n) s.at d q W t) (Ok (array_of s.at d words length, step u))) (sym opens)
      (leads_on horizon W (array_words (nest n) (is_some d.name) W (step t)) (Ok ((words, length), u)) _ _ on
      (inl (ap (λ o. and_then W o (λ _. pure (array_of s.at d words length))) (expect_found is_close_bracket W u (ap is_close_bracket close)))))

  array : (r : ℕ) (m : Mode) (words : List ℕ) (length : Option Ex) (d : Declared) (s t u : State) → Room horizon r s → is_pointer (look_at W s) ≡ false → B.declarator (r - 1) m d s t →
      look_at W t ≡ sign.OpenBracket → dcl.Length horizon W B (r - 1) words length (step t) u → look_at W u ≡ sign.CloseBracket →
      FoundDeclarator horizon W r m (around s (form.Array d.tree words length) d) s (step u)
  array r m words length d s t u room plain h opens g close =
      let f = below.declarator (r - 1) m d s t h in
      let k = length_found horizon W B below ends (r - 1) words length (step t) u g in
      let up = f.forward in
      let up2 = k.forward in
      direct_found r m _ s (step u) (array_of s.at f.grown words k.value)
      (ap (λ (z : Declared). around s (form.Array z.tree words (length_tree k.value)) z) f.tree ∙ ap (λ z. around s (form.Array d.tree words z) d) k.tree) (omega arith) room
      (λ lt. let a = f.small (omega arith) in let b = k.small (omega arith) in let c = room (omega arith) in omega arith)
      (f.begun (ap (follows_declarator m) opens))
      (λ n more. f.onward plain n (λ p. let x = more p in omega arith) (ap goes_on opens) (λ o. let x : sign.OpenBracket ≡ sign.OpenParen = sym opens ∙ o in absurd (cc))
      (array_of s.at f.grown words k.value) (step u) (omega arith)
      (array_leads s t u n f.grown words k.value opens (k.leads n (is_some f.grown.name) (λ p. let x = more p in omega arith) close) close))

  -- ---- functions
  record FoundListed (r : ℕ) (all : List Param) (dots : Bool) (names : Names) (t u : State) : Type 0 where
    params : List Param
    height : ℕ
    variadic : Bool
    tree : params ≡ all
    is_variadic : variadic ≡ dots
    forward : t.at + 1 ≤ u.at
    begun : lists_parameters (look_at W (step t)) ≡ true
    small : u.at < horizon → height ≤ r
    leads : (n at : ℕ) (d : Declares) → (0 < horizon → r ≤ n) → look_at W u ≡ sign.CloseParen →
        Leads horizon (function_rest (nest n) at d W (step t)) (Ok (after_list at d params height variadic names, record { at = suc u.at; names = t.names }))

  none_leads : (t : State) (n at : ℕ) (d : Declares) → look_at W (step t) ≡ sign.CloseParen → function_rest (nest n) at d W (step t) ≡ Ok (after_list at d [] 0 false [], step (step t))
  unfolding function_rest listed
  none_leads t n at d close = ap (λ q. and_then W (listed_by (nest n) (is_some d.name) q W (step t)) (λ l. expect is_close_paren >> pure (after_list at d l.params l.height l.variadic l.names))) close
      ∙ ap (λ o. and_then W o (λ _. pure (after_list at d [] 0 false []))) (expect_found is_close_paren W (step t) (ap is_close_paren close))

  some_leads : (t u : State) (n at : ℕ) (d : Declares) (x : Params) (names : Names) → specifies false (look_at W (step t)) ≡ true →
      Leads horizon (parameters_from (nest n) (most_words - suc t.at) W (step t)) (Ok (x, u)) → u.names ≡ names ++ t.names → look_at W u ≡ sign.CloseParen →
      Leads horizon (function_rest (nest n) at d W (step t)) (Ok (after_list at d x.0.tree x.0.height x.1 names, record { at = suc u.at; names = t.names }))
  unfolding function_rest listed some_listed parameters
  some_leads t u n at d x names begun on e close =
      subst (λ (p : Parser _). Leads horizon (and_then W (p W (step t)) (λ l. expect is_close_paren >> pure (after_list at d l.params l.height l.variadic l.names)))
      (Ok (after_list at d x.0.tree x.0.height x.1 names, record { at = suc u.at; names = t.names }))) (sym (specifies_no_name (look_at W (step t)) begun (nest n) (is_some d.name)))
      (leads_trans horizon _ _ _ (leads_bind horizon W _ _ _ (leads_bind horizon W _ (Ok (x, u)) (end_list (nest n) t.names) on))
      (inl (ap (λ o. and_then W o (λ _. pure (after_list at d x.0.tree x.0.height x.1 (take (length u.names - length t.names) u.names))))
      (expect_found is_close_paren W (record { at = u.at; names = oldest (length t.names) u.names })
      (ap is_close_paren (other_names W u.at u.names (oldest (length t.names) u.names) sign.CloseParen refl close)))
      ∙ ap (λ z. Ok (after_list at d x.0.tree x.0.height x.1 z, record { at = suc u.at; names = oldest (length t.names) u.names })) (newest t.names u.names names e)
      ∙ ap (λ z. Ok (after_list at d x.0.tree x.0.height x.1 names, record { at = suc u.at; names = z })) (oldest_are t.names u.names (names, e)))))

  listed_found : (r : ℕ) (all : List Param) (dots : Bool) (names : Names) (t u : State) → Listed horizon W B r all dots (step t) u → u.names ≡ names ++ t.names → FoundListed r all dots names t u
  listed_found r all dots names t u (dcl.no_parameters _ close) e = record {
    params = [];
    height = 0;
    variadic = false;
    tree = refl;
    is_variadic = refl;
    forward = omega arith;
    begun = ap lists_parameters close;
    small = λ lt. omega arith;
    leads = λ n at d more _. inl (none_leads t n at d close ∙ ap (λ z. Ok (after_list at d [] 0 false z, step (step t))) (no_names t.names names e));
  }
  listed_found r all dots names t u (dcl.parameters _ _ _ _ h) e =
      let f = parameters_found horizon W B below ends r all dots (step t) u h in
      let up = f.forward in
      record {
        params = f.params.0.tree;
        height = f.params.0.height;
        variadic = f.params.1;
        tree = f.tree;
        is_variadic = f.is_variadic;
        forward = omega arith;
        begun = either (is_close_paren (look_at W (step t))) _ f.begun;
        small = f.small;
        leads = λ n at d more close. some_leads t u n at d f.params names f.begun (f.leads n (most_words - suc t.at) more (omega arith) close) e close;
      }

  longer_leads : (s t : State) (n : ℕ) (d : Declares) (o : Outcome Declares) → look_at W t ≡ sign.OpenParen → Leads horizon (function_rest (nest n) s.at d W (step t)) o →
      Leads horizon (longer (nest n) s.at d (look_at W t) W t) o
  unfolding longer
  longer_leads s t n d o opens on = subst (λ q. Leads horizon (longer (nest n) s.at d q W t) o) (sym opens) on

  function : (r : ℕ) (m : Mode) (all : List Param) (dots : Bool) (names : Names) (d : Declared) (s t u : State) → Room horizon r s → is_pointer (look_at W s) ≡ false →
      B.declarator (r - 1) m d s t → look_at W t ≡ sign.OpenParen → Listed horizon W B (r - 1) all dots (step t) u → u.names ≡ names ++ t.names → look_at W u ≡ sign.CloseParen →
      FoundDeclarator horizon W r m (record { tree = node s.at (form.Function d.tree all dots); name = d.name; params = or_first d.params names }) s (record { at = suc u.at; names = t.names })
  function r m all dots names d s t u room plain h opens g e close =
      let f = below.declarator (r - 1) m d s t h in
      let k = listed_found (r - 1) all dots names t u g e in
      let up = f.forward in
      let up2 = k.forward in
      direct_found r m _ s (record { at = suc u.at; names = t.names }) (after_list s.at f.grown k.params k.height k.variadic names)
      (ap (λ (z : Declared). function_of s z k.params k.variadic names) f.tree ∙ ap (λ z. function_of s d z k.variadic names) k.tree ∙ ap (λ z. function_of s d all z names) k.is_variadic)
      (omega arith) room (λ lt. let a = f.small (omega arith) in let b = k.small (omega arith) in let c = room (omega arith) in omega arith)
      (f.begun (ap (follows_declarator m) opens))
      (λ n more. f.onward plain n (λ p. let x = more p in omega arith) (ap goes_on opens) (λ _. k.begun)
      (after_list s.at f.grown k.params k.height k.variadic names) (record { at = suc u.at; names = t.names }) (omega arith)
      (longer_leads s t n f.grown _ opens (k.leads n s.at f.grown (λ p. let x = more p in omega arith) close)))

  pub declarator_found : (r : ℕ) (m : Mode) (d : Declared) (s t : State) → DeclaratorIs horizon W B r m d s t → FoundDeclarator horizon W r m d s t
  declarator_found r m d s t (dcl.identifier _ _ room may named) = identifier r m s room may named
  declarator_found r m d s t (dcl.omitted _ _ room may) = omitted r m s room may
  declarator_found r m d s t (dcl.bracketed _ x _ u room opens which h close) = bracketed r m x s u room opens which h close
  declarator_found r m d s t (dcl.pointer _ words x _ u _ room star h g) = pointed r m words x s u t room star h g
  declarator_found r m d s t (dcl.array _ words length x _ u v room plain h opens g close) = array r m words length x s u v room plain h opens g close
  declarator_found r m d s t (dcl.function _ all dots names x _ u v room plain h opens g e close) = function r m all dots names x s u v room plain h opens g e close
