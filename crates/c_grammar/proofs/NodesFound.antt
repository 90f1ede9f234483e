-- What is known of the trees of declarators and of lines of members.
use Rattle.std.proofs.Common.{◌≡◌, ℕ, zero, suc, ◌+◌, ◌<◌, ◌≤◌, inr, ◌||◌, Bool, true, false, Ok, refl, arith}
use Rattle.c_tree.specs.declared.tree.Ex.{Ex}
use Rattle.c_tree.specs.declared.tree.MemberLine.{MemberLine}
use Rattle.c_expressions.specs.declared.grown.Declares.{Declares}
use Rattle.c_expressions.specs.declared.grown.Mode.{Mode}
use Rattle.c_expressions.specs.declared.grown.Mode.TheVariants as mode
use Rattle.c_input.specs.declared.word.Sign.{Sign}
use Rattle.c_input.specs.declared.word.Sign.TheVariants as sign
use Rattle.c_input.specs.declared.word.Place.{Place as State}
use Rattle.c_input.specs.declared.measured.Measured.{Measured}
use Rattle.c_input.specs.Input.{Words, step, look_at, qualifies}
use Rattle.c_expressions.specs.Levels.{nest}
use Rattle.c_expressions.specs.Specifiers.{member_line}
use Rattle.c_expressions.specs.Declarators.{begins_declarator, goes_on, declarator, suffixes, longer}
use Rattle.c_grammar.specs.Below.{Below, Declared}
use Rattle.c_grammar.specs.DeclaratorTrees.{is_pointer, lists_parameters}
use Rattle.c_grammar.proofs.SpecifierTreesRead.{declared_of}
use Rattle.c_grammar.proofs.Leads.{Leads}
use Rattle.c_grammar.proofs.LeadsLists.{no_room_is}
use Rattle.c_grammar.proofs.ExpressionsFound.{FoundEx}

abbrev pub is_brace : Sign → Bool
is_brace sign.OpenBrace = true
is_brace _ = false

-- what ends a declarator that has no name, and what is no suffix of one that has
abbrev pub ends_declarator : Mode → Sign → Bool
ends_declarator mode.Named sign.OpenParen = false
ends_declarator mode.Named sign.OpenBracket = false
ends_declarator mode.Named _ = true
ends_declarator m sign.CloseParen = true
ends_declarator mode.Parameter sign.Comma = true
ends_declarator m _ = false

abbrev pub follows_declarator : Mode → Sign → Bool
follows_declarator m q = goes_on q || ends_declarator m q

-- what is known of a declarator's tree
pub record FoundDeclarator (horizon : ℕ) (W : Words) (r : ℕ) (m : Mode) (d : Declared) (s t : State) : Type 0 where
  pub grown : Declares
  pub tree : declared_of grown ≡ d
  pub forward : s.at ≤ t.at
  pub roomy : s.at < horizon → 1 ≤ r
  pub small : t.at < horizon → grown.height ≤ r
  pub begun : follows_declarator m (look_at W t) ≡ true → begins_declarator m (look_at W s) ≡ true
  pub leads : (n : ℕ) → (0 < horizon → r ≤ suc n) → ends_declarator m (look_at W t) ≡ true → Leads horizon (declarator (nest n) (suc n) m W s) (Ok (grown, t))
  -- one suffix more around it
  pub onward : is_pointer (look_at W s) ≡ false → (n : ℕ) → (0 < horizon → r < suc n) → goes_on (look_at W t) ≡ true →
      (look_at W t ≡ sign.OpenParen → lists_parameters (look_at W (step t)) ≡ true) → (b : Declares) (u : State) → suc grown.height ≤ b.height →
      Leads horizon (longer (nest n) s.at grown (look_at W t) W t) (Ok (b, u)) → Leads horizon (declarator (nest n) (suc n) m W s) (suffixes (nest n) (suc n) (suc n) s.at b W u)

pub declarator_part : (horizon : ℕ) (W : Words) (r : ℕ) (m : Mode) (d : Declared) (s t : State) (f : FoundDeclarator horizon W r m d s t) (n : ℕ) → (0 < horizon → r ≤ n) →
    ends_declarator m (look_at W t) ≡ true → Leads horizon ((nest n).declarator m W s) (Ok (f.grown, t))
unfolding nest
declarator_part horizon W r m d s t f zero more follow = inr (s.at, no_room_is (begins_declarator m) (no_left_out m) W s (f.begun (either (goes_on (look_at W t)) _ follow)), late)
  where
    no_left_out : (m : Mode) → begins_declarator m sign.LeftOut ≡ false
    no_left_out mode.Named = refl
    no_left_out mode.Abstract = refl
    no_left_out mode.Parameter = refl
    no_left_out mode.Enclosed = refl

    either : (a b : Bool) → b ≡ true → a || b ≡ true
    either true b e = refl
    either false b e = e

    late : horizon ≤ s.at
    late = let x = f.roomy in grind arith
declarator_part horizon W r m d s t f (suc n) more follow = f.leads n more follow

-- what is known of the tree of a line of members
pub record FoundLine (horizon : ℕ) (W : Words) (r : ℕ) (x : MemberLine) (s t : State) : Type 0 where
  pub measured : Measured MemberLine
  pub tree : measured.tree ≡ x
  pub forward : s.at + 1 ≤ t.at
  pub begun : qualifies false (look_at W s) ≡ true
  pub roomy : s.at < horizon → 1 ≤ r
  pub small : t.at < horizon → measured.height ≤ r
  pub leads : (n : ℕ) → (0 < horizon → r ≤ suc n) → Leads horizon (member_line (nest n) (suc n) W s) (Ok (measured, t))

pub line_part : (horizon : ℕ) (W : Words) (r : ℕ) (x : MemberLine) (s t : State) (f : FoundLine horizon W r x s t) (n : ℕ) → (0 < horizon → r ≤ n) →
    Leads horizon ((nest n).line W s) (Ok (f.measured, t))
unfolding nest
line_part horizon W r x s t f zero more = inr (s.at, no_room_is (qualifies false) refl W s f.begun, late)
  where
    late : horizon ≤ s.at
    late = let x = f.roomy in grind arith
line_part horizon W r x s t f (suc n) more = f.leads n more

-- what is found one level below
pub record FoundBelow (horizon : ℕ) (W : Words) (B : Below) : Type 0 where
  pub expr : (r l : ℕ) (e : Ex) (s t : State) → B.expr r l e s t → FoundEx horizon W r l e s t
  pub declarator : (r : ℕ) (m : Mode) (d : Declared) (s t : State) → B.declarator r m d s t → FoundDeclarator horizon W r m d s t
  pub line : (r : ℕ) (x : MemberLine) (s t : State) → B.line r x s t → FoundLine horizon W r x s t
