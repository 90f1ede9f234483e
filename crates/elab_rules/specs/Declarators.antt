-- The type that a declarator gives its name (C11 6.7.6). `sub` has the rules one level of nesting below.
use Rattle.std.specs.Prelude.{ℕ, ℤ, pos, ◌^◌, ◌-◌, int_le, nat_abs, min, Bool, true, false, not, ◌||◌, ◌&&◌, if◌then◌else◌, List, [], ◌∷◌, Option, Some, None}
use Rattle.elab_findings.specs.declared.fault.Rule.TheVariants.{TypeError, OutOfProfile}
use Rattle.c_tree.specs.declared.tree.Ex.{Ex}
use Rattle.elab_types.specs.declared.types.Qualifiers.{Qualifiers}
use Rattle.elab_types.specs.declared.types.Extent.{Extent}
use Rattle.elab_types.specs.declared.types.Extent.TheVariants as extent
use Rattle.elab_types.specs.declared.types.SourceType.{SourceType}
use Rattle.elab_types.specs.declared.types.SourceType.TheVariants as source
use Rattle.elab_types.specs.Qualified.{no_qualifiers}
use Rattle.elab_environment.specs.declared.constant.Constant.{Constant}
use Rattle.elab_environment.specs.declared.constant.Constant.TheVariants as constant
use Rattle.elab_environment.specs.declared.lexeme.Word.{Word}
use Rattle.elab_environment.specs.declared.lexeme.Word.TheVariants as word
use Rattle.elab_environment.specs.declared.state.Environment.{Environment}
use Rattle.elab_environment.specs.Elaborating.{Elaborating, and_then, ◌>>=◌, ◌>>◌, pure, done, when}
use Rattle.elab_environment.specs.Steps.{refuse, hold, word_at}
use Rattle.elab_environment.specs.Complete.{is_complete, is_flexible}
use Rattle.elab_rules.specs.declared.types.Declared.{Declared}
use Rattle.elab_rules.specs.declared.types.Nearest.{Nearest}
use Rattle.elab_rules.specs.declared.types.Nearest.TheVariants as nearest
use Rattle.elab_rules.specs.declared.types.Where.{Where}
use Rattle.elab_rules.specs.declared.types.Where.TheVariants as where_
use Rattle.elab_environment.specs.Structs.{is_open_array}
use Rattle.elab_rules.specs.Sorts.{is_function, is_faulty}
use Rattle.elab_rules.specs.Specifiers.{held_at}
use Rattle.elab_rules.specs.Nest.{Nest}

-- ---- qualifiers in a declarator

abbrev pub with_qualifier : Option Word → Qualifiers → Qualifiers
with_qualifier (Some word.Const) q = record q { is_const = true }
with_qualifier (Some word.Volatile) q = record q { is_volatile = true }
with_qualifier (Some word.Restrict) q = record q { is_restrict = true }
with_qualifier _ q = q

abbrev pub qualifiers_at : Environment → Qualifiers → List ℕ → Qualifiers
qualifiers_at s q [] = q
qualifiers_at s q (at ∷ ats) = qualifiers_at s (with_qualifier (word_at s at) q) ats

abbrev pub is_volatile_word : Option Word → Bool
is_volatile_word (Some word.Volatile) = true
is_volatile_word _ = false

-- the first word `volatile` among those at some tokens
abbrev pub volatile_among : Environment → List ℕ → Option ℕ
volatile_among s [] = None
volatile_among s (at ∷ ats) = if is_volatile_word (word_at s at) then Some at else volatile_among s ats

-- ---- pointers (6.7.6.1)

-- pointers to functions and to arrays whose length stays unknown, and volatile pointers, are left out; 6.7.3p2
abbrev pub pointer_by : ℕ → SourceType → Qualifiers → Option ℕ → Elaborating SourceType
pointer_by at t q v =
    when (is_function t || is_open_array t) (hold at OutOfProfile) >>
    when (is_function t && q.is_restrict) (refuse at TypeError) >>
    held_at v >>
    pure (source.Pointer t q)

unfoldable pub pointer : ℕ → List ℕ → SourceType → Elaborating SourceType
pointer at words t = λ s. pointer_by at t (qualifiers_at s no_qualifiers words) (volatile_among s words) s

-- ---- arrays (6.7.6.2)

-- 6.7.6.2p2: with a length that isn't constant an object has automatic storage duration
abbrev pub may_vary : Where → Bool
may_vary where_.Block = true
may_vary where_.Parameter = true
may_vary where_.TypeName = true
may_vary _ = false

-- a length is at least 1 (6.7.6.2p1), and below 2^64, as every integer here is
abbrev pub length_of : ℤ → Option Extent
length_of v = if int_le v (pos 0) then None else Some (extent.Length (min (nat_abs v) (2 ^ 64 - 1)))

abbrev pub no_length : ℕ → Elaborating (Option Extent)
no_length at = refuse at TypeError >> pure None

abbrev pub checked_length : ℕ → Option Extent → Elaborating (Option Extent)
checked_length at None = no_length at
checked_length at e = pure e

-- the extent of an array; none where its length broke a rule
abbrev pub extent_by : Where → ℕ → Constant → Elaborating (Option Extent)
extent_by w at (constant.Number v) = checked_length at (length_of v)
extent_by w at constant.Undefined = no_length at
extent_by w at constant.Variable = if may_vary w then hold at OutOfProfile >> pure (Some extent.Variable) else no_length at
extent_by w at constant.OfOtherType = no_length at
extent_by w at constant.Faulty = pure None

abbrev pub extent_of : Nest → Where → ℕ → Option Ex → Elaborating (Option Extent)
extent_of sub w at (Some e) = sub.constant e >>= extent_by w at
extent_of sub w at None = pure (Some extent.Unknown)

-- 6.7.6.2p1: the element type is complete and no function type; 6.7.2.1p3: it has no flexible member
abbrev pub element_checked : ℕ → SourceType → Environment → Elaborating SourceType
element_checked at t s = if is_function t || not (is_complete s t) then refuse at TypeError >> pure source.Faulty
    else when (is_flexible s t) (refuse at TypeError) >> pure t

abbrev pub array_by : SourceType → Option Extent → SourceType
array_by t (Some n) = if is_faulty t then source.Faulty else source.Array t n
array_by t None = source.Faulty

unfoldable pub array : Nest → Where → ℕ → Option Ex → SourceType → Elaborating SourceType
array sub w at e t = extent_of sub w at e >>= (λ n s. and_then (element_checked at t s s) (λ u. pure (array_by u n)))

-- 6.7.6.2p1: words between the brackets stand in the array derivation nearest to the name of a parameter alone
abbrev pub stands_inside : Nearest → Elaborating (Unit {0})
stands_inside (nearest.Array b) = when b.has_words (refuse b.at TypeError)
stands_inside _ = done

abbrev pub is_parameter : Where → Bool
is_parameter where_.Parameter = true
is_parameter _ = false

abbrev pub stands_nearest : Where → Nearest → Elaborating (Unit {0})
stands_nearest w n = if is_parameter w then done else stands_inside n

abbrev pub has_words : List ℕ → Bool
has_words [] = false
has_words (at ∷ ats) = true

abbrev pub array_nearest : ℕ → List ℕ → Environment → Nearest
array_nearest at words s = nearest.Array (record {
  at = at;
  has_words = has_words words;
  qualifiers = qualifiers_at s no_qualifiers words;
  volatile_at = volatile_among s words;
})

-- ---- a declarator

abbrev pub named : Where → SourceType → Nearest → Option ℕ → Elaborating Declared
named w t n name = stands_nearest w n >> pure (record { ty = t; name = name; nearest = n })
