-- Specifiers, structs and enumerations go forward, are local and stay inside the words.
use Rattle.std.proofs.Common.{◌≡◌, ◌<◌, ◌≤◌, arith, sym, subst, ℕ, zero, suc, ◌-◌, ◌||◌, nat_lt, Bool, true, false, [], Option, None, refl}
use Rattle.c_expressions.specs.declared.grown.Mode.{Mode}
use Rattle.c_expressions.specs.declared.grown.Mode.TheVariants as mode
use Rattle.c_expressions.specs.declared.grown.Declares.{Declares}
use Rattle.c_input.specs.declared.word.Sign.{Sign}
use Rattle.c_input.specs.declared.word.Sign.TheVariants as sign
use Rattle.c_input.specs.declared.word.Place.{Place as State}
use Rattle.c_input.specs.Input.{Words, look_at, specifies, qualifies}
use Rattle.c_input.specs.Parser.{◌>>=◌, pure, refuse, if_so, most_words}
use Rattle.c_input.specs.Signs.{is_comma, is_semicolon, is_close_brace, is_no_close_brace}
use Rattle.c_expressions.specs.Nest.{Nest}
use Rattle.c_expressions.specs.Specifiers.{is_type_specifier, no_specs, with_spec, tag_by, tag, member_lines, struct_by, struct_specifier, enumerator_by, enumerator, enumerators, enum_by, enum_specifier, spec_by, specs_from, specs, some_specs, declaration_specs, qualifier_specs, specs_after_name, nameless, bit_field, width_by, member_by, member, members_by, members, member_line}
use Rattle.c_grammar.proofs.Combinators.{Reads, Past, word_inside, known, reads_pure, reads_refuse, reads_too_deep, reads_skip, reads_declare, reads_bind, reads_then, reads_from_here, reads_by_state, reads_look, reads_if, reads_if_word, reads_expect, reads_any_name, reads_one_or_more, reads_separated, reads_trailed, reads_gathered}

pub no_specifier : (typed : Bool) → specifies typed sign.Eof ≡ false
no_specifier true = refl
no_specifier false = refl

pub no_qualifier : (typed : Bool) → qualifies typed sign.Eof ≡ false
no_qualifier true = refl
no_qualifier false = refl

-- the parsers one level of room below
pub record ReadsNest (sub : Nest) : Type 0 where
  pub expr : {k : ℕ} {moves : Bool} (l : ℕ) → Reads k moves (sub.expr l)
  pub opened : {k : ℕ} (at : ℕ) → Reads k false (sub.opened at)
  pub named : {k : ℕ} (at : ℕ) → Reads k false (sub.named at)
  pub starred : {k : ℕ} (alone : Bool) → Reads k false (sub.starred alone)
  pub declarator : {k : ℕ} (m : Mode) → Reads k false (sub.declarator m)
  pub named_declarator : {k : ℕ} {moves : Bool} → Reads k moves (sub.declarator mode.Named)
  pub line : {k : ℕ} {moves : Bool} → Reads k moves sub.line

reads_tag_by : (q : Sign) → Reads (known q) false (tag_by q)
reads_tag_by sign.OpenBrace = reads_pure None
reads_tag_by _ = reads_bind reads_any_name (λ n. reads_pure _)

reads_tag : {k : ℕ} → Reads k false tag
unfolding tag
reads_tag = reads_look tag_by reads_tag_by

module _ (sub : Nest) (rs : ReadsNest sub) where
  reads_member_lines : {moves : Bool} → Reads 1 moves (member_lines sub)
  unfolding member_lines
  reads_member_lines = reads_then reads_skip (reads_bind (reads_gathered (reads_one_or_more is_no_close_brace rs.line)) (λ lines.
      reads_then (reads_expect is_close_brace refl) (reads_pure _)))

  reads_struct_by : (at : ℕ) (name : Option ℕ) (q : Sign) → Reads (known q) false (struct_by sub at name q)
  reads_struct_by at name sign.OpenBrace = reads_bind reads_member_lines (λ lines. reads_pure _)
  reads_struct_by at name _ = reads_pure _

  reads_struct : {moves : Bool} → Reads 1 moves (struct_specifier sub)
  unfolding struct_specifier
  reads_struct = reads_from_here (λ at. reads_then reads_skip (reads_bind reads_tag (λ name. reads_look (struct_by sub at name) (reads_struct_by at name))))

  reads_enumerator_by : (n at : ℕ) (q : Sign) → Reads (known q) false (enumerator_by sub n at q)
  reads_enumerator_by n at sign.Equal = reads_then reads_skip (reads_bind (rs.expr 3) (λ e. reads_then (reads_declare n false) (reads_pure _)))
  reads_enumerator_by n at _ = reads_then (reads_declare n false) (reads_pure _)

  pub reads_enumerator : {k : ℕ} {moves : Bool} → Reads k moves (enumerator sub)
  unfolding enumerator
  reads_enumerator = reads_bind reads_any_name (λ n. reads_look (enumerator_by sub n.0 n.1) (reads_enumerator_by n.0 n.1))

  reads_enumerators : {moves : Bool} → Reads 1 moves (enumerators sub)
  unfolding enumerators
  reads_enumerators = reads_then reads_skip (reads_bind (reads_gathered (reads_trailed is_comma is_close_brace refl reads_enumerator)) (λ all.
      reads_then (reads_expect is_close_brace refl) (reads_pure _)))

  reads_enum_by : (at : ℕ) (name : Option ℕ) (q : Sign) → Reads (known q) false (enum_by sub at name q)
  reads_enum_by at name sign.OpenBrace = reads_bind reads_enumerators (λ all. reads_pure _)
  reads_enum_by at name _ = reads_pure _

  reads_enum : {moves : Bool} → Reads 1 moves (enum_specifier sub)
  unfolding enum_specifier
  reads_enum = reads_from_here (λ at. reads_then reads_skip (reads_bind reads_tag (λ name. reads_look (enum_by sub at name) (reads_enum_by at name))))

  pub reads_spec_by : {moves : Bool} (q : Sign) → Reads 1 moves (spec_by sub q)
  reads_spec_by sign.Struct = reads_struct
  reads_spec_by sign.Enum = reads_enum
  reads_spec_by sign.Union = reads_struct
  reads_spec_by sign.TypeName = reads_from_here (λ at. reads_then reads_skip (reads_pure _))
  reads_spec_by _ = reads_from_here (λ at. reads_then reads_skip (reads_pure _))

  pub reads_specs_from : {k : ℕ} (more : Bool → Sign → Bool) → ((typed : Bool) → more typed sign.Eof ≡ false) → (n : ℕ) (typed : Bool) → Reads k false (specs_from sub more n typed)
  unfolding specs_from
  reads_specs_from more end zero typed = reads_pure _
  reads_specs_from more end (suc n) typed = reads_look _ (λ q. reads_if_word (more typed) (end typed) q
      (reads_bind (reads_spec_by q) (λ x. reads_bind (reads_specs_from more end n (typed || is_type_specifier q)) (λ rest. reads_pure (with_spec q x rest))))
      (reads_pure no_specs))

  reads_specs : {k : ℕ} (more : Bool → Sign → Bool) → ((typed : Bool) → more typed sign.Eof ≡ false) → (typed : Bool) → Reads k false (specs sub more typed)
  unfolding specs
  reads_specs more end typed = reads_by_state (λ s. specs_from sub more (most_words - s.at) typed) (λ s. reads_specs_from more end (most_words - s.at) typed)

  -- the first word of the list was seen before
  past_some : (more : Bool → Sign → Bool) → ((typed : Bool) → more typed sign.Eof ≡ false) → (W : Words) (s : State) (n : ℕ) → W n ≡ None →
      n < most_words → s.at ≤ n → (b : Bool) → more false (look_at W s) ≡ b → Past (suc s.at) (if_so b (specs sub more false) refuse W s)
  unfolding specs specs_from refuse
  past_some more end W s n none low le false e = tt
  past_some more end W s n none low le true e =
      let turns : most_words - s.at ≡ suc (1048576 - s.at) = omega arith in
      let q : Sign = look_at W s in
      let rest : Reads 1 true (spec_by sub q >>= (λ x. specs_from sub more (1048576 - s.at) (is_type_specifier q) >>= (λ rest. pure (with_spec q x rest)))) =
      reads_bind (reads_spec_by q) (λ x. reads_bind (reads_specs_from more end (1048576 - s.at) (is_type_specifier q)) (λ rest. reads_pure (with_spec q x rest))) in
      subst (λ j. Past (suc s.at) (specs_from sub more j false W s)) (sym turns)
      (subst (λ b. Past (suc s.at) (if_so b (spec_by sub q >>= (λ x. specs_from sub more (1048576 - s.at) (is_type_specifier q) >>= (λ rest. pure (with_spec q x rest)))) (pure no_specs) W s))
      (sym e) (rest.past W s n none low (word_inside (more false) (end false) W s n none le e) refl))

  reads_some_specs : {k : ℕ} {moves : Bool} (more : Bool → Sign → Bool) → ((typed : Bool) → more typed sign.Eof ≡ false) → Reads k moves (some_specs sub more)
  unfolding some_specs
  reads_some_specs more end =
      let anyhow : Reads 0 false (some_specs sub more) = reads_look (λ q. if_so (more false q) (specs sub more false) refuse)
      (λ q. reads_if (more false q) (reads_specs more end false) reads_refuse) in
      record {
        forward = anyhow.forward;
        local = anyhow.local;
        inside = λ W s n none le. anyhow.inside W s n none (omega arith);
        past = λ W s n none low le e. past_some more end W s n none low (omega arith) (more false (look_at W s)) refl;
        keeps = anyhow.keeps;
      }

  pub reads_declaration_specs : {k : ℕ} {moves : Bool} → Reads k moves (declaration_specs sub)
  reads_declaration_specs = reads_some_specs specifies no_specifier

  pub reads_qualifier_specs : {k : ℕ} {moves : Bool} → Reads k moves (qualifier_specs sub)
  reads_qualifier_specs = reads_some_specs qualifies no_qualifier

  pub reads_specs_after_name : {k : ℕ} (at : ℕ) → Reads k false (specs_after_name sub at)
  unfolding specs_after_name
  reads_specs_after_name at = reads_bind (reads_specs specifies no_specifier true) (λ rest. reads_pure _)

  reads_bit_field : {moves : Bool} (d : Declares) → Reads 1 moves (bit_field sub d)
  unfolding bit_field
  reads_bit_field d = reads_then reads_skip (reads_bind (rs.expr 3) (λ e. reads_pure _))

  reads_width_by : (d : Declares) (q : Sign) → Reads (known q) false (width_by sub d q)
  reads_width_by d sign.Colon = reads_bit_field d
  reads_width_by d _ = reads_pure _

  reads_member_by : (room at : ℕ) (q : Sign) → Reads (known q) false (member_by sub room at q)
  reads_member_by room at sign.Colon = reads_if (nat_lt 1 room) (reads_bit_field (nameless at)) reads_too_deep
  reads_member_by room at _ = reads_bind (rs.declarator mode.Named) (λ d. reads_look (width_by sub d) (reads_width_by d))

  pub reads_member : {k : ℕ} (room : ℕ) → Reads k false (member sub room)
  unfolding member
  reads_member room = reads_from_here (λ at. reads_look (member_by sub room at) (reads_member_by room at))

  reads_members_by : (room : ℕ) (q : Sign) → Reads (known q) false (members_by sub room q)
  reads_members_by room sign.Semicolon = reads_pure []
  reads_members_by room _ = reads_separated is_comma refl (reads_member room)

  reads_members : {k : ℕ} (room : ℕ) → Reads k false (members sub room)
  unfolding members
  reads_members room = reads_gathered (reads_look (members_by sub room) (reads_members_by room))

  pub reads_member_line : {k : ℕ} {moves : Bool} (room : ℕ) → Reads k moves (member_line sub room)
  unfolding member_line
  reads_member_line room = reads_from_here (λ at. reads_bind reads_qualifier_specs (λ a. reads_bind (reads_members room) (λ parts.
      reads_then (reads_expect is_semicolon refl) (reads_pure _))))
