-- A loop that reads specifiers: what was read so far, in front of what is left.
use Rattle.std.proofs.Common.{◌≡◌, ℕ, zero, suc, ◌+◌, ◌-◌, ◌<◌, ◌≤◌, max, ap, sym, refl, ◌∙◌, arith, Bool, true, false, List, [], ◌∷◌, ◌++◌, Ok, Err}
use Rattle.std.specs.Prelude.{◌||◌}
use Rattle.std.proofs.Math.Nat.{max-zero}
use Rattle.std.proofs.lemmas.List.{append_assoc, append-nil}
use Rattle.c_input.specs.declared.error.SyntaxStop.{SyntaxStop}
use Rattle.c_tree.specs.declared.tree.Spec.{Spec}
use Rattle.c_expressions.specs.declared.grown.Specs.{Specs}
use Rattle.c_input.specs.declared.word.Place.{Place as State}
use Rattle.c_input.specs.declared.word.Sign.{Sign}
use Rattle.c_input.specs.Input.{Words, look_at}
use Rattle.c_input.specs.declared.measured.Measured.{Measured}
use Rattle.c_input.specs.Parser.{Outcome, Stop, ◌>>=◌, and_then, pure, if_so}
use Rattle.c_expressions.specs.Nest.{Nest}
use Rattle.c_expressions.specs.Specifiers.{no_specs, with_spec, behind, is_type_specifier, is_typedef, spec_by, specs_from}
use Rattle.c_input.specs.Gives.{Refuses}
use Rattle.c_input.proofs.Lists.{handed_on}

abbrev pub added : Specs → Sign → Measured Spec → Specs
added c q x = record {
  list = c.list ++ x.tree ∷ [];
  height = max x.height c.height;
  is_typed = c.is_typed || is_type_specifier q;
  is_typedef = c.is_typedef || is_typedef q;
}

abbrev made : List Spec → ℕ → Bool → Bool → Specs
made l h t d = record { list = l; height = h; is_typed = t; is_typedef = d }

or_false : (b : Bool) → (b || false) ≡ b
or_false true = refl
or_false false = refl

or_assoc : (a b c : Bool) → (a || (b || c)) ≡ ((a || b) || c)
or_assoc true b c = refl
or_assoc false b c = refl

pub none_more : (c : Specs) → behind c no_specs ≡ c
none_more c = ap (λ (l : List Spec). made l (max c.height 0) (c.is_typed || false) (c.is_typedef || false)) (append-nil c.list)
    ∙ ap (λ (h : ℕ). made c.list h (c.is_typed || false) (c.is_typedef || false)) (max-zero c.height)
    ∙ ap (λ (t : Bool). made c.list c.height t (c.is_typedef || false)) (or_false c.is_typed)
    ∙ ap (λ (d : Bool). made c.list c.height c.is_typed d) (or_false c.is_typedef)

in_front : (c : Specs) (q : Sign) (x : Measured Spec) (r : Specs) → behind c (with_spec q x r) ≡ behind (added c q x) r
in_front c q x r =
    let higher : max c.height (max x.height r.height) ≡ max (max x.height c.height) r.height = omega arith in
    ap (λ (l : List Spec). made l (max c.height (max x.height r.height)) (c.is_typed || (is_type_specifier q || r.is_typed)) (c.is_typedef || (is_typedef q || r.is_typedef)))
    (sym (append_assoc c.list (x.tree ∷ []) r.list))
    ∙ ap (λ (h : ℕ). made ((c.list ++ x.tree ∷ []) ++ r.list) h (c.is_typed || (is_type_specifier q || r.is_typed)) (c.is_typedef || (is_typedef q || r.is_typedef))) higher
    ∙ ap (λ (t : Bool). made ((c.list ++ x.tree ∷ []) ++ r.list) (max (max x.height c.height) r.height) t (c.is_typedef || (is_typedef q || r.is_typedef)))
    (or_assoc c.is_typed (is_type_specifier q) r.is_typed)
    ∙ ap (λ (d : Bool). made ((c.list ++ x.tree ∷ []) ++ r.list) (max (max x.height c.height) r.height) ((c.is_typed || is_type_specifier q) || r.is_typed) d)
    (or_assoc c.is_typedef (is_typedef q) r.is_typedef)

module _ (sub : Nest) (more : Bool → Sign → Bool) (W : Words) where
  abbrev read_behind : Specs → Outcome Specs → Outcome Specs
  read_behind c o = and_then W o (λ rest. pure (behind c rest))

  abbrev pub specs_left : Specs → ℕ → State → Outcome Specs
  specs_left c n s = read_behind c (specs_from sub more n c.is_typed W s)

  abbrev turn : Specs → ℕ → Sign → Outcome (Measured Spec) → Outcome Specs
  turn c n q o = and_then W o (λ x. specs_from sub more n (c.is_typed || is_type_specifier q) >>= (λ rest. pure (with_spec q x rest)))

  abbrev by : Specs → ℕ → Sign → Bool → State → Outcome Specs
  by c n q b s = if_so b (spec_by sub q >>= (λ x. specs_from sub more n (c.is_typed || is_type_specifier q) >>= (λ rest. pure (with_spec q x rest)))) (pure no_specs) W s

  by_sign : (c : Specs) (n : ℕ) (s : State) (q : Sign) (b : Bool) → look_at W s ≡ q → more c.is_typed q ≡ b → specs_left c (suc n) s ≡ read_behind c (by c n q b s)
  unfolding specs_from
  by_sign c n s q b e m = ap (λ (q : Sign). read_behind c (by c n q (more c.is_typed q) s)) e ∙ ap (λ (b : Bool). read_behind c (by c n q b s)) m

  ended_of : (c : Specs) (n : ℕ) (s : State) (q : Sign) → look_at W s ≡ q → more c.is_typed q ≡ false → specs_left c n s ≡ Ok (c, s)
  unfolding specs_from
  ended_of c zero s q e m = ap (λ (c : Specs). pure c W s) (none_more c)
  ended_of c (suc n) s q e m = by_sign c n s q false e m ∙ ap (λ (c : Specs). pure c W s) (none_more c)

  pub specs_ended : (c : Specs) (n : ℕ) (s : State) (q : Sign) → look_at W s ≡ q → more c.is_typed q ≡ false → specs_left c n s ≡ Ok (c, s)
  specs_ended c n s q e m = ended_of c n s q e m

  pub specs_over : (c : Specs) (end at : ℕ) (s : State) → end ≤ at → specs_left c (end - at) s ≡ Ok (c, s)
  unfolding specs_from
  specs_over c end at s done = let none : end - at ≡ 0 = omega arith in ap (λ (n : ℕ). specs_left c n s) none ∙ ap (λ (c : Specs). pure c W s) (none_more c)

  moved : (c : Specs) (q : Sign) (x : Measured Spec) (o : Outcome Specs) → read_behind c (and_then W o (λ rest. pure (with_spec q x rest))) ≡ read_behind (added c q x) o
  moved c q x (Ok p) = ap (λ (c : Specs). pure c W p.1) (in_front c q x p.0)
  moved c q x (Err e) = refl

  pub specs_next : (c : Specs) (end at : ℕ) (s t : State) (q : Sign) (x : Measured Spec) → at < end → look_at W s ≡ q → more c.is_typed q ≡ true → spec_by sub q W s ≡ Ok (x, t) →
      specs_left c (end - at) s ≡ specs_left (added c q x) (end - (at + 1)) t
  specs_next c end at s t q x below e m i =
      let n : end - at ≡ suc (end - (at + 1)) = omega arith in
      ap (λ (n : ℕ). specs_left c n s) n ∙ by_sign c (end - (at + 1)) s q true e m ∙ ap (λ (o : Outcome (Measured Spec)). read_behind c (turn c (end - (at + 1)) q o)) i
      ∙ moved c q x (specs_from sub more (end - (at + 1)) (c.is_typed || is_type_specifier q) W t)

  pub specs_stops : (c : Specs) (end at : ℕ) (s : State) (q : Sign) → at < end → look_at W s ≡ q → more c.is_typed q ≡ true → (e : SyntaxStop) → Refuses (spec_by sub q W s) e →
      Refuses (specs_left c (end - at) s) e
  specs_stops c end at s q below e m = handed_on (spec_by sub q W s) (specs_left c (end - at) s) (λ (stop : Stop) (i : spec_by sub q W s ≡ Err stop).
      let n : end - at ≡ suc (end - (at + 1)) = omega arith in
      ap (λ (n : ℕ). specs_left c n s) n ∙ by_sign c (end - (at + 1)) s q true e m ∙ ap (λ (o : Outcome (Measured Spec)). read_behind c (turn c (end - (at + 1)) q o)) i)
