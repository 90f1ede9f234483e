-- A loop that reads parameters: what was read so far, in front of what is left.
use Rattle.std.proofs.Common.{◌≡◌, ℕ, suc, ◌+◌, ◌-◌, ◌<◌, ◌≤◌, max, ap, sym, refl, ◌∙◌, arith, Bool, true, false, List, [], ◌∷◌, ◌++◌, Ok, Err}
use Rattle.std.proofs.Math.Nat.{max-zero}
use Rattle.std.proofs.lemmas.List.{append_assoc, append-nil}
use Rattle.c_input.specs.declared.error.SyntaxStop.{SyntaxStop}
use Rattle.c_tree.specs.declared.tree.Param.{Param}
use Rattle.c_input.specs.declared.word.Place.{Place as State}
use Rattle.c_input.specs.Input.{Words, look_at, step}
use Rattle.c_input.specs.declared.measured.Measured.{Measured}
use Rattle.c_input.specs.Parser.{Parser, Outcome, Stop, ◌>>=◌, ◌>>◌, and_then, pure, look, skip, if_so}
use Rattle.c_expressions.specs.Nest.{Nest}
use Rattle.c_expressions.specs.Declarators.{Params, no_params, in_front, last_one, is_ellipsis, parameter, parameters_from}
use Rattle.c_input.specs.Gives.{Refuses}
use Rattle.c_input.specs.Signs.{is_comma}
use Rattle.c_input.proofs.Lists.{handed_on, add_tree, nothing}

abbrev made : List Param → ℕ → Bool → Params
made t h dots = (record { tree = t; height = h }, dots)

abbrev joined : Measured (List Param) → Params → Params
joined c p = made (c.tree ++ p.0.tree) (max c.height p.0.height) p.1

abbrev with_dots : Measured (List Param) → Bool → Params
with_dots c dots = (c, dots)

none_more : (c : Measured (List Param)) → joined c no_params ≡ with_dots c false
none_more c = ap (λ (t : List Param). made t (max c.height 0) false) (append-nil c.tree) ∙ ap (λ (h : ℕ). made c.tree h false) (max-zero c.height)

one_last : (c : Measured (List Param)) (x : Measured Param) (dots : Bool) → joined c (last_one x dots) ≡ with_dots (add_tree c x) dots
one_last c x dots = let e : max c.height x.height ≡ max x.height c.height = omega arith in ap (λ (h : ℕ). made (c.tree ++ x.tree ∷ []) h dots) e

moved : (c : Measured (List Param)) (x : Measured Param) (p : Params) → joined c (in_front x p) ≡ joined (add_tree c x) p
moved c x p =
    let higher : max c.height (max x.height p.0.height) ≡ max (max x.height c.height) p.0.height = omega arith in
    ap (λ (t : List Param). made t (max c.height (max x.height p.0.height)) p.1) (sym (append_assoc c.tree (x.tree ∷ []) p.0.tree))
    ∙ ap (λ (h : ℕ). made ((c.tree ++ x.tree ∷ []) ++ p.0.tree) h p.1) higher

module _ (sub : Nest) (W : Words) where
  abbrev read_behind : Measured (List Param) → Outcome Params → Outcome Params
  read_behind c o = and_then W o (λ rest. pure (joined c rest))

  abbrev pub parameters_left : Measured (List Param) → ℕ → State → Outcome Params
  parameters_left c n s = read_behind c (parameters_from sub n W s)

  abbrev behind_comma : ℕ → Measured Param → Parser Params
  behind_comma n x = look (λ p. if_so (is_ellipsis p) (skip >> pure (last_one x true)) (parameters_from sub n >>= (λ rest. pure (in_front x rest))))

  abbrev behind_parameter : ℕ → Measured Param → Parser Params
  behind_parameter n x = look (λ q. if_so (is_comma q) (skip >> behind_comma n x) (pure (last_one x false)))

  begins : (c : Measured (List Param)) (end at : ℕ) (s : State) (o : Outcome (Measured Param)) → at < end → parameter sub W s ≡ o →
      parameters_left c (end - at) s ≡ read_behind c (and_then W o (behind_parameter (end - (at + 1))))
  unfolding parameters_from
  begins c end at s o below i =
      let n : end - at ≡ suc (end - (at + 1)) = omega arith in
      ap (λ (n : ℕ). parameters_left c n s) n ∙ ap (λ (o : Outcome (Measured Param)). read_behind c (and_then W o (behind_parameter (end - (at + 1))))) i

  by_comma : (c : Measured (List Param)) (n : ℕ) (x : Measured Param) (t : State) (b : Bool) → is_comma (look_at W t) ≡ b →
      read_behind c (behind_parameter n x W t) ≡ read_behind c (if_so b (skip >> behind_comma n x) (pure (last_one x false)) W t)
  by_comma c n x t b e = ap (λ (b : Bool). read_behind c (if_so b (skip >> behind_comma n x) (pure (last_one x false)) W t)) e

  by_dots : (c : Measured (List Param)) (n : ℕ) (x : Measured Param) (t : State) (b : Bool) → is_ellipsis (look_at W t) ≡ b →
      read_behind c (behind_comma n x W t) ≡ read_behind c (if_so b (skip >> pure (last_one x true)) (parameters_from sub n >>= (λ rest. pure (in_front x rest))) W t)
  by_dots c n x t b e = ap (λ (b : Bool). read_behind c (if_so b (skip >> pure (last_one x true)) (parameters_from sub n >>= (λ rest. pure (in_front x rest))) W t)) e

  by_rest : (c : Measured (List Param)) (x : Measured Param) (o : Outcome Params) → read_behind c (and_then W o (λ rest. pure (in_front x rest))) ≡ read_behind (add_tree c x) o
  by_rest c x (Ok p) = ap (λ (r : Params). pure r W p.1) (moved c x p.0)
  by_rest c x (Err e) = refl

  pub parameters_begun : (o : Outcome Params) → o ≡ read_behind nothing o
  parameters_begun (Ok p) = let e : p.0.0.height ≡ max 0 p.0.0.height = omega arith in ap (λ (h : ℕ). pure (made p.0.0.tree h p.0.1) W p.1) e
  parameters_begun (Err e) = refl

  pub parameters_over : (c : Measured (List Param)) (end at : ℕ) (s : State) → end ≤ at → parameters_left c (end - at) s ≡ Ok (with_dots c false, s)
  unfolding parameters_from
  parameters_over c end at s done =
      let none : end - at ≡ 0 = omega arith in
      ap (λ (n : ℕ). parameters_left c n s) none ∙ ap (λ (r : Params). pure r W s) (none_more c)

  pub parameters_last : (c : Measured (List Param)) (end at : ℕ) (s t : State) (x : Measured Param) → at < end → parameter sub W s ≡ Ok (x, t) → is_comma (look_at W t) ≡ false →
      parameters_left c (end - at) s ≡ Ok (with_dots (add_tree c x) false, t)
  parameters_last c end at s t x below i b =
      begins c end at s (Ok (x, t)) below i ∙ by_comma c (end - (at + 1)) x t false b ∙ ap (λ (r : Params). pure r W t) (one_last c x false)

  pub parameters_dots : (c : Measured (List Param)) (end at : ℕ) (s t : State) (x : Measured Param) → at < end → parameter sub W s ≡ Ok (x, t) → is_comma (look_at W t) ≡ true →
      is_ellipsis (look_at W (step t)) ≡ true → parameters_left c (end - at) s ≡ Ok (with_dots (add_tree c x) true, step (step t))
  parameters_dots c end at s t x below i b b' =
      begins c end at s (Ok (x, t)) below i ∙ by_comma c (end - (at + 1)) x t true b ∙ by_dots c (end - (at + 1)) x (step t) true b'
      ∙ ap (λ (r : Params). pure r W (step (step t))) (one_last c x true)

  pub parameters_next : (c : Measured (List Param)) (end at : ℕ) (s t : State) (x : Measured Param) → at < end → parameter sub W s ≡ Ok (x, t) → is_comma (look_at W t) ≡ true →
      is_ellipsis (look_at W (step t)) ≡ false → parameters_left c (end - at) s ≡ parameters_left (add_tree c x) (end - (at + 1)) (step t)
  parameters_next c end at s t x below i b b' =
      begins c end at s (Ok (x, t)) below i ∙ by_comma c (end - (at + 1)) x t true b ∙ by_dots c (end - (at + 1)) x (step t) false b'
      ∙ by_rest c x (parameters_from sub (end - (at + 1)) W (step t))

  pub parameters_stops : (c : Measured (List Param)) (end at : ℕ) (s : State) → at < end → (e : SyntaxStop) → Refuses (parameter sub W s) e → Refuses (parameters_left c (end - at) s) e
  parameters_stops c end at s below = handed_on (parameter sub W s) (parameters_left c (end - at) s) (λ (e : Stop) (i : parameter sub W s ≡ Err e). begins c end at s (Err e) below i)
