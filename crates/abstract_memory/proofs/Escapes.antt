-- Pointers to bases that go dangle, and nothing else changes.
use Rattle.std.proofs.Common.{ℕ, ◌+◌, ◌<◌, ◌≡◌, refl, ap, ◌∙◌, Bool, true, false, not, cond, List, [], ◌∷◌, ℤ, length}
use Rattle.std.specs.Prelude.{◌||◌, nat_eq}
use Rattle.std.specs.List.{filter, list_any}
use Rattle.c_memory.specs.declared.cells.Cell.{Cell}
use Rattle.c_memory.specs.declared.cells.Cell.TheVariants.{Dangling, Ptr}
use Rattle.ival.specs.Forms.{Has}
use Rattle.avalue.specs.Pointers.{Pointer, offsets_at, is_listed}
use Rattle.avalue.specs.Members.{Member, uninit, dangling, number, pointer, HasMember}
use Rattle.avalue.specs.declared.value.Value.{Value}
use Rattle.abstract_memory.specs.Values.{escape_value}
use Rattle.abstract_memory.specs.Objects.{entry_at}
use Rattle.abstract_memory.specs.Joins.{escape_entry}
use Rattle.abstract_memory.specs.Members.{Shows, Shown}
use Rattle.c_memory.specs.Memory.{is_one_of, dangled}
use Rattle.abstract_memory.specs.Kept.{EscapeKeeps}
use Rattle.abstract_memory.proofs.Tests.{or_left, or_right, eq_of, bool_cases}
use Rattle.abstract_memory.proofs.Listed.{listed_cells}

-- a base that stays keeps its offsets
stays : (bases : List ℕ) (ps : List Pointer) (base : ℕ) (z : ℤ) → is_one_of bases base ≡ false → Has (offsets_at ps base) z → Has (offsets_at (filter (λ p. not (is_listed bases p)) ps) base) z
stays bases [] base z e h = h
stays bases (p ∷ ps) base z e h =
    elim (nat_eq p.0 base) as (λ (b : Bool). nat_eq p.0 base ≡ b → Has (cond b p.1 (offsets_at ps base)) z → Has (offsets_at (cond (not (is_listed bases p)) (p ∷ filter (λ q. not (is_listed bases q)) ps) (filter (λ q. not (is_listed bases q)) ps)) base) z) [
      | true ↦ λ q k.
          (let s : is_listed bases p ≡ false = ap (is_one_of bases) (eq_of p.0 base q) ∙ e in
          rw s (rw q k))
      | false ↦ λ q k.
          bool_cases (Has (offsets_at (cond (not (is_listed bases p)) (p ∷ filter (λ q. not (is_listed bases q)) ps) (filter (λ q. not (is_listed bases q)) ps)) base) z) (is_listed bases p)
          (λ s. rw s (stays bases ps base z e k)) (λ s. rw s (rw q (stays bases ps base z e k)))
    ] refl h

-- a base that goes leaves its pointers dangling
goes : (bases : List ℕ) (ps : List Pointer) (base : ℕ) (z : ℤ) → is_one_of bases base ≡ true → Has (offsets_at ps base) z → list_any (is_listed bases) ps ≡ true
goes bases [] base z e h = absurd h
goes bases (p ∷ ps) base z e h =
    elim (nat_eq p.0 base) as (λ (b : Bool). nat_eq p.0 base ≡ b → Has (cond b p.1 (offsets_at ps base)) z → (is_listed bases p || list_any (is_listed bases) ps) ≡ true) [
      | true ↦ λ q k. or_left (is_listed bases p) (list_any (is_listed bases) ps) (ap (is_one_of bases) (eq_of p.0 base q) ∙ e)
      | false ↦ λ q k. or_right (is_listed bases p) (list_any (is_listed bases) ps) (goes bases ps base z e k)
    ] refl h

escaped_shown : (bases : List ℕ) (w : ℕ) (v : Value) (m : ℕ → Cell) (x : ℕ) (u : Member) → HasMember v u → ((j : ℕ) → j < w → Shows w u j (m (x + j)))
    → Shown w (escape_value bases v) (λ y. dangled bases (m y)) x
unfolding Shows escape_value
escaped_shown bases w v m x uninit h s = record { member = uninit; is_in = h; shows = λ j l. ap (dangled bases) (s j l) }
escaped_shown bases w v m x dangling h s = record { member = dangling; is_in = or_left v.dangling (list_any (is_listed bases) v.ptrs) h; shows = λ j l. ap (dangled bases) (s j l) }
escaped_shown bases w v m x (number y) h s = record { member = number y; is_in = h; shows = λ j l. ap (dangled bases) (s j l) }
escaped_shown bases w v m x (pointer b o) h s =
    bool_cases (Shown w (record { uninit = v.uninit; dangling = v.dangling || list_any (is_listed bases) v.ptrs; ints = v.ints; ptrs = filter (λ p. not (is_listed bases p)) v.ptrs }) (λ y. dangled bases (m y)) x) (is_one_of bases b)
    (λ e. record {
      member = dangling;
      is_in = or_right v.dangling (list_any (is_listed bases) v.ptrs) (goes bases v.ptrs b o e h);
      shows = λ j l. (let g = s j l in ap (dangled bases) g.2 ∙ ap (λ t. cond t Dangling (Ptr b o g.0)) e);
    })
    (λ e. record {
      member = pointer b o;
      is_in = stays bases v.ptrs b o e h;
      shows = λ j l. (let g = s j l in (g.0, g.1, ap (dangled bases) g.2 ∙ ap (λ t. cond t Dangling (Ptr b o g.0)) e));
    })

pub escape_keeps : EscapeKeeps
escape_keeps bases o m h fits =
    listed_cells (length o) (λ x. escape_entry bases (entry_at o x)) (λ y. dangled bases (m y))
    (λ x l p. let s = fits x l p in escaped_shown bases (entry_at o x).width (entry_at o x).value m x s.member s.is_in s.shows)
