-- Each described state is made by some picks.
use Rattle.std.proofs.Common.{◌≡◌, ℕ, suc, ◌+◌, ◌-◌, ◌<◌, ◌≤◌, ℤ, pos, ◌≤ℤ◌, List, [], ◌∷◌, ◌++◌, append_assoc, append-nil, length, replicate, Bool, true, false, Some, None, Result, Ok, Err, inl, inr, refl, sym, ap, subst, ◌∙◌, arith, length-append}
use Rattle.std.specs.Prelude.{All, ◌⊎◌, ◌&&◌, int_le, if◌then◌else◌}
use Rattle.std.proofs.lemmas.Int.{ints}
use Rattle.std.proofs.lemmas.List.{length-replicate}
use Rattle.std.proofs.lemmas.List.Elements.{All-cons, All-head, All-tail}
use Rattle.std.proofs.lemmas.Bool.{cases_lt}
use Rattle.program.specs.declared.graph.Scalar.{Scalar}
use Rattle.program.specs.declared.graph.Start.{Start}
use Rattle.program.specs.declared.graph.Start.TheVariants as start
use Rattle.program.specs.declared.graph.Base.{Base}
use Rattle.program.specs.declared.graph.Function.{Function}
use Rattle.program.specs.declared.graph.Program.{Program}
use Rattle.c_memory.specs.declared.cells.Cell.{Cell}
use Rattle.c_memory.specs.declared.cells.Cell.TheVariants.{Uninit, Bit}
use Rattle.c_memory.specs.declared.memory.Object.{Object}
use Rattle.c_memory.specs.Memory.{cell_at, overwritten}
use Rattle.c_memory.proofs.Writes.{length-overwritten, overwritten_at, behind_before, behind_inside, behind_after}
use Rattle.c_arithmetic.specs.Arithmetic.{and_then}
use Rattle.c_meaning.specs.declared.config.Config.{Config}
use Rattle.c_meaning.specs.declared.parts.Free.{Free}
use Rattle.c_meaning.specs.declared.parts.Free.TheVariants as free
use Rattle.c_meaning.specs.Cells.{number_cells, pointer_cells}
use Rattle.c_meaning.specs.Steps.{range_of_bits, with_result}
use Rattle.c_meaning.specs.Begin.{free_in, initial_cells, with_scalars, cells_before, pick_at, picked, pointer_or_null, chosen, place_of, filled, lives_at_entry, in_front, objects_begun, begun_of, begun_in, begun}
use Rattle.c_meaning.specs.Described.{Shows, bits_of_free, IsAny, IsOutside, IsDescribedObject, WhereLives, AreDescribed}
use Rattle.c_meaning_laws.specs.Beginnings.{PicksMakeEach}
use Rattle.c_meaning.proofs.Shown.{length-number_cells, length-pointer_cells}

-- ---- one pick

pick_here : (before : List ℤ) (q : ℤ) (after : List ℤ) → pick_at (before ++ q ∷ after) (length before) ≡ q
pick_here [] q after = refl
pick_here (x ∷ xs) q after = pick_here xs q after

in_between : (lo q hi : ℤ) (i : ℕ) → lo ≤ℤ q → q ≤ℤ hi → (if int_le lo q && int_le q hi then Ok q else Err i) ≡ Ok q
in_between lo q hi i above below = grind (arith, ints)

picked_here : (before : List ℤ) (q : ℤ) (after : List ℤ) (lo hi : ℤ) → lo ≤ℤ q → q ≤ℤ hi → picked (before ++ q ∷ after) (length before) (lo, hi) ≡ Ok q
picked_here before q after lo hi above below =
    ap (λ (v : ℤ). if int_le lo v && int_le v hi then Ok v else Err (length before)) (pick_here before q after) ∙ in_between lo q hi (length before) above below

-- ---- one scalar

-- picks with which a free scalar gets the bits that it has in an object
record Choice (final : List Cell) (s : Free) : Type 0 where
  picks : List ℤ
  new : List Cell
  long : length new ≡ bits_of_free s
  shows : Shows final (place_of s) new
  chosen_is : (before after : List ℤ) → chosen (before ++ (picks ++ after)) (length before) s ≡ Ok (new, length before + length picks)

choice : (final : List Cell) (s : Free) → IsAny final s → Choice final s
choice final (free.Integer at bits k) h = record {
  picks = h.0 ∷ [];
  new = number_cells bits h.0;
  long = length-number_cells bits h.0;
  shows = h.3;
  chosen_is = λ before after. ap (λ (r : Result ℤ ℕ). and_then r (λ v. Ok (number_cells bits v, length before + 1))) (picked_here before h.0 after (range_of_bits k bits).0 (range_of_bits k bits).1 h.1 h.2);
}
choice final (free.Pointer at None) h = record {
  picks = [];
  new = replicate 64 (Bit false);
  long = length-replicate 64 (Bit false);
  shows = h;
  chosen_is = λ before after. ap (λ (n : ℕ). Ok (replicate 64 (Bit false), n)) (omega arith);
}
choice final (free.Pointer at (Some target)) h =
    elim h [
      | inl null ↦ record {
        picks = pos 0 ∷ [];
        new = replicate 64 (Bit false);
        long = length-replicate 64 (Bit false);
        shows = null;
        chosen_is = λ before after. ap (λ (r : Result ℤ ℕ). and_then r (λ v. Ok (pointer_or_null target v, length before + 1))) (picked_here before (pos 0) after (pos 0) (pos 1) (omega (arith, ints)) (omega (arith, ints)));
      }
      | inr first ↦ record {
        picks = pos 1 ∷ [];
        new = pointer_cells target (pos 0);
        long = length-pointer_cells target (pos 0);
        shows = first;
        chosen_is = λ before after. ap (λ (r : Result ℤ ℕ). and_then r (λ v. Ok (pointer_or_null target v, length before + 1))) (picked_here before (pos 1) after (pos 0) (pos 1) (omega (arith, ints)) (omega (arith, ints)));
      }
    ]

-- ---- one object

-- what is written last at each bit is what the object has there
agrees : (final cells : List Cell) (s : Free) (ss : List Free) (c : Choice final s) → length cells ≡ length final → ((x : ℕ) → x < length final → IsOutside (s ∷ ss) x → cell_at cells x ≡ cell_at final x) →
    (x : ℕ) → x < length final → IsOutside ss x → cell_at (overwritten cells (place_of s) c.new) x ≡ cell_at final x
agrees final cells s ss c long others x h out =
    let long_new = c.long in
    let here = overwritten_at cells (place_of s) c.new x (omega arith) in
    elim (cases_lt x (place_of s)) [
      | inl k ↦ here ∙ behind_before cells (place_of s) c.new x k ∙ others x h (All-cons (λ (t : Free). (x < place_of t) ⊎ (place_of t + bits_of_free t ≤ x)) s ss (inl k) out)
      | inr k ↦ elim (cases_lt x (place_of s + length c.new)) [
        | inl l ↦ let place : place_of s + (x - place_of s) ≡ x = omega arith in
            here ∙ behind_inside cells (place_of s) c.new x k l ∙ sym (c.shows (x - place_of s) (omega arith)) ∙ ap (cell_at final) place
        | inr l ↦ here ∙ behind_after cells (place_of s) c.new x l ∙ others x h (All-cons (λ (t : Free). (x < place_of t) ⊎ (place_of t + bits_of_free t ≤ x)) s ss (inr (omega arith)) out)
      ]
    ]

-- picks with which an object gets its bits
record Filling (final : List Cell) (ss : List Free) (cells : List Cell) : Type 0 where
  picks : List ℤ
  filled_is : (before after : List ℤ) → filled (before ++ (picks ++ after)) (length before) ss cells ≡ Ok (final, length before + length picks)

same_cells : (final cells : List Cell) → length cells ≡ length final → ((x : ℕ) → x < length final → cell_at cells x ≡ cell_at final x) → cells ≡ final
same_cells [] [] long each = refl
same_cells [] (c ∷ cells) long each = absurd (omega arith)
same_cells (d ∷ final) [] long each = absurd (omega arith)
same_cells (d ∷ final) (c ∷ cells) long each =
    let first : c ≡ d = each 0 (omega arith) in
    let rest = same_cells final cells (omega arith) (λ x h. each (suc x) (omega arith)) in
    rw (first, rest) refl

fill : (final : List Cell) (ss : List Free) (cells : List Cell) → All (IsAny final) ss → length cells ≡ length final → ((x : ℕ) → x < length final → IsOutside ss x → cell_at cells x ≡ cell_at final x) → Filling final ss cells
fill final [] cells any long others = record {
  picks = [];
  filled_is = λ before after.
      let same = same_cells final cells long (λ x h. others x h (λ k d l. absurd (omega arith))) in
      ap (λ (c : List Cell). Ok (c, length before)) same ∙ ap (λ (n : ℕ). Ok (final, n)) (omega arith);
}
fill final (s ∷ ss) cells any long others =
    let c = choice final s (All-head (IsAny final) s ss any) in
    let next = overwritten cells (place_of s) c.new in
    let r = fill final ss next (All-tail (IsAny final) s ss any) (length-overwritten cells (place_of s) c.new ∙ long) (agrees final cells s ss c long others) in
    record {
      picks = c.picks ++ r.picks;
      filled_is = λ before after.
          let all = before ++ ((c.picks ++ r.picks) ++ after) in
          let one : all ≡ before ++ (c.picks ++ (r.picks ++ after)) = ap (λ (l : List ℤ). before ++ l) (append_assoc c.picks r.picks after) in
          let two : all ≡ (before ++ c.picks) ++ (r.picks ++ after) = one ∙ sym (append_assoc before c.picks (r.picks ++ after)) in
          ap (λ (l : List ℤ). and_then (chosen l (length before) s) (λ d. filled all d.1 ss (overwritten cells (place_of s) d.0))) one
          ∙ ap (λ (picked_cells : Result (List Cell × ℕ) ℕ). and_then picked_cells (λ d. filled all d.1 ss (overwritten cells (place_of s) d.0))) (c.chosen_is before (r.picks ++ after))
          ∙ ap (λ (n : ℕ). filled all n ss next) (sym (length-append before c.picks))
          ∙ ap (λ (l : List ℤ). filled l (length (before ++ c.picks)) ss next) two
          ∙ r.filled_is (before ++ c.picks) after
          ∙ ap (λ (n : ℕ). Ok (final, n)) (omega (arith, length-append before c.picks, length-append c.picks r.picks));
    }

length-with_scalars : (ss : List Scalar) (cells : List Cell) → length (with_scalars ss cells) ≡ length cells
length-with_scalars [] cells = refl
length-with_scalars (s ∷ ss) cells = length-with_scalars ss (overwritten cells s.at (initial_cells s.bits s.value)) ∙ length-overwritten cells s.at (initial_cells s.bits s.value)

pub length-cells_before : (size : ℕ) (s : Start) → length (cells_before size s) ≡ size
length-cells_before size (start.Given scalars) = length-with_scalars scalars (replicate size (Bit false)) ∙ length-replicate size (Bit false)
length-cells_before size start.Any = length-replicate size Uninit
length-cells_before size start.Uninit = length-replicate size Uninit
length-cells_before size (start.Choice target) = length-replicate size Uninit
length-cells_before size (start.Hidden targets) = length-replicate size Uninit

object_filling : (p : Program) (base : Base) (cells : List Cell) → IsDescribedObject p base cells → Filling cells (free_in p.layout base.ctype base.start) (cells_before base.size_bits base.start)
object_filling p base cells d =
    fill cells (free_in p.layout base.ctype base.start) (cells_before base.size_bits base.start) d.free_scalars (length-cells_before base.size_bits base.start ∙ sym d.size)
    (λ x h out. sym (d.others x (subst (λ (n : ℕ). x < n) d.size h) out))

-- ---- all objects

-- picks with which the objects of bases begin so
record Making (p : Program) (f : Function) (b : ℕ) (bases : List Base) (os : List Object) : Type 0 where
  picks : List ℤ
  made : (before after : List ℤ) → objects_begun p f (before ++ (picks ++ after)) (length before) b bases ≡ Ok (os, length before + length picks)

none_made : (p : Program) (f : Function) (b : ℕ) (os : List Object) → os ≡ [] → Making p f b [] os
none_made p f b os h = record {
  picks = [];
  made = λ before after. ap (λ (l : List Object). Ok (l, length before)) (sym h) ∙ ap (λ (n : ℕ). Ok (os, n)) (omega arith);
}

-- what follows the object of a base
abbrev with_object : Program → Function → List ℤ → ℕ → List Base → Result (List Cell × ℕ) ℕ → Result (List Object × ℕ) ℕ
with_object p f picks b bases r = and_then r (λ c. and_then (objects_begun p f picks c.1 (b + 1) bases) (λ rest. Ok (in_front (record { base = b; cells = c.0 }) rest)))

one_made : (p : Program) (f : Function) (b : ℕ) (base : Base) (bases : List Base) (cells : List Cell) (os : List Object) → lives_at_entry p f b ≡ true →
    Filling cells (free_in p.layout base.ctype base.start) (cells_before base.size_bits base.start) → Making p f (b + 1) bases os → Making p f b (base ∷ bases) (record { base = b; cells = cells } ∷ os)
one_made p f b base bases cells os lives o r = record {
  picks = o.picks ++ r.picks;
  made = λ before after.
      let all = before ++ ((o.picks ++ r.picks) ++ after) in
      let scalars = free_in p.layout base.ctype base.start in
      let blank = cells_before base.size_bits base.start in
      let object : Object = record { base = b; cells = cells } in
      let one : all ≡ before ++ (o.picks ++ (r.picks ++ after)) = ap (λ (l : List ℤ). before ++ l) (append_assoc o.picks r.picks after) in
      let two : all ≡ (before ++ o.picks) ++ (r.picks ++ after) = one ∙ sym (append_assoc before o.picks (r.picks ++ after)) in
      ap (λ (v : Bool). if v then with_object p f all b bases (filled all (length before) scalars blank) else objects_begun p f all (length before) (b + 1) bases) lives
      ∙ ap (λ (l : List ℤ). with_object p f all b bases (filled l (length before) scalars blank)) one
      ∙ ap (with_object p f all b bases) (o.filled_is before (r.picks ++ after))
      ∙ ap (λ (n : ℕ). and_then (objects_begun p f all n (b + 1) bases) (λ rest. Ok (in_front object rest))) (sym (length-append before o.picks))
      ∙ ap (λ (l : List ℤ). and_then (objects_begun p f l (length (before ++ o.picks)) (b + 1) bases) (λ rest. Ok (in_front object rest))) two
      ∙ ap (λ (made : Result (List Object × ℕ) ℕ). and_then made (λ rest. Ok (in_front object rest))) (r.made (before ++ o.picks) after)
      ∙ ap (λ (n : ℕ). Ok (object ∷ os, n)) (omega (arith, length-append before o.picks, length-append o.picks r.picks));
}

other_made : (p : Program) (f : Function) (b : ℕ) (base : Base) (bases : List Base) (os : List Object) → lives_at_entry p f b ≡ false → Making p f (b + 1) bases os → Making p f b (base ∷ bases) os
other_made p f b base bases os lives r = record {
  picks = r.picks;
  made = λ before after.
      let all = before ++ (r.picks ++ after) in
      ap (λ (v : Bool). if v then with_object p f all b bases (filled all (length before) (free_in p.layout base.ctype base.start) (cells_before base.size_bits base.start)) else objects_begun p f all (length before) (b + 1) bases) lives
      ∙ r.made before after;
}

make : (p : Program) (f : Function) (b : ℕ) (bases : List Base) (os : List Object) → AreDescribed p f b bases os → Making p f b bases os
make p f b [] os h = none_made p f b os h
make p f b (base ∷ bases) [] h =
    (elim (lives_at_entry p f b) as (λ v. lives_at_entry p f b ≡ v → WhereLives v ⊥ (AreDescribed p f (b + 1) bases []) → Making p f b (base ∷ bases) []) [
      | true ↦ λ e d. absurd d
      | false ↦ λ e d. other_made p f b base bases [] e (make p f (b + 1) bases [] d)
    ]) refl h
make p f b (base ∷ bases) (o ∷ os) h =
    (elim (lives_at_entry p f b) as (λ v. lives_at_entry p f b ≡ v → WhereLives v ((o.base ≡ b) × IsDescribedObject p base o.cells × AreDescribed p f (b + 1) bases os) (AreDescribed p f (b + 1) bases (o ∷ os)) → Making p f b (base ∷ bases) (o ∷ os)) [
      | true ↦ λ e d. subst (λ (n : ℕ). Making p f b (base ∷ bases) (record { base = n; cells = o.cells } ∷ os)) (sym d.0)
          (one_made p f b base bases o.cells os e (object_filling p base o.cells d.1) (make p f (b + 1) bases os d.2))
      | false ↦ λ e d. other_made p f b base bases (o ∷ os) e (make p f (b + 1) bases (o ∷ os) d)
    ]) refl h

-- ---- the state

same_config : (c : Config) (fun node : ℕ) (stack : List (ℕ × ℕ)) (memory : List Object) → c.fun ≡ fun → c.node ≡ node → c.stack ≡ stack → c.memory ≡ memory → record { fun = fun; node = node; stack = stack; memory = memory } ≡ c
same_config c fun node stack memory g n s m = rw (← g, ← n, ← s, ← m) refl

pub picks_make_each : PicksMakeEach
unfolding begun
picks_make_each p fun c lawful d =
    let all = make p d.f 0 p.bases d.objects d.described in
    let made : objects_begun p d.f all.picks 0 0 p.bases ≡ Ok (d.objects, length all.picks) =
    ap (λ (l : List ℤ). objects_begun p d.f l 0 0 p.bases) (sym (append-nil all.picks)) ∙ all.made [] [] ∙ ap (λ (n : ℕ). Ok (d.objects, n)) (omega arith) in (
      all.picks,
      length all.picks,
      ap (begun_in p fun all.picks) d.function
          ∙ ap (λ (r : Result (List Object × ℕ) ℕ). and_then r (λ objects. Ok (begun_of p fun d.f objects))) made
          ∙ ap (λ (config : Config). Ok (record { config = config; used = length all.picks })) (same_config c fun d.f.entry [] (with_result p d.f d.objects) d.at_fun d.at_entry d.no_callers d.memory),
    )
