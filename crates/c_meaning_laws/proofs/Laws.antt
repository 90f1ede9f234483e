-- The laws, from the lemmas on memories, pointers and picks.
use Rattle.std.proofs.Common.{ℕ, subst, sym, ◌≤ℤ◌, ◌*ℤ◌, pos}
use Rattle.c_meaning.specs.declared.value.Value.TheVariants.{Pointer}
use Rattle.c_meaning_laws.specs.Memories.{EndsOfLivesStayLawful, EntriesStayLawful, PointersStayInside, WritesStayLawful}
use Rattle.c_meaning_laws.proofs.Memories.{no_size, object_of_size, lawful_put, lawful_entered, lawful_left}
use Rattle.c_meaning_laws.specs.Values.{ValuesAreTyped}
use Rattle.c_meaning_laws.proofs.Pointers.{value_points}
use Rattle.c_meaning_laws.proofs.TypedValues.{value_is_typed}

pub writes : WritesStayLawful
writes m base at new h written = lawful_put m base at new h written

pub entries : EntriesStayLawful
entries m base size h none = lawful_entered base size m h (no_size m base none)

pub ends : EndsOfLivesStayLawful
ends m bases h = lawful_left bases m h

pub pointers : PointersStayInside
pointers p f m s e base offset h is =
    let points = value_points p f m h s e (Pointer base offset) is in
    let o = object_of_size m base points.size points.lives in
    (o.0, o.1, points.above, subst (λ (n : ℕ). (pos 8 *ℤ offset) ≤ℤ pos n) (sym o.2) points.below)

pub typed : ValuesAreTyped
typed p f m s e t v fields h is = value_is_typed p f m fields s e t v h is
