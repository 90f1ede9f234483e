-- The temporaries of a function: the n-th one of a type in a full expression is one object in all of them (C11 6.8p4). They
-- stand in the order in which the side effects first use them.
use Rattle.std.specs.Prelude.{ℕ, ◌+◌, ◌==◌, Bool, true, false, not, ◌&&◌, if◌then◌else◌, List, [], ◌∷◌, ◌++◌, length, remove, nat_eq, nat_lt, Option, Some, None, slice_get}
use Rattle.c_types.specs.declared.types.IntKind.{IntKind}
use Rattle.c_types.specs.declared.types.IntKind.TheVariants as kind
use Rattle.c_types.specs.declared.types.CType.{CType, end_of-CType, more_of-CType}
use Rattle.c_types.specs.declared.types.CType.TheVariants.{Void, Int, Ptr', Array', Struct, Unusable}
use Rattle.temporary_code.specs.declared.temporaries.Pool.{Pool}
use Rattle.temporary_code.specs.declared.temporaries.Taken.{Taken}
use Rattle.temporary_code.specs.declared.temporaries.Temporaries.{Temporaries}

-- ---- whether two types are the same

abbrev pub kind_number : IntKind → ℕ
kind_number kind.Bool = 0
kind_number kind.Char = 1
kind_number kind.SChar = 2
kind_number kind.UChar = 3
kind_number kind.Short = 4
kind_number kind.UShort = 5
kind_number kind.Int = 6
kind_number kind.UInt = 7
kind_number kind.Long = 8
kind_number kind.ULong = 9
kind_number kind.LongLong = 10
kind_number kind.ULongLong = 11

abbrev pub same_bool : Bool → Bool → Bool
same_bool true b = b
same_bool false b = not b

unfoldable pub same : CType → CType → Bool
same Void Void = true
same (Int k v) (Int l w) = nat_eq (kind_number k) (kind_number l) && same_bool v w
same (Ptr' _ (more_of-CType a end_of-CType)) (Ptr' _ (more_of-CType b end_of-CType)) = same a b
same (Array' _ (more_of-CType a end_of-CType) n) (Array' _ (more_of-CType b end_of-CType) m) = nat_eq n m && same a b
same (Struct i) (Struct j) = nat_eq i.0 j.0
same Unusable Unusable = true
same _ _ = false

-- ---- the temporaries of one type

-- which of some pools is that of a type; behind their end where none is
abbrev pub place_of_pool : CType → List Pool → ℕ
place_of_pool ty [] = 0
place_of_pool ty (p ∷ ps) = if same ty p.ctype then 0 else 1 + place_of_pool ty ps

abbrev pub pool_or_none : CType → Option Pool → Pool
pool_or_none ty (Some p) = p
pool_or_none ty None = record { ctype = ty; places = []; full = 0; taken = 0 }

abbrev pub pool_of : CType → List Pool → Pool
pool_of ty ps = pool_or_none ty (slice_get ps (place_of_pool ty ps))

abbrev pub without : List Pool → ℕ → Option Pool → List Pool
without ps at (Some p) = remove ps at
without ps at None = ps

-- those of all other types
abbrev pub others : CType → List Pool → List Pool
others ty ps = without ps (place_of_pool ty ps) (slice_get ps (place_of_pool ty ps))

-- how many the full expression of this number has taken
abbrev pub taken_in : ℕ → Pool → ℕ
taken_in full p = if p.full == full then p.taken else 0

-- ---- which temporary is next

abbrev pub place_or : ℕ → Option ℕ → ℕ
place_or other (Some n) = n
place_or other None = other

-- where a full expression has taken as many of a type, the one behind these, and a further one where there are no more
abbrev pub place_in : Pool → ℕ → ℕ → ℕ
place_in p full further = place_or further (slice_get p.places (taken_in full p))

unfoldable pub next_place : Temporaries → CType → ℕ
next_place s ty = place_in (pool_of ty s.pools) s.full (length s.types)

unfoldable pub next_base : Temporaries → CType → ℕ
next_base s ty = s.first + next_place s ty

abbrev pub with_place : List ℕ → ℕ → ℕ → List ℕ
with_place places taken place = if nat_lt taken (length places) then places else places ++ (place ∷ [])

abbrev pub used : Pool → ℕ → ℕ → Pool
used p full place = record {
  ctype = p.ctype;
  places = with_place p.places (taken_in full p) place;
  full = full;
  taken = taken_in full p + 1;
}

abbrev pub grown : List CType → ℕ → CType → List CType
grown types place ty = if nat_lt place (length types) then types else types ++ (ty ∷ [])

unfoldable pub taking : Temporaries → CType → Temporaries
taking s ty = record {
  first = s.first;
  types = grown s.types (next_place s ty) ty;
  pools = others ty s.pools ++ (used (pool_of ty s.pools) s.full (next_place s ty) ∷ []);
  full = s.full;
}

abbrev pub take : Temporaries → CType → Taken
take s ty = record { base = next_base s ty; temps = taking s ty }

-- ---- where some begin

-- at the beginning of a full expression
abbrev pub beginning : Temporaries → Temporaries
beginning s = record { first = s.first; types = s.types; pools = s.pools; full = s.full + 1 }

-- at the beginning of a function
abbrev pub no_temporaries : ℕ → Temporaries
no_temporaries first = record { first = first; types = []; pools = []; full = 0 }
