-- The words of a table, as numbers.
use Rattle.std.specs.Prelude.{ℕ, zero, suc, ◌+◌, ◌*◌, ◌^◌, ◌/◌, ◌%◌, ◌≡◌, ◌≤◌, cond, eqb, ltb, List, [], ◌∷◌, ℤ, slice_index}
use Rattle.std.specs.Int.{bit_at}
use Rattle.store_api.specs.Tree.{Tree}
use Rattle.store_api.specs.Bag.{one}
use Rattle.store_api.specs.declared.Shape.{Shape}
use Rattle.store_api.specs.declared.Op.{Op}
use Rattle.store_api.specs.declared.Op.TheVariants.{Join, Included, Widen, Call}
use Rattle.store_api.specs.declared.Found.{Found}

-- what is fixed when a table is made: its buckets, its cache lines, what it is about, and what makes a
-- remembered answer right
pub record Table : Type 1 where
  pub buckets : ℕ
  pub lines : ℕ
  pub about : List ℤ
  pub related : Op → Tree → Tree → Found Tree → Type 0

-- a bucket has 32 rows
abbrev pub rows : Table → ℕ
rows k = 32 * k.buckets

-- ---- where the words stand: the number of passes, the buckets, the cache lines, and 11 words for each row
abbrev pub size : Table → ℕ
size k = 1 + k.buckets + k.lines + 11 * rows k

abbrev pub row_word : Table → ℕ → ℕ → ℕ
row_word k r j = 1 + k.buckets + k.lines + 11 * r + j

abbrev pub passes : List ℕ → ℕ
passes ws = slice_index ws 0

abbrev pub bucket : List ℕ → ℕ → ℕ
bucket ws b = slice_index ws (1 + b)

abbrev pub line : Table → List ℕ → ℕ → ℕ
line k ws l = slice_index ws (1 + k.buckets + l)

abbrev pub word : Table → List ℕ → ℕ → ℕ → ℕ
word k ws r j = slice_index ws (row_word k r j)

-- ---- a control word: 2 bits of state, a bit that says whether the row was ever Live, and the count
abbrev pub Free : ℕ
Free = 0

abbrev pub Taken : ℕ
Taken = 1

abbrev pub Live : ℕ
Live = 2

abbrev pub state : ℕ → ℕ
state n = n % 4

abbrev pub was_live : ℕ → ℕ
was_live n = n / 4 % 2

abbrev pub counted : ℕ → ℕ
counted n = n / 8

abbrev pub control : Table → List ℕ → ℕ → ℕ
control k ws r = word k ws r 0

-- ---- the ten content words: the head, the child word, and 8 words of body
abbrev pub child : Table → List ℕ → ℕ → ℕ
child k ws r = word k ws r 2

abbrev pub content : Table → List ℕ → ℕ → List ℕ
content k ws r = word k ws r 1 ∷ word k ws r 2 ∷ word k ws r 3 ∷ word k ws r 4 ∷ word k ws r 5 ∷ word k ws r 6 ∷ word k ws r 7 ∷ word k ws r 8 ∷ word k ws r 9 ∷ word k ws r 10 ∷ []

-- a child word is kids + 4 a + 2^22 b, with a and b the rows of the subtrees; here a row is its number
-- and 1, and 0 stands for no row
unfoldable pub left : ℕ → ℕ
left n = cond (ltb 0 (n % 4)) (suc (n / 4 % 2 ^ 20)) 0

unfoldable pub right : ℕ → ℕ
right n = cond (ltb 1 (n % 4)) (suc (n / 2 ^ 22)) 0

-- what is absent is 0
abbrev pub Proper : ℕ → Type 0
Proper n = (n % 4 ≤ 2) × (n % 4 ≡ 0 → n ≡ 0) × (n % 4 ≡ 1 → n / 2 ^ 22 ≡ 0)

-- how often the child word names the row
unfoldable pub children : ℕ → ℕ → ℕ
children n r = one (left n) (suc r) + one (right n) (suc r)

abbrev pub shape_at : Table → List ℕ → ℕ → Shape
shape_at k ws r = record {
  head = word k ws r 1;
  body = word k ws r 3 ∷ word k ws r 4 ∷ word k ws r 5 ∷ word k ws r 6 ∷ word k ws r 7 ∷ word k ws r 8 ∷ word k ws r 9 ∷ word k ws r 10 ∷ [];
  kids = child k ws r % 4;
}

-- ---- a bucket word: a mask of 32 ways, and a version above it
abbrev pub version : ℕ → ℕ
version n = n / 2 ^ 32

abbrev pub ways : ℕ → ℕ → ℕ
ways zero n = 0
ways (suc i) n = bit_at n i + ways i n

-- 1 where the row is published: its bucket's bit for it is set
unfoldable pub bit : Table → List ℕ → ℕ → ℕ
bit k ws r = cond (ltb r (rows k)) (bit_at (bucket ws (r / 32)) (r % 32)) 0

-- ---- a cache line: a, b and r of 20 bits each, 2 bits of operation, and 2 bits that say what it has
abbrev pub line_kind : ℕ → ℕ
line_kind n = n / 2 ^ 62

abbrev pub line_op : ℕ → Op
line_op n = cond (eqb (n / 2 ^ 60 % 4) 0) Join (cond (eqb (n / 2 ^ 60 % 4) 1) Included (cond (eqb (n / 2 ^ 60 % 4) 2) Widen Call))

abbrev pub line_a : ℕ → ℕ
line_a n = n % 2 ^ 20

abbrev pub line_b : ℕ → ℕ
line_b n = n / 2 ^ 20 % 2 ^ 20

abbrev pub line_r : ℕ → ℕ
line_r n = n / 2 ^ 40 % 2 ^ 20

-- what a line has: nothing, a tree, true, or false
abbrev pub Empty : ℕ
Empty = 0

abbrev pub IsTree : ℕ
IsTree = 1

abbrev pub Yes : ℕ
Yes = 2

abbrev pub No : ℕ
No = 3

-- how often a line names the row
unfoldable pub line_names : ℕ → ℕ → ℕ
line_names n r = cond (eqb (line_kind n) Empty) 0 (one (line_a n) r + one (line_b n) r + cond (eqb (line_kind n) IsTree) (one (line_r n) r) 0)

-- ---- the bucket of a content, and the line of an operation on two rows
abbrev pub mixed : ℕ → ℕ
mixed m = (m + m / 2 ^ 29) % 2 ^ 64

unfoldable pub hash : ℕ → List ℕ → ℕ
hash h [] = h
hash h (w ∷ ws) = hash (mixed ((h + w) * 11400714819323198485 % 2 ^ 64)) ws

abbrev pub bucket_of : Table → List ℕ → ℕ
bucket_of k ws = hash 0 ws / 2 ^ 32 % k.buckets

abbrev pub line_of : Table → ℕ → ℕ → ℕ → ℕ
line_of k op a b = hash 0 (op ∷ a ∷ b ∷ []) / 2 ^ 32 % k.lines
