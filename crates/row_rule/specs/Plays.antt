-- What each step tells, and what it asks.
use Rattle.std.specs.Prelude.{ℕ, ◌+◌, ◌*◌, ◌^◌, ◌<◌, ◌≤◌, ◌≡◌, List, [], ◌∷◌, length, zero, suc, ◌%◌, ◌/◌, ◌≢◌, ◌++◌, ◌-◌, slice_index, ℤ}
use mathlib.Core.Option.{some}
use lib.ListN.{get_elem?}
use Rattle.atomic_table.specs.Table.{Me, Step}
use Rattle.atomic_table.specs.Seated.{TableId}
use Rattle.store_api.specs.Tree.{Tree, Nil, Node, depth, kid}
use Rattle.store_api.specs.declared.Op.{Op}
use Rattle.store_api.specs.declared.Shape.{Shape}
use Rattle.store_api.specs.declared.Found.{Found}
use Rattle.row_rule.specs.declared.view.View.{View}
use Rattle.row_rule.specs.Words.{Table, left, right, children, Proper, hash, state, Taken}
use Rattle.std.specs.Int.{bit_at}
use Rattle.row_rule.specs.Known.{Phase, Marked, Fill, Offered, Idle, Granted, Refused}
use Rattle.row_rule.specs.Rule.{active, count, others, Told}
use Rattle.row_rule.specs.Changes.{gains, gives, sees, takes, stirred, frees, turns, learns, claim, kids_in, top_of, rest_of, later_rows, first_row, staged, refusal, finds_alone, Holds, known, made, tried, noticed, retaken, loads, begins, scans_part, scans_control, scans_taken, scan_of, tree_at, shape_of, pinned, unpins, confirms, publishes, clears}

abbrev pub table : ℕ → ℕ → List ℤ → (List ℤ → Op → Tree → Tree → Found Tree → Type 0) → Table
table buckets lines about related = record { buckets = buckets; lines = lines; about = about; related = related about }

-- where the words of a row stand, by what a pass knows
abbrev pub row_at : View → ℕ → ℕ → ℕ
row_at v r j = 1 + v.buckets + v.lines + 11 * r + j

-- a table of b buckets and l lines, and a pass of it that isn't spent
pub record Ready (b l : ℕ) (z : TableId) (v : View) : Type 0 where
  pub words : z.words ≡ 1 + b + l + 352 * b
  pub slots : z.slots ≡ 0
  pub small : (0 < b) × (b ≤ 2 ^ 15) × (l ≤ 2 ^ 16)
  pub mine : active v ≡ 1
  pub sizes : (v.buckets ≡ b) × (v.lines ≡ l)

-- the j-th content word of a row with this tree is n
abbrev pub ShapePart : Shape → ℕ → ℕ → Type 0
ShapePart s zero n = s.head ≡ n
ShapePart s (suc zero) n = s.kids ≡ n % 4
ShapePart s (suc (suc j)) n = slice_index s.body j ≡ n

abbrev pub PartIs : Tree → ℕ → ℕ → Type 0
PartIs Nil j n = ⊥
PartIs (Node s a b) j n = (length s.body ≡ 8) × ShapePart s j n

abbrev pub Gains : Step ℕ → Me ℕ View → ℕ → Me ℕ View → Type 0
Gains s me n after = ((r : ℕ) → s.word ≡ row_at me.0 r 0 → after ≡ (gains r (known me.0.holds r) (made s.word n (n + 8) me.0.past) me.0, me.1)) × Told after.0

abbrev pub Gives : Step ℕ → Me ℕ View → ℕ → Me ℕ View → Type 0
Gives s me n after = ((r : ℕ) → s.word ≡ row_at me.0 r 0 → (8 ≤ n) × ((m : ℕ) → m + 8 ≡ n → after ≡ (gives r (made s.word n m me.0.past) me.0, me.1))) × Told after.0

abbrev pub Sees : Step ℕ → Me ℕ View → ℕ → Me ℕ View → Type 0
Sees s me n after = (r j : ℕ) → j < 10 → s.word ≡ row_at me.0 r (suc j) → (after ≡ (sees r j n s.word (made s.word n n me.0.past) me.0, me.1)) × PartIs (known me.0.holds r) j n × (j ≡ 1 → (q : ℕ) → 0 < children n q → q < 32 * me.0.buckets)

-- ---- a row is taken, or not
abbrev pub Takes : Phase → ℕ → Step ℕ → Me ℕ View → ℕ → Me ℕ View → Type 0
Takes phase unread s me n after = (r : ℕ) → s.word ≡ row_at me.0 r 0
    → (n ≡ s.first → after ≡ (takes r phase unread (retaken s.first (made s.word n s.second me.0.past)) me.0, me.1)) × (n ≢ s.first → after ≡ (stirred (tried s.word n n me.0.past) me.0, me.1))

-- ---- the row of the claim that was begun last: it is given up, it gets a word, it is offered
abbrev pub Frees : Step ℕ → Me ℕ View → ℕ → Me ℕ View → Type 0
Frees s me n after = (0 < n) × ((m : ℕ) → m + 1 ≡ n → after ≡ (frees (rest_of me.0) (made s.word n m me.0.past) me.0, me.1))

abbrev pub Stores : Step ℕ → Me ℕ View → ℕ → Me ℕ View → Type 0
Stores s me n after = after ≡ (turns (claim (top_of me.0).row Fill (top_of me.0).kids 0 ((top_of me.0).kept ++ n ∷ [])) (rest_of me.0) (made s.word n n me.0.past) me.0, me.1)

abbrev pub Offers : Step ℕ → Me ℕ View → ℕ → Me ℕ View → Type 0
Offers s me n after = after ≡ (turns (claim (top_of me.0).row Offered [] 0 (top_of me.0).kept) (rest_of me.0) (made s.word n n me.0.past) me.0, me.1)

-- what an offer asks of the claim: all words, in its row's bucket, of subtrees that are held and counted
pub record Whole (b : ℕ) (v : View) : Type 0 where
  pub words : length (top_of v).kept ≡ 10
  pub place : hash 0 (top_of v).kept / 2 ^ 32 % b ≡ (top_of v).row / 32
  pub proper : Proper (slice_index (top_of v).kept 1)
  pub kids : (q : ℕ) → count (top_of v).kids q ≡ children (slice_index (top_of v).kept 1) q
  pub first : (t : Tree) × Holds v (left (slice_index (top_of v).kept 1)) t × (depth t < 128)
  pub second : (t : Tree) × Holds v (right (slice_index (top_of v).kept 1)) t × (depth t < 128)
  pub room : others (turns (claim (top_of v).row Offered [] 0 (top_of v).kept) (rest_of v) v.past v) ≤ 1024

-- its children: one is counted more, the rows that its child word names are read, the first goes
abbrev pub Adopts : Step ℕ → Me ℕ View → ℕ → Me ℕ View → Type 0
Adopts s me n after = (r : ℕ) → s.word ≡ row_at me.0 r 0 → after ≡ (turns (claim (top_of me.0).row Fill (r ∷ (top_of me.0).kids) (top_of me.0).unread (top_of me.0).kept) (rest_of me.0) (made s.word n (n + 8) me.0.past) me.0, me.1)

abbrev pub LearnsKids : Step ℕ → Me ℕ View → ℕ → Me ℕ View → Type 0
LearnsKids s me n after = (after ≡ (learns (claim (top_of me.0).row Fill (kids_in n) 0 (top_of me.0).kept) (rest_of me.0) n s.word (made s.word n n me.0.past) me.0, me.1)) × ((r : ℕ) → 0 < children n r → r < 32 * me.0.buckets)

-- ---- the bit of a Dying row is seen, and cleared
abbrev pub SeesBit : Step ℕ → Me ℕ View → ℕ → Me ℕ View → Type 0
SeesBit s me n after =
    (bit_at n ((top_of me.0).row % 32) ≡ 0 → after ≡ (learns (claim (top_of me.0).row Fill (top_of me.0).kids (top_of me.0).unread (top_of me.0).kept) (rest_of me.0) n s.word (noticed ((top_of me.0).row / 32) me.0.scans s.word n me.0.past) me.0, me.1))
    × (bit_at n ((top_of me.0).row % 32) ≡ 1 → after ≡ (learns (claim (top_of me.0).row Marked (top_of me.0).kids (top_of me.0).unread (top_of me.0).kept) (rest_of me.0) n s.word (noticed ((top_of me.0).row / 32) me.0.scans s.word n me.0.past) me.0, me.1))

-- ---- scans and pins
abbrev pub Begins : Step ℕ → Me ℕ View → ℕ → Me ℕ View → Type 0
Begins s me n after = (b : ℕ) → s.word ≡ 1 + b → after ≡ (begins b n s.word (made s.word n n me.0.past) me.0, me.1)

abbrev pub ScansControl : Step ℕ → Me ℕ View → ℕ → Me ℕ View → Type 0
ScansControl s me n after = (r : ℕ) → s.word ≡ row_at me.0 r 0
    → (state n ≡ Taken → after ≡ (scans_taken (scan_of me.0) r n s.word (made s.word n n me.0.past) me.0, me.1)) × (state n ≢ Taken → after ≡ (scans_control (scan_of me.0) r n s.word (made s.word n n me.0.past) me.0, me.1))

abbrev pub ScansPart : Step ℕ → Me ℕ View → ℕ → Me ℕ View → Type 0
ScansPart s me n after = (r j : ℕ) → j < 10 → s.word ≡ row_at me.0 r (suc j) → after ≡ (scans_part (scan_of me.0) r j n s.word (made s.word n n me.0.past) me.0, me.1)

abbrev pub Pins : Step ℕ → Me ℕ View → ℕ → Me ℕ View → Type 0
Pins s me n after = (r : ℕ) → s.word ≡ row_at me.0 r 0 → (n ≡ s.first → after ≡ (pinned r (made s.word n (s.first + 8) me.0.past) me.0, me.1)) × (n ≢ s.first → after ≡ (stirred (tried s.word n n me.0.past) me.0, me.1))

abbrev pub Unpins : Step ℕ → Me ℕ View → ℕ → Me ℕ View → Type 0
Unpins s me n after = (8 ≤ n) × ((m : ℕ) → m + 8 ≡ n → after ≡ (unpins [] (made s.word n m me.0.past) me.0, me.1))

-- the pin is a hold where the bucket's word is still the scan's; its tree has the words that the scan saw,
-- and its subtrees are those of the holds that its child word names
abbrev pub Confirms : Step ℕ → Me ℕ View → ℕ → Me ℕ View → Type 0
Confirms s me n after =
    (n ≢ (scan_of me.0).word → after ≡ (loads s.word n (tried s.word n n me.0.past) me.0, me.1))
    × (n ≡ (scan_of me.0).word → (t : Tree) × (after ≡ (confirms (first_row me.0.pins) t [] n s.word (tried s.word n n me.0.past) me.0, me.1)) × Told after.0
    × ((e j m : ℕ) → get_elem? (scan_of me.0).parts e ≡ some (first_row me.0.pins, (j, m)) → PartIs t j m)
    × ((e w : ℕ) → get_elem? (scan_of me.0).parts e ≡ some (first_row me.0.pins, (1, w)) → ((a : Tree) → Holds me.0 (left w) a → kid t 0 ≡ a) × ((a : Tree) → Holds me.0 (right w) a → kid t 1 ≡ a)))

-- ---- an offer is withdrawn, or becomes a hold; a bit is cleared
abbrev pub Withdraws : Step ℕ → Me ℕ View → ℕ → Me ℕ View → Type 0
Withdraws s me n after = (8 ≤ n) × ((m : ℕ) → m + 8 ≡ n → after ≡ (frees (rest_of me.0) (made s.word n m me.0.past) me.0, me.1))

abbrev pub made_tree : View → Tree
made_tree v = Node (shape_of (top_of v).kept) (tree_at v (left (slice_index (top_of v).kept 1))) (tree_at v (right (slice_index (top_of v).kept 1)))

abbrev pub Publishes : Step ℕ → Me ℕ View → ℕ → Me ℕ View → Type 0
Publishes s me n after =
    (n ≡ s.first → (after ≡ (publishes (top_of me.0).row (made_tree me.0) (rest_of me.0) (made s.word n s.second me.0.past) me.0, me.1)) × Told after.0)
    × (n ≢ s.first → after ≡ (stirred (tried s.word n n me.0.past) me.0, me.1))

abbrev pub Clears : Step ℕ → Me ℕ View → ℕ → Me ℕ View → Type 0
Clears s me n after = after ≡ (clears ((top_of me.0).row / 32) n (n - 2 ^ ((top_of me.0).row % 32) + 2 ^ 32) (claim (top_of me.0).row Fill (top_of me.0).kids (top_of me.0).unread (top_of me.0).kept) (rest_of me.0) (tried s.word n (n - 2 ^ ((top_of me.0).row % 32) + 2 ^ 32) me.0.past) me.0, me.1)

abbrev pub Drops : Step ℕ → Me ℕ View → ℕ → Me ℕ View → Type 0
Drops s me n after = (8 ≤ n) × ((m : ℕ) → m + 8 ≡ n → after ≡ (turns (claim (top_of me.0).row Fill (later_rows (top_of me.0).kids) (top_of me.0).unread (top_of me.0).kept) (rest_of me.0) (made s.word n m me.0.past) me.0, me.1))

-- ---- a hold of a subtree of the row whose child word was seen last
abbrev pub GainsLeft : Step ℕ → Me ℕ View → ℕ → Me ℕ View → Type 0
GainsLeft s me n after = ((r q w : ℕ) → s.word ≡ row_at me.0 r 0 → get_elem? me.0.seen 0 ≡ some (q, (1, w)) → after ≡ (gains r (kid (known me.0.holds q) 0) (made s.word n (n + 8) me.0.past) me.0, me.1)) × Told after.0

abbrev pub GainsRight : Step ℕ → Me ℕ View → ℕ → Me ℕ View → Type 0
GainsRight s me n after = ((r q w : ℕ) → s.word ≡ row_at me.0 r 0 → get_elem? me.0.seen 0 ≡ some (q, (1, w)) → after ≡ (gains r (kid (known me.0.holds q) 1) (made s.word n (n + 8) me.0.past) me.0, me.1)) × Told after.0

-- ---- the first word
abbrev pub Counts : Step ℕ → Me ℕ View → ℕ → Me ℕ View → Type 0
Counts s me n after = (n ≤ 64 → after ≡ (staged Granted (made 0 n (n + 1) me.0.past) me.0, me.1)) × (64 < n → after ≡ (staged Refused (refusal n (made 0 n (n + 1) me.0.past)) me.0, me.1))

abbrev pub Settles : Step ℕ → Me ℕ View → ℕ → Me ℕ View → Type 0
Settles s me n after = ((m : ℕ) → m + 1 ≡ n → after ≡ (staged Idle (made 0 n m me.0.past) me.0, me.1)) × (0 < n) × Told after.0

abbrev pub SeesPasses : Step ℕ → Me ℕ View → ℕ → Me ℕ View → Type 0
SeesPasses s me n after = (n ≡ 1 → after ≡ (finds_alone n (made 0 n n me.0.past) me.0, me.1)) × (n ≢ 1 → after ≡ (loads 0 n (made 0 n n me.0.past) me.0, me.1))
