-- What a step does to what a pass knows; p is what is on record after it.
use Rattle.std.specs.Int.{bit_at}
use Rattle.std.specs.Prelude.{ℕ, List, [], ◌∷◌, ◌++◌, ◌+◌, ◌*◌, ◌<◌, ◌≢◌, ◌⊎◌, ◌%◌, ◌≡◌, zero, suc, slice_index, length, cond, eqb, ltb, ◌^◌, ℤ}
use mathlib.Core.Option.{some}
use lib.ListN.{get_elem?}
use Rattle.store_api.specs.declared.Shape.{Shape}
use Rattle.store_api.specs.Tree.{Tree, Nil}
use Rattle.row_rule.specs.Known.{Claim, Scan, Phase, Fill, Past, Stage, Idle, Joining, Spent}
use Rattle.row_rule.specs.Words.{Table, left, right, line_kind, Empty, state, was_live, Free}
use Rattle.row_rule.specs.declared.view.View.{View}

abbrev pub claim : ℕ → Phase → List ℕ → ℕ → List ℕ → Claim
claim r phase kids unread kept = record { row = r; phase = phase; kids = kids; unread = unread; kept = kept }

-- after a load of the word i, which found n
abbrev pub loads : ℕ → ℕ → Past → View → View
loads i n p v = record v { loaded = (i, n) ∷ v.loaded; past = p }

-- after any other step
abbrev pub stirred : Past → View → View
stirred p v = record v { still = 0; alone = 0; loaded = []; past = p }

abbrev pub with_claims : List Claim → View → View
with_claims cs v = record v { claims = cs }

-- a row is taken
abbrev pub takes : ℕ → Phase → ℕ → Past → View → View
takes r phase unread p v = record v { claims = claim r phase [] unread [] ∷ v.claims; still = 0; alone = 0; loaded = []; past = p }

-- the claim that was begun last goes
abbrev pub frees : List Claim → Past → View → View
frees cs p v = record v { claims = cs; still = 0; alone = 0; loaded = []; past = p }

-- it becomes another claim
abbrev pub turns : Claim → List Claim → Past → View → View
turns c cs p v = record v { claims = c ∷ cs; still = 0; alone = 0; loaded = []; past = p }

-- the tree that a content and two subtrees make
abbrev pub shape_of : List ℕ → Shape
shape_of ws = record {
  head = slice_index ws 0;
  body = slice_index ws 2 ∷ slice_index ws 3 ∷ slice_index ws 4 ∷ slice_index ws 5 ∷ slice_index ws 6 ∷ slice_index ws 7 ∷ slice_index ws 8 ∷ slice_index ws 9 ∷ [];
  kids = slice_index ws 1 % 4;
}

-- the number, 0 for no row and else a row's number and 1, names a row that is held with this tree
abbrev pub Holds : View → ℕ → Tree → Type 0
Holds v w t = (w ≡ 0 → t ≡ Nil) × ((q : ℕ) → w ≡ suc q → (i : ℕ) × (get_elem? v.holds i ≡ some (q, t)))

-- the list without one pair of the row
abbrev pub without : ℕ → List (ℕ × Tree) → List (ℕ × Tree)
without r [] = []
without r (x ∷ xs) = cond (eqb x.0 r) xs (x ∷ without r xs)

-- what was seen of other rows
abbrev pub forget : ℕ → List (ℕ × (ℕ × ℕ)) → List (ℕ × (ℕ × ℕ))
forget r [] = []
forget r (e ∷ es) = cond (eqb e.0 r) (forget r es) (e ∷ forget r es)

-- one more name of the row: a hold, a passing name, a pin
abbrev pub gains : ℕ → Tree → Past → View → View
gains r t p v = record v { holds = (r, t) ∷ v.holds; still = 0; alone = 0; loaded = []; past = p }

abbrev pub lends : ℕ → Tree → Past → View → View
lends r t p v = record v { passing = (r, t) ∷ v.passing; still = 0; alone = 0; loaded = []; past = p }

abbrev pub pinned : ℕ → Past → View → View
pinned r p v = record v { pins = r ∷ v.pins; still = 0; alone = 0; loaded = []; past = p }

-- one name of the row less: a hold, with what was seen of the row; a passing name; the pin
abbrev pub gives : ℕ → Past → View → View
gives r p v = record v { holds = without r v.holds; seen = forget r v.seen; still = 0; alone = 0; loaded = []; past = p }

abbrev pub returns : ℕ → Past → View → View
returns r p v = record v { passing = without r v.passing; still = 0; alone = 0; loaded = []; past = p }

abbrev pub with_pins : List ℕ → View → View
with_pins ps v = record v { pins = ps }

abbrev pub unpins : List ℕ → Past → View → View
unpins ps p v = record v { pins = ps; still = 0; alone = 0; loaded = []; past = p }

-- a line in hand is opened: one name of it is given back, and the pairs are passing names
abbrev pub with_hand : List ℕ → View → View
with_hand hs v = record v { hand = hs }

abbrev pub opens : List ℕ → List (ℕ × Tree) → Past → View → View
opens hs xs p v = record v { hand = hs; passing = xs ++ v.passing; still = 0; alone = 0; loaded = []; past = p }

-- ---- loads: a content word of a row that is held is seen
abbrev pub sees : ℕ → ℕ → ℕ → ℕ → Past → View → View
sees r j n i p v = record v { seen = (r, (j, n)) ∷ v.seen; loaded = (i, n) ∷ v.loaded; past = p }

-- the scan sees a content word, a control word, a row that is Taken
abbrev pub with_scan : Scan → View → View
with_scan x v = record v { scans = x ∷ [] }

abbrev pub scans_part : Scan → ℕ → ℕ → ℕ → ℕ → Past → View → View
scans_part x r j n i p v = record v { scans = record x { parts = (r, (j, n)) ∷ x.parts } ∷ []; loaded = (i, n) ∷ v.loaded; past = p }

abbrev pub scans_control : Scan → ℕ → ℕ → ℕ → Past → View → View
scans_control x r n i p v = record v { scans = record x { controls = (r, n) ∷ x.controls } ∷ []; loaded = (i, n) ∷ v.loaded; past = p }

abbrev pub scans_taken : Scan → ℕ → ℕ → ℕ → Past → View → View
scans_taken x r n i p v = record v { scans = record x { controls = (r, n) ∷ x.controls; taken = r ∷ x.taken } ∷ []; loaded = (i, n) ∷ v.loaded; past = p }

-- a scan begins; it is still where the pass has no name but holds, and no claim
abbrev pub bare : View → ℕ
bare v = cond (eqb (length v.claims + length v.pins + length v.passing + length v.hand) 0) 1 0

abbrev pub begins : ℕ → ℕ → ℕ → Past → View → View
begins b n i p v = record v { scans = record { bucket = b; word = n; parts = []; taken = []; controls = []; begun = v.holds } ∷ []; still = bare v; loaded = (i, n) ∷ v.loaded; past = p }

-- the pin is a hold
abbrev pub confirms : ℕ → Tree → List ℕ → ℕ → ℕ → Past → View → View
confirms r t ps n i p v = record v { holds = (r, t) ∷ v.holds; pins = ps; loaded = (i, n) ∷ v.loaded; past = p }

-- the claim that was begun last becomes another at a load
abbrev pub learns : Claim → List Claim → ℕ → ℕ → Past → View → View
learns c cs n i p v = record v { claims = c ∷ cs; loaded = (i, n) ∷ v.loaded; past = p }

-- the rows that a child word names
abbrev pub row_list : ℕ → List ℕ
row_list zero = []
row_list (suc r) = r ∷ []

abbrev pub kids_in : ℕ → List ℕ
kids_in n = row_list (left n) ++ row_list (right n)

-- a pass that finds 1 in the first word is alone
abbrev pub finds_alone : ℕ → Past → View → View
finds_alone n p v = record v { alone = 1; loaded = (0, n) ∷ cond (eqb v.alone 1) v.loaded []; past = p }

-- the offered row is put into its bucket: the offer is a hold
abbrev pub publishes : ℕ → Tree → List Claim → Past → View → View
publishes r t cs p v = record v { holds = (r, t) ∷ v.holds; claims = cs; still = 0; alone = 0; loaded = []; past = p }

-- the scan shows that no row of its bucket has the content
abbrev pub NotSeen : Scan → ℕ → List ℕ → Type 0
NotSeen x b ws = (w : ℕ) → w < 32 → bit_at x.word w ≡ 1
    → ((i : ℕ) × (get_elem? x.taken i ≡ some (32 * b + w))) ⊎ ((i : ℕ) × (j : ℕ) × (n : ℕ) × (get_elem? x.parts i ≡ some (32 * b + w, (j, n))) × (n ≢ slice_index ws j))

-- the Dying row is taken out of its bucket; a scan of the word that was found has the new word
abbrev pub rescan : ℕ → ℕ → ℕ → List Scan → List Scan
rescan b n new [] = []
rescan b n new (x ∷ xs) = record x { word = cond (eqb x.bucket b) (cond (eqb x.word n) new x.word) x.word } ∷ rescan b n new xs

abbrev pub clears : ℕ → ℕ → ℕ → Claim → List Claim → Past → View → View
clears b n new c cs p v = record v { claims = c ∷ cs; scans = rescan b n new v.scans; still = 0; alone = 0; loaded = []; past = p }

-- ---- the number of passes, splits and joins
abbrev pub with_stage : Stage → View → View
with_stage g v = record v { stage = g }

abbrev pub staged : Stage → Past → View → View
staged g p v = record v { stage = g; still = 0; alone = 0; loaded = []; past = p }

abbrev pub no_past : Past
no_past = record { steps = []; swaps = []; refused = []; reused = 0; tries = 0 }

-- a pass that knows nothing
abbrev pub empty_view : Stage → List ℤ → ℕ → ℕ → View
empty_view g about buckets lines = record {
  holds = [];
  passing = [];
  pins = [];
  claims = [];
  hand = [];
  scans = [];
  still = 0;
  seen = [];
  about = about;
  buckets = buckets;
  lines = lines;
  stage = g;
  alone = 0;
  loaded = [];
  past = no_past;
}

-- the two passes after a split: this one, and a new one without names
abbrev pub split_left : View → View
split_left v = record v { stage = Idle; still = 0; alone = 0; loaded = [] }

abbrev pub split_right : View → View
split_right v = empty_view Idle v.about v.buckets v.lines

-- a pass takes in another's holds, and adds its counts; the other is spent
abbrev pub joined : View → View → View
joined v u = record v { holds = v.holds ++ u.holds; stage = Joining; still = 0; alone = 0; loaded = []; past = record v.past { reused = v.past.reused + u.past.reused; tries = v.past.tries + u.past.tries } }

abbrev pub spent : View
spent = empty_view Spent [] 0 0

-- ---- a cache line is swapped: the old one is in hand, unless it is empty
abbrev pub caught : ℕ → List ℕ → List ℕ
caught n hs = cond (eqb (line_kind n) Empty) hs (n ∷ hs)

abbrev pub swaps : ℕ → List ℕ → List (ℕ × Tree) → Past → View → View
swaps n hs ps p v = record v { hand = caught n hs; passing = ps; still = 0; alone = 0; loaded = []; past = p }

abbrev pub with_names : List ℕ → List (ℕ × Tree) → View → View
with_names hs ps v = record v { hand = hs; passing = ps }

-- the words of a new table: one pass, each bucket empty and of this version, all rows Free, all lines empty
abbrev pub first_word : Table → ℕ → ℕ → ℕ
first_word k version i = cond (eqb i 0) 1 (cond (ltb i (1 + k.buckets)) (version * 2 ^ 32) 0)

-- its pass
abbrev pub first_view : Table → View
first_view k = empty_view Idle k.about k.buckets k.lines

-- the tree of the first pair of the row
abbrev pub known : List (ℕ × Tree) → ℕ → Tree
known [] r = Nil
known (x ∷ xs) r = cond (eqb x.0 r) x.1 (known xs r)

-- ---- what is on record: the word i was found as n and left as m
abbrev pub made : ℕ → ℕ → ℕ → Past → Past
made i n m p = record p { steps = (i, (n, m)) ∷ p.steps }

-- 1 where the word i is found as n, and this pass's last step on it left something else
abbrev pub changed : List (ℕ × (ℕ × ℕ)) → ℕ → ℕ → ℕ
changed [] i n = 0
changed (x ∷ xs) i n = cond (eqb x.0 i) (cond (eqb x.1.1 n) 0 1) (changed xs i n)

-- the same on record, where such a find is a try: a compare and exchange that failed, a bit that was
-- cleared, a pin that is confirmed
abbrev pub tried : ℕ → ℕ → ℕ → Past → Past
tried i n m p = record p { steps = (i, (n, m)) ∷ p.steps; tries = p.tries + changed p.steps i n }

-- how many of the scans are of the bucket
abbrev pub scanned : ℕ → List Scan → ℕ
scanned b [] = 0
scanned b (x ∷ xs) = cond (eqb x.bucket b) 1 0 + scanned b xs

-- the same, where a Dying claim loads its bucket's word, which is a try in the scan's bucket alone
abbrev pub noticed : ℕ → List Scan → ℕ → ℕ → Past → Past
noticed b xs i n p = record p { steps = (i, (n, n)) ∷ p.steps; tries = p.tries + cond (eqb (scanned b xs) 0) 0 (changed p.steps i n) }

-- a row with the control word n was taken: it counts where it was Free and had been Live before
abbrev pub retaken : ℕ → Past → Past
retaken n p = record p { reused = p.reused + cond (eqb (state n) Free) (was_live n) 0 }

-- a cache word i was swapped, and n was found
abbrev pub swapped : ℕ → ℕ → Past → Past
swapped i n p = record p { swaps = (i, n) ∷ p.swaps }

-- ---- the claim that was begun last, and the others
abbrev pub first_claim : List Claim → Claim
first_claim [] = claim 0 Fill [] 0 []
first_claim (c ∷ cs) = c

abbrev pub later_claims : List Claim → List Claim
later_claims [] = []
later_claims (c ∷ cs) = cs

abbrev pub top_of : View → Claim
top_of v = first_claim v.claims

abbrev pub rest_of : View → List Claim
rest_of v = later_claims v.claims

-- it is in this phase, with these children and this reading of its row's child word
abbrev pub IsTop : Phase → List ℕ → ℕ → View → Type 0
IsTop phase kids unread v = v.claims ≡ claim (top_of v).row phase kids unread (top_of v).kept ∷ rest_of v

-- ---- the scan, and the tree of a child word's row
abbrev pub first_scan : List Scan → Scan
first_scan [] = record { bucket = 0; word = 0; parts = []; taken = []; controls = []; begun = [] }
first_scan (x ∷ xs) = x

abbrev pub scan_of : View → Scan
scan_of v = first_scan v.scans

abbrev pub tree_at : View → ℕ → Tree
tree_at v zero = Nil
tree_at v (suc q) = known v.holds q

-- the rows behind the first
abbrev pub later_rows : List ℕ → List ℕ
later_rows [] = []
later_rows (r ∷ rs) = rs

abbrev pub first_row : List ℕ → ℕ
first_row [] = 0
first_row (r ∷ rs) = r

-- on record: a split was refused, where the first word was n
abbrev pub refusal : ℕ → Past → Past
refusal n p = record p { refused = n ∷ p.refused }
