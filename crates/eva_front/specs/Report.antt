-- The report on one entry.
use Rattle.std.specs.Prelude.{ℕ, ℤ, List, [], ◌∷◌, ◌++◌, length, map, slice_get, Option, Some, None}
use Rattle.std.specs.List.{flat_map}
use Rattle.std.specs.Fmt.{decimal, signed_decimal}
use lib.Chars.{codes}
use Rattle.program.specs.declared.graph.Place.{Place}
use Rattle.program.specs.declared.graph.Node.{Node}
use Rattle.program.specs.declared.graph.Function.{Function}
use Rattle.program.specs.declared.sites.Kind.{Kind}
use Rattle.program.specs.declared.sites.Kind.TheVariants as kind
use Rattle.program.specs.declared.sites.Site.{Site}
use Rattle.iterate.specs.declared.constant.State.{State}
use Rattle.iterate.specs.declared.constant.State.TheVariants.{Bottom, Live}
use Rattle.iterate.specs.declared.constant.EntryResult.{EntryResult}
use Rattle.eva_front.specs.FileNames.{file_name, shown_name}

-- the name of a kind of undefined behaviour
abbrev pub kind_text : Kind → List ℕ
kind_text kind.DivisionByZero = codes "division_by_zero"
kind_text kind.SignedOverflow = codes "signed_overflow"
kind_text kind.Shift = codes "shift"
kind_text kind.IndexBound = codes "index_bound"
kind_text kind.PointerArithmetic = codes "pointer_arithmetic"
kind_text kind.MemAccess = codes "mem_access"
kind_text kind.DifferingBlocks = codes "differing_blocks"
kind_text kind.PointerComparison = codes "pointer_comparison"
kind_text kind.Initialization = codes "initialization"
kind_text kind.Dangling = codes "dangling"
kind_text kind.PointerBytes = codes "pointer_bytes"
kind_text kind.MissingReturn = codes "missing_return"

-- the place of a node's statement
abbrev pub node_place : Option Node → Place
node_place None = record { name_at = 0; name_len = 0; line = 0 }
node_place (Some node) = node.place

-- the name of a place's file, where `word` names the file on the command line
abbrev pub name_of : List ℕ → List ℕ → Place → List ℕ
name_of file word p = file_name file word p.name_at p.name_len

abbrev pub alarm_line : List ℕ → List ℕ → Function → Site → List ℕ
alarm_line file word f s =
    codes "alarm " ++ shown_name (name_of file word (node_place (slice_get f.nodes s.node))) ++ codes ":" ++ decimal (node_place (slice_get f.nodes s.node)).line
    ++ codes " " ++ kind_text s.kind ++ codes " in " ++ f.name ++ codes " " ++ decimal s.node ++ codes "." ++ decimal s.sub

-- what is known of the result where the function ends
abbrev pub value_text : Option ℤ → List ℕ
value_text None = codes "UNINITIALIZED"
value_text (Some v) = codes "{" ++ signed_decimal v ++ codes "}"

abbrev pub end_lines : List ℕ → State → List (List ℕ)
end_lines name Bottom = (codes "end of " ++ name ++ codes ": none") ∷ []
end_lines name (Live outcome) = (codes "end of " ++ name ++ codes ":") ∷ (codes "  \\result = " ++ value_text outcome) ∷ []

abbrev pub first_line : List ℕ → ℕ → List ℕ
first_line name turns = codes "entry " ++ name ++ codes ": complete, " ++ decimal turns ++ codes " turns"

abbrev pub last_line : ℕ → ℕ → List ℕ
last_line alarms turns = codes "entries 1, complete 1, alarms " ++ decimal alarms ++ codes ", turns " ++ decimal turns

-- the entry with its turns; each alarm; the end of the function; the sums
abbrev pub report_lines : List ℕ → List ℕ → Function → EntryResult → List (List ℕ)
report_lines file word f r =
    first_line f.name r.turns ∷ (map (alarm_line file word f) r.alarms ++ (end_lines f.name r.end ++ last_line (length r.alarms) r.turns ∷ []))

-- each line ends with a newline
abbrev pub ended : List ℕ → List ℕ
ended line = line ++ 10 ∷ []

abbrev pub text_of_lines : List (List ℕ) → List ℕ
text_of_lines lines = flat_map ended lines

-- the report on a run of a function of the file
abbrev pub report_text : List ℕ → List ℕ → Function → EntryResult → List ℕ
report_text file word f r = text_of_lines (report_lines file word f r)
