-- What the words on the command line mean.
use Rattle.std.specs.Prelude.{ℕ, Bool, true, false, not, ◌&&◌, ◌||◌, ◌==◌, nat_le, if◌then◌else◌, List, [], ◌∷◌, length, take, drop, Option, Some, None, option_map, option_and_then}
use Rattle.std.specs.List.{list_all}
use Rattle.std.specs.Str.{bytes_eq}
use lib.Chars.{codes}
use Rattle.command_line.specs.Numbers.{allows, number_of}
use Rattle.command_line.specs.Parts.{Given, Parts, Text, parts}
use Rattle.command_line.specs.declared.command.Command.{Command}
use Rattle.command_line.specs.declared.command.Input.{Input}
use Rattle.command_line.specs.declared.command.Input.TheVariants.{Named, Generated}
use Rattle.command_line.specs.declared.command.Settings.{Settings}
use Rattle.command_line.specs.declared.numbers.Allowed.{Allowed}

-- ---- options

abbrev pub range : ℕ → ℕ → Allowed
range least most = record { zero = false; least = least; most = most }

abbrev pub zero_or : ℕ → ℕ → Allowed
zero_or least most = record { zero = true; least = least; most = most }

abbrev pub is_absent : Text → List Given → Bool
is_absent name given = list_all (λ g. not (bytes_eq g.0 name)) given

-- the number of an option, 1 to 10 digits; its default where it isn't given, and none where it is given twice
abbrev pub option_value : List Given → Text → Allowed → ℕ → Option ℕ
option_value [] name allowed default = Some default
option_value (g ∷ rest) name allowed default =
    if bytes_eq g.0 name then (if is_absent name rest then number_of 10 (allows allowed) g.1 else None)
    else option_value rest name allowed default

abbrev pub is_known : Text → Bool
is_known name =
    bytes_eq name (codes "workers") || (bytes_eq name (codes "cache") || (bytes_eq name (codes "rows") || (bytes_eq name (codes "steps") || bytes_eq name (codes "slevel"))))

abbrev pub with_values : Option ℕ → Option ℕ → Option ℕ → Option ℕ → Option ℕ → Option Settings
with_values (Some workers) (Some cache_log) (Some rows_log) (Some steps) (Some slevel) =
    Some (record { workers = workers; cache_log = cache_log; rows_log = rows_log; steps = steps; slevel = slevel })
with_values _ _ _ _ _ = None

abbrev pub settings_of : List Given → Option Settings
settings_of given =
    if list_all (λ g. is_known g.0) given
    then with_values
    (option_value given (codes "workers") (range 1 64) 4)
    (option_value given (codes "cache") (zero_or 4 16) 12)
    (option_value given (codes "rows") (range 10 20) 16)
    (option_value given (codes "steps") (range 1 1000000000) 1000000)
    (option_value given (codes "slevel") (range 0 200) 0)
    else None

-- ---- the input and the entries

-- behind `gen:` stand 1 to 4 digits of a number from 1 to 1000
abbrev pub input_of : Text → Option Input
input_of word =
    if bytes_eq (take 4 word) (codes "gen:") then option_map Generated (number_of 4 (allows (range 1 1000)) (drop 4 word))
    else Some (Named word)

abbrev pub is_named : Text → Bool
is_named word = not (length word == 0)

-- 1 to 256 words, none of them empty
abbrev pub are_entries : List Text → Bool
are_entries words = nat_le 1 (length words) && (nat_le (length words) 256 && list_all is_named words)

-- a file and its entries
abbrev pub command_of : Settings → List Text → Option Command
command_of settings [] = None
command_of settings (file ∷ entries) =
    if is_named file && are_entries entries
    then option_map (λ input. record { input = input; entries = entries; settings = settings }) (input_of file)
    else None

abbrev pub meaning_of_parts : Parts → Option Command
meaning_of_parts p = option_and_then (λ settings. command_of settings p.others) (settings_of p.given)

-- the command that the words stand for, if they have a meaning
abbrev pub meaning : List Text → Option Command
meaning words = option_and_then meaning_of_parts (parts words)
