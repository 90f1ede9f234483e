-- The tokens of a file, and what stops it.
use Rattle.std.specs.Prelude.{◌≡◌, ℕ, zero, suc, ◌+◌, ◌-◌, ◌^◌, Bool, true, false, not, ◌&&◌, ◌||◌, if◌then◌else◌, ◌==◌, nat_lt, List, [], ◌∷◌, ◌++◌, length, take, drop, slice_index, bytes_eq, codes, Option, Some, None}
use Rattle.std.specs.List.{slice_get}
use Rattle.std.specs.Option.{option_map, option_to_list}
use Rattle.c_lex.specs.Bytes.{Text, is_blank, is_plain, past, fresh_past, lines_in}
use Rattle.c_lex.specs.Number.{is_integer, integer_value, is_floating}
use Rattle.c_lex.specs.Vocabulary.{is_among, keywords, skipped_words, is_attribute}
use Rattle.c_lex.specs.Piece.{Found, piece}
use Rattle.c_lex.specs.declared.class.Class.{Class}
use Rattle.c_lex.specs.declared.class.Class.TheVariants as class
use Rattle.c_lex.specs.declared.piece.Piece.{Piece}
use Rattle.c_lex.specs.declared.piece.Piece.TheVariants.{Blank, Comment, Marker, Pragma, Word, Number, Char, Str, Punct}
use Rattle.c_lex.specs.declared.token.TokenKind.{TokenKind}
use Rattle.c_lex.specs.declared.token.TokenKind.TheVariants as kind
use Rattle.c_lex.specs.declared.token.Place.{Place}
use Rattle.c_lex.specs.declared.token.Token.{Token}
use Rattle.c_lex.specs.declared.scan.Bracket.{Bracket}
use Rattle.c_lex.specs.declared.scan.Scanner.{Scanner}
use Rattle.c_lex.specs.declared.error.LexStop.{LexStop}
use Rattle.c_lex.specs.declared.error.LexStop.TheVariants as stop

-- Where a reader stands.
pub record State : Type 0 where
  pub at : ℕ
  -- nothing but white space stands before in the line
  pub fresh : Bool
  pub place : Place
  -- the brackets of attributes that are open, the newest last
  pub brackets : List Bracket

abbrev pub state_of : Scanner → State
state_of s = record { at = s.at; fresh = s.fresh; place = s.place; brackets = s.brackets.items }

abbrev pub start : State
start = record { at = 0; fresh = true; place = record { name_at = 0; name_len = 0; line = 1 }; brackets = [] }

-- a place some bytes further on
abbrev pub further : Text → Place → Place
further w p = record p { line = p.line + lines_in w }

-- ---- skipped pieces and attributes

unfoldable pub skipped_len : Found → ℕ
skipped_len None = 0
skipped_len (Some (Blank, n)) = n
skipped_len (Some (Comment, n)) = n
skipped_len (Some (Marker m, n)) = n
skipped_len (Some (Pragma, n)) = n
skipped_len (Some (p, n)) = 0

-- The text behind white space, comments and lines that begin with `#`. The number counts the bytes that are left of one.
abbrev pub behind_from : ℕ → Bool → Text → Text
behind_from left fresh [] = []
behind_from (suc left) fresh (b ∷ z) = behind_from left (b == 10 || (fresh && is_blank b)) z
behind_from zero fresh (b ∷ z) =
    let len = skipped_len (piece fresh (b ∷ z)) in
    if len == 0 then b ∷ z else behind_from (len - 1) (b == 10 || (fresh && is_blank b)) z

unfoldable pub behind : Bool → Text → Text
behind fresh z = behind_from 0 fresh z

-- the bracket that begins an attribute's list comes next
unfoldable pub list_follows : Text → Bool
list_follows z = slice_index (behind false z) 0 == 40

-- what the newest of the open brackets becomes
abbrev pub on_newest : (Bracket → List Bracket) → List Bracket → List Bracket
on_newest f [] = []
on_newest f (o ∷ []) = f o
on_newest f (o ∷ p ∷ os) = o ∷ on_newest f (p ∷ os)

-- the first `(` behind the word begins its list, and each further one is one more
abbrev pub one_more : Bracket → List Bracket
one_more o = if o.begun then o ∷ o ∷ [] else record o { begun = true } ∷ []

abbrev pub one_less : Bracket → List Bracket
one_less o = []

unfoldable pub brackets_past : State → Piece → Text → List Bracket
brackets_past s Word w = if is_attribute w then s.brackets ++ (record { attribute = s.at; place = s.place; begun = false } ∷ []) else s.brackets
brackets_past s Punct w = if bytes_eq w (codes "(") then on_newest one_more s.brackets else (if bytes_eq w (codes ")") then on_newest one_less s.brackets else s.brackets)
brackets_past s p w = s.brackets

-- ---- one piece

-- a marker's name and number are those of the lines behind it
unfoldable pub place_past : State → Piece → Text → Place
place_past s (Marker m) w = record { name_at = s.at + m.name_at; name_len = m.name_len; line = m.number }
place_past s p w = further w s.place

unfoldable pub past_piece : State → Piece → Text → State
past_piece s p w = record { at = s.at + length w; fresh = fresh_past s.fresh w; place = place_past s p w; brackets = brackets_past s p w }

unfoldable pub kind_of : Piece → Text → Option TokenKind
kind_of Word w = if is_attribute w || is_among skipped_words w then None else Some (if is_among keywords w then kind.Keyword else kind.Name)
kind_of Number w = Some (if is_integer w then kind.Int else kind.Float)
kind_of Char w = Some kind.Char
kind_of Str w = Some kind.Str
kind_of Punct w = Some kind.Punct
kind_of p w = None

-- the token that a piece is, outside the lists of attributes
unfoldable pub token_of : State → Piece → Text → Option Token
token_of s p w =
    if length s.brackets == 0 then option_map (λ k. record { kind = k; at = s.at; len = length w; place = s.place }) (kind_of p w) else None

-- ---- stops

abbrev pub bad_byte : ℕ → Place → Option LexStop
bad_byte at place = Some (stop.BadByte at place)

abbrev pub bad_token : ℕ → Place → Option LexStop
bad_token at place = Some (stop.BadToken at place)

-- the bytes that may stand in a piece
abbrev pub allowed : Piece → Class
allowed Pragma = class.Plain
allowed p = class.Inner

-- a number that is no constant or too large, an attribute without its list
unfoldable pub own_stop : State → Piece → Text → Text → Option LexStop
own_stop s Number w rest =
    if is_integer w then (if nat_lt (integer_value w) (2 ^ 64) then None else Some (stop.LiteralTooWide s.at s.place))
    else (if is_floating w then None else bad_token s.at s.place)
own_stop s Word w rest = if is_attribute w && not (list_follows rest) then bad_token s.at s.place else None
own_stop s p w rest = None

-- the first byte of a piece that may not stand in it, or else its own stop
unfoldable pub piece_stop : State → Piece → Text → Text → Option LexStop
piece_stop s p w rest =
    let good = past (allowed p) w 0 in
    if nat_lt good (length w) then bad_byte (s.at + good) (further (take good w) s.place) else own_stop s p w rest

-- at the end of the file, an attribute whose list is open
unfoldable pub end_stop : State → Option LexStop
end_stop s = option_map (λ o. stop.BadToken o.attribute o.place) (slice_get s.brackets (length s.brackets - 1))

abbrev pub found_stop : State → Found → Text → Option LexStop
found_stop s None z = if is_plain (slice_index z 0) then bad_token s.at s.place else bad_byte s.at s.place
found_stop s (Some (p, n)) z = piece_stop s p (take n z) (drop n z)

-- The stop that stands at this place, if one does.
unfoldable pub stop_at : State → Text → Option LexStop
stop_at s [] = end_stop s
stop_at s z = found_stop s (piece s.fresh z) z

-- one piece is read, and the reader stands behind it
pub record Passes (s : State) (z : Text) (t : Option Token) (rest : Text) (s' : State) : Type 0 where
  pub what : Piece
  pub len : ℕ
  pub found : piece s.fresh z ≡ Some (what, len)
  pub goes : stop_at s z ≡ None
  pub token : t ≡ token_of s what (take len z)
  pub behind : rest ≡ drop len z
  pub now : s' ≡ past_piece s what (take len z)

-- memory may run out at any place
abbrev pub Stands : State → Text → LexStop → Type 0
Stands s z stop.Memory = Unit {0}
Stands s z e = stop_at s z ≡ Some e

-- ---- whole files

-- What is left of a file from here on is pieces, each the one that stands at its place, up to the end, and these tokens.
pub data Reads : State → Text → List Token → Type 0 where
  ends : (s : State) → stop_at s [] ≡ None → Reads s [] []
  reads : (s : State) (z : Text) (p : Piece) (n : ℕ) (ts : List Token) → piece s.fresh z ≡ Some (p, n) → stop_at s z ≡ None →
      Reads (past_piece s p (take n z)) (drop n z) ts → Reads s z (option_to_list (token_of s p (take n z)) ++ ts)

-- Pieces like these, up to the first place where a stop stands.
pub data Stops : State → Text → LexStop → Type 0 where
  stands : (s : State) (z : Text) (e : LexStop) → stop_at s z ≡ Some e → Stops s z e
  later : (s : State) (z : Text) (p : Piece) (n : ℕ) (e : LexStop) → piece s.fresh z ≡ Some (p, n) → stop_at s z ≡ None →
      Stops (past_piece s p (take n z)) (drop n z) e → Stops s z e

abbrev pub Lexed : Text → List Token → Type 0
Lexed file ts = Reads start file ts

-- memory may run out at any place
abbrev pub Refused : Text → LexStop → Type 0
Refused file stop.Memory = Unit {0}
Refused file e = Stops start file e
