-- A reader in the middle of a file.
use Rattle.std.proofs.Common.{◌≡◌, ◌+◌, ◌≤◌, ◌^◌, List, [], ◌∷◌, ◌++◌, length, take, Option, Some, None, arith, append-nil, append_assoc}
use Rattle.std.specs.Option.{option_to_list}
use Rattle.c_lex.specs.Bytes.{Text}
use Rattle.c_lex.specs.Reading.{State, start, stop_at, end_stop, token_of, Reads, reads, ends, Stops, stands, later, Passes, Stands, Refused, Lexed}
use Rattle.c_lex.specs.declared.token.Token.{Token}
use Rattle.c_lex.specs.declared.error.LexStop.{LexStop}
use Rattle.c_lex.specs.declared.error.LexStop.TheVariants as stop

-- what follows here makes up the file, behind these tokens
pub record Reached (file : Text) (s : State) (z : Text) (ts : List Token) : Type 0 where
  pub size : s.at + length z ≤ 1048576
  pub line : s.place.line ≤ 2 ^ 31 + s.at
  pub reading : (us : List Token) → Reads s z us → Reads start file (ts ++ us)
  pub stopping : (e : LexStop) → Stops s z e → Stops start file e

pub begun : (file : Text) → length file ≤ 1048576 → Reached file start file []
begun file h = record { size = omega arith; line = omega arith; reading = λ us r. r; stopping = λ e r. r }

-- one piece further
pub passed : (file z rest : Text) (s s' : State) (ts : List Token) (t : Option Token) → Reached file s z ts → Passes s z t rest s' →
    s'.at + length rest ≡ s.at + length z → s'.place.line ≤ 2 ^ 31 + s'.at → Reached file s' rest (ts ++ option_to_list t)
passed file z rest s s' ts t h p at line = record {
  size = omega (arith, h.size);
  line = line;
  reading = λ us r.
      let step : Reads s z (option_to_list (token_of s p.what (take p.len z)) ++ us) =
      reads s z p.what p.len us p.found p.goes (rw (← p.now, ← p.behind) r) in
      rw (append_assoc ts (option_to_list t) us, p.token) (h.reading _ step);
  stopping = λ e r. h.stopping e (later s z p.what p.len e p.found p.goes (rw (← p.now, ← p.behind) r));
}

pub refused : (file : Text) (e : LexStop) → Stops start file e → Refused file e
refused file stop.Memory h = tt
refused file (stop.BadByte at place) h = h
refused file (stop.BadToken at place) h = h
refused file (stop.LiteralTooWide at place) h = h

pub refused_at : (file z : Text) (s : State) (ts : List Token) (e : LexStop) → Reached file s z ts → Stands s z e → Refused file e
refused_at file z s ts stop.Memory h e = tt
refused_at file z s ts (stop.BadByte at place) h e = h.stopping _ (stands s z _ e)
refused_at file z s ts (stop.BadToken at place) h e = h.stopping _ (stands s z _ e)
refused_at file z s ts (stop.LiteralTooWide at place) h e = h.stopping _ (stands s z _ e)

pub refused_memory : (file : Text) (e : LexStop) → e ≡ stop.Memory → Refused file e
refused_memory file e h = rw h tt

pub lexed_at_end : (file z : Text) (s : State) (ts : List Token) → Reached file s z ts → length z ≡ 0 → end_stop s ≡ None → Lexed file ts
unfolding stop_at
lexed_at_end file [] s ts h none e = rw (← append-nil ts) (h.reading [] (ends s e))
lexed_at_end file (b ∷ z) s ts h none e = absurd (omega arith)

pub refused_at_end : (file z : Text) (s : State) (ts : List Token) (e : LexStop) → Reached file s z ts → length z ≡ 0 → end_stop s ≡ Some e → Refused file e
unfolding stop_at
refused_at_end file [] s ts e h none is = refused file e (h.stopping e (stands s [] e is))
refused_at_end file (b ∷ z) s ts e h none is = absurd (omega arith)
