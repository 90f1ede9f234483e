-- One place has one piece or one stop, so a file has one reading.
use Rattle.std.proofs.Common.{◌≡◌, ℕ, Bool, true, false, List, [], ◌++◌, take, drop, Option, Some, None, refl, ap}
use Rattle.std.specs.Option.{option_to_list}
use Rattle.c_lex.specs.Bytes.{Text}
use Rattle.c_lex.specs.Literal.{prefix}
use Rattle.c_lex.specs.Vocabulary.{punctuator_len}
use Rattle.c_lex.specs.Piece.{Found, piece, punctuator}
use Rattle.c_lex.specs.Reading.{State, stop_at, token_of, past_piece, Reads, reads, ends, Stops, stands, later}
use Rattle.c_lex.specs.declared.piece.Piece.{Piece}
use Rattle.c_lex.specs.declared.token.Token.{Token}
use Rattle.c_lex.specs.declared.error.LexStop.{LexStop}

piece_none : (fresh : Bool) → piece fresh [] ≡ None
unfolding piece punctuator prefix punctuator_len
piece_none true = refl
piece_none false = refl

parts : (x y : Piece × ℕ) → x ≡ y → (x.0 ≡ y.0) × (x.1 ≡ y.1)
parts x y e = (ap (λ (t : Piece × ℕ). t.0) e, ap (λ (t : Piece × ℕ). t.1) e)

same_pair : (f : Found) (x y : Piece × ℕ) → f ≡ Some x → f ≡ Some y → x ≡ y
same_pair f x y a b = cc

same_piece : (f : Found) (p q : Piece) (n m : ℕ) → f ≡ Some (p, n) → f ≡ Some (q, m) → (p ≡ q) × (n ≡ m)
same_piece f p q n m a b = parts (p, n) (q, m) (same_pair f (p, n) (q, m) a b)

some_some : (o : Option LexStop) (e f : LexStop) → o ≡ Some e → o ≡ Some f → e ≡ f
some_some o e f a b = cc

none_some : (o : Option LexStop) (e : LexStop) → o ≡ None → o ≡ Some e → ⊥
none_some o e a b = cc

pub no_piece : (s : State) (p : Piece) (n : ℕ) → piece s.fresh [] ≡ Some (p, n) → ⊥
no_piece s p n a = let e = piece_none s.fresh in cc

pub one_list : (s : State) (z : Text) (ts us : List Token) → Reads s z ts → Reads s z us → ts ≡ us
one_list s z ts us (ends _ _) (ends _ _) = refl
one_list s z ts us (ends _ _) (reads _ _ p n vs found goes rest) = absurd (no_piece s p n found)
one_list s z ts us (reads _ _ p n vs found goes rest) (ends _ _) = absurd (no_piece s p n found)
one_list s z ts us (reads _ _ p n vs found goes rest) (reads _ _ q m ws found' goes' rest') =
    let same = same_piece (piece s.fresh z) p q n m found found' in
    let moved : Reads (past_piece s p (take n z)) (drop n z) ws = rw (same.0, same.1) rest' in
    rw (same.0, same.1) (ap (λ y. option_to_list (token_of s q (take m z)) ++ y) (one_list _ _ vs ws rest moved))

pub one_stop : (s : State) (z : Text) (e f : LexStop) → Stops s z e → Stops s z f → e ≡ f
one_stop s z e f (stands _ _ _ a) (stands _ _ _ b) = some_some (stop_at s z) e f a b
one_stop s z e f (stands _ _ _ a) (later _ _ p n _ found goes rest) = absurd (none_some (stop_at s z) e goes a)
one_stop s z e f (later _ _ p n _ found goes rest) (stands _ _ _ b) = absurd (none_some (stop_at s z) f goes b)
one_stop s z e f (later _ _ p n _ found goes rest) (later _ _ q m _ found' goes' rest') =
    let same = same_piece (piece s.fresh z) p q n m found found' in
    let moved : Stops (past_piece s p (take n z)) (drop n z) f = rw (same.0, same.1) rest' in
    one_stop _ _ e f rest moved

pub never_both : (s : State) (z : Text) (ts : List Token) (e : LexStop) → Reads s z ts → Stops s z e → ⊥
never_both s z ts e (ends _ none) (stands _ _ _ a) = none_some (stop_at s []) e none a
never_both s z ts e (ends _ none) (later _ _ p n _ found goes rest) = no_piece s p n found
never_both s z ts e (reads _ _ p n vs found goes rest) (stands _ _ _ a) = none_some (stop_at s z) e goes a
never_both s z ts e (reads _ _ p n vs found goes rest) (later _ _ q m _ found' goes' rest') =
    let same = same_piece (piece s.fresh z) p q n m found found' in
    let moved : Stops (past_piece s p (take n z)) (drop n z) e = rw (same.0, same.1) rest' in
    never_both _ _ vs e rest moved
