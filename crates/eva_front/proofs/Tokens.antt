-- A file has no more tokens than bytes.
use Rattle.std.proofs.Common.{◌≡◌, ℕ, zero, suc, ◌≤◌, Bool, List, [], ◌∷◌, length, drop, take, Option, Some, None, refl, ap, ◌∙◌, sym, arith, length-drop, length-append}
use Rattle.std.specs.Option.{option_to_list}
use Rattle.c_lex.specs.Bytes.{Text, fresh_past}
use Rattle.c_lex.specs.Piece.{Found, piece}
use Rattle.c_lex.specs.Reading.{State, Reads, Lexed, ends, reads, past_piece, start, token_of}
use Rattle.c_lex.specs.declared.piece.Piece.{Piece}
use Rattle.c_lex.proofs.Unique.{no_piece}
use Rattle.c_lex.specs.declared.token.Token.{Token}

fresh_stays : (s : State) (p : Piece) → (past_piece s p []).fresh ≡ s.fresh
unfolding past_piece fresh_past
fresh_stays s p = refl

-- a piece of no bytes would come again for ever
comes_again : (s : State) (p : Piece) (z : Text) (n : ℕ) → n ≡ 0 → piece (past_piece s p (take n z)).fresh (drop n z) ≡ piece s.fresh z
comes_again s p z zero e = ap (λ (f : Bool). piece f z) (fresh_stays s p)
comes_again s p z (suc n) e = absurd (omega arith)

same_length : (f : Found) (p q : Piece) (n m : ℕ) → f ≡ Some (p, n) → f ≡ Some (q, m) → n ≡ m
same_length f p q n m a b =
    let e : Some (p, n) ≡ Some (q, m) = sym a ∙ b in
    let pair : (p, n) ≡ (q, m) = cc in
    ap (λ (x : Piece × ℕ). x.1) pair

piece_has_bytes : (s : State) (z : Text) (ts : List Token) (p : Piece) → Reads s z ts → piece s.fresh z ≡ Some (p, 0) → ⊥
piece_has_bytes s z ts p (ends _ e) h = no_piece s p 0 h
piece_has_bytes s z ts p (reads _ _ q n us found goes rest) h =
    let none = same_length (piece s.fresh z) q p n 0 found h in
    piece_has_bytes (past_piece s q (take n z)) (drop n z) us p rest (comes_again s q z n none ∙ h)

one_at_most : {A : Type 0} (o : Option A) → length (option_to_list o) ≤ 1
one_at_most None = omega arith
one_at_most (Some a) = omega arith

count_from : (s : State) (z : Text) (ts : List Token) → Reads s z ts → length ts ≤ length z
count_from s z ts (ends _ e) = omega arith
count_from s z ts (reads _ _ p zero us found goes rest) = absurd (piece_has_bytes s z ts p (reads s z p zero us found goes rest) found)
count_from s [] ts (reads _ _ p (suc n) us found goes rest) = absurd (no_piece s p (suc n) found)
count_from s (b ∷ z) ts (reads _ _ p (suc n) us found goes rest) =
    let more = count_from (past_piece s p (take (suc n) (b ∷ z))) (drop (suc n) (b ∷ z)) us rest in
    let one = one_at_most (token_of s p (take (suc n) (b ∷ z))) in
    omega (arith, more, one, length-drop (suc n) (b ∷ z), length-append (option_to_list (token_of s p (take (suc n) (b ∷ z)))) us)

pub no_more_tokens : (file : Text) (ts : List Token) → Lexed file ts → length ts ≤ length file
no_more_tokens file ts h = count_from start file ts h
