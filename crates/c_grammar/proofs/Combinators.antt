-- A parser goes forward, depends on no word behind the place where it ends or stops, goes past no place without a word, and
-- perhaps takes a word before it ends. So many words are known to follow. It keeps the names in scope, perhaps with more in front.
use Rattle.std.proofs.Common.{◌≡◌, ℕ, zero, suc, ◌+◌, ◌-◌, ◌<◌, ◌≤◌, ◌⊎◌, inl, inr, Bool, true, false, List, [], ◌∷◌, ◌++◌, take, drop, None, Ok, Err, refl, sym, ap, ◌∙◌, subst, arith, le_trans, le_refl, length, append_assoc, length-append}
use Rattle.c_input.specs.declared.word.Sign.TheVariants as sign
use Rattle.c_input.specs.declared.measured.Measured.{Measured}
use Rattle.c_input.specs.declared.word.Sign.{Sign}
use Rattle.c_input.specs.declared.word.Place.{Place as State}
use Rattle.c_input.specs.Input.{Names, Words, step, sign_at, look_at, name_in, is_name, oldest}
use Rattle.c_input.specs.Parser.{Stop, syntax, too_deep, left_out, most_words, Outcome, Parser, and_then, ◌>>=◌, ◌>>◌, pure, look, here, skip, stop_by, refuse, too_deep_here, left_out_here, no_room, if_so, expect, take_name, any_name, declare, scoped, many_from, many, one_or_more, separated, trailed_from, trailed, trees, deepest, gathered}
use Rattle.c_grammar.specs.Places.{stop_place, place, SameTo, GoesForward, IsLocal}

abbrev pub Past : {A : Type 0} → ℕ → Outcome A → Type 0
Past n (Ok x) = n ≤ x.1.at
Past n (Err e) = Unit {0}

-- these names, and perhaps more in front
abbrev pub Extends : Names → Names → Type 0
Extends outer names = (new : Names) × (names ≡ new ++ outer)

pub extends_refl : (names : Names) → Extends names names
extends_refl names = ([], refl)

pub extends_trans : (a b c : Names) → Extends a b → Extends b c → Extends a c
extends_trans a b c x y = (y.0 ++ x.0, y.1 ∙ ap (λ z. y.0 ++ z) x.1 ∙ sym (append_assoc y.0 x.0 a))

abbrev pub Keeps : {A : Type 0} → Names → Outcome A → Type 0
Keeps outer (Ok x) = Extends outer x.1.names
Keeps outer (Err e) = Unit {0}

keeps_more : {A : Type 0} (a b : Names) (o : Outcome A) → Extends a b → Keeps b o → Keeps a o
keeps_more a b (Ok x) e h = extends_trans a b x.1.names e h
keeps_more a b (Err stop) e h = tt

keeps_on : {A B : Type 0} (W : Words) (names : Names) (o : Outcome A) (f : A → Parser B) → ((a : A) (t : State) → Keeps t.names (f a W t)) → Keeps names o →
    Keeps names (and_then W o f)
keeps_on W names (Ok x) f h e = keeps_more names x.1.names (f x.0 W x.1) e (h x.0 x.1)
keeps_on W names (Err stop) f h e = tt

dropped : (new outer : Names) → drop (length new) (new ++ outer) ≡ outer
dropped [] outer = refl
dropped (x ∷ new) outer = dropped new outer

pub oldest_are : (outer names : Names) → Extends outer names → oldest (length outer) names ≡ outer
oldest_are outer names e = ap (oldest (length outer)) e.1 ∙
    ap (λ n. drop n (e.0 ++ outer)) (omega (arith, length-append e.0 outer)) ∙ dropped e.0 outer

taken : (new outer : Names) → take (length new) (new ++ outer) ≡ new
taken [] outer = refl
taken (x ∷ new) outer = ap (λ xs. x ∷ xs) (taken new outer)

pub newest_are : (outer names : Names) → Extends outer names → names ≡ take (length names - length outer) names ++ outer
newest_are outer names e =
    let all : take (length (e.0 ++ outer) - length outer) (e.0 ++ outer) ++ outer ≡ e.0 ++ outer =
    ap (λ n. take n (e.0 ++ outer) ++ outer) (omega (arith, length-append e.0 outer)) ∙ ap (λ xs. xs ++ outer) (taken e.0 outer) in
    e.1 ∙ sym all ∙ ap (λ xs. take (length xs - length outer) xs ++ outer) (sym e.1)

pub record Reads {A : Type 0} (k : ℕ) (moves : Bool) (p : Parser A) : Type 0 where
  pub forward : GoesForward p
  pub local : IsLocal p
  pub inside : (W : Words) (s : State) (n : ℕ) → W n ≡ None → s.at + k ≤ n → place (p W s) ≤ n
  pub past : (W : Words) (s : State) (n : ℕ) → W n ≡ None → n < most_words → s.at + k ≤ n → moves ≡ true → Past (suc s.at) (p W s)
  pub keeps : (W : Words) (s : State) → Keeps s.names (p W s)

pub past_of : {A : Type 0} (n : ℕ) (o : Outcome A) → n ≤ place o → Past n o
past_of n (Ok x) le = le
past_of n (Err e) le = tt

past_on : {A B : Type 0} (W : Words) (n : ℕ) (o : Outcome A) (f : A → Parser B) → ((a : A) → GoesForward (f a)) → Past n o → Past n (and_then W o f)
past_on W n (Ok x) f forward le = past_of n (f x.0 W x.1) (le_trans le (forward x.0 W x.1))
past_on W n (Err e) f forward le = tt

-- ---- words

abbrev pub known : Sign → ℕ
known sign.Eof = 0
known _ = 1

pub known_true : (is : Sign → Bool) → is sign.Eof ≡ false → (q : Sign) → is q ≡ true → 1 ≤ known q
known_true is end sign.Eof e = absurd (cc)
known_true is end _ e = le_refl 1

pub same_look : (W V : Words) (s : State) → W s.at ≡ V s.at → look_at V s ≡ look_at W s
unfolding look_at
same_look W V s e = ap (λ w. sign_at s.names w) (sym e)

none_known : (W : Words) (s : State) → W s.at ≡ None → known (look_at W s) ≡ 0
unfolding look_at
none_known W s e = ap (λ w. known (sign_at s.names w)) e

known_small : (q : Sign) → known q ≤ 1
known_small sign.Eof = omega arith
known_small _ = le_refl 1

pub known_inside : (W : Words) (s : State) (n : ℕ) → W n ≡ None → s.at ≤ n → s.at + known (look_at W s) ≤ n
known_inside W s n none le = by_place (grind (arith))
  where
    by_place : (s.at < n) ⊎ (s.at ≡ n) → s.at + known (look_at W s) ≤ n
    by_place (inl less) = let small = known_small (look_at W s) in omega arith
    by_place (inr same) = let zero_known = none_known W s (subst (λ i. W i ≡ None) (sym same) none) in omega arith

pub word_inside : (is : Sign → Bool) → is sign.Eof ≡ false → (W : Words) (s : State) (n : ℕ) → W n ≡ None → s.at ≤ n → is (look_at W s) ≡ true → s.at + 1 ≤ n
word_inside is end W s n none le e =
    let one = known_true is end (look_at W s) e in
    let inside = known_inside W s n none le in
    omega arith

-- ---- one step

pub weaker : {A : Type 0} {moves : Bool} {p : Parser A} (j k : ℕ) → j ≤ k → Reads j moves p → Reads k moves p
weaker {p} j k le r = record {
  forward = r.forward;
  local = r.local;
  inside = λ W s n none more. r.inside W s n none (omega arith);
  past = λ W s n none low more. r.past W s n none low (omega arith);
  keeps = r.keeps;
}

pub reads_any : {A : Type 0} {k : ℕ} {moves : Bool} {p : Parser A} → Reads 0 moves p → Reads k moves p
reads_any {k} rp = weaker 0 k (omega arith) rp

pub reads_pure : {A : Type 0} {k : ℕ} (a : A) → Reads k false (pure a)
reads_pure a = record {
  forward = λ W s. le_refl s.at;
  local = λ W V s same. refl;
  inside = λ W s n none le. omega arith;
  past = λ W s n none low le e. absurd (cc);
  keeps = λ W s. extends_refl s.names;
}

-- a parser that stops where it begins
stops : {A : Type 0} {k : ℕ} {moves : Bool} (p : Parser A) (e : Sign → ℕ → Stop) → ((W : Words) (s : State) → p W s ≡ Err (e (look_at W s) s.at)) →
    ((q : Sign) (n : ℕ) → stop_place (e q n) ≡ n) → Reads k moves p
stops {k} p e is at = record {
  forward = λ W s. let same = there W s in omega arith;
  local = λ W V s same. is V s ∙ ap (λ q. Err (e q s.at)) (same_look W V s (same s.at (let same_place = there W s in omega arith))) ∙ sym (is W s);
  inside = λ W s n none le. let same = there W s in omega arith;
  past = λ W s n none low le e'. subst (Past (suc s.at)) (sym (is W s)) tt;
  keeps = λ W s. subst (Keeps s.names) (sym (is W s)) tt;
}
  where
    there : (W : Words) (s : State) → place (p W s) ≡ s.at
    there W s = ap place (is W s) ∙ at (look_at W s) s.at

stop_by_place : (e : ℕ → Stop) → ((n : ℕ) → stop_place (e n) ≡ n) → (q : Sign) (n : ℕ) → stop_place (stop_by q n (e n)) ≡ n
stop_by_place e at sign.LeftOut n = refl
stop_by_place e at _ n = at n

pub reads_refuse : {A : Type 0} {k : ℕ} {moves : Bool} → Reads k moves (refuse {A = A})
unfolding refuse
reads_refuse = stops _ (λ q n. stop_by q n (syntax n)) (λ W s. refl) (stop_by_place syntax (λ n. refl))

pub reads_too_deep : {A : Type 0} {k : ℕ} {moves : Bool} → Reads k moves (too_deep_here {A = A})
unfolding too_deep_here
reads_too_deep = stops _ (λ q n. stop_by q n (too_deep n)) (λ W s. refl) (stop_by_place too_deep (λ n. refl))

pub reads_left_out : {A : Type 0} {k : ℕ} {moves : Bool} → Reads k moves (left_out_here {A = A})
unfolding left_out_here
reads_left_out = stops _ (λ q n. left_out n) (λ W s. refl) (λ q n. refl)

pub reads_no_room : {A : Type 0} {k : ℕ} {moves : Bool} (b : Bool) → Reads k moves (no_room {A = A} b)
unfolding no_room
reads_no_room true = stops _ (λ q n. stop_by q n (too_deep n)) (λ W s. refl) (stop_by_place too_deep (λ n. refl))
reads_no_room false = stops _ (λ q n. stop_by q n (syntax n)) (λ W s. refl) (stop_by_place syntax (λ n. refl))

-- a parser that takes so many words and looks at those alone
pub reads_skip : {moves : Bool} → Reads 1 moves skip
reads_skip = record {
  forward = λ W s. omega arith;
  local = λ W V s same. refl;
  inside = λ W s n none le. omega arith;
  past = λ W s n none low le e. le_refl (suc s.at);
  keeps = λ W s. extends_refl s.names;
}

pub reads_take_name : {moves : Bool} → Reads 1 moves take_name
reads_take_name = record {
  forward = λ W s. omega arith;
  local = λ W V s same. ap (λ w. Ok ((name_in w, s.at), step s)) (sym (same s.at (omega arith)));
  inside = λ W s n none le. omega arith;
  past = λ W s n none low le e. le_refl (suc s.at);
  keeps = λ W s. extends_refl s.names;
}

-- a parser that changes the names alone
pub reads_names : {A : Type 0} {k : ℕ} (a : State → A) (t : State → State) → ((s : State) → (t s).at ≡ s.at) → ((s : State) → Extends s.names (t s).names) →
    Reads k false (λ W s. Ok (a s, t s))
reads_names a t same more = record {
  forward = λ W s. let e = same s in omega arith;
  local = λ W V s _. refl;
  inside = λ W s n none le. let e = same s in omega arith;
  past = λ W s n none low le e. absurd (cc);
  keeps = λ W s. more s;
}

pub reads_here : {k : ℕ} → Reads k false here
reads_here = reads_names (λ s. s.at) (λ s. s) (λ s. refl) (λ s. extends_refl s.names)

pub reads_declare : {k : ℕ} (n : ℕ) (t : Bool) → Reads k false (declare n t)
unfolding declare
reads_declare n t = reads_names (λ s. tt) (λ s. record { at = s.at; names = (n, t) ∷ s.names }) (λ s. refl) (λ s. ((n, t) ∷ [], refl))

-- ---- one after the other

module _ {A B : Type 0} (k : ℕ) (first then : Bool) (p : Parser A) (f : A → Parser B) (rp : Reads k first p) (rf : (a : A) → Reads 0 then (f a)) where
  bind_forward : (W : Words) (s : State) (o : Outcome A) → s.at ≤ place o → s.at ≤ place (and_then W o f)
  bind_forward W s (Ok x) h = le_trans h ((rf x.0).forward W x.1)
  bind_forward W s (Err e) h = h

  bind_local : (W V : Words) (o o' : Outcome A) → (SameTo (place o) W V → o' ≡ o) → SameTo (place (and_then W o f)) W V →
      and_then V o' f ≡ and_then W o f
  bind_local W V (Ok x) o' h same =
      ap (λ u. and_then V u f) (h (λ i le. same i (le_trans le ((rf x.0).forward W x.1)))) ∙ (rf x.0).local W V x.1 same
  bind_local W V (Err e) o' h same = ap (λ u. and_then V u f) (h same)

  bind_inside : (W : Words) (o : Outcome A) (n : ℕ) → W n ≡ None → place o ≤ n → place (and_then W o f) ≤ n
  bind_inside W (Ok x) n none le = (rf x.0).inside W x.1 n none (omega arith)
  bind_inside W (Err e) n none le = le

  past_first : (W : Words) (s : State) (n : ℕ) → W n ≡ None → n < most_words → s.at + k ≤ n → first ≡ true → Past (suc s.at) (and_then W (p W s) f)
  past_first W s n none low le e = past_on W (suc s.at) (p W s) f (λ a. (rf a).forward) (rp.past W s n none low le e)

  past_then : (W : Words) (s : State) (n : ℕ) (o : Outcome A) → W n ≡ None → n < most_words → s.at ≤ place o → place o ≤ n → then ≡ true →
      Past (suc s.at) (and_then W o f)
  past_then W s n (Ok x) none low up le e = further (f x.0 W x.1) ((rf x.0).past W x.1 n none low (omega arith) e)
    where
      further : (o : Outcome B) → Past (suc x.1.at) o → Past (suc s.at) o
      further (Ok y) more = omega arith
      further (Err e) more = tt
  past_then W s n (Err stop) none low up le e = tt

  reads_both : (moves : Bool) →
      ((W : Words) (s : State) (n : ℕ) → W n ≡ None → n < most_words → s.at + k ≤ n → moves ≡ true → Past (suc s.at) (and_then W (p W s) f)) → Reads k moves (p >>= f)
  reads_both moves past = record {
    forward = λ W s. bind_forward W s (p W s) (rp.forward W s);
    local = λ W V s same. bind_local W V (p W s) (p V s) (rp.local W V s) same;
    inside = λ W s n none le. bind_inside W (p W s) n none (rp.inside W s n none le);
    past = past;
    keeps = λ W s. keeps_on W s.names (p W s) f (λ a t. (rf a).keeps W t) (rp.keeps W s);
  }

-- the first takes a word
pub reads_bind : {A B : Type 0} {k : ℕ} {moves : Bool} {p : Parser A} {f : A → Parser B} → Reads k moves p → ((a : A) → Reads 0 false (f a)) → Reads k moves (p >>= f)
reads_bind {k} {moves} {p} {f} rp rf = reads_both k moves false p f rp rf moves (past_first k moves false p f rp rf)

pub reads_then : {A B : Type 0} {k : ℕ} {moves : Bool} {p : Parser A} {r : Parser B} → Reads k moves p → Reads 0 false r → Reads k moves (p >> r)
reads_then rp rr = reads_bind rp (λ _. rr)

-- the second takes a word
pub reads_bind_later : {A B : Type 0} {k : ℕ} {moves : Bool} {p : Parser A} {f : A → Parser B} → Reads k false p → ((a : A) → Reads 0 moves (f a)) → Reads k moves (p >>= f)
reads_bind_later {k} {moves} {p} {f} rp rf = reads_both k false moves p f rp rf moves
    (λ W s n none low le. past_then k false moves p f rp rf W s n (p W s) none low (rp.forward W s) (rp.inside W s n none le))

-- what takes no word leaves what is known of the next
pub reads_from_here : {B : Type 0} {k : ℕ} {moves : Bool} {f : ℕ → Parser B} → ((at : ℕ) → Reads k moves (f at)) → Reads k moves (here >>= f)
reads_from_here {f} rf = record {
  forward = λ W s. (rf s.at).forward W s;
  local = λ W V s. (rf s.at).local W V s;
  inside = λ W s. (rf s.at).inside W s;
  past = λ W s. (rf s.at).past W s;
  keeps = λ W s. (rf s.at).keeps W s;
}

-- a parser by the state in which it begins
pub reads_by_state : {A : Type 0} {k : ℕ} {moves : Bool} (f : State → Parser A) → ((s : State) → Reads k moves (f s)) → Reads k moves (λ W s. f s W s)
reads_by_state f rf = record {
  forward = λ W s. (rf s).forward W s;
  local = λ W V s. (rf s).local W V s;
  inside = λ W s. (rf s).inside W s;
  past = λ W s. (rf s).past W s;
  keeps = λ W s. (rf s).keeps W s;
}

-- what is chosen by the next word
pub reads_look : {A : Type 0} {k : ℕ} {moves : Bool} (f : Sign → Parser A) → ((q : Sign) → Reads (known q) moves (f q)) → Reads k moves (look f)
reads_look f rf = record {
  forward = λ W s. (rf (look_at W s)).forward W s;
  local = λ W V s same.
      let e = same_look W V s (same s.at ((rf (look_at W s)).forward W s)) in
      ap (λ q. f q V s) e ∙ (rf (look_at W s)).local W V s same;
  inside = λ W s n none le. (rf (look_at W s)).inside W s n none (known_inside W s n none (omega arith));
  past = λ W s n none low le. (rf (look_at W s)).past W s n none low (known_inside W s n none (omega arith));
  keeps = λ W s. (rf (look_at W s)).keeps W s;
}

pub reads_if : {A : Type 0} {k : ℕ} {moves : Bool} {p r : Parser A} (b : Bool) → Reads k moves p → Reads k moves r → Reads k moves (if_so b p r)
reads_if true rp rr = rp
reads_if false rp rr = rr

pub reads_if_so : {A : Type 0} {k : ℕ} {moves : Bool} {p r : Parser A} (b : Bool) → (b ≡ true → Reads k moves p) → Reads k moves r → Reads k moves (if_so b p r)
reads_if_so true rp rr = rp refl
reads_if_so false rp rr = rr

-- the first is chosen where a word follows alone
pub reads_if_word : {A : Type 0} {moves : Bool} {p r : Parser A} (is : Sign → Bool) → is sign.Eof ≡ false → (q : Sign) →
    Reads 1 moves p → Reads (known q) moves r → Reads (known q) moves (if_so (is q) p r)
reads_if_word is end q rp rr = reads_if_so (is q) (λ e. weaker 1 (known q) (known_true is end q e) rp) rr

pub reads_expect : {k : ℕ} {moves : Bool} (is : Sign → Bool) → is sign.Eof ≡ false → Reads k moves (expect is)
unfolding expect
reads_expect is end = reads_look (λ q. if_so (is q) skip refuse) (λ q. reads_if_word is end q reads_skip reads_refuse)

pub reads_any_name : {k : ℕ} {moves : Bool} → Reads k moves any_name
unfolding any_name
reads_any_name = reads_look (λ q. if_so (is_name q) take_name refuse) (λ q. reads_if_word is_name refl q reads_take_name reads_refuse)

-- the end of a scope
module _ {A B : Type 0} (g : State → A → State → B) where
  abbrev ended : State → A → Parser B
  ended outer a = λ W t. Ok (g outer a t, record { at = t.at; names = oldest (length outer.names) t.names })

  same_place : (W : Words) (outer : State) (o : Outcome A) → place (and_then W o (ended outer)) ≡ place o
  same_place W outer (Ok x) = refl
  same_place W outer (Err e) = refl

  no_words : (W V : Words) (outer : State) (o : Outcome A) → and_then V o (ended outer) ≡ and_then W o (ended outer)
  no_words W V outer (Ok x) = refl
  no_words W V outer (Err e) = refl

  ended_past : (W : Words) (outer : State) (n : ℕ) (o : Outcome A) → Past n o → Past n (and_then W o (ended outer))
  ended_past W outer n (Ok x) le = le
  ended_past W outer n (Err e) le = tt

  ended_keeps : (W : Words) (outer : State) (o : Outcome A) → Keeps outer.names o → Keeps outer.names (and_then W o (ended outer))
  ended_keeps W outer (Ok x) h = ([], oldest_are outer.names x.1.names h)
  ended_keeps W outer (Err e) h = tt

  pub reads_to_scope : {k : ℕ} {moves : Bool} {p : Parser A} → Reads k moves p → Reads k moves (λ W s. and_then W (p W s) (ended s))
  reads_to_scope {p} rp = record {
    forward = λ W s. let same = same_place W s (p W s) in let le = rp.forward W s in omega arith;
    local = λ W V s same. ap (λ o. and_then V o (ended s)) (rp.local W V s (λ i le. same i (let at = same_place W s (p W s) in omega arith))) ∙
        no_words W V s (p W s);
    inside = λ W s n none le. let same = same_place W s (p W s) in let le = rp.inside W s n none le in omega arith;
    past = λ W s n none low le e. ended_past W s (suc s.at) (p W s) (rp.past W s n none low le e);
    keeps = λ W s. ended_keeps W s (p W s) (rp.keeps W s);
  }

pub reads_scoped : {A : Type 0} {k : ℕ} {moves : Bool} {p : Parser A} → Reads k moves p → Reads k moves (scoped p)
unfolding scoped
reads_scoped rp = reads_to_scope (λ outer a t. a) rp

-- ---- lists

pub reads_many_from : {A : Type 0} {k : ℕ} {item : Parser A} (more : Sign → Bool) → ((q : Sign) → more q ≡ true → Reads (known q) false item) →
    (n : ℕ) → Reads k false (many_from more item n)
unfolding many_from
reads_many_from more ri zero = reads_pure []
reads_many_from {item} more ri (suc n) =
    reads_look (λ q. if_so (more q) (item >>= (λ x. many_from more item n >>= (λ rest. pure (x ∷ rest)))) (pure []))
    (λ q. reads_if_so (more q) (λ e. reads_bind (ri q e) (λ x. reads_bind (reads_many_from more ri n) (λ rest. reads_pure (x ∷ rest)))) (reads_pure []))

reads_many_by : {A : Type 0} {k : ℕ} {item : Parser A} (more : Sign → Bool) → ((q : Sign) → more q ≡ true → Reads (known q) false item) → Reads k false (many more item)
unfolding many
reads_many_by {item} more ri = reads_by_state (λ s. many_from more item (most_words - s.at)) (λ s. reads_many_from more ri (most_words - s.at))

pub reads_many : {A : Type 0} {k : ℕ} {item : Parser A} (more : Sign → Bool) → Reads 0 false item → Reads k false (many more item)
reads_many more ri = reads_many_by more (λ q e. weaker 0 (known q) (omega arith) ri)

-- an item that takes a word whose sign was seen
pub reads_many_words : {A : Type 0} {k : ℕ} {item : Parser A} (more : Sign → Bool) → more sign.Eof ≡ false → Reads 1 false item → Reads k false (many more item)
reads_many_words more end ri = reads_many_by more (λ q e. weaker 1 (known q) (known_true more end q e) ri)

pub reads_one_or_more : {A : Type 0} {k : ℕ} {item : Parser A} (more : Sign → Bool) → Reads 0 false item → Reads k false (one_or_more more item)
unfolding one_or_more
reads_one_or_more more ri = reads_bind (reads_any ri) (λ x. reads_bind (reads_many more ri) (λ rest. reads_pure (x ∷ rest)))

pub reads_separated : {A : Type 0} {k : ℕ} {item : Parser A} (between : Sign → Bool) → between sign.Eof ≡ false → Reads 0 false item → Reads k false (separated between item)
unfolding separated
reads_separated between end ri = reads_bind (reads_any ri) (λ x. reads_bind (reads_many_words between end (reads_bind reads_skip (λ _. ri))) (λ rest. reads_pure (x ∷ rest)))

pub reads_trailed_from : {A : Type 0} {k : ℕ} {item : Parser A} (between ends : Sign → Bool) → between sign.Eof ≡ false → Reads 0 false item →
    (n : ℕ) → Reads k false (trailed_from between ends item n)
unfolding trailed_from
reads_trailed_from between ends end ri zero = reads_pure []
reads_trailed_from {item} between ends end ri (suc n) = reads_bind (reads_any ri) (λ x. reads_look _ (λ q. reads_if_word between end q
    (reads_bind reads_skip (λ _. reads_look _ (λ p. reads_if (ends p) (reads_pure (x ∷ []))
    (reads_bind (reads_trailed_from between ends end ri n) (λ rest. reads_pure (x ∷ rest))))))
    (reads_pure (x ∷ []))))

pub reads_trailed : {A : Type 0} {k : ℕ} {item : Parser A} (between ends : Sign → Bool) → between sign.Eof ≡ false → Reads 0 false item → Reads k false (trailed between ends item)
unfolding trailed
reads_trailed {item} between ends end ri = reads_by_state (λ s. trailed_from between ends item (most_words - s.at)) (λ s. reads_trailed_from between ends end ri (most_words - s.at))

pub reads_gathered : {A : Type 0} {k : ℕ} {p : Parser (List (Measured A))} → Reads k false p → Reads k false (gathered p)
reads_gathered rp = reads_bind rp (λ xs. reads_pure (record { tree = trees xs; height = deepest xs }))
