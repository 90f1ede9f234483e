-- Escape sequences are the longest that can be, and each one is read.
use Rattle.std.proofs.Common.{◌≡◌, ◌≢◌, ℕ, zero, suc, ◌<◌, ◌≤◌, Bool, true, false, inl, inr, [], ◌∷◌, length, take, drop, get_or, refl, sym, ap, ◌∙◌, subst, arith}
use Rattle.std.specs.Prelude.{◌||◌, ◌&&◌, ◌==◌, nat_lt, nat_le}
use Rattle.std.specs.List.{prefix_len}
use Rattle.std.proofs.lemmas.Bool.{cases_lt, eqb-true, ltb-true, leb-true, le-leb, lt-ltb, eqb-false, ne_eqb}
use Rattle.std.proofs.lemmas.List.{get_or-take, length-take-le}
use Rattle.std.proofs.lemmas.List.Sums.{prefix_len_passes, prefix_len_stops, prefix_len-le-length}
use Rattle.c_lex.specs.Bytes.{Text, is_in}
use Rattle.c_lex.specs.Number.{value_of}
use Rattle.c_lex.specs.Literal.{is_simple_escape, escape_byte, octal_len, hexadecimal_len, escape_len, escape_value, character_len, character_value}
use Rattle.c_lex.specs.Rules.{Longest}
use Rattle.c_lex.specs.Characters.{AllIn, IsEscape, simple, octal, hexadecimal, SomeEscape, IsCharacter, plain, escape, CharactersAreRead, CharactersAreAllRead}
use Rattle.c_lex.specs.declared.class.Class.{Class}
use Rattle.c_lex.specs.declared.class.Class.TheVariants as class
use Rattle.c_lex.proofs.Numbers.{cases, and_true, or_true}
use Rattle.c_lex.proofs.Pieces.{chosen}

-- ---- a front of a class

all_front : (c : Class) (z : Text) (k : ℕ) → k ≤ prefix_len (is_in c) z → AllIn c (take k z)
all_front c z k le = λ i lt.
    let within = prefix_len-le-length (is_in c) z in
    let long = length-take-le k z (omega (arith, within)) in
    let same = get_or-take k z i 0 (omega (arith, long)) in
    rw same (prefix_len_passes (is_in c) z i 0 (omega (arith, long)))

front_all : (c : Class) (z : Text) (k : ℕ) → k ≤ length z → AllIn c (take k z) → k ≤ prefix_len (is_in c) z
front_all c z k le all = elim (cases_lt (prefix_len (is_in c) z) k) [
  | inr g ↦ g
  | inl l ↦
      let long = length-take-le k z le in
      let goes = all (prefix_len (is_in c) z) (omega (arith, long)) in
      let here = rw (get_or-take k z (prefix_len (is_in c) z) 0 l) at goes in
      let there = prefix_len_stops (is_in c) z 0 (omega arith) in
      absurd (cc (here, there))
]

-- ---- the three forms differ in their first byte

is_one : (P : ℕ → Type 0) (b c : ℕ) → (b == c) ≡ true → P c → P b
is_one P b c h p = subst P (sym (eqb-true b c h)) p

simple_is : (P : ℕ → Type 0) (b : ℕ) → is_simple_escape b ≡ true →
    P 39 → P 34 → P 63 → P 92 → P 97 → P 98 → P 102 → P 110 → P 114 → P 116 → P 118 → P b
simple_is P b h p39 p34 p63 p92 p97 p98 p102 p110 p114 p116 p118 =
    elim (or_true _ (b == 118) h) [
      | inr e ↦ is_one P b 118 e p118
      | inl h1 ↦
          elim (or_true _ (b == 116) h1) [
            | inr e ↦ is_one P b 116 e p116
            | inl h2 ↦
                elim (or_true _ (b == 114) h2) [
                  | inr e ↦ is_one P b 114 e p114
                  | inl h3 ↦
                      elim (or_true _ (b == 110) h3) [
                        | inr e ↦ is_one P b 110 e p110
                        | inl h4 ↦
                            elim (or_true _ (b == 102) h4) [
                              | inr e ↦ is_one P b 102 e p102
                              | inl h5 ↦
                                  elim (or_true _ (b == 98) h5) [
                                    | inr e ↦ is_one P b 98 e p98
                                    | inl h6 ↦
                                        elim (or_true _ (b == 97) h6) [
                                          | inr e ↦ is_one P b 97 e p97
                                          | inl h7 ↦
                                              elim (or_true _ (b == 92) h7) [
                                                | inr e ↦ is_one P b 92 e p92
                                                | inl h8 ↦
                                                    elim (or_true _ (b == 63) h8) [
                                                      | inr e ↦ is_one P b 63 e p63
                                                      | inl h9 ↦
                                                          elim (or_true (b == 39) (b == 34) h9) [ inr e ↦ is_one P b 34 e p34 | inl e ↦ is_one P b 39 e p39 ]
                                                    ]
                                              ]
                                        ]
                                  ]
                            ]
                      ]
                ]
          ]
    ]

simple_no_octal : (b : ℕ) → is_simple_escape b ≡ true → is_in class.Octal b ≡ false
simple_no_octal b h = simple_is (λ c. is_in class.Octal c ≡ false) b h refl refl refl refl refl refl refl refl refl refl refl

simple_no_x : (b : ℕ) → is_simple_escape b ≡ true → (b == 120) ≡ false
simple_no_x b h = simple_is (λ c. (c == 120) ≡ false) b h refl refl refl refl refl refl refl refl refl refl refl

octal_no_simple : (b : ℕ) → is_in class.Octal b ≡ true → is_simple_escape b ≡ false
octal_no_simple b h = elim (cases (is_simple_escape b)) [ inr f ↦ f | inl t ↦ absurd (let e = simple_no_octal b t in cc) ]

-- ---- what an escape sequence of a length says of the text

-- the bounds of each form
simple_one : (w : Text) (v : ℕ) → IsEscape w v → is_simple_escape (get_or w 0 0) ≡ true → length w ≡ 1
simple_one w v (simple b h) s = refl
simple_one w v (octal u some short all) s = absurd (let e = simple_no_octal (get_or u 0 0) s in let a = all 0 some in cc)
simple_one w v (hexadecimal u some all) s = absurd (let e : is_simple_escape 120 ≡ true = s in let f : false ≡ true = e in cc)

octal_bound : (w : Text) (v : ℕ) → IsEscape w v → is_in class.Octal (get_or w 0 0) ≡ true → (length w ≤ 3) × AllIn class.Octal w
octal_bound w v (simple b h) o = absurd (let e = simple_no_octal b h in cc)
octal_bound w v (octal u some short all) o = (short, all)
octal_bound w v (hexadecimal u some all) o = absurd (let f : false ≡ true = o in cc)

pub hexadecimal_bound : (w : Text) (v : ℕ) → IsEscape w v → (y : Text) → w ≡ 120 ∷ y → AllIn class.Hexadecimal y
hexadecimal_bound w v (simple b h) y e = absurd (let f = ap (λ (t : Text). get_or t 0 0) e in let x : (b == 120) ≡ true = rw f refl in let g = simple_no_x b h in cc)
hexadecimal_bound w v (octal u some short all) y e = absurd (let a = all 0 some in let f = rw e at a in let g : false ≡ true = f in cc)
hexadecimal_bound w v (hexadecimal u some all) y e = let same : u ≡ y = cc in subst (AllIn class.Hexadecimal) same all

-- ---- the longest of each form

abbrev Right : Text → ℕ → ℕ → Type 0
Right z n v = Longest SomeEscape z n × IsEscape (take n z) v

simple_right : (z : Text) → is_simple_escape (get_or z 0 0) ≡ true → Right z 1 (escape_byte (get_or z 0 0))
simple_right [] h = absurd (let f : false ≡ true = h in cc)
simple_right (b ∷ y) h = (
  record {
    within = omega arith;
    is = (escape_byte b, simple b h);
    longest = λ m lt le e.
        let first : is_simple_escape (get_or (take m (b ∷ y)) 0 0) ≡ true = rw (get_or-take m (b ∷ y) 0 0 (omega arith)) h in
        absurd (omega (arith, simple_one (take m (b ∷ y)) e.0 e.1 first, length-take-le m (b ∷ y) le));
  },
  simple b h,
)

octal_right : (z : Text) (k : ℕ) → octal_len z ≡ k → 0 < k → Right z k (value_of 8 (take k z))
octal_right z k e some =
    let within = prefix_len-le-length (is_in class.Octal) z in
    let in_run : k ≤ prefix_len (is_in class.Octal) z = omega (arith, e) in
    let short : k ≤ 3 = omega (arith, e) in
    let long = length-take-le k z (omega (arith, within)) in
    let is = octal (take k z) (omega (arith, long)) (omega (arith, long, short)) (all_front class.Octal z k in_run) in (
      record {
        within = omega (arith, within);
        is = (value_of 8 (take k z), is);
        longest = λ m lt le esc.
            let z0 = prefix_len_passes (is_in class.Octal) z 0 0 (omega arith) in
            let first : is_in class.Octal (get_or (take m z) 0 0) ≡ true = rw (get_or-take m z 0 0 (omega arith)) z0 in
            let bound = octal_bound (take m z) esc.0 esc.1 first in
            let run = front_all class.Octal z m le bound.1 in
            absurd (omega (arith, e, bound.0, run, length-take-le m z le));
      },
      is,
    )

hexadecimal_ends : (y : Text) (k m : ℕ) → prefix_len (is_in class.Hexadecimal) y ≡ k → suc k < m → m ≤ length (120 ∷ y) → (v : ℕ) → IsEscape (take m (120 ∷ y)) v → ⊥
hexadecimal_ends y k zero e lt le v esc = absurd (omega arith)
hexadecimal_ends y k (suc m) e lt le v esc =
    let bound = hexadecimal_bound (120 ∷ take m y) v esc (take m y) refl in
    absurd (omega (arith, e, front_all class.Hexadecimal y m (omega arith) bound))

hexadecimal_right : (y : Text) (k : ℕ) → prefix_len (is_in class.Hexadecimal) y ≡ k → 0 < k → Right (120 ∷ y) (suc k) (value_of 16 (take k y))
hexadecimal_right y k e some =
    let within = prefix_len-le-length (is_in class.Hexadecimal) y in
    let long = length-take-le k y (omega (arith, e, within)) in
    let is = hexadecimal (take k y) (omega (arith, long)) (all_front class.Hexadecimal y k (omega (arith, e))) in (
      record {
        within = omega (arith, within, e);
        is = (value_of 16 (take k y), is);
        longest = λ m lt le esc. hexadecimal_ends y k m e lt le esc.0 esc.1;
      },
      is,
    )

-- ---- what is read is right

abbrev pub Reads : Text → ℕ → ℕ → Type 0
Reads z n v = Longest SomeEscape z n × IsEscape (take n z) v × (v ≤ 255)

small : (b : ℕ) → is_simple_escape b ≡ true → escape_byte b ≤ 255
small b h = simple_is (λ c. escape_byte c ≤ 255) b h (omega arith) (omega arith) (omega arith) (omega arith) (omega arith) (omega arith) (omega arith) (omega arith) (omega arith) (omega arith) (omega arith)

no_len : (n : ℕ) → 0 ≡ suc n → ⊥
no_len n h = omega (arith, h)

pub escape_read : (z : Text) (n : ℕ) → escape_len z ≡ suc n → Reads z (suc n) (escape_value z)
unfolding escape_len escape_value
escape_read [] n h = absurd (no_len n h)
escape_read (b ∷ y) n h = elim (chosen (is_simple_escape b) _ _ (suc n) h) [
  | inl e ↦
      let r = simple_right (b ∷ y) e.0 in
      let one : n ≡ 0 = omega (arith, e.1) in
      rw (one, e.0) (r.0, r.1, small b e.0)
  | inr e ↦ elim (chosen (nat_lt 0 (octal_len (b ∷ y))) _ _ (suc n) e.1) [
    | inl f ↦ elim (chosen (nat_le (value_of 8 (take (octal_len (b ∷ y)) (b ∷ y))) 255) _ _ (suc n) f.1) [
      | inl g ↦
          let r = octal_right (b ∷ y) (suc n) g.1 (omega arith) in
          let le = leb-true _ 255 g.0 in
          rw (e.0, f.0, g.1) (r.0, r.1, rw g.1 at le)
      | inr g ↦ absurd (no_len n g.1)
    ]
    | inr f ↦ elim (chosen (b == 120 && nat_lt 1 (hexadecimal_len (b ∷ y)) && nat_le (value_of 16 (drop 1 (take (hexadecimal_len (b ∷ y)) (b ∷ y)))) 255) _ _ (suc n) f.1) [
      | inl g ↦
          let p = and_true (b == 120 && nat_lt 1 (hexadecimal_len (b ∷ y))) _ g.0 in
          let q = and_true (b == 120) _ p.0 in
          let is = eqb-true b 120 q.0 in
          let more = ltb-true 1 _ q.1 in
          let le = leb-true _ 255 p.1 in
          let len : prefix_len (is_in class.Hexadecimal) y ≡ n = omega (arith, g.1) in
          let some : 0 < n = omega (arith, more, g.1) in
          let r = hexadecimal_right y n len some in
          rw (e.0, f.0, g.1) (rw is (r.0, r.1, rw g.1 at le))
      | inr g ↦ absurd (no_len n g.1)
    ]
  ]
]

-- ---- what is right is read

abbrev Is : Text → ℕ → ℕ → Type 0
Is z n v = (escape_len z ≡ n) × (escape_value z ≡ v)

abbrev NoLonger : Text → ℕ → Type 0
NoLonger z n = (m : ℕ) → n < m → m ≤ length z → SomeEscape (take m z) → ⊥

simple_all : (b : ℕ) (y : Text) → is_simple_escape b ≡ true → Is (b ∷ y) 1 (escape_byte b)
unfolding escape_len escape_value
simple_all b y h = rw h (refl, refl)

octal_all : (z : Text) (n : ℕ) → n ≤ length z → NoLonger z n → 0 < n → n ≤ 3 → AllIn class.Octal (take n z) → value_of 8 (take n z) ≤ 255 →
    Is z n (value_of 8 (take n z))
unfolding escape_len escape_value
octal_all z n le longer some short all fits =
    let run = front_all class.Octal z n le all in
    let within = prefix_len-le-length (is_in class.Octal) z in
    let len : octal_len z ≡ n = elim (cases_lt n (octal_len z)) [
      | inl l ↦ absurd (longer (octal_len z) l (omega (arith, within)) (octal_right z (octal_len z) refl (omega arith)).0.is)
      | inr g ↦ omega (arith, run, short, g)
    ] in
    let z0 = prefix_len_passes (is_in class.Octal) z 0 0 (omega (arith, run)) in
    let t1 = octal_no_simple (get_or z 0 0) z0 in
    let t2 : nat_lt 0 n ≡ true = lt-ltb 0 n some in
    let t3 : nat_le (value_of 8 (take n z)) 255 ≡ true = le-leb _ 255 fits in
    rw (t1, len, t2, t3) (refl, refl)

hexadecimal_all : (y : Text) (k : ℕ) → k ≤ length y → NoLonger (120 ∷ y) (suc k) → 0 < k → AllIn class.Hexadecimal (take k y) → value_of 16 (take k y) ≤ 255 →
    Is (120 ∷ y) (suc k) (value_of 16 (take k y))
unfolding escape_len escape_value
hexadecimal_all y k le longer some all fits =
    let run = front_all class.Hexadecimal y k le all in
    let within = prefix_len-le-length (is_in class.Hexadecimal) y in
    let n = prefix_len (is_in class.Hexadecimal) y in
    let same : n ≡ k = elim (cases_lt k n) [
      | inl l ↦ absurd (longer (suc n) (omega arith) (omega (arith, within)) (hexadecimal_right y n refl (omega arith)).0.is)
      | inr g ↦ omega (arith, run, g)
    ] in
    let len : hexadecimal_len (120 ∷ y) ≡ suc k = omega (arith, same) in
    let t2 : nat_lt 1 (suc k) ≡ true = lt-ltb 1 (suc k) (omega arith) in
    let t3 : nat_le (value_of 16 (take k y)) 255 ≡ true = le-leb _ 255 fits in
    rw (len, t2, t3) (refl, refl)

simple_by : (z : Text) (n b : ℕ) → b ∷ [] ≡ take n z → n ≤ length z → is_simple_escape b ≡ true → Is z n (escape_byte b)
simple_by z zero b e le h = absurd (let f = ap (length {A = ℕ}) e in omega (arith, f))
simple_by [] (suc n) b e le h = absurd (omega arith)
simple_by (c ∷ y) (suc n) b e le h =
    let one : n ≡ 0 = omega (arith, ap (length {A = ℕ}) e, length-take-le n y (omega arith)) in
    let first : b ≡ c = ap (λ (t : Text). get_or t 0 0) e in
    rw (one, ← first) (simple_all b y h)

hexadecimal_by : (z : Text) (n : ℕ) (u : Text) → 120 ∷ u ≡ take n z → n ≤ length z → NoLonger z n → 0 < length u → AllIn class.Hexadecimal u → value_of 16 u ≤ 255 →
    Is z n (value_of 16 u)
hexadecimal_by z zero u e le longer some all fits = absurd (let f = ap (length {A = ℕ}) e in omega (arith, f))
hexadecimal_by [] (suc n) u e le longer some all fits = absurd (omega arith)
hexadecimal_by (c ∷ y) (suc n) u e le longer some all fits =
    let first : 120 ≡ c = ap (λ (t : Text). get_or t 0 0) e in
    let rest : u ≡ take n y = ap (λ (t : Text). drop 1 t) e in
    let long : length u ≡ n = ap (length {A = ℕ}) rest ∙ length-take-le n y (omega arith) in
    let none : NoLonger (120 ∷ y) (suc n) = subst (λ (b : ℕ). NoLonger (b ∷ y) (suc n)) (sym first) longer in
    let r = hexadecimal_all y n (omega arith) none (omega (arith, long)) (subst (AllIn class.Hexadecimal) rest all) (rw rest at fits) in
    rw (← first, rest) r

all_by : (z : Text) (n : ℕ) (w : Text) (v : ℕ) → w ≡ take n z → n ≤ length z → NoLonger z n → IsEscape w v → v ≤ 255 → Is z n v
all_by z n w v e le longer (simple b h) fits = simple_by z n b e le h
all_by z n w v e le longer (octal u some short all) fits =
    let long : length u ≡ n = ap (length {A = ℕ}) e ∙ length-take-le n z le in
    let r = octal_all z n le longer (omega (arith, long)) (omega (arith, long)) (subst (AllIn class.Octal) e all) (rw e at fits) in
    rw e r
all_by z n w v e le longer (hexadecimal u some all) fits = hexadecimal_by z n u e le longer some all fits

escape_all : (z : Text) (n v : ℕ) → Longest SomeEscape z n → IsEscape (take n z) v → v ≤ 255 → Is z n v
escape_all z n v long is fits = all_by z n (take n z) v refl long.within long.longest is fits

-- ---- characters

escaped : (quote : ℕ) (y : Text) (n : ℕ) → escape_len y ≡ n → 0 < n → IsCharacter quote (92 ∷ y) (suc n) (escape_value y)
escaped quote y zero len some = absurd (omega arith)
escaped quote y (suc n) len some = let r = escape_read y n len in escape y (suc n) (escape_value y) r.0 r.1 r.2

neither : (a b : Bool) → (a || b) ≡ false → (a ≡ false) × (b ≡ false)
neither true b h = absurd (cc)
neither false b h = (refl, h)

no_empty : (w : Text) (v : ℕ) → IsEscape w v → length w ≡ 0 → ⊥
no_empty w v (simple b h) e = absurd (omega (arith, e))
no_empty w v (octal u some short all) e = absurd (omega (arith, e, some))
no_empty w v (hexadecimal u some all) e = absurd (omega (arith, e))

character_read : (quote : ℕ) (z : Text) (n : ℕ) → character_len quote z ≡ suc n → IsCharacter quote z (suc n) (character_value z)
unfolding character_len character_value
character_read quote [] n h = absurd (no_len n h)
character_read quote (b ∷ y) n h = elim (chosen (b == quote || b == 10) _ _ (suc n) h) [
  | inl e ↦ absurd (no_len n e.1)
  | inr e ↦ elim (chosen (b == 92) _ _ (suc n) e.1) [
    | inl f ↦ elim (chosen (escape_len y == 0) _ _ (suc n) f.1) [
      | inl g ↦ absurd (no_len n g.1)
      | inr g ↦
          let len : escape_len y ≡ n = omega (arith, g.1) in
          let some = eqb-false (escape_len y) 0 g.0 in
          rw (eqb-true b 92 f.0) (escaped quote y n len (omega (arith, len, some)))
    ]
    | inr f ↦
        let one : n ≡ 0 = omega (arith, f.1) in
        let apart = neither (b == quote) (b == 10) e.0 in
        rw (one, f.0) (plain b y (eqb-false b quote apart.0) (eqb-false b 10 apart.1) (eqb-false b 92 f.0))
  ]
]

pub characters_read : CharactersAreRead
characters_read quote z n ne h = character_read quote z n h

character_all : (quote : ℕ) (z : Text) (n v : ℕ) → quote ≢ 92 → IsCharacter quote z n v → (character_len quote z ≡ n) × (character_value z ≡ v)
unfolding character_len character_value
character_all quote z n v ne (plain b y q ten back) =
    rw (ne_eqb b quote q, ne_eqb b 10 ten, ne_eqb b 92 back) (refl, refl)
character_all quote z n v ne (escape y k u long is fits) =
    let r = escape_all y k u long is fits in
    let some : (k ≡ 0 → ⊥) = λ none. no_empty (take k y) u is (length-take-le k y long.within ∙ none) in
    rw (ne_eqb 92 quote (λ e. ne (sym e)), r.0, ne_eqb k 0 some) (omega arith, r.1)

pub characters_all : CharactersAreAllRead
characters_all quote z n v ne h = character_all quote z n v ne h
