use Rattle.std.specs.Prelude.{ℕ, ◌≡◌, ◌&&◌, Bool, true, false, not, nat_le, nat_lt, cond, IsTrue, [], ◌∷◌, refl}
use Rattle.std.proofs.lemmas.Bool.Decides.{nat_tests}
use Rattle.std.proofs.Common.{arith}
use Rattle.store_api.specs.Tree.{Tree, Nil, Node, depth}
use Rattle.hptmap.specs.Leaves.{Idempotent, LeafMeaning, PairMeaning}

-- the head of a payload
abbrev pub head_of : Tree → ℕ
head_of Nil = 0
head_of (Node s a b) = s.head

-- the rule of the tests: of two payloads the one with the greater head, and the second where they are widened; a
-- payload is included in one whose head isn't less
abbrev pub greatest : LeafMeaning
greatest = record {
  takes = λ about a b. nat_le (depth a) 95 && nat_le (depth b) 95;
  join = λ a b. cond (nat_lt (head_of a) (head_of b)) b a;
  widen = λ a b. b;
  included = λ a b. not (nat_lt (head_of b) (head_of a));
}

cond_same : (c : Bool) (t : Tree) → cond c t t ≡ t
cond_same true t = refl
cond_same false t = refl

not_less : (n : ℕ) → IsTrue (not (nat_lt n n))
not_less n = grind (arith, nat_tests)

pub greatest_idempotent : Idempotent greatest
greatest_idempotent = record { join = λ about t h. cond_same (nat_lt (head_of t) (head_of t)) t; widen = λ about t h. refl; included = λ about t h. not_less (head_of t) }

-- the change of the tests: a payload that is a node whose head is its key
abbrev pub numbered : PairMeaning
numbered = record { takes = λ k t. true; replace = λ k t. Node (record { head = k; body = 0 ∷ 0 ∷ 0 ∷ 0 ∷ 0 ∷ 0 ∷ 0 ∷ 0 ∷ []; kids = 0 }) Nil Nil }
