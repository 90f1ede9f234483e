use Rattle.std.specs.Prelude.{ℕ, zero, suc, ◌+◌, List, [], ◌∷◌, ◌++◌, cond, eqb, ltb}

-- f of each, added up
abbrev pub total : {X : Type 0} → (X → ℕ) → List X → ℕ
total f [] = 0
total f (x ∷ xs) = f x + total f xs

-- how often x stands in the list
abbrev pub times : ℕ → List ℕ → ℕ
times x xs = total (λ y. cond (eqb y x) 1 0) xs

-- 1 for each number below n, and 0 for every other
abbrev pub once_below : ℕ → ℕ → ℕ
once_below x n = cond (ltb x n) 1 0

-- the lists, one behind another
abbrev pub joined : {X Y : Type 0} → (X → List Y) → List X → List Y
joined f [] = []
joined f (x ∷ xs) = f x ++ joined f xs

-- f of the element at a place, and 0 past the end
abbrev pub measured : {X : Type 0} → (X → ℕ) → List X → ℕ → ℕ
measured f [] i = 0
measured f (x ∷ xs) zero = f x
measured f (x ∷ xs) (suc i) = measured f xs i

-- three lists of one length, whose elements stand in the relation place by place
abbrev pub Each : {X Y Z : Type 0} → (X → Y → Z → Type 0) → List X → List Y → List Z → Type 0
Each P [] [] [] = Unit {0}
Each P (x ∷ xs) (y ∷ ys) (z ∷ zs) = P x y z × Each P xs ys zs
Each P xs ys zs = ⊥
