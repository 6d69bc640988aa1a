-- Small functions on lists, by which the other files read.
use Rattle.std.specs.Prelude.{ℕ, zero, suc, ◌+◌, max, Bool, true, ◌&&◌, cond, List, [], ◌∷◌, eqb, ltb}

-- n numbers from a on
unfoldable pub range : ℕ → ℕ → List ℕ
range a zero = []
range a (suc n) = a ∷ range (suc a) n

unfoldable pub sum : List ℕ → ℕ
sum [] = 0
sum (x ∷ xs) = x + sum xs

-- the largest number of a list, 0 of none
unfoldable pub largest : List ℕ → ℕ
largest [] = 0
largest (x ∷ xs) = max x (largest xs)

-- all of some tests pass
unfoldable pub every : List Bool → Bool
every [] = true
every (b ∷ bs) = b && every bs

-- a test passes at each of some entries
unfoldable pub all : {A : Type 0} → (A → Bool) → List A → Bool
all p [] = true
all p (x ∷ xs) = p x && all p xs

-- a number put into a rising list, unless it is there
unfoldable pub placed : ℕ → List ℕ → List ℕ
placed x [] = x ∷ []
placed x (y ∷ ys) = cond (ltb x y) (x ∷ y ∷ ys) (cond (eqb x y) (y ∷ ys) (y ∷ placed x ys))

-- each number once, in rising order
unfoldable pub rising : List ℕ → List ℕ
rising [] = []
rising (x ∷ xs) = placed x (rising xs)
