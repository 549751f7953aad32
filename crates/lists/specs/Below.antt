-- Tests, counts, sums and searches over the numbers below n, each by one recursion on n, as a loop goes.
-- Assumes nothing.
use Rattle.std.specs.Prelude.{ℕ, zero, suc, ◌+◌, ◌^◌, Bool, true, ◌&&◌, ◌||◌, cond, List, [], ◌∷◌, ◌++◌, ltb, eqb}

-- every number below n passes
unfoldable pub all_below : ℕ → (ℕ → Bool) → Bool
all_below zero f = true
all_below (suc n) f = all_below n f && f n

-- every test of a list passes
unfoldable pub all_true : List Bool → Bool
all_true [] = true
all_true (x ∷ xs) = x && all_true xs

-- how many numbers below n pass
unfoldable pub count_below : ℕ → (ℕ → Bool) → ℕ
count_below zero f = 0
count_below (suc n) f = count_below n f + cond (f n) 1 0

-- f 0 + f 1 + .. , n of them
unfoldable pub sum_below : ℕ → (ℕ → ℕ) → ℕ
sum_below zero f = 0
sum_below (suc n) f = sum_below n f + f n

-- the lowest number below n that passes, `other` if none does
unfoldable pub first_below : ℕ → ℕ → (ℕ → Bool) → ℕ
first_below other zero f = other
first_below other (suc n) f =
    let m = first_below other n f in
    cond (eqb m other && f n) n m

-- the highest number below n that passes, `other` if none does
unfoldable pub last_below : ℕ → ℕ → (ℕ → Bool) → ℕ
last_below other zero f = other
last_below other (suc n) f = cond (f n) n (last_below other n f)

-- of the numbers below n that pass, the one with the least key, the lowest on a tie; `other` if none passes
unfoldable pub least_below : (ℕ → ℕ) → ℕ → ℕ → (ℕ → Bool) → ℕ
least_below key other zero f = other
least_below key other (suc n) f =
    let m = least_below key other n f in
    cond (f n && (eqb m other || ltb (key n) (key m))) n m

-- of the numbers below n that pass, the one with the greatest key, the lowest on a tie; `other` if none passes
unfoldable pub most_below : (ℕ → ℕ) → ℕ → ℕ → (ℕ → Bool) → ℕ
most_below key other zero f = other
most_below key other (suc n) f =
    let m = most_below key other n f in
    cond (f n && (eqb m other || ltb (key m) (key n))) n m

-- the numbers below n that pass, rising
unfoldable pub keep_below : ℕ → (ℕ → Bool) → List ℕ
keep_below zero f = []
keep_below (suc n) f = keep_below n f ++ cond (f n) (n ∷ []) []

-- the lists of the numbers below n, one after the other
unfoldable pub join_below {ℓ} : {A : Type ℓ} → ℕ → (ℕ → List A) → List A
join_below zero f = []
join_below (suc n) f = join_below n f ++ f n

-- the list of n elements whose element k is f of k
unfoldable pub list_below {ℓ} : {A : Type ℓ} → ℕ → (ℕ → A) → List A
list_below zero f = []
list_below (suc n) f = list_below n f ++ (f n ∷ [])

-- the number whose bit i, for i below n, is set where f holds of i
unfoldable pub bits_below : ℕ → (ℕ → Bool) → ℕ
bits_below zero f = 0
bits_below (suc n) f = bits_below n f + cond (f n) (2 ^ n) 0

-- the function f, with x at i
unfoldable pub updated {ℓ} : {A : Type ℓ} → (ℕ → A) → ℕ → A → ℕ → A
updated f i x j = cond (eqb j i) x (f j)
