-- Lists given element by element: how long one is, what stands where, and when two are the same. The first elements of two lists, one after the other.
-- Assumes nothing.
use mathlib.Core.Path.{ap, refl, sym, ◌∙◌, ◌≡◌}
use mathlib.Core.List.{List, [], ◌++◌, ◌∷◌}
use Prim.Native.Nat.{◌-◌, ◌<◌, suc, zero, ℕ}
use native.Mathlib.Decide.{ℕ_discrete}
use native.Mathlib.Omega.{arith}
use lib.ListN.{get_or-append, get_or, get_or-replicate, length, length-append, length-replicate, length-set, replicate, set, take}
use lib.Seq.{ext_get_or, get_or_at, get_or-set_other, get_or-set_same}
use Rattle.lists.specs.Below.{updated, list_below}
use Rattle.lists.proofs.Joins.{updated_other, updated_same}

pub list_length {ℓ} : {A : Type ℓ} (n : ℕ) (f : ℕ → A) → length (list_below n f) ≡ n
unfolding list_below
list_length zero f = refl
list_length (suc n) f = rw (length-append, list_length n f) (omega arith)

pub list_at {ℓ} : {A : Type ℓ} (n : ℕ) (f : ℕ → A) (k : ℕ) (d : A) → k < n → get_or (list_below n f) k d ≡ f k
unfolding list_below
list_at zero f k d h = absurd (omega arith)
list_at (suc n) f k d h = go (ℕ_discrete k n) (list_at n f k d)
  where
    go : Dec (k ≡ n) → (k < n → get_or (list_below n f) k d ≡ f k) → get_or (list_below n f ++ f n ∷ []) k d ≡ f k
    go (yes e) below = rw e (get_or_at (list_below n f) (f n) [] d n (list_length n f))
    go (no e) below = get_or-append (list_below n f) (f n ∷ []) d k (omega (arith, list_length n f)) ∙ below (omega arith)

pub list_cong {ℓ} : {A : Type ℓ} (n : ℕ) (f g : ℕ → A) → ((k : ℕ) → k < n → f k ≡ g k) → list_below n f ≡ list_below n g
unfolding list_below
list_cong zero f g h = refl
list_cong (suc n) f g h = rw (h n (omega arith), list_cong n f g (λ k l. h k (omega arith)))

-- a list of n elements, of which element k is f of k
pub list_is {ℓ} : {A : Type ℓ} (d : A) (n : ℕ) (f : ℕ → A) (l : List A) → length l ≡ n → ((k : ℕ) → k < n → get_or l k d ≡ f k) → l ≡ list_below n f
list_is d n f l e h = ext_get_or d l (list_below n f) (e ∙ sym (list_length n f)) (λ k a. h k (omega arith) ∙ sym (list_at n f k d (omega arith)))

-- one element throughout
pub list_const {ℓ} : {A : Type ℓ} (x : A) (n : ℕ) → replicate n x ≡ list_below n (λ k. x)
list_const x n = list_is x n (λ k. x) (replicate n x) (length-replicate n x) (λ k h. get_or-replicate n k x x h)

-- one element set
pub list_set {ℓ} : {A : Type ℓ} (n : ℕ) (f : ℕ → A) (i : ℕ) (x : A) → i < n → set (list_below n f) i x ≡ list_below n (updated f i x)
list_set {A = A} n f i x h = list_is x n (updated f i x) (set (list_below n f) i x) (length-set (list_below n f) i x ∙ list_length n f) (λ k l. go k l (ℕ_discrete k i))
  where
    go : (k : ℕ) → k < n → Dec (k ≡ i) → get_or (set (list_below n f) i x) k x ≡ updated f i x k
    go k l (yes e) = rw (e, get_or-set_same (list_below n f) i x x (omega (arith, list_length n f))) (sym (updated_same f i x))
    go k l (no e) = get_or-set_other (list_below n f) i k x x e ∙ list_at n f k x l ∙ sym (updated_other f i x k e)

-- the first n of xs and then of ys
pub take_append {ℓ} : {A : Type ℓ} (n : ℕ) (xs ys : List A) → take n (xs ++ ys) ≡ take n xs ++ take (n - length xs) ys
take_append n [] ys = nil n (n - 0) (omega arith)
  where
    nil : (n m : ℕ) → m ≡ n → take n ys ≡ take n [] ++ take m ys
    nil zero m e = rw e
    nil (suc n) m e = rw e
take_append zero (x ∷ xs) ys = let e : 0 - length (x ∷ xs) ≡ 0 = omega arith in rw e
take_append {A = A} (suc n) (x ∷ xs) ys = let e : suc n - length (x ∷ xs) ≡ n - length xs = omega arith in rw e (ap (λ (l : List A). x ∷ l) (take_append n xs ys))
