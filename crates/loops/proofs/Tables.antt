-- A loop that makes a table entry by entry: after k turns the first k entries are made, the others as they were.
-- Assumes nothing.
use mathlib.Core.Path.{◌≡◌, refl, ◌∙◌}
use mathlib.Core.Bool.{cond}
use mathlib.Core.List.{List}
use Prim.Native.Nat.{ℕ, ◌+◌, ◌<◌}
use native.Mathlib.Decide.{dec_lt, ℕ_discrete}
use native.Mathlib.Omega.{arith}
use lib.Dec.{ltb}
use lib.ListN.{length, get_or, set}
use borrow.Author.Tests.{le-ltb, lt-ltb}
use Rattle.lists.specs.Below.{list_below, updated}
use Rattle.lists.proofs.Joins.{updated_same, updated_other}
use Rattle.lists.proofs.Lists.{list_at, list_cong, list_is, list_length, list_set}

unfoldable pub made_to : ℕ → (ℕ → ℕ) → (ℕ → ℕ) → ℕ → List ℕ
made_to n f g k = list_below n (λ i. cond (ltb i k) (f i) (g i))

module _ (n : ℕ) (f g : ℕ → ℕ) where
  pub made_length : (k : ℕ) → length (made_to n f g k) ≡ n
  unfolding made_to
  made_length k = list_length n _

  pub made_none : list_below n g ≡ made_to n f g 0
  unfolding made_to
  made_none = list_cong n _ _ (λ i h. rw (le-ltb i 0 (omega arith)))

  -- an entry that is not made yet
  pub made_ahead : (k d : ℕ) → k < n → get_or (made_to n f g k) k d ≡ g k
  unfolding made_to
  made_ahead k d h = list_at n _ k d h ∙ rw (le-ltb k k (omega arith))

  pub made_more : (k : ℕ) → k < n → set (made_to n f g k) k (f k) ≡ made_to n f g (k + 1)
  unfolding made_to
  made_more k h = list_set n _ k (f k) h ∙ list_cong n _ _ (λ i _. go i (ℕ_discrete i k) (dec_lt i k))
    where
      go : (i : ℕ) → Dec (i ≡ k) → Dec (i < k) → updated (λ i. cond (ltb i k) (f i) (g i)) k (f k) i ≡ cond (ltb i (k + 1)) (f i) (g i)
      go i (yes e) d = rw (e, updated_same (λ i. cond (ltb i k) (f i) (g i)) k (f k), lt-ltb k (k + 1) (omega arith))
      go i (no e) (yes d) = rw (updated_other (λ i. cond (ltb i k) (f i) (g i)) k (f k) i e, lt-ltb i k d, lt-ltb i (k + 1) (omega arith))
      go i (no e) (no d) = rw (updated_other (λ i. cond (ltb i k) (f i) (g i)) k (f k) i e, le-ltb i k (omega arith), le-ltb i (k + 1) (omega arith))

  -- a turn that stores x
  pub made_next : (l : List ℕ) (k x : ℕ) → k < n → l ≡ made_to n f g k → x ≡ f k → set l k x ≡ made_to n f g (k + 1)
  made_next l k x h e q = rw (e, q) (made_more k h)

  pub made_all : (k : ℕ) → k ≡ n → made_to n f g k ≡ list_below n f
  unfolding made_to
  made_all k e = rw e (list_cong n _ _ (λ i h. rw (lt-ltb i n h)))

-- any table, as it is lent
pub as_lent : (n : ℕ) (f : ℕ → ℕ) (l : List ℕ) → length l ≡ n → l ≡ made_to n f (λ i. get_or l i 0) 0
as_lent n f l e = list_is 0 n (λ i. get_or l i 0) l e (λ i h. refl) ∙ made_none n f (λ i. get_or l i 0)
