-- Of rows that give different replies, the first that applies is given exactly when it applies and none before it does.
-- Assumes nothing.
use mathlib.Core.Path.{◌≡◌, refl, sym, ap}
use Prim.Native.Nat.{ℕ}
use mathlib.Core.Bool.{Bool, true, false, not, ◌&&◌, cond, false≢true}
use mathlib.Core.List.{List, [], ◌∷◌, ◌++◌, map}
use lib.Dec.{eqb}
use borrow.Author.Tests.{eqb-false, not-true}
use Rattle.lists.proofs.Tests.{and_left, and_right}
use Rattle.rules.specs.declared.Params.{Params}
use Rattle.rules.specs.declared.Reply.TheVariants.{Accepted}
use Rattle.rules.specs.Tables.{Board}
use Rattle.rules.specs.Requests.{Call, format, queue, read, release, start, write}
use Rattle.rules.specs.Replies.{Row, access_rows, block_row, early_rows, first_row, lent_rows, number_of, order_row, queue_rows, reply_of, rows_of, stamp_row}
use Rattle.claims.specs.Conditions.{ByTable, none_applies}

-- k is none of these numbers; no two of them are the same
unfoldable pub differs : ℕ → List ℕ → Bool
differs k [] = true
differs k (n ∷ ns) = not (eqb k n) && differs k ns

unfoldable pub distinct : List ℕ → Bool
distinct [] = true
distinct (n ∷ ns) = differs n ns && distinct ns

module _ {A : Type 0} (number : A → ℕ) (other : A) where
  -- the numbers of what the rows give
  unfoldable pub numbers : List (Row A) → List ℕ
  numbers rows = map (λ (x : Row A). number x.gives) rows

  -- what is given is one of the rows' or the other
  not_given : (a : A) (rows : List (Row A)) → (number other ≡ number a → ⊥) → differs (number a) (numbers rows) ≡ true → first_row other rows ≡ a → ⊥
  unfolding first_row numbers differs
  not_given a [] ne h e = ne (ap number e)
  not_given a (x ∷ xs) ne h e = go x.applies e (not_given a xs ne (and_right (not (eqb (number a) (number x.gives))) h))
    where
      go : (t : Bool) → cond t x.gives (first_row other xs) ≡ a → (first_row other xs ≡ a → ⊥) → ⊥
      go true d below = eqb-false _ _ (not-true _ (and_left (not (eqb (number a) (number x.gives))) _ h)) (ap number (sym d))
      go false d below = below d

  apart_at : (k : ℕ) (earlier later : List (Row A)) (x : Row A) → differs k (numbers (earlier ++ (x ∷ later))) ≡ true → k ≡ number x.gives → ⊥
  unfolding numbers differs
  apart_at k [] later x h e = eqb-false _ _ (not-true _ (and_left (not (eqb k (number x.gives))) _ h)) e
  apart_at k (y ∷ earlier) later x h e = apart_at k earlier later x (and_right (not (eqb k (number y.gives))) h) e

  -- a row's reply is given only when it applies and no earlier row does
  given_when : (earlier later : List (Row A)) (x : Row A) → (number other ≡ number x.gives → ⊥) → distinct (numbers (earlier ++ (x ∷ later))) ≡ true
      → first_row other (earlier ++ (x ∷ later)) ≡ x.gives → (none_applies earlier ≡ true) × (x.applies ≡ true)
  unfolding first_row none_applies numbers distinct
  given_when [] later x ne h e = (refl, go x.applies refl e)
    where
      go : (t : Bool) → x.applies ≡ t → cond t x.gives (first_row other later) ≡ x.gives → x.applies ≡ true
      go true i d = i
      go false i d = absurd (not_given x.gives later ne (and_left (differs (number x.gives) (numbers later)) _ h) d)
  given_when (y ∷ earlier) later x ne h e = go y.applies e (given_when earlier later x ne (and_right (differs (number y.gives) (numbers (earlier ++ (x ∷ later)))) h))
    where
      go : (t : Bool) → cond t y.gives (first_row other (earlier ++ (x ∷ later))) ≡ x.gives
          → (first_row other (earlier ++ (x ∷ later)) ≡ x.gives → (none_applies earlier ≡ true) × (x.applies ≡ true)) → (not t && none_applies earlier ≡ true) × (x.applies ≡ true)
      go true d below = absurd (apart_at (number y.gives) earlier later x (and_left (differs (number y.gives) (numbers (earlier ++ (x ∷ later)))) _ h) (ap number d))
      go false d below = below d

  -- and whenever that is so
  when_given : (earlier later : List (Row A)) (x : Row A) → none_applies earlier ≡ true → x.applies ≡ true → first_row other (earlier ++ (x ∷ later)) ≡ x.gives
  unfolding first_row none_applies
  when_given [] later x h e = rw e
  when_given (y ∷ earlier) later x h e = go y.applies h (when_given earlier later x)
    where
      go : (t : Bool) → not t && none_applies earlier ≡ true → (none_applies earlier ≡ true → x.applies ≡ true → first_row other (earlier ++ (x ∷ later)) ≡ x.gives)
          → cond t y.gives (first_row other (earlier ++ (x ∷ later))) ≡ x.gives
      go true k below = absurd (false≢true k)
      go false k below = below k e

  -- the other is given exactly when no row applies
  other_when : (rows : List (Row A)) → differs (number other) (numbers rows) ≡ true → first_row other rows ≡ other → none_applies rows ≡ true
  unfolding first_row none_applies numbers differs
  other_when [] h e = refl
  other_when (x ∷ xs) h e = go x.applies e (other_when xs (and_right (not (eqb (number other) (number x.gives))) h))
    where
      go : (t : Bool) → cond t x.gives (first_row other xs) ≡ other → (first_row other xs ≡ other → none_applies xs ≡ true) → not t && none_applies xs ≡ true
      go true d below = absurd (eqb-false _ _ (not-true _ (and_left (not (eqb (number other) (number x.gives))) _ h)) (ap number (sym d)))
      go false d below = below d

  when_other : (rows : List (Row A)) → none_applies rows ≡ true → first_row other rows ≡ other
  unfolding first_row none_applies
  when_other [] h = refl
  when_other (x ∷ xs) h = go x.applies h (when_other xs)
    where
      go : (t : Bool) → not t && none_applies xs ≡ true → (none_applies xs ≡ true → first_row other xs ≡ other) → cond t x.gives (first_row other xs) ≡ other
      go true d below = absurd (false≢true d)
      go false d below = below d

  -- any rows that give different replies, none of them the other
  pub by_table : (rows : List (Row A)) → distinct (number other ∷ numbers rows) ≡ true → ByTable other rows (first_row other rows)
  unfolding distinct
  by_table rows h =
      let apart = and_left (differs (number other) (numbers rows)) _ h in
      let each = and_right (differs (number other) (numbers rows)) h in
      record {
        listed = λ earlier later x is. rw is (
          given_when earlier later x (apart_at (number other) earlier later x (rw is at apart)) (rw is at each),
          λ w. when_given earlier later x w.0 w.1,
        );
        otherwise = (other_when rows apart, when_other rows);
      }

-- ---- the calls

rows_distinct : (p : Params) (b : Board) (c : Call) → distinct (0 ∷ numbers number_of Accepted (rows_of p b c)) ≡ true
unfolding rows_of early_rows block_row lent_rows access_rows order_row stamp_row queue_rows numbers distinct differs
rows_distinct p b format = refl
rows_distinct p b (read q) = refl
rows_distinct p b (write q) = refl
rows_distinct p b (release c) = refl
rows_distinct p b (queue l) = refl
rows_distinct p b start = refl

pub reply_by_table : (p : Params) (b : Board) (c : Call) → ByTable Accepted (rows_of p b c) (reply_of p b c)
unfolding reply_of
reply_by_table p b c = by_table number_of Accepted (rows_of p b c) (rows_distinct p b c)
