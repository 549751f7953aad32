-- Blocks that pass a test, erased in rising order and marked where that wears them out, as a format and a start do it: what becomes of the chip, and what is counted. By the blocks below k, for each k.
-- Assumes nothing.
use mathlib.Core.Path.{◌≡◌, refl, sym, ap, ◌∙◌}
use Prim.Native.Nat.{ℕ, zero, suc, ◌+◌, ◌*◌, ◌≤◌, ◌<◌, min}
use native.Mathlib.Numerals.{add-one}
use native.Mathlib.Omega.{arith}
use native.Mathlib.Decide.{ℕ_discrete}
use mathlib.Core.Bool.{Bool, true, false, ◌&&◌, cond}
use mathlib.Core.List.{List, [], ◌∷◌, ◌++◌, append-nil}
use lib.ListN.{length, length-append}
use lib.Seq.{get_or-set_other}
use Rattle.lists.specs.Below.{count_below, join_below}
use Rattle.lists.proofs.Parts.{next}
use Rattle.lists.proofs.Tests.{never}
use Rattle.rules.specs.declared.Params.{Params}
use Rattle.rules.specs.Parameters.{block_bytes}
use Rattle.rules.specs.Tables.{wear_at}
use Rattle.rules.specs.Pages.{block}
use Rattle.rules.specs.Traces.{Op, clean, erase, erase_ops, erase_where, erases_in, on_wear, programs_in, replay_chip, replay_wear, worn}
use Rattle.rules.proofs.Chip.{clean_append, replay_append}
use Rattle.rules.proofs.Sizes.{Sizes}
use Rattle.rules.proofs.WornBlocks.{left_block, wear_out_clean, wear_out_counts, wear_out_long, wear_out_ran, wear_out_wear}
use Rattle.rules.proofs.WritePromise.{erases_append, programs_append}

-- the erases of the blocks below k, with the marks of those that they wear out
unfoldable pub erases_below : Params → List ℕ → (ℕ → Bool) → ℕ → List Op
erases_below p wear f k = join_below k (λ n. cond (f n) (erase_ops p wear n) [])

pub where_below : (p : Params) (wear : List ℕ) (f : ℕ → Bool) → erase_where p wear f ≡ erases_below p wear f p.N
unfolding erase_where erases_below
where_below p wear f = refl

-- one block more
pub one_more : (p : Params) (wear : List ℕ) (f : ℕ → Bool) (k : ℕ) → erases_below p wear f (k + 1) ≡ erases_below p wear f k ++ cond (f k) (erase_ops p wear k) []
unfolding erases_below join_below
one_more p wear f k = rw add-one

-- where no block passes there is none
pub none_pass : (p : Params) (wear : List ℕ) (f : ℕ → Bool) (k : ℕ) → ((n : ℕ) → n < k → f n ≡ false) → erases_below p wear f k ≡ []
unfolding erases_below join_below
none_pass p wear f zero h = refl
none_pass p wear f (suc k) h = rw (h k (omega arith), none_pass p wear f k (λ n l. h n (omega arith)))

-- where one passes alone, they are its own
pub only_one_lem : (p : Params) (wear : List ℕ) (f : ℕ → Bool) (x k : ℕ) → x < k → f x ≡ true → ((n : ℕ) → n < k → (n ≡ x → ⊥) → f n ≡ false) → erases_below p wear f k ≡ erase_ops p wear x
unfolding erases_below join_below
only_one_lem p wear f x zero h e else = absurd (omega arith)
only_one_lem p wear f x (suc k) h e else = go (ℕ_discrete x k) (λ l. only_one_lem p wear f x k l e (λ n m. else n (omega arith)))
  where
    go : Dec (x ≡ k) → (x < k → erases_below p wear f k ≡ erase_ops p wear x) → erases_below p wear f k ++ cond (f k) (erase_ops p wear k) [] ≡ erase_ops p wear x
    go (yes y) below = rw (none_pass p wear f k (λ n m. else n (omega arith) (λ w. omega (arith, y))), sym (ap f y) ∙ e, y)
    go (no y) below = rw (below (omega arith), else k (omega arith) (λ w. y (sym w))) (append-nil (erase_ops p wear x))

-- ---- the counts, and the pages programmed

pub erases_counted : (p : Params) (wear : List ℕ) (f : ℕ → Bool) (k : ℕ) → (programs_in (erases_below p wear f k) ≡ 0) × (erases_in (erases_below p wear f k) ≡ count_below k f)
unfolding erases_below join_below count_below
erases_counted p wear f zero = unfold programs_in erases_in in (refl, refl)
erases_counted p wear f (suc k) =
    let below = erases_counted p wear f k in
    let here = one (f k) in (
      programs_append (erases_below p wear f k) (cond (f k) (erase_ops p wear k) []) ∙ omega (arith, below.0, here.0),
      erases_append (erases_below p wear f k) (cond (f k) (erase_ops p wear k) []) ∙ omega (arith, below.1, here.1),
    )
  where
    one : (t : Bool) → (programs_in (cond t (erase_ops p wear k) []) ≡ 0) × (erases_in (cond t (erase_ops p wear k) []) ≡ cond t 1 0)
    one true = wear_out_counts p wear k
    one false = unfold programs_in erases_in in (refl, refl)

-- as many operations as erases, and one more for each block that they wear out
pub erases_long : (p : Params) (wear : List ℕ) (f : ℕ → Bool) (k : ℕ) → length (erases_below p wear f k) ≡ count_below k f + count_below k (λ n. f n && worn p wear n)
unfolding erases_below join_below count_below
erases_long p wear f zero = refl
erases_long p wear f (suc k) = length-append (erases_below p wear f k) (cond (f k) (erase_ops p wear k) []) ∙ omega (arith, erases_long p wear f k, one (f k))
  where
    one : (t : Bool) → length (cond t (erase_ops p wear k) []) ≡ cond t 1 0 + cond (t && worn p wear k) 1 0
    one true = wear_out_long p wear k
    one false = refl

-- ---- the chip

-- of the blocks below k, those that pass are erased, and marked where that wears them out; the others, and all from k on, are as they were
pub record Cleared (p : Params) (wear : List ℕ) (f : ℕ → Bool) (chip chip' : List ℕ) (k : ℕ) : Type 0 where
  pub size : length chip' ≡ length chip
  pub done : (m : ℕ) → m < k → f m ≡ true → block p chip' m ≡ left_block p (worn p wear m)
  pub kept : (m : ℕ) → f m ≡ false → block p chip' m ≡ block p chip m
  pub ahead : (m : ℕ) → k ≤ m → block p chip' m ≡ block p chip m

module _ (p : Params) (z : Sizes p) (wear : List ℕ) (f : ℕ → Bool) (chip : List ℕ) (fits : length chip ≡ p.N * block_bytes p) where
  pub erases_ran : (k : ℕ) → k ≤ p.N → Cleared p wear f chip (replay_chip p chip (erases_below p wear f k)) k
  unfolding erases_below join_below
  erases_ran zero h = unfold replay_chip in record { size = refl; done = λ m a e. absurd (omega arith); kept = λ m e. refl; ahead = λ m l. refl }
  erases_ran (suc k) h =
      rw (replay_append p chip (erases_below p wear f k) (cond (f k) (erase_ops p wear k) []))
      (go (replay_chip p chip (erases_below p wear f k)) (f k) refl (erases_ran k (omega arith)))
    where
      go : (c₁ : List ℕ) (t : Bool) → f k ≡ t → Cleared p wear f chip c₁ k → Cleared p wear f chip (replay_chip p c₁ (cond t (erase_ops p wear k) [])) (suc k)
      go c₁ false e u =
          unfold replay_chip in
          record { size = u.size; done = λ m a x. u.done m (below m a (λ y. never x (ap f y ∙ e))) x; kept = u.kept; ahead = λ m l. u.ahead m (omega arith) }
        where
          below : (m : ℕ) → m < suc k → (m ≡ k → ⊥) → m < k
          below m a ne = omega arith
      go c₁ true e u =
          let er = wear_out_ran p z c₁ k (rw (u.size, fits) (next (block_bytes p) k p.N h)) wear in
          record {
            size = er.size ∙ u.size;
            done = λ m a x. done m a x (ℕ_discrete m k);
            kept = λ m x. er.else m (λ y. never (ap f y ∙ e) x) ∙ u.kept m x;
            ahead = λ m l. er.else m (λ y. omega arith) ∙ u.ahead m (omega arith);
          }
        where
          done : (m : ℕ) → m < suc k → f m ≡ true → Dec (m ≡ k) → block p (replay_chip p c₁ (erase_ops p wear k)) m ≡ left_block p (worn p wear m)
          done m a x (yes y) = rw y (wear_out_ran p z c₁ k (rw (u.size, fits) (next (block_bytes p) k p.N h)) wear).here
          done m a x (no y) = (wear_out_ran p z c₁ k (rw (u.size, fits) (next (block_bytes p) k p.N h)) wear).else m y ∙ u.done m (omega arith) x

  -- each page that is programmed is erased just before: a mark comes right after the erase of its block
  pub erases_clean : (k : ℕ) → k ≤ p.N → clean p chip (erases_below p wear f k) ≡ true
  unfolding erases_below join_below
  erases_clean zero h = unfold clean in refl
  erases_clean (suc k) h = clean_append p chip (erases_below p wear f k) _ (erases_clean k (omega arith)) (one (f k))
    where
      one : (t : Bool) → clean p (replay_chip p chip (erases_below p wear f k)) (cond t (erase_ops p wear k) []) ≡ true
      one true = wear_out_clean p z _ k (rw ((erases_ran k (omega arith)).size, fits) (next (block_bytes p) k p.N h)) wear
      one false = unfold clean in refl

-- ---- as a loop goes

pub wear_append : (wear : List ℕ) (xs ys : List Op) → replay_wear wear (xs ++ ys) ≡ replay_wear (replay_wear wear xs) ys
unfolding replay_wear
wear_append wear [] ys = refl
wear_append wear (o ∷ xs) ys = wear_append (on_wear wear o) xs ys

-- the wear of a block from k on is as it was
pub wear_ahead : (p : Params) (wear : List ℕ) (f : ℕ → Bool) (k m : ℕ) → k ≤ m → wear_at (replay_wear wear (erases_below p wear f k)) m ≡ wear_at wear m
unfolding erases_below join_below
wear_ahead p wear f zero m h = unfold replay_wear in refl
wear_ahead p wear f (suc k) m h =
    rw (wear_append wear (erases_below p wear f k) (cond (f k) (erase_ops p wear k) [])) (one (f k)) ∙ wear_ahead p wear f k m (omega arith)
  where
    one : (t : Bool) → wear_at (replay_wear (replay_wear wear (erases_below p wear f k)) (cond t (erase_ops p wear k) [])) m ≡ wear_at (replay_wear wear (erases_below p wear f k)) m
    one true = rw (wear_out_wear p wear k (replay_wear wear (erases_below p wear f k))) (unfold on_wear wear_at in get_or-set_other (replay_wear wear (erases_below p wear f k)) k m (min (wear_at (replay_wear wear (erases_below p wear f k)) k + 1) 4294967295) 0 (λ e. omega arith))
    one false = unfold replay_wear in refl

-- the chip and the wear once the blocks below k are gone over, with so many erases
pub record Erased (p : Params) (f : ℕ → Bool) (chip wear : List ℕ) (k : ℕ) (chip₁ wear₁ : List ℕ) (e : ℕ) : Type 0 where
  pub chip_is : chip₁ ≡ replay_chip p chip (erases_below p wear f k)
  pub wear_is : wear₁ ≡ replay_wear wear (erases_below p wear f k)
  pub count : e ≡ erases_in (erases_below p wear f k)
  pub few : e ≤ k

module _ (p : Params) (f : ℕ → Bool) (chip wear : List ℕ) where
  pub none_erased : Erased p f chip wear 0 chip wear 0
  unfolding erases_below join_below replay_chip replay_wear erases_in
  none_erased = record { chip_is = refl; wear_is = refl; count = refl; few = omega arith }

  -- block k is worn out from here as from the start
  pub worn_ahead : (k : ℕ) (chip₁ wear₁ : List ℕ) (e : ℕ) → Erased p f chip wear k chip₁ wear₁ e → worn p wear₁ k ≡ worn p wear k
  unfolding worn
  worn_ahead k chip₁ wear₁ e u = rw (u.wear_is, wear_ahead p wear f k k (omega arith))

  -- a turn of it: block k is erased where it passes, and marked where that wears it out
  pub next_erased : (k : ℕ) (chip₁ wear₁ : List ℕ) (e : ℕ) → Erased p f chip wear k chip₁ wear₁ e → (chip₂ wear₂ : List ℕ) (x : ℕ)
      → chip₂ ≡ cond (f k) (replay_chip p chip₁ (erase_ops p wear₁ k)) chip₁ → wear₂ ≡ cond (f k) (on_wear wear₁ (erase k)) wear₁ → x ≡ cond (f k) 1 0
      → Erased p f chip wear (k + 1) chip₂ wear₂ (e + x)
  next_erased k chip₁ wear₁ e u chip₂ wear₂ x c w n =
      record {
        chip_is = c ∙ rw (one_more p wear f k, replay_append p chip (erases_below p wear f k), ← u.chip_is, ops_same) (chip_go (f k));
        wear_is = w ∙ rw (one_more p wear f k, wear_append wear (erases_below p wear f k), ← u.wear_is) (wear_go (f k));
        count = rw (one_more p wear f k, erases_append (erases_below p wear f k), u.count, n) (count_go (f k));
        few = few_go (f k) n;
      }
    where
      ops_same : erase_ops p wear₁ k ≡ erase_ops p wear k
      ops_same = unfold erase_ops in rw (worn_ahead k chip₁ wear₁ e u)

      chip_go : (t : Bool) → cond t (replay_chip p chip₁ (erase_ops p wear k)) chip₁ ≡ replay_chip p chip₁ (cond t (erase_ops p wear k) [])
      chip_go true = refl
      chip_go false = unfold replay_chip in refl

      wear_go : (t : Bool) → cond t (on_wear wear₁ (erase k)) wear₁ ≡ replay_wear wear₁ (cond t (erase_ops p wear k) [])
      wear_go true = sym (wear_out_wear p wear k wear₁)
      wear_go false = unfold replay_wear in refl

      count_go : (t : Bool) → erases_in (erases_below p wear f k) + cond t 1 0 ≡ erases_in (erases_below p wear f k) + erases_in (cond t (erase_ops p wear k) [])
      count_go true = omega (arith, (wear_out_counts p wear k).1)
      count_go false = unfold erases_in in refl

      few_go : (t : Bool) → x ≡ cond t 1 0 → e + x ≤ k + 1
      few_go true q = omega (arith, u.few)
      few_go false q = omega (arith, u.few)
