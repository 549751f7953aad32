-- What one turn adds, and what one store makes of the table.
-- Assumes nothing.
use mathlib.Core.Path.{ap, refl, ◌∙◌, ◌≡◌}
use mathlib.Core.Bool.{Bool}
use mathlib.Core.List.{List}
use Prim.Native.Nat.{◌%◌, ◌*◌, ◌+◌, ◌-◌, ◌/◌, ◌<◌, min, suc, zero, ℕ}
use native.Mathlib.Nat.{add-suc}
use native.Mathlib.Omega.{arith}
use lib.Dec.{ltb}
use lib.ListN.{get_or, set}
use Rattle.lists.specs.Below.{count_below, updated, bits_below}
use Rattle.rules.specs.declared.Params.{Params}
use Rattle.rules.specs.Marks.{Marks, table_of, word_of}
use Rattle.rules.specs.Tables.{mark_index}
use Rattle.marks.specs.Kept.{put_mark}
use Rattle.marks.proofs.Tables.{first_more, first_words, table_at, table_put, word_put}

-- the numbers below a, and then b more
count_add : (a b : ℕ) (f : ℕ → Bool) → count_below (a + b) f ≡ count_below a f + count_below b (λ i. f (a + i))
unfolding count_below
count_add a zero f = let e : a + 0 ≡ a = omega arith in rw e (omega arith)
count_add a (suc b) f = rw (add-suc a b, count_add a b f) (omega arith)

-- the word that is read
pub word_read : (p : Params) (m : Marks) (t : List ℕ) (r v w i : ℕ) → t ≡ table_of p m → r < p.mu → v < p.gamma → w < 4 → i ≡ mark_index p r v w
    → get_or t i 0 ≡ bits_below 64 (λ j. m r v (64 * w + j))
unfolding word_of
word_read p m t r v w i e h k l q = rw (e, q) (table_at p m r v w h k l)

-- one mark stored
pub put_mark_lem : (p : Params) (m : Marks) (t : List ℕ) (r v f i x : ℕ) (b : Bool) → t ≡ table_of p m → r < p.mu → v < p.gamma → f < 256
    → i ≡ mark_index p r v (f / 64) → x ≡ bits_below 64 (updated (λ j. m r v (64 * (f / 64) + j)) (f % 64) b) → set t i x ≡ table_of p (put_mark m r v f b)
put_mark_lem p m t r v f i x b e h k l q s = rw (e, q, s, word_put (m r v) f b) (table_put p m r v f b h k l)

-- one mark read
pub mark_read : (g : ℕ → Bool) (f : ℕ) (b : Bool) → b ≡ g (64 * (f / 64) + f % 64) → b ≡ g f
mark_read g f b e = let q : 64 * (f / 64) + f % 64 ≡ f = omega arith in e ∙ ap g q

-- one word more counted
pub count_start : (g : ℕ → Bool) → 0 ≡ count_below (64 * 0) g
unfolding count_below
count_start g = refl

pub count_word : (g : ℕ → Bool) (w n k : ℕ) → n ≡ count_below (64 * w) g → k ≡ count_below 64 (λ i. g (64 * w + i)) → n + k ≡ count_below (64 * (w + 1)) g
count_word g w n k e q = let s : 64 * (w + 1) ≡ 64 * w + 64 = omega arith in rw (s, count_add (64 * w) 64 g, e, q)

-- one word of the first frames stored
pub first_stored : (p : Params) (m : Marks) (t : List ℕ) (r v k w i n x : ℕ) → t ≡ table_of p (first_words m r v k w) → r < p.mu → v < p.gamma → w < 4
    → i ≡ mark_index p r v w → n ≡ min (k - 64 * w) 64 → x ≡ bits_below 64 (λ j. ltb j n) → set t i x ≡ table_of p (first_words m r v k (w + 1))
first_stored p m t r v k w i n x e h g l q s u = rw (e, q, u, s) (first_more p m r v k w h g l)
