-- The blocks that BT names, their programmed frames, and the virtual block of a segment.
-- Assumes nothing.
use mathlib.Core.Path.{refl, ◌∙◌, ◌≡◌}
use mathlib.Core.Logic.{inl, inr, ◌⊎◌}
use mathlib.Core.Bool.{◌&&◌, Bool, cond, false, not, true, ◌||◌}
use mathlib.Core.List.{List}
use Prim.Native.Nat.{◌*◌, ◌+◌, ◌/◌, ◌<◌, ℕ}
use native.Mathlib.Nat.{div-lt_iff_lt-mul}
use native.Mathlib.Omega.{arith}
use lib.Dec.{eqb, ltb}
use borrow.Author.Tests.{eqb-true, ltb-true, ne_eqb}
use Rattle.lists.proofs.Tests.{all_at, or_cases, so}
use Rattle.rules.specs.declared.Params.{Params}
use Rattle.rules.specs.Orderly.{block_rule, bt_rule, stamps_to}
use Rattle.rules.specs.Pages.{block, filled}
use Rattle.rules.specs.Parameters.{frames}
use Rattle.rules.specs.Tables.{Board, bst_at, bt_at, bt_entry, none}
use Rattle.rules.proofs.Sizes.{Sizes, sizes}
use Rattle.rules.proofs.TableFacts.{chip_size}
use Rattle.check_tables.specs.Entries.{differs}
use Rattle.chip_tables.proofs.Indices.{entry_in}
use Rattle.chip_blocks.proofs.Leading.{used_some}
use Rattle.check_rules.specs.Check.{Lent, vblock_frames, vblock_ok}
use Rattle.check_rules.proofs.Same.{Names}

-- an entry that is not none names a block
pub name_low : (p : Params) (chip bt : List ℕ) → Lent p chip bt → (r v n : ℕ) → r < p.mu → v < p.gamma → n ≡ bt_at p bt r v → (n ≡ none → ⊥) → n < p.N
unfolding bt_rule bt_at
name_low p chip bt t r v n hr hv e ne =
    go (or_cases (eqb (bt_entry bt (r * p.gamma + v)) none) (all_at (p.mu * p.gamma) (λ i. eqb (bt_entry bt i) none || ltb (bt_entry bt i) p.N) t.names
    (r * p.gamma + v) (entry_in (p.mu * p.gamma) p.mu p.gamma r v refl hr hv)))
  where
    go : (eqb (bt_entry bt (r * p.gamma + v)) none ≡ true) ⊎ (ltb (bt_entry bt (r * p.gamma + v)) p.N ≡ true) → n < p.N
    go (inl x) = absurd (ne (e ∙ eqb-true _ _ x))
    go (inr x) = rw e (ltb-true _ _ x)

-- an entry below none is not none, and names a block
pub not_none : (n : ℕ) → n < none → eqb n none ≡ false
not_none n h = ne_eqb n none (λ e. omega arith)

pub named_low : (p : Params) (chip bt : List ℕ) → Lent p chip bt → (r v n : ℕ) → r < p.mu → v < p.gamma → n ≡ bt_at p bt r v → n < none → n < p.N
named_low p chip bt t r v n hr hv e h = name_low p chip bt t r v n hr hv e (λ x. omega arith)

-- the same of a board, which has the blocks that BT names
pub names_in : (p : Params) (b : Board) → Lent p b.chip b.bt → Names p b
names_in p b t =
    record {
      fine = sizes p t.fine;
      chip_length = t.chip_length ∙ chip_size p;
      low = λ r v hr hv ne. name_low p b.chip b.bt t r v _ hr hv refl ne;
    }

pub vblock_low_lem : (m k sg : ℕ) → 0 < k → sg < m * k → sg / k < m
vblock_low_lem m k sg h l = (div-lt_iff_lt-mul h).1 l

-- a block that is as it should be has a programmed frame, so that 0 is left for one that is not
pub frames_some : (p : Params) → Sizes p → (chip bt bst : List ℕ) (r v : ℕ) → not (eqb (vblock_frames p chip bt bst r v) 0) ≡ vblock_ok p chip bt bst r v
unfolding vblock_frames vblock_ok
frames_some p z chip bt bst r v = go (so (eqb n none)) (so (differs p bt r v)) (so (eqb (bst_at bst n) 1))
  where
    n : ℕ
    n = bt_at p bt r v

    go : (eqb n none ≡ true) ⊎ (eqb n none ≡ false) → (differs p bt r v ≡ true) ⊎ (differs p bt r v ≡ false) → (eqb (bst_at bst n) 1 ≡ true) ⊎ (eqb (bst_at bst n) 1 ≡ false)
        → not (eqb (cond (cond (eqb n none) true (differs p bt r v && (eqb (bst_at bst n) 1 && block_rule p r v (block p chip n)))) (cond (eqb n none) (frames p) (filled p (block p chip n))) 0) 0)
        ≡ cond (eqb n none) true (differs p bt r v && (eqb (bst_at bst n) 1 && block_rule p r v (block p chip n)))
    go (inl x) d u = rw (x, ne_eqb (frames p) 0 (λ e. omega (arith, z.some, e)))
    go (inr x) (inr d) u = rw (x, d)
    go (inr x) (inl d) (inr u) = rw (x, d, u)
    go (inr x) (inl d) (inl u) = rw (x, d, u) (used_some p r v (block p chip n))

-- where nothing is counted the stamps do not matter; both tests of a block at once, and one after the other
pub none_counted : (p : Params) (last : ℕ) (blk : List ℕ) → ◌≡◌ {A = ℕ} 0 (cond (stamps_to p last blk) 0 0)
none_counted p last blk = go (stamps_to p last blk)
  where
    go : (t : Bool) → ◌≡◌ {A = ℕ} 0 (cond t 0 0)
    go true = refl
    go false = refl

pub both_counted : (p : Params) (r v last : ℕ) (blk : List ℕ)
    → cond (block_rule p r v blk && stamps_to p last blk) (filled p blk) 0 ≡ cond (stamps_to p last blk) (cond (block_rule p r v blk) (filled p blk) 0) 0
both_counted p r v last blk = go (block_rule p r v blk) (stamps_to p last blk)
  where
    go : (a t : Bool) → cond (a && t) (filled p blk) 0 ≡ cond t (cond a (filled p blk) 0) 0
    go true true = refl
    go true false = refl
    go false true = refl
    go false false = refl
