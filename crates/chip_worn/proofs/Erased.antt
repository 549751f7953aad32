-- Where the mark of a block stands on the chip, and what an erase with its mark comes to, with and without one.
-- Assumes nothing.
use mathlib.Core.Path.{◌≡◌, refl, sym, ap, ◌∙◌}
use mathlib.Core.Bool.{Bool, true, false}
use mathlib.Core.List.{List, []}
use Prim.Native.Nat.{ℕ, ◌+◌, ◌*◌, ◌≤◌, ◌<◌}
use native.Mathlib.Omega.{arith}
use lib.ListN.{length, set}
use Rattle.lists.proofs.Joins.{all_are_part}
use Rattle.lists.proofs.Parts.{next}
use Rattle.rules.specs.declared.Params.{Params}
use Rattle.rules.specs.Parameters.{allowed, block_bytes, frame_bytes, frames, page_bytes, pages}
use Rattle.rules.specs.Pages.{block, erased, page}
use Rattle.rules.specs.Traces.{erase, erase_ops, mark, on_chip, replay_chip, worn}
use Rattle.rules.specs.Machine.{erased_block}
use Rattle.rules.proofs.MarkedBlocks.{mark_exactly}
use Rattle.rules.proofs.Replays.{Ran, erase_ran, fresh_all}
use Rattle.rules.proofs.Sizes.{Sizes, sizes, some_page}
use Rattle.rules.proofs.TableFacts.{chip_size}

-- the bytes before block n, counted by pages
before : (p : Params) (n : ℕ) → n * (p.alpha * (p.beta * p.d)) * (p.s + 16) ≡ n * block_bytes p
unfolding block_bytes frame_bytes frames page_bytes
before p n = omega arith

-- spare byte 5 of the first page lies in the block
in_block : (p : Params) → Sizes p → p.s + 5 < block_bytes p
unfolding block_bytes frame_bytes pages page_bytes
in_block p z = omega (arith, next (p.s + 16) 0 (pages p) (some_page p z))

module _ (p : Params) (fine : allowed p ≡ true) (chip : List ℕ) (n : ℕ) (long : length chip ≡ p.N * block_bytes p) (low : n < p.N) where
  z : Sizes p
  z = sizes p fine

  fits : n * block_bytes p + block_bytes p ≤ length chip
  fits = rw long (next (block_bytes p) n p.N low)

  -- over the width that the code has
  module _ (w : ℕ) (w-is : w ≡ block_bytes p) where
    pub block_low_lem : n * w ≤ 8858234880
    block_low_lem = rw w-is (omega (arith, fits, long, z.chip_high))

    pub byte_low : n * w + (p.s + 5) < length chip
    byte_low = rw w-is (omega (arith, fits, in_block p z))

    pub mark_is : erased (page p (block p chip n) 0) ≡ true → set chip (n * w + (p.s + 5)) 0 ≡ on_chip p chip (mark n)
    mark_is e =
        let i : n * w + (p.s + 5) ≡ n * (p.alpha * (p.beta * p.d)) * (p.s + 16) + p.s + 5 = rw w-is (omega (arith, before p n)) in
        rw i (sym (mark_exactly p chip n fine (long ∙ sym (chip_size p)) low e))

  -- once it is erased
  module _ (chip₁ : List ℕ) (e : chip₁ ≡ on_chip p chip (erase n)) where
    ran : Ran p chip chip₁ n (erased_block p)
    ran = rw e (unfold replay_chip in erase_ran p chip n fits)

    pub cleared_long : length chip₁ ≡ p.N * block_bytes p
    cleared_long = ran.size ∙ long

    pub cleared_first : erased (page p (block p chip₁ n) 0) ≡ true
    unfolding page
    cleared_first = rw ran.here (all_are_part 255 (page_bytes p) 0 _ (fresh_all p))

    module _ (wear : List ℕ) where
      pub left_marked : worn p wear n ≡ true → (chip₂ : List ℕ) → chip₂ ≡ on_chip p chip₁ (mark n) → chip₂ ≡ replay_chip p chip (erase_ops p wear n)
      left_marked t chip₂ x = x ∙ rw e (unfold erase_ops in rw t (unfold replay_chip in refl))

      pub left_blank : worn p wear n ≡ false → chip₁ ≡ replay_chip p chip (erase_ops p wear n)
      left_blank t = e ∙ (unfold erase_ops in rw t (unfold replay_chip in refl))
