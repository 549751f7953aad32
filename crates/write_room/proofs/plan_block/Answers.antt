-- `write_room::plan_block`: each arm is given that the plan is its constructor, and finds that plan's block.
-- Assumes nothing.
use mathlib.Core.Path.{◌≡◌}
use Prim.Native.Nat.{ℕ, ◌≤◌, ◌<◌}
use native.Mathlib.Omega.{arith}
use Rattle.std.specs.Prelude.{MatchOption, None, Option, Some}
use Rattle.rules.specs.declared.PBlock.{PBlock}
use Rattle.rules.specs.Tables.{none}
use Rattle.rules.specs.Write.{plan_block, plan_vblock}
use Rattle.rules.proofs.Sizes.{sizes}
use Rattle.write_room.proofs.plan_block.Goals as goal

-- a block of the chip has a number below that which stands for none
low : (o : Option PBlock) (x m : ℕ) → m ≤ none → MatchOption o (x ≡ none) (λ n. (n.0 ≡ x) × (n.0 < m)) → MatchOption o (x ≡ none) (λ n. (n.0 ≡ x) × (n.0 < none))
low None x m h e = e
low (Some n) x m h e = (e.0, omega (arith, e.1))

pub block_named-requires : goal.block_named-requires
unfolding plan_vblock
block_named-requires c =
    let a = rw c.in-Continues.is at c.requires in
    record {
      bt_len = a.bt_length;
      r_lt_mu = a.region;
      v_lt_gamma = a.low;
    }

pub free_block-requires : goal.free_block-requires
free_block-requires c = c.requires.pool

pub free_block-requires-in-Reclaims : goal.free_block-requires-in-Reclaims
free_block-requires-in-Reclaims c = c.requires.pool

pub returns-in-Continues : goal.returns-in-Continues
unfolding plan_block
returns-in-Continues c = λ chip ct fst marks stamps. rw c.in-Continues.is c.block_named.ensures

pub returns-in-Opens : goal.returns-in-Opens
unfolding plan_block
returns-in-Opens c = λ chip ct fst marks stamps. rw c.in-Opens.is (low _ _ _ (sizes _ c.requires.pool.fine).blocks c.free_block.ensures)

pub returns-in-Reclaims : goal.returns-in-Reclaims
unfolding plan_block
returns-in-Reclaims c = λ chip ct fst marks stamps. rw c.in-Reclaims.is (low _ _ _ (sizes _ c.requires.pool.fine).blocks c.free_block-in-Reclaims.ensures)
