-- A block that is orderly by itself says its region and its virtual block back, by the first page of its first frame; it is not bad and not erased, so it is in use.
-- Assumes nothing.
use mathlib.Core.Path.{◌≡◌}
use mathlib.Core.Logic.{◌⊎◌, inl, inr}
use Prim.Native.Nat.{ℕ, ◌<◌}
use mathlib.Core.Bool.{true, false}
use mathlib.Core.List.{List}
use lib.ListN.{length}
use Rattle.lists.specs.Parts.{all_are}
use Rattle.lists.proofs.Joins.{all_are_part}
use Rattle.lists.proofs.Tests.{never, so}
use Rattle.rules.specs.declared.Params.{Params}
use Rattle.rules.specs.Parameters.{block_bytes, frame_bytes}
use Rattle.rules.specs.Pages.{block, bytes32, filled, frame, programmed, spare_bytes, vblock_in}
use Rattle.rules.specs.Orderly.{block_rule, used_pages}
use Rattle.rules.specs.Start.{in_use, region_named, vblock_named}
use Rattle.rules.proofs.BadBytes.{up_to_good}
use Rattle.rules.proofs.Frames.{erased_not}
use Rattle.rules.proofs.RegionFacts.{GoodFrame, UpTo, block_in, good_used}
use Rattle.rules.proofs.Sizes.{Sizes}

module _ (p : Params) (z : Sizes p) (r v : ℕ) (blk : List ℕ) (rule : block_rule p r v blk ≡ true) where
  upto : (0 < filled p blk) × UpTo p r v (filled p blk) blk
  upto = block_in p r v blk rule

  first : GoodFrame p r v (frame p blk 0)
  first = upto.1.front 0 upto.0 z.some

  first_used : 0 < used_pages p (frame p blk 0)
  first_used = good_used p r v (frame p blk 0) first 0 z.sectors (unfold programmed in first.on)

  pub names_region : region_named p blk ≡ r
  unfolding region_named
  names_region = first.mine

  pub names_vblock : vblock_named p blk ≡ v
  unfolding vblock_named vblock_in spare_bytes bytes32
  names_vblock = rw (first.spares 0 first_used z.sectors)

  not_erased : all_are 255 blk ≡ false
  not_erased = go (so (all_are 255 blk))
    where
      go : (all_are 255 blk ≡ true) ⊎ (all_are 255 blk ≡ false) → all_are 255 blk ≡ false
      go (inl e) = absurd (never first.on (erased_not p (frame p blk 0) (unfold frame in all_are_part 255 (frame_bytes p) 0 blk e)))
      go (inr e) = e

pub used_in_use : (p : Params) (z : Sizes p) (r v : ℕ) (chip : List ℕ) (n : ℕ) → length (block p chip n) ≡ block_bytes p → block_rule p r v (block p chip n) ≡ true
    → in_use p chip n ≡ true
unfolding in_use
used_in_use p z r v chip n size rule =
    rw (up_to_good p chip n z size r v (filled p (block p chip n)) (upto p z r v (block p chip n) rule).1, not_erased p z r v (block p chip n) rule)
