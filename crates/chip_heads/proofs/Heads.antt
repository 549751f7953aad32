-- What is read in the first page and in the last frame makes a head.
-- Assumes nothing.
use mathlib.Core.Path.{◌≡◌, sym, ◌∙◌}
use mathlib.Core.Bool.{Bool, true}
use mathlib.Core.List.{List}
use Prim.Native.Nat.{ℕ, ◌-◌}
use Rattle.rules.specs.declared.Params.{Params}
use Rattle.rules.specs.Numbers.{region_of}
use Rattle.rules.specs.Parameters.{frames}
use Rattle.rules.specs.Pages.{block, frame, held, programmed, vblock_in}
use Rattle.rules.specs.Start.{region_named, sound, vblock_named}
use Rattle.rules.proofs.Sizes.{Sizes}
use Rattle.chip_heads.specs.declared.Head.{Head}
use Rattle.chip_heads.specs.Heads.{Names}
use Rattle.chip_heads.proofs.Sound.{full_is_lem, region_low_lem, region_read, vblock_low_lem, vblock_read}

-- over the first frame fr of a sound block, and the cluster c that it holds
module _ (p : Params) (z : Sizes p) (blk : List ℕ) (fine : sound p blk ≡ true) (fr : List ℕ) (fr-is : fr ≡ frame p blk 0) (c : ℕ) (c_is : c ≡ held p fr) where
  pub names_are : (h : Head) → h.region ≡ region_of p c → h.vblock.0 ≡ vblock_in p fr → h.full ≡ programmed p (frame p blk (frames p - 1)) → Names p blk h
  names_are h r v f =
      let er : h.region ≡ region_named p blk = region_read p blk fr fr-is c h.region c_is r in
      let ev : h.vblock.0 ≡ vblock_named p blk = vblock_read p blk fr fr-is h.vblock.0 v in
      record {
        region_is = er;
        region_low = rw er (region_low_lem p z blk fine);
        vblock_is = ev;
        vblock_low = rw ev (vblock_low_lem p z blk fine);
        full_is = f ∙ sym (full_is_lem p z blk fine);
      }

-- whether the first frame of block n is programmed, as it is read
pub first_read : (p : Params) (chip blk fr : List ℕ) (n : ℕ) (on : Bool) → blk ≡ block p chip n → fr ≡ frame p blk 0 → on ≡ programmed p fr
    → on ≡ programmed p (frame p (block p chip n) 0)
first_read p chip blk fr n on a b e = rw (← a, ← b) e
