-- `chip_pages::program_copy`: the bytes put are as many as the page has.
-- Assumes nothing.
use mathlib.Core.Path.{ap, ◌∙◌}
use Prim.Native.Nat.{ℕ}
use native.Mathlib.Omega.{arith}
use lib.ListN.{length, length-replicate}
use Rattle.chip_pages.proofs.Places.{put_whole}
use Rattle.chip_pages.proofs.program_copy.Goals as goal

pub put-requires : goal.put-requires
put-requires c = omega (arith, ap length c.requires ∙ length-replicate {A = ℕ} (length c.args.bytes.now) 255)

pub returns : goal.returns
returns c = c.put.ensures ∙ put_whole _ _ (ap length c.requires ∙ length-replicate {A = ℕ} (length c.args.bytes.now) 255)
