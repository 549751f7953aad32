-- `chip_blocks::right_pages`: every page passed has the spare bytes.
use Rattle.std.proofs.Common.{◌≡◌, true}
use Rattle.lists.specs.Below.{all_below}
use Rattle.lists.specs.Parts.{same_list}
use Rattle.rules.specs.Pages.{spare, spare_bytes}
use Rattle.chip_blocks.proofs.right_pages.Given as goal

abbrev pub invariant-loop-j : goal.invariant-loop-j
invariant-loop-j l = all_below l.j (λ i. same_list (spare l.p l.fr i) (spare_bytes l.of.cluster.0 i l.of.stamp l.of.vblock)) ≡ true
