-- `chip_sizes::lengths_fit`: the chip is N blocks long, which is N·P·(s+16) bytes.
-- Assumes nothing.
use mathlib.Core.Bool.{and_assoc, and-true}
use native.Mathlib.Omega.{arith}
use Rattle.rules.proofs.Sizes.{sizes}
use Rattle.rules.proofs.TableFacts.{chip_size}
use Rattle.lists.specs.Below.{all_true}
use Rattle.rules.specs.Replies.{lengths_fit}
use Rattle.chip_sizes.proofs.lengths_fit.Goals as goal

pub overflow_mul-all : goal.overflow_mul-all
overflow_mul-all c = let z = sizes _ c.requires in rw c.block_bytes-w.ensures (omega (arith, z.chip_high))

pub overflow_mul-named : goal.overflow_mul-named
overflow_mul-named c = let z = sizes _ c.requires in omega (arith, z.table_high)

pub overflow_mul-result : goal.overflow_mul-result
overflow_mul-result c = let z = sizes _ c.requires in omega (arith, z.table_high)

pub returns : goal.returns
unfolding lengths_fit all_true
returns c = λ b h t n l k w m s. rw (h, t, n, l, k, w, m, s, c.block_bytes-w.ensures, chip_size c.args.p) (simp (and_assoc, and-true))
