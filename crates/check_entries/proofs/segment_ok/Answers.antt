-- `check_entries::segment_ok`: test by test; a frame that was found is one of the block's frames.
-- Assumes nothing.
use mathlib.Core.Path.{◌≡◌, sym}
use Prim.Native.Nat.{◌<◌, ◌≤◌, ℕ}
use native.Mathlib.Omega.{arith}
use lib.Dec.{ltb}
use borrow.Author.Tests.{le-ltb, lt-ltb}
use Rattle.std.specs.Prelude.{MatchOption, None, Option, Some, is_some}
use Rattle.rules.specs.Tables.{none}
use Rattle.rules.proofs.Sizes.{sizes}
use Rattle.check_rules.specs.Check.{segment_ok}
use Rattle.check_blocks.proofs.Blocks.{named_low, not_none, vblock_low_lem}
use Rattle.check_entries.proofs.segment_ok.Goals as goal

pub overflow_mul-p : goal.overflow_mul-p
overflow_mul-p c = let z = sizes _ c.requires.lent.fine in omega (arith, z.few)

pub returns-then-sg-p : goal.returns-then-sg-p
unfolding segment_ok
returns-then-sg-p c = rw (le-ltb _ _ c.if-sg-p.true)

pub vblock_of-v-requires-clause-sg_bound : goal.vblock_of-v-requires-clause-sg_bound
vblock_of-v-requires-clause-sg_bound c = let z = sizes _ c.requires.lent.fine in omega (arith, c.if-sg-p.false, z.few)

pub returns-in_default : goal.returns-in_default
unfolding segment_ok
returns-in_default c = rw (lt-ltb _ _ c.if-sg-p.false, ← c.vblock_of-v.ensures, c.in_default.ensures)

pub place_of-k-requires-clause-sg_bound : goal.place_of-k-requires-clause-sg_bound
place_of-k-requires-clause-sg_bound c = let z = sizes _ c.requires.lent.fine in omega (arith, c.if-sg-p.false, z.few)

pub block_of-requires-clause-n_lt_n : goal.block_of-requires-clause-n_lt_n
block_of-requires-clause-n_lt_n c =
    named_low c.args.p c.args.chip.now c.args.bt.now c.requires.lent c.args.r _ c.in-Some.n.0 c.requires.r_lt_mu
    (rw c.vblock_of-v.ensures (vblock_low_lem _ _ _ (sizes _ c.requires.lent.fine).segments c.if-sg-p.false)) c.in-Some.ensures.0 c.in-Some.ensures.1

found : (o : Option ℕ) (x m : ℕ) → m ≤ none → MatchOption o (x ≡ none) (λ f. (f ≡ x) × (f < m)) → is_some o ≡ ltb x m
found None x m h e = sym (le-ltb x m (omega arith))
found (Some f) x m h e = sym (lt-ltb x m (omega (arith, e.0, e.1)))

pub returns : goal.returns
unfolding segment_ok
returns c =
    rw (
      lt-ltb _ _ c.if-sg-p.false,
      ← c.vblock_of-v.ensures,
      ← c.in-Some.ensures.0,
      not_none c.in-Some.n.0 c.in-Some.ensures.1,
      ← c.block_of.ensures.result_value,
      ← c.place_of-k.ensures,
      c.is_some.ensures,
    )
    (found c.last_in.result.frame _ _ (let z = sizes _ c.requires.lent.fine in omega (arith, z.short)) c.last_in.ensures.frame_value)
