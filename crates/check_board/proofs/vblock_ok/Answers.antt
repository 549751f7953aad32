-- `check_board::vblock_ok`: its block's frames, and then its marks, which may be looked at where the block is right.
-- Assumes nothing.
use mathlib.Core.Path.{sym, ◌∙◌}
use borrow.Author.Tests.{not-false, not-true}
use Rattle.rules.proofs.Sizes.{sizes}
use Rattle.check_board.specs.Order.{block_held_to}
use Rattle.check_board.proofs.Blocks.{check_asked}
use Rattle.check_board.proofs.Open.{to_block, to_le}
use Rattle.check_board.proofs.vblock_ok.Goals as goal

pub vblock_frames-k-requires : goal.vblock_frames-k-requires
vblock_frames-k-requires c =
    record {
      lent = c.requires.blocks_asked.lent;
      bst_len = c.requires.blocks_asked.bst_length;
      r_lt_mu = c.requires.r_lt_mu;
      v_lt_gamma = c.requires.v_lt_gamma;
    }

pub frames_ok-requires : goal.frames_ok-requires
frames_ok-requires c =
    record {
      p_value = c.requires.blocks_asked.lent.fine;
      o_value = c.requires.o_value;
      v_lt_gamma = c.requires.v_lt_gamma;
      k_bound = rw c.vblock_frames-k.ensures (to_le _ (sizes _ c.requires.blocks_asked.lent.fine) _ _ _ _ _ _);
    }

pub returns-then-not-frames_ok : goal.returns-then-not-frames_ok
unfolding block_held_to
returns-then-not-frames_ok c = rw (← c.vblock_frames-k.ensures, ← c.frames_ok.ensures, not-true c.frames_ok.result c.if-not-frames_ok.true-raw)

pub marks_ok-requires : goal.marks_ok-requires
marks_ok-requires c =
    let ok = to_block _ (sizes _ c.requires.blocks_asked.lent.fine) _ _ _ _ _ c.args.sg.0 _
    (rw c.vblock_frames-k.ensures at (sym c.frames_ok.ensures ∙ not-false _ c.if-not-frames_ok.false-raw)) in
    check_asked _ _ _ _ _ _ ok _ _ c.requires.blocks_asked c.requires.r_lt_mu c.requires.v_lt_gamma

pub returns : goal.returns
unfolding block_held_to
returns c = rw (← c.vblock_frames-k.ensures, ← c.frames_ok.ensures, not-false c.frames_ok.result c.if-not-frames_ok.false-raw) c.marks_ok.ensures
