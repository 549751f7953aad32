-- `start_marks::mark_block`: after f turns the marks of the first f frames.
-- Assumes nothing.
use mathlib.Core.Path.{◌∙◌}
use native.Mathlib.Omega.{arith}
use Rattle.rules.proofs.Sizes.{sizes}
use Rattle.start_marks.proofs.mark_block.Goals as goal

pub mark_frame-requires-clause-mark_asked : goal.mark_frame-requires-clause-mark_asked
mark_frame-requires-clause-mark_asked c =
    let asked = c.requires.words_asked in
    record {
      words = record { fine = asked.fine; long = c.loop-f.invariant.0 ∙ asked.long; region = asked.region; vblock = asked.vblock };
      frame = omega (arith, c.frames-f-end.ensures, c.loop-f-test.true, (sizes _ asked.fine).short);
    }
