-- `chip_blocks::good_frames`: every frame passed fits, and the one that ends the loop does not.
use Rattle.std.proofs.Common.{ap, arith, sym, ◌∙◌}
use Rattle.loops.proofs.Below.{all_end, all_more, all_start}
use Rattle.chip_blocks.specs.First.{fit_frame}
use Rattle.chip_blocks.proofs.good_frames.Goals as goal

pub loop-f-init : goal.loop-f-init
loop-f-init c = all_start _

pub returns-then-not-good_frame : goal.returns-then-not-good_frame
returns-then-not-good_frame c =
    let e = c.good_frame.ensures ∙ ap (fit_frame c.args.p c.args.r c.args.v.0 c.args.last) c.frame_of.ensures.result_value in
    record {
      upper_bound = omega (arith, c.loop-f-test.true, c.frames-n.ensures);
      f_value = c.loop-f.invariant;
      result_value = λ h. sym e ∙ c.if-not-good_frame.true;
    }

pub loop-f-preserved : goal.loop-f-preserved
loop-f-preserved c =
    let e = c.good_frame.ensures ∙ ap (fit_frame c.args.p c.args.r c.args.v.0 c.args.last) c.frame_of.ensures.result_value in
    all_more _ _ c.loop-f.invariant (sym e ∙ c.if-not-good_frame.false)

pub returns : goal.returns
returns c =
    record {
      upper_bound = omega (arith, c.frames-n.ensures);
      f_value = all_end _ _ _ (omega arith) c.loop-f.invariant;
      result_value = λ h. absurd (omega (arith, h, c.frames-n.ensures));
    }
