-- `write_plan::plan_of`: test by test, the rules' plan.
-- Assumes nothing.
use mathlib.Core.Path.{refl}
use native.Mathlib.Omega.{arith}
use Rattle.rules.proofs.Sizes.{sizes}
use Rattle.write_plan.proofs.Plans.{continues_is, opens_is, reclaims_is, victim_is}
use Rattle.write_plan.proofs.plan_of.Goals as goal

pub next_frame-f-requires : goal.next_frame-f-requires
next_frame-f-requires c = c.requires.plan_asked

pub frames-requires : goal.frames-requires
frames-requires c = c.requires.plan_asked.fine

pub vblock_of-requires : goal.vblock_of-requires
vblock_of-requires c =
    record {
      p_value = c.requires.plan_asked.fine;
      sg_bound = c.fst_at.ensures.result_bound;
    }

pub returns-then-f-frames : goal.returns-then-f-frames
returns-then-f-frames c =
    λ ct e. continues_is _ _ _ _ _ c.requires.plan_asked ct _ _ _ _ c.next_frame-f.ensures c.frames.ensures c.if-f-frames.true
    c.fst_at.ensures.result_value c.vblock_of.ensures

pub lowest_unassigned-requires : goal.lowest_unassigned-requires
lowest_unassigned-requires c =
    record {
      p_value = c.requires.plan_asked.fine;
      bt_len = c.requires.plan_asked.bt_length;
      r_lt_mu = c.requires.plan_asked.low;
    }

pub returns-in-Some : goal.returns-in-Some
returns-in-Some c =
    λ ct e. opens_is _ _ _ _ _ c.requires.plan_asked ct _ _ c.next_frame-f.ensures c.frames.ensures c.if-f-frames.false _
    c.in-Some.ensures.0 (λ n. omega (arith, c.in-Some.ensures.1, (sizes _ c.requires.plan_asked.fine).gamma_high))

pub victim-requires : goal.victim-requires
victim-requires c = record { fine = c.requires.plan_asked.fine; long = c.requires.marks_len; region = c.requires.plan_asked.low }

pub returns : goal.returns
returns c =
    λ ct e. reclaims_is _ _ _ _ _ c.requires.plan_asked ct _ _ c.next_frame-f.ensures c.frames.ensures c.if-f-frames.false _
    refl c.in_default.ensures _
    (victim_is _ _ _ _ _ c.requires.plan_asked ct _ e _ c.victim.ensures)
