-- `chip_blocks::last_in`: from the last frame of the place downwards; no frame passed holds the cluster, and each programmed one is counted (Looks.antt).
-- Assumes nothing.
use mathlib.Core.Path.{ap, sym, ◌∙◌, ◌≡◌}
use mathlib.Core.Bool.{cond}
use mathlib.Core.List.{List}
use Prim.Native.Nat.{◌*◌, ◌+◌, ◌-◌, ℕ, ◌≤◌, ◌<◌}
use native.Mathlib.Omega.{arith}
use Rattle.rules.specs.Pages.{frame, holds, programmed}
use Rattle.rules.specs.Parameters.{frames}
use Rattle.rules.proofs.Sizes.{sizes}
use Rattle.chip_blocks.proofs.Frames.{seg_in}
use Rattle.chip_blocks.proofs.Looks.{found, looked, looks_few, nothing, start, turn}
use Rattle.chip_blocks.proofs.last_in.Goals as goal
use Rattle.chip_blocks.proofs.last_in.Goals.{Start}

seg : (a : Start) → (a.args.k * a.args.p.beta + a.args.p.beta ≤ frames a.args.p) × (frames a.args.p ≤ 256)
seg a = (seg_in a.args.p a.args.k a.requires.k_lt_d, (sizes _ a.requires.p_value).short)

pub overflow_mul-lo : goal.overflow_mul-lo
overflow_mul-lo c = omega (arith, seg (goal.at.overflow_mul-lo c).Start)

pub overflow_step-f : goal.overflow_step-f
overflow_step-f c = omega (arith, seg (goal.at.overflow_step-f c).Start)

pub loop-f-init : goal.loop-f-init
loop-f-init c = λ z. start _ z _ _ _ c.requires.k_lt_d

pub frame_of-fr-requires-clause-f_bound : goal.frame_of-fr-requires-clause-f_bound
frame_of-fr-requires-clause-f_bound c =
    let s = c.loop-f.invariant (sizes _ c.requires.p_value) in
    omega (arith, seg (goal.at.frame_of-fr-requires-clause-f_bound c).Start, c.loop-f-test.true, s.few)

seen : (a : Start) (n f : ℕ) (fr : List ℕ) → n ≡ cond (programmed a.args.p fr) 1 0 → fr ≡ frame a.args.p a.args.blk.now f
    → n ≡ cond (programmed a.args.p (frame a.args.p a.args.blk.now f)) 1 0
seen a n f fr e is = e ∙ ap (λ (x : List ℕ). cond (programmed a.args.p x) 1 0) is

pub overflow_add-looks : goal.overflow_add-looks
overflow_add-looks c =
    let z = sizes _ c.requires.p_value in
    let s = c.loop-f.invariant z in
    omega (arith, z.beta_high, looks_few _ z _ _ _ _ _ s c.loop-f-test.true _ (seen (goal.at.overflow_add-looks c).Start _ _ _ c.looked-looks.ensures c.frame_of-fr.ensures.result_value))

pub returns-then-holds : goal.returns-then-holds
returns-then-holds c =
    let z = sizes _ c.requires.p_value in
    let s = c.loop-f.invariant z in
    let t = c.loop-f-test.true in
    let n = seen (goal.at.returns-then-holds c).Start _ _ _ c.looked-looks.ensures c.frame_of-fr.ensures.result_value in
    let h = sym (c.holds.ensures ∙ ap (λ (x : List ℕ). holds c.args.p x c.args.c.0) c.frame_of-fr.ensures.result_value) ∙ c.if-holds.true in
    let low : c.loop-f.f - 1 < frames c.args.p = omega (arith, seg (goal.at.returns-then-holds c).Start, t, s.few) in
    record {
      frame_value = (found _ z _ _ _ _ _ s t _ n h, low);
      looks_le_beta = looks_few _ z _ _ _ _ _ s t _ n;
      looks_value = looked _ z _ _ _ _ _ s t _ n h low;
    }

pub loop-f-preserved : goal.loop-f-preserved
loop-f-preserved c =
    λ z.
    let s = c.loop-f.invariant z in
    let t = c.loop-f-test.true in
    let n = seen (goal.at.loop-f-preserved c).Start _ _ _ c.looked-looks.ensures c.frame_of-fr.ensures.result_value in
    turn _ z _ _ _ _ _ s t _ n (sym (c.holds.ensures ∙ ap (λ (x : List ℕ). holds c.args.p x c.args.c.0) c.frame_of-fr.ensures.result_value) ∙ c.if-holds.false)

pub returns : goal.returns
returns c =
    let z = sizes _ c.requires.p_value in
    let s = c.loop-f.invariant z in
    record {
      frame_value = sym (nothing _ z _ _ _ _ _ s (omega (arith, c.loop-f-test.false)));
      looks_le_beta = omega (arith, s.few, s.low);
      looks_value = tt;
    }
