-- `check_marks::is_last`: no frame after frame f, in its segment, holds the cluster.
-- Assumes nothing.
use mathlib.Core.Path.{refl, ◌∙◌}
use mathlib.Core.Bool.{not}
use Prim.Native.Nat.{◌*◌, ◌+◌, ◌<◌, ◌≤◌}
use native.Mathlib.Omega.{arith}
use Rattle.std.proofs.Common.{rules, tests}
use Rattle.std.proofs.lemmas.Iterator.{serves_from_Range}
use Rattle.loops.proofs.Ranges.{all_run_from}
use Rattle.rules.specs.Pages.{frame, holds}
use Rattle.rules.specs.Parameters.{frames}
use Rattle.rules.proofs.Sizes.{sizes}
use Rattle.check_marks.proofs.Tested.{last_all, place_ends, place_few}
use Rattle.check_marks.proofs.is_last.Goals as goal
use Rattle.check_marks.proofs.is_last.Goals.{Start}

ends : (a : Start) → ((a.args.k + 1) * a.args.p.beta ≤ frames a.args.p) × (frames a.args.p ≤ 256)
ends a = (place_ends _ _ _ _ _ a.requires, (sizes _ a.requires.fine).short)

pub overflow_add-end : goal.overflow_add-end
overflow_add-end c = omega (arith, place_few _ _ _ c.requires.place (omega (arith, c.requires.low, (ends (goal.at.overflow_add-end c).Start).1)))

pub overflow_mul-end : goal.overflow_mul-end
overflow_mul-end c = record { fits = omega (arith, ends (goal.at.overflow_mul-end c).Start) }

pub overflow_add-f : goal.overflow_add-f
overflow_add-f c = omega (arith, ends (goal.at.overflow_add-f c).Start, c.requires.low)

pub all-requires-clause-callable : goal.all-requires-clause-callable
all-requires-clause-callable c =
    serves_from_Range (λ x q k. search (rules, tests))
    (λ x a b.
    let low : x < frames c.args.p = omega (arith, b, ends (goal.at.all-requires-clause-callable c).Start) in
    search (rules, low, c.requires.fine, c.requires.size))

pub returns : goal.returns
returns c =
    all_run_from _ _ (λ g. not (holds c.args.p (frame c.args.p c.args.blk.now g) c.args.c.0)) _ _ refl c.all.ensures.ran (λ x b q k. search (rules, tests))
    ∙ last_all c.args.p c.args.blk.now c.args.k c.args.f c.args.c.0 c.requires _ refl
