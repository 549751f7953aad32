-- `check_marks::mark_ok`: no frame from F on is marked, and one below is if it is valid.
-- Assumes nothing.
use mathlib.Core.Path.{◌≡◌}
use Prim.Native.Nat.{ℕ, ◌%◌}
use native.Mathlib.Omega.{arith}
use Rattle.marks.proofs.FrameMarks.{marked_valid, unmarked}
use Rattle.check_marks.proofs.mark_ok.Goals as goal

odd : (x : ℕ) → (x % 2 ≡ 0 → ⊥) → x % 2 ≡ 1
odd x ne = omega (arith, ne)

pub returns-then-word-eq0 : goal.returns-then-word-eq0
returns-then-word-eq0 c = λ r vw s. rw c.if-word-eq0.true

pub returns-then-f-frames : goal.returns-then-f-frames
returns-then-f-frames c = λ r vw s. rw (odd c.args.word c.if-word-eq0.false, unmarked c.args.p vw c.args.v.0 c.args.f (omega (arith, c.if-f-frames.true, c.frames.ensures)))

pub is_valid-requires : goal.is_valid-requires
is_valid-requires c =
    record {
      one_frame = record { block = c.requires.one_block; low = omega (arith, c.if-f-frames.false, c.frames.ensures) };
      k_value = c.requires.k_value;
    }

pub returns : goal.returns
returns c =
    λ r vw s. rw (
      odd c.args.word c.if-word-eq0.false,
      marked_valid c.args.p vw c.args.v.0 c.args.f
          (omega (arith, c.if-f-frames.false, c.frames.ensures)),
    ) (c.is_valid.ensures r vw s)
