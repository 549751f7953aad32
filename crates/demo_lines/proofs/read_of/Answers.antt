-- `demo_lines::read_of`: each way out is a test that fails, and at the end all pass.
use Rattle.std.proofs.Common.{eq-eqb, eqb-true, sym, ◌∙◌}
use Rattle.lists.proofs.Tests.{never}
use Rattle.demo_lines.proofs.Verdict.{a_read, no_read}
use Rattle.demo_lines.proofs.read_of.Goals as goal
use Rattle.demo_lines.proofs.read_of.Goals.{then-count-ne3-via-then-count-ne3, then-count-ne3-via-else-count-ne3+then-not-is}

pub returns-then-count-ne3 : goal.returns-then-count-ne3
returns-then-count-ne3 c =
    elim c.then-count-ne3.branch [
      | then-count-ne3-via-then-count-ne3 w ↦ no_read _ (λ t. w.if-count-ne3.true (c.count.ensures ∙ eqb-true _ _ t.0))
      | then-count-ne3-via-else-count-ne3+then-not-is w ↦ no_read _ (λ t. never t.1.0 (rw w.field.ensures at (sym w.if-not-is.ensures)))
    ]

pub returns-in_err-lba : goal.returns-in_err-lba
returns-in_err-lba c = rw c.from_residual.ensures (no_read _ (λ t. never t.1.1.0 (rw c.field-2.ensures at c.in_err-lba.ensures)))

pub returns-in_err-sectors : goal.returns-in_err-sectors
returns-in_err-sectors c = rw c.from_residual-in_err-sectors.ensures (no_read _ (λ t. never t.1.1.1.0 (rw c.field-3.ensures at c.in_err-sectors.ensures)))

pub returns : goal.returns
returns c =
    let a = rw c.field-2.ensures at c.in_ok-lba.ensures in
    let b = rw c.field-3.ensures at c.in_ok-sectors.ensures in
    let letter = rw c.field.ensures at (sym c.if-not-is.ensures) in
    (a_read _ (eq-eqb _ _ (sym c.count.ensures ∙ c.if-count-ne3.false), (letter, (a.0, (b.0, tt)))), rw (a.1, b.1))
