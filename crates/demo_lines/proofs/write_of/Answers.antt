-- `demo_lines::write_of`: each way out is a test that fails, and at the end all pass.
use Rattle.std.proofs.Common.{eq-eqb, eqb-true, sym, ◌∙◌}
use Rattle.lists.proofs.Tests.{never}
use Rattle.demo_lines.proofs.Verdict.{a_write, no_write}
use Rattle.demo_lines.proofs.write_of.Goals as goal
use Rattle.demo_lines.proofs.write_of.Goals.{then-count-ne4-via-then-count-ne4, then-count-ne4-via-else-count-ne4+then-not-is}

pub returns-then-count-ne4 : goal.returns-then-count-ne4
returns-then-count-ne4 c =
    elim c.then-count-ne4.branch [
      | then-count-ne4-via-then-count-ne4 w ↦ no_write _ (λ t. w.if-count-ne4.true (c.count.ensures ∙ eqb-true _ _ t.0))
      | then-count-ne4-via-else-count-ne4+then-not-is w ↦ no_write _ (λ t. never t.1.0 (rw w.field.ensures at (sym w.if-not-is.ensures)))
    ]

pub returns-in_err-lba : goal.returns-in_err-lba
returns-in_err-lba c = rw c.from_residual.ensures (no_write _ (λ t. never t.1.1.0 (rw c.field-2.ensures at c.in_err-lba.ensures)))

pub returns-in_err-sectors : goal.returns-in_err-sectors
returns-in_err-sectors c = rw c.from_residual-in_err-sectors.ensures (no_write _ (λ t. never t.1.1.1.0 (rw c.field-3.ensures at c.in_err-sectors.ensures)))

pub returns-in_err-value : goal.returns-in_err-value
returns-in_err-value c = rw c.from_residual-in_err-value.ensures (no_write _ (λ t. never t.1.1.1.1.0 (rw c.field-4.ensures at c.in_err-value.ensures)))

pub returns : goal.returns
returns c =
    let a = rw c.field-2.ensures at c.in_ok-lba.ensures in
    let b = rw c.field-3.ensures at c.in_ok-sectors.ensures in
    let v = rw c.field-4.ensures at c.in_ok-value.ensures in
    let letter = rw c.field.ensures at (sym c.if-not-is.ensures) in
    (a_write _ (eq-eqb _ _ (sym c.count.ensures ∙ c.if-count-ne4.false), (letter, (a.0, (b.0, (v.0, tt))))), rw (a.1, b.1, v.1))
