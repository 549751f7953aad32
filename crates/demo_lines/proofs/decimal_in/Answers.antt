-- `demo_lines::decimal_in`: each way out is a way in which a field is no number, and at the end all its bytes are digits that say v.
use Rattle.std.proofs.Common.{arith, refl, sym, ◌∙◌, ◌≤◌, length, rules}
use Rattle.demo_lines.specs.Grammar.{is_digit, value_of}
use Rattle.demo_lines.proofs.Numerals.{accepted, bound_turn, digits_end, digits_stop, digits_turn, no_digits, not_of_length, too_large, value_end, value_turn}
use Rattle.demo_lines.proofs.decimal_in.Goals as goal

pub returns-then-not-contains : goal.returns-then-not-contains
returns-then-not-contains c =
    not_of_length _ _ (rw (c.new.ensures.start, c.new.ensures.end, c.new.ensures.exhausted) at c.if-not-contains.ensures.value)

pub loop-b-init : goal.loop-b-init
unfolding value_of
loop-b-init c = (refl, refl, omega arith)

pub returns-then-not-is_ascii_digit : goal.returns-then-not-is_ascii_digit
unfolding is_digit
returns-then-not-is_ascii_digit c =
    no_digits _ _ (c.loop-b.invariant.0 ∙ digits_stop _ c.loop-b.b-index c.loop-b-test.true (sym c.is_ascii_digit.ensures.value ∙ c.if-not-is_ascii_digit.true))

pub loop-b-preserved : goal.loop-b-preserved
unfolding is_digit
loop-b-preserved c =
    let w = c.loop-b in
    let d = sym c.is_ascii_digit.ensures.value ∙ c.if-not-is_ascii_digit.false in (
      w.invariant.0 ∙ digits_turn _ w.b-index c.loop-b-test.true d,
      rw c.from.ensures (w.invariant.1 ∙ value_turn _ w.b-index w.v c.loop-b-test.true),
      rw c.from.ensures (bound_turn w.v _ w.b-index w.invariant.2 (omega (arith, c.if-not-is_ascii_digit.ensures.cases))),
    )

pub returns-then-v-from : goal.returns-then-v-from
returns-then-v-from c =
    let w = c.loop-b in
    let e : length c.args.f.now ≤ w.b-index = omega arith in
    let v = w.invariant.1 ∙ value_end _ w.b-index w.v e in
    (accepted _ _ (search rules) (search rules) (w.invariant.0 ∙ digits_end _ w.b-index e) (rw v (omega arith)), sym v, omega arith)

pub returns-else-v-from : goal.returns-else-v-from
returns-else-v-from c =
    let w = c.loop-b in
    too_large _ _ (rw (w.invariant.1 ∙ value_end _ w.b-index w.v (omega arith)) (omega arith))
