-- `demo_lines::field`: the parts that the tabs cut are the fields, and one past the last is empty.
use Rattle.std.proofs.Common.{refl, rules, tests}
use Rattle.std.proofs.lemmas.Iterator.Consumers.{nth_from_yields_List}
use Rattle.std.proofs.lemmas.Iterator.Splits.{YieldsList-from_slice_split}
use lib.Dec.{eqb}
use Rattle.demo_lines.proofs.Fields.{field_found}
use Rattle.demo_lines.proofs.field.Goals as goal

pub returns : goal.returns
returns c =
    let s = c.split.ensures in
    let l = c.args.s.now in
    rw c.unwrap_or.ensures
    (field_found l c.args.n _ _ refl
    (nth_from_yields_List _ _ _ c.nth.ensures.ran (YieldsList-from_slice_split _ (λ b. eqb b 9) l s.rest s.done s.closure (λ x b q k. search (rules, tests)))))
