-- `demo_lines::count`: the parts that the tabs cut are the fields.
use Rattle.std.proofs.Common.{ap, ◌∙◌, length, rules, tests}
use Rattle.std.proofs.lemmas.Iterator.Consumers.{count_from_yields_List}
use Rattle.std.proofs.lemmas.Iterator.Splits.{YieldsList-from_slice_split}
use Rattle.demo_lines.proofs.Fields.{fields_split}
use Rattle.demo_lines.proofs.count.Goals as goal

pub returns : goal.returns
returns c =
    let s = c.split.ensures in
    count_from_yields_List _ _ c.count.ensures.ran (YieldsList-from_slice_split _ _ c.args.s.now s.rest s.done s.closure (λ x b q k. search (rules, tests)))
    ∙ ap length (fields_split c.args.s.now)
