-- `check_pairs::count_open`: the count of the numbers that pass.
-- Assumes nothing.
use Rattle.std.proofs.Common.{rules, tests, get_or}
use Rattle.loops.proofs.Ranges.{count_run}
use Rattle.rules.specs.Tables.{none}
use Rattle.check_pairs.specs.Rows.{open_of}
use Rattle.check_pairs.proofs.count_open.Goals as goal

pub returns : goal.returns
returns c =
    count_run c.args.p.gamma (λ v. open_of (get_or c.args.full.now v none) (get_or c.args.part.now v none)) _ _ (cc) c.filter.ensures.closure c.count.ensures.ran
    (λ x b q k. search (rules, tests))
