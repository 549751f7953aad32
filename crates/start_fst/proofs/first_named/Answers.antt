-- `start_fst::first_named`: the first of the virtual blocks that has a block.
-- Assumes nothing.
use mathlib.Core.Path.{refl}
use mathlib.Core.Bool.{not}
use native.Mathlib.Omega.{arith}
use lib.Dec.{eqb}
use Rattle.std.proofs.Common.{rules, tests}
use Rattle.rules.specs.Tables.{bt_at, none, not_found}
use Rattle.start_fst.proofs.Finds.{find_first}
use Rattle.start_fst.proofs.first_named.Goals as goal

pub returns : goal.returns
returns c =
    let a = c.args in
    search (
      rules,
      find_first not_found a.p.gamma (λ v. not (eqb (bt_at a.p a.bt.now a.r v) none)) _ _ _ _ (omega arith) refl c.find.ensures.ran
          (λ x b q k. search (rules, tests)),
    )
