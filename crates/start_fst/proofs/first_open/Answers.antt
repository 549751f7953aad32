-- `start_fst::first_open`: the first of the virtual blocks that is open.
-- Assumes nothing.
use mathlib.Core.Path.{refl}
use native.Mathlib.Omega.{arith}
use Rattle.std.proofs.Common.{rules, tests}
use Rattle.rules.specs.Tables.{not_found}
use Rattle.rules.specs.Start.{found_view, is_open}
use Rattle.rules.proofs.Sizes.{sizes}
use Rattle.start_fst.proofs.Finds.{find_first}
use Rattle.start_fst.proofs.first_open.Goals as goal

pub returns : goal.returns
returns c =
    let a = c.args in
    let few = (sizes _ c.requires.found.fine).gamma_high in
    search (
      rules,
      find_first not_found a.p.gamma (is_open a.p (found_view a.p a.chip.now a.bt.now a.r)) _ _ _ _ (omega (arith, few)) refl c.find.ensures.ran
          (λ x b q k. search (rules, tests)),
    )
