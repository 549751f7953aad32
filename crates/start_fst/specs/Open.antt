-- The virtual block whose last segment FST names, and the lowest of a kind as an option.
-- Assumes nothing.
use Rattle.std.specs.Prelude.{◌≡◌, cond, MatchOption, Option, ℕ, ◌<◌, eqb}
use Rattle.lists.specs.Below.{first_below}
use Rattle.rules.specs.declared.Params.{Params}
use Rattle.rules.specs.declared.VBlock.{VBlock}
use Rattle.rules.specs.Tables.{not_found}
use Rattle.rules.specs.Regions.{View, assigned}
use Rattle.rules.specs.Start.{is_open}

unfoldable pub open_vblock : Params → View → ℕ
open_vblock p vw =
    let o = first_below not_found p.gamma (is_open p vw) in
    cond (eqb o not_found) (first_below not_found p.gamma (assigned vw)) o

-- what a search below γ finds, as an option: none where it finds nothing
abbrev pub First : Option VBlock → ℕ → ℕ → Type 0
First x γ o = MatchOption x (o ≡ not_found) (λ v. (v.0 ≡ o) × (v.0 < γ))
