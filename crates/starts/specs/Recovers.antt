-- T-07, after a cut: what a start on a board whose tables are gone gives back. Of the lent board b₀ only the chip counts; b is the board that the calls before had left.
-- Assumes nothing.
use Rattle.std.specs.Prelude.{ℕ, ◌≤◌, ◌<◌, ◌≡◌}
use Rattle.rules.specs.declared.Params.{Params}
use Rattle.rules.specs.Tables.{Board}
use Rattle.rules.specs.Regions.{sector}
use Rattle.rules.specs.Traces.{erases_in}
use Rattle.rules.specs.Start.{start_ops, started}
use Rattle.starts.specs.Admitted.{StartAdmitted}
use Rattle.starts.specs.Latest.{latest}
use Rattle.starts.specs.Stands.{Clear, Stands}

pub record Recovers (p : Params) (b₀ b : Board) : Type 0 where
  -- it is not refused, and it erases one block at most
  pub admitted : StartAdmitted p b₀
  pub once : erases_in (start_ops p b₀.chip b₀.wear) ≤ 1
  -- every cluster reads as on b, but one that was released and has whole frames left; and any as its latest whole frame on the chip
  pub reads : (c : ℕ) → c < p.C → Clear p b c → (j : ℕ) → sector p (started p b₀) c j ≡ sector p b c j
  pub returns : (c : ℕ) → c < p.C → (j : ℕ) → sector p (started p b₀) c j ≡ latest p b₀.chip c j
  -- the board that it leaves stands, and no cluster without a CT entry has a whole frame left
  pub stands : Stands p (started p b₀)
  pub clear : (c : ℕ) → c < p.C → Clear p (started p b₀) c
