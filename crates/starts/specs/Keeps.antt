-- T-07, without a cut: what a start makes of a board that stands, from its chip alone. Nothing that was accepted is lost, and nothing on the chip is touched.
-- Assumes nothing.
use Rattle.std.specs.Prelude.{ℕ, ◌<◌, ◌≡◌, [], replicate}
use Rattle.rules.specs.declared.Params.{Params}
use Rattle.rules.specs.Tables.{Board, ct_at, none}
use Rattle.rules.specs.Regions.{sector, view}
use Rattle.rules.specs.Start.{start_ops, started}
use Rattle.starts.specs.Admitted.{StartAdmitted}
use Rattle.starts.specs.Latest.{latest}
use Rattle.starts.specs.Stands.{Clear, Stands}

pub record StartKeeps (p : Params) (b : Board) : Type 0 where
  -- it is not refused, and it erases nothing
  pub admitted : StartAdmitted p b
  pub operations : start_ops p b.chip b.wear ≡ []
  pub chip : (started p b).chip ≡ b.chip
  pub wear : (started p b).wear ≡ b.wear
  -- it finds the same blocks, so every region has the same bytes
  pub bt : (started p b).bt ≡ b.bt
  pub bst : (started p b).bst ≡ b.bst
  pub bodies : (r : ℕ) → r < p.mu → (v : ℕ) → (view p (started p b) r).body v ≡ (view p b r).body v
  -- a cluster with a CT entry has the same entry and reads as before
  pub entries : (c : ℕ) → c < p.C → (ct_at b.ct c ≡ none → ⊥) → ct_at (started p b).ct c ≡ ct_at b.ct c
  pub reads : (c : ℕ) → c < p.C → (ct_at b.ct c ≡ none → ⊥) → (j : ℕ) → sector p (started p b) c j ≡ sector p b c j
  -- any cluster reads as its latest whole frame on the chip, so one that was released comes back with it; one without a whole frame reads as 255
  pub returns : (c : ℕ) → c < p.C → (j : ℕ) → sector p (started p b) c j ≡ latest p b.chip c j
  pub blank : (c : ℕ) → c < p.C → ct_at b.ct c ≡ none → Clear p b c → (j : ℕ) → sector p (started p b) c j ≡ replicate p.s 255
  -- the board that it leaves stands, and no cluster without a CT entry has a whole frame left
  pub stands : Stands p (started p b)
  pub clear : (c : ℕ) → c < p.C → Clear p (started p b) c
