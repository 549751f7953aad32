-- Readings of the documents' words on frames: the frame that a read takes is its cluster's valid one, and a reclaim copies none of a cluster without an entry.
-- Assumes nothing.
use Rattle.std.specs.Prelude.{ℕ, ◌<◌, ◌≡◌, true}
use Rattle.rules.specs.declared.Params.{Params}
use Rattle.rules.specs.Parameters.{allowed, frames}
use Rattle.rules.specs.Numbers.{region_of}
use Rattle.rules.specs.Tables.{Board, ct_at, none}
use Rattle.rules.specs.Pages.{frame, held}
use Rattle.rules.specs.Regions.{View, frame_of, valid, view}
use Rattle.rules.specs.Write.{copies, reclaims}
use Rattle.rules.specs.Replies.{OrderlyBoard}
use Rattle.claims.specs.Conditions.{none_holds}

-- "the cluster's valid frame": a read of cluster c takes frame f of virtual block v, which is valid and holds c, and is the only frame that does both
pub record TheValidFrame (p : Params) (vw : View) (c v f : ℕ) : Type 0 where
  pub taken : frame_of p vw c ≡ frame p (vw.body v) f
  pub is : valid p vw v f ≡ true
  pub holds : held p (frame p (vw.body v) f) ≡ c
  pub only : (u g : ℕ) → g < frames p → valid p vw u g ≡ true → held p (frame p (vw.body u) g) ≡ c → (u ≡ v) × (g ≡ f)

abbrev pub ReadsValidFrame : Type 0
ReadsValidFrame =
    (p : Params) (b : Board) → OrderlyBoard p b → (c : ℕ) → c < p.C → ((view p b (region_of p c)).seg_of c ≡ none → ⊥)
    → (v : ℕ) × (f : ℕ) × (f < frames p) × TheValidFrame p (view p b (region_of p c)) c v f

-- T-03: "the room comes back at reclaim": wherever CT has none for a cluster, no frame that a reclaim copies holds it
abbrev pub NoneCopied : Type 0
NoneCopied =
    (p : Params) (b : Board) → allowed p ≡ true → (c : ℕ) → ct_at b.ct c ≡ none
    → (r v : ℕ) → v < p.gamma → none_holds p c (copies p (view p b r) (reclaims v)) ≡ true
