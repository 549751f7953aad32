-- The table of the board that an accepted release leaves: the marks without that of the cluster's valid frame. In the cluster's region the frames
-- of other clusters stay valid; every other region's view, and so its marks, are what they were.
-- Assumes nothing.
use mathlib.Core.Path.{◌≡◌, refl, sym}
use Prim.Native.Nat.{ℕ, ◌<◌}
use native.Mathlib.Nat.{mod-lt}
use native.Mathlib.Omega.{arith}
use native.Mathlib.Decide.{ℕ_discrete, dec_lt}
use mathlib.Core.Bool.{not, ◌&&◌}
use lib.Dec.{eqb}
use Rattle.rules.specs.declared.Params.{Params}
use Rattle.rules.specs.declared.Reply.TheVariants.{Accepted}
use Rattle.rules.specs.Numbers.{region_of}
use Rattle.rules.specs.Pages.{frame, held}
use Rattle.rules.specs.Parameters.{frames}
use Rattle.rules.specs.Regions.{view}
use Rattle.rules.specs.Release.{released}
use Rattle.rules.specs.Replies.{reply_of}
use Rattle.rules.specs.Requests.{release}
use Rattle.rules.specs.Tables.{Board}
use Rattle.rules.proofs.Admitted.{ReleaseAdmitted, orderly_region, release_admitted}
use Rattle.rules.proofs.RegionFacts.{Neat, neat, neat_fronts}
use Rattle.rules.proofs.Releases.{release_valid, released_else}
use Rattle.rules.proofs.Sizes.{Sizes, sizes}
use Rattle.marks.specs.Kept.{without_old}
use Rattle.rules.specs.Marks.{marks_in, marked, marks_of, marks_on, table_of}
use Rattle.marks.proofs.Tables.{table_cong}
use Rattle.marks.proofs.FrameMarks.{marked_valid, unmarked}
use Rattle.marks.proofs.OldMarks.{old_cleared, old_elsewhere}

module _ (p : Params) (b : Board) (c : ℕ) (e : reply_of p b (release c) ≡ Accepted) where
  abbrev r : ℕ
  r = region_of p c

  acc : ReleaseAdmitted p b c
  acc = release_admitted p b c e

  z : Sizes p
  z = sizes p acc.fine

  tidy : Neat p r (view p b r)
  tidy = neat p r (view p b r) (orderly_region p b acc.tidy r (mod-lt c z.regions))

  -- in the cluster's region
  mark_here : (v f : ℕ) → v < p.gamma → marked p (view p (released p b c) r) v f ≡ marked p (view p b r) v f && not (eqb (held p (frame p ((view p b r).body v) f)) c)
  mark_here v f low = go (dec_lt f (frames p))
    where
      go : Dec (f < frames p) → marked p (view p (released p b c) r) v f ≡ marked p (view p b r) v f && not (eqb (held p (frame p ((view p b r).body v) f)) c)
      go (yes h) = rw (marked_valid p (view p (released p b c) r) v f h, marked_valid p (view p b r) v f h) (release_valid p b c z r v f low h)
      go (no h) = rw (unmarked p (view p (released p b c) r) v f (omega arith), unmarked p (view p b r) v f (omega arith))

  mark_at : (r' v f : ℕ) → v < p.gamma → marks_on p (released p b c) r' v f ≡ without_old p (view p b r) r c (marks_on p b) r' v f
  unfolding marks_in
  mark_at r' v f low = go (ℕ_discrete r' r)
    where
      go : Dec (r' ≡ r) → marks_on p (released p b c) r' v f ≡ without_old p (view p b r) r c (marks_on p b) r' v f
      go (yes k) = rw (k, old_cleared p z (view p b r) r c (marks_on p b) (neat_fronts tidy) (tidy.entries c acc.cluster) v f low refl) (mark_here v f low)
      go (no k) = rw (released_else p b c r' (λ x. k (sym x))) (sym (old_elsewhere p z (view p b r) r c (marks_on p b) r' v f k))

  pub released_marks : marks_of p (released p b c) ≡ table_of p (without_old p (view p b (region_of p c)) (region_of p c) c (marks_on p b))
  released_marks = table_cong p _ _ (λ r' v f h low k. mark_at r' v f low)
