-- A frame whose last page is not programmed holds no cluster, so no search ends at it, and it is not valid.
-- Assumes nothing.
use mathlib.Core.Path.{◌≡◌, ap, sym, ◌∙◌}
use Prim.Native.Nat.{ℕ, ◌-◌, ◌/◌}
use mathlib.Core.Bool.{false, and-false}
use lib.ListN.{drop, get_or}
use borrow.Author.Tests.{ne_eqb}
use Rattle.lists.proofs.Tests.{never}
use Rattle.rules.specs.declared.Params.{Params}
use Rattle.rules.specs.Parameters.{frames}
use Rattle.rules.specs.Pages.{frame, held, holds, last_in, page, page_used, spare, whole}
use Rattle.rules.specs.Regions.{View, valid}
use Rattle.rules.specs.Words.{Unfinished, UnfinishedNever}
use Rattle.rules.proofs.FramePut.{last_holds}
use Rattle.rules.proofs.Sizes.{sizes}

holds_none : (p : Params) (vw : View) (v f c : ℕ) → Unfinished p vw v f → holds p (frame p (vw.body v) f) c ≡ false
unfolding holds whole page_used spare
holds_none p vw v f c u = rw (ne_eqb (get_or (drop p.s (page p (frame p (vw.body v) f) (p.alpha - 1))) 6 255) 0 u)

pub unfinished_never : UnfinishedNever
unfolding valid frames
unfinished_never p vw v f ok low u = (rw (ne_eqb _ f (ends (f / p.beta) (held p (frame p (vw.body v) f))), and-false, and-false), ends)
  where
    ends : (k c : ℕ) → last_in p (vw.body v) k c ≡ f → ⊥
    ends k c e = never (ap (λ (g : ℕ). holds p (frame p (vw.body v) g) c) (sym e) ∙ (last_holds p (sizes p ok) (vw.body v) k c (rw e low)).1) (holds_none p vw v f c u)
