-- What making room carries over, whichever the plan: every whole frame that then stands is one that stood, byte for byte, no cluster loses its CT entry, and what the stamps say still holds.
-- Assumes nothing.
use mathlib.Core.Path.{◌≡◌, sym, ◌∙◌}
use Prim.Native.Nat.{ℕ, ◌<◌}
use mathlib.Core.Bool.{Bool}
use mathlib.Core.List.{List}
use Rattle.rules.specs.declared.Params.{Params}
use Rattle.rules.specs.Tables.{Board, none}
use Rattle.rules.specs.Pages.{frame}
use Rattle.rules.specs.Regions.{View, view}
use Rattle.rules.specs.Write.{Plan, plan_frame, plan_vblock}
use Rattle.rules.specs.Machine.{with_room}
use Rattle.rules.proofs.Continues.{MakesOn}
use Rattle.rules.proofs.Opens.{seg_same}
use Rattle.rules.proofs.PlanCases.{Case, goes_on, renews, takes}
use Rattle.rules.proofs.RegionFacts.{Fronts, Neat}
use Rattle.rules.proofs.RegionKept.{base_fronts}
use Rattle.rules.proofs.Sizes.{Sizes}
use Rattle.rules.proofs.TableFacts.{Tables}
use Rattle.rules.proofs.Views.{body_size}
use Rattle.starts.specs.Timely.{Timely, WholeAt}
use Rattle.starts.proofs.RoomTimely.{open_timely, reclaim_lives, reclaim_timely}
use Rattle.starts.proofs.Timely.{whole_good}

pub record Carries (p : Params) (vw vw₁ : View) : Type 0 where
  pub timely : Timely p vw → Timely p vw₁
  pub back : (c u g : ℕ) → WholeAt p vw₁ c u g → (u₀ : ℕ) × (g₀ : ℕ) × WholeAt p vw c u₀ g₀ × (frame p (vw₁.body u) g ≡ frame p (vw.body u₀) g₀)
  pub lives : (c : ℕ) → c < p.C → vw₁.seg_of c ≡ none → vw.seg_of c ≡ none

module _ (p : Params) (z : Sizes p) (b : Board) (t : Tables p b) (r : ℕ) (region : r < p.mu) (nt : Neat p r (view p b r)) (pl : Plan) (case : Case p (view p b r) pl)
    (chip₁ bst₁ : List ℕ) (worn₁ : Bool) (makes : MakesOn p b r pl chip₁ bst₁ worn₁) where
  pub room_fronts : Fronts p r (with_room p (view p b r) pl)
  room_fronts = base_fronts p z r (with_room p (view p b r) pl) (plan_vblock pl) (plan_frame p (view p b r) pl) makes.base

  -- a whole frame is programmed, and those that are stood before
  back : (c u g : ℕ) → WholeAt p (with_room p (view p b r) pl) c u g
      → (u₀ : ℕ) × (g₀ : ℕ) × WholeAt p (view p b r) c u₀ g₀ × (frame p ((with_room p (view p b r) pl).body u) g ≡ frame p ((view p b r).body u₀) g₀)
  back c u g a =
      let k = makes.stood u g a.block a.low (whole_good p z r (with_room p (view p b r) pl) room_fronts c u g a).on in
      (k.0, k.1, record { block = k.2; low = k.3; whole = rw k.4 at a.whole }, k.4)

  timely : Case p (view p b r) pl → Timely p (view p b r) → Timely p (with_room p (view p b r) pl)
  timely (goes_on h e) s = rw e (unfold with_room in s)
  timely (takes h v low lacks e) s = rw e (open_timely p z r (view p b r) nt h v low lacks s)
  timely (renews h every v low few e) s = rw e (reclaim_timely p z r (view p b r) nt h every (λ u k. body_size p z b t r u region k (every u k)) v low few s)

  lives : Case p (view p b r) pl → (c : ℕ) → c < p.C → (with_room p (view p b r) pl).seg_of c ≡ none → (view p b r).seg_of c ≡ none
  lives (goes_on h e) c k = rw e (unfold with_room in (λ n. n))
  lives (takes h v low lacks e) c k = rw e (λ n. sym (seg_same p z r (view p b r) nt h v low lacks c) ∙ n)
  lives (renews h every v low few e) c k = rw e (reclaim_lives p z r (view p b r) nt h every (λ u l. body_size p z b t r u region l (every u l)) v low few c k)

  pub carries : Carries p (view p b r) (with_room p (view p b r) pl)
  carries = record { timely = timely case; back = back; lives = lives case }
