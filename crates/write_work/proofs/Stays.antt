-- A plan that erases nothing leaves the old cluster where it stands: chip and CT are as they were, and BT names the same block for its segment.
-- Assumes nothing.
use mathlib.Core.Path.{◌≡◌, refl, sym, ◌∙◌}
use mathlib.Core.Bool.{Bool, true, cond, not}
use mathlib.Core.List.{List, []}
use Prim.Native.Nat.{ℕ, ◌+◌, ◌*◌, ◌<◌}
use native.Mathlib.Omega.{arith}
use native.Mathlib.Decide.{ℕ_discrete}
use lib.Dec.{eqb}
use borrow.Author.Tests.{eq-eqb}
use lib.ListN.{set}
use lib.Seq.{get_or-set_same, get_or-set_other}
use Rattle.lists.proofs.Tests.{never}
use Rattle.rules.specs.declared.Params.{Params}
use Rattle.rules.specs.Tables.{Board, none, bt_at, bt_entry, ct_at}
use Rattle.rules.specs.Regions.{view}
use Rattle.rules.specs.Traces.{frames_ops, replay_chip}
use Rattle.rules.specs.Write.{Plan, continues, opens, reclaims, copies, follow_ct, plan_block, plan_erases, plan_vblock, room_ops, victim_ops}
use Rattle.rules.specs.Words.{PlanListed}
use Rattle.rules.proofs.Isolation.{index_low}
use Rattle.rules.proofs.Sizes.{Sizes}
use Rattle.rules.proofs.TableFacts.{Tables}
use Rattle.rules.proofs.Views.{no_block}
use Rattle.read_work.specs.Lookup.{block_for, frame_for, last_for, Stands, Within}

module _ (p : Params) (b : Board) (r : ℕ) (pl : Plan) (still : plan_erases pl ≡ 0) where
  pub chip_same_lem : replay_chip p b.chip (room_ops p b r pl) ≡ b.chip
  unfolding replay_chip room_ops frames_ops copies victim_ops plan_erases
  chip_same_lem = go pl still
    where
      go : (l : Plan) → plan_erases l ≡ 0 → replay_chip p b.chip (room_ops p b r l) ≡ b.chip
      go (continues v f) e = refl
      go (opens v) e = refl
      go (reclaims v) e = absurd (omega (arith, e))

  pub ct_same : follow_ct p (plan_vblock pl) 0 (copies p (view p b r) pl) b.ct ≡ b.ct
  unfolding follow_ct copies plan_erases
  ct_same = go pl still
    where
      go : (l : Plan) → plan_erases l ≡ 0 → follow_ct p (plan_vblock l) 0 (copies p (view p b r) l) b.ct ≡ b.ct
      go (continues v f) e = refl
      go (opens v) e = refl
      go (reclaims v) e = absurd (omega (arith, e))

-- the block that BT names for a virtual block that has one
module _ (p : Params) (z : Sizes p) (b : Board) (t : Tables p b) (r : ℕ) (region : r < p.mu) (pl : Plan) (still : plan_erases pl ≡ 0)
    (listed : PlanListed p (view p b r) pl) (mine : plan_vblock pl < p.gamma) where
  abbrev bt' : List ℕ
  bt' = set b.bt (r * p.gamma + plan_vblock pl) (plan_block p b r pl)

  -- the plan's own entry: it is as it was, or had none
  own : (bt_at p b.bt r (plan_vblock pl) ≡ none → ⊥) → plan_block p b r pl ≡ bt_at p b.bt r (plan_vblock pl)
  unfolding plan_block plan_vblock plan_erases
  own = go pl still listed mine
    where
      go : (l : Plan) → plan_erases l ≡ 0 → PlanListed p (view p b r) l → plan_vblock l < p.gamma → (bt_at p b.bt r (plan_vblock l) ≡ none → ⊥)
          → plan_block p b r l ≡ bt_at p b.bt r (plan_vblock l)
      go (continues v f) e k low ne = refl
      go (opens v) e k low ne = absurd (ne (no_block p z b t r v region low z.some k.bare))
      go (reclaims v) e k low ne = absurd (omega (arith, e))

  pub entry_same : (u : ℕ) → (bt_at p b.bt r u ≡ none → ⊥) → bt_at p bt' r u ≡ bt_at p b.bt r u
  unfolding bt_at bt_entry
  entry_same u ne = go (ℕ_discrete u (plan_vblock pl))
    where
      go : Dec (u ≡ plan_vblock pl) → bt_at p bt' r u ≡ bt_at p b.bt r u
      go (yes e) =
          rw e (get_or-set_same b.bt (r * p.gamma + plan_vblock pl) (plan_block p b r pl) none (rw t.bt_length (index_low p r (plan_vblock pl) region mine)) ∙ own (rw e at ne))
      go (no e) = get_or-set_other b.bt (r * p.gamma + plan_vblock pl) (r * p.gamma + u) (plan_block p b r pl) none (λ x. e (omega (arith, x)))

-- where the lookup finds the same block, it finds the same frame
module _ (p : Params) (chip ct bt bt' : List ℕ) (c : ℕ) (same : (ct_at ct c ≡ none → ⊥) → block_for p ct bt' c ≡ block_for p ct bt c) (kept : Bool) where
  pub stands_same : (fr : ℕ) → Stands p chip ct bt c kept fr → Stands p chip ct bt' c kept fr
  unfolding frame_for last_for
  stands_same fr s = record { has = s.has; at = s.at ∙ go (ℕ_discrete (ct_at ct c) none) }
    where
      go : Dec (ct_at ct c ≡ none) → cond (eqb (ct_at ct c) none) 0 (frame_for p chip ct bt c) ≡ cond (eqb (ct_at ct c) none) 0 (frame_for p chip ct bt' c)
      go (yes e) = rw (eq-eqb (ct_at ct c) none e)
      go (no e) = rw (same e)

  pub within_same : (v f : ℕ) → kept ≡ not (eqb (ct_at ct c) none) → Within p chip ct bt c kept v f → Within p chip ct bt' c kept v f
  unfolding last_for
  within_same v f has w =
      record { vblock = w.vblock; inner = λ k. w.inner k ∙ rw (same (λ e. never k (has ∙ rw (eq-eqb (ct_at ct c) none e)))) }
