-- Every number of an answer fits 32 bits: by the ranges of the parameters, and by the rules of an orderly state.
-- Assumes nothing.
use mathlib.Core.Path.{◌≡◌}
use mathlib.Core.Logic.{◌⊎◌, inl, inr}
use mathlib.Core.Bool.{Bool, cond, false, true}
use mathlib.Core.List.{List, [], ◌++◌, ◌∷◌}
use Prim.Native.Nat.{◌<◌, ℕ}
use native.Mathlib.Nat.{mod-lt}
use native.Mathlib.Decide.{ℕ_discrete}
use native.Mathlib.Omega.{arith}
use lib.Dec.{eqb}
use lib.ListN.{replicate}
use borrow.Author.Tests.{eq-eqb, ne_eqb}
use Rattle.rules.specs.declared.Params.{Params}
use Rattle.rules.specs.declared.Reply.{Reply}
use Rattle.rules.specs.Numbers.{region_of}
use Rattle.rules.specs.Parameters.{frames}
use Rattle.rules.specs.Regions.{View, looks_at, view}
use Rattle.rules.specs.Replies.{no_block_left, no_stamp_left, number_of}
use Rattle.rules.specs.Tables.{Board, ct_at, none, stamp_at}
use Rattle.rules.specs.Write.{Plan, continues, opens, plan_frame, plan_of, plan_vblock, reclaims}
use Rattle.rules.specs.Words.{LooksListed}
use Rattle.rules.proofs.LooksWords.{looks_exactly}
use Rattle.rules.proofs.Sizes.{Sizes}
use Rattle.rules.proofs.Outcomes.{number_low}
use Rattle.check_broken.specs.declared.Rule.{Rule}
use Rattle.check_broken.specs.declared.Rule.TheVariants.{BstValues, BtRange, Ct, FreeErased, Fst, Marks, NamedTwice, UsedBlock, UsedIfNamed, Stamps}
use Rattle.check_broken.specs.Broken.{rule_number}
use Rattle.rules.specs.Replies.{OrderlyBoard}
use Rattle.call_why.specs.Holder.{holder_at}
use Rattle.call_why.specs.Why.{Small, forecast_in, forecast_of, found_of, holder_of, plan_numbers}
use Rattle.call_why.proofs.Holder.{holder_true, segment_low, vblock_low_lem}

pub small_append : (xs ys : List ℕ) → Small xs → Small ys → Small (xs ++ ys)
small_append [] ys h k = k
small_append (x ∷ xs) ys h k = (h.0, small_append xs ys h.1 k)

-- ---- replies and rules

pub refused_small : (r : Reply) → Small (number_of r ∷ replicate 12 0)
refused_small r = (omega (arith, number_low r), zeros)
  where
    zeros : Small (replicate 12 0)
    zeros = omega arith

pub broken_small : (k : Rule) → Small (7 ∷ rule_number k ∷ replicate 11 0)
broken_small k = (omega arith, (low k, omega arith))
  where
    low : (k : Rule) → rule_number k < 4294967296
    low BstValues = omega arith
    low BtRange = omega arith
    low NamedTwice = omega arith
    low UsedIfNamed = omega arith
    low FreeErased = omega arith
    low UsedBlock = omega arith
    low Fst = omega arith
    low Ct = omega arith
    low Marks = omega arith
    low Stamps = omega arith

-- ---- a plan

pub plan_small : (p : Params) (vw : View) (pl : Plan) → plan_vblock pl < 256 → plan_frame p vw pl < 65536 → Small (plan_numbers p vw pl)
unfolding plan_vblock plan_frame plan_numbers
plan_small p vw (continues v f) h k = (omega arith, (omega arith, (omega arith, (omega arith, tt))))
plan_small p vw (opens v) h k = (omega arith, (omega arith, (omega arith, (omega arith, tt))))
plan_small p vw (reclaims v) h k = (omega arith, (omega arith, (omega arith, (omega arith, tt))))

-- ---- an orderly board

module _ (p : Params) (z : Sizes p) (b : Board) (h : OrderlyBoard p b) (c : ℕ) (low : c < p.C) where
  holder_small : (ct_at b.ct c ≡ none → ⊥) → Small (holder_of p b c)
  unfolding holder_of holder_at
  holder_small ne =
      let t = holder_true p b h c low ne in (
        omega (arith, mod-lt c z.regions, z.mu_high),
        (
          omega (arith, segment_low p b h c low ne, z.few),
          (
            omega (arith, vblock_low_lem p b h c low ne, z.gamma_high),
            (omega (arith, t.block_low, z.blocks), (omega (arith, t.frame_low, z.short), tt)),
          ),
        ),
      )

  looks_small : looks_at p b c < 4294967296
  looks_small = go (looks_exactly p b h c low)
    where
      go : ((ct_at b.ct c ≡ 65535) × (looks_at p b c ≡ 0)) ⊎ ((ct_at b.ct c ≡ 65535 → ⊥) × LooksListed p (view p b (region_of p c)) c (looks_at p b c)) → looks_at p b c < 4294967296
      go (inl w) = omega (arith, w.1)
      go (inr w) = omega (arith, w.1.most, z.beta_high)

  pub found_small : plan_vblock (plan_of p (view p b (region_of p c))) < p.gamma → plan_frame p (view p b (region_of p c)) (plan_of p (view p b (region_of p c))) < frames p → Small (found_of p b c)
  unfolding found_of forecast_of forecast_in
  found_small v f =
      small_append (cond (eqb (ct_at b.ct c) none) (replicate 8 0) (0 ∷ 0 ∷ 1 ∷ holder_of p b c)) _ (go (ℕ_discrete (ct_at b.ct c) none))
      (small_append (forecast_of p b c) (looks_at p b c ∷ []) (either (no_stamp_left (stamp_at b.stamps (region_of p c))) (no_block_left p b (region_of p c))) (looks_small, tt))
    where
      either : (t u : Bool) → Small (cond t (9 ∷ 0 ∷ 0 ∷ 0 ∷ []) (cond u (10 ∷ 0 ∷ 0 ∷ 0 ∷ []) (plan_numbers p (view p b (region_of p c)) (plan_of p (view p b (region_of p c))))))
      either true u = (omega arith, (omega arith, (omega arith, (omega arith, tt))))
      either false true = (omega arith, (omega arith, (omega arith, (omega arith, tt))))
      either false false = plan_small p _ _ (omega (arith, v, z.gamma_high)) (omega (arith, f, z.short))

      go : Dec (ct_at b.ct c ≡ none) → Small (cond (eqb (ct_at b.ct c) none) (replicate 8 0) (0 ∷ 0 ∷ 1 ∷ holder_of p b c))
      go (yes e) = rw (eq-eqb (ct_at b.ct c) none e) (omega arith)
      go (no e) = rw (ne_eqb (ct_at b.ct c) none e) (omega arith, (omega arith, (omega arith, holder_small e)))
