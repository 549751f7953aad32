-- The holder that an answer names is the cluster's valid frame.
-- Assumes nothing.
use mathlib.Core.Path.{◌≡◌, refl, sym, ◌∙◌}
use mathlib.Core.Logic.{◌⊎◌, inl, inr}
use Prim.Native.Nat.{◌*◌, ◌<◌, ℕ}
use native.Mathlib.Nat.{div-lt_iff_lt-mul, mod-lt}
use borrow.Author.Tests.{eq-eqb}
use Rattle.rules.specs.declared.Params.{Params}
use Rattle.rules.specs.Numbers.{region_of, vblock_of}
use Rattle.rules.specs.Pages.{block}
use Rattle.rules.specs.Regions.{view, view_of}
use Rattle.rules.specs.Replies.{OrderlyBoard}
use Rattle.rules.specs.Tables.{Board, bt_at, ct_at, none}
use Rattle.rules.proofs.Admitted.{orderly_region}
use Rattle.rules.proofs.RegionFacts.{Entry, Neat, neat, neat_fronts}
use Rattle.rules.proofs.Sizes.{Sizes, sizes}
use Rattle.rules.proofs.TableFacts.{Tables, tables_in}
use Rattle.rules.proofs.ValidFrames.{named_valid}
use Rattle.rules.proofs.Views.{block_low_lem, body_some, has_block}
use Rattle.call_why.specs.Holder.{HolderTrue, holder_at}
use Rattle.call_why.specs.Why.{holder_of}

module _ (p : Params) (b : Board) (h : OrderlyBoard p b) (c : ℕ) (low : c < p.C) (ne : ct_at b.ct c ≡ none → ⊥) where
  z : Sizes p
  z = sizes p h.fine

  t : Tables p b
  t = tables_in p b h.lengths h.tidy

  region : region_of p c < p.mu
  region = mod-lt c z.regions

  seg_is : (view p b (region_of p c)).seg_of c ≡ ct_at b.ct c
  unfolding view_of
  seg_is = rw (eq-eqb (region_of p c) (region_of p c) refl)

  tidy : Neat p (region_of p c) (view p b (region_of p c))
  tidy = neat p (region_of p c) (view p b (region_of p c)) (orderly_region p b h.tidy (region_of p c) region)

  entry : Entry p (view p b (region_of p c)) c
  entry = go (tidy.entries c low)
    where
      go : ((view p b (region_of p c)).seg_of c ≡ none) ⊎ Entry p (view p b (region_of p c)) c → Entry p (view p b (region_of p c)) c
      go (inl e) = absurd (ne (sym seg_is ∙ e))
      go (inr e) = e

  pub segment_low : ct_at b.ct c < p.gamma * p.d
  segment_low = rw seg_is at entry.low

  pub vblock_low_lem : vblock_of p (ct_at b.ct c) < p.gamma
  vblock_low_lem = (div-lt_iff_lt-mul z.segments).1 segment_low

  there : bt_at p b.bt (region_of p c) (vblock_of p (ct_at b.ct c)) ≡ none → ⊥
  there = has_block p z b t (region_of p c) (vblock_of p (ct_at b.ct c)) region vblock_low_lem (rw seg_is at entry.has)

  pub body_is : (view p b (region_of p c)).body (vblock_of p (ct_at b.ct c)) ≡ block p b.chip (bt_at p b.bt (region_of p c) (vblock_of p (ct_at b.ct c)))
  body_is = body_some p z b t (region_of p c) (vblock_of p (ct_at b.ct c)) region vblock_low_lem there

  pub holder_true : HolderTrue p b c
  unfolding holder_at holder_of
  holder_true =
      let w = named_valid p z (region_of p c) (view p b (region_of p c)) (neat_fronts tidy) c entry in
      record {
        block_low = block_low_lem p z b t (region_of p c) (vblock_of p (ct_at b.ct c)) region vblock_low_lem there;
        frame_low = rw (seg_is, body_is) at entry.held;
        holds = rw (seg_is, body_is) at w.1;
        is_valid = rw (← body_is, ← seg_is) w.0;
      }
