-- What the plan of a write asks of the tables, an orderly region gives: FST leads to an open block, whose programmed frames are its first.
-- Assumes nothing.
use mathlib.Core.Path.{◌≡◌, refl, sym, ◌∙◌}
use mathlib.Core.Logic.{◌⊎◌, inl, inr}
use mathlib.Core.Bool.{false, true}
use Prim.Native.Nat.{ℕ, ◌*◌, ◌+◌, ◌-◌, ◌/◌, ◌<◌}
use native.Mathlib.Decide.{dec_lt}
use native.Mathlib.Nat.{div-lt_iff_lt-mul, div-mul-le_self}
use native.Mathlib.Omega.{arith}
use lib.Dec.{ltb}
use borrow.Author.Tests.{le-ltb, lt-ltb}
use Rattle.rules.specs.declared.Params.{Params}
use Rattle.rules.specs.Parameters.{allowed, frames}
use Rattle.rules.specs.Numbers.{place_of, segment_of, vblock_of}
use Rattle.rules.specs.Tables.{Board, bt_at, fst_at, none}
use Rattle.rules.specs.Pages.{block, filled, frame, programmed}
use Rattle.rules.specs.Regions.{View, assigned, view, view_of}
use Rattle.rules.proofs.Frames.{erased_not, seg_place}
use Rattle.rules.proofs.Isolation.{index_low}
use Rattle.rules.proofs.RegionFacts.{Neat, Open, filled_le}
use Rattle.rules.proofs.Sizes.{Sizes}
use Rattle.rules.proofs.TableFacts.{Tables}
use Rattle.rules.proofs.Views.{body_some, has_block}
use Rattle.write_plan.specs.Plans.{OpenFrames, PlanAsked}

module _ (p : Params) (z : Sizes p) (fine : allowed p ≡ true) (b : Board) (t : Tables p b) (r : ℕ) (region_in : r < p.mu) (nt : Neat p r (view p b r)) where
  abbrev vw : View
  vw = view p b r

  last_is : vw.last_seg ≡ fst_at b.fst r
  unfolding view_of
  last_is = refl

  opened : (fst_at b.fst r ≡ none → ⊥) → (vblock_of p (fst_at b.fst r) < p.gamma) × (bt_at p b.bt r (vblock_of p (fst_at b.fst r)) ≡ none → ⊥)
  opened ne = rw (← last_is) (go nt.opened)
    where
      go : (((v : ℕ) → v < p.gamma → assigned vw v ≡ false) × (vw.last_seg ≡ none)) ⊎ (((v : ℕ) × (v < p.gamma) × (assigned vw v ≡ true)) × Open p vw)
          → (vblock_of p vw.last_seg < p.gamma) × (bt_at p b.bt r (vblock_of p vw.last_seg) ≡ none → ⊥)
      go (inl w) = absurd (ne (sym last_is ∙ w.1))
      go (inr w) =
          let h : vblock_of p vw.last_seg < p.gamma = (div-lt_iff_lt-mul z.segments).1 w.1.low in
          (h, has_block p z b t r _ region_in h w.1.has)

  -- the open block's programmed frames, and where the segment of the last begins
  open_frames : (o : ℕ) → o ≡ vblock_of p vw.last_seg → o < p.gamma → assigned vw o ≡ true → vw.last_seg ≡ segment_of p o (filled p (vw.body o) - 1) → OpenFrames p (vw.body o) vw.last_seg
  open_frames o eo low has last =
      let w = nt.blocks o low has in
      let n : filled p (vw.body o) - 1 < frames p = omega (arith, w.0, filled_le p (vw.body o)) in
      let at : place_of p vw.last_seg ≡ (filled p (vw.body o) - 1) / p.beta = rw last (seg_place p z o (filled p (vw.body o) - 1) n) in
      record {
        front = record { most = filled_le p (vw.body o); are = λ f h. first_test f h (dec_lt f (filled p (vw.body o))) };
        from = rw at (omega (arith, w.0, div-mul-le_self (filled p (vw.body o) - 1) p.beta));
      }
    where
      first_test : (f : ℕ) → f < frames p → Dec (f < filled p (vw.body o)) → programmed p (frame p (vw.body o) f) ≡ ltb f (filled p (vw.body o))
      first_test f h (yes a) =
          rw (lt-ltb f (filled p (vw.body o)) a) ((nt.blocks o low has).1.front f a h).on
      first_test f h (no a) = rw (le-ltb f (filled p (vw.body o)) (omega arith)) (erased_not p (frame p (vw.body o) f) ((nt.blocks o low has).1.rest f (omega arith) h))

  first_frames : (fst_at b.fst r ≡ none → ⊥) → OpenFrames p (block p b.chip (bt_at p b.bt r (vblock_of p (fst_at b.fst r)))) (fst_at b.fst r)
  first_frames ne = rw (← last_is) (go nt.opened)
    where
      go : (((v : ℕ) → v < p.gamma → assigned vw v ≡ false) × (vw.last_seg ≡ none)) ⊎ (((v : ℕ) × (v < p.gamma) × (assigned vw v ≡ true)) × Open p vw)
          → OpenFrames p (block p b.chip (bt_at p b.bt r (vblock_of p vw.last_seg))) vw.last_seg
      go (inl w) = absurd (ne (sym last_is ∙ w.1))
      go (inr w) =
          let h : vblock_of p vw.last_seg < p.gamma = (div-lt_iff_lt-mul z.segments).1 w.1.low in
          rw (body_some p z b t r _ region_in h (has_block p z b t r _ region_in h w.1.has)) at (open_frames _ refl h w.1.has w.1.last)

  pub plan_asked : PlanAsked p b.chip b.bt b.fst r
  plan_asked =
      record {
        fine = fine;
        chip_length = t.chip_length;
        bt_length = t.bt_length;
        fst_length = t.fst_length;
        low = region_in;
        names = λ v h. unfold bt_at in t.names (r * p.gamma + v) (index_low p r v region_in h);
        opened = opened;
        first = first_frames;
      }
