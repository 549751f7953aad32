-- A frame that is marked has a cluster of its region whose CT entry names its segment, and no other marked frame has it; and a CT entry that names
-- a segment with its cluster leads to such a frame.
-- Assumes nothing.
use mathlib.Core.Path.{◌≡◌, ap, refl, sym, ◌∙◌}
use mathlib.Core.Bool.{not, true}
use Prim.Native.Nat.{ℕ, ◌<◌}
use native.Mathlib.Omega.{arith}
use native.Mathlib.Nat.{div-lt_iff_lt-mul, mod-lt}
use lib.Dec.{eqb, ltb}
use borrow.Author.Tests.{eq-eqb, lt-ltb, ltb-true, ne_eqb}
use Rattle.lists.specs.Below.{all_true}
use Rattle.lists.proofs.Tests.{and_intro, and_left, and_right, never, or_right}
use Rattle.rules.specs.declared.Params.{Params}
use Rattle.rules.specs.Numbers.{place_of, region_of, segment_of, vblock_of}
use Rattle.rules.specs.Orderly.{block_rule, entry_rule}
use Rattle.rules.specs.Pages.{block, frame, held, last_in}
use Rattle.rules.specs.Parameters.{frames}
use Rattle.rules.specs.Regions.{view, view_of}
use Rattle.rules.specs.Tables.{Board, bt_at, ct_at, none}
use Rattle.rules.proofs.Frames.{seg_low, seg_place, seg_vblock}
use Rattle.rules.proofs.RegionFacts.{Entry, Fronts, GoodFrame, block_in}
use Rattle.rules.proofs.Sizes.{Sizes}
use Rattle.rules.proofs.Victims.{Valid, valid_in, valid_one}
use Rattle.rules.proofs.ValidFrames.{named_valid}
use Rattle.check_rules.specs.Check.{cluster_ok}
use Rattle.check_rules.proofs.Same.{Names, assigned_no, assigned_yes, body_is, entry_same}
use Rattle.rules.specs.Marks.{marked}
use Rattle.marks.proofs.Counted.{unassigned_unmarked}
use Rattle.check_board.specs.Order.{named}
use Rattle.check_board.proofs.Blocks.{good}

-- the cluster in frame f of virtual block v of region r
abbrev pub cluster_in : Params → Board → ℕ → ℕ → ℕ → ℕ
cluster_in p b r v f = held p (frame p ((view p b r).body v) f)

-- the virtual block and the frame that the CT entry of cluster c leads to
abbrev pub vblock_named : Params → Board → ℕ → ℕ
vblock_named p b c = vblock_of p ((view p b (region_of p c)).seg_of c)

abbrev pub frame_named : Params → Board → ℕ → ℕ
frame_named p b c = last_in p ((view p b (region_of p c)).body (vblock_named p b c)) (place_of p ((view p b (region_of p c)).seg_of c)) c

-- what a marked frame has
pub record Held (p : Params) (b : Board) (r v f : ℕ) : Type 0 where
  pub low : f < frames p
  pub block : bt_at p b.bt r v ≡ none → ⊥
  pub is : Valid p (view p b r) v f
  pub cluster : cluster_in p b r v f < p.C
  pub mine : region_of p (cluster_in p b r v f) ≡ r
  pub entry : ct_at b.ct (cluster_in p b r v f) ≡ segment_of p v f

module _ (p : Params) (b : Board) (n : Names p b)
    (rule : (r v : ℕ) → r < p.mu → v < p.gamma → (bt_at p b.bt r v ≡ none → ⊥) → block_rule p r v (block p b.chip (bt_at p b.bt r v)) ≡ true) where
  abbrev z : Sizes p
  z = n.fine

  pub marked_held : (r v f : ℕ) → r < p.mu → v < p.gamma → marked p (view p b r) v f ≡ true → Held p b r v f
  unfolding marked
  marked_held r v f hr hv m =
      record { low = low; block = has; is = is; cluster = g.low; mine = g.mine; entry = sym seg ∙ is.names }
    where
      low : f < frames p
      low = ltb-true _ _ (and_left (ltb f (frames p)) _ m)

      is : Valid p (view p b r) v f
      is = valid_in p (view p b r) v f (and_right (ltb f (frames p)) m)

      has : bt_at p b.bt r v ≡ none → ⊥
      has e = never m (unassigned_unmarked p (view p b r) v (assigned_no p b n r hr v hv e) f)

      g : GoodFrame p r v (frame p ((view p b r).body v) f)
      g = rw (body_is p b n r hr v hv has) (good p r v _ (rule r v hr hv has) f low (rw (body_is p b n r hr v hv has) at is.written))

      seg : (view p b r).seg_of (cluster_in p b r v f) ≡ ct_at b.ct (cluster_in p b r v f)
      seg = unfold view_of in rw (eq-eqb (region_of p (cluster_in p b r v f)) r g.mine)

  -- its entry is not none
  pub held_named : (r v f : ℕ) → v < p.gamma → Held p b r v f → named b.ct (cluster_in p b r v f) ≡ true
  unfolding named
  held_named r v f hv h = ap not (ne_eqb (ct_at b.ct (cluster_in p b r v f)) none (λ e. omega (arith, e, h.entry, seg_low p z v f h.low hv, z.few)))

  -- one frame has it
  pub held_one : (r v f s u g : ℕ) → Held p b r v f → Held p b s u g → cluster_in p b r v f ≡ cluster_in p b s u g → (r ≡ s) × (v ≡ u) × (f ≡ g)
  held_one r v f s u g a c e =
      let q : r ≡ s = sym a.mine ∙ ap (region_of p) e ∙ c.mine in
      let c' : Held p b r u g = rw q c in
      let w = valid_one p z (view p b r) v f u g a.low c'.low a.is c'.is (e ∙ ap (λ (x : ℕ). cluster_in p b x u g) (sym q)) in
      (q, w.0, w.1)

  -- and its entry is right
  pub held_ok : (r v f : ℕ) → r < p.mu → v < p.gamma → Held p b r v f → cluster_ok p b.chip b.ct b.bt r (cluster_in p b r v f) ≡ true
  unfolding entry_rule all_true
  held_ok r v f hr hv h =
      sym (entry_same p b n r hr (cluster_in p b r v f) h.mine)
      ∙ or_right (eqb ((view p b r).seg_of (cluster_in p b r v f)) none)
      (rw (h.is.names, seg_vblock p z v f h.low, seg_place p z v f h.low, h.is.last)
      (and_intro (lt-ltb _ _ (seg_low p z v f h.low hv)) (and_intro (assigned_yes p b n r hr v hv h.block) (and_intro (lt-ltb _ _ h.low) refl))))

  -- the blocks of a region have their first frames programmed
  fronts : (r : ℕ) → r < p.mu → Fronts p r (view p b r)
  fronts r hr v hv a = rw (body_is p b n r hr v hv has) (block_in p r v _ (rule r v hr hv has)).1
    where
      has : bt_at p b.bt r v ≡ none → ⊥
      has e = never a (assigned_no p b n r hr v hv e)

  -- the frame that the entry of a cluster leads to is marked, and has the cluster
  pub entry_held : (c : ℕ) → Entry p (view p b (region_of p c)) c
      → (vblock_named p b c < p.gamma) × (frame_named p b c < frames p) × (marked p (view p b (region_of p c)) (vblock_named p b c) (frame_named p b c) ≡ true)
      × (cluster_in p b (region_of p c) (vblock_named p b c) (frame_named p b c) ≡ c)
  unfolding marked
  entry_held c e =
      let w = named_valid p z (region_of p c) (view p b (region_of p c)) (fronts (region_of p c) (mod-lt c z.regions)) c e in
      ((div-lt_iff_lt-mul z.segments).1 e.low, e.held, and_intro (lt-ltb _ _ e.held) w.0, w.1)
