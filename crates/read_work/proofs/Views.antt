-- What the lookup asks and finds, as the view of the cluster's region has it; the write looks the old cluster up by the same laws.
-- Assumes nothing.
use mathlib.Core.Path.{◌≡◌, refl, sym, ◌∙◌}
use mathlib.Core.Logic.{◌⊎◌, inl, inr}
use mathlib.Core.Bool.{Bool, true, false, false≢true}
use mathlib.Core.List.{List, []}
use Prim.Native.Nat.{ℕ, ◌+◌, ◌*◌, ◌≤◌, ◌<◌}
use native.Mathlib.Nat.{mod-lt, div-lt_iff_lt-mul}
use native.Mathlib.Omega.{arith}
use lib.Dec.{eqb}
use borrow.Author.Tests.{eqb-false, eq-eqb, ne_eqb, lt-ltb}
use lib.ListN.{length}
use Rattle.lists.specs.Parts.{part}
use Rattle.lists.proofs.Parts.{next, part_part}
use Rattle.rules.specs.declared.Params.{Params}
use Rattle.rules.specs.Parameters.{allowed, frames, page_bytes, frame_bytes, block_bytes}
use Rattle.rules.specs.Numbers.{place_of, region_of, vblock_of}
use Rattle.rules.specs.Tables.{none, ct_at, bt_at, bt_entry}
use Rattle.rules.specs.Pages.{block, frame, page, programmed_down_to}
use Rattle.rules.specs.Regions.{View, view_of, body_at, assigned, frame_of, looks_in, sector_in}
use Rattle.rules.proofs.Sizes.{Sizes, sizes}
use Rattle.rules.proofs.Isolation.{index_low}
use Rattle.rules.proofs.RegionFacts.{Entry}
use Rattle.read_work.specs.Lookup.{block_for, last_for, frame_for, Leads, Lookup, Stands}
use Rattle.read_work.specs.Sectors.{sector_from, Source}

module _ (p : Params) (chip ct bt fst : List ℕ) (c : ℕ) where
  -- the view of the cluster's region
  abbrev vw : View
  vw = view_of p chip ct bt fst (region_of p c)

  pub seg_is : vw.seg_of c ≡ ct_at ct c
  unfolding view_of
  seg_is = rw (eq-eqb (region_of p c) (region_of p c) refl)

  body_none : vblock_of p (ct_at ct c) < p.gamma → block_for p ct bt c ≡ none → vw.body (vblock_of p (ct_at ct c)) ≡ []
  unfolding view_of body_at block_for
  body_none h e = rw (lt-ltb (vblock_of p (ct_at ct c)) p.gamma h, e)

  pub body_some : vblock_of p (ct_at ct c) < p.gamma → (block_for p ct bt c ≡ none → ⊥) → vw.body (vblock_of p (ct_at ct c)) ≡ block p chip (block_for p ct bt c)
  unfolding view_of body_at block_for
  body_some h ne = rw (lt-ltb (vblock_of p (ct_at ct c)) p.gamma h, ne_eqb (bt_at p bt (region_of p c) (vblock_of p (ct_at ct c))) none ne)

  -- ---- a CT entry that keeps the rules leads to the cluster's frame

  module _ (z : Sizes p) (names : (i : ℕ) → i < p.mu * p.gamma → (bt_entry bt i ≡ none) ⊎ (bt_entry bt i < p.N)) (e : Entry p vw c) where
    vblock_low_lem : vblock_of p (ct_at ct c) < p.gamma
    vblock_low_lem = (div-lt_iff_lt-mul z.segments).1 (rw seg_is at e.low)

    has : block_for p ct bt c ≡ none → ⊥
    unfolding assigned
    has n = false≢true (rw (seg_is, body_none vblock_low_lem n) at e.has)

    block_low_lem : block_for p ct bt c < p.N
    unfolding block_for bt_at
    block_low_lem = go (names (region_of p c * p.gamma + vblock_of p (ct_at ct c)) (index_low p (region_of p c) (vblock_of p (ct_at ct c)) (mod-lt c z.regions) vblock_low_lem))
      where
        go : (block_for p ct bt c ≡ none) ⊎ (block_for p ct bt c < p.N) → block_for p ct bt c < p.N
        go (inl n) = absurd (has n)
        go (inr h) = h

    leads : Leads p chip ct bt c
    leads = record { vblock = vblock_low_lem; block = block_low_lem; held = unfold last_for in rw (seg_is, body_some vblock_low_lem has) at e.held }

  pub lookup_of : allowed p ≡ true → length chip ≡ p.N * block_bytes p → length ct ≡ p.C → length bt ≡ p.mu * p.gamma → c < p.C
      → ((i : ℕ) → i < p.mu * p.gamma → (bt_entry bt i ≡ none) ⊎ (bt_entry bt i < p.N)) → (vw.seg_of c ≡ none) ⊎ Entry p vw c → Lookup p chip ct bt c
  lookup_of fine chip_length ct_length bt_length low names entry =
      record { fine = fine; chip_length = chip_length; ct_length = ct_length; bt_length = bt_length; low = low; leads = go entry }
    where
      go : (vw.seg_of c ≡ none) ⊎ Entry p vw c → (ct_at ct c ≡ none → ⊥) → Leads p chip ct bt c
      go (inl n) ne = absurd (ne (sym seg_is ∙ n))
      go (inr e) ne = leads (sizes p fine) names e

  -- ---- what is looked at on the way

  pub looks_none : ct_at ct c ≡ none → looks_in p vw c ≡ 0
  unfolding looks_in
  looks_none e = rw (seg_is, eq-eqb (ct_at ct c) none e)

  -- the frames of the block that has the segment
  pub looks_there : p.N ≤ 65535 → (ct_at ct c ≡ none → ⊥) → Leads p chip ct bt c
      → looks_in p vw c ≡ programmed_down_to p (block p chip (block_for p ct bt c)) (place_of p (ct_at ct c)) (last_for p chip ct bt c)
  unfolding looks_in last_for
  looks_there few ne k =
      let some : block_for p ct bt c ≡ none → ⊥ = λ e. omega (arith, e, k.block, few) in
      rw (seg_is, ne_eqb (ct_at ct c) none ne, body_some k.vblock some)

  -- ---- what is found is the valid frame

  module _ (l : Lookup p chip ct bt c) where
    -- every frame of the chip ends on it
    frame_end : (n : ℕ) → n < p.N * frames p → n * frame_bytes p + frame_bytes p ≤ length chip
    unfolding block_bytes
    frame_end n h = omega (arith, l.chip_length, next (frame_bytes p) n (p.N * frames p) h)

    number_low : (ct_at ct c ≡ none → ⊥) → frame_for p chip ct bt c < p.N * frames p
    unfolding frame_for
    number_low ne = let k = l.leads ne in omega (arith, next (frames p) (block_for p ct bt c) p.N k.block, k.held)

    -- the cluster's valid frame in the view is that frame of the chip
    pub frame_is : (ct_at ct c ≡ none → ⊥) → frame_of p vw c ≡ part (frame_bytes p) (frame_for p chip ct bt c) chip
    unfolding frame_of frame frame_for last_for
    frame_is ne =
        let k = l.leads ne in
        let some : block_for p ct bt c ≡ none → ⊥ = λ e. omega (arith, e, k.block, (sizes p l.fine).blocks) in
        rw (seg_is, body_some k.vblock some) (unfold block block_bytes in part_part (frame_bytes p) (frames p) (block_for p ct bt c) _ chip k.held)

    module _ (kept : Bool) (frame : ℕ) (s : Stands p chip ct bt c kept frame) where
      pub source : Source p chip kept frame
      source = record { fine = l.fine; fits = λ k. go k (eqb (ct_at ct c) none) refl }
        where
          go : kept ≡ true → (t : Bool) → eqb (ct_at ct c) none ≡ t → frame * frame_bytes p + frame_bytes p ≤ length chip
          go k true e = absurd (false≢true (rw (s.has, e) at k))
          go k false e = rw (s.at, e) (frame_end _ (number_low (eqb-false _ _ e)))

      pub sector_same : (j : ℕ) → j < p.alpha → sector_from p chip kept frame j ≡ sector_in p vw c j
      sector_same j h = go (eqb (ct_at ct c) none) refl
        where
          go : (t : Bool) → eqb (ct_at ct c) none ≡ t → sector_from p chip kept frame j ≡ sector_in p vw c j
          go true e = unfold sector_from sector_in in rw (s.has, seg_is, e)
          go false e =
              unfold sector_from sector_in page in
              rw (s.has, s.at, seg_is, e, frame_is (eqb-false _ _ e)) (unfold frame_bytes in rw (part_part (page_bytes p) p.alpha (frame_for p chip ct bt c) j chip h))
