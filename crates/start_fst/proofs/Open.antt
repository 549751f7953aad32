-- A region's blocks by BT and by the view: which have a block, which are open, and which one FST goes by.
-- Assumes nothing.
use mathlib.Core.Path.{◌≡◌, sym, ◌∙◌}
use mathlib.Core.Logic.{◌⊎◌, inl, inr}
use mathlib.Core.Bool.{Bool, true, false, not}
use mathlib.Core.List.{List}
use Prim.Native.Nat.{ℕ, ◌+◌, ◌-◌, ◌*◌, ◌≤◌, ◌<◌}
use native.Mathlib.Decide.{ℕ_discrete}
use native.Mathlib.Omega.{arith}
use lib.Dec.{eqb}
use lib.ListN.{length}
use borrow.Author.Tests.{eq-eqb, lt-ltb, ne_eqb}
use Rattle.lists.specs.Below.{first_below}
use Rattle.lists.proofs.Parts.{next}
use Rattle.lists.proofs.Searches.{first_cong, first_spec}
use Rattle.lists.proofs.Tests.{and_left, never}
use Rattle.rules.specs.declared.Params.{Params}
use Rattle.rules.specs.Parameters.{block_bytes, frames}
use Rattle.rules.specs.Numbers.{segment_of}
use Rattle.rules.specs.Tables.{bt_at, none, not_found}
use Rattle.rules.specs.Pages.{block, filled, frame, is_full, programmed}
use Rattle.rules.specs.Regions.{View, assigned}
use Rattle.rules.specs.Start.{found_fst, found_view, is_open}
use Rattle.rules.proofs.Frames.{seg_low}
use Rattle.rules.proofs.RegionFacts.{block_in, filled_le, last_full}
use Rattle.rules.proofs.Replays.{block_size}
use Rattle.rules.proofs.Sizes.{Sizes, sizes}
use Rattle.rules.proofs.TableFacts.{chip_size}
use Rattle.rules.proofs.Views.{some_bytes}
use Rattle.start_found.specs.Found.{Found}
use Rattle.start_found.proofs.Views.{body_none, body_some}
use Rattle.start_fst.specs.Open.{open_vblock}

module _ (p : Params) (chip bt : List ℕ) (a : Found p chip bt) (r : ℕ) (region : r < p.mu) where
  z : Sizes p
  z = sizes p a.fine

  abbrev vw : View
  vw = found_view p chip bt r

  -- ---- one virtual block

  module _ (v : ℕ) (low : v < p.gamma) where
    lacks : bt_at p bt r v ≡ none → assigned vw v ≡ false
    unfolding assigned
    lacks e = rw (body_none p chip bt r v low e)

    has : (bt_at p bt r v ≡ none → ⊥) → assigned vw v ≡ true
    unfolding assigned
    has ne =
        let fits : bt_at p bt r v * block_bytes p + block_bytes p ≤ length chip = rw (a.chip_length, chip_size p) (next (block_bytes p) (bt_at p bt r v) p.N (a.named r v region low ne).0) in
        rw (body_some p chip bt r v low ne, block_size p chip (bt_at p bt r v) fits) (lt-ltb 0 (block_bytes p) (some_bytes p z.some z.sectors))

    -- by BT
    assigned_is : not (eqb (bt_at p bt r v) none) ≡ assigned vw v
    assigned_is = go (ℕ_discrete (bt_at p bt r v) none)
      where
        go : Dec (bt_at p bt r v ≡ none) → not (eqb (bt_at p bt r v) none) ≡ assigned vw v
        go (yes e) = rw (eq-eqb (bt_at p bt r v) none e, lacks e)
        go (no e) = rw (ne_eqb (bt_at p bt r v) none e, has e)

    pub assigned_has : assigned vw v ≡ true → bt_at p bt r v ≡ none → ⊥
    assigned_has t e = never t (lacks e)

    -- over the block that the code has
    module _ (n : ℕ) (is : n ≡ bt_at p bt r v) where
      pub not_open : n ≡ none → false ≡ is_open p vw v
      unfolding is_open
      not_open e = rw (lacks (sym is ∙ e))

      module _ (ne : n ≡ none → ⊥) where
        pub block_low_lem : n < p.N
        block_low_lem = rw is (a.named r v region low (λ e. ne (is ∙ e))).0

        pub open_is : (blk : List ℕ) (full : Bool) → blk ≡ block p chip n → full ≡ programmed p (frame p blk (frames p - 1)) → not full ≡ is_open p vw v
        unfolding is_open is_full
        open_is blk full e q =
            let ne' : bt_at p bt r v ≡ none → ⊥ = λ x. ne (is ∙ x) in
            rw (has ne', body_some p chip bt r v low ne', last_full p z r v (block p chip (bt_at p bt r v)) (a.named r v region low ne').1, q, e, is)

        -- it has a programmed frame
        pub some_filled : (blk : List ℕ) (k : ℕ) → blk ≡ block p chip n → k ≡ filled p blk → (0 < k) × (k ≤ 256)
        some_filled blk k e q =
            let u = block_in p r v (block p chip (bt_at p bt r v)) (a.named r v region low (λ x. ne (is ∙ x))).1 in
            rw (q, e, is) (u.0, omega (arith, filled_le p (block p chip (bt_at p bt r v)), z.short))

        pub segment_low : (blk : List ℕ) (k sg : ℕ) → blk ≡ block p chip n → k ≡ filled p blk → sg ≡ segment_of p v (k - 1) → sg < 65536
        segment_low blk k sg e q s =
            let w = some_filled blk k e q in
            let h : k - 1 < frames p = omega (arith, w.0, q, filled_le p blk) in
            omega (arith, s, seg_low p z v (k - 1) h low, z.few)

  -- ---- the one that FST goes by

  pub named_first : first_below not_found p.gamma (λ v. not (eqb (bt_at p bt r v) none)) ≡ first_below not_found p.gamma (assigned vw)
  named_first = first_cong not_found p.gamma _ _ (λ v h. assigned_is v h)

  pub open_first : (v : ℕ) → (v ≡ first_below not_found p.gamma (is_open p vw)) × (v < p.gamma) → (v ≡ open_vblock p vw) × (v < p.gamma)
  unfolding open_vblock
  open_first v w = (rw (← w.0, ne_eqb v not_found (λ e. omega (arith, w.1, e, z.gamma_high))), w.1)

  pub open_else : first_below not_found p.gamma (is_open p vw) ≡ not_found
      → first_below not_found p.gamma (λ v. not (eqb (bt_at p bt r v) none)) ≡ open_vblock p vw
  unfolding open_vblock
  open_else n = rw n named_first

  few : p.gamma ≤ not_found
  few = omega (arith, z.gamma_high)

  -- where there is one, it is a virtual block with a block
  pub open_spec : (v : ℕ) → v ≡ open_vblock p vw → (v ≡ not_found → ⊥) → (v < p.gamma) × (bt_at p bt r v ≡ none → ⊥)
  unfolding open_vblock
  open_spec v e ne = go (first_spec not_found p.gamma (is_open p vw) few) (first_spec not_found p.gamma (assigned vw) few)
    where
      o : ℕ
      o = first_below not_found p.gamma (is_open p vw)

      l : ℕ
      l = first_below not_found p.gamma (assigned vw)

      go : ((o ≡ not_found) × ((i : ℕ) → i < p.gamma → is_open p vw i ≡ false)) ⊎ ((o < p.gamma) × (is_open p vw o ≡ true))
          → ((l ≡ not_found) × ((i : ℕ) → i < p.gamma → assigned vw i ≡ false)) ⊎ ((l < p.gamma) × (assigned vw l ≡ true))
          → (v < p.gamma) × (bt_at p bt r v ≡ none → ⊥)
      go (inr w) x =
          let q : v ≡ o = e ∙ rw (ne_eqb o not_found (λ y. omega (arith, w.0, y, few))) in
          rw q (w.0, assigned_has o w.0 (unfold is_open in and_left (assigned vw o) _ w.1))
      go (inl w) (inl x) = absurd (ne (e ∙ rw (eq-eqb o not_found w.0) x.0))
      go (inl w) (inr x) =
          let q : v ≡ l = e ∙ rw (eq-eqb o not_found w.0) in
          rw q (x.0, assigned_has l x.0 x.1)

  pub fst_none : open_vblock p vw ≡ not_found → none ≡ found_fst p vw
  unfolding found_fst open_vblock
  fst_none n = rw n

  fst_is_lem : (v : ℕ) → v ≡ open_vblock p vw → (v ≡ not_found → ⊥) → segment_of p v (filled p (vw.body v) - 1) ≡ found_fst p vw
  unfolding found_fst open_vblock
  fst_is_lem v e ne = rw (← e, ne_eqb v not_found ne)

  pub fst_some : (v : ℕ) → v ≡ open_vblock p vw → (v ≡ not_found → ⊥) → (sg : ℕ) → sg ≡ segment_of p v (filled p (block p chip (bt_at p bt r v)) - 1) → sg ≡ found_fst p vw
  fst_some v e ne sg s =
      let w = open_spec v e ne in
      s ∙ rw (← body_some p chip bt r v w.0 w.1) (fst_is_lem v e ne)
