-- A region's rules, of its view and of the lent tables: the same where every entry of BT is none or names a block.
-- Assumes nothing.
use mathlib.Core.Path.{ap, refl, sym, ◌≡◌}
use mathlib.Core.Logic.{inl, inr, ◌⊎◌}
use mathlib.Core.Bool.{◌&&◌, Bool, and-true, cond, false, not, true, ◌||◌}
use mathlib.Core.List.{List, []}
use Prim.Native.Nat.{◌*◌, ◌-◌, ◌<◌, ℕ}
use native.Mathlib.Decide.{ℕ_discrete}
use native.Mathlib.Nat.{div-lt_iff_lt-mul}
use native.Mathlib.Omega.{arith}
use lib.Dec.{eqb, ltb}
use lib.ListN.{length}
use borrow.Author.Tests.{eq-eqb, lt-ltb, ltb-true, ne_eqb}
use Rattle.lists.specs.Below.{all_below, all_true}
use Rattle.lists.proofs.Parts.{next}
use Rattle.lists.proofs.Tests.{all_cong, and_right, so}
use Rattle.rules.specs.declared.Params.{Params}
use Rattle.rules.specs.Numbers.{place_of, region_of, segment_of, vblock_of}
use Rattle.rules.specs.Orderly.{block_rule, entry_rule, full_rule, open_rule, region_fst}
use Rattle.rules.specs.Pages.{block, filled, frame, last_in, programmed}
use Rattle.rules.specs.Parameters.{block_bytes, frames}
use Rattle.rules.specs.Regions.{assigned, body_at, view, view_of}
use Rattle.rules.specs.Tables.{Board, bt_at, ct_at, fst_at, none}
use Rattle.rules.proofs.RegionFacts.{last_full}
use Rattle.rules.proofs.Replays.{block_size}
use Rattle.rules.proofs.Sizes.{Sizes}
use Rattle.rules.proofs.Views.{some_bytes}
use Rattle.check_tables.specs.Entries.{empty_at}
use Rattle.check_rules.specs.Check.{cluster_ok, fst_ok, full_ok, open_ok, segment_ok}

not_not : (t : Bool) → not (not t) ≡ t
not_not true = refl
not_not false = refl

-- every entry that is not none names a block, and the chip has them all
pub record Names (p : Params) (b : Board) : Type 0 where
  pub fine : Sizes p
  pub chip_length : length b.chip ≡ p.N * block_bytes p
  pub low : (r v : ℕ) → r < p.mu → v < p.gamma → (bt_at p b.bt r v ≡ none → ⊥) → bt_at p b.bt r v < p.N

module _ (p : Params) (b : Board) (t : Names p b) (r : ℕ) (region : r < p.mu) where
  body_none : (v : ℕ) → bt_at p b.bt r v ≡ none → v < p.gamma → (view p b r).body v ≡ []
  unfolding view_of body_at bt_at
  body_none v e h = rw (lt-ltb v p.gamma h, e)

  pub body_is : (v : ℕ) → v < p.gamma → (bt_at p b.bt r v ≡ none → ⊥) → (view p b r).body v ≡ block p b.chip (bt_at p b.bt r v)
  unfolding view_of body_at bt_at
  body_is v h ne = rw (lt-ltb v p.gamma h, ne_eqb (bt_at p b.bt r v) none ne)

  pub assigned_no : (v : ℕ) → v < p.gamma → bt_at p b.bt r v ≡ none → assigned (view p b r) v ≡ false
  unfolding assigned
  assigned_no v h e = rw (body_none v e h)

  pub assigned_yes : (v : ℕ) → v < p.gamma → (bt_at p b.bt r v ≡ none → ⊥) → assigned (view p b r) v ≡ true
  unfolding assigned
  assigned_yes v h ne =
      rw (body_is v h ne, block_size p b.chip (bt_at p b.bt r v) (rw t.chip_length (next (block_bytes p) _ p.N (t.low r v region h ne))))
      (lt-ltb 0 (block_bytes p) (some_bytes p t.fine.some t.fine.sectors))

  assigned_is : (v : ℕ) → v < p.gamma → assigned (view p b r) v ≡ not (eqb (bt_at p b.bt r v) none)
  assigned_is v h = go (ℕ_discrete (bt_at p b.bt r v) none)
    where
      go : Dec (bt_at p b.bt r v ≡ none) → assigned (view p b r) v ≡ not (eqb (bt_at p b.bt r v) none)
      go (yes e) = rw (assigned_no v h e, eq-eqb (bt_at p b.bt r v) none e)
      go (no e) = rw (assigned_yes v h e, ne_eqb (bt_at p b.bt r v) none e)

  -- the region's blocks pass their rule
  abbrev pub Used : Type 0
  Used = (v : ℕ) → v < p.gamma → (bt_at p b.bt r v ≡ none → ⊥) → block_rule p r v (block p b.chip (bt_at p b.bt r v)) ≡ true

  full_same : Used → (o v : ℕ) → v < p.gamma → vblock_of p (view p b r).last_seg ≡ o → full_rule p (view p b r) v ≡ full_ok p b.chip b.bt r o v
  unfolding full_rule full_ok
  full_same used o v h e = rw e (go (so (eqb v o)) (ℕ_discrete (bt_at p b.bt r v) none))
    where
      go : (eqb v o ≡ true) ⊎ (eqb v o ≡ false) → Dec (bt_at p b.bt r v ≡ none)
          → eqb v o || (not (assigned (view p b r) v) || eqb (filled p ((view p b r).body v)) (frames p)) ≡ cond (eqb v o) true
          (cond (eqb (bt_at p b.bt r v) none) true (programmed p (frame p (block p b.chip (bt_at p b.bt r v)) (frames p - 1))))
      go (inl a) d = rw a
      go (inr a) (yes d) = rw (a, assigned_no v h d, eq-eqb (bt_at p b.bt r v) none d)
      go (inr a) (no d) = rw (a, assigned_yes v h d, ne_eqb (bt_at p b.bt r v) none d, body_is v h d) (last_full p t.fine r v _ (used v h d))

  last_rest : (sg : ℕ) → (x : Bool) → vblock_of p sg < p.gamma → (x ≡ all_below p.gamma (full_ok p b.chip b.bt r (vblock_of p sg))) → Dec (bt_at p b.bt r (vblock_of p sg) ≡ none)
      → assigned (view p b r) (vblock_of p sg) && (eqb sg (segment_of p (vblock_of p sg) (filled p ((view p b r).body (vblock_of p sg)) - 1)) && (x && true))
      ≡ not (eqb (bt_at p b.bt r (vblock_of p sg)) none) &&
      (eqb sg (segment_of p (vblock_of p sg) (filled p (block p b.chip (bt_at p b.bt r (vblock_of p sg))) - 1)) && all_below p.gamma
      (full_ok p b.chip b.bt r (vblock_of p sg)))
  last_rest sg x h f (yes d) = rw (assigned_no (vblock_of p sg) h d, eq-eqb (bt_at p b.bt r (vblock_of p sg)) none d)
  last_rest sg x h f (no d) = rw (assigned_yes (vblock_of p sg) h d, ne_eqb (bt_at p b.bt r (vblock_of p sg)) none d, body_is (vblock_of p sg) h d, and-true x, f)

  vblock_low_lem : (sg : ℕ) → ltb sg (p.gamma * p.d) ≡ true → vblock_of p sg < p.gamma
  vblock_low_lem sg a = (div-lt_iff_lt-mul t.fine.segments).1 (ltb-true sg (p.gamma * p.d) a)

  last_go : (sg : ℕ) → (x : Bool) → (vblock_of p sg < p.gamma → x ≡ all_below p.gamma (full_ok p b.chip b.bt r (vblock_of p sg))) → (ltb sg (p.gamma * p.d) ≡ true)
      ⊎ (ltb sg (p.gamma * p.d) ≡ false)
      → ltb sg (p.gamma * p.d) && (assigned (view p b r) (vblock_of p sg) && (eqb sg (segment_of p (vblock_of p sg) (filled p ((view p b r).body (vblock_of p sg)) - 1)) && (x && true)))
      ≡ open_ok p b.chip b.bt r sg
  unfolding open_ok
  last_go sg x f (inr a) = rw a
  last_go sg x f (inl a) = rw a (last_rest sg x (vblock_low_lem sg a) (f (vblock_low_lem sg a)) (ℕ_discrete (bt_at p b.bt r (vblock_of p sg)) none))

  last_same : Used → open_rule p (view p b r) ≡ open_ok p b.chip b.bt r (view p b r).last_seg
  unfolding open_rule all_true
  last_same used =
      last_go (view p b r).last_seg (all_below p.gamma (full_rule p (view p b r)))
      (λ h. all_cong p.gamma (full_rule p (view p b r)) (full_ok p b.chip b.bt r (vblock_of p (view p b r).last_seg)) (λ v k. full_same used (vblock_of p (view p b r).last_seg) v k refl))
      (so (ltb (view p b r).last_seg (p.gamma * p.d)))

  seg_of_lem : (view p b r).last_seg ≡ fst_at b.fst r
  unfolding view_of fst_at
  seg_of_lem = refl

  pub open_same : Used → region_fst p (view p b r) ≡ fst_ok p b.chip b.bt b.fst r
  unfolding region_fst fst_ok empty_at
  open_same used =
      rw (all_cong p.gamma (λ v. not (assigned (view p b r) v)) (λ v. eqb (bt_at p b.bt r v) none) (λ v h. rw (assigned_is v h) (not_not _)), last_same)
      (ap (λ (s : ℕ). cond (all_below p.gamma (λ v. eqb (bt_at p b.bt r v) none)) (eqb s none) (open_ok p b.chip b.bt r s)) seg_of_lem)

  -- a cluster of the region
  pub entry_same : (c : ℕ) → region_of p c ≡ r → eqb ((view p b r).seg_of c) none || entry_rule p (view p b r) c ≡ cluster_ok p b.chip b.ct b.bt r c
  unfolding entry_rule cluster_ok segment_ok all_true
  entry_same c e = rw seg (go (ct_at b.ct c) (so (eqb (ct_at b.ct c) none)) (so (ltb (ct_at b.ct c) (p.gamma * p.d))))
    where
      seg : (view p b r).seg_of c ≡ ct_at b.ct c
      seg = unfold view_of in rw (eq-eqb (region_of p c) r e)

      rest : (sg : ℕ) → vblock_of p sg < p.gamma → Dec (bt_at p b.bt r (vblock_of p sg) ≡ none)
          → assigned (view p b r) (vblock_of p sg) && (ltb (last_in p ((view p b r).body (vblock_of p sg)) (place_of p sg) c) (frames p) && true)
          ≡ not (eqb (bt_at p b.bt r (vblock_of p sg)) none) && ltb (last_in p (block p b.chip (bt_at p b.bt r (vblock_of p sg))) (place_of p sg) c) (frames p)
      rest sg h (yes d) = rw (assigned_no (vblock_of p sg) h d, eq-eqb (bt_at p b.bt r (vblock_of p sg)) none d)
      rest sg h (no d) = rw (assigned_yes (vblock_of p sg) h d, ne_eqb (bt_at p b.bt r (vblock_of p sg)) none d, body_is (vblock_of p sg) h d) (and-true _)

      go : (sg : ℕ) → (eqb sg none ≡ true) ⊎ (eqb sg none ≡ false) → (ltb sg (p.gamma * p.d) ≡ true) ⊎ (ltb sg (p.gamma * p.d) ≡ false)
          → eqb sg none || (ltb sg (p.gamma * p.d) && (assigned (view p b r) (vblock_of p sg) && (ltb (last_in p ((view p b r).body (vblock_of p sg)) (place_of p sg) c) (frames p) && true)))
          ≡ cond (eqb sg none) true (ltb sg (p.gamma * p.d) &&
          (not (eqb (bt_at p b.bt r (vblock_of p sg)) none) && ltb (last_in p (block p b.chip (bt_at p b.bt r (vblock_of p sg))) (place_of p sg) c) (frames p)))
      go sg (inl x) y = rw x
      go sg (inr x) (inr y) = rw (x, y)
      go sg (inr x) (inl y) = rw (x, y) (rest sg (vblock_low_lem sg y) (ℕ_discrete (bt_at p b.bt r (vblock_of p sg)) none))

  -- a cluster of another region
  pub entry_other : (c : ℕ) → (region_of p c ≡ r → ⊥) → eqb ((view p b r).seg_of c) none ≡ true
  unfolding view_of
  entry_other c ne = rw (ne_eqb (region_of p c) r ne)
