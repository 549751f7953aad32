-- The rules of the used blocks, of FST and of CT, of the views of the regions and of the lent tables: the same where the rules before them hold.
-- Assumes nothing.
use mathlib.Core.Path.{refl, sym, ◌≡◌}
use mathlib.Core.Bool.{not, true, ◌||◌}
use Prim.Native.Nat.{◌<◌, ℕ}
use native.Mathlib.Decide.{ℕ_discrete}
use native.Mathlib.Nat.{mod-lt}
use lib.Dec.{eqb}
use borrow.Author.Tests.{eq-eqb, ne_eqb}
use Rattle.lists.specs.Below.{all_below}
use Rattle.lists.proofs.Tests.{all_at, all_cong}
use Rattle.rules.specs.declared.Params.{Params}
use Rattle.rules.specs.Numbers.{region_of}
use Rattle.rules.specs.Orderly.{block_rule, blocks_rule, cluster_rule, ct_rule, entry_rule, fst_rule, region_blocks, region_fst}
use Rattle.rules.specs.Pages.{block}
use Rattle.rules.specs.Regions.{assigned, view}
use Rattle.rules.specs.Tables.{Board, bt_at, none}
use Rattle.check_rules.specs.Check.{Lent, cluster_ok, fst_ok}
use Rattle.check_rules.proofs.Same.{Names, assigned_no, assigned_yes, body_is, entry_same, open_same}
use Rattle.check_blocks.proofs.Blocks.{names_in}
use Rattle.check_broken.specs.Tests.{block_ok, region_blocks_ok}

module _ (p : Params) (b : Board) (t : Lent p b.chip b.bt) where
  names : Names p b
  names = names_in p b t

  block_same : (r : ℕ) → r < p.mu → (v : ℕ) → v < p.gamma → block_ok p b.chip b.bt r v ≡ not (assigned (view p b r) v) || block_rule p r v ((view p b r).body v)
  unfolding block_ok
  block_same r h v hv = go (ℕ_discrete (bt_at p b.bt r v) none)
    where
      go : Dec (bt_at p b.bt r v ≡ none) → eqb (bt_at p b.bt r v) none || block_rule p r v (block p b.chip (bt_at p b.bt r v)) ≡ not (assigned (view p b r) v) ||
          block_rule p r v ((view p b r).body v)
      go (yes e) = rw (assigned_no p b names r h v hv e, eq-eqb (bt_at p b.bt r v) none e)
      go (no e) = rw (assigned_yes p b names r h v hv e, body_is p b names r h v hv e, ne_eqb (bt_at p b.bt r v) none e)

  -- the used blocks
  pub blocks_same : all_below p.mu (region_blocks_ok p b.chip b.bt) ≡ blocks_rule p b
  unfolding blocks_rule region_blocks region_blocks_ok
  blocks_same =
      all_cong p.mu _ (λ r. all_below p.gamma (λ v. not (assigned (view p b r) v) || block_rule p r v ((view p b r).body v)))
      (λ r h. all_cong p.gamma (block_ok p b.chip b.bt r) _ (block_same r h))

  -- FST, where the used blocks are as they should be
  pub fsts_same : all_below p.mu (region_blocks_ok p b.chip b.bt) ≡ true → all_below p.mu (fst_ok p b.chip b.bt b.fst) ≡ fst_rule p b
  unfolding fst_rule region_blocks_ok block_ok
  fsts_same k = all_cong p.mu _ (λ r. region_fst p (view p b r)) (λ r h. sym (open_same p b names r h (used r h)))
    where
      used : (r : ℕ) → r < p.mu → (v : ℕ) → v < p.gamma → (bt_at p b.bt r v ≡ none → ⊥) → block_rule p r v (block p b.chip (bt_at p b.bt r v)) ≡ true
      used r h v hv ne =
          rw (ne_eqb (bt_at p b.bt r v) none ne) at
          (all_at p.gamma (λ v. eqb (bt_at p b.bt r v) none || block_rule p r v (block p b.chip (bt_at p b.bt r v))) (all_at p.mu (region_blocks_ok p b.chip b.bt) k r h) v hv)

  -- CT
  pub cts_same : all_below p.C (λ c. cluster_ok p b.chip b.ct b.bt (region_of p c) c) ≡ ct_rule p b
  unfolding ct_rule cluster_rule
  cts_same =
      all_cong p.C _ (λ c. eqb ((view p b (region_of p c)).seg_of c) none || entry_rule p (view p b (region_of p c)) c)
      (λ c h. sym (entry_same p b names (region_of p c) (mod-lt c names.fine.regions) c refl))
