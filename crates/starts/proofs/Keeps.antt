-- A start on a board that stands keeps it: its own chip shows it, with no block left over.
-- Assumes nothing.
use mathlib.Core.Path.{◌≡◌, refl, sym, ap, ◌∙◌}
use mathlib.Core.Logic.{◌⊎◌, inl, inr}
use Prim.Native.Nat.{ℕ, zero, suc, ◌*◌, ◌/◌, ◌%◌, ◌≤◌, ◌<◌}
use native.Mathlib.Nat.{div-add-mod', div-lt_iff_lt-mul, mod-lt}
use native.Mathlib.Omega.{arith}
use mathlib.Core.Bool.{true, false, cond}
use mathlib.Core.List.{[]}
use lib.Dec.{eqb}
use lib.ListN.{replicate}
use Rattle.lists.proofs.Lists.{list_is}
use Rattle.lists.proofs.Tests.{so}
use Rattle.rules.specs.declared.Params.{Params}
use Rattle.rules.specs.Numbers.{region_of}
use Rattle.rules.specs.Tables.{Board, bst_at, bt_at, bt_entry, ct_at, none}
use Rattle.rules.specs.Regions.{sector, sector_in, view}
use Rattle.rules.specs.Orderly.{named}
use Rattle.rules.specs.Traces.{erased_state, replay_chip, replay_wear}
use Rattle.rules.specs.Format.{bad}
use Rattle.rules.specs.Start.{found_bt, kept_block, left_over, start_ops, started}
use Rattle.rules.proofs.Continues.{segs_in}
use Rattle.rules.proofs.RegionFacts.{Entry}
use Rattle.rules.proofs.Sizes.{Sizes, sizes}
use Rattle.rules.proofs.TableFacts.{Tables, named_in, named_out}
use Rattle.starts.specs.Keeps.{StartKeeps}
use Rattle.starts.specs.Stands.{Clear, Stands}
use Rattle.starts.proofs.Latest.{latest_is}
use Rattle.starts.proofs.Returns.{bad_is, returns_admitted, returns_bodies, returns_clear, returns_live, returns_read, returns_stands}
use Rattle.starts.proofs.Shows.{kept_is}
use Rattle.starts.proofs.ShowsStarts.{no_erase, none_left}
use Rattle.starts.proofs.Steady.{Shown, Steady, own_shown, stands_steady}

module _ (p : Params) (b : Board) (st : Stands p b) where
  z : Sizes p
  z = sizes p st.fine

  steady : Steady p b
  steady = stands_steady p b st

  t : Tables p b
  t = steady.tables

  shown : Shown p b.chip b p.N
  shown = own_shown p z b steady

  -- ---- the chip

  operations : start_ops p b.chip b.wear ≡ []
  operations = no_erase p z b.chip b t shown.shows b.wear

  chip : (started p b).chip ≡ b.chip
  unfolding started
  chip = rw operations (unfold replay_chip in refl)

  wear : (started p b).wear ≡ b.wear
  unfolding started
  wear = rw operations (unfold replay_wear in refl)

  -- ---- BT and BST

  found_entry : (i : ℕ) → i < p.mu * p.gamma → bt_entry b.bt i ≡ kept_block p b.chip (i / p.gamma) (i % p.gamma)
  found_entry i h =
      sym (kept_is p z b.chip b t p.N shown.shows (i / p.gamma) (i % p.gamma) ((div-lt_iff_lt-mul z.vblocks).1 h) (mod-lt i z.vblocks)
      ∙ unfold bt_at in ap (bt_entry b.bt) (div-add-mod' i p.gamma))

  bt : found_bt p b.chip ≡ b.bt
  unfolding found_bt bt_entry
  bt = sym (list_is none (p.mu * p.gamma) (λ i. kept_block p b.chip (i / p.gamma) (i % p.gamma)) b.bt t.bt_length found_entry)

  -- a block's kind is told by whether it is bad, and whether BT names it
  kind : (n : ℕ) → n < p.N → bst_at b.bst n ≡ cond (bad p b.chip n) 2 (cond (named p (found_bt p b.chip) n) 1 0)
  kind n h = rw (bad_is p st.fine b b p.N st.lengths steady shown n h, bt) (go (bst_at b.bst n) refl (t.kinds n h))
    where
      free : bst_at b.bst n ≡ 0 → named p b.bt n ≡ false
      free e = pick (so (named p b.bt n))
        where
          pick : (named p b.bt n ≡ true) ⊎ (named p b.bt n ≡ false) → named p b.bt n ≡ false
          pick (inl k) = let w = named_in p b n k in absurd (omega (arith, e, t.used_back w.0 w.1 n h w.2))
          pick (inr k) = k

      go : (k : ℕ) → bst_at b.bst n ≡ k → k ≤ 2 → bst_at b.bst n ≡ cond (eqb (bst_at b.bst n) 2) 2 (cond (named p b.bt n) 1 0)
      go zero e l = rw (free e, e)
      go (suc zero) e l = let w = t.used n h e in rw (named_out p b n w.0 w.1 w.2, e)
      go (suc (suc zero)) e l = rw e
      go (suc (suc (suc k))) e l = absurd (omega arith)

  -- and no block is left over
  found_kind_lem : (n : ℕ) → n < p.N → bst_at b.bst n ≡ cond (bad p b.chip n) 2 (cond (named p (found_bt p b.chip) n) 1 (cond (left_over p b.chip n) (erased_state p b.wear n) 0))
  found_kind_lem n h = rw (none_left p z b.chip b t shown.shows n h) (kind n h)

  bst : (started p b).bst ≡ b.bst
  unfolding started bst_at
  bst = sym (list_is 0 p.N (λ n. cond (bad p b.chip n) 2 (cond (named p (found_bt p b.chip) n) 1 (cond (left_over p b.chip n) (erased_state p b.wear n) 0))) b.bst t.bst_length found_kind_lem)

  -- ---- CT, and what is read

  live : (c : ℕ) → c < p.C → (ct_at b.ct c ≡ none → ⊥) → Entry p (view p b (region_of p c)) c
  live c h ne = go (steady.entries (region_of p c) (mod-lt c z.regions) c h)
    where
      go : ((view p b (region_of p c)).seg_of c ≡ none) ⊎ Entry p (view p b (region_of p c)) c → Entry p (view p b (region_of p c)) c
      go (inl e) = absurd (ne (segs_in p b (region_of p c) c refl ∙ e))
      go (inr e) = e

  entries : (c : ℕ) → c < p.C → (ct_at b.ct c ≡ none → ⊥) → ct_at (started p b).ct c ≡ ct_at b.ct c
  entries c h ne =
      segs_in p (started p b) (region_of p c) c refl
      ∙ returns_live p st.fine b b p.N st.lengths steady shown (region_of p c) (mod-lt c z.regions) c h refl (live c h ne)
      ∙ sym (segs_in p b (region_of p c) c refl)

  same : (c : ℕ) → c < p.C → Clear p b c → (j : ℕ) → sector p (started p b) c j ≡ sector p b c j
  same = returns_read p st.fine b b p.N st.lengths steady shown

  without : (c j : ℕ) → ct_at b.ct c ≡ none → sector p b c j ≡ replicate p.s 255
  unfolding sector sector_in
  without c j e = rw (sym (segs_in p b (region_of p c) c refl) ∙ e)

  pub start_keeps : StartKeeps p b
  start_keeps =
      record {
        admitted = returns_admitted p st.fine b b p.N st.lengths steady shown;
        operations = operations;
        chip = chip;
        wear = wear;
        bt = unfold started in bt;
        bst = bst;
        bodies = returns_bodies p st.fine b b p.N st.lengths steady shown;
        entries = entries;
        reads = λ c h ne. same c h (λ n. absurd (ne (segs_in p b (region_of p c) c refl ∙ n)));
        returns = λ c h j. latest_is p st.fine b b p.N st.lengths steady shown c h j;
        blank = λ c h e clear j. same c h clear j ∙ without c j e;
        stands = returns_stands p st.fine b b p.N st.lengths steady shown;
        clear = returns_clear p st.fine b b p.N st.lengths steady shown;
      }
