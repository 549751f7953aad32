-- The pass over the blocks that are not full: what one block makes of BT, the chip and the wear. An entry that is taken is a full block's, since at most one block that is not full names it: so what
-- is erased is what is left over. Blocks further on are as they were, so their heads say what they said.
-- Assumes nothing.
use mathlib.Core.Path.{◌≡◌, refl, sym, ap, ◌∙◌}
use mathlib.Core.Logic.{◌⊎◌, inl, inr}
use mathlib.Core.Bool.{true, false, and-false, cond}
use mathlib.Core.List.{List}
use Prim.Native.Nat.{ℕ, ◌+◌, ◌*◌, ◌/◌, ◌%◌, ◌≤◌, ◌<◌}
use native.Mathlib.Decide.{ℕ_discrete}
use native.Mathlib.Omega.{arith}
use lib.Dec.{eqb}
use lib.ListN.{length, set}
use borrow.Author.Tests.{eq-eqb, ne_eqb}
use Rattle.lists.specs.Below.{first_below}
use Rattle.lists.proofs.Lists.{list_cong}
use Rattle.lists.proofs.Tests.{so}
use Rattle.rules.specs.declared.Params.{Params}
use Rattle.rules.specs.Parameters.{block_bytes}
use Rattle.rules.specs.Tables.{bt_entry, none}
use Rattle.rules.specs.Pages.{block, is_full}
use Rattle.rules.specs.Format.{bad, bad_mark}
use Rattle.rules.specs.Start.{found_bt, full_block, in_use, kept_block, left_over, names, names_open, region_named, start_ops, vblock_named}
use Rattle.rules.proofs.Erases.{Erased, erases_ran, erases_below, next_erased, none_erased, where_below}
use Rattle.rules.proofs.Isolation.{index_low}
use Rattle.rules.proofs.Sizes.{Sizes, sizes}
use Rattle.rules.proofs.TableFacts.{chip_size}
use Rattle.rules.proofs.Writes.{wear_length_lem}
use Rattle.starts.proofs.KeptBlocks.{few, named_region, named_vblock, open_in, open_out, own_names, region_low_lem, sounds, vblock_low_lem}
use Rattle.start_blocks.specs.Named.{BlockAsked, Kept, OpenDone, StartAsked, fulls_to, index_named, only_one, opens_to, too_many}
use Rattle.start_blocks.proofs.Entries.{entries_to, entries_fixed, entries_length, entries_put, entries_skip, entry_here_lem, entry_to, first_alone, region_is_lem, vblock_is_lem}

module _ (p : Params) (chip bt wear : List ℕ) (a : StartAsked p chip bt) where
  z : Sizes p
  z = sizes p a.fine

  abbrev full : ℕ → ℕ
  full i = full_block p chip (i / p.gamma) (i % p.gamma)

  abbrev kept : ℕ → ℕ → ℕ
  kept i x = cond (eqb (full i) none) x (full i)

  abbrev entries : ℕ → List ℕ
  entries = entries_to (p.mu * p.gamma) p.gamma z.vblocks kept (names_open p chip)

  opens_are : (k : ℕ) → opens_to p chip k ≡ entries k
  unfolding opens_to entries_to entry_to
  opens_are k = refl

  -- after k turns
  pub record So (k : ℕ) (chip₁ bt₁ wear₁ : List ℕ) (e : ℕ) : Type 0 where
    pub erased : Erased p (left_over p chip) chip wear k chip₁ wear₁ e
    pub bt_is : bt₁ ≡ opens_to p chip k

  pub opens_start : bt ≡ fulls_to p chip p.N → So 0 chip bt wear 0
  opens_start e = record { erased = none_erased p (left_over p chip) chip wear; bt_is = e ∙ unfold fulls_to opens_to full_block first_below in list_cong (p.mu * p.gamma) _ _ (λ i _. same _) }
    where
      same : (x : ℕ) → x ≡ cond (eqb x none) none x
      same x = go (ℕ_discrete x none)
        where
          go : Dec (x ≡ none) → x ≡ cond (eqb x none) none x
          go (yes q) = rw (eq-eqb x none q) q
          go (no q) = rw (ne_eqb x none q)

  fits : length chip ≡ p.N * block_bytes p
  fits = a.chip_length ∙ chip_size p

  -- every length is what it was
  module _ (k : ℕ) (low : k ≤ p.N) (chip₁ bt₁ wear₁ : List ℕ) (e : ℕ) (so_far : So k chip₁ bt₁ wear₁ e) where
    pub chip_same_lem : length chip₁ ≡ length chip
    chip_same_lem = rw so_far.erased.chip_is (erases_ran p z wear (left_over p chip) chip fits k low).size

    pub bt_same : length bt₁ ≡ length bt
    bt_same = ap length (so_far.bt_is ∙ opens_are k) ∙ entries_length (p.mu * p.gamma) p.gamma z.vblocks kept (names_open p chip) k ∙ sym a.bt_length

    pub wear_same : length wear₁ ≡ length wear
    wear_same = rw so_far.erased.wear_is (wear_length_lem wear (erases_below p wear (left_over p chip) k))

  module _ (k : ℕ) (low : k < p.N) (chip₁ bt₁ wear₁ : List ℕ) (e : ℕ) (so_far : So k chip₁ bt₁ wear₁ e) where
    abbrev blk : List ℕ
    blk = block p chip k

    -- the block is as it was
    block_same : block p chip₁ k ≡ blk
    block_same = rw so_far.erased.chip_is ((erases_ran p z wear (left_over p chip) chip fits k (omega arith)).ahead k (omega arith))

    used_same : in_use p chip₁ k ≡ in_use p chip k
    unfolding in_use bad bad_mark
    used_same = rw block_same

    pub open_asked : BlockAsked p chip₁ bt₁ k
    open_asked =
        record {
          fine = a.fine;
          chip_length = chip_same_lem k (omega arith) _ _ _ _ so_far ∙ a.chip_length;
          bt_length = bt_same k (omega arith) _ _ _ _ so_far ∙ a.bt_length;
          low = low;
          right = λ u. rw block_same (sounds p z chip a.starts k low (sym used_same ∙ u));
        }

    -- what the turn decides, on the chip that was lent and on BT so far
    record Decided : Type 0 where
      gone : too_many p chip₁ bt₁ k ≡ left_over p chip k
      named : cond (only_one p chip₁ bt₁ k) (set bt₁ (index_named p blk) k) bt₁ ≡ opens_to p chip (k + 1)

    skip : ((r v : ℕ) → names_open p chip r v k ≡ false) → bt₁ ≡ opens_to p chip (k + 1)
    skip h = so_far.bt_is ∙ opens_are k ∙ entries_skip (p.mu * p.gamma) p.gamma z.vblocks kept (names_open p chip) k h ∙ sym (opens_are (k + 1))

    unused : in_use p chip k ≡ false → Decided
    unused u =
        record {
          gone = unfold too_many left_over in rw (used_same, u);
          named = unfold only_one in rw (used_same, u) (skip (λ r v. unfold names_open names in rw u));
        }

    filled_up : is_full p blk ≡ true → Decided
    filled_up f =
        record {
          gone = unfold too_many left_over in rw (used_same, block_same, f, and-false);
          named = unfold only_one in rw (block_same, f, and-false) (skip (λ r v. unfold names_open in rw (f, and-false)));
        }

    module _ (u : in_use p chip k ≡ true) (f : is_full p blk ≡ false) where
      abbrev r : ℕ
      r = region_named p blk

      abbrev v : ℕ
      v = vblock_named p blk

      t : names_open p chip r v k ≡ true
      t = open_out p z chip r v k (own_names p z chip k u) f

      lr : r < p.mu
      lr = region_low_lem p z blk

      lv : v < p.gamma
      lv = vblock_low_lem p blk (sounds p z chip a.starts k low u)

      inside : r * p.gamma + v < p.mu * p.gamma
      inside = index_low p r v lr lv

      only : (x y : ℕ) → names_open p chip x y k ≡ true → (x ≡ r) × (y ≡ v)
      only x y q = let w = (open_in p z chip x y k q).0 in (sym (named_region p z chip x y k w), sym (named_vblock p z chip x y k w))

      -- the full block of its entry
      full_is_lem : full (r * p.gamma + v) ≡ full_block p chip r v
      full_is_lem =
          rw (region_is_lem (p.mu * p.gamma) p.gamma z.vblocks kept (names_open p chip) k r v lv inside only, vblock_is_lem (p.mu * p.gamma) p.gamma z.vblocks kept (names_open p chip) k r v lv inside only)

      alone : first_below none k (names_open p chip r v) ≡ none
      alone = first_alone (names_open p chip r v) p.N k (few p z chip a.starts r v lr lv).1 z.blocks low t

      -- what BT has for it: the full block, or none
      entry : bt_entry bt₁ (index_named p blk) ≡ full_block p chip r v
      entry =
          unfold bt_entry index_named in rw (so_far.bt_is, opens_are k)
          (entry_here_lem (p.mu * p.gamma) p.gamma z.vblocks kept (names_open p chip) k r v lv inside only none ∙ rw (full_is_lem, alone) (go (ℕ_discrete (full_block p chip r v) none)))
        where
          go : Dec (full_block p chip r v ≡ none) → cond (eqb (full_block p chip r v) none) none (full_block p chip r v) ≡ full_block p chip r v
          go (yes q) = rw (eq-eqb (full_block p chip r v) none q) (sym q)
          go (no q) = rw (ne_eqb (full_block p chip r v) none q)

      gone_is : too_many p chip₁ bt₁ k ≡ left_over p chip k
      unfolding too_many left_over
      gone_is = rw (used_same, block_same, entry)

      first : full_block p chip r v ≡ none → Decided
      first q =
          record {
            gone = gone_is;
            named = unfold only_one in rw (used_same, block_same, u, f, entry, eq-eqb (full_block p chip r v) none q, so_far.bt_is) put;
          }
        where
          put : set (opens_to p chip k) (index_named p blk) k ≡ opens_to p chip (k + 1)
          put = rw (opens_are k, opens_are (k + 1)) (unfold index_named in entries_put (p.mu * p.gamma) p.gamma z.vblocks kept (names_open p chip) k r v lv inside only t alone (rw (full_is_lem, eq-eqb (full_block p chip r v) none q)))

      second : (full_block p chip r v ≡ none → ⊥) → Decided
      second q =
          record {
            gone = gone_is;
            named = unfold only_one in rw (used_same, block_same, u, f, entry, ne_eqb (full_block p chip r v) none q) stays;
          }
        where
          stays : bt₁ ≡ opens_to p chip (k + 1)
          stays =
              so_far.bt_is
              ∙ opens_are k
              ∙ entries_fixed (p.mu * p.gamma) p.gamma z.vblocks kept (names_open p chip) k r v lv inside only (λ x y. rw (full_is_lem, ne_eqb (full_block p chip r v) none q))
              ∙ sym (opens_are (k + 1))

    decided : Decided
    decided = go (so (in_use p chip k)) (so (is_full p blk))
      where
        go : (in_use p chip k ≡ true) ⊎ (in_use p chip k ≡ false) → (is_full p blk ≡ true) ⊎ (is_full p blk ≡ false) → Decided
        go (inr u) f = unused u
        go (inl u) (inl f) = filled_up f
        go (inl u) (inr f) = pick (ℕ_discrete (full_block p chip (region_named p blk) (vblock_named p blk)) none)
          where
            pick : Dec (full_block p chip (region_named p blk) (vblock_named p blk) ≡ none) → Decided
            pick (yes q) = first u f q
            pick (no q) = second u f q

    pub opens_turn : (chip₂ bt₂ wear₂ : List ℕ) (x : ℕ) → OpenDone p chip₁ bt₁ wear₁ k chip₂ bt₂ wear₂ x → So (k + 1) chip₂ bt₂ wear₂ (e + x)
    opens_turn chip₂ bt₂ wear₂ x d =
        record {
          erased =
              next_erased p (left_over p chip) chip wear k chip₁ wear₁ e so_far.erased chip₂ wear₂ x (d.chip_is ∙ rw decided.gone) (d.wear_is ∙ rw decided.gone) (d.count ∙ rw decided.gone);
          bt_is = d.bt_is ∙ rw block_same decided.named;
        }

  pub opens_done : (k : ℕ) (chip₁ bt₁ wear₁ : List ℕ) (e : ℕ) → k ≡ p.N → So k chip₁ bt₁ wear₁ e → Kept p chip wear chip₁ bt₁ wear₁ e
  unfolding start_ops
  opens_done k chip₁ bt₁ wear₁ e q so_far =
      record {
        chip_is = so_far.erased.chip_is ∙ rw (q, where_below p wear (left_over p chip));
        bt_is = so_far.bt_is ∙ rw q (unfold opens_to found_bt kept_block in refl);
        wear_is = so_far.erased.wear_is ∙ rw (q, where_below p wear (left_over p chip));
        count = so_far.erased.count ∙ rw (q, where_below p wear (left_over p chip));
        few = rw (← q) so_far.erased.few;
      }
