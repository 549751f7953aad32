-- The chip as the start leaves it shows each region the blocks that were found, since no kept block is erased: so the tables rebuilt from it are those that were found, and the board is as promised.
-- Assumes nothing.
use mathlib.Core.Path.{◌≡◌, refl, sym, ◌∙◌}
use mathlib.Core.List.{List}
use Prim.Native.Nat.{ℕ, ◌*◌, ◌<◌}
use native.Mathlib.Nat.{mod-lt}
use lib.ListN.{length}
use Rattle.lists.specs.Below.{list_below}
use Rattle.lists.proofs.Lists.{list_cong, list_length}
use Rattle.rules.specs.declared.Params.{Params}
use Rattle.rules.specs.Parameters.{chip_bytes}
use Rattle.rules.specs.Numbers.{region_of}
use Rattle.rules.specs.Tables.{Board, board_of, bt_at, none}
use Rattle.rules.specs.Regions.{largest_stamp, view_of}
use Rattle.rules.specs.Traces.{replay_chip}
use Rattle.rules.specs.Start.{found_bt, found_fst, found_segment, found_view, start_ops, started}
use Rattle.rules.proofs.Sizes.{Sizes, sizes}
use Rattle.rules.proofs.TableFacts.{Lengths, chip_size, lengths_in}
use Rattle.starts.specs.Admitted.{StartAdmitted}
use Rattle.starts.proofs.Found.{same_fst, same_largest, same_segment}
use Rattle.starts.proofs.KeptBlocks.{at_is, kept_names}
use Rattle.starts.proofs.StartPromise.{body_same, rule_left}
use Rattle.starts.proofs.StartTables.{swept}
use Rattle.start_found.specs.Found.{Found}
use Rattle.start_blocks.specs.Named.{Kept, StartAsked, kinds}
use Rattle.start_work.specs.Rebuilt.{Rebuilt, TablesAsked}

module _ (p : Params) (b : Board) (acc : StartAdmitted p b) where
  z : Sizes p
  z = sizes p acc.fine

  pub long : Lengths p b
  long = lengths_in p b acc.lengths

  chip_long : length b.chip ≡ chip_bytes p
  chip_long = long.chip_length ∙ sym (chip_size p)

  -- what the passes over the blocks ask
  pub start_asked : StartAsked p b.chip b.bt
  start_asked = record { fine = acc.fine; chip_length = chip_long; bt_length = long.bt_length; starts = acc.starts }

  abbrev left : List ℕ
  left = replay_chip p b.chip (start_ops p b.chip b.wear)

  abbrev bt : List ℕ
  bt = found_bt p b.chip

  left_is_lem : (started p b).chip ≡ left
  unfolding started
  left_is_lem = refl

  -- ---- the blocks that are kept

  pub left_found : Found p left bt
  left_found =
      record {
        fine = acc.fine;
        chip_length = rw (← left_is_lem) (swept p b acc).size ∙ chip_long;
        bt_length = unfold found_bt in list_length (p.mu * p.gamma) _;
        named = λ r v h k ne. (name_low r v h k ne, rw left_is_lem at (rule_left p b acc r h v k ne));
      }
    where
      name_low : (r v : ℕ) → r < p.mu → v < p.gamma → (bt_at p bt r v ≡ none → ⊥) → bt_at p bt r v < p.N
      name_low r v h k ne = let e = at_is p z b.chip r v h k in rw e (kept_names p z b.chip r v (λ x. ne (e ∙ x))).0

  bodies : (r : ℕ) → r < p.mu → (v : ℕ) → (found_view p left bt r).body v ≡ (found_view p b.chip bt r).body v
  unfolding started found_view view_of
  bodies r h v = sym (body_same p b acc r h v)

  -- ---- the tables

  segments : list_below p.C (λ c. found_segment p (found_view p left bt (region_of p c)) c) ≡ list_below p.C (λ c. found_segment p (found_view p b.chip bt (region_of p c)) c)
  segments = list_cong p.C _ _ (λ c _. same_segment p (found_view p left bt (region_of p c)) (found_view p b.chip bt (region_of p c)) (bodies (region_of p c) (mod-lt c z.regions)) c)

  lasts : list_below p.mu (λ r. found_fst p (found_view p left bt r)) ≡ list_below p.mu (λ r. found_fst p (found_view p b.chip bt r))
  lasts = list_cong p.mu _ _ (λ r h. same_fst p (found_view p left bt r) (found_view p b.chip bt r) (bodies r h))

  largests : list_below p.mu (λ r. largest_stamp p (found_view p left bt r)) ≡ list_below p.mu (λ r. largest_stamp p (found_view p b.chip bt r))
  largests = list_cong p.mu _ _ (λ r h. same_largest p (found_view p left bt r) (found_view p b.chip bt r) (bodies r h))

  -- ---- as the code goes

  module _ (chip' bt' wear' : List ℕ) (k : ℕ) (kept : Kept p b.chip b.wear chip' bt' wear' k) where
    pub tables_asked : TablesAsked p chip' b.ct bt' b.fst b.marks b.stamps
    tables_asked =
        record { found = rw (kept.chip_is, kept.bt_is) left_found; ct_length = long.ct_length; fst_length = long.fst_length; marks_length = long.marks_length; stamps_length = long.stamps_length }

    pub board_is : (ct' fst' bst' marks' stamps' : List ℕ) → bst' ≡ kinds p b.chip b.wear bt → Rebuilt p chip' bt' ct' fst' marks' stamps' → board_of chip' ct' bt' fst' bst' wear' marks' stamps' ≡ started p b
    unfolding started
    board_is ct' fst' bst' marks' stamps' e t =
        rw (t.marks_are, t.ct_is, t.fst_is, t.stamps_is, e, kept.chip_is, kept.bt_is, kept.wear_is, segments, lasts, largests)
