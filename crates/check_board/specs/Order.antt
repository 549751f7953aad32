-- The check of a state and its marks as the code goes: region by region, and then two counts. A valid frame has one cluster, whose CT entry is not none, and
-- a cluster one valid frame. So where each mark is that of a valid frame, and CT has as many entries as there are marks, each entry has its frame and
-- each valid frame its mark.
-- Assumes nothing.
use Rattle.std.specs.Prelude.{◌≡◌, ◌&&◌, Bool, cond, not, List, ◌*◌, ◌-◌, ◌/◌, ◌%◌, ℕ, eqb, ltb, length, take}
use Rattle.lists.specs.Below.{all_below, all_true, count_below}
use Rattle.rules.specs.declared.Params.{Params}
use Rattle.rules.specs.Numbers.{segment_of, vblock_of}
use Rattle.rules.specs.Orderly.{free_rule, rules_of}
use Rattle.rules.specs.Parameters.{frames}
use Rattle.rules.specs.Tables.{Board, bt_at, ct_at, fst_at, none, marks_length, stamp_at, word_at}
use Rattle.check_tables.specs.Entries.{empty_at}
use Rattle.check_rules.specs.Check.{Lent, tables_ok, vblock_frames, vblock_frames_to}
use Rattle.check_marks.specs.Shown.{bit_in, marks_valid}

-- segment sg, FST's entry of region r, is none exactly if the region has no block, and else one of a virtual block that has one
unfoldable pub entry_ok : Params → List ℕ → ℕ → ℕ → Bool
entry_ok p bt r sg = cond (empty_at p bt r) (eqb sg none) (ltb sg (p.gamma * p.d) && not (eqb (bt_at p bt r (vblock_of p sg)) none))

-- where virtual block v has k programmed frames: sg is the segment of the last of them, if v is the one of sg, and else they are all
unfoldable pub frames_ok : Params → ℕ → ℕ → ℕ → Bool
frames_ok p sg v k = not (eqb k 0) && cond (eqb v (vblock_of p sg)) (eqb (segment_of p v (k - 1)) sg) (eqb k (frames p))

-- the block of virtual block v of region r is as it should be, and so is each of its marks
unfoldable pub block_held : Params → List ℕ → List ℕ → List ℕ → List ℕ → List ℕ → ℕ → ℕ → ℕ → Bool
block_held p chip ct bt bst marks r sg v = frames_ok p sg v (vblock_frames p chip bt bst r v) && marks_valid p chip ct bt marks r v

-- the rules of region r but for CT
unfoldable pub region_held : Params → List ℕ → List ℕ → List ℕ → List ℕ → List ℕ → List ℕ → ℕ → Bool
region_held p chip ct bt fst bst marks r = entry_ok p bt r (fst_at fst r) && all_below p.gamma (block_held p chip ct bt bst marks r (fst_at fst r))

-- CT names a segment for cluster c
unfoldable pub named : List ℕ → ℕ → Bool
named ct c = not (eqb (ct_at ct c) none)

-- bit j of the table of marks, from its first word on
unfoldable pub bit_at : List ℕ → ℕ → Bool
bit_at marks j = bit_in (word_at marks (j / 64)) (j % 64)

-- as many entries of CT as marks
unfoldable pub counts_ok : List ℕ → List ℕ → Bool
counts_ok ct marks = eqb (count_below (length ct) (named ct)) (count_below (64 * length marks) (bit_at marks))

-- the tables, the free blocks, the regions, and the counts
unfoldable pub order_ok : Params → List ℕ → List ℕ → List ℕ → List ℕ → List ℕ → List ℕ → Bool
order_ok p chip ct bt fst bst marks =
    tables_ok p bt bst && (free_rule p chip bst && (all_below p.mu (region_held p chip ct bt fst bst marks) && counts_ok ct marks))

-- ---- the same with stamps up to `last` in a block, and up to `last r` in region r

unfoldable pub block_held_to : Params → List ℕ → List ℕ → List ℕ → List ℕ → List ℕ → ℕ → ℕ → ℕ → ℕ → Bool
block_held_to p chip ct bt bst marks last r sg v = frames_ok p sg v (vblock_frames_to p chip bt bst last r v) && marks_valid p chip ct bt marks r v

unfoldable pub region_held_to : Params → List ℕ → List ℕ → List ℕ → List ℕ → List ℕ → List ℕ → ℕ → ℕ → Bool
region_held_to p chip ct bt fst bst marks last r = entry_ok p bt r (fst_at fst r) && all_below p.gamma (block_held_to p chip ct bt bst marks last r (fst_at fst r))

unfoldable pub order_ok_to : Params → List ℕ → List ℕ → List ℕ → List ℕ → List ℕ → List ℕ → (ℕ → ℕ) → Bool
order_ok_to p chip ct bt fst bst marks last =
    tables_ok p bt bst && (free_rule p chip bst && (all_below p.mu (λ r. region_held_to p chip ct bt fst bst marks (last r) r) && counts_ok ct marks))

-- the first nine rules, all but that of the stamps
unfoldable pub nine_rules : Params → Board → Bool
nine_rules p b = all_true (take 9 (rules_of p b))

-- the bound of region r: its last stamp, or none where the stamps are not held to the table
unfoldable pub bound_of : Bool → List ℕ → ℕ → ℕ
bound_of bound stamps r = cond bound (stamp_at stamps r) 4294967295

-- the lent chip and tables but FST, of which every entry of BT is none or names a block
pub record BlocksAsked (p : Params) (chip ct bt bst marks : List ℕ) : Type 0 where
  pub lent : Lent p chip bt
  pub ct_length : length ct ≡ p.C
  pub bst_length : length bst ≡ p.N
  pub marks_long : length marks ≡ marks_length p
