-- Document 02, T-07, "Start from the chip alone": what a start finds on a chip, when it is refused, its erases, and the tables that it rebuilds.
-- Assumes nothing.
use Rattle.std.specs.Prelude.{ℕ, ◌-◌, ◌*◌, ◌/◌, ◌%◌, Bool, not, ◌&&◌, ◌||◌, cond, List, [], ◌∷◌, leb, ltb, eqb}
use Rattle.lists.specs.Below.{all_below, all_true, count_below, first_below, most_below, list_below}
use Rattle.rules.specs.declared.Params.{Params}
use Rattle.rules.specs.Parameters.{frames}
use Rattle.rules.specs.Numbers.{region_of, segment_of}
use Rattle.rules.specs.Tables.{Board, none, not_found}
use Rattle.rules.specs.Pages.{block, frame, erased, held, vblock_in, whole, holds, filled, is_full}
use Rattle.rules.specs.Regions.{View, view_of, assigned, region_frames, frame_in, stamp_in, largest_stamp}
use Rattle.rules.specs.Orderly.{block_rule, named}
use Rattle.rules.specs.Traces.{Op, erase_where, erased_state, finish}
use Rattle.rules.specs.Format.{bad}

-- ---- one block

-- "bad blocks by T-02's rule; erased ones free": any other is in use
unfoldable pub in_use : Params → List ℕ → ℕ → Bool
in_use p chip n = not (bad p chip n) && not (erased (block p chip n))

-- the region and the virtual block that a block names, by its first page
unfoldable pub region_named : Params → List ℕ → ℕ
region_named p blk = region_of p (held p (frame p blk 0))

unfoldable pub vblock_named : Params → List ℕ → ℕ
vblock_named p blk = vblock_in p (frame p blk 0)

-- "orderly by itself with one region and one virtual block below γ"
unfoldable pub sound : Params → List ℕ → Bool
sound p blk = ltb (vblock_named p blk) p.gamma && block_rule p (region_named p blk) (vblock_named p blk) blk

-- block n names virtual block v of region r; and it is full, or it is not
unfoldable pub names : Params → List ℕ → ℕ → ℕ → ℕ → Bool
names p chip r v n = in_use p chip n && (eqb (region_named p (block p chip n)) r && eqb (vblock_named p (block p chip n)) v)

unfoldable pub names_full : Params → List ℕ → ℕ → ℕ → ℕ → Bool
names_full p chip r v n = names p chip r v n && is_full p (block p chip n)

unfoldable pub names_open : Params → List ℕ → ℕ → ℕ → ℕ → Bool
names_open p chip r v n = names p chip r v n && not (is_full p (block p chip n))

-- ---- which blocks stay

-- "If two blocks name one virtual block, the one with a page of every frame programmed (full) stays"
unfoldable pub full_block : Params → List ℕ → ℕ → ℕ → ℕ
full_block p chip r v = first_below none p.N (names_full p chip r v)

unfoldable pub kept_block : Params → List ℕ → ℕ → ℕ → ℕ
kept_block p chip r v = cond (eqb (full_block p chip r v) none) (first_below none p.N (names_open p chip r v)) (full_block p chip r v)

-- "and the other is erased"
unfoldable pub left_over : Params → List ℕ → ℕ → Bool
left_over p chip n =
    let blk = block p chip n in
    in_use p chip n && (not (is_full p blk) && not (eqb (full_block p chip (region_named p blk) (vblock_named p blk)) none))

unfoldable pub start_ops : Params → List ℕ → List ℕ → List Op
start_ops p chip wear = erase_where p wear (left_over p chip)

-- BT, and a region's view with it, which has no CT and no FST entry yet
unfoldable pub found_bt : Params → List ℕ → List ℕ
found_bt p chip = list_below (p.mu * p.gamma) (λ i. kept_block p chip (i / p.gamma) (i % p.gamma))

unfoldable pub found_view : Params → List ℕ → List ℕ → ℕ → View
found_view p chip bt r = view_of p chip [] bt [] r

-- ---- when it is refused

-- 7 "when a good block is neither erased nor orderly by itself with one region and one virtual block below γ"
unfoldable pub sound_rule : Params → List ℕ → Bool
sound_rule p chip = all_below p.N (λ n. not (in_use p chip n) || sound p (block p chip n))

-- "when three blocks name one virtual block or two of which not exactly one is full"
unfoldable pub pair_rule : Params → List ℕ → ℕ → ℕ → Bool
pair_rule p chip r v =
    let k = count_below p.N (names p chip r v) in
    leb k 1 || (eqb k 2 && eqb (count_below p.N (names_full p chip r v)) 1)

-- "when a region otherwise has two blocks not full"
unfoldable pub is_open : Params → View → ℕ → Bool
is_open p vw v = assigned vw v && not (is_full p (vw.body v))

unfoldable pub open_once : Params → View → Bool
open_once p vw = leb (count_below p.gamma (is_open p vw)) 1

-- "or when two kept whole frames of a cluster share a stamp"
unfoldable pub same_stamp : Params → View → ℕ → ℕ → Bool
same_stamp p vw i j =
    all_true
    (whole p (frame_in p vw i)
    ∷ whole p (frame_in p vw j)
    ∷ eqb (held p (frame_in p vw i)) (held p (frame_in p vw j))
    ∷ eqb (stamp_in p vw i) (stamp_in p vw j)
    ∷ [])

unfoldable pub stamps_apart : Params → View → Bool
stamps_apart p vw = all_below (region_frames p) (λ i. all_below i (λ j. not (same_stamp p vw i j)))

unfoldable pub region_starts : Params → List ℕ → List ℕ → ℕ → Bool
region_starts p chip bt r =
    let vw = found_view p chip bt r in
    all_true (all_below p.gamma (pair_rule p chip r) ∷ open_once p vw ∷ stamps_apart p vw ∷ [])

unfoldable pub startable : Params → List ℕ → Bool
startable p chip = sound_rule p chip && all_below p.mu (region_starts p chip (found_bt p chip))

-- ---- what it rebuilds

-- "per cluster the whole frame with the largest stamp": its segment
unfoldable pub found_segment : Params → View → ℕ → ℕ
found_segment p vw c =
    let i = most_below (stamp_in p vw) not_found (region_frames p) (λ i. holds p (frame_in p vw i) c) in
    cond (eqb i not_found) none (segment_of p (i / frames p) (i % frames p))

-- the open block is the one that is not full. "If all of a region's blocks are full, FST names the last segment of the lowest virtual block"
unfoldable pub found_fst : Params → View → ℕ
found_fst p vw =
    let o = first_below not_found p.gamma (is_open p vw) in
    let v = cond (eqb o not_found) (first_below not_found p.gamma (assigned vw)) o in
    cond (eqb v not_found) none (segment_of p v (filled p (vw.body v) - 1))

-- "The start rebuilds BST, BT, CT, FST, the marks and the stamps (largest on the region's pages, else 0): bad blocks by T-02's rule; erased ones free"; T-12: one that it wears out is reserved
unfoldable pub started : Params → Board → Board
started p b =
    let chip = b.chip in
    let bt = found_bt p chip in
    finish p b (start_ops p chip b.wear)
    (record {
      ct = list_below p.C (λ c. found_segment p (found_view p chip bt (region_of p c)) c);
      bt = bt;
      fst = list_below p.mu (λ r. found_fst p (found_view p chip bt r));
      bst = list_below p.N (λ n. cond (bad p chip n) 2 (cond (named p bt n) 1 (cond (left_over p chip n) (erased_state p b.wear n) 0)));
      stamps = list_below p.mu (λ r. largest_stamp p (found_view p chip bt r));
    })
