-- Document 02, T-07, on document 01's Board T: what a start finds after the fifth write, with a block left over, with a frame only begun, and after a release; and chips
-- that it takes or refuses. As the rules compute them, and as worked out by hand. proofs/StartT.antt shows that the two are the same.
-- Assumes nothing.
use Rattle.std.specs.Prelude.{ℕ, ◌-◌, ◌*◌, List, [], ◌∷◌, ◌++◌, take, get_or, set, replicate}
use Rattle.lists.specs.Below.{join_below}
use Rattle.lists.specs.Parts.{put_part}
use Rattle.rules.specs.Numbers.{segment_of}
use Rattle.rules.specs.Tables.{Board, board_of, none, word_at}
use Rattle.rules.specs.Regions.{sector}
use Rattle.rules.specs.Pages.{block}
use Rattle.rules.specs.Requests.{start, release}
use Rattle.rules.specs.Replies.{number_of, reply_of}
use Rattle.rules.specs.Calls.{Outcome, outcome_of}
use Rattle.cases.specs.BoardT.{board_t, after, begun_t}

-- Board T's chip, with wear all 1 and the tables gone
unfoldable pub chip_alone : List ℕ → Board
chip_alone chip =
    board_of chip (replicate 6 none) (replicate 4 none) (replicate 2 none) (replicate 5 255) (replicate 5 1) (replicate 16 0) (replicate 2 0)

-- started: reply, programs and erases; CT; BT; FST; BST; wear; stamps; the first word of marks of each virtual block; and the first byte of each sector
unfoldable pub found_t : Outcome → List (List ℕ)
found_t o =
    let b = o.board in
    (number_of o.answer.reply ∷ o.answer.programs ∷ o.answer.erases ∷ [])
    ∷ b.ct
    ∷ b.bt
    ∷ b.fst
    ∷ b.bst
    ∷ b.wear
    ∷ b.stamps
    ∷ join_below 4 (λ i. word_at b.marks (i * 4) ∷ [])
    ∷ join_below 6 (λ c. get_or (sector board_t b c 0) 0 0 ∷ get_or (sector board_t b c 1) 0 0 ∷ [])
    ∷ []

unfoldable pub starts_t : List ℕ → List (List ℕ)
starts_t chip = found_t (outcome_of board_t (chip_alone chip) start)

-- the chip with the first k pages of block 0 in block n too, the rest of which is erased
unfoldable pub with_copy : ℕ → ℕ → List ℕ → List ℕ
with_copy n k chip = put_part 128 n (take (k * 32) (block board_t chip 0) ++ replicate (128 - k * 32) 255) chip

-- after the fifth write; the same with a frame of block 0 in block 3 too; the first write without its second page; the fifth, and a release of cluster 0
unfoldable pub start_cases : List (List ℕ)
start_cases =
    starts_t (after 5).chip
    ++ (starts_t (with_copy 3 2 (after 5).chip)
    ++ (starts_t (begun_t none).chip
    ++ starts_t (outcome_of board_t (after 5) (release 0)).board.chip))

unfoldable pub start_said : List (List ℕ)
start_said =
    -- both blocks of region 0 are full, so FST names the last segment of virtual block 0, where it named 3; cluster 0 has stamps 1 and 4, and is found in segment 3
    ((0 ∷ 0 ∷ 0 ∷ [])
    ∷ (3 ∷ 0 ∷ 1 ∷ none ∷ 2 ∷ none ∷ [])
    ∷ (0 ∷ 2 ∷ 1 ∷ none ∷ [])
    ∷ (segment_of board_t 0 1 ∷ 0 ∷ [])
    ∷ (1 ∷ 1 ∷ 1 ∷ 0 ∷ 0 ∷ [])
    ∷ (1 ∷ 1 ∷ 1 ∷ 1 ∷ 1 ∷ [])
    ∷ (4 ∷ 1 ∷ [])
    ∷ (2 ∷ 3 ∷ 1 ∷ 0 ∷ [])
    ∷ (21 ∷ 17 ∷ 19 ∷ 255 ∷ 18 ∷ 18 ∷ 255 ∷ 255 ∷ 20 ∷ 255 ∷ 255 ∷ 255 ∷ [])
    -- "the other is erased": block 3, once
    ∷ (0 ∷ 0 ∷ 1 ∷ [])
    ∷ (3 ∷ 0 ∷ 1 ∷ none ∷ 2 ∷ none ∷ [])
    ∷ (0 ∷ 2 ∷ 1 ∷ none ∷ [])
    ∷ (1 ∷ 0 ∷ [])
    ∷ (1 ∷ 1 ∷ 1 ∷ 0 ∷ 0 ∷ [])
    ∷ (1 ∷ 1 ∷ 1 ∷ 2 ∷ 1 ∷ [])
    ∷ (4 ∷ 1 ∷ [])
    ∷ (2 ∷ 3 ∷ 1 ∷ 0 ∷ [])
    ∷ (21 ∷ 17 ∷ 19 ∷ 255 ∷ 18 ∷ 18 ∷ 255 ∷ 255 ∷ 20 ∷ 255 ∷ 255 ∷ 255 ∷ [])
    -- a frame that is only begun is in no CT entry, but its block is open, and its stamp is taken
    ∷ (0 ∷ 0 ∷ 0 ∷ [])
    ∷ replicate 6 none
    ∷ (0 ∷ none ∷ none ∷ none ∷ [])
    ∷ (0 ∷ none ∷ [])
    ∷ (1 ∷ 0 ∷ 0 ∷ 0 ∷ 0 ∷ [])
    ∷ (1 ∷ 1 ∷ 1 ∷ 1 ∷ 1 ∷ [])
    ∷ (1 ∷ 0 ∷ [])
    ∷ (0 ∷ 0 ∷ 0 ∷ 0 ∷ [])
    ∷ replicate 12 255
    -- "A released cluster with whole frames left comes back with the latest"
    ∷ (0 ∷ 0 ∷ 0 ∷ [])
    ∷ (3 ∷ 0 ∷ 1 ∷ none ∷ 2 ∷ none ∷ [])
    ∷ (0 ∷ 2 ∷ 1 ∷ none ∷ [])
    ∷ (1 ∷ 0 ∷ [])
    ∷ (1 ∷ 1 ∷ 1 ∷ 0 ∷ 0 ∷ [])
    ∷ (1 ∷ 1 ∷ 1 ∷ 1 ∷ 1 ∷ [])
    ∷ (4 ∷ 1 ∷ [])
    ∷ (2 ∷ 3 ∷ 1 ∷ 0 ∷ [])
    ∷ (21 ∷ 17 ∷ 19 ∷ 255 ∷ 18 ∷ 18 ∷ 255 ∷ 255 ∷ 20 ∷ 255 ∷ 255 ∷ 255 ∷ [])
    ∷ [])

-- ---- which chips it takes

unfoldable pub replies_t : List ℕ → ℕ
replies_t chip = number_of (reply_of board_t (chip_alone chip) start)

-- after the fifth write, with one byte of block 0 or 1 changed: byte 12 of a spare area is zero; byte 11 is γ, and the other virtual block; one page's stamp differs; then
-- block 0 copied
unfoldable pub refused_cases : List ℕ
refused_cases =
    let chip = (after 5).chip in
    replies_t (set chip 28 0)
    ∷ replies_t (set chip 27 2)
    ∷ replies_t (set chip 27 1)
    ∷ replies_t (set chip 55 9)
    -- all of it: two that are full; its first frame; its first page
    ∷ replies_t (with_copy 3 4 chip)
    ∷ replies_t (with_copy 3 2 chip)
    ∷ replies_t (with_copy 3 1 chip)
    -- three blocks name one virtual block
    ∷ replies_t (with_copy 4 2 (with_copy 3 2 chip))
    -- its second frame gone: one that is not full, and two
    ∷ replies_t (with_copy 0 2 chip)
    ∷ replies_t (with_copy 0 2 (with_copy 3 2 chip))
    -- the stamps of both pages of its first frame made that of cluster 0's later frame
    ∷ replies_t (set (set chip 23 4) 55 4)
    -- "bad blocks by T-02's rule": a mark on the second page of a block that is erased; then four are good, and T-12: a start "no longer" gives 6
    ∷ replies_t (set chip 565 0)
    ∷ []

unfoldable pub refused_said : List ℕ
refused_said = 7 ∷ 7 ∷ 7 ∷ 7 ∷ 7 ∷ 0 ∷ 0 ∷ 7 ∷ 0 ∷ 7 ∷ 7 ∷ 0 ∷ []
