-- Document 01, "Board T": its parameters, the session that is printed there, and the ten marked cases, as the rules compute them and as the
-- document says. proofs/BoardT.antt shows that the two are the same.
-- Assumes nothing.
use Rattle.std.specs.Prelude.{ℕ, ◌+◌, ◌-◌, ◌*◌, Bool, true, false, ◌&&◌, cond, List, [], ◌∷◌, ◌++◌, take, drop, replicate}
use Rattle.lists.specs.Below.{join_below}
use Rattle.lists.specs.Parts.{part, put_part, same_list}
use Rattle.rules.specs.declared.Params.{Params}
use Rattle.rules.specs.declared.Answer.{Answer}
use Rattle.rules.specs.Numbers.{cluster_of, region_of, vblock_of, place_of}
use Rattle.rules.specs.Tables.{Board, board_of, none, ct_at, bt_at, bst_at, wear_at}
use Rattle.rules.specs.Regions.{view}
use Rattle.rules.specs.Marks.{marks_of}
use Rattle.rules.specs.Requests.{Request, request_region, Call, format, read, write, release, queue, start}
use Rattle.rules.specs.Write.{Plan, continues, opens, reclaims, plan_of}
use Rattle.rules.specs.Replies.{number_of, is_accepted, reply_of}
use Rattle.rules.specs.Calls.{Outcome, outcome_of}

-- "s=16, α=2, β=1, d=2, μ=2, γ=2, C=6, N=5", with C and N open
unfoldable pub params_t : ℕ → ℕ → Params
params_t c n = record { s = 16; alpha = 2; beta = 1; d = 2; mu = 2; gamma = 2; C = c; N = n; E = 1000000 }

unfoldable pub board_t : Params
board_t = params_t 6 5

-- n blocks, "chip all 255, wear all 0", but for x at the bad mark of page q, counted over the chip: a page has 32 bytes, and its mark is the byte at 21
unfoldable pub blank_t : ℕ → ℕ → ℕ → Board
blank_t n q x =
    record {
      chip = replicate (q * 32 + 21) 255 ++ (x ∷ replicate (n * 128 - q * 32 - 22) 255);
      ct = replicate 6 0;
      bt = replicate 4 0;
      fst = replicate 2 0;
      bst = replicate n 0;
      wear = replicate n 0;
      marks = replicate 16 0;
      stamps = replicate 2 0;
    }

-- "count, byte value for all given bytes"
unfoldable pub asks : ℕ → ℕ → ℕ → Request
asks lba count x = record { lba = lba; count = count; bytes = replicate (count * 16) x }

-- `W`, LBA, count, byte value; or `R`, LBA, count
unfoldable pub W : ℕ → ℕ → ℕ → Call
W lba count x = write (asks lba count x)

unfoldable pub R : ℕ → ℕ → Call
R lba count = read (asks lba count 0)

unfoldable pub input_t : List Call
input_t =
    W 0 2 17 ∷ W 4 2 18 ∷ W 2 1 19 ∷ W 8 1 20 ∷ W 0 1 21 ∷ W 5 1 22 ∷ W 0 2 23 ∷ R 4 2 ∷ R 3 1 ∷ W 12 1 5 ∷ R 1 2 ∷ []

-- ---- the session: a line of output is its numbers

-- reply, programs, erases
unfoldable pub counted : Answer → List ℕ
counted a = number_of a.reply ∷ a.programs ∷ a.erases ∷ []

-- "letter, reply, programs, erases; for `R` letter, reply, then each sector .. if the reply is 0"; T-08: "for `W` (a fifth field, spare reads)"
unfoldable pub printed : Call → Outcome → List ℕ
printed format o = counted o.answer
printed (write q) o = counted o.answer ++ (o.answer.looks ∷ [])
printed (release c) o = counted o.answer
printed (queue l) o = counted o.answer
printed start o = counted o.answer
printed (read q) o = number_of o.answer.reply ∷ cond (is_accepted o.answer.reply) o.bytes []

unfoldable pub session_from : Board → List Call → List (List ℕ)
session_from b [] = []
session_from b (c ∷ cs) =
    let o = outcome_of board_t b c in
    printed c o ∷ session_from o.board cs

-- "The bench program formats Board T .. then reads standard input"
unfoldable pub session_t : List (List ℕ)
session_t = session_from (blank_t 5 0 255) (format ∷ input_t)

-- "The whole output", with T-08's fifth field of `W`: 0 where the cluster has no frame yet, then 1, as a segment of Board T has one frame
unfoldable pub output_t : List (List ℕ)
output_t =
    (0 ∷ 0 ∷ 5 ∷ [])
    ∷ (0 ∷ 2 ∷ 0 ∷ 0 ∷ [])
    ∷ (0 ∷ 2 ∷ 0 ∷ 0 ∷ [])
    ∷ (0 ∷ 2 ∷ 0 ∷ 0 ∷ [])
    ∷ (0 ∷ 2 ∷ 0 ∷ 0 ∷ [])
    ∷ (0 ∷ 2 ∷ 0 ∷ 1 ∷ [])
    ∷ (0 ∷ 4 ∷ 1 ∷ 1 ∷ [])
    ∷ (0 ∷ 4 ∷ 1 ∷ 1 ∷ [])
    ∷ (0 ∷ replicate 16 18 ++ replicate 16 22)
    ∷ (0 ∷ replicate 16 255)
    ∷ (4 ∷ 0 ∷ 0 ∷ 0 ∷ [])
    ∷ (3 ∷ [])
    ∷ []

-- ---- the marked cases

-- the board after the format and the first k calls
unfoldable pub board_from : Board → List Call → Board
board_from b [] = b
board_from b (c ∷ cs) = board_from (outcome_of board_t b c).board cs

unfoldable pub after : ℕ → Board
after k = board_from (blank_t 5 0 255) (take (k + 1) (format ∷ input_t))

-- 0, 1 or 2 for a plan that continues, opens or reclaims, and its virtual block
unfoldable pub planned_t : Plan → List ℕ
planned_t (continues v f) = 0 ∷ v ∷ []
planned_t (opens v) = 1 ∷ v ∷ []
planned_t (reclaims v) = 2 ∷ v ∷ []

-- the number of a reply to a format, and to a read of count sectors from an LBA on, on Board T just formatted
unfoldable pub formats_t : Params → Board → ℕ
formats_t p b = number_of (reply_of p b format)

unfoldable pub reads_t : Params → ℕ → ℕ → ℕ
reads_t p lba count = number_of (reply_of p (after 0) (R lba count))

-- the write after k calls: its region; its plan; the block of virtual block 0 of region 0 before it and after it
unfoldable pub reclaim_after : ℕ → Request → List ℕ
reclaim_after k q =
    request_region board_t q ∷ planned_t (plan_of board_t (view board_t (after k) 0))
    ++ (bt_at board_t (after k).bt 0 0 ∷ bt_at board_t (after (k + 1)).bt 0 0 ∷ [])

-- (j)'s "α=4, μ=512, d=2", the others at will
unfoldable pub params_j : Params
params_j = record { s = 16; alpha = 4; beta = 1; d = 2; mu = 512; gamma = 4; C = 1024; N = 3000; E = 1000000 }

-- (a) to (j), as the rules give them
unfoldable pub marked_cases : List (List ℕ)
marked_cases =
    -- (a) the sixth write; what BST says of block 0 before it and after it
    (reclaim_after 5 (asks 5 1 22) ++ (bst_at (after 5).bst 0 ∷ bst_at (after 6).bst 0 ∷ []))
    -- (b) the seventh; what BST says of block 0 before it, and the wear of blocks 0 and 4
    ∷ (reclaim_after 6 (asks 0 2 23) ++ (bst_at (after 6).bst 0 ∷ wear_at (after 6).wear 0 ∷ wear_at (after 6).wear 4 ∷ []))
    -- (c) CT of clusters 0, 2, 4
    ∷ (ct_at (after 7).ct 0 ∷ ct_at (after 7).ct 2 ∷ ct_at (after 7).ct 4 ∷ [])
    -- (d) C=7: a format and a read
    ∷ (formats_t (params_t 7 5) (blank_t 5 0 255) ∷ reads_t (params_t 7 5) 0 1 ∷ [])
    -- (e) N=4
    ∷ (formats_t (params_t 6 4) (blank_t 4 0 255) ∷ [])
    -- (f) N=5 with one bad block, each in turn, marked on its first page and on its second
    ∷ join_below 5 (λ n. formats_t board_t (blank_t 5 (n * 4) 0) ∷ formats_t board_t (blank_t 5 (n * 4 + 1) 0) ∷ [])
    -- (g) LBA 11 count 1
    ∷ (reads_t board_t 11 1 ∷ [])
    -- (h) LBA 13 count 2
    ∷ (reads_t board_t 13 2 ∷ [])
    -- (i) count 0
    ∷ (reads_t board_t 0 0 ∷ [])
    -- (j) the cluster of LBA 2,093, its region; the virtual block and the place of segment 7
    ∷ (cluster_of params_j 2093 ∷ region_of params_j 523 ∷ vblock_of params_j 7 ∷ place_of params_j 7 ∷ [])
    ∷ []

-- (a) to (j), as the document says
unfoldable pub as_said : List (List ℕ)
as_said =
    -- (a) region 0; "reclaims virtual block 0"; from block 0 "into block 3"; block 0 was used, and is free
    (0 ∷ 2 ∷ 0 ∷ 0 ∷ 3 ∷ 1 ∷ 0 ∷ [])
    -- (b) region 0; reclaims virtual block 0; from block 3 "into block 4, not 0"; block 0 is free, and "by wear": 2 against 1
    ∷ (0 ∷ 2 ∷ 0 ∷ 3 ∷ 4 ∷ 0 ∷ 2 ∷ 1 ∷ [])
    -- (c) "is 1, 0, 2"
    ∷ (1 ∷ 0 ∷ 2 ∷ [])
    -- (d) "is reply 1", for both calls
    ∷ (1 ∷ 1 ∷ [])
    -- (e) "is reply 6"
    ∷ (6 ∷ [])
    -- (f) "is reply 6", ten times
    ∷ replicate 10 6
    -- (g) "is accepted"
    ∷ (0 ∷ [])
    -- (h) "is reply 3, not 4"
    ∷ (3 ∷ [])
    -- (i) "is reply 3"
    ∷ (3 ∷ [])
    -- (j) "cluster 523 of region 11, and segment 7 is in virtual block 3, place 1"
    ∷ (523 ∷ 11 ∷ 3 ∷ 1 ∷ [])
    ∷ []

-- ---- T-07: stamps

-- the spare bytes of the four pages of block 3 after the sixth write
unfoldable pub sixth_spares : List (List ℕ)
sixth_spares = join_below 4 (λ q. drop 16 (part 32 (12 + q) (after 6).chip) ∷ [])

-- of a page of cluster 2: its place and its stamp, in virtual block 0
unfoldable pub spare_t : ℕ → ℕ → List ℕ
spare_t j t = 2 ∷ 0 ∷ 0 ∷ 0 ∷ j ∷ 255 ∷ 0 ∷ t ∷ 0 ∷ 0 ∷ 0 ∷ 0 ∷ 255 ∷ 255 ∷ 255 ∷ 255 ∷ []

-- "copies keep theirs": the copy has stamp 2, of the region's second write; the new frame the fifth, as the third write was to the other region
unfoldable pub sixth_said : List (List ℕ)
sixth_said = spare_t 0 2 ∷ spare_t 1 2 ∷ spare_t 0 5 ∷ spare_t 1 5 ∷ []

-- ---- T-07: a frame with only its first pages programmed

-- Board T after the first write, its frame without the second page: CT with this entry for cluster 0
unfoldable pub begun_t : ℕ → Board
begun_t sg =
    let b = after 1 in
    let made = board_of (put_part 32 1 (replicate 32 255) b.chip) (sg ∷ replicate 5 none) b.bt b.fst b.bst b.wear [] b.stamps in
    record { chip = made.chip; ct = made.ct; bt = made.bt; fst = made.fst; bst = made.bst; wear = made.wear; marks = marks_of board_t made; stamps = made.stamps }

-- "an orderly state allows it", but CT's rule does not count it: a read of its cluster where CT has none, and where CT names its segment; what the read gives; the next
-- write goes on behind it
unfoldable pub begun_cases : List (List ℕ)
begun_cases =
    (number_of (reply_of board_t (begun_t none) (R 0 1)) ∷ number_of (reply_of board_t (begun_t 0) (R 0 1)) ∷ [])
    ∷ (outcome_of board_t (begun_t none) (R 0 1)).bytes
    ∷ planned_t (plan_of board_t (view board_t (begun_t none) 0))
    ∷ []

unfoldable pub begun_said : List (List ℕ)
begun_said = (0 ∷ 7 ∷ []) ∷ replicate 16 255 ∷ (0 ∷ 0 ∷ []) ∷ []

-- two lists of lists are the same, by a test: it is computed quickly where the lists themselves are not compared
unfoldable pub same_lists : List (List ℕ) → List (List ℕ) → Bool
same_lists [] [] = true
same_lists [] (b ∷ y) = false
same_lists (a ∷ x) [] = false
same_lists (a ∷ x) (b ∷ y) = same_list a b && same_lists x y
