-- Document 02, T-07, on document 01's Board T: its sixth write, which copies one frame, erases a block and programs one frame, five operations in all, with each budget, and what a
-- start then finds; a start that is cut; and a queue of two writes with each budget. As the rules compute them, and as worked out by hand. proofs/CutT.antt shows that the two are
-- the same.
-- Assumes nothing.
use Rattle.std.specs.Prelude.{ℕ, List, [], ◌∷◌, ◌++◌, map, replicate}
use Rattle.lists.specs.Below.{join_below}
use Rattle.rules.specs.declared.Answer.{Answer}
use Rattle.rules.specs.declared.Reply.TheVariants.{Accepted}
use Rattle.rules.specs.Tables.{Board, none}
use Rattle.rules.specs.Requests.{Call, format, queue, queue_of, start}
use Rattle.rules.specs.Calls.{Outcome, outcome_of}
use Rattle.rules.specs.Cuts.{limited, step_outcome}
use Rattle.cases.specs.BoardT.{W, after, board_t, counted}
use Rattle.cases.specs.StartT.{found_t}

-- a call on Board T with a budget, and a start after it
unfoldable pub cut_t : Board → ℕ → Call → Outcome
cut_t b k c = step_outcome board_t b (limited k c)

unfoldable pub then_start : Outcome → List (List ℕ)
then_start o = found_t (outcome_of board_t o.board start)

-- what the cut itself leaves: its answer, CT, BT, FST, BST, wear, the marks and the stamps
unfoldable pub left_t : Outcome → List (List ℕ)
left_t o =
    let b = o.board in
    counted o.answer ∷ b.ct ∷ b.bt ∷ b.fst ∷ b.bst ∷ b.wear ∷ b.marks ∷ b.stamps ∷ []

-- ---- the sixth write

unfoldable pub sixth_t : Board → ℕ → Outcome
sixth_t b k = cut_t b k (W 5 1 22)

-- with the budgets 0 to 6, each then started
unfoldable pub cut_cases : List (List ℕ)
cut_cases =
    let b = after 5 in
    join_below 7 (λ k. then_start (sixth_t b k))

-- what is found with the old content: by the erases, CT, BT, FST, BST, wear, region 0's stamp and the marks; and with the new content
unfoldable pub old_found : ℕ → List ℕ → List ℕ → List ℕ → List ℕ → List ℕ → ℕ → List ℕ → List (List ℕ)
old_found erases ct bt fst bst wear stamp marks =
    (0 ∷ 0 ∷ erases ∷ []) ∷ ct ∷ bt ∷ fst ∷ bst ∷ wear ∷ (stamp ∷ 1 ∷ []) ∷ marks ∷ (21 ∷ 17 ∷ 19 ∷ 255 ∷ 18 ∷ 18 ∷ 255 ∷ 255 ∷ 20 ∷ 255 ∷ 255 ∷ 255 ∷ []) ∷ []

unfoldable pub new_found : List (List ℕ)
new_found =
    (0 ∷ 0 ∷ 0 ∷ [])
    ∷ (3 ∷ 0 ∷ 1 ∷ none ∷ 2 ∷ none ∷ [])
    ∷ (3 ∷ 2 ∷ 1 ∷ none ∷ [])
    ∷ (1 ∷ 0 ∷ [])
    ∷ (0 ∷ 1 ∷ 1 ∷ 1 ∷ 0 ∷ [])
    ∷ (2 ∷ 1 ∷ 1 ∷ 1 ∷ 1 ∷ [])
    ∷ (5 ∷ 1 ∷ [])
    ∷ (2 ∷ 3 ∷ 1 ∷ 0 ∷ [])
    ∷ (21 ∷ 17 ∷ 19 ∷ 255 ∷ 18 ∷ 22 ∷ 255 ∷ 255 ∷ 20 ∷ 255 ∷ 255 ∷ 255 ∷ [])
    ∷ []

-- where block 0 stands: a block 3 with the copy's first page, or with both, is left over and erased
unfoldable pub no_copy : ℕ → List ℕ → List (List ℕ)
no_copy erases wear =
    old_found erases (3 ∷ 0 ∷ 1 ∷ none ∷ 2 ∷ none ∷ []) (0 ∷ 2 ∷ 1 ∷ none ∷ []) (1 ∷ 0 ∷ []) (1 ∷ 1 ∷ 1 ∷ 0 ∷ 0 ∷ []) wear 4 (2 ∷ 3 ∷ 1 ∷ 0 ∷ [])

-- where block 0 is erased, and block 3 with the copy stands for it
unfoldable pub copy_alone : ℕ → ℕ → List (List ℕ)
copy_alone fst stamp =
    old_found 0 (3 ∷ 0 ∷ 0 ∷ none ∷ 2 ∷ none ∷ []) (3 ∷ 2 ∷ 1 ∷ none ∷ []) (fst ∷ 0 ∷ []) (0 ∷ 1 ∷ 1 ∷ 1 ∷ 0 ∷ []) (2 ∷ 1 ∷ 1 ∷ 1 ∷ 1 ∷ []) stamp (1 ∷ 3 ∷ 1 ∷ 0 ∷ [])

unfoldable pub cut_said : List (List ℕ)
cut_said =
    no_copy 0 (1 ∷ 1 ∷ 1 ∷ 1 ∷ 1 ∷ [])
    ++ (no_copy 1 (1 ∷ 1 ∷ 1 ∷ 2 ∷ 1 ∷ [])
    ++ (no_copy 1 (1 ∷ 1 ∷ 1 ∷ 2 ∷ 1 ∷ [])
    ++ (copy_alone 0 4
    -- the new frame begun: stamp 5 is used, and FST names its segment
    ++ (copy_alone 1 5
    -- cut at its very last operation, and not cut
    ++ (new_found ++ new_found)))))

-- ---- what a cut leaves

-- the sixth write, cut at its very last operation, and not cut; a start on what its second operation left, which is cut at its one erase and before it, each then started; a format
-- that is cut at its second erase
unfoldable pub left_cases : List (List ℕ)
left_cases =
    let b = after 5 in
    let b₂ = (sixth_t b 2).board in
    left_t (sixth_t b 5) ++ (left_t (sixth_t b 6) ++ (then_start (cut_t b₂ 1 start) ++ (then_start (cut_t b₂ 0 start) ++ left_t (cut_t b 2 format))))

-- all ones but for the wear, and an answer of 0
unfoldable pub ones_t : List ℕ → List (List ℕ)
ones_t wear =
    (0 ∷ 0 ∷ 0 ∷ []) ∷ replicate 6 none ∷ replicate 4 none ∷ replicate 2 none ∷ replicate 5 255 ∷ wear ∷ replicate 16 18446744073709551615 ∷ replicate 2 4294967295 ∷ []

unfoldable pub left_said : List (List ℕ)
left_said =
    ones_t (2 ∷ 1 ∷ 1 ∷ 1 ∷ 1 ∷ [])
    ++ (((0 ∷ 4 ∷ 1 ∷ [])
    ∷ (3 ∷ 0 ∷ 1 ∷ none ∷ 2 ∷ none ∷ [])
    ∷ (3 ∷ 2 ∷ 1 ∷ none ∷ [])
    ∷ (1 ∷ 0 ∷ [])
    ∷ (0 ∷ 1 ∷ 1 ∷ 1 ∷ 0 ∷ [])
    ∷ (2 ∷ 1 ∷ 1 ∷ 1 ∷ 1 ∷ [])
    ∷ (2 ∷ 0 ∷ 0 ∷ 0 ∷ 3 ∷ 0 ∷ 0 ∷ 0 ∷ 1 ∷ replicate 7 0)
    ∷ (5 ∷ 1 ∷ [])
    ∷ [])
    ++ (no_copy 0 (1 ∷ 1 ∷ 1 ∷ 2 ∷ 1 ∷ [])
    ++ (no_copy 1 (1 ∷ 1 ∷ 1 ∷ 2 ∷ 1 ∷ [])
    ++ ones_t (2 ∷ 2 ∷ 1 ∷ 1 ∷ 1 ∷ []))))

-- ---- a queue of two writes, two pages each, after the format

-- two answers are lent, with 9 programs each
unfoldable pub queue_t : Call
queue_t =
    let old : Answer = record { reply = Accepted; programs = 9; erases = 9; looks = 9 } in
    queue (queue_of (record { lba = 0; count = 2; first = 0 } ∷ record { lba = 4; count = 2; first = 0 } ∷ []) (replicate 32 17) (old ∷ old ∷ []))

-- the programs in its answer list, with the budgets 0 to 5: an answer stands if the operations made by its item's end are fewer than the budget
unfoldable pub queue_cases : List (List ℕ)
queue_cases = join_below 6 (λ k. map (λ (a : Answer). a.programs) (cut_t (after 0) k queue_t).answers ∷ [])

unfoldable pub queue_said : List (List ℕ)
queue_said = (9 ∷ 9 ∷ []) ∷ (9 ∷ 9 ∷ []) ∷ (9 ∷ 9 ∷ []) ∷ (2 ∷ 9 ∷ []) ∷ (2 ∷ 9 ∷ []) ∷ (2 ∷ 2 ∷ []) ∷ []

-- every definition of this file, for an `unfolding` line
unfoldable pub all_cut_t : Unit {0}
unfolding cut_t then_start left_t sixth_t cut_cases old_found new_found no_copy copy_alone cut_said left_cases ones_t left_said queue_t queue_cases queue_said
all_cut_t = tt
