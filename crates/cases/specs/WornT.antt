-- Document 02, T-12, on document 01's Board T with E = 2, from the board after the fifth write on, whose blocks were each erased once: what the calls make of it whose erases wear blocks out,
-- as the rules compute it and as worked out by hand. proofs/WornT.antt shows that the two are the same.
-- Assumes nothing.
use Rattle.std.specs.Prelude.{ℕ, List, [], ◌∷◌, ◌++◌, replicate}
use Rattle.lists.specs.Parts.{part}
use Rattle.rules.specs.declared.Params.{Params}
use Rattle.rules.specs.Tables.{Board, none}
use Rattle.rules.specs.Pages.{block}
use Rattle.rules.specs.Requests.{Call, format, start}
use Rattle.rules.specs.Replies.{number_of}
use Rattle.rules.specs.Calls.{Outcome, outcome_of}
use Rattle.rules.specs.Cuts.{cut_outcome}
use Rattle.cases.specs.BoardT.{W, after}

unfoldable pub worn_params : Params
worn_params = record { s = 16; alpha = 2; beta = 1; d = 2; mu = 2; gamma = 2; C = 6; N = 5; E = 2 }

-- reply, programs, erases and spare areas; CT; BT; FST; BST; wear; stamps
unfoldable pub worn_row : Outcome → List (List ℕ)
worn_row o =
    let b = o.board in
    (number_of o.answer.reply ∷ o.answer.programs ∷ o.answer.erases ∷ o.answer.looks ∷ []) ∷ b.ct ∷ b.bt ∷ b.fst ∷ b.bst ∷ b.wear ∷ b.stamps ∷ []

unfoldable pub worn_run : Board → List Call → List (List ℕ)
worn_run b [] = []
worn_run b (c ∷ cs) =
    let o = outcome_of worn_params b c in
    worn_row o ++ worn_run o.board cs

-- the sixth write cut after k operations, and then a start
unfoldable pub worn_cut : ℕ → List (List ℕ)
worn_cut k = worn_row (outcome_of worn_params (cut_outcome worn_params (after 5) k (W 5 1 22)).board start)

-- page j of block n
unfoldable pub page_t : Board → ℕ → ℕ → List ℕ
page_t b n j = part 32 j (block worn_params b.chip n)

unfoldable pub worn_cases : List (List ℕ)
worn_cases =
    worn_run (after 5) (W 5 1 22 ∷ W 0 2 23 ∷ W 8 1 9 ∷ W 6 1 8 ∷ start ∷ format ∷ [])
    ++ (worn_cut 2 ++ (worn_cut 3 ++ worn_cut 4)
    ++ (page_t (outcome_of worn_params (after 5) (W 5 1 22)).board 0 0 ∷ page_t (outcome_of worn_params (after 5) (W 5 1 22)).board 0 1 ∷ []))

unfoldable pub worn_said : List (List ℕ)
worn_said =
    -- the sixth write reclaims: block 0 is erased a second time, so it is worn and reserved; 4 pages are reported, the mark is not
    ((0 ∷ 4 ∷ 1 ∷ 1 ∷ [])
    ∷ (3 ∷ 0 ∷ 1 ∷ none ∷ 2 ∷ none ∷ [])
    ∷ (3 ∷ 2 ∷ 1 ∷ none ∷ [])
    ∷ (1 ∷ 0 ∷ [])
    ∷ (2 ∷ 1 ∷ 1 ∷ 1 ∷ 0 ∷ [])
    ∷ (2 ∷ 1 ∷ 1 ∷ 1 ∷ 1 ∷ [])
    ∷ (5 ∷ 1 ∷ [])
    -- so does the seventh: it takes block 4, and block 3 is worn out. No block is free now
    ∷ (0 ∷ 4 ∷ 1 ∷ 1 ∷ [])
    ∷ (1 ∷ 0 ∷ 0 ∷ none ∷ 2 ∷ none ∷ [])
    ∷ (4 ∷ 2 ∷ 1 ∷ none ∷ [])
    ∷ (1 ∷ 0 ∷ [])
    ∷ (2 ∷ 1 ∷ 1 ∷ 2 ∷ 1 ∷ [])
    ∷ (2 ∷ 1 ∷ 1 ∷ 2 ∷ 1 ∷ [])
    ∷ (6 ∷ 1 ∷ [])
    -- 10 "exactly when a write needs a free block and there is none": to region 0, whose blocks are full
    ∷ (10 ∷ 0 ∷ 0 ∷ 0 ∷ [])
    ∷ (1 ∷ 0 ∷ 0 ∷ none ∷ 2 ∷ none ∷ [])
    ∷ (4 ∷ 2 ∷ 1 ∷ none ∷ [])
    ∷ (1 ∷ 0 ∷ [])
    ∷ (2 ∷ 1 ∷ 1 ∷ 2 ∷ 1 ∷ [])
    ∷ (2 ∷ 1 ∷ 1 ∷ 2 ∷ 1 ∷ [])
    ∷ (6 ∷ 1 ∷ [])
    -- and not to region 1, whose open block has room
    ∷ (0 ∷ 2 ∷ 0 ∷ 0 ∷ [])
    ∷ (1 ∷ 0 ∷ 0 ∷ 1 ∷ 2 ∷ none ∷ [])
    ∷ (4 ∷ 2 ∷ 1 ∷ none ∷ [])
    ∷ (1 ∷ 1 ∷ [])
    ∷ (2 ∷ 1 ∷ 1 ∷ 2 ∷ 1 ∷ [])
    ∷ (2 ∷ 1 ∷ 1 ∷ 2 ∷ 1 ∷ [])
    ∷ (6 ∷ 2 ∷ [])
    -- a start "no longer" gives 6, and finds the worn blocks reserved, by their marks
    ∷ (0 ∷ 0 ∷ 0 ∷ 0 ∷ [])
    ∷ (1 ∷ 0 ∷ 0 ∷ 1 ∷ 2 ∷ none ∷ [])
    ∷ (4 ∷ 2 ∷ 1 ∷ none ∷ [])
    ∷ (1 ∷ 1 ∷ [])
    ∷ (2 ∷ 1 ∷ 1 ∷ 2 ∷ 1 ∷ [])
    ∷ (2 ∷ 1 ∷ 1 ∷ 2 ∷ 1 ∷ [])
    ∷ (6 ∷ 2 ∷ [])
    -- "Format's 6": two blocks are bad by now, and its erases would wear out the other three
    ∷ (6 ∷ 0 ∷ 0 ∷ 0 ∷ [])
    ∷ (1 ∷ 0 ∷ 0 ∷ 1 ∷ 2 ∷ none ∷ [])
    ∷ (4 ∷ 2 ∷ 1 ∷ none ∷ [])
    ∷ (1 ∷ 1 ∷ [])
    ∷ (2 ∷ 1 ∷ 1 ∷ 2 ∷ 1 ∷ [])
    ∷ (2 ∷ 1 ∷ 1 ∷ 2 ∷ 1 ∷ [])
    ∷ (6 ∷ 2 ∷ [])
    -- the sixth write cut after its copy: the start erases block 3, which is left over, and wears it out
    ∷ (0 ∷ 0 ∷ 1 ∷ 0 ∷ [])
    ∷ (3 ∷ 0 ∷ 1 ∷ none ∷ 2 ∷ none ∷ [])
    ∷ (0 ∷ 2 ∷ 1 ∷ none ∷ [])
    ∷ (1 ∷ 0 ∷ [])
    ∷ (1 ∷ 1 ∷ 1 ∷ 2 ∷ 0 ∷ [])
    ∷ (1 ∷ 1 ∷ 1 ∷ 2 ∷ 1 ∷ [])
    ∷ (4 ∷ 1 ∷ [])
    -- cut between its erase and its mark: block 0 is free after the start
    ∷ (0 ∷ 0 ∷ 0 ∷ 0 ∷ [])
    ∷ (3 ∷ 0 ∷ 0 ∷ none ∷ 2 ∷ none ∷ [])
    ∷ (3 ∷ 2 ∷ 1 ∷ none ∷ [])
    ∷ (0 ∷ 0 ∷ [])
    ∷ (0 ∷ 1 ∷ 1 ∷ 1 ∷ 0 ∷ [])
    ∷ (2 ∷ 1 ∷ 1 ∷ 1 ∷ 1 ∷ [])
    ∷ (4 ∷ 1 ∷ [])
    -- cut after the mark: it is reserved
    ∷ (0 ∷ 0 ∷ 0 ∷ 0 ∷ [])
    ∷ (3 ∷ 0 ∷ 0 ∷ none ∷ 2 ∷ none ∷ [])
    ∷ (3 ∷ 2 ∷ 1 ∷ none ∷ [])
    ∷ (0 ∷ 0 ∷ [])
    ∷ (2 ∷ 1 ∷ 1 ∷ 1 ∷ 0 ∷ [])
    ∷ (2 ∷ 1 ∷ 1 ∷ 1 ∷ 1 ∷ [])
    ∷ (4 ∷ 1 ∷ [])
    -- "its first page gets a zero in spare byte 5": after 16 data bytes and five of its spare bytes; the second page stays erased
    ∷ (replicate 21 255 ++ (0 ∷ replicate 10 255))
    ∷ replicate 32 255
    ∷ [])
