-- Document 01, "Reply numbers", and document 02's refusals: when a row applies, and which rows a call has, in order.
-- Assumes nothing.
use Rattle.std.specs.Prelude.{ℕ, ◌+◌, ◌*◌, ◌≡◌, Bool, true, not, ◌&&◌, ◌||◌, cond, List, [], ◌∷◌, ◌++◌, length, leb, ltb, eqb}
use Rattle.lists.specs.Below.{all_true}
use Rattle.rules.specs.declared.Params.{Params}
use Rattle.rules.specs.declared.Reply.{Reply}
use Rattle.rules.specs.declared.Reply.TheVariants.{Accepted, BadParameter, WrongLength, BadCount, BadAddress, WrongData, TooFewBlocks, NotOrderly, TooFewAnswers, NoStampLeft, NoBlockLeft}
use Rattle.rules.specs.Parameters.{chip_bytes, allowed}
use Rattle.rules.specs.Numbers.{sector_of}
use Rattle.rules.specs.Tables.{Board, marks_length, not_found, stamp_at}
use Rattle.rules.specs.Regions.{view}
use Rattle.rules.specs.Orderly.{orderly}
use Rattle.rules.specs.Requests.{Request, request_region, Call, format, read, write, release, queue, start}
use Rattle.rules.specs.Format.{good_blocks}
use Rattle.rules.specs.Start.{startable}
use Rattle.rules.specs.Write.{free_block, plan_of, takes_block}

-- the documents' number of each reply; 8 is T-01's, 9 T-07's, 10 T-12's
abbrev pub number_of : Reply → ℕ
number_of Accepted = 0
number_of BadParameter = 1
number_of WrongLength = 2
number_of BadCount = 3
number_of BadAddress = 4
number_of WrongData = 5
number_of TooFewBlocks = 6
number_of NotOrderly = 7
number_of TooFewAnswers = 8
number_of NoStampLeft = 9
number_of NoBlockLeft = 10

unfoldable pub is_accepted : Reply → Bool
is_accepted r = eqb (number_of r) 0

-- ---- when a row applies

-- the chip (in bytes) and each table (in entries) has the right length; T-06: "also for the new table's length", and so with T-07's
unfoldable pub lengths_fit : Params → Board → Bool
lengths_fit p b =
    all_true
    (eqb (length b.chip) (chip_bytes p)
    ∷ eqb (length b.ct) p.C
    ∷ eqb (length b.bt) (p.mu * p.gamma)
    ∷ eqb (length b.fst) p.mu
    ∷ eqb (length b.bst) p.N
    ∷ eqb (length b.wear) p.N
    ∷ eqb (length b.marks) (marks_length p)
    ∷ eqb (length b.stamps) p.mu
    ∷ [])

-- what a call past 1, 2 and 7 finds: the parameters are allowed, the lengths fit, and the state is orderly
pub record OrderlyBoard (p : Params) (b : Board) : Type 0 where
  pub fine : allowed p ≡ true
  pub lengths : lengths_fit p b ≡ true
  pub tidy : orderly p b ≡ true

-- 1: "a parameter outside the table above, P above 256, or C/μ rounded up above γF − 1"
unfoldable pub bad_parameter : Params → Bool
bad_parameter p = not (allowed p)

-- 2: "chip (in bytes) or a table (in entries) has the wrong length"
unfoldable pub wrong_length : Params → Board → Bool
wrong_length p b = not (lengths_fit p b)

-- 3: "count is 0, or LBA mod α + count exceeds α"
unfoldable pub bad_count : Params → Request → Bool
bad_count p q = eqb q.count 0 || ltb p.alpha (sector_of p q.lba + q.count)

-- 4: "LBA is C·α or more"
unfoldable pub bad_address : Params → ℕ → Bool
bad_address p lba = leb (p.C * p.alpha) lba

-- T-03: "4 for a cluster not below C"
unfoldable pub bad_cluster : Params → ℕ → Bool
bad_cluster p c = leb p.C c

-- 5: "data length is not count × s"
unfoldable pub wrong_data : Params → Request → Bool
wrong_data p q = not (eqb (length q.bytes) (q.count * p.s))

-- 6: "fewer than μγ+1 blocks are not bad", with T-12 "still good after its erases .. before anything is erased"
unfoldable pub too_few_blocks : Params → Board → Bool
too_few_blocks p b = ltb (good_blocks p b.chip b.wear) (p.mu * p.gamma + 1)

-- 7: "state not orderly"
unfoldable pub not_orderly : Params → Board → Bool
not_orderly p b = not (orderly p b)

-- T-07: 7 of a start, "exactly when" the chip is as that list says
unfoldable pub not_startable : Params → Board → Bool
not_startable p b = not (startable p b.chip)

-- 8: "when the answer list is shorter than the request list"
unfoldable pub too_few_answers : ℕ → ℕ → Bool
too_few_answers items answers = ltb answers items

-- T-07: 9 "when a write's region has no stamp left": its last one, t, is the largest of 32 bits
unfoldable pub no_stamp_left : ℕ → Bool
no_stamp_left t = leb 4294967295 t

-- T-12: 10 "exactly when a write needs a free block and there is none": one to region r
unfoldable pub no_block_left : Params → Board → ℕ → Bool
no_block_left p b r = takes_block (plan_of p (view p b r)) && eqb (free_block p b.bst b.wear) not_found

-- ---- the table

-- what is given where the row applies
pub record Row (A : Type 0) : Type 0 where
  pub applies : Bool
  pub gives : A

abbrev pub row : {A : Type 0} → Bool → A → Row A
row t r = record { applies = t; gives = r }

-- "Checked in this order": what the first row that applies gives; what is given "otherwise"
unfoldable pub first_row : {A : Type 0} → A → List (Row A) → A
first_row other [] = other
first_row other (x ∷ xs) = cond x.applies x.gives (first_row other xs)

-- 1 and 2 are "by" all; 3, 4 and 5 by read and write; 7 by every call that asks for an orderly state
unfoldable pub lent_rows : Params → Board → List (Row Reply)
lent_rows p b = row (bad_parameter p) BadParameter ∷ row (wrong_length p b) WrongLength ∷ []

unfoldable pub access_rows : Params → Request → List (Row Reply)
access_rows p q = row (bad_count p q) BadCount ∷ row (bad_address p q.lba) BadAddress ∷ row (wrong_data p q) WrongData ∷ []

unfoldable pub order_row : Params → Board → List (Row Reply)
order_row p b = row (not_orderly p b) NotOrderly ∷ []

-- T-07: "9, after 7", and T-12: "10, after 9", of a write to region r
unfoldable pub stamp_row : Params → Board → ℕ → List (Row Reply)
stamp_row p b r = row (no_stamp_left (stamp_at b.stamps r)) NoStampLeft ∷ []

unfoldable pub block_row : Params → Board → ℕ → List (Row Reply)
block_row p b r = row (no_block_left p b r) NoBlockLeft ∷ []

-- the rows of a write but the last, which are told before its plan is made
unfoldable pub early_rows : Params → Board → Request → List (Row Reply)
early_rows p b q = lent_rows p b ++ (access_rows p q ++ (order_row p b ++ stamp_row p b (request_region p q)))

-- T-01: "8, after 2"; "1, 2 and 8 are for the whole call"; by the lengths of both lists
unfoldable pub queue_rows : Params → Board → ℕ → ℕ → List (Row Reply)
queue_rows p b items answers = lent_rows p b ++ (row (too_few_answers items answers) TooFewAnswers ∷ [])

-- the rows of a call. T-03: "1, 2, then 4 for a cluster not below C, then 7". T-07: "1, 2, 6 and 7 for the start", and T-12: it "no longer" gives 6
unfoldable pub rows_of : Params → Board → Call → List (Row Reply)
rows_of p b format = lent_rows p b ++ (row (too_few_blocks p b) TooFewBlocks ∷ [])
rows_of p b (read q) = lent_rows p b ++ (access_rows p q ++ order_row p b)
rows_of p b (write q) = early_rows p b q ++ block_row p b (request_region p q)
rows_of p b (release c) = lent_rows p b ++ (row (bad_cluster p c) BadAddress ∷ order_row p b)
rows_of p b (queue l) = queue_rows p b (length l.items) (length l.answers)
rows_of p b start = lent_rows p b ++ (row (not_startable p b) NotOrderly ∷ [])

unfoldable pub reply_of : Params → Board → Call → Reply
reply_of p b c = first_row Accepted (rows_of p b c)

-- T-05: "Refusals: 1, 2, 4, 7", of one LBA
unfoldable pub why_rows : Params → Board → ℕ → List (Row Reply)
why_rows p b lba = lent_rows p b ++ (row (bad_address p lba) BadAddress ∷ order_row p b)

unfoldable pub why_reply : Params → Board → ℕ → Reply
why_reply p b lba = first_row Accepted (why_rows p b lba)
