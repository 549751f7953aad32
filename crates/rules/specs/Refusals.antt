-- The documents' own lists of refusals, call by call, which the rows of `rows_of` are held to: proofs/Refusals.antt shows that they give these numbers, in
-- this order.
-- Assumes nothing.
use Rattle.std.specs.Prelude.{ℕ, ◌≡◌, List, [], ◌∷◌, map}
use Rattle.rules.specs.declared.Params.{Params}
use Rattle.rules.specs.declared.Reply.{Reply}
use Rattle.rules.specs.Tables.{Board}
use Rattle.rules.specs.Requests.{Call, format, read, write, release, queue, start}
use Rattle.rules.specs.Replies.{Row, number_of, rows_of, why_rows}

-- the column "by" of document 01's table: 1 and 2 all; 3, 4, 5 and 7 read and write; 6 format. T-03: "Refusals: 1, 2, then 4 .. then 7". T-01: "Refusals: 8,
-- after 2 .. 1, 2 and 8 are for the whole call". T-07: "9, after 7", and "1, 2, 6 and 7 for the start", which with T-12 "no longer" gives 6; T-12: "10, after 9"
unfoldable pub refusals_of : Call → List ℕ
refusals_of format = 1 ∷ 2 ∷ 6 ∷ []
refusals_of (read q) = 1 ∷ 2 ∷ 3 ∷ 4 ∷ 5 ∷ 7 ∷ []
refusals_of (write q) = 1 ∷ 2 ∷ 3 ∷ 4 ∷ 5 ∷ 7 ∷ 9 ∷ 10 ∷ []
refusals_of (release c) = 1 ∷ 2 ∷ 4 ∷ 7 ∷ []
refusals_of (queue l) = 1 ∷ 2 ∷ 8 ∷ []
refusals_of start = 1 ∷ 2 ∷ 7 ∷ []

-- "Checked in this order"
abbrev pub RowsAsSaid : Type 0
RowsAsSaid = (p : Params) (b : Board) (c : Call) → map (λ (x : Row Reply). number_of x.gives) (rows_of p b c) ≡ refusals_of c

-- T-05: "Refusals: 1, 2, 4, 7"
abbrev pub WhyRowsAsSaid : Type 0
WhyRowsAsSaid = (p : Params) (b : Board) (lba : ℕ) → map (λ (x : Row Reply). number_of x.gives) (why_rows p b lba) ≡ 1 ∷ 2 ∷ 4 ∷ 7 ∷ []
