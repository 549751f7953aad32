-- Document 02, T-06, "Valid frames as bits": the marks that a board ought to have, by the validity rule, and the table that holds them.
-- Assumes nothing.
use Rattle.std.specs.Prelude.{ℕ, ◌+◌, ◌*◌, ◌/◌, ◌%◌, Bool, ◌&&◌, List, ltb}
use Rattle.lists.specs.Below.{bits_below, list_below}
use Rattle.rules.specs.declared.Params.{Params}
use Rattle.rules.specs.Parameters.{frames}
use Rattle.rules.specs.Tables.{Board, marks_length}
use Rattle.rules.specs.Regions.{View, valid, view}

-- which frames of which virtual blocks of which regions have a mark
abbrev pub Marks : Type 0
Marks = ℕ → ℕ → ℕ → Bool

-- "the mark of frame f stands at bit f mod 64 of word f / 64": word w of the marks of one virtual block
unfoldable pub word_of : (ℕ → Bool) → ℕ → ℕ
word_of m w = bits_below 64 (λ i. m (64 * w + i))

-- the word at index k of the table that holds these marks, and the table
unfoldable pub entry_of : Params → Marks → ℕ → ℕ
entry_of p m k = word_of (m (k / 4 / p.gamma) (k / 4 % p.gamma)) (k % 4)

unfoldable pub table_of : Params → Marks → List ℕ
table_of p m = list_below (marks_length p) (entry_of p m)

-- "Marks from F up are zero", and "each mark equals the validity rule"; a virtual block without a physical block has no valid frame
unfoldable pub marked : Params → View → ℕ → ℕ → Bool
marked p vw v f = ltb f (frames p) && valid p vw v f

-- the marks by what each region sees; those of a board, and the table that holds them
unfoldable pub marks_in : Params → (ℕ → View) → Marks
marks_in p views r = marked p (views r)

abbrev pub marks_on : Params → Board → Marks
marks_on p b = marks_in p (view p b)

abbrev pub marks_of : Params → Board → List ℕ
marks_of p b = table_of p (marks_on p b)
