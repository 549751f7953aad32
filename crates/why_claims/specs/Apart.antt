-- Two answers of `why` that differ have different numbers, so that the claim of `explain`, which is about the numbers, allows one answer.
-- Assumes nothing.
use Rattle.std.specs.Prelude.{◌≡◌, ℕ}
use Rattle.rules.specs.declared.Params.{Params}
use Rattle.rules.specs.Tables.{Board}
use Rattle.call_why.specs.declared.Why.{Why}
use Rattle.call_why.specs.Why.{numbers_of, why_of}

-- "a definition lists this paper's number and values for each case": no two cases, and no two values of a case, have the same list
abbrev pub WhyApart : Type 0
WhyApart = (w w' : Why) → numbers_of w ≡ numbers_of w' → w ≡ w'

-- "any two outcomes allowed by its claim are equal"
abbrev pub ExplainOnce : Type 0
ExplainOnce = (p : Params) (b : Board) (lba : ℕ) (w w' : Why) → numbers_of w ≡ why_of p b lba → numbers_of w' ≡ why_of p b lba → w ≡ w'
