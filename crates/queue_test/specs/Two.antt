-- What two writes as one queue take and give with plain parameters.
-- Assumes nothing.
use Rattle.std.specs.Prelude.{ℕ, ◌≡◌, cond, List, [], ◌∷◌, ◌++◌, leb, drop, length}
use Rattle.rules.specs.declared.Answer.{Answer}
use Rattle.rules.specs.declared.Reply.TheVariants.{Accepted}
use Rattle.rules.specs.Tables.{Board}
use Rattle.rules.specs.Calls.{Outcome}
use Rattle.outcomes.specs.Claims.{outcome}
use Rattle.c_answer.specs.Packed.{packed}

-- what both places of the answer list hold before the call
abbrev pub unset : Answer
unset = record { reply = Accepted; programs = 0; erases = 0; looks = 0 }

-- a list with these numbers in front, where it has a place for each; a shorter one stays
unfoldable pub placed : List ℕ → List ℕ → List ℕ
placed xs list = cond (leb (length xs) (length list)) (xs ++ drop (length xs) list) list

-- both items' answers: each packed, and T-08's count of each, which is not in that number
abbrev pub both : Answer → Answer → List ℕ
both first second = packed first ∷ packed second ∷ first.looks ∷ second.looks ∷ []

-- what a call through C gives of an outcome: the call's own answer, packed, is the result, and the items' are in the list; data, chip and tables are left
pub record Two (o : Outcome) (bytes before : List ℕ) (word : ℕ) (after : List ℕ) (b : Board) : Type 0 where
  pub own : Answer
  pub first : Answer
  pub second : Answer
  pub whole : outcome own bytes (first ∷ second ∷ []) b ≡ o
  pub result : word ≡ packed own
  pub list : after ≡ placed (both first second) before
