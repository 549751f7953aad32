-- Document 01, "Board T": what the bench program prints. "Output: one line for the format, then one a line".
-- Assumes nothing.
use Rattle.std.specs.Prelude.{ℕ, zero, suc, ◌+◌, ◌/◌, ◌%◌, ◌≤◌, ◌≡◌, cond, List, [], ◌∷◌, ◌++◌, length, take, drop, ltb}
use Rattle.std.proofs.lemmas.List.Edits.{sets}
use Rattle.lists.specs.Below.{join_below}
use Rattle.lists.specs.Parts.{part}
use Rattle.rules.specs.declared.Answer.{Answer}
use Rattle.rules.specs.Replies.{number_of, is_accepted}

-- the character of a digit: `0` (48) to `9`, then `a` (97) to `f`
unfoldable pub digit : ℕ → ℕ
digit d = cond (ltb d 10) (48 + d) (87 + d)

-- a number in decimal without leading zeros; ten digits are enough for one below 2³²
unfoldable pub decimal_up_to : ℕ → ℕ → List ℕ
decimal_up_to zero n = []
decimal_up_to (suc k) n = cond (ltb n 10) (digit n ∷ []) (decimal_up_to k (n / 10) ++ (digit (n % 10) ∷ []))

unfoldable pub decimal : ℕ → List ℕ
decimal n = decimal_up_to 10 n

-- bytes in hex, two digits a byte
unfoldable pub hex : List ℕ → List ℕ
hex [] = []
hex (b ∷ l) = digit (b / 16) ∷ digit (b % 16) ∷ hex l

-- "each sector in hex": each of k sectors of Board T's 16 bytes, after a tab (9)
unfoldable pub sectors : ℕ → List ℕ → List ℕ
sectors k l = join_below k (λ j. 9 ∷ hex (part 16 j l))

-- "letter, reply, programs, erases"
unfoldable pub counts : ℕ → Answer → List ℕ
counts letter a = letter ∷ 9 ∷ decimal (number_of a.reply) ++ (9 ∷ decimal a.programs ++ (9 ∷ decimal a.erases))

-- for the format (`F`, 70). LF (10) ends a line
unfoldable pub format_line : Answer → List ℕ
format_line a = counts 70 a ++ (10 ∷ [])

-- for a write (`W`, 87). T-08: "a fifth field, spare reads"
unfoldable pub write_line : Answer → List ℕ
write_line a = counts 87 a ++ (9 ∷ decimal a.looks ++ (10 ∷ []))

-- "for `R` (82) letter, reply, then each sector in hex if the reply is 0"
unfoldable pub read_line : Answer → ℕ → List ℕ → List ℕ
read_line a k l = 82 ∷ 9 ∷ decimal (number_of a.reply) ++ (cond (is_accepted a.reply) (sectors k l) [] ++ (10 ∷ []))

-- "gives `?`" (63)
unfoldable pub unknown_line : List ℕ
unknown_line = 63 ∷ 10 ∷ []

-- a lent buffer before and after bytes x are put at an index of it: x stands there, and r is the index after it
pub record Put (x : List ℕ) (at : ℕ) (before after : List ℕ) (r : ℕ) : Type 0 where
  pub next : r ≡ at + length x
  pub stored : after ≡ sets before at x

-- a lent buffer before and after a line x is printed into it: its first r bytes are the line, the rest is as it was
pub record Printed (x before after : List ℕ) (r : ℕ) : Type 0 where
  pub line : take r after ≡ x
  pub rest : drop r after ≡ drop r before
  pub within : r ≤ length after
  pub counted : r ≡ length (take r after)
