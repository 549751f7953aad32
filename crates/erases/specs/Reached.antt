-- T-10's figure on Board T, and a small board with a run on it whose writes bring as many erases as the figure allows, in each of its two regions.
-- proofs/Reached.antt shows it by computation.
-- Assumes nothing.
use Rattle.std.specs.Prelude.{ℕ, suc, ◌≡◌, List, [], ◌∷◌, ◌++◌, length, replicate}
use Rattle.rules.specs.declared.Params.{Params}
use Rattle.rules.specs.declared.Reply.TheVariants.{Accepted}
use Rattle.rules.specs.Tables.{Board}
use Rattle.rules.specs.Requests.{format, request_of, write}
use Rattle.rules.specs.Replies.{reply_of}
use Rattle.rules.specs.Cuts.{Step, plain}
use Rattle.cases.specs.BoardT.{board_t}
use Rattle.claims.specs.Runs.{parts_of}
use Rattle.erases.specs.Erases.{clusters_in, erases_by, rounded_up, spare_share, total}

-- L and G of region r
unfoldable pub figures : Params → ℕ → List ℕ
figures p r = clusters_in p r ∷ spare_share p r ∷ []

-- Board T: γF is 4, and each region has three of the six clusters; (4 − 3)/2 rounded up is 1, so every write may erase
pub record FiguresT : Type 0 where
  pub first : figures board_t 0 ≡ 3 ∷ 1 ∷ []
  pub second : figures board_t 1 ≡ 3 ∷ 1 ∷ []

-- one sector to a cluster, three frames to a block and two blocks to a region, so γF is 6; clusters 0 and 2 are region 0's, cluster 1 is region 1's
unfoldable pub small : Params
small = record { s = 16; alpha = 1; beta = 1; d = 3; mu = 2; gamma = 2; C = 3; N = 5; E = 1000000 }

-- "chip all 255, wear all 0"
unfoldable pub blank_small : Board
blank_small =
    record {
      chip = replicate 480 255;
      ct = replicate 3 0;
      bt = replicate 4 0;
      fst = replicate 2 0;
      bst = replicate 5 0;
      wear = replicate 5 0;
      marks = replicate 16 0;
      stamps = replicate 2 0;
    }

unfoldable pub puts : ℕ → Step
puts c = plain (write (request_of c 1 (replicate 16 c)))

-- writes to both regions by turns: region 0's fill a block with cluster 0 and one with cluster 2, and go on with 0
unfoldable pub mixed : List Step
mixed =
    puts 0 ∷ puts 1 ∷ puts 0 ∷ puts 1 ∷ puts 0 ∷ puts 1 ∷ puts 2 ∷ puts 1 ∷ puts 2 ∷ puts 1 ∷ puts 2 ∷ puts 1 ∷ puts 0 ∷ puts 1 ∷ puts 0 ∷ puts 1 ∷ puts 0 ∷ puts 1 ∷ puts 1 ∷ []

-- what the writes to region r report
unfoldable pub mixed_erases : ℕ → List ℕ
mixed_erases r = erases_by small r (parts_of small blank_small (plain format ∷ mixed))

-- L, G, and erases exactly G writes apart: G + 1 writes in a row with 2 erases, which is what the figure allows
pub record Reached (r l g : ℕ) (earlier row : List ℕ) : Type 0 where
  pub figure : figures small r ≡ l ∷ g ∷ []
  pub erases : mixed_erases r ≡ earlier ++ row
  pub long : length row ≡ suc g
  pub two : total row ≡ 2
  pub allowed : rounded_up (length row) (spare_share small r) ≡ 2

-- region 0: (6 − 2)/2 is 2; region 1: (6 − 1)/2 rounded up is 3
pub record BoundReached : Type 0 where
  pub formatted : reply_of small blank_small format ≡ Accepted
  pub first : Reached 0 2 2 (replicate 6 0) (1 ∷ 0 ∷ 1 ∷ [])
  pub second : Reached 1 1 3 (replicate 6 0) (1 ∷ 0 ∷ 0 ∷ 1 ∷ [])
