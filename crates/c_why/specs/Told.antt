-- Which answers are told in the lent list.
-- Assumes nothing.
use Rattle.std.specs.Prelude.{Bool, ◌||◌, ℕ, eqb}

-- the answer is told with reply 0 or 7
unfoldable pub tells : ℕ → Bool
tells reply = eqb reply 0 || eqb reply 7
