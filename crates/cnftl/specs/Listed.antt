-- What the C call that tells why a sector reads so leaves: its reply, and the lent list.
-- Assumes nothing.
use Rattle.std.specs.Prelude.{◌≡◌, ◌&&◌, cond, List, ℕ, eqb, get_or, length}
use Rattle.rules.specs.declared.Params.{Params}
use Rattle.rules.specs.Parameters.{allowed}
use Rattle.rules.specs.Tables.{Board}
use Rattle.call_why.specs.Why.{why_of}
use Rattle.c_why.specs.Told.{tells}

-- 1 or 2 where the list has not thirteen entries
unfoldable pub told_reply : Params → Board → ℕ → List ℕ → ℕ
told_reply p b lba list = cond (eqb (length list) 13) (get_or (why_of p b lba) 0 0) (cond (allowed p) 2 1)

-- the list: the answer's numbers where it is told, else as it was lent
unfoldable pub told_list : Params → Board → ℕ → List ℕ → List ℕ
told_list p b lba list = cond (eqb (length list) 13 && tells (get_or (why_of p b lba) 0 0)) (why_of p b lba) list

pub record Listed (p : Params) (b : Board) (lba : ℕ) (list : List ℕ) (word : ℕ) (list' : List ℕ) : Type 0 where
  pub reply : word ≡ told_reply p b lba list
  pub numbers : list' ≡ told_list p b lba list
