-- `demo_lines::is`: the two lists are compared byte by byte.
use Rattle.std.proofs.Common.{refl, ◌≡◌, ℕ, List, [], ◌∷◌}
use lib.Dec.{eqb}
use lib.Pointwise.{pointwise}
use Rattle.lists.specs.Parts.{same_list}
use Rattle.demo_lines.proofs.is.Goals as goal

same : (xs ys : List ℕ) → pointwise eqb xs ys ≡ same_list xs ys
unfolding same_list
same [] [] = refl
same [] (y ∷ ys) = refl
same (x ∷ xs) [] = refl
same (x ∷ xs) (y ∷ ys) = rw (same xs ys)

pub returns : goal.returns
returns c = rw (← c.as_slice.ensures, ← same c.args.f.now c.as_slice.result.now) c.eq.ensures
