-- An item's data is wrong, in its turn, exactly where its bytes do not lie in the data part.
-- Assumes nothing.
use mathlib.Core.Path.{◌≡◌, ap, ◌∙◌}
use mathlib.Core.Logic.{◌⊎◌, inl, inr}
use mathlib.Core.Bool.{true, false, not, cond}
use mathlib.Core.List.{List, []}
use Prim.Native.Nat.{ℕ, ◌+◌, ◌*◌, ◌<◌, min}
use native.Mathlib.Nat.{mul-le-mul}
use native.Mathlib.Omega.{arith}
use lib.Dec.{eqb, leb}
use lib.ListN.{length, take, drop, length-drop, length-take}
use borrow.Author.Tests.{eq-eqb, eqb-false, leb-true, ne_eqb}
use Rattle.lists.proofs.Tests.{never, so}
use Rattle.rules.specs.declared.Params.{Params}
use Rattle.rules.specs.declared.Item.{Item}
use Rattle.rules.specs.Parameters.{allowed}
use Rattle.rules.specs.Requests.{item_request, lies}
use Rattle.rules.specs.Replies.{bad_count, wrong_data}
use Rattle.rules.proofs.Sizes.{sizes}

pub item_data : (p : Params) (bytes : List ℕ) (it : Item) → allowed p ≡ true → bad_count p (item_request p bytes it) ≡ false → wrong_data p (item_request p bytes it) ≡ not (lies p bytes it)
unfolding wrong_data bad_count item_request lies
item_data p bytes it fine ok = go (so (leb (it.first + it.count * p.s) (length bytes)))
  where
    some : 0 < it.count
    some = nonzero (so (eqb it.count 0))
      where
        nonzero : (eqb it.count 0 ≡ true) ⊎ (eqb it.count 0 ≡ false) → 0 < it.count
        nonzero (inl e) = absurd (never (rw e) ok)
        nonzero (inr e) = let ne = eqb-false it.count 0 e in omega arith

    go : (leb (it.first + it.count * p.s) (length bytes) ≡ true) ⊎ (leb (it.first + it.count * p.s) (length bytes) ≡ false)
        → not (eqb (length (cond (leb (it.first + it.count * p.s) (length bytes)) (take (it.count * p.s) (drop it.first bytes)) [])) (it.count * p.s))
        ≡ not (leb (it.first + it.count * p.s) (length bytes))
    go (inl e) =
        let fits = leb-true (it.first + it.count * p.s) (length bytes) e in
        let long : length (take (it.count * p.s) (drop it.first bytes)) ≡ it.count * p.s =
        length-take (it.count * p.s) (drop it.first bytes) ∙ ap (min (it.count * p.s)) (length-drop it.first bytes) ∙ omega (arith, fits) in
        rw e (ap not (eq-eqb _ _ long))
    go (inr e) = rw e (ap not (ne_eqb 0 (it.count * p.s) (λ z. omega (arith, mul-le-mul some (sizes p fine).s_low))))
