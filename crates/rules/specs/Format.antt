-- Document 01, "Format", as document 02's T-02 and T-12 amend it.
-- Assumes nothing.
use Rattle.std.specs.Prelude.{ℕ, ◌*◌, Bool, not, ◌&&◌, ◌||◌, cond, List, [], ◌∷◌, get_or, replicate, eqb, leb}
use Rattle.lists.specs.Below.{count_below, join_below}
use Rattle.rules.specs.declared.Params.{Params}
use Rattle.rules.specs.Parameters.{pages}
use Rattle.rules.specs.Tables.{Board, none}
use Rattle.rules.specs.Pages.{block, spare}
use Rattle.rules.specs.Traces.{Op, erase_where, erased_state, finish, worn}

-- "byte 5 of the spare area is not 255" in page j of block n
unfoldable pub bad_mark : Params → List ℕ → ℕ → ℕ → Bool
bad_mark p chip n j = not (eqb (get_or (spare p (block p chip n) j) 5 0) 255)

-- T-02: "A block is bad if byte 5 of the spare area is not 255 in page 0, or in page 1 where P is at least 2"
unfoldable pub bad : Params → List ℕ → ℕ → Bool
bad p chip n = bad_mark p chip n 0 || (leb 2 (pages p) && bad_mark p chip n 1)

-- T-12: the "blocks still good after its erases": those that are not bad and that an erase does not wear out
unfoldable pub good_blocks : Params → List ℕ → List ℕ → ℕ
good_blocks p chip wear = count_below p.N (λ n. not (bad p chip n) && not (worn p wear n))

-- "Bad blocks .. are not touched. All others are erased (one erase each)"
unfoldable pub format_ops : Params → List ℕ → List ℕ → List Op
format_ops p chip wear = erase_where p wear (λ n. not (bad p chip n))

-- "Bad blocks become reserved .. All others .. become free", T-12: or reserved. "CT, BT and FST become none"; T-07: a last stamp is "0 at format"
unfoldable pub formatted : Params → Board → Board
formatted p b =
    finish p b (format_ops p b.chip b.wear)
    (record {
      ct = replicate p.C none;
      bt = replicate (p.mu * p.gamma) none;
      fst = replicate p.mu none;
      bst = join_below p.N (λ n. cond (bad p b.chip n) 2 (erased_state p b.wear n) ∷ []);
      stamps = replicate p.mu 0;
    })
