-- T-07: "A released cluster with whole frames left comes back with the latest, which is also its old content": which frame that is, on the whole chip, whatever the tables say.
-- Assumes nothing.
use Rattle.std.specs.Prelude.{ℕ, ◌*◌, ◌/◌, ◌%◌, Bool, ◌&&◌, cond, List, replicate, take, eqb}
use Rattle.lists.specs.Below.{most_below}
use Rattle.rules.specs.declared.Params.{Params}
use Rattle.rules.specs.Parameters.{frames}
use Rattle.rules.specs.Pages.{block, frame, holds, page, stamp_of}
use Rattle.rules.specs.Start.{in_use}

-- the frames of the chip, counted through its blocks: N-as-F of them
unfoldable pub chip_frame : Params → List ℕ → ℕ → List ℕ
chip_frame p chip i = frame p (block p chip (i / frames p)) (i % frames p)

-- frame i is a whole frame of cluster c, in a block that is neither bad nor erased
unfoldable pub whole_of : Params → List ℕ → ℕ → ℕ → Bool
whole_of p chip c i = in_use p chip (i / frames p) && holds p (chip_frame p chip i) c

-- what sector j of cluster c reads as in the one of them with the largest stamp; 255 throughout if there is none
unfoldable pub latest : Params → List ℕ → ℕ → ℕ → List ℕ
latest p chip c j =
    let end = p.N * frames p in
    let i = most_below (λ i. stamp_of p (chip_frame p chip i)) end end (whole_of p chip c) in
    cond (eqb i end) (replicate p.s 255) (take p.s (page p (chip_frame p chip i) j))
