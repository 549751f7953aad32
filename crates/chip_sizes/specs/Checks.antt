-- The tests behind reply 1. `proofs/Checks.antt` shows that they are the rules' `allowed`.
-- Assumes nothing.
use Rattle.std.specs.Prelude.{◌-◌, ◌*◌, Bool, ◌&&◌, leb}
use Rattle.rules.specs.declared.Params.{Params}
use Rattle.rules.specs.Parameters.{frames, pages, per_region, within}

-- each parameter is in its range
unfoldable pub in_ranges : Params → Bool
in_ranges p =
    within 16 512 p.s
    && within 1 16 p.alpha
    && within 1 16 p.beta
    && within 1 16 p.d
    && within 1 1024 p.mu
    && within 1 16 p.gamma
    && within 1 1048576 p.C
    && within 1 65535 p.N
    && within 1 1000000 p.E

-- P is at most 256, and C/μ rounded up at most γF − 1
unfoldable pub tied : Params → Bool
tied p = leb (pages p) 256 && leb (per_region p) (p.gamma * frames p - 1)
