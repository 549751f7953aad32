-- The first pages of a frame as the rules' operations: by the number of pages, one program more at each step.
-- Assumes nothing.
use mathlib.Core.Path.{◌≡◌, refl}
use mathlib.Core.List.{List, [], ◌∷◌}
use Prim.Native.Nat.{ℕ, zero, suc, ◌+◌, ◌*◌}
use native.Mathlib.Omega.{arith}
use Rattle.lists.specs.Below.{join_below}
use Rattle.rules.specs.declared.Params.{Params}
use Rattle.rules.specs.Parameters.{frames, pages, page_bytes}
use Rattle.rules.specs.Pages.{page}
use Rattle.rules.specs.Traces.{frame_ops, on_chip, program, replay_chip}
use Rattle.rules.proofs.Chip.{replay_append}
use Rattle.chip_frames.specs.Frame.{first_pages}

pub pages_put : (p : Params) (chip x : List ℕ) (n f k : ℕ) → replay_chip p chip (frame_ops p n f x k) ≡ first_pages (page_bytes p) p.alpha (n * frames p + f) x chip k
unfolding frame_ops join_below replay_chip on_chip first_pages page pages
pages_put p chip x n f zero = refl
pages_put p chip x n f (suc k) =
    let e : n * (p.alpha * frames p) + (f * p.alpha + k) ≡ (n * frames p + f) * p.alpha + k = omega arith in
    rw (replay_append p chip (join_below k (λ j. program n (f * p.alpha + j) (page p x j) ∷ [])), e, pages_put p chip x n f k)
