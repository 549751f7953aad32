-- T-12: how long a board lasts, and which blocks are given up. From an accepted format on, a write is refused with 10 only once so many erases were made that all but μγ of
-- the blocks that were not bad are worn out. proofs/Life.antt and proofs/Rated.antt have the theorems.
-- Assumes nothing.
use Rattle.std.specs.Prelude.{ℕ, ◌+◌, ◌-◌, ◌*◌, ◌≤◌, ◌<◌, ◌≡◌, ◌⊎◌, ◌↔◌, true, not, cond, List, ◌∷◌}
use Rattle.lists.specs.Below.{count_below, sum_below}
use Rattle.rules.specs.declared.Params.{Params}
use Rattle.rules.specs.declared.Reply.TheVariants.{Accepted, NoBlockLeft}
use Rattle.rules.specs.Tables.{Board, bst_at, wear_at}
use Rattle.rules.specs.Traces.{erases_in}
use Rattle.rules.specs.Requests.{Request, format, write}
use Rattle.rules.specs.Format.{bad}
use Rattle.rules.specs.Replies.{reply_of}
use Rattle.rules.specs.Cuts.{Step, plain}
use Rattle.claims.specs.Runs.{Belief, Known, belief_after, board_after, leaves, stands, trace_of, uncut}

-- R: how many blocks are not bad; and their wear together
unfoldable pub good_at_format : Params → Board → ℕ
good_at_format p b = count_below p.N (λ n. not (bad p b.chip n))

unfoldable pub wear_at_format : Params → Board → ℕ
wear_at_format p b = sum_below p.N (λ n. cond (bad p b.chip n) 0 (wear_at b.wear n))

-- a write that gets 10, after any calls through any cuts, wherever the tables stand: (R − μγ) · (E − 1) erases less the wear at the format came between
abbrev pub Life : Type 0
Life =
    (p : Params) (b : Board) → reply_of p b format ≡ Accepted → (ss : List Step) (x : Belief) (k : Known) → belief_after p b (plain format ∷ ss) x ≡ stands k
    → (q : Request) → reply_of p (board_after p b (plain format ∷ ss)) (write q) ≡ NoBlockLeft
    → (good_at_format p b - p.mu * p.gamma) * (p.E - 1) ≤ wear_at_format p b + erases_in (trace_of p (leaves p b (plain format)) ss)

-- T-12 over runs without cuts: a block is reserved exactly if the format found it bad or its wear is E or more, so that none is used past its rated erases and none is given up before
abbrev pub WornOverRuns : Type 0
WornOverRuns =
    (p : Params) (b : Board) → reply_of p b format ≡ Accepted → (ss : List Step) → uncut p (leaves p b (plain format)) ss ≡ true → (n : ℕ) → n < p.N
    → (bst_at (board_after p b (plain format ∷ ss)).bst n ≡ 2) ↔ ((bad p b.chip n ≡ true) ⊎ (p.E ≤ wear_at (board_after p b (plain format ∷ ss)).wear n))
