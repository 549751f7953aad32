-- Document 02, T-10, "Erases per region": what the accepted writes to a region report, in order, and how many erases any of them that stand in a row bring.
-- Assumes nothing.
use Rattle.std.specs.Prelude.{ℕ, ◌+◌, ◌-◌, ◌*◌, ◌/◌, ◌≤◌, ◌<◌, ◌≡◌, Bool, true, false, ◌&&◌, cond, List, [], ◌∷◌, ◌++◌, map, length, eqb}
use Rattle.lists.specs.Below.{count_below}
use Rattle.rules.specs.declared.Params.{Params}
use Rattle.rules.specs.declared.Reply.TheVariants.{Accepted}
use Rattle.rules.specs.Parameters.{frames}
use Rattle.rules.specs.Numbers.{region_of}
use Rattle.rules.specs.Tables.{Board}
use Rattle.rules.specs.Requests.{Call, format, read, write, release, queue, start}
use Rattle.rules.specs.Replies.{is_accepted, reply_of}
use Rattle.rules.specs.Calls.{Part}
use Rattle.rules.specs.Cuts.{Step, plain}
use Rattle.claims.specs.Runs.{leaves, parts_of, parts_to, uncut}

-- ---- L and G

-- "Let L be the number of clusters that belong to a region"
unfoldable pub clusters_in : Params → ℕ → ℕ
clusters_in p r = count_below p.C (λ c. eqb (region_of p c) r)

-- "divided by .., rounded up"
unfoldable pub rounded_up : ℕ → ℕ → ℕ
rounded_up n k = (n + (k - 1)) / k

-- "and let G be the γF − L spare frames divided by γ, rounded up"
unfoldable pub spare_share : Params → ℕ → ℕ
spare_share p r = rounded_up (p.gamma * frames p - clusters_in p r) p.gamma

-- ---- the writes and their erases

-- an item of a queue that answers 0 asks for a write of its own
unfoldable pub is_write : Call → Bool
is_write format = false
is_write (read q) = false
is_write (write q) = true
is_write (release c) = false
is_write (queue l) = false
is_write start = false

-- "accepted writes", in order: reads, releases and refused writes may stand between them
unfoldable pub accepted_writes : List Part → List Part
accepted_writes [] = []
accepted_writes (x ∷ xs) = cond (is_write x.asks && is_accepted x.answer.reply) (x ∷ accepted_writes xs) (accepted_writes xs)

-- the erases that the answers of the accepted writes "to the region" report
unfoldable pub erases_by : Params → ℕ → List Part → List ℕ
erases_by p r xs = map (λ (x : Part). x.answer.erases) (accepted_writes (parts_to p r xs))

unfoldable pub total : List ℕ → ℕ
total [] = 0
total (n ∷ ns) = n + total ns

-- ---- the figure

-- "From a format on, without cuts, any k accepted writes to the region in a row bring at most k/G erases, rounded up": any writes that stand in a row in the
-- list of them, whatever else is called before, between and after them, other formats and starts too, with budgets that are never spent or without
abbrev pub ErasesPerRegion : Type 0
ErasesPerRegion =
    (p : Params) (b : Board) → reply_of p b format ≡ Accepted → (ss : List Step) → uncut p (leaves p b (plain format)) ss ≡ true → (r : ℕ) → r < p.mu
    → (earlier row later : List ℕ) → erases_by p r (parts_of p b (plain format ∷ ss)) ≡ earlier ++ (row ++ later)
    → total row ≤ rounded_up (length row) (spare_share p r)
