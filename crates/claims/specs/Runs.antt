-- Runs: lists of calls with the same parameters, with budgets or without, each on the board that the one before left; what their requests get, what they do to the
-- chip, and what a host knows that has only its requests, their replies and what a start finds.
-- Assumes nothing.
use Rattle.std.specs.Prelude.{ℕ, ◌+◌, ◌-◌, ◌%◌, ◌<◌, ◌≡◌, Bool, true, false, not, ◌&&◌, ◌||◌, cond, List, [], ◌∷◌, ◌++◌, map, length, drop, replicate, take, leb, ltb, eqb}
use Rattle.lists.specs.Below.{updated}
use Rattle.lists.specs.Parts.{part}
use Rattle.rules.specs.declared.Params.{Params}
use Rattle.rules.specs.declared.Answer.{Answer}
use Rattle.rules.specs.Parameters.{pages}
use Rattle.rules.specs.Numbers.{cluster_of, region_of, sector_of}
use Rattle.rules.specs.Tables.{Board}
use Rattle.rules.specs.Regions.{sector}
use Rattle.rules.specs.Orderly.{enough}
use Rattle.rules.specs.Traces.{Op, program, erase, mark}
use Rattle.rules.specs.Requests.{Request, item_requests, request_of, request_cluster, request_region, Call, format, read, write, release, queue, start}
use Rattle.rules.specs.Replies.{is_accepted}
use Rattle.rules.specs.Calls.{Part, ops_of, work_of, write_work}
use Rattle.rules.specs.Cuts.{Step, plain, limited, call_of, cut_part, finished, is_cut, step_outcome}
use Rattle.rules.specs.Words.{SpareListed}

-- ---- a run

-- the board that a call leaves, cut or not, and the board after a run
unfoldable pub leaves : Params → Board → Step → Board
leaves p b s = (step_outcome p b s).board

unfoldable pub board_after : Params → Board → List Step → Board
board_after p b [] = b
board_after p b (s ∷ ss) = board_after p (leaves p b s) ss

-- no call of it is cut
unfoldable pub uncut : Params → Board → List Step → Bool
uncut p b [] = true
uncut p b (s ∷ ss) = not (is_cut p b s) && uncut p (leaves p b s) ss

-- "not formatted again"; T-07: condition 3 "ends at a board's first cut or start"
unfoldable pub resets : Call → Bool
resets format = true
resets (read q) = false
resets (write q) = false
resets (release c) = false
resets (queue l) = false
resets start = true

unfoldable pub undisturbed : Params → Board → List Step → Bool
undisturbed p b [] = true
undisturbed p b (s ∷ ss) = not (is_cut p b s) && (not (resets (call_of s)) && undisturbed p (leaves p b s) ss)

-- T-12: "while at least μγ+1 blocks are not reserved": on each board that a call finds, and each item of a queue
unfoldable pub roomy_items : Params → Board → List Request → Bool
roomy_items p b [] = true
roomy_items p b (q ∷ qs) = enough p b && roomy_items p (write_work p b q).left qs

unfoldable pub roomy_call : Params → Board → Call → Bool
roomy_call p b format = enough p b
roomy_call p b (read q) = enough p b
roomy_call p b (write q) = enough p b
roomy_call p b (release c) = enough p b
roomy_call p b (queue l) = roomy_items p b (item_requests p l.bytes l.items)
roomy_call p b start = enough p b

unfoldable pub roomy : Params → Board → List Step → Bool
roomy p b [] = true
roomy p b (s ∷ ss) = roomy_call p b (call_of s) && roomy p (leaves p b s) ss

-- ---- what its requests get

-- the parts that a call finishes: all, or those before its cut
unfoldable pub parts_by : Params → Board → Step → List Part
parts_by p b (plain c) = (work_of p b c).parts
parts_by p b (limited k c) = cond (is_cut p b (limited k c)) (finished k (work_of p b c).parts) (work_of p b c).parts

-- those of a run, in order: T-01, "the items of calls that answer 0" are among them
unfoldable pub parts_of : Params → Board → List Step → List Part
parts_of p b [] = []
parts_of p b (s ∷ ss) = parts_by p b s ++ parts_of p (leaves p b s) ss

-- a read or a write counts to the region of its LBA, a release to that of its cluster, also where it is refused
unfoldable pub to_region : Params → ℕ → Call → Bool
to_region p r format = false
to_region p r (read q) = eqb (request_region p q) r
to_region p r (write q) = eqb (request_region p q) r
to_region p r (release c) = eqb (region_of p c) r
to_region p r (queue l) = false
to_region p r start = false

unfoldable pub parts_to : Params → ℕ → List Part → List Part
parts_to p r [] = []
parts_to p r (x ∷ xs) = cond (to_region p r x.asks) (x ∷ parts_to p r xs) (parts_to p r xs)

-- what is asked: of a read its LBA, its count and how many bytes are lent, not what they hold
unfoldable pub asked : Call → Call
asked format = format
asked (read q) = read (request_of q.lba q.count (replicate (length q.bytes) 0))
asked (write q) = write q
asked (release c) = release c
asked (queue l) = queue l
asked start = start

-- what the caller is told: the reply with the three counts, and where it is 0 the data
pub record Told : Type 0 where
  pub answer : Answer
  pub bytes : List ℕ

unfoldable pub told : Answer → List ℕ → Told
told a bytes = record { answer = a; bytes = cond (is_accepted a.reply) bytes [] }

-- the requests to a region, and what their callers are told
unfoldable pub requests_to : Params → ℕ → List Part → List Call
requests_to p r xs = map (λ (x : Part). asked x.asks) (parts_to p r xs)

unfoldable pub told_to : Params → ℕ → List Part → List Told
told_to p r xs = map (λ (x : Part). told x.answer x.bytes) (parts_to p r xs)

-- ---- what it does to the chip

-- the operations that a call makes: all, or as many as its budget
unfoldable pub made_by : Params → Board → Step → List Op
made_by p b (plain c) = ops_of (work_of p b c).parts
made_by p b (limited k c) = cond (is_cut p b (limited k c)) (take k (ops_of (work_of p b c).parts)) (ops_of (work_of p b c).parts)

unfoldable pub trace_of : Params → Board → List Step → List Op
trace_of p b [] = []
trace_of p b (s ∷ ss) = made_by p b s ++ trace_of p (leaves p b s) ss

-- an erase of block n is among them
unfoldable pub erases_block : ℕ → List Op → Bool
erases_block n [] = false
erases_block n (program m q x ∷ os) = erases_block n os
erases_block n (erase m ∷ os) = eqb m n || erases_block n os
erases_block n (mark m ∷ os) = erases_block n os

-- an operation fits the chip: a program is of a page of the chip, and of a whole page with the spare bytes that document 01 lists, for a cluster of the
-- board, the page's place in its frame, a stamp and a virtual block; an erase is of a block of the chip, and so is a mark, where blocks have a page
abbrev pub Fits : Params → Op → Type 0
Fits p (program n q x) = (n < p.N) × (q < pages p) × (length x ≡ p.s + 16)
    × ((c : ℕ) × (t : ℕ) × (v : ℕ) × (c < p.C) × (v < p.gamma) × SpareListed c (q % p.alpha) t v (drop p.s x))
Fits p (erase n) = n < p.N
Fits p (mark n) = (n < p.N) × (0 < pages p)

abbrev pub AllFit : Params → List Op → Type 0
AllFit p [] = Unit {0}
AllFit p (o ∷ os) = Fits p o × AllFit p os

-- an operation programs page q of block n: T-12's "mark programs" are of the first page
abbrev pub ProgramsPage : ℕ → ℕ → Op → Type 0
ProgramsPage n q (program m k x) = (m ≡ n) × (k ≡ q)
ProgramsPage n q (erase m) = ⊥
ProgramsPage n q (mark m) = (m ≡ n) × (q ≡ 0)

-- "No page is programmed twice between erases": between any two operations that program one page lies an erase of its block
unfoldable pub NoPageTwice : List Op → Type 0
NoPageTwice ops =
    (n q : ℕ) (x y : Op) (before between after : List Op) → ProgramsPage n q x → ProgramsPage n q y → ops ≡ before ++ (x ∷ (between ++ (y ∷ after)))
    → erases_block n between ≡ true

-- ---- what the host knows

-- the bytes of each LBA
abbrev pub Memory : Type 0
Memory = ℕ → List ℕ

-- "all ones if there are none"
unfoldable pub blank : Params → Memory
blank p a = replicate p.s 255

-- the LBAs of a request have their part of its bytes; those of a cluster have nothing
unfoldable pub given : Params → Request → Memory → Memory
given p q m a = cond (leb q.lba a && ltb a (q.lba + q.count)) (part p.s (a - q.lba) q.bytes) (m a)

unfoldable pub cleared : Params → ℕ → Memory → Memory
cleared p c m a = cond (eqb (cluster_of p a) c) (blank p a) (m a)

-- what an LBA reads as
unfoldable pub sector_at : Params → Board → Memory
sector_at p b a = sector p b (cluster_of p a) (sector_of p a)

-- "the bytes last accepted for it since the last accepted format", with T-03 "since the format or the last release"; and the clusters released and not written since
pub record Known : Type 0 where
  pub memory : Memory
  pub released : ℕ → Bool

abbrev pub known : Memory → (ℕ → Bool) → Known
known m f = record { memory = m; released = f }

-- what an accepted request makes of it, in a call that leaves board b'; a queue does so by its items. T-07: "For condition 2, what the start finds counts as accepted at
-- it"
unfoldable pub learns : Params → Board → Call → Known → Known
learns p b' format k = known (blank p) (λ c. false)
learns p b' (read q) k = k
learns p b' (write q) k = known (given p q k.memory) (updated k.released (request_cluster p q) false)
learns p b' (release c) k = known (cleared p c k.memory) (updated k.released c true)
learns p b' (queue l) k = k
learns p b' start k = known (sector_at p b') (λ c. false)

-- where it stands with the tables. `stands`: they are there. `lost`: a cut took them, and perhaps cut a write short. `nothing`: a format was cut, and "after a cut format a
-- format" is due
pub data Belief : Type 0 where
  nothing : Belief
  stands : Known → Belief
  lost : Known → List Request → Belief

unfoldable pub is_format : Call → Bool
is_format format = true
is_format (read q) = false
is_format (write q) = false
is_format (release c) = false
is_format (queue l) = false
is_format start = false

-- what an accepted request makes of that. "The next call after a cut is a start, after a cut format a format": until then nothing is learnt
unfoldable pub hears : Params → Board → Call → Belief → Belief
hears p b' c nothing = cond (is_format c) (stands (known (blank p) (λ d. false))) nothing
hears p b' c (stands k) = stands (learns p b' c k)
hears p b' c (lost k short) = cond (resets c) (stands (learns p b' c k)) (lost k short)

-- and the parts of a call, each if it is accepted
unfoldable pub hears_all : Params → Board → List Part → Belief → Belief
hears_all p b' [] x = x
hears_all p b' (y ∷ ys) x = hears_all p b' ys (cond (is_accepted y.answer.reply) (hears p b' y.asks x) x)

-- what a cut makes of it, where these writes are cut short; what is lost stays so, and a write cut short before it too
unfoldable pub losing : List Request → Belief → Belief
losing short nothing = nothing
losing short (stands k) = lost k short
losing short (lost k short') = lost k short'

-- by the request that is cut: none but a format, a write or a start is. "its answers then count for nothing"
unfoldable pub doubts : Call → Belief → Belief
doubts format x = nothing
doubts (read q) x = x
doubts (write q) x = losing (q ∷ []) x
doubts (release c) x = x
doubts (queue l) x = x
doubts start x = losing [] x

-- by the part that is cut, if one is: an item that is refused, or none, is no write cut short
unfoldable pub doubts_in : List Part → Belief → Belief
doubts_in [] x = losing [] x
doubts_in (y ∷ ys) x = cond (is_accepted y.answer.reply) (doubts y.asks x) (losing [] x)

-- a call: what it finished counts, and then its cut, if it is cut
unfoldable pub belief_by : Params → Board → Step → Belief → Belief
belief_by p b (plain c) x = hears_all p (leaves p b (plain c)) (parts_by p b (plain c)) x
belief_by p b (limited k c) x =
    let y = hears_all p (leaves p b (limited k c)) (parts_by p b (limited k c)) x in
    cond (is_cut p b (limited k c)) (doubts_in (cut_part k (work_of p b c).parts) y) y

unfoldable pub belief_after : Params → Board → List Step → Belief → Belief
belief_after p b [] x = x
belief_after p b (s ∷ ss) x = belief_after p (leaves p b s) ss (belief_by p b s x)
