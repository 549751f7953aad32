-- The tender's conditions 1 to 3 as statements, with what document 02's landed requests make of them: for all parameters and boards, over every call,
-- with a budget or without, and over every run of calls. proofs/ has the theorems.
-- Assumes nothing.
use Rattle.std.specs.Prelude.{ℕ, ◌+◌, ◌*◌, ◌≤◌, ◌<◌, ◌≡◌, ◌↔◌, ◌⊎◌, Bool, true, false, not, ◌&&◌, ◌||◌, cond, List, [], ◌∷◌, ◌++◌, length, drop, replicate, take, eqb}
use Rattle.lists.specs.Below.{count_below, join_below}
use Rattle.rules.specs.declared.Params.{Params}
use Rattle.rules.specs.declared.Answer.{Answer}
use Rattle.rules.specs.declared.Reply.TheVariants.{Accepted, NoBlockLeft, TooFewBlocks}
use Rattle.rules.specs.Parameters.{frames, pages}
use Rattle.rules.specs.Numbers.{cluster_of, region_of, sector_of}
use Rattle.rules.specs.Pages.{block, held}
use Rattle.rules.specs.Tables.{Board, none, ct_at, bt_entry, bst_at, mark_index, marks_length, wear_at, word_at, stamp_at}
use Rattle.rules.specs.Regions.{looks_at, view}
use Rattle.rules.specs.Orderly.{enough, orderly}
use Rattle.rules.specs.Traces.{replay_chip, replay_wear, clean}
use Rattle.rules.specs.Requests.{Request, request_cluster, request_region, Queue, Call, format, read, write, release, queue, start, lent, lent_answers}
use Rattle.rules.specs.Format.{bad}
use Rattle.rules.specs.Start.{left_over, start_ops}
use Rattle.rules.specs.Write.{Plan, reclaims, plan_of, takes_block, plan_erases, plan_frame, plan_block, copies}
use Rattle.rules.specs.Replies.{OrderlyBoard, Row, reply_of, rows_of, too_few_blocks}
use Rattle.rules.specs.Calls.{Outcome, Part, answers_in, ops_of, outcome_of, over, work_of}
use Rattle.rules.specs.Cuts.{Step, plain, limited, cut_part, finished, has_budget, is_cut, step_outcome}
use Rattle.starts.specs.Again.{SameBut}
use Rattle.starts.specs.Latest.{latest}
use Rattle.claims.specs.Runs.{AllFit, Belief, Known, Memory, belief_after, board_after, cleared, given, leaves, lost, NoPageTwice, nothing, parts_of, requests_to, roomy, sector_at, stands, told_to, trace_of, uncut, undisturbed}

-- ---- condition 1: every call, on every content

-- no row of a list applies
unfoldable pub none_applies : {A : Type 0} → List (Row A) → Bool
none_applies [] = true
none_applies (x ∷ xs) = not x.applies && none_applies xs

-- "given exactly when": a row's reply exactly when the row applies and no earlier one does, and the other exactly when none applies
pub record ByTable {A : Type 0} (other : A) (rows : List (Row A)) (reply : A) : Type 0 where
  pub listed : (earlier later : List (Row A)) (x : Row A) → rows ≡ earlier ++ (x ∷ later)
      → (reply ≡ x.gives) ↔ ((none_applies earlier ≡ true) × (x.applies ≡ true))
  pub otherwise : (reply ≡ other) ↔ (none_applies rows ≡ true)

-- every count is 0
abbrev pub Idle : Answer → Type 0
Idle a = (a.programs ≡ 0) × (a.erases ≡ 0) × (a.looks ≡ 0)

-- "a refusal changes nothing": no byte of the board, of the lent data or of the answer list, and every count is 0
pub record Unchanged (b : Board) (c : Call) (o : Outcome) : Type 0 where
  pub board : o.board ≡ b
  pub bytes : o.bytes ≡ lent c
  pub answers : o.answers ≡ lent_answers c
  pub counts : Idle o.answer

-- how many blocks have this entry in BST, and how many virtual blocks have a physical one
unfoldable pub blocks_of : Params → Board → ℕ → ℕ
blocks_of p b kind = count_below p.N (λ n. eqb (bst_at b.bst n) kind)

unfoldable pub assigned_blocks : Params → Board → ℕ
assigned_blocks p b = count_below (p.mu * p.gamma) (λ i. not (eqb (bt_entry b.bt i) none))

-- an orderly state, of the right lengths. "The blocks free, used and reserved are always N together, and the used ones are as many as the assigned
-- virtual blocks"
pub record InOrder (p : Params) (b : Board) : Type 0 where
  pub state : OrderlyBoard p b
  pub all : blocks_of p b 0 + blocks_of p b 1 + blocks_of p b 2 ≡ p.N
  pub used : blocks_of p b 1 ≡ assigned_blocks p b

-- "a format reports 0 programs and one erase for each block not bad"; T-08: 0 spare areas "from other calls"; T-07: each last stamp is "0 at format". T-12: it leaves at least μγ+1 blocks that
-- are not reserved
pub record Formats (p : Params) (b : Board) (o : Outcome) : Type 0 where
  pub programs : o.answer.programs ≡ 0
  pub erases : o.answer.erases ≡ count_below p.N (λ n. not (bad p b.chip n))
  pub looks : o.answer.looks ≡ 0
  pub stamps : (r : ℕ) → r < p.mu → stamp_at o.board.stamps r ≡ 0
  pub room : enough p o.board ≡ true

-- "A read reports 0 and 0 and writes only its data buffer": each sector as its LBA reads. T-08: it reports the search for its cluster's valid frame
pub record Reads (p : Params) (b : Board) (q : Request) (o : Outcome) : Type 0 where
  pub board : o.board ≡ b
  pub bytes : o.bytes ≡ join_below q.count (λ i. sector_at p b (q.lba + i))
  pub programs : o.answer.programs ≡ 0
  pub erases : o.answer.erases ≡ 0
  pub looks : o.answer.looks ≡ looks_at p b (request_cluster p q)

-- a write of this request by its plan for region r: a block that it takes is there and free, and the frame that it writes is one of the block's, also after the copies of a
-- reclaim; it does store: each LBA of the request then reads as given, and every other of the board as before; "A write reports α × (frames copied + 1) pages programmed,
-- and 1 erase if it reclaimed, else 0. So it programs at most P pages". T-08: it reports the search for its own cluster, "in the state at entry". T-07: it "takes the next"
-- stamp of its region, and none of another
pub record Writes (p : Params) (b : Board) (q : Request) (r : ℕ) (pl : Plan) (o : Outcome) : Type 0 where
  pub block : takes_block pl ≡ true → (plan_block p b r pl < p.N) × (bst_at b.bst (plan_block p b r pl) ≡ 0)
  pub frame : plan_frame p (view p b r) pl < frames p
  pub stores : (a : ℕ) → a < p.C * p.alpha → sector_at p o.board a ≡ given p q (sector_at p b) a
  pub programs : o.answer.programs ≡ p.alpha * (length (copies p (view p b r) pl) + 1)
  pub most : o.answer.programs ≤ pages p
  pub erases : o.answer.erases ≡ plan_erases pl
  pub looks : o.answer.looks ≡ looks_at p b (request_cluster p q)
  pub stamps : (s : ℕ) → s < p.mu → stamp_at o.board.stamps s ≡ cond (eqb s r) (stamp_at b.stamps s + 1) (stamp_at b.stamps s)

-- none of these frames holds cluster c
unfoldable pub none_holds : Params → ℕ → List (List ℕ) → Bool
none_holds p c [] = true
none_holds p c (x ∷ xs) = not (eqb (held p x) c) && none_holds p c xs

-- T-03: "its CT entry becomes none, its sectors read as 255", and every other as before; "the room comes back at reclaim": whichever virtual block is
-- reclaimed next, no frame of the cluster is copied. "Where it is none already, nothing changes". "It reports 0 and 0". It takes no stamp
pub record Frees (p : Params) (b : Board) (c : ℕ) (o : Outcome) : Type 0 where
  pub reads : (a : ℕ) → sector_at p o.board a ≡ cleared p c (sector_at p b) a
  pub room : (v : ℕ) → v < p.gamma → none_holds p c (copies p (view p o.board (region_of p c)) (reclaims v)) ≡ true
  pub entry : ct_at o.board.ct c ≡ none
  pub already : ct_at b.ct c ≡ none → o.board ≡ b
  pub stamps : o.board.stamps ≡ b.stamps
  pub counts : Idle o.answer

-- T-01: the call's own counts are 0, refused or not; its data is as lent, the list keeps its length, and "Answers past the last item stay as lent"
pub record Serves (l : Queue) (o : Outcome) : Type 0 where
  pub counts : Idle o.answer
  pub bytes : o.bytes ≡ l.bytes
  pub long : length o.answers ≡ length l.answers
  pub past : drop (length l.items) o.answers ≡ drop (length l.items) l.answers

-- T-07, an accepted start, on any chip: it programs nothing and "reports its erases", one for each block that is left over; every other block keeps its bytes. Made again it
-- changes nothing. "any wear serves": of what is lent the chip alone decides what it leaves, but for the wear, which counts on, and with T-12 for whether a block that is left over is worn out
pub record Starts (p : Params) (b : Board) (o : Outcome) : Type 0 where
  pub programs : o.answer.programs ≡ 0
  pub erases : o.answer.erases ≡ count_below p.N (left_over p b.chip)
  pub looks : o.answer.looks ≡ 0
  pub others : (n : ℕ) → left_over p b.chip n ≡ false → block p o.board.chip n ≡ block p b.chip n
  pub again : outcome_of p o.board start ≡ record { answer = record { reply = Accepted; programs = 0; erases = 0; looks = 0 }; bytes = []; answers = []; board = o.board }
  pub wear : (b'' : Board) → b''.chip ≡ b.chip → reply_of p b'' start ≡ Accepted → SameBut p (left_over p b.chip) o.board (outcome_of p b'' start).board

-- T-07, which parts of a call are finished once k operations are made: the first ones, which make fewer than k, and with the one that is cut, if one is, there are k
pub record Finishes (k : ℕ) (parts : List Part) : Type 0 where
  pub first : (rest : List Part) × (parts ≡ finished k parts ++ (cut_part k parts ++ rest))
  pub fewer : 0 < k → length (ops_of (finished k parts)) < k
  pub enough : k ≤ length (ops_of (finished k parts ++ cut_part k parts))

-- T-07, a call of these parts that is cut by a budget of k: "with the chip as it then stands, wear as counted so far and the other tables all ones; its answers then
-- count for nothing": reply 0 and counts 0. Of a queue's answers those of the finished items stand, and every other is as lent
pub record Cuts (p : Params) (b : Board) (c : Call) (k : ℕ) (parts : List Part) (o : Outcome) : Type 0 where
  pub reply : o.answer.reply ≡ Accepted
  pub counts : Idle o.answer
  pub bytes : o.bytes ≡ lent c
  pub answers : o.answers ≡ over (answers_in (finished k parts)) (lent_answers c)
  pub finishes : Finishes k parts
  pub chip : o.board.chip ≡ replay_chip p b.chip (take k (ops_of parts))
  pub wear : o.board.wear ≡ replay_wear b.wear (take k (ops_of parts))
  pub ct : o.board.ct ≡ replicate p.C 65535
  pub bt : o.board.bt ≡ replicate (p.mu * p.gamma) 65535
  pub fst : o.board.fst ≡ replicate p.mu 65535
  pub bst : o.board.bst ≡ replicate p.N 255
  pub marks : o.board.marks ≡ replicate (marks_length p) 18446744073709551615
  pub stamps : o.board.stamps ≡ replicate p.mu 4294967295

-- T-07, a call of these parts whose outcome is o, and o' with a budget of k. Refused it changes nothing. "format, write, queue and start also come with a budget", a read and a
-- release do not. "A plain call equals one whose budget is never spent". "Once past its refusals such a call stops when that many are made", at its very last one too
pub record WithBudget (p : Params) (b : Board) (c : Call) (k : ℕ) (parts : List Part) (o o' : Outcome) : Type 0 where
  pub refused : (o.answer.reply ≡ Accepted → ⊥) → Unchanged b c o'
  pub without : has_budget c ≡ false → o' ≡ o
  pub unspent : length (ops_of parts) < k → o' ≡ o
  pub spent : has_budget c ≡ true → o.answer.reply ≡ Accepted → k ≤ length (ops_of parts) → Cuts p b c k parts o'

-- a call on any content: its reply is the table's; refused it changes nothing; "Every accepted call on an orderly state leaves one", and so does every accepted
-- call but a queue, whose items are refused one by one, on any; what each call does; and what becomes of it with a budget. "A write that passes these checks is never refused for want of
-- room", with T-12 "while at least μγ+1 blocks are not reserved"
pub record OfCall (p : Params) (b : Board) (c : Call) (o : Outcome) : Type 0 where
  pub reply : ByTable Accepted (rows_of p b c) o.answer.reply
  pub refused : (o.answer.reply ≡ Accepted → ⊥) → Unchanged b c o
  pub kept : OrderlyBoard p b → InOrder p o.board
  pub order : o.answer.reply ≡ Accepted → ((l : Queue) → c ≡ queue l → ⊥) → InOrder p o.board
  pub formats : c ≡ format → o.answer.reply ≡ Accepted → Formats p b o
  pub reads : (q : Request) → c ≡ read q → o.answer.reply ≡ Accepted → Reads p b q o
  pub writes : (q : Request) → c ≡ write q → o.answer.reply ≡ Accepted → Writes p b q (request_region p q) (plan_of p (view p b (request_region p q))) o
  pub never_full : (q : Request) → c ≡ write q → enough p b ≡ true → o.answer.reply ≡ NoBlockLeft → ⊥
  pub frees : (n : ℕ) → c ≡ release n → o.answer.reply ≡ Accepted → Frees p b n o
  pub serves : (l : Queue) → c ≡ queue l → Serves l o
  pub starts : c ≡ start → o.answer.reply ≡ Accepted → Starts p b o
  pub budget : (k : ℕ) → WithBudget p b c k (work_of p b c).parts o (step_outcome p b (limited k c))

abbrev pub Condition1 : Type 0
Condition1 = (p : Params) (b : Board) (c : Call) → OfCall p b c (outcome_of p b c)

-- ---- condition 2: every run "from an accepted format on", over any content, through any cuts

-- what an LBA was last: "A released cluster with whole frames left comes back with the latest, which is also its old content"
unfoldable pub old : Params → Board → Known → Memory
old p b k a = cond (k.released (cluster_of p a)) (latest p b.chip (cluster_of p a) (sector_of p a)) (k.memory a)

-- T-07, a start on a board whose tables stand: it is accepted and erases nothing, no chip byte changes, and "Every accepted write then reads back"
pub record Restarts (p : Params) (b : Board) (k : Known) (o : Outcome) : Type 0 where
  pub accepted : o.answer.reply ≡ Accepted
  pub counts : Idle o.answer
  pub chip : o.board.chip ≡ b.chip
  pub reads : (a : ℕ) → a < p.C * p.alpha → sector_at p o.board a ≡ old p b k a

-- where the tables stand: the state is orderly, so that by the table a call is refused for its request alone; "an accepted read returns for each sector the bytes last accepted
-- for it since the last accepted format, and all ones if there are none", with T-03 "since the format or the last release", and with T-07 what a start found; and a start may
-- come at any time
pub record Intact (p : Params) (b : Board) (k : Known) : Type 0 where
  pub order : InOrder p b
  pub reads : (q : Request) → reply_of p b (read q) ≡ Accepted → (outcome_of p b (read q)).bytes ≡ join_below q.count (λ i. k.memory (q.lba + i))
  pub starts : Restarts p b k (outcome_of p b start)

-- cluster c is that of one of these writes; every LBA of the board's in cluster c reads as in m
unfoldable pub among : Params → List Request → ℕ → Bool
among p [] c = false
among p (q ∷ qs) c = eqb (request_cluster p q) c || among p qs c

abbrev pub ReadsAs : Params → Board → ℕ → Memory → Type 0
ReadsAs p b c m = (a : ℕ) → a < p.C * p.alpha → cluster_of p a ≡ c → sector_at p b a ≡ m a

-- T-07, a board b whose tables a cut took: it is not orderly, so that by the table every read, write and release is refused. A start is accepted, erases one block at most
-- and leaves order. "Every accepted write then reads back, as does each item that a cut queue had finished unrefused; the write cut short reads wholly old or wholly new":
-- new is what it gave, over what the host last knew of its cluster, which is all ones if that was released. A start that is cut, and made again, leaves the same, unless it
-- is cut between the erase of a block that it wears out and its mark: that block is then free
pub record Recovered (p : Params) (b : Board) (k : Known) (short : List Request) (o : Outcome) : Type 0 where
  pub gone : orderly p b ≡ false
  pub accepted : o.answer.reply ≡ Accepted
  pub once : o.answer.erases ≤ 1
  pub order : InOrder p o.board
  pub kept : (c : ℕ) → among p short c ≡ false → ReadsAs p o.board c (old p b k)
  pub whole : (q : Request) → short ≡ q ∷ [] → ReadsAs p o.board (request_cluster p q) (old p b k) ⊎ ReadsAs p o.board (request_cluster p q) (given p q k.memory)
  pub again : (n : ℕ) → is_cut p b (limited n start) ≡ true → ((n ≡ 1) × (length (start_ops p b.chip b.wear) ≡ 2) → ⊥)
      → (outcome_of p (leaves p b (limited n start)) start).board ≡ o.board

-- what holds, by what the host knows; after a cut format nothing is promised until a format is accepted
abbrev pub Holds : Params → Board → Belief → Type 0
Holds p b nothing = Unit {0}
Holds p b (stands k) = Intact p b k
Holds p b (lost k short) = Recovered p b k short (outcome_of p b start)

-- a run from board b on, which leaves board b', whatever the host believed before it
pub record OfRun (p : Params) (b : Board) (run : List Step) (b' : Board) : Type 0 where
  pub now : (x : Belief) → Holds p b' (belief_after p b run x)
  -- without a cut the tables stand
  pub intact : uncut p b run ≡ true → (x : Belief) → (k : Known) × (belief_after p b run x ≡ stands k)
  -- the chip and the wear are what the run's operations make of them
  pub chip : b'.chip ≡ replay_chip p b.chip (trace_of p b run)
  pub wear : b'.wear ≡ replay_wear b.wear (trace_of p b run)
  -- each operation is of a page or of a block of the chip, and each programmed page has its spare bytes
  pub fits : AllFit p (trace_of p b run)
  -- "Each page that the steps program is 255 throughout just before"; "No page is programmed twice between erases"
  pub erased : clean p b.chip (trace_of p b run) ≡ true
  pub once : NoPageTwice (trace_of p b run)
  -- a format may come again: it is refused for want of good blocks alone
  pub again : reply_of p b' format ≡ cond (too_few_blocks p b') TooFewBlocks Accepted
  -- the blocks that the first one found bad still are, and no other is but by wear
  pub still_bad : (n : ℕ) → n < p.N → bad p b.chip n ≡ true → bad p b'.chip n ≡ true
  pub new_bad : (n : ℕ) → n < p.N → bad p b'.chip n ≡ true → (bad p b.chip n ≡ true) ⊎ (p.E ≤ wear_at b'.wear n)

abbrev pub Condition2 : Type 0
Condition2 = (p : Params) (b : Board) → reply_of p b format ≡ Accepted → (ss : List Step) → OfRun p b (plain format ∷ ss) (board_after p b (plain format ∷ ss))

-- what a start finds after a cut, as condition 2 has it
abbrev pub ReadBackAfterCut : Type 0
ReadBackAfterCut =
    (p : Params) (b : Board) → reply_of p b format ≡ Accepted → (ss : List Step) (x : Belief) (k : Known) (short : List Request)
    → belief_after p b (plain format ∷ ss) x ≡ lost k short
    → Recovered p (board_after p b (plain format ∷ ss)) k short (outcome_of p (board_after p b (plain format ∷ ss)) start)

-- ---- condition 3: two runs

-- two runs, from b on and from b' on, give region r the same answers, counts and data, and leave it the same CT and FST entries, page contents,
-- words of marks and last stamp
pub record SameRegion (p : Params) (r : ℕ) (b b' : Board) (run run' : List Step) : Type 0 where
  pub answers : told_to p r (parts_of p b run) ≡ told_to p r (parts_of p b' run')
  pub views : view p (board_after p b run) r ≡ view p (board_after p b' run') r
  pub words : (v w : ℕ) → v < p.gamma → w < 4
      → word_at (board_after p b run).marks (mark_index p r v w) ≡ word_at (board_after p b' run').marks (mark_index p r v w)
  pub stamp : stamp_at (board_after p b run).stamps r ≡ stamp_at (board_after p b' run').stamps r

-- "each formatted with reply 0, not formatted again"; T-07: it "ends at a board's first cut or start and holds again from the next format"; T-12: it holds "while at least μγ+1 blocks
-- are not reserved"
pub record Undisturbed (p : Params) (b : Board) (ss : List Step) : Type 0 where
  pub formats : reply_of p b format ≡ Accepted
  pub calls : undisturbed p (leaves p b (plain format)) ss ≡ true
  pub room : roomy p (leaves p b (plain format)) ss ≡ true

-- for "two boards": "If the requests to one region are the same and in the same order", up to what the bytes lent to a read hold; T-01: "over the items of calls that answer
-- 0; an item is its LBA, its count and its bytes, or that they do not lie there"
abbrev pub Condition3 : Type 0
Condition3 =
    (p : Params) (b b' : Board) (ss ss' : List Step) → Undisturbed p b ss → Undisturbed p b' ss' → (r : ℕ) → r < p.mu
    → requests_to p r (parts_of p (leaves p b (plain format)) ss) ≡ requests_to p r (parts_of p (leaves p b' (plain format)) ss')
    → SameRegion p r b b' (plain format ∷ ss) (plain format ∷ ss')

-- ---- one outcome

-- "any two outcomes allowed by its claim are equal": every call's claim is that its outcome is `step_outcome`, with a budget or without
abbrev pub Once : Type 0
Once = (p : Params) (b : Board) (s : Step) (o o' : Outcome) → o ≡ step_outcome p b s → o' ≡ step_outcome p b s → o ≡ o'
