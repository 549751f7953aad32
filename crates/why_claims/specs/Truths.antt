-- Document 02, T-05: "Each answer is proved true, and the forecast to be what a write then does". What is true of the thirteen numbers that `why` tells: reply,
-- rule, held, region, segment, virtual block, physical block and frame; then the forecast's kind, its virtual block, its frame, and how many it copies; then
-- T-08's count, the spare areas that a read or a write of the cluster looks at.
-- Assumes nothing.
use Rattle.std.specs.Prelude.{◌≡◌, ◌⊎◌, cond, false, true, List, ◌*◌, ◌+◌, ◌-◌, ◌<◌, ℕ, eqb, get_or, length, replicate, take}
use Rattle.rules.specs.declared.Params.{Params}
use Rattle.rules.specs.declared.Reply.TheVariants.{Accepted, NoBlockLeft, NoStampLeft}
use Rattle.rules.specs.Calls.{Outcome, outcome_of}
use Rattle.rules.specs.Numbers.{cluster_of, region_of, sector_of, vblock_of}
use Rattle.rules.specs.Orderly.{rules_of}
use Rattle.rules.specs.Pages.{block, erased, frame, held, page}
use Rattle.rules.specs.Parameters.{frames}
use Rattle.rules.specs.Regions.{sector, valid, valid_frames, view}
use Rattle.rules.specs.Replies.{number_of, reply_of, why_reply}
use Rattle.rules.specs.Requests.{Request, read, request_cluster, write}
use Rattle.rules.specs.Tables.{Board, bst_at, bt_at, ct_at, fst_at, none}
use Rattle.rules.specs.Traces.{worn}
use Rattle.rules.specs.Format.{bad}
use Rattle.check_broken.specs.Broken.{FirstFails, test_of}
use Rattle.call_why.specs.Why.{why_of}

-- number i of the answer
unfoldable pub told_at : Params → Board → ℕ → ℕ → ℕ
told_at p b lba i = get_or (why_of p b lba) i 0

-- "the region, segment, virtual block, physical block and frame that hold it", n 3 to n 7: the frame holds the cluster and is valid, and the sector reads as
-- the bytes that lie there
pub record HeldTrue (p : Params) (b : Board) (lba : ℕ) (n : ℕ → ℕ) : Type 0 where
  pub region : n 3 ≡ region_of p (cluster_of p lba)
  pub segment : n 4 ≡ ct_at b.ct (cluster_of p lba)
  pub vblock : n 5 ≡ vblock_of p (n 4)
  pub pblock : n 6 ≡ bt_at p b.bt (n 3) (n 5)
  pub block_low : n 6 < p.N
  pub frame_low : n 7 < frames p
  pub holds : held p (frame p (block p b.chip (n 6)) (n 7)) ≡ cluster_of p lba
  pub is_valid : valid p (view p b (n 3)) (n 5) (n 7) ≡ true
  pub reads : sector p b (cluster_of p lba) (sector_of p lba) ≡ take p.s (page p (frame p (block p b.chip (n 6)) (n 7)) (sector_of p lba))

-- "that no frame is held": no valid frame of the region holds the cluster, and the sector reads as 255
pub record NotHeldTrue (p : Params) (b : Board) (c j : ℕ) : Type 0 where
  pub no_frame : (v f : ℕ) → v < p.gamma → f < frames p → valid p (view p b (region_of p c)) v f ≡ true → held p (frame p ((view p b (region_of p c)).body v) f) ≡ c → ⊥
  pub reads : sector p b c j ≡ replicate p.s 255

-- block n is erased on board b; or, T-12, its erase has worn it out, and it is reserved and bad
abbrev pub Emptied : Params → List ℕ → ℕ → Board → Type 0
Emptied p wear n b =
    ((worn p wear n ≡ false) × (erased (block p b.chip n) ≡ true)) ⊎ ((worn p wear n ≡ true) × (bst_at b.bst n ≡ 2) × (bad p b.chip n ≡ true))

-- "whether the frame lies in the open block, opens a named virtual block, or reclaims a named one with how many valid frames", n 8 to n 11, and "what a write
-- then does": o is what a write of the cluster leaves
pub record ForecastTrue (p : Params) (b : Board) (lba : ℕ) (n : ℕ → ℕ) (o : Outcome) : Type 0 where
  -- the place that `why` tells of the board that is left is the one that was forecast
  pub reply : told_at p o.board lba 0 ≡ 0
  pub held : told_at p o.board lba 2 ≡ 1
  pub vblock : told_at p o.board lba 5 ≡ n 9
  pub frame : told_at p o.board lba 7 ≡ n 10
  -- it continues, opens or reclaims
  pub kind : (n 8 ≡ 1) ⊎ ((n 8 ≡ 2) ⊎ (n 8 ≡ 3))
  -- 1: the virtual block is the one that FST names, the open block
  pub continued : n 8 ≡ 1 → n 9 ≡ vblock_of p (fst_at b.fst (region_of p (cluster_of p lba)))
  -- 2: it had no physical block
  pub opened : n 8 ≡ 2 → bt_at p b.bt (region_of p (cluster_of p lba)) (n 9) ≡ none
  -- 3: the physical block that it had, one of the chip, is erased then; the frames that are copied are its valid ones
  pub reclaimed : n 8 ≡ 3
      → (bt_at p b.bt (region_of p (cluster_of p lba)) (n 9) < p.N) × Emptied p b.wear (bt_at p b.bt (region_of p (cluster_of p lba)) (n 9)) o.board
  pub copied : n 8 ≡ 3 → n 11 ≡ length (valid_frames p (view p b (region_of p (cluster_of p lba))) (n 9))
  -- "α × (frames copied + 1) pages programmed, and 1 erase if it reclaimed, else 0"
  pub programs : o.answer.programs ≡ p.alpha * (n 11 + 1)
  pub erases : o.answer.erases ≡ cond (eqb (n 8) 3) 1 0
  -- T-08: the spare areas that it looks at
  pub looks : o.answer.looks ≡ n 12

-- one answer, n its numbers
pub record AnswerTrue (p : Params) (b : Board) (lba : ℕ) (n : ℕ → ℕ) : Type 0 where
  -- "which reply": that of the first row that applies
  pub reply : n 0 ≡ number_of (why_reply p b lba)
  -- "and with 7 the first orderly rule broken, in 01's order"
  pub rule : n 0 ≡ 7 → FirstFails (test_of (n 1)) (rules_of p b)
  -- a frame is held, or none
  pub kind : n 0 ≡ 0 → (n 2 ≡ 0) ⊎ (n 2 ≡ 1)
  -- "the region, segment, virtual block, physical block and frame that hold it"
  pub held : n 0 ≡ 0 → n 2 ≡ 1 → HeldTrue p b lba n
  -- "or that no frame is held"
  pub not_held : n 0 ≡ 0 → n 2 ≡ 0 → NotHeldTrue p b (cluster_of p lba) (sector_of p lba)
  -- "what a write would do": any write of the cluster that is accepted
  pub forecast : n 0 ≡ 0 → (q : Request) → request_cluster p q ≡ cluster_of p lba → reply_of p b (write q) ≡ Accepted → ForecastTrue p b lba n (outcome_of p b (write q))
  -- T-12: "T-05's forecast gives 9 and 10 too": any write of it that is refused so
  pub refused : n 0 ≡ 0 → (q : Request) → request_cluster p q ≡ cluster_of p lba → reply_of p b (write q) ≡ NoStampLeft → n 8 ≡ 9
  pub blockless : n 0 ≡ 0 → (q : Request) → request_cluster p q ≡ cluster_of p lba → reply_of p b (write q) ≡ NoBlockLeft → n 8 ≡ 10
  -- T-08: and any read of it
  pub looks : n 0 ≡ 0 → (q : Request) → request_cluster p q ≡ cluster_of p lba → reply_of p b (read q) ≡ Accepted → (outcome_of p b (read q)).answer.looks ≡ n 12

-- of the numbers that `why` tells
abbrev pub WhyTrue : Params → Board → ℕ → Type 0
WhyTrue p b lba = AnswerTrue p b lba (told_at p b lba)
