-- Words of documents 01 and 02 that elsewhere a definition alone says, once more in terms of their own: plain numbers, bytes and inequalities. No call is
-- defined by what stands here: proofs/Words.antt, proofs/OrderlyWords.antt, proofs/MarkedBlocks.antt, proofs/BegunWords.antt and proofs/LooksWords.antt show
-- that the definitions say the same, no less and no more.
-- The last part is a law of a reclaim's operations, which proofs/CopiesStand.antt shows.
-- Assumes nothing.
use Rattle.std.specs.Prelude.{ℕ, ◌+◌, ◌-◌, ◌*◌, ◌/◌, ◌%◌, ◌≤◌, ◌<◌, min, ◌≡◌, ◌⊎◌, ◌↔◌, true, false, cond, List, [], ◌∷◌, length, get_or, drop, set, take, eqb}
use Rattle.rules.specs.declared.Params.{Params}
use Rattle.rules.specs.declared.Reply.TheVariants.{Accepted}
use Rattle.rules.specs.Parameters.{allowed, chip_bytes}
use Rattle.rules.specs.Tables.{Board, bt_at, bt_entry, bst_at, ct_at, stamp_at, wear_at}
use Rattle.rules.specs.Pages.{block, erased, frame, held, last_in, le32, page, programmed, spare_bytes}
use Rattle.rules.specs.Regions.{View, assigned, looks_at, valid, valid_frames, view}
use Rattle.rules.specs.Marks.{marks_of}
use Rattle.rules.specs.Orderly.{enough, orderly}
use Rattle.rules.specs.Traces.{Op, erase, erase_ops, erases_in, mark, on_chip, program, programs_in, replay_chip, replay_wear, worn}
use Rattle.rules.specs.Format.{bad, formatted}
use Rattle.rules.specs.Write.{Plan, continues, opens, reclaims, free_block, plan_of, write_ops}
use Rattle.rules.specs.Requests.{Request, write, request_region}
use Rattle.rules.specs.Replies.{OrderlyBoard, lengths_fit, reply_of, too_few_blocks}

-- ---- "Parameters"

-- the column "allowed"; T-12: "Add a ninth parameter E, 1 to 1,000,000"; "P = αF pages, with P at most 256"; "C/μ rounded up is at most γF − 1": μ regions of so many clusters are enough
pub record Allowed (p : Params) : Type 0 where
  pub sectors : (16 ≤ p.s) × (p.s ≤ 512)
  pub clusters : (1 ≤ p.alpha) × (p.alpha ≤ 16)
  pub segments : (1 ≤ p.beta) × (p.beta ≤ 16)
  pub blocks : (1 ≤ p.d) × (p.d ≤ 16)
  pub regions : (1 ≤ p.mu) × (p.mu ≤ 1024)
  pub virtual : (1 ≤ p.gamma) × (p.gamma ≤ 16)
  pub held : (1 ≤ p.C) × (p.C ≤ 1048576)
  pub physical : (1 ≤ p.N) × (p.N ≤ 65535)
  pub erases : (1 ≤ p.E) × (p.E ≤ 1000000)
  pub pages : p.alpha * (p.beta * p.d) ≤ 256
  pub spread : p.C ≤ p.mu * (p.gamma * (p.beta * p.d) - 1)

abbrev pub AllowedExactly : Type 0
AllowedExactly = (p : Params) → (allowed p ≡ true) ↔ Allowed p

-- ---- "Numbers and tables"

-- "Spare bytes of a programmed page: 0 to 3 cluster number, low byte first; 4 the sector's place in its cluster; 5 always 255; 6 zero"; T-07: "7 to 10 take a
-- stamp, .. low byte first, and byte 11 the virtual block"; "12 to 15" still "all 255"
pub record SpareListed (c j t v : ℕ) (l : List ℕ) : Type 0 where
  pub long : length l ≡ 16
  pub bytes : (i : ℕ) → i < 4 → get_or l i 255 < 256
  pub cluster : get_or l 0 255 + 256 * (get_or l 1 255 + 256 * (get_or l 2 255 + 256 * get_or l 3 255)) ≡ c
  pub place : get_or l 4 255 ≡ j
  pub five : get_or l 5 255 ≡ 255
  pub six : get_or l 6 255 ≡ 0
  pub stamp_bytes : (i : ℕ) → 7 ≤ i → i < 11 → get_or l i 255 < 256
  pub stamp : get_or l 7 255 + 256 * (get_or l 8 255 + 256 * (get_or l 9 255 + 256 * get_or l 10 255)) ≡ t
  pub vblock : get_or l 11 255 ≡ v
  pub rest : (i : ℕ) → 12 ≤ i → i < 16 → get_or l i 255 ≡ 255

abbrev pub SparesExactly : Type 0
SparesExactly = (c j t v : ℕ) → c < 4294967296 → t < 4294967296 → (l : List ℕ) → (l ≡ spare_bytes c j t v) ↔ SpareListed c j t v l

-- how often block n is erased
unfoldable pub erases_of : ℕ → List Op → ℕ
erases_of n [] = 0
erases_of n (program m q x ∷ os) = erases_of n os
erases_of n (erase m ∷ os) = cond (eqb m n) 1 0 + erases_of n os
erases_of n (mark m ∷ os) = erases_of n os

-- "Wear: a 32-bit erase count per block, which stays at 4,294,967,295 once there"
abbrev pub WearAfter : Type 0
WearAfter =
    (wear : List ℕ) (ops : List Op) (n : ℕ) → n < length wear → wear_at wear n ≤ 4294967295
    → wear_at (replay_wear wear ops) n ≡ min (wear_at wear n + erases_of n ops) 4294967295

-- T-12: "When an erase .. brings a block's wear to E or more", also where it was so before: by the wear that the erase leaves
abbrev pub WornExactly : Type 0
WornExactly = (p : Params) (wear : List ℕ) (n : ℕ) → allowed p ≡ true → n < length wear → (worn p wear n ≡ true) ↔ (p.E ≤ wear_at (replay_wear wear (erase_ops p wear n)) n)

-- ---- "When a state is orderly"

-- "with spare bytes as above and clusters below C of that region", in virtual block v, with one stamp for all pages
pub record FrameListed (p : Params) (r v : ℕ) (fr : List ℕ) : Type 0 where
  pub cluster : ℕ
  pub stamp : ℕ
  pub low : cluster < p.C
  pub mine : cluster % p.mu ≡ r
  pub m : ℕ
  pub some : 1 ≤ m
  pub most : m ≤ p.alpha
  pub spares : (j : ℕ) → j < m → SpareListed cluster j stamp v (drop p.s (page p fr j))
  pub blank : (j : ℕ) → m ≤ j → j < p.alpha → erased (page p fr j) ≡ true

-- "In a used block the first k frames are programmed, k from 1 to F .. The rest is erased"
pub record BlockListed (p : Params) (r v : ℕ) (blk : List ℕ) : Type 0 where
  pub k : ℕ
  pub some : 1 ≤ k
  pub most : k ≤ p.beta * p.d
  pub front : (f : ℕ) → f < k → FrameListed p r v (frame p blk f)
  pub rest : (f : ℕ) → k ≤ f → f < p.beta * p.d → erased (frame p blk f) ≡ true

-- frame f of virtual block v is programmed
abbrev pub Written : Params → View → ℕ → ℕ → Type 0
Written p vw v f = programmed p (frame p (vw.body v) f) ≡ true

-- FST "names the segment of the last programmed frame of one of the region's blocks, the open block, and every other block of the region is full"
pub record OpenListed (p : Params) (vw : View) : Type 0 where
  pub v : ℕ
  pub f : ℕ
  pub low : v < p.gamma
  pub has : assigned vw v ≡ true
  pub inside : f < p.beta * p.d
  pub written : Written p vw v f
  pub last : (g : ℕ) → f < g → g < p.beta * p.d → erased (frame p (vw.body v) g) ≡ true
  pub names : vw.last_seg ≡ v * p.d + f / p.beta
  pub full : (u : ℕ) → u < p.gamma → (u ≡ v → ⊥) → assigned vw u ≡ true → (g : ℕ) → g < p.beta * p.d → Written p vw u g

-- "names a segment, in its own region, that holds a programmed frame of that cluster", one whose last page is programmed too
pub record EntryListed (p : Params) (vw : View) (c : ℕ) : Type 0 where
  pub v : ℕ
  pub f : ℕ
  pub low : v < p.gamma
  pub has : assigned vw v ≡ true
  pub inside : f < p.beta * p.d
  pub written : Written p vw v f
  pub whole : get_or (drop p.s (page p (frame p (vw.body v) f) (p.alpha - 1))) 6 255 ≡ 0
  pub holds : held p (frame p (vw.body v) f) ≡ c
  pub names : vw.seg_of c ≡ v * p.d + f / p.beta

-- of one region: its used blocks; "FST is none exactly if the region has no block. Otherwise it names .."; "A CT entry is none or names .."
pub record RegionListed (p : Params) (r : ℕ) (vw : View) : Type 0 where
  pub blocks : (v : ℕ) → v < p.gamma → assigned vw v ≡ true → BlockListed p r v (vw.body v)
  pub fst : (((v : ℕ) → v < p.gamma → assigned vw v ≡ false) × (vw.last_seg ≡ 65535)) ⊎ OpenListed p vw
  pub ct : (c : ℕ) → c < p.C → c % p.mu ≡ r → (vw.seg_of c ≡ 65535) ⊎ EntryListed p vw c

-- the five bullets, in their order, without "At least μγ+1 blocks are not reserved", which T-12 takes out; T-06's "each mark equals the validity rule", and T-07's "no page
-- of an orderly region has a larger" stamp than the region's last: a frame's pages have the one that its first page has
pub record OrderlyListed (p : Params) (b : Board) : Type 0 where
  pub kinds : (n : ℕ) → n < p.N → (bst_at b.bst n ≡ 0) ⊎ ((bst_at b.bst n ≡ 1) ⊎ (bst_at b.bst n ≡ 2))
  pub names : (i : ℕ) → i < p.mu * p.gamma → (bt_entry b.bt i ≡ 65535) ⊎ (bt_entry b.bt i < p.N)
  pub once : (i j : ℕ) → i < p.mu * p.gamma → j < p.mu * p.gamma → (bt_entry b.bt i ≡ 65535 → ⊥) → bt_entry b.bt i ≡ bt_entry b.bt j → i ≡ j
  pub used : (n : ℕ) → n < p.N → (bst_at b.bst n ≡ 1) ↔ ((i : ℕ) × (i < p.mu * p.gamma) × (bt_entry b.bt i ≡ n))
  pub free : (n : ℕ) → n < p.N → bst_at b.bst n ≡ 0 → erased (block p b.chip n) ≡ true
  pub regions : (r : ℕ) → r < p.mu → RegionListed p r (view p b r)
  pub marks : b.marks ≡ marks_of p b
  pub stamps : (r v f : ℕ) → r < p.mu → v < p.gamma → f < p.beta * p.d → Written p (view p b r) v f
      → le32 (drop 7 (drop p.s (page p (frame p ((view p b r).body v) f) 0))) ≤ stamp_at b.stamps r

abbrev pub OrderlyExactly : Type 0
OrderlyExactly = (p : Params) (b : Board) → allowed p ≡ true → lengths_fit p b ≡ true → (orderly p b ≡ true) ↔ OrderlyListed p b

-- ---- "Format"

-- byte 5 of the spare area of page q, counted over the chip: a page is s data bytes and then 16 spare bytes
unfoldable pub fifth : Params → List ℕ → ℕ → ℕ
fifth p chip q = get_or chip (q * (p.s + 16) + p.s + 5) 0

-- T-02: "A block is bad if byte 5 of the spare area is not 255 in page 0, or in page 1 where P is at least 2", by where these bytes stand on the chip
abbrev pub BadListed : Params → List ℕ → ℕ → Type 0
BadListed p chip n =
    let P = p.alpha * (p.beta * p.d) in
    (fifth p chip (n * P) ≡ 255 → ⊥) ⊎ ((2 ≤ P) × (fifth p chip (n * P + 1) ≡ 255 → ⊥))

abbrev pub BadExactly : Type 0
BadExactly = (p : Params) (chip : List ℕ) (n : ℕ) → allowed p ≡ true → (bad p chip n ≡ true) ↔ BadListed p chip n

-- ---- T-12: format's 6, and marks

-- "Format's 6 counts blocks still good after its erases": it is given exactly where the board that the format would leave has fewer than μγ+1 blocks that are not reserved
abbrev pub SixExactly : Type 0
SixExactly = (p : Params) (b : Board) → (too_few_blocks p b ≡ true) ↔ (enough p (formatted p b) ≡ false)

-- "its first page gets a zero in spare byte 5", by where this byte stands on the chip: of a page that is erased no other byte changes
abbrev pub MarkExactly : Type 0
MarkExactly =
    (p : Params) (chip : List ℕ) (n : ℕ) → allowed p ≡ true → length chip ≡ chip_bytes p → n < p.N → erased (page p (block p chip n) 0) ≡ true
    → on_chip p chip (mark n) ≡ set chip (n * (p.alpha * (p.beta * p.d)) * (p.s + 16) + p.s + 5) 0

-- "These mark programs count in T-07's budget but are not reported": one operation more, and neither a program nor an erase more
abbrev pub MarksUnreported : Type 0
MarksUnreported =
    (n : ℕ) (os : List Op) → (length (mark n ∷ os) ≡ length os + 1) × (programs_in (mark n ∷ os) ≡ programs_in os) × (erases_in (mark n ∷ os) ≡ erases_in os)

-- ---- "Write", "Reclaim" and "Free block"

-- "the lowest erased frame of the open block"
pub record ContinuesListed (p : Params) (vw : View) (v f : ℕ) : Type 0 where
  pub some : vw.last_seg ≡ 65535 → ⊥
  pub block : v ≡ vw.last_seg / p.d
  pub inside : f < p.beta * p.d
  pub here : erased (frame p (vw.body v) f) ≡ true
  pub lower : (g : ℕ) → g < f → erased (frame p (vw.body v) g) ≡ false

-- "If there is no open block or it is full"
abbrev pub Full : Params → View → Type 0
Full p vw = (vw.last_seg ≡ 65535) ⊎ ((f : ℕ) → f < p.beta * p.d → erased (frame p (vw.body (vw.last_seg / p.d)) f) ≡ false)

-- "the lowest virtual block without a physical block"
pub record OpensListed (p : Params) (vw : View) (v : ℕ) : Type 0 where
  pub full : Full p vw
  pub low : v < p.gamma
  pub bare : assigned vw v ≡ false
  pub lower : (u : ℕ) → u < v → assigned vw u ≡ true

-- "If all are assigned"; "the virtual block with fewest valid frames, the lowest on a tie"
pub record ReclaimsListed (p : Params) (vw : View) (v : ℕ) : Type 0 where
  pub full : Full p vw
  pub low : v < p.gamma
  pub every : (u : ℕ) → u < p.gamma → assigned vw u ≡ true
  pub fewest : (u : ℕ) → u < p.gamma → length (valid_frames p vw v) ≤ length (valid_frames p vw u)
  pub lowest : (u : ℕ) → u < v → length (valid_frames p vw v) < length (valid_frames p vw u)

abbrev pub PlanListed : Params → View → Plan → Type 0
PlanListed p vw (continues v f) = ContinuesListed p vw v f
PlanListed p vw (opens v) = OpensListed p vw v
PlanListed p vw (reclaims v) = ReclaimsListed p vw v

abbrev pub PlanExactly : Type 0
PlanExactly = (p : Params) (b : Board) → OrderlyBoard p b → (r : ℕ) → r < p.mu → PlanListed p (view p b r) (plan_of p (view p b r))

-- "The one with the lowest wear, the lowest number on a tie"
pub record FreeListed (p : Params) (b : Board) (n : ℕ) : Type 0 where
  pub low : n < p.N
  pub free : bst_at b.bst n ≡ 0
  pub least : (m : ℕ) → m < p.N → bst_at b.bst m ≡ 0 → wear_at b.wear n ≤ wear_at b.wear m
  pub lowest : (m : ℕ) → m < n → bst_at b.bst m ≡ 0 → wear_at b.wear n < wear_at b.wear m

-- or 65,535, where none is free
abbrev pub FreeExactly : Type 0
FreeExactly =
    (p : Params) (b : Board) → OrderlyBoard p b
    → ((free_block p b.bst b.wear ≡ 65535) × ((m : ℕ) → m < p.N → bst_at b.bst m ≡ 0 → ⊥)) ⊎ FreeListed p b (free_block p b.bst b.wear)

-- ---- T-07: a frame with only its first pages programmed

-- the last page of frame f of virtual block v is not programmed
abbrev pub Unfinished : Params → View → ℕ → ℕ → Type 0
Unfinished p vw v f = get_or (drop p.s (page p (frame p (vw.body v) f) (p.alpha - 1))) 6 255 ≡ 0 → ⊥

-- it "is never valid and hides no earlier frame": no search for a cluster ends at it
abbrev pub UnfinishedNever : Type 0
UnfinishedNever =
    (p : Params) (vw : View) (v f : ℕ) → allowed p ≡ true → f < p.beta * p.d → Unfinished p vw v f
    → (valid p vw v f ≡ false) × ((k c : ℕ) → last_in p (vw.body v) k c ≡ f → ⊥)

-- ---- T-08, "Spare areas read"

-- the frames that are looked at for cluster c: `first` is "the last programmed frame of that segment", `last` the valid frame, where the search ends, and all
-- between are programmed too. So they are as many as from the one down to the other, at least 1 and at most β
pub record LooksListed (p : Params) (vw : View) (c looks : ℕ) : Type 0 where
  pub v : ℕ
  pub first : ℕ
  pub last : ℕ
  pub low : v < p.gamma
  pub inside : first < p.beta * p.d
  pub is_valid : valid p vw v last ≡ true
  pub holds : held p (frame p (vw.body v) last) ≡ c
  pub names : vw.seg_of c ≡ v * p.d + last / p.beta
  pub segment : first / p.beta ≡ last / p.beta
  pub written : (f : ℕ) → last ≤ f → f ≤ first → Written p vw v f
  pub after : (f : ℕ) → first < f → f < p.beta * p.d → f / p.beta ≡ last / p.beta → erased (frame p (vw.body v) f) ≡ true
  pub many : looks + last ≡ first + 1
  pub some : 1 ≤ looks
  pub most : looks ≤ p.beta

-- "0 where CT has none"
abbrev pub LooksExactly : Type 0
LooksExactly =
    (p : Params) (b : Board) → OrderlyBoard p b → (c : ℕ) → c < p.C
    → ((ct_at b.ct c ≡ 65535) × (looks_at p b c ≡ 0)) ⊎ ((ct_at b.ct c ≡ 65535 → ⊥) × LooksListed p (view p b (c % p.mu)) c (looks_at p b c))

-- ---- "Erasing the victim before its copies stand"

-- after any k of the operations of a write that reclaims, each frame of the victim that was valid stands where it was, or as its copy: the i-th of them as
-- frame i of the block that is taken
abbrev pub CopiesStand : Type 0
CopiesStand =
    (p : Params) (b : Board) (q : Request) → reply_of p b (write q) ≡ Accepted → (v : ℕ) → plan_of p (view p b (request_region p q)) ≡ reclaims v
    → (k i : ℕ) → i < length (valid_frames p (view p b (request_region p q)) v)
    → let chip = replay_chip p b.chip (take k (write_ops p b q)) in
    let old = bt_at p b.bt (request_region p q) v in
    let f = get_or (valid_frames p (view p b (request_region p q)) v) i 0 in
    let was = frame p (block p b.chip old) f in
    (frame p (block p chip old) f ≡ was) ⊎ (frame p (block p chip (free_block p b.bst b.wear)) i ≡ was)
