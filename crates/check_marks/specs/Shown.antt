-- What the tests of validity and of the marks ask, and a view that shows the lent bytes.
-- Assumes nothing.
use Rattle.std.specs.Prelude.{◌≡◌, Bool, true, cond, not, ◌||◌, List, [], ℕ, ◌+◌, ◌*◌, ◌/◌, ◌%◌, ◌^◌, ◌<◌, eqb, length}
use Rattle.lists.specs.Below.{all_below}
use Rattle.rules.specs.declared.Params.{Params}
use Rattle.rules.specs.Parameters.{allowed, frames, block_bytes, chip_bytes}
use Rattle.rules.specs.Numbers.{region_of}
use Rattle.rules.specs.Pages.{block, frame, held, holds, programmed, whole}
use Rattle.rules.specs.Tables.{none, ct_at, bt_at, mark_index, marks_length, word_at}
use Rattle.rules.specs.Regions.{View, view_of}
use Rattle.rules.specs.Marks.{marked}

-- this is so of each whole frame of the block
abbrev pub EachWhole : Params → List ℕ → (List ℕ → Type 0) → Type 0
EachWhole p blk is = (f : ℕ) → f < frames p → whole p (frame p blk f) ≡ true → is (frame p blk f)

-- it is programmed from its first page on, and its first page says what its last one says
abbrev pub Kept : Params → List ℕ → Type 0
Kept p fr = (programmed p fr ≡ true) × (holds p fr (held p fr) ≡ true)

-- the bytes of a block, which virtual block v has, and CT; its whole frames hold clusters of the board
pub record OneBlock (p : Params) (blk ct : List ℕ) (v : ℕ) : Type 0 where
  pub fine : allowed p ≡ true
  pub size : length blk ≡ block_bytes p
  pub ct_length : length ct ≡ p.C
  pub low : v < p.gamma
  pub clusters : EachWhole p blk (λ fr. held p fr < p.C)
  pub kept : EachWhole p blk (Kept p)

pub record OneFrame (p : Params) (blk ct : List ℕ) (v f : ℕ) : Type 0 where
  pub block : OneBlock p blk ct v
  pub low : f < frames p

-- frame f of a block, in place k, holds cluster c
pub record HoldsAt (p : Params) (blk : List ℕ) (k f c : ℕ) : Type 0 where
  pub fine : allowed p ≡ true
  pub size : length blk ≡ block_bytes p
  pub low : f < frames p
  pub place : k ≡ f / p.beta
  pub here : holds p (frame p blk f) c ≡ true

-- virtual block v of the view, which is region r's, has these bytes, its whole frames hold clusters of that region, and these have their segments in CT
pub record Shows (p : Params) (r v : ℕ) (blk ct : List ℕ) (vw : View) : Type 0 where
  pub body : vw.body v ≡ blk
  pub segs : (c : ℕ) → vw.seg_of c ≡ cond (eqb (region_of p c) r) (ct_at ct c) none
  pub mine : EachWhole p blk (λ fr. region_of p (held p fr) ≡ r)

-- the whole frames of a block hold clusters of region r
pub record Mine (p : Params) (r : ℕ) (blk : List ℕ) : Type 0 where
  pub low : EachWhole p blk (λ fr. held p fr < p.C)
  pub region : EachWhole p blk (λ fr. region_of p (held p fr) ≡ r)
  pub kept : EachWhole p blk (Kept p)

-- the lent chip and tables are whole, and the block that BT has for virtual block v of region r is one of that region
pub record CheckAsked (p : Params) (chip ct bt marks : List ℕ) (r v : ℕ) : Type 0 where
  pub fine : allowed p ≡ true
  pub chip_length : length chip ≡ chip_bytes p
  pub ct_length : length ct ≡ p.C
  pub bt_length : length bt ≡ p.mu * p.gamma
  pub marks_long : length marks ≡ marks_length p
  pub region : r < p.mu
  pub low : v < p.gamma
  pub named : (bt_at p bt r v ≡ none → ⊥) → (bt_at p bt r v < p.N) × Mine p r (block p chip (bt_at p bt r v))

-- bit i of a word
abbrev pub bit_in : ℕ → ℕ → Bool
bit_in x i = eqb (x / 2 ^ i % 2) 1

-- each mark that word w has is one of these
unfoldable pub only_in : (ℕ → Bool) → ℕ → ℕ → Bool
only_in m w x = all_below 64 (λ i. not (bit_in x i) || m (64 * w + i))

-- the same of word w of virtual block v of region r, as it stands in the table
abbrev pub word_only : Params → List ℕ → ℕ → ℕ → (ℕ → Bool) → ℕ → Bool
word_only p marks r v m w = only_in m w (word_at marks (mark_index p r v w))

-- each mark of virtual block v of region r is that of a valid frame; no frame is valid by FST
unfoldable pub marks_valid : Params → List ℕ → List ℕ → List ℕ → List ℕ → ℕ → ℕ → Bool
marks_valid p chip ct bt marks r v = all_below 4 (word_only p marks r v (marked p (view_of p chip ct bt [] r) v))
