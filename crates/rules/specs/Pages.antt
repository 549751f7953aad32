-- Document 01, "Parameters" and the spare bytes: blocks, frames and pages are parts of the chip's bytes, each a part of the one before.
-- Assumes nothing.
use Rattle.std.specs.Prelude.{ℕ, ◌+◌, ◌-◌, ◌*◌, ◌/◌, ◌%◌, Bool, ◌&&◌, List, [], ◌∷◌, ◌++◌, get_or, drop, replicate, eqb, leb}
use Rattle.lists.specs.Below.{count_below, last_below}
use Rattle.lists.specs.Parts.{part, all_are}
use Rattle.rules.specs.declared.Params.{Params}
use Rattle.rules.specs.Parameters.{frames, page_bytes, frame_bytes, block_bytes}
use Rattle.rules.specs.Tables.{not_found}

-- block n of the chip, frame f of a block, page j of a frame, and that page's spare bytes
unfoldable pub block : Params → List ℕ → ℕ → List ℕ
block p chip n = part (block_bytes p) n chip

unfoldable pub frame : Params → List ℕ → ℕ → List ℕ
frame p blk f = part (frame_bytes p) f blk

unfoldable pub page : Params → List ℕ → ℕ → List ℕ
page p fr j = part (page_bytes p) j fr

unfoldable pub spare : Params → List ℕ → ℕ → List ℕ
spare p fr j = drop p.s (page p fr j)

-- "low byte first"
unfoldable pub le32 : List ℕ → ℕ
le32 l = get_or l 0 0 + 256 * get_or l 1 0 + 65536 * get_or l 2 0 + 16777216 * get_or l 3 0

unfoldable pub bytes32 : ℕ → List ℕ
bytes32 n = n % 256 ∷ n / 256 % 256 ∷ n / 65536 % 256 ∷ n / 16777216 % 256 ∷ []

-- "Spare bytes of a programmed page: 0 to 3 cluster number, low byte first; 4 the sector's place in its cluster; 5 always 255; 6 zero", and T-07: "Spare bytes 7
-- to 10 take a stamp, one for all pages of a frame, low byte first, and byte 11 the virtual block"; 12 to 15 all 255
unfoldable pub spare_bytes : ℕ → ℕ → ℕ → ℕ → List ℕ
spare_bytes c j t v = bytes32 c ++ (j ∷ 255 ∷ 0 ∷ bytes32 t ++ (v ∷ replicate 4 255))

-- "An erased page is 255 throughout", and so is what consists of erased pages
abbrev pub erased : List ℕ → Bool
erased l = all_are 255 l

-- "The α pages of a frame hold one cluster in order": which one, by its first page
unfoldable pub held : Params → List ℕ → ℕ
held p fr = le32 (spare p fr 0)

-- the stamp of its pages, by its first page too
unfoldable pub stamp_of : Params → List ℕ → ℕ
stamp_of p fr = le32 (drop 7 (spare p fr 0))

-- and the virtual block
unfoldable pub vblock_in : Params → List ℕ → ℕ
vblock_in p fr = get_or (spare p fr 0) 11 255

-- page j of a frame is programmed
unfoldable pub page_used : Params → List ℕ → ℕ → Bool
page_used p fr j = eqb (get_or (spare p fr j) 6 255) 0

-- T-07: "A frame with only its first pages programmed counts as programmed": by its first page
unfoldable pub programmed : Params → List ℕ → Bool
programmed p fr = page_used p fr 0

-- "except in CT's rule": a frame is whole by its last page
unfoldable pub whole : Params → List ℕ → Bool
whole p fr = page_used p fr (p.alpha - 1)

-- a whole frame of cluster c, by the spare bytes of its last page alone, which are what T-08's search looks at. A frame that is only begun "is never valid and
-- hides no earlier frame"
unfoldable pub holds : Params → List ℕ → ℕ → Bool
holds p fr c = whole p fr && eqb (le32 (spare p fr (p.alpha - 1))) c

-- how many frames of a block are programmed
unfoldable pub filled : Params → List ℕ → ℕ
filled p blk = count_below (frames p) (λ f. programmed p (frame p blk f))

-- T-07: "a page of every frame programmed (full)"
unfoldable pub is_full : Params → List ℕ → Bool
is_full p blk = eqb (filled p blk) (frames p)

-- the last whole frame of the segment in place k of a block that holds cluster c
unfoldable pub last_in : Params → List ℕ → ℕ → ℕ → ℕ
last_in p blk k c = last_below not_found (frames p) (λ f. eqb (f / p.beta) k && holds p (frame p blk f) c)

-- how many frames of the segment in place k are programmed, from the last one down to frame `to`, that one included
unfoldable pub programmed_down_to : Params → List ℕ → ℕ → ℕ → ℕ
programmed_down_to p blk k to = count_below (frames p) (λ f. eqb (f / p.beta) k && (leb to f && programmed p (frame p blk f)))
