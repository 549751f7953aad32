-- Document 01, "When a state is orderly", and document 02's rules of the marks and of the stamps: ten rules, each a test with a name, in the documents' order.
-- Assumes nothing.
use Rattle.std.specs.Prelude.{ℕ, ◌+◌, ◌-◌, ◌*◌, Bool, not, ◌&&◌, ◌||◌, cond, List, [], ◌∷◌, leb, ltb, eqb}
use Rattle.std.specs.Bool.{beq}
use Rattle.lists.specs.Below.{all_below, all_true, count_below}
use Rattle.lists.specs.Parts.{same_list}
use Rattle.rules.specs.declared.Params.{Params}
use Rattle.rules.specs.Parameters.{frames}
use Rattle.rules.specs.Numbers.{region_of, vblock_of, place_of, segment_of}
use Rattle.rules.specs.Tables.{Board, none, bt_entry, bst_at, marks_length, word_at, stamp_at}
use Rattle.rules.specs.Pages.{block, frame, page, spare, spare_bytes, erased, held, stamp_of, page_used, programmed, filled, last_in}
use Rattle.rules.specs.Regions.{View, view, assigned}
use Rattle.rules.specs.Marks.{entry_of, marks_on}

-- "BST holds 0, 1 or 2"
unfoldable pub bst_rule : Params → List ℕ → Bool
bst_rule p bst = all_below p.N (λ n. leb (bst_at bst n) 2)

-- "BT entries are none or below N"
unfoldable pub bt_rule : Params → List ℕ → Bool
bt_rule p bt = all_below (p.mu * p.gamma) (λ i. eqb (bt_entry bt i) none || ltb (bt_entry bt i) p.N)

-- "no block is named twice"
unfoldable pub once_rule : Params → List ℕ → Bool
once_rule p bt =
    all_below (p.mu * p.gamma)
    (λ i. all_below (p.mu * p.gamma) (λ j. eqb i j || (eqb (bt_entry bt i) none || not (eqb (bt_entry bt i) (bt_entry bt j)))))

-- BT names block n
unfoldable pub named : Params → List ℕ → ℕ → Bool
named p bt n = not (all_below (p.mu * p.gamma) (λ i. not (eqb (bt_entry bt i) n)))

-- "a block is used exactly if BT names it"
unfoldable pub used_rule : Params → List ℕ → List ℕ → Bool
used_rule p bt bst = all_below p.N (λ n. beq (eqb (bst_at bst n) 1) (named p bt n))

-- "Free blocks are erased throughout. Reserved blocks may hold anything"
unfoldable pub free_rule : Params → List ℕ → List ℕ → Bool
free_rule p chip bst = all_below p.N (λ n. not (eqb (bst_at bst n) 0) || erased (block p chip n))

-- T-07: "A frame with only its first pages programmed .. an orderly state allows it": how many are
unfoldable pub used_pages : Params → List ℕ → ℕ
used_pages p fr = count_below p.alpha (page_used p fr)

-- the first pages have the spare bytes of one cluster, one stamp and virtual block v, in order, and the rest is erased
unfoldable pub good_pages : Params → ℕ → List ℕ → Bool
good_pages p v fr =
    all_below p.alpha
    (λ j. cond (ltb j (used_pages p fr)) (same_list (spare p fr j) (spare_bytes (held p fr) j (stamp_of p fr) v)) (erased (page p fr j)))

-- "with spare bytes as above and clusters below C of that region": a frame of region r, in virtual block v
unfoldable pub good_frame : Params → ℕ → ℕ → List ℕ → Bool
good_frame p r v fr = all_true (programmed p fr ∷ ltb (held p fr) p.C ∷ eqb (region_of p (held p fr)) r ∷ good_pages p v fr ∷ [])

-- the first k frames are programmed so, and "The rest is erased"
unfoldable pub good_up_to : Params → ℕ → ℕ → ℕ → List ℕ → Bool
good_up_to p r v k blk = all_below (frames p) (λ f. cond (ltb f k) (good_frame p r v (frame p blk f)) (erased (frame p blk f)))

-- "In a used block the first k frames are programmed, k from 1 to F"
unfoldable pub block_rule : Params → ℕ → ℕ → List ℕ → Bool
block_rule p r v blk = ltb 0 (filled p blk) && good_up_to p r v (filled p blk) blk

unfoldable pub region_blocks : Params → ℕ → View → Bool
region_blocks p r vw = all_below p.gamma (λ v. not (assigned vw v) || block_rule p r v (vw.body v))

unfoldable pub blocks_rule : Params → Board → Bool
blocks_rule p b = all_below p.mu (λ r. region_blocks p r (view p b r))

-- "and every other block of the region is full"
unfoldable pub full_rule : Params → View → ℕ → Bool
full_rule p vw v = eqb v (vblock_of p vw.last_seg) || (not (assigned vw v) || eqb (filled p (vw.body v)) (frames p))

-- "Otherwise it names the segment of the last programmed frame of one of the region's blocks, the open block"
unfoldable pub open_rule : Params → View → Bool
open_rule p vw =
    let o = vblock_of p vw.last_seg in
    all_true
    (ltb vw.last_seg (p.gamma * p.d)
    ∷ assigned vw o
    ∷ eqb vw.last_seg (segment_of p o (filled p (vw.body o) - 1))
    ∷ all_below p.gamma (full_rule p vw)
    ∷ [])

-- "FST is none exactly if the region has no block"
unfoldable pub region_fst : Params → View → Bool
region_fst p vw = cond (all_below p.gamma (λ v. not (assigned vw v))) (eqb vw.last_seg none) (open_rule p vw)

unfoldable pub fst_rule : Params → Board → Bool
fst_rule p b = all_below p.mu (λ r. region_fst p (view p b r))

-- "names a segment, in its own region, that holds a programmed frame of that cluster", with T-07 a whole one
unfoldable pub entry_rule : Params → View → ℕ → Bool
entry_rule p vw c =
    let sg = vw.seg_of c in
    all_true
    (ltb sg (p.gamma * p.d)
    ∷ assigned vw (vblock_of p sg)
    ∷ ltb (last_in p (vw.body (vblock_of p sg)) (place_of p sg) c) (frames p)
    ∷ [])

-- "A CT entry is none or" does so
unfoldable pub cluster_rule : Params → View → ℕ → Bool
cluster_rule p vw c = eqb (vw.seg_of c) none || entry_rule p vw c

unfoldable pub ct_rule : Params → Board → Bool
ct_rule p b = all_below p.C (λ c. cluster_rule p (view p b (region_of p c)) c)

-- T-06: "An orderly state now also says that each mark equals the validity rule", word by word
unfoldable pub marks_rule : Params → Board → Bool
marks_rule p b = all_below (marks_length p) (λ k. eqb (word_at b.marks k) (entry_of p (marks_on p b) k))

-- no programmed frame of a block has a stamp larger than t
unfoldable pub stamps_to : Params → ℕ → List ℕ → Bool
stamps_to p t blk = all_below (frames p) (λ f. not (programmed p (frame p blk f)) || leb (stamp_of p (frame p blk f)) t)

-- T-07: "no page of an orderly region has a larger one" than the region's last
unfoldable pub region_stamps : Params → ℕ → View → Bool
region_stamps p t vw = all_below p.gamma (λ v. stamps_to p t (vw.body v))

unfoldable pub stamp_rule : Params → Board → Bool
stamp_rule p b = all_below p.mu (λ r. region_stamps p (stamp_at b.stamps r) (view p b r))

-- the ten rules in order. T-12: "An orderly state no longer asks for μγ+1 good blocks"
unfoldable pub rules_of : Params → Board → List Bool
rules_of p b =
    bst_rule p b.bst
    ∷ bt_rule p b.bt
    ∷ once_rule p b.bt
    ∷ used_rule p b.bt b.bst
    ∷ free_rule p b.chip b.bst
    ∷ blocks_rule p b
    ∷ fst_rule p b
    ∷ ct_rule p b
    ∷ marks_rule p b
    ∷ stamp_rule p b
    ∷ []

unfoldable pub orderly : Params → Board → Bool
orderly p b = all_true (rules_of p b)

-- what document 01 asked for here, and T-12 for condition 1's last sentence and for condition 3 alone: "at least μγ+1 blocks are not reserved"
unfoldable pub enough : Params → Board → Bool
enough p b = leb (p.mu * p.gamma + 1) (count_below p.N (λ n. not (eqb (bst_at b.bst n) 2)))
