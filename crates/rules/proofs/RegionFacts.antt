-- The rules of a region as propositions.
-- Assumes nothing.
use mathlib.Core.Path.{◌≡◌, sym, ◌∙◌}
use mathlib.Core.Logic.{◌⊎◌, inl, inr}
use Prim.Native.Nat.{ℕ, ◌-◌, ◌*◌, ◌≤◌, ◌<◌}
use native.Mathlib.Omega.{arith}
use native.Mathlib.Decide.{ℕ_discrete, dec_lt}
use mathlib.Core.Bool.{Bool, true, false, not, ◌||◌, cond}
use mathlib.Core.List.{List, [], ◌∷◌}
use lib.Dec.{eqb, ltb}
use borrow.Author.Tests.{eqb-true, eq-eqb, ne_eqb, lt-ltb, le-ltb, ltb-true, not-true, not-false}
use Rattle.lists.specs.Below.{all_true, all_below}
use Rattle.lists.specs.Parts.{all_are, same_list}
use Rattle.lists.proofs.Joins.{same_refl, same_list→eq}
use Rattle.lists.proofs.Tests.{all_at, all_below_intro, all_true_lem, and_intro, and_left, and_right, count_is, count_le, never, or_cases, or_right, so, some_fails, truths}
use Rattle.rules.specs.declared.Params.{Params}
use Rattle.rules.specs.Parameters.{frames}
use Rattle.rules.specs.Numbers.{place_of, region_of, segment_of, vblock_of}
use Rattle.rules.specs.Tables.{none}
use Rattle.rules.specs.Pages.{held, holds, filled, frame, last_in, le32, page, page_used, programmed, spare, spare_bytes, stamp_of, whole}
use Rattle.rules.specs.Regions.{View, assigned}
use Rattle.rules.specs.Orderly.{good_frame, good_pages, good_up_to, used_pages, block_rule, region_blocks, full_rule, open_rule, region_fst, entry_rule, cluster_rule}
use Rattle.rules.proofs.Sizes.{Sizes}
use Rattle.rules.proofs.Frames.{erased_not, erased_whole, le_small, right_cluster, right_stamp_is, page_not}

pub record GoodFrame (p : Params) (r v : ℕ) (fr : List ℕ) : Type 0 where
  pub on : programmed p fr ≡ true
  pub low : held p fr < p.C
  pub mine : region_of p (held p fr) ≡ r
  pub spares : (j : ℕ) → j < used_pages p fr → j < p.alpha → spare p fr j ≡ spare_bytes (held p fr) j (stamp_of p fr) v
  pub blank : (j : ℕ) → used_pages p fr ≤ j → j < p.alpha → all_are 255 (page p fr j) ≡ true

pub good_frame_lem : (p : Params) (r v : ℕ) (fr : List ℕ) → good_frame p r v fr ≡ true → GoodFrame p r v fr
unfolding good_frame good_pages
good_frame_lem p r v fr h =
    let t = truths _ h in
    record {
      on = t.0;
      low = ltb-true _ _ t.1.0;
      mine = eqb-true _ _ t.1.1.0;
      spares = λ j m k. same_list→eq _ _ (rw (lt-ltb j (used_pages p fr) m) at (all_at p.alpha _ t.1.1.1.0 j k));
      blank = λ j m k. rw (le-ltb j (used_pages p fr) m) at (all_at p.alpha _ t.1.1.1.0 j k);
    }

pub good_frame_back : (p : Params) (r v : ℕ) (fr : List ℕ) → GoodFrame p r v fr → good_frame p r v fr ≡ true
unfolding good_frame good_pages
good_frame_back p r v fr g =
    all_true_lem _ (g.on, (lt-ltb _ _ g.low, (eq-eqb _ _ g.mine, (all_below_intro p.alpha _ (λ j k. go j k (dec_lt j (used_pages p fr))), tt))))
  where
    go : (j : ℕ) → j < p.alpha → Dec (j < used_pages p fr)
        → cond (ltb j (used_pages p fr)) (same_list (spare p fr j) (spare_bytes (held p fr) j (stamp_of p fr) v)) (all_are 255 (page p fr j)) ≡ true
    go j k (yes a) = rw (lt-ltb j (used_pages p fr) a, g.spares j a k) (same_refl _)
    go j k (no a) = rw (le-ltb j (used_pages p fr) (omega arith)) (g.blank j (omega arith) k)

-- a page of a good frame that is programmed is among the first
pub good_used : (p : Params) (r v : ℕ) (fr : List ℕ) → GoodFrame p r v fr → (j : ℕ) → j < p.alpha → page_used p fr j ≡ true → j < used_pages p fr
good_used p r v fr g j h t = go (dec_lt j (used_pages p fr))
  where
    go : Dec (j < used_pages p fr) → j < used_pages p fr
    go (yes a) = a
    go (no a) = absurd (never t (page_not p fr j (g.blank j (omega arith) h)))

-- its last page says the same cluster as its first, where it is programmed
good_last : (p : Params) → Sizes p → (r v : ℕ) (fr : List ℕ) → GoodFrame p r v fr → page_used p fr (p.alpha - 1) ≡ true → le32 (spare p fr (p.alpha - 1)) ≡ held p fr
good_last p z r v fr g h =
    let last : p.alpha - 1 < p.alpha = omega (arith, z.sectors) in
    right_cluster p fr (p.alpha - 1) (held p fr) (stamp_of p fr) v (g.spares (p.alpha - 1) (good_used p r v fr g (p.alpha - 1) last h) last) (omega (arith, g.low, z.clusters))

-- a good frame that holds a cluster holds it by its first page too
pub good_held : (p : Params) → Sizes p → (r v : ℕ) (fr : List ℕ) → GoodFrame p r v fr → (c : ℕ) → holds p fr c ≡ true → held p fr ≡ c
unfolding holds whole
good_held p z r v fr g c h = sym (good_last p z r v fr g (and_left (page_used p fr (p.alpha - 1)) _ h)) ∙ eqb-true _ _ (and_right (page_used p fr (p.alpha - 1)) h)

-- and all of its pages have their spare bytes
pub good_all : (p : Params) → Sizes p → (r v : ℕ) (fr : List ℕ) → GoodFrame p r v fr → (c : ℕ) → holds p fr c ≡ true → (j : ℕ) → j < p.alpha → spare p fr j ≡ spare_bytes (held p fr) j (stamp_of p fr) v
unfolding holds whole
good_all p z r v fr g c h j k =
    let last = good_used p r v fr g (p.alpha - 1) (omega (arith, z.sectors)) (and_left (page_used p fr (p.alpha - 1)) _ h) in
    g.spares j (omega (arith, last, k)) k

-- its stamp is of 32 bits: the bytes that say it are the stamp's own
pub good_stamp : (p : Params) → Sizes p → (r v : ℕ) (fr : List ℕ) → GoodFrame p r v fr → stamp_of p fr < 4294967296
unfolding stamp_of
good_stamp p z r v fr g =
    let first = g.spares 0 (good_used p r v fr g 0 z.sectors (unfold programmed in g.on)) z.sectors in
    rw (right_stamp_is p fr 0 (held p fr) (stamp_of p fr) v first) (le_small (stamp_of p fr))

-- and a whole one holds its cluster
pub good_holds : (p : Params) → Sizes p → (r v : ℕ) (fr : List ℕ) → GoodFrame p r v fr → whole p fr ≡ true → holds p fr (held p fr) ≡ true
unfolding holds
good_holds p z r v fr g h = and_intro h (eq-eqb _ _ (good_last p z r v fr g (unfold whole in h)))

-- the first k frames are programmed, the rest is erased
pub record UpTo (p : Params) (r v k : ℕ) (blk : List ℕ) : Type 0 where
  pub front : (f : ℕ) → f < k → f < frames p → GoodFrame p r v (frame p blk f)
  pub rest : (f : ℕ) → k ≤ f → f < frames p → all_are 255 (frame p blk f) ≡ true

pub up_to : (p : Params) (r v k : ℕ) (blk : List ℕ) → good_up_to p r v k blk ≡ true → UpTo p r v k blk
unfolding good_up_to
up_to p r v k blk h =
    record {
      front = λ f a b. good_frame_lem p r v (frame p blk f) (rw (lt-ltb f k a) at (all_at (frames p) _ h f b));
      rest = λ f a b. rw (le-ltb f k a) at (all_at (frames p) _ h f b);
    }

pub up_to_back : (p : Params) (r v k : ℕ) (blk : List ℕ) → UpTo p r v k blk → good_up_to p r v k blk ≡ true
unfolding good_up_to
up_to_back p r v k blk u = all_below_intro (frames p) _ (λ f b. go f b (dec_lt f k))
  where
    go : (f : ℕ) → f < frames p → Dec (f < k) → cond (ltb f k) (good_frame p r v (frame p blk f)) (all_are 255 (frame p blk f)) ≡ true
    go f b (yes a) = rw (lt-ltb f k a) (good_frame_back p r v (frame p blk f) (u.front f a b))
    go f b (no a) = rw (le-ltb f k (omega arith)) (u.rest f (omega arith) b)

pub up_to_filled : (p : Params) → Sizes p → (r v k : ℕ) (blk : List ℕ) → k ≤ frames p → UpTo p r v k blk → filled p blk ≡ k
unfolding filled
up_to_filled p z r v k blk h u =
    count_is (frames p) k _ h (λ f a. (u.front f a (omega arith)).on)
    (λ f a b. erased_not p (frame p blk f) (u.rest f a b))

-- a whole frame is one of the first k, and so is one that holds a cluster
pub whole_front : (p : Params) (r v k : ℕ) (blk : List ℕ) → UpTo p r v k blk → (f : ℕ) → f < frames p → whole p (frame p blk f) ≡ true → f < k
whole_front p r v k blk u f h t = go (dec_lt f k)
  where
    go : Dec (f < k) → f < k
    go (yes a) = a
    go (no a) = absurd (never t (erased_whole p (frame p blk f) (u.rest f (omega arith) h)))

pub holds_front : (p : Params) (r v k : ℕ) (blk : List ℕ) → UpTo p r v k blk → (f c : ℕ) → f < frames p → holds p (frame p blk f) c ≡ true → f < k
unfolding holds
holds_front p r v k blk u f c h t = whole_front p r v k blk u f h (and_left (whole p (frame p blk f)) _ t)

pub filled_le : (p : Params) (blk : List ℕ) → filled p blk ≤ frames p
unfolding filled
filled_le p blk = count_le (frames p) _

-- the region has an open block: FST names the segment of its last programmed frame, and every other block is full
pub record Open (p : Params) (vw : View) : Type 0 where
  pub low : vw.last_seg < p.gamma * p.d
  pub has : assigned vw (vblock_of p vw.last_seg) ≡ true
  pub last : vw.last_seg ≡ segment_of p (vblock_of p vw.last_seg) (filled p (vw.body (vblock_of p vw.last_seg)) - 1)
  pub full : (v : ℕ) → v < p.gamma → (v ≡ vblock_of p vw.last_seg → ⊥) → assigned vw v ≡ true → filled p (vw.body v) ≡ frames p

pub record Entry (p : Params) (vw : View) (c : ℕ) : Type 0 where
  pub low : vw.seg_of c < p.gamma * p.d
  pub has : assigned vw (vblock_of p (vw.seg_of c)) ≡ true
  pub held : last_in p (vw.body (vblock_of p (vw.seg_of c))) (place_of p (vw.seg_of c)) c < frames p

-- the first frames of its blocks are programmed and right, the rest of them is erased
abbrev pub Fronts : Params → ℕ → View → Type 0
Fronts p r vw = (v : ℕ) → v < p.gamma → assigned vw v ≡ true → UpTo p r v (filled p (vw.body v)) (vw.body v)

pub record Neat (p : Params) (r : ℕ) (vw : View) : Type 0 where
  pub blocks : (v : ℕ) → v < p.gamma → assigned vw v ≡ true → (0 < filled p (vw.body v)) × UpTo p r v (filled p (vw.body v)) (vw.body v)
  pub opened : (((v : ℕ) → v < p.gamma → assigned vw v ≡ false) × (vw.last_seg ≡ none)) ⊎ (((v : ℕ) × (v < p.gamma) × (assigned vw v ≡ true)) × Open p vw)
  pub entries : (c : ℕ) → c < p.C → (vw.seg_of c ≡ none) ⊎ Entry p vw c

pub neat_fronts : {p : Params} {r : ℕ} {vw : View} → Neat p r vw → Fronts p r vw
neat_fronts n v h a = (n.blocks v h a).1

-- the rules of one region: its used blocks, its FST entry, and the CT entries of its clusters
unfoldable pub region_orderly : Params → ℕ → View → Bool
region_orderly p r vw = all_true (region_blocks p r vw ∷ region_fst p vw ∷ all_below p.C (cluster_rule p vw) ∷ [])

pub block_in : (p : Params) (r v : ℕ) (blk : List ℕ) → block_rule p r v blk ≡ true → (0 < filled p blk) × UpTo p r v (filled p blk) blk
unfolding block_rule
block_in p r v blk k = (ltb-true _ _ (and_left (ltb 0 (filled p blk)) _ k), up_to p r v _ blk (and_right (ltb 0 (filled p blk)) k))

-- a used block is full exactly if its last frame is programmed
pub last_full : (p : Params) → Sizes p → (r v : ℕ) (blk : List ℕ) → block_rule p r v blk ≡ true → eqb (filled p blk) (frames p) ≡ programmed p (frame p blk (frames p - 1))
last_full p z r v blk h = go (block_in p r v blk h).1 (ℕ_discrete (filled p blk) (frames p))
  where
    go : UpTo p r v (filled p blk) blk → Dec (filled p blk ≡ frames p) → eqb (filled p blk) (frames p) ≡ programmed p (frame p blk (frames p - 1))
    go u (yes e) =
        rw (eq-eqb (filled p blk) (frames p) e)
        (sym (u.front (frames p - 1) (omega (arith, z.some)) (omega (arith, z.some))).on)
    go u (no e) =
        rw (ne_eqb (filled p blk) (frames p) e)
        (sym (erased_not p (frame p blk (frames p - 1)) (u.rest (frames p - 1) (omega (arith, z.some, filled_le p blk)) (omega (arith, z.some)))))

-- a whole frame of a used block is a good one
pub whole_good : (p : Params) (r v : ℕ) (blk : List ℕ) → block_rule p r v blk ≡ true → (f : ℕ) → f < frames p → whole p (frame p blk f) ≡ true → GoodFrame p r v (frame p blk f)
whole_good p r v blk h f low w = let u = (block_in p r v blk h).1 in u.front f (whole_front p r v (filled p blk) blk u f low w) low

pub block_out : (p : Params) (r v : ℕ) (blk : List ℕ) → (0 < filled p blk) × UpTo p r v (filled p blk) blk → block_rule p r v blk ≡ true
unfolding block_rule
block_out p r v blk k = and_intro (lt-ltb _ _ k.0) (up_to_back p r v _ blk k.1)

entry_in : (p : Params) (vw : View) (c : ℕ) → entry_rule p vw c ≡ true → Entry p vw c
unfolding entry_rule
entry_in p vw c h = let t = truths _ h in record { low = ltb-true _ _ t.0; has = t.1.0; held = ltb-true _ _ t.1.1.0 }

entry_out : (p : Params) (vw : View) (c : ℕ) → Entry p vw c → entry_rule p vw c ≡ true
unfolding entry_rule
entry_out p vw c e = all_true_lem _ (lt-ltb _ _ e.low, (e.has, (lt-ltb _ _ e.held, tt)))

full_in : (p : Params) (vw : View) (v : ℕ) → full_rule p vw v ≡ true → (v ≡ vblock_of p vw.last_seg → ⊥) → assigned vw v ≡ true → filled p (vw.body v) ≡ frames p
unfolding full_rule
full_in p vw v h ne a = eqb-true _ _ (rw (ne_eqb v (vblock_of p vw.last_seg) ne, a) at h)

full_out : (p : Params) (vw : View) (v : ℕ) → ((v ≡ vblock_of p vw.last_seg → ⊥) → assigned vw v ≡ true → filled p (vw.body v) ≡ frames p) → full_rule p vw v ≡ true
unfolding full_rule
full_out p vw v h = go (ℕ_discrete v (vblock_of p vw.last_seg)) (so (assigned vw v))
  where
    go : Dec (v ≡ vblock_of p vw.last_seg) → (assigned vw v ≡ true) ⊎ (assigned vw v ≡ false) → full_rule p vw v ≡ true
    go (yes e) s = rw (eq-eqb v (vblock_of p vw.last_seg) e)
    go (no e) (inl a) = rw (ne_eqb v (vblock_of p vw.last_seg) e, a) (eq-eqb _ _ (h e a))
    go (no e) (inr a) = rw (ne_eqb v (vblock_of p vw.last_seg) e, a)

last_in_lem : (p : Params) (vw : View) → open_rule p vw ≡ true → Open p vw
unfolding open_rule
last_in_lem p vw h =
    let t = truths _ h in
    record { low = ltb-true _ _ t.0; has = t.1.0; last = eqb-true _ _ t.1.1.0; full = λ v k. full_in p vw v (all_at p.gamma (full_rule p vw) t.1.1.1.0 v k) }

last_out : (p : Params) (vw : View) → Open p vw → open_rule p vw ≡ true
unfolding open_rule
last_out p vw o =
    all_true_lem _ (lt-ltb _ _ o.low, (o.has, (eq-eqb _ _ o.last, (all_below_intro p.gamma (full_rule p vw) (λ v k. full_out p vw v (o.full v k)), tt))))

open_in : (p : Params) (vw : View) → region_fst p vw ≡ true
    → (((v : ℕ) → v < p.gamma → assigned vw v ≡ false) × (vw.last_seg ≡ none)) ⊎ (((v : ℕ) × (v < p.gamma) × (assigned vw v ≡ true)) × Open p vw)
unfolding region_fst
open_in p vw h = go (so (all_below p.gamma (λ v. not (assigned vw v))))
  where
    go : (all_below p.gamma (λ v. not (assigned vw v)) ≡ true) ⊎ (all_below p.gamma (λ v. not (assigned vw v)) ≡ false)
        → (((v : ℕ) → v < p.gamma → assigned vw v ≡ false) × (vw.last_seg ≡ none)) ⊎ (((v : ℕ) × (v < p.gamma) × (assigned vw v ≡ true)) × Open p vw)
    go (inl a) = inl (λ v k. not-true _ (all_at p.gamma _ a v k), eqb-true _ _ (rw a at h))
    go (inr a) = let w = some_fails p.gamma _ a in inr ((w.0, w.1, not-false _ w.2), last_in_lem p vw (rw a at h))

-- a region with a block and an open one passes
open_out : (p : Params) (vw : View) → (v : ℕ) → v < p.gamma → assigned vw v ≡ true → Open p vw → region_fst p vw ≡ true
unfolding region_fst
open_out p vw v k a o = go (so (all_below p.gamma (λ v. not (assigned vw v))))
  where
    go : (all_below p.gamma (λ v. not (assigned vw v)) ≡ true) ⊎ (all_below p.gamma (λ v. not (assigned vw v)) ≡ false) → region_fst p vw ≡ true
    go (inl e) = absurd (never a (not-true _ (all_at p.gamma _ e v k)))
    go (inr e) = rw e (last_out p vw o)

pub neat : (p : Params) (r : ℕ) (vw : View) → region_orderly p r vw ≡ true → Neat p r vw
unfolding region_orderly region_blocks cluster_rule
neat p r vw h =
    let t = truths _ h in
    record {
      blocks = λ v k a. block_in p r v (vw.body v) (rw a at (all_at p.gamma (λ v. not (assigned vw v) || block_rule p r v (vw.body v)) t.0 v k));
      opened = open_in p vw t.1.0;
      entries = λ c k. entry c (or_cases (eqb (vw.seg_of c) none) (all_at p.C (λ c. eqb (vw.seg_of c) none || entry_rule p vw c) t.1.1.0 c k));
    }
  where
    entry : (c : ℕ) → (eqb (vw.seg_of c) none ≡ true) ⊎ (entry_rule p vw c ≡ true) → (vw.seg_of c ≡ none) ⊎ Entry p vw c
    entry c (inl e) = inl (eqb-true _ _ e)
    entry c (inr e) = inr (entry_in p vw c e)

-- a CT entry that is none or leads to a frame of its cluster passes
entry_passes : (p : Params) (vw : View) (c : ℕ) → (vw.seg_of c ≡ none) ⊎ Entry p vw c → cluster_rule p vw c ≡ true
unfolding cluster_rule
entry_passes p vw c (inl e) = rw (eq-eqb (vw.seg_of c) none e)
entry_passes p vw c (inr e) = or_right (eqb (vw.seg_of c) none) (entry_out p vw c e)

-- a region without a block passes its rules
pub neat_none : (p : Params) (r : ℕ) (vw : View) → ((v : ℕ) → v < p.gamma → assigned vw v ≡ false) → vw.last_seg ≡ none
    → ((c : ℕ) → c < p.C → (vw.seg_of c ≡ none) ⊎ Entry p vw c) → region_orderly p r vw ≡ true
unfolding region_orderly region_blocks region_fst
neat_none p r vw lacks last entries =
    all_true_lem _ (
      all_below_intro p.gamma _ (λ v h. rw (lacks v h)),
      (
        rw (all_below_intro p.gamma (λ v. not (assigned vw v)) (λ v h. rw (lacks v h))) (eq-eqb _ _ last),
        (all_below_intro p.C _ (λ c h. entry_passes p vw c (entries c h)), tt),
      ),
    )

-- a region with an open block passes its rules
pub neat_out : (p : Params) (r : ℕ) (vw : View) (v : ℕ) → v < p.gamma → assigned vw v ≡ true
    → ((u : ℕ) → u < p.gamma → assigned vw u ≡ true → (0 < filled p (vw.body u)) × UpTo p r u (filled p (vw.body u)) (vw.body u)) → Open p vw
    → ((c : ℕ) → c < p.C → (vw.seg_of c ≡ none) ⊎ Entry p vw c) → region_orderly p r vw ≡ true
unfolding region_orderly region_blocks
neat_out p r vw v k a blocks o entries =
    all_true_lem _ (all_below_intro p.gamma _ (λ u m. block u m (so (assigned vw u))), (open_out p vw v k a o, (all_below_intro p.C _ (λ c m. entry_passes p vw c (entries c m)), tt)))
  where
    block : (u : ℕ) → u < p.gamma → (assigned vw u ≡ true) ⊎ (assigned vw u ≡ false) → not (assigned vw u) || block_rule p r u (vw.body u) ≡ true
    block u m (inl e) = or_right (not (assigned vw u)) (block_out p r u (vw.body u) (blocks u m e))
    block u m (inr e) = rw e
