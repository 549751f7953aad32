-- An orderly state is what the five bullets of document 01 list, with document 02's marks, both ways: no less, and no more. Region by region, the rules as
-- propositions (RegionFacts) are read as the listed ones and back.
-- Assumes nothing.
use mathlib.Core.Path.{◌≡◌, refl, sym, ap, ◌∙◌}
use mathlib.Core.Logic.{◌⊎◌, inl, inr}
use Prim.Native.Nat.{ℕ, zero, suc, ◌-◌, ◌/◌, ◌≤◌, ◌<◌}
use native.Mathlib.Nat.{div-lt_iff_lt-mul}
use native.Mathlib.Omega.{arith}
use native.Mathlib.Decide.{ℕ_discrete, dec_lt}
use mathlib.Core.Bool.{true, false}
use mathlib.Core.List.{List}
use lib.ListN.{drop, get_or}
use lib.Dec.{eqb}
use borrow.Author.Tests.{eq-eqb, eqb-true}
use Rattle.lists.proofs.Searches.{last_found}
use Rattle.lists.proofs.Tests.{and_intro, and_left, count_is, count_le, never}
use Rattle.rules.specs.declared.Params.{Params}
use Rattle.rules.specs.Parameters.{frames}
use Rattle.rules.specs.Numbers.{place_of, region_of, segment_of, vblock_of}
use Rattle.rules.specs.Tables.{Board, bst_at, none, not_found}
use Rattle.rules.specs.Pages.{filled, frame, held, holds, last_in, page, page_used, programmed, spare, spare_bytes, whole, stamp_of}
use Rattle.rules.specs.Regions.{View, assigned, view}
use Rattle.rules.specs.Orderly.{orderly, used_pages}
use Rattle.rules.specs.Replies.{lengths_fit}
use Rattle.rules.specs.Words.{BlockListed, EntryListed, FrameListed, OpenListed, OrderlyExactly, OrderlyListed, RegionListed, SpareListed}
use Rattle.rules.proofs.Admitted.{orderly_all, orderly_region}
use Rattle.rules.proofs.Continues.{open_low, segs_out}
use Rattle.rules.proofs.Frames.{right_stamp, erased_not, right_held, right_programmed, right_used, page_not, seg_low, seg_place, seg_vblock}
use Rattle.rules.proofs.RegionFacts.{good_stamp, Entry, GoodFrame, Neat, Open, UpTo, filled_le, good_holds, good_used, neat, neat_none, neat_out, region_orderly, up_to_filled, neat_fronts}
use Rattle.rules.proofs.Sizes.{Sizes, sizes}
use Rattle.rules.proofs.Stamps.{stamps_in, stamps_out}
use Rattle.rules.proofs.TableFacts.{Tables, lengths_in, marks_in_lem, tables_in}
use Rattle.rules.proofs.ValidFrames.{block_of, found, frame_of_lem, held_is, is_valid_lem}
use Rattle.rules.proofs.Words.{spares_exactly}

-- ---- frames and blocks

frame_in_lem : (p : Params) (z : Sizes p) (r v : ℕ) (fr : List ℕ) → GoodFrame p r v fr → FrameListed p r v fr
unfolding spare
frame_in_lem p z r v fr g =
    record {
      cluster = held p fr;
      stamp = stamp_of p fr;
      low = g.low;
      mine = g.mine;
      m = used_pages p fr;
      some = good_used p r v fr g 0 z.sectors (unfold programmed in g.on);
      most = used_le;
      spares = λ j k. (spares_exactly (held p fr) j (stamp_of p fr) v (omega (arith, g.low, z.clusters)) (good_stamp p z r v fr g) _).0 (g.spares j k (omega (arith, used_le)));
      blank = g.blank;
    }
  where
    used_le : used_pages p fr ≤ p.alpha
    used_le = unfold used_pages in count_le p.alpha _

frame_out : (p : Params) (z : Sizes p) (r v : ℕ) (fr : List ℕ) → FrameListed p r v fr → GoodFrame p r v fr
frame_out p z r v fr l =
    record {
      on = right_programmed p fr l.cluster l.stamp v (marks 0 l.some);
      low = rw e l.low;
      mine = rw e l.mine;
      spares = λ j m k. rw (e, es) (marks j (omega (arith, used)));
      blank = λ j m k. l.blank j (omega (arith, used)) k;
    }
  where
    small : l.cluster < 4294967296
    small = omega (arith, l.low, z.clusters)

    first : SpareListed l.cluster 0 l.stamp v (drop p.s (page p fr 0))
    first = l.spares 0 l.some

    early : l.stamp < 4294967296
    early =
        omega (
          arith,
          first.stamp,
          first.stamp_bytes 7 (omega arith) (omega arith),
          first.stamp_bytes 8 (omega arith) (omega arith),
          first.stamp_bytes 9 (omega arith) (omega arith),
          first.stamp_bytes 10 (omega arith) (omega arith),
        )

    marks : (j : ℕ) → j < l.m → spare p fr j ≡ spare_bytes l.cluster j l.stamp v
    marks j k = unfold spare in (spares_exactly l.cluster j l.stamp v small early _).1 (l.spares j k)

    e : held p fr ≡ l.cluster
    e = right_held p fr l.cluster l.stamp v (marks 0 l.some) small

    es : stamp_of p fr ≡ l.stamp
    es = unfold stamp_of in right_stamp p fr 0 l.cluster l.stamp v (marks 0 l.some) early

    used : used_pages p fr ≡ l.m
    used = unfold used_pages in count_is p.alpha l.m _ l.most (λ j h. right_used p fr j l.cluster l.stamp v (marks j h)) (λ j a b. page_not p fr j (l.blank j a b))

block_in : (p : Params) (z : Sizes p) (r v : ℕ) (blk : List ℕ) → (0 < filled p blk) × UpTo p r v (filled p blk) blk → BlockListed p r v blk
unfolding frames
block_in p z r v blk w =
    record {
      k = filled p blk;
      some = w.0;
      most = filled_le p blk;
      front = λ f h. frame_in_lem p z r v (frame p blk f) (w.1.front f h (omega (arith, h, filled_le p blk)));
      rest = w.1.rest;
    }

-- the first k frames of a listed block, and how many are programmed
block_upto : (p : Params) (z : Sizes p) (r v : ℕ) (blk : List ℕ) → (l : BlockListed p r v blk) → UpTo p r v l.k blk
unfolding frames
block_upto p z r v blk l = record { front = λ f h i. frame_out p z r v (frame p blk f) (l.front f h); rest = l.rest }

block_filled : (p : Params) (z : Sizes p) (r v : ℕ) (blk : List ℕ) → (l : BlockListed p r v blk) → filled p blk ≡ l.k
block_filled p z r v blk l = up_to_filled p z r v l.k blk (unfold frames in l.most) (block_upto p z r v blk l)

block_out : (p : Params) (z : Sizes p) (r v : ℕ) (blk : List ℕ) → BlockListed p r v blk → (0 < filled p blk) × UpTo p r v (filled p blk) blk
block_out p z r v blk l = rw (block_filled p z r v blk l) (l.some, block_upto p z r v blk l)

-- a frame below `filled` is programmed, one from there on is erased
front_written : (p : Params) (z : Sizes p) (r v : ℕ) (blk : List ℕ) → UpTo p r v (filled p blk) blk → (f : ℕ) → f < filled p blk → f < frames p → programmed p (frame p blk f) ≡ true
front_written p z r v blk u f h k = (u.front f h k).on

written_front : (p : Params) (r v : ℕ) (blk : List ℕ) → UpTo p r v (filled p blk) blk → (f : ℕ) → f < frames p → programmed p (frame p blk f) ≡ true → f < filled p blk
written_front p r v blk u f k e = go (dec_lt f (filled p blk))
  where
    go : Dec (f < filled p blk) → f < filled p blk
    go (yes h) = h
    go (no h) = absurd (never e (erased_not p (frame p blk f) (u.rest f (omega arith) k)))

-- a search of a segment that has a frame of the cluster finds one
found_in : (p : Params) (blk : List ℕ) (f c : ℕ) → f < frames p → holds p (frame p blk f) c ≡ true → last_in p blk (f / p.beta) c < frames p
unfolding last_in
found_in p blk f c h t = (last_found not_found (frames p) _ f h (and_intro (eq-eqb (f / p.beta) (f / p.beta) refl) t)).1

-- ---- a region, as listed

module _ (p : Params) (z : Sizes p) (r : ℕ) (vw : View) (nt : Neat p r vw) where
  open_in : Open p vw → OpenListed p vw
  unfolding frames
  open_in o =
      let v = vblock_of p vw.last_seg in
      let low = open_low p z vw o in
      let w = nt.blocks v low o.has in
      let few = filled_le p (vw.body v) in
      record {
        v = v;
        f = filled p (vw.body v) - 1;
        low = low;
        has = o.has;
        inside = omega (arith, w.0, few);
        written = front_written p z r v (vw.body v) w.1 _ (omega (arith, w.0)) (omega (arith, w.0, few));
        last = λ g h k. w.1.rest g (omega (arith, h, w.0)) k;
        names = o.last;
        full = λ u h ne a g k. front_written p z r u (vw.body u) (nt.blocks u h a).1 g (rw (o.full u h ne a) k) k;
      }

  -- the frame that an entry leads to; its last page is programmed
  abbrev led : (c : ℕ) → Entry p vw c → List ℕ
  led c e = frame p (vw.body (block_of p z r vw (neat_fronts nt) c e)) (frame_of_lem p z r vw (neat_fronts nt) c e)

  last_page : (c : ℕ) → (e : Entry p vw c) → get_or (drop p.s (page p (led c e) (p.alpha - 1))) 6 255 ≡ 0
  unfolding holds whole page_used spare
  last_page c e = eqb-true _ _ (and_left (eqb (get_or (drop p.s (page p (led c e) (p.alpha - 1))) 6 255) 0) _ (found p z r vw (neat_fronts nt) c e).1)

  entry_in : (c : ℕ) → Entry p vw c → EntryListed p vw c
  unfolding frames
  entry_in c e =
      let w = is_valid_lem p z r vw (neat_fronts nt) c e in
      record {
        v = block_of p z r vw (neat_fronts nt) c e;
        f = frame_of_lem p z r vw (neat_fronts nt) c e;
        low = entry_low c e;
        has = e.has;
        inside = e.held;
        written = w.written;
        whole = last_page c e;
        holds = held_is p z r vw (neat_fronts nt) c e;
        names = sym (ap vw.seg_of (held_is p z r vw (neat_fronts nt) c e)) ∙ w.names;
      }
    where
      entry_low : (c : ℕ) → (e : Entry p vw c) → block_of p z r vw (neat_fronts nt) c e < p.gamma
      entry_low c e = (div-lt_iff_lt-mul z.segments).1 e.low

  region_in : RegionListed p r vw
  region_in =
      record {
        blocks = λ v h a. block_in p z r v (vw.body v) (nt.blocks v h a);
        fst = opened nt.opened;
        ct = λ c h e. entry c (nt.entries c h);
      }
    where
      opened : (((v : ℕ) → v < p.gamma → assigned vw v ≡ false) × (vw.last_seg ≡ none)) ⊎ (((v : ℕ) × (v < p.gamma) × (assigned vw v ≡ true)) × Open p vw)
          → (((v : ℕ) → v < p.gamma → assigned vw v ≡ false) × (vw.last_seg ≡ none)) ⊎ OpenListed p vw
      opened (inl w) = inl w
      opened (inr w) = inr (open_in w.1)

      entry : (c : ℕ) → (vw.seg_of c ≡ none) ⊎ Entry p vw c → (vw.seg_of c ≡ none) ⊎ EntryListed p vw c
      entry c (inl e) = inl e
      entry c (inr e) = inr (entry_in c e)

-- ---- and back

module _ (p : Params) (z : Sizes p) (r : ℕ) (vw : View) (l : RegionListed p r vw) where
  blocks : (v : ℕ) → v < p.gamma → assigned vw v ≡ true → (0 < filled p (vw.body v)) × UpTo p r v (filled p (vw.body v)) (vw.body v)
  blocks v h a = block_out p z r v (vw.body v) (l.blocks v h a)

  -- the frame that a listed entry names is one of its block's first, and whole
  entry_good : {c : ℕ} (e : EntryListed p vw c) → e.f < frames p → GoodFrame p r e.v (frame p (vw.body e.v) e.f)
  entry_good e inside =
      let u = (blocks e.v e.low e.has).1 in
      u.front e.f (written_front p r e.v (vw.body e.v) u e.f inside e.written) inside

  last_whole : {c : ℕ} (e : EntryListed p vw c) → whole p (frame p (vw.body e.v) e.f) ≡ true
  unfolding whole page_used spare
  last_whole e = eq-eqb _ _ e.whole

  entry_out : (c : ℕ) → EntryListed p vw c → Entry p vw c
  entry_out c e =
      let inside : e.f < frames p = unfold frames in e.inside in
      let names : vw.seg_of c ≡ segment_of p e.v e.f = e.names in
      let block : vblock_of p (vw.seg_of c) ≡ e.v = rw names (seg_vblock p z e.v e.f inside) in
      let place : place_of p (vw.seg_of c) ≡ e.f / p.beta = rw names (seg_place p z e.v e.f inside) in
      let here : holds p (frame p (vw.body e.v) e.f) c ≡ true = rw e.holds at (good_holds p z r e.v _ (entry_good e inside) (last_whole e)) in
      record {
        low = rw names (seg_low p z e.v e.f inside e.low);
        has = rw block e.has;
        held = rw (block, place) (found_in p (vw.body e.v) e.f c inside here);
      }

  open_out : OpenListed p vw → Open p vw
  open_out o =
      let inside : o.f < frames p = unfold frames in o.inside in
      let names : vw.last_seg ≡ segment_of p o.v o.f = o.names in
      let block : vblock_of p vw.last_seg ≡ o.v = rw names (seg_vblock p z o.v o.f inside) in
      record {
        low = rw names (seg_low p z o.v o.f inside o.low);
        has = rw block o.has;
        last = rw (block, ends o inside) names;
        full = λ u h ne a. every o u h (λ e. ne (e ∙ sym block)) a;
      }
    where
      -- the last programmed frame is the one before `filled`
      ends : (o : OpenListed p vw) → o.f < frames p → filled p (vw.body o.v) - 1 ≡ o.f
      ends o inside = go (dec_lt (suc o.f) (filled p (vw.body o.v)))
        where
          u : UpTo p r o.v (filled p (vw.body o.v)) (vw.body o.v)
          u = (blocks o.v o.low o.has).1

          go : Dec (suc o.f < filled p (vw.body o.v)) → filled p (vw.body o.v) - 1 ≡ o.f
          go (yes h) =
              let k : suc o.f < frames p = omega (arith, h, filled_le p (vw.body o.v)) in
              absurd (never (front_written p z r o.v (vw.body o.v) u (suc o.f) h k) (erased_not p _ (o.last (suc o.f) (omega arith) (unfold frames in k))))
          go (no h) = omega (arith, written_front p r o.v (vw.body o.v) u o.f inside o.written)

      -- a block whose frames are all programmed is full
      every : (o : OpenListed p vw) (u : ℕ) → u < p.gamma → (u ≡ o.v → ⊥) → assigned vw u ≡ true → filled p (vw.body u) ≡ frames p
      every o u h ne a = go (dec_lt (filled p (vw.body u)) (frames p))
        where
          go : Dec (filled p (vw.body u) < frames p) → filled p (vw.body u) ≡ frames p
          go (yes k) = absurd (omega (arith, written_front p r u (vw.body u) (blocks u h a).1 (filled p (vw.body u)) k (o.full u h ne a _ (unfold frames in k))))
          go (no k) = omega (arith, filled_le p (vw.body u))

  region_out : ((c : ℕ) → (region_of p c ≡ r → ⊥) → vw.seg_of c ≡ none) → region_orderly p r vw ≡ true
  region_out others = go l.fst
    where
      listed : (c : ℕ) → (vw.seg_of c ≡ none) ⊎ EntryListed p vw c → (vw.seg_of c ≡ none) ⊎ Entry p vw c
      listed c (inl e) = inl e
      listed c (inr e) = inr (entry_out c e)

      entries : (c : ℕ) → c < p.C → (vw.seg_of c ≡ none) ⊎ Entry p vw c
      entries c h = pick (ℕ_discrete (region_of p c) r)
        where
          pick : Dec (region_of p c ≡ r) → (vw.seg_of c ≡ none) ⊎ Entry p vw c
          pick (yes e) = listed c (l.ct c h e)
          pick (no e) = inl (others c e)

      go : (((v : ℕ) → v < p.gamma → assigned vw v ≡ false) × (vw.last_seg ≡ none)) ⊎ OpenListed p vw → region_orderly p r vw ≡ true
      go (inl w) = neat_none p r vw w.0 w.1 entries
      go (inr o) = neat_out p r vw o.v o.low o.has blocks (open_out o) entries

-- ---- the whole state

three : (x : ℕ) → x ≤ 2 → (x ≡ 0) ⊎ ((x ≡ 1) ⊎ (x ≡ 2))
three zero h = inl refl
three (suc zero) h = inr (inl refl)
three (suc (suc zero)) h = inr (inr refl)
three (suc (suc (suc x))) h = absurd (omega arith)

low_kind : (x : ℕ) → (x ≡ 0) ⊎ ((x ≡ 1) ⊎ (x ≡ 2)) → x ≤ 2
low_kind x (inl e) = omega arith
low_kind x (inr (inl e)) = omega arith
low_kind x (inr (inr e)) = omega arith

orderly_in : (p : Params) (b : Board) → Sizes p → lengths_fit p b ≡ true → orderly p b ≡ true → OrderlyListed p b
orderly_in p b z l h =
    let t = tables_in p b l h in
    record {
      kinds = λ n k. three (bst_at b.bst n) (t.kinds n k);
      names = t.names;
      once = λ i j hi hj ne e. t.once i j hi hj e ne;
      used = λ n k. (t.used n k, λ w. t.used_back w.0 w.1 n k w.2);
      free = t.free;
      regions = λ r k. region_in p z r (view p b r) (neat p r (view p b r) (orderly_region p b h r k));
      marks = marks_in_lem p b l h;
      stamps = λ r v f hr hv hf w. unfold stamp_of spare in stamps_in p b h r hr v f hv (unfold frames in hf) w;
    }

orderly_back : (p : Params) (b : Board) → Sizes p → lengths_fit p b ≡ true → OrderlyListed p b → orderly p b ≡ true
orderly_back p b z l o = orderly_all p b z tables (λ r k. region_out p z r (view p b r) (o.regions r k) (λ c ne. segs_out p b r c ne)) o.marks
    (stamps_out p b (λ r hr v f hv hf w. unfold stamp_of spare in o.stamps r v f hr hv (unfold frames in hf) w))
  where
    tables : Tables p b
    tables =
        let a = lengths_in p b l in
        record {
          chip_length = a.chip_length;
          ct_length = a.ct_length;
          bt_length = a.bt_length;
          fst_length = a.fst_length;
          bst_length = a.bst_length;
          wear_length = a.wear_length;
          stamps_length = a.stamps_length;
          kinds = λ n k. low_kind (bst_at b.bst n) (o.kinds n k);
          names = o.names;
          once = λ i j hi hj e ne. o.once i j hi hj ne e;
          used = λ n k. (o.used n k).0;
          used_back = λ i k n m e. (o.used n m).1 (i, k, e);
          free = o.free;
        }

pub orderly_exactly : OrderlyExactly
orderly_exactly p b h l = (orderly_in p b (sizes p h) l, orderly_back p b (sizes p h) l)
