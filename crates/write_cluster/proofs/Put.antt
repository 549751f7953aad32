-- The host's frame on a board where a plan has made room.
-- Assumes nothing.
use mathlib.Core.Path.{◌≡◌, refl, sym, ap, ◌∙◌}
use mathlib.Core.Logic.{◌⊎◌, inl, inr}
use mathlib.Core.Bool.{Bool, true, false, not, cond, false≢true}
use mathlib.Core.List.{List, []}
use Prim.Native.Nat.{ℕ, ◌+◌, ◌*◌, ◌≤◌, ◌<◌}
use native.Mathlib.Omega.{arith}
use native.Mathlib.Decide.{ℕ_discrete}
use native.Mathlib.Nat.{div-lt_iff_lt-mul, mod-lt, zero-mul}
use lib.Dec.{eqb}
use borrow.Author.Tests.{eq-eqb, ne_eqb, lt-ltb}
use lib.ListN.{length, take, set, replicate}
use Rattle.lists.proofs.Joins.{join_cong}
use Rattle.chip_frames.specs.Frame.{host_page, host_frame, sectors_of}
use Rattle.read_work.specs.Lookup.{block_for, last_for, frame_for, Lookup, Stands}
use Rattle.read_work.proofs.Views.{lookup_of}
use Rattle.write_cluster.specs.Clusters.{Standing, PagesAsked, PagesPut, ClusterPut}
use Rattle.lists.specs.Parts.{all_are, part}
use Rattle.lists.proofs.Tests.{never}
use Rattle.rules.specs.declared.Params.{Params}
use Rattle.rules.specs.Parameters.{frames, page_bytes, frame_bytes, block_bytes}
use Rattle.rules.specs.Numbers.{sector_of, region_of, vblock_of, place_of, segment_of}
use Rattle.rules.specs.Traces.{frame_ops, replay_chip}
use Rattle.rules.specs.Write.{new_sector, new_page, new_frame, next_stamp}
use Rattle.rules.specs.Tables.{Board, none, ct_at, bt_at, bt_entry}
use Rattle.rules.specs.Regions.{View, view, view_of, body_at, assigned, frame_of, sector_in}
use Rattle.rules.specs.Pages.{block, frame, page, holds, last_in}
use Rattle.rules.specs.Requests.{request_cluster, Request, request_region}
use Rattle.rules.proofs.Sizes.{Sizes, sizes}
use Rattle.rules.proofs.Frames.{erased_holds, seg_low as seg-low-of}
use Rattle.lists.proofs.Parts.{next, part_part, part_length}
use Rattle.rules.proofs.Isolation.{index_low}
use Rattle.lists.proofs.Joins.{replicate_of}
use Rattle.rules.proofs.Continues.{segs_in}
use Rattle.rules.proofs.RegionFacts.{Entry}
use Rattle.rules.proofs.FramePut.{last_holds}

module _ (p : Params) (b : Board) (q : Request) (v f : ℕ) (t : Standing p b q v f) where
  z : Sizes p
  z = sizes p t.fine

  abbrev r : ℕ
  r = request_region p q

  abbrev c : ℕ
  c = request_cluster p q

  abbrev vw : View
  vw = view p b r

  region_in : r < p.mu
  region_in = mod-lt c z.regions

  segs : ct_at b.ct c ≡ vw.seg_of c
  segs = segs_in p b (region_of p c) c refl

  -- a virtual block that has a physical block
  module _ (u : ℕ) (low : u < p.gamma) where
    body_none : bt_at p b.bt r u ≡ none → vw.body u ≡ []
    unfolding view_of body_at
    body_none e = rw (lt-ltb u p.gamma low, e)

    has_block : assigned vw u ≡ true → bt_at p b.bt r u ≡ none → ⊥
    unfolding assigned
    has_block a e = false≢true (rw (body_none e) at a)

    body_some : (bt_at p b.bt r u ≡ none → ⊥) → vw.body u ≡ block p b.chip (bt_at p b.bt r u)
    unfolding view_of body_at
    body_some ne = rw (lt-ltb u p.gamma low, ne_eqb (bt_at p b.bt r u) none ne)

    block_low_lem : (bt_at p b.bt r u ≡ none → ⊥) → bt_at p b.bt r u < p.N
    unfolding bt_at bt_entry
    block_low_lem ne = go (t.names (r * p.gamma + u) (index_low p r u region_in low))
      where
        go : (bt_at p b.bt r u ≡ none) ⊎ (bt_at p b.bt r u < p.N) → bt_at p b.bt r u < p.N
        go (inl e) = absurd (ne e)
        go (inr h) = h

    frame_here : (ne : bt_at p b.bt r u ≡ none → ⊥) (g : ℕ) → g < frames p → frame p (vw.body u) g ≡ part (frame_bytes p) (bt_at p b.bt r u * frames p + g) b.chip
    unfolding frame block block_bytes
    frame_here ne g h = rw (body_some ne) (part_part (frame_bytes p) (frames p) (bt_at p b.bt r u) g b.chip h)

    frame_fits : (bt_at p b.bt r u ≡ none → ⊥) → (g : ℕ) → g < frames p → (bt_at p b.bt r u * frames p + g) * frame_bytes p + frame_bytes p ≤ length b.chip
    unfolding block_bytes
    frame_fits ne g h = omega (arith, t.chip_length, next (frame_bytes p) g (frames p) h, next (frames p * frame_bytes p) (bt_at p b.bt r u) p.N (block_low_lem ne))

  entry : (vw.seg_of c ≡ none) ⊎ Entry p vw c
  entry = t.base.entries c t.asked.cluster

  pub lookup : Lookup p b.chip b.ct b.bt c
  lookup = lookup_of p b.chip b.ct b.bt b.fst c t.fine t.chip_length t.ct_length t.bt_length t.asked.cluster t.names entry

  -- ---- the frame that is written

  low : v < p.gamma
  low = t.base.ready.mine

  abbrev n : ℕ
  n = bt_at p b.bt r v

  to_fits : (n * frames p + f) * frame_bytes p + frame_bytes p ≤ length b.chip
  to_fits = frame_fits v low t.taken f t.base.ready.low

  to_erased : all_are 255 (part (frame_bytes p) (n * frames p + f) b.chip) ≡ true
  to_erased = rw (frame_here v low t.taken f t.base.ready.low) at (t.base.ready.rest f (omega arith) t.base.ready.low)

  to_clean : part (frame_bytes p) (n * frames p + f) b.chip ≡ replicate (frame_bytes p) 255
  to_clean = replicate_of 255 _ to_erased ∙ ap (λ (m : ℕ). replicate m 255) (part_length (frame_bytes p) (n * frames p + f) b.chip to_fits)

  -- ---- the frame that the cluster is read from

  module _ (e : Entry p vw c) where
    abbrev u : ℕ
    u = vblock_of p (vw.seg_of c)

    abbrev l : ℕ
    l = last_in p (vw.body u) (place_of p (vw.seg_of c)) c

    u_low : u < p.gamma
    u_low = (div-lt_iff_lt-mul z.segments).1 e.low

    u_some : bt_at p b.bt r u ≡ none → ⊥
    u_some = has_block u u_low e.has

    old_is : frame_for p b.chip b.ct b.bt c ≡ bt_at p b.bt r u * frames p + l
    unfolding frame_for block_for last_for
    old_is = rw (segs, body_some u u_low u_some)

    old_frame : part (frame_bytes p) (frame_for p b.chip b.ct b.bt c) b.chip ≡ frame p (vw.body u) l
    old_frame = rw old_is (sym (frame_here u u_low u_some l e.held))

    old_fits : frame_for p b.chip b.ct b.bt c * frame_bytes p + frame_bytes p ≤ length b.chip
    old_fits = rw old_is (frame_fits u u_low u_some l e.held)

    old_holds : holds p (frame p (vw.body u) l) c ≡ true
    old_holds = (last_holds p z (vw.body u) (place_of p (vw.seg_of c)) c e.held).1

    old_apart : frame_for p b.chip b.ct b.bt c ≡ n * frames p + f → ⊥
    old_apart x = never old_holds (rw old_frame at (erased_holds p _ c (rw (sym x) at to_erased)))

  -- ---- with what the lookup found

  module _ (kept : Bool) (fr : ℕ) (found : Stands p b.chip b.ct b.bt c kept fr) where
    has : kept ≡ not (eqb (ct_at b.ct c) none)
    has = found.has

    at_frame : fr ≡ cond (eqb (ct_at b.ct c) none) 0 (frame_for p b.chip b.ct b.bt c)
    at_frame = found.at

    -- the cluster has no frame, or this one
    data Which : Type 0 where
      nowhere : kept ≡ false → fr ≡ 0 → vw.seg_of c ≡ none → Which
      somewhere : kept ≡ true → fr ≡ frame_for p b.chip b.ct b.bt c → (vw.seg_of c ≡ none → ⊥) → Entry p vw c → Which

    which : Which
    which = go (ℕ_discrete (ct_at b.ct c) none) entry
      where
        go : Dec (ct_at b.ct c ≡ none) → (vw.seg_of c ≡ none) ⊎ Entry p vw c → Which
        go (yes x) s = nowhere (has ∙ rw (eq-eqb (ct_at b.ct c) none x)) (at_frame ∙ rw (eq-eqb (ct_at b.ct c) none x)) (sym segs ∙ x)
        go (no x) (inl s) = absurd (x (segs ∙ s))
        go (no x) (inr s) = somewhere (has ∙ rw (ne_eqb (ct_at b.ct c) none x)) (at_frame ∙ rw (ne_eqb (ct_at b.ct c) none x)) (λ y. x (segs ∙ y)) s

    source : fr * frame_bytes p + frame_bytes p ≤ length b.chip
    source = go which
      where
        go : Which → fr * frame_bytes p + frame_bytes p ≤ length b.chip
        go (nowhere k z s) = rw (z, zero-mul) (omega (arith, to_fits))
        go (somewhere k z ne e) = rw z (old_fits e)

    apart : kept ≡ true → fr ≡ n * frames p + f → ⊥
    apart h x = go which
      where
        go : Which → ⊥
        go (nowhere k z s) = never h k
        go (somewhere k z ne e) = old_apart e (sym z ∙ x)

    pub pages_asked : PagesAsked p b.chip b.bt b.stamps q v f kept fr
    unfolding frame_bytes page_bytes
    pages_asked =
        record {
          fine = t.fine;
          cluster = t.asked.cluster;
          bt_length = t.bt_length;
          stamps_length = t.stamps_length;
          left = t.left;
          low = low;
          block = block_low_lem v low t.taken;
          frame = t.base.ready.low;
          host =
              record {
                small = z.s_high;
                few = omega (arith, z.alpha_high);
                fits = to_fits;
                inside = t.asked.inside;
                given = t.asked.bytes;
                clean = to_clean;
                source = source;
                apart = apart;
              };
        }

    sectors_are : (j : ℕ) → sectors_of p.s p.alpha kept fr b.chip j ≡ sector_in p vw c j
    unfolding sectors_of sector_in frame_of page frame_bytes page_bytes
    sectors_are j = go which
      where
        go : Which → cond kept (take p.s (part (p.s + 16) j (part (p.alpha * (p.s + 16)) fr b.chip))) (replicate p.s 255) ≡ sector_in p vw c j
        go (nowhere k z s) = rw (k, s)
        go (somewhere k z ne e) = rw (k, z, ne_eqb (vw.seg_of c) none ne, old_frame e)

    frame_is : (s u : ℕ) → host_frame p.s p.alpha (sector_of p q.lba) q.count q.bytes (sectors_of p.s p.alpha kept fr b.chip) c s u ≡ new_frame p vw q s u
    unfolding host_frame host_page new_frame new_page new_sector
    frame_is s u = join_cong p.alpha _ _ (λ j l. rw (sectors_are j))

    -- the pages that are put are the new frame's
    module _ (m : ℕ) (chip₁ stamps₁ : List ℕ) (put : PagesPut p b.chip b.bt b.stamps q v f kept fr m chip₁ stamps₁) where
      pub pages_are : chip₁ ≡ replay_chip p b.chip (frame_ops p n f (new_frame p vw q (next_stamp b r) v) m)
      unfolding next_stamp
      pages_are = put.chip_is ∙ ap (λ (x : List ℕ). replay_chip p b.chip (frame_ops p n f x m)) (frame_is (next_stamp b r) v)

  -- ---- the same over the numbers that the code has

  pub frame_few : f < 256
  frame_few = omega (arith, t.base.ready.low, z.short)

  pub segment_few : (sg : ℕ) → sg ≡ segment_of p v f → sg < 65536
  segment_few sg e = rw e (omega (arith, seg-low-of p z v f t.base.ready.low low, z.few))

  module _ (c' : ℕ) (ec : c' ≡ c) where
    pub ct_in : c' < length b.ct
    ct_in = rw (ec, t.ct_length) t.asked.cluster

    module _ (r' : ℕ) (er : r' ≡ region_of p c') where
      region_is_lem : r' ≡ r
      region_is_lem = er ∙ ap (region_of p) ec

      pub fst_in : r' < length b.fst
      fst_in = rw (region_is_lem, t.fst_length) region_in

      pub cluster_put : (kept : Bool) (fr : ℕ) → Stands p b.chip b.ct b.bt c kept fr → (chip₁ ct₁ fst₁ stamps₁ : List ℕ) (sg : ℕ)
          → PagesPut p b.chip b.bt b.stamps q v f kept fr p.alpha chip₁ stamps₁ → sg ≡ segment_of p v f → ct₁ ≡ set b.ct c' sg → fst₁ ≡ set b.fst r' sg
          → ClusterPut p b q v f chip₁ ct₁ fst₁ stamps₁
      cluster_put kept fr found chip₁ ct₁ fst₁ stamps₁ sg put s x y =
          record {
            chip = pages_are kept fr found p.alpha chip₁ stamps₁ put;
            ct = x ∙ rw (ec, s);
            fst = y ∙ rw (region_is_lem, s);
            stamps = unfold next_stamp in put.stamps_are;
          }
