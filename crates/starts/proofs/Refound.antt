-- Where the stamps of a region's whole frames tell the latest, a start finds for a live cluster the CT entry that it had, and for another its latest frame; and the view that it leaves has such
-- stamps again. By the frame of largest stamp, which is the last of its cluster in its segment.
-- Assumes nothing.
use mathlib.Core.Path.{◌≡◌, refl, sym, ap, ap₂, ◌∙◌}
use mathlib.Core.Logic.{◌⊎◌, inl, inr}
use Prim.Native.Nat.{ℕ, ◌+◌, ◌*◌, ◌/◌, ◌%◌, ◌≤◌, ◌<◌}
use native.Mathlib.Nat.{div-add-mod', div-lt_iff_lt-mul, mod-lt}
use native.Mathlib.Omega.{arith}
use mathlib.Core.Bool.{true, false, not, ◌&&◌}
use mathlib.Core.List.{List, [], ◌∷◌}
use lib.Dec.{eqb}
use borrow.Author.Tests.{eq-eqb, eqb-true}
use Rattle.lists.specs.Below.{all_true}
use Rattle.lists.proofs.Parts.{rejoin}
use Rattle.lists.proofs.Tests.{all_below_intro, and_intro, last_is, so, truths}
use Rattle.rules.specs.declared.Params.{Params}
use Rattle.rules.specs.Parameters.{frames}
use Rattle.rules.specs.Numbers.{place_of, segment_of, vblock_of}
use Rattle.rules.specs.Tables.{none, not_found}
use Rattle.rules.specs.Pages.{frame, held, holds, last_in, stamp_of, whole}
use Rattle.rules.specs.Regions.{View, frame_in, frame_of, region_frames, stamp_in}
use Rattle.rules.specs.Start.{found_segment, same_stamp, stamps_apart}
use Rattle.rules.proofs.FramePut.{last_holds}
use Rattle.rules.proofs.Frames.{seg_place, seg_vblock}
use Rattle.rules.proofs.RegionFacts.{Entry}
use Rattle.rules.proofs.Sizes.{Sizes}
use Rattle.starts.specs.Timely.{Timely, WholeAt, frame_stamp}
use Rattle.starts.proofs.Found.{found_frame}

-- ---- what a start finds

module _ (p : Params) (z : Sizes p) (vw : View) where
  -- the valid frame of a live cluster
  module _ (c : ℕ) (e : Entry p vw c) where
    v₀ : ℕ
    v₀ = vblock_of p (vw.seg_of c)

    f₀ : ℕ
    f₀ = last_in p (vw.body (vblock_of p (vw.seg_of c))) (place_of p (vw.seg_of c)) c

    live : WholeAt p vw c v₀ f₀
    unfolding v₀ f₀
    live =
        record {
          block = (div-lt_iff_lt-mul z.segments).1 e.low;
          low = e.held;
          whole = (last_holds p z (vw.body (vblock_of p (vw.seg_of c))) (place_of p (vw.seg_of c)) c e.held).1;
        }

    live_frame : frame_of p vw c ≡ frame p (vw.body v₀) f₀
    unfolding frame_of v₀ f₀
    live_frame = refl

    live_segment : vw.seg_of c ≡ segment_of p v₀ f₀
    unfolding v₀ f₀
    live_segment =
        sym (div-add-mod' (vw.seg_of c) p.d)
        ∙ ap (λ (y : ℕ). vblock_of p (vw.seg_of c) * p.d + y) (sym (last_holds p z (vw.body (vblock_of p (vw.seg_of c))) (place_of p (vw.seg_of c)) c e.held).0)

  -- a live cluster is found where its CT entry is
  pub found_live : Timely p vw → (c : ℕ) → Entry p vw c → found_segment p vw c ≡ vw.seg_of c
  found_live t c e = go (found_frame p z vw c)
    where
      go : ((found_segment p vw c ≡ none) × ((v f : ℕ) → WholeAt p vw c v f → ⊥))
          ⊎ ((v : ℕ) × (f : ℕ) × WholeAt p vw c v f × (found_segment p vw c ≡ segment_of p v f) × ((u g : ℕ) → WholeAt p vw c u g → frame_stamp p vw u g ≤ frame_stamp p vw v f))
          → found_segment p vw c ≡ vw.seg_of c
      go (inl w) = absurd (w.1 (v₀ c e) (f₀ c e) (live c e))
      go (inr (v, f, a, s, most)) =
          let x = most (v₀ c e) (f₀ c e) (live c e) in
          let y = t.newest c v f (λ n. omega (arith, e.low, n, z.few)) a in
          let k : stamp_of p (frame_of p vw c) ≡ frame_stamp p vw (v₀ c e) (f₀ c e) = ap (stamp_of p) (live_frame c e) in
          let one = t.apart c v f (v₀ c e) (f₀ c e) a (live c e) (omega (arith, x, y, k)) in
          s ∙ ap₂ (segment_of p) one.0 one.1 ∙ sym (live_segment c e)

  -- and what is found is read: the last frame of the cluster in that segment is the one of largest stamp
  pub found_read : Timely p vw → (c v f : ℕ) → WholeAt p vw c v f → ((u g : ℕ) → WholeAt p vw c u g → frame_stamp p vw u g ≤ frame_stamp p vw v f)
      → last_in p (vw.body v) (f / p.beta) c ≡ f
  unfolding last_in
  found_read t c v f a most =
      last_is not_found (frames p) (λ g. eqb (g / p.beta) (f / p.beta) && holds p (frame p (vw.body v) g) c) f a.low (and_intro (eq-eqb (f / p.beta) (f / p.beta) refl) a.whole)
      (λ g l h. go g l h (so (eqb (g / p.beta) (f / p.beta))) (so (holds p (frame p (vw.body v) g) c)))
    where
      go : (g : ℕ) → f < g → g < frames p → (eqb (g / p.beta) (f / p.beta) ≡ true) ⊎ (eqb (g / p.beta) (f / p.beta) ≡ false)
          → (holds p (frame p (vw.body v) g) c ≡ true) ⊎ (holds p (frame p (vw.body v) g) c ≡ false) → eqb (g / p.beta) (f / p.beta) && holds p (frame p (vw.body v) g) c ≡ false
      go g l h (inr x) s = rw x
      go g l h (inl x) (inr y) = rw (x, y)
      go g l h (inl x) (inl y) =
          let b : WholeAt p vw c v g = record { block = a.block; low = h; whole = y } in
          let up = t.rises c v f g a b (sym (eqb-true _ _ x)) l in
          let down = most v g b in
          absurd (omega (arith, up, down))

-- ---- the view that a start leaves

-- the same bytes, and CT entries as found: the invariants hold again, and a cluster reads as its frame of largest stamp
module _ (p : Params) (z : Sizes p) (vw vw' : View) (bodies : (v : ℕ) → vw'.body v ≡ vw.body v) (t : Timely p vw) where
  same_frame_at : (v f : ℕ) → frame p (vw'.body v) f ≡ frame p (vw.body v) f
  same_frame_at v f = ap (λ (y : List ℕ). frame p y f) (bodies v)

  same_whole : (c v f : ℕ) → WholeAt p vw' c v f → WholeAt p vw c v f
  same_whole c v f a = record { block = a.block; low = a.low; whole = rw (same_frame_at v f) at a.whole }

  same_stamp_lem : (v f : ℕ) → frame_stamp p vw' v f ≡ frame_stamp p vw v f
  same_stamp_lem v f = ap (stamp_of p) (same_frame_at v f)

  -- the frame that is read
  pub refound_frame : (c v f : ℕ) → WholeAt p vw c v f → ((u g : ℕ) → WholeAt p vw c u g → frame_stamp p vw u g ≤ frame_stamp p vw v f) → vw'.seg_of c ≡ segment_of p v f
      → frame_of p vw' c ≡ frame p (vw.body v) f
  unfolding frame_of
  refound_frame c v f a most e = rw (e, seg_vblock p z v f a.low, seg_place p z v f a.low, bodies v, found_read p z vw t c v f a most)

  pub refound_timely : ((c : ℕ) → (vw'.seg_of c ≡ none) ⊎ (vw'.seg_of c ≡ found_segment p vw c)) → Timely p vw'
  refound_timely segs =
      record {
        apart = λ c v f u g a b e. t.apart c v f u g (same_whole c v f a) (same_whole c u g b) (sym (same_stamp_lem v f) ∙ e ∙ same_stamp_lem u g);
        rises = λ c v f g a b s l. rw (same_stamp_lem v f, same_stamp_lem v g) (t.rises c v f g (same_whole c v f a) (same_whole c v g b) s l);
        newest = λ c u g some a. newest c u g some (same_whole c u g a) (segs c) (found_frame p z vw c);
      }
    where
      newest : (c u g : ℕ) → (vw'.seg_of c ≡ none → ⊥) → WholeAt p vw c u g → (vw'.seg_of c ≡ none) ⊎ (vw'.seg_of c ≡ found_segment p vw c)
          → ((found_segment p vw c ≡ none) × ((v f : ℕ) → WholeAt p vw c v f → ⊥))
          ⊎ ((v : ℕ) × (f : ℕ) × WholeAt p vw c v f × (found_segment p vw c ≡ segment_of p v f) × ((u g : ℕ) → WholeAt p vw c u g → frame_stamp p vw u g ≤ frame_stamp p vw v f))
          → frame_stamp p vw' u g ≤ stamp_of p (frame_of p vw' c)
      newest c u g some a (inl e) w = absurd (some e)
      newest c u g some a (inr e) (inl w) = absurd (w.1 u g a)
      newest c u g some a (inr e) (inr (v, f, b, s, most)) = rw (same_stamp_lem u g, refound_frame c v f b most (e ∙ s)) (most u g a)

-- ---- whole frames of a cluster differ in stamp

-- where whole frames hold what their first page says
pub timely_apart : (p : Params) (z : Sizes p) (vw : View) → Timely p vw
    → ((u g : ℕ) → u < p.gamma → g < frames p → whole p (frame p (vw.body u) g) ≡ true → holds p (frame p (vw.body u) g) (held p (frame p (vw.body u) g)) ≡ true)
    → stamps_apart p vw ≡ true
unfolding stamps_apart
timely_apart p z vw t good = all_below_intro (region_frames p) _ (λ i hi. all_below_intro i _ (λ j hj. differ i j hi hj (so (same_stamp p vw i j))))
  where
    differ : (i j : ℕ) → i < region_frames p → j < i → (same_stamp p vw i j ≡ true) ⊎ (same_stamp p vw i j ≡ false) → not (same_stamp p vw i j) ≡ true
    differ i j hi hj (inr e) = rw e
    differ i j hi hj (inl e) = absurd (omega (arith, hj, rejoin (frames p) i j one.0 one.1))
      where
        at : (m : ℕ) → m < region_frames p → whole p (frame_in p vw m) ≡ true → WholeAt p vw (held p (frame_in p vw m)) (m / frames p) (m % frames p)
        at m h w =
            let hu : m / frames p < p.gamma = (div-lt_iff_lt-mul z.some).1 (unfold region_frames in h) in
            let hg : m % frames p < frames p = mod-lt m z.some in
            record { block = hu; low = hg; whole = unfold frame_in in good (m / frames p) (m % frames p) hu hg (unfold frame_in in w) }

        all : all_true (whole p (frame_in p vw i) ∷ whole p (frame_in p vw j) ∷ eqb (held p (frame_in p vw i)) (held p (frame_in p vw j)) ∷ eqb (stamp_in p vw i) (stamp_in p vw j) ∷ []) ≡ true
        all = unfold same_stamp in e

        one : (i / frames p ≡ j / frames p) × (i % frames p ≡ j % frames p)
        one =
            let w = truths _ all in
            let h : held p (frame_in p vw i) ≡ held p (frame_in p vw j) = eqb-true _ _ w.1.1.0 in
            let s : frame_stamp p vw (i / frames p) (i % frames p) ≡ frame_stamp p vw (j / frames p) (j % frames p) = unfold stamp_in frame_in in eqb-true _ _ w.1.1.1.0 in
            t.apart (held p (frame_in p vw i)) (i / frames p) (i % frames p) (j / frames p) (j % frames p) (at i hi w.0) (rw (← h) at (at j (omega arith) w.1.0)) s
