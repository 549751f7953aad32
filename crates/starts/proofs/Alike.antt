-- Two views with the same CT entries and the same whole frames: they read the same, and what the stamps say holds of both. A frame that is only begun, and an erased one, make no difference.
-- Assumes nothing.
use mathlib.Core.Path.{◌≡◌, sym, ap, ◌∙◌}
use mathlib.Core.Logic.{◌⊎◌, inl, inr}
use Prim.Native.Nat.{ℕ, ◌≤◌, ◌<◌}
use native.Mathlib.Nat.{div-lt_iff_lt-mul}
use mathlib.Core.Bool.{true, false}
use mathlib.Core.List.{List}
use Rattle.lists.proofs.Tests.{last_cong, never}
use Rattle.rules.specs.declared.Params.{Params}
use Rattle.rules.specs.Parameters.{frames}
use Rattle.rules.specs.Numbers.{place_of, vblock_of}
use Rattle.rules.specs.Tables.{none, not_found}
use Rattle.rules.specs.Pages.{frame, holds, last_in, stamp_of}
use Rattle.rules.specs.Regions.{View, frame_of, sector_in}
use Rattle.rules.proofs.FramePut.{last_holds}
use Rattle.rules.proofs.RegionFacts.{Entry}
use Rattle.rules.proofs.Sizes.{Sizes}
use Rattle.starts.specs.Timely.{Timely, WholeAt, frame_stamp}
use Rattle.starts.proofs.Timely.{whole_has}

-- the same frame, or neither holds anything
pub data Alike (p : Params) (x y : List ℕ) : Type 0 where
  equal : y ≡ x → Alike p x y
  neither : ((c : ℕ) → holds p x c ≡ false) → ((c : ℕ) → holds p y c ≡ false) → Alike p x y

module _ (p : Params) (z : Sizes p) (vw vw' : View) (segs : (c : ℕ) → vw'.seg_of c ≡ vw.seg_of c)
    (same : (u g : ℕ) → u < p.gamma → g < frames p → Alike p (frame p (vw.body u) g) (frame p (vw'.body u) g)) where
  holds_same : (u g c : ℕ) → u < p.gamma → g < frames p → holds p (frame p (vw'.body u) g) c ≡ holds p (frame p (vw.body u) g) c
  holds_same u g c h k = go (same u g h k)
    where
      go : Alike p (frame p (vw.body u) g) (frame p (vw'.body u) g) → holds p (frame p (vw'.body u) g) c ≡ holds p (frame p (vw.body u) g) c
      go (equal e) = ap (λ (y : List ℕ). holds p y c) e
      go (neither a b) = b c ∙ sym (a c)

  pub whole_back : (c u g : ℕ) → WholeAt p vw' c u g → (frame p (vw'.body u) g ≡ frame p (vw.body u) g) × WholeAt p vw c u g
  whole_back c u g a = go (same u g a.block a.low)
    where
      go : Alike p (frame p (vw.body u) g) (frame p (vw'.body u) g) → (frame p (vw'.body u) g ≡ frame p (vw.body u) g) × WholeAt p vw c u g
      go (equal e) = (e, record { block = a.block; low = a.low; whole = sym (ap (λ (y : List ℕ). holds p y c) e) ∙ a.whole })
      go (neither x y) = absurd (never a.whole (y c))

  last_same : (u k c : ℕ) → u < p.gamma → last_in p (vw'.body u) k c ≡ last_in p (vw.body u) k c
  unfolding last_in
  last_same u k c h = last_cong not_found (frames p) _ _ (λ g l. rw (holds_same u g c h l))

  module _ (c : ℕ) (e : Entry p vw c) where
    block_low_lem : vblock_of p (vw.seg_of c) < p.gamma
    block_low_lem = (div-lt_iff_lt-mul z.segments).1 e.low

    held_same : last_in p (vw'.body (vblock_of p (vw.seg_of c))) (place_of p (vw.seg_of c)) c ≡ last_in p (vw.body (vblock_of p (vw.seg_of c))) (place_of p (vw.seg_of c)) c
    held_same = last_same (vblock_of p (vw.seg_of c)) (place_of p (vw.seg_of c)) c block_low_lem

    old_holds : holds p (frame p (vw.body (vblock_of p (vw.seg_of c))) (last_in p (vw.body (vblock_of p (vw.seg_of c))) (place_of p (vw.seg_of c)) c)) c ≡ true
    old_holds = (last_holds p z (vw.body (vblock_of p (vw.seg_of c))) (place_of p (vw.seg_of c)) c e.held).1

    still : holds p (frame p (vw'.body (vblock_of p (vw.seg_of c))) (last_in p (vw.body (vblock_of p (vw.seg_of c))) (place_of p (vw.seg_of c)) c)) c ≡ true
    still = holds_same (vblock_of p (vw.seg_of c)) (last_in p (vw.body (vblock_of p (vw.seg_of c))) (place_of p (vw.seg_of c)) c) c block_low_lem e.held ∙ old_holds

    pub entry_same : Entry p vw' c
    entry_same =
        let g = ap (vblock_of p) (segs c) in
        record {
          low = rw (segs c) e.low;
          has = rw g (whole_has p vw' c (vblock_of p (vw.seg_of c)) (last_in p (vw.body (vblock_of p (vw.seg_of c))) (place_of p (vw.seg_of c)) c) (record { block = block_low_lem; low = e.held; whole = still }));
          held = rw (g, ap (place_of p) (segs c), held_same) e.held;
        }

    pub frame_same : frame_of p vw' c ≡ frame_of p vw c
    unfolding frame_of
    frame_same = rw (segs c, held_same) (go (same (vblock_of p (vw.seg_of c)) (last_in p (vw.body (vblock_of p (vw.seg_of c))) (place_of p (vw.seg_of c)) c) block_low_lem e.held))
      where
        go : Alike p (frame p (vw.body (vblock_of p (vw.seg_of c))) (last_in p (vw.body (vblock_of p (vw.seg_of c))) (place_of p (vw.seg_of c)) c))
            (frame p (vw'.body (vblock_of p (vw.seg_of c))) (last_in p (vw.body (vblock_of p (vw.seg_of c))) (place_of p (vw.seg_of c)) c))
            → frame p (vw'.body (vblock_of p (vw.seg_of c))) (last_in p (vw.body (vblock_of p (vw.seg_of c))) (place_of p (vw.seg_of c)) c)
            ≡ frame p (vw.body (vblock_of p (vw.seg_of c))) (last_in p (vw.body (vblock_of p (vw.seg_of c))) (place_of p (vw.seg_of c)) c)
        go (equal x) = x
        go (neither x y) = absurd (never old_holds (x c))

  pub alike_entries : (c : ℕ) → (vw.seg_of c ≡ none) ⊎ Entry p vw c → (vw'.seg_of c ≡ none) ⊎ Entry p vw' c
  alike_entries c (inl e) = inl (segs c ∙ e)
  alike_entries c (inr e) = inr (entry_same c e)

  pub alike_reads : (c j : ℕ) → (vw.seg_of c ≡ none) ⊎ Entry p vw c → sector_in p vw' c j ≡ sector_in p vw c j
  unfolding sector_in
  alike_reads c j (inl e) = rw (segs c, e)
  alike_reads c j (inr e) = rw (frame_same c e, segs c)

  pub alike_timely : ((c u g : ℕ) → WholeAt p vw c u g → (vw.seg_of c ≡ none) ⊎ Entry p vw c) → Timely p vw → Timely p vw'
  alike_timely entries t =
      record {
        apart = λ c v f u g a b e. t.apart c v f u g (whole_back c v f a).1 (whole_back c u g b).1 (sym (stamp c v f a) ∙ e ∙ stamp c u g b);
        rises = λ c v f g a b s l. rw (stamp c v f a, stamp c v g b) (t.rises c v f g (whole_back c v f a).1 (whole_back c v g b).1 s l);
        newest = λ c u g some a. newest c u g some a (entries c u g (whole_back c u g a).1);
      }
    where
      stamp : (c u g : ℕ) → WholeAt p vw' c u g → frame_stamp p vw' u g ≡ frame_stamp p vw u g
      stamp c u g a = ap (stamp_of p) (whole_back c u g a).0

      newest : (c u g : ℕ) → (vw'.seg_of c ≡ none → ⊥) → WholeAt p vw' c u g → (vw.seg_of c ≡ none) ⊎ Entry p vw c → frame_stamp p vw' u g ≤ stamp_of p (frame_of p vw' c)
      newest c u g some a (inl e) = absurd (some (segs c ∙ e))
      newest c u g some a (inr e) = rw (stamp c u g a, frame_same c e) (t.newest c u g (λ x. some (segs c ∙ x)) (whole_back c u g a).1)
