-- The pages of a frame, programmed one after the other.
-- Assumes nothing.
use mathlib.Core.Path.{◌≡◌, refl, sym, ap, ◌∙◌}
use mathlib.Core.List.{List}
use Prim.Native.Nat.{ℕ, zero, suc, ◌+◌, ◌*◌, ◌-◌, ◌≤◌, ◌<◌}
use native.Mathlib.Numerals.{add-one}
use native.Mathlib.Omega.{arith}
use native.Mathlib.Nat.{le-mul_of_pos_right}
use lib.ListN.{length, replicate, length-replicate, replicate-append-replicate}
use lib.Seq.{take_at, drop_at}
use Rattle.chip_pages.specs.Asked.{CopyAsked}
use Rattle.chip_frames.specs.Frame.{FrameAsked, first_pages}
use Rattle.lists.specs.Parts.{part, put_part}
use Rattle.lists.proofs.Parts.{next, part_part, part_length, put_length, put_other}
use Rattle.rules.proofs.Isolation.{index_inj}

pub part_replicate : (w k m v : ℕ) → k * w + w ≤ m → part w k (replicate m v) ≡ replicate w v
unfolding part
part_replicate w k m v h =
    let e : m ≡ k * w + (w + (m - (k * w + w))) = omega arith in
    rw (
      e,
      ← replicate-append-replicate {A = ℕ} (k * w) (w + (m - (k * w + w))) v,
      drop_at (replicate (k * w) v) _ (k * w) (length-replicate {A = ℕ} (k * w) v),
      ← replicate-append-replicate {A = ℕ} w (m - (k * w + w)) v,
      take_at (replicate w v) _ w (length-replicate {A = ℕ} w v),
    )

module _ (w n to : ℕ) (x chip : List ℕ) (fits : to * (n * w) + n * w ≤ length chip) (whole : length x ≡ n * w) where
  pub page_fits : (k : ℕ) → k < n → (to * n + k) * w + w ≤ length chip
  page_fits k h = omega (arith, next w k n h)

  page_whole : (k : ℕ) → k < n → length (part w k x) ≡ w
  page_whole k h = part_length w k x (omega (arith, next w k n h))

  pub run_length : (k : ℕ) → k ≤ n → length (first_pages w n to x chip k) ≡ length chip
  unfolding first_pages
  run_length zero h = refl
  run_length (suc k) h = put_length w (to * n + k) (part w k x) (first_pages w n to x chip k) (rw (run_length k (omega arith)) (page_fits k h)) (page_whole k h) ∙ run_length k (omega arith)

  -- a page that none of them is
  pub run_else : (q : ℕ) (k : ℕ) → k ≤ n → ((j : ℕ) → j < k → q ≡ to * n + j → ⊥) → part w q (first_pages w n to x chip k) ≡ part w q chip
  unfolding first_pages
  run_else q zero h ne = refl
  run_else q (suc k) h ne =
      put_other w (to * n + k) (part w k x) (first_pages w n to x chip k) (rw (run_length k (omega arith)) (page_fits k h)) (page_whole k h) q (ne k (omega arith))
      ∙ run_else q k (omega arith) (λ j m. ne j (omega arith))

  -- the page before its program, and a page of another frame
  pub run_next : (k : ℕ) → k < n → part w (to * n + k) (first_pages w n to x chip k) ≡ part w k (part (n * w) to chip)
  run_next k h = run_else (to * n + k) k (omega arith) (λ j m e. omega arith) ∙ sym (part_part w n to k chip h)

  pub run_other : (from k j : ℕ) → k ≤ n → j < n → (from ≡ to → ⊥) → part w (from * n + j) (first_pages w n to x chip k) ≡ part w j (part (n * w) from chip)
  run_other from k j h m ne =
      run_else (from * n + j) k h (λ i a e. ne (index_inj n from j to i m (omega arith) e)) ∙ sym (part_part w n from j chip m)

  -- a turn
  pub run_more : (l : List ℕ) (k : ℕ) (y : List ℕ) → l ≡ first_pages w n to x chip k → y ≡ part w k x → put_part w (to * n + k) y l ≡ first_pages w n to x chip (k + 1)
  unfolding first_pages
  run_more l k y e f = rw (add-one, e, f)

-- ---- a frame copied page by page

module _ (w n from to : ℕ) (chip : List ℕ) (f : FrameAsked chip w n from to) where
  frame_whole : length (part (n * w) from chip) ≡ n * w
  frame_whole = part_length (n * w) from chip f.source

  pub low : (a : ℕ) → a * (n * w) + n * w ≤ length chip → a * n ≤ length chip
  low a h = omega (arith, le-mul_of_pos_right (a * n) f.some)

  pub low_page : (a k : ℕ) → a * (n * w) + n * w ≤ length chip → k < n → a * n + k ≤ length chip
  low_page a k h m = omega (arith, le-mul_of_pos_right (a * n + k) f.some, next w k n m)

  abbrev pub copied : ℕ → List ℕ
  copied k = first_pages w n to (part (n * w) from chip) chip k

  pub copied_length : (k : ℕ) → k ≤ n → length (copied k) ≡ length chip
  copied_length k h = run_length w n to (part (n * w) from chip) chip f.fits frame_whole k h

  pub copy_asked : (l : List ℕ) (k : ℕ) → k < n → l ≡ copied k → CopyAsked l w (from * n + k) (to * n + k)
  copy_asked l k h e =
      let z : length l ≡ length chip = ap length e ∙ copied_length k (omega arith) in
      record {
        page =
            record {
              small = f.small;
              fits = rw z (page_fits w n to (part (n * w) from chip) chip f.fits frame_whole k h);
              clean = rw e (run_next w n to (part (n * w) from chip) chip f.fits frame_whole k h ∙ rw f.clean (part_replicate w k (n * w) 255 (next w k n h)));
            };
        source = omega (arith, z, next w k n h, f.source);
      }

  pub copy_done : (l u : List ℕ) (k : ℕ) → k < n → l ≡ copied k → u ≡ put_part w (to * n + k) (part w (from * n + k) l) l → u ≡ copied (k + 1)
  copy_done l u k h e g =
      g ∙ run_more w n to (part (n * w) from chip) chip f.fits frame_whole l k _ e
      (ap (part w (from * n + k)) e ∙ run_other w n to (part (n * w) from chip) chip f.fits frame_whole from k k (omega arith) h f.apart)
