-- A cluster's frame, page by page.
-- Assumes nothing.
use mathlib.Core.Path.{◌≡◌, refl, sym, ap, ◌∙◌}
use mathlib.Core.Bool.{Bool, true, false, ◌&&◌, cond}
use mathlib.Core.List.{List, ◌++◌}
use Prim.Native.Nat.{ℕ, ◌+◌, ◌*◌, ◌-◌, ◌%◌, ◌≤◌, ◌<◌}
use native.Mathlib.Omega.{arith}
use native.Mathlib.Nat.{mod-eq_of_lt, le-mul_of_pos_right}
use lib.Dec.{leb, ltb}
use lib.ListN.{length, take, drop, replicate, length-append, length-take, length-replicate}
use borrow.Author.Tests.{leb-true, ltb-true}
use Rattle.chip_pages.specs.Asked.{Blank, CopyAsked}
use Rattle.loops.proofs.Lent.{width}
use Rattle.chip_frames.specs.Frame.{PageAsked, HostAsked, first_pages, host_page, page_sector, host_frame, sectors_of}
use Rattle.chip_frames.proofs.Run.{run_length, run_next, run_other, run_more, page_fits, part_replicate}
use Rattle.lists.proofs.Tests.{and_left, and_right}
use Rattle.lists.specs.Parts.{part, put_part}
use Rattle.lists.proofs.Parts.{next, part_length}
use Rattle.lists.proofs.Joins.{join_length, join_part}
use Rattle.rules.specs.Pages.{spare_bytes, bytes32}

pub given_in : (off j count : ℕ) → leb off j && ltb j (off + count) ≡ true → (off ≤ j) × (j < off + count)
given_in off j count e = (leb-true _ _ (and_left (leb off j) _ e), ltb-true _ _ (and_right (leb off j) e))

pub given_fits : (s off j count : ℕ) (bytes : List ℕ) → leb off j && ltb j (off + count) ≡ true → length bytes ≡ count * s → (j - off) * s + s ≤ length bytes
given_fits s off j count bytes e z =
    let w = given_in off j count e in
    let h : j - off < count = omega (arith, w.0, w.1) in
    omega (arith, next s (j - off) count h)

pub given_length : (s i : ℕ) (bytes : List ℕ) → i * s + s ≤ length bytes → length (take (i * s + s - i * s) (drop (i * s) bytes)) ≡ s
given_length s i bytes h = rw width (unfold part in part_length s i bytes h)

module _ (chip : List ℕ) (s q : ℕ) (kept : Bool) (old j off count : ℕ) (bytes : List ℕ) (f : PageAsked chip s q kept old j off count bytes) (c t v : ℕ) where
  pub blank : Blank chip (s + 16) q
  blank = record { small = omega (arith, f.small); fits = f.fits; clean = f.clean }

  pub from_asked : CopyAsked chip (s + 16) old q
  from_asked = record { page = blank; source = f.source }

  place_is : j % 256 ≡ j
  place_is = mod-eq_of_lt f.low

  pub given_asked : leb off j && ltb j (off + count) ≡ true → Blank chip (length (take ((j - off) * s + s - (j - off) * s) (drop ((j - off) * s) bytes)) + 16) q
  given_asked e = rw (given_length s (j - off) bytes (given_fits s off j count bytes e f.given)) blank

  pub given_done : (u : List ℕ) → leb off j && ltb j (off + count) ≡ true
      → u ≡ put_part (length (take ((j - off) * s + s - (j - off) * s) (drop ((j - off) * s) bytes)) + 16) q
      (take ((j - off) * s + s - (j - off) * s) (drop ((j - off) * s) bytes) ++ spare_bytes c (j % 256) t v) chip
      → u ≡ put_part (s + 16) q (host_page s off count bytes (page_sector s kept old chip) c j t v) chip
  unfolding host_page part
  given_done u e g = g ∙ rw (given_length s (j - off) bytes (given_fits s off j count bytes e f.given), width, place_is, e)

  pub kept_done : (u : List ℕ) → leb off j && ltb j (off + count) ≡ false → kept ≡ true → u ≡ put_part (s + 16) q (take s (part (s + 16) old chip) ++ spare_bytes c (j % 256) t v) chip
      → u ≡ put_part (s + 16) q (host_page s off count bytes (page_sector s kept old chip) c j t v) chip
  unfolding host_page page_sector
  kept_done u e k g = g ∙ rw (e, k, place_is)

  pub blank_done : (u : List ℕ) → leb off j && ltb j (off + count) ≡ false → kept ≡ false → u ≡ put_part (s + 16) q (replicate s 255 ++ spare_bytes c (j % 256) t v) chip
      → u ≡ put_part (s + 16) q (host_page s off count bytes (page_sector s kept old chip) c j t v) chip
  unfolding host_page page_sector
  blank_done u e k g = g ∙ rw (e, k, place_is)

-- ---- the frame

spare_length : (c j t v : ℕ) → length (spare_bytes c j t v) ≡ 16
unfolding spare_bytes bytes32
spare_length c j t v = refl

module _ (chip : List ℕ) (s n to : ℕ) (kept : Bool) (old off count : ℕ) (bytes : List ℕ) (f : HostAsked chip s n to kept old off count bytes) (c t v : ℕ) where
  was_length : (j : ℕ) → j < n → length (sectors_of s n kept old chip j) ≡ s
  unfolding sectors_of
  was_length j h = go kept
    where
      page_length : length (part (s + 16) j (part (n * (s + 16)) old chip)) ≡ s + 16
      page_length = part_length (s + 16) j _ (rw (part_length (n * (s + 16)) old chip f.source) (next (s + 16) j n h))

      go : (k : Bool) → length (cond k (take s (part (s + 16) j (part (n * (s + 16)) old chip))) (replicate s 255)) ≡ s
      go true = simp length-take (omega (arith, page_length))
      go false = length-replicate s 255

  pub page_whole : (j : ℕ) → j < n → length (host_page s off count bytes (sectors_of s n kept old chip j) c j t v) ≡ s + 16
  unfolding host_page
  page_whole j h = go (leb off j && ltb j (off + count)) refl
    where
      go : (g : Bool) → leb off j && ltb j (off + count) ≡ g → length (cond g (part s (j - off) bytes) (sectors_of s n kept old chip j) ++ spare_bytes c j t v) ≡ s + 16
      go true e = rw (length-append, spare_length, part_length s (j - off) bytes (given_fits s off j count bytes e f.given))
      go false e = rw (length-append, spare_length, was_length j h)

  abbrev pub sheet : List ℕ
  sheet = host_frame s n off count bytes (sectors_of s n kept old chip) c t v

  pub frame_whole : length sheet ≡ n * (s + 16)
  unfolding host_frame
  frame_whole = join_length (s + 16) n _ page_whole

  page_is : (j : ℕ) → j < n → part (s + 16) j sheet ≡ host_page s off count bytes (sectors_of s n kept old chip j) c j t v
  unfolding host_frame
  page_is j h = join_part (s + 16) n _ page_whole j h

  abbrev pub written : ℕ → List ℕ
  written k = first_pages (s + 16) n to sheet chip k

  pub written_length : (k : ℕ) → k ≤ n → length (written k) ≡ length chip
  written_length k h = run_length (s + 16) n to sheet chip f.fits frame_whole k h

  pub low : (a : ℕ) → a * (n * (s + 16)) + n * (s + 16) ≤ length chip → a * n ≤ length chip
  low a h = let w : 0 < s + 16 = omega arith in omega (arith, le-mul_of_pos_right (a * n) w)

  pub low_page : (a k : ℕ) → a * (n * (s + 16)) + n * (s + 16) ≤ length chip → k < n → a * n + k ≤ length chip
  low_page a k h m = let w : 0 < s + 16 = omega arith in omega (arith, le-mul_of_pos_right (a * n + k) w, next (s + 16) k n m)

  -- page k of frame `old` is as it was
  old_page : (k : ℕ) → k < n → kept ≡ true → part (s + 16) (old * n + k) (written k) ≡ part (s + 16) k (part (n * (s + 16)) old chip)
  old_page k h e = run_other (s + 16) n to sheet chip f.fits frame_whole old k k (omega arith) h (f.apart e)

  pub page_asked : (l : List ℕ) (k : ℕ) → k < n → l ≡ written k → PageAsked l s (to * n + k) kept (old * n + k) k off count bytes
  page_asked l k h e =
      let z : length l ≡ length chip = ap length e ∙ written_length k (omega arith) in
      record {
        small = f.small;
        low = omega (arith, f.few);
        inside = omega (arith, f.few, f.inside);
        fits = rw z (page_fits (s + 16) n to sheet chip f.fits frame_whole k h);
        clean = rw e (run_next (s + 16) n to sheet chip f.fits frame_whole k h ∙ rw f.clean (part_replicate (s + 16) k (n * (s + 16)) 255 (next (s + 16) k n h)));
        given = f.given;
        source = omega (arith, z, next (s + 16) k n h, f.source);
      }

  sector_is : (l : List ℕ) (k : ℕ) → k < n → l ≡ written k → page_sector s kept (old * n + k) l ≡ sectors_of s n kept old chip k
  unfolding page_sector sectors_of
  sector_is l k h e = go kept refl
    where
      go : (t : Bool) → kept ≡ t → cond t (take s (part (s + 16) (old * n + k) l)) (replicate s 255) ≡ cond t (take s (part (s + 16) k (part (n * (s + 16)) old chip))) (replicate s 255)
      go true t = rw (e, old_page k h t)
      go false t = refl

  pub page_done : (l u : List ℕ) (k : ℕ) → k < n → l ≡ written k
      → u ≡ put_part (s + 16) (to * n + k) (host_page s off count bytes (page_sector s kept (old * n + k) l) c k t v) l → u ≡ written (k + 1)
  page_done l u k h e g =
      g ∙ run_more (s + 16) n to sheet chip f.fits frame_whole l k _ e (rw (sector_is l k h e) (sym (page_is k h)))
