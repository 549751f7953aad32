-- One sector of a frame, and what one turn adds to the sectors read so far.
-- Assumes nothing.
use mathlib.Core.Path.{◌≡◌, refl, ◌∙◌}
use mathlib.Core.Bool.{Bool, true, false}
use mathlib.Core.List.{List, ◌++◌, append-nil}
use Prim.Native.Nat.{ℕ, ◌+◌, ◌*◌, ◌-◌, ◌≤◌, ◌<◌}
use native.Mathlib.Numerals.{add-one}
use native.Mathlib.Nat.{suc-mul, zero-mul}
use native.Mathlib.Omega.{arith}
use lib.ListN.{length, take, drop, replicate, length-take, length-replicate, drop_of_length-le}
use lib.Seq.{take-take, take_at, drop_at, drop-drop}
use Rattle.lists.specs.Below.{join_below}
use Rattle.lists.specs.Parts.{part, put_part}
use Rattle.lists.proofs.Parts.{next, part_length, put_length}
use Rattle.lists.proofs.Joins.{join_length}
use Rattle.rules.specs.declared.Params.{Params}
use Rattle.rules.specs.Parameters.{page_bytes, frame_bytes}
use Rattle.loops.proofs.Lent.{width}
use Rattle.read_work.specs.Sectors.{sector_from, Source, PlaceAsked, RunAsked}

-- ---- one sector

module _ (p : Params) (chip : List ℕ) (kept : Bool) (frame j : ℕ) (a : Source p chip kept frame) (low : j < p.alpha) where
  -- page j of the frame lies on the chip
  page_in : kept ≡ true → (frame * p.alpha + j) * page_bytes p + page_bytes p ≤ length chip
  unfolding frame_bytes
  page_in e = omega (arith, a.fits e, next (page_bytes p) j p.alpha low)

  -- over the page's width that the code has
  module _ (e : kept ≡ true) (w : ℕ) (is : w ≡ page_bytes p) where
    pub page_end : (frame * p.alpha + j) * w + w ≤ length chip
    page_end = rw is (page_in e)

    pub page_wide : w ≡ p.s + 16
    unfolding page_bytes
    page_wide = is

    pub number_low : frame * p.alpha + j ≤ length chip
    number_low = below (frame * p.alpha + j) w (length chip) (omega (arith, page_wide)) page_end
      where
        below : (q w n : ℕ) → 0 < w → q * w + w ≤ n → q ≤ n
        below q w n h k = omega (arith, next q 0 w h)

    pub sector_is : take ((frame * p.alpha + j) * w + p.s - (frame * p.alpha + j) * w) (drop ((frame * p.alpha + j) * w) chip) ≡ sector_from p chip kept frame j
    unfolding sector_from part
    sector_is = rw (width, e, is, take-take p.s (page_bytes p) (drop ((frame * p.alpha + j) * page_bytes p) chip) (omega (arith, is, page_wide)))

  pub sector_length : length (sector_from p chip kept frame j) ≡ p.s
  unfolding sector_from
  sector_length = go kept refl
    where
      go : (t : Bool) → kept ≡ t → length (sector_from p chip t frame j) ≡ p.s
      go true e = simp (length-take, part_length (page_bytes p) (frame * p.alpha + j) chip (page_in e)) (unfold page_bytes in omega arith)
      go false e = length-replicate {A = ℕ} p.s 255

pub blank_is : (p : Params) (chip : List ℕ) (kept : Bool) (frame j n : ℕ) → kept ≡ false → n ≡ p.s → replicate n 255 ≡ sector_from p chip kept frame j
unfolding sector_from
blank_is p chip kept frame j n e h = rw (e, h)

-- ---- the sectors one after the other

module _ (p : Params) (chip : List ℕ) (kept : Bool) (frame j count : ℕ) (bytes : List ℕ) (a : RunAsked p chip kept frame j count bytes) where
  abbrev sectors : ℕ → List ℕ
  sectors i = sector_from p chip kept frame (j + i)

  each : (k i : ℕ) → k ≤ count → i < k → length (sectors i) ≡ p.s
  each k i h l = sector_length p chip kept frame (j + i) a.source (omega (arith, a.inside))

  joined : (i : ℕ) → i ≤ count → length (join_below i sectors) ≡ i * p.s
  joined i h = join_length p.s i sectors (λ k l. each i k h l)

  pub start : bytes ≡ join_below 0 sectors ++ drop (0 * p.s) bytes
  unfolding join_below
  start = rw (zero-mul p.s)

  module _ (i : ℕ) (low : i < count) where
    ends : i * p.s + p.s ≤ length bytes
    ends = rw a.size (next p.s i count low)

    pub asked : (now : List ℕ) → length now ≡ length bytes → PlaceAsked p chip kept frame j i now
    asked now e = record { source = a.source; low = omega (arith, a.inside); fits = rw e ends }

    pub turn : (now : List ℕ) → now ≡ join_below i sectors ++ drop (i * p.s) bytes → put_part p.s i (sectors i) now ≡ join_below (i + 1) sectors ++ drop ((i + 1) * p.s) bytes
    unfolding put_part join_below
    turn now e =
        let l = joined i (omega arith) in
        let s = p.s in
        rw (
          e,
          take_at (join_below i sectors) (drop (i * s) bytes) (i * s) l,
          ← drop-drop s (i * s) (join_below i sectors ++ drop (i * s) bytes),
          drop_at (join_below i sectors)
              (drop (i * s) bytes) (i * s) l,
          drop-drop s (i * s) bytes,
          add-one i,
          suc-mul i s,
        )

    pub turn_length : (now : List ℕ) → length now ≡ length bytes → length (put_part p.s i (sectors i) now) ≡ length bytes
    turn_length now e = put_length p.s i (sectors i) now (rw e ends) (each count i (omega arith) low) ∙ e

  pub done : (i : ℕ) (now : List ℕ) → i ≡ count → now ≡ join_below i sectors ++ drop (i * p.s) bytes → now ≡ join_below count sectors
  done i now e h = h ∙ rw (e, drop_of_length-le bytes {i = count * p.s} (omega (arith, a.size)), append-nil)
