-- What a frame's leaves ask and leave.
-- Assumes nothing.
use Rattle.std.specs.Prelude.{◌≡◌, Bool, true, ◌&&◌, cond, List, ◌++◌, ℕ, zero, suc, ◌+◌, ◌-◌, ◌*◌, ◌≤◌, ◌<◌, length, take, replicate, leb, ltb}
use Rattle.lists.specs.Below.{join_below}
use Rattle.lists.specs.Parts.{part, put_part}
use Rattle.rules.specs.Pages.{spare_bytes}

-- frame `to` of n pages of width w is erased, and frame `from` is another
pub record FrameAsked (chip : List ℕ) (w n from to : ℕ) : Type 0 where
  pub small : w ≤ 528
  pub some : 0 < w
  pub few : n ≤ 256
  pub fits : to * (n * w) + n * w ≤ length chip
  pub source : from * (n * w) + n * w ≤ length chip
  pub apart : from ≡ to → ⊥
  pub clean : part (n * w) to chip ≡ replicate (n * w) 255

-- the first k of the n pages of x, of width w, put at frame `to` one after the other
unfoldable pub first_pages : ℕ → ℕ → ℕ → List ℕ → List ℕ → ℕ → List ℕ
first_pages w n to x chip zero = chip
first_pages w n to x chip (suc k) = put_part w (to * n + k) (part w k x) (first_pages w n to x chip k)

-- a sector of the cluster as it was: that of page `old`, or 255 throughout
unfoldable pub page_sector : ℕ → Bool → ℕ → List ℕ → List ℕ
page_sector s kept old chip = cond kept (take s (part (s + 16) old chip)) (replicate s 255)

-- sector j of the cluster as it was: of frame `old`, or 255 throughout
unfoldable pub sectors_of : ℕ → ℕ → Bool → ℕ → List ℕ → ℕ → List ℕ
sectors_of s n kept old chip j = cond kept (take s (part (s + 16) j (part (n * (s + 16)) old chip))) (replicate s 255)

-- page j of the new cluster, with the sector `was` where none is given; and its frame
unfoldable pub host_page : ℕ → ℕ → ℕ → List ℕ → List ℕ → ℕ → ℕ → ℕ → ℕ → List ℕ
host_page s off count bytes was c j t v = cond (leb off j && ltb j (off + count)) (part s (j - off) bytes) was ++ spare_bytes c j t v

unfoldable pub host_frame : ℕ → ℕ → ℕ → ℕ → List ℕ → (ℕ → List ℕ) → ℕ → ℕ → ℕ → List ℕ
host_frame s n off count bytes was c t v = join_below n (λ j. host_page s off count bytes (was j) c j t v)

pub record PageAsked (chip : List ℕ) (s q : ℕ) (kept : Bool) (old j off count : ℕ) (bytes : List ℕ) : Type 0 where
  pub small : s ≤ 512
  pub low : j < 256
  pub inside : off + count ≤ 256
  pub fits : q * (s + 16) + (s + 16) ≤ length chip
  pub clean : part (s + 16) q chip ≡ replicate (s + 16) 255
  pub given : length bytes ≡ count * s
  pub source : old * (s + 16) + (s + 16) ≤ length chip

-- frame `to` is erased; the given sectors lie in the cluster; frame `old`, where it is kept, is another
pub record HostAsked (chip : List ℕ) (s n to : ℕ) (kept : Bool) (old off count : ℕ) (bytes : List ℕ) : Type 0 where
  pub small : s ≤ 512
  pub few : n ≤ 256
  pub fits : to * (n * (s + 16)) + n * (s + 16) ≤ length chip
  pub inside : off + count ≤ n
  pub given : length bytes ≡ count * s
  pub clean : part (n * (s + 16)) to chip ≡ replicate (n * (s + 16)) 255
  pub source : old * (n * (s + 16)) + n * (s + 16) ≤ length chip
  pub apart : kept ≡ true → old ≡ to → ⊥
