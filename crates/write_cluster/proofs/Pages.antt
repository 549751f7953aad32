-- The pages of a new cluster, over the numbers that the code has.
-- Assumes nothing.
use mathlib.Core.Path.{◌≡◌, refl, ap, ◌∙◌}
use mathlib.Core.Bool.{Bool}
use mathlib.Core.List.{List}
use Prim.Native.Nat.{ℕ, ◌+◌, ◌*◌, ◌<◌}
use native.Mathlib.Omega.{arith}
use native.Mathlib.Nat.{mod-lt}
use lib.ListN.{length, set}
use Rattle.rules.specs.declared.Params.{Params}
use Rattle.rules.specs.Parameters.{frames, page_bytes}
use Rattle.rules.specs.Numbers.{region_of, sector_of}
use Rattle.rules.specs.Tables.{bt_at, stamp_at}
use Rattle.rules.specs.Requests.{Request, request_cluster, request_region}
use Rattle.rules.proofs.Sizes.{Sizes, sizes}
use Rattle.chip_frames.specs.Frame.{HostAsked, first_pages, host_frame, sectors_of}
use Rattle.chip_frames.proofs.Replay.{pages_put}
use Rattle.write_cluster.specs.Clusters.{PagesAsked, PagesPut}

module _ (p : Params) (chip bt stamps : List ℕ) (q : Request) (v f : ℕ) (kept : Bool) (fr : ℕ) (a : PagesAsked p chip bt stamps q v f kept fr)
    (c r : ℕ) (ec : c ≡ request_cluster p q) (er : r ≡ region_of p c) where
  z : Sizes p
  z = sizes p a.fine

  region_is_lem : r ≡ request_region p q
  region_is_lem = er ∙ ap (region_of p) ec

  pub region_at_lem : r < p.mu
  region_at_lem = rw region_is_lem (mod-lt (request_cluster p q) z.regions)

  pub stamps_in : r < length stamps
  stamps_in = rw a.stamps_length region_at_lem

  pub stamp_left : stamp_at stamps r < 4294967295
  stamp_left = rw region_is_lem a.left

  pub vblock_few : v < 256
  vblock_few = omega (arith, a.low, z.gamma_high)

  module _ (n : ℕ) (en : n ≡ bt_at p bt r v) where
    block_is : n ≡ bt_at p bt (request_region p q) v
    block_is = en ∙ rw region_is_lem

    pub number_asked : (n < p.N) × (f < frames p)
    number_asked = (rw block_is a.block, a.frame)

    module _ (to off : ℕ) (et : to ≡ n * frames p + f) (eo : off ≡ sector_of p q.lba) where
      pub host_asked : HostAsked chip p.s p.alpha to kept fr off q.count q.bytes
      host_asked = rw (et, block_is, eo) a.host

      pub put_is : (m t : ℕ) (chip₁ stamps₁ : List ℕ)
          → chip₁ ≡ first_pages (p.s + 16) p.alpha to (host_frame p.s p.alpha off q.count q.bytes (sectors_of p.s p.alpha kept fr chip) c t v) chip m
          → t ≡ stamp_at stamps r + 1 → stamps₁ ≡ set stamps r (stamp_at stamps r + 1) → PagesPut p chip bt stamps q v f kept fr m chip₁ stamps₁
      put_is m t chip₁ stamps₁ x y w =
          record {
            chip_is = x ∙ rw (et, eo, ec, y, block_is, region_is_lem, pages_put) (unfold page_bytes in refl);
            stamps_are = w ∙ rw region_is_lem;
          }
