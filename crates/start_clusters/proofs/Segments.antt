-- A frame's segment, by its number in the region: each block has d segments of β frames, so it is the number over β. And CT with segments in place of frames.
-- Assumes nothing.
use mathlib.Core.Path.{◌≡◌, refl, ◌∙◌}
use mathlib.Core.Bool.{true}
use mathlib.Core.List.{List}
use Prim.Native.Nat.{ℕ, ◌+◌, ◌*◌, ◌/◌, ◌%◌, ◌<◌}
use native.Mathlib.Nat.{div-add-mod', mod-lt}
use native.Mathlib.Omega.{arith}
use lib.ListN.{length, get_or, set}
use borrow.Author.Tests.{eq-eqb, ne_eqb}
use Rattle.lists.specs.Below.{list_below}
use Rattle.lists.proofs.Lists.{list_at, list_cong, list_length}
use Rattle.lists.proofs.Parts.{in_place}
use Rattle.loops.proofs.Elements.{default}
use Rattle.loops.proofs.Tables.{as_lent, made_ahead, made_all, made_more, made_to}
use Rattle.rules.specs.declared.Params.{Params}
use Rattle.rules.specs.Parameters.{allowed, frames}
use Rattle.rules.specs.Numbers.{region_of, segment_of}
use Rattle.rules.specs.Tables.{ct_at, none}
use Rattle.rules.specs.Regions.{region_frames}
use Rattle.rules.specs.Start.{found_segment, found_view}
use Rattle.rules.proofs.Sizes.{Sizes, sizes}
use Rattle.start_clusters.specs.Newest.{newest_frames, newest_in, segment_at}
use Rattle.start_clusters.proofs.Newest.{frames_end}

module _ (p : Params) (fine : allowed p ≡ true) where
  z : Sizes p
  z = sizes p fine

  quotient : (i : ℕ) → i / p.beta ≡ segment_of p (i / frames p) (i % frames p)
  unfolding frames
  quotient i =
      let whole = div-add-mod' i (p.beta * p.d) in
      let rest = div-add-mod' (i % (p.beta * p.d)) p.beta in
      let low = mod-lt (i % (p.beta * p.d)) z.per_segment in
      in_place p.beta (segment_of p (i / (p.beta * p.d)) (i % (p.beta * p.d))) i z.per_segment (omega (arith, whole, rest)) (omega (arith, whole, rest, low))

  pub segment_none : (i : ℕ) → i ≡ none → i ≡ segment_at p i
  unfolding segment_at
  segment_none i e = rw (eq-eqb i none e) e

  pub segment_some : (i : ℕ) → (i ≡ none → ⊥) → i / p.beta ≡ segment_at p i
  unfolding segment_at
  segment_some i ne = rw (ne_eqb i none ne) (quotient i)

-- every cluster's segment, once each has its newest frame
pub segments_are : (p : Params) (chip bt ct : List ℕ) → 0 < p.mu → ct ≡ newest_frames p chip bt p.mu 0
    → list_below (length ct) (λ c. segment_at p (ct_at ct c)) ≡ list_below p.C (λ c. found_segment p (found_view p chip bt (region_of p c)) c)
unfolding ct_at segment_at found_segment
segments_are p chip bt ct some e =
    let is = e ∙ frames_end p chip bt p.mu refl some in
    rw (is, list_length p.C (λ c. newest_in p (found_view p chip bt (region_of p c)) (region_frames p) c))
    (list_cong p.C _ _ (λ c h. rw (list_at p.C (λ c. newest_in p (found_view p chip bt (region_of p c)) (region_frames p) c) c none h) (unfold newest_in in refl)))

-- ---- entry by entry

module _ (p : Params) (l : List ℕ) where
  unfoldable pub segments_to : ℕ → List ℕ
  segments_to k = made_to (length l) (λ c. segment_at p (ct_at l c)) (λ c. get_or l c 0) k

  pub segments_none : l ≡ segments_to 0
  unfolding segments_to
  segments_none = as_lent (length l) (λ c. segment_at p (ct_at l c)) l refl

  pub segments_more : (ct : List ℕ) (c sg : ℕ) → c < length l → ct ≡ segments_to c → sg ≡ segment_at p (get_or ct c 0) → set ct c sg ≡ segments_to (c + 1)
  unfolding segments_to ct_at
  segments_more ct c sg h e s =
      let here : sg ≡ segment_at p (get_or l c none) = s ∙ rw (e, made_ahead (length l) (λ c. segment_at p (get_or l c none)) (λ c. get_or l c 0) c 0 h, default l c 0 none h) in
      rw (e, here) (made_more (length l) (λ c. segment_at p (get_or l c none)) (λ c. get_or l c 0) c h)

  pub segments_all : (c : ℕ) → c ≡ length l → segments_to c ≡ list_below (length l) (λ c. segment_at p (ct_at l c))
  unfolding segments_to
  segments_all c e = made_all (length l) (λ c. segment_at p (ct_at l c)) (λ c. get_or l c 0) c e
