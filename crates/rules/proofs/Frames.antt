-- Frames: what a programmed frame and an erased one read as; the arithmetic of segments.
-- Assumes nothing.
use mathlib.Core.Path.{◌≡◌, sym, ap, ◌∙◌}
use Prim.Native.Nat.{ℕ, ◌+◌, ◌-◌, ◌*◌, ◌/◌, ◌%◌, ◌<◌}
use native.Mathlib.Nat.{mul-add-div_right, div-eq_of_lt, div-lt_iff_lt-mul, mul-add-mod_self_right, mod-eq_of_lt, add-zero, div-div-eq-div-mul, div-add-mod', mod-lt}
use native.Mathlib.Omega.{arith}
use mathlib.Core.Bool.{true, false}
use mathlib.Core.List.{List}
use lib.ListN.{drop}
use Rattle.lists.specs.Parts.{all_are}
use Rattle.lists.proofs.Joins.{all_are_at, all_are_drop, all_are_part}
use Rattle.lists.proofs.Parts.{next}
use Rattle.rules.specs.declared.Params.{Params}
use Rattle.rules.specs.Parameters.{frames, page_bytes}
use Rattle.rules.specs.Numbers.{place_of, segment_of, vblock_of}
use Rattle.rules.specs.Pages.{bytes32, held, holds, le32, page, page_used, programmed, spare, spare_bytes, whole}
use Rattle.rules.proofs.Sizes.{Sizes}

-- ---- segments

module _ (p : Params) (z : Sizes p) (v f : ℕ) (low : f < frames p) where
  place_low : f / p.beta < p.d
  unfolding frames
  place_low = (div-lt_iff_lt-mul z.per_segment).1 (omega arith)

  pub seg_vblock : vblock_of p (segment_of p v f) ≡ v
  seg_vblock = rw (mul-add-div_right z.segments, div-eq_of_lt place_low) (add-zero v)

  pub seg_place : place_of p (segment_of p v f) ≡ f / p.beta
  seg_place = rw mul-add-mod_self_right (mod-eq_of_lt place_low)

  pub seg_low : v < p.gamma → segment_of p v f < p.gamma * p.d
  seg_low h = omega (arith, next p.d v p.gamma h, place_low)

-- ---- a programmed frame and an erased one

digits : (c a b e i j k : ℕ) → a * 256 + i ≡ c → b * 256 + j ≡ a → e * 256 + k ≡ b → c < 4294967296 → (e < 256) × (i + 256 * j + 65536 * k + 16777216 * e ≡ c)
digits c a b e i j k p q r h = omega arith

pub le_bytes : (c : ℕ) → c < 4294967296 → c % 256 + 256 * (c / 256 % 256) + 65536 * (c / 65536 % 256) + 16777216 * (c / 16777216 % 256) ≡ c
le_bytes c h =
    let e₁ : c / 65536 ≡ c / 256 / 256 = sym (div-div-eq-div-mul c 256 256) in
    let e₂ : c / 16777216 ≡ c / 256 / 256 / 256 = sym (div-div-eq-div-mul c 65536 256) ∙ ap (λ (m : ℕ). m / 256) e₁ in
    let r = digits c (c / 256) (c / 256 / 256) (c / 256 / 256 / 256) (c % 256) (c / 256 % 256) (c / 256 / 256 % 256)
    (div-add-mod' c 256) (div-add-mod' (c / 256) 256) (div-add-mod' (c / 256 / 256) 256) h in
    rw (e₁, e₂, mod-eq_of_lt r.0) r.1

-- four bytes make a number of 32 bits
pub le_small : (t : ℕ) → le32 (bytes32 t) < 4294967296
unfolding bytes32 le32
le_small t =
    let a : t % 256 < 256 = mod-lt t (omega arith) in
    let b : t / 256 % 256 < 256 = mod-lt (t / 256) (omega arith) in
    let c : t / 65536 % 256 < 256 = mod-lt (t / 65536) (omega arith) in
    let d : t / 16777216 % 256 < 256 = mod-lt (t / 16777216) (omega arith) in
    omega (arith, a, b, c, d)

-- a page with the spare bytes of cluster c, stamp t and virtual block v
module _ (p : Params) (x : List ℕ) (j c t v : ℕ) (marked : spare p x j ≡ spare_bytes c j t v) where
  pub right_used : page_used p x j ≡ true
  unfolding page_used spare_bytes bytes32
  right_used = rw marked

  pub right_cluster : c < 4294967296 → le32 (spare p x j) ≡ c
  unfolding spare_bytes bytes32 le32
  right_cluster h = rw marked (le_bytes c h)

  pub right_stamp_is : le32 (drop 7 (spare p x j)) ≡ le32 (bytes32 t)
  unfolding spare_bytes bytes32 le32
  right_stamp_is = rw marked

  pub right_stamp : t < 4294967296 → le32 (drop 7 (spare p x j)) ≡ t
  unfolding bytes32 le32
  right_stamp h = right_stamp_is ∙ le_bytes t h

module _ (p : Params) (x : List ℕ) (c t v : ℕ) (marked : spare p x 0 ≡ spare_bytes c 0 t v) where
  pub right_programmed : programmed p x ≡ true
  unfolding programmed
  right_programmed = right_used p x 0 c t v marked

  pub right_held : c < 4294967296 → held p x ≡ c
  unfolding held
  right_held h = right_cluster p x 0 c t v marked h

-- an erased page is not programmed
pub page_not : (p : Params) (fr : List ℕ) (j : ℕ) → all_are 255 (page p fr j) ≡ true → page_used p fr j ≡ false
unfolding page_used spare
page_not p fr j h = rw (all_are_at 255 (drop p.s (page p fr j)) 6 (all_are_drop 255 p.s _ h))

pub erased_page : (p : Params) (fr : List ℕ) (j : ℕ) → all_are 255 fr ≡ true → page_used p fr j ≡ false
erased_page p fr j h = page_not p fr j (unfold page in all_are_part 255 (page_bytes p) j fr h)

-- an erased frame is not programmed, and holds nothing
pub erased_not : (p : Params) (fr : List ℕ) → all_are 255 fr ≡ true → programmed p fr ≡ false
unfolding programmed
erased_not p fr h = erased_page p fr 0 h

pub erased_whole : (p : Params) (fr : List ℕ) → all_are 255 fr ≡ true → whole p fr ≡ false
unfolding whole
erased_whole p fr h = erased_page p fr (p.alpha - 1) h

pub erased_holds : (p : Params) (fr : List ℕ) (c : ℕ) → all_are 255 fr ≡ true → holds p fr c ≡ false
unfolding holds
erased_holds p fr c h = rw (erased_whole p fr h)
