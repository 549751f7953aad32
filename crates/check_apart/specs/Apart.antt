-- The kept blocks of a region, by a row with the number of each, and when no two whole frames of theirs have the same cluster and the same stamp.
-- Assumes nothing.
use Rattle.std.specs.Prelude.{◌≡◌, ◌⊎◌, Bool, not, true, ◌&&◌, ◌||◌, List, [], ◌∷◌, ℕ, ◌+◌, ◌/◌, ◌%◌, ◌^◌, ◌<◌, eqb, get_or, length}
use Rattle.lists.specs.Below.{all_below, all_true}
use Rattle.rules.specs.declared.Params.{Params}
use Rattle.rules.specs.Parameters.{allowed, chip_bytes, frames}
use Rattle.rules.specs.Tables.{none}
use Rattle.rules.specs.Pages.{frame, held, stamp_of, whole}
use Rattle.rules.specs.Regions.{body_at}

-- a row of 16 entries, each none or a block of the chip
pub record Asked (p : Params) (chip kept : List ℕ) : Type 0 where
  pub fine : allowed p ≡ true
  pub size : length chip ≡ chip_bytes p
  pub row : length kept ≡ 16
  pub blocks : (v : ℕ) → v < p.gamma → (get_or kept v none ≡ none) ⊎ (get_or kept v none < p.N)

-- the bytes of the block that virtual block v keeps
unfoldable pub kept_body : Params → List ℕ → List ℕ → ℕ → List ℕ
kept_body p chip kept v = body_at p chip (get_or kept v none)

-- ---- each frame against the earlier ones

-- a whole frame of cluster c with stamp t
unfoldable pub has : Params → ℕ → ℕ → List ℕ → Bool
has p c t fr = all_true (whole p fr ∷ eqb c (held p fr) ∷ eqb t (stamp_of p fr) ∷ [])

-- none of the first k frames of a block is such a frame
unfoldable pub lacks : Params → ℕ → ℕ → ℕ → List ℕ → Bool
lacks p c t k body = all_below k (λ f. not (has p c t (frame p body f)))

-- none of those of the first v virtual blocks
unfoldable pub lack_before : Params → List ℕ → List ℕ → ℕ → ℕ → ℕ → Bool
lack_before p chip kept c t v = all_below v (λ u. lacks p c t (frames p) (kept_body p chip kept u))

-- frame f of virtual block v, if it is whole, differs from each that comes before it
unfoldable pub frame_apart : Params → List ℕ → List ℕ → ℕ → ℕ → Bool
frame_apart p chip kept v f =
    let body = kept_body p chip kept v in
    let fr = frame p body f in
    not (whole p fr) || (lacks p (held p fr) (stamp_of p fr) f body && lack_before p chip kept (held p fr) (stamp_of p fr) v)

unfoldable pub block_apart : Params → List ℕ → List ℕ → ℕ → Bool
block_apart p chip kept v = all_below (frames p) (frame_apart p chip kept v)

unfoldable pub kept_apart : Params → List ℕ → List ℕ → Bool
kept_apart p chip kept = all_below p.gamma (block_apart p chip kept)

-- ---- the stamps that were seen, one bit for each stamp mod 16,384

unfoldable pub bit_of : ℕ → ℕ → Bool
bit_of word i = eqb (word / 2 ^ i % 2) 1

unfoldable pub is_seen : List ℕ → ℕ → Bool
is_seen seen t = bit_of (get_or seen (t / 64 % 256) 0) (t % 64)

-- what seeing a stamp changes: its bit is set, and none is cleared
pub record Sees (seen : List ℕ) (t : ℕ) (was : Bool) (seen' : List ℕ) : Type 0 where
  pub was_is : was ≡ is_seen seen t
  pub set : is_seen seen' t ≡ true
  pub stays : (u : ℕ) → is_seen seen u ≡ true → is_seen seen' u ≡ true
  pub size : length seen' ≡ length seen

-- the stamps of all whole frames before frame f of virtual block v
pub record Seen (p : Params) (chip kept : List ℕ) (v f : ℕ) (seen : List ℕ) : Type 0 where
  pub size : length seen ≡ 256
  pub before : (u g : ℕ) → u < v → g < frames p → whole p (frame p (kept_body p chip kept u) g) ≡ true → is_seen seen (stamp_of p (frame p (kept_body p chip kept u) g)) ≡ true
  pub own : (g : ℕ) → g < f → whole p (frame p (kept_body p chip kept v) g) ≡ true → is_seen seen (stamp_of p (frame p (kept_body p chip kept v) g)) ≡ true

-- after one frame, and after the frames of one block
pub record FrameDone (p : Params) (chip kept : List ℕ) (v f : ℕ) (ok : Bool) (seen' : List ℕ) : Type 0 where
  pub said : ok ≡ frame_apart p chip kept v f
  pub seen : ok ≡ true → Seen p chip kept v (f + 1) seen'

pub record BlockDone (p : Params) (chip kept : List ℕ) (v : ℕ) (ok : Bool) (seen' : List ℕ) : Type 0 where
  pub said : ok ≡ block_apart p chip kept v
  pub seen : ok ≡ true → Seen p chip kept (v + 1) 0 seen'
