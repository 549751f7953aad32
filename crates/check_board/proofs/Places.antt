-- Bit j of the table is the mark of one frame of one virtual block of one region, and each of these has its bit; so the marks of all virtual blocks
-- are the bits of the table.
-- Assumes nothing.
use mathlib.Core.Path.{◌≡◌, ap, ap₂, refl, sym, ◌∙◌}
use mathlib.Core.Logic.{◌⊎◌, inl, inr}
use mathlib.Core.Bool.{◌||◌, false, not, true}
use mathlib.Core.List.{List, []}
use Prim.Native.Nat.{ℕ, ◌*◌, ◌+◌, ◌/◌, ◌%◌, ◌<◌}
use native.Mathlib.Nat.{div-add-mod', div-lt_iff_lt-mul, mod-lt}
use native.Mathlib.Omega.{arith}
use lib.Arith.{digits_div, digits_lt, digits_mod}
use borrow.Author.Tests.{not-true}
use Rattle.lists.proofs.Tests.{all_at, all_below_intro, never, or_cases, so}
use Rattle.rules.specs.declared.Params.{Params}
use Rattle.rules.specs.Regions.{valid, view_of}
use Rattle.marks.specs.Marks.{mark_in}
use Rattle.rules.specs.Tables.{mark_index, marks_length, word_at}
use Rattle.rules.specs.Marks.{marked}
use Rattle.check_marks.specs.Shown.{bit_in, marks_valid, only_in, word_only}
use Rattle.check_board.specs.Order.{bit_at}

module _ (p : Params) where
  -- the region, the virtual block and the frame of bit j
  abbrev pub region_at : ℕ → ℕ
  region_at j = j / 256 / p.gamma

  abbrev pub vblock_at : ℕ → ℕ
  vblock_at j = j / 256 % p.gamma

  abbrev pub frame_at : ℕ → ℕ
  frame_at j = j % 256

  -- the bit of frame f of virtual block v of region r
  abbrev pub bit_of : ℕ → ℕ → ℕ → ℕ
  bit_of r v f = 256 * (r * p.gamma + v) + f

  module _ (some : 0 < p.gamma) (j : ℕ) where
    pub region_in : j < 64 * marks_length p → region_at j < p.mu
    region_in h = (div-lt_iff_lt-mul some).1 (omega arith)

    pub vblock_in_lem : vblock_at j < p.gamma
    vblock_in_lem = mod-lt (j / 256) some

    pub bit_here : bit_of (region_at j) (vblock_at j) (frame_at j) ≡ j
    bit_here = omega (arith, div-add-mod' (j / 256) p.gamma)

  module _ (r v f : ℕ) (low : v < p.gamma) (few : f < 256) where
    pub bit_in_lem : r < p.mu → bit_of r v f < 64 * marks_length p
    bit_in_lem h = omega (arith, digits_lt {q = r} {m = p.mu} {r = v} {c = p.gamma} h low)

    pub bit_region : region_at (bit_of r v f) ≡ r
    bit_region = let e : bit_of r v f / 256 ≡ r * p.gamma + v = omega arith in rw e (digits_div r low)

    pub bit_vblock : vblock_at (bit_of r v f) ≡ v
    bit_vblock = let e : bit_of r v f / 256 ≡ r * p.gamma + v = omega arith in rw e (digits_mod r low)

    pub bit_frame : frame_at (bit_of r v f) ≡ f
    bit_frame = omega arith

    pub bit_is : (marks : List ℕ) → bit_at marks (bit_of r v f) ≡ mark_in p marks r v f
    unfolding bit_at
    bit_is marks =
        let e : bit_of r v f / 64 ≡ mark_index p r v (f / 64) = omega arith in
        let q : bit_of r v f % 64 ≡ f % 64 = omega arith in
        ap₂ (λ (k i : ℕ). bit_in (word_at marks k) i) e q

  -- bit j, as a mark
  pub bit_mark : 0 < p.gamma → (marks : List ℕ) (j : ℕ) → bit_at marks j ≡ mark_in p marks (region_at j) (vblock_at j) (frame_at j)
  bit_mark some marks j = ap (bit_at marks) (sym (bit_here some j)) ∙ bit_is (region_at j) (vblock_at j) (frame_at j) (vblock_in_lem some j) (omega arith) marks

-- ---- the marks of one virtual block

module _ (p : Params) (chip ct bt fst marks : List ℕ) (r v : ℕ) where
  -- no mark depends on FST
  no_fst : (f : ℕ) → marked p (view_of p chip ct bt [] r) v f ≡ marked p (view_of p chip ct bt fst r) v f
  unfolding marked valid view_of
  no_fst f = refl

  pub marks_out : marks_valid p chip ct bt marks r v ≡ true → (f : ℕ) → f < 256 → mark_in p marks r v f ≡ true → marked p (view_of p chip ct bt fst r) v f ≡ true
  unfolding marks_valid only_in
  marks_out h f few e =
      let k : 64 * (f / 64) + f % 64 ≡ f = omega arith in
      sym (no_fst f) ∙ ap (marked p (view_of p chip ct bt [] r) v) (sym k)
      ∙ go (or_cases (not (mark_in p marks r v f)) (all_at 64 _ (all_at 4 (word_only p marks r v (marked p (view_of p chip ct bt [] r) v)) h (f / 64) (omega arith)) (f % 64) (omega arith)))
    where
      go : (not (mark_in p marks r v f) ≡ true) ⊎ (marked p (view_of p chip ct bt [] r) v (64 * (f / 64) + f % 64) ≡ true) → marked p (view_of p chip ct bt [] r) v (64 * (f / 64) + f % 64) ≡ true
      go (inl x) = absurd (never e (not-true _ x))
      go (inr x) = x

  pub marks_in_lem : ((f : ℕ) → f < 256 → mark_in p marks r v f ≡ true → marked p (view_of p chip ct bt fst r) v f ≡ true) → marks_valid p chip ct bt marks r v ≡ true
  unfolding marks_valid only_in
  marks_in_lem h = all_below_intro 4 _ (λ w l. all_below_intro 64 _ (λ i k. go w i l k (so (bit_in (word_at marks (mark_index p r v w)) i))))
    where
      go : (w i : ℕ) → w < 4 → i < 64 → (bit_in (word_at marks (mark_index p r v w)) i ≡ true) ⊎ (bit_in (word_at marks (mark_index p r v w)) i ≡ false)
          → not (bit_in (word_at marks (mark_index p r v w)) i) || marked p (view_of p chip ct bt [] r) v (64 * w + i) ≡ true
      go w i l k (inr x) = rw x
      go w i l k (inl x) =
          let q : (64 * w + i) / 64 ≡ w = omega arith in
          let s : (64 * w + i) % 64 ≡ i = omega arith in
          rw x (no_fst (64 * w + i) ∙ h (64 * w + i) (omega arith) (ap₂ (λ (a b : ℕ). bit_in (word_at marks (mark_index p r v a)) b) q s ∙ x))
