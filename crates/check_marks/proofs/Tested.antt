-- Each test of `is_valid`, as the rule of validity takes it: of any view that shows the lent bytes; and the search of `is_last`.
-- Assumes nothing.
use mathlib.Core.Path.{◌≡◌, ap, refl, sym, ◌∙◌}
use mathlib.Core.Logic.{◌⊎◌, inl, inr}
use mathlib.Core.Bool.{Bool, true, false, ◌&&◌, and-false, cond, not}
use mathlib.Core.List.{List}
use Prim.Native.Nat.{ℕ, zero, suc, ◌+◌, ◌-◌, ◌*◌, ◌/◌, ◌≤◌, ◌<◌}
use native.Mathlib.Decide.{dec_lt, ℕ_discrete}
use native.Mathlib.Omega.{arith}
use native.Mathlib.Nat.{add-mul, div-eq_of_lt-le, div-le_self, div-lt_iff_lt-mul, div-mul-le_self, le-div_iff_mul-le}
use lib.Dec.{eqb}
use lib.ListN.{length}
use borrow.Author.Tests.{eq-eqb, eqb-true, ne_eqb, not-false, not-true}
use Rattle.lists.specs.Below.{all_below, last_below}
use Rattle.lists.proofs.Parts.{next}
use Rattle.lists.proofs.Tests.{all_at, and_right, last_is, never, so, some_fails}
use Rattle.rules.specs.declared.Params.{Params}
use Rattle.rules.specs.Parameters.{frames}
use Rattle.rules.specs.Numbers.{region_of, segment_of}
use Rattle.rules.specs.Tables.{none, ct_at}
use Rattle.rules.specs.Pages.{frame, held, holds, last_in, le32, spare, whole}
use Rattle.rules.specs.Regions.{View, valid}
use Rattle.rules.proofs.Sizes.{Sizes, sizes}
use Rattle.rules.proofs.FramePut.{last_holds}
use Rattle.rules.proofs.Frames.{seg_low}
use Rattle.check_marks.specs.Shown.{HoldsAt, OneFrame, Shows}

module _ (p : Params) (blk ct : List ℕ) (v f : ℕ) (a : OneFrame p blk ct v f) where
  z : Sizes p
  z = sizes p a.block.fine

  -- the place of the frame's segment is one of the block's
  place_low : f / p.beta < p.d
  unfolding frames
  place_low = (div-lt_iff_lt-mul z.per_segment).1 (omega (arith, a.low))

  pub place_is_low : (k : ℕ) → k ≡ f / p.beta → k < p.d
  place_is_low k e = rw e place_low

  -- its last page says the same cluster as its first
  pub first_says : (fr : List ℕ) → fr ≡ frame p blk f → whole p fr ≡ true → (c : ℕ) → c ≡ le32 (spare p fr (p.alpha - 1)) → c ≡ held p fr
  unfolding holds
  first_says fr is h c e = e ∙ eqb-true _ _ (and_right (whole p fr) (rw (← is) at (a.block.kept f a.low (rw is at h)).1))

  -- its cluster has an entry in CT
  pub cluster_low : (fr : List ℕ) → fr ≡ frame p blk f → whole p fr ≡ true → (c : ℕ) → c ≡ held p fr → c < length ct
  cluster_low fr is h c e = rw (a.block.ct_length, e, is) (a.block.clusters f a.low (rw is at h))

  -- it is there that it holds its cluster
  pub holds_at : (fr : List ℕ) → fr ≡ frame p blk f → whole p fr ≡ true → (c : ℕ) → c ≡ held p fr → (k : ℕ) → k ≡ f / p.beta → HoldsAt p blk k f c
  holds_at fr is h c e k at =
      record { fine = a.block.fine; size = a.block.size; low = a.low; place = at; here = rw (e, is) (a.block.kept f a.low (rw is at h)).1 }

  module _ (r : ℕ) (vw : View) (s : Shows p r v blk ct vw) (fr : List ℕ) (is : fr ≡ frame p blk f) where
    -- the last whole frame of a segment is not one that is only begun
    not_last : (x : ℕ) → whole p fr ≡ false → eqb (last_in p blk (f / p.beta) x) f ≡ false
    unfolding holds
    not_last x h = ne_eqb _ f (λ e. never (last_holds p z blk (f / p.beta) x (rw e a.low)).1 (rw (e, ← is, h)))

    pub begun : whole p fr ≡ false → false ≡ valid p vw v f
    unfolding valid
    begun h = rw (s.body, not_last _ h, and-false, and-false)

    module _ (h : whole p fr ≡ true) (c : ℕ) (e : c ≡ held p fr) where
      valid_is : valid p vw v f ≡ eqb (vw.seg_of c) (segment_of p v f) && eqb (last_in p blk (f / p.beta) c) f
      unfolding valid
      valid_is = rw (s.body, (a.block.kept f a.low (rw is at h)).0, ← is, ← e)

      not_here : (x : ℕ) → vw.seg_of c ≡ x → (x ≡ segment_of p v f → ⊥) → false ≡ valid p vw v f
      not_here x w ne = rw (valid_is, w, ne_eqb x (segment_of p v f) ne)

      none_ne : none ≡ segment_of p v f → ⊥
      none_ne x = omega (arith, seg_low p z v f a.low a.block.low, z.few)

      pub stale : (k sg g : ℕ) → k ≡ f / p.beta → sg ≡ ct_at ct c → g ≡ v * p.d + k → (sg ≡ g → ⊥) → false ≡ valid p vw v f
      stale k sg g at w q ne = not_here _ (s.segs c) (go (eqb (region_of p c) r))
        where
          go : (t : Bool) → cond t (ct_at ct c) none ≡ segment_of p v f → ⊥
          go true x = ne (w ∙ x ∙ rw (q, at))
          go false x = none_ne x

      here : vw.seg_of c ≡ ct_at ct c
      here = s.segs c ∙ rw (eq-eqb (region_of p c) r (rw (e, is) (s.mine f a.low (rw is at h))))

      pub last : (k sg g : ℕ) (ok : Bool) → k ≡ f / p.beta → sg ≡ ct_at ct c → g ≡ v * p.d + k → sg ≡ g → ok ≡ eqb (last_in p blk k c) f → ok ≡ valid p vw v f
      last k sg g ok at w q x i =
          let named : sg ≡ segment_of p v f = x ∙ q ∙ rw at in
          rw (valid_is, here, ← w, eq-eqb sg (segment_of p v f) named, ← at) i

-- ---- the last in its segment

last_least : (o n : ℕ) (t : ℕ → Bool) (i : ℕ) → i < n → t i ≡ true → i ≤ last_below o n t
unfolding last_below
last_least o zero t i h e = absurd (omega arith)
last_least o (suc n) t i h e = go (t n) refl (ℕ_discrete i n) (λ l. last_least o n t i l e)
  where
    go : (b : Bool) → t n ≡ b → Dec (i ≡ n) → (i < n → i ≤ last_below o n t) → i ≤ cond b n (last_below o n t)
    go true k d below = omega arith
    go false k (yes d) below = absurd (never e (ap t d ∙ k))
    go false k (no d) below = below (omega arith)

module _ (p : Params) (blk : List ℕ) (k f c : ℕ) (a : HoldsAt p blk k f c) where
  z' : Sizes p
  z' = sizes p a.fine

  abbrev test : ℕ → Bool
  test g = eqb (g / p.beta) k && holds p (frame p blk g) c

  pub place_starts : k * p.beta ≤ f
  place_starts = rw a.place (div-mul-le_self f p.beta)

  pub place_ends : (k + 1) * p.beta ≤ frames p
  unfolding frames
  place_ends =
      let l : k < p.d = rw a.place ((div-lt_iff_lt-mul z'.per_segment).1 (omega (arith, a.low))) in
      omega (arith, next p.beta k p.d l)

  in_segment : (g : ℕ) → f < g → g < (k + 1) * p.beta → test g ≡ holds p (frame p blk g) c
  in_segment g h l = rw (eq-eqb (g / p.beta) k (div-eq_of_lt-le p.beta (omega (arith, place_starts)) l))

  after : (g : ℕ) → (k + 1) * p.beta ≤ g → test g ≡ false
  after g h = rw (ne_eqb (g / p.beta) k (λ e. omega (arith, e, (le-div_iff_mul-le z'.per_segment).1 h)))

  pub last_here_lem : ((g : ℕ) → f < g → g < (k + 1) * p.beta → holds p (frame p blk g) c ≡ false) → true ≡ eqb (last_in p blk k c) f
  unfolding last_in
  last_here_lem none-later =
      sym (eq-eqb _ _ (last_is none (frames p) test f a.low (rw (eq-eqb (f / p.beta) k (sym a.place)) a.here) (λ g h l. go g h (dec_lt g ((k + 1) * p.beta)))))
    where
      go : (g : ℕ) → f < g → Dec (g < (k + 1) * p.beta) → test g ≡ false
      go g h (yes l) = in_segment g h l ∙ none-later g h l
      go g h (no l) = after g (omega arith)

  pub last_later : (g : ℕ) → f < g → g < (k + 1) * p.beta → holds p (frame p blk g) c ≡ true → false ≡ eqb (last_in p blk k c) f
  unfolding last_in
  last_later g h l e =
      sym (ne_eqb _ f (λ q. omega (arith, q, last_least none (frames p) test g (omega (arith, place_ends)) (in_segment g h l ∙ e))))

  -- both at once
  pub last_all : (e : ℕ) → e ≡ (k + 1) * p.beta → all_below (e - (f + 1)) (λ i. not (holds p (frame p blk (f + 1 + i)) c)) ≡ eqb (last_in p blk k c) f
  last_all e end = go (so (all_below (e - (f + 1)) later))
    where
      later : ℕ → Bool
      later i = not (holds p (frame p blk (f + 1 + i)) c)

      at : (g : ℕ) → f < g → f + 1 + (g - (f + 1)) ≡ g
      at g h = omega arith

      go : (all_below (e - (f + 1)) later ≡ true) ⊎ (all_below (e - (f + 1)) later ≡ false) → all_below (e - (f + 1)) later ≡ eqb (last_in p blk k c) f
      go (inl y) =
          rw y (last_here_lem (λ g h l. not-true _ (ap (λ (x : ℕ). not (holds p (frame p blk x) c)) (sym (at g h)) ∙ all_at (e - (f + 1)) later y (g - (f + 1)) (omega (arith, end)))))
      go (inr y) =
          let s = some_fails (e - (f + 1)) later y in
          rw y (last_later (f + 1 + s.0) (omega arith) (omega (arith, s.1, end)) (not-false _ s.2))

-- ---- places

-- there are few
pub place_few : (b f k : ℕ) → k ≡ f / b → f < 256 → k < 256
place_few b f k e h = omega (arith, e, div-le_self f b)

-- the place after that of frame f
module _ (b f k : ℕ) (pos : 0 < b) (is : k ≡ f / b) where
  starts : k * b ≤ f
  starts = rw is (div-mul-le_self f b)

  ends : f < (k + 1) * b
  ends = (div-lt_iff_lt-mul pos).0 (omega (arith, is))

  pub place_more : (k + 1) * b ≡ f + 1 → k + 1 ≡ (f + 1) / b
  place_more e =
      let high : f + 1 < (k + 1 + 1) * b = rw (add-mul (k + 1) 1 b) (omega (arith, e, pos)) in
      sym (div-eq_of_lt-le b (omega (arith, e)) high)

  pub place_same : ((k + 1) * b ≡ f + 1 → ⊥) → k ≡ (f + 1) / b
  place_same ne = sym (div-eq_of_lt-le b (omega (arith, starts)) (omega (arith, ends, ne)))
