-- CT with the newest frames so far: at the start, what one frame adds, at a region's end, and at the end. A frame adds to one cluster, and where it is not whole to none.
-- Assumes nothing.
use mathlib.Core.Path.{◌≡◌, refl, sym, ◌∙◌}
use mathlib.Core.Logic.{◌⊎◌, inl, inr}
use mathlib.Core.Bool.{Bool, true, false, ◌&&◌, ◌||◌, cond}
use mathlib.Core.List.{List}
use Prim.Native.Nat.{ℕ, ◌+◌, ◌-◌, ◌/◌, ◌≤◌, ◌<◌}
use native.Mathlib.Numerals.{add-one}
use native.Mathlib.Nat.{mod-lt}
use native.Mathlib.Decide.{dec_lt, ℕ_discrete}
use native.Mathlib.Omega.{arith}
use lib.Dec.{eqb, ltb}
use lib.ListN.{length, replicate, set}
use borrow.Author.Tests.{eq-eqb, le-ltb, lt-ltb, ne_eqb}
use Rattle.lists.specs.Below.{list_below, most_below, updated}
use Rattle.lists.proofs.Joins.{updated_same, updated_other}
use Rattle.lists.proofs.Lists.{list_at, list_cong, list_const, list_length, list_set}
use Rattle.lists.proofs.Most.{most_spec}
use Rattle.rules.specs.declared.Params.{Params}
use Rattle.rules.specs.Parameters.{frames}
use Rattle.rules.specs.Numbers.{region_of}
use Rattle.rules.specs.Tables.{bt_at, ct_at, none, not_found}
use Rattle.rules.specs.Pages.{holds, le32, spare, whole}
use Rattle.rules.specs.Regions.{View, frame_in, region_frames, stamp_in}
use Rattle.rules.specs.Start.{found_view}
use Rattle.rules.proofs.Frames.{erased_holds}
use Rattle.start_found.specs.Found.{HasFrame}
use Rattle.start_found.proofs.Views.{frame_none, holder_has, region_few, whole_cluster}
use Rattle.start_clusters.specs.Newest.{FrameAsked, gone_over, newest_frames, newest_in}

-- ---- how many frames of a region are gone over

gone_here : (p : Params) (r i : ℕ) → gone_over p r i r ≡ i
unfolding gone_over
gone_here p r i = rw (le-ltb r r (omega arith), eq-eqb r r refl)

gone_else : (p : Params) (r i j x : ℕ) → (x ≡ r → ⊥) → gone_over p r i x ≡ gone_over p r j x
unfolding gone_over
gone_else p r i j x ne = rw (ne_eqb x r ne)

gone_start : (p : Params) (x : ℕ) → gone_over p 0 0 x ≡ 0
unfolding gone_over
gone_start p x = rw (le-ltb x 0 (omega arith)) (go (eqb x 0))
  where
    go : (t : Bool) → ◌≡◌ {A = ℕ} (cond t 0 0) 0
    go true = refl
    go false = refl

gone_next : (p : Params) (r x : ℕ) → gone_over p r (region_frames p) x ≡ gone_over p (r + 1) 0 x
unfolding gone_over
gone_next p r x = go (dec_lt x r) (ℕ_discrete x r)
  where
    go : Dec (x < r) → Dec (x ≡ r) → cond (ltb x r) (region_frames p) (cond (eqb x r) (region_frames p) 0) ≡ cond (ltb x (r + 1)) (region_frames p) (cond (eqb x (r + 1)) 0 0)
    go (yes a) d = rw (lt-ltb x r a, lt-ltb x (r + 1) (omega arith))
    go (no a) (yes d) = rw (le-ltb x r (omega arith), eq-eqb x r d, lt-ltb x (r + 1) (omega arith))
    go (no a) (no d) = rw (le-ltb x r (omega arith), ne_eqb x r d, le-ltb x (r + 1) (omega arith)) (same (eqb x (r + 1)))
      where
        same : (t : Bool) → ◌≡◌ {A = ℕ} 0 (cond t 0 0)
        same true = refl
        same false = refl

gone_end : (p : Params) (r x : ℕ) → x < r → gone_over p r 0 x ≡ region_frames p
unfolding gone_over
gone_end p r x h = rw (lt-ltb x r h)

-- ---- CT at the start, at a region's end, and at the end

module _ (p : Params) (chip bt : List ℕ) where
  abbrev vw : ℕ → View
  vw r = found_view p chip bt r

  pub frames_start : replicate p.C none ≡ newest_frames p chip bt 0 0
  unfolding newest_frames newest_in most_below
  frames_start = list_const none p.C ∙ list_cong p.C _ _ (λ c h. rw (gone_start p (region_of p c)))

  pub frames_next : (r i : ℕ) → i ≡ region_frames p → newest_frames p chip bt r i ≡ newest_frames p chip bt (r + 1) 0
  unfolding newest_frames
  frames_next r i e = rw e (list_cong p.C _ _ (λ c h. rw (gone_next p r (region_of p c))))

  pub frames_end : (r : ℕ) → r ≡ p.mu → 0 < p.mu → newest_frames p chip bt r 0 ≡ list_below p.C (λ c. newest_in p (vw (region_of p c)) (region_frames p) c)
  unfolding newest_frames
  frames_end r e some = rw e (list_cong p.C _ _ (λ c h. rw (gone_end p p.mu (region_of p c) (mod-lt c some))))

  pub frames_length : (r i : ℕ) → length (newest_frames p chip bt r i) ≡ p.C
  unfolding newest_frames
  frames_length r i = list_length p.C _

-- ---- one frame

newest_more : (p : Params) (vw : View) (i c : ℕ)
    → newest_in p vw (i + 1) c ≡ cond (holds p (frame_in p vw i) c && (eqb (newest_in p vw i c) none || ltb (stamp_in p vw (newest_in p vw i c)) (stamp_in p vw i))) i (newest_in p vw i c)
unfolding newest_in most_below
newest_more p vw i c = rw add-one

module _ (p : Params) (chip bt ct : List ℕ) (r i : ℕ) (a : FrameAsked p chip bt ct r i) where
  abbrev vw₁ : View
  vw₁ = found_view p chip bt r

  -- another region's clusters, and those that the frame does not hold, stay as they are
  stays : (c : ℕ) → holds p (frame_in p vw₁ i) c ≡ false
      → newest_in p (vw p chip bt (region_of p c)) (gone_over p r i (region_of p c)) c ≡ newest_in p (vw p chip bt (region_of p c)) (gone_over p r (i + 1) (region_of p c)) c
  stays c lacks = go (region_of p c) (ℕ_discrete (region_of p c) r)
    where
      go : (x : ℕ) → Dec (x ≡ r) → newest_in p (found_view p chip bt x) (gone_over p r i x) c ≡ newest_in p (found_view p chip bt x) (gone_over p r (i + 1) x) c
      go x (yes e) = rw (e, gone_here p r i, gone_here p r (i + 1), newest_more p vw₁ i c, lacks)
      go x (no ne) = rw (gone_else p r i (i + 1) x ne)

  pub skipped : ((c : ℕ) → holds p (frame_in p vw₁ i) c ≡ false) → ct ≡ newest_frames p chip bt r (i + 1)
  skipped lacks = a.so ∙ unfold newest_frames in list_cong p.C _ _ (λ c h. stays c (lacks c))

  -- where its virtual block has no block
  pub unassigned : bt_at p bt r (i / frames p) ≡ none → ct ≡ newest_frames p chip bt r (i + 1)
  unassigned e = skipped (λ c. erased_holds p (frame_in p vw₁ i) c (frame_none p a.found.fine i a.low chip bt r e))

  -- where it is not whole
  pub begun : (fr : List ℕ) → fr ≡ frame_in p vw₁ i → whole p fr ≡ false → ct ≡ newest_frames p chip bt r (i + 1)
  begun fr is e = skipped (λ c. unfold holds in rw (← is, e))

  pub sized : length ct ≡ p.C
  sized = rw a.so (frames_length p chip bt r i)

  pub small : i < 65536
  small = omega (arith, a.low, region_few p a.found.fine)

  -- it is whole, and this is its cluster
  module _ (h : HasFrame p bt r i) (fr : List ℕ) (is : fr ≡ frame_in p vw₁ i) (w : whole p fr ≡ true) (c : ℕ) (e : c ≡ le32 (spare p fr (p.alpha - 1))) where
    low_here : (c < p.C) × (region_of p c ≡ r)
    low_here = whole_cluster p chip bt a.found r i h (rw is at w) c (e ∙ rw is)

    pub in_ct : c < length ct
    in_ct = rw sized low_here.0

    holds_it : (x : ℕ) → holds p (frame_in p vw₁ i) x ≡ eqb c x
    unfolding holds
    holds_it x = rw (← is, w, ← e)

    module _ (m : ℕ) (is_m : m ≡ ct_at ct c) where
      -- what CT has for it
      entry : m ≡ newest_in p vw₁ i c
      unfolding ct_at newest_frames
      entry = is_m ∙ rw a.so (list_at p.C _ c none low_here.0 ∙ rw (low_here.1, gone_here p r i))

      pub entry_has : (m ≡ none → ⊥) → HasFrame p bt r m
      entry_has ne = go (unfold newest_in in most_spec (stamp_in p vw₁) not_found i (λ j. holds p (frame_in p vw₁ j) c) (omega (arith, small)))
        where
          go : ((newest_in p vw₁ i c ≡ none) × ((j : ℕ) → j < i → holds p (frame_in p vw₁ j) c ≡ false))
              ⊎ ((newest_in p vw₁ i c < i) × (holds p (frame_in p vw₁ (newest_in p vw₁ i c)) c ≡ true)
              × ((j : ℕ) → j < i → holds p (frame_in p vw₁ j) c ≡ true → stamp_in p vw₁ j ≤ stamp_in p vw₁ (newest_in p vw₁ i c))) → HasFrame p bt r m
          go (inl x) = absurd (ne (entry ∙ x.0))
          go (inr x) = rw entry (holder_has p chip bt a.found r (newest_in p vw₁ i c) a.region (omega (arith, a.low, x.0)) c x.1)

      abbrev newer : Bool
      newer = eqb m none || ltb (stamp_in p vw₁ m) (stamp_in p vw₁ i)

      here : newest_in p vw₁ (i + 1) c ≡ cond newer i m
      here = newest_more p vw₁ i c ∙ rw (holds_it c, eq-eqb c c refl, entry)

      pub taken : (ok : Bool) → ok ≡ newer → ok ≡ true → set ct c i ≡ newest_frames p chip bt r (i + 1)
      unfolding newest_frames
      taken ok q t = rw a.so (list_set p.C _ c i low_here.0 ∙ list_cong p.C _ _ (λ x l. go x (ℕ_discrete x c)))
        where
          go : (x : ℕ) → Dec (x ≡ c) → updated (λ x. newest_in p (vw p chip bt (region_of p x)) (gone_over p r i (region_of p x)) x) c i x
              ≡ newest_in p (vw p chip bt (region_of p x)) (gone_over p r (i + 1) (region_of p x)) x
          go x (yes y) = rw (y, updated_same (λ x. newest_in p (vw p chip bt (region_of p x)) (gone_over p r i (region_of p x)) x) c i, low_here.1, gone_here p r (i + 1), here, ← q, t)
          go x (no y) = updated_other (λ x. newest_in p (vw p chip bt (region_of p x)) (gone_over p r i (region_of p x)) x) c i x y
              ∙ stays x (rw (holds_it x) (ne_eqb c x (λ e. y (sym e))))

      pub older : (ok : Bool) → ok ≡ newer → ok ≡ false → ct ≡ newest_frames p chip bt r (i + 1)
      unfolding newest_frames
      older ok q t = a.so ∙ list_cong p.C _ _ (λ x l. go x (ℕ_discrete x c))
        where
          go : (x : ℕ) → Dec (x ≡ c) → newest_in p (vw p chip bt (region_of p x)) (gone_over p r i (region_of p x)) x
              ≡ newest_in p (vw p chip bt (region_of p x)) (gone_over p r (i + 1) (region_of p x)) x
          go x (yes y) = rw (y, low_here.1, gone_here p r i, gone_here p r (i + 1), here, ← q, t) (sym entry)
          go x (no y) = stays x (rw (holds_it x) (ne_eqb c x (λ e. y (sym e))))
