-- On a chip that shows a steady board, a start gives each cluster as its latest whole frame on the whole chip: the frames of the board stand on the chip, a block that is left over has copies of
-- them alone, and stamps apart make the two searches find the same.
-- Assumes nothing.
use mathlib.Core.Path.{◌≡◌, sym, ap, ap₂, ◌∙◌}
use mathlib.Core.Logic.{◌⊎◌, inl, inr}
use Prim.Native.Nat.{ℕ, ◌+◌, ◌*◌, ◌/◌, ◌%◌, ◌≤◌, ◌<◌}
use native.Mathlib.Nat.{add-zero, div-eq_of_lt, div-lt_iff_lt-mul, mod-eq_of_lt, mod-lt, mul-add-div_right, mul-add-mod_self_right}
use native.Mathlib.Omega.{arith}
use mathlib.Core.Bool.{true, false, cond}
use mathlib.Core.List.{List}
use lib.Dec.{eqb}
use borrow.Author.Tests.{eq-eqb, ne_eqb}
use lib.ListN.{replicate, take}
use Rattle.lists.specs.Below.{most_below}
use Rattle.lists.proofs.Most.{most_spec}
use Rattle.lists.proofs.Parts.{next}
use Rattle.lists.proofs.Tests.{and_intro, and_left, and_right, never}
use Rattle.rules.specs.declared.Params.{Params}
use Rattle.rules.specs.Parameters.{allowed, frames}
use Rattle.rules.specs.Numbers.{region_of}
use Rattle.rules.specs.Tables.{Board, bt_at, none}
use Rattle.rules.specs.Pages.{block, frame, holds, page, stamp_of}
use Rattle.rules.specs.Regions.{sector, view}
use Rattle.rules.specs.Replies.{lengths_fit}
use Rattle.rules.specs.Start.{in_use, region_named, started, vblock_named}
use Rattle.rules.proofs.RegionFacts.{good_held}
use Rattle.rules.proofs.Sizes.{Sizes, sizes}
use Rattle.rules.proofs.Views.{body_some, has_block}
use Rattle.starts.specs.Latest.{chip_frame, latest, whole_of}
use Rattle.starts.specs.Timely.{WholeAt, frame_stamp}
use Rattle.starts.proofs.KeptBlocks.{named_use, region_low_lem, vblock_low_lem}
use Rattle.starts.proofs.Returns.{Came, came, came_none, came_some, comes, lacks, steady_fronts}
use Rattle.starts.proofs.Shows.{InUse, in_use_lem, left, own, own_low, own_same, own_use}
use Rattle.starts.proofs.Steady.{Shown, Steady}
use Rattle.starts.proofs.Timely.{whole_good, whole_has}

module _ (p : Params) (fine : allowed p ≡ true) (b₀ b : Board) (x : ℕ) (lengths : lengths_fit p b₀ ≡ true) (st : Steady p b) (sh : Shown p b₀.chip b x) (c : ℕ) (low : c < p.C) where
  z : Sizes p
  z = sizes p fine

  abbrev r : ℕ
  r = region_of p c

  region : r < p.mu
  region = mod-lt c z.regions

  -- ---- a whole frame of the board stands on the chip

  module _ (v g : ℕ) (a : WholeAt p (view p b r) c v g) where
    has : bt_at p b.bt r v ≡ none → ⊥
    has = has_block p z b st.tables r v region a.block (whole_has p (view p b r) c v g a)

    at : ℕ
    at = bt_at p b.bt r v * frames p + g

    at_low : at < p.N * frames p
    unfolding at
    at_low = omega (arith, next (frames p) (bt_at p b.bt r v) p.N (own_low p z b₀.chip b st.tables x sh.shows r v region a.block has), a.low)

    at_block : at / frames p ≡ bt_at p b.bt r v
    unfolding at
    at_block = rw (mul-add-div_right z.some, div-eq_of_lt a.low) (add-zero (bt_at p b.bt r v))

    at_frame : at % frames p ≡ g
    unfolding at
    at_frame = rw mul-add-mod_self_right (mod-eq_of_lt a.low)

    at_is : chip_frame p b₀.chip at ≡ frame p ((view p b r).body v) g
    unfolding chip_frame
    at_is =
        rw (at_block, at_frame)
        (ap (λ (y : List ℕ). frame p y g) (own_same p z b₀.chip b st.tables x sh.shows r v region a.block has ∙ sym (body_some p z b st.tables r v region a.block has)))

    at_whole : whole_of p b₀.chip c at ≡ true
    unfolding whole_of
    at_whole =
        and_intro (ap (in_use p b₀.chip) at_block ∙ named_use p z b₀.chip r v _ (own_use p z b₀.chip b st.tables x sh.shows r v region a.block has))
        (ap (λ (y : List ℕ). holds p y c) at_is ∙ a.whole)

  -- ---- and one on the chip is one of the board

  abbrev From : ℕ → Type 0
  From i = (v : ℕ) × (g : ℕ) × WholeAt p (view p b r) c v g × (chip_frame p b₀.chip i ≡ frame p ((view p b r).body v) g)

  -- one of a region of the board that holds the cluster is of the cluster's region
  own_region : (r' v g : ℕ) → r' < p.mu → WholeAt p (view p b r') c v g → r' ≡ r
  own_region r' v g h a =
      let good = whole_good p z r' (view p b r') (steady_fronts p fine b₀ b x lengths st sh r' h) c v g a in
      sym good.mine ∙ ap (region_of p) (good_held p z r' v (frame p ((view p b r').body v) g) good c a.whole)

  from_at : (i r' v g : ℕ) → r' < p.mu → v < p.gamma → g < frames p → holds p (chip_frame p b₀.chip i) c ≡ true → chip_frame p b₀.chip i ≡ frame p ((view p b r').body v) g → From i
  from_at i r' v g h k l e f =
      let a : WholeAt p (view p b r') c v g = record { block = k; low = l; whole = sym (ap (λ (u : List ℕ). holds p u c) f) ∙ e } in
      let q : r' ≡ r = own_region r' v g h a in
      (v, g, rw (← q) a, rw (← q) f)

  from : (i : ℕ) → i < p.N * frames p → whole_of p b₀.chip c i ≡ true → From i
  unfolding whole_of
  from i h e = go (in_use_lem p z b₀.chip b st.tables x sh.shows (i / frames p) block_low_lem (and_left (in_use p b₀.chip (i / frames p)) _ e))
    where
      block_low_lem : i / frames p < p.N
      block_low_lem = (div-lt_iff_lt-mul z.some).1 h

      frame_low_lem : i % frames p < frames p
      frame_low_lem = mod-lt i z.some

      held_c : holds p (chip_frame p b₀.chip i) c ≡ true
      held_c = and_right (in_use p b₀.chip (i / frames p)) e

      in_block : (blk : List ℕ) → block p b₀.chip (i / frames p) ≡ blk → chip_frame p b₀.chip i ≡ frame p blk (i % frames p)
      in_block blk k = unfold chip_frame in ap (λ (y : List ℕ). frame p y (i % frames p)) k

      go : InUse p z b₀.chip b st.tables x sh.shows (i / frames p) → From i
      go (own r' v hr hv k) =
          let ne : bt_at p b.bt r' v ≡ none → ⊥ = λ y. omega (arith, k, y, block_low_lem, z.blocks) in
          let s : block p b₀.chip (i / frames p) ≡ (view p b r').body v =
          ap (block p b₀.chip) (sym k) ∙ own_same p z b₀.chip b st.tables x sh.shows r' v hr hv ne ∙ sym (body_some p z b st.tables r' v hr hv ne) in
          from_at i r' v (i % frames p) hr hv frame_low_lem held_c (in_block ((view p b r').body v) s)
      go (left k l) =
          let s : chip_frame p b₀.chip i ≡ frame p (block p b₀.chip x) (i % frames p) = in_block (block p b₀.chip x) (ap (block p b₀.chip) k) in
          let w = sh.copied (rw (← k) block_low_lem) l (i % frames p) c frame_low_lem (sym (ap (λ (y : List ℕ). holds p y c) s) ∙ held_c) in
          from_at i (region_named p (block p b₀.chip x)) (vblock_named p (block p b₀.chip x)) w.0 (region_low_lem p z (block p b₀.chip x)) (vblock_low_lem p (block p b₀.chip x) l.sound)
          w.1 held_c (s ∙ w.2)

  -- ---- so both find the same

  pub latest_is : (j : ℕ) → sector p (started p b₀) c j ≡ latest p b₀.chip c j
  unfolding latest
  latest_is j = go (most_spec key end end (whole_of p b₀.chip c) (omega arith)) (came p fine b₀ b x lengths st sh c low)
    where
      end : ℕ
      end = p.N * frames p

      key : ℕ → ℕ
      key i = stamp_of p (chip_frame p b₀.chip i)

      i : ℕ
      i = most_below key end end (whole_of p b₀.chip c)

      go : ((i ≡ end) × ((m : ℕ) → m < end → whole_of p b₀.chip c m ≡ false))
          ⊎ ((i < end) × (whole_of p b₀.chip c i ≡ true) × ((m : ℕ) → m < end → whole_of p b₀.chip c m ≡ true → key m ≤ key i))
          → Came p fine b₀ b x lengths st sh c
          → sector p (started p b₀) c j ≡ cond (eqb i end) (replicate p.s 255) (take p.s (page p (chip_frame p b₀.chip i) j))
      go (inl w) (lacks no-frame n) = rw (eq-eqb i end w.0) (came_none p fine b₀ b x lengths st sh c j n)
      go (inl w) (comes v f a most n) = absurd (never (at_whole v f a) (w.1 (at v f a) (at_low v f a)))
      go (inr w) (lacks no-frame n) = let o = from i w.0 w.1 in absurd (no-frame o.0 o.1 o.2)
      go (inr w) (comes v f a most n) =
          rw (ne_eqb i end (λ y. omega (arith, w.0, y))) (came_some p fine b₀ b x lengths st sh c j v f a most n ∙ ap (λ (y : List ℕ). take p.s (page p y j)) (sym same))
        where
          same : chip_frame p b₀.chip i ≡ frame p ((view p b r).body v) f
          same =
              let o = from i w.0 w.1 in
              let up : frame_stamp p (view p b r) o.0 o.1 ≤ frame_stamp p (view p b r) v f = most o.0 o.1 o.2 in
              let down : key (at v f a) ≤ key i = w.2 (at v f a) (at_low v f a) (at_whole v f a) in
              let e₁ : key i ≡ frame_stamp p (view p b r) o.0 o.1 = ap (stamp_of p) o.3 in
              let e₂ : key (at v f a) ≡ frame_stamp p (view p b r) v f = ap (stamp_of p) (at_is v f a) in
              let one = (st.timely r region).apart c o.0 o.1 v f o.2 a (omega (arith, up, down, e₁, e₂)) in
              o.3 ∙ ap₂ (λ (y m : ℕ). frame p ((view p b r).body y) m) one.0 one.1
