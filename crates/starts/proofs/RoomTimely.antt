-- What the stamps of a region's whole frames say is kept by a plan that makes room: every whole frame that then stands stood before, with its stamp, and CT leads to the same frames.
-- Assumes nothing.
use mathlib.Core.Path.{◌≡◌, sym, ap, ◌∙◌}
use mathlib.Core.Logic.{◌⊎◌, inl, inr}
use Prim.Native.Nat.{ℕ, ◌/◌, ◌≤◌, ◌<◌}
use native.Mathlib.Omega.{arith}
use native.Mathlib.Decide.{ℕ_discrete, dec_lt}
use mathlib.Core.Bool.{true, false}
use mathlib.Core.List.{List}
use lib.ListN.{length}
use Rattle.lists.specs.Below.{count_below}
use Rattle.lists.proofs.Ranks.{keep_at, keep_length, rank_low}
use Rattle.lists.proofs.Tests.{never}
use Rattle.rules.specs.declared.Params.{Params}
use Rattle.rules.specs.Parameters.{block_bytes, frames}
use Rattle.rules.specs.Numbers.{place_of, segment_of, vblock_of}
use Rattle.rules.specs.Tables.{none}
use Rattle.rules.specs.Pages.{frame, held, holds, last_in, stamp_of}
use Rattle.rules.specs.Regions.{View, assigned, frame_of, valid, valid_frames}
use Rattle.rules.specs.Write.{has_room, opens, reclaims}
use Rattle.rules.specs.Machine.{erased_block, with_room}
use Rattle.rules.proofs.Frames.{erased_holds, seg_low, seg_place, seg_vblock}
use Rattle.rules.proofs.Opens.{fresh_frame}
use Rattle.rules.proofs.Opens as opening
use Rattle.rules.proofs.ReclaimView.{body_else_lem, copy_valid, frame_copy, nth_spec, nth_valid, reclaim_base, stays}
use Rattle.rules.proofs.RegionFacts.{Entry, Neat, good_held, neat_fronts}
use Rattle.rules.proofs.Sizes.{Sizes}
use Rattle.rules.proofs.ValidFrames.{held_is, is_valid_lem}
use Rattle.rules.proofs.Victims.{Valid, valid_one, valid_out}
use Rattle.starts.specs.Timely.{Timely, WholeAt, frame_stamp}
use Rattle.starts.proofs.Timely.{whole_good, whole_low}

-- ---- a plan that reclaims

module _ (p : Params) (z : Sizes p) (r : ℕ) (vw : View) (neat : Neat p r vw) (no_room_lem : has_room p vw ≡ false) (every : (u : ℕ) → u < p.gamma → assigned vw u ≡ true)
    (sized : (u : ℕ) → u < p.gamma → length (vw.body u) ≡ block_bytes p) (v : ℕ) (low : v < p.gamma) (few : length (valid_frames p vw v) < frames p) where
  -- where a whole frame of the view that is left stood: in the victim's block its valid frame of that rank, else where it stands
  data Origin (c u g : ℕ) : Type 0 where
    copied : u ≡ v → g < length (valid_frames p vw v) → WholeAt p vw c v (nth_valid p vw v g) → frame p ((with_room p vw (reclaims v)).body u) g ≡ frame p (vw.body v) (nth_valid p vw v g) → Origin c u g
    stood : (u ≡ v → ⊥) → WholeAt p vw c u g → frame p ((with_room p vw (reclaims v)).body u) g ≡ frame p (vw.body u) g → Origin c u g

  origin : (c u g : ℕ) → WholeAt p (with_room p vw (reclaims v)) c u g → Origin c u g
  origin c u g a = go (ℕ_discrete u v) (dec_lt g (length (valid_frames p vw v)))
    where
      go : Dec (u ≡ v) → Dec (g < length (valid_frames p vw v)) → Origin c u g
      go (no ne) d =
          let e : frame p ((with_room p vw (reclaims v)).body u) g ≡ frame p (vw.body u) g = ap (λ (y : List ℕ). frame p y g) (body_else_lem p z r vw neat no_room_lem every sized v low few u ne) in
          stood ne (record { block = a.block; low = a.low; whole = rw e at a.whole }) e
      go (yes k) (yes h) =
          let e : frame p ((with_room p vw (reclaims v)).body u) g ≡ frame p (vw.body v) (nth_valid p vw v g) = rw k (frame_copy p z r vw neat no_room_lem every sized v low few g h) in
          copied k h (record { block = low; low = (nth_spec p z r vw neat no_room_lem every sized v low few g h).0; whole = rw e at a.whole }) e
      go (yes k) (no h) =
          let e : holds p (frame p ((with_room p vw (reclaims v)).body v) g) c ≡ true = rw k at a.whole in
          absurd (never e (erased_holds p _ c ((reclaim_base p z r vw neat no_room_lem every sized v low few).ready.rest g (omega arith) a.low)))

  -- two copies of one cluster are the same
  one_copy : (c g h : ℕ) (hg : g < length (valid_frames p vw v)) (hh : h < length (valid_frames p vw v)) → WholeAt p vw c v (nth_valid p vw v g) → WholeAt p vw c v (nth_valid p vw v h) → g ≡ h
  one_copy c g h hg hh a b =
      let w = nth_spec p z r vw neat no_room_lem every sized v low few g hg in
      let y = nth_spec p z r vw neat no_room_lem every sized v low few h hh in
      let e = good_held p z r v _ (whole_good p z r vw (neat_fronts neat) c v (nth_valid p vw v g) a) c a.whole
      ∙ sym (good_held p z r v _ (whole_good p z r vw (neat_fronts neat) c v (nth_valid p vw v h) b) c b.whole) in
      let s = (valid_one p z vw v (nth_valid p vw v g) v (nth_valid p vw v h) w.0 y.0 w.1 y.1 e).1 in
      sym w.2 ∙ ap (λ (x : ℕ). count_below x (valid p vw v)) s ∙ y.2

  old_stamp : (c u g : ℕ) → Origin c u g → (u₀ : ℕ) × (g₀ : ℕ) × WholeAt p vw c u₀ g₀ × (frame_stamp p (with_room p vw (reclaims v)) u g ≡ frame_stamp p vw u₀ g₀)
  old_stamp c u g (copied k h a e) = (v, nth_valid p vw v g, a, ap (stamp_of p) e)
  old_stamp c u g (stood ne a e) = (u, g, a, ap (stamp_of p) e)

  -- the cluster of a valid frame of the victim has an entry that names the victim
  names_v : (c f : ℕ) → f < frames p → Valid p vw v f → held p (frame p (vw.body v) f) ≡ c → vw.seg_of c ≡ segment_of p v f
  names_v c f h ok e = ap vw.seg_of (sym e) ∙ ok.names

  -- a cluster whose entry names another block keeps its entry, and the frame is where it was
  kept_seg : (c : ℕ) → (vblock_of p (vw.seg_of c) ≡ v → ⊥) → (with_room p vw (reclaims v)).seg_of c ≡ vw.seg_of c
  kept_seg c ne = stays p z r vw neat no_room_lem every sized v low few c (λ f h ok is. ne (ap (vblock_of p) (names_v c f h ok is) ∙ seg_vblock p z v f h))

  kept_frame : (c : ℕ) → (vblock_of p (vw.seg_of c) ≡ v → ⊥) → frame_of p (with_room p vw (reclaims v)) c ≡ frame_of p vw c
  unfolding frame_of
  kept_frame c ne = rw (kept_seg c ne, body_else_lem p z r vw neat no_room_lem every sized v low few (vblock_of p (vw.seg_of c)) ne)

  -- one whose entry names the victim has its frame among the copies, valid where it now stands
  module _ (c f : ℕ) (h : f < frames p) (ok : Valid p vw v f) (is : held p (frame p (vw.body v) f) ≡ c) where
    rank : ℕ
    rank = count_below f (valid p vw v)

    few_ranks : rank < length (valid_frames p vw v)
    unfolding rank valid_frames
    few_ranks = rw keep_length (rank_low (frames p) (valid p vw v) f h (valid_out p vw v f ok))

    rank_frames : rank < frames p
    rank_frames = omega (arith, few_ranks, few)

    nth_rank : nth_valid p vw v rank ≡ f
    unfolding nth_valid rank valid_frames
    nth_rank = keep_at (frames p) (valid p vw v) f 0 h (valid_out p vw v f ok)

    copy : frame p ((with_room p vw (reclaims v)).body v) rank ≡ frame p (vw.body v) f
    copy = frame_copy p z r vw neat no_room_lem every sized v low few rank few_ranks ∙ ap (frame p (vw.body v)) nth_rank

    copy_held : held p (frame p ((with_room p vw (reclaims v)).body v) rank) ≡ c
    copy_held = ap (held p) copy ∙ is

    moved_seg : (with_room p vw (reclaims v)).seg_of c ≡ segment_of p v rank
    moved_seg = ap (with_room p vw (reclaims v)).seg_of (sym copy_held) ∙ (copy_valid p z r vw neat no_room_lem every sized v low few rank few_ranks).names

    moved_frame : frame_of p (with_room p vw (reclaims v)) c ≡ frame p (vw.body v) f
    unfolding frame_of
    moved_frame =
        let ok' = copy_valid p z r vw neat no_room_lem every sized v low few rank few_ranks in
        let l : last_in p ((with_room p vw (reclaims v)).body v) (rank / p.beta) c ≡ rank = ap (last_in p ((with_room p vw (reclaims v)).body v) (rank / p.beta)) (sym copy_held) ∙ ok'.last in
        rw (moved_seg, seg_vblock p z v rank rank_frames, seg_place p z v rank rank_frames, l) copy

  -- the valid frame of a cluster whose entry names the victim
  last_of : ℕ → ℕ
  last_of c = last_in p (vw.body v) (place_of p (vw.seg_of c)) c

  module _ (c : ℕ) (e : Entry p vw c) (at : vblock_of p (vw.seg_of c) ≡ v) where
    last_low : last_of c < frames p
    unfolding last_of
    last_low = rw at at e.held

    last_valid : Valid p vw v (last_of c)
    unfolding last_of
    last_valid = rw at at (is_valid_lem p z r vw (neat_fronts neat) c e)

    last_held : held p (frame p (vw.body v) (last_of c)) ≡ c
    unfolding last_of
    last_held = rw at at (held_is p z r vw (neat_fronts neat) c e)

  -- the valid frame of a cluster is the one it was, byte for byte
  reclaim_frame : (c : ℕ) → Entry p vw c → frame_of p (with_room p vw (reclaims v)) c ≡ frame_of p vw c
  reclaim_frame c e = go (ℕ_discrete (vblock_of p (vw.seg_of c)) v)
    where
      go : Dec (vblock_of p (vw.seg_of c) ≡ v) → frame_of p (with_room p vw (reclaims v)) c ≡ frame_of p vw c
      go (no ne) = kept_frame c ne
      go (yes at) = moved_frame c (last_of c) (last_low c e at) (last_valid c e at) (last_held c e at) ∙ unfold frame_of last_of in rw at

  -- a cluster without an entry gets none
  reclaim_none : (c : ℕ) → vw.seg_of c ≡ none → (with_room p vw (reclaims v)).seg_of c ≡ none
  reclaim_none c e = stays p z r vw neat no_room_lem every sized v low few c (λ f h ok is. omega (arith, names_v c f h ok is, seg_low p z v f h low, z.few)) ∙ e

  -- and one with an entry keeps one
  pub reclaim_lives : (c : ℕ) → c < p.C → (with_room p vw (reclaims v)).seg_of c ≡ none → vw.seg_of c ≡ none
  reclaim_lives c h n = go (neat.entries c h)
    where
      go : (vw.seg_of c ≡ none) ⊎ Entry p vw c → vw.seg_of c ≡ none
      go (inl e) = e
      go (inr e) = pick (ℕ_discrete (vblock_of p (vw.seg_of c)) v)
        where
          pick : Dec (vblock_of p (vw.seg_of c) ≡ v) → vw.seg_of c ≡ none
          pick (no ne) = sym (kept_seg c ne) ∙ n
          pick (yes at) =
              let ok = last_valid c e at in
              let is = last_held c e at in
              let l = last_low c e at in
              absurd (omega (
                arith,
                moved_seg c (last_of c) l ok is,
                n,
                seg_low p z v (rank c (last_of c) l ok is) (rank_frames c (last_of c) l ok is) low,
                z.few,
              ))

  pub reclaim_timely : Timely p vw → Timely p (with_room p vw (reclaims v))
  reclaim_timely t =
      record {
        apart = λ c v₁ f₁ v₂ f₂ a b e. apart c v₁ f₁ v₂ f₂ (origin c v₁ f₁ a) (origin c v₂ f₂ b) e;
        rises = λ c u g h a b s l. rises c u g h (origin c u g a) (origin c u h b) s l;
        newest = λ c u g some a. newest c u g some (old_stamp c u g (origin c u g a));
      }
    where
      apart : (c v₁ f₁ v₂ f₂ : ℕ) → Origin c v₁ f₁ → Origin c v₂ f₂ → frame_stamp p (with_room p vw (reclaims v)) v₁ f₁ ≡ frame_stamp p (with_room p vw (reclaims v)) v₂ f₂ → (v₁ ≡ v₂) × (f₁ ≡ f₂)
      apart c v₁ f₁ v₂ f₂ (copied k h a e) (copied k' h' a' e') s = (k ∙ sym k', one_copy c f₁ f₂ h h' a a')
      apart c v₁ f₁ v₂ f₂ (copied k h a e) (stood ne a' e') s =
          absurd (ne (sym (t.apart c v (nth_valid p vw v f₁) v₂ f₂ a a' (sym (ap (stamp_of p) e) ∙ s ∙ ap (stamp_of p) e')).0))
      apart c v₁ f₁ v₂ f₂ (stood ne a e) (copied k' h' a' e') s =
          absurd (ne (t.apart c v₁ f₁ v (nth_valid p vw v f₂) a a' (sym (ap (stamp_of p) e) ∙ s ∙ ap (stamp_of p) e')).0)
      apart c v₁ f₁ v₂ f₂ (stood ne a e) (stood ne' a' e') s = t.apart c v₁ f₁ v₂ f₂ a a' (sym (ap (stamp_of p) e) ∙ s ∙ ap (stamp_of p) e')

      rises : (c u g h : ℕ) → Origin c u g → Origin c u h → g / p.beta ≡ h / p.beta → g < h → frame_stamp p (with_room p vw (reclaims v)) u g < frame_stamp p (with_room p vw (reclaims v)) u h
      rises c u g h (copied k i a e) (copied k' i' a' e') s l = absurd (omega (arith, one_copy c g h i i' a a', l))
      rises c u g h (copied k i a e) (stood ne a' e') s l = absurd (ne k)
      rises c u g h (stood ne a e) (copied k' i' a' e') s l = absurd (ne k')
      rises c u g h (stood ne a e) (stood ne' a' e') s l = rw (ap (stamp_of p) e, ap (stamp_of p) e') (t.rises c u g h a a' s l)

      newest : (c u g : ℕ) → ((with_room p vw (reclaims v)).seg_of c ≡ none → ⊥) → (u₀ : ℕ) × (g₀ : ℕ) × WholeAt p vw c u₀ g₀ × (frame_stamp p (with_room p vw (reclaims v)) u g ≡ frame_stamp p vw u₀ g₀)
          → frame_stamp p (with_room p vw (reclaims v)) u g ≤ stamp_of p (frame_of p (with_room p vw (reclaims v)) c)
      newest c u g some (u₀, g₀, a, e) = go (neat.entries c (whole_low p z r vw (neat_fronts neat) c u₀ g₀ a))
        where
          go : (vw.seg_of c ≡ none) ⊎ Entry p vw c → frame_stamp p (with_room p vw (reclaims v)) u g ≤ stamp_of p (frame_of p (with_room p vw (reclaims v)) c)
          go (inl n) = absurd (some (reclaim_none c n))
          go (inr k) = rw (e, reclaim_frame c k) (t.newest c u₀ g₀ (λ n. some (reclaim_none c n)) a)

-- ---- a plan that opens a block: nothing stands there yet

module _ (p : Params) (z : Sizes p) (r : ℕ) (vw : View) (neat : Neat p r vw) (no_room_lem : has_room p vw ≡ false) (v : ℕ) (low : v < p.gamma) (lacks : assigned vw v ≡ false) where
  open_else : (u : ℕ) → (u ≡ v → ⊥) → (with_room p vw (opens v)).body u ≡ vw.body u
  open_else = opening.body_else_lem p z r vw neat no_room_lem v low lacks

  seg_same : (c : ℕ) → (with_room p vw (opens v)).seg_of c ≡ vw.seg_of c
  seg_same = opening.seg_same p z r vw neat no_room_lem v low lacks

  open_origin : (c u g : ℕ) → WholeAt p (with_room p vw (opens v)) c u g → (frame p ((with_room p vw (opens v)).body u) g ≡ frame p (vw.body u) g) × WholeAt p vw c u g
  open_origin c u g a = go (ℕ_discrete u v)
    where
      go : Dec (u ≡ v) → (frame p ((with_room p vw (opens v)).body u) g ≡ frame p (vw.body u) g) × WholeAt p vw c u g
      go (yes k) =
          let e : holds p (frame p (erased_block p) g) c ≡ true = rw (k, opening.body_here_lem p z r vw neat no_room_lem v low lacks) at a.whole in
          absurd (never e (erased_holds p (frame p (erased_block p) g) c (fresh_frame p g)))
      go (no k) =
          let e : frame p ((with_room p vw (opens v)).body u) g ≡ frame p (vw.body u) g = ap (λ (y : List ℕ). frame p y g) (open_else u k) in
          (e, record { block = a.block; low = a.low; whole = rw e at a.whole })

  open_stamp : (c u g : ℕ) → WholeAt p (with_room p vw (opens v)) c u g → frame_stamp p (with_room p vw (opens v)) u g ≡ frame_stamp p vw u g
  open_stamp c u g a = ap (stamp_of p) (open_origin c u g a).0

  open_frame : (c : ℕ) → Entry p vw c → frame_of p (with_room p vw (opens v)) c ≡ frame_of p vw c
  unfolding frame_of
  open_frame c e = rw (seg_same c, open_else (vblock_of p (vw.seg_of c)) (λ k. never (rw k at e.has) lacks))

  pub open_timely : Timely p vw → Timely p (with_room p vw (opens v))
  open_timely t =
      record {
        apart = λ c v₁ f₁ v₂ f₂ a b e. t.apart c v₁ f₁ v₂ f₂ (open_origin c v₁ f₁ a).1 (open_origin c v₂ f₂ b).1 (sym (open_stamp c v₁ f₁ a) ∙ e ∙ open_stamp c v₂ f₂ b);
        rises = λ c u g h a b s l. rw (open_stamp c u g a, open_stamp c u h b) (t.rises c u g h (open_origin c u g a).1 (open_origin c u h b).1 s l);
        newest = λ c u g some a. newest c u g some a (neat.entries c (whole_low p z r vw (neat_fronts neat) c u g (open_origin c u g a).1));
      }
    where
      newest : (c u g : ℕ) → ((with_room p vw (opens v)).seg_of c ≡ none → ⊥) → WholeAt p (with_room p vw (opens v)) c u g → (vw.seg_of c ≡ none) ⊎ Entry p vw c
          → frame_stamp p (with_room p vw (opens v)) u g ≤ stamp_of p (frame_of p (with_room p vw (opens v)) c)
      newest c u g some a (inl e) = absurd (some (seg_same c ∙ e))
      newest c u g some a (inr e) = rw (open_stamp c u g a, open_frame c e) (t.newest c u g (λ x. some (seg_same c ∙ x)) (open_origin c u g a).1)
