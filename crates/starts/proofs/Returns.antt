-- A start on a chip that shows a steady board b is not refused and gives back a board that stands: every region has b's bytes, so what was live has the CT entry that it had, and another cluster
-- is found as its frame of largest stamp. It erases one block at most.
-- Assumes nothing.
use mathlib.Core.Path.{◌≡◌, refl, sym, ap, ◌∙◌}
use mathlib.Core.Logic.{◌⊎◌, inl, inr}
use Prim.Native.Nat.{ℕ, zero, suc, ◌-◌, ◌≤◌, ◌<◌}
use native.Mathlib.Nat.{mod-lt}
use native.Mathlib.Omega.{arith}
use native.Mathlib.Decide.{ℕ_discrete, dec_lt}
use mathlib.Core.Bool.{Bool, true, false, cond}
use mathlib.Core.List.{List, [], ◌∷◌}
use lib.Dec.{eqb}
use borrow.Author.Tests.{eq-eqb, ne_eqb}
use lib.ListN.{get_or-eq_default, length, replicate, take}
use lib.Seq.{take-nil}
use Rattle.lists.specs.Below.{count_below}
use Rattle.lists.proofs.Lists.{list_at}
use Rattle.lists.proofs.Parts.{next}
use Rattle.lists.proofs.Tests.{and_intro}
use Rattle.rules.specs.declared.Params.{Params}
use Rattle.rules.specs.Parameters.{allowed, block_bytes, frames}
use Rattle.rules.specs.Numbers.{region_of, segment_of, vblock_of}
use Rattle.rules.specs.Tables.{Board, bst_at, bt_at, ct_at, none}
use Rattle.rules.specs.Pages.{block, frame, held, holds, le32, page, spare, whole}
use Rattle.rules.specs.Regions.{frame_of, sector, sector_in, view, view_of}
use Rattle.rules.specs.Format.{bad}
use Rattle.rules.specs.Start.{found_bt, found_segment, found_view, in_use, left_over, start_ops, startable, started}
use Rattle.rules.specs.Replies.{lengths_fit}
use Rattle.rules.specs.Traces.{erase, erase_ops, erase_where, erases_in, mark, replay_chip, worn}
use Rattle.rules.proofs.BadBytes.{blank_good}
use Rattle.rules.proofs.Erases.{erases_counted, erases_below}
use Rattle.rules.proofs.Frames.{seg_low}
use Rattle.rules.proofs.RegionFacts.{Entry, Fronts, good_holds}
use Rattle.rules.proofs.Replays.{block_size}
use Rattle.rules.proofs.Sizes.{Sizes, sizes}
use Rattle.rules.proofs.TableFacts.{Tables}
use Rattle.rules.proofs.WornBlocks.{first_ops, left_ran}
use Rattle.starts.specs.Admitted.{StartAdmitted}
use Rattle.starts.specs.Stands.{Clear, Stands}
use Rattle.starts.specs.Timely.{Timely, WholeAt, frame_stamp}
use Rattle.starts.proofs.Again.{reserved_bad}
use Rattle.starts.proofs.Found.{found_frame, same_segment}
use Rattle.starts.proofs.KeptBlocks.{named_use, use_good}
use Rattle.starts.proofs.Refound.{found_live, refound_frame, refound_timely, timely_apart}
use Rattle.starts.proofs.Shows.{LeftOver, Shows, found_body, own_use, owner}
use Rattle.starts.proofs.ShowsStarts.{left_x, one_passes, shows_startable, start_ops_lem}
use Rattle.starts.proofs.StartPromise.{body_same, start_lengths, start_orderly}
use Rattle.starts.proofs.StartTables.{start_tables}
use Rattle.starts.proofs.Timely.{whole_good}
use Rattle.starts.proofs.Retired.{retired_reads}
use Rattle.starts.proofs.Steady.{Old, ReadsOld, Shown, Steady, reads_old}

module _ (p : Params) (fine : allowed p ≡ true) (b₀ b : Board) (x : ℕ) (lengths : lengths_fit p b₀ ≡ true) (st : Steady p b) (sh : Shown p b₀.chip b x) where
  z : Sizes p
  z = sizes p fine

  t : Tables p b
  t = st.tables

  s : Shows p b₀.chip b x
  s = sh.shows

  -- ---- it is not refused

  block_sized : (n : ℕ) → n < p.N → length (block p b₀.chip n) ≡ block_bytes p
  block_sized n h = block_size p b₀.chip n (rw s.size (next (block_bytes p) n p.N h))

  -- a block is bad on the chip exactly if it is reserved
  pub bad_is : (n : ℕ) → n < p.N → bad p b₀.chip n ≡ eqb (bst_at b.bst n) 2
  bad_is n h = go (bst_at b.bst n) refl (t.kinds n h)
    where
      go : (k : ℕ) → bst_at b.bst n ≡ k → k ≤ 2 → bad p b₀.chip n ≡ eqb k 2
      go zero e l = pick (ℕ_discrete n x)
        where
          free : block p b₀.chip n ≡ block p b.chip n → bad p b₀.chip n ≡ false
          free f = blank_good p b₀.chip n z (block_sized n h) (rw f (t.free n h e))

          pick : Dec (n ≡ x) → bad p b₀.chip n ≡ false
          pick (no d) = free (s.else n h d)
          pick (yes d) = other (s.here (rw (← d) h))
            where
              other : (block p b₀.chip x ≡ block p b.chip x) ⊎ LeftOver p b₀.chip b x → bad p b₀.chip n ≡ false
              other (inl f) = free (rw d f)
              other (inr l) = use_good p b₀.chip n (ap (in_use p b₀.chip) d ∙ l.used)
      go (suc zero) e l =
          let w = owner p z b₀.chip b t x s n h e in
          let ne : bt_at p b.bt w.0 w.1 ≡ none → ⊥ = λ y. omega (arith, w.4, y, h, z.blocks) in
          let u = named_use p z b₀.chip w.0 w.1 _ (own_use p z b₀.chip b t x s w.0 w.1 w.2 w.3 ne) in
          use_good p b₀.chip n (rw w.4 at u)
      go (suc (suc zero)) e l = s.marked n h e
      go (suc (suc (suc k))) e l = absurd (omega arith)

  pub steady_fronts : (r : ℕ) → r < p.mu → Fronts p r (view p b r)
  steady_fronts r h v k a = (st.blocks r v h k a).1

  -- a whole frame holds what its first page says
  whole_holds : (r : ℕ) → r < p.mu → (u g : ℕ) → u < p.gamma → g < frames p → whole p (frame p ((view p b r).body u) g) ≡ true
      → holds p (frame p ((view p b r).body u) g) (held p (frame p ((view p b r).body u) g)) ≡ true
  whole_holds r h u g hu hg e =
      let fr : List ℕ = frame p ((view p b r).body u) g in
      let c : ℕ = le32 (spare p (frame p ((view p b r).body u) g) (p.alpha - 1)) in
      let y : holds p fr c ≡ true = unfold holds in and_intro e (eq-eqb c c refl) in
      good_holds p z r u fr (whole_good p z r (view p b r) (steady_fronts r h) c u g (record { block = hu; low = hg; whole = y })) e

  starts : startable p b₀.chip ≡ true
  starts = shows_startable p z b₀.chip b t x s st.once (λ r h. timely_apart p z (view p b r) (st.timely r h) (whole_holds r h))

  pub returns_admitted : StartAdmitted p b₀
  returns_admitted = record { fine = fine; lengths = lengths; starts = starts }

  -- ---- the views that it leaves

  module _ (r : ℕ) (region : r < p.mu) where
    pub returns_bodies : (v : ℕ) → (view p (started p b₀) r).body v ≡ (view p b r).body v
    returns_bodies v = sym (body_same p b₀ returns_admitted r region v) ∙ found_body p z b₀.chip b t x s r region v

    segs : (c : ℕ) → c < p.C → region_of p c ≡ r → (view p (started p b₀) r).seg_of c ≡ found_segment p (view p b r) c
    segs c h e =
        found ∙ ap (λ (y : ℕ). found_segment p (found_view p b₀.chip (found_bt p b₀.chip) y) c) e
        ∙ same_segment p (found_view p b₀.chip (found_bt p b₀.chip) r) (view p b r) (found_body p z b₀.chip b t x s r region) c
      where
        found : (view p (started p b₀) r).seg_of c ≡ found_segment p (found_view p b₀.chip (found_bt p b₀.chip) (region_of p c)) c
        found =
            unfold view_of ct_at started in rw (eq-eqb (region_of p c) r e) (list_at p.C (λ c. found_segment p (found_view p b₀.chip (found_bt p b₀.chip) (region_of p c)) c) c none h)

    past_end : (c : ℕ) → p.C ≤ c → ct_at (started p b₀).ct c ≡ none
    unfolding ct_at
    past_end c h = get_or-eq_default (started p b₀).ct none {n = c} (rw (start_tables p b₀ returns_admitted).ct_length h)

    segs_any : (c : ℕ) → ((view p (started p b₀) r).seg_of c ≡ none) ⊎ ((view p (started p b₀) r).seg_of c ≡ found_segment p (view p b r) c)
    segs_any c = go (ℕ_discrete (region_of p c) r) (dec_lt c p.C)
      where
        go : Dec (region_of p c ≡ r) → Dec (c < p.C) → ((view p (started p b₀) r).seg_of c ≡ none) ⊎ ((view p (started p b₀) r).seg_of c ≡ found_segment p (view p b r) c)
        go (no e) d = inl (unfold view_of in rw (ne_eqb (region_of p c) r e))
        go (yes e) (yes d) = inr (segs c d e)
        go (yes e) (no d) = inl (unfold view_of in rw (eq-eqb (region_of p c) r e) (past_end c (omega arith)))

    left_timely : Timely p (view p (started p b₀) r)
    left_timely = refound_timely p z (view p b r) (view p (started p b₀) r) returns_bodies (st.timely r region) segs_any

    -- a cluster with a CT entry has the same
    pub returns_live : (c : ℕ) → c < p.C → region_of p c ≡ r → Entry p (view p b r) c → (view p (started p b₀) r).seg_of c ≡ (view p b r).seg_of c
    returns_live c h is e = segs c h is ∙ found_live p z (view p b r) (st.timely r region) c e

  -- ---- what is read

  -- a cluster is found as its frame of largest stamp, or has none
  pub data Came (c : ℕ) : Type 0 where
    lacks : ((u g : ℕ) → WholeAt p (view p b (region_of p c)) c u g → ⊥) → (view p (started p b₀) (region_of p c)).seg_of c ≡ none → Came c
    comes : (v f : ℕ) → WholeAt p (view p b (region_of p c)) c v f
        → ((u g : ℕ) → WholeAt p (view p b (region_of p c)) c u g → frame_stamp p (view p b (region_of p c)) u g ≤ frame_stamp p (view p b (region_of p c)) v f)
        → (view p (started p b₀) (region_of p c)).seg_of c ≡ segment_of p v f → Came c

  pub came : (c : ℕ) → c < p.C → Came c
  came c h = go (found_frame p z (view p b (region_of p c)) c)
    where
      region : region_of p c < p.mu
      region = mod-lt c z.regions

      go : ((found_segment p (view p b (region_of p c)) c ≡ none) × ((v f : ℕ) → WholeAt p (view p b (region_of p c)) c v f → ⊥))
          ⊎ ((v : ℕ) × (f : ℕ) × WholeAt p (view p b (region_of p c)) c v f × (found_segment p (view p b (region_of p c)) c ≡ segment_of p v f)
          × ((u g : ℕ) → WholeAt p (view p b (region_of p c)) c u g → frame_stamp p (view p b (region_of p c)) u g ≤ frame_stamp p (view p b (region_of p c)) v f))
          → Came c
      go (inl w) = lacks w.1 (segs (region_of p c) region c h refl ∙ w.0)
      go (inr (v, f, a, e, most)) = comes v f a most (segs (region_of p c) region c h refl ∙ e)

  -- and is read so
  pub came_none : (c j : ℕ) → (view p (started p b₀) (region_of p c)).seg_of c ≡ none → sector p (started p b₀) c j ≡ replicate p.s 255
  unfolding sector sector_in
  came_none c j e = rw e

  pub came_some : (c j v f : ℕ) → WholeAt p (view p b (region_of p c)) c v f
      → ((u g : ℕ) → WholeAt p (view p b (region_of p c)) c u g → frame_stamp p (view p b (region_of p c)) u g ≤ frame_stamp p (view p b (region_of p c)) v f)
      → (view p (started p b₀) (region_of p c)).seg_of c ≡ segment_of p v f → sector p (started p b₀) c j ≡ take p.s (page p (frame p ((view p b (region_of p c)).body v) f) j)
  unfolding sector sector_in
  came_some c j v f a most e =
      let region : region_of p c < p.mu = mod-lt c z.regions in
      rw (
        ne_eqb ((view p (started p b₀) (region_of p c)).seg_of c) none (λ y. omega (arith, e, y, seg_low p z v f a.low a.block, z.few)),
        refound_frame p z (view p b (region_of p c)) (view p (started p b₀) (region_of p c)) (returns_bodies (region_of p c) region) (st.timely (region_of p c) region) c v f a most e,
      )

  -- what the board has a CT entry for reads as it did, and so does a cluster without a frame
  pub returns_read : (c : ℕ) → c < p.C → Clear p b c → (j : ℕ) → sector p (started p b₀) c j ≡ sector p b c j
  unfolding sector sector_in frame_of
  returns_read c h clear j = go (st.entries (region_of p c) region c h)
    where
      region : region_of p c < p.mu
      region = mod-lt c z.regions

      go : ((view p b (region_of p c)).seg_of c ≡ none) ⊎ Entry p (view p b (region_of p c)) c → sector_in p (view p (started p b₀) (region_of p c)) c j ≡ sector_in p (view p b (region_of p c)) c j
      go (inr e) = rw (returns_live (region_of p c) region c h refl e, returns_bodies (region_of p c) region (vblock_of p ((view p b (region_of p c)).seg_of c)))
      go (inl e) = pick (came c h)
        where
          pick : Came c → sector_in p (view p (started p b₀) (region_of p c)) c j ≡ sector_in p (view p b (region_of p c)) c j
          pick (lacks w n) = rw (n, e)
          pick (comes v f a most n) = absurd (clear e v f a)

  -- ---- the board that it leaves stands

  pub returns_stands : Stands p (started p b₀)
  returns_stands =
      record {
        fine = fine;
        lengths = start_lengths p b₀ returns_admitted;
        order = start_orderly p b₀ returns_admitted;
        timely = left_timely;
        marked = reserved_bad p b₀ returns_admitted;
      }

  pub returns_clear : (c : ℕ) → c < p.C → Clear p (started p b₀) c
  returns_clear c h e u g a = go (came c h)
    where
      region : region_of p c < p.mu
      region = mod-lt c z.regions

      back : WholeAt p (view p b (region_of p c)) c u g
      back = record { block = a.block; low = a.low; whole = sym (ap (λ (y : List ℕ). holds p (frame p y g) c) (returns_bodies (region_of p c) region u)) ∙ a.whole }

      go : Came c → ⊥
      go (lacks w n) = w u g back
      go (comes v f i most n) = omega (arith, n, e, seg_low p z v f i.low i.block, z.few)

  -- ---- its erases

  one_left : count_below p.N (left_over p b₀.chip) ≤ 1
  one_left =
      one_passes p.N (left_over p b₀.chip) (λ i j hi hj a c. (left_x p z b₀.chip b t x s i hi a).0 ∙ sym (left_x p z b₀.chip b t x s j hj c).0)

  pub returns_once : erases_in (start_ops p b₀.chip b₀.wear) ≤ 1
  unfolding start_ops erase_where erases_below
  returns_once = rw (erases_counted p b₀.wear (left_over p b₀.chip) p.N).1 one_left

  -- ---- and where it is cut

  erased_else : (t' : Bool) → x < p.N → (m : ℕ) → m < p.N → (m ≡ x → ⊥) → block p (replay_chip p b₀.chip (erase x ∷ cond t' (mark x ∷ []) [])) m ≡ block p b.chip m
  erased_else t' h m k ne = (left_ran p z b₀.chip x (rw s.size (next (block_bytes p) x p.N h)) t').else m ne ∙ s.else m k ne

  -- with block x erased, and marked or not, the chip shows a board that reads the same
  erased_reads : (t' : Bool) → x < p.N → (b₁ : Board) → Old p b₁ b → ReadsOld p b₁ (replay_chip p b₀.chip (erase x ∷ cond t' (mark x ∷ []) []))
  erased_reads t' h b₁ old =
      let ran = left_ran p z b₀.chip x (rw s.size (next (block_bytes p) x p.N h)) t' in
      retired_reads p z b st x h s.free t' (replay_chip p b₀.chip (erase x ∷ cond t' (mark x ∷ []) [])) (ran.size ∙ s.size) ran.here (erased_else t' h) b₁ old

  pub returns_cut : (b₁ : Board) → Old p b₁ b → (k : ℕ) → ReadsOld p b₁ (replay_chip p b₀.chip (take k (start_ops p b₀.chip b₀.wear)))
  returns_cut b₁ old k = go (start_ops_lem p z b₀.chip b t x s b₀.wear)
    where
      as_it_was : ReadsOld p b₁ b₀.chip
      as_it_was = reads_old b x st sh old

      part : x < p.N → (take k (erase_ops p b₀.wear x) ≡ []) ⊎ ((take k (erase_ops p b₀.wear x) ≡ erase x ∷ []) ⊎ (take k (erase_ops p b₀.wear x) ≡ erase_ops p b₀.wear x))
          → ReadsOld p b₁ (replay_chip p b₀.chip (take k (erase_ops p b₀.wear x)))
      part h (inl e) = rw e (unfold replay_chip in as_it_was)
      part h (inr (inl e)) = rw e (erased_reads false h b₁ old)
      part h (inr (inr e)) = rw e (unfold erase_ops in erased_reads (worn p b₀.wear x) h b₁ old)

      go : ((x < p.N) × (start_ops p b₀.chip b₀.wear ≡ erase_ops p b₀.wear x)) ⊎ (start_ops p b₀.chip b₀.wear ≡ [])
          → ReadsOld p b₁ (replay_chip p b₀.chip (take k (start_ops p b₀.chip b₀.wear)))
      go (inl w) = rw w.1 (part w.0 (first_ops p b₀.wear x k))
      go (inr e) = rw (e, take-nil k) (unfold replay_chip in as_it_was)
