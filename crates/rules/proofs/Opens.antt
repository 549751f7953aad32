-- A plan that opens a block makes room.
-- Assumes nothing.
use mathlib.Core.Path.{◌≡◌, refl, sym, ap, ◌∙◌}
use mathlib.Core.Logic.{◌⊎◌, inl, inr}
use Prim.Native.Nat.{ℕ, ◌≤◌, ◌<◌}
use native.Mathlib.Omega.{arith}
use native.Mathlib.Decide.{ℕ_discrete}
use mathlib.Core.Bool.{true, false}
use mathlib.Core.List.{List}
use borrow.Author.Tests.{ne_eqb, ltb-false}
use lib.ListN.{length, replicate, length-set}
use lib.Seq.{get_or-set_same, get_or-set_other}
use Rattle.lists.specs.Parts.{all_are}
use Rattle.lists.proofs.Joins.{all_are_part, all_are_replicate, replicate_of, updated_other, updated_same}
use Rattle.lists.proofs.Parts.{next}
use Rattle.lists.proofs.Tests.{never}
use Rattle.rules.specs.declared.Params.{Params}
use Rattle.rules.specs.Parameters.{block_bytes, frame_bytes, frames}
use Rattle.rules.specs.Numbers.{place_of, vblock_of}
use Rattle.rules.specs.Tables.{Board, bst_at, bt_at, ct_at, none}
use Rattle.rules.specs.Pages.{block, filled, frame, programmed}
use Rattle.rules.specs.Regions.{View, assigned, frame_of, sector_in, view}
use Rattle.rules.specs.Traces.{clean, frames_ops, replay_chip}
use Rattle.rules.specs.Write.{copies, victim_ops, follow_ct, free_block, has_room, opens, plan_block, plan_bst, plan_frame, plan_vblock, room_ops}
use Rattle.rules.specs.Machine.{erased_block, with_room}
use Rattle.rules.proofs.Continues.{Makes, frames_pos, segs_in, segs_out}
use Rattle.rules.proofs.Sizes.{Sizes}
use Rattle.rules.proofs.Stamps.{Stood}
use Rattle.rules.proofs.Frames.{erased_not}
use Rattle.rules.proofs.RegionFacts.{Entry, Neat, Open, UpTo, filled_le, neat}
use Rattle.rules.proofs.RegionKept.{Base}
use Rattle.rules.proofs.Replays.{block_size, fresh_size}
use Rattle.rules.proofs.TableFacts.{Tables}
use Rattle.rules.proofs.Views.{HasFree, free_unnamed, no_block}

pub fresh_frame : (p : Params) (g : ℕ) → all_are 255 (frame p (erased_block p) g) ≡ true
unfolding erased_block frame
fresh_frame p g = all_are_part 255 (frame_bytes p) g (replicate (block_bytes p) 255) (all_are_replicate 255 (block_bytes p))

pub erased_fresh : (p : Params) (blk : List ℕ) → length blk ≡ block_bytes p → all_are 255 blk ≡ true → blk ≡ erased_block p
unfolding erased_block
erased_fresh p blk e h = replicate_of 255 blk h ∙ ap (λ (n : ℕ). replicate n 255) e

-- ---- no room in the open block: every block is full

pub all_full : (p : Params) (z : Sizes p) (r : ℕ) (vw : View) → Neat p r vw → has_room p vw ≡ false → (u : ℕ) → u < p.gamma → assigned vw u ≡ true → filled p (vw.body u) ≡ frames p
unfolding has_room
all_full p z r vw neat no_room_lem u h a = go neat.opened
  where
    go : (((v : ℕ) → v < p.gamma → assigned vw v ≡ false) × (vw.last_seg ≡ none)) ⊎ (((v : ℕ) × (v < p.gamma) × (assigned vw v ≡ true)) × Open p vw) → filled p (vw.body u) ≡ frames p
    go (inl w) = absurd (never a (w.0 u h))
    go (inr w) = pick (ℕ_discrete u (vblock_of p vw.last_seg))
      where
        full : filled p (vw.body (vblock_of p vw.last_seg)) ≡ frames p
        full =
            let k : frames p ≤ filled p (vw.body (vblock_of p vw.last_seg)) =
            ltb-false _ _ (rw (ne_eqb vw.last_seg none (λ e. omega (arith, w.1.low, z.few))) at no_room_lem) in
            omega (arith, filled_le p (vw.body (vblock_of p vw.last_seg)))

        pick : Dec (u ≡ vblock_of p vw.last_seg) → filled p (vw.body u) ≡ frames p
        pick (yes e) = rw e full
        pick (no e) = w.1.full u h e a

module _ (p : Params) (z : Sizes p) (r : ℕ) (vw : View) (neat : Neat p r vw) (no_room_lem : has_room p vw ≡ false) (v : ℕ) (low : v < p.gamma) (lacks : assigned vw v ≡ false) where
  pub body_here_lem : (with_room p vw (opens v)).body v ≡ erased_block p
  unfolding with_room
  body_here_lem = updated_same vw.body v (erased_block p)

  pub body_else_lem : (u : ℕ) → (u ≡ v → ⊥) → (with_room p vw (opens v)).body u ≡ vw.body u
  unfolding with_room
  body_else_lem u ne = updated_other vw.body v (erased_block p) u ne

  pub seg_same : (c : ℕ) → (with_room p vw (opens v)).seg_of c ≡ vw.seg_of c
  unfolding with_room
  seg_same c = refl

  not_v : (u : ℕ) → assigned vw u ≡ true → u ≡ v → ⊥
  not_v u a e = never (sym (ap (assigned vw) e) ∙ a) lacks

  has_else : (u : ℕ) → (u ≡ v → ⊥) → assigned (with_room p vw (opens v)) u ≡ assigned vw u
  unfolding assigned
  has_else u ne = rw (body_else_lem u ne)

  entry : (c : ℕ) → Entry p vw c → Entry p (with_room p vw (opens v)) c
  entry c e =
      let k = ap (vblock_of p) (seg_same c) in
      let ne = not_v _ e.has in
      record { low = rw (seg_same c) e.low; has = rw k (has_else _ ne ∙ e.has); held = rw (k, ap (place_of p) (seg_same c), body_else_lem _ ne) e.held }

  entries : (c : ℕ) → c < p.C → ((with_room p vw (opens v)).seg_of c ≡ none) ⊎ Entry p (with_room p vw (opens v)) c
  entries c h = go (neat.entries c h)
    where
      go : (vw.seg_of c ≡ none) ⊎ Entry p vw c → ((with_room p vw (opens v)).seg_of c ≡ none) ⊎ Entry p (with_room p vw (opens v)) c
      go (inl e) = inl (seg_same c ∙ e)
      go (inr e) = inr (entry c e)

  pub open_reads : (c : ℕ) → c < p.C → (j : ℕ) → sector_in p (with_room p vw (opens v)) c j ≡ sector_in p vw c j
  unfolding sector_in frame_of
  open_reads c h j = go (neat.entries c h)
    where
      go : (vw.seg_of c ≡ none) ⊎ Entry p vw c → sector_in p (with_room p vw (opens v)) c j ≡ sector_in p vw c j
      go (inl e) = rw (seg_same c, e)
      go (inr e) = rw (seg_same c, body_else_lem _ (not_v _ e.has))

  -- the frames of the new block are erased, the others are those they were
  pub open_stood : Stood p vw (with_room p vw (opens v))
  open_stood u g hu hg w = go (ℕ_discrete u v)
    where
      go : Dec (u ≡ v) → (u₀ : ℕ) × (g₀ : ℕ) × (u₀ < p.gamma) × (g₀ < frames p) × (frame p ((with_room p vw (opens v)).body u) g ≡ frame p (vw.body u₀) g₀)
      go (yes e) =
          let k : programmed p (frame p (erased_block p) g) ≡ true = rw (e, body_here_lem) at w in
          absurd (never k (erased_not p (frame p (erased_block p) g) (fresh_frame p g)))
      go (no ne) = (u, g, hu, hg, ap (λ (l : List ℕ). frame p l g) (body_else_lem u ne))

  pub open_base : Base p r (with_room p vw (opens v)) v 0
  open_base =
      record {
        ready = record { low = frames_pos p z; mine = low; size = rw body_here_lem (fresh_size p); rest = λ g a k. rw body_here_lem (fresh_frame p g) };
        front = record { front = λ f a k. absurd (omega arith); rest = λ g a k. rw body_here_lem (fresh_frame p g) };
        others = others;
        entries = entries;
      }
    where
      others : (u : ℕ) → u < p.gamma → (u ≡ v → ⊥) → assigned (with_room p vw (opens v)) u ≡ true
          → (filled p ((with_room p vw (opens v)).body u) ≡ frames p) × UpTo p r u (frames p) ((with_room p vw (opens v)).body u)
      others u k ne a =
          let w : assigned vw u ≡ true = sym (has_else u ne) ∙ a in
          let f = all_full p z r vw neat no_room_lem u k w in
          rw (body_else_lem u ne) (f, rw f at (neat.blocks u k w).1)

pub free_fresh : (p : Params) (z : Sizes p) (b : Board) → Tables p b → HasFree p b → block p b.chip (free_block p b.bst b.wear) ≡ erased_block p
free_fresh p z b t w =
    erased_fresh p (block p b.chip (free_block p b.bst b.wear))
    (block_size p b.chip (free_block p b.bst b.wear) (rw t.chip_length (next (block_bytes p) (free_block p b.bst b.wear) p.N w.0)))
    (t.free (free_block p b.bst b.wear) w.0 w.1)

module _ (p : Params) (z : Sizes p) (b : Board) (t : Tables p b) (r : ℕ) (region : r < p.mu) (neat : Neat p r (view p b r)) (no_room_lem : has_room p (view p b r) ≡ false)
    (v : ℕ) (low : v < p.gamma) (lacks : assigned (view p b r) v ≡ false) (w : HasFree p b) where
  unnamed : bt_at p b.bt r v ≡ none
  unnamed = no_block p z b t r v region low (frames_pos p z) lacks

  pub open_makes : Makes p b r (opens v)
  unfolding plan_vblock plan_block plan_frame room_ops frames_ops victim_ops copies follow_ct replay_chip plan_bst clean
  open_makes =
      record {
        room =
            record {
              chip_length = t.chip_length;
              low = w.0;
              taken = λ e. omega (arith, w.0, z.blocks);
              own = λ i h ne k. free_unnamed p z b t w i h;
              here = free_fresh p z b t w ∙ sym (body_here_lem p z r (view p b r) neat no_room_lem v low lacks);
              block_else = λ i h ne k. refl;
              body_else = body_else_lem p z r (view p b r) neat no_room_lem v low lacks;
              ct_length = t.ct_length;
              segs_here = unfold ct_at in (λ c e. segs_in p b r c e ∙ sym (seg_same p z r (view p b r) neat no_room_lem v low lacks c));
              segs_else = λ c ne. unfold ct_at in refl;
              segs_none = λ c ne. seg_same p z r (view p b r) neat no_room_lem v low lacks c ∙ segs_out p b r c ne;
            };
        base = open_base p z r (view p b r) neat no_room_lem v low lacks;
        tidy = refl;
        reads = open_reads p z r (view p b r) neat no_room_lem v low lacks;
        stood = open_stood p z r (view p b r) neat no_room_lem v low lacks;
        found = λ e. w;
        bst_length = length-set b.bst (free_block p b.bst b.wear) 1 ∙ t.bst_length;
        was = λ e. omega (arith, w.1);
        kind_here = get_or-set_same b.bst (free_block p b.bst b.wear) 1 0 (rw t.bst_length w.0);
        kind_old = λ ne k. absurd (k unnamed);
        block_old = λ ne k. absurd (k unnamed);
        kind_else = λ m h ne k. unfold bst_at in get_or-set_other b.bst (free_block p b.bst b.wear) m 1 0 ne;
        block_else = λ m h ne k. refl;
      }
