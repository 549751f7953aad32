-- A reclaim, in the region's view: every cluster reads as before, and there is a frame to write.
-- Assumes nothing.
use mathlib.Core.Path.{◌≡◌, refl, sym, ap, ap₂, ◌∙◌}
use mathlib.Core.Logic.{◌⊎◌, inl, inr}
use Prim.Native.Nat.{ℕ, ◌+◌, ◌*◌, ◌/◌, ◌≤◌, ◌<◌}
use native.Mathlib.Nat.{div-lt_iff_lt-mul, div-add-mod', zero-add}
use native.Mathlib.Omega.{arith}
use native.Mathlib.Decide.{ℕ_discrete, dec_lt}
use mathlib.Core.Bool.{Bool, true, false, ◌&&◌}
use mathlib.Core.List.{List, []}
use lib.Dec.{eqb, ltb}
use borrow.Author.Tests.{eq-eqb, ne_eqb, lt-ltb}
use lib.ListN.{length, get_or, length-map}
use Rattle.lists.specs.Below.{count_below}
use Rattle.lists.specs.Parts.{all_are}
use Rattle.lists.proofs.Joins.{updated_other, updated_same}
use Rattle.lists.proofs.Parts.{part_length}
use Rattle.lists.proofs.Ranks.{keep_at, keep_length, keep_nth, map_at, rank_low}
use Rattle.lists.proofs.Tests.{and_intro, last_is, never, so}
use Rattle.rules.specs.declared.Params.{Params}
use Rattle.rules.specs.Parameters.{block_bytes, frame_bytes, frames}
use Rattle.rules.specs.Numbers.{place_of, segment_of, vblock_of}
use Rattle.rules.specs.Tables.{none}
use Rattle.rules.specs.Pages.{filled, frame, held, holds, last_in, programmed}
use Rattle.rules.specs.Regions.{View, assigned, frame_of, sector_in, valid, valid_frames}
use Rattle.rules.specs.Write.{copies, has_room, reclaims}
use Rattle.rules.specs.Machine.{erased_block, follow, put_frames, with_room}
use Rattle.rules.proofs.Continues.{frames_pos}
use Rattle.rules.proofs.Following.{follow_hit, follow_miss}
use Rattle.rules.proofs.FramePut.{last_holds}
use Rattle.rules.proofs.Sizes.{Sizes}
use Rattle.rules.proofs.Frames.{erased_holds, erased_not, seg_low, seg_place, seg_vblock}
use Rattle.rules.proofs.Opens.{all_full, fresh_frame}
use Rattle.rules.proofs.RegionFacts.{Entry, GoodFrame, Neat, UpTo, good_held}
use Rattle.rules.proofs.RegionKept.{Base}
use Rattle.rules.proofs.Stamps.{Stood}
use Rattle.rules.proofs.Replays.{Wholes, fresh_size, one_fits, put_frames_else, put_frames_new, put_frames_size}
use Rattle.rules.proofs.Victims.{Valid, good_at, valid_in, valid_one, valid_out}
use Rattle.rules.proofs.Views.{some_bytes}

-- the i-th valid frame
unfoldable pub nth_valid : Params → View → ℕ → ℕ → ℕ
nth_valid p vw v i = get_or (valid_frames p vw v) i 0

module _ (p : Params) (z : Sizes p) (r : ℕ) (vw : View) (neat : Neat p r vw) (no_room_lem : has_room p vw ≡ false) (every : (u : ℕ) → u < p.gamma → assigned vw u ≡ true)
    (sized : (u : ℕ) → u < p.gamma → length (vw.body u) ≡ block_bytes p) (v : ℕ) (low : v < p.gamma) (few : length (valid_frames p vw v) < frames p) where
  pub nth_spec : (i : ℕ) → i < length (valid_frames p vw v) → (nth_valid p vw v i < frames p) × Valid p vw v (nth_valid p vw v i) × (count_below (nth_valid p vw v i) (valid p vw v) ≡ i)
  unfolding nth_valid valid_frames
  nth_spec i h =
      let w = keep_nth (frames p) (valid p vw v) i 0 (rw keep_length at h) in
      (w.0, valid_in p vw v _ w.1, w.2)

  pub copies_length : length (copies p vw (reclaims v)) ≡ length (valid_frames p vw v)
  unfolding copies
  copies_length = length-map (valid_frames p vw v) (frame p (vw.body v))

  pub copy_at : (i : ℕ) → i < length (valid_frames p vw v) → get_or (copies p vw (reclaims v)) i [] ≡ frame p (vw.body v) (nth_valid p vw v i)
  unfolding copies nth_valid
  copy_at i h = map_at (frame p (vw.body v)) (valid_frames p vw v) i 0 [] h

  frame_size : (f : ℕ) → f < frames p → length (frame p (vw.body v) f) ≡ frame_bytes p
  unfolding frame
  frame_size f h = part_length (frame_bytes p) f (vw.body v) (one_fits p (vw.body v) f (sized v low) h)

  pub wholes : Wholes p (copies p vw (reclaims v))
  wholes i h =
      let k : i < length (valid_frames p vw v) = rw copies_length at h in
      rw (copy_at i k) (frame_size (nth_valid p vw v i) (nth_spec i k).0)

  pub copies_fit : 0 + length (copies p vw (reclaims v)) ≤ frames p
  copies_fit = rw copies_length (omega arith)

  pub body_here_lem : (with_room p vw (reclaims v)).body v ≡ put_frames p 0 (copies p vw (reclaims v)) (erased_block p)
  unfolding with_room
  body_here_lem = updated_same vw.body v _

  pub body_else_lem : (u : ℕ) → (u ≡ v → ⊥) → (with_room p vw (reclaims v)).body u ≡ vw.body u
  unfolding with_room
  body_else_lem u ne = updated_other vw.body v _ u ne

  pub seg_is : (c : ℕ) → (with_room p vw (reclaims v)).seg_of c ≡ follow p v 0 (copies p vw (reclaims v)) vw.seg_of c
  unfolding with_room
  seg_is c = refl

  -- the frames of the new block
  pub frame_copy : (i : ℕ) → i < length (valid_frames p vw v) → frame p ((with_room p vw (reclaims v)).body v) i ≡ frame p (vw.body v) (nth_valid p vw v i)
  frame_copy i h =
      rw body_here_lem (sym (ap (frame p (put_frames p 0 (copies p vw (reclaims v)) (erased_block p))) (zero-add i))
      ∙ put_frames_new p (copies p vw (reclaims v)) 0 (erased_block p) (fresh_size p) wholes copies_fit i (rw copies_length h) ∙ copy_at i h)

  pub frame_rest : (g : ℕ) → length (valid_frames p vw v) ≤ g → all_are 255 (frame p ((with_room p vw (reclaims v)).body v) g) ≡ true
  frame_rest g h =
      rw (body_here_lem, put_frames_else p (copies p vw (reclaims v)) 0 (erased_block p) (fresh_size p) wholes copies_fit g (λ a k. omega (arith, copies_length))) (fresh_frame p g)

  -- ---- where each cluster's CT entry goes

  -- no valid frame of the victim holds it
  pub stays : (c : ℕ) → ((f : ℕ) → f < frames p → Valid p vw v f → held p (frame p (vw.body v) f) ≡ c → ⊥) → (with_room p vw (reclaims v)).seg_of c ≡ vw.seg_of c
  stays c h =
      seg_is c ∙ follow_miss p v c (copies p vw (reclaims v)) 0 vw.seg_of (λ i k e.
      let m : i < length (valid_frames p vw v) = rw copies_length at k in
      let w = nth_spec i m in h (nth_valid p vw v i) w.0 w.1 (sym (ap (held p) (copy_at i m)) ∙ e))

  -- valid frame f of the victim holds it
  module _ (c f : ℕ) (hf : f < frames p) (ok : Valid p vw v f) (is : held p (frame p (vw.body v) f) ≡ c) where
    rank : ℕ
    rank = count_below f (valid p vw v)

    rank_few : rank < length (valid_frames p vw v)
    unfolding rank valid_frames
    rank_few = rw keep_length (rank_low (frames p) (valid p vw v) f hf (valid_out p vw v f ok))

    nth_rank : nth_valid p vw v rank ≡ f
    unfolding nth_valid rank valid_frames
    nth_rank = keep_at (frames p) (valid p vw v) f 0 hf (valid_out p vw v f ok)

    only : (j : ℕ) → j < length (valid_frames p vw v) → held p (frame p (vw.body v) (nth_valid p vw v j)) ≡ c → j ≡ rank
    unfolding rank
    only j h e =
        let w = nth_spec j h in
        sym w.2 ∙ ap (λ x. count_below x (valid p vw v)) (valid_one p z vw v (nth_valid p vw v j) v f w.0 hf w.1 ok (e ∙ sym is)).1

    moved_seg : (with_room p vw (reclaims v)).seg_of c ≡ segment_of p v rank
    moved_seg =
        seg_is c ∙ follow_hit p v c (copies p vw (reclaims v)) 0 vw.seg_of rank (rw copies_length rank_few)
        (ap (held p) (copy_at rank rank_few ∙ ap (frame p (vw.body v)) nth_rank) ∙ is)
        (λ j h e. let m : j < length (valid_frames p vw v) = rw copies_length at h in only j m (sym (ap (held p) (copy_at j m)) ∙ e))
        ∙ ap (segment_of p v) (zero-add rank)

    moved_frame : frame p ((with_room p vw (reclaims v)).body v) rank ≡ frame p (vw.body v) f
    moved_frame = frame_copy rank rank_few ∙ ap (frame p (vw.body v)) nth_rank

    holds_here : holds p (frame p (vw.body v) f) c ≡ true
    holds_here =
        let k : last_in p (vw.body v) (f / p.beta) (held p (frame p (vw.body v) f)) < frames p = rw ok.last hf in
        rw (ok.last, is) at (last_holds p z (vw.body v) (f / p.beta) (held p (frame p (vw.body v) f)) k).1

    not_later : (g : ℕ) → rank < g → g < frames p → holds p (frame p ((with_room p vw (reclaims v)).body v) g) c ≡ false
    not_later g a h = go (dec_lt g (length (valid_frames p vw v)))
      where
        go : Dec (g < length (valid_frames p vw v)) → holds p (frame p ((with_room p vw (reclaims v)).body v) g) c ≡ false
        go (yes k) = rw (frame_copy g k) (other (so (holds p (frame p (vw.body v) (nth_valid p vw v g)) c)))
          where
            other : (holds p (frame p (vw.body v) (nth_valid p vw v g)) c ≡ true) ⊎ (holds p (frame p (vw.body v) (nth_valid p vw v g)) c ≡ false)
                → holds p (frame p (vw.body v) (nth_valid p vw v g)) c ≡ false
            other (inl t) =
                let e = only g k (good_held p z r v (frame p (vw.body v) (nth_valid p vw v g)) (good_at p z vw r neat no_room_lem every v (nth_valid p vw v g) low (nth_spec g k).0) c t) in
                absurd (omega (arith, e))
            other (inr t) = t
        go (no k) = erased_holds p _ c (frame_rest g (omega arith))

    moved_last : last_in p ((with_room p vw (reclaims v)).body v) (rank / p.beta) c ≡ rank
    unfolding last_in
    moved_last =
        last_is none (frames p) (λ g. eqb (g / p.beta) (rank / p.beta) && holds p (frame p ((with_room p vw (reclaims v)).body v) g) c) rank (omega (arith, rank_few))
        (and_intro (eq-eqb (rank / p.beta) (rank / p.beta) refl) (ap (λ x. holds p x c) moved_frame ∙ holds_here))
        (λ g a h. rw (not_later g a h) (none_pass (eqb (g / p.beta) (rank / p.beta))))
      where
        none_pass : (t : Bool) → t && false ≡ false
        none_pass true = refl
        none_pass false = refl

  -- each copy is valid where it now stands
  pub copy_valid : (i : ℕ) → i < length (valid_frames p vw v) → Valid p (with_room p vw (reclaims v)) v i
  unfolding rank
  copy_valid i h =
      let f = nth_valid p vw v i in
      let w = nth_spec i h in
      let c = held p (frame p (vw.body v) f) in
      record {
        written = rw (frame_copy i h) w.1.written;
        names = rw (frame_copy i h) (moved_seg c f w.0 w.1 refl ∙ ap (segment_of p v) w.2);
        last = rw (frame_copy i h) (rw w.2 at (moved_last c f w.0 w.1 refl));
      }

  -- ---- a cluster whose entry names the victim has a valid frame there

  module _ (c : ℕ) (e : Entry p vw c) (at : vblock_of p (vw.seg_of c) ≡ v) where
    old_frame : ℕ
    old_frame = last_in p (vw.body v) (place_of p (vw.seg_of c)) c

    old_low : old_frame < frames p
    unfolding old_frame
    old_low = rw at at e.held

    old_holds : (old_frame / p.beta ≡ place_of p (vw.seg_of c)) × (holds p (frame p (vw.body v) old_frame) c ≡ true)
    unfolding old_frame
    old_holds = last_holds p z (vw.body v) (place_of p (vw.seg_of c)) c old_low

    old_good : GoodFrame p r v (frame p (vw.body v) old_frame)
    old_good = good_at p z vw r neat no_room_lem every v old_frame low old_low

    old_is : held p (frame p (vw.body v) old_frame) ≡ c
    old_is = good_held p z r v (frame p (vw.body v) old_frame) old_good c old_holds.1

    old_segment : vw.seg_of c ≡ segment_of p v old_frame
    old_segment = sym (div-add-mod' (vw.seg_of c) p.d) ∙ ap₂ (λ x y. x * p.d + y) at (sym old_holds.0)

    old_valid : Valid p vw v old_frame
    old_valid =
        record {
          written = old_good.on;
          names = ap vw.seg_of old_is ∙ old_segment;
          last = ap₂ (λ x y. last_in p (vw.body v) x y) old_holds.0 old_is ∙ unfold old_frame in refl;
        }

  -- ---- all together

  -- a valid frame's cluster has an entry that names the victim
  names_v : (c f : ℕ) → f < frames p → Valid p vw v f → held p (frame p (vw.body v) f) ≡ c → (vblock_of p (vw.seg_of c) ≡ v) × (vw.seg_of c < p.gamma * p.d)
  names_v c f h ok e =
      let s : vw.seg_of c ≡ segment_of p v f = ap vw.seg_of (sym e) ∙ ok.names in
      (ap (vblock_of p) s ∙ seg_vblock p z v f h, rw s (seg_low p z v f h low))

  size_new : length ((with_room p vw (reclaims v)).body v) ≡ block_bytes p
  size_new = rw body_here_lem (put_frames_size p (copies p vw (reclaims v)) 0 (erased_block p) (fresh_size p) wholes copies_fit)

  has_all : (u : ℕ) → u < p.gamma → assigned (with_room p vw (reclaims v)) u ≡ true
  unfolding assigned
  has_all u h = go (ℕ_discrete u v)
    where
      go : Dec (u ≡ v) → ltb 0 (length ((with_room p vw (reclaims v)).body u)) ≡ true
      go (yes e) = rw (e, size_new) (lt-ltb 0 (block_bytes p) (some_bytes p (frames_pos p z) z.sectors))
      go (no e) = rw (body_else_lem u e) (every u h)

  data Fate (c : ℕ) : Type 0 where
    gone : vw.seg_of c ≡ none → (with_room p vw (reclaims v)).seg_of c ≡ none → Fate c
    kept : Entry p vw c → (vblock_of p (vw.seg_of c) ≡ v → ⊥) → (with_room p vw (reclaims v)).seg_of c ≡ vw.seg_of c → Fate c
    went : Entry p vw c → vblock_of p (vw.seg_of c) ≡ v → Fate c

  fate : (c : ℕ) → c < p.C → Fate c
  fate c h = go (neat.entries c h)
    where
      go : (vw.seg_of c ≡ none) ⊎ Entry p vw c → Fate c
      go (inl e) = gone e (stays c (λ f k ok is. omega (arith, (names_v c f k ok is).1, z.few)) ∙ e)
      go (inr e) = pick (ℕ_discrete (vblock_of p (vw.seg_of c)) v)
        where
          pick : Dec (vblock_of p (vw.seg_of c) ≡ v) → Fate c
          pick (yes k) = went e k
          pick (no k) = kept e k (stays c (λ f m ok is. k (names_v c f m ok is).0))

  entries : (c : ℕ) → c < p.C → ((with_room p vw (reclaims v)).seg_of c ≡ none) ⊎ Entry p (with_room p vw (reclaims v)) c
  entries c h = go (fate c h)
    where
      go : Fate c → ((with_room p vw (reclaims v)).seg_of c ≡ none) ⊎ Entry p (with_room p vw (reclaims v)) c
      go (gone e s) = inl s
      go (kept e ne s) =
          let g = ap (vblock_of p) s in
          inr (record {
            low = rw s e.low;
            has = rw g (has_all (vblock_of p (vw.seg_of c)) (((div-lt_iff_lt-mul z.segments).1 e.low)));
            held = rw (g, ap (place_of p) s, body_else_lem _ ne) e.held;
          })
      go (went e at) =
          let f = old_frame c e at in
          let i = rank c f (old_low c e at) (old_valid c e at) (old_is c e at) in
          let k : i < frames p = omega (arith, rank_few c f (old_low c e at) (old_valid c e at) (old_is c e at)) in
          let s = moved_seg c f (old_low c e at) (old_valid c e at) (old_is c e at) in
          let g : vblock_of p ((with_room p vw (reclaims v)).seg_of c) ≡ v = ap (vblock_of p) s ∙ seg_vblock p z v i k in
          let pl : place_of p ((with_room p vw (reclaims v)).seg_of c) ≡ i / p.beta = ap (place_of p) s ∙ seg_place p z v i k in
          inr (record {
            low = rw s (seg_low p z v i k low);
            has = rw g (has_all v low);
            held = rw (g, pl, moved_last c f (old_low c e at) (old_valid c e at) (old_is c e at)) k;
          })

  -- each programmed frame of the new block is a copy, the others are those they were
  pub reclaim_stood : Stood p vw (with_room p vw (reclaims v))
  reclaim_stood u g hu hg w = go (ℕ_discrete u v) (dec_lt g (length (valid_frames p vw v)))
    where
      go : Dec (u ≡ v) → Dec (g < length (valid_frames p vw v))
          → (u₀ : ℕ) × (g₀ : ℕ) × (u₀ < p.gamma) × (g₀ < frames p) × (frame p ((with_room p vw (reclaims v)).body u) g ≡ frame p (vw.body u₀) g₀)
      go (no ne) d = (u, g, hu, hg, ap (λ (l : List ℕ). frame p l g) (body_else_lem u ne))
      go (yes e) (yes d) = (v, nth_valid p vw v g, low, (nth_spec g d).0, rw e (frame_copy g d))
      go (yes e) (no d) =
          let k : programmed p (frame p ((with_room p vw (reclaims v)).body v) g) ≡ true = rw e at w in
          absurd (never k (erased_not p _ (frame_rest g (omega arith))))

  pub reclaim_base : Base p r (with_room p vw (reclaims v)) v (length (valid_frames p vw v))
  reclaim_base =
      record {
        ready = record { low = few; mine = low; size = size_new; rest = λ g a h. frame_rest g a };
        front = record { front = λ i a h. rw (frame_copy i a) (good_at p z vw r neat no_room_lem every v (nth_valid p vw v i) low (nth_spec i a).0); rest = λ g a h. frame_rest g a };
        others = others;
        entries = entries;
      }
    where
      others : (u : ℕ) → u < p.gamma → (u ≡ v → ⊥) → assigned (with_room p vw (reclaims v)) u ≡ true
          → (filled p ((with_room p vw (reclaims v)).body u) ≡ frames p) × UpTo p r u (frames p) ((with_room p vw (reclaims v)).body u)
      others u k ne a =
          let f = all_full p z r vw neat no_room_lem u k (every u k) in
          rw (body_else_lem u ne) (f, rw f at (neat.blocks u k (every u k)).1)

  pub reclaim_reads : (c : ℕ) → c < p.C → (j : ℕ) → sector_in p (with_room p vw (reclaims v)) c j ≡ sector_in p vw c j
  unfolding sector_in frame_of old_frame
  reclaim_reads c h j = go (fate c h)
    where
      go : Fate c → sector_in p (with_room p vw (reclaims v)) c j ≡ sector_in p vw c j
      go (gone e s) = rw (s, e)
      go (kept e ne s) = rw (s, body_else_lem _ ne)
      go (went e at) =
          let f = old_frame c e at in
          let i = rank c f (old_low c e at) (old_valid c e at) (old_is c e at) in
          let k : i < frames p = omega (arith, rank_few c f (old_low c e at) (old_valid c e at) (old_is c e at)) in
          let s = moved_seg c f (old_low c e at) (old_valid c e at) (old_is c e at) in
          let g : vblock_of p ((with_room p vw (reclaims v)).seg_of c) ≡ v = ap (vblock_of p) s ∙ seg_vblock p z v i k in
          let pl : place_of p ((with_room p vw (reclaims v)).seg_of c) ≡ i / p.beta = ap (place_of p) s ∙ seg_place p z v i k in
          rw (
            ne_eqb ((with_room p vw (reclaims v)).seg_of c) none (λ x. omega (arith, s, seg_low p z v i k low, z.few)),
            g,
            pl,
            moved_last c f (old_low c e at) (old_valid c e at) (old_is c e at),
            moved_frame c f (old_low c e at) (old_valid c e at) (old_is c e at),
            ne_eqb (vw.seg_of c) none (λ x. omega (arith, e.low, z.few)),
            at,
          )
