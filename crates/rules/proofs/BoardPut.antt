-- A frame put on a board where a plan has made room: what each region sees.
-- Assumes nothing.
use mathlib.Core.Path.{◌≡◌, sym, ap, ◌∙◌}
use Prim.Native.Nat.{ℕ, ◌+◌, ◌*◌, ◌≤◌, ◌<◌}
use native.Mathlib.Omega.{arith}
use native.Mathlib.Decide.{ℕ_discrete}
use mathlib.Core.Bool.{true}
use mathlib.Core.List.{List}
use lib.ListN.{length, get_or, set}
use lib.Seq.{get_or-set_same, get_or-set_other}
use Rattle.lists.specs.Below.{updated}
use Rattle.lists.proofs.Joins.{updated_other, updated_same}
use Rattle.lists.proofs.Parts.{next}
use Rattle.rules.specs.declared.Params.{Params}
use Rattle.rules.specs.Parameters.{block_bytes}
use Rattle.rules.specs.Numbers.{region_of, segment_of}
use Rattle.rules.specs.Tables.{Board, bt_entry, ct_at, fst_at, none}
use Rattle.rules.specs.Pages.{block}
use Rattle.rules.specs.Regions.{View, view}
use Rattle.rules.specs.Traces.{clean, frame_ops, replay_chip}
use Rattle.rules.specs.Machine.{with_frame}
use Rattle.rules.proofs.Chip.{block_other, block_same, run_clean, run_length}
use Rattle.rules.proofs.FramePut.{Ready, Sheet}
use Rattle.rules.proofs.Isolation.{Effect, index_low}
use Rattle.rules.proofs.Sizes.{Sizes}
use Rattle.rules.proofs.TableFacts.{Tables}

-- chip₁ and ct₁ have block n as the region's view vw₁ has virtual block v; the other blocks that BT names are as on b
pub record Room (p : Params) (b : Board) (r v n : ℕ) (chip₁ ct₁ : List ℕ) (vw₁ : View) : Type 0 where
  pub chip_length : length chip₁ ≡ p.N * block_bytes p
  pub low : n < p.N
  pub taken : n ≡ none → ⊥
  pub own : (i : ℕ) → i < p.mu * p.gamma → (i ≡ r * p.gamma + v → ⊥) → (bt_entry b.bt i ≡ none → ⊥) → bt_entry b.bt i ≡ n → ⊥
  pub here : block p chip₁ n ≡ vw₁.body v
  pub block_else : (i : ℕ) → i < p.mu * p.gamma → (i ≡ r * p.gamma + v → ⊥) → (bt_entry b.bt i ≡ none → ⊥) → block p chip₁ (bt_entry b.bt i) ≡ block p b.chip (bt_entry b.bt i)
  pub body_else : (u : ℕ) → (u ≡ v → ⊥) → vw₁.body u ≡ (view p b r).body u
  pub ct_length : length ct₁ ≡ p.C
  pub segs_here : (c : ℕ) → region_of p c ≡ r → get_or ct₁ c none ≡ vw₁.seg_of c
  pub segs_else : (c : ℕ) → (region_of p c ≡ r → ⊥) → get_or ct₁ c none ≡ ct_at b.ct c
  pub segs_none : (c : ℕ) → (region_of p c ≡ r → ⊥) → vw₁.seg_of c ≡ none

-- b' is b with the frame x of cluster c put at frame f of block n, which virtual block v of region r has from now on
pub record Put (p : Params) (b b' : Board) (r v n f c : ℕ) (x chip₁ ct₁ : List ℕ) : Type 0 where
  pub chip : b'.chip ≡ replay_chip p chip₁ (frame_ops p n f x p.alpha)
  pub ct : b'.ct ≡ set ct₁ c (segment_of p v f)
  pub bt : b'.bt ≡ set b.bt (r * p.gamma + v) n
  pub fst : b'.fst ≡ set b.fst r (segment_of p v f)

module _ (p : Params) (z : Sizes p) (b b' : Board) (t : Tables p b) (r v n f c : ℕ) (x chip₁ ct₁ : List ℕ) (vw₁ : View) (room : Room p b r v n chip₁ ct₁ vw₁)
    (put : Put p b b' r v n f c x chip₁ ct₁) (region : r < p.mu) (cluster : c < p.C) (mine : region_of p c ≡ r) (ready : Ready p vw₁ v f) (sheet : Sheet p v c x) where
  chip_fits : n * block_bytes p + block_bytes p ≤ length chip₁
  chip_fits = rw room.chip_length (next (block_bytes p) n p.N room.low)

  -- each program is of an erased page
  pub host_clean : clean p chip₁ (frame_ops p n f x p.alpha) ≡ true
  host_clean = run_clean p chip₁ x n f chip_fits sheet.whole ready.low (rw room.here (ready.rest f (omega arith) ready.low))

  pub chip_length_lem : length b'.chip ≡ p.N * block_bytes p
  chip_length_lem = rw put.chip (run_length p chip₁ x n f chip_fits sheet.whole ready.low ∙ room.chip_length)

  pub block_else_lem : (m : ℕ) → (m ≡ n → ⊥) → block p b'.chip m ≡ block p chip₁ m
  block_else_lem m ne = rw put.chip (block_other p chip₁ x n f chip_fits sheet.whole ready.low m ne)

  block_here : block p b'.chip n ≡ (with_frame p vw₁ v f c x).body v
  unfolding with_frame
  block_here = rw put.chip (block_same p chip₁ x n f chip_fits sheet.whole ready.low ∙ rw (updated_same, room.here))

  at_index : r * p.gamma + v < length b.bt
  at_index = rw t.bt_length (index_low p r v region ready.mine)

  entry_else_lem : (i : ℕ) → (i ≡ r * p.gamma + v → ⊥) → bt_entry b'.bt i ≡ bt_entry b.bt i
  unfolding bt_entry
  entry_else_lem i ne = rw put.bt (get_or-set_other b.bt (r * p.gamma + v) i n none ne)

  entry_here_lem : bt_entry b'.bt (r * p.gamma + v) ≡ n
  unfolding bt_entry
  entry_here_lem = rw put.bt (get_or-set_same b.bt (r * p.gamma + v) n none at_index)

  other_ct : (c' : ℕ) → (c' ≡ c → ⊥) → ct_at b'.ct c' ≡ get_or ct₁ c' none
  unfolding ct_at
  other_ct c' ne = rw put.ct (get_or-set_other ct₁ c c' _ none ne)

  this_ct : ct_at b'.ct c ≡ segment_of p v f
  unfolding ct_at
  this_ct = rw put.ct (get_or-set_same ct₁ c (segment_of p v f) none (rw room.ct_length cluster))

  other_fst : (r' : ℕ) → (r' ≡ r → ⊥) → fst_at b'.fst r' ≡ fst_at b.fst r'
  unfolding fst_at
  other_fst r' ne = rw put.fst (get_or-set_other b.fst r r' _ none ne)

  this_fst : fst_at b'.fst r ≡ segment_of p v f
  unfolding fst_at
  this_fst = rw put.fst (get_or-set_same b.fst r (segment_of p v f) none (rw t.fst_length region))

  segs_here_lem : (c' : ℕ) → region_of p c' ≡ r → ct_at b'.ct c' ≡ (with_frame p vw₁ v f c x).seg_of c'
  unfolding with_frame
  segs_here_lem c' e = go (ℕ_discrete c' c)
    where
      go : Dec (c' ≡ c) → ct_at b'.ct c' ≡ updated vw₁.seg_of c (segment_of p v f) c'
      go (yes k) = rw k (this_ct ∙ sym (updated_same _ _ _))
      go (no k) = rw (other_ct c' k, updated_other _ c (segment_of p v f) c' k) (room.segs_here c' e)

  segs_none_lem : (c' : ℕ) → (region_of p c' ≡ r → ⊥) → (with_frame p vw₁ v f c x).seg_of c' ≡ none
  unfolding with_frame
  segs_none_lem c' ne = rw (updated_other _ c (segment_of p v f) c' (λ k. ne (ap (region_of p) k ∙ mine))) (room.segs_none c' ne)

  pub write_effect : Effect p b b' r v n (with_frame p vw₁ v f c x)
  write_effect =
      record {
        segs_else = λ c' ne. other_ct c' (λ k. ne (ap (region_of p) k ∙ mine)) ∙ room.segs_else c' ne;
        segs_here = segs_here_lem;
        segs_none = segs_none_lem;
        last_else = other_fst;
        last_here = unfold with_frame in this_fst;
        entry_else = entry_else_lem;
        entry_here = entry_here_lem;
        taken = room.taken;
        body_else = λ u ne. unfold with_frame in (updated_other _ v _ u ne ∙ room.body_else u ne);
        body_here = block_here;
        block_else = λ i h ne k. block_else_lem (bt_entry b.bt i) (room.own i h ne k) ∙ room.block_else i h ne k;
      }
