-- Where a frame of a block stands on the chip, and one frame moved.
-- Assumes nothing.
use mathlib.Core.Path.{◌≡◌, sym, ap, ◌∙◌}
use mathlib.Core.Bool.{Bool, true, false}
use mathlib.Core.List.{List}
use Prim.Native.Nat.{ℕ, ◌+◌, ◌*◌, ◌≤◌, ◌<◌}
use native.Mathlib.Omega.{arith}
use lib.ListN.{length, replicate}
use Rattle.lists.specs.Parts.{part}
use Rattle.lists.proofs.Parts.{next, part_length, part_part}
use Rattle.lists.proofs.Joins.{replicate_of}
use Rattle.rules.specs.declared.Params.{Params}
use Rattle.rules.specs.Parameters.{frames, page_bytes, frame_bytes, block_bytes, chip_bytes}
use Rattle.rules.specs.Numbers.{segment_of}
use Rattle.rules.specs.Pages.{block, frame}
use Rattle.rules.specs.Traces.{frame_ops, replay_chip}
use Rattle.rules.proofs.Sizes.{Sizes, sizes}
use Rattle.rules.proofs.Frames.{seg_low}
use Rattle.rules.proofs.TableFacts.{chip_size}
use Rattle.rules.proofs.Isolation.{index_inj}
use Rattle.chip_frames.specs.Frame.{FrameAsked, first_pages}
use Rattle.chip_frames.proofs.Replay.{pages_put}
use Rattle.write_reclaim.specs.Moves.{Whole, OnChip, CopyAsked, Moved, MovedIf}

pub chip_length_lem : (p : Params) (chip : List ℕ) → Whole p chip → length chip ≡ chip_bytes p
chip_length_lem p chip w = w.size ∙ sym (chip_size p)

module _ (p : Params) (chip : List ℕ) (n f : ℕ) (a : OnChip p chip n f) where
  pub block_fits : n * block_bytes p + block_bytes p ≤ length chip
  block_fits = rw a.whole.size (next (block_bytes p) n p.N a.block)

  pub frame_fits : (n * frames p + f) * frame_bytes p + frame_bytes p ≤ length chip
  unfolding block_bytes
  frame_fits = omega (arith, next (frame_bytes p) f (frames p) a.frame, block_fits)

  pub frame_is : part (frame_bytes p) (n * frames p + f) chip ≡ frame p (block p chip n) f
  unfolding frame block block_bytes
  frame_is = sym (part_part (frame_bytes p) (frames p) n f chip a.frame)

  pub frame_whole : length (frame p (block p chip n) f) ≡ frame_bytes p
  frame_whole = rw (← frame_is) (part_length (frame_bytes p) (n * frames p + f) chip frame_fits)

  pub frame_few : f < 256
  frame_few = omega (arith, a.frame, (sizes p a.whole.fine).short)

  pub segment_few : (v sg : ℕ) → v < p.gamma → sg ≡ segment_of p v f → sg < 65536
  segment_few v sg low e =
      let z = sizes p a.whole.fine in
      rw e (omega (arith, seg_low p z v f a.frame low, z.few))

module _ (p : Params) (chip : List ℕ) (o n f k : ℕ) (a : CopyAsked p chip o n f k) where
  z : Sizes p
  z = sizes p a.from.whole.fine

  pub page_small : p.s ≤ 512
  page_small = z.s_high

  module _ (from to : ℕ) (ef : from ≡ o * frames p + f) (et : to ≡ n * frames p + k) where
    to_clean : part (frame_bytes p) to chip ≡ replicate (frame_bytes p) 255
    to_clean =
        replicate_of 255 _ (rw (et, frame_is p chip n k a.to) a.clean)
        ∙ ap (λ (m : ℕ). replicate m 255) (part_length (frame_bytes p) to chip (rw et (frame_fits p chip n k a.to)))

    pub copy_asked : FrameAsked chip (p.s + 16) p.alpha from to
    unfolding frame_bytes page_bytes
    copy_asked =
        record {
          small = omega (arith, z.s_high);
          some = omega arith;
          few = omega (arith, z.alpha_high);
          fits = rw et (frame_fits p chip n k a.to);
          source = rw ef (frame_fits p chip o f a.from);
          apart = λ e. a.apart (index_inj (frames p) o f n k a.from.frame a.to.frame (sym ef ∙ e ∙ et));
          clean = to_clean;
        }

    pub part_copied : (m : ℕ) (chip₁ : List ℕ) → chip₁ ≡ first_pages (p.s + 16) p.alpha to (part (p.alpha * (p.s + 16)) from chip) chip m
        → chip₁ ≡ replay_chip p chip (frame_ops p n k (frame p (block p chip o) f) m)
    part_copied m chip₁ x = rw (pages_put p chip (frame p (block p chip o) f) n k m, ← frame_is p chip o f a.from, ← ef, ← et) (unfold frame_bytes page_bytes in x)

-- moved where the test passed
module _ (p : Params) (chip ct : List ℕ) (o n v f k : ℕ) (t : Bool) where
  pub moved_yes : (l u : List ℕ) → t ≡ true → Moved p chip ct o n v f k l u → MovedIf p chip ct o n v f k t l u 1
  moved_yes l u e w = record { chip_is = w.chip_is ∙ rw e; ct_is = w.ct_is ∙ rw e; count = rw e }

  pub moved_no : t ≡ false → MovedIf p chip ct o n v f k t chip ct 0
  moved_no e = record { chip_is = rw e; ct_is = rw e; count = rw e }
