-- The frames that pass a test, which are those with a mark, copied one after the other: what a turn asks, what it leaves, and what all of them leave.
-- Assumes nothing.
use mathlib.Core.Path.{◌≡◌, refl, ap, ◌∙◌}
use mathlib.Core.Bool.{Bool, true, false}
use mathlib.Core.List.{List, [], ◌∷◌, ◌++◌}
use Prim.Native.Nat.{ℕ, suc, ◌+◌, ◌≤◌, ◌<◌}
use native.Mathlib.Nat.{add-zero, zero-add}
use native.Mathlib.Omega.{arith}
use mir.Syntax.{w64}
use mir.Val.{Fits}
use lib.ListN.{get_or, length, set, length-append}
use Rattle.lists.specs.Below.{keep_below}
use Rattle.rules.specs.declared.Params.{Params}
use Rattle.rules.specs.Parameters.{frames}
use Rattle.rules.specs.Numbers.{segment_of}
use Rattle.rules.specs.Tables.{marks_length, word_at}
use Rattle.rules.specs.Pages.{block, frame, held}
use Rattle.rules.specs.Traces.{erase, erase_ops, frames_ops, on_wear, replay_chip}
use Rattle.rules.specs.Write.{follow_ct}
use Rattle.rules.proofs.Chip.{replay_append}
use Rattle.rules.proofs.Following.{follow_length}
use Rattle.marks.specs.Marks.{mark_in}
use Rattle.rules.specs.Marks.{table_of}
use Rattle.marks.proofs.Tables.{table_marks}
use Rattle.write_reclaim.specs.Moves.{Whole, MoveAsked, MovedIf, Between, FromTo, Copied, Reclaimed, marked_frames}
use Rattle.write_reclaim.proofs.Kept as kept

-- a table of 64-bit words holds marks
pub holds : (p : Params) (t : List ℕ) → length t ≡ marks_length p → ((k : ℕ) → Fits w64 (get_or t k 0)) → t ≡ table_of p (mark_in p t)
unfolding word_at
holds p t e small = table_marks p (mark_in p t) t e (λ k h. omega (arith, small k)) (λ r v f h low few. refl)

follow_snoc : (p : Params) (v to : ℕ) (xs : List (List ℕ)) (x ct : List ℕ) → follow_ct p v to (xs ++ (x ∷ [])) ct ≡ set (follow_ct p v to xs ct) (held p x) (segment_of p v (to + length xs))
unfolding follow_ct
follow_snoc p v to [] x ct = rw add-zero
follow_snoc p v to (y ∷ xs) x ct =
    let e : suc to + length xs ≡ to + suc (length xs) = omega arith in
    rw (← e) (follow_snoc p v (suc to) xs x (set ct (held p y) (segment_of p v to)))

-- ---- the frames with a mark, and CT that follows

module _ (p : Params) (chip ct : List ℕ) (o n v : ℕ) (a : FromTo p chip ct o n v) (fine : ℕ → Bool) where
  abbrev blk : List ℕ
  blk = block p chip o

  abbrev g : Between p chip o n
  g = a.between

  -- the frames copied after m turns, and the chip then
  abbrev pub xs : ℕ → List (List ℕ)
  xs m = kept.xs p chip o n g fine m

  abbrev pub after : ℕ → List ℕ
  after m = kept.after p chip o n g fine m

  -- after m turns
  pub record So (m : ℕ) (l u : List ℕ) (k : ℕ) : Type 0 where
    pub chip_is : l ≡ after m
    pub ct_is : u ≡ follow_ct p v 0 (xs m) ct
    pub count : k ≡ length (xs m)

  pub start : So 0 chip ct 0
  unfolding keep_below frames_ops replay_chip follow_ct
  start = record { chip_is = refl; ct_is = refl; count = refl }

  pub ct_length_lem : (m : ℕ) (l u : List ℕ) (k : ℕ) → So m l u k → length u ≡ length ct
  ct_length_lem m l u k so = ap length so.ct_is ∙ follow_length p v (xs m) 0 ct

  pub chip_length_lem : (m : ℕ) → m ≤ frames p → (l u : List ℕ) (k : ℕ) → So m l u k → length l ≡ length chip
  chip_length_lem m h l u k so = ap length so.chip_is ∙ kept.after_length p chip o n g fine m h

  module _ (m : ℕ) (h : m < frames p) (l u : List ℕ) (k : ℕ) (so : So m l u k) where
    source : block p l o ≡ blk
    source = ap (λ (t : List ℕ). block p t o) so.chip_is ∙ kept.source_same p chip o n g fine m (omega arith)

    few : k ≤ m
    few = rw so.count (kept.kept_few p chip o n g fine m)

    cluster_low : held p (frame p blk m) < length u
    cluster_low = rw (ct_length_lem m l u k so) (a.good m h)

    pub move_asked : MoveAsked p l u o n v m k
    move_asked =
        let w : Whole p l = record { fine = g.whole.fine; size = chip_length_lem m (omega arith) l u k so ∙ g.whole.size } in
        record {
          copy =
              record {
                from = record { whole = w; block = g.from; frame = h };
                to = record { whole = w; block = g.to; frame = omega (arith, few) };
                apart = g.apart;
                clean = rw (so.chip_is, so.count) (kept.next_clean p chip o n g fine m h);
              };
          low = a.low;
          cluster = rw source cluster_low;
        }

    module _ (l' u' : List ℕ) (x : ℕ) (w : MovedIf p l u o n v m k (fine m) l' u' x) where
      pub turn : So (m + 1) l' u' (k + x)
      turn = go (fine m) refl
        where
          zero_plus : 0 + length (xs m) ≡ length (xs m)
          zero_plus = zero-add _

          go : (t : Bool) → fine m ≡ t → So (m + 1) l' u' (k + x)
          go true t =
              record {
                chip_is = w.chip_is ∙ rw (
                  t,
                  source,
                  kept.more_yes p chip o n g fine m t,
                  kept.frames_snoc p n 0 (xs m) (frame p blk m),
                  replay_append p chip (frames_ops p n 0 (xs m)),
                  zero_plus,
                  so.chip_is,
                  so.count,
                );
                ct_is = w.ct_is ∙ rw (t, source, kept.more_yes p chip o n g fine m t, follow_snoc p v 0 (xs m) (frame p blk m) ct, zero_plus, so.ct_is, so.count);
                count = rw (kept.more_yes p chip o n g fine m t, length-append (xs m) (frame p blk m ∷ []), w.count, t, so.count);
              }
          go false t =
              record {
                chip_is = w.chip_is ∙ rw (t, kept.more_no p chip o n g fine m t, so.chip_is);
                ct_is = w.ct_is ∙ rw (t, kept.more_no p chip o n g fine m t, so.ct_is);
                count = rw (kept.more_no p chip o n g fine m t, w.count, t, so.count, add-zero);
              }

      pub turn_few : k + x ≤ m + 1
      turn_few = omega (arith, turn.count, kept.kept_few p chip o n g fine (m + 1))

  pub done : (m : ℕ) (l u : List ℕ) (k : ℕ) → m ≡ frames p → So m l u k → Copied p chip ct n v (marked_frames p blk fine) l u k
  done m l u k e so = record { chip_is = so.chip_is ∙ rw e; ct_is = so.ct_is ∙ rw e; count = so.count ∙ rw e }

-- ---- the whole reclaim

pub reclaimed : (p : Params) (chip ct wear : List ℕ) (o n v : ℕ) (xs : List (List ℕ)) (chip₁ ct₁ : List ℕ) (k : ℕ) → Copied p chip ct n v xs chip₁ ct₁ k
    → (chip₂ wear₂ : List ℕ) → chip₂ ≡ replay_chip p chip₁ (erase_ops p wear o) → wear₂ ≡ on_wear wear (erase o) → Reclaimed p chip ct wear o n v xs chip₂ ct₁ wear₂ k
reclaimed p chip ct wear o n v xs chip₁ ct₁ k c chip₂ wear₂ x y =
    record { chip_is = x ∙ rw (c.chip_is, replay_append p chip (frames_ops p n 0 xs) (erase_ops p wear o)); ct_is = c.ct_is; wear_is = y; count = c.count }
