-- The search for a cluster in a place, from the last frame down: what is left to be searched, and what was looked at. A frame that is passed adds to the
-- count exactly if it is programmed, since the search ends no higher than where the cluster is.
-- Assumes nothing.
use mathlib.Core.Path.{◌≡◌, sym, ap, ◌∙◌}
use mathlib.Core.Bool.{Bool, true, false, ◌&&◌, cond}
use mathlib.Core.List.{List}
use Prim.Native.Nat.{ℕ, ◌+◌, ◌-◌, ◌*◌, ◌/◌, ◌≤◌, ◌<◌}
use native.Mathlib.Numerals.{add-one}
use native.Mathlib.Omega.{arith}
use lib.Dec.{eqb, leb}
use borrow.Author.Tests.{eq-eqb, le-leb, lt-leb, ne_eqb}
use Rattle.lists.specs.Below.{count_below, last_below}
use Rattle.lists.proofs.Parts.{in_place, over_place}
use Rattle.lists.proofs.Tests.{and_no, count_is, last_passes}
use Rattle.rules.specs.declared.Params.{Params}
use Rattle.rules.specs.Pages.{frame, holds, last_in, programmed, programmed_down_to}
use Rattle.rules.specs.Parameters.{frames}
use Rattle.rules.specs.Tables.{none}
use Rattle.rules.proofs.Sizes.{Sizes}
use Rattle.loops.proofs.Below.{count_skip, last_here_lem, last_lower}
use Rattle.chip_blocks.proofs.Frames.{last_end, last_start, seg_in, test, test_is}

module _ (p : Params) (z : Sizes p) (blk : List ℕ) (k c : ℕ) where
  abbrev at : ℕ
  at = last_in p blk k c

  -- what counts for a search that ends at the cluster's last frame
  abbrev counts : ℕ → Bool
  counts f = eqb (f / p.beta) k && (leb at f && programmed p (frame p blk f))

  -- the frames from i on are searched, with so many looked at
  pub record Searched (i looks : ℕ) : Type 0 where
    pub low : k * p.beta ≤ i
    pub few : i + looks ≤ k * p.beta + p.beta
    pub left : last_below none i (test p blk k c z.per_segment) ≡ at
    pub count : at < frames p → looks + count_below i counts ≡ programmed_down_to p blk k at

  pub start : k < p.d → Searched (k * p.beta + p.beta) 0
  unfolding programmed_down_to
  start h =
      record {
        low = omega arith;
        few = omega arith;
        left = last_start p blk k c z.per_segment h;
        count = λ l. omega (arith, count_skip (frames p) (k * p.beta + p.beta) counts (seg_in p k h) (λ j x y. rw (ne_eqb (j / p.beta) k (over_place p.beta k j z.per_segment x))));
      }

  module _ (i looks : ℕ) (s : Searched i looks) (more : k * p.beta < i) where
    abbrev f : ℕ
    f = i - 1

    next_is : f + 1 ≡ i
    next_is = omega arith

    test_here : test p blk k c z.per_segment f ≡ holds p (frame p blk f) c
    test_here = test_is p blk k c z.per_segment f (omega arith) (omega (arith, s.few))

    -- one frame less to search
    one_more : at ≤ f → count_below (f + 1) counts ≡ count_below f counts + cond (programmed p (frame p blk f)) 1 0
    unfolding count_below
    one_more h =
        let x : counts f ≡ programmed p (frame p blk f) = rw (eq-eqb (f / p.beta) k (in_place p.beta k f z.per_segment (omega arith) (omega (arith, s.few))), le-leb at f h) in
        rw (add-one f) (ap (λ (t : Bool). count_below f counts + cond t 1 0) x)

    fewer : at ≤ f → count_below i counts ≡ count_below f counts + cond (programmed p (frame p blk f)) 1 0
    fewer h = ap (λ (j : ℕ). count_below j counts) (sym next_is) ∙ one_more h

    -- the cluster's last frame is not above
    at_low : at < frames p → at ≤ f
    at_low h =
        let w = last_passes none i (test p blk k c z.per_segment) (λ e. omega (arith, h, z.short, s.left, e)) in
        omega (arith, w.1, s.left)

    module _ (n : ℕ) (seen : n ≡ cond (programmed p (frame p blk f)) 1 0) where
      one : n ≤ 1
      one = rw seen (go (programmed p (frame p blk f)))
        where
          go : (t : Bool) → cond t 1 0 ≤ 1
          go true = omega arith
          go false = omega arith

      pub turn : holds p (frame p blk f) c ≡ false → Searched f (looks + n)
      turn h =
          record {
            low = omega arith;
            few = omega (arith, s.few, one);
            left = sym (rw next_is at (last_lower none f (test p blk k c z.per_segment) (test_here ∙ h))) ∙ s.left;
            count = λ l. omega (arith, s.count l, fewer (at_low l), seen);
          }

      pub found : holds p (frame p blk f) c ≡ true → f ≡ at
      found h = sym (rw next_is at (last_here_lem none f (test p blk k c z.per_segment) (test_here ∙ h))) ∙ s.left

      pub looked : holds p (frame p blk f) c ≡ true → f < frames p → looks + n ≡ programmed_down_to p blk k f
      looked h l =
          let e = found h in
          let none-lower : count_below f counts ≡ 0 =
          count_is f 0 counts (omega arith) (λ j x. absurd (omega arith)) (λ j x y. and_no (eqb (j / p.beta) k) (rw (lt-leb at j (omega (arith, y, e))))) in
          let d = s.count (omega (arith, l, e)) in
          rw e (omega (arith, d, fewer (omega (arith, e)), none-lower, seen))

      pub looks_few : looks + n ≤ p.beta
      looks_few = omega (arith, s.few, one)

  -- no frame of the place holds it
  pub nothing : (i looks : ℕ) → Searched i looks → i ≤ k * p.beta → none ≡ at
  nothing i looks s h =
      let e : i ≡ k * p.beta = omega (arith, s.low) in
      sym (last_end p blk k c z.per_segment) ∙ (rw e at s.left)
