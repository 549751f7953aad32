-- What the rule of the marks says of each virtual block: each mark of the board's table is read off its word, and the ones in four words of 64 bits
-- are the marks below 256. The other way round, such marks are the board's table.
-- Assumes nothing.
use mathlib.Core.Path.{◌≡◌, refl, sym, ◌∙◌}
use Prim.Native.Nat.{ℕ, zero, suc, ◌+◌, ◌*◌, ◌/◌, ◌%◌, ◌^◌, ◌<◌}
use native.Mathlib.Nat.{add-suc, add-zero}
use native.Mathlib.Decide.{dec_lt}
use native.Mathlib.Omega.{arith}
use mathlib.Core.Bool.{Bool, true}
use mathlib.Core.List.{List}
use lib.Count.{ones}
use Rattle.lists.specs.Below.{count_below}
use Rattle.bits.proofs.Words.{bits_count, bits_lt}
use Rattle.rules.specs.declared.Params.{Params}
use Rattle.rules.specs.Parameters.{allowed, frames}
use Rattle.rules.specs.Regions.{view}
use Rattle.rules.specs.Tables.{Board, marks_length, word_at}
use Rattle.rules.proofs.Sizes.{sizes}
use Rattle.marks.specs.Marks.{mark_in}
use Rattle.marks.specs.Marks.{MarksAt, MarksRead, ones_at}
use Rattle.rules.specs.Marks.{marked, marks_of, word_of}
use Rattle.marks.proofs.Tables.{mark_at, marks_are_lem, place, region_word}
use Rattle.rules.proofs.MarkFacts.{right, rule_of}
use Rattle.marks.proofs.Counted.{marks_counted, unassigned_unmarked}
use Rattle.marks.proofs.FrameMarks.{marked_valid, unmarked}

-- ---- the ones in four words

count_more : (n k : ℕ) (g : ℕ → Bool) → count_below (n + k) g ≡ count_below n g + count_below k (λ i. g (n + i))
unfolding count_below
count_more n zero g = rw (add-zero n, add-zero (count_below n g))
count_more n (suc k) g = rw (add-suc n k) (omega (arith, count_more n k g))

word_ones : (m : ℕ → Bool) (w : ℕ) → count_below (64 * w) m + ones (word_of m w) ≡ count_below (64 * w + 64) m
unfolding word_of
word_ones m w = rw (bits_count 64 (λ i. m (64 * w + i)), count_more (64 * w) 64 m)

four_ones : (m : ℕ → Bool) → ones (word_of m 0) + ones (word_of m 1) + ones (word_of m 2) + ones (word_of m 3) ≡ count_below 256 m
four_ones m = let e : count_below 0 m ≡ 0 = unfold count_below in refl in omega (arith, word_ones m 0, word_ones m 1, word_ones m 2, word_ones m 3)

-- ---- the board's own table

module _ (p : Params) (b : Board) (fine : allowed p ≡ true) (r v : ℕ) (low : r < p.mu) (below : v < p.gamma) where
  counted : ones_at p (marks_of p b) r v ≡ count_below 256 (marked p (view p b r) v)
  unfolding ones_at
  counted =
      rw (region_word p b r v 0 low below (omega arith), region_word p b r v 1 low below (omega arith), region_word p b r v 2 low below (omega arith), region_word p b r v 3 low below (omega arith))
      (four_ones (marked p (view p b r) v))

  own_marks : b.marks ≡ marks_of p b → MarksAt p b r v
  own_marks e =
      record {
        words = λ w l. rw (e, region_word p b r v w low below l) (unfold word_of in bits_lt 64 _);
        each = λ f l. rw e (mark_at p b r v f low below (omega (arith, (sizes p fine).short)) ∙ marked_valid p (view p b r) v f l);
        above = λ f l m. rw e (mark_at p b r v f low below m ∙ unmarked p (view p b r) v f l);
        without = λ a f l. rw e (mark_at p b r v f low below l ∙ unassigned_unmarked p (view p b r) v a f);
        counted = rw e (counted ∙ marks_counted p fine (view p b r) v);
      }

-- ---- the rule

module _ (p : Params) (b : Board) (all : (r v : ℕ) → r < p.mu → v < p.gamma → MarksAt p b r v) where
  word_small : (k : ℕ) → k < marks_length p → word_at b.marks k < 2 ^ 64
  word_small k h = let a = place p k h in rw a.here at ((all (k / 4 / p.gamma) (k / 4 % p.gamma) a.region a.vblock).words (k % 4) a.word)

  mark_is : (r v f : ℕ) → r < p.mu → v < p.gamma → f < 256 → mark_in p b.marks r v f ≡ marked p (view p b r) v f
  mark_is r v f low below l = go (dec_lt f (frames p))
    where
      go : Dec (f < frames p) → mark_in p b.marks r v f ≡ marked p (view p b r) v f
      go (yes h) = (all r v low below).each f h ∙ sym (marked_valid p (view p b r) v f h)
      go (no h) = (all r v low below).above f (omega arith) l ∙ sym (unmarked p (view p b r) v f (omega arith))

pub marks_read : MarksRead
marks_read p b fine e = (
  λ rule r v low below. own_marks p b fine r v low below (right p b e rule),
  λ all. rule_of p b (marks_are_lem p b b.marks e (word_small p b all) (mark_is p b all)),
)
