-- `check_board::count_marked`: the count of the bits of the words passed.
-- Assumes nothing.
use mathlib.Core.Path.{ap₂, sym, ◌∙◌, ◌≡◌}
use mathlib.Core.List.{List}
use Prim.Native.Nat.{ℕ, ◌*◌, ◌+◌, ◌/◌, ◌%◌}
use native.Mathlib.Omega.{arith}
use lib.ListN.{length}
use Rattle.lists.specs.Below.{count_below}
use Rattle.lists.proofs.Tests.{count_cong}
use Rattle.bits.proofs.Words.{bits_of}
use Rattle.rules.specs.Tables.{word_at}
use Rattle.chip_marks.proofs.Turns.{count_start, count_word}
use Rattle.check_marks.specs.Shown.{bit_in}
use Rattle.check_board.specs.Order.{bit_at}
use Rattle.check_board.proofs.count_marked.Goals as goal

word-bits : (marks : List ℕ) (i : ℕ) → count_below 64 (bit_in (word_at marks i)) ≡ count_below 64 (λ j. bit_at marks (64 * i + j))
unfolding bit_at
word-bits marks i =
    count_cong 64 _ _ (λ j h.
    let e : (64 * i + j) / 64 ≡ i = omega arith in
    let q : (64 * i + j) % 64 ≡ j = omega arith in
    sym (ap₂ (λ (a b : ℕ). bit_in (word_at marks a) b) e q))

pub loop-word-init : goal.loop-word-init
loop-word-init c = (omega arith, count_start _)

pub overflow_add-k : goal.overflow_add-k
overflow_add-k c = omega (arith, c.loop-word.invariant.0, c.count-k.ensures.upper_bound, c.requires, c.loop-word-test.true)

pub loop-word-preserved : goal.loop-word-preserved
unfolding word_at
loop-word-preserved c =
    let m = c.args.marks.now in
    let i = c.loop-word.word-index in (
      omega (arith, c.loop-word.invariant.0, c.count-k.ensures.upper_bound),
      count_word (bit_at m) i c.loop-word.k c.count-k.result c.loop-word.invariant.1
          (c.count-k.ensures.by_index (bit_in (word_at m i)) (bits_of 64 (word_at m i) (omega (arith, c.type_inv.marks i))) ∙ word-bits m i),
    )

pub returns : goal.returns
returns c =
    let e : c.loop-word.word-index ≡ length c.args.marks.now = omega (arith, c.loop-word-test.false) in
    rw (← e) c.loop-word.invariant.1
