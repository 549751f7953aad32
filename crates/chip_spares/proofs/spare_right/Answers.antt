-- `chip_spares::spare_right`: the two words of the spare area are those of the spare bytes that the label says.
-- Assumes nothing.
use mathlib.Core.Path.{◌≡◌, ap, ◌∙◌}
use Prim.Native.Nat.{◌*◌, ◌+◌, ℕ, ◌≤◌}
use native.Mathlib.Omega.{arith}
use lib.ListN.{length}
use Rattle.rules.specs.Parameters.{page_bytes}
use Rattle.rules.proofs.Sizes.{sizes}
use Rattle.chip_words.specs.Words.{le}
use Rattle.chip_spares.proofs.Spares.{spare_are, spare_first, spare_fits, spare_long, spare_second}
use Rattle.chip_spares.proofs.Words.{same_words, spare_bytes_are, spare_bytes_long}
use Rattle.chip_spares.proofs.spare_right.Goals as goal
use Rattle.chip_spares.proofs.spare_right.Goals.{Start}

end : (a : Start) (w : ℕ) → w ≡ page_bytes a.args.p → a.args.j * w + a.args.p.s + 16 ≤ length a.args.frame.now
end a w e = spare_fits a.args.p a.args.j w (length a.args.frame.now) e a.requires.frame_len a.requires.j_lt_alpha

pub overflow_mul-a : goal.overflow_mul-a
overflow_mul-a c = omega (arith, end (goal.at.overflow_mul-a c).Start c.page_bytes-w.result c.page_bytes-w.ensures)

pub overflow_add-a : goal.overflow_add-a
overflow_add-a c = omega (arith, end (goal.at.overflow_add-a c).Start c.page_bytes-w.result c.page_bytes-w.ensures)

pub word-requires : goal.word-requires
word-requires c = omega (arith, end (goal.at.word-requires c).Start c.page_bytes-w.result c.page_bytes-w.ensures)

pub first_word-requires : goal.first_word-requires
first_word-requires c = let z = sizes _ c.requires.p_value in omega (arith, z.alpha_high, c.requires.j_lt_alpha)

pub overflow_add-a-2 : goal.overflow_add-a-2
overflow_add-a-2 c = omega (arith, end (goal.at.overflow_add-a-2 c).Start c.page_bytes-w.result c.page_bytes-w.ensures)

pub word-requires-2 : goal.word-requires-2
word-requires-2 c = omega (arith, end (goal.at.word-requires-2 c).Start c.page_bytes-w.result c.page_bytes-w.ensures)

pub returns : goal.returns
returns c =
    let z = sizes _ c.requires.p_value in
    let p = c.args.p in
    let fr = c.args.frame.now in
    let j = c.args.j in
    let w = c.page_bytes-w.result in
    let is = c.page_bytes-w.ensures in
    same_words _ _ _ _ _ _ (spare_long p fr j w is (end (goal.at.returns c).Start w is)) (spare_bytes_long _ _ _ _) (spare_are p fr j w is (λ i. omega (arith, c.shared_slice_known-1.given i)))
    (spare_bytes_are _ _ _ _ (omega (arith, z.alpha_high, c.requires.j_lt_alpha)) c.second_word.ensures.vblock_bound)
    (c.word.ensures ∙ ap le (spare_first p fr j w is)) c.first_word.ensures
    (c.word-2.ensures ∙ ap le (spare_second p fr j w is)) (c.second_word.ensures.by_index _ _)
