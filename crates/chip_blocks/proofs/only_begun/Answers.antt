-- `chip_blocks::only_begun`: by whether there is a page, and then the bytes of the pages from page j on.
-- Assumes nothing.
use mathlib.Core.Path.{ap, ◌∙◌}
use native.Mathlib.Omega.{arith}
use borrow.Author.Tests.{eq-eqb, ne_eqb}
use Rattle.lists.specs.Parts.{all_are}
use Rattle.rules.proofs.Sizes.{sizes}
use Rattle.chip_blocks.proofs.Begun.{pages_lent, pages_start}
use Rattle.chip_blocks.proofs.only_begun.Goals as goal

pub returns-then-j-eq0 : goal.returns-then-j-eq0
returns-then-j-eq0 c = rw (eq-eqb _ 0 c.if-j-eq0.true)

pub overflow_mul-a : goal.overflow_mul-a
overflow_mul-a c =
    omega (
      arith,
      (sizes _ c.requires.p_value).frame_high,
      c.requires.fr_len,
      pages_start c.args.p c.args.fr.now c.args.j c.page_bytes.result c.requires.j_le_alpha c.requires.fr_len c.page_bytes.ensures,
    )

pub slice_bounds-is_erased-count : goal.slice_bounds-is_erased-count
slice_bounds-is_erased-count c = pages_start c.args.p c.args.fr.now c.args.j c.page_bytes.result c.requires.j_le_alpha c.requires.fr_len c.page_bytes.ensures

pub slice_bounds-is_erased-start : goal.slice_bounds-is_erased-start
slice_bounds-is_erased-start c = omega (arith, pages_start c.args.p c.args.fr.now c.args.j c.page_bytes.result c.requires.j_le_alpha c.requires.fr_len c.page_bytes.ensures)

pub returns : goal.returns
returns c =
    rw (ne_eqb c.args.j 0 c.if-j-eq0.false) (c.is_erased.ensures ∙
    ap (all_are 255) (pages_lent c.args.p c.args.fr.now c.args.j c.page_bytes.result c.requires.j_le_alpha c.requires.fr_len c.page_bytes.ensures))
