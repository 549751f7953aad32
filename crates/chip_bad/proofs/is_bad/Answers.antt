-- `chip_bad::is_bad`: the first page, then the second where there is one.
-- Assumes nothing.
use native.Mathlib.Omega.{arith}
use borrow.Author.Tests.{le-leb, lt-leb}
use Rattle.rules.specs.Parameters.{pages}
use Rattle.rules.specs.Format.{bad}
use Rattle.chip_bad.proofs.Marks.{first_low}
use Rattle.chip_bad.proofs.is_bad.Goals as goal

pub has_bad_mark-requires : goal.has_bad_mark-requires
has_bad_mark-requires c =
    record {
      p_value = c.requires.p_value;
      chip_len = c.requires.chip_len;
      n_lt_n = c.requires.n_lt_n;
      j_bound = first_low c.args.p c.requires.p_value;
    }

pub returns-then-has_bad_mark : goal.returns-then-has_bad_mark
unfolding bad
returns-then-has_bad_mark c = rw (← c.has_bad_mark.ensures, c.if-has_bad_mark.true)

pub returns-then-pages-lt2 : goal.returns-then-pages-lt2
unfolding bad
returns-then-pages-lt2 c = rw (← c.has_bad_mark.ensures, c.if-has_bad_mark.false, lt-leb 2 (pages c.args.p) (omega (arith, c.pages.ensures, c.if-pages-lt2.true)))

pub has_bad_mark-requires-2 : goal.has_bad_mark-requires-2
has_bad_mark-requires-2 c =
    record {
      p_value = c.requires.p_value;
      chip_len = c.requires.chip_len;
      n_lt_n = c.requires.n_lt_n;
      j_bound = omega (arith, c.pages.ensures, c.if-pages-lt2.false);
    }

pub returns : goal.returns
unfolding bad
returns c =
    rw (
      ← c.has_bad_mark.ensures,
      c.if-has_bad_mark.false,
      le-leb 2 (pages c.args.p)
          (omega (arith, c.pages.ensures, c.if-pages-lt2.false)),
    ) c.has_bad_mark-2.ensures
