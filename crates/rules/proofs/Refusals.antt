-- The rows of each call give the numbers that the documents list, in their order.
-- Assumes nothing.
use mathlib.Core.Path.{refl}
use Rattle.rules.specs.Requests.{format, queue, read, release, start, write}
use Rattle.rules.specs.Replies.{access_rows, block_row, early_rows, lent_rows, order_row, queue_rows, rows_of, stamp_row, why_rows}
use Rattle.rules.specs.Refusals.{RowsAsSaid, WhyRowsAsSaid, refusals_of}

pub rows_as_said : RowsAsSaid
unfolding rows_of lent_rows access_rows order_row stamp_row block_row early_rows queue_rows refusals_of
rows_as_said p b format = refl
rows_as_said p b (read q) = refl
rows_as_said p b (write q) = refl
rows_as_said p b (release c) = refl
rows_as_said p b (queue l) = refl
rows_as_said p b start = refl

pub why_rows_as_said : WhyRowsAsSaid
unfolding why_rows lent_rows order_row
why_rows_as_said p b lba = refl
