-- `replies::read_reply`: the first two rows, those of the request, then the state's.
-- Assumes nothing.
use mathlib.Core.Path.{sym}
use Rattle.rules.proofs.TableFacts.{lengths_in as tables_in}
use Rattle.rules.specs.Replies.{reply_of, rows_of}
use Rattle.check_rules.proofs.Agree.{lengths_in, marks_fit}
use Rattle.reply_rows.proofs.Rows.{after_access, after_lent, lent_passes, passed_on}
use Rattle.replies.proofs.read_reply.Goals as goal

pub returns-in_err-board_reply : goal.returns-in_err-board_reply
unfolding reply_of rows_of
returns-in_err-board_reply c = λ q l k n. passed_on _ _ _ _ c.from_residual.ensures.1 c.in_err-board_reply.ensures

pub wrong_data-wrong-requires : goal.wrong_data-wrong-requires
wrong_data-wrong-requires c = (lent_passes _ _ c.in_ok-board_reply.ensures).fine

pub request_reply-requires : goal.request_reply-requires
request_reply-requires c = (lent_passes _ _ c.in_ok-board_reply.ensures).fine

pub returns-in_err-request_reply : goal.returns-in_err-request_reply
unfolding reply_of rows_of
returns-in_err-request_reply c =
    let h = lent_passes _ _ c.in_ok-board_reply.ensures in
    λ q l k n. rw (after_lent _ _ h)
    (passed_on _ _ _ _ c.from_residual-in_err-request_reply.ensures.1 (c.in_err-request_reply.ensures.value q l k (λ _. sym (c.wrong_data-wrong.ensures q k n))))

pub state_reply-requires : goal.state_reply-requires
state_reply-requires c =
    let h = lent_passes _ _ c.in_ok-board_reply.ensures in
    record {
      lengths = lengths_in _ _ h.fine h.fits;
      marks_len = marks_fit _ _ h.fits;
      stamps_len = (tables_in _ _ h.fits).stamps_length;
    }

pub returns : goal.returns
unfolding reply_of rows_of
returns c =
    let h = lent_passes _ _ c.in_ok-board_reply.ensures in
    λ q l k n. rw (after_lent _ _ h, after_access _ q (c.in_ok-request_reply.ensures.value q l k (λ _. sym (c.wrong_data-wrong.ensures q k n)))) (c.state_reply.ensures _)
