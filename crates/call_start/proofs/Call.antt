-- The reply to a start is by the parameters and the lengths, where they refuse, and else by the row of the chip; and the work of an accepted start, done.
-- Assumes nothing.
use mathlib.Core.Path.{◌≡◌, ap, refl, sym, ◌∙◌}
use mathlib.Core.Bool.{Bool, false, true}
use mathlib.Core.List.{[]}
use Prim.Native.Nat.{ℕ, ◌<◌, ◌≤◌}
use lib.ListN.{length}
use native.Mathlib.Omega.{arith}
use Rattle.std.specs.Prelude.{Err}
use Rattle.rules.specs.declared.Params.{Params}
use Rattle.rules.specs.declared.Reply.TheVariants.{Accepted, NotOrderly}
use Rattle.rules.specs.Parameters.{chip_bytes}
use Rattle.rules.specs.Tables.{Board}
use Rattle.rules.specs.Traces.{erases_in}
use Rattle.rules.specs.Start.{start_ops, startable, started}
use Rattle.rules.specs.Requests.{start}
use Rattle.rules.specs.Replies.{first_row, not_startable, number_of, reply_of, rows_of}
use Rattle.rules.specs.Calls.{answer_of, outcome_of}
use Rattle.rules.proofs.Counts.{start_counts}
use Rattle.rules.proofs.Outcomes.{start_accepted}
use Rattle.rules.proofs.Sizes.{sizes}
use Rattle.rules.proofs.TableFacts.{chip_size, lengths_in}
use Rattle.starts.proofs.Accepted.{start_admitted}
use Rattle.reply_rows.specs.Verdicts.{Verdict}
use Rattle.reply_rows.proofs.Rows.{Passed, after_lent}
use Rattle.outcomes.specs.Claims.{outcome}

-- ---- the reply

module _ (p : Params) (b : Board) (h : Passed p b) where
  -- the chip, as long as the parameters say
  pub chip_fits : length b.chip ≡ chip_bytes p
  chip_fits = (lengths_in p b h.fits).chip_length ∙ sym (chip_size p)

  -- where the first rows pass, the chip decides
  pub not_started : (ok : Bool) → ok ≡ startable p b.chip → ok ≡ false → Verdict (Err NotOrderly) (reply_of p b start)
  unfolding reply_of rows_of first_row not_startable
  not_started ok is f = rw (after_lent p b h, ← is, f) (refl, λ x. omega (arith, ap number_of x))

  pub is_started : (ok : Bool) → ok ≡ startable p b.chip → ok ≡ true → reply_of p b start ≡ Accepted
  unfolding reply_of rows_of first_row not_startable
  is_started ok is f = rw (after_lent p b h, ← is, f)

-- ---- the work

module _ (p : Params) (b : Board) (e : reply_of p b start ≡ Accepted) where
  -- no more erases than blocks
  pub few : (k : ℕ) → k ≤ p.N → k < 4294967296
  few k most = omega (arith, most, (sizes p (start_admitted p b e).fine).blocks)

  -- all tables rebuilt
  pub start_done : (b' : Board) (k : ℕ) → b' ≡ started p b → k ≡ erases_in (start_ops p b.chip b.wear)
      → outcome (record { reply = Accepted; programs = 0; erases = k; looks = 0 }) [] [] b' ≡ outcome_of p b start
  unfolding answer_of
  start_done b' k be ke =
      (λ i. record { answer = record { reply = Accepted; programs = sym (start_counts p b.chip b.wear).0 i; erases = ke i; looks = 0 }; bytes = []; answers = []; board = be i })
      ∙ sym (start_accepted p b e)
