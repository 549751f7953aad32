-- A chip that shows a board that reads as b gives b back: a start on it recovers it, and a start on it that is cut leaves such a chip again. A board that stands has such a chip, and a write that is
-- cut after any of its operations leaves one, of the board before the write or of the one after it.
-- Assumes nothing.
use mathlib.Core.Path.{◌≡◌, ◌∙◌}
use mathlib.Core.Logic.{◌⊎◌, inl, inr}
use Prim.Native.Nat.{ℕ, ◌≤◌}
use mathlib.Core.Bool.{true}
use mathlib.Core.List.{List}
use lib.ListN.{length, take}
use Rattle.rules.specs.declared.Params.{Params}
use Rattle.rules.specs.declared.Reply.TheVariants.{Accepted}
use Rattle.rules.specs.Parameters.{allowed}
use Rattle.rules.specs.Tables.{Board}
use Rattle.rules.specs.Requests.{Request, write}
use Rattle.rules.specs.Replies.{lengths_fit, reply_of}
use Rattle.rules.specs.Traces.{replay_chip}
use Rattle.rules.specs.Start.{start_ops}
use Rattle.rules.specs.Write.{write_ops, written}
use Rattle.starts.specs.Recovers.{Recovers}
use Rattle.starts.specs.Stands.{Stands}
use Rattle.starts.proofs.CutWrites.{CutForm, before, cut_form, is_whole}
use Rattle.starts.proofs.Latest.{latest_is}
use Rattle.starts.proofs.Returns.{returns_admitted, returns_clear, returns_cut, returns_once, returns_read, returns_stands}
use Rattle.starts.proofs.Stands.{written_stands}
use Rattle.starts.proofs.Steady.{ReadsOld, reads_old, untouched}

-- ---- a start

module _ (p : Params) (fine : allowed p ≡ true) (b₀ b : Board) (lengths : lengths_fit p b₀ ≡ true) where
  pub old_recovers : ReadsOld p b b₀.chip → Recovers p b₀ b
  old_recovers (reads_old b' x st sh old) =
      record {
        admitted = returns_admitted p fine b₀ b' x lengths st sh;
        once = returns_once p fine b₀ b' x lengths st sh;
        reads = λ c h clear j. returns_read p fine b₀ b' x lengths st sh c h (old.clear c h clear) j ∙ old.reads c h j;
        returns = λ c h j. latest_is p fine b₀ b' x lengths st sh c h j;
        stands = returns_stands p fine b₀ b' x lengths st sh;
        clear = returns_clear p fine b₀ b' x lengths st sh;
      }

  -- cut after any of its operations: the erase of one block at most, and its mark
  pub start_cut : ReadsOld p b b₀.chip → (k : ℕ) → ReadsOld p b (replay_chip p b₀.chip (take k (start_ops p b₀.chip b₀.wear)))
  start_cut (reads_old b' x st sh old) k = returns_cut p fine b₀ b' x lengths st sh b old k

-- ---- a write

pub write_cut : (p : Params) (b : Board) → Stands p b → (q : Request) → reply_of p b (write q) ≡ Accepted → (k : ℕ) → k ≤ length (write_ops p b q)
    → ReadsOld p b (replay_chip p b.chip (take k (write_ops p b q))) ⊎ ReadsOld p (written p b q) (replay_chip p b.chip (take k (write_ops p b q)))
write_cut p b st q e k h = go (replay_chip p b.chip (take k (write_ops p b q))) (cut_form p b st q e k h)
  where
    go : (chip : List ℕ) → CutForm p b q chip → ReadsOld p b chip ⊎ ReadsOld p (written p b q) chip
    go chip (before old) = inl old
    go chip (is_whole i) = inr (rw i (untouched p (written p b q) (written_stands p b st q e).0))
