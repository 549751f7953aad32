-- How many operations make a plan's room: by the marks, which are as many as the valid frames.
-- Assumes nothing.
use mathlib.Core.Path.{◌≡◌, refl, sym, ap, ◌∙◌}
use mathlib.Core.Bool.{Bool, true, false, cond}
use mathlib.Core.List.{List}
use Prim.Native.Nat.{ℕ, ◌+◌, ◌*◌, ◌≤◌}
use native.Mathlib.Nat.{mul_comm, mul-le-mul}
use native.Mathlib.Omega.{arith}
use mir.Syntax.{w64}
use mir.Val.{Fits}
use lib.ListN.{get_or, length, length-append, length-map}
use Rattle.lists.specs.Below.{count_below}
use Rattle.lists.proofs.Tests.{count_le}
use Rattle.rules.specs.declared.Params.{Params}
use Rattle.rules.specs.Parameters.{allowed}
use Rattle.rules.specs.Tables.{Board, bt_at}
use Rattle.rules.specs.Pages.{frame}
use Rattle.rules.specs.Regions.{view, valid_frames}
use Rattle.rules.specs.Marks.{Marks, marks_in, marks_on, table_of}
use Rattle.rules.specs.Traces.{erase_ops, frames_ops, worn}
use Rattle.rules.specs.Write.{continues, opens, reclaims, copies, plan_block, room_ops, victim_ops}
use Rattle.rules.proofs.Sizes.{sizes}
use Rattle.rules.proofs.WornBlocks.{wear_out_long}
use Rattle.marks.specs.Marks.{mark_in}
use Rattle.marks.proofs.Counted.{marks_counted}
use Rattle.chip_marks.specs.Asked.{WordsAsked}
use Rattle.write_reclaim.proofs.Copies.{holds}
use Rattle.starts.proofs.Prefixes.{frames_length}

-- an erase is one operation, or two with the mark
pub erases_one : (p : Params) (wear : List ℕ) (n : ℕ) → worn p wear n ≡ false → 1 ≡ length (erase_ops p wear n)
erases_one p wear n e = sym (wear_out_long p wear n ∙ rw e)

pub erases_two : (p : Params) (wear : List ℕ) (n : ℕ) → worn p wear n ≡ true → 2 ≡ length (erase_ops p wear n)
erases_two p wear n e = sym (wear_out_long p wear n ∙ rw e)

pub erases_few : (p : Params) (wear : List ℕ) (n : ℕ) → length (erase_ops p wear n) ≤ 2
erases_few p wear n = rw (wear_out_long p wear n) (go (worn p wear n))
  where
    go : (t : Bool) → 1 + cond t 1 0 ≤ 2
    go true = omega arith
    go false = omega arith

-- the victim's marks are few enough
pub few_pages : (p : Params) (marks : List ℕ) (r v : ℕ) → WordsAsked p marks r v → ((k : ℕ) → Fits w64 (get_or marks k 0)) → (n : ℕ)
    → ((m : Marks) → marks ≡ table_of p m → n ≡ count_below 256 (m r v)) → p.alpha * n ≤ 4096
few_pages p marks r v w small n is =
    let few : n ≤ 256 = rw (is (mark_in p marks) (holds p marks w.long small)) (count_le 256 (mark_in p marks r v)) in
    mul-le-mul (sizes p w.fine).alpha_high few

module _ (p : Params) (b : Board) (r : ℕ) where
  pub none_continues : (v f : ℕ) → 0 ≡ length (room_ops p b r (continues v f))
  unfolding room_ops copies victim_ops frames_ops
  none_continues v f = refl

  pub none_opens : (v : ℕ) → 0 ≡ length (room_ops p b r (opens v))
  unfolding room_ops copies victim_ops frames_ops
  none_opens v = refl

  -- the copies' pages, and behind them what erases the victim
  copies_length : (v : ℕ) → length (frames_ops p (plan_block p b r (reclaims v)) 0 (copies p (view p b r) (reclaims v))) ≡ length (valid_frames p (view p b r) v) * p.alpha
  unfolding copies
  copies_length v = frames_length p _ 0 _ ∙ ap (λ (n : ℕ). n * p.alpha) (length-map (valid_frames p (view p b r) v) (frame p ((view p b r).body v)))

  room_length : (v : ℕ) → length (room_ops p b r (reclaims v)) ≡ length (valid_frames p (view p b r) v) * p.alpha + length (erase_ops p b.wear (bt_at p b.bt r v))
  unfolding room_ops victim_ops
  room_length v =
      length-append (frames_ops p (plan_block p b r (reclaims v)) 0 (copies p (view p b r) (reclaims v))) (erase_ops p b.wear (bt_at p b.bt r v))
      ∙ ap (λ (n : ℕ). n + length (erase_ops p b.wear (bt_at p b.bt r v))) (copies_length v)

  pub counted : allowed p ≡ true → (v n : ℕ) → n ≡ count_below 256 (marks_on p b r v) → (o : ℕ) → o ≡ bt_at p b.bt r v → (k : ℕ) → k ≡ length (erase_ops p b.wear o)
      → p.alpha * n + k ≡ length (room_ops p b r (reclaims v))
  unfolding marks_in
  counted fine v n e o eo k ek = rw (ek, eo, e, marks_counted p fine (view p b r) v, mul_comm p.alpha) (sym (room_length v))
