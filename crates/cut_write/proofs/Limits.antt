-- A write with a budget, over the numbers that the code has: refused it leaves the budget whole; with more than its operations it is the plain write, and else the cut one.
-- Assumes nothing.
use mathlib.Core.Path.{◌≡◌, refl, sym, ap, ap₂, ◌∙◌}
use mathlib.Core.Bool.{true, false}
use mathlib.Core.List.{List, [], append-nil}
use Prim.Native.Nat.{ℕ, ◌+◌, ◌-◌, ◌≤◌, ◌<◌}
use native.Mathlib.Omega.{arith}
use lib.ListN.{length, take}
use Rattle.rules.specs.declared.Params.{Params}
use Rattle.rules.specs.declared.Answer.{Answer}
use Rattle.rules.specs.declared.Reply.TheVariants.{Accepted, NoBlockLeft}
use Rattle.rules.specs.Tables.{Board, board_of}
use Rattle.rules.specs.Regions.{looks_at}
use Rattle.rules.specs.Marks.{marks_of}
use Rattle.rules.specs.Write.{Plan, continues, opens, reclaims, room_ops, write_ops, written}
use Rattle.rules.specs.Requests.{Request, request_cluster, request_region, write}
use Rattle.rules.specs.Replies.{early_rows, first_row, is_accepted, no_block_left, reply_of}
use Rattle.rules.specs.Calls.{Outcome, answer_of, ops_of, outcome_of, refuses, single, work_of, write_work}
use Rattle.rules.specs.Cuts.{cut_board, has_budget, limited, step_outcome}
use Rattle.rules.proofs.Outcomes.{work_refused}
use Rattle.outcomes.specs.Claims.{outcome}
use Rattle.outcomes.proofs.Cuts.{step_cut, step_refused, step_whole, write_work_lem}
use Rattle.write_room.specs.Rooms.{RoomAsked}
use Rattle.write_work.specs.Asked.{PlanMade}
use Rattle.write_work.proofs.Chosen.{left_alone, refused}
use Rattle.write_work.proofs.Writes as writes
use Rattle.cut_write.specs.Cut.{CountAsked, CutAsked}
use Rattle.cut_write.proofs.Firsts.{ops_length}

-- ---- what a write's parts make

pub work_ops : (p : Params) (b : Board) (q : Request) → reply_of p b (write q) ≡ Accepted → ops_of (work_of p b (write q)).parts ≡ write_ops p b q
unfolding ops_of single
work_ops p b q e = rw (write_work_lem p b q e) (append-nil (write_ops p b q))

pub no_ops : (p : Params) (b : Board) (q : Request) → is_accepted (reply_of p b (write q)) ≡ false → ops_of (work_of p b (write q)).parts ≡ []
unfolding work_of write_work refuses single ops_of
no_ops p b q e = rw (work_refused p b (write q) (write_ops p b q) (looks_at p b (request_cluster p q)) q.bytes (written p b q) e)

-- ---- refused with 10

module _ (p : Params) (b : Board) (q : Request) (e : first_row Accepted (early_rows p b q) ≡ Accepted) (h : no_block_left p b (request_region p q) ≡ true) where
  is_refused : is_accepted (reply_of p b (write q)) ≡ false
  unfolding is_accepted
  is_refused = rw (refused p b q e h)

  pub refused_is : (budget : ℕ) (x : Answer) → x ≡ answer_of NoBlockLeft [] 0 → outcome x q.bytes [] b ≡ step_outcome p b (limited budget (write q))
  refused_is budget x ex = left_alone p b q e h x ex ∙ sym (step_refused p b budget (write q) is_refused)

  pub all_left : (budget : ℕ) → budget ≡ budget - length (ops_of (work_of p b (write q)).parts)
  all_left budget =
      let none : length (ops_of (work_of p b (write q)).parts) ≡ 0 = rw (no_ops p b q is_refused) in
      omega (arith, none)

-- ---- accepted, with its plan made

module _ (p : Params) (b : Board) (q : Request) (r : ℕ) (pl : Plan) (n : ℕ) (made : PlanMade p b q r pl n) where
  pub count_asked : CountAsked p b.bt b.wear b.marks r pl
  count_asked = go pl (writes.room_asked p b q made.accepted r made.region pl made.plan n made.block)
    where
      go : (l : Plan) → RoomAsked p b.chip b.ct b.bt b.bst b.wear b.marks r l n → CountAsked p b.bt b.wear b.marks r l
      go (continues v f) w = tt
      go (opens v) w = tt
      go (reclaims v) w = record { bt_length = w.1.taking.bt_length; words = w.1.words; block = rw w.1.wear_length w.1.blocks.between.from }

  pub parts_left : (budget left : ℕ) → left ≡ budget - length (write_ops p b q) → left ≡ budget - length (ops_of (work_of p b (write q)).parts)
  parts_left budget left x = x ∙ rw (work_ops p b q made.accepted)

  module _ (room : ℕ) (counted : (chip ct fst bst stamps : List ℕ) → b.marks ≡ marks_of p (board_of chip ct b.bt fst bst b.wear b.marks stamps)
      → room ≡ length (room_ops p (board_of chip ct b.bt fst bst b.wear b.marks stamps) r pl)) where
    room_is : room ≡ length (room_ops p b (request_region p q) pl)
    room_is = rw made.region at (counted b.chip b.ct b.fst b.bst b.stamps (writes.marks_are_lem p b q made.accepted))

    pub cut_asked : (k : ℕ) → k ≤ room + p.alpha → CutAsked p b q r pl n room k
    cut_asked k few = record { made = made; ops = room_is; few = few }

    all_is : length (write_ops p b q) ≡ room + p.alpha
    all_is = ops_length p b q pl made.plan ∙ ap (λ (m : ℕ). m + p.alpha) (sym room_is)

    pub left_is_lem : (budget ops : ℕ) → ops ≡ room + p.alpha → budget - ops ≡ budget - length (write_ops p b q)
    left_is_lem budget ops eo = rw (all_is, eo)

    pub none_left : (budget ops : ℕ) → ops ≡ room + p.alpha → budget ≤ ops → 0 ≡ budget - length (write_ops p b q)
    none_left budget ops eo few = omega (arith, all_is)

    -- more than the operations: the plain write
    pub whole : (budget ops : ℕ) → ops ≡ room + p.alpha → ops < budget → (o : Outcome) → o ≡ outcome_of p b (write q) → o ≡ step_outcome p b (limited budget (write q))
    whole budget ops eo more o x = x ∙ sym (step_whole p b budget (write q) _ _ _ _ (write_work_lem p b q made.accepted) (omega (arith, all_is)))

    -- as many or fewer: the cut one
    pub cut_is : (budget ops : ℕ) → ops ≡ room + p.alpha → budget ≤ ops → (x : Answer) → x ≡ answer_of Accepted [] 0 → (b' : Board) → b' ≡ cut_board p b (take budget (write_ops p b q))
        → outcome x q.bytes [] b' ≡ step_outcome p b (limited budget (write q))
    unfolding has_budget
    cut_is budget ops eo few x ex b' eb =
        ap₂ {C = Outcome} (λ (i : Answer) (j : Board). outcome i q.bytes [] j) ex eb
        ∙ sym (step_cut p b budget (write q) _ _ _ _ (write_work_lem p b q made.accepted) refl (omega (arith, all_is)))
