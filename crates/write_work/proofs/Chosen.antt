-- A write that no early row refuses: what its plan and the search for its block ask is there; and by the block that is found it is accepted, or refused with 10.
-- Assumes nothing.
use mathlib.Core.Path.{◌≡◌, refl, sym, ◌∙◌}
use mathlib.Core.Bool.{true, false, ◌&&◌}
use mathlib.Core.List.{List, []}
use Prim.Native.Nat.{ℕ, ◌<◌}
use native.Mathlib.Nat.{mod-lt}
use lib.Dec.{eqb}
use borrow.Author.Tests.{eq-eqb, eqb-false, ne_eqb, not-true}
use lib.ListN.{length}
use Rattle.lists.proofs.Tests.{and_left}
use Rattle.rules.specs.declared.Params.{Params}
use Rattle.rules.specs.declared.Answer.{Answer}
use Rattle.rules.specs.declared.Reply.TheVariants.{Accepted, NoBlockLeft}
use Rattle.rules.specs.Numbers.{vblock_of}
use Rattle.rules.specs.Tables.{Board, board_of, none, bt_at, fst_at, marks_length}
use Rattle.rules.specs.Regions.{View, view, view_of}
use Rattle.rules.specs.Write.{Plan, has_room, plan_of, free_block, plan_block, plan_vblock, takes_block}
use Rattle.rules.specs.Replies.{early_rows, first_row, is_accepted, no_block_left, reply_of}
use Rattle.rules.specs.Calls.{answer_of, outcome_of}
use Rattle.rules.specs.Requests.{Request, lent, lent_answers, write, request_cluster, request_region}
use Rattle.rules.specs.Marks.{marks_of}
use Rattle.rules.proofs.Admitted.{Admitted, Checks, admitted, early_in, early_passed}
use Rattle.rules.proofs.MarkFacts.{marks_long_lem}
use Rattle.rules.proofs.Outcomes.{call_refused}
use Rattle.rules.proofs.PlanCases.{Case, goes_on, plan_case, renews, takes}
use Rattle.rules.proofs.RegionFacts.{Neat, neat}
use Rattle.rules.proofs.Sizes.{Sizes}
use Rattle.rules.proofs.TableFacts.{marks_in_lem}
use Rattle.outcomes.specs.Claims.{outcome}
use Rattle.read_work.specs.Lookup.{Lookup}
use Rattle.read_work.proofs.Requests.{lookup_admitted}
use Rattle.write_plan.specs.Plans.{PlanAsked}
use Rattle.write_plan.proofs.Asked.{plan_asked as plan-for}
use Rattle.write_room.specs.Rooms.{BlockAsked}

module _ (p : Params) (b : Board) (q : Request) (checks : Checks p b q) where
  acc : Admitted p b q
  acc = admitted p b q checks

  z : Sizes p
  z = acc.sized

  pub sectors : 0 < p.alpha
  sectors = z.sectors

  pub marks_are_lem : b.marks ≡ marks_of p b
  marks_are_lem = marks_in_lem p b checks.lengths checks.tidy

  pub marks_full : length b.marks ≡ marks_length p
  marks_full = marks_long_lem p b marks_are_lem

  abbrev r : ℕ
  r = request_region p q

  abbrev vw : View
  vw = view p b r

  pub region_in : r < p.mu
  region_in = mod-lt (request_cluster p q) z.regions

  pub region_neat : Neat p r vw
  region_neat = neat p r vw (acc.tidy r region_in)

  -- the cluster is looked up at entry
  pub lookup_entry : (c : ℕ) → c ≡ request_cluster p q → Lookup p b.chip b.ct b.bt c
  lookup_entry c ec = rw ec (lookup_admitted p b q acc)

  asked : PlanAsked p b.chip b.bt b.fst r
  asked = plan-for p z acc.fine b acc.tables r region_in region_neat

  pub plan_asked : (r' : ℕ) → r' ≡ r → PlanAsked p b.chip b.bt b.fst r'
  plan_asked r' er = rw er asked

  -- the plan that was found by the marks, which are the board's
  pub plan_is_lem : (r' : ℕ) → r' ≡ r → (pl : Plan) → ((ct : List ℕ) → b.marks ≡ marks_of p (board_of b.chip ct b.bt b.fst [] [] [] []) → pl ≡ plan_of p (view_of p b.chip ct b.bt b.fst r'))
      → pl ≡ plan_of p vw
  plan_is_lem r' er pl found = rw er at (found b.ct marks_are_lem)

  -- ---- the open block of a plan that continues

  last_some : has_room p vw ≡ true → fst_at b.fst r ≡ none → ⊥
  unfolding has_room view_of
  last_some h = eqb-false _ _ (not-true _ (and_left _ _ h))

  open_some : has_room p vw ≡ true → (vblock_of p vw.last_seg < p.gamma) × (bt_at p b.bt r (vblock_of p vw.last_seg) ≡ none → ⊥)
  unfolding view_of
  open_some h = asked.opened (last_some h)

  -- ---- the block that the plan writes

  plan_low : plan_vblock (plan_of p vw) < p.gamma
  unfolding plan_vblock
  plan_low = go (plan_of p vw) (plan_case p z r vw region_neat)
    where
      go : (pl : Plan) → Case p vw pl → plan_vblock pl < p.gamma
      go pl (goes_on h e) = rw e (open_some h).0
      go pl (takes h v low lacks e) = rw e low
      go pl (renews h every v low few e) = rw e low

  pub block_asked : (r' : ℕ) → r' ≡ r → (pl : Plan) → pl ≡ plan_of p vw → BlockAsked p b.bt b.bst b.wear r' pl
  block_asked r' er pl ep =
      record {
        pool = record { fine = acc.fine; bst_length = acc.tables.bst_length; wear_length = acc.tables.wear_length };
        bt_length = acc.tables.bt_length;
        region = rw er region_in;
        low = rw ep plan_low;
      }

  -- it is none exactly where row 10 applies
  told : eqb (plan_block p b r (plan_of p vw)) none ≡ no_block_left p b r
  unfolding no_block_left plan_block takes_block
  told = go (plan_of p vw) (plan_case p z r vw region_neat)
    where
      go : (pl : Plan) → Case p vw pl → eqb (plan_block p b r pl) none ≡ takes_block pl && eqb (free_block p b.bst b.wear) none
      go pl (goes_on h e) = rw e (ne_eqb _ none (open_some h).1)
      go pl (takes h v low lacks e) = rw e
      go pl (renews h every v low few e) = rw e

  module _ (r' : ℕ) (er : r' ≡ r) (pl : Plan) (ep : pl ≡ plan_of p vw) (n : ℕ) (en : n ≡ plan_block p b r' pl) where
    pub block_is : n ≡ plan_block p b r pl
    block_is = en ∙ rw er

    same : eqb n none ≡ no_block_left p b r
    same = rw (block_is, ep) told

    pub none_left : n ≡ none → no_block_left p b r ≡ true
    none_left e = sym same ∙ eq-eqb n none e

    pub one_left : (n ≡ none → ⊥) → no_block_left p b r ≡ false
    one_left ne = sym same ∙ ne_eqb n none ne

-- ---- the reply

module _ (p : Params) (b : Board) (q : Request) (e : first_row Accepted (early_rows p b q) ≡ Accepted) where
  pub checked : Checks p b q
  checked = (early_in p b q e).checks

  pub accepted : no_block_left p b (request_region p q) ≡ false → reply_of p b (write q) ≡ Accepted
  accepted h = early_passed p b q e ∙ rw h

  pub refused : no_block_left p b (request_region p q) ≡ true → reply_of p b (write q) ≡ NoBlockLeft
  refused h = early_passed p b q e ∙ rw h

  -- a refusal leaves everything as it was
  pub left_alone : no_block_left p b (request_region p q) ≡ true → (a : Answer) → a ≡ answer_of NoBlockLeft [] 0 → outcome a q.bytes [] b ≡ outcome_of p b (write q)
  unfolding lent lent_answers
  left_alone h a ea = rw (ea, ← refused h) (sym (call_refused p b (write q) (rw (refused h) (unfold is_accepted in refl))))
