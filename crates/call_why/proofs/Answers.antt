-- The cases of the answer, each by the reply; what an accepted one shows of the board; and the place that the lookup found.
-- Assumes nothing.
use mathlib.Core.Path.{◌≡◌, ap, refl, sym, ◌∙◌}
use mathlib.Core.Bool.{Bool, false, not, true}
use mathlib.Core.List.{List, ◌++◌, ◌∷◌, []}
use Prim.Native.Nat.{◌+◌, ◌<◌, ℕ}
use native.Mathlib.Nat.{mod-lt, one-mul}
use native.Mathlib.Omega.{arith}
use native.Mathlib.Decide.{ℕ_discrete}
use lib.Dec.{eqb}
use lib.ListN.{length, length-replicate, replicate}
use borrow.Author.Tests.{eq-eqb, eqb-false, eqb-true, le-ltb, ltb-true, ne_eqb, not-false, not-true}
use Rattle.std.specs.Prelude.{◌≢◌}
use Rattle.lists.proofs.Tests.{and_right}
use Rattle.rules.specs.declared.Params.{Params}
use Rattle.rules.specs.declared.Reply.{Reply}
use Rattle.rules.specs.declared.Reply.TheVariants.{Accepted}
use Rattle.rules.specs.Marks.{marks_of}
use Rattle.rules.specs.Parameters.{frames}
use Rattle.rules.specs.Numbers.{cluster_of, region_of, sector_of}
use Rattle.rules.specs.Regions.{looks_at, view}
use Rattle.rules.specs.Replies.{access_rows, bad_count, bad_parameter, first_row, is_accepted, lent_rows, no_block_left, not_orderly, number_of, order_row, reply_of, rows_of, why_reply, wrong_data, wrong_length}
use Rattle.rules.specs.Requests.{Request, read, request_region}
use Rattle.rules.specs.Tables.{Board, bt_at, ct_at, none, stamp_at, marks_length}
use Rattle.rules.specs.Write.{Plan, has_room, plan_block, plan_frame, plan_of, plan_vblock}
use Rattle.rules.proofs.Admitted.{Admitted, Checks, admitted, read_checks}
use Rattle.rules.proofs.Outcomes.{accepted_by}
use Rattle.rules.proofs.RegionFacts.{neat}
use Rattle.rules.proofs.Sizes.{sizes}
use Rattle.rules.proofs.TableFacts.{marks_in_lem, lengths_in as tables_in}
use Rattle.rules.proofs.PlanCases.{Case, goes_on, plan_case, renews, takes}
use Rattle.check_rules.specs.Check.{Lengths}
use Rattle.check_rules.proofs.Agree.{lengths_in, marks_fit}
use Rattle.check_broken.specs.declared.Rule.{Rule}
use Rattle.check_broken.specs.Broken.{broken_rule, rule_number}
use Rattle.read_work.specs.Lookup.{Looked, Lookup, Stands, Within, block_for, last_for}
use Rattle.read_work.proofs.Views.{looks_none}
use Rattle.read_work.proofs.Requests.{lookup_admitted}
use Rattle.write_plan.proofs.Asked.{plan_asked}
use Rattle.write_work.proofs.Chosen.{block_asked, none_left, one_left, region_neat}
use Rattle.call_why.specs.Asked.{ForecastAsked, PlaceAsked}
use Rattle.call_why.specs.Why.{Small, forecast_in, forecast_of, found_of, holder_of, why_of}
use Rattle.call_why.proofs.Replies.{Answered, answered, disorder}
use Rattle.call_why.proofs.Small.{found_small}

-- ---- by the reply

module _ (p : Params) (b : Board) (lba : ℕ) where
  -- 7: the parameters and the lengths passed
  pub lengths_at : number_of (why_reply p b lba) ≡ 7 → Lengths p b.chip b.ct b.bt b.fst b.bst × ((length b.marks ≡ marks_length p) × (length b.stamps ≡ p.mu))
  lengths_at e =
      let w = disorder p b lba e in
      (lengths_in p b w.fine w.fits, (marks_fit p b w.fits, (tables_in p b w.fits).stamps_length))

  pub why_7 : number_of (why_reply p b lba) ≡ 7 → (k : Rule) → k ≡ broken_rule p b → 7 ∷ rule_number k ∷ replicate 11 0 ≡ why_of p b lba
  unfolding why_of is_accepted
  why_7 e k is = rw (e, is)

  pub why_refused : (r : Reply) → (why_reply p b lba ≡ r) × (why_reply p b lba ≢ Accepted) → number_of r ≢ 7 → number_of r ∷ replicate 12 0 ≡ why_of p b lba
  unfolding why_of is_accepted
  why_refused r h ne = rw (h.0, ne_eqb (number_of r) 0 (λ z. h.1 (h.0 ∙ accepted_by r (number_of r) refl z)), ne_eqb (number_of r) 7 ne)

  -- 0: every test passed
  pub passed : why_reply p b lba ≡ Accepted → Answered p b lba
  passed e = answered p b lba (ap number_of e)

-- the sector is one that a read of it would be accepted for, and the marks are the board's
module _ (p : Params) (b : Board) (lba : ℕ) (h : Answered p b lba) where
  pub why_found : (c : ℕ) → c ≡ cluster_of p lba → (ns : List ℕ) → ns ≡ found_of p b c → ns ≡ why_of p b lba
  unfolding why_of is_accepted
  why_found c at ns is = rw (h.accepted, ← at) is

  pub marks_right : b.marks ≡ marks_of p b
  marks_right = marks_in_lem p b h.ordered.lengths h.ordered.tidy

  request : Request
  request = record { lba = lba; count = 1; bytes = replicate p.s 0 }

  accepted : reply_of p b (read request) ≡ Accepted
  unfolding reply_of rows_of lent_rows access_rows order_row first_row bad_parameter wrong_length bad_count wrong_data not_orderly request
  accepted =
      rw (
        h.ordered.fine,
        h.ordered.lengths,
        h.low,
        h.ordered.tidy,
        le-ltb p.alpha (sector_of p lba + 1)
            (omega (arith, mod-lt lba (sizes p h.ordered.fine).sectors)),
        length-replicate,
        one-mul,
        eq-eqb p.s p.s refl,
      )

  adm : Admitted p b request
  adm = admitted p b request (read_checks p b request accepted)

  pub looked : (c : ℕ) → c ≡ cluster_of p lba → Lookup p b.chip b.ct b.bt c
  unfolding request
  looked c is = rw is (lookup_admitted p b request adm)

  checks : Checks p b request
  checks = read_checks p b request accepted

  -- the plan of a write to its region names a virtual block and a frame that are there
  vblock_fits : plan_vblock (plan_of p (view p b (request_region p request))) < p.gamma
  vblock_fits = (block_asked p b request checks (request_region p request) refl (plan_of p (view p b (request_region p request))) refl).low

  frame_fits : plan_frame p (view p b (request_region p request)) (plan_of p (view p b (request_region p request))) < frames p
  unfolding plan_frame has_room
  frame_fits = go (plan_of p (view p b (request_region p request))) (plan_case p adm.sized (request_region p request) (view p b (request_region p request)) (region_neat p b request checks))
    where
      go : (pl : Plan) → Case p (view p b (request_region p request)) pl → plan_frame p (view p b (request_region p request)) pl < frames p
      go pl (goes_on h e) = rw e (ltb-true _ _ (and_right (not (eqb (view p b (request_region p request)).last_seg none)) h))
      go pl (takes h v low lacks e) = rw e adm.sized.some
      go pl (renews h every v low few e) = rw e few

  -- the numbers of what was found fit 32 bits
  pub small : (c : ℕ) → c ≡ cluster_of p lba → (ns : List ℕ) → ns ≡ found_of p b c → Small ns
  unfolding request
  small c is ns e =
      rw e (found_small p adm.sized b h.ordered c (rw is adm.asked.cluster) (rw is vblock_fits) (rw is frame_fits))

  pub stamp_in_lem : (c r : ℕ) → r ≡ region_of p c → r < length b.stamps
  stamp_in_lem c r e = rw (adm.tables.stamps_length, e) (mod-lt c adm.sized.regions)

  pub asked : (c : ℕ) → c ≡ cluster_of p lba → (r : ℕ) → r ≡ region_of p c → ForecastAsked p b.chip b.bt b.fst b.bst b.wear b.marks r
  unfolding request
  asked c is r e =
      record {
        plan = plan_asked p adm.sized adm.fine b adm.tables r (rw e (mod-lt c adm.sized.regions))
            (neat p r (view p b r) (adm.tidy r (rw e (mod-lt c adm.sized.regions))));
        pool = record { fine = adm.fine; bst_length = adm.tables.bst_length; wear_length = adm.tables.wear_length };
        ct = b.ct;
        right = marks_right;
        low = rw (e, is) vblock_fits;
      }

  -- the plan's block is none exactly where row 10 applies
  lacks_is : eqb (plan_block p b (request_region p request) (plan_of p (view p b (request_region p request)))) none ≡ no_block_left p b (request_region p request)
  lacks_is = go (ℕ_discrete (plan_block p b (request_region p request) (plan_of p (view p b (request_region p request)))) none)
    where
      go : Dec (plan_block p b (request_region p request) (plan_of p (view p b (request_region p request))) ≡ none)
          → eqb (plan_block p b (request_region p request) (plan_of p (view p b (request_region p request)))) none ≡ no_block_left p b (request_region p request)
      go (yes e) = eq-eqb _ none e ∙ sym (none_left p b request checks (request_region p request) refl _ refl _ refl e)
      go (no e) = ne_eqb _ none e ∙ sym (one_left p b request checks (request_region p request) refl _ refl _ refl e)

  pub forecast_is : (c : ℕ) → c ≡ cluster_of p lba → (r : ℕ) → r ≡ region_of p c → (fc : List ℕ)
      → fc ≡ forecast_in p (stamp_at b.stamps r) (eqb (plan_block p b r (plan_of p (view p b r))) none) (view p b r) → fc ≡ forecast_of p b c
  unfolding forecast_of request
  forecast_is c is r e fc k = (rw (e, is) at k) ∙ rw (is, lacks_is)

-- ---- where the cluster is

module _ (p : Params) (b : Board) (c : ℕ) (kept : Bool) (frame : ℕ) (s : Stands p b.chip b.ct b.bt c kept frame) where
  pub empty : not kept ≡ true → (fc : List ℕ) → fc ≡ forecast_of p b c → replicate 8 0 ++ (fc ++ (0 ∷ [])) ≡ found_of p b c
  unfolding found_of looks_at
  empty k fc is =
      let gone : eqb (ct_at b.ct c) none ≡ true = not-false (eqb (ct_at b.ct c) none) (sym s.has ∙ not-true kept k) in
      rw (gone, is, looks_none p b.chip b.ct b.bt b.fst c (eqb-true _ _ gone))

  module _ (k : not kept ≡ false) where
    there : eqb (ct_at b.ct c) none ≡ false
    there = not-true _ (sym s.has ∙ not-false kept k)

    pub place_asked : Lookup p b.chip b.ct b.bt c → (v f : ℕ) → Within p b.chip b.ct b.bt c kept v f → PlaceAsked p b.ct b.bt c v
    place_asked look v f w =
        record {
          fine = look.fine;
          ct_length = look.ct_length;
          cluster = look.low;
          bt_length = look.bt_length;
          low = rw (w.vblock (not-false kept k)) (look.leads (eqb-false _ _ there)).vblock;
        }

    pub held : (ns fc : List ℕ) (looks : ℕ) → ns ≡ holder_of p b c → fc ≡ forecast_of p b c → Looked p b.chip b.ct b.bt c looks
        → 0 ∷ 0 ∷ 1 ∷ ns ++ (fc ++ (looks ∷ [])) ≡ found_of p b c
    unfolding found_of looks_at
    held ns fc looks is f l = rw (there, is, f, l.is b.fst)

-- the place that the lookup found
pub holder_is : (p : Params) (b : Board) (c : ℕ) (kept : Bool) (v f : ℕ) → kept ≡ true → Within p b.chip b.ct b.bt c kept v f
    → region_of p c ∷ ct_at b.ct c ∷ v ∷ bt_at p b.bt (region_of p c) v ∷ f ∷ [] ≡ holder_of p b c
unfolding holder_of block_for last_for
holder_is p b c kept v f k w = rw (w.vblock k, w.inner k)
