-- The forecast is what a write then does: the plan's numbers are those of the write's counts, of the place that it leaves the cluster at, and of the block that
-- it opens or erases.
-- Assumes nothing.
use mathlib.Core.Path.{◌≡◌, ap, refl, sym, ◌∙◌}
use mathlib.Core.Logic.{◌⊎◌, inl, inr}
use mathlib.Core.Bool.{Bool, cond, false, true}
use mathlib.Core.List.{List, [], ◌++◌, ◌∷◌}
use Prim.Native.Nat.{◌*◌, ◌+◌, ◌/◌, ◌≤◌, ◌<◌, ℕ, suc, zero}
use native.Mathlib.Nat.{mod-lt}
use native.Mathlib.Omega.{arith}
use lib.Dec.{eqb}
use lib.ListN.{get_or, length, length-map}
use Rattle.rules.specs.declared.Params.{Params}
use Rattle.rules.specs.declared.Reply.{Reply}
use Rattle.rules.specs.declared.Reply.TheVariants.{Accepted, NoBlockLeft, NoStampLeft}
use Rattle.rules.specs.Calls.{answer_of, outcome_of}
use Rattle.rules.specs.Numbers.{cluster_of, place_of, segment_of, vblock_of}
use Rattle.rules.specs.Pages.{last_in}
use Rattle.rules.specs.Regions.{View, looks_at, valid_frames, view, view_of}
use Rattle.rules.specs.Replies.{access_rows, bad_address, bad_count, bad_parameter, block_row, early_rows, first_row, lent_rows, no_block_left, no_stamp_left, not_orderly, number_of, OrderlyBoard, order_row, reply_of, rows_of, stamp_row, why_reply, why_rows, wrong_data, wrong_length}
use Rattle.rules.specs.Requests.{Request, request_cluster, request_region, write}
use Rattle.rules.specs.Tables.{Board, bst_at, bt_at, ct_at, none, stamp_at}
use Rattle.rules.specs.Traces.{worn}
use Rattle.rules.specs.Words.{PlanListed}
use Rattle.rules.specs.Write.{Plan, continues, copies, new_frame, opens, plan_block, plan_bst, plan_erases, plan_frame, plan_of, plan_vblock, reclaims, written, written_by, next_stamp, takes_block}
use Rattle.rules.specs.Machine.{view_after, with_frame, with_room}
use Rattle.rules.proofs.Admitted.{Admitted, admitted, write_checks, write_free, stamp_left}
use Rattle.rules.proofs.Continues.{Makes, frames_pos, segs_in}
use Rattle.rules.proofs.FramePut.{Sheet, last_new, seg_new}
use Rattle.rules.proofs.Frames.{seg_low, seg_place, seg_vblock}
use Rattle.rules.proofs.Isolation.{index_low}
use Rattle.rules.proofs.Outcomes.{write_accepted}
use Rattle.rules.proofs.RegionFacts.{Neat, neat}
use Rattle.rules.proofs.Sizes.{Sizes}
use Rattle.rules.proofs.TableFacts.{Tables, tables_in}
use Rattle.rules.proofs.Views.{block_low_lem, free_unnamed, has_block, no_block}
use Rattle.rules.proofs.Words.{plan_exactly}
use Rattle.rules.proofs.Writes.{own_sheet, write_reserved_bad}
use Rattle.rules.proofs.WritePromise.{Promise, makes, write_promise}
use Rattle.call_why.specs.Why.{forecast_in, forecast_of, holder_of, plan_numbers, why_of}
use Rattle.call_why.proofs.Holder.{body_is}
use Rattle.why_claims.specs.Truths.{Emptied, ForecastTrue, told_at}
use Rattle.why_claims.proofs.Told.{told_held}

-- ---- the numbers of a plan

-- number i of the plan
unfoldable pub plan_at : Params → View → Plan → ℕ → ℕ
plan_at p vw pl i = get_or (plan_numbers p vw pl) i 0

-- they are four, and a number may follow them
front_at : (l : List ℕ) (x i : ℕ) → i < length l → get_or (l ++ (x ∷ [])) i 0 ≡ get_or l i 0
front_at [] x i h = absurd (omega (arith, h))
front_at (y ∷ l) x zero h = refl
front_at (y ∷ l) x (suc i) h = front_at l x i (omega (arith, h))

pub plan_front : (p : Params) (vw : View) (pl : Plan) (x i : ℕ) → i < 4 → get_or (plan_numbers p vw pl ++ (x ∷ [])) i 0 ≡ plan_at p vw pl i
unfolding plan_at plan_numbers
plan_front p vw (continues v f) x i h = front_at (plan_numbers p vw (continues v f)) x i h
plan_front p vw (opens v) x i h = front_at (plan_numbers p vw (opens v)) x i h
plan_front p vw (reclaims v) x i h = front_at (plan_numbers p vw (reclaims v)) x i h

pub plan_last : (p : Params) (vw : View) (pl : Plan) (x : ℕ) → get_or (plan_numbers p vw pl ++ (x ∷ [])) 4 0 ≡ x
unfolding plan_numbers
plan_last p vw (continues v f) x = refl
plan_last p vw (opens v) x = refl
plan_last p vw (reclaims v) x = refl

-- the same of a forecast that may be the refusal
pub forecast_last : (p : Params) (t : ℕ) (lacks : Bool) (vw : View) (x : ℕ) → get_or (forecast_in p t lacks vw ++ (x ∷ [])) 4 0 ≡ x
unfolding forecast_in
forecast_last p t lacks vw x = go (no_stamp_left t) lacks
  where
    go : (k l : Bool) → get_or (cond k (9 ∷ 0 ∷ 0 ∷ 0 ∷ []) (cond l (10 ∷ 0 ∷ 0 ∷ 0 ∷ []) (plan_numbers p vw (plan_of p vw))) ++ (x ∷ [])) 4 0 ≡ x
    go true l = refl
    go false true = refl
    go false false = plan_last p vw (plan_of p vw) x

-- a row that gives another reply than the one that was got does not apply
skip : (R : Reply) (t : Bool) (r x : Reply) → (number_of r ≡ number_of R → ⊥) → cond t r x ≡ R → (t ≡ false) × (x ≡ R)
skip R true r x ne k = absurd (ne (ap number_of k))
skip R false r x ne k = (refl, k)

-- a write that gets 9 or 10 has come to those rows
late : (p : Params) (b : Board) (q : Request) (R : Reply) → 9 ≤ number_of R → reply_of p b (write q) ≡ R
    → cond (no_stamp_left (stamp_at b.stamps (request_region p q))) NoStampLeft (cond (no_block_left p b (request_region p q)) NoBlockLeft Accepted) ≡ R
unfolding reply_of rows_of early_rows block_row lent_rows access_rows order_row stamp_row first_row
late p b q R h e =
    let a = skip R (bad_parameter p) _ _ (λ k. omega (arith, k)) e in
    let l = skip R (wrong_length p b) _ _ (λ k. omega (arith, k)) a.1 in
    let c = skip R (bad_count p q) _ _ (λ k. omega (arith, k)) l.1 in
    let i = skip R (bad_address p q.lba) _ _ (λ k. omega (arith, k)) c.1 in
    let d = skip R (wrong_data p q) _ _ (λ k. omega (arith, k)) i.1 in
    (skip R (not_orderly p b) _ _ (λ k. omega (arith, k)) d.1).1

-- one that gets 9 finds no stamp left
pub no_stamp : (p : Params) (b : Board) (q : Request) → reply_of p b (write q) ≡ NoStampLeft → no_stamp_left (stamp_at b.stamps (request_region p q)) ≡ true
no_stamp p b q e = go (no_stamp_left (stamp_at b.stamps (request_region p q))) (no_block_left p b (request_region p q)) (late p b q NoStampLeft (omega arith) e)
  where
    go : (t u : Bool) → cond t NoStampLeft (cond u NoBlockLeft Accepted) ≡ NoStampLeft → t ≡ true
    go true u k = refl
    go false true k = absurd (omega (arith, ap number_of k))
    go false false k = absurd (omega (arith, ap number_of k))

-- and one that gets 10 finds one, and no free block
pub no_free : (p : Params) (b : Board) (q : Request) → reply_of p b (write q) ≡ NoBlockLeft
    → (no_stamp_left (stamp_at b.stamps (request_region p q)) ≡ false) × (no_block_left p b (request_region p q) ≡ true)
no_free p b q e = go (no_stamp_left (stamp_at b.stamps (request_region p q))) (no_block_left p b (request_region p q)) (late p b q NoBlockLeft (omega arith) e)
  where
    go : (t u : Bool) → cond t NoStampLeft (cond u NoBlockLeft Accepted) ≡ NoBlockLeft → (t ≡ false) × (u ≡ true)
    go true u k = absurd (omega (arith, ap number_of k))
    go false true k = (refl, refl)
    go false false k = absurd (omega (arith, ap number_of k))

-- the last but one of the numbers n are those of the plan
pub record Planned (p : Params) (vw : View) (pl : Plan) (n : ℕ → ℕ) : Type 0 where
  pub kind : n 8 ≡ plan_at p vw pl 0
  pub vblock : n 9 ≡ plan_at p vw pl 1
  pub frame : n 10 ≡ plan_at p vw pl 2
  pub count : n 11 ≡ plan_at p vw pl 3

-- 1, 2 or 3 by the kind of the plan; its virtual block, its frame, the frames that it copies, and an erase where it is 3
module _ (p : Params) (vw : View) where
  plan_kind : (pl : Plan) → (plan_at p vw pl 0 ≡ 1) ⊎ ((plan_at p vw pl 0 ≡ 2) ⊎ (plan_at p vw pl 0 ≡ 3))
  unfolding plan_at plan_numbers
  plan_kind (continues v f) = inl refl
  plan_kind (opens v) = inr (inl refl)
  plan_kind (reclaims v) = inr (inr refl)

  plan_block_lem : (pl : Plan) → plan_vblock pl ≡ plan_at p vw pl 1
  unfolding plan_vblock plan_at plan_numbers
  plan_block_lem (continues v f) = refl
  plan_block_lem (opens v) = refl
  plan_block_lem (reclaims v) = refl

  plan_frame_lem : (pl : Plan) → plan_frame p vw pl ≡ plan_at p vw pl 2
  unfolding plan_frame plan_at plan_numbers
  plan_frame_lem (continues v f) = refl
  plan_frame_lem (opens v) = refl
  plan_frame_lem (reclaims v) = refl

  plan_copies : (pl : Plan) → length (copies p vw pl) ≡ plan_at p vw pl 3
  unfolding copies plan_at plan_numbers
  plan_copies (continues v f) = refl
  plan_copies (opens v) = refl
  plan_copies (reclaims v) = length-map (valid_frames p vw v) _

  plan_erases_lem : (pl : Plan) → plan_erases pl ≡ cond (eqb (plan_at p vw pl 0) 3) 1 0
  unfolding plan_erases plan_at plan_numbers
  plan_erases_lem (continues v f) = refl
  plan_erases_lem (opens v) = refl
  plan_erases_lem (reclaims v) = refl

  -- a plan that reclaims copies the valid frames
  plan_valid : (pl : Plan) → plan_at p vw pl 0 ≡ 3 → plan_at p vw pl 3 ≡ length (valid_frames p vw (plan_at p vw pl 1))
  unfolding plan_at plan_numbers
  plan_valid (continues v f) e = absurd (omega (arith, e))
  plan_valid (opens v) e = absurd (omega (arith, e))
  plan_valid (reclaims v) e = refl

  -- a plan that continues is of the open block
  plan_open : (pl : Plan) → PlanListed p vw pl → plan_at p vw pl 0 ≡ 1 → plan_at p vw pl 1 ≡ vblock_of p vw.last_seg
  unfolding plan_at plan_numbers
  plan_open (continues v f) w e = w.block
  plan_open (opens v) w e = absurd (omega (arith, e))
  plan_open (reclaims v) w e = absurd (omega (arith, e))

module _ (p : Params) (z : Sizes p) (b : Board) (t : Tables p b) (r : ℕ) (region : r < p.mu) where
  -- a plan that opens takes a virtual block without a physical block
  plan_opens : (pl : Plan) → PlanListed p (view p b r) pl → plan_at p (view p b r) pl 0 ≡ 2 → bt_at p b.bt r (plan_at p (view p b r) pl 1) ≡ none
  unfolding plan_at plan_numbers
  plan_opens (continues v f) w e = absurd (omega (arith, e))
  plan_opens (opens v) w e = no_block p z b t r v region w.low (frames_pos p z) w.bare
  plan_opens (reclaims v) w e = absurd (omega (arith, e))

  -- a plan that reclaims takes the virtual block's physical block out of use: it was used, and becomes free, or reserved where its erase wears it out
  plan_frees : (pl : Plan) → PlanListed p (view p b r) pl → Makes p b r pl → plan_at p (view p b r) pl 0 ≡ 3
      → (bt_at p b.bt r (plan_at p (view p b r) pl 1) < p.N)
      × (bst_at b.bst (bt_at p b.bt r (plan_at p (view p b r) pl 1)) ≡ 1)
      × (bst_at (plan_bst p b r pl) (bt_at p b.bt r (plan_at p (view p b r) pl 1)) ≡ cond (worn p b.wear (bt_at p b.bt r (plan_at p (view p b r) pl 1))) 2 0)
  unfolding plan_at plan_numbers
  plan_frees (continues v f) w m e = absurd (omega (arith, e))
  plan_frees (opens v) w m e = absurd (omega (arith, e))
  plan_frees (reclaims v) w m e =
      let some = has_block p z b t r v region w.low (w.every v w.low) in (
        block_low_lem p z b t r v region w.low some,
        t.used_back (r * p.gamma + v) (index_low p r v region w.low) _ (block_low_lem p z b t r v region w.low some) (unfold bt_at in refl),
        unfold bst_at plan_vblock plan_block bt_at in m.kind_old (free_unnamed p z b t (m.found (unfold takes_block in refl)) (r * p.gamma + v) (index_low p r v region w.low)) some,
      )

-- ---- an accepted write

-- what it shows of the board, its plan, and the frame that it writes
module _ (p : Params) (b : Board) (q : Request) (e : reply_of p b (write q) ≡ Accepted) where
  adm : Admitted p b q
  adm = admitted p b q (write_checks p b q e)

  promise : Promise p b q (written p b q)
  promise = write_promise p b q e

  abbrev vw : View
  vw = view p b (request_region p q)

  abbrev pl : Plan
  pl = plan_of p vw

  region : request_region p q < p.mu
  region = mod-lt (request_cluster p q) adm.sized.regions

  neat_r : Neat p (request_region p q) vw
  neat_r = neat p (request_region p q) vw (adm.tidy (request_region p q) region)

  made : Makes p b (request_region p q) pl
  made = makes p adm.sized b adm.tables (request_region p q) region neat_r (write_free p b q e)

  listed : PlanListed p vw pl
  listed = plan_exactly p b (record { fine = adm.fine; lengths = adm.lengths; tidy = (write_checks p b q e).tidy }) (request_region p q) region

  abbrev x : List ℕ
  x = new_frame p vw q (next_stamp b (request_region p q)) (plan_vblock pl)

  sheet : Sheet p (plan_vblock pl) (request_cluster p q) x
  sheet = own_sheet p b q adm (next_stamp b (request_region p q)) (plan_vblock pl) (stamp_left p b q e)

  -- the board that is left
  ordered : OrderlyBoard p (written p b q)
  ordered = record { fine = adm.fine; lengths = promise.lengths; tidy = promise.orderly_left }

  own : view p (written p b q) (request_region p q) ≡ with_frame p (with_room p vw pl) (plan_vblock pl) (plan_frame p vw pl) (request_cluster p q) x
  unfolding view_after
  own = promise.own

  -- CT names the plan's segment
  seg_after : ct_at (written p b q).ct (request_cluster p q) ≡ segment_of p (plan_vblock pl) (plan_frame p vw pl)
  seg_after =
      segs_in p (written p b q) (request_region p q) (request_cluster p q) refl
      ∙ rw own (seg_new p adm.sized (with_room p vw pl) (plan_vblock pl) (plan_frame p vw pl) (request_cluster p q) x made.base.ready sheet)

  some_after : ct_at (written p b q).ct (request_cluster p q) ≡ none → ⊥
  some_after n = omega (arith, seg_low p adm.sized (plan_vblock pl) (plan_frame p vw pl) made.base.ready.low made.base.ready.mine, adm.sized.few, sym seg_after ∙ n)

  vblock_after : vblock_of p (ct_at (written p b q).ct (request_cluster p q)) ≡ plan_vblock pl
  vblock_after = rw seg_after (seg_vblock p adm.sized (plan_vblock pl) (plan_frame p vw pl) made.base.ready.low)

  place_after : place_of p (ct_at (written p b q).ct (request_cluster p q)) ≡ plan_frame p vw pl / p.beta
  place_after = rw seg_after (seg_place p adm.sized (plan_vblock pl) (plan_frame p vw pl) made.base.ready.low)

  -- its last frame there is the plan's
  frame_after : last_in p ((view p (written p b q) (request_region p q)).body (vblock_of p (ct_at (written p b q).ct (request_cluster p q))))
      (place_of p (ct_at (written p b q).ct (request_cluster p q))) (request_cluster p q)
      ≡ plan_frame p vw pl
  frame_after =
      rw (vblock_after, place_after, own)
      (last_new p adm.sized (with_room p vw pl) (plan_vblock pl) (plan_frame p vw pl) (request_cluster p q) x made.base.ready sheet)

  -- a block that was used and that the plan takes out of use is free, and so erased; or it is worn out, reserved and bad
  out_of_use : (n : ℕ) (t : Bool) → worn p b.wear n ≡ t → n < p.N → bst_at b.bst n ≡ 1 → bst_at (plan_bst p b (request_region p q) pl) n ≡ cond t 2 0
      → Emptied p b.wear n (written p b q)
  unfolding written written_by
  out_of_use n false o low was kind = inl (o, (tables_in p (written p b q) promise.lengths promise.orderly_left).free n low kind)
  out_of_use n true o low was kind =
      inr (o, kind, write_reserved_bad p b q adm (request_region p q) refl pl made (stamp_left p b q e) n low (λ x. absurd (omega (arith, was, x))) kind)

  -- such is the block that was reclaimed
  emptied : plan_at p vw pl 0 ≡ 3
      → (bt_at p b.bt (request_region p q) (plan_at p vw pl 1) < p.N) × Emptied p b.wear (bt_at p b.bt (request_region p q) (plan_at p vw pl 1)) (written p b q)
  emptied k =
      let w = plan_frees p adm.sized b adm.tables (request_region p q) region pl listed made k in
      (w.0, out_of_use (bt_at p b.bt (request_region p q) (plan_at p vw pl 1)) _ refl w.0 w.1 w.2)

  -- ---- what is told of a sector of the cluster, before and after

  module _ (lba : ℕ) (in-range : bad_address p lba ≡ false) (is : request_cluster p q ≡ cluster_of p lba) (n : ℕ → ℕ) (h : Planned p vw pl n)
      (seen : n 12 ≡ looks_at p b (request_cluster p q)) where
    -- the board that is left is orderly, so why answers 0
    accepted : number_of (why_reply p (written p b q) lba) ≡ 0
    unfolding why_reply why_rows lent_rows order_row first_row bad_parameter wrong_length not_orderly
    accepted = rw (ordered.fine, ordered.lengths, in-range, ordered.tidy)

    -- and tells the place where the cluster is now
    told : why_of p (written p b q) lba
        ≡ 0 ∷ 0 ∷ 1 ∷ holder_of p (written p b q) (request_cluster p q) ++ (forecast_of p (written p b q) (request_cluster p q) ++ (looks_at p (written p b q) (request_cluster p q) ∷ []))
    told = rw is (told_held p (written p b q) lba accepted (rw is at some_after))

    pub forecast_true : ForecastTrue p b lba n (outcome_of p b (write q))
    unfolding told_at holder_of answer_of
    forecast_true =
        rw (write_accepted p b q e)
        (record {
          reply = rw told;
          held = rw told;
          vblock = rw (told, h.vblock) (vblock_after ∙ plan_block_lem p vw pl);
          frame = rw (told, h.frame) (rw (← body_is p (written p b q) ordered (request_cluster p q) adm.asked.cluster some_after) (frame_after ∙ plan_frame_lem p vw pl));
          kind = rw h.kind (plan_kind p vw pl);
          continued = λ k. rw (← is, h.vblock) (unfold view_of in plan_open p vw pl listed (sym h.kind ∙ k));
          opened = λ k. rw (← is, h.vblock) (plan_opens p adm.sized b adm.tables (request_region p q) region pl listed (sym h.kind ∙ k));
          reclaimed = λ k. rw (← is, h.vblock) (emptied (sym h.kind ∙ k));
          copied = λ k. rw (← is, h.vblock, h.count) (plan_valid p vw pl (sym h.kind ∙ k));
          programs = rw h.count (promise.programs ∙ rw (plan_copies p vw pl));
          erases = rw h.kind (promise.erases ∙ plan_erases_lem p vw pl);
          looks = sym seen;
        })
