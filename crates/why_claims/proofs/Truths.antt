-- The numbers of an answer are true: by the reply, and on an orderly board by what CT has for the cluster.
-- Assumes nothing.
use mathlib.Core.Path.{◌≡◌, refl, subst, sym, ap, ◌∙◌}
use mathlib.Core.Logic.{◌⊎◌, inl, inr}
use mathlib.Core.List.{List, [], ◌∷◌, ◌++◌}
use Prim.Native.Nat.{◌<◌, ℕ}
use native.Mathlib.Nat.{div-lt_iff_lt-mul}
use native.Mathlib.Decide.{ℕ_discrete}
use native.Mathlib.Omega.{arith}
use lib.ListN.{get_or, take}
use borrow.Author.Tests.{eq-eqb, leb-false, lt-leb, ne_eqb}
use mathlib.Core.Bool.{false, true}
use Rattle.rules.specs.declared.Params.{Params}
use Rattle.rules.specs.declared.Reply.TheVariants.{Accepted, NoBlockLeft, NoStampLeft}
use Rattle.rules.specs.Calls.{answer_of, outcome_of}
use Rattle.rules.specs.Numbers.{cluster_of, region_of, sector_of}
use Rattle.rules.specs.Orderly.{rules_of}
use Rattle.rules.specs.Pages.{block, frame, page}
use Rattle.rules.specs.Regions.{View, frame_of, looks_at, sector, sector_in, view}
use Rattle.rules.specs.Replies.{OrderlyBoard, bad_address, no_block_left, no_stamp_left, number_of, reply_of, why_reply}
use Rattle.rules.specs.Requests.{Request, read, request_cluster, write}
use Rattle.rules.specs.Tables.{Board, ct_at, none, stamp_at}
use Rattle.rules.specs.Write.{plan_of}
use Rattle.rules.proofs.Continues.{segs_in}
use Rattle.rules.proofs.Frames.{seg_low}
use Rattle.rules.proofs.Admitted.{write_found, write_left}
use Rattle.rules.proofs.Outcomes.{read_accepted}
use Rattle.rules.proofs.Sizes.{Sizes, sizes}
use Rattle.rules.proofs.Victims.{valid_in}
use Rattle.check_broken.specs.Broken.{FirstFails, test_of}
use Rattle.check_broken.proofs.First.{broken_rule_lem}
use Rattle.call_why.specs.Holder.{holder_at}
use Rattle.call_why.specs.Why.{forecast_in, forecast_of, holder_of}
use Rattle.call_why.proofs.Holder.{body_is, holder_true}
use Rattle.call_why.proofs.Replies.{answered, disorder}
use Rattle.why_claims.specs.Truths.{ForecastTrue, HeldTrue, NotHeldTrue, WhyTrue, told_at}
use Rattle.why_claims.proofs.Forecasts.{Planned, forecast_last, forecast_true, no_free, no_stamp, plan_front, plan_at}
use Rattle.why_claims.proofs.Told.{told_held, told_none, told_reply_lem, told_rule}

module _ (p : Params) (b : Board) (lba : ℕ) where
  -- ---- the rule

  rule_true : told_at p b lba 0 ≡ 7 → FirstFails (test_of (told_at p b lba 1)) (rules_of p b)
  rule_true e =
      let z : number_of (why_reply p b lba) ≡ 7 = sym (told_reply_lem p b lba) ∙ e in
      rw (told_rule p b lba z) (broken_rule_lem p b (disorder p b lba z).broken)

  -- ---- on an orderly board

  module _ (e : told_at p b lba 0 ≡ 0) where
    accepted : number_of (why_reply p b lba) ≡ 0
    accepted = sym (told_reply_lem p b lba) ∙ e

    ordered : OrderlyBoard p b
    ordered = (answered p b lba accepted).ordered

    z : Sizes p
    z = sizes p ordered.fine

    low : cluster_of p lba < p.C
    unfolding bad_address
    low = (div-lt_iff_lt-mul z.sectors).1 (leb-false _ _ (answered p b lba accepted).low)

    -- what CT has decides the third number
    kind_none : ct_at b.ct (cluster_of p lba) ≡ none → told_at p b lba 2 ≡ 0
    unfolding told_at
    kind_none n = rw (told_none p b lba accepted n)

    kind_held : (ct_at b.ct (cluster_of p lba) ≡ none → ⊥) → told_at p b lba 2 ≡ 1
    unfolding told_at
    kind_held n = rw (told_held p b lba accepted n)

    kind : (told_at p b lba 2 ≡ 0) ⊎ (told_at p b lba 2 ≡ 1)
    kind = go (ℕ_discrete (ct_at b.ct (cluster_of p lba)) none)
      where
        go : Dec (ct_at b.ct (cluster_of p lba) ≡ none) → (told_at p b lba 2 ≡ 0) ⊎ (told_at p b lba 2 ≡ 1)
        go (yes n) = inl (kind_none n)
        go (no n) = inr (kind_held n)

    -- CT's entry as the region sees it
    seg : (view p b (region_of p (cluster_of p lba))).seg_of (cluster_of p lba) ≡ ct_at b.ct (cluster_of p lba)
    seg = sym (segs_in p b (region_of p (cluster_of p lba)) (cluster_of p lba) refl)

    -- ---- a frame is held

    held_reads : (ct_at b.ct (cluster_of p lba) ≡ none → ⊥)
        → sector p b (cluster_of p lba) (sector_of p lba)
        ≡ take p.s (page p (frame p (block p b.chip (holder_at p b (cluster_of p lba) 3)) (holder_at p b (cluster_of p lba) 4)) (sector_of p lba))
    unfolding sector sector_in frame_of holder_at holder_of
    held_reads n = rw (seg, ne_eqb (ct_at b.ct (cluster_of p lba)) none n, body_is p b ordered (cluster_of p lba) low n)

    held_true : told_at p b lba 2 ≡ 1 → HeldTrue p b lba (told_at p b lba)
    unfolding told_at holder_at holder_of
    held_true k =
        let n : ct_at b.ct (cluster_of p lba) ≡ none → ⊥ = λ m. omega (arith, k, kind_none m) in
        let h = holder_true p b ordered (cluster_of p lba) low n in
        subst (λ (ns : List ℕ). HeldTrue p b lba (λ i. get_or ns i 0)) (sym (told_held p b lba accepted n))
        (record {
          region = refl;
          segment = refl;
          vblock = refl;
          pblock = refl;
          block_low = h.block_low;
          frame_low = h.frame_low;
          holds = h.holds;
          is_valid = h.is_valid;
          reads = held_reads n;
        })

    -- ---- no frame is held

    not_held_true : told_at p b lba 2 ≡ 0 → NotHeldTrue p b (cluster_of p lba) (sector_of p lba)
    unfolding sector sector_in
    not_held_true k = go (ℕ_discrete (ct_at b.ct (cluster_of p lba)) none)
      where
        go : Dec (ct_at b.ct (cluster_of p lba) ≡ none) → NotHeldTrue p b (cluster_of p lba) (sector_of p lba)
        go (no n) = absurd (omega (arith, k, kind_held n))
        go (yes n) =
            record {
              no_frame = λ v f h l w i. let s = (valid_in p (view p b (region_of p (cluster_of p lba))) v f w).names in
                  omega (arith, seg_low p z v f l h, z.few, sym s ∙ ap (view p b (region_of p (cluster_of p lba))).seg_of i ∙ seg ∙ n);
              reads = rw (seg, eq-eqb (ct_at b.ct (cluster_of p lba)) none n);
            }

    -- ---- the forecast

    abbrev vw : View
    vw = view p b (region_of p (cluster_of p lba))

    -- the last number is that of the search
    seen : told_at p b lba 12 ≡ looks_at p b (cluster_of p lba)
    unfolding told_at forecast_of holder_of
    seen = go (ℕ_discrete (ct_at b.ct (cluster_of p lba)) none)
      where
        go : Dec (ct_at b.ct (cluster_of p lba) ≡ none) → told_at p b lba 12 ≡ looks_at p b (cluster_of p lba)
        go (yes n) = rw (told_none p b lba accepted n) (forecast_last p _ _ vw (looks_at p b (cluster_of p lba)))
        go (no n) = rw (told_held p b lba accepted n) (forecast_last p _ _ vw (looks_at p b (cluster_of p lba)))

    looks_true : (q : Request) → request_cluster p q ≡ cluster_of p lba → reply_of p b (read q) ≡ Accepted → (outcome_of p b (read q)).answer.looks ≡ told_at p b lba 12
    unfolding answer_of
    looks_true q is a = rw (read_accepted p b q a, is) (sym seen)

    abbrev last_stamp : ℕ
    last_stamp = stamp_at b.stamps (region_of p (cluster_of p lba))

    planned : no_stamp_left last_stamp ≡ false → no_block_left p b (region_of p (cluster_of p lba)) ≡ false → Planned p vw (plan_of p vw) (told_at p b lba)
    planned left found = go (ℕ_discrete (ct_at b.ct (cluster_of p lba)) none)
      where
        front : (i : ℕ) → i < 4 → get_or (forecast_of p b (cluster_of p lba) ++ (looks_at p b (cluster_of p lba) ∷ [])) i 0 ≡ plan_at p vw (plan_of p vw) i
        front i h = unfold forecast_of forecast_in in rw (left, found) (plan_front p vw (plan_of p vw) (looks_at p b (cluster_of p lba)) i h)

        go : Dec (ct_at b.ct (cluster_of p lba) ≡ none) → Planned p vw (plan_of p vw) (told_at p b lba)
        go (yes n) =
            unfold told_at in
            let w = told_none p b lba accepted n in
            record { kind = rw w (front 0 (omega arith)); vblock = rw w (front 1 (omega arith)); frame = rw w (front 2 (omega arith)); count = rw w (front 3 (omega arith)) }
        go (no n) =
            unfold told_at holder_of in
            let w = told_held p b lba accepted n in
            record { kind = rw w (front 0 (omega arith)); vblock = rw w (front 1 (omega arith)); frame = rw w (front 2 (omega arith)); count = rw w (front 3 (omega arith)) }

    forecast : (q : Request) → request_cluster p q ≡ cluster_of p lba → reply_of p b (write q) ≡ Accepted → ForecastTrue p b lba (told_at p b lba) (outcome_of p b (write q))
    forecast q is a = forecast_true p b q a lba (answered p b lba accepted).low is (told_at p b lba) (rw is (planned (unfold no_stamp_left in rw is at (lt-leb 4294967295 _ (write_left p b q a))) (rw is at (write_found p b q a)))) (rw is seen)

    refused : (q : Request) → request_cluster p q ≡ cluster_of p lba → reply_of p b (write q) ≡ NoStampLeft → told_at p b lba 8 ≡ 9
    unfolding told_at holder_of forecast_of forecast_in
    refused q is a = go (ℕ_discrete (ct_at b.ct (cluster_of p lba)) none)
      where
        none_left : no_stamp_left last_stamp ≡ true
        none_left = rw is at (no_stamp p b q a)

        go : Dec (ct_at b.ct (cluster_of p lba) ≡ none) → told_at p b lba 8 ≡ 9
        go (yes n) = rw (told_none p b lba accepted n, none_left)
        go (no n) = rw (told_held p b lba accepted n, none_left)

    blockless : (q : Request) → request_cluster p q ≡ cluster_of p lba → reply_of p b (write q) ≡ NoBlockLeft → told_at p b lba 8 ≡ 10
    unfolding told_at holder_of forecast_of forecast_in
    blockless q is a = go (ℕ_discrete (ct_at b.ct (cluster_of p lba)) none)
      where
        some_left : no_stamp_left last_stamp ≡ false
        some_left = rw is at (no_free p b q a).0

        lacks : no_block_left p b (region_of p (cluster_of p lba)) ≡ true
        lacks = rw is at (no_free p b q a).1

        go : Dec (ct_at b.ct (cluster_of p lba) ≡ none) → told_at p b lba 8 ≡ 10
        go (yes n) = rw (told_none p b lba accepted n, some_left, lacks)
        go (no n) = rw (told_held p b lba accepted n, some_left, lacks)

pub why_true : (p : Params) (b : Board) (lba : ℕ) → WhyTrue p b lba
why_true p b lba = record {
  reply = told_reply_lem p b lba;
  rule = rule_true p b lba;
  kind = kind p b lba;
  held = held_true p b lba;
  not_held = not_held_true p b lba;
  forecast = forecast p b lba;
  refused = refused p b lba;
  blockless = blockless p b lba;
  looks = looks_true p b lba;
}
