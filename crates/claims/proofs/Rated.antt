-- Without cuts no block is used that has had its E erases, and none is given up before: a block is reserved exactly if the format found it bad or its wear is E or more. Call by call: an erase that
-- brings a block's wear to E reserves it. What is reserved is bad (Standing.antt), and a block that became bad is worn out (Again.antt).
-- Assumes nothing.
use mathlib.Core.Path.{◌≡◌, refl, sym, ◌∙◌}
use mathlib.Core.Logic.{◌⊎◌, inl, inr}
use Prim.Native.Nat.{ℕ, ◌+◌, ◌*◌, ◌≤◌, ◌<◌}
use native.Mathlib.Nat.{mod-lt}
use native.Mathlib.Omega.{arith}
use native.Mathlib.Decide.{ℕ_discrete}
use mathlib.Core.Bool.{Bool, true, false, cond}
use mathlib.Core.List.{List, [], ◌∷◌, ◌++◌, map}
use lib.Dec.{eqb}
use borrow.Author.Tests.{leb-false}
use Rattle.lists.proofs.Tests.{never, or_neither, so}
use Rattle.rules.specs.declared.Params.{Params}
use Rattle.rules.specs.declared.Reply.TheVariants.{Accepted}
use Rattle.rules.specs.Tables.{Board, bst_at, bt_at, none, wear_at}
use Rattle.rules.specs.Regions.{view}
use Rattle.rules.specs.Traces.{Op, erase, erases_in, frame_ops, frames_ops, is_erase, mark, program, replay_wear, worn}
use Rattle.rules.specs.Requests.{Call, Request, format, queue, read, release, request_cluster, request_region, start, write}
use Rattle.rules.specs.Format.{bad, format_ops, formatted}
use Rattle.rules.specs.Release.{released}
use Rattle.rules.specs.Replies.{is_accepted, reply_of}
use Rattle.rules.specs.Cuts.{call_of, plain}
use Rattle.rules.specs.Words.{PlanListed, erases_of}
use Rattle.rules.specs.Write.{Plan, continues, copies, new_frame, next_stamp, opens, plan_block, plan_bst, plan_frame, plan_of, plan_ops, plan_vblock, reclaims, room_ops, takes_block, victim_ops, write_ops, written, written_by}
use Rattle.rules.proofs.Admitted.{Admitted, admitted, format_admitted, write_checks, write_free}
use Rattle.rules.proofs.BadBlocks.{unreserved_good, write_keeps_reserved}
use Rattle.rules.proofs.Continues.{Makes}
use Rattle.rules.proofs.FormatPromise.{kind}
use Rattle.rules.proofs.Isolation.{index_low}
use Rattle.rules.proofs.Outcomes.{reply_cases}
use Rattle.rules.proofs.RegionFacts.{neat}
use Rattle.rules.proofs.TableFacts.{lengths_in}
use Rattle.rules.proofs.Views.{free_unnamed, has_block}
use Rattle.rules.proofs.Words.{plan_exactly}
use Rattle.rules.proofs.WritePromise.{makes, write_promise}
use Rattle.starts.specs.Stands.{Stands}
use Rattle.starts.proofs.Keeps.{start_keeps}
use Rattle.claims.specs.Life.{WornOverRuns}
use Rattle.claims.specs.Runs.{Known, board_after, erases_block, known}
use Rattle.claims.proofs.Again.{erases_append, frame_programs, frames_programs, one_spare, programs_spare, run_new, run_still}
use Rattle.claims.proofs.Known.{known_by}
use Rattle.claims.proofs.Life.{format_once, wear_most}
use Rattle.claims.proofs.PlainRuns.{format_board, plain_board, plain_leaves}
use Rattle.claims.proofs.Singles.{AllSingle, Single, all_single, board_same, refused_leaves, singles_of}
use Rattle.claims.proofs.Standing.{Standing, after_standing, call_standing, first_standing}
use Rattle.claims.proofs.Steps.{accepted_leaves, done_board, format_leaves}

-- block n is reserved, or has had fewer than E erases
abbrev Rated : Params → Board → ℕ → Type 0
Rated p b n = (bst_at b.bst n ≡ 2 → ⊥) → wear_at b.wear n < p.E

-- ---- the erases of one block

spared : (n : ℕ) (os : List Op) → erases_block n os ≡ false → erases_of n os ≡ 0
unfolding erases_block erases_of
spared n [] h = refl
spared n (program m q x ∷ os) h = spared n os h
spared n (mark m ∷ os) h = spared n os h
spared n (erase m ∷ os) h = let w = or_neither (eqb m n) h in rw w.0 (omega (arith, spared n os w.1))

among : (n : ℕ) (os : List Op) → erases_of n os ≤ erases_in os
unfolding erases_of erases_in is_erase
among n [] = omega arith
among n (program m q x ∷ os) = omega (arith, among n os)
among n (mark m ∷ os) = omega (arith, among n os)
among n (erase m ∷ os) = go (eqb m n) (among n os)
  where
    go : (t : Bool) → erases_of n os ≤ erases_in os → cond t 1 0 + erases_of n os ≤ 1 + erases_in os
    go true h = omega (arith, h)
    go false h = omega (arith, h)

-- an erase that does not wear it out leaves fewer than E
not_worn : (p : Params) (wear : List ℕ) (n : ℕ) → worn p wear n ≡ false → wear_at wear n + 1 < p.E
unfolding worn
not_worn p wear n h = leb-false p.E (wear_at wear n + 1) h

-- ---- an accepted call

-- a format
format_rated : (p : Params) (b : Board) (n : ℕ) → n < p.N → reply_of p b format ≡ Accepted → Rated p (formatted p b) n
format_rated p b n low e alive = go (so (bad p b.chip n)) (so (worn p b.wear n))
  where
    wears : wear_at (formatted p b).wear n ≤ wear_at b.wear n + 1
    wears =
        unfold formatted in
        omega (
          arith,
          wear_most n (format_ops p b.chip b.wear) b.wear (rw (lengths_in p b (format_admitted p b e).lengths).wear_length low),
          format_once p b.chip b.wear n,
        )

    go : (bad p b.chip n ≡ true) ⊎ (bad p b.chip n ≡ false) → (worn p b.wear n ≡ true) ⊎ (worn p b.wear n ≡ false) → wear_at (formatted p b).wear n < p.E
    go (inl t) w = absurd (alive (kind p b n low ∙ rw t))
    go (inr t) (inl w) = absurd (alive (kind p b n low ∙ rw (t, w)))
    go (inr t) (inr w) = omega (arith, wears, not_worn p b.wear n w)

-- a write
module _ (p : Params) (b : Board) (q : Request) (e : reply_of p b (write q) ≡ Accepted) (n : ℕ) (low : n < p.N) where
  acc : Admitted p b q
  acc = admitted p b q (write_checks p b q e)

  abbrev r : ℕ
  r = request_region p q

  region : r < p.mu
  region = mod-lt (request_cluster p q) acc.sized.regions

  made : Makes p b r (plan_of p (view p b r))
  made = makes p acc.sized b acc.tables r region (neat p r (view p b r) (acc.tidy r region)) (write_free p b q e)

  listed : PlanListed p (view p b r) (plan_of p (view p b r))
  listed = plan_exactly p b (record { fine = acc.fine; lengths = acc.lengths; tidy = (write_checks p b q e).tidy }) r region

  -- it does not erase the block, or the block is its victim's and is left free or reserved
  victim : (pl : Plan) → PlanListed p (view p b r) pl → Makes p b r pl
      → (erases_block n (victim_ops p b r pl) ≡ false) ⊎ (bst_at (plan_bst p b r pl) n ≡ cond (worn p b.wear n) 2 0)
  unfolding victim_ops
  victim (continues v f) w m = inl (unfold erases_block in refl)
  victim (opens v) w m = inl (unfold erases_block in refl)
  victim (reclaims v) w m = go (ℕ_discrete n (bt_at p b.bt r v))
    where
      some : bt_at p b.bt r v ≡ none → ⊥
      some = has_block p acc.sized b acc.tables r v region w.low (w.every v w.low)

      new : bt_at p b.bt r v ≡ plan_block p b r (reclaims v) → ⊥
      new = unfold plan_block bt_at in free_unnamed p acc.sized b acc.tables (m.found (unfold takes_block in refl)) (r * p.gamma + v) (index_low p r v region w.low)

      go : Dec (n ≡ bt_at p b.bt r v) → (erases_block n (victim_ops p b r (reclaims v)) ≡ false) ⊎ (bst_at (plan_bst p b r (reclaims v)) n ≡ cond (worn p b.wear n) 2 0)
      go (yes y) = inr (rw y (unfold bst_at plan_vblock in m.kind_old new some))
      go (no y) = inl (one_spare p b.wear n (bt_at p b.bt r v) (λ x. y (sym x)))

  spares : (pl : Plan) → erases_block n (victim_ops p b r pl) ≡ false → erases_block n (plan_ops p b r q pl) ≡ false
  unfolding plan_ops room_ops
  spares pl h =
      let copying = frames_ops p (plan_block p b r pl) 0 (copies p (view p b r) pl) in
      let new = frame_ops p (plan_block p b r pl) (plan_frame p (view p b r) pl) (new_frame p (view p b r) q (next_stamp b r) (plan_vblock pl)) p.alpha in
      erases_append n (copying ++ victim_ops p b r pl) new
      (erases_append n copying (victim_ops p b r pl) (programs_spare n copying (frames_programs p (plan_block p b r pl) 0 (copies p (view p b r) pl))) h)
      (programs_spare n new (frame_programs p (plan_block p b r pl) (plan_frame p (view p b r) pl) (new_frame p (view p b r) q (next_stamp b r) (plan_vblock pl)) p.alpha))

  wears : wear_at (written p b q).wear n ≤ wear_at b.wear n + erases_of n (write_ops p b q)
  unfolding written written_by write_ops
  wears = wear_most n (write_ops p b q) b.wear (rw acc.tables.wear_length low)

  write_rated : Rated p b n → Rated p (written p b q) n
  write_rated rated alive = go (victim (plan_of p (view p b r)) listed made)
    where
      fresh : bst_at (plan_bst p b r (plan_of p (view p b r))) n ≡ cond (worn p b.wear n) 2 0 → (worn p b.wear n ≡ true) ⊎ (worn p b.wear n ≡ false) → wear_at (written p b q).wear n < p.E
      fresh is (inl t) = absurd (alive (unfold written written_by in is ∙ rw t))
      fresh is (inr t) = omega (arith, wears, among n (write_ops p b q), (write_promise p b q e).bounded.1, not_worn p b.wear n t)

      go : (erases_block n (victim_ops p b r (plan_of p (view p b r))) ≡ false) ⊎ (bst_at (plan_bst p b r (plan_of p (view p b r))) n ≡ cond (worn p b.wear n) 2 0) → wear_at (written p b q).wear n < p.E
      go (inl h) =
          omega (arith, wears, spared n (write_ops p b q) (unfold write_ops in spares (plan_of p (view p b r)) h), rated (λ x. alive (write_keeps_reserved p b q e n low x)))
      go (inr is) = fresh is (so (worn p b.wear n))

-- ---- any call, and runs

module _ (p : Params) (n : ℕ) (low : n < p.N) where
  done_rated : (b : Board) (c : Call) → Single c → reply_of p b c ≡ Accepted → Stands p b → Rated p b n → Rated p (done_board p b c) n
  unfolding done_board replay_wear
  done_rated b format s e st h = format_rated p b n low e
  done_rated b (read q) s e st h = h
  done_rated b (write q) s e st h = write_rated p b q e n low h
  done_rated b (release c) s e st h = unfold released in h
  done_rated b (queue l) s e st h = absurd s
  done_rated b start s e st h = let k = start_keeps p b st in rw (k.bst, k.wear) h

  call_rated : (b : Board) (c : Call) → Single c → Stands p b → Rated p b n → Rated p (plain_leaves p b c) n
  call_rated b c s st h = go (reply_cases (reply_of p b c))
    where
      go : (reply_of p b c ≡ Accepted) ⊎ (is_accepted (reply_of p b c) ≡ false) → Rated p (plain_leaves p b c) n
      go (inl e) = rw (accepted_leaves p b c s e) (done_rated b c s e st h)
      go (inr e) = rw (refused_leaves p b c e) h

  run_rated : (b : Board) (k : Known) (cs : List Call) → AllSingle cs → Standing p b k → Rated p b n → Rated p (plain_board p b cs) n
  unfolding plain_board
  run_rated b k [] s st h = h
  run_rated b k (c ∷ cs) s st h = run_rated (plain_leaves p b c) (known_by p b c k) cs s.1 (call_standing p b k c s.0 st) (call_rated b c s.0 st.stands h)

  after_rated : (b : Board) (k : Known) (run : List Call) → Standing p b k → Rated p b n → Rated p (plain_board p b run) n
  after_rated b k run st h = rw (board_same p b run) (run_rated b k (singles_of p b run) (all_single p b run) st h)

-- ---- the law

module _ (p : Params) (b : Board) (e : reply_of p b format ≡ Accepted) (cs : List Call) (n : ℕ) (low : n < p.N) where
  abbrev blank : Known
  blank = known (λ a. []) (λ c. false)

  first : Standing p (plain_leaves p b format) (known_by p b format blank)
  first = first_standing p b blank e

  pub run_stands : Stands p (plain_board p b (format ∷ cs))
  unfolding plain_board
  run_stands = (after_standing p (plain_leaves p b format) (known_by p b format blank) cs first).stands

  pub never_past : Rated p (plain_board p b (format ∷ cs)) n
  unfolding plain_board
  never_past = after_rated p n low (plain_leaves p b format) (known_by p b format blank) cs first (rw (format_leaves p b e) (format_rated p b n low e))

pub worn_over_runs : WornOverRuns
worn_over_runs p b e ss u n low = (
  λ two. run_new p st.fine n low b (plain format ∷ ss) (format_admitted p b e).lengths (st.marked n low two),
  λ w. go w (ℕ_discrete (bst_at (board_after p b (plain format ∷ ss)).bst n) 2),
)
  where
    st : Stands p (board_after p b (plain format ∷ ss))
    st = rw (format_board p b ss u) (run_stands p b e (map call_of ss) n low)

    rated : Rated p (board_after p b (plain format ∷ ss)) n
    rated = rw (format_board p b ss u) (never_past p b e (map call_of ss) n low)

    go : (bad p b.chip n ≡ true) ⊎ (p.E ≤ wear_at (board_after p b (plain format ∷ ss)).wear n) → Dec (bst_at (board_after p b (plain format ∷ ss)).bst n ≡ 2)
        → bst_at (board_after p b (plain format ∷ ss)).bst n ≡ 2
    go w (yes two) = two
    go (inl h) (no ne) =
        absurd (never (run_still p st.fine n low b (plain format ∷ ss) (format_admitted p b e).lengths h)
        (unreserved_good p (board_after p b (plain format ∷ ss)) (record { fine = st.fine; lengths = st.lengths; tidy = st.order }) n low ne))
    go (inr h) (no ne) = absurd (omega (arith, h, rated ne))
