-- No call erases a block that is bad, and each marks a block only once its wear is E. So over any run, through any cuts, a bad block stays bad, and one that becomes bad is
-- worn out; and a format after it is refused for want of good blocks alone.
-- Assumes nothing.
use mathlib.Core.Path.{◌≡◌, refl, sym, ap, ◌∙◌}
use mathlib.Core.Logic.{◌⊎◌, inl, inr}
use Prim.Native.Nat.{ℕ, zero, suc, ◌+◌, ◌*◌, ◌≤◌, ◌<◌}
use native.Mathlib.Nat.{mod-lt}
use native.Mathlib.Omega.{arith}
use mathlib.Core.Bool.{Bool, true, false, not, cond}
use mathlib.Core.List.{List, [], ◌∷◌, ◌++◌, append-nil}
use lib.Dec.{eqb}
use lib.ListN.{length, take}
use borrow.Author.Tests.{eqb-true, leb-true, ne_eqb, not-true}
use Rattle.lists.specs.Below.{join_below}
use Rattle.lists.proofs.Tests.{and_left, never, or_neither, so, truths}
use Rattle.rules.specs.declared.Params.{Params}
use Rattle.rules.specs.declared.Reply.TheVariants.{Accepted, TooFewBlocks}
use Rattle.rules.specs.Parameters.{allowed, chip_bytes}
use Rattle.rules.specs.Tables.{Board, bst_at, bt_at, wear_at}
use Rattle.rules.specs.Regions.{view}
use Rattle.rules.specs.Traces.{Op, erase, erase_ops, erase_where, frame_ops, frames_ops, mark, on_wear, program, replay_wear, worn}
use Rattle.rules.specs.Requests.{Call, Request, format, queue, read, release, request_cluster, request_region, start, write}
use Rattle.rules.specs.Format.{bad, format_ops}
use Rattle.rules.specs.Start.{in_use, left_over, start_ops}
use Rattle.rules.specs.Write.{Plan, copies, new_frame, next_stamp, plan_block, plan_frame, plan_of, plan_ops, plan_vblock, room_ops, victim_ops, write_ops}
use Rattle.rules.specs.Replies.{OrderlyBoard, bad_parameter, first_row, is_accepted, lengths_fit, lent_rows, reply_of, rows_of, too_few_blocks, wrong_length}
use Rattle.rules.specs.Calls.{ops_of, work_of}
use Rattle.rules.specs.Cuts.{Step, is_cut, limited, plain}
use Rattle.rules.proofs.Admitted.{Admitted, admitted, format_admitted, write_checks}
use Rattle.rules.proofs.BadBlocks.{unreserved_good}
use Rattle.rules.proofs.Erases.{erases_below, wear_ahead, where_below}
use Rattle.rules.proofs.Isolation.{index_low}
use Rattle.rules.proofs.Outcomes.{reply_cases}
use Rattle.rules.proofs.PlanCases.{Case, goes_on, plan_case, renews, takes}
use Rattle.rules.proofs.RegionFacts.{neat}
use Rattle.rules.proofs.Sizes.{Sizes, sizes}
use Rattle.rules.proofs.TableFacts.{lengths_in}
use Rattle.rules.proofs.Views.{block_low_lem, has_block}
use Rattle.rules.proofs.Writes.{wear_length_lem}
use Rattle.starts.proofs.KeptBlocks.{use_good}
use Rattle.claims.specs.Runs.{board_after, erases_block, leaves, made_by}
use Rattle.claims.proofs.BadRuns.{MarksWorn, bad_replay, erased_rated, new_worn, stays_bad, worn_append, worn_take}
use Rattle.claims.proofs.CutTraces.{step_long, step_made, trace_long}
use Rattle.claims.proofs.Kept.{Replayed, one_made, run_long}
use Rattle.claims.proofs.PlainRuns.{plain_board, plain_leaves, plain_parts, plain_trace}
use Rattle.claims.proofs.Singles.{AllSingle, Single, all_single, parts_same, singles_of}
use Rattle.claims.proofs.Steps.{accepted_ops, done_ops, ops_by, refused_ops, trace_step}

-- ---- operations that are programs alone

abbrev Programs : List Op → Type 0
Programs [] = Unit {0}
Programs (program n q x ∷ os) = Programs os
Programs (erase n ∷ os) = ⊥
Programs (mark n ∷ os) = ⊥

programs_append : (xs ys : List Op) → Programs xs → Programs ys → Programs (xs ++ ys)
programs_append [] ys h k = k
programs_append (program n q x ∷ xs) ys h k = programs_append xs ys h k
programs_append (erase _ ∷ xs) ys h k = elim h [ ]
programs_append (mark _ ∷ xs) ys h k = elim h [ ]

pub frame_programs : (p : Params) (n f : ℕ) (x : List ℕ) (k : ℕ) → Programs (frame_ops p n f x k)
unfolding frame_ops join_below
frame_programs p n f x zero = tt
frame_programs p n f x (suc k) = programs_append (frame_ops p n f x k) _ (frame_programs p n f x k) tt

pub frames_programs : (p : Params) (n to : ℕ) (xs : List (List ℕ)) → Programs (frames_ops p n to xs)
unfolding frames_ops
frames_programs p n to [] = tt
frames_programs p n to (x ∷ xs) = programs_append (frame_ops p n to x p.alpha) _ (frame_programs p n to x p.alpha) (frames_programs p n (suc to) xs)

pub programs_spare : (n : ℕ) (os : List Op) → Programs os → erases_block n os ≡ false
unfolding erases_block
programs_spare n [] h = refl
programs_spare n (program m q x ∷ os) h = programs_spare n os h
programs_spare n (erase _ ∷ os) h = elim h [ ]
programs_spare n (mark _ ∷ os) h = elim h [ ]

programs_worn : (p : Params) (n : ℕ) (wear : List ℕ) (os : List Op) → Programs os → MarksWorn p n wear os
programs_worn p n wear [] h = tt
programs_worn p n wear (program m q x ∷ os) h = programs_worn p n wear os h
programs_worn p n wear (erase _ ∷ os) h = elim h [ ]
programs_worn p n wear (mark _ ∷ os) h = elim h [ ]

programs_wear : (wear : List ℕ) (os : List Op) → Programs os → replay_wear wear os ≡ wear
unfolding replay_wear on_wear
programs_wear wear [] h = refl
programs_wear wear (program m q x ∷ os) h = programs_wear wear os h
programs_wear wear (erase _ ∷ os) h = elim h [ ]
programs_wear wear (mark _ ∷ os) h = elim h [ ]

pub erases_append : (n : ℕ) (xs ys : List Op) → erases_block n xs ≡ false → erases_block n ys ≡ false → erases_block n (xs ++ ys) ≡ false
unfolding erases_block
erases_append n [] ys h k = k
erases_append n (program m q x ∷ xs) ys h k = erases_append n xs ys h k
erases_append n (mark m ∷ xs) ys h k = erases_append n xs ys h k
erases_append n (erase m ∷ xs) ys h k = let w = or_neither (eqb m n) h in rw w.0 (erases_append n xs ys w.1 k)

erases_take : (n k : ℕ) (os : List Op) → erases_block n os ≡ false → erases_block n (take k os) ≡ false
unfolding erases_block
erases_take n zero os h = refl
erases_take n (suc k) [] h = refl
erases_take n (suc k) (program m q x ∷ os) h = erases_take n k os h
erases_take n (suc k) (mark m ∷ os) h = erases_take n k os h
erases_take n (suc k) (erase m ∷ os) h = let w = or_neither (eqb m n) h in rw w.0 (erases_take n k os w.1)

-- ---- an erase with its mark

pub one_spare : (p : Params) (wear : List ℕ) (n m : ℕ) → (m ≡ n → ⊥) → erases_block n (erase_ops p wear m) ≡ false
unfolding erase_ops erases_block
one_spare p wear n m ne = rw (ne_eqb m n ne) (go (worn p wear m))
  where
    go : (t : Bool) → erases_block n (cond t (mark m ∷ []) []) ≡ false
    go true = refl
    go false = refl

-- on a wear that has of block m what the first wear has
one_worn : (p : Params) → Sizes p → (n m : ℕ) (wear wear₁ : List ℕ) → m < length wear₁ → wear_at wear₁ m ≡ wear_at wear m → MarksWorn p n wear₁ (erase_ops p wear m)
unfolding erase_ops
one_worn p z n m wear wear₁ low same = go (so (worn p wear m))
  where
    go : (worn p wear m ≡ true) ⊎ (worn p wear m ≡ false) → MarksWorn p n wear₁ (erase m ∷ cond (worn p wear m) (mark m ∷ []) [])
    go (inl t) = rw t (λ e. rw (← e) (erased_rated p z m wear₁ low (rw same (unfold worn in leb-true p.E (wear_at wear m + 1) t))), tt)
    go (inr t) = rw t tt

module _ (p : Params) (z : Sizes p) (n : ℕ) (wear : List ℕ) (f : ℕ → Bool) where
  below_spare : (k : ℕ) → f n ≡ false → erases_block n (erases_below p wear f k) ≡ false
  unfolding erases_below join_below
  below_spare zero h = unfold erases_block in refl
  below_spare (suc k) h = erases_append n (erases_below p wear f k) _ (below_spare k h) (go (so (f k)))
    where
      go : (f k ≡ true) ⊎ (f k ≡ false) → erases_block n (cond (f k) (erase_ops p wear k) []) ≡ false
      go (inl t) = rw t (one_spare p wear n k (λ e. never t (ap f e ∙ h)))
      go (inr t) = rw t (unfold erases_block in refl)

  below_worn : (k : ℕ) → k ≤ length wear → MarksWorn p n wear (erases_below p wear f k)
  unfolding erases_below join_below
  below_worn zero h = tt
  below_worn (suc k) h = worn_append p n wear (erases_below p wear f k) _ (below_worn k (omega arith)) (go (f k))
    where
      go : (t : Bool) → MarksWorn p n (replay_wear wear (erases_below p wear f k)) (cond t (erase_ops p wear k) [])
      go true = one_worn p z n k wear (replay_wear wear (erases_below p wear f k)) (rw (wear_length_lem wear (erases_below p wear f k)) h) (wear_ahead p wear f k k (omega arith))
      go false = tt

-- ---- one call

-- its operations erase no block that is bad, and mark block n only once its wear is E
record Sparing (p : Params) (b : Board) (n : ℕ) (ops : List Op) : Type 0 where
  spares : bad p b.chip n ≡ true → erases_block n ops ≡ false
  worns : MarksWorn p n b.wear ops

none_sparing : (p : Params) (b : Board) (n : ℕ) → Sparing p b n []
none_sparing p b n = record { spares = λ h. unfold erases_block in refl; worns = tt }

where_sparing : (p : Params) → Sizes p → (b : Board) (n : ℕ) (f : ℕ → Bool) → length b.wear ≡ p.N → (f n ≡ true → bad p b.chip n ≡ false) → Sparing p b n (erase_where p b.wear f)
where_sparing p z b n f long good =
    rw (where_below p b.wear f)
    (record { spares = λ h. below_spare p z n b.wear f p.N (go h (so (f n))); worns = below_worn p z n b.wear f p.N (omega (arith, long)) })
  where
    go : bad p b.chip n ≡ true → (f n ≡ true) ⊎ (f n ≡ false) → f n ≡ false
    go h (inl t) = absurd (never h (good t))
    go h (inr t) = t

-- a write: its programs, and the victim's erase with its mark; the victim's block is used, so it is not bad
module _ (p : Params) (b : Board) (q : Request) (e : reply_of p b (write q) ≡ Accepted) (n : ℕ) where
  acc : Admitted p b q
  acc = admitted p b q (write_checks p b q e)

  abbrev r : ℕ
  r = request_region p q

  region : r < p.mu
  region = mod-lt (request_cluster p q) acc.sized.regions

  before : OrderlyBoard p b
  before = let c = write_checks p b q e in record { fine = c.fine; lengths = c.lengths; tidy = c.tidy }

  victim_sparing : (pl : Plan) → Case p (view p b r) pl → (bad p b.chip n ≡ true → erases_block n (victim_ops p b r pl) ≡ false) × MarksWorn p n b.wear (victim_ops p b r pl)
  victim_sparing pl (goes_on h i) = rw i (unfold victim_ops erases_block in (λ x. refl, tt))
  victim_sparing pl (takes h v low lacks i) = rw i (unfold victim_ops erases_block in (λ x. refl, tt))
  victim_sparing pl (renews h every v low few i) =
      rw i (unfold victim_ops in (
        λ x. one_spare p b.wear n old (λ y. never x (ap (bad p b.chip) (sym y) ∙ good)),
        one_worn p acc.sized n old b.wear b.wear (rw acc.tables.wear_length old_low) refl,
      ))
    where
      old : ℕ
      old = bt_at p b.bt r v

      old_low : bt_at p b.bt r v < p.N
      old_low = block_low_lem p acc.sized b acc.tables r v region low (has_block p acc.sized b acc.tables r v region low (every v low))

      used : bst_at b.bst (bt_at p b.bt r v) ≡ 1
      used = acc.tables.used_back (r * p.gamma + v) (index_low p r v region low) (bt_at p b.bt r v) old_low (unfold bt_at in refl)

      good : bad p b.chip (bt_at p b.bt r v) ≡ false
      good = unreserved_good p b before (bt_at p b.bt r v) old_low (λ y. omega (arith, y, used))

  write_sparing : Sparing p b n (write_ops p b q)
  unfolding write_ops plan_ops room_ops
  write_sparing =
      let pl = plan_of p (view p b r) in
      let w = victim_sparing pl (plan_case p acc.sized r (view p b r) (neat p r (view p b r) (acc.tidy r region))) in
      let copying = frames_ops p (plan_block p b r pl) 0 (copies p (view p b r) pl) in
      let are = frames_programs p (plan_block p b r pl) 0 (copies p (view p b r) pl) in
      let new = frame_ops p (plan_block p b r pl) (plan_frame p (view p b r) pl) (new_frame p (view p b r) q (next_stamp b r) (plan_vblock pl)) p.alpha in
      let adding = frame_programs p (plan_block p b r pl) (plan_frame p (view p b r) pl) (new_frame p (view p b r) q (next_stamp b r) (plan_vblock pl)) p.alpha in
      record {
        spares = λ h. erases_append n (copying ++ victim_ops p b r pl) _ (erases_append n copying (victim_ops p b r pl) (programs_spare n copying are) (w.0 h)) (programs_spare n new adding);
        worns =
            worn_append p n b.wear (copying ++ victim_ops p b r pl) _
            (worn_append p n b.wear copying (victim_ops p b r pl) (programs_worn p n b.wear copying are) (rw (programs_wear b.wear copying are) w.1))
            (programs_worn p n (replay_wear b.wear (copying ++ victim_ops p b r pl)) new adding);
      }

-- ---- a run of single calls, and so any call

wear_long : (p : Params) (b : Board) → lengths_fit p b ≡ true → length b.wear ≡ p.N
wear_long p b h = (lengths_in p b h).wear_length

chip_long : (p : Params) (b : Board) → lengths_fit p b ≡ true → length b.chip ≡ chip_bytes p
unfolding lengths_fit
chip_long p b h = eqb-true _ _ (truths _ h).0

module _ (p : Params) (fine : allowed p ≡ true) (n : ℕ) (low : n < p.N) where
  z : Sizes p
  z = sizes p fine

  done_sparing : (b : Board) (c : Call) → Single c → reply_of p b c ≡ Accepted → lengths_fit p b ≡ true → Sparing p b n (done_ops p b c)
  unfolding done_ops format_ops start_ops
  done_sparing b format s e l = where_sparing p z b n (λ m. not (bad p b.chip m)) (wear_long p b l) (not-true (bad p b.chip n))
  done_sparing b (read q) s e l = none_sparing p b n
  done_sparing b (write q) s e l = write_sparing p b q e n
  done_sparing b (release c) s e l = none_sparing p b n
  done_sparing b (queue l) s e l' = absurd s
  done_sparing b start s e l = where_sparing p z b n (left_over p b.chip) (wear_long p b l) (λ h. use_good p b.chip n (unfold left_over in and_left (in_use p b.chip n) _ h))

  ops_sparing : (b : Board) (c : Call) → Single c → lengths_fit p b ≡ true → Sparing p b n (ops_by p b c)
  ops_sparing b c s l = go (reply_cases (reply_of p b c))
    where
      go : (reply_of p b c ≡ Accepted) ⊎ (is_accepted (reply_of p b c) ≡ false) → Sparing p b n (ops_by p b c)
      go (inl e) = rw (accepted_ops p b c s e) (done_sparing b c s e l)
      go (inr e) = rw (refused_ops p b c s e) (none_sparing p b n)

  -- a bad block stays bad by operations that spare it
  kept_bad : (b b' : Board) (ops : List Op) → lengths_fit p b ≡ true → Replayed p b b' ops → Sparing p b n ops → bad p b.chip n ≡ true → bad p b'.chip n ≡ true
  kept_bad b b' ops l m s h = rw m.chip (bad_replay p z n low ops b.chip (chip_long p b l) m.fits m.erased ∙ rw h (stays_bad n ops (s.spares h)))

  -- and one that becomes bad is worn out
  new_bad_lem : {A : Type 0} (b b' : Board) (ops : List Op) → lengths_fit p b ≡ true → Replayed p b b' ops → Sparing p b n ops → (bad p b.chip n ≡ true → A ⊎ (p.E ≤ wear_at b.wear n))
      → bad p b'.chip n ≡ true → A ⊎ (p.E ≤ wear_at b'.wear n)
  new_bad_lem b b' ops l m s inv h =
      rw m.wear (new_worn p z n ops b.wear (bad p b.chip n) (rw (wear_long p b l) low) s.worns inv
      (sym (bad_replay p z n low ops b.chip (chip_long p b l) m.fits m.erased) ∙ (rw m.chip at h)))

  singles_sparing : (b : Board) (cs : List Call) → AllSingle cs → lengths_fit p b ≡ true → Sparing p b n (plain_trace p b cs)
  singles_sparing b [] s l = unfold plain_trace plain_parts ops_of in none_sparing p b n
  singles_sparing b (c ∷ cs) s l =
      let here = ops_sparing b c s.0 l in
      let made = one_made p b c s.0 in
      let there = singles_sparing (plain_leaves p b c) cs s.1 (leaves_long b c l) in
      rw (trace_step p b c cs)
      (record {
        spares = λ h. erases_append n (ops_by p b c) _ (here.spares h) (there.spares (kept_bad b (plain_leaves p b c) (ops_by p b c) l made here h));
        worns = worn_append p n b.wear (ops_by p b c) _ here.worns (rw (← made.wear) there.worns);
      })
    where
      leaves_long : (b : Board) (c : Call) → lengths_fit p b ≡ true → lengths_fit p (plain_leaves p b c) ≡ true
      leaves_long b c l = unfold plain_board in run_long p b (c ∷ []) l

  call_sparing : (b : Board) (c : Call) → lengths_fit p b ≡ true → Sparing p b n (ops_of (work_of p b c).parts)
  call_sparing b c l = rw same (singles_sparing b (singles_of p b (c ∷ [])) (all_single p b (c ∷ [])) l)
    where
      alone : (work_of p b c).parts ≡ plain_parts p b (c ∷ [])
      alone = unfold plain_parts in sym (append-nil (work_of p b c).parts)

      same : ops_of (work_of p b c).parts ≡ plain_trace p b (singles_of p b (c ∷ []))
      same = unfold plain_trace in ap ops_of (alone ∙ parts_same p b (c ∷ []))

  -- ---- a step, cut or not, and a run

  step_sparing : (b : Board) (s : Step) → lengths_fit p b ≡ true → Sparing p b n (made_by p b s)
  unfolding made_by
  step_sparing b (plain c) l = call_sparing b c l
  step_sparing b (limited k c) l = go (so (is_cut p b (limited k c))) (call_sparing b c l)
    where
      ops : List Op
      ops = ops_of (work_of p b c).parts

      go : (is_cut p b (limited k c) ≡ true) ⊎ (is_cut p b (limited k c) ≡ false) → Sparing p b n (ops_of (work_of p b c).parts)
          → Sparing p b n (cond (is_cut p b (limited k c)) (take k (ops_of (work_of p b c).parts)) (ops_of (work_of p b c).parts))
      go (inl e) s = rw e (record { spares = λ h. erases_take n k ops (s.spares h); worns = worn_take p n b.wear k ops s.worns })
      go (inr e) s = rw e s

  pub run_still : (b : Board) (ss : List Step) → lengths_fit p b ≡ true → bad p b.chip n ≡ true → bad p (board_after p b ss).chip n ≡ true
  unfolding board_after
  run_still b [] l h = h
  run_still b (s ∷ ss) l h = run_still (leaves p b s) ss (step_long p b s l) (kept_bad b (leaves p b s) (made_by p b s) l (step_made p b s) (step_sparing b s l) h)

  run_from : {A : Type 0} (b : Board) (ss : List Step) → lengths_fit p b ≡ true → (bad p b.chip n ≡ true → A ⊎ (p.E ≤ wear_at b.wear n))
      → bad p (board_after p b ss).chip n ≡ true → A ⊎ (p.E ≤ wear_at (board_after p b ss).wear n)
  unfolding board_after
  run_from b [] l inv = inv
  run_from b (s ∷ ss) l inv = run_from (leaves p b s) ss (step_long p b s l) (new_bad_lem b (leaves p b s) (made_by p b s) l (step_made p b s) (step_sparing b s l) inv)

  pub run_new : (b : Board) (ss : List Step) → lengths_fit p b ≡ true → bad p (board_after p b ss).chip n ≡ true → (bad p b.chip n ≡ true) ⊎ (p.E ≤ wear_at (board_after p b ss).wear n)
  run_new b ss l = run_from b ss l inl

-- ---- a format after a run

-- it is refused for want of good blocks alone
pub format_again : (p : Params) (b : Board) → reply_of p b format ≡ Accepted → (ss : List Step)
    → reply_of p (board_after p b ss) format ≡ cond (too_few_blocks p (board_after p b ss)) TooFewBlocks Accepted
unfolding reply_of rows_of lent_rows first_row bad_parameter wrong_length
format_again p b e ss = let a = format_admitted p b e in rw (a.fine, trace_long p b ss a.lengths)
