-- A board lasts (R − μγ) · (E − 1) erases less the wear at the format. Where a write finds no free block, every block that was not bad is used, and these are μγ at most, or is worn out: its wear is
-- E or more, of which one erase is the format's. Each erase of the calls after the format adds to one block's wear.
-- Assumes nothing.
use mathlib.Core.Path.{◌≡◌, refl, sym}
use mathlib.Core.Logic.{◌⊎◌, inl, inr}
use Prim.Native.Nat.{ℕ, zero, suc, ◌+◌, ◌-◌, ◌*◌, ◌≤◌, ◌<◌, min}
use native.Mathlib.Nat.{le_refl, mul-le-mul}
use native.Mathlib.Omega.{arith}
use native.Mathlib.Decide.{ℕ_discrete}
use mathlib.Core.Bool.{Bool, true, false, not, ◌&&◌, cond}
use mathlib.Core.List.{List, [], ◌∷◌, ◌++◌}
use lib.Dec.{eqb}
use lib.ListN.{get_or, length, length-set, set}
use lib.Seq.{get_or-set_other, get_or-set_same}
use borrow.Author.Tests.{eq-eqb, eqb-false, eqb-true, ne_eqb, not-true}
use Rattle.lists.specs.Below.{count_below, join_below, sum_below}
use Rattle.lists.proofs.Counts.{count_less, count_split}
use Rattle.lists.proofs.Sums.{count_sum, sum_add, sum_most, sum_zero}
use Rattle.lists.proofs.Tests.{and_left, and_right, count_le, never}
use Rattle.rules.specs.declared.Params.{Params}
use Rattle.rules.specs.declared.Reply.TheVariants.{Accepted, NoBlockLeft}
use Rattle.rules.specs.Tables.{Board, bst_at, bt_entry, none, not_found, wear_at}
use Rattle.rules.specs.Regions.{view}
use Rattle.rules.specs.Traces.{Op, erase, erase_ops, erases_in, is_erase, mark, on_wear, program, replay_wear, worn}
use Rattle.rules.specs.Requests.{Request, format, request_region, write}
use Rattle.rules.specs.Format.{bad, format_ops, formatted}
use Rattle.rules.specs.Write.{free_block, plan_of, takes_block}
use Rattle.rules.specs.Replies.{no_block_left, reply_of}
use Rattle.rules.specs.Cuts.{Step, plain}
use Rattle.rules.specs.Words.{erases_of}
use Rattle.rules.proofs.Admitted.{format_admitted}
use Rattle.rules.proofs.Erases.{erases_below, where_below}
use Rattle.rules.proofs.Sizes.{Sizes, sizes}
use Rattle.rules.proofs.TableFacts.{Tables, lengths_in}
use Rattle.rules.proofs.Totals.{used_total}
use Rattle.rules.proofs.Views.{HasFree, free_cases}
use Rattle.starts.specs.Stands.{Stands}
use Rattle.starts.proofs.Steady.{stands_tables}
use Rattle.claims.specs.Runs.{board_after, leaves, stands, trace_of}
use Rattle.claims.specs.Life.{Life, good_at_format, wear_at_format}
use Rattle.claims.proofs.Again.{run_new}
use Rattle.claims.proofs.Beliefs.{Believed}
use Rattle.claims.proofs.Condition1.{row_ten}
use Rattle.claims.proofs.CutCalls.{format_known}
use Rattle.claims.proofs.CutTraces.{step_long, trace_made}
use Rattle.claims.proofs.Steps.{format_leaves}
use Rattle.claims.proofs.PlainRuns.{first_plain}

-- ---- erases and wear

-- the erases of the blocks below n are among all
erases_each : (n : ℕ) (os : List Op) → sum_below n (λ i. erases_of i os) ≤ erases_in os
unfolding erases_of erases_in is_erase
erases_each n [] = omega (arith, sum_zero n (λ i. 0) (λ i k. refl))
erases_each n (program m q x ∷ os) = omega (arith, erases_each n os)
erases_each n (mark m ∷ os) = omega (arith, erases_each n os)
erases_each n (erase m ∷ os) = omega (arith, sum_add n (λ i. cond (eqb m i) 1 0) (λ i. erases_of i os), sum_most n m, erases_each n os)

-- an erase adds one at most to one block's wear
pub wear_most : (n : ℕ) (os : List Op) (wear : List ℕ) → n < length wear → wear_at (replay_wear wear os) n ≤ wear_at wear n + erases_of n os
unfolding erases_of replay_wear on_wear
wear_most n [] wear h = omega arith
wear_most n (program m q x ∷ os) wear h = wear_most n os wear h
wear_most n (mark m ∷ os) wear h = wear_most n os wear h
wear_most n (erase m ∷ os) wear h = go (ℕ_discrete m n) (wear_most n os (set wear m (min (wear_at wear m + 1) 4294967295)) (rw length-set h))
  where
    go : Dec (m ≡ n) → wear_at (replay_wear (set wear m (min (wear_at wear m + 1) 4294967295)) os) n ≤ wear_at (set wear m (min (wear_at wear m + 1) 4294967295)) n + erases_of n os
        → wear_at (replay_wear (set wear m (min (wear_at wear m + 1) 4294967295)) os) n ≤ wear_at wear n + (cond (eqb m n) 1 0 + erases_of n os)
    go (yes e) below =
        let w : wear_at (set wear m (min (wear_at wear m + 1) 4294967295)) n ≡ min (wear_at wear n + 1) 4294967295 =
        unfold wear_at in rw e (get_or-set_same wear n (min (get_or wear n 0 + 1) 4294967295) 0 h) in
        rw (eq-eqb m n e) (omega (arith, w, below))
    go (no e) below =
        let w : wear_at (set wear m (min (wear_at wear m + 1) 4294967295)) n ≡ wear_at wear n =
        unfold wear_at in get_or-set_other wear m n (min (get_or wear m 0 + 1) 4294967295) 0 (λ x. e (sym x)) in
        rw (ne_eqb m n e) (omega (arith, w, below))

-- a format erases each block once at most
erases_both : (n : ℕ) (xs ys : List Op) → erases_of n (xs ++ ys) ≡ erases_of n xs + erases_of n ys
unfolding erases_of
erases_both n [] ys = omega arith
erases_both n (program m q x ∷ xs) ys = erases_both n xs ys
erases_both n (mark m ∷ xs) ys = erases_both n xs ys
erases_both n (erase m ∷ xs) ys = omega (arith, erases_both n xs ys)

one_erase : (p : Params) (wear : List ℕ) (n m : ℕ) (t : Bool) → erases_of n (cond t (erase_ops p wear m) []) ≤ cond (eqb m n) 1 0
unfolding erases_of erase_ops
one_erase p wear n m false = omega arith
one_erase p wear n m true = go (worn p wear m)
  where
    go : (u : Bool) → erases_of n (erase m ∷ cond u (mark m ∷ []) []) ≤ cond (eqb m n) 1 0
    go true = omega arith
    go false = omega arith

below_once : (p : Params) (wear : List ℕ) (f : ℕ → Bool) (n k : ℕ) → erases_of n (erases_below p wear f k) ≤ sum_below k (λ m. cond (eqb n m) 1 0)
unfolding erases_below join_below sum_below
below_once p wear f n zero = unfold erases_of in omega arith
below_once p wear f n (suc k) =
    omega (arith, erases_both n (erases_below p wear f k) (cond (f k) (erase_ops p wear k) []), below_once p wear f n k, one_erase p wear n k (f k), turned (ℕ_discrete n k))
  where
    turned : Dec (n ≡ k) → cond {A = ℕ} (eqb k n) 1 0 ≡ cond (eqb n k) 1 0
    turned (yes e) = rw (eq-eqb n k e, eq-eqb k n (sym e))
    turned (no e) = rw (ne_eqb n k e, ne_eqb k n (λ y. e (sym y)))

pub format_once : (p : Params) (chip wear : List ℕ) (n : ℕ) → erases_of n (format_ops p chip wear) ≤ 1
unfolding format_ops
format_once p chip wear n = rw (where_below p wear (λ m. not (bad p chip m))) (omega (arith, below_once p wear (λ m. not (bad p chip m)) n p.N, sum_most p.N n))

-- ---- the board that has no free block

-- its blocks are used, which are μγ at most, or reserved
module _ (p : Params) (b : Board) (q : Request) (st : Stands p b) (ten : reply_of p b (write q) ≡ NoBlockLeft) where
  z : Sizes p
  z = sizes p st.fine

  t : Tables p b
  t = stands_tables p b st

  none_free : (n : ℕ) → n < p.N → eqb (bst_at b.bst n) 0 ≡ false
  none_free = go (free_cases p b z)
    where
      lacks : eqb (free_block p b.bst b.wear) not_found ≡ true
      lacks = unfold no_block_left in and_right (takes_block (plan_of p (view p b (request_region p q)))) (row_ten p b q ten).1

      go : ((free_block p b.bst b.wear ≡ none) × ((i : ℕ) → i < p.N → eqb (bst_at b.bst i) 0 ≡ false)) ⊎ HasFree p b → (n : ℕ) → n < p.N → eqb (bst_at b.bst n) 0 ≡ false
      go (inl w) = w.1
      go (inr w) = absurd (omega (arith, eqb-true (free_block p b.bst b.wear) not_found lacks, w.0, z.blocks))

  pub used_few : count_below p.N (λ n. eqb (bst_at b.bst n) 1) ≤ p.mu * p.gamma
  used_few = rw (used_total p z b t) (count_le (p.mu * p.gamma) (λ i. not (eqb (bt_entry b.bt i) none)))

  pub else_reserved : (n : ℕ) → n < p.N → eqb (bst_at b.bst n) 1 ≡ false → bst_at b.bst n ≡ 2
  else_reserved n h u = go (bst_at b.bst n) (t.kinds n h) (eqb-false _ _ (none_free n h)) (eqb-false _ _ u)
    where
      go : (x : ℕ) → x ≤ 2 → (x ≡ 0 → ⊥) → (x ≡ 1 → ⊥) → x ≡ 2
      go zero l a c = absurd (a refl)
      go (suc zero) l a c = absurd (c refl)
      go (suc (suc zero)) l a c = refl
      go (suc (suc (suc x))) l a c = absurd (omega arith)

-- ---- the law

module _ (p : Params) (b : Board) (e : reply_of p b format ≡ Accepted) (ss : List Step) (st : Stands p (board_after p b (plain format ∷ ss))) (q : Request)
    (ten : reply_of p (board_after p b (plain format ∷ ss)) (write q) ≡ NoBlockLeft) where
  abbrev after : Board
  after = board_after p b (plain format ∷ ss)

  abbrev first : Board
  first = leaves p b (plain format)

  abbrev later : List Op
  later = trace_of p (leaves p b (plain format)) ss

  -- a block that was not bad and is not used is worn out
  abbrev gone : ℕ → Bool
  gone n = not (bad p b.chip n) && not (eqb (bst_at after.bst n) 1)

  abbrev spent : ℕ → ℕ
  spent n = cond (bad p b.chip n) 0 (wear_at b.wear n) + erases_of n later

  first_wear : (n : ℕ) → n < p.N → wear_at first.wear n ≤ wear_at b.wear n + 1
  first_wear n h =
      rw (first_plain p b ss, format_leaves p b e)
      (unfold formatted in omega (arith, wear_most n (format_ops p b.chip b.wear) b.wear (rw (lengths_in p b (format_admitted p b e).lengths).wear_length h), format_once p b.chip b.wear n))

  first_long : length first.wear ≡ p.N
  first_long = (lengths_in p first (step_long p b (plain format) (format_admitted p b e).lengths)).wear_length

  each : (n : ℕ) → n < p.N → gone n ≡ true → p.E - 1 ≤ spent n
  each n h both = rw good (omega (arith, worn_out_lem, wears, first_wear n h))
    where
      good : bad p b.chip n ≡ false
      good = not-true _ (and_left (not (bad p b.chip n)) _ both)

      now_bad : bad p after.chip n ≡ true
      now_bad = st.marked n h (else_reserved p after q st ten n h (not-true _ (and_right (not (bad p b.chip n)) both)))

      worn_out_lem : p.E ≤ wear_at after.wear n
      worn_out_lem = go (run_new p st.fine n h b (plain format ∷ ss) (format_admitted p b e).lengths now_bad)
        where
          go : (bad p b.chip n ≡ true) ⊎ (p.E ≤ wear_at after.wear n) → p.E ≤ wear_at after.wear n
          go (inl y) = absurd (never y good)
          go (inr y) = y

      wears : wear_at after.wear n ≤ wear_at first.wear n + erases_of n later
      wears = unfold board_after in rw (trace_made p first ss).wear (wear_most n later first.wear (rw first_long h))

  few_used : count_below p.N (λ n. not (bad p b.chip n) && eqb (bst_at after.bst n) 1) ≤ p.mu * p.gamma
  few_used =
      omega (
        arith,
        used_few p after q st ten,
        count_less p.N (λ n. not (bad p b.chip n) && eqb (bst_at after.bst n) 1) (λ n. eqb (bst_at after.bst n) 1) (λ n h y. and_right (not (bad p b.chip n)) y),
      )

  enough_gone : good_at_format p b - p.mu * p.gamma ≤ count_below p.N gone
  unfolding good_at_format
  enough_gone = omega (arith, count_split p.N (λ n. not (bad p b.chip n)) (λ n. eqb (bst_at after.bst n) 1), few_used)

  lasts : (good_at_format p b - p.mu * p.gamma) * (p.E - 1) ≤ wear_at_format p b + erases_in later
  unfolding wear_at_format
  lasts =
      omega (
        arith,
        mul-le-mul enough_gone (le_refl (p.E - 1)),
        count_sum p.N gone (p.E - 1) spent each,
        sum_add p.N (λ n. cond (bad p b.chip n) 0 (wear_at b.wear n)) (λ n. erases_of n later),
        erases_each p.N later,
      )

pub life : Life
life p b e ss x k is q ten =
    let held : Believed p (board_after p b (plain format ∷ ss)) (stands k) = rw is at (format_known p b e ss x) in
    lasts p b e ss held.0.stands q ten
