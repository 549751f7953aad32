-- What a start finds on a chip that shows what the host knows: each LBA as it was last. After a write that was cut short the chip shows the board before it or the board after it, so the write reads
-- wholly old or wholly new.
-- Assumes nothing.
use mathlib.Core.Path.{◌≡◌, refl, sym, ap, ◌∙◌}
use mathlib.Core.Logic.{◌⊎◌, inl, inr}
use Prim.Native.Nat.{ℕ, zero, suc, ◌+◌, ◌*◌, ◌≤◌, ◌<◌}
use native.Mathlib.Nat.{div-lt_iff_lt-mul}
use native.Mathlib.Omega.{arith}
use native.Mathlib.Decide.{ℕ_discrete}
use mathlib.Core.Bool.{true, false, ◌&&◌}
use mathlib.Core.List.{List, [], ◌∷◌}
use lib.ListN.{length, take}
use lib.Seq.{take_all}
use borrow.Author.Tests.{eqb-false}
use Rattle.lists.proofs.Counts.{count_less}
use Rattle.lists.proofs.Joins.{updated_other, updated_same}
use Rattle.lists.proofs.Tests.{and_left, or_neither, so}
use Rattle.rules.specs.declared.Params.{Params}
use Rattle.rules.specs.Parameters.{allowed}
use Rattle.rules.specs.Numbers.{cluster_of, sector_of}
use Rattle.rules.specs.Tables.{Board}
use Rattle.rules.specs.Orderly.{orderly}
use Rattle.rules.specs.Requests.{Request, request_cluster, start, write}
use Rattle.rules.specs.Replies.{OrderlyBoard, lengths_fit}
use Rattle.rules.specs.Start.{left_over, start_ops, started}
use Rattle.rules.specs.Traces.{Op, erases_in, replay_chip, replay_wear, worn}
use Rattle.rules.specs.Calls.{Outcome, answer_of, outcome_of}
use Rattle.rules.specs.Cuts.{cut_board, is_cut, limited}
use Rattle.rules.proofs.Admitted.{Asked}
use Rattle.rules.proofs.Erases.{erases_counted, erases_long, where_below}
use Rattle.rules.proofs.Outcomes.{start_accepted}
use Rattle.rules.proofs.Sizes.{sizes}
use Rattle.starts.specs.Recovers.{Recovers}
use Rattle.starts.specs.Stands.{Stands}
use Rattle.starts.proofs.Again.{again_same}
use Rattle.starts.proofs.Recovers.{old_recovers, start_cut}
use Rattle.starts.proofs.Steady.{ReadsOld}
use Rattle.claims.specs.Runs.{Known, given, learns, leaves, sector_at}
use Rattle.claims.specs.Conditions.{Recovered, among, old}
use Rattle.claims.proofs.Budgets.{cut_is}
use Rattle.claims.proofs.Condition1.{in_order}
use Rattle.claims.proofs.CutTraces.{cut_leaves, step_long}
use Rattle.claims.proofs.Memory.{Agrees, given_else}
use Rattle.claims.proofs.Standing.{Left}
use Rattle.starts.proofs.Accepted.{admitted_start}
use Rattle.claims.proofs.Steps.{accepted_ops, done_ops, ops_by}

-- the chip shows a board that reads as the host knows, or as it would know if the write cut short had been accepted
pub data Lost (p : Params) (k : Known) (short : List Request) (chip : List ℕ) : Type 0 where
  as_old : (b : Board) → ReadsOld p b chip → Agrees p b k.memory → Left p b k → Lost p k short chip
  as_new : (b : Board) (q : Request) → short ≡ q ∷ [] → Asked p q → ReadsOld p b chip
      → Agrees p b (learns p b (write q) k).memory → Left p b (learns p b (write q) k) → Lost p k short chip

pub stands_orderly : (p : Params) (b : Board) → Stands p b → OrderlyBoard p b
stands_orderly p b st = record { fine = st.fine; lengths = st.lengths; tidy = st.order }

-- so a start on it gives that board back
back : (p : Params) → allowed p ≡ true → (b₀ : Board) → lengths_fit p b₀ ≡ true → (k : Known) (short : List Request) → Lost p k short b₀.chip → (b : Board) × Recovers p b₀ b
back p fine b₀ lengths k short (as_old b shows reads left) = (b, old_recovers p fine b₀ b lengths shows)
back p fine b₀ lengths k short (as_new b q is ask shows reads left) = (b, old_recovers p fine b₀ b lengths shows)

-- what a start leaves is made of the chip and the wear alone
same_started : (p : Params) (b b' : Board) → b.chip ≡ b'.chip → b.wear ≡ b'.wear → started p b ≡ started p b'
unfolding started
same_started p b b' chip wear = rw (chip, wear)

-- its operations are an erase for each block left over, and a mark at most for each
start_long : (p : Params) (chip wear : List ℕ) → length (start_ops p chip wear) ≤ erases_in (start_ops p chip wear) + erases_in (start_ops p chip wear)
unfolding start_ops
start_long p chip wear =
    rw (where_below p wear (left_over p chip), erases_long p wear (left_over p chip) p.N, (erases_counted p wear (left_over p chip) p.N).1)
    (omega (arith, count_less p.N (λ n. left_over p chip n && worn p wear n) (left_over p chip) (λ n h e. and_left (left_over p chip n) _ e)))

-- ---- a start on board b₀, whose chip shows b

module _ (p : Params) (fine : allowed p ≡ true) (b₀ : Board) (lengths : lengths_fit p b₀ ≡ true) where
  -- a released cluster is the latest frame left; any other reads as on b
  pub found : (b : Board) (k : Known) → ReadsOld p b b₀.chip → Agrees p b k.memory → Left p b k → (a : ℕ) → a < p.C * p.alpha → sector_at p (started p b₀) a ≡ old p b₀ k a
  unfolding old
  found b k shows reads left a low = go (so (k.released (cluster_of p a)))
    where
      recovers : Recovers p b₀ b
      recovers = old_recovers p fine b₀ b lengths shows

      cluster : cluster_of p a < p.C
      cluster = (div-lt_iff_lt-mul (sizes p fine).sectors).1 low

      go : (k.released (cluster_of p a) ≡ true) ⊎ (k.released (cluster_of p a) ≡ false) → sector_at p (started p b₀) a ≡ old p b₀ k a
      go (inl r) = rw r (unfold sector_at in recovers.returns (cluster_of p a) cluster (sector_of p a))
      go (inr r) = rw r (same ∙ reads a low)
        where
          same : sector_at p (started p b₀) a ≡ sector_at p b a
          same = unfold sector_at in recovers.reads (cluster_of p a) cluster (left (cluster_of p a) cluster r) (sector_of p a)

  -- what a write that was accepted makes of it: its cluster as given, every other as before
  old_else : (b : Board) (k : Known) (q : Request) → Asked p q → (a : ℕ) → (cluster_of p a ≡ request_cluster p q → ⊥) → old p b₀ (learns p b (write q) k) a ≡ old p b₀ k a
  unfolding old learns
  old_else b k q ask a ne = rw (updated_other k.released (request_cluster p q) false (cluster_of p a) ne, given_else p q k.memory (sizes p fine) ask a ne)

  old_here : (b : Board) (k : Known) (q : Request) (a : ℕ) → cluster_of p a ≡ request_cluster p q → old p b₀ (learns p b (write q) k) a ≡ given p q k.memory a
  unfolding old learns
  old_here b k q a is = rw (is, updated_same k.released (request_cluster p q) false)

  pub lost_start : (k : Known) (short : List Request) → Lost p k short b₀.chip → Stands p (started p b₀) × Left p (started p b₀) (learns p (started p b₀) start k)
  unfolding learns
  lost_start k short l = let w = (back p fine b₀ lengths k short l).1 in (w.stands, λ c h x. w.clear c h)

  -- ---- a start that is cut, which has an erase and its mark at most

  pub lost_cut : (k : Known) (short : List Request) → Lost p k short b₀.chip → (n : ℕ) → Lost p k short (replay_chip p b₀.chip (take n (start_ops p b₀.chip b₀.wear)))
  lost_cut k short (as_old b shows reads left) n = as_old b (start_cut p fine b₀ b lengths shows n) reads left
  lost_cut k short (as_new b q is ask shows reads left) n = as_new b q is ask (start_cut p fine b₀ b lengths shows n) reads left

  -- the next one has the same chip and wear before it, or those that this one would have left
  cut_same : (k : Known) (short : List Request) → Lost p k short b₀.chip → (n : ℕ) → ((n ≡ 1) × (length (start_ops p b₀.chip b₀.wear) ≡ 2) → ⊥)
      → started p (cut_board p b₀ (take n (start_ops p b₀.chip b₀.wear))) ≡ started p b₀
  unfolding cut_board replay_chip replay_wear
  cut_same k short l zero ne = same_started p (cut_board p b₀ []) b₀ refl refl
  cut_same k short l (suc n) ne =
      rw (take_all (suc n) (start_ops p b₀.chip b₀.wear) (few (ℕ_discrete n 0)))
      (all_made ∙ again_same p b₀ (back p fine b₀ lengths k short l).1.admitted)
    where
      most : length (start_ops p b₀.chip b₀.wear) ≤ 2
      most = omega (arith, start_long p b₀.chip b₀.wear, (back p fine b₀ lengths k short l).1.once)

      few : Dec (n ≡ 0) → length (start_ops p b₀.chip b₀.wear) ≤ suc n
      few (no d) = omega (arith, most)
      few (yes d) = pick (ℕ_discrete (length (start_ops p b₀.chip b₀.wear)) 2)
        where
          pick : Dec (length (start_ops p b₀.chip b₀.wear) ≡ 2) → length (start_ops p b₀.chip b₀.wear) ≤ suc n
          pick (yes e) = absurd (ne (ap suc d, e))
          pick (no e) = omega (arith, most, e)

      all_made : started p (cut_board p b₀ (start_ops p b₀.chip b₀.wear)) ≡ started p (started p b₀)
      all_made = same_started p (cut_board p b₀ (start_ops p b₀.chip b₀.wear)) (started p b₀) (unfold started in refl) (unfold started in refl)

  cut_again : (k : Known) (short : List Request) → Lost p k short b₀.chip → (n : ℕ) → is_cut p b₀ (limited n start) ≡ true → ((n ≡ 1) × (length (start_ops p b₀.chip b₀.wear) ≡ 2) → ⊥)
      → (outcome_of p (leaves p b₀ (limited n start)) start).board ≡ started p b₀
  cut_again k short l n e ne = again_board ∙ rw left (cut_same k short l n ne)
    where
      left : leaves p b₀ (limited n start) ≡ cut_board p b₀ (take n (start_ops p b₀.chip b₀.wear))
      left = cut_leaves p b₀ n start e ∙ ap (λ (os : List Op). cut_board p b₀ (take n os)) (unfold ops_by done_ops in accepted_ops p b₀ start tt (cut_is p b₀ n start e).1)

      lost_there : Lost p k short (leaves p b₀ (limited n start)).chip
      lost_there = rw left (unfold cut_board in lost_cut k short l n)

      again_board : (outcome_of p (leaves p b₀ (limited n start)) start).board ≡ started p (leaves p b₀ (limited n start))
      again_board =
          ap (λ (o : Outcome). o.board)
          (start_accepted p (leaves p b₀ (limited n start))
          (admitted_start p (leaves p b₀ (limited n start)) (back p fine (leaves p b₀ (limited n start)) (step_long p b₀ (limited n start) lengths) k short lost_there).1.admitted))

  kept : (k : Known) (short : List Request) → Lost p k short b₀.chip → (c : ℕ) → among p short c ≡ false
      → (a : ℕ) → a < p.C * p.alpha → cluster_of p a ≡ c → sector_at p (started p b₀) a ≡ old p b₀ k a
  kept k short (as_old b shows reads left) c out a low is = found b k shows reads left a low
  kept k short (as_new b q e ask shows reads left) c out a low is = found b (learns p b (write q) k) shows reads left a low ∙ old_else b k q ask a (λ i. apart (sym i ∙ is))
    where
      none : among p (q ∷ []) c ≡ false
      none = rw (← e) out

      apart : request_cluster p q ≡ c → ⊥
      apart = unfold among in eqb-false _ _ (or_neither _ none).0

  whole : (k : Known) (short : List Request) → Lost p k short b₀.chip → (q : Request) → short ≡ q ∷ []
      → ((a : ℕ) → a < p.C * p.alpha → cluster_of p a ≡ request_cluster p q → sector_at p (started p b₀) a ≡ old p b₀ k a)
      ⊎ ((a : ℕ) → a < p.C * p.alpha → cluster_of p a ≡ request_cluster p q → sector_at p (started p b₀) a ≡ given p q k.memory a)
  whole k short (as_old b shows reads left) q e = inl (λ a low is. found b k shows reads left a low)
  whole k short (as_new b q' e' ask shows reads left) q e =
      let same : q' ≡ q = cc in
      inr (λ a low is. found b (learns p b (write q') k) shows reads left a low ∙ rw same (old_here b k q a is))

  pub recovered : (k : Known) (short : List Request) → orderly p b₀ ≡ false → Lost p k short b₀.chip → Recovered p b₀ k short (outcome_of p b₀ start)
  unfolding answer_of
  recovered k short off l =
      let w = (back p fine b₀ lengths k short l).1 in
      rw (start_accepted p b₀ (admitted_start p b₀ w.admitted))
      (record {
        gone = off;
        accepted = refl;
        once = w.once;
        order = in_order p (started p b₀) (stands_orderly p (started p b₀) w.stands);
        kept = kept k short l;
        whole = whole k short l;
        again = cut_again k short l;
      })
