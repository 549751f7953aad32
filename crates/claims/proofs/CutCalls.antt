-- What holds of the board by what the host knows, through every call that is cut, and so through any run. A queue that is cut is its finished writes, one after the other, and the write that is cut; a
-- write that is cut leaves a chip that shows the board before it or the board after it; a start that is cut leaves the same to find.
-- Assumes nothing.
use mathlib.Core.Path.{◌≡◌, refl, ap, ◌∙◌}
use mathlib.Core.Logic.{◌⊎◌, inl, inr}
use Prim.Native.Nat.{ℕ, ◌-◌, ◌≤◌}
use native.Mathlib.Omega.{arith}
use mathlib.Core.Bool.{Bool, true, false, cond}
use mathlib.Core.List.{List, [], ◌∷◌, ◌++◌, append-nil, map}
use lib.Dec.{ltb}
use lib.ListN.{length, take}
use lib.Seq.{take_all}
use borrow.Author.Tests.{le-ltb, ltb-false, ltb-true}
use Rattle.lists.proofs.Lists.{take_append}
use Rattle.lists.proofs.Tests.{never, so}
use Rattle.rules.specs.declared.Params.{Params}
use Rattle.rules.specs.declared.Reply.TheVariants.{Accepted}
use Rattle.rules.specs.declared.Item.{Item}
use Rattle.rules.specs.Parameters.{allowed}
use Rattle.rules.specs.Tables.{Board}
use Rattle.rules.specs.Orderly.{orderly}
use Rattle.rules.specs.Traces.{Op, replay_chip}
use Rattle.rules.specs.Requests.{Call, Queue, Request, format, item_requests, queue, read, release, start, write}
use Rattle.rules.specs.Replies.{is_accepted, lengths_fit, reply_of}
use Rattle.rules.specs.Start.{start_ops}
use Rattle.rules.specs.Write.{write_ops, written}
use Rattle.rules.specs.Calls.{Part, ops_of, outcome_of, work_of}
use Rattle.rules.specs.Cuts.{Step, call_of, cut_board, cut_part, finished, has_budget, is_cut, limited, plain}
use Rattle.rules.proofs.Admitted.{admitted, format_admitted, write_checks}
use Rattle.rules.proofs.Chip.{replay_append}
use Rattle.rules.proofs.Outcomes.{reply_cases, reply_is}
use Rattle.starts.proofs.Recovers.{start_cut, write_cut}
use Rattle.starts.proofs.Steady.{ReadsOld, untouched}
use Rattle.claims.specs.Runs.{Belief, Known, belief_after, belief_by, blank, board_after, doubts, doubts_in, hears, hears_all, is_format, known, learns, leaves, losing, lost, nothing, parts_by, resets, stands, uncut}
use Rattle.claims.specs.Requests.{disordered_part}
use Rattle.claims.proofs.Beliefs.{Believed, cut_writes, deaf_lost, deaf_nothing, finished_writes, formatted_known, hears_known, one_heard, plain_known_lem, queue_writes, undoubted, unheard}
use Rattle.claims.proofs.Budgets.{cut_is}
use Rattle.claims.proofs.CutTraces.{call_made, cut_disorder, cut_leaves, first_fit, step_long}
use Rattle.claims.proofs.Kept.{ops_chip}
use Rattle.claims.proofs.Known.{known_by}
use Rattle.claims.proofs.Memory.{Agrees, call_agrees, done_agrees}
use Rattle.claims.proofs.PlainRuns.{learns_all, plain_leaves, plain_parts, plain_writes, first_uncut, uncut_by, uncut_leaves}
use Rattle.claims.proofs.Queues.{on_disorder}
use Rattle.claims.proofs.Recovery.{Lost, as_new, as_old, lost_cut}
use Rattle.claims.proofs.Singles.{Single, queue_parts}
use Rattle.claims.proofs.Standing.{Standing, call_standing, done_standing}
use Rattle.claims.proofs.Steps.{accepted_leaves, accepted_ops, done_board, done_ops, its_part, ops_by, part_of, parts_step, refused_ops}

-- ---- what holds of the chip that a cut leaves

abbrev LostAs : Params → List ℕ → Belief → Type 0
LostAs p chip nothing = Unit {0}
LostAs p chip (stands k) = ⊥
LostAs p chip (lost k short) = Lost p k short chip

-- ---- writes that are cut, where the tables stand

module _ (p : Params) (b' b : Board) (k : Known) (h : Standing p b k) (reads : Agrees p b k.memory) (q : Request) where
  abbrev ops₁ : List Op
  ops₁ = ops_by p b (write q)

  -- a finished write teaches what it taught
  heard : cond (is_accepted (outcome_of p b (write q)).answer.reply) (hears p b' (write q) (stands k)) (stands k) ≡ stands (known_by p b (write q) k)
  unfolding hears known_by learns
  heard = rw (reply_is p b (write q)) (go (is_accepted (reply_of p b (write q))))
    where
      go : (t : Bool) → cond t (stands (learns p b' (write q) k)) (stands k) ≡ stands (cond t (learns p b' (write q) k) k)
      go true = refl
      go false = refl

  heard_first : (ys : List Part) → hears_all p b' (part_of p b (write q) ∷ ys) (stands k) ≡ hears_all p b' ys (stands (known_by p b (write q) k))
  unfolding hears_all part_of
  heard_first ys = ap (hears_all p b' ys) heard

  -- its first n operations, and that it is cut short
  cut_here : (n : ℕ) → n ≤ length ops₁ → LostAs p (replay_chip p b.chip (take n ops₁)) (doubts_in (part_of p b (write q) ∷ []) (stands k))
  unfolding doubts_in doubts losing part_of
  cut_here n few = rw (reply_is p b (write q)) (go (reply_cases (reply_of p b (write q))))
    where
      go : (reply_of p b (write q) ≡ Accepted) ⊎ (is_accepted (reply_of p b (write q)) ≡ false)
          → LostAs p (replay_chip p b.chip (take n ops₁)) (cond (is_accepted (reply_of p b (write q))) (lost k (q ∷ [])) (lost k []))
      go (inr e) = rw (e, refused_ops p b (write q) tt e, none) (unfold replay_chip in as_old b (untouched p b h.stands) reads h.left)
        where
          none : n ≡ 0
          none = omega (arith, few, ap length (refused_ops p b (write q) tt e))
      go (inl e) = rw (e, is) (unfold is_accepted in pick (write_cut p b h.stands q e n (rw (← is) few)))
        where
          is : ops₁ ≡ write_ops p b q
          is = accepted_ops p b (write q) tt e ∙ unfold done_ops in refl

          pick : ReadsOld p b (replay_chip p b.chip (take n (write_ops p b q))) ⊎ ReadsOld p (written p b q) (replay_chip p b.chip (take n (write_ops p b q)))
              → Lost p k (q ∷ []) (replay_chip p b.chip (take n (write_ops p b q)))
          pick (inl old) = as_old b old reads h.left
          pick (inr new) =
              as_new (written p b q) q refl (admitted p b q (write_checks p b q e)).asked new
              (unfold done_board in done_agrees p b k (write q) tt e reads) (unfold done_board in (done_standing p b k (write q) tt e h).left)

  -- it and the parts after it
  abbrev Then : List Part → ℕ → Type 0
  Then xs n = LostAs p (replay_chip p b.chip (take n (ops_of xs))) (doubts_in (cut_part n xs) (hears_all p b' (finished n xs) (stands k)))

  one_more : (rest : List Part) (n : ℕ)
      → LostAs p (replay_chip p (plain_leaves p b (write q)).chip (take (n - length ops₁) (ops_of rest)))
      (doubts_in (cut_part (n - length ops₁) rest) (hears_all p b' (finished (n - length ops₁) rest) (stands (known_by p b (write q) k))))
      → Then (part_of p b (write q) ∷ rest) n
  unfolding cut_part finished ops_of part_of
  one_more rest n later = go (ltb (length ops₁) n) refl
    where
      go : (t : Bool) → ltb (length ops₁) n ≡ t
          → LostAs p (replay_chip p b.chip (take n (ops₁ ++ ops_of rest)))
          (doubts_in (cond t (cut_part (n - length ops₁) rest) (part_of p b (write q) ∷ [])) (hears_all p b' (cond t (part_of p b (write q) ∷ finished (n - length ops₁) rest) []) (stands k)))
      go true e =
          rw (
            take_append n ops₁ (ops_of rest),
            take_all n ops₁ (omega (arith, ltb-true (length ops₁) n e)),
            replay_append p b.chip ops₁,
            ← ops_chip p b (write q) tt,
            heard_first (finished (n - length ops₁) rest),
          )
          later
      go false e =
          let d : n - length ops₁ ≡ 0 = omega (arith, ltb-false (length ops₁) n e) in
          rw (take_append n ops₁ (ops_of rest), d, append-nil (take n ops₁)) (unfold hears_all in cut_here n (ltb-false (length ops₁) n e))

writes_cut : (p : Params) (b' : Board) (qs : List Request) (b : Board) (k : Known) → Standing p b k → Agrees p b k.memory → (n : ℕ)
    → LostAs p (replay_chip p b.chip (take n (ops_of (plain_parts p b (map write qs)))))
    (doubts_in (cut_part n (plain_parts p b (map write qs))) (hears_all p b' (finished n (plain_parts p b (map write qs))) (stands k)))
writes_cut p b' [] b k h reads n =
    unfold plain_parts ops_of cut_part finished hears_all doubts_in losing replay_chip in rw (take_all {A = Op} n [] (omega arith)) (as_old b (untouched p b h.stands) reads h.left)
writes_cut p b' (q ∷ qs) b k h reads n =
    rw (parts_step p b (write q) (map write qs) tt)
    (one_more p b' b k h reads q (plain_parts p (plain_leaves p b (write q)) (map write qs)) n
    (writes_cut p b' qs (plain_leaves p b (write q)) (known_by p b (write q) k) (call_standing p b k (write q) tt h) (call_agrees p b k (write q) tt reads) (n - length (ops_by p b (write q)))))

-- ---- any call that is cut

write_parts : (p : Params) (b : Board) (q : Request) → plain_parts p b (map write (q ∷ [])) ≡ (work_of p b (write q)).parts
unfolding plain_parts
write_parts p b q = append-nil (work_of p b (write q)).parts

-- one that is no queue has one part, which is cut
one_cut : (p : Params) (b b' : Board) (c : Call) (x : Belief) (n : ℕ) → Single c → reply_of p b c ≡ Accepted → n ≤ length (ops_of (work_of p b c).parts)
    → doubts_in (cut_part n (work_of p b c).parts) (hears_all p b' (finished n (work_of p b c).parts) x) ≡ doubts c x
one_cut p b b' c x n s e few = rw (its_part p b c s) cut
  where
    short : ltb (length (part_of p b c).ops) n ≡ false
    short = unfold part_of ops_by in le-ltb _ _ few

    cut : doubts_in (cut_part n (part_of p b c ∷ [])) (hears_all p b' (finished n (part_of p b c ∷ [])) x) ≡ doubts c x
    cut = unfold cut_part finished in rw short (unfold hears_all doubts_in part_of in rw (reply_is p b c, e) (unfold is_accepted in refl))

-- a queue on tables that are not orderly makes no operation
still_ops : (p : Params) (l : Queue) (items : List Item) → ops_of (map (disordered_part p l) items) ≡ []
unfolding ops_of disordered_part
still_ops p l [] = refl
still_ops p l (it ∷ items) = still_ops p l items

module _ (p : Params) (fine : allowed p ≡ true) (b b' : Board) (lengths : lengths_fit p b ≡ true) (n : ℕ) where
  -- the chip and the belief that a cut leaves
  abbrev Cut : Call → Belief → Type 0
  Cut c x =
      LostAs p (replay_chip p b.chip (take n (ops_of (work_of p b c).parts)))
      (doubts_in (cut_part n (work_of p b c).parts) (hears_all p b' (finished n (work_of p b c).parts) x))

  cut_format : (x : Belief) → reply_of p b format ≡ Accepted → n ≤ length (ops_of (work_of p b format).parts) → Cut format x
  cut_format x e few = rw (one_cut p b b' format x n tt e few) (unfold doubts in tt)

  start_ops_lem : reply_of p b start ≡ Accepted → ops_of (work_of p b start).parts ≡ start_ops p b.chip b.wear
  unfolding ops_by done_ops
  start_ops_lem e = accepted_ops p b start tt e

  -- cut or not, its chip shows the same board
  start_doubted : (x : Belief) → Believed p b x → LostAs p (replay_chip p b.chip (take n (start_ops p b.chip b.wear))) (doubts start x)
  unfolding doubts losing
  start_doubted nothing h = tt
  start_doubted (stands k) h = as_old b (start_cut p fine b b lengths (untouched p b h.0.stands) n) h.1 h.0.left
  start_doubted (lost k short) h = lost_cut p fine b lengths k short h.1 n

  cut_start : (x : Belief) → reply_of p b start ≡ Accepted → n ≤ length (ops_of (work_of p b start).parts) → Believed p b x → Cut start x
  cut_start x e few h = rw (one_cut p b b' start x n tt e few, start_ops_lem e) (start_doubted x h)

  cut_write : (q : Request) (x : Belief) → reply_of p b (write q) ≡ Accepted → n ≤ length (ops_of (work_of p b (write q)).parts) → Believed p b x → Cut (write q) x
  cut_write q nothing e few h = rw (one_cut p b b' (write q) nothing n tt e few) (unfold doubts losing in tt)
  cut_write q (stands k) e few h =
      rw (← write_parts p b q) (writes_cut p b' (q ∷ []) b k h.0 h.1 n)
  cut_write q (lost k short) e few h = absurd (never (write_checks p b q e).tidy h.0)

  cut_queue : (l : Queue) (x : Belief) → reply_of p b (queue l) ≡ Accepted → Believed p b x → Cut (queue l) x
  cut_queue l (stands k) e h = rw (queue_parts p b l e) (unfold plain_writes in writes_cut p b' (item_requests p l.bytes l.items) b k h.0 h.1 n)
  cut_queue l nothing e h =
      let xs = (work_of p b (queue l)).parts in
      let deaf = deaf_nothing p b' in
      rw (unheard p b' nothing deaf (finished n xs) (finished_writes n xs (queue_writes p b l)), undoubted p b' nothing deaf (cut_part n xs) (cut_writes n xs (queue_writes p b l))) tt
  cut_queue l (lost k short) e h =
      let xs = (work_of p b (queue l)).parts in
      let deaf = deaf_lost p b' k short in
      rw (
        unheard p b' (lost k short) deaf (finished n xs) (finished_writes n xs (queue_writes p b l)),
        undoubted p b' (lost k short) deaf (cut_part n xs) (cut_writes n xs (queue_writes p b l)),
        (on_disorder p b l e h.0).each,
        still_ops p l l.items,
        take_all {A = Op} n [] (omega arith),
      )
      (unfold replay_chip in h.1)

  cut_known : (c : Call) (x : Belief) → has_budget c ≡ true → reply_of p b c ≡ Accepted → n ≤ length (ops_of (work_of p b c).parts) → Believed p b x → Cut c x
  unfolding has_budget
  cut_known format x t e few h = cut_format x e few
  cut_known (read q) x t e few h = absurd (never t refl)
  cut_known (write q) x t e few h = cut_write q x e few h
  cut_known (release c) x t e few h = absurd (never t refl)
  cut_known (queue l) x t e few h = cut_queue l x e h
  cut_known start x t e few h = cut_start x e few h

-- ---- any step, and any run

cut_board_lem : (p : Params) (b : Board) (ops : List Op) → orderly p (cut_board p b ops) ≡ false → (x : Belief) → LostAs p (replay_chip p b.chip ops) x → Believed p (cut_board p b ops) x
cut_board_lem p b ops off nothing l = tt
cut_board_lem p b ops off (stands k) l = absurd l
cut_board_lem p b ops off (lost k short) l = (off, unfold cut_board in l)

cut_by : (p : Params) (b : Board) (k : ℕ) (c : Call) (x : Belief) → is_cut p b (limited k c) ≡ true
    → belief_by p b (limited k c) x ≡ doubts_in (cut_part k (work_of p b c).parts) (hears_all p (leaves p b (limited k c)) (finished k (work_of p b c).parts) x)
unfolding belief_by parts_by
cut_by p b k c x e = rw e

uncut_heard : (p : Params) (b : Board) (s : Step) (x : Belief) → is_cut p b s ≡ false → belief_by p b s x ≡ hears_all p (plain_leaves p b (call_of s)) (work_of p b (call_of s)).parts x
uncut_heard p b (plain c) x e = unfold belief_by in rw (uncut_leaves p b (plain c) e, uncut_by p b (plain c) e)
uncut_heard p b (limited k c) x e = unfold belief_by in rw (e, uncut_leaves p b (limited k c) e, uncut_by p b (limited k c) e)

module _ (p : Params) (fine : allowed p ≡ true) where
  whole_known : (b : Board) (s : Step) (x : Belief) → is_cut p b s ≡ false → lengths_fit p b ≡ true → Believed p b x → Believed p (leaves p b s) (belief_by p b s x)
  whole_known b s x e long h = rw (uncut_leaves p b s e, uncut_heard p b s x e) (plain_known_lem p fine b long (call_of s) x h)

  cut_step : (b : Board) (k : ℕ) (c : Call) (x : Belief) → is_cut p b (limited k c) ≡ true → lengths_fit p b ≡ true → Believed p b x
      → Believed p (leaves p b (limited k c)) (belief_by p b (limited k c) x)
  cut_step b k c x e long h =
      let w = cut_is p b k c e in
      let ops = take k (ops_of (work_of p b c).parts) in
      let off = cut_disorder p b long ops (first_fit p k (ops_of (work_of p b c).parts) (call_made p b c).fits) fine in
      let left = cut_board p b ops in
      rw (cut_by p b k c x e, cut_leaves p b k c e)
      (cut_board_lem p b ops off (doubts_in (cut_part k (work_of p b c).parts) (hears_all p left (finished k (work_of p b c).parts) x))
      (cut_known p fine b left long k c x w.0 w.1 w.2 h))

  step_known : (b : Board) (s : Step) (x : Belief) → lengths_fit p b ≡ true → Believed p b x → Believed p (leaves p b s) (belief_by p b s x)
  step_known b (plain c) x long h = whole_known b (plain c) x (unfold is_cut in refl) long h
  step_known b (limited k c) x long h = go (so (is_cut p b (limited k c)))
    where
      go : (is_cut p b (limited k c) ≡ true) ⊎ (is_cut p b (limited k c) ≡ false) → Believed p (leaves p b (limited k c)) (belief_by p b (limited k c) x)
      go (inl e) = cut_step b k c x e long h
      go (inr e) = whole_known b (limited k c) x e long h

  -- without a cut the tables stand
  uncut_stands : (b : Board) (ss : List Step) (k : Known) → uncut p b ss ≡ true → (j : Known) × (belief_after p b ss (stands k) ≡ stands j)
  unfolding belief_after
  uncut_stands b [] k u = (k, refl)
  uncut_stands b (s ∷ ss) k u =
      let w = first_uncut p b s ss u in
      let c = call_of s in
      let now : belief_by p b s (stands k) ≡ stands (learns_all p (plain_leaves p b c) (work_of p b c).parts k) =
      uncut_heard p b s (stands k) w.0 ∙ hears_known p (plain_leaves p b c) (work_of p b c).parts k in
      rw now (uncut_stands (leaves p b s) ss (learns_all p (plain_leaves p b c) (work_of p b c).parts k) w.1)

  pub run_known : (b : Board) (ss : List Step) (x : Belief) → lengths_fit p b ≡ true → Believed p b x → Believed p (board_after p b ss) (belief_after p b ss x)
  unfolding board_after belief_after
  run_known b [] x long h = h
  run_known b (s ∷ ss) x long h = run_known (leaves p b s) ss (belief_by p b s x) (step_long p b s long) (step_known b s x long h)

-- ---- from an accepted format on, whatever the host believed before it

module _ (p : Params) (b : Board) (e : reply_of p b format ≡ Accepted) where
  -- it knows that the board is blank
  abbrev fresh : Known
  fresh = known (blank p) (λ c. false)

  first_heard : (x : Belief) → belief_by p b (plain format) x ≡ stands fresh
  unfolding call_of
  first_heard x =
      uncut_heard p b (plain format) x (unfold is_cut in refl)
      ∙ one_heard p b (plain_leaves p b format) format x tt
      ∙ rw e (unfold is_accepted in all x)
    where
      all : (y : Belief) → hears p (plain_leaves p b format) format y ≡ stands fresh
      all nothing = unfold hears is_format in refl
      all (stands k) = unfold hears learns in refl
      all (lost k short) = unfold hears resets learns in refl

  first_known : Believed p (leaves p b (plain format)) (stands fresh)
  unfolding call_of
  first_known =
      rw (uncut_leaves p b (plain format) (unfold is_cut in refl), accepted_leaves p b format tt e)
      (unfold learns in formatted_known p b fresh e)

  pub format_known : (ss : List Step) (x : Belief) → Believed p (board_after p b (plain format ∷ ss)) (belief_after p b (plain format ∷ ss) x)
  unfolding board_after belief_after
  format_known ss x =
      let a = format_admitted p b e in
      rw (first_heard x) (run_known p a.fine (leaves p b (plain format)) ss (stands fresh) (step_long p b (plain format) a.lengths) first_known)

  pub format_stands : (ss : List Step) → uncut p b (plain format ∷ ss) ≡ true → (x : Belief) → (k : Known) × (belief_after p b (plain format ∷ ss) x ≡ stands k)
  unfolding belief_after
  format_stands ss u x = rw (first_heard x) (uncut_stands p (format_admitted p b e).fine (leaves p b (plain format)) ss fresh (first_uncut p b (plain format) ss u).1)
