-- The check with a bound on the stamps of each region says that the nine rules hold and that no stamp is above its bound: a block whose stamps are not right counts
-- as one without a programmed frame, which no rule allows.
-- Assumes nothing.
use mathlib.Core.Path.{◌≡◌, refl, sym, ◌∙◌}
use mathlib.Core.Bool.{Bool, ◌&&◌, and_assoc, and-true, cond, false, true}
use mathlib.Core.List.{List, []}
use Prim.Native.Nat.{ℕ, ◌<◌, ◌^◌}
use lib.Dec.{eqb}
use lib.ListN.{length}
use borrow.Author.Tests.{lt-ltb}
use Rattle.lists.specs.Below.{all_below, all_true}
use Rattle.lists.proofs.Tests.{all_at, all_below_intro, and_intro, and_left, and_right}
use Rattle.rules.specs.declared.Params.{Params}
use Rattle.rules.specs.Orderly.{free_rule, orderly, region_stamps, rules_of, stamp_rule, stamps_to}
use Rattle.rules.specs.Pages.{block}
use Rattle.rules.specs.Regions.{body_at, view, view_of}
use Rattle.rules.specs.Tables.{Board, board_of, bt_at, fst_at, marks_length, none, word_at}
use Rattle.rules.proofs.Admitted.{eight_region}
use Rattle.rules.proofs.RegionFacts.{neat}
use Rattle.rules.proofs.Sizes.{sizes}
use Rattle.rules.proofs.Stamps.{bare_frame, bounded_out, neat_bounded}
use Rattle.rules.proofs.TableFacts.{eight_rules}
use Rattle.check_rules.specs.Check.{Lengths, tables_ok, vblock_frames, vblock_frames_to, vblock_stamps}
use Rattle.check_rules.proofs.Agree.{same_truth}
use Rattle.check_board.specs.Order.{block_held, block_held_to, bound_of, counts_ok, entry_ok, frames_ok, order_ok, order_ok_to, region_held, region_held_to, nine_rules}
use Rattle.check_board.proofs.Counted.{order_agrees, nine_is}
use Rattle.check_board.proofs.Open.{framed}

-- ---- one block

module _ (p : Params) (chip ct bt bst marks : List ℕ) (t r sg v : ℕ) where
  held_in : block_held_to p chip ct bt bst marks t r sg v ≡ true → (block_held p chip ct bt bst marks r sg v ≡ true) × (vblock_stamps p chip bt t r v ≡ true)
  unfolding block_held_to block_held vblock_frames_to
  held_in h =
      let w = framed p sg v (vblock_frames p chip bt bst r v) (vblock_stamps p chip bt t r v) (and_left (frames_ok p sg v (vblock_frames_to p chip bt bst t r v)) _ h) in
      (and_intro w.1 (and_right (frames_ok p sg v (vblock_frames_to p chip bt bst t r v)) h), w.0)

  held_out : block_held p chip ct bt bst marks r sg v ≡ true → vblock_stamps p chip bt t r v ≡ true → block_held_to p chip ct bt bst marks t r sg v ≡ true
  unfolding block_held_to block_held vblock_frames_to
  held_out h s = rw s h

-- of a virtual block without a block nothing is asked
stamps_none : (p : Params) (t : ℕ) → stamps_to p t [] ≡ true
unfolding stamps_to
stamps_none p t = all_below_intro _ _ (λ f l. rw (bare_frame p f))

-- ---- the board

module _ (p : Params) (chip ct bt fst bst marks : List ℕ) (l : Lengths p chip ct bt fst bst) (long : length marks ≡ marks_length p)
    (small : (k : ℕ) → k < marks_length p → word_at marks k < 2 ^ 64) (wear stamps : List ℕ) where
  abbrev board : Board
  board = board_of chip ct bt fst bst wear marks stamps

  stamps_same : (r v t : ℕ) → v < p.gamma → vblock_stamps p chip bt t r v ≡ stamps_to p t ((view p board r).body v)
  unfolding vblock_stamps view_of body_at
  stamps_same r v t h = rw (lt-ltb v p.gamma h) (go (eqb (bt_at p bt r v) none))
    where
      go : (e : Bool) → cond e true (stamps_to p t (block p chip (bt_at p bt r v))) ≡ stamps_to p t (cond e [] (block p chip (bt_at p bt r v)))
      go true = sym (stamps_none p t)
      go false = refl

  module _ (last : ℕ → ℕ) where
    abbrev bounded : Bool
    bounded = all_below p.mu (λ r. region_stamps p (last r) (view p board r))

    abbrev regions : Bool
    regions = all_below p.mu (λ r. region_held_to p chip ct bt fst bst marks (last r) r)

    abbrev unbounded : Bool
    unbounded = all_below p.mu (region_held p chip ct bt fst bst marks)

    passes : order_ok_to p chip ct bt fst bst marks last ≡ true → nine_rules p board && bounded ≡ true
    unfolding order_ok_to
    passes h = and_intro (sym (order_agrees p chip ct bt fst bst marks l long small wear stamps) ∙ all) (all_below_intro p.mu _ bound)
      where
        rest : regions && counts_ok ct marks ≡ true
        rest = and_right (free_rule p chip bst) (and_right (tables_ok p bt bst) h)

        region : (r : ℕ) → r < p.mu → entry_ok p bt r (fst_at fst r) && all_below p.gamma (block_held_to p chip ct bt bst marks (last r) r (fst_at fst r)) ≡ true
        region r hr = unfold region_held_to in all_at p.mu _ (and_left regions _ rest) r hr

        held : (r v : ℕ) → r < p.mu → v < p.gamma → (block_held p chip ct bt bst marks r (fst_at fst r) v ≡ true) × (vblock_stamps p chip bt (last r) r v ≡ true)
        held r v hr hv = held_in p chip ct bt bst marks (last r) r (fst_at fst r) v (all_at p.gamma _ (and_right (entry_ok p bt r (fst_at fst r)) (region r hr)) v hv)

        without : (r : ℕ) → r < p.mu → region_held p chip ct bt fst bst marks r ≡ true
        without r hr = unfold region_held in and_intro (and_left (entry_ok p bt r (fst_at fst r)) _ (region r hr)) (all_below_intro p.gamma _ (λ v hv. (held r v hr hv).0))

        all : order_ok p chip ct bt fst bst marks ≡ true
        all =
            unfold order_ok in
            and_intro (and_left (tables_ok p bt bst) _ h)
            (and_intro (and_left (free_rule p chip bst) _ (and_right (tables_ok p bt bst) h)) (and_intro (all_below_intro p.mu _ without) (and_right regions rest)))

        bound : (r : ℕ) → r < p.mu → region_stamps p (last r) (view p board r) ≡ true
        bound r hr = unfold region_stamps in all_below_intro p.gamma _ (λ v hv. sym (stamps_same r v (last r) hv) ∙ (held r v hr hv).1)

    fails_not : nine_rules p board && bounded ≡ true → order_ok_to p chip ct bt fst bst marks last ≡ true
    unfolding order_ok
    fails_not h =
        unfold order_ok_to in
        and_intro (and_left (tables_ok p bt bst) _ all)
        (and_intro (and_left (free_rule p chip bst) _ (and_right (tables_ok p bt bst) all)) (and_intro (all_below_intro p.mu _ region) (and_right unbounded rest)))
      where
        all : order_ok p chip ct bt fst bst marks ≡ true
        all = order_agrees p chip ct bt fst bst marks l long small wear stamps ∙ and_left (nine_rules p board) _ h

        rest : unbounded && counts_ok ct marks ≡ true
        rest = and_right (free_rule p chip bst) (and_right (tables_ok p bt bst) all)

        within : (r : ℕ) → r < p.mu → all_below p.gamma (λ v. stamps_to p (last r) ((view p board r).body v)) ≡ true
        within r hr = unfold region_stamps in all_at p.mu (λ r. region_stamps p (last r) (view p board r)) (and_right (nine_rules p board) h) r hr

        stamped : (r v : ℕ) → r < p.mu → v < p.gamma → vblock_stamps p chip bt (last r) r v ≡ true
        stamped r v hr hv = stamps_same r v (last r) hv ∙ all_at p.gamma _ (within r hr) v hv

        was : (r : ℕ) → r < p.mu → entry_ok p bt r (fst_at fst r) && all_below p.gamma (block_held p chip ct bt bst marks r (fst_at fst r)) ≡ true
        was r hr = unfold region_held in all_at p.mu (region_held p chip ct bt fst bst marks) (and_left unbounded _ rest) r hr

        blocks : (r : ℕ) → r < p.mu → all_below p.gamma (block_held_to p chip ct bt bst marks (last r) r (fst_at fst r)) ≡ true
        blocks r hr =
            all_below_intro p.gamma _
            (λ v hv. held_out p chip ct bt bst marks (last r) r (fst_at fst r) v (all_at p.gamma _ (and_right (entry_ok p bt r (fst_at fst r)) (was r hr)) v hv) (stamped r v hr hv))

        region : (r : ℕ) → r < p.mu → region_held_to p chip ct bt fst bst marks (last r) r ≡ true
        region r hr = unfold region_held_to in and_intro (and_left (entry_ok p bt r (fst_at fst r)) _ (was r hr)) (blocks r hr)

    to_agrees : order_ok_to p chip ct bt fst bst marks last ≡ nine_rules p board && bounded
    to_agrees = same_truth (order_ok_to p chip ct bt fst bst marks last) (nine_rules p board && bounded) passes fails_not

  -- with the last stamps as bounds it is the rules' test
  pub in_order_is : order_ok_to p chip ct bt fst bst marks (bound_of true stamps) ≡ orderly p board
  unfolding bound_of
  in_order_is = to_agrees (bound_of true stamps) ∙ whole
    where
      whole : nine_rules p board && all_below p.mu (λ r. region_stamps p (bound_of true stamps r) (view p board r)) ≡ orderly p board
      whole = unfold orderly nine_rules rules_of all_true stamp_rule bound_of in simp (and_assoc, and-true)

  -- and with none it is the first nine rules
  pub nine_rules_is : order_ok_to p chip ct bt fst bst marks (bound_of false stamps) ≡ nine_rules p board
  nine_rules_is = to_agrees (bound_of false stamps) ∙ same_truth _ (nine_rules p board) (λ h. and_left (nine_rules p board) _ h) (λ h. and_intro h (all_below_intro p.mu _ (any h)))
    where
      any : nine_rules p board ≡ true → (r : ℕ) → r < p.mu → region_stamps p (bound_of false stamps r) (view p board r) ≡ true
      any h r hr =
          unfold bound_of in
          bounded_out p (view p board r) 4294967295
          (neat_bounded p (sizes p l.fine) r (view p board r)
          (neat p r (view p board r) (eight_region p board (and_left (eight_rules p board) _ (sym (nine_is p board) ∙ h)) r hr)))
