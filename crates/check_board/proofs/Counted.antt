-- The check says exactly that the first nine rules hold, that of the marks included. Where there are as many marks as CT entries, each entry is met
-- by the cluster of a marked frame, so its segment holds it; and a valid frame has the cluster of one of these, so it is that one.
-- Assumes nothing.
use mathlib.Core.Path.{◌≡◌, ap, ap₂, refl, sym, ◌∙◌}
use mathlib.Core.Logic.{◌⊎◌, inl, inr}
use mathlib.Core.Bool.{◌&&◌, Bool, and_assoc, and-true, cond, false, not, true}
use mathlib.Core.List.{List}
use Prim.Native.Nat.{ℕ, ◌*◌, ◌^◌, ◌<◌, ◌≤◌}
use native.Mathlib.Decide.{ℕ_discrete}
use native.Mathlib.Nat.{mod-lt}
use native.Mathlib.Omega.{arith}
use lib.Dec.{eqb}
use lib.ListN.{length}
use borrow.Author.Tests.{eq-eqb, eqb-true, ne_eqb, not-true}
use Rattle.lists.specs.Below.{all_below, all_true, count_below}
use Rattle.lists.proofs.Counts.{each_met}
use Rattle.lists.proofs.Ranks.{fewer}
use Rattle.lists.proofs.Tests.{all_at, all_below_intro, and_intro, and_left, and_right, never, so}
use Rattle.rules.specs.declared.Params.{Params}
use Rattle.rules.specs.Numbers.{region_of}
use Rattle.rules.specs.Orderly.{block_rule, bst_rule, bt_rule, free_rule, marks_rule, rules_of}
use Rattle.rules.specs.Pages.{block}
use Rattle.rules.specs.Parameters.{frames}
use Rattle.rules.specs.Regions.{view, view_of}
use Rattle.rules.specs.Tables.{Board, board_of, bt_at, ct_at, fst_at, none, marks_length, word_at}
use Rattle.rules.proofs.Admitted.{eight_region}
use Rattle.rules.proofs.TableFacts.{eight_rules}
use Rattle.rules.proofs.RegionFacts.{Entry, Neat, neat}
use Rattle.rules.proofs.Sizes.{Sizes, sizes}
use Rattle.check_rules.specs.Check.{Lengths, Lent, chip_ok, cluster_ok, clusters_ok, fst_ok, region_ok, tables_ok, vblock_frames, vblock_ok}
use Rattle.check_rules.proofs.Agree.{check_agrees, same_truth}
use Rattle.check_rules.proofs.Same.{Names}
use Rattle.check_blocks.proofs.Blocks.{names_in}
use Rattle.marks.specs.Marks.{mark_in}
use Rattle.rules.specs.Marks.{marked, marks_of}
use Rattle.rules.proofs.MarkFacts.{right, rule_of}
use Rattle.marks.proofs.Tables.{mark_at, marks_are_lem}
use Rattle.check_marks.specs.Shown.{marks_valid}
use Rattle.check_board.specs.Order.{bit_at, block_held, counts_ok, entry_ok, frames_ok, named, order_ok, region_held, nine_rules}
use Rattle.check_board.proofs.Blocks.{rule_of_block}
use Rattle.check_board.proofs.Places.{bit_frame, bit_here, bit_in_lem, bit_is, bit_mark, bit_region, bit_vblock, bit_of, frame_at, marks_in_lem, marks_out, region_in, region_at, vblock_in_lem, vblock_at}
use Rattle.check_board.proofs.Open.{frames_block, frames_of_rule, rule_of_frames}
use Rattle.check_board.proofs.Held.{Held, cluster_in, entry_held, frame_named, held_named, held_ok, held_one, marked_held, vblock_named}

-- the nine rules of document 01, and that of the marks
pub nine_is : (p : Params) (b : Board) → nine_rules p b ≡ eight_rules p b && marks_rule p b
unfolding nine_rules eight_rules rules_of all_true
nine_is p b = simp (and_assoc, and-true)

-- BT's entries, where the tables' rules hold
pub lent_in : (p : Params) (chip ct bt fst bst : List ℕ) → Lengths p chip ct bt fst bst → tables_ok p bt bst ≡ true → Lent p chip bt
unfolding tables_ok
lent_in p chip ct bt fst bst l k =
    record { fine = l.fine; chip_length = l.chip_length; bt_length = l.bt_length; names = and_left (bt_rule p bt) _ (and_right (bst_rule p bst) k) }

module _ (p : Params) (b : Board) (l : Lengths p b.chip b.ct b.bt b.fst b.bst) (long : length b.marks ≡ marks_length p)
    (k : tables_ok p b.bt b.bst ≡ true) (blocks : (r v : ℕ) → r < p.mu → v < p.gamma → vblock_ok p b.chip b.bt b.bst r v ≡ true) where
  z : Sizes p
  z = sizes p l.fine

  ns : Names p b
  ns = names_in p b (lent_in p b.chip b.ct b.bt b.fst b.bst l k)

  rule : (r v : ℕ) → r < p.mu → v < p.gamma → (bt_at p b.bt r v ≡ none → ⊥) → block_rule p r v (block p b.chip (bt_at p b.bt r v)) ≡ true
  rule r v hr hv = rule_of_block p b.chip b.bt b.bst r v (blocks r v hr hv)

  -- how many bits the table has; bit j as the validity rule has it, and the cluster of its frame
  abbrev bits : ℕ
  bits = 64 * marks_length p

  abbrev marked_at : ℕ → Bool
  marked_at j = marked p (view p b (region_at p j)) (vblock_at p j) (frame_at p j)

  abbrev cluster_at : ℕ → ℕ
  cluster_at j = cluster_in p b (region_at p j) (vblock_at p j) (frame_at p j)

  held_at : (j : ℕ) → j < bits → marked_at j ≡ true → Held p b (region_at p j) (vblock_at p j) (frame_at p j)
  held_at j h = marked_held p b ns rule (region_at p j) (vblock_at p j) (frame_at p j) (region_in p z.vblocks j h) (vblock_in_lem p z.vblocks j)

  into : (j : ℕ) → j < bits → marked_at j ≡ true → (cluster_at j < p.C) × (named b.ct (cluster_at j) ≡ true)
  into j h m = let w = held_at j h m in (w.cluster, held_named p b ns rule (region_at p j) (vblock_at p j) (frame_at p j) (vblock_in_lem p z.vblocks j) w)

  apart : (i j : ℕ) → i < bits → j < bits → marked_at i ≡ true → marked_at j ≡ true → cluster_at i ≡ cluster_at j → i ≡ j
  apart i j hi hj mi mj e =
      let w = held_one p b ns rule (region_at p i) (vblock_at p i) (frame_at p i) (region_at p j) (vblock_at p j) (frame_at p j) (held_at i hi mi) (held_at j hj mj) e in
      sym (bit_here p z.vblocks i) ∙ rw (w.0, w.1, w.2) (bit_here p z.vblocks j)

  -- the same of the bit of a frame
  marked_of : (r v f : ℕ) → v < p.gamma → f < 256 → marked_at (bit_of p r v f) ≡ marked p (view p b r) v f
  marked_of r v f hv hf = rw (bit_region p r v f hv hf, bit_vblock p r v f hv hf, bit_frame p r v f hv hf)

  cluster_of_lem : (r v f : ℕ) → v < p.gamma → f < 256 → cluster_at (bit_of p r v f) ≡ cluster_in p b r v f
  cluster_of_lem r v f hv hf = rw (bit_region p r v f hv hf, bit_vblock p r v f hv hf, bit_frame p r v f hv hf)

  -- ---- each mark is that of a valid frame, and there are as many as entries
  module _ (sub : (r v f : ℕ) → r < p.mu → v < p.gamma → f < 256 → mark_in p b.marks r v f ≡ true → marked p (view p b r) v f ≡ true)
      (few : count_below p.C (named b.ct) ≤ count_below bits (bit_at b.marks)) where
    bit_marked : (j : ℕ) → j < bits → bit_at b.marks j ≡ true → marked_at j ≡ true
    bit_marked j h e =
        sub (region_at p j) (vblock_at p j) (frame_at p j) (region_in p z.vblocks j h) (vblock_in_lem p z.vblocks j) (omega arith) (sym (bit_mark p z.vblocks b.marks j) ∙ e)

    -- each entry is met
    met : (c : ℕ) → c < p.C → named b.ct c ≡ true → (j : ℕ) × (j < bits) × (bit_at b.marks j ≡ true) × (cluster_at j ≡ c)
    met =
        each_met bits p.C (bit_at b.marks) (named b.ct) cluster_at (λ j h e. into j h (bit_marked j h e))
        (λ i j hi hj ei ej. apart i j hi hj (bit_marked i hi ei) (bit_marked j hj ej)) few

    cluster_ok_lem : (c : ℕ) → c < p.C → cluster_ok p b.chip b.ct b.bt (region_of p c) c ≡ true
    cluster_ok_lem c low = go (so (eqb (ct_at b.ct c) none))
      where
        go : (eqb (ct_at b.ct c) none ≡ true) ⊎ (eqb (ct_at b.ct c) none ≡ false) → cluster_ok p b.chip b.ct b.bt (region_of p c) c ≡ true
        go (inl e) = unfold cluster_ok in rw e
        go (inr e) =
            let w = met c low (unfold named in ap not e) in
            let j = w.0 in
            let h = held_at j w.1 (bit_marked j w.1 w.2) in
            let q : region_of p c ≡ region_at p j = sym (ap (region_of p) w.3) ∙ h.mine in
            ap₂ (λ (r x : ℕ). cluster_ok p b.chip b.ct b.bt r x) q (sym w.3)
            ∙ held_ok p b ns rule (region_at p j) (vblock_at p j) (frame_at p j) (region_in p z.vblocks j w.1) (vblock_in_lem p z.vblocks j) h

    clusters_ok_lem : (r : ℕ) → clusters_ok p b.chip b.ct b.bt r ≡ true
    unfolding clusters_ok
    clusters_ok_lem r = all_below_intro p.C _ (λ c low. go c low (ℕ_discrete (region_of p c) r))
      where
        go : (c : ℕ) → c < p.C → Dec (region_of p c ≡ r) → cond (eqb (region_of p c) r) (cluster_ok p b.chip b.ct b.bt r c) true ≡ true
        go c low (yes e) = rw (eq-eqb (region_of p c) r e, ← e) (cluster_ok_lem c low)
        go c low (no e) = rw (ne_eqb (region_of p c) r e)

    -- each valid frame has its mark
    mark_same : (r v f : ℕ) → r < p.mu → v < p.gamma → f < 256 → mark_in p b.marks r v f ≡ marked p (view p b r) v f
    mark_same r v f hr hv hf = same_truth (mark_in p b.marks r v f) (marked p (view p b r) v f) (sub r v f hr hv hf) back
      where
        back : marked p (view p b r) v f ≡ true → mark_in p b.marks r v f ≡ true
        back m =
            let j = bit_of p r v f in
            let hj : j < bits = bit_in_lem p r v f hv hf hr in
            let mj : marked_at j ≡ true = marked_of r v f hv hf ∙ m in
            let w = met (cluster_at j) (into j hj mj).0 (into j hj mj).1 in
            let e : w.0 ≡ j = apart w.0 j w.1 hj (bit_marked w.0 w.1 w.2) mj w.3 in
            sym (bit_is p r v f hv hf b.marks) ∙ ap (bit_at b.marks) (sym e) ∙ w.2

    marks_right : ((k : ℕ) → k < marks_length p → word_at b.marks k < 2 ^ 64) → b.marks ≡ marks_of p b
    marks_right small = marks_are_lem p b b.marks long small mark_same

  -- ---- the nine rules hold
  module _ (o : nine_rules p b ≡ true) where
    mark_is : (r v f : ℕ) → r < p.mu → v < p.gamma → f < 256 → mark_in p b.marks r v f ≡ marked p (view p b r) v f
    mark_is r v f hr hv hf = rw (right p b long (and_right (eight_rules p b) (sym (nine_is p b) ∙ o))) (mark_at p b r v f hr hv hf)

    bit_of_mark : (j : ℕ) → j < bits → bit_at b.marks j ≡ marked_at j
    bit_of_mark j h =
        bit_mark p z.vblocks b.marks j ∙ mark_is (region_at p j) (vblock_at p j) (frame_at p j) (region_in p z.vblocks j h) (vblock_in_lem p z.vblocks j) (omega arith)

    no_more : count_below bits (bit_at b.marks) ≤ count_below p.C (named b.ct)
    no_more =
        fewer bits p.C (bit_at b.marks) (named b.ct) cluster_at (λ j h e. into j h (sym (bit_of_mark j h) ∙ e))
        (λ i j hi hj ei ej. apart i j hi hj (sym (bit_of_mark i hi) ∙ ei) (sym (bit_of_mark j hj) ∙ ej))

    entry_of : (c : ℕ) → c < p.C → named b.ct c ≡ true → Entry p (view p b (region_of p c)) c
    entry_of c low e = go (nt.entries c low)
      where
        nt : Neat p (region_of p c) (view p b (region_of p c))
        nt = neat p (region_of p c) (view p b (region_of p c)) (eight_region p b (and_left (eight_rules p b) _ (sym (nine_is p b) ∙ o)) (region_of p c) (mod-lt c z.regions))

        go : ((view p b (region_of p c)).seg_of c ≡ none) ⊎ Entry p (view p b (region_of p c)) c → Entry p (view p b (region_of p c)) c
        go (inl q) =
            let s : ct_at b.ct c ≡ none = unfold view_of in (rw (eq-eqb (region_of p c) (region_of p c) refl) at q) in
            absurd (never (eq-eqb _ _ s) (not-true _ (unfold named in e)))
        go (inr w) = w

    -- the bit of the frame that the entry leads to
    abbrev bit_named : ℕ → ℕ
    bit_named c = bit_of p (region_of p c) (vblock_named p b c) (frame_named p b c)

    no_fewer : count_below p.C (named b.ct) ≤ count_below bits (bit_at b.marks)
    no_fewer = fewer p.C bits (named b.ct) (bit_at b.marks) bit_named to (λ c d hc hd ec ed q. sym (back c hc ec) ∙ ap cluster_at q ∙ back d hd ed)
      where
        found : (c : ℕ) → c < p.C → named b.ct c ≡ true
            → (vblock_named p b c < p.gamma) × (frame_named p b c < frames p) × (marked p (view p b (region_of p c)) (vblock_named p b c) (frame_named p b c) ≡ true)
            × (cluster_in p b (region_of p c) (vblock_named p b c) (frame_named p b c) ≡ c)
        found c hc ec = entry_held p b ns rule c (entry_of c hc ec)

        short : (c : ℕ) → c < p.C → named b.ct c ≡ true → frame_named p b c < 256
        short c hc ec = omega (arith, (found c hc ec).1, z.short)

        to : (c : ℕ) → c < p.C → named b.ct c ≡ true → (bit_named c < bits) × (bit_at b.marks (bit_named c) ≡ true)
        to c hc ec =
            let w = found c hc ec in
            let hr = mod-lt c z.regions in (
              bit_in_lem p (region_of p c) (vblock_named p b c) (frame_named p b c) w.0 (short c hc ec) hr,
              bit_is p (region_of p c) (vblock_named p b c) (frame_named p b c) w.0 (short c hc ec) b.marks
                  ∙ mark_is (region_of p c) (vblock_named p b c) (frame_named p b c) hr w.0 (short c hc ec)
                  ∙ w.2,
            )

        back : (c : ℕ) → c < p.C → named b.ct c ≡ true → cluster_at (bit_named c) ≡ c
        back c hc ec = let w = found c hc ec in cluster_of_lem (region_of p c) (vblock_named p b c) (frame_named p b c) w.0 (short c hc ec) ∙ w.3

-- ---- the check

module _ (p : Params) (chip ct bt fst bst marks : List ℕ) (l : Lengths p chip ct bt fst bst) (long : length marks ≡ marks_length p)
    (small : (k : ℕ) → k < marks_length p → word_at marks k < 2 ^ 64) (wear stamps : List ℕ) where
  abbrev board : Board
  board = board_of chip ct bt fst bst wear marks stamps

  z' : Sizes p
  z' = sizes p l.fine

  -- the counts, by the lengths that are asked
  counts_are : counts_ok ct marks ≡ eqb (count_below p.C (named ct)) (count_below (64 * marks_length p) (bit_at marks))
  unfolding counts_ok
  counts_are = rw (l.ct_length, long)

  passes : order_ok p chip ct bt fst bst marks ≡ true → nine_rules p board ≡ true
  unfolding order_ok
  passes h =
      nine_is p board ∙ and_intro
      (sym (check_agrees p chip ct bt fst bst l wear marks stamps) ∙ and_intro k (unfold chip_ok in and_intro free (all_below_intro p.mu _ region)))
      (rule_of p board (marks_right p board l long k block sub few small))
    where
      k : tables_ok p bt bst ≡ true
      k = and_left (tables_ok p bt bst) _ h

      free : free_rule p chip bst ≡ true
      free = and_left (free_rule p chip bst) _ (and_right (tables_ok p bt bst) h)

      rest : all_below p.mu (region_held p chip ct bt fst bst marks) && counts_ok ct marks ≡ true
      rest = and_right (free_rule p chip bst) (and_right (tables_ok p bt bst) h)

      at_region : (r : ℕ) → r < p.mu → entry_ok p bt r (fst_at fst r) && all_below p.gamma (block_held p chip ct bt bst marks r (fst_at fst r)) ≡ true
      at_region r hr = unfold region_held in all_at p.mu (region_held p chip ct bt fst bst marks) (and_left (all_below p.mu (region_held p chip ct bt fst bst marks)) _ rest) r hr

      at_block : (r v : ℕ) → r < p.mu → v < p.gamma → frames_ok p (fst_at fst r) v (vblock_frames p chip bt bst r v) && marks_valid p chip ct bt marks r v ≡ true
      at_block r v hr hv =
          unfold block_held in all_at p.gamma (block_held p chip ct bt bst marks r (fst_at fst r)) (and_right (entry_ok p bt r (fst_at fst r)) (at_region r hr)) v hv

      right_frames : (r v : ℕ) → r < p.mu → v < p.gamma → frames_ok p (fst_at fst r) v (vblock_frames p chip bt bst r v) ≡ true
      right_frames r v hr hv = and_left (frames_ok p (fst_at fst r) v (vblock_frames p chip bt bst r v)) _ (at_block r v hr hv)

      block : (r v : ℕ) → r < p.mu → v < p.gamma → vblock_ok p chip bt bst r v ≡ true
      block r v hr hv = frames_block p z' chip bt bst r (fst_at fst r) v (right_frames r v hr hv)

      sub : (r v f : ℕ) → r < p.mu → v < p.gamma → f < 256 → mark_in p marks r v f ≡ true → marked p (view p board r) v f ≡ true
      sub r v f hr hv hf = marks_out p chip ct bt fst marks r v (and_right (frames_ok p (fst_at fst r) v (vblock_frames p chip bt bst r v)) (at_block r v hr hv)) f hf

      few : count_below p.C (named ct) ≤ count_below (64 * marks_length p) (bit_at marks)
      few = omega (arith, eqb-true (count_below p.C (named ct)) _ (sym counts_are ∙ and_right (all_below p.mu (region_held p chip ct bt fst bst marks)) rest))

      entry : (r : ℕ) → r < p.mu → fst_ok p chip bt fst r ≡ true
      entry r hr =
          unfold fst_ok in
          rule_of_frames p z' chip bt bst r (λ v. block r v hr) (fst_at fst r) (and_left (entry_ok p bt r (fst_at fst r)) _ (at_region r hr)) (λ v. right_frames r v hr)

      region : (r : ℕ) → r < p.mu → region_ok p chip ct bt fst bst r ≡ true
      region r hr =
          unfold region_ok in
          and_intro (all_below_intro p.gamma _ (λ v hv. block r v hr hv))
          (and_intro (entry r hr) (clusters_ok_lem p board l long k block sub few r))

  fails_not : nine_rules p board ≡ true → order_ok p chip ct bt fst bst marks ≡ true
  unfolding order_ok
  fails_not o =
      and_intro k
      (and_intro (and_left (free_rule p chip bst) _ ck)
      (and_intro (all_below_intro p.mu _ region)
      (counts_are ∙ eq-eqb (count_below p.C (named ct)) (count_below (64 * marks_length p) (bit_at marks)) (omega (arith, no_more p board l long k block o, no_fewer p board l long k block o)))))
    where
      both : tables_ok p bt bst && chip_ok p chip ct bt fst bst ≡ true
      both = check_agrees p chip ct bt fst bst l wear marks stamps ∙ and_left (eight_rules p board) _ (sym (nine_is p board) ∙ o)

      k : tables_ok p bt bst ≡ true
      k = and_left (tables_ok p bt bst) _ both

      ck : free_rule p chip bst && all_below p.mu (region_ok p chip ct bt fst bst) ≡ true
      ck = unfold chip_ok in and_right (tables_ok p bt bst) both

      at_region : (r : ℕ) → r < p.mu → all_below p.gamma (vblock_ok p chip bt bst r) && (fst_ok p chip bt fst r && clusters_ok p chip ct bt r) ≡ true
      at_region r hr = unfold region_ok in all_at p.mu (region_ok p chip ct bt fst bst) (and_right (free_rule p chip bst) ck) r hr

      block : (r v : ℕ) → r < p.mu → v < p.gamma → vblock_ok p chip bt bst r v ≡ true
      block r v hr hv = all_at p.gamma (vblock_ok p chip bt bst r) (and_left (all_below p.gamma (vblock_ok p chip bt bst r)) _ (at_region r hr)) v hv

      right_marks : (r v : ℕ) → r < p.mu → v < p.gamma → marks_valid p chip ct bt marks r v ≡ true
      right_marks r v hr hv = marks_in_lem p chip ct bt fst marks r v (λ f hf e. sym (mark_is p board l long k block o r v f hr hv hf) ∙ e)

      frames_right : (r : ℕ) → r < p.mu
          → (entry_ok p bt r (fst_at fst r) ≡ true) × ((v : ℕ) → v < p.gamma → frames_ok p (fst_at fst r) v (vblock_frames p chip bt bst r v) ≡ true)
      frames_right r hr =
          frames_of_rule p z' chip bt bst r (λ v. block r v hr) (fst_at fst r)
          (unfold fst_ok in and_left (fst_ok p chip bt fst r) _ (and_right (all_below p.gamma (vblock_ok p chip bt bst r)) (at_region r hr)))

      held : (r v : ℕ) → r < p.mu → v < p.gamma → block_held p chip ct bt bst marks r (fst_at fst r) v ≡ true
      held r v hr hv = unfold block_held in and_intro ((frames_right r hr).1 v hv) (right_marks r v hr hv)

      region : (r : ℕ) → r < p.mu → region_held p chip ct bt fst bst marks r ≡ true
      region r hr = unfold region_held in and_intro (frames_right r hr).0 (all_below_intro p.gamma _ (λ v hv. held r v hr hv))

  -- the tables, the free blocks, the regions and the counts are right exactly where the nine rules hold
  pub order_agrees : order_ok p chip ct bt fst bst marks ≡ nine_rules p board
  order_agrees = same_truth (order_ok p chip ct bt fst bst marks) (nine_rules p board) passes fails_not
