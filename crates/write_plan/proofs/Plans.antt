-- The plan that the code finds is the rules' own: its tests over the lent tables are those of the region's view.
-- Assumes nothing.
use mathlib.Core.Path.{◌≡◌, refl, sym, ◌∙◌}
use mathlib.Core.Logic.{◌⊎◌, inl, inr}
use mathlib.Core.Bool.{true, false, not, ◌&&◌, cond}
use mathlib.Core.List.{List, []}
use Prim.Native.Nat.{ℕ, ◌*◌, ◌≤◌, ◌<◌}
use native.Mathlib.Omega.{arith}
use native.Mathlib.Decide.{ℕ_discrete}
use lib.Dec.{eqb, ltb}
use borrow.Author.Tests.{eq-eqb, ne_eqb, lt-ltb, le-ltb}
use lib.ListN.{length}
use Rattle.lists.proofs.Parts.{next}
use Rattle.lists.proofs.Searches.{first_cong}
use Rattle.rules.specs.declared.Params.{Params}
use Rattle.rules.specs.Parameters.{frames, block_bytes, chip_bytes}
use Rattle.rules.specs.Numbers.{place_of, vblock_of}
use Rattle.rules.specs.Tables.{board_of, none, bt_at, fst_at}
use Rattle.rules.specs.Pages.{block, filled}
use Rattle.rules.specs.Regions.{View, view_of, body_at, assigned}
use Rattle.rules.specs.Write.{continues, opens, reclaims, has_room, lowest_unassigned, victim, plan_of}
use Rattle.rules.proofs.Sizes.{Sizes, sizes}
use Rattle.rules.proofs.TableFacts.{chip_size}
use Rattle.rules.proofs.Replays.{block_size}
use Rattle.rules.proofs.Views.{some_bytes}
use Rattle.rules.specs.Marks.{Marks, marks_in, marks_of, marks_on, table_of}
use Rattle.marks.proofs.Counted.{victim_counted}
use Rattle.chip_blocks.specs.First.{FirstFrames}
use Rattle.write_choose.specs.Search.{least_marked, lowest_none}
use Rattle.write_plan.specs.Plans.{OpenFrames, PlanAsked, next_in}

module _ (p : Params) (chip bt fst : List ℕ) (r : ℕ) (a : PlanAsked p chip bt fst r) where
  z : Sizes p
  z = sizes p a.fine

  pub chip_length_lem : length chip ≡ chip_bytes p
  chip_length_lem = a.chip_length ∙ sym (chip_size p)

  -- ---- the next frame

  module _ (sg : ℕ) (es : sg ≡ fst_at fst r) where
    pub no_open : (m : ℕ) → sg ≡ none → m ≡ frames p → m ≡ next_in p chip bt fst r
    unfolding next_in
    no_open m e k = rw (eq-eqb (fst_at fst r) none (sym es ∙ e)) k

    module _ (ne : sg ≡ none → ⊥) (v : ℕ) (ev : v ≡ vblock_of p sg) where
      pub open_low : v < p.gamma
      open_low = rw (ev, es) (a.opened (λ x. ne (es ∙ x))).0

      module _ (n : ℕ) (en : n ≡ bt_at p bt r v) where
        pub open_block : n < p.N
        open_block = go (a.names v open_low)
          where
            go : (bt_at p bt r v ≡ none) ⊎ (bt_at p bt r v < p.N) → n < p.N
            go (inl e) = absurd ((a.opened (λ x. ne (es ∙ x))).1 (rw (ev, es) at e))
            go (inr h) = rw en h

        block_is : n ≡ bt_at p bt r (vblock_of p (fst_at fst r))
        block_is = en ∙ rw (ev, es)

        frames_are : OpenFrames p (block p chip n) sg
        frames_are = rw (block_is, es) (a.first (λ x. ne (es ∙ x)))

        module _ (k from : ℕ) (ek : k ≡ place_of p sg) (ef : from ≡ k * p.beta) where
          at_most : from ≤ filled p (block p chip n)
          at_most = rw (ef, ek) frames_are.from

          pub from_low : from ≤ frames p
          from_low = omega (arith, frames_are.front.most, at_most)

          pub open_next : (blk : List ℕ) (f : ℕ) → blk ≡ block p chip n → ((m : ℕ) → from ≤ m → FirstFrames p blk m → f ≡ m) → f ≡ next_in p chip bt fst r
          unfolding next_in
          open_next blk f eb h =
              h (filled p (block p chip n)) at_most (rw eb frames_are.front) ∙ rw (block_is, ne_eqb (fst_at fst r) none (λ x. ne (es ∙ x)))

  -- ---- the region's view

  module _ (ct : List ℕ) where
    abbrev vw : View
    vw = view_of p chip ct bt fst r

    body_some : (v : ℕ) → v < p.gamma → (bt_at p bt r v ≡ none → ⊥) → vw.body v ≡ block p chip (bt_at p bt r v)
    unfolding view_of body_at
    body_some v h ne = rw (lt-ltb v p.gamma h, ne_eqb (bt_at p bt r v) none ne)

    body_none : (v : ℕ) → v < p.gamma → bt_at p bt r v ≡ none → vw.body v ≡ []
    unfolding view_of body_at
    body_none v h e = rw (lt-ltb v p.gamma h, e)

    last_is : vw.last_seg ≡ fst_at fst r
    unfolding view_of
    last_is = refl

    block_low_lem : (v : ℕ) → v < p.gamma → (bt_at p bt r v ≡ none → ⊥) → bt_at p bt r v < p.N
    block_low_lem v h ne = go (a.names v h)
      where
        go : (bt_at p bt r v ≡ none) ⊎ (bt_at p bt r v < p.N) → bt_at p bt r v < p.N
        go (inl e) = absurd (ne e)
        go (inr k) = k

    assigned_is : (v : ℕ) → v < p.gamma → eqb (bt_at p bt r v) none ≡ not (assigned vw v)
    unfolding assigned
    assigned_is v h = go (ℕ_discrete (bt_at p bt r v) none)
      where
        go : Dec (bt_at p bt r v ≡ none) → eqb (bt_at p bt r v) none ≡ not (ltb 0 (length (vw.body v)))
        go (yes e) = rw (eq-eqb (bt_at p bt r v) none e, body_none v h e)
        go (no e) =
            rw (
              ne_eqb (bt_at p bt r v) none e,
              body_some v h e,
              block_size p chip (bt_at p bt r v) (rw a.chip_length (next (block_bytes p) (bt_at p bt r v) p.N (block_low_lem v h e))),
              lt-ltb 0 (block_bytes p) (some_bytes p z.some z.sectors),
            )

    -- the open block has room exactly if the next frame is one of its frames
    room_is : has_room p vw ≡ ltb (next_in p chip bt fst r) (frames p)
    unfolding has_room next_in
    room_is = rw last_is (go (ℕ_discrete (fst_at fst r) none))
      where
        go : Dec (fst_at fst r ≡ none) → not (eqb (fst_at fst r) none) && ltb (filled p (vw.body (vblock_of p (fst_at fst r)))) (frames p)
            ≡ ltb (cond (eqb (fst_at fst r) none) (frames p) (filled p (block p chip (bt_at p bt r (vblock_of p (fst_at fst r)))))) (frames p)
        go (yes e) = rw (eq-eqb (fst_at fst r) none e) (sym (le-ltb (frames p) (frames p) (omega arith)))
        go (no e) = let o = a.opened e in rw (ne_eqb (fst_at fst r) none e, body_some (vblock_of p (fst_at fst r)) o.0 o.1)

    -- ---- the three plans

    pub continues_is : (f m sg v : ℕ) → f ≡ next_in p chip bt fst r → m ≡ frames p → f < m → sg ≡ fst_at fst r → v ≡ vblock_of p sg → continues v f ≡ plan_of p vw
    unfolding plan_of
    continues_is f m sg v ef em h es ev =
        let room : has_room p vw ≡ true = room_is ∙ lt-ltb (next_in p chip bt fst r) (frames p) (rw (← ef, ← em) h) in
        rw room (go (ℕ_discrete (fst_at fst r) none))
      where
        go : Dec (fst_at fst r ≡ none) → continues v f ≡ continues (vblock_of p vw.last_seg) (filled p (vw.body (vblock_of p vw.last_seg)))
        go (yes e) = absurd (omega (arith, ef, em, full e))
          where
            full : fst_at fst r ≡ none → next_in p chip bt fst r ≡ frames p
            full x = unfold next_in in rw (eq-eqb (fst_at fst r) none x)
        go (no e) =
            let o = a.opened e in
            let k : f ≡ filled p (block p chip (bt_at p bt r (vblock_of p (fst_at fst r)))) = ef ∙ unfold next_in in rw (ne_eqb (fst_at fst r) none e) in
            rw (last_is, body_some (vblock_of p (fst_at fst r)) o.0 o.1, ev, es, k)

    module _ (f m : ℕ) (ef : f ≡ next_in p chip bt fst r) (em : m ≡ frames p) (out : m ≤ f) (v : ℕ) (ev : v ≡ lowest_none p bt r p.gamma) where
      no_room_lem : has_room p vw ≡ false
      no_room_lem = room_is ∙ le-ltb (next_in p chip bt fst r) (frames p) (rw (← ef, ← em) out)

      lowest_is : v ≡ lowest_unassigned p vw
      unfolding lowest_unassigned lowest_none
      lowest_is = ev ∙ first_cong none p.gamma _ _ assigned_is

      pub opens_is : (v ≡ none → ⊥) → opens v ≡ plan_of p vw
      unfolding plan_of
      opens_is ne = rw (no_room_lem, ← lowest_is, ne_eqb v none ne)

      pub reclaims_is : v ≡ none → (u : ℕ) → u ≡ victim p vw → reclaims u ≡ plan_of p vw
      unfolding plan_of
      reclaims_is e u k = rw (no_room_lem, ← lowest_is, eq-eqb v none e, k)

    -- the virtual block with fewest marks is the one with fewest valid frames
    pub victim_is : (marks : List ℕ) → marks ≡ marks_of p (board_of chip ct bt fst [] [] [] []) → (v : ℕ) → ((m : Marks) → marks ≡ table_of p m → v ≡ least_marked m r p.gamma) → v ≡ victim p vw
    unfolding marks_in
    victim_is marks e v h = h (marks_on p (board_of chip ct bt fst [] [] [] [])) e ∙ sym (victim_counted p a.fine vw)
