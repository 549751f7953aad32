-- A write that has passed its checks: what its plan asks is there, and what it leaves is the rules' outcome.
-- Assumes nothing.
use mathlib.Core.Path.{◌≡◌, refl, sym, ap, ap₂, ◌∙◌}
use mathlib.Core.Logic.{◌⊎◌, inl, inr}
use mathlib.Core.Bool.{Bool, true, false, not}
use mathlib.Core.List.{List, [], ◌++◌}
use Prim.Native.Nat.{ℕ, ◌+◌, ◌-◌, ◌*◌, ◌≤◌, ◌<◌}
use native.Mathlib.Omega.{arith}
use lib.Dec.{eqb}
use borrow.Author.Tests.{eqb-true, not-false}
use lib.ListN.{length}
use Rattle.lists.proofs.Tests.{so}
use Rattle.lists.proofs.Searches.{first_spec}
use Rattle.rules.specs.declared.Params.{Params}
use Rattle.rules.specs.declared.Answer.{Answer}
use Rattle.rules.specs.declared.Reply.TheVariants.{Accepted}
use Rattle.rules.specs.Parameters.{frames}
use Rattle.rules.specs.Numbers.{region_of, vblock_of}
use Rattle.rules.specs.Tables.{Board, board_of, none, bt_at, ct_at, marks_length, stamp_at}
use Rattle.rules.specs.Pages.{block, frame}
use Rattle.rules.specs.Regions.{View, view, view_of, assigned, looks_at}
use Rattle.rules.specs.Traces.{erases_in, frame_ops, programs_in, replay_chip}
use Rattle.rules.specs.Write.{Plan, continues, opens, reclaims, has_room, lowest_unassigned, plan_of, new_frame, next_stamp, plan_block, plan_vblock, plan_frame, plan_erases, free_block, plan_ops, room_ops, takes_block, write_ops, written, written_by}
use Rattle.rules.specs.Replies.{reply_of}
use Rattle.rules.specs.Calls.{Outcome, answer_of, outcome_of}
use Rattle.rules.proofs.Sizes.{Sizes}
use Rattle.rules.proofs.Isolation.{index_low}
use Rattle.rules.proofs.Views.{HasFree, body_some, has_block, block_low_lem, free_unnamed}
use Rattle.rules.proofs.RegionFacts.{GoodFrame, Neat}
use Rattle.marks.specs.Kept.{put_mark, room_marks, written_marks}
use Rattle.rules.specs.Requests.{Request, write, request_cluster, request_region}
use Rattle.rules.specs.Machine.{with_room}
use Rattle.rules.specs.Marks.{Marks, marks_of, marks_on, table_of}
use Rattle.rules.proofs.Writes.{write_marks}
use Rattle.rules.proofs.Outcomes.{write_accepted}
use Rattle.marks.proofs.WrittenMarks.{written_marks_lem}
use Rattle.chip_marks.specs.Asked.{MarkAsked}
use Rattle.rules.proofs.Admitted.{Admitted, Checks, admitted, write_checks, write_free, write_left}
use Rattle.rules.proofs.Continues.{Makes}
use Rattle.rules.proofs.Opens.{free_fresh, fresh_frame}
use Rattle.rules.proofs.Victims.{good_at}
use Rattle.rules.proofs.WritePromise.{makes, counts, copies_few, erase_counts}
use Rattle.write_reclaim.specs.Moves.{FromTo}
use Rattle.rules.specs.Words.{PlanListed}
use Rattle.rules.proofs.Words.{plan_exactly}
use Rattle.read_work.specs.Lookup.{block_for, Looked, Lookup, Stands, Within}
use Rattle.write_room.specs.Rooms.{OpenAsked, RoomAsked, RoomMade}
use Rattle.write_cluster.specs.Clusters.{Standing, ClusterPut}
use Rattle.outcomes.specs.Claims.{outcome}
use Rattle.write_marks.specs.Keeping.{UnmarkAsked, kept_marks, accepted_answer}
use Rattle.write_marks.proofs.Keeping.{old_is, room_is, unmark_asked}
use Rattle.write_work.proofs.Chosen as chosen
use Rattle.write_work.proofs.Made as made
use Rattle.write_work.proofs.Stays.{chip_same_lem, ct_same, entry_same, stands_same, within_same}
use Rattle.write_cluster.proofs.Put.{lookup}

-- a plan that reclaims: the open block has no room, and every virtual block has a block
record Reclaiming (p : Params) (vw : View) : Type 0 where
  no_room : has_room p vw ≡ false
  full : lowest_unassigned p vw ≡ none

kind : Plan → ℕ
kind (continues v f) = 0
kind (opens v) = 1
kind (reclaims v) = 2

reclaiming : (p : Params) (vw : View) (v : ℕ) → plan_of p vw ≡ reclaims v → Reclaiming p vw
unfolding plan_of kind
reclaiming p vw v e = go (so (has_room p vw)) (so (eqb (lowest_unassigned p vw) none))
  where
    go : (has_room p vw ≡ true) ⊎ (has_room p vw ≡ false) → (eqb (lowest_unassigned p vw) none ≡ true) ⊎ (eqb (lowest_unassigned p vw) none ≡ false) → Reclaiming p vw
    go (inl h) s = absurd (omega (arith, ap kind (rw h at e)))
    go (inr h) (inr s) = absurd (omega (arith, ap kind (rw (h, s) at e)))
    go (inr h) (inl s) = record { no_room = h; full = eqb-true _ _ s }

module _ (p : Params) (b : Board) (q : Request) (e : reply_of p b (write q) ≡ Accepted) where
  checks : Checks p b q
  checks = write_checks p b q e

  acc : Admitted p b q
  acc = admitted p b q checks

  left : stamp_at b.stamps (request_region p q) < 4294967295
  left = write_left p b q e

  z : Sizes p
  z = acc.sized

  pub sectors : 0 < p.alpha
  sectors = z.sectors

  pub alpha_few : p.alpha ≤ 16
  alpha_few = z.alpha_high

  pub marks_are_lem : b.marks ≡ marks_of p b
  marks_are_lem = chosen.marks_are_lem p b q checks

  pub marks_full : length b.marks ≡ marks_length p
  marks_full = chosen.marks_full p b q checks

  abbrev r : ℕ
  r = request_region p q

  abbrev vw : View
  vw = view p b r

  region_in : r < p.mu
  region_in = chosen.region_in p b q checks

  nt : Neat p r vw
  nt = chosen.region_neat p b q checks

  all_make : Makes p b r (plan_of p vw)
  all_make = makes p z b acc.tables r region_in nt (write_free p b q e)

  open_asked : HasFree p b → (v : ℕ) → v < p.gamma → OpenAsked p b.bt b.bst r v (free_block p b.bst b.wear)
  open_asked w v h = record { fine = acc.fine; bt_length = acc.tables.bt_length; bst_length = acc.tables.bst_length; region = region_in; low = h; in_chip = w.0 }

  every : lowest_unassigned p vw ≡ none → (u : ℕ) → u < p.gamma → assigned vw u ≡ true
  unfolding lowest_unassigned
  every full u k = go (first_spec none p.gamma (λ v. not (assigned vw v)) (omega (arith, z.gamma_high)))
    where
      go : ((lowest_unassigned p vw ≡ none) × ((i : ℕ) → i < p.gamma → not (assigned vw i) ≡ false))
          ⊎ ((lowest_unassigned p vw < p.gamma) × (not (assigned vw (lowest_unassigned p vw)) ≡ true)) → assigned vw u ≡ true
      go (inl w) = not-false _ (w.1 u k)
      go (inr w) = absurd (omega (arith, z.gamma_high, full, w.0))

  -- the victim's block and the free block
  module _ (w : HasFree p b) (v : ℕ) (h : v < p.gamma) (c : Reclaiming p vw) where
    some : bt_at p b.bt r v ≡ none → ⊥
    some = has_block p z b acc.tables r v region_in h (every c.full v h)

    good : (f : ℕ) → f < frames p → GoodFrame p r v (frame p (block p b.chip (bt_at p b.bt r v)) f)
    good f k = rw (body_some p z b acc.tables r v region_in h some) at (good_at p z vw r nt c.no_room (every c.full) v f h k)

    from_to : FromTo p b.chip b.ct (bt_at p b.bt r v) (free_block p b.bst b.wear) v
    from_to =
        record {
          between =
              record {
                whole = record { fine = acc.fine; size = acc.tables.chip_length };
                from = block_low_lem p z b acc.tables r v region_in h some;
                to = w.0;
                apart = λ x. free_unnamed p z b acc.tables w (r * p.gamma + v) (index_low p r v region_in h) (unfold bt_at in x);
                clean = λ k m. rw (free_fresh p z b acc.tables w) (fresh_frame p k);
              };
          low = h;
          good = λ f m. rw acc.tables.ct_length (good f m).low;
        }

  -- the cluster is looked up at entry
  pub lookup_entry : (c : ℕ) → c ≡ request_cluster p q → Lookup p b.chip b.ct b.bt c
  lookup_entry c ec = chosen.lookup_entry p b q checks c ec

  -- the room of the plan, in the block that it writes
  pub room_asked : (r' : ℕ) → r' ≡ r → (pl : Plan) → pl ≡ plan_of p vw → (n : ℕ) → n ≡ plan_block p b r pl → RoomAsked p b.chip b.ct b.bt b.bst b.wear b.marks r' pl n
  unfolding plan_block plan_vblock takes_block
  room_asked r' er pl ep n en = rw (er, en) (go pl ep)
    where
      go : (pl : Plan) → pl ≡ plan_of p vw → RoomAsked p b.chip b.ct b.bt b.bst b.wear b.marks r pl (plan_block p b r pl)
      go (continues v f) k = tt
      go (opens v) k =
          let mk : Makes p b r (opens v) = rw (← k) at all_make in
          (refl, open_asked (mk.found refl) v mk.base.ready.mine)
      go (reclaims v) k =
          let mk : Makes p b r (reclaims v) = rw (← k) at all_make in
          let h : v < p.gamma = mk.base.ready.mine in
          let w : HasFree p b = mk.found refl in (
            refl,
            record {
              taking = open_asked w v h;
              wear_length = acc.tables.wear_length;
              words = record { fine = acc.fine; long = marks_full; region = region_in; vblock = h };
              blocks = from_to w v h (reclaiming p vw v (sym k));
            },
          )

  -- ---- what the write leaves

  module _ (r' : ℕ) (er : r' ≡ r) (pl : Plan) (ep-r : pl ≡ plan_of p vw) (v f copied erases : ℕ) (chip₁ ct₁ bt₁ bst₁ wear₁ : List ℕ)
      (m : (fst stamps : List ℕ) → b.marks ≡ marks_of p (board_of b.chip b.ct b.bt fst b.bst b.wear b.marks stamps)
      → RoomMade p (board_of b.chip b.ct b.bt fst b.bst b.wear b.marks stamps) r' pl v f copied erases chip₁ ct₁ bt₁ bst₁ wear₁) where
    mk : Makes p b r pl
    mk = rw ep-r all_make

    listed : PlanListed p vw pl
    listed = rw ep-r (plan_exactly p b (record { fine = acc.fine; lengths = checks.lengths; tidy = checks.tidy }) r region_in)

    pub m_r : RoomMade p b r pl v f copied erases chip₁ ct₁ bt₁ bst₁ wear₁
    m_r = rw er at (m b.fst b.stamps marks_are_lem)

    pub standing : Standing p (board_of chip₁ ct₁ bt₁ b.fst [] [] [] b.stamps) q v f
    standing = rw (m_r.chip_is, m_r.ct_is, m_r.bt_is, m_r.vblock, m_r.frame) (made.standing p b q acc left pl mk)

    -- the old cluster is looked up on the board with room
    pub lookup_made : (c : ℕ) → c ≡ request_cluster p q → Lookup p chip₁ ct₁ bt₁ c
    lookup_made c ec = rw ec (lookup p (board_of chip₁ ct₁ bt₁ b.fst [] [] [] b.stamps) q v f standing)

    -- where nothing is erased, it stands where it was found at entry
    module _ (c : ℕ) (ec : c ≡ request_cluster p q) (still : erases ≡ 0) (kept : Bool) where
      none_erased : plan_erases pl ≡ 0
      none_erased = sym (erase_counts p b r pl).1 ∙ sym m_r.erases ∙ still

      same_block : (ct_at b.ct c ≡ none → ⊥) → block_for p b.ct bt₁ c ≡ block_for p b.ct b.bt c
      unfolding block_for
      same_block ne =
          let k = (lookup_entry c ec).leads ne in
          let at : region_of p c ≡ r = rw ec in
          let some : bt_at p b.bt r (vblock_of p (ct_at b.ct c)) ≡ none → ⊥ = λ n. omega (arith, rw at at k.block, n, z.blocks) in
          rw (at, m_r.bt_is) (entry_same p z b acc.tables r region_in pl none_erased listed mk.base.ready.mine (vblock_of p (ct_at b.ct c)) some)

      pub stays : (fr : ℕ) → Stands p b.chip b.ct b.bt c kept fr → Stands p chip₁ ct₁ bt₁ c kept fr
      stays fr s =
          rw (m_r.chip_is, m_r.ct_is, chip_same_lem p b r pl none_erased, ct_same p b r pl none_erased)
          (stands_same p b.chip b.ct b.bt bt₁ c same_block kept fr s)

      pub stays_within : (u g fr : ℕ) → Stands p b.chip b.ct b.bt c kept fr → Within p b.chip b.ct b.bt c kept u g → Within p chip₁ ct₁ bt₁ c kept u g
      stays_within u g fr s w =
          rw (m_r.chip_is, m_r.ct_is, chip_same_lem p b r pl none_erased, ct_same p b r pl none_erased)
          (within_same p b.chip b.ct b.bt bt₁ c same_block kept u g s.has w)

    pub copied_few : copied < 256
    copied_few = rw m_r.count (omega (arith, copies_few p vw pl, mk.base.ready.low, z.short))

    -- the new frame's pages, however many
    pub pages_made : (m : ℕ) (chip : List ℕ) → chip ≡ replay_chip p chip₁ (frame_ops p (bt_at p bt₁ r v) f
        (new_frame p (view p (board_of chip₁ ct₁ bt₁ b.fst [] [] [] b.stamps) r) q (next_stamp (board_of chip₁ ct₁ bt₁ b.fst [] [] [] b.stamps) r) v) m)
        → chip ≡ replay_chip p b.chip (room_ops p b r pl ++ frame_ops p (plan_block p b r pl) (plan_frame p vw pl) (new_frame p vw q (next_stamp b r) (plan_vblock pl)) m)
    pages_made m chip x = x ∙ rw (m_r.chip_is, m_r.ct_is, m_r.bt_is, m_r.vblock, m_r.frame) (made.pages_made p b q acc left pl mk m)

    board_is : (chip ct fst stamps marks : List ℕ) → ClusterPut p (board_of chip₁ ct₁ bt₁ b.fst [] [] [] b.stamps) q v f chip ct fst stamps → marks ≡ (written p b q).marks
        → board_of chip ct bt₁ fst bst₁ wear₁ marks stamps ≡ written p b q
    unfolding written
    board_is chip ct fst stamps marks x em =
        let y = made.done p b q acc left pl mk chip ct fst stamps bst₁ wear₁ marks (rw (m_r.chip_is, m_r.ct_is, m_r.bt_is, m_r.vblock, m_r.frame) at x) m_r.bst_is m_r.wear_is
        (em ∙ sym (ap (λ (l : Plan). (written_by p b r q l).marks) ep-r)) in
        rw m_r.bt_is (y ∙ ap (written_by p b r q) ep-r)

    answer_is : (looks : ℕ) → looks ≡ looks_at p b (request_cluster p q) → accepted_answer p copied erases looks ≡ answer_of Accepted (write_ops p b q) (looks_at p b (request_cluster p q))
    unfolding answer_of write_ops
    answer_is looks el =
        let k = counts p b r q pl in
        let x : p.alpha * (copied + 1) ≡ programs_in (plan_ops p b r q (plan_of p vw)) = rw m_r.count (sym k.0) ∙ ap (λ (l : Plan). programs_in (plan_ops p b r q l)) ep-r in
        let y : erases ≡ erases_in (plan_ops p b r q (plan_of p vw)) = m_r.erases ∙ (erase_counts p b r pl).1 ∙ sym k.1 ∙ ap (λ (l : Plan). erases_in (plan_ops p b r q l)) ep-r in
        λ i. record { reply = Accepted; programs = x i; erases = y i; looks = el i }

    -- ---- and the marks

    pub mark_asked : MarkAsked p b.marks r' v f
    mark_asked =
        rw (er, m_r.vblock, m_r.frame)
        (record { words = record { fine = acc.fine; long = marks_full; region = region_in; vblock = mk.base.ready.mine }; frame = omega (arith, mk.base.ready.low, z.short) })

    module _ (c kept-fr : ℕ) (ec : c ≡ request_cluster p q) (kept : Bool) (u g : ℕ) (s : Stands p chip₁ ct₁ bt₁ c kept kept-fr) (w : Within p chip₁ ct₁ bt₁ c kept u g) where
      pub old_asked : UnmarkAsked p b.marks r' kept u g
      old_asked = unmark_asked p chip₁ ct₁ bt₁ c (lookup_made c ec) kept kept-fr u g s w b.marks marks_full r' (er ∙ rw ec)

      -- the view with room is the one that the lookup went by
      view_made : view_of p chip₁ ct₁ bt₁ b.fst r ≡ with_room p vw pl
      view_made = rw (m_r.chip_is, m_r.ct_is, m_r.bt_is) (made.view_is p b q acc left pl mk)

      kept_are : (m : Marks) → kept_marks m r' v f copied erases kept u g ≡ written_marks p b q m
      unfolding written_marks
      kept_are m =
          let old = old_is p chip₁ ct₁ bt₁ c (lookup_made c ec) kept kept-fr u g s w b.fst (room_marks p vw r pl m) in
          rw (er, room_is p b r pl v copied erases m_r.vblock m_r.count m_r.erases m, ← ep-r, ← view_made, m_r.vblock, m_r.frame)
          (ap (λ (k : Marks). put_mark k r (plan_vblock pl) (plan_frame p vw pl) true) (rw ec at old))

      -- the marks that are kept are those of the board that is left
      marks_kept : (marks : List ℕ) → ((m : Marks) → b.marks ≡ table_of p m → marks ≡ table_of p (kept_marks m r' v f copied erases kept u g)) → marks ≡ (written p b q).marks
      marks_kept marks h =
          h (marks_on p b) marks_are_lem
          ∙ ap (table_of p) (kept_are (marks_on p b))
          ∙ sym (written_marks_lem p b q e)
          ∙ unfold written in sym (write_marks p b r q (plan_of p vw))

      pub gives : (looks : ℕ) → Looked p b.chip b.ct b.bt c looks → (chip ct fst stamps marks : List ℕ) (a : Answer) → ClusterPut p (board_of chip₁ ct₁ bt₁ b.fst [] [] [] b.stamps) q v f chip ct fst stamps
          → ((m : Marks) → b.marks ≡ table_of p m → marks ≡ table_of p (kept_marks m r' v f copied erases kept u g)) → a ≡ accepted_answer p copied erases looks
          → outcome a q.bytes [] (board_of chip ct bt₁ fst bst₁ wear₁ marks stamps) ≡ outcome_of p b (write q)
      gives looks k chip ct fst stamps marks a x h y =
          let el : looks ≡ looks_at p b (request_cluster p q) = unfold looks_at in
          (rw ec at (k.is b.fst)) in
          ap₂ {C = Outcome} (λ (i : Answer) (j : Board). outcome i q.bytes [] j) (y ∙ answer_is looks el) (board_is chip ct fst stamps marks x (marks_kept marks h)) ∙ sym (write_accepted p b q e)
