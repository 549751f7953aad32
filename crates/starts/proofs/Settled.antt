-- Boards on which a plan has made room, with a frame begun or without: they are steady and read as the board before, since their regions' views are like those with room made, which read so.
-- Assumes nothing.
use mathlib.Core.Path.{◌≡◌, refl, sym, ap, ◌∙◌}
use mathlib.Core.Logic.{◌⊎◌}
use Prim.Native.Nat.{ℕ, ◌+◌, ◌*◌, ◌≤◌, ◌<◌}
use native.Mathlib.Nat.{mod-lt}
use native.Mathlib.Decide.{ℕ_discrete}
use mathlib.Core.Bool.{Bool, true}
use mathlib.Core.List.{List}
use lib.ListN.{length, length-set, set}
use lib.Seq.{get_or-set_other, get_or-set_same}
use Rattle.lists.specs.Below.{updated}
use Rattle.lists.proofs.Joins.{updated_other, updated_same}
use Rattle.rules.specs.declared.Params.{Params}
use Rattle.rules.specs.Parameters.{frames}
use Rattle.rules.specs.Numbers.{region_of}
use Rattle.rules.specs.Tables.{Board, bst_at, bt_at, bt_entry, ct_at, none}
use Rattle.rules.specs.Pages.{filled, frame}
use Rattle.rules.specs.Regions.{View, assigned, sector, view, view_of}
use Rattle.rules.specs.Format.{bad}
use Rattle.rules.specs.Start.{open_once}
use Rattle.rules.specs.Write.{Plan, copies, follow_ct, plan_block, plan_vblock}
use Rattle.rules.specs.Machine.{with_room}
use Rattle.rules.proofs.Continues.{MakesOn}
use Rattle.rules.proofs.Isolation.{Effect, index_low, others_view, own_view}
use Rattle.rules.proofs.PlanCases.{Case}
use Rattle.rules.proofs.RegionFacts.{Entry, Neat, UpTo, up_to_filled}
use Rattle.rules.proofs.Replays.{Ran}
use Rattle.rules.proofs.Sizes.{Sizes}
use Rattle.rules.proofs.TableFacts.{Tables}
use Rattle.rules.proofs.TablesKept.{Change, reserved_bad, tables_kept}
use Rattle.starts.specs.Stands.{Clear, Stands}
use Rattle.starts.specs.Timely.{Timely, WholeAt}
use Rattle.starts.proofs.Alike.{Alike, alike_entries, alike_reads, alike_timely, equal, whole_back}
use Rattle.starts.proofs.Carries.{Carries, carries, room_fronts}
use Rattle.starts.proofs.Steady.{Old, Shown, Steady, one_open, same_shown, stands_neat, stands_steady, stands_tables}
use Rattle.starts.proofs.Timely.{whole_low}

module _ (p : Params) (z : Sizes p) (b : Board) (st : Stands p b) (r : ℕ) (region : r < p.mu) (pl : Plan) (case : Case p (view p b r) pl)
    (chip₁ bst₁ : List ℕ) (worn₁ : Bool) (makes : MakesOn p b r pl chip₁ bst₁ worn₁) where
  t : Tables p b
  t = stands_tables p b st

  nt : Neat p r (view p b r)
  nt = stands_neat p b st r region

  carried : Carries p (view p b r) (with_room p (view p b r) pl)
  carried = carries p z b t r region nt pl case chip₁ bst₁ worn₁ makes

  room_entries : (c u g : ℕ) → WholeAt p (with_room p (view p b r) pl) c u g → ((with_room p (view p b r) pl).seg_of c ≡ none) ⊎ Entry p (with_room p (view p b r) pl) c
  room_entries c u g a = makes.base.entries c (whole_low p z r (with_room p (view p b r) pl) (room_fronts p z b t r region nt pl case chip₁ bst₁ worn₁ makes) c u g a)

  -- a board with the region's view like the one with room made
  module _ (b' : Board) (t' : Tables p b') (marked : (n : ℕ) → n < p.N → bst_at b'.bst n ≡ 2 → bad p b'.chip n ≡ true) (vw' : View) (own : view p b' r ≡ vw')
      (others : (r' : ℕ) → r' < p.mu → (r' ≡ r → ⊥) → view p b' r' ≡ view p b r')
      (segs : (c : ℕ) → vw'.seg_of c ≡ (with_room p (view p b r) pl).seg_of c)
      (alike : (u g : ℕ) → u < p.gamma → g < frames p → Alike p (frame p ((with_room p (view p b r) pl).body u) g) (frame p (vw'.body u) g))
      (blocks : (u : ℕ) → u < p.gamma → assigned vw' u ≡ true → (0 < filled p (vw'.body u)) × UpTo p r u (filled p (vw'.body u)) (vw'.body u))
      (full : (u : ℕ) → u < p.gamma → assigned vw' u ≡ true → (u ≡ plan_vblock pl → ⊥) → filled p (vw'.body u) ≡ frames p) where
    pub settled : Steady p b'
    settled =
        record {
          tables = t';
          marked = marked;
          blocks = λ r' v h. blocks_at r' h (ℕ_discrete r' r) v;
          once = λ r' h. once_at r' h (ℕ_discrete r' r);
          entries = λ r' h. entries_at r' h (ℕ_discrete r' r);
          timely = λ r' h. timely_at r' h (ℕ_discrete r' r);
        }
      where
        old : Steady p b
        old = stands_steady p b st

        blocks_at : (r' : ℕ) → r' < p.mu → Dec (r' ≡ r) → (v : ℕ) → v < p.gamma → assigned (view p b' r') v ≡ true
            → (0 < filled p ((view p b' r').body v)) × UpTo p r' v (filled p ((view p b' r').body v)) ((view p b' r').body v)
        blocks_at r' h (yes e) = rw (e, own) blocks
        blocks_at r' h (no e) = rw (others r' h e) (λ v. old.blocks r' v h)

        once_at : (r' : ℕ) → r' < p.mu → Dec (r' ≡ r) → open_once p (view p b' r') ≡ true
        once_at r' h (yes e) = rw (e, own) (one_open p vw' (plan_vblock pl) full)
        once_at r' h (no e) = rw (others r' h e) (old.once r' h)

        entries_at : (r' : ℕ) → r' < p.mu → Dec (r' ≡ r) → (c : ℕ) → c < p.C → ((view p b' r').seg_of c ≡ none) ⊎ Entry p (view p b' r') c
        entries_at r' h (yes e) = rw (e, own) (λ c k. alike_entries p z (with_room p (view p b r) pl) vw' segs alike c (makes.base.entries c k))
        entries_at r' h (no e) = rw (others r' h e) (old.entries r' h)

        timely_at : (r' : ℕ) → r' < p.mu → Dec (r' ≡ r) → Timely p (view p b' r')
        timely_at r' h (yes e) = rw (e, own) (alike_timely p z (with_room p (view p b r) pl) vw' segs alike room_entries (carried.timely (st.timely r region)))
        timely_at r' h (no e) = rw (others r' h e) (st.timely r' h)

    pub settled_old : Old p b b'
    settled_old = record { reads = λ c h j. reads c h j (ℕ_discrete (region_of p c) r); clear = λ c h x. clear c h x (ℕ_discrete (region_of p c) r) }
      where
        reads : (c : ℕ) → c < p.C → (j : ℕ) → Dec (region_of p c ≡ r) → sector p b' c j ≡ sector p b c j
        reads c h j (yes e) = unfold sector in rw (e, own) (alike_reads p z (with_room p (view p b r) pl) vw' segs alike c j (makes.base.entries c h) ∙ makes.reads c h j)
        reads c h j (no e) = unfold sector in rw (others (region_of p c) (mod-lt c z.regions) e)

        clear : (c : ℕ) → c < p.C → Clear p b c → Dec (region_of p c ≡ r) → Clear p b' c
        clear c h x (no e) = rw (others (region_of p c) (mod-lt c z.regions) e) x
        clear c h x (yes e) = rw (e, own) (here (rw e at x))
          where
            here : ((view p b r).seg_of c ≡ none → (u g : ℕ) → WholeAt p (view p b r) c u g → ⊥) → vw'.seg_of c ≡ none → (u g : ℕ) → WholeAt p vw' c u g → ⊥
            here free n u g a =
                let w = carried.back c u g (whole_back p z (with_room p (view p b r) pl) vw' segs alike c u g a).1 in
                free (carried.lives c h (sym (segs c) ∙ n)) w.0 w.1 w.2

-- ---- room made, and block n as given

unfoldable pub mid_board : Params → Board → ℕ → Plan → List ℕ → List ℕ → Board
mid_board p b r pl bst chip =
    record {
      chip = chip;
      ct = follow_ct p (plan_vblock pl) 0 (copies p (view p b r) pl) b.ct;
      bt = set b.bt (r * p.gamma + plan_vblock pl) (plan_block p b r pl);
      fst = b.fst;
      bst = bst;
      wear = b.wear;
      marks = b.marks;
      stamps = b.stamps;
    }

unfoldable pub mid_view : Params → Board → ℕ → Plan → List ℕ → View
mid_view p b r pl blk = record { seg_of = (with_room p (view p b r) pl).seg_of; last_seg = (view p b r).last_seg; body = updated (with_room p (view p b r) pl).body (plan_vblock pl) blk }

module _ (p : Params) (z : Sizes p) (b : Board) (st : Stands p b) (r : ℕ) (region : r < p.mu) (pl : Plan) (case : Case p (view p b r) pl)
    (chip₁ bst₁ : List ℕ) (worn₁ : Bool) (makes : MakesOn p b r pl chip₁ bst₁ worn₁) (chip' blk : List ℕ) (k : ℕ) (ran : Ran p chip₁ chip' (plan_block p b r pl) blk) (some : 0 < k) (most : k ≤ frames p) (upto : UpTo p r (plan_vblock pl) k blk)
    (like : (g : ℕ) → g < frames p → Alike p (frame p ((with_room p (view p b r) pl).body (plan_vblock pl)) g) (frame p blk g)) where
  t₂ : Tables p b
  t₂ = stands_tables p b st

  at_index : r * p.gamma + plan_vblock pl < length b.bt
  at_index = rw t₂.bt_length (index_low p r (plan_vblock pl) region makes.base.ready.mine)

  entry_else_lem : (i : ℕ) → (i ≡ r * p.gamma + plan_vblock pl → ⊥) → bt_entry (mid_board p b r pl bst₁ chip').bt i ≡ bt_entry b.bt i
  unfolding bt_entry mid_board
  entry_else_lem i ne = get_or-set_other b.bt (r * p.gamma + plan_vblock pl) i (plan_block p b r pl) none ne

  entry_here_lem : bt_entry (mid_board p b r pl bst₁ chip').bt (r * p.gamma + plan_vblock pl) ≡ plan_block p b r pl
  unfolding bt_entry mid_board
  entry_here_lem = get_or-set_same b.bt (r * p.gamma + plan_vblock pl) (plan_block p b r pl) none at_index

  mid_effect : Effect p b (mid_board p b r pl bst₁ chip') r (plan_vblock pl) (plan_block p b r pl) (mid_view p b r pl blk)
  unfolding mid_board mid_view
  mid_effect =
      record {
        segs_else = λ c ne. unfold ct_at in makes.room.segs_else c ne;
        segs_here = λ c e. unfold ct_at in makes.room.segs_here c e;
        segs_none = makes.room.segs_none;
        last_else = λ r' ne. refl;
        last_here = unfold view_of in refl;
        entry_else = entry_else_lem;
        entry_here = entry_here_lem;
        taken = makes.room.taken;
        body_else = λ u ne. updated_other _ (plan_vblock pl) blk u ne ∙ makes.room.body_else u ne;
        body_here = ran.here ∙ sym (updated_same _ (plan_vblock pl) blk);
        block_else = λ i h ne x. ran.else (bt_entry b.bt i) (makes.room.own i h ne x) ∙ makes.room.block_else i h ne x;
      }

  mid_change : Change p b (mid_board p b r pl bst₁ chip') (r * p.gamma + plan_vblock pl) (plan_block p b r pl)
  unfolding mid_board bt_at bt_entry bst_at
  mid_change =
      record {
        chip_length = ran.size ∙ makes.room.chip_length;
        ct_length = makes.room.ct_length;
        bt_length = rw length-set t₂.bt_length;
        fst_length = t₂.fst_length;
        bst_length = makes.bst_length;
        wear_length = t₂.wear_length;
        stamps_length = t₂.stamps_length;
        index = index_low p r (plan_vblock pl) region makes.base.ready.mine;
        low = makes.room.low;
        entry_else = entry_else_lem;
        entry_here = entry_here_lem;
        own = makes.room.own;
        was = makes.was;
        kind_here = makes.kind_here;
        kind_old = makes.kind_old;
        worn_out = worn₁;
        block_old = λ ne x. ran.else _ ne ∙ makes.block_old ne x;
        kind_else = makes.kind_else;
        block_else = λ m h ne x. ran.else m ne ∙ makes.block_else m h ne x;
      }

  mid_tables : Tables p (mid_board p b r pl bst₁ chip')
  mid_tables = tables_kept p z b (mid_board p b r pl bst₁ chip') t₂ _ _ mid_change

  mid_marked : (n : ℕ) → n < p.N → bst_at (mid_board p b r pl bst₁ chip').bst n ≡ 2 → bad p (mid_board p b r pl bst₁ chip').chip n ≡ true
  mid_marked n h e = reserved_bad p z b (mid_board p b r pl bst₁ chip') t₂ _ _ mid_change n h (st.marked n h) e

  body_here_lem : (mid_view p b r pl blk).body (plan_vblock pl) ≡ blk
  unfolding mid_view
  body_here_lem = updated_same _ (plan_vblock pl) blk

  body_else_lem : (u : ℕ) → (u ≡ plan_vblock pl → ⊥) → (mid_view p b r pl blk).body u ≡ (with_room p (view p b r) pl).body u
  unfolding mid_view
  body_else_lem u ne = updated_other _ (plan_vblock pl) blk u ne

  mid_alike : (u g : ℕ) → u < p.gamma → g < frames p → Alike p (frame p ((with_room p (view p b r) pl).body u) g) (frame p ((mid_view p b r pl blk).body u) g)
  mid_alike u g h l = go (ℕ_discrete u (plan_vblock pl))
    where
      go : Dec (u ≡ plan_vblock pl) → Alike p (frame p ((with_room p (view p b r) pl).body u) g) (frame p ((mid_view p b r pl blk).body u) g)
      go (yes e) = rw (e, body_here_lem) (like g l)
      go (no e) = equal (ap (λ (y : List ℕ). frame p y g) (body_else_lem u e))

  else_has : (u : ℕ) → (u ≡ plan_vblock pl → ⊥) → assigned (mid_view p b r pl blk) u ≡ true → assigned (with_room p (view p b r) pl) u ≡ true
  unfolding assigned
  else_has u ne a = rw (body_else_lem u ne) at a

  mid_blocks : (u : ℕ) → u < p.gamma → assigned (mid_view p b r pl blk) u ≡ true
      → (0 < filled p ((mid_view p b r pl blk).body u)) × UpTo p r u (filled p ((mid_view p b r pl blk).body u)) ((mid_view p b r pl blk).body u)
  mid_blocks u h a = go (ℕ_discrete u (plan_vblock pl))
    where
      go : Dec (u ≡ plan_vblock pl) → (0 < filled p ((mid_view p b r pl blk).body u)) × UpTo p r u (filled p ((mid_view p b r pl blk).body u)) ((mid_view p b r pl blk).body u)
      go (yes e) = rw (e, body_here_lem, up_to_filled p z r (plan_vblock pl) k blk most upto) (some, upto)
      go (no e) = let w = makes.base.others u h e (else_has u e a) in rw (body_else_lem u e, w.0) (z.some, w.1)

  mid_full : (u : ℕ) → u < p.gamma → assigned (mid_view p b r pl blk) u ≡ true → (u ≡ plan_vblock pl → ⊥) → filled p ((mid_view p b r pl blk).body u) ≡ frames p
  mid_full u h a ne = rw (body_else_lem u ne) (makes.base.others u h ne (else_has u ne a)).0

  mid_segs : (c : ℕ) → (mid_view p b r pl blk).seg_of c ≡ (with_room p (view p b r) pl).seg_of c
  unfolding mid_view
  mid_segs c = refl

  mid_own : view p (mid_board p b r pl bst₁ chip') r ≡ mid_view p b r pl blk
  mid_own = own_view p b (mid_board p b r pl bst₁ chip') r (plan_vblock pl) (plan_block p b r pl) (mid_view p b r pl blk) makes.base.ready.mine region mid_effect

  mid_others : (r' : ℕ) → r' < p.mu → (r' ≡ r → ⊥) → view p (mid_board p b r pl bst₁ chip') r' ≡ view p b r'
  mid_others = others_view p b (mid_board p b r pl bst₁ chip') r (plan_vblock pl) (plan_block p b r pl) (mid_view p b r pl blk) makes.base.ready.mine region mid_effect

  pub mid_steady : Steady p (mid_board p b r pl bst₁ chip')
  mid_steady = settled p z b st r region pl case chip₁ bst₁ worn₁ makes (mid_board p b r pl bst₁ chip') mid_tables mid_marked (mid_view p b r pl blk) mid_own mid_others mid_segs mid_alike mid_blocks mid_full

  pub mid_old : Old p b (mid_board p b r pl bst₁ chip')
  mid_old = settled_old p z b st r region pl case chip₁ bst₁ worn₁ makes (mid_board p b r pl bst₁ chip') mid_tables mid_marked (mid_view p b r pl blk) mid_own mid_others mid_segs mid_alike mid_blocks mid_full

  pub mid_shown : Shown p chip' (mid_board p b r pl bst₁ chip') p.N
  mid_shown = same_shown p z (mid_board p b r pl bst₁ chip') mid_steady chip' (ran.size ∙ makes.room.chip_length) (λ m h. unfold mid_board in refl)
