-- A victim without valid frames, once it is erased: the free block has nothing yet, so a start finds its virtual block without a block. The board that has it so: its tables are in order, and its
-- views are those of the board before but for that block.
-- Assumes nothing.
use mathlib.Core.Path.{◌≡◌, refl, sym, ap, ◌∙◌}
use mathlib.Core.Logic.{◌⊎◌, inl}
use Prim.Native.Nat.{ℕ, ◌+◌, ◌*◌, ◌≤◌, ◌<◌}
use native.Mathlib.Omega.{arith}
use native.Mathlib.Decide.{ℕ_discrete}
use mathlib.Core.Bool.{Bool, true, false, cond}
use mathlib.Core.List.{List, []}
use lib.Dec.{ltb}
use borrow.Author.Tests.{eq-eqb, lt-ltb, ltb-true, ne_eqb}
use lib.ListN.{length-set, set}
use lib.Seq.{get_or-set_other, get_or-set_same}
use Rattle.lists.specs.Below.{updated}
use Rattle.lists.specs.Parts.{all_are}
use Rattle.lists.proofs.Joins.{updated_other, updated_same}
use Rattle.rules.specs.declared.Params.{Params}
use Rattle.rules.specs.Tables.{Board, bst_at, bt_at, bt_entry, none}
use Rattle.rules.specs.Pages.{block}
use Rattle.rules.specs.Regions.{View, body_at, view, view_of}
use Rattle.rules.specs.Format.{bad}
use Rattle.rules.proofs.BadBytes.{bytes_bad}
use Rattle.rules.proofs.Isolation.{index_inj, index_low, view_path}
use Rattle.rules.proofs.Replays.{Ran}
use Rattle.rules.proofs.Sizes.{Sizes}
use Rattle.rules.proofs.TableFacts.{Tables}
use Rattle.rules.proofs.Views.{block_low_lem}
use Rattle.rules.proofs.WornBlocks.{left_bad, left_block, state_free, state_low, state_reserved}

unfoldable pub vacant_board : Params → Board → ℕ → ℕ → Bool → List ℕ → Board
vacant_board p b r v t chip =
    record {
      chip = chip;
      ct = b.ct;
      bt = set b.bt (r * p.gamma + v) none;
      fst = b.fst;
      bst = set b.bst (bt_at p b.bt r v) (cond t 2 0);
      wear = b.wear;
      marks = b.marks;
      stamps = b.stamps;
    }

unfoldable pub vacant_view : Params → Board → ℕ → ℕ → View
vacant_view p b r v = record { seg_of = (view p b r).seg_of; last_seg = (view p b r).last_seg; body = updated (view p b r).body v [] }

module _ (p : Params) (z : Sizes p) (b : Board) (t : Tables p b) (marked : (n : ℕ) → n < p.N → bst_at b.bst n ≡ 2 → bad p b.chip n ≡ true) (r : ℕ) (region : r < p.mu)
    (v : ℕ) (low : v < p.gamma) (taken : bt_at p b.bt r v ≡ none → ⊥) (w : Bool) (chip' : List ℕ) (ran : Ran p b.chip chip' (bt_at p b.bt r v) (left_block p w)) where
  index : r * p.gamma + v < p.mu * p.gamma
  index = index_low p r v region low

  old_low : bt_at p b.bt r v < p.N
  old_low = block_low_lem p z b t r v region low taken

  entry_else_lem : (i : ℕ) → (i ≡ r * p.gamma + v → ⊥) → bt_entry (vacant_board p b r v w chip').bt i ≡ bt_entry b.bt i
  unfolding bt_entry vacant_board
  entry_else_lem i ne = get_or-set_other b.bt (r * p.gamma + v) i none none ne

  entry_here_lem : bt_entry (vacant_board p b r v w chip').bt (r * p.gamma + v) ≡ none
  unfolding bt_entry vacant_board
  entry_here_lem = get_or-set_same b.bt (r * p.gamma + v) none none (rw t.bt_length index)

  kind_else_lem : (m : ℕ) → (m ≡ bt_at p b.bt r v → ⊥) → bst_at (vacant_board p b r v w chip').bst m ≡ bst_at b.bst m
  unfolding bst_at vacant_board
  kind_else_lem m ne = get_or-set_other b.bst (bt_at p b.bt r v) m (cond w 2 0) 0 ne

  kind_here_lem : bst_at (vacant_board p b r v w chip').bst (bt_at p b.bt r v) ≡ cond w 2 0
  unfolding bst_at vacant_board
  kind_here_lem = get_or-set_same b.bst (bt_at p b.bt r v) (cond w 2 0) 0 (rw t.bst_length old_low)

  old_used : bst_at b.bst (bt_at p b.bt r v) ≡ 1
  old_used = t.used_back (r * p.gamma + v) index (bt_at p b.bt r v) old_low (unfold bt_at in refl)

  -- another entry names another block
  not_old : (i : ℕ) → i < p.mu * p.gamma → (i ≡ r * p.gamma + v → ⊥) → bt_entry b.bt i ≡ bt_at p b.bt r v → ⊥
  unfolding bt_at
  not_old i h ne e = ne (t.once i (r * p.gamma + v) h index e (λ x. taken (sym e ∙ x)))

  -- an entry that names something is another
  is_else : (i : ℕ) → (bt_entry (vacant_board p b r v w chip').bt i ≡ none → ⊥) → i ≡ r * p.gamma + v → ⊥
  is_else i ne e = ne (ap (bt_entry (vacant_board p b r v w chip').bt) e ∙ entry_here_lem)

  pub vacant_tables : Tables p (vacant_board p b r v w chip')
  vacant_tables =
      record {
        chip_length = unfold vacant_board in (ran.size ∙ t.chip_length);
        ct_length = unfold vacant_board in t.ct_length;
        bt_length = unfold vacant_board in (length-set b.bt (r * p.gamma + v) none ∙ t.bt_length);
        fst_length = unfold vacant_board in t.fst_length;
        bst_length = unfold vacant_board in (length-set b.bst (bt_at p b.bt r v) (cond w 2 0) ∙ t.bst_length);
        wear_length = unfold vacant_board in t.wear_length;
        stamps_length = unfold vacant_board in t.stamps_length;
        kinds = λ n h. kinds n h (ℕ_discrete n (bt_at p b.bt r v));
        names = λ i h. names i h (ℕ_discrete i (r * p.gamma + v));
        once = λ i j hi hj e ne.
            let a = is_else i ne in
            let c = is_else j (λ x. ne (e ∙ x)) in
            t.once i j hi hj (sym (entry_else_lem i a) ∙ e ∙ entry_else_lem j c) (λ x. ne (entry_else_lem i a ∙ x));
        used = λ n h e. used n h e (ℕ_discrete n (bt_at p b.bt r v));
        used_back = λ i hi n h e.
            let a = is_else i (λ x. omega (arith, x, e, h, z.blocks)) in
            let was : bt_entry b.bt i ≡ n = sym (entry_else_lem i a) ∙ e in
            kind_else_lem n (λ x. not_old i hi a (was ∙ x)) ∙ t.used_back i hi n h was;
        free = λ n h e. free n h e (ℕ_discrete n (bt_at p b.bt r v));
      }
    where
      kinds : (n : ℕ) → n < p.N → Dec (n ≡ bt_at p b.bt r v) → bst_at (vacant_board p b r v w chip').bst n ≤ 2
      kinds n h (yes e) = rw (e, kind_here_lem) (state_low w).0
      kinds n h (no e) = rw (kind_else_lem n e) (t.kinds n h)

      names : (i : ℕ) → i < p.mu * p.gamma → Dec (i ≡ r * p.gamma + v) → (bt_entry (vacant_board p b r v w chip').bt i ≡ none) ⊎ (bt_entry (vacant_board p b r v w chip').bt i < p.N)
      names i h (yes e) = inl (ap (bt_entry (vacant_board p b r v w chip').bt) e ∙ entry_here_lem)
      names i h (no e) = rw (entry_else_lem i e) (t.names i h)

      used : (n : ℕ) → n < p.N → bst_at (vacant_board p b r v w chip').bst n ≡ 1 → Dec (n ≡ bt_at p b.bt r v) → (i : ℕ) × (i < p.mu * p.gamma) × (bt_entry (vacant_board p b r v w chip').bt i ≡ n)
      used n h e (yes x) = absurd ((state_low w).1 (sym kind_here_lem ∙ ap (bst_at (vacant_board p b r v w chip').bst) (sym x) ∙ e))
      used n h e (no x) =
          let u = t.used n h (sym (kind_else_lem n x) ∙ e) in
          let other : u.0 ≡ r * p.gamma + v → ⊥ = λ y. x (sym u.2 ∙ ap (bt_entry b.bt) y ∙ unfold bt_at in refl) in
          (u.0, u.1, entry_else_lem u.0 other ∙ u.2)

      free : (n : ℕ) → n < p.N → bst_at (vacant_board p b r v w chip').bst n ≡ 0 → Dec (n ≡ bt_at p b.bt r v) → all_are 255 (block p (vacant_board p b r v w chip').chip n) ≡ true
      free n h e (yes x) = unfold vacant_board in rw (x, ran.here) (state_free p w (sym kind_here_lem ∙ ap (bst_at (vacant_board p b r v w chip').bst) (sym x) ∙ e))
      free n h e (no x) = unfold vacant_board in rw (ran.else n x) (t.free n h (sym (kind_else_lem n x) ∙ e))

  pub vacant_marked : (n : ℕ) → n < p.N → bst_at (vacant_board p b r v w chip').bst n ≡ 2 → bad p (vacant_board p b r v w chip').chip n ≡ true
  vacant_marked n h e = go (ℕ_discrete n (bt_at p b.bt r v))
    where
      go : Dec (n ≡ bt_at p b.bt r v) → bad p (vacant_board p b r v w chip').chip n ≡ true
      go (yes x) = unfold vacant_board in rw x (left_bad p z chip' (bt_at p b.bt r v) w ran.here ∙ state_reserved w (sym kind_here_lem ∙ ap (bst_at (vacant_board p b r v w chip').bst) (sym x) ∙ e))
      go (no x) = unfold vacant_board in (bytes_bad p b.chip chip' n (ran.else n x) ∙ marked n h (sym (kind_else_lem n x) ∙ e))

  slot : (r' u : ℕ) → r' < p.mu → u < p.gamma → (r' * p.gamma + u ≡ r * p.gamma + v → ⊥) → body_at p chip' (bt_at p (vacant_board p b r v w chip').bt r' u) ≡ body_at p b.chip (bt_at p b.bt r' u)
  unfolding bt_at
  slot r' u h k ne = rw (entry_else_lem (r' * p.gamma + u) ne) (go (ℕ_discrete (bt_entry b.bt (r' * p.gamma + u)) none))
    where
      go : Dec (bt_entry b.bt (r' * p.gamma + u) ≡ none) → body_at p chip' (bt_entry b.bt (r' * p.gamma + u)) ≡ body_at p b.chip (bt_entry b.bt (r' * p.gamma + u))
      go (yes e) = unfold body_at in rw (eq-eqb (bt_entry b.bt (r' * p.gamma + u)) none e)
      go (no e) = unfold body_at in rw (ne_eqb (bt_entry b.bt (r' * p.gamma + u)) none e) (ran.else (bt_entry b.bt (r' * p.gamma + u)) (not_old (r' * p.gamma + u) (index_low p r' u h k) ne))

  body_same : (r' u : ℕ) → r' < p.mu → (u < p.gamma → r' * p.gamma + u ≡ r * p.gamma + v → ⊥) → (view p (vacant_board p b r v w chip') r').body u ≡ (view p b r').body u
  unfolding view_of vacant_board
  body_same r' u h ne = go (ltb u p.gamma) refl
    where
      go : (y : Bool) → ltb u p.gamma ≡ y → cond y (body_at p (vacant_board p b r v w chip').chip (bt_at p (vacant_board p b r v w chip').bt r' u)) [] ≡ cond y (body_at p b.chip (bt_at p b.bt r' u)) []
      go false e = refl
      go true e = let k = ltb-true u p.gamma e in slot r' u h k (ne k)

  pub vacant_others : (r' : ℕ) → r' < p.mu → (r' ≡ r → ⊥) → view p (vacant_board p b r v w chip') r' ≡ view p b r'
  vacant_others r' h ne =
      view_path (λ c. unfold view_of vacant_board in refl) (unfold view_of vacant_board in refl) (λ u. body_same r' u h (λ k e. ne (index_inj p.gamma r' u r v k low e)))

  pub vacant_own : view p (vacant_board p b r v w chip') r ≡ vacant_view p b r v
  vacant_own = view_path (λ c. unfold view_of vacant_board vacant_view in refl) (unfold view_of vacant_board vacant_view in refl) (λ u. go u (ℕ_discrete u v))
    where
      here : (view p (vacant_board p b r v w chip') r).body v ≡ []
      here = unfold view_of body_at bt_at in rw (lt-ltb v p.gamma low, entry_here_lem)

      go : (u : ℕ) → Dec (u ≡ v) → (view p (vacant_board p b r v w chip') r).body u ≡ (vacant_view p b r v).body u
      go u (yes e) = rw e (here ∙ sym (unfold vacant_view in updated_same _ v []))
      go u (no e) = body_same r u region (λ k x. e (omega arith)) ∙ sym (unfold vacant_view in updated_other _ v [] u e)
