-- A board with a free block erased once more, and marked and reserved where that wears it out: it is steady as before, and reads as before, for no virtual block has that block.
-- Assumes nothing.
use mathlib.Core.Path.{◌≡◌, refl, sym, ap, ◌∙◌}
use mathlib.Core.Logic.{◌⊎◌, inl, inr}
use Prim.Native.Nat.{ℕ, ◌+◌, ◌*◌, ◌≤◌, ◌<◌}
use native.Mathlib.Omega.{arith}
use native.Mathlib.Decide.{ℕ_discrete}
use mathlib.Core.Bool.{Bool, true, false, cond}
use mathlib.Core.List.{List, []}
use lib.Dec.{ltb}
use lib.ListN.{length, length-set, set}
use lib.Seq.{get_or-set_other, get_or-set_same}
use borrow.Author.Tests.{eq-eqb, ltb-true, ne_eqb}
use Rattle.lists.specs.Parts.{all_are}
use Rattle.rules.specs.declared.Params.{Params}
use Rattle.rules.specs.Parameters.{block_bytes}
use Rattle.rules.specs.Numbers.{region_of}
use Rattle.rules.specs.Tables.{Board, bst_at, bt_at, bt_entry, none}
use Rattle.rules.specs.Pages.{block}
use Rattle.rules.specs.Regions.{body_at, sector, view, view_of}
use Rattle.rules.specs.Format.{bad}
use Rattle.rules.proofs.BadBytes.{bytes_bad}
use Rattle.rules.proofs.Isolation.{index_low, view_path}
use Rattle.rules.proofs.Sizes.{Sizes}
use Rattle.rules.proofs.TableFacts.{Tables}
use Rattle.rules.proofs.WornBlocks.{left_bad, left_block, state_free, state_low, state_reserved}
use native.Mathlib.Nat.{mod-lt}
use Rattle.starts.proofs.Steady.{Old, ReadsOld, Steady, reads_old, same_shown}

unfoldable pub retired : Board → ℕ → Bool → List ℕ → Board
retired b x t chip =
    record { chip = chip; ct = b.ct; bt = b.bt; fst = b.fst; bst = set b.bst x (cond t 2 0); wear = b.wear; marks = b.marks; stamps = b.stamps }

module _ (p : Params) (z : Sizes p) (b : Board) (st : Steady p b) (x : ℕ) (low : x < p.N) (is_free : bst_at b.bst x ≡ 0) (t : Bool) (chip : List ℕ)
    (size : length chip ≡ p.N * block_bytes p) (here : block p chip x ≡ left_block p t) (else : (m : ℕ) → m < p.N → (m ≡ x → ⊥) → block p chip m ≡ block p b.chip m) where
  tables : Tables p b
  tables = st.tables

  kind_here_lem : bst_at (retired b x t chip).bst x ≡ cond t 2 0
  unfolding bst_at retired
  kind_here_lem = get_or-set_same b.bst x (cond t 2 0) 0 (rw tables.bst_length low)

  kind_else_lem : (m : ℕ) → (m ≡ x → ⊥) → bst_at (retired b x t chip).bst m ≡ bst_at b.bst m
  unfolding bst_at retired
  kind_else_lem m ne = get_or-set_other b.bst x m (cond t 2 0) 0 ne

  -- BT does not name it
  unnamed : (i : ℕ) → i < p.mu * p.gamma → bt_entry b.bt i ≡ x → ⊥
  unnamed i h e = omega (arith, is_free, tables.used_back i h x low e)

  retired_tables : Tables p (retired b x t chip)
  retired_tables =
      record {
        chip_length = unfold retired in size;
        ct_length = unfold retired in tables.ct_length;
        bt_length = unfold retired in tables.bt_length;
        fst_length = unfold retired in tables.fst_length;
        bst_length = unfold retired in (length-set b.bst x (cond t 2 0) ∙ tables.bst_length);
        wear_length = unfold retired in tables.wear_length;
        stamps_length = unfold retired in tables.stamps_length;
        kinds = λ m h. kinds m h (ℕ_discrete m x);
        names = unfold retired in tables.names;
        once = unfold retired in tables.once;
        used = λ m h e. used m h e (ℕ_discrete m x);
        used_back = λ i hi m h e. kind_else_lem m (λ y. unnamed i hi (unfold retired in e ∙ y)) ∙ tables.used_back i hi m h (unfold retired in e);
        free = λ m h e. free m h e (ℕ_discrete m x);
      }
    where
      kinds : (m : ℕ) → m < p.N → Dec (m ≡ x) → bst_at (retired b x t chip).bst m ≤ 2
      kinds m h (yes e) = rw (e, kind_here_lem) (state_low t).0
      kinds m h (no e) = rw (kind_else_lem m e) (tables.kinds m h)

      used : (m : ℕ) → m < p.N → bst_at (retired b x t chip).bst m ≡ 1 → Dec (m ≡ x) → (i : ℕ) × (i < p.mu * p.gamma) × (bt_entry (retired b x t chip).bt i ≡ m)
      used m h e (yes y) = absurd ((state_low t).1 (sym kind_here_lem ∙ ap (bst_at (retired b x t chip).bst) (sym y) ∙ e))
      used m h e (no y) = unfold retired in tables.used m h (sym (kind_else_lem m y) ∙ e)

      free : (m : ℕ) → m < p.N → bst_at (retired b x t chip).bst m ≡ 0 → Dec (m ≡ x) → all_are 255 (block p (retired b x t chip).chip m) ≡ true
      free m h e (yes y) = unfold retired in rw (y, here) (state_free p t (sym kind_here_lem ∙ ap (bst_at (retired b x t chip).bst) (sym y) ∙ e))
      free m h e (no y) = unfold retired in rw (else m h y) (tables.free m h (sym (kind_else_lem m y) ∙ e))

  retired_marked : (m : ℕ) → m < p.N → bst_at (retired b x t chip).bst m ≡ 2 → bad p (retired b x t chip).chip m ≡ true
  retired_marked m h e = go (ℕ_discrete m x)
    where
      go : Dec (m ≡ x) → bad p (retired b x t chip).chip m ≡ true
      go (yes y) = unfold retired in rw y (left_bad p z chip x t here ∙ state_reserved t (sym kind_here_lem ∙ ap (bst_at (retired b x t chip).bst) (sym y) ∙ e))
      go (no y) = unfold retired in (bytes_bad p b.chip chip m (else m h y) ∙ st.marked m h (sym (kind_else_lem m y) ∙ e))

  -- so every region sees what it saw
  slot : (i : ℕ) → i < p.mu * p.gamma → body_at p chip (bt_entry b.bt i) ≡ body_at p b.chip (bt_entry b.bt i)
  slot i h = go (ℕ_discrete (bt_entry b.bt i) none) (tables.names i h)
    where
      go : Dec (bt_entry b.bt i ≡ none) → (bt_entry b.bt i ≡ none) ⊎ (bt_entry b.bt i < p.N) → body_at p chip (bt_entry b.bt i) ≡ body_at p b.chip (bt_entry b.bt i)
      go (yes e) w = unfold body_at in rw (eq-eqb (bt_entry b.bt i) none e)
      go (no e) (inl w) = absurd (e w)
      go (no e) (inr w) = unfold body_at in rw (ne_eqb (bt_entry b.bt i) none e) (else (bt_entry b.bt i) w (unnamed i h))

  pub retired_view : (r : ℕ) → r < p.mu → view p (retired b x t chip) r ≡ view p b r
  retired_view r h = view_path (λ c. unfold view_of retired in refl) (unfold view_of retired in refl) (λ v. unfold view_of retired in body v (ltb v p.gamma) refl)
    where
      body : (v : ℕ) (y : Bool) → ltb v p.gamma ≡ y → cond y (body_at p chip (bt_at p b.bt r v)) [] ≡ cond y (body_at p b.chip (bt_at p b.bt r v)) []
      body v false e = refl
      body v true e = unfold bt_at in slot (r * p.gamma + v) (index_low p r v h (ltb-true v p.gamma e))

  retired_steady : Steady p (retired b x t chip)
  retired_steady =
      record {
        tables = retired_tables;
        marked = retired_marked;
        blocks = λ r v h. rw (retired_view r h) (st.blocks r v h);
        once = λ r h. rw (retired_view r h) (st.once r h);
        entries = λ r h. rw (retired_view r h) (st.entries r h);
        timely = λ r h. rw (retired_view r h) (st.timely r h);
      }

  -- and the chip shows it
  pub retired_reads : (b₁ : Board) → Old p b₁ b → ReadsOld p b₁ chip
  retired_reads b₁ old =
      reads_old (retired b x t chip) p.N retired_steady (same_shown p z (retired b x t chip) retired_steady chip size (λ m h. unfold retired in refl))
      (record {
        reads = λ c h j. unfold sector in (rw (retired_view (region_of p c) (mod-lt c z.regions)) (unfold sector in old.reads c h j));
        clear = λ c h y. rw (retired_view (region_of p c) (mod-lt c z.regions)) (old.clear c h y);
      })
