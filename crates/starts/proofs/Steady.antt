-- A board that a chip may show: in order but for FST and the last stamps, which a start rebuilds, with stamps that tell the latest. A board that stands is one; its own chip shows it, no block
-- left over.
-- Assumes nothing.
use mathlib.Core.Path.{◌≡◌, refl, sym, ◌∙◌}
use mathlib.Core.Logic.{◌⊎◌, inl, inr}
use Prim.Native.Nat.{ℕ, ◌*◌, ◌<◌}
use native.Mathlib.Omega.{arith}
use native.Mathlib.Decide.{ℕ_discrete}
use mathlib.Core.Bool.{true, false}
use mathlib.Core.List.{List}
use borrow.Author.Tests.{eq-eqb, le-leb, not-true}
use lib.ListN.{get_or-eq_default, length}
use Rattle.lists.proofs.Tests.{and_left, and_right, never}
use Rattle.rules.specs.declared.Params.{Params}
use Rattle.rules.specs.Parameters.{block_bytes, frames}
use Rattle.rules.specs.Numbers.{vblock_of}
use Rattle.rules.specs.Tables.{Board, bst_at, bt_at, none}
use Rattle.rules.specs.Pages.{block, filled, frame, holds, is_full}
use Rattle.rules.specs.Regions.{View, assigned, sector, view}
use Rattle.rules.specs.Orderly.{block_rule}
use Rattle.rules.specs.Format.{bad}
use Rattle.rules.specs.Start.{is_open, open_once, region_named, vblock_named}
use Rattle.rules.proofs.Admitted.{orderly_region}
use Rattle.rules.proofs.BadBytes.{bytes_bad}
use Rattle.rules.proofs.RegionFacts.{Entry, Neat, Open, UpTo, block_out, neat}
use Rattle.rules.proofs.Sizes.{Sizes, sizes}
use Rattle.rules.proofs.TableFacts.{Tables, tables_in}
use Rattle.rules.proofs.Views.{body_some, named_assigned}
use Rattle.starts.specs.Stands.{Clear, Stands}
use Rattle.starts.specs.Timely.{Timely}
use Rattle.starts.proofs.Shows.{LeftOver, Shows}
use Rattle.starts.proofs.ShowsStarts.{one_passes}

pub record Steady (p : Params) (b : Board) : Type 0 where
  pub tables : Tables p b
  pub marked : (n : ℕ) → n < p.N → bst_at b.bst n ≡ 2 → bad p b.chip n ≡ true
  pub blocks : (r v : ℕ) → r < p.mu → v < p.gamma → assigned (view p b r) v ≡ true
      → (0 < filled p ((view p b r).body v)) × UpTo p r v (filled p ((view p b r).body v)) ((view p b r).body v)
  pub once : (r : ℕ) → r < p.mu → open_once p (view p b r) ≡ true
  pub entries : (r : ℕ) → r < p.mu → (c : ℕ) → c < p.C → ((view p b r).seg_of c ≡ none) ⊎ Entry p (view p b r) c
  pub timely : (r : ℕ) → r < p.mu → Timely p (view p b r)

-- ---- a board that stands

-- every block but one is full
pub one_open : (p : Params) (vw : View) (o : ℕ) → ((u : ℕ) → u < p.gamma → assigned vw u ≡ true → (u ≡ o → ⊥) → filled p (vw.body u) ≡ frames p) → open_once p vw ≡ true
unfolding open_once
one_open p vw o full = le-leb _ _ (one_passes p.gamma (is_open p vw) (λ i j hi hj a b. is_o i hi a ∙ sym (is_o j hj b)))
  where
    is_o : (i : ℕ) → i < p.gamma → is_open p vw i ≡ true → i ≡ o
    is_o i h a = go (ℕ_discrete i o)
      where
        go : Dec (i ≡ o) → i ≡ o
        go (yes e) = e
        go (no e) =
            let f : is_full p (vw.body i) ≡ true = unfold is_full in eq-eqb _ _ (full i h (unfold is_open in and_left (assigned vw i) _ a) e) in
            absurd (never f (not-true _ (unfold is_open in and_right (assigned vw i) a)))

module _ (p : Params) (b : Board) (st : Stands p b) where
  pub stands_tables : Tables p b
  stands_tables = tables_in p b st.lengths st.order

  pub stands_neat : (r : ℕ) → r < p.mu → Neat p r (view p b r)
  stands_neat r h = neat p r (view p b r) (orderly_region p b st.order r h)

  stands_once : (r : ℕ) → r < p.mu → open_once p (view p b r) ≡ true
  stands_once r h = go (stands_neat r h).opened
    where
      go : (((v : ℕ) → v < p.gamma → assigned (view p b r) v ≡ false) × ((view p b r).last_seg ≡ none))
          ⊎ (((v : ℕ) × (v < p.gamma) × (assigned (view p b r) v ≡ true)) × Open p (view p b r)) → open_once p (view p b r) ≡ true
      go (inl w) = one_open p (view p b r) 0 (λ u k a ne. absurd (never a (w.0 u k)))
      go (inr w) = one_open p (view p b r) (vblock_of p (view p b r).last_seg) (λ u k a ne. w.1.full u k ne a)

  pub stands_steady : Steady p b
  stands_steady =
      record {
        tables = stands_tables;
        marked = st.marked;
        blocks = λ r v h k a. (stands_neat r h).blocks v k a;
        once = stands_once;
        entries = λ r h. (stands_neat r h).entries;
        timely = st.timely;
      }

-- ---- what a chip shows, with its copies

-- whole frames of the block that is left over are frames of the virtual block that it names
pub record Shown (p : Params) (chip : List ℕ) (b : Board) (x : ℕ) : Type 0 where
  pub shows : Shows p chip b x
  pub copied : x < p.N → LeftOver p chip b x → (f c : ℕ) → f < frames p → holds p (frame p (block p chip x) f) c ≡ true
      → (g : ℕ) × (g < frames p) × (frame p (block p chip x) f ≡ frame p ((view p b (region_named p (block p chip x))).body (vblock_named p (block p chip x))) g)

-- a chip with the board's blocks shows the board, no block left over
module _ (p : Params) (z : Sizes p) (b : Board) (st : Steady p b) where
  pub steady_rule : (r v : ℕ) → r < p.mu → v < p.gamma → (bt_at p b.bt r v ≡ none → ⊥) → block_rule p r v (block p b.chip (bt_at p b.bt r v)) ≡ true
  steady_rule r v h k ne =
      let e = body_some p z b st.tables r v h k ne in
      rw (← e) (block_out p r v ((view p b r).body v) (st.blocks r v h k (named_assigned p z b st.tables r v h k ne)))

  pub same_shown : (chip : List ℕ) → length chip ≡ p.N * block_bytes p → ((m : ℕ) → m < p.N → block p chip m ≡ block p b.chip m) → Shown p chip b p.N
  same_shown chip size same =
      record {
        shows =
            record {
              size = size;
              else = λ m h ne. same m h;
              free = unfold bst_at in get_or-eq_default b.bst 0 (omega (arith, st.tables.bst_length));
              here = λ h. absurd (omega arith);
              marked = λ n h e. bytes_bad p b.chip chip n (same n h) ∙ st.marked n h e;
              rule = steady_rule;
            };
        copied = λ h. absurd (omega arith);
      }

  pub own_shown : Shown p b.chip b p.N
  own_shown = same_shown b.chip st.tables.chip_length (λ m h. refl)

-- ---- a board that reads as another

-- b' reads as b, and no cluster has more frames left
pub record Old (p : Params) (b b' : Board) : Type 0 where
  pub reads : (c : ℕ) → c < p.C → (j : ℕ) → sector p b' c j ≡ sector p b c j
  pub clear : (c : ℕ) → c < p.C → Clear p b c → Clear p b' c

pub old_refl : (p : Params) (b : Board) → Old p b b
old_refl p b = record { reads = λ c h j. refl; clear = λ c h x. x }

-- a chip shows a steady board that reads as b
pub data ReadsOld (p : Params) (b : Board) (chip : List ℕ) : Type 0 where
  reads_old : (b' : Board) (x : ℕ) → Steady p b' → Shown p chip b' x → Old p b b' → ReadsOld p b chip

-- as b's own chip does
pub untouched : (p : Params) (b : Board) → Stands p b → ReadsOld p b b.chip
untouched p b st = reads_old b p.N (stands_steady p b st) (own_shown p (sizes p st.fine) b (stands_steady p b st)) (old_refl p b)
