-- What the two rows say once every block has taken its place: the block that each virtual block keeps, and whether that is one that is not full.
-- Assumes nothing.
use mathlib.Core.Path.{◌≡◌, refl, ◌∙◌}
use mathlib.Core.Logic.{◌⊎◌, inl, inr}
use mathlib.Core.Bool.{Bool, true, false, not}
use mathlib.Core.List.{List, []}
use Prim.Native.Nat.{ℕ, ◌≤◌, ◌<◌}
use native.Mathlib.Omega.{arith}
use lib.Dec.{eqb, leb, ltb}
use lib.ListN.{get_or, length}
use borrow.Author.Tests.{eq-eqb, le-leb, lt-leb, lt-ltb, ne_eqb, not-true}
use Rattle.lists.specs.Below.{count_below, first_below}
use Rattle.lists.proofs.Parts.{next}
use Rattle.lists.proofs.Searches.{first_spec}
use Rattle.lists.proofs.Tests.{and_right, count_cong, never}
use Rattle.rules.specs.declared.Params.{Params}
use Rattle.rules.specs.Parameters.{block_bytes, chip_bytes}
use Rattle.rules.specs.Tables.{bt_at, none}
use Rattle.rules.specs.Pages.{block, is_full}
use Rattle.rules.specs.Regions.{assigned, body_at, view_of}
use Rattle.rules.specs.Start.{found_view, full_block, is_open, kept_block, names, names_full, names_open, open_once}
use Rattle.rules.proofs.Replays.{block_size}
use Rattle.rules.proofs.Sizes.{Sizes}
use Rattle.rules.proofs.TableFacts.{chip_size}
use Rattle.rules.proofs.Views.{some_bytes}
use Rattle.check_pairs.specs.Rows.{Filled, Kept, Row, kept_of, open_of}

-- the rows have a place for each virtual block
pub rows_long : (p : Params) → Sizes p → (chip : List ℕ) (r : ℕ) (ok : Bool) (full part : List ℕ) → ok ≡ true → Filled p chip r ok full part → (p.gamma ≤ length full) × (p.gamma ≤ length part)
rows_long p z chip r ok full part t f = (rw (f.full_row t).size z.gamma_high, rw (f.open_row t).size z.gamma_high)

module _ (p : Params) (z : Sizes p) (chip : List ℕ) (size : length chip ≡ chip_bytes p) (r : ℕ) where
  -- a block of the chip has bytes
  has_bytes : (n : ℕ) → n < p.N → ltb 0 (length (block p chip n)) ≡ true
  has_bytes n h = lt-ltb 0 (length (block p chip n)) (rw (block_size p chip n (rw (size, chip_size p) (next (block_bytes p) n p.N h))) (some_bytes p z.some z.sectors))

  -- what a search among the blocks finds
  abbrev Search : (ℕ → Bool) → Type 0
  Search f = ((first_below none p.N f ≡ none) × ((i : ℕ) → i < p.N → f i ≡ false)) ⊎ ((first_below none p.N f < p.N) × (f (first_below none p.N f) ≡ true))

  -- the block that is kept: a full one, else one that is not full
  kept_full : (v : ℕ) → eqb (first_below none p.N (names_full p chip r v)) none ≡ false → kept_block p chip r v ≡ first_below none p.N (names_full p chip r v)
  unfolding kept_block full_block
  kept_full v e = rw e

  kept_part : (v : ℕ) → first_below none p.N (names_full p chip r v) ≡ none → kept_block p chip r v ≡ first_below none p.N (names_open p chip r v)
  unfolding kept_block full_block
  kept_part v e = rw e

  -- none, or one of the chip
  kept_block_lem : (v : ℕ) → (kept_block p chip r v ≡ none) ⊎ (kept_block p chip r v < p.N)
  kept_block_lem v = go (first_spec none p.N (names_full p chip r v) z.blocks) (first_spec none p.N (names_open p chip r v) z.blocks)
    where
      go : Search (names_full p chip r v) → Search (names_open p chip r v) → (kept_block p chip r v ≡ none) ⊎ (kept_block p chip r v < p.N)
      go (inr w) x = inr (rw (kept_full v (ne_eqb (first_below none p.N (names_full p chip r v)) none (λ q. omega (arith, w.0, q, z.blocks)))) w.0)
      go (inl w) (inr x) = inr (rw (kept_part v w.0) x.0)
      go (inl w) (inl x) = inl (kept_part v w.0 ∙ x.0)

  -- a block of each kind
  is_full_lem : (v n : ℕ) → names_full p chip r v n ≡ true → is_full p (block p chip n) ≡ true
  unfolding names_full
  is_full_lem v n t = and_right (names p chip r v n) t

  not_full : (v n : ℕ) → names_open p chip r v n ≡ true → is_full p (block p chip n) ≡ false
  unfolding names_open
  not_full v n t = not-true _ (and_right (names p chip r v n) t)

  -- ---- over BT, where it names the blocks that are kept

  module _ (bt : List ℕ) (is : (v : ℕ) → v < p.gamma → bt_at p bt r v ≡ kept_block p chip r v) where
    body_is : (v : ℕ) → v < p.gamma → (found_view p chip bt r).body v ≡ body_at p chip (kept_block p chip r v)
    unfolding found_view view_of
    body_is v h = rw (lt-ltb v p.gamma h, is v h)

    body_none : (v : ℕ) → v < p.gamma → kept_block p chip r v ≡ none → (found_view p chip bt r).body v ≡ []
    unfolding body_at
    body_none v h e = body_is v h ∙ rw (eq-eqb (kept_block p chip r v) none e)

    body_some : (v n : ℕ) → v < p.gamma → kept_block p chip r v ≡ n → n < p.N → (found_view p chip bt r).body v ≡ block p chip n
    unfolding body_at
    body_some v n h e low = body_is v h ∙ rw (e, ne_eqb n none (λ q. omega (arith, low, q, z.blocks)))

    open_some : (v n : ℕ) → v < p.gamma → kept_block p chip r v ≡ n → n < p.N → is_open p (found_view p chip bt r) v ≡ not (is_full p (block p chip n))
    unfolding is_open assigned
    open_some v n h e low = rw (body_some v n h e low, has_bytes n low)

    open_none : (v : ℕ) → v < p.gamma → kept_block p chip r v ≡ none → is_open p (found_view p chip bt r) v ≡ false
    unfolding is_open assigned
    open_none v h e = rw (body_none v h e)

  -- ---- over the rows

  module _ (full part : List ℕ) (full-row : Row p (names_full p chip r) p.N full) (part-row : Row p (names_open p chip r) p.N part) where
    pub kept_is : (v : ℕ) → v < p.gamma → kept_of (get_or full v none) (get_or part v none) ≡ kept_block p chip r v
    unfolding kept_of kept_block full_block
    kept_is v h = rw (full-row.entry v h, part-row.entry v h)

    -- a full block is kept and is not open; else the other is, and it is open
    module _ (bt : List ℕ) (is : (v : ℕ) → v < p.gamma → bt_at p bt r v ≡ kept_block p chip r v) (v : ℕ) (h : v < p.gamma) where
      found_full : first_below none p.N (names_full p chip r v) < p.N → names_full p chip r v (first_below none p.N (names_full p chip r v)) ≡ true
          → open_of (get_or full v none) (get_or part v none) ≡ is_open p (found_view p chip bt r) v
      unfolding open_of
      found_full low t =
          let n = first_below none p.N (names_full p chip r v) in
          let not_none : eqb n none ≡ false = ne_eqb n none (λ q. omega (arith, low, q, z.blocks)) in
          rw (full-row.entry v h, not_none, open_some bt is v n h (kept_full v not_none) low, is_full_lem v n t)

      found_part : first_below none p.N (names_full p chip r v) ≡ none → first_below none p.N (names_open p chip r v) < p.N
          → names_open p chip r v (first_below none p.N (names_open p chip r v)) ≡ true → open_of (get_or full v none) (get_or part v none) ≡ is_open p (found_view p chip bt r) v
      unfolding open_of
      found_part e low t =
          let n = first_below none p.N (names_open p chip r v) in
          let not_none : eqb n none ≡ false = ne_eqb n none (λ q. omega (arith, low, q, z.blocks)) in
          rw (full-row.entry v h, e, part-row.entry v h, not_none, open_some bt is v n h (kept_part v e) low, not_full v n t)

      found_none : first_below none p.N (names_full p chip r v) ≡ none → first_below none p.N (names_open p chip r v) ≡ none
          → open_of (get_or full v none) (get_or part v none) ≡ is_open p (found_view p chip bt r) v
      unfolding open_of
      found_none e k = rw (full-row.entry v h, e, part-row.entry v h, k, open_none bt is v h (kept_part v e ∙ k))

      open_is : open_of (get_or full v none) (get_or part v none) ≡ is_open p (found_view p chip bt r) v
      open_is = go (first_spec none p.N (names_full p chip r v) z.blocks) (first_spec none p.N (names_open p chip r v) z.blocks)
        where
          go : Search (names_full p chip r v) → Search (names_open p chip r v) → open_of (get_or full v none) (get_or part v none) ≡ is_open p (found_view p chip bt r) v
          go (inr w) x = found_full w.0 w.1
          go (inl w) (inr x) = found_part w.0 x.0 x.1
          go (inl w) (inl x) = found_none w.0 x.0

    -- the count that the code makes is that of the rule
    open_count : (k : ℕ) → k ≡ count_below p.gamma (λ v. open_of (get_or full v none) (get_or part v none)) → (bt : List ℕ)
        → ((v : ℕ) → v < p.gamma → bt_at p bt r v ≡ kept_block p chip r v) → open_once p (found_view p chip bt r) ≡ leb k 1
    unfolding open_once
    open_count k e bt is =
        rw (e, count_cong p.gamma (λ v. open_of (get_or full v none) (get_or part v none)) (is_open p (found_view p chip bt r)) (λ v h. open_is bt is v h))

  -- ---- the answer

  pub kept_refused : (ok : Bool) → ok ≡ false → (full part row : List ℕ) → Filled p chip r ok full part → Kept p chip r false row
  kept_refused ok e full part row f =
      record { said = λ bt is. rw (← f.said, e); size = λ t. absurd (never t refl); kept = λ t. absurd (never t refl); blocks = λ t. absurd (never t refl) }

  module _ (ok : Bool) (passed : ok ≡ true) (full part : List ℕ) (f : Filled p chip r ok full part) (k : ℕ) (k-is : k ≡ count_below p.gamma (λ v. open_of (get_or full v none) (get_or part v none))) where
    count_is : (bt : List ℕ) → ((v : ℕ) → v < p.gamma → bt_at p bt r v ≡ kept_block p chip r v) → open_once p (found_view p chip bt r) ≡ leb k 1
    count_is = open_count full part (f.full_row passed) (f.open_row passed) k k-is

    pub kept_two : 1 < k → (row : List ℕ) → Kept p chip r false row
    kept_two two row =
        record {
          said = λ bt is. rw (← f.said, passed, count_is bt is, lt-leb k 1 two);
          size = λ t. absurd (never t refl);
          kept = λ t. absurd (never t refl);
          blocks = λ t. absurd (never t refl);
        }

    pub kept_all : k ≤ 1 → (row : List ℕ) → length row ≡ length full → ((v : ℕ) → v < p.gamma → get_or row v none ≡ kept_of (get_or full v none) (get_or part v none))
        → Kept p chip r true row
    kept_all once row long each =
        record {
          said = λ bt is. rw (← f.said, passed, count_is bt is, le-leb k 1 once);
          size = λ t. long ∙ (f.full_row passed).size;
          kept = λ t v h. here v h;
          blocks = λ t v h. rw (here v h) (kept_block_lem v);
        }
      where
        here : (v : ℕ) → v < p.gamma → get_or row v none ≡ kept_block p chip r v
        here v h = each v h ∙ kept_is full part (f.full_row passed) (f.open_row passed) v h
