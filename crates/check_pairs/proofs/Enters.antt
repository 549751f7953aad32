-- What a block's head says of its place in the two rows: none where it is not in use or of another region, else one place in the row of its kind.
-- Assumes nothing.
use mathlib.Core.Path.{◌≡◌, refl, sym, ◌∙◌}
use mathlib.Core.Logic.{inl, inr}
use mathlib.Core.Bool.{Bool, true, false, and-false}
use mathlib.Core.List.{List}
use Prim.Native.Nat.{ℕ, ◌+◌, ◌≤◌, ◌<◌}
use native.Mathlib.Omega.{arith}
use lib.Dec.{eqb}
use lib.ListN.{get_or, set}
use borrow.Author.Tests.{eq-eqb, ne_eqb}
use Rattle.lists.specs.Below.{count_below}
use Rattle.lists.proofs.Tests.{never}
use Rattle.rules.specs.declared.Params.{Params}
use Rattle.rules.specs.Pages.{block, is_full}
use Rattle.rules.specs.Tables.{none}
use Rattle.rules.specs.Start.{in_use, names, names_full, names_open, region_named}
use Rattle.rules.proofs.Sizes.{Sizes}
use Rattle.chip_heads.specs.declared.Head.{Head}
use Rattle.chip_heads.specs.Heads.{Names}
use Rattle.check_pairs.specs.Rows.{Entered, Row}
use Rattle.check_pairs.proofs.Pairs.{pairs_fail}
use Rattle.check_pairs.proofs.Rows.{row_placed, row_same}

-- a block that names no virtual block of the region leaves both rows as they are
module _ (p : Params) (z : Sizes p) (chip : List ℕ) (r n : ℕ) (full part : List ℕ) (full-row : Row p (names_full p chip r) n full) (part-row : Row p (names_open p chip r) n part) where
  stays : ((v : ℕ) → names p chip r v n ≡ false) → Entered p chip r n true full part
  stays no_name =
      record {
        full_row = λ t. row_same p z.gamma_high (names_full p chip r) n full full-row (λ v k. unfold names_full in rw (no_name v));
        open_row = λ t. row_same p z.gamma_high (names_open p chip r) n part part-row (λ v k. unfold names_open in rw (no_name v));
        refused = λ f. absurd (never refl f);
      }

  pub stays_unused : in_use p chip n ≡ false → Entered p chip r n true full part
  stays_unused e = stays (λ v. unfold names in rw e)

  pub stays_elsewhere : (region_named p (block p chip n) ≡ r → ⊥) → Entered p chip r n true full part
  stays_elsewhere other = stays (λ v. unfold names in rw (ne_eqb (region_named p (block p chip n)) r other) (and-false (in_use p chip n)))

-- a block in use, by what its head says
module _ (p : Params) (z : Sizes p) (chip : List ℕ) (r n : ℕ) (low : n < p.N) (h : Head) (is : (in_use p chip n ≡ true) × Names p (block p chip n) h) where
  -- ---- which virtual block it names

  names_is : h.region ≡ r → (v : ℕ) → names p chip r v n ≡ eqb h.vblock.0 v
  unfolding names
  names_is mine v = rw (is.0, eq-eqb (region_named p (block p chip n)) r (sym is.1.region_is ∙ mine), ← is.1.vblock_is)

  -- ---- its place in the rows

  module _ (full part : List ℕ) (full-row : Row p (names_full p chip r) n full) (part-row : Row p (names_open p chip r) n part) where
    pub enters_other : (h.region ≡ r → ⊥) → Entered p chip r n true full part
    enters_other other = stays_elsewhere p z chip r n full part full-row part-row (λ q. other (is.1.region_is ∙ q))

    -- it names a virtual block of the region, and takes its place there, if that is free
    module _ (mine : h.region ≡ r) where
      in_row : h.vblock.0 < p.gamma
      in_row = is.1.vblock_low

      full_is_lem : is_full p (block p chip n) ≡ h.full
      full_is_lem = sym is.1.full_is

      names_here : names p chip r h.vblock.0 n ≡ true
      names_here = names_is mine h.vblock.0 ∙ eq-eqb h.vblock.0 h.vblock.0 refl

      names_no : (u : ℕ) → (u ≡ h.vblock.0 → ⊥) → names p chip r u n ≡ false
      names_no u d = names_is mine u ∙ ne_eqb h.vblock.0 u (λ q. d (sym q))

      few : n ≤ none
      few = omega (arith, z.blocks)

      pub enters_full : h.full ≡ true → (ok : Bool) (full' : List ℕ) → ok ≡ eqb (get_or full h.vblock.0 none) none → (ok ≡ true → full' ≡ set full h.vblock.0 n)
          → Entered p chip r n ok full' part
      enters_full f ok full' free put =
          record {
            full_row = placed.0;
            open_row = λ t. row_same p z.gamma_high (names_open p chip r) n part part-row (λ u k. unfold names_open in rw (full_is_lem ∙ f) (and-false (names p chip r u n)));
            refused = λ t. pairs_fail p chip r h.vblock.0 in_row (inl (placed.1 t));
          }
        where
          here : names_full p chip r h.vblock.0 n ≡ true
          here = unfold names_full in rw (names_here, full_is_lem ∙ f)

          others : (u : ℕ) → u < p.gamma → (u ≡ h.vblock.0 → ⊥) → names_full p chip r u n ≡ false
          others u k d = unfold names_full in rw (names_no u d)

          placed : (ok ≡ true → Row p (names_full p chip r) (n + 1) full') × (ok ≡ false → 2 ≤ count_below p.N (names_full p chip r h.vblock.0))
          placed = row_placed p z.gamma_high (names_full p chip r) n few full full-row h.vblock.0 in_row here others p.N low ok full' free put

      pub enters_part : h.full ≡ false → (ok : Bool) (part' : List ℕ) → ok ≡ eqb (get_or part h.vblock.0 none) none → (ok ≡ true → part' ≡ set part h.vblock.0 n)
          → Entered p chip r n ok full part'
      enters_part f ok part' free put =
          record {
            full_row = λ t. row_same p z.gamma_high (names_full p chip r) n full full-row (λ u k. unfold names_full in rw (full_is_lem ∙ f) (and-false (names p chip r u n)));
            open_row = placed.0;
            refused = λ t. pairs_fail p chip r h.vblock.0 in_row (inr (placed.1 t));
          }
        where
          here : names_open p chip r h.vblock.0 n ≡ true
          here = unfold names_open in rw (names_here, full_is_lem ∙ f)

          others : (u : ℕ) → u < p.gamma → (u ≡ h.vblock.0 → ⊥) → names_open p chip r u n ≡ false
          others u k d = unfold names_open in rw (names_no u d)

          placed : (ok ≡ true → Row p (names_open p chip r) (n + 1) part') × (ok ≡ false → 2 ≤ count_below p.N (names_open p chip r h.vblock.0))
          placed = row_placed p z.gamma_high (names_open p chip r) n few part part-row h.vblock.0 in_row here others p.N low ok part' free put
