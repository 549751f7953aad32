-- The rows that one pass over the blocks fills for a region: of each virtual block, the block of one kind that names it.
-- Assumes nothing.
use Rattle.std.specs.Prelude.{◌≡◌, ◌⊎◌, Bool, ◌&&◌, cond, false, not, true, List, ℕ, ◌+◌, ◌≤◌, ◌<◌, eqb, get_or, length}
use Rattle.lists.specs.Below.{all_below, count_below, first_below}
use Rattle.rules.specs.declared.Params.{Params}
use Rattle.rules.specs.Parameters.{allowed, chip_bytes}
use Rattle.rules.specs.Tables.{bt_at, none}
use Rattle.rules.specs.Start.{found_view, kept_block, names_full, names_open, open_once, pair_rule, sound_rule}

-- a chip whose blocks in use are sound
pub record Asked (p : Params) (chip : List ℕ) : Type 0 where
  pub fine : allowed p ≡ true
  pub size : length chip ≡ chip_bytes p
  pub sounds : sound_rule p chip ≡ true

-- of the first n blocks, the one of its kind for each virtual block, and no two
pub record Row (p : Params) (kind : ℕ → ℕ → Bool) (n : ℕ) (row : List ℕ) : Type 0 where
  pub size : length row ≡ 16
  pub entry : (v : ℕ) → v < p.gamma → get_or row v none ≡ first_below none n (kind v)
  pub once : (v : ℕ) → v < p.gamma → count_below n (kind v) ≤ 1

-- after block n, and after all; where a place was taken the region's pairs are not as they should be
pub record Entered (p : Params) (chip : List ℕ) (r n : ℕ) (ok : Bool) (full part : List ℕ) : Type 0 where
  pub full_row : ok ≡ true → Row p (names_full p chip r) (n + 1) full
  pub open_row : ok ≡ true → Row p (names_open p chip r) (n + 1) part
  pub refused : ok ≡ false → all_below p.gamma (pair_rule p chip r) ≡ false

pub record Filled (p : Params) (chip : List ℕ) (r : ℕ) (ok : Bool) (full part : List ℕ) : Type 0 where
  pub said : ok ≡ all_below p.gamma (pair_rule p chip r)
  pub full_row : ok ≡ true → Row p (names_full p chip r) p.N full
  pub open_row : ok ≡ true → Row p (names_open p chip r) p.N part

-- of a full block and one that is not, none where there is no one: the one that is kept, and whether it is one that is not full
unfoldable pub kept_of : ℕ → ℕ → ℕ
kept_of full part = cond (eqb full none) part full

unfoldable pub open_of : ℕ → ℕ → Bool
open_of full part = eqb full none && not (eqb part none)

-- a region's pairs and its open blocks are as they should be; then the row has the kept blocks, each none or one of the chip
pub record Kept (p : Params) (chip : List ℕ) (r : ℕ) (ok : Bool) (row : List ℕ) : Type 0 where
  pub said : (bt : List ℕ) → ((v : ℕ) → v < p.gamma → bt_at p bt r v ≡ kept_block p chip r v)
      → ok ≡ all_below p.gamma (pair_rule p chip r) && open_once p (found_view p chip bt r)
  pub size : ok ≡ true → length row ≡ 16
  pub kept : ok ≡ true → (v : ℕ) → v < p.gamma → get_or row v none ≡ kept_block p chip r v
  pub blocks : ok ≡ true → (v : ℕ) → v < p.gamma → (get_or row v none ≡ none) ⊎ (get_or row v none < p.N)
