-- The tables that a start rebuilds from the chip and BT as found.
-- Assumes nothing.
use Rattle.std.specs.Prelude.{◌≡◌, List, ℕ, length}
use Rattle.lists.specs.Below.{list_below}
use Rattle.rules.specs.declared.Params.{Params}
use Rattle.rules.specs.Numbers.{region_of}
use Rattle.rules.specs.Tables.{marks_length}
use Rattle.rules.specs.Regions.{largest_stamp, view_of}
use Rattle.rules.specs.Marks.{marks_in, table_of}
use Rattle.rules.specs.Start.{found_fst, found_segment, found_view}
use Rattle.start_found.specs.Found.{Found}

pub record TablesAsked (p : Params) (chip ct bt fst marks stamps : List ℕ) : Type 0 where
  pub found : Found p chip bt
  pub ct_length : length ct ≡ p.C
  pub fst_length : length fst ≡ p.mu
  pub marks_length : length marks ≡ marks_length p
  pub stamps_length : length stamps ≡ p.mu

pub record Rebuilt (p : Params) (chip bt ct' fst' marks' stamps' : List ℕ) : Type 0 where
  pub ct_is : ct' ≡ list_below p.C (λ c. found_segment p (found_view p chip bt (region_of p c)) c)
  pub fst_is : fst' ≡ list_below p.mu (λ r. found_fst p (found_view p chip bt r))
  pub stamps_is : stamps' ≡ list_below p.mu (λ r. largest_stamp p (found_view p chip bt r))
  pub marks_are : marks' ≡ table_of p (marks_in p (view_of p chip ct' bt fst'))
