-- Document 02, T-07: "the other tables all ones".
-- Assumes nothing.
use Rattle.std.specs.Prelude.{◌≡◌, List, ℕ, length, replicate}
use Rattle.rules.specs.Tables.{none}

-- what becomes of each table but the wear, of any length
pub record Lost (ct bt fst bst marks stamps ct' bt' fst' bst' marks' stamps' : List ℕ) : Type 0 where
  pub ct_is : ct' ≡ replicate (length ct) none
  pub bt_is : bt' ≡ replicate (length bt) none
  pub fst_is : fst' ≡ replicate (length fst) none
  pub bst_is : bst' ≡ replicate (length bst) 255
  pub marks_is : marks' ≡ replicate (length marks) 18446744073709551615
  pub stamps_is : stamps' ≡ replicate (length stamps) 4294967295
