-- Board T: the rules give the printed session and the ten marked cases. A test that antt computes, and a law that turns it into an equation.
-- Assumes nothing.
use mathlib.Core.Path.{◌≡◌, refl, ap₂}
use Prim.Native.Nat.{ℕ}
use mathlib.Core.Bool.{true, false≢true}
use mathlib.Core.List.{List, [], ◌∷◌}
use Rattle.lists.specs.Parts.{same_list}
use Rattle.lists.proofs.Tests.{and_left, and_right}
use Rattle.lists.proofs.Joins.{same_list→eq}
use Rattle.cases.specs.BoardT.{session_t, output_t, marked_cases, as_said, sixth_spares, sixth_said, begun_cases, begun_said, same_lists}
use Rattle.cases.proofs.Names.{all_board_t}

pub same_lists→eq : (x y : List (List ℕ)) → same_lists x y ≡ true → x ≡ y
unfolding same_lists
same_lists→eq [] [] e = refl
same_lists→eq [] (b ∷ y) e = absurd (false≢true e)
same_lists→eq (a ∷ x) [] e = absurd (false≢true e)
same_lists→eq (a ∷ x) (b ∷ y) e =
    ap₂ {C = List (List ℕ)} (λ h t. h ∷ t) (same_list→eq a b (and_left (same_list a b) (same_lists x y) e)) (same_lists→eq x y (and_right (same_list a b) e))

marked_test : same_lists marked_cases as_said ≡ true
unfolding all_board_t
marked_test = refl

-- (a) to (j)
pub marked_cases_lem : marked_cases ≡ as_said
marked_cases_lem = same_lists→eq marked_cases as_said marked_test

sixth_test : same_lists sixth_spares sixth_said ≡ true
unfolding all_board_t
sixth_test = refl

-- T-07: the spare bytes of the sixth write's frames
pub sixth_spares_lem : sixth_spares ≡ sixth_said
sixth_spares_lem = same_lists→eq sixth_spares sixth_said sixth_test

begun_test : same_lists begun_cases begun_said ≡ true
unfolding all_board_t
begun_test = refl

-- T-07: a board with a frame that is only begun
pub begun_case : begun_cases ≡ begun_said
begun_case = same_lists→eq begun_cases begun_said begun_test

session_test : same_lists session_t output_t ≡ true
unfolding all_board_t
session_test = refl

-- "The whole output"
pub session_as_printed : session_t ≡ output_t
session_as_printed = same_lists→eq session_t output_t session_test
