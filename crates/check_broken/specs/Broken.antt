-- The first rule of an orderly state that a board breaks, in document 01's order with T-06's and T-07's rules last, and the number of each rule.
-- Assumes nothing.
use Rattle.std.specs.Prelude.{ℕ, ◌-◌, ◌≡◌, Bool, cond, false, true, List, [], ◌∷◌, ltb, get_or, take}
use Rattle.lists.specs.Below.{all_true}
use Rattle.rules.specs.declared.Params.{Params}
use Rattle.rules.specs.Orderly.{rules_of}
use Rattle.rules.specs.Tables.{Board}
use Rattle.check_broken.specs.declared.Rule.{Rule}
use Rattle.check_broken.specs.declared.Rule.TheVariants.{BstValues, BtRange, NamedTwice, UsedIfNamed, FreeErased, UsedBlock, Fst, Ct, Marks, Stamps}

-- the rules in the document's order, 1 to 9, and T-06's and T-07's after them. 5 was the rule of enough blocks: T-12 takes it out, and the others keep their numbers
abbrev pub rule_number : Rule → ℕ
rule_number BstValues = 1
rule_number BtRange = 2
rule_number NamedTwice = 3
rule_number UsedIfNamed = 4
rule_number FreeErased = 6
rule_number UsedBlock = 7
rule_number Fst = 8
rule_number Ct = 9
rule_number Marks = 10
rule_number Stamps = 11

-- the names of the tests of `rules_of`, in its order
unfoldable pub rule_names : List Rule
rule_names = BstValues ∷ BtRange ∷ NamedTwice ∷ UsedIfNamed ∷ FreeErased ∷ UsedBlock ∷ Fst ∷ Ct ∷ Marks ∷ Stamps ∷ []

-- the name of the first test that fails; the last name where the lists end
unfoldable pub first_of : List Bool → List Rule → Rule
first_of [] rs = Stamps
first_of (t ∷ ts) [] = Stamps
first_of (t ∷ ts) (r ∷ rs) = cond t (first_of ts rs) r

-- the first rule that does not hold, of a board whose state is not orderly
unfoldable pub broken_rule : Params → Board → Rule
broken_rule p b = first_of (rules_of p b) rule_names

-- which test of `rules_of` has number k: 1 to 4 are the first four, and 6 is the next
unfoldable pub test_of : ℕ → ℕ
test_of k = cond (ltb k 5) (k - 1) (k - 2)

-- test j fails, and every test before it passes: what `broken_rule_lem` says of the rule that is told
pub record FirstFails (j : ℕ) (ts : List Bool) : Type 0 where
  pub fails : get_or ts j true ≡ false
  pub earlier : all_true (take j ts) ≡ true
