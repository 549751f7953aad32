-- The rule that is told fails, and every rule before it holds: each name's number gives its test.
-- Assumes nothing.
use mathlib.Core.Path.{refl, sym, ◌∙◌, ◌≡◌}
use mathlib.Core.Bool.{Bool, false, false≢true, not, true}
use mathlib.Core.List.{List, [], ◌∷◌}
use Prim.Native.Nat.{◌<◌, suc, zero, ℕ}
use native.Mathlib.Omega.{arith}
use lib.ListN.{get_or, length}
use borrow.Author.Tests.{not-false, not-true}
use Rattle.lists.specs.Below.{all_true}
use Rattle.rules.specs.declared.Params.{Params}
use Rattle.rules.specs.Orderly.{marks_rule, orderly, rules_of}
use Rattle.rules.specs.Tables.{Board}
use Rattle.rules.proofs.TableFacts.{eight_rules}
use Rattle.check_board.specs.Order.{nine_rules}
use Rattle.check_board.proofs.Counted.{nine_is}
use Rattle.check_broken.specs.declared.Rule.{Rule}
use Rattle.check_broken.specs.declared.Rule.TheVariants.{Stamps}
use Rattle.check_broken.specs.Broken.{FirstFails, broken_rule, first_of, rule_names, rule_number, test_of}

-- the first test that fails, of as many tests as names: its name is told
first_fails : (ts : List Bool) (rs : List Rule) → length ts ≡ length rs → all_true ts ≡ false
    → (j : ℕ) × (j < length rs) × (first_of ts rs ≡ get_or rs j Stamps) × FirstFails j ts
unfolding all_true first_of
first_fails [] rs l e = absurd (false≢true (sym e))
first_fails (t ∷ ts) [] l e = absurd (omega arith)
first_fails (false ∷ ts) (r ∷ rs) l e = (0, omega arith, refl, record { fails = refl; earlier = refl })
first_fails (true ∷ ts) (r ∷ rs) l e =
    let w = first_fails ts rs (omega arith) e in
    (suc w.0, omega (arith, w.1), w.2, record { fails = w.3.fails; earlier = w.3.earlier })

-- each name's number gives its test
numbered : (j : ℕ) → j < 10 → test_of (rule_number (get_or rule_names j Stamps)) ≡ j
unfolding test_of rule_names
numbered zero h = refl
numbered (suc zero) h = refl
numbered (suc (suc zero)) h = refl
numbered (suc (suc (suc zero))) h = refl
numbered (suc (suc (suc (suc zero)))) h = refl
numbered (suc (suc (suc (suc (suc zero))))) h = refl
numbered (suc (suc (suc (suc (suc (suc zero)))))) h = refl
numbered (suc (suc (suc (suc (suc (suc (suc zero))))))) h = refl
numbered (suc (suc (suc (suc (suc (suc (suc (suc zero)))))))) h = refl
numbered (suc (suc (suc (suc (suc (suc (suc (suc (suc zero))))))))) h = refl
numbered (suc (suc (suc (suc (suc (suc (suc (suc (suc (suc j)))))))))) h = absurd (omega arith)

as_many : (p : Params) (b : Board) → length (rules_of p b) ≡ length rule_names
unfolding rules_of rule_names
as_many p b = refl

ten : length rule_names ≡ 10
unfolding rule_names
ten = refl

-- of a state that is not orderly, the rule told fails and every rule before it holds
pub broken_rule_lem : (p : Params) (b : Board) → orderly p b ≡ false → FirstFails (test_of (rule_number (broken_rule p b))) (rules_of p b)
unfolding orderly broken_rule
broken_rule_lem p b e =
    let w = first_fails (rules_of p b) rule_names (as_many p b) e in
    rw (w.2, numbered w.0 (omega (arith, w.1, ten))) w.3

-- a test that passes is left behind
pub skip : (ts : List Bool) (rs : List Rule) (ok t : Bool) (r told : Rule) → ok ≡ t → not ok ≡ false → told ≡ first_of ts rs → told ≡ first_of (t ∷ ts) (r ∷ rs)
unfolding first_of
skip ts rs ok t r told e k h = rw (← e, not-false ok k) h

-- one that fails is told
pub here : (ts : List Bool) (rs : List Rule) (ok t : Bool) (r : Rule) → ok ≡ t → not ok ≡ true → r ≡ first_of (t ∷ ts) (r ∷ rs)
unfolding first_of
here ts rs ok t r e k = rw (← e, not-true ok k)

-- and where the stamps' alone is left, it is told without a look
pub end : (t : Bool) → Stamps ≡ first_of (t ∷ []) (Stamps ∷ [])
unfolding first_of
end true = refl
end false = refl

-- where the eight rules before that of the marks hold, a test of the nine is a test of the marks
pub marks_test : (p : Params) (b : Board) (ok : Bool) → ok ≡ nine_rules p b → eight_rules p b ≡ true → ok ≡ marks_rule p b
marks_test p b ok e n = e ∙ nine_is p b ∙ rw n
