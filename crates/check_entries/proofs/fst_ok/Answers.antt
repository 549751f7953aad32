-- `check_entries::fst_ok`: by whether FST names a segment; none of a region without a block is open, and neither is none.
-- Assumes nothing.
use mathlib.Core.Path.{refl, ◌≡◌, ◌∙◌}
use mathlib.Core.Logic.{◌⊎◌, inl, inr}
use mathlib.Core.Bool.{Bool, cond, false, true}
use mathlib.Core.List.{List}
use Prim.Native.Nat.{◌*◌, ℕ}
use native.Mathlib.Omega.{arith}
use lib.Dec.{eqb, ltb}
use borrow.Author.Tests.{le-ltb, ltb-true}
use Rattle.lists.proofs.Tests.{all_at, so}
use Rattle.rules.specs.declared.Params.{Params}
use Rattle.rules.specs.Numbers.{vblock_of}
use Rattle.rules.specs.Tables.{bt_at, none}
use Rattle.rules.proofs.Sizes.{Sizes, sizes}
use Rattle.check_tables.specs.Entries.{empty_at}
use Rattle.check_rules.specs.Check.{fst_ok, open_ok}
use Rattle.check_blocks.proofs.Blocks.{not_none, vblock_low_lem}
use Rattle.check_entries.proofs.fst_ok.Goals as goal

none_open : (p : Params) → Sizes p → (chip bt : List ℕ) (r : ℕ) → open_ok p chip bt r none ≡ false
unfolding open_ok
none_open p z chip bt r = rw (le-ltb none (p.gamma * p.d) (omega (arith, z.few)))

itself : (b : Bool) → b ≡ cond b true false
itself true = refl
itself false = refl

empty_open : (p : Params) → Sizes p → (chip bt : List ℕ) (r sg : ℕ) → empty_at p bt r ≡ true → open_ok p chip bt r sg ≡ false
unfolding open_ok empty_at
empty_open p z chip bt r sg h = go (so (ltb sg (p.gamma * p.d)))
  where
    go : (ltb sg (p.gamma * p.d) ≡ true) ⊎ (ltb sg (p.gamma * p.d) ≡ false) → open_ok p chip bt r sg ≡ false
    go (inr x) = rw x
    go (inl x) = rw (x, all_at p.gamma (λ v. eqb (bt_at p bt r v) none) h (vblock_of p sg) (vblock_low_lem p.gamma p.d sg z.segments (ltb-true _ _ x)))

named_open : (p : Params) → Sizes p → (chip bt : List ℕ) (r sg : ℕ) → (empty_at p bt r ≡ true) ⊎ (empty_at p bt r ≡ false)
    → open_ok p chip bt r sg ≡ cond (empty_at p bt r) false (open_ok p chip bt r sg)
named_open p z chip bt r sg (inl x) = rw (x, empty_open p z chip bt r sg x)
named_open p z chip bt r sg (inr x) = rw x

pub returns-in_default : goal.returns-in_default
unfolding fst_ok
returns-in_default c = rw (c.in_default.ensures, none_open c.args.p (sizes _ c.requires.lent.fine), ← c.empty_at.ensures) (itself c.empty_at.result)

pub returns : goal.returns
unfolding fst_ok
returns c =
    c.open_ok.ensures
    ∙ rw (← c.in-Some.ensures.0, not_none c.in-Some.sg.0 c.in-Some.ensures.1)
    (named_open c.args.p (sizes _ c.requires.lent.fine) c.args.chip.now c.args.bt.now c.args.r c.in-Some.sg.0 (so (empty_at c.args.p c.args.bt.now c.args.r)))
