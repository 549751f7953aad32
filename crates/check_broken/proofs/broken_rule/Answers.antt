-- `check_broken::broken_rule`: each test that passes is left behind, and the first that fails is told.
-- Assumes nothing.
use mathlib.Core.Path.{sym, ◌∙◌, ◌≡◌}
use mathlib.Core.Bool.{Bool, false, not, true}
use mathlib.Core.List.{List, [], ◌∷◌}
use Prim.Native.Nat.{ℕ}
use borrow.Author.Tests.{not-false}
use Rattle.lists.specs.Below.{all_below, all_true}
use Rattle.rules.specs.Numbers.{region_of}
use Rattle.rules.specs.Orderly.{blocks_rule, bt_rule, ct_rule, fst_rule, marks_rule, rules_of, stamp_rule}
use Rattle.rules.specs.Tables.{Board, board_of}
use Rattle.rules.proofs.TableFacts.{eight_rules}
use Rattle.check_rules.specs.Check.{Lent, cluster_ok, fst_ok}
use Rattle.check_broken.specs.declared.Rule.{Rule}
use Rattle.check_broken.specs.declared.Rule.TheVariants.{BstValues, BtRange, Ct, FreeErased, Fst, Marks, NamedTwice, Stamps, UsedBlock, UsedIfNamed}
use Rattle.check_broken.specs.Broken.{broken_rule, first_of, rule_names}
use Rattle.check_broken.specs.Tests.{region_blocks_ok}
use Rattle.check_broken.proofs.Chip.{blocks_same, cts_same, fsts_same}
use Rattle.check_broken.proofs.First.{end, here, marks_test, skip}
use Rattle.check_broken.proofs.broken_rule.Goals as goal
use Rattle.check_broken.proofs.broken_rule.Goals.{Else-not-cts_ok, Start}

abbrev board : Start → List ℕ → Board
board a wear = board_of a.args.chip.now a.args.ct.now a.args.bt.now a.args.fst.now a.args.bst.now wear a.args.marks.now a.args.stamps.now

lent : (a : Start) (ok : Bool) → ok ≡ bt_rule a.args.p a.args.bt.now → not ok ≡ false → Lent a.args.p a.args.chip.now a.args.bt.now
lent a ok e k = record { fine = a.requires.lengths.fine; chip_length = a.requires.lengths.chip_length; bt_length = a.requires.lengths.bt_length; names = sym e ∙ not-false ok k }

used-blocks : (a : Start) (bt ok : Bool) → bt ≡ bt_rule a.args.p a.args.bt.now → not bt ≡ false
    → ok ≡ all_below a.args.p.mu (region_blocks_ok a.args.p a.args.chip.now a.args.bt.now)
    → (wear : List ℕ) → ok ≡ blocks_rule a.args.p (board a wear)
used-blocks a bt ok e k h wear = h ∙ blocks_same a.args.p (board a wear) (lent a bt e k)

fst-entries : (a : Start) (bt used ok : Bool) → bt ≡ bt_rule a.args.p a.args.bt.now → not bt ≡ false
    → used ≡ all_below a.args.p.mu (region_blocks_ok a.args.p a.args.chip.now a.args.bt.now) → not used ≡ false
    → ok ≡ all_below a.args.p.mu (fst_ok a.args.p a.args.chip.now a.args.bt.now a.args.fst.now)
    → (wear : List ℕ) → ok ≡ fst_rule a.args.p (board a wear)
fst-entries a bt used ok e k u l h wear = h ∙ fsts_same a.args.p (board a wear) (lent a bt e k) (sym u ∙ not-false used l)

ct-entries : (a : Start) (bt ok : Bool) → bt ≡ bt_rule a.args.p a.args.bt.now → not bt ≡ false
    → ok ≡ all_below a.args.p.C (λ (c : ℕ). cluster_ok a.args.p a.args.chip.now a.args.ct.now a.args.bt.now (region_of a.args.p c) c)
    → (wear : List ℕ) → ok ≡ ct_rule a.args.p (board a wear)
ct-entries a bt ok e k h wear = h ∙ cts_same a.args.p (board a wear) (lent a bt e k)

passed : (ok t : Bool) → ok ≡ t → not ok ≡ false → t ≡ true
passed ok t e k = sym e ∙ not-false ok k

pub returns-then-not-bst_ok : goal.returns-then-not-bst_ok
unfolding broken_rule rules_of rule_names
returns-then-not-bst_ok c =
    λ wear.
    let told : BstValues ≡ broken_rule c.args.p (board (goal.at.returns-then-not-bst_ok c).Start wear) =
    here _ _ _ _ _ c.bst_ok.ensures c.if-not-bst_ok.true-raw in
    told

pub returns-then-not-bt_ok : goal.returns-then-not-bt_ok
unfolding broken_rule rules_of rule_names
returns-then-not-bt_ok c =
    λ wear.
    let told : BtRange ≡ broken_rule c.args.p (board (goal.at.returns-then-not-bt_ok c).Start wear) =
    skip _ _ _ _ _ _ c.bst_ok.ensures c.if-not-bst_ok.false-raw
    (here _ _ _ _ _ c.bt_ok.ensures c.if-not-bt_ok.true-raw) in
    told

pub returns-then-not-once_ok : goal.returns-then-not-once_ok
unfolding broken_rule rules_of rule_names
returns-then-not-once_ok c =
    λ wear.
    let told : NamedTwice ≡ broken_rule c.args.p (board (goal.at.returns-then-not-once_ok c).Start wear) =
    skip _ _ _ _ _ _ c.bst_ok.ensures c.if-not-bst_ok.false-raw
    (skip _ _ _ _ _ _ c.bt_ok.ensures c.if-not-bt_ok.false-raw
    (here _ _ _ _ _ c.once_ok.ensures c.if-not-once_ok.true-raw)) in
    told

pub returns-then-not-used_ok : goal.returns-then-not-used_ok
unfolding broken_rule rules_of rule_names
returns-then-not-used_ok c =
    λ wear.
    let told : UsedIfNamed ≡ broken_rule c.args.p (board (goal.at.returns-then-not-used_ok c).Start wear) =
    skip _ _ _ _ _ _ c.bst_ok.ensures c.if-not-bst_ok.false-raw
    (skip _ _ _ _ _ _ c.bt_ok.ensures c.if-not-bt_ok.false-raw
    (skip _ _ _ _ _ _ c.once_ok.ensures c.if-not-once_ok.false-raw
    (here _ _ _ _ _ c.used_ok.ensures c.if-not-used_ok.true-raw))) in
    told

pub returns-then-not-frees_ok : goal.returns-then-not-frees_ok
unfolding broken_rule rules_of rule_names
returns-then-not-frees_ok c =
    λ wear.
    let told : FreeErased ≡ broken_rule c.args.p (board (goal.at.returns-then-not-frees_ok c).Start wear) =
    skip _ _ _ _ _ _ c.bst_ok.ensures c.if-not-bst_ok.false-raw
    (skip _ _ _ _ _ _ c.bt_ok.ensures c.if-not-bt_ok.false-raw
    (skip _ _ _ _ _ _ c.once_ok.ensures c.if-not-once_ok.false-raw
    (skip _ _ _ _ _ _ c.used_ok.ensures c.if-not-used_ok.false-raw
    (here _ _ _ _ _ c.frees_ok.ensures c.if-not-frees_ok.true-raw)))) in
    told

pub blocks_ok-requires : goal.blocks_ok-requires
blocks_ok-requires c = lent (goal.at.blocks_ok-requires c).Start c.bt_ok.result c.bt_ok.ensures c.if-not-bt_ok.false-raw

pub returns-then-not-blocks_ok : goal.returns-then-not-blocks_ok
unfolding broken_rule rules_of rule_names
returns-then-not-blocks_ok c =
    λ wear.
    let told : UsedBlock ≡ broken_rule c.args.p (board (goal.at.returns-then-not-blocks_ok c).Start wear) =
    skip _ _ _ _ _ _ c.bst_ok.ensures c.if-not-bst_ok.false-raw
    (skip _ _ _ _ _ _ c.bt_ok.ensures c.if-not-bt_ok.false-raw
    (skip _ _ _ _ _ _ c.once_ok.ensures c.if-not-once_ok.false-raw
    (skip _ _ _ _ _ _ c.used_ok.ensures c.if-not-used_ok.false-raw
    (skip _ _ _ _ _ _ c.frees_ok.ensures c.if-not-frees_ok.false-raw
    (here _ _ _ _ _ (used-blocks (goal.at.returns-then-not-blocks_ok c).Start _ _ c.bt_ok.ensures c.if-not-bt_ok.false-raw c.blocks_ok.ensures wear) c.if-not-blocks_ok.true-raw))))) in
    told

pub fsts_ok-requires : goal.fsts_ok-requires
fsts_ok-requires c =
    record {
      lent = lent (goal.at.fsts_ok-requires c).Start c.bt_ok.result c.bt_ok.ensures c.if-not-bt_ok.false-raw;
      fst_len = c.requires.lengths.fst_length;
    }

pub returns-then-not-fsts_ok : goal.returns-then-not-fsts_ok
unfolding broken_rule rules_of rule_names
returns-then-not-fsts_ok c =
    λ wear.
    let told : Fst ≡ broken_rule c.args.p (board (goal.at.returns-then-not-fsts_ok c).Start wear) =
    skip _ _ _ _ _ _ c.bst_ok.ensures c.if-not-bst_ok.false-raw
    (skip _ _ _ _ _ _ c.bt_ok.ensures c.if-not-bt_ok.false-raw
    (skip _ _ _ _ _ _ c.once_ok.ensures c.if-not-once_ok.false-raw
    (skip _ _ _ _ _ _ c.used_ok.ensures c.if-not-used_ok.false-raw
    (skip _ _ _ _ _ _ c.frees_ok.ensures c.if-not-frees_ok.false-raw
    (skip _ _ _ _ _ _ (used-blocks (goal.at.returns-then-not-fsts_ok c).Start _ _ c.bt_ok.ensures c.if-not-bt_ok.false-raw c.blocks_ok.ensures wear) c.if-not-blocks_ok.false-raw
    (here _ _ _ _ _ (fst-entries (goal.at.returns-then-not-fsts_ok c).Start _ _ _ c.bt_ok.ensures c.if-not-bt_ok.false-raw c.blocks_ok.ensures c.if-not-blocks_ok.false-raw
    c.fsts_ok.ensures wear) c.if-not-fsts_ok.true-raw)))))) in
    told

pub cts_ok-requires : goal.cts_ok-requires
cts_ok-requires c =
    record {
      lent = lent (goal.at.cts_ok-requires c).Start c.bt_ok.result c.bt_ok.ensures c.if-not-bt_ok.false-raw;
      ct_len = c.requires.lengths.ct_length;
    }

pub returns-then-not-cts_ok : goal.returns-then-not-cts_ok
unfolding broken_rule rules_of rule_names
returns-then-not-cts_ok c =
    λ wear.
    let told : Ct ≡ broken_rule c.args.p (board (goal.at.returns-then-not-cts_ok c).Start wear) =
    skip _ _ _ _ _ _ c.bst_ok.ensures c.if-not-bst_ok.false-raw
    (skip _ _ _ _ _ _ c.bt_ok.ensures c.if-not-bt_ok.false-raw
    (skip _ _ _ _ _ _ c.once_ok.ensures c.if-not-once_ok.false-raw
    (skip _ _ _ _ _ _ c.used_ok.ensures c.if-not-used_ok.false-raw
    (skip _ _ _ _ _ _ c.frees_ok.ensures c.if-not-frees_ok.false-raw
    (skip _ _ _ _ _ _ (used-blocks (goal.at.returns-then-not-cts_ok c).Start _ _ c.bt_ok.ensures c.if-not-bt_ok.false-raw c.blocks_ok.ensures wear) c.if-not-blocks_ok.false-raw
    (skip _ _ _ _ _ _ (fst-entries (goal.at.returns-then-not-cts_ok c).Start _ _ _ c.bt_ok.ensures c.if-not-bt_ok.false-raw c.blocks_ok.ensures c.if-not-blocks_ok.false-raw c.fsts_ok.ensures
    wear) c.if-not-fsts_ok.false-raw
    (here _ _ _ _ _ (ct-entries (goal.at.returns-then-not-cts_ok c).Start _ _ c.bt_ok.ensures c.if-not-bt_ok.false-raw c.cts_ok.ensures wear) c.if-not-cts_ok.true-raw))))))) in
    told

module _ (c : Else-not-cts_ok) where
  abbrev a : Start
  a = c.before.before.before.before.before.before.before.before.before.before.before.before.before.before.before.before.before.before.before.before.before.before.before.before

  used : (wear : List ℕ) → c.blocks_ok.result ≡ blocks_rule c.args.p (board a wear)
  used = used-blocks a _ _ c.bt_ok.ensures c.if-not-bt_ok.false-raw c.blocks_ok.ensures

  fsts : (wear : List ℕ) → c.fsts_ok.result ≡ fst_rule c.args.p (board a wear)
  fsts =
      fst-entries a _ _ _ c.bt_ok.ensures c.if-not-bt_ok.false-raw c.blocks_ok.ensures c.if-not-blocks_ok.false-raw
      c.fsts_ok.ensures

  cts : (wear : List ℕ) → c.cts_ok.result ≡ ct_rule c.args.p (board a wear)
  cts = ct-entries a _ _ c.bt_ok.ensures c.if-not-bt_ok.false-raw c.cts_ok.ensures

  eight : (wear : List ℕ) → eight_rules c.args.p (board a wear) ≡ true
  unfolding eight_rules rules_of all_true
  eight wear =
      rw (
        passed _ _ c.bst_ok.ensures c.if-not-bst_ok.false-raw,
        passed _ _ c.bt_ok.ensures c.if-not-bt_ok.false-raw,
        passed _ _ c.once_ok.ensures c.if-not-once_ok.false-raw,
        passed _ _ c.used_ok.ensures c.if-not-used_ok.false-raw,
        passed _ _ c.frees_ok.ensures c.if-not-frees_ok.false-raw,
        passed _ _ (used wear) c.if-not-blocks_ok.false-raw,
        passed _ _ (fsts wear) c.if-not-fsts_ok.false-raw,
        passed _ _ (cts wear) c.if-not-cts_ok.false-raw,
      )

  past : (wear : List ℕ) (told : Rule)
      → told ≡ first_of (marks_rule c.args.p (board a wear) ∷ stamp_rule c.args.p (board a wear) ∷ []) (Marks ∷ Stamps ∷ [])
      → told ≡ broken_rule c.args.p (board a wear)
  unfolding broken_rule rules_of rule_names
  past wear told h =
      skip _ _ _ _ _ told c.bst_ok.ensures c.if-not-bst_ok.false-raw
      (skip _ _ _ _ _ told c.bt_ok.ensures c.if-not-bt_ok.false-raw
      (skip _ _ _ _ _ told c.once_ok.ensures c.if-not-once_ok.false-raw
      (skip _ _ _ _ _ told c.used_ok.ensures c.if-not-used_ok.false-raw
      (skip _ _ _ _ _ told c.frees_ok.ensures c.if-not-frees_ok.false-raw
      (skip _ _ _ _ _ told (used wear) c.if-not-blocks_ok.false-raw
      (skip _ _ _ _ _ told (fsts wear) c.if-not-fsts_ok.false-raw
      (skip _ _ _ _ _ told (cts wear) c.if-not-cts_ok.false-raw
      h)))))))

pub returns-then-not-in_order_but_stamps : goal.returns-then-not-in_order_but_stamps
returns-then-not-in_order_but_stamps c =
    λ wear.
    let told : Marks ≡ broken_rule c.args.p (board (a (goal.at.returns-then-not-in_order_but_stamps c).Else-not-cts_ok) wear) =
    past (goal.at.returns-then-not-in_order_but_stamps c).Else-not-cts_ok wear Marks (here _ _ _ _ _ (marks_test _ _ _ (c.in_order_but_stamps.ensures wear) (eight (goal.at.returns-then-not-in_order_but_stamps c).Else-not-cts_ok wear)) c.if-not-in_order_but_stamps.true-raw) in
    told

pub returns : goal.returns
returns c =
    λ wear.
    let told : Stamps ≡ broken_rule c.args.p (board (a (goal.at.returns c).Else-not-cts_ok) wear) =
    past (goal.at.returns c).Else-not-cts_ok wear Stamps (skip _ _ _ _ _ _ (marks_test _ _ _ (c.in_order_but_stamps.ensures wear) (eight (goal.at.returns c).Else-not-cts_ok wear)) c.if-not-in_order_but_stamps.false-raw (end _)) in
    told
