-- The table of marks: it obeys the rule exactly if it is the table of the board's own marks.
-- Assumes nothing.
use mathlib.Core.Path.{◌≡◌, ap, ◌∙◌}
use mathlib.Core.Bool.{true}
use mathlib.Core.List.{List}
use Prim.Native.Nat.{ℕ, ◌<◌}
use lib.ListN.{get_or, length}
use borrow.Author.Tests.{eq-eqb, eqb-true}
use Rattle.lists.proofs.Tests.{all_at, all_below_intro}
use Rattle.lists.proofs.Lists.{list_at, list_is, list_length}
use Rattle.rules.specs.declared.Params.{Params}
use Rattle.rules.specs.Marks.{Marks, entry_of, marks_of, marks_on, table_of}
use Rattle.rules.specs.Orderly.{marks_rule}
use Rattle.rules.specs.Tables.{Board, marks_length, word_at}

-- ---- a table by its words

pub table_length : (p : Params) (m : Marks) → length (table_of p m) ≡ marks_length p
unfolding table_of
table_length p m = list_length (marks_length p) (entry_of p m)

pub table_word : (p : Params) (m : Marks) (k : ℕ) → k < marks_length p → get_or (table_of p m) k 0 ≡ entry_of p m k
unfolding table_of
table_word p m k h = list_at (marks_length p) (entry_of p m) k 0 h

pub table_is : (p : Params) (m : Marks) (t : List ℕ) → length t ≡ marks_length p → ((k : ℕ) → k < marks_length p → get_or t k 0 ≡ entry_of p m k) → t ≡ table_of p m
unfolding table_of
table_is p m t e h = list_is 0 (marks_length p) (entry_of p m) t e h

-- ---- the rule

pub right : (p : Params) (b : Board) → length b.marks ≡ marks_length p → marks_rule p b ≡ true → b.marks ≡ marks_of p b
unfolding marks_rule word_at
right p b e h = table_is p (marks_on p b) b.marks e (λ k l. eqb-true _ _ (all_at (marks_length p) _ h k l))

pub rule_of : (p : Params) (b : Board) → b.marks ≡ marks_of p b → marks_rule p b ≡ true
unfolding marks_rule word_at
rule_of p b e = all_below_intro (marks_length p) _ (λ k l. eq-eqb _ _ (ap (λ (t : List ℕ). get_or t k 0) e ∙ table_word p (marks_on p b) k l))

pub marks_long_lem : (p : Params) (b : Board) → b.marks ≡ marks_of p b → length b.marks ≡ marks_length p
marks_long_lem p b e = rw e (table_length p (marks_on p b))
