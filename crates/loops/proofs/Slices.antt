-- A chain of iterators over the elements of a slice: what `all` and a count at its end answer, in the words of `lists`.
-- Each law takes the clause of the call that says what ran, and what one call of the closure answers; d is any element, said of one past the end.
-- Assumes nothing.
use mathlib.Core.Path.{ap, sym, ◌∙◌, ◌≡◌}
use mathlib.Core.Bool.{Bool, cond, false, true, ◌&&◌}
use mathlib.Core.List.{List, [], ◌∷◌}
use Prim.Native.Nat.{suc, ◌+◌, ℕ}
use native.Mathlib.Omega.{arith}
use lib.ListN.{get_or, length}
use denote.Param.Members.{Mut}
use denote.Ref.{Bor}
use Rattle.std.specs.declared.iter.Filter.{Filter}
use Rattle.std.specs.declared.slice.Iter.{Iter}
use Rattle.std.specs.Fn.{Called, CalledAt}
use Rattle.std.specs.Iterator.{Drains, YieldsThen}
use Rattle.std.specs.Iterator.Adapters.{filter_callee, filter_source, filter_steps}
use Rattle.std.specs.List.{FoldsTo, filter, list_all}
use Rattle.std.specs.Prelude.{MatchOption, Option}
use Rattle.std.specs.Slice.Iter.{iter_rest}
use Rattle.std.proofs.iter.Yields.{fronts}
use Rattle.std.proofs.lemmas.Iterator.{YieldsList-from_slice}
use Rattle.std.proofs.lemmas.Iterator.Consumers.{YieldsList-from_filter, count_from_yields_List}
use Rattle.std.proofs.lemmas.Iterator.Search.{all_from_yields_List}
use Rattle.lists.specs.Below.{all_below, count_below}
use Rattle.lists.proofs.Tests.{all_cong, count_cong}
use Rattle.loops.proofs.Below.{all_start, count_start}
use Rattle.loops.proofs.Ranges.{all_first, count_first, length_cond}

-- ---- tests and counts of a list, by its elements' numbers

-- element i of the rest is element 1 + i of the whole
later : {A : Type 0} (d x : A) (xs : List A) (i : ℕ) → get_or xs i d ≡ get_or (x ∷ xs) (1 + i) d
later d x xs i = ap (λ k. get_or (x ∷ xs) k d) (let one : suc i ≡ 1 + i = omega arith in one)

pub all_slice : {A : Type 0} (d : A) (test : A → Bool) (xs : List A) → list_all test xs ≡ all_below (length xs) (λ i. test (get_or xs i d))
all_slice d test [] = sym (all_start _)
all_slice d test (x ∷ xs) =
    ap (λ b. test x && b) (all_slice d test xs ∙ all_cong (length xs) (λ i. test (get_or xs i d)) (λ i. test (get_or (x ∷ xs) (1 + i) d)) (λ i h. ap test (later d x xs i)))
    ∙ sym (all_first (length xs) (λ i. test (get_or (x ∷ xs) i d)))

pub count_slice : {A : Type 0} (d : A) (test : A → Bool) (xs : List A) → length (filter test xs) ≡ count_below (length xs) (λ i. test (get_or xs i d))
count_slice d test [] = count_start _
count_slice d test (x ∷ xs) =
    length_cond (test x) x (filter test xs)
    ∙ ap (λ k. cond (test x) 1 0 + k) (count_slice d test xs ∙ count_cong (length xs) (λ i. test (get_or xs i d)) (λ i. test (get_or (x ∷ xs) (1 + i) d)) (λ i h. ap test (later d x xs i)))
    ∙ sym (count_first (length xs) (λ i. test (get_or (x ∷ xs) i d)))

-- ---- what the calls answer

pub all_run : {A F : Type 0} {g : Mut F (Bor A × Unit {0}) Bool} (d : A) (l : List A) (test : A → Bool) {s u : Iter A} (f : F) (r : Bool) → iter_rest s ≡ l
    → (xs : List (Bor A)) × (o : Option (Bor A)) × (j : F) × YieldsThen fronts s xs o u × FoldsTo (λ p x q. Called g p (x, tt) true q) f xs j × MatchOption o (r ≡ true) (λ x. (r ≡ false) × ((h : F) × Called g j (x, tt) false h))
    → ((x : Bor A) (b : Bool) (q : F) → Called g f (x, tt) b q → (q ≡ f) × (b ≡ test x.now)) → r ≡ all_below (length l) (λ i. test (get_or l i d))
all_run d l test {s} {u} f r e ran k = all_from_yields_List test u f r ran (YieldsList-from_slice l e) k ∙ all_slice d test l

pub count_run : {A F : Type 0} {g : Mut F (Bor (Bor A) × Unit {0}) Bool} (d : A) (l : List A) (test : A → Bool) {f : F} (s : Filter (Iter A) F) (r : ℕ) → iter_rest (filter_source s) ≡ l → filter_callee s ≡ f
    → (xs : List (Bor A)) × Drains (filter_steps fronts g) s xs × (r ≡ length xs)
    → ((x : Bor A) (b : Bool) (q : F) → CalledAt g f x b q → (q ≡ f) × (b ≡ test x.now)) → r ≡ count_below (length l) (λ i. test (get_or l i d))
count_run d l test {f} s r e a ran k = count_from_yields_List s r ran (YieldsList-from_filter _ test (YieldsList-from_slice l e) a k) ∙ count_slice d test l
