-- A chain of iterators over the numbers below n: what `all`, `any`, `find` and a count at its end answer, in the words of `lists`.
-- Each law takes the clause of the call that says what ran, and what one call of the closure answers.
-- Assumes nothing.
use mathlib.Core.Path.{ap, refl, sym, ◌∙◌, ◌≡◌}
use mathlib.Core.Bool.{Bool, cond, false, not, true, ◌&&◌, ◌||◌}
use mathlib.Core.List.{List, ◌∷◌}
use Prim.Native.Nat.{suc, zero, ◌+◌, ◌-◌, ◌≤◌, ◌<◌, ℕ}
use native.Mathlib.Omega.{arith}
use lib.ListN.{length}
use borrow.Author.Tests.{not-false}
use denote.Param.Members.{Mut}
use denote.Ref.{Bor}
use Rattle.std.specs.declared.ops.Range.{Range}
use Rattle.std.specs.declared.iter.Filter.{Filter}
use Rattle.std.specs.Fn.{Called, CalledAt}
use Rattle.std.specs.Iterator.{Drains, YieldsThen}
use Rattle.std.specs.Iterator.Adapters.{filter_callee, filter_source, filter_steps}
use Rattle.std.specs.List.{FoldsTo, filter, list_all, list_any, range_with_len}
use Rattle.std.specs.Bool.{⊤}
use Rattle.std.specs.Option.{unwrap_or}
use Rattle.std.specs.Prelude.{MatchOption, None, Option, Some}
use Rattle.std.proofs.iter.Yields.{nat_range_steps}
use Rattle.std.proofs.lemmas.Iterator.{YieldsList-from_range, first_from_Range}
use Rattle.std.proofs.lemmas.Iterator.Consumers.{YieldsList-from_filter, count_from_yields_List}
use Rattle.std.proofs.lemmas.Iterator.Search.{all_from_yields_List, any_from_yields_List}
use Rattle.lists.specs.Below.{all_below, count_below, first_below}
use Rattle.lists.proofs.Tests.{all_below_intro, all_cong, all_split, count_cong}
use Rattle.loops.proofs.Below.{all_start, count_start, first_here, first_later, first_start}

-- ---- tests and counts of the list of n numbers that rise from a on

all_one : (g : ℕ → Bool) → all_below 1 g ≡ g 0
unfolding all_below
all_one g = refl

-- the first number's test, and then the others'
pub all_first : (n : ℕ) (g : ℕ → Bool) → all_below (suc n) g ≡ g 0 && all_below n (λ i. g (1 + i))
all_first n g = let one : suc n ≡ 1 + n = omega arith in rw (one, all_split 1 n g, all_one g)

pub all_from : (a n : ℕ) (f : ℕ → Bool) → list_all f (range_with_len a n) ≡ all_below n (λ i. f (a + i))
all_from a zero f = sym (all_start _)
all_from a (suc n) f = rw (all_first n (λ i. f (a + i)), all_from (a + 1) n f, all_cong n (λ i. f (a + 1 + i)) (λ i. f (a + (1 + i))) (λ i h. ap f (omega arith))) (ap (λ x. f x && all_below n (λ i. f (a + (1 + i)))) (omega arith))

none_of_or : (a b c : Bool) → b ≡ not c → a || b ≡ not (not a && c)
none_of_or true b c e = refl
none_of_or false b c e = e

pub any_from : (a n : ℕ) (f : ℕ → Bool) → list_any f (range_with_len a n) ≡ not (all_below n (λ i. not (f (a + i))))
any_from a zero f = ap not (sym (all_start _))
any_from a (suc n) f =
    none_of_or (f a) _ _ (any_from (a + 1) n f ∙ ap not (all_cong n (λ i. not (f (a + 1 + i))) (λ i. not (f (a + (1 + i)))) (λ i h. ap (λ x. not (f x)) (omega arith))))
    ∙ ap (λ x. not (not (f x) && all_below n (λ i. not (f (a + (1 + i)))))) (omega arith) ∙ ap not (sym (all_first n (λ i. not (f (a + i)))))

pub all_list : (n : ℕ) (f : ℕ → Bool) → list_all f (range_with_len 0 n) ≡ all_below n f
all_list n f = all_from 0 n f ∙ all_cong n (λ i. f (0 + i)) f (λ i h. ap f (omega arith))

pub any_list : (n : ℕ) (f : ℕ → Bool) → list_any f (range_with_len 0 n) ≡ not (all_below n (λ i. not (f i)))
any_list n f = any_from 0 n f ∙ ap not (all_cong n (λ i. not (f (0 + i))) (λ i. not (f i)) (λ i h. ap (λ x. not (f x)) (omega arith)))

pub count_first : (n : ℕ) (g : ℕ → Bool) → count_below (suc n) g ≡ cond (g 0) 1 0 + count_below n (λ i. g (1 + i))
unfolding count_below
count_first zero g = omega arith
count_first (suc n) g = let e : 1 + n ≡ suc n = omega arith in ap (λ k. k + cond (g (suc n)) 1 0) (count_first n g) ∙ rw e (omega arith)

pub length_cond : {A : Type 0} (b : Bool) (x : A) (xs : List A) → length (cond b (x ∷ xs) xs) ≡ cond b 1 0 + length xs
length_cond true x xs = omega arith
length_cond false x xs = omega arith

pub count_from : (a n : ℕ) (f : ℕ → Bool) → length (filter f (range_with_len a n)) ≡ count_below n (λ i. f (a + i))
count_from a zero f = count_start _
count_from a (suc n) f =
    length_cond (f a) a (filter f (range_with_len (a + 1) n))
    ∙ ap (λ k. cond (f a) 1 0 + k) (count_from (a + 1) n f ∙ count_cong n (λ i. f (a + 1 + i)) (λ i. f (a + (1 + i))) (λ i h. ap f (omega arith)))
    ∙ ap (λ x. cond (f x) 1 0 + count_below n (λ i. f (a + (1 + i)))) (omega arith) ∙ sym (count_first n (λ i. f (a + i)))

pub count_list : (n : ℕ) (f : ℕ → Bool) → length (filter f (range_with_len 0 n)) ≡ count_below n f
count_list n f = count_from 0 n f ∙ count_cong n (λ i. f (0 + i)) f (λ i h. ap f (omega arith))

-- ---- what the calls answer

pub all_run : {F : Type 0} {g : Mut F (ℕ × Unit {0}) Bool} (n : ℕ) (test : ℕ → Bool) {s u : Range ℕ} (f : F) (r : Bool) → s ≡ record { start = 0; end = n }
    → (xs : List ℕ) × (o : Option ℕ) × (j : F) × YieldsThen nat_range_steps s xs o u × FoldsTo (λ p x q. Called g p (x, tt) true q) f xs j × MatchOption o (r ≡ true) (λ x. (r ≡ false) × ((h : F) × Called g j (x, tt) false h))
    → ((x : ℕ) (b : Bool) (q : F) → Called g f (x, tt) b q → (q ≡ f) × (b ≡ test x)) → r ≡ all_below n test
all_run n test {s} {u} f r e ran k = all_from_yields_List test u f r ran (YieldsList-from_range 0 n n e (omega arith)) k ∙ all_list n test

pub any_run : {F : Type 0} {g : Mut F (ℕ × Unit {0}) Bool} (n : ℕ) (test : ℕ → Bool) {s u : Range ℕ} (f : F) (r : Bool) → s ≡ record { start = 0; end = n }
    → (xs : List ℕ) × (o : Option ℕ) × (j : F) × YieldsThen nat_range_steps s xs o u × FoldsTo (λ p x q. Called g p (x, tt) false q) f xs j × MatchOption o (r ≡ false) (λ x. (r ≡ true) × ((h : F) × Called g j (x, tt) true h))
    → ((x : ℕ) (b : Bool) (q : F) → Called g f (x, tt) b q → (q ≡ f) × (b ≡ test x)) → r ≡ not (all_below n (λ i. not (test i)))
any_run n test {s} {u} f r e ran k = any_from_yields_List test u f r ran (YieldsList-from_range 0 n n e (omega arith)) k ∙ any_list n test

pub count_run : {F : Type 0} {g : Mut F (Bor ℕ × Unit {0}) Bool} (n : ℕ) (test : ℕ → Bool) {f : F} (s : Filter (Range ℕ) F) (r : ℕ) → filter_source s ≡ record { start = 0; end = n } → filter_callee s ≡ f
    → (xs : List ℕ) × Drains (filter_steps nat_range_steps g) s xs × (r ≡ length xs)
    → ((x : ℕ) (b : Bool) (q : F) → CalledAt g f x b q → (q ≡ f) × (b ≡ test x)) → r ≡ count_below n test
count_run n test {f} s r e a ran k = count_from_yields_List s r ran (YieldsList-from_filter _ test (YieldsList-from_range 0 n n e (omega arith)) a k) ∙ count_list n test

-- the first that passes; `o` where none does
none_first : (o n : ℕ) (f : ℕ → Bool) → ((i : ℕ) → i < n → false ≡ f i) → o ≡ first_below o n f
none_first o zero f h = sym (first_start o f)
none_first o (suc n) f h = let one : suc n ≡ n + 1 = omega arith in rw one (sym (first_later o n f (sym (none_first o n f (λ i l. h i (omega arith)))) (sym (h n (omega arith)))))

pub find_run : {F : Type 0} {g : Mut F (Bor ℕ × Unit {0}) Bool} (o n : ℕ) (test : ℕ → Bool) (s u : Range ℕ) (f : F) (r : Option ℕ) → n ≤ o → s ≡ record { start = 0; end = n }
    → (xs : List ℕ) × (j : F) × YieldsThen nat_range_steps s xs r u × FoldsTo (λ p x q. CalledAt g p x false q) f xs j × MatchOption r ⊤ (λ x. (h : F) × CalledAt g j x true h)
    → ((x : ℕ) (b : Bool) (q : F) → CalledAt g f x b q → (q ≡ f) × (b ≡ test x)) → unwrap_or r o ≡ first_below o n test
find_run o n test s u f r few e ran k =
    go r (first_from_Range s u f r (λ x. true ≡ test x) (λ x. false ≡ test x) ran (λ x q h. (k x true q h).1) (λ x q h. k x false q h))
  where
    low : s.start ≡ 0
    low = ap (λ (t : Range ℕ). t.start) e

    high : s.end ≡ n
    high = ap (λ (t : Range ℕ). t.end) e

    go : (t : Option ℕ) → MatchOption t ((j : ℕ) → s.start ≤ j → j < s.end → false ≡ test j) (λ i. (s.start ≤ i) × (i < s.end) × (true ≡ test i) × ((j : ℕ) → s.start ≤ j → j < i → false ≡ test j)) → unwrap_or t o ≡ first_below o n test
    go None h = none_first o n test (λ i l. h i (omega (arith, low)) (omega (arith, high)))
    go (Some i) h =
        let l : i < n = omega (arith, h.1, high) in
        sym (first_here o n i test few l (sym (none_first o i test (λ j m. h.3 j (omega (arith, low)) m))) (sym h.2))

-- where a search from a on ends, n at the latest: what it passed fails, and what it ended at passes
pub record Stops (a n : ℕ) (test : ℕ → Bool) (i : ℕ) : Type 0 where
  pub low : a ≤ i
  pub high : i ≤ n
  pub passed : (j : ℕ) → a ≤ j → j < i → test j ≡ false
  pub here : i < n → test i ≡ true

pub stop_run : {F : Type 0} {g : Mut F (Bor ℕ × Unit {0}) Bool} (a n : ℕ) (test : ℕ → Bool) (s u : Range ℕ) (f : F) (r : Option ℕ) → a ≤ n → s ≡ record { start = a; end = n }
    → (xs : List ℕ) × (j : F) × YieldsThen nat_range_steps s xs r u × FoldsTo (λ p x q. CalledAt g p x false q) f xs j × MatchOption r ⊤ (λ x. (h : F) × CalledAt g j x true h)
    → ((x : ℕ) (b : Bool) (q : F) → CalledAt g f x b q → (q ≡ f) × (b ≡ test x)) → Stops a n test (unwrap_or r n)
stop_run a n test s u f r few e ran k =
    go r (first_from_Range s u f r (λ x. true ≡ test x) (λ x. false ≡ test x) ran (λ x q h. (k x true q h).1) (λ x q h. k x false q h))
  where
    low : s.start ≡ a
    low = ap (λ (t : Range ℕ). t.start) e

    high : s.end ≡ n
    high = ap (λ (t : Range ℕ). t.end) e

    go : (t : Option ℕ) → MatchOption t ((j : ℕ) → s.start ≤ j → j < s.end → false ≡ test j) (λ i. (s.start ≤ i) × (i < s.end) × (true ≡ test i) × ((j : ℕ) → s.start ≤ j → j < i → false ≡ test j)) → Stops a n test (unwrap_or t n)
    go None h = record { low = few; high = omega arith; passed = λ j l m. sym (h j (omega (arith, l, low)) (omega (arith, m, high))); here = λ m. absurd (omega (arith, m)) }
    go (Some i) h =
        record { low = omega (arith, h.0, low); high = omega (arith, h.1, high); passed = λ j l m. sym (h.3 j (omega (arith, l, low)) m); here = λ m. sym h.2 }

-- a search for the first that fails: those before it pass
pub kept_run : {F : Type 0} {g : Mut F (Bor ℕ × Unit {0}) Bool} (n : ℕ) (test : ℕ → Bool) (s u : Range ℕ) (f : F) (r : Option ℕ) → s ≡ record { start = 0; end = n }
    → (xs : List ℕ) × (j : F) × YieldsThen nat_range_steps s xs r u × FoldsTo (λ p x q. CalledAt g p x false q) f xs j × MatchOption r ⊤ (λ x. (h : F) × CalledAt g j x true h)
    → ((x : ℕ) (b : Bool) (q : F) → CalledAt g f x b q → (q ≡ f) × (b ≡ not (test x))) → all_below (unwrap_or r n) test ≡ true
kept_run n test s u f r e ran k = go (stop_run 0 n (λ i. not (test i)) s u f r (omega arith) e ran k)
  where
    go : Stops 0 n (λ i. not (test i)) (unwrap_or r n) → all_below (unwrap_or r n) test ≡ true
    go t = all_below_intro (unwrap_or r n) test (λ i h. not-false (test i) (t.passed i (omega arith) h))

-- ---- the same of the numbers from a on

pub all_run_from : {F : Type 0} {g : Mut F (ℕ × Unit {0}) Bool} (a b : ℕ) (test : ℕ → Bool) {s u : Range ℕ} (f : F) (r : Bool) → s ≡ record { start = a; end = b }
    → (xs : List ℕ) × (o : Option ℕ) × (j : F) × YieldsThen nat_range_steps s xs o u × FoldsTo (λ p x q. Called g p (x, tt) true q) f xs j × MatchOption o (r ≡ true) (λ x. (r ≡ false) × ((h : F) × Called g j (x, tt) false h))
    → ((x : ℕ) (b : Bool) (q : F) → Called g f (x, tt) b q → (q ≡ f) × (b ≡ test x)) → r ≡ all_below (b - a) (λ i. test (a + i))
all_run_from a b test {s} {u} f r e ran k = all_from_yields_List test u f r ran (YieldsList-from_range a b (b - a) e refl) k ∙ all_from a (b - a) test
