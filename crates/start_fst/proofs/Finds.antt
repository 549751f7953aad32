-- A search through the numbers below n, whose answer is an option: the number that it finds is the first that passes, and below n.
-- Assumes nothing.
use mathlib.Core.Path.{ap, sym, ◌≡◌}
use mathlib.Core.Bool.{Bool, false, true}
use mathlib.Core.List.{List}
use Prim.Native.Nat.{ℕ, ◌≤◌, ◌<◌}
use denote.Param.Members.{Mut}
use denote.Ref.{Bor}
use Rattle.std.specs.declared.ops.Range.{Range}
use Rattle.std.specs.Fn.{CalledAt}
use Rattle.std.specs.Iterator.{YieldsThen}
use Rattle.std.specs.List.{FoldsTo}
use Rattle.std.specs.Bool.{⊤}
use Rattle.std.specs.Option.{unwrap_or}
use Rattle.std.specs.Prelude.{MatchOption, None, Option, Some}
use Rattle.std.proofs.iter.Yields.{nat_range_steps}
use Rattle.std.proofs.lemmas.Iterator.{first_from_Range}
use Rattle.lists.specs.Below.{first_below}
use Rattle.loops.proofs.Ranges.{find_run}

pub find_first : {F : Type 0} {g : Mut F (Bor ℕ × Unit {0}) Bool} (o n : ℕ) (test : ℕ → Bool) (s u : Range ℕ) (f : F) (r : Option ℕ) → n ≤ o → s ≡ record { start = 0; end = n }
    → (xs : List ℕ) × (j : F) × YieldsThen nat_range_steps s xs r u × FoldsTo (λ p x q. CalledAt g p x false q) f xs j × MatchOption r ⊤ (λ x. (h : F) × CalledAt g j x true h)
    → ((x : ℕ) (b : Bool) (q : F) → CalledAt g f x b q → (q ≡ f) × (b ≡ test x)) → MatchOption r (first_below o n test ≡ o) (λ v. (v ≡ first_below o n test) × (v < n))
find_first o n test s u f r few e ran k = go r (find_run o n test s u f r few e ran k) (first_from_Range s u f r (λ x. true ≡ test x) (λ x. false ≡ test x) ran (λ x q h. (k x true q h).1) (λ x q h. k x false q h))
  where
    go : (t : Option ℕ) → unwrap_or t o ≡ first_below o n test
        → MatchOption t ((j : ℕ) → s.start ≤ j → j < s.end → false ≡ test j) (λ i. (s.start ≤ i) × (i < s.end) × (true ≡ test i) × ((j : ℕ) → s.start ≤ j → j < i → false ≡ test j))
        → MatchOption t (first_below o n test ≡ o) (λ v. (v ≡ first_below o n test) × (v < n))
    go None w h = sym w
    go (Some i) w h = (w, rw (← (ap (λ (x : Range ℕ). x.end) e)) h.1)
