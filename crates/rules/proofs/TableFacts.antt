-- The rules of the tables as propositions, and that a write leaves them standing.
-- Assumes nothing.
use mathlib.Core.Path.{◌≡◌, refl, sym, ◌∙◌}
use mathlib.Core.Logic.{◌⊎◌, inl, inr}
use Prim.Native.Nat.{ℕ, ◌*◌, ◌≤◌, ◌<◌}
use native.Mathlib.Omega.{arith}
use native.Mathlib.Decide.{ℕ_discrete}
use mathlib.Core.Bool.{Bool, true, false, not, ◌&&◌, ◌||◌, beq, and_assoc, and-true, false≢true}
use lib.Dec.{eqb, ltb, leb}
use borrow.Author.Tests.{eqb-true, eq-eqb, ne_eqb, lt-ltb, ltb-true, leb-true, le-leb, not-true, not-false}
use lib.ListN.{length, take}
use Rattle.lists.specs.Below.{all_below, all_true}
use Rattle.lists.specs.Parts.{all_are}
use Rattle.lists.proofs.Tests.{all_at, all_below_intro, all_true_lem, and_intro, and_left, never, or_cases, or_right, so, some_fails, truths}
use Rattle.rules.specs.declared.Params.{Params}
use Rattle.rules.specs.Parameters.{pages, frame_bytes, block_bytes, chip_bytes}
use Rattle.rules.specs.Tables.{Board, bst_at, bt_entry, marks_length, none}
use Rattle.rules.specs.Pages.{block}
use Rattle.rules.specs.Marks.{marks_of}
use Rattle.rules.specs.Orderly.{bst_rule, bt_rule, once_rule, named, used_rule, free_rule, blocks_rule, fst_rule, ct_rule, marks_rule, stamp_rule, rules_of, orderly}
use Rattle.rules.specs.Replies.{lengths_fit}
use Rattle.rules.proofs.MarkFacts.{marks_long_lem, right, rule_of}

-- what the tables' lengths and rules give
pub record Tables (p : Params) (b : Board) : Type 0 where
  pub chip_length : length b.chip ≡ p.N * block_bytes p
  pub ct_length : length b.ct ≡ p.C
  pub bt_length : length b.bt ≡ p.mu * p.gamma
  pub fst_length : length b.fst ≡ p.mu
  pub bst_length : length b.bst ≡ p.N
  pub wear_length : length b.wear ≡ p.N
  pub stamps_length : length b.stamps ≡ p.mu
  pub kinds : (n : ℕ) → n < p.N → bst_at b.bst n ≤ 2
  pub names : (i : ℕ) → i < p.mu * p.gamma → (bt_entry b.bt i ≡ none) ⊎ (bt_entry b.bt i < p.N)
  pub once : (i j : ℕ) → i < p.mu * p.gamma → j < p.mu * p.gamma → bt_entry b.bt i ≡ bt_entry b.bt j → (bt_entry b.bt i ≡ none → ⊥) → i ≡ j
  pub used : (n : ℕ) → n < p.N → bst_at b.bst n ≡ 1 → (i : ℕ) × (i < p.mu * p.gamma) × (bt_entry b.bt i ≡ n)
  pub used_back : (i : ℕ) → i < p.mu * p.gamma → (n : ℕ) → n < p.N → bt_entry b.bt i ≡ n → bst_at b.bst n ≡ 1
  pub free : (n : ℕ) → n < p.N → bst_at b.bst n ≡ 0 → all_are 255 (block p b.chip n) ≡ true

-- ---- the rules, one by one

names_in : (p : Params) (b : Board) → bt_rule p b.bt ≡ true → (i : ℕ) → i < p.mu * p.gamma → (bt_entry b.bt i ≡ none) ⊎ (bt_entry b.bt i < p.N)
unfolding bt_rule
names_in p b h i k = go (or_cases (eqb (bt_entry b.bt i) none) (all_at (p.mu * p.gamma) (λ i. eqb (bt_entry b.bt i) none || ltb (bt_entry b.bt i) p.N) h i k))
  where
    go : (eqb (bt_entry b.bt i) none ≡ true) ⊎ (ltb (bt_entry b.bt i) p.N ≡ true) → (bt_entry b.bt i ≡ none) ⊎ (bt_entry b.bt i < p.N)
    go (inl e) = inl (eqb-true _ _ e)
    go (inr e) = inr (ltb-true _ _ e)

names_out : (p : Params) (b : Board) → ((i : ℕ) → i < p.mu * p.gamma → (bt_entry b.bt i ≡ none) ⊎ (bt_entry b.bt i < p.N)) → bt_rule p b.bt ≡ true
unfolding bt_rule
names_out p b h = all_below_intro (p.mu * p.gamma) _ (λ i k. go i (h i k))
  where
    go : (i : ℕ) → (bt_entry b.bt i ≡ none) ⊎ (bt_entry b.bt i < p.N) → eqb (bt_entry b.bt i) none || ltb (bt_entry b.bt i) p.N ≡ true
    go i (inl e) = rw (eq-eqb (bt_entry b.bt i) none e)
    go i (inr e) = or_right (eqb (bt_entry b.bt i) none) (lt-ltb _ _ e)

once_in : (p : Params) (b : Board) → once_rule p b.bt ≡ true → (i j : ℕ) → i < p.mu * p.gamma → j < p.mu * p.gamma → bt_entry b.bt i ≡ bt_entry b.bt j
    → (bt_entry b.bt i ≡ none → ⊥) → i ≡ j
unfolding once_rule
once_in p b h i j a c e ne = go (ℕ_discrete i j)
  where
    t : eqb i j || (eqb (bt_entry b.bt i) none || not (eqb (bt_entry b.bt i) (bt_entry b.bt j))) ≡ true
    t = all_at (p.mu * p.gamma) (λ j. eqb i j || (eqb (bt_entry b.bt i) none || not (eqb (bt_entry b.bt i) (bt_entry b.bt j))))
        (all_at (p.mu * p.gamma) (λ i. all_below (p.mu * p.gamma) (λ j. eqb i j || (eqb (bt_entry b.bt i) none || not (eqb (bt_entry b.bt i) (bt_entry b.bt j))))) h i a) j c

    go : Dec (i ≡ j) → i ≡ j
    go (yes k) = k
    go (no k) = absurd (false≢true (rw (ne_eqb i j k, ne_eqb (bt_entry b.bt i) none ne, eq-eqb (bt_entry b.bt i) (bt_entry b.bt j) e) at t))

once_out : (p : Params) (b : Board) → ((i j : ℕ) → i < p.mu * p.gamma → j < p.mu * p.gamma → bt_entry b.bt i ≡ bt_entry b.bt j → (bt_entry b.bt i ≡ none → ⊥)
    → i ≡ j) → once_rule p b.bt ≡ true
unfolding once_rule
once_out p b h = all_below_intro (p.mu * p.gamma) _ (λ i a. all_below_intro (p.mu * p.gamma) _
    (λ j c. go i j a c (ℕ_discrete i j) (ℕ_discrete (bt_entry b.bt i) none) (ℕ_discrete (bt_entry b.bt i) (bt_entry b.bt j))))
  where
    go : (i j : ℕ) → i < p.mu * p.gamma → j < p.mu * p.gamma → Dec (i ≡ j) → Dec (bt_entry b.bt i ≡ none) → Dec (bt_entry b.bt i ≡ bt_entry b.bt j)
        → eqb i j || (eqb (bt_entry b.bt i) none || not (eqb (bt_entry b.bt i) (bt_entry b.bt j))) ≡ true
    go i j a c (yes k) m l = rw (eq-eqb i j k)
    go i j a c (no k) (yes m) l = rw (ne_eqb i j k, eq-eqb (bt_entry b.bt i) none m)
    go i j a c (no k) (no m) (no l) = rw (ne_eqb i j k, ne_eqb (bt_entry b.bt i) none m, ne_eqb (bt_entry b.bt i) (bt_entry b.bt j) l)
    go i j a c (no k) (no m) (yes l) = absurd (k (h i j a c l m))

pub named_in : (p : Params) (b : Board) (n : ℕ) → named p b.bt n ≡ true → (i : ℕ) × (i < p.mu * p.gamma) × (bt_entry b.bt i ≡ n)
unfolding named
named_in p b n h = let w = some_fails (p.mu * p.gamma) (λ i. not (eqb (bt_entry b.bt i) n)) (not-true _ h) in (w.0, w.1, eqb-true _ _ (not-false _ w.2))

pub named_out : (p : Params) (b : Board) (n i : ℕ) → i < p.mu * p.gamma → bt_entry b.bt i ≡ n → named p b.bt n ≡ true
unfolding named
named_out p b n i k e = go (so (all_below (p.mu * p.gamma) (λ i. not (eqb (bt_entry b.bt i) n))))
  where
    go : (all_below (p.mu * p.gamma) (λ i. not (eqb (bt_entry b.bt i) n)) ≡ true) ⊎ (all_below (p.mu * p.gamma) (λ i. not (eqb (bt_entry b.bt i) n)) ≡ false)
        → not (all_below (p.mu * p.gamma) (λ i. not (eqb (bt_entry b.bt i) n))) ≡ true
    go (inl a) = absurd (never (eq-eqb _ _ e) (not-true _ (all_at (p.mu * p.gamma) (λ i. not (eqb (bt_entry b.bt i) n)) a i k)))
    go (inr a) = rw a

beq_true : (x y : Bool) → beq x y ≡ true → x ≡ y
beq_true true true e = refl
beq_true true false e = sym e
beq_true false true e = e
beq_true false false e = refl

used_in : (p : Params) (b : Board) → used_rule p b.bt b.bst ≡ true → (n : ℕ) → n < p.N → eqb (bst_at b.bst n) 1 ≡ named p b.bt n
unfolding used_rule
used_in p b h n k = beq_true _ _ (all_at p.N (λ n. beq (eqb (bst_at b.bst n) 1) (named p b.bt n)) h n k)

used_out : (p : Params) (b : Board) → ((n : ℕ) → n < p.N → bst_at b.bst n ≡ 1 → (i : ℕ) × (i < p.mu * p.gamma) × (bt_entry b.bt i ≡ n))
    → ((i : ℕ) → i < p.mu * p.gamma → (n : ℕ) → n < p.N → bt_entry b.bt i ≡ n → bst_at b.bst n ≡ 1) → used_rule p b.bt b.bst ≡ true
unfolding used_rule
used_out p b f g = all_below_intro p.N _ (λ n k. go n k (ℕ_discrete (bst_at b.bst n) 1) (so (named p b.bt n)))
  where
    go : (n : ℕ) → n < p.N → Dec (bst_at b.bst n ≡ 1) → (named p b.bt n ≡ true) ⊎ (named p b.bt n ≡ false) → beq (eqb (bst_at b.bst n) 1) (named p b.bt n) ≡ true
    go n k (yes e) s = let w = f n k e in rw (eq-eqb (bst_at b.bst n) 1 e, named_out p b n w.0 w.1 w.2)
    go n k (no e) (inr s) = rw (ne_eqb (bst_at b.bst n) 1 e, s)
    go n k (no e) (inl s) = let w = named_in p b n s in absurd (e (g w.0 w.1 n k w.2))

free_in : (p : Params) (b : Board) → free_rule p b.chip b.bst ≡ true → (n : ℕ) → n < p.N → bst_at b.bst n ≡ 0 → all_are 255 (block p b.chip n) ≡ true
unfolding free_rule
free_in p b h n k e = rw (eq-eqb (bst_at b.bst n) 0 e) at (all_at p.N (λ n. not (eqb (bst_at b.bst n) 0) || all_are 255 (block p b.chip n)) h n k)

free_out : (p : Params) (b : Board) → ((n : ℕ) → n < p.N → bst_at b.bst n ≡ 0 → all_are 255 (block p b.chip n) ≡ true) → free_rule p b.chip b.bst ≡ true
unfolding free_rule
free_out p b h = all_below_intro p.N _ (λ n k. go n k (ℕ_discrete (bst_at b.bst n) 0))
  where
    go : (n : ℕ) → n < p.N → Dec (bst_at b.bst n ≡ 0) → not (eqb (bst_at b.bst n) 0) || all_are 255 (block p b.chip n) ≡ true
    go n k (yes e) = or_right (not (eqb (bst_at b.bst n) 0)) (h n k e)
    go n k (no e) = rw (ne_eqb (bst_at b.bst n) 0 e)

-- ---- all of them

pub chip_size : (p : Params) → chip_bytes p ≡ p.N * block_bytes p
unfolding chip_bytes pages block_bytes frame_bytes
chip_size p = omega arith

-- the lengths that fit
pub record Lengths (p : Params) (b : Board) : Type 0 where
  pub chip_length : length b.chip ≡ p.N * block_bytes p
  pub ct_length : length b.ct ≡ p.C
  pub bt_length : length b.bt ≡ p.mu * p.gamma
  pub fst_length : length b.fst ≡ p.mu
  pub bst_length : length b.bst ≡ p.N
  pub wear_length : length b.wear ≡ p.N
  pub stamps_length : length b.stamps ≡ p.mu
  pub marks_length : length b.marks ≡ marks_length p

pub lengths_in : (p : Params) (b : Board) → lengths_fit p b ≡ true → Lengths p b
unfolding lengths_fit
lengths_in p b l =
    let a = truths _ l in
    record {
      chip_length = eqb-true _ _ a.0 ∙ chip_size p;
      ct_length = eqb-true _ _ a.1.0;
      bt_length = eqb-true _ _ a.1.1.0;
      fst_length = eqb-true _ _ a.1.1.1.0;
      bst_length = eqb-true _ _ a.1.1.1.1.0;
      wear_length = eqb-true _ _ a.1.1.1.1.1.0;
      marks_length = eqb-true _ _ a.1.1.1.1.1.1.0;
      stamps_length = eqb-true _ _ a.1.1.1.1.1.1.1.0;
    }

-- the eight rules that are document 01's, which look at no mark and at no last stamp
unfoldable pub eight_rules : Params → Board → Bool
eight_rules p b = all_true (take 8 (rules_of p b))

pub orderly_is : (p : Params) (b : Board) → orderly p b ≡ eight_rules p b && (marks_rule p b && stamp_rule p b)
unfolding orderly eight_rules rules_of all_true
orderly_is p b = simp (and_assoc, and-true)

pub eight_in : (p : Params) (b : Board) → orderly p b ≡ true → eight_rules p b ≡ true
eight_in p b h = and_left (eight_rules p b) _ (sym (orderly_is p b) ∙ h)

pub tables_eight : (p : Params) (b : Board) → lengths_fit p b ≡ true → eight_rules p b ≡ true → Tables p b
unfolding eight_rules rules_of bst_rule
tables_eight p b l h =
    let a = lengths_in p b l in
    let t = truths _ h in
    record {
      chip_length = a.chip_length;
      ct_length = a.ct_length;
      bt_length = a.bt_length;
      fst_length = a.fst_length;
      bst_length = a.bst_length;
      wear_length = a.wear_length;
      stamps_length = a.stamps_length;
      kinds = λ n k. leb-true _ _ (all_at p.N (λ n. leb (bst_at b.bst n) 2) t.0 n k);
      names = names_in p b t.1.0;
      once = once_in p b t.1.1.0;
      used = λ n k e. named_in p b n (sym (used_in p b t.1.1.1.0 n k) ∙ eq-eqb _ _ e);
      used_back = λ i k n m e. eqb-true _ _ (used_in p b t.1.1.1.0 n m ∙ named_out p b n i k e);
      free = free_in p b t.1.1.1.1.0;
    }

pub tables_in : (p : Params) (b : Board) → lengths_fit p b ≡ true → orderly p b ≡ true → Tables p b
tables_in p b l h = tables_eight p b l (eight_in p b h)

-- of an orderly board the marks are its own
pub marks_in_lem : (p : Params) (b : Board) → lengths_fit p b ≡ true → orderly p b ≡ true → b.marks ≡ marks_of p b
unfolding orderly rules_of
marks_in_lem p b l h = right p b (lengths_in p b l).marks_length (truths _ h).1.1.1.1.1.1.1.1.0

pub lengths_out : (p : Params) (b : Board) → Tables p b → b.marks ≡ marks_of p b → lengths_fit p b ≡ true
unfolding lengths_fit
lengths_out p b t m =
    all_true_lem _ (
      eq-eqb _ _ (t.chip_length ∙ sym (chip_size p)),
      (
        eq-eqb _ _ t.ct_length,
        (
          eq-eqb _ _ t.bt_length,
          (eq-eqb _ _ t.fst_length, (eq-eqb _ _ t.bst_length, (eq-eqb _ _ t.wear_length, (eq-eqb _ _ (marks_long_lem p b m), (eq-eqb _ _ t.stamps_length, tt))))),
        ),
      ),
    )

-- the tables' rules, and those of the used blocks, FST and CT, are the eight rules
pub eight_out : (p : Params) (b : Board) → Tables p b → blocks_rule p b ≡ true → fst_rule p b ≡ true → ct_rule p b ≡ true → eight_rules p b ≡ true
unfolding eight_rules rules_of bst_rule
eight_out p b t u f c =
    all_true_lem _ (
      all_below_intro p.N _ (λ n k. le-leb _ _ (t.kinds n k)),
      (
        names_out p b t.names,
        (
          once_out p b t.once,
          (
            used_out p b t.used t.used_back,
            (free_out p b t.free, (u, (f, (c, tt)))),
          ),
        ),
      ),
    )

-- with marks that are the board's own, and the stamps' rule, they make an orderly state
pub orderly_eight : (p : Params) (b : Board) → eight_rules p b ≡ true → b.marks ≡ marks_of p b → stamp_rule p b ≡ true → orderly p b ≡ true
orderly_eight p b h m s = orderly_is p b ∙ and_intro h (and_intro (rule_of p b m) s)
