-- Which block a start keeps for a virtual block, on any chip, and which it erases: a full one stays before one that is not, and where a start is not refused there is at most one of each kind.
-- Assumes nothing.
use mathlib.Core.Path.{◌≡◌, refl, ap, ◌∙◌}
use mathlib.Core.Logic.{◌⊎◌, inl, inr}
use Prim.Native.Nat.{ℕ, ◌+◌, ◌*◌, ◌/◌, ◌%◌, ◌≤◌, ◌<◌}
use native.Mathlib.Nat.{mod-lt, mul-add-div_right, mul-add-mod_self_right, div-eq_of_lt, mod-eq_of_lt, add-zero}
use native.Mathlib.Omega.{arith}
use mathlib.Core.Bool.{true, false, not, ◌&&◌, ◌||◌}
use mathlib.Core.List.{List}
use lib.Dec.{eqb, leb, ltb}
use borrow.Author.Tests.{eqb-true, eq-eqb, ne_eqb, leb-true, ltb-true, not-true}
use Rattle.lists.specs.Below.{count_below, first_below}
use Rattle.lists.proofs.Counts.{count_split, count_unique}
use Rattle.lists.proofs.Lists.{list_at}
use Rattle.lists.proofs.Searches.{first_spec}
use Rattle.lists.proofs.Tests.{all_at, and_intro, and_left, and_right, never, or_cases, so, truths}
use Rattle.rules.specs.declared.Params.{Params}
use Rattle.rules.specs.Tables.{bt_at, bt_entry, none}
use Rattle.rules.specs.Pages.{block, is_full}
use Rattle.rules.specs.Format.{bad}
use Rattle.rules.specs.Start.{
  found_bt,
  found_view,
  full_block,
  in_use,
  kept_block,
  left_over,
  names,
  names_full,
  names_open,
  open_once,
  pair_rule,
  region_named,
  region_starts,
  sound,
  sound_rule,
  stamps_apart,
  startable,
  vblock_named,
}
use Rattle.rules.proofs.Isolation.{index_low}
use Rattle.rules.proofs.Sizes.{Sizes}

-- ---- what a block says

pub region_low_lem : (p : Params) → Sizes p → (blk : List ℕ) → region_named p blk < p.mu
unfolding region_named
region_low_lem p z blk = mod-lt _ z.regions

pub vblock_low_lem : (p : Params) (blk : List ℕ) → sound p blk ≡ true → vblock_named p blk < p.gamma
unfolding sound
vblock_low_lem p blk h = ltb-true _ _ (and_left (ltb (vblock_named p blk) p.gamma) _ h)

-- one in use is not bad
pub use_good : (p : Params) (chip : List ℕ) (n : ℕ) → in_use p chip n ≡ true → bad p chip n ≡ false
unfolding in_use
use_good p chip n u = not-true _ (and_left (not (bad p chip n)) _ u)

-- at most two of which, where there are two, exactly one is of the first kind: at most one of each
one_each : (k m n : ℕ) → m + n ≡ k → leb k 1 || (eqb k 2 && eqb m 1) ≡ true → (m ≤ 1) × (n ≤ 1)
one_each k m n e h = go (or_cases (leb k 1) h)
  where
    go : (leb k 1 ≡ true) ⊎ (eqb k 2 && eqb m 1 ≡ true) → (m ≤ 1) × (n ≤ 1)
    go (inl a) = let b = leb-true k 1 a in (omega arith, omega arith)
    go (inr a) =
        let b = eqb-true k 2 (and_left (eqb k 2) _ a) in
        let c = eqb-true m 1 (and_right (eqb k 2) a) in
        (omega arith, omega arith)

module _ (p : Params) (z : Sizes p) (chip : List ℕ) where
  -- ---- the block that is kept

  pub full_spec : (r v : ℕ) → ((full_block p chip r v ≡ none) × ((i : ℕ) → i < p.N → names_full p chip r v i ≡ false))
      ⊎ ((full_block p chip r v < p.N) × (names_full p chip r v (full_block p chip r v) ≡ true))
  unfolding full_block
  full_spec r v = first_spec none p.N (names_full p chip r v) z.blocks

  pub none_full : (r v : ℕ) → full_block p chip r v ≡ none → (i : ℕ) → i < p.N → names_full p chip r v i ≡ false
  none_full r v e i l = go (full_spec r v)
    where
      go : ((full_block p chip r v ≡ none) × ((i : ℕ) → i < p.N → names_full p chip r v i ≡ false))
          ⊎ ((full_block p chip r v < p.N) × (names_full p chip r v (full_block p chip r v) ≡ true)) → names_full p chip r v i ≡ false
      go (inl w) = w.1 i l
      go (inr w) = absurd (omega (arith, w.0, e, z.blocks))

  -- a full one, or one that is not where none is full
  pub data Kept (r v : ℕ) : Type 0 where
    full : kept_block p chip r v < p.N → names_full p chip r v (kept_block p chip r v) ≡ true → Kept r v
    part : kept_block p chip r v < p.N → full_block p chip r v ≡ none → names_open p chip r v (kept_block p chip r v) ≡ true → Kept r v
    neither : kept_block p chip r v ≡ none → ((i : ℕ) → i < p.N → names_full p chip r v i ≡ false) → ((i : ℕ) → i < p.N → names_open p chip r v i ≡ false) → Kept r v

  pub kept : (r v : ℕ) → Kept r v
  kept r v = go (full_spec r v)
    where
      go : ((full_block p chip r v ≡ none) × ((i : ℕ) → i < p.N → names_full p chip r v i ≡ false))
          ⊎ ((full_block p chip r v < p.N) × (names_full p chip r v (full_block p chip r v) ≡ true)) → Kept r v
      go (inr w) =
          let e : kept_block p chip r v ≡ full_block p chip r v = unfold kept_block in rw (ne_eqb (full_block p chip r v) none (λ x. omega (arith, w.0, z.blocks))) in
          full (rw e w.0) (rw e w.1)
      go (inl w) = next (first_spec none p.N (names_open p chip r v) z.blocks)
        where
          e : kept_block p chip r v ≡ first_below none p.N (names_open p chip r v)
          e = unfold kept_block in rw (eq-eqb (full_block p chip r v) none w.0)

          next : ((first_below none p.N (names_open p chip r v) ≡ none) × ((i : ℕ) → i < p.N → names_open p chip r v i ≡ false))
              ⊎ ((first_below none p.N (names_open p chip r v) < p.N) × (names_open p chip r v (first_below none p.N (names_open p chip r v)) ≡ true)) → Kept r v
          next (inl o) = neither (e ∙ o.0) w.1 o.1
          next (inr o) = part (rw e o.0) w.0 (rw e o.1)

  pub full_in : (r v n : ℕ) → names_full p chip r v n ≡ true → (names p chip r v n ≡ true) × (is_full p (block p chip n) ≡ true)
  unfolding names_full
  full_in r v n t = (and_left (names p chip r v n) _ t, and_right (names p chip r v n) t)

  pub open_in : (r v n : ℕ) → names_open p chip r v n ≡ true → (names p chip r v n ≡ true) × (is_full p (block p chip n) ≡ false)
  unfolding names_open
  open_in r v n t = (and_left (names p chip r v n) _ t, not-true _ (and_right (names p chip r v n) t))

  pub full_out : (r v n : ℕ) → names p chip r v n ≡ true → is_full p (block p chip n) ≡ true → names_full p chip r v n ≡ true
  unfolding names_full
  full_out r v n a b = and_intro a b

  pub open_out : (r v n : ℕ) → names p chip r v n ≡ true → is_full p (block p chip n) ≡ false → names_open p chip r v n ≡ true
  unfolding names_open
  open_out r v n a b = and_intro a (ap not b)

  pub kept_names : (r v : ℕ) → (kept_block p chip r v ≡ none → ⊥) → (kept_block p chip r v < p.N) × (names p chip r v (kept_block p chip r v) ≡ true)
  kept_names r v ne = go (kept r v)
    where
      go : Kept r v → (kept_block p chip r v < p.N) × (names p chip r v (kept_block p chip r v) ≡ true)
      go (full h t) = (h, (full_in r v _ t).0)
      go (part h f t) = (h, (open_in r v _ t).0)
      go (neither e f o) = absurd (ne e)

  -- what a block that names it says
  pub named_use : (r v n : ℕ) → names p chip r v n ≡ true → in_use p chip n ≡ true
  unfolding names
  named_use r v n t = and_left (in_use p chip n) _ t

  pub named_region : (r v n : ℕ) → names p chip r v n ≡ true → region_named p (block p chip n) ≡ r
  unfolding names
  named_region r v n t = eqb-true _ _ (and_left (eqb (region_named p (block p chip n)) r) _ (and_right (in_use p chip n) t))

  pub named_vblock : (r v n : ℕ) → names p chip r v n ≡ true → vblock_named p (block p chip n) ≡ v
  unfolding names
  named_vblock r v n t = eqb-true _ _ (and_right (eqb (region_named p (block p chip n)) r) (and_right (in_use p chip n) t))

  -- a block in use names what its first page says
  pub own_names : (n : ℕ) → in_use p chip n ≡ true → names p chip (region_named p (block p chip n)) (vblock_named p (block p chip n)) n ≡ true
  unfolding names
  own_names n u =
      and_intro u
      (and_intro (eq-eqb (region_named p (block p chip n)) (region_named p (block p chip n)) refl) (eq-eqb (vblock_named p (block p chip n)) (vblock_named p (block p chip n)) refl))

  -- a kept block is not erased
  pub kept_stays : (r v : ℕ) → (kept_block p chip r v ≡ none → ⊥) → left_over p chip (kept_block p chip r v) ≡ false
  unfolding left_over
  kept_stays r v ne = go (kept r v)
    where
      go : Kept r v → left_over p chip (kept_block p chip r v) ≡ false
      go (full h t) =
          let u = full_in r v (kept_block p chip r v) t in
          rw (named_use r v (kept_block p chip r v) u.0, u.1)
      go (part h f t) =
          let u = open_in r v (kept_block p chip r v) t in
          rw (named_use r v (kept_block p chip r v) u.0, u.1, named_region r v (kept_block p chip r v) u.0, named_vblock r v (kept_block p chip r v) u.0, eq-eqb (full_block p chip r v) none f)
      go (neither e f o) = absurd (ne e)

  -- ---- BT

  pub entry_is : (i : ℕ) → i < p.mu * p.gamma → bt_entry (found_bt p chip) i ≡ kept_block p chip (i / p.gamma) (i % p.gamma)
  unfolding bt_entry found_bt
  entry_is i h = list_at (p.mu * p.gamma) (λ i. kept_block p chip (i / p.gamma) (i % p.gamma)) i none h

  pub at_is : (r v : ℕ) → r < p.mu → v < p.gamma → bt_at p (found_bt p chip) r v ≡ kept_block p chip r v
  unfolding bt_at
  at_is r v h k =
      entry_is (r * p.gamma + v) (index_low p r v h k)
      ∙ rw (mul-add-div_right z.vblocks, div-eq_of_lt k, mul-add-mod_self_right, mod-eq_of_lt k, add-zero r)

module _ (p : Params) (z : Sizes p) (chip : List ℕ) (starts : startable p chip ≡ true) where
  -- a block in use is sound
  pub sounds : (n : ℕ) → n < p.N → in_use p chip n ≡ true → sound p (block p chip n) ≡ true
  unfolding startable sound_rule
  sounds n h u = rw u at (all_at p.N (λ n. not (in_use p chip n) || sound p (block p chip n)) (and_left (sound_rule p chip) _ starts) n h)

  region_starts_lem : (r : ℕ) → r < p.mu → region_starts p chip (found_bt p chip) r ≡ true
  unfolding startable
  region_starts_lem r h = all_at p.mu (region_starts p chip (found_bt p chip)) (and_right (sound_rule p chip) starts) r h

  pub opened_once : (r : ℕ) → r < p.mu → open_once p (found_view p chip (found_bt p chip) r) ≡ true
  unfolding region_starts
  opened_once r h = (truths _ (region_starts_lem r h)).1.0

  pub stamps_apart_lem : (r : ℕ) → r < p.mu → stamps_apart p (found_view p chip (found_bt p chip) r) ≡ true
  unfolding region_starts
  stamps_apart_lem r h = (truths _ (region_starts_lem r h)).1.1.0

  pair : (r v : ℕ) → r < p.mu → v < p.gamma → pair_rule p chip r v ≡ true
  unfolding region_starts
  pair r v h k = all_at p.gamma (pair_rule p chip r) (truths _ (region_starts_lem r h)).0 v k

  pub few : (r v : ℕ) → r < p.mu → v < p.gamma → (count_below p.N (names_full p chip r v) ≤ 1) × (count_below p.N (names_open p chip r v) ≤ 1)
  unfolding pair_rule
  few r v h k =
      one_each (count_below p.N (names p chip r v)) (count_below p.N (names_full p chip r v)) (count_below p.N (names_open p chip r v))
      (unfold names_full names_open in count_split p.N (names p chip r v) (λ n. is_full p (block p chip n))) (pair r v h k)

  -- a block in use that is not kept is left over
  left_at : (r v n : ℕ) → r < p.mu → v < p.gamma → n < p.N → names p chip r v n ≡ true → (kept_block p chip r v ≡ n → ⊥) → left_over p chip n ≡ true
  left_at r v n low-r low-v h here ne = go (so (is_full p (block p chip n))) (kept p z chip r v)
    where
      go : (is_full p (block p chip n) ≡ true) ⊎ (is_full p (block p chip n) ≡ false) → Kept p z chip r v → left_over p chip n ≡ true
      go (inl f) (full k t) = absurd (ne (count_unique p.N (names_full p chip r v) (few r v low-r low-v).0 _ n k h t (full_out p z chip r v n here f)))
      go (inl f) (part k e t) = absurd (never (full_out p z chip r v n here f) (none_full p z chip r v e n h))
      go (inl f) (neither e a o) = absurd (never (full_out p z chip r v n here f) (a n h))
      go (inr f) (full k t) =
          unfold left_over in rw (
            named_use p z chip r v n here,
            f,
            named_region p z chip r v n here,
            named_vblock p z chip r v n here,
            ne_eqb (full_block p chip r v) none (λ e. never t (none_full p z chip r v e (kept_block p chip r v) k)),
          )
      go (inr f) (part k e t) = absurd (ne (count_unique p.N (names_open p chip r v) (few r v low-r low-v).1 _ n k h t (open_out p z chip r v n here f)))
      go (inr f) (neither e a o) = absurd (never (open_out p z chip r v n here f) (o n h))

  pub left_over_lem : (n : ℕ) → n < p.N → in_use p chip n ≡ true → (kept_block p chip (region_named p (block p chip n)) (vblock_named p (block p chip n)) ≡ n → ⊥) → left_over p chip n ≡ true
  left_over_lem n h u ne =
      left_at (region_named p (block p chip n)) (vblock_named p (block p chip n)) n (region_low_lem p z (block p chip n)) (vblock_low_lem p (block p chip n) (sounds n h u)) h (own_names p z chip n u) ne
