-- A start on a chip that shows a board is not refused, where the board's regions have one open block at most and stamps apart; and its erases leave the board's own blocks: the one block
-- that differs is left over, and no other is.
-- Assumes nothing.
use mathlib.Core.Path.{◌≡◌, sym, ap, ◌∙◌}
use mathlib.Core.Logic.{◌⊎◌, inl, inr}
use Prim.Native.Nat.{ℕ, ◌+◌, ◌≤◌, ◌<◌}
use native.Mathlib.Omega.{arith}
use native.Mathlib.Decide.{ℕ_discrete, dec_lt}
use mathlib.Core.Bool.{Bool, true, false, not, ◌&&◌, ◌||◌, cond}
use mathlib.Core.List.{List, []}
use lib.Dec.{eqb, leb}
use borrow.Author.Tests.{eq-eqb, le-leb, lt-ltb, ne_eqb}
use Rattle.lists.specs.Below.{count_below, join_below}
use Rattle.lists.proofs.Counts.{count_split}
use Rattle.lists.proofs.Searches.{pigeon}
use Rattle.lists.proofs.Tests.{all_below_intro, all_true_lem, and_intro, and_left, never, or_right, so}
use Rattle.rules.specs.declared.Params.{Params}
use Rattle.rules.specs.Tables.{Board, bt_at, none}
use Rattle.rules.specs.Pages.{block, is_full}
use Rattle.rules.specs.Regions.{view}
use Rattle.rules.specs.Start.{
  found_bt,
  found_view,
  full_block,
  in_use,
  kept_block,
  left_over,
  names,
  names_full,
  names_open,
  open_once,
  pair_rule,
  region_named,
  region_starts,
  sound,
  sound_rule,
  stamps_apart,
  start_ops,
  startable,
  vblock_named,
}
use Rattle.rules.specs.Traces.{erase_ops, erase_where}
use Rattle.rules.proofs.Erases.{erases_below, none_pass, only_one_lem}
use Rattle.rules.proofs.Sizes.{Sizes}
use Rattle.rules.proofs.TableFacts.{Tables}
use Rattle.starts.proofs.Found.{same_apart, same_once}
use Rattle.starts.proofs.KeptBlocks.{full_in, kept_stays, named_region, named_vblock, none_full, open_in, own_names, region_low_lem, vblock_low_lem}
use Rattle.starts.proofs.Shows.{InUse, LeftOver, Shows, beside, found_body, in_use_lem, kept_is, left, namer, one_full, own, own_low, own_rule}
use Rattle.starts.proofs.UsedGood.{names_region, names_vblock}

-- at most one of each of two kinds
halves : (k m n : ℕ) → m + n ≡ k → m ≤ 1 → n ≤ 1 → leb k 1 || (eqb k 2 && eqb m 1) ≡ true
halves k m n e a b = go (dec_lt k 2)
  where
    go : Dec (k < 2) → leb k 1 || (eqb k 2 && eqb m 1) ≡ true
    go (yes h) = rw (le-leb k 1 (omega arith))
    go (no h) = or_right (leb k 1) (and_intro (eq-eqb k 2 (omega arith)) (eq-eqb m 1 (omega arith)))

-- where two that pass are the same, at most one passes
pub one_passes : (n : ℕ) (f : ℕ → Bool) → ((i j : ℕ) → i < n → j < n → f i ≡ true → f j ≡ true → i ≡ j) → count_below n f ≤ 1
one_passes n f one = pigeon n 1 f (λ i. 0) (λ i h e. omega arith) (λ i j a b e d x. one i j a b e d)

module _ (p : Params) (z : Sizes p) (chip : List ℕ) (b : Board) (t : Tables p b) (x : ℕ) (s : Shows p chip b x) where
  -- ---- it is not refused

  own_sound : (r v : ℕ) → r < p.mu → v < p.gamma → (bt_at p b.bt r v ≡ none → ⊥) → sound p (block p chip (bt_at p b.bt r v)) ≡ true
  unfolding sound
  own_sound r v h k ne =
      let n = bt_at p b.bt r v in
      let w = own_rule p z chip b t x s r v h k ne in
      rw (names_region p z r v (block p chip n) w, names_vblock p z r v (block p chip n) w) (and_intro (lt-ltb v p.gamma k) w)

  all_sound : (n : ℕ) → n < p.N → in_use p chip n ≡ true → sound p (block p chip n) ≡ true
  all_sound n h u = go (in_use_lem p z chip b t x s n h u)
    where
      go : InUse p z chip b t x s n → sound p (block p chip n) ≡ true
      go (own r v hr hv at) = rw at at (own_sound r v hr hv (λ y. omega (arith, at, y, h, z.blocks)))
      go (left k l) = rw k l.sound

  open_once_lem : (r v : ℕ) → r < p.mu → v < p.gamma → (i j : ℕ) → i < p.N → j < p.N → names_open p chip r v i ≡ true → names_open p chip r v j ≡ true → i ≡ j
  open_once_lem r v h k i j hi hj a c = go (namer p z chip b t x s r v i hi (open_in p z chip r v i a).0) (namer p z chip b t x s r v j hj (open_in p z chip r v j c).0)
    where
      clash : (m n : ℕ) → bt_at p b.bt r v ≡ m → names_open p chip r v m ≡ true → n ≡ x → names_open p chip r v n ≡ true → LeftOver p chip b x → ⊥
      clash m n q e y d l =
          let w = beside p z chip b t x s r v h k (rw y at (open_in p z chip r v n d).0) l in
          let f : is_full p (block p chip m) ≡ true = rw q at (full_in p z chip r v (bt_at p b.bt r v) w.1).1 in
          never f (open_in p z chip r v m e).1

      go : (bt_at p b.bt r v ≡ i) ⊎ ((i ≡ x) × LeftOver p chip b x) → (bt_at p b.bt r v ≡ j) ⊎ ((j ≡ x) × LeftOver p chip b x) → i ≡ j
      go (inl q) (inl y) = sym q ∙ y
      go (inl q) (inr (y, l)) = absurd (clash i j q a y c l)
      go (inr (q, l)) (inl y) = absurd (clash j i y c q a l)
      go (inr (q, l)) (inr (y, m)) = q ∙ sym y

  pairs : (r v : ℕ) → r < p.mu → v < p.gamma → pair_rule p chip r v ≡ true
  unfolding pair_rule
  pairs r v h k =
      halves (count_below p.N (names p chip r v)) (count_below p.N (names_full p chip r v)) (count_below p.N (names_open p chip r v))
      (unfold names_full names_open in count_split p.N (names p chip r v) (λ n. is_full p (block p chip n)))
      (one_passes p.N (names_full p chip r v) (λ i j a c d e. sym (one_full p z chip b t x s r v i a d) ∙ one_full p z chip b t x s r v j c e))
      (one_passes p.N (names_open p chip r v) (open_once_lem r v h k))

  pub shows_startable : ((r : ℕ) → r < p.mu → open_once p (view p b r) ≡ true) → ((r : ℕ) → r < p.mu → stamps_apart p (view p b r) ≡ true) → startable p chip ≡ true
  unfolding startable sound_rule region_starts
  shows_startable once apart =
      and_intro (all_below_intro p.N _ (λ n h. sounds n h (so (in_use p chip n))))
      (all_below_intro p.mu _ (λ r h. all_true_lem _ (all_below_intro p.gamma _ (λ v k. pairs r v h k), (once_found r h, (apart_found r h, tt)))))
    where
      sounds : (n : ℕ) → n < p.N → (in_use p chip n ≡ true) ⊎ (in_use p chip n ≡ false) → not (in_use p chip n) || sound p (block p chip n) ≡ true
      sounds n h (inl u) = or_right (not (in_use p chip n)) (all_sound n h u)
      sounds n h (inr u) = rw u

      once_found : (r : ℕ) → r < p.mu → open_once p (found_view p chip (found_bt p chip) r) ≡ true
      once_found r h = same_once p (found_view p chip (found_bt p chip) r) (view p b r) (found_body p z chip b t x s r h) ∙ once r h

      apart_found : (r : ℕ) → r < p.mu → stamps_apart p (found_view p chip (found_bt p chip) r) ≡ true
      apart_found r h = same_apart p (found_view p chip (found_bt p chip) r) (view p b r) (found_body p z chip b t x s r h) ∙ apart r h

  -- ---- its erases leave the board's blocks

  pub left_x : (n : ℕ) → n < p.N → left_over p chip n ≡ true → (n ≡ x) × LeftOver p chip b x
  unfolding left_over
  left_x n h e = go (in_use_lem p z chip b t x s n h (and_left (in_use p chip n) _ e))
    where
      go : InUse p z chip b t x s n → (n ≡ x) × LeftOver p chip b x
      go (left k l) = (k, l)
      go (own r v hr hv at) =
          let ne : bt_at p b.bt r v ≡ none → ⊥ = λ y. omega (arith, at, y, h, z.blocks) in
          let k : kept_block p chip r v ≡ n = kept_is p z chip b t x s r v hr hv ∙ at in
          let f : left_over p chip n ≡ false = rw k at (kept_stays p z chip r v (λ y. ne (sym (kept_is p z chip b t x s r v hr hv) ∙ y))) in
          absurd (never (unfold left_over in e) f)

  left_back : (r v : ℕ) → r < p.mu → v < p.gamma → names p chip r v x ≡ true → LeftOver p chip b x → left_over p chip x ≡ true
  unfolding left_over
  left_back r v hr hv e l =
      rw (l.used, l.unfull, named_region p z chip r v x e, named_vblock p z chip r v x e, ne_eqb (full_block p chip r v) none some)
    where
      some : full_block p chip r v ≡ none → ⊥
      some y =
          let d = beside p z chip b t x s r v hr hv e l in
          never d.1 (none_full p z chip r v y (bt_at p b.bt r v) (own_low p z chip b t x s r v hr hv d.0))

  pub x_left : LeftOver p chip b x → left_over p chip x ≡ true
  x_left l =
      left_back (region_named p (block p chip x)) (vblock_named p (block p chip x)) (region_low_lem p z (block p chip x)) (vblock_low_lem p (block p chip x) l.sound) (own_names p z chip x l.used) l

  -- the operations of a start: of block x, where it is left over, or none
  pub start_ops_lem : (wear : List ℕ) → ((x < p.N) × (start_ops p chip wear ≡ erase_ops p wear x)) ⊎ (start_ops p chip wear ≡ [])
  unfolding start_ops erase_where erases_below
  start_ops_lem wear = go (dec_lt x p.N) (so (left_over p chip x))
    where
      other : (n : ℕ) → n < p.N → (n ≡ x → ⊥) → left_over p chip n ≡ false
      other n h ne = pick (so (left_over p chip n))
        where
          pick : (left_over p chip n ≡ true) ⊎ (left_over p chip n ≡ false) → left_over p chip n ≡ false
          pick (inl e) = absurd (ne (left_x n h e).0)
          pick (inr e) = e

      go : Dec (x < p.N) → (left_over p chip x ≡ true) ⊎ (left_over p chip x ≡ false)
          → ((x < p.N) × (join_below p.N (λ n. cond (left_over p chip n) (erase_ops p wear n) []) ≡ erase_ops p wear x)) ⊎ (join_below p.N (λ n. cond (left_over p chip n) (erase_ops p wear n) []) ≡ [])
      go (yes h) (inl e) = inl (h, only_one_lem p wear (left_over p chip) x p.N h e other)
      go (yes h) (inr e) = inr (none_pass p wear (left_over p chip) p.N (λ n k. pick n k (ℕ_discrete n x)))
        where
          pick : (n : ℕ) → n < p.N → Dec (n ≡ x) → left_over p chip n ≡ false
          pick n k (yes y) = ap (left_over p chip) y ∙ e
          pick n k (no y) = other n k y
      go (no h) s' = inr (none_pass p wear (left_over p chip) p.N (λ n k. other n k (λ y. h (rw (← y) k))))

-- where no block is left over it erases none
pub none_left : (p : Params) (z : Sizes p) (chip : List ℕ) (b : Board) (t : Tables p b) → Shows p chip b p.N → (n : ℕ) → n < p.N → left_over p chip n ≡ false
none_left p z chip b t s n h = go (so (left_over p chip n))
  where
    go : (left_over p chip n ≡ true) ⊎ (left_over p chip n ≡ false) → left_over p chip n ≡ false
    go (inl e) = absurd (omega (arith, (left_x p z chip b t p.N s n h e).0))
    go (inr e) = e

pub no_erase : (p : Params) (z : Sizes p) (chip : List ℕ) (b : Board) (t : Tables p b) → Shows p chip b p.N → (wear : List ℕ) → start_ops p chip wear ≡ []
unfolding start_ops erase_where erases_below
no_erase p z chip b t s wear = none_pass p wear (left_over p chip) p.N (none_left p z chip b t s)
