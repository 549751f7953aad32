-- The tables that a start leaves, on any chip where it is not refused: BST, BT and the free blocks are in order. What it erased is erased, and what it kept is as it was.
-- Assumes nothing.
use mathlib.Core.Path.{◌≡◌, refl, sym, ap, ◌∙◌}
use mathlib.Core.Logic.{◌⊎◌, inl, inr}
use Prim.Native.Nat.{ℕ, ◌+◌, ◌*◌, ◌/◌, ◌%◌, ◌≤◌, ◌<◌}
use native.Mathlib.Omega.{arith}
use native.Mathlib.Decide.{ℕ_discrete}
use mathlib.Core.Bool.{Bool, true, false, not, ◌&&◌, cond}
use borrow.Author.Tests.{not-false}
use Rattle.lists.specs.Parts.{all_are}
use Rattle.lists.proofs.Lists.{list_at, list_length}
use Rattle.lists.proofs.Parts.{rejoin}
use Rattle.lists.proofs.Tests.{never, so}
use Rattle.rules.specs.declared.Params.{Params}
use Rattle.rules.specs.Tables.{Board, bst_at, bt_at, bt_entry, none}
use Rattle.rules.specs.Pages.{block}
use Rattle.rules.specs.Orderly.{named}
use Rattle.rules.specs.Traces.{erase_where, erased_state, worn}
use Rattle.rules.specs.Format.{bad}
use Rattle.rules.specs.Start.{found_bt, in_use, kept_block, left_over, names, region_named, start_ops, started, vblock_named}
use Rattle.rules.proofs.Erases.{Cleared, erases_ran, erases_below}
use Rattle.rules.proofs.Isolation.{index_low}
use Rattle.rules.proofs.Sizes.{Sizes, sizes}
use Rattle.rules.proofs.TableFacts.{Lengths, Tables, lengths_in, named_in, named_out}
use Rattle.rules.proofs.WornBlocks.{state_free}
use Rattle.rules.proofs.Writes.{wear_length_lem}
use Rattle.starts.specs.Admitted.{StartAdmitted}
use Rattle.starts.proofs.KeptBlocks.{at_is, entry_is, kept_names, left_over_lem, named_region, named_use, named_vblock, region_low_lem, sounds, use_good, vblock_low_lem}

module _ (p : Params) (b : Board) (acc : StartAdmitted p b) where
  z : Sizes p
  z = sizes p acc.fine

  lengths : Lengths p b
  lengths = lengths_in p b acc.lengths

  -- what is left over is erased, and marked where that wears it out, and all else is as it was
  pub swept : Cleared p b.wear (left_over p b.chip) b.chip (started p b).chip p.N
  unfolding started start_ops erase_where erases_below
  swept = erases_ran p z b.wear (left_over p b.chip) b.chip lengths.chip_length p.N (omega arith)

  both : (s t : Bool) → cond {A = ℕ} s (cond t 2 0) 0 ≡ cond (s && t) 2 0
  both true t = refl
  both false t = refl

  pub kind : (m : ℕ) → m < p.N → bst_at (started p b).bst m ≡ cond (bad p b.chip m) 2 (cond (named p (found_bt p b.chip) m) 1 (cond (left_over p b.chip m && worn p b.wear m) 2 0))
  unfolding bst_at started erased_state
  kind m h = list_at p.N (λ n. cond (bad p b.chip n) 2 (cond (named p (found_bt p b.chip) n) 1 (cond (left_over p b.chip n) (cond (worn p b.wear n) 2 0) 0))) m 0 h
      ∙ ap (λ (y : ℕ). cond (bad p b.chip m) 2 (cond (named p (found_bt p b.chip) m) 1 y)) (both (left_over p b.chip m) (worn p b.wear m))

  three : (s t u : Bool) → (cond {A = ℕ} s 2 (cond t 1 (cond u 2 0)) ≤ 2) × (cond {A = ℕ} s 2 (cond t 1 (cond u 2 0)) ≡ 1 → t ≡ true)
      × (cond {A = ℕ} s 2 (cond t 1 (cond u 2 0)) ≡ 0 → (s ≡ false) × (t ≡ false) × (u ≡ false))
  three true t u = (omega arith, λ x. absurd (omega arith), λ x. absurd (omega arith))
  three false true u = (omega arith, λ x. refl, λ x. absurd (omega arith))
  three false false true = (omega arith, λ x. absurd (omega arith), λ x. absurd (omega arith))
  three false false false = (omega arith, λ x. absurd (omega arith), λ x. (refl, refl, refl))

  -- entry i, where it is not none, is of a block that names it
  entry_names : (i : ℕ) → i < p.mu * p.gamma → (bt_entry (found_bt p b.chip) i ≡ none → ⊥)
      → (bt_entry (found_bt p b.chip) i < p.N) × (names p b.chip (i / p.gamma) (i % p.gamma) (bt_entry (found_bt p b.chip) i) ≡ true)
  entry_names i h ne =
      let e = entry_is p z b.chip i h in
      let w = kept_names p z b.chip (i / p.gamma) (i % p.gamma) (λ x. ne (e ∙ x)) in
      (rw e w.0, rw e w.1)

  once : (i j : ℕ) → i < p.mu * p.gamma → j < p.mu * p.gamma → bt_entry (found_bt p b.chip) i ≡ bt_entry (found_bt p b.chip) j
      → (bt_entry (found_bt p b.chip) i ≡ none → ⊥) → i ≡ j
  once i j hi hj e ne =
      let a = (entry_names i hi ne).1 in
      let c = (entry_names j hj (λ x. ne (e ∙ x))).1 in
      let n = bt_entry (found_bt p b.chip) i in
      let c' : names p b.chip (j / p.gamma) (j % p.gamma) n ≡ true = rw e c in
      rejoin p.gamma i j
      (sym (named_region p z b.chip (i / p.gamma) (i % p.gamma) n a) ∙ named_region p z b.chip (j / p.gamma) (j % p.gamma) n c')
      (sym (named_vblock p z b.chip (i / p.gamma) (i % p.gamma) n a) ∙ named_vblock p z b.chip (j / p.gamma) (j % p.gamma) n c')

  used_back_lem : (i : ℕ) → i < p.mu * p.gamma → (n : ℕ) → n < p.N → bt_entry (found_bt p b.chip) i ≡ n → bst_at (started p b).bst n ≡ 1
  used_back_lem i h n k e =
      let w = entry_names i h (λ x. omega (arith, x, e, k, z.blocks)) in
      let u = named_use p z b.chip (i / p.gamma) (i % p.gamma) n (rw e at w.1) in
      let m : named p (found_bt p b.chip) n ≡ true = unfold started in named_out p (started p b) n i h e in
      rw (kind n k, use_good p b.chip n u, m)

  named_at : (n r v : ℕ) → r < p.mu → v < p.gamma → kept_block p b.chip r v ≡ n → named p (found_bt p b.chip) n ≡ true
  unfolding started bt_at
  named_at n r v lr lv k = named_out p (started p b) n (r * p.gamma + v) (index_low p r v lr lv) (at_is p z b.chip r v lr lv ∙ k)

  free : (n : ℕ) → n < p.N → bst_at (started p b).bst n ≡ 0 → all_are 255 (block p (started p b).chip n) ≡ true
  free n h e = go (so (in_use p b.chip n))
    where
      w : (bad p b.chip n ≡ false) × (named p (found_bt p b.chip) n ≡ false) × (left_over p b.chip n && worn p b.wear n ≡ false)
      w = (three (bad p b.chip n) (named p (found_bt p b.chip) n) (left_over p b.chip n && worn p b.wear n)).2 (sym (kind n h) ∙ e)

      go : (in_use p b.chip n ≡ true) ⊎ (in_use p b.chip n ≡ false) → all_are 255 (block p (started p b).chip n) ≡ true
      go (inl u) =
          let l = left_over_lem p z b.chip acc.starts n h u unkept in
          let new : worn p b.wear n ≡ false = rw l at w.2 in
          rw (swept.done n h l, new) (state_free p false refl)
        where
          unkept : kept_block p b.chip (region_named p (block p b.chip n)) (vblock_named p (block p b.chip n)) ≡ n → ⊥
          unkept k =
              let lr = region_low_lem p z (block p b.chip n) in
              let lv = vblock_low_lem p (block p b.chip n) (sounds p z b.chip acc.starts n h u) in
              never (named_at n (region_named p (block p b.chip n)) (vblock_named p (block p b.chip n)) lr lv k) w.1
      go (inr u) = rw (swept.kept n (unfold left_over in rw u)) (not-false _ (blank u))
        where
          blank : in_use p b.chip n ≡ false → not (all_are 255 (block p b.chip n)) ≡ false
          blank x = let y : not (bad p b.chip n) && not (all_are 255 (block p b.chip n)) ≡ false = unfold in_use in x in rw w.0 at y

  pub start_tables : Tables p (started p b)
  unfolding started
  start_tables =
      record {
        chip_length = swept.size ∙ lengths.chip_length;
        ct_length = list_length p.C _;
        bt_length = unfold found_bt in list_length (p.mu * p.gamma) _;
        fst_length = list_length p.mu _;
        bst_length = list_length p.N _;
        wear_length = wear_length_lem b.wear (start_ops p b.chip b.wear) ∙ lengths.wear_length;
        stamps_length = list_length p.mu _;
        kinds = λ n h. rw (kind n h) (three (bad p b.chip n) (named p (found_bt p b.chip) n) (left_over p b.chip n && worn p b.wear n)).0;
        names = range;
        once = once;
        used = λ n h e. named_in p (started p b) n ((three (bad p b.chip n) (named p (found_bt p b.chip) n) (left_over p b.chip n && worn p b.wear n)).1 (sym (kind n h) ∙ e));
        used_back = used_back_lem;
        free = free;
      }
    where
      range : (i : ℕ) → i < p.mu * p.gamma → (bt_entry (found_bt p b.chip) i ≡ none) ⊎ (bt_entry (found_bt p b.chip) i < p.N)
      range i h = go (ℕ_discrete (bt_entry (found_bt p b.chip) i) none)
        where
          go : Dec (bt_entry (found_bt p b.chip) i ≡ none) → (bt_entry (found_bt p b.chip) i ≡ none) ⊎ (bt_entry (found_bt p b.chip) i < p.N)
          go (yes e) = inl e
          go (no e) = inr (entry_names i h e).0
