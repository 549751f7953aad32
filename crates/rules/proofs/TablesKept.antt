-- A write leaves the tables' rules standing.
-- Assumes nothing.
use mathlib.Core.Path.{◌≡◌, sym, ap, ◌∙◌}
use mathlib.Core.Logic.{◌⊎◌, inl, inr}
use Prim.Native.Nat.{ℕ, ◌*◌, ◌≤◌, ◌<◌}
use native.Mathlib.Omega.{arith}
use native.Mathlib.Decide.{ℕ_discrete}
use mathlib.Core.Bool.{Bool, true, cond}
use lib.ListN.{length}
use Rattle.lists.specs.Parts.{all_are}
use Rattle.rules.specs.declared.Params.{Params}
use Rattle.rules.specs.Parameters.{block_bytes}
use Rattle.rules.specs.Tables.{Board, bst_at, bt_entry, none}
use Rattle.rules.specs.Pages.{block}
use Rattle.rules.specs.Format.{bad}
use Rattle.rules.proofs.BadBytes.{bytes_bad}
use Rattle.rules.proofs.Sizes.{Sizes}
use Rattle.rules.proofs.TableFacts.{Tables}
use Rattle.rules.proofs.WornBlocks.{left_bad, left_block, state_free, state_low, state_reserved}

-- entry k of BT comes to name block n, which is used from now on; the block that it named before, if another, is free and erased, or worn out and reserved
pub record Change (p : Params) (b b' : Board) (k n : ℕ) : Type 0 where
  pub chip_length : length b'.chip ≡ p.N * block_bytes p
  pub ct_length : length b'.ct ≡ p.C
  pub bt_length : length b'.bt ≡ p.mu * p.gamma
  pub fst_length : length b'.fst ≡ p.mu
  pub bst_length : length b'.bst ≡ p.N
  pub wear_length : length b'.wear ≡ p.N
  pub stamps_length : length b'.stamps ≡ p.mu
  pub index : k < p.mu * p.gamma
  pub low : n < p.N
  pub entry_else : (i : ℕ) → (i ≡ k → ⊥) → bt_entry b'.bt i ≡ bt_entry b.bt i
  pub entry_here : bt_entry b'.bt k ≡ n
  pub own : (i : ℕ) → i < p.mu * p.gamma → (i ≡ k → ⊥) → (bt_entry b.bt i ≡ none → ⊥) → bt_entry b.bt i ≡ n → ⊥
  pub was : bst_at b.bst n ≡ 2 → ⊥
  pub kind_here : bst_at b'.bst n ≡ 1
  pub worn_out : Bool
  pub kind_old : (bt_entry b.bt k ≡ n → ⊥) → (bt_entry b.bt k ≡ none → ⊥) → bst_at b'.bst (bt_entry b.bt k) ≡ cond worn_out 2 0
  pub block_old : (bt_entry b.bt k ≡ n → ⊥) → (bt_entry b.bt k ≡ none → ⊥) → block p b'.chip (bt_entry b.bt k) ≡ left_block p worn_out
  pub kind_else : (m : ℕ) → m < p.N → (m ≡ n → ⊥) → (m ≡ bt_entry b.bt k → ⊥) → bst_at b'.bst m ≡ bst_at b.bst m
  pub block_else : (m : ℕ) → m < p.N → (m ≡ n → ⊥) → (m ≡ bt_entry b.bt k → ⊥) → block p b'.chip m ≡ block p b.chip m

module _ (p : Params) (z : Sizes p) (b b' : Board) (t : Tables p b) (k n : ℕ) (ch : Change p b b' k n) where
  not_none : (m : ℕ) → m < p.N → m ≡ none → ⊥
  not_none m h e = omega (arith, z.blocks)

  -- a block is the new one, the old one, or neither
  data Which (m : ℕ) : Type 0 where
    new : m ≡ n → Which m
    old : (m ≡ n → ⊥) → m ≡ bt_entry b.bt k → Which m
    else : (m ≡ n → ⊥) → (m ≡ bt_entry b.bt k → ⊥) → Which m

  which : (m : ℕ) → Which m
  which m = go (ℕ_discrete m n) (ℕ_discrete m (bt_entry b.bt k))
    where
      go : Dec (m ≡ n) → Dec (m ≡ bt_entry b.bt k) → Which m
      go (yes e) d = new e
      go (no e) (yes d) = old e d
      go (no e) (no d) = else e d

  kind_old_lem : (m : ℕ) → m < p.N → (m ≡ n → ⊥) → m ≡ bt_entry b.bt k → bst_at b'.bst m ≡ cond ch.worn_out 2 0
  kind_old_lem m h ne e = rw e (ch.kind_old (λ x. ne (e ∙ x)) (λ x. not_none m h (e ∙ x)))

  kinds : (m : ℕ) → m < p.N → bst_at b'.bst m ≤ 2
  kinds m h = go (which m)
    where
      go : Which m → bst_at b'.bst m ≤ 2
      go (new e) = rw (e, ch.kind_here) (omega arith)
      go (old ne e) = rw (kind_old_lem m h ne e) (state_low ch.worn_out).0
      go (else ne e) = rw (ch.kind_else m h ne e) (t.kinds m h)

  names : (i : ℕ) → i < p.mu * p.gamma → (bt_entry b'.bt i ≡ none) ⊎ (bt_entry b'.bt i < p.N)
  names i h = go (ℕ_discrete i k)
    where
      go : Dec (i ≡ k) → (bt_entry b'.bt i ≡ none) ⊎ (bt_entry b'.bt i < p.N)
      go (yes e) = inr (rw (e, ch.entry_here) ch.low)
      go (no e) = rw (ch.entry_else i e) (t.names i h)

  once : (i j : ℕ) → i < p.mu * p.gamma → j < p.mu * p.gamma → bt_entry b'.bt i ≡ bt_entry b'.bt j → (bt_entry b'.bt i ≡ none → ⊥) → i ≡ j
  once i j hi hj e ne = go (ℕ_discrete i k) (ℕ_discrete j k)
    where
      go : Dec (i ≡ k) → Dec (j ≡ k) → i ≡ j
      go (yes x) (yes y) = x ∙ sym y
      go (yes x) (no y) =
          let q : bt_entry b.bt j ≡ n = sym (ch.entry_else j y) ∙ sym e ∙ ap (bt_entry b'.bt) x ∙ ch.entry_here in
          absurd (ch.own j hj y (λ w. not_none n ch.low (sym q ∙ w)) q)
      go (no x) (yes y) =
          let q : bt_entry b.bt i ≡ n = sym (ch.entry_else i x) ∙ e ∙ ap (bt_entry b'.bt) y ∙ ch.entry_here in
          absurd (ch.own i hi x (λ w. not_none n ch.low (sym q ∙ w)) q)
      go (no x) (no y) =
          t.once i j hi hj (sym (ch.entry_else i x) ∙ e ∙ ch.entry_else j y) (λ w. ne (ch.entry_else i x ∙ w))

  used : (m : ℕ) → m < p.N → bst_at b'.bst m ≡ 1 → (i : ℕ) × (i < p.mu * p.gamma) × (bt_entry b'.bt i ≡ m)
  used m h e = go (which m)
    where
      go : Which m → (i : ℕ) × (i < p.mu * p.gamma) × (bt_entry b'.bt i ≡ m)
      go (new x) = (k, ch.index, ch.entry_here ∙ sym x)
      go (old ne x) = absurd ((state_low ch.worn_out).1 (sym (kind_old_lem m h ne x) ∙ e))
      go (else ne x) =
          let w = t.used m h (sym (ch.kind_else m h ne x) ∙ e) in
          (w.0, w.1, ch.entry_else w.0 (λ y. x (sym w.2 ∙ ap (bt_entry b.bt) y)) ∙ w.2)

  used_back : (i : ℕ) → i < p.mu * p.gamma → (m : ℕ) → m < p.N → bt_entry b'.bt i ≡ m → bst_at b'.bst m ≡ 1
  used_back i hi m h e = go (ℕ_discrete i k) (which m)
    where
      go : Dec (i ≡ k) → Which m → bst_at b'.bst m ≡ 1
      go (yes x) s = rw (sym e ∙ ap (bt_entry b'.bt) x ∙ ch.entry_here) ch.kind_here
      go (no x) (new y) = rw y ch.kind_here
      go (no x) (old ne y) =
          let q : bt_entry b.bt i ≡ m = sym (ch.entry_else i x) ∙ e in
          absurd (x (t.once i k hi ch.index (q ∙ y) (λ w. not_none m h (sym q ∙ w))))
      go (no x) (else ne y) = rw (ch.kind_else m h ne y) (t.used_back i hi m h (sym (ch.entry_else i x) ∙ e))

  -- a block that is reserved stays so, and one that becomes so is the old one, worn out
  pub reserved_stays : (m : ℕ) → m < p.N → bst_at b.bst m ≡ 2 → bst_at b'.bst m ≡ 2
  reserved_stays m h e = go (which m)
    where
      go : Which m → bst_at b'.bst m ≡ 2
      go (new x) = absurd (ch.was (ap (bst_at b.bst) (sym x) ∙ e))
      go (old ne x) = absurd (omega (arith, e, t.used_back k ch.index m h (sym x)))
      go (else ne x) = ch.kind_else m h ne x ∙ e

  pub reserved_new : (m : ℕ) → m < p.N → bst_at b'.bst m ≡ 2 → (bst_at b.bst m ≡ 2) ⊎ ((m ≡ bt_entry b.bt k) × (ch.worn_out ≡ true) × (m ≡ n → ⊥))
  reserved_new m h e = go (which m)
    where
      go : Which m → (bst_at b.bst m ≡ 2) ⊎ ((m ≡ bt_entry b.bt k) × (ch.worn_out ≡ true) × (m ≡ n → ⊥))
      go (new x) = absurd (omega (arith, ch.kind_here, ap (bst_at b'.bst) x, e))
      go (old ne x) = inr (x, state_reserved ch.worn_out (sym (kind_old_lem m h ne x) ∙ e), ne)
      go (else ne x) = inl (sym (ch.kind_else m h ne x) ∙ e)

  -- so where every reserved block is bad, it still is
  pub reserved_bad : (m : ℕ) → m < p.N → (bst_at b.bst m ≡ 2 → bad p b.chip m ≡ true) → bst_at b'.bst m ≡ 2 → bad p b'.chip m ≡ true
  reserved_bad m h was e = go (which m)
    where
      go : Which m → bad p b'.chip m ≡ true
      go (new x) = absurd (omega (arith, ch.kind_here, ap (bst_at b'.bst) x, e))
      go (old ne x) =
          let old_is : block p b'.chip m ≡ left_block p ch.worn_out = rw x (ch.block_old (λ y. ne (x ∙ y)) (λ y. not_none m h (x ∙ y))) in
          left_bad p z b'.chip m ch.worn_out old_is ∙ state_reserved ch.worn_out (sym (kind_old_lem m h ne x) ∙ e)
      go (else ne x) = bytes_bad p b.chip b'.chip m (ch.block_else m h ne x) ∙ was (sym (ch.kind_else m h ne x) ∙ e)

  -- and a reserved one keeps its bytes: it is neither the new one nor the old one
  pub reserved_block : (m : ℕ) → m < p.N → bst_at b.bst m ≡ 2 → block p b'.chip m ≡ block p b.chip m
  reserved_block m h e = go (which m)
    where
      go : Which m → block p b'.chip m ≡ block p b.chip m
      go (new x) = absurd (ch.was (ap (bst_at b.bst) (sym x) ∙ e))
      go (old ne x) = absurd (omega (arith, e, t.used_back k ch.index m h (sym x)))
      go (else ne x) = ch.block_else m h ne x

  free : (m : ℕ) → m < p.N → bst_at b'.bst m ≡ 0 → all_are 255 (block p b'.chip m) ≡ true
  free m h e = go (which m)
    where
      go : Which m → all_are 255 (block p b'.chip m) ≡ true
      go (new x) = absurd (omega (arith, ch.kind_here, ap (bst_at b'.bst) x))
      go (old ne x) =
          let old_is : block p b'.chip m ≡ left_block p ch.worn_out = rw x (ch.block_old (λ y. ne (x ∙ y)) (λ y. not_none m h (x ∙ y))) in
          rw old_is (state_free p ch.worn_out (sym (kind_old_lem m h ne x) ∙ e))
      go (else ne x) = rw (ch.block_else m h ne x) (t.free m h (sym (ch.kind_else m h ne x) ∙ e))

  pub tables_kept : Tables p b'
  tables_kept =
      record {
        chip_length = ch.chip_length;
        ct_length = ch.ct_length;
        bt_length = ch.bt_length;
        fst_length = ch.fst_length;
        bst_length = ch.bst_length;
        wear_length = ch.wear_length;
        stamps_length = ch.stamps_length;
        kinds = kinds;
        names = names;
        once = once;
        used = used;
        used_back = used_back;
        free = free;
      }
