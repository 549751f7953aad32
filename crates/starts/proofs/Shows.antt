-- A chip that shows a board: every block is as the board has it, but at most one, which is free there and holds, on the chip, frames of a virtual block whose own block is full. A start
-- on the chip finds the board's BT: a block in use is one that BT names or that one, and a full block stays before it. Where no block is left over it is said of block N, past the end.
-- Assumes nothing.
use mathlib.Core.Path.{◌≡◌, refl, sym, ap, ap₂, ◌∙◌}
use mathlib.Core.Logic.{◌⊎◌, inl, inr}
use Prim.Native.Nat.{ℕ, zero, suc, ◌+◌, ◌*◌, ◌/◌, ◌%◌, ◌≤◌, ◌<◌}
use native.Mathlib.Nat.{div-add-mod', div-lt_iff_lt-mul, mod-lt}
use native.Mathlib.Omega.{arith}
use native.Mathlib.Decide.{ℕ_discrete}
use mathlib.Core.Bool.{Bool, true, false, not, and-false, cond}
use mathlib.Core.List.{List, []}
use lib.Dec.{ltb}
use borrow.Author.Tests.{eq-eqb, ltb-true, ne_eqb}
use lib.ListN.{length}
use Rattle.lists.specs.Parts.{all_are}
use Rattle.lists.proofs.Parts.{next}
use Rattle.lists.proofs.Tests.{and_intro, never, so}
use Rattle.rules.specs.declared.Params.{Params}
use Rattle.rules.specs.Parameters.{block_bytes}
use Rattle.rules.specs.Tables.{Board, bst_at, bt_at, bt_entry, none}
use Rattle.rules.specs.Pages.{block, is_full}
use Rattle.rules.specs.Regions.{body_at, view, view_of}
use Rattle.rules.specs.Orderly.{block_rule}
use Rattle.rules.specs.Format.{bad}
use Rattle.rules.specs.Start.{found_bt, found_view, in_use, kept_block, names, names_full, region_named, sound, vblock_named}
use Rattle.rules.proofs.Isolation.{index_low}
use Rattle.rules.proofs.Replays.{block_size}
use Rattle.rules.proofs.Sizes.{Sizes}
use Rattle.rules.proofs.TableFacts.{Tables}
use Rattle.rules.proofs.Views.{block_low_lem}
use Rattle.starts.proofs.KeptBlocks.{Kept, at_is, full, full_in, full_out, kept, named_region, named_use, named_vblock, neither, none_full, open_in, open_out, part}
use Rattle.starts.proofs.UsedGood.{names_region, names_vblock, used_in_use}

-- the one block that may differ: in use, sound, not full, and the block that the board has for its virtual block is full
pub record LeftOver (p : Params) (chip : List ℕ) (b : Board) (x : ℕ) : Type 0 where
  pub used : in_use p chip x ≡ true
  pub sound : sound p (block p chip x) ≡ true
  pub unfull : is_full p (block p chip x) ≡ false
  pub has : bt_at p b.bt (region_named p (block p chip x)) (vblock_named p (block p chip x)) ≡ none → ⊥
  pub full : is_full p (block p b.chip (bt_at p b.bt (region_named p (block p chip x)) (vblock_named p (block p chip x)))) ≡ true

pub record Shows (p : Params) (chip : List ℕ) (b : Board) (x : ℕ) : Type 0 where
  pub size : length chip ≡ p.N * block_bytes p
  pub else : (m : ℕ) → m < p.N → (m ≡ x → ⊥) → block p chip m ≡ block p b.chip m
  pub free : bst_at b.bst x ≡ 0
  pub here : x < p.N → (block p chip x ≡ block p b.chip x) ⊎ LeftOver p chip b x
  -- reserved blocks are bad
  pub marked : (n : ℕ) → n < p.N → bst_at b.bst n ≡ 2 → bad p chip n ≡ true
  -- the board's used blocks obey their rule
  pub rule : (r v : ℕ) → r < p.mu → v < p.gamma → (bt_at p b.bt r v ≡ none → ⊥) → block_rule p r v (block p b.chip (bt_at p b.bt r v)) ≡ true

erased_unused : (p : Params) (chip : List ℕ) (n : ℕ) → all_are 255 (block p chip n) ≡ true → in_use p chip n ≡ false
unfolding in_use
erased_unused p chip n h = rw h (and-false (not (bad p chip n)))

bad_unused : (p : Params) (chip : List ℕ) (n : ℕ) → bad p chip n ≡ true → in_use p chip n ≡ false
unfolding in_use
bad_unused p chip n h = rw h

module _ (p : Params) (z : Sizes p) (chip : List ℕ) (b : Board) (t : Tables p b) (x : ℕ) (s : Shows p chip b x) where
  -- ---- a block that BT names is not x, and names its virtual block on the chip

  pub own_low : (r v : ℕ) → r < p.mu → v < p.gamma → (bt_at p b.bt r v ≡ none → ⊥) → bt_at p b.bt r v < p.N
  own_low r v h k ne = block_low_lem p z b t r v h k ne

  own_not : (r v : ℕ) → r < p.mu → v < p.gamma → (bt_at p b.bt r v ≡ none → ⊥) → bt_at p b.bt r v ≡ x → ⊥
  own_not r v h k ne e =
      let used : bst_at b.bst (bt_at p b.bt r v) ≡ 1 = t.used_back (r * p.gamma + v) (index_low p r v h k) (bt_at p b.bt r v) (own_low r v h k ne) (unfold bt_at in refl) in
      omega (arith, used, ap (bst_at b.bst) e, s.free)

  pub own_same : (r v : ℕ) → r < p.mu → v < p.gamma → (bt_at p b.bt r v ≡ none → ⊥) → block p chip (bt_at p b.bt r v) ≡ block p b.chip (bt_at p b.bt r v)
  own_same r v h k ne = s.else (bt_at p b.bt r v) (own_low r v h k ne) (own_not r v h k ne)

  pub own_rule : (r v : ℕ) → r < p.mu → v < p.gamma → (bt_at p b.bt r v ≡ none → ⊥) → block_rule p r v (block p chip (bt_at p b.bt r v)) ≡ true
  own_rule r v h k ne = rw (own_same r v h k ne) (s.rule r v h k ne)

  sized : (n : ℕ) → n < p.N → length (block p chip n) ≡ block_bytes p
  sized n h = block_size p chip n (rw s.size (next (block_bytes p) n p.N h))

  pub own_use : (r v : ℕ) → r < p.mu → v < p.gamma → (bt_at p b.bt r v ≡ none → ⊥) → names p chip r v (bt_at p b.bt r v) ≡ true
  unfolding names
  own_use r v h k ne =
      let n = bt_at p b.bt r v in
      let w = own_rule r v h k ne in
      and_intro (used_in_use p z r v chip n (sized n (own_low r v h k ne)) w)
      (and_intro (eq-eqb _ _ (names_region p z r v (block p chip n) w)) (eq-eqb _ _ (names_vblock p z r v (block p chip n) w)))

  -- ---- a block in use is one that BT names, or x

  -- a used block by its region and virtual block
  pub owner : (n : ℕ) → n < p.N → bst_at b.bst n ≡ 1 → (r : ℕ) × (v : ℕ) × (r < p.mu) × (v < p.gamma) × (bt_at p b.bt r v ≡ n)
  unfolding bt_at
  owner n h q =
      let w = t.used n h q in
      (w.0 / p.gamma, w.0 % p.gamma, (div-lt_iff_lt-mul z.vblocks).1 w.1, mod-lt w.0 z.vblocks, ap (bt_entry b.bt) (div-add-mod' w.0 p.gamma) ∙ w.2)

  pub data InUse (n : ℕ) : Type 0 where
    own : (r v : ℕ) → r < p.mu → v < p.gamma → bt_at p b.bt r v ≡ n → InUse n
    left : n ≡ x → LeftOver p chip b x → InUse n

  pub in_use_lem : (n : ℕ) → n < p.N → in_use p chip n ≡ true → InUse n
  in_use_lem n h u = go (ℕ_discrete n x)
    where
      kind : (n ≡ x → ⊥) → (m : ℕ) → bst_at b.bst n ≡ m → m ≤ 2 → InUse n
      kind k zero q l =
          let f : all_are 255 (block p chip n) ≡ true = rw (s.else n h k) (t.free n h q) in
          absurd (never u (erased_unused p chip n f))
      kind k (suc zero) q l = let w = owner n h q in own w.0 w.1 w.2 w.3 w.4
      kind k (suc (suc zero)) q l = absurd (never u (bad_unused p chip n (s.marked n h q)))
      kind k (suc (suc (suc m))) q l = absurd (omega arith)

      go : Dec (n ≡ x) → InUse n
      go (no k) = kind k (bst_at b.bst n) refl (t.kinds n h)
      go (yes k) = pick (s.here (rw (← k) h))
        where
          pick : (block p chip x ≡ block p b.chip x) ⊎ LeftOver p chip b x → InUse n
          pick (inl f) =
              let a : all_are 255 (block p chip x) ≡ true = rw f (t.free x (rw (← k) h) s.free) in
              absurd (never u (ap (in_use p chip) k ∙ erased_unused p chip x a))
          pick (inr f) = left k f

  -- so what names a virtual block on the chip is the block that BT names for it, or x
  pub namer : (r v n : ℕ) → n < p.N → names p chip r v n ≡ true → (bt_at p b.bt r v ≡ n) ⊎ ((n ≡ x) × LeftOver p chip b x)
  namer r v n h e = go (in_use_lem n h (named_use p z chip r v n e))
    where
      go : InUse n → (bt_at p b.bt r v ≡ n) ⊎ ((n ≡ x) × LeftOver p chip b x)
      go (left k l) = inr (k, l)
      go (own r₁ v₁ hr hv at) =
          let ne : bt_at p b.bt r₁ v₁ ≡ none → ⊥ = λ y. omega (arith, at, y, h, z.blocks) in
          let l : block_rule p r₁ v₁ (block p chip n) ≡ true = rw at at (own_rule r₁ v₁ hr hv ne) in
          let er = sym (names_region p z r₁ v₁ (block p chip n) l) ∙ named_region p z chip r v n e in
          let ev = sym (names_vblock p z r₁ v₁ (block p chip n) l) ∙ named_vblock p z chip r v n e in
          inl (sym (ap₂ (bt_at p b.bt) er ev) ∙ at)

  -- the full block that names it is the one that BT names
  pub one_full : (r v n : ℕ) → n < p.N → names_full p chip r v n ≡ true → bt_at p b.bt r v ≡ n
  one_full r v n h e = go (namer r v n h (full_in p z chip r v n e).0)
    where
      go : (bt_at p b.bt r v ≡ n) ⊎ ((n ≡ x) × LeftOver p chip b x) → bt_at p b.bt r v ≡ n
      go (inl k) = k
      go (inr (k, l)) = absurd (never (full_in p z chip r v n e).1 (ap (λ (y : ℕ). is_full p (block p chip y)) k ∙ l.unfull))

  -- beside x the block that BT names is full
  pub beside : (r v : ℕ) → r < p.mu → v < p.gamma → names p chip r v x ≡ true → LeftOver p chip b x
      → (bt_at p b.bt r v ≡ none → ⊥) × (names_full p chip r v (bt_at p b.bt r v) ≡ true)
  beside r v h k e l =
      let er = named_region p z chip r v x e in
      let ev = named_vblock p z chip r v x e in
      let ne : bt_at p b.bt r v ≡ none → ⊥ = rw (er, ev) at l.has in
      let f : is_full p (block p b.chip (bt_at p b.bt r v)) ≡ true = rw (er, ev) at l.full in
      (ne, full_out p z chip r v (bt_at p b.bt r v) (own_use r v h k ne) (rw (own_same r v h k ne) f))

  -- ---- what is found

  pub kept_is : (r v : ℕ) → r < p.mu → v < p.gamma → kept_block p chip r v ≡ bt_at p b.bt r v
  kept_is r v h k = go (kept p z chip r v)
    where
      go : Kept p z chip r v → kept_block p chip r v ≡ bt_at p b.bt r v
      go (full l e) = sym (one_full r v (kept_block p chip r v) l e)
      go (part l f e) = pick (namer r v (kept_block p chip r v) l (open_in p z chip r v (kept_block p chip r v) e).0)
        where
          pick : (bt_at p b.bt r v ≡ kept_block p chip r v) ⊎ ((kept_block p chip r v ≡ x) × LeftOver p chip b x) → kept_block p chip r v ≡ bt_at p b.bt r v
          pick (inl q) = sym q
          pick (inr (q, w)) =
              let d = beside r v h k (rw q at (open_in p z chip r v (kept_block p chip r v) e).0) w in
              absurd (never d.1 (none_full p z chip r v f (bt_at p b.bt r v) (own_low r v h k d.0)))
      go (neither e f o) = pick (ℕ_discrete (bt_at p b.bt r v) none)
        where
          pick : Dec (bt_at p b.bt r v ≡ none) → kept_block p chip r v ≡ bt_at p b.bt r v
          pick (yes q) = e ∙ sym q
          pick (no q) = absurd (either (so (is_full p (block p chip (bt_at p b.bt r v)))))
            where
              either : (is_full p (block p chip (bt_at p b.bt r v)) ≡ true) ⊎ (is_full p (block p chip (bt_at p b.bt r v)) ≡ false) → ⊥
              either (inl y) = never (full_out p z chip r v (bt_at p b.bt r v) (own_use r v h k q) y) (f (bt_at p b.bt r v) (own_low r v h k q))
              either (inr y) = never (open_out p z chip r v (bt_at p b.bt r v) (own_use r v h k q) y) (o (bt_at p b.bt r v) (own_low r v h k q))

  -- BT, entry by entry
  pub bt_is_lem : (r v : ℕ) → r < p.mu → v < p.gamma → bt_at p (found_bt p chip) r v ≡ bt_at p b.bt r v
  bt_is_lem r v h k = at_is p z chip r v h k ∙ kept_is r v h k

  -- and so the bytes of every virtual block
  pub found_body : (r : ℕ) → r < p.mu → (v : ℕ) → (found_view p chip (found_bt p chip) r).body v ≡ (view p b r).body v
  unfolding found_view view_of
  found_body r h v = go (ltb v p.gamma) refl
    where
      go : (c : Bool) → ltb v p.gamma ≡ c → cond c (body_at p chip (bt_at p (found_bt p chip) r v)) [] ≡ cond c (body_at p b.chip (bt_at p b.bt r v)) []
      go false e = refl
      go true e = rw (bt_is_lem r v h k) (pick (ℕ_discrete (bt_at p b.bt r v) none))
        where
          k : v < p.gamma
          k = ltb-true v p.gamma e

          pick : Dec (bt_at p b.bt r v ≡ none) → body_at p chip (bt_at p b.bt r v) ≡ body_at p b.chip (bt_at p b.bt r v)
          pick (yes q) = unfold body_at in rw (eq-eqb (bt_at p b.bt r v) none q)
          pick (no q) = unfold body_at in rw (ne_eqb (bt_at p b.bt r v) none q) (own_same r v h k q)
