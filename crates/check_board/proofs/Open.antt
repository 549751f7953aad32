-- FST's rule, block by block: where the blocks of a region are as they should be, what is asked of FST's entry and then of each block's frames is the rule.
-- Assumes nothing.
use mathlib.Core.Path.{◌≡◌, ap, refl, sym, ◌∙◌}
use mathlib.Core.Logic.{◌⊎◌, inl, inr}
use mathlib.Core.Bool.{◌&&◌, Bool, cond, false, false≢true, not, true}
use mathlib.Core.List.{List}
use Prim.Native.Nat.{ℕ, ◌*◌, ◌-◌, ◌<◌, ◌≤◌}
use native.Mathlib.Decide.{ℕ_discrete}
use native.Mathlib.Nat.{div-lt_iff_lt-mul}
use native.Mathlib.Omega.{arith}
use lib.Dec.{eqb, ltb}
use borrow.Author.Tests.{eq-eqb, eqb-false, eqb-true, ltb-true, ne_eqb, not-true}
use Rattle.lists.specs.Below.{all_below}
use Rattle.lists.proofs.Tests.{all_at, all_below_intro, and_intro, and_left, and_right, so}
use Rattle.rules.specs.declared.Params.{Params}
use Rattle.rules.specs.Numbers.{segment_of, vblock_of}
use Rattle.rules.specs.Pages.{block, filled, frame, programmed}
use Rattle.rules.specs.Parameters.{frames}
use Rattle.rules.specs.Tables.{bt_at, none}
use Rattle.rules.proofs.RegionFacts.{filled_le, last_full}
use Rattle.rules.proofs.Sizes.{Sizes}
use Rattle.check_tables.specs.Entries.{empty_at}
use Rattle.check_rules.specs.Check.{full_ok, open_ok, vblock_frames, vblock_frames_to, vblock_ok, vblock_stamps}
use Rattle.check_blocks.proofs.Blocks.{frames_some, vblock_low_lem}
use Rattle.check_board.specs.Order.{entry_ok, frames_ok}
use Rattle.check_board.proofs.Blocks.{rule_of_block}

-- no frames are never right, so where they are right the test before them held
pub framed : (p : Params) (sg v k : ℕ) (t : Bool) → frames_ok p sg v (cond t k 0) ≡ true → (t ≡ true) × (frames_ok p sg v k ≡ true)
unfolding frames_ok
framed p sg v k true h = (refl, h)
framed p sg v k false h = absurd (false≢true h)

module _ (p : Params) (z : Sizes p) (chip bt bst : List ℕ) (r : ℕ) where
  abbrev n : ℕ → ℕ
  n v = bt_at p bt r v

  abbrev k : ℕ → ℕ
  k v = vblock_frames p chip bt bst r v

  -- a block has at most F programmed frames
  pub frames_le : (v : ℕ) → k v ≤ frames p
  unfolding vblock_frames
  frames_le v = go (so (vblock_ok p chip bt bst r v)) (so (eqb (n v) none))
    where
      go : (vblock_ok p chip bt bst r v ≡ true) ⊎ (vblock_ok p chip bt bst r v ≡ false) → (eqb (n v) none ≡ true) ⊎ (eqb (n v) none ≡ false)
          → cond (vblock_ok p chip bt bst r v) (cond (eqb (n v) none) (frames p) (filled p (block p chip (n v)))) 0 ≤ frames p
      go (inl x) (inl y) = rw (x, y) (omega arith)
      go (inl x) (inr y) = rw (x, y) (filled_le p (block p chip (n v)))
      go (inr x) y = rw x (omega arith)

  -- where they are right, the block is as it should be
  pub frames_block : (sg v : ℕ) → frames_ok p sg v (k v) ≡ true → vblock_ok p chip bt bst r v ≡ true
  unfolding frames_ok
  frames_block sg v h = sym (frames_some p z chip bt bst r v) ∙ and_left (not (eqb (k v) 0)) _ h

  -- the same of the frames that are counted where the stamps are right too
  pub to_le : (last v : ℕ) → vblock_frames_to p chip bt bst last r v ≤ frames p
  unfolding vblock_frames_to
  to_le last v = go (vblock_stamps p chip bt last r v)
    where
      go : (t : Bool) → cond t (k v) 0 ≤ frames p
      go true = frames_le v
      go false = omega arith

  pub to_block : (last sg v : ℕ) → frames_ok p sg v (vblock_frames_to p chip bt bst last r v) ≡ true → vblock_ok p chip bt bst r v ≡ true
  unfolding vblock_frames_to
  to_block last sg v h = frames_block sg v (framed p sg v (k v) (vblock_stamps p chip bt last r v) h).1

  module _ (blocks : (v : ℕ) → v < p.gamma → vblock_ok p chip bt bst r v ≡ true) (sg : ℕ) where
    abbrev o : ℕ
    o = vblock_of p sg

    some : (v : ℕ) → v < p.gamma → not (eqb (k v) 0) ≡ true
    some v h = frames_some p z chip bt bst r v ∙ blocks v h

    without : (v : ℕ) → v < p.gamma → n v ≡ none → k v ≡ frames p
    unfolding vblock_frames
    without v h e = rw (blocks v h, eq-eqb (n v) none e)

    with_block : (v : ℕ) → v < p.gamma → (n v ≡ none → ⊥) → k v ≡ filled p (block p chip (n v))
    unfolding vblock_frames
    with_block v h ne = rw (blocks v h, ne_eqb (n v) none ne)

    -- a block is full exactly if its last frame is programmed
    full_is_lem : (v : ℕ) → v < p.gamma → (n v ≡ none → ⊥) → eqb (k v) (frames p) ≡ programmed p (frame p (block p chip (n v)) (frames p - 1))
    full_is_lem v h ne = rw (with_block v h ne) (last_full p z r v (block p chip (n v)) (rule_of_block p chip bt bst r v (blocks v h) ne))

    abbrev Right : ℕ → Type 0
    Right v = cond (eqb v o) (eqb (segment_of p v (k v - 1)) sg) (eqb (k v) (frames p)) ≡ true

    -- FST's rule
    abbrev Rule : Bool
    Rule = cond (empty_at p bt r) (eqb sg none) (open_ok p chip bt r sg)

    pub rule_of_frames : entry_ok p bt r sg ≡ true → ((v : ℕ) → v < p.gamma → frames_ok p sg v (k v) ≡ true) → Rule ≡ true
    unfolding entry_ok frames_ok full_ok open_ok
    rule_of_frames h f = go (so (empty_at p bt r))
      where
        right : (v : ℕ) → v < p.gamma → Right v
        right v hv = and_right (not (eqb (k v) 0)) (f v hv)

        full : (v : ℕ) → v < p.gamma → full_ok p chip bt r o v ≡ true
        full v hv = at (so (eqb v o)) (ℕ_discrete (n v) none)
          where
            at : (eqb v o ≡ true) ⊎ (eqb v o ≡ false) → Dec (n v ≡ none)
                → cond (eqb v o) true (cond (eqb (n v) none) true (programmed p (frame p (block p chip (n v)) (frames p - 1)))) ≡ true
            at (inl x) d = rw x
            at (inr x) (yes d) = rw (x, eq-eqb (n v) none d)
            at (inr x) (no d) = rw (x, ne_eqb (n v) none d) (sym (full_is_lem v hv d) ∙ (rw x at (right v hv)))

        go : (empty_at p bt r ≡ true) ⊎ (empty_at p bt r ≡ false) → Rule ≡ true
        go (inl e) = rw e (rw e at h)
        go (inr e) =
            let w : ltb sg (p.gamma * p.d) && not (eqb (n o) none) ≡ true = rw e at h in
            let a : ltb sg (p.gamma * p.d) ≡ true = and_left (ltb sg (p.gamma * p.d)) _ w in
            let ne : not (eqb (n o) none) ≡ true = and_right (ltb sg (p.gamma * p.d)) w in
            let low : o < p.gamma = vblock_low_lem p.gamma p.d sg z.segments (ltb-true sg (p.gamma * p.d) a) in
            let seg : eqb (segment_of p o (k o - 1)) sg ≡ true = rw (eq-eqb o o refl) at (right o low) in
            let here : segment_of p o (k o - 1) ≡ sg = eqb-true (segment_of p o (k o - 1)) sg seg in
            let last : sg ≡ segment_of p o (filled p (block p chip (n o)) - 1) = sym (rw (with_block o low (eqb-false (n o) none (not-true (eqb (n o) none) ne))) at here) in
            rw e (and_intro a (and_intro ne (and_intro (eq-eqb sg _ last) (all_below_intro p.gamma _ full))))

    pub frames_of_rule : Rule ≡ true → (entry_ok p bt r sg ≡ true) × ((v : ℕ) → v < p.gamma → frames_ok p sg v (k v) ≡ true)
    unfolding entry_ok frames_ok full_ok open_ok
    frames_of_rule h = go (so (empty_at p bt r))
      where
        -- with no block, no virtual block is the one of none
        idle : all_below p.gamma (λ v. eqb (n v) none) ≡ true → sg ≡ none → (v : ℕ) → v < p.gamma → Right v
        idle e s v hv =
            let high : o < p.gamma → ⊥ = λ h. let under : sg < p.gamma * p.d = (div-lt_iff_lt-mul z.segments).0 h in omega (arith, under, s, z.few) in
            let other : v ≡ o → ⊥ = λ q. high (rw q at hv) in
            rw (ne_eqb v o other, without v hv (eqb-true _ _ (all_at p.gamma (λ v. eqb (n v) none) e v hv))) (eq-eqb (frames p) (frames p) refl)

        busy : ltb sg (p.gamma * p.d) ≡ true → not (eqb (n o) none) ≡ true → eqb sg (segment_of p o (filled p (block p chip (n o)) - 1)) ≡ true
            → all_below p.gamma (full_ok p chip bt r o) ≡ true → (v : ℕ) → v < p.gamma → Right v
        busy a ne s f v hv = at (so (eqb v o)) (ℕ_discrete (n v) none)
          where
            low : o < p.gamma
            low = vblock_low_lem p.gamma p.d sg z.segments (ltb-true sg (p.gamma * p.d) a)

            here : eqb (segment_of p o (k o - 1)) sg ≡ true
            here = rw (with_block o low (eqb-false (n o) none (not-true _ ne))) (eq-eqb _ sg (sym (eqb-true sg _ s)))

            at : (eqb v o ≡ true) ⊎ (eqb v o ≡ false) → Dec (n v ≡ none) → Right v
            at (inl x) d = rw x (ap (λ (u : ℕ). eqb (segment_of p u (k u - 1)) sg) (eqb-true v o x) ∙ here)
            at (inr x) (yes d) = rw (x, without v hv d) (eq-eqb (frames p) (frames p) refl)
            at (inr x) (no d) = rw x (full_is_lem v hv d ∙ (rw (x, ne_eqb (n v) none d) at (all_at p.gamma (full_ok p chip bt r o) f v hv)))

        go : (empty_at p bt r ≡ true) ⊎ (empty_at p bt r ≡ false)
            → (cond (empty_at p bt r) (eqb sg none) (ltb sg (p.gamma * p.d) && not (eqb (n o) none)) ≡ true)
            × ((v : ℕ) → v < p.gamma → not (eqb (k v) 0) && cond (eqb v o) (eqb (segment_of p v (k v - 1)) sg) (eqb (k v) (frames p)) ≡ true)
        go (inl e) =
            let s : eqb sg none ≡ true = rw e at h in
            (rw e s, λ v hv. and_intro (some v hv) (idle (unfold empty_at in e) (eqb-true sg none s) v hv))
        go (inr e) =
            let w : open_ok p chip bt r sg ≡ true = rw e at h in
            let a = and_left (ltb sg (p.gamma * p.d)) _ w in
            let u = and_right (ltb sg (p.gamma * p.d)) w in
            let ne = and_left (not (eqb (n o) none)) _ u in
            let t = and_right (not (eqb (n o) none)) u in
            let s = and_left (eqb sg (segment_of p o (filled p (block p chip (n o)) - 1))) _ t in
            let f = and_right (eqb sg (segment_of p o (filled p (block p chip (n o)) - 1))) t in
            (rw e (and_intro a ne), λ v hv. and_intro (some v hv) (busy a ne s f v hv))
