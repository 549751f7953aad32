-- A start that is not refused, on any chip, leaves an orderly state: each region's view has the bytes that were found, and the entries made of them. No byte of a kept block changes.
-- Assumes nothing.
use mathlib.Core.Path.{◌≡◌, refl, sym, ap, ◌∙◌}
use mathlib.Core.Logic.{◌⊎◌, inl, inr}
use Prim.Native.Nat.{ℕ, ◌<◌}
use native.Mathlib.Decide.{ℕ_discrete}
use mathlib.Core.Bool.{Bool, true, false, not, cond}
use mathlib.Core.List.{List, []}
use lib.Dec.{eqb, ltb}
use borrow.Author.Tests.{eq-eqb, ltb-true, ne_eqb, not-false, not-true}
use Rattle.lists.specs.Below.{all_below}
use Rattle.lists.proofs.Lists.{list_at}
use Rattle.lists.proofs.Tests.{all_at, and_right, so, some_fails}
use Rattle.rules.specs.declared.Params.{Params}
use Rattle.rules.specs.Numbers.{region_of}
use Rattle.rules.specs.Tables.{Board, bt_at, ct_at, fst_at, none, stamp_at}
use Rattle.rules.specs.Pages.{block, filled}
use Rattle.rules.specs.Regions.{assigned, body_at, largest_stamp, view, view_of}
use Rattle.rules.specs.Marks.{marks_of}
use Rattle.rules.specs.Orderly.{block_rule, orderly, stamp_rule}
use Rattle.rules.specs.Start.{found_bt, found_fst, found_segment, found_view, kept_block, open_once, region_named, sound, stamps_apart, started, vblock_named}
use Rattle.rules.specs.Replies.{lengths_fit}
use Rattle.rules.proofs.Admitted.{orderly_all}
use Rattle.rules.proofs.RegionFacts.{Entry, UpTo, block_in, neat_none, neat_out, region_orderly}
use Rattle.rules.proofs.Sizes.{Sizes, sizes}
use Rattle.rules.proofs.Stamps.{stamps_out}
use Rattle.rules.proofs.TableFacts.{Tables, lengths_out}
use Rattle.rules.proofs.Views.{body_some, has_block}
use Rattle.starts.specs.Admitted.{StartAdmitted}
use Rattle.starts.proofs.Found.{entry_found, largest_bounds, none_found, open_found, same_apart, same_fst, same_largest, same_once, same_segment}
use Rattle.starts.proofs.KeptBlocks.{at_is, kept_names, kept_stays, named_region, named_use, named_vblock, opened_once, sounds, stamps_apart_lem}
use Rattle.starts.proofs.StartTables.{start_tables, swept}

own_rule : (p : Params) (r v : ℕ) (blk : List ℕ) → sound p blk ≡ true → region_named p blk ≡ r → vblock_named p blk ≡ v → block_rule p r v blk ≡ true
unfolding sound
own_rule p r v blk s x y = rw (x, y) at (and_right (ltb (vblock_named p blk) p.gamma) s)

-- ---- the regions of a started board

module _ (p : Params) (b : Board) (acc : StartAdmitted p b) where
  z : Sizes p
  z = sizes p acc.fine

  t : Tables p (started p b)
  t = start_tables p b acc

  module _ (r : ℕ) (region : r < p.mu) where
    stays : (v : ℕ) → v < p.gamma → (bt_at p (found_bt p b.chip) r v ≡ none → ⊥)
        → block p (started p b).chip (bt_at p (found_bt p b.chip) r v) ≡ block p b.chip (bt_at p (found_bt p b.chip) r v)
    stays v h ne =
        let e = at_is p z b.chip r v region h in
        rw e ((swept p b acc).kept (kept_block p b.chip r v) (kept_stays p z b.chip r v (λ x. ne (e ∙ x))))

    slot : (v : ℕ) → v < p.gamma → body_at p (started p b).chip (bt_at p (found_bt p b.chip) r v) ≡ body_at p b.chip (bt_at p (found_bt p b.chip) r v)
    unfolding body_at
    slot v h = go (ℕ_discrete (bt_at p (found_bt p b.chip) r v) none)
      where
        go : Dec (bt_at p (found_bt p b.chip) r v ≡ none)
            → cond (eqb (bt_at p (found_bt p b.chip) r v) none) [] (block p (started p b).chip (bt_at p (found_bt p b.chip) r v))
            ≡ cond (eqb (bt_at p (found_bt p b.chip) r v) none) [] (block p b.chip (bt_at p (found_bt p b.chip) r v))
        go (yes e) = rw (eq-eqb (bt_at p (found_bt p b.chip) r v) none e)
        go (no e) = rw (ne_eqb (bt_at p (found_bt p b.chip) r v) none e) (stays v h e)

    -- no byte of a block that is kept changes
    pub body_same : (v : ℕ) → (found_view p b.chip (found_bt p b.chip) r).body v ≡ (view p (started p b) r).body v
    unfolding found_view view_of started
    body_same v = go (ltb v p.gamma) refl
      where
        go : (t : Bool) → ltb v p.gamma ≡ t → cond t (body_at p b.chip (bt_at p (found_bt p b.chip) r v)) [] ≡ cond t (body_at p (started p b).chip (bt_at p (found_bt p b.chip) r v)) []
        go true e = sym (slot v (ltb-true v p.gamma e))
        go false e = refl

    -- so what is found is found in the view that is left
    pub once_left : open_once p (view p (started p b) r) ≡ true
    once_left = sym (same_once p (found_view p b.chip (found_bt p b.chip) r) (view p (started p b) r) body_same) ∙ opened_once p z b.chip acc.starts r region

    pub apart_left : stamps_apart p (view p (started p b) r) ≡ true
    apart_left = sym (same_apart p (found_view p b.chip (found_bt p b.chip) r) (view p (started p b) r) body_same) ∙ stamps_apart_lem p z b.chip acc.starts r region

    last_is : (view p (started p b) r).last_seg ≡ found_fst p (view p (started p b) r)
    unfolding view_of fst_at started
    last_is =
        list_at p.mu (λ r. found_fst p (found_view p b.chip (found_bt p b.chip) r)) r none region
        ∙ same_fst p (found_view p b.chip (found_bt p b.chip) r) (view p (started p b) r) body_same

    named_some : (v : ℕ) → v < p.gamma → assigned (view p (started p b) r) v ≡ true → bt_at p (found_bt p b.chip) r v ≡ none → ⊥
    unfolding started
    named_some v h a = has_block p z (started p b) t r v region h a

    body_here_lem : (v : ℕ) → v < p.gamma → assigned (view p (started p b) r) v ≡ true → (view p (started p b) r).body v ≡ block p (started p b).chip (bt_at p (found_bt p b.chip) r v)
    unfolding started
    body_here_lem v h a = body_some p z (started p b) t r v region h (named_some v h a)

    -- each of its blocks is one that names it, and is sound
    pub rule_left : (v : ℕ) → v < p.gamma → (bt_at p (found_bt p b.chip) r v ≡ none → ⊥) → block_rule p r v (block p (started p b).chip (bt_at p (found_bt p b.chip) r v)) ≡ true
    rule_left v h ne =
        let e = at_is p z b.chip r v region h in
        let k = kept_names p z b.chip r v (λ x. ne (e ∙ x)) in
        let s = sounds p z b.chip acc.starts (kept_block p b.chip r v) k.0 (named_use p z b.chip r v _ k.1) in
        rw (stays v h ne, e) (own_rule p r v (block p b.chip (kept_block p b.chip r v)) s (named_region p z b.chip r v _ k.1) (named_vblock p z b.chip r v _ k.1))

    blocks : (v : ℕ) → v < p.gamma → assigned (view p (started p b) r) v ≡ true
        → (0 < filled p ((view p (started p b) r).body v)) × UpTo p r v (filled p ((view p (started p b) r).body v)) ((view p (started p b) r).body v)
    blocks v h a = block_in p r v ((view p (started p b) r).body v) (rw (body_here_lem v h a) (rule_left v h (named_some v h a)))

    entries : (c : ℕ) → c < p.C → ((view p (started p b) r).seg_of c ≡ none) ⊎ Entry p (view p (started p b) r) c
    entries c h = go (ℕ_discrete (region_of p c) r)
      where
        go : Dec (region_of p c ≡ r) → ((view p (started p b) r).seg_of c ≡ none) ⊎ Entry p (view p (started p b) r) c
        go (yes e) = entry_found p z (view p (started p b) r) c (mine e)
          where
            found : region_of p c ≡ r → (view p (started p b) r).seg_of c ≡ found_segment p (found_view p b.chip (found_bt p b.chip) (region_of p c)) c
            found e =
                unfold view_of ct_at started in rw (eq-eqb (region_of p c) r e) (list_at p.C (λ c. found_segment p (found_view p b.chip (found_bt p b.chip) (region_of p c)) c) c none h)

            mine : region_of p c ≡ r → (view p (started p b) r).seg_of c ≡ found_segment p (view p (started p b) r) c
            mine e =
                found e ∙ ap (λ (x : ℕ). found_segment p (found_view p b.chip (found_bt p b.chip) x) c) e
                ∙ same_segment p (found_view p b.chip (found_bt p b.chip) r) (view p (started p b) r) body_same c
        go (no e) = inl (unfold view_of in rw (ne_eqb (region_of p c) r e))

    pub region_orderly_lem : region_orderly p r (view p (started p b) r) ≡ true
    region_orderly_lem = go (so (all_below p.gamma (λ v. not (assigned (view p (started p b) r) v))))
      where
        some : (v : ℕ) → v < p.gamma → assigned (view p (started p b) r) v ≡ true → 0 < filled p ((view p (started p b) r).body v)
        some v h a = (blocks v h a).0

        lacking : all_below p.gamma (λ v. not (assigned (view p (started p b) r) v)) ≡ true → region_orderly p r (view p (started p b) r) ≡ true
        lacking e =
            let none_here : (v : ℕ) → v < p.gamma → assigned (view p (started p b) r) v ≡ false = λ v h. not-true _ (all_at p.gamma (λ v. not (assigned (view p (started p b) r) v)) e v h) in
            neat_none p r (view p (started p b) r) none_here (none_found p z (view p (started p b) r) last_is none_here) entries

        go : (all_below p.gamma (λ v. not (assigned (view p (started p b) r) v)) ≡ true) ⊎ (all_below p.gamma (λ v. not (assigned (view p (started p b) r) v)) ≡ false)
            → region_orderly p r (view p (started p b) r) ≡ true
        go (inr e) =
            let w = some_fails p.gamma _ e in
            let a = not-false _ w.2 in
            neat_out p r (view p (started p b) r) w.0 w.1 a blocks (open_found p z (view p (started p b) r) last_is once_left some w.0 w.1 a) entries
        go (inl e) = lacking e

  -- the marks are those of the board that is left
  pub start_marks : (started p b).marks ≡ marks_of p (started p b)
  unfolding started
  start_marks = refl

  pub start_stamp : (r : ℕ) → r < p.mu → stamp_at (started p b).stamps r ≡ largest_stamp p (view p (started p b) r)
  unfolding stamp_at started
  start_stamp r h =
      list_at p.mu (λ r. largest_stamp p (found_view p b.chip (found_bt p b.chip) r)) r 0 h
      ∙ same_largest p (found_view p b.chip (found_bt p b.chip) r) (view p (started p b) r) (body_same r h)

  start_stamps : stamp_rule p (started p b) ≡ true
  start_stamps = stamps_out p (started p b) (λ r h. rw (start_stamp r h) (largest_bounds p z (view p (started p b) r)))

  pub start_orderly : orderly p (started p b) ≡ true
  start_orderly = orderly_all p (started p b) z t (λ r h. region_orderly_lem r h) start_marks start_stamps

  pub start_lengths : lengths_fit p (started p b) ≡ true
  start_lengths = lengths_out p (started p b) t start_marks
