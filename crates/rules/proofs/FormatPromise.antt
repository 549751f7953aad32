-- An accepted format leaves an orderly state, whose sectors all read as 255, does not touch a bad block, and erases every other, with a mark on those that it wears out.
-- Assumes nothing.
use mathlib.Core.Path.{◌≡◌, refl, sym, ap, ◌∙◌}
use mathlib.Core.Logic.{inl}
use Prim.Native.Nat.{ℕ, ◌+◌, ◌*◌, ◌≤◌, ◌<◌}
use native.Mathlib.Omega.{arith}
use native.Mathlib.Decide.{dec_lt}
use mathlib.Core.Bool.{Bool, true, false, not, ◌&&◌, cond}
use mathlib.Core.List.{List, []}
use lib.Dec.{eqb, ltb}
use lib.ListN.{length, get_or, replicate, length-replicate, get_or-replicate, get_or-eq_default}
use Rattle.lists.specs.Below.{count_below}
use Rattle.lists.proofs.Joins.{tab_at, tab_length}
use borrow.Author.Tests.{le-leb, leb-false, lt-leb, lt-ltb, ltb-true}
use Rattle.lists.proofs.Tests.{count_cong, never}
use Rattle.rules.specs.declared.Params.{Params}
use Rattle.rules.specs.declared.Reply.TheVariants.{Accepted}
use Rattle.rules.specs.Parameters.{block_bytes}
use Rattle.rules.specs.Numbers.{region_of}
use Rattle.rules.specs.Tables.{Board, bst_at, bt_at, bt_entry, ct_at, fst_at, none}
use Rattle.rules.specs.Pages.{block}
use Rattle.rules.specs.Regions.{assigned, body_at, sector, sector_in, view, view_of}
use Rattle.rules.specs.Marks.{marks_of}
use Rattle.rules.specs.Requests.{format}
use Rattle.rules.specs.Orderly.{enough, orderly, stamp_rule}
use Rattle.rules.specs.Traces.{erase_where, erased_state, worn}
use Rattle.rules.specs.Format.{bad, format_ops, formatted, good_blocks}
use Rattle.rules.specs.Replies.{lengths_fit, reply_of, too_few_blocks}
use Rattle.rules.specs.Words.{SixExactly}
use Rattle.rules.proofs.Admitted.{FormatAdmitted, format_admitted, orderly_all}
use Rattle.rules.proofs.Erases.{Cleared, erases_ran, erases_below}
use Rattle.rules.proofs.RegionFacts.{neat_none, region_orderly}
use Rattle.rules.proofs.Sizes.{Sizes, sizes}
use Rattle.rules.proofs.Stamps.{programmed_has, stamps_out}
use Rattle.rules.proofs.TableFacts.{Lengths, Tables, lengths_in, lengths_out}
use Rattle.rules.proofs.WornBlocks.{left_block, state_free}
use Rattle.rules.proofs.Writes.{wear_length_lem}

-- ---- which blocks it reserves

-- a bad or a worn block is reserved, every other is free
two : (t w : Bool) → (cond {A = ℕ} t 2 (cond w 2 0) ≤ 2) × (cond {A = ℕ} t 2 (cond w 2 0) ≡ 1 → ⊥) × (cond {A = ℕ} t 2 (cond w 2 0) ≡ 0 → (t ≡ false) × (w ≡ false))
    × (not (eqb (cond t 2 (cond w 2 0)) 2) ≡ not t && not w)
two true w = (omega arith, λ x. omega arith, λ x. absurd (omega arith), refl)
two false true = (omega arith, λ x. omega arith, λ x. absurd (omega arith), refl)
two false false = (omega arith, λ x. omega arith, λ x. (refl, refl), refl)

pub kind : (p : Params) (b : Board) (m : ℕ) → m < p.N → bst_at (formatted p b).bst m ≡ cond (bad p b.chip m) 2 (cond (worn p b.wear m) 2 0)
unfolding bst_at formatted erased_state
kind p b m h = tab_at p.N (λ n. cond (bad p b.chip n) 2 (cond (worn p b.wear n) 2 0)) m 0 h

-- the blocks that are not are those that its reply counts
left_good : (p : Params) (b : Board) → count_below p.N (λ m. not (eqb (bst_at (formatted p b).bst m) 2)) ≡ good_blocks p b.chip b.wear
unfolding good_blocks
left_good p b =
    count_cong p.N (λ m. not (eqb (bst_at (formatted p b).bst m) 2)) (λ m. not (bad p b.chip m) && not (worn p b.wear m))
    (λ m h. rw (kind p b m h) (two (bad p b.chip m) (worn p b.wear m)).3)

pub six_exactly : SixExactly
unfolding too_few_blocks enough
six_exactly p b =
    let left = count_below p.N (λ m. not (eqb (bst_at (formatted p b).bst m) 2)) in (
      λ few. lt-leb (p.mu * p.gamma + 1) left (rw (left_good p b) (ltb-true _ _ few)),
      λ short. lt-ltb (good_blocks p b.chip b.wear) (p.mu * p.gamma + 1) (rw (left_good p b) at (leb-false (p.mu * p.gamma + 1) left short)),
    )

-- ---- the state that is left

module _ (p : Params) (b : Board) (e : reply_of p b format ≡ Accepted) where
  checks : FormatAdmitted p b
  checks = format_admitted p b e

  z : Sizes p
  z = sizes p checks.fine

  lengths : Lengths p b
  lengths = lengths_in p b checks.lengths

  chip_fits : length b.chip ≡ p.N * block_bytes p
  chip_fits = lengths.chip_length

  abbrev good : ℕ → Bool
  good n = not (bad p b.chip n)

  cleared : Cleared p b.wear good b.chip (formatted p b).chip p.N
  unfolding formatted format_ops erase_where erases_below
  cleared = erases_ran p z b.wear good b.chip chip_fits p.N (omega arith)

  get_d_none : (n i : ℕ) → get_or (replicate n none) i none ≡ none
  get_d_none n i = go (dec_lt i n)
    where
      go : Dec (i < n) → get_or (replicate n none) i none ≡ none
      go (yes h) = get_or-replicate n i none none h
      go (no h) = get_or-eq_default (replicate n none) none (rw length-replicate (omega arith))

  entry : (i : ℕ) → bt_entry (formatted p b).bt i ≡ none
  unfolding bt_entry formatted
  entry i = get_d_none (p.mu * p.gamma) i

  tables : Tables p (formatted p b)
  unfolding formatted
  tables =
      record {
        chip_length = cleared.size ∙ chip_fits;
        ct_length = length-replicate p.C none;
        bt_length = length-replicate (p.mu * p.gamma) none;
        fst_length = length-replicate p.mu none;
        bst_length = tab_length p.N _;
        wear_length = wear_length_lem b.wear (format_ops p b.chip b.wear) ∙ lengths.wear_length;
        stamps_length = length-replicate p.mu 0;
        kinds = λ m h. rw (kind p b m h) (two (bad p b.chip m) (worn p b.wear m)).0;
        names = λ i h. inl (entry i);
        once = λ i j hi hj x ne. absurd (ne (entry i));
        used = λ m h x. absurd ((two (bad p b.chip m) (worn p b.wear m)).1 (sym (kind p b m h) ∙ x));
        used_back = λ i h m k x. absurd (omega (arith, entry i, x, z.blocks));
        free = λ m h x.
            let w = (two (bad p b.chip m) (worn p b.wear m)).2 (sym (kind p b m h) ∙ x) in
            rw (cleared.done m h (ap not w.0), w.1) (state_free p false refl);
      }

  -- at least μγ+1 blocks are not reserved
  pub format_enough : enough p (formatted p b) ≡ true
  unfolding enough
  format_enough = le-leb (p.mu * p.gamma + 1) (count_below p.N (λ m. not (eqb (bst_at (formatted p b).bst m) 2))) (rw (left_good p b) checks.enough)

  pub lacks : (r v : ℕ) → assigned (view p (formatted p b) r) v ≡ false
  unfolding assigned view_of body_at bt_at bt_entry
  lacks r v = rw (entry (r * p.gamma + v)) (go (ltb v p.gamma))
    where
      go : (t : Bool) → ltb 0 (length (cond {A = List ℕ} t [] [])) ≡ false
      go true = refl
      go false = refl

  no_segment : (r c : ℕ) → (view p (formatted p b) r).seg_of c ≡ none
  unfolding view_of ct_at formatted
  no_segment r c = rw (get_d_none p.C c) (go (eqb (region_of p c) r))
    where
      go : (t : Bool) → cond t none none ≡ none
      go true = refl
      go false = refl

  no_last : (r : ℕ) → (view p (formatted p b) r).last_seg ≡ none
  unfolding view_of fst_at formatted
  no_last r = get_d_none p.mu r

  empty_region : (r : ℕ) → region_orderly p r (view p (formatted p b) r) ≡ true
  empty_region r = neat_none p r (view p (formatted p b) r) (λ v h. lacks r v) (no_last r) (λ c h. inl (no_segment r c))

  -- the marks are those of the board that is left
  pub format_marks : (formatted p b).marks ≡ marks_of p (formatted p b)
  unfolding formatted
  format_marks = refl

  -- no frame is programmed, so none has a stamp
  format_stamps : stamp_rule p (formatted p b) ≡ true
  format_stamps = stamps_out p (formatted p b) (λ r hr v f hv hf w. absurd (never (programmed_has p (view p (formatted p b) r) v f w) (lacks r v)))

  pub format_orderly : orderly p (formatted p b) ≡ true
  format_orderly = orderly_all p (formatted p b) z tables (λ r h. empty_region r) format_marks format_stamps

  pub format_lengths : lengths_fit p (formatted p b) ≡ true
  format_lengths = lengths_out p (formatted p b) tables format_marks

  pub format_reads : (c j : ℕ) → sector p (formatted p b) c j ≡ replicate p.s 255
  unfolding sector sector_in
  format_reads c j = rw (no_segment (region_of p c) c)

  pub format_bad : (m : ℕ) → bad p b.chip m ≡ true → block p (formatted p b).chip m ≡ block p b.chip m
  format_bad m e = cleared.kept m (ap not e)

  -- and every other block is erased, and marked where that wears it out
  pub format_good : (m : ℕ) → m < p.N → bad p b.chip m ≡ false → block p (formatted p b).chip m ≡ left_block p (worn p b.wear m)
  format_good m h e = cleared.done m h (ap not e)
