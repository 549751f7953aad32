-- A second start changes nothing, on any chip: the chip that a start leaves shows the board that it leaves, with no block left over. The blocks that are bad stay so, and those that it wears out
-- are bad too; the lent wear makes no difference to anything but wear and these.
-- Assumes nothing.
use mathlib.Core.Path.{◌≡◌, refl, sym, ap, ◌∙◌}
use mathlib.Core.Logic.{◌⊎◌, inl, inr}
use Prim.Native.Nat.{ℕ, ◌*◌, ◌/◌, ◌%◌, ◌<◌}
use native.Mathlib.Nat.{div-lt_iff_lt-mul, mod-lt}
use native.Mathlib.Omega.{arith}
use mathlib.Core.Bool.{Bool, true, false, ◌&&◌, ◌||◌, cond, or-false}
use mathlib.Core.List.{List, []}
use lib.ListN.{get_or-eq_default}
use Rattle.lists.specs.Below.{list_below}
use Rattle.lists.proofs.Lists.{list_cong}
use Rattle.lists.proofs.Tests.{and_left, never, so}
use Rattle.rules.specs.declared.Params.{Params}
use Rattle.rules.specs.Numbers.{region_of}
use Rattle.rules.specs.Tables.{Board, bst_at, bt_at, bt_entry, none}
use Rattle.rules.specs.Pages.{block}
use Rattle.rules.specs.Regions.{View, largest_stamp, view, view_of}
use Rattle.rules.specs.Orderly.{block_rule, named}
use Rattle.rules.specs.Traces.{NewTables, Op, erased_state, finish, replay_chip, replay_wear, worn}
use Rattle.rules.specs.Format.{bad}
use Rattle.rules.specs.Start.{found_bt, found_fst, found_segment, found_view, in_use, kept_block, left_over, start_ops, startable, started}
use Rattle.rules.proofs.BadBytes.{bytes_bad}
use Rattle.rules.proofs.Isolation.{view_path}
use Rattle.rules.proofs.Sizes.{Sizes, sizes}
use Rattle.rules.proofs.TableFacts.{Tables, named_in}
use Rattle.rules.proofs.WornBlocks.{left_bad}
use Rattle.starts.specs.Admitted.{StartAdmitted}
use Rattle.starts.specs.Again.{SameBut}
use Rattle.starts.proofs.Found.{same_fst, same_largest, same_segment}
use Rattle.starts.proofs.KeptBlocks.{at_is, entry_is, kept_stays, use_good}
use Rattle.starts.proofs.Shows.{Shows, found_body, kept_is}
use Rattle.starts.proofs.ShowsStarts.{no_erase, none_left, shows_startable}
use Rattle.starts.proofs.StartPromise.{apart_left, body_same, once_left, rule_left, start_lengths}
use Rattle.starts.proofs.StartTables.{kind, start_tables, swept}

-- the tables that a start makes of a chip and its wear
abbrev found_kind : Params → List ℕ → List ℕ → ℕ → ℕ
found_kind p chip wear n = cond (bad p chip n) 2 (cond (named p (found_bt p chip) n) 1 (cond (left_over p chip n) (erased_state p wear n) 0))

abbrev pub found_tables : Params → List ℕ → List ℕ → NewTables
found_tables p chip wear =
    record {
      ct = list_below p.C (λ c. found_segment p (found_view p chip (found_bt p chip) (region_of p c)) c);
      bt = found_bt p chip;
      fst = list_below p.mu (λ r. found_fst p (found_view p chip (found_bt p chip) r));
      bst = list_below p.N (found_kind p chip wear);
      stamps = list_below p.mu (λ r. largest_stamp p (found_view p chip (found_bt p chip) r));
    }

pub started_is : (p : Params) (b : Board) (ops : List Op) (t : NewTables) → start_ops p b.chip b.wear ≡ ops → found_tables p b.chip b.wear ≡ t → started p b ≡ finish p b ops t
unfolding started
started_is p b ops t e f = rw (← e, ← f)

-- ---- wear

-- the kind of a block that is not left over
plain_kind : (p : Params) (b : Board) → StartAdmitted p b → (n : ℕ) → n < p.N → left_over p b.chip n ≡ false
    → bst_at (started p b).bst n ≡ cond (bad p b.chip n) 2 (cond (named p (found_bt p b.chip) n) 1 0)
plain_kind p b acc n h l = kind p b acc n h ∙ rw l

module _ (p : Params) (b b' : Board) (acc : StartAdmitted p b) (acc' : StartAdmitted p b') (e : b.chip ≡ b'.chip) where
  same_view : (r : ℕ) → r < p.mu → view p (started p b) r ≡ view p (started p b') r
  same_view r h =
      view_path (λ c. unfold view_of started in rw e) (unfold view_of started in rw e)
      (λ v. sym (body_same p b acc r h v) ∙ ap (λ (chip : List ℕ). (found_view p chip (found_bt p chip) r).body v) e ∙ body_same p b' acc' r h v)

  pub same_but : SameBut p (left_over p b.chip) (started p b) (started p b')
  same_but =
      record {
        bt = unfold started in rw e;
        views = same_view;
        stamps = unfold started in rw e;
        blocks = λ n l. (swept p b acc).kept n l ∙ ap (λ (chip : List ℕ). block p chip n) e ∙ sym ((swept p b' acc').kept n (sym (ap (λ (chip : List ℕ). left_over p chip n) e) ∙ l));
        kinds = λ n h l.
            plain_kind p b acc n h l ∙ ap (λ (chip : List ℕ). cond (bad p chip n) 2 (cond (named p (found_bt p chip) n) 1 0)) e
            ∙ sym (plain_kind p b' acc' n h (sym (ap (λ (chip : List ℕ). left_over p chip n) e) ∙ l));
      }

-- ---- the blocks that are bad

module _ (p : Params) (b : Board) (acc : StartAdmitted p b) where
  z : Sizes p
  z = sizes p acc.fine

  t : Tables p (started p b)
  t = start_tables p b acc

  -- a block left over was in use, so it was not bad, and it is erased, and marked where that wears it out; another keeps its bytes
  pub bad_left : (n : ℕ) → n < p.N → bad p (started p b).chip n ≡ bad p b.chip n || (left_over p b.chip n && worn p b.wear n)
  bad_left n h = go (so (left_over p b.chip n))
    where
      was : left_over p b.chip n ≡ true → in_use p b.chip n ≡ true
      was e = unfold left_over in and_left (in_use p b.chip n) _ e

      go : (left_over p b.chip n ≡ true) ⊎ (left_over p b.chip n ≡ false) → bad p (started p b).chip n ≡ bad p b.chip n || (left_over p b.chip n && worn p b.wear n)
      go (inl e) = left_bad p z (started p b).chip n (worn p b.wear n) ((swept p b acc).done n h e) ∙ rw (use_good p b.chip n (was e), e)
      go (inr e) = bytes_bad p b.chip (started p b).chip n ((swept p b acc).kept n e) ∙ rw e (sym (or-false (bad p b.chip n)))

  -- BT does not name a block that is left over
  left_unnamed : (n : ℕ) → n < p.N → left_over p b.chip n ≡ true → named p (found_bt p b.chip) n ≡ false
  left_unnamed n low l = go (so (named p (found_bt p b.chip) n))
    where
      go : (named p (found_bt p b.chip) n ≡ true) ⊎ (named p (found_bt p b.chip) n ≡ false) → named p (found_bt p b.chip) n ≡ false
      go (inr e) = e
      go (inl e) =
          let w = named_in p (started p b) n (unfold started in e) in
          let is : bt_entry (found_bt p b.chip) w.0 ≡ n = unfold started in w.2 in
          let k = entry_is p z b.chip w.0 w.1 in
          let some : kept_block p b.chip (w.0 / p.gamma) (w.0 % p.gamma) ≡ none → ⊥ = λ y. omega (arith, low, is, k, y, z.blocks) in
          absurd (never l (sym (ap (left_over p b.chip) (sym k ∙ is)) ∙ kept_stays p z b.chip (w.0 / p.gamma) (w.0 % p.gamma) some))

  -- a block that is bad is reserved, and a reserved one is bad
  pub bad_reserved : (n : ℕ) → n < p.N → bad p b.chip n ≡ true → bst_at (started p b).bst n ≡ 2
  bad_reserved n h e = rw (kind p b acc n h, e)

  pub reserved_bad : (n : ℕ) → n < p.N → bst_at (started p b).bst n ≡ 2 → bad p (started p b).chip n ≡ true
  reserved_bad n h e =
      bad_left n h ∙ two (bad p b.chip n) (named p (found_bt p b.chip) n) (left_over p b.chip n && worn p b.wear n) (sym (kind p b acc n h) ∙ e)
    where
      two : (s u w : Bool) → cond {A = ℕ} s 2 (cond u 1 (cond w 2 0)) ≡ 2 → s || w ≡ true
      two true u w x = refl
      two false true w x = absurd (omega arith)
      two false false true x = refl
      two false false false x = absurd (omega arith)

  -- ---- a second start

  pub shows_itself : Shows p (started p b).chip (started p b) p.N
  shows_itself =
      record {
        size = t.chip_length;
        else = λ m h ne. refl;
        free = unfold bst_at in get_or-eq_default (started p b).bst 0 (omega (arith, t.bst_length));
        here = λ h. absurd (omega arith);
        marked = reserved_bad;
        rule = rule;
      }
    where
      rule : (r v : ℕ) → r < p.mu → v < p.gamma → (bt_at p (started p b).bt r v ≡ none → ⊥) → block_rule p r v (block p (started p b).chip (bt_at p (started p b).bt r v)) ≡ true
      rule = unfold started in (λ r v h k ne. rule_left p b acc r h v k ne)

  pub again_startable : startable p (started p b).chip ≡ true
  again_startable = shows_startable p z (started p b).chip (started p b) t p.N shows_itself (once_left p b acc) (apart_left p b acc)

  pub again_ops : start_ops p (started p b).chip (started p b).wear ≡ []
  again_ops = no_erase p z (started p b).chip (started p b) t shows_itself (started p b).wear

  again_kept : (r v : ℕ) → r < p.mu → v < p.gamma → kept_block p (started p b).chip r v ≡ kept_block p b.chip r v
  unfolding started
  again_kept r v h k = kept_is p z (started p b).chip (started p b) t p.N shows_itself r v h k ∙ at_is p z b.chip r v h k

  again_bt : found_bt p (started p b).chip ≡ found_bt p b.chip
  unfolding found_bt
  again_bt = list_cong (p.mu * p.gamma) _ _ (λ i h. again_kept (i / p.gamma) (i % p.gamma) ((div-lt_iff_lt-mul z.vblocks).1 h) (mod-lt i z.vblocks))

  -- the views that are found have the same bytes
  abbrev first : ℕ → View
  first = found_view p b.chip (found_bt p b.chip)

  abbrev second : ℕ → View
  second = found_view p (started p b).chip (found_bt p (started p b).chip)

  bodies : (r : ℕ) → r < p.mu → (v : ℕ) → (second r).body v ≡ (first r).body v
  bodies r h v = found_body p z (started p b).chip (started p b) t p.N shows_itself r h v ∙ sym (body_same p b acc r h v)

  -- a block that it wore out is bad now, and no block is left over
  again_kind : (n : ℕ) → n < p.N → found_kind p (started p b).chip (started p b).wear n ≡ found_kind p b.chip b.wear n
  again_kind n h =
      rw (none_left p z (started p b).chip (started p b) t shows_itself n h, bad_left n h, again_bt)
      (go (so (left_over p b.chip n)) (worn p b.wear n) refl)
    where
      go : (left_over p b.chip n ≡ true) ⊎ (left_over p b.chip n ≡ false) → (w : Bool) → worn p b.wear n ≡ w
          → cond (bad p b.chip n || (left_over p b.chip n && worn p b.wear n)) 2 (cond (named p (found_bt p b.chip) n) 1 0) ≡ found_kind p b.chip b.wear n
      go (inr e) w i = rw (e, or-false (bad p b.chip n))
      go (inl e) true i = unfold erased_state in rw (e, i, use_good p b.chip n (unfold left_over in and_left (in_use p b.chip n) _ e), left_unnamed n h e)
      go (inl e) false i = unfold erased_state in rw (e, i, or-false (bad p b.chip n))

  again_tables : found_tables p (started p b).chip (started p b).wear ≡ found_tables p b.chip b.wear
  again_tables =
      let c = list_cong p.C (λ c. found_segment p (second (region_of p c)) c) (λ c. found_segment p (first (region_of p c)) c)
      (λ c h. same_segment p (second (region_of p c)) (first (region_of p c)) (bodies (region_of p c) (mod-lt c z.regions)) c) in
      let f = list_cong p.mu (λ r. found_fst p (second r)) (λ r. found_fst p (first r)) (λ r h. same_fst p (second r) (first r) (bodies r h)) in
      let l = list_cong p.mu (λ r. largest_stamp p (second r)) (λ r. largest_stamp p (first r)) (λ r h. same_largest p (second r) (first r) (bodies r h)) in
      let k = list_cong p.N (found_kind p (started p b).chip (started p b).wear) (found_kind p b.chip b.wear) again_kind in
      λ i. record { ct = c i; bt = again_bt i; fst = f i; bst = k i; stamps = l i }

  pub again_same : started p (started p b) ≡ started p b
  again_same = started_is p (started p b) [] (found_tables p b.chip b.wear) again_ops again_tables ∙ unfold started replay_chip replay_wear in refl

  -- and neither is refused
  pub again_admitted : StartAdmitted p (started p b)
  again_admitted = record { fine = acc.fine; lengths = start_lengths p b acc; starts = again_startable }
