-- What an accepted call shows of its input: the reply table, read from its last row; and the rules of one region out of those of the board.
-- Assumes nothing.
use mathlib.Core.Path.{◌≡◌, refl, sym, ap, ◌∙◌}
use mathlib.Core.Logic.{◌⊎◌, inl, inr}
use Prim.Native.Nat.{ℕ, ◌+◌, ◌*◌, ◌≤◌, ◌<◌}
use native.Mathlib.Nat.{div-lt_iff_lt-mul, mod-lt}
use native.Mathlib.Omega.{arith}
use native.Mathlib.Decide.{ℕ_discrete, dec_lt}
use mathlib.Core.Bool.{Bool, true, false, cond, false≢true}
use mathlib.Core.List.{List, [], ◌∷◌, ◌++◌}
use lib.Dec.{eqb}
use borrow.Author.Tests.{eqb-true, eqb-false, ne_eqb, ltb-false, leb-false, not-false}
use lib.ListN.{length}
use Rattle.lists.proofs.Tests.{all_at, all_below_intro, all_true_lem, or_neither, so, truths}
use Rattle.rules.specs.declared.Params.{Params}
use Rattle.rules.specs.declared.Reply.{Reply}
use Rattle.rules.specs.declared.Reply.TheVariants.{Accepted, NoBlockLeft}
use Rattle.rules.specs.Parameters.{allowed}
use Rattle.rules.specs.Numbers.{region_of, sector_of}
use Rattle.rules.specs.Tables.{Board, stamp_at}
use Rattle.rules.specs.Regions.{view, view_of}
use Rattle.rules.specs.Marks.{marks_of}
use Rattle.rules.specs.Orderly.{blocks_rule, cluster_rule, ct_rule, fst_rule, orderly, region_blocks, region_fst, rules_of, stamp_rule}
use Rattle.rules.specs.Format.{good_blocks}
use Rattle.rules.specs.Replies.{
  Row,
  access_rows,
  bad_address,
  bad_cluster,
  bad_count,
  bad_parameter,
  block_row,
  early_rows,
  first_row,
  is_accepted,
  lengths_fit,
  lent_rows,
  no_block_left,
  no_stamp_left,
  not_orderly,
  number_of,
  order_row,
  reply_of,
  rows_of,
  stamp_row,
  too_few_blocks,
  wrong_data,
  wrong_length,
}
use Rattle.rules.specs.Write.{next_stamp, plan_of, takes_block}
use Rattle.rules.specs.Requests.{Request, request_cluster, request_region, format, read, release, write}
use Rattle.rules.proofs.Outcomes.{reply_cases}
use Rattle.rules.proofs.RegionFacts.{region_orderly}
use Rattle.rules.proofs.Sizes.{Sizes, sizes}
use Rattle.rules.proofs.Stamps.{Bounded, stamps_in}
use Rattle.rules.proofs.Views.{HasFree, found_free}
use Rattle.rules.proofs.TableFacts.{Tables, eight_in, eight_out, eight_rules, orderly_eight, tables_in}

-- ---- the rules of one region, and of all

pub eight_region : (p : Params) (b : Board) → eight_rules p b ≡ true → (r : ℕ) → r < p.mu → region_orderly p r (view p b r) ≡ true
unfolding eight_rules rules_of blocks_rule fst_rule ct_rule region_orderly
eight_region p b h r low =
    all_true_lem _ (
      all_at p.mu (λ r. region_blocks p r (view p b r)) (truths _ h).1.1.1.1.1.0 r low,
      (all_at p.mu (λ r. region_fst p (view p b r)) (truths _ h).1.1.1.1.1.1.0 r low, (all_below_intro p.C _ (λ c k. cluster c k (ℕ_discrete (region_of p c) r)), tt)),
    )
  where
    cluster : (c : ℕ) → c < p.C → Dec (region_of p c ≡ r) → cluster_rule p (view p b r) c ≡ true
    cluster c k (yes e) = rw e at (all_at p.C (λ c. cluster_rule p (view p b (region_of p c)) c) (truths _ h).1.1.1.1.1.1.1.0 c k)
    cluster c k (no e) = unfold cluster_rule view_of in rw (ne_eqb (region_of p c) r e)

pub orderly_region : (p : Params) (b : Board) → orderly p b ≡ true → (r : ℕ) → r < p.mu → region_orderly p r (view p b r) ≡ true
orderly_region p b h r low = eight_region p b (eight_in p b h) r low

pub eight_all : (p : Params) (b : Board) → Sizes p → Tables p b → ((r : ℕ) → r < p.mu → region_orderly p r (view p b r) ≡ true) → eight_rules p b ≡ true
unfolding blocks_rule fst_rule ct_rule region_orderly
eight_all p b z t h =
    eight_out p b t
    (all_below_intro p.mu _ (λ r k. (truths _ (h r k)).0))
    (all_below_intro p.mu _ (λ r k. (truths _ (h r k)).1.0))
    (all_below_intro p.C _ (λ c k. all_at p.C (cluster_rule p (view p b (region_of p c))) (truths _ (h (region_of p c) (mod-lt c z.regions))).1.1.0 c k))

pub orderly_all : (p : Params) (b : Board) → Sizes p → Tables p b → ((r : ℕ) → r < p.mu → region_orderly p r (view p b r) ≡ true) → b.marks ≡ marks_of p b
    → stamp_rule p b ≡ true → orderly p b ≡ true
orderly_all p b z t h m s = orderly_eight p b (eight_all p b z t h) m s

-- ---- the reply table

-- a row that does not apply leaves the later rows
pub passed : (t : Bool) (r x : Reply) → (number_of r ≡ 0 → ⊥) → cond t r x ≡ Accepted → (t ≡ false) × (x ≡ Accepted)
passed true r x ne e = absurd (ne (ap number_of e))
passed false r x ne e = (refl, e)

-- the request lies in one cluster, of the board, with its data
pub record Asked (p : Params) (q : Request) : Type 0 where
  pub some : 0 < q.count
  pub inside : sector_of p q.lba + q.count ≤ p.alpha
  pub cluster : request_cluster p q < p.C
  pub bytes : length q.bytes ≡ q.count * p.s

-- what an accepted read or write has
pub record Admitted (p : Params) (b : Board) (q : Request) : Type 0 where
  pub fine : allowed p ≡ true
  pub sized : Sizes p
  pub lengths : lengths_fit p b ≡ true
  pub tables : Tables p b
  pub tidy : (r : ℕ) → r < p.mu → region_orderly p r (view p b r) ≡ true
  pub stamped : (r : ℕ) → r < p.mu → Bounded p (view p b r) (stamp_at b.stamps r)
  pub asked : Asked p q

pub asked_in : (p : Params) (q : Request) → Sizes p → bad_count p q ≡ false → bad_address p q.lba ≡ false → wrong_data p q ≡ false → Asked p q
unfolding bad_count bad_address wrong_data
asked_in p q z c a d =
    let k = or_neither (eqb q.count 0) c in
    let n = eqb-false q.count 0 k.0 in
    record {
      some = positive (dec_lt 0 q.count) n;
      inside = ltb-false _ _ k.1;
      cluster = (div-lt_iff_lt-mul z.sectors).1 (leb-false _ _ a);
      bytes = eqb-true _ _ (not-false _ d);
    }
  where
    positive : Dec (0 < q.count) → (q.count ≡ 0 → ⊥) → 0 < q.count
    positive (yes h) ne = h
    positive (no h) ne = absurd (ne (omega arith))

pub record Checks (p : Params) (b : Board) (q : Request) : Type 0 where
  pub fine : allowed p ≡ true
  pub lengths : lengths_fit p b ≡ true
  pub count : bad_count p q ≡ false
  pub address : bad_address p q.lba ≡ false
  pub given : wrong_data p q ≡ false
  pub tidy : orderly p b ≡ true

-- the rows of a read and of a write begin so; those that follow are passed too
rows_checks : (p : Params) (b : Board) (q : Request) (more : List (Row Reply)) → first_row Accepted (lent_rows p b ++ (access_rows p q ++ (order_row p b ++ more))) ≡ Accepted
    → Checks p b q × (first_row Accepted more ≡ Accepted)
unfolding lent_rows access_rows order_row first_row bad_parameter wrong_length not_orderly
rows_checks p b q more e =
    let a = passed (bad_parameter p) _ _ (λ x. omega arith) e in
    let l = passed (wrong_length p b) _ _ (λ x. omega arith) a.1 in
    let c = passed (bad_count p q) _ _ (λ x. omega arith) l.1 in
    let i = passed (bad_address p q.lba) _ _ (λ x. omega arith) c.1 in
    let d = passed (wrong_data p q) _ _ (λ x. omega arith) i.1 in
    let o = passed (not_orderly p b) _ _ (λ x. omega arith) d.1 in
    (record { fine = not-false _ a.0; lengths = not-false _ l.0; count = c.0; address = i.0; given = d.0; tidy = not-false _ o.0 }, o.1)

pub read_checks : (p : Params) (b : Board) (q : Request) → reply_of p b (read q) ≡ Accepted → Checks p b q
unfolding reply_of rows_of order_row
read_checks p b q e = (rows_checks p b q [] e).0

-- ---- a write's rows: all but the last, and the last

-- what comes before row 10: the checks of a read, and a stamp that is left
pub record Early (p : Params) (b : Board) (q : Request) : Type 0 where
  pub checks : Checks p b q
  pub left : stamp_at b.stamps (request_region p q) < 4294967295

pub early_in : (p : Params) (b : Board) (q : Request) → first_row Accepted (early_rows p b q) ≡ Accepted → Early p b q
unfolding early_rows stamp_row first_row no_stamp_left
early_in p b q e =
    let w = rows_checks p b q (stamp_row p b (request_region p q)) e in
    record { checks = w.0; left = leb-false _ _ (passed (no_stamp_left (stamp_at b.stamps (request_region p q))) _ _ (λ x. omega arith) w.1).0 }

-- a list of rows of which one gives a refusal gives it with more rows behind it, too
first_kept : (xs : List (Row Reply)) (y : Reply) → (first_row Accepted xs ≡ Accepted → ⊥) → first_row y xs ≡ first_row Accepted xs
unfolding first_row
first_kept [] y ne = absurd (ne refl)
first_kept (x ∷ xs) y ne = go (so x.applies) (first_kept xs y)
  where
    go : (x.applies ≡ true) ⊎ (x.applies ≡ false) → ((first_row Accepted xs ≡ Accepted → ⊥) → first_row y xs ≡ first_row Accepted xs)
        → cond x.applies x.gives (first_row y xs) ≡ cond x.applies x.gives (first_row Accepted xs)
    go (inl h) more = rw h
    go (inr h) more = rw h (more (λ e. ne (rw h e)))

-- the rows behind others count where none of those applies
first_behind : (xs ys : List (Row Reply)) → first_row Accepted (xs ++ ys) ≡ first_row (first_row Accepted ys) xs
unfolding first_row
first_behind [] ys = refl
first_behind (x ∷ xs) ys = rw (first_behind xs ys)

-- a write that an early row refuses has that row's reply
pub early_refused : (p : Params) (b : Board) (q : Request) → (first_row Accepted (early_rows p b q) ≡ Accepted → ⊥) → reply_of p b (write q) ≡ first_row Accepted (early_rows p b q)
unfolding reply_of rows_of
early_refused p b q ne = first_behind (early_rows p b q) (block_row p b (request_region p q)) ∙ first_kept (early_rows p b q) _ ne

-- and one that none refuses has the last row's
pub early_passed : (p : Params) (b : Board) (q : Request) → first_row Accepted (early_rows p b q) ≡ Accepted
    → reply_of p b (write q) ≡ cond (no_block_left p b (request_region p q)) NoBlockLeft Accepted
unfolding reply_of rows_of early_rows block_row lent_rows access_rows order_row stamp_row first_row
early_passed p b q e =
    let a = passed (bad_parameter p) _ _ (λ x. omega arith) e in
    let l = passed (wrong_length p b) _ _ (λ x. omega arith) a.1 in
    let c = passed (bad_count p q) _ _ (λ x. omega arith) l.1 in
    let i = passed (bad_address p q.lba) _ _ (λ x. omega arith) c.1 in
    let d = passed (wrong_data p q) _ _ (λ x. omega arith) i.1 in
    let o = passed (not_orderly p b) _ _ (λ x. omega arith) d.1 in
    let s = passed (no_stamp_left (stamp_at b.stamps (request_region p q))) _ _ (λ x. omega arith) o.1 in
    rw (a.0, l.0, c.0, i.0, d.0, o.0, s.0)

refused_not : (r : Reply) → is_accepted r ≡ false → r ≡ Accepted → ⊥
unfolding is_accepted
refused_not r h e = false≢true (sym h ∙ ap is_accepted e)

-- an accepted write has passed them all
pub write_early : (p : Params) (b : Board) (q : Request) → reply_of p b (write q) ≡ Accepted → first_row Accepted (early_rows p b q) ≡ Accepted
write_early p b q e = go (reply_cases (first_row Accepted (early_rows p b q)))
  where
    go : (first_row Accepted (early_rows p b q) ≡ Accepted) ⊎ (is_accepted (first_row Accepted (early_rows p b q)) ≡ false) → first_row Accepted (early_rows p b q) ≡ Accepted
    go (inl h) = h
    go (inr h) = sym (early_refused p b q (refused_not _ h)) ∙ e

pub write_checks : (p : Params) (b : Board) (q : Request) → reply_of p b (write q) ≡ Accepted → Checks p b q
write_checks p b q e = (early_in p b q (write_early p b q e)).checks

-- its region has a stamp left
pub write_left : (p : Params) (b : Board) (q : Request) → reply_of p b (write q) ≡ Accepted → stamp_at b.stamps (request_region p q) < 4294967295
write_left p b q e = (early_in p b q (write_early p b q e)).left

-- and if it needs a free block there is one
pub write_found : (p : Params) (b : Board) (q : Request) → reply_of p b (write q) ≡ Accepted → no_block_left p b (request_region p q) ≡ false
write_found p b q e = (passed (no_block_left p b (request_region p q)) NoBlockLeft Accepted (λ x. omega arith) (sym (early_passed p b q (write_early p b q e)) ∙ e)).0

pub write_free : (p : Params) (b : Board) (q : Request) → reply_of p b (write q) ≡ Accepted → takes_block (plan_of p (view p b (request_region p q))) ≡ true → HasFree p b
write_free p b q e = found_free p b (sizes p (write_checks p b q e).fine) (request_region p q) (write_found p b q e)

pub stamp_left : (p : Params) (b : Board) (q : Request) → reply_of p b (write q) ≡ Accepted → next_stamp b (request_region p q) < 4294967296
unfolding next_stamp
stamp_left p b q e = omega (arith, write_left p b q e)

pub admitted : (p : Params) (b : Board) (q : Request) → Checks p b q → Admitted p b q
admitted p b q c =
    let z = sizes p c.fine in
    record {
      fine = c.fine;
      sized = z;
      lengths = c.lengths;
      tables = tables_in p b c.lengths c.tidy;
      tidy = orderly_region p b c.tidy;
      stamped = stamps_in p b c.tidy;
      asked = asked_in p q z c.count c.address c.given;
    }

-- what an accepted format has
pub record FormatAdmitted (p : Params) (b : Board) : Type 0 where
  pub fine : allowed p ≡ true
  pub lengths : lengths_fit p b ≡ true
  pub enough : p.mu * p.gamma + 1 ≤ good_blocks p b.chip b.wear

pub format_admitted : (p : Params) (b : Board) → reply_of p b format ≡ Accepted → FormatAdmitted p b
unfolding reply_of rows_of lent_rows first_row bad_parameter wrong_length too_few_blocks
format_admitted p b e =
    let a = passed (bad_parameter p) _ _ (λ x. omega arith) e in
    let l = passed (wrong_length p b) _ _ (λ x. omega arith) a.1 in
    let g = passed (too_few_blocks p b) _ _ (λ x. omega arith) l.1 in
    record { fine = not-false _ a.0; lengths = not-false _ l.0; enough = ltb-false _ _ g.0 }

-- what an accepted release has
pub record ReleaseAdmitted (p : Params) (b : Board) (c : ℕ) : Type 0 where
  pub fine : allowed p ≡ true
  pub lengths : lengths_fit p b ≡ true
  pub cluster : c < p.C
  pub tidy : orderly p b ≡ true

pub release_admitted : (p : Params) (b : Board) (c : ℕ) → reply_of p b (release c) ≡ Accepted → ReleaseAdmitted p b c
unfolding reply_of rows_of lent_rows order_row first_row bad_parameter wrong_length bad_cluster not_orderly
release_admitted p b c e =
    let a = passed (bad_parameter p) _ _ (λ x. omega arith) e in
    let l = passed (wrong_length p b) _ _ (λ x. omega arith) a.1 in
    let i = passed (bad_cluster p c) _ _ (λ x. omega arith) l.1 in
    let o = passed (not_orderly p b) _ _ (λ x. omega arith) i.1 in
    record { fine = not-false _ a.0; lengths = not-false _ l.0; cluster = leb-false _ _ i.0; tidy = not-false _ o.0 }
