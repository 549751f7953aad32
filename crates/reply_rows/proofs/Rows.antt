-- The reply table, row by row: what the tests so far have shown, and the reply of the first row that applies.
-- Assumes nothing.
use mathlib.Core.Path.{◌≡◌, refl, ap}
use lib.Dec.{ltb}
use Rattle.std.specs.Prelude.{◌≢◌, Result, Err, IsErrAnd}
use Rattle.std.proofs.lemmas.Result.{err_from_is_err_and}
use borrow.Author.Tests.{le-leb, leb-false, lt-leb}
use mathlib.Core.Bool.{Bool, true, false, not, cond}
use mathlib.Core.List.{List, [], ◌∷◌, ◌++◌}
use native.Mathlib.Omega.{arith}
use Prim.Native.Nat.{ℕ, ◌+◌, ◌*◌, ◌≤◌, ◌<◌}
use native.Mathlib.Nat.{div-lt_iff_lt-mul, mod-lt, mul-le-mul}
use Rattle.rules.specs.declared.Params.{Params}
use Rattle.rules.specs.declared.Reply.{Reply}
use Rattle.rules.specs.declared.Reply.TheVariants.{Accepted, BadParameter, WrongLength, BadCount, BadAddress, WrongData, NotOrderly, NoStampLeft}
use Rattle.rules.specs.Parameters.{allowed}
use Rattle.rules.specs.Numbers.{cluster_of, sector_of}
use Rattle.rules.specs.Orderly.{orderly}
use Rattle.rules.specs.Tables.{Board, stamp_at}
use Rattle.rules.specs.Requests.{Request, request_region, write}
use Rattle.rules.specs.Format.{good_blocks}
use Rattle.rules.specs.Replies.{Row, row, access_rows, bad_address, bad_count, bad_parameter, early_rows, first_row, lengths_fit, lent_rows, no_stamp_left, not_orderly, number_of, order_row, reply_of, stamp_row, too_few_blocks, wrong_data, wrong_length}
use Rattle.rules.proofs.Admitted.{Checks, early_refused}
use Rattle.rules.proofs.Sizes.{sizes}
use Rattle.reply_rows.specs.Verdicts.{Verdict}

-- ---- no sum and no product wraps

module _ (p : Params) (fine : allowed p ≡ true) where
  pub end_low : (lba count : ℕ) → count < 4294967296 → sector_of p lba + count < 4294967312
  end_low lba count h = let z = sizes p fine in omega (arith, mod-lt lba z.sectors, z.alpha_high)

  pub sectors_low : p.C * p.alpha ≤ 16777216
  sectors_low = let z = sizes p fine in mul-le-mul z.clusters z.alpha_high

  pub bytes_low : (count : ℕ) → count ≤ 4294967295 → count * p.s ≤ 2199023255040
  bytes_low count h = mul-le-mul h (sizes p fine).s_high

-- ---- a row that applies, and one that does not

-- a test that passes gives the reply of its row
pub row_here : (ok t : Bool) (r : Reply) (xs : List (Row Reply)) → ok ≡ t → ok ≡ true → first_row Accepted (row t r ∷ xs) ≡ r
unfolding first_row
row_here ok t r xs is e = rw (← is, e)

-- one that fails leaves the rows after it
pub row_skipped : (ok t : Bool) (r : Reply) (xs : List (Row Reply)) → ok ≡ t → ok ≡ false → first_row Accepted (row t r ∷ xs) ≡ first_row Accepted xs
unfolding first_row
row_skipped ok t r xs is e = rw (← is, e)

-- ---- some rows, then others

-- the reply by the first ones, where they refuse, is that by all of them
pub refuses : (xs ys : List (Row Reply)) → first_row Accepted xs ≢ Accepted → first_row Accepted (xs ++ ys) ≡ first_row Accepted xs
unfolding first_row
refuses [] ys ne = absurd (ne refl)
refuses (x ∷ xs) ys ne = go x.applies ne (refuses xs ys)
  where
    go : (t : Bool) → cond t x.gives (first_row Accepted xs) ≢ Accepted → (first_row Accepted xs ≢ Accepted → first_row Accepted (xs ++ ys) ≡ first_row Accepted xs)
        → cond t x.gives (first_row Accepted (xs ++ ys)) ≡ cond t x.gives (first_row Accepted xs)
    go true n more = refl
    go false n more = more n

-- what a `?` returns where they refuse
pub passed_on : (xs ys : List (Row Reply)) (r : Result (Unit {0}) Reply) (e : Reply) → IsErrAnd r (λ y. y ≡ e) → Verdict (Err e) (first_row Accepted xs)
    → Verdict r (first_row Accepted (xs ++ ys))
passed_on xs ys r e is h = let y = err_from_is_err_and r is in rw (y.1, y.2, refuses xs ys h.1) h

-- the first two rows, where they do not refuse
pub record Passed (p : Params) (b : Board) : Type 0 where
  pub fine : allowed p ≡ true
  pub fits : lengths_fit p b ≡ true

module _ (p : Params) (b : Board) where
  pub lent_passes : first_row Accepted (lent_rows p b) ≡ Accepted → Passed p b
  unfolding lent_rows first_row bad_parameter wrong_length
  lent_passes z = go (allowed p) (lengths_fit p b) refl refl z
    where
      go : (x y : Bool) → allowed p ≡ x → lengths_fit p b ≡ y → cond (not x) BadParameter (cond (not y) WrongLength Accepted) ≡ Accepted → Passed p b
      go true true e f k = record { fine = e; fits = f }
      go true false e f k = absurd (omega (arith, ap number_of k))
      go false y e f k = absurd (omega (arith, ap number_of k))

  -- they leave the rows after them
  pub after_lent : Passed p b → (xs : List (Row Reply)) → first_row Accepted (lent_rows p b ++ xs) ≡ first_row Accepted xs
  unfolding lent_rows first_row bad_parameter wrong_length
  after_lent h xs = rw (h.fine, h.fits)

-- the rows of a request, where they do not refuse, leave the rows after them
pub after_access : (p : Params) (q : Request) → first_row Accepted (access_rows p q) ≡ Accepted
    → (xs : List (Row Reply)) → first_row Accepted (access_rows p q ++ xs) ≡ first_row Accepted xs
unfolding access_rows first_row
after_access p q z xs = go (bad_count p q) (bad_address p q.lba) (wrong_data p q) z
  where
    go : (x y w : Bool) → cond x BadCount (cond y BadAddress (cond w WrongData Accepted)) ≡ Accepted
        → cond x BadCount (cond y BadAddress (cond w WrongData (first_row Accepted xs))) ≡ first_row Accepted xs
    go true y w k = absurd (omega (arith, ap number_of k))
    go false true w k = absurd (omega (arith, ap number_of k))
    go false false true k = absurd (omega (arith, ap number_of k))
    go false false false k = refl

-- the row of the state, by a test of it, where other rows follow
module _ (p : Params) (b : Board) (ok : Bool) (xs : List (Row Reply)) (e : ok ≡ orderly p b) where
  pub order_here : ok ≡ false → Verdict (Err NotOrderly) (first_row Accepted (order_row p b ++ xs))
  unfolding order_row first_row not_orderly
  order_here is = rw (← e, is) (refl, λ x. omega (arith, ap number_of x))

  pub after_order : ok ≡ true → first_row Accepted (order_row p b ++ xs) ≡ first_row Accepted xs
  unfolding order_row first_row not_orderly
  after_order is = rw (← e, is)

-- the row of a write's stamp, where its region's last one is t
module _ (p : Params) (b : Board) (q : Request) (t : ℕ) (e : t ≡ stamp_at b.stamps (request_region p q)) where
  pub stamp_none : t ≡ 4294967295 → Verdict (Err NoStampLeft) (first_row Accepted (stamp_row p b (request_region p q)))
  unfolding stamp_row first_row no_stamp_left
  stamp_none k = rw (le-leb 4294967295 (stamp_at b.stamps (request_region p q)) (omega (arith, e, k))) (refl, λ x. omega (arith, ap number_of x))

  pub stamp_some : t < 4294967296 → t ≢ 4294967295 → first_row Accepted (stamp_row p b (request_region p q)) ≡ Accepted
  unfolding stamp_row first_row no_stamp_left
  stamp_some h k = rw (lt-leb 4294967295 (stamp_at b.stamps (request_region p q)) (omega (arith, e, h, k)))

-- of a write that passes the checks of a read, that row is the first that may apply
pub write_row : (p : Params) (b : Board) (q : Request) → Checks p b q → first_row Accepted (stamp_row p b (request_region p q)) ≡ first_row Accepted (early_rows p b q)
unfolding early_rows lent_rows access_rows order_row first_row bad_parameter wrong_length not_orderly
write_row p b q c = rw (c.fine, c.lengths, c.count, c.address, c.given, c.tidy)

-- a write that an early row refuses has that row's reply
pub early_reply : (p : Params) (b : Board) (q : Request) (e : Reply) → Verdict (Err e) (first_row Accepted (early_rows p b q)) → Verdict (Err e) (reply_of p b (write q))
early_reply p b q e h = rw (early_refused p b q h.1) h

-- an LBA that is not refused is one of a cluster of the board
pub cluster_low : (p : Params) → allowed p ≡ true → (lba : ℕ) → bad_address p lba ≡ false → cluster_of p lba < p.C
unfolding bad_address
cluster_low p fine lba h = (div-lt_iff_lt-mul (sizes p fine).sectors).1 (leb-false _ _ h)

-- the row of a format
pub few_is : (p : Params) (b : Board) (k : ℕ) → k ≡ good_blocks p b.chip b.wear → ltb k (p.mu * p.gamma + 1) ≡ too_few_blocks p b
unfolding too_few_blocks
few_is p b k e = rw e
