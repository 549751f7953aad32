-- Which blocks are bad after an accepted write and an accepted format: those that were, and those that it wore out. On an orderly board a block that is not reserved is not bad: a free one is
-- erased throughout, and the pages of a used one are programmed, with 255 in spare byte 5, or erased. A write leaves the bytes of the reserved blocks, a format those of the bad ones.
-- Assumes nothing.
use mathlib.Core.Path.{◌≡◌, refl, ap, ◌∙◌}
use mathlib.Core.Logic.{◌⊎◌, inl, inr}
use Prim.Native.Nat.{ℕ, zero, suc, ◌*◌, ◌/◌, ◌%◌, ◌≤◌, ◌<◌}
use native.Mathlib.Nat.{div-add-mod', div-lt_iff_lt-mul, mod-lt}
use native.Mathlib.Omega.{arith}
use native.Mathlib.Decide.{ℕ_discrete}
use mathlib.Core.Bool.{true, false, ◌||◌}
use lib.ListN.{length}
use Rattle.lists.proofs.Parts.{next}
use Rattle.lists.proofs.Tests.{never, so}
use Rattle.rules.specs.declared.Params.{Params}
use Rattle.rules.specs.declared.Reply.TheVariants.{Accepted}
use Rattle.rules.specs.Parameters.{block_bytes}
use Rattle.rules.specs.Tables.{Board, bst_at, bt_at, bt_entry, none}
use Rattle.rules.specs.Pages.{block}
use Rattle.rules.specs.Regions.{assigned, view}
use Rattle.rules.specs.Format.{bad, formatted}
use Rattle.rules.specs.Write.{Plan, plan_block, plan_of, plan_vblock, written}
use Rattle.rules.specs.Traces.{worn}
use Rattle.rules.specs.Replies.{OrderlyBoard, reply_of}
use Rattle.rules.specs.Requests.{Request, format, request_cluster, request_region, write}
use Rattle.rules.proofs.Admitted.{Admitted, admitted, format_admitted, orderly_region, stamp_left, write_checks, write_free}
use Rattle.rules.proofs.Continues.{Makes}
use Rattle.rules.proofs.FormatPromise.{format_bad, format_good}
use Rattle.rules.proofs.RegionFacts.{neat}
use Rattle.rules.proofs.Replays.{block_size}
use Rattle.rules.proofs.Sizes.{Sizes, sizes}
use Rattle.rules.proofs.TableFacts.{Tables, tables_in}
use Rattle.rules.proofs.Views.{body_some, no_block}
use Rattle.rules.proofs.WritePromise.{makes, write_promise}
use Rattle.rules.proofs.Writes.{reserved_bytes, write_reserved_bad, write_reserves, write_stays}
use Rattle.rules.proofs.WornBlocks.{left_bad}
use Rattle.rules.proofs.BadBytes.{blank_good, bytes_bad, up_to_good}

-- ---- an orderly board: a block that BST does not call reserved is not bad

module _ (p : Params) (b : Board) (o : OrderlyBoard p b) where
  -- what its parameters and its tables give
  z : Sizes p
  z = sizes p o.fine

  tables : Tables p b
  tables = tables_in p b o.lengths o.tidy

  -- each block of the chip is whole
  whole : (n : ℕ) → n < p.N → length (block p b.chip n) ≡ block_bytes p
  whole n h = block_size p b.chip n (rw tables.chip_length (next (block_bytes p) n p.N h))

  -- the body of an assigned virtual block is not bad
  used_good : (n : ℕ) → n < p.N → (r v : ℕ) → r < p.mu → v < p.gamma → bt_at p b.bt r v ≡ n → bad p b.chip n ≡ false
  used_good n h r v region low e = go (so (assigned (view p b r) v))
    where
      some : bt_at p b.bt r v ≡ none → ⊥
      some x = omega (arith, x, e, z.blocks)

      go : (assigned (view p b r) v ≡ true) ⊎ (assigned (view p b r) v ≡ false) → bad p b.chip n ≡ false
      go (inl a) =
          let u = (neat p r (view p b r) (orderly_region p b o.tidy r region)).blocks v low a in
          let body = body_some p z b tables r v region low some in
          up_to_good p b.chip n z (whole n h) r v _ (rw (body, e) at u.1)
      go (inr a) = absurd (some (no_block p z b tables r v region low z.some a))

  -- so is one that BT names
  named_good : (n : ℕ) → n < p.N → (i : ℕ) → i < p.mu * p.gamma → bt_entry b.bt i ≡ n → bad p b.chip n ≡ false
  unfolding bt_at
  named_good n h i low e =
      used_good n h (i / p.gamma) (i % p.gamma) ((div-lt_iff_lt-mul z.vblocks).1 low) (mod-lt i z.vblocks) (ap (bt_entry b.bt) (div-add-mod' i p.gamma) ∙ e)

  -- a free block is erased, and a used one is named
  pub unreserved_good : (n : ℕ) → n < p.N → (bst_at b.bst n ≡ 2 → ⊥) → bad p b.chip n ≡ false
  unreserved_good n h ne = go (bst_at b.bst n) refl (tables.kinds n h)
    where
      go : (kind : ℕ) → bst_at b.bst n ≡ kind → kind ≤ 2 → bad p b.chip n ≡ false
      go zero e k = blank_good p b.chip n z (whole n h) (tables.free n h e)
      go (suc zero) e k = let w = tables.used n h e in named_good n h w.0 w.1 w.2
      go (suc (suc zero)) e k = absurd (ne e)
      go (suc (suc (suc x))) e k = absurd (omega arith)

-- ---- a format

-- a bad block keeps its bytes, and every other is erased; of these, those are bad then that it wears out
pub format_bad_is : (p : Params) (b : Board) → reply_of p b format ≡ Accepted → (n : ℕ) → n < p.N → bad p (formatted p b).chip n ≡ bad p b.chip n || worn p b.wear n
format_bad_is p b e n h = go (so (bad p b.chip n))
  where
    go : (bad p b.chip n ≡ true) ⊎ (bad p b.chip n ≡ false) → bad p (formatted p b).chip n ≡ bad p b.chip n || worn p b.wear n
    go (inl k) = bytes_bad p b.chip (formatted p b).chip n (format_bad p b e n k) ∙ rw k
    go (inr k) = left_bad p (sizes p (format_admitted p b e).fine) (formatted p b).chip n (worn p b.wear n) (format_good p b e n h k) ∙ rw k

-- ---- a write

module _ (p : Params) (b : Board) (q : Request) (e : reply_of p b (write q) ≡ Accepted) where
  -- what the write finds, and that its plan makes room
  acc : Admitted p b q
  acc = admitted p b q (write_checks p b q e)

  region : request_region p q < p.mu
  region = mod-lt (request_cluster p q) acc.sized.regions

  abbrev plan : Plan
  plan = plan_of p (view p b (request_region p q))

  room : Makes p b (request_region p q) plan
  room = makes p acc.sized b acc.tables (request_region p q) region (neat p (request_region p q) (view p b (request_region p q)) (acc.tidy (request_region p q) region))
      (write_free p b q e)

  before : OrderlyBoard p b
  before = let c = write_checks p b q e in record { fine = c.fine; lengths = c.lengths; tidy = c.tidy }

  after : OrderlyBoard p (written p b q)
  after = let w = write_promise p b q e in record { fine = acc.fine; lengths = w.lengths; tidy = w.orderly_left }

  -- a reserved block stays so and keeps its bytes
  pub write_keeps_reserved : (n : ℕ) → n < p.N → bst_at b.bst n ≡ 2 → bst_at (written p b q).bst n ≡ 2
  unfolding written
  write_keeps_reserved n h = write_stays p b q acc (request_region p q) refl plan room (stamp_left p b q e) n h

  -- where every reserved block is bad, it still is
  pub write_bad_reserved : (n : ℕ) → n < p.N → (bst_at b.bst n ≡ 2 → bad p b.chip n ≡ true) → bst_at (written p b q).bst n ≡ 2 → bad p (written p b q).chip n ≡ true
  unfolding written
  write_bad_reserved n h = write_reserved_bad p b q acc (request_region p q) refl plan room (stamp_left p b q e) n h

  -- a bad block, which is reserved, stays bad
  pub write_bad_stays : (n : ℕ) → n < p.N → bad p b.chip n ≡ true → bad p (written p b q).chip n ≡ true
  unfolding written
  write_bad_stays n h x = go (ℕ_discrete (bst_at b.bst n) 2)
    where
      go : Dec (bst_at b.bst n ≡ 2) → bad p (written p b q).chip n ≡ true
      go (yes k) = bytes_bad p b.chip (written p b q).chip n (reserved_bytes p b q acc (request_region p q) refl plan room (stamp_left p b q e) n h k) ∙ x
      go (no k) = absurd (never x (unreserved_good p b before n h k))

  -- one that becomes bad is the victim's, worn out
  pub write_bad_new : (n : ℕ) → n < p.N → bad p (written p b q).chip n ≡ true → bad p b.chip n ≡ false
      → (n ≡ bt_at p b.bt (request_region p q) (plan_vblock plan)) × (worn p b.wear n ≡ true) × (n ≡ plan_block p b (request_region p q) plan → ⊥)
  unfolding written
  write_bad_new n h x was = go (ℕ_discrete (bst_at (written p b q).bst n) 2)
    where
      pick : (bst_at b.bst n ≡ 2)
          ⊎ ((n ≡ bt_at p b.bt (request_region p q) (plan_vblock plan)) × (worn p b.wear (bt_at p b.bt (request_region p q) (plan_vblock plan)) ≡ true) × (n ≡ plan_block p b (request_region p q) plan → ⊥))
          → (n ≡ bt_at p b.bt (request_region p q) (plan_vblock plan)) × (worn p b.wear n ≡ true) × (n ≡ plan_block p b (request_region p q) plan → ⊥)
      pick (inl k) = absurd (never x (bytes_bad p b.chip (written p b q).chip n (reserved_bytes p b q acc (request_region p q) refl plan room (stamp_left p b q e) n h k) ∙ was))
      pick (inr w) = (w.0, ap (worn p b.wear) w.0 ∙ w.1, w.2)

      go : Dec (bst_at (written p b q).bst n ≡ 2)
          → (n ≡ bt_at p b.bt (request_region p q) (plan_vblock plan)) × (worn p b.wear n ≡ true) × (n ≡ plan_block p b (request_region p q) plan → ⊥)
      go (yes k) = pick (write_reserves p b q acc (request_region p q) refl plan room (stamp_left p b q e) n h k)
      go (no k) = absurd (never x (unreserved_good p (written p b q) after n h k))
