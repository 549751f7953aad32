-- A plain run keeps an orderly state orderly, so a reply depends on the request alone; its lengths stay right; and what it leaves is its operations' replay.
-- Assumes nothing.
use mathlib.Core.Path.{◌≡◌, refl, sym, ap, ◌∙◌}
use mathlib.Core.Logic.{◌⊎◌, inl, inr}
use Prim.Native.Nat.{ℕ}
use mathlib.Core.Bool.{true, false, not}
use mathlib.Core.List.{List, [], ◌∷◌, ◌++◌}
use lib.Dec.{leb}
use native.Mathlib.Omega.{arith}
use Rattle.rules.specs.declared.Params.{Params}
use Rattle.rules.specs.declared.Reply.{Reply}
use Rattle.rules.specs.declared.Reply.TheVariants.{Accepted, BadAddress, NoStampLeft}
use Rattle.rules.specs.Tables.{Board, stamp_at}
use Rattle.rules.specs.Orderly.{enough}
use Rattle.rules.specs.Traces.{Op, clean, erase_where, replay_chip, replay_wear}
use Rattle.rules.specs.Requests.{Call, Request, format, queue, read, release, request_region, start, write}
use Rattle.rules.specs.Format.{bad, format_ops, formatted}
use Rattle.rules.specs.Write.{write_ops, written, written_by}
use Rattle.rules.specs.Release.{released}
use Rattle.rules.specs.Start.{left_over, start_ops, started}
use Rattle.rules.specs.Calls.{ops_of}
use Rattle.rules.specs.Replies.{OrderlyBoard, access_rows, bad_cluster, bad_parameter, block_row, early_rows, first_row, is_accepted, lengths_fit, lent_rows, no_block_left, no_stamp_left, not_orderly, order_row, reply_of, row, rows_of, stamp_row, wrong_length}
use Rattle.rules.proofs.Admitted.{format_admitted, read_checks, release_admitted, write_checks}
use Rattle.rules.proofs.Chip.{clean_append, replay_append}
use Rattle.rules.proofs.Erases.{erases_clean, erases_below, wear_append}
use Rattle.rules.proofs.FormatPromise.{format_lengths, format_orderly}
use Rattle.rules.proofs.Outcomes.{reply_cases}
use Rattle.rules.proofs.Releases.{release_lengths, release_orderly}
use Rattle.rules.proofs.Sizes.{sizes}
use Rattle.rules.proofs.TableFacts.{lengths_in, tables_in}
use Rattle.rules.proofs.Views.{enough_free, free_found}
use Rattle.rules.proofs.WritePromise.{write_promise}
use Rattle.starts.proofs.StartPromise.{start_lengths, start_orderly}
use Rattle.claims.specs.Runs.{AllFit}
use Rattle.claims.proofs.PlainRuns.{plain_board, plain_leaves, plain_parts, plain_trace}
use Rattle.claims.proofs.Once.{fit_append}
use Rattle.claims.proofs.Programs.{erases_fit, write_fits}
use Rattle.claims.proofs.Singles.{AllSingle, Single, all_single, board_same, parts_same, refused_leaves, singles_of}
use Rattle.starts.proofs.Accepted.{start_admitted}
use Rattle.claims.proofs.Steps.{accepted_leaves, accepted_ops, done_board, done_ops, ops_by, refused_ops, trace_step}

-- ---- an orderly board stays one

-- what an accepted call leaves
done_orderly : (p : Params) (b : Board) (c : Call) → Single c → reply_of p b c ≡ Accepted → OrderlyBoard p (done_board p b c)
unfolding done_board
done_orderly p b format s e = record { fine = (format_admitted p b e).fine; lengths = format_lengths p b e; tidy = format_orderly p b e }
done_orderly p b (read q) s e = let a = read_checks p b q e in record { fine = a.fine; lengths = a.lengths; tidy = a.tidy }
done_orderly p b (write q) s e = let w = write_promise p b q e in record { fine = (write_checks p b q e).fine; lengths = w.lengths; tidy = w.orderly_left }
done_orderly p b (release c) s e =
    let a = release_admitted p b c e in
    record { fine = a.fine; lengths = release_lengths p b c a.lengths a.tidy; tidy = release_orderly p b c (sizes p a.fine) a.lengths a.tidy }
done_orderly p b (queue l) s e = absurd s
done_orderly p b start s e = let a = start_admitted p b e in record { fine = a.fine; lengths = start_lengths p b a; tidy = start_orderly p b a }

pub accepted_orderly : (p : Params) (b : Board) (c : Call) → Single c → reply_of p b c ≡ Accepted → OrderlyBoard p (plain_leaves p b c)
accepted_orderly p b c s e = rw (accepted_leaves p b c s e) (done_orderly p b c s e)

-- and a refused one keeps it
pub orderly_kept : (p : Params) (b : Board) (c : Call) → Single c → OrderlyBoard p b → OrderlyBoard p (plain_leaves p b c)
orderly_kept p b c s h = go (reply_cases (reply_of p b c))
  where
    go : (reply_of p b c ≡ Accepted) ⊎ (is_accepted (reply_of p b c) ≡ false) → OrderlyBoard p (plain_leaves p b c)
    go (inl e) = accepted_orderly p b c s e
    go (inr e) = rw (refused_leaves p b c e) h

singles_orderly : (p : Params) (b : Board) (cs : List Call) → AllSingle cs → OrderlyBoard p b → OrderlyBoard p (plain_board p b cs)
unfolding plain_board
singles_orderly p b [] s h = h
singles_orderly p b (c ∷ cs) s h = singles_orderly p (plain_leaves p b c) cs s.1 (orderly_kept p b c s.0 h)

-- so after any run
pub after_orderly : (p : Params) (b : Board) (run : List Call) → OrderlyBoard p b → OrderlyBoard p (plain_board p b run)
after_orderly p b run h = rw (board_same p b run) (singles_orderly p b (singles_of p b run) (all_single p b run) h)

-- ---- then the reply depends on the request alone, and of a write on its region's last stamp too

-- of a read
unfoldable pub request_reply : Params → Request → Reply
request_reply p q = first_row Accepted (access_rows p q)

pub orderly_read : (p : Params) (b : Board) (q : Request) → OrderlyBoard p b → reply_of p b (read q) ≡ request_reply p q
unfolding reply_of rows_of lent_rows access_rows order_row request_reply first_row bad_parameter wrong_length not_orderly
orderly_read p b q h = rw (h.fine, h.lengths, h.tidy)

-- while at least μγ+1 blocks are not reserved, a write finds a free block
pub enough_found : (p : Params) (b : Board) → OrderlyBoard p b → enough p b ≡ true → (r : ℕ) → no_block_left p b r ≡ false
enough_found p b h room r =
    let z = sizes p h.fine in
    free_found p b z r (λ t. enough_free p z b (tables_in p b h.lengths h.tidy) room)

-- of a write, where the region's last stamp is t
unfoldable pub write_reply : Params → ℕ → Request → Reply
write_reply p t q = first_row Accepted (access_rows p q ++ (row (leb 4294967295 t) NoStampLeft ∷ []))

pub orderly_write : (p : Params) (b : Board) (q : Request) → OrderlyBoard p b → enough p b ≡ true → reply_of p b (write q) ≡ write_reply p (stamp_at b.stamps (request_region p q)) q
unfolding reply_of rows_of early_rows block_row lent_rows access_rows order_row stamp_row no_stamp_left write_reply first_row bad_parameter wrong_length not_orderly
orderly_write p b q h room = rw (h.fine, h.lengths, h.tidy, enough_found p b h room (request_region p q))

-- and of a release, its cluster's
unfoldable pub cluster_reply : Params → ℕ → Reply
cluster_reply p c = first_row Accepted (row (bad_cluster p c) BadAddress ∷ [])

pub orderly_release : (p : Params) (b : Board) (c : ℕ) → OrderlyBoard p b → reply_of p b (release c) ≡ cluster_reply p c
unfolding reply_of rows_of lent_rows order_row cluster_reply first_row bad_parameter wrong_length not_orderly
orderly_release p b c h = rw (h.fine, h.lengths, h.tidy)

-- ---- the operations of a call

-- they fit the chip
done_fit : (p : Params) (b : Board) (c : Call) → Single c → reply_of p b c ≡ Accepted → AllFit p (done_ops p b c)
unfolding done_ops
done_fit p b format s e = unfold format_ops in erases_fit p (sizes p (format_admitted p b e).fine) b.wear _
done_fit p b (read q) s e = tt
done_fit p b (write q) s e = write_fits p b q e
done_fit p b (release c) s e = tt
done_fit p b (queue l) s e = absurd s
done_fit p b start s e = unfold start_ops in erases_fit p (sizes p (start_admitted p b e).fine) b.wear (left_over p b.chip)

ops_fit : (p : Params) (b : Board) (c : Call) → Single c → AllFit p (ops_by p b c)
ops_fit p b c s = go (reply_cases (reply_of p b c))
  where
    go : (reply_of p b c ≡ Accepted) ⊎ (is_accepted (reply_of p b c) ≡ false) → AllFit p (ops_by p b c)
    go (inl e) = rw (accepted_ops p b c s e) (done_fit p b c s e)
    go (inr e) = rw (refused_ops p b c s e) tt

-- the chip and the wear after a call
done_chip : (p : Params) (b : Board) (c : Call) → (done_board p b c).chip ≡ replay_chip p b.chip (done_ops p b c)
unfolding done_board done_ops replay_chip formatted written written_by write_ops released started
done_chip p b format = refl
done_chip p b (read q) = refl
done_chip p b (write q) = refl
done_chip p b (release c) = refl
done_chip p b (queue l) = refl
done_chip p b start = refl

done_wear : (p : Params) (b : Board) (c : Call) → (done_board p b c).wear ≡ replay_wear b.wear (done_ops p b c)
unfolding done_board done_ops replay_wear formatted written written_by write_ops released started
done_wear p b format = refl
done_wear p b (read q) = refl
done_wear p b (write q) = refl
done_wear p b (release c) = refl
done_wear p b (queue l) = refl
done_wear p b start = refl

pub ops_chip : (p : Params) (b : Board) (c : Call) → Single c → (plain_leaves p b c).chip ≡ replay_chip p b.chip (ops_by p b c)
ops_chip p b c s = go (reply_cases (reply_of p b c))
  where
    go : (reply_of p b c ≡ Accepted) ⊎ (is_accepted (reply_of p b c) ≡ false) → (plain_leaves p b c).chip ≡ replay_chip p b.chip (ops_by p b c)
    go (inl e) = rw (accepted_leaves p b c s e, accepted_ops p b c s e) (done_chip p b c)
    go (inr e) = rw (refused_leaves p b c e, refused_ops p b c s e) (unfold replay_chip in refl)

ops_wear : (p : Params) (b : Board) (c : Call) → Single c → (plain_leaves p b c).wear ≡ replay_wear b.wear (ops_by p b c)
ops_wear p b c s = go (reply_cases (reply_of p b c))
  where
    go : (reply_of p b c ≡ Accepted) ⊎ (is_accepted (reply_of p b c) ≡ false) → (plain_leaves p b c).wear ≡ replay_wear b.wear (ops_by p b c)
    go (inl e) = rw (accepted_leaves p b c s e, accepted_ops p b c s e) (done_wear p b c)
    go (inr e) = rw (refused_leaves p b c e, refused_ops p b c s e) (unfold replay_wear in refl)

-- each page that a call programs is 255 throughout just before; a format programs none
done_clean : (p : Params) (b : Board) (c : Call) → Single c → reply_of p b c ≡ Accepted → clean p b.chip (done_ops p b c) ≡ true
unfolding done_ops clean format_ops start_ops erase_where erases_below
done_clean p b format s e =
    let a = format_admitted p b e in
    erases_clean p (sizes p a.fine) b.wear (λ n. not (bad p b.chip n)) b.chip (lengths_in p b a.lengths).chip_length p.N (omega arith)
done_clean p b (read q) s e = refl
done_clean p b (write q) s e = (write_promise p b q e).erased
done_clean p b (release c) s e = refl
done_clean p b (queue l) s e = absurd s
done_clean p b start s e =
    let a = start_admitted p b e in
    erases_clean p (sizes p a.fine) b.wear (left_over p b.chip) b.chip (lengths_in p b a.lengths).chip_length p.N (omega arith)

ops_clean : (p : Params) (b : Board) (c : Call) → Single c → clean p b.chip (ops_by p b c) ≡ true
ops_clean p b c s = go (reply_cases (reply_of p b c))
  where
    go : (reply_of p b c ≡ Accepted) ⊎ (is_accepted (reply_of p b c) ≡ false) → clean p b.chip (ops_by p b c) ≡ true
    go (inl e) = rw (accepted_ops p b c s e) (done_clean p b c s e)
    go (inr e) = rw (refused_ops p b c s e) (unfold clean in refl)

-- ---- a run of single calls

-- its operations fit the chip, are clean, and chip and wear are their replay
pub record Replayed (p : Params) (b b' : Board) (ops : List Op) : Type 0 where
  pub chip : b'.chip ≡ replay_chip p b.chip ops
  pub wear : b'.wear ≡ replay_wear b.wear ops
  pub erased : clean p b.chip ops ≡ true
  pub fits : AllFit p ops

pub none_made : (p : Params) (b : Board) → Replayed p b b []
unfolding replay_chip replay_wear clean
none_made p b = record { chip = refl; wear = refl; erased = refl; fits = tt }

-- one after the other
pub more_made : (p : Params) (b b' b'' : Board) (xs ys : List Op) → Replayed p b b' xs → Replayed p b' b'' ys → Replayed p b b'' (xs ++ ys)
more_made p b b' b'' xs ys s t =
    record {
      chip = t.chip ∙ ap (λ (x : List ℕ). replay_chip p x ys) s.chip ∙ sym (replay_append p b.chip xs ys);
      wear = t.wear ∙ ap (λ (x : List ℕ). replay_wear x ys) s.wear ∙ sym (wear_append b.wear xs ys);
      erased = clean_append p b.chip xs ys s.erased (rw (← s.chip) t.erased);
      fits = fit_append p xs ys s.fits t.fits;
    }

pub one_made : (p : Params) (b : Board) (c : Call) → Single c → Replayed p b (plain_leaves p b c) (ops_by p b c)
one_made p b c s = record { chip = ops_chip p b c s; wear = ops_wear p b c s; erased = ops_clean p b c s; fits = ops_fit p b c s }

singles_made : (p : Params) (b : Board) (cs : List Call) → AllSingle cs → Replayed p b (plain_board p b cs) (plain_trace p b cs)
unfolding plain_board
singles_made p b [] s = unfold plain_board plain_trace plain_parts ops_of in none_made p b
singles_made p b (c ∷ cs) s =
    rw (trace_step p b c cs)
    (more_made p b (plain_leaves p b c) _ (ops_by p b c) (plain_trace p (plain_leaves p b c) cs) (one_made p b c s.0) (singles_made p (plain_leaves p b c) cs s.1))

-- ---- any call

pub run_made : (p : Params) (b : Board) (run : List Call) → Replayed p b (plain_board p b run) (plain_trace p b run)
run_made p b run = rw (board_same p b run) (unfold plain_trace in rw (parts_same p b run) (unfold plain_trace in singles_made p b (singles_of p b run) (all_single p b run)))

-- its lengths stay right
singles_long : (p : Params) (b : Board) (cs : List Call) → AllSingle cs → lengths_fit p b ≡ true → lengths_fit p (plain_board p b cs) ≡ true
unfolding plain_board
singles_long p b [] s h = h
singles_long p b (c ∷ cs) s h = singles_long p (plain_leaves p b c) cs s.1 (go (reply_cases (reply_of p b c)))
  where
    go : (reply_of p b c ≡ Accepted) ⊎ (is_accepted (reply_of p b c) ≡ false) → lengths_fit p (plain_leaves p b c) ≡ true
    go (inl e) = (accepted_orderly p b c s.0 e).lengths
    go (inr e) = rw (refused_leaves p b c e) h

pub run_long : (p : Params) (b : Board) (run : List Call) → lengths_fit p b ≡ true → lengths_fit p (plain_board p b run) ≡ true
run_long p b run h = rw (board_same p b run) (singles_long p b (singles_of p b run) (all_single p b run) h)
