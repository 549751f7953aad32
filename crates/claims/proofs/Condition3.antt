-- Condition 3: after a format every board shows a region the same and its last stamp is 0, so the region's machine gives the same for the same requests.
-- Assumes nothing.
use mathlib.Core.Path.{◌≡◌, refl, sym, ap, ◌∙◌}
use Prim.Native.Nat.{ℕ, ◌+◌, ◌*◌, ◌<◌}
use native.Mathlib.Omega.{arith}
use native.Mathlib.Decide.{dec_lt}
use mathlib.Core.Bool.{Bool, true, false, cond}
use mathlib.Core.List.{List, [], ◌∷◌, map}
use lib.Dec.{eqb, ltb}
use lib.ListN.{get_or-eq_default, get_or, get_or-replicate, length-replicate, replicate}
use Rattle.rules.specs.declared.Params.{Params}
use Rattle.rules.specs.declared.Reply.TheVariants.{Accepted}
use Rattle.rules.specs.Numbers.{region_of}
use Rattle.rules.specs.Tables.{Board, bt_at, bt_entry, ct_at, fst_at, mark_index, none, word_at}
use Rattle.rules.specs.Regions.{View, body_at, view, view_of}
use Rattle.rules.specs.Marks.{marked, word_of}
use Rattle.rules.specs.Requests.{Call, format}
use Rattle.rules.specs.Format.{formatted}
use Rattle.rules.specs.Replies.{OrderlyBoard, reply_of}
use Rattle.rules.specs.Cuts.{Step, call_of, plain}
use Rattle.rules.proofs.Isolation.{view_path}
use Rattle.rules.proofs.TableFacts.{marks_in_lem}
use Rattle.marks.proofs.Tables.{region_word}
use Rattle.claims.specs.Runs.{leaves, parts_to, requests_to, roomy, to_region, told_to, uncut}
use Rattle.claims.proofs.PlainRuns.{after_format, first_plain, format_board, format_parts, plain_board, plain_leaves, plain_parts, plain_undisturbed, undisturbed_uncut}
use Rattle.claims.specs.Conditions.{Condition3}
use Rattle.claims.proofs.Kept.{accepted_orderly, after_orderly}
use Rattle.claims.proofs.RegionMachine.{Gives, State, run_gives, state_answers, state_of, state_run}
use Rattle.claims.proofs.Roomy.{calls_roomy, singles_roomy, uncut_roomy}
use Rattle.claims.proofs.Singles.{all_single, board_same, parts_same, singles_of, still_undisturbed}
use Rattle.claims.proofs.Stamps.{format_stamp}
use Rattle.claims.proofs.Steps.{format_leaves, part_of, parts_step}

-- ---- a region after a format

-- no CT entry, no FST entry, no block
bare : View
bare = record { seg_of = λ c. none; last_seg = none; body = λ v. [] }

fresh : State
fresh = record { vw = bare; stamp = 0 }

all_none : (n i : ℕ) → get_or (replicate n none) i none ≡ none
all_none n i = go (dec_lt i n)
  where
    go : Dec (i < n) → get_or (replicate n none) i none ≡ none
    go (yes h) = get_or-replicate n i none none h
    go (no h) = get_or-eq_default (replicate n none) none (rw length-replicate (omega arith))

either {ℓ} : {A : Type ℓ} (t : Bool) (x : A) → cond t x x ≡ x
either true x = refl
either false x = refl

format_view : (p : Params) (b : Board) (r : ℕ) → view p (formatted p b) r ≡ bare
unfolding view_of formatted ct_at bt_at bt_entry fst_at body_at bare
format_view p b r =
    view_path (λ c. rw (all_none p.C c) (either (eqb (region_of p c) r) none)) (all_none p.mu r)
    (λ v. rw (all_none (p.mu * p.gamma) (r * p.gamma + v)) (either (ltb v p.gamma) []))

format_state : (p : Params) (b : Board) (r : ℕ) → state_of p (formatted p b) r ≡ fresh
unfolding fresh
format_state p b r = λ i. record { vw = format_view p b r i; stamp = format_stamp p b r i }

-- ---- a run from a format on

module _ (p : Params) (b : Board) (e : reply_of p b format ≡ Accepted) (r : ℕ) (low : r < p.mu) (cs : List Call) (n : plain_undisturbed cs ≡ true)
    (room : calls_roomy p (plain_leaves p b format) cs ≡ true) where
  ordered : OrderlyBoard p (plain_leaves p b format)
  ordered = accepted_orderly p b format tt e

  start : state_of p (plain_leaves p b format) r ≡ fresh
  start = rw (format_leaves p b e) (format_state p b r)

  gives : Gives p (plain_leaves p b format) r (singles_of p (plain_leaves p b format) cs)
  gives = run_gives p r low (plain_leaves p b format) (singles_of p (plain_leaves p b format) cs) (all_single p (plain_leaves p b format) cs) ordered (still_undisturbed p (plain_leaves p b format) cs n)
      (singles_roomy p (plain_leaves p b format) cs room)

  -- the format tells the region nothing
  past_format : told_to p r (plain_parts p b (format ∷ cs)) ≡ told_to p r (plain_parts p (plain_leaves p b format) cs)
  past_format = rw (parts_step p b format cs tt) (unfold told_to parts_to part_of to_region in refl)

  region_answers : told_to p r (plain_parts p b (format ∷ cs)) ≡ state_answers p fresh (requests_to p r (plain_parts p (plain_leaves p b format) cs))
  region_answers = rw (past_format, parts_same p (plain_leaves p b format) cs) (gives.answers ∙ rw start)

  region_state : state_of p (plain_board p b (format ∷ cs)) r ≡ state_run p fresh (requests_to p r (plain_parts p (plain_leaves p b format) cs))
  unfolding plain_board
  region_state = rw (board_same p (plain_leaves p b format) cs, parts_same p (plain_leaves p b format) cs) (gives.left ∙ rw start)

  -- its words of marks are a function of its view
  region_words : (v w : ℕ) → v < p.gamma → w < 4 → word_at (plain_board p b (format ∷ cs)).marks (mark_index p r v w) ≡ word_of (marked p (view p (plain_board p b (format ∷ cs)) r) v) w
  region_words v w h k = rw (marks_in_lem p (plain_board p b (format ∷ cs)) after.lengths after.tidy) (region_word p (plain_board p b (format ∷ cs)) r v w low h k)
    where
      after : OrderlyBoard p (plain_board p b (format ∷ cs))
      after = unfold plain_board in after_orderly p (plain_leaves p b format) cs ordered

-- ---- the condition

format_roomy : (p : Params) (b : Board) (ss : List Step) → uncut p (leaves p b (plain format)) ss ≡ true → roomy p (leaves p b (plain format)) ss ≡ true
    → calls_roomy p (plain_leaves p b format) (map call_of ss) ≡ true
format_roomy p b ss u h = rw (first_plain p b ss) at (uncut_roomy p (leaves p b (plain format)) ss u h)

-- no call of either run is cut, so both are plain runs
pub condition_3 : Condition3
condition_3 p b b' ss ss' n n' r low same =
    let cs = map call_of ss in
    let cs' = map call_of ss' in
    let e = n.formats in
    let e' = n'.formats in
    let u = undisturbed_uncut p (leaves p b (plain format)) ss n.calls in
    let u' = undisturbed_uncut p (leaves p b' (plain format)) ss' n'.calls in
    let m = format_roomy p b ss u.0 n.room in
    let m' = format_roomy p b' ss' u'.0 n'.room in
    let alike : requests_to p r (plain_parts p (plain_leaves p b format) cs) ≡ requests_to p r (plain_parts p (plain_leaves p b' format) cs') =
    ap (requests_to p r) (sym (after_format p b ss u.0)) ∙ same ∙ ap (requests_to p r) (after_format p b' ss' u'.0) in
    let states : state_of p (plain_board p b (format ∷ cs)) r ≡ state_of p (plain_board p b' (format ∷ cs')) r =
    region_state p b e r low cs u.1 m ∙ ap (state_run p fresh) alike ∙ sym (region_state p b' e' r low cs' u'.1 m') in
    let views : view p (plain_board p b (format ∷ cs)) r ≡ view p (plain_board p b' (format ∷ cs')) r = ap (λ (x : State). x.vw) states in
    let is = format_board p b ss u.0 in
    let is' = format_board p b' ss' u'.0 in
    record {
      answers =
          rw (format_parts p b ss u.0, format_parts p b' ss' u'.0)
          (region_answers p b e r low cs u.1 m ∙ ap (state_answers p fresh) alike ∙ sym (region_answers p b' e' r low cs' u'.1 m'));
      views = rw (is, is') views;
      words = λ v w h k.
          rw (is, is')
          (region_words p b e r low cs u.1 m v w h k ∙ ap (λ (vw : View). word_of (marked p vw v) w) views ∙ sym (region_words p b' e' r low cs' u'.1 m' v w h k));
      stamp = rw (is, is') (ap (λ (x : State). x.stamp) states);
    }
