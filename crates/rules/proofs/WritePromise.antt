-- The promises of a write, over all allowed parameters.
-- Assumes nothing.
use mathlib.Core.Path.{◌≡◌, refl, sym, ◌∙◌}
use Prim.Native.Nat.{ℕ, zero, suc, ◌+◌, ◌-◌, ◌*◌, ◌≤◌, ◌<◌}
use native.Mathlib.Nat.{mod-lt, mul-zero, mul-le-mul, le_refl}
use native.Mathlib.Omega.{arith}
use mathlib.Core.Bool.{true}
use mathlib.Core.List.{List, [], ◌∷◌, ◌++◌}
use lib.ListN.{length, length-map}
use Rattle.lists.specs.Below.{join_below}
use Rattle.lists.specs.Parts.{part}
use Rattle.rules.specs.declared.Params.{Params}
use Rattle.rules.specs.declared.Reply.TheVariants.{Accepted}
use Rattle.rules.specs.Parameters.{block_bytes, frames, pages}
use Rattle.rules.specs.Numbers.{region_of, sector_of, vblock_of}
use Rattle.rules.specs.Tables.{Board, bt_at}
use Rattle.rules.specs.Pages.{filled, frame, page}
use Rattle.rules.specs.Regions.{View, assigned, sector, valid_frames, view}
use Rattle.rules.specs.Orderly.{orderly}
use Rattle.rules.specs.Traces.{Op, clean, erases_in, frame_ops, frames_ops, is_erase, is_program, program, programs_in}
use Rattle.rules.specs.Write.{
  Plan,
  plan_erases,
  continues,
  copies,
  victim_ops,
  has_room,
  new_frame,
  next_stamp,
  opens,
  plan_block,
  plan_frame,
  plan_of,
  plan_ops,
  plan_vblock,
  reclaims,
  room_ops,
  takes_block,
  write_ops,
  written,
  written_by,
}
use Rattle.rules.specs.Replies.{lengths_fit, reply_of}
use Rattle.rules.specs.Requests.{Request, write, request_cluster, request_region}
use Rattle.rules.specs.Machine.{view_after}
use Rattle.rules.proofs.Admitted.{admitted, stamp_left, write_checks, write_free}
use Rattle.rules.proofs.Continues.{Makes, continue_base, continue_makes, is_open_lem}
use Rattle.rules.proofs.Sizes.{Sizes}
use Rattle.rules.proofs.Opens.{open_makes}
use Rattle.rules.proofs.PlanCases.{Case, goes_on, plan_case, renews, takes}
use Rattle.rules.proofs.Reclaims.{reclaim_makes}
use Rattle.rules.proofs.RegionFacts.{Neat, neat}
use Rattle.rules.proofs.TableFacts.{Tables, lengths_out}
use Rattle.rules.proofs.Views.{HasFree, body_size}
use Rattle.rules.proofs.WornBlocks.{wear_out_counts}
use Rattle.rules.proofs.Writes.{others_same, own_is, reads_else, reads_given, reads_rest, tables_after, write_clean, write_orderly, write_marks}

-- ---- every plan makes room

module _ (p : Params) (z : Sizes p) (b : Board) (t : Tables p b) (r : ℕ) (region : r < p.mu) (nt : Neat p r (view p b r))
    (free : takes_block (plan_of p (view p b r)) ≡ true → HasFree p b) where
  to_continue : has_room p (view p b r) ≡ true → Makes p b r (continues (vblock_of p (view p b r).last_seg) (filled p ((view p b r).body (vblock_of p (view p b r).last_seg))))
  to_continue h =
      let s : (u : ℕ) → u < p.gamma → assigned (view p b r) u ≡ true → length ((view p b r).body u) ≡ block_bytes p = λ u k a. body_size p z b t r u region k a in
      continue_makes p z b t r region nt _ _ (continue_base p z r (view p b r) nt s h) (is_open_lem p z r (view p b r) nt s h).has

  pub makes : Makes p b r (plan_of p (view p b r))
  makes = go (plan_of p (view p b r)) (plan_case p z r (view p b r) nt) free
    where
      go : (pl : Plan) → Case p (view p b r) pl → (takes_block pl ≡ true → HasFree p b) → Makes p b r pl
      go pl (goes_on h e) has = rw e (to_continue h)
      go pl (takes h v low lacks e) has = rw e (open_makes p z b t r region nt h v low lacks (has (rw e (unfold takes_block in refl))))
      go pl (renews h every v low few e) has = rw e (reclaim_makes p z b t r region nt h every v low few (has (rw e (unfold takes_block in refl))))

-- ---- the counts

pub programs_append : (xs ys : List Op) → programs_in (xs ++ ys) ≡ programs_in xs + programs_in ys
unfolding programs_in
programs_append [] ys = omega arith
programs_append (o ∷ xs) ys = rw (programs_append xs ys) (omega arith)

pub erases_append : (xs ys : List Op) → erases_in (xs ++ ys) ≡ erases_in xs + erases_in ys
unfolding erases_in
erases_append [] ys = omega arith
erases_append (o ∷ xs) ys = rw (erases_append xs ys) (omega arith)

frame_programs : (p : Params) (n f : ℕ) (x : List ℕ) (k : ℕ) → (programs_in (frame_ops p n f x k) ≡ k) × (erases_in (frame_ops p n f x k) ≡ 0)
unfolding frame_ops join_below programs_in erases_in is_program is_erase
frame_programs p n f x zero = (refl, refl)
frame_programs p n f x (suc k) =
    let w = frame_programs p n f x k in (
      programs_append (join_below k (λ j. program n (f * p.alpha + j) (page p x j) ∷ [])) _ ∙ rw w.0 (omega arith),
      erases_append (join_below k (λ j. program n (f * p.alpha + j) (page p x j) ∷ [])) _ ∙ rw w.1,
    )

frames_programs : (p : Params) (n to : ℕ) (xs : List (List ℕ)) → (programs_in (frames_ops p n to xs) ≡ p.alpha * length xs) × (erases_in (frames_ops p n to xs) ≡ 0)
unfolding frames_ops programs_in erases_in
frames_programs p n to [] = (sym (mul-zero p.alpha), refl)
frames_programs p n to (x ∷ xs) =
    let w = frames_programs p n (suc to) xs in
    let a = frame_programs p n to x p.alpha in
    (programs_append (frame_ops p n to x p.alpha) _ ∙ rw (a.0, w.0) (omega arith), erases_append (frame_ops p n to x p.alpha) _ ∙ rw (a.1, w.1))

pub erase_counts : (p : Params) (b : Board) (r : ℕ) (pl : Plan) → (programs_in (victim_ops p b r pl) ≡ 0) × (erases_in (victim_ops p b r pl) ≡ plan_erases pl)
unfolding victim_ops programs_in erases_in is_program is_erase plan_erases
erase_counts p b r (continues v f) = (refl, refl)
erase_counts p b r (opens v) = (refl, refl)
erase_counts p b r (reclaims v) = wear_out_counts p b.wear (bt_at p b.bt r v)

pub counts : (p : Params) (b : Board) (r : ℕ) (q : Request) (pl : Plan)
    → (programs_in (plan_ops p b r q pl) ≡ p.alpha * (length (copies p (view p b r) pl) + 1)) × (erases_in (plan_ops p b r q pl) ≡ plan_erases pl)
unfolding plan_ops room_ops
counts p b r q pl =
    let a = frames_programs p (plan_block p b r pl) 0 (copies p (view p b r) pl) in
    let e = erase_counts p b r pl in
    let f = frame_programs p (plan_block p b r pl) (plan_frame p (view p b r) pl) (new_frame p (view p b r) q (next_stamp b r) (plan_vblock pl)) p.alpha in
    (simp (programs_append, a.0, e.0, f.0) (omega arith), simp (erases_append, a.1, e.1, f.1) (omega arith))

pub copies_few : (p : Params) (vw : View) (pl : Plan) → length (copies p vw pl) ≤ plan_frame p vw pl
unfolding copies plan_frame
copies_few p vw (continues v f) = omega arith
copies_few p vw (opens v) = omega arith
copies_few p vw (reclaims v) = omega (arith, length-map (valid_frames p vw v) (frame p (vw.body v)))

bound : (p : Params) (vw : View) (pl : Plan) → plan_frame p vw pl < frames p → p.alpha * (length (copies p vw pl) + 1) ≤ pages p
unfolding pages
bound p vw pl h =
    let k : length (copies p vw pl) + 1 ≤ frames p = omega (arith, copies_few p vw pl) in
    mul-le-mul (le_refl p.alpha) k

one_erase : (pl : Plan) → plan_erases pl ≤ 1
unfolding plan_erases
one_erase (continues v f) = omega arith
one_erase (opens v) = omega arith
one_erase (reclaims v) = omega arith

-- ---- all promises in one record

pub record Promise (p : Params) (b : Board) (q : Request) (b' : Board) : Type 0 where
  -- (P) an orderly state is left
  pub orderly_left : orderly p b' ≡ true
  pub lengths : lengths_fit p b' ≡ true
  -- (R) the request's sectors read as given, all others as before
  pub given : (j : ℕ) → sector_of p q.lba ≤ j → j < sector_of p q.lba + q.count → sector p b' (request_cluster p q) j ≡ part p.s (j - sector_of p q.lba) q.bytes
  pub rest : (j : ℕ) → j < p.alpha → (sector_of p q.lba ≤ j → j < sector_of p q.lba + q.count → ⊥) → sector p b' (request_cluster p q) j ≡ sector p b (request_cluster p q) j
  pub others : (c : ℕ) → c < p.C → (c ≡ request_cluster p q → ⊥) → (j : ℕ) → sector p b' c j ≡ sector p b c j
  -- (E) each page is 255 throughout just before it is programmed
  pub erased : clean p b.chip (write_ops p b q) ≡ true
  -- (I) other regions' views stay; the region's own, and the counts, follow from its own view alone
  pub isolated : (r : ℕ) → r < p.mu → (r ≡ request_region p q → ⊥) → view p b' r ≡ view p b r
  pub own : view p b' (request_region p q) ≡ view_after p (view p b (request_region p q)) (next_stamp b (request_region p q)) q
  pub programs : programs_in (write_ops p b q) ≡ p.alpha * (length (copies p (view p b (request_region p q)) (plan_of p (view p b (request_region p q)))) + 1)
  pub bounded : (programs_in (write_ops p b q) ≤ pages p) × (erases_in (write_ops p b q) ≤ 1)
  pub erases : erases_in (write_ops p b q) ≡ plan_erases (plan_of p (view p b (request_region p q)))

pub write_promise : (p : Params) (b : Board) (q : Request) → reply_of p b (write q) ≡ Accepted → Promise p b q (written p b q)
unfolding written write_ops view_after
write_promise p b q e =
    let acc = admitted p b q (write_checks p b q e) in
    let left = stamp_left p b q e in
    let r = region_of p (request_cluster p q) in
    let low : r < p.mu = mod-lt (request_cluster p q) acc.sized.regions in
    let pl = plan_of p (view p b r) in
    let m : Makes p b r pl = makes p acc.sized b acc.tables r low (neat p r (view p b r) (acc.tidy r low)) (write_free p b q e) in
    record {
      orderly_left = write_orderly p b q acc r refl pl m left;
      lengths = lengths_out p (written_by p b r q pl) (tables_after p b q acc r refl pl m left) (write_marks p b r q pl);
      given = reads_given p b q acc r refl pl m left;
      rest = reads_rest p b q acc r refl pl m left;
      others = reads_else p b q acc r refl pl m left;
      erased = write_clean p b q acc r refl pl m left;
      isolated = others_same p b q acc r refl pl m left;
      own = own_is p b q acc r refl pl m left;
      programs = (counts p b r q pl).0;
      erases = (counts p b r q pl).1;
      bounded = (rw (counts p b r q pl).0 (bound p (view p b r) pl m.base.ready.low), rw (counts p b r q pl).1 (one_erase pl));
    }
