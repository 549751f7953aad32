-- The marks that the code keeps through a write are those that the rules make of them: of a reclaim's copies, of the cluster's old frame, which the
-- lookup found, and of its new one.
-- Assumes nothing.
use mathlib.Core.Path.{◌≡◌, ap, refl, sym, ◌∙◌}
use mathlib.Core.Logic.{◌⊎◌, inl, inr}
use mathlib.Core.Bool.{Bool, cond, false, not, true}
use mathlib.Core.List.{List}
use Prim.Native.Nat.{ℕ, ◌<◌}
use native.Mathlib.Nat.{mod-lt}
use native.Mathlib.Omega.{arith}
use lib.Dec.{eqb}
use lib.ListN.{length}
use borrow.Author.Tests.{eqb-false}
use Rattle.lists.proofs.Tests.{never, so}
use Rattle.rules.specs.declared.Params.{Params}
use Rattle.rules.specs.Numbers.{region_of}
use Rattle.rules.specs.Pages.{frame}
use Rattle.rules.specs.Regions.{valid_frames, view, view_of}
use Rattle.rules.specs.Tables.{Board, ct_at, none, marks_length}
use Rattle.rules.specs.Traces.{erases_in}
use Rattle.rules.specs.Write.{Plan, continues, copies, opens, plan_erases, plan_vblock, reclaims, victim_ops}
use Rattle.rules.proofs.Sizes.{sizes}
use Rattle.rules.proofs.WritePromise.{erase_counts}
use Rattle.marks.specs.Kept.{first_marks, put_mark, room_marks, without_old}
use Rattle.rules.specs.Marks.{Marks}
use Rattle.read_work.specs.Lookup.{Lookup, Stands, Within, block_for, last_for}
use Rattle.read_work.proofs.Views.{body_some, seg_is}
use Rattle.write_marks.specs.Keeping.{UnmarkAsked}
use Rattle.write_room.proofs.Worn.{map_length}

-- ---- the old frame

module _ (p : Params) (chip ct bt : List ℕ) (c : ℕ) (l : Lookup p chip ct bt c) (kept : Bool) (fr u g : ℕ) (s : Stands p chip ct bt c kept fr) (w : Within p chip ct bt c kept u g) where
  there : kept ≡ true → ct_at ct c ≡ none → ⊥
  there k = eqb-false _ _ (go (eqb (ct_at ct c) none) (sym s.has ∙ k))
    where
      go : (t : Bool) → not t ≡ true → t ≡ false
      go true e = absurd (never e refl)
      go false e = refl

  pub unmark_asked : (marks : List ℕ) → length marks ≡ marks_length p → (r : ℕ) → r ≡ region_of p c → UnmarkAsked p marks r kept u g
  unmark_asked marks long r er =
      record {
        fine = l.fine;
        long = long;
        region = rw er (mod-lt c (sizes p l.fine).regions);
        vblock = λ k. rw (w.vblock k) (l.leads (there k)).vblock;
        frame = λ k. rw (w.inner k) (omega (arith, (l.leads (there k)).held, (sizes p l.fine).short));
      }

  module _ (fst : List ℕ) (m : Marks) where
    abbrev r : ℕ
    r = region_of p c

    old_none : eqb (ct_at ct c) none ≡ true → cond kept (put_mark m r u g false) m ≡ without_old p (view_of p chip ct bt fst r) r c m
    unfolding without_old
    old_none e = rw (s.has, seg_is p chip ct bt fst c, e)

    old_some : eqb (ct_at ct c) none ≡ false → cond kept (put_mark m r u g false) m ≡ without_old p (view_of p chip ct bt fst r) r c m
    unfolding without_old last_for
    old_some e =
        let k : kept ≡ true = s.has ∙ rw e in
        let a = l.leads (there k) in
        let some : block_for p ct bt c ≡ none → ⊥ = λ x. omega (arith, x, a.block, (sizes p l.fine).blocks) in
        rw (k, w.vblock k, w.inner k, seg_is p chip ct bt fst c, e, body_some p chip ct bt fst c a.vblock some)

    pub old_is : cond kept (put_mark m r u g false) m ≡ without_old p (view_of p chip ct bt fst r) r c m
    old_is = go (so (eqb (ct_at ct c) none))
      where
        go : (eqb (ct_at ct c) none ≡ true) ⊎ (eqb (ct_at ct c) none ≡ false) → cond kept (put_mark m r u g false) m ≡ without_old p (view_of p chip ct bt fst r) r c m
        go (inl e) = old_none e
        go (inr e) = old_some e

-- ---- a reclaim's copies

pub room_is : (p : Params) (b : Board) (r : ℕ) (pl : Plan) (v copied erases : ℕ) → v ≡ plan_vblock pl → copied ≡ length (copies p (view p b r) pl) → erases ≡ erases_in (victim_ops p b r pl) → (m : Marks)
    → cond (eqb erases 0) m (first_marks m r v copied) ≡ room_marks p (view p b r) r pl m
unfolding room_marks plan_erases copies plan_vblock
room_is p b r (continues v' f) v copied erases ev ec ee m = rw (ee, (erase_counts p b r (continues v' f)).1)
room_is p b r (opens v') v copied erases ev ec ee m = rw (ee, (erase_counts p b r (opens v')).1)
room_is p b r (reclaims v') v copied erases ev ec ee m = rw (ee, (erase_counts p b r (reclaims v')).1, ev, ec, map_length (frame p ((view p b r).body v')) (valid_frames p (view p b r) v'))
