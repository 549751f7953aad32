-- What an accepted release asks of its parts, and its work done.
-- Assumes nothing.
use mathlib.Core.Path.{◌≡◌, sym, ap, ◌∙◌}
use mathlib.Core.Bool.{Bool, false, cond}
use mathlib.Core.List.{List, []}
use Prim.Native.Nat.{ℕ, ◌<◌}
use native.Mathlib.Nat.{mod-lt}
use lib.ListN.{length, set}
use Rattle.rules.specs.declared.Params.{Params}
use Rattle.rules.specs.declared.Reply.TheVariants.{Accepted}
use Rattle.rules.specs.declared.Answer.{Answer}
use Rattle.rules.specs.Numbers.{region_of}
use Rattle.rules.specs.Regions.{view}
use Rattle.rules.specs.Tables.{Board, board_of, none}
use Rattle.rules.specs.Marks.{Marks, marks_of, marks_on, table_of}
use Rattle.rules.specs.Traces.{replay_chip, replay_wear}
use Rattle.rules.specs.Requests.{release}
use Rattle.rules.specs.Release.{released}
use Rattle.rules.specs.Replies.{reply_of}
use Rattle.rules.specs.Calls.{answer_of, outcome_of}
use Rattle.rules.proofs.Sizes.{sizes}
use Rattle.rules.proofs.MarkFacts.{marks_long_lem}
use Rattle.rules.proofs.TableFacts.{marks_in_lem, tables_in}
use Rattle.rules.proofs.Admitted.{ReleaseAdmitted, orderly_region, release_admitted}
use Rattle.rules.proofs.RegionFacts.{neat}
use Rattle.rules.proofs.Releases.{release_marks}
use Rattle.rules.proofs.Outcomes.{release_accepted}
use Rattle.marks.specs.Kept.{put_mark}
use Rattle.marks.proofs.ReleasedMarks.{released_marks}
use Rattle.read_work.specs.Lookup.{Lookup, Stands, Within}
use Rattle.read_work.proofs.Views.{lookup_of}
use Rattle.write_marks.specs.Keeping.{UnmarkAsked}
use Rattle.write_marks.proofs.Keeping.{old_is, unmark_asked}
use Rattle.outcomes.specs.Claims.{outcome}

module _ (p : Params) (b : Board) (c : ℕ) (release_is : reply_of p b (release c) ≡ Accepted) where
  acc : ReleaseAdmitted p b c
  acc = release_admitted p b c release_is

  marks_are_lem : b.marks ≡ marks_of p b
  marks_are_lem = marks_in_lem p b acc.lengths acc.tidy

  regions : 0 < p.mu
  regions = (sizes p acc.fine).regions

  -- the cluster's frame can be looked up
  pub release_lookup : Lookup p b.chip b.ct b.bt c
  release_lookup =
      let l = tables_in p b acc.lengths acc.tidy in
      let nt = neat p (region_of p c) (view p b (region_of p c)) (orderly_region p b acc.tidy (region_of p c) (mod-lt c regions)) in
      lookup_of p b.chip b.ct b.bt b.fst c acc.fine l.chip_length l.ct_length l.bt_length acc.cluster l.names (nt.entries c acc.cluster)

  pub entry_there : c < length b.ct
  entry_there = rw release_lookup.ct_length release_lookup.low

  -- with what the lookup found
  module _ (kept : Bool) (fr u g : ℕ) (s : Stands p b.chip b.ct b.bt c kept fr) (w : Within p b.chip b.ct b.bt c kept u g) (r' : ℕ) (er : r' ≡ region_of p c) where
    pub release_unmark : UnmarkAsked p b.marks r' kept u g
    release_unmark = unmark_asked p b.chip b.ct b.bt c release_lookup kept fr u g s w b.marks (marks_long_lem p b marks_are_lem) r' er

    -- the marks that are kept are those of the board that is left
    marks_kept : (marks : List ℕ) → ((k : Marks) → b.marks ≡ table_of p k → marks ≡ table_of p (cond kept (put_mark k r' u g false) k)) → marks ≡ (released p b c).marks
    marks_kept marks h =
        let old = old_is p b.chip b.ct b.bt c release_lookup kept fr u g s w b.fst (marks_on p b) in
        (rw er at (h (marks_on p b) marks_are_lem)) ∙ ap (table_of p) old ∙ sym (released_marks p b c release_is) ∙ sym (release_marks p b c)

    board_is : (ct marks : List ℕ) → ct ≡ set b.ct c none → marks ≡ (released p b c).marks → board_of b.chip ct b.bt b.fst b.bst b.wear marks b.stamps ≡ released p b c
    unfolding released replay_chip replay_wear
    board_is ct marks x y = rw (y, x)

    pub release_done : (ct marks : List ℕ) → ct ≡ set b.ct c none → ((k : Marks) → b.marks ≡ table_of p k → marks ≡ table_of p (cond kept (put_mark k r' u g false) k))
        → (a : Answer) → a ≡ answer_of Accepted [] 0 → outcome a [] [] (board_of b.chip ct b.bt b.fst b.bst b.wear marks b.stamps) ≡ outcome_of p b (release c)
    release_done ct marks x h a y = rw (y, board_is ct marks x (marks_kept marks h)) (sym (release_accepted p b c release_is))
