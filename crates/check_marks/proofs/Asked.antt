-- The block of a virtual block, where BT has one, as the tests of its marks want it; and the marks of a virtual block without a block.
-- Assumes nothing.
use mathlib.Core.Path.{◌≡◌, refl, sym, ◌∙◌}
use mathlib.Core.Bool.{Bool, false, true}
use mathlib.Core.List.{List, []}
use Prim.Native.Nat.{ℕ, ◌*◌, ◌+◌, ◌<◌}
use lib.ListN.{length}
use borrow.Author.Tests.{eq-eqb, lt-ltb, ne_eqb}
use Rattle.lists.specs.Below.{all_below}
use Rattle.lists.proofs.Tests.{all_cong}
use Rattle.rules.specs.declared.Params.{Params}
use Rattle.rules.specs.Orderly.{block_rule}
use Rattle.rules.specs.Pages.{block, frame}
use Rattle.rules.specs.Parameters.{allowed, block_bytes}
use Rattle.rules.specs.Regions.{View, assigned, body_at, view_of}
use Rattle.rules.specs.Tables.{bt_at, none}
use Rattle.rules.proofs.RegionFacts.{good_holds, whole_good}
use Rattle.rules.proofs.Sizes.{sizes}
use Rattle.marks.proofs.Counted.{unassigned_unmarked}
use Rattle.chip_marks.specs.Asked.{WordsAsked}
use Rattle.check_marks.specs.Shown.{CheckAsked, Mine, OneBlock, Shows, marks_valid, only_in, word_only}

-- the whole frames of a used block of region r hold clusters of it
pub block_mine : (p : Params) → allowed p ≡ true → (r v : ℕ) (blk : List ℕ) → block_rule p r v blk ≡ true → Mine p r blk
block_mine p fine r v blk h =
    record {
      low = λ f l w. (whole_good p r v blk h f l w).low;
      region = λ f l w. (whole_good p r v blk h f l w).mine;
      kept = λ f l w. let g = whole_good p r v blk h f l w in (g.on, good_holds p (sizes p fine) r v (frame p blk f) g w);
    }

module _ (p : Params) (chip ct bt marks : List ℕ) (r v : ℕ) (a : CheckAsked p chip ct bt marks r v) where
  pub words_asked : WordsAsked p marks r v
  words_asked = record { fine = a.fine; long = a.marks_long; region = a.region; vblock = a.low }

  abbrev vw : View
  vw = view_of p chip ct bt [] r

  module _ (n : ℕ) (is : n ≡ bt_at p bt r v) where
    -- it has none
    lacks : n ≡ none → assigned vw v ≡ false
    unfolding assigned view_of body_at
    lacks e = rw (lt-ltb v p.gamma a.low, ← is, eq-eqb n none e)

    pub none_valid : n ≡ none → (ok : Bool) → ok ≡ all_below 4 (word_only p marks r v (λ f. false)) → ok ≡ marks_valid p chip ct bt marks r v
    unfolding marks_valid only_in
    none_valid e ok h =
        h ∙ all_cong 4 _ _ (λ w l. all_cong 64 _ _ (λ i k. rw (unassigned_unmarked p vw v (lacks e) (64 * w + i))))

    -- it has this one
    module _ (ne : n ≡ none → ⊥) where
      named : (n < p.N) × Mine p r (block p chip n)
      named = rw is (a.named (λ e. ne (is ∙ e)))

      pub block_low_lem : n < p.N
      block_low_lem = named.0

      module _ (blk : List ℕ) (eb : blk ≡ block p chip n) where
        pub one_block : length blk ≡ block_bytes p → OneBlock p blk ct v
        one_block e = record { fine = a.fine; size = e; ct_length = a.ct_length; low = a.low; clusters = rw eb named.1.low; kept = rw eb named.1.kept }

        pub shows : Shows p r v blk ct vw
        unfolding view_of body_at
        shows = record { body = rw (lt-ltb v p.gamma a.low, ← is, ne_eqb n none ne) (sym eb); segs = λ c. refl; mine = rw eb named.1.region }
