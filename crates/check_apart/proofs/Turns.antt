-- The frames one after the other, with the bits of those that came before: a whole frame whose bit is not set yet differs from all of them.
-- Assumes nothing.
use mathlib.Core.Path.{◌≡◌, refl, sym, ap, ◌∙◌}
use mathlib.Core.Logic.{◌⊎◌, inl, inr}
use mathlib.Core.Bool.{Bool, true, false, not}
use mathlib.Core.List.{List}
use Prim.Native.Nat.{ℕ, ◌+◌, ◌<◌}
use native.Mathlib.Decide.{ℕ_discrete}
use native.Mathlib.Omega.{arith}
use lib.ListN.{get_or, length}
use borrow.Author.Tests.{eqb-true}
use Rattle.lists.specs.Below.{all_below}
use Rattle.lists.proofs.Tests.{all_below_intro, never, so, truths}
use Rattle.loops.proofs.Below.{all_fails}
use Rattle.rules.specs.declared.Params.{Params}
use Rattle.rules.specs.Parameters.{frames}
use Rattle.rules.specs.Tables.{none}
use Rattle.rules.specs.Pages.{frame, held, stamp_of, whole}
use Rattle.check_apart.specs.Apart.{BlockDone, FrameDone, Seen, Sees, block_apart, frame_apart, has, is_seen, kept_body, lack_before, lacks}
use Rattle.check_apart.proofs.Whole.{no_whole, none_block}

-- ---- a stamp that was not seen

has_both : (p : Params) (c t : ℕ) (fr : List ℕ) → has p c t fr ≡ true → (whole p fr ≡ true) × (t ≡ stamp_of p fr)
unfolding has
has_both p c t fr e = let w = truths _ e in (w.0, eqb-true _ _ w.1.1.0)

other_stamp : (p : Params) (c t : ℕ) (fr : List ℕ) → (whole p fr ≡ true → t ≡ stamp_of p fr → ⊥) → not (has p c t fr) ≡ true
other_stamp p c t fr differs = ap not (go (so (has p c t fr)))
  where
    go : (has p c t fr ≡ true) ⊎ (has p c t fr ≡ false) → has p c t fr ≡ false
    go (inr e) = e
    go (inl e) = let w = has_both p c t fr e in absurd (differs w.0 w.1)

module _ (p : Params) (chip kept : List ℕ) (v f : ℕ) (seen : List ℕ) (s : Seen p chip kept v f seen) where
  abbrev body : ℕ → List ℕ
  body u = kept_body p chip kept u

  -- ---- over frame f of virtual block v

  module _ (fr : List ℕ) (fr-is : fr ≡ frame p (body v) f) where
    -- one that is not whole
    pub frame_begun : whole p fr ≡ false → FrameDone p chip kept v f true seen
    frame_begun e = record { said = sym apart; seen = λ t. record { size = s.size; before = s.before; own = λ g h. own g h (ℕ_discrete g f) } }
      where
        not_whole : whole p (frame p (body v) f) ≡ false
        not_whole = rw fr-is at e

        apart : frame_apart p chip kept v f ≡ true
        apart = unfold frame_apart in rw not_whole

        own : (g : ℕ) → g < f + 1 → Dec (g ≡ f) → whole p (frame p (body v) g) ≡ true → is_seen seen (stamp_of p (frame p (body v) g)) ≡ true
        own g h (yes d) w = absurd (never w (ap (λ (i : ℕ). whole p (frame p (body v) i)) d ∙ not_whole))
        own g h (no d) w = s.own g (omega arith) w

    -- over its stamp
    module _ (t : ℕ) (t-is : t ≡ stamp_of p fr) (was : Bool) (seen' : List ℕ) (k : Sees seen t was seen') where
      then_seen : Seen p chip kept v (f + 1) seen'
      then_seen =
          record {
            size = k.size ∙ s.size;
            before = λ u g a b w. k.stays _ (s.before u g a b w);
            own = λ g h w. own g h w (ℕ_discrete g f);
          }
        where
          here : is_seen seen' (stamp_of p (frame p (body v) f)) ≡ true
          here = rw (← fr-is, ← t-is) k.set

          own : (g : ℕ) → g < f + 1 → whole p (frame p (body v) g) ≡ true → Dec (g ≡ f) → is_seen seen' (stamp_of p (frame p (body v) g)) ≡ true
          own g h w (yes d) = rw d here
          own g h w (no d) = k.stays _ (s.own g (omega arith) w)

      -- not seen before: it differs from all
      module _ (new : was ≡ false) where
        unseen : is_seen seen t ≡ false
        unseen = sym k.was_is ∙ new

        lacks_here : lacks p (held p fr) t f (body v) ≡ true
        unfolding lacks
        lacks_here =
            all_below_intro f _ (λ g h. other_stamp p (held p fr) t (frame p (body v) g) (λ w e. never (s.own g h w) (ap (is_seen seen) (sym e) ∙ unseen)))

        lacks_before : lack_before p chip kept (held p fr) t v ≡ true
        unfolding lack_before lacks
        lacks_before =
            all_below_intro v _ (λ u a. all_below_intro (frames p) _ (λ g b. other_stamp p (held p fr) t (frame p (body u) g) (λ w e. never (s.before u g a b w) (ap (is_seen seen) (sym e) ∙ unseen))))

        pub frame_new : whole p fr ≡ true → FrameDone p chip kept v f true seen'
        frame_new w = record { said = sym (apart w); seen = λ x. then_seen }
          where
            apart : whole p fr ≡ true → frame_apart p chip kept v f ≡ true
            apart w = unfold frame_apart in rw (← fr-is, ← t-is, w, lacks_here, lacks_before)

      -- seen before: looked for, over the block and the cluster that are read
      module _ (w : whole p fr ≡ true) (c : ℕ) (c_is : c ≡ held p fr) (blk : List ℕ) (blk-is : blk ≡ body v) where
        pub frame_found : lacks p c t f blk ≡ false → FrameDone p chip kept v f false seen'
        frame_found e = record { said = sym apart; seen = λ x. absurd (never x refl) }
          where
            apart : frame_apart p chip kept v f ≡ false
            apart = unfold frame_apart in rw (← fr-is, ← t-is, ← c_is, w, ← blk-is, e)

        pub frame_looked : lacks p c t f blk ≡ true → (ok : Bool) → ok ≡ lack_before p chip kept c t v → FrameDone p chip kept v f ok seen'
        frame_looked e ok q = record { said = q ∙ sym apart; seen = λ x. then_seen }
          where
            apart : frame_apart p chip kept v f ≡ lack_before p chip kept c t v
            apart = unfold frame_apart in rw (← fr-is, ← t-is, ← c_is, w, ← blk-is, e)

-- ---- block by block

pub seen_start : (p : Params) (chip kept seen : List ℕ) → length seen ≡ 256 → Seen p chip kept 0 0 seen
seen_start p chip kept seen e = record { size = e; before = λ u g a. absurd (omega arith); own = λ g a. absurd (omega arith) }

-- all frames of virtual block v were seen
seen_next : (p : Params) (chip kept : List ℕ) (v : ℕ) (seen : List ℕ) → Seen p chip kept v (frames p) seen → Seen p chip kept (v + 1) 0 seen
seen_next p chip kept v seen s = record { size = s.size; before = λ u g a b w. at u g a b w (ℕ_discrete u v); own = λ g a. absurd (omega arith) }
  where
    at : (u g : ℕ) → u < v + 1 → g < frames p → whole p (frame p (kept_body p chip kept u) g) ≡ true → Dec (u ≡ v) → is_seen seen (stamp_of p (frame p (kept_body p chip kept u) g)) ≡ true
    at u g a b w (yes d) =
        let y : whole p (frame p (kept_body p chip kept v) g) ≡ true = rw d at w in
        rw d (s.own g b y)
    at u g a b w (no d) = s.before u g (omega arith) b w

module _ (p : Params) (chip kept : List ℕ) (v : ℕ) (seen : List ℕ) where
  pub block_none : get_or kept v none ≡ none → Seen p chip kept v 0 seen → BlockDone p chip kept v true seen
  block_none e s =
      record {
        said = none_block p chip kept v e;
        seen = λ t. seen_next p chip kept v seen (record { size = s.size; before = s.before; own = λ g h w. absurd (never w (no_whole p chip kept v e g)) });
      }

  pub block_fails : (f : ℕ) → f < frames p → (ok : Bool) → ok ≡ false → FrameDone p chip kept v f ok seen → BlockDone p chip kept v false seen
  block_fails f h ok e d = record { said = sym fails; seen = λ t. absurd (never t refl) }
    where
      fails : block_apart p chip kept v ≡ false
      fails = unfold block_apart in all_fails (frames p) f (frame_apart p chip kept v) h (sym d.said ∙ e)

  pub block_all : (f : ℕ) → f ≡ frames p → all_below f (frame_apart p chip kept v) ≡ true → Seen p chip kept v f seen → BlockDone p chip kept v true seen
  block_all f e a s = record { said = sym all; seen = λ t. seen_next p chip kept v seen (rw e at s) }
    where
      all : block_apart p chip kept v ≡ true
      all = unfold block_apart in rw (← e) a
