-- Whether a frame is a whole one of a cluster with a stamp, look by look; and what holds of a virtual block without a block.
-- Assumes nothing.
use mathlib.Core.Path.{◌≡◌, refl, sym, ap, ◌∙◌}
use mathlib.Core.Logic.{⊎_elim}
use mathlib.Core.Bool.{Bool, true, false, not, and-false, and-true}
use mathlib.Core.List.{List, []}
use Prim.Native.Nat.{ℕ, ◌<◌}
use native.Mathlib.Omega.{arith}
use lib.Dec.{eqb}
use lib.ListN.{get_or, length}
use borrow.Author.Tests.{eq-eqb, ne_eqb}
use Rattle.lists.specs.Below.{all_true}
use Rattle.lists.specs.Parts.{all_are}
use Rattle.lists.proofs.Joins.{all_are_part}
use Rattle.lists.proofs.Tests.{all_below_intro}
use Rattle.rules.specs.declared.Params.{Params}
use Rattle.rules.specs.Parameters.{frame_bytes, frames}
use Rattle.rules.specs.Tables.{none}
use Rattle.rules.specs.Pages.{block, frame, held, stamp_of, whole}
use Rattle.rules.specs.Regions.{body_at}
use Rattle.rules.proofs.Frames.{erased_whole}
use Rattle.rules.proofs.Sizes.{sizes}
use Rattle.check_apart.specs.Apart.{Asked, block_apart, frame_apart, has, kept_body, lacks}

-- ---- one frame

module _ (p : Params) (fr : List ℕ) (c t : ℕ) where
  pub has_stamp : (s : ℕ) → s ≡ stamp_of p fr → (s ≡ t → ⊥) → false ≡ has p c t fr
  unfolding has all_true
  has_stamp s e ne = rw (← e, ne_eqb t s (λ q. ne (sym q)), and-false (eqb c (held p fr)), and-false (whole p fr))

  pub has_cluster : (h : ℕ) → h ≡ held p fr → (h ≡ c → ⊥) → false ≡ has p c t fr
  unfolding has all_true
  has_cluster h e ne = rw (← e, ne_eqb c h (λ q. ne (sym q)), and-false (whole p fr))

  pub has_is : (s h : ℕ) → s ≡ stamp_of p fr → s ≡ t → h ≡ held p fr → h ≡ c → (w : Bool) → w ≡ whole p fr → w ≡ has p c t fr
  unfolding has all_true
  has_is s h e a k b w q = rw (← e, eq-eqb t s (sym a), ← k, eq-eqb c h (sym b), and-true (whole p fr)) q

-- ---- a virtual block without a block has no whole frame

no_bytes : (p : Params) (f : ℕ) → all_are 255 (frame p [] f) ≡ true
unfolding frame all_are
no_bytes p f = all_are_part 255 (frame_bytes p) f [] refl

none_whole : (p : Params) (f : ℕ) → whole p (frame p [] f) ≡ false
none_whole p f = erased_whole p (frame p [] f) (no_bytes p f)

none_has : (p : Params) (c t f : ℕ) → has p c t (frame p [] f) ≡ false
unfolding has all_true
none_has p c t f = rw (none_whole p f)

module _ (p : Params) (chip kept : List ℕ) (v : ℕ) (none_kept : get_or kept v none ≡ none) where
  body_none : kept_body p chip kept v ≡ []
  unfolding kept_body body_at
  body_none = rw none_kept

  pub none_lacks : (c t : ℕ) → true ≡ lacks p c t (frames p) (kept_body p chip kept v)
  unfolding lacks
  none_lacks c t = rw body_none (sym (all_below_intro (frames p) (λ f. not (has p c t (frame p [] f))) (λ f h. ap not (none_has p c t f))))

  pub no_whole : (f : ℕ) → whole p (frame p (kept_body p chip kept v) f) ≡ false
  no_whole f = rw body_none (none_whole p f)

  none_apart : (f : ℕ) → frame_apart p chip kept v f ≡ true
  unfolding frame_apart
  none_apart f = rw (no_whole f)

  pub none_block : true ≡ block_apart p chip kept v
  unfolding block_apart
  none_block = sym (all_below_intro (frames p) (frame_apart p chip kept v) (λ f h. none_apart f))

-- one with a block
pub body_some : (p : Params) (chip kept : List ℕ) (v n : ℕ) → n ≡ get_or kept v none → (n ≡ none → ⊥) → block p chip n ≡ kept_body p chip kept v
unfolding kept_body body_at
body_some p chip kept v n e ne = rw (← e, ne_eqb n none ne)

-- a frame of it, as it is read
pub read_frame : (p : Params) (blk body fr : List ℕ) (f : ℕ) → fr ≡ frame p blk f → blk ≡ body → fr ≡ frame p body f
read_frame p blk body fr f e b = rw (← b) e

-- the row has a place for each virtual block, and what stands there is none or a block
module _ (p : Params) (chip kept : List ℕ) (a : Asked p chip kept) (v : ℕ) (h : v < p.gamma) where
  pub row_in : v < length kept
  row_in = rw a.row (omega (arith, (sizes p a.fine).gamma_high))

  pub kept_low : (n : ℕ) → n ≡ get_or kept v none → (n ≡ none → ⊥) → n < p.N
  kept_low n e ne = rw e (⊎_elim (λ q. absurd (ne (e ∙ q))) (λ l. l) (a.blocks v h))
