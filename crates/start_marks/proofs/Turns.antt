-- The table of the marks so far: at the start, what one frame adds, at the end of a virtual block, with a block or without, and at the end. Each as marks that agree.
-- Assumes nothing.
use mathlib.Core.Path.{◌≡◌, refl, sym, ap, ◌∙◌}
use mathlib.Core.Bool.{true, false, ◌&&◌, ◌||◌, and-false, cond}
use mathlib.Core.List.{List, []}
use Prim.Native.Nat.{ℕ, ◌+◌, ◌*◌, ◌/◌, ◌%◌, ◌<◌}
use native.Mathlib.Nat.{div-add-mod', div-lt_iff_lt-mul, mod-lt}
use native.Mathlib.Decide.{dec_lt, ℕ_discrete}
use native.Mathlib.Omega.{arith}
use lib.Dec.{eqb, ltb}
use lib.ListN.{length, replicate}
use borrow.Author.Tests.{eq-eqb, le-ltb, lt-ltb, ne_eqb}
use Rattle.rules.specs.declared.Params.{Params}
use Rattle.rules.specs.Parameters.{block_bytes, frames}
use Rattle.rules.specs.Tables.{bt_at, bt_entry, marks_length, none}
use Rattle.rules.specs.Pages.{block}
use Rattle.rules.specs.Regions.{View, assigned, body_at, valid, view_of}
use Rattle.rules.specs.Marks.{Marks, marked, marks_in, table_of}
use Rattle.rules.proofs.Isolation.{index_inj, index_low}
use Rattle.rules.proofs.MarkFacts.{table_length}
use Rattle.rules.proofs.Sizes.{Sizes, sizes}
use Rattle.marks.specs.Kept.{put_mark}
use Rattle.marks.proofs.Counted.{unassigned_unmarked}
use Rattle.marks.proofs.FrameMarks.{marked_valid, unmarked}
use Rattle.marks.proofs.Tables.{table_cong, table_none}
use Rattle.chip_marks.specs.Asked.{WordsAsked}
use Rattle.check_marks.specs.Shown.{CheckAsked, OneBlock, Shows}
use Rattle.check_marks.proofs.Asked.{block_mine, one_block, shows, words_asked}
use Rattle.start_marks.specs.SoFar.{EntryAsked, marks_to}

-- ---- at the start, and at the end

module _ (p : Params) (views : ℕ → View) where
  pub marks_start : replicate (marks_length p) 0 ≡ table_of p (marks_to p views 0 0)
  unfolding marks_to
  marks_start = table_none p ∙ table_cong p _ _ (λ r v f _ _ _. rw (le-ltb (r * p.gamma + v) 0 (omega arith), le-ltb f 0 (omega arith), and-false))

  pub marks_end : table_of p (marks_to p views (p.mu * p.gamma) 0) ≡ table_of p (marks_in p views)
  unfolding marks_to marks_in
  marks_end = table_cong p _ _ (λ r v f h k _. rw (lt-ltb (r * p.gamma + v) (p.mu * p.gamma) (index_low p r v h k)))

pub marks_length_lem : (p : Params) (m : Marks) (marks : List ℕ) → marks ≡ table_of p m → length marks ≡ marks_length p
marks_length_lem p m marks e = rw e (table_length p m)

-- no mark is by FST
pub any_fst : (p : Params) (chip ct bt fst : List ℕ) → table_of p (marks_in p (view_of p chip ct bt [])) ≡ table_of p (marks_in p (view_of p chip ct bt fst))
unfolding marks_in marked valid view_of
any_fst p chip ct bt fst = table_cong p _ _ (λ r v f _ _ _. refl)

-- ---- one frame

same_place : (γ r v a b : ℕ) → v < γ → b < γ → a * γ + b ≡ r * γ + v → (a ≡ r) × (b ≡ v)
same_place γ r v a b h k e = let q : a ≡ r = index_inj γ a b r v k h e in (q, omega (arith, e, ap (λ (x : ℕ). x * γ) q))

module _ (p : Params) (views : ℕ → View) (r v f : ℕ) (low : v < p.gamma) (inside : f < frames p) where
  abbrev at : ℕ
  at = r * p.gamma + v

  here : (k g : ℕ) → marks_to p views at k r v g ≡ ltb g k && marked p (views r) v g
  unfolding marks_to
  here k g = rw (le-ltb at at (omega arith), eq-eqb at at refl)

  elsewhere : (k j a b g : ℕ) → (a * p.gamma + b ≡ at → ⊥) → marks_to p views at k a b g ≡ marks_to p views at j a b g
  unfolding marks_to
  elsewhere k j a b g ne = rw (ne_eqb (a * p.gamma + b) at ne)

  -- another frame of the block has its mark as before
  other : (g : ℕ) → (g ≡ f → ⊥) → ltb g f ≡ ltb g (f + 1)
  other g ne = go (dec_lt g f)
    where
      go : Dec (g < f) → ltb g f ≡ ltb g (f + 1)
      go (yes h) = rw (lt-ltb g f h, lt-ltb g (f + 1) (omega arith))
      go (no h) = rw (le-ltb g f (omega arith), le-ltb g (f + 1) (omega arith))

  pub marks_skip : valid p (views r) v f ≡ false → table_of p (marks_to p views at f) ≡ table_of p (marks_to p views at (f + 1))
  marks_skip e = table_cong p _ _ (λ a b g _ k _. go a b g k (ℕ_discrete (a * p.gamma + b) at) (ℕ_discrete g f))
    where
      go : (a b g : ℕ) → b < p.gamma → Dec (a * p.gamma + b ≡ at) → Dec (g ≡ f) → marks_to p views at f a b g ≡ marks_to p views at (f + 1) a b g
      go a b g k (no ne) d = elsewhere f (f + 1) a b g ne
      go a b g k (yes q) (no ne) = let w = same_place p.gamma r v a b low k q in rw (w.0, w.1, here f g, here (f + 1) g, other g ne)
      go a b g k (yes q) (yes d) =
          let w = same_place p.gamma r v a b low k q in
          rw (w.0, w.1, d, here f f, here (f + 1) f, marked_valid p (views r) v f inside, e, and-false, and-false)

  pub marks_put : valid p (views r) v f ≡ true → table_of p (put_mark (marks_to p views at f) r v f true) ≡ table_of p (marks_to p views at (f + 1))
  unfolding put_mark
  marks_put e = table_cong p _ _ (λ a b g _ k _. go a b g k (ℕ_discrete a r) (ℕ_discrete b v) (ℕ_discrete g f))
    where
      go : (a b g : ℕ) → b < p.gamma → Dec (a ≡ r) → Dec (b ≡ v) → Dec (g ≡ f)
          → cond (eqb a r && (eqb b v && eqb g f)) true (marks_to p views at f a b g) ≡ marks_to p views at (f + 1) a b g
      go a b g k (no x) y d = rw (ne_eqb a r x) (elsewhere f (f + 1) a b g (λ q. x (same_place p.gamma r v a b low k q).0))
      go a b g k (yes x) (no y) d = rw (ne_eqb b v y, and-false) (elsewhere f (f + 1) a b g (λ q. y (same_place p.gamma r v a b low k q).1))
      go a b g k (yes x) (yes y) (no d) = rw (ne_eqb g f d, and-false, and-false, x, y, here f g, here (f + 1) g, other g d)
      go a b g k (yes x) (yes y) (yes d) =
          rw (x, y, d, eq-eqb r r refl, eq-eqb v v refl, eq-eqb f f refl, here (f + 1) f, lt-ltb f (f + 1) (omega arith)) (sym (marked_valid p (views r) v f inside ∙ e))

-- ---- the end of a virtual block

module _ (p : Params) (views : ℕ → View) (i : ℕ) where
  before : (k a b g : ℕ) → (a * p.gamma + b ≡ i → ⊥) → marks_to p views i k a b g ≡ marks_to p views (i + 1) 0 a b g
  unfolding marks_to
  before k a b g ne = rw (ne_eqb (a * p.gamma + b) i ne, le-ltb g 0 (omega arith), and-false) (go (dec_lt (a * p.gamma + b) i))
    where
      go : Dec (a * p.gamma + b < i) → (ltb (a * p.gamma + b) i || false) && marked p (views a) b g ≡ (ltb (a * p.gamma + b) (i + 1) || false) && marked p (views a) b g
      go (yes h) = rw (lt-ltb (a * p.gamma + b) i h, lt-ltb (a * p.gamma + b) (i + 1) (omega arith))
      go (no h) = rw (le-ltb (a * p.gamma + b) i (omega arith), le-ltb (a * p.gamma + b) (i + 1) (omega arith))

  at_it : (k a b g : ℕ) → a * p.gamma + b ≡ i → (marks_to p views i k a b g ≡ ltb g k && marked p (views a) b g) × (marks_to p views (i + 1) 0 a b g ≡ marked p (views a) b g)
  unfolding marks_to
  at_it k a b g e = (rw (e, le-ltb i i (omega arith), eq-eqb i i refl), rw (e, lt-ltb i (i + 1) (omega arith)))

  -- all frames of its block are gone over
  pub marks_block : table_of p (marks_to p views i (frames p)) ≡ table_of p (marks_to p views (i + 1) 0)
  marks_block = table_cong p _ _ (λ a b g _ _ _. go a b g (ℕ_discrete (a * p.gamma + b) i) (dec_lt g (frames p)))
    where
      go : (a b g : ℕ) → Dec (a * p.gamma + b ≡ i) → Dec (g < frames p) → marks_to p views i (frames p) a b g ≡ marks_to p views (i + 1) 0 a b g
      go a b g (no ne) d = before (frames p) a b g ne
      go a b g (yes e) (yes h) = let w = at_it (frames p) a b g e in rw (w.0, w.1, lt-ltb g (frames p) h)
      go a b g (yes e) (no h) = let w = at_it (frames p) a b g e in rw (w.0, w.1, unmarked p (views a) b g (omega arith), and-false)

  -- it has no block
  pub marks_none : ((a b : ℕ) → a * p.gamma + b ≡ i → b < p.gamma → assigned (views a) b ≡ false) → table_of p (marks_to p views i 0) ≡ table_of p (marks_to p views (i + 1) 0)
  marks_none lacks = table_cong p _ _ (λ a b g _ h _. go a b g h (ℕ_discrete (a * p.gamma + b) i))
    where
      go : (a b g : ℕ) → b < p.gamma → Dec (a * p.gamma + b ≡ i) → marks_to p views i 0 a b g ≡ marks_to p views (i + 1) 0 a b g
      go a b g h (no ne) = before 0 a b g ne
      go a b g h (yes e) = let w = at_it 0 a b g e in rw (w.0, w.1, unassigned_unmarked p (views a) b (lacks a b e h) g, and-false)

-- ---- as the code goes

module _ (p : Params) (chip ct bt marks : List ℕ) (i : ℕ) (q : EntryAsked p chip ct bt marks i) where
  z : Sizes p
  z = sizes p q.found.fine

  abbrev views : ℕ → View
  views = view_of p chip ct bt []

  long : length marks ≡ marks_length p
  long = marks_length_lem p _ marks q.so

  pub divisor : 0 < p.gamma
  divisor = z.vblocks

  region : i / p.gamma < p.mu
  region = (div-lt_iff_lt-mul z.vblocks).1 q.low

  low : i % p.gamma < p.gamma
  low = mod-lt i z.vblocks

  pub in_bt : i < length bt
  in_bt = rw q.found.bt_length q.low

  module _ (n : ℕ) (is : n ≡ bt_entry bt i) where
    at_is : n ≡ bt_at p bt (i / p.gamma) (i % p.gamma)
    unfolding bt_at
    at_is = is ∙ ap (bt_entry bt) (sym (div-add-mod' i p.gamma))

    pub without : n ≡ none → marks ≡ table_of p (marks_to p views (i + 1) 0)
    without e = q.so ∙ marks_none p views i lacks
      where
        lacks : (a b : ℕ) → a * p.gamma + b ≡ i → b < p.gamma → assigned (views a) b ≡ false
        lacks a b w h = unfold assigned view_of body_at bt_at in rw (lt-ltb b p.gamma h, w, ← is, eq-eqb n none e)

    module _ (ne : n ≡ none → ⊥) where
      named : (n < p.N) × CheckAsked p chip ct bt marks (i / p.gamma) (i % p.gamma)
      named =
          let w = q.found.named (i / p.gamma) (i % p.gamma) region low (λ e. ne (at_is ∙ e)) in (
            rw at_is w.0,
            record {
              fine = q.found.fine;
              chip_length = q.found.chip_length;
              ct_length = q.ct_length;
              bt_length = q.found.bt_length;
              marks_long = long;
              region = region;
              low = low;
              named = λ _. (w.0, block_mine p q.found.fine (i / p.gamma) (i % p.gamma) _ w.1);
            },
          )

      pub block_low_lem : n < p.N
      block_low_lem = named.0

      module _ (blk : List ℕ) (eb : blk ≡ block p chip n) where
        pub asks : length blk ≡ block_bytes p → OneBlock p blk ct (i % p.gamma) × WordsAsked p marks (i / p.gamma) (i % p.gamma)
        asks e = (one_block p chip ct bt marks (i / p.gamma) (i % p.gamma) named.1 n at_is ne blk eb e, words_asked p chip ct bt marks (i / p.gamma) (i % p.gamma) named.1)

        pub with_block : (marks' : List ℕ)
            → ((vs : ℕ → View) → Shows p (i / p.gamma) (i % p.gamma) blk ct (vs (i / p.gamma)) → marks ≡ table_of p (marks_to p vs (i / p.gamma * p.gamma + i % p.gamma) 0)
            → marks' ≡ table_of p (marks_to p vs (i / p.gamma * p.gamma + i % p.gamma) (frames p))) → marks' ≡ table_of p (marks_to p views (i + 1) 0)
        with_block marks' h =
            let e = div-add-mod' i p.gamma in
            let so : marks ≡ table_of p (marks_to p views (i / p.gamma * p.gamma + i % p.gamma) 0) = rw e q.so in
            h views (shows p chip ct bt marks (i / p.gamma) (i % p.gamma) named.1 n at_is ne blk eb) so ∙ rw e (marks_block p views i)
