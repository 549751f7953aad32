-- No page is programmed twice between erases: a programmed page carries a zero, and so does a marked one, which stays until its block is erased, and a page that is
-- programmed or marked is all ones just before.
-- Assumes nothing.
use mathlib.Core.Path.{◌≡◌, refl, sym, ap, ◌∙◌}
use mathlib.Core.Logic.{◌⊎◌, inl, inr}
use Prim.Native.Nat.{ℕ, zero, suc, ◌+◌, ◌*◌, ◌≤◌, ◌<◌}
use native.Mathlib.Omega.{arith}
use native.Mathlib.Decide.{ℕ_discrete}
use mathlib.Core.Bool.{true, false}
use mathlib.Core.List.{List, [], ◌∷◌, ◌++◌}
use lib.Dec.{eqb}
use borrow.Author.Tests.{eqb-false}
use lib.ListN.{length, drop, replicate, length-replicate}
use Rattle.lists.specs.Below.{join_below}
use Rattle.lists.specs.Parts.{all_are, part, put_part}
use Rattle.lists.proofs.Joins.{all_are_at, all_are_drop}
use Rattle.lists.proofs.Parts.{next, part_part, put_length, put_other, put_same}
use Rattle.lists.proofs.Tests.{and_left, and_right, never, or_neither, so}
use Rattle.rules.specs.declared.Params.{Params}
use Rattle.rules.specs.Parameters.{block_bytes, chip_bytes, frame_bytes, page_bytes, pages}
use Rattle.rules.specs.Pages.{block}
use Rattle.rules.specs.Traces.{Op, clean, erase, mark, mark_page, on_chip, page_at, program, replay_chip}
use Rattle.rules.proofs.MarkedBlocks.{mark_not_blank, mark_whole}
use Rattle.rules.proofs.TableFacts.{chip_size}
use Rattle.claims.specs.Runs.{AllFit, Fits, ProgramsPage, erases_block, NoPageTwice}

-- ---- operations that fit the chip

-- a programmed page has a zero in its spare bytes, so it is not all ones
pub not_blank : (p : Params) (n q : ℕ) (x : List ℕ) → Fits p (program n q x) → all_are 255 x ≡ false
not_blank p n q x h = go (so (all_are 255 x))
  where
    go : (all_are 255 x ≡ true) ⊎ (all_are 255 x ≡ false) → all_are 255 x ≡ false
    go (inl t) =
        let z : ◌≡◌ {A = ℕ} 0 255 = sym h.3.5.six ∙ all_are_at 255 (drop p.s x) 6 (all_are_drop 255 p.s x t) in
        absurd (omega arith)
    go (inr t) = t

pub fit_append : (p : Params) (xs ys : List Op) → AllFit p xs → AllFit p ys → AllFit p (xs ++ ys)
fit_append p [] ys h k = k
fit_append p (o ∷ xs) ys h k = (h.0, fit_append p xs ys h.1 k)

pub fit_back : (p : Params) (xs ys : List Op) → AllFit p (xs ++ ys) → AllFit p xs × AllFit p ys
fit_back p [] ys h = (tt, h)
fit_back p (o ∷ xs) ys h = let w = fit_back p xs ys h.1 in ((h.0, w.0), w.1)

pub fit_join : (p : Params) (k : ℕ) (g : ℕ → List Op) → ((i : ℕ) → i < k → AllFit p (g i)) → AllFit p (join_below k g)
unfolding join_below
fit_join p zero g h = tt
fit_join p (suc k) g h = fit_append p (join_below k g) (g k) (fit_join p k g (λ i m. h i (omega arith))) (h k (omega arith))

-- ---- a page of the chip

whole_page : (p : Params) (n q : ℕ) (x : List ℕ) → Fits p (program n q x) → length x ≡ page_bytes p
unfolding page_bytes
whole_page p n q x h = h.2

block_pages : (p : Params) → block_bytes p ≡ pages p * page_bytes p
unfolding block_bytes frame_bytes pages
block_pages p = omega arith

page_fits : (p : Params) (chip : List ℕ) (n q : ℕ) → length chip ≡ chip_bytes p → n < p.N → q < pages p → page_at p n q * page_bytes p + page_bytes p ≤ length chip
unfolding chip_bytes
page_fits p chip n q e h k =
    rw e (next (page_bytes p) (page_at p n q) (p.N * pages p) (omega (arith, next (pages p) n p.N h)))

block_fits : (p : Params) (chip : List ℕ) (n : ℕ) → length chip ≡ chip_bytes p → n < p.N → n * block_bytes p + block_bytes p ≤ length chip
block_fits p chip n e h = rw (e, chip_size p) (next (block_bytes p) n p.N h)

pub op_length : (p : Params) (chip : List ℕ) (o : Op) → length chip ≡ chip_bytes p → Fits p o → length (on_chip p chip o) ≡ chip_bytes p
unfolding on_chip
op_length p chip (program n q x) e h = put_length (page_bytes p) (page_at p n q) x chip (page_fits p chip n q e h.0 h.1) (whole_page p n q x h) ∙ e
op_length p chip (erase n) e h = put_length (block_bytes p) n (replicate (block_bytes p) 255) chip (block_fits p chip n e h) (length-replicate (block_bytes p) 255) ∙ e
op_length p chip (mark n) e h = put_length (page_bytes p) (page_at p n 0) (mark_page p) chip (page_fits p chip n 0 e h.0 h.1) (mark_whole p) ∙ e

pub replay_length : (p : Params) (chip : List ℕ) (os : List Op) → length chip ≡ chip_bytes p → AllFit p os → length (replay_chip p chip os) ≡ chip_bytes p
unfolding replay_chip
replay_length p chip [] e h = e
replay_length p chip (o ∷ os) e h = replay_length p (on_chip p chip o) os (op_length p chip o e h.0) h.1

-- a page lies in its block
pub page_of : (p : Params) (chip : List ℕ) (n q : ℕ) → q < pages p → part (page_bytes p) (page_at p n q) chip ≡ part (page_bytes p) q (part (block_bytes p) n chip)
page_of p chip n q h = rw (block_pages p) (sym (part_part (page_bytes p) (pages p) n q chip h))

-- what an operation puts there, and what it leaves elsewhere
pub program_same : (p : Params) (chip : List ℕ) (m k : ℕ) (x : List ℕ) → length chip ≡ chip_bytes p → Fits p (program m k x) → (n q : ℕ) → page_at p n q ≡ page_at p m k
    → part (page_bytes p) (page_at p n q) (on_chip p chip (program m k x)) ≡ x
unfolding on_chip
program_same p chip m k x e h n q i = rw i (put_same (page_bytes p) (page_at p m k) x chip (page_fits p chip m k e h.0 h.1) (whole_page p m k x h))

pub program_other : (p : Params) (chip : List ℕ) (m k : ℕ) (x : List ℕ) → length chip ≡ chip_bytes p → Fits p (program m k x) → (n q : ℕ) → (page_at p n q ≡ page_at p m k → ⊥)
    → part (page_bytes p) (page_at p n q) (on_chip p chip (program m k x)) ≡ part (page_bytes p) (page_at p n q) chip
unfolding on_chip
program_other p chip m k x e h n q i = put_other (page_bytes p) (page_at p m k) x chip (page_fits p chip m k e h.0 h.1) (whole_page p m k x h) (page_at p n q) i

pub erased_block_lem : (p : Params) (chip : List ℕ) (m : ℕ) → length chip ≡ chip_bytes p → m < p.N → block p (on_chip p chip (erase m)) m ≡ replicate (block_bytes p) 255
unfolding on_chip block
erased_block_lem p chip m e h = put_same (block_bytes p) m (replicate (block_bytes p) 255) chip (block_fits p chip m e h) (length-replicate (block_bytes p) 255)

pub other_block : (p : Params) (chip : List ℕ) (m : ℕ) → length chip ≡ chip_bytes p → m < p.N → (n : ℕ) → (n ≡ m → ⊥) → block p (on_chip p chip (erase m)) n ≡ block p chip n
unfolding on_chip block
other_block p chip m e h n ne = put_other (block_bytes p) m (replicate (block_bytes p) 255) chip (block_fits p chip m e h) (length-replicate (block_bytes p) 255) n ne

-- the erase of another block leaves it
page_kept : (p : Params) (chip : List ℕ) (n q m : ℕ) → length chip ≡ chip_bytes p → q < pages p → m < p.N → (n ≡ m → ⊥)
    → part (page_bytes p) (page_at p n q) (on_chip p chip (erase m)) ≡ part (page_bytes p) (page_at p n q) chip
unfolding block
page_kept p chip n q m e h k ne = page_of p (on_chip p chip (erase m)) n q h ∙ ap (part (page_bytes p) q) (other_block p chip m e k n ne) ∙ sym (page_of p chip n q h)

-- ---- a page that is not all ones stays so until its block is erased

module _ (p : Params) (n q : ℕ) (block : n < p.N) (page : q < pages p) where
  -- a page that is put is not all ones, and every other page is as it was
  one_put : (chip : List ℕ) (m k : ℕ) (x : List ℕ) → length chip ≡ chip_bytes p → m < p.N → k < pages p → length x ≡ page_bytes p → all_are 255 x ≡ false
      → all_are 255 (part (page_bytes p) (page_at p n q) chip) ≡ false → all_are 255 (part (page_bytes p) (page_at p n q) (put_part (page_bytes p) (page_at p m k) x chip)) ≡ false
  one_put chip m k x e lm lk w b d = go (ℕ_discrete (page_at p n q) (page_at p m k))
    where
      go : Dec (page_at p n q ≡ page_at p m k) → all_are 255 (part (page_bytes p) (page_at p n q) (put_part (page_bytes p) (page_at p m k) x chip)) ≡ false
      go (yes i) = rw (i, put_same (page_bytes p) (page_at p m k) x chip (page_fits p chip m k e lm lk) w) b
      go (no i) = rw (put_other (page_bytes p) (page_at p m k) x chip (page_fits p chip m k e lm lk) w (page_at p n q) i) d

  one_op : (chip : List ℕ) (o : Op) → length chip ≡ chip_bytes p → Fits p o → all_are 255 (part (page_bytes p) (page_at p n q) chip) ≡ false
      → erases_block n (o ∷ []) ≡ false → all_are 255 (part (page_bytes p) (page_at p n q) (on_chip p chip o)) ≡ false
  unfolding erases_block on_chip
  one_op chip (program m k x) e h d s = one_put chip m k x e h.0 h.1 (whole_page p m k x h) (not_blank p m k x h) d
  one_op chip (mark m) e h d s = one_put chip m 0 (mark_page p) e h.0 h.1 (mark_whole p) (mark_not_blank p) d
  one_op chip (erase m) e h d s = rw (page_kept p chip n q m e page h (λ i. eqb-false m n (or_neither (eqb m n) s).0 (sym i))) d

  stays : (os : List Op) (chip : List ℕ) → length chip ≡ chip_bytes p → AllFit p os → all_are 255 (part (page_bytes p) (page_at p n q) chip) ≡ false
      → erases_block n os ≡ false → all_are 255 (part (page_bytes p) (page_at p n q) (replay_chip p chip os)) ≡ false
  unfolding replay_chip erases_block
  stays [] chip e h d s = d
  stays (program m k x ∷ os) chip e h d s = stays os (on_chip p chip (program m k x)) (op_length p chip (program m k x) e h.0) h.1 (one_op chip (program m k x) e h.0 d refl) s
  stays (mark m ∷ os) chip e h d s = stays os (on_chip p chip (mark m)) (op_length p chip (mark m) e h.0) h.1 (one_op chip (mark m) e h.0 d refl) s
  stays (erase m ∷ os) chip e h d s =
      let w = or_neither (eqb m n) s in
      stays os (on_chip p chip (erase m)) (op_length p chip (erase m) e h.0) h.1 (one_op chip (erase m) e h.0 d (rw w.0)) w.1

-- ---- the law

-- the later part of a clean trace is clean where the earlier part leaves the chip
clean_back : (p : Params) (chip : List ℕ) (xs ys : List Op) → clean p chip (xs ++ ys) ≡ true → clean p (replay_chip p chip xs) ys ≡ true
unfolding clean replay_chip
clean_back p chip [] ys h = h
clean_back p chip (program n q x ∷ xs) ys h = clean_back p (on_chip p chip (program n q x)) xs ys (and_right (all_are 255 (part (page_bytes p) (page_at p n q) chip)) h)
clean_back p chip (erase n ∷ xs) ys h = clean_back p (on_chip p chip (erase n)) xs ys h
clean_back p chip (mark n ∷ xs) ys h = clean_back p (on_chip p chip (mark n)) xs ys (and_right (all_are 255 (part (page_bytes p) (page_at p n 0) chip)) h)

-- an operation that programs a page: it is a page of the chip, all ones just before, and not all ones after
placed : (p : Params) (n q : ℕ) (o : Op) → Fits p o → ProgramsPage n q o → (n < p.N) × (q < pages p)
placed p n q (program m k x) h i = (rw i.0 at h.0, rw i.1 at h.1)
placed p n q (erase m) h i = absurd i
placed p n q (mark m) h i = (rw i.0 at h.0, rw i.1 h.1)

ones_before : (p : Params) (chip : List ℕ) (n q : ℕ) (o : Op) (os : List Op) → ProgramsPage n q o → clean p chip (o ∷ os) ≡ true
    → all_are 255 (part (page_bytes p) (page_at p n q) chip) ≡ true
unfolding clean
ones_before p chip n q (program m k x) os i h = rw (i.0, i.1) at (and_left (all_are 255 (part (page_bytes p) (page_at p m k) chip)) _ h)
ones_before p chip n q (erase m) os i h = absurd i
ones_before p chip n q (mark m) os i h = rw i.1 (rw i.0 at (and_left (all_are 255 (part (page_bytes p) (page_at p m 0) chip)) _ h))

zero_after : (p : Params) (chip : List ℕ) (n q : ℕ) (o : Op) → length chip ≡ chip_bytes p → Fits p o → ProgramsPage n q o
    → all_are 255 (part (page_bytes p) (page_at p n q) (on_chip p chip o)) ≡ false
unfolding on_chip
zero_after p chip n q (program m k x) e h i =
    rw (← i.0, ← i.1, put_same (page_bytes p) (page_at p m k) x chip (page_fits p chip m k e h.0 h.1) (whole_page p m k x h)) (not_blank p m k x h)
zero_after p chip n q (erase m) e h i = absurd i
zero_after p chip n q (mark m) e h i =
    rw (← i.0, i.1, put_same (page_bytes p) (page_at p m 0) (mark_page p) chip (page_fits p chip m 0 e h.0 h.1) (mark_whole p)) (mark_not_blank p)

-- a clean trace that fits the chip programs no page twice between erases
pub clean_once : (p : Params) (chip : List ℕ) (os : List Op) → length chip ≡ chip_bytes p → AllFit p os → clean p chip os ≡ true → NoPageTwice os
unfolding NoPageTwice replay_chip
clean_once p chip os e fit h n q x y before between after i j is = go (so (erases_block n between))
  where
    chip₁ : List ℕ
    chip₁ = replay_chip p chip before

    later : List Op
    later = between ++ (y ∷ after)

    fits : AllFit p before × (Fits p x × AllFit p later)
    fits = fit_back p before (x ∷ later) (rw is at fit)

    size : length chip₁ ≡ chip_bytes p
    size = replay_length p chip before e fits.0

    rest : clean p (on_chip p chip₁ x) later ≡ true
    rest = clean_back p chip₁ (x ∷ []) later (clean_back p chip before (x ∷ later) (rw is at h))

    go : (erases_block n between ≡ true) ⊎ (erases_block n between ≡ false) → erases_block n between ≡ true
    go (inl t) = t
    go (inr t) =
        let f = fits.1.0 in
        let low = placed p n q x f i in
        let between-fit = (fit_back p between (y ∷ after) fits.1.1).0 in
        let d = stays p n q low.0 low.1 between (on_chip p chip₁ x) (op_length p chip₁ x size f) between-fit (zero_after p chip₁ n q x size f i) t in
        absurd (never (ones_before p (replay_chip p (on_chip p chip₁ x) between) n q y after j (clean_back p (on_chip p chip₁ x) between (y ∷ after) rest)) d)
