-- The first operations of a trace, by which a cut is taken apart: those of a frame's pages, and those of the frames of a list. What they program is as erased as the whole trace has it.
-- Assumes nothing.
use mathlib.Core.Path.{◌≡◌, refl, sym, ap, ◌∙◌}
use Prim.Native.Nat.{ℕ, zero, suc, ◌+◌, ◌-◌, ◌*◌, ◌≤◌, ◌<◌}
use native.Mathlib.Nat.{add-zero, suc-mul, zero-mul}
use native.Mathlib.Omega.{arith}
use native.Mathlib.Decide.{ℕ_discrete}
use mathlib.Core.Bool.{true}
use mathlib.Core.List.{List, [], ◌∷◌, ◌++◌, append_assoc, append-nil}
use lib.ListN.{get_or, length, length-append, take}
use lib.Seq.{take_all}
use Rattle.lists.specs.Below.{join_below}
use Rattle.lists.specs.Parts.{all_are, part}
use Rattle.lists.proofs.Lists.{take_append}
use Rattle.lists.proofs.Tests.{and_map}
use Rattle.rules.specs.declared.Params.{Params}
use Rattle.rules.specs.Parameters.{page_bytes, pages}
use Rattle.rules.specs.Pages.{page}
use Rattle.rules.specs.Traces.{Op, clean, erase, frame_ops, frames_ops, mark, on_chip, program}

-- ---- the pages of a frame

pub frame_length : (p : Params) (n f : ℕ) (x : List ℕ) (k : ℕ) → length (frame_ops p n f x k) ≡ k
unfolding frame_ops join_below
frame_length p n f x zero = refl
frame_length p n f x (suc k) = length-append (join_below k (λ j. program n (f * p.alpha + j) (page p x j) ∷ [])) _ ∙ ap (λ (m : ℕ). m + 1) (frame_length p n f x k) ∙ omega arith

pub take_frame : (p : Params) (n f : ℕ) (x : List ℕ) (k m : ℕ) → m ≤ k → take m (frame_ops p n f x k) ≡ frame_ops p n f x m
unfolding frame_ops join_below
take_frame p n f x zero m h = let e : m ≡ 0 = omega arith in rw e
take_frame p n f x (suc k) m h = go (ℕ_discrete m (suc k)) (take_frame p n f x k m)
  where
    go : Dec (m ≡ suc k) → (m ≤ k → take m (join_below k (λ j. program n (f * p.alpha + j) (page p x j) ∷ [])) ≡ join_below m (λ j. program n (f * p.alpha + j) (page p x j) ∷ []))
        → take m (join_below (suc k) (λ j. program n (f * p.alpha + j) (page p x j) ∷ [])) ≡ join_below m (λ j. program n (f * p.alpha + j) (page p x j) ∷ [])
    go (yes e) below =
        let l : length (join_below (suc k) (λ j. program n (f * p.alpha + j) (page p x j) ∷ [])) ≡ suc k = unfold frame_ops in frame_length p n f x (suc k) in
        rw e (take_all (suc k) (join_below (suc k) (λ j. program n (f * p.alpha + j) (page p x j) ∷ [])) (omega (arith, l)))
    go (no e) below =
        let l : length (join_below k (λ j. program n (f * p.alpha + j) (page p x j) ∷ [])) ≡ k = unfold frame_ops in frame_length p n f x k in
        let d : m - k ≡ 0 = omega arith in
        take_append m (join_below k (λ j. program n (f * p.alpha + j) (page p x j) ∷ [])) (program n (f * p.alpha + k) (page p x k) ∷ []) ∙ rw (l, d) (append-nil _ ∙ below (omega arith))

-- ---- the frames of a list

pub frames_length : (p : Params) (n to : ℕ) (xs : List (List ℕ)) → length (frames_ops p n to xs) ≡ length xs * p.alpha
unfolding frames_ops
frames_length p n to [] = sym (zero-mul p.alpha)
frames_length p n to (x ∷ xs) = length-append (frame_ops p n to x p.alpha) _ ∙ rw (frame_length p n to x p.alpha, frames_length p n (suc to) xs, suc-mul (length xs) p.alpha) (omega arith)

-- i frames whole, and k pages of the next
pub take_frames : (p : Params) (n : ℕ) (xs : List (List ℕ)) (to i k : ℕ) → i < length xs → k ≤ p.alpha
    → take (i * p.alpha + k) (frames_ops p n to xs) ≡ frames_ops p n to (take i xs) ++ frame_ops p n (to + i) (get_or xs i []) k
unfolding frames_ops
take_frames p n [] to i k h few = absurd (omega arith)
take_frames p n (x ∷ xs) to zero k h few =
    let l = frame_length p n to x p.alpha in
    let e : 0 * p.alpha + k ≡ k = omega arith in
    let d : k - p.alpha ≡ 0 = omega arith in
    rw e (take_append k (frame_ops p n to x p.alpha) (frames_ops p n (suc to) xs) ∙ rw (l, d, add-zero to) (append-nil _ ∙ take_frame p n to x p.alpha k few))
take_frames p n (x ∷ xs) to (suc i) k h few =
    let l = frame_length p n to x p.alpha in
    let e : suc i * p.alpha + k ≡ p.alpha + (i * p.alpha + k) = omega (arith, suc-mul i p.alpha) in
    let d : p.alpha + (i * p.alpha + k) - p.alpha ≡ i * p.alpha + k = omega arith in
    let w : take (p.alpha + (i * p.alpha + k)) (frame_ops p n to x p.alpha) ≡ frame_ops p n to x p.alpha = take_all (p.alpha + (i * p.alpha + k)) (frame_ops p n to x p.alpha) (omega (arith, l)) in
    let s : suc to + i ≡ to + suc i = omega arith in
    rw e (take_append (p.alpha + (i * p.alpha + k)) (frame_ops p n to x p.alpha) (frames_ops p n (suc to) xs)
    ∙ rw (w, l, d, take_frames p n xs (suc to) i k (omega arith) few, s) (sym (append_assoc (frame_ops p n to x p.alpha) (frames_ops p n (suc to) (take i xs)) (frame_ops p n (to + suc i) (get_or xs i []) k))))

-- ---- a cut call programs erased pages alone

pub clean_take : (p : Params) (chip : List ℕ) (k : ℕ) (os : List Op) → clean p chip os ≡ true → clean p chip (take k os) ≡ true
unfolding clean
clean_take p chip zero os h = refl
clean_take p chip (suc k) [] h = refl
clean_take p chip (suc k) (program n q x ∷ os) h = and_map (all_are 255 (part (page_bytes p) (n * pages p + q) chip)) (clean_take p (on_chip p chip (program n q x)) k os) h
clean_take p chip (suc k) (erase n ∷ os) h = clean_take p (on_chip p chip (erase n)) k os h
clean_take p chip (suc k) (mark n ∷ os) h = and_map (all_are 255 (part (page_bytes p) (n * pages p + 0) chip)) (clean_take p (on_chip p chip (mark n)) k os) h
