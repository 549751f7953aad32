-- Laws of the parts of a list.
-- Assumes nothing.
use mathlib.Core.Path.{◌≡◌, refl, sym, ap, ap₂, ◌∙◌}
use Prim.Native.Nat.{ℕ, zero, suc, ◌+◌, ◌-◌, ◌*◌, ◌/◌, ◌%◌, ◌≤◌, ◌<◌}
use native.Mathlib.Nat.{add-zero, div-add-mod', div-eq_of_lt, div-lt_iff_lt-mul, mul-add-div_right, suc-mul, mul-le-mul_right}
use native.Mathlib.Omega.{arith}
use native.Mathlib.Decide.{dec_lt}
use mathlib.Core.List.{List, [], ◌∷◌, ◌++◌, append_assoc}
use lib.ListN.{length, take, drop, length-append, length-take, length-drop, take-append-drop}
use lib.Seq.{take-append-le, drop-append-le, length-take-le, take_at, drop_at, drop-drop, take-add, take-take}
use Rattle.lists.specs.Parts.{part, put_part}

-- the parts end where the next begins
pub next : (w i j : ℕ) → i < j → i * w + w ≤ j * w
next w i j h = rw suc-mul at (mul-le-mul_right w h)

-- which part a place lies in: the one that it is not below, and not past
pub in_place : (w k i : ℕ) → 1 ≤ w → k * w ≤ i → i < k * w + w → i / w ≡ k
in_place w k i h x y =
    let e : i ≡ k * w + (i - k * w) = omega arith in
    let l : i - k * w < w = omega arith in
    rw (e, mul-add-div_right h, div-eq_of_lt l) (add-zero k)

pub over_place : (w k i : ℕ) → 1 ≤ w → k * w + w ≤ i → i / w ≡ k → ⊥
over_place w k i h x e =
    let l : i / w < k + 1 = omega arith in
    let z : i < (k + 1) * w = (div-lt_iff_lt-mul h).0 l in
    omega (arith, z)

pub under_place : (w k i : ℕ) → 1 ≤ w → i < k * w → i / w ≡ k → ⊥
under_place w k i h x e = omega (arith, (div-lt_iff_lt-mul {k = w} {x = i} {y = k} h).1 x)

-- a number by its quotient and its remainder
pub rejoin : (w m n : ℕ) → m / w ≡ n / w → m % w ≡ n % w → m ≡ n
rejoin w m n d e = sym (div-add-mod' m w) ∙ ap₂ (λ x y. x * w + y) d e ∙ div-add-mod' n w

pub part_length : (w i : ℕ) (l : List ℕ) → i * w + w ≤ length l → length (part w i l) ≡ w
unfolding part
part_length w i l h = simp (length-take, length-drop) (omega arith)

pub front : (w a : ℕ) (xs ys : List ℕ) → a + w ≤ length xs → take w (drop a (xs ++ ys)) ≡ take w (drop a xs)
front w a xs ys h =
    let ha : a ≤ length xs = omega arith in
    let hw : w ≤ length (drop a xs) = simp length-drop (omega arith) in
    rw (drop-append-le, take-append-le)

-- a part of a part
pub window : (w b a : ℕ) (d : List ℕ) → a + w ≤ b → take w (drop a (take b d)) ≡ take w (drop a d)
window w b zero d h = take-take w b d (omega arith)
window w zero (suc a) d h = absurd (omega arith)
window w (suc b) (suc a) [] h = refl
window w (suc b) (suc a) (y ∷ d) h = window w b a d (omega arith)

pub part_part : (w k n i : ℕ) (l : List ℕ) → i < k → part w i (part (k * w) n l) ≡ part w (n * k + i) l
unfolding part
part_part w k n i l h =
    let e : (n * k + i) * w ≡ n * (k * w) + i * w = omega arith in
    rw (e, ← drop-drop) (window w (k * w) (i * w) (drop (n * (k * w)) l) (next w i k h))

module _ (w j : ℕ) (x l : List ℕ) (fits : j * w + w ≤ length l) (whole : length x ≡ w) where
  head_length : length (take (j * w) l) ≡ j * w
  head_length = length-take-le (j * w) l (omega arith)

  pub put_length : length (put_part w j x l) ≡ length l
  unfolding put_part
  put_length = simp (length-append, length-take, length-drop) (omega arith)

  pub put_same : part w j (put_part w j x l) ≡ x
  unfolding part put_part
  put_same = rw (append_assoc, drop_at (take (j * w) l) (x ++ drop (j * w + w) l) (j * w) head_length, take_at x (drop (j * w + w) l) w whole)

  before : (i : ℕ) → i < j → part w i (put_part w j x l) ≡ part w i l
  unfolding part put_part
  before i h =
      let n : i * w + w ≤ length (take (j * w) l) = omega (arith, head_length, next w i j h) in
      rw append_assoc (front w (i * w) (take (j * w) l) (x ++ drop (j * w + w) l) n
      ∙ sym (front w (i * w) (take (j * w) l) (drop (j * w) l) n) ∙ ap (λ (r : List ℕ). take w (drop (i * w) r)) (take-append-drop (j * w) l))

  past : drop (j * w + w) (put_part w j x l) ≡ drop (j * w + w) l
  unfolding put_part
  past = drop_at (take (j * w) l ++ x) (drop (j * w + w) l) (j * w + w) (simp length-append (omega (arith, head_length)))

  behind : (i : ℕ) → j < i → part w i (put_part w j x l) ≡ part w i l
  unfolding part
  behind i h =
      let e : i * w ≡ (j * w + w) + (i * w - (j * w + w)) = omega (arith, next w j i h) in
      rw (e, ← drop-drop, past, drop-drop)

  pub put_other : (i : ℕ) → (i ≡ j → ⊥) → part w i (put_part w j x l) ≡ part w i l
  put_other i ne = go (dec_lt i j)
    where
      go : Dec (i < j) → part w i (put_part w j x l) ≡ part w i l
      go (yes h) = before i h
      go (no h) = behind i (omega arith)

-- a part put inside a part is put into the whole
inner : (a i w b : ℕ) (x l : List ℕ) → i + w ≤ b → a + b ≤ length l
    → take (a + i) l ++ x ++ drop (a + i + w) l ≡ take a l ++ (take i (take b (drop a l)) ++ x ++ drop (i + w) (take b (drop a l))) ++ drop (a + b) l
inner a i w b x l h fits =
    let m : i ≤ b = omega arith in
    let k : i + w ≤ length (take b (drop a l)) = simp (length-take, length-drop) (omega arith) in
    let g : a + i + w ≡ a + (i + w) = omega arith in
    let t : drop (i + w) (take b (drop a l)) ++ drop b (drop a l) ≡ drop (i + w) (drop a l) =
    sym (drop-append-le (i + w) (take b (drop a l)) (drop b (drop a l)) k) ∙ ap (λ (z : List ℕ). drop (i + w) z) (take-append-drop b (drop a l)) in
    rw (g, take-add a i l, take-take i b (drop a l) m, ← drop-drop b a l, ← drop-drop (i + w) a l, ← t) (simp append_assoc)

pub put_inner : (w k n i : ℕ) (x l : List ℕ) → i < k → n * (k * w) + k * w ≤ length l
    → put_part w (n * k + i) x l ≡ put_part (k * w) n (put_part w i x (part (k * w) n l)) l
unfolding part put_part
put_inner w k n i x l h fits =
    let e : (n * k + i) * w ≡ n * (k * w) + i * w = omega arith in
    rw e (inner (n * (k * w)) (i * w) w (k * w) x l (next w i k h) fits)
