-- A list of bytes as one number: four and eight bytes from a place on, which lists have the same number, and which have that of all ones.
-- Assumes nothing.
use mathlib.Core.Path.{◌≡◌, refl, ap, ◌∙◌}
use mathlib.Core.Bool.{Bool, true, false}
use mathlib.Core.List.{List, [], ◌∷◌}
use Prim.Native.Nat.{ℕ, zero, suc, ◌+◌, ◌*◌, ◌<◌, ◌≤◌}
use native.Mathlib.Nat.{add-zero}
use native.Mathlib.Omega.{arith}
use lib.Dec.{eqb}
use lib.ListN.{drop, get_or, length, replicate, take}
use lib.Seq.{drop-drop, get_or-drop, take_all, take-nil}
use borrow.Author.Tests.{eq-eqb, ne_eqb}
use Rattle.lists.specs.Parts.{all_are, same_list}
use Rattle.lists.proofs.Joins.{all_are_replicate, replicate_of, same_list→eq}
use Rattle.rules.specs.Pages.{le32}
use Rattle.chip_words.specs.Words.{le}

abbrev pub Bytes : List ℕ → Type 0
Bytes l = (i : ℕ) → get_or l i 0 < 256

-- ---- four and eight bytes from a on

pub four_bytes : (a : ℕ) (l : List ℕ) → le32 (drop a l) ≡ get_or l a 0 + 256 * get_or l (a + 1) 0 + 65536 * get_or l (a + 2) 0 + 16777216 * get_or l (a + 3) 0
unfolding le32
four_bytes a l = rw (get_or-drop a l 0 0, get_or-drop a l 1 0, get_or-drop a l 2 0, get_or-drop a l 3 0, add-zero)

le_nil : (n : ℕ) → le (take n []) ≡ 0
unfolding le
le_nil n = rw take-nil

le_at : (n k : ℕ) (l : List ℕ) → le (take (suc n) (drop k l)) ≡ get_or l k 0 + 256 * le (take n (drop (suc k) l))
unfolding le
le_at n zero [] = rw (le_nil n)
le_at n (suc k) [] = rw (le_nil n)
le_at n zero (x ∷ l) = refl
le_at n (suc k) (x ∷ l) = le_at n k l

le_none : (l : List ℕ) → le (take 0 l) ≡ 0
unfolding le
le_none l = refl

head : (l : List ℕ) → le32 (drop 0 l) + 4294967296 * le32 (drop 4 l) ≡ le (take 8 l)
head l = omega (arith, four_bytes 0 l, four_bytes 4 l, le_at 7 0 l, le_at 6 1 l, le_at 5 2 l, le_at 4 3 l, le_at 3 4 l, le_at 2 5 l, le_at 1 6 l, le_at 0 7 l, le_none (drop 8 l))

pub eight_bytes : (a : ℕ) (l : List ℕ) → le32 (drop a l) + 4294967296 * le32 (drop (a + 4) l) ≡ le (take 8 (drop a l))
eight_bytes a l = rw (drop-drop 4 a l) at (head (drop a l))

-- ---- the same number

-- equal numbers have equal bytes
le_same : (a b : List ℕ) → length a ≡ length b → Bytes a → Bytes b → le a ≡ le b → same_list a b ≡ true
unfolding same_list le
le_same [] [] h p q e = refl
le_same [] (y ∷ b) h p q e = absurd (omega arith)
le_same (x ∷ a) [] h p q e = absurd (omega arith)
le_same (x ∷ a) (y ∷ b) h p q e =
    let f : x ≡ y = omega (arith, p 0, q 0) in
    let g : le a ≡ le b = omega (arith, p 0, q 0) in
    rw (eq-eqb x y f) (le_same a b (omega arith) (λ i. p (suc i)) (λ i. q (suc i)) g)

decides : (a b : ℕ) (t : Bool) → (t ≡ true → a ≡ b) → (a ≡ b → t ≡ true) → eqb a b ≡ t
decides a b true f g = eq-eqb a b (f refl)
decides a b false f g = ne_eqb a b (λ e. let z : ◌≡◌ {A = ℕ} 0 1 = cc (g e) in omega arith)

pub same_le : (a b : List ℕ) → length a ≡ length b → Bytes a → Bytes b → eqb (le a) (le b) ≡ same_list a b
same_le a b h p q = decides (le a) (le b) (same_list a b) (λ e. ap le (same_list→eq a b e)) (le_same a b h p q)

pub bytes_take : (n : ℕ) (l : List ℕ) → Bytes l → Bytes (take n l)
bytes_take zero l p i = omega arith
bytes_take (suc n) [] p i = p i
bytes_take (suc n) (x ∷ l) p zero = p zero
bytes_take (suc n) (x ∷ l) p (suc i) = bytes_take n l (λ k. p (suc k)) i

pub bytes_drop : (n : ℕ) (l : List ℕ) → Bytes l → Bytes (drop n l)
bytes_drop n l p i = rw get_or-drop (p (n + i))

-- ---- eight bytes that are all 255

pub ones_are_bytes : (n : ℕ) → Bytes (replicate n 255)
ones_are_bytes zero i = omega arith
ones_are_bytes (suc n) zero = omega arith
ones_are_bytes (suc n) (suc i) = ones_are_bytes n i

ones_number : le (replicate 8 255) ≡ 18446744073709551615
unfolding le
ones_number = refl

all_ones : (l : List ℕ) → length l ≡ 8 → Bytes l → eqb (le l) (le (replicate 8 255)) ≡ all_are 255 l
all_ones l h p = decides (le l) (le (replicate 8 255)) (all_are 255 l) to from
  where
    to : all_are 255 l ≡ true → le l ≡ le (replicate 8 255)
    to e = ap le (replicate_of 255 l e ∙ ap (λ (n : ℕ). replicate n 255) h)

    from : le l ≡ le (replicate 8 255) → all_are 255 l ≡ true
    from e = rw (same_list→eq l (replicate 8 255) (le_same l (replicate 8 255) h p (ones_are_bytes 8) e)) (all_are_replicate 255 8)

pub word_ones : (l : List ℕ) → length l ≡ 8 → Bytes l → eqb (le l) 18446744073709551615 ≡ all_are 255 l
word_ones l h p = rw (ones_number) at (all_ones l h p)

pub word_small : (l : List ℕ) → length l ≡ 8 → Bytes l → le l ≤ 18446744073709551615
word_small l h p =
    let e : le (take 8 l) ≡ le l = ap le (take_all 8 l (omega arith)) in
    omega (
      arith,
      e,
      le_at 7 0 l,
      le_at 6 1 l,
      le_at 5 2 l,
      le_at 4 3 l,
      le_at 3 4 l,
      le_at 2 5 l,
      le_at 1 6 l,
      le_at 0 7 l,
      le_none (drop 8 l),
      p 0,
      p 1,
      p 2,
      p 3,
      p 4,
      p 5,
      p 6,
      p 7,
    )
