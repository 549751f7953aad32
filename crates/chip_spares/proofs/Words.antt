-- Two lists of 16 bytes are the same exactly if their words are; the words of spare bytes, and of the spare area of a page.
-- Assumes nothing.
use mathlib.Core.Path.{◌≡◌, refl, sym, ap, ◌∙◌}
use mathlib.Core.Bool.{Bool, ◌&&◌, and_assoc}
use mathlib.Core.List.{List, [], ◌∷◌, ◌++◌}
use Prim.Native.Nat.{ℕ, zero, suc, ◌+◌, ◌*◌, ◌/◌, ◌%◌, ◌<◌}
use native.Mathlib.Nat.{div-add-mod', div-div-eq-div-mul, mod-lt}
use native.Mathlib.Omega.{arith}
use lib.Dec.{eqb}
use lib.ListN.{drop, length, length-drop, length-take, replicate, take}
use lib.Seq.{take_all}
use Rattle.lists.specs.Parts.{same_list}
use Rattle.rules.specs.Pages.{bytes32, spare_bytes}
use Rattle.rules.proofs.Frames.{le_bytes}
use Rattle.chip_words.specs.Words.{le}
use Rattle.chip_words.proofs.Words.{Bytes, bytes_drop, bytes_take, ones_are_bytes, same_le}

same_pieces : (n : ℕ) (a b : List ℕ) → same_list (take n a) (take n b) && same_list (drop n a) (drop n b) ≡ same_list a b
unfolding same_list
same_pieces zero a b = refl
same_pieces (suc n) [] [] = refl
same_pieces (suc n) [] (y ∷ b) = refl
same_pieces (suc n) (x ∷ a) [] = refl
same_pieces (suc n) (x ∷ a) (y ∷ b) =
    and_assoc (eqb x y) (same_list (take n a) (take n b)) (same_list (drop n a) (drop n b)) ∙ ap (λ (t : Bool). eqb x y && t) (same_pieces n a b)

-- the upper word is what stands behind the lower one
upper : (l : List ℕ) → length l ≡ 16 → take 8 (drop 8 l) ≡ drop 8 l
upper l h = take_all 8 (drop 8 l) (simp length-drop (omega arith))

pub same_words : (a b : List ℕ) (x y z w : ℕ) → length a ≡ 16 → length b ≡ 16 → Bytes a → Bytes b → x ≡ le (take 8 a) → y ≡ le (take 8 b)
    → z ≡ le (take 8 (drop 8 a)) → w ≡ le (take 8 (drop 8 b)) → eqb x y && eqb z w ≡ same_list a b
same_words a b x y z w h k p q ex ey ez ew =
    let l : length (take 8 a) ≡ length (take 8 b) = simp length-take (omega arith) in
    let m : length (drop 8 a) ≡ length (drop 8 b) = simp length-drop (omega arith) in
    rw (
      ex,
      ey,
      ez,
      ew,
      upper a h,
      upper b k,
      same_le (take 8 a) (take 8 b) l (bytes_take 8 a p) (bytes_take 8 b q),
      same_le (drop 8 a) (drop 8 b) m (bytes_drop 8 a p) (bytes_drop 8 b q),
    )
    (same_pieces 8 a b)

-- ---- the words of spare bytes

-- the four bytes of a number are those of its 32 bits
pub low_bytes : (c : ℕ) → c % 256 + 256 * (c / 256 % 256) + 65536 * (c / 65536 % 256) + 16777216 * (c / 16777216 % 256) ≡ c % 4294967296
low_bytes c =
    let e₁ : c / 65536 ≡ c / 256 / 256 = sym (div-div-eq-div-mul c 256 256) in
    let e₂ : c / 16777216 ≡ c / 256 / 256 / 256 = sym (div-div-eq-div-mul c 65536 256) ∙ ap (λ (m : ℕ). m / 256) e₁ in
    let e₃ : c / 4294967296 ≡ c / 256 / 256 / 256 / 256 = sym (div-div-eq-div-mul c 16777216 256) ∙ ap (λ (m : ℕ). m / 256) e₂ in
    rw (e₁, e₂)
    (omega (
      arith,
      e₃,
      div-add-mod' c 256,
      div-add-mod' (c / 256) 256,
      div-add-mod' (c / 256 / 256) 256,
      div-add-mod' (c / 256 / 256 / 256) 256,
      div-add-mod' c 4294967296,
    ))

-- all but the lowest
pub high_bytes : (t : ℕ) → t < 4294967296 → t / 256 % 256 + 256 * (t / 65536 % 256) + 65536 * (t / 16777216 % 256) ≡ t / 256
high_bytes t h = omega (arith, le_bytes t h, div-add-mod' t 256)

pub first_is : (c j t v : ℕ) → le (take 8 (spare_bytes c j t v)) ≡ c % 4294967296 + 4294967296 * (j + 65280 + 16777216 * (t % 256))
unfolding le spare_bytes bytes32
first_is c j t v = omega (arith, low_bytes c)

pub second_is : (c j t v : ℕ) → t < 4294967296 → le (take 8 (drop 8 (spare_bytes c j t v))) ≡ t / 256 + 16777216 * v + 18446744069414584320
unfolding le spare_bytes bytes32
second_is c j t v h = omega (arith, high_bytes t h)

-- each of them is a byte
bytes_before : (c : ℕ) (l : List ℕ) → Bytes l → Bytes (bytes32 c ++ l)
unfolding bytes32
bytes_before c l k zero = mod-lt c (omega arith)
bytes_before c l k (suc zero) = mod-lt (c / 256) (omega arith)
bytes_before c l k (suc (suc zero)) = mod-lt (c / 65536) (omega arith)
bytes_before c l k (suc (suc (suc zero))) = mod-lt (c / 16777216) (omega arith)
bytes_before c l k (suc (suc (suc (suc i)))) = k i

pub spare_bytes_are : (c j t v : ℕ) → j < 256 → v < 256 → Bytes (spare_bytes c j t v)
unfolding spare_bytes
spare_bytes_are c j t v h k = bytes_before c (j ∷ 255 ∷ 0 ∷ bytes32 t ++ (v ∷ replicate 4 255)) rest
  where
    last : Bytes (v ∷ replicate 4 255)
    last zero = k
    last (suc i) = ones_are_bytes 4 i

    rest : Bytes (j ∷ 255 ∷ 0 ∷ bytes32 t ++ (v ∷ replicate 4 255))
    rest zero = h
    rest (suc zero) = omega arith
    rest (suc (suc zero)) = omega arith
    rest (suc (suc (suc i))) = bytes_before t (v ∷ replicate 4 255) last i

pub spare_bytes_long : (c j t v : ℕ) → length (spare_bytes c j t v) ≡ 16
unfolding spare_bytes bytes32
spare_bytes_long c j t v = refl
