-- A row of 64 bytes by its words: the bits that eight words and the row have in common are all bits exactly if the words are full and the row is all 255.
-- Assumes nothing.
use mathlib.Core.Path.{◌≡◌, refl, ap, ◌∙◌}
use mathlib.Core.Bool.{Bool, true, false, ◌&&◌, and-false}
use mathlib.Core.List.{List}
use Prim.Native.Nat.{ℕ, ◌+◌, ◌≤◌}
use native.Mathlib.Omega.{arith}
use mir.Syntax.{w64}
use mir.Val.{Fits}
use lib.Bits.{bit_and}
use lib.ListN.{drop, length, length-drop, length-take, take}
use lib.Seq.{take_all}
use Rattle.lists.specs.Parts.{all_are}
use Rattle.loops.proofs.Elements.{all_longer, all_none, both_full}
use Rattle.chip_words.specs.Words.{le}
use Rattle.chip_words.proofs.Words.{Bytes, bytes_drop, bytes_take, word_ones, word_small}
use Rattle.chip_erased.specs.Full.{full, ones}
use Rattle.chip_erased.specs.declared.Eight.{Eight}

across : (p q r s : Bool) → (p && q) && (r && s) ≡ (p && r) && (q && s)
across false q r s = refl
across true q false s = rw and-false
across true false true s = refl
across true true true s = refl

-- one word of the row
one : (l : List ℕ) (n a : ℕ) → Bytes l → n + 8 ≤ length l → a ≤ 18446744073709551615 → ones (bit_and a (le (take 8 (drop n l)))) ≡ ones a && all_are 255 (take 8 (drop n l))
unfolding ones
one l n a p h k =
    let e : length (take 8 (drop n l)) ≡ 8 = simp (length-take, length-drop) (omega arith) in
    let q : Bytes (take 8 (drop n l)) = bytes_take 8 (drop n l) (bytes_drop n l p) in
    both_full 18446744073709551615 a (le (take 8 (drop n l))) k (word_small (take 8 (drop n l)) e q)
    ∙ ap (λ (t : Bool). ones a && t) (word_ones (take 8 (drop n l)) e q)

-- t, the words so far with the row's bits, is full exactly if u, those words without, are and the first n bytes are 255
record Upto (l : List ℕ) (n : ℕ) (t u : Bool) : Type 0 where
  says : t ≡ u && all_are 255 (take n l)

-- one word more
more : {l : List ℕ} {n : ℕ} {t u : Bool} → Upto l n t u → (a x : ℕ) → Bytes l → n + 8 ≤ length l → Fits w64 a → x ≡ le (take 8 (drop n l))
    → Upto l (n + 8) (t && ones (bit_and a x)) (u && ones a)
more {l} {n} {t} {u} i a x p h k e =
    record { says = rw (i.says, e, one l n a p h (omega arith), all_longer 255 n 8 l) (across u (all_are 255 (take n l)) (ones a) (all_are 255 (take 8 (drop n l)))) }

-- what is known of eight words: 64 bits each
abbrev pub Words : Eight → Type 0
Words w =
    Fits w64 w.a × (Fits w64 w.b × (Fits w64 w.c × (Fits w64 w.d × (Fits w64 w.e × (Fits w64 w.f × (Fits w64 w.g × (Fits w64 w.h × Unit)))))))

-- the row by its eight words
pub row_full : (l : List ℕ) (w : Eight) (x₀ x₁ x₂ x₃ x₄ x₅ x₆ x₇ : ℕ) → length l ≡ 64 → Bytes l → Words w
    → x₀ ≡ le (take 8 (drop 0 l))
    → x₁ ≡ le (take 8 (drop 8 l))
    → x₂ ≡ le (take 8 (drop 16 l))
    → x₃ ≡ le (take 8 (drop 24 l))
    → x₄ ≡ le (take 8 (drop 32 l))
    → x₅ ≡ le (take 8 (drop 40 l))
    → x₆ ≡ le (take 8 (drop 48 l))
    → x₇ ≡ le (take 8 (drop 56 l))
    → full (record { a = bit_and w.a x₀; b = bit_and w.b x₁; c = bit_and w.c x₂; d = bit_and w.d x₃; e = bit_and w.e x₄; f = bit_and w.f x₅; g = bit_and w.g x₆; h = bit_and w.h x₇ })
    ≡ full w && all_are 255 l
unfolding full
row_full l w x₀ x₁ x₂ x₃ x₄ x₅ x₆ x₇ n p s e₀ e₁ e₂ e₃ e₄ e₅ e₆ e₇ =
    let o : Upto l 0 true true = record { says = all_none 255 l } in
    let a = more o w.a x₀ p (omega arith) s.0 e₀ in
    let b = more a w.b x₁ p (omega arith) s.1.0 e₁ in
    let c = more b w.c x₂ p (omega arith) s.1.1.0 e₂ in
    let d = more c w.d x₃ p (omega arith) s.1.1.1.0 e₃ in
    let e = more d w.e x₄ p (omega arith) s.1.1.1.1.0 e₄ in
    let f = more e w.f x₅ p (omega arith) s.1.1.1.1.1.0 e₅ in
    let g = more f w.g x₆ p (omega arith) s.1.1.1.1.1.1.0 e₆ in
    let h = more g w.h x₇ p (omega arith) s.1.1.1.1.1.1.1.0 e₇ in
    h.says ∙ ap (λ (t : List ℕ). full w && all_are 255 t) (take_all 64 l (omega arith))
