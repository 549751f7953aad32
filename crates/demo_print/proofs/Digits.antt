-- Numbers in decimal and bytes in hex as the code prints them, and a printed number read back.
-- Assumes nothing.
use mathlib.Core.Path.{◌≡◌, refl, ap, sym, ◌∙◌}
use Rattle.std.specs.Fmt.{decimal as std_decimal}
use Rattle.std.proofs.lemmas.Fmt.{AppendsLastDigit, decimal_from_appends, length-decimal-le}
use Prim.Native.Nat.{ℕ, zero, suc, ◌+◌, ◌-◌, ◌*◌, ◌/◌, ◌%◌, ◌^◌, ◌≤◌, ◌<◌}
use mathlib.Core.Bool.{Bool, true, false, cond}
use mathlib.Core.List.{List, [], ◌∷◌, ◌++◌, append_assoc}
use native.Mathlib.Nat.{pow-suc}
use native.Mathlib.Numerals.{add-one}
use native.Mathlib.Omega.{arith}
use borrow.Author.Tests.{lt-ltb, le-ltb}
use lib.Dec.{ltb}
use lib.ListN.{length, take, drop, get_or, length-append, length-drop}
use lib.Seq.{take-suc, take_at, drop-drop, drop_at}
use Rattle.lists.specs.Below.{join_below}
use Rattle.lists.specs.Parts.{part}
use Rattle.lists.proofs.Joins.{join_length}
use Rattle.lists.proofs.Parts.{part_length}
use Rattle.demo_print.specs.Output.{digit, decimal_up_to, decimal, hex, sectors}

-- ---- decimal

few : (k n : ℕ) → length (decimal_up_to k n) ≤ k
unfolding decimal_up_to
few zero n = omega arith
few (suc k) n = few_if (ltb n 10) (digit n) (digit (n % 10)) (decimal_up_to k (n / 10)) k (few k (n / 10))
  where
    few_if : (t : Bool) (a b : ℕ) (l : List ℕ) (k : ℕ) → length l ≤ k → length (cond t (a ∷ []) (l ++ (b ∷ []))) ≤ suc k
    few_if true a b l k h = omega arith
    few_if false a b l k h = omega (arith, length-append l (b ∷ []))

pub tenth : (n k : ℕ) → n < 10 ^ suc k → n / 10 < 10 ^ k
tenth n k h =
    let e : 10 ^ suc k ≡ 10 ^ k * 10 = pow-suc 10 k in
    omega (arith, e)

pub decimal_length : (n : ℕ) → length (decimal n) ≤ 10
unfolding decimal
decimal_length n = few 10 n

-- and the digits are those that std prints
appends : AppendsLastDigit decimal_up_to
unfolding decimal_up_to digit
appends =
    record {
      one = λ k n h. rw (lt-ltb n 10 h);
      more = λ k n h. rw (le-ltb n 10 h, lt-ltb (n % 10) 10 (omega arith));
    }

pub decimal_is : (n : ℕ) → n < 4294967296 → std_decimal n ≡ decimal n
unfolding decimal
decimal_is n h =
    let small : n < 2 ^ 64 = omega arith in
    sym (decimal_from_appends decimal_up_to appends 10 n small (length-decimal-le 10 n (omega arith) (omega arith) small))

-- ---- hex

pub hex_join : (l : List ℕ) (b : ℕ) → hex (l ++ (b ∷ [])) ≡ hex l ++ (digit (b / 16) ∷ digit (b % 16) ∷ [])
unfolding hex
hex_join [] b = refl
hex_join (a ∷ l) b = ap (λ (x : List ℕ). digit (a / 16) ∷ digit (a % 16) ∷ x) (hex_join l b)

pub hex_turn : (s : List ℕ) (i : ℕ) → i < length s
    → hex (take (i + 1) s) ≡ hex (take i s) ++ (digit (get_or s i 0 / 16) ∷ digit (get_or s i 0 % 16) ∷ [])
hex_turn s i h = rw (add-one, take-suc s i 0 h) (hex_join (take i s) (get_or s i 0))

pub hex_length : (l : List ℕ) → length (hex l) ≡ 2 * length l
unfolding hex
hex_length [] = refl
hex_length (b ∷ l) = omega (arith, hex_length l)

pub two_more : (x y : List ℕ) (a b : ℕ) → ((x ++ y) ++ (a ∷ [])) ++ (b ∷ []) ≡ x ++ (y ++ (a ∷ b ∷ []))
two_more x y a b = append_assoc (x ++ y) (a ∷ []) (b ∷ []) ∙ append_assoc x y (a ∷ b ∷ [])

-- ---- sectors

pub sectors_turn : (j : ℕ) (l : List ℕ) → sectors (j + 1) l ≡ sectors j l ++ (9 ∷ hex (part 16 j l))
unfolding sectors join_below
sectors_turn j l = rw add-one

sector_length : (l : List ℕ) (j : ℕ) → j < length l / 16 → length (9 ∷ hex (part 16 j l)) ≡ 33
sector_length l j h = omega (arith, hex_length (part 16 j l), part_length 16 j l (omega arith))

pub sectors_length : (j : ℕ) (l : List ℕ) → j ≤ length l / 16 → length (sectors j l) ≡ 33 * j
unfolding sectors
sectors_length j l h = omega (arith, join_length 33 j (λ i. 9 ∷ hex (part 16 i l)) (λ i k. sector_length l i (omega arith)))

-- 16 bytes are cut off what comes after j sectors
pub sector_next : (l r x t : List ℕ) (j : ℕ) → r ≡ drop (j * 16) l → r ≡ x ++ t → length x ≡ 16 → j * 16 ≤ length l
    → (part 16 j l ≡ x) × (t ≡ drop ((j + 1) * 16) l) × ((j + 1) * 16 ≤ length l)
unfolding part
sector_next l r x t j e f h m =
    let k : (j + 1) * 16 ≡ j * 16 + 16 = omega arith in
    let long : length x + length t ≡ length l - j * 16 = sym (length-append x t) ∙ ap length (sym f ∙ e) ∙ length-drop (j * 16) l in (
      ap (take 16) (sym e ∙ f) ∙ take_at x t 16 h,
      rw k (sym (ap (drop 16) (sym e ∙ f) ∙ drop_at x t 16 h) ∙ drop-drop 16 (j * 16) l),
      omega (arith, long),
    )
