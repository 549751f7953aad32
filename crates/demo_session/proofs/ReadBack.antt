-- A number that is printed is read back as that number: its digits are digits, at most ten, and say it.
-- Assumes nothing.
use mathlib.Core.Path.{◌≡◌, refl}
use Prim.Native.Nat.{ℕ, zero, suc, ◌+◌, ◌-◌, ◌*◌, ◌/◌, ◌%◌, ◌^◌, ◌<◌}
use mathlib.Core.Bool.{Bool, true, false, cond}
use mathlib.Core.List.{List, [], ◌∷◌, ◌++◌}
use native.Mathlib.Omega.{arith}
use borrow.Author.Tests.{le-leb, lt-ltb, ltb-true, ltb-false}
use lib.Dec.{ltb}
use lib.ListN.{length, length-append}
use Rattle.lists.proofs.Tests.{and_intro, and_map}
use Rattle.demo_lines.specs.Grammar.{is_digit, all_digits, value_from, value_of, is_number}
use Rattle.demo_print.specs.Output.{digit, decimal_up_to, decimal}
use Rattle.demo_print.proofs.Digits.{decimal_length, tenth}

digit_is : (d : ℕ) → d < 10 → digit d ≡ 48 + d
unfolding digit
digit_is d h = rw (lt-ltb d 10 h)

digit_passes : (d : ℕ) → d < 10 → is_digit (digit d) ≡ true
unfolding is_digit
digit_passes d h = rw (digit_is d h) (and_intro (le-leb 48 (48 + d) (omega arith)) (le-leb (48 + d) 57 (omega arith)))

digits_join : (l : List ℕ) (b : ℕ) → all_digits l ≡ true → is_digit b ≡ true → all_digits (l ++ (b ∷ [])) ≡ true
unfolding all_digits
digits_join [] b e t = rw t
digits_join (a ∷ l) b e t = and_map (is_digit a) (λ d. digits_join l b d t) e

value_join : (v : ℕ) (l : List ℕ) (b : ℕ) → value_from v (l ++ (b ∷ [])) ≡ value_from v l * 10 + (b - 48)
unfolding value_from
value_join v [] b = refl
value_join v (a ∷ l) b = value_join (v * 10 + (a - 48)) l b

-- what is read back of the digits l of n
pub record Says (n : ℕ) (l : List ℕ) : Type 0 where
  pub some : 0 < length l
  pub digits : all_digits l ≡ true
  pub value : value_of l ≡ n

one_digit : (n : ℕ) → n < 10 → Says n (digit n ∷ [])
unfolding all_digits value_of value_from
one_digit n h =
    record {
      some = omega arith;
      digits = rw (digit_passes n h);
      value = rw (digit_is n h) (omega arith);
    }

more_digits : (n : ℕ) (l : List ℕ) → Says (n / 10) l → Says n (l ++ (digit (n % 10) ∷ []))
unfolding value_of
more_digits n l s =
    let h : n % 10 < 10 = omega arith in
    record {
      some = omega (arith, length-append l (digit (n % 10) ∷ []));
      digits = digits_join l (digit (n % 10)) s.digits (digit_passes (n % 10) h);
      value = omega (arith, value_join 0 l (digit (n % 10)), s.value, digit_is (n % 10) h);
    }

-- either way that the definition goes
chosen : (t : Bool) (n : ℕ) (l : List ℕ) → (t ≡ true → n < 10) → (t ≡ false → Says (n / 10) l)
    → Says n (cond t (digit n ∷ []) (l ++ (digit (n % 10) ∷ [])))
chosen true n l a b = one_digit n (a refl)
chosen false n l a b = more_digits n l (b refl)

upto_says : (k n : ℕ) → n < 10 ^ suc k → Says n (decimal_up_to (suc k) n)
unfolding decimal_up_to
upto_says zero n h = chosen (ltb n 10) n [] (ltb-true n 10) (λ f. absurd (omega (arith, ltb-false n 10 f)))
upto_says (suc k) n h = chosen (ltb n 10) n (decimal_up_to (suc k) (n / 10)) (ltb-true n 10) (λ f. upto_says k (n / 10) (tenth n (suc k) h))

decimal_says : (n : ℕ) → n < 4294967296 → Says n (decimal n)
unfolding decimal
decimal_says n h = upto_says 9 n (omega arith)

-- the grammar takes what is printed for a number of 32 bits, as that number
pub read_back : (n : ℕ) → n < 4294967296 → (is_number 4294967295 (decimal n) ≡ true) × (value_of (decimal n) ≡ n)
unfolding is_number
read_back n h =
    let s = decimal_says n h in (
      and_intro (le-leb 1 (length (decimal n)) s.some)
          (and_intro (le-leb (length (decimal n)) 10 (decimal_length n))
          (and_intro s.digits (le-leb (value_of (decimal n)) 4294967295 (omega (arith, s.value))))),
      s.value,
    )
