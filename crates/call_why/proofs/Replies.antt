-- The reply is that of its tests in order; so 7 says that a rule of the state is broken, and 0 that all hold.
-- Assumes nothing.
use mathlib.Core.Path.{◌≡◌, ap, refl, sym, ◌∙◌}
use mathlib.Core.Bool.{Bool, cond, false, not, true}
use Prim.Native.Nat.{ℕ}
use native.Mathlib.Omega.{arith}
use Rattle.rules.specs.declared.Params.{Params}
use Rattle.rules.specs.declared.Reply.{Reply}
use Rattle.rules.specs.declared.Reply.TheVariants.{Accepted, BadAddress, BadParameter, NotOrderly, WrongLength}
use Rattle.rules.specs.Orderly.{orderly}
use Rattle.rules.specs.Parameters.{allowed}
use Rattle.rules.specs.Replies.{OrderlyBoard, bad_address, bad_parameter, first_row, lengths_fit, lent_rows, not_orderly, number_of, order_row, why_reply, why_rows, wrong_length}
use Rattle.rules.specs.Tables.{Board}

-- 1, 2, 4, 7
abbrev by_tests : Bool → Bool → Bool → Bool → Reply
by_tests x y a o = cond (not x) BadParameter (cond (not y) WrongLength (cond a BadAddress (cond (not o) NotOrderly Accepted)))

pub record Disorder (p : Params) (b : Board) : Type 0 where
  pub fine : allowed p ≡ true
  pub fits : lengths_fit p b ≡ true
  pub broken : orderly p b ≡ false

pub record Answered (p : Params) (b : Board) (lba : ℕ) : Type 0 where
  pub accepted : number_of (why_reply p b lba) ≡ 0
  pub ordered : OrderlyBoard p b
  pub low : bad_address p lba ≡ false

module _ (p : Params) (b : Board) (lba : ℕ) where
  by_tests_lem : why_reply p b lba ≡ by_tests (allowed p) (lengths_fit p b) (bad_address p lba) (orderly p b)
  unfolding why_reply why_rows lent_rows order_row first_row bad_parameter wrong_length not_orderly
  by_tests_lem = refl

  pub disorder : number_of (why_reply p b lba) ≡ 7 → Disorder p b
  disorder z = go (allowed p) (lengths_fit p b) (bad_address p lba) (orderly p b) refl refl refl (sym (ap number_of by_tests_lem) ∙ z)
    where
      go : (x y a o : Bool) → allowed p ≡ x → lengths_fit p b ≡ y → orderly p b ≡ o → number_of (by_tests x y a o) ≡ 7 → Disorder p b
      go true true false false f g h k = record { fine = f; fits = g; broken = h }
      go true true false true f g h k = absurd (omega arith)
      go true true true o f g h k = absurd (omega arith)
      go true false a o f g h k = absurd (omega arith)
      go false y a o f g h k = absurd (omega arith)

  pub answered : number_of (why_reply p b lba) ≡ 0 → Answered p b lba
  answered z = go (allowed p) (lengths_fit p b) (bad_address p lba) (orderly p b) refl refl refl refl (sym (ap number_of by_tests_lem) ∙ z)
    where
      go : (x y a o : Bool) → allowed p ≡ x → lengths_fit p b ≡ y → bad_address p lba ≡ a → orderly p b ≡ o → number_of (by_tests x y a o) ≡ 0 → Answered p b lba
      go true true false true f g i t k = record { accepted = z; ordered = record { fine = f; lengths = g; tidy = t }; low = i }
      go true true false false f g i t k = absurd (omega arith)
      go true true true o f g i t k = absurd (omega arith)
      go true false a o f g i t k = absurd (omega arith)
      go false y a o f g i t k = absurd (omega arith)
