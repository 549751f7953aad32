-- The bits of the stamps that were seen, over the words that hold them: one is set, and no other changes.
-- Assumes nothing.
use mathlib.Core.Path.{◌≡◌, refl, sym, ap, ◌∙◌}
use mathlib.Core.Bool.{Bool, true}
use mathlib.Core.List.{List}
use Prim.Native.Nat.{ℕ, ◌/◌, ◌%◌, ◌<◌}
use native.Mathlib.Decide.{ℕ_discrete}
use native.Mathlib.Nat.{mod-lt}
use native.Mathlib.Omega.{arith}
use lib.ListN.{get_or, length, length-set, set}
use lib.Seq.{get_or-set_other, get_or-set_same}
use Rattle.lists.specs.Below.{bits_below, updated}
use Rattle.lists.proofs.Joins.{updated_other, updated_same}
use Rattle.bits.proofs.Words.{bits_at, bits_of}
use Rattle.check_apart.specs.Apart.{Sees, bit_of, is_seen}

-- the word that has stamp t's bit is w, and becomes x
module _ (seen : List ℕ) (size : length seen ≡ 256) (t w x : ℕ) (was : Bool) (w-is : w ≡ get_or seen (t / 64 % 256) 0) (low : w < 18446744073709551616)
    (put : (f : ℕ → Bool) → w ≡ bits_below 64 f → x ≡ bits_below 64 (updated f (t % 64) true)) (got : (f : ℕ → Bool) → w ≡ bits_below 64 f → was ≡ f (t % 64)) where
  as_bits : w ≡ bits_below 64 (bit_of w)
  unfolding bit_of
  as_bits = bits_of 64 w low

  in_words : t / 64 % 256 < length seen
  in_words = rw size (mod-lt (t / 64) (omega arith))

  x_at : (j : ℕ) → j < 64 → bit_of x j ≡ updated (bit_of w) (t % 64) true j
  unfolding bit_of
  x_at j h = rw (put (bit_of w) as_bits) (bits_at 64 (updated (bit_of w) (t % 64) true) j h)

  was_is_lem : was ≡ is_seen seen t
  unfolding is_seen
  was_is_lem = got (bit_of w) as_bits ∙ rw w-is

  -- a stamp whose word is another
  word_other : (u : ℕ) → (u / 64 % 256 ≡ t / 64 % 256 → ⊥) → is_seen (set seen (t / 64 % 256) x) u ≡ is_seen seen u
  unfolding is_seen
  word_other u ne = rw (get_or-set_other seen (t / 64 % 256) (u / 64 % 256) x 0 ne)

  -- one whose word is the same
  word_same : (u : ℕ) → u / 64 % 256 ≡ t / 64 % 256 → is_seen (set seen (t / 64 % 256) x) u ≡ updated (bit_of w) (t % 64) true (u % 64)
  unfolding is_seen
  word_same u e = rw (e, get_or-set_same seen (t / 64 % 256) x 0 in_words) (x_at (u % 64) (mod-lt u (omega arith)))

  old_same : (u : ℕ) → u / 64 % 256 ≡ t / 64 % 256 → is_seen seen u ≡ bit_of w (u % 64)
  unfolding is_seen
  old_same u e = rw (e, w-is)

  pub sees : Sees seen t was (set seen (t / 64 % 256) x)
  sees =
      record {
        was_is = was_is_lem;
        set = word_same t refl ∙ updated_same (bit_of w) (t % 64) true;
        stays = λ u h. stay u h (ℕ_discrete (u / 64 % 256) (t / 64 % 256)) (ℕ_discrete (u % 64) (t % 64));
        size = simp length-set;
      }
    where
      stay : (u : ℕ) → is_seen seen u ≡ true → Dec (u / 64 % 256 ≡ t / 64 % 256) → Dec (u % 64 ≡ t % 64) → is_seen (set seen (t / 64 % 256) x) u ≡ true
      stay u h (no a) d = word_other u a ∙ h
      stay u h (yes a) (yes b) = word_same u a ∙ ap (updated (bit_of w) (t % 64) true) b ∙ updated_same (bit_of w) (t % 64) true
      stay u h (yes a) (no b) = word_same u a ∙ updated_other (bit_of w) (t % 64) true (u % 64) b ∙ sym (old_same u a) ∙ h
