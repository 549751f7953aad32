-- What a line asks, from what was found of its fields: a test that fails is enough to refuse it.
-- Assumes nothing.
use Rattle.std.specs.Prelude.{◌≡◌, ℕ, Bool, true, false, List, [], ◌∷◌, length, Option, None, Some}
use Rattle.std.specs.Option.{option_or, unwrap_or}
use mathlib.Core.Logic.{⊎_elim}
use lib.Dec.{eqb}
use Rattle.lists.specs.Parts.{same_list}
use Rattle.lists.proofs.Tests.{Truths, all_true_lem, so, truths}
use Rattle.demo_lines.specs.declared.Line.{Line}
use Rattle.demo_lines.specs.declared.Line.TheVariants.{Other}
use Rattle.demo_lines.specs.Grammar.{AskedAs, field_at, fields, is_number, is_read, is_write, line_of, read_in, write_in}

abbrev pub write_tests : List ℕ → List Bool
write_tests s =
    eqb (length (fields s)) 4
    ∷ same_list (field_at s 0) (87 ∷ [])
    ∷ is_number 4294967295 (field_at s 1)
    ∷ is_number 4294967295 (field_at s 2)
    ∷ is_number 255 (field_at s 3)
    ∷ []

abbrev pub read_tests : List ℕ → List Bool
read_tests s = eqb (length (fields s)) 3 ∷ same_list (field_at s 0) (82 ∷ []) ∷ is_number 4294967295 (field_at s 1) ∷ is_number 4294967295 (field_at s 2) ∷ []

unless : (a : Bool) → (a ≡ true → ⊥) → a ≡ false
unless a h = ⊎_elim (λ t. absurd (h t)) (λ f. f) (so a)

pub no_write : (s : List ℕ) → (Truths (write_tests s) → ⊥) → is_write s ≡ false
unfolding is_write
no_write s h = unless (is_write s) (λ e. h (truths (write_tests s) e))

pub a_write : (s : List ℕ) → Truths (write_tests s) → is_write s ≡ true
unfolding is_write
a_write s t = all_true_lem (write_tests s) t

pub no_read : (s : List ℕ) → (Truths (read_tests s) → ⊥) → is_read s ≡ false
unfolding is_read
no_read s h = unless (is_read s) (λ e. h (truths (read_tests s) e))

pub a_read : (s : List ℕ) → Truths (read_tests s) → is_read s ≡ true
unfolding is_read
a_read s t = all_true_lem (read_tests s) t

pub asked : (s : List ℕ) (w r : Option Line) → AskedAs (is_write s) (write_in s) w → AskedAs (is_read s) (read_in s) r → unwrap_or (option_or w r) Other ≡ line_of s
unfolding line_of
asked s None None h k = rw (h, k)
asked s None (Some l) h k = rw (h, k.0) k.1
asked s (Some l) r h k = rw h.0 h.1
