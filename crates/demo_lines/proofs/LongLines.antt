-- No line of the grammar has more than 64 bytes: its fields are few and short, and the tabs between them are the rest of it.
-- Assumes nothing.
use mathlib.Core.Path.{◌≡◌, refl, ap}
use mathlib.Core.Logic.{⊎_elim}
use Prim.Native.Nat.{ℕ, suc, ◌+◌, ◌≤◌, ◌<◌}
use mathlib.Core.Bool.{Bool, true, false, cond}
use mathlib.Core.List.{List, [], ◌∷◌}
use native.Mathlib.Omega.{arith}
use borrow.Author.Tests.{leb-true, eqb-true}
use lib.Dec.{leb, eqb}
use lib.ListN.{length, get_or}
use Rattle.lists.specs.Parts.{same_list}
use Rattle.lists.proofs.Tests.{and_left, and_right, so, truths}
use Rattle.lists.proofs.Joins.{same_list→eq}
use Rattle.demo_lines.specs.declared.Line.TheVariants.{Other}
use Rattle.demo_lines.specs.Grammar.{first_field, later_fields, fields, field_at, is_number, is_write, is_read, line_of}

-- the bytes of fields, with one byte more for each
abbrev spread : List (List ℕ) → ℕ
spread [] = 0
spread (f ∷ fs) = suc (length f) + spread fs

cut : (t : Bool) (b : ℕ) (l : List ℕ) → spread (fields l) ≡ suc (length l)
    → spread (cond t [] (b ∷ first_field l) ∷ cond t (first_field l ∷ later_fields l) (later_fields l)) ≡ suc (suc (length l))
unfolding fields
cut true b l e = omega (arith, e)
cut false b l e = omega (arith, e)

all_bytes : (l : List ℕ) → spread (fields l) ≡ suc (length l)
unfolding fields first_field later_fields
all_bytes [] = refl
all_bytes (b ∷ l) = cut (eqb b 9) b l (all_bytes l)

of_three : (fs : List (List ℕ)) → length fs ≡ 3 → spread fs ≡ 3 + (length (get_or fs 0 []) + (length (get_or fs 1 []) + length (get_or fs 2 [])))
of_three [] e = absurd (omega arith)
of_three (a ∷ []) e = absurd (omega arith)
of_three (a ∷ b ∷ []) e = absurd (omega arith)
of_three (a ∷ b ∷ c ∷ []) e = omega arith
of_three (a ∷ b ∷ c ∷ d ∷ fs) e = absurd (omega arith)

of_four : (fs : List (List ℕ)) → length fs ≡ 4
    → spread fs ≡ 4 + (length (get_or fs 0 []) + (length (get_or fs 1 []) + (length (get_or fs 2 []) + length (get_or fs 3 []))))
of_four [] e = absurd (omega arith)
of_four (a ∷ []) e = absurd (omega arith)
of_four (a ∷ b ∷ []) e = absurd (omega arith)
of_four (a ∷ b ∷ c ∷ []) e = absurd (omega arith)
of_four (a ∷ b ∷ c ∷ d ∷ []) e = omega arith
of_four (a ∷ b ∷ c ∷ d ∷ x ∷ fs) e = absurd (omega arith)

few_digits : (most : ℕ) (f : List ℕ) → is_number most f ≡ true → length f ≤ 10
unfolding is_number
few_digits most f e = leb-true (length f) 10 (and_left (leb (length f) 10) _ (and_right (leb 1 (length f)) e))

one_letter : (f : List ℕ) (b : ℕ) → same_list f (b ∷ []) ≡ true → length f ≡ 1
one_letter f b e = ap length (same_list→eq f (b ∷ []) e)

write_short : (l : List ℕ) → is_write l ≡ true → length l ≤ 64
unfolding is_write field_at
write_short l e =
    let t = truths _ e in
    omega (
      arith,
      all_bytes l,
      of_four (fields l) (eqb-true (length (fields l)) 4 t.0),
      one_letter (field_at l 0) 87 t.1.0,
      few_digits 4294967295 (field_at l 1) t.1.1.0,
      few_digits 4294967295 (field_at l 2) t.1.1.1.0,
      few_digits 255 (field_at l 3) t.1.1.1.1.0,
    )

read_short : (l : List ℕ) → is_read l ≡ true → length l ≤ 64
unfolding is_read field_at
read_short l e =
    let t = truths _ e in
    omega (
      arith,
      all_bytes l,
      of_three (fields l) (eqb-true (length (fields l)) 3 t.0),
      one_letter (field_at l 0) 82 t.1.0,
      few_digits 4294967295 (field_at l 1) t.1.1.0,
      few_digits 4294967295 (field_at l 2) t.1.1.1.0,
    )

-- a longer line is of another form
pub long_line : (l : List ℕ) → 64 < length l → line_of l ≡ Other
unfolding line_of
long_line l h =
    let w : is_write l ≡ false = ⊎_elim (λ t. absurd (omega (arith, write_short l t))) (λ f. f) (so (is_write l)) in
    let r : is_read l ≡ false = ⊎_elim (λ t. absurd (omega (arith, read_short l t))) (λ f. f) (so (is_read l)) in
    rw (w, r)
