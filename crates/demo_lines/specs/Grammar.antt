-- Document 01, "Board T": what the bench program reads. A line is a list of bytes, without the LF that ends it.
-- Assumes nothing.
use Rattle.std.specs.Prelude.{ℕ, ◌+◌, ◌-◌, ◌*◌, ◌≤◌, ◌≡◌, Bool, true, false, ◌&&◌, cond, Option, MatchOption, List, [], ◌∷◌, length, get_or, leb, eqb}
use Rattle.lists.specs.Below.{all_true}
use Rattle.lists.specs.Parts.{same_list}
use Rattle.demo_lines.specs.declared.Line.{Line}
use Rattle.demo_lines.specs.declared.Line.TheVariants.{Write, Read, Other}

-- "Fields are parted by one tab": the bytes before the first tab (9), and the fields after it
unfoldable pub first_field : List ℕ → List ℕ
first_field [] = []
first_field (b ∷ l) = cond (eqb b 9) [] (b ∷ first_field l)

unfoldable pub later_fields : List ℕ → List (List ℕ)
later_fields [] = []
later_fields (b ∷ l) = cond (eqb b 9) (first_field l ∷ later_fields l) (later_fields l)

unfoldable pub fields : List ℕ → List (List ℕ)
fields l = first_field l ∷ later_fields l

-- field n of a line, counted from 0
unfoldable pub field_at : List ℕ → ℕ → List ℕ
field_at l n = get_or (fields l) n []

-- "decimal": `0` (48) to `9` (57)
unfoldable pub is_digit : ℕ → Bool
is_digit b = leb 48 b && leb b 57

unfoldable pub all_digits : List ℕ → Bool
all_digits [] = true
all_digits (b ∷ l) = is_digit b && all_digits l

-- the number that digits say after those that say v, and that a field says
unfoldable pub value_from : ℕ → List ℕ → ℕ
value_from v [] = v
value_from v (b ∷ l) = value_from (v * 10 + (b - 48)) l

unfoldable pub value_of : List ℕ → ℕ
value_of f = value_from 0 f

-- "decimal, 1 to 10 digits", and its value at most `most`; leading zeros are digits
unfoldable pub is_number : ℕ → List ℕ → Bool
is_number most f = leb 1 (length f) && (leb (length f) 10 && (all_digits f && leb (value_of f) most))

-- "`W`, LBA, count, byte value": four fields, with "an LBA or count above 4,294,967,295, or a value above 255" refused
unfoldable pub is_write : List ℕ → Bool
is_write s =
    all_true
    (eqb (length (fields s)) 4
    ∷ same_list (field_at s 0) (87 ∷ [])
    ∷ is_number 4294967295 (field_at s 1)
    ∷ is_number 4294967295 (field_at s 2)
    ∷ is_number 255 (field_at s 3)
    ∷ [])

-- "`R`, LBA, count": three fields
unfoldable pub is_read : List ℕ → Bool
is_read s =
    all_true
    (eqb (length (fields s)) 3
    ∷ same_list (field_at s 0) (82 ∷ [])
    ∷ is_number 4294967295 (field_at s 1)
    ∷ is_number 4294967295 (field_at s 2)
    ∷ [])

-- what a write asks, and what a read does
abbrev pub write_in : List ℕ → Line
write_in s = Write (value_of (field_at s 1)) (value_of (field_at s 2)) (value_of (field_at s 3))

abbrev pub read_in : List ℕ → Line
read_in s = Read (value_of (field_at s 1)) (value_of (field_at s 2))

-- "A line of another form .. gives `?`"
unfoldable pub line_of : List ℕ → Line
line_of s = cond (is_write s) (write_in s) (cond (is_read s) (read_in s) Other)

-- what a field is found to be: a number of at most `most`, and its value if it is one
abbrev pub Found : ℕ → List ℕ → Option ℕ → Type 0
Found most f r = MatchOption r (is_number most f ≡ false) (λ v. (is_number most f ≡ true) × (v ≡ value_of f) × (v ≤ most))

-- what a line is found to ask, if it is of a form
abbrev pub AskedAs : Bool → Line → Option Line → Type 0
AskedAs of_form asks r = MatchOption r (of_form ≡ false) (λ l. (of_form ≡ true) × (l ≡ asks))
