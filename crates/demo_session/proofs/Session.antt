-- The document's example: the rules, the grammar and the printed lines together give its whole output, to the byte; and lines of odd forms.
-- A test that antt computes, and a law that turns it into an equation.
-- Assumes nothing.
use mathlib.Core.Path.{◌≡◌, refl}
use mathlib.Core.Bool.{true}
use mathlib.Core.List.{List, [], ◌∷◌}
use Prim.Native.Nat.{ℕ}
use Rattle.lists.specs.Parts.{same_list}
use Rattle.lists.proofs.Joins.{same_list→eq}
use Rattle.demo_lines.specs.declared.Line.{Line}
use Rattle.demo_lines.specs.declared.Line.TheVariants.{Write, Read, Other}
use Rattle.demo_lines.specs.Grammar.{line_of}
use Rattle.demo_session.specs.Session.{bench, bytes_of, example_input, example_output, lines_from}
use Rattle.demo_session.proofs.Names.{all_session}
use Prim.Native.String.{String}

example_test : same_list (bench (bytes_of example_input)) (bytes_of example_output) ≡ true
unfolding all_session
example_test = refl

-- "The whole output"
pub example_as_printed : bench (bytes_of example_input) ≡ bytes_of example_output
example_as_printed = same_list→eq (bench (bytes_of example_input)) (bytes_of example_output) example_test

-- ---- the lines of a stream

abbrev pub cut : String → List (List ℕ)
cut s = lines_from [] (bytes_of s)

-- "Lines end at LF", and a last line without LF counts
pub last_line_counts : cut "R\t4\t2\nF" ≡ bytes_of "R\t4\t2" ∷ bytes_of "F" ∷ []
unfolding all_session
last_line_counts = refl

-- an empty line is a line, and nothing after the last LF is none
pub empty_line_counts : cut "\n\n" ≡ [] ∷ [] ∷ []
unfolding all_session
empty_line_counts = refl

-- ---- one line

abbrev pub reads : String → Line
reads s = line_of (bytes_of s)

pub write_read : reads "W\t0\t2\t17" ≡ Write 0 2 17
unfolding all_session
write_read = refl

pub leading_zeros : reads "R\t0000000004\t02" ≡ Read 4 2
unfolding all_session
leading_zeros = refl

pub largest : reads "W\t4294967295\t4294967295\t255" ≡ Write 4294967295 4294967295 255
unfolding all_session
largest = refl

pub address_too_large : reads "R\t4294967296\t1" ≡ Other
unfolding all_session
address_too_large = refl

pub value_too_large : reads "W\t0\t1\t256" ≡ Other
unfolding all_session
value_too_large = refl

pub eleven_digits : reads "R\t00000000004\t1" ≡ Other
unfolding all_session
eleven_digits = refl

pub empty_line : reads "" ≡ Other
unfolding all_session
empty_line = refl

pub carriage_return : reads "R\t4\t2\r" ≡ Other
unfolding all_session
carriage_return = refl

pub spaces : reads "R 4 2" ≡ Other
unfolding all_session
spaces = refl

pub empty_field : reads "R\t4\t\t2" ≡ Other
unfolding all_session
empty_field = refl
