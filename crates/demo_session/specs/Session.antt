-- Document 01, "Board T": what the bench program prints, whole, as a function of what it reads; and the document's example as text.
-- Assumes nothing.
use Rattle.std.specs.Prelude.{ℕ, ◌*◌, min, cond, List, [], ◌∷◌, ◌++◌, eqb, length, replicate}
use Prim.Native.Char.{code}
use Prim.Native.String.{String}
use Prim.Native.String as Text
use Rattle.rules.specs.Tables.{Board}
use Rattle.rules.specs.Requests.{Request, format, read, write}
use Rattle.rules.specs.Calls.{outcome_of}
use Rattle.cases.specs.BoardT.{board_t, blank_t}
use Rattle.demo_lines.specs.declared.Line.{Line}
use Rattle.demo_lines.specs.declared.Line.TheVariants.{Write, Read, Other}
use Rattle.demo_lines.specs.Grammar.{line_of}
use Rattle.demo_print.specs.Output.{format_line, read_line, unknown_line, write_line}

-- a stream of bytes cut at each LF (10), after the bytes l of a line begun; a last line without LF counts
unfoldable pub lines_from : List ℕ → List ℕ → List (List ℕ)
lines_from l [] = cond (eqb (length l) 0) [] (l ∷ [])
lines_from l (b ∷ s) = cond (eqb b 10) (l ∷ lines_from [] s) (lines_from (l ++ (b ∷ [])) s)

-- a request, with at most a cluster's bytes lent: a larger count is refused before its data is looked at
unfoldable pub requested : ℕ → ℕ → ℕ → Request
requested lba count x = record { lba = lba; count = count; bytes = replicate (min count 2 * 16) x }

-- what a line prints, and the board that it leaves
pub record Turn : Type 0 where
  pub text : List ℕ
  pub board : Board

unfoldable pub turn : Board → Line → Turn
turn b (Write lba count x) =
    let o = outcome_of board_t b (write (requested lba count x)) in
    record { text = write_line o.answer; board = o.board }
turn b (Read lba count) =
    let o = outcome_of board_t b (read (requested lba count 0)) in
    record { text = read_line o.answer count o.bytes; board = o.board }
turn b Other = record { text = unknown_line; board = b }

unfoldable pub turns : Board → List (List ℕ) → List ℕ
turns b [] = []
turns b (s ∷ ss) =
    let t = turn b (line_of s) in
    t.text ++ turns t.board ss

-- "The bench program formats Board T (chip all 255, wear all 0), then reads standard input": the line of the format, then one a line
unfoldable pub bench : List ℕ → List ℕ
bench input =
    let o = outcome_of board_t (blank_t 5 0 255) format in
    format_line o.answer ++ turns o.board (lines_from [] input)

-- a text's bytes
unfoldable pub bytes_of : String → List ℕ
bytes_of Text.[] = []
bytes_of (Text.◌∷◌ c s) = code c ∷ bytes_of s

-- "Input, with tabs shown as spaces"
unfoldable pub example_input : String
example_input =
    "W\t0\t2\t17\nW\t4\t2\t18\nW\t2\t1\t19\nW\t8\t1\t20\nW\t0\t1\t21\nW\t5\t1\t22\nW\t0\t2\t23\nR\t4\t2\nR\t3\t1\nW\t12\t1\t5\nR\t1\t2\n"

-- "The whole output", with T-08's fifth field of `W`
unfoldable pub example_output : String
example_output =
    "F\t0\t0\t5\nW\t0\t2\t0\t0\nW\t0\t2\t0\t0\nW\t0\t2\t0\t0\nW\t0\t2\t0\t0\nW\t0\t2\t0\t1\nW\t0\t4\t1\t1\nW\t0\t4\t1\t1\nR\t0\t12121212121212121212121212121212\t16161616161616161616161616161616\nR\t0\tffffffffffffffffffffffffffffffff\nW\t4\t0\t0\t0\nR\t3\n"
