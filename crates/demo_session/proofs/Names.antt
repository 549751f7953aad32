-- The definitions of the bench's text, for an `unfolding` line, where a claim about them is computed.
-- Assumes nothing.
use Rattle.cases.proofs.Names.{all_board_t}
use Rattle.demo_lines.specs.Grammar.{first_field, later_fields, fields, field_at, is_digit, all_digits, value_from, value_of, is_number, is_write, is_read, line_of}
use Rattle.demo_print.specs.Output.{digit, decimal_up_to, decimal, hex, sectors, counts, format_line, write_line, read_line, unknown_line}
use Rattle.demo_session.specs.Session.{lines_from, requested, turn, turns, bench, bytes_of, example_input, example_output}

unfoldable pub all_session : Unit {0}
unfolding all_board_t first_field later_fields fields field_at is_digit all_digits value_from value_of is_number is_write is_read line_of digit decimal_up_to decimal hex sectors counts
    format_line write_line read_line unknown_line lines_from requested turn turns bench bytes_of example_input example_output
all_session = tt
