-- `demo_lines::decimal_in`: the bytes passed are digits, they say v, and v has no more digits than there are such bytes.
use Rattle.std.proofs.Common.{◌≡◌, ◌^◌, ◌<◌, drop}
use Rattle.demo_lines.specs.Grammar.{all_digits, value_from, value_of}
use Rattle.demo_lines.proofs.decimal_in.Given as goal

abbrev pub invariant-loop-b : goal.invariant-loop-b
invariant-loop-b l = (all_digits l.f ≡ all_digits (drop l.b-index l.f)) × (value_of l.f ≡ value_from l.v (drop l.b-index l.f)) × (l.v < 10 ^ l.b-index)
