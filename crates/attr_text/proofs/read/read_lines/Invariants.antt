use Rattle.std.proofs.Common.{◌≡◌, ◌+◌, ◌≤◌, length}
use Rattle.pps_types.specs.Text.{write_lines, lines_of}
use Rattle.attr_text.proofs.Reading.{after_lines}
use Rattle.attr_text.proofs.read.read_lines.Given as goal

-- the lines so far and those of the rest are the lines of all bytes, and each line took a byte
abbrev pub invariant-loop-rest : goal.invariant-loop-rest
invariant-loop-rest l =
    (write_lines l.first (lines_of l.bytes) ≡ after_lines l.lines.items (write_lines l.number (lines_of l.rest))) ×
    (l.number + length l.rest ≤ l.first + length l.bytes)

abbrev pub decreases-loop-rest : goal.decreases-loop-rest
decreases-loop-rest l = length l.rest
