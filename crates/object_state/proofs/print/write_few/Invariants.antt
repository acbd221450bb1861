use Rattle.std.proofs.Common.{◌≡◌, ◌+◌, ◌≤◌, length, map, drop}
use Rattle.pps_types.specs.History.{line_of}
use Rattle.pps_types.specs.Text.{print_lines}
use Rattle.attr_text.specs.Written.{overwritten}
use Rattle.object_state.specs.Entries.{attributes_of}
use Rattle.object_state.proofs.print.write_few.Given as goal

abbrev pub invariant-entries : goal.invariant-entries
invariant-entries l =
    (overwritten l.out l.at (print_lines (map line_of (attributes_of (drop l.entry-index l.entries)))) ≡ overwritten l.fn.out l.fn.start (print_lines (map line_of (attributes_of l.entries)))) ×
    (l.at + length (print_lines (map line_of (attributes_of (drop l.entry-index l.entries)))) ≤ length l.out)
