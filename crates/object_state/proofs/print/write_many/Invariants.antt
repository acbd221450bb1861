use Rattle.std.proofs.Common.{◌≡◌, ◌+◌, ◌≤◌, length, map}
use Rattle.pps_types.specs.History.{line_of}
use Rattle.pps_types.specs.Text.{print_lines}
use Rattle.attr_text.specs.Written.{overwritten}
use Rattle.object_state.specs.Entries.{attributes_of}
use Rattle.object_state.proofs.print.write_many.Given as goal

abbrev pub invariant-entries : goal.invariant-entries
invariant-entries l =
    (goal.iterator-entries).can_next l.name-iterator ×
    (goal.iterator-entries).is_finite l.name-iterator ×
    (overwritten l.out l.at (print_lines (map line_of (attributes_of l.name-iterator))) ≡ overwritten l.fn.out l.fn.start (print_lines (map line_of (attributes_of l.index.entries)))) ×
    (l.at + length (print_lines (map line_of (attributes_of l.name-iterator))) ≤ length l.out)
