use Rattle.std.proofs.Common.{◌≡◌, ◌+◌, ◌≤◌, ◌<◌, ◌^◌, length}
use Rattle.std.specs.Prelude.{fold}
use Rattle.std.specs.Vec.Iter.{into_iter_items}
use Rattle.pps_types.specs.History.{apply_line, text_length}
use Rattle.pps_types.specs.Text.{print_lines}
use Rattle.object_state.specs.Entries.{attributes_of}
use Rattle.object_state.proofs.changes.apply_lines.Given as goal

abbrev pub invariant-lines : goal.invariant-lines
invariant-lines l = record {
  applied : fold apply_line (attributes_of l.map.entries) (into_iter_items l.line-iterator) ≡ fold apply_line (attributes_of l.fn.map.entries) l.fn.lines.items;
  kept : l.text_len ≡ text_length (attributes_of l.map.entries);
  room : length (into_iter_items l.line-iterator) ≤ l.map.room;
  fits : l.text_len + length (print_lines (into_iter_items l.line-iterator)) < 2 ^ 64;
}
