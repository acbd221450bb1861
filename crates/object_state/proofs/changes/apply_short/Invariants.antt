use Rattle.std.proofs.Common.{◌≡◌, ◌+◌, ◌≤◌, ◌<◌, ◌^◌, true, length, drop}
use Rattle.std.specs.Prelude.{fold}
use Rattle.pps_types.specs.History.{apply_line, text_length}
use Rattle.pps_types.specs.Text.{print_lines}
use Rattle.object_state.specs.Entries.{attributes_of}
use Rattle.object_state.specs.Short.{are_short}
use Rattle.object_state.proofs.changes.apply_short.Given as goal

abbrev pub invariant-lines : goal.invariant-lines
invariant-lines l = record {
  short : are_short (drop l.line-index l.lines) ≡ true;
  applied : fold apply_line (attributes_of l.map.entries) (drop l.line-index l.lines) ≡ fold apply_line (attributes_of l.fn.map.entries) l.lines;
  kept : l.text_len ≡ text_length (attributes_of l.map.entries);
  room : length (drop l.line-index l.lines) ≤ l.map.room;
  fits : l.text_len + length (print_lines (drop l.line-index l.lines)) < 2 ^ 64;
}
