use Rattle.std.proofs.Common.{◌≡◌, ◌++◌, map}
use Rattle.pps_types.specs.Text.{print_lines}
use Rattle.pps_types.specs.Image.{as_line}
use Rattle.pps_engine.specs.Entries.{attributes_of}
use Rattle.pps_persist.proofs.saving.push_entry.Given as goal

-- those that were printed, and those still to come
abbrev pub invariant-attributes : goal.invariant-attributes
invariant-attributes l = l.out.items ++ print_lines (map as_line l.attribute-iterator) ≡ l.initial.out.items ++ print_lines (map as_line (attributes_of l.entry))
