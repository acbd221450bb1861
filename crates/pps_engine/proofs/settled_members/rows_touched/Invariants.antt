use Rattle.std.proofs.Common.{◌≡◌, ◌++◌}
use Rattle.std.specs.List.{filter_map}
use Rattle.pps_engine.specs.Behind.{row_by}
use Rattle.pps_engine.proofs.settled_members.rows_touched.Given as goal

-- what is there, and what is still to come
abbrev pub invariant-rows : goal.invariant-rows
invariant-rows l = l.left.items ++ filter_map (row_by l.entry) l.row-iterator.rest.items ≡ filter_map (row_by l.entry) l.fn.rows.items
