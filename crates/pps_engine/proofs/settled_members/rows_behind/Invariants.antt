use Rattle.std.proofs.Common.{◌≡◌, take}
use Rattle.name_table.specs.Standing.{content_of, standing_of}
use Rattle.pps_engine.specs.Behind.{rows_behind}
use Rattle.pps_engine.proofs.settled_members.rows_behind.Given as goal

abbrev pub invariant-entries : goal.invariant-entries
invariant-entries l = l.rows.items ≡ rows_behind (content_of (standing_of l.names)) (take l.entry-index l.entries) l.directory
