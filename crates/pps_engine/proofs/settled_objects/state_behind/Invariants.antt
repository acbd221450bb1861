use Rattle.std.proofs.Common.{◌≡◌, take}
use Rattle.std.specs.Prelude.{option_map}
use Rattle.name_table.specs.Standing.{content_of, standing_of}
use Rattle.pps_engine.specs.Behind.{attributes_in, state_behind}
use Rattle.pps_engine.proofs.settled_objects.state_behind.Given as goal

abbrev pub invariant-entries : goal.invariant-entries
invariant-entries l = option_map attributes_in l.state ≡ state_behind (content_of (standing_of l.names)) (take l.entry-index l.entries) l.object
