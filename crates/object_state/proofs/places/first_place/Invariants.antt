use Rattle.std.proofs.Common.{take}
use Rattle.pps_filter.specs.Seen.{parts_seen}
use Rattle.object_state.specs.Entries.{attributes_of}
use Rattle.object_state.specs.Places.{IsFirstPlace}
use Rattle.object_state.proofs.places.first_place.Given as goal

abbrev pub invariant-parts : goal.invariant-parts
invariant-parts l = IsFirstPlace (parts_seen (take l.part-index l.part-items)) (attributes_of l.map.entries) l.from l.first
