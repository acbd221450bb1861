use Rattle.std.proofs.Common.{arith, take}
use Rattle.pps_filter.specs.Seen.{part_seen, parts_seen}
use Rattle.object_state.specs.Entries.{attributes_of}
use Rattle.object_state.proofs.Matched.{first-more, parts-more}
use Rattle.object_state.proofs.places.first_place.Goals as goal

pub parts-preserved : goal.parts-preserved
parts-preserved c =
    let more = parts-more c.parts-part-items.result.now c.parts.part-index c.part-item.result (omega arith) c.part-item.is in
    let step = first-more (parts_seen (take c.parts.part-index c.parts-part-items.result.now)) (part_seen c.part-item.result) (attributes_of c.args.map.now.entries) c.args.from c.parts.first c.parts.invariant c.place_of.result c.place_of.ensures in
    rw (more, c.earlier-first.ensures) step
