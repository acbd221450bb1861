use Rattle.std.proofs.Common.{◌≡◌, drop}
use Rattle.std.specs.Prelude.{find}
use Rattle.sub_reader.specs.Rows.{rows_in}
use Rattle.topics.specs.QueueRows.{is_full_client}
use Rattle.topics.proofs.full.find_full.Given as goal

abbrev pub invariant-slots : goal.invariant-slots
invariant-slots l = find is_full_client (rows_in (drop l.slot-index l.slots)) ≡ find is_full_client (rows_in l.slots)
