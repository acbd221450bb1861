use Rattle.std.proofs.Common.{◌≡◌, drop}
use Rattle.sub_reader.specs.Rows.{rows_in}
use Rattle.topics.proofs.span.end_of_first.Given as goal

-- only gaps were passed over
abbrev pub invariant-slots : goal.invariant-slots
invariant-slots l = record {
  end : l.end ≡ l.slot-index;
  rows : rows_in (drop l.slot-index l.slots) ≡ rows_in l.slots;
}
