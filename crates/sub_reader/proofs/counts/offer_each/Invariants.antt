use Rattle.std.proofs.Common.{◌≡◌, ◌++◌, length, map, take, drop}
use Rattle.std.specs.VecDeque.{deque_capacity}
use Rattle.sub_reader.specs.Places.{reader_after}
use Rattle.sub_reader.specs.Rows.{rows_of, on_row}
use Rattle.sub_reader.specs.Counts.{AreWithin, IsCounted}
use Rattle.sub_reader.proofs.counts.offer_each.Given as goal

abbrev pub invariant-offers : goal.invariant-offers
invariant-offers l = record {
  same : l.rows.slots ≡ map (on_row (reader_after l.target l.entry l.position)) (take l.place l.fn.rows.slots) ++ drop l.place l.fn.rows.slots;
  lengths : length l.counts.items ≡ length l.fn.counts.items;
  within : AreWithin l.start (length l.fn.counts.items) (rows_of l.rows);
  agree : IsCounted l.start (rows_of l.rows) l.counts.items;
  capacity : deque_capacity l.counts ≡ deque_capacity l.fn.counts;
  places : l.rows.places ≡ l.fn.rows.places;
}
