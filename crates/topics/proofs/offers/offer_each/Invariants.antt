use Rattle.std.proofs.Common.{◌≡◌, ◌≤◌, length}
use Rattle.std.specs.Prelude.{filter}
use Rattle.topics.specs.QueueRows.{sees}
use Rattle.topics.specs.Offers.{IsOffered}
use Rattle.topics.specs.Spans.{rows_from}
use Rattle.topics.proofs.Walks.{Went}
use Rattle.topics.proofs.offers.offer_each.Given as goal

abbrev pub invariant-places : goal.invariant-places
invariant-places l = record {
  went : Went (IsOffered l.object l.fn.shares.entry) l.place l.fn.rows.slots l.rows.slots;
  entry : l.shares.entry ≡ l.fn.shares.entry;
  enough : length (filter (sees l.object l.fn.shares.entry) (rows_from l.place l.fn.rows.slots)) ≤ l.shares.count;
  places : l.rows.places ≡ l.fn.rows.places;
}
