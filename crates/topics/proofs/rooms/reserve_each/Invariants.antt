use Rattle.std.proofs.Common.{◌≡◌}
use Rattle.topics.proofs.Roomed.{IsRoomed}
use Rattle.topics.proofs.Walks.{Went}
use Rattle.topics.proofs.rooms.reserve_each.Given as goal

abbrev pub invariant-places : goal.invariant-places
invariant-places l = record {
  went : Went (IsRoomed l.object l.entries) l.place l.fn.rows.slots l.rows.slots;
  places : l.rows.places ≡ l.fn.rows.places;
}
