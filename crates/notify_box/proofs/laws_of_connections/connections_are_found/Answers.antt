use Rattle.notify_box.proofs.ConnectionStandings.{found-standing, found-attached, found-outbox, found-handles, found-queues, none-unattached, found-own}
use Rattle.notify_box.proofs.laws_of_connections.connections_are_found.Goals as goal

pub returns : goal.returns
returns c = record {
  standing = found-standing;
  attached = found-attached;
  outbox = found-outbox;
  handles = found-handles;
  queues = found-queues;
  unattached = none-unattached;
  own = found-own;
}
