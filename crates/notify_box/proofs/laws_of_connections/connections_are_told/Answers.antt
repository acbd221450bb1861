use Rattle.notify_box.proofs.ConnectionMoves.{queued-told, taken-told, left-told, opened-told, closed-told, armed-told, disarmed-told, fired-told, fires-told, parked-told, finished-told}
use Rattle.notify_box.proofs.OtherConnections.{kept-told, attached-told}
use Rattle.notify_box.proofs.laws_of_connections.connections_are_told.Goals as goal

pub returns : goal.returns
returns c = record {
  kept = kept-told;
  attached = attached-told;
  left = left-told;
  queued = queued-told;
  taken = taken-told;
  opened = opened-told;
  closed = closed-told;
  armed = armed-told;
  disarmed = disarmed-told;
  fired = fired-told;
  fires = fires-told;
  parked = parked-told;
  finished = finished-told;
}
