use Rattle.notify_box.proofs.ConnectionStays.{handles-stay, connections-stay, attached-stays, own-stays}
use Rattle.notify_box.proofs.laws_of_connections.premises_stay.Goals as goal

pub returns : goal.returns
returns c = record { handles = handles-stay; connections = connections-stay; attached = attached-stays; own = own-stays }
