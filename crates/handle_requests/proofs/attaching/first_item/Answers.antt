use Rattle.std.proofs.Common.{◌∙◌, ap}
use Rattle.pps_types.specs.Outbox.{first_of}
use Rattle.notify_box.specs.Standing.{RoomedConnections, standing_in, outbox_of}
use Rattle.handle_requests.proofs.Queues.{queue_found}
use Rattle.handle_requests.proofs.attaching.first_item.Goals as goal

pub returns : goal.returns
returns c = c.first.ensures ∙ ap (λ (x : RoomedConnections). first_of (outbox_of c.args.conn (standing_in x)).items) c.connections.ensures
    ∙ ap first_of (queue_found c.connections_are_found.ensures c.args.tables.now c.are_tied.ensures c.args.conn)
