use Rattle.std.proofs.Common.{◌∙◌, ap}
use Rattle.pps_types.specs.Content as content
use Rattle.notify_box.specs.Standing.{is_attached}
use Rattle.service_state.specs.Tables.{content_in}
use Rattle.service_state.specs.contracts.tables.Tables.{the_view}
use Rattle.service_state.proofs.tables.Tables.is_attached.Goals as goal

pub returns : goal.returns
returns c = c.is_attached.ensures ∙ ap (is_attached c.args.conn) c.self.invariant.connected
    ∙ c.connections_are_found.ensures.attached (content_in (the_view c.self.inside)) c.args.conn
    ∙ ap (λ t. content.is_attached (content_in t) c.args.conn) c.self.view_is
