use Rattle.std.specs.Prelude.{◌≡◌}
use Rattle.std.proofs.Common.{sym, ◌∙◌, ap, subst}
use Rattle.pps_types.specs.Outbox.{park_refusal}
use Rattle.pps_types.specs.Content as content
use Rattle.notify_box.specs.Standing.{standing_in, outbox_of}
use Rattle.notify_box.specs.Connections.{AreOwned}
use Rattle.service_state.specs.Tables.{content_in}
use Rattle.service_state.proofs.Rooms.{outbox_told, free_to_park}
use Rattle.service_state.specs.contracts.tables.Tables.{the_view}
use Rattle.service_state.proofs.tables.Tables.park_ready.Goals as goal

outbox : (c : goal.After-park_ready) → outbox_of c.args.conn (standing_in c.self.inside.connections) ≡ content.outbox_of (content_in c.args.self.now) c.args.conn
outbox c = outbox_told c.connections_are_found.ensures (the_view c.self.inside) c.self.invariant (subst (λ t. AreOwned (content_in t)) (sym c.self.view_is) c.requires) c.args.conn
    ∙ ap (λ t. content.outbox_of (content_in t) c.args.conn) c.self.view_is

pub returns-clause-refusal : goal.returns-clause-refusal
returns-clause-refusal c = λ other. c.park_ready.ensures.refusal other ∙ ap (λ box. park_refusal box c.args.handle) (outbox c)

pub returns-clause-free : goal.returns-clause-free
returns-clause-free c = λ lacking. ap (λ box. park_refusal box c.args.handle) (sym (outbox c)) ∙ free_to_park c.self.inside.connections c.args.conn c.args.handle (c.park_ready.ensures.memory lacking)
