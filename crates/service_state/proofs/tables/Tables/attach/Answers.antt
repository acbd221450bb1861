use Rattle.std.specs.Prelude.{[], ◌∷◌}
use Rattle.std.proofs.Common.{sym, ◌∙◌, ap, subst}
use Rattle.pps_types.specs.Content as content
use Rattle.pps_types.specs.Plan as planning
use Rattle.notify_box.specs.Standing.{is_attached}
use Rattle.notify_box.specs.Connections.{AreOwned}
use Rattle.service_state.specs.Tables.{content_in}
use Rattle.service_state.proofs.Ties.{Step, moved_from}
use Rattle.service_state.proofs.Comes.{attached_step}
use Rattle.service_state.specs.contracts.tables.Tables.{the_view}
use Rattle.service_state.proofs.tables.Tables.attach.Goals as goal

step : (c : goal.After-attach) → Step (planning.Attaches c.args.conn ∷ []) (the_view c.self.inside) (record (the_view c.self.inside) { connections = c.attach.new.self })
step c =
    let absent = ap (λ t. content.is_attached (content_in t) c.args.conn) c.self.view_is ∙ c.requires.absent in
    let owned = subst (λ t. AreOwned (content_in t)) (sym c.self.view_is) c.requires.owned in
    attached_step c.connections_are_found.ensures c.connections_are_told.ensures c.premises_stay.ensures (the_view c.self.inside) c.attach.new.self c.args.conn c.args.outbox.outbox c.self.invariant c.requires.empty absent
    (c.connections_are_found.ensures.unattached (content_in (the_view c.self.inside)) owned c.args.conn absent) c.requires.low c.requires.high c.attach.ensures.standing

pub invariant_of-self : goal.invariant_of-self
invariant_of-self c = (step c).tied

pub returns : goal.returns
returns c = moved_from (planning.Attaches c.args.conn ∷ []) (the_view c.self.inside) (record (the_view c.self.inside) { connections = c.attach.new.self }) c.args.self.now c.self.view_is (step c)

pub attach-requires-clause-absent : goal.attach-requires-clause-absent
attach-requires-clause-absent c = ap (is_attached c.args.conn) c.self.invariant.connected ∙ c.connections_are_found.ensures.attached (content_in (the_view c.self.inside)) c.args.conn
    ∙ ap (λ t. content.is_attached (content_in t) c.args.conn) c.self.view_is ∙ c.requires.absent
