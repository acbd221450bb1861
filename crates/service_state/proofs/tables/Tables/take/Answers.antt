use Rattle.std.specs.Prelude.{[], ◌∷◌}
use Rattle.std.proofs.Common.{refl}
use Rattle.pps_types.specs.Plan as planning
use Rattle.notify_box.specs.Standing.{with_outbox}
use Rattle.pps_types.specs.Outbox.{behind_first}
use Rattle.service_state.specs.Tables.{content_in}
use Rattle.service_state.proofs.Ties.{Step, both_stepped, moved_from, sites_same}
use Rattle.service_state.specs.contracts.tables.Tables.{the_view}
use Rattle.service_state.proofs.Waits.{taken_aside}
use Rattle.service_state.proofs.tables.Tables.take.Goals as goal

step : (c : goal.Joined-item) → Step (planning.Takes c.args.conn ∷ []) (the_view c.self.inside) (record (the_view c.self.inside) { handles = c.self.inside.handles; connections = c.take-item.new.self })
step c =
    both_stepped c.connections_are_found.ensures (planning.Takes c.args.conn ∷ []) (the_view c.self.inside) (c.self.inside.handles) (c.take-item.new.self) (with_outbox c.args.conn (λ box. record box { items = behind_first box.items })) c.self.invariant
    (taken_aside (content_in (the_view c.self.inside)) c.args.conn) (refl) (sites_same c.self.inside.handles) (refl) (c.take-item.ensures.rest.standing) (c.connections_are_told.ensures.taken (content_in (the_view c.self.inside)) c.self.invariant.rise c.args.conn) (c.premises_stay.ensures.connections (content_in (the_view c.self.inside)) (planning.Takes c.args.conn ∷ []) c.self.invariant.rise refl)

pub invariant_of-self : goal.invariant_of-self
invariant_of-self c = (step c).tied

pub returns : goal.returns
returns c = moved_from (planning.Takes c.args.conn ∷ []) (the_view c.self.inside) (record (the_view c.self.inside) { handles = c.self.inside.handles; connections = c.take-item.new.self }) c.args.self.now c.self.view_is (step c)
