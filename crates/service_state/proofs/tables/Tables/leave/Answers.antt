use Rattle.std.specs.Prelude.{[], ◌∷◌}
use Rattle.pps_types.specs.Plan as planning
use Rattle.service_state.proofs.Ties.{Step, moved_from}
use Rattle.service_state.proofs.Comes.{left_step}
use Rattle.service_state.specs.contracts.tables.Tables.{the_view}
use Rattle.service_state.proofs.tables.Tables.leave.Goals as goal

step : (c : goal.After-leave) → Step (planning.Leaves c.args.conn ∷ []) (the_view c.self.inside) (record (the_view c.self.inside) { connections = c.leave.new.self })
step c = left_step c.connections_are_found.ensures c.connections_are_told.ensures c.premises_stay.ensures (the_view c.self.inside) c.leave.new.self c.args.conn c.self.invariant c.leave.ensures.standing

pub invariant_of-self : goal.invariant_of-self
invariant_of-self c = (step c).tied

pub returns : goal.returns
returns c = moved_from (planning.Leaves c.args.conn ∷ []) (the_view c.self.inside) (record (the_view c.self.inside) { connections = c.leave.new.self }) c.args.self.now c.self.view_is (step c)
