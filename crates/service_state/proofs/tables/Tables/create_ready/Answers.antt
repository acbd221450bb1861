use Rattle.std.proofs.Common.{refl}
use Rattle.service_state.proofs.Ties.{roomed}
use Rattle.service_state.specs.contracts.tables.Tables.{the_view}
use Rattle.service_state.proofs.tables.Tables.create_ready.Goals as goal

pub invariant_of-self-in_err-object_ready : goal.invariant_of-self-in_err-object_ready
invariant_of-self-in_err-object_ready c = (roomed c.connections_are_found.ensures (the_view c.self.inside) c.create_ready.new.self c.object_ready.new.handles c.self.inside.connections c.self.invariant c.create_ready.ensures.standing c.object_ready.ensures.handles c.object_ready.ensures.rows.next c.object_ready.ensures.sites refl).tied

pub invariant_of-self-2 : goal.invariant_of-self-2
invariant_of-self-2 c = (roomed c.connections_are_found.ensures (the_view c.self.inside) c.create_ready.new.self c.object_ready.new.handles c.self.inside.connections c.self.invariant c.create_ready.ensures.standing c.object_ready.ensures.handles c.object_ready.ensures.rows.next c.object_ready.ensures.sites refl).tied
