use Rattle.std.proofs.Common.{refl}
use Rattle.service_state.proofs.Ties.{roomed}
use Rattle.service_state.specs.contracts.tables.Tables.{the_view}
use Rattle.service_state.proofs.tables.Tables.open_ready.Goals as goal

pub invariant_of-self : goal.invariant_of-self
invariant_of-self c = (roomed c.connections_are_found.ensures (the_view c.self.inside) c.self.inside.names c.reserve_handle.new.self c.self.inside.connections c.self.invariant refl c.reserve_handle.ensures.handles c.reserve_handle.ensures.rows.next c.reserve_handle.ensures.sites refl).tied

pub invariant_of-self-2 : goal.invariant_of-self-2
invariant_of-self-2 c = (roomed c.connections_are_found.ensures (the_view c.self.inside) c.self.inside.names c.reserve_handle.new.self c.open_ready.new.self c.self.invariant refl c.reserve_handle.ensures.handles c.reserve_handle.ensures.rows.next c.reserve_handle.ensures.sites c.open_ready.ensures.same.standing).tied
