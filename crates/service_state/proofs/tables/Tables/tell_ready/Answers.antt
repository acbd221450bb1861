use Rattle.std.proofs.Common.{refl, ap}
use Rattle.service_state.proofs.Ties.{roomed}
use Rattle.service_state.specs.contracts.tables.Tables.{the_view}
use Rattle.service_state.proofs.tables.Tables.tell_ready.Goals as goal

pub invariant_of-self : goal.invariant_of-self
invariant_of-self c = (roomed c.connections_are_found.ensures (the_view c.self.inside) c.self.inside.names c.tell_ready.new.self c.self.inside.connections c.self.invariant refl c.tell_ready.ensures.handles (ap (λ r. r.next) c.tell_ready.ensures.rows) c.tell_ready.ensures.sites refl).tied

pub invariant_of-self-2 : goal.invariant_of-self-2
invariant_of-self-2 c = (roomed c.connections_are_found.ensures (the_view c.self.inside) c.self.inside.names c.tell_ready.new.self c.self.inside.connections c.self.invariant refl c.tell_ready.ensures.handles (ap (λ r. r.next) c.tell_ready.ensures.rows) c.tell_ready.ensures.sites refl).tied
