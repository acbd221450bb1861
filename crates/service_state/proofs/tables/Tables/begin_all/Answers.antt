use Rattle.std.proofs.Common.{subst}
use Rattle.service_state.specs.Beginning.{AreReady}
use Rattle.service_state.proofs.Ready.{first_ready}
use Rattle.service_state.proofs.tables.Tables.begin_all.Goals as goal

pub begin-requires : goal.begin-requires
begin-requires c = first_ready c.in-Some.each c.next.new.self.rest.items c.beginning.self (subst (λ xs. AreReady xs c.beginning.self) c.in-Some.ensures.steps.0 c.beginning.invariant.ready)
