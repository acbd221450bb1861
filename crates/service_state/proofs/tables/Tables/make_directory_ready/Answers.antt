use Rattle.std.proofs.Common.{refl}
use Rattle.service_state.proofs.Ties.{roomed}
use Rattle.service_state.specs.contracts.tables.Tables.{the_view}
use Rattle.service_state.proofs.tables.Tables.make_directory_ready.Goals as goal

pub invariant_of-self-in_err-reserve_directory : goal.invariant_of-self-in_err-reserve_directory
invariant_of-self-in_err-reserve_directory c = (roomed c.connections_are_found.ensures (the_view c.self.inside) c.make_directory_ready.new.self c.reserve_directory.new.self c.self.inside.connections c.self.invariant c.make_directory_ready.ensures.standing c.reserve_directory.ensures.handles c.reserve_directory.ensures.rows.next c.reserve_directory.ensures.sites refl).tied

pub invariant_of-self-2 : goal.invariant_of-self-2
invariant_of-self-2 c = (roomed c.connections_are_found.ensures (the_view c.self.inside) c.make_directory_ready.new.self c.reserve_directory.new.self c.self.inside.connections c.self.invariant c.make_directory_ready.ensures.standing c.reserve_directory.ensures.handles c.reserve_directory.ensures.rows.next c.reserve_directory.ensures.sites refl).tied
