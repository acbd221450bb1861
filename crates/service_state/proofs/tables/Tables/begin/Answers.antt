use Rattle.std.specs.Prelude.{◌∷◌}
use Rattle.std.proofs.Common.{subst}
use Rattle.service_state.specs.Beginning.{AreReady}
use Rattle.service_state.proofs.Ready.{closed_ready, happened_ready}
use Rattle.service_state.proofs.tables.Tables.begin.Goals as goal

pub returns-in-Closes-clause-ready : goal.returns-in-Closes-clause-ready
returns-in-Closes-clause-ready c xs ready =
    closed_ready c.in-Closes.conn c.in-Closes.handle c.in-Closes.is_parked xs c.args.self.now c.close.new.self c.close.ensures.moves c.close.ensures.records c.close.ensures.names
    c.close.ensures.room.sites c.handles_are_placed.ensures c.handles_are_placed-in-Closes.ensures (subst (λ x. AreReady (x ∷ xs) c.args.self.now) c.in-Closes.is ready)

pub returns-in-AppendsRecord-clause-ready : goal.returns-in-AppendsRecord-clause-ready
returns-in-AppendsRecord-clause-ready c xs ready =
    happened_ready c.in-AppendsRecord.told xs c.args.self.now c.happen.new.self c.happen.ensures.moves c.happen.ensures.records c.happen.ensures.sites
    c.handles_are_placed.ensures c.handles_are_placed-in-AppendsRecord.ensures (subst (λ x. AreReady (x ∷ xs) c.args.self.now) c.in-AppendsRecord.is ready)
