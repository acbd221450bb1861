use Rattle.std.proofs.Common.{subst}
use Rattle.service_laws.specs.Told.{HandlesRise}
use Rattle.service_state.specs.Tables.{Tabled, content_in}
use Rattle.service_state.proofs.Waits.{unarmed_stays}
use Rattle.service_state.proofs.tables.Tables.still_unarmed.Goals as goal

pub returns : goal.returns
returns c =
    unarmed_stays (content_in c.args.self.now) (subst (λ (t : Tabled). HandlesRise (content_in t)) c.self.view_is c.handles_are_placed.ensures.rise)
    c.args.conn c.args.handle c.requires
