use Rattle.pps_dispatch.proofs.Lines.{session-asks}
use Rattle.pps_dispatch.proofs.scripts.session_of.Goals as goal

pub returns-clause-ok : goal.returns-clause-ok
returns-clause-ok c = session-asks c.args.conn c.args.text.now _ _ c.in_ok-messages.ensures.ok c.starting.ensures
