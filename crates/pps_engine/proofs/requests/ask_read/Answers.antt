use Rattle.pps_types.specs.declared.event.Request.TheVariants.{Read}
use Rattle.service_state.specs.Tables.{content_in}
use Rattle.pps_engine.proofs.EventLists.{err_behind, fails_in_all}
use Rattle.pps_engine.proofs.requests.ask_read.Goals as goal

pub returns-clause-err : goal.returns-clause-err
returns-clause-err c = err_behind (fails_in_all (content_in c.args.tables.now) c.args.conn (Read c.args.handle c.args.size)) c.read.result c.read.ensures.err
