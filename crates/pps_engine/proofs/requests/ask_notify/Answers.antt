use Rattle.service_state.specs.Tables.{content_in}
use Rattle.handle_requests.specs.Notices.{notify_of}
use Rattle.pps_engine.proofs.EventLists.{err_behind, fails_in_all}
use Rattle.pps_engine.proofs.requests.ask_notify.Goals as goal

pub returns-clause-err : goal.returns-clause-err
returns-clause-err c = err_behind (fails_in_all (content_in c.args.tables.now) c.args.conn (notify_of c.args.handle c.args.action c.args.pulse)) c.notify.result c.notify.ensures.err
