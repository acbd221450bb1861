use Rattle.pps_engine.proofs.EventLists.{ok_behind}
use Rattle.pps_engine.proofs.Parts.{receives}
use Rattle.pps_engine.proofs.requests.ask_receive.Goals as goal

pub returns-clause-ok : goal.returns-clause-ok
returns-clause-ok c =
    ok_behind (receives c.events_are_settled.ensures c.args.tables.now c.numbers_are_within.ensures c.args.conn c.receive.ensures.passes) c.receive.result c.receive.ensures.ok
