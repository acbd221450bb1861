use Rattle.std.proofs.Common.{sym, subst}
use Rattle.pps_types.specs.declared.event.Request.TheVariants.{Receive}
use Rattle.pps_engine.specs.declared.doing.Doing.{Doing}
use Rattle.pps_engine.specs.Events.{Serves}
use Rattle.pps_engine.proofs.Parts.{taken_item, taken_else}
use Rattle.pps_engine.proofs.requests.receive.Goals.{in-Item, in_default}
use Rattle.pps_engine.proofs.requests.receive.Goals as goal

pub returns-clause-ok : goal.returns-clause-ok
returns-clause-ok c =
    let serves = λ (doing : Doing). Serves c.args.tables.now c.args.conn Receive c.args.tables.now (record { reply = c.in_ok-reply.reply; doing = doing }) in
    elim c.match-reply.branch [
      | in-Item w ↦ rw w.doing-is (subst serves (taken_item c.args.conn c.in_ok-reply.reply _ w.in-Item.is) c.in_ok-reply.ensures.ok)
      | in_default w ↦ rw w.doing-is (subst serves (taken_else c.args.conn c.in_ok-reply.reply w.in_default.not-Item) c.in_ok-reply.ensures.ok)
    ]
