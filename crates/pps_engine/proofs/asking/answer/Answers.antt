use Rattle.std.proofs.Common.{sym, inl}
use Rattle.service_state.specs.Tables.{content_in}
use Rattle.pps_engine.proofs.EventLists.{not_attached, attached_done, attached_fails, ok_behind, err_behind}
use Rattle.pps_engine.proofs.asking.answer.Goals as goal

pub returns-then-not-is_attached-clause-err : goal.returns-then-not-is_attached-clause-err
returns-then-not-is_attached-clause-err c = inl (not_attached (content_in c.args.tables.now) c.args.event.now (sym c.if-is_attach.ensures) (sym c.if-not-is_attached.ensures))

pub returns-clause-ok : goal.returns-clause-ok
returns-clause-ok c =
    ok_behind (attached_done (content_in c.args.tables.now) c.args.event.now (sym c.if-is_attach.ensures) (sym c.if-not-is_attached.ensures) c.ask.new.tables) c.ask.result c.ask.ensures.ok

pub returns-clause-err : goal.returns-clause-err
returns-clause-err c =
    err_behind (attached_fails (content_in c.args.tables.now) c.args.event.now (sym c.if-is_attach.ensures) (sym c.if-not-is_attached.ensures)) c.ask.result c.ask.ensures.err
