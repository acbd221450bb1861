use Rattle.std.proofs.Common.{refl, sym, ap, ◌∙◌, inl}
use Rattle.pps_types.specs.declared.refusal.Refusal.TheVariants.{NotAttached}
use Rattle.service_state.specs.Tables.{content_in}
use Rattle.handle_requests.specs.Notices.{notify_of}
use Rattle.pps_engine.specs.Events.{is_attach}
use Rattle.pps_engine.specs.Parts.{noticing}
use Rattle.pps_engine.proofs.AtOnce.{refused-step, untold-refused, untold-done}
use Rattle.pps_engine.proofs.EventLists.{not_attached}
use Rattle.pps_engine.proofs.at_once.take_notify.Goals as goal

pub returns-then-not-is_attached : goal.returns-then-not-is_attached
returns-then-not-is_attached c =
    refused-step (content_in c.args.tables.now) c.args.event.now NotAttached c.requires.sound
    (inl (not_attached (content_in c.args.tables.now) c.args.event.now (ap is_attach c.requires.request) (sym c.if-not-is_attached.ensures)))

pub returns-in-Err : goal.returns-in-Err
returns-in-Err c =
    untold-refused c.args.tables.now c.ask_notify.new.tables c.args.event.now (notify_of c.args.handle c.args.action c.args.pulse) c.requires.request refl (sym c.if-not-is_attached.ensures)
    c.in-Err.ensures.content c.requires.sound c.in-Err.refusal c.in-Err.ensures.err

pub returns : goal.returns
returns c =
    untold-done c.args.tables.now c.ask_notify.new.tables c.args.event.now (notify_of c.args.handle c.args.action c.args.pulse) c.requires.request refl (sym c.if-not-is_attached.ensures)
    c.in-Ok.ensures.content c.requires.sound (noticing c.args.event.now.conn c.args.handle c.in-Ok.notified) (content_in c.set_pulse.new.tables)
    c.in-Ok.ensures.ok c.nothing_follows.ensures c.set_pulse.ensures
