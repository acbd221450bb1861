use Rattle.std.proofs.Common.{refl, sym, ap, ◌∙◌, inl}
use Rattle.pps_types.specs.declared.event.Request.TheVariants.{Write}
use Rattle.pps_types.specs.declared.refusal.Refusal.TheVariants.{NotAttached}
use Rattle.service_state.specs.Tables.{content_in}
use Rattle.pps_engine.specs.Events.{is_attach}
use Rattle.pps_engine.proofs.AtOnce.{refused-step, served-done, served-refused}
use Rattle.pps_engine.proofs.EventLists.{not_attached}
use Rattle.pps_engine.proofs.at_once.take_write.Goals as goal

pub returns-then-not-is_attached : goal.returns-then-not-is_attached
returns-then-not-is_attached c =
    refused-step (content_in c.args.tables.now) c.args.event.now NotAttached c.requires.sound
    (inl (not_attached (content_in c.args.tables.now) c.args.event.now (ap is_attach c.requires.request) (sym c.if-not-is_attached.ensures)))

pub finish-requires-clause-done : goal.finish-requires-clause-done
finish-requires-clause-done c =
    served-done c.args.tables.now c.write-asked.new.tables c.args.event.now (Write c.args.handle c.args.bytes.now) c.write-asked.result c.requires.request refl (sym c.if-not-is_attached.ensures)
    c.write-asked.ensures.content c.write-asked.ensures.ok

pub finish-requires-clause-refused : goal.finish-requires-clause-refused
finish-requires-clause-refused c =
    served-refused c.args.tables.now c.write-asked.new.tables c.args.event.now (Write c.args.handle c.args.bytes.now) c.write-asked.result c.requires.request refl (sym c.if-not-is_attached.ensures)
    c.write-asked.ensures.content c.write-asked.ensures.err
