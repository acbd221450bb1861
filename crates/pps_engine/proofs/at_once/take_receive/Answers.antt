use Rattle.std.proofs.Common.{◌≡◌, refl, sym, ap, ◌∙◌, inl}
use Rattle.pps_types.specs.declared.event.Request.TheVariants.{Receive}
use Rattle.pps_types.specs.declared.refusal.Refusal.TheVariants.{NotAttached}
use Rattle.service_state.specs.Tables.{content_in}
use Rattle.pps_engine.specs.Events.{is_attach}
use Rattle.pps_types.specs.Plan.{apply_all_seen}
use Rattle.pps_engine.specs.declared.doing.Doing.{Doing}
use Rattle.pps_engine.specs.Doing.{moves_in}
use Rattle.pps_engine.specs.Parts.{taken, receiving}
use Rattle.pps_engine.proofs.Parts.{taken_item, taken_else, taken_settled}
use Rattle.pps_engine.proofs.AtOnce.{refused-step, untold-refused, untold-done}
use Rattle.pps_engine.proofs.EventLists.{not_attached}
use Rattle.pps_engine.proofs.at_once.take_receive.Goals.{in-Item, in_default}
use Rattle.pps_engine.proofs.at_once.take_receive.Goals as goal

pub returns-then-not-is_attached : goal.returns-then-not-is_attached
returns-then-not-is_attached c =
    refused-step (content_in c.args.tables.now) c.args.event.now NotAttached c.requires.sound
    (inl (not_attached (content_in c.args.tables.now) c.args.event.now (ap is_attach c.requires.request) (sym c.if-not-is_attached.ensures)))

pub returns-in-Err : goal.returns-in-Err
returns-in-Err c =
    untold-refused c.args.tables.now c.args.tables.now c.args.event.now Receive c.requires.request refl (sym c.if-not-is_attached.ensures)
    refl c.requires.sound c.in-Err.refusal c.in-Err.ensures.err

pub returns : goal.returns
returns c =
    let t = c.args.tables.now in
    let conn = c.args.event.now.conn in
    let carried = λ (doing : Doing). apply_all_seen (moves_in doing t) (content_in t) in
    let moved : content_in c.match-reply.tables ≡ carried (taken conn c.in-Ok.reply) = elim c.match-reply.branch [
      | in-Item w ↦ ap content_in w.tables-is ∙ w.take.ensures ∙ ap carried (sym (taken_item conn c.in-Ok.reply _ w.in-Item.is))
      | in_default w ↦ ap content_in w.tables-is ∙ ap carried (sym (taken_else conn c.in-Ok.reply w.in_default.not-Item))
    ] in
    untold-done t t c.args.event.now Receive c.requires.request refl (sym c.if-not-is_attached.ensures) refl c.requires.sound
    (receiving conn c.in-Ok.reply) (content_in c.match-reply.tables) c.in-Ok.ensures.ok (taken_settled (content_in t) conn c.in-Ok.reply c.nothing_follows.ensures) moved
