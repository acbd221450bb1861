use Rattle.std.proofs.Common.{◌++◌, map, ap, ◌∙◌, false}
use Rattle.script_text.specs.Answer.{answer_line}
use Rattle.pps_types.specs.Merge.{entries_of}
use Rattle.pps_dispatch.specs.History.{joined}
use Rattle.script_text.specs.Script.{answers_of}
use Rattle.pps_dispatch.specs.Named.{entry_named}
use Rattle.pps_dispatch.proofs.Names.{names-next, some-next, found-next}
use Rattle.pps_dispatch.proofs.Texts.{answers-next}
use Rattle.pps_dispatch.proofs.printed_sessions.print_answers.Goals as goal

pub entry_at-entry-requires : goal.entry_at-entry-requires
entry_at-entry-requires c =
    let segments = c.args.segments.now in
    let entries = entries_of c.args.session.now.connection (joined segments) in
    let names = ap (map (entry_named segments)) c.receipts-name-items.ensures ∙ c.requires in
    some-next segments entries c.loop-name.name-index _
    (names-next segments c.receipts-name-items.result.now entries c.loop-name.name-index record { segment = 0; index = 0 } names c.loop-name-test.true)

pub loop-name-preserved : goal.loop-name-preserved
loop-name-preserved c =
    let segments = c.args.segments.now in
    let entries = entries_of c.args.session.now.connection (joined segments) in
    let names = ap (map (entry_named segments)) c.receipts-name-items.ensures ∙ c.requires in
    let out = c.loop-name.out.items in
    let entry = c.entry_at-entry.result.now in
    answers-next (c.args.out.now.items ++ answers_of false entries) out c.print_answer.new.out.items entries c.loop-name.name-index entry c.loop-name.invariant
    (found-next segments entries c.loop-name.name-index _ entry
    (names-next segments c.receipts-name-items.result.now entries c.loop-name.name-index record { segment = 0; index = 0 } names c.loop-name-test.true)
    c.entry_at-entry.ensures.named)
    (c.in_ok-print_answer.ensures ∙ ap (λ e. out ++ answer_line e.conn c.reply.result.now) c.event.ensures ∙ ap (λ r. out ++ answer_line entry.event.conn r) c.reply.ensures)
