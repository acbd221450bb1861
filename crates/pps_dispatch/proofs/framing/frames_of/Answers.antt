use Rattle.std.proofs.Common.{◌++◌, map, ap, ◌∙◌}
use Rattle.pps_types.specs.Frame.{answer_frame}
use Rattle.pps_types.specs.Merge.{entries_of}
use Rattle.pps_dispatch.specs.History.{joined, frames_for}
use Rattle.pps_dispatch.specs.Named.{entry_named}
use Rattle.pps_dispatch.proofs.Names.{names-next, some-next, found-next}
use Rattle.pps_dispatch.proofs.FramesMade.{frames-next, frames-end}
use Rattle.pps_dispatch.proofs.framing.frames_of.Goals as goal

pub entry_at-entry-requires : goal.entry_at-entry-requires
entry_at-entry-requires c =
    let segments = c.args.segments.now in
    let entries = entries_of c.args.session.now.connection (joined segments) in
    let names = ap (map (entry_named segments)) c.receipts-name-items.ensures ∙ c.requires in
    some-next segments entries c.loop-name.name-index _
    (names-next segments c.receipts-name-items.result.now entries c.loop-name.name-index record { segment = 0; index = 0 } names c.loop-name-test.true)

pub loop-name-preserved : goal.loop-name-preserved
loop-name-preserved c =
    let segments = c.args.segments.now in
    let entries = entries_of c.args.session.now.connection (joined segments) in
    let names = ap (map (entry_named segments)) c.receipts-name-items.ensures ∙ c.requires in
    let made = c.loop-name.frames.items in
    let entry = c.entry_at-entry.result.now in
    frames-next (frames_for c.args.session.now.connection (joined segments)) made c.extend_from_slice.new.self.items entries c.loop-name.name-index entry c.loop-name.invariant
    (found-next segments entries c.loop-name.name-index _ entry
    (names-next segments c.receipts-name-items.result.now entries c.loop-name.name-index record { segment = 0; index = 0 } names c.loop-name-test.true)
    c.entry_at-entry.ensures.named)
    (c.in_ok-extend_from_slice.ensures.items ∙ ap (λ f. made ++ f) (c.as_slice.ensures.value ∙ c.in_ok-frame.ensures.ok)
    ∙ ap (λ e. made ++ answer_frame e.conn c.reply.result.now) c.event.ensures ∙ ap (λ r. made ++ answer_frame entry.event.conn r) c.reply.ensures)

pub returns : goal.returns
returns c =
    let segments = c.args.segments.now in
    let entries = entries_of c.args.session.now.connection (joined segments) in
    let names = ap (map (entry_named segments)) c.receipts-name-items.ensures ∙ c.requires in
    frames-end segments c.receipts-name-items.result.now (frames_for c.args.session.now.connection (joined segments)) c.loop-name.frames.items entries c.loop-name.name-index
    names c.loop-name-test.false c.loop-name.invariant
