use Rattle.std.proofs.Common.{subst, ap, ◌∙◌}
use Rattle.std.proofs.lemmas.List.{take_all}
use Rattle.std.proofs.lemmas.Result.{err_from_is_err_and}
use Rattle.pps_types.specs.Device.{device_inner}
use Rattle.pps_types.specs.Writing.{SendsPart}
use Rattle.pps_types.proofs.KnownBytes.{keeps_itself}
use Rattle.pps_types.proofs.Writing.{part-none}
use Rattle.pps_dispatch.specs.History.{joined}
use Rattle.pps_dispatch.specs.Printed.{history_text}
use Rattle.pps_dispatch.proofs.Texts.{history-segment}
use Rattle.pps_dispatch.proofs.printed_history.write_history.Goals as goal

pub returns-in_err-push_connections-clause-bytes : goal.returns-in_err-push_connections-clause-bytes
returns-in_err-push_connections-clause-bytes g c =
    let p = err_from_is_err_and c.from_residual.result c.from_residual.ensures.1 in
    let before = g.W.Write.contents (device_inner c.args.output.now) in
    rw p.1 (part-none before before (history_text (joined c.args.segments.now)) (keeps_itself before))

pub loop-segment-preserved : goal.loop-segment-preserved
loop-segment-preserved g c =
    history-segment c.args.segments.now c.loop-segment.segment-index c.segment-item.result c.entries.result.now c.loop-segment.text.items c.push_connections.new.out.items
    c.loop-segment-test.true c.segment-item.is c.loop-segment.invariant c.in_ok-push_connections.ensures c.entries.ensures

pub returns-in_err-write_all-clause-bytes : goal.returns-in_err-write_all-clause-bytes
returns-in_err-write_all-clause-bytes g c =
    let p = err_from_is_err_and c.from_residual-in_err-write_all.result c.from_residual-in_err-write_all.ensures.1 in
    let contents = g.W.Write.contents in
    let whole = c.as_slice.ensures.value ∙ c.loop-segment.invariant
    ∙ ap (λ ps. history_text (joined ps)) (take_all c.loop-segment.segment-index c.args.segments.now c.loop-segment-test.false) in
    rw p.1
    (subst (λ t. SendsPart (contents (device_inner c.args.output.now)) (contents (device_inner c.write_all.new.self)) t) whole c.in_err-write_all.ensures.bytes)
