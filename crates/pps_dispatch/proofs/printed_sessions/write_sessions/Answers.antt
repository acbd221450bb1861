use Rattle.std.proofs.Common.{[], map, subst, ◌∙◌, arith}
use Rattle.std.specs.Io.KnownBytes.{Appends}
use Rattle.std.proofs.lemmas.List.{length-map}
use Rattle.std.proofs.lemmas.Result.{err_from_is_err_and}
use Rattle.pps_types.specs.Device.{device_inner}
use Rattle.pps_types.specs.Writing.{SendsPart}
use Rattle.pps_dispatch.specs.History.{joined}
use Rattle.pps_dispatch.proofs.Texts.{text-next, holds-next, part-of_next, part-so_far, whole-part, all-sent, sessions-end}
use Rattle.pps_dispatch.proofs.printed_sessions.write_sessions.Goals as goal

pub returns-in_err-text-clause-bytes : goal.returns-in_err-text-clause-bytes
returns-in_err-text-clause-bytes g c =
    let p = err_from_is_err_and c.from_residual.result c.from_residual.ensures.1 in
    rw p.1 (part-so_far _ _ _ _ c.loop-number.invariant.written)

pub returns-in_err-write_all-clause-bytes : goal.returns-in_err-write_all-clause-bytes
returns-in_err-write_all-clause-bytes g c =
    let p = err_from_is_err_and c.from_residual-in_err-write_all.result c.from_residual-in_err-write_all.ensures.1 in
    let contents = g.W.Write.contents in
    let next = text-next c.args.files.now c.args.sessions.now (joined c.args.segments.now) c.loop-number.number record { ref_ptr = (0, 0); now = [] } c.index-sessions-number.result
    c.loop-number-test.true c.requires.files c.index-sessions-number.is in
    let sends = subst (λ t. SendsPart (contents (device_inner c.loop-number.output)) (contents (device_inner c.write_all.new.self)) t)
    (c.as_slice.ensures.value ∙ c.in_ok-text.ensures) c.in_err-write_all.ensures.bytes in
    rw p.1 (part-of_next _ _ _ _ _ _ _ c.loop-number.invariant.written next sends)

pub loop-number-preserved : goal.loop-number-preserved
loop-number-preserved g c =
    let contents = g.W.Write.contents in
    let next = text-next c.args.files.now c.args.sessions.now (joined c.args.segments.now) c.loop-number.number record { ref_ptr = (0, 0); now = [] } c.index-sessions-number.result
    c.loop-number-test.true c.requires.files c.index-sessions-number.is in
    let written = subst (λ t. Appends (contents (device_inner c.loop-number.output)) (contents (device_inner c.write_all.new.self)) t)
    (c.as_slice.ensures.value ∙ c.in_ok-text.ensures) c.in_ok-write_all.ensures.bytes in
    record {
      written = holds-next _ _ _ _ _ _ _ c.loop-number.invariant.written next written;
      failed = c.in_ok-write_all.ensures.fault.0 ∙ c.loop-number.invariant.failed;
      stalls = c.in_ok-write_all.ensures.fault.1 ∙ c.loop-number.invariant.stalls;
    }

pub returns-in_err-flush-clause-bytes : goal.returns-in_err-flush-clause-bytes
returns-in_err-flush-clause-bytes g c =
    let p = err_from_is_err_and c.from_residual-in_err-flush.result c.from_residual-in_err-flush.ensures.1 in
    let files = map (λ file. file.now) c.args.files.now in
    rw p.1
    (whole-part _ _ _
    (all-sent _ _ _ _ _ c.loop-number.invariant.written
    (sessions-end files _ (joined c.args.segments.now) c.loop-number.number (omega (arith, length-map c.args.files.now (λ file. file.now), c.loop-number-test.false)))
    c.flush.ensures.bytes))
