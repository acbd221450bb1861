use Rattle.std.proofs.Common.{[], subst}
use Rattle.std.proofs.lemmas.Result.{err_from_is_err_and}
use Rattle.pps_types.specs.Device.{device_inner}
use Rattle.pps_types.specs.Writing.{SendsPart}
use Rattle.pps_jobs.proofs.TextsWritten.{writes-part}
use Rattle.pps_jobs.proofs.wording.write_texts.Goals as goal

pub returns-in_err-write_all-clause-bytes : goal.returns-in_err-write_all-clause-bytes
returns-in_err-write_all-clause-bytes g c =
    let p = err_from_is_err_and c.from_residual.result c.from_residual.ensures.1 in
    let before = g.E.Write.contents (device_inner c.texts.errors) in
    let after = g.E.Write.contents (device_inner c.write_all.new.self) in
    rw p.1
    (writes-part c.args.texts.now c.texts.text-index record { ref_ptr = (0, 0); now = [] } c.texts-test.true _ before after c.texts.invariant.written
    (subst (λ t. SendsPart before after t) c.as_bytes.ensures.value c.in_err-write_all.ensures.bytes))
