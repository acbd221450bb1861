use Rattle.std.proofs.Common.{refl, inr}
use Rattle.pps_filter.proofs.Plain.{filter_text-comma}
use Rattle.pps_filter.proofs.read.read_filter.Goals as goal

pub returns-in-Some-clause-err : goal.returns-in-Some-clause-err
returns-in-Some-clause-err c =
    let piece = c.first_plain_piece.result.0.now in
    let bs = c.args.bytes.now in
    let pieces = rw c.in-Some.is at c.first_plain_piece.ensures.pieces in
    inr (refl, filter_text-comma piece c.in-Some.field-0.now bs pieces)
