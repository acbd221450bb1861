use Rattle.std.proofs.lemmas.Result.{err_from_is_err_and}
use Rattle.pps_persist.proofs.Taken.{object-is, adds-within, line-fault}
use Rattle.pps_persist.proofs.lines.take_within.Goals as goal

pub take_attribute-requires-clause-loaded : goal.take_attribute-requires-clause-loaded
take_attribute-requires-clause-loaded c = object-is c.args.loaded c.args.object c.requires.place

pub returns-in_err-loaded : goal.returns-in_err-loaded
returns-in_err-loaded c =
    let p = err_from_is_err_and c.from_residual.result c.from_residual.ensures.1 in
    rw (p.1, p.2) (line-fault c.args.line.now c.args.loaded c.args.object c.in_err-loaded.field-0.0 c.in_err-loaded.ensures)

pub returns : goal.returns
returns c = λ lines w. c.in_object.ensures _ (adds-within c.args.line.now c.args.loaded c.args.object c.in_ok-loaded.loaded c.in_ok-loaded.object c.in_ok-loaded.ensures lines w.0 w.1)
