use Rattle.std.proofs.lemmas.Result.{err_from_is_err_and}
use Rattle.pps_script.proofs.Reported.{each-first}
use Rattle.pps_script.proofs.Texts.{kept-not}
use Rattle.pps_script.proofs.session.Session.begin.Goals as goal

pub returns-in_err-extend_from_slice-clause-runs : goal.returns-in_err-extend_from_slice-clause-runs
returns-in_err-extend_from_slice-clause-runs g c =
    let p = err_from_is_err_and c.from_residual-in_err-extend_from_slice.result c.from_residual-in_err-extend_from_slice.ensures.1 in
    rw (p.1, p.2) (kept-not _ _ _ _ _ _ _ _ _ c.args.piece.now _ c.in_ok-rest.ensures.serves)

pub returns-in_err-extend_from_slice-clause-reports : goal.returns-in_err-extend_from_slice-clause-reports
returns-in_err-extend_from_slice-clause-reports g c =
    let p = err_from_is_err_and c.from_residual-in_err-extend_from_slice.result c.from_residual-in_err-extend_from_slice.ensures.1 in
    rw p.1 (each-first _ _ _ _ c.in_ok-rest.ensures.reports)
