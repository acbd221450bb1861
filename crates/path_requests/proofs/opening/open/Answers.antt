use Rattle.std.specs.Prelude.{◌≡◌, true}
use Rattle.std.proofs.lemmas.Result.{err_from_is_err_and}
use Rattle.pps_types.specs.declared.event.Request.TheVariants.{Open as OpenRequest}
use Rattle.pps_types.specs.Checks.{reaches_memory}
use Rattle.service_state.specs.Tables.{content_in}
use Rattle.service_state.specs.Refused.{all_request_checks}
use Rattle.path_requests.specs.Planned.{moves_of}
use Rattle.path_requests.proofs.Passing.{does}
use Rattle.path_requests.proofs.Stepped.{ok_to, on_ok}
use Rattle.path_requests.proofs.opening.open.Goals as goal

pub returns-in_err-passed-clause-err : goal.returns-in_err-passed-clause-err
returns-in_err-passed-clause-err c =
    let p = err_from_is_err_and c.from_residual.result c.from_residual.ensures.1 in
    rw (p.1, p.2) (c.in_err-passed.ensures.err c.args.conn)

pub returns-clause-wants : goal.returns-clause-wants
returns-clause-wants c =
    on_ok c.prepared.result (reaches_memory (all_request_checks (content_in c.args.tables.now) c.args.conn (OpenRequest c.args.mode c.args.text.now)) ≡ true) (c.in_ok-passed.ensures.wants c.args.conn)

pub returns-clause-does : goal.returns-clause-does
returns-clause-does c =
    ok_to c.prepared.result _ _
    (λ o e. does c.args.tables.now c.args.mode c.in_ok-passed.passed.spec c.in_ok-passed.passed.way c.in_ok-passed.ensures.way c.args.conn c.args.text.now c.in_ok-passed.ensures.spec (moves_of o c.prepared.new.tables) e)
    c.prepared.ensures.moves
