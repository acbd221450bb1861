use Rattle.std.proofs.lemmas.Result.{err_from_is_err_and}
use Rattle.pps_types.specs.declared.event.Request.TheVariants.{List as ListRequest}
use Rattle.service_state.specs.Tables.{content_in}
use Rattle.pps_engine.proofs.EventLists.{fails_in_all}
use Rattle.pps_engine.proofs.requests.list.Goals as goal

pub returns-in_err-reply-clause-err : goal.returns-in_err-reply-clause-err
returns-in_err-reply-clause-err c =
    let p = err_from_is_err_and c.from_residual.result c.from_residual.ensures.1 in
    rw (p.1, p.2) (fails_in_all (content_in c.args.tables.now) c.args.conn (ListRequest c.args.path.now) _ c.in_err-reply.ensures.err)
