use Rattle.service_state.specs.Tables.{content_in}
use Rattle.handle_requests.specs.Own.{opened_as}
use Rattle.handle_requests.proofs.Asked.{short_told, result_fails, result_answered}
use Rattle.handle_requests.proofs.reading.answer_to.Goals as goal

pub returns-then-is_on_directory-clause-err : goal.returns-then-is_on_directory-clause-err
returns-then-is_on_directory-clause-err c = result_fails (content_in c.args.tables.now) c.args.conn c.args.handle c.args.size (opened_as c.args.tables.now c.in-Ok.asked.own) c.in-Ok.ensures.own c.in-Ok.ensures.reads c.in-Ok.ensures.size c.in-Ok.ensures.free
    (short_told (content_in c.args.tables.now) c.requires c.args.conn c.args.handle c.args.size) c.answer_of_directory.result c.answer_of_directory.ensures.err

pub returns-then-is_on_directory-clause-ok : goal.returns-then-is_on_directory-clause-ok
returns-then-is_on_directory-clause-ok c = result_answered (content_in c.args.tables.now) c.args.conn c.args.handle c.args.size (opened_as c.args.tables.now c.in-Ok.asked.own) c.in-Ok.ensures.own c.in-Ok.ensures.reads c.in-Ok.ensures.size c.in-Ok.ensures.free
    c.answer_of_directory.result c.answer_of_directory.ensures.ok

pub returns-clause-err : goal.returns-clause-err
returns-clause-err c = result_fails (content_in c.args.tables.now) c.args.conn c.args.handle c.args.size (opened_as c.args.tables.now c.in-Ok.asked.own) c.in-Ok.ensures.own c.in-Ok.ensures.reads c.in-Ok.ensures.size c.in-Ok.ensures.free
    (short_told (content_in c.args.tables.now) c.requires c.args.conn c.args.handle c.args.size) c.answer_of_object.result c.answer_of_object.ensures.err

pub returns-clause-ok : goal.returns-clause-ok
returns-clause-ok c = result_answered (content_in c.args.tables.now) c.args.conn c.args.handle c.args.size (opened_as c.args.tables.now c.in-Ok.asked.own) c.in-Ok.ensures.own c.in-Ok.ensures.reads c.in-Ok.ensures.size c.in-Ok.ensures.free
    c.answer_of_object.result c.answer_of_object.ensures.ok
