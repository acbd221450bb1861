use Rattle.std.proofs.lemmas.Result.{err_from_is_err_and}
use Rattle.pps_types.proofs.Cuts.{length-behind}
use Rattle.pps_dispatch.proofs.Lines.{line-so_far, line-bad, empty-read, last-read, last-bad}
use Rattle.pps_dispatch.proofs.scripts.asked_messages.Goals as goal

pub returns-in_err-push_line-clause-err : goal.returns-in_err-push_line-clause-err
returns-in_err-push_line-clause-err c =
    let p = err_from_is_err_and c.from_residual.result c.from_residual.ensures.1 in
    rw (p.1, p.2)
    (line-bad c.args.conn c.args.text.now c.lines.rest.now c.in-Some.line.now c.in-Some.behind.now c.lines.messages.items c.lines.number c.in-Some.ensures c.lines.invariant
    c.in_err-push_line.field-0.0 c.in_err-push_line.ensures.err)

pub lines-smaller : goal.lines-smaller
lines-smaller c = length-behind 10 c.lines.rest.now c.in-Some.line.now c.in-Some.behind.now c.in-Some.ensures

pub lines-preserved : goal.lines-preserved
lines-preserved c =
    line-so_far c.args.conn c.args.text.now c.lines.rest.now c.in-Some.line.now c.in-Some.behind.now c.lines.messages.items c.lines.number c.in-Some.ensures c.lines.invariant
    c.push_line.new.messages.items c.saturating_add-number.result c.saturating_add-number.ensures c.in_ok-push_line.ensures.ok

pub returns-then-is_empty-clause-ok : goal.returns-then-is_empty-clause-ok
returns-then-is_empty-clause-ok c =
    empty-read c.args.conn c.args.text.now c.lines.rest.now c.lines.messages.items c.lines.number c.in_default.ensures c.lines.invariant
    c.is_empty.result c.is_empty.ensures c.if-is_empty.true

pub returns-in_err-push_line-2-clause-err : goal.returns-in_err-push_line-2-clause-err
returns-in_err-push_line-2-clause-err c =
    let p = err_from_is_err_and c.from_residual-in_err-push_line-2.result c.from_residual-in_err-push_line-2.ensures.1 in
    rw (p.1, p.2)
    (last-bad c.args.conn c.args.text.now c.lines.rest.now c.lines.messages.items c.lines.number c.in_default.ensures c.lines.invariant
    c.is_empty.result c.is_empty.ensures c.if-is_empty.false c.in_err-push_line-2.field-0.0 c.in_err-push_line-2.ensures.err)

pub returns-clause-ok : goal.returns-clause-ok
returns-clause-ok c =
    last-read c.args.conn c.args.text.now c.lines.rest.now c.lines.messages.items c.lines.number c.in_default.ensures c.lines.invariant
    c.is_empty.result c.is_empty.ensures c.if-is_empty.false c.push_line-2.new.messages.items c.in_ok-push_line-2.ensures.ok
