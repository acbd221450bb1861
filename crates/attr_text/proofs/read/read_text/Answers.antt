use Rattle.std.proofs.Common.{arith, Some, None, sym, ap, ◌∙◌}
use Rattle.std.proofs.lemmas.Result.{err_from_is_err_and}
use Rattle.pps_types.specs.Text.{with_header}
use Rattle.attr_text.proofs.Reading.{header-leaves, write_text-parts, write_text-plain, text-refused}
use Rattle.attr_text.proofs.read.read_text.Goals as goal

pub returns-in_err-lines-clause-err : goal.returns-in_err-lines-clause-err
returns-in_err-lines-clause-err c =
    let p = err_from_is_err_and c.from_residual.result c.from_residual.ensures.1 in
    let is = write_text-plain c.args.bytes.now (sym c.in_default.ensures) in
    rw (p.1, p.2) (text-refused c.args.bytes.now None 1 c.args.bytes.now _ is c.in_err-lines.ensures.err)

pub returns-in_default-clause-ok : goal.returns-in_default-clause-ok
returns-in_default-clause-ok c = write_text-plain c.args.bytes.now (sym c.in_default.ensures) ∙ ap (with_header None) c.in_ok-lines.ensures.ok

pub read_lines-requires-2 : goal.read_lines-requires-2
read_lines-requires-2 c =
    omega (arith, header-leaves c.args.bytes.now c.in-Some.behind.now c.first_line.result.0.now c.first_line.result.1.now (sym c.in-Some.ensures) c.first_line.ensures)

pub returns-in_err-lines-2-clause-err : goal.returns-in_err-lines-2-clause-err
returns-in_err-lines-2-clause-err c =
    let p = err_from_is_err_and c.from_residual-in_err-lines-2.result c.from_residual-in_err-lines-2.ensures.1 in
    let is = write_text-parts c.args.bytes.now c.in-Some.behind.now c.first_line.result.0.now c.first_line.result.1.now (sym c.in-Some.ensures) c.first_line.ensures in
    rw (p.1, p.2) (text-refused c.args.bytes.now (Some c.first_line.result.0.now) 2 c.first_line.result.1.now _ is c.in_err-lines-2.ensures.err)

pub returns-clause-ok : goal.returns-clause-ok
returns-clause-ok c =
    let is = write_text-parts c.args.bytes.now c.in-Some.behind.now c.first_line.result.0.now c.first_line.result.1.now (sym c.in-Some.ensures) c.first_line.ensures in
    rw c.in_ok-header.ensures (is ∙ ap (with_header (Some c.first_line.result.0.now)) c.in_ok-lines-2.ensures.ok)
