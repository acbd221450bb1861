use Rattle.std.proofs.Common.{inr, refl}
use Rattle.std.proofs.lemmas.Result.{err_from_is_err_and}
use Rattle.open_options.specs.Seen.{path_seen}
use Rattle.open_options.proofs.Elements.{path-refused, path_text-names, path_text-all}
use Rattle.open_options.proofs.path.read_path.Goals as goal

pub returns-in_err-read-clause-err : goal.returns-in_err-read-clause-err
returns-in_err-read-clause-err c =
    let p = err_from_is_err_and c.from_residual.result c.from_residual.ensures.1 in
    rw (p.1, p.2) (path-refused c.args.text.now c.in_err-read.field-0.0 c.in_err-read.ensures.err)

pub returns-then-read-clause-err : goal.returns-then-read-clause-err
returns-then-read-clause-err c = inr (refl, path_text-all c.args.text.now (path_seen c.in_ok-read.read) c.in_ok-read.ensures.ok c.if-read.true)

pub returns-clause-ok : goal.returns-clause-ok
returns-clause-ok c = path_text-names c.args.text.now (path_seen c.in_ok-read.read) c.in_ok-read.ensures.ok c.if-read.false
