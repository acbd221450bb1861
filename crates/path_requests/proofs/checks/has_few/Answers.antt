use Rattle.std.proofs.Common.{length, ap, arith}
use Rattle.std.proofs.lemmas.Bool.{ltb-true}
use Rattle.name_table.specs.Standing.{named_content}
use Rattle.path_requests.proofs.Few.{few_objects}
use Rattle.path_requests.proofs.checks.has_few.Goals as goal

pub returns-in-Ok : goal.returns-in-Ok
returns-in-Ok c = λ yes. omega (arith, ltb-true c.len.result 256 yes, c.len.ensures, ap length c.in-Ok.ensures.ok, few_objects (named_content c.args.names.now) c.args.directory.now)
