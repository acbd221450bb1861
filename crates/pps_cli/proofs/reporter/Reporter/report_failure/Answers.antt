use Rattle.std.proofs.Common.{refl}
use Rattle.pps_cli.proofs.reporter.Reporter.report_failure.Goals as goal

pub returns-clause-written : goal.returns-clause-written
returns-clause-written g c = record {
  outcome = c.write_report.result;
  sends = c.write_report.ensures.bytes;
  fault = c.write_report.ensures.fault;
  same = refl;
}
