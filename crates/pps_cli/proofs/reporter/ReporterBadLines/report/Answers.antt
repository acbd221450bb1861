use Rattle.std.proofs.Common.{refl}
use Rattle.pps_cli.proofs.reporter.ReporterBadLines.report.Goals as goal

pub returns : goal.returns
returns g c = record {
  outcome = c.write_report.result;
  sends = c.write_report.ensures.bytes;
  fault = c.write_report.ensures.fault;
  same = refl;
}
