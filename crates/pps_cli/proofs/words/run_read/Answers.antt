use Rattle.std.specs.Prelude.{Ok, Err}
use Rattle.std.proofs.Common.{refl}
use Rattle.pps_cli.proofs.words.run_read.Goals as goal

-- all was done, and nothing but bad lines is reported
pub returns-in-Ok-run_as : goal.returns-in-Ok-run_as
returns-in-Ok-run_as g c = rw c.in-Ok.is (record {
  outcome = Ok c.in-Ok-run_as.field-0;
  between = c.run_as.new.bad_lines;
  does = c.in-Ok-run_as.ensures.does;
  files = tt;
  ends = refl;
  reported = refl;
})

-- a failure is reported behind them
pub returns-in-Err-run_as : goal.returns-in-Err-run_as
returns-in-Err-run_as g c = rw c.in-Ok.is (record {
  outcome = Err c.in-Err-run_as.failure;
  between = c.run_as.new.bad_lines;
  does = c.in-Err-run_as.ensures.does;
  files = c.in-Err-run_as.ensures.files;
  ends = c.report_failure-in-Err-run_as.ensures.status;
  reported = c.report_failure-in-Err-run_as.ensures.written;
})
