-- What is reported of what became of a job.
use Rattle.std.specs.Prelude.{◌≡◌, ℕ, Bool, true, List, Option, Result, Ok, Err}
use Rattle.pps_types.specs.Writing.{SendsTo, FailsWithDevice}
use Rattle.pps_types.specs.declared.device.WriteFault.{WriteFault}
use Rattle.pps_jobs.specs.declared.fault.Failure.{Failure}
use Rattle.pps_jobs.specs.declared.fault.Failure.TheVariants as failures
use Rattle.pps_jobs.specs.declared.fault.Fault.TheVariants.{BadLine}
use Rattle.pps_jobs.specs.Wording.{report_of}
use Rattle.pps_cli.specs.declared.reporter.Reporter.{Reporter}

-- A failure's line was written, and where advice is wanted the one that may help; or a beginning of
-- them, if the writer failed, or once took none of some bytes.
pub record Writes {E : Type 0} (contents : E → Option (List ℕ)) (advised : Bool) (failure : Failure)
    (old new : Reporter E) : Type 0 where
  pub outcome : Result (Unit {0}) WriteFault
  pub sends : SendsTo contents old.errors new.errors (report_of advised failure) outcome
  pub fault : FailsWithDevice old.errors new.errors outcome
  pub same : new.on_terminal ≡ old.on_terminal

-- on a terminal with advice
abbrev pub Reports : {E : Type 0} → (E → Option (List ℕ)) → Failure → (old new : Reporter E) → Type 0
Reports contents failure old new = Writes contents old.on_terminal failure old new

-- of a bad line always with advice: what a line looks like
abbrev pub ReportsBadLine : {E : Type 0} → (E → Option (List ℕ)) → Reporter E → (line : ℕ)
    → Reporter E → Type 0
ReportsBadLine contents old line new = Writes contents true (failures.Fault (BadLine line)) old new

-- a failure is reported, and nothing of what was done whole
abbrev pub ReportsOutcome : {E X : Type 0} → (E → Option (List ℕ)) → Result X Failure
    → (old new : Reporter E) → Type 0
ReportsOutcome contents (Ok done) old new = new ≡ old
ReportsOutcome contents (Err failure) old new = Reports contents failure old new
