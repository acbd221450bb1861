-- What becomes of a command line: what it asks for is done, and the program ends with a status.
use Rattle.std.specs.Prelude.{◌≡◌, ℕ, List, Option, Result, Ok, Err, IfErr, IfOk, string_bytes}
use Rattle.std.specs.Io.KnownBytes.{Appends}
use Rattle.pps_types.specs.Device.{device_inner}
use Rattle.pps_types.specs.Exchange.{output_of, with_output}
use Rattle.pps_types.specs.Writing.{SendsPart, FailsWithDevice}
use Rattle.pps_types.specs.declared.exchange.Exchange.{Exchange}
use Rattle.pps_persist.specs.Files.{Replaced, ReplacesNone}
use Rattle.command_line.specs.declared.asked.Asked.{Asked}
use Rattle.command_line.specs.declared.asked.Asked.TheVariants.{Run, Frames, Serve, Text}
use Rattle.command_line.specs.declared.asked.ServeOptions.{ServeOptions}
use Rattle.command_line.specs.declared.fault.WordsFault.{WordsFault}
use Rattle.pps_jobs.specs.declared.fault.Fault.TheVariants.{CannotWriteOutput}
use Rattle.pps_jobs.specs.declared.fault.Failure.{Failure}
use Rattle.pps_jobs.specs.declared.fault.Failure.TheVariants as failures
use Rattle.pps_jobs.specs.Faults.{fault_of_words, status_of, status_after}
use Rattle.pps_jobs.specs.Images.{FailsWithFiles}
use Rattle.pps_jobs.specs.Jobs.{Does, IsUntouched, RunsOver, ServesOver, manner_of}
use Rattle.pps_script.specs.BadLines.{ReportsEach}
use Rattle.pps_cli.specs.Sessions.{Serves, TellsOutput}
use Rattle.pps_cli.specs.Reports.{Reports, ReportsBadLine, ReportsOutcome}
use Rattle.pps_cli.specs.declared.reporter.Reporter.{Reporter}
use Rattle.command_line.specs.Words.{AsksFor, Refuses}

-- ---- what is asked for

-- the bytes that the output of an exchange has, if they are known
abbrev pub written : {R W : Type 0} → (W → Option (List ℕ)) → Exchange R W → Option (List ℕ)
written contents exchange = contents (device_inner (output_of exchange))

-- nothing but the output is another
abbrev pub ChangesOutput : {R W : Type 0} → (from to : Exchange R W) → Type 0
ChangesOutput from to = to ≡ with_output from (output_of to)

-- The text was printed; or a beginning of it, if the output cannot be written.
abbrev pub PrintsText : {X : Type 0} → (bytes : List ℕ) → (before after : Option (List ℕ))
    → Result X Failure → Type 0
PrintsText bytes before after (Ok done) = Appends before after bytes
PrintsText bytes before after (Err failure) =
    SendsPart before after bytes × (failure ≡ failures.Fault CannotWriteOutput)

-- A text was printed, and nothing was read or saved. It fails only where the output did.
pub record Prints {R W X : Type 0} (contents : W → Option (List ℕ)) (bytes : List ℕ)
    (from to : Exchange R W) (old new : Option (List Replaced)) (outcome : Result X Failure)
    : Type 0 where
  pub printed : PrintsText bytes (written contents from) (written contents to) outcome
  pub fault : FailsWithDevice (output_of from) (output_of to) outcome
  pub only : ChangesOutput from to
  pub saved : ReplacesNone old new

-- script files were served, and nothing was read from the input
pub record ServesFiles {R W X : Type 0} (contents : W → Option (List ℕ))
    (held : List ℕ → Option (List ℕ)) (options : ServeOptions)
    (from to : Exchange R W) (old new : Option (List Replaced)) (outcome : Result X Failure)
    : Type 0 where
  pub serves : Serves held options (written contents from) (written contents to) old new outcome
  pub output : TellsOutput (output_of from) (output_of to) outcome
  pub only : ChangesOutput from to

-- What became of what is asked for. Nothing is reported but the bad lines of a script that goes on
-- after them.
abbrev pub DoesAsked : {R W B X : Type 0} → (R → Option (List ℕ)) → (W → Option (List ℕ))
    → (reports : B → ℕ → B → Type 0) → (held : List ℕ → Option (List ℕ)) → Asked
    → (from to : Exchange R W) → (old new : Option (List Replaced)) → (before after : B)
    → Result X Failure → Type 0
DoesAsked remaining contents reports held (Run options) from to old new before after outcome =
    Does held options.service
    (RunsOver remaining contents (manner_of options) (ReportsEach reports before after) from to)
    (IsUntouched from to before after) old new outcome
DoesAsked remaining contents reports held (Frames options) from to old new before after outcome =
    Does held options (ServesOver remaining contents from to) (to ≡ from) old new outcome
    × (after ≡ before)
DoesAsked remaining contents reports held (Serve options) from to old new before after outcome =
    ServesFiles contents held options from to old new outcome × (after ≡ before)
DoesAsked remaining contents reports held (Text text) from to old new before after outcome =
    Prints contents (string_bytes text) from to old new outcome × (after ≡ before)

-- ---- words

-- What was asked for was done or failed, and the program ends so. A file is said to fail only if it
-- may. Bad lines are reported first, and then a failure.
pub record EndsAfter {R W E : Type 0} (remaining : R → Option (List ℕ))
    (contents : W → Option (List ℕ)) (errors : E → Option (List ℕ))
    (held : List ℕ → Option (List ℕ)) (may_fail : List ℕ → Type 0) (asked : Asked)
    (from to : Exchange R W) (old new : Option (List Replaced)) (before after : Reporter E)
    (status : ℕ) : Type 0 where
  pub outcome : Result (Unit {0}) Failure
  pub between : Reporter E
  pub does : DoesAsked remaining contents (ReportsBadLine errors) held asked from to old new before
      between outcome
  pub files : IfErr outcome (FailsWithFiles held may_fail)
  pub ends : status ≡ status_after outcome
  pub reported : ReportsOutcome errors outcome between after

-- Words that are no command line ask for nothing, and nothing was done.
pub record EndsAtOnce {R W E : Type 0} (errors : E → Option (List ℕ)) (fault : WordsFault)
    (from to : Exchange R W) (old new : Option (List Replaced)) (before after : Reporter E)
    (status : ℕ) : Type 0 where
  pub same : to ≡ from
  pub saved : ReplacesNone old new
  pub ends : status ≡ status_of (fault_of_words fault)
  pub reported : Reports errors (failures.Fault (fault_of_words fault)) before after

-- what became of words that were read so
abbrev pub EndsAs : {R W E : Type 0} → (R → Option (List ℕ)) → (W → Option (List ℕ))
    → (errors : E → Option (List ℕ)) → (held : List ℕ → Option (List ℕ))
    → (may_fail : List ℕ → Type 0) → Result Asked WordsFault → (from to : Exchange R W)
    → (old new : Option (List Replaced)) → (before after : Reporter E) → ℕ → Type 0
EndsAs remaining contents errors held may_fail (Ok asked) from to old new before after status =
    EndsAfter remaining contents errors held may_fail asked from to old new before after status
EndsAs remaining contents errors held may_fail (Err fault) from to old new before after status =
    EndsAtOnce errors fault from to old new before after status

-- The words were read, and that became of them. A job is the one that they name; and they are refused
-- only if they are a bad command line, or memory was wanting.
pub record RunsWords {R W E : Type 0} (words : List (List ℕ)) (remaining : R → Option (List ℕ))
    (contents : W → Option (List ℕ)) (errors : E → Option (List ℕ))
    (held : List ℕ → Option (List ℕ)) (may_fail : List ℕ → Type 0) (from to : Exchange R W)
    (old new : Option (List Replaced)) (before after : Reporter E) (status : ℕ) : Type 0 where
  pub read : Result Asked WordsFault
  pub asks : IfOk read (AsksFor words)
  pub refused : IfErr read (Refuses words)
  pub ends : EndsAs remaining contents errors held may_fail read from to old new before after
      status
