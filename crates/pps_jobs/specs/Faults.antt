-- The exit statuses of faults and failures.
use Rattle.std.specs.Prelude.{ℕ, Result, Ok, Err}
use Rattle.command_line.specs.declared.fault.WordsFault.{WordsFault}
use Rattle.command_line.specs.declared.fault.WordsFault.TheVariants as words
use Rattle.pps_jobs.specs.declared.fault.Fault.{Fault}
use Rattle.pps_jobs.specs.declared.fault.Fault.TheVariants.{BadLine, BadCommandLine, OutOfMemory}
use Rattle.pps_jobs.specs.declared.fault.Failure.{Failure}
use Rattle.pps_jobs.specs.declared.fault.Failure.TheVariants as failures
use Rattle.pps_jobs.specs.declared.fault.Failure.TheVariants.{BadLineOf}

-- 1 a bad line of the script, 2 a bad command line, 3 whatever else
abbrev pub status_of : Fault → ℕ
status_of (BadLine line) = 1
status_of BadCommandLine = 2
status_of _ = 3

-- that of a fault, 1 a bad line of a script file, 3 whatever else
abbrev pub status_of_failure : Failure → ℕ
status_of_failure (failures.Fault fault) = status_of fault
status_of_failure (BadLineOf file line) = 1
status_of_failure _ = 3

-- 0 where all was done, else that of the failure
abbrev pub status_after : {X : Type 0} → Result X Failure → ℕ
status_after (Ok done) = 0
status_after (Err failure) = status_of_failure failure

-- what is wrong with the words of a command line
abbrev pub fault_of_words : WordsFault → Fault
fault_of_words words.BadCommandLine = BadCommandLine
fault_of_words words.OutOfMemory = OutOfMemory
