-- What a refusal says of a line.
use Rattle.std.specs.Prelude.{Result, Ok, Err}
use Rattle.pps_types.specs.declared.refusal.Refusal.{Refusal}
use Rattle.pps_types.specs.declared.refusal.Refusal.TheVariants as refusals
use Rattle.pps_persist.specs.declared.errors.Fault.{Fault}
use Rattle.pps_persist.specs.declared.errors.Fault.TheVariants as faults

-- want of memory says nothing of it
abbrev pub judged : {X : Type 0} → Result X Refusal → Result X Fault
judged (Ok x) = Ok x
judged (Err refusals.OutOfMemory) = Err faults.OutOfMemory
judged (Err r) = Err faults.Refused
