-- What a job does with a script.
use Rattle.std.specs.Prelude.{◌≡◌, ℕ, List, Bool, false, Option, Result, Ok, Err}
use Rattle.pps_types.specs.Content.{Content}
use Rattle.pps_types.specs.Device.{device_inner, device_failed, device_reads, device_stalls}
use Rattle.pps_types.specs.declared.exchange.Exchange.{Exchange}
use Rattle.pps_types.specs.Exchange.{input_of, output_of}
use Rattle.pps_script.specs.declared.manner.Manner.{Manner}
use Rattle.pps_script.specs.Served.{AnswersAll, AnswersUntil, AnswersWhole, AnswersFirst, FaultsAre}
use Rattle.pps_script.specs.declared.fault.ScriptFault.TheVariants.{ReadFault, WriteFault}
use Rattle.pps_jobs.specs.declared.fault.Fault.{Fault}
use Rattle.pps_jobs.specs.declared.fault.Fault.TheVariants.{BadLine, CannotReadInput, CannotWriteOutput}

-- All lines are answered, or those before the first bad one, whose number is told; or, where no more can be read, all that
-- came whole; or, at another fault, the first ones. The bad lines that it goes on after are reported as far.
abbrev pub RunsScript : {X : Type 0} → Manner → (List ℕ → Type 0) → (from to before after : Option (List ℕ)) → Content → Content → Result X Fault → Type 0
RunsScript how Reported from to before after old new (Ok done) = AnswersAll how Reported from to before after old new
RunsScript how Reported from to before after old new (Err (BadLine line)) = AnswersUntil how Reported line from to before after old new
RunsScript how Reported from to before after old new (Err CannotReadInput) = AnswersWhole how Reported from to before after old new
RunsScript how Reported from to before after old new (Err _) = AnswersFirst how Reported from to before after old new

-- A fault of the input or of the output is told where the device had it, and nowhere else.
abbrev pub ScriptFaultsAre : {X : Type 0} → Result X Fault → (read_failed write_failed : Bool) → (reads_old reads_new stalls_old stalls_new : ℕ) → Type 0
ScriptFaultsAre {X} (Err CannotReadInput) r w reads_old reads_new stalls_old stalls_new = FaultsAre {X = X} (Err ReadFault) r w reads_old reads_new stalls_old stalls_new
ScriptFaultsAre {X} (Err CannotWriteOutput) r w reads_old reads_new stalls_old stalls_new = FaultsAre {X = X} (Err WriteFault) r w reads_old reads_new stalls_old stalls_new
ScriptFaultsAre _ r w reads_old reads_new stalls_old stalls_new = (r ≡ false) × (w ≡ false)

-- ---- over an exchange

-- what became of a script that came in over it
abbrev pub RunsScriptOver : {R W X : Type 0} → (R → Option (List ℕ)) → (W → Option (List ℕ)) → Manner
    → (List ℕ → Type 0) → (from to : Exchange R W) → Content → Content → Result X Fault → Type 0
RunsScriptOver remaining contents how Reported from to old new result =
    RunsScript how Reported
    (remaining (device_inner (input_of from))) (remaining (device_inner (input_of to)))
    (contents (device_inner (output_of from))) (contents (device_inner (output_of to)))
    old new result

-- a fault of the input or of the output is answered only where its devices had it
abbrev pub AnswersScriptFault : {R W X : Type 0} → (from to : Exchange R W) → Result X Fault → Type 0
AnswersScriptFault from to result =
    ScriptFaultsAre result
    (device_failed (input_of to)) (device_failed (output_of to))
    (device_reads (input_of from)) (device_reads (input_of to))
    (device_stalls (output_of from)) (device_stalls (output_of to))
