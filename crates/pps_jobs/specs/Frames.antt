-- What a job does with a stream of requests.
use Rattle.std.specs.Prelude.{◌≡◌, ℕ, List, Bool, false, Option, Result, Ok, Err}
use Rattle.pps_types.specs.Content.{Content}
use Rattle.pps_frame.specs.Served.{AnswersAll, AnswersWhole, Stops, FaultsAre}
use Rattle.frame_codec.specs.declared.ends.Ended.TheVariants.{Clean, Malformed, Truncated}
use Rattle.pps_frame.specs.declared.ends.RunError.TheVariants.{ReadFault, WriteFault}
use Rattle.pps_jobs.specs.declared.fault.Fault.{Fault}
use Rattle.pps_jobs.specs.declared.fault.Fault.TheVariants.{CannotReadInput, CannotWriteOutput, MalformedFrame, CutFrame}

-- All requests are answered, and the end is reported as it was; or, if no more can be read, all that came whole are; or, at
-- another fault, the first ones.
abbrev pub ServesStream : {X : Type 0} → (from to before after : Option (List ℕ)) → Content → Content → Result X Fault → Type 0
ServesStream from to before after old new (Ok done) = AnswersAll from to before after old new Clean
ServesStream from to before after old new (Err MalformedFrame) = AnswersAll from to before after old new Malformed
ServesStream from to before after old new (Err CutFrame) = AnswersAll from to before after old new Truncated
ServesStream from to before after old new (Err CannotReadInput) = AnswersWhole from to before after old new
ServesStream from to before after old new (Err _) = Stops from to before after old new

-- A fault of the input or of the output is told where the device had it, and nowhere else.
abbrev pub DeviceFaults : {X : Type 0} → Result X Fault → (read_failed write_failed : Bool) → (reads_old reads_new stalls_old stalls_new : ℕ) → Type 0
DeviceFaults (Err CannotReadInput) r w reads_old reads_new stalls_old stalls_new = FaultsAre (Err ReadFault) r w reads_old reads_new stalls_old stalls_new
DeviceFaults (Err CannotWriteOutput) r w reads_old reads_new stalls_old stalls_new = FaultsAre (Err WriteFault) r w reads_old reads_new stalls_old stalls_new
DeviceFaults _ r w reads_old reads_new stalls_old stalls_new = (r ≡ false) × (w ≡ false)
