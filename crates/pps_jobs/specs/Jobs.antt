-- What becomes of a job: a service begins, is used, and is saved, as the command line asks for it.
use Rattle.std.specs.Prelude.{◌≡◌, ◌⊎◌, ℕ, List, Option, Result, Ok, Err}
use Rattle.pps_types.specs.Content.{Content}
use Rattle.pps_types.specs.Device.{device_inner, device_failed, device_reads, device_stalls}
use Rattle.pps_types.specs.Exchange.{input_of, output_of}
use Rattle.pps_types.specs.Image.{image}
use Rattle.pps_types.specs.declared.exchange.Exchange.{Exchange}
use Rattle.pps_script.specs.declared.manner.Manner.{Manner}
use Rattle.pps_persist.specs.Files.{Replaced, ReplacesNone}
use Rattle.command_line.specs.Names.{saved_to}
use Rattle.command_line.specs.declared.asked.RunOptions.{RunOptions}
use Rattle.command_line.specs.declared.asked.ServiceOptions.{ServiceOptions}
use Rattle.pps_jobs.specs.declared.fault.Fault.{Fault}
use Rattle.pps_jobs.specs.declared.fault.Failure.{Failure}
use Rattle.pps_jobs.specs.declared.fault.Failure.TheVariants as failures
use Rattle.pps_jobs.specs.Frames.{ServesStream, DeviceFaults}
use Rattle.pps_jobs.specs.Images.{BeginsAs, FailsToBegin, IsSaved, FailsToSave}
use Rattle.pps_jobs.specs.Scripts.{RunsScript, ScriptFaultsAre}

-- ---- what a service is used for

-- from which state to which, and the fault that ended it, if one did
abbrev pub Use : Type 1
Use = Content → Content → Result (Unit {0}) Fault → Type 0

-- a script, over this exchange, where a list of bad lines may be all that are reported
abbrev pub RunsOver : {R W : Type 0} → (R → Option (List ℕ)) → (W → Option (List ℕ))
    → Manner → (List ℕ → Type 0) → (old new : Exchange R W) → Use
RunsOver remaining contents how Reported old new begun ended outcome =
    RunsScript how Reported
    (remaining (device_inner (input_of old))) (remaining (device_inner (input_of new)))
    (contents (device_inner (output_of old))) (contents (device_inner (output_of new)))
    begun ended outcome
    × ScriptFaultsAre outcome
    (device_failed (input_of new)) (device_failed (output_of new))
    (device_reads (input_of old)) (device_reads (input_of new))
    (device_stalls (output_of old)) (device_stalls (output_of new))

-- a stream of requests, over this exchange
abbrev pub ServesOver : {R W : Type 0} → (R → Option (List ℕ)) → (W → Option (List ℕ))
    → (old new : Exchange R W) → Use
ServesOver remaining contents old new begun ended outcome =
    ServesStream
    (remaining (device_inner (input_of old))) (remaining (device_inner (input_of new)))
    (contents (device_inner (output_of old))) (contents (device_inner (output_of new)))
    begun ended outcome
    × DeviceFaults outcome
    (device_failed (input_of new)) (device_failed (output_of new))
    (device_reads (input_of old)) (device_reads (input_of new))
    (device_stalls (output_of old)) (device_stalls (output_of new))

-- ---- jobs

-- nothing is read, written or reported
abbrev pub IsUntouched : {X B : Type 0} → (from to : X) → (before after : B) → Type 0
IsUntouched from to before after = (to ≡ from) × (after ≡ before)

-- how a script is served, as the command line asks for it
abbrev pub manner_of : RunOptions → Manner
manner_of options = record { show = options.show; patient = options.interactive }

-- A service began as it is asked for, and was used so, from its first state to its last.
pub record IsUsed (held : List ℕ → Option (List ℕ)) (options : ServiceOptions)
    (uses : Content → Content → Type 0) : Type 0 where
  pub begun : Content
  pub ended : Content
  pub begins : BeginsAs held options.beginning begun
  pub used : uses begun ended

-- It was used to its end. If it is to be saved, that file was replaced, once and by just the image
-- of its last state, and no other file was.
abbrev pub IsDone : (held : List ℕ → Option (List ℕ)) → ServiceOptions → Use
    → (old new : Option (List Replaced)) → Type 0
IsDone held options uses old new =
    IsUsed held options
    (λ begun ended. uses begun ended (Ok tt) × IsSaved (saved_to options) old new (image ended))

-- It does not begin, and all is as it was.
pub record NeverBegins (held : List ℕ → Option (List ℕ)) (options : ServiceOptions)
    (untouched : Type 0) (failure : Failure) : Type 0 where
  pub why : FailsToBegin held options.beginning failure
  pub same : untouched

-- A fault ended its use.
pub record IsCutShort (held : List ℕ → Option (List ℕ)) (options : ServiceOptions)
    (uses : Use) (failure : Failure) : Type 0 where
  pub fault : Fault
  pub why : failure ≡ failures.Fault fault
  pub used : IsUsed held options (λ begun ended. uses begun ended (Err fault))

-- It was used to its end, and is not saved.
pub record IsUnsaved (held : List ℕ → Option (List ℕ)) (options : ServiceOptions)
    (uses : Use) (failure : Failure) : Type 0 where
  pub why : FailsToSave (saved_to options) failure
  pub used : IsUsed held options (λ begun ended. uses begun ended (Ok tt))

abbrev pub IsLeft : (held : List ℕ → Option (List ℕ)) → ServiceOptions → Use
    → (untouched : Type 0) → Failure → Type 0
IsLeft held options uses untouched failure =
    NeverBegins held options untouched failure
    ⊎ (IsCutShort held options uses failure ⊎ IsUnsaved held options uses failure)

-- what became of a job; if it fails, no file was replaced
abbrev pub Does : {X : Type 0} → (held : List ℕ → Option (List ℕ)) → ServiceOptions → Use
    → (untouched : Type 0) → (old new : Option (List Replaced)) → Result X Failure → Type 0
Does held options uses untouched old new (Ok done) = IsDone held options uses old new
Does held options uses untouched old new (Err failure) =
    ReplacesNone old new × IsLeft held options uses untouched failure
