-- What loading an image reads, and when it answers an error.
use Rattle.std.specs.Prelude.{◌≡◌, ◌⊎◌, ◌≤◌, ◌+◌, ℕ, min, Bool, true, false, List, ◌++◌, length, Option, Result, Ok, Err}
use Rattle.std.specs.Io.KnownBytes.{Consumes, IsAtEnd}
use Rattle.pps_types.specs.declared.device.Device.{Device}
use Rattle.pps_types.specs.Device.{last_count, device_inner, device_failed, device_reads}
use Rattle.pps_types.specs.Content.{Content}
use Rattle.pps_types.specs.Image.{image, read_image}
use Rattle.image_laws.specs.Restored.{AreSavedAlike}
use Rattle.pps_engine.specs.Serving.{Serving}
use Rattle.pps_persist.specs.declared.errors.LoadError.{LoadError}
use Rattle.pps_persist.specs.declared.errors.LoadError.TheVariants.{OutOfMemory, BadImage, ReadFault}
use Rattle.pps_persist.specs.declared.pieces.Reading.{Reading}
use Rattle.pps_persist.specs.Begun.{IsLoadedFrom, IsReading}

-- The input was read to its end, what was read is an image, and the engine stands for the machine that it starts.
pub record LoadsImage (from to : Option (List ℕ)) (engine : Serving) : Type 0 where
  pub bytes : List ℕ
  pub read : Consumes from to bytes
  pub ended : IsAtEnd to
  pub loaded : IsLoadedFrom bytes engine

-- Whatever input an engine was loaded from: if just the image of this content was read, both would be saved alike.
abbrev pub IsLoadedAlike : Content → Serving → Type 0
IsLoadedAlike c engine = (from to : Option (List ℕ)) (h : LoadsImage from to engine) → h.bytes ≡ image c → AreSavedAlike c engine.content

-- What was read is told to be no image, at this line: whatever follows it, or where the input ends behind it.
pub record RefusesImage (from to : Option (List ℕ)) (line : ℕ) : Type 0 where
  pub bytes : List ℕ
  pub read : Consumes from to bytes
  pub told : ((more : List ℕ) → read_image (bytes ++ more) ≡ Err line) ⊎ (IsAtEnd to × (read_image bytes ≡ Err line))

-- some bytes were read
pub record ReadsSome (from to : Option (List ℕ)) : Type 0 where
  pub bytes : List ℕ
  pub read : Consumes from to bytes

-- what became of an input
abbrev pub Loads : Option (List ℕ) → Option (List ℕ) → Result Serving LoadError → Type 0
Loads from to (Ok engine) = LoadsImage from to engine
Loads from to (Err (BadImage line)) = RefusesImage from to line
Loads from to (Err OutOfMemory) = ReadsSome from to
Loads from to (Err ReadFault) = ReadsSome from to

-- after how many reads an input counts as one that can't be read
abbrev pub most_reads : ℕ
most_reads = 4294967295

-- so many reads after others, as far as they are counted
abbrev pub reads_from : ℕ → ℕ → ℕ
reads_from n more = min (n + more) last_count

-- a fault is told where the reader failed, or after the last read
abbrev pub ReadFaultIs : {X : Type 0} → Result X LoadError → (failed : Bool) → (reads_old reads_new : ℕ) → Type 0
ReadFaultIs (Ok x) failed old new = failed ≡ false
ReadFaultIs (Err OutOfMemory) failed old new = failed ≡ false
ReadFaultIs (Err (BadImage line)) failed old new = failed ≡ false
ReadFaultIs (Err ReadFault) failed old new = (failed ≡ true) ⊎ (new ≡ reads_from old most_reads)

-- ---- from a device

-- the same of what a device over a reader gives
abbrev pub LoadsFrom : {R : Type 0} → (R → Option (List ℕ)) → (old new : Device R) → Result Serving LoadError → Type 0
LoadsFrom remaining old new result = Loads (remaining (device_inner old)) (remaining (device_inner new)) result

-- it answers ReadFault only where the device failed, or after the last read
abbrev pub AnswersReadFault : {R X : Type 0} → (old new : Device R) → Result X LoadError → Type 0
AnswersReadFault old new result = ReadFaultIs result (device_failed new) (device_reads old) (device_reads new)

-- ---- from any input

-- a read goes on with what was read so often without a failure
abbrev pub WorksOn : {I E : Type 0} → (works : I → I → ℕ → Type 0) → (old new : I) → Result ℕ E → Type 0
WorksOn {I} works old new (Ok count) = (first : I) (n : ℕ) → works first old n → works first new (n + 1)
WorksOn works old new (Err e) = Unit {0}

-- an error is a failure, from whatever was read until then
abbrev pub FailsFrom : {I E : Type 0} → (works : I → I → ℕ → Type 0) → (fails : I → I → Type 0) → (old new : I) → Result ℕ E → Type 0
FailsFrom works fails old new (Ok count) = Unit {0}
FailsFrom {I} works fails old new (Err e) = (first : I) (n : ℕ) → works first old n → fails first new

-- a device was read so often, and has not failed
abbrev pub HasRead : {R : Type 0} → (old new : Device R) → ℕ → Type 0
HasRead old new n = (device_failed new ≡ false) × (device_reads new ≡ reads_from (device_reads old) n)

-- a fault is told where a read failed, or after the last one
abbrev pub InputFaultIs : {X : Type 0} → (works : ℕ → Type 0) → (fails : Type 0) → Result X LoadError → Type 0
InputFaultIs works fails (Ok x) = (n : ℕ) × works n
InputFaultIs works fails (Err OutOfMemory) = (n : ℕ) × works n
InputFaultIs works fails (Err (BadImage line)) = (n : ℕ) × works n
InputFaultIs works fails (Err ReadFault) = fails ⊎ works most_reads

-- at least one byte was read by each of the most reads
pub record ReadsMany (from to : Option (List ℕ)) : Type 0 where
  pub bytes : List ℕ
  pub read : Consumes from to bytes
  pub many : most_reads ≤ length bytes

-- ReadFault is told only where a read failed, or so many bytes were read
abbrev pub FaultAfterMany : {X : Type 0} → (from to : Option (List ℕ)) → (fails : Type 0) → Result X LoadError → Type 0
FaultAfterMany from to fails (Ok x) = Unit {0}
FaultAfterMany from to fails (Err OutOfMemory) = Unit {0}
FaultAfterMany from to fails (Err (BadImage line)) = Unit {0}
FaultAfterMany from to fails (Err ReadFault) = fails ⊎ ReadsMany from to

-- ---- within

-- so far: these bytes were read, at least and at most so many
pub record Gone (from to : Option (List ℕ)) (s : Reading) (least most : ℕ) : Type 0 where
  pub taken : List ℕ
  pub read : Consumes from to taken
  pub is : IsReading taken s
  pub many : least ≤ length taken
  pub few : length taken ≤ most
