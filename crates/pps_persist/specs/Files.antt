-- Images in files: what a file's bytes start, which files were replaced by which bytes, and when a file is said to fail. Own.
use Rattle.std.specs.Prelude.{◌≡◌, ◌⊎◌, ◌≤◌, ℕ, Bool, true, false, List, [], ◌∷◌, ◌++◌, length, Option, Some, None, Result, Ok, Err}
use Rattle.pps_types.specs.Content.{Content}
use Rattle.pps_types.specs.Device.{counted_once_more, device_failed, device_stalls}
use Rattle.pps_types.specs.declared.device.Device.{Device}
use Rattle.pps_types.specs.Stands.{Stands}
use Rattle.pps_types.specs.Image.{Image, read_image, started}
use Rattle.pps_engine.specs.Serving.{Serving}
use Rattle.pps_persist.specs.declared.errors.LoadError.{LoadError}
use Rattle.pps_persist.specs.declared.errors.LoadError.TheVariants.{OutOfMemory, BadImage, ReadFault}
use Rattle.pps_persist.specs.declared.files.FileFault.{FileFault}
use Rattle.pps_persist.specs.declared.files.FileFault.TheVariants as faults
use Rattle.pps_persist.specs.Loads.{most_reads}

-- ---- a file that is read

-- it is opened at its first byte: all of its bytes are to be read, if they are known
abbrev pub OpensAt : (held left : Option (List ℕ)) → Type 0
OpensAt None left = Unit {0}
OpensAt (Some bytes) left = left ≡ Some bytes

-- this holds of the bytes of a file; if they are not known, of some bytes
abbrev pub HoldsOf : (held : Option (List ℕ)) → (List ℕ → Type 0) → Type 0
HoldsOf None P = (bytes : List ℕ) × P bytes
HoldsOf (Some bytes) P = P bytes

-- the bytes are an image, and this is the state of the machine that it starts
pub record IsStartOf (bytes : List ℕ) (c : Content) : Type 0 where
  pub image : Image
  pub read : read_image bytes ≡ Ok image
  pub stands : Stands c (started image)

-- The engine has the state that the file's image starts; or it holds none, from this line on.
abbrev pub LoadsFile : (held : Option (List ℕ)) → Result Serving LoadError → Type 0
LoadsFile held (Ok engine) = HoldsOf held (λ bytes. IsStartOf bytes engine.content)
LoadsFile held (Err (BadImage line)) = HoldsOf held (λ bytes. read_image bytes ≡ Err line)
LoadsFile held (Err OutOfMemory) = Unit {0}
LoadsFile held (Err ReadFault) = Unit {0}

-- ---- files that are replaced

-- a file, and the bytes that it was replaced by
pub record Replaced : Type 0 where
  pub file : List ℕ
  pub bytes : List ℕ

-- those that were replaced before, and no more, if they are known
abbrev pub ReplacesNone : (old new : Option (List Replaced)) → Type 0
ReplacesNone None new = Unit {0}
ReplacesNone (Some xs) None = ⊥
ReplacesNone (Some xs) (Some ys) = ys ≡ xs

-- those that were replaced before, and then this one
abbrev pub ReplacesOne : (old new : Option (List Replaced)) → Replaced → Type 0
ReplacesOne None new one = Unit {0}
ReplacesOne (Some xs) None one = ⊥
ReplacesOne (Some xs) (Some ys) one = ys ≡ xs ++ one ∷ []

-- The file was replaced, once and by just these bytes; or none was.
abbrev pub Replaces : {X E : Type 0} → (old new : Option (List Replaced))
    → (file bytes : List ℕ) → Result X E → Type 0
Replaces old new file bytes (Ok done) = ReplacesOne old new (record { file = file; bytes = bytes })
Replaces old new file bytes (Err fault) = ReplacesNone old new

-- ---- faults of files

-- Failed is answered only if that holds
abbrev pub FailsOnlyIf : {X : Type 0} → Type 0 → Result X FileFault → Type 0
FailsOnlyIf P (Ok x) = Unit {0}
FailsOnlyIf P (Err faults.OutOfMemory) = Unit {0}
FailsOnlyIf P (Err faults.Failed) = P

-- no file may fail that might not before
abbrev pub MayFailNoMore : (old new : List ℕ → Type 0) → Type 0
MayFailNoMore old new = (file : List ℕ) → new file → old file

-- The file has more bytes than are read of one, as far as it is known what it holds: each read gives
-- one byte at least, and no more than 4,294,967,295 reads are made.
abbrev pub IsTooLong : (held : Option (List ℕ)) → Type 0
IsTooLong held = HoldsOf held (λ bytes. most_reads ≤ length bytes)

-- a file may fail, or it is too long
abbrev pub MayBeUnread : (held : Option (List ℕ)) → (may_fail : Type 0) → Type 0
MayBeUnread held may_fail = may_fail ⊎ IsTooLong held

-- ReadFault is answered only if that holds
abbrev pub ReadFaultOnlyIf : {X : Type 0} → Type 0 → Result X LoadError → Type 0
ReadFaultOnlyIf P (Ok x) = Unit {0}
ReadFaultOnlyIf P (Err OutOfMemory) = Unit {0}
ReadFaultOnlyIf P (Err (BadImage line)) = Unit {0}
ReadFaultOnlyIf P (Err ReadFault) = P

-- a fault is told where the writer failed, or where it took none of some bytes
abbrev pub FileFaultIs : {X : Type 0} → Result X FileFault → (failed : Bool) → (stalls_old stalls_new : ℕ) → Type 0
FileFaultIs (Ok x) failed old new = (failed ≡ false) × (new ≡ old)
FileFaultIs (Err faults.OutOfMemory) failed old new = (failed ≡ false) × (new ≡ old)
FileFaultIs (Err faults.Failed) failed old new = (failed ≡ true) ⊎ (new ≡ counted_once_more old)

-- Failed is answered only where the device failed, or took none of some bytes
abbrev pub AnswersFileFault : {W X : Type 0} → (old new : Device W) → Result X FileFault → Type 0
AnswersFileFault old new result = FileFaultIs result (device_failed new) (device_stalls old) (device_stalls new)
