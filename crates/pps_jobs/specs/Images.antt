-- What a service begins with, and the file that it is saved to.
use Rattle.std.specs.Prelude.{◌≡◌, ℕ, List, Option, Some, None, Result, Ok, Err}
use Rattle.pps_types.specs.Content.{Content}
use Rattle.pps_types.specs.Machine.{start}
use Rattle.pps_types.specs.Stands.{Stands}
use Rattle.pps_types.specs.Image.{read_image}
use Rattle.pps_persist.specs.Files.{HoldsOf, IsStartOf, MayBeUnread, Replaced, ReplacesNone, ReplacesOne}
use Rattle.pps_persist.specs.declared.files.FileFault.{FileFault}
use Rattle.pps_persist.specs.declared.files.FileFault.TheVariants as faults
use Rattle.command_line.specs.declared.asked.Beginning.{Beginning}
use Rattle.command_line.specs.declared.asked.Beginning.TheVariants.{Empty, Image}
use Rattle.pps_jobs.specs.declared.fault.Fault.TheVariants.{OutOfMemory}
use Rattle.pps_jobs.specs.declared.fault.Failure.{Failure}
use Rattle.pps_jobs.specs.declared.fault.Failure.TheVariants.{Fault, CannotRead, CannotWrite, BadImage}

-- the state of a new service with this limit, or of the machine that the image in the file starts
abbrev pub BeginsAs : (held : List ℕ → Option (List ℕ)) → Beginning → Content → Type 0
BeginsAs held (Empty limit) begun = Stands begun (start 1 limit.value)
BeginsAs held (Image file) begun = HoldsOf (held file.now) (λ bytes. IsStartOf bytes begun)

-- There is none: memory was wanting, or the file is not read, or it holds no image, from this line
-- on.
abbrev pub FailsToBegin : (held : List ℕ → Option (List ℕ)) → Beginning → Failure → Type 0
FailsToBegin held beginning (Fault fault) = fault ≡ OutOfMemory
FailsToBegin held (Image file) (CannotRead named) = named.now ≡ file.now
FailsToBegin held (Image file) (BadImage line) =
    HoldsOf (held file.now) (λ bytes. read_image bytes ≡ Err line)
FailsToBegin held beginning failure = ⊥

-- The file that is named, if one is, was replaced, once and by just these bytes; and no other.
abbrev pub IsSaved : (file : Option (List ℕ)) → (old new : Option (List Replaced))
    → (bytes : List ℕ) → Type 0
IsSaved None old new bytes = ReplacesNone old new
IsSaved (Some file) old new bytes = ReplacesOne old new (record { file = file; bytes = bytes })

-- It is not: memory was wanting, or the file that is named is not written.
abbrev pub FailsToSave : (file : Option (List ℕ)) → Failure → Type 0
FailsToSave (Some file) (Fault fault) = fault ≡ OutOfMemory
FailsToSave (Some file) (CannotWrite named) = named.now ≡ file
FailsToSave file failure = ⊥

-- what became of it; if it is not saved, nothing was replaced
abbrev pub SavesAs : {X : Type 0} → (file : Option (List ℕ)) → (old new : Option (List Replaced))
    → (bytes : List ℕ) → Result X Failure → Type 0
SavesAs file old new bytes (Ok done) = IsSaved file old new bytes
SavesAs file old new bytes (Err failure) = ReplacesNone old new × FailsToSave file failure

-- ---- faults of files

-- what is said of a fault of this file
abbrev pub TellsFault : FileFault → (file : List ℕ) → Failure → Type 0
TellsFault faults.OutOfMemory file (Fault fault) = fault ≡ OutOfMemory
TellsFault faults.Failed file (CannotWrite named) = named.now ≡ file
TellsFault fault file failure = ⊥

-- A file is said not to be read only if it may fail, or is too long; and not to be written only if
-- it may fail.
abbrev pub FailsWithFiles : (held : List ℕ → Option (List ℕ)) → (may_fail : List ℕ → Type 0)
    → Failure → Type 0
FailsWithFiles held may_fail (CannotRead named) =
    MayBeUnread (held named.now) (may_fail named.now)
FailsWithFiles held may_fail (CannotWrite named) = may_fail named.now
FailsWithFiles held may_fail failure = Unit {0}
