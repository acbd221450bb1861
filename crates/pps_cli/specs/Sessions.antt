-- What the program does with sessions of script files.
use Rattle.std.specs.Prelude.{◌≡◌, ◌⊎◌, ◌<◌, ℕ, Bool, true, List, [], length, slice_index_or, Option, Result, Ok, Err}
use Rattle.std.specs.Io.KnownBytes.{Keeps}
use Rattle.pps_types.specs.Device.{counted_once_more, device_failed, device_stalls}
use Rattle.pps_types.specs.declared.device.Device.{Device}
use Rattle.command_line.specs.Names.{scripts_of, history_of}
use Rattle.pps_dispatch.specs.History.{Pieces, joined}
use Rattle.pps_dispatch.specs.Printed.{history_text}
use Rattle.pps_dispatch.specs.Scripts.{IsSessionOf, TellsFirstBad}
use Rattle.pps_dispatch.specs.declared.session_fault.SessionFault.TheVariants.{BadLine}
use Rattle.pps_dispatch.specs.Serving.{connection_at, PrintsAll, PrintsPart}
use Rattle.pps_dispatch.specs.Sessions.{Conversation}
use Rattle.pps_persist.specs.Files.{HoldsOf, Replaced, ReplacesNone}
use Rattle.command_line.specs.declared.asked.ServeOptions.{ServeOptions}
use Rattle.pps_jobs.specs.declared.fault.Fault.TheVariants.{OutOfMemory, CannotWriteOutput}
use Rattle.pps_jobs.specs.declared.fault.Failure.{Failure}
use Rattle.pps_jobs.specs.declared.fault.Failure.TheVariants as failures
use Rattle.pps_jobs.specs.declared.fault.Failure.TheVariants.{CannotRead, BadLineOf, Serve}
use Rattle.pps_jobs.specs.Images.{IsSaved, FailsToSave}

-- ---- script files

-- the session of the text that a file holds
abbrev pub IsOfFile : (held : Option (List ℕ)) → ℕ → Conversation → Type 0
IsOfFile held connection session = HoldsOf held (λ text. IsSessionOf connection text session)

-- each session is that of the file at its place, and has the connection of its place
pub record AreOfFiles (held : List ℕ → Option (List ℕ)) (files : List (List ℕ))
    (sessions : List Conversation) : Type 0 where
  pub each : (k : ℕ) (d : Conversation) → k < length sessions
      → IsOfFile (held (slice_index_or files k [])) (connection_at k) (slice_index_or sessions k d)

-- It is none: memory was wanting, or the file is not read, or this line of it is the first that is
-- none of a session.
abbrev pub FailsSession : (held : Option (List ℕ)) → (connection : ℕ) → (file : List ℕ)
    → Failure → Type 0
FailsSession held connection file (failures.Fault fault) = fault ≡ OutOfMemory
FailsSession held connection file (CannotRead named) = named.now ≡ file
FailsSession held connection file (BadLineOf named line) =
    (named.now ≡ file) × HoldsOf held (λ text. TellsFirstBad connection text (BadLine line))
FailsSession held connection file failure = ⊥

-- so it is with the file at one place
pub record FailsSessions (held : List ℕ → Option (List ℕ)) (files : List (List ℕ))
    (failure : Failure) : Type 0 where
  pub place : ℕ
  pub within : place < length files
  pub why : FailsSession (held (slice_index_or files place [])) (connection_at place)
      (slice_index_or files place []) failure

-- memory was wanting, or the output is not written
abbrev pub FailsToAnswer : Failure → Type 0
FailsToAnswer failure =
    (failure ≡ failures.Fault OutOfMemory) ⊎ (failure ≡ failures.Fault CannotWriteOutput)

-- A script file is not read, or has a line that is none; or the sessions are not served to their
-- end, or not answered.
abbrev pub TellsOfScripts : (held : List ℕ → Option (List ℕ)) → (files : List (List ℕ))
    → Failure → Type 0
TellsOfScripts held files (failures.Fault fault) = FailsToAnswer (failures.Fault fault)
TellsOfScripts held files (CannotRead named) = FailsSessions held files (CannotRead named)
TellsOfScripts held files (BadLineOf named line) = FailsSessions held files (BadLineOf named line)
TellsOfScripts held files (Serve fault) = Unit {0}
TellsOfScripts held files failure = ⊥

-- ---- what is printed

-- of each file in its order, what its session was answered in this history of all
pub record PrintsFiles (held : List ℕ → Option (List ℕ)) (files : List (List ℕ))
    (history : Pieces) (before after : Option (List ℕ)) : Type 0 where
  pub prints : PrintsAll files history before after
  pub of : AreOfFiles held files prints.sessions

-- or a beginning of that, of some history
pub record PrintsPartOfFiles (held : List ℕ → Option (List ℕ)) (files : List (List ℕ))
    (before after : Option (List ℕ)) : Type 0 where
  pub prints : PrintsPart files before after
  pub of : AreOfFiles held files prints.sessions

-- a fault ends it before anything is written, or while it is
abbrev pub PrintsSomeFiles : (held : List ℕ → Option (List ℕ)) → (files : List (List ℕ))
    → (before after : Option (List ℕ)) → Type 0
PrintsSomeFiles held files before after =
    Keeps before after ⊎ PrintsPartOfFiles held files before after

-- ---- the whole job

-- What is printed is of a history of all sessions. If a file is named for it, that was replaced, once
-- and by just the text of that history, and no other file was.
pub record ServesAll (held : List ℕ → Option (List ℕ)) (options : ServeOptions)
    (before after : Option (List ℕ)) (old new : Option (List Replaced)) : Type 0 where
  pub history : Pieces
  pub prints : PrintsFiles held (scripts_of options) history before after
  pub saved : IsSaved (history_of options) old new (history_text (joined history))

-- why it fails: the sessions do, or the history is not saved
abbrev pub FailsToServe : (held : List ℕ → Option (List ℕ)) → ServeOptions → Failure → Type 0
FailsToServe held options failure =
    TellsOfScripts held (scripts_of options) failure ⊎ FailsToSave (history_of options) failure

-- A fault ended it before all was printed, or the history is not saved. No file was replaced.
pub record ServesSome (held : List ℕ → Option (List ℕ)) (options : ServeOptions)
    (before after : Option (List ℕ)) (old new : Option (List Replaced)) (failure : Failure)
    : Type 0 where
  pub told : FailsToServe held options failure
  pub prints : PrintsSomeFiles held (scripts_of options) before after
      ⊎ ((history : Pieces) × PrintsFiles held (scripts_of options) history before after)
  pub saved : ReplacesNone old new

-- what became of it
abbrev pub Serves : {X : Type 0} → (held : List ℕ → Option (List ℕ)) → ServeOptions
    → (before after : Option (List ℕ)) → (old new : Option (List Replaced))
    → Result X Failure → Type 0
Serves held options before after old new (Ok done) = ServesAll held options before after old new
Serves held options before after old new (Err failure) =
    ServesSome held options before after old new failure

-- ---- faults of the output

-- it did not fail, and took some bytes at each call
abbrev pub IsUntroubled : {W : Type 0} → (old new : Device W) → Type 0
IsUntroubled old new =
    (device_failed new ≡ device_failed old) × (device_stalls new ≡ device_stalls old)

-- The output is said not to be written where it failed, or once took none of some bytes, and nowhere
-- else.
abbrev pub TellsOfOutput : {W : Type 0} → (old new : Device W) → Failure → Type 0
TellsOfOutput old new (failures.Fault CannotWriteOutput) =
    (device_failed new ≡ true) ⊎ (device_stalls new ≡ counted_once_more (device_stalls old))
TellsOfOutput old new failure = IsUntroubled old new

abbrev pub TellsOutput : {W X : Type 0} → (old new : Device W) → Result X Failure → Type 0
TellsOutput old new (Ok done) = IsUntroubled old new
TellsOutput old new (Err failure) = TellsOfOutput old new failure
