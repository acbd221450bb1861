-- What is written of a text, and when it is told that a writer failed.
use Rattle.std.specs.Prelude.{◌≡◌, ◌⊎◌, ◌≤◌, ◌+◌, ℕ, Bool, true, false, List, [], ◌++◌, length, take, Option, Result, Ok, Err}
use Rattle.std.specs.Io.KnownBytes.{Appends}
use Rattle.pps_types.specs.declared.device.Device.{Device}
use Rattle.pps_types.specs.Device.{counted_once_more, device_inner, device_failed, device_stalls}
use Rattle.pps_types.specs.Content.{Content}
use Rattle.pps_types.specs.Image.{Saved, print_saved, image_text, image}
use Rattle.pps_persist.specs.declared.errors.SaveError.{SaveError}
use Rattle.pps_persist.specs.declared.errors.SaveError.TheVariants.{OutOfMemory, WriteFault}
use Rattle.pps_persist.specs.declared.output.Output.{Output}

-- how many bytes were written before an error
abbrev pub sent_of : SaveError → ℕ
sent_of (OutOfMemory sent) = sent
sent_of (WriteFault sent) = sent

-- the first bytes of these were written, and so many
pub record SendsPart (before after : Option (List ℕ)) (bytes : List ℕ) (sent : ℕ) : Type 0 where
  pub within : sent ≤ length bytes
  pub written : Appends before after (take sent bytes)

-- all of these bytes were written, or a part of them
abbrev pub Sends : {X : Type 0} → Option (List ℕ) → Option (List ℕ) → List ℕ → Result X ℕ → Type 0
Sends before after bytes (Ok x) = Appends before after bytes
Sends before after bytes (Err sent) = SendsPart before after bytes sent

-- what was printed was written
pub record FlushesAll (before after : Option (List ℕ)) (old new : Output) : Type 0 where
  pub written : Appends before after old.buffer.items
  pub sent : new.sent ≡ old.sent + length old.buffer.items
  pub none : new.buffer.items ≡ []

-- or a part of it
pub record FlushesPart (before after : Option (List ℕ)) (old : Output) (error : SaveError) : Type 0 where
  pub part : ℕ
  pub sent : sent_of error ≡ old.sent + part
  pub written : SendsPart before after old.buffer.items part

abbrev pub Flushes : {X : Type 0} → Option (List ℕ) → Option (List ℕ) → (old new : Output) → Result X SaveError → Type 0
Flushes before after old new (Ok x) = FlushesAll before after old new
Flushes before after old new (Err error) = FlushesPart before after old error

-- ---- faults

abbrev pub SendFaultIs : {X : Type 0} → Result X ℕ → (failed : Bool) → (stalls_old stalls_new : ℕ) → Type 0
SendFaultIs (Ok x) failed old new = (failed ≡ false) × (new ≡ old)
SendFaultIs (Err sent) failed old new = (failed ≡ true) ⊎ (new ≡ counted_once_more old)

-- a fault is told where the writer failed, or where it took none of some bytes
abbrev pub WriteFaultIs : {X : Type 0} → Result X SaveError → (failed : Bool) → (stalls_old stalls_new : ℕ) → Type 0
WriteFaultIs (Ok x) failed old new = (failed ≡ false) × (new ≡ old)
WriteFaultIs (Err (OutOfMemory sent)) failed old new = (failed ≡ false) × (new ≡ old)
WriteFaultIs (Err (WriteFault sent)) failed old new = (failed ≡ true) ⊎ (new ≡ counted_once_more old)

-- ---- a text that is printed piece by piece

-- so far: the first bytes of this text were written, and the others stand in the buffer
pub record Prints (before after : Option (List ℕ)) (text : List ℕ) (o : Output) : Type 0 where
  pub front : List ℕ
  pub parts : text ≡ front ++ o.buffer.items
  pub sent : o.sent ≡ length front
  pub written : Appends before after front

-- so it is still, or just its first bytes were written, and it is told how many
abbrev pub PrintsOn : {X : Type 0} → Option (List ℕ) → Option (List ℕ) → List ℕ → Output → Result X SaveError → Type 0
PrintsOn before after text o (Ok x) = Prints before after text o
PrintsOn before after text o (Err error) = SendsPart before after text (sent_of error)

-- all of a text was written, or just its first bytes, and it is told how many
abbrev pub Saves : Option (List ℕ) → Option (List ℕ) → List ℕ → Result ℕ SaveError → Type 0
Saves before after text (Ok count) = (count ≡ length text) × Appends before after text
Saves before after text (Err error) = SendsPart before after text (sent_of error)

-- ---- to a device over a writer

-- all of these bytes were written, or a part of them
abbrev pub SendsTo : {W X : Type 0} → (W → Option (List ℕ)) → (old new : Device W) → List ℕ → Result X ℕ → Type 0
SendsTo contents old new bytes result = Sends (contents (device_inner old)) (contents (device_inner new)) bytes result

-- what was printed was written, or a part of it
abbrev pub FlushesTo : {W X : Type 0} → (W → Option (List ℕ)) → (old new : Device W) → (from to : Output) → Result X SaveError → Type 0
FlushesTo contents old new from to result = Flushes (contents (device_inner old)) (contents (device_inner new)) from to result

-- whatever text was printed so far, it is printed with this entry more
abbrev pub Adds : {W X : Type 0} → (W → Option (List ℕ)) → (old new : Device W) → (from to : Output) → Saved → Result X SaveError → Type 0
Adds contents old new from to entry result =
    (before : Option (List ℕ)) (text : List ℕ) → Prints before (contents (device_inner old)) text from
    → PrintsOn before (contents (device_inner new)) (text ++ print_saved entry) to result

-- all of the image of these entries was written, or just its first bytes
abbrev pub SavesEntries : {W : Type 0} → (W → Option (List ℕ)) → (old new : Device W) → ℕ → List Saved → Result ℕ SaveError → Type 0
SavesEntries contents old new default_limit entries result =
    Saves (contents (device_inner old)) (contents (device_inner new)) (image_text default_limit entries) result

-- the same of the image of a machine in this state
abbrev pub SavesImage : {W : Type 0} → (W → Option (List ℕ)) → (old new : Device W) → Content → Result ℕ SaveError → Type 0
SavesImage contents old new c result = Saves (contents (device_inner old)) (contents (device_inner new)) (image c) result

-- an error is answered only where the device failed, or took none of some bytes
abbrev pub AnswersSendFault : {W X : Type 0} → (old new : Device W) → Result X ℕ → Type 0
AnswersSendFault old new result = SendFaultIs result (device_failed new) (device_stalls old) (device_stalls new)

-- WriteFault is answered only where the device failed, or took none of some bytes
abbrev pub AnswersWriteFault : {W X : Type 0} → (old new : Device W) → Result X SaveError → Type 0
AnswersWriteFault old new result = WriteFaultIs result (device_failed new) (device_stalls old) (device_stalls new)
