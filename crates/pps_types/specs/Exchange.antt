-- What a clause reads of an exchange, and what becomes of the answers in it. Own.
use Rattle.std.specs.Prelude.{◌≡◌, ◌⊎◌, ℕ, Bool, true, false, List, [], ◌++◌, Option, Result, Ok, Err}
use Rattle.std.specs.Io.KnownBytes.{Appends}
use Rattle.pps_types.specs.Device.{device_inner, device_failed, device_stalls, counted_once_more, ReadsFrom}
use Rattle.pps_types.specs.Writing.{SendsPart, Holds, FailsWithDevice}
use Rattle.pps_types.specs.declared.device.Device.{Device}
use Rattle.pps_types.specs.declared.exchange.Exchange.{Exchange}
use Rattle.pps_types.specs.declared.exchange.AnswerFault.{AnswerFault}
use Rattle.pps_types.specs.declared.exchange.AnswerFault.TheVariants.{OutOfMemory, WriteFault}

abbrev pub input_of : {R W : Type 0} → Exchange R W → Device R
input_of x = x.input

abbrev pub output_of : {R W : Type 0} → Exchange R W → Device W
output_of x = x.output

-- the exchange with this output
abbrev pub with_output : {R W : Type 0} → Exchange R W → Device W → Exchange R W
with_output x device = record x { output = device }

-- the answers that are not written yet
abbrev pub held_in : {R W : Type 0} → Exchange R W → List ℕ
held_in x = x.held.items

-- The bytes were added to those that were held, of which some may have been written. Where memory was wanting they were not
-- added; where the writer failed, a part of all was written.
abbrev pub Answers : {X : Type 0} → Option (List ℕ) → List ℕ → Option (List ℕ) → List ℕ → List ℕ → Result X AnswerFault → Type 0
Answers before held after left bytes (Ok x) = Holds before after left (held ++ bytes)
Answers before held after left bytes (Err OutOfMemory) = Holds before after left held
Answers before held after left bytes (Err WriteFault) = SendsPart before after (held ++ bytes)

-- all that was held was written, or a part of it
abbrev pub SendsHeld : {X E : Type 0} → Option (List ℕ) → List ℕ → Option (List ℕ) → List ℕ → Result X E → Type 0
SendsHeld before held after left (Ok x) = Appends before after held × (left ≡ [])
SendsHeld before held after left (Err e) = SendsPart before after held

-- a fault of the output is told where the writer had it, and nowhere else
abbrev pub AnswerFaultIs : {X : Type 0} → Result X AnswerFault → (failed_old failed_new : Bool) → (stalls_old stalls_new : ℕ) → Type 0
AnswerFaultIs (Ok x) failed_old failed_new old new = (failed_new ≡ failed_old) × (new ≡ old)
AnswerFaultIs (Err OutOfMemory) failed_old failed_new old new = (failed_new ≡ failed_old) × (new ≡ old)
AnswerFaultIs (Err WriteFault) failed_old failed_new old new = (failed_new ≡ true) ⊎ (new ≡ counted_once_more old)

-- neither device has failed, and no answer is held
abbrev pub IsFresh : {R W : Type 0} → Exchange R W → Type 0
IsFresh x = (device_failed (input_of x) ≡ false) × (device_failed (output_of x) ≡ false) × (held_in x ≡ [])

-- ---- what one call of an exchange does

-- a read takes these bytes from the reader of its input, as far as it succeeds
abbrev pub ReadsInput : {R W E : Type 0} → (R → Option (List ℕ)) → (old new : Exchange R W) → Result ℕ E → List ℕ → Type 0
ReadsInput remaining old new result bytes = ReadsFrom remaining (input_of old) (input_of new) result bytes

-- these bytes come after those that are held, and all of them are written or held, as far as it succeeds
abbrev pub AddsAnswer : {R W X : Type 0} → (W → Option (List ℕ)) → (old new : Exchange R W) → List ℕ → Result X AnswerFault → Type 0
AddsAnswer contents old new bytes result =
    Answers (contents (device_inner (output_of old))) (held_in old) (contents (device_inner (output_of new))) (held_in new) bytes result

-- the same where none are held yet
abbrev pub AddsFirstAnswer : {R W X : Type 0} → (W → Option (List ℕ)) → (old new : Exchange R W) → List ℕ → Result X AnswerFault → Type 0
AddsFirstAnswer contents old new bytes result =
    Answers (contents (device_inner (output_of old))) [] (contents (device_inner (output_of new))) (held_in new) bytes result

-- all answers that it holds are written, or a part of them
abbrev pub SendsAnswers : {R W X E : Type 0} → (W → Option (List ℕ)) → (old new : Exchange R W) → Result X E → Type 0
SendsAnswers contents old new result =
    SendsHeld (contents (device_inner (output_of old))) (held_in old) (contents (device_inner (output_of new))) (held_in new) result

-- an error is answered only where the output failed, or once took none of some bytes
abbrev pub FailsWithOutput : {R W X E : Type 0} → (old new : Exchange R W) → Result X E → Type 0
FailsWithOutput old new result = FailsWithDevice (output_of old) (output_of new) result

-- WriteFault is answered only where the output failed, or once took none of some bytes
abbrev pub AnswersOutputFault : {R W X : Type 0} → (old new : Exchange R W) → Result X AnswerFault → Type 0
AnswersOutputFault old new result =
    AnswerFaultIs result (device_failed (output_of old)) (device_failed (output_of new))
    (device_stalls (output_of old)) (device_stalls (output_of new))
