-- Bytes that are written, or held until they are. Own.
use Rattle.std.specs.Prelude.{◌≡◌, ◌⊎◌, ℕ, Bool, true, List, ◌++◌, take, Option, Result, Ok, Err}
use Rattle.std.specs.Io.KnownBytes.{Appends}
use Rattle.pps_types.specs.Device.{counted_once_more, device_inner, device_failed, device_stalls}
use Rattle.pps_types.specs.declared.device.Device.{Device}

-- a part of these bytes was written
pub record SendsPart (before after : Option (List ℕ)) (bytes : List ℕ) : Type 0 where
  pub sent : ℕ
  pub written : Appends before after (take sent bytes)

-- all of these bytes were written, or a part of them
abbrev pub Sends : {X E : Type 0} → Option (List ℕ) → Option (List ℕ) → List ℕ → Result X E → Type 0
Sends before after bytes (Ok x) = Appends before after bytes
Sends before after bytes (Err e) = SendsPart before after bytes

-- a fault is told where the writer failed, or once took none of some bytes, and nowhere else
abbrev pub FailsAsTold : {X E : Type 0} → Result X E → (failed_old failed_new : Bool) → (stalls_old stalls_new : ℕ) → Type 0
FailsAsTold (Ok x) failed_old failed_new old new = (failed_new ≡ failed_old) × (new ≡ old)
FailsAsTold (Err e) failed_old failed_new old new = (failed_new ≡ true) ⊎ (new ≡ counted_once_more old)

-- of these bytes the first are written, and the others are held
pub record Holds (before after : Option (List ℕ)) (held bytes : List ℕ) : Type 0 where
  pub sent : List ℕ
  pub written : Appends before after sent
  pub parts : bytes ≡ sent ++ held

-- ---- to a device over a writer

-- all of these bytes were written, or a part of them
abbrev pub SendsTo : {W X E : Type 0} → (W → Option (List ℕ)) → (old new : Device W) → List ℕ → Result X E → Type 0
SendsTo contents old new bytes result = Sends (contents (device_inner old)) (contents (device_inner new)) bytes result

-- an error is answered only where the device failed, or once took none of some bytes
abbrev pub FailsWithDevice : {W X E : Type 0} → (old new : Device W) → Result X E → Type 0
FailsWithDevice old new result = FailsAsTold result (device_failed old) (device_failed new) (device_stalls old) (device_stalls new)
