-- What a service does with a script: what it reads, what it answers, and where it ends. Own.
use Rattle.std.specs.Prelude.{◌≡◌, ◌⊎◌, ℕ, ◌+◌, min, Bool, true, false, List, [], ◌++◌, take, Option, Some, None, Result, Ok, Err}
use Rattle.std.specs.Io.KnownBytes.{Appends, Consumes, IsAtEnd}
use Rattle.pps_types.specs.declared.event.Event.{Event}
use Rattle.pps_types.specs.Content.{Content}
use Rattle.pps_types.specs.Device.{device_inner, device_failed, device_reads, device_stalls, counted_once_more, last_count}
use Rattle.pps_types.specs.declared.exchange.Exchange.{Exchange}
use Rattle.pps_types.specs.Exchange.{input_of, output_of}
use Rattle.pps_types.specs.Runs.{Answered, events_of}
use Rattle.pps_types.specs.Stands.{Runs, RunsSeen}
use Rattle.pps_types.specs.Text.{lines_of}
use Rattle.pps_script.specs.declared.manner.Manner.{Manner}
use Rattle.pps_script.specs.declared.fault.ScriptFault.{ScriptFault}
use Rattle.pps_script.specs.declared.fault.ScriptFault.TheVariants.{BadLine, OutOfMemory, ReadFault, WriteFault}
use Rattle.pps_script.specs.BadLines.{passed}
use Rattle.script_text.specs.Script.{script, script_of, whole_lines, answers_of}

-- This text was read, and these events were served: the answers are those of every machine that the service was.
pub record Serves (from to : Option (List ℕ)) (old new : Content) (text : List ℕ) (answered : List Answered) : Type 0 where
  pub read : Consumes from to text
  pub runs : Runs old answered new
  pub seen : RunsSeen old answered new

-- The input was read to its end, and each event is answered; nothing else is written. It has no bad line, or each that it
-- goes on after is reported.
pub record AnswersAll (how : Manner) (Reported : List ℕ → Type 0) (from to before after : Option (List ℕ)) (old new : Content) : Type 0 where
  pub text : List ℕ
  pub answered : List Answered
  pub served : Serves from to old new text answered
  pub whole : IsAtEnd to
  pub script : script_of how.patient text ≡ record { events = events_of answered; bad = None }
  pub written : Appends before after (answers_of how.show answered)
  pub reported : Reported (passed how.patient 0 (lines_of text))

-- Each event before the first bad line is answered, and its number is this one, as far as numbers go. Nothing is reported.
pub record AnswersUntil (how : Manner) (Reported : List ℕ → Type 0) (line : ℕ) (from to before after : Option (List ℕ)) (old new : Content) : Type 0 where
  pub text : List ℕ
  pub answered : List Answered
  pub number : ℕ
  pub served : Serves from to old new text answered
  pub script : script_of how.patient text ≡ record { events = events_of answered; bad = Some number }
  pub told : line ≡ min number last_count
  pub written : Appends before after (answers_of how.show answered)
  pub reported : Reported []

-- Each event of the lines that came whole is answered, and each bad one among them is reported.
pub record AnswersWhole (how : Manner) (Reported : List ℕ → Type 0) (from to before after : Option (List ℕ)) (old new : Content) : Type 0 where
  pub text : List ℕ
  pub answered : List Answered
  pub served : Serves from to old new text answered
  pub script : script how.patient (whole_lines text) ≡ record { events = events_of answered; bad = None }
  pub written : Appends before after (answers_of how.show answered)
  pub reported : Reported (passed how.patient 0 (whole_lines text))

-- The first events were served, a part of their answers is written, and the first bad lines are reported.
pub record AnswersFirst (how : Manner) (Reported : List ℕ → Type 0) (from to before after : Option (List ℕ)) (old new : Content) : Type 0 where
  pub text : List ℕ
  pub answered : List Answered
  pub more : List Event
  pub served : Serves from to old new text answered
  pub script : (script_of how.patient text).events ≡ events_of answered ++ more
  pub sent : ℕ
  pub written : Appends before after (take sent (answers_of how.show answered))
  pub numbers : List ℕ
  pub others : List ℕ
  pub bad : passed how.patient 0 (lines_of text) ≡ numbers ++ others
  pub reported : Reported numbers

-- what became of a script, where a list of bad lines may be all that are reported
abbrev pub Ran : {X : Type 0} → Manner → (List ℕ → Type 0) → (from to before after : Option (List ℕ)) → Content → Content → Result X ScriptFault → Type 0
Ran how Reported from to before after old new (Ok done) = AnswersAll how Reported from to before after old new
Ran how Reported from to before after old new (Err (BadLine line)) = AnswersUntil how Reported line from to before after old new
Ran how Reported from to before after old new (Err ReadFault) = AnswersWhole how Reported from to before after old new
Ran how Reported from to before after old new (Err OutOfMemory) = AnswersFirst how Reported from to before after old new
Ran how Reported from to before after old new (Err WriteFault) = AnswersFirst how Reported from to before after old new

-- after how many reads an input counts as one that can't be read
abbrev pub most_reads : ℕ
most_reads = 4294967295

-- so many reads after others, as far as they are counted
abbrev pub reads_from : ℕ → ℕ → ℕ
reads_from n more = min (n + more) last_count

-- a fault of a device is told where the device failed, after the last read, or where a write took nothing
abbrev pub FaultsAre : {X : Type 0} → Result X ScriptFault → (read_failed write_failed : Bool) → (reads_old reads_new stalls_old stalls_new : ℕ) → Type 0
FaultsAre (Ok done) r w reads_old reads_new stalls_old stalls_new = (r ≡ false) × (w ≡ false)
FaultsAre (Err (BadLine line)) r w reads_old reads_new stalls_old stalls_new = (r ≡ false) × (w ≡ false)
FaultsAre (Err OutOfMemory) r w reads_old reads_new stalls_old stalls_new = (r ≡ false) × (w ≡ false)
FaultsAre (Err ReadFault) r w reads_old reads_new stalls_old stalls_new = ((r ≡ true) ⊎ (reads_new ≡ reads_from reads_old most_reads)) × (w ≡ false)
FaultsAre (Err WriteFault) r w reads_old reads_new stalls_old stalls_new = (r ≡ false) × ((w ≡ true) ⊎ (stalls_new ≡ counted_once_more stalls_old))

-- ---- over an exchange

-- what became of a script that came in over it
abbrev pub RanOver : {R W X : Type 0} → (R → Option (List ℕ)) → (W → Option (List ℕ)) → Manner → (List ℕ → Type 0) → (from to : Exchange R W)
    → Content → Content → Result X ScriptFault → Type 0
RanOver remaining contents how Reported from to old new result =
    Ran how Reported (remaining (device_inner (input_of from))) (remaining (device_inner (input_of to)))
    (contents (device_inner (output_of from))) (contents (device_inner (output_of to))) old new result

-- a fault of a device is answered only where its devices had it
abbrev pub AnswersFault : {R W X : Type 0} → (from to : Exchange R W) → Result X ScriptFault → Type 0
AnswersFault from to result =
    FaultsAre result (device_failed (input_of to)) (device_failed (output_of to))
    (device_reads (input_of from)) (device_reads (input_of to)) (device_stalls (output_of from)) (device_stalls (output_of to))
