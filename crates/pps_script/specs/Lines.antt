-- What the parts of serving a script do.
use Rattle.std.specs.Prelude.{◌≡◌, ◌≢◌, ◌⊎◌, ℕ, ◌+◌, min, length, Bool, true, false, List, [], ◌∷◌, ◌++◌, Option, Some, None, Result, Ok, Err}
use Rattle.std.specs.Io.KnownBytes.{Consumes, IsAtEnd}
use Rattle.std.specs.Result.{MatchResult}
use Rattle.pps_types.specs.declared.event.Event.{Event}
use Rattle.pps_types.specs.Outcome.{Reply}
use Rattle.pps_types.specs.Content.{Content}
use Rattle.pps_types.specs.Bytes.{split_at_first, pieces}
use Rattle.pps_types.specs.Text.{lines_of, without_empty_end}
use Rattle.pps_types.specs.Device.{device_inner, device_failed, device_reads, device_stalls, counted_once_more, last_count}
use Rattle.pps_types.specs.Writing.{SendsPart, Holds}
use Rattle.pps_types.specs.declared.exchange.Exchange.{Exchange}
use Rattle.pps_types.specs.Exchange.{input_of, output_of, held_in}
use Rattle.pps_types.specs.Runs.{Answered, events_of}
use Rattle.pps_types.specs.Stands.{StepsSeen, RunsSeen}
use Rattle.pps_engine.specs.Serving.{Serving}
use Rattle.pps_script.specs.declared.manner.Manner.{Manner}
use Rattle.script_text.specs.declared.script_line.ScriptLine.{ScriptLine}
use Rattle.script_text.specs.declared.script_line.ScriptLine.TheVariants.{Nothing, Command}
use Rattle.pps_script.specs.declared.fault.ScriptFault.{ScriptFault}
use Rattle.pps_script.specs.declared.fault.ScriptFault.TheVariants.{BadLine, OutOfMemory, ReadFault, WriteFault}
use Rattle.script_text.specs.declared.fault.LineFault.{LineFault}
use Rattle.script_text.specs.declared.fault.LineFault.TheVariants as lacks
use Rattle.pps_script.specs.declared.session.Session.{Session}
use Rattle.script_text.specs.ScriptLines.{line_of}
use Rattle.script_text.specs.Script.{script, whole_lines, printed, answers_of}
use Rattle.pps_script.specs.BadLines.{passed, ReportsLines}
use Rattle.pps_script.specs.Served.{most_reads, reads_from}

-- ---- one line

-- A command is a step of the service, and its answer is printed. A line that says nothing does nothing.
abbrev pub ServesLine : Bool → Content → Option ScriptLine → List ℕ → Content → Type 0
ServesLine show old None text new = ⊥
ServesLine show old (Some Nothing) text new = (text ≡ []) × (new ≡ old)
ServesLine show old (Some (Command event)) text new = (reply : Reply) × StepsSeen old event reply new × (text ≡ printed show event reply)

-- a line whose answer could not be made: nothing happened, or its event
abbrev pub Unanswered : Content → Option ScriptLine → Content → Type 0
Unanswered old (Some (Command event)) new = (new ≡ old) ⊎ ((reply : Reply) × StepsSeen old event reply new)
Unanswered old said new = new ≡ old

-- a line that is told to be bad is bad, and does nothing
abbrev pub FailsLine : Content → Option ScriptLine → Content → LineFault → Type 0
FailsLine old said new lacks.BadLine = (said ≡ None) × (new ≡ old)
FailsLine old said new lacks.OutOfMemory = Unanswered old said new

-- the line that has these bytes is served, and this text is printed
abbrev pub ServesBytes : Bool → (old new : Serving) → (line text : List ℕ) → Type 0
ServesBytes show old new line text = ServesLine show old.content (line_of line) text new.content

-- or it is not, and this is why
abbrev pub FailsBytes : (old new : Serving) → List ℕ → LineFault → Type 0
FailsBytes old new line fault = FailsLine old.content (line_of line) new.content fault

-- ---- lines, and the answers to them behind those that were held

-- all of them are served, up to the first bad one
pub record ServesLines (how : Manner) (before : Option (List ℕ)) (held : List ℕ) (after : Option (List ℕ)) (left : List ℕ) (old new : Content)
    (lines : List (List ℕ)) (bad : Option ℕ) : Type 0 where
  pub answered : List Answered
  pub said : script how.patient lines ≡ record { events = events_of answered; bad = bad }
  pub seen : RunsSeen old answered new
  pub written : Holds before after left (held ++ answers_of how.show answered)

-- the first are served, and the first of these are answered
pub record HoldsFirst (how : Manner) (before : Option (List ℕ)) (held : List ℕ) (after : Option (List ℕ)) (left : List ℕ) (old new : Content)
    (lines : List (List ℕ)) : Type 0 where
  pub answered : List Answered
  pub more : List Event
  pub said : (script how.patient lines).events ≡ events_of answered ++ more
  pub seen : RunsSeen old answered new
  pub told : List ℕ
  pub untold : List ℕ
  pub parts : answers_of how.show answered ≡ told ++ untold
  pub written : Holds before after left (held ++ told)

-- the first are served, and a part of the answers is written
pub record SendsFirst (how : Manner) (before : Option (List ℕ)) (held : List ℕ) (after : Option (List ℕ)) (old new : Content) (lines : List (List ℕ)) : Type 0 where
  pub answered : List Answered
  pub more : List Event
  pub said : (script how.patient lines).events ≡ events_of answered ++ more
  pub seen : RunsSeen old answered new
  pub written : SendsPart before after (held ++ answers_of how.show answered)

-- how many lines there were
abbrev pub count_of : Session → ℕ
count_of session = min session.lines last_count

-- the first bad one of them has this number, after so many others
pub record EndsAt (how : Manner) (count line : ℕ) (before : Option (List ℕ)) (held : List ℕ) (after : Option (List ℕ)) (left : List ℕ) (old new : Content)
    (lines : List (List ℕ)) : Type 0 where
  pub number : ℕ
  pub told : line ≡ min (count + number) last_count
  pub serves : ServesLines how before held after left old new lines (Some number)

-- what became of lines
abbrev pub EndsLines : Manner → ℕ → Option (List ℕ) → List ℕ → Option (List ℕ) → List ℕ → Content → Content → List (List ℕ) → ScriptFault → Type 0
EndsLines how count before held after left old new lines (BadLine line) = EndsAt how count line before held after left old new lines
EndsLines how count before held after left old new lines OutOfMemory = HoldsFirst how before held after left old new lines
EndsLines how count before held after left old new lines WriteFault = SendsFirst how before held after old new lines
EndsLines how count before held after left old new lines ReadFault = ⊥

-- a line was served, or it is where the script ends
abbrev pub RunsLine : {R W X : Type 0} → (W → Option (List ℕ)) → Session → Exchange R W → Exchange R W → Content → Content → List ℕ → Result X ScriptFault → Type 0
RunsLine contents session x y old new line (Ok done) =
    ServesLines session.manner (contents (device_inner (output_of x))) (held_in x) (contents (device_inner (output_of y))) (held_in y) old new (line ∷ []) None
RunsLine contents session x y old new line (Err fault) =
    EndsLines session.manner (count_of session) (contents (device_inner (output_of x))) (held_in x) (contents (device_inner (output_of y))) (held_in y) old new (line ∷ []) fault

-- ---- texts

-- no line ends in these bytes
abbrev pub IsPart : List ℕ → Type 0
IsPart bytes = split_at_first 10 bytes ≡ None

-- these are the first lines of a text, which goes on behind their line feeds
pub record AreFirst (lines : List (List ℕ)) (text : List ℕ) : Type 0 where
  pub rest : List (List ℕ)
  pub some : rest ≢ []
  pub parts : pieces 10 text ≡ lines ++ rest

-- the whole lines of a text are served, and this part is left of it
pub record ServesText (how : Manner) (count more : ℕ) (before : Option (List ℕ)) (held : List ℕ) (after : Option (List ℕ)) (left : List ℕ) (old new : Content)
    (text part : List ℕ) : Type 0 where
  pub lines : List (List ℕ)
  pub parts : pieces 10 text ≡ lines ++ part ∷ []
  pub serves : ServesLines how before held after left old new lines None
  pub counted : more ≡ min (count + length lines) last_count

-- or the script ends in one of them
pub record EndsText (how : Manner) (count : ℕ) (before : Option (List ℕ)) (held : List ℕ) (after : Option (List ℕ)) (left : List ℕ) (old new : Content)
    (text : List ℕ) (fault : ScriptFault) : Type 0 where
  pub lines : List (List ℕ)
  pub first : AreFirst lines text
  pub ends : EndsLines how count before held after left old new lines fault

-- a fault of the output is told where the writer had it, and nowhere else
abbrev pub LineFaultIs : {X : Type 0} → Result X ScriptFault → (failed_old failed_new : Bool) → (stalls_old stalls_new : ℕ) → Type 0
LineFaultIs (Ok x) failed_old failed_new old new = (failed_new ≡ failed_old) × (new ≡ old)
LineFaultIs (Err WriteFault) failed_old failed_new old new = (failed_new ≡ true) ⊎ (new ≡ counted_once_more old)
LineFaultIs (Err fault) failed_old failed_new old new = (failed_new ≡ failed_old) × (new ≡ old)

-- WriteFault is answered only where the output of an exchange had it
abbrev pub AnswersLineFault : {R W X : Type 0} → (old new : Exchange R W) → Result X ScriptFault → Type 0
AnswersLineFault old new result =
    LineFaultIs result (device_failed (output_of old)) (device_failed (output_of new))
    (device_stalls (output_of old)) (device_stalls (output_of new))

-- the same of an exchange, and of a session that counts the lines
abbrev pub ServesTextOn : {R W : Type 0} → (W → Option (List ℕ)) → Session → Session → Exchange R W → Exchange R W → Content → Content → (text part : List ℕ) → Type 0
ServesTextOn contents session next x y old new text part =
    ServesText session.manner (count_of session) (count_of next) (contents (device_inner (output_of x))) (held_in x) (contents (device_inner (output_of y))) (held_in y) old new text part

abbrev pub EndsTextOn : {R W : Type 0} → (W → Option (List ℕ)) → Session → Exchange R W → Exchange R W → Content → Content → List ℕ → ScriptFault → Type 0
EndsTextOn contents session x y old new text fault =
    EndsText session.manner (count_of session) (contents (device_inner (output_of x))) (held_in x) (contents (device_inner (output_of y))) (held_in y) old new text fault

-- the text is served up to its part of a line, or the script ends in it
abbrev pub RunsText : {R W X : Type 0} → (W → Option (List ℕ)) → Session → Session → Exchange R W → Exchange R W → Content → Content → (text part : List ℕ) → Result X ScriptFault → Type 0
RunsText contents session next x y old new text part result =
    MatchResult result (λ done. ServesTextOn contents session next x y old new text part) (λ fault. EndsTextOn contents session x y old new text fault)

-- what is left behind the last line feed is a line, unless it is empty
abbrev pub RunsRest : {R W X : Type 0} → (W → Option (List ℕ)) → Session → Exchange R W → Exchange R W → Content → Content → (part : List ℕ) → Result X ScriptFault → Type 0
RunsRest contents session x y old new part result =
    MatchResult result
    (λ done. ServesLines session.manner (contents (device_inner (output_of x))) (held_in x) (contents (device_inner (output_of y))) (held_in y) old new (without_empty_end (part ∷ [])) None)
    (λ fault. EndsLines session.manner (count_of session) (contents (device_inner (output_of x))) (held_in x) (contents (device_inner (output_of y))) (held_in y) old new (without_empty_end (part ∷ [])) fault)

-- ---- what is reported

-- the bad lines among these, which a session comes to, are reported, or the first of them if the script ends here
abbrev pub ReportsBad : {B X : Type 0} → (B → ℕ → B → Type 0) → Session → List (List ℕ) → (old new : B) → Result X ScriptFault → Type 0
ReportsBad reports session lines old new result = ReportsLines reports session.manner.patient (count_of session) lines old new result

-- ---- all pieces of an input

-- the input was read to its end, and all its lines are served
pub record ServesInput (how : Manner) (Reported : List ℕ → Type 0) (from to before after : Option (List ℕ)) (left : List ℕ) (old new : Content) : Type 0 where
  pub text : List ℕ
  pub read : Consumes from to text
  pub whole : IsAtEnd to
  pub serves : ServesLines how before [] after left old new (lines_of text) None
  pub reported : Reported (passed how.patient 0 (lines_of text))

-- this was read, and its whole lines are served and answered
pub record ServesWhole (how : Manner) (Reported : List ℕ → Type 0) (from to before after : Option (List ℕ)) (left : List ℕ) (old new : Content) : Type 0 where
  pub text : List ℕ
  pub read : Consumes from to text
  pub sent : left ≡ []
  pub serves : ServesLines how before [] after left old new (whole_lines text) None
  pub reported : Reported (passed how.patient 0 (whole_lines text))

-- this was read, and the script ends in it
pub record EndsInput (how : Manner) (Reported : List ℕ → Type 0) (from to before after : Option (List ℕ)) (left : List ℕ) (old new : Content) (fault : ScriptFault) : Type 0 where
  pub text : List ℕ
  pub read : Consumes from to text
  pub ends : EndsLines how 0 before [] after left old new (lines_of text) fault
  pub numbers : List ℕ
  pub others : List ℕ
  pub bad : passed how.patient 0 (lines_of text) ≡ numbers ++ others
  pub reported : Reported numbers

abbrev pub RunsInput : {X : Type 0} → Manner → (List ℕ → Type 0) → (from to before after : Option (List ℕ)) → List ℕ → Content → Content → Result X ScriptFault → Type 0
RunsInput how Reported from to before after left old new (Ok done) = ServesInput how Reported from to before after left old new
RunsInput how Reported from to before after left old new (Err ReadFault) = ServesWhole how Reported from to before after left old new
RunsInput how Reported from to before after left old new (Err (BadLine line)) = EndsInput how Reported from to before after left old new (BadLine line)
RunsInput how Reported from to before after left old new (Err OutOfMemory) = EndsInput how Reported from to before after left old new OutOfMemory
RunsInput how Reported from to before after left old new (Err WriteFault) = EndsInput how Reported from to before after left old new WriteFault

-- the same of an exchange
abbrev pub RunsPieces : {R W X : Type 0} → (R → Option (List ℕ)) → (W → Option (List ℕ)) → Manner → (List ℕ → Type 0) → Exchange R W → Exchange R W → Content → Content → Result X ScriptFault → Type 0
RunsPieces remaining contents how Reported x y old new result =
    RunsInput how Reported (remaining (device_inner (input_of x))) (remaining (device_inner (input_of y))) (contents (device_inner (output_of x))) (contents (device_inner (output_of y)))
    (held_in y) old new result

-- a device's fault is told where the device had it, and nowhere else; the output did not stall before
abbrev pub PieceFaultsAre : {R W X : Type 0} → Exchange R W → Exchange R W → Result X ScriptFault → Type 0
PieceFaultsAre x y (Err ReadFault) =
    ((device_failed (input_of y) ≡ true) ⊎ (device_reads (input_of y) ≡ reads_from (device_reads (input_of x)) most_reads)) × (device_failed (output_of y) ≡ false)
PieceFaultsAre x y (Err WriteFault) =
    (device_failed (input_of y) ≡ false) × ((device_failed (output_of y) ≡ true) ⊎ (device_stalls (output_of y) ≡ counted_once_more (device_stalls (output_of x))))
PieceFaultsAre x y result =
    (device_failed (input_of y) ≡ false) × (device_failed (output_of y) ≡ false) × (device_stalls (output_of y) ≡ device_stalls (output_of x))

-- whether the script ended since a device failed
abbrev pub ends_cut_off : {X : Type 0} → Result X ScriptFault → Bool
ends_cut_off (Err ReadFault) = true
ends_cut_off (Err WriteFault) = true
ends_cut_off _ = false
