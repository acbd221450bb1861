-- What the parts of serving a stream do.
use Rattle.std.specs.Prelude.{◌≡◌, ◌⊎◌, ℕ, Bool, true, false, List, [], ◌++◌, All, Option, Result, Ok, Err}
use Rattle.std.specs.Io.KnownBytes.{Consumes}
use Rattle.pps_types.specs.declared.event.Event.{Event}
use Rattle.pps_types.specs.Content.{Content}
use Rattle.pps_types.specs.Device.{device_inner, device_failed, device_reads, device_stalls, counted_once_more}
use Rattle.pps_types.specs.Writing.{SendsPart, Holds}
use Rattle.pps_types.specs.declared.exchange.Exchange.{Exchange}
use Rattle.pps_types.specs.Exchange.{input_of, output_of, held_in}
use Rattle.pps_types.specs.Frame.{HasFrame, stream_of, Held, Feeds}
use Rattle.pps_types.specs.Runs.{Answered, events_of}
use Rattle.pps_types.specs.Stands.{RunsSeen}
use Rattle.frame_codec.specs.declared.ends.Ended.{Ended}
use Rattle.pps_frame.specs.declared.ends.RunError.{RunError}
use Rattle.pps_frame.specs.declared.ends.RunError.TheVariants.{OutOfMemory, ReadFault, WriteFault}
use Rattle.frame_codec.specs.Ends.{IsTail}
use Rattle.pps_frame.specs.Served.{answers_of, closing, MayEnd, Serves, AnswersWhole, most_reads, reads_from}

-- ---- bytes that answer, after those that were held

-- the first of these bytes are written or held
pub record HoldsFirst (before : Option (List ℕ)) (held : List ℕ) (after : Option (List ℕ)) (left bytes : List ℕ) : Type 0 where
  pub first : List ℕ
  pub others : List ℕ
  pub parts : bytes ≡ first ++ others
  pub written : Holds before after left (held ++ first)

-- what became of these bytes if this fault came before all of them were taken
abbrev pub AnswersFirst : RunError → Option (List ℕ) → List ℕ → Option (List ℕ) → (left bytes : List ℕ) → Type 0
AnswersFirst OutOfMemory before held after left bytes = HoldsFirst before held after left bytes
AnswersFirst WriteFault before held after left bytes = SendsPart before after (held ++ bytes)
AnswersFirst ReadFault before held after left bytes = ⊥

-- ---- events

-- all of these events are served and answered
pub record ServesAll (before : Option (List ℕ)) (held : List ℕ) (after : Option (List ℕ)) (left : List ℕ) (old new : Content)
    (events : List Event) : Type 0 where
  pub answered : List Answered
  pub same : events_of answered ≡ events
  pub seen : RunsSeen old answered new
  pub written : Holds before after left (held ++ answers_of answered)

-- the first of these events are served, and of their answers the first bytes are taken
pub record ServesPart (fault : RunError) (before : Option (List ℕ)) (held : List ℕ) (after : Option (List ℕ)) (left : List ℕ)
    (old new : Content) (events : List Event) : Type 0 where
  pub answered : List Answered
  pub more : List Event
  pub parts : events ≡ events_of answered ++ more
  pub seen : RunsSeen old answered new
  pub written : AnswersFirst fault before held after left (answers_of answered)

abbrev pub ServesOr : {X : Type 0} → Option (List ℕ) → List ℕ → Option (List ℕ) → List ℕ → Content → Content → List Event
    → Result X RunError → Type 0
ServesOr before held after left old new events (Ok done) = ServesAll before held after left old new events
ServesOr before held after left old new events (Err fault) = ServesPart fault before held after left old new events

-- the same of an exchange
abbrev pub ServesEvents : {R W X : Type 0} → (W → Option (List ℕ)) → Exchange R W → Exchange R W → Content → Content → List Event
    → Result X RunError → Type 0
ServesEvents contents x y old new events result =
    ServesOr (contents (device_inner (output_of x))) (held_in x) (contents (device_inner (output_of y))) (held_in y) old new events result

-- ---- pieces of a stream

-- the events of a piece are served and answered
pub record ServesPiece (before : Option (List ℕ)) (held : List ℕ) (after : Option (List ℕ)) (left : List ℕ) (old new : Content)
    (stream : List ℕ) (rest : Held) (bad : Bool) : Type 0 where
  pub answered : List Answered
  pub fed : Feeds stream (events_of answered) bad rest
  pub seen : RunsSeen old answered new
  pub written : Holds before after left (held ++ answers_of answered)

-- the first events of a piece are served, and of their answers the first bytes are taken
pub record StopsInPiece (fault : RunError) (before : Option (List ℕ)) (held : List ℕ) (after : Option (List ℕ)) (left : List ℕ)
    (old new : Content) (stream : List ℕ) : Type 0 where
  pub answered : List Answered
  pub tail : List ℕ
  pub each : All HasFrame (events_of answered)
  pub whole : stream ≡ stream_of (events_of answered) tail
  pub seen : RunsSeen old answered new
  pub written : AnswersFirst fault before held after left (answers_of answered)

abbrev pub ServesPieceOr : Option (List ℕ) → List ℕ → Option (List ℕ) → List ℕ → Content → Content → List ℕ → Held → Result Bool RunError → Type 0
ServesPieceOr before held after left old new stream rest (Ok bad) = ServesPiece before held after left old new stream rest bad
ServesPieceOr before held after left old new stream rest (Err fault) = StopsInPiece fault before held after left old new stream

-- the same of an exchange
abbrev pub TakesPiece : {R W : Type 0} → (W → Option (List ℕ)) → Exchange R W → Exchange R W → Content → Content → List ℕ → Held
    → Result Bool RunError → Type 0
TakesPiece contents x y old new stream rest result =
    ServesPieceOr (contents (device_inner (output_of x))) (held_in x) (contents (device_inner (output_of y))) (held_in y) old new stream rest result

-- the end is answered, if it is no clean one
abbrev pub AnswersEndOr : Option (List ℕ) → List ℕ → Option (List ℕ) → List ℕ → Ended → Result Ended RunError → Type 0
AnswersEndOr before held after left ended (Ok said) = (said ≡ ended) × Holds before after left (held ++ closing ended)
AnswersEndOr before held after left ended (Err fault) = AnswersFirst fault before held after left (closing ended)

-- the same of an exchange
abbrev pub AnswersEnd : {R W : Type 0} → (W → Option (List ℕ)) → Exchange R W → Exchange R W → Ended → Result Ended RunError → Type 0
AnswersEnd contents x y ended result =
    AnswersEndOr (contents (device_inner (output_of x))) (held_in x) (contents (device_inner (output_of y))) (held_in y) ended result

-- a fault of the output is reported where the writer had it, and nowhere else
abbrev pub WriteFaultIs : {X : Type 0} → Result X RunError → (failed_old failed_new : Bool) → (stalls_old stalls_new : ℕ) → Type 0
WriteFaultIs (Ok x) failed_old failed_new old new = (failed_new ≡ failed_old) × (new ≡ old)
WriteFaultIs (Err WriteFault) failed_old failed_new old new = (failed_new ≡ true) ⊎ (new ≡ counted_once_more old)
WriteFaultIs (Err fault) failed_old failed_new old new = (failed_new ≡ failed_old) × (new ≡ old)

-- ---- all pieces of a stream

-- so far: these bytes come after the frames that were read and answered
pub record Goes (from to before after : Option (List ℕ)) (left : List ℕ) (old new : Content) (tail : List ℕ) : Type 0 where
  pub answered : List Answered
  pub each : All HasFrame (events_of answered)
  pub read : Consumes from to (stream_of (events_of answered) tail)
  pub seen : RunsSeen old answered new
  pub written : Holds before after left (answers_of answered)

-- all whole frames that were read are answered, and then the end is
pub record HoldsAll (from to before after : Option (List ℕ)) (left : List ℕ) (old new : Content) (ended : Ended) : Type 0 where
  pub answered : List Answered
  pub tail : List ℕ
  pub served : Serves from to old new answered tail
  pub behind : IsTail ended tail to
  pub written : Holds before after left (answers_of answered ++ closing ended)

-- the first whole frames that were read are taken, and of what answers them the first bytes
pub record StopsStream (fault : RunError) (from to before after : Option (List ℕ)) (left : List ℕ) (old new : Content) : Type 0 where
  pub answered : List Answered
  pub tail : List ℕ
  pub ended : Ended
  pub served : Serves from to old new answered tail
  pub behind : MayEnd ended tail to
  pub written : AnswersFirst fault before [] after left (answers_of answered ++ closing ended)

abbrev pub RunsStream : (from to before after : Option (List ℕ)) → List ℕ → Content → Content → Result Ended RunError → Type 0
RunsStream from to before after left old new (Ok ended) = HoldsAll from to before after left old new ended
RunsStream from to before after left old new (Err ReadFault) = AnswersWhole from to before after old new
RunsStream from to before after left old new (Err OutOfMemory) = StopsStream OutOfMemory from to before after left old new
RunsStream from to before after left old new (Err WriteFault) = StopsStream WriteFault from to before after left old new

-- the same of an exchange
abbrev pub RunsPieces : {R W : Type 0} → (R → Option (List ℕ)) → (W → Option (List ℕ)) → Exchange R W → Exchange R W → Content → Content
    → Result Ended RunError → Type 0
RunsPieces remaining contents x y old new result =
    RunsStream (remaining (device_inner (input_of x))) (remaining (device_inner (input_of y))) (contents (device_inner (output_of x)))
    (contents (device_inner (output_of y))) (held_in y) old new result

-- a device's fault is reported where the device had it, and nowhere else; with any other result the output did not stall
abbrev pub PieceFaultsAre : {R W : Type 0} → Exchange R W → Exchange R W → Result Ended RunError → Type 0
PieceFaultsAre x y (Err ReadFault) =
    ((device_failed (input_of y) ≡ true) ⊎ (device_reads (input_of y) ≡ reads_from (device_reads (input_of x)) most_reads))
    × (device_failed (output_of y) ≡ false)
PieceFaultsAre x y (Err WriteFault) =
    (device_failed (input_of y) ≡ false)
    × ((device_failed (output_of y) ≡ true) ⊎ (device_stalls (output_of y) ≡ counted_once_more (device_stalls (output_of x))))
PieceFaultsAre x y result =
    (device_failed (input_of y) ≡ false) × (device_failed (output_of y) ≡ false) × (device_stalls (output_of y) ≡ device_stalls (output_of x))

-- whether the stream ended since a device failed
abbrev pub ends_cut_off : Result Ended RunError → Bool
ends_cut_off (Err ReadFault) = true
ends_cut_off (Err WriteFault) = true
ends_cut_off _ = false
