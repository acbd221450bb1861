-- What holds of frames: bodies and events tell one another, and a stream of frames is read in one way. Own.
use Rattle.std.specs.Prelude.{◌≡◌, ◌++◌, ℕ, List, [], Some, All}
use Rattle.pps_types.specs.declared.event.Event.{Event}
use Rattle.pps_types.specs.Frame.{IsBytes, event_body, event_of, conn_of, frame, IsEvent, HasFrame, stream_of, IsEnd, read_stream}
use Rattle.pps_types.specs.Frame.{IsReading}

-- the body of an event is read as that event
abbrev pub EventIsReadAgain : Type 0
EventIsReadAgain = (event : Event) → IsEvent event → event_of (event_body event) ≡ Some event

-- bytes that are read as an event are its body, and its numbers fit
abbrev pub ReadBytesAreTheBody : Type 0
ReadBytesAreTheBody =
    (bytes : List ℕ) (event : Event) → IsBytes bytes → event_of bytes ≡ Some event → IsEvent event × (event_body event ≡ bytes)

-- the connection that a body names is its event's
abbrev pub ConnIsRead : Type 0
ConnIsRead = (event : Event) → IsEvent event → conn_of (event_body event) ≡ Some event.conn

-- two events with the same frame are the same event
abbrev pub OneFrameIsOfOneEvent : Type 0
OneFrameIsOfOneEvent = (first second : Event) → HasFrame first → HasFrame second → frame first ≡ frame second → first ≡ second

-- where a frame begins with another, nothing more follows: no frame is a proper prefix of another
abbrev pub NoFrameBeginsAnother : Type 0
NoFrameBeginsAnother =
    (first second : Event) (more : List ℕ) → HasFrame first → HasFrame second → frame first ++ more ≡ frame second → more ≡ []

-- two readings of a stream, each up to less than a frame or up to a malformed one, are the same
abbrev pub StreamHasOneReading : Type 0
StreamHasOneReading =
    (events others : List Event) (rest other : List ℕ) → All HasFrame events → All HasFrame others
    → stream_of events rest ≡ stream_of others other → IsEnd rest → IsEnd other → (events ≡ others) × (rest ≡ other)

-- `read_stream` gives a reading of each stream of bytes
abbrev pub StreamIsRead : Type 0
StreamIsRead = (stream : List ℕ) → IsBytes stream → IsReading stream (read_stream stream)

-- and there is no other than what `read_stream` gives
abbrev pub ReadingIsTheOnlyOne : Type 0
ReadingIsTheOnlyOne =
    (stream : List ℕ) (events : List Event) (rest : List ℕ) → IsBytes stream → All HasFrame events → IsEnd rest
    → stream ≡ stream_of events rest → ((read_stream stream).events ≡ events) × ((read_stream stream).rest ≡ rest)
