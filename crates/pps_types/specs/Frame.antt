-- The frames of requests and of answers: how each is spelled, how bytes are read back, and how a stream of frames ends. Own.
-- To be believed is how requests and answers are spelled and what a stream is. How a body and a stream are read back follows from it: that
-- reading is the inverse of spelling, and the only one there is, is proved (FrameLaws).
use Rattle.std.specs.Prelude.{◌≡◌, ◌≢◌, ◌⊎◌, ℕ, zero, suc, ◌+◌, ◌/◌, ◌%◌, ◌^◌, ◌<◌, ◌≤◌, ◌==◌, nat_lt, Bool, true, false, ◌||◌}
use Rattle.std.specs.Prelude.{if◌then◌else◌}
use Rattle.std.specs.Prelude.{List, [], ◌∷◌, ◌++◌, length, take, drop, slice_index, All, Option, Some, None, Result, Ok, Err}
use Rattle.std.specs.List.{flat_map}
use Rattle.std.specs.Option.{option_map}
use Rattle.std.specs.Int.{w16, w32, to_be_bytes, from_be_bytes}
use Rattle.pps_types.specs.declared.event.Mode.{Mode}
use Rattle.pps_types.specs.declared.event.Action.{Action}
use Rattle.pps_types.specs.declared.event.Action.TheVariants.{Poll, Pollarm, Tranarm}
use Rattle.pps_types.specs.declared.event.Request.{Request}
use Rattle.pps_types.specs.declared.event.Request.TheVariants as asks
use Rattle.pps_types.specs.declared.event.Event.{Event}
use Rattle.pps_types.specs.declared.outcome.Item.TheVariants as items
use Rattle.pps_types.specs.declared.outcome.Outcome.{Outcome}
use Rattle.pps_types.specs.declared.outcome.Outcome.TheVariants as outcomes
use Rattle.pps_types.specs.declared.refusal.Refusal.{Refusal}
use Rattle.pps_types.specs.declared.refusal.Refusal.TheVariants.{BadFrame}
use Rattle.pps_types.specs.Refusal.{number_of, argument_of}

-- ---- numbers, the highest byte first

abbrev pub two_bytes : ℕ → List ℕ
two_bytes n = to_be_bytes w16 n

abbrev pub four_bytes : ℕ → List ℕ
four_bytes n = to_be_bytes w32 n

abbrev pub from_two : ℕ → ℕ → ℕ
from_two a b = from_be_bytes w16 (a ∷ b ∷ [])

abbrev pub from_four : ℕ → ℕ → ℕ → ℕ → ℕ
from_four a b c d = from_be_bytes w32 (a ∷ b ∷ c ∷ d ∷ [])

-- each of these numbers is a byte
abbrev pub IsBytes : List ℕ → Type 0
IsBytes bytes = (i : ℕ) → slice_index bytes i < 256

-- a frame: the length of its body in four bytes, and the body
abbrev pub framed : List ℕ → List ℕ
framed bytes = four_bytes (length bytes) ++ bytes

-- ---- requests: how each is spelled

abbrev pub value_if : Bool → ℕ → ℕ
value_if set value = if set then value else 0

-- 1 for read, 2 for write, 4 for create and 8 for truncate, added up
abbrev pub mode_byte : Mode → ℕ
mode_byte mode = value_if mode.r 1 + value_if mode.w 2 + value_if mode.c 4 + value_if mode.t 8

abbrev pub action_byte : Action → ℕ
action_byte Poll = 1
action_byte Pollarm = 2
action_byte Tranarm = 3

abbrev pub request_kind : Request → ℕ
request_kind asks.Attach = 1
request_kind asks.Detach = 2
request_kind (asks.Open mode text) = 3
request_kind (asks.Read handle size) = 4
request_kind (asks.Write handle bytes) = 5
request_kind (asks.Close handle) = 6
request_kind (asks.Unlink path) = 7
request_kind (asks.Mkdir path) = 8
request_kind (asks.List path) = 9
request_kind (asks.Notify handle action code value) = 10
request_kind asks.Receive = 11

abbrev pub request_fields : Request → List ℕ
request_fields asks.Attach = []
request_fields asks.Detach = []
request_fields (asks.Open mode text) = mode_byte mode ∷ text
request_fields (asks.Read handle size) = four_bytes handle ++ four_bytes size
request_fields (asks.Write handle bytes) = four_bytes handle ++ bytes
request_fields (asks.Close handle) = four_bytes handle
request_fields (asks.Unlink path) = path
request_fields (asks.Mkdir path) = path
request_fields (asks.List path) = path
request_fields (asks.Notify handle action code value) = four_bytes handle ++ action_byte action ∷ code ∷ four_bytes value
request_fields asks.Receive = []

-- the body of a request's frame: its kind, its connection in two bytes, and its fields
abbrev pub event_body : Event → List ℕ
event_body event = request_kind event.request ∷ (two_bytes event.conn ++ request_fields event.request)

abbrev pub frame : Event → List ℕ
frame event = framed (event_body event)

-- the numbers of a request fit their fields
abbrev pub FitsFields : Request → Type 0
FitsFields (asks.Read handle size) = (handle < 2 ^ 32) × (size < 2 ^ 32)
FitsFields (asks.Write handle bytes) = handle < 2 ^ 32
FitsFields (asks.Close handle) = handle < 2 ^ 32
FitsFields (asks.Notify handle action code value) = (handle < 2 ^ 32) × (code < 256) × (value < 2 ^ 32)
FitsFields _ = Unit {0}

-- all numbers of an event fit, so that its body can be read back
pub record IsEvent (event : Event) : Type 0 where
  pub conn : event.conn < 2 ^ 16
  pub request : FitsFields event.request

abbrev pub longest_body : ℕ
longest_body = 131072

-- an event that has a frame: it fits, and its body is not too long
pub record HasFrame (event : Event) : Type 0 where
  pub fits : IsEvent event
  pub short : length (event_body event) ≤ longest_body

-- ---- requests: how a body is read

-- whether the digit of this value is set
abbrev pub is_set : ℕ → ℕ → Bool
is_set byte value = byte / value % 2 == 1

abbrev pub mode_of : ℕ → Option Mode
mode_of byte =
    if nat_lt byte 16 then Some (record { r = is_set byte 1; w = is_set byte 2; c = is_set byte 4; t = is_set byte 8 }) else None

abbrev pub action_of : ℕ → Option Action
action_of byte = if byte == 1 then Some Poll else (if byte == 2 then Some Pollarm else (if byte == 3 then Some Tranarm else None))

-- a request without fields: no byte may be left over
abbrev pub without_fields : Request → List ℕ → Option Request
without_fields request [] = Some request
without_fields request (byte ∷ bytes) = None

abbrev pub open_request : List ℕ → Option Request
open_request [] = None
open_request (mode ∷ text) = option_map (λ letters. asks.Open letters text) (mode_of mode)

abbrev pub read_request : List ℕ → Option Request
read_request (a ∷ b ∷ c ∷ d ∷ e ∷ f ∷ g ∷ h ∷ []) = Some (asks.Read (from_four a b c d) (from_four e f g h))
read_request _ = None

abbrev pub write_request : List ℕ → Option Request
write_request (a ∷ b ∷ c ∷ d ∷ bytes) = Some (asks.Write (from_four a b c d) bytes)
write_request _ = None

abbrev pub close_request : List ℕ → Option Request
close_request (a ∷ b ∷ c ∷ d ∷ []) = Some (asks.Close (from_four a b c d))
close_request _ = None

abbrev pub notify_request : List ℕ → Option Request
notify_request (a ∷ b ∷ c ∷ d ∷ action ∷ code ∷ e ∷ f ∷ g ∷ h ∷ []) =
    option_map (λ wanted. asks.Notify (from_four a b c d) wanted code (from_four e f g h)) (action_of action)
notify_request _ = None

-- the request of this kind with these fields
unfoldable pub request_of : ℕ → List ℕ → Option Request
request_of kind bytes =
    if kind == 1 then without_fields asks.Attach bytes else (
    if kind == 2 then without_fields asks.Detach bytes else (
    if kind == 3 then open_request bytes else (
    if kind == 4 then read_request bytes else (
    if kind == 5 then write_request bytes else (
    if kind == 6 then close_request bytes else (
    if kind == 7 then Some (asks.Unlink bytes) else (
    if kind == 8 then Some (asks.Mkdir bytes) else (
    if kind == 9 then Some (asks.List bytes) else (
    if kind == 10 then notify_request bytes else (
    if kind == 11 then without_fields asks.Receive bytes else None))))))))))

-- the event that has this body
unfoldable pub event_of : List ℕ → Option Event
event_of (kind ∷ a ∷ b ∷ bytes) = option_map (λ request. record { conn = from_two a b; request = request }) (request_of kind bytes)
event_of _ = None

-- ---- streams of requests: what they are

-- these events' frames, and then the rest
abbrev pub stream_of : List Event → List ℕ → List ℕ
stream_of events rest = flat_map frame events ++ rest

-- the length that the first four bytes tell
abbrev pub told : List ℕ → ℕ
told bytes = from_be_bytes w32 (take 4 bytes)

-- less than a whole frame, and so far nothing is wrong with it
pub record IsPartial (bytes : List ℕ) : Type 0 where
  pub so_far : 4 ≤ length bytes → (3 ≤ told bytes) × (told bytes ≤ longest_body) × (length bytes < 4 + told bytes)

-- no event has this body
abbrev pub IsNoBody : List ℕ → Type 0
IsNoBody bytes = (event : Event) → IsEvent event → event_body event ≢ bytes

-- A malformed frame begins here. A wrong length shows once its four bytes are there, a wrong body once the frame is whole.
pub data IsMalformed (bytes : List ℕ) : Type 0 where
  too_short : 4 ≤ length bytes → told bytes < 3 → IsMalformed bytes
  too_long : 4 ≤ length bytes → longest_body < told bytes → IsMalformed bytes
  no_event : 4 + told bytes ≤ length bytes → IsNoBody (take (told bytes) (drop 4 bytes)) → IsMalformed bytes

-- where the whole frames of a stream end: before less than a frame, or before a malformed one
abbrev pub IsEnd : List ℕ → Type 0
IsEnd bytes = IsPartial bytes ⊎ IsMalformed bytes

-- what a decoder holds: the bytes behind the last whole frame, and whether it met a malformed one
pub record Held : Type 0 where
  pub rest : List ℕ
  pub failed : Bool

-- A decoder has taken this stream: it is these events and what is held, or a malformed frame follows the events and nothing is held.
pub record Feeds (stream : List ℕ) (events : List Event) (bad : Bool) (new : Held) : Type 0 where
  pub each : All HasFrame events
  pub flag : new.failed ≡ bad
  pub good : bad ≡ false → (stream ≡ stream_of events new.rest) × IsPartial new.rest
  pub malformed : bad ≡ true → (new.rest ≡ []) × (tail : List ℕ) × (stream ≡ stream_of events tail) × IsMalformed tail

-- ---- streams of requests: how one is read

-- what stands at the front of a stream: a whole frame and the bytes behind it, less than a frame, or a malformed one
pub data Front : Type 0 where
  Whole : Event → List ℕ → Front
  Partial : Front
  Wrong : Front

-- the front where the whole frame is there: the event of its body, and the bytes behind it
abbrev pub whole_front : Option Event → List ℕ → Front
whole_front (Some event) rest = Whole event rest
whole_front None rest = Wrong

-- the front where the length has been read: whether it is out of range, and whether fewer bytes follow
abbrev pub front_behind : Bool → Bool → ℕ → List ℕ → Front
front_behind true fewer len bytes = Wrong
front_behind false true len bytes = Partial
front_behind false false len bytes = whole_front (event_of (take len bytes)) (drop len bytes)

unfoldable pub front_of : List ℕ → Front
front_of (a ∷ b ∷ c ∷ d ∷ bytes) =
    let len = from_four a b c d in
    front_behind (nat_lt len 3 || nat_lt longest_body len) (nat_lt (length bytes) len) len bytes
front_of _ = Partial

-- how a stream ends: behind a whole frame, within one, or at a malformed one
pub data Ending : Type 0 where
  Clean : Ending
  Truncated : Ending
  Malformed : Ending

-- a stream that was read: the events of its whole frames, the bytes behind them, and how it ends
pub record StreamReading : Type 0 where
  pub events : List Event
  pub rest : List ℕ
  pub ending : Ending

abbrev pub ending_within : List ℕ → Ending
ending_within [] = Clean
ending_within (byte ∷ bytes) = Truncated

abbrev pub behind_event : Event → StreamReading → StreamReading
behind_event event reading = record { events = event ∷ reading.events; rest = reading.rest; ending = reading.ending }

-- the reading of these bytes by their front, where `more` reads what stands behind a whole frame
abbrev pub by_front : (List ℕ → StreamReading) → List ℕ → Front → StreamReading
by_front more bytes (Whole event rest) = behind_event event (more rest)
by_front more bytes Partial = record { events = []; rest = bytes; ending = ending_within bytes }
by_front more bytes Wrong = record { events = []; rest = bytes; ending = Malformed }

-- at most this many frames are read
unfoldable pub read_frames : ℕ → List ℕ → StreamReading
read_frames zero bytes = record { events = []; rest = bytes; ending = ending_within bytes }
read_frames (suc count) bytes = by_front (read_frames count) bytes (front_of bytes)

-- a frame takes a byte and more, so there are no more frames than bytes
unfoldable pub read_stream : List ℕ → StreamReading
read_stream bytes = read_frames (length bytes) bytes

-- what the rest is where a stream ends so
abbrev pub EndsAs : Ending → List ℕ → Type 0
EndsAs Clean rest = rest ≡ []
EndsAs Truncated rest = (rest ≢ []) × IsPartial rest
EndsAs Malformed rest = IsMalformed rest

-- this reads the stream: it is the events' frames and then the rest, and it ends as is told
pub record IsReading (stream : List ℕ) (reading : StreamReading) : Type 0 where
  pub each : All HasFrame reading.events
  pub parts : stream ≡ stream_of reading.events reading.rest
  pub ends : EndsAs reading.ending reading.rest

-- ---- answers

-- a refusal's number, and what it carries
abbrev pub refusal_fields : Refusal → List ℕ
refusal_fields refusal = number_of refusal ∷ four_bytes (argument_of refusal)

abbrev pub answer_tag : Result Outcome Refusal → ℕ
answer_tag (Err refusal) = 0
answer_tag (Ok outcomes.Done) = 1
answer_tag (Ok (outcomes.Opened handle)) = 2
answer_tag (Ok (outcomes.Data bytes)) = 3
answer_tag (Ok (outcomes.Wrote count)) = 4
answer_tag (Ok outcomes.Parked) = 5
answer_tag (Ok (outcomes.Input now)) = 6
answer_tag (Ok (outcomes.Item (items.Pulse code value))) = 7
answer_tag (Ok (outcomes.Item (items.ReadDone handle (Ok bytes)))) = 8
answer_tag (Ok (outcomes.Item (items.ReadDone handle (Err refusal)))) = 9
answer_tag (Ok outcomes.Empty) = 10

abbrev pub answer_fields : Result Outcome Refusal → List ℕ
answer_fields (Err refusal) = refusal_fields refusal
answer_fields (Ok outcomes.Done) = []
answer_fields (Ok (outcomes.Opened handle)) = four_bytes handle
answer_fields (Ok (outcomes.Data bytes)) = bytes
answer_fields (Ok (outcomes.Wrote count)) = four_bytes count
answer_fields (Ok outcomes.Parked) = []
answer_fields (Ok (outcomes.Input now)) = value_if now 1 ∷ []
answer_fields (Ok (outcomes.Item (items.Pulse code value))) = code ∷ four_bytes value
answer_fields (Ok (outcomes.Item (items.ReadDone handle (Ok bytes)))) = four_bytes handle ++ bytes
answer_fields (Ok (outcomes.Item (items.ReadDone handle (Err refusal)))) = four_bytes handle ++ refusal_fields refusal
answer_fields (Ok outcomes.Empty) = []

-- the body of an answer's frame: the connection in two bytes, the tag and the fields
abbrev pub answer_body : ℕ → Result Outcome Refusal → List ℕ
answer_body conn answer = two_bytes conn ++ answer_tag answer ∷ answer_fields answer

abbrev pub answer_frame : ℕ → Result Outcome Refusal → List ℕ
answer_frame conn answer = framed (answer_body conn answer)

-- what is answered to a malformed frame, and to a rest at the end: it belongs to no connection, and carries 0
abbrev pub bad_frame : List ℕ
bad_frame = answer_frame 0 (Err BadFrame)

-- the connection that a request's body names: its second and third byte
abbrev pub conn_of : List ℕ → Option ℕ
conn_of (kind ∷ a ∷ b ∷ bytes) = Some (from_two a b)
conn_of _ = None

-- opens the reading of frames, for a computation
unfoldable pub frame_reading : ℕ
unfolding request_of event_of front_of read_frames read_stream
frame_reading = 0
