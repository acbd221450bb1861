-- The first path in frames, byte for byte: an object is made and written by one connection, and read by another. Own.
use Rattle.std.specs.Prelude.{◌≡◌, ℕ, List, [], ◌∷◌, ◌++◌, true, false, Result, Ok, codes, map}
use Rattle.std.specs.List.{flat_map}
use Rattle.pps_types.specs.declared.event.Request.TheVariants as asks
use Rattle.pps_types.specs.declared.event.Event.{Event}
use Rattle.pps_types.specs.declared.outcome.Outcome.{Outcome}
use Rattle.pps_types.specs.declared.outcome.Outcome.TheVariants as outcomes
use Rattle.pps_types.specs.declared.refusal.Refusal.{Refusal}
use Rattle.pps_types.specs.Frame.{read_stream, stream_of, answer_frame, bad_frame, Clean, Truncated, Malformed}

abbrev pub line_feed : List ℕ
line_feed = 10 ∷ []

-- ---- what is asked

abbrev pub request_frames : List (List ℕ)
request_frames =
    (0 ∷ 0 ∷ 0 ∷ 3 ∷ 1 ∷ 0 ∷ 1 ∷ []) ∷
    (0 ∷ 0 ∷ 0 ∷ 8 ∷ 3 ∷ 0 ∷ 1 ∷ 7 ∷ 0x2f ∷ 0x67 ∷ 0x70 ∷ 0x73 ∷ []) ∷
    (0 ∷ 0 ∷ 0 ∷ 0x12 ∷ 5 ∷ 0 ∷ 1 ∷ 0 ∷ 0 ∷ 0 ∷ 1 ∷
    0x73 ∷ 0x70 ∷ 0x65 ∷ 0x65 ∷ 0x64 ∷ 0x3a ∷ 0x6e ∷ 0x3a ∷ 0x36 ∷ 0x35 ∷ 0x0a ∷ []) ∷
    (0 ∷ 0 ∷ 0 ∷ 3 ∷ 1 ∷ 0 ∷ 2 ∷ []) ∷
    (0 ∷ 0 ∷ 0 ∷ 8 ∷ 3 ∷ 0 ∷ 2 ∷ 1 ∷ 0x2f ∷ 0x67 ∷ 0x70 ∷ 0x73 ∷ []) ∷
    (0 ∷ 0 ∷ 0 ∷ 0x0b ∷ 4 ∷ 0 ∷ 2 ∷ 0 ∷ 0 ∷ 0 ∷ 2 ∷ 0 ∷ 0 ∷ 0x10 ∷ 0 ∷ []) ∷
    (0 ∷ 0 ∷ 0 ∷ 0x0b ∷ 4 ∷ 0 ∷ 2 ∷ 0 ∷ 0 ∷ 0 ∷ 2 ∷ 0 ∷ 0 ∷ 0x10 ∷ 0 ∷ []) ∷
    []

abbrev pub requests : List ℕ
requests = flat_map (λ bytes. bytes) request_frames

abbrev pub events : List Event
events =
    record { conn = 1; request = asks.Attach } ∷
    record { conn = 1; request = asks.Open (record { r = true; w = true; c = true; t = false }) (codes "/gps") } ∷
    record { conn = 1; request = asks.Write 1 (codes "speed:n:65" ++ line_feed) } ∷
    record { conn = 2; request = asks.Attach } ∷
    record { conn = 2; request = asks.Open (record { r = true; w = false; c = false; t = false }) (codes "/gps") } ∷
    record { conn = 2; request = asks.Read 2 4096 } ∷
    record { conn = 2; request = asks.Read 2 4096 } ∷
    []

-- ---- what is answered

abbrev pub answer_frames : List (List ℕ)
answer_frames =
    (0 ∷ 0 ∷ 0 ∷ 3 ∷ 0 ∷ 1 ∷ 1 ∷ []) ∷
    (0 ∷ 0 ∷ 0 ∷ 7 ∷ 0 ∷ 1 ∷ 2 ∷ 0 ∷ 0 ∷ 0 ∷ 1 ∷ []) ∷
    (0 ∷ 0 ∷ 0 ∷ 7 ∷ 0 ∷ 1 ∷ 4 ∷ 0 ∷ 0 ∷ 0 ∷ 0x0b ∷ []) ∷
    (0 ∷ 0 ∷ 0 ∷ 3 ∷ 0 ∷ 2 ∷ 1 ∷ []) ∷
    (0 ∷ 0 ∷ 0 ∷ 7 ∷ 0 ∷ 2 ∷ 2 ∷ 0 ∷ 0 ∷ 0 ∷ 2 ∷ []) ∷
    (0 ∷ 0 ∷ 0 ∷ 0x13 ∷ 0 ∷ 2 ∷ 3 ∷
    0x40 ∷ 0x67 ∷ 0x70 ∷ 0x73 ∷ 0x0a ∷
    0x73 ∷ 0x70 ∷ 0x65 ∷ 0x65 ∷ 0x64 ∷ 0x3a ∷ 0x6e ∷ 0x3a ∷ 0x36 ∷ 0x35 ∷ 0x0a ∷ []) ∷
    (0 ∷ 0 ∷ 0 ∷ 3 ∷ 0 ∷ 2 ∷ 3 ∷ []) ∷
    []

-- each answer with its connection
abbrev pub answers : List (ℕ × Result Outcome Refusal)
answers =
    (1, Ok outcomes.Done) ∷
    (1, Ok (outcomes.Opened 1)) ∷
    (1, Ok (outcomes.Wrote 11)) ∷
    (2, Ok outcomes.Done) ∷
    (2, Ok (outcomes.Opened 2)) ∷
    (2, Ok (outcomes.Data (codes "@gps" ++ line_feed ++ codes "speed:n:65" ++ line_feed))) ∷
    (2, Ok (outcomes.Data [])) ∷
    []

-- ---- what is claimed

-- the frames are read as the events, and the stream ends cleanly
abbrev pub RequestsAreRead : Type 0
RequestsAreRead = read_stream requests ≡ record { events = events; rest = []; ending = Clean }

-- the events are spelled by these frames
abbrev pub EventsAreSpelled : Type 0
EventsAreSpelled = stream_of events [] ≡ requests

-- the answers are spelled by these frames
abbrev pub AnswersAreSpelled : Type 0
AnswersAreSpelled = map (λ entry. answer_frame entry.0 entry.1) answers ≡ answer_frames

-- the frame that answers a malformed one
abbrev pub BadFrameIsSpelled : Type 0
BadFrameIsSpelled = bad_frame ≡ 0 ∷ 0 ∷ 0 ∷ 8 ∷ 0 ∷ 0 ∷ 0 ∷ 2 ∷ 0 ∷ 0 ∷ 0 ∷ 0 ∷ []

-- a length of 0 behind the frames is malformed
abbrev pub LengthOfZeroIsMalformed : Type 0
LengthOfZeroIsMalformed =
    let behind : List ℕ = 0 ∷ 0 ∷ 0 ∷ 0 ∷ [] in
    read_stream (requests ++ behind) ≡ record { events = events; rest = behind; ending = Malformed }

-- five bytes of a frame of seven behind the frames are a rest
abbrev pub FiveBytesAreARest : Type 0
FiveBytesAreARest =
    let behind : List ℕ = 0 ∷ 0 ∷ 0 ∷ 3 ∷ 1 ∷ [] in
    read_stream (requests ++ behind) ≡ record { events = events; rest = behind; ending = Truncated }
