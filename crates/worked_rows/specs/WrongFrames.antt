-- Frames that are malformed, and the longest that is not. Own.
use Rattle.std.specs.Prelude.{◌≡◌, ℕ, List, [], ◌∷◌, map}
use Rattle.pps_types.specs.Frame.{read_stream, StreamReading, Truncated, Malformed}

-- The first two are told by their length alone.
abbrev pub wrong_frames : List (List ℕ)
wrong_frames =
    -- a body of two bytes
    (0 ∷ 0 ∷ 0 ∷ 2 ∷ []) ∷
    -- a body of one byte too many
    (0 ∷ 2 ∷ 0 ∷ 1 ∷ []) ∷
    -- kind 0
    (0 ∷ 0 ∷ 0 ∷ 3 ∷ 0 ∷ 0 ∷ 1 ∷ []) ∷
    -- kind 12
    (0 ∷ 0 ∷ 0 ∷ 3 ∷ 0x0c ∷ 0 ∷ 1 ∷ []) ∷
    -- a size cut short
    (0 ∷ 0 ∷ 0 ∷ 0x0a ∷ 4 ∷ 0 ∷ 1 ∷ 0 ∷ 0 ∷ 0 ∷ 1 ∷ 0 ∷ 0 ∷ 0x10 ∷ []) ∷
    -- a byte left over
    (0 ∷ 0 ∷ 0 ∷ 0x0c ∷ 4 ∷ 0 ∷ 1 ∷ 0 ∷ 0 ∷ 0 ∷ 1 ∷ 0 ∷ 0 ∷ 0x10 ∷ 0 ∷ 0 ∷ []) ∷
    -- a mode above 15
    (0 ∷ 0 ∷ 0 ∷ 8 ∷ 3 ∷ 0 ∷ 1 ∷ 0x10 ∷ 0x2f ∷ 0x67 ∷ 0x70 ∷ 0x73 ∷ []) ∷
    -- action 0
    (0 ∷ 0 ∷ 0 ∷ 0x0d ∷ 0x0a ∷ 0 ∷ 1 ∷ 0 ∷ 0 ∷ 0 ∷ 1 ∷ 0 ∷ 5 ∷ 0 ∷ 0 ∷ 0 ∷ 7 ∷ []) ∷
    -- action 4
    (0 ∷ 0 ∷ 0 ∷ 0x0d ∷ 0x0a ∷ 0 ∷ 1 ∷ 0 ∷ 0 ∷ 0 ∷ 1 ∷ 4 ∷ 5 ∷ 0 ∷ 0 ∷ 0 ∷ 7 ∷ []) ∷
    []

-- no event is read, and the stream ends at these bytes
abbrev pub wrong_at_once : List ℕ → StreamReading
wrong_at_once bytes = record { events = []; rest = bytes; ending = Malformed }

abbrev pub WrongFramesAreMalformed : Type 0
WrongFramesAreMalformed = map read_stream wrong_frames ≡ map wrong_at_once wrong_frames

-- the longest body that a frame may have: its length alone is the beginning of a frame
abbrev pub LongestBodyIsAwaited : Type 0
LongestBodyIsAwaited =
    let bytes : List ℕ = 0 ∷ 2 ∷ 0 ∷ 0 ∷ [] in
    read_stream bytes ≡ record { events = []; rest = bytes; ending = Truncated }
