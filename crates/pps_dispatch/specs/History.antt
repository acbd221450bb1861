-- The history that the segments make, and what of it each session is given.
use Rattle.std.specs.Prelude.{◌≡◌, ℕ, ◌+◌, ◌<◌, ◌==◌, if◌then◌else◌, List, [], ◌∷◌, ◌++◌, length, slice_index_or, map, Option, None, Some, Result, Ok, Err}
use Rattle.std.specs.List.{flat_map}
use Rattle.pps_types.specs.declared.event.Event.{Event}
use Rattle.pps_types.specs.Content.{Content}
use Rattle.pps_types.specs.Frame.{answer_frame}
use Rattle.pps_types.specs.Merge.{entries_of, IsMerge}
use Rattle.pps_types.specs.Runs.{Answered, events_of}
use Rattle.pps_engine.specs.Serving.{Serving}
use Rattle.pps_lock.specs.declared.book.Receipt.{Receipt}
use Rattle.pps_lock.specs.Trace.{Piece, Replays, receipt}
use Rattle.pps_dispatch.specs.Sessions.{Conversation, asked}

-- the pieces of a history
abbrev pub Pieces : Type 0
Pieces = List Piece

-- the entries of all segments, one behind the other
abbrev pub joined : List Piece → List Answered
joined [] = []
joined (p ∷ ps) = p.entries ++ joined ps

-- Each segment has the number behind that of the one before it and begins with what stood at its end; the entries lead from
-- there to its own end. The first number, what stands at first and what stands at last are given.
abbrev pub Joins : ℕ → Content → List Piece → Content → Type 0
Joins n c [] d = c ≡ d
Joins n c (p ∷ ps) d = (p.number ≡ n) × (p.base ≡ c) × Replays p.base p.entries p.end × Joins (n + 1) p.end ps d

-- from the one engine the segments' entries replay as one trace, and lead to the other
abbrev pub ReplaysAll : Serving → List Piece → Serving → Type 0
ReplaysAll first ps last = Replays first.content (joined ps) last.content

-- ---- of one connection

-- what it asked
abbrev pub asked_by : ℕ → List Answered → List Event
asked_by c xs = events_of (entries_of c xs)

-- the frames of the answers of entries, one after the other
abbrev pub frames_of : List Answered → List ℕ
frames_of xs = flat_map (λ x. answer_frame x.event.conn x.reply) xs

-- the frames of its answers
abbrev pub frames_for : ℕ → List Answered → List ℕ
frames_for c xs = flat_map (λ x. answer_frame x.event.conn x.reply) (entries_of c xs)

-- the names of its entries, where the first of all these is at that index of the segment
abbrev pub named_in : ℕ → ℕ → ℕ → List Answered → List Receipt
named_in c number index [] = []
named_in c number index (x ∷ xs) =
    if x.event.conn == c then receipt number index ∷ named_in c number (index + 1) xs else named_in c number (index + 1) xs

-- the names of its entries in all segments
abbrev pub named_for : ℕ → List Piece → List Receipt
named_for c [] = []
named_for c (p ∷ ps) = named_in c p.number 0 p.entries ++ named_for c ps

-- ---- what holds once all are served, before the frames of their answers are made

-- the new session is of the old one's connection; that connection's entries ask what the old one asks, and the new one has
-- their names
pub record IsNamed (ps : List Piece) (old new : Conversation) : Type 0 where
  pub connection : new.connection ≡ old.connection
  pub asked : asked_by old.connection (joined ps) ≡ old.events
  pub receipts : new.receipts ≡ named_for old.connection ps

-- each of them, one by one
pub record AreNamed (ps : List Piece) (olds news : List Conversation) : Type 0 where
  pub count : length news ≡ length olds
  pub each : (k : ℕ) (d : Conversation) → k < length olds → IsNamed ps (slice_index_or olds k d) (slice_index_or news k d)

-- they have the names of their entries, and the same messages
pub record AreServedByName (ps : List Piece) (olds news : List Conversation) : Type 0 where
  pub named : AreNamed ps olds news
  pub messages : (k : ℕ) (d : Conversation) → k < length olds → (slice_index_or news k d).events ≡ (slice_index_or olds k d).events

-- ---- what holds once all are served

-- the new session is of the old one's connection; that connection's entries ask what the old one asks, and the new one has
-- their answers and their names
pub record IsAnswered (ps : List Piece) (old new : Conversation) : Type 0 where
  pub connection : new.connection ≡ old.connection
  pub asked : asked_by old.connection (joined ps) ≡ old.events
  pub replies : new.replies ≡ frames_for old.connection (joined ps)
  pub receipts : new.receipts ≡ named_for old.connection ps

-- each of them, one by one
pub record AreAnswered (ps : List Piece) (olds news : List Conversation) : Type 0 where
  pub count : length news ≡ length olds
  pub each : (k : ℕ) (d : Conversation) → k < length olds → IsAnswered ps (slice_index_or olds k d) (slice_index_or news k d)

-- they are answered, and have the same messages
pub record AreServed (ps : List Piece) (olds news : List Conversation) : Type 0 where
  pub answered : AreAnswered ps olds news
  pub messages : (k : ℕ) (d : Conversation) → k < length olds → (slice_index_or news k d).events ≡ (slice_index_or olds k d).events

-- a session with the messages of another
abbrev pub with_messages_of : Conversation → Conversation → Conversation
with_messages_of s other = record s { events = other.events }

-- each session with the messages of the other one at its place
pub record HaveMessages (olds others news : List Conversation) : Type 0 where
  pub count : length news ≡ length olds
  pub each : (k : ℕ) (d : Conversation) → k < length olds → slice_index_or news k d ≡ with_messages_of (slice_index_or olds k d) (slice_index_or others k d)

-- a session with the frames of its answers in this history
abbrev pub with_frames_of : List Piece → Conversation → Conversation
with_frames_of ps s = record s { replies = frames_for s.connection (joined ps) }

-- each session with the frames of its answers
pub record HaveFrames (ps : List Piece) (olds news : List Conversation) : Type 0 where
  pub count : length news ≡ length olds
  pub each : (k : ℕ) (d : Conversation) → k < length olds → slice_index_or news k d ≡ with_frames_of ps (slice_index_or olds k d)

-- the entries are the sessions' messages, each once and in its session's order, and there are no others
abbrev pub Merges : List Conversation → List Piece → Type 0
Merges sessions ps = IsMerge (joined ps) (map asked sessions)

-- ---- errors

-- the first error among what several gave back
abbrev pub first_error : {T E : Type 0} → List (Result T E) → Option E
first_error [] = None
first_error (Ok t ∷ rs) = first_error rs
first_error (Err e ∷ rs) = Some e
