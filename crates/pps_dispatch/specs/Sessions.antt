-- Sessions, and the bytes that make them.
use Rattle.std.specs.Prelude.{◌≡◌, ◌≢◌, ◌⊎◌, ℕ, ◌==◌, Bool, false, List, [], All}
use Rattle.std.specs.List.{list_all, list_any}
use Rattle.pps_types.specs.declared.event.Event.{Event}
use Rattle.pps_types.specs.declared.refusal.Refusal.{Refusal}
use Rattle.pps_types.specs.declared.refusal.Refusal.TheVariants.{OutOfMemory, BadFrame, BadArgument}
use Rattle.pps_types.specs.Frame.{HasFrame, stream_of}
use Rattle.pps_types.specs.Merge.{Session}
use Rattle.pps_lock.specs.declared.book.Receipt.{Receipt}

-- a session, as callers see it: its messages, and what it was answered so far
pub record Conversation : Type 0 where
  pub connection : ℕ
  pub events : List Event
  pub replies : List ℕ
  pub receipts : List Receipt

-- what it asks
abbrev pub asked : Conversation → Session
asked s = record { connection = s.connection; events = s.events }

-- nothing of it is answered yet
abbrev pub unanswered : ℕ → List Event → Conversation
unanswered connection events = record { connection = connection; events = events; replies = []; receipts = [] }

-- whether one of them has this connection
abbrev pub is_known : List Conversation → ℕ → Bool
is_known sessions connection = list_any (λ s. s.connection == connection) sessions

-- ---- bytes

-- whether each event is of this connection
abbrev pub are_of : ℕ → List Event → Bool
are_of connection events = list_all (λ e. e.conn == connection) events

-- the bytes are the frames of these events, one behind the other
pub record AreFrames (bytes : List ℕ) (events : List Event) : Type 0 where
  pub fit : All HasFrame events
  pub bytes_are : bytes ≡ stream_of events []

-- they are whole frames, and one of them is of another connection
pub record HasStranger (connection : ℕ) (bytes : List ℕ) : Type 0 where
  pub events : List Event
  pub frames : AreFrames bytes events
  pub stranger : are_of connection events ≡ false

-- they are whole frames of no events at all
abbrev pub AreNoFrames : List ℕ → Type 0
AreNoFrames bytes = (events : List Event) → All HasFrame events → bytes ≢ stream_of events []

-- why they are refused as frames
abbrev pub RefusesFrames : List ℕ → Refusal → Type 0
RefusesFrames bytes r = (r ≡ OutOfMemory) ⊎ ((r ≡ BadFrame) × AreNoFrames bytes)

-- why they are refused as the frames of a session
abbrev pub RefusesSession : ℕ → List ℕ → Refusal → Type 0
RefusesSession connection bytes r =
    (r ≡ OutOfMemory) ⊎ ((r ≡ BadFrame) × AreNoFrames bytes) ⊎ ((r ≡ BadArgument) × HasStranger connection bytes)
