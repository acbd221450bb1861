-- Scripts that are served together: the one history of their messages, and what is printed of it. Own.
use Rattle.std.specs.Prelude.{◌≡◌, ◌⊎◌, ℕ, ◌+◌, ◌-◌, ◌^◌, ◌<◌, min, true, List, length, slice_index_or, Option}
use Rattle.std.specs.Io.KnownBytes.{Appends, Keeps}
use Rattle.pps_types.specs.Content.{Content}
use Rattle.pps_types.specs.Machine.{start}
use Rattle.pps_types.specs.Merge.{are_distinct}
use Rattle.pps_types.specs.Stands.{Stands}
use Rattle.pps_types.specs.Writing.{SendsPart}
use Rattle.pps_lock.specs.Trace.{Piece, Replays}
use Rattle.pps_dispatch.specs.Sessions.{Conversation}
use Rattle.pps_dispatch.specs.History.{joined, Joins, Merges}
use Rattle.pps_dispatch.specs.Scripts.{IsSessionOf}
use Rattle.pps_dispatch.specs.Printed.{sessions_text, connections_of}

-- ---- the sessions

-- the connection of the session at that place: its number, counted from 1, as far as those of connections go
abbrev pub connection_at : ℕ → ℕ
connection_at k = min (k + 1) (2 ^ 16 - 1)

-- the session is that of a script
abbrev pub IsOfScript : ℕ → Conversation → Type 0
IsOfScript connection session = (text : List ℕ) × IsSessionOf connection text session

-- each session is, and has the connection of its place
pub record AreOfScripts (sessions : List Conversation) : Type 0 where
  pub each : (k : ℕ) (d : Conversation) → k < length sessions → IsOfScript (connection_at k) (slice_index_or sessions k d)

-- ---- their history

-- From an empty service the segments follow one another and replay; their entries are the sessions' messages, each once and
-- in its session's order, and no others.
pub record IsHistoryOf (sessions : List Conversation) (history : List Piece) : Type 0 where
  pub first : Content
  pub last : Content
  pub empty : Stands first (start 1 256)
  pub joins : Joins 0 first history last
  pub replays : Replays first (joined history) last
  pub merge : Merges sessions history

-- the sessions of that many scripts, one of each connection, have this history
pub record AreServedAs (scripts_count : ℕ) (sessions : List Conversation) (history : List Piece) : Type 0 where
  pub count : length sessions ≡ scripts_count
  pub scripts : AreOfScripts sessions
  pub distinct : are_distinct (connections_of sessions) ≡ true
  pub served : IsHistoryOf sessions history

-- ---- what is printed

-- of each file in its order, what its session was answered in this history of all
pub record PrintsAll (files : List (List ℕ)) (history : List Piece) (before after : Option (List ℕ)) : Type 0 where
  pub sessions : List Conversation
  pub served : AreServedAs (length files) sessions history
  pub written : Appends before after (sessions_text files (connections_of sessions) (joined history))

-- or a beginning of that, of some history
pub record PrintsPart (files : List (List ℕ)) (before after : Option (List ℕ)) : Type 0 where
  pub sessions : List Conversation
  pub history : List Piece
  pub served : AreServedAs (length files) sessions history
  pub written : SendsPart before after (sessions_text files (connections_of sessions) (joined history))

-- a fault ends it before anything is written, or while it is
abbrev pub PrintsSome : List (List ℕ) → Option (List ℕ) → Option (List ℕ) → Type 0
PrintsSome files before after = Keeps before after ⊎ PrintsPart files before after
