-- Sessions, and when one history is a merge of them. Own.
use Rattle.std.specs.Prelude.{◌≡◌, ℕ, List, [], ◌∷◌, ◌++◌, Bool, true, not, ◌&&◌, ◌==◌, if◌then◌else◌, All, filter}
use Rattle.std.specs.List.{list_any, list_all}
use Rattle.pps_types.specs.declared.event.Event.{Event}
use Rattle.pps_types.specs.Runs.{Answered, events_of}

-- what one connection sends, in order
pub record Session : Type 0 where
  pub connection : ℕ
  pub events : List Event

-- the entries of a connection, in order
abbrev pub entries_of : ℕ → List Answered → List Answered
entries_of connection trace = filter (λ x. x.event.conn == connection) trace

-- each entry is of some session's connection, and each session's events stand in the trace, each once and in their order
pub record IsMerge (trace : List Answered) (sessions : List Session) : Type 0 where
  pub known : list_all (λ x. list_any (λ s. s.connection == x.event.conn) sessions) trace ≡ true
  pub each : All (λ s. events_of (entries_of s.connection trace) ≡ s.events) sessions

-- no connection stands twice
abbrev pub are_distinct : List ℕ → Bool
are_distinct [] = true
are_distinct (c ∷ cs) = not (list_any (λ d. d == c) cs) && are_distinct cs

-- one more event of its connection's session
abbrev pub with_event : Event → Session → Session
with_event e s = if s.connection == e.conn then record s { events = s.events ++ e ∷ [] } else s
