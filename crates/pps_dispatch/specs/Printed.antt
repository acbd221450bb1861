-- What is printed of sessions that were served, and of their history. Own.
use Rattle.std.specs.Prelude.{ℕ, List, [], ◌∷◌, ◌++◌, false, map, codes, decimal}
use Rattle.std.specs.List.{flat_map}
use Rattle.pps_types.specs.Merge.{entries_of}
use Rattle.pps_types.specs.Runs.{Answered}
use Rattle.pps_dispatch.specs.Sessions.{Conversation}
use Rattle.script_text.specs.Script.{answers_of}

-- ---- sessions

-- `session`, the connection and the file's name
abbrev pub session_line : ℕ → List ℕ → List ℕ
session_line connection file = codes "session " ++ decimal connection ++ codes " " ++ file ++ codes "\n"

-- that line, and the answers to the connection's entries of the history, in its order, as a script's are printed
abbrev pub session_text : ℕ → List ℕ → List Answered → List ℕ
session_text connection file history = session_line connection file ++ answers_of false (entries_of connection history)

-- the same of each file and the connection at its place, in their order
abbrev pub sessions_text : List (List ℕ) → List ℕ → List Answered → List ℕ
sessions_text [] connections history = []
sessions_text (file ∷ files) [] history = []
sessions_text (file ∷ files) (connection ∷ connections) history =
    session_text connection file history ++ sessions_text files connections history

abbrev pub connections_of : List Conversation → List ℕ
connections_of sessions = map (λ s. s.connection) sessions

-- ---- the history

-- the connection of each entry, one a line
abbrev pub history_text : List Answered → List ℕ
history_text history = flat_map (λ x. decimal x.event.conn ++ codes "\n") history

-- ---- to a device over a writer
