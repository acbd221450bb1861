-- The entries of a history by their names.
use Rattle.std.specs.Prelude.{◌≡◌, List, map, Option, Some, option_and_then, slice_get}
use Rattle.pps_types.specs.Merge.{entries_of}
use Rattle.pps_types.specs.Runs.{Answered}
use Rattle.pps_lock.specs.declared.book.Receipt.{Receipt}
use Rattle.pps_lock.specs.Trace.{Piece}
use Rattle.pps_dispatch.specs.History.{joined}
use Rattle.pps_dispatch.specs.Sessions.{Conversation}

-- the entry that has this name, if there is one
abbrev pub entry_named : List Piece → Receipt → Option Answered
entry_named ps name = option_and_then (λ p. slice_get p.entries name.index) (slice_get ps name.segment)

-- the session's receipts name its connection's entries: all of them, in their order
abbrev pub Names : List Piece → Conversation → Type 0
Names ps s = map (entry_named ps) s.receipts ≡ map Some (entries_of s.connection (joined ps))
