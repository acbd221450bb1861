-- What an event answers and does, by the parts of which it is made. Nothing follows from what has such parts.
use Rattle.std.specs.Prelude.{ℕ}
use Rattle.pps_types.specs.declared.outcome.Outcome.{Outcome}
use Rattle.pps_types.specs.declared.outcome.Outcome.TheVariants.{Input, Item}
use Rattle.handle_requests.specs.declared.reading.ReadDone.{ReadDone}
use Rattle.handle_requests.specs.declared.notifying.Notified.{Notified}
use Rattle.pps_engine.specs.declared.doing.Doing.{Doing}
use Rattle.pps_engine.specs.declared.doing.Doing.TheVariants.{Nothing, Reads, Arms, Takes}
use Rattle.pps_engine.specs.declared.done.Done.{Done}

-- a handle is read
abbrev pub reading : ℕ → ℕ → ReadDone → Done
reading conn handle d = record { reply = d.reply; doing = Reads conn handle d.effect }

-- a handle is asked for notices
abbrev pub noticing : ℕ → ℕ → Notified → Done
noticing conn handle n = record { reply = Input n.news; doing = Arms conn handle n.pulse }

-- what is queued first is taken, if it is an item
abbrev pub taken : ℕ → Outcome → Doing
taken conn (Item item) = Takes conn
taken conn reply = Nothing

-- it is received
abbrev pub receiving : ℕ → Outcome → Done
receiving conn reply = record { reply = reply; doing = taken conn reply }
