-- The words in which scripts are written as events. Made by tools/script_theorems.
use Rattle.std.specs.Prelude.{ℕ}
use Rattle.pps_types.specs.declared.event.Event.{Event}
use Rattle.pps_types.specs.declared.event.Request.{Request}

infixl 70 ◌asks◌
-- a connection's request
abbrev pub ◌asks◌ : ℕ → Request → Event
conn asks request = record { conn = conn; request = request }
