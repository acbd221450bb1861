-- An outbox after it changed.
use Rattle.std.specs.Prelude.{ℕ}
use Rattle.pps_types.specs.Outbox.{Outbox, with_pulse, behind_first}

-- a pulse of this code and value is armed on the handle, in place of the one that was
abbrev pub newly_armed : Outbox → ℕ → ℕ → ℕ → Outbox
newly_armed box handle code value = with_pulse box handle (code, value)

-- the item that was queued first is taken
abbrev pub without_first_item : Outbox → Outbox
without_first_item box = record box { items = behind_first box.items }
