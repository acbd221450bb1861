-- Moves that let a connection's queue only grow. Own.
use Rattle.std.specs.Prelude.{ℕ, Bool, true, not, ◌==◌}
use Rattle.pps_types.specs.Plan.{Move, Attaches, Leaves, Takes}

-- a move that takes nothing from the queue of that connection, and neither begins nor ends it
abbrev pub keeps_queue : ℕ → Move → Bool
keeps_queue conn (Attaches to) = not (to == conn)
keeps_queue conn (Leaves to) = not (to == conn)
keeps_queue conn (Takes to) = not (to == conn)
keeps_queue conn _ = true
