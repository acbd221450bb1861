-- What refuses a read of what is owed.
use Rattle.std.specs.Prelude.{ℕ, List, Option}
use Rattle.pps_types.specs.declared.refusal.Refusal.{Refusal}
use Rattle.pps_types.specs.History.{Entry}
use Rattle.server_queue.specs.Blocks.{queue_blocks}
use Rattle.server_queue.specs.Given as given

-- the first block does not fit
abbrev pub read_refusal : List Entry → ℕ → Option Refusal
read_refusal owed max = given.refused_for max (queue_blocks owed)

-- how long the first block is
abbrev pub first_len : List Entry → ℕ
first_len owed = given.first_len (queue_blocks owed)
