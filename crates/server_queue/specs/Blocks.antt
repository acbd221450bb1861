-- What records look like in a queue, which has none but those that its handle is given.
use Rattle.std.specs.Prelude.{ℕ, List, ◌++◌, map}
use Rattle.std.specs.declared.collections.VecDeque.{VecDeque}
use Rattle.pps_types.specs.History.{Entry}
use Rattle.pps_types.specs.Reading.{print_shown}
use Rattle.pps_block.specs.Queue.{queue_shown}

abbrev pub queue_block : Entry → List ℕ
queue_block e = print_shown e.name (queue_shown e.record_of.kind)

abbrev pub queue_blocks : List Entry → List (List ℕ)
queue_blocks entries = map queue_block entries

module _ {A : Type 0} where
  -- the blocks of what is owed and, after that, of more records
  abbrev pub blocks_with : VecDeque Entry A → List Entry → List (List ℕ)
  blocks_with owed extra = queue_blocks (owed.items ++ extra)
