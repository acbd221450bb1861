-- What a handle is given of a record, as it is printed.
use Rattle.std.specs.Prelude.{ℕ, List, Some}
use Rattle.pps_types.specs.Reading.{print_shown}
use Rattle.server_queue.specs.declared.shown.Shown.{Shown}
use Rattle.server_queue.specs.declared.shown.Shown.TheVariants.{Text, Block}

-- the printing of an object of that name
abbrev pub printed_as : List ℕ → Shown → List ℕ
printed_as name (Text text) = text.now
printed_as name (Block block) = print_shown name (Some block)
