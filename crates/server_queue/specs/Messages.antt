-- How many messages of a sender there are.
use Rattle.std.specs.Prelude.{ℕ, List, Bool, filter, length}
use Rattle.pps_types.specs.History.{Entry}
use Rattle.pps_types.specs.Checks.{is_message_of, is_server_message}
use Rattle.server_queue.specs.declared.sender.Sender.{Sender}
use Rattle.server_queue.specs.declared.sender.Sender.TheVariants.{Server, Client}

abbrev pub is_from : Sender → Entry → Bool
is_from Server = is_server_message
is_from (Client id) = is_message_of id

abbrev pub message_count : Sender → List Entry → ℕ
message_count from owed = length (filter (is_from from) owed)
