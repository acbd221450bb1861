-- Who sent a message.
use Rattle.std.specs.Prelude.{ℕ, Option, Some, None}
use Rattle.std.specs.Option.{option_map_or}
use Rattle.pps_types.specs.declared.record.Kind.{Kind}
use Rattle.pps_types.specs.declared.record.Kind.TheVariants.{FromClient, ToClient, ToAll}
use Rattle.pps_types.specs.History.{Entry}
use Rattle.server_queue.specs.declared.sender.Sender.{Sender}
use Rattle.server_queue.specs.declared.sender.Sender.TheVariants.{Server, Client}

-- notices are nobody's
abbrev pub sender_of : Kind → Option Sender
sender_of (FromClient id lines) = Some (Client id)
sender_of (ToClient id lines) = Some Server
sender_of (ToAll lines) = Some Server
sender_of kind = None

abbrev pub of_client : Sender → ℕ
of_client Server = 0
of_client (Client id) = 1

-- how many messages of clients it is
abbrev pub client_messages : Kind → ℕ
client_messages kind = option_map_or of_client (sender_of kind) 0

-- how many messages of clients the record is
abbrev pub client_messages_in : Entry → ℕ
client_messages_in e = client_messages e.record_of.kind
