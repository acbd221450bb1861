-- Who has not read enough of a server object's messages.
use Rattle.std.specs.Prelude.{ℕ, List, [], ◌∷◌, ◌++◌, Bool, nat_le, if◌then◌else◌, Option, option_map, option_and_then, find}
use Rattle.std.specs.Option.{option_map_or}
use Rattle.pps_types.specs.declared.refusal.Refusal.TheVariants.{Backlogged}
use Rattle.pps_types.specs.Reading.{OpenHandle}
use Rattle.pps_types.specs.Rests.{Progress}
use Rattle.pps_types.specs.Content.{Content, object_numbered, handle_numbered}
use Rattle.pps_types.specs.Checks.{Check, Refuse, is_server_message, is_message_of, count_owed, client_backlog}
use Rattle.handle_requests.specs.declared.address.Recipient.{Recipient}
use Rattle.handle_requests.specs.Addressed.{recipients, recipient_checks}

-- a client that is owed as many messages as its limit
abbrev pub is_behind : OpenHandle Progress → Bool
is_behind handle = nat_le handle.limit (count_owed is_server_message handle)

-- the handle that owns an object, where it is a server's
abbrev pub server_in : Content → ℕ → Option ℕ
server_in c object = option_and_then (λ o. o.object.server) (object_numbered c object)

-- a client's message is refused where the server is owed as many of that client as its limit
abbrev pub server_checks : Content → ℕ → ℕ → List Check
server_checks c object client =
    option_map_or (λ s. Refuse (nat_le s.limit (count_owed (is_message_of client) s)) (Backlogged s.number) ∷ [])
    (option_and_then (λ o. option_and_then (handle_numbered c) o.object.server) (object_numbered c object)) []

-- ---- a server's message

-- the number of the first of these clients that has to read before it can be sent more
abbrev pub first_backlogged : List (OpenHandle Progress) → Option ℕ
first_backlogged handles = option_map (λ (handle : OpenHandle Progress). handle.number) (find is_behind handles)

-- a message is refused where one whom it is for has to read first
abbrev pub backlog_checks : Content → ℕ → Recipient → List Check
backlog_checks c object to = client_backlog (recipients c object to)

-- the checks of a message to these, with lines or without
abbrev pub message_checks : Content → ℕ → Recipient → Bool → List Check
message_checks c object to has_lines = recipient_checks c object to ++ (if has_lines then backlog_checks c object to else [])
