-- Handles on a server object that are owed as many messages as their limits.
use Rattle.std.specs.Prelude.{ℕ, Bool, false, ◌&&◌, nat_le, List, Option, option_map, find}
use Rattle.std.specs.Option.{option_map_or}
use Rattle.pps_types.specs.Reading.{OpenHandle}
use Rattle.pps_types.specs.Rests.{Progress}
use Rattle.pps_types.specs.Checks.{is_client, is_message_of, is_server_message, count_owed}
use Rattle.sub_reader.specs.Opened.{handle_at}

-- the server's handle, if it is here, is owed as many messages of a client
abbrev pub is_server_full_at : ℕ → ℕ → List (OpenHandle Progress) → Bool
is_server_full_at server client handles =
    option_map_or (λ (handle : OpenHandle Progress). nat_le handle.limit (count_owed (is_message_of client) handle)) (handle_at server handles) false

-- a client's handle, if it is here, is owed as many messages of its server
abbrev pub is_client_full_at : ℕ → List (OpenHandle Progress) → Bool
is_client_full_at client handles =
    option_map_or (λ (handle : OpenHandle Progress). nat_le handle.limit (count_owed is_server_message handle)) (handle_at client handles) false

-- the first client that is
abbrev pub full_client_in : List (OpenHandle Progress) → Option ℕ
full_client_in handles =
    option_map (λ (handle : OpenHandle Progress). handle.number)
    (find (λ (handle : OpenHandle Progress). is_client handle.kind && nat_le handle.limit (count_owed is_server_message handle)) handles)
