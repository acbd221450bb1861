-- Whom a server's header names, as the definitions have it.
use Rattle.std.specs.Prelude.{◌&&◌, ◌==◌, ℕ, List, Bool, false, not, Option}
use Rattle.std.specs.Option.{option_map_or}
use Rattle.pps_types.specs.Bytes.{same, is_empty}
use Rattle.pps_types.specs.Reading.{OpenHandle}
use Rattle.pps_types.specs.Rests.{Progress}
use Rattle.pps_types.specs.Content.{Content}
use Rattle.pps_types.specs.Checks as checking
use Rattle.pps_types.specs.Checks.{Check, is_client, meant, client_checks}
use Rattle.sub_reader.specs.Opened.{number_of}
use Rattle.open_handles.specs.declared.handles.Opened.{Opened}
use Rattle.handle_requests.specs.declared.address.Recipient.{Recipient}
use Rattle.handle_requests.specs.declared.address.Recipient.TheVariants.{Everyone, OneClient, Nobody}

abbrev pub addressee_of : Recipient → checking.Addressee
addressee_of Everyone = checking.Everyone
addressee_of (OneClient id) = checking.OneClient id
addressee_of Nobody = checking.Nobody

-- there is a header, and it is not the object's own name
abbrev pub is_foreign : List ℕ → Option (List ℕ) → Bool
is_foreign name header = option_map_or (λ h. not (same h name)) header false

-- ---- clients of an object

-- it is a client's handle on the object of that number
abbrev pub is_client_of : Opened → ℕ → Bool
is_client_of o object = is_client o.opening.now.kind && (number_of o.found == object)

-- the object has an open client of that number
abbrev pub has_client : Content → ℕ → ℕ → Bool
has_client c object id = not (is_empty (meant c object (checking.OneClient id)))

-- the clients that a message of its server is for
abbrev pub recipients : Content → ℕ → Recipient → List (OpenHandle Progress)
recipients c object to = meant c object (addressee_of to)

-- the checks of whom a header names
abbrev pub recipient_checks : Content → ℕ → Recipient → List Check
recipient_checks c object to = client_checks c object (addressee_of to)
