-- What closing handles begin with, by what is told of them.
use Rattle.std.specs.Prelude.{ℕ, List, [], ◌∷◌, Bool, Option, is_some, map}
use Rattle.std.specs.Option.{option_map_or}
use Rattle.std.specs.List.{flat_map}
use Rattle.pps_types.specs.History.{Entry}
use Rattle.pps_types.specs.Reading.{OpenHandle}
use Rattle.pps_types.specs.Rests.{Progress}
use Rattle.pps_types.specs.Content.{Content, own_handle, handles_of}
use Rattle.service_state.specs.declared.beginning.Beginning.{Beginning}
use Rattle.service_state.specs.declared.beginning.Beginning.TheVariants.{Closes}
use Rattle.service_state.specs.Begun.{telling}
use Rattle.service_state.specs.Tables.{Tabled, content_in}
use Rattle.handle_requests.specs.Told.{told_behind}

-- a handle closes, and its record is told
abbrev pub begun : ℕ → ℕ → Bool → Option Entry → List Beginning
begun conn handle parked told = Closes conn handle parked ∷ telling told

-- a connection's own handle of that number closes behind those of lower numbers
abbrev pub begun_behind : Content → ℕ → ℕ → List Beginning
begun_behind c conn number =
    option_map_or (λ (handle : OpenHandle Progress). begun conn number (is_some handle.parked) (told_behind c conn handle)) (own_handle c conn number) []

-- what the close of all of a connection's handles begins with, in rising number
abbrev pub begun_by : Tabled → ℕ → List Beginning
begun_by t conn = flat_map (begun_behind (content_in t) conn) (map (λ handle. handle.number) (handles_of (content_in t) conn))
