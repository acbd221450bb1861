-- What an open fixes for a handle, and which target it is on, as the definitions have it.
use Rattle.std.specs.Prelude.{◌≡◌, ℕ, Bool, true, false, ◌&&◌, ◌||◌, List, [], Option, None, option_map, find, ◌==◌}
use Rattle.std.specs.Option.{option_copied}
use Rattle.std.specs.Borrow.{Bor}
use Rattle.pps_types.specs.declared.found.Found.{Found}
use Rattle.pps_types.specs.declared.found.Found.TheVariants.{Object as FoundObject, Directory as FoundDirectory}
use Rattle.pps_types.specs.declared.handle_kind.HandleKind.{HandleKind}
use Rattle.pps_types.specs.History.{Entry}
use Rattle.pps_types.specs.Reading.{OpenHandle, Style, Queue, reseen, style, is_full_style, is_delta_style, is_directory_kind, visible}
use Rattle.pps_types.specs.Rests.{Progress}
use Rattle.pps_types.specs.Owed.{same_flag}
use Rattle.open_options.specs.Seen.{handle_options_seen}
use Rattle.sub_reader.specs.declared.opening.Opening.{Opening}
use Rattle.sub_reader.specs.declared.opening.Pulse.{Pulse}

abbrev pub is_directory : Found → Bool
is_directory (FoundObject number) = false
is_directory (FoundDirectory number) = true

abbrev pub number_of : Found → ℕ
number_of (FoundObject number) = number
number_of (FoundDirectory number) = number

-- a handle on the target of that number and name, before it has read
abbrev pub opened : ℕ → List ℕ → Opening → OpenHandle (Unit {0})
opened target name o = record { number = o.number; connection = o.connection; target = target; name = name; kind = o.kind; reads = o.reads; writes = o.writes; options = handle_options_seen o.options; limit = o.limit; seen = tt; parked = None; armed = None }

abbrev pub armed_pulse : Option Pulse → Option (ℕ × ℕ)
armed_pulse armed = option_map (λ p. (p.code, p.value)) armed

-- it reads an object or a directory, in full or in delta mode, and is no server's or client's
abbrev pub is_reader : HandleKind → Bool
is_reader kind = is_full_style (style kind) || is_delta_style (style kind)

abbrev pub is_queue_style : Style → Bool
is_queue_style Queue = true
is_queue_style s = false

-- a handle of that kind may be opened on a server object, and on a plain one or a directory
abbrev pub suits : HandleKind → Bool → Bool → Bool
suits kind directory true = is_queue_style (style kind)
suits kind directory false = is_reader kind && same_flag (is_directory_kind kind) directory

-- what its open fixed of a handle
abbrev pub as_opened : OpenHandle Progress → OpenHandle (Unit {0})
as_opened handle = record (reseen (λ x. tt) handle) { parked = None; armed = None }

-- the handle of that number
abbrev pub handle_at : ℕ → List (OpenHandle Progress) → Option (OpenHandle Progress)
handle_at number handles = find (λ handle. handle.number == number) handles

-- what an open fixed of the handle of a number, if it is among those on the target of that number and name
abbrev pub IsOpeningAt : ℕ → ℕ → List ℕ → List (OpenHandle Progress) → Option (Bor Opening) → Type 0
IsOpeningAt number target name handles opening =
    option_map (opened target name) (option_copied opening) ≡ option_map as_opened (handle_at number handles)

-- a handle that was opened so, on the target of that number, is given a record
abbrev pub visible_to : ℕ → Opening → Entry → Bool
visible_to target o = visible (opened target [] o)

-- ---- two openings

-- the same handle, of the same kind and limit
abbrev pub HasSameHandle : Opening → Opening → Type 0
HasSameHandle one other =
    (one.number ≡ other.number) × (one.connection ≡ other.connection) × (one.kind ≡ other.kind) × (one.limit ≡ other.limit)

-- open for the same: reading, writing or both
abbrev pub HasSameUse : Opening → Opening → Type 0
HasSameUse one other = (one.reads ≡ other.reads) × (one.writes ≡ other.writes)
